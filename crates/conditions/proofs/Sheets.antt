-- Sheets, proved of the definitions and of the calls.
-- Assumes nothing.
use mathlib.Core.Path.{◌≡◌, refl, sym, ap, ◌∙◌}
use mathlib.Core.Bool.{Bool, true, cond, not}
use mathlib.Core.List.{List, [], ◌∷◌, ◌++◌}
use Prim.Native.Nat.{ℕ, ◌^◌, ◌<◌}
use lib.Dec.{ltb}
use lib.ListN.{length, replicate}
use Rattle.changes.specs.Lists.{Map}
use Rattle.answers.specs.Check.{Answered}
use Rattle.answers.specs.declared.answer.Answer.TheVariants.{Done}
use Rattle.answers.specs.Check.{Check}
use Rattle.std.proofs.Common.{Ok, Err}
use Rattle.answers.specs.declared.call.Call.TheVariants.{Reset}
use Rattle.answers.specs.declared.call.Format.{Format}
use Rattle.answers.specs.declared.call.Format.TheVariants.{Image, Sheet}
use Rattle.answers.specs.declared.call.Reset.TheVariants.{Load}
use Rattle.answers.specs.declared.ground.Ground.TheVariants.{BadImage, TableFull}
use Rattle.answers.specs.Answers.{said_by, is_accepted}
use Rattle.answers.specs.First.{met, first}
use Rattle.image.specs.Image.{image_of}
use Rattle.sheet.specs.Sheet.{sheet_of}
use Rattle.sheet.proofs.Theorems.{rows_of-Map, price_in_rows, one_sheet}
use Rattle.formats.specs.Formats.{bytes_for}
use Rattle.formats.proofs.Laws.{written_reads_back}
use Rattle.layout.specs.declared.head.Head.{Head}
use Rattle.snapshot.specs.Snapshots.{fresh_grounds}
use Rattle.views.specs.Laid.{padded}
use Rattle.snapshot.specs.Fresh.{fresh_head}
use Rattle.answers.specs.Counts.{tally_after}
use Rattle.calls.specs.Lent.{lent, with_store, Left, settled_by}
use Rattle.calls.specs.Meaning.{performed}
use Rattle.unit.specs.Carried.{Carried}
use Rattle.head_words.specs.HeadWords.{head_of, words_of}
use Rattle.lent.specs.Codes.{code_of}
use Rattle.lent.specs.Lent.{tally_of, tally_words}
use Rattle.history.specs.Plain.{load_of}
use Rattle.conditions.specs.CCalls.{Memory, Result, CallOfC, memory_in}
use Rattle.conditions.specs.Serving.{Seen, CallOfServe, handed, loading}
use Rattle.conditions.specs.Sheets.{Sheets}

-- a load by its check, of a map and a number, in bytes that it leaves as they are
module _ (T J W : List ℕ) (H : Head) (depth : ℕ) where
  abbrev check_by : Bool → List ℕ → Check
  check_by t map =
      first (fresh_grounds (length T) (length J) depth ++ (met (not t) BadImage ∷ met (ltb (length T) (length map)) TableFull ∷ []))

  abbrev left_by : Check → List ℕ → ℕ → List ℕ → Left
  left_by c map n b =
      let l = lent T J W b H in
      settled_by c
      (record {
        answer = (Ok Done);
        lent = with_store l (padded (length T) map) (replicate (length J) 0)
            (fresh_head (length map) n depth);
      }) l

  -- the format matters no more than by the test, the map and the number
  load_by : (f : Format) (n : ℕ) (m : List ℕ) → n < 2 ^ 32 → length m < 2 ^ 16 → Map m
      → performed (lent T J W (bytes_for f n m) H) (Reset (Load depth f)) ≡ left_by (check_by true m) m n (bytes_for f n m)
  load_by f n m small short h =
      let b = bytes_for f n m in
      let back = written_reads_back f n m small short h in
      λ i. left_by (check_by (back.0 i) (back.2 i)) (back.2 i) (back.1 i) b

  -- and what is left of store and head does not go by the bytes
  head_by : (c : Check) (map : List ℕ) (n : ℕ) (a b : List ℕ) → (left_by c map n a).lent.head ≡ (left_by c map n b).lent.head
  head_by (Ok tt) map n a b = refl
  head_by (Err g) map n a b = refl

  table_by : (c : Check) (map : List ℕ) (n : ℕ) (a b : List ℕ) → (left_by c map n a).lent.table ≡ (left_by c map n b).lent.table
  table_by (Ok tt) map n a b = refl
  table_by (Err g) map n a b = refl

  journal_by : (c : Check) (map : List ℕ) (n : ℕ) (a b : List ℕ) → (left_by c map n a).lent.journal ≡ (left_by c map n b).lent.journal
  journal_by (Ok tt) map n a b = refl
  journal_by (Err g) map n a b = refl

  module _ (n : ℕ) (m : List ℕ) (small : n < 2 ^ 32) (short : length m < 2 ^ 16) (h : Map m) where
    abbrev sheet : Left
    sheet = performed (lent T J W (sheet_of n m) H) (Reset (Load depth Sheet))

    abbrev image : Left
    image = performed (lent T J W (image_of n m) H) (Reset (Load depth Image))

    pub answers_alike : sheet.answer ≡ image.answer
    answers_alike =
        ap (λ (l : Left). l.answer) (load_by Sheet n m small short h)
        ∙ sym (ap (λ (l : Left). l.answer) (load_by Image n m small short h))

    pub heads_alike : sheet.lent.head ≡ image.lent.head
    heads_alike =
        ap (λ (l : Left). l.lent.head) (load_by Sheet n m small short h)
        ∙ head_by (check_by true m) m n (sheet_of n m) (image_of n m)
        ∙ sym (ap (λ (l : Left). l.lent.head) (load_by Image n m small short h))

    pub tables_alike : sheet.lent.table ≡ image.lent.table
    tables_alike =
        ap (λ (l : Left). l.lent.table) (load_by Sheet n m small short h)
        ∙ table_by (check_by true m) m n (sheet_of n m) (image_of n m)
        ∙ sym (ap (λ (l : Left). l.lent.table) (load_by Image n m small short h))

    pub journals_alike : sheet.lent.journal ≡ image.lent.journal
    journals_alike =
        ap (λ (l : Left). l.lent.journal) (load_by Sheet n m small short h)
        ∙ journal_by (check_by true m) m n (sheet_of n m) (image_of n m)
        ∙ sym (ap (λ (l : Left). l.lent.journal) (load_by Image n m small short h))

module _ (k : Carried) (depth : ℕ) (words : List ℕ) (n : ℕ) (m : List ℕ) (s t : Seen) (small : n < 2 ^ 32)
    (short : length m < 2 ^ 16) (h : Map m)
    (f : CallOfServe k (loading words (load_of depth Sheet (sheet_of n m))) s)
    (g : CallOfServe k (loading words (load_of depth Image (image_of n m))) t) where
  pub serves_alike : (s.reply ≡ t.reply) × (handed s ≡ handed t)
  serves_alike =
      let answer = answers_alike k.table k.journal words k.head depth n m small short h in
      let head = heads_alike k.table k.journal words k.head depth n m small short h in
      let table = tables_alike k.table k.journal words k.head depth n m small short h in
      let journal = journals_alike k.table k.journal words k.head depth n m small short h in
      let reply : s.reply ≡ t.reply = f.0.0 ∙ (λ i. record { answer = answer i; head = head i }) ∙ sym g.0.0 in
      let tally : s.tally ≡ t.tally =
      f.1
      ∙ ap (tally_after k.tally k.head.checkpoint k.head.tip (Reset (Load depth Image))) answer
      ∙ sym g.1
      in
      let tables : s.table ≡ t.table = f.2 ∙ table ∙ sym g.2 in
      let journals : s.journal ≡ t.journal = f.3 ∙ journal ∙ sym g.3 in
      (reply, λ i. record { tally = tally i; table = tables i; journal = journals i; head = (reply i).head })

module _ (m : Memory) (depth : ℕ) (words : List ℕ) (n : ℕ) (map : List ℕ) (r q : Result) (small : n < 2 ^ 32) (short : length map < 2 ^ 16)
    (h : Map map) (c : CallOfC m (loading words (load_of depth Sheet (sheet_of n map))) r)
    (d : CallOfC m (loading words (load_of depth Image (image_of n map))) q) where
  pub c_alike : (r.code ≡ q.code) × (r.memory ≡ q.memory)
  c_alike =
      let before = head_of m.head in
      let answer = answers_alike m.table m.journal words before depth n map small short h in
      let head = heads_alike m.table m.journal words before depth n map small short h in
      let f = c.promise.0 in
      let g = d.promise.0 in
      let tables : r.memory.table ≡ q.memory.table =
      f.1 ∙ tables_alike m.table m.journal words before depth n map small short h ∙ sym g.1 in
      let journals : r.memory.journal ≡ q.memory.journal =
      f.2 ∙ journals_alike m.table m.journal words before depth n map small short h ∙ sym g.2 in
      let heads : r.memory.head ≡ q.memory.head =
      f.3 ∙ (λ i. cond (is_accepted (answer i)) (words_of (head i)) m.head) ∙ sym g.3 in
      let tallies : r.memory.tally ≡ q.memory.tally =
      f.4
      ∙ ap (λ (a : Answered). tally_words
      (tally_after (tally_of m.tally) before.checkpoint before.tip (Reset (Load depth Image)) a)) answer
      ∙ sym g.4
      in
      (f.0 ∙ ap (λ (a : Answered). code_of (said_by a)) answer ∙ sym g.0, λ i. memory_in (tables i) (journals i) (heads i) (tallies i))

pub sheets : Sheets
sheets = record {
  rows_of_map = rows_of-Map;
  price_in_rows = price_in_rows;
  one_sheet = one_sheet;
  load_alike = serves_alike;
  c_load_alike = c_alike;
}
