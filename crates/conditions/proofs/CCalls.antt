-- A call of a C function is the call that it hands on, on the store whose head and tally its words hold.
-- Assumes nothing.
use mathlib.Core.Path.{◌≡◌, refl, sym, ap, ◌∙◌}
use mathlib.Core.Bool.{Bool, true, false, cond}
use mathlib.Core.List.{List}
use Prim.Native.Nat.{ℕ, ◌+◌, ◌≤◌, min}
use native.Mathlib.Omega.{arith}
use lib.ListN.{length}
use Rattle.changes.specs.Lists.{All}
use Rattle.answers.specs.Check.{Answered}
use Rattle.answers.specs.declared.answer.Answer.TheVariants.{Done, Quoted, Count}
use Rattle.answers.specs.Check.{Check}
use Rattle.std.proofs.Common.{Ok, Err}
use Rattle.answers.specs.declared.call.Call.{Call}
use Rattle.answers.specs.declared.call.Call.TheVariants.{Reset, Step, Read, Ask}
use Rattle.answers.specs.declared.call.Query.{Query}
use Rattle.answers.specs.declared.call.Reset.{Reset as ResetCall}
use Rattle.answers.specs.declared.ground.Ground.TheVariants.{Lengths, Unsound}
use Rattle.std.proofs.Common.{Option, Some, None}
use Rattle.answers.specs.Answers.{said_by, is_accepted, said_by_price, said_by_since, When, is_granted}
use Rattle.answers.specs.Counts.{largest, resets}
use Rattle.big_endian.specs.Bytes.{Byte}
use Rattle.layout.specs.Clauses.{are_lengths}
use Rattle.calls.specs.Lent.{Lent, lent, Left, check_of, settled_by}
use Rattle.calls.specs.Meaning.{meaning, performed}
use Rattle.head_words.specs.HeadWords.{head_of, words_of, is_head, Fits}
use Rattle.head_words.proofs.Theorems.{head_back, head_words_fit, words_Fits}
use Rattle.unit.specs.Carried.{Carried, Asked, lent_to, next}
use Rattle.unit.specs.Serve.{tally_on}
use Rattle.unit.proofs.Theorems.{others_keep}
use Rattle.lent.specs.Codes.{code_of, value_of, since_of}
use Rattle.lent.specs.Lent.{tests_store, is_fit, tally_of, tally_words, answer_to, table_after, journal_after, words_after, bytes_after}
use Rattle.lent.specs.Lent.{unfit, head_after, tally_words_after}
use Rattle.lent.proofs.Choices.{chosen}
use Rattle.lent.proofs.TallyWords.{tally_words_back}
use Rattle.conditions.specs.Serving.{Of64Bits}
use Rattle.conditions.specs.Runs.{lending}
use Rattle.conditions.specs.CCalls.{Memory, carried_in, Result, ChangesStore, AnswersQuery, Promise, CallOfC}
use Rattle.conditions.proofs.Refusals.{number_range, granted, left_as_came}
use Rattle.conditions.proofs.HeadsFit.{fits_after}

-- the memory that holds what is carried
abbrev pub memory_of : Carried → Memory
memory_of k = record { table = k.table; journal = k.journal; head = words_of k.head; tally = tally_words k.tally }

-- memory that holds what is carried, and nothing that its words could not
pub record StandsFor (m : Memory) (k : Carried) : Type 0 where
  pub is : m ≡ memory_of k
  pub fits : Fits k.head
  pub counts : Of64Bits k.tally

-- a function that is lent a store, where the head's words fit
module _ (m : Memory) (w b : List ℕ) (call : Call) (fit : is_fit m.head call ≡ true) where
  abbrev pub lent_by : Lent
  lent_by = lent m.table m.journal w b (head_of m.head)

  abbrev pub left : Left
  left = performed lent_by call

  pub answer_on : answer_to m.table m.journal w b m.head m.tally call ≡ left.answer
  answer_on = chosen fit _ _

  pub table_on : table_after m.table m.journal w b m.head m.tally call ≡ left.lent.table
  table_on = chosen fit _ _

  pub journal_on : journal_after m.table m.journal w b m.head m.tally call ≡ left.lent.journal
  journal_on = chosen fit _ _

  pub words_on : words_after m.table m.journal w b m.head m.tally call ≡ left.lent.words
  words_on = chosen fit _ _

  pub bytes_on : bytes_after m.table m.journal w b m.head m.tally call ≡ left.lent.bytes
  bytes_on = chosen fit _ _

  pub tally_on_lem : tally_words_after m.table m.journal w b m.head m.tally call
      ≡ tally_words (tally_on (tally_of m.tally) lent_by call)
  tally_on_lem = chosen fit _ _

  -- a head that is accepted goes into its words; one that is refused stands in them already
  head_by : (t : Bool) → is_accepted left.answer ≡ t → (t ≡ false → words_of (head_of m.head) ≡ m.head)
      → cond t (words_of left.lent.head) m.head ≡ words_of left.lent.head
  head_by true e back = refl
  head_by false e back =
      sym (back refl)
      ∙ ap (λ (x : Lent). words_of x.head)
      (sym (left_as_came (meaning lent_by call).accepted lent_by (check_of (meaning lent_by call)) (granted lent_by call) e))

  pub head_on : (is_accepted left.answer ≡ false → words_of (head_of m.head) ≡ m.head)
      → head_after m.table m.journal w b m.head m.tally call ≡ words_of left.lent.head
  head_on back =
      ap (λ (a : Answered). cond (is_accepted a) (words_of left.lent.head) m.head) answer_on
      ∙ head_by (is_accepted left.answer) refl back

-- what such a function answers, and the memory that it leaves
module _ (m : Memory) (words bytes : List ℕ) (r : Result) (call : Call) (p : ChangesStore m words bytes r call)
    (fit : is_fit m.head call ≡ true) where
  pub code_is : r.code ≡ code_of (said_by (performed (lent_to (carried_in m) (lending call words bytes)) call).answer)
  code_is = p.0.0 ∙ ap (λ (a : Answered). code_of (said_by a)) (answer_on m words bytes call fit)

  pub words_are : r.words ≡ (performed (lent_to (carried_in m) (lending call words bytes)) call).lent.words
  words_are = p.1 ∙ words_on m words bytes call fit

  pub bytes_are : r.bytes ≡ (performed (lent_to (carried_in m) (lending call words bytes)) call).lent.bytes
  bytes_are = p.2 ∙ bytes_on m words bytes call fit

  pub since_is : r.since ≡ since_of (said_by (performed (lent_to (carried_in m) (lending call words bytes)) call).answer) r.since_before
  since_is = p.4 ∙ ap (λ (a : Answered). since_of (said_by a) r.since_before) (answer_on m words bytes call fit)

  pub memory_is : (is_accepted (performed (lent_to (carried_in m) (lending call words bytes)) call).answer ≡ false
      → words_of (head_of m.head) ≡ m.head)
      → r.memory ≡ memory_of (next (carried_in m) (lending call words bytes))
  unfolding next
  memory_is back i =
      record {
        table = (p.0.1 ∙ table_on m words bytes call fit) i;
        journal = (p.0.2 ∙ journal_on m words bytes call fit) i;
        head = (p.0.3 ∙ head_on m words bytes call fit back) i;
        tally = (p.0.4 ∙ tally_on_lem m words bytes call fit) i;
      }

-- a function that is lent a store to read, where the head's words fit
module _ (m : Memory) (words bytes : List ℕ) (r : Result) (query : Query) (p : AnswersQuery m words bytes r query)
    (fit : is_head m.head ≡ true) where
  abbrev pub reads : Lent
  reads = lent_to (carried_in m) (lending (Ask query) words bytes)

  pub code_asked : r.code ≡ code_of (said_by (performed reads (Ask query)).answer)
  code_asked = p.0.0 ∙ ap (λ (a : Answered). code_of (said_by a)) (chosen fit _ _)

  pub value_asked : r.value ≡ value_of (said_by (performed reads (Ask query)).answer) r.before
  value_asked = p.0.1 ∙ ap (λ (a : Answered). value_of (said_by a) r.before) (chosen fit _ _)

  pub since_asked : r.since ≡ since_of (said_by (performed reads (Ask query)).answer) r.since_before
  since_asked = p.4 ∙ ap (λ (a : Answered). since_of (said_by a) r.since_before) (chosen fit _ _)

  pub words_asked : r.words ≡ (performed reads (Ask query)).lent.words
  words_asked = p.1 ∙ chosen fit _ _

  pub bytes_asked : r.bytes ≡ (performed reads (Ask query)).lent.bytes
  bytes_asked = p.2 ∙ chosen fit _ _

-- memory that stands for what is carried
module _ (m : Memory) (k : Carried) (w : StandsFor m k) where
  pub carried_is : carried_in m ≡ k
  carried_is =
      ap carried_in w.is
      ∙ (λ i. record {
        tally = tally_words_back k.tally i;
        table = k.table;
        journal = k.journal;
        head = head_back k.head w.fits i;
      })

  pub head_fits : is_head m.head ≡ true
  head_fits = ap (λ (x : Memory). is_head x.head) w.is ∙ head_words_fit k.head w.fits

  pub words_stand : words_of (head_of m.head) ≡ m.head
  words_stand =
      ap (λ (x : Memory). words_of (head_of x.head)) w.is
      ∙ ap words_of (head_back k.head w.fits)
      ∙ sym (ap (λ (x : Memory). x.head) w.is)

  pub call_fits : (call : Call) → is_fit m.head call ≡ true
  call_fits call = either (tests_store call) head_fits
    where
      either : (t : Bool) → is_head m.head ≡ true → cond t (is_head m.head) true ≡ true
      either true e = e
      either false e = refl

-- a query hands on what it was handed
pub query_left : (l : Lent) (query : Query)
    → let left = (performed l (Ask query)).lent in
    (left.table ≡ l.table) × (left.journal ≡ l.journal) × (left.head ≡ l.head)
query_left l query = go (check_of (meaning l (Ask query)))
  where
    go : (c : Check)
        → let left = (settled_by c (meaning l (Ask query)).accepted l).lent in
        (left.table ≡ l.table) × (left.journal ≡ l.journal) × (left.head ≡ l.head)
    go (Ok tt) = (refl, refl, refl)
    go (Err ground) = (refl, refl, refl)

query_next : (k : Carried) (query : Query) (words bytes : List ℕ) → Of64Bits k.tally
    → next k (lending (Ask query) words bytes) ≡ k
unfolding next
query_next k query words bytes c i =
    let l = lent k.table k.journal words bytes k.head in
    let q = query_left l query in
    record {
      tally = others_keep k.tally k.head.checkpoint k.head.tip (Ask query) (performed l (Ask query)).answer
          c.committed c.rolled_back c.flushed refl refl i;
      table = q.0 i;
      journal = q.1 i;
      head = q.2 i;
    }

-- a count of 64 bits stays one
count_small : (accepted anew : Bool) (count more : ℕ) → count ≤ largest
    → cond accepted (cond anew 0 (min (count + more) largest)) count ≤ largest
count_small false anew count more h = h
count_small true true count more h = omega arith
count_small true false count more h = omega arith

counts_small : (k : Carried) (a : Asked) → Of64Bits k.tally → Of64Bits (next k a).tally
unfolding next
counts_small k a c = record {
  committed = count_small (is_accepted (performed (lent_to k a) a.call).answer) (resets a.call) k.tally.committed _ c.committed;
  rolled_back =
      count_small (is_accepted (performed (lent_to k a) a.call).answer) (resets a.call) k.tally.rolled_back _ c.rolled_back;
  flushed = count_small (is_accepted (performed (lent_to k a) a.call).answer) (resets a.call) k.tally.flushed _ c.flushed;
}

next_fits : (k : Carried) (a : Asked) → Fits k.head → All Byte a.bytes → Fits (next k a).head
unfolding next
next_fits k a f b = fits_after (lent_to k a) f b a.call

-- each call leaves memory that stands for what is carried then
module _ (m : Memory) (k : Carried) (r : Result) (w : StandsFor m k) (words bytes : List ℕ) where
  changed : (call : Call) → ChangesStore m words bytes r call → r.memory ≡ memory_of (next k (lending call words bytes))
  changed call p =
      memory_is m words bytes r call p (call_fits m k w call) (λ e. words_stand m k w)
      ∙ ap (λ (x : Carried). memory_of (next x (lending call words bytes))) (carried_is m k w)

  memory_after : (call : Call) → Promise m words bytes r call → r.memory ≡ memory_of (next k (lending call words bytes))
  memory_after (Reset call) p = changed (Reset call) p
  memory_after (Step call) p = changed (Step call) p
  memory_after (Read call) p = changed (Read call) p
  memory_after (Ask query) p = p.3 ∙ w.is ∙ ap memory_of (sym (query_next k query words bytes w.counts))

pub stands_after : (m : Memory) (k : Carried) (a : Asked) (r : Result) → StandsFor m k → CallOfC m a r → StandsFor r.memory (next k a)
stands_after m k a r w c = record {
  is = memory_after m k r w a.words a.bytes a.call c.promise;
  fits = next_fits k a w.fits c.all_bytes;
  counts = counts_small k a w.counts;
}

-- an answer by its code
quote_accepted : (price : Option ℕ) (since : When) → is_granted (said_by_price price since) ≡ true
quote_accepted (Some p) since = refl
quote_accepted None since = refl

pub code_accepted : (answer : Answered) → code_of (said_by answer) ≡ 0 → is_accepted answer ≡ true
code_accepted (Ok Done) e = refl
code_accepted (Ok (Quoted quote)) e = quote_accepted quote.price (said_by_since quote.since)
code_accepted (Ok (Count n)) e = refl
code_accepted (Err ground) e = absurd (omega (arith, (number_range ground).0))

-- a call that sets all anew and is accepted has a head whose words fit, or does not look at them
module _ (m : Memory) (words bytes : List ℕ) (r : Result) where
  pub unfit_code : (t : Bool) (a : Answered) → code_of (said_by (cond t a (unfit (length m.table) (length m.journal)))) ≡ 0 → t ≡ true
  unfit_code true a e = refl
  unfit_code false a e = absurd (go (are_lengths (length m.table) (length m.journal)) e)
    where
      go : (t : Bool) → code_of (said_by (cond t (Err Unsound) (Err Lengths))) ≡ 0 → ⊥
      go true e = omega arith
      go false e = omega arith

  accepted_fit : (call : Call) → ChangesStore m words bytes r call → r.code ≡ 0 → is_fit m.head call ≡ true
  accepted_fit call p e = unfit_code (is_fit m.head call) _ (sym p.0.0 ∙ e)

never : {b : Bool} → b ≡ true → b ≡ false → ⊥
never y n = let z : ◌≡◌ {A = Bool} true false = sym y ∙ n in let z : ◌≡◌ {A = ℕ} 0 1 = cc in omega arith

anew_small : (accepted : Bool) (count more : ℕ) → accepted ≡ true → cond accepted (cond true 0 (min (count + more) largest)) count ≤ largest
anew_small true count more e = omega arith
anew_small false count more e = absurd (never e refl)

counts_anew : (k : Carried) (call : ResetCall) (words bytes : List ℕ)
    → let a = lending (Reset call) words bytes in
    is_accepted (performed (lent_to k a) (Reset call)).answer ≡ true → Of64Bits (next k a).tally
unfolding next
counts_anew k call words bytes e = record {
  committed = anew_small _ k.tally.committed 0 e;
  rolled_back = anew_small _ k.tally.rolled_back 0 e;
  flushed = anew_small _ k.tally.flushed 0 e;
}

module _ (m : Memory) (call : ResetCall) (words bytes : List ℕ) (r : Result)
    (c : CallOfC m (lending (Reset call) words bytes) r) (e : r.code ≡ 0) where
  abbrev anew : Asked
  anew = lending (Reset call) words bytes

  fit_anew : is_fit m.head (Reset call) ≡ true
  fit_anew = accepted_fit m words bytes r (Reset call) c.promise e

  pub accepted_anew : is_accepted (performed (lent_to (carried_in m) anew) (Reset call)).answer ≡ true
  accepted_anew =
      code_accepted (performed (lent_to (carried_in m) anew) (Reset call)).answer
      (sym (code_is m words bytes r (Reset call) c.promise fit_anew) ∙ e)

  pub stands_anew : StandsFor r.memory (next (carried_in m) anew)
  stands_anew = record {
    is = memory_is m words bytes r (Reset call) c.promise fit_anew (λ n. absurd (never accepted_anew n));
    fits = next_fits (carried_in m) anew (words_Fits m.head c.head_words) c.all_bytes;
    counts = counts_anew (carried_in m) call words bytes accepted_anew;
  }
