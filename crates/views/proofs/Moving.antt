-- Marks moved to the start and down by a count of words, and a journal whose first words went.
-- Assumes nothing.
use mathlib.Core.Path.{◌≡◌, sym, ap, ap₂, ◌∙◌}
use mathlib.Core.List.{List, [], ◌∷◌, ◌++◌, map, map-append, append_assoc}
use Prim.Native.Nat.{ℕ, suc, ◌+◌, ◌-◌, ◌≤◌, ◌<◌}
use native.Mathlib.Omega.{arith}
use borrow.Rule.Slice.PartMut.{put_mid}
use lib.ListN.{length, take, drop, get_or, set, replicate, length-append, length-drop, length-map}
use lib.Seq.{take_at, length-take-le}
use Rattle.std.proofs.lemmas.List.{set_at, take_more}
use Rattle.views.specs.Laid.{padded}
use Rattle.changes.specs.Runs.{start_of}
use Rattle.words.proofs.Parts.{part, put_part}
use Rattle.layout.specs.declared.head.Head.{Head}
use Rattle.layout.specs.Heads.{with_floor}
use Rattle.layout.specs.States.{held_of}
use Rattle.views.specs.Trim.{floor_of, gone_steps, gone_words, moved_ends, trimmed_head, trimmed_journal, Trimmable}
use Rattle.layout.proofs.StepTests.{start_next}

-- a word more before the zeros
padded_more : (l : List ℕ) (k n w : ℕ) → length l ≡ k → k < n → set (padded n l) k w ≡ padded n (l ++ w ∷ [])
padded_more l k n w long room =
    let count : n - length l ≡ suc (n - length (l ++ w ∷ [])) = omega (arith, length-append l (w ∷ [])) in
    ap (λ m. set (l ++ replicate m 0) k w) count
    ∙ set_at l 0 (replicate (n - length (l ++ w ∷ [])) 0) w k long
    ∙ sym (append_assoc l (w ∷ []) (replicate (n - length (l ++ w ∷ [])) 0))

-- marks moved down by a count of words, with zeros behind, and one more of them
pub moved_more : (marks : List ℕ) (words k : ℕ) → k < length marks → length marks ≤ 64
    → set (padded 64 (map (λ e. e - words) (take k marks))) k (get_or marks k 0 - words)
    ≡ padded 64 (map (λ e. e - words) (take (k + 1) marks))
moved_more marks words k here few =
    let so_far = map (λ e. e - words) (take k marks) in
    let long : length so_far ≡ k = length-map (take k marks) (λ e. e - words) ∙ length-take-le k marks (omega arith) in
    padded_more so_far k 64 (get_or marks k 0 - words) long (omega arith)
    ∙ ap (padded 64) (sym (map-append (λ e. e - words) (take k marks) (get_or marks k 0 ∷ []))
    ∙ ap (map (λ e. e - words)) (sym (take_more marks k 0 here)))

-- what trimming needs of the marks
module _ {journal : List ℕ} {head : Head} (t : Trimmable journal head) (oldest : ℕ) (e : oldest ≡ floor_of head) where
  pub words_inside : start_of head.ends (oldest - head.oldest) ≤ length journal
  words_inside =
      omega (arith, t.marked.rises (oldest - head.oldest) (held_of head) (omega (arith, t.high)) (omega arith), t.marked.inside)

  pub marks_above : (i : ℕ) → oldest - head.oldest ≤ i → i < held_of head → start_of head.ends (oldest - head.oldest)
      ≤ get_or head.ends i 0
  marks_above i a b = omega (arith, t.marked.rises (oldest - head.oldest) (i + 1) (omega arith) (omega arith), start_next head.ends i)

  pub head_trimmed : (words : ℕ) (moved : List ℕ) → words ≡ start_of head.ends (oldest - head.oldest)
      → moved ≡ moved_ends head.ends (oldest - head.oldest) (held_of head) words
      → with_floor head oldest moved ≡ trimmed_head head
  unfolding trimmed_head
  head_trimmed words moved ew em = ap₂ (with_floor head) e ends-are
    where
      gone : words ≡ gone_words head
      gone = ew ∙ ap (λ (n : ℕ). start_of head.ends (n - head.oldest)) e

      ends-are : moved ≡ moved_ends head.ends (gone_steps head) (held_of head) (gone_words head)
      ends-are = em ∙ ap₂ (λ (n w : ℕ). moved_ends head.ends (n - head.oldest) (held_of head) w) e gone

  -- the journal after the words were moved and those behind them cleared
  pub journal_trimmed : (words : ℕ) (shifted zeros : List ℕ) → words ≡ start_of head.ends (oldest - head.oldest)
      → shifted ≡ take 0 journal ++ drop words journal ++ drop (0 + (length journal - words)) journal
      → zeros ≡ replicate (length (take (length shifted - (length journal - words)) (drop (length journal - words) shifted))) 0
      → put_mid (length journal - words) (length shifted - (length journal - words)) shifted zeros ≡ trimmed_journal head journal
  unfolding trimmed_journal
  journal_trimmed words shifted zeros ew es ez =
      let gone : words ≡ gone_words head = ew ∙ ap (λ (n : ℕ). start_of head.ends (n - head.oldest)) e in
      let inside : words ≤ length journal = omega (arith, words_inside) in
      let kept : length (drop words journal) ≡ length journal - words = length-drop words journal in
      let long : length shifted ≡ length journal = ap length es ∙ simp (length-append, length-drop) (omega arith) in
      let count : length (take (length shifted - (length journal - words)) (drop (length journal - words) shifted)) ≡ words =
      ap length (part shifted (length journal - words)) ∙ length-drop (length journal - words) shifted ∙ omega arith in
      put_part shifted zeros (length journal - words) (omega arith)
      ∙ ap₂ ◌++◌ (ap (take (length journal - words)) es
      ∙ take_at (drop words journal) (drop (0 + (length journal - words)) journal) (length journal - words) kept)
      (ez ∙ ap (λ (n : ℕ). replicate n 0) count)
      ∙ ap (λ (n : ℕ). drop n journal ++ replicate n 0) gone
