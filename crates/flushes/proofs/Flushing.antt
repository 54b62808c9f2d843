-- What an accepted flush knows of its memory, and the map at the state in the table.
-- Assumes nothing.
use mathlib.Core.Path.{◌≡◌, refl, sym, ap, ◌∙◌}
use mathlib.Core.Bool.{true, false}
use mathlib.Core.List.{List, ◌++◌, append_assoc}
use Prim.Native.Nat.{ℕ, ◌+◌, ◌-◌, ◌≤◌, max}
use native.Mathlib.Omega.{arith}
use borrow.Author.Tests.{ltb-false, le-ltb}
use lib.Dec.{ltb}
use lib.ListN.{length, take, drop, replicate, length-drop, replicate-append-replicate, take-append-drop}
use lib.Seq.{drop-drop}
use Rattle.words.proofs.Parts.{zeros_from}
use Rattle.std.proofs.Common.{Ok, Err}
use Rattle.std.specs.Result.{result_map_both}
use Rattle.answers.specs.Check.{Check}
use Rattle.answers.proofs.Firsts.{passed_not}
use Rattle.layout.specs.declared.head.Head.{Head}
use Rattle.layout.specs.Tests.{are_zeros}
use Rattle.layout.proofs.HeadTests.{InRange}
use Rattle.layout.proofs.WordTests.{zeros_fact}
use Rattle.layout.specs.States.{map_here}
use Rattle.views.specs.Trim.{Trimmable}
use Rattle.views.specs.View.{padded, Shaped}
use Rattle.views.proofs.SlotLists.{least_up_to, least_later}
use Rattle.views.proofs.SoundFacts.{used_long, Sound-Marked}
use Rattle.soundness.specs.Checks.{is_barred}
use Rattle.soundness.proofs.Passed.{store_passed, state_passed}
use Rattle.soundness.specs.Facts.{Sound}
use Rattle.state_maps.specs.Held.{HeldState, words_to}
use Rattle.state_maps.proofs.MapSizes.{starts_rise, most_room, map_here_lem, size_here}
use Rattle.state_maps.proofs.Working.{state_facts}
use Rattle.flushes.specs.Flush.{flush_check, flush_size, flushed_head}

-- a flush
pub record FlushOk (table journal : List ℕ) (head : Head) (state : ℕ) : Type 0 where
  pub range : InRange (length table) (length journal)
  pub sound : Sound table journal head
  pub low : head.checkpoint ≤ state
  pub high : state ≤ head.tip
  pub free : is_barred head state ≡ false
  pub fits : length (map_here table journal head state) ≤ length table

pub flush_ok : (table journal : List ℕ) (head : Head) (state : ℕ) → flush_check table journal head state ≡ (Ok tt)
    → FlushOk table journal head state
flush_ok table journal head state e =
    let a = store_passed table journal head _ e in
    let b = state_passed head state _ a.1 in
    let d = passed_not _ _ _ b.1 in
    let c = passed_not _ _ _ d.1 in
    record {
      range = a.0.range;
      sound = a.0.sound;
      low = b.0.0;
      high = b.0.1;
      free = d.0;
      fits = ltb-false (length table) (length (map_here table journal head state)) c.0;
    }

-- and where it gives a size
pub flush_sized : (table journal : List ℕ) (head : Head) (state : ℕ) {size : ℕ} → flush_size table journal head state ≡ Ok size
    → FlushOk table journal head state
flush_sized table journal head state e = flush_ok table journal head state (passed _ (flush_check table journal head state) e)
  where
    passed : (n : ℕ) {k : ℕ} (c : Check) → result_map_both (λ _. n) (λ why. why) c ≡ Ok k → c ≡ Ok tt
    passed n (Ok tt) e = refl
    passed n (Err why) e = cc

-- words with zeros behind: from a position on there are zeros only, and a map written to their start, with zeros up to the used words, is
-- the map padded
zeros_on : (l : List ℕ) (used n : ℕ) → used ≤ n → are_zeros (drop used l) ≡ true → drop n l ≡ replicate (length l - n) 0
zeros_on l used n h z =
    let sum : used + (n - used) ≡ n = omega arith in
    let rest : length (drop used l) - (n - used) ≡ length l - n = omega (arith, length-drop used l) in
    ap (λ (k : ℕ). drop k l) (sym sum)
    ∙ sym (drop-drop (n - used) used l)
    ∙ ap (drop (n - used)) (zeros_fact (drop used l) z)
    ∙ zeros_from (n - used) (length (drop used l))
    ∙ ap (λ (k : ℕ). replicate k 0) rest

zeros_join : (l : List ℕ) (used : ℕ) (m : List ℕ) → used ≤ length l → length m ≤ length l → are_zeros (drop used l) ≡ true
    → m ++ replicate (used - length m) 0 ++ drop (max used (length m)) l ≡ padded (length l) m
zeros_join l used m h k z =
    let n = length m in
    let zeros : used - n + (length l - max used n) ≡ length l - n = omega (arith, h, k) in
    ap (λ (r : List ℕ). m ++ replicate (used - n) 0 ++ r) (zeros_on l used (max used n) (omega arith) z)
    ∙ append_assoc m (replicate (used - n) 0) (replicate (length l - max used n) 0)
    ∙ ap (λ (r : List ℕ). m ++ r) (replicate-append-replicate (used - n) (length l - max used n) 0 ∙ ap (λ (k : ℕ). replicate k 0) zeros)

module _ {table journal : List ℕ} {head : Head} {state : ℕ} (h : HeldState table journal head state) where
  pub used_in : head.used ≤ length table
  used_in = (state_facts h).sound.used_in

  -- the map at the state, written over the table's used words
  pub map_written : length (map_here table journal head state) ≤ length table
      → map_here table journal head state
      ++ replicate (head.used - length (map_here table journal head state)) 0
      ++ drop (max head.used (length (map_here table journal head state))) table
      ≡ padded (length table) (map_here table journal head state)
  map_written fits = zeros_join table head.used (map_here table journal head state) used_in fits (state_facts h).sound.table_zeros

  -- where the steps to the state have no words, the table has that map already
  module _ (p : Shaped head) (e : words_to head state ≡ 0) where
    pub size_stays : head.used ≡ length (map_here table journal head state)
    size_stays = size_here (state_facts h) p e

    pub room_stays : ltb (length table) (length (map_here table journal head state)) ≡ false
    room_stays = le-ltb (length table) (length (map_here table journal head state)) (omega (arith, size_stays, used_in))

    pub table_stays : table ≡ padded (length table) (map_here table journal head state)
    table_stays =
        let ok = state_facts h in
        let zeros : replicate (length table - head.used) 0 ≡ drop head.used table =
        sym (zeros_on table head.used head.used (omega arith) ok.sound.table_zeros) in
        sym (take-append-drop head.used table)
        ∙ ap (λ (l : List ℕ). take head.used table ++ l) (sym zeros)
        ∙ ap (λ (n : ℕ). take head.used table ++ replicate (length table - n) 0) (sym (used_long ok.sound))
        ∙ ap (padded (length table)) (sym (map_here_lem ok p e))

module _ {table journal : List ℕ} {head : Head} {state : ℕ} (p : Shaped head) (ok : FlushOk table journal head state) where
  -- the floor of the flushed head does not fall, and its steps can be trimmed
  pub flushed_Trimmable : (used : ℕ) → Trimmable journal (flushed_head head used state)
  unfolding flushed_head
  flushed_Trimmable used =
      record {
        low = omega (arith, ok.sound.oldest, least_later head.checkpoint state head.taken head.issued ok.low);
        high = omega (arith, least_up_to state head.taken head.issued, ok.high);
        few = ok.sound.few;
        marked = Sound-Marked table journal head p ok.sound;
      }

-- what is known of the store's words and of the map at the state, for the goals of `flush_table`
pub ruleset facts = (state_facts, starts_rise, most_room, size_stays, room_stays, table_stays)
