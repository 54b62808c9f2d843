-- The map at each kept state: "here the k-th state after the anchor takes the first k steps."
-- Assumes nothing.
use mathlib.Core.Path.{◌≡◌, sym, ap, ◌∙◌}
use mathlib.Core.List.{List, [], ◌∷◌}
use Prim.Native.Nat.{ℕ, suc, ◌+◌, ◌-◌, ◌≤◌, ◌<◌}
use native.Mathlib.Omega.{arith}
use lib.ListN.{length, get_or, take, drop}
use lib.Seq.{take-suc, take_at, drop_at}
use Rattle.changes.specs.Calculus.{apply, compose, compose_all}
use Rattle.changes.specs.Lists.{All, Changes, Map}
use Rattle.changes.specs.Runs.{run_of}
use Rattle.changes.proofs.Applying.{compose_all-nil, compose_all_one}
use Rattle.changes.proofs.Each.{IsList, All-Changes, all_at, all_take, All-second}
use Rattle.changes.proofs.Laws.{apply_zero, apply_twice, apply-Map, run_Changes, run_split, steps_split}
use Rattle.layout.specs.declared.head.Head.{Head}
use Rattle.layout.specs.States.{held_of, step_index, steps_between, map_here}
use Rattle.views.specs.View.{Store, View, decode, map_at, tip_of, Good}
use Rattle.soundness.specs.Facts.{Sound}
use Rattle.views.proofs.Laid.{run_count}

-- the steps of a good view are changes
module _ (v : View) (g : Good v) where
  steps-Changes : All Changes v.steps
  steps-Changes = All-Changes v.steps (All-second IsList v.old v.steps g.held.each)

  -- the first of them, composed, are changes
  pub first_Changes : (n : ℕ) → Changes (compose_all (take n v.steps))
  first_Changes n = run_Changes (take n v.steps) (all_take Changes n v.steps steps-Changes)

  -- the state of the checkpoint is the table's map
  pub at_checkpoint : map_at v v.checkpoint ≡ v.base
  unfolding map_at
  at_checkpoint =
      let none : v.checkpoint - v.checkpoint ≡ 0 = omega arith in
      ap (λ (n : ℕ). apply v.base (compose_all (take n v.steps))) none
      ∙ ap (apply v.base) compose_all-nil
      ∙ apply_zero v.base g.map

  -- each kept state is a map
  pub at_map : (s : ℕ) → Map (map_at v s)
  unfolding map_at
  at_map s =
      apply-Map v.base (compose_all (take (s - v.checkpoint) v.steps)) g.map.rises (first_Changes (s - v.checkpoint)).rises

  -- and the next one is it with the step that leads on applied
  pub at_next : (s : ℕ) → v.checkpoint ≤ s → s < tip_of v → map_at v (s + 1) ≡ apply (map_at v s) (get_or v.steps (s - v.checkpoint) [])
  unfolding map_at
  at_next s low high =
      let k : ℕ = s - v.checkpoint in
      let one : s + 1 - v.checkpoint ≡ suc (s - v.checkpoint) = omega arith in
      let inside : s - v.checkpoint < length v.steps = omega arith in
      let step = get_or v.steps (s - v.checkpoint) [] in
      ap (λ (n : ℕ). apply v.base (compose_all (take n v.steps))) one
      ∙ ap (λ (l : List (List ℕ)). apply v.base (compose_all l)) (take-suc v.steps (s - v.checkpoint) [] inside)
      ∙ ap (apply v.base) (run_split (take (s - v.checkpoint) v.steps) (step ∷ [])
      ∙ ap (compose (compose_all (take (s - v.checkpoint) v.steps))) (compose_all_one step))
      ∙ sym (apply_twice v.base (compose_all (take (s - v.checkpoint) v.steps)) step g.map.rises
      (first_Changes (s - v.checkpoint)).rises (all_at Changes v.steps [] (s - v.checkpoint) steps-Changes inside).rises)

-- some steps in the middle of a run
pub run_middle : (words ends : List ℕ) (n a k : ℕ) → a + k ≤ n → take k (drop a (run_of words ends 0 n)) ≡ run_of words ends a k
run_middle words ends n a k h =
    let whole : n ≡ a + (k + (n - (a + k))) = omega arith in
    let start : 0 + a ≡ a = omega arith in
    ap (λ (m : ℕ). take k (drop a (run_of words ends 0 m))) whole
    ∙ ap (λ (l : List (List ℕ)). take k (drop a l)) (steps_split words ends a (k + (n - (a + k))) 0)
    ∙ ap (take k) (drop_at (run_of words ends 0 a) _ a (run_count words ends a 0))
    ∙ ap (λ (m : ℕ). take k (run_of words ends m (k + (n - (a + k))))) start
    ∙ ap (take k) (steps_split words ends k (n - (a + k)) a)
    ∙ take_at (run_of words ends a k) _ k (run_count words ends k a)

-- a sound store: its steps from the checkpoint to a state are the first of its view's, and the map at the state is its view's
module _ (table journal : List ℕ) (head : Head) (s : Sound table journal head) (state : ℕ)
    (low : head.checkpoint ≤ state) (high : state ≤ head.tip) where
  abbrev here : Store
  here = record { table = table; journal = journal; head = head }

  pub steps_since : steps_between journal head head.checkpoint state ≡ take (state - head.checkpoint) (decode here).steps
  unfolding decode
  steps_since =
      let count : step_index head state - step_index head head.checkpoint ≡ state - head.checkpoint = omega (arith, s.low) in
      ap (run_of journal head.ends (step_index head head.checkpoint)) count
      ∙ sym (run_middle journal head.ends (held_of head) (head.checkpoint - head.oldest) (state - head.checkpoint)
      (omega (arith, s.low)))

  pub map_is : map_here table journal head state ≡ map_at (decode here) state
  unfolding map_at decode
  map_is = ap (λ (ds : List (List ℕ)). apply (take head.used table) (compose_all ds)) steps_since
