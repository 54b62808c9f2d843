-- A store that follows a plain list: its memory is sound, and its numbers are those of the plain list.
-- Assumes nothing.
use mathlib.Core.Path.{◌≡◌, refl, sym, ap, ap₂, ◌∙◌}
use mathlib.Core.Bool.{Bool, true, false, not, ◌&&◌}
use mathlib.Core.List.{List, [], ◌∷◌, map}
use Prim.Native.Nat.{ℕ, ◌+◌, ◌≤◌}
use native.Mathlib.Omega.{arith}
use lib.Dec.{eqb, ltb}
use lib.ListN.{length, get_or}
use Rattle.answers.specs.Check.{Check}
use Rattle.std.proofs.Common.{Ok, Err}
use Rattle.answers.specs.declared.ground.Ground.TheVariants.{Lengths, Unsound}
use Rattle.answers.specs.First.{Test, met, first}
use Rattle.answers.specs.Numbers.{number_of}
use Rattle.answers.proofs.Firsts.{first_not}
use Rattle.layout.specs.Clauses.{are_lengths}
use Rattle.soundness.specs.Sound.{is_sound}
use Rattle.layout.specs.States.{held_of}
use Rattle.views.specs.View.{Store, View, flat, encode, decode, Shaped}
use Rattle.soundness.proofs.Sounds.{facts_Sound}
use Rattle.views.proofs.Views.{encoded_Shaped, encoded_Sound, decoded, reframed}
use Rattle.snapshot.specs.Fresh.{fresh_head}
use Rattle.commits.specs.Commit.{used_of}
use Rattle.step_views.proofs.CommitViews.{held_is, used_is}
use Rattle.calls.specs.Lent.{Left, Meaning, check_of, settled_by}
use Rattle.calls.specs.Meaning.{meaning}
use Rattle.history.specs.Named.{unit_call, Call, Transition}
use Rattle.history.specs.Plain.{Test as PlainTest, met as asked, Verdict, accept, refuse, first_of, response_by, left_by}
use Rattle.history.specs.Plain.{Plain, tip_of, held_lists, open_at, state_tests, barred_tests, checked, given, changed}
use Rattle.history.specs.Traces.{lent_with, transition_of, store_transition}
use Rattle.history.proofs.Lines.{between_length}
use Rattle.history.proofs.Views.{view_of, Fit, floor_most, open_at_lem, held_lists_lem}

-- the memory of the store that does what the plain list does
abbrev pub store_of : Plain → Store
store_of p = encode (fresh_head 0 0 0) (view_of p)

module _ (p : Plain) (f : Fit p) where
  pub view_back : decode (store_of p) ≡ view_of p
  view_back = decoded (fresh_head 0 0 0) (view_of p) f.good

  pub store_Shaped : Shaped (store_of p).head
  store_Shaped = encoded_Shaped (fresh_head 0 0 0) (view_of p) f.good

  -- what a call leaves of its memory, if it is the encoding of the view of a plain list
  pub stored : {t : Store} {v : View} (q : Plain) → t ≡ encode (store_of p).head v → v ≡ view_of q → t ≡ store_of q
  stored q is same = is ∙ ap (encode (store_of p).head) same ∙ reframed (fresh_head 0 0 0) (view_of p) (view_of q)

  pub table_long : length (store_of p).table ≡ p.limits.table
  unfolding decode view_of
  table_long = ap (λ (v : View). v.limits.table) view_back

  pub journal_long : length (store_of p).journal ≡ p.limits.journal
  unfolding decode view_of
  journal_long = ap (λ (v : View). v.limits.journal) view_back

  in_range : are_lengths (length (store_of p).table) (length (store_of p).journal) ≡ true
  in_range = ap₂ are_lengths table_long journal_long ∙ f.range

  sound : is_sound (store_of p).table (store_of p).journal (store_of p).head ≡ true
  sound = facts_Sound (store_of p).table (store_of p).journal (store_of p).head (encoded_Sound (fresh_head 0 0 0) (view_of p) f.good)

  -- "In the named calls 1 and 2 don't arise"
  pub past_two : (gs : List Test)
      → first (met (not (are_lengths (length (store_of p).table) (length (store_of p).journal))) Lengths
      ∷ met (not (is_sound (store_of p).table (store_of p).journal (store_of p).head)) Unsound ∷ gs) ≡ first gs
  past_two gs = first_not _ _ _ (ap not in_range) ∙ first_not _ _ _ (ap not sound)

  pub checkpoint_is : (store_of p).head.checkpoint ≡ p.checkpoint
  unfolding encode view_of
  checkpoint_is = refl

  pub tip_is : (store_of p).head.tip ≡ tip_of p.line
  unfolding encode view_of
  tip_is =
      let from : p.line.start ≤ p.checkpoint = omega (arith, f.low, floor_most p.checkpoint p.places) in
      let held = between_length p.line p.checkpoint (tip_of p.line) from f.high (omega arith) in
      omega (arith, held, f.high)

  pub depth_is : (store_of p).head.depth ≡ p.depth
  unfolding encode view_of
  depth_is = refl

  -- ground 11 by the numbers of the head
  pub state_same : (state : ℕ)
      → (asked (ltb state (store_of p).head.checkpoint) 11 ∷ asked (ltb (store_of p).head.tip state) 11 ∷ []) ≡ state_tests p state
  state_same state = ap₂ (λ (a b : ℕ). asked (ltb state a) 11 ∷ asked (ltb b state) 11 ∷ []) checkpoint_is tip_is

  -- and ground 20
  pub barred_same : (state : ℕ)
      → (asked (not (eqb state (store_of p).head.checkpoint) && ltb (store_of p).head.tip (state + (store_of p).head.depth)) 20 ∷ [])
      ≡ barred_tests p state
  barred_same state i =
      asked (not (eqb state (checkpoint_is i)) && ltb (tip_is i) (state + depth_is i)) 20 ∷ []

  pub held_same : held_of (store_of p).head ≡ length (held_lists p)
  held_same = held_is (fresh_head 0 0 0) (view_of p) f.good ∙ ap length (held_lists_lem p f)

  pub used_same : used_of (store_of p).head ≡ length (flat (held_lists p))
  used_same = used_is (fresh_head 0 0 0) (view_of p) f.good ∙ ap (λ (ds : List (List ℕ)). length (flat ds)) (held_lists_lem p f)

  pub open_same : (slot : ℕ) → get_or (store_of p).head.taken slot false ≡ open_at p slot
  unfolding encode view_of
  open_same slot = open_at_lem p slot

-- a check as a verdict, and the unit's grounds as the plain list's
abbrev pub verdict_of : Check → Verdict
verdict_of (Ok tt) = accept
verdict_of (Err ground) = refuse (number_of ground)

abbrev numbered : Test → PlainTest
numbered (met b r) = asked b (number_of r)

pub verdict_of_lem : (gs : List Test) → verdict_of (first gs) ≡ first_of (map numbered gs)
unfolding first first_of
verdict_of_lem [] = refl
verdict_of_lem (met true r ∷ gs) = refl
verdict_of_lem (met false r ∷ gs) = verdict_of_lem gs

-- an accepted call meets none of the plain list's tests
pub accepted_not : (t : Bool) (n : ℕ) (gs : List PlainTest) → first_of (asked t n ∷ gs) ≡ accept → (t ≡ false) × (first_of gs ≡ accept)
unfolding first_of
accepted_not true n gs e = absurd (let z : ◌≡◌ {A = ℕ} 0 1 = cc in omega arith)
accepted_not false n gs e = (refl, e)

pub accepted_done : (o : Check) → verdict_of o ≡ accept → o ≡ (Ok tt)
accepted_done (Ok tt) e = refl
accepted_done (Err r) e = absurd (let z : ◌≡◌ {A = ℕ} 0 1 = cc in omega arith)

-- the transition of the plain list on a call with a verdict, with what its store holds then
abbrev pub transition_by : Plain → Call → Verdict → Transition Store
transition_by p call v = record { response = response_by v (given p call); next = store_of (left_by v (changed p call) p) }

-- the unit's transition by its check
abbrev transition_settled : Plain → Call → List ℕ → Left → Check → Transition Store
transition_settled p call words made c = transition_of call.named (settled_by c made (lent_with (store_of p) words call.bytes))

-- The unit's transition is the plain list's where the grounds give the same, and an accepted call does what it does on the plain list: a
-- call that is turned away leaves all as it came on both sides.
pub settle : (p : Plain) (call : Call) (words : List ℕ)
    → let m = meaning (lent_with (store_of p) words call.bytes) (unit_call call.named) in
    verdict_of (check_of m) ≡ checked p call
    → (check_of m ≡ (Ok tt) → transition_of call.named m.accepted ≡ transition_by p call accept)
    → store_transition (store_of p) call words ≡ transition_by p call (checked p call)
settle p call words same done = go (check_of m) refl
  where
    m : Meaning
    m = meaning (lent_with (store_of p) words call.bytes) (unit_call call.named)

    go : (c : Check) → check_of m ≡ c → store_transition (store_of p) call words ≡ transition_by p call (checked p call)
    go (Ok tt) e = ap (transition_settled p call words m.accepted) e ∙ done e ∙ ap (transition_by p call) (sym (ap verdict_of e) ∙ same)
    go (Err r) e = ap (transition_settled p call words m.accepted) e ∙ ap (transition_by p call) (sym (ap verdict_of e) ∙ same)
