-- What an accepted commit knows of its memory.
-- Assumes nothing.
use mathlib.Core.Path.{◌≡◌}
use mathlib.Core.Bool.{true}
use mathlib.Core.List.{List}
use Prim.Native.Nat.{ℕ, ◌+◌, ◌-◌, ◌≤◌, ◌<◌}
use native.Mathlib.Nat.{le_refl}
use native.Mathlib.Omega.{arith}
use borrow.Author.Tests.{ltb-false, eqb-false, not-false}
use lib.ListN.{length}
use Rattle.changes.specs.Lists.{is_list}
use Rattle.std.proofs.Common.{Ok}
use Rattle.answers.proofs.Firsts.{passed_not}
use Rattle.layout.specs.declared.head.Head.{Head}
use Rattle.layout.specs.States.{held_of}
use Rattle.layout.proofs.HeadTests.{InRange}
use Rattle.views.proofs.SoundFacts.{inside}
use Rattle.soundness.proofs.Passed.{store_passed}
use Rattle.soundness.specs.Facts.{Sound}
use Rattle.commits.specs.Commit.{used_of, commit_check}

-- a commit
pub record CommitOk (table journal : List ℕ) (head : Head) (list : List ℕ) : Type 0 where
  pub range : InRange (length table) (length journal)
  pub sound : Sound table journal head
  pub list_ok : is_list list ≡ true
  pub not_last : head.tip ≡ 4294967295 → ⊥
  pub room : held_of head < 64
  pub fits : length list ≤ length journal - used_of head

pub commit_ok : (table journal : List ℕ) (head : Head) (list : List ℕ) → commit_check table journal head list ≡ (Ok tt)
    → CommitOk table journal head list
commit_ok table journal head list e =
    let a = store_passed table journal head _ e in
    let c = passed_not _ _ _ a.1 in
    let d = passed_not _ _ _ c.1 in
    let f = passed_not _ _ _ d.1 in
    let g = passed_not _ _ _ f.1 in
    let full : held_of head ≡ 64 → ⊥ = eqb-false (held_of head) 64 f.0 in
    record {
      range = a.0.range;
      sound = a.0.sound;
      list_ok = not-false _ c.0;
      not_last = eqb-false head.tip 4294967295 d.0;
      room = omega (arith, a.0.sound.few);
      fits = ltb-false (length journal - used_of head) (length list) g.0;
    }

module _ {table journal : List ℕ} {head : Head} {list : List ℕ} (ok : CommitOk table journal head list) (u : ℕ) (e : u ≡ used_of head) where
  pub used_inside : u ≤ length journal
  used_inside = omega (arith, inside ok.sound (held_of head) (le_refl (held_of head)))

  -- the end of the new step
  pub end_small : u + length list ≤ 4096
  end_small = omega (arith, ok.fits, ok.range.journal_most, used_inside)
