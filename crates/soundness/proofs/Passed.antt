-- What a call knows of its memory where the grounds that it shares with others are not met.
-- Assumes nothing.
use mathlib.Core.Path.{◌≡◌, sym, ◌∙◌}
use mathlib.Core.List.{List, [], ◌++◌}
use Prim.Native.Nat.{ℕ, ◌≤◌}
use borrow.Author.Tests.{ltb-false, not-false}
use lib.ListN.{length}
use Rattle.answers.specs.Check.{Check}
use Rattle.std.proofs.Common.{Ok}
use Rattle.answers.specs.First.{Test, first}
use Rattle.answers.proofs.Firsts.{passed_not}
use Rattle.layout.specs.declared.head.Head.{Head}
use Rattle.layout.proofs.HeadTests.{InRange, lengths_facts}
use Rattle.soundness.specs.Facts.{StoreOk}
use Rattle.soundness.specs.Checks.{store_grounds, state_grounds}
use Rattle.soundness.specs.Facts.{Sound}
use Rattle.soundness.proofs.Sounds.{Sound-facts}

pub store_passed : (table journal : List ℕ) (head : Head) (gs : List Test)
    → first (store_grounds table journal head ++ gs) ≡ (Ok tt) → StoreOk table journal head × (first gs ≡ (Ok tt))
store_passed table journal head gs e =
    let a = passed_not _ _ _ e in
    let b = passed_not _ _ _ a.1 in (
      record {
        range = lengths_facts (length table) (length journal) (not-false _ a.0);
        sound = Sound-facts table journal head (not-false _ b.0);
      },
      b.1,
    )

-- the same of a check that was made for these grounds alone
pub store_ok : (table journal : List ℕ) (head : Head) {c : Check} → c ≡ first (store_grounds table journal head) → c
    ≡ (Ok tt) → StoreOk table journal head
store_ok table journal head e d = (store_passed table journal head [] (sym e ∙ d)).0

-- the state lies from the checkpoint to the tip
pub state_passed : (head : Head) (state : ℕ) (gs : List Test)
    → first (state_grounds head state ++ gs) ≡ (Ok tt) → ((head.checkpoint ≤ state) × (state ≤ head.tip)) × (first gs ≡ (Ok tt))
state_passed head state gs e =
    let a = passed_not _ _ _ e in
    let b = passed_not _ _ _ a.1 in
    ((ltb-false state head.checkpoint a.0, ltb-false head.tip state b.0), b.1)
