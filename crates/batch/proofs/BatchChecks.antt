-- The refusals before any order is executed, one by one, and what is known where none applies; the test of the output's length.
-- Assumes nothing.
use mathlib.Core.Path.{◌≡◌, ap}
use mathlib.Core.Bool.{true, false}
use mathlib.Core.List.{List}
use Prim.Native.Nat.{ℕ, ◌≤◌, ◌<◌}
use native.Mathlib.Omega.{arith}
use borrow.Author.Tests.{le-leb, lt-leb, ltb-false, not-false}
use Rattle.std.proofs.lemmas.Bool.Decides.{nat_tests}
use lib.ListN.{length}
use Rattle.changes.specs.Lists.{is_list, From}
use Rattle.changes.proofs.ListTest.{list_facts}
use Rattle.answers.specs.declared.ground.Ground.TheVariants.{BadList, BadOrder, OfferNotRead, OutputShort}
use Rattle.answers.specs.declared.ground.Ground.{Ground}
use Rattle.answers.specs.Answers.{refused}
use Rattle.answers.specs.First.{first}
use Rattle.answers.specs.Numbers.{number_of}
use Rattle.answers.specs.Check.{Check}
use Rattle.std.proofs.Common.{Ok, Err}
use Rattle.answers.proofs.Firsts.{passed_not}
use Rattle.orders.specs.Orders.{is_allowed}
use Rattle.execution.specs.Tests.{list_all, is_read}
use Rattle.execution.specs.Executing.{Executed, done, fails, priced, after}
use Rattle.batch.specs.Batches.{checked, fitting, batch, answer, output}

module _ (reads orders : List ℕ) where
  pub stop_list : is_list reads ≡ false → checked reads orders ≡ Err BadList
  unfolding checked first
  stop_list e = grind (arith, nat_tests)

  module _ (list : is_list reads ≡ true) where
    pub stop_many : 64 < length orders → checked reads orders ≡ Err BadList
    unfolding checked first
    stop_many h = grind (arith, nat_tests)

    module _ (few : length orders ≤ 64) where
      pub stop_order : list_all is_allowed orders ≡ false → checked reads orders ≡ Err BadOrder
      unfolding checked first
      stop_order e = grind (arith, nat_tests)

      module _ (allowed : list_all is_allowed orders ≡ true) where
        pub stop_read : list_all (is_read reads) orders ≡ false → checked reads orders ≡ Err OfferNotRead
        unfolding checked first
        stop_read e = grind (arith, nat_tests)

        pub passes : list_all (is_read reads) orders ≡ true → checked reads orders ≡ (Ok tt)
        unfolding checked first
        passes e = grind (arith, nat_tests)

-- what is known of a batch that passes
pub record Passing (reads orders : List ℕ) : Type 0 where
  pub short : length reads ≤ 64
  pub rises : From 0 reads
  pub few : length orders ≤ 64
  pub named : list_all (is_read reads) orders ≡ true

pub passed : (reads orders : List ℕ) → checked reads orders ≡ (Ok tt) → Passing reads orders
unfolding checked
passed reads orders e =
    let list = passed_not _ _ _ e in
    let many = passed_not _ _ _ list.1 in
    let allowed = passed_not _ _ _ many.1 in
    let read = passed_not _ _ _ allowed.1 in
    let facts = list_facts reads (not-false (is_list reads) list.0) in
    record {
      short = facts.0;
      rises = facts.1;
      few = ltb-false 64 (length orders) many.0;
      named = not-false (list_all (is_read reads) orders) read.0;
    }

-- the output's length
pub fits : (room : ℕ) (d : List ℕ) → length d ≤ room → fitting room (done d) ≡ done d
fits room d h = rw (le-leb (length d) room h)

pub too_short : (room : ℕ) (d : List ℕ) → room < length d → fitting room (done d) ≡ fails (number_of OutputShort)
too_short room d h = rw (lt-leb (length d) room h)

-- a batch that is stopped, and one whose orders are executed
module _ (reads orders : List ℕ) (room : ℕ) where
  pub batch_stopped : {ground : Ground} → checked reads orders ≡ Err ground → batch reads orders room ≡ fails (number_of ground)
  unfolding batch
  batch_stopped e = ap (λ (c : Check). after c (fitting room (priced reads orders))) e

  pub batch_executes : checked reads orders ≡ (Ok tt) → batch reads orders room ≡ fitting room (priced reads orders)
  unfolding batch
  batch_executes e = ap (λ (c : Check). after c (fitting room (priced reads orders))) e

-- the answer and the memory of a batch that is turned away: the number alone, and all words as they were
pub tell_fails : {n : ℕ} {executed : Executed} (out : List ℕ) → fails n ≡ executed → (refused n ≡ answer executed)
    × (out ≡ output executed out)
tell_fails out e = (ap answer e, ap (λ (r : Executed). output r out) e)
