-- What is known of a sound store, and of one whose lengths are in range besides: the facts that the test of a store gives to those who call
-- it.
-- Assumes nothing.
use Rattle.std.specs.Prelude.{◌≡◌, true, List, ℕ, ◌≤◌, ◌<◌, length, take, drop}
use Rattle.changes.specs.Lists.{Map}
use Rattle.layout.specs.declared.head.Head.{Head}
use Rattle.layout.specs.States.{held_of}
use Rattle.layout.specs.Clauses.{is_journal, is_slot}
use Rattle.layout.specs.Tests.{are_zeros, least}
use Rattle.layout.proofs.HeadTests.{InRange}

pub record Sound (table journal : List ℕ) (head : Head) : Type 0 where
  pub used_in : head.used ≤ length table
  pub map : Map (take head.used table)
  pub table_zeros : are_zeros (drop head.used table) ≡ true
  pub low : head.oldest ≤ head.checkpoint
  pub high : head.checkpoint ≤ head.tip
  pub few : held_of head ≤ 64
  pub lists : is_journal journal head.ends (held_of head) ≡ true
  pub slots : (k : ℕ) → k < 8 → is_slot head.checkpoint head.taken head.issued k ≡ true
  pub oldest : head.oldest ≡ least head.checkpoint head.taken head.issued
  pub deep : head.depth ≤ 63

-- the lengths are in range and the store is sound; and so is what the grounds behind say
pub record StoreOk (table journal : List ℕ) (head : Head) : Type 0 where
  pub range : InRange (length table) (length journal)
  pub sound : Sound table journal head
