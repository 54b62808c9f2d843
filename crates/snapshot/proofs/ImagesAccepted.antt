-- What an accepted load knows of its memory and of the bytes.
-- Assumes nothing.
use mathlib.Core.Path.{◌≡◌}
use mathlib.Core.Bool.{true}
use mathlib.Core.List.{List, ◌++◌}
use Prim.Native.Nat.{ℕ, ◌≤◌}
use borrow.Author.Tests.{leb-true, ltb-false, not-false}
use lib.ListN.{length}
use Rattle.changes.specs.Lists.{Map}
use Rattle.std.proofs.Common.{Ok}
use Rattle.answers.specs.declared.call.Format.{Format}
use Rattle.answers.specs.First.{Test, first}
use Rattle.answers.proofs.Firsts.{passed_not}
use Rattle.formats.specs.Formats.{is_of_format, map_in}
use Rattle.formats.proofs.Laws.{accepted_is_Map}
use Rattle.layout.proofs.HeadTests.{InRange, lengths_facts}
use Rattle.snapshot.specs.Snapshots.{fresh_grounds, load_grounds}

-- a store that can be made: the lengths are in range and the depth is one that it can have; and so is what the grounds behind say
pub fresh_passed : (table journal depth : ℕ) (gs : List Test) → first (fresh_grounds table journal depth ++ gs) ≡ (Ok tt)
    → (InRange table journal × (depth ≤ 63)) × (first gs ≡ (Ok tt))
fresh_passed table journal depth gs e =
    let a = passed_not _ _ _ e in
    let d = passed_not _ _ _ a.1 in
    ((lengths_facts table journal (not-false _ a.0), leb-true depth 63 (not-false _ d.0)), d.1)

pub record LoadOk (table journal depth : ℕ) (format : Format) (bytes : List ℕ) : Type 0 where
  pub range : InRange table journal
  pub deep : depth ≤ 63
  pub is : is_of_format format bytes ≡ true
  pub map : Map (map_in format bytes)
  pub room : length (map_in format bytes) ≤ table

pub load_ok : (table journal depth : ℕ) (format : Format) (bytes : List ℕ) → first (load_grounds table journal depth format bytes) ≡ (Ok tt)
    → LoadOk table journal depth format bytes
load_ok table journal depth format bytes e =
    let a = fresh_passed table journal depth _ e in
    let b = passed_not _ _ _ a.1 in
    let c = passed_not _ _ _ b.1 in
    let is = not-false _ b.0 in
    record {
      range = a.0.0;
      deep = a.0.1;
      is = is;
      map = accepted_is_Map format bytes is;
      room = ltb-false table (length (map_in format bytes)) c.0;
    }
