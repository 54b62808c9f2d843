-- What every call reads off a sound store: the lengths of its head's arrays, its used words, and where its steps end.
-- Assumes nothing.
use mathlib.Core.Path.{◌≡◌}
use mathlib.Core.List.{List}
use Prim.Native.Nat.{ℕ, ◌≤◌}
use native.Mathlib.Omega.{arith}
use lib.ListN.{length, take}
use lib.Seq.{length-take-le}
use Rattle.changes.specs.Runs.{start_of, Marked}
use Rattle.layout.specs.declared.head.Head.{Head}
use Rattle.layout.specs.States.{held_of}
use Rattle.views.specs.View.{Shaped}
use Rattle.views.proofs.Laid.{journal_inside, journal_Marked}
use Rattle.soundness.specs.Facts.{Sound}

-- a head whose arrays have their lengths
pub shaped : (head : Head) → length head.taken ≡ 8 → length head.issued ≡ 8 → length head.ends ≡ 64 → Shaped head
shaped head a b c = record { taken_8 = a; issued_8 = b; ends_64 = c }

module _ {table journal : List ℕ} {head : Head} (s : Sound table journal head) where
  -- the used words of the table
  pub used_long : length (take head.used table) ≡ head.used
  used_long = length-take-le head.used table s.used_in

  -- the held steps, or the first of them, end within the journal
  pub inside : (n : ℕ) → n ≤ held_of head → start_of head.ends n ≤ length journal
  inside = journal_inside journal head.ends (held_of head) s.lists

-- the marks of a sound store
pub marks_inside : (table journal : List ℕ) (head : Head) → length head.ends ≡ 64 → Sound table journal head
    → Marked journal head.ends (held_of head)
marks_inside table journal head e s = journal_Marked journal head.ends (held_of head) s.lists (omega (arith, s.few, e))

pub Sound-Marked : (table journal : List ℕ) (head : Head) → Shaped head → Sound table journal head
    → Marked journal head.ends (held_of head)
Sound-Marked table journal head p = marks_inside table journal head p.ends_64
