-- What the count of offers in bytes says of them.
-- Assumes nothing.
use mathlib.Core.Path.{◌≡◌, refl}
use mathlib.Core.Bool.{Bool, true, false, cond}
use mathlib.Core.List.{List}
use Prim.Native.Nat.{ℕ}
use native.Mathlib.Omega.{arith}
use lib.ListN.{length}
use Rattle.std.specs.Prelude.{Some, None}
use Rattle.answers.specs.declared.call.Format.{Format}
use Rattle.formats.specs.Formats.{is_of_format, map_in, offers_in}

by_test : (t : Bool) (k n : ℕ) → cond t (Some k) None ≡ Some n → (t ≡ true) × (n ≡ k)
by_test true k n e = (refl, cc)
by_test false k n e = absurd (let z : ◌≡◌ {A = ℕ} 0 1 = cc in omega arith)

not_counted : (t : Bool) (k : ℕ) → cond t (Some k) None ≡ None → t ≡ false
not_counted true k e = absurd (let z : ◌≡◌ {A = ℕ} 0 1 = cc in omega arith)
not_counted false k e = refl

module _ (f : Format) (b : List ℕ) where
  pub counted : {n : ℕ} → offers_in f b ≡ Some n → (is_of_format f b ≡ true) × (n ≡ length (map_in f b))
  counted {n} e = by_test (is_of_format f b) (length (map_in f b)) n e

  pub broken : offers_in f b ≡ None → is_of_format f b ≡ false
  broken e = not_counted (is_of_format f b) (length (map_in f b)) e
