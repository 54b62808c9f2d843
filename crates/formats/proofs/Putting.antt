-- A map's words put into lent bytes: they have room, or have none.
-- Assumes nothing.
use mathlib.Core.Path.{◌≡◌, refl, ap, ◌∙◌}
use mathlib.Core.List.{List, ◌++◌}
use Prim.Native.Nat.{ℕ, ◌≤◌, ◌<◌}
use borrow.Author.Tests.{lt-ltb, le-ltb}
use lib.ListN.{length, drop}
use Rattle.std.proofs.Common.{Result, Err, Ok}
use Rattle.answers.specs.declared.ground.Ground.{Ground}
use Rattle.answers.specs.declared.call.Format.{Format}
use Rattle.answers.specs.declared.ground.Ground.TheVariants.{OutputShort}
use Rattle.formats.specs.Formats.{bytes_for, size_for}
use Rattle.formats.specs.Put.{put_count, put_bytes}

-- the answer and the bytes that are meant
abbrev pub Puts : Format → ℕ → List ℕ → List ℕ → Result ℕ Ground → List ℕ → Type 0
Puts f state words out answer left = (answer ≡ put_count f words (length out)) × (left ≡ put_bytes f state words out)

module _ (f : Format) (state : ℕ) (words out : List ℕ) where
  pub put_short : length out < size_for f words → Puts f state words out (Err OutputShort) out
  put_short h = rw (lt-ltb (length out) (size_for f words) h) (refl, refl)

  pub put_done : size_for f words ≤ length out → {n : ℕ} {last : List ℕ} → n ≡ size_for f words
      → last ≡ bytes_for f state words ++ drop n out → Puts f state words out (Ok n) last
  put_done h en el =
      rw (le-ltb (length out) (size_for f words) h) (ap Ok en, el ∙ ap (λ (k : ℕ). bytes_for f state words ++ drop k out) en)

-- the same of the words by another name
pub put_same : (f : Format) (state : ℕ) {words words' : List ℕ} (out : List ℕ) {answer : Result ℕ Ground} {left : List ℕ} → words ≡ words'
    → Puts f state words out answer left → Puts f state words' out answer left
put_same f state out e p = (
  p.0 ∙ ap (λ (w : List ℕ). put_count f w (length out)) e,
  p.1 ∙ ap (λ (w : List ℕ). put_bytes f state w out) e,
)
