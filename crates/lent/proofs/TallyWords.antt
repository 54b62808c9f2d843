-- A tally that is put into its words, and one that travels through them.
-- Assumes nothing.
use mathlib.Core.Path.{◌≡◌, refl, sym, ap, ◌∙◌}
use mathlib.Core.List.{List, [], ◌∷◌}
use Prim.Native.Nat.{ℕ}
use native.Mathlib.Omega.{arith}
use lib.ListN.{length, set, get_or, drop_of_length-le}
use Rattle.answers.specs.declared.tally.Tally.{Tally}
use Rattle.words.proofs.Parts.{next}
use Rattle.words.proofs.Writing.{start, wrote, filled}
use Rattle.lent.specs.Lent.{tally_of, tally_words}

pub tally_put : (l : List ℕ) (a b c : ℕ) → length l ≡ 3 → set (set (set l 0 a) 1 b) 2 c ≡ a ∷ b ∷ c ∷ []
tally_put l a b c e =
    let one = wrote (start l (a ∷ b ∷ c ∷ [])) (omega (arith, e)) in
    let two = wrote one (omega (arith, e, one.same)) in
    let three = wrote two (omega (arith, e, two.same)) in
    filled three refl (sym e)

-- three words come back, and so does a tally
pub tally_back : (w : List ℕ) → length w ≡ 3 → tally_words (tally_of w) ≡ w
tally_back w e =
    ap (λ (r : List ℕ). get_or w 0 0 ∷ get_or w 1 0 ∷ get_or w 2 0 ∷ r) (sym (drop_of_length-le w {i = 3} (omega (arith, e))))
    ∙ ap (λ (r : List ℕ). get_or w 0 0 ∷ get_or w 1 0 ∷ r) (sym (next w 2 (omega (arith, e))))
    ∙ ap (λ (r : List ℕ). get_or w 0 0 ∷ r) (sym (next w 1 (omega (arith, e))))
    ∙ sym (next w 0 (omega (arith, e)))

pub tally_words_back : (t : Tally) → tally_of (tally_words t) ≡ t
tally_words_back t = refl
