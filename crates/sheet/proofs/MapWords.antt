-- The words of a map: of kind 1, with rising offers, said word by word.
-- Assumes nothing.
use mathlib.Core.List.{List, [], ◌∷◌}
use Prim.Native.Nat.{ℕ, ◌+◌, ◌≤◌}
use native.Mathlib.Omega.{arith}
use Rattle.entry.specs.Word.{offer_of, Put}
use Rattle.changes.specs.Lists.{From, All, Map}

-- words of kind 1 whose offers rise, the first at least n
unfoldable pub Words : ℕ → List ℕ → Type 0
Words n [] = Unit
Words n (w ∷ m) = (n ≤ offer_of w) × Put w × Words (offer_of w + 1) m

Words-facts : (n : ℕ) (m : List ℕ) → Words n m → From n m × All Put m
unfolding Words From All
Words-facts n [] h = (tt, tt)
Words-facts n (w ∷ m) h =
    let rest = Words-facts (offer_of w + 1) m h.2 in
    ((h.0, rest.0), (h.1, rest.1))

facts_Words : (n : ℕ) (m : List ℕ) → From n m → All Put m → Words n m
unfolding Words From All
facts_Words n [] f p = tt
facts_Words n (w ∷ m) f p = (f.0, p.0, facts_Words (offer_of w + 1) m f.1 p.1)

pub Map-Words : (m : List ℕ) → Map m → Words 0 m
Map-Words m h = facts_Words 0 m h.rises h.puts

pub Words-Map : (m : List ℕ) → Words 0 m → Map m
Words-Map m h =
    let f = Words-facts 0 m h in
    record { rises = f.0; puts = f.1 }

pub Words-lower : (n o : ℕ) (m : List ℕ) → n ≤ o → Words o m → Words n m
unfolding Words
Words-lower n o [] l h = tt
Words-lower n o (w ∷ m) l h = (omega (arith, h.0), h.1, h.2)

pub Words-first : (n w : ℕ) (m : List ℕ) → n ≤ offer_of w → Put w → Words (offer_of w + 1) m → Words n (w ∷ m)
unfolding Words
Words-first n w m l p h = (l, p, h)
