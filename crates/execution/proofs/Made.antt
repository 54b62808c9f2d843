-- The words that orders made of a read set's: they rise with those, and one made at a position of its offer joins them as a later change.
-- Assumes nothing.
use mathlib.Core.Path.{◌≡◌, refl, sym, ◌∙◌, ap}
use mathlib.Core.List.{List, [], ◌∷◌}
use Prim.Native.Nat.{ℕ, zero, suc, ◌+◌, ◌≤◌, ◌<◌}
use native.Mathlib.Omega.{arith}
use lib.ListN.{length, get_or, set, replicate}
use Rattle.std.proofs.Common.{Option, Some, None}
use Rattle.std.specs.Option.{unwrap_or}
use Rattle.entry.specs.Word.{offer_of}
use Rattle.changes.specs.Calculus.{compose}
use Rattle.changes.specs.Lists.{From}
use Rattle.changes.proofs.Merging.{compose-nil, nil-compose, compose_below, compose_same, compose_above}
use Rattle.changes.proofs.Rising.{From-lower, from_cons, From-head, from_tail, From-nil}
use Rattle.changes.proofs.Find.{least_at}
use Rattle.execution.specs.Working.{made}

-- what an order sees: the read set with the words made in place of its own
abbrev pub shown : List ℕ → List (Option ℕ) → List ℕ
shown [] words = []
shown (v ∷ reads) [] = []
shown (v ∷ reads) (w ∷ words) = unwrap_or w v ∷ shown reads words

pub shown_at : (reads : List ℕ) (words : List (Option ℕ)) → length words ≡ length reads → (i : ℕ) → i < length reads
    → get_or (shown reads words) i 0 ≡ unwrap_or (get_or words i None) (get_or reads i 0)
shown_at [] words s i b = absurd (omega arith)
shown_at (v ∷ reads) [] s i b = absurd (omega arith)
shown_at (v ∷ reads) (w ∷ words) s zero b = refl
shown_at (v ∷ reads) (w ∷ words) s (suc i) b = shown_at reads words (omega arith) i (omega arith)

pub length-shown : (reads : List ℕ) (words : List (Option ℕ)) → length words ≡ length reads → length (shown reads words) ≡ length reads
length-shown [] words s = refl
length-shown (v ∷ reads) [] s = absurd (omega arith)
length-shown (v ∷ reads) (w ∷ words) s = omega (arith, length-shown reads words (omega arith))

pub shown-set : (reads : List ℕ) (words : List (Option ℕ)) → length words ≡ length reads → (i : ℕ) → i < length reads → (w : ℕ)
    → shown reads (set words i (Some w)) ≡ set (shown reads words) i w
shown-set [] words s i b w = absurd (omega arith)
shown-set (v ∷ reads) [] s i b w = absurd (omega arith)
shown-set (v ∷ reads) (u ∷ words) s zero b w = refl
shown-set (v ∷ reads) (u ∷ words) s (suc i) b w = ap (◌∷◌ (unwrap_or u v)) (shown-set reads words (omega arith) i (omega arith) w)

-- at first no word is made
pub none_made : (reads : List ℕ) → made (replicate (length reads) None) ≡ []
none_made [] = refl
none_made (v ∷ reads) = none_made reads

pub none_shown : (reads : List ℕ) → shown reads (replicate (length reads) None) ≡ reads
none_shown [] = refl
none_shown (v ∷ reads) = ap (◌∷◌ v) (none_shown reads)

pub made_rises : (n : ℕ) (reads : List ℕ) (words : List (Option ℕ)) → length words ≡ length reads → From n (shown reads words)
    → From n (made words)
made_rises n [] [] s f = From-nil n
made_rises n [] (w ∷ words) s f = absurd (omega arith)
made_rises n (v ∷ reads) [] s f = absurd (omega arith)
made_rises n (v ∷ reads) (Some w ∷ words) s f =
    from_cons n w (made words) (From-head n w _ f) (made_rises (offer_of w + 1) reads words (omega arith) (from_tail n w _ f))
made_rises n (v ∷ reads) (None ∷ words) s f =
    From-lower (made words) (omega (arith, From-head n v _ f)) (made_rises (offer_of v + 1) reads words (omega arith) (from_tail n v _ f))

-- a word below all others goes in front of them
first_in : (d : List ℕ) (w : ℕ) → From (offer_of w + 1) d → compose d (w ∷ []) ≡ w ∷ d
first_in [] w f = nil-compose (w ∷ [])
first_in (v ∷ d) w f = compose_above v w d [] (omega (arith, From-head (offer_of w + 1) v d f)) ∙ ap (◌∷◌ w) (compose-nil (v ∷ d))

-- making a word at a position of its offer
pub made-set : (n : ℕ) (reads : List ℕ) (words : List (Option ℕ)) → From n (shown reads words) → length words ≡ length reads
    → (i : ℕ) → i < length reads → (w : ℕ) → offer_of w ≡ offer_of (get_or (shown reads words) i 0)
    → made (set words i (Some w)) ≡ compose (made words) (w ∷ [])
made-set n [] words f s i b w e = absurd (omega arith)
made-set n (v ∷ reads) [] f s i b w e = absurd (omega arith)
made-set n (v ∷ reads) (Some u ∷ words) f s zero b w e =
    sym (compose_same u w (made words) [] (sym e) ∙ ap (◌∷◌ w) (compose-nil (made words)))
made-set n (v ∷ reads) (None ∷ words) f s zero b w e =
    sym (first_in (made words) w (rw e (made_rises (offer_of v + 1) reads words (omega arith) (from_tail n v _ f))))
made-set n (v ∷ reads) (Some u ∷ words) f s (suc i) b w e =
    let there : offer_of u + 1 ≤ offer_of (get_or (shown reads words) i 0)
    = least_at (offer_of u + 1) (shown reads words) (from_tail n u _ f) i (omega (arith, length-shown reads words (omega arith))) in
    ap (◌∷◌ u) (made-set (offer_of u + 1) reads words (from_tail n u _ f) (omega arith) i (omega arith) w e)
    ∙ sym (compose_below u w (made words) [] (omega arith))
made-set n (v ∷ reads) (None ∷ words) f s (suc i) b w e =
    made-set (offer_of v + 1) reads words (from_tail n v _ f) (omega arith) i (omega arith) w e
