-- What is left of a list from a position on, in the code's terms, and a part of a slice that was lent and has come back.
-- Assumes nothing.
use mathlib.Core.Path.{◌≡◌, ◌∙◌, ap, sym}
use mathlib.Core.List.{List, ◌∷◌, ◌++◌, append-nil}
use Prim.Native.Nat.{ℕ, zero, suc, ◌+◌, ◌-◌, ◌≤◌, ◌<◌}
use native.Mathlib.Numerals.{add-one}
use native.Mathlib.Omega.{arith}
use lib.ListN.{length, take, drop, get_or, replicate, length-drop}
use lib.Seq.{drop-cons, take_all, drop-length, drop-drop}
use borrow.Rule.Slice.PartMut.{put_mid, Post-is}

-- the word at a position, and what is behind it
pub next : (l : List ℕ) (i : ℕ) → i < length l → drop i l ≡ get_or l i 0 ∷ drop (i + 1) l
next l i h = drop-cons l i 0 h ∙ ap (λ (n : ℕ). get_or l i 0 ∷ drop n l) (sym (add-one i))

-- what two lists share from a position on, they share further on
pub further : (l l₀ : List ℕ) (k n : ℕ) → drop k l ≡ drop k l₀ → k ≤ n → drop n l ≡ drop n l₀
further l l₀ k n e h =
    let sum : k + (n - k) ≡ n = omega arith in
    rw (← sum, ← drop-drop (n - k) k l, ← drop-drop (n - k) k l₀, e)

-- the part from a position to the end is what is left there
pub part : (l : List ℕ) (i : ℕ) → take (length l - i) (drop i l) ≡ drop i l
part l i = take_all (length l - i) (drop i l) (omega (arith, length-drop i l))

-- a part to the end that was lent and has come back
pub put_part : (s last : List ℕ) (k : ℕ) → k ≤ length s → put_mid k (length s - k) s last ≡ take k s ++ last
put_part s last k h =
    ap (λ (l : List ℕ). take k s ++ (last ++ l)) (Post-is k (length s) s h ∙ drop-length s)
    ∙ ap (λ (l : List ℕ). take k s ++ l) (append-nil last)

-- the next of the zeros that are left
pub zeros_next : (n i : ℕ) → i < n → replicate {A = ℕ} (n - i) 0 ≡ 0 ∷ replicate (n - (i + 1)) 0
zeros_next n i h =
    let e : n - i ≡ suc (n - (i + 1)) = omega arith in
    ap (λ (m : ℕ). replicate {A = ℕ} m 0) e

-- zeros from a position on
pub zeros_from : (n m : ℕ) → drop n (replicate {A = ℕ} m 0) ≡ replicate (m - n) 0
zeros_from zero m =
    let same : m ≡ m - 0 = omega arith in
    ap (λ (k : ℕ). replicate {A = ℕ} k 0) same
zeros_from (suc n) zero =
    let same : 0 ≡ 0 - suc n = omega arith in
    ap (λ (k : ℕ). replicate {A = ℕ} k 0) same
zeros_from (suc n) (suc m) =
    let same : m - n ≡ suc m - suc n = omega arith in
    zeros_from n m ∙ ap (λ (k : ℕ). replicate {A = ℕ} k 0) same
