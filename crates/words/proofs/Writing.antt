-- A slice that is written from its front: what is written so far and what is left make the goal, and the words behind are as they were.
-- Assumes nothing.
use mathlib.Core.Path.{◌≡◌, refl, sym, ap, ap₂, subst, ◌∙◌}
use mathlib.Core.List.{List, [], ◌∷◌, ◌++◌, append_assoc, append-nil}
use Prim.Native.Nat.{ℕ, ◌+◌, ◌-◌, ◌≤◌, ◌<◌}
use native.Mathlib.Numerals.{add-one}
use native.Mathlib.Omega.{arith}
use lib.ListN.{length, take, drop, set, get_or, length-append, length-drop, length-set, take-append-drop, drop_of_length-le}
use lib.Seq.{take-suc-set, drop-set-lt, append_snoc, drop-drop, length-take-le, get_or-drop}
use borrow.Rule.Slice.PartMut.{put_mid}
use Rattle.words.proofs.Parts.{part, put_part, further}

-- k words of the slice are written; with the rest behind them they are the goal
pub record Writing (out out₀ : List ℕ) (k : ℕ) (rest goal : List ℕ) : Type 0 where
  pub same : length out ≡ length out₀
  pub within : k ≤ length out
  pub front : take k out ++ rest ≡ goal
  pub back : drop k out ≡ drop k out₀

pub start : (out goal : List ℕ) → Writing out out 0 goal goal
start out goal = record { same = refl; within = omega arith; front = refl; back = refl }

-- the words behind what is written are as they were
pub behind : {out out₀ : List ℕ} {k : ℕ} {rest goal : List ℕ} → Writing out out₀ k rest goal → (n : ℕ) → k ≤ n → drop n out ≡ drop n out₀
behind {out} {out₀} {k} h n l = further out out₀ k n h.back l

pub word_behind : {out out₀ : List ℕ} {k : ℕ} {rest goal : List ℕ} → Writing out out₀ k rest goal → (n : ℕ) → k ≤ n
    → get_or out n 0 ≡ get_or out₀ n 0
word_behind {out} {out₀} h n l =
    let e : n ≡ n + 0 = omega arith in
    ap (λ (m : ℕ). get_or out m 0) e
    ∙ sym (get_or-drop n out 0 0)
    ∙ ap (λ (r : List ℕ). get_or r 0 0) (behind h n l)
    ∙ get_or-drop n out₀ 0 0
    ∙ ap (λ (m : ℕ). get_or out₀ m 0) (sym e)

-- a word is stored
pub wrote : {out out₀ : List ℕ} {k : ℕ} {w : ℕ} {rest goal : List ℕ} → Writing out out₀ k (w ∷ rest) goal → k
    < length out → Writing (set out k w) out₀ (k + 1) rest goal
wrote {out} {out₀} {k} {w} {rest} {goal} h l =
    record {
      same = length-set out k w ∙ h.same;
      within = rw length-set (omega arith);
      front = rw (add-one, take-suc-set) (append_snoc (take k out) w rest ∙ h.front);
      back = drop-set-lt (k + 1) out k w (omega arith) ∙ behind h (k + 1) (omega arith);
    }

-- nothing is stored, and what is left is put another way
pub unwritten : {out out₀ : List ℕ} {k : ℕ} {rest goal : List ℕ} → Writing out out₀ k rest goal → {left : List ℕ} → rest
    ≡ left → Writing out out₀ k left goal
unwritten {out} {out₀} {k} {rest} {goal} h e = subst (λ (r : List ℕ). Writing out out₀ k r goal) e h

-- the next of the words that are left is stored
pub stored : {out out₀ : List ℕ} {k : ℕ} {rest goal : List ℕ} → Writing out out₀ k rest goal → {w : ℕ} {left : List ℕ}
    → rest ≡ w ∷ left → k < length out → Writing (set out k w) out₀ (k + 1) left goal
stored {out} {out₀} {k} {rest} {goal} h {w} {left} e l = wrote (unwritten h e) l

-- the rest is copied behind what is written
module _ {out out₀ : List ℕ} {k : ℕ} {rest goal : List ℕ} (h : Writing out out₀ k rest goal) where
  pub size : k + length rest ≡ length goal
  size = omega (arith, simp length-append at (ap length h.front), length-take-le k out h.within)

  pub whole : take k out ++ (rest ++ drop (length rest) (drop k out)) ≡ goal ++ drop (length goal) out₀
  whole =
      ap (λ (l : List ℕ). take k out ++ (rest ++ l))
      (drop-drop (length rest) k out ∙ behind h (k + length rest) (omega arith) ∙ ap (λ (n : ℕ). drop n out₀) size)
      ∙ sym (append_assoc (take k out) rest (drop (length goal) out₀))
      ∙ ap (λ (l : List ℕ). l ++ drop (length goal) out₀) h.front

-- the rest is the part from i on of another slice, and is copied to the part behind what is written
module _ {out out₀ : List ℕ} {k : ℕ} {rest goal : List ℕ} (h : Writing out out₀ k rest goal) (a : List ℕ) (i : ℕ)
    (e : rest ≡ drop i a) where
  pub copied_size : k + (length a - i) ≡ length goal
  copied_size = omega (arith, size h, ap length e, length-drop i a)

  pub copied : (last : List ℕ) → last ≡ take (length a - i) (drop i a)
      ++ drop (length (take (length a - i) (drop i a))) (take (length out - k) (drop k out))
      → put_mid k (length out - k) out last ≡ goal ++ drop (k + (length a - i)) out₀
  copied last l =
      put_part out last k h.within
      ∙ ap (λ (r : List ℕ). take k out ++ r) (l ∙ ap₂ (λ (r s : List ℕ). r ++ drop (length r) s) (part a i ∙ sym e) (part out k))
      ∙ whole h
      ∙ ap (λ (n : ℕ). goal ++ drop n out₀) (sym copied_size)

-- nothing is left
pub done : {out out₀ : List ℕ} {k : ℕ} {rest goal : List ℕ} → Writing out out₀ k rest goal → rest ≡ [] → out ≡ goal
    ++ drop (length goal) out₀
done {out} {out₀} {k} {rest} {goal} h e =
    sym (take-append-drop k out) ∙ whole (unwritten h e)

-- and the goal fills the slice
pub filled : {out out₀ : List ℕ} {k : ℕ} {rest goal : List ℕ} → Writing out out₀ k rest goal → rest ≡ [] → length goal
    ≡ length out₀ → out ≡ goal
filled {out₀ = out₀} {goal = goal} h e l =
    done h e
    ∙ ap (λ (r : List ℕ). goal ++ r) (drop_of_length-le out₀ {i = length goal} (omega arith))
    ∙ append-nil goal
