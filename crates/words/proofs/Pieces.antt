-- A slice that is written from its front piece by piece, each piece by a call that is lent the whole slice and a position.
-- Assumes nothing.
use mathlib.Core.Path.{◌≡◌, refl, sym, ap, ◌∙◌}
use mathlib.Core.List.{List, [], ◌++◌, append_assoc, append-nil}
use Prim.Native.Nat.{ℕ, ◌+◌, ◌≤◌}
use native.Mathlib.Omega.{arith}
use lib.ListN.{length, take, drop, length-append, length-drop}
use lib.Seq.{length-take-le, take_at, drop_at}
use Rattle.words.proofs.Writing.{Writing, behind, done}

-- a slice of which the part before a position is written
pub start_at : (out rest : List ℕ) (k : ℕ) → k ≤ length out → Writing out out k rest (take k out ++ rest)
start_at out rest k h = record { same = refl; within = h; front = refl; back = refl }

-- a piece is stored at the position, and r is the position behind it
module _
    {out out₀ : List ℕ}
    {k : ℕ}
    {left goal : List ℕ}
    (h : Writing out out₀ k left goal)
    (piece rest : List ℕ)
    (s : left ≡ piece ++ rest)
    (r : ℕ)
    (e : r ≡ k + length piece)
    (room : r ≤ length out)
    {last : List ℕ}
    (l : last ≡ take k out ++ piece ++ drop r out) where
  front_length : length (take k out ++ piece) ≡ r
  front_length =
      length-append (take k out) piece ∙ ap (λ (n : ℕ). n + length piece) (length-take-le k out h.within) ∙ sym e

  last-length : length last ≡ length out
  last-length =
      ap length l ∙ length-append (take k out ++ piece) (drop r out) ∙ omega (arith, front_length, length-drop r out)

  pub wrote_piece : Writing last out₀ r rest goal
  wrote_piece =
      record {
        same = last-length ∙ h.same;
        within = omega (arith, last-length);
        front =
            ap (λ (f : List ℕ). f ++ rest) (ap (take r) l ∙ take_at (take k out ++ piece) (drop r out) r front_length)
            ∙ append_assoc (take k out) piece rest
            ∙ ap (λ (f : List ℕ). take k out ++ f) (sym s)
            ∙ h.front;
        back =
            ap (drop r) l
            ∙ drop_at (take k out ++ piece) (drop r out) r front_length
            ∙ behind h r (omega arith);
      }

-- what is written on a slice that was written before
pub continued : {out mid out₀ : List ℕ} {k m : ℕ} {rest left goal : List ℕ} → Writing mid out₀ k rest goal
    → Writing out mid m left (take k mid ++ rest) → k ≤ m → Writing out out₀ m left goal
continued h w l =
    record {
      same = w.same ∙ h.same;
      within = w.within;
      front = w.front ∙ h.front;
      back = w.back ∙ behind h _ l;
    }

-- nothing is left: the slice is what was to be written, with the part behind the position as it was
pub completed : {out out₀ : List ℕ} {k : ℕ} {goal : List ℕ} → Writing out out₀ k [] goal → out ≡ goal ++ drop k out₀
completed {out} {out₀} {k} {goal} h =
    done h refl ∙ ap (λ (n : ℕ). goal ++ drop n out₀)
    (ap length (sym h.front) ∙ ap length (append-nil (take k out)) ∙ length-take-le k out h.within)
