-- The number in eight bytes, in two halves.
-- Assumes nothing.
use mathlib.Core.Path.{◌≡◌, ap, ◌∙◌}
use mathlib.Core.List.{List, ◌++◌}
use Prim.Native.Nat.{ℕ, ◌+◌, ◌*◌, ◌^◌, ◌≤◌}
use native.Mathlib.Omega.{arith}
use lib.ListN.{length, take, drop, length-drop}
use lib.Seq.{length-take-le, take-add, drop-drop}
use Rattle.big_endian.specs.Bytes.{value_of}
use Rattle.big_endian.proofs.Bytes.{value_append}

pub eight_at : (b : List ℕ) (at : ℕ) → at + 8 ≤ length b → value_of (take 8 (drop at b))
    ≡ value_of (take 4 (drop at b)) * 2 ^ 32 + value_of (take 4 (drop (at + 4) b))
eight_at b at h =
    ap value_of (take-add 4 4 (drop at b) ∙ ap (λ (r : List ℕ). take 4 (drop at b) ++ take 4 r) (drop-drop 4 at b))
    ∙ value_append (take 4 (drop at b)) (take 4 (drop (at + 4) b))
    ∙ ap (λ (n : ℕ). value_of (take 4 (drop at b)) * 256 ^ n + value_of (take 4 (drop (at + 4) b)))
    (length-take-le 4 (drop (at + 4) b) (omega (arith, length-drop (at + 4) b)))
