-- Composition is associative, whatever the lists hold.
-- Assumes nothing.
use mathlib.Core.Path.{◌≡◌}
use mathlib.Core.List.{List, [], ◌∷◌}
use Prim.Native.Nat.{ℕ}
use native.Mathlib.Omega.{arith}
use Rattle.entry.specs.Word.{offer_of}
use Rattle.changes.specs.Calculus.{compose}
use Rattle.changes.proofs.Merging.{Lies, lower, equal, higher, lies, compose-nil, nil-compose, compose_below}
use Rattle.changes.proofs.Merging.{compose_same, compose_above}

abbrev Assoc : List ℕ → List ℕ → List ℕ → Type 0
Assoc a b c = compose (compose a b) c ≡ compose a (compose b c)

module _ (u v w : ℕ) (a b c : List ℕ) where
  heads : Assoc a (v ∷ b) (w ∷ c) → Assoc (u ∷ a) b (w ∷ c) → Assoc (u ∷ a) (v ∷ b) c → Assoc a b (w ∷ c)
      → Assoc a (v ∷ b) c → Assoc (u ∷ a) b c → Assoc a b c
      → Lies (offer_of u) (offer_of v) → Lies (offer_of v) (offer_of w) → Lies (offer_of u) (offer_of w) → Assoc (u ∷ a) (v ∷ b) (w ∷ c)
  heads i-u i-v i-w i-uv i-uw i-vw i (lower p) (lower q) r =
      cc (
        compose_below u v a b p,
        compose_below v w b c q,
        compose_below u w (compose a (v ∷ b)) c (omega arith),
        compose_below u v a (compose b (w ∷ c)) p,
        i-u,
      )
  heads i-u i-v i-w i-uv i-uw i-vw i (lower p) (equal q) r =
      cc (
        compose_below u v a b p,
        compose_same v w b c q,
        compose_below u w (compose a (v ∷ b)) c (omega arith),
        compose_below u w a (compose b c) (omega arith),
        i-u,
      )
  heads i-u i-v i-w i-uv i-uw i-vw i (lower p) (higher q) (lower r) =
      cc (
        compose_below u v a b p,
        compose_above v w b c q,
        compose_below u w (compose a (v ∷ b)) c r,
        compose_below u w
            a (compose (v ∷ b) c) r,
        i-u,
      )
  heads i-u i-v i-w i-uv i-uw i-vw i (lower p) (higher q) (equal r) =
      cc (
        compose_below u v a b p,
        compose_above v w b c q,
        compose_same u w (compose a (v ∷ b)) c r,
        compose_same u w a
            (compose (v ∷ b) c) r,
        i-uw,
      )
  heads i-u i-v i-w i-uv i-uw i-vw i (lower p) (higher q) (higher r) =
      cc (
        compose_below u v a b p,
        compose_above v w b c q,
        compose_above u w (compose a (v ∷ b)) c r,
        compose_above u w
            a (compose (v ∷ b) c) r,
        i-w,
      )
  heads i-u i-v i-w i-uv i-uw i-vw i (equal p) (lower q) r =
      cc (
        compose_same u v a b p,
        compose_below v w b c q,
        compose_below v w (compose a b) c q,
        compose_same u v a
            (compose b (w ∷ c)) p,
        i-uv,
      )
  heads i-u i-v i-w i-uv i-uw i-vw i (equal p) (equal q) r =
      cc (
        compose_same u v a b p,
        compose_same v w b c q,
        compose_same v w (compose a b) c q,
        compose_same u w a
            (compose b c) (omega arith),
        i,
      )
  heads i-u i-v i-w i-uv i-uw i-vw i (equal p) (higher q) r =
      cc (
        compose_same u v a b p,
        compose_above v w b c q,
        compose_above v w (compose a b) c q,
        compose_above u w a
            (compose (v ∷ b) c) (omega arith),
        i-w,
      )
  heads i-u i-v i-w i-uv i-uw i-vw i (higher p) (lower q) r =
      cc (
        compose_above u v a b p,
        compose_below v w b c q,
        compose_below v w (compose (u ∷ a) b) c q,
        compose_above u v
            a (compose b (w ∷ c)) p,
        i-v,
      )
  heads i-u i-v i-w i-uv i-uw i-vw i (higher p) (equal q) r =
      cc (
        compose_above u v a b p,
        compose_same v w b c q,
        compose_same v w (compose (u ∷ a) b) c q,
        compose_above u w a
            (compose b c) (omega arith),
        i-vw,
      )
  heads i-u i-v i-w i-uv i-uw i-vw i (higher p) (higher q) r =
      cc (
        compose_above u v a b p,
        compose_above v w b c q,
        compose_above v w (compose (u ∷ a) b) c q,
        compose_above u w
            a (compose (v ∷ b) c) (omega arith),
        i-w,
      )

pub compose_assoc : (a b c : List ℕ) → compose (compose a b) c ≡ compose a (compose b c)
compose_assoc [] b c = cc (nil-compose b, nil-compose (compose b c))
compose_assoc (u ∷ a) [] c = cc (compose-nil (u ∷ a), nil-compose c)
compose_assoc (u ∷ a) (v ∷ b) [] = cc (compose-nil (v ∷ b), compose-nil (compose (u ∷ a) (v ∷ b)))
compose_assoc (u ∷ a) (v ∷ b) (w ∷ c) =
    heads u v w a b c
    (compose_assoc a (v ∷ b) (w ∷ c))
    (compose_assoc (u ∷ a) b (w ∷ c))
    (compose_assoc (u ∷ a) (v ∷ b) c)
    (compose_assoc a b (w ∷ c))
    (compose_assoc a (v ∷ b) c)
    (compose_assoc (u ∷ a) b c)
    (compose_assoc a b c)
    (lies (offer_of u) (offer_of v))
    (lies (offer_of v) (offer_of w))
    (lies (offer_of u) (offer_of w))
