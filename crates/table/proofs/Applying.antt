-- The merge that writes the map after changes.
-- Assumes nothing.
use mathlib.Core.Bool.{Bool, true, false}
use mathlib.Core.Path.{◌≡◌, refl, sym, ap, ◌∙◌}
use mathlib.Core.List.{List, [], ◌∷◌}
use Prim.Native.Nat.{ℕ, ◌+◌, ◌≤◌, ◌<◌}
use native.Mathlib.Omega.{arith}
use lib.ListN.{length, drop, get_or, set, length-set, drop_of_length-le}
use Rattle.entry.specs.Word.{offer_of, Put}
use Rattle.std.specs.declared.cmp.Ordering.{Ordering}
use Rattle.std.specs.declared.cmp.Ordering.TheVariants.{Less, Equal, Greater}
use Rattle.changes.specs.Calculus.{side_of, compose, puts, apply}
use Rattle.changes.specs.Lists.{All}
use Rattle.changes.proofs.Applying.{apply-nil}
use Rattle.changes.proofs.Each.{all_at, all_drop}
use Rattle.changes.proofs.Merging.{nil-compose, compose_above, puts_put, puts_other}
use Rattle.composing.proofs.Positions.{below_there, same_there, passed, compose_at_below, compose_at_same}
use Rattle.words.proofs.Parts.{next}
use Rattle.words.proofs.Writing.{Writing, stored, unwritten}
use Rattle.table.proofs.Sides.{below, found, is_below}

-- a change that comes first in what is left
above_first : (l : List ℕ) (w : ℕ) (b : List ℕ) → side_of l w ≡ Greater → compose l (w ∷ b) ≡ w ∷ compose l b
above_first [] w b e = nil-compose (w ∷ b) ∙ ap (λ (r : List ℕ). w ∷ r) (sym (nil-compose b))
above_first (v ∷ l) w b e = compose_above v w l b (passed w v l e)

-- i words of the map and j changes are passed, and k words are written
pub record Applying (m d out out₀ : List ℕ) (i j k : ℕ) : Type 0 where
  pub i_in : i ≤ length m
  pub j_in : j ≤ length d
  pub few : k ≤ i + j
  pub room : length m + length d ≤ length out
  pub puts : All Put m
  pub writing : Writing out out₀ k (apply (drop i m) (drop j d)) (apply m d)

module _ {m d out out₀ : List ℕ} {i j k : ℕ} (c : Applying m d out out₀ i j k) where
  module _ (h : j < length d) where
    abbrev w : ℕ
    w = get_or d j 0

    -- a word of the map that lies below the next change
    module _ {b : Bool} (e : b ≡ below (side_of (drop i m) w)) (t : b ≡ true) where
      pub there : (i < length m) × (offer_of (get_or m i 0) < offer_of w)
      there = below_there m i w (is_below (side_of (drop i m) w) b e t)

      kept_first : apply (drop i m) (drop j d) ≡ get_or m i 0 ∷ apply (drop (i + 1) m) (drop j d)
      unfolding apply
      kept_first =
          ap puts (compose_at_below m d i j there.0 h there.1)
          ∙ puts_put (get_or m i 0) (compose (drop (i + 1) m) (drop j d)) (all_at Put m 0 i c.puts there.0)

      pub kept : Applying m d (set out k (get_or m i 0)) out₀ (i + 1) j (k + 1)
      kept =
          record {
            i_in = omega (arith, there.0);
            j_in = c.j_in;
            few = omega (arith, c.few);
            room = rw length-set c.room;
            puts = c.puts;
            writing = stored c.writing kept_first (omega (arith, c.room, c.few, there.0));
          }

    -- the next change: it goes past the word at its offer, if there is one
    module _ {b t : Bool} {f : ℕ} (e : b ≡ below (side_of (drop i m) w)) (n : b ≡ false) (et : t ≡ found (side_of (drop i m) w))
        (past : t ≡ true → f ≡ 1) (stays : t ≡ false → f ≡ 0) where
      here : (s : Ordering) → side_of (drop i m) w ≡ s → (i + f ≤ length m)
          × (compose (drop i m) (drop j d) ≡ w ∷ compose (drop (i + f) m) (drop (j + 1) d))
      here Less q = let t : b ≡ true = e ∙ ap below q in absurd (let z : ◌≡◌ {A = ℕ} 0 1 = cc in omega arith)
      here Equal q =
          let at = same_there m i w q in
          let one : f ≡ 1 = past (et ∙ ap found q) in
          rw one (omega (arith, at.0), compose_at_same m d i j at.0 h at.1)
      here Greater q =
          let same : i + f ≡ i = omega (arith, stays (et ∙ ap found q)) in
          rw same (c.i_in, rw (next d j h) (above_first (drop i m) w (drop (j + 1) d) q))

      pub i_next : i + f ≤ length m
      i_next = (here (side_of (drop i m) w) refl).0

      taken : compose (drop i m) (drop j d) ≡ w ∷ compose (drop (i + f) m) (drop (j + 1) d)
      taken = (here (side_of (drop i m) w) refl).1

      pub Put-change : Put w → Applying m d (set out k w) out₀ (i + f) (j + 1) (k + 1)
      unfolding apply
      Put-change p =
          record {
            i_in = i_next;
            j_in = omega arith;
            few = omega (arith, c.few);
            room = rw length-set c.room;
            puts = c.puts;
            writing = stored c.writing (ap puts taken ∙ puts_put w (compose (drop (i + f) m) (drop (j + 1) d)) p)
                (omega (arith, c.room, c.few, c.i_in));
          }

      pub removed_change : (Put w → ⊥) → Applying m d out out₀ (i + f) (j + 1) k
      unfolding apply
      removed_change p =
          record {
            i_in = i_next;
            j_in = omega arith;
            few = omega (arith, c.few);
            room = c.room;
            puts = c.puts;
            writing = unwritten c.writing (ap puts taken ∙ puts_other w (compose (drop (i + f) m) (drop (j + 1) d)) p);
          }

  -- no change is left
  pub left : length d ≤ j → apply (drop i m) (drop j d) ≡ drop i m
  left h = ap (apply (drop i m)) (drop_of_length-le d h) ∙ apply-nil (drop i m) (all_drop Put i m c.puts)
