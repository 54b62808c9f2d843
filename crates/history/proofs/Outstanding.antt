-- The read sets that are out: for each open slot the caller has what the slot's issue filled, and each call keeps it so.
-- Assumes nothing.
use mathlib.Core.Path.{◌≡◌, refl, sym, subst, ◌∙◌}
use mathlib.Core.List.{List, ◌++◌}
use Prim.Native.Nat.{ℕ, ◌≤◌, ◌<◌}
use native.Mathlib.Decide.{ℕ_discrete}
use native.Mathlib.Omega.{arith}
use borrow.Author.Tests.{leb-false}
use lib.ListN.{length, get_or, set, length-map, length-set}
use lib.Seq.{get_or-set_same, get_or-set_other}
use Rattle.answers.specs.declared.call.Reader.{Reader}
use Rattle.history.specs.Plain.{Test, accept, first_of, Line, Place, closed, reading}
use Rattle.history.specs.Plain.{Plain, tip_of, map_at, floor_of, lists_between, slot_tests, with_line, with_place, with_checkpoint}
use Rattle.history.specs.Traces.{ReadSet, nothing, holds, holds_or}
use Rattle.history.proofs.ReadCalls.{Shows, Shows-line, shows_later}
use Rattle.history.proofs.Stored.{accepted_not}
use Rattle.history.proofs.Views.{view_of, Fit, slot_of, place_range}

-- an open place's read set is what its issue filled; of a closed place nothing is asked
abbrev pub Kept : Line → ℕ → ReadSet → Place → Type 0
Kept l c nothing closed = Unit
Kept l c (holds words) closed = Unit
Kept l c nothing (reading n offers) = ⊥
Kept l c (holds words) (reading n offers) = Shows l c n offers words

pub record Outstanding (p : Plain) (sets : List ReadSet) : Type 0 where
  pub eight : length sets ≡ 8
  pub each : (slot : ℕ) → Kept p.line p.checkpoint (get_or sets slot nothing) (get_or p.places slot closed)

pub of_closed : (l : Line) (c : ℕ) (x : ReadSet) → Kept l c x closed
of_closed l c nothing = tt
of_closed l c (holds words) = tt

-- the words lent to a forward on an open slot
pub from_set : (l : Line) (c : ℕ) (x : ReadSet) (words : List ℕ) (n : ℕ) (offers : List ℕ)
    → Kept l c x (reading n offers) → Shows l c n offers (holds_or x words)
from_set l c nothing words n offers h = absurd h
from_set l c (holds ws) words n offers h = h

-- a slot that passed ground 3
pub in_slots : (reader : Reader) (gs : List Test) → first_of (slot_tests reader ++ gs) ≡ accept → reader.slot < 8
in_slots reader gs e = leb-false 8 reader.slot (accepted_not _ _ _ e).0

module _ (p : Plain) (f : Fit p) (sets : List ReadSet) (t : Outstanding p sets) where
  places_eight : length p.places ≡ 8
  unfolding view_of
  places_eight = sym (length-map p.places slot_of) ∙ f.good.eight

  place_within : (slot n : ℕ) (offers : List ℕ) → get_or p.places slot closed ≡ reading n offers
      → (floor_of p ≤ n) × (n ≤ p.checkpoint)
  unfolding view_of
  place_within slot n offers e = place_range p.checkpoint p.places slot n offers f.good.below e

  -- the sets in a line and at a checkpoint in which each read set that is out shows what it has to
  shown_still : (l : Line) (c : ℕ)
      → ((n : ℕ) (offers words : List ℕ) → p.line.start ≤ n → n ≤ p.checkpoint
      → Shows p.line p.checkpoint n offers words → Shows l c n offers words)
      → (slot : ℕ) → Kept l c (get_or sets slot nothing) (get_or p.places slot closed)
  shown_still l c shows slot = go (get_or sets slot nothing) (get_or p.places slot closed) refl (t.each slot)
    where
      go : (x : ReadSet) (y : Place) → get_or p.places slot closed ≡ y → Kept p.line p.checkpoint x y → Kept l c x y
      go x closed e h = of_closed l c x
      go nothing (reading n offers) e h = h
      go (holds words) (reading n offers) e h =
          let range = place_within slot n offers e in
          shows n offers words (omega (arith, f.low, range.0)) range.1 h

  -- a line that has the same lists up to the checkpoint, and the same map there
  pub sets-line : (l : Line) → map_at l p.checkpoint ≡ map_at p.line p.checkpoint
      → ((n : ℕ) → p.line.start ≤ n → n ≤ p.checkpoint → lists_between l n p.checkpoint ≡ lists_between p.line n p.checkpoint)
      → Outstanding (with_line p l) sets
  sets-line l there lists =
      record {
        eight = t.eight;
        each = shown_still l p.checkpoint (λ n offers words from below h. Shows-line h l (lists n from below) there);
      }

  -- a later checkpoint
  pub sets_later : (state : ℕ) → p.checkpoint ≤ state → state ≤ tip_of p.line → Outstanding (with_checkpoint p state) sets
  sets_later state low high =
      record {
        eight = t.eight;
        each = shown_still p.line state (λ n offers words from below h. shows_later h f.whole from below state low high);
      }

  -- a slot with a new read set
  pub sets_slot : (slot : ℕ) (x : ReadSet) (y : Place) → slot < 8 → Kept p.line p.checkpoint x y
      → Outstanding (with_place p slot y) (set sets slot x)
  sets_slot slot x y h fits = record { eight = length-set sets slot x ∙ t.eight; each = λ k. go k (ℕ_discrete k slot) }
    where
      go : (k : ℕ) → Dec (k ≡ slot)
          → Kept p.line p.checkpoint (get_or (set sets slot x) k nothing) (get_or (set p.places slot y) k closed)
      go k (yes e) =
          subst
          (λ (j : ℕ). Kept p.line p.checkpoint (get_or (set sets slot x) j nothing) (get_or (set p.places slot y) j closed))
          (sym e)
          (rw (
            get_or-set_same sets slot x nothing (omega (arith, t.eight)),
            get_or-set_same p.places slot y closed
                (omega (arith, places_eight)),
          ) fits)
      go k (no n) = rw (get_or-set_other sets slot k x nothing n, get_or-set_other p.places slot k y closed n) (t.each k)

  pub sets-closed : (slot : ℕ) → slot < 8 → Outstanding (with_place p slot closed) (set sets slot nothing)
  sets-closed slot h = sets_slot slot nothing closed h tt
