-- The view of a store as a function of the plain list, and each call on it: what the call makes of the view is the view of what it
-- makes of the plain list.
-- Assumes nothing.
use mathlib.Core.Path.{◌≡◌, refl, sym, ap, ap₂, ◌∙◌}
use mathlib.Core.Bool.{true, false}
use mathlib.Core.List.{List, [], ◌∷◌, ◌++◌, map}
use Prim.Native.Nat.{ℕ, zero, suc, ◌-◌, ◌≤◌, min}
use native.Mathlib.Omega.{arith}
use lib.ListN.{length, get_or, take, drop, set, get_or-map}
use Rattle.changes.specs.Calculus.{apply, compose_all}
use Rattle.changes.specs.Lists.{All}
use Rattle.layout.specs.Clauses.{are_lengths}
use Rattle.views.specs.Trim.{trimmed}
use Rattle.views.specs.View.{View, view_table, view_old, view_slots, Slot, closed as closed_slot, holding, open_of, held_steps}
use Rattle.views.specs.View.{least_slot, NotAbove, Good, map_at as view_map_at}
use Rattle.views.proofs.SlotLists.{least_most}
use Rattle.read_views.specs.OnView.{with_slot, between}
use Rattle.read_views.proofs.SlotSets.{least_set, least_closing}
use Rattle.step_views.specs.StepViews.{commit_view, roll_view, flushed_view}
use Rattle.history.specs.Plain.{Line, Place, closed, reading, Plain, tip_of, map_at, least_of, floor_of, held_lists, lists_between}
use Rattle.history.specs.Plain.{is_open, open_at, grown, cut_above, with_line, with_place, with_checkpoint}
use Rattle.history.proofs.Lines.{Whole, carried, between_length, between_all, between_join, between_take, between_drop}
use Rattle.history.proofs.Lines.{grown_map, grown_between, grown_last, cut_tip, cut_map, cut_between}

-- a place as a slot of the head: its number, without its offers
abbrev pub slot_of : Place → Slot
slot_of closed = closed_slot
slot_of (reading n offers) = holding n

-- the view of the store that does what the plain list does: its held steps are the lists from the floor to the tip
unfoldable pub view_of : Plain → View
view_of p = record {
  base = map_at p.line p.checkpoint;
  old = lists_between p.line (floor_of p) p.checkpoint;
  steps = lists_between p.line p.checkpoint (tip_of p.line);
  checkpoint = p.checkpoint;
  slots = map slot_of p.places;
  limits = p.limits;
  depth = p.depth;
}

-- a plain list that a store can follow
pub record Fit (p : Plain) : Type 0 where
  pub range : are_lengths p.limits.table p.limits.journal ≡ true
  pub whole : Whole p.line
  pub low : p.line.start ≤ floor_of p
  pub high : p.checkpoint ≤ tip_of p.line
  pub good : Good (view_of p)

-- the floor, from the slots and from the places
pub least_is : (c : ℕ) (places : List Place) → least_slot c (map slot_of places) ≡ least_of c places
unfolding least_slot least_of
least_is c [] = refl
least_is c (closed ∷ places) = least_is c places
least_is c (reading n offers ∷ places) = ap (min n) (least_is c places)

least_up : (a b : ℕ) → a ≤ b → (places : List Place) → least_of a places ≤ least_of b places
unfolding least_of
least_up a b h [] = h
least_up a b h (closed ∷ places) = least_up a b h places
least_up a b h (reading n offers ∷ places) =
    let i = least_up a b h places in
    omega (arith, i)

pub floor_most : (c : ℕ) (places : List Place) → least_of c places ≤ c
floor_most c places = omega (arith, least_is c places, least_most c (map slot_of places))

-- the number of an open place lies from the floor to the checkpoint
number_in : Place → ℕ
number_in closed = 0
number_in (reading n offers) = n

same_number : (m n : ℕ) (o offers : List ℕ) → reading m o ≡ reading n offers → m ≡ n
unfolding number_in
same_number m n o offers e = ap number_in e

pub place_range : (c : ℕ) (places : List Place) (slot n : ℕ) (offers : List ℕ) → All (NotAbove c) (map slot_of places)
    → get_or places slot closed ≡ reading n offers → (least_of c places ≤ n) × (n ≤ c)
unfolding All least_of
place_range c [] slot n offers h e = absurd (let z : ◌≡◌ {A = ℕ} 0 1 = cc in omega arith)
place_range c (closed ∷ places) zero n offers h e = absurd (let z : ◌≡◌ {A = ℕ} 0 1 = cc in omega arith)
place_range c (closed ∷ places) (suc slot) n offers h e = place_range c places slot n offers h.1 e
place_range c (reading m o ∷ places) zero n offers h e =
    let same = same_number m n o offers e in
    (omega (arith, same), omega (arith, same, h.0))
place_range c (reading m o ∷ places) (suc slot) n offers h e =
    let i = place_range c places slot n offers h.1 e in
    (omega (arith, i.0), i.1)

map-set : (places : List Place) (k : ℕ) (x : Place) → set (map slot_of places) k (slot_of x) ≡ map slot_of (set places k x)
map-set [] k x = refl
map-set (y ∷ places) zero x = refl
map-set (y ∷ places) (suc k) x = ap (λ (ss : List Slot). slot_of y ∷ ss) (map-set places k x)

open_same : (x : Place) → open_of (slot_of x) ≡ is_open x
open_same closed = refl
open_same (reading n offers) = refl

-- whether a slot is open, from the view's slots
pub open_at_lem : (p : Plain) (slot : ℕ) → get_or (map open_of (map slot_of p.places)) slot false ≡ open_at p slot
open_at_lem p slot =
    get_or-map open_of (map slot_of p.places) slot closed_slot
    ∙ ap open_of (get_or-map slot_of p.places slot closed) ∙ open_same (get_or p.places slot closed)

module _ (p : Plain) (f : Fit p) where
  abbrev l : Line
  l = p.line

  abbrev c : ℕ
  c = p.checkpoint

  abbrev floor : ℕ
  floor = floor_of p

  most : floor ≤ c
  most = floor_most c p.places

  -- the held steps, and those up to a state
  pub held_lists_lem : held_steps (view_of p) ≡ held_lists p
  unfolding view_of
  held_lists_lem = between_join l floor c (tip_of l) f.low most f.high ∙ sym (between_all l floor f.low (omega (arith, most, f.high)))

  -- the steps from the checkpoint to a state, and the map of that state
  pub view_since : (s : ℕ) → c ≤ s → s ≤ tip_of l → take (s - c) (view_of p).steps ≡ lists_between l c s
  unfolding view_of
  view_since s h k = between_take l c s (tip_of l) h k

  pub view_map : (s : ℕ) → c ≤ s → s ≤ tip_of l → view_map_at (view_of p) s ≡ map_at l s
  unfolding view_of view_map_at
  view_map s h k =
      ap (λ (ds : List (List ℕ)). apply (map_at l c) (compose_all ds)) (view_since s h k)
      ∙ carried f.whole c s (omega (arith, f.low, most)) h k

  -- the held steps from a state on, also below the checkpoint
  pub view_between : (a b : ℕ) → floor ≤ a → a ≤ b → b ≤ tip_of l → between (view_of p) a b ≡ lists_between l a b
  unfolding view_of between
  view_between a b low order high =
      let held = between_length l floor c f.low most f.high in
      let from : a - (c - length (lists_between l floor c)) ≡ a - floor = omega (arith, held, most) in
      ap₂ (λ (n : ℕ) (ds : List (List ℕ)). take (b - a) (drop n ds)) from (between_join l floor c (tip_of l) f.low most f.high)
      ∙ ap (take (b - a)) (between_drop l floor a (tip_of l) f.low low (omega arith) (omega arith))
      ∙ between_take l a b (tip_of l) order high

  pub commit_view_lem : (list : List ℕ) → commit_view (view_of p) list ≡ view_of (with_line p (grown l list))
  unfolding view_of commit_view
  commit_view_lem list i =
      view_table (view_of p)
      (sym (grown_map l f.whole list c f.high) i)
      (sym (grown_between l f.whole list floor c f.low most f.high) i)
      (sym (grown_last l f.whole list c (omega (arith, f.low, most)) f.high) i)
      c

  module _ (s : ℕ) (h : c ≤ s) (k : s ≤ tip_of l) where
    from_start : l.start ≤ s
    from_start = omega (arith, f.low, most, h)

    pub roll_view_lem : roll_view (view_of p) s ≡ view_of (with_line p (cut_above l s))
    unfolding view_of roll_view
    roll_view_lem i =
        view_table (view_of p)
        (sym (cut_map l f.whole s from_start k c h) i)
        (sym (cut_between l f.whole s from_start k floor c f.low most h) i)
        (steps-cut i)
        c
      where
        steps-cut : take (s - c) (lists_between l c (tip_of l)) ≡ lists_between (cut_above l s) c (tip_of (cut_above l s))
        steps-cut =
            between_take l c s (tip_of l) h k
            ∙ sym (cut_between l f.whole s from_start k c s (omega (arith, f.low, most)) h (omega arith))
            ∙ ap (lists_between (cut_above l s) c) (sym (cut_tip l f.whole s from_start k))

  -- the steps below a floor that went up
  floor_moved : (new at : ℕ) (steps : List (List ℕ)) → floor ≤ new → new ≤ at → at ≤ tip_of l → steps ≡ lists_between l floor at
      → drop (new - (at - length steps)) steps ≡ lists_between l new at
  floor_moved new at steps up down high e =
      let held = between_length l floor at f.low (omega arith) high in
      let count : new - (at - length steps) ≡ new - floor = omega (arith, ap length e, held) in
      ap₂ drop count e ∙ between_drop l floor new at f.low up down high

  pub floor_later : (s : ℕ) → c ≤ s → floor ≤ least_of s p.places
  floor_later s h = least_up c s h p.places

  pub flush_view : (s : ℕ) → c ≤ s → s ≤ tip_of l → trimmed (flushed_view (view_of p) s) ≡ view_of (with_checkpoint p s)
  unfolding view_of trimmed flushed_view
  flush_view s h k i =
      view_table (view_of p)
      (view_map s h k i)
      (old-moved i)
      (between_drop l c s (tip_of l) (omega (arith, f.low, most)) h k (omega arith) i)
      s
    where
      all_old : lists_between l floor c ++ take (s - c) (lists_between l c (tip_of l)) ≡ lists_between l floor s
      all_old =
          ap (λ (ds : List (List ℕ)). lists_between l floor c ++ ds) (between_take l c s (tip_of l) h k)
          ∙ between_join l floor c s f.low most h

      old-moved :
          let old = lists_between l floor c ++ take (s - c) (lists_between l c (tip_of l)) in
          drop (least_slot s (map slot_of p.places) - (s - length old)) old ≡ lists_between l (least_of s p.places) s
      old-moved =
          let old = lists_between l floor c ++ take (s - c) (lists_between l c (tip_of l)) in
          ap (λ (n : ℕ). drop (n - (s - length old)) old) (least_is s p.places)
          ∙ floor_moved (least_of s p.places) s _ (floor_later s h) (floor_most s p.places) k all_old

  -- an issue leaves the floor
  pub floor_same : (slot : ℕ) (offers : List ℕ) → open_at p slot ≡ false → floor ≡ least_of c (set p.places slot (reading c offers))
  floor_same slot offers free =
      sym (least_is c p.places)
      ∙ sym (least_set c (map slot_of p.places) slot (open_at_lem p slot ∙ free))
      ∙ ap (least_slot c) (map-set p.places slot (reading c offers))
      ∙ least_is c (set p.places slot (reading c offers))

  pub issue_view : (slot : ℕ) (offers : List ℕ) → open_at p slot ≡ false → with_slot (view_of p) slot (holding c)
      ≡ view_of (with_place p slot (reading c offers))
  unfolding view_of with_slot
  issue_view slot offers free i =
      view_slots (view_old (view_of p) (lists_between l (floor_same slot offers free i) c)) (map-set p.places slot (reading c offers) i)

  -- a slot that closes leaves it or moves it up, and so does a later checkpoint
  pub floor_up : (slot : ℕ) → floor ≤ least_of c (set p.places slot closed)
  floor_up slot =
      omega (
        arith,
        least_is c p.places,
        least_closing c (map slot_of p.places) slot,
        ap (least_slot c)
            (map-set p.places slot closed),
        least_is c (set p.places slot closed),
      )

  pub close_view : (slot : ℕ) → trimmed (with_slot (view_of p) slot closed_slot) ≡ view_of (with_place p slot closed)
  unfolding view_of with_slot trimmed
  close_view slot i = view_slots (view_old (view_of p) (old-moved i)) (map-set p.places slot closed i)
    where
      old-moved :
          let old = lists_between l floor c in
          drop (least_slot c (set (map slot_of p.places) slot closed_slot) - (c - length old)) old
          ≡ lists_between l (least_of c (set p.places slot closed)) c
      old-moved =
          let old = lists_between l floor c in
          let new = least_of c (set p.places slot closed) in
          ap (λ (n : ℕ). drop (n - (c - length old)) old)
          (ap (least_slot c) (map-set p.places slot closed) ∙ least_is c (set p.places slot closed))
          ∙ floor_moved new c old (floor_up slot) (floor_most c (set p.places slot closed)) f.high refl
