-- A line of whole maps: each is the one before it with the list beside it applied; and what a commit and a rollback leave of it.
-- Assumes nothing.
use mathlib.Core.Path.{◌≡◌, refl, sym, ap, ap₂, subst, ◌∙◌}
use mathlib.Core.List.{List, [], ◌∷◌, ◌++◌}
use Prim.Native.Nat.{ℕ, zero, suc, ◌+◌, ◌-◌, ◌≤◌, ◌<◌}
use native.Mathlib.Decide.{ℕ_discrete}
use native.Mathlib.Omega.{arith}
use lib.ListN.{length, get_or, take, drop, length-append, length-drop, take-append-drop, get_or-append}
use lib.Seq.{take_all, take-suc, take-add, take-take, take-append-le, drop-append-le, drop-drop, drop_at, get_or_at, get_or-take}
use lib.Seq.{get_or-drop, length-take-le}
use Rattle.changes.specs.Calculus.{apply, compose, compose_all}
use Rattle.changes.specs.Lists.{All, Changes, Map}
use Rattle.changes.proofs.Applying.{compose_all-nil, compose_all_one}
use Rattle.changes.proofs.Each.{IsList, list_Changes, All-Changes, all_at, all_take, all_drop, all_more}
use Rattle.changes.proofs.Laws.{apply_zero, apply_twice, apply-Map, run_Changes, run_split}
use Rattle.history.specs.Plain.{Line, tip_of, map_at, lists_between, grown, cut_above}

-- each map is the one before it with the list beside it applied, and the lists keep their rules
pub record Whole (l : Line) : Type 0 where
  pub count : length l.maps ≡ suc (length l.lists)
  pub first : Map (get_or l.maps 0 [])
  pub lists : All IsList l.lists
  pub next : (k : ℕ) → k < length l.lists → get_or l.maps (suc k) [] ≡ apply (get_or l.maps k []) (get_or l.lists k [])

module _ {l : Line} (w : Whole l) where
  pub between_Changes : (a b : ℕ) → Changes (compose_all (lists_between l a b))
  unfolding lists_between
  between_Changes a b =
      let from = drop (a - l.start) l.lists in
      let lists = all_take IsList (b - a) from (all_drop IsList (a - l.start) l.lists w.lists) in
      run_Changes (lists_between l a b) (All-Changes (lists_between l a b) lists)

  Map-here : (k : ℕ) → k ≤ length l.lists → Map (get_or l.maps k [])
  Map-here zero h = w.first
  Map-here (suc k) h =
      subst Map (sym (w.next k (omega arith)))
      (apply-Map (get_or l.maps k []) (get_or l.lists k []) (Map-here k (omega arith)).rises
      (list_Changes _ (all_at IsList l.lists [] k w.lists (omega arith))).rises)

  -- applying the lists from one map on gives the later map
  carried_on : (k n : ℕ) → k + n ≤ length l.lists
      → apply (get_or l.maps k []) (compose_all (take n (drop k l.lists))) ≡ get_or l.maps (k + n) []
  carried_on k zero h =
      let same : k ≡ k + 0 = omega arith in
      ap (apply (get_or l.maps k [])) compose_all-nil
      ∙ apply_zero (get_or l.maps k []) (Map-here k (omega arith))
      ∙ ap (λ (i : ℕ). get_or l.maps i []) same
  carried_on k (suc n) h =
      let m = get_or l.maps k [] in
      let step = get_or l.lists (k + n) [] in
      let before = take n (drop k l.lists) in
      let inside : n < length (drop k l.lists) = omega (arith, length-drop k l.lists) in
      let same : suc (k + n) ≡ k + suc n = omega arith in
      ap (λ (ds : List (List ℕ)). apply m (compose_all ds)) (take-suc (drop k l.lists) n [] inside)
      ∙ ap (λ (d : List ℕ). apply m (compose_all (before ++ (d ∷ [])))) (get_or-drop k l.lists n [])
      ∙ ap (apply m) (run_split before (step ∷ []) ∙ ap (compose (compose_all before)) (compose_all_one step))
      ∙ sym (apply_twice m (compose_all before) step (Map-here k (omega arith)).rises
      (run_Changes before (All-Changes before
      (all_take IsList n (drop k l.lists) (all_drop IsList k l.lists w.lists)))).rises
      (list_Changes step (all_at IsList l.lists [] (k + n) w.lists (omega arith))).rises)
      ∙ ap (λ (x : List ℕ). apply x step) (carried_on k n (omega arith))
      ∙ sym (w.next (k + n) (omega arith))
      ∙ ap (λ (i : ℕ). get_or l.maps i []) same

  -- each state of the line is a map
  pub map_at_lem : (s : ℕ) → s ≤ tip_of l → Map (map_at l s)
  map_at_lem s h = Map-here (s - l.start) (omega arith)

  -- applying the lists from a state to a later one to the map of the first gives the map of the second
  pub carried : (a b : ℕ) → l.start ≤ a → a ≤ b → b ≤ tip_of l → apply (map_at l a) (compose_all (lists_between l a b)) ≡ map_at l b
  unfolding lists_between
  carried a b low order high =
      let same : a - l.start + (b - a) ≡ b - l.start = omega arith in
      carried_on (a - l.start) (b - a) (omega arith) ∙ ap (λ (i : ℕ). get_or l.maps i []) same

-- lists from a state to a later one: taken together, and in parts
module _ (l : Line) where
  pub between_length : (a b : ℕ) → l.start ≤ a → a ≤ b → b ≤ tip_of l → length (lists_between l a b) ≡ b - a
  unfolding lists_between
  between_length a b low order high =
      length-take-le (b - a) (drop (a - l.start) l.lists) (omega (arith, length-drop (a - l.start) l.lists))

  pub between_same : (a : ℕ) → lists_between l a a ≡ []
  unfolding lists_between
  between_same a =
      let none : a - a ≡ 0 = omega arith in
      ap (λ (n : ℕ). take n (drop (a - l.start) l.lists)) none

  pub between_all : (a : ℕ) → l.start ≤ a → a ≤ tip_of l → drop (a - l.start) l.lists ≡ lists_between l a (tip_of l)
  unfolding lists_between
  between_all a low high =
      sym (take_all (tip_of l - a) (drop (a - l.start) l.lists) (omega (arith, length-drop (a - l.start) l.lists)))

  pub between_join : (a b c : ℕ) → l.start ≤ a → a ≤ b → b ≤ c → lists_between l a b ++ lists_between l b c ≡ lists_between l a c
  unfolding lists_between
  between_join a b c low h k =
      let whole : b - a + (c - b) ≡ c - a = omega arith in
      let place : b - l.start ≡ a - l.start + (b - a) = omega arith in
      ap (λ (n : ℕ). lists_between l a b ++ take (c - b) (drop n l.lists)) place
      ∙ ap (λ (ds : List (List ℕ)). lists_between l a b ++ take (c - b) ds) (sym (drop-drop (b - a) (a - l.start) l.lists))
      ∙ sym (take-add (b - a) (c - b) (drop (a - l.start) l.lists))
      ∙ ap (λ (n : ℕ). take n (drop (a - l.start) l.lists)) whole

  pub between_take : (a b c : ℕ) → a ≤ b → b ≤ c → take (b - a) (lists_between l a c) ≡ lists_between l a b
  unfolding lists_between
  between_take a b c h k = take-take (b - a) (c - a) (drop (a - l.start) l.lists) (omega arith)

  pub between_drop : (a b c : ℕ) → l.start ≤ a → a ≤ b → b ≤ c → c ≤ tip_of l → drop (b - a) (lists_between l a c) ≡ lists_between l b c
  between_drop a b c low h k high =
      ap (drop (b - a)) (sym (between_join a b c low h k))
      ∙ drop_at (lists_between l a b) (lists_between l b c) (b - a) (between_length a b low h (omega arith))

-- a line that has grown by a list: what was there stays, and it is whole
module _ (l : Line) (w : Whole l) (list : List ℕ) where
  pub grown_tip : tip_of (grown l list) ≡ tip_of l + 1
  grown_tip = omega (arith, length-append l.lists (list ∷ []))

  pub grown_map : (s : ℕ) → s ≤ tip_of l → map_at (grown l list) s ≡ map_at l s
  grown_map s h = get_or-append l.maps _ [] (s - l.start) (omega (arith, w.count))

  pub grown_between : (a b : ℕ) → l.start ≤ a → a ≤ b → b ≤ tip_of l → lists_between (grown l list) a b ≡ lists_between l a b
  unfolding lists_between
  grown_between a b low h high =
      ap (take (b - a)) (drop-append-le (a - l.start) l.lists (list ∷ []) (omega arith))
      ∙ take-append-le (b - a) (drop (a - l.start) l.lists) (list ∷ []) (omega (arith, length-drop (a - l.start) l.lists))

  pub grown_last : (a : ℕ) → l.start ≤ a → a ≤ tip_of l
      → lists_between (grown l list) a (tip_of (grown l list)) ≡ lists_between l a (tip_of l) ++ (list ∷ [])
  grown_last a low high =
      sym (between_all (grown l list) a low (omega (arith, grown_tip)))
      ∙ drop-append-le (a - l.start) l.lists (list ∷ []) (omega arith)
      ∙ ap (λ (ds : List (List ℕ)). ds ++ (list ∷ [])) (between_all l a low high)

  last_map : get_or (grown l list).maps (suc (length l.lists)) [] ≡ apply (map_at l (tip_of l)) list
  last_map = get_or_at l.maps (apply (map_at l (tip_of l)) list) [] [] (suc (length l.lists)) w.count

  next_last : get_or (grown l list).maps (suc (length l.lists)) []
      ≡ apply (get_or (grown l list).maps (length l.lists) []) (get_or (grown l list).lists (length l.lists) [])
  next_last =
      let at-tip : tip_of l - l.start ≡ length l.lists = omega arith in
      last_map
      ∙ ap₂ apply
      (ap (λ (i : ℕ). get_or l.maps i []) at-tip ∙ sym (get_or-append l.maps _ [] (length l.lists) (omega (arith, w.count))))
      (sym (get_or_at l.lists list [] [] (length l.lists) refl))

  next_before : (k : ℕ) → k < length l.lists → get_or (grown l list).maps (suc k) []
      ≡ apply (get_or (grown l list).maps k []) (get_or (grown l list).lists k [])
  next_before k h =
      get_or-append l.maps _ [] (suc k) (omega (arith, w.count))
      ∙ w.next k h
      ∙ ap₂ apply
      (sym (get_or-append l.maps _ [] k (omega (arith, w.count))))
      (sym (get_or-append l.lists _ [] k h))

  next_grown : (k : ℕ) → k < length (grown l list).lists → get_or (grown l list).maps (suc k) []
      ≡ apply (get_or (grown l list).maps k []) (get_or (grown l list).lists k [])
  next_grown k h = go (ℕ_discrete k (length l.lists))
    where
      go : Dec (k ≡ length l.lists) → get_or (grown l list).maps (suc k) []
          ≡ apply (get_or (grown l list).maps k []) (get_or (grown l list).lists k [])
      go (yes e) =
          subst (λ (i : ℕ). get_or (grown l list).maps (suc i) []
          ≡ apply (get_or (grown l list).maps i []) (get_or (grown l list).lists i [])) (sym e) next_last
      go (no n) = next_before k (omega (arith, n, h, length-append l.lists (list ∷ [])))

  pub grown-Whole : IsList list → Whole (grown l list)
  grown-Whole e =
      record {
        count = length-append l.maps _ ∙ omega (arith, w.count, length-append l.lists (list ∷ []));
        first = subst Map (sym (get_or-append l.maps _ [] 0 (omega (arith, w.count)))) w.first;
        lists = all_more IsList l.lists list w.lists e;
        next = next_grown;
      }

-- a line cut above a state: what was there up to it stays, and it is whole
module _ (l : Line) (w : Whole l) (state : ℕ) (low : l.start ≤ state) (high : state ≤ tip_of l) where
  cut_lists : length (cut_above l state).lists ≡ state - l.start
  cut_lists = length-take-le (state - l.start) l.lists (omega arith)

  pub cut_tip : tip_of (cut_above l state) ≡ state
  cut_tip = omega (arith, cut_lists)

  pub cut_map : (s : ℕ) → s ≤ state → map_at (cut_above l state) s ≡ map_at l s
  cut_map s h = get_or-take (state - l.start + 1) l.maps (s - l.start) [] (omega arith)

  pub cut_between : (a b : ℕ) → l.start ≤ a → a ≤ b → b ≤ state → lists_between (cut_above l state) a b ≡ lists_between l a b
  unfolding lists_between
  cut_between a b at_least_lem h most =
      let front = take (state - l.start) l.lists in
      let back = drop (state - l.start) l.lists in
      sym (
      ap (λ (ds : List (List ℕ)). take (b - a) (drop (a - l.start) ds)) (sym (take-append-drop (state - l.start) l.lists))
      ∙ ap (take (b - a)) (drop-append-le (a - l.start) front back (omega (arith, cut_lists)))
      ∙ take-append-le (b - a) (drop (a - l.start) front) back (omega (arith, cut_lists, length-drop (a - l.start) front))
      )

  pub cut_Whole : Whole (cut_above l state)
  cut_Whole =
      record {
        count = length-take-le (state - l.start + 1) l.maps (omega (arith, w.count)) ∙ omega (arith, cut_lists);
        first = subst Map (sym (get_or-take (state - l.start + 1) l.maps 0 [] (omega arith))) w.first;
        lists = all_take IsList (state - l.start) l.lists w.lists;
        next = λ k h.
            let inside : k < state - l.start = omega (arith, cut_lists) in
            get_or-take (state - l.start + 1) l.maps (suc k) [] (omega arith)
            ∙ w.next k (omega arith)
            ∙ ap₂ apply
            (sym (get_or-take (state - l.start + 1) l.maps k [] (omega arith)))
            (sym (get_or-take (state - l.start) l.lists k [] inside));
      }
