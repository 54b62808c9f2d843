-- The composition of a run of steps from its halves.
-- Assumes nothing.
use mathlib.Core.Path.{◌≡◌, refl, sym, ap, ap₂, subst, ◌∙◌}
use mathlib.Core.List.{List, [], ◌++◌}
use Prim.Native.Nat.{ℕ, ◌+◌, ◌-◌, ◌≤◌, ◌<◌}
use native.Mathlib.Omega.{arith}
use lib.ListN.{length, take, drop, length-take, length-drop}
use lib.Seq.{length-take-le, take_at, drop_at, drop-append-add, drop-drop}
use borrow.Rule.Slice.PartMut.{put_mid}
use Rattle.changes.specs.Calculus.{compose, compose_all}
use Rattle.changes.specs.Runs.{start_of, step_of, run_of, run_words, Marked}
use Rattle.changes.proofs.Applying.{compose_all-nil, compose_all_one, compose_all_split}
use Rattle.changes.proofs.Running.{run_none, run_one, run_split, step_length, run_length}
use Rattle.words.proofs.Parts.{part, put_part, further}
use Rattle.runs.specs.Composed.{RunRoom, Composed}

-- no step
pub compose_none : {words ends : List ℕ} {i j o s : ℕ} → RunRoom words ends i j o s → j ≤ i → (out spare : List ℕ)
    → Composed words ends i j out spare out spare 0
compose_none {words} {ends} {i} {j} r h out spare =
    let none : j - i ≡ 0 = omega arith in
    let empty : compose_all (run_of words ends i (j - i)) ≡ [] = ap (λ (n : ℕ). compose_all (run_of words ends i n)) none
    ∙ ap compose_all (run_none words ends i) ∙ compose_all-nil in
    record { size = ap length (sym empty); front = sym empty; out_behind = refl; spare_behind = refl }

-- one step
pub compose_single : {words ends : List ℕ} {i j o s : ℕ} → RunRoom words ends i j o s → j ≡ i + 1
    → (out spare last : List ℕ) (n : ℕ) → n ≡ run_words ends i (i + 1)
    → last ≡ step_of words ends i ++ drop n out → Composed words ends i j out spare last spare n
compose_single {words} {ends} {i} {j} r h out spare last n en el =
    let marked : Marked words ends (i + 1) = subst (Marked words ends) h r.marked in
    let one : j - i ≡ 1 = omega arith in
    let list : compose_all (run_of words ends i (j - i)) ≡ step_of words ends i =
    ap (λ (n : ℕ). compose_all (run_of words ends i n)) one ∙ ap compose_all (run_one words ends i)
    ∙ compose_all_one (step_of words ends i) in
    let long : length (step_of words ends i) ≡ n = step_length words ends (i + 1) marked i (omega arith) ∙ sym en in
    let total : run_words ends i j ≡ n = ap (run_words ends i) h ∙ sym en in
    record {
      size = sym (ap length list ∙ long);
      front = ap (take n) el ∙ take_at (step_of words ends i) (drop n out) n long ∙ sym list;
      out_behind = rw total (ap (drop n) el ∙ drop_at (step_of words ends i) (drop n out) n long);
      spare_behind = refl;
    }

-- Two halves. The left half is composed into the second buffer with the first to spare, the right half behind it, and then both
-- into the first.
module _ {words ends : List ℕ} {i j o s : ℕ} (r : RunRoom words ends i j o s) (mid : ℕ) (low : i < mid) (high : mid < j) where
  pub rise_left : start_of ends i ≤ start_of ends mid
  rise_left = r.marked.rises i mid (omega arith) (omega arith)

  pub rise_right : start_of ends mid ≤ start_of ends j
  rise_right = r.marked.rises mid j (omega arith) (omega arith)

-- the left half is composed
pub record Left (words ends : List ℕ) (i j mid : ℕ) (out₀ spare₀ out₁ spare₁ : List ℕ) (n : ℕ) : Type 0 where
  pub room : RunRoom words ends i j (length out₀) (length spare₀)
  pub low : i < mid
  pub high : mid < j
  pub long_o : length out₁ ≡ length out₀
  pub long_s : length spare₁ ≡ length spare₀
  pub done : Composed words ends i mid spare₀ out₀ spare₁ out₁ n

pub left_of : {words ends : List ℕ} {i j mid : ℕ} {out₀ spare₀ out₁ spare₁ : List ℕ} {n : ℕ}
    → Composed words ends i mid spare₀ out₀ spare₁ out₁ n → RunRoom words ends i j (length out₀) (length spare₀) → i < mid → mid < j
    → length out₁ ≡ length out₀ → length spare₁ ≡ length spare₀ → Left words ends i j mid out₀ spare₀ out₁ spare₁ n
left_of d r l h o s = record { room = r; low = l; high = h; long_o = o; long_s = s; done = d }

module _ {words ends : List ℕ} {i j mid : ℕ} {out₀ spare₀ out₁ spare₁ : List ℕ} {n : ℕ}
    (l : Left words ends i j mid out₀ spare₀ out₁ spare₁ n) where
  up_left : start_of ends i ≤ start_of ends mid
  up_left = rise_left l.room mid l.low l.high

  up_right : start_of ends mid ≤ start_of ends j
  up_right = rise_right l.room mid l.low l.high

  left_short : n ≤ run_words ends i mid
  left_short =
      let sum : i + (mid - i) ≡ mid = omega (arith, l.low) in
      let short : length (compose_all (run_of words ends i (mid - i))) ≤ run_words ends i mid =
      rw sum at (run_length words ends j l.room.marked (mid - i) i (omega (arith, l.low, l.high))) in
      omega (arith, l.done.size)

  pub left_inside : n ≤ length spare₁
  left_inside = omega (arith, left_short, l.room.spare_room, up_left, up_right, l.long_s)

  pub right_room : RunRoom words ends mid j (length (take (length spare₁ - n) (drop n spare₁))) (length out₁)
  right_room =
      record {
        marked = l.room.marked;
        order = omega (arith, l.high);
        out_room = omega (
          arith,
          ap length (part spare₁ n),
          length-drop n spare₁,
          left_short,
          l.room.spare_room,
          up_left,
          up_right,
          l.long_s,
        );
        spare_room = omega (arith, l.room.out_room, up_left, up_right, l.long_o);
      }

-- and the right half
pub record Right (words ends : List ℕ) (i j mid : ℕ) (out₀ spare₀ out₁ spare₁ : List ℕ) (n : ℕ) (out₂ tail : List ℕ) (m : ℕ) : Type 0 where
  pub left : Left words ends i j mid out₀ spare₀ out₁ spare₁ n
  pub long_o : length out₂ ≡ length out₁
  pub long_t : length tail ≡ length (take (length spare₁ - n) (drop n spare₁))
  pub done : Composed words ends mid j (take (length spare₁ - n) (drop n spare₁)) out₁ tail out₂ m

pub right_of : {words ends : List ℕ} {i j mid : ℕ} {out₀ spare₀ out₁ spare₁ : List ℕ} {n : ℕ} {out₂ tail : List ℕ} {m : ℕ}
    → Left words ends i j mid out₀ spare₀ out₁ spare₁ n
    → Composed words ends mid j (take (length spare₁ - n) (drop n spare₁)) out₁ tail out₂ m → length out₂ ≡ length out₁
    → length tail ≡ length (take (length spare₁ - n) (drop n spare₁))
    → Right words ends i j mid out₀ spare₀ out₁ spare₁ n out₂ tail m
right_of l d o t = record { left = l; long_o = o; long_t = t; done = d }

module _ {words ends : List ℕ} {i j mid : ℕ} {out₀ spare₀ out₁ spare₁ : List ℕ} {n : ℕ} {out₂ tail : List ℕ} {m : ℕ}
    (r : Right words ends i j mid out₀ spare₀ out₁ spare₁ n out₂ tail m) where
  right_short : m ≤ run_words ends mid j
  right_short =
      let sum : mid + (j - mid) ≡ j = omega (arith, r.left.high) in
      let short : length (compose_all (run_of words ends mid (j - mid))) ≤ run_words ends mid j =
      rw sum at (run_length words ends j r.left.room.marked (j - mid) mid (omega (arith, r.left.high))) in
      omega (arith, r.done.size)

  -- the second buffer with both halves
  spare_is : put_mid n (length spare₁ - n) spare₁ tail ≡ take n spare₁ ++ tail
  spare_is = put_part spare₁ tail n (left_inside r.left)

  first_long : length (take n spare₁) ≡ n
  first_long = length-take-le n spare₁ (left_inside r.left)

  abbrev both : List ℕ
  both = put_mid n (length spare₁ - n) spare₁ tail

  both_words : n + m ≤ run_words ends i j
  both_words = omega (arith, left_short r.left, right_short, up_left r.left, up_right r.left)

  pub both_room : length (take n both) + length (take (n + m - n) (drop n both)) ≤ length out₂
  both_room =
      omega (
        arith,
        length-take n both,
        length-take (n + m - n) (drop n both),
        both_words,
        r.left.room.out_room,
        r.long_o,
        r.left.long_o,
      )

  -- each of the halves in the second buffer
  first_is : take n both ≡ take n spare₁
  first_is = ap (take n) spare_is ∙ take_at (take n spare₁) tail n first_long

  second_is : take (n + m - n) (drop n both) ≡ take m tail
  second_is =
      let count : n + m - n ≡ m = omega arith in
      ap₂ take count (ap (drop n) spare_is ∙ drop_at (take n spare₁) tail n first_long)

  halves : compose (take n both) (take (n + m - n) (drop n both)) ≡ compose_all (run_of words ends i (j - i))
  halves =
      let sum : j - i ≡ (mid - i) + (j - mid) = omega (arith, r.left.low, r.left.high) in
      let next : i + (mid - i) ≡ mid = omega (arith, r.left.low) in
      ap₂ compose (first_is ∙ r.left.done.front) (second_is ∙ r.done.front)
      ∙ ap (λ (k : ℕ). compose (compose_all (run_of words ends i (mid - i))) (compose_all (run_of words ends k (j - mid)))) (sym next)
      ∙ sym (compose_all_split (run_of words ends i (mid - i)) (run_of words ends (i + (mid - i)) (j - mid)))
      ∙ ap compose_all (sym (run_split words ends (mid - i) (j - mid) i))
      ∙ ap (λ (k : ℕ). compose_all (run_of words ends i k)) (sym sum)

  pub Composed-halves : (last : List ℕ) (k : ℕ)
      → k ≡ length (compose (take n both) (take (n + m - n) (drop n both)))
      → last ≡ compose (take n both) (take (n + m - n) (drop n both)) ++ drop k out₂
      → Composed words ends i j out₀ spare₀ last both k
  Composed-halves last k ek el = record { size = size; front = front; out_behind = out-behind; spare_behind = spare-behind }
    where
      size : k ≡ length (compose_all (run_of words ends i (j - i)))
      size = ek ∙ ap length halves

      list : last ≡ compose_all (run_of words ends i (j - i)) ++ drop k out₂
      list = el ∙ ap (λ (c : List ℕ). c ++ drop k out₂) halves

      front : take k last ≡ compose_all (run_of words ends i (j - i))
      front = ap (take k) list ∙ take_at (compose_all (run_of words ends i (j - i))) (drop k out₂) k (sym size)

      back : drop k last ≡ drop k out₂
      back = ap (drop k) list ∙ drop_at (compose_all (run_of words ends i (j - i))) (drop k out₂) k (sym size)

      sum : i + (j - i) ≡ j
      sum = omega (arith, r.left.low, r.left.high)

      short : k ≤ run_words ends i j
      short =
          omega (
            arith,
            size,
            subst (λ (n : ℕ). length (compose_all (run_of words ends i (j - i))) ≤ run_words ends i n)
                sum (run_length words ends j r.left.room.marked (j - i) i (omega (arith, sum))),
          )

      out-behind : drop (run_words ends i j) last ≡ drop (run_words ends i j) out₀
      out-behind =
          further last out₂ k (run_words ends i j) back short
          ∙ further out₂ out₁ (run_words ends mid j) (run_words ends i j) r.done.spare_behind
          (omega (arith, up_left r.left, up_right r.left))
          ∙ further out₁ out₀ (run_words ends i mid) (run_words ends i j) r.left.done.spare_behind
          (omega (arith, up_left r.left, up_right r.left))

      spare-behind : drop (run_words ends i j) (put_mid n (length spare₁ - n) spare₁ tail) ≡ drop (run_words ends i j) spare₀
      spare-behind =
          let rest : n + (run_words ends i j - n) ≡ run_words ends i j = omega (arith, both_words) in
          ap (drop (run_words ends i j)) spare_is
          ∙ ap (λ (k : ℕ). drop k (take n spare₁ ++ tail)) (sym rest)
          ∙ ap (λ (k : ℕ). drop (k + (run_words ends i j - n)) (take n spare₁ ++ tail)) (sym first_long)
          ∙ drop-append-add (take n spare₁) tail (run_words ends i j - n)
          ∙ further tail (take (length spare₁ - n) (drop n spare₁)) (run_words ends mid j) (run_words ends i j - n)
          r.done.out_behind (omega (arith, left_short r.left, up_left r.left, up_right r.left))
          ∙ ap (drop (run_words ends i j - n)) (part spare₁ n)
          ∙ drop-drop (run_words ends i j - n) n spare₁
          ∙ ap (λ (k : ℕ). drop k spare₁) rest
          ∙ further spare₁ spare₀ (run_words ends i mid) (run_words ends i j) r.left.done.out_behind
          (omega (arith, up_left r.left, up_right r.left))
