-- The prices of the first row as a pass over rising words stores them, one behind another.
-- Assumes nothing.
use mathlib.Core.Path.{◌≡◌, refl, sym, ap, ap₂, subst, ◌∙◌}
use mathlib.Core.Bool.{Bool, true, false}
use mathlib.Core.List.{List, [], ◌∷◌, ◌++◌, map, append_assoc, append-nil}
use Prim.Native.Nat.{ℕ, suc, ◌+◌, ◌-◌, ◌*◌, ◌%◌, ◌^◌, ◌≤◌, ◌<◌}
use native.Mathlib.Omega.{arith}
use lib.ListN.{length, take, drop, get_or, length-append, length-drop, length-map}
use lib.Seq.{take-suc, take_at, drop_at, drop-drop, take-take, take-append-le, length-take-le}
use Rattle.words.proofs.Writing.{Writing}
use Rattle.words.proofs.Pieces.{start_at, wrote_piece, completed}
use Rattle.entry.specs.Word.{offer_of, price_of}
use Rattle.changes.specs.Lists.{From}
use Rattle.big_endian.specs.Bytes.{bytes_of}
use Rattle.big_endian.proofs.Bytes.{length_bytes}
use Rattle.sheet.specs.Runs.{InRow, is_of_row, row_number, bits_of, run_row}
use Rattle.sheet.specs.Sheet.{rows_of, place_in, number_bytes}
use Rattle.sheet.proofs.Clauses.{number_bytes_none}
use Rattle.sheet.proofs.NumberBytes.{number_bytes-length}
use Rattle.sheet.proofs.Passing.{of_row, of_other, Passed, none_passed, one_Passed, passed_fits, passed_place}
use Rattle.sheet.proofs.RowRuns.{run_first}

-- the prices of words

abbrev pub price_bytes : List ℕ → List ℕ
price_bytes words = number_bytes (map price_of words)

one_price : (l : List ℕ) (w : ℕ) → price_bytes (l ++ (w ∷ [])) ≡ price_bytes l ++ bytes_of 4 (price_of w)
unfolding number_bytes
one_price [] w = append-nil (bytes_of 4 (price_of w))
one_price (v ∷ l) w =
    ap (λ (b : List ℕ). bytes_of 4 (price_of v) ++ b) (one_price l w)
    ∙ sym (append_assoc (bytes_of 4 (price_of v)) (price_bytes l) (bytes_of 4 (price_of w)))

prices_next : (words : List ℕ) (i : ℕ) → i < length words
    → price_bytes (take (i + 1) words) ≡ price_bytes (take i words) ++ bytes_of 4 (price_of (get_or words i 0))
prices_next words i h =
    let one : i + 1 ≡ suc i = omega arith in
    ap (λ (n : ℕ). price_bytes (take n words)) one
    ∙ ap price_bytes (take-suc words i 0 h)
    ∙ one_price (take i words) (get_or words i 0)

price_bytes-length : (l : List ℕ) → length (price_bytes l) ≡ 4 * length l
price_bytes-length l = number_bytes-length (map price_of l) ∙ ap (λ (n : ℕ). 4 * n) (length-map l price_of)

-- the first row's prices are stored: what is so of its words, and of the bytes
abbrev pub PricesPut : List ℕ → List ℕ → List ℕ → ℕ → ℕ → ℕ → Type 0
PricesPut words out last at mask count =
    (0 < count)
    × (count ≤ length words)
    × (mask ≡ bits_of (take count words))
    × (rows_of words ≡ run_row (take count words) ∷ rows_of (drop count words))
    × (last ≡ take at out ++ price_bytes (take count words) ++ drop (at + 4 * count) out)

-- The first `count` words are passed and their prices are stored, and the word behind them is of their row.
pub record Pass (words : List ℕ) (at : ℕ) (out out₀ : List ℕ) (row mask count : ℕ) : Type 0 where
  pub rises : From 0 words
  pub room : at + 4 * length words ≤ length out₀
  pub number : row ≡ row_number words
  pub here : count < length words
  pub same : InRow (row_number words) (get_or words count 0)
  pub passed : Passed words mask count
  pub written : Writing out out₀ (at + 4 * count) [] (take at out₀ ++ price_bytes (take count words))

module _ (words out : List ℕ) (at : ℕ) where
  pub no_price : (From 0 words × (0 < length words) × (at + 4 * length words ≤ length out)) → (row : ℕ) → row ≡ row_number words
      → Pass words at out out row 0 0
  no_price asked row r =
      let none : at ≡ at + 4 * 0 = omega arith in
      record {
        rises = asked.0;
        room = asked.2;
        number = r;
        here = asked.1;
        same = refl;
        passed = none_passed words;
        written = subst (λ (k : ℕ). Writing out out k [] (take at out ++ price_bytes [])) none
            (subst (λ (b : List ℕ). Writing out out at [] (take at out ++ b)) (sym number_bytes_none) (start_at out [] at (omega arith)));
      }

module _ {words : List ℕ} {at : ℕ} {out out₀ : List ℕ} {row mask count : ℕ} (h : Pass words at out out₀ row mask count) where
  -- there is room for a price behind those that are stored
  pub price_fits : at + 4 * count + 4 ≤ length out
  price_fits = omega (arith, h.room, h.here, h.written.same)

  -- the word's bit
  module _ (seat bit : ℕ) (s : seat ≡ offer_of (get_or words count 0) % 32) (b : bit ≡ 2 ^ (31 - seat)) where
    word_Passed : Passed words (mask + bit) (count + 1)
    word_Passed = one_Passed h.passed h.here h.same bit (b ∙ ap (λ (n : ℕ). 2 ^ (31 - n)) s)

    pub mask_fits : mask + bit < 2 ^ 32
    mask_fits = passed_fits word_Passed h.rises

    -- the word's price has the place that is next
    place_is : (p : ℕ) → p ≡ place_in (mask + bit) seat → p ≡ count
    place_is p e = e ∙ ap (place_in (mask + bit)) s ∙ passed_place word_Passed h.rises count (omega arith)

    pub place_fits : (p : ℕ) → p ≡ place_in (mask + bit) seat → at + 4 * p + 4 ≤ length out
    place_fits p e = omega (arith, place_is p e, price_fits)

    -- the word's price is stored
    stored : (p price : ℕ) → p ≡ count → price ≡ price_of (get_or words count 0) → {last : List ℕ}
        → last ≡ take (at + 4 * p) out ++ bytes_of 4 price ++ drop (at + 4 * p + 4) out
        → Writing last out₀ (at + 4 * (count + 1)) [] (take at out₀ ++ price_bytes (take (count + 1) words))
    stored p price pe qe {last} e =
        let piece = bytes_of 4 (price_of (get_or words count 0)) in
        let on : at + 4 * count + 4 ≡ at + 4 * (count + 1) = omega arith in
        let same : last ≡ take (at + 4 * count) out ++ bytes_of 4 (price_of (get_or words count 0)) ++ drop (at + 4 * (count + 1)) out =
        e
        ∙ ap₂ (λ (k n : ℕ). take (at + 4 * k) out ++ bytes_of 4 n ++ drop (at + 4 * k + 4) out) pe qe
        ∙ ap (λ (k : ℕ). take (at + 4 * count) out ++ piece ++ drop k out) on in
        let left : Writing out out₀ (at + 4 * count) (bytes_of 4 (price_of (get_or words count 0)))
        (take at out₀ ++ price_bytes (take (count + 1) words)) =
        record {
          same = h.written.same;
          within = h.written.within;
          front =
              ap (λ (f : List ℕ). f ++ piece) (sym (append-nil (take (at + 4 * count) out)) ∙ h.written.front)
              ∙ append_assoc (take at out₀) (price_bytes (take count words)) piece
              ∙ ap (λ (f : List ℕ). take at out₀ ++ f) (sym (prices_next words count h.here));
          back = h.written.back;
        } in
        wrote_piece left piece [] (sym (append-nil piece)) (at + 4 * (count + 1))
        (omega (arith, length_bytes 4 (price_of (get_or words count 0)))) (omega (arith, price_fits)) same

    -- whether the word behind it is of the same row
    module _ (test : Bool) (t : test ≡ is_of_row words (count + 1) row) where
      pub price_stored : test ≡ true → (price : ℕ) → price ≡ price_of (get_or words count 0) → {last : List ℕ}
          → last ≡ take (at + 4 * count) out ++ bytes_of 4 price ++ drop (at + 4 * count + 4) out
          → Pass words at last out₀ row (mask + bit) (count + 1)
      price_stored more price q e =
          let next = of_row words (count + 1) row (sym t ∙ more) in
          record {
            rises = h.rises;
            room = h.room;
            number = h.number;
            here = next.0;
            same = next.1 ∙ h.number;
            passed = word_Passed;
            written = stored count price refl q e;
          }

      pub prices_stored : test ≡ false → (p price : ℕ) → p ≡ place_in (mask + bit) seat → price ≡ price_of (get_or words count 0)
          → {last : List ℕ} → last ≡ take (at + 4 * p) out ++ bytes_of 4 price ++ drop (at + 4 * p + 4) out
          → PricesPut words out₀ last at (mask + bit) (count + 1)
      prices_stored end p price pe q e = (
        omega arith,
        word_Passed.within,
        word_Passed.bits,
        run_first words (count + 1) (omega arith) word_Passed.within word_Passed.same
            (λ i n. of_other words (count + 1) row (sym t ∙ end) i (n ∙ sym h.number)),
        completed (stored p price (place_is p pe) q e),
      )

-- the mask, which is stored before the prices

-- the first row's mask and prices are stored: what is so of its words, and of the bytes
abbrev pub SeatsPut : List ℕ → List ℕ → List ℕ → ℕ → ℕ → Type 0
SeatsPut words out last mask count =
    (0 < count)
    × (count ≤ length words)
    × (mask ≡ bits_of (take count words))
    × (rows_of words ≡ run_row (take count words) ∷ rows_of (drop count words))
    × (last ≡ take 4 out ++ bytes_of 4 mask ++ price_bytes (take count words) ++ drop (8 + 4 * count) out)

-- bytes with a mask before their eighth
abbrev pub masked : List ℕ → ℕ → List ℕ
masked out m = take 4 out ++ bytes_of 4 m ++ drop 8 out

module _ (out : List ℕ) (m : ℕ) (room : 8 ≤ length out) where
  seam : length (take 4 out ++ bytes_of 4 m) ≡ 8
  seam =
      length-append (take 4 out) (bytes_of 4 m)
      ∙ omega (arith, length-take-le 4 out (omega arith), length_bytes 4 m)

  masked_front : take 8 (masked out m) ≡ take 4 out ++ bytes_of 4 m
  masked_front = take_at (take 4 out ++ bytes_of 4 m) (drop 8 out) 8 seam

  masked_behind : (k : ℕ) → drop (8 + k) (masked out m) ≡ drop (8 + k) out
  masked_behind k =
      sym (drop-drop k 8 (masked out m))
      ∙ ap (drop k) (drop_at (take 4 out ++ bytes_of 4 m) (drop 8 out) 8 seam)
      ∙ drop-drop k 8 out

  masked-length : length (masked out m) ≡ length out
  masked-length =
      length-append (take 4 out ++ bytes_of 4 m) (drop 8 out)
      ∙ omega (arith, seam, length-drop 8 out)

  -- what is stored in such bytes
  pub seats_stored : (words : List ℕ) (count : ℕ) {last : List ℕ}
      → PricesPut words (masked out m) last 8 m count → SeatsPut words out last m count
  seats_stored words count p = (
    p.0,
    p.1,
    p.2,
    p.3,
    p.4 ∙ ap₂ (λ (a c : List ℕ). a ++ price_bytes (take count words) ++ c) masked_front (masked_behind (4 * count)),
  )

module _ {words : List ℕ} {out out₀ : List ℕ} {row mask count : ℕ} (h : Pass words 8 out out₀ row mask count) where
  -- there is room for the mask
  pub mask_room : 8 ≤ length out
  mask_room = omega (arith, price_fits h)

  module _ (m : ℕ) {last : List ℕ} (e : last ≡ take 4 out ++ bytes_of 4 m ++ drop (8) out) where
    before : 8 ≤ length out₀
    before = omega (arith, mask_room, h.written.same)

    bytes_are : last ≡ take 8 (masked out₀ m) ++ price_bytes (take count words)
        ++ drop (8 + 4 * count) (masked out₀ m)
    bytes_are =
        let prices = price_bytes (take count words) in
        let rest = drop (8 + 4 * count) out₀ in
        let start = take 8 out₀ in
        let long : length (take 8 out₀) ≡ 8 = length-take-le 8 out₀ before in
        let whole : out ≡ take 8 out₀ ++ (price_bytes (take count words) ++ drop (8 + 4 * count) out₀) =
        completed h.written ∙ append_assoc start prices rest in
        let front : take 4 out ≡ take 4 out₀ =
        ap (take 4) whole
        ∙ take-append-le 4 start (prices ++ rest) (omega (arith, long))
        ∙ take-take 4 8 out₀ (omega arith) in
        let behind : drop (8) out ≡ price_bytes (take count words) ++ drop (8 + 4 * count) out₀ =
        ap (drop 8) whole ∙ drop_at start (prices ++ rest) 8 long in
        e
        ∙ ap₂ (λ (a c : List ℕ). a ++ bytes_of 4 m ++ c) front behind
        ∙ sym (append_assoc (take 4 out₀ ++ bytes_of 4 m) prices rest)
        ∙ ap₂ (λ (a c : List ℕ). a ++ prices ++ c) (sym (masked_front out₀ m before)) (sym (masked_behind out₀ m before (4 * count)))

    pub mask_stored : Pass words 8 last (masked out₀ m) row mask count
    mask_stored =
        let long = masked-length out₀ m before in
        let prices = price_bytes (take count words) in
        let k : 8 + 4 * count ≡ 8 + length (price_bytes (take count words)) =
        omega (arith, price_bytes-length (take count words), length-take-le count words (omega (arith, h.here))) in
        record {
          rises = h.rises;
          room = omega (arith, h.room, long);
          number = h.number;
          here = h.here;
          same = h.same;
          passed = h.passed;
          written =
              wrote_piece (start_at (masked out₀ m) prices 8 (omega (arith, long, before))) prices []
              (sym (append-nil prices)) (8 + 4 * count) k (omega (arith, long, price_fits h, h.written.same)) bytes_are;
        }
