-- The lines of a listing: how long they are at most.
-- Assumes nothing.
use mathlib.Core.Path.{◌≡◌, sym, ap, ◌∙◌}
use mathlib.Core.List.{List, [], ◌++◌}
use Rattle.std.specs.List.{flat_map}
use Rattle.std.proofs.lemmas.List.{flat_map_more, take_more}
use Prim.Native.Nat.{ℕ, ◌+◌, ◌^◌, ◌≤◌, ◌<◌}
use native.Mathlib.Omega.{arith}
use lib.ListN.{length, take, get_or, length-append}
use Rattle.entry.specs.Word.{offer_of, price_of}
use Rattle.listing_text.specs.Listing.{header_of, line_of, lines_of}
use Rattle.listing_text.proofs.Digits.{digits_32, digits_64}

-- the first line, of a state number and a count
pub header_length : (n count : ℕ) → n < 2 ^ 32 → count < 2 ^ 64 → length (header_of n count) ≤ 45
unfolding header_of
header_length n count h k = simp length-append (omega (arith, digits_32 n h, digits_64 count k))

-- the line of a word
pub line_length : (w : ℕ) → length (line_of w) ≤ 22
unfolding line_of
line_length w = simp length-append (omega (arith, digits_32 (offer_of w) (omega arith), digits_32 (price_of w) (omega arith)))

-- the lines of one word more
pub lines_more : (l : List ℕ) (i : ℕ) → i < length l → lines_of (take i l) ++ line_of (get_or l i 0) ≡ lines_of (take (i + 1) l)
unfolding lines_of
lines_more l i h = flat_map_more line_of [] (take i l) (get_or l i 0) ∙ sym (ap (flat_map line_of) (take_more l i 0 h))
