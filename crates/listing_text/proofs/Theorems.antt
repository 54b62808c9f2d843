-- What a listing shows: document 01's example, and numbers without leading zeros.
-- Assumes nothing.
use mathlib.Core.Path.{◌≡◌, refl, ap, ◌∙◌}
use mathlib.Core.List.{[], ◌∷◌}
use Prim.Native.Nat.{ℕ, zero, suc, ◌/◌, ◌%◌, ◌≤◌, ◌<◌}
use native.Mathlib.Decide.{dec_lt}
use native.Mathlib.Omega.{arith}
use lib.ListN.{get_or, get_or-append}
use Rattle.std.specs.Prelude.{codes}
use Rattle.listing_text.specs.Decimal.{digit, decimal_within, decimal_of}
use Rattle.listing_text.specs.Listing.{header_of, line_of, lines_of, text_of, refusal_text}
use Rattle.listing_text.proofs.Digits.{decimal_one, decimal_more, length_some}

-- The image of document 01's example holds state 7 and offer 5 at 1200.
pub example : text_of 7 (0x80000005000004B0 ∷ []) ≡ codes "state 7 offers 1\n5 1200\n"
unfolding decimal_within decimal_of header_of line_of lines_of text_of
example = refl

pub refusal_example : refusal_text 15 ≡ codes "refused 15\n"
unfolding decimal_within decimal_of refusal_text
refusal_example = refl

-- Zero is one digit, and any other number starts with a digit above it.
pub zero_shown : decimal_of 0 ≡ codes "0"
unfolding decimal_within decimal_of
zero_shown = refl

first_above : (f n : ℕ) → n ≤ f → 0 < n → 48 < get_or (decimal_of n) 0 0
first_above zero n h p = absurd (omega arith)
first_above (suc f) n h p = go (dec_lt n 10) (first_above f (n / 10))
  where
    go : Dec (n < 10) → (n / 10 ≤ f → 0 < n / 10 → 48 < get_or (decimal_of (n / 10)) 0 0) → 48 < get_or (decimal_of n) 0 0
    go (yes l) tenth = omega (arith, ap (λ d. get_or d 0 0) (decimal_one n l))
    go (no l) tenth =
        let ten : 10 ≤ n = omega arith in
        let same : get_or (decimal_of n) 0 0 ≡ get_or (decimal_of (n / 10)) 0 0 =
        ap (λ d. get_or d 0 0) (decimal_more n ten) ∙ get_or-append (decimal_of (n / 10)) (digit (n % 10)) 0 0 (length_some (n / 10))
        in
        omega (arith, same, tenth (omega arith) (omega arith))

pub no_leading_zero : (n : ℕ) → 0 < n → 48 < get_or (decimal_of n) 0 0
no_leading_zero n p = first_above n n (omega arith) p
