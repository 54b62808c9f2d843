-- Fields shifted to their places and joined by `or` are the word of the fields.
-- Assumes nothing.
use Rattle.std.proofs.Common.{◌≡◌, ℕ, ◌+◌, ◌*◌, ◌^◌, ◌<◌, ap, ◌∙◌, arith}
use lib.Bits.{bit_or, or_shifted, or_shifted_r}
use Rattle.entry.specs.Word.{put_of, none_of}

pub put_joined : (n o p : ℕ) → n ≡ none_of o → o < 2 ^ 31 → p < 2 ^ 32 → bit_or (bit_or n p) (2 ^ 63) ≡ put_of o p
put_joined n o p e ho hp =
    let position : n ≡ o * 2 ^ 32 = omega arith in
    ap (λ (x : ℕ). bit_or x (2 ^ 63)) (ap (λ (x : ℕ). bit_or x p) position ∙ or_shifted o 32 p hp)
    ∙ or_shifted_r 1 63 (o * 2 ^ 32 + p) (omega arith)
    ∙ omega arith
