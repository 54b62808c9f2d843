-- Numbers as text, "decimal" (document 01, "Image and listing").
-- Assumes nothing.
use Rattle.std.specs.Prelude.{cond, List, [], ◌∷◌, ◌++◌, ℕ, zero, suc, ◌+◌, ◌/◌, ◌%◌, ltb}

-- the text of a digit: the code of 0 is 48
abbrev pub digit : ℕ → List ℕ
digit d = (48 + d) ∷ []

-- the digits of a number: those of its tenth, if it is 10 or more, and its last one. f bounds how often a tenth is taken.
unfoldable pub decimal_within : ℕ → ℕ → List ℕ
decimal_within zero n = digit n
decimal_within (suc f) n =
    let more = decimal_within f (n / 10) ++ digit (n % 10) in
    cond (ltb n 10) (digit n) more

-- a number in decimal, without leading zeros; a number is bound enough for itself
unfoldable pub decimal_of : ℕ → List ℕ
decimal_of n = decimal_within n n
