-- Numbers as bytes, "all most significant byte first" (document 01, "Image and listing").
-- Assumes nothing.
use Rattle.std.specs.Prelude.{List, [], ◌∷◌, ℕ, zero, suc, ◌+◌, ◌*◌, ◌/◌, ◌%◌, ◌^◌, ◌<◌, length}

-- the last k bytes of a number, most significant first
unfoldable pub bytes_of : ℕ → ℕ → List ℕ
bytes_of zero n = []
bytes_of (suc k) n = n / 256 ^ k % 256 ∷ bytes_of k n

-- the number of some bytes, most significant first
unfoldable pub value_of : List ℕ → ℕ
value_of [] = 0
value_of (b ∷ l) = b * 256 ^ length l + value_of l

-- a byte's range
abbrev pub Byte : ℕ → Type 0
Byte b = b < 256
