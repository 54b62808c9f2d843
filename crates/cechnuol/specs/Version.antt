-- The version of the library.
-- Assumes nothing.
use Rattle.std.specs.Prelude.{ℕ}

-- major × 1,000,000 + minor × 1,000 + patch
abbrev pub version : ℕ
version = 6000000
