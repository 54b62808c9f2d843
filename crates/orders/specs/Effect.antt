-- What an order does: the entry word by which it puts or removes a price, or the ground by which it fails.
-- Assumes nothing.
use Rattle.std.specs.Prelude.{ℕ, Result}
use Rattle.answers.specs.declared.ground.Ground.{Ground}

abbrev pub Effect : Type 0
Effect = Result ℕ Ground
