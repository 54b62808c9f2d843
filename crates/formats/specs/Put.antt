-- A map's words put into lent bytes in a format, where the bytes have room.
-- Assumes nothing.
use Rattle.std.specs.Prelude.{cond, List, ◌++◌, ℕ, ltb, length, drop}
use Rattle.std.specs.Prelude.{Result, Err, Ok}
use Rattle.answers.specs.declared.call.Format.{Format}
use Rattle.answers.specs.declared.ground.Ground.{Ground}
use Rattle.answers.specs.declared.ground.Ground.TheVariants.{OutputShort}
use Rattle.formats.specs.Formats.{bytes_for, size_for}

-- the count of the bytes put, or ground 17
abbrev pub put_count : Format → List ℕ → ℕ → Result ℕ Ground
put_count format words room = cond (ltb room (size_for format words)) (Err OutputShort) (Ok (size_for format words))

abbrev pub put_bytes : Format → ℕ → List ℕ → List ℕ → List ℕ
put_bytes format state words out =
    cond (ltb (length out) (size_for format words)) out (bytes_for format state words ++ drop (size_for format words) out)
