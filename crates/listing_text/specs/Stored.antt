-- A piece of text stored in bytes from a position on.
-- Assumes nothing.
use Rattle.std.specs.Prelude.{◌≡◌, List, ◌++◌, ℕ, ◌+◌, ◌≤◌, length, take, drop}
use Rattle.listing_text.specs.declared.text.Text.{Text}

-- the position behind the piece, and the bytes then: all others are as they were
pub record Stored (out : List ℕ) (at : ℕ) (piece : List ℕ) (end : ℕ) (last : List ℕ) : Type 0 where
  pub position : end ≡ at + length piece
  pub bytes : last ≡ take at out ++ piece ++ drop end out

-- a piece put behind a text, within the bytes that were lent and are lent still
pub record Puts (before : Text) (piece : List ℕ) (after : Text) : Type 0 where
  pub stored : Stored before.bytes.now before.end piece after.end after.bytes.now
  pub within : after.end ≤ length before.bytes.now
  pub size : length after.bytes.now ≡ length before.bytes.now
  pub lent : after.bytes.ghost_name ≡ before.bytes.ghost_name
