-- `numbers::put_uint` meets its contract: the bytes stored so far and those that are left are the number's.
-- Assumes nothing.
use Prim.Native.Nat.{◌-◌, ◌≤◌}
use Rattle.words.proofs.Writing.{Writing}
use Rattle.big_endian.specs.Bytes.{bytes_of}
use Rattle.big_endian.proofs.numbers.put_uint.Given as goal

abbrev pub invariant-loop-i : goal.invariant-loop-i
invariant-loop-i g l =
    (l.i ≤ g.row.BYTES)
    × Writing l.byte-items l.initial.byte-items l.i (bytes_of (g.row.BYTES - l.i) l.number) (bytes_of g.row.BYTES l.number)
