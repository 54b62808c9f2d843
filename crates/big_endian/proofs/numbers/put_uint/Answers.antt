-- `numbers::put_uint` meets its contract: the bytes stored so far and those that are left are the number's.
-- Assumes nothing.
use mathlib.Core.Path.{◌≡◌, ◌∙◌, ap, sym}
use mathlib.Core.List.{List, ◌++◌}
use Prim.Native.Nat.{ℕ, ◌+◌, ◌-◌, ◌<◌}
use native.Mathlib.Omega.{arith}
use lib.ListN.{take, drop}
use Rattle.words.proofs.Writing.{stored, filled}
use Rattle.big_endian.specs.Bytes.{bytes_of}
use Rattle.big_endian.proofs.Bytes.{bytes_none, length_bytes}
use Rattle.big_endian.proofs.Fields.{bytes_next, part_length, put_part}
use Rattle.big_endian.proofs.numbers.put_uint.Goals as goal

pub loop-i-preserved : goal.loop-i-preserved
loop-i-preserved g c =
    let here : c.loop-i.i < g.row.BYTES = omega (arith, part_length c.args.out.now c.args.at g.row.BYTES c.requires.1) in
    (omega arith, stored c.loop-i.invariant.1 (bytes_next g.row.BYTES c.loop-i.i c.args.number here) (omega arith))

pub returns : goal.returns
returns g c =
    let k = g.row.BYTES in
    let out = c.args.out.now in
    let size = part_length out c.args.at k c.requires.1 in
    let end : k - c.loop-i.i ≡ 0 = omega (arith, size) in
    put_part out _ c.args.at k
    ∙ ap (λ (l : List ℕ). take c.args.at out ++ l ++ drop (c.args.at + k) out)
    (filled c.loop-i.invariant.1 (ap (λ (m : ℕ). bytes_of m c.args.number) end ∙ bytes_none c.args.number)
    (length_bytes k c.args.number ∙ sym size))
