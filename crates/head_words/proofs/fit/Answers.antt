-- `head_words::fit` meets its contract.
-- Assumes nothing.
use mathlib.Core.Path.{◌≡◌}
use Prim.Native.Nat.{◌*◌, ◌^◌, ◌%◌}
use native.Mathlib.Omega.{arith}
use Rattle.std.proofs.lemmas.Nat.{pow_below}
use Rattle.head_words.proofs.Below.{below_joined}
use Rattle.head_words.proofs.fit.Goals as goal

pub returns : goal.returns
returns c =
    let bits = c.args.bits in
    let below = pow_below bits 64 c.requires in
    let limit : 1 * 2 ^ bits % 18446744073709551616 ≡ 2 ^ bits = omega arith in
    rw limit (below_joined bits _ _ c.joined.ensures)
