-- `write::write_in` meets its contract.
-- Assumes nothing.
use mathlib.Core.Path.{sym, subst}
use native.Mathlib.Omega.{arith}
use borrow.Author.Rules.{rules}
use Rattle.changes.specs.Lists.{Map}
use Rattle.state_maps.proofs.MapSizes.{map_long, map_most, Map-kept}
use Rattle.state_maps.proofs.Working.{state_facts}
use Rattle.state_maps.specs.Held.{HeldState}
use Rattle.views.proofs.SoundFacts.{shaped}
use Rattle.exports.proofs.write.write_in.Goals as goal

pub put-requires : goal.put-requires
put-requires g c =
    let head = c.head_of-head.result in
    let p = shaped head (search rules) (search rules) (search rules) in
    let held : HeldState c.args.store.table.now c.args.store.journal.now head c.args.state = rw c.head_of-head.ensures c.requires.held in
    let ok = state_facts held in
    let long = map_long ok c.map_at-size.new.map c.map_at-size.ensures.0 c.map_at-size.ensures.1 in
    (subst Map (sym c.map_at-size.ensures.1) (Map-kept ok p), omega (arith, long, c.map_at-size.ensures.0, map_most ok p))
