-- `write::write_held` meets its contract.
-- Assumes nothing.
use mathlib.Core.Path.{sym, ap, subst, ◌∙◌}
use native.Mathlib.Omega.{arith}
use borrow.Author.Rules.{rules}
use lib.ListN.{take}
use Rattle.layout.specs.declared.head.Head.{Head}
use Rattle.formats.proofs.Putting.{put_same}
use Rattle.state_maps.proofs.MapSizes.{starts_rise, map_here_lem, most_room}
use Rattle.state_maps.proofs.Working.{state_facts}
use Rattle.state_maps.specs.Held.{HeldState, words_to}
use Rattle.views.specs.View.{Shaped}
use Rattle.views.proofs.SoundFacts.{shaped, used_long}
use Rattle.exports.proofs.write.write_held.Goals as goal

pub words_to-words-requires : goal.words_to-words-requires
words_to-words-requires c =
    let head = c.head_of-head.result in
    let p = shaped head (search rules) (search rules) (search rules) in
    let held : HeldState c.args.store.table.now c.args.store.journal.now head c.args.state = rw c.head_of-head.ensures c.requires in
    let ok = state_facts held in
    (ok.sound.low, ok.low, omega (arith, ok.sound.low, ok.sound.few, ok.high), starts_rise ok p)

pub slice_bounds-put-end : goal.slice_bounds-put-end
slice_bounds-put-end c = rw c.head_of-head.ensures (sym (used_long (state_facts c.requires).sound))

pub put-requires : goal.put-requires
put-requires c =
    let ok = state_facts c.requires in
    rw c.head_of-head.ensures (ok.sound.map, omega (arith, used_long ok.sound, ok.sound.used_in, ok.range.table_most))

pub returns-then-words-eq0 : goal.returns-then-words-eq0
returns-then-words-eq0 c =
    let p = shaped c.head_of-head.result (search rules) (search rules) (search rules) in
    let none =
    ap (λ (h : Head). words_to h c.args.state) (sym c.head_of-head.ensures) ∙ sym c.words_to-words.ensures ∙ c.if-words-eq0.true in
    let same = map_here_lem (state_facts c.requires) (subst Shaped c.head_of-head.ensures p) none in
    put_same c.args.format c.args.state c.args.bytes.now
    (ap (λ (h : Head). take h.used c.args.store.table.now) c.head_of-head.ensures ∙ sym same) c.put.ensures

pub write_in-requires-2-clause-room : goal.write_in-requires-2-clause-room
write_in-requires-2-clause-room c =
    let p = shaped c.head_of-head.result (search rules) (search rules) (search rules) in
    most_room (state_facts c.requires) (subst Shaped c.head_of-head.ensures p)
