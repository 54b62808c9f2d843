-- `head_words::pack` meets its contract: each group of words is put where the one before it ends.
-- Assumes nothing.
use mathlib.Core.Path.{◌∙◌}
use borrow.Author.Rules.{rules}
use Rattle.std.specs.Int.{from_bool}
use Rattle.std.proofs.lemmas.List.{map-id}
use Rattle.std.proofs.lemmas.Slice.Zip.{AllZip-long, AllZip-map}
use Rattle.head_words.proofs.Packing.{packed, flag_words}
use Rattle.head_words.proofs.pack.Goals as goal

pub returns : goal.returns
returns c =
    let head = c.args.head in
    let flags = AllZip-map from_bool head.taken c.put.new.words c.put.ensures ∙ flag_words head.taken in
    let issued = AllZip-map (λ n. n) head.issued c.put-2.new.words c.put-2.ensures ∙ map-id head.issued in
    let ends = AllZip-map (λ n. n) head.ends c.put-3.new.words c.put-3.ensures ∙ map-id head.ends in
    let e = packed c.args.words.now head.used c.from.result c.from-2.result c.from-3.result c.from-4.result
    c.put.new.words c.put-2.new.words c.put-3.new.words (search rules)
    (AllZip-long _ _ _ c.put.ensures ∙ search rules) (AllZip-long _ _ _ c.put-2.ensures ∙ search rules)
    (AllZip-long _ _ _ c.put-3.ensures ∙ search rules) in
    cc
