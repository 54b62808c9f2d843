-- `head_words::unpack` meets its contract: each array has a field for each of its words.
-- Assumes nothing.
use mathlib.Core.Bool.{false}
use borrow.Author.Rules.{rules}
use borrow.Author.Tests.{tests}
use Rattle.head_words.specs.HeadWords.{flag_of, number_in, mark_in}
use Rattle.head_words.proofs.Arrays.{array_is}
use Rattle.head_words.proofs.unpack.Goals as goal

pub returns : goal.returns
returns c =
    let words = c.args.words.now in
    let taken = array_is flag_of false words 4 (λ k a f e. search (rules, tests)) 8 _ c.from_fn.ensures.items (search rules) in
    let issued = array_is number_in 0 words 12 (λ k a f e. search (rules, tests)) 8 _ c.from_fn-2.ensures.items (search rules) in
    let ends = array_is mark_in 0 words 20 (λ k a f e. search (rules, tests)) 64 _ c.from_fn-3.ensures.items (search rules) in
    cc
