-- `has_no_put` meets its contract: `all` asks of each word what the definition asks.
-- Assumes nothing.
use Rattle.std.proofs.Common.{◌∙◌, refl, not, ◌&&◌, rules, tests}
use Rattle.std.proofs.lemmas.Iterator.{YieldsList-from_slice}
use Rattle.std.proofs.lemmas.Iterator.Search.{all_from_yields_List}
use Rattle.std.proofs.lemmas.List.Recursion.{same_from_clauses}
use Rattle.std.specs.List.{list_all}
use Rattle.entry.specs.Word.{is_put}
use Rattle.changes.specs.Lists.{has_no_put}
use Rattle.issues.proofs.has_no_put.Goals as goal

pub returns : goal.returns
unfolding has_no_put
returns c =
    all_from_yields_List (λ w. not (is_put w)) _ _ _ c.all.ensures.ran (YieldsList-from_slice c.args.words.now cc)
    (λ x b q k. search (rules, tests))
    ∙ same_from_clauses (list_all (λ w. not (is_put w))) has_no_put (λ w rest. not (is_put w) && rest) refl (λ _ _. refl) (λ _ _. refl)
    c.args.words.now
