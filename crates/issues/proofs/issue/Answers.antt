-- `issue` meets its contract: a list that shows no price is filled from the used words of the table.
-- Assumes nothing.
use Rattle.std.proofs.Common.{◌∙◌, sym}
use Rattle.answers.proofs.Firsts.{if_passed_lem}
use Rattle.issues.proofs.IssueAccepted.{issue_ok, list_filled}
use Rattle.issues.proofs.issue.Goals as goal

pub returns-clause-list : goal.returns-clause-list
returns-clause-list c = let args = c.args in
    let e = sym c.in_ok-issue_check.ensures.grounds in
    if_passed_lem e _ _ (c.apply_to_reads.ensures
    ∙ list_filled (issue_ok args.table.now args.journal.now args.head.now args.reader args.list.now e))
