-- Condition 1, proved.
-- Assumes nothing.
use mathlib.Core.Path.{refl, ap, ◌∙◌}
use Rattle.answers.specs.Answers.{said_by, ground_in, is_accepted}
use Rattle.unit.specs.Carried.{lent_to}
use Rattle.conditions.specs.Condition1.{tests_of, Condition1}
use Rattle.conditions.proofs.CRefusals.{c_refused, c_accepted, c_number, c_unfit, c_batch_refused, c_batch_accepted}
use Rattle.conditions.proofs.Lent.{issue_list, forward_list, issue_sixteen, forward_sixteen, Own-place}
use Rattle.conditions.proofs.Ranges.{ranges}
use Rattle.conditions.proofs.StoreTests.{by_lengths, by_soundness}
use Rattle.conditions.proofs.Refusals.{granted, tests_are, by_tests, number_by_tests, answer_is, came, l, m}

pub condition_1 : Condition1
condition_1 = record {
  refused_as_it_came = came;
  accepted_where_none_is_met = λ k a s p.
      ap is_accepted (answer_is k a s p) ∙ by_tests (m k a s p).accepted (l k a s p) (tests_of k a) (granted (lent_to k a) a.call);
  refused_by_the_first = λ k a s p.
      ap (λ x. ground_in (said_by x)) (answer_is k a s p)
      ∙ number_by_tests (m k a s p).accepted (l k a s p) (tests_of k a) (granted (lent_to k a) a.call);
  tests_are_the_table = λ k a. tests_are (lent_to k a) a.call;
  lengths_first = λ k a e. by_lengths (lent_to k a) a.call e;
  soundness_second = λ k a y f e. by_soundness (lent_to k a) a.call y f e;
  ranges = ranges;
  issues_a_list = λ k reader words bytes e. issue_list k words bytes reader e;
  forwards_a_list = λ k reader state words bytes e. forward_list k words bytes reader state e;
  foyer_issues = λ k slot words bytes e. issue_sixteen k words bytes slot e;
  foyer_forwards = λ k slot state words bytes e. forward_sixteen k words bytes slot state e;
  names_its_own = Own-place;
  lookups_open_to_both = λ l a b offer state. refl;
  c_refused_as_it_came = c_refused;
  c_accepted_where_none_is_met = c_accepted;
  c_refused_by_the_first = c_number;
  c_head_words = c_unfit;
  c_batch_refused_as_it_came = c_batch_refused;
  c_batch_accepted = c_batch_accepted;
}
