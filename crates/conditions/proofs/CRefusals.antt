-- What a C function that refuses leaves, and what its code says of the grounds.
-- Assumes nothing.
use mathlib.Core.Path.{◌≡◌, refl, sym, ap, ◌∙◌}
use mathlib.Core.Bool.{Bool, true, false, cond}
use mathlib.Core.List.{List, [], ◌∷◌, ◌++◌}
use Prim.Native.Nat.{ℕ, ◌≤◌}
use native.Mathlib.Omega.{arith}
use borrow.Author.Tests.{ne_eqb}
use lib.Dec.{eqb}
use lib.ListN.{length, drop}
use Rattle.answers.specs.Check.{Answered}
use Rattle.answers.specs.declared.answer.Answer.TheVariants.{Done, Quoted, Count}
use Rattle.std.proofs.Common.{Err}
use Rattle.answers.specs.declared.call.Call.{Call}
use Rattle.answers.specs.declared.call.Call.TheVariants.{Reset, Step, Read, Ask}
use Rattle.answers.specs.declared.call.Query.{Query}
use Rattle.answers.specs.declared.ground.Ground.{Ground}
use Rattle.answers.specs.declared.ground.Ground.TheVariants.{Lengths, Unsound}
use Rattle.std.proofs.Common.{Option, Some, None}
use Rattle.answers.specs.Answers.{said_by, ground_in, is_accepted, said_by_price, said_by_since, When, is_granted}
use Rattle.std.proofs.Common.{Ok}
use Rattle.answers.specs.First.{Test, met, first}
use Rattle.answers.specs.Numbers.{number_of}
use Rattle.layout.specs.Clauses.{are_lengths}
use Rattle.calls.specs.Lent.{Lent, check_of}
use Rattle.calls.specs.Meaning.{meaning, performed}
use Rattle.head_words.specs.HeadWords.{head_of, is_head}
use Rattle.execution.specs.Executing.{Executed, done, fails, priced}
use Rattle.batch.specs.Batches.{batch_grounds, checked, batch, answer, output}
use Rattle.unit.specs.Carried.{Asked, lent_to}
use Rattle.unit.proofs.Theorems.{refused_keeps}
use Rattle.lent.specs.Codes.{code_of, value_of, no_price, since_of}
use Rattle.lent.specs.Lent.{is_fit, tally_of, tally_words, unfit, answer_to, answer_to_query}
use Rattle.lent.proofs.Choices.{chosen, passed}
use Rattle.lent.proofs.TallyWords.{tally_back}
use Rattle.conditions.specs.CCalls.{Memory, carried_in, Result, ChangesStore, AnswersQuery, Promise, CallOfC}
use Rattle.conditions.specs.CCalls.{UntouchedC, accepted_code, ground_code, PricesC}
use Rattle.conditions.specs.Condition1.{tests_of}
use Rattle.conditions.specs.Grounds.{highest, none_met, first_number}
use Rattle.conditions.specs.Runs.{lending}
use Rattle.conditions.proofs.CCalls.{lent_by, left, answer_on, table_on, journal_on, words_on, bytes_on, tally_on_lem, code_is, reads}
use Rattle.conditions.proofs.CCalls.{code_asked, words_asked, bytes_asked}
use Rattle.conditions.proofs.Batches.{batch_number, batches}
use Rattle.conditions.proofs.Refusals.{number_range, granted, left_as_came, by_tests, number_by_tests}

-- a code that is neither 0 nor that of no price
pub record Turned (answer : Answered) : Type 0 where
  pub not_accepted : is_accepted answer ≡ false
  pub least : 1 ≤ code_of (said_by answer)
  pub most : code_of (said_by answer) ≤ highest
  pub value : (old : ℕ) → value_of (said_by answer) old ≡ old
  pub since : (old : ℕ) → since_of (said_by answer) old ≡ old

no_turn : (price : Option ℕ) (since : When) → (code_of (said_by_price price since) ≡ 0 → ⊥)
    → (code_of (said_by_price price since) ≡ no_price → ⊥) → ⊥
no_turn (Some p) since z h = z refl
no_turn None since z h = h refl

turned : (answer : Answered) → (code_of (said_by answer) ≡ 0 → ⊥) → (code_of (said_by answer) ≡ no_price → ⊥) → Turned answer
turned (Ok Done) z h = absurd (z refl)
turned (Ok (Quoted quote)) z h = absurd (no_turn quote.price (said_by_since quote.since) z h)
turned (Ok (Count n)) z h = absurd (z refl)
turned (Err ground) z h = record {
  not_accepted = refl;
  least = (number_range ground).0;
  most = (number_range ground).1;
  value = λ old. refl;
  since = λ old. refl;
}

-- "gives one number of document 01 and leaves memory, tally and head as they came"
pub record AsItCame (m : Memory) (words bytes : List ℕ) (r : Result) : Type 0 where
  pub least : 1 ≤ r.code
  pub most : r.code ≤ highest
  pub memory : r.memory ≡ m
  pub words_same : r.words ≡ words
  pub bytes_same : r.bytes ≡ bytes
  pub value_same : r.value ≡ r.before
  pub since_same : r.since ≡ r.since_before

module _ (m : Memory) (words bytes : List ℕ) (r : Result) (z : r.code ≡ 0 → ⊥) (h : r.code ≡ no_price → ⊥) where
  module _ (call : Call) (p : ChangesStore m words bytes r call) (three : length m.tally ≡ 3) where
    abbrev to : Answered
    to = answer_to m.table m.journal words bytes m.head m.tally call

    told : Turned to
    told = turned to (λ e. z (p.0.0 ∙ e)) (λ e. h (p.0.0 ∙ e))

    head_same : r.memory.head ≡ m.head
    head_same = p.0.3 ∙ passed told.not_accepted _ _

    changed_by : (t : Bool) → is_fit m.head call ≡ t → AsItCame m words bytes r
    changed_by false e =
        record {
          least = rw p.0.0 told.least;
          most = rw p.0.0 told.most;
          memory = λ i. record {
            table = (p.0.1 ∙ passed e _ _) i;
            journal = (p.0.2 ∙ passed e _ _) i;
            head = head_same i;
            tally = (p.0.4 ∙ passed e _ _) i;
          };
          words_same = p.1 ∙ passed e _ _;
          bytes_same = p.2 ∙ passed e _ _;
          value_same = p.3;
          since_same = p.4 ∙ told.since r.since_before;
        }
    changed_by true e =
        let l = lent_by m words bytes call e in
        let not-accepted = sym (ap is_accepted (answer_on m words bytes call e)) ∙ told.not_accepted in
        let same = left_as_came (meaning l call).accepted l (check_of (meaning l call)) (granted l call) not-accepted in
        record {
          least = rw p.0.0 told.least;
          most = rw p.0.0 told.most;
          memory = λ i. record {
            table = (p.0.1 ∙ table_on m words bytes call e ∙ ap (λ (x : Lent). x.table) same) i;
            journal = (p.0.2 ∙ journal_on m words bytes call e ∙ ap (λ (x : Lent). x.journal) same) i;
            head = head_same i;
            tally = (p.0.4 ∙ tally_on_lem m words bytes call e
                ∙ ap tally_words (refused_keeps (tally_of m.tally) (head_of m.head).checkpoint (head_of m.head).tip call
                (left m words bytes call e).answer not-accepted)
                ∙ tally_back m.tally three) i;
          };
          words_same = p.1 ∙ words_on m words bytes call e ∙ ap (λ (x : Lent). x.words) same;
          bytes_same = p.2 ∙ bytes_on m words bytes call e ∙ ap (λ (x : Lent). x.bytes) same;
          value_same = p.3;
          since_same = p.4 ∙ told.since r.since_before;
        }

    changed_as : AsItCame m words bytes r
    changed_as = changed_by (is_fit m.head call) refl

  module _ (query : Query) (p : AnswersQuery m words bytes r query) where
    abbrev to_query : Answered
    to_query = answer_to_query m.table m.journal words bytes m.head query

    told_query : Turned to_query
    told_query = turned to_query (λ e. z (p.0.0 ∙ e)) (λ e. h (p.0.0 ∙ e))

    asked_by : (t : Bool) → is_head m.head ≡ t → (r.words ≡ words) × (r.bytes ≡ bytes)
    asked_by false e = (p.1 ∙ passed e _ _, p.2 ∙ passed e _ _)
    asked_by true e =
        let l = reads m words bytes r query p e in
        let not-accepted = sym (ap is_accepted (chosen e _ _)) ∙ told_query.not_accepted in
        let same = left_as_came (meaning l (Ask query)).accepted l (check_of (meaning l (Ask query)))
        (granted l (Ask query)) not-accepted in (
          words_asked m words bytes r query p e ∙ ap (λ (x : Lent). x.words) same,
          bytes_asked m words bytes r query p e ∙ ap (λ (x : Lent). x.bytes) same,
        )

    asked_as : AsItCame m words bytes r
    asked_as =
        let came = asked_by (is_head m.head) refl in
        record {
          least = rw p.0.0 told_query.least;
          most = rw p.0.0 told_query.most;
          memory = p.3;
          words_same = came.0;
          bytes_same = came.1;
          value_same = p.0.1 ∙ told_query.value r.before;
          since_same = p.4 ∙ told_query.since r.since_before;
        }

  as_it_came : (call : Call) → Promise m words bytes r call → length m.tally ≡ 3 → AsItCame m words bytes r
  as_it_came (Reset call) p three = changed_as (Reset call) p three
  as_it_came (Step call) p three = changed_as (Step call) p three
  as_it_came (Read call) p three = changed_as (Read call) p three
  as_it_came (Ask query) p three = asked_as query p

pub c_refused : (m : Memory) (a : Asked) (r : Result) → CallOfC m a r → (r.code ≡ 0 → ⊥) → (r.code ≡ no_price → ⊥)
    → (1 ≤ r.code) × (r.code ≤ highest) × UntouchedC m a r
c_refused m a r c z h =
    let came = as_it_came m a.words a.bytes r z h a.call c.promise c.tally_words in
    (came.least, came.most, (came.memory, came.words_same, came.bytes_same, came.value_same, came.since_same))

-- what a code says of the grounds
pub number_low : (ground : Ground) → (eqb (number_of ground) 0 ≡ false) × (eqb (number_of ground) no_price ≡ false)
number_low ground =
    let range = number_range ground in
    (ne_eqb (number_of ground) 0 (λ e. omega (arith, range.0, e)), ne_eqb (number_of ground) no_price (λ e. omega (arith, range.1, e)))

quote_says : (price : Option ℕ) (since : When)
    → (accepted_code (code_of (said_by_price price since)) ≡ is_granted (said_by_price price since))
    × (ground_code (code_of (said_by_price price since)) ≡ ground_in (said_by_price price since))
quote_says (Some p) since = (refl, refl)
quote_says None since = (refl, refl)

code_says : (answer : Answered) → (accepted_code (code_of (said_by answer)) ≡ is_accepted answer)
    × (ground_code (code_of (said_by answer)) ≡ ground_in (said_by answer))
code_says (Ok Done) = (refl, refl)
code_says (Ok (Quoted quote)) = quote_says quote.price (said_by_since quote.since)
code_says (Ok (Count n)) = (refl, refl)
code_says (Err ground) =
    let low = number_low ground in
    (rw low.0 low.1, rw low.1 refl)

module _ (m : Memory) (words bytes : List ℕ) (r : Result) where
  -- where the head's words fit, the code is that of the call that is served
  code_fit : (call : Call) → Promise m words bytes r call → is_fit m.head call ≡ true
      → r.code ≡ code_of (said_by (performed (lent_to (carried_in m) (lending call words bytes)) call).answer)
  code_fit (Reset call) p e = code_is m words bytes r (Reset call) p e
  code_fit (Step call) p e = code_is m words bytes r (Step call) p e
  code_fit (Read call) p e = code_is m words bytes r (Read call) p e
  code_fit (Ask query) p e = code_asked m words bytes r query p e

  -- and else ground 1 or 2
  code-unfit : (call : Call) → Promise m words bytes r call → is_fit m.head call ≡ false
      → r.code ≡ code_of (said_by (unfit (length m.table) (length m.journal)))
  code-unfit (Reset call) p e = p.0.0 ∙ ap (λ (a : Answered). code_of (said_by a)) (passed e _ _)
  code-unfit (Step call) p e = p.0.0 ∙ ap (λ (a : Answered). code_of (said_by a)) (passed e _ _)
  code-unfit (Read call) p e = p.0.0 ∙ ap (λ (a : Answered). code_of (said_by a)) (passed e _ _)
  code-unfit (Ask query) p e = p.0.0 ∙ ap (λ (a : Answered). code_of (said_by a)) (passed e _ _)

module _ (m : Memory) (a : Asked) (r : Result) (c : CallOfC m a r) where
  abbrev l : Lent
  l = lent_to (carried_in m) a

  pub c_accepted : is_fit m.head a.call ≡ true → accepted_code r.code ≡ none_met (tests_of (carried_in m) a)
  c_accepted e =
      ap accepted_code (code_fit m a.words a.bytes r a.call c.promise e)
      ∙ (code_says (performed l a.call).answer).0
      ∙ by_tests (meaning l a.call).accepted l (tests_of (carried_in m) a) (granted l a.call)

  pub c_number : is_fit m.head a.call ≡ true → ground_code r.code ≡ first_number (tests_of (carried_in m) a)
  c_number e =
      ap ground_code (code_fit m a.words a.bytes r a.call c.promise e)
      ∙ (code_says (performed l a.call).answer).1
      ∙ number_by_tests (meaning l a.call).accepted l (tests_of (carried_in m) a) (granted l a.call)

  pub c_unfit : is_fit m.head a.call ≡ false → r.code ≡ cond (are_lengths (length m.table) (length m.journal)) 2 1
  c_unfit e = code-unfit m a.words a.bytes r a.call c.promise e ∙ either (are_lengths (length m.table) (length m.journal))
    where
      either : (t : Bool) → code_of (said_by (cond t (Err Unsound) (Err Lengths))) ≡ cond t 2 1
      either true = refl
      either false = refl

-- a batch
module _ (reads orders out out' : List ℕ) (code before count : ℕ) (p : PricesC reads orders out code out' before count)
    (z : code ≡ 0 → ⊥) where
  by_executed : (executed : Executed) → batch reads orders (length out) ≡ executed
      → (1 ≤ code) × (code ≤ 17) × (out' ≡ out) × (count ≡ before)
  by_executed (done d) e = absurd (z (p.0 ∙ ap (λ (x : Executed). code_of (answer x)) e))
  by_executed (fails n) e =
      let range = batch_number reads orders (length out) n e in
      let is : code ≡ n = p.0 ∙ ap (λ (x : Executed). code_of (answer x)) e in (
        omega (arith, is, range.0),
        omega (arith, is, range.1),
        p.1 ∙ ap (λ (x : Executed). output x out) e,
        p.2 ∙ ap (λ (x : Executed). value_of (answer x) before) e,
      )

  pub c_batch_refused : (1 ≤ code) × (code ≤ 17) × (out' ≡ out) × (count ≡ before)
  c_batch_refused = by_executed (batch reads orders (length out)) refl

-- a batch that meets none of its grounds passes them
none_passed : (gs : List Test) → none_met gs ≡ true → first gs ≡ (Ok tt)
unfolding first none_met
none_passed [] e = refl
none_passed (met true ground ∷ gs) e = absurd (let z : ◌≡◌ {A = ℕ} 0 1 = cc in omega arith)
none_passed (met false ground ∷ gs) e = none_passed gs e

pub c_batch_accepted : (reads orders d out out' : List ℕ) (code before count : ℕ)
    → PricesC reads orders out code out' before count
    → none_met (batch_grounds reads orders) ≡ true → priced reads orders ≡ done d → length d ≤ length out
    → (code ≡ 0) × (count ≡ length d) × (out' ≡ d ++ drop (length d) out)
unfolding checked
c_batch_accepted reads orders d out out' code before count p none e room =
    let is = batches.accepted reads orders d (length out) (none_passed (batch_grounds reads orders) none) e room in (
      p.0 ∙ ap (λ (x : Executed). code_of (answer x)) is,
      p.2 ∙ ap (λ (x : Executed). value_of (answer x) before) is,
      p.1 ∙ ap (λ (x : Executed). output x out) is,
    )
