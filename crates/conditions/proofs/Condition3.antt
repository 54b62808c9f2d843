-- Condition 3, proved.
-- Assumes nothing.
use mathlib.Core.Path.{◌≡◌, refl, ap}
use mathlib.Core.Bool.{cond}
use mathlib.Core.List.{List, [], ◌∷◌, ◌++◌}
use Prim.Native.Nat.{ℕ}
use Rattle.answers.specs.Answers.{When, by_book}
use Rattle.answers.specs.declared.call.Format.{Format}
use Rattle.views.specs.View.{Limits}
use Rattle.history.specs.Earlier.{earlier_load}
use Rattle.history.specs.Plain.{first_of, load_of, load_checked}
use Rattle.history.specs.Named.{Quote, priced, unpriced, brought, refused, done, filled, quote, dated, report}
use Rattle.history.specs.Named.{Call, Response, compared, is_accepted, accepted_calls, quote_in, quotes}
use Rattle.conditions.specs.CCalls.{CallOnStoreC, memory_after, tells_c, CLoads, lengths_c}
use Rattle.conditions.specs.Serving.{CallOnStore, handed, tells, lengths_in, Loads}
use Rattle.conditions.specs.Condition3.{Condition3}
use Rattle.conditions.proofs.CRuns.{FollowsC, store_steps_c, loads_c_as_plain, starts_c}
use Rattle.conditions.proofs.Followed.{answers, alike, earlier}
use Rattle.conditions.proofs.ServeRuns.{Follows, store_steps, loads_as_plain, starts}

accepted_one : (c : Call) (calls : List Call) (r : Response) (responses : List Response)
    → accepted_calls (c ∷ calls) (r ∷ responses) ≡ cond (is_accepted r) (compared c) [] ++ accepted_calls calls responses
unfolding accepted_calls
accepted_one c calls r responses = refl

quoted_one : (r : Response) (responses : List Response) → quotes (r ∷ responses) ≡ quote_in r ++ quotes responses
unfolding quotes
quoted_one r responses = refl

-- a response in its parts; what is no lookup's stands for every other
quoted_in : Response → Quote
quoted_in (dated q since) = q
quoted_in (refused n) = unpriced
quoted_in done = unpriced
quoted_in (filled l) = unpriced
quoted_in (quote q) = unpriced
quoted_in (report r) = unpriced

since_in : Response → When
since_in (dated q since) = since
since_in (refused n) = by_book
since_in done = by_book
since_in (filled l) = by_book
since_in (quote q) = by_book
since_in (report r) = by_book

price_in : Quote → ℕ
price_in (priced p) = p
price_in unpriced = 0
price_in (brought l) = 0

told_apart : (q r : Quote) (a b : When) → dated q a ≡ dated r b → (q ≡ r) × (a ≡ b)
unfolding quoted_in since_in
told_apart q r a b e = (ap quoted_in e, ap since_in e)

priced_apart : (p q : ℕ) → priced p ≡ priced q → p ≡ q
unfolding price_in
priced_apart p q e = ap price_in e

-- depth 0 is not above 63
loads_0 : (limits : Limits) (format : Format) (bytes : List ℕ)
    → load_checked limits (load_of 0 format bytes) ≡ earlier_load limits format bytes
unfolding first_of
loads_0 limits format bytes = refl

pub condition_3 : Condition3
condition_3 = record {
  bytes_not_compared = λ named list a b. refl;
  caller_not_compared = λ a b slot offer n list. (refl, refl, refl, refl);
  flushes_apart = λ n. refl;
  accepted_count = accepted_one;
  lookups_respond = λ asked p since words bytes. (refl, refl);
  lookups_told_apart = told_apart;
  prices_told_apart = priced_apart;
  quotes_count = quoted_one;
  forwards_count = λ q. refl;
  lookups_count = λ q since. refl;
  serve_loads_as_plain = loads_as_plain;
  c_loads_as_plain = loads_c_as_plain;
  depth_0_loads = loads_0;
  serve_answers_as_plain = answers CallOnStore handed tells Loads lengths_in Follows store_steps starts;
  serve_quotes_alike = alike CallOnStore handed tells Loads lengths_in Follows store_steps starts;
  serve_runs_as_earlier = earlier CallOnStore handed tells Loads lengths_in Follows store_steps starts;
  c_answers_as_plain = answers CallOnStoreC memory_after tells_c CLoads lengths_c FollowsC store_steps_c starts_c;
  c_quotes_alike = alike CallOnStoreC memory_after tells_c CLoads lengths_c FollowsC store_steps_c starts_c;
  c_runs_as_earlier = earlier CallOnStoreC memory_after tells_c CLoads lengths_c FollowsC store_steps_c starts_c;
}
