-- Condition 3, in the words of the request: "Take any two lists of these calls (lookup, commit, rollback, flush, issue, forward, drop,
-- image writing; refused ones included), each run on its own store, both just loaded from the same image. Let every call get store
-- memory and head as the load or last call left them, nobody else writing them, and each forward on an open place the read set that the
-- place's last accepted issue filled, unaltered. Then in each store each call is accepted exactly when the plain list of whole price
-- maps in document 01, fed that store's load, calls and lengths, accepts it, and else refused by the same number; each issued read set
-- and written image is as document 01 defines it; each lookup's price or none and each forwarded read is that list's, which grows at a
-- commit, is cut at a rollback and keeps its maps at a flush. And where both stores accept the same calls in the same order, flushes
-- apart, their lookups' prices and forwarded reads are equal, one by one."
--
-- A run (Runs.antt) is of calls that keep the promise of the function that is called, from a load of an image or a sheet (document 02,
-- Q-5) with a depth (Q-6). The plain list (history/specs/Plain.antt) is given the lengths, the load with its depth, and the calls'
-- arguments, except a forward's read set, and nothing of the unit's memory or head.
-- Assumes nothing.
use Rattle.std.specs.Prelude.{◌≡◌, List, [], ◌∷◌, ◌++◌, ℕ, length, true, cond}
use Rattle.answers.specs.Answers.{When, priced as priced_by, without, said_by}
use Rattle.answers.specs.declared.call.Format.{Format}
use Rattle.answers.specs.declared.call.LookUp.{LookUp as Lookup}
use Rattle.answers.specs.declared.call.Query.TheVariants.{LookUp}
use Rattle.layout.specs.Clauses.{are_lengths}
use Rattle.lent.specs.Codes.{code_of}
use Rattle.views.specs.View.{Limits}
use Rattle.unit.specs.Carried.{Carried, Asked}
use Rattle.answers.specs.declared.call.Caller.{Caller}
use Rattle.history.specs.Named.{Named, ask, Call, Response, Quote, priced, unpriced, quote, dated, response_to}
use Rattle.history.specs.Named.{calling, look_up, issue, forward, release, flush}
use Rattle.history.specs.Named.{compared, is_accepted, accepted_calls, quote_in, quotes}
use Rattle.history.specs.Earlier.{earlier_load, earlier_responses}
use Rattle.history.specs.Plain.{Load, load_of, load_checked, loaded_plain}
use Rattle.history.specs.Traces.{Asked as AskedIn3, plain_responses}
use Rattle.conditions.specs.CCalls.{Memory, Result, CallOfC, CallOnStoreC, memory_after, tells_c, CLoads, lengths_c}
use Rattle.conditions.specs.Runs.{Turn, Run3, responses_in, calls_in}
use Rattle.conditions.specs.Serving.{Seen, CallOfServe, CallOnStore, handed, tells, lengths_in, loading, said_of, Loads}

-- Of what is called: a call that keeps its promise, what it leaves for the next, its response, an accepted load, and the lengths lent.
module _ {M S : Type 0} (Does : M → Asked → S → Type 0) (left : S → M) (tells : Named → S → Response)
    (Loads : M → Load → S → Type 0) (lengths : M → Limits) where
  -- "Then in each store each call is accepted exactly when the plain list .. accepts it, and else refused by the same number", with
  -- each read set, image, price, since when and forwarded read
  abbrev pub AnswersAsPlain : Type 0
  AnswersAsPlain =
      (m : M) (load : Load) (loaded : S) (turns : List (Turn AskedIn3 S))
      → Loads m load loaded → Run3 Does left tells (left loaded) turns
      → responses_in tells turns ≡ plain_responses (loaded_plain (lengths m) load) (calls_in turns)

  -- "where both stores accept the same calls in the same order, flushes apart, their lookups' prices and forwarded reads are equal, one
  -- by one": each store has a depth of its own, which bars flushes alone
  abbrev pub QuotesAlike : Type 0
  QuotesAlike =
      (m₁ m₂ : M) (depth₁ depth₂ : ℕ) (format : Format) (bytes : List ℕ) (loaded₁ loaded₂ : S) (turns₁ turns₂ : List (Turn AskedIn3 S))
      → Loads m₁ (load_of depth₁ format bytes) loaded₁ → Run3 Does left tells (left loaded₁) turns₁
      → Loads m₂ (load_of depth₂ format bytes) loaded₂ → Run3 Does left tells (left loaded₂) turns₂
      → accepted_calls (calls_in turns₁) (responses_in tells turns₁) ≡ accepted_calls (calls_in turns₂) (responses_in tells turns₂)
      → quotes (responses_in tells turns₁) ≡ quotes (responses_in tells turns₂)

  -- document 02, Q-6: "With depth 0 all earlier histories run as they did": after a load with depth 0 the answers are those of the plain
  -- list without depth (history/specs/Earlier.antt)
  abbrev pub RunsAsEarlier : Type 0
  RunsAsEarlier =
      (m : M) (format : Format) (bytes : List ℕ) (loaded : S) (turns : List (Turn AskedIn3 S))
      → Loads m (load_of 0 format bytes) loaded → Run3 Does left tells (left loaded) turns
      → responses_in tells turns ≡ earlier_responses (loaded_plain (lengths m) (load_of 0 format bytes)) (calls_in turns)

pub record Condition3 : Type 0 where
  -- "the same calls": "an image's bytes aren't compared", nor is who calls, and "flushes apart"
  pub bytes_not_compared : (named : Named) (list a b : List ℕ) → compared (calling named list a) ≡ compared (calling named list b)
  pub caller_not_compared : (a b : Caller) (slot offer n : ℕ) (list : List ℕ)
      → (compared (look_up a offer n) ≡ compared (look_up b offer n))
      × (compared (issue a slot list) ≡ compared (issue b slot list))
      × (compared (forward a slot n) ≡ compared (forward b slot n))
      × (compared (release a slot) ≡ compared (release b slot))
  pub flushes_apart : (n : ℕ) → compared (flush n) ≡ []
  -- a lookup's response has the price or none, and since when: the number is compared with the plain list's;
  pub lookups_respond : (asked : Lookup) (p : ℕ) (since : When) (words bytes : List ℕ)
      → (response_to (ask (LookUp asked)) (priced_by p since) words bytes ≡ dated (priced p) since)
      × (response_to (ask (LookUp asked)) (without since) words bytes ≡ dated unpriced since)
  -- and lookups that differ in the price or in since when have different responses
  pub lookups_told_apart : (q r : Quote) (a b : When) → dated q a ≡ dated r b → (q ≡ r) × (a ≡ b)
  pub prices_told_apart : (p q : ℕ) → priced p ≡ priced q → p ≡ q
  -- of the calls of a run just those count that were accepted, and of its answers every price, or none, and every forwarded read; of a
  -- lookup since when is left out: "Two stores with different flushes may differ in this number; prices still agree."
  pub accepted_count : (c : Call) (calls : List Call) (r : Response) (responses : List Response)
      → accepted_calls (c ∷ calls) (r ∷ responses) ≡ cond (is_accepted r) (compared c) [] ++ accepted_calls calls responses
  pub quotes_count : (r : Response) (responses : List Response) → quotes (r ∷ responses) ≡ quote_in r ++ quotes responses
  pub forwards_count : (q : Quote) → quote_in (quote q) ≡ q ∷ []
  pub lookups_count : (q : Quote) (since : When) → quote_in (dated q since) ≡ q ∷ []
  -- a load into memory of lengths in range is accepted exactly when the plain list accepts it, and else refused by the same number
  pub serve_loads_as_plain : (k : Carried) (words : List ℕ) (load : Load) (s : Seen)
      → are_lengths (length k.table) (length k.journal) ≡ true → CallOfServe k (loading words load) s
      → said_by s.reply.answer ≡ said_of (load_checked (lengths_in k) load)
  pub c_loads_as_plain : (m : Memory) (words : List ℕ) (load : Load) (r : Result)
      → are_lengths (length m.table) (length m.journal) ≡ true → CallOfC m (loading words load) r
      → r.code ≡ code_of (said_of (load_checked (lengths_c m) load))
  -- with depth 0 that is the load as it was
  pub depth_0_loads : (limits : Limits) (format : Format) (bytes : List ℕ)
      → load_checked limits (load_of 0 format bytes) ≡ earlier_load limits format bytes
  -- over runs of `serve`
  pub serve_answers_as_plain : AnswersAsPlain CallOnStore handed tells Loads lengths_in
  pub serve_quotes_alike : QuotesAlike CallOnStore handed tells Loads lengths_in
  pub serve_runs_as_earlier : RunsAsEarlier CallOnStore handed tells Loads lengths_in
  -- over runs of the C functions
  pub c_answers_as_plain : AnswersAsPlain CallOnStoreC memory_after tells_c CLoads lengths_c
  pub c_quotes_alike : QuotesAlike CallOnStoreC memory_after tells_c CLoads lengths_c
  pub c_runs_as_earlier : RunsAsEarlier CallOnStoreC memory_after tells_c CLoads lengths_c
