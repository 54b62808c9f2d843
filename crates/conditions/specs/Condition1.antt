-- Condition 1, in the words of the request: "Memory lent to a call, holding anything at all, is read and written only within its ends;
-- every call finishes, loses no digit, tests its own input, and on refusal gives one number of document 01 and leaves memory, tally and
-- head as they came."
--
-- That memory is read and written only within its ends, and that every call finishes and loses no digit, the prover shows of every
-- function that has a body; and none of the functions that a program calls has a `requires`. The rest is stated here, of every call of
-- `serve` and of every C function, whatever it is lent.
-- Assumes nothing.
use Rattle.std.specs.Prelude.{◌≡◌, true, false, cond, List, ◌++◌, ℕ, ◌≤◌, length, drop}
use Rattle.answers.specs.declared.call.Call.TheVariants.{Read, Ask}
use Rattle.answers.specs.declared.call.Caller.{Caller}
use Rattle.answers.specs.declared.call.Caller.TheVariants.{Desk, Foyer}
use Rattle.answers.specs.declared.call.Query.TheVariants.{LookUp}
use Rattle.answers.specs.declared.call.Read.{Read as ReadCall}
use Rattle.answers.specs.declared.call.Read.TheVariants.{Issue, Forward, Release}
use Rattle.answers.specs.declared.call.Reader.{Reader}
use Rattle.answers.specs.Answers.{Said, refused, said_by, ground_in, is_accepted}
use Rattle.answers.specs.First.{Test}
use Rattle.calls.specs.Lent.{Lent}
use Rattle.calls.specs.Meaning.{meaning, performed}
use Rattle.execution.specs.Executing.{done, priced}
use Rattle.batch.specs.Batches.{batch_grounds}
use Rattle.changes.specs.Lists.{is_list, has_no_put}
use Rattle.layout.specs.Clauses.{are_lengths}
use Rattle.soundness.specs.Sound.{is_sound}
use Rattle.slots.specs.Callers.{reader_of}
use Rattle.lent.specs.Codes.{no_price}
use Rattle.lent.specs.Lent.{tests_store, is_fit}
use Rattle.unit.specs.Carried.{Carried, Asked, lent_to}
use Rattle.conditions.specs.CCalls.{Memory, carried_in, Result, CallOfC, UntouchedC, accepted_code, ground_code, PricesC}
use Rattle.conditions.specs.Grounds.{highest, grounds_of, numbers, once, first_number, none_met}
use Rattle.conditions.specs.Ranges.{Ranges}
use Rattle.conditions.specs.Runs.{lending}
use Rattle.conditions.specs.Serving.{Seen, CallOfServe, Untouched}

-- "one number of document 01", which those of document 02 have joined
pub record OneNumber (said : Said) : Type 0 where
  pub alone : said ≡ refused (ground_in said)
  pub least : 1 ≤ ground_in said
  pub most : ground_in said ≤ highest

-- the tests of a call on what is carried, each with its ground
abbrev pub tests_of : Carried → Asked → List Test
tests_of k a = (meaning (lent_to k a) a.call).grounds

-- who makes a call on a place, and on which
abbrev pub reader_in : ReadCall → Reader
reader_in (Issue reader) = reader
reader_in (Forward reader state) = reader
reader_in (Release reader) = reader

-- a place is the caller's
abbrev pub Own : Caller → ℕ → Type 0
Own Desk slot = slot ≤ 5
Own Foyer slot = (6 ≤ slot) × (slot ≤ 7)

pub record Condition1 : Type 0 where
  -- a call that is not accepted "gives one number of document 01 and leaves memory, tally and head as they came"
  pub refused_as_it_came : (k : Carried) (a : Asked) (s : Seen)
      → CallOfServe k a s → is_accepted s.reply.answer ≡ false
      → OneNumber (said_by s.reply.answer) × Untouched k a s
  -- "tests its own input": "a call that meets no condition is accepted", and any other is turned away by the first that it meets
  pub accepted_where_none_is_met : (k : Carried) (a : Asked) (s : Seen)
      → CallOfServe k a s → is_accepted s.reply.answer ≡ none_met (tests_of k a)
  pub refused_by_the_first : (k : Carried) (a : Asked) (s : Seen)
      → CallOfServe k a s → ground_in (said_by s.reply.answer) ≡ first_number (tests_of k a)
  -- the grounds that concern the call are those of the table, in its order
  pub tests_are_the_table : (k : Carried) (a : Asked) → once (numbers (tests_of k a)) ≡ grounds_of a.call
  -- 1 at every call whose lengths are "outside its range", and then 2, "The store isn't sound (clear and load don't test this)."
  pub lengths_first : (k : Carried) (a : Asked)
      → are_lengths (length k.table) (length k.journal) ≡ false → first_number (tests_of k a) ≡ 1
  pub soundness_second : (k : Carried) (a : Asked)
      → tests_store a.call ≡ true → are_lengths (length k.table) (length k.journal) ≡ true
      → is_sound k.table k.journal k.head ≡ false → first_number (tests_of k a) ≡ 2
  -- the ends of the ranges, at both sides
  pub ranges : Ranges
  -- what an accepted call was lent: "A list breaks its rules" goes by the list of an issue and by the read set of a forward,
  pub issues_a_list : (k : Carried) (reader : Reader) (words bytes : List ℕ)
      → none_met (tests_of k (lending (Read (Issue reader)) words bytes)) ≡ true → (is_list words ≡ true) × (has_no_put words ≡ true)
  pub forwards_a_list : (k : Carried) (reader : Reader) (state : ℕ) (words bytes : List ℕ)
      → none_met (tests_of k (lending (Read (Forward reader state)) words bytes)) ≡ true → is_list words ≡ true
  -- and "the foyer may issue and forward at most 16"
  pub foyer_issues : (k : Carried) (slot : ℕ) (words bytes : List ℕ)
      → none_met (tests_of k (lending (Read (Issue (reader_of Foyer slot))) words bytes)) ≡ true → length words ≤ 16
  pub foyer_forwards : (k : Carried) (slot state : ℕ) (words bytes : List ℕ)
      → none_met (tests_of k (lending (Read (Forward (reader_of Foyer slot) state)) words bytes)) ≡ true → length words ≤ 16
  -- "The foyer has places 6 and 7, the desk 0 to 5": an accepted call names a place of its caller's
  pub names_its_own : (k : Carried) (call : ReadCall) (words bytes : List ℕ)
      → none_met (tests_of k (lending (Read call) words bytes)) ≡ true → Own (reader_in call).caller (reader_in call).slot
  -- "Lookups are open to both.": whoever calls, a lookup answers and leaves the same
  pub lookups_open_to_both : (l : Lent) (a b : Caller) (offer state : ℕ)
      → performed l (Ask (LookUp (record { caller = a; offer = offer; state = state })))
      ≡ performed l (Ask (LookUp (record { caller = b; offer = offer; state = state })))
  -- what is said of `serve` holds of every C function: a code other than 0, and other than 100 for no price, is the number of a
  -- ground, and all is as it came
  pub c_refused_as_it_came : (m : Memory) (a : Asked) (r : Result)
      → CallOfC m a r → (r.code ≡ 0 → ⊥) → (r.code ≡ no_price → ⊥)
      → (1 ≤ r.code) × (r.code ≤ highest) × UntouchedC m a r
  -- where the head's words fit, or the call does not test the store
  pub c_accepted_where_none_is_met : (m : Memory) (a : Asked) (r : Result)
      → CallOfC m a r → is_fit m.head a.call ≡ true → accepted_code r.code ≡ none_met (tests_of (carried_in m) a)
  pub c_refused_by_the_first : (m : Memory) (a : Asked) (r : Result)
      → CallOfC m a r → is_fit m.head a.call ≡ true → ground_code r.code ≡ first_number (tests_of (carried_in m) a)
  -- words that no head has are no sound store: ground 1 first, and then 2
  pub c_head_words : (m : Memory) (a : Asked) (r : Result)
      → CallOfC m a r → is_fit m.head a.call ≡ false → r.code ≡ cond (are_lengths (length m.table) (length m.journal)) 2 1
  -- and of a batch
  pub c_batch_refused_as_it_came : (reads orders out out' : List ℕ) (code before count : ℕ)
      → PricesC reads orders out code out' before count → (code ≡ 0 → ⊥)
      → (1 ≤ code) × (code ≤ 17) × (out' ≡ out) × (count ≡ before)
  pub c_batch_accepted : (reads orders d out out' : List ℕ) (code before count : ℕ)
      → PricesC reads orders out code out' before count
      → none_met (batch_grounds reads orders) ≡ true → priced reads orders ≡ done d → length d ≤ length out
      → (code ≡ 0) × (count ≡ length d) × (out' ≡ d ++ drop (length d) out)
