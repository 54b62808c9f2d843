-- A call by its grounds: where one is met it gives the number of the first and leaves all as it came, and where none is it is accepted.
-- Assumes nothing.
use mathlib.Core.Path.{◌≡◌, refl, sym, ap, ◌∙◌}
use mathlib.Core.Bool.{Bool, true, false, cond}
use mathlib.Core.List.{List, [], ◌∷◌, ◌++◌}
use Prim.Native.Nat.{ℕ, ◌≤◌}
use native.Mathlib.Omega.{arith}
use lib.ListN.{length}
use Rattle.answers.specs.Check.{Answered}
use Rattle.answers.specs.declared.answer.Answer.TheVariants.{Done, Quoted, Count}
use Rattle.answers.specs.Check.{Check}
use Rattle.std.proofs.Common.{Ok, Err}
use Rattle.answers.specs.declared.call.Call.{Call}
use Rattle.answers.specs.declared.call.Call.TheVariants.{Reset, Step, Read, Ask}
use Rattle.answers.specs.declared.call.Query.TheVariants.{LookUp, Write, WriteState}
use Rattle.answers.specs.declared.call.Read.TheVariants.{Issue, Forward, Release}
use Rattle.answers.specs.declared.call.Reset.TheVariants.{Clear, Load, Restart}
use Rattle.answers.specs.declared.call.Step.TheVariants.{Commit, RollBack, Flush}
use Rattle.answers.specs.declared.ground.Ground.{Ground}
use Rattle.answers.specs.declared.ground.Ground.TheVariants.{Lengths, Unsound, SlotRange, SlotTaken, SlotClosed, BadList}
use Rattle.answers.specs.declared.ground.Ground.TheVariants.{BadOrder, OfferNotRead, OrderNoPrice, PriceRange, StateRange}
use Rattle.answers.specs.declared.ground.Ground.TheVariants.{LastState, StepsFull, JournalFull, BadImage, TableFull, OutputShort}
use Rattle.answers.specs.declared.ground.Ground.TheVariants.{LongList, OthersSlot, TooDeep}
use Rattle.std.proofs.Common.{Option}
use Rattle.answers.specs.Answers.{said_by, ground_in, when_in, is_accepted, answered, said_by_price, said_by_since, When, is_granted}
use Rattle.answers.specs.First.{Test, met, first}
use Rattle.answers.specs.Numbers.{number_of}
use Rattle.answers.specs.declared.answer.Since.{Since}
use Rattle.answers.specs.Counts.{counts}
use Rattle.calls.specs.Lent.{Lent, Left, Meaning, check_of, settled_by}
use Rattle.calls.specs.Meaning.{meaning, performed}
use Rattle.changes.specs.Found.{Found}
use Rattle.std.proofs.Common.{Some, None}
use Rattle.changes.specs.Calculus.{find}
use Rattle.layout.specs.States.{map_here}
use Rattle.lookups.specs.LookUp.{quote_of, since_here}
use Rattle.soundness.specs.Checks.{length_grounds, store_grounds}
use Rattle.lent.specs.Lent.{tests_store}
use Rattle.unit.specs.Carried.{Carried, Asked, lent_to}
use Rattle.unit.proofs.Theorems.{refused_keeps}
use Rattle.conditions.specs.Grounds.{highest, grounds_of, numbers, once, first_number, none_met}
use Rattle.conditions.specs.Serving.{Seen, CallOfServe, Untouched}
use Rattle.conditions.specs.Condition1.{OneNumber}
use Rattle.conditions.proofs.Lookups.{Within, since_Within}

-- the numbers of the grounds begin with 1 and end with the highest
pub number_range : (ground : Ground) → (1 ≤ number_of ground) × (number_of ground ≤ highest)
number_range Lengths = (omega arith, omega arith)
number_range Unsound = (omega arith, omega arith)
number_range SlotRange = (omega arith, omega arith)
number_range SlotTaken = (omega arith, omega arith)
number_range SlotClosed = (omega arith, omega arith)
number_range BadList = (omega arith, omega arith)
number_range BadOrder = (omega arith, omega arith)
number_range OfferNotRead = (omega arith, omega arith)
number_range OrderNoPrice = (omega arith, omega arith)
number_range PriceRange = (omega arith, omega arith)
number_range StateRange = (omega arith, omega arith)
number_range LastState = (omega arith, omega arith)
number_range StepsFull = (omega arith, omega arith)
number_range JournalFull = (omega arith, omega arith)
number_range BadImage = (omega arith, omega arith)
number_range TableFull = (omega arith, omega arith)
number_range OutputShort = (omega arith, omega arith)
number_range LongList = (omega arith, omega arith)
number_range OthersSlot = (omega arith, omega arith)
number_range TooDeep = (omega arith, omega arith)

one_quote : (price : Option ℕ) (since : When) → is_granted (said_by_price price since) ≡ false → OneNumber (said_by_price price since)
one_quote (Some p) since e = absurd (let z : ◌≡◌ {A = ℕ} 0 1 = cc in omega arith)
one_quote None since e = absurd (let z : ◌≡◌ {A = ℕ} 0 1 = cc in omega arith)

one_number : (answer : Answered) → is_accepted answer ≡ false → OneNumber (said_by answer)
one_number (Ok Done) e = absurd (let z : ◌≡◌ {A = ℕ} 0 1 = cc in omega arith)
one_number (Ok (Quoted quote)) e = one_quote quote.price (said_by_since quote.since) e
one_number (Ok (Count n)) e = absurd (let z : ◌≡◌ {A = ℕ} 0 1 = cc in omega arith)
one_number (Err ground) e = record { alone = refl; least = (number_range ground).0; most = (number_range ground).1 }

quote_granted : (found : Found) (since : Since) → is_accepted (quote_of found since) ≡ true
quote_granted (Some w) since = refl
quote_granted None since = refl

-- grounds 1 and 2 stand before all others at a call that tests the store, and 1 at any
pub record Begins (l : Lent) (both : Bool) (tests : List Test) : Type 0 where
  pub rest : List Test
  pub is : tests
      ≡ cond both (store_grounds l.table l.journal l.head) (length_grounds (length l.table) (length l.journal)) ++ rest

-- what a call is lent of a store, as it is carried; the tally is no matter here
abbrev store_of : Lent → Carried
store_of l = record { tally = counts 0 0 0; table = l.table; journal = l.journal; head = l.head }

-- each call: where it is accepted it answers what is no refusal, its tests are those of the table, they begin with those of the store, and
-- it names no state above the tip as since when
by_table : (l : Lent) (call : Call)
    → (is_accepted (meaning l call).accepted.answer ≡ true)
    × (once (numbers (meaning l call).grounds) ≡ grounds_of call)
    × Begins l (tests_store call) (meaning l call).grounds
    × (check_of (meaning l call) ≡ (Ok tt) → Within l.head.tip (when_in (said_by (meaning l call).accepted.answer)))
unfolding once numbers
by_table l (Reset (Clear depth)) = (refl, refl, record { rest = _; is = refl }, λ e. tt)
by_table l (Reset (Load depth format)) = (refl, refl, record { rest = _; is = refl }, λ e. tt)
by_table l (Reset Restart) = (refl, refl, record { rest = _; is = refl }, λ e. tt)
by_table l (Step Commit) = (refl, refl, record { rest = _; is = refl }, λ e. tt)
by_table l (Step (RollBack state)) = (refl, refl, record { rest = _; is = refl }, λ e. tt)
by_table l (Step (Flush state)) = (refl, refl, record { rest = _; is = refl }, λ e. tt)
by_table l (Read (Issue reader)) = (refl, refl, record { rest = _; is = refl }, λ e. tt)
by_table l (Read (Forward reader state)) = (refl, refl, record { rest = _; is = refl }, λ e. tt)
by_table l (Read (Release reader)) = (refl, refl, record { rest = _; is = refl }, λ e. tt)
by_table l (Ask (LookUp asked)) =
    let found = find asked.offer (map_here l.table l.journal l.head asked.state) in (
      quote_granted found (since_here l.journal l.head asked),
      refl,
      record { rest = _; is = refl },
      since_Within (store_of l) asked found,
    )
by_table l (Ask (Write format)) = (refl, refl, record { rest = _; is = refl }, λ e. tt)
by_table l (Ask (WriteState format state)) = (refl, refl, record { rest = _; is = refl }, λ e. tt)

pub granted : (l : Lent) (call : Call) → is_accepted (meaning l call).accepted.answer ≡ true
granted l call = (by_table l call).0

pub tests_are : (l : Lent) (call : Call) → once (numbers (meaning l call).grounds) ≡ grounds_of call
tests_are l call = (by_table l call).1

pub begins : (l : Lent) (call : Call) → Begins l (tests_store call) (meaning l call).grounds
begins l call = (by_table l call).2

-- since when, of what a call answers
pub within : (l : Lent) (call : Call) → Within l.head.tip (when_in (said_by (performed l call).answer))
within l call = go (check_of (meaning l call)) refl
  where
    go : (c : Check) → check_of (meaning l call) ≡ c
        → Within l.head.tip (when_in (said_by (answered c (meaning l call).accepted.answer)))
    go (Ok tt) e = (by_table l call).3 e
    go (Err ground) e = tt

-- a call by its tests
module _ (made : Left) (l : Lent) where
  pub left_as_came : (c : Check) → is_accepted made.answer ≡ true → is_accepted (answered c made.answer) ≡ false
      → (settled_by c made l).lent ≡ l
  left_as_came (Ok tt) y n = absurd (let z : ◌≡◌ {A = Bool} true false = sym y ∙ n in let z : ◌≡◌ {A = ℕ} 0 1 = cc in omega arith)
  left_as_came (Err ground) y n = refl

  pub by_tests : (gs : List Test) → is_accepted made.answer ≡ true → is_accepted (answered (first gs) made.answer) ≡ none_met gs
  unfolding first none_met
  by_tests [] y = y
  by_tests (met true ground ∷ gs) y = refl
  by_tests (met false ground ∷ gs) y = by_tests gs y

  no_quote : (price : Option ℕ) (since : When) → ground_in (said_by_price price since) ≡ 0
  no_quote (Some p) since = refl
  no_quote None since = refl

  no_number : (answer : Answered) → is_accepted answer ≡ true → ground_in (said_by answer) ≡ 0
  no_number (Ok Done) y = refl
  no_number (Ok (Quoted quote)) y = no_quote quote.price (said_by_since quote.since)
  no_number (Ok (Count n)) y = refl
  no_number (Err ground) y = absurd (let z : ◌≡◌ {A = ℕ} 0 1 = cc in omega arith)

  pub number_by_tests : (gs : List Test) → is_accepted made.answer ≡ true
      → ground_in (said_by (answered (first gs) made.answer)) ≡ first_number gs
  unfolding first first_number
  number_by_tests [] y = no_number made.answer y
  number_by_tests (met true ground ∷ gs) y = refl
  number_by_tests (met false ground ∷ gs) y = number_by_tests gs y

module _ (k : Carried) (a : Asked) (s : Seen) (serves : CallOfServe k a s) where
  abbrev pub l : Lent
  l = lent_to k a

  abbrev pub m : Meaning
  m = meaning l a.call

  pub answer_is : s.reply.answer ≡ (performed l a.call).answer
  answer_is = ap (λ r. r.answer) serves.0.0

  pub came : is_accepted s.reply.answer ≡ false → OneNumber (said_by s.reply.answer) × Untouched k a s
  came n =
      let not-granted = sym (ap is_accepted answer_is) ∙ n in
      let same = left_as_came m.accepted l (first m.grounds) (granted l a.call) not-granted in
      let tally = serves.1 ∙ refused_keeps k.tally k.head.checkpoint k.head.tip a.call
      (performed l a.call).answer not-granted in
      let table = serves.2 ∙ ap (λ (x : Lent). x.table) same in
      let journal = serves.3 ∙ ap (λ (x : Lent). x.journal) same in
      let head = ap (λ r. r.head) serves.0.0 ∙ ap (λ (x : Lent). x.head) same in (
        one_number s.reply.answer n,
        (
          (λ i. record { tally = tally i; table = table i; journal = journal i; head = head i }),
          serves.4 ∙ ap (λ (x : Lent). x.words) same,
          serves.5 ∙ ap (λ (x : Lent). x.bytes) same,
        ),
      )
