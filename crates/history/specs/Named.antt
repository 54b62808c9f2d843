-- The calls that condition 3 names, with their arguments, and what each is answered. Document 01's book is here the table, its change
-- memory the journal, its anchor the checkpoint, a reading place a slot, and drop is release.
-- Assumes nothing.
use Rattle.std.specs.Prelude.{Bool, true, false, cond, List, [], ◌∷◌, ◌++◌, ℕ}
use Rattle.answers.specs.declared.call.Call.{Call as UnitCall}
use Rattle.answers.specs.declared.call.Caller.{Caller}
use Rattle.answers.specs.declared.call.Caller.TheVariants.{Desk}
use Rattle.answers.specs.declared.call.Call.TheVariants.{Step, Read, Ask}
use Rattle.answers.specs.declared.call.Format.TheVariants.{Image, Sheet}
use Rattle.answers.specs.declared.call.Query.{Query}
use Rattle.answers.specs.declared.call.Query.TheVariants.{LookUp, Write, WriteState}
use Rattle.answers.specs.declared.call.Read.{Read as ReadCall}
use Rattle.answers.specs.declared.call.Read.TheVariants.{Issue, Forward, Release}
use Rattle.answers.specs.declared.call.Step.{Step as StepCall}
use Rattle.answers.specs.declared.call.Step.TheVariants.{Commit, RollBack, Flush}
use Rattle.answers.specs.Answers.{When, by_book, Said, accepted, refused as refused_by, priced as priced_by, without}
use Rattle.slots.specs.Callers.{reader_of}

-- the calls of condition 3 with their numbers: all but clear, load and restart
pub data Named : Type 0 where
  step : StepCall → Named
  read : ReadCall → Named
  ask : Query → Named

abbrev pub unit_call : Named → UnitCall
unit_call (step call) = Step call
unit_call (read call) = Read call
unit_call (ask query) = Ask query

-- a call with its arguments: its numbers, its list and the bytes lent; a forward's read set is no part of it
pub record Call : Type 0 where
  pub named : Named
  pub list : List ℕ
  pub bytes : List ℕ

abbrev pub calling : Named → List ℕ → List ℕ → Call
calling named list bytes = record { named = named; list = list; bytes = bytes }

-- who calls, an offer and a state
abbrev pub look_up : Caller → ℕ → ℕ → Call
look_up caller offer state = calling (ask (LookUp (record { caller = caller; offer = offer; state = state }))) [] []

-- a list
abbrev pub commit : List ℕ → Call
commit list = calling (step Commit) list []

-- a state
abbrev pub roll_back : ℕ → Call
roll_back state = calling (step (RollBack state)) [] []

abbrev pub flush : ℕ → Call
flush state = calling (step (Flush state)) [] []

-- who calls, a slot and a list
abbrev pub issue : Caller → ℕ → List ℕ → Call
issue caller slot list = calling (read (Issue (reader_of caller slot))) list []

-- who calls, a slot and a state
abbrev pub forward : Caller → ℕ → ℕ → Call
forward caller slot state = calling (read (Forward (reader_of caller slot) state)) [] []

-- who calls, and a slot: document 01's drop
abbrev pub release : Caller → ℕ → Call
release caller slot = calling (read (Release (reader_of caller slot))) [] []

-- the bytes lent, with no state named
abbrev pub write_image : List ℕ → Call
write_image out = calling (ask (Write Image)) [] out

abbrev pub write_sheet : List ℕ → Call
write_sheet out = calling (ask (Write Sheet)) [] out

-- a state, and the bytes lent
abbrev pub write_state_image : ℕ → List ℕ → Call
write_state_image state out = calling (ask (WriteState Image state)) [] out

abbrev pub write_state_sheet : ℕ → List ℕ → Call
write_state_sheet state out = calling (ask (WriteState Sheet state)) [] out

-- what two stores that accept the same calls must answer alike
pub data Quote : Type 0 where
  -- a lookup: the offer's price, or none
  priced : ℕ → Quote
  unpriced : Quote
  -- "A forwarded read is the read set's words after an accepted forward."
  brought : List ℕ → Quote

-- what a query answers besides
pub data Report : Type 0 where
  -- the count of the bytes written, and the bytes lent as they are then
  output : ℕ → List ℕ → Report

-- what a call answers, with what it leaves in the caller's words or bytes
pub data Response : Type 0 where
  -- "the answer is the number alone"
  refused : ℕ → Response
  -- a commit, rollback, flush or release
  done : Response
  -- an issue: the list as it was filled
  filled : List ℕ → Response
  -- a forward: what it quotes
  quote : Quote → Response
  -- a lookup: what it quotes, and since when
  dated : Quote → When → Response
  -- any other query
  report : Report → Response

abbrev pub price : ℕ → When → Response
price p since = dated (priced p) since

abbrev pub no_price : When → Response
no_price since = dated unpriced since

abbrev pub forwarded : List ℕ → Response
forwarded words = quote (brought words)

abbrev pub written : ℕ → List ℕ → Response
written count bytes = report (output count bytes)

-- an accepted call with its value, with since when if it is a lookup, and the words and bytes that it leaves
abbrev pub accepted_as : Named → ℕ → When → List ℕ → List ℕ → Response
accepted_as (step call) value since words bytes = done
accepted_as (read (Issue reader)) value since words bytes = filled words
accepted_as (read (Forward reader state)) value since words bytes = forwarded words
accepted_as (read (Release reader)) value since words bytes = done
accepted_as (ask (LookUp asked)) value since words bytes = price value since
accepted_as (ask (Write format)) value since words bytes = written value bytes
accepted_as (ask (WriteState format state)) value since words bytes = written value bytes

-- a lookup says since when (`priced_by`, `without`), and no other call does
abbrev pub response_to : Named → Said → List ℕ → List ℕ → Response
response_to named (accepted value) words bytes = accepted_as named value by_book words bytes
response_to named (refused_by n) words bytes = refused n
response_to named (priced_by value since) words bytes = accepted_as named value since words bytes
response_to named (without since) words bytes = no_price since

-- what a call answers and leaves
pub record Transition (S : Type 0) : Type 0 where
  pub response : Response
  pub next : S

abbrev pub is_accepted : Response → Bool
is_accepted (refused n) = false
is_accepted done = true
is_accepted (filled l) = true
is_accepted (quote q) = true
is_accepted (dated q since) = true
is_accepted (report r) = true

-- the list among a call's arguments
abbrev pub list_in : Named → List ℕ → List ℕ
list_in (step Commit) list = list
list_in (step (RollBack state)) list = []
list_in (step (Flush state)) list = []
list_in (read (Issue reader)) list = list
list_in (read (Forward reader state)) list = []
list_in (read (Release reader)) list = []
list_in (ask query) list = []

-- a call to be compared with others, whoever made it: all are written as the desk's
abbrev pub read_by_any : ReadCall → ReadCall
read_by_any (Issue reader) = Issue (reader_of Desk reader.slot)
read_by_any (Forward reader state) = Forward (reader_of Desk reader.slot) state
read_by_any (Release reader) = Release (reader_of Desk reader.slot)

abbrev pub asked_by_any : Query → Query
asked_by_any (LookUp asked) = LookUp (record { caller = Desk; offer = asked.offer; state = asked.state })
asked_by_any (Write format) = Write format
asked_by_any (WriteState format state) = WriteState format state

abbrev pub by_any : Named → Named
by_any (step call) = step call
by_any (read call) = read (read_by_any call)
by_any (ask query) = ask (asked_by_any query)

-- "Two calls are the same when kind, offer, state, place and list agree; a forward's read set and an image's bytes aren't compared".
-- The caller is not among what must agree, so it is not compared either; a state that is named is, and so is that none is, and whether an
-- image or a sheet is written; and flushes are left apart. What of a call is compared:
abbrev pub name_of : Call → Call
name_of call = calling (by_any call.named) (list_in call.named call.list) []

abbrev pub unless_flush : Named → Call → List Call
unless_flush (step Commit) name = name ∷ []
unless_flush (step (RollBack state)) name = name ∷ []
unless_flush (step (Flush state)) name = []
unless_flush (read call) name = name ∷ []
unless_flush (ask query) name = name ∷ []

abbrev pub compared : Call → List Call
compared call = unless_flush call.named (name_of call)

-- the calls that were accepted, in their order, flushes apart
unfoldable pub accepted_calls : List Call → List Response → List Call
accepted_calls [] responses = []
accepted_calls (c ∷ calls) [] = []
accepted_calls (c ∷ calls) (r ∷ responses) = cond (is_accepted r) (compared c) [] ++ accepted_calls calls responses

-- what of a response two stores must have alike. "Two stores with different flushes may differ in this number; prices still agree": of a
-- lookup since when is left out.
abbrev pub quote_in : Response → List Quote
quote_in (refused n) = []
quote_in done = []
quote_in (filled l) = []
quote_in (quote q) = q ∷ []
quote_in (dated q since) = q ∷ []
quote_in (report r) = []

-- the prices of the lookups and the forwarded reads, in their order
unfoldable pub quotes : List Response → List Quote
quotes [] = []
quotes (r ∷ responses) = quote_in r ++ quotes responses
