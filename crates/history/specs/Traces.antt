-- Traces: a load and then a list of calls on a store, and the calls on the plain list. The store's side is what the unit's calls answer
-- and leave, by the definition that the contracts of `calls::perform` and `unit::serve` cite.
-- Assumes nothing.
use Rattle.std.specs.Prelude.{cond, List, [], ◌∷◌, ℕ, length, get_or, set, replicate}
use Rattle.answers.specs.declared.call.Call.TheVariants.{Reset}
use Rattle.answers.specs.declared.call.Read.TheVariants.{Issue, Forward, Release}
use Rattle.answers.specs.declared.call.Reset.TheVariants.{Load as LoadCall}
use Rattle.answers.specs.Answers.{Said, accepted, refused as refused_by, priced, without, said_by}
use Rattle.views.specs.View.{Store, Limits}
use Rattle.calls.specs.Lent.{Lent, lent, Left}
use Rattle.calls.specs.Meaning.{performed}
use Rattle.history.specs.Named.{Named, step, read, ask, unit_call, Call, Response, refused, done, price}
use Rattle.history.specs.Named.{no_price, filled, quote, dated, report}
use Rattle.history.specs.Named.{response_to, Transition, is_accepted}
use Rattle.history.specs.Plain.{Plain, plain_transition, Load}

-- a call, with words that are lent to it as read set if it is a forward on a slot that is not open
pub record Asked : Type 0 where
  pub call : Call
  pub words : List ℕ

-- what the caller has of a slot: nothing, or what the slot's last accepted issue filled
pub data ReadSet : Type 0 where
  nothing : ReadSet
  holds : List ℕ → ReadSet

-- "each forward on an open place the read set that the place's last accepted issue filled, unaltered"
abbrev pub holds_or : ReadSet → List ℕ → List ℕ
holds_or nothing words = words
holds_or (holds l) words = l

-- the words lent to a call: its list, or at a forward the read set
abbrev pub words_lent : List ReadSet → Named → List ℕ → List ℕ → List ℕ
words_lent sets (step call) list words = list
words_lent sets (read (Issue reader)) list words = list
words_lent sets (read (Forward reader state)) list words = holds_or (get_or sets reader.slot nothing) words
words_lent sets (read (Release reader)) list words = list
words_lent sets (ask query) list words = list

-- the sets after a call, from the call and its answer alone
abbrev pub closed_by : Response → List ReadSet → ℕ → List ReadSet
closed_by response sets slot = cond (is_accepted response) (set sets slot nothing) sets

abbrev pub opened_by : Response → List ReadSet → ℕ → List ReadSet
opened_by (filled l) sets slot = set sets slot (holds l)
opened_by (refused n) sets slot = sets
opened_by done sets slot = sets
opened_by (quote q) sets slot = sets
opened_by (dated q since) sets slot = sets
opened_by (report r) sets slot = sets

abbrev pub read_sets_after : List ReadSet → Named → Response → List ReadSet
read_sets_after sets (step call) response = sets
read_sets_after sets (read (Issue reader)) response = opened_by response sets reader.slot
read_sets_after sets (read (Forward reader state)) response = closed_by response sets reader.slot
read_sets_after sets (read (Release reader)) response = closed_by response sets reader.slot
read_sets_after sets (ask query) response = sets

-- a call of the unit on the memory and head of a store, with the words and bytes lent to it
abbrev pub lent_with : Store → List ℕ → List ℕ → Lent
lent_with s words bytes = lent s.table s.journal words bytes s.head

abbrev pub store_in : Lent → Store
store_in l = record { table = l.table; journal = l.journal; head = l.head }

abbrev pub transition_of : Named → Left → Transition Store
transition_of named left = record {
  response = response_to named (said_by left.answer) left.lent.words left.lent.bytes;
  next = store_in left.lent;
}

abbrev pub store_transition : Store → Call → List ℕ → Transition Store
store_transition s call words = transition_of call.named (performed (lent_with s words call.bytes) (unit_call call.named))

-- the answers of a store, call by call, and those of the plain list
unfoldable pub store_responses : Store → List ReadSet → List Asked → List Response
store_responses s sets [] = []
store_responses s sets (a ∷ asked) =
    let c = a.call in
    let transition = store_transition s c (words_lent sets c.named c.list a.words) in
    transition.response ∷ store_responses transition.next (read_sets_after sets c.named transition.response) asked

unfoldable pub plain_responses : Plain → List Call → List Response
plain_responses p [] = []
plain_responses p (c ∷ calls) =
    let transition = plain_transition p c in
    transition.response ∷ plain_responses transition.next calls

-- what a trace answers: the load, and then the calls; where the load is refused there is no store to call
pub record Answers : Type 0 where
  pub load : Response
  pub responses : List Response

abbrev pub after_load : Said → List Response → Answers
after_load (accepted value) responses = record { load = done; responses = responses }
after_load (refused_by n) responses = record { load = refused n; responses = [] }
after_load (priced p since) responses = record { load = price p since; responses = [] }
after_load (without since) responses = record { load = no_price since; responses = [] }

-- a load into lent memory that holds anything, and then the calls
abbrev pub loaded : Store → Load → Left
loaded s load = performed (lent_with s [] load.bytes) (Reset (LoadCall load.depth load.format))

abbrev pub store_trace : Store → Load → List Asked → Answers
store_trace s load asked =
    let left = loaded s load in
    after_load (said_by left.answer) (store_responses (store_in left.lent) (replicate 8 nothing) asked)

abbrev pub lengths_of : Store → Limits
lengths_of s = record { table = length s.table; journal = length s.journal }
