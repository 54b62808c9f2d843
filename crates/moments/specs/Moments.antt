-- A moment at the counter (document 01, "Twelve moments at the counter"): what is asked, what the unit's definitions compute for it, and
-- what is expected. The definitions are those that the contracts of the code cite: of a store's calls on what is lent to them
-- (calls/specs/Meaning.antt), of a batch, and of the entry word.
-- Assumes nothing.
use Rattle.std.specs.Prelude.{List, [], map, ℕ, ◌+◌, ◌*◌, ◌^◌, length, replicate}
use Rattle.entry.specs.Word.{put_of}
use Rattle.answers.specs.declared.call.Call.TheVariants.{Reset, Step}
use Rattle.answers.specs.declared.call.Format.{Format}
use Rattle.answers.specs.declared.call.Format.TheVariants.{Image, Sheet}
use Rattle.answers.specs.declared.call.Reset.{Reset as ResetCall}
use Rattle.answers.specs.declared.call.Reset.TheVariants.{Clear, Load, Restart}
use Rattle.answers.specs.declared.call.Step.TheVariants.{Commit}
use Rattle.answers.specs.Answers.{Said, accepted, said_by}
use Rattle.views.specs.View.{Store}
use Rattle.batch.specs.Batches.{batch, answer, output}
use Rattle.snapshot.specs.Fresh.{fresh_head}
use Rattle.calls.specs.Lent.{Left}
use Rattle.calls.specs.Meaning.{performed}
use Rattle.history.specs.Named.{Call, Response, done, refused}
use Rattle.history.specs.Plain.{load_of}
use Rattle.history.specs.Traces.{Asked, nothing, lent_with, store_in, store_responses, Answers, after_load, store_trace}

-- where a store starts: a depth and lent memory of two lengths, the table's and the journal's, which is cleared, or loaded from an image
-- or a sheet
pub data Start : Type 0 where
  cleared_to : ℕ → ℕ → ℕ → Start
  loaded_to : ℕ → ℕ → ℕ → Format → List ℕ → Start

-- with depth 0
abbrev pub cleared : ℕ → ℕ → Start
cleared table journal = cleared_to 0 table journal

abbrev pub loaded : ℕ → ℕ → List ℕ → Start
loaded table journal image = loaded_to 0 table journal Image image

abbrev pub of_sheet : ℕ → ℕ → List ℕ → Start
of_sheet table journal sheet = loaded_to 0 table journal Sheet sheet

-- a call, and the answer expected of it
infix 68 ◌⇒◌
pub data Exchange : Type 0 where
  ◌⇒◌ : Call → Response → Exchange

pub data Moment : Type 0 where
  -- an offer at a price; its word
  word : ℕ → ℕ → ℕ → Moment
  -- a start, which is accepted, and then the calls in turn
  calls : Start → List Exchange → Moment
  -- a start that is refused, and the number
  not_started : Start → ℕ → Moment
  -- a read set, orders and output memory; the answer, and the output memory then
  priced : List ℕ → List ℕ → List ℕ → Said → List ℕ → Moment
  -- a start and a list that is committed, both accepted, and then a clear, load or restart that is lent bytes; its answer, the bytes
  -- then, and the calls after it in turn
  anew : Start → List ℕ → ResetCall → List ℕ → Said → List ℕ → List Exchange → Moment

-- the same of a restart
abbrev pub restarted : Start → List ℕ → List ℕ → Said → List ℕ → List Exchange → Moment
restarted start list bytes a after exchanges = anew start list Restart bytes a after exchanges

-- "An order is 64 bits, most significant first: kind 8 bits, amount 25 bits, offer 31 bits."
abbrev pub order_of : ℕ → ℕ → ℕ → ℕ
order_of kind amount offer = kind * 2 ^ 56 + amount * 2 ^ 31 + offer

-- the lent memory, full of words of no meaning, with any head
abbrev pub lent_of : ℕ → ℕ → Store
lent_of table journal = record { table = replicate table 1; journal = replicate journal 1; head = fresh_head 0 0 0 }

-- a clear, and then the calls
abbrev pub clear_trace : ℕ → Store → List Asked → Answers
clear_trace depth s asked =
    let left = performed (lent_with s [] []) (Reset (Clear depth)) in
    after_load (said_by left.answer) (store_responses (store_in left.lent) (replicate 8 nothing) asked)

-- what a start leaves, and a commit on it
abbrev pub started_at : Start → Left
started_at (cleared_to depth table journal) = performed (lent_with (lent_of table journal) [] []) (Reset (Clear depth))
started_at (loaded_to depth table journal format bytes) = performed (lent_with (lent_of table journal) [] bytes) (Reset (Load depth format))

abbrev pub committed_on : Left → List ℕ → Left
committed_on left list = performed (lent_with (store_in left.lent) list []) (Step Commit)

abbrev pub trace_from : Start → List Asked → Answers
trace_from (cleared_to depth table journal) asked = clear_trace depth (lent_of table journal) asked
trace_from (loaded_to depth table journal format bytes) asked = store_trace (lent_of table journal) (load_of depth format bytes) asked

-- No moment forwards a slot that is not open: a forward is lent what the slot's issue filled, and no other words.
abbrev pub asked_in : Exchange → Asked
asked_in (c ⇒ r) = record { call = c; words = [] }

abbrev pub response_in : Exchange → Response
response_in (c ⇒ r) = r

-- what a moment comes to
pub data Result : Type 0 where
  as_word : ℕ → Result
  as_answers : Answers → Result
  as_output : Said → List ℕ → Result
  -- what start, commit and the call after them answer, the bytes, and the responses then
  as_anew : Said → Said → Said → List ℕ → List Response → Result

-- by the definitions,
abbrev pub computed : Moment → Result
computed (word offer price w) = as_word (put_of offer price)
computed (calls start exchanges) = as_answers (trace_from start (map asked_in exchanges))
computed (not_started start n) = as_answers (trace_from start [])
computed (priced reads orders out a after) =
    let executed = batch reads orders (length out) in
    as_output (answer executed) (output executed out)
computed (anew start list call bytes a after exchanges) =
    let started = started_at start in
    let committed = committed_on started list in
    let left = performed (lent_with (store_in committed.lent) [] bytes) (Reset call) in
    as_anew (said_by started.answer) (said_by committed.answer) (said_by left.answer) left.lent.bytes
    (store_responses (store_in left.lent) (replicate 8 nothing) (map asked_in exchanges))

-- and by the table
abbrev pub expected : Moment → Result
expected (word offer price w) = as_word w
expected (calls start exchanges) = as_answers (record { load = done; responses = map response_in exchanges })
expected (not_started start n) = as_answers (record { load = refused n; responses = [] })
expected (priced reads orders out a after) = as_output a after
expected (anew start list call bytes a after exchanges) = as_anew (accepted 0) (accepted 0) a after (map response_in exchanges)
