-- What each call means, by the definitions that its own contract cites: one clause a call.
-- Assumes nothing.
use Rattle.std.specs.Prelude.{List, ℕ, ◌+◌, length, take, replicate}
use Rattle.changes.specs.Calculus.{find, compose_all}
use Rattle.changes.specs.ReadSets.{read_of, over}
use Rattle.changes.specs.Runs.{start_of}
use Rattle.answers.specs.declared.answer.Answer.TheVariants.{Done, Count}
use Rattle.std.specs.Prelude.{Ok}
use Rattle.answers.specs.First.{Test}
use Rattle.answers.specs.declared.call.Call.{Call}
use Rattle.answers.specs.declared.call.Call.TheVariants.{Reset, Step, Read, Ask}
use Rattle.answers.specs.declared.call.Format.{Format}
use Rattle.answers.specs.declared.call.Format.TheVariants.{Image}
use Rattle.answers.specs.declared.call.Query.{Query}
use Rattle.answers.specs.declared.call.Query.TheVariants.{LookUp, Write, WriteState}
use Rattle.answers.specs.declared.call.Read.{Read as ReadCall}
use Rattle.answers.specs.declared.call.Read.TheVariants.{Issue, Forward, Release}
use Rattle.answers.specs.declared.call.Reset.{Reset as ResetCall}
use Rattle.answers.specs.declared.call.Reset.TheVariants.{Clear, Load, Restart}
use Rattle.answers.specs.declared.call.Step.{Step as StepCall}
use Rattle.answers.specs.declared.call.Step.TheVariants.{Commit, RollBack, Flush}
use Rattle.image.specs.Image.{count_in, number_in, words_in}
use Rattle.formats.specs.Formats.{map_in}
use Rattle.layout.specs.States.{held_of, map_here}
use Rattle.views.specs.Laid.{padded}
use Rattle.views.specs.Trim.{trimmed_head, trimmed_journal}
use Rattle.slots.specs.Slots.{opened, closed_at}
use Rattle.snapshot.specs.Snapshots.{fresh_grounds, load_grounds}
use Rattle.snapshot.specs.Fresh.{fresh_head}
use Rattle.exports.specs.Export.{write_grounds, own_grounds, state_size, state_over}
use Rattle.restarts.specs.Restart.{restart_grounds, restart_image}
use Rattle.commits.specs.Commit.{commit_grounds, used_of, with_list, with_step}
use Rattle.rollbacks.specs.RollBack.{roll_grounds, kept_of, cut_at, cut_to}
use Rattle.flushes.specs.Flush.{flush_grounds, flushed_head}
use Rattle.lookups.specs.LookUp.{look_up_grounds, quote_of, since_here}
use Rattle.issues.specs.Issue.{issue_grounds}
use Rattle.forwards.specs.Forward.{forward_grounds, steps_for}
use Rattle.releases.specs.Release.{release_grounds}
use Rattle.calls.specs.Lent.{Lent, with_store, with_words, with_bytes, Left, Meaning, means, Asking, asks, settled}

module _ (l : Lent) where
  -- the calls that make a store anew
  abbrev pub reset_of : ResetCall → Meaning
  reset_of (Clear depth) =
      means (fresh_grounds (length l.table) (length l.journal) depth) (Ok Done)
      (with_store l (replicate (length l.table) 0) (replicate (length l.journal) 0) (fresh_head 0 0 depth))
  reset_of (Load depth format) =
      let map = map_in format l.bytes in
      means (load_grounds (length l.table) (length l.journal) depth format l.bytes) (Ok Done)
      (with_store l
      (padded (length l.table) map)
      (replicate (length l.journal) 0)
      (fresh_head (length map) (number_in l.bytes) depth))
  reset_of Restart =
      let image = restart_image l.table l.journal l.head in
      means (restart_grounds l.table l.journal l.head (length l.bytes)) (Ok Done)
      (with_bytes
      (with_store l (padded (length l.table) (words_in image)) (replicate (length l.journal) 0)
      (fresh_head (count_in image) (number_in image) l.head.depth))
      (state_over Image l.table l.journal l.head l.head.checkpoint l.bytes))

  -- the calls that add steps, take them back and flush them
  abbrev pub step_of : StepCall → Meaning
  step_of Commit =
      let used = used_of l.head in
      means (commit_grounds l.table l.journal l.head l.words) (Ok Done)
      (with_store l l.table (with_list l.journal used l.words) (with_step l.head (held_of l.head) (used + length l.words)))
  step_of (RollBack state) =
      let kept = kept_of l.head state in
      means (roll_grounds l.table l.journal l.head state) (Ok Done)
      (with_store l l.table (cut_at l.journal (start_of l.head.ends kept)) (cut_to l.head kept state))
  step_of (Flush state) =
      let map = map_here l.table l.journal l.head state in
      let head = flushed_head l.head (length map) state in
      means (flush_grounds l.table l.journal l.head state) (Ok Done)
      (with_store l (padded (length l.table) map) (trimmed_journal head l.journal) (trimmed_head head))

  -- the calls that open and close slots
  abbrev pub read_call_of : ReadCall → Meaning
  read_call_of (Issue reader) =
      means (issue_grounds l.table l.journal l.head reader l.words) (Ok Done)
      (with_words
      (with_store l l.table l.journal (opened l.head reader.slot))
      (read_of (take l.head.used l.table) l.words))
  read_call_of (Forward reader state) =
      let head = closed_at l.head reader.slot in
      means (forward_grounds l.table l.journal l.head reader state l.words) (Ok Done)
      (with_words
      (with_store l l.table (trimmed_journal head l.journal) (trimmed_head head))
      (over l.words (compose_all (steps_for l.journal l.head reader state))))
  read_call_of (Release reader) =
      let head = closed_at l.head reader.slot in
      means (release_grounds l.table l.journal l.head reader) (Ok Done)
      (with_store l l.table (trimmed_journal head l.journal) (trimmed_head head))

  -- the writing of a state
  abbrev pub writing : Format → List Test → ℕ → Asking
  writing format grounds state = record {
    grounds = grounds;
    answer = Ok (Count (state_size format l.table l.journal l.head state));
    words = l.words;
    bytes = state_over format l.table l.journal l.head state l.bytes;
  }

  -- the calls that change nothing of a store
  abbrev pub query_of : Query → Asking
  query_of (LookUp asked) = record {
    grounds = look_up_grounds l.table l.journal l.head asked;
    answer =
        quote_of (find asked.offer (map_here l.table l.journal l.head asked.state)) (since_here l.journal l.head asked);
    words = l.words;
    bytes = l.bytes;
  }
  -- "With no state named, the tip is now written"
  query_of (Write format) =
      writing format (own_grounds format l.table l.journal l.head l.head.tip (length l.bytes)) l.head.tip
  query_of (WriteState format state) =
      writing format (write_grounds format l.table l.journal l.head state (length l.bytes)) state

  abbrev pub meaning : Call → Meaning
  meaning (Reset call) = reset_of call
  meaning (Step call) = step_of call
  meaning (Read call) = read_call_of call
  meaning (Ask query) = asks l (query_of query)

-- what a call answers and leaves
abbrev pub performed : Lent → Call → Left
performed l call = settled (meaning l call) l

-- and the same for a call of each group
abbrev pub reset_left : Lent → ResetCall → Left
reset_left l call = settled (reset_of l call) l

abbrev pub step_left : Lent → StepCall → Left
step_left l call = settled (step_of l call) l

abbrev pub read_left : Lent → ReadCall → Left
read_left l call = settled (read_call_of l call) l

abbrev pub query_left : Lent → Query → Left
query_left l query = settled (asks l (query_of l query)) l
