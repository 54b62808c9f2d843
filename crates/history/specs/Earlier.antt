-- The plain list without depth (document 02, Q-6: "With depth 0 all earlier histories run as they did."): a flush and a load have no ground
-- 20. All else is that of Plain.antt, and the depth that a plain list carries is not read.
-- Assumes nothing.
use Rattle.std.specs.Prelude.{not, List, [], ◌∷◌, ◌++◌, ℕ, ltb, length}
use Rattle.answers.specs.declared.call.Format.{Format}
use Rattle.answers.specs.declared.call.Step.{Step as StepCall}
use Rattle.answers.specs.declared.call.Step.TheVariants.{Commit, RollBack, Flush}
use Rattle.formats.specs.Formats.{is_of_format, map_in}
use Rattle.views.specs.View.{Limits}
use Rattle.history.specs.Named.{Named, step, read, ask, Call, Response, Transition}
use Rattle.history.specs.Plain.{Test, met, Verdict, first_of, response_by, left_by, Plain, map_at, state_tests, step_tests}
use Rattle.history.specs.Plain.{read_tests, query_tests, given, changed}

-- the load: grounds 15 and 16
abbrev pub earlier_load : Limits → Format → List ℕ → Verdict
earlier_load limits format bytes =
    first_of (met (not (is_of_format format bytes)) 15 ∷ met (ltb limits.table (length (map_in format bytes))) 16 ∷ [])

-- a flush: grounds 11 and 16; the other calls' tests read no depth
abbrev pub earlier_step_tests : Plain → StepCall → List ℕ → List Test
earlier_step_tests p Commit list = step_tests p Commit list
earlier_step_tests p (RollBack state) list = step_tests p (RollBack state) list
earlier_step_tests p (Flush state) list = state_tests p state ++ (met (ltb p.limits.table (length (map_at p.line state))) 16 ∷ [])

abbrev pub earlier_tests : Plain → Named → List ℕ → List ℕ → List Test
earlier_tests p (step call) list bytes = earlier_step_tests p call list
earlier_tests p (read call) list bytes = read_tests p call list
earlier_tests p (ask query) list bytes = query_tests p query bytes

abbrev pub earlier_checked : Plain → Call → Verdict
earlier_checked p call = first_of (earlier_tests p call.named call.list call.bytes)

abbrev pub earlier_transition : Plain → Call → Transition Plain
earlier_transition p call = record {
  response = response_by (earlier_checked p call) (given p call);
  next = left_by (earlier_checked p call) (changed p call) p;
}

unfoldable pub earlier_responses : Plain → List Call → List Response
earlier_responses p [] = []
earlier_responses p (c ∷ calls) =
    let transition = earlier_transition p c in
    transition.response ∷ earlier_responses transition.next calls
