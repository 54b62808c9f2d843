-- The call that each C function makes, from its arguments.
-- Assumes nothing.
use Rattle.std.specs.Prelude.{ℕ}
use Rattle.answers.specs.declared.call.Call.{Call}
use Rattle.answers.specs.declared.call.Call.TheVariants.{Reset, Step, Read}
use Rattle.answers.specs.declared.call.Format.{Format}
use Rattle.answers.specs.declared.call.Format.TheVariants.{Image, Sheet}
use Rattle.answers.specs.declared.call.Query.{Query}
use Rattle.answers.specs.declared.call.Query.TheVariants.{LookUp, Write, WriteState}
use Rattle.answers.specs.declared.call.Read.TheVariants.{Issue, Forward, Release}
use Rattle.answers.specs.declared.call.Reset.TheVariants.{Clear, Load, Restart}
use Rattle.answers.specs.declared.call.Step.TheVariants.{Commit, RollBack, Flush}
use Rattle.lent.specs.Callers.{caller_of}

abbrev pub clear : ℕ → Call
clear depth = Reset (Clear depth)

abbrev pub load_as : Format → ℕ → Call
load_as format depth = Reset (Load depth format)

abbrev pub load : ℕ → Call
load depth = load_as Image depth

abbrev pub load_sheet : ℕ → Call
load_sheet depth = load_as Sheet depth

abbrev pub restart : Call
restart = Reset Restart

abbrev pub commit : Call
commit = Step Commit

abbrev pub roll_back : ℕ → Call
roll_back state = Step (RollBack state)

abbrev pub flush : ℕ → Call
flush state = Step (Flush state)

abbrev pub issue : ℕ → ℕ → Call
issue caller slot = Read (Issue (record { caller = caller_of caller; slot = slot }))

abbrev pub forward : ℕ → ℕ → ℕ → Call
forward caller slot state = Read (Forward (record { caller = caller_of caller; slot = slot }) state)

abbrev pub release : ℕ → ℕ → Call
release caller slot = Read (Release (record { caller = caller_of caller; slot = slot }))

abbrev pub look_up : ℕ → ℕ → ℕ → Query
look_up caller offer state = LookUp (record { caller = caller_of caller; offer = offer; state = state })

abbrev pub write_image : Query
write_image = Write Image

abbrev pub write_sheet : Query
write_sheet = Write Sheet

abbrev pub write_state_image : ℕ → Query
write_state_image state = WriteState Image state

abbrev pub write_state_sheet : ℕ → Query
write_state_sheet state = WriteState Sheet state
