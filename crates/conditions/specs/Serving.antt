-- What is seen of a call of `serve`, what it promises, and what it hands on to the next.
-- Assumes nothing.
use Rattle.std.specs.Prelude.{◌≡◌, true, List, ℕ, ◌≤◌, length}
use Rattle.answers.specs.Answers.{Said, accepted, refused, said_by, is_accepted}
use Rattle.answers.specs.Counts.{largest}
use Rattle.answers.specs.declared.call.Call.TheVariants.{Reset}
use Rattle.answers.specs.declared.call.Reset.TheVariants.{Load as LoadCall}
use Rattle.answers.specs.declared.tally.Tally.{Tally}
use Rattle.unit.specs.Serve.{Reply}
use Rattle.views.specs.View.{Limits}
use Rattle.unit.specs.Carried.{Carried, Asked, lent_to}
use Rattle.unit.specs.Serve.{Replies}
use Rattle.history.specs.Named.{Named, Response, response_to}
use Rattle.history.specs.Plain.{Verdict, accept, refuse, Load}
use Rattle.conditions.specs.Runs.{lending}

-- the reply to a call, and what it left of all that was lent
pub record Seen : Type 0 where
  pub reply : Reply
  pub tally : Tally
  pub table : List ℕ
  pub journal : List ℕ
  pub words : List ℕ
  pub bytes : List ℕ

-- The promise of `serve`, as its contract has it, of a call on what is carried.
abbrev pub CallOfServe : Carried → Asked → Seen → Type 0
CallOfServe k a s = Replies k.tally (lent_to k a) a.call s.reply s.tally s.table s.journal s.words s.bytes

-- what is handed on to the next call
abbrev pub handed : Seen → Carried
handed s = record { tally = s.tally; table = s.table; journal = s.journal; head = s.reply.head }

abbrev pub with_tally : Carried → Tally → Carried
with_tally k tally = record { tally = tally; table = k.table; journal = k.journal; head = k.head }

-- A call on the store that is carried, lent any tally: condition 3 asks nothing of it.
pub record CallOnStore (k : Carried) (a : Asked) (s : Seen) : Type 0 where
  pub tally : Tally
  pub serves : CallOfServe (with_tally k tally) a s

-- what a call of condition 3 is answered, with what it leaves in the caller's words or bytes
abbrev pub tells : Named → Seen → Response
tells named s = response_to named (said_by s.reply.answer) s.words s.bytes

-- the lengths of the memory that is carried
abbrev pub lengths_in : Carried → Limits
lengths_in k = record { table = length k.table; journal = length k.journal }

-- an image or a sheet that is loaded into memory that holds anything; words are lent to every call, and a load has no use for them
abbrev pub loading : List ℕ → Load → Asked
loading words load = lending (Reset (LoadCall load.depth load.format)) words load.bytes

-- what the plain list says of a load
abbrev pub said_of : Verdict → Said
said_of accept = accepted 0
said_of (refuse n) = refused n

-- the store is "just loaded from" the image, or the sheet
pub record Loads (k : Carried) (load : Load) (s : Seen) : Type 0 where
  pub words : List ℕ
  pub serves : CallOfServe k (loading words load) s
  pub accepted : is_accepted s.reply.answer ≡ true

-- "counts of 64 bits"
pub record Of64Bits (t : Tally) : Type 0 where
  pub committed : t.committed ≤ largest
  pub rolled_back : t.rolled_back ≤ largest
  pub flushed : t.flushed ≤ largest

-- all is as it came
abbrev pub Untouched : Carried → Asked → Seen → Type 0
Untouched k a s = (handed s ≡ k) × (s.words ≡ a.words) × (s.bytes ≡ a.bytes)
