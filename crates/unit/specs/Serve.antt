-- A call as it is served: the reply to it, and the tally after it.
-- Assumes nothing.
use Rattle.std.specs.Prelude.{◌≡◌, List, ℕ}
use Rattle.answers.specs.declared.call.Call.{Call}
use Rattle.answers.specs.declared.tally.Tally.{Tally}
use Rattle.answers.specs.Check.{Answered}
use Rattle.answers.specs.Answers.{said_by}
use Rattle.answers.specs.Counts.{tally_after}
use Rattle.layout.specs.declared.head.Head.{Head}
use Rattle.calls.specs.Lent.{Lent, Left}
use Rattle.calls.specs.Meaning.{performed}

-- the reply to a call: what it answers, and the head after it
pub record Reply : Type 0 where
  pub answer : Answered
  pub head : Head

abbrev pub reply : Answered → Head → Reply
reply answer head = record { answer = answer; head = head }

abbrev pub reply_of : Left → Reply
reply_of left = reply left.answer left.lent.head

-- the tally after a call on what was lent
abbrev pub tally_on : Tally → Lent → Call → Tally
tally_on tally l call = tally_after tally l.head.checkpoint l.head.tip call (performed l call).answer

-- The promise of a call that is lent the tally: reply and tally are those that are meant, the answer says the same in document 01's terms,
-- and all that was lent is left as it is meant.
abbrev pub Replies : Tally → Lent → Call → Reply → Tally → List ℕ → List ℕ → List ℕ → List ℕ → Type 0
Replies tally l call got after table journal words bytes =
    ((got ≡ reply_of (performed l call)) × (said_by got.answer ≡ said_by (performed l call).answer))
    × (after ≡ tally_on tally l call)
    × (table ≡ (performed l call).lent.table)
    × (journal ≡ (performed l call).lent.journal)
    × (words ≡ (performed l call).lent.words)
    × (bytes ≡ (performed l call).lent.bytes)
