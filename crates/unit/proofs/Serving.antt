-- What is served, from what the call performs and the tally after it.
-- Assumes nothing.
use mathlib.Core.Path.{◌≡◌, ap, ◌∙◌}
use mathlib.Core.List.{List}
use Prim.Native.Nat.{ℕ}
use Rattle.answers.specs.Check.{Answered}
use Rattle.answers.specs.declared.call.Call.{Call}
use Rattle.answers.specs.declared.tally.Tally.{Tally}
use Rattle.answers.specs.Counts.{tally_after}
use Rattle.layout.specs.declared.head.Head.{Head}
use Rattle.calls.specs.Lent.{Lent, Performs}
use Rattle.calls.specs.Meaning.{performed}
use Rattle.unit.specs.Serve.{reply, Replies}

pub served_is : (tally : Tally) (l : Lent) (call : Call) {answer : Answered} {head : Head} {after : Tally}
    {table journal words bytes : List ℕ}
    → Performs (performed l call) answer table journal words bytes head
    → after ≡ tally_after tally l.head.checkpoint l.head.tip call answer
    → Replies tally l call (reply answer head) after table journal words bytes
served_is tally l call g e = (
  (λ i. reply (g.0.0 i) (g.5 i), g.0.1),
  e ∙ ap (tally_after tally l.head.checkpoint l.head.tip call) g.0.0,
  g.1,
  g.2,
  g.3,
  g.4,
)
