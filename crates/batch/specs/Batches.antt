-- A batch: its refusals, in the order of the grounds, and its output (document 01, "Batches").
-- Assumes nothing.
use Rattle.std.specs.Prelude.{not, cond, List, [], ◌∷◌, ◌++◌, ℕ, leb, ltb, length, drop, Result, Ok, Err}
use Rattle.changes.specs.Lists.{is_list}
use Rattle.answers.specs.declared.ground.Ground.{Ground}
use Rattle.answers.specs.declared.ground.Ground.TheVariants.{BadList, BadOrder, OfferNotRead, OutputShort}
use Rattle.answers.specs.Answers.{Said, accepted, refused}
use Rattle.answers.specs.Numbers.{number_of}
use Rattle.answers.specs.Check.{Check}
use Rattle.answers.specs.First.{Test, met, first}
use Rattle.orders.specs.Orders.{is_allowed}
use Rattle.execution.specs.Tests.{is_read, list_all}
use Rattle.execution.specs.Executing.{Executed, done, fails, priced, after}

-- grounds 6 to 8, over all orders, before any is executed
abbrev pub batch_grounds : List ℕ → List ℕ → List Test
batch_grounds reads orders =
    -- "A list breaks its rules", here the read set
    met (not (is_list reads)) BadList
    -- "there are over 64 orders"
    ∷ met (ltb 64 (length orders)) BadList
    -- "Some order's kind is unknown, or a withdrawal has an amount other than 0."
    ∷ met (not (list_all is_allowed orders)) BadOrder
    -- "Some order's offer isn't in the read set."
    ∷ met (not (list_all (is_read reads) orders)) OfferNotRead
    ∷ []

unfoldable pub checked : List ℕ → List ℕ → Check
checked reads orders = first (batch_grounds reads orders)

-- Ground 17: "Output is shorter than what is to be written."
abbrev pub fitting : ℕ → Executed → Executed
fitting room (done d) = cond (leb (length d) room) (done d) (fails (number_of OutputShort))
fitting room (fails n) = fails n

-- the words that a batch writes, or the number of the ground that turns it away
unfoldable pub batch : List ℕ → List ℕ → ℕ → Executed
batch reads orders room = after (checked reads orders) (fitting room (priced reads orders))

-- the answer: the count of the words, or the number alone
abbrev pub answer : Executed → Said
answer (done d) = accepted (length d)
answer (fails n) = refused n

-- what the code says in these words: the count of the words written, or the number of the ground
abbrev pub said_by_count : Result ℕ Ground → Said
said_by_count (Ok count) = accepted count
said_by_count (Err reason) = refused (number_of reason)

-- "later output words keep their values"; on a refusal all do
abbrev pub output : Executed → List ℕ → List ℕ
output (done d) out = d ++ drop (length d) out
output (fails n) out = out
