-- Lookup (document 01, "Laws of changes"): "Lookup gives an offer's price, or none, at a named state."; and since when (document 02,
-- Q-4): "A lookup now also gives the state to which the last step naming the offer leads, searched among the steps above the anchor and
-- up to the state named, or, if none did, that the book answered."
-- Assumes nothing.
use Rattle.std.specs.Prelude.{List, [], ◌∷◌, ◌++◌, ℕ, ◌+◌, ◌^◌, leb}
use Rattle.entry.specs.Word.{price_of}
use Rattle.changes.specs.Found.{Found}
use Rattle.std.specs.Prelude.{Option, Some, None, Ok}
use Rattle.changes.specs.Calculus.{find}
use Rattle.answers.specs.Check.{Answered}
use Rattle.answers.specs.declared.answer.Answer.TheVariants.{Quoted}
use Rattle.answers.specs.declared.answer.Quote.{Quote}
use Rattle.answers.specs.Check.{Check}
use Rattle.answers.specs.declared.answer.Since.{Since}
use Rattle.answers.specs.declared.answer.Since.TheVariants.{State, Table}
use Rattle.answers.specs.declared.call.LookUp.{LookUp}
use Rattle.answers.specs.declared.ground.Ground.TheVariants.{BadList}
use Rattle.answers.specs.Answers.{answered}
use Rattle.answers.specs.First.{Test, met, first}
use Rattle.layout.specs.declared.head.Head.{Head}
use Rattle.layout.specs.States.{steps_between, map_here}
use Rattle.soundness.specs.Checks.{store_grounds, state_grounds}
use Rattle.last_changes.specs.Last.{Last}
use Rattle.last_changes.specs.Last.{last_in}

-- the price of the word that a map has at an offer, or none; "zero is a true price"
abbrev pub price_in : Found → Option ℕ
price_in (Some w) = Some (price_of w)
price_in None = None

-- and since when
abbrev pub quote_at : Found → Since → Quote
quote_at found since = record { price = price_in found; since = since }

abbrev pub quote_of : Found → Since → Answered
quote_of found since = Ok (Quoted (quote_at found since))

-- "the state to which the last step naming the offer leads" among steps that lead on from a state, "or, if none did, that the book
-- answered"
abbrev pub since_of : ℕ → Last → Since
since_of from (Some (w, n)) = State (from + n)
since_of from None = Table

-- "searched among the steps above the anchor and up to the state named"
abbrev pub since_here : List ℕ → Head → LookUp → Since
since_here journal head asked =
    since_of head.checkpoint (last_in asked.offer (steps_between journal head head.checkpoint asked.state))

-- ground 6: "a looked-up offer is 2^31 or more"
abbrev pub offer_grounds : ℕ → List Test
offer_grounds offer = met (leb (2 ^ 31) offer) BadList ∷ []

-- grounds 1, 2, 6, 11
abbrev pub look_up_grounds : List ℕ → List ℕ → Head → LookUp → List Test
look_up_grounds table journal head asked =
    store_grounds table journal head ++ offer_grounds asked.offer ++ state_grounds head asked.state

abbrev pub look_up_check : List ℕ → List ℕ → Head → LookUp → Check
look_up_check table journal head asked = first (look_up_grounds table journal head asked)

-- the price or none, and since when, where the call is accepted, else the ground
abbrev pub look_up : List ℕ → List ℕ → Head → LookUp → Answered
look_up table journal head asked =
    answered (look_up_check table journal head asked)
    (quote_of (find asked.offer (map_here table journal head asked.state)) (since_here journal head asked))
