-- Runs: calls one after another, each of which keeps the promise of the function that is called, and is lent what the one before left.
-- What is called is left open here: `serve` (Serving.antt), or the C functions (CCalls.antt).
-- Assumes nothing.
use Rattle.std.specs.Prelude.{List, [], ◌∷◌, map, ℕ, replicate}
use Rattle.answers.specs.declared.call.Call.{Call as UnitCall}
use Rattle.unit.specs.Carried.{Asked}
use Rattle.history.specs.Named.{Named, unit_call, Call, Response}
use Rattle.history.specs.Traces.{Asked as AskedIn3, ReadSet, nothing, words_lent, read_sets_after}

-- a call with the words and bytes that are lent to it
abbrev pub lending : UnitCall → List ℕ → List ℕ → Asked
lending call words bytes = record { call = call; words = words; bytes = bytes }

-- a call that was asked, and what was seen of it
pub record Turn (A S : Type 0) : Type 0 where
  pub asked : A
  pub seen : S

abbrev pub asked_in : {A S : Type 0} → List (Turn A S) → List A
asked_in {A} {S} = map (λ (t : Turn A S). t.asked)

-- a call of condition 3, with the words that it is lent: "each forward on an open place the read set that the place's last accepted
-- issue filled, unaltered"
abbrev pub lent_in : List ReadSet → AskedIn3 → Asked
lent_in sets a =
    let c = a.call in
    lending (unit_call c.named) (words_lent sets c.named c.list a.words) c.bytes

module _ {M S : Type 0} (Does : M → Asked → S → Type 0) (left : S → M) where
  -- any calls, "each lent the tally, memory and head as the call before left them"
  unfoldable pub Run : M → List (Turn Asked S) → Type 0
  Run m [] = Unit
  Run m (t ∷ turns) = Does m t.asked t.seen × Run (left t.seen) turns

  -- and what they leave
  unfoldable pub end_of : M → List (Turn Asked S) → M
  end_of m [] = m
  end_of m (t ∷ turns) = end_of (left t.seen) turns

  -- the calls of condition 3: "every call get store memory and head as the load or last call left them, nobody else writing them"
  module _ (tells : Named → S → Response) where
    unfoldable pub RunFrom : M → List ReadSet → List (Turn AskedIn3 S) → Type 0
    RunFrom m sets [] = Unit
    RunFrom m sets (t ∷ turns) =
        Does m (lent_in sets t.asked) t.seen
        × RunFrom (left t.seen) (read_sets_after sets t.asked.call.named (tells t.asked.call.named t.seen)) turns

    -- after a load every slot is closed, and no read set is outstanding
    abbrev pub Run3 : M → List (Turn AskedIn3 S) → Type 0
    Run3 m turns = RunFrom m (replicate 8 nothing) turns

-- what the calls of a run were answered, and which calls they were
abbrev pub responses_in : {S : Type 0} → (Named → S → Response) → List (Turn AskedIn3 S) → List Response
responses_in {S} tells = map (λ (t : Turn AskedIn3 S). tells t.asked.call.named t.seen)

abbrev pub calls_in : {S : Type 0} → List (Turn AskedIn3 S) → List Call
calls_in {S} = map (λ (t : Turn AskedIn3 S). t.asked.call)
