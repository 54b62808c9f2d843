-- Lookups, of condition 2. Document 01: "Lookup gives an offer's price, or none, at a named state."; document 02, Q-4: "A lookup now also
-- gives the state to which the last step naming the offer leads, searched among the steps above the anchor and up to the state named, or,
-- if none did, that the book answered."
-- Assumes nothing.
use Rattle.std.specs.Prelude.{◌≡◌, true, List, ℕ, ◌-◌, ◌≤◌, ◌<◌}
use Rattle.entry.specs.Word.{price_of}
use Rattle.changes.specs.Found.{Found}
use Rattle.std.specs.Prelude.{Some, None}
use Rattle.changes.specs.Calculus.{find}
use Rattle.changes.specs.Runs.{step_of}
use Rattle.answers.specs.declared.call.Call.TheVariants.{Ask}
use Rattle.answers.specs.declared.call.LookUp.{LookUp as Lookup}
use Rattle.answers.specs.declared.call.Query.TheVariants.{LookUp}
use Rattle.answers.specs.declared.answer.Answer.TheVariants.{Quoted}
use Rattle.answers.specs.declared.answer.Since.{Since}
use Rattle.answers.specs.declared.answer.Since.TheVariants.{State, Table}
use Rattle.std.specs.Prelude.{Ok}
use Rattle.answers.specs.Answers.{When, by_step, by_book, Said, priced, without, said_by_since, said_by, when_in, is_accepted}
use Rattle.layout.specs.States.{step_index}
use Rattle.unit.specs.Carried.{Carried, Asked}
use Rattle.conditions.specs.Written.{map_at}
use Rattle.conditions.specs.Runs.{lending}
use Rattle.conditions.specs.Serving.{Seen, CallOfServe}

-- a lookup, lent words and bytes that it has no use for
abbrev pub looking_up : Lookup → List ℕ → List ℕ → Asked
looking_up asked words bytes = lending (Ask (LookUp asked)) words bytes

-- the list of the step that leads to a state: "A step leads from one state number to the next."
abbrev pub step_to : Carried → ℕ → List ℕ
step_to k n = step_of k.journal k.head.ends (step_index k.head (n - 1))

-- the step to a state is "the last step naming the offer": it has a word at the offer, of either kind, and none behind it has
pub record LastNaming (k : Carried) (asked : Lookup) (n : ℕ) : Type 0 where
  -- "searched among the steps above the anchor and up to the state named"
  pub above : k.head.checkpoint < n
  pub up_to : n ≤ asked.state
  pub word : ℕ
  pub names : find asked.offer (step_to k n) ≡ Some word
  pub none_later : (i : ℕ) → n < i → i ≤ asked.state → find asked.offer (step_to k i) ≡ None

-- what since when says of the steps: "or, if none did, that the book answered"
abbrev pub SinceIs : Carried → Lookup → When → Type 0
SinceIs k asked (by_step n) = LastNaming k asked n
SinceIs k asked by_book = (i : ℕ) → k.head.checkpoint < i → i ≤ asked.state → find asked.offer (step_to k i) ≡ None

-- what is said of the word that a map has at an offer, or of none
abbrev pub PriceIs : Found → Said → Type 0
PriceIs (Some w) said = said ≡ priced (price_of w) (when_in said)
PriceIs None said = said ≡ without (when_in said)

pub record Lookups : Type 0 where
  -- what the answer of a Rattle program says: the price or none, and the state's number or the book
  pub says_price : (p : ℕ) (since : Since) → said_by (Ok (Quoted (record { price = Some p; since = since })))
      ≡ priced p (said_by_since since)
  pub says_none : (since : Since) → said_by (Ok (Quoted (record { price = None; since = since }))) ≡ without (said_by_since since)
  pub says_state : (n : ℕ) → said_by_since (State n) ≡ by_step n
  pub says_book : said_by_since Table ≡ by_book
  -- an accepted lookup gives the price in the map at the state named, or none,
  pub price : (k : Carried) (asked : Lookup) (words bytes : List ℕ) (s : Seen)
      → CallOfServe k (looking_up asked words bytes) s → is_accepted s.reply.answer ≡ true
      → PriceIs (find asked.offer (map_at k asked.state)) (said_by s.reply.answer)
  -- and since when, beside a price or none: a state and a step to it, or the book and no step
  pub since : (k : Carried) (asked : Lookup) (words bytes : List ℕ) (s : Seen)
      → CallOfServe k (looking_up asked words bytes) s → is_accepted s.reply.answer ≡ true
      → SinceIs k asked (when_in (said_by s.reply.answer))
  -- at the anchor it is always the book that answers
  pub at_the_anchor : (k : Carried) (asked : Lookup) (words bytes : List ℕ) (s : Seen)
      → CallOfServe k (looking_up asked words bytes) s → is_accepted s.reply.answer ≡ true → asked.state ≡ k.head.checkpoint
      → when_in (said_by s.reply.answer) ≡ by_book
