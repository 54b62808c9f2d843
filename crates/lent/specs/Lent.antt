-- What a call answers and leaves of what a C program lends, by the definition of what each call means (crate calls).
-- Assumes nothing.
use Rattle.std.specs.Prelude.{◌≡◌, Bool, true, false, cond, List, [], ◌∷◌, ℕ, length, get_or}
use Rattle.answers.specs.Check.{Answered}
use Rattle.std.specs.Prelude.{Err}
use Rattle.answers.specs.declared.call.Call.{Call}
use Rattle.answers.specs.declared.call.Call.TheVariants.{Reset, Step, Read, Ask}
use Rattle.answers.specs.declared.call.Query.{Query}
use Rattle.answers.specs.declared.call.Reset.{Reset as ResetCall}
use Rattle.answers.specs.declared.call.Reset.TheVariants.{Clear, Load, Restart}
use Rattle.answers.specs.declared.ground.Ground.TheVariants.{Lengths, Unsound}
use Rattle.answers.specs.declared.tally.Tally.{Tally}
use Rattle.answers.specs.Answers.{is_accepted, said_by, Gives}
use Rattle.answers.specs.Counts.{counts}
use Rattle.layout.specs.Clauses.{are_lengths}
use Rattle.calls.specs.Lent.{Left, lent}
use Rattle.calls.specs.Meaning.{performed}
use Rattle.unit.specs.Serve.{tally_on}
use Rattle.head_words.specs.HeadWords.{head_of, words_of, is_head}
use Rattle.lent.specs.Codes.{code_of, value_of, since_of}

-- "The store isn't sound (clear and load don't test this)."
abbrev pub reset_tests : ResetCall → Bool
reset_tests (Clear depth) = false
reset_tests (Load depth format) = false
reset_tests Restart = true

abbrev pub tests_store : Call → Bool
tests_store (Reset call) = reset_tests call
tests_store (Step call) = true
tests_store (Read call) = true
tests_store (Ask query) = true

-- words that fit the head's fields where the call tests the store: words that no head has are not sound
abbrev pub is_fit : List ℕ → Call → Bool
is_fit head call = cond (tests_store call) (is_head head) true

abbrev pub tally_of : List ℕ → Tally
tally_of words = counts (get_or words 0 0) (get_or words 1 0) (get_or words 2 0)

abbrev pub tally_words : Tally → List ℕ
tally_words tally = tally.committed ∷ tally.rolled_back ∷ tally.flushed ∷ []

-- where the head's words do not fit: ground 1 first, else ground 2
abbrev pub unfit : ℕ → ℕ → Answered
unfit table journal = cond (are_lengths table journal) (Err Unsound) (Err Lengths)

-- what a call leaves of a store whose head is in words
abbrev pub on_words : List ℕ → List ℕ → List ℕ → List ℕ → List ℕ → Call → Left
on_words table journal words bytes head call = performed (lent table journal words bytes (head_of head)) call

module _ (table journal words bytes head tally : List ℕ) (call : Call) where
  abbrev pub answer_to : Answered
  answer_to = cond (is_fit head call) (on_words table journal words bytes head call).answer (unfit (length table) (length journal))

  abbrev pub table_after : List ℕ
  table_after = cond (is_fit head call) (on_words table journal words bytes head call).lent.table table

  abbrev pub journal_after : List ℕ
  journal_after = cond (is_fit head call) (on_words table journal words bytes head call).lent.journal journal

  abbrev pub words_after : List ℕ
  words_after = cond (is_fit head call) (on_words table journal words bytes head call).lent.words words

  abbrev pub bytes_after : List ℕ
  bytes_after = cond (is_fit head call) (on_words table journal words bytes head call).lent.bytes bytes

  -- a refused call leaves the head's words as they came, whatever they are
  abbrev pub head_after : List ℕ
  head_after = cond (is_accepted answer_to) (words_of (on_words table journal words bytes head call).lent.head) head

  abbrev pub tally_words_after : List ℕ
  tally_words_after =
      cond (is_fit head call)
      (tally_words (tally_on (tally_of tally) (lent table journal words bytes (head_of head)) call))
      tally

  -- The promise of a call that is lent all of these: its answer, and what it leaves of them.
  abbrev pub Leaves : Answered → List ℕ → List ℕ → List ℕ → List ℕ → List ℕ → List ℕ → Type 0
  Leaves answer table' journal' words' bytes' head' tally' =
      Gives answer answer_to
      × (table' ≡ table_after)
      × (journal' ≡ journal_after)
      × (words' ≡ words_after)
      × (bytes' ≡ bytes_after)
      × (head' ≡ head_after)
      × (tally' ≡ tally_words_after)

  -- The promise of a call that is lent a store: its code, and what it leaves of the store.
  abbrev pub Serves : ℕ → List ℕ → List ℕ → List ℕ → List ℕ → Type 0
  Serves code table' journal' head' tally' =
      (code ≡ code_of (said_by answer_to))
      × (table' ≡ table_after)
      × (journal' ≡ journal_after)
      × (head' ≡ head_after)
      × (tally' ≡ tally_words_after)

-- A query is lent the store to read, and no tally: what it answers, and what it leaves of the words and bytes lent for its output.
module _ (table journal words bytes head : List ℕ) (query : Query) where
  abbrev pub answer_to_query : Answered
  answer_to_query = cond (is_head head) (on_words table journal words bytes head (Ask query)).answer (unfit (length table) (length journal))

  abbrev pub words_written : List ℕ
  words_written = cond (is_head head) (on_words table journal words bytes head (Ask query)).lent.words words

  abbrev pub bytes_written : List ℕ
  bytes_written = cond (is_head head) (on_words table journal words bytes head (Ask query)).lent.bytes bytes

  -- The promise of a query: its answer, and what it writes.
  abbrev pub Asks : Answered → List ℕ → List ℕ → Type 0
  Asks answer words' bytes' = Gives answer answer_to_query × (words' ≡ words_written) × (bytes' ≡ bytes_written)

  -- The promise of its function for C: its code, and its value in the word that is lent for it;
  abbrev pub Tells : ℕ → ℕ → ℕ → Type 0
  Tells code value old = (code ≡ code_of (said_by answer_to_query)) × (value ≡ value_of (said_by answer_to_query) old)

  -- and since when, in a word of its own, of a lookup.
  abbrev pub TellsSince : ℕ → ℕ → Type 0
  TellsSince since old = since ≡ since_of (said_by answer_to_query) old
