-- What is lent to a call, and what the call leaves of it.
-- Assumes nothing.
use Rattle.std.specs.Prelude.{◌≡◌, List, ℕ}
use Rattle.answers.specs.Check.{Answered}
use Rattle.answers.specs.Check.{Check}
use Rattle.answers.specs.Answers.{answered, Gives}
use Rattle.answers.specs.First.{Test, first, if_passed}
use Rattle.layout.specs.declared.head.Head.{Head}

-- the memory of a store with its head, and the words and bytes that are the call's own
pub record Lent : Type 0 where
  pub table : List ℕ
  pub journal : List ℕ
  pub words : List ℕ
  pub bytes : List ℕ
  pub head : Head

abbrev pub lent : List ℕ → List ℕ → List ℕ → List ℕ → Head → Lent
lent table journal words bytes head = record { table = table; journal = journal; words = words; bytes = bytes; head = head }

-- another store in place of the one that was lent, and other words and bytes
abbrev pub with_store : Lent → List ℕ → List ℕ → Head → Lent
with_store l table journal head = lent table journal l.words l.bytes head

abbrev pub with_words : Lent → List ℕ → Lent
with_words l words = lent l.table l.journal words l.bytes l.head

abbrev pub with_bytes : Lent → List ℕ → Lent
with_bytes l bytes = lent l.table l.journal l.words bytes l.head

-- what a call answers, and what was lent as the call leaves it
pub record Left : Type 0 where
  pub answer : Answered
  pub lent : Lent

-- what a call means: the grounds that concern it, in their order, and what it answers and leaves where none is met
pub record Meaning : Type 0 where
  pub grounds : List Test
  pub accepted : Left

abbrev pub means : List Test → Answered → Lent → Meaning
means grounds answer l = record { grounds = grounds; accepted = record { answer = answer; lent = l } }

-- "Checked in this order, those that concern the call"
abbrev pub check_of : Meaning → Check
check_of m = first m.grounds

-- a query leaves the store as it is: what it means is its grounds, its answer, and what it leaves of the words and bytes
pub record Asking : Type 0 where
  pub grounds : List Test
  pub answer : Answered
  pub words : List ℕ
  pub bytes : List ℕ

abbrev pub asks : Lent → Asking → Meaning
asks l a = means a.grounds a.answer (with_bytes (with_words l a.words) a.bytes)

-- "everything lent and the head keep their values" where the call is turned away
abbrev pub settled_by : Check → Left → Lent → Left
settled_by check made l = record { answer = answered check made.answer; lent = if_passed check made.lent l }

abbrev pub settled : Meaning → Lent → Left
settled m l = settled_by (check_of m) m.accepted l

-- The promise of a call: its answer is the one that is meant, and so is all that it leaves.
abbrev pub Performs : Left → Answered → List ℕ → List ℕ → List ℕ → List ℕ → Head → Type 0
Performs left answer table journal words bytes head =
    Gives answer left.answer
    × (table ≡ left.lent.table)
    × (journal ≡ left.lent.journal)
    × (words ≡ left.lent.words)
    × (bytes ≡ left.lent.bytes)
    × (head ≡ left.lent.head)
