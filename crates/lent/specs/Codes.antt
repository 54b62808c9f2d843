-- What a C program reads of an answer: a code, a value and, of a lookup, since when, in words that it lends.
-- Assumes nothing.
use Rattle.std.specs.Prelude.{cond, ℕ, eqb}
use Rattle.answers.specs.Answers.{When, by_step, by_book, Said, accepted, refused, priced, without}

-- the code of a lookup that finds no price; no ground has this number
abbrev pub no_price : ℕ
no_price = 100

-- the word for "that the book answered"; no state has this number
abbrev pub by_table : ℕ
by_table = 4294967296

-- 0 where the call is accepted, but for a lookup that finds no price, and "the number alone" where it is turned away
abbrev pub code_of : Said → ℕ
code_of (accepted n) = 0
code_of (refused reason) = reason
code_of (priced p since) = 0
code_of (without since) = no_price

-- the price or the count in the word that is lent for it, which stays as it came where there is none
abbrev pub value_of : Said → ℕ → ℕ
value_of (accepted n) old = n
value_of (refused reason) old = old
value_of (priced p since) old = p
value_of (without since) old = old

-- since when as a word: the state's number, or the word for the table; and what a program reads there
abbrev pub since_word : When → ℕ
since_word (by_step state) = state
since_word by_book = by_table

abbrev pub since_read : ℕ → When
since_read word = cond (eqb word by_table) by_book (by_step word)

-- since when in the word that is lent for it, also where there is no price; it stays as it came where the call is turned away
abbrev pub since_of : Said → ℕ → ℕ
since_of (accepted n) old = by_table
since_of (refused reason) old = old
since_of (priced p since) old = since_word since
since_of (without since) old = since_word since
