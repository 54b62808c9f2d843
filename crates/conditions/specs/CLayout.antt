-- What a C program reads by position and by number: the words of a head and of a tally, the callers, the codes, and a lookup's words for
-- the price and for since when (include/cechnuol.h).
-- Assumes nothing.
use Rattle.std.specs.Prelude.{◌≡◌, [], ◌∷◌, map, ℕ, ◌≤◌, length, get_or}
use Rattle.answers.specs.declared.call.Caller.TheVariants.{Desk, Foyer}
use Rattle.answers.specs.declared.tally.Tally.{Tally}
use Rattle.answers.specs.Answers.{When, by_step, by_book, accepted, refused, priced, without}
use Rattle.layout.specs.declared.head.Head.{Head}
use Rattle.head_words.specs.HeadWords.{words_of, word_of, from, Fits}
use Rattle.lent.specs.Callers.{caller_of}
use Rattle.lent.specs.Codes.{code_of, value_of, since_of}
use Rattle.lent.specs.Lent.{tally_words}

pub record CLayout : Type 0 where
  -- the head: numbers in words 0 to 3, eight flags from 4 on, eight numbers from 12 on, 64 marks from 20 on, the depth in word 84
  pub used : (head : Head) → get_or (words_of head) 0 0 ≡ head.used
  pub oldest : (head : Head) → get_or (words_of head) 1 0 ≡ head.oldest
  pub checkpoint : (head : Head) → get_or (words_of head) 2 0 ≡ head.checkpoint
  pub tip : (head : Head) → get_or (words_of head) 3 0 ≡ head.tip
  pub taken : (head : Head) → Fits head → from 4 8 (words_of head) ≡ map word_of head.taken
  pub issued : (head : Head) → Fits head → from 12 8 (words_of head) ≡ head.issued
  pub ends : (head : Head) → Fits head → from 20 64 (words_of head) ≡ head.ends
  pub depth : (head : Head) → Fits head → get_or (words_of head) 84 0 ≡ head.depth
  pub size : (head : Head) → Fits head → length (words_of head) ≡ 85
  -- the tally
  pub tally : (t : Tally) → tally_words t ≡ t.committed ∷ t.rolled_back ∷ t.flushed ∷ []
  -- the callers: 0 is the desk, any other number the foyer
  pub caller_desk : caller_of 0 ≡ Desk
  pub caller_foyer : (n : ℕ) → 1 ≤ n → caller_of n ≡ Foyer
  -- the codes
  pub code_accepted : (n : ℕ) → code_of (accepted n) ≡ 0
  pub code_refused : (n : ℕ) → code_of (refused n) ≡ n
  pub code_priced : (p : ℕ) (since : When) → code_of (priced p since) ≡ 0
  pub code_no_price : (since : When) → code_of (without since) ≡ 100
  -- the words for a price and for since when: both where there is a price, since when alone where there is none, neither on a refusal; a
  -- state as its number, and 2^32 where the table answered
  pub price_told : (p old : ℕ) (since : When) → value_of (priced p since) old ≡ p
  pub price_kept : (old : ℕ) (since : When) → value_of (without since) old ≡ old
  pub since_told : (p n old : ℕ) → (since_of (priced p (by_step n)) old ≡ n) × (since_of (without (by_step n)) old ≡ n)
  pub since_table : (p old : ℕ) → (since_of (priced p by_book) old ≡ 4294967296) × (since_of (without by_book) old ≡ 4294967296)
  pub refusal_kept : (n old : ℕ) → (value_of (refused n) old ≡ old) × (since_of (refused n) old ≡ old)
