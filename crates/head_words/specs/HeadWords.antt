-- The head as a C program lends it: 85 words, which are used, oldest, checkpoint, tip, taken (8), issued (8), ends (64) and depth.
-- Assumes nothing.
use Rattle.std.specs.Prelude.{◌≡◌, Bool, true, cond, ◌&&◌, List, [], ◌∷◌, ◌++◌, map, ℕ, ◌%◌, ◌<◌, eqb, ltb, length, get_or, take, drop}
use Rattle.layout.specs.declared.head.Head.{Head}
use Rattle.layout.specs.Tests.{all_of}

-- how many words a head has
abbrev pub head_size : ℕ
head_size = 85

-- 2^32
abbrev pub limit : ℕ
limit = 4294967296

-- 2^16, above every mark: a journal has at most 4,096 words
abbrev pub mark_limit : ℕ
mark_limit = 65536

-- a flag in a word: 1 where it is set
abbrev pub flag_of : ℕ → Bool
flag_of w = eqb w 1

abbrev pub word_of : Bool → ℕ
word_of flag = cond flag 1 0

-- a number of 32 bits in a word
abbrev pub number_in : ℕ → ℕ
number_in w = w % limit

-- a mark of 16 bits in a word
abbrev pub mark_in : ℕ → ℕ
mark_in w = w % mark_limit

-- so many words from a position on
abbrev pub from : ℕ → ℕ → List ℕ → List ℕ
from i n words = take n (drop i words)

-- the head that the words hold
abbrev pub head_of : List ℕ → Head
head_of words =
    record {
      used = get_or words 0 0;
      oldest = number_in (get_or words 1 0);
      checkpoint = number_in (get_or words 2 0);
      tip = number_in (get_or words 3 0);
      taken = map flag_of (from 4 8 words);
      issued = map number_in (from 12 8 words);
      ends = map mark_in (from 20 64 words);
      depth = number_in (get_or words 84 0);
    }

-- the words of a head
abbrev pub words_of : Head → List ℕ
words_of head =
    (head.used ∷ head.oldest ∷ head.checkpoint ∷ head.tip ∷ [])
    ++ map word_of head.taken
    ++ head.issued
    ++ head.ends
    ++ (head.depth ∷ [])

-- each word is below a number
unfoldable pub are_below : ℕ → List ℕ → Bool
are_below bound [] = true
are_below bound (w ∷ words) = ltb w bound && are_below bound words

-- the words fit their fields: state numbers and depth of 32 bits, flags of one, marks of 16 (that they are 85 is a fact of
-- their type)
abbrev pub is_head : List ℕ → Bool
is_head words =
    all_of
    (are_below limit (from 1 3 words)
    ∷ are_below 2 (from 4 8 words)
    ∷ are_below limit (from 12 8 words)
    ∷ are_below mark_limit (from 20 64 words)
    ∷ ltb (get_or words 84 0) limit
    ∷ [])

-- a head whose fields fit their words
pub record Fits (head : Head) : Type 0 where
  pub oldest_low : head.oldest < limit
  pub checkpoint_low : head.checkpoint < limit
  pub tip_low : head.tip < limit
  pub eight_taken : length head.taken ≡ 8
  pub eight_issued : length head.issued ≡ 8
  pub issued_low : are_below limit head.issued ≡ true
  pub all_ends : length head.ends ≡ 64
  pub ends_low : are_below mark_limit head.ends ≡ true
  pub depth_low : head.depth < limit
