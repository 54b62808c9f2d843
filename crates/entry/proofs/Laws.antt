-- The laws of the entry word, which the layers above cite in place of its arithmetic.
-- Assumes nothing.
use Rattle.std.proofs.Common.{◌≡◌, ℕ, ◌^◌, ◌<◌, ◌≤◌, arith}
use Rattle.entry.specs.Word.{kind_of, offer_of, price_of, word_of, none_of}

-- the fields of a word lie in their ranges
pub kind_small : (w : ℕ) → w < 2 ^ 64 → kind_of w < 2
kind_small w h = omega arith

pub offer_small : (w : ℕ) → offer_of w < 2 ^ 31
offer_small w = omega arith

pub price_small : (w : ℕ) → price_of w < 2 ^ 32
price_small w = omega arith

-- splitting what was built gives the parts
module _ (k o p : ℕ) (ho : o < 2 ^ 31) (hp : p < 2 ^ 32) where
  pub kind_built : kind_of (word_of k o p) ≡ k
  kind_built = omega arith

  pub offer_built : offer_of (word_of k o p) ≡ o
  offer_built = omega arith

  pub price_built : price_of (word_of k o p) ≡ p
  price_built = omega arith

  -- and a word of a kind of 1 bit has 64
  pub word_small : k < 2 → word_of k o p < 2 ^ 64
  word_small h = omega arith

-- building from the parts of a word gives the word
pub rebuilt : (w : ℕ) → word_of (kind_of w) (offer_of w) (price_of w) ≡ w
rebuilt w = omega arith

-- words that agree in every field are one word
pub word_ext : (v w : ℕ) → kind_of v ≡ kind_of w → offer_of v ≡ offer_of w → price_of v ≡ price_of w → v ≡ w
word_ext v w k o p = cc (rebuilt v, rebuilt w)

-- among words of one kind the order is that of their offers
pub smaller_offer : (v w : ℕ) → kind_of v ≡ kind_of w → offer_of v < offer_of w → v < w
smaller_offer v w k o = omega arith

pub smaller_word : (v w : ℕ) → kind_of v ≡ kind_of w → v ≤ w → offer_of v ≤ offer_of w
smaller_word v w k l = omega arith

-- a word of kind 0 and price 0 is determined by its offer
pub none_word : (w : ℕ) → kind_of w ≡ 0 → price_of w ≡ 0 → w ≡ none_of (offer_of w)
none_word w k p = omega arith
