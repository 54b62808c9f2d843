-- The entry word of document 01, "What the unit holds": kind 1 bit, offer 31 bits, price 32 bits, most significant first.
-- Assumes nothing.
use Rattle.std.specs.Prelude.{◌≡◌, ℕ, ◌+◌, ◌*◌, ◌/◌, ◌%◌, ◌^◌, ◌≤◌, Bool, cond, ◌&&◌, ◌||◌, ◌==◌}

-- the fields of a word
abbrev pub kind_of : ℕ → ℕ
kind_of w = w / 2 ^ 63

abbrev pub offer_of : ℕ → ℕ
offer_of w = w / 2 ^ 32 % 2 ^ 31

abbrev pub price_of : ℕ → ℕ
price_of w = w % 2 ^ 32

-- kind and offer as one number
abbrev pub key_of : ℕ → ℕ
key_of w = w / 2 ^ 32

-- the word of a kind, an offer and a price
abbrev pub word_of : ℕ → ℕ → ℕ → ℕ
word_of kind offer price = kind * 2 ^ 63 + offer * 2 ^ 32 + price

-- "Kind 1 puts the price (or, in a book or read set, shows it)"
abbrev pub put_of : ℕ → ℕ → ℕ
put_of offer price = word_of 1 offer price

-- "kind 0 removes it (or shows none), and then the price field is 0"
abbrev pub none_of : ℕ → ℕ
none_of offer = word_of 0 offer 0

-- a word of kind 1, as a test and as a fact
abbrev pub is_put : ℕ → Bool
is_put w = kind_of w == 1

abbrev pub Put : ℕ → Type 0
Put w = kind_of w ≡ 1

-- a word of kind 1, or one of kind 0 whose price field is 0, as a test and as a fact
abbrev pub is_valid : ℕ → Bool
is_valid w = is_put w || kind_of w == 0 && price_of w == 0

abbrev pub Valid : ℕ → Type 0
Valid w = (kind_of w ≤ 1) × (kind_of w ≡ 0 → price_of w ≡ 0)

-- 1 where a test passes, else 0
abbrev pub bit_of : Bool → ℕ
bit_of b = cond b 1 0

-- the top bit of a number of 32 bits
abbrev pub top_of : ℕ → ℕ
top_of n = n / 2 ^ 31
