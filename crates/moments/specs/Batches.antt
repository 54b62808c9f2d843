-- Batches (document 01, "Batches" and grounds 6 to 10 and 17), first of all sixteenths to the nearest unit (document 02, Q-3). Output
-- memory holds 1 before the call.
-- Assumes nothing.
use Rattle.std.specs.Prelude.{List, [], ◌∷◌, ℕ, ◌+◌, ◌-◌, ◌^◌, replicate}
use Rattle.entry.specs.Word.{put_of, none_of}
use Rattle.answers.specs.Answers.{accepted, refused as refused_by}
use Rattle.moments.specs.Moments.{Moment, priced, order_of}

-- offer 5 at a price, one order of a kind with an amount, and the price that it becomes
abbrev pub becomes : ℕ → ℕ → ℕ → ℕ → Moment
becomes price kind amount after =
    priced (put_of 5 price ∷ []) (order_of kind amount 5 ∷ []) (1 ∷ 1 ∷ []) (accepted 1) (put_of 5 after ∷ 1 ∷ [])

-- what is shown of offer 5, one order of a kind with an amount, and the number by which the batch is refused
abbrev pub turned_away : ℕ → ℕ → ℕ → ℕ → Moment
turned_away shown kind amount number = priced (shown ∷ []) (order_of kind amount 5 ∷ []) (1 ∷ 1 ∷ []) (refused_by number) (1 ∷ 1 ∷ [])

unfoldable pub batches : List Moment
batches =
    -- "Price 1001 with kind 27 and amount 0 becomes 751", of 750.75
    becomes 1001 27 0 751
    -- "then the amount if that is more"
    ∷ becomes 1001 27 750 751
    ∷ becomes 1001 27 751 751
    ∷ becomes 1001 27 752 752
    ∷ becomes 1001 27 800 800
    ∷ becomes 7 16 1 1
    ∷ becomes 8 16 2 2
    ∷ becomes 0 31 (2 ^ 25 - 1) (2 ^ 25 - 1)
    -- "to the nearest unit, a half upward"
    ∷ becomes 0 16 0 0
    ∷ becomes 7 16 0 0
    ∷ becomes 8 16 0 1
    ∷ becomes 23 16 0 1
    ∷ becomes 24 16 0 2
    ∷ becomes 1 22 0 0
    ∷ becomes 1 23 0 1
    -- at the highest price
    ∷ becomes (2 ^ 32 - 1) 16 0 268435456
    ∷ becomes (2 ^ 32 - 1) 30 0 4026531839
    ∷ becomes (2 ^ 32 - 1) 31 0 (2 ^ 32 - 1)
    -- each kind, of 1000, in one batch: 62.5 for each sixteenth
    ∷ priced
    (put_of 16 1000 ∷ put_of 17 1000 ∷ put_of 18 1000 ∷ put_of 19 1000 ∷ put_of 20 1000 ∷ put_of 21 1000 ∷ put_of 22 1000 ∷ put_of 23 1000
    ∷ put_of 24 1000 ∷ put_of 25 1000 ∷ put_of 26 1000 ∷ put_of 27 1000 ∷ put_of 28 1000 ∷ put_of 29 1000
    ∷ put_of 30 1000 ∷ put_of 31 1000 ∷ [])
    (order_of 16 0 16 ∷ order_of 17 0 17 ∷ order_of 18 0 18 ∷ order_of 19 0 19 ∷ order_of 20 0 20 ∷ order_of 21 0 21 ∷ order_of 22 0 22
    ∷ order_of 23 0 23 ∷ order_of 24 0 24 ∷ order_of 25 0 25 ∷ order_of 26 0 26 ∷ order_of 27 0 27 ∷ order_of 28 0 28 ∷ order_of 29 0 29
    ∷ order_of 30 0 30 ∷ order_of 31 0 31 ∷ [])
    (replicate 16 1) (accepted 16)
    (put_of 16 63 ∷ put_of 17 125 ∷ put_of 18 188 ∷ put_of 19 250 ∷ put_of 20 313 ∷ put_of 21 375 ∷ put_of 22 438 ∷ put_of 23 500
    ∷ put_of 24 563 ∷ put_of 25 625 ∷ put_of 26 688 ∷ put_of 27 750 ∷ put_of 28 813 ∷ put_of 29 875 ∷ put_of 30 938 ∷ put_of 31 1000 ∷ [])
    -- "Orders run in turn, each seeing the earlier ones": each is rounded by itself, 751 and then 375.5
    ∷ priced (put_of 5 1001 ∷ []) (order_of 27 0 5 ∷ order_of 23 0 5 ∷ []) (1 ∷ []) (accepted 1) (put_of 5 376 ∷ [])
    -- the kinds beside them are unknown
    ∷ turned_away (put_of 5 1001) 15 0 7
    ∷ turned_away (put_of 5 1001) 32 0 7
    -- no price, which is not price 0
    ∷ turned_away (none_of 5) 16 0 9
    ∷ turned_away (none_of 5) 31 800 9
    -- "0 lists at the amount; 1 withdraws, amount 0; 2 raises by the amount; 3 cuts by it": none of them rounds
    ∷ becomes 1001 0 7 7
    ∷ becomes 1001 2 7 1008
    ∷ becomes 1001 3 7 994
    ∷ priced (put_of 5 1001 ∷ []) (order_of 1 0 5 ∷ []) (1 ∷ 1 ∷ []) (accepted 1) (none_of 5 ∷ 1 ∷ [])
    -- without a price before
    ∷ priced (none_of 5 ∷ []) (order_of 0 7 5 ∷ []) (1 ∷ []) (accepted 1) (put_of 5 7 ∷ [])
    ∷ priced (none_of 5 ∷ []) (order_of 1 0 5 ∷ []) (1 ∷ []) (accepted 1) (none_of 5 ∷ [])
    ∷ turned_away (none_of 5) 2 7 9
    ∷ turned_away (none_of 5) 3 0 9
    -- "takes a price below 0 or above 2^32 − 1"
    ∷ becomes (2 ^ 32 - 2 ^ 25) 2 (2 ^ 25 - 1) (2 ^ 32 - 1)
    ∷ turned_away (put_of 5 (2 ^ 32 - 2 ^ 25 + 1)) 2 (2 ^ 25 - 1) 10
    ∷ becomes 7 3 7 0
    ∷ turned_away (put_of 5 7) 3 8 10
    -- "a withdrawal has an amount other than 0"
    ∷ turned_away (put_of 5 1001) 1 1 7
    ∷ priced (put_of 5 8 ∷ []) (order_of 2 1 5 ∷ order_of 1 3 5 ∷ []) (1 ∷ []) (refused_by 7) (1 ∷ [])
    -- "Some order's offer isn't in the read set."
    ∷ turned_away (put_of 6 1001) 2 7 8
    ∷ turned_away (put_of (5 + 2 ^ 30) 1001) 2 7 8
    ∷ turned_away (put_of 6 1001) 0 7 8
    ∷ turned_away (put_of 6 1001) 1 0 8
    ∷ priced (put_of 5 8 ∷ []) (order_of 2 1 5 ∷ order_of 0 7 6 ∷ []) (1 ∷ 1 ∷ []) (refused_by 8) (1 ∷ 1 ∷ [])
    -- the highest offer
    ∷ priced (put_of (2 ^ 31 - 1) 8 ∷ []) (order_of 16 0 (2 ^ 31 - 1) ∷ []) (1 ∷ []) (accepted 1) (put_of (2 ^ 31 - 1) 1 ∷ [])
    -- "there are over 64 orders", and "A list breaks its rules"
    ∷ priced (put_of 5 1001 ∷ []) (replicate 64 (order_of 2 1 5)) (1 ∷ []) (accepted 1) (put_of 5 1065 ∷ [])
    ∷ priced (put_of 5 1001 ∷ []) (replicate 65 (order_of 2 1 5)) (1 ∷ []) (refused_by 6) (1 ∷ [])
    ∷ priced (put_of 6 1001 ∷ put_of 5 1001 ∷ []) [] (1 ∷ []) (refused_by 6) (1 ∷ [])
    ∷ priced (put_of 5 8 ∷ put_of 5 9 ∷ []) [] (1 ∷ []) (refused_by 6) (1 ∷ [])
    ∷ priced ((none_of 5 + 7) ∷ []) [] (1 ∷ []) (refused_by 6) (1 ∷ [])
    -- "Orders run in turn, each seeing the earlier ones."
    ∷ priced (none_of 5 ∷ []) (order_of 0 8 5 ∷ order_of 16 0 5 ∷ order_of 3 1 5 ∷ []) (1 ∷ []) (accepted 1) (put_of 5 0 ∷ [])
    ∷ priced (put_of 5 8 ∷ []) (order_of 1 0 5 ∷ order_of 16 0 5 ∷ []) (1 ∷ []) (refused_by 9) (1 ∷ [])
    ∷ priced (put_of 5 8 ∷ []) (order_of 1 0 5 ∷ order_of 0 7 5 ∷ []) (1 ∷ []) (accepted 1) (put_of 5 7 ∷ [])
    -- "The first order that fails"
    ∷ priced (put_of 5 8 ∷ none_of 6 ∷ []) (order_of 3 9 5 ∷ order_of 2 0 6 ∷ []) (1 ∷ 1 ∷ []) (refused_by 10) (1 ∷ 1 ∷ [])
    ∷ priced (put_of 5 8 ∷ none_of 6 ∷ []) (order_of 2 0 6 ∷ order_of 3 9 5 ∷ []) (1 ∷ 1 ∷ []) (refused_by 9) (1 ∷ 1 ∷ [])
    ∷ priced (put_of 5 8 ∷ none_of 6 ∷ []) (order_of 2 1 5 ∷ order_of 2 0 6 ∷ order_of 3 10 5 ∷ []) (1 ∷ 1 ∷ []) (refused_by 9) (1 ∷ 1 ∷ [])
    -- "one word per offer named, rising", "Output is shorter than what is to be written."
    ∷ priced (put_of 5 8 ∷ put_of 6 8 ∷ none_of 7 ∷ []) (order_of 0 1 7 ∷ order_of 2 1 5 ∷ []) (1 ∷ 1 ∷ 1 ∷ []) (accepted 2)
    (put_of 5 9 ∷ put_of 7 1 ∷ 1 ∷ [])
    ∷ priced (put_of 5 8 ∷ put_of 6 8 ∷ none_of 7 ∷ []) (order_of 0 1 7 ∷ order_of 2 1 5 ∷ []) (1 ∷ []) (refused_by 17) (1 ∷ [])
    ∷ priced [] [] [] (accepted 0) []
    ∷ []
