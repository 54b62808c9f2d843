-- Since when (document 02, Q-4): "the state to which the last step naming the offer leads, searched among the steps above the anchor and
-- up to the state named, or, if none did, that the book answered". The book is that of moment 4, 5 at 1200 as state 0.
-- Assumes nothing.
use Rattle.std.specs.Prelude.{List, [], ◌∷◌, ◌++◌, ℕ, replicate}
use Rattle.entry.specs.Word.{put_of, none_of}
use Rattle.answers.specs.declared.call.Caller.TheVariants.{Desk, Foyer}
use Rattle.answers.specs.Answers.{by_step, by_book, accepted}
use Rattle.history.specs.Named.{look_up, commit, roll_back, flush, issue, forward, refused, done, price, no_price, filled, forwarded}
use Rattle.moments.specs.Moments.{loaded, ◌⇒◌, Moment, calls, restarted}
use Rattle.moments.specs.Table.{book}

-- the same offer and price as state 4294967290
abbrev pub near_the_end : List ℕ
near_the_end = 0xFF ∷ 0xFF ∷ 0xFF ∷ 0xFA ∷ 0x00 ∷ 0x01 ∷ 0x80 ∷ 0x00 ∷ 0x00 ∷ 0x05 ∷ 0x00 ∷ 0x00 ∷ 0x04 ∷ 0xB0 ∷ []

unfoldable pub since_when : List Moment
since_when =
    calls (loaded 8 8 book)
    (commit (put_of 5 1 ∷ []) ⇒ done
    ∷ commit (put_of 9 2 ∷ []) ⇒ done
    ∷ commit (none_of 5 ∷ []) ⇒ done
    ∷ look_up Desk 5 0 ⇒ price 1200 by_book
    ∷ look_up Desk 5 1 ⇒ price 1 (by_step 1)
    ∷ look_up Desk 5 2 ⇒ price 1 (by_step 1)
    -- a removal names its offer
    ∷ look_up Desk 5 3 ⇒ no_price (by_step 3)
    -- an offer that is nowhere, and one that only a later step names
    ∷ look_up Desk 8 0 ⇒ no_price by_book
    ∷ look_up Desk 8 3 ⇒ no_price by_book
    ∷ look_up Desk 9 1 ⇒ no_price by_book
    -- whoever calls
    ∷ look_up Desk 9 3 ⇒ price 2 (by_step 2)
    ∷ look_up Foyer 9 3 ⇒ price 2 (by_step 2)
    ∷ look_up Desk 5 4 ⇒ refused 11
    ∷ look_up Desk 2147483648 4 ⇒ refused 6
    -- what a flush took is the book's
    ∷ flush 2 ⇒ done
    ∷ look_up Desk 5 1 ⇒ refused 11
    ∷ look_up Desk 5 2 ⇒ price 1 by_book
    ∷ look_up Desk 5 3 ⇒ no_price (by_step 3)
    ∷ look_up Desk 9 2 ⇒ price 2 by_book
    ∷ look_up Desk 9 3 ⇒ price 2 by_book
    ∷ flush 3 ⇒ done
    ∷ look_up Desk 5 3 ⇒ no_price by_book
    ∷ [])
    -- an empty commit names no offer, and takes a number
    ∷ calls (loaded 8 8 book)
    (commit (put_of 5 1 ∷ []) ⇒ done
    ∷ commit [] ⇒ done
    ∷ commit (put_of 9 2 ∷ []) ⇒ done
    ∷ commit (none_of 5 ∷ []) ⇒ done
    ∷ look_up Desk 5 2 ⇒ price 1 (by_step 1)
    ∷ look_up Desk 5 3 ⇒ price 1 (by_step 1)
    ∷ look_up Desk 9 3 ⇒ price 2 (by_step 3)
    ∷ look_up Desk 5 4 ⇒ no_price (by_step 4)
    ∷ [])
    -- the price that was there, the removal of an offer that is not there, price 0, each word of a list, and the first and the last offer
    ∷ calls (loaded 8 8 book)
    (commit (put_of 5 1200 ∷ []) ⇒ done
    ∷ commit (none_of 8 ∷ []) ⇒ done
    ∷ commit (put_of 0 3 ∷ none_of 4 ∷ put_of 5 0 ∷ put_of 2147483647 6 ∷ []) ⇒ done
    ∷ look_up Desk 5 1 ⇒ price 1200 (by_step 1)
    ∷ look_up Desk 8 1 ⇒ no_price by_book
    ∷ look_up Desk 8 2 ⇒ no_price (by_step 2)
    ∷ look_up Desk 5 3 ⇒ price 0 (by_step 3)
    ∷ look_up Desk 0 3 ⇒ price 3 (by_step 3)
    ∷ look_up Desk 0 2 ⇒ no_price by_book
    ∷ look_up Desk 4 3 ⇒ no_price (by_step 3)
    ∷ look_up Desk 6 3 ⇒ no_price by_book
    ∷ look_up Desk 2147483647 3 ⇒ price 6 (by_step 3)
    ∷ [])
    -- steps below the anchor that an open place holds are not searched
    ∷ calls (loaded 8 8 book)
    (issue Desk 0 (none_of 5 ∷ []) ⇒ filled (put_of 5 1200 ∷ [])
    ∷ commit (put_of 5 1 ∷ []) ⇒ done
    ∷ commit (put_of 9 2 ∷ []) ⇒ done
    ∷ flush 2 ⇒ done
    ∷ commit (put_of 9 3 ∷ []) ⇒ done
    ∷ look_up Desk 5 2 ⇒ price 1 by_book
    ∷ look_up Desk 5 3 ⇒ price 1 by_book
    ∷ look_up Desk 9 2 ⇒ price 2 by_book
    ∷ look_up Desk 9 3 ⇒ price 3 (by_step 3)
    ∷ forward Desk 0 3 ⇒ forwarded (put_of 5 1 ∷ [])
    ∷ look_up Desk 9 3 ⇒ price 3 (by_step 3)
    ∷ [])
    -- after a rollback the numbers are used again
    ∷ calls (loaded 8 8 book)
    (commit (put_of 5 1 ∷ []) ⇒ done
    ∷ commit [] ⇒ done
    ∷ commit (put_of 5 2 ∷ []) ⇒ done
    ∷ roll_back 1 ⇒ done
    ∷ look_up Desk 5 1 ⇒ price 1 (by_step 1)
    ∷ commit (put_of 5 3 ∷ []) ⇒ done
    ∷ look_up Desk 5 2 ⇒ price 3 (by_step 2)
    ∷ roll_back 1 ⇒ done
    ∷ commit [] ⇒ done
    ∷ look_up Desk 5 2 ⇒ price 1 (by_step 1)
    ∷ roll_back 0 ⇒ done
    ∷ look_up Desk 5 0 ⇒ price 1200 by_book
    ∷ commit [] ⇒ done
    ∷ look_up Desk 5 1 ⇒ price 1200 by_book
    ∷ [])
    -- the last state number
    ∷ calls (loaded 1 8 near_the_end)
    (replicate 5 (commit (put_of 5 7 ∷ []) ⇒ done)
    ++ (look_up Desk 5 4294967290 ⇒ price 1200 by_book
    ∷ look_up Desk 5 4294967291 ⇒ price 7 (by_step 4294967291)
    ∷ look_up Desk 5 4294967295 ⇒ price 7 (by_step 4294967295)
    ∷ []))
    -- 64 steps that all name the offer, and the first alone
    ∷ calls (loaded 1 64 book)
    (replicate 64 (commit (put_of 5 7 ∷ []) ⇒ done)
    ++ (look_up Desk 5 1 ⇒ price 7 (by_step 1)
    ∷ look_up Desk 5 63 ⇒ price 7 (by_step 63)
    ∷ look_up Desk 5 64 ⇒ price 7 (by_step 64)
    ∷ []))
    ∷ calls (loaded 1 8 book)
    (commit (put_of 5 7 ∷ []) ⇒ done
    ∷ replicate 63 (commit [] ⇒ done)
    ++ (look_up Desk 5 64 ⇒ price 7 (by_step 1)
    ∷ []))
    -- a restart leaves no step
    ∷ restarted (loaded 1 8 book) (put_of 5 1 ∷ []) (replicate 14 1) (accepted 0) book
    (look_up Desk 5 0 ⇒ price 1200 by_book
    ∷ look_up Desk 5 1 ⇒ refused 11
    ∷ [])
    ∷ []
