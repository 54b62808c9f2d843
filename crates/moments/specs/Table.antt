-- Document 01's "Twelve moments at the counter", one after another, with the answers that it states, but for the first of moment 10,
-- which document 02 replaces (Q-3). Where the paper names no length, table and journal have 8 words; where it names no book, it is that
-- of moment 4; the place is slot 0, and the desk calls. Lent bytes and output words hold 1 before the call. Beside a price or none stands
-- since when (document 02, Q-4).
-- Assumes nothing.
use Rattle.std.specs.Prelude.{List, [], ◌∷◌, ◌++◌, ℕ, replicate}
use Rattle.entry.specs.Word.{put_of, none_of}
use Rattle.answers.specs.declared.call.Caller.TheVariants.{Desk}
use Rattle.answers.specs.Answers.{by_step, by_book, accepted, refused as refused_by}
use Rattle.history.specs.Named.{look_up, commit, roll_back, flush, issue, forward, release, write_image, refused, done, price}
use Rattle.history.specs.Named.{no_price, filled, forwarded, written}
use Rattle.moments.specs.Moments.{cleared, loaded, ◌⇒◌, Moment, word, calls, priced, order_of}

-- the listing's image, and "Book 5 at 1200" as state 0
abbrev pub listing : List ℕ
listing = 0x00 ∷ 0x00 ∷ 0x00 ∷ 0x07 ∷ 0x00 ∷ 0x01 ∷ 0x80 ∷ 0x00 ∷ 0x00 ∷ 0x05 ∷ 0x00 ∷ 0x00 ∷ 0x04 ∷ 0xB0 ∷ []

abbrev pub book : List ℕ
book = 0x00 ∷ 0x00 ∷ 0x00 ∷ 0x00 ∷ 0x00 ∷ 0x01 ∷ 0x80 ∷ 0x00 ∷ 0x00 ∷ 0x05 ∷ 0x00 ∷ 0x00 ∷ 0x04 ∷ 0xB0 ∷ []

unfoldable pub twelve : List Moment
twelve =
    -- 1. Clear, then image: six zero bytes.
    calls (cleared 8 8)
    (write_image (replicate 6 1) ⇒ written 6 (0 ∷ 0 ∷ 0 ∷ 0 ∷ 0 ∷ 0 ∷ [])
    ∷ [])
    -- 2. Offer 5 at 1200 is the word 80000005000004B0 hexadecimal.
    ∷ word 5 1200 0x80000005000004B0
    -- 3. The listing's image loads as state 7, and is written the same.
    ∷ calls (loaded 8 8 listing)
    (look_up Desk 5 6 ⇒ refused 11
    ∷ look_up Desk 5 7 ⇒ price 1200 by_book
    ∷ look_up Desk 5 8 ⇒ refused 11
    ∷ write_image (replicate 14 1) ⇒ written 14 listing
    ∷ [])
    -- 4. Book 5 at 1200, commit removes 5: lookup at 0 gives 1200, at 1 none.
    ∷ calls (loaded 8 8 book)
    (commit (none_of 5 ∷ []) ⇒ done
    ∷ look_up Desk 5 0 ⇒ price 1200 by_book
    ∷ look_up Desk 5 1 ⇒ no_price (by_step 1)
    ∷ [])
    -- 5. Same book, issue 5 and 9 at state 0, commit 5 at 1100 and 9 at 700, flush to 1, forward to 1: 1100 and 700.
    ∷ calls (loaded 8 8 book)
    (issue Desk 0 (none_of 5 ∷ none_of 9 ∷ []) ⇒ filled (put_of 5 1200 ∷ none_of 9 ∷ [])
    ∷ commit (put_of 5 1100 ∷ put_of 9 700 ∷ []) ⇒ done
    ∷ flush 1 ⇒ done
    ∷ forward Desk 0 1 ⇒ forwarded (put_of 5 1100 ∷ put_of 9 700 ∷ [])
    ∷ [])
    -- 6. After that flush, rollback to 0: number 11.
    ∷ calls (loaded 8 8 book)
    (issue Desk 0 (none_of 5 ∷ none_of 9 ∷ []) ⇒ filled (put_of 5 1200 ∷ none_of 9 ∷ [])
    ∷ commit (put_of 5 1100 ∷ put_of 9 700 ∷ []) ⇒ done
    ∷ flush 1 ⇒ done
    ∷ roll_back 0 ⇒ refused 11
    ∷ [])
    -- 7. Commit 5 at 1100, roll back to 0, commit 5 at 1300: state 1 says 1300.
    ∷ calls (loaded 8 8 book)
    (commit (put_of 5 1100 ∷ []) ⇒ done
    ∷ roll_back 0 ⇒ done
    ∷ commit (put_of 5 1300 ∷ []) ⇒ done
    ∷ look_up Desk 5 1 ⇒ price 1300 (by_step 1)
    ∷ [])
    -- 8. 64 empty commits pass, the 65th is 13; after a flush to 1 with all places closed it passes.
    ∷ calls (loaded 8 8 book)
    (replicate 64 (commit [] ⇒ done)
    ++ (commit [] ⇒ refused 13
    ∷ flush 1 ⇒ done
    ∷ commit [] ⇒ done
    ∷ []))
    -- 9. With a place open since state 0 it is still 13; after a drop it passes.
    ∷ calls (loaded 8 8 book)
    (issue Desk 0 (none_of 5 ∷ []) ⇒ filled (put_of 5 1200 ∷ [])
    ∷ replicate 64 (commit [] ⇒ done)
    ++ (commit [] ⇒ refused 13
    ∷ flush 1 ⇒ done
    ∷ commit [] ⇒ refused 13
    ∷ release Desk 0 ⇒ done
    ∷ commit [] ⇒ done
    ∷ []))
    -- 10. Price 1001, kind 27, amount 0: 750; amount 800: 800. Document 02: "Price 1001 with kind 27 and amount 0 becomes 751, which
    -- replaces 750 in moment 10 of document 01."
    ∷ priced (put_of 5 1001 ∷ []) (order_of 27 0 5 ∷ []) (1 ∷ 1 ∷ []) (accepted 1) (put_of 5 751 ∷ 1 ∷ [])
    ∷ priced (put_of 5 1001 ∷ []) (order_of 27 800 5 ∷ []) (1 ∷ 1 ∷ []) (accepted 1) (put_of 5 800 ∷ 1 ∷ [])
    -- 11. Price 1200 cut by 1200: 0; by 1201: number 10.
    ∷ priced (put_of 5 1200 ∷ []) (order_of 3 1200 5 ∷ []) (1 ∷ 1 ∷ []) (accepted 1) (put_of 5 0 ∷ 1 ∷ [])
    ∷ priced (put_of 5 1200 ∷ []) (order_of 3 1201 5 ∷ []) (1 ∷ 1 ∷ []) (refused_by 10) (1 ∷ 1 ∷ [])
    -- 12. Book of one word holding 5: commit 9, flush to 1 is 16; commit removal of 5, flush to 2 passes.
    ∷ calls (loaded 1 8 book)
    (commit (put_of 9 700 ∷ []) ⇒ done
    ∷ flush 1 ⇒ refused 16
    ∷ commit (none_of 5 ∷ []) ⇒ done
    ∷ flush 2 ⇒ done
    ∷ [])
    ∷ []
