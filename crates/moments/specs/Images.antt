-- Images of any recent state (document 02, Q-2), and restarts beside them. Where a state shall hold more offers than the book, that is
-- the book of moment 4 in a table of one word, and a commit adds offer 9 at 700. Lent bytes hold 1 before the call.
-- Assumes nothing.
use Rattle.std.specs.Prelude.{List, [], ◌∷◌, ◌++◌, ℕ, replicate}
use Rattle.entry.specs.Word.{put_of, none_of}
use Rattle.answers.specs.declared.call.Caller.TheVariants.{Desk}
use Rattle.answers.specs.Answers.{by_step, by_book, accepted, refused as refused_by}
use Rattle.history.specs.Named.{look_up, commit, flush, issue, forward, write_image, write_state_image, refused, done, price, no_price}
use Rattle.history.specs.Named.{filled, forwarded, written}
use Rattle.moments.specs.Moments.{cleared, loaded, ◌⇒◌, Moment, calls, restarted}
use Rattle.moments.specs.Table.{book, listing}

-- state 1: 5 at 1200 and 9 at 700
abbrev pub both : List ℕ
both =
    0x00 ∷ 0x00 ∷ 0x00 ∷ 0x01 ∷ 0x00 ∷ 0x02
    ∷ 0x80 ∷ 0x00 ∷ 0x00 ∷ 0x05 ∷ 0x00 ∷ 0x00 ∷ 0x04 ∷ 0xB0
    ∷ 0x80 ∷ 0x00 ∷ 0x00 ∷ 0x09 ∷ 0x00 ∷ 0x00 ∷ 0x02 ∷ 0xBC
    ∷ []

-- state 2, without offers
abbrev pub none : List ℕ
none = 0x00 ∷ 0x00 ∷ 0x00 ∷ 0x02 ∷ 0x00 ∷ 0x00 ∷ []

-- the last state number but one, with the listing's offer, and the last, with none
abbrev pub last_but_one : List ℕ
last_but_one = 0xFF ∷ 0xFF ∷ 0xFF ∷ 0xFE ∷ 0x00 ∷ 0x01 ∷ 0x80 ∷ 0x00 ∷ 0x00 ∷ 0x05 ∷ 0x00 ∷ 0x00 ∷ 0x04 ∷ 0xB0 ∷ []

abbrev pub last_empty : List ℕ
last_empty = 0xFF ∷ 0xFF ∷ 0xFF ∷ 0xFF ∷ 0x00 ∷ 0x00 ∷ []

-- bytes that tell their order: state 11121314, one offer, 01020304 at 05060708 hexadecimal
abbrev pub ordered : List ℕ
ordered = 0x11 ∷ 0x12 ∷ 0x13 ∷ 0x14 ∷ 0x00 ∷ 0x01 ∷ 0x81 ∷ 0x02 ∷ 0x03 ∷ 0x04 ∷ 0x05 ∷ 0x06 ∷ 0x07 ∷ 0x08 ∷ []

unfoldable pub images_of_states : List Moment
images_of_states =
    calls (loaded 1 8 book)
    (commit (put_of 9 700 ∷ []) ⇒ done
    -- "With no state named, the tip is now written instead of the anchor.", and "A state may hold more offers than the book; its image is
    -- still written"; "bytes past it are unchanged"
    ∷ write_image (replicate 24 1) ⇒ written 22 (both ++ (1 ∷ 1 ∷ []))
    ∷ write_image (replicate 21 1) ⇒ refused 17
    ∷ write_state_image 1 (replicate 22 1) ⇒ written 22 both
    ∷ write_state_image 1 (replicate 21 1) ⇒ refused 17
    ∷ write_state_image 0 (replicate 14 1) ⇒ written 14 book
    ∷ write_state_image 0 (replicate 13 1) ⇒ refused 17
    ∷ write_state_image 2 [] ⇒ refused 11
    ∷ commit (none_of 5 ∷ none_of 9 ∷ []) ⇒ done
    ∷ write_image (replicate 6 1) ⇒ written 6 none
    ∷ write_state_image 1 (replicate 22 1) ⇒ written 22 both
    ∷ write_state_image 3 (replicate 22 1) ⇒ refused 11
    -- what is below the anchor is kept no more
    ∷ flush 2 ⇒ done
    ∷ write_state_image 1 (replicate 22 1) ⇒ refused 11
    ∷ write_state_image 2 (replicate 6 1) ⇒ written 6 none
    ∷ [])
    -- with a place open since state 0 the steps from there are held below the anchor; the images are of the anchor and above, and
    -- "Writing an image changes nothing."
    ∷ calls (loaded 2 8 book)
    (issue Desk 0 (none_of 5 ∷ []) ⇒ filled (put_of 5 1200 ∷ [])
    ∷ commit (put_of 9 700 ∷ []) ⇒ done
    ∷ flush 1 ⇒ done
    ∷ write_state_image 0 (replicate 22 1) ⇒ refused 11
    ∷ write_state_image 1 (replicate 22 1) ⇒ written 22 both
    ∷ commit (none_of 9 ∷ []) ⇒ done
    ∷ write_image (replicate 14 1) ⇒ written 14 (0x00 ∷ 0x00 ∷ 0x00 ∷ 0x02 ∷ 0x00 ∷ 0x01 ∷ 0x80 ∷ 0x00 ∷ 0x00 ∷ 0x05 ∷ 0x00 ∷ 0x00 ∷ 0x04
    ∷ 0xB0 ∷ [])
    ∷ forward Desk 0 2 ⇒ forwarded (put_of 5 1200 ∷ [])
    ∷ [])
    -- the removal of an offer that is not there
    ∷ calls (loaded 1 8 book)
    (commit (none_of 9 ∷ []) ⇒ done
    ∷ write_image (replicate 14 1) ⇒ written 14 (0x00 ∷ 0x00 ∷ 0x00 ∷ 0x01 ∷ 0x00 ∷ 0x01 ∷ 0x80 ∷ 0x00 ∷ 0x00 ∷ 0x05 ∷ 0x00 ∷ 0x00 ∷ 0x04
    ∷ 0xB0 ∷ [])
    ∷ [])
    ∷ calls (cleared 1 8)
    (write_state_image 0 (replicate 6 1) ⇒ written 6 (replicate 6 0)
    ∷ write_state_image 1 (replicate 6 1) ⇒ refused 11
    ∷ [])
    ∷ calls (loaded 1 8 listing)
    (write_state_image 6 (replicate 14 1) ⇒ refused 11
    ∷ write_state_image 7 (replicate 14 1) ⇒ written 14 listing
    ∷ write_state_image 8 (replicate 14 1) ⇒ refused 11
    ∷ [])
    -- "An image that names a state loads as that state's map."
    ∷ calls (loaded 2 8 both)
    (look_up Desk 5 1 ⇒ price 1200 by_book
    ∷ look_up Desk 9 1 ⇒ price 700 by_book
    ∷ look_up Desk 5 0 ⇒ refused 11
    ∷ [])
    ∷ calls (loaded 1 8 last_but_one)
    (commit (none_of 5 ∷ []) ⇒ done
    ∷ write_image (replicate 6 1) ⇒ written 6 last_empty
    ∷ [])
    ∷ calls (loaded 1 8 ordered)
    (look_up Desk 0x01020304 0x11121314 ⇒ price 0x05060708 by_book
    ∷ write_image (replicate 14 1) ⇒ written 14 ordered
    ∷ [])
    -- "Restart relied on the old default and must now name the anchor.", where the tip's image is longer and where it is shorter
    ∷ restarted (loaded 1 8 book) (put_of 9 700 ∷ []) (replicate 14 1) (accepted 0) book
    (look_up Desk 5 0 ⇒ price 1200 by_book
    ∷ look_up Desk 9 0 ⇒ no_price by_book
    ∷ look_up Desk 5 1 ⇒ refused 11
    ∷ [])
    ∷ restarted (loaded 1 8 book) (put_of 9 700 ∷ []) (replicate 13 1) (refused_by 17) (replicate 13 1)
    (look_up Desk 9 1 ⇒ price 700 (by_step 1)
    ∷ [])
    ∷ restarted (loaded 1 8 book) (none_of 5 ∷ []) (replicate 13 1) (refused_by 17) (replicate 13 1)
    (look_up Desk 5 1 ⇒ no_price (by_step 1)
    ∷ [])
    ∷ []
