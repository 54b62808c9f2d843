-- Row sheets (document 02, Q-5). Lent bytes hold 1 before the call.
-- Assumes nothing.
use Rattle.std.specs.Prelude.{List, [], ◌∷◌, ◌++◌, ℕ, ◌-◌, ◌^◌, replicate}
use Rattle.entry.specs.Word.{put_of, none_of}
use Rattle.answers.specs.declared.call.Caller.TheVariants.{Desk}
use Rattle.answers.specs.Answers.{by_step, by_book}
use Rattle.history.specs.Named.{look_up, commit, flush, write_image, write_sheet, write_state_sheet, refused, done, price, no_price, written}
use Rattle.moments.specs.Moments.{loaded, of_sheet, ◌⇒◌, Moment, calls, not_started}
use Rattle.moments.specs.Table.{listing}

-- state 7: 5 at 1200, in row 0 on seat 5
abbrev pub one : List ℕ
one =
    0x00 ∷ 0x00 ∷ 0x00 ∷ 0x07 ∷ 0x00 ∷ 0x00 ∷ 0x00 ∷ 0x01
    ∷ 0x00 ∷ 0x00 ∷ 0x00 ∷ 0x00 ∷ 0x04 ∷ 0x00 ∷ 0x00 ∷ 0x00 ∷ 0x00 ∷ 0x00 ∷ 0x04 ∷ 0xB0
    ∷ []

-- state 8: 5 at 1200 and 31 at 4 in row 0, and 2^31 - 1 at 3 in the last row, on the last seat
abbrev pub two : List ℕ
two =
    0x00 ∷ 0x00 ∷ 0x00 ∷ 0x08 ∷ 0x00 ∷ 0x00 ∷ 0x00 ∷ 0x02
    ∷ 0x00 ∷ 0x00 ∷ 0x00 ∷ 0x00 ∷ 0x04 ∷ 0x00 ∷ 0x00 ∷ 0x01 ∷ 0x00 ∷ 0x00 ∷ 0x04 ∷ 0xB0 ∷ 0x00 ∷ 0x00 ∷ 0x00 ∷ 0x04
    ∷ 0xFF ∷ 0xFF ∷ 0xFF ∷ 0xC0 ∷ 0x00 ∷ 0x00 ∷ 0x00 ∷ 0x01 ∷ 0x00 ∷ 0x00 ∷ 0x00 ∷ 0x03
    ∷ []

-- state 9, without offers
abbrev pub none : List ℕ
none = 0x00 ∷ 0x00 ∷ 0x00 ∷ 0x09 ∷ 0x00 ∷ 0x00 ∷ 0x00 ∷ 0x00 ∷ []

-- state 3: 31 at 1 and 32 at 2 are of two rows
abbrev pub neighbours : List ℕ
neighbours =
    0x00 ∷ 0x00 ∷ 0x00 ∷ 0x03 ∷ 0x00 ∷ 0x00 ∷ 0x00 ∷ 0x02
    ∷ 0x00 ∷ 0x00 ∷ 0x00 ∷ 0x00 ∷ 0x00 ∷ 0x00 ∷ 0x00 ∷ 0x01 ∷ 0x00 ∷ 0x00 ∷ 0x00 ∷ 0x01
    ∷ 0x00 ∷ 0x00 ∷ 0x00 ∷ 0x40 ∷ 0x80 ∷ 0x00 ∷ 0x00 ∷ 0x00 ∷ 0x00 ∷ 0x00 ∷ 0x00 ∷ 0x02
    ∷ []

-- bytes that tell their order: state 11121314, row 0x0102030 with mask B0000000, seats 0, 2 and 3 at 05060708, 0 and 15161718 hexadecimal
abbrev pub ordered : List ℕ
ordered =
    0x11 ∷ 0x12 ∷ 0x13 ∷ 0x14 ∷ 0x00 ∷ 0x00 ∷ 0x00 ∷ 0x01
    ∷ 0x04 ∷ 0x08 ∷ 0x0C ∷ 0x00 ∷ 0xB0 ∷ 0x00 ∷ 0x00 ∷ 0x00
    ∷ 0x05 ∷ 0x06 ∷ 0x07 ∷ 0x08 ∷ 0x00 ∷ 0x00 ∷ 0x00 ∷ 0x00 ∷ 0x15 ∷ 0x16 ∷ 0x17 ∷ 0x18
    ∷ []

-- a header of a state number and a count of rows, and a row of number 0 with one seat
abbrev header : ℕ → List ℕ
header count = 0x00 ∷ 0x00 ∷ 0x00 ∷ 0x09 ∷ 0x00 ∷ 0x00 ∷ 0x00 ∷ count ∷ []

abbrev tag : ℕ → List ℕ
tag last = 0x00 ∷ 0x00 ∷ 0x00 ∷ last ∷ []

unfoldable pub sheets_of_states : List Moment
sheets_of_states =
    -- loaded, and written back, "bytes past a written sheet are unchanged"
    calls (of_sheet 4 8 one)
    (look_up Desk 5 7 ⇒ price 1200 by_book
    ∷ look_up Desk 4 7 ⇒ no_price by_book
    ∷ write_sheet (replicate 22 1) ⇒ written 20 (one ++ (1 ∷ 1 ∷ []))
    ∷ write_sheet (replicate 19 1) ⇒ refused 17
    -- the same state as an image is document 01's
    ∷ write_image (replicate 14 1) ⇒ written 14 listing
    -- "for the same states as images": any kept state, and the tip with none named
    ∷ commit (put_of 31 4 ∷ put_of (2 ^ 31 - 1) 3 ∷ []) ⇒ done
    ∷ look_up Desk 31 8 ⇒ price 4 (by_step 8)
    ∷ write_sheet (replicate 37 1) ⇒ written 36 (two ++ (1 ∷ []))
    ∷ write_state_sheet 8 (replicate 36 1) ⇒ written 36 two
    ∷ write_state_sheet 8 (replicate 35 1) ⇒ refused 17
    ∷ write_state_sheet 7 (replicate 20 1) ⇒ written 20 one
    ∷ write_state_sheet 9 [] ⇒ refused 11
    ∷ write_state_sheet 6 (replicate 36 1) ⇒ refused 11
    -- no rows are a sheet
    ∷ commit (none_of 5 ∷ none_of 31 ∷ none_of (2 ^ 31 - 1) ∷ []) ⇒ done
    ∷ write_sheet (replicate 8 1) ⇒ written 8 none
    ∷ write_sheet (replicate 7 1) ⇒ refused 17
    ∷ flush 8 ⇒ done
    ∷ write_state_sheet 7 (replicate 20 1) ⇒ refused 11
    ∷ write_state_sheet 8 (replicate 36 1) ⇒ written 36 two
    ∷ [])
    -- a state that holds more offers than the book
    ∷ calls (of_sheet 1 8 one)
    (commit (put_of 31 4 ∷ put_of (2 ^ 31 - 1) 3 ∷ []) ⇒ done
    ∷ write_sheet (replicate 36 1) ⇒ written 36 two
    ∷ flush 8 ⇒ refused 16
    ∷ [])
    ∷ calls (of_sheet 3 1 two) (write_sheet (replicate 36 1) ⇒ written 36 two ∷ [])
    ∷ calls (of_sheet 1 1 none) (write_sheet (replicate 8 1) ⇒ written 8 none ∷ [])
    ∷ calls (of_sheet 2 1 neighbours)
    (look_up Desk 31 3 ⇒ price 1 by_book
    ∷ look_up Desk 32 3 ⇒ price 2 by_book
    ∷ write_sheet (replicate 32 1) ⇒ written 32 neighbours
    ∷ [])
    -- "In a row, the price of a seat stands after as many prices as set bits precede it.", a price of 0 among them
    ∷ calls (of_sheet 3 1 ordered)
    (look_up Desk 0x2040600 0x11121314 ⇒ price 0x05060708 by_book
    ∷ look_up Desk 0x2040601 0x11121314 ⇒ no_price by_book
    ∷ look_up Desk 0x2040602 0x11121314 ⇒ price 0 by_book
    ∷ look_up Desk 0x2040603 0x11121314 ⇒ price 0x15161718 by_book
    ∷ write_sheet (replicate 28 1) ⇒ written 28 ordered
    ∷ [])
    -- an image that is loaded is written as a sheet
    ∷ calls (loaded 1 1 listing) (write_sheet (replicate 20 1) ⇒ written 20 one ∷ [])
    -- 16 counts offers, and 15 comes before it, over the whole sheet
    ∷ not_started (of_sheet 2 1 two) 16
    ∷ not_started (of_sheet 2 1 (two ++ (0 ∷ []))) 15
    -- broken: nothing, less than a header, a byte more, rows that are not there or not counted
    ∷ not_started (of_sheet 4 1 []) 15
    ∷ not_started (of_sheet 4 1 (0x00 ∷ 0x00 ∷ 0x00 ∷ 0x09 ∷ 0x00 ∷ 0x00 ∷ 0x00 ∷ [])) 15
    ∷ not_started (of_sheet 4 1 (one ++ (0 ∷ []))) 15
    ∷ not_started (of_sheet 4 1 (header 0 ++ tag 0)) 15
    ∷ not_started (of_sheet 4 1 (header 1)) 15
    ∷ not_started (of_sheet 4 1 (header 2 ++ tag 0 ++ tag 1 ++ tag 5)) 15
    ∷ not_started (of_sheet 4 1 (header 1 ++ tag 0 ++ tag 1 ++ tag 5 ++ tag 64 ++ tag 1 ++ tag 5)) 15
    -- no seat, a bit behind the number, a price that is cut or missing
    ∷ not_started (of_sheet 4 1 (header 1 ++ tag 0 ++ tag 0)) 15
    ∷ not_started (of_sheet 4 1 (header 1 ++ tag 1 ++ tag 1 ++ tag 5)) 15
    ∷ not_started (of_sheet 4 1 (header 1 ++ tag 32 ++ tag 1 ++ tag 5)) 15
    ∷ not_started (of_sheet 4 1 (header 1 ++ tag 0 ++ tag 1 ++ (0 ∷ 0 ∷ 0 ∷ []))) 15
    ∷ not_started (of_sheet 4 1 (header 1 ++ tag 0 ++ tag 3 ++ tag 5)) 15
    -- the same row twice, and rows that fall
    ∷ not_started (of_sheet 4 1 (header 2 ++ tag 64 ++ tag 2 ++ tag 5 ++ tag 64 ++ tag 1 ++ tag 5)) 15
    ∷ not_started (of_sheet 4 1 (header 2 ++ tag 64 ++ tag 1 ++ tag 5 ++ tag 0 ++ tag 1 ++ tag 5)) 15
    ∷ calls (of_sheet 4 1 (header 2 ++ tag 0 ++ tag 1 ++ tag 5 ++ tag 64 ++ tag 1 ++ tag 5)) []
    -- and lengths out of range come first
    ∷ not_started (of_sheet 0 1 []) 1
    ∷ []
