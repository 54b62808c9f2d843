-- The depth that must stay (document 02, Q-6): at clear and load, at a flush, and over a restart. The book is that of moment 4, "Book 5 at
-- 1200" as state 0.
-- Assumes nothing.
use Rattle.std.specs.Prelude.{List, [], ◌∷◌, ◌++◌, ℕ, replicate}
use Rattle.entry.specs.Word.{put_of, none_of}
use Rattle.answers.specs.declared.call.Caller.TheVariants.{Desk}
use Rattle.answers.specs.declared.call.Format.TheVariants.{Image, Sheet}
use Rattle.answers.specs.declared.call.Reset.TheVariants.{Clear, Load}
use Rattle.answers.specs.Answers.{accepted, refused as refused_by}
use Rattle.history.specs.Named.{commit, roll_back, flush, issue, refused, done, filled}
use Rattle.moments.specs.Images.{both}
use Rattle.moments.specs.Moments.{cleared_to, loaded_to, ◌⇒◌, Exchange, Moment, calls, not_started, anew, restarted}
use Rattle.moments.specs.Table.{book}

-- ten offers, more than a table of four words has room for
abbrev pub ten : List ℕ
ten =
    put_of 0 1
    ∷ put_of 1 1
    ∷ put_of 2 1
    ∷ put_of 3 1
    ∷ put_of 4 1
    ∷ put_of 5 1
    ∷ put_of 6 1
    ∷ put_of 7 1
    ∷ put_of 8 1
    ∷ put_of 9 1
    ∷ []

-- state 4294967290, without offers, and a sheet of it
abbrev pub late : List ℕ
late = 0xFF ∷ 0xFF ∷ 0xFF ∷ 0xFA ∷ 0x00 ∷ 0x00 ∷ []

abbrev pub late_sheet : List ℕ
late_sheet = 0xFF ∷ 0xFF ∷ 0xFF ∷ 0xFA ∷ 0x00 ∷ 0x00 ∷ 0x00 ∷ 0x00 ∷ []

-- so many empty lists, each accepted
abbrev pub commits : ℕ → List Exchange
commits n = replicate n (commit [] ⇒ done)

unfoldable pub depths : List Moment
depths =
    -- "a depth from 0 to 63": above it 20, after 1 and before 15 and 16
    not_started (cleared_to 64 8 8) 20
    ∷ not_started (cleared_to 4294967295 8 8) 20
    ∷ not_started (cleared_to 64 0 8) 1
    ∷ calls (cleared_to 62 8 8) []
    ∷ calls (cleared_to 63 8 8) []
    ∷ not_started (loaded_to 64 8 8 Image []) 20
    ∷ not_started (loaded_to 63 8 8 Image []) 15
    ∷ not_started (loaded_to 64 1 8 Image both) 20
    ∷ not_started (loaded_to 63 1 8 Image both) 16
    ∷ not_started (loaded_to 4294967295 8 8 Image both) 20
    ∷ not_started (loaded_to 64 8 0 Image both) 1
    ∷ not_started (loaded_to 64 8 8 Sheet []) 20
    ∷ not_started (loaded_to 63 8 8 Sheet []) 15
    -- a flush: 11, then 20, then 16; none to the anchor is barred, and no rollback is
    ∷ calls (loaded_to 2 4 64 Image book)
    (flush 0 ⇒ done
    ∷ commit ten ⇒ done
    ∷ commit ten ⇒ done
    ∷ commit ten ⇒ done
    ∷ flush 4 ⇒ refused 11
    ∷ flush 3 ⇒ refused 20
    ∷ flush 2 ⇒ refused 20
    ∷ flush 1 ⇒ refused 16
    ∷ roll_back 1 ⇒ done
    ∷ flush 0 ⇒ done
    ∷ flush 1 ⇒ refused 20
    ∷ roll_back 0 ⇒ done
    ∷ flush 0 ⇒ done
    ∷ [])
    -- a tip below the depth: no state but the anchor
    ∷ calls (loaded_to 3 4 8 Image book)
    (commit [] ⇒ done
    ∷ flush 1 ⇒ refused 20
    ∷ flush 0 ⇒ done
    ∷ [])
    -- exactly as many steps above the state as the depth, and one fewer; the anchor has moved, and is not barred
    ∷ calls (cleared_to 2 4 8)
    (commits 3
    ++ (flush 2 ⇒ refused 20
    ∷ flush 1 ⇒ done
    ∷ flush 2 ⇒ refused 20
    ∷ roll_back 2 ⇒ done
    ∷ flush 2 ⇒ refused 20
    ∷ flush 1 ⇒ done
    ∷ roll_back 1 ⇒ done
    ∷ flush 1 ⇒ done
    ∷ commit [] ⇒ done
    ∷ flush 0 ⇒ refused 11
    ∷ []))
    -- with a place open the floor stays below the anchor, and it is the anchor that is not barred
    ∷ calls (loaded_to 1 4 8 Image book)
    (issue Desk 0 (none_of 5 ∷ []) ⇒ filled (put_of 5 1200 ∷ [])
    ∷ commit [] ⇒ done
    ∷ commit [] ⇒ done
    ∷ flush 1 ⇒ done
    ∷ roll_back 1 ⇒ done
    ∷ flush 1 ⇒ done
    ∷ flush 0 ⇒ refused 11
    ∷ [])
    -- numbers near the last, of 32 bits: the sum of a state and the depth has more
    ∷ calls (loaded_to 1 4 8 Image late)
    (commits 5
    ++ (flush 4294967295 ⇒ refused 20
    ∷ flush 4294967294 ⇒ done
    ∷ flush 4294967295 ⇒ refused 20
    ∷ []))
    ∷ calls (loaded_to 63 4 8 Sheet late_sheet)
    (commits 5
    ++ (flush 4294967291 ⇒ refused 20
    ∷ flush 4294967290 ⇒ done
    ∷ []))
    -- the greatest depth leaves one step to flush where 64 are held, and then there is room for another
    ∷ calls (cleared_to 63 4 8)
    (commits 64
    ++ (commit [] ⇒ refused 13
    ∷ flush 2 ⇒ refused 20
    ∷ flush 1 ⇒ done
    ∷ commit [] ⇒ done
    ∷ []))
    -- with depth 0 no flush is barred
    ∷ calls (cleared_to 0 4 8)
    (commits 2
    ++ (flush 1 ⇒ done
    ∷ flush 2 ⇒ done
    ∷ []))
    -- "restart keeps it"
    ∷ restarted (loaded_to 2 4 8 Image book) [] (replicate 14 1) (accepted 0) book
    (commit [] ⇒ done
    ∷ commit [] ⇒ done
    ∷ flush 1 ⇒ refused 20
    ∷ commit [] ⇒ done
    ∷ flush 1 ⇒ done
    ∷ [])
    -- a later load sets it anew, and a clear or a load that is refused leaves it
    ∷ anew (loaded_to 2 4 8 Image book) [] (Load 0 Image) book (accepted 0) book
    (commit [] ⇒ done
    ∷ flush 1 ⇒ done
    ∷ [])
    ∷ anew (loaded_to 2 4 8 Image book) [] (Clear 1) [] (accepted 0) []
    (commit [] ⇒ done
    ∷ flush 1 ⇒ refused 20
    ∷ commit [] ⇒ done
    ∷ flush 1 ⇒ done
    ∷ [])
    ∷ anew (loaded_to 2 4 8 Image book) [] (Clear 64) [] (refused_by 20) []
    (flush 1 ⇒ refused 20
    ∷ commit [] ⇒ done
    ∷ flush 1 ⇒ refused 20
    ∷ commit [] ⇒ done
    ∷ flush 1 ⇒ done
    ∷ [])
    ∷ anew (loaded_to 1 4 8 Image book) [] (Load 64 Image) book (refused_by 20) book
    (flush 1 ⇒ refused 20
    ∷ commit [] ⇒ done
    ∷ flush 1 ⇒ done
    ∷ [])
    ∷ []
