-- Desk and foyer at the counter (document 02, Q-1): whose places are, how many words a list has, and which ground comes first. The book
-- is that of moment 4, in memory of 8 words each.
-- Assumes nothing.
use Rattle.std.specs.Prelude.{List, [], ◌∷◌, ◌++◌, ℕ, zero, suc, ◌+◌}
use Rattle.entry.specs.Word.{put_of, none_of}
use Rattle.answers.specs.declared.call.Caller.TheVariants.{Desk, Foyer}
use Rattle.answers.specs.Answers.{by_book}
use Rattle.history.specs.Named.{look_up, issue, forward, release, refused, done, price, filled, forwarded}
use Rattle.moments.specs.Moments.{loaded, ◌⇒◌, Moment, calls}
use Rattle.moments.specs.Table.{book}

-- words of kind 0, and words of kind 1, of so many offers from one on
unfoldable pub asking : ℕ → ℕ → List ℕ
asking offer zero = []
asking offer (suc n) = none_of offer ∷ asking (offer + 1) n

unfoldable pub putting : ℕ → ℕ → List ℕ
putting offer zero = []
putting offer (suc n) = put_of offer 1 ∷ putting (offer + 1) n

-- the words of 5, which has a price, and of the offers from 0 on, which have none
abbrev pub showing : ℕ → List ℕ
showing more = asking 0 5 ++ (put_of 5 1200 ∷ asking 6 more)

unfoldable pub desk_and_foyer : List Moment
desk_and_foyer =
    calls (loaded 8 8 book)
    -- "The desk stays at 64 words a list; the foyer may issue and forward at most 16."
    (issue Foyer 6 (asking 0 16) ⇒ filled (showing 10)
    ∷ issue Desk 5 (asking 0 64) ⇒ filled (showing 58)
    -- "18, a foyer list over 16 words, tested after 6"
    ∷ issue Foyer 7 (asking 0 17) ⇒ refused 18
    ∷ issue Foyer 7 (putting 0 17) ⇒ refused 6
    ∷ issue Foyer 7 (asking 0 65) ⇒ refused 6
    ∷ issue Foyer 6 (asking 0 17) ⇒ refused 4
    -- "The foyer has places 6 and 7, the desk 0 to 5", "19, a place that isn't the caller's, tested after 3"
    ∷ issue Desk 6 (asking 0 17) ⇒ refused 19
    ∷ issue Desk 7 (asking 0 17) ⇒ refused 19
    ∷ issue Foyer 0 (asking 0 17) ⇒ refused 19
    ∷ issue Foyer 5 (asking 0 17) ⇒ refused 19
    ∷ issue Foyer 8 [] ⇒ refused 3
    ∷ issue Desk 8 [] ⇒ refused 3
    ∷ forward Desk 6 0 ⇒ refused 19
    ∷ forward Foyer 5 0 ⇒ refused 19
    ∷ release Desk 6 ⇒ refused 19
    ∷ release Foyer 5 ⇒ refused 19
    ∷ release Foyer 7 ⇒ refused 5
    ∷ forward Foyer 6 9 ⇒ refused 11
    -- "Lookups are open to both."
    ∷ look_up Desk 5 0 ⇒ price 1200 by_book
    ∷ look_up Foyer 5 0 ⇒ price 1200 by_book
    -- what was refused left both places open
    ∷ forward Foyer 6 0 ⇒ forwarded (showing 10)
    ∷ forward Desk 5 0 ⇒ forwarded (showing 58)
    ∷ issue Foyer 7 [] ⇒ filled []
    ∷ release Foyer 7 ⇒ done
    ∷ [])
    ∷ []
