-- "After flush, forward or drop the floor is worked out anew, steps below it go, the rest move to the start, and the freed words are
-- used by later commits."
-- Assumes nothing.
use Rattle.std.specs.Prelude.{List, map, ◌++◌, ℕ, ◌-◌, ◌≤◌, length, take, drop, replicate}
use Rattle.changes.specs.Runs.{start_of, Marked}
use Rattle.layout.specs.declared.head.Head.{Head}
use Rattle.layout.specs.Heads.{with_floor}
use Rattle.layout.specs.States.{held_of}
use Rattle.layout.specs.Tests.{least}
use Rattle.views.specs.View.{View, view_old, padded, least_slot}

-- the floor worked out anew, how many steps lie below it, and how many words they have
abbrev pub floor_of : Head → ℕ
floor_of head = least head.checkpoint head.taken head.issued

abbrev pub gone_steps : Head → ℕ
gone_steps head = floor_of head - head.oldest

abbrev pub gone_words : Head → ℕ
gone_words head = start_of head.ends (gone_steps head)

-- the marks from a step up to another, moved down by a count of words; "marks not in use are 0"
abbrev pub moved_ends : List ℕ → ℕ → ℕ → ℕ → List ℕ
moved_ends ends from to words = padded 64 (map (λ e. e - words) (take (to - from) (drop from ends)))

unfoldable pub trimmed_head : Head → Head
trimmed_head head = with_floor head (floor_of head) (moved_ends head.ends (gone_steps head) (held_of head) (gone_words head))

-- the rest moved to the start, and as many zeros behind as words went
unfoldable pub trimmed_journal : Head → List ℕ → List ℕ
trimmed_journal head journal = drop (gone_words head) journal ++ replicate (gone_words head) 0

-- a store whose floor may lie too low
pub record Trimmable (journal : List ℕ) (head : Head) : Type 0 where
  pub low : head.oldest ≤ floor_of head
  pub high : floor_of head ≤ head.tip
  pub few : held_of head ≤ 64
  pub marked : Marked journal head.ends (held_of head)

-- a view without the steps that lead up to its floor
unfoldable pub trimmed : View → View
trimmed v = view_old v (drop (least_slot v.checkpoint v.slots - (v.checkpoint - length v.old)) v.old)
