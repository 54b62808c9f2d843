-- A run of steps composed into a lent buffer, with a second one to spare.
-- Assumes nothing.
use Rattle.std.specs.Prelude.{◌≡◌, List, ℕ, ◌-◌, ◌≤◌, length, take, drop}
use Rattle.changes.specs.Calculus.{compose_all}
use Rattle.changes.specs.Runs.{run_of, run_words, Marked}

-- the steps from i up to j, exclusive, lie within their words, and each of two buffers has room for their words
pub record RunRoom (words ends : List ℕ) (i j out spare : ℕ) : Type 0 where
  pub marked : Marked words ends j
  pub order : i ≤ j
  pub out_room : run_words ends i j ≤ out
  pub spare_room : run_words ends i j ≤ spare

-- the first n words of a buffer are the steps from i up to j, exclusive, composed; in it and in a second buffer
-- the words past those of the steps are as they were
pub record Composed (words ends : List ℕ) (i j : ℕ) (out₀ spare₀ out spare : List ℕ) (n : ℕ) : Type 0 where
  pub size : n ≡ length (compose_all (run_of words ends i (j - i)))
  pub front : take n out ≡ compose_all (run_of words ends i (j - i))
  pub out_behind : drop (run_words ends i j) out ≡ drop (run_words ends i j) out₀
  pub spare_behind : drop (run_words ends i j) spare ≡ drop (run_words ends i j) spare₀
