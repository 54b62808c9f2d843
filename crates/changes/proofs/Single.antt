-- Lists of no word and of one word as changes, and changes with one more word.
-- Assumes nothing.
use mathlib.Core.List.{List, [], ◌∷◌}
use Prim.Native.Nat.{ℕ, ◌+◌}
use native.Mathlib.Omega.{arith}
use Rattle.entry.specs.Word.{offer_of, Valid}
use Rattle.changes.specs.Calculus.{compose}
use Rattle.changes.specs.Lists.{From, All, Changes}
use Rattle.changes.proofs.Rising.{from_cons, From-nil, all_cons, compose_rises, compose-All}

pub from_one : (w : ℕ) → From 0 (w ∷ [])
from_one w = from_cons 0 w [] (omega arith) (From-nil (offer_of w + 1))

none_Valid : All Valid []
unfolding All
none_Valid = tt

pub Changes-none : Changes []
Changes-none = record { rises = From-nil 0; valid = none_Valid }

pub Changes-one : (w : ℕ) → Valid w → Changes (w ∷ [])
Changes-one w v = record { rises = from_one w; valid = all_cons Valid w [] v none_Valid }

pub Changes-more : (d : List ℕ) (w : ℕ) → Changes d → Valid w → Changes (compose d (w ∷ []))
Changes-more d w h v =
    let one = Changes-one w v in
    record {
      rises = compose_rises d (w ∷ []) 0 h.rises one.rises;
      valid = compose-All Valid d (w ∷ []) h.valid one.valid;
    }
