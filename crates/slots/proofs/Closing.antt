-- A slot that closes: the floor does not fall, and the store can be trimmed; and the number that an open one records.
-- Assumes nothing.
use mathlib.Core.Path.{◌≡◌}
use mathlib.Core.Bool.{Bool, true, false}
use mathlib.Core.List.{List, [], ◌∷◌}
use Prim.Native.Nat.{ℕ, zero, suc, ◌≤◌, ◌<◌}
use native.Mathlib.Omega.{arith}
use borrow.Author.Tests.{leb-true}
use lib.ListN.{length, get_or, set}
use Rattle.layout.specs.declared.head.Head.{Head}
use Rattle.layout.specs.States.{held_of}
use Rattle.layout.specs.Tests.{least}
use Rattle.views.specs.Trim.{Trimmable}
use Rattle.views.specs.View.{Shaped}
use Rattle.views.proofs.SlotLists.{least_up_to}
use Rattle.soundness.specs.Facts.{Sound}
use Rattle.views.proofs.Laid.{journal_Marked}
use Rattle.slots.specs.Slots.{closed_at}

-- with a slot closed the least number is no lower
least_closed : (c : ℕ) (taken : List Bool) (numbers : List ℕ) (k : ℕ) → least c taken numbers
    ≤ least c (set taken k false) (set numbers k 0)
unfolding least
least_closed c [] numbers k = omega arith
least_closed c (m ∷ taken) [] zero = omega arith
least_closed c (m ∷ taken) [] (suc k) = omega arith
least_closed c (true ∷ taken) (n ∷ numbers) zero = omega arith
least_closed c (false ∷ taken) (n ∷ numbers) zero = omega arith
least_closed c (true ∷ taken) (n ∷ numbers) (suc k) = omega (arith, least_closed c taken numbers k)
least_closed c (false ∷ taken) (n ∷ numbers) (suc k) = least_closed c taken numbers k

-- the least number is at most that of an open slot
least_open : (c : ℕ) (taken : List Bool) (numbers : List ℕ) (k : ℕ) → get_or taken k false ≡ true → k < length numbers
    → least c taken numbers ≤ get_or numbers k 0
unfolding least
least_open c [] numbers k e h = cc
least_open c (m ∷ taken) [] k e h = absurd (omega arith)
least_open c (true ∷ taken) (n ∷ numbers) zero e h = omega arith
least_open c (false ∷ taken) (n ∷ numbers) zero e h = cc
least_open c (true ∷ taken) (n ∷ numbers) (suc k) e h = omega (arith, least_open c taken numbers k e (omega arith))
least_open c (false ∷ taken) (n ∷ numbers) (suc k) e h = least_open c taken numbers k e (omega arith)

-- a head that a call leaves with a slot closed, where the store was sound
pub closed_Trimmable : {table journal : List ℕ} {head next : Head} (slot : ℕ) → Sound table journal head → length next.ends ≡ 64
    → next ≡ closed_at head slot → Trimmable journal next
unfolding closed_at
closed_Trimmable {table} {journal} {head} {next} slot s ends_64 e =
    let long : length head.ends ≡ 64 = rw e at ends_64 in
    rw e
    record {
      low = omega (arith, s.oldest, least_closed head.checkpoint head.taken head.issued slot);
      high = omega (arith, least_up_to head.checkpoint (set head.taken slot false) (set head.issued slot 0), s.high);
      few = s.few;
      marked = journal_Marked journal head.ends (held_of head) s.lists (omega (arith, s.few, long));
    }

module _ (table journal : List ℕ) (head : Head) (p : Shaped head) (s : Sound table journal head) (slot : ℕ) where
  -- the number of an open slot lies between the floor and the checkpoint
  module _ (h : slot < 8) (taken : get_or head.taken slot false ≡ true) where
    pub number_low : head.oldest ≤ get_or head.issued slot 0
    number_low =
        omega (arith, s.oldest, least_open head.checkpoint head.taken head.issued slot taken (omega (arith, p.issued_8)))

    pub number_high : get_or head.issued slot 0 ≤ head.checkpoint
    number_high = leb-true _ _ (rw taken at (s.slots slot h))
