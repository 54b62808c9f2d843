-- The laws of changes (document 01, "Laws of changes"; sections 6 and 7 of document 000), as the layers above cite them. Each line
-- is a theorem; the files that it names hold the proof. A price of 0 is a price: no law looks at the price of a word of kind 1.
-- Assumes nothing.
use mathlib.Core.Path.{◌≡◌}
use mathlib.Core.Bool.{true}
use mathlib.Core.List.{List, [], ◌∷◌, ◌++◌}
use Prim.Native.Nat.{ℕ, ◌+◌, ◌≤◌}
use lib.ListN.{length}
use Rattle.entry.specs.Word.{offer_of, none_of, Put, Valid}
use Rattle.std.proofs.Common.{Some, None}
use Rattle.changes.specs.Calculus.{find, or_else, compose, apply, compose_all, apply_all}
use Rattle.changes.specs.Lists.{is_rising, From, All, Changes, Map}
use Rattle.changes.specs.ReadSets.{read_of, over}
use Rattle.changes.specs.Runs.{run_of}
use Rattle.changes.proofs.Applying
use Rattle.changes.proofs.Compose
use Rattle.changes.proofs.ListTest
use Rattle.changes.proofs.Merging
use Rattle.changes.proofs.Reading
use Rattle.changes.proofs.Rising
use Rattle.changes.proofs.Running

-- "Applying a list puts or removes its offers and touches no other;"
module _ (k : ℕ) (m d : List ℕ) (hm : Map m) (hd : From 0 d) where
  pub apply_puts : (w : ℕ) → find k d ≡ Some w → Put w → find k (apply m d) ≡ Some w
  apply_puts = Applying.apply_puts k m d hm hd

  pub apply_removes : (w : ℕ) → find k d ≡ Some w → (Put w → ⊥) → find k (apply m d) ≡ None
  apply_removes = Applying.apply_removes k m d hm hd

  pub apply_leaves : find k d ≡ None → find k (apply m d) ≡ find k m
  apply_leaves = Applying.apply_leaves k m d hm hd

-- "removing an absent offer changes nothing."
pub remove_absent : (m : List ℕ) (w : ℕ) → Map m → (Put w → ⊥) → find (offer_of w) m ≡ None → apply m (w ∷ []) ≡ m
remove_absent = Applying.remove_absent

-- "Composition has the later word win for each offer, may pass 64 words, is associative, and has the empty list as its zero."
pub later_wins : (k : ℕ) (a b : List ℕ) → From 0 b → find k (compose a b) ≡ or_else (find k b) (find k a)
later_wins k a b f = Applying.find-compose k a b 0 f

pub compose_assoc : (a b c : List ℕ) → compose (compose a b) c ≡ compose a (compose b c)
compose_assoc = Compose.compose_assoc

pub compose_zero_right : (a : List ℕ) → compose a [] ≡ a
compose_zero_right = Merging.compose-nil

pub compose_zero_left : (b : List ℕ) → compose [] b ≡ b
compose_zero_left = Merging.nil-compose

-- "Applying one list and then another equals applying their composition." (equations 1 and 2 of 000)
pub apply_twice : (m a b : List ℕ) → From 0 m → From 0 a → From 0 b → apply (apply m a) b ≡ apply m (compose a b)
apply_twice = Applying.apply-compose

pub apply_zero : (m : List ℕ) → Map m → apply m [] ≡ m
apply_zero m h = Applying.apply-nil m h.puts

-- The results rise and are valid, and are at most as long as what they are made of.
pub compose-Changes : (a b : List ℕ) → Changes a → Changes b → Changes (compose a b)
compose-Changes a b f g =
    record { rises = Rising.compose_rises a b 0 f.rises g.rises; valid = Rising.compose-All Valid a b f.valid g.valid }

pub compose-length : (a b : List ℕ) → length (compose a b) ≤ length a + length b
compose-length = Rising.compose-length

pub apply-Map : (m d : List ℕ) → From 0 m → From 0 d → Map (apply m d)
apply-Map = Applying.apply-Map

pub apply-length : (m d : List ℕ) → length (apply m d) ≤ length m + length d
apply-length = Applying.apply-length

-- Two rising lists in which the same is found at every offer are one list.
pub rising_ext : (a b : List ℕ) → From 0 a → From 0 b → ((k : ℕ) → find k a ≡ find k b) → a ≡ b
rising_ext = Rising.rising_ext 0

-- "here a read set keeps exactly its own" offers; changes applied to it at its own offers are the read set of the changed map
-- (equations 8 and 9 of 000 as document 01 corrects them).
pub read_offers : (m ws : List ℕ) → Reading.offers_of (read_of m ws) ≡ Reading.offers_of ws
read_offers = Reading.read_offers

pub over_offers : (rs d : List ℕ) → Reading.offers_of (over rs d) ≡ Reading.offers_of rs
over_offers = Reading.over_offers

pub read_changed : (m d : List ℕ) → Map m → Changes d → (ws : List ℕ) → over (read_of m ws) d ≡ read_of (apply m d) ws
read_changed = Reading.read_changed

pub over_twice : (rs a b : List ℕ) → From 0 b → over (over rs a) b ≡ over rs (compose a b)
over_twice = Reading.over-compose

pub over_zero : (rs : List ℕ) → over rs [] ≡ rs
over_zero = Reading.over-nil

pub over-Changes : (rs d : List ℕ) → Changes rs → Changes d → Changes (over rs d)
over-Changes = Reading.over-Changes

pub read_Changes : (m ws : List ℕ) → Map m → From 0 ws → Changes (read_of m ws)
read_Changes = Reading.read_Changes

-- A list of words that show no price, filled from a map, is the read set of the map at its offers.
pub fill_none : (m ws : List ℕ) → All (λ w. w ≡ none_of (offer_of w)) ws → over ws m ≡ read_of m ws
fill_none = Reading.over_none

-- A run of lists: composed it rises and is valid, split anywhere it is the same list, and applied it is the lists applied in turn.
pub run_Changes : (ds : List (List ℕ)) → All Changes ds → Changes (compose_all ds)
run_Changes = Applying.compose_all-Changes

pub run_split : (xs ys : List (List ℕ)) → compose_all (xs ++ ys) ≡ compose (compose_all xs) (compose_all ys)
run_split = Applying.compose_all_split

pub run_apply : (m : List ℕ) (ds : List (List ℕ)) → Map m → All Changes ds → apply_all m ds ≡ apply m (compose_all ds)
run_apply = Applying.apply_all_lem

-- The steps of a slice, split anywhere.
pub steps_split : (words ends : List ℕ) (n m i : ℕ) → run_of words ends i (n + m) ≡ run_of words ends i n ++ run_of words ends (i + n) m
steps_split = Running.run_split

-- The test of a list's words is the fact that they are changes.
pub test_Changes : (l : List ℕ) → is_rising 0 l ≡ true → Changes l
test_Changes l e =
    let f = ListTest.rising_facts 0 l e in
    record { rises = f.0; valid = f.1 }

pub Changes-test : (l : List ℕ) → Changes l → is_rising 0 l ≡ true
Changes-test l h = ListTest.facts_rising 0 l h.rises h.valid
