-- The calculus of changes, of condition 2, law by law (document 01, "Laws of changes"; more of them in changes/proofs/Laws.antt).
-- Assumes nothing.
use Rattle.std.specs.Prelude.{◌≡◌, List, [], ◌∷◌, map, ℕ}
use Rattle.entry.specs.Word.{offer_of, Put}
use Rattle.std.specs.Prelude.{Some, None}
use Rattle.changes.specs.Calculus.{find, or_else, compose, apply, compose_all, apply_all}
use Rattle.changes.specs.Lists.{From, All, Changes, Map}
use Rattle.changes.specs.ReadSets.{read_of, over}

pub record Laws : Type 0 where
  -- "Applying a list puts or removes its offers and touches no other;"
  pub apply_puts : (k : ℕ) (m d : List ℕ) → Map m → From 0 d → (w : ℕ) → find k d ≡ Some w → Put w → find k (apply m d) ≡ Some w
  pub apply_removes : (k : ℕ) (m d : List ℕ) → Map m → From 0 d → (w : ℕ) → find k d ≡ Some w → (Put w → ⊥) → find k (apply m d) ≡ None
  pub apply_leaves : (k : ℕ) (m d : List ℕ) → Map m → From 0 d → find k d ≡ None → find k (apply m d) ≡ find k m
  -- "removing an absent offer changes nothing."
  pub remove_absent : (m : List ℕ) (w : ℕ) → Map m → (Put w → ⊥) → find (offer_of w) m ≡ None → apply m (w ∷ []) ≡ m
  -- what applying gives is a map
  pub apply_map : (m d : List ℕ) → From 0 m → From 0 d → Map (apply m d)
  -- "Composition has the later word win for each offer, .. is associative, and has the empty list as its zero." It is changes again.
  pub later_wins : (k : ℕ) (a b : List ℕ) → From 0 b → find k (compose a b) ≡ or_else (find k b) (find k a)
  pub compose_changes : (a b : List ℕ) → Changes a → Changes b → Changes (compose a b)
  pub compose_assoc : (a b c : List ℕ) → compose (compose a b) c ≡ compose a (compose b c)
  pub compose_zero_right : (a : List ℕ) → compose a [] ≡ a
  pub compose_zero_left : (b : List ℕ) → compose [] b ≡ b
  -- "Applying one list and then another equals applying their composition."
  pub apply_twice : (m a b : List ℕ) → From 0 m → From 0 a → From 0 b → apply (apply m a) b ≡ apply m (compose a b)
  pub run_apply : (m : List ℕ) (ds : List (List ℕ)) → Map m → All Changes ds → apply_all m ds ≡ apply m (compose_all ds)
  -- a read set that is forwarded shows what it would have read from the map that the changes make, and "keeps exactly its own" offers
  pub read_changed : (m d : List ℕ) → Map m → Changes d → (ws : List ℕ) → over (read_of m ws) d ≡ read_of (apply m d) ws
  pub over_twice : (rs a b : List ℕ) → From 0 b → over (over rs a) b ≡ over rs (compose a b)
  pub over_offers : (rs d : List ℕ) → map offer_of (over rs d) ≡ map offer_of rs
