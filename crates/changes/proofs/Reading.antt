-- Read sets: they keep exactly their own offers, and changes applied to what a map shows give what the changed map shows.
-- Assumes nothing.
use mathlib.Core.Path.{◌≡◌, refl, sym, ap, ap₂, ◌∙◌}
use mathlib.Core.List.{List, [], ◌∷◌, map}
use Prim.Native.Nat.{ℕ, ◌+◌, ◌≤◌, ◌<◌}
use native.Mathlib.Decide.{ℕ_discrete}
use native.Mathlib.Omega.{arith}
use lib.ListN.{length, drop, get_or, length-map, drop_of_length-le}
use Rattle.entry.specs.Word.{kind_of, offer_of, none_of, Put, Valid}
use Rattle.entry.proofs.Laws.{none_word, offer_small, offer_built}
use Rattle.changes.specs.Found.{Found}
use Rattle.std.proofs.Common.{Some, None}
use Rattle.changes.specs.Calculus.{find, or_else, compose, apply}
use Rattle.changes.specs.Lists.{From, All, Changes, Map}
use Rattle.changes.specs.ReadSets.{found_or, read_of, over}
use Rattle.changes.proofs.Applying.{find-compose, apply_puts, apply_removes, apply_leaves}
use Rattle.changes.proofs.Find.{find_empty, found_offer, found_all}
use Rattle.words.proofs.Parts.{next}

-- the words of a list by their offers alone
abbrev pub offers_of : List ℕ → List ℕ
offers_of l = map offer_of l

none_offer : (w : ℕ) → offer_of (none_of (offer_of w)) ≡ offer_of w
none_offer w = offer_built 0 (offer_of w) 0 (offer_small w) (omega arith)

-- one word of a read set, shown by a map or changed
abbrev shown : List ℕ → ℕ → ℕ
shown m w = found_or (find (offer_of w) m) (none_of (offer_of w))

abbrev changed : List ℕ → ℕ → ℕ
changed d w = found_or (find (offer_of w) d) w

or_offer : (k : ℕ) (l : List ℕ) (w : ℕ) → offer_of w ≡ k → offer_of (found_or (find k l) w) ≡ k
or_offer k l w e = go (find k l) refl
  where
    go : (f : Found) → find k l ≡ f → offer_of (found_or f w) ≡ k
    go (Some v) i = found_offer k l v i
    go None i = e

shown_offer : (m : List ℕ) (w : ℕ) → offer_of (shown m w) ≡ offer_of w
shown_offer m w = or_offer (offer_of w) m (none_of (offer_of w)) (none_offer w)

changed_offer : (d : List ℕ) (w : ℕ) → offer_of (changed d w) ≡ offer_of w
changed_offer d w = or_offer (offer_of w) d w refl

-- as a loop meets it: the words from a position on, changed
pub over_at : (rs d : List ℕ) (i : ℕ) → i < length rs → over (drop i rs) d
    ≡ found_or (find (offer_of (get_or rs i 0)) d) (get_or rs i 0) ∷ over (drop (i + 1) rs) d
unfolding over
over_at rs d i h = rw (next rs i h)

pub over_end : (rs d : List ℕ) (i : ℕ) → length rs ≤ i → over (drop i rs) d ≡ []
unfolding over
over_end rs d i h = rw (drop_of_length-le rs h)

-- a read set keeps exactly its own offers
pub read_offers : (m ws : List ℕ) → offers_of (read_of m ws) ≡ offers_of ws
unfolding read_of
read_offers m [] = refl
read_offers m (w ∷ ws) = ap₂ ◌∷◌ (shown_offer m w) (read_offers m ws)

pub over_offers : (rs d : List ℕ) → offers_of (over rs d) ≡ offers_of rs
unfolding over
over_offers [] d = refl
over_offers (w ∷ rs) d = ap₂ ◌∷◌ (changed_offer d w) (over_offers rs d)

pub read_length : (m ws : List ℕ) → length (read_of m ws) ≡ length ws
unfolding read_of
read_length m ws = length-map ws (shown m)

pub over-length : (rs d : List ℕ) → length (over rs d) ≡ length rs
unfolding over
over-length rs d = length-map rs (changed d)

-- changes applied to what a map shows give what the changed map shows
module _ (m d : List ℕ) (hm : Map m) (hd : Changes d) where
  shown_after : (w : ℕ) → changed d (shown m w) ≡ shown (apply m d) w
  shown_after w = ap (λ (k : ℕ). found_or (find k d) (shown m w)) (shown_offer m w) ∙ go (find (offer_of w) d) refl
    where
      k : ℕ
      k = offer_of w

      put : (v : ℕ) → find (offer_of w) d ≡ Some v → Dec (Put v) → v ≡ shown (apply m d) w
      put v e (yes p) = sym (ap (λ (f : Found). found_or f (none_of (offer_of w))) (apply_puts (offer_of w) m d hm hd.rises v e p))
      put v e (no p) =
          let valid : Valid v = found_all Valid (offer_of w) d hd.valid v e in
          let removes : kind_of v ≡ 0 = omega (arith, valid.0) in
          none_word v removes (valid.1 removes)
          ∙ ap none_of (found_offer (offer_of w) d v e)
          ∙ sym (ap (λ (f : Found). found_or f (none_of (offer_of w))) (apply_removes (offer_of w) m d hm hd.rises v e p))

      go : (f : Found) → find (offer_of w) d ≡ f → found_or f (shown m w) ≡ shown (apply m d) w
      go (Some v) e = put v e (ℕ_discrete (kind_of v) 1)
      go None e = sym (ap (λ (f : Found). found_or f (none_of (offer_of w))) (apply_leaves (offer_of w) m d hm hd.rises e))

  pub read_changed : (ws : List ℕ) → over (read_of m ws) d ≡ read_of (apply m d) ws
  unfolding read_of over
  read_changed [] = refl
  read_changed (w ∷ ws) = ap₂ ◌∷◌ (shown_after w) (read_changed ws)

-- changes in turn are their composition
pub over-compose : (rs a b : List ℕ) → From 0 b → over (over rs a) b ≡ over rs (compose a b)
unfolding over
over-compose [] a b f = refl
over-compose (w ∷ rs) a b f = ap₂ ◌∷◌ one (over-compose rs a b f)
  where
    pick : (f g : Found) → found_or f (found_or g w) ≡ found_or (or_else f g) w
    pick (Some v) g = refl
    pick None g = refl

    one : changed b (changed a w) ≡ changed (compose a b) w
    one =
        ap (λ (k : ℕ). found_or (find k b) (changed a w)) (changed_offer a w)
        ∙ pick (find (offer_of w) b) (find (offer_of w) a)
        ∙ ap (λ (f : Found). found_or f w) (sym (find-compose (offer_of w) a b 0 f))

pub over-nil : (rs : List ℕ) → over rs [] ≡ rs
unfolding over
over-nil [] = refl
over-nil (w ∷ rs) = ap₂ ◌∷◌ (ap (λ (f : Found). found_or f w) (find_empty (offer_of w))) (over-nil rs)

-- filling a list of words that show no price is reading the map at its offers
pub over_none : (m ws : List ℕ) → All (λ w. w ≡ none_of (offer_of w)) ws → over ws m ≡ read_of m ws
unfolding over read_of All
over_none m [] h = refl
over_none m (w ∷ ws) h = ap₂ ◌∷◌ (ap (found_or (find (offer_of w) m)) h.0) (over_none m ws h.1)

-- a read set is decided by the map and the offers
pub read_by_offers : (m vs ws : List ℕ) → offers_of vs ≡ offers_of ws → read_of m vs ≡ read_of m ws
unfolding read_of
read_by_offers m [] [] e = refl
read_by_offers m [] (w ∷ ws) e = absurd (let z : ◌≡◌ {A = ℕ} 0 1 = cc in omega arith)
read_by_offers m (v ∷ vs) [] e = absurd (let z : ◌≡◌ {A = ℕ} 0 1 = cc in omega arith)
read_by_offers m (v ∷ vs) (w ∷ ws) e =
    let first : offer_of v ≡ offer_of w = cc in
    ap₂ ◌∷◌ (ap (λ (k : ℕ). found_or (find k m) (none_of k)) first) (read_by_offers m vs ws (cc))

-- a list rises by its offers alone
pub From-by_offers : (n : ℕ) (vs ws : List ℕ) → offers_of vs ≡ offers_of ws → From n vs → From n ws
unfolding From
From-by_offers n [] [] e f = tt
From-by_offers n [] (w ∷ ws) e f = absurd (let z : ◌≡◌ {A = ℕ} 0 1 = cc in omega arith)
From-by_offers n (v ∷ vs) [] e f = absurd (let z : ◌≡◌ {A = ℕ} 0 1 = cc in omega arith)
From-by_offers n (v ∷ vs) (w ∷ ws) e f =
    let first : offer_of v ≡ offer_of w = cc in
    (omega (arith, f.0), From-by_offers (offer_of w + 1) vs ws (cc) (rw first at f.1))

-- a read set of valid changes, and a read set with valid changes applied, are valid and rise
All-over : (rs d : List ℕ) → All Valid rs → All Valid d → All Valid (over rs d)
unfolding over All
All-over [] d h g = tt
All-over (w ∷ rs) d h g = (go (find (offer_of w) d) refl, All-over rs d h.1 g)
  where
    go : (f : Found) → find (offer_of w) d ≡ f → Valid (found_or f w)
    go (Some v) e = found_all Valid (offer_of w) d g v e
    go None e = h.0

pub over-Changes : (rs d : List ℕ) → Changes rs → Changes d → Changes (over rs d)
over-Changes rs d h g =
    record {
      rises = From-by_offers 0 rs (over rs d) (sym (over_offers rs d)) h.rises;
      valid = All-over rs d h.valid g.valid;
    }

all_read : (m ws : List ℕ) → All Put m → All Valid (read_of m ws)
unfolding read_of All
all_read m [] h = tt
all_read m (w ∷ ws) h = (go (find (offer_of w) m) refl, all_read m ws h)
  where
    go : (f : Found) → find (offer_of w) m ≡ f → Valid (found_or f (none_of (offer_of w)))
    go (Some v) e =
        let put : Put v = found_all Put (offer_of w) m h v e in
        (omega arith, λ z. absurd (omega arith))
    go None e = (omega arith, λ z. omega arith)

pub read_Changes : (m ws : List ℕ) → Map m → From 0 ws → Changes (read_of m ws)
read_Changes m ws h f =
    record {
      rises = From-by_offers 0 ws (read_of m ws) (sym (read_offers m ws)) f;
      valid = all_read m ws h.puts;
    }
