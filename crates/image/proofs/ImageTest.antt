-- The test of an image, clause by clause, as facts, and as a loop meets it.
-- Assumes nothing.
use mathlib.Core.Path.{◌≡◌, sym, ◌∙◌, ap, subst}
use mathlib.Core.Bool.{true, false, ◌&&◌}
use mathlib.Core.List.{List, ◌∷◌}
use Prim.Native.Nat.{ℕ, ◌+◌, ◌-◌, ◌*◌, ◌≤◌, ◌<◌, ◌^◌}
use native.Mathlib.Decide.{ℕ_discrete}
use native.Mathlib.Omega.{arith}
use borrow.Author.Tests.{eq-eqb, ne_eqb, eqb-true, le-leb, lt-leb, leb-true}
use lib.Dec.{eqb, leb}
use lib.ListN.{length, take, drop}
use Rattle.entry.specs.Word.{kind_of, offer_of, key_of}
use Rattle.changes.specs.Lists.{is_map, Map}
use Rattle.changes.proofs.ListTest.{and_both}
use Rattle.changes.proofs.MapTest.{map_none, map_not_Put, map_below, map_next, map_facts, facts_map}
use Rattle.big_endian.specs.Bytes.{value_of}
use Rattle.image.specs.Image.{words_of, count_in, words_in, is_image}
use Rattle.image.proofs.Words.{words_next, words_end, words_all}

-- what holds of an image
pub record Image (b : List ℕ) : Type 0 where
  pub long : 6 ≤ length b
  pub size : length b ≡ 6 + 8 * count_in b
  pub map : Map (words_in b)

pub Image-facts : (b : List ℕ) → is_image b ≡ true → Image b
unfolding is_image
Image-facts b e =
    let all = and_both (leb 6 (length b) && eqb (length b) (6 + 8 * count_in b)) (is_map 0 (words_in b)) e in
    let sizes = and_both (leb 6 (length b)) (eqb (length b) (6 + 8 * count_in b)) all.0 in
    let facts = map_facts 0 (words_in b) all.1 in
    record {
      long = leb-true _ _ sizes.0;
      size = eqb-true _ _ sizes.1;
      map = record { rises = facts.0; puts = facts.1 };
    }

module _ (b : List ℕ) where
  pub image_short : length b < 6 → is_image b ≡ false
  unfolding is_image
  image_short h = rw (lt-leb 6 (length b) h)

  module _ (long : 6 ≤ length b) where
    pub image_missized : (length b ≡ 6 + 8 * count_in b → ⊥) → is_image b ≡ false
    unfolding is_image
    image_missized h = rw (le-leb 6 (length b) long, ne_eqb (length b) (6 + 8 * count_in b) h)

    pub image_sized : length b ≡ 6 + 8 * count_in b → is_image b ≡ is_map 0 (words_in b)
    unfolding is_image
    image_sized h = rw (le-leb 6 (length b) long, eq-eqb (length b) (6 + 8 * count_in b) h)

pub facts_Image : (b : List ℕ) → Image b → is_image b ≡ true
facts_Image b i = image_sized b i.long i.size ∙ facts_map 0 (words_in b) i.map.rises i.map.puts

-- A loop over the words: those that are left are a map's from the bound on exactly when the bytes are an image.
pub record Testing (b : List ℕ) (least i : ℕ) : Type 0 where
  pub size : length b ≡ 6 + 8 * count_in b
  pub inside : i ≤ count_in b
  pub small : least ≤ 2 ^ 31
  pub left : is_map least (words_of (count_in b - i) (drop (6 + 8 * i) b)) ≡ is_image b

pub Testing-all : (b : List ℕ) → 6 ≤ length b → length b ≡ 6 + 8 * count_in b → Testing b 0 0
Testing-all b l e =
    record {
      size = e;
      inside = omega arith;
      small = omega arith;
      left = ap (is_map 0) (words_all b) ∙ sym (image_sized b l e);
    }

module _ {b : List ℕ} {least i : ℕ} (t : Testing b least i) where
  pub tested : count_in b ≤ i → is_image b ≡ true
  tested h = sym t.left ∙ ap (is_map least) (words_end (count_in b) b i h) ∙ map_none least

  -- the word at the position, as it was read
  module _ (h : i < count_in b) (w : ℕ) (e : w ≡ value_of (take 8 (drop (6 + 8 * i) b))) where
    here : is_map least (w ∷ words_of (count_in b - (i + 1)) (drop (6 + 8 * (i + 1)) b)) ≡ is_image b
    here = rw e (ap (is_map least) (sym (words_next (count_in b) b i h)) ∙ t.left)

    pub test_not_put : (kind_of w ≡ 1 → ⊥) → is_image b ≡ false
    test_not_put k = sym here ∙ map_not_Put least w _ k

    pub test_below : kind_of w ≡ 1 → offer_of w < least → is_image b ≡ false
    test_below k o = sym here ∙ map_below least w _ k o

    pub test_next : kind_of w ≡ 1 → least ≤ offer_of w → Testing b (offer_of w + 1) (i + 1)
    test_next k o =
        record {
          size = t.size;
          inside = omega arith;
          small = omega arith;
          left = sym (map_next least w _ k o) ∙ here;
        }

-- The loop carries the last key, which is the bound on offers less one, of kind 1.
pub record Keyed (b : List ℕ) (last i : ℕ) : Type 0 where
  pub least : 2 ^ 31 ≤ last + 1
  pub most : last < 2 ^ 32
  pub tested : Testing b (last + 1 - 2 ^ 31) i

pub Keyed-all : (b : List ℕ) → 6 ≤ length b → length b ≡ 6 + 8 * count_in b → Keyed b (2 ^ 31 - 1) 0
Keyed-all b l e = record { least = omega arith; most = omega arith; tested = Testing-all b l e }

module _ {b : List ℕ} {last i : ℕ} (t : Keyed b last i) (h : i < count_in b) (w : ℕ) (small : w < 2 ^ 64)
    (e : w ≡ value_of (take 8 (drop (6 + 8 * i) b))) where
  pub key_falls : key_of w ≤ last → is_image b ≡ false
  key_falls k = go (ℕ_discrete (kind_of w) 1)
    where
      go : Dec (kind_of w ≡ 1) → is_image b ≡ false
      go (yes p) = test_below t.tested h w e p (omega (arith, t.least))
      go (no p) = test_not_put t.tested h w e p

  pub key_rises : last < key_of w → Keyed b (key_of w) (i + 1)
  key_rises k =
      let puts : kind_of w ≡ 1 = omega (arith, t.least) in
      let next : Testing b (offer_of w + 1) (i + 1) = test_next t.tested h w e puts (omega (arith, t.least)) in
      let bound : offer_of w + 1 ≡ key_of w + 1 - 2 ^ 31 = omega (arith, t.least) in
      record {
        least = omega (arith, t.least);
        most = omega arith;
        tested = subst (λ (n : ℕ). Testing b n (i + 1)) bound next;
      }
