-- The load: it is accepted or refused as the plain list has it, and leaves the store that follows the plain list.
-- Assumes nothing.
use mathlib.Core.Path.{◌≡◌, refl, sym, ap, subst, ◌∙◌}
use mathlib.Core.Bool.{Bool, true, not}
use mathlib.Core.List.{List, [], ◌∷◌}
use Prim.Native.Nat.{ℕ, zero, suc, ◌+◌, ◌-◌, ◌≤◌, ◌<◌}
use native.Mathlib.Decide.{dec_lt}
use native.Mathlib.Omega.{arith}
use borrow.Author.Tests.{le-leb, lt-leb, le-ltb, lt-ltb}
use lib.Dec.{leb, ltb}
use lib.ListN.{length, get_or, take, drop, replicate}
use lib.Seq.{take-nil, drop-nil}
use Rattle.changes.specs.Lists.{All}
use Rattle.answers.specs.Check.{Check}
use Rattle.std.proofs.Common.{Ok}
use Rattle.answers.specs.declared.call.Reset.TheVariants.{Load as LoadCall}
use Rattle.answers.proofs.Firsts.{first_not}
use Rattle.image.specs.Image.{number_in}
use Rattle.formats.specs.Formats.{is_of_format, map_in}
use Rattle.layout.specs.Clauses.{are_lengths}
use Rattle.views.specs.View.{Store, view_table, encode, Good}
use Rattle.snapshot.specs.Snapshots.{load_check}
use Rattle.snapshot.specs.Fresh.{fresh_head}
use Rattle.snapshot.specs.FreshView.{fresh_view}
use Rattle.snapshot.proofs.ImagesAccepted.{load_ok}
use Rattle.snapshot.proofs.OnViews.{load_leaves}
use Rattle.history.specs.Plain.{Test, met, first_of, closed, least_of, Line, lists_between, Load, load_checked, loaded_plain}
use Rattle.history.specs.Traces.{nothing, lent_with, store_in, lengths_of}
use Rattle.calls.specs.Lent.{Left, settled_by}
use Rattle.calls.specs.Meaning.{reset_of}
use Rattle.history.proofs.Stored.{store_of, verdict_of, verdict_of_lem}
use Rattle.history.proofs.Outstanding.{Kept, Outstanding, of_closed}
use Rattle.history.proofs.Views.{view_of, Fit}

between_none : (l : Line) (a b : ℕ) → l.lists ≡ [] → lists_between l a b ≡ []
unfolding lists_between
between_none l a b e =
    ap (λ (ds : List (List ℕ)). take (b - a) (drop (a - l.start) ds)) e
    ∙ ap (take (b - a)) (drop-nil (a - l.start))
    ∙ take-nil (b - a)

-- not up to a number is above it
not_up_to : (m n : ℕ) → not (leb m n) ≡ ltb n m
not_up_to m n = go (dec_lt n m)
  where
    go : Dec (n < m) → not (leb m n) ≡ ltb n m
    go (yes h) = ap not (lt-leb m n h) ∙ sym (lt-ltb n m h)
    go (no h) = let low : m ≤ n = omega arith in ap not (le-leb m n low) ∙ sym (le-ltb n m low)

-- what a load leaves, by its check
abbrev pub loaded_by : Check → Store → Load → Left
loaded_by c s load =
    let l = lent_with s [] load.bytes in
    settled_by c (reset_of l (LoadCall load.depth load.format)).accepted l

module _ (lent : Store) (load : Load) (range : are_lengths (length lent.table) (length lent.journal) ≡ true) where
  abbrev image_tests : List Test
  image_tests =
      met (not (is_of_format load.format load.bytes)) 15
      ∷ met (ltb (length lent.table) (length (map_in load.format load.bytes))) 16
      ∷ []

  -- ground 1 does not arise, and 20, 15 and 16 are the plain list's
  pub load_checks : verdict_of (load_check lent.table lent.journal load.depth load.format load.bytes)
      ≡ load_checked (lengths_of lent) load
  load_checks =
      ap verdict_of (first_not _ _ _ (ap not range))
      ∙ verdict_of_lem _
      ∙ ap (λ (t : Bool). first_of (met t 20 ∷ image_tests)) (not_up_to load.depth 63)

  abbrev words : List ℕ
  words = map_in load.format load.bytes

  abbrev number : ℕ
  number = number_in load.bytes

  -- the view of one state
  first_map : get_or (words ∷ []) (number - number) [] ≡ words
  first_map =
      let none : number - number ≡ 0 = omega arith in
      ap (λ (k : ℕ). get_or (words ∷ []) k []) none

  fresh_view_lem : fresh_view words number load.depth (lengths_of lent) ≡ view_of (loaded_plain (lengths_of lent) load)
  unfolding fresh_view view_of least_of
  fresh_view_lem i =
      let l = (loaded_plain (lengths_of lent) load).line in
      view_table (fresh_view words number load.depth (lengths_of lent))
      (sym first_map i)
      (sym (between_none l number number refl) i)
      (sym (between_none l number (number + 0) refl) i)
      number

  module _ (e : load_check lent.table lent.journal load.depth load.format load.bytes ≡ (Ok tt)) where
    pub load_after : store_in (loaded_by (Ok tt) lent load).lent ≡ store_of (loaded_plain (lengths_of lent) load)
    load_after =
        (load_leaves lent.table lent.journal load.depth load.format load.bytes e).is
        ∙ ap (encode (fresh_head 0 0 0)) fresh_view_lem

    pub load-Fit : Fit (loaded_plain (lengths_of lent) load)
    unfolding least_of All
    load-Fit =
        record {
          range = range;
          whole = record {
            count = refl;
            first = (load_ok (length lent.table) (length lent.journal) load.depth load.format load.bytes e).map;
            lists = tt;
            next = λ k h. absurd (omega arith);
          };
          low = omega arith;
          high = omega arith;
          good = subst Good fresh_view_lem (load_leaves lent.table lent.journal load.depth load.format load.bytes e).good;
        }

-- no read set is out
closed_at : (n slot : ℕ) → get_or (replicate n closed) slot closed ≡ closed
closed_at zero slot = refl
closed_at (suc n) zero = refl
closed_at (suc n) (suc slot) = closed_at n slot

pub no_sets : (lent : Store) (load : Load) → Outstanding (loaded_plain (lengths_of lent) load) (replicate 8 nothing)
no_sets lent load =
    let l = (loaded_plain (lengths_of lent) load).line in
    let c = number_in load.bytes in
    record {
      eight = refl;
      each = λ slot.
          let x = get_or (replicate 8 nothing) slot nothing in
          subst (Kept l c x) (sym (closed_at 8 slot)) (of_closed l c x);
    }
