-- Clear and load, on views: what an accepted call leaves is the encoding of a view with one state, which is sound.
-- Assumes nothing.
use mathlib.Core.Path.{◌≡◌, refl, sym, ap, subst, ◌∙◌}
use mathlib.Core.List.{List, []}
use Prim.Native.Nat.{ℕ, ◌≤◌}
use native.Mathlib.Nat.{sub-zero, add-zero}
use native.Mathlib.Omega.{arith}
use lib.ListN.{length, replicate}
use Rattle.changes.specs.Lists.{From, All, Map}
use Rattle.std.proofs.Common.{Ok}
use Rattle.answers.specs.declared.call.Format.{Format}
use Rattle.image.specs.Image.{number_in}
use Rattle.formats.specs.Formats.{map_in}
use Rattle.layout.specs.Heads.{with_steps, with_floor}
use Rattle.views.specs.View.{Store, Limits, least_slot, flat, marks_from, padded, encode, decode, Good}
use Rattle.soundness.specs.Facts.{Sound}
use Rattle.views.proofs.Encodes.{Encodes}
use Rattle.views.proofs.Views.{encoded_Sound, decoded}
use Rattle.snapshot.specs.Snapshots.{load_check}
use Rattle.snapshot.specs.Fresh.{fresh_head}
use Rattle.snapshot.specs.FreshView.{fresh_view}
use Rattle.snapshot.proofs.ImagesAccepted.{LoadOk, load_ok}

-- the memory of a store with one state
abbrev pub fresh_store : List ℕ → ℕ → ℕ → Limits → Store
fresh_store words number depth limits = record {
  table = padded limits.table words;
  journal = replicate limits.journal 0;
  head = fresh_head (length words) number depth;
}

module _ (words : List ℕ) (number depth : ℕ) (limits : Limits) where
  pub fresh_encoded : encode (fresh_head 0 0 0) (fresh_view words number depth limits) ≡ fresh_store words number depth limits
  unfolding encode fresh_view fresh_head flat marks_from
  fresh_encoded i =
      let fresh = fresh_head (length words) number depth in
      record {
        table = padded limits.table words;
        journal = replicate (sub-zero limits.journal i) 0;
        head = with_steps (with_floor fresh (sub-zero number i) fresh.ends) (add-zero number i) fresh.ends;
      }

  pub fresh_Good : Map words → length words ≤ limits.table → depth ≤ 63 → Good (fresh_view words number depth limits)
  unfolding fresh_view flat All least_slot
  fresh_Good m h d =
      record {
        map = m;
        room = h;
        held = record { each = tt; few = omega arith; words = omega arith };
        eight = refl;
        below = (tt, (tt, (tt, (tt, (tt, (tt, (tt, (tt, tt))))))));
        since = omega arith;
        floor = sub-zero number;
        deep = d;
      }

-- a store with one state is sound, and its view is what was put in
module _ (words : List ℕ) (number depth : ℕ) (limits : Limits) (m : Map words) (h : length words ≤ limits.table) (d : depth ≤ 63) where
  pub fresh_Sound : Sound (fresh_store words number depth limits).table (fresh_store words number depth limits).journal
      (fresh_store words number depth limits).head
  fresh_Sound =
      subst (λ (s : Store). Sound s.table s.journal s.head) (fresh_encoded words number depth limits)
      (encoded_Sound (fresh_head 0 0 0) (fresh_view words number depth limits) (fresh_Good words number depth limits m h d))

  pub fresh_decoded : decode (fresh_store words number depth limits) ≡ fresh_view words number depth limits
  fresh_decoded =
      ap decode (sym (fresh_encoded words number depth limits))
      ∙ decoded (fresh_head 0 0 0) (fresh_view words number depth limits) (fresh_Good words number depth limits m h d)

-- what lies in memory after each accepted call, and that it is sound
abbrev pub limits_of : List ℕ → List ℕ → Limits
limits_of table journal = record { table = length table; journal = length journal }

module _ (table journal : List ℕ) (depth : ℕ) where
  pub clear_leaves : depth ≤ 63 →
      Encodes (record { table = replicate (length table) 0; journal = replicate (length journal) 0; head = fresh_head 0 0 depth })
      (fresh_head 0 0 0)
      (fresh_view [] 0 depth (limits_of table journal))
  unfolding From All
  clear_leaves d =
      record {
        is = (λ i. record { table = zeros i; journal = replicate (length journal) 0; head = fresh_head 0 0 depth })
            ∙ sym (fresh_encoded [] 0 depth (limits_of table journal));
        good = fresh_Good [] 0 depth (limits_of table journal) (record { rises = tt; puts = tt }) (omega arith) d;
      }
    where
      zeros : replicate (length table) 0 ≡ padded (length table) []
      zeros = ap (λ (n : ℕ). replicate n 0) (sym (sub-zero (length table)))

  module _ (format : Format) (bytes : List ℕ) (e : load_check table journal depth format bytes ≡ (Ok tt)) where
    abbrev loaded : Store
    loaded = fresh_store (map_in format bytes) (number_in bytes) depth (limits_of table journal)

    ok : LoadOk (length table) (length journal) depth format bytes
    ok = load_ok (length table) (length journal) depth format bytes e

    -- "Loading gives floor, anchor and tip that number and no open place", and the map
    pub load_leaves : Encodes loaded (fresh_head 0 0 0) (fresh_view (map_in format bytes) (number_in bytes) depth (limits_of table journal))
    load_leaves =
        record {
          is = sym (fresh_encoded (map_in format bytes) (number_in bytes) depth (limits_of table journal));
          good = fresh_Good (map_in format bytes) (number_in bytes) depth (limits_of table journal) ok.map ok.room ok.deep;
        }
