-- A sound store is the encoding of its view; the encoding of a good view is sound, and decodes to the view.
-- Assumes nothing.
use mathlib.Core.Path.{◌≡◌, refl, sym, ap, ap₂, subst, ◌∙◌}
use mathlib.Core.Bool.{true}
use mathlib.Core.List.{List, ◌++◌, map}
use Prim.Native.Nat.{ℕ, ◌+◌, ◌-◌, ◌<◌}
use native.Mathlib.Omega.{arith}
use lib.ListN.{length, take, drop, replicate, length-append, length-drop, length-map, take-append-drop}
use lib.Seq.{length-take-le, take-append_seam, drop-append_seam}
use Rattle.changes.specs.Lists.{Map}
use Rattle.changes.specs.Runs.{run_of}
use Rattle.layout.specs.declared.head.Head.{Head}
use Rattle.layout.specs.Heads.{with_table, with_steps, with_slots, with_floor}
use Rattle.layout.specs.States.{held_of}
use Rattle.layout.specs.Clauses.{is_journal, is_slot}
use Rattle.views.specs.Laid.{laid_words, laid_marks, Fits}
use Rattle.views.specs.View.{View, held_steps, open_of, issued_of, slots_of, encode, decode, Good, Shaped}
use Rattle.views.proofs.SlotLists.{slots_again, least_slots, slots_pass, taken_again, numbers_again, least_again}
use Rattle.views.proofs.SlotLists.{slots_below, slots_length}
use Rattle.soundness.specs.Facts.{Sound}
pub use Rattle.views.proofs.Laid.{padded-length}
use Rattle.views.proofs.Laid.{padded_is, padded_zeros, run_count, laid_back, read_fits, laid_long, laid_sound, laid_again}

-- a sound store
module _ (table journal : List ℕ) (head : Head) (p : Shaped head) (s : Sound table journal head) where
  abbrev all : List (List ℕ)
  all = run_of journal head.ends 0 (held_of head)

  abbrev before : ℕ
  before = head.checkpoint - head.oldest

  all_long : length all ≡ held_of head
  all_long = run_count journal head.ends (held_of head) 0

  old_long : length (take before all) ≡ before
  old_long = length-take-le before all (omega (arith, all_long, s.low, s.high))

  rest_long : length (drop before all) ≡ held_of head - before
  rest_long = length-drop before all ∙ ap (λ (n : ℕ). n - before) all_long

  whole : take before all ++ drop before all ≡ all
  whole = take-append-drop before all

  journal_is : laid_words (length journal) (take before all ++ drop before all) ≡ journal
  journal_is =
      ap (laid_words (length journal)) whole
      ∙ (laid_back journal head.ends (held_of head) s.lists p.ends_64 s.few).0

  ends_are : laid_marks (take before all ++ drop before all) ≡ head.ends
  ends_are = ap laid_marks whole ∙ (laid_back journal head.ends (held_of head) s.lists p.ends_64 s.few).1

  slot_passes : (k : ℕ) → k < length head.taken → is_slot head.checkpoint head.taken head.issued k ≡ true
  slot_passes k h = s.slots k (omega (arith, p.taken_8))

  pub restored : encode head (decode (record { table = table; journal = journal; head = head }))
      ≡ record { table = table; journal = journal; head = head }
  unfolding encode decode
  restored i =
      record {
        table = padded_is table head.used s.used_in s.table_zeros i;
        journal = journal_is i;
        head =
            with_floor
            (with_slots (with_steps (with_table head (used-is i) head.checkpoint) (tip-is i) head.ends) (taken_is i) (issued-is i))
            (oldest-is i)
            (ends_are i);
      }
    where
      used-is : length (take head.used table) ≡ head.used
      used-is = length-take-le head.used table s.used_in

      taken_is : map open_of (slots_of head.taken head.issued) ≡ head.taken
      taken_is = taken_again head.checkpoint head.taken head.issued

      issued-is : map issued_of (slots_of head.taken head.issued) ≡ head.issued
      issued-is = numbers_again head.checkpoint head.taken head.issued (p.taken_8 ∙ sym p.issued_8) slot_passes

      oldest-is : head.checkpoint - length (take before all) ≡ head.oldest
      oldest-is = omega (arith, old_long, s.low)

      tip-is : head.checkpoint + length (drop before all) ≡ head.tip
      tip-is = omega (arith, rest_long, s.low, s.high)

  pub decoded_Good : Good (decode (record { table = table; journal = journal; head = head }))
  unfolding decode
  decoded_Good =
      record {
        map = s.map;
        room = omega (arith, length-take-le head.used table s.used_in, s.used_in);
        held =
            subst (Fits (length journal)) (sym whole)
            (read_fits journal head.ends (held_of head) s.lists p.ends_64 s.few);
        eight = slots_length head.taken head.issued ∙ p.taken_8;
        below = slots_below head.checkpoint head.taken head.issued (p.taken_8 ∙ sym p.issued_8) slot_passes;
        since = omega (arith, old_long);
        floor = oldest-is ∙ s.oldest ∙ least_again head.checkpoint head.taken head.issued (p.taken_8 ∙ sym p.issued_8);
        deep = s.deep;
      }
    where
      oldest-is : head.checkpoint - length (take before all) ≡ head.oldest
      oldest-is = omega (arith, old_long, s.low)

-- a good view
module _ (h : Head) (v : View) (g : Good v) where
  held_is : (v.checkpoint + length v.steps) - (v.checkpoint - length v.old) ≡ length (held_steps v)
  held_is = omega (arith, length-append v.old v.steps, g.since)

  abbrev J : List ℕ
  J = laid_words v.limits.journal (held_steps v)

  abbrev E : List ℕ
  E = laid_marks (held_steps v)

  long : (length J ≡ v.limits.journal) × (length E ≡ 64)
  long = laid_long v.limits.journal (held_steps v) g.held

  pub encoded_Shaped : Shaped (encode h v).head
  unfolding encode
  encoded_Shaped =
      record {
        taken_8 = length-map v.slots open_of ∙ g.eight;
        issued_8 = length-map v.slots issued_of ∙ g.eight;
        ends_64 = long.1;
      }

  pub encoded_Sound : Sound (encode h v).table (encode h v).journal (encode h v).head
  unfolding encode
  encoded_Sound =
      record {
        used_in = omega (arith, padded-length v.limits.table v.base g.room, g.room);
        map = subst Map (sym (take-append_seam v.base (replicate (v.limits.table - length v.base) 0))) g.map;
        table_zeros = padded_zeros v.limits.table v.base;
        low = omega arith;
        high = omega arith;
        few = omega (arith, held_is, g.held.few);
        lists = subst (λ (n : ℕ). is_journal J E n ≡ true) (sym held_is) (laid_sound v.limits.journal (held_steps v) g.held);
        slots = λ k i. slots_pass v.checkpoint v.slots g.below k (omega (arith, g.eight));
        oldest = g.floor ∙ sym (least_slots v.checkpoint v.slots);
        deep = g.deep;
      }

  pub decoded : decode (encode h v) ≡ v
  unfolding encode decode
  decoded i =
      record {
        base = take-append_seam v.base (replicate (v.limits.table - length v.base) 0) i;
        old = old-is i;
        steps = steps-are i;
        checkpoint = v.checkpoint;
        slots = slots_again v.slots i;
        limits = record {
          table = padded-length v.limits.table v.base g.room i;
          journal = long.0 i;
        };
        depth = v.depth;
      }
    where
      before : v.checkpoint - (v.checkpoint - length v.old) ≡ length v.old
      before = omega (arith, g.since)

      run_is : run_of J E 0 ((v.checkpoint + length v.steps) - (v.checkpoint - length v.old)) ≡ held_steps v
      run_is = ap (run_of J E 0) held_is ∙ laid_again v.limits.journal (held_steps v)

      old-is : take (v.checkpoint - (v.checkpoint - length v.old))
          (run_of J E 0 ((v.checkpoint + length v.steps) - (v.checkpoint - length v.old))) ≡ v.old
      old-is = ap₂ take before run_is ∙ take-append_seam v.old v.steps

      steps-are : drop (v.checkpoint - (v.checkpoint - length v.old))
          (run_of J E 0 ((v.checkpoint + length v.steps) - (v.checkpoint - length v.old))) ≡ v.steps
      steps-are = ap₂ drop before run_is ∙ drop-append_seam v.old v.steps

-- a head that a view was put into tells the same besides
pub reframed : (h : Head) (v w : View) → encode (encode h v).head w ≡ encode h w
unfolding encode
reframed h v w = refl
