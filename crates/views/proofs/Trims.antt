-- Trimming on views: the encoding of a view whose floor lies too low becomes the encoding of the view without the steps below it.
-- Assumes nothing.
use mathlib.Core.Path.{◌≡◌, sym, ap, ap₂, subst, ◌∙◌}
use mathlib.Core.List.{List, ◌++◌, append_assoc}
use Prim.Native.Nat.{ℕ, ◌-◌, ◌≤◌}
use native.Mathlib.Omega.{arith}
use lib.ListN.{length, take, drop, replicate, length-append, length-drop, take-append-drop}
use lib.Seq.{length-take-le}
use Rattle.changes.specs.Runs.{start_of}
use Rattle.layout.specs.declared.head.Head.{Head}
use Rattle.layout.specs.Heads.{with_floor}
use Rattle.layout.specs.States.{held_of}
use Rattle.views.specs.Laid.{flat, laid_words, laid_marks, Fits}
use Rattle.views.specs.Trim.{floor_of, gone_steps, gone_words, moved_ends, trimmed_head, trimmed_journal, trimmed}
use Rattle.views.specs.View.{Store, View, held_steps, least_slot, encode, Good, Nearly}
use Rattle.views.proofs.SlotLists.{least_slots, least_most}
use Rattle.views.proofs.Laid.{laid_end, laid_moved, Fits-rest}
use Rattle.views.proofs.Setters.{good_old}

abbrev pub trim_store : Store → Store
trim_store s = record { table = s.table; journal = trimmed_journal s.head s.journal; head = trimmed_head s.head }

module _ (h : Head) (v : View) (g : Nearly v) where
  abbrev gone : ℕ
  gone = least_slot v.checkpoint v.slots - (v.checkpoint - length v.old)

  abbrev a : List (List ℕ)
  a = take gone v.old

  abbrev r : List (List ℕ)
  r = drop gone v.old ++ v.steps

  gone_most : gone ≤ length v.old
  gone_most = omega (arith, least_most v.checkpoint v.slots, g.since)

  a_long : length a ≡ gone
  a_long = length-take-le gone v.old gone_most

  split : held_steps v ≡ a ++ r
  split = ap (λ (l : List (List ℕ)). l ++ v.steps) (sym (take-append-drop gone v.old)) ∙ append_assoc a (drop gone v.old) v.steps

  abbrev room : ℕ
  room = v.limits.journal

  held_fits : Fits room (a ++ r)
  held_fits = subst (Fits room) split g.held

  held_is : held_of (encode h v).head ≡ length (a ++ r)
  unfolding encode
  held_is = omega (arith, length-append v.old v.steps, g.since, ap length split)

  floor_is : floor_of (encode h v).head ≡ v.checkpoint - length (drop gone v.old)
  unfolding encode
  floor_is =
      least_slots v.checkpoint v.slots
      ∙ omega (arith, length-drop gone v.old, least_most v.checkpoint v.slots, g.since, g.floor)

  gone_is : gone_steps (encode h v).head ≡ length a
  unfolding encode
  gone_is = ap (λ (n : ℕ). n - (v.checkpoint - length v.old)) (least_slots v.checkpoint v.slots) ∙ sym a_long

  words_are : gone_words (encode h v).head ≡ length (flat a)
  unfolding encode
  words_are = ap₂ (λ (l : List (List ℕ)) (n : ℕ). start_of (laid_marks l) n) split gone_is ∙ laid_end a r

  journal_is : trimmed_journal (encode h v).head (encode h v).journal ≡ laid_words room r
  unfolding encode trimmed_journal
  journal_is =
      ap₂ (λ (w : ℕ) (l : List (List ℕ)). drop w (laid_words room l) ++ replicate w 0) words_are split
      ∙ (laid_moved a r room held_fits).0

  ends_are :
      moved_ends (encode h v).head.ends (gone_steps (encode h v).head) (held_of (encode h v).head)
      (gone_words (encode h v).head) ≡ laid_marks r
  unfolding encode
  ends_are =
      ap₂ (λ (n w : ℕ). moved_ends (laid_marks (held_steps v)) n (held_of (encode h v).head) w) gone_is words_are
      ∙ ap₂ (λ (l : List (List ℕ)) (n : ℕ). moved_ends (laid_marks l) (length a) n (length (flat a))) split held_is
      ∙ (laid_moved a r room held_fits).1

  pub trim_leaves : trim_store (encode h v) ≡ encode h (trimmed v)
  unfolding encode trimmed trimmed_head
  trim_leaves i =
      record { table = (encode h v).table; journal = journal_is i; head = with_floor (encode h v).head (floor_is i) (ends_are i) }

  pub trim_Good : Good (trimmed v)
  unfolding trimmed
  trim_Good =
      good_old v g (drop gone v.old)
      (Fits-rest a r room held_fits)
      (omega (arith, length-drop gone v.old, g.since))
      (omega (arith, length-drop gone v.old, least_most v.checkpoint v.slots, g.since, g.floor))
