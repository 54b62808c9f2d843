-- Release and forward on views: the slot closes, the view is trimmed, and a forwarded read set has taken the steps from the slot's
-- number to the state.
-- Assumes nothing.
use mathlib.Core.Path.{◌≡◌, sym, ap, ap₂, ◌∙◌}
use mathlib.Core.Bool.{Bool, true, false}
use mathlib.Core.List.{List, map}
use Prim.Native.Nat.{ℕ, ◌-◌, ◌≤◌}
use native.Mathlib.Omega.{arith}
use lib.ListN.{length, take, drop, get_or, set, length-set, take-append-drop}
use Rattle.changes.specs.Calculus.{compose_all}
use Rattle.changes.specs.ReadSets.{over}
use Rattle.changes.specs.Runs.{run_of}
use Rattle.answers.specs.declared.call.Reader.{Reader}
use Rattle.std.proofs.Common.{Ok}
use Rattle.layout.specs.declared.head.Head.{Head}
use Rattle.layout.specs.Heads.{with_slots}
use Rattle.layout.specs.States.{held_of, step_index, steps_between}
use Rattle.views.specs.Trim.{trimmed}
use Rattle.views.specs.View.{Store, View, closed, holding, held_steps, encode, decode, open_of, issued_of, NotAbove, Good, Nearly, Shaped}
use Rattle.views.proofs.Setters.{good_slots}
use Rattle.soundness.specs.Facts.{Sound}
use Rattle.views.proofs.States.{run_middle}
use Rattle.views.proofs.Trims.{trim_store, trim_leaves, trim_Good}
use Rattle.views.proofs.Encodes.{Encodes}
use Rattle.views.proofs.Views.{restored, decoded_Good}
use Rattle.forwards.specs.Forward.{forward_check, steps_for}
use Rattle.read_views.specs.OnView.{with_slot, between}
use Rattle.releases.specs.Release.{release_check}
use Rattle.slots.specs.Slots.{closed_at}
use Rattle.releases.proofs.ReleaseAccepted.{release_ok}
use Rattle.forwards.proofs.ForwardAccepted.{ForwardOk, forward_ok}
use Rattle.slots.proofs.Closing.{number_low, number_high}
use Rattle.read_views.proofs.SlotSets.{taken_set, issued_set, all_set, least_closing, slot_there}

abbrev pub closed_in : ℕ → Store → Store
closed_in slot s = record { table = s.table; journal = s.journal; head = closed_at s.head slot }

closed_encoded : (h : Head) (v : View) (slot : ℕ) → closed_in slot (encode h v) ≡ encode h (with_slot v slot closed)
unfolding encode closed_at with_slot
closed_encoded h v slot i =
    record {
      table = (encode h v).table;
      journal = (encode h v).journal;
      head = with_slots (encode h v).head (taken_set v.slots slot closed i) (issued_set v.slots slot closed i);
    }

closed-Nearly : (v : View) (slot : ℕ) → Good v → Nearly (with_slot v slot closed)
unfolding with_slot
closed-Nearly v slot g =
    good_slots v g (set v.slots slot closed)
    (length-set v.slots slot closed ∙ g.eight)
    (all_set (NotAbove v.checkpoint) v.slots slot closed g.below tt)
    (omega (arith, g.floor, least_closing v.checkpoint v.slots slot))

module _ (table journal : List ℕ) (head : Head) (p : Shaped head) where
  abbrev here : Store
  here = record { table = table; journal = journal; head = head }

  -- the view after its slot has closed
  abbrev pub closed_view : ℕ → View
  closed_view slot = trimmed (with_slot (decode here) slot closed)

  module _ (s : Sound table journal head) where
    back : encode head (decode here) ≡ here
    back = restored table journal head p s

    closed_leaves : (slot : ℕ) → Encodes (trim_store (closed_in slot here)) head (closed_view slot)
    closed_leaves slot =
        let near = closed-Nearly (decode here) slot (decoded_Good table journal head p s) in
        record {
          is =
              ap (λ (t : Store). trim_store (closed_in slot t)) (sym back)
              ∙ ap trim_store (closed_encoded head (decode here) slot)
              ∙ trim_leaves head (with_slot (decode here) slot closed) near;
          good = trim_Good head (with_slot (decode here) slot closed) near;
        }

    floor : (decode here).checkpoint - length (decode here).old ≡ head.oldest
    unfolding encode
    floor = ap (λ (t : Store). t.head.oldest) back

    all_steps : held_steps (decode here) ≡ run_of journal head.ends 0 (held_of head)
    unfolding decode
    all_steps = take-append-drop (head.checkpoint - head.oldest) (run_of journal head.ends 0 (held_of head))

    -- the steps in memory are those of the view
    steps_are : (from to : ℕ) → head.oldest ≤ from → from ≤ to → to ≤ head.tip → steps_between journal head from to
        ≡ between (decode here) from to
    unfolding between
    steps_are from to a b c =
        let count : step_index head to - step_index head from ≡ to - from = omega arith in
        ap (run_of journal head.ends (step_index head from)) count
        ∙ sym (run_middle journal head.ends (held_of head) (step_index head from) (to - from) (omega arith))
        ∙ ap₂ (λ (n : ℕ) (l : List (List ℕ)). take (to - from) (drop (from - n) l)) (sym floor) (sym all_steps)

    slot_holds : (slot : ℕ) → get_or head.taken slot false ≡ true → get_or (decode here).slots slot closed
        ≡ holding (get_or head.issued slot 0)
    unfolding encode
    slot_holds slot e =
        let opens : map open_of (decode here).slots ≡ head.taken = ap (λ (t : Store). t.head.taken) back in
        let numbers : map issued_of (decode here).slots ≡ head.issued = ap (λ (t : Store). t.head.issued) back in
        slot_there (decode here).slots slot (ap (λ (l : List Bool). get_or l slot false) opens ∙ e)
        ∙ ap (λ (l : List ℕ). holding (get_or l slot 0)) numbers

  module _ (reader : Reader) (e : release_check table journal head reader ≡ (Ok tt)) where
    pub release_leaves : Encodes (trim_store (closed_in reader.slot here)) head (closed_view reader.slot)
    release_leaves = closed_leaves (release_ok table journal head reader e).sound reader.slot

  module _ (reader : Reader) (state : ℕ) (words : List ℕ) (e : forward_check table journal head reader state words ≡ (Ok tt)) where
    ok : ForwardOk table journal head reader state words
    ok = forward_ok table journal head reader state words e

    pub forward_leaves : Encodes (trim_store (closed_in reader.slot here)) head (closed_view reader.slot)
    forward_leaves = closed_leaves ok.sound reader.slot

    -- the slot holds its number, and the read set has taken the steps from that number to the state
    pub forward_slot : get_or (decode here).slots reader.slot closed ≡ holding (get_or head.issued reader.slot 0)
    forward_slot = slot_holds ok.sound reader.slot ok.taken

    pub forward_shows :
        over words (compose_all (steps_for journal head reader state))
        ≡ over words (compose_all (between (decode here) (get_or head.issued reader.slot 0) state))
    forward_shows =
        let low = number_low table journal head p ok.sound reader.slot ok.slot_in ok.taken in
        let high = number_high table journal head p ok.sound reader.slot ok.slot_in ok.taken in
        ap (λ (ds : List (List ℕ)). over words (compose_all ds))
        (steps_are ok.sound (get_or head.issued reader.slot 0) state low (omega (arith, ok.low)) ok.high)
