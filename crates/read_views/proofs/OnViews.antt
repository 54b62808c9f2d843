-- The calls on views: a lookup reads the map of the state named, and an issue leaves the view with its slot holding the checkpoint.
-- Assumes nothing.
use mathlib.Core.Path.{◌≡◌, refl, sym, ap, ◌∙◌}
use mathlib.Core.Bool.{false}
use mathlib.Core.List.{List, map}
use Prim.Native.Nat.{ℕ, ◌-◌}
use native.Mathlib.Omega.{arith}
use lib.ListN.{take, get_or, set, length-set}
use Rattle.changes.specs.ReadSets.{read_of}
use Rattle.answers.specs.declared.call.LookUp.{LookUp}
use Rattle.answers.specs.declared.call.Reader.{Reader}
use Rattle.std.proofs.Common.{Ok}
use Rattle.layout.specs.declared.head.Head.{Head}
use Rattle.layout.specs.States.{steps_between, map_here}
use Rattle.layout.specs.Heads.{with_slots}
use Rattle.views.specs.View.{Store, View, holding, encode, decode, map_at, open_of, NotAbove, Good, Shaped}
use Rattle.views.proofs.Setters.{good_slots}
use Rattle.views.proofs.States.{steps_since, map_is}
use Rattle.views.proofs.Encodes.{Encodes}
use Rattle.views.proofs.Views.{restored, decoded_Good}
use Rattle.issues.specs.Issue.{issue_check}
use Rattle.lookups.specs.LookUp.{look_up_check}
use Rattle.read_views.specs.OnView.{with_slot}
use Rattle.slots.specs.Slots.{opened}
use Rattle.lookups.proofs.LookUpAccepted.{LookUpOk, look_up_ok}
use Rattle.issues.proofs.IssueAccepted.{IssueOk, issue_ok}
use Rattle.read_views.proofs.SlotSets.{taken_set, issued_set, all_set, least_set}

module _ (table journal : List ℕ) (head : Head) where
  abbrev here : Store
  here = record { table = table; journal = journal; head = head }

  -- a lookup reads the map of the state named
  module _ (asked : LookUp) (e : look_up_check table journal head asked ≡ (Ok tt)) where
    ok : LookUpOk table journal head asked
    ok = look_up_ok table journal head asked e

    pub look_up_shows : map_here table journal head asked.state ≡ map_at (decode here) asked.state
    look_up_shows = map_is table journal head ok.sound asked.state ok.low ok.high

    -- and says since when from the steps of the view that lead to it
    pub look_up_steps :
        steps_between journal head head.checkpoint asked.state ≡ take (asked.state - head.checkpoint) (decode here).steps
    look_up_steps = steps_since table journal head ok.sound asked.state ok.low ok.high

  -- an issue opens its slot in the view and changes nothing else of it
  module _ (p : Shaped head) (reader : Reader) (list : List ℕ) (e : issue_check table journal head reader list ≡ (Ok tt)) where
    abbrev slot : ℕ
    slot = reader.slot

    iss : IssueOk table journal head reader list
    iss = issue_ok table journal head reader list e

    back : encode head (decode here) ≡ here
    back = restored table journal head p iss.sound

    abbrev open_in : Store → Store
    open_in s = record { table = s.table; journal = s.journal; head = opened s.head slot }

    set_encoded : (v : View) → open_in (encode head v) ≡ encode head (with_slot v slot (holding v.checkpoint))
    unfolding encode opened with_slot
    set_encoded v i =
        record {
          table = (encode head v).table;
          journal = (encode head v).journal;
          head =
              with_slots (encode head v).head
              (taken_set v.slots slot (holding v.checkpoint) i)
              (issued_set v.slots slot (holding v.checkpoint) i);
        }

    opens : map open_of (decode here).slots ≡ head.taken
    unfolding encode
    opens = ap (λ (s : Store). s.head.taken) back

    free : get_or (map open_of (decode here).slots) slot false ≡ false
    free = ap (λ l. get_or l slot false) opens ∙ iss.free

    issue_Good : Good (with_slot (decode here) slot (holding head.checkpoint))
    unfolding with_slot decode
    issue_Good =
        let g = decoded_Good table journal head p iss.sound in
        good_slots (decode here) g (set (decode here).slots slot (holding head.checkpoint))
        (length-set (decode here).slots slot (holding head.checkpoint) ∙ g.eight)
        (all_set (NotAbove head.checkpoint) (decode here).slots slot (holding head.checkpoint) g.below (omega arith))
        (g.floor ∙ sym (least_set head.checkpoint (decode here).slots slot free))

    pub issue_leaves : Encodes (open_in here) head (with_slot (decode here) slot (holding head.checkpoint))
    unfolding decode
    issue_leaves = record { is = ap open_in (sym back) ∙ set_encoded (decode here); good = issue_Good }

    -- the list shows the prices in the map at the checkpoint
    pub issue_shows : read_of (take head.used table) list ≡ read_of (decode here).base list
    unfolding decode
    issue_shows = refl
