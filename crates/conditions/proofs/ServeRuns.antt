-- Runs of `serve` follow the plain list.
-- Assumes nothing.
use mathlib.Core.Path.{◌≡◌, refl, ap, ◌∙◌}
use mathlib.Core.Bool.{true}
use mathlib.Core.List.{List}
use Prim.Native.Nat.{ℕ}
use borrow.Author.Tests.{not-false}
use lib.ListN.{length}
use Rattle.answers.specs.Check.{Check}
use Rattle.std.proofs.Common.{Ok, Err}
use Rattle.answers.specs.declared.answer.Answer.TheVariants.{Done}
use Rattle.answers.specs.Answers.{said_by, answered}
use Rattle.answers.proofs.Firsts.{passed_not}
use Rattle.layout.specs.Clauses.{are_lengths}
use Rattle.views.specs.View.{Store}
use Rattle.snapshot.specs.Snapshots.{load_check}
use Rattle.calls.specs.Lent.{settled_by}
use Rattle.calls.specs.Meaning.{reset_of}
use Rattle.answers.specs.declared.call.Reset.TheVariants.{Load as LoadCall}
use Rattle.unit.specs.Carried.{Carried, lent_to}
use Rattle.history.specs.Named.{Transition, response_to}
use Rattle.history.specs.Plain.{Plain, Load, load_checked, loaded_plain}
use Rattle.history.specs.Traces.{Asked as AskedIn3, ReadSet, words_lent, store_in, store_transition}
use Rattle.history.proofs.Following.{agrees}
use Rattle.history.proofs.Loads.{loaded_by, load_checks, load_after, load-Fit, no_sets}
use Rattle.history.proofs.Outstanding.{Outstanding}
use Rattle.history.proofs.Stored.{store_of, verdict_of}
use Rattle.history.proofs.Views.{Fit}
use Rattle.conditions.specs.Runs.{lent_in}
use Rattle.conditions.specs.Serving.{Seen, CallOfServe, with_tally, CallOnStore, handed, tells, lengths_in, loading, said_of, Loads}
use Rattle.conditions.proofs.Serves.{passed}
use Rattle.conditions.proofs.Followed.{answered as answered_by, after, Started}

-- the store in what is carried
abbrev pub store_carried : Carried → Store
store_carried k = record { table = k.table; journal = k.journal; head = k.head }

abbrev pub Follows : Carried → Plain → Type 0
Follows k p = store_carried k ≡ store_of p

-- what is seen of a call is the unit's transition
module _ (k : Carried) (sets : List ReadSet) (a : AskedIn3) (s : Seen) (serves : CallOfServe k (lent_in sets a) s) where
  abbrev words : List ℕ
  words = words_lent sets a.call.named a.call.list a.words

  told_is : tells a.call.named s ≡ (store_transition (store_carried k) a.call words).response
  told_is i = response_to a.call.named (serves.0.1 i) (serves.4 i) (serves.5 i)

  left_is : store_carried (handed s) ≡ (store_transition (store_carried k) a.call words).next
  left_is i = record { table = serves.2 i; journal = serves.3 i; head = (serves.0.0 i).head }

pub steps : (k : Carried) (p : Plain) → Fit p → (sets : List ReadSet) → Outstanding p sets → (a : AskedIn3) (s : Seen)
    → Follows k p → CallOfServe k (lent_in sets a) s
    → (tells a.call.named s ≡ answered_by p a.call) × Follows (handed s) (after p a.call)
steps k p f sets o a s w serves =
    let c = a.call in
    let given = words_lent sets c.named c.list a.words in
    let same = ap (λ (x : Store). store_transition x c given) w ∙ agrees p f sets o c.named c.list c.bytes a.words in (
      told_is k sets a s serves ∙ ap (λ (t : Transition Store). t.response) same,
      left_is k sets a s serves ∙ ap (λ (t : Transition Store). t.next) same,
    )

-- whatever tally it is lent
pub store_steps : (k : Carried) (p : Plain) → Fit p → (sets : List ReadSet) → Outstanding p sets → (a : AskedIn3) (s : Seen)
    → Follows k p → CallOnStore k (lent_in sets a) s
    → (tells a.call.named s ≡ answered_by p a.call) × Follows (handed s) (after p a.call)
store_steps k p f sets o a s w on = steps (with_tally k on.tally) p f sets o a s w on.serves

-- an accepted load
module _ (k : Carried) (load : Load) (s : Seen) (loads : Loads k load s) where
  check : load_check k.table k.journal load.depth load.format load.bytes ≡ (Ok tt)
  check = passed k (loading loads.words load) s loads.serves loads.accepted

  range : are_lengths (length k.table) (length k.journal) ≡ true
  range = not-false _ (passed_not _ _ _ check).0

  loaded : store_carried (handed s) ≡ store_in (loaded_by (Ok tt) (store_carried k) load).lent
  loaded =
      (λ i. record { table = loads.serves.2 i; journal = loads.serves.3 i; head = (loads.serves.0.0 i).head })
      ∙ ap (λ (c : Check). store_in (settled_by c
      (reset_of (lent_to k (loading loads.words load)) (LoadCall load.depth load.format)).accepted
      (lent_to k (loading loads.words load))).lent) check

  pub starts : Started (loaded_plain (lengths_in k) load) × Follows (handed s) (loaded_plain (lengths_in k) load)
  starts = (
    record { fit = load-Fit (store_carried k) load range check; outstanding = no_sets (store_carried k) load },
    loaded ∙ load_after (store_carried k) load range check,
  )

-- a load by its check, accepted or refused
said_by_check : (c : Check) → said_by (answered c (Ok Done)) ≡ said_of (verdict_of c)
said_by_check (Ok tt) = refl
said_by_check (Err ground) = refl

pub loads_as_plain : (k : Carried) (words : List ℕ) (load : Load) (s : Seen)
    → are_lengths (length k.table) (length k.journal) ≡ true → CallOfServe k (loading words load) s
    → said_by s.reply.answer ≡ said_of (load_checked (lengths_in k) load)
loads_as_plain k words load s range serves =
    serves.0.1
    ∙ said_by_check (load_check k.table k.journal load.depth load.format load.bytes)
    ∙ ap said_of (load_checks (store_carried k) load range)
