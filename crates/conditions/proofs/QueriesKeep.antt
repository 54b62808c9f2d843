-- A query leaves tally, memory and head as they came.
-- Assumes nothing.
use mathlib.Core.Path.{◌≡◌, refl, ap, ◌∙◌}
use mathlib.Core.List.{List}
use Prim.Native.Nat.{ℕ}
use Rattle.answers.specs.Check.{Check}
use Rattle.std.proofs.Common.{Ok, Err}
use Rattle.answers.specs.declared.call.Call.TheVariants.{Ask}
use Rattle.answers.specs.declared.call.Query.{Query}
use Rattle.answers.specs.First.{if_passed}
use Rattle.unit.specs.Serve.{Reply}
use Rattle.calls.specs.Lent.{Lent, Asking, with_words, with_bytes, check_of}
use Rattle.calls.specs.Meaning.{query_of}
use Rattle.unit.specs.Carried.{Carried, lent_to}
use Rattle.conditions.specs.Runs.{lending}
use Rattle.conditions.specs.Serving.{Seen, CallOfServe, Of64Bits, handed}
use Rattle.conditions.proofs.Serves.{meant}
use Rattle.conditions.proofs.Tallies.{tallies}

-- whatever its check finds, other words and bytes are all that it leaves
module _ {ℓ} {A : Type ℓ} (part : Lent → A) (l : Lent) (words bytes : List ℕ)
    (same : part (with_bytes (with_words l words) bytes) ≡ part l) where
  kept_by : (c : Check) → part (if_passed c (with_bytes (with_words l words) bytes) l) ≡ part l
  kept_by (Ok tt) = same
  kept_by (Err ground) = refl

pub query_keeps : (k : Carried) (query : Query) (words bytes : List ℕ) (s : Seen)
    → Of64Bits k.tally → CallOfServe k (lending (Ask query) words bytes) s → handed s ≡ k
query_keeps k query words bytes s c serves i =
    record {
      tally = tallies.queries_keep k query words bytes s c serves i;
      table = (serves.2 ∙ kept_by (λ (x : Lent). x.table) l a.words a.bytes refl check) i;
      journal = (serves.3 ∙ kept_by (λ (x : Lent). x.journal) l a.words a.bytes refl check) i;
      head = (ap (λ (r : Reply). r.head) serves.0.0 ∙ kept_by (λ (x : Lent). x.head) l a.words a.bytes refl check) i;
    }
  where
    l : Lent
    l = lent_to k (lending (Ask query) words bytes)

    a : Asking
    a = query_of l query

    check : Check
    check = check_of (meant k (lending (Ask query) words bytes))
