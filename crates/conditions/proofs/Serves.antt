-- What is known of a call of `serve` that was accepted, and what would be seen of any.
-- Assumes nothing.
use mathlib.Core.Path.{◌≡◌, refl, sym, ap, ◌∙◌}
use mathlib.Core.Bool.{true}
use Prim.Native.Nat.{ℕ}
use native.Mathlib.Omega.{arith}
use Rattle.answers.specs.Check.{Answered}
use Rattle.answers.specs.Check.{Check}
use Rattle.std.proofs.Common.{Ok, Err}
use Rattle.answers.specs.Answers.{is_accepted, answered}
use Rattle.unit.specs.Serve.{Reply}
use Rattle.calls.specs.Lent.{Left, Meaning, check_of, settled_by}
use Rattle.calls.specs.Meaning.{meaning, performed}
use Rattle.unit.specs.Carried.{Carried, Asked, lent_to, next}
use Rattle.unit.specs.Serve.{reply_of, tally_on}
use Rattle.conditions.specs.Serving.{Seen, CallOfServe, handed}

-- what a call means on what is carried
abbrev pub meant : Carried → Asked → Meaning
meant k a = meaning (lent_to k a) a.call

-- a call that was accepted met none of its grounds
pub passed_by : (c : Check) (answer : Answered) → is_accepted (answered c answer) ≡ true → c ≡ (Ok tt)
passed_by (Ok tt) answer e = refl
passed_by (Err ground) answer e = absurd (let z : ◌≡◌ {A = ℕ} 0 1 = cc in omega arith)

-- what is seen of a call that met none of its grounds
pub record Done (made : Left) (s : Seen) : Type 0 where
  pub answer : s.reply.answer ≡ made.answer
  pub table : s.table ≡ made.lent.table
  pub journal : s.journal ≡ made.lent.journal
  pub words : s.words ≡ made.lent.words
  pub bytes : s.bytes ≡ made.lent.bytes
  pub head : s.reply.head ≡ made.lent.head

module _ (k : Carried) (a : Asked) (s : Seen) (serves : CallOfServe k a s) where
  pub passed : is_accepted s.reply.answer ≡ true → check_of (meant k a) ≡ (Ok tt)
  passed y =
      passed_by (check_of (meant k a)) (meant k a).accepted.answer
      (sym (ap (λ (r : Reply). is_accepted r.answer) serves.0.0) ∙ y)

  pub done : check_of (meant k a) ≡ (Ok tt) → Done (meant k a).accepted s
  done e =
      let by : Check → Left = λ (c : Check). settled_by c (meant k a).accepted (lent_to k a) in
      record {
        answer = ap (λ (r : Reply). r.answer) serves.0.0 ∙ ap (λ (c : Check). (by c).answer) e;
        table = serves.2 ∙ ap (λ (c : Check). (by c).lent.table) e;
        journal = serves.3 ∙ ap (λ (c : Check). (by c).lent.journal) e;
        words = serves.4 ∙ ap (λ (c : Check). (by c).lent.words) e;
        bytes = serves.5 ∙ ap (λ (c : Check). (by c).lent.bytes) e;
        head = ap (λ (r : Reply). r.head) serves.0.0 ∙ ap (λ (c : Check). (by c).lent.head) e;
      }

-- what would be seen of a call of `serve`
abbrev pub seen_of : Carried → Asked → Seen
seen_of k a =
    let left = performed (lent_to k a) a.call in
    record {
      reply = reply_of left;
      tally = tally_on k.tally (lent_to k a) a.call;
      table = left.lent.table;
      journal = left.lent.journal;
      words = left.lent.words;
      bytes = left.lent.bytes;
    }

pub serves_seen : (k : Carried) (a : Asked) → CallOfServe k a (seen_of k a)
serves_seen k a = ((refl, refl), refl, refl, refl, refl, refl)

pub next_is : (k : Carried) (a : Asked) → handed (seen_of k a) ≡ next k a
unfolding next
next_is k a = refl
