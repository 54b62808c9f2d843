-- What a call leaves, from what its own contract promises of each memory.
-- Assumes nothing.
use mathlib.Core.Path.{◌≡◌, refl, ap, ◌∙◌}
use mathlib.Core.List.{List}
use Prim.Native.Nat.{ℕ}
use Rattle.answers.specs.Check.{Check, Answered}
use Rattle.std.proofs.Common.{Ok, Err}
use Rattle.answers.specs.declared.answer.Answer.TheVariants.{Done}
use Rattle.answers.specs.Answers.{answered, Gives, Checks}
use Rattle.answers.proofs.Firsts.{gives}
use Rattle.answers.specs.First.{if_passed}
use Rattle.layout.specs.declared.head.Head.{Head}
use Rattle.calls.specs.Lent.{Lent, Left, Meaning, check_of, settled_by, settled, Performs}

-- a memory that the call does not touch
pub kept {ℓ} : {A : Type ℓ} (c : Check) (x : A) → x ≡ if_passed c x x
kept (Ok tt) x = refl
kept (Err r) x = refl

by_check : (c : Check) (made : Left) (l : Lent) {answer : Answered} {table journal words bytes : List ℕ} {head : Head}
    → Gives answer (answered c made.answer)
    → table ≡ if_passed c made.lent.table l.table
    → journal ≡ if_passed c made.lent.journal l.journal
    → words ≡ if_passed c made.lent.words l.words
    → bytes ≡ if_passed c made.lent.bytes l.bytes
    → head ≡ if_passed c made.lent.head l.head
    → Performs (settled_by c made l) answer table journal words bytes head
by_check (Ok tt) made l g t j w b h = (g, t, j, w, b, h)
by_check (Err r) made l g t j w b h = (g, t, j, w, b, h)

pub settles : (m : Meaning) (l : Lent) {answer : Answered} {table journal words bytes : List ℕ} {head : Head}
    → Gives answer (answered (check_of m) m.accepted.answer)
    → table ≡ if_passed (check_of m) m.accepted.lent.table l.table
    → journal ≡ if_passed (check_of m) m.accepted.lent.journal l.journal
    → words ≡ if_passed (check_of m) m.accepted.lent.words l.words
    → bytes ≡ if_passed (check_of m) m.accepted.lent.bytes l.bytes
    → head ≡ if_passed (check_of m) m.accepted.lent.head l.head
    → Performs (settled m l) answer table journal words bytes head
settles m l = by_check (check_of m) m.accepted l

-- the answer of a call that says no more than that it is done, from its check
pub done_by : {check made : Check} {answer : Answered} → answer ≡ answered made (Ok Done) → Checks made check
    → Gives answer (answered check (Ok Done))
done_by e k = gives (e ∙ ap (λ (c : Check). answered c (Ok Done)) k.0)
