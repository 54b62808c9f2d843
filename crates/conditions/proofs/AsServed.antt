-- A C function does what `serve` does.
-- Assumes nothing.
use mathlib.Core.Path.{◌≡◌, refl, sym, ap, ◌∙◌}
use mathlib.Core.Bool.{Bool, true, false, cond}
use mathlib.Core.List.{List}
use Prim.Native.Nat.{ℕ}
use native.Mathlib.Omega.{arith}
use Rattle.answers.specs.Check.{Answered}
use Rattle.answers.specs.declared.call.Call.{Call}
use Rattle.answers.specs.declared.call.Call.TheVariants.{Reset, Step, Read, Ask}
use Rattle.answers.specs.declared.call.Query.{Query}
use Rattle.answers.specs.Answers.{Said, is_accepted}
use Rattle.unit.specs.Serve.{Reply}
use Rattle.calls.specs.Meaning.{performed}
use Rattle.head_words.specs.HeadWords.{head_of, words_of, is_head}
use Rattle.head_words.proofs.Theorems.{words_back}
use Rattle.unit.specs.Carried.{Asked, lent_to}
use Rattle.lent.specs.Codes.{code_of, value_of, since_of}
use Rattle.lent.specs.Lent.{is_fit, tally_words}
use Rattle.conditions.specs.CCalls.{Memory, carried_in, Result, ChangesStore, AnswersQuery, Promise, CallOfC, lends_tally, AsServed}
use Rattle.conditions.specs.Runs.{lending}
use Rattle.conditions.specs.Serving.{Seen, CallOfServe}
use Rattle.conditions.proofs.CCalls.{answer_on, table_on, journal_on, tally_on_lem, code_is, words_are, bytes_are}
use Rattle.conditions.proofs.CCalls.{code_asked, value_asked, since_asked}
use Rattle.conditions.proofs.CCalls.{words_asked, bytes_asked, query_left}

-- one of two that are the same
same_either : (t : Bool) (x y : List ℕ) → x ≡ y → y ≡ cond t x y
same_either true x y e = sym e
same_either false x y e = refl

module _ (m : Memory) (words bytes : List ℕ) (r : Result) (s : Seen) where
  changed : (call : Call) → is_fit m.head call ≡ true → lends_tally call ≡ true → ChangesStore m words bytes r call
      → CallOfServe (carried_in m) (lending call words bytes) s
      → AsServed m (lending call words bytes) r s
  changed call fit lends p serves =
      record {
        code = code_is m words bytes r call p fit ∙ ap code_of (sym serves.0.1);
        table = p.0.1 ∙ table_on m words bytes call fit ∙ sym serves.2;
        journal = p.0.2 ∙ journal_on m words bytes call fit ∙ sym serves.3;
        words = words_are m words bytes r call p fit ∙ sym serves.4;
        bytes = bytes_are m words bytes r call p fit ∙ sym serves.5;
        head = p.0.3
            ∙ ap (λ (a : Answered). cond (is_accepted a)
            (words_of (performed (lent_to (carried_in m) (lending call words bytes)) call).lent.head)
            m.head) (answer_on m words bytes call fit)
            ∙ sym (ap (λ (x : Reply). cond (is_accepted x.answer) (words_of x.head) m.head) serves.0.0);
        tally = λ lent. p.0.4 ∙ tally_on_lem m words bytes call fit ∙ ap tally_words (sym serves.1);
        value = λ asks. absurd (let z : ◌≡◌ {A = Bool} true false = sym lends ∙ asks in let z : ◌≡◌ {A = ℕ} 0 1 = cc in omega arith);
        since = λ asks. absurd (let z : ◌≡◌ {A = Bool} true false = sym lends ∙ asks in let z : ◌≡◌ {A = ℕ} 0 1 = cc in omega arith);
      }

  asked : (query : Query) → is_head m.head ≡ true → AnswersQuery m words bytes r query
      → CallOfServe (carried_in m) (lending (Ask query) words bytes) s
      → words_of (head_of m.head) ≡ m.head → AsServed m (lending (Ask query) words bytes) r s
  asked query e p serves back =
      let l = lent_to (carried_in m) (lending (Ask query) words bytes) in
      let left = query_left l query in
      record {
        code = code_asked m words bytes r query p e ∙ ap code_of (sym serves.0.1);
        table = ap (λ (x : Memory). x.table) p.3 ∙ sym left.0 ∙ sym serves.2;
        journal = ap (λ (x : Memory). x.journal) p.3 ∙ sym left.1 ∙ sym serves.3;
        words = words_asked m words bytes r query p e ∙ sym serves.4;
        bytes = bytes_asked m words bytes r query p e ∙ sym serves.5;
        head = ap (λ (x : Memory). x.head) p.3
            ∙ same_either (is_accepted s.reply.answer) (words_of s.reply.head) m.head
            (ap (λ (x : Reply). words_of x.head) serves.0.0 ∙ ap words_of left.2 ∙ back);
        tally = λ lent. absurd (let z : ◌≡◌ {A = ℕ} 0 1 = cc in omega arith);
        value = λ asks. value_asked m words bytes r query p e ∙ ap (λ (x : Said). value_of x r.before) (sym serves.0.1);
        since = λ asks. since_asked m words bytes r query p e ∙ ap (λ (x : Said). since_of x r.since_before) (sym serves.0.1);
      }

pub as_served : (m : Memory) (a : Asked) (r : Result) (s : Seen)
    → CallOfC m a r → is_fit m.head a.call ≡ true → CallOfServe (carried_in m) a s → AsServed m a r s
as_served m a r s c e serves = by_call a.call e c.promise serves
  where
    by_call : (call : Call) → is_fit m.head call ≡ true → Promise m a.words a.bytes r call
        → CallOfServe (carried_in m) (lending call a.words a.bytes) s
        → AsServed m (lending call a.words a.bytes) r s
    by_call (Reset call) e p v = changed m a.words a.bytes r s (Reset call) e refl p v
    by_call (Step call) e p v = changed m a.words a.bytes r s (Step call) e refl p v
    by_call (Read call) e p v = changed m a.words a.bytes r s (Read call) e refl p v
    by_call (Ask query) e p v = asked m a.words a.bytes r s query e p v (words_back m.head c.head_words e)
