-- What a call on lent memory answers and leaves, where the words of the head do not fit and where they do.
-- Assumes nothing.
use mathlib.Core.Path.{◌≡◌, refl, sym, ap, ap₂, subst, ◌∙◌}
use mathlib.Core.Bool.{Bool, true, false, cond}
use mathlib.Core.List.{List}
use Prim.Native.Nat.{ℕ}
use lib.ListN.{length}
use Rattle.answers.specs.Check.{Answered}
use Rattle.std.proofs.Common.{Err}
use Rattle.answers.specs.declared.call.Call.{Call}
use Rattle.answers.specs.declared.call.Call.TheVariants.{Ask}
use Rattle.answers.specs.declared.call.Query.{Query}
use Rattle.answers.specs.declared.ground.Ground.TheVariants.{Lengths, Unsound}
use Rattle.answers.specs.declared.tally.Tally.{Tally}
use Rattle.answers.specs.Answers.{is_accepted, said_by, Gives}
use Rattle.answers.proofs.Firsts.{gives}
use Rattle.layout.specs.declared.head.Head.{Head}
use Rattle.layout.specs.Clauses.{are_lengths}
use Rattle.calls.specs.Lent.{Lent, lent, Performs}
use Rattle.calls.specs.Meaning.{performed}
use Rattle.unit.specs.Serve.{Reply, reply, reply_of, tally_on, Replies}
use Rattle.head_words.specs.HeadWords.{head_of, is_head, words_of}
use Rattle.lent.specs.Codes.{code_of, value_of, since_of}
use Rattle.lent.specs.Lent.{is_fit, unfit, tally_of, tally_words, answer_to, Leaves, Serves, words_after, Asks, Tells, TellsSince}
use Rattle.lent.proofs.Choices.{chosen, passed}

refused_by : (t : Bool) → is_accepted (cond t (Err Unsound) (Err Lengths)) ≡ false
refused_by true = refl
refused_by false = refl

module _ (table journal words bytes head tally : List ℕ) (call : Call) where
  pub not_served : {r : Answered} → is_fit head call ≡ false → Gives r (unfit (length table) (length journal))
      → Leaves table journal words bytes head tally call r table journal words bytes head tally
  not_served {r} unfits e =
      let answered : r ≡ answer_to table journal words bytes head tally call = e.0 ∙ sym (passed unfits _ _) in
      let away : is_accepted (answer_to table journal words bytes head tally call)
      ≡ false = ap is_accepted (sym answered ∙ e.0) ∙ refused_by (are_lengths (length table) (length journal)) in (
        gives answered,
        sym (passed unfits _ _),
        sym (passed unfits _ _),
        sym (passed unfits _ _),
        sym (passed unfits _ _),
        sym
            (passed away _ _),
        sym (passed unfits _ _),
      )

  pub was_served : {r : Answered} {u v : Head} {y z : Tally} {t j w b h a : List ℕ}
      → is_fit head call ≡ true
      → u ≡ head_of head
      → y ≡ tally_of tally
      → Replies y (lent table journal words bytes u) call (reply r v) z t j w b
      → h ≡ cond (is_accepted r) (words_of v) head
      → a ≡ tally_words z
      → Leaves table journal words bytes head tally call r t j w b h a
  was_served {r} {u} {v} {y} {z} fits eu ey es eh ea =
      let l : Head → Lent = λ x. lent table journal words bytes x in
      let whole : reply r v ≡ reply_of (performed (l (head_of head)) call) =
      es.0.0 ∙ ap (λ (x : Head). reply_of (performed (l x) call)) eu in
      let answered : r ≡ answer_to table journal words bytes head tally call =
      ap (λ (x : Reply). x.answer) whole ∙ sym (chosen fits _ _) in (
        gives answered,
        es.2 ∙ ap (λ (x : Head). (performed (l x) call).lent.table) eu ∙ sym (chosen fits _ _),
        es.3 ∙ ap (λ (x : Head). (performed (l x) call).lent.journal) eu ∙ sym (chosen fits _ _),
        es.4 ∙ ap (λ (x : Head). (performed (l x) call).lent.words) eu ∙ sym (chosen fits _ _),
        es.5 ∙ ap (λ (x : Head). (performed (l x) call).lent.bytes) eu ∙ sym (chosen fits _ _),
        eh ∙ ap₂ (λ (x : Answered) (p : Reply). cond (is_accepted x) (words_of p.head) head) answered whole,
        ea ∙ ap tally_words (es.1 ∙ ap₂ (λ (x : Tally) (p : Head). tally_on x (l p) call) ey eu) ∙ sym (chosen fits _ _),
      )

  -- the code in place of the answer, and the store alone
  pub serves : {r : Answered} {code : ℕ} {t j w b h a : List ℕ} → code ≡ code_of (said_by r)
      → Leaves table journal words bytes head tally call r t j w b h a → Serves table journal words bytes head tally call code t j h a
  serves coded left = (coded ∙ ap (λ (a : Answered). code_of (said_by a)) left.0.0, left.1, left.2, left.5, left.6)

-- what is promised of a call holds of the same call as another way of asking has it
module _ (table journal words bytes head tally : List ℕ) {c d : Call} (e : c ≡ d) where
  pub Serves-same : {code : ℕ} {t j h a : List ℕ}
      → Serves table journal words bytes head tally c code t j h a → Serves table journal words bytes head tally d code t j h a
  Serves-same {code} {t} {j} {h} {a} = subst (λ (x : Call). Serves table journal words bytes head tally x code t j h a) e

  pub words_same : {code : ℕ} {t j h a w : List ℕ}
      → Serves table journal words bytes head tally c code t j h a × (w ≡ words_after table journal words bytes head tally c)
      → Serves table journal words bytes head tally d code t j h a × (w ≡ words_after table journal words bytes head tally d)
  words_same kept = (Serves-same kept.0, kept.1 ∙ ap (words_after table journal words bytes head tally) e)

-- a query: where the head is not fit, and where it is
module _ (table journal words bytes head : List ℕ) (query : Query) where
  pub not_asked : {r : Answered} → is_head head ≡ false → Gives r (unfit (length table) (length journal))
      → Asks table journal words bytes head query r words bytes
  not_asked unfits e = (gives (e.0 ∙ sym (passed unfits _ _)), sym (passed unfits _ _), sym (passed unfits _ _))

  pub was_asked : {r : Answered} {u : Head} {w b : List ℕ}
      → is_head head ≡ true
      → u ≡ head_of head
      → Performs (performed (lent table journal words bytes u) (Ask query)) r table journal w b u
      → Asks table journal words bytes head query r w b
  was_asked fits eu es = (
    gives (es.0.0 ∙ ap (λ (x : Head). (performed (lent table journal words bytes x) (Ask query)).answer) eu ∙ sym (chosen fits _ _)),
    es.3 ∙ ap (λ (x : Head). (performed (lent table journal words bytes x) (Ask query)).lent.words) eu ∙ sym (chosen fits _ _),
    es.4 ∙ ap (λ (x : Head). (performed (lent table journal words bytes x) (Ask query)).lent.bytes) eu ∙ sym (chosen fits _ _),
  )

  -- its code and its value in place of the answer
  pub tells : {r : Answered} {code value : ℕ} {w b : List ℕ} (old : ℕ)
      → code ≡ code_of (said_by r)
      → value ≡ value_of (said_by r) old
      → Asks table journal words bytes head query r w b
      → Tells table journal words bytes head query code value old
  tells old coded valued asked = (
    coded ∙ ap (λ (a : Answered). code_of (said_by a)) asked.0.0,
    valued ∙ ap (λ (a : Answered). value_of (said_by a) old) asked.0.0,
  )

  -- and since when
  pub tells_since : {r : Answered} {since : ℕ} {w b : List ℕ} (old : ℕ)
      → since ≡ since_of (said_by r) old
      → Asks table journal words bytes head query r w b
      → TellsSince table journal words bytes head query since old
  tells_since old told asked = told ∙ ap (λ (a : Answered). since_of (said_by a) old) asked.0.0

-- and the same of a query
module _ (table journal words bytes head : List ℕ) {c d : Query} (e : c ≡ d) where
  pub Tells-same : {r : Answered} {code value : ℕ} {w b : List ℕ} (old : ℕ)
      → code ≡ code_of (said_by r)
      → value ≡ value_of (said_by r) old
      → Asks table journal words bytes head c r w b
      → Tells table journal words bytes head d code value old
  Tells-same {r} {code} {value} old coded valued asked =
      subst (λ (x : Query). Tells table journal words bytes head x code value old) e
      (tells table journal words bytes head c old coded valued asked)

  pub since_same : {r : Answered} {since : ℕ} {w b : List ℕ} (old : ℕ)
      → since ≡ since_of (said_by r) old
      → Asks table journal words bytes head c r w b
      → TellsSince table journal words bytes head d since old
  since_same {r} {since} old told asked =
      subst (λ (x : Query). TellsSince table journal words bytes head x since old) e
      (tells_since table journal words bytes head c old told asked)
