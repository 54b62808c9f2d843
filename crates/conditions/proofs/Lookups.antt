-- Lookups: the price at the state named, or none, and since when, proved.
-- Assumes nothing.
use mathlib.Core.Path.{◌≡◌, refl, sym, ap, subst, ◌∙◌}
use mathlib.Core.Bool.{true}
use mathlib.Core.List.{List, []}
use Prim.Native.Nat.{ℕ, zero, suc, ◌+◌, ◌-◌, ◌≤◌, ◌<◌}
use native.Mathlib.Omega.{arith}
use lib.ListN.{length, get_or}
use Rattle.changes.specs.Found.{Found}
use Rattle.std.proofs.Common.{Some, None}
use Rattle.changes.specs.Calculus.{find}
use Rattle.changes.specs.Runs.{step_of, run_of}
use Rattle.answers.specs.Check.{Answered}
use Rattle.answers.specs.Check.{Check}
use Rattle.std.proofs.Common.{Ok, Err}
use Rattle.answers.specs.declared.answer.Since.{Since}
use Rattle.answers.specs.declared.call.LookUp.{LookUp as Lookup}
use Rattle.answers.specs.Answers.{When, by_step, by_book, said_by_since, said_by, when_in, is_accepted, answered}
use Rattle.layout.specs.States.{step_index, steps_between}
use Rattle.views.proofs.Laid.{run_count}
use Rattle.last_changes.specs.Last.{Last}
use Rattle.last_changes.specs.Last.{last_in}
use Rattle.last_changes.proofs.Theorems.{Told, last_Told}
use Rattle.lookups.specs.LookUp.{look_up_check, quote_of, since_of, since_here}
use Rattle.lookups.proofs.LookUpAccepted.{LookUpOk, look_up_ok}
use Rattle.unit.specs.Carried.{Carried}
use Rattle.conditions.specs.Written.{map_at}
use Rattle.conditions.specs.Lookups.{looking_up, step_to, SinceIs, PriceIs, Lookups}
use Rattle.conditions.specs.Serving.{Seen, CallOfServe}

-- a step of a run
run_at : (words ends : List ℕ) (n i j : ℕ) → j < n → get_or (run_of words ends i n) j [] ≡ step_of words ends (i + j)
unfolding run_of
run_at words ends zero i j h = absurd (omega arith)
run_at words ends (suc n) i zero h =
    let here : i ≡ i + 0 = omega arith in
    ap (step_of words ends) here
run_at words ends (suc n) i (suc j) h =
    let there : i + 1 + j ≡ i + suc j = omega arith in
    run_at words ends n (i + 1) j (omega arith) ∙ ap (step_of words ends) there

-- how many steps lead from the checkpoint c to a state s, where the one to n stands among those held from the oldest o on, and that it is
-- one of them
between_count : (o c s : ℕ) → o ≤ c → c ≤ s → s - o - (c - o) ≡ s - c
between_count o c s h k = omega arith

between_place : (o c n : ℕ) → o ≤ c → c < n → n - 1 - o ≡ c - o + (n - c - 1)
between_place o c n h k = omega arith

between_inside : (c n s : ℕ) → c < n → n ≤ s → n - c - 1 < s - c
between_inside c n s h k = omega arith

-- the steps from the checkpoint to a state, by the states to which they lead
module _ (k : Carried) (asked : Lookup) (ok : LookUpOk k.table k.journal k.head asked) where
  abbrev from : ℕ
  from = k.head.checkpoint

  abbrev steps : List (List ℕ)
  steps = steps_between k.journal k.head from asked.state

  steps_count : length steps ≡ asked.state - from
  steps_count =
      run_count k.journal k.head.ends (step_index k.head asked.state - step_index k.head from) (step_index k.head from)
      ∙ between_count k.head.oldest from asked.state ok.sound.low ok.low

  step_at : (n : ℕ) → from < n → n ≤ asked.state → step_to k n ≡ get_or steps (n - from - 1) []
  step_at n low high =
      let count = between_count k.head.oldest from asked.state ok.sound.low ok.low in
      let inside = subst (λ (m : ℕ). n - from - 1 < m) (sym count) (between_inside from n asked.state low high) in
      ap (step_of k.journal k.head.ends) (between_place k.head.oldest from n ok.sound.low low)
      ∙ sym (run_at k.journal k.head.ends (step_index k.head asked.state - step_index k.head from)
      (step_index k.head from) (n - from - 1) inside)

  abbrev found : ℕ → Found
  found i = find asked.offer (get_or steps i [])

  since_by : (last : Last) → Told asked.offer steps last → SinceIs k asked (said_by_since (since_of from last))
  since_by (Some (w, n)) t =
      let behind : from + n - from - 1 ≡ n - 1 = omega arith in
      record {
        above = omega (arith, t.least);
        up_to = omega (arith, t.most, steps_count, ok.low);
        word = w;
        names =
            ap (find asked.offer) (step_at (from + n) (omega (arith, t.least)) (omega (arith, t.most, steps_count, ok.low)))
            ∙ ap found behind
            ∙ t.names;
        none_later = λ i low high.
            ap (find asked.offer) (step_at i (omega (arith, low)) high)
            ∙ t.none_later (i - from - 1) (omega (arith, low)) (omega (arith, low, high, steps_count));
      }
  since_by None t =
      λ i low high. ap (find asked.offer) (step_at i low high) ∙ t (i - from - 1) (omega (arith, low, high, steps_count))

  pub since_here_lem : SinceIs k asked (said_by_since (since_here k.journal k.head asked))
  since_here_lem = since_by (last_in asked.offer steps) (last_Told asked.offer steps)

-- a quote says since when
quoted_when : (found : Found) (since : Since) → when_in (said_by (quote_of found since)) ≡ said_by_since since
quoted_when (Some w) since = refl
quoted_when None since = refl

-- since when names no state above this one
abbrev pub Within : ℕ → When → Type 0
Within tip (by_step n) = n ≤ tip
Within tip by_book = Unit

pub since_Within : (k : Carried) (asked : Lookup) (found : Found) → look_up_check k.table k.journal k.head asked ≡ (Ok tt)
    → Within k.head.tip (when_in (said_by (quote_of found (since_here k.journal k.head asked))))
since_Within k asked found e =
    let ok = look_up_ok k.table k.journal k.head asked e in
    subst (Within k.head.tip) (sym (quoted_when found (since_here k.journal k.head asked)))
    (below ok.high (said_by_since (since_here k.journal k.head asked)) (since_here_lem k asked ok))
  where
    below : asked.state ≤ k.head.tip → (w : When) → SinceIs k asked w → Within k.head.tip w
    below high (by_step n) t = omega (arith, t.up_to, high)
    below high by_book t = tt

-- an accepted answer is that of a check that passes
passes : (c : Check) (made : Answered) → is_accepted (answered c made) ≡ true → c ≡ (Ok tt)
passes (Ok tt) made e = refl
passes (Err ground) made e = absurd (let z : ◌≡◌ {A = ℕ} 0 1 = cc in omega arith)

quoted_price : (found : Found) (since : Since) → PriceIs found (said_by (quote_of found since))
quoted_price (Some w) since = refl
quoted_price None since = refl

module _ (k : Carried) (asked : Lookup) (words bytes : List ℕ) (s : Seen) (serves : CallOfServe k (looking_up asked words bytes) s)
    (e : is_accepted s.reply.answer ≡ true) where
  abbrev check : Check
  check = look_up_check k.table k.journal k.head asked

  abbrev made : Answered
  made = quote_of (find asked.offer (map_at k asked.state)) (since_here k.journal k.head asked)

  answer_is : s.reply.answer ≡ answered check made
  answer_is = ap (λ r. r.answer) serves.0.0

  passed : check ≡ (Ok tt)
  passed = passes check made (sym (ap is_accepted answer_is) ∙ e)

  answer-made : made ≡ s.reply.answer
  answer-made = sym (answer_is ∙ ap (λ (c : Check). answered c made) passed)

  price_is : PriceIs (find asked.offer (map_at k asked.state)) (said_by s.reply.answer)
  price_is =
      subst (λ (a : Answered). PriceIs (find asked.offer (map_at k asked.state)) (said_by a)) answer-made
      (quoted_price (find asked.offer (map_at k asked.state)) (since_here k.journal k.head asked))

  when_is : said_by_since (since_here k.journal k.head asked) ≡ when_in (said_by s.reply.answer)
  when_is =
      sym (quoted_when (find asked.offer (map_at k asked.state)) (since_here k.journal k.head asked))
      ∙ ap (λ (a : Answered). when_in (said_by a)) answer-made

  since_is : SinceIs k asked (when_in (said_by s.reply.answer))
  since_is = subst (SinceIs k asked) when_is (since_here_lem k asked (look_up_ok k.table k.journal k.head asked passed))

  by_book_lem : asked.state ≡ k.head.checkpoint → (w : When) → SinceIs k asked w → w ≡ by_book
  by_book_lem there (by_step n) t = absurd (omega (arith, t.above, t.up_to, there))
  by_book_lem there by_book t = refl

pub lookups : Lookups
lookups = record {
  says_price = λ p since. refl;
  says_none = λ since. refl;
  says_state = λ n. refl;
  says_book = refl;
  price = price_is;
  since = since_is;
  at_the_anchor = λ k asked words bytes s serves e there.
      by_book_lem k asked words bytes s serves e there (when_in (said_by s.reply.answer)) (since_is k asked words bytes s serves e);
}
