-- What holds of the depth, proved.
-- Assumes nothing.
use mathlib.Core.Path.{◌≡◌, refl, sym, ap, ap₂, ◌∙◌}
use mathlib.Core.Bool.{Bool, true, false, not, cond, ◌&&◌}
use mathlib.Core.List.{List, [], ◌∷◌, ◌++◌}
use Prim.Native.Nat.{ℕ, ◌+◌, ◌-◌, ◌≤◌, ◌<◌}
use native.Mathlib.Omega.{arith}
use borrow.Author.Tests.{ltb-false, ltb-true, lt-ltb, le-ltb, le-leb, lt-leb, eq-eqb, ne_eqb, eqb-false, not-true, not-false}
use native.Mathlib.Nat.{sub-zero}
use lib.Dec.{eqb, leb, ltb}
use lib.ListN.{length, get_or, replicate}
use lib.Seq.{length-take-le}
use Rattle.answers.specs.declared.answer.Answer.TheVariants.{Done}
use Rattle.answers.specs.Check.{Check}
use Rattle.std.proofs.Common.{Ok, Err}
use Rattle.answers.specs.declared.call.Call.{Call}
use Rattle.answers.specs.declared.call.Call.TheVariants.{Reset, Step, Read, Ask}
use Rattle.answers.specs.declared.call.Read.TheVariants.{Issue, Forward, Release}
use Rattle.answers.specs.declared.call.Reset.TheVariants.{Clear, Load as LoadCall, Restart}
use Rattle.answers.specs.declared.call.Step.TheVariants.{Commit, RollBack, Flush}
use Rattle.answers.specs.declared.ground.Ground.{Ground}
use Rattle.answers.specs.declared.ground.Ground.TheVariants.{TableFull, TooDeep}
use Rattle.answers.specs.Answers.{accepted, refused, said_by, ground_in, is_accepted, answered}
use Rattle.answers.specs.First.{Test, met, first}
use Rattle.answers.specs.Numbers.{number_of}
use Rattle.answers.proofs.Firsts.{first-met, first_not, first_past, first_stops, none_met, passed_not}
use Rattle.changes.proofs.ListTest.{and_both}
use Rattle.layout.specs.declared.head.Head.{Head}
use Rattle.unit.specs.Serve.{Reply}
use Rattle.layout.specs.Clauses.{are_lengths, is_table, are_numbers, is_journal, are_slots}
use Rattle.layout.specs.States.{held_of, map_here}
use Rattle.layout.specs.Tests.{all_of}
use Rattle.soundness.specs.Checks.{length_grounds, store_grounds, state_grounds, is_barred}
use Rattle.soundness.specs.Sound.{is_floor, is_sound}
use Rattle.soundness.proofs.Sounds.{Sound-facts, facts_Sound}
use Rattle.views.specs.Trim.{trimmed_head, trimmed_journal, trimmed}
use Rattle.views.specs.View.{View, Shaped, padded, decode}
use Rattle.views.proofs.Encodes.{Encodes, encodes_decoded, encodes_Sound}
use Rattle.views.proofs.Laid.{padded-length}
use Rattle.slots.specs.Slots.{opened, closed_at}
use Rattle.snapshot.specs.Fresh.{fresh_head}
use Rattle.snapshot.specs.Snapshots.{clear_check}
use Rattle.state_maps.proofs.MapSizes.{map_at_checkpoint}
use Rattle.snapshot.proofs.ImagesAccepted.{fresh_passed}
use Rattle.commits.specs.Commit.{with_step}
use Rattle.rollbacks.specs.RollBack.{cut_to}
use Rattle.flushes.specs.Flush.{flush_check, flushed_head}
use Rattle.flushes.proofs.Flushing.{FlushOk, flush_ok}
use Rattle.step_views.specs.StepViews.{flushed_view}
use Rattle.step_views.proofs.OnViews.{flush_leaves}
use Rattle.calls.specs.Lent.{Lent, Left, check_of, settled_by}
use Rattle.calls.specs.Meaning.{meaning}
use Rattle.head_words.specs.HeadWords.{words_of, is_head}
use Rattle.head_words.proofs.Theorems.{word_depth, words_back, words_Fits}
use Rattle.unit.specs.Carried.{Carried, Asked, lent_to, next}
use Rattle.history.proofs.AsEarlier.{and_no}
use Rattle.lent.specs.Codes.{code_of}
use Rattle.lent.specs.Lent.{tests_store, is_fit}
use Rattle.conditions.specs.CCalls.{Memory, carried_in, Result, CallOfC}
use Rattle.conditions.specs.Depths.{Anew, clear, load, with_depth, making, flushing, Depths}
use Rattle.conditions.specs.Grounds.{first_number}
use Rattle.conditions.specs.Runs.{lending}
use Rattle.conditions.specs.Serving.{Seen, CallOfServe, handed}
use Rattle.conditions.specs.Written.{IsSound, IsLoaded}
use Rattle.conditions.proofs.AsServed.{as_served}
use Rattle.conditions.proofs.CCalls.{accepted_anew, stands_anew, code_is}
use Rattle.conditions.proofs.CRefusals.{c_refused, c_unfit}
use Rattle.conditions.proofs.HeadsFit.{fits_after}
use Rattle.conditions.proofs.Refusals.{begins, granted, number_by_tests}
use Rattle.conditions.proofs.Serves.{meant, passed, Done as Made, done, seen_of, serves_seen, next_is}

-- what a call says by its check
said_by_lem : (k : Carried) (a : Asked) (s : Seen) → CallOfServe k a s → {g : Ground} → check_of (meant k a) ≡ Err g
    → said_by s.reply.answer ≡ refused (number_of g)
said_by_lem k a s serves e = serves.0.1 ∙ ap (λ (c : Check). said_by (answered c (meant k a).accepted.answer)) e

fresh_depth : (used number depth : ℕ) → (fresh_head used number depth).depth ≡ depth
unfolding fresh_head
fresh_depth used number depth = refl

module _ (k : Carried) (depth : ℕ) (words bytes : List ℕ) (s : Seen) where
  set_by : (anew : Anew) → CallOfServe k (making depth anew words bytes) s → is_accepted s.reply.answer ≡ true
      → (depth ≤ 63) × (s.reply.head.depth ≡ depth)
  set_by clear serves y =
      let a = making depth clear words bytes in
      let e = passed k a s serves y in (
        (fresh_passed (length k.table) (length k.journal) depth [] e).0.1,
        ap (λ (h : Head). h.depth) (done k a s serves e).head ∙ fresh_depth _ _ depth,
      )
  set_by (load format) serves y =
      let a = making depth (load format) words bytes in
      let e = passed k a s serves y in (
        (fresh_passed (length k.table) (length k.journal) depth _ e).0.1,
        ap (λ (h : Head). h.depth) (done k a s serves e).head ∙ fresh_depth _ _ depth,
      )

  refused_by : (anew : Anew) → CallOfServe k (making depth anew words bytes) s
      → are_lengths (length k.table) (length k.journal) ≡ true → 63 < depth → said_by s.reply.answer ≡ refused 20
  refused_by clear serves l h =
      said_by_lem k (making depth clear words bytes) s serves
      (first_not _ _ _ (ap not l) ∙ first-met _ _ _ (ap not (lt-leb depth 63 h)))
  refused_by (load format) serves l h =
      said_by_lem k (making depth (load format) words bytes) s serves
      (first_not _ _ _ (ap not l) ∙ first-met _ _ _ (ap not (lt-leb depth 63 h)))

  clears : CallOfServe k (making depth clear words bytes) s → are_lengths (length k.table) (length k.journal) ≡ true → depth ≤ 63
      → (said_by s.reply.answer ≡ accepted 0) × IsLoaded k (handed s) [] 0 depth
  clears serves l h =
      let e = first_not _ _ _ (ap not l) ∙ first_not _ _ _ (ap not (le-leb depth 63 h)) ∙ none_met in
      let made = done k (making depth clear words bytes) s serves e in (
        ap said_by made.answer,
        record {
          table = made.table ∙ ap (λ (n : ℕ). replicate n 0) (sym (sub-zero (length k.table)));
          journal = made.journal;
          head = made.head;
        },
      )

-- the depth after a call that tests the store
kept_by : (l : Lent) (call : Call) → tests_store call ≡ true → (meaning l call).accepted.lent.head.depth ≡ l.head.depth
unfolding fresh_head with_step cut_to flushed_head trimmed_head opened closed_at
kept_by l (Reset (Clear depth)) e = absurd (let z : ◌≡◌ {A = ℕ} 0 1 = cc in omega arith)
kept_by l (Reset (LoadCall depth format)) e = absurd (let z : ◌≡◌ {A = ℕ} 0 1 = cc in omega arith)
kept_by l (Reset Restart) e = refl
kept_by l (Step Commit) e = refl
kept_by l (Step (RollBack state)) e = refl
kept_by l (Step (Flush state)) e = refl
kept_by l (Read (Issue reader)) e = refl
kept_by l (Read (Forward reader state)) e = refl
kept_by l (Read (Release reader)) e = refl
kept_by l (Ask query) e = refl

kept_checked : (c : Check) (made : Left) (l : Lent) → made.lent.head.depth ≡ l.head.depth
    → (settled_by c made l).lent.head.depth ≡ l.head.depth
kept_checked (Ok tt) made l e = e
kept_checked (Err g) made l e = refl

depth_kept : (k : Carried) (a : Asked) (s : Seen) → tests_store a.call ≡ true → CallOfServe k a s
    → s.reply.head.depth ≡ k.head.depth
depth_kept k a s t serves =
    ap (λ (r : Reply). r.head.depth) serves.0.0
    ∙ kept_checked (check_of (meant k a)) (meant k a).accepted (lent_to k a) (kept_by (lent_to k a) a.call t)

-- a depth above 63 is unsound
not_sound : (table journal : List ℕ) (head : Head) → 63 < head.depth → is_sound table journal head ≡ false
not_sound table journal head h = go (is_sound table journal head) refl
  where
    go : (b : Bool) → is_sound table journal head ≡ b → b ≡ false
    go true e = absurd (omega (arith, (Sound-facts table journal head e).deep))
    go false e = refl

unsound_depth : (k : Carried) (a : Asked) (s : Seen) → tests_store a.call ≡ true → CallOfServe k a s
    → are_lengths (length k.table) (length k.journal) ≡ true → 63 < k.head.depth → said_by s.reply.answer ≡ refused 2
unsound_depth k a s t serves l h =
    let b = begins (lent_to k a) a.call in
    said_by_lem k a s serves
    (ap first b.is
    ∙ ap (λ (both : Bool). first
    (cond both (store_grounds k.table k.journal k.head) (length_grounds (length k.table) (length k.journal)) ++ b.rest)) t
    ∙ first_not _ _ _ (ap not l)
    ∙ first-met _ _ _ (ap not (not_sound k.table k.journal k.head h)))

-- a flush
module _ (k : Carried) (state : ℕ) where
  is_barred_lem : (state ≡ k.head.checkpoint → ⊥) → k.head.tip < state + k.head.depth → is_barred k.head state ≡ true
  is_barred_lem n h =
      ap₂ (λ (a b : Bool). not a && b) (ne_eqb state k.head.checkpoint n) (lt-ltb k.head.tip (state + k.head.depth) h)

  flush_barred : (words bytes : List ℕ) (s : Seen)
      → IsSound k → k.head.checkpoint < state → state ≤ k.head.tip → k.head.tip < state + k.head.depth
      → CallOfServe k (flushing state words bytes) s → said_by s.reply.answer ≡ refused 20
  flush_barred words bytes s i low high deep serves =
      said_by_lem k (flushing state words bytes) s serves
      (first_not _ _ _ (ap not i.lengths)
      ∙ first_not _ _ _ (ap not i.sound)
      ∙ first_not _ _ _ (le-ltb state k.head.checkpoint (omega arith))
      ∙ first_not _ _ _ (le-ltb k.head.tip state high)
      ∙ first-met _ _ _ (is_barred_lem (λ e. omega (arith, low, e)) deep))

-- a flush to the checkpoint, and a rollback to a kept state
anchor_accepted : (k : Carried) (words bytes : List ℕ) (s : Seen)
    → IsSound k → CallOfServe k (flushing k.head.checkpoint words bytes) s → is_accepted s.reply.answer ≡ true
anchor_accepted k words bytes s i serves =
    let c = k.head.checkpoint in
    let sound = Sound-facts k.table k.journal k.head i.sound in
    let map = ap length (map_at_checkpoint k.table k.journal k.head sound) in
    let fits = length-take-le k.head.used k.table sound.used_in in
    ap (λ (r : Reply). is_accepted r.answer) serves.0.0
    ∙ ap (λ (x : Check). is_accepted (answered x (Ok Done)))
    (first_not _ _ _ (ap not i.lengths)
    ∙ first_not _ _ _ (ap not i.sound)
    ∙ first_not _ _ _ (le-ltb c c (omega arith))
    ∙ first_not _ _ _ (le-ltb k.head.tip c sound.high)
    ∙ first_not _ _ _ (ap (λ (b : Bool). not b && ltb k.head.tip (c + k.head.depth)) (eq-eqb c c refl))
    ∙ first_not _ _ _ (le-ltb (length k.table) (length (map_here k.table k.journal k.head c))
    (omega (arith, map, fits, sound.used_in)))
    ∙ none_met)

rollback_accepted : (k : Carried) (state : ℕ) (words bytes : List ℕ) (s : Seen)
    → IsSound k → k.head.checkpoint ≤ state → state ≤ k.head.tip
    → CallOfServe k (lending (Step (RollBack state)) words bytes) s → is_accepted s.reply.answer ≡ true
rollback_accepted k state words bytes s i low high serves =
    ap (λ (r : Reply). is_accepted r.answer) serves.0.0
    ∙ ap (λ (x : Check). is_accepted (answered x (Ok Done)))
    (first_not _ _ _ (ap not i.lengths)
    ∙ first_not _ _ _ (ap not i.sound)
    ∙ first_not _ _ _ (le-ltb state k.head.checkpoint low)
    ∙ first_not _ _ _ (le-ltb k.head.tip state high)
    ∙ none_met)

-- the first number by its tests: a test whose number is another is not met, and where none behind it has the number it is
past : (t : Bool) (g : Ground) (gs : List Test) (n : ℕ) → first_number (met t g ∷ gs) ≡ n → (number_of g ≡ n → ⊥)
    → (t ≡ false) × (first_number gs ≡ n)
unfolding first_number
past true g gs n e h = absurd (h e)
past false g gs n e h = (refl, e)

here : (t : Bool) (g : Ground) (gs : List Test) (n : ℕ) → first_number (met t g ∷ gs) ≡ n → (first_number gs ≡ n → ⊥) → t ≡ true
unfolding first_number
here true g gs n e h = refl
here false g gs n e h = absurd (h e)

not_16 : (t : Bool) → first_number (met t TableFull ∷ []) ≡ 20 → ⊥
unfolding first_number
not_16 true e = omega (arith, e)
not_16 false e = omega (arith, e)

module _ (k : Carried) (state : ℕ) (words bytes : List ℕ) (s : Seen) (serves : CallOfServe k (flushing state words bytes) s) where
  abbrev l : Lent
  l = lent_to k (flushing state words bytes)

  barred_only : said_by s.reply.answer ≡ refused 20
      → (k.head.checkpoint < state) × (state ≤ k.head.tip) × (k.head.tip < state + k.head.depth)
  barred_only e =
      let number = sym (number_by_tests (meaning l (Step (Flush state))).accepted l (meaning l (Step (Flush state))).grounds
      (granted l (Step (Flush state)))) ∙ ap ground_in (sym serves.0.1 ∙ e) in
      let one = past _ _ _ 20 number (λ e. omega (arith, e)) in
      let two = past _ _ _ 20 one.1 (λ e. omega (arith, e)) in
      let low = past _ _ _ 20 two.1 (λ e. omega (arith, e)) in
      let high = past _ _ _ 20 low.1 (λ e. omega (arith, e)) in
      let barred = here (is_barred k.head state) _ _ 20 high.1 (not_16 _) in
      let both = and_both (not (eqb state k.head.checkpoint)) (ltb k.head.tip (state + k.head.depth)) barred in
      let other = eqb-false state k.head.checkpoint (not-true (eqb state k.head.checkpoint) both.0) in (
        omega (arith, ltb-false state k.head.checkpoint low.0, other),
        ltb-false k.head.tip state high.0,
        ltb-true k.head.tip (state + k.head.depth) both.1,
      )

  -- an accepted flush to another state than the checkpoint leaves as many steps as the depth
  module _ (shaped : Shaped k.head) (y : is_accepted s.reply.answer ≡ true) (other : state ≡ k.head.checkpoint → ⊥) where
    check : flush_check k.table k.journal k.head state ≡ (Ok tt)
    check = passed k (flushing state words bytes) s serves y

    ok : FlushOk k.table k.journal k.head state
    ok = flush_ok k.table k.journal k.head state check

    -- the map there, and the head of the store that is left
    abbrev map : List ℕ
    map = map_here k.table k.journal k.head state

    abbrev T : List ℕ
    T = padded (length k.table) map

    abbrev J : List ℕ
    J = trimmed_journal (flushed_head k.head (length map) state) k.journal

    abbrev H : Head
    H = trimmed_head (flushed_head k.head (length map) state)

    tip_is : H.tip ≡ k.head.tip
    unfolding trimmed_head flushed_head
    tip_is = refl

    checkpoint_is : H.checkpoint ≡ state
    unfolding trimmed_head flushed_head
    checkpoint_is = refl

    deep : state + k.head.depth ≤ k.head.tip
    deep =
        let free = ap (λ (b : Bool). not b && ltb k.head.tip (state + k.head.depth))
        (sym (ne_eqb state k.head.checkpoint other)) in
        ltb-false k.head.tip (state + k.head.depth) (free ∙ ok.free)

    leaves : Encodes (record { table = T; journal = J; head = H }) k.head
        (trimmed (flushed_view (decode (record { table = k.table; journal = k.journal; head = k.head })) state))
    leaves = flush_leaves k.table k.journal k.head shaped state check

    journal_long : length J ≡ length k.journal
    unfolding decode trimmed flushed_view
    journal_long = ap (λ (v : View). v.limits.journal) (encodes_decoded leaves)

    range : are_lengths (length T) (length J) ≡ true
    range =
        ap₂ are_lengths (padded-length (length k.table) map ok.fits) journal_long
        ∙ not-false _ (passed_not _ _ _ check).0

    left : Made (meant k (flushing state words bytes)).accepted s
    left = done k (flushing state words bytes) s serves check

    still_sound : IsSound (handed s)
    still_sound =
        record {
          lengths = ap₂ (λ (t j : List ℕ). are_lengths (length t) (length j)) left.table left.journal ∙ range;
          sound = (λ i. is_sound (left.table i) (left.journal i) (left.head i)) ∙ facts_Sound T J H (encodes_Sound leaves);
        }

    step_back : (steps : ℕ) (words' bytes' : List ℕ) (s' : Seen) → steps ≤ k.head.depth
        → CallOfServe (handed s) (lending (Step (RollBack (k.head.tip - steps))) words' bytes') s'
        → is_accepted s'.reply.answer ≡ true
    step_back steps words' bytes' s' h rolled =
        rollback_accepted (handed s) (k.head.tip - steps) words' bytes' s' still_sound
        (omega (arith, deep, h, checkpoint_is, ap (λ (x : Head). x.checkpoint) left.head))
        (omega (arith, tip_is, ap (λ (x : Head). x.tip) left.head))
        rolled

-- a test that is not met where those before it are not can be left out
left_out : (before : List Test) (t : Bool) (g : Ground) (rest : List Test) → t ≡ false
    → first (before ++ (met t g ∷ rest)) ≡ first (before ++ rest)
left_out before t g rest not-met = go (first before) refl
  where
    go : (c : Check) → first before ≡ c → first (before ++ (met t g ∷ rest)) ≡ first (before ++ rest)
    go (Ok tt) e = first_past before _ e ∙ first_not t g rest not-met ∙ sym (first_past before rest e)
    go (Err r) e = first_stops before _ e ∙ sym (first_stops before rest e)

-- depth 0 bars no state up to the tip, and asks nothing of a clear and of a head
bars_none : (head : Head) (state : ℕ) → head.depth ≡ 0 → state ≤ head.tip → is_barred head state ≡ false
bars_none head state none high =
    ap (λ (b : Bool). not (eqb state head.checkpoint) && b) (le-ltb head.tip (state + head.depth) (omega (arith, none)))
    ∙ and_no (not (eqb state head.checkpoint))

clears_0 : (table journal : List ℕ) → clear_check table journal 0 ≡ first (length_grounds (length table) (length journal))
clears_0 table journal = left_out (length_grounds (length table) (length journal)) false TooDeep [] refl

sound_0 : (table journal : List ℕ) (head : Head) → head.depth ≡ 0
    → is_sound table journal head
    ≡ all_of
    (is_table table head.used
    ∷ are_numbers head.oldest head.checkpoint head.tip
    ∷ is_journal journal head.ends (held_of head)
    ∷ are_slots head.checkpoint head.taken head.issued
    ∷ is_floor head
    ∷ [])
unfolding is_sound all_of
sound_0 table journal head none =
    ap (λ (d : ℕ). all_of
    (is_table table head.used
    ∷ are_numbers head.oldest head.checkpoint head.tip
    ∷ is_journal journal head.ends (held_of head)
    ∷ are_slots head.checkpoint head.taken head.issued
    ∷ is_floor head
    ∷ leb d 63
    ∷ [])) none

-- a flush that is not barred
flush_free : (table journal : List ℕ) (head : Head) (state : ℕ) → is_barred head state ≡ false
    → flush_check table journal head state
    ≡ first
    (store_grounds table journal head
    ++ state_grounds head state
    ++ (met (ltb (length table) (length (map_here table journal head state))) TableFull ∷ []))
flush_free table journal head state free =
    left_out (store_grounds table journal head ++ state_grounds head state) (is_barred head state) TooDeep _ free

one_or_two : (b : Bool) → (1 ≤ cond b 2 1) × (cond b 2 1 ≤ 2)
one_or_two true = (omega arith, omega arith)
one_or_two false = (omega arith, omega arith)

-- The same of the C functions.
module _ (m : Memory) (depth : ℕ) (anew : Anew) (words bytes : List ℕ) (r : Result)
    (c : CallOfC m (making depth anew words bytes) r) where
  abbrev k : Carried
  k = carried_in m

  abbrev a : Asked
  a = making depth anew words bytes

  set_c : r.code ≡ 0 → (depth ≤ 63) × (get_or r.memory.head 84 0 ≡ depth)
  set_c e =
      let y = accepted_anew m (with_depth depth anew) words bytes r c e in
      let stands = stands_anew m (with_depth depth anew) words bytes r c e in
      let is = set_by k depth words bytes (seen_of k a) anew (serves_seen k a) y in (
        is.0,
        ap (λ (x : Memory). get_or x.head 84 0) stands.is
            ∙ word_depth (next k a).head stands.fits
            ∙ ap (λ (x : Carried). x.head.depth) (sym (next_is k a))
            ∙ is.1,
      )

  refused_c : are_lengths (length m.table) (length m.journal) ≡ true → 63 < depth → r.code ≡ 20
  refused_c l h =
      code_is m words bytes r (Reset (with_depth depth anew)) c.promise (untested anew)
      ∙ ap code_of (refused_by k depth words bytes (seen_of k a) anew (serves_seen k a) l h)
    where
      untested : (anew : Anew) → is_fit m.head (Reset (with_depth depth anew)) ≡ true
      untested clear = refl
      untested (load format) = refl

module _ (m : Memory) (a : Asked) (r : Result) (t : tests_store a.call ≡ true) (c : CallOfC m a r) where
  abbrev before : Carried
  before = carried_in m

  -- where the call tests the store, its head's words fit or they do not
  tested : (b : Bool) → is_head m.head ≡ b → is_fit m.head a.call ≡ b
  tested b e = ap (λ (x : Bool). cond x (is_head m.head) true) t ∙ e

  -- the depth that fitting words hold is their last
  word_is : is_head m.head ≡ true → before.head.depth ≡ get_or m.head 84 0
  word_is e =
      sym (word_depth before.head (words_Fits m.head c.head_words))
      ∙ ap (λ (w : List ℕ). get_or w 84 0) (words_back m.head c.head_words e)

  unsound_c : are_lengths (length m.table) (length m.journal) ≡ true → 63 < get_or m.head 84 0 → r.code ≡ 2
  unsound_c l h = go (is_head m.head) refl
    where
      go : (b : Bool) → is_head m.head ≡ b → r.code ≡ 2
      go true e =
          (as_served m a r (seen_of before a) c (tested true e) (serves_seen before a)).code
          ∙ ap code_of (unsound_depth before a (seen_of before a) t (serves_seen before a) l (omega (arith, h, word_is e)))
      go false e = c_unfit m a r c (tested false e) ∙ ap (λ (b : Bool). cond b 2 1) l

  kept_c : get_or r.memory.head 84 0 ≡ get_or m.head 84 0
  kept_c = go (is_head m.head) refl
    where
      by : (y : Bool) → is_head m.head ≡ true
          → get_or (cond y (words_of (seen_of before a).reply.head) m.head) 84 0 ≡ get_or m.head 84 0
      by true e =
          word_depth (seen_of before a).reply.head
          (fits_after (lent_to before a) (words_Fits m.head c.head_words) c.all_bytes a.call)
          ∙ depth_kept before a (seen_of before a) t (serves_seen before a)
          ∙ word_is e
      by false e = refl

      go : (b : Bool) → is_head m.head ≡ b → get_or r.memory.head 84 0 ≡ get_or m.head 84 0
      go true e =
          ap (λ (w : List ℕ). get_or w 84 0) (as_served m a r (seen_of before a) c (tested true e) (serves_seen before a)).head
          ∙ by (is_accepted (seen_of before a).reply.answer) e
      go false e =
          let code = c_unfit m a r c (tested false e) in
          let range = one_or_two (are_lengths (length m.table) (length m.journal)) in
          ap (λ (x : Memory). get_or x.head 84 0)
          (c_refused m a r c (λ z. omega (arith, code, range.0, z)) (λ z. omega (arith, code, range.1, z))).2.0

pub depths : Depths
depths = record {
  depth_set = λ k depth anew words bytes s serves y. set_by k depth words bytes s anew serves y;
  clears = λ k depth words bytes s l h serves. clears k depth words bytes s serves l h;
  depth_refused = λ k depth anew words bytes s serves l h. refused_by k depth words bytes s anew serves l h;
  depth_kept = depth_kept;
  sound_depth = λ k i. (Sound-facts k.table k.journal k.head i.sound).deep;
  unsound_depth = unsound_depth;
  flush_barred = flush_barred;
  flush_barred_only = barred_only;
  can_step_back = λ k state words bytes s shaped serves y other steps words' bytes' s' h rolled.
      step_back k state words bytes s serves shaped y other steps words' bytes' s' h rolled;
  anchor_accepted = anchor_accepted;
  rollback_accepted = rollback_accepted;
  depth_0_clears = clears_0;
  depth_0_sound = sound_0;
  depth_0_bars_none = bars_none;
  not_barred_flushes = flush_free;
  c_depth_set = λ m depth anew words bytes r c e. set_c m depth anew words bytes r c e;
  c_depth_refused = λ m depth anew words bytes r c l h. refused_c m depth anew words bytes r c l h;
  c_depth_kept = kept_c;
  c_unsound_depth = unsound_c;
}
