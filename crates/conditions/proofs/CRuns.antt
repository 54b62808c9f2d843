-- Runs of the C functions follow the plain list: each call is the call of `serve` that it hands on.
-- Assumes nothing.
use mathlib.Core.Path.{◌≡◌, refl, sym, ap, ap₂, subst, ◌∙◌}
use mathlib.Core.Bool.{true, cond}
use mathlib.Core.List.{List}
use Prim.Native.Nat.{ℕ, ◌<◌}
use native.Mathlib.Omega.{arith}
use borrow.Author.Tests.{ne_eqb}
use lib.Dec.{eqb}
use lib.ListN.{length}
use Rattle.layout.specs.Clauses.{are_lengths}
use Rattle.answers.specs.Check.{Answered}
use Rattle.answers.specs.declared.answer.Answer.TheVariants.{Done, Quoted, Count}
use Rattle.std.proofs.Common.{Err, Ok}
use Rattle.answers.specs.declared.call.Call.TheVariants.{Reset, Step, Read}
use Rattle.answers.specs.declared.call.Read.{Read as ReadCall}
use Rattle.answers.specs.declared.call.Read.TheVariants.{Issue, Forward, Release}
use Rattle.answers.specs.declared.call.Reset.TheVariants.{Load as LoadCall}
use Rattle.answers.specs.declared.ground.Ground.{Ground}
use Rattle.std.proofs.Common.{Option, Some, None}
use Rattle.answers.specs.Answers.{When, by_step, by_book, Said, accepted, refused as refused_by, priced, without, said_by, said_by_price, said_by_since}
use Rattle.answers.specs.Answers.{is_granted, has_value, value_in, when_in, is_accepted}
use Rattle.answers.specs.Numbers.{number_of}
use Rattle.unit.specs.Carried.{Carried, lent_to, next}
use Rattle.head_words.specs.HeadWords.{limit}
use Rattle.lent.specs.Lent.{tally_of}
use Rattle.lent.proofs.Coded.{value_is}
use Rattle.lent.proofs.TallyWords.{tally_back}
use Rattle.lent.specs.Codes.{code_of, no_price, by_table, since_word, since_read, since_of}
use Rattle.history.specs.Named.{Named, step, read, ask, unit_call, Response, accepted_as, response_to, refused}
use Rattle.history.specs.Named.{no_price as unpriced}
use Rattle.history.specs.Plain.{Plain, Load, load_checked, loaded_plain}
use Rattle.history.specs.Traces.{Asked as AskedIn3, ReadSet}
use Rattle.history.proofs.Outstanding.{Outstanding}
use Rattle.history.proofs.Views.{Fit}
use Rattle.conditions.specs.CCalls.{Memory, carried_in, Result, Promise, CallOfC, with_tally_c, CallOnStoreC, tells_c, lengths_c, CLoads}
use Rattle.conditions.specs.Runs.{lending, lent_in}
use Rattle.conditions.specs.Serving.{Seen, with_tally, Of64Bits, tells, loading, said_of}
use Rattle.conditions.proofs.CCalls.{StandsFor, code_is, since_is, words_are, bytes_are, code_asked, value_asked}
use Rattle.conditions.proofs.CCalls.{since_asked, words_asked, bytes_asked, carried_is}
use Rattle.conditions.proofs.CCalls.{head_fits, call_fits, stands_after, accepted_anew, stands_anew}
use Rattle.conditions.proofs.CRefusals.{number_low}
use Rattle.conditions.proofs.Lookups.{Within}
use Rattle.conditions.proofs.Refusals.{within}
use Rattle.conditions.proofs.Serves.{seen_of, serves_seen, next_is}
use Rattle.conditions.proofs.Followed.{answered, after, Started}
use Rattle.conditions.proofs.ServeRuns.{store_carried, Follows, steps, loads_as_plain, starts}

-- what a code says
abbrev by_code : Named → ℕ → ℕ → When → List ℕ → List ℕ → Response
by_code named code value since words bytes =
    cond (eqb code 0) (accepted_as named value since words bytes) (cond (eqb code no_price) (unpriced since) (refused code))

refused_code : (named : Named) (ground : Ground) (value : ℕ) (since : When) (words bytes : List ℕ)
    → by_code named (number_of ground) value since words bytes ≡ refused (number_of ground)
refused_code named ground value since words bytes =
    let low = number_low ground in
    rw low.0 (rw low.1 refl)

-- what a C program is told is what `serve` would have replied: where an accepted call is told alike, and since when
module _ (named : Named) (value : ℕ) (since : When) (words bytes words' bytes' : List ℕ) where
  told_quote : (price : Option ℕ) (by : When)
      → (has_value (said_by_price price by) ≡ true → accepted_as named value since words bytes
      ≡ accepted_as named (value_in (said_by_price price by)) since words' bytes')
      → (is_granted (said_by_price price by) ≡ true → since ≡ when_in (said_by_price price by))
      → by_code named (code_of (said_by_price price by)) value since words bytes ≡ response_to named (said_by_price price by) words' bytes'
  told_quote (Some p) by same told = same refl ∙ ap (λ (w : When). accepted_as named p w words' bytes') (told refl)
  told_quote None by same told = ap unpriced (told refl)

  told_by_code : (answer : Answered)
      → (has_value (said_by answer) ≡ true → accepted_as named value since words bytes
      ≡ accepted_as named (value_in (said_by answer)) since words' bytes')
      → (is_accepted answer ≡ true → since ≡ when_in (said_by answer))
      → by_code named (code_of (said_by answer)) value since words bytes ≡ response_to named (said_by answer) words' bytes'
  told_by_code (Ok Done) same told = same refl ∙ ap (λ (w : When). accepted_as named 0 w words' bytes') (told refl)
  told_by_code (Ok (Quoted quote)) same told = told_quote quote.price (said_by_since quote.since) same told
  told_by_code (Ok (Count n)) same told = same refl ∙ ap (λ (w : When). accepted_as named n w words' bytes') (told refl)
  told_by_code (Err ground) same told = refused_code named ground value since words bytes

-- the value of a call that is no query is not told
unvalued : (call : ReadCall) (value value' : ℕ) (since : When) (words bytes : List ℕ)
    → accepted_as (read call) value since words bytes ≡ accepted_as (read call) value' since words bytes
unvalued (Issue reader) value value' since words bytes = refl
unvalued (Forward reader state) value value' since words bytes = refl
unvalued (Release reader) value value' since words bytes = refl

-- since when is read as it was written, of a state whose number has 32 bits
read_word : (tip : ℕ) → tip < limit → (w : When) → Within tip w → since_read (since_word w) ≡ w
read_word tip low (by_step n) within = rw (ne_eqb n by_table (λ e. omega (arith, low, within, e))) refl
read_word tip low by_book within = refl

read_since : (tip : ℕ) → tip < limit → (said : Said) (old : ℕ) → Within tip (when_in said) → is_granted said ≡ true
    → since_read (since_of said old) ≡ when_in said
read_since tip low (accepted n) old within e = refl
read_since tip low (refused_by n) old within e = absurd (let z : ◌≡◌ {A = ℕ} 0 1 = cc in omega arith)
read_since tip low (priced p w) old within e = read_word tip low w within
read_since tip low (without w) old within e = read_word tip low w within

module _ (m : Memory) (k : Carried) (w : StandsFor m k) (words bytes : List ℕ) (r : Result) where
  abbrev seen : Named → Seen
  seen named = seen_of (carried_in m) (lending (unit_call named) words bytes)

  tip_low : (carried_in m).head.tip < limit
  tip_low = subst (λ (x : Carried). x.head.tip < limit) (sym (carried_is m k w)) w.fits.tip_low

  -- by the code, where an accepted call is told alike
  told_code : (named : Named) → r.code ≡ code_of (said_by (seen named).reply.answer)
      → r.since ≡ since_of (said_by (seen named).reply.answer) r.since_before
      → (has_value (said_by (seen named).reply.answer) ≡ true → accepted_as named r.value (since_read r.since) r.words r.bytes
      ≡ accepted_as named (value_in (said_by (seen named).reply.answer)) (since_read r.since) (seen named).words (seen named).bytes)
      → tells_c named r ≡ tells named (seen named)
  told_code named code since same =
      let answer = (seen named).reply.answer in
      ap (λ (c : ℕ). by_code named c r.value (since_read r.since) r.words r.bytes) code
      ∙ told_by_code named r.value (since_read r.since) r.words r.bytes (seen named).words (seen named).bytes answer same
      (λ e. ap since_read since
      ∙ read_since (carried_in m).head.tip tip_low (said_by answer) r.since_before
      (within (lent_to (carried_in m) (lending (unit_call named) words bytes)) (unit_call named)) e)

  told : (named : Named) → Promise m words bytes r (unit_call named) → tells_c named r ≡ tells named (seen named)
  told (step call) p =
      let fit = call_fits m k w (Step call) in
      told_code (step call) (code_is m words bytes r (Step call) p fit) (since_is m words bytes r (Step call) p fit) (λ e. refl)
  told (read call) p =
      let fit = call_fits m k w (Read call) in
      told_code (read call) (code_is m words bytes r (Read call) p fit) (since_is m words bytes r (Read call) p fit)
      (λ e. unvalued call r.value (value_in (said_by (seen (read call)).reply.answer)) (since_read r.since) r.words r.bytes
      ∙ ap₂ (accepted_as (read call) (value_in (said_by (seen (read call)).reply.answer)) (since_read r.since))
      (words_are m words bytes r (Read call) p fit) (bytes_are m words bytes r (Read call) p fit))
  told (ask query) p =
      let fit = head_fits m k w in
      told_code (ask query) (code_asked m words bytes r query p fit) (since_asked m words bytes r query p fit)
      (λ e i. accepted_as (ask query)
      ((value_asked m words bytes r query p fit ∙ value_is (said_by (seen (ask query)).reply.answer) r.before e) i)
      (since_read r.since)
      (words_asked m words bytes r query p fit i)
      (bytes_asked m words bytes r query p fit i))

-- a C program's memory that follows a plain list
pub record FollowsC (m : Memory) (p : Plain) : Type 0 where
  pub carried : Carried
  pub stands : StandsFor m carried
  pub follows : Follows carried p

pub steps_c : (m : Memory) (p : Plain) → Fit p → (sets : List ReadSet) → Outstanding p sets → (a : AskedIn3) (r : Result)
    → FollowsC m p → CallOfC m (lent_in sets a) r
    → (tells_c a.call.named r ≡ answered p a.call) × FollowsC r.memory (after p a.call)
steps_c m p f sets o a r w c =
    let k = w.carried in
    let named = a.call.named in
    let given = lent_in sets a in
    let on = steps k p f sets o a (seen_of k given) w.follows (serves_seen k given) in (
      told m k w.stands given.words given.bytes r named c.promise
          ∙ ap (λ (x : Carried). tells named (seen_of x given)) (carried_is m k w.stands)
          ∙ on.0,
      record {
        carried = next k given;
        stands = stands_after m k given r w.stands c;
        follows = ap store_carried (sym (next_is k given)) ∙ on.1;
      },
    )

-- whatever tally it is lent
other_tally : (m : Memory) (p : Plain) (tally : List ℕ) → length tally ≡ 3 → Of64Bits (tally_of tally)
    → FollowsC m p → FollowsC (with_tally_c m tally) p
other_tally m p tally three small w = record {
  carried = with_tally w.carried (tally_of tally);
  stands = record {
    is = λ i. record {
      table = (w.stands.is i).table;
      journal = (w.stands.is i).journal;
      head = (w.stands.is i).head;
      tally = sym (tally_back tally three) i;
    };
    fits = w.stands.fits;
    counts = small;
  };
  follows = w.follows;
}

pub store_steps_c : (m : Memory) (p : Plain) → Fit p → (sets : List ReadSet) → Outstanding p sets → (a : AskedIn3) (r : Result)
    → FollowsC m p → CallOnStoreC m (lent_in sets a) r
    → (tells_c a.call.named r ≡ answered p a.call) × FollowsC r.memory (after p a.call)
store_steps_c m p f sets o a r w on =
    let c = on.serves in
    steps_c (with_tally_c m on.tally) p f sets o a r (other_tally m p on.tally c.tally_words c.counts w) c

pub starts_c : (m : Memory) (load : Load) (r : Result) → CLoads m load r
    → Started (loaded_plain (lengths_c m) load) × FollowsC r.memory (loaded_plain (lengths_c m) load)
starts_c m load r l =
    let k = carried_in m in
    let a = loading l.words load in
    let start = starts k load (seen_of k a) (record {
      words = l.words;
      serves = serves_seen k a;
      accepted = accepted_anew m (LoadCall load.depth load.format) l.words load.bytes r l.serves l.accepted;
    }) in (
      start.0,
      record {
        carried = next k a;
        stands = stands_anew m (LoadCall load.depth load.format) l.words load.bytes r l.serves l.accepted;
        follows = ap store_carried (sym (next_is k a)) ∙ start.1;
      },
    )

-- a load does not look at the head's words
pub loads_c_as_plain : (m : Memory) (words : List ℕ) (load : Load) (r : Result)
    → are_lengths (length m.table) (length m.journal) ≡ true → CallOfC m (loading words load) r
    → r.code ≡ code_of (said_of (load_checked (lengths_c m) load))
loads_c_as_plain m words load r range c =
    let k = carried_in m in
    let a = loading words load in
    code_is m words load.bytes r (Reset (LoadCall load.depth load.format)) c.promise refl
    ∙ ap code_of (loads_as_plain k words load (seen_of k a) range (serves_seen k a))
