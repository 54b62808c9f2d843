-- What is written and loaded, proved of the calls.
-- Assumes nothing.
use mathlib.Core.Path.{◌≡◌, refl, sym, ap, ap₂, subst, ◌∙◌}
use mathlib.Core.Bool.{true, not}
use mathlib.Core.List.{List, ◌++◌}
use Prim.Native.Nat.{ℕ, ◌^◌, ◌≤◌, ◌<◌}
use native.Mathlib.Decide.{dec_lt}
use native.Mathlib.Omega.{arith}
use borrow.Author.Tests.{lt-ltb, le-ltb}
use lib.ListN.{length, take, drop, replicate}
use lib.Seq.{take_at}
use Rattle.changes.specs.Lists.{All}
use Rattle.answers.specs.Check.{Answered}
use Rattle.answers.specs.declared.answer.Answer.TheVariants.{Count, Done as Accepted}
use Rattle.answers.specs.Check.{Check}
use Rattle.std.proofs.Common.{Ok, Err}
use Rattle.answers.specs.declared.call.Call.TheVariants.{Reset, Ask}
use Rattle.answers.specs.declared.call.Format.{Format}
use Rattle.answers.specs.declared.call.Query.TheVariants.{Write}
use Rattle.answers.specs.declared.call.Reset.TheVariants.{Load}
use Rattle.answers.specs.declared.ground.Ground.TheVariants.{StateRange}
use Rattle.answers.specs.First.{Test, first}
use Rattle.answers.specs.Answers.{Said, accepted, refused, said_by, value_in, is_accepted, answered}
use Rattle.answers.proofs.Firsts.{first-met, first_not, new_is}
use Rattle.big_endian.specs.Bytes.{Byte}
use Rattle.image.specs.Image.{number_in}
use Rattle.formats.specs.Formats.{map_in as format_map, bytes_for, size_for}
use Rattle.formats.proofs.Laws.{bytes_length}
use Rattle.layout.specs.declared.head.Head.{Head}
use Rattle.unit.specs.Serve.{Reply}
use Rattle.soundness.specs.Checks.{state_grounds}
use Rattle.views.specs.Laid.{padded}
use Rattle.views.specs.View.{Shaped}
use Rattle.views.proofs.SoundFacts.{shaped}
use Rattle.state_maps.specs.Held.{HeldState}
use Rattle.snapshot.specs.Fresh.{fresh_head}
use Rattle.snapshot.specs.Snapshots.{load_check, load_table, load_journal, load_head}
use Rattle.exports.specs.Export.{state_bytes, state_size, state_over, room_grounds, write_check, write_answer}
use Rattle.exports.proofs.ImagesWritten.{write_ok, reads_back}
use Rattle.exports.proofs.Theorems.{written_loads, written_too_large, load_then_write, load_then_write_count, load_then_write_bytes}
use Rattle.exports.proofs.Writing.{but_room, held_passes, tip_check}
use Rattle.head_words.specs.HeadWords.{is_head, Fits}
use Rattle.head_words.proofs.Theorems.{words_Fits}
use Rattle.lent.specs.Codes.{code_of, value_of}
use Rattle.answers.specs.Counts.{tally_after}
use Rattle.calls.specs.Lent.{Left, settled_by}
use Rattle.unit.specs.Carried.{Carried, lent_to, next}
use Rattle.unit.specs.Serve.{reply_of}
use Rattle.history.specs.Plain.{load_of}
use Rattle.conditions.specs.CCalls.{Memory, carried_in, Result, CallOfC, CLoads}
use Rattle.conditions.specs.Serving.{Seen, CallOfServe, handed, loading, Loads}
use Rattle.conditions.specs.Written.{Naming, no_state, state, query_for, writing, bytes_left, map_at, named_at}
use Rattle.conditions.specs.Written.{IsSound, Holds, TooSmall, IsLoaded, Written}
use Rattle.conditions.proofs.CCalls.{StandsFor, code_is, code_asked, value_asked, bytes_asked, carried_is, head_fits}
use Rattle.conditions.proofs.CCalls.{code_accepted, unfit_code, accepted_anew, stands_anew}
use Rattle.conditions.proofs.Serves.{meant, Done, passed, done, seen_of, serves_seen, next_is}

module _ (format : Format) where
  -- the check of a writing, and the answer by it
  abbrev pub check_at : Carried → ℕ → ℕ → Check
  check_at k n room = write_check format k.table k.journal k.head n room

  pub answer_by : (k : Carried) (naming : Naming) (words out : List ℕ) (s : Seen) → CallOfServe k (writing format naming words out) s
      → s.reply.answer ≡ write_answer format k.table k.journal k.head (named_at k naming) (length out)
  answer_by k no_state words out s serves =
      ap (λ (r : Reply). r.answer) serves.0.0
      ∙ ap (λ (c : Check). answered c (Ok (Count (state_size format k.table k.journal k.head k.head.tip))))
      (sym (tip_check format k.table k.journal k.head (length out)))
  answer_by k (state n) words out s serves = ap (λ (r : Reply). r.answer) serves.0.0

  -- what is seen of a writing that is accepted
  pub record Wrote (k : Carried) (n : ℕ) (words out : List ℕ) (s : Seen) : Type 0 where
    pub answer : s.reply.answer ≡ Ok (Count (state_size format k.table k.journal k.head n))
    pub bytes : s.bytes ≡ state_over format k.table k.journal k.head n out
    pub same_words : s.words ≡ words

  pub wrote : (k : Carried) (naming : Naming) (words out : List ℕ) (s : Seen) → CallOfServe k (writing format naming words out) s
      → check_at k (named_at k naming) (length out) ≡ (Ok tt) → Wrote k (named_at k naming) words out s
  wrote k no_state words out s serves e =
      let d = done k (writing format no_state words out) s serves
      (sym (tip_check format k.table k.journal k.head (length out)) ∙ e) in
      record { answer = d.answer; bytes = d.bytes; same_words = d.words }
  wrote k (state n) words out s serves e =
      let d = done k (writing format (state n) words out) s serves e in
      record { answer = d.answer; bytes = d.bytes; same_words = d.words }

  was_passed : (k : Carried) (naming : Naming) (words out : List ℕ) (s : Seen) → CallOfServe k (writing format naming words out) s
      → is_accepted s.reply.answer ≡ true → check_at k (named_at k naming) (length out) ≡ (Ok tt)
  was_passed k no_state words out s serves y =
      tip_check format k.table k.journal k.head (length out) ∙ passed k (writing format no_state words out) s serves y
  was_passed k (state n) words out s serves y = passed k (writing format (state n) words out) s serves y

  -- the states that are kept, and the others
  module _ (k : Carried) (n : ℕ) (words out : List ℕ) (s : Seen) (sound : IsSound k)
      (serves : CallOfServe k (writing format (state n) words out) s) where
    module _ (low : k.head.checkpoint ≤ n) (high : n ≤ k.head.tip) where
      kept : HeldState k.table k.journal k.head n
      kept = record { lengths = sound.lengths; sound = sound.sound; low = low; high = high }

      pub writes_kept : size_for format (map_at k n) ≤ length out
          → (said_by s.reply.answer ≡ accepted (size_for format (map_at k n)))
          × (s.bytes ≡ bytes_for format n (map_at k n) ++ drop (size_for format (map_at k n)) out)
          × (s.words ≡ words)
      unfolding state_bytes state_size
      writes_kept room =
          let w = wrote k (state n) words out s serves
          (held_passes format k.table k.journal k.head n out kept (length out) room) in
          (ap said_by w.answer, w.bytes, w.same_words)

      pub refuses_short : length out < size_for format (map_at k n) → said_by s.reply.answer ≡ refused 17
      unfolding state_size
      refuses_short short =
          let e = but_room format k.table k.journal k.head n out kept (length out)
          ∙ first-met _ _ _ (lt-ltb (length out) (size_for format (map_at k n)) short) in
          ap said_by (answer_by k (state n) words out s serves
          ∙ ap (λ (c : Check). answered c (Ok (Count (size_for format (map_at k n))))) e)

    pub refuses_other : (k.head.checkpoint ≤ n → n ≤ k.head.tip → ⊥) → said_by s.reply.answer ≡ refused 11
    refuses_other not-kept =
        ap said_by
        (answer_by k (state n) words out s serves
        ∙ ap (λ (c : Check). answered c (Ok (Count (state_size format k.table k.journal k.head n))))
        (past-store ∙ by (dec_lt n k.head.checkpoint)))
      where
        rest : List Test
        rest = state_grounds k.head n ++ room_grounds format k.table k.journal k.head n (length out)

        past-store : check_at k n (length out) ≡ first rest
        past-store = first_not _ _ _ (ap not sound.lengths) ∙ first_not _ _ _ (ap not sound.sound)

        by : Dec (n < k.head.checkpoint) → first rest ≡ Err StateRange
        by (yes l) = first-met _ _ _ (lt-ltb n k.head.checkpoint l)
        by (no l) =
            let low : k.head.checkpoint ≤ n = omega arith in
            first_not _ _ _ (le-ltb n k.head.checkpoint low)
            ∙ first-met _ _ _ (lt-ltb k.head.tip n (above (dec_lt k.head.tip n)))
          where
            above : Dec (k.head.tip < n) → k.head.tip < n
            above (yes h) = h
            above (no h) = absurd (not-kept (omega arith) (omega arith))

  -- no state named is the tip named
  pub unnamed : (k : Carried) (words out : List ℕ) (s t : Seen) → CallOfServe k (writing format no_state words out) s
      → CallOfServe k (writing format (state k.head.tip) words out) t → s ≡ t
  unnamed k words out s t f g =
      let e = tip_check format k.table k.journal k.head (length out) in
      let l = lent_to k (writing format no_state words out) in
      let made = (meant k (writing format no_state words out)).accepted in
      let left : Check → Left = λ (c : Check). settled_by c made l in
      let seen : Check → Seen = λ (c : Check). record {
        reply = reply_of (left c);
        tally = tally_after k.tally k.head.checkpoint k.head.tip (Ask (Write format)) (left c).answer;
        table = (left c).lent.table;
        journal = (left c).lent.journal;
        words = (left c).lent.words;
        bytes = (left c).lent.bytes;
      } in
      (λ i. record { reply = f.0.0 i; tally = f.1 i; table = f.2 i; journal = f.3 i; words = f.4 i; bytes = f.5 i })
      ∙ ap seen (sym e)
      ∙ sym (λ i. record { reply = g.0.0 i; tally = g.1 i; table = g.2 i; journal = g.3 i; words = g.4 i; bytes = g.5 i })

  -- What an accepted call writes, loaded elsewhere.
  module _ (k : Carried) (naming : Naming) (words out : List ℕ) (s : Seen) (serves : CallOfServe k (writing format naming words out) s)
      (y : is_accepted s.reply.answer ≡ true) (p : Shaped k.head) (small : named_at k naming < 2 ^ 32) where
    abbrev n : ℕ
    n = named_at k naming

    abbrev file : List ℕ
    file = state_bytes format k.table k.journal k.head n

    check : check_at k n (length out) ≡ (Ok tt)
    check = was_passed k naming words out s serves y

    held : HeldState k.table k.journal k.head n
    held = (write_ok format k.table k.journal k.head n (length out) check).held

    -- the bytes by the count are those of the state
    bytes_written : bytes_left s ≡ file
    unfolding state_bytes state_size
    bytes_written =
        let w = wrote k naming words out s serves check in
        ap₂ (λ (a : Answered) (b : List ℕ). take (value_in (said_by a)) b) w.answer w.bytes
        ∙ take_at file (drop (size_for format (map_at k n)) out) (size_for format (map_at k n)) (bytes_length format n (map_at k n))

    module _ (k' : Carried) (depth : ℕ) (words' : List ℕ) (s' : Seen) (deep : depth ≤ 63)
        (loads : CallOfServe k' (loading words' (load_of depth format (bytes_left s))) s') where
      same : CallOfServe k' (loading words' (load_of depth format file)) s'
      same = subst (λ (b : List ℕ). CallOfServe k' (loading words' (load_of depth format b)) s') bytes_written loads

      pub too_large : TooSmall k' (map_at k n) → said_by s'.reply.answer ≡ refused 16
      too_large small' =
          let e = written_too_large format k.table k.journal k.head n p held small (length k'.table)
          (length k'.journal) depth
          small'.range deep small'.short in
          ap said_by (ap (λ (r : Reply). r.answer) same.0.0 ∙ ap (λ (c : Check). answered c (Ok Accepted)) e)

      module _ (h : Holds k' (map_at k n)) where
        loads_check : load_check k'.table k'.journal depth format file ≡ (Ok tt)
        loads_check =
            written_loads format k.table k.journal k.head n p held small (length k'.table) (length k'.journal) depth
            h.range deep h.room

        loaded : Done (meant k' (loading words' (load_of depth format file))).accepted s'
        loaded = done k' (loading words' (load_of depth format file)) s' same loads_check

        pub as_written : (is_accepted s'.reply.answer ≡ true) × IsLoaded k' (handed s') (map_at k n) n depth
        as_written =
            let back = reads_back format p held small in (
              ap is_accepted loaded.answer,
              record {
                table = loaded.table ∙ ap (padded (length k'.table)) back.2;
                journal = loaded.journal;
                head = loaded.head ∙ ap₂ (λ (used number : ℕ). fresh_head used number depth) (ap length back.2) back.1;
              },
            )

  module _ (k : Carried) (depth : ℕ) (bytes : List ℕ) (s : Seen) (small : All Byte bytes)
      (loads : Loads k (load_of depth format bytes) s) where
    load_check_lem : load_check k.table k.journal depth format bytes ≡ (Ok tt)
    load_check_lem = passed k (loading loads.words (load_of depth format bytes)) s loads.serves loads.accepted

    abbrev T : List ℕ
    T = load_table k.table k.journal depth format bytes

    abbrev J : List ℕ
    J = load_journal k.table k.journal depth format bytes

    abbrev H : Head
    H = load_head k.table k.journal depth format bytes k.head

    left : Done (meant k (loading loads.words (load_of depth format bytes))).accepted s
    left = done k (loading loads.words (load_of depth format bytes)) s loads.serves load_check_lem

    table_is : s.table ≡ T
    table_is = left.table ∙ sym (new_is load_check_lem (padded (length k.table) (format_map format bytes)) k.table)

    journal_is : s.journal ≡ J
    journal_is = left.journal ∙ sym (new_is load_check_lem (replicate (length k.journal) 0) k.journal)

    head_is : s.reply.head ≡ H
    head_is = left.head ∙ sym (new_is load_check_lem (fresh_head (length (format_map format bytes)) (number_in bytes) depth) k.head)

    module _ (words out : List ℕ) (s' : Seen) (room : length bytes ≤ length out)
        (serves : CallOfServe (handed s) (writing format no_state words out) s') where
      write_check_lem : check_at (handed s) s.reply.head.tip (length out) ≡ (Ok tt)
      write_check_lem =
          (λ i. write_check format (table_is i) (journal_is i) (head_is i) (head_is i).tip (length out))
          ∙ load_then_write format k.table k.journal bytes out depth k.head small load_check_lem room

      pub written_back : (said_by s'.reply.answer ≡ accepted (length bytes)) × (s'.bytes ≡ bytes ++ drop (length bytes) out)
      written_back = (
        ap said_by
            (answer_by (handed s) no_state words out s' serves
            ∙ (λ i. write_answer format (table_is i) (journal_is i) (head_is i) (head_is i).tip (length out))
            ∙ load_then_write_count format k.table k.journal bytes out depth k.head small load_check_lem room),
        (wrote (handed s) no_state words out s' serves write_check_lem).bytes
            ∙ (λ i. state_over format (table_is i) (journal_is i) (head_is i) (head_is i).tip out)
            ∙ load_then_write_bytes format k.table k.journal bytes out depth k.head small load_check_lem room,
      )

  -- The same of the C functions.
  module _ (m : Memory) (naming : Naming) (words out : List ℕ) (r : Result) (c : CallOfC m (writing format naming words out) r)
      (e : r.code ≡ 0) where
    abbrev k : Carried
    k = carried_in m

    abbrev s : Seen
    s = seen_of k (writing format naming words out)

    fit : is_head m.head ≡ true
    fit = unfit_code m words out r (is_head m.head) _ (sym c.promise.0.0 ∙ e)

    accepted_c : is_accepted s.reply.answer ≡ true
    accepted_c = code_accepted s.reply.answer (sym (code_asked m words out r (query_for format naming) c.promise fit) ∙ e)

    fits : Fits k.head
    fits = words_Fits m.head c.head_words

    shape : Shaped k.head
    shape = shaped k.head fits.eight_taken fits.eight_issued fits.all_ends

    check_c : check_at k (named_at k naming) (length out) ≡ (Ok tt)
    check_c = was_passed k naming words out s (serves_seen k (writing format naming words out)) accepted_c

    -- a state that is kept is at most the tip, which has 32 bits
    small_c : named_at k naming < 2 ^ 32
    small_c =
        omega (
          arith,
          (write_ok format k.table k.journal k.head (named_at k naming) (length out) check_c).held.high,
          fits.tip_low,
        )

    count_c : r.value ≡ value_in (said_by s.reply.answer)
    count_c =
        let w = wrote k naming words out s (serves_seen k (writing format naming words out)) check_c in
        value_asked m words out r (query_for format naming) c.promise fit
        ∙ ap (λ (a : Answered). value_of (said_by a) r.before) w.answer
        ∙ sym (ap (λ (a : Answered). value_in (said_by a)) w.answer)

    bytes_c : take r.value r.bytes ≡ bytes_left s
    bytes_c = ap₂ (λ (n : ℕ) (b : List ℕ). take n b) count_c (bytes_asked m words out r (query_for format naming) c.promise fit)

    module _ (m' : Memory) (depth : ℕ) (words' : List ℕ) (r' : Result) (deep : depth ≤ 63)
        (loads : CallOfC m' (loading words' (load_of depth format (take r.value r.bytes))) r') where
      abbrev s' : Seen
      s' = seen_of (carried_in m') (loading words' (load_of depth format (bytes_left s)))

      same_c : CallOfC m' (loading words' (load_of depth format (bytes_left s))) r'
      same_c = subst (λ (b : List ℕ). CallOfC m' (loading words' (load_of depth format b)) r') bytes_c loads

      code_s : r'.code ≡ code_of (said_by s'.reply.answer)
      code_s = code_is m' words' (bytes_left s) r' (Reset (Load depth format)) same_c.promise refl

      pub too_large_c : TooSmall (carried_in m') (map_at k (named_at k naming)) → r'.code ≡ 16
      too_large_c t =
          code_s
          ∙ ap code_of
          (too_large k naming words out s (serves_seen k (writing format naming words out)) accepted_c shape small_c
          (carried_in m') depth words' s' deep
          (serves_seen (carried_in m') (loading words' (load_of depth format (bytes_left s)))) t)

      module _ (h : Holds (carried_in m') (map_at k (named_at k naming))) where
        loaded_c : (is_accepted s'.reply.answer ≡ true)
            × IsLoaded (carried_in m') (handed s') (map_at k (named_at k naming)) (named_at k naming) depth
        loaded_c =
            as_written k naming words out s (serves_seen k (writing format naming words out)) accepted_c shape small_c
            (carried_in m') depth words' s' deep
            (serves_seen (carried_in m') (loading words' (load_of depth format (bytes_left s)))) h

        code_c : r'.code ≡ 0
        code_c =
            let a = loading words' (load_of depth format (bytes_left s)) in
            let d = done (carried_in m') a s' (serves_seen (carried_in m') a)
            (passed (carried_in m') a s' (serves_seen (carried_in m') a) loaded_c.0) in
            code_s ∙ ap (λ (x : Answered). code_of (said_by x)) d.answer

        pub as_written_c : (r'.code ≡ 0)
            × IsLoaded (carried_in m') (carried_in r'.memory) (map_at k (named_at k naming)) (named_at k naming) depth
        as_written_c =
            let stands = stands_anew m' (Load depth format) words' (bytes_left s) r' same_c code_c in (
              code_c,
              subst (λ (x : Carried). IsLoaded (carried_in m') x (map_at k (named_at k naming)) (named_at k naming) depth)
                  (next_is (carried_in m') (loading words' (load_of depth format (bytes_left s)))
                  ∙ sym (carried_is r'.memory _ stands)) loaded_c.1,
            )

  module _ (m : Memory) (depth : ℕ) (bytes : List ℕ) (r : Result) (l : CLoads m (load_of depth format bytes) r) where
    abbrev start : Carried
    start = carried_in m

    abbrev loaded_seen : Seen
    loaded_seen = seen_of start (loading l.words (load_of depth format bytes))

    Loads-c : Loads start (load_of depth format bytes) loaded_seen
    Loads-c = record {
      words = l.words;
      serves = serves_seen start (loading l.words (load_of depth format bytes));
      accepted = accepted_anew m (Load depth format) l.words bytes r l.serves l.accepted;
    }

    stands_c : StandsFor r.memory (next start (loading l.words (load_of depth format bytes)))
    stands_c = stands_anew m (Load depth format) l.words bytes r l.serves l.accepted

    module _ (words out : List ℕ) (r' : Result) (room : length bytes ≤ length out)
        (c : CallOfC r.memory (writing format no_state words out) r') where
      abbrev next_seen : Carried → Seen
      next_seen x = seen_of x (writing format no_state words out)

      fit_back : is_head r.memory.head ≡ true
      fit_back = head_fits r.memory (next start (loading l.words (load_of depth format bytes))) stands_c

      same_store : carried_in r.memory ≡ handed loaded_seen
      same_store = carried_is r.memory _ stands_c ∙ sym (next_is start (loading l.words (load_of depth format bytes)))

      said_back : (said_by (next_seen (handed loaded_seen)).reply.answer ≡ accepted (length bytes))
          × ((next_seen (handed loaded_seen)).bytes ≡ bytes ++ drop (length bytes) out)
      said_back =
          written_back start depth bytes loaded_seen l.serves.all_bytes Loads-c words out (next_seen (handed loaded_seen)) room
          (serves_seen (handed loaded_seen) (writing format no_state words out))

      pub written_back_c : (r'.code ≡ 0) × (r'.value ≡ length bytes) × (r'.bytes ≡ bytes ++ drop (length bytes) out)
      written_back_c =
          let said = ap (λ (x : Carried). said_by (next_seen x).reply.answer) same_store ∙ said_back.0 in (
            code_asked r.memory words out r' (query_for format no_state) c.promise fit_back ∙ ap code_of said,
            value_asked r.memory words out r' (query_for format no_state) c.promise fit_back
                ∙ ap (λ (x : Said). value_of x r'.before) said,
            bytes_asked r.memory words out r' (query_for format no_state) c.promise fit_back
                ∙ ap (λ (x : Carried). (next_seen x).bytes) same_store
                ∙ said_back.1,
          )

  pub written : Written format
  written = record {
    writes_every_kept_state = λ k n words out s sound low high room serves. writes_kept k n words out s sound serves low high room;
    refuses_other_states = λ k n words out s sound other serves. refuses_other k n words out s sound serves other;
    refuses_short_bytes = λ k n words out s sound low high short serves. refuses_short k n words out s sound serves low high short;
    no_state_is_the_tip = unnamed;
    written_loads = λ k naming words out s serves y p small k' depth words' s' h deep loads.
        as_written k naming words out s serves y p small k' depth words' s' deep loads h;
    written_too_large = λ k naming words out s serves y p small k' depth words' s' t deep loads.
        too_large k naming words out s serves y p small k' depth words' s' deep loads t;
    loaded_writes_back = written_back;
    c_written_loads = λ m naming words out r c e m' depth words' r' h deep loads.
        as_written_c m naming words out r c e m' depth words' r' deep loads h;
    c_written_too_large = λ m naming words out r c e m' depth words' r' t deep loads.
        too_large_c m naming words out r c e m' depth words' r' deep loads t;
    c_loaded_writes_back = written_back_c;
  }
