-- The head that a call leaves fits its words: state numbers stay below 2^32, marks below 2^16, and the arrays keep their lengths.
-- Assumes nothing.
use mathlib.Core.Path.{◌≡◌, refl, sym, subst, ◌∙◌}
use mathlib.Core.Bool.{Bool, true, false}
use mathlib.Core.List.{List, [], ◌++◌, map}
use Prim.Native.Nat.{ℕ, zero, suc, ◌+◌, ◌-◌, ◌^◌, ◌≤◌, ◌<◌}
use native.Mathlib.Omega.{arith}
use lib.ListN.{length, take, drop, set, replicate, length-set, length-map, length-append, length-replicate, length-take, length-drop}
use Rattle.changes.specs.Lists.{All}
use Rattle.changes.proofs.Each.{all_take}
use Rattle.answers.specs.Check.{Check}
use Rattle.std.proofs.Common.{Ok, Err}
use Rattle.answers.specs.declared.call.Call.{Call}
use Rattle.answers.specs.declared.call.Call.TheVariants.{Reset, Step, Read, Ask}
use Rattle.answers.specs.declared.call.Read.TheVariants.{Issue, Forward, Release}
use Rattle.answers.specs.declared.call.Reset.TheVariants.{Clear, Load, Restart}
use Rattle.answers.specs.declared.call.Step.TheVariants.{Commit, RollBack, Flush}
use Rattle.big_endian.specs.Bytes.{Byte}
use Rattle.image.specs.Image.{number_in, count_in}
use Rattle.formats.specs.Formats.{map_in}
use Rattle.big_endian.proofs.Bytes.{value_small}
use Rattle.image.proofs.RoundTrip.{image_number}
use Rattle.layout.specs.declared.head.Head.{Head}
use Rattle.layout.specs.Heads.{head_with, with_steps, with_slots}
use Rattle.layout.specs.States.{held_of, map_here}
use Rattle.views.specs.Trim.{floor_of, gone_steps, gone_words, moved_ends, trimmed_head}
use Rattle.views.proofs.Laid.{padded-length}
use Rattle.views.proofs.SlotLists.{least_up_to}
use Rattle.slots.specs.Slots.{opened, closed_at}
use Rattle.snapshot.specs.Fresh.{fresh_head}
use Rattle.snapshot.proofs.ImagesAccepted.{fresh_passed}
use Rattle.exports.specs.Export.{state_bytes}
use Rattle.restarts.specs.Restart.{restart_image}
use Rattle.commits.specs.Commit.{used_of, with_step}
use Rattle.commits.proofs.CommitAccepted.{commit_ok, end_small}
use Rattle.rollbacks.specs.RollBack.{kept_of, cut_to}
use Rattle.rollbacks.proofs.RollBackAccepted.{roll_ok}
use Rattle.flushes.specs.Flush.{flushed_head}
use Rattle.flushes.proofs.Flushing.{flush_ok}
use Rattle.calls.specs.Lent.{Lent, Left, check_of, settled_by}
use Rattle.calls.specs.Meaning.{meaning, performed}
use Rattle.head_words.specs.HeadWords.{limit, mark_limit, are_below, Fits}
use Rattle.head_words.proofs.BelowParts.{below_set, below_take, below_drop, below_append, below_zeros, below_less}

module _ (head : Head) (f : Fits head) where
  -- a head with other fields that fit; the depth fits as it did
  Fits-with : (used oldest checkpoint tip : ℕ) (taken : List Bool) (issued ends : List ℕ)
      → oldest < limit → checkpoint < limit → tip < limit
      → length taken ≡ 8 → length issued ≡ 8 → are_below limit issued ≡ true → length ends ≡ 64
      → are_below mark_limit ends ≡ true
      → Fits (head_with head used oldest checkpoint tip taken issued ends head.depth)
  Fits-with used oldest checkpoint tip taken issued ends o c t lt li b le m = record {
    oldest_low = o;
    checkpoint_low = c;
    tip_low = t;
    eight_taken = lt;
    eight_issued = li;
    issued_low = b;
    all_ends = le;
    ends_low = m;
    depth_low = f.depth_low;
  }

  Fits-steps : (tip : ℕ) (ends : List ℕ) → tip < limit → length ends ≡ 64 → are_below mark_limit ends ≡ true
      → Fits (with_steps head tip ends)
  Fits-steps tip ends t e m =
      Fits-with head.used head.oldest head.checkpoint tip head.taken head.issued ends
      f.oldest_low f.checkpoint_low t f.eight_taken f.eight_issued f.issued_low e m

  Fits-slots : (taken : List Bool) (issued : List ℕ) → length taken ≡ 8 → length issued ≡ 8 → are_below limit issued ≡ true
      → Fits (with_slots head taken issued)
  Fits-slots taken issued lt li b =
      Fits-with head.used head.oldest head.checkpoint head.tip taken issued head.ends
      f.oldest_low f.checkpoint_low f.tip_low lt li b f.all_ends f.ends_low

  Fits-step : (held end : ℕ) → (head.tip ≡ 4294967295 → ⊥) → end < mark_limit → Fits (with_step head held end)
  unfolding with_step
  Fits-step held end not_last small =
      Fits-steps (head.tip + 1) (set head.ends held end) (omega (arith, f.tip_low, not_last))
      (length-set head.ends held end ∙ f.all_ends)
      (below_set mark_limit head.ends held end f.ends_low small)

  fits_cut : (kept state : ℕ) → kept ≤ 64 → state ≤ head.tip → Fits (cut_to head kept state)
  unfolding cut_to
  fits_cut kept state few high =
      Fits-steps state (take kept head.ends ++ replicate (64 - kept) 0) (omega (arith, f.tip_low))
      (simp (length-append, length-replicate, length-take) (omega (arith, f.all_ends)))
      (below_append mark_limit (take kept head.ends) (replicate (64 - kept) 0)
      (below_take mark_limit kept head.ends f.ends_low) (below_zeros mark_limit (64 - kept) (omega arith)))

  Fits-table : (used state : ℕ) → state ≤ head.tip → Fits (flushed_head head used state)
  unfolding flushed_head
  Fits-table used state high =
      Fits-with used head.oldest state head.tip head.taken head.issued head.ends
      f.oldest_low (omega (arith, f.tip_low)) f.tip_low f.eight_taken f.eight_issued f.issued_low
      f.all_ends f.ends_low

  Fits-opened : (slot : ℕ) → Fits (opened head slot)
  unfolding opened
  Fits-opened slot =
      Fits-slots (set head.taken slot true) (set head.issued slot head.checkpoint)
      (length-set head.taken slot true ∙ f.eight_taken)
      (length-set head.issued slot head.checkpoint ∙ f.eight_issued)
      (below_set limit head.issued slot head.checkpoint f.issued_low f.checkpoint_low)

  Fits-closed : (slot : ℕ) → Fits (closed_at head slot)
  unfolding closed_at
  Fits-closed slot =
      Fits-slots (set head.taken slot false) (set head.issued slot 0)
      (length-set head.taken slot false ∙ f.eight_taken)
      (length-set head.issued slot 0 ∙ f.eight_issued)
      (below_set limit head.issued slot 0 f.issued_low (omega arith))

  moved_short : (from to words : ℕ) → length (map (λ e. e - words) (take (to - from) (drop from head.ends))) ≤ 64
  moved_short from to words = simp (length-map, length-take, length-drop) (omega (arith, f.all_ends))

  moved_low : (from to words : ℕ) → are_below mark_limit (moved_ends head.ends from to words) ≡ true
  moved_low from to words =
      let kept = take (to - from) (drop from head.ends) in
      below_append mark_limit (map (λ e. e - words) kept) (replicate (64 - length (map (λ e. e - words) kept)) 0)
      (below_less mark_limit words kept
      (below_take mark_limit (to - from) (drop from head.ends) (below_drop mark_limit from head.ends f.ends_low)))
      (below_zeros mark_limit (64 - length (map (λ e. e - words) kept)) (omega arith))

  Fits-trimmed : Fits (trimmed_head head)
  unfolding trimmed_head
  Fits-trimmed =
      Fits-with head.used (floor_of head) head.checkpoint head.tip head.taken head.issued
      (moved_ends head.ends (gone_steps head) (held_of head) (gone_words head))
      (omega (arith, f.checkpoint_low, least_up_to head.checkpoint head.taken head.issued))
      f.checkpoint_low f.tip_low f.eight_taken f.eight_issued f.issued_low
      (padded-length 64 (map (λ e. e - gone_words head) (take (held_of head - gone_steps head) (drop (gone_steps head) head.ends)))
      (moved_short (gone_steps head) (held_of head) (gone_words head)))
      (moved_low (gone_steps head) (held_of head) (gone_words head))

fits_fresh : (used number depth : ℕ) → number < limit → depth < limit → Fits (fresh_head used number depth)
unfolding fresh_head are_below
fits_fresh used number depth h d = record {
  oldest_low = h;
  checkpoint_low = h;
  tip_low = h;
  eight_taken = refl;
  eight_issued = refl;
  issued_low = refl;
  all_ends = refl;
  ends_low = refl;
  depth_low = d;
}

-- the state number in bytes
four_bytes : (n : ℕ) → n ≤ 4 → 256 ^ n ≤ limit
four_bytes zero h = omega arith
four_bytes (suc zero) h = omega arith
four_bytes (suc (suc zero)) h = omega arith
four_bytes (suc (suc (suc zero))) h = omega arith
four_bytes (suc (suc (suc (suc zero)))) h = omega arith
four_bytes (suc (suc (suc (suc (suc n))))) h = absurd (omega arith)

pub number_low : (bytes : List ℕ) → All Byte bytes → number_in bytes < limit
unfolding number_in
number_low bytes h =
    let few : length (take 4 bytes) ≤ 4 = simp (length-take) (omega arith) in
    omega (arith, value_small (take 4 bytes) (all_take Byte 4 bytes h), four_bytes (length (take 4 bytes)) few)

-- the number in the image that a restart loads back
number_is : (table journal : List ℕ) (head : Head) → head.checkpoint < limit
    → number_in (restart_image table journal head) ≡ head.checkpoint
unfolding state_bytes
number_is table journal head small = image_number head.checkpoint (map_here table journal head head.checkpoint) small

by_check : (l : Lent) (c : Check) (made : Left) → Fits l.head → (c ≡ (Ok tt) → Fits made.lent.head)
    → Fits (settled_by c made l).lent.head
by_check l (Ok tt) made f g = g refl
by_check l (Err ground) made f g = f

module _ (l : Lent) (f : Fits l.head) (bytes : All Byte l.bytes) where
  accepted-Fits : (call : Call) → check_of (meaning l call) ≡ (Ok tt) → Fits (meaning l call).accepted.lent.head
  accepted-Fits (Reset (Clear depth)) e =
      fits_fresh 0 0 depth (omega arith) (omega (arith, (fresh_passed (length l.table) (length l.journal) depth [] e).0.1))
  accepted-Fits (Reset (Load depth format)) e =
      fits_fresh (length (map_in format l.bytes)) (number_in l.bytes) depth (number_low l.bytes bytes)
      (omega (arith, (fresh_passed (length l.table) (length l.journal) depth _ e).0.1))
  accepted-Fits (Reset Restart) e =
      let image = restart_image l.table l.journal l.head in
      fits_fresh (count_in image) (number_in image) l.head.depth
      (subst (λ (n : ℕ). n < limit) (sym (number_is l.table l.journal l.head f.checkpoint_low))
      f.checkpoint_low) f.depth_low
  accepted-Fits (Step Commit) e =
      let ok = commit_ok l.table l.journal l.head l.words e in
      Fits-step l.head f (held_of l.head) (used_of l.head + length l.words) ok.not_last
      (omega (arith, end_small ok (used_of l.head) refl))
  accepted-Fits (Step (RollBack state)) e =
      let ok = roll_ok l.table l.journal l.head state e in
      fits_cut l.head f (kept_of l.head state) state (omega (arith, ok.sound.few, ok.high)) ok.high
  accepted-Fits (Step (Flush state)) e =
      let ok = flush_ok l.table l.journal l.head state e in
      let used = length (map_here l.table l.journal l.head state) in
      Fits-trimmed (flushed_head l.head used state) (Fits-table l.head f used state ok.high)
  accepted-Fits (Read (Issue reader)) e = Fits-opened l.head f reader.slot
  accepted-Fits (Read (Forward reader state)) e = Fits-trimmed (closed_at l.head reader.slot) (Fits-closed l.head f reader.slot)
  accepted-Fits (Read (Release reader)) e = Fits-trimmed (closed_at l.head reader.slot) (Fits-closed l.head f reader.slot)
  accepted-Fits (Ask query) e = f

  pub fits_after : (call : Call) → Fits (performed l call).lent.head
  fits_after call = by_check l (check_of (meaning l call)) (meaning l call).accepted f (accepted-Fits call)
