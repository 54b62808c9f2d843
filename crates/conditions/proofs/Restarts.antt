-- Restarts, proved of the calls.
-- Assumes nothing.
use mathlib.Core.Path.{◌≡◌, refl, sym, ap, ap₂, ◌∙◌}
use mathlib.Core.Bool.{true}
use mathlib.Core.List.{List}
use Prim.Native.Nat.{ℕ, ◌^◌, ◌<◌}
use lib.ListN.{length}
use Rattle.answers.specs.Check.{Answered}
use Rattle.answers.specs.declared.answer.Answer.TheVariants.{Count, Done as Accepted}
use Rattle.answers.specs.Check.{Check}
use Rattle.std.proofs.Common.{Ok, Err}
use Rattle.answers.specs.declared.call.Call.TheVariants.{Reset}
use Rattle.answers.specs.declared.call.Format.TheVariants.{Image}
use Rattle.answers.specs.declared.call.Reset.TheVariants.{Restart}
use Rattle.answers.specs.Answers.{said_by, ground_in, is_accepted, answered}
use Rattle.unit.specs.Serve.{Reply}
use Rattle.views.specs.Laid.{padded}
use Rattle.snapshot.specs.Fresh.{fresh_head}
use Rattle.exports.specs.Export.{state_size}
use Rattle.restarts.specs.Restart.{restart_check}
use Rattle.restarts.proofs.Restarting.{names_checkpoint, number_back, words_back, count_back as restart-count}
use Rattle.unit.specs.Carried.{Carried}
use Rattle.conditions.specs.Restarts.{Restarts}
use Rattle.conditions.specs.Runs.{lending}
use Rattle.conditions.specs.Serving.{Seen, CallOfServe, handed}
use Rattle.conditions.specs.Written.{state, writing, map_in, IsLoaded}
use Rattle.conditions.proofs.Serves.{meant, Done, passed, done}
use Rattle.conditions.proofs.Written.{check_at, answer_by, wrote}

-- A restart: its grounds are those of writing the checkpoint's image.
module _ (k : Carried) (words out : List ℕ) (s : Seen) (serves : CallOfServe k (lending (Reset Restart) words out) s) where
  abbrev named : Check
  named = check_at Image k k.head.checkpoint (length out)

  ground_alike : (c : Check) (a b : Answered) → ground_in (said_by a) ≡ 0 → ground_in (said_by b) ≡ 0
      → ground_in (said_by (answered c a)) ≡ ground_in (said_by (answered c b))
  ground_alike (Ok tt) a b e f = e ∙ sym f
  ground_alike (Err g) a b e f = refl

  pub restart_alike : (words' : List ℕ) (w : Seen) → CallOfServe k (writing Image (state k.head.checkpoint) words' out) w
      → ground_in (said_by s.reply.answer) ≡ ground_in (said_by w.reply.answer)
  restart_alike words' w writes =
      let size = state_size Image k.table k.journal k.head k.head.checkpoint in
      ap (λ (r : Reply). ground_in (said_by r.answer)) serves.0.0
      ∙ ap (λ (c : Check). ground_in (said_by (answered c (Ok Accepted)))) (sym (names_checkpoint k.table k.journal k.head (length out)))
      ∙ ground_alike named (Ok Accepted) (Ok (Count size)) refl refl
      ∙ sym (ap (λ (a : Answered). ground_in (said_by a)) (answer_by Image k (state k.head.checkpoint) words' out w writes))

  module _ (y : is_accepted s.reply.answer ≡ true) (small : k.head.checkpoint < 2 ^ 32) where
    restart_check_lem : restart_check k.table k.journal k.head (length out) ≡ (Ok tt)
    restart_check_lem = passed k (lending (Reset Restart) words out) s serves y

    restarted : Done (meant k (lending (Reset Restart) words out)).accepted s
    restarted = done k (lending (Reset Restart) words out) s serves restart_check_lem

    same_bytes : (words' : List ℕ) (w : Seen) → CallOfServe k (writing Image (state k.head.checkpoint) words' out) w
        → (is_accepted w.reply.answer ≡ true) × (s.bytes ≡ w.bytes)
    same_bytes words' w writes =
        let d = wrote Image k (state k.head.checkpoint) words' out w writes
        (names_checkpoint k.table k.journal k.head (length out) ∙ restart_check_lem) in
        (ap is_accepted d.answer, restarted.bytes ∙ sym d.bytes)

    pub restart_as_written : ((words' : List ℕ) (w : Seen) → CallOfServe k (writing Image (state k.head.checkpoint) words' out) w
        → (is_accepted w.reply.answer ≡ true) × (s.bytes ≡ w.bytes))
        × (s.words ≡ words)
        × IsLoaded k (handed s) (map_in k) k.head.checkpoint k.head.depth
    restart_as_written =
        let back = words_back k.table k.journal k.head (length out) restart_check_lem small in
        let number = number_back k.table k.journal k.head (length out) restart_check_lem small in
        let count = restart-count k.table k.journal k.head (length out) restart_check_lem small in (
          same_bytes,
          restarted.words,
          record {
            table = restarted.table ∙ ap (padded (length k.table)) back;
            journal = restarted.journal;
            head = restarted.head ∙ ap₂ (λ (used n : ℕ). fresh_head used n k.head.depth) count number;
          },
        )

pub restarts : Restarts
restarts = record {
  restart_refused_alike = λ k words words' out s w serves writes. restart_alike k words out s serves words' w writes;
  restart_writes_and_loads = restart_as_written;
}
