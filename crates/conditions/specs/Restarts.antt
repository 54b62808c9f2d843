-- Restarts: "Restart writes the image into lent bytes and loads it back: tip becomes anchor and all places close.", and document 02, Q-2:
-- "Restart relied on the old default and must now name the anchor."
-- Assumes nothing.
use Rattle.std.specs.Prelude.{◌≡◌, true, List, ℕ, ◌^◌, ◌<◌}
use Rattle.answers.specs.Answers.{said_by, ground_in, is_accepted}
use Rattle.answers.specs.declared.call.Call.TheVariants.{Reset}
use Rattle.answers.specs.declared.call.Format.TheVariants.{Image}
use Rattle.answers.specs.declared.call.Reset.TheVariants.{Restart}
use Rattle.unit.specs.Carried.{Carried}
use Rattle.conditions.specs.Runs.{lending}
use Rattle.conditions.specs.Serving.{Seen, CallOfServe, handed}
use Rattle.conditions.specs.Written.{state, writing, map_in, IsLoaded}

pub record Restarts : Type 0 where
  -- "Restart writes the image into lent bytes and loads it back", and "must now name the anchor": it is turned away where the writing of
  -- the checkpoint's image is, and by the same number;
  pub restart_refused_alike : (k : Carried) (words words' out : List ℕ) (s w : Seen)
      → CallOfServe k (lending (Reset Restart) words out) s → CallOfServe k (writing Image (state k.head.checkpoint) words' out) w
      → ground_in (said_by s.reply.answer) ≡ ground_in (said_by w.reply.answer)
  -- and where it is accepted, the bytes are those that this writing leaves, and the store is the one that a load of the image leaves:
  -- the table's own map, under the checkpoint's number, with the depth that it had (document 02, Q-6: "restart keeps it")
  pub restart_writes_and_loads : (k : Carried) (words out : List ℕ) (s : Seen)
      → CallOfServe k (lending (Reset Restart) words out) s → is_accepted s.reply.answer ≡ true → k.head.checkpoint < 2 ^ 32
      → ((words' : List ℕ) (w : Seen) → CallOfServe k (writing Image (state k.head.checkpoint) words' out) w
      → (is_accepted w.reply.answer ≡ true) × (s.bytes ≡ w.bytes))
      × (s.words ≡ words)
      × IsLoaded k (handed s) (map_in k) k.head.checkpoint k.head.depth
