-- Restart, on memory and head: "Restart writes the image into lent bytes and loads it back: tip becomes anchor and all places close."
-- The image is the checkpoint's: "Restart relied on the old default and must now name the anchor." (document 02, Q-2). A store has a depth,
-- and "restart keeps it" (Q-6).
-- "everything lent and the head keep their values" where a call is turned away.
-- Assumes nothing.
use Rattle.std.specs.Prelude.{List, ℕ, length, replicate}
use Rattle.answers.specs.Check.{Check}
use Rattle.answers.specs.declared.call.Format.TheVariants.{Image}
use Rattle.answers.specs.First.{Test, first, if_passed}
use Rattle.image.specs.Image.{count_in, number_in, words_in}
use Rattle.layout.specs.declared.head.Head.{Head}
use Rattle.views.specs.Laid.{padded}
use Rattle.exports.specs.Export.{state_bytes, state_over, own_grounds}
use Rattle.snapshot.specs.Fresh.{fresh_head}

-- grounds 1, 2, 17, the last by the checkpoint's image
abbrev pub restart_grounds : List ℕ → List ℕ → Head → ℕ → List Test
restart_grounds table journal head room = own_grounds Image table journal head head.checkpoint room

abbrev pub restart_check : List ℕ → List ℕ → Head → ℕ → Check
restart_check table journal head room = first (restart_grounds table journal head room)

-- the image that is loaded back
abbrev pub restart_image : List ℕ → List ℕ → Head → List ℕ
restart_image table journal head = state_bytes Image table journal head head.checkpoint

abbrev pub restart_head : List ℕ → List ℕ → Head → ℕ → Head
restart_head table journal head room =
    if_passed (restart_check table journal head room)
    (fresh_head (count_in (restart_image table journal head)) (number_in (restart_image table journal head)) head.depth)
    head

abbrev pub restart_table : List ℕ → List ℕ → Head → ℕ → List ℕ
restart_table table journal head room =
    if_passed (restart_check table journal head room) (padded (length table) (words_in (restart_image table journal head))) table

abbrev pub restart_journal : List ℕ → List ℕ → Head → ℕ → List ℕ
restart_journal table journal head room = if_passed (restart_check table journal head room) (replicate (length journal) 0) journal

abbrev pub restart_bytes : List ℕ → List ℕ → Head → List ℕ → List ℕ
restart_bytes table journal head bytes =
    if_passed (restart_check table journal head (length bytes)) (state_over Image table journal head head.checkpoint bytes) bytes
