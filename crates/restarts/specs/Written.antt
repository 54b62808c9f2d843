-- The checkpoint's image, where a restart has written it to the start of lent bytes: what loading it back asks, and what it gives.
-- Assumes nothing.
use Rattle.std.specs.Prelude.{◌≡◌, true, Ok, List, ℕ, ◌≤◌, length, take}
use Rattle.answers.specs.declared.call.Format.TheVariants.{Image}
use Rattle.image.specs.Image.{is_image, count_in, number_in, words_in}
use Rattle.layout.specs.declared.head.Head.{Head}
use Rattle.exports.specs.Export.{state_over}
use Rattle.restarts.specs.Restart.{restart_check, restart_image}

pub record Written (table journal : List ℕ) (head : Head) (bytes left : List ℕ) (count : ℕ) : Type 0 where
  pub passed : restart_check table journal head (length bytes) ≡ Ok tt
  pub over : left ≡ state_over Image table journal head head.checkpoint bytes
  -- the image is the first so many bytes, is one, and has the checkpoint's number and the words of the table
  pub inside : count ≤ length left
  pub image : take count left ≡ restart_image table journal head
  pub tested : is_image (restart_image table journal head) ≡ true
  pub number : number_in (restart_image table journal head) ≡ head.checkpoint
  pub words : words_in (restart_image table journal head) ≡ take head.used table
  pub used : count_in (restart_image table journal head) ≡ head.used
  pub used_in : head.used ≤ length table
