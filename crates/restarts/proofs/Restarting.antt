-- What a restart knows of the image that it wrote, and what it leaves.
-- Assumes nothing.
use mathlib.Core.Path.{◌≡◌, refl, sym, ap, ◌∙◌}
use mathlib.Core.Bool.{true}
use mathlib.Core.List.{List}
use Prim.Native.Nat.{ℕ, ◌^◌, ◌≤◌, ◌<◌}
use native.Mathlib.Omega.{arith}
use lib.ListN.{length, take, length-append}
use lib.Seq.{take_at}
use Rattle.changes.specs.Lists.{Map}
use Rattle.answers.specs.declared.answer.Answer.TheVariants.{Count}
use Rattle.answers.specs.Check.{Check}
use Rattle.answers.specs.declared.ground.Ground.{Ground}
use Rattle.std.proofs.Common.{Ok, Err}
use Rattle.std.specs.Prelude.{Result, MatchResult}
use Rattle.answers.specs.declared.call.Format.TheVariants.{Image}
use Rattle.answers.specs.Answers.{answered}
use Rattle.answers.proofs.Firsts.{new_is, old_is}
use Rattle.image.specs.Image.{is_image, count_in, number_in, words_in, image_of}
use Rattle.image.proofs.RoundTrip.{image_length}
use Rattle.image.proofs.Theorems.{written_reads_back}
use Rattle.image.proofs.Words.{words_in-length}
use Rattle.layout.specs.declared.head.Head.{Head}
use Rattle.layout.specs.States.{map_here}
use Rattle.soundness.specs.Facts.{StoreOk}
use Rattle.soundness.proofs.Passed.{store_passed}
use Rattle.views.proofs.SoundFacts.{used_long}
use Rattle.state_maps.proofs.MapSizes.{map_at_checkpoint}
use Rattle.exports.proofs.Writing.{own_check_lem}
use Rattle.exports.specs.Export.{answer_of, state_bytes, state_size, state_over, write_check, write_answer, write_bytes}
use Rattle.restarts.specs.Written.{Written}
use Rattle.restarts.specs.Restart.{restart_check, restart_image}

module _ (table journal : List ℕ) (head : Head) where
  -- the grounds are those of writing the image with the checkpoint named
  pub names_checkpoint : (room : ℕ) → write_check Image table journal head head.checkpoint room ≡ restart_check table journal head room
  names_checkpoint room = own_check_lem Image table journal head head.checkpoint (λ s. (omega arith, s.high)) room

  -- an accepted restart: the image is that of the table's map, and reads back as it
  module _ (room : ℕ) (e : restart_check table journal head room ≡ (Ok tt)) where
    ok : StoreOk table journal head
    ok = (store_passed table journal head _ e).0

    image_here : restart_image table journal head ≡ image_of head.checkpoint (take head.used table)
    unfolding state_bytes
    image_here = ap (image_of head.checkpoint) (map_at_checkpoint table journal head ok.sound)

    pub map_is : Map (take head.used table)
    map_is = ok.sound.map

    pub still_deep : head.depth ≤ 63
    still_deep = ok.sound.deep

    pub map_room : length (take head.used table) ≤ length table
    map_room = omega (arith, used_long ok.sound, ok.sound.used_in)

    module _ (small : head.checkpoint < 2 ^ 32) where
      back : (is_image (restart_image table journal head) ≡ true)
          × (number_in (restart_image table journal head) ≡ head.checkpoint)
          × (words_in (restart_image table journal head) ≡ take head.used table)
      back =
          rw image_here
          (written_reads_back head.checkpoint (take head.used table) small (omega (arith, map_room, ok.range.table_most)) map_is)

      pub number_back : number_in (restart_image table journal head) ≡ head.checkpoint
      number_back = back.1

      pub words_back : words_in (restart_image table journal head) ≡ take head.used table
      words_back = back.2

      pub count_back : count_in (restart_image table journal head) ≡ length (take head.used table)
      count_back = sym (words_in-length (restart_image table journal head)) ∙ ap length words_back

  -- the image as it was written: as many bytes as its size, or none where a ground is met
  module _ (bytes left : List ℕ) (el : left ≡ write_bytes Image table journal head head.checkpoint bytes) where
    written : {n : ℕ} → write_check Image table journal head head.checkpoint (length bytes) ≡ (Ok tt)
        → n ≡ state_size Image table journal head head.checkpoint → head.checkpoint < 2 ^ 32 → Written table journal head bytes left n
    unfolding state_bytes state_size
    written {n} e en small =
        let passed = sym (names_checkpoint (length bytes)) ∙ e in
        let over : left ≡ state_over Image table journal head head.checkpoint bytes = el ∙ new_is e _ _ in
        let long : length (restart_image table journal head) ≡ n =
        image_length head.checkpoint (map_here table journal head head.checkpoint) ∙ sym en in
        let b = back (length bytes) passed small in
        record {
          passed = passed;
          over = over;
          inside = omega (arith, long, simp length-append at (ap length over));
          image = ap (take n) over ∙ take_at (restart_image table journal head) _ n long;
          tested = b.0;
          number = b.1;
          words = b.2;
          used = count_back (length bytes) passed small ∙ used_long (ok (length bytes) passed).sound;
          used_in = (ok (length bytes) passed).sound.used_in;
        }

    pub checkpoint_written : (result : Result ℕ Ground)
        → answer_of result ≡ write_answer Image table journal head head.checkpoint (length bytes) → head.checkpoint < 2 ^ 32
        → MatchResult result (λ n. Written table journal head bytes left n)
        (λ why. (restart_check table journal head (length bytes) ≡ Err why) × (left ≡ bytes))
    checkpoint_written result ea small = go result (write_check Image table journal head head.checkpoint (length bytes)) refl ea
      where
        go : (r : Result ℕ Ground) (check : Check) → write_check Image table journal head head.checkpoint (length bytes) ≡ check
            → answer_of r ≡ answered check (Ok (Count (state_size Image table journal head head.checkpoint)))
            → MatchResult r (λ n. Written table journal head bytes left n)
            (λ why. (restart_check table journal head (length bytes) ≡ Err why) × (left ≡ bytes))
        go (Ok n) (Ok tt) ec er =
            let en : n ≡ state_size Image table journal head head.checkpoint = cc in
            written ec en small
        go (Ok n) (Err g) ec er = absurd (let z : ◌≡◌ {A = ℕ} 0 1 = cc in omega arith)
        go (Err why) (Ok tt) ec er = absurd (let z : ◌≡◌ {A = ℕ} 0 1 = cc in omega arith)
        go (Err why) (Err g) ec er =
            let same : ◌≡◌ {A = Check} (Err g) (Err why) = cc in
            (sym (names_checkpoint (length bytes)) ∙ ec ∙ same, el ∙ old_is ec _ _)
