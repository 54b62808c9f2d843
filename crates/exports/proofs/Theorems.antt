-- Condition 2, of images: "every image written loads, into a book that holds it, as the same map and state number, and every image
-- accepted is written back byte for byte."; and document 02, Q-2: "An image that names a state loads as that state's map.", and of a
-- state that holds more offers than a book "loading it elsewhere follows 16". The statements are about the definitions that the
-- contracts of load and write cite.
-- Assumes nothing.
use mathlib.Core.Path.{◌≡◌, refl, sym, ap, ap₂, subst, ◌∙◌}
use mathlib.Core.Bool.{true, not}
use mathlib.Core.List.{List, ◌++◌}
use Prim.Native.Nat.{ℕ, ◌-◌, ◌^◌, ◌≤◌, ◌<◌}
use native.Mathlib.Omega.{arith}
use borrow.Author.Tests.{lt-ltb, le-ltb, le-leb, not-false}
use lib.ListN.{length, take, drop, replicate, length-replicate}
use lib.Seq.{take_at}
use Rattle.changes.specs.Lists.{All}
use Rattle.answers.specs.Check.{Check}
use Rattle.std.proofs.Common.{Ok, Err}
use Rattle.answers.specs.declared.answer.Answer.TheVariants.{Count}
use Rattle.answers.specs.declared.call.Format.{Format}
use Rattle.answers.specs.declared.ground.Ground.TheVariants.{TableFull}
use Rattle.answers.specs.Answers.{answered}
use Rattle.answers.specs.First.{first}
use Rattle.answers.proofs.Firsts.{first-met, first_not, none_met, passed_not, new_is}
use Rattle.big_endian.specs.Bytes.{Byte}
use Rattle.image.specs.Image.{number_in}
use Rattle.formats.specs.Formats.{map_in, bytes_for, size_for}
use Rattle.formats.proofs.Laws.{accepted_writes_back, bytes_length}
use Rattle.layout.specs.declared.head.Head.{Head}
use Rattle.layout.specs.Clauses.{are_lengths}
use Rattle.layout.specs.States.{map_here}
use Rattle.soundness.specs.Sound.{is_sound}
use Rattle.soundness.specs.Facts.{Sound}
use Rattle.soundness.proofs.Sounds.{facts_Sound}
use Rattle.views.specs.View.{Store, Shaped, padded}
use Rattle.views.proofs.Encodes.{encodes_Sound}
use Rattle.views.proofs.SoundFacts.{shaped}
use Rattle.views.proofs.Views.{padded-length}
use Rattle.state_maps.specs.Held.{HeldState}
use Rattle.state_maps.proofs.MapSizes.{no_words, map_here_lem}
use Rattle.state_maps.proofs.Working.{state_facts}
use Rattle.snapshot.specs.Snapshots.{load_grounds, load_check, load_head, load_table, load_journal}
use Rattle.snapshot.specs.Fresh.{fresh_head}
use Rattle.snapshot.proofs.ImagesAccepted.{LoadOk, load_ok}
use Rattle.snapshot.proofs.OnViews.{load_leaves}
use Rattle.exports.specs.Export.{state_bytes, state_size, state_over, write_check, write_answer}
use Rattle.exports.proofs.ImagesWritten.{reads_back}
use Rattle.exports.proofs.Writing.{held_passes}

-- the image of a held state loads, into any memory in range whose table holds it, as the state's map and number
module _ (format : Format) (table journal : List ℕ) (head : Head) (state : ℕ) (p : Shaped head) (h : HeldState table journal head state)
    (small : state < 2 ^ 32) where
  abbrev bytes : List ℕ
  bytes = state_bytes format table journal head state

  pub written_loads : (table' journal' depth : ℕ) → are_lengths table' journal' ≡ true → depth ≤ 63
      → length (map_here table journal head state) ≤ table'
      → first (load_grounds table' journal' depth format bytes) ≡ (Ok tt)
  written_loads table' journal' depth l deep room =
      first_not _ _ _ (rw l)
      ∙ first_not _ _ _ (ap not (le-leb depth 63 deep))
      ∙ first_not _ _ _ (rw (reads_back format p h small).0)
      ∙ first_not _ _ _ (le-ltb table' (length (map_in format bytes)) (omega (arith, ap length (reads_back format p h small).2)))
      ∙ none_met

  -- and where the table is too small it is turned away by 16
  pub written_too_large : (table' journal' depth : ℕ) → are_lengths table' journal' ≡ true → depth ≤ 63 → table'
      < length (map_here table journal head state)
      → first (load_grounds table' journal' depth format bytes) ≡ Err TableFull
  written_too_large table' journal' depth l deep short =
      first_not _ _ _ (rw l)
      ∙ first_not _ _ _ (ap not (le-leb depth 63 deep))
      ∙ first_not _ _ _ (rw (reads_back format p h small).0)
      ∙ first-met _ _ _ (lt-ltb table' (length (map_in format bytes)) (omega (arith, ap length (reads_back format p h small).2)))

-- bytes that were accepted are written back byte for byte
pub loaded_writes_back : (format : Format) (table journal bytes : List ℕ) (depth : ℕ) → All Byte bytes
    → load_check table journal depth format bytes ≡ (Ok tt)
    → bytes_for format (number_in bytes) (map_in format bytes) ≡ bytes
loaded_writes_back format table journal bytes depth b e =
    accepted_writes_back format bytes b (load_ok (length table) (length journal) depth format bytes e).is

-- The same through the calls. After an accepted load the loaded state is checkpoint and tip. Writing it in the same format
-- into bytes that hold it is accepted, gives the length of what was loaded, and leaves the same bytes at their start.
module _ (format : Format) (table journal bytes out : List ℕ) (depth : ℕ) (head : Head) (small : All Byte bytes)
    (e : load_check table journal depth format bytes ≡ (Ok tt))
    (room : length bytes ≤ length out) where
  abbrev T : List ℕ
  T = load_table table journal depth format bytes

  abbrev J : List ℕ
  J = load_journal table journal depth format bytes

  abbrev H : Head
  H = load_head table journal depth format bytes head

  ok : LoadOk (length table) (length journal) depth format bytes
  ok = load_ok (length table) (length journal) depth format bytes e

  abbrev made : Store
  made = record {
    table = padded (length table) (map_in format bytes);
    journal = replicate (length journal) 0;
    head = fresh_head (length (map_in format bytes)) (number_in bytes) depth;
  }

  left_is : record { table = T; journal = J; head = H } ≡ made
  left_is i =
      record {
        table = new_is e made.table table i;
        journal = new_is e made.journal journal i;
        head = new_is e made.head head i;
      }

  head_is : H ≡ fresh_head (length (map_in format bytes)) (number_in bytes) depth
  head_is = ap (λ (s : Store). s.head) left_is

  used_is : H.used ≡ length (map_in format bytes)
  unfolding fresh_head
  used_is = ap (λ (h : Head). h.used) head_is

  checkpoint_is : H.checkpoint ≡ H.tip
  unfolding fresh_head
  checkpoint_is = ap (λ (h : Head). h.checkpoint) head_is ∙ sym (ap (λ (h : Head). h.tip) head_is)

  tip_is : H.tip ≡ number_in bytes
  unfolding fresh_head
  tip_is = ap (λ (h : Head). h.tip) head_is

  shape : Shaped H
  unfolding fresh_head
  shape = subst Shaped (sym head_is) (shaped (fresh_head (length (map_in format bytes)) (number_in bytes) depth) refl refl refl)

  lengths : are_lengths (length T) (length J) ≡ true
  lengths =
      ap₂ are_lengths
      (ap (λ (s : Store). length s.table) left_is ∙ padded-length (length table) (map_in format bytes) ok.room)
      (ap (λ (s : Store). length s.journal) left_is ∙ length-replicate (length journal) 0)
      ∙ not-false _ (passed_not _ _ _ e).0

  sound : is_sound T J H ≡ true
  sound =
      facts_Sound _ _ _
      (subst (λ (s : Store). Sound s.table s.journal s.head) (sym left_is)
      (encodes_Sound (load_leaves table journal depth format bytes e)))

  held : HeldState T J H H.tip
  held = record { lengths = lengths; sound = sound; low = omega (arith, checkpoint_is); high = omega arith }

  map_back : map_here T J H H.tip ≡ map_in format bytes
  map_back =
      map_here_lem (state_facts held) shape (no_words H H.tip (sym checkpoint_is))
      ∙ ap₂ take used_is (ap (λ (s : Store). s.table) left_is)
      ∙ take_at (map_in format bytes) (replicate (length table - length (map_in format bytes)) 0) (length (map_in format bytes)) refl

  bytes_are : state_bytes format T J H H.tip ≡ bytes
  unfolding state_bytes
  bytes_are = ap₂ (bytes_for format) tip_is map_back ∙ loaded_writes_back format table journal bytes depth small e

  size_is : state_size format T J H H.tip ≡ length bytes
  unfolding state_size
  size_is =
      ap (size_for format) map_back
      ∙ sym (bytes_length format (number_in bytes) (map_in format bytes))
      ∙ ap length (loaded_writes_back format table journal bytes depth small e)

  pub load_then_write : write_check format T J H H.tip (length out) ≡ (Ok tt)
  load_then_write = held_passes format T J H H.tip out held (length out) (omega (arith, size_is))

  pub load_then_write_count : write_answer format T J H H.tip (length out) ≡ Ok (Count (length bytes))
  load_then_write_count =
      ap (λ (o : Check). answered o (Ok (Count (state_size format T J H H.tip)))) load_then_write ∙ ap (λ (n : ℕ). Ok (Count n)) size_is

  pub load_then_write_bytes : state_over format T J H H.tip out ≡ bytes ++ drop (length bytes) out
  load_then_write_bytes = ap₂ (λ (i : List ℕ) (n : ℕ). i ++ drop n out) bytes_are size_is
