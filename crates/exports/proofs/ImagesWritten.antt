-- What an accepted writing of a state knows of its memory, and that what is written reads back as the state's number and map.
-- Assumes nothing.
use mathlib.Core.Path.{◌≡◌}
use mathlib.Core.Bool.{true}
use mathlib.Core.List.{List}
use Prim.Native.Nat.{ℕ, ◌^◌, ◌≤◌, ◌<◌}
use native.Mathlib.Omega.{arith}
use borrow.Author.Tests.{ltb-false, not-false}
use Rattle.std.proofs.Common.{Ok}
use Rattle.answers.specs.declared.call.Format.{Format}
use Rattle.answers.proofs.Firsts.{passed_not}
use Rattle.image.specs.Image.{number_in}
use Rattle.formats.specs.Formats.{is_of_format, map_in}
use Rattle.formats.proofs.Laws.{written_reads_back}
use Rattle.layout.specs.declared.head.Head.{Head}
use Rattle.layout.specs.States.{map_here}
use Rattle.soundness.proofs.Passed.{state_passed}
use Rattle.views.specs.View.{Shaped}
use Rattle.state_maps.specs.Held.{HeldState}
use Rattle.state_maps.proofs.MapSizes.{map_most, Map-kept}
use Rattle.state_maps.proofs.Working.{state_facts}
use Rattle.exports.specs.Export.{state_bytes, state_size, write_check}

pub record WriteOk (format : Format) (table journal : List ℕ) (head : Head) (state room : ℕ) : Type 0 where
  pub held : HeldState table journal head state
  pub fits : state_size format table journal head state ≤ room

pub write_ok : (format : Format) (table journal : List ℕ) (head : Head) (state room : ℕ)
    → write_check format table journal head state room ≡ (Ok tt)
    → WriteOk format table journal head state room
write_ok format table journal head state room e =
    let a = passed_not _ _ _ e in
    let b = passed_not _ _ _ a.1 in
    let c = state_passed head state _ b.1 in
    let d = passed_not _ _ _ c.1 in
    record {
      held = record { lengths = not-false _ a.0; sound = not-false _ b.0; low = c.0.0; high = c.0.1 };
      fits = ltb-false room (state_size format table journal head state) d.0;
    }

module _ (format : Format) {table journal : List ℕ} {head : Head} {state : ℕ} (p : Shaped head) (h : HeldState table journal head state)
    (small : state < 2 ^ 32) where
  pub reads_back : (is_of_format format (state_bytes format table journal head state) ≡ true)
      × (number_in (state_bytes format table journal head state) ≡ state)
      × (map_in format (state_bytes format table journal head state) ≡ map_here table journal head state)
  unfolding state_bytes
  reads_back =
      written_reads_back format state (map_here table journal head state) small (omega (arith, map_most (state_facts h) p))
      (Map-kept (state_facts h) p)
