-- Restart, on views: "tip becomes anchor and all places close", and of the depth "restart keeps it". The checkpoint's map under
-- its number is left, and nothing else.
-- Assumes nothing.
use mathlib.Core.Path.{◌≡◌, sym, ap, ap₂, ◌∙◌}
use mathlib.Core.List.{List}
use Prim.Native.Nat.{ℕ, ◌^◌, ◌<◌}
use lib.ListN.{length, take, replicate}
use Rattle.std.proofs.Common.{Ok}
use Rattle.image.specs.Image.{count_in, number_in, words_in}
use Rattle.layout.specs.declared.head.Head.{Head}
use Rattle.views.specs.Laid.{padded}
use Rattle.views.specs.View.{Store}
use Rattle.views.proofs.Encodes.{Encodes}
use Rattle.snapshot.specs.Fresh.{fresh_head}
use Rattle.snapshot.specs.FreshView.{fresh_view}
use Rattle.snapshot.proofs.OnViews.{limits_of, fresh_encoded, fresh_Good}
use Rattle.restarts.specs.Restart.{restart_check, restart_image}
use Rattle.restarts.proofs.Restarting.{map_is, map_room, still_deep, number_back, words_back, count_back}

module _ (table journal : List ℕ) (head : Head) (room : ℕ) (e : restart_check table journal head room ≡ (Ok tt))
    (small : head.checkpoint < 2 ^ 32) where
  abbrev image : List ℕ
  image = restart_image table journal head

  abbrev restarted : Store
  restarted = record {
    table = padded (length table) (words_in image);
    journal = replicate (length journal) 0;
    head = fresh_head (count_in image) (number_in image) head.depth;
  }

  pub restart_leaves : Encodes restarted (fresh_head 0 0 0)
      (fresh_view (take head.used table) head.checkpoint head.depth (limits_of table journal))
  restart_leaves =
      record {
        is =
            (λ i. record { table = words i; journal = restarted.journal; head = numbers i })
            ∙ sym (fresh_encoded (take head.used table) head.checkpoint head.depth (limits_of table journal));
        good =
            fresh_Good (take head.used table) head.checkpoint head.depth (limits_of table journal)
            (map_is table journal head room e)
            (map_room table journal head room e)
            (still_deep table journal head room e);
      }
    where
      words : padded (length table) (words_in image) ≡ padded (length table) (take head.used table)
      words = ap (padded (length table)) (words_back table journal head room e small)

      numbers : fresh_head (count_in image) (number_in image) head.depth
          ≡ fresh_head (length (take head.used table)) head.checkpoint head.depth
      numbers =
          ap₂ (λ (used number : ℕ). fresh_head used number head.depth) (count_back table journal head room e small)
          (number_back table journal head room e small)
