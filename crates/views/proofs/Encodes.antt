-- Memory that is the encoding of a view which it can hold: it is sound, and decodes to that view.
-- Assumes nothing.
use mathlib.Core.Path.{◌≡◌, sym, ap, subst, ◌∙◌}
use Rattle.layout.specs.declared.head.Head.{Head}
use Rattle.soundness.specs.Facts.{Sound}
use Rattle.views.specs.View.{Store, View, encode, decode, Good}
use Rattle.views.proofs.Views.{encoded_Sound, decoded}

pub record Encodes (s : Store) (h : Head) (v : View) : Type 0 where
  pub is : s ≡ encode h v
  pub good : Good v

module _ {s : Store} {h : Head} {v : View} (e : Encodes s h v) where
  pub encodes_decoded : decode s ≡ v
  encodes_decoded = ap decode e.is ∙ decoded h v e.good

  -- a sound store stays sound
  pub encodes_Sound : Sound s.table s.journal s.head
  encodes_Sound = subst (λ (t : Store). Sound t.table t.journal t.head) (sym e.is) (encoded_Sound h v e.good)
