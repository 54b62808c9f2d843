-- An array that `array::from_fn` makes of the words from a position on.
-- Assumes nothing.
use mathlib.Core.Path.{◌≡◌, sym, ap, subst, ◌∙◌}
use mathlib.Core.List.{List, map}
use Prim.Native.Nat.{ℕ, zero, suc, ◌+◌, ◌≤◌, ◌<◌}
use native.Mathlib.Decide.{ℕ_discrete}
use native.Mathlib.Omega.{arith}
use denote.Param.Members.{Mut}
use lib.ListN.{length, length-map, length-drop, get_or, drop}
use lib.Seq.{length-take-le}
use Rattle.std.proofs.lemmas.List.{ext_get_or, get_or-map, get_or-take, get_or-drop}
use Rattle.std.specs.Array.{IsFromFnResult, IsFromFnResultFrom}
use Rattle.std.specs.Fn.{Called}
use Rattle.head_words.specs.HeadWords.{from}

-- a closure that stays the same, and makes a field of each word
module _ {F A : Type 0} {g : Mut F (ℕ × Unit {0}) A} {f : F} (field : ℕ → A) (d : A) (words : List ℕ) (at : ℕ)
    (makes : (k : ℕ) (a : A) (f' : F) → Called g f (k, tt) a f' → (f' ≡ f) × (a ≡ field (get_or words (at + k) 0))) where
  made : (next : List A) (i n : ℕ) → IsFromFnResultFrom g f next i n → (k : ℕ) → i ≤ k → k < i + n
      → get_or next k d ≡ field (get_or words (at + k) 0)
  made next i zero h k low high = absurd (omega arith)
  made next i (suc n) h k low high =
      let call = makes i h.1 h.0 h.3 in
      go (ℕ_discrete k i) (h.2.1 d ∙ call.1)
      (λ l. made next (i + 1) n (subst (λ f'. IsFromFnResultFrom g f' next (i + 1) n) call.0 h.4) k l (omega arith))
    where
      go : Dec (k ≡ i) → get_or next i d ≡ field (get_or words (at + i) 0) → (i + 1 ≤ k → get_or next k d ≡ field (get_or words (at + k) 0))
          → get_or next k d ≡ field (get_or words (at + k) 0)
      go (yes e) here later = rw e here
      go (no e) here later = later (omega arith)

  pub array_is : (n : ℕ) (next : List A) → IsFromFnResult g f next n → at + n ≤ length words → next ≡ map field (from at n words)
  array_is n next h room =
      let part : length (from at n words) ≡ n = length-take-le n (drop at words) (omega (arith, length-drop at words)) in
      ext_get_or d next (map field (from at n words)) (h.long ∙ sym (length-map (from at n words) field ∙ part)) (λ k l.
      let here : k < n = omega (arith, h.long) in
      made next 0 n h.each k (omega arith) (omega arith)
      ∙ ap field (sym (get_or-take n (drop at words) k 0 here ∙ get_or-drop at words k 0))
      ∙ sym (get_or-map field (from at n words) k 0 d (omega arith)))
