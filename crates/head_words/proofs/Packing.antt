-- The words of a head, put one group after another.
-- Assumes nothing.
use mathlib.Core.Path.{◌≡◌, refl, sym, ap, ◌∙◌}
use mathlib.Core.Bool.{Bool, true, false}
use mathlib.Core.List.{List, [], ◌∷◌, ◌++◌, map}
use Prim.Native.Nat.{ℕ, ◌+◌, ◌≤◌}
use native.Mathlib.Omega.{arith}
use borrow.Rule.Slice.PartMut.{put_mid}
use lib.ListN.{length, length-append, length-drop, take, set, length-set}
use lib.Seq.{length-take-le}
use Rattle.std.proofs.lemmas.List.{take_all, take_more_set}
use Rattle.std.proofs.lemmas.Slice.{take-put_mid}
use Rattle.std.specs.Int.{from_bool}
use Rattle.head_words.specs.HeadWords.{word_of}

-- flags as words
pub flag_words : (flags : List Bool) → map from_bool flags ≡ map word_of flags
flag_words [] = refl
flag_words (true ∷ flags) = ap (λ l. 1 ∷ l) (flag_words flags)
flag_words (false ∷ flags) = ap (λ l. 0 ∷ l) (flag_words flags)

-- a slice keeps its length where a part of it is written
part_put : (at n : ℕ) (words part : List ℕ) → at + n ≤ length words → length part ≡ n → length (put_mid at n words part) ≡ length words
part_put at n words part room long =
    simp (length-append, length-drop) (omega (arith, length-take-le at words (omega arith)))

-- four numbers, three arrays and a number fill a slice that they have room in
module _ (words : List ℕ) (a b c d e : ℕ) (flags issued ends : List ℕ) (size : length words ≡ 85)
    (f : length flags ≡ 8) (i : length issued ≡ 8) (m : length ends ≡ 64) where
  abbrev numbers : List ℕ
  numbers = set (set (set (set words 0 a) 1 b) 2 c) 3 d

  numbers_long : length numbers ≡ 85
  numbers_long = simp length-set size

  numbers_first : take 4 numbers ≡ a ∷ b ∷ c ∷ d ∷ []
  numbers_first =
      let one = set words 0 a in
      let two = set one 1 b in
      let three = set two 2 c in
      let one_long = length-set words 0 a ∙ size in
      let two_long = length-set one 1 b ∙ one_long in
      let three_long = length-set two 2 c ∙ two_long in
      take_more_set three 3 d (omega (arith, three_long))
      ∙ ap (λ l. l ++ (d ∷ []))
      (take_more_set two 2 c (omega (arith, two_long))
      ∙ ap (λ l. l ++ (c ∷ []))
      (take_more_set one 1 b (omega (arith, one_long)) ∙ ap (λ l. l ++ (b ∷ [])) (take_more_set words 0 a (omega (arith, size)))))

  pub packed : set (put_mid 20 64 (put_mid 12 8 (put_mid 4 8 numbers flags) issued) ends) 84 e
      ≡ (a ∷ b ∷ c ∷ d ∷ []) ++ flags ++ issued ++ ends ++ (e ∷ [])
  packed =
      let one = put_mid 4 8 numbers flags in
      let two = put_mid 12 8 one issued in
      let three = put_mid 20 64 two ends in
      let one_long = part_put 4 8 numbers flags (omega (arith, numbers_long)) f ∙ numbers_long in
      let two_long = part_put 12 8 one issued (omega (arith, one_long)) i ∙ one_long in
      let three_long = part_put 20 64 two ends (omega (arith, two_long)) m ∙ two_long in
      let whole = length-set three 84 e ∙ three_long in
      sym (take_all 85 (set three 84 e) (omega (arith, whole)))
      ∙ take_more_set three 84 e (omega (arith, three_long))
      ∙ ap (λ l. l ++ (e ∷ []))
      (take-put_mid 20 64 two ends 84 (omega (arith, m)) (omega (arith, two_long))
      ∙ ap (λ l. l ++ ends)
      (take-put_mid 12 8 one issued 20 (omega (arith, i)) (omega (arith, one_long))
      ∙ ap (λ l. l ++ issued)
      (take-put_mid 4 8 numbers flags 12 (omega (arith, f)) (omega (arith, numbers_long)) ∙ ap (λ l. l ++ flags) numbers_first)))
