-- A head travels through its words: words that fit come back as they were, and so does a head whose fields fit.
-- Assumes nothing.
use mathlib.Core.Path.{◌≡◌, refl, sym, ap, ap₂, ◌∙◌}
use mathlib.Core.Bool.{Bool, true, false}
use mathlib.Core.List.{List, [], ◌∷◌, ◌++◌, map, append_assoc, append-nil}
use Prim.Native.Nat.{ℕ, zero, suc, ◌+◌, ◌%◌, ◌≤◌, ◌<◌}
use native.Mathlib.Omega.{arith}
use native.Mathlib.Nat.{mod-eq_of_lt, mod-lt}
use borrow.Author.Tests.{ltb-true, lt-ltb}
use lib.Dec.{ltb}
use lib.ListN.{length, length-map, length-append, length-drop, get_or, take, drop, take-append-drop, drop_of_length-le}
use lib.Seq.{take_at, drop_at, drop-drop, get_or-drop, length-take-le}
use Rattle.layout.specs.declared.head.Head.{Head}
use Rattle.layout.specs.Heads.{head_with}
use Rattle.layout.proofs.Holds.{all_first, all_rest, first_holds, last_test}
use Rattle.words.proofs.Parts.{next}
use Rattle.head_words.proofs.Below.{below_none, below_on}
use Rattle.head_words.proofs.BelowParts.{below_first, below_rest, below_both}
use Rattle.head_words.specs.HeadWords.{
  head_size,
  limit,
  mark_limit,
  flag_of,
  word_of,
  number_in,
  mark_in,
  from,
  head_of,
  words_of,
  are_below,
  is_head,
  Fits,
}

number_back : (w : ℕ) → w < limit → number_in w ≡ w
number_back w h = mod-eq_of_lt h

-- words below a number are what is left of them when they are cut to it
cut_back : (bound : ℕ) (l : List ℕ) → are_below bound l ≡ true → map (λ w. w % bound) l ≡ l
cut_back bound [] e = refl
cut_back bound (w ∷ l) e =
    ap₂ (λ (n : ℕ) (r : List ℕ). n ∷ r) (mod-eq_of_lt (below_first bound w l e)) (cut_back bound l (below_rest bound w l e))

flag_word : (w : ℕ) → w < 2 → word_of (flag_of w) ≡ w
flag_word zero h = refl
flag_word (suc zero) h = refl
flag_word (suc (suc w)) h = absurd (omega arith)

flag_words : (l : List ℕ) → are_below 2 l ≡ true → map word_of (map flag_of l) ≡ l
flag_words [] e = refl
flag_words (w ∷ l) e = ap₂ (λ (n : ℕ) (r : List ℕ). n ∷ r) (flag_word w (below_first 2 w l e)) (flag_words l (below_rest 2 w l e))

word_flag : (t : Bool) → flag_of (word_of t) ≡ t
word_flag true = refl
word_flag false = refl

word_flags : (l : List Bool) → map flag_of (map word_of l) ≡ l
word_flags [] = refl
word_flags (t ∷ l) = ap₂ (λ (s : Bool) (r : List Bool). s ∷ r) (word_flag t) (word_flags l)

-- words that fit come back
module _ (w : List ℕ) (long : length w ≡ head_size) (e : is_head w ≡ true) where
  states_fit : are_below limit (from 1 3 w) ≡ true
  states_fit = all_first (are_below limit (from 1 3 w)) _ e

  flags_fit : are_below 2 (from 4 8 w) ≡ true
  flags_fit = all_first (are_below 2 (from 4 8 w)) _ (all_rest (are_below limit (from 1 3 w)) _ e)

  issued_fit : are_below limit (from 12 8 w) ≡ true
  issued_fit =
      all_first (are_below limit (from 12 8 w)) _ (all_rest (are_below 2 (from 4 8 w)) _ (all_rest (are_below limit (from 1 3 w)) _ e))

  marks_fit : are_below mark_limit (from 20 64 w) ≡ true
  marks_fit =
      all_first (are_below mark_limit (from 20 64 w)) _
      (all_rest (are_below limit (from 12 8 w)) _ (all_rest (are_below 2 (from 4 8 w)) _ (all_rest (are_below limit (from 1 3 w)) _ e)))

  depth_fits : ltb (get_or w 84 0) limit ≡ true
  depth_fits =
      all_first (ltb (get_or w 84 0) limit) _
      (all_rest (are_below mark_limit (from 20 64 w)) _
      (all_rest (are_below limit (from 12 8 w)) _ (all_rest (are_below 2 (from 4 8 w)) _ (all_rest (are_below limit (from 1 3 w)) _ e))))

  three : drop 1 w ≡ get_or w 1 0 ∷ get_or w 2 0 ∷ get_or w 3 0 ∷ drop 4 w
  three =
      next w 1 (omega (arith, long))
      ∙ ap (λ (r : List ℕ). get_or w 1 0 ∷ r)
      (next w 2 (omega (arith, long)) ∙ ap (λ (r : List ℕ). get_or w 2 0 ∷ r) (next w 3 (omega (arith, long))))

  states : are_below limit (get_or w 1 0 ∷ get_or w 2 0 ∷ get_or w 3 0 ∷ []) ≡ true
  states = ap (λ (r : List ℕ). are_below limit (take 3 r)) (sym three) ∙ states_fit

  oldest_back : number_in (get_or w 1 0) ≡ get_or w 1 0
  oldest_back = number_back (get_or w 1 0) (below_first limit (get_or w 1 0) _ states)

  checkpoint_back : number_in (get_or w 2 0) ≡ get_or w 2 0
  checkpoint_back = number_back (get_or w 2 0) (below_first limit (get_or w 2 0) _ (below_rest limit (get_or w 1 0) _ states))

  tip_back : number_in (get_or w 3 0) ≡ get_or w 3 0
  tip_back =
      number_back (get_or w 3 0) (below_first limit (get_or w 3 0) _
      (below_rest limit (get_or w 2 0) _ (below_rest limit (get_or w 1 0) _ states)))

  numbers : (get_or w 0 0 ∷ number_in (get_or w 1 0) ∷ number_in (get_or w 2 0) ∷ number_in (get_or w 3 0) ∷ []) ++ drop 4 w ≡ w
  numbers =
      (λ i. get_or w 0 0 ∷ oldest_back i ∷ checkpoint_back i ∷ tip_back i ∷ drop 4 w)
      ∙ ap (λ (r : List ℕ). get_or w 0 0 ∷ r) (sym three)
      ∙ sym (next w 0 (omega (arith, long)))

  marks_back : map mark_in (from 20 64 w) ≡ from 20 64 w
  marks_back = cut_back mark_limit (from 20 64 w) marks_fit

  depth_back : number_in (get_or w 84 0) ∷ drop 85 w ≡ drop 84 w
  depth_back =
      ap (λ (n : ℕ). n ∷ drop 85 w) (number_back (get_or w 84 0) (ltb-true (get_or w 84 0) limit depth_fits))
      ∙ sym (next w 84 (omega (arith, long)))

  arrays : map word_of (map flag_of (from 4 8 w))
      ++ (map number_in (from 12 8 w) ++ (map mark_in (from 20 64 w) ++ (number_in (get_or w 84 0) ∷ drop 85 w))) ≡ drop 4 w
  arrays =
      ap₂ ◌++◌ (flag_words (from 4 8 w) flags_fit)
      (ap₂ ◌++◌ (cut_back limit (from 12 8 w) issued_fit)
      (ap₂ ◌++◌ marks_back (depth_back ∙ sym (drop-drop 64 20 w)) ∙ take-append-drop 64 (drop 20 w) ∙ sym (drop-drop 8 12 w))
      ∙ take-append-drop 8 (drop 12 w)
      ∙ sym (drop-drop 8 4 w))
      ∙ take-append-drop 8 (drop 4 w)

  -- the fields that tell what a store holds, with the words behind
  told_back : words_of (head_of w) ++ drop 85 w ≡ w
  told_back =
      let first = get_or w 0 0 ∷ number_in (get_or w 1 0) ∷ number_in (get_or w 2 0) ∷ number_in (get_or w 3 0) ∷ [] in
      let flags = map word_of (map flag_of (from 4 8 w)) in
      let issued = map number_in (from 12 8 w) in
      let ends = map mark_in (from 20 64 w) in
      let end = number_in (get_or w 84 0) ∷ drop 85 w in
      append_assoc (first ++ flags ++ issued ++ ends) (number_in (get_or w 84 0) ∷ []) (drop 85 w)
      ∙ append_assoc (first ++ flags ++ issued) ends end
      ∙ append_assoc (first ++ flags) issued (ends ++ end)
      ∙ append_assoc first flags (issued ++ (ends ++ end))
      ∙ ap (λ (r : List ℕ). first ++ r) arrays
      ∙ numbers

  pub words_back : words_of (head_of w) ≡ w
  words_back =
      sym (append-nil (words_of (head_of w)))
      ∙ ap (λ (r : List ℕ). words_of (head_of w) ++ r) (sym (drop_of_length-le w {i = 85} (omega (arith, long))))
      ∙ told_back

-- a head whose fields fit comes back: the fields that tell what a store holds, read from their words, whatever comes behind
module _ (head : Head) (f : Fits head) (behind : List ℕ) where
  abbrev words : List ℕ
  words = words_of head ++ behind

  abbrev end : List ℕ
  end = head.depth ∷ behind

  flags_long : length (map word_of head.taken) ≡ 8
  flags_long = length-map head.taken word_of ∙ f.eight_taken

  behind_four : drop 4 words ≡ map word_of head.taken ++ (head.issued ++ (head.ends ++ end))
  behind_four =
      append_assoc (map word_of head.taken ++ head.issued ++ head.ends) (head.depth ∷ []) behind
      ∙ append_assoc (map word_of head.taken ++ head.issued) head.ends end
      ∙ append_assoc (map word_of head.taken) head.issued (head.ends ++ end)

  taken_part : from 4 8 words ≡ map word_of head.taken
  taken_part = ap (take 8) behind_four ∙ take_at (map word_of head.taken) (head.issued ++ (head.ends ++ end)) 8 flags_long

  behind_twelve : drop 12 words ≡ head.issued ++ (head.ends ++ end)
  behind_twelve =
      sym (drop-drop 8 4 words) ∙ ap (drop 8) behind_four
      ∙ drop_at (map word_of head.taken) (head.issued ++ (head.ends ++ end)) 8 flags_long

  issued_part : from 12 8 words ≡ head.issued
  issued_part = ap (take 8) behind_twelve ∙ take_at head.issued (head.ends ++ end) 8 f.eight_issued

  behind_twenty : drop 20 words ≡ head.ends ++ end
  behind_twenty = sym (drop-drop 8 12 words) ∙ ap (drop 8) behind_twelve ∙ drop_at head.issued (head.ends ++ end) 8 f.eight_issued

  ends_part : from 20 64 words ≡ head.ends
  ends_part = ap (take 64) behind_twenty ∙ take_at head.ends end 64 f.all_ends

  behind_ends : drop 84 words ≡ end
  behind_ends = sym (drop-drop 64 20 words) ∙ ap (drop 64) behind_twenty ∙ drop_at head.ends end 64 f.all_ends

  depth_part : get_or words 84 0 ≡ head.depth
  depth_part = sym (get_or-drop 84 words 0 0) ∙ ap (λ (r : List ℕ). get_or r 0 0) behind_ends

  -- the words of a field that stands behind these are found there
  pub behind_told : drop 85 words ≡ behind
  behind_told = sym (drop-drop 1 84 words) ∙ ap (drop 1) behind_ends

  pub told_read : head_of words ≡ head_with (head_of words) head.used head.oldest head.checkpoint head.tip
      head.taken head.issued head.ends head.depth
  told_read i =
      head_with (head_of words)
      head.used
      (number_back head.oldest f.oldest_low i)
      (number_back head.checkpoint f.checkpoint_low i)
      (number_back head.tip f.tip_low i)
      ((ap (map flag_of) taken_part ∙ word_flags head.taken) i)
      ((ap (map number_in) issued_part ∙ cut_back limit head.issued f.issued_low) i)
      ((ap (map mark_in) ends_part ∙ cut_back mark_limit head.ends f.ends_low) i)
      ((ap number_in depth_part ∙ number_back head.depth f.depth_low) i)

pub head_back : (head : Head) → Fits head → head_of (words_of head) ≡ head
head_back head f = ap head_of (sym (append-nil (words_of head))) ∙ told_read head f []

-- where each field stands in the words
pub word_used : (head : Head) → get_or (words_of head) 0 0 ≡ head.used
word_used head = refl

pub word_oldest : (head : Head) → get_or (words_of head) 1 0 ≡ head.oldest
word_oldest head = refl

pub word_checkpoint : (head : Head) → get_or (words_of head) 2 0 ≡ head.checkpoint
word_checkpoint head = refl

pub word_tip : (head : Head) → get_or (words_of head) 3 0 ≡ head.tip
word_tip head = refl

pub words_taken : (head : Head) → Fits head → from 4 8 (words_of head) ≡ map word_of head.taken
words_taken head f = ap (from 4 8) (sym (append-nil (words_of head))) ∙ taken_part head f []

pub words_issued : (head : Head) → Fits head → from 12 8 (words_of head) ≡ head.issued
words_issued head f = ap (from 12 8) (sym (append-nil (words_of head))) ∙ issued_part head f []

pub words_ends : (head : Head) → Fits head → from 20 64 (words_of head) ≡ head.ends
words_ends head f = ap (from 20 64) (sym (append-nil (words_of head))) ∙ ends_part head f []

pub word_depth : (head : Head) → Fits head → get_or (words_of head) 84 0 ≡ head.depth
word_depth head f = ap (λ (r : List ℕ). get_or r 84 0) (sym (append-nil (words_of head))) ∙ depth_part head f []

-- a head whose fields fit has 85 words, which fit
pub words_long : (head : Head) → Fits head → length (words_of head) ≡ head_size
words_long head f =
    let first = head.used ∷ head.oldest ∷ head.checkpoint ∷ head.tip ∷ [] in
    let flags = map word_of head.taken in
    omega (
      arith,
      length-append first flags,
      length-append (first ++ flags) head.issued,
      length-append
          (first ++ flags ++ head.issued) head.ends,
      length-append (first ++ flags ++ head.issued ++ head.ends) (head.depth ∷ []),
      length-map head.taken word_of,
      f.eight_taken,
      f.eight_issued,
      f.all_ends,
    )

flags_below : (l : List Bool) → are_below 2 (map word_of l) ≡ true
flags_below [] = below_none 2
flags_below (true ∷ l) = below_on 2 1 (map word_of l) (omega arith) ∙ flags_below l
flags_below (false ∷ l) = below_on 2 0 (map word_of l) (omega arith) ∙ flags_below l

pub head_words_fit : (head : Head) → Fits head → is_head (words_of head) ≡ true
head_words_fit head f =
    first_holds (are_below limit (head.oldest ∷ head.checkpoint ∷ head.tip ∷ [])) _
    (below_on limit head.oldest _ f.oldest_low
    ∙ below_on limit head.checkpoint _ f.checkpoint_low
    ∙ below_on limit head.tip _ f.tip_low
    ∙ below_none limit)
    ∙ first_holds (are_below 2 (from 4 8 (words_of head))) _ (ap (are_below 2) (words_taken head f) ∙ flags_below head.taken)
    ∙ first_holds (are_below limit (from 12 8 (words_of head))) _ (ap (are_below limit) (words_issued head f) ∙ f.issued_low)
    ∙ first_holds (are_below mark_limit (from 20 64 (words_of head))) _ (ap (are_below mark_limit) (words_ends head f) ∙ f.ends_low)
    ∙ last_test (ltb (get_or (words_of head) 84 0) limit)
    ∙ ap (λ (n : ℕ). ltb n limit) (word_depth head f)
    ∙ lt-ltb head.depth limit f.depth_low

-- whatever 85 words hold, the fields of the head that is read from them fit
cut_low : (bound : ℕ) → 0 < bound → (l : List ℕ) → are_below bound (map (λ w. w % bound) l) ≡ true
cut_low bound h [] = below_none bound
cut_low bound h (w ∷ l) = below_both bound (w % bound) (map (λ w. w % bound) l) (mod-lt w h) (cut_low bound h l)

part_long : (w : List ℕ) (i n : ℕ) → i + n ≤ length w → length (from i n w) ≡ n
part_long w i n h = length-take-le n (drop i w) (omega (arith, length-drop i w))

pub words_Fits : (w : List ℕ) → length w ≡ head_size → Fits (head_of w)
words_Fits w long = record {
  oldest_low = mod-lt (get_or w 1 0) (omega arith);
  checkpoint_low = mod-lt (get_or w 2 0) (omega arith);
  tip_low = mod-lt (get_or w 3 0) (omega arith);
  eight_taken = length-map (from 4 8 w) flag_of ∙ part_long w 4 8 (omega (arith, long));
  eight_issued = length-map (from 12 8 w) number_in ∙ part_long w 12 8 (omega (arith, long));
  issued_low = cut_low limit (omega arith) (from 12 8 w);
  all_ends = length-map (from 20 64 w) mark_in ∙ part_long w 20 64 (omega (arith, long));
  ends_low = cut_low mark_limit (omega arith) (from 20 64 w);
  depth_low = mod-lt (get_or w 84 0) (omega arith);
}
