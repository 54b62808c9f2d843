-- What a C program reads by position and by number, proved.
-- Assumes nothing.
use mathlib.Core.Path.{◌≡◌, refl}
use Prim.Native.Nat.{ℕ, ◌≤◌}
use native.Mathlib.Omega.{arith}
use borrow.Author.Tests.{ne_eqb}
use Rattle.answers.specs.declared.call.Caller.TheVariants.{Foyer}
use Rattle.lent.specs.Callers.{caller_of}
use Rattle.head_words.proofs.Theorems.{word_used, word_oldest, word_checkpoint, word_tip, words_taken, words_issued}
use Rattle.head_words.proofs.Theorems.{words_ends, word_depth, words_long}
use Rattle.conditions.specs.CLayout.{CLayout}

foyer : (n : ℕ) → 1 ≤ n → caller_of n ≡ Foyer
foyer n h = rw (ne_eqb n 0 (λ e. omega (arith, h, e))) refl

pub c_layout : CLayout
c_layout = record {
  used = word_used;
  oldest = word_oldest;
  checkpoint = word_checkpoint;
  tip = word_tip;
  taken = words_taken;
  issued = words_issued;
  ends = words_ends;
  depth = word_depth;
  size = words_long;
  tally = λ t. refl;
  caller_desk = refl;
  caller_foyer = foyer;
  code_accepted = λ n. refl;
  code_refused = λ n. refl;
  code_priced = λ p since. refl;
  code_no_price = λ since. refl;
  price_told = λ p old since. refl;
  price_kept = λ old since. refl;
  since_told = λ p n old. (refl, refl);
  since_table = λ p old. (refl, refl);
  refusal_kept = λ n old. (refl, refl);
}
