-- The code, the value and since when of an answer, by what it comes to.
-- Assumes nothing.
use mathlib.Core.Path.{◌≡◌, refl}
use mathlib.Core.Bool.{true, false}
use Prim.Native.Nat.{ℕ}
use native.Mathlib.Omega.{arith}
use Rattle.answers.specs.Answers.{Said, accepted, refused, priced, without, is_granted, has_value, value_in, when_in, ground_in}
use Rattle.lent.specs.Codes.{no_price, code_of, value_of, since_word, since_of}

pub code_valued : (s : Said) → has_value s ≡ true → code_of s ≡ 0
code_valued (accepted n) e = refl
code_valued (refused n) e = absurd (let z : ◌≡◌ {A = ℕ} 0 1 = cc in omega arith)
code_valued (priced p since) e = refl
code_valued (without since) e = absurd (let z : ◌≡◌ {A = ℕ} 0 1 = cc in omega arith)

pub code_without : (s : Said) → has_value s ≡ false → is_granted s ≡ true → code_of s ≡ no_price
code_without (accepted n) e t = absurd (let z : ◌≡◌ {A = ℕ} 0 1 = cc in omega arith)
code_without (refused n) e t = absurd (let z : ◌≡◌ {A = ℕ} 0 1 = cc in omega arith)
code_without (priced p since) e t = absurd (let z : ◌≡◌ {A = ℕ} 0 1 = cc in omega arith)
code_without (without since) e t = refl

pub code_refused : (s : Said) → is_granted s ≡ false → code_of s ≡ ground_in s
code_refused (accepted n) e = refl
code_refused (refused n) e = refl
code_refused (priced p since) e = refl
code_refused (without since) e = absurd (let z : ◌≡◌ {A = ℕ} 0 1 = cc in omega arith)

pub value_is : (s : Said) (old : ℕ) → has_value s ≡ true → value_of s old ≡ value_in s
value_is (accepted n) old e = refl
value_is (refused n) old e = absurd (let z : ◌≡◌ {A = ℕ} 0 1 = cc in omega arith)
value_is (priced p since) old e = refl
value_is (without since) old e = absurd (let z : ◌≡◌ {A = ℕ} 0 1 = cc in omega arith)

pub value_stays : (s : Said) (old : ℕ) → has_value s ≡ false → value_of s old ≡ old
value_stays (accepted n) old e = absurd (let z : ◌≡◌ {A = ℕ} 0 1 = cc in omega arith)
value_stays (refused n) old e = refl
value_stays (priced p since) old e = absurd (let z : ◌≡◌ {A = ℕ} 0 1 = cc in omega arith)
value_stays (without since) old e = refl

pub since_is : (s : Said) (old : ℕ) → is_granted s ≡ true → since_of s old ≡ since_word (when_in s)
since_is (accepted n) old e = refl
since_is (refused n) old e = absurd (let z : ◌≡◌ {A = ℕ} 0 1 = cc in omega arith)
since_is (priced p since) old e = refl
since_is (without since) old e = refl

pub since_stays : (s : Said) (old : ℕ) → is_granted s ≡ false → since_of s old ≡ old
since_stays (accepted n) old e = absurd (let z : ◌≡◌ {A = ℕ} 0 1 = cc in omega arith)
since_stays (refused n) old e = refl
since_stays (priced p since) old e = absurd (let z : ◌≡◌ {A = ℕ} 0 1 = cc in omega arith)
since_stays (without since) old e = absurd (let z : ◌≡◌ {A = ℕ} 0 1 = cc in omega arith)
