-- A choice by a test whose status is known.
-- Assumes nothing.
use mathlib.Core.Path.{◌≡◌, ap}
use mathlib.Core.Bool.{Bool, true, false, cond}

pub chosen : {A : Type 0} {t : Bool} → t ≡ true → (x y : A) → cond t x y ≡ x
chosen e x y = ap (λ (t : Bool). cond t x y) e

pub passed : {A : Type 0} {t : Bool} → t ≡ false → (x y : A) → cond t x y ≡ y
passed e x y = ap (λ (t : Bool). cond t x y) e
