-- The first 64,007 bytes of an input tell what is printed of it.
-- Assumes nothing.
use mathlib.Core.Path.{◌≡◌, sym, ap, ◌∙◌, subst}
use mathlib.Core.List.{List, [], ◌++◌, append-nil}
use Prim.Native.Nat.{ℕ, ◌<◌}
use native.Mathlib.Omega.{arith}
use lib.ListN.{length, take, drop, length-append}
use lib.Seq.{take_at}
use Rattle.std.proofs.Common.{inl, inr, IfSome, OnOk, None, Some, Result, Ok, Err}
use Rattle.std.proofs.lemmas.Bool.{cases_lt}
use Rattle.std.specs.Io.KnownBytes.{Appends, Consumes, IsAtEnd}
use Rattle.std.specs.declared.option.Option.{Option}
use Rattle.listing.specs.Report.{report_of, Rendered}
use Rattle.listing.proofs.Reported.{report_long}

-- whatever comes behind bytes that are too many, and nothing behind others, changes nothing
report_whole : (image rest : List ℕ) → (length image < 64007 → rest ≡ []) → report_of image ≡ report_of (image ++ rest)
report_whole image rest h =
    elim (cases_lt 64006 (length image)) [
      | inl long ↦
          report_long image long
          ∙ sym (report_long (image ++ rest) (omega (arith, length-append image rest)))
      | inr short ↦ ap report_of (sym (ap (λ (l : List ℕ). image ++ l) (h (omega arith)) ∙ append-nil image))
    ]

-- the listing of what was read of a reader is that of all that it had: n bytes, read into m bytes
pub listed : {T E : Type 0} (r : Result T E) (before after written now : Option (List ℕ)) (image text : List ℕ) {n m : ℕ}
    → length image ≡ n → m ≡ 64007 → Consumes before after image → OnOk r (n < m → IsAtEnd after) → text ≡ report_of image
    → Appends written now text → OnOk r (IfSome before (λ (xs : List ℕ). Appends written now (report_of xs)))
listed (Err e) before after written now image text size room p q same h = tt
listed (Ok t) None after written now image text size room p q same h = tt
listed (Ok t) (Some xs) None written now image text size room p q same h = absurd p
listed (Ok t) (Some xs) (Some ys) written now image text size room p q same h =
    let end : length image < 64007 → ys ≡ [] = λ l. q (omega (arith, l, size, room)) in
    subst (Appends written now) (same ∙ report_whole image ys end ∙ sym (ap report_of p)) h

-- a text at the start of bytes, read back
pub rendered_text : {text bytes last : List ℕ} {n : ℕ} → Rendered text bytes last n → take n last ≡ text
rendered_text {text} {bytes} {last} {n} r = ap (take n) r.bytes_are ∙ take_at text (drop n bytes) n (sym r.size)
