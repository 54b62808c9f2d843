-- Pieces put one behind another.
-- Assumes nothing.
use mathlib.Core.Path.{◌≡◌, refl, sym, ap, ap₂, ◌∙◌, subst}
use mathlib.Core.List.{List, [], ◌++◌, append_assoc, append-nil}
use Prim.Native.Nat.{ℕ, ◌≤◌}
use native.Mathlib.Omega.{arith}
use lib.ListN.{length, take, drop, length-append, take-append-drop}
use lib.Seq.{take_at, length-take-le}
use Rattle.std.proofs.lemmas.Slice.{drop-append-drop}
use Rattle.listing_text.specs.declared.text.Text.{Text}
use Rattle.listing_text.specs.Stored.{Stored, Puts}

-- two pieces stored one behind the other are one piece
stored_both : {out : List ℕ} {at : ℕ} {p : List ℕ} {r : ℕ} {mid : List ℕ} → Stored out at p r mid
    → {q : List ℕ} {s : ℕ} {last : List ℕ} → Stored mid r q s last → s ≤ length out → Stored out at (p ++ q) s last
stored_both {out} {at} {p} {r} {mid} a {q} {s} {last} b room =
    let before : at ≤ length out = omega (arith, a.position, b.position) in
    let size : length (take at out ++ p) ≡ r =
    omega (arith, a.position, length-append (take at out) p, length-take-le at out before) in
    let front = ap (take r) a.bytes ∙ take_at (take at out ++ p) (drop r out) r size in
    let behind = ap (drop s) a.bytes ∙ drop-append-drop r out (take at out ++ p) s (omega (arith, b.position)) size in
    record {
      position = omega (arith, a.position, b.position, length-append p q);
      bytes =
          b.bytes
          ∙ ap₂ (λ (x y : List ℕ). x ++ q ++ y) front behind
          ∙ ap (λ (x : List ℕ). x ++ drop s out) (append_assoc (take at out) p q);
    }

pub both : {t u v : Text} {p q : List ℕ} → Puts t p u → Puts u q v → Puts t (p ++ q) v
both a b =
    record {
      stored = stored_both a.stored b.stored (omega (arith, b.within, a.size));
      within = omega (arith, b.within, a.size);
      size = b.size ∙ a.size;
      lent = b.lent ∙ a.lent;
    }

-- the same piece by another name
pub put_as : {t u : Text} {p q : List ℕ} → p ≡ q → Puts t p u → Puts t q u
put_as {t} {u} e a = subst (λ (l : List ℕ). Puts t l u) e a

-- a whole text: a piece put into bytes that had no text yet
pub whole : {t u : Text} {piece out : List ℕ} → t.end ≡ 0 → t.bytes.now ≡ out → Puts t piece u
    → (u.end ≡ length piece) × (u.bytes.now ≡ piece ++ drop u.end out)
whole {t} {u} {piece} {out} e b p =
    let start : take t.end t.bytes.now ≡ [] = ap (λ (n : ℕ). take n t.bytes.now) e in (
      omega (arith, e, p.stored.position),
      p.stored.bytes ∙ ap₂ (λ (x y : List ℕ). x ++ piece ++ drop u.end y) start b,
    )

-- nothing is put
pub nothing : {t : Text} → t.end ≤ length t.bytes.now → Puts t [] t
nothing {t} h =
    let bytes = t.bytes.now in
    let front = ap (λ (l : List ℕ). l ++ drop t.end bytes) (append-nil (take t.end bytes)) in
    record {
      stored = record { position = omega arith; bytes = sym (front ∙ take-append-drop t.end bytes) };
      within = h;
      size = refl;
      lent = refl;
    }
