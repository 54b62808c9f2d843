-- The price that a search shows, what is found in a map after changes, and since when.
-- Assumes nothing.
use mathlib.Core.Path.{◌≡◌, refl, sym, ap, ◌∙◌}
use mathlib.Core.List.{List}
use Prim.Native.Nat.{ℕ, ◌+◌}
use native.Mathlib.Decide.{ℕ_discrete}
use borrow.Author.Tests.{eq-eqb, ne_eqb}
use Rattle.entry.specs.Word.{kind_of, price_of, Put}
use Rattle.changes.specs.Found.{Found}
use Rattle.std.proofs.Common.{Some, None}
use Rattle.changes.specs.Calculus.{find, if_put, apply, compose_all}
use Rattle.changes.specs.Lists.{From, Map}
use Rattle.changes.proofs.Find.{found_all}
use Rattle.changes.proofs.Laws.{apply_puts, apply_removes, apply_leaves}
use Rattle.answers.specs.declared.answer.Quote.{Quote}
use Rattle.answers.specs.declared.answer.Since.{Since}
use Rattle.answers.specs.declared.answer.Since.TheVariants.{State, Table}
use Rattle.last_changes.specs.Last.{Last}
use Rattle.last_changes.specs.Last.{last_in, word_in}
use Rattle.lookups.specs.LookUp.{quote_at, since_of}

put_is : (w : ℕ) → Put w → if_put (Some w) ≡ Some w
put_is w p = rw (eq-eqb (kind_of w) 1 p)

other_is : (w : ℕ) → (Put w → ⊥) → if_put (Some w) ≡ None
other_is w n = rw (ne_eqb (kind_of w) 1 n)

module _ (f : Found) (w : ℕ) (since : Since) (e : f ≡ Some w) where
  abbrev quoted : Found → Quote
  quoted found = quote_at found since

  pub quote_price : (p : ℕ) → p ≡ price_of w → Put w → record { price = Some p; since = since } ≡ quote_at (if_put f) since
  quote_price p i h =
      ap (λ n. record { price = Some n; since = since }) i ∙ ap quoted (sym (put_is w h)) ∙ ap (λ g. quoted (if_put g)) (sym e)

  pub quote_none : (Put w → ⊥) → record { price = None; since = since } ≡ quote_at (if_put f) since
  quote_none n = ap quoted (sym (other_is w n)) ∙ ap (λ g. quoted (if_put g)) (sym e)

pub quote_nothing : (f : Found) (since : Since) → f ≡ None → record { price = None; since = since } ≡ quote_at (if_put f) since
quote_nothing f since e = ap (λ g. quote_at (if_put g) since) (sym e)

-- the last change of the offer tells its price, and where there is none the map does
module _ (k : ℕ) (m d : List ℕ) (hm : Map m) (hd : From 0 d) where
  pub by_change : (w : ℕ) → find k d ≡ Some w → if_put (find k d) ≡ find k (apply m d)
  by_change w e = go (ℕ_discrete (kind_of w) 1)
    where
      go : Dec (Put w) → if_put (find k d) ≡ find k (apply m d)
      go (yes p) = ap if_put e ∙ put_is w p ∙ sym (apply_puts k m d hm hd w e p)
      go (no n) = ap if_put e ∙ other_is w n ∙ sym (apply_removes k m d hm hd w e n)

  pub by_map : find k d ≡ None → if_put (find k m) ≡ find k (apply m d)
  by_map e = go (find k m) refl ∙ sym (apply_leaves k m d hm hd e)
    where
      go : (f : Found) → find k m ≡ f → if_put f ≡ f
      go (Some w) i = put_is w (found_all Put k m hm.puts w i)
      go None i = refl

-- the same of the last of some steps, which tells since when too
module _ (k c : ℕ) (m : List ℕ) (ds : List (List ℕ)) (last : Last) (hm : Map m) (hd : From 0 (compose_all ds))
    (e : word_in last ≡ find k (compose_all ds)) (l : last ≡ last_in k ds) where
  abbrev meant : Quote
  meant = quote_at (find k (apply m (compose_all ds))) (since_of c (last_in k ds))

  pub told_by_change : (w n : ℕ) → last ≡ Some (w, n) → quote_at (if_put (Some w)) (State (c + n)) ≡ meant
  told_by_change w n i =
      let word : Some w ≡ find k (compose_all ds) = sym (ap word_in i) ∙ e in
      ap (λ (f : Found). quote_at f (State (c + n))) (ap if_put word ∙ by_change k m (compose_all ds) hm hd w (sym word))
      ∙ ap (λ (x : Last). quote_at (find k (apply m (compose_all ds))) (since_of c x)) (sym i ∙ l)

  pub told_by_map : last ≡ None → quote_at (if_put (find k m)) Table ≡ meant
  told_by_map i =
      ap (λ (f : Found). quote_at f Table) (by_map k m (compose_all ds) hm hd (sym e ∙ ap word_in i))
      ∙ ap (λ (x : Last). quote_at (find k (apply m (compose_all ds))) (since_of c x)) (sym i ∙ l)
