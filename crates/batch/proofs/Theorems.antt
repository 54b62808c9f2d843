-- What a batch means for every map that agrees with its read set (document 01, "Batches"; equations 5 and 6 of section 7.2 of
-- document 000), and what its output is.
-- Assumes nothing.
use mathlib.Core.Path.{◌≡◌, refl, sym, ◌∙◌, ap}
use mathlib.Core.Bool.{Bool, true, false, cond, ◌||◌}
use mathlib.Core.List.{List, []}
use Prim.Native.Nat.{ℕ, ◌≤◌}
use native.Mathlib.Omega.{arith}
use lib.Dec.{leb}
use lib.ListN.{length}
use Rattle.changes.specs.Found.{Found}
use Rattle.changes.specs.Calculus.{find, apply, puts}
use Rattle.changes.specs.Lists.{Changes, Map}
use Rattle.changes.proofs.Find.{find_empty}
use Rattle.changes.proofs.Laws.{apply_zero}
use Rattle.changes.proofs.ReadWords.{prices_Map, prices_shown}
use Rattle.changes.proofs.Single.{Changes-none}
use Rattle.answers.specs.Check.{Check}
use Rattle.std.proofs.Common.{Ok, Err}
use Rattle.execution.specs.Tests.{list_all, is_read, is_found}
use Rattle.execution.specs.Executing.{Executed, done, fails, priced, after}
use Rattle.batch.specs.OnMaps.{difference, execute_on_map, on_done, Agrees, is_named}
use Rattle.batch.specs.Batches.{batch, checked, fitting}
use Rattle.batch.proofs.BatchChecks.{passed}
use Rattle.batch.proofs.OnMaps.{restricted, applied, difference_is}
use Rattle.batch.proofs.Output.{Brings, brings}
use Rattle.execution.proofs.Iterations.{seen, priced_is}

-- Every read set has a map that agrees with it, so that nothing below speaks of no map at all.
pub some_Map : (reads : List ℕ) → Changes reads → (m : List ℕ) × Map m × Agrees m reads
some_Map reads h = (puts reads, prices_Map reads h.rises, prices_shown reads h)

-- Equation 5: the changes that the orders come to on a map, applied to it, give what executing the orders on it gives; and where an
-- order fails, both fail by its number.
pub equation_5 : (m orders : List ℕ) → Map m → on_done (apply m) (difference m orders) ≡ execute_on_map m orders
equation_5 m orders map =
    ap (on_done (apply m)) (difference_is m orders)
    ∙ sym (applied m map [] orders Changes-none)
    ∙ ap (λ (l : List ℕ). execute_on_map l orders) (apply_zero m map)

module _ (m reads orders : List ℕ) (map : Map m) (agrees : Agrees m reads) (read : list_all (is_read reads) orders ≡ true) where
  -- Equation 6: the orders come to the same on the read set as on the whole map.
  pub equation_6 : priced reads orders ≡ difference m orders
  equation_6 = priced_is reads orders ∙ restricted m reads map agrees [] orders Changes-none read ∙ sym (difference_is m orders)

  -- Both: what the orders come to on the read set, applied to the map, is what executing them on the map gives.
  pub on_map : on_done (apply m) (priced reads orders) ≡ execute_on_map m orders
  on_map = ap (on_done (apply m)) equation_6 ∙ equation_5 m orders map

  -- The same by cases: the execution on the map succeeds exactly where the execution on the read set does, with its words applied,
  pub succeeds : (d : List ℕ) → priced reads orders ≡ done d → execute_on_map m orders ≡ done (apply m d)
  succeeds d e = sym on_map ∙ ap (on_done (apply m)) e

  pub only_so : (m' : List ℕ) → execute_on_map m orders ≡ done m' → (d : List ℕ) × (priced reads orders ≡ done d) × (m' ≡ apply m d)
  only_so m' e = go (priced reads orders) refl
    where
      go : (executed : Executed) → priced reads orders ≡ executed → (d : List ℕ) × (priced reads orders ≡ done d) × (m' ≡ apply m d)
      go (done d) i = (d, i, cc (succeeds d i))
      go (fails n) i = absurd (let z : ◌≡◌ {A = ℕ} 0 1 = cc (on_map, ap (on_done (apply m)) i) in omega arith)

  -- and fails by the same number otherwise.
  pub fails_so : (n : ℕ) → priced reads orders ≡ fails n → execute_on_map m orders ≡ fails n
  fails_so n e = sym on_map ∙ ap (on_done (apply m)) e

  pub fails_only_so : (n : ℕ) → execute_on_map m orders ≡ fails n → priced reads orders ≡ fails n
  fails_only_so n e = go (priced reads orders) refl
    where
      go : (executed : Executed) → priced reads orders ≡ executed → priced reads orders ≡ fails n
      go (done d) i = absurd (let z : ◌≡◌ {A = ℕ} 0 1 = cc (succeeds d i) in omega arith)
      go (fails k) i = i ∙ ap fails (cc (fails_so k i))

-- Equation 6 again: the changes depend on the map only through the read set.
pub only_through_reads : (m m' reads orders : List ℕ) → Map m → Map m' → Agrees m reads → Agrees m' reads
    → list_all (is_read reads) orders ≡ true → difference m orders ≡ difference m' orders
only_through_reads m m' reads orders h h' a a' read = sym (equation_6 m reads orders h a read) ∙ equation_6 m' reads orders h' a' read

-- Of a batch that is accepted.
data Accepts (reads orders d : List ℕ) : Type 0 where
  accepts : checked reads orders ≡ (Ok tt) → priced reads orders ≡ done d → Accepts reads orders d

accepted_executes : (reads orders d : List ℕ) (room : ℕ) → batch reads orders room ≡ done d → Accepts reads orders d
unfolding batch
accepted_executes reads orders d room e = by-check (checked reads orders) refl e
  where
    by-room : (b : Bool) (x : List ℕ) → priced reads orders ≡ done x → checked reads orders ≡ (Ok tt)
        → cond b (done x) (fails 17) ≡ done d → Accepts reads orders d
    by-room true x i c r = accepts c (i ∙ r)
    by-room false x i c r = absurd (let z : ◌≡◌ {A = ℕ} 0 1 = cc in omega arith)

    by-execution : (executed : Executed) → priced reads orders ≡ executed → checked reads orders ≡ (Ok tt)
        → fitting room executed ≡ done d → Accepts reads orders d
    by-execution (done x) i c r = by-room (leb (length x) room) x i c r
    by-execution (fails n) i c r = absurd (let z : ◌≡◌ {A = ℕ} 0 1 = cc in omega arith)

    by-check : (c : Check) → checked reads orders ≡ c → after c (fitting room (priced reads orders)) ≡ done d → Accepts reads orders d
    by-check (Ok tt) c r = by-execution (priced reads orders) refl c r
    by-check (Err ground) c r = absurd (let z : ◌≡◌ {A = ℕ} 0 1 = cc in omega arith)

module _ (reads orders d : List ℕ) (room : ℕ) (accepted : batch reads orders room ≡ done d) where
  -- its output applied to any map that agrees with the read set is what executing the orders on that map gives,
  pub output_on_Map : (m : List ℕ) → Map m → Agrees m reads → execute_on_map m orders ≡ done (apply m d)
  output_on_Map m map agrees = go (accepted_executes reads orders d room accepted)
    where
      go : Accepts reads orders d → execute_on_map m orders ≡ done (apply m d)
      go (accepts c p) = succeeds m reads orders map agrees (passed reads orders c).named d p

  -- and it is changes, rising and valid, with one word for each offer named and no other.
  brought : Accepts reads orders d → Brings [] orders d
  brought (accepts c p) = brings (seen reads) [] orders d Changes-none (sym (priced_is reads orders) ∙ p)

  pub output_Changes : Changes d
  output_Changes = (brought (accepted_executes reads orders d room accepted)).changes

  pub output_few : length d ≤ length orders
  output_few = omega (arith, (brought (accepted_executes reads orders d room accepted)).few)

  pub output_named : (k : ℕ) → is_found (find k d) ≡ is_named k orders
  output_named k = (brought (accepted_executes reads orders d room accepted)).named k ∙ none
    where
      none : (is_found (find k []) || is_named k orders) ≡ is_named k orders
      none = ap (λ (f : Found). is_found f || is_named k orders) (find_empty k)
