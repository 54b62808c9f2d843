-- Condition 2, in the words of the request: "Books, changes, forwarded reads, tallies, priced batches and images are exactly those of the
-- calculus of changes and the layouts in document 01; every image written loads, into a book that holds it, as the same map and state
-- number, and every image accepted is written back byte for byte."
--
-- "exactly those" is the contract of each call, which equates answer, head and all lent memory with its definitions, for all input
-- (calls/specs/Meaning.antt has them, one clause a call, and batch/specs/Batches.antt those of a batch). What holds of the definitions is
-- stated here, part by part.
-- Assumes nothing.
use Rattle.std.specs.Prelude.{◌≡◌, true, List, map, ℕ}
use Rattle.answers.specs.declared.call.Call.TheVariants.{Step, Ask}
use Rattle.answers.specs.declared.call.Format.TheVariants.{Image, Sheet}
use Rattle.answers.specs.declared.call.Query.{Query}
use Rattle.answers.specs.declared.call.Step.TheVariants.{Flush}
use Rattle.views.specs.View.{Shaped}
use Rattle.unit.specs.Carried.{Carried, Asked}
use Rattle.lent.specs.Lent.{is_fit}
use Rattle.moments.specs.Batches.{batches as batch_table}
use Rattle.moments.specs.Callers.{desk_and_foyer}
use Rattle.moments.specs.Depths.{depths as depth_table}
use Rattle.moments.specs.Images.{images_of_states}
use Rattle.moments.specs.Moments.{computed, expected}
use Rattle.moments.specs.Sheets.{sheets_of_states}
use Rattle.moments.specs.Since.{since_when}
use Rattle.moments.specs.Table.{twelve}
use Rattle.conditions.specs.Batches.{Batches}
use Rattle.conditions.specs.CCalls.{Memory, carried_in, Result, CallOfC, AsServed}
use Rattle.conditions.specs.CLayout.{CLayout}
use Rattle.conditions.specs.Depths.{Depths}
use Rattle.conditions.specs.Laws.{Laws}
use Rattle.conditions.specs.Lookups.{Lookups}
use Rattle.conditions.specs.Restarts.{Restarts}
use Rattle.conditions.specs.Runs.{lending}
use Rattle.conditions.specs.Serving.{Seen, CallOfServe, handed, Untouched, Of64Bits}
use Rattle.conditions.specs.Sheets.{Sheets}
use Rattle.conditions.specs.Tallies.{Tallies}
use Rattle.conditions.specs.Written.{Written}

pub record Condition2 : Type 0 where
  -- "Books, changes, forwarded reads": the calculus of changes
  pub laws : Laws
  -- "tallies": what each call adds to which count, and the equation that holds after any calls
  pub tallies : Tallies
  -- "priced batches": the kinds of orders and what each does, the order of the grounds, equations 5 and 6
  pub batches : Batches
  -- "every image written loads, into a book that holds it, as the same map and state number, and every image accepted is written back
  -- byte for byte"
  pub images : Written Image
  -- and the same of sheets, of which each map with its number has exactly one, and which load as images do
  pub sheets_written : Written Sheet
  pub sheets : Sheets
  -- restarts, which write and load an image
  pub restarts : Restarts
  -- lookups: the price at the state named, or none, and since when
  pub lookups : Lookups
  -- the depth that must stay
  pub depths : Depths
  -- "A flush to the anchor changes nothing.", of a head whose arrays have their lengths and a tally of 64 bits, as their types have them
  pub flush_to_the_anchor : (k : Carried) (words bytes : List ℕ) (s : Seen) → Shaped k.head → Of64Bits k.tally
      → let flush = lending (Step (Flush k.head.checkpoint)) words bytes in
      CallOfServe k flush s → Untouched k flush s
  -- "Writing an image changes nothing.", nor does a lookup, but for the words and bytes lent to it
  pub queries_change_nothing : (k : Carried) (query : Query) (words bytes : List ℕ) (s : Seen)
      → Of64Bits k.tally → CallOfServe k (lending (Ask query) words bytes) s → handed s ≡ k
  -- each C function on a store does what `serve` does, where the head's words fit or the call does not test the store
  pub c_as_served : (m : Memory) (a : Asked) (r : Result) (s : Seen)
      → CallOfC m a r → is_fit m.head a.call ≡ true → CallOfServe (carried_in m) a s → AsServed m a r s
  -- the layouts that a C program sees
  pub c_layout : CLayout
  -- document 01's "Twelve moments at the counter", moment 10 as document 02 has it, by the definitions and by the table
  pub moments : map computed twelve ≡ map expected twelve
  -- and tables of what document 02 brought, desk and foyer and the images of states, of batches, sixteenths to the nearest unit first, of
  -- lookups with since when, of row sheets, and of depths
  pub desk_and_foyer : map computed desk_and_foyer ≡ map expected desk_and_foyer
  pub images_of_states : map computed images_of_states ≡ map expected images_of_states
  pub batch_table : map computed batch_table ≡ map expected batch_table
  pub since_when : map computed since_when ≡ map expected since_when
  pub sheets_of_states : map computed sheets_of_states ≡ map expected sheets_of_states
  pub depth_table : map computed depth_table ≡ map expected depth_table
