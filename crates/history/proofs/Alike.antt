-- Two traces of the plain list whose accepted calls agree, flushes apart, quote alike: what a trace quotes is told by the names of its
-- accepted calls. They are replayed on a sketch, which has neither checkpoint nor slots' numbers nor lengths.
-- Assumes nothing.
use mathlib.Core.Path.{◌≡◌, refl, sym, ap, ap₂, ◌∙◌}
use mathlib.Core.List.{List, [], ◌∷◌, map}
use Prim.Native.Nat.{ℕ, zero, suc}
use lib.ListN.{get_or, set, get_or-map}
use Rattle.entry.specs.Word.{offer_of, price_of}
use Rattle.changes.specs.Found.{Found}
use Rattle.std.proofs.Common.{Some, None}
use Rattle.changes.specs.Calculus.{find}
use Rattle.views.specs.View.{Limits}
use Rattle.answers.specs.Answers.{When}
use Rattle.answers.specs.declared.call.LookUp.{LookUp as Asked}
use Rattle.answers.specs.declared.call.Query.TheVariants.{LookUp, Write, WriteState}
use Rattle.answers.specs.declared.call.Read.TheVariants.{Issue, Forward, Release}
use Rattle.answers.specs.declared.call.Format.{Format}
use Rattle.answers.specs.declared.call.Step.TheVariants.{Commit, RollBack, Flush}
use Rattle.history.specs.Named.{Named, step, read, ask, Call, calling, priced, unpriced, brought, Response}
use Rattle.history.specs.Named.{done, forwarded, accepted_calls, quotes}
use Rattle.history.specs.Plain.{Verdict, accept, refuse, response_by, left_by, Line, Place, closed, reading, Plain, map_at}
use Rattle.history.specs.Plain.{shown, quoted, since_at, offers_in, grown, cut_above, with_place, checked, stepped, answer_to, given_by}
use Rattle.history.specs.Plain.{given, changed_by, changed, load_of, loaded_plain}
use Rattle.history.specs.Traces.{plain_responses}

-- what quotes are read from: the whole maps, and the offers of each place (none at a closed one)
record Sketch : Type 0 where
  line : Line
  offers : List (List ℕ)

-- a plain list without its checkpoint, its places' numbers, its lengths and its depth
abbrev sketch_of : Plain → Sketch
sketch_of p = record { line = p.line; offers = map offers_in p.places }

-- a plain list with the maps of a sketch; a query quotes from these alone
abbrev drawn : Sketch → Plain
drawn s = record { line = s.line; checkpoint = 0; places = []; limits = record { table = 0; journal = 0 }; depth = 0 }

-- the offers of one place changed
abbrev with_offers : Sketch → ℕ → List ℕ → Sketch
with_offers s slot offers = record { line = s.line; offers = set s.offers slot offers }

-- what an accepted call quotes from a sketch; `done` and a report stand for every answer that quotes nothing
abbrev told : Sketch → Named → Response
told s (step call) = done
told s (read (Issue reader)) = done
told s (read (Forward reader state)) = forwarded (shown (map_at s.line state) (get_or s.offers reader.slot []))
told s (read (Release reader)) = done
told s (ask query) = answer_to (drawn s) query []

-- what an accepted call leaves of a sketch
abbrev moved : Sketch → Named → List ℕ → Sketch
moved s (step Commit) list = record { line = grown s.line list; offers = s.offers }
moved s (step (RollBack state)) list = record { line = cut_above s.line state; offers = s.offers }
moved s (step (Flush state)) list = s
moved s (read (Issue reader)) list = with_offers s reader.slot (map offer_of list)
moved s (read (Forward reader state)) list = with_offers s reader.slot []
moved s (read (Release reader)) list = with_offers s reader.slot []
moved s (ask query) list = s

-- calls by name, replayed on a sketch as if each were accepted
unfoldable again : Sketch → List Call → List Response
again s [] = []
again s (c ∷ calls) = told s c.named ∷ again (moved s c.named c.list) calls

-- responses to calls from a plain list quote what the accepted calls, flushes apart, quote when they are replayed on its sketch
abbrev Told : Plain → List Call → List Response → Type 0
Told p calls responses = quotes responses ≡ quotes (again (sketch_of p) (accepted_calls calls responses))

-- a place set in a list of places, and in a plain list, as the sketch has it
offers_set : (ps : List Place) (k : ℕ) (x : Place) → map offers_in (set ps k x) ≡ set (map offers_in ps) k (offers_in x)
offers_set [] k x = refl
offers_set (y ∷ ps) zero x = refl
offers_set (y ∷ ps) (suc k) x = ap (λ (l : List (List ℕ)). offers_in y ∷ l) (offers_set ps k x)

sketch_set : (p : Plain) (slot : ℕ) (x : Place) → sketch_of (with_place p slot x) ≡ with_offers (sketch_of p) slot (offers_in x)
sketch_set p slot x = ap (λ (o : List (List ℕ)). record { line = p.line; offers = o }) (offers_set p.places slot x)

-- a call more, where the calls after it quote as replayed
module _ (calls : List Call) (rest : (q : Plain) → Told q calls (plain_responses q calls)) where
  -- the calls after one that sets a place, on the sketch that the replay has by then
  after_set : (p : Plain) (slot : ℕ) (x : Place)
      → let responses = plain_responses (with_place p slot x) calls in
      quotes responses ≡ quotes (again (with_offers (sketch_of p) slot (offers_in x)) (accepted_calls calls responses))
  after_set p slot x =
      rest (with_place p slot x)
      ∙ ap (λ (s : Sketch). quotes (again s (accepted_calls calls (plain_responses (with_place p slot x) calls)))) (sketch_set p slot x)

  -- a lookup quotes a price or none, and leaves the sketch
  looked : (p : Plain) (asked : Asked) (list bytes : List ℕ) (since : When) (f : Found)
      → find asked.offer (map_at p.line asked.state) ≡ f
      → Told p (calling (ask (LookUp asked)) list bytes ∷ calls) (quoted f since ∷ plain_responses p calls)
  unfolding quotes accepted_calls again
  looked p asked list bytes since (Some w) e = rw e (ap (◌∷◌ (priced (price_of w))) (rest p))
  looked p asked list bytes since None e = rw e (ap (◌∷◌ unpriced) (rest p))

  -- an accepted call leaves the sketch that its name does, and quotes what its name tells; a flush has no name and leaves it
  accepted : (p : Plain) (named : Named) (list bytes : List ℕ)
      → Told p (calling named list bytes ∷ calls) (given_by p named list bytes ∷ plain_responses (changed_by p named list) calls)
  unfolding quotes accepted_calls again
  accepted p (step Commit) list bytes = rest (stepped p Commit list)
  accepted p (step (RollBack state)) list bytes = rest (stepped p (RollBack state) list)
  accepted p (step (Flush state)) list bytes = rest (stepped p (Flush state) list)
  accepted p (read (Issue reader)) list bytes = after_set p reader.slot (reading p.checkpoint (map offer_of list))
  accepted p (read (Forward reader state)) list bytes =
      ap₂ ◌∷◌
      (ap (λ (offers : List ℕ). brought (shown (map_at p.line state) offers))
      (sym (get_or-map offers_in p.places reader.slot closed)))
      (after_set p reader.slot closed)
  accepted p (read (Release reader)) list bytes = after_set p reader.slot closed
  accepted p (ask (LookUp asked)) list bytes =
      looked p asked list bytes (since_at p asked.offer asked.state) (find asked.offer (map_at p.line asked.state)) refl
  accepted p (ask (Write format)) list bytes = rest p
  accepted p (ask (WriteState format state)) list bytes = rest p

  -- a call by its verdict: a refused one changes nothing and has no name
  transition : (p : Plain) (c : Call) (v : Verdict)
      → Told p (c ∷ calls) (response_by v (given p c) ∷ plain_responses (left_by v (changed p c) p) calls)
  unfolding quotes accepted_calls
  transition p c accept = accepted p c.named c.list c.bytes
  transition p c (refuse n) = rest p

-- what a trace quotes is told by its sketch and the names of its accepted calls, flushes apart
Told-by_names : (p : Plain) (calls : List Call) → Told p calls (plain_responses p calls)
unfolding plain_responses quotes accepted_calls again
Told-by_names p [] = refl
Told-by_names p (c ∷ calls) = transition calls (λ q. Told-by_names q calls) p c (checked p c)

-- The traces start from the same sketch, whatever the lengths and the depths, so they quote the same where the names are.
pub plain_alike : (limits₁ limits₂ : Limits) (depth₁ depth₂ : ℕ) (format : Format) (bytes : List ℕ) (calls₁ calls₂ : List Call)
    → let load₁ = load_of depth₁ format bytes in
    let load₂ = load_of depth₂ format bytes in
    accepted_calls calls₁ (plain_responses (loaded_plain limits₁ load₁) calls₁)
    ≡ accepted_calls calls₂ (plain_responses (loaded_plain limits₂ load₂) calls₂)
    → quotes (plain_responses (loaded_plain limits₁ load₁) calls₁) ≡ quotes (plain_responses (loaded_plain limits₂ load₂) calls₂)
plain_alike limits₁ limits₂ depth₁ depth₂ format bytes calls₁ calls₂ same =
    let load₁ = load_of depth₁ format bytes in
    let load₂ = load_of depth₂ format bytes in
    Told-by_names (loaded_plain limits₁ load₁) calls₁
    ∙ ap (λ (names : List Call). quotes (again (sketch_of (loaded_plain limits₁ load₁)) names)) same
    ∙ sym (Told-by_names (loaded_plain limits₂ load₂) calls₂)
