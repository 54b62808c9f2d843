-- The plain list of whole maps (document 01, "The plain list"): what the calls mean, with no memory and no head. It shares with the unit
-- the entry word, the rules of a list, search and application, the forms of image and sheet, and how since when is said; what holds of
-- these is in changes/proofs/Laws.antt, image/proofs/Theorems.antt and sheet/proofs/Theorems.antt. It shares what a caller has, which
-- stands in one place (slots/specs/Callers.antt). The numbers of the grounds are its own.
-- Assumes nothing.
use Rattle.std.specs.Prelude.{Bool, true, false, not, ◌&&◌, List, [], ◌∷◌, ◌++◌, map, ℕ, suc, ◌+◌, ◌-◌, ◌^◌, min, eqb, ltb, leb, length, take, drop, get_or, set, replicate}
use Rattle.entry.specs.Word.{offer_of, price_of, none_of}
use Rattle.changes.specs.Found.{Found}
use Rattle.std.specs.Prelude.{Some, None}
use Rattle.changes.specs.Calculus.{find, apply}
use Rattle.changes.specs.Lists.{is_list, has_no_put}
use Rattle.changes.specs.ReadSets.{found_or}
use Rattle.image.specs.Image.{number_in}
use Rattle.formats.specs.Formats.{is_of_format, map_in, bytes_for}
use Rattle.views.specs.View.{Limits, flat}
use Rattle.slots.specs.Callers.{has_slot, most_words}
use Rattle.answers.specs.Answers.{When, by_step, by_book}
use Rattle.answers.specs.declared.call.Format.{Format}
use Rattle.answers.specs.declared.call.Query.{Query}
use Rattle.answers.specs.declared.call.Query.TheVariants.{LookUp, Write, WriteState}
use Rattle.answers.specs.declared.call.Read.{Read as ReadCall}
use Rattle.answers.specs.declared.call.Read.TheVariants.{Issue, Forward, Release}
use Rattle.answers.specs.declared.call.Reader.{Reader}
use Rattle.answers.specs.declared.call.Step.{Step as StepCall}
use Rattle.answers.specs.declared.call.Step.TheVariants.{Commit, RollBack, Flush}
use Rattle.history.specs.Named.{Named, step, read, ask, Call, Response, done, price, no_price, filled, forwarded, written}
use Rattle.history.specs.Named.{refused, Transition}

-- a ground's test, which says whether it is met, with its number
pub data Test : Type 0 where
  met : Bool → ℕ → Test

-- a call is accepted, or turned away by a number
pub data Verdict : Type 0 where
  accept : Verdict
  refuse : ℕ → Verdict

-- "Checked in this order": the first ground that is met
unfoldable pub first_of : List Test → Verdict
first_of [] = accept
first_of (met true n ∷ grounds) = refuse n
first_of (met false n ∷ grounds) = first_of grounds

-- a query: its grounds, and what it gives
pub record Asking : Type 0 where
  pub tests : List Test
  pub gives : Response

-- what an accepted call gives or leaves, or else what a refused one does
abbrev pub response_by : Verdict → Response → Response
response_by accept response = response
response_by (refuse n) response = refused n

abbrev pub left_by {ℓ} : {A : Type ℓ} → Verdict → A → A → A
left_by accept new old = new
left_by (refuse n) new old = old

-- "whole maps numbered one after another, beside each but the first the committed list that led to it"
pub record Line : Type 0 where
  pub start : ℕ
  pub maps : List (List ℕ)
  pub lists : List (List ℕ)

-- "each place, closed or with a number and offers"
pub data Place : Type 0 where
  closed : Place
  reading : ℕ → List ℕ → Place

pub record Plain : Type 0 where
  pub line : Line
  -- "the anchor's number"
  pub checkpoint : ℕ
  pub places : List Place
  -- "the lengths lent"
  pub limits : Limits
  -- the depth, "fed to the plain list with the load's image" (document 02, Q-6)
  pub depth : ℕ

-- "Its tip is its last map's number": a list stands beside each map but the first
abbrev pub tip_of : Line → ℕ
tip_of line = line.start + length line.lists

-- the map of a state
abbrev pub map_at : Line → ℕ → List ℕ
map_at line state = get_or line.maps (state - line.start) []

-- "its floor the least of the anchor and the open places' numbers"
unfoldable pub least_of : ℕ → List Place → ℕ
least_of c [] = c
least_of c (closed ∷ places) = least_of c places
least_of c (reading n offers ∷ places) = min n (least_of c places)

abbrev pub floor_of : Plain → ℕ
floor_of p = least_of p.checkpoint p.places

-- "Its held steps are its lists that lead to states above the floor."
abbrev pub held_lists : Plain → List (List ℕ)
held_lists p = drop (floor_of p - p.line.start) p.line.lists

-- the committed lists that lead from a state of a line to a later one
unfoldable pub lists_between : Line → ℕ → ℕ → List (List ℕ)
lists_between line from to = take (to - from) (drop (from - line.start) line.lists)

-- "for each of those offers the word that shows its price, or none, in the map"
abbrev pub shown : List ℕ → List ℕ → List ℕ
shown m = map (λ offer. found_or (find offer m) (none_of offer))

-- the price of an offer in a map, or none, and since when
abbrev pub quoted : Found → When → Response
quoted (Some w) since = price (price_of w) since
quoted None since = no_price since

-- a list names an offer by a word of either kind: then the state to which it leads
abbrev pub named_at : ℕ → Found → When
named_at state (Some w) = by_step state
named_at state None = by_book

abbrev pub later_or : When → When → When
later_or (by_step state) earlier = by_step state
later_or by_book earlier = earlier

-- "the state to which the last step naming the offer leads", of lists that lead on from a state, "or, if none did, that the book answered"
unfoldable pub last_naming : ℕ → ℕ → List (List ℕ) → When
last_naming offer from [] = by_book
last_naming offer from (list ∷ lists) = later_or (last_naming offer (suc from) lists) (named_at (suc from) (find offer list))

-- "searched among the steps above the anchor and up to the state named"
abbrev pub since_at : Plain → ℕ → ℕ → When
since_at p offer state = last_naming offer p.checkpoint (lists_between p.line p.checkpoint state)

abbrev pub is_open : Place → Bool
is_open closed = false
is_open (reading n offers) = true

abbrev pub offers_in : Place → List ℕ
offers_in closed = []
offers_in (reading n offers) = offers

-- whether a slot is open, and its offers
abbrev pub open_at : Plain → ℕ → Bool
open_at p slot = is_open (get_or p.places slot closed)

abbrev pub offers_at : Plain → ℕ → List ℕ
offers_at p slot = offers_in (get_or p.places slot closed)

-- the image, or the sheet, of a state's number and map
abbrev pub bytes_at : Plain → Format → ℕ → List ℕ
bytes_at p format state = bytes_for format state (map_at p.line state)

-- ground 17: "Output is shorter than what is to be written."
abbrev pub room_tests : List ℕ → List ℕ → List Test
room_tests written out = met (ltb (length out) (length written)) 17 ∷ []

-- ground 3: "The place is above 7."; and 19: "a place that isn't the caller's, tested after 3"
abbrev pub slot_tests : Reader → List Test
slot_tests reader = met (leb 8 reader.slot) 3 ∷ met (not (has_slot reader.caller reader.slot)) 19 ∷ []

-- ground 18: "a foyer list over 16 words, tested after 6"
abbrev pub long_tests : Reader → List ℕ → List Test
long_tests reader list = met (ltb (most_words reader.caller) (length list)) 18 ∷ []

-- ground 11: "The state named is below the anchor or above the tip."
abbrev pub state_tests : Plain → ℕ → List Test
state_tests p state = met (ltb state p.checkpoint) 11 ∷ met (ltb (tip_of p.line) state) 11 ∷ []

-- ground 20: "A flush to a state other than the anchor may go no higher than tip − depth", a difference of whole numbers
abbrev pub barred_tests : Plain → ℕ → List Test
barred_tests p state = met (not (eqb state p.checkpoint) && ltb (tip_of p.line) (state + p.depth)) 20 ∷ []

-- "It tests grounds 3 to 17, and those that later lots bring, in their order with these values." "In the named calls 1 and 2 don't
-- arise, nor 6 at a forward."
module _ (p : Plain) where
  abbrev pub step_tests : StepCall → List ℕ → List Test
  step_tests Commit list =
      met (not (is_list list)) 6
      ∷ met (eqb (tip_of p.line) (2 ^ 32 - 1)) 12
      ∷ met (eqb (length (held_lists p)) 64) 13
      -- "At 14 the unused words are the change memory's length less the words of its held steps"
      ∷ met (ltb (p.limits.journal - length (flat (held_lists p))) (length list)) 14
      ∷ []
  step_tests (RollBack state) list = state_tests p state
  step_tests (Flush state) list =
      state_tests p state ++ barred_tests p state ++ (met (ltb p.limits.table (length (map_at p.line state))) 16 ∷ [])

  abbrev pub read_tests : ReadCall → List ℕ → List Test
  read_tests (Issue reader) list =
      slot_tests reader
      ++ (met (open_at p reader.slot) 4
      ∷ met (not (is_list list)) 6
      ∷ met (not (has_no_put list)) 6
      ∷ long_tests reader list)
  -- it is not fed the read set: 18 goes by the place's own offers
  read_tests (Forward reader state) list =
      slot_tests reader
      ++ (met (not (open_at p reader.slot)) 5 ∷ [])
      ++ long_tests reader (offers_at p reader.slot)
      ++ state_tests p state
  read_tests (Release reader) list = slot_tests reader ++ (met (not (open_at p reader.slot)) 5 ∷ [])

  -- "bytes past it are unchanged"
  abbrev pub writing : Format → List Test → ℕ → List ℕ → Asking
  writing format tests state bytes =
      let new = bytes_at p format state in
      record { tests = tests ++ room_tests new bytes; gives = written (length new) (new ++ drop (length new) bytes) }

  -- a query changes nothing: its grounds, and what it gives where it is accepted
  abbrev pub asking : Query → List ℕ → Asking
  -- "A lookup reads the map of the state named.", and says since when from the lists above the anchor that lead to that state
  asking (LookUp asked) bytes = record {
    tests = met (leb (2 ^ 31) asked.offer) 6 ∷ state_tests p asked.state;
    gives = quoted (find asked.offer (map_at p.line asked.state)) (since_at p asked.offer asked.state);
  }
  -- "With no state named, the tip is now written instead of the anchor."
  asking (Write format) bytes = writing format [] (tip_of p.line) bytes
  -- "Writing an image may now name any state from anchor to tip.", and sheets are written "for the same states as images"
  asking (WriteState format state) bytes = writing format (state_tests p state) state bytes

  abbrev pub query_tests : Query → List ℕ → List Test
  query_tests query bytes = (asking query bytes).tests

  abbrev pub tests : Named → List ℕ → List ℕ → List Test
  tests (step call) list bytes = step_tests call list
  tests (read call) list bytes = read_tests call list
  tests (ask query) list bytes = query_tests query bytes

abbrev pub checked : Plain → Call → Verdict
checked p call = first_of (tests p call.named call.list call.bytes)

-- what an accepted call gives
module _ (p : Plain) where
  abbrev pub given_read : ReadCall → List ℕ → Response
  -- "fills the list from the book"
  given_read (Issue reader) list = filled (shown (map_at p.line p.checkpoint) (map offer_of list))
  given_read (Forward reader state) list = forwarded (shown (map_at p.line state) (offers_at p reader.slot))
  given_read (Release reader) list = done

  abbrev pub answer_to : Query → List ℕ → Response
  answer_to query bytes = (asking p query bytes).gives

  abbrev pub given_by : Named → List ℕ → List ℕ → Response
  given_by (step call) list bytes = done
  given_by (read call) list bytes = given_read call list
  given_by (ask query) list bytes = answer_to query bytes

abbrev pub given : Plain → Call → Response
given p call = given_by p call.named call.list call.bytes

-- "A commit adds the last map with the new list applied."
abbrev pub grown : Line → List ℕ → Line
grown line list = record {
  start = line.start;
  maps = line.maps ++ (apply (map_at line (tip_of line)) list ∷ []);
  lists = line.lists ++ (list ∷ []);
}

-- "A rollback cuts the maps above its state."
abbrev pub cut_above : Line → ℕ → Line
cut_above line state = record {
  start = line.start;
  maps = take (state - line.start + 1) line.maps;
  lists = take (state - line.start) line.lists;
}

abbrev pub with_line : Plain → Line → Plain
with_line p line = record { line = line; checkpoint = p.checkpoint; places = p.places; limits = p.limits; depth = p.depth }

abbrev pub with_place : Plain → ℕ → Place → Plain
with_place p slot place =
    record { line = p.line; checkpoint = p.checkpoint; places = set p.places slot place; limits = p.limits; depth = p.depth }

abbrev pub with_checkpoint : Plain → ℕ → Plain
with_checkpoint p state = record { line = p.line; checkpoint = state; places = p.places; limits = p.limits; depth = p.depth }

-- what an accepted call leaves
module _ (p : Plain) where
  abbrev pub stepped : StepCall → List ℕ → Plain
  stepped Commit list = with_line p (grown p.line list)
  stepped (RollBack state) list = with_line p (cut_above p.line state)
  -- "A flush only moves the anchor."
  stepped (Flush state) list = with_checkpoint p state

  abbrev pub placed : ReadCall → List ℕ → Plain
  -- "An issue opens its place with the anchor's number and its list's offers."
  placed (Issue reader) list = with_place p reader.slot (reading p.checkpoint (map offer_of list))
  -- "and closes the place. A drop closes it."
  placed (Forward reader state) list = with_place p reader.slot closed
  placed (Release reader) list = with_place p reader.slot closed

  abbrev pub changed_by : Named → List ℕ → Plain
  changed_by (step call) list = stepped call list
  changed_by (read call) list = placed call list
  -- "Writing an image changes nothing.", nor does a lookup
  changed_by (ask query) list = p

abbrev pub changed : Plain → Call → Plain
changed p call = changed_by p call.named call.list

-- "A refused call changes nothing."
abbrev pub plain_transition : Plain → Call → Transition Plain
plain_transition p call =
    record { response = response_by (checked p call) (given p call); next = left_by (checked p call) (changed p call) p }

-- the load that begins a run: a depth, and an image's bytes or a sheet's
pub record Load : Type 0 where
  pub depth : ℕ
  pub format : Format
  pub bytes : List ℕ

abbrev pub load_of : ℕ → Format → List ℕ → Load
load_of depth format bytes = record { depth = depth; format = format; bytes = bytes }

-- The load: grounds 20 ("a depth above 63"), 15 and 16. "The load gives the image's map under its number, that number as anchor, all
-- places closed."; "sheet and image of a state load alike".
abbrev pub load_checked : Limits → Load → Verdict
load_checked limits load =
    first_of
    (met (ltb 63 load.depth) 20
    ∷ met (not (is_of_format load.format load.bytes)) 15
    ∷ met (ltb limits.table (length (map_in load.format load.bytes))) 16
    ∷ [])

abbrev pub loaded_plain : Limits → Load → Plain
loaded_plain limits load = record {
  line = record { start = number_in load.bytes; maps = map_in load.format load.bytes ∷ []; lists = [] };
  checkpoint = number_in load.bytes;
  places = replicate 8 closed;
  limits = limits;
  depth = load.depth;
}
