-- What is written and loaded, in either format. Of images, condition 2: "every image written loads, into a book that holds it, as the
-- same map and state number, and every image accepted is written back byte for byte."; document 02, Q-2, of the states that are written;
-- and Q-5, of sheets: "Reader and writer are both wanted, for the same states as images; bytes past a written sheet are unchanged." The
-- bytes are those that the calls leave and are lent.
-- Assumes nothing.
use Rattle.std.specs.Prelude.{◌≡◌, true, List, ◌++◌, ℕ, ◌^◌, ◌≤◌, ◌<◌, length, take, drop, replicate}
use Rattle.answers.specs.Answers.{accepted, refused, said_by, value_in, is_accepted}
use Rattle.changes.specs.Lists.{All}
use Rattle.answers.specs.declared.call.Call.TheVariants.{Ask}
use Rattle.answers.specs.declared.call.Format.{Format}
use Rattle.answers.specs.declared.call.Query.{Query}
use Rattle.answers.specs.declared.call.Query.TheVariants.{Write, WriteState}
use Rattle.big_endian.specs.Bytes.{Byte}
use Rattle.formats.specs.Formats.{bytes_for, size_for}
use Rattle.layout.specs.Clauses.{are_lengths}
use Rattle.layout.specs.States.{map_here}
use Rattle.soundness.specs.Sound.{is_sound}
use Rattle.views.specs.Laid.{padded}
use Rattle.views.specs.View.{Shaped}
use Rattle.snapshot.specs.Fresh.{fresh_head}
use Rattle.unit.specs.Carried.{Carried, Asked}
use Rattle.history.specs.Plain.{load_of}
use Rattle.conditions.specs.CCalls.{Memory, carried_in, Result, CallOfC, CLoads}
use Rattle.conditions.specs.Runs.{lending}
use Rattle.conditions.specs.Serving.{Seen, CallOfServe, handed, loading, Loads}

-- the state that a call names, if it names one, and the query that it makes
pub data Naming : Type 0 where
  no_state : Naming
  state : ℕ → Naming

abbrev pub query_for : Format → Naming → Query
query_for format no_state = Write format
query_for format (state n) = WriteState format n

-- a state that is written into bytes, with words that the call has no use for
abbrev pub writing : Format → Naming → List ℕ → List ℕ → Asked
writing format naming words out = lending (Ask (query_for format naming)) words out

-- the bytes that an accepted writing wrote, by its count
abbrev pub bytes_left : Seen → List ℕ
bytes_left s = take (value_in (said_by s.reply.answer)) s.bytes

-- the map that a table holds
abbrev pub map_in : Carried → List ℕ
map_in k = take k.head.used k.table

-- the map at a state, and the state that is meant: "With no state named, the tip is now written"
abbrev pub map_at : Carried → ℕ → List ℕ
map_at k n = map_here k.table k.journal k.head n

abbrev pub named_at : Carried → Naming → ℕ
named_at k no_state = k.head.tip
named_at k (state n) = n

-- a sound store in memory of lengths in range
pub record IsSound (k : Carried) : Type 0 where
  pub lengths : are_lengths (length k.table) (length k.journal) ≡ true
  pub sound : is_sound k.table k.journal k.head ≡ true

-- "into a book that holds it": lengths in range, and a word for each offer
pub record Holds (k : Carried) (map : List ℕ) : Type 0 where
  pub range : are_lengths (length k.table) (length k.journal) ≡ true
  pub room : length map ≤ length k.table

-- a book that does not
pub record TooSmall (k : Carried) (map : List ℕ) : Type 0 where
  pub range : are_lengths (length k.table) (length k.journal) ≡ true
  pub short : length k.table < length map

-- the store that a load of this map and number with this depth leaves in memory of these lengths
pub record IsLoaded (before after : Carried) (map : List ℕ) (number depth : ℕ) : Type 0 where
  pub table : after.table ≡ padded (length before.table) map
  pub journal : after.journal ≡ replicate (length before.journal) 0
  pub head : after.head ≡ fresh_head (length map) number depth

pub record Written (format : Format) : Type 0 where
  -- "Writing an image may now name any state from anchor to tip.", and "A state may hold more offers than the book; its image is still
  -- written": of every kept state, into bytes that have room for it, and "bytes past it are unchanged"
  pub writes_every_kept_state : (k : Carried) (n : ℕ) (words out : List ℕ) (s : Seen)
      → IsSound k → k.head.checkpoint ≤ n → n ≤ k.head.tip → size_for format (map_at k n) ≤ length out
      → CallOfServe k (writing format (state n) words out) s
      → (said_by s.reply.answer ≡ accepted (size_for format (map_at k n)))
      × (s.bytes ≡ bytes_for format n (map_at k n) ++ drop (size_for format (map_at k n)) out)
      × (s.words ≡ words)
  -- any other state is 11, whatever bytes are lent, and bytes too short for a kept one are 17
  pub refuses_other_states : (k : Carried) (n : ℕ) (words out : List ℕ) (s : Seen)
      → IsSound k → (k.head.checkpoint ≤ n → n ≤ k.head.tip → ⊥) → CallOfServe k (writing format (state n) words out) s
      → said_by s.reply.answer ≡ refused 11
  pub refuses_short_bytes : (k : Carried) (n : ℕ) (words out : List ℕ) (s : Seen)
      → IsSound k → k.head.checkpoint ≤ n → n ≤ k.head.tip → length out < size_for format (map_at k n)
      → CallOfServe k (writing format (state n) words out) s
      → said_by s.reply.answer ≡ refused 17
  -- "With no state named, the tip is now written": the answer and all that is left are those of the tip named
  pub no_state_is_the_tip : (k : Carried) (words out : List ℕ) (s t : Seen)
      → CallOfServe k (writing format no_state words out) s → CallOfServe k (writing format (state k.head.tip) words out) t → s ≡ t
  -- what an accepted call writes loads, with a depth from 0 to 63, "as the same map and state number": "An image that
  -- names a state loads as that state's map."
  pub written_loads : (k : Carried) (naming : Naming) (words out : List ℕ) (s : Seen)
      → CallOfServe k (writing format naming words out) s → is_accepted s.reply.answer ≡ true
      → Shaped k.head → named_at k naming < 2 ^ 32
      → (k' : Carried) (depth : ℕ) (words' : List ℕ) (s' : Seen)
      → Holds k' (map_at k (named_at k naming)) → depth ≤ 63 → CallOfServe k' (loading words' (load_of depth format (bytes_left s))) s'
      → (is_accepted s'.reply.answer ≡ true) × IsLoaded k' (handed s') (map_at k (named_at k naming)) (named_at k naming) depth
  -- "loading it elsewhere follows 16"
  pub written_too_large : (k : Carried) (naming : Naming) (words out : List ℕ) (s : Seen)
      → CallOfServe k (writing format naming words out) s → is_accepted s.reply.answer ≡ true
      → Shaped k.head → named_at k naming < 2 ^ 32
      → (k' : Carried) (depth : ℕ) (words' : List ℕ) (s' : Seen)
      → TooSmall k' (map_at k (named_at k naming)) → depth ≤ 63 → CallOfServe k' (loading words' (load_of depth format (bytes_left s))) s'
      → said_by s'.reply.answer ≡ refused 16
  -- what was loaded, from bytes below 256, is written back "byte for byte" into bytes that have room for it, and "bytes past it are
  -- unchanged"
  pub loaded_writes_back : (k : Carried) (depth : ℕ) (bytes : List ℕ) (s : Seen) → All Byte bytes → Loads k (load_of depth format bytes) s
      → (words out : List ℕ) (s' : Seen) → length bytes ≤ length out → CallOfServe (handed s) (writing format no_state words out) s'
      → (said_by s'.reply.answer ≡ accepted (length bytes)) × (s'.bytes ≡ bytes ++ drop (length bytes) out)
  -- those on loading and writing back of the C functions, of the bytes that the one leaves and the other is lent; the others are as
  -- `serve` has them
  pub c_written_loads : (m : Memory) (naming : Naming) (words out : List ℕ) (r : Result)
      → CallOfC m (writing format naming words out) r → r.code ≡ 0
      → (m' : Memory) (depth : ℕ) (words' : List ℕ) (r' : Result)
      → Holds (carried_in m') (map_at (carried_in m) (named_at (carried_in m) naming)) → depth ≤ 63
      → CallOfC m' (loading words' (load_of depth format (take r.value r.bytes))) r'
      → (r'.code ≡ 0)
      × IsLoaded (carried_in m') (carried_in r'.memory) (map_at (carried_in m) (named_at (carried_in m) naming))
      (named_at (carried_in m) naming) depth
  pub c_written_too_large : (m : Memory) (naming : Naming) (words out : List ℕ) (r : Result)
      → CallOfC m (writing format naming words out) r → r.code ≡ 0
      → (m' : Memory) (depth : ℕ) (words' : List ℕ) (r' : Result)
      → TooSmall (carried_in m') (map_at (carried_in m) (named_at (carried_in m) naming)) → depth ≤ 63
      → CallOfC m' (loading words' (load_of depth format (take r.value r.bytes))) r' → r'.code ≡ 16
  pub c_loaded_writes_back : (m : Memory) (depth : ℕ) (bytes : List ℕ) (r : Result) → CLoads m (load_of depth format bytes) r
      → (words out : List ℕ) (r' : Result) → length bytes ≤ length out → CallOfC r.memory (writing format no_state words out) r'
      → (r'.code ≡ 0) × (r'.value ≡ length bytes) × (r'.bytes ≡ bytes ++ drop (length bytes) out)
