-- What a C program lends to a call and sees of it, and the promise of each C function (include/cechnuol.h), as its contract has it.
-- Assumes nothing.
use Rattle.std.specs.Prelude.{◌≡◌, Bool, true, false, cond, ◌||◌, List, [], ℕ, eqb, length}
use Rattle.changes.specs.Lists.{All}
use Rattle.answers.specs.Check.{Answered}
use Rattle.answers.specs.declared.call.Call.{Call}
use Rattle.answers.specs.declared.call.Call.TheVariants.{Reset, Step, Read, Ask}
use Rattle.answers.specs.declared.call.Query.{Query}
use Rattle.answers.specs.declared.call.Reset.TheVariants.{Load as LoadCall}
use Rattle.big_endian.specs.Bytes.{Byte}
use Rattle.answers.specs.Answers.{said_by, is_accepted}
use Rattle.views.specs.View.{Limits}
use Rattle.batch.specs.Batches.{batch, answer, output}
use Rattle.head_words.specs.HeadWords.{head_size, head_of, words_of}
use Rattle.lent.specs.Codes.{code_of, value_of, no_price, since_read, since_of}
use Rattle.lent.specs.Lent.{tally_of, tally_words, answer_to, Serves, words_after, bytes_after}
use Rattle.lent.specs.Lent.{answer_to_query, Tells, TellsSince, words_written, bytes_written}
use Rattle.unit.specs.Carried.{Carried, Asked}
use Rattle.history.specs.Named.{Named, Response, accepted_as, refused, no_price as unpriced}
use Rattle.history.specs.Plain.{Load}
use Rattle.conditions.specs.Runs.{lending}
use Rattle.conditions.specs.Serving.{Seen, Of64Bits}

-- the memory of a store, with its head and its tally as words
pub record Memory : Type 0 where
  pub table : List ℕ
  pub journal : List ℕ
  pub head : List ℕ
  pub tally : List ℕ

-- what is carried in memory: the head and the tally that the words hold
abbrev pub carried_in : Memory → Carried
carried_in m = record { tally = tally_of m.tally; table = m.table; journal = m.journal; head = head_of m.head }

-- whether a function is lent the tally: a query is not
abbrev pub lends_tally : Call → Bool
lends_tally (Reset call) = true
lends_tally (Step call) = true
lends_tally (Read call) = true
lends_tally (Ask query) = false

-- what is seen of a call: the code that the function returns, the word for a value and the one for since when before and after it, and
-- all memory after it
pub record Result : Type 0 where
  pub code : ℕ
  pub before : ℕ
  pub value : ℕ
  pub since_before : ℕ
  pub since : ℕ
  pub memory : Memory
  pub words : List ℕ
  pub bytes : List ℕ

-- the memory that is lent to the next call
abbrev pub memory_after : Result → Memory
memory_after r = r.memory

module _ (m : Memory) (words bytes : List ℕ) (r : Result) where
  -- The contract of a function that is lent a store with words and bytes. One that takes no words or no bytes is lent none: its contract
  -- is this with the empty list in their place. None has a word for since when: in its place stands what the answer would leave there.
  abbrev pub ChangesStore : Call → Type 0
  ChangesStore call =
      Serves m.table m.journal words bytes m.head m.tally call r.code
      r.memory.table r.memory.journal r.memory.head r.memory.tally
      × (r.words ≡ words_after m.table m.journal words bytes m.head m.tally call)
      × (r.bytes ≡ bytes_after m.table m.journal words bytes m.head m.tally call)
      × (r.value ≡ r.before)
      × (r.since ≡ since_of (said_by (answer_to m.table m.journal words bytes m.head m.tally call)) r.since_before)

  -- and of one that is lent a store to read, a word for its value and, if it is a lookup, one for since when, with the same in its place
  -- if it is none
  abbrev pub AnswersQuery : Query → Type 0
  AnswersQuery query =
      Tells m.table m.journal words bytes m.head query r.code r.value r.before
      × (r.words ≡ words_written m.table m.journal words bytes m.head query)
      × (r.bytes ≡ bytes_written m.table m.journal words bytes m.head query)
      × (r.memory ≡ m)
      × TellsSince m.table m.journal words bytes m.head query r.since r.since_before

  abbrev pub Promise : Call → Type 0
  Promise (Reset call) = ChangesStore (Reset call)
  Promise (Step call) = ChangesStore (Step call)
  Promise (Read call) = ChangesStore (Read call)
  Promise (Ask query) = AnswersQuery query

-- A call of a C function: what the types of its parameters say, a head of 85 words, a tally of 3 words of 64 bits, bytes that are bytes;
-- and its promise.
pub record CallOfC (m : Memory) (a : Asked) (r : Result) : Type 0 where
  pub head_words : length m.head ≡ head_size
  pub tally_words : length m.tally ≡ 3
  pub counts : Of64Bits (tally_of m.tally)
  pub all_bytes : All Byte a.bytes
  pub promise : Promise m a.words a.bytes r a.call

abbrev pub with_tally_c : Memory → List ℕ → Memory
with_tally_c m tally = record { table = m.table; journal = m.journal; head = m.head; tally = tally }

-- A call on the store in memory, lent any tally.
pub record CallOnStoreC (m : Memory) (a : Asked) (r : Result) : Type 0 where
  pub tally : List ℕ
  pub serves : CallOfC (with_tally_c m tally) a r

-- what the code says: accepted, a lookup that finds no price, or "the number alone"
abbrev pub tells_c : Named → Result → Response
tells_c named r =
    cond (eqb r.code 0) (accepted_as named r.value (since_read r.since) r.words r.bytes)
    (cond (eqb r.code no_price) (unpriced (since_read r.since)) (refused r.code))

-- whether a code says that the call was accepted, and the number of the ground where it was not
abbrev pub accepted_code : ℕ → Bool
accepted_code code = eqb code 0 || eqb code no_price

abbrev pub ground_code : ℕ → ℕ
ground_code code = cond (eqb code no_price) 0 code

abbrev pub lengths_c : Memory → Limits
lengths_c m = record { table = length m.table; journal = length m.journal }

-- the store is "just loaded from" the image, or the sheet
pub record CLoads (m : Memory) (load : Load) (r : Result) : Type 0 where
  pub words : List ℕ
  pub serves : CallOfC m (lending (Reset (LoadCall load.depth load.format)) words load.bytes) r
  pub accepted : r.code ≡ 0

-- A C function on a store does what `serve` does on the head and the tally that its words hold: code, value and since when say the answer,
-- and all memory is as `serve` leaves it. Where the call is refused the head's words stay; a query is lent no tally, and it alone has a
-- value.
pub record AsServed (m : Memory) (a : Asked) (r : Result) (s : Seen) : Type 0 where
  pub code : r.code ≡ code_of (said_by s.reply.answer)
  pub table : r.memory.table ≡ s.table
  pub journal : r.memory.journal ≡ s.journal
  pub words : r.words ≡ s.words
  pub bytes : r.bytes ≡ s.bytes
  pub head : r.memory.head ≡ cond (is_accepted s.reply.answer) (words_of s.reply.head) m.head
  pub tally : lends_tally a.call ≡ true → r.memory.tally ≡ tally_words s.tally
  pub value : lends_tally a.call ≡ false → r.value ≡ value_of (said_by s.reply.answer) r.before
  pub since : lends_tally a.call ≡ false → r.since ≡ since_of (said_by s.reply.answer) r.since_before

-- all is as it came
abbrev pub UntouchedC : Memory → Asked → Result → Type 0
UntouchedC m a r =
    (r.memory ≡ m)
    × (r.words ≡ a.words)
    × (r.bytes ≡ a.bytes)
    × (r.value ≡ r.before)
    × (r.since ≡ r.since_before)

-- The promise of `cechnuol_price_batch`, as its contract has it: the code, the output memory after it, and the word for the count before
-- and after it.
abbrev pub PricesC : List ℕ → List ℕ → List ℕ → ℕ → List ℕ → ℕ → ℕ → Type 0
PricesC reads orders out code out' before count =
    let executed = batch reads orders (length out) in
    (code ≡ code_of (answer executed))
    × (out' ≡ output executed out)
    × (count ≡ value_of (answer executed) before)

abbrev pub memory_in : List ℕ → List ℕ → List ℕ → List ℕ → Memory
memory_in table journal head tally = record { table = table; journal = journal; head = head; tally = tally }

-- what is seen of a function that has no word for since when: the program sees none, and what the answer would leave there is put in its
-- place
abbrev pub result_of : Answered → ℕ → ℕ → ℕ → Memory → List ℕ → List ℕ → Result
result_of answer code before value memory words bytes = record {
  code = code;
  before = before;
  value = value;
  since_before = 0;
  since = since_of (said_by answer) 0;
  memory = memory;
  words = words;
  bytes = bytes;
}

-- The promise of a function in the terms of its contract, by what it is lent besides a store: nothing, words, or bytes; and of a query.
module _ (call : Call) (table journal head tally : List ℕ) where
  abbrev pub StoreKeeps : ℕ → List ℕ → List ℕ → List ℕ → List ℕ → Type 0
  StoreKeeps code table' journal' head' tally' =
      Promise (memory_in table journal head tally) [] []
      (result_of (answer_to table journal [] [] head tally call) code 0 0 (memory_in table' journal' head' tally')
      (words_after table journal [] [] head tally call) (bytes_after table journal [] [] head tally call)) call

  abbrev pub WordsKeep : List ℕ → ℕ → List ℕ → List ℕ → List ℕ → List ℕ → List ℕ → Type 0
  WordsKeep words code table' journal' head' tally' words' =
      Promise (memory_in table journal head tally) words []
      (result_of (answer_to table journal words [] head tally call) code 0 0 (memory_in table' journal' head' tally')
      words' (bytes_after table journal words [] head tally call)) call

  abbrev pub BytesKeep : List ℕ → ℕ → List ℕ → List ℕ → List ℕ → List ℕ → List ℕ → Type 0
  BytesKeep bytes code table' journal' head' tally' bytes' =
      Promise (memory_in table journal head tally) [] bytes
      (result_of (answer_to table journal [] bytes head tally call) code 0 0 (memory_in table' journal' head' tally')
      (words_after table journal [] bytes head tally call) bytes') call

module _ (query : Query) (table journal head : List ℕ) where
  abbrev pub QueryKeeps : List ℕ → ℕ → ℕ → ℕ → List ℕ → Type 0
  QueryKeeps bytes code before value bytes' =
      (tally : List ℕ) → Promise (memory_in table journal head tally) [] bytes
      (result_of (answer_to_query table journal [] bytes head query) code before value
      (memory_in table journal head tally) (words_written table journal [] bytes head query) bytes') (Ask query)

  -- a lookup has a word for since when, and neither words nor bytes
  abbrev pub LookUpKeeps : ℕ → ℕ → ℕ → ℕ → ℕ → Type 0
  LookUpKeeps code before value since-before since =
      (tally : List ℕ) → Promise (memory_in table journal head tally) [] []
      (record {
        code = code;
        before = before;
        value = value;
        since_before = since-before;
        since = since;
        memory = memory_in table journal head tally;
        words = words_written table journal [] [] head query;
        bytes = bytes_written table journal [] [] head query;
      }) (Ask query)
