-- The writing of a state, as an image or a sheet: the unit's transition is the plain list's.
-- Assumes nothing.
use mathlib.Core.Path.{◌≡◌, sym, ap, ap₂, ◌∙◌}
use mathlib.Core.List.{List, [], ◌∷◌, ◌++◌}
use Prim.Native.Nat.{ℕ}
use native.Mathlib.Omega.{arith}
use lib.Dec.{ltb}
use lib.ListN.{length, drop}
use Rattle.std.proofs.Common.{Ok}
use Rattle.answers.specs.declared.call.Format.{Format}
use Rattle.answers.specs.declared.call.Query.TheVariants.{Write, WriteState}
use Rattle.formats.specs.Formats.{bytes_for, size_for}
use Rattle.formats.proofs.Laws.{bytes_length}
use Rattle.layout.specs.States.{map_here}
use Rattle.views.specs.View.{Store}
use Rattle.exports.specs.Export.{state_size, state_bytes, write_check}
use Rattle.exports.proofs.ImagesWritten.{write_ok}
use Rattle.history.specs.Named.{ask, calling, written}
use Rattle.history.specs.Plain.{Test, met, first_of, Plain, tip_of, map_at, bytes_at, state_tests, room_tests, checked}
use Rattle.history.specs.Traces.{store_transition}
use Rattle.history.proofs.NamedStates.{only_last, within, map_same}
use Rattle.history.proofs.Stored.{store_of, verdict_of, verdict_of_lem, transition_by, settle, past_two, checkpoint_is, tip_is}
use Rattle.history.proofs.Stored.{state_same}
use Rattle.history.proofs.Views.{Fit}

module _ (p : Plain) (f : Fit p) (format : Format) where
  abbrev T : List ℕ
  T = (store_of p).table

  abbrev J : List ℕ
  J = (store_of p).journal

  abbrev s : Store
  s = store_of p

  module _ (state : ℕ) (out : List ℕ) where
    long : size_for format (map_at p.line state) ≡ length (bytes_at p format state)
    long = sym (bytes_length format state (map_at p.line state))

    write_checks : verdict_of (write_check format T J s.head state (length out))
        ≡ first_of (state_tests p state ++ room_tests (bytes_at p format state) out)
    unfolding state_size
    write_checks =
        ap verdict_of (past_two p f _)
        ∙ verdict_of_lem _
        ∙ ap (λ (gs : List Test). first_of (gs ++ (met (ltb (length out) (state_size format T J s.head state)) 17 ∷ [])))
        (state_same p f state)
        ∙ only_last (state_tests p state) _ _ 17
        (λ a. let w = within p state [] a in
        ap (λ (m : List ℕ). ltb (length out) (size_for format m)) (map_same p f state w.0 w.1) ∙ ap (ltb (length out)) long)

    -- of a state that is accepted the map in memory is the plain list's, and so are the bytes
    module _ (e : write_check format T J s.head state (length out) ≡ (Ok tt)) where
      map_is : map_here T J s.head state ≡ map_at p.line state
      map_is =
          let h = (write_ok format T J s.head state (length out) e).held in
          map_same p f state (omega (arith, checkpoint_is p f, h.low)) (omega (arith, tip_is p f, h.high))

      size_is : state_size format T J s.head state ≡ length (bytes_at p format state)
      unfolding state_size
      size_is = ap (size_for format) map_is ∙ long

      bytes_are : state_bytes format T J s.head state ≡ bytes_at p format state
      unfolding state_bytes
      bytes_are = ap (bytes_for format state) map_is

  pub write_state_agrees : (state : ℕ) (out list : List ℕ) → let call = calling (ask (WriteState format state)) list out in
      store_transition s call list ≡ transition_by p call (checked p call)
  write_state_agrees state out list =
      settle p (calling (ask (WriteState format state)) list out) list (write_checks state out)
      (λ e i. record {
        response = written (size_is state out e i) (bytes_are state out e i ++ drop (size_is state out e i) out);
        next = s;
      })

  -- with no state named: the head's tip is the plain list's
  pub write_agrees : (out list : List ℕ) → let call = calling (ask (Write format)) list out in
      store_transition s call list ≡ transition_by p call (checked p call)
  unfolding state_bytes state_size
  write_agrees out list =
      settle p (calling (ask (Write format)) list out) list
      (ap verdict_of (past_two p f _) ∙ verdict_of_lem _ ∙ ap (λ (n : ℕ). first_of (met (ltb (length out) n) 17 ∷ [])) count)
      (λ e i. record { response = written (count i) (bytes i ++ drop (count i) out); next = s })
    where
      map_is : map_here T J s.head s.head.tip ≡ map_at p.line (tip_of p.line)
      map_is =
          map_same p f s.head.tip (omega (arith, f.high, tip_is p f)) (omega (arith, tip_is p f))
          ∙ ap (map_at p.line) (tip_is p f)

      count : state_size format T J s.head s.head.tip ≡ length (bytes_at p format (tip_of p.line))
      count = ap (size_for format) map_is ∙ sym (bytes_length format (tip_of p.line) (map_at p.line (tip_of p.line)))

      bytes : state_bytes format T J s.head s.head.tip ≡ bytes_at p format (tip_of p.line)
      bytes = ap₂ (bytes_for format) (tip_is p f) map_is
