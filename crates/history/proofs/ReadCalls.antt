-- Lookup, issue, forward and release: the unit's transition is the plain list's, and a store can follow the plain list that it leaves.
-- Assumes nothing.
use mathlib.Core.Path.{◌≡◌, refl, sym, ap, ap₂, subst, ◌∙◌}
use mathlib.Core.Bool.{Bool, true, false, not, ◌&&◌}
use mathlib.Core.List.{List, [], ◌∷◌, ◌++◌, map}
use Prim.Native.Nat.{ℕ, suc, ◌-◌, ◌^◌, ◌≤◌}
use native.Mathlib.Omega.{arith}
use borrow.Author.Tests.{le-leb}
use lib.Dec.{ltb, leb}
use lib.ListN.{length, get_or, take, length-map, get_or-map}
use Rattle.entry.specs.Word.{offer_of, none_of}
use Rattle.changes.specs.Found.{Found}
use Rattle.std.proofs.Common.{Some, None}
use Rattle.changes.specs.Calculus.{find, compose_all}
use Rattle.changes.specs.Lists.{is_list, has_no_put, Map}
use Rattle.changes.specs.ReadSets.{found_or, read_of, over}
use Rattle.changes.proofs.Applying.{compose_all-nil}
use Rattle.changes.proofs.Reading.{read_length, over-length}
use Rattle.changes.proofs.Laws.{read_changed, over_twice, over_zero, read_Changes, run_split, Changes-test}
use Rattle.changes.proofs.ListTest.{list_facts}
use Rattle.answers.specs.declared.call.LookUp.{LookUp as Asked}
use Rattle.answers.specs.declared.call.Query.TheVariants.{LookUp}
use Rattle.answers.specs.declared.call.Read.TheVariants.{Issue, Forward, Release}
use Rattle.answers.specs.declared.call.Reader.{Reader}
use Rattle.answers.specs.Answers.{When, by_step, said_by_since, said_by}
use Rattle.std.proofs.Common.{Ok}
use Rattle.answers.specs.declared.answer.Since.{Since}
use Rattle.layout.specs.States.{steps_between, map_here}
use Rattle.views.specs.Trim.{trimmed}
use Rattle.views.specs.View.{Store, View, closed as closed_slot, holding, issued_of, encode, decode, Good, map_at as view_map_at}
use Rattle.forwards.specs.Forward.{forward_check, steps_for}
use Rattle.issues.specs.Issue.{issue_check}
use Rattle.last_changes.specs.Last.{Last}
use Rattle.last_changes.specs.Last.{onward, last_in}
use Rattle.lookups.specs.LookUp.{look_up_check, quote_of, since_of, since_here}
use Rattle.read_views.specs.OnView.{with_slot, between}
use Rattle.releases.specs.Release.{release_check}
use Rattle.lookups.proofs.LookUpAccepted.{look_up_ok}
use Rattle.issues.proofs.IssueAccepted.{issue_ok}
use Rattle.forwards.proofs.ForwardAccepted.{ForwardOk, forward_ok}
use Rattle.read_views.proofs.ClosingViews.{release_leaves, forward_leaves, forward_shows}
use Rattle.read_views.proofs.OnViews.{look_up_shows, look_up_steps, issue_leaves, issue_shows}
use Rattle.slots.specs.Callers.{most_words}
use Rattle.history.specs.Named.{read, ask, calling, Response, response_to, Transition, done, filled, forwarded}
use Rattle.history.specs.Traces.{store_transition}
use Rattle.history.specs.Plain.{Test, met, accept, first_of, Line, Place, closed, reading, Plain, tip_of}
use Rattle.history.specs.Plain.{map_at, floor_of, lists_between, shown, quoted, named_at, later_or, last_naming}
use Rattle.history.specs.Plain.{since_at, is_open, open_at, offers_in}
use Rattle.history.specs.Plain.{offers_at, slot_tests, long_tests, state_tests, read_tests, query_tests, checked, with_place}
use Rattle.history.proofs.Lines.{Whole, map_at_lem, carried, between_Changes, between_same, between_join}
use Rattle.history.proofs.Views.{view_of, Fit, slot_of, place_range, view_since, view_map, view_between, issue_view}
use Rattle.history.proofs.Views.{close_view}
use Rattle.history.proofs.Views.{floor_same, floor_up}
use Rattle.history.proofs.Stored.{store_of, stored, verdict_of, verdict_of_lem, accepted_done, transition_by, settle, view_back}
use Rattle.history.proofs.Stored.{store_Shaped, past_two, checkpoint_is, tip_is, state_same, open_same}

-- a read set shows the offers of a list's words
pub read_shown : (m ws : List ℕ) → read_of m ws ≡ shown m (map offer_of ws)
unfolding read_of
read_shown m [] = refl
read_shown m (w ∷ ws) = ap (λ (l : List ℕ). found_or (find (offer_of w) m) (none_of (offer_of w)) ∷ l) (read_shown m ws)

-- The words that a slot's issue filled at a state n, with c the checkpoint: brought to the checkpoint, they show the map there at the
-- slot's offers, which are those of a list. What they show at n itself is not said.
pub record Shows (l : Line) (c n : ℕ) (offers words : List ℕ) : Type 0 where
  pub list : List ℕ
  pub list_ok : is_list list ≡ true
  pub offers_are : offers ≡ map offer_of list
  pub words_list : is_list words ≡ true
  pub shown_at : over words (compose_all (lists_between l n c)) ≡ read_of (map_at l c) list

-- the words are those that the issue of a slot filled, if the slot is open
abbrev pub ShowsAt : Plain → ℕ → List ℕ → Type 0
ShowsAt p slot words =
    (n : ℕ) (offers : List ℕ) → get_or p.places slot closed ≡ reading n offers → Shows p.line p.checkpoint n offers words

module _ {l : Line} {c n : ℕ} {offers words : List ℕ} (t : Shows l c n offers words) where
  -- as many words as the slot has offers
  pub shows_length : length words ≡ length offers
  shows_length =
      sym (over-length words (compose_all (lists_between l n c)))
      ∙ ap length t.shown_at
      ∙ read_length (map_at l c) t.list
      ∙ sym (ap length t.offers_are ∙ length-map t.list offer_of)

  -- in a line that has the same lists up to the checkpoint, and the same map there
  pub Shows-line : (m : Line) → lists_between m n c ≡ lists_between l n c → map_at m c ≡ map_at l c → Shows m c n offers words
  Shows-line m lists there =
      record {
        list = t.list;
        list_ok = t.list_ok;
        offers_are = t.offers_are;
        words_list = t.words_list;
        shown_at =
            ap (λ (ds : List (List ℕ)). over words (compose_all ds)) lists
            ∙ t.shown_at
            ∙ ap (λ (x : List ℕ). read_of x t.list) (sym there);
      }

  -- from the checkpoint on: brought to a later state, they show the map of that state
  module _ (w : Whole l) (from : l.start ≤ n) (below : n ≤ c) (s : ℕ) (order : c ≤ s) (high : s ≤ tip_of l) where
    pub shown_later : over words (compose_all (lists_between l n s)) ≡ read_of (map_at l s) t.list
    shown_later =
        let before = compose_all (lists_between l n c) in
        let after = compose_all (lists_between l c s) in
        ap (λ (ds : List (List ℕ)). over words (compose_all ds)) (sym (between_join l n c s from below order))
        ∙ ap (over words) (run_split (lists_between l n c) (lists_between l c s))
        ∙ sym (over_twice words before after (between_Changes w c s).rises)
        ∙ ap (λ (ws : List ℕ). over ws after) t.shown_at
        ∙ read_changed (map_at l c) after (map_at_lem w c (omega arith)) (between_Changes w c s) t.list
        ∙ ap (λ (x : List ℕ). read_of x t.list) (carried w c s (omega arith) order high)

    pub shows_later : Shows l s n offers words
    shows_later =
        record {
          list = t.list;
          list_ok = t.list_ok;
          offers_are = t.offers_are;
          words_list = t.words_list;
          shown_at = shown_later;
        }

-- the read set of a map at the offers of a list is a list
read_list : (m list : List ℕ) → Map m → is_list list ≡ true → is_list (read_of m list) ≡ true
read_list m list h e =
    let fact = list_facts list e in
    ap₂ ◌&&◌ (le-leb (length (read_of m list)) 64 (omega (arith, read_length m list, fact.0)))
    (Changes-test (read_of m list) (read_Changes m list h fact.1))

-- "nor 6 at a forward": a test that is not met where the one before it is not, among others; and the one after it is then another's
no_six : (before : List Test) (b c long long' : Bool) (gs : List Test) → (b ≡ true → (c ≡ true) × (long ≡ long'))
    → first_of (before ++ (met (not b) 5 ∷ met (not c) 6 ∷ met long 18 ∷ gs))
    ≡ first_of (before ++ (met (not b) 5 ∷ met long' 18 ∷ gs))
unfolding first_of
no_six [] false c long long' gs h = refl
no_six [] true c long long' gs h = rw ((h refl).0, (h refl).1)
no_six (met true n ∷ before) b c long long' gs h = refl
no_six (met false n ∷ before) b c long long' gs h = no_six before b c long long' gs h

quote_same : (asked : Asked) (found : Found) (since : Since) (words bytes : List ℕ)
    → response_to (ask (LookUp asked)) (said_by (quote_of found since)) words bytes ≡ quoted found (said_by_since since)
quote_same asked (Some w) since words bytes = refl
quote_same asked None since words bytes = refl

-- the last step naming an offer, by how many steps lead up to it and by the state to which it leads
onward_same : (from : ℕ) (last : Last) (found : Found)
    → said_by_since (since_of from (onward last found)) ≡ later_or (said_by_since (since_of (suc from) last)) (named_at (suc from) found)
onward_same from (Some (w, n)) found = ap by_step (omega arith)
onward_same from None (Some w) = ap by_step (omega arith)
onward_same from None None = refl

last_same : (offer from : ℕ) (lists : List (List ℕ)) → said_by_since (since_of from (last_in offer lists)) ≡ last_naming offer from lists
unfolding last_in last_naming
last_same offer from [] = refl
last_same offer from (list ∷ lists) =
    onward_same from (last_in offer lists) (find offer list)
    ∙ ap (λ (later : When). later_or later (named_at (suc from) (find offer list))) (last_same offer (suc from) lists)

module _ (p : Plain) (f : Fit p) where
  abbrev T : List ℕ
  T = (store_of p).table

  abbrev J : List ℕ
  J = (store_of p).journal

  abbrev s : Store
  s = store_of p

  -- lookup
  module _ (asked : Asked) where
    look_up_checks : verdict_of (look_up_check T J s.head asked) ≡ first_of (query_tests p (LookUp asked) [])
    look_up_checks =
        ap verdict_of (past_two p f _)
        ∙ verdict_of_lem _
        ∙ ap (λ (gs : List Test). first_of (met (leb (2 ^ 31) asked.offer) 6 ∷ gs)) (state_same p f asked.state)

    map_there : look_up_check T J s.head asked ≡ (Ok tt) → map_here T J s.head asked.state ≡ map_at p.line asked.state
    map_there e =
        let ok = look_up_ok T J s.head asked e in
        look_up_shows T J s.head asked e
        ∙ ap (λ (v : View). view_map_at v asked.state) (view_back p f)
        ∙ view_map p f asked.state (omega (arith, checkpoint_is p f, ok.low)) (omega (arith, tip_is p f, ok.high))

    since_there : look_up_check T J s.head asked ≡ (Ok tt)
        → said_by_since (since_here J s.head asked) ≡ since_at p asked.offer asked.state
    since_there e =
        let ok = look_up_ok T J s.head asked e in
        let lists : steps_between J s.head s.head.checkpoint asked.state ≡ lists_between p.line p.checkpoint asked.state =
        look_up_steps T J s.head asked e
        ∙ ap₂ (λ (c : ℕ) (v : View). take (asked.state - c) v.steps) (checkpoint_is p f) (view_back p f)
        ∙ view_since p f asked.state (omega (arith, checkpoint_is p f, ok.low)) (omega (arith, tip_is p f, ok.high)) in
        ap₂ (λ (c : ℕ) (ds : List (List ℕ)). said_by_since (since_of c (last_in asked.offer ds))) (checkpoint_is p f) lists
        ∙ last_same asked.offer p.checkpoint (lists_between p.line p.checkpoint asked.state)

    pub look_up_agrees : (list bytes : List ℕ)
        → let call = calling (ask (LookUp asked)) list bytes in store_transition s call list ≡ transition_by p call (checked p call)
    look_up_agrees list bytes =
        settle p (calling (ask (LookUp asked)) list bytes) list look_up_checks
        (λ e.
        let respond : Response → Transition Store = λ r. record { response = r; next = s } in
        ap respond (quote_same asked (find asked.offer (map_here T J s.head asked.state)) (since_here J s.head asked) list bytes)
        ∙ ap₂ (λ (m : List ℕ) (since : When). respond (quoted (find asked.offer m) since)) (map_there e) (since_there e))

  -- issue
  module _ (reader : Reader) (list : List ℕ) where
    abbrev slot : ℕ
    slot = reader.slot

    issue_checks : verdict_of (issue_check T J s.head reader list) ≡ first_of (read_tests p (Issue reader) list)
    issue_checks =
        ap verdict_of (past_two p f _)
        ∙ verdict_of_lem _
        ∙ ap
        (λ (b : Bool). first_of
        (slot_tests reader ++ (met b 4 ∷ met (not (is_list list)) 6 ∷ met (not (has_no_put list)) 6 ∷ long_tests reader list)))
        (open_same p f slot)

    module _ (e : issue_check T J s.head reader list ≡ (Ok tt)) where
      free : open_at p slot ≡ false
      free = sym (open_same p f slot) ∙ (issue_ok T J s.head reader list e).free

      view_opened : with_slot (decode s) slot (holding s.head.checkpoint)
          ≡ view_of (with_place p slot (reading p.checkpoint (map offer_of list)))
      view_opened =
          ap₂ (λ (v : View) (n : ℕ). with_slot v slot (holding n)) (view_back p f) (checkpoint_is p f)
          ∙ issue_view p f slot (map offer_of list) free

      -- "fills the list from the book"
      fills : read_of (take s.head.used T) list ≡ shown (map_at p.line p.checkpoint) (map offer_of list)
      unfolding view_of
      fills =
          issue_shows T J s.head (store_Shaped p f) reader list e
          ∙ ap (λ (v : View). read_of v.base list) (view_back p f)
          ∙ read_shown (map_at p.line p.checkpoint) list

      issue_fits : Fit (with_place p slot (reading p.checkpoint (map offer_of list)))
      issue_fits =
          record {
            range = f.range;
            whole = f.whole;
            low = omega (arith, f.low, floor_same p f slot (map offer_of list) free);
            high = f.high;
            good = subst Good view_opened (issue_leaves T J s.head (store_Shaped p f) reader list e).good;
          }

    pub issue_agrees : (bytes : List ℕ)
        → let call = calling (read (Issue reader)) list bytes in store_transition s call list ≡ transition_by p call (checked p call)
    issue_agrees bytes =
        settle p (calling (read (Issue reader)) list bytes) list issue_checks
        (λ e i. record {
          response = filled (fills e i);
          next = stored p f _ (issue_leaves T J s.head (store_Shaped p f) reader list e).is (view_opened e) i;
        })

    pub issue_Fit : first_of (read_tests p (Issue reader) list) ≡ accept
        → Fit (with_place p slot (reading p.checkpoint (map offer_of list)))
    issue_Fit e = issue_fits (accepted_done _ (issue_checks ∙ e))

    -- what the issue filled shows the map at the checkpoint, with no list to bring it there
    pub issue_set : first_of (read_tests p (Issue reader) list) ≡ accept
        → Shows p.line p.checkpoint p.checkpoint (map offer_of list) (shown (map_at p.line p.checkpoint) (map offer_of list))
    issue_set e =
        let l = p.line in
        let c = p.checkpoint in
        let words = shown (map_at l c) (map offer_of list) in
        let rules = (issue_ok T J s.head reader list (accepted_done _ (issue_checks ∙ e))).list_ok in
        record {
          list = list;
          list_ok = rules;
          offers_are = refl;
          words_list = ap is_list (sym (read_shown (map_at l c) list)) ∙ read_list (map_at l c) list (map_at_lem f.whole c f.high) rules;
          shown_at =
              ap (λ (ds : List (List ℕ)). over words (compose_all ds)) (between_same l c)
              ∙ ap (over words) compose_all-nil
              ∙ over_zero words
              ∙ sym (read_shown (map_at l c) list);
        }

  -- a slot that closes
  module _ (slot : ℕ) where
    view_closed : trimmed (with_slot (decode s) slot closed_slot) ≡ view_of (with_place p slot closed)
    view_closed = ap (λ (v : View). trimmed (with_slot v slot closed_slot)) (view_back p f) ∙ close_view p f slot

    closed_fits : Good (trimmed (with_slot (decode s) slot closed_slot)) → Fit (with_place p slot closed)
    closed_fits g =
        record {
          range = f.range;
          whole = f.whole;
          low = omega (arith, f.low, floor_up p f slot);
          high = f.high;
          good = subst Good view_closed g;
        }

  -- release
  module _ (reader : Reader) where
    release_checks : verdict_of (release_check T J s.head reader) ≡ first_of (read_tests p (Release reader) [])
    release_checks =
        ap verdict_of (past_two p f _)
        ∙ verdict_of_lem _
        ∙ ap (λ (b : Bool). first_of (slot_tests reader ++ (met (not b) 5 ∷ []))) (open_same p f reader.slot)

    pub release_agrees : (list bytes : List ℕ)
        → let call = calling (read (Release reader)) list bytes in store_transition s call list ≡ transition_by p call (checked p call)
    release_agrees list bytes =
        settle p (calling (read (Release reader)) list bytes) list release_checks
        (λ e i. record {
          response = done;
          next = stored p f _ (release_leaves T J s.head (store_Shaped p f) reader e).is (view_closed reader.slot) i;
        })

    pub release_Fit : first_of (read_tests p (Release reader) []) ≡ accept → Fit (with_place p reader.slot closed)
    release_Fit e =
        closed_fits reader.slot (release_leaves T J s.head (store_Shaped p f) reader (accepted_done _ (release_checks ∙ e))).good

  -- the number of an open slot, in the plain list and in the head
  module _ (slot n : ℕ) (offers : List ℕ) (e : get_or p.places slot closed ≡ reading n offers) where
    number_range : (floor_of p ≤ n) × (n ≤ p.checkpoint)
    unfolding view_of
    number_range = place_range p.checkpoint p.places slot n offers f.good.below e

    number_is : get_or s.head.issued slot 0 ≡ n
    unfolding encode view_of
    number_is =
        get_or-map issued_of (map slot_of p.places) slot closed_slot
        ∙ ap issued_of (get_or-map slot_of p.places slot closed)
        ∙ ap (λ (x : Place). issued_of (slot_of x)) e

    -- applying the steps since then to what was filled shows the map of the state
    brought : (words : List ℕ) → Shows p.line p.checkpoint n offers words
        → (state : ℕ) → p.checkpoint ≤ state → state ≤ tip_of p.line
        → over words (compose_all (between (view_of p) n state)) ≡ shown (map_at p.line state) offers
    brought words t state low high =
        let l = p.line in
        let from : l.start ≤ n = omega (arith, f.low, number_range.0) in
        let order : n ≤ state = omega (arith, number_range.1) in
        ap (λ (ds : List (List ℕ)). over words (compose_all ds)) (view_between p f n state number_range.0 order high)
        ∙ shown_later t f.whole from number_range.1 state low high
        ∙ read_shown (map_at l state) t.list
        ∙ ap (shown (map_at l state)) (sym t.offers_are)

  -- forward, of what the slot's issue filled
  module _ (reader : Reader) (state : ℕ) (words : List ℕ) (shows : ShowsAt p reader.slot words) where
    -- whether so many words are too many for the caller
    abbrev over_most : ℕ → Bool
    over_most = ltb (most_words reader.caller)

    ready : (x : Place) → get_or p.places reader.slot closed ≡ x → is_open x ≡ true
        → (is_list words ≡ true) × (over_most (length words) ≡ over_most (length (offers_in x)))
    ready closed e o = absurd (let z : ◌≡◌ {A = ℕ} 0 1 = cc in omega arith)
    ready (reading n offers) e o = ((shows n offers e).words_list, ap over_most (shows_length (shows n offers e)))

    forward_checks : verdict_of (forward_check T J s.head reader state words) ≡ first_of (read_tests p (Forward reader state) [])
    forward_checks =
        ap verdict_of (past_two p f _)
        ∙ verdict_of_lem _
        ∙ ap₂
        (λ (b : Bool) (gs : List Test). first_of
        (slot_tests reader ++ (met (not b) 5 ∷ met (not (is_list words)) 6 ∷ long_tests reader words ++ gs)))
        (open_same p f reader.slot) (state_same p f state)
        ∙ no_six (slot_tests reader) (open_at p reader.slot) (is_list words) (over_most (length words))
        (over_most (length (offers_at p reader.slot))) (state_tests p state) (ready (get_or p.places reader.slot closed) refl)

    module _ (e : forward_check T J s.head reader state words ≡ (Ok tt)) where
      forward_met : ForwardOk T J s.head reader state words
      forward_met = forward_ok T J s.head reader state words e

      -- the read set after the forward is the plain list's
      reads_by : (x : Place) → get_or p.places reader.slot closed ≡ x → is_open x ≡ true
          → over words (compose_all (steps_for J s.head reader state)) ≡ shown (map_at p.line state) (offers_in x)
      reads_by closed h o = absurd (let z : ◌≡◌ {A = ℕ} 0 1 = cc in omega arith)
      reads_by (reading n offers) h o =
          forward_shows T J s.head (store_Shaped p f) reader state words e
          ∙ ap₂ (λ (v : View) (k : ℕ). over words (compose_all (between v k state))) (view_back p f) (number_is reader.slot n offers h)
          ∙ brought reader.slot n offers h words (shows n offers h) state
          (omega (arith, checkpoint_is p f, forward_met.low)) (omega (arith, tip_is p f, forward_met.high))

      reads_are : over words (compose_all (steps_for J s.head reader state)) ≡ shown (map_at p.line state) (offers_at p reader.slot)
      reads_are =
          reads_by (get_or p.places reader.slot closed) refl (sym (open_same p f reader.slot) ∙ forward_met.taken)

    pub forward_agrees : (list bytes : List ℕ)
        → let call =
        calling (read (Forward reader state)) list bytes in store_transition s call words ≡ transition_by p call (checked p call)
    forward_agrees list bytes =
        settle p (calling (read (Forward reader state)) list bytes) words forward_checks
        (λ e i. record {
          response = forwarded (reads_are e i);
          next = stored p f _ (forward_leaves T J s.head (store_Shaped p f) reader state words e).is (view_closed reader.slot) i;
        })

    pub forward_Fit : first_of (read_tests p (Forward reader state) []) ≡ accept → Fit (with_place p reader.slot closed)
    forward_Fit e =
        closed_fits reader.slot
        (forward_leaves T J s.head (store_Shaped p f) reader state words (accepted_done _ (forward_checks ∙ e))).good
