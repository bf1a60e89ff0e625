-- The stream of a frame that completes a header block, before it and behind it.
use Rattle.std.proofs.Common.{◌≡◌, ℕ, ◌≤◌, ◌⊎◌, Bool, true, false, not, ◌&&◌, ◌||◌, ◌==◌, if◌then◌else◌, List, [], ◌∷◌, map, filter, length, Option, Some, None, refl, sym, ◌∙◌, ap, inl, inr, arith}
use Rattle.std.specs.List.{list_any}
use Rattle.std.proofs.lemmas.Bool.{or_parts, and_parts, and_from, eq-eqb, eqb-true, ne_eqb}
use Rattle.model.specs.Messages.{Field}
use Rattle.model.specs.Frames.{headers_kind, rst_stream_kind}
use Rattle.model.specs.Setup.{Setup}
use Rattle.model.specs.Tapes.{Note, Noted}
use Rattle.model.specs.Tapes.Note.{Fields}
use Rattle.model.specs.Tapes.Entry.{Came}
use Rattle.model.specs.Decoding.{Partial}
use Rattle.model.specs.StreamStates.{Standing, verdict}
use Rattle.model.specs.Limits.{most_streams}
use Rattle.model.specs.StreamStates.Standing.{WholeConnection, Opened, Idle, ServerIdle, Skipped, Beyond}
use Rattle.model.specs.ErrorTable.{fault_of, judged}
use Rattle.model.specs.Lifetimes.{opens_by, may_open}
use Rattle.model.proofs.OpenedLaws.{not_opened}
use Rattle.theory_errors.specs.Summary.{Stream as Kept, Summary}
use Rattle.theory_errors.specs.Judging.{is_over_in, completed_in, active_in, standing_in, fault_on_in, fault_for}
use Rattle.theory_errors.specs.Owing.{fault_in, opened_after, must_end_in}
use Rattle.theory_errors.specs.After.{kept_behind}
use Rattle.theory_errors.specs.Rows.{Row, Slot, ids_of, find, fresh, kept_in, slot_of, row_behind, row_opened}
use Rattle.theory_errors.specs.Rows.Slot.{Live, Over}
use Rattle.theory_errors.specs.Book.{Book, summary_in, book_after}
use Rattle.theory_errors.specs.Tidy.{AreKept, IsTidy}
use Rattle.theory_errors.proofs.Rows.{find_changed, find_none, ids_changed, slot_alike, over_stays}
use Rattle.theory_errors.proofs.RowsKept.{opens_own, completed_own}
use Rattle.theory_errors.proofs.Wanted.{Tells, standing_tells}
use Rattle.theory.specs.State.{State}
use Rattle.theory.proofs.Coming as theory
use Rattle.theory_responses.specs.State as theory_responses
use Rattle.theory_receive_windows.specs.State as theory_receive_windows
use Rattle.theory_requests.specs.State as theory_requests
use Rattle.theory_header_tables.specs.State as theory_header_tables
use Rattle.streams.specs.Asked.{has, is_active}
use Rattle.refinement.proofs.Gaining.{stands, unended_with_block}
use Rattle.refinement.proofs.Answered.{idle_unended}

-- a stream on which HEADERS is no fault was opened, or may be
has_or_opens : (s : Summary) (id n : ℕ) (found : Standing) → Tells s.drained s.stream s.opened id found → fault_of (verdict n found headers_kind) ≡ None → (id == 0) ≡ false → (list_any (λ other. other == id) s.opened ≡ true) ⊎ (may_open s.drained s.opened id ≡ true)
has_or_opens s id n (Opened state) tells passes some = inl tells.0
has_or_opens s id n Idle tells passes some = inr tells
has_or_opens s id n WholeConnection tells passes some = absurd (let no : true ≡ false = sym tells ∙ some in cc)
has_or_opens s id n ServerIdle tells passes some = absurd (cc)
has_or_opens s id n Skipped tells passes some = absurd (cc)
has_or_opens s id n Beyond tells passes some = absurd (cc)

module _ (setup : Setup) (book : Book) (noted : Noted) (kept : AreKept book.rows) where
  abbrev s : Summary
  s = summary_in book

  abbrev id : ℕ
  id = noted.frame.id

  abbrev now : List Row
  now = (book_after setup false book (Came noted)).rows

  abbrev opens : Bool
  opens = opens_by book.drained (ids_of book.rows) (completed_in book.block noted.frame) noted.note

  abbrev changed : List Row
  changed = map (row_behind setup false s (Came noted)) book.rows

  unopened : opens ≡ false → now ≡ changed
  unopened none = ap (λ b. if b then row_opened setup false s (Came noted) id ∷ changed else changed) none

  -- what goes on of a stream that was opened
  abbrev goes : Kept
  goes = kept_behind setup false s (Came noted) id (find book.rows id)

  has_changed : has changed id ≡ has book.rows id
  has_changed = ap (λ (ids : List ℕ). list_any (λ other. other == id) ids) (ids_changed setup false s (Came noted) book.rows)

  -- A stream that is active behind the frame, and wasn't before, may be opened.
  pub may_be_opened : is_active book.rows id ≡ false → is_active now id ≡ true → may_open book.drained (ids_of book.rows) id ≡ true
  may_be_opened was is = by opens refl
    where
      by : (b : Bool) → opens ≡ b → may_open book.drained (ids_of book.rows) id ≡ true
      by true it = opens_own book.drained (ids_of book.rows) book.block noted.frame noted.note it
      by false none = absurd (let no : true ≡ false = sym (and_from (has book.rows id) (not (is_over_in (find book.rows id))) there (ap not on)) ∙ was in cc)
        where
          parts : (has changed id ≡ true) × (not (is_over_in (find changed id)) ≡ true)
          parts = and_parts (has changed id) (not (is_over_in (find changed id))) (ap (λ (rows : List Row). is_active rows id) (sym (unopened none)) ∙ is)

          there : has book.rows id ≡ true
          there = sym has_changed ∙ parts.0

          flipped : (x : Bool) → not x ≡ true → x ≡ false
          flipped false e = refl
          flipped true e = cc

          on_behind : is_over_in goes ≡ false
          on_behind = sym (slot_alike goes).over ∙ sym (ap is_over_in (find_changed setup false s (Came noted) book.rows id there)) ∙ flipped (is_over_in (find changed id)) parts.1

          on : is_over_in (find book.rows id) ≡ false
          on = still (is_over_in (find book.rows id)) refl
            where
              still : (x : Bool) → is_over_in (find book.rows id) ≡ x → is_over_in (find book.rows id) ≡ false
              still false e = e
              still true e = absurd (let no : true ≡ false = sym (over_stays setup false s (Came noted) id (find book.rows id) (fault_for (find book.rows id).outline s (Came noted)) e) ∙ on_behind in cc)

  -- What is found of a stream that is active behind the frame is what goes on of it.
  pub found_behind : is_active now id ≡ true → find now id ≡ goes
  found_behind is = by opens refl
    where
      flipped : (x : Bool) → not x ≡ true → x ≡ false
      flipped false e = refl
      flipped true e = cc

      parts : (has now id ≡ true) × (not (is_over_in (find now id)) ≡ true)
      parts = and_parts (has now id) (not (is_over_in (find now id))) is

      alike : (k : Kept) → is_over_in (kept_in (slot_of k)) ≡ false → kept_in (slot_of k) ≡ k
      alike k on = (slot_alike k).live (sym (slot_alike k).over ∙ on)

      by : (b : Bool) → opens ≡ b → find now id ≡ goes
      by false none =
          let there : has book.rows id ≡ true = sym has_changed ∙ ap (λ (rows : List Row). has rows id) (sym (unopened none)) ∙ parts.0 in
          let found : find now id ≡ kept_in (slot_of goes) = ap (λ (rows : List Row). find rows id) (unopened none) ∙ find_changed setup false s (Came noted) book.rows id there in
          found ∙ alike goes (ap is_over_in (sym found) ∙ flipped (is_over_in (find now id)) parts.1)
      by true it =
          let front : find now id ≡ kept_in (slot_of (kept_behind setup false s (Came noted) id fresh)) =
          ap (λ b. find (if b then row_opened setup false s (Came noted) id ∷ changed else changed) id) it
          ∙ ap (λ b. if b then kept_in (slot_of (kept_behind setup false s (Came noted) id fresh)) else find changed id) (eq-eqb id id refl) in
          let none : find book.rows id ≡ fresh = find_none book.rows id (not_opened book.drained (ids_of book.rows) id (opens_own book.drained (ids_of book.rows) book.block noted.frame noted.note it)) in
          front ∙ alike (kept_behind setup false s (Came noted) id fresh) (ap is_over_in (sym front) ∙ flipped (is_over_in (find now id)) parts.1)
          ∙ ap (λ (k : Kept). kept_behind setup false s (Came noted) id k) (sym none)

  -- the ids of the streams behind it
  pub ids_behind : ids_of now ≡ opened_after s (Came noted)
  ids_behind = by opens
    where
      by : (b : Bool) → ids_of (if b then row_opened setup false s (Came noted) id ∷ changed else changed) ≡ (if b then id ∷ ids_of book.rows else ids_of book.rows)
      by true = ap (λ (ids : List ℕ). id ∷ ids) (ids_changed setup false s (Came noted) book.rows)
      by false = ids_changed setup false s (Came noted) book.rows

  -- ---- a header block without a fault

  -- a stream that isn't ended by its client is active, where it was opened
  live_if : (rows : List Row) → AreKept rows → has rows id ≡ true → (find rows id).ended_by_client ≡ false → is_over_in (find rows id) ≡ false
  live_if [] all there unended = cc
  live_if (row ∷ rows) all there unended = by (row.id == id) there unended (live_if rows all.2)
    where
      slot : (x : Slot) → IsTidy x → (kept_in x).ended_by_client ≡ false → is_over_in (kept_in x) ≡ false
      slot (Live k) tidy e = tidy.0
      slot (Over by_us) tidy e = cc

      by : (b : Bool) → (b || has rows id) ≡ true → (if b then kept_in row.slot else find rows id).ended_by_client ≡ false → (has rows id ≡ true → (find rows id).ended_by_client ≡ false → is_over_in (find rows id) ≡ false) → is_over_in (if b then kept_in row.slot else find rows id) ≡ false
      by true there e rest = slot row.slot all.0.tidy e
      by false there e rest = rest there e

  module _ (few : length (ids_of book.rows) ≤ most_streams) (faultless : fault_in s (Came noted) ≡ None) (block : Partial) (is_block : completed_in book.block noted.frame ≡ Some block) (fields : List Field) (note : noted.note ≡ Fields fields) (of_stream : (id == 0) ≡ false) (no_reset : (noted.frame.kind == rst_stream_kind) ≡ false) where
    -- the client hadn't ended the stream
    pub unended : (find book.rows id).ended_by_client ≡ false
    unended = unended_with_block s noted few faultless (idle_unended book.drained book.rows id) block is_block

    where_it_stands : (has book.rows id ≡ true) ⊎ (may_open book.drained (ids_of book.rows) id ≡ true)
    where_it_stands =
        has_or_opens s id (length (active_in s)) (standing_in s id) (standing_tells s.drained s.stream s.opened id few)
        (ap (λ (b : Option Partial). fault_on_in s id (judged b noted.frame)) (sym is_block) ∙ stands s noted few faultless (idle_unended book.drained book.rows id)) of_stream

    module _ (not_half : is_over_in (find book.rows id) ≡ false → (find book.rows id).ended_by_gateway ≡ false) where
      old_stays : has book.rows id ≡ true → is_active now id ≡ true
      old_stays there =
          ap (λ (rows : List Row). is_active rows id) (unopened none)
          ∙ and_from (has changed id) (not (is_over_in (find changed id))) (has_changed ∙ there) (ap not (ap is_over_in (find_changed setup false s (Came noted) book.rows id there) ∙ (slot_alike goes).over ∙ not_over))
        where
          none : opens ≡ false
          none = by opens refl
            where
              by : (b : Bool) → opens ≡ b → opens ≡ false
              by false e = e
              by true e = absurd (let no : true ≡ false = sym there ∙ not_opened book.drained (ids_of book.rows) id (opens_own book.drained (ids_of book.rows) book.block noted.frame noted.note e) in cc)

          was : is_over_in (find book.rows id) ≡ false
          was = live_if book.rows kept there unended

          resets : (((find book.rows id).reset_by_gateway || (find book.rows id).reset_by_client) ≡ false) × (((find book.rows id).ended_by_client && (find book.rows id).ended_by_gateway) ≡ false)
          resets = or_parts ((find book.rows id).reset_by_gateway || (find book.rows id).reset_by_client) ((find book.rows id).ended_by_client && (find book.rows id).ended_by_gateway) was

          neither : (b : Bool) → (b && false) ≡ false
          neither true = refl
          neither false = refl

          not_over : is_over_in goes ≡ false
          not_over =
              ap (λ b. ((find book.rows id).reset_by_gateway || (b && id == id || (find book.rows id).reset_by_client)) || goes.ended_by_client && (find book.rows id).ended_by_gateway) no_reset
              ∙ ap (λ b. b || goes.ended_by_client && (find book.rows id).ended_by_gateway) resets.0
              ∙ ap (λ b. goes.ended_by_client && b) (not_half was)
              ∙ neither goes.ended_by_client

      new_stays : may_open book.drained (ids_of book.rows) id ≡ true → is_active now id ≡ true
      new_stays may = theory.lives setup beside noted (and_from (not (has book.rows id)) (has now id) (ap not (not_opened book.drained (ids_of book.rows) id may)) there)
        where
          -- a state with this book
          beside : State
          beside = record { ledger = record { book = book; queue = [] }; offers = theory_responses.start; requests = theory_requests.start; tables = theory_header_tables.start setup.policy; windows = theory_receive_windows.kept_of (theory_receive_windows.start setup.more_room) }

          it_opens : opens ≡ true
          it_opens =
              ap (λ (b : Option Partial). opens_by book.drained (ids_of book.rows) b noted.note) is_block
              ∙ ap (λ (n : Note). opens_by book.drained (ids_of book.rows) (Some block) n) note
              ∙ ap (λ n. may_open book.drained (ids_of book.rows) n) (completed_own book.block noted.frame block is_block)
              ∙ may

          there : has now id ≡ true
          there =
              ap (λ b. has (if b then row_opened setup false s (Came noted) id ∷ changed else changed) id) it_opens
              ∙ ap (λ b. b || has changed id) (eq-eqb id id refl)

      -- The stream is active behind the frame.
      pub active_behind : is_active now id ≡ true
      active_behind = elim where_it_stands [ inl there ↦ old_stays there | inr may ↦ new_stays may ]

-- an active stream is one of those that are
some_active : (q : ℕ → Bool) (id : ℕ) (ids : List ℕ) → list_any (λ other. other == id) ids ≡ true → q id ≡ true → (length (filter q ids) == 0) ≡ false
some_active q id [] there is = cc
some_active q id (n ∷ ids) there is = by (n == id) refl there (some_active q id ids)
  where
    some : (length (n ∷ filter q ids) == 0) ≡ false
    some = ne_eqb (length (n ∷ filter q ids)) 0 (λ e. omega (arith, e))

    kept : (b : Bool) → b ≡ true → (length (if b then n ∷ filter q ids else filter q ids) == 0) ≡ false
    kept true e = some
    kept false e = cc

    more : (b : Bool) → (length (filter q ids) == 0) ≡ false → (length (if b then n ∷ filter q ids else filter q ids) == 0) ≡ false
    more true e = some
    more false e = e

    by : (b : Bool) → (n == id) ≡ b → (b || list_any (λ other. other == id) ids) ≡ true → (list_any (λ other. other == id) ids ≡ true → q id ≡ true → (length (filter q ids) == 0) ≡ false) → (length (filter q (n ∷ ids)) == 0) ≡ false
    by true same e rest = kept (q n) (ap q (eqb-true n id same) ∙ is)
    by false same e rest = more (q n) (rest e is)

-- So the connection isn't to end where a stream is active, unless something calls for it.
pub goes_on_with : (s : Summary) (id : ℕ) → s.ends ≡ false → (list_any (λ other. other == id) s.opened && not (is_over_in (s.stream id))) ≡ true → must_end_in s ≡ false
goes_on_with s id none active =
    let parts = and_parts (list_any (λ other. other == id) s.opened) (not (is_over_in (s.stream id))) active in
    ap (λ b. b || (s.drained || length s.opened == most_streams) && length (active_in s) == 0) none
    ∙ ap (λ b. (s.drained || length s.opened == most_streams) && b) (some_active (λ other. not (is_over_in (s.stream other))) id s.opened parts.0 parts.1)
    ∙ neither (s.drained || length s.opened == most_streams)
  where
    neither : (b : Bool) → (b && false) ≡ false
    neither true = refl
    neither false = refl
