-- What holds before a frame with a fragment of a header block is taken, and of what the judgement left.
use Rattle.std.proofs.Common.{◌≡◌, ℕ, ◌≤◌, ◌%◌, Bool, true, false, not, ◌&&◌, ◌||◌, ◌==◌, nat_lt, if◌then◌else◌, List, [], ◌∷◌, map, length, Option, Some, None, refl, sym, ◌∙◌, ap, subst, inl, inr}
use Rattle.std.specs.Prelude.{is_none, reverse}
use Rattle.std.specs.List.{list_all}
use Rattle.std.proofs.lemmas.Bool.{and_parts}
use Rattle.model.specs.Frames.{Frame, settings_kind, is_ack, goaway, no_error}
use Rattle.model.specs.Setup.{Setup}
use Rattle.model.specs.Limits.{most_streams}
use Rattle.model.specs.Tables.{Table}
use Rattle.model.specs.Tapes.{Note, Noted}
use Rattle.model.specs.Tapes.Note.{NoBlock, Fields, Undecodable, Unread}
use Rattle.model.specs.Tapes.Entry.{Came}
use Rattle.model.specs.Logs.{Output}
use Rattle.model.specs.Decoding.{Partial, is_read}
use Rattle.model.specs.ErrorClause.{is_fatal}
use Rattle.model.specs.Lifetimes.{may_open, opens_by}
use Rattle.model.proofs.OwedSteps.{neither as below_or_same}
use Rattle.model.specs.WindowsOnTape.{is_any, data_length, has_settings}
use Rattle.theory_errors.specs.Summary.{Summary}
use Rattle.model.specs.SettingValues.{settings_in, settings_fault, initial_window_after}
use Rattle.theory_errors.specs.Judging.{is_over_in, completed_in, active_in, shifts_past_in}
use Rattle.theory_errors.specs.After.{is_sound, are_taken_in}
use Rattle.theory_errors.specs.Owing.{fault_in, last_goaway_in, owes_in, opened_after, highest_in}
use Rattle.theory_errors.specs.Rows.{Row, ids_of, find}
use Rattle.theory_errors.specs.Book.{Book, summary_in, book_after}
use Rattle.theory_errors.specs.Tidy.{AreKept}
use Rattle.theory_errors.specs.Rule.{known_of}
use Rattle.theory_errors.proofs.Knowing.{known_so}
use Rattle.theory_errors.proofs.Telling.{active_told}
use Rattle.theory_responses.specs.State as theory_responses
use Rattle.theory_responses.specs.State.{Kept}
use Rattle.send_queue.specs.Asked.{is_kept, is_above_all}
use Rattle.theory_requests.specs.State.{Due}
use Rattle.theory_header_tables.specs.State as theory_header_tables
use Rattle.theory_header_tables.specs.State.{named_by}
use Rattle.theory_header_tables.specs.Rule.{IsNoted}
use Rattle.theory_header_tables.specs.Verdicts.{verdict_in}
use Rattle.streams.specs.Asked.{is_active}
use Rattle.connection_state.specs.Inbound.{Inbound, book_of, told_of}
use Rattle.connection_state.specs.Fragments.{IsOfBlock, noted_behind}
use Rattle.upstream_connections.specs.Kept as upstreams
use Rattle.theory.specs.Moves.{Addition, Move}
use Rattle.theory.specs.Moves.Decision.{Takes}
use Rattle.theory.specs.Moves.Move.{Does}
use Rattle.theory.specs.State.{State, conducts, tape_of}
use Rattle.theory.specs.Coming.{IsReady, IsGained}
use Rattle.theory.specs.Steps.{told_behind}
use Rattle.refinement.specs.Taking.{IsFrameTaken}
use Rattle.refinement.specs.View.{View, Pending, balanced, Leads, waiting_for}
use Rattle.refinement.specs.Rest.{IsAtRest}
use Rattle.refinement.specs.Bringing.{Course}
use Rattle.refinement.specs.Led.{IsLed}
use Rattle.refinement.proofs.Coming.{outside_of, inbound_in, inbound_behind, change_between, offers_with, encoding_with, told_of_rows}
use Rattle.refinement.proofs.Coming as coming
use Rattle.connection_state.proofs.Beyond.{none_opens}
use Rattle.refinement.proofs.Halves.{not_half_closed}
use Rattle.refinement.proofs.Heads as heads
use Rattle.refinement.proofs.Resting.{rests_are_ready}
use Rattle.refinement.proofs.Sound.{boxes}
use Rattle.refinement.proofs.Staying.{rows_kept}
use Rattle.window_credit.specs.Sides.{unless_over}
use Rattle.window_credit.specs.Standing.{dropped_of}
use Rattle.window_credit.proofs.Rising.{without_none}
use Rattle.refinement.proofs.Marked.{none_marked, none_waits}
use Rattle.event_handlers.specs.block_frames.Following.{goaway_behind, goaway_frames, marks_if, dropped_if, IsNewest}
use Rattle.event_handlers.proofs.block_frames.Lists.{above_kept}
use Rattle.event_handlers.proofs.block_frames.Streams.{may_be_opened, ids_behind}

length_ids : (rows : List Row) → length rows ≡ length (ids_of rows)
length_ids [] = refl
length_ids (row ∷ rows) = ap (λ n. Rattle.std.specs.Prelude.suc n) (length_ids rows)

-- ---- a frame with a fragment

not_settings : (frame : Frame) → IsOfBlock frame → has_settings frame ≡ false
not_settings frame (inl is) = ap (λ k. k == settings_kind && not (is_ack frame)) is
not_settings frame (inr is) = ap (λ k. k == settings_kind && not (is_ack frame)) is

-- it names no limits
pub names_none : (s : Summary) (frame : Frame) → IsOfBlock frame → named_by (verdict_in s frame) frame ≡ []
names_none s frame of = ap (λ b. named_by (record (verdict_in s frame) { is_taken = b }) frame) (ap (λ b. is_sound s frame && b) none_taken ∙ neither (is_sound s frame))
  where
    none_taken : are_taken_in s frame ≡ false
    none_taken = ap (λ b. b && is_none (settings_fault frame.payload) && not (shifts_past_in (initial_window_after s.first_size (settings_in frame.payload)) s)) (not_settings frame of)

    neither : (b : Bool) → (b && false) ≡ false
    neither true = refl
    neither false = refl

brings_none : (frame : Frame) → IsOfBlock frame → data_length is_any frame ≡ 0
brings_none frame (inl is) = ap (λ k. data_length is_any (record frame { kind = k })) is
brings_none frame (inr is) = ap (λ k. data_length is_any (record frame { kind = k })) is

-- the GOAWAY that it calls for, by the streams behind it
pub goaway_is : (setup : Setup) (untaken : ℕ) (inbound : Inbound) (noted : Noted) (kept : AreKept inbound.rows) (rows : List Row) → ids_of rows ≡ ids_of (book_after setup false (book_of (outside_of untaken) inbound) (Came noted)).rows
    → last_goaway_in (told_of (outside_of untaken) inbound) (Came noted) ≡ goaway_frames (goaway_behind (length inbound.rows) rows)
goaway_is setup untaken inbound noted kept rows same = by_ids inbound.drained (opened_after (told_of (outside_of untaken) inbound) (Came noted)) (same ∙ ids_behind setup (book_of (outside_of untaken) inbound) noted kept) stays
  where
    -- where the connection is drained, none is opened
    none_by : (block : Option Partial) (note : Note) → opens_by true (ids_of inbound.rows) block note ≡ false
    none_by None note = refl
    none_by (Some block) (Fields fields) = none_opens (ids_of inbound.rows) block.id
    none_by (Some block) NoBlock = refl
    none_by (Some block) Undecodable = refl
    none_by (Some block) Unread = refl

    stays : inbound.drained ≡ true → opened_after (told_of (outside_of untaken) inbound) (Came noted) ≡ ids_of inbound.rows
    stays drained =
        ap (λ x. if x then noted.frame.id ∷ ids_of inbound.rows else ids_of inbound.rows)
        (ap (λ d. opens_by d (ids_of inbound.rows) (completed_in inbound.block noted.frame) noted.note) drained ∙ none_by (completed_in inbound.block noted.frame) noted.note)

    chosen : (b : Bool) (last : ℕ) → (if b then goaway last no_error ∷ [] else []) ≡ goaway_frames (if b then Some last else None)
    chosen true last = refl
    chosen false last = refl

    by_ids : (drained : Bool) (ids : List ℕ) → ids_of rows ≡ ids → (drained ≡ true → ids ≡ ids_of inbound.rows)
        → (if not drained && nat_lt (length (ids_of inbound.rows)) most_streams && (drained || length ids == most_streams) then goaway (highest_in ids) no_error ∷ [] else []) ≡ goaway_frames (goaway_behind (length inbound.rows) rows)
    by_ids true ids is stays =
        let same : length rows ≡ length inbound.rows = length_ids rows ∙ ap length (is ∙ stays refl) ∙ sym (length_ids inbound.rows) in
        sym (ap (λ x. goaway_frames (if x then Some (highest_in (ids_of rows)) else None)) (ap (λ n. nat_lt (length inbound.rows) most_streams && n == most_streams) same ∙ below_or_same (length inbound.rows) most_streams))
    by_ids false ids is stays =
        ap (λ (os : List ℕ). if nat_lt (length (ids_of inbound.rows)) most_streams && length os == most_streams then goaway (highest_in os) no_error ∷ [] else []) (sym is)
        ∙ ap (λ n. if nat_lt n most_streams && length (ids_of rows) == most_streams then goaway (highest_in (ids_of rows)) no_error ∷ [] else []) (sym (length_ids inbound.rows))
        ∙ ap (λ n. if nat_lt (length inbound.rows) most_streams && n == most_streams then goaway (highest_in (ids_of rows)) no_error ∷ [] else []) (sym (length_ids rows))
        ∙ chosen (nat_lt (length inbound.rows) most_streams && length rows == most_streams) (highest_in (ids_of rows))

-- ---- what the judgement left

-- Where the book is that behind the frame, and the table that which its block leaves, all that is kept is what the rule has.
pub left_is : (setup : Setup) (untaken : ℕ) (old mid : Inbound) (noted : Noted) (next : Table) → book_of (outside_of untaken) mid ≡ noted_behind setup (book_of (outside_of untaken) old) noted → (completed_in old.block noted.frame ≡ None → next ≡ old.table) → mid.table ≡ next → mid ≡ inbound_behind setup untaken old noted next
left_is setup untaken old mid noted next left stays table =
    ap (λ (b : Book). inbound_in mid.table b) left
    ∙ ap (λ (t : Table). inbound_in t (book_after setup false (book_of (outside_of untaken) old) (Came noted))) (by (completed_in old.block noted.frame) refl)
  where
    by : (o : Option Partial) → completed_in old.block noted.frame ≡ o → mid.table ≡ theory_header_tables.table_after o next old.table
    by None none = table ∙ stays none
    by (Some block) is = table

-- ---- where moves led

module _ (setup : Setup) (old : View) (rest : IsAtRest old) (run : List Move) (s : State) (leads : Leads setup run old balanced s) where
  pub ready : IsReady s
  ready = rests_are_ready setup run old s leads rest

  pub kept_rows : AreKept old.inbound.rows
  kept_rows = subst (λ (b : Book). AreKept b.rows) leads.keeps.book (rows_kept setup run s leads.stands)

  pub few : length (ids_of old.inbound.rows) ≤ most_streams
  few =
      let told = heads.told setup run s leads.stands leads.so in
      subst (λ (b : Book). length (ids_of b.rows) ≤ most_streams) leads.keeps.book
      (subst (λ (ids : List ℕ). length ids ≤ most_streams) (sym told.stand.ids) told.stand.few)

  pub not_half : (id : ℕ) → is_over_in (find old.inbound.rows id) ≡ false → (find old.inbound.rows id).ended_by_gateway ≡ false
  not_half id = subst (λ (b : Book). is_over_in (find b.rows id) ≡ false → (find b.rows id).ended_by_gateway ≡ false) leads.keeps.book (not_half_closed setup run s leads.stands leads.keeps.owed id)

  -- outboxes are kept of just the active streams
  pub box_there : (id : ℕ) → is_kept id old.offers.kept ≡ is_active old.inbound.rows id
  box_there id =
      ap (λ (o : theory_responses.State). is_kept id o.kept) (sym leads.keeps.offers)
      ∙ (heads.offering setup run s leads.stands leads.so).lives id
      ∙ sym (active_told (known_of setup (conducts run)) (tape_of run) s.ledger.book (heads.told setup run s leads.stands leads.so) id)
      ∙ ap (λ (b : Book). is_active b.rows id) leads.keeps.book

  pub led : IsLed (known_of setup (conducts run)) run s
  led = record { knows = known_so setup (conducts run); answered = leads.so (known_of setup (conducts run)) refl (known_so setup (conducts run)); stands = leads.stands }

  -- a stream that may be opened is above all of which one is kept
  pub above_all : (id : ℕ) → may_open old.inbound.drained (ids_of old.inbound.rows) id ≡ true → is_above_all id old.offers.kept ≡ true
  above_all id may =
      let first = and_parts (id % 2 == 1 && list_all (λ other. nat_lt other id) (ids_of old.inbound.rows)) (not old.inbound.drained && nat_lt (length (ids_of old.inbound.rows)) most_streams) may in
      let above = and_parts (id % 2 == 1) (list_all (λ other. nat_lt other id) (ids_of old.inbound.rows)) first.0 in
      above_kept id (λ other. not (is_over_in (find old.inbound.rows other))) (ids_of old.inbound.rows) old.offers.kept
      (ap (λ (o : theory_responses.State). map (λ (k : Kept). k.id) o.kept) (sym leads.keeps.offers) ∙ boxes (known_of setup (conducts run)) run s led ∙ ap (λ (b : Book). reverse (active_in (summary_in b))) leads.keeps.book)
      above.1

  module _ (noted : Noted) (next : Table) (of : IsOfBlock noted.frame) (mild : is_fatal (fault_in (told_of (outside_of old.untaken) old.inbound) (Came noted)) ≡ false)
      (is_noted : IsNoted (completed_in old.inbound.block noted.frame) (verdict_in (told_of (outside_of old.untaken) old.inbound) noted.frame).is_error old.inbound.table noted.note next) (read : is_read noted.note ≡ false → (verdict_in (told_of (outside_of old.untaken) old.inbound) noted.frame).is_error ≡ true) where
    -- The stream of the frame is one for which an outbox may be made, where one is to be.
    pub newest_behind : IsNewest (is_active (book_after setup false (book_of (outside_of old.untaken) old.inbound) (Came noted)).rows noted.frame.id) noted.frame.id old.offers
    newest_behind active none = above_all noted.frame.id (may_be_opened setup (book_of (outside_of old.untaken) old.inbound) noted kept_rows (sym (box_there noted.frame.id) ∙ none) active)

    -- The frame is taken, with what it gains.
    pub is_taken : (addition : Addition) → IsGained setup (told_behind setup s (Takes noted next addition)) s noted addition → IsFrameTaken setup s noted next addition
    is_taken addition gained = record {
      mild = subst (λ (b : Book). is_fatal (fault_in (summary_in b) (Came noted)) ≡ false) (sym leads.keeps.book) mild;
      noted_right = record {
        is_noted =
            subst (λ (b : Book). IsNoted (completed_in b.block noted.frame) (verdict_in (summary_in b) noted.frame).is_error s.tables.decoding noted.note next) (sym leads.keeps.book)
            (subst (λ (t : Table). IsNoted (completed_in old.inbound.block noted.frame) (verdict_in (told_of (outside_of old.untaken) old.inbound) noted.frame).is_error t noted.note next) (sym leads.keeps.decoding) is_noted);
      };
      read = subst (λ (b : Book). is_read noted.note ≡ false → (verdict_in (summary_in b) noted.frame).is_error ≡ true) (sym leads.keeps.book) read;
      gained = gained;
    }

    module _ (addition : Addition) (gained : IsGained setup (told_behind setup s (Takes noted next addition)) s noted addition) where
      abbrev pub then_state : State
      then_state = coming.then_state setup run old s leads ready noted next addition (is_taken addition gained)

      abbrev pub live_there : Bool
      live_there = is_active (inbound_behind setup old.untaken old.inbound noted next).rows noted.frame.id

      -- what is kept then, and what is pending
      abbrev pub there : theory_responses.State → upstreams.State → View
      there offers upstream = record old { inbound = inbound_behind setup old.untaken old.inbound noted next; offers = offers; upstreams = upstream; marks = marks_if live_there noted.frame.id old.marks }

      abbrev pub pending_there : List Frame → Due → Pending
      pending_there owed due = record balanced { owed = owed; due = due; shared = dropped_if live_there (waiting_for noted.frame.id old) }

      marks_there : unless_over (change_between old.inbound.rows (inbound_behind setup old.untaken old.inbound noted next).rows noted.frame.id).over noted.frame.id old.marks ≡ marks_if live_there noted.frame.id old.marks
      marks_there = by (is_active old.inbound.rows noted.frame.id) refl live_there
        where
          by : (was : Bool) → is_active old.inbound.rows noted.frame.id ≡ was → (now : Bool) → unless_over (was && not now) noted.frame.id old.marks ≡ marks_if now noted.frame.id old.marks
          by true is true = refl
          by true is false = refl
          by false is true = refl
          by false is false = sym (without_none noted.frame.id old.marks (none_marked setup run old balanced s leads noted.frame.id is))

      back_there : dropped_of (change_between old.inbound.rows (inbound_behind setup old.untaken old.inbound noted next).rows noted.frame.id).over noted.frame.id old.marks ≡ dropped_if live_there (waiting_for noted.frame.id old)
      back_there = by (is_active old.inbound.rows noted.frame.id) refl live_there
        where
          by : (was : Bool) → is_active old.inbound.rows noted.frame.id ≡ was → (now : Bool) → dropped_of (was && not now) noted.frame.id old.marks ≡ dropped_if now (waiting_for noted.frame.id old)
          by true is true = refl
          by true is false = refl
          by false is true = refl
          by false is false = sym (none_waits setup run old balanced s leads noted.frame.id is)

      -- Where it leads, by what is kept then.
      pub leads_there : (owed : List Frame) (due : Due) (offers : theory_responses.State) (upstream : upstreams.State) → upstream.live ≡ old.upstreams.live → owes_in setup false (told_of (outside_of old.untaken) old.inbound) (Came noted) ≡ owed
          → offers_with noted.frame.id (change_between old.inbound.rows (inbound_behind setup old.untaken old.inbound noted next).rows noted.frame.id) old.offers ≡ offers
          → Rattle.theory_requests.specs.State.after setup (told_of_rows (inbound_behind setup old.untaken old.inbound noted next)) (upstreams.with_due old.upstreams Due.Nothing) (Rattle.theory.specs.Moves.gained noted addition) ≡ upstreams.with_due upstream due
          → (outputs : List Output) → Course setup run s outputs (Came noted) (there offers upstream) (pending_there owed due) outputs
      leads_there owed due offers upstream same owes on_offer requests outputs =
          coming.begins setup run old s leads ready noted next addition (is_taken addition gained) outputs (there offers upstream) (pending_there owed due)
          (subst (λ (xs : List ℕ). Leads setup (Does (Takes noted next addition) ∷ run) (record (there offers upstream) { encoding = encoding_with xs old.encoding }) (pending_there owed due) then_state) (names_none (told_of (outside_of old.untaken) old.inbound) noted.frame of)
          (subst (λ n. Leads setup (Does (Takes noted next addition) ∷ run) (record (there offers upstream) { encoding = encoding_with (named_by (verdict_in (told_of (outside_of old.untaken) old.inbound) noted.frame) noted.frame) old.encoding }) (record (pending_there owed due) { fresh = n }) then_state) (brings_none noted.frame of)
          (coming.leads_then setup run old s leads ready noted next addition (is_taken addition gained) owed due offers upstream (there offers upstream).marks (pending_there owed due).shared same owes on_offer requests marks_there back_there)))
