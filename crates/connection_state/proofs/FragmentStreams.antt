-- A frame that completes a header block which can be read: what it leaves of the streams (RFC 9113, sections 5.1, 5.1.1, 5.1.2 and 8.1).
use Rattle.std.proofs.Common.{◌≡◌, ℕ, arith, Bool, true, false, not, ◌&&◌, ◌||◌, ◌==◌, nat_lt, if◌then◌else◌, List, [], ◌∷◌, length, map, Option, Some, None, refl, sym, ◌∙◌, ap, inl, inr}
use Rattle.std.proofs.lemmas.Bool.{lt-ltb, eqb-false, cases_Bool, eq-eqb}
use Rattle.std.proofs.lemmas.List.{map-id}
use Rattle.std.specs.Prelude.{is_some, ◌⊎◌}
use Rattle.model.specs.Messages.{Field, Item}
use Rattle.model.specs.Messages.Item.{Block}
use Rattle.model.specs.Frames.{Frame, protocol_error, refused_stream}
use Rattle.model.specs.Setup.{Setup}
use Rattle.model.specs.Tapes.{Noted}
use Rattle.model.specs.Tapes.Note.{Fields}
use Rattle.model.specs.Tapes.Entry.{Came}
use Rattle.model.specs.Decoding.{Partial}
use Rattle.model.specs.Errors.{Fault, first_of, or_else}
use Rattle.model.specs.Errors.Fault.{Stream, Discarded}
use Rattle.model.specs.FrameErrors.{fault_if}
use Rattle.model.specs.WindowsOnTape.{increment}
use Rattle.model.specs.StreamStates.{Standing, verdict, opened_verdict}
use Rattle.model.specs.Limits.{most_active}
use Rattle.model.specs.StreamStates.Verdict.{Opens, Fails}
use Rattle.model.specs.StreamStates.StreamState.{ResetByPeer, ResetByUs}
use Rattle.model.specs.Lifetimes.{state_by_ends, may_open, opens_by, ends_by}
use Rattle.model.specs.ErrorTable.{is_bad_block, fault_of}
use Rattle.model.specs.ErrorClause.{is_fatal}
use Rattle.model.specs.Causes.{Cause}
use Rattle.model.specs.Courses.{cause_of_block, cause_of_frame, interrupts}
use Rattle.model.specs.Streams.{frame_items}
use Rattle.theory_errors.specs.Summary.{Outline, carried_in, Stream as Kept, Summary}
use Rattle.theory_errors.specs.Judging.{completed_in, frame_rows_in, is_over_in, fault_for, are_last, is_crowded_in}
use Rattle.theory_errors.specs.Owing.{outline_behind, outline_from, new_cause_in, items_in}
use Rattle.theory_errors.specs.After.{is_sound, grant, kept_behind}
use Rattle.theory_errors.specs.Rows.{Row, Slot, over_kept, kept_in, slot_of, find, row_behind, row_opened, rows_after}
use Rattle.theory_errors.specs.Rows.Slot.{Live, Over}
use Rattle.theory_errors.specs.Book.{Book, summary_in}
use Rattle.theory_errors.specs.Tidy.{IsTidy, IsRow, AreKept}
use Rattle.theory_errors.proofs.Calm.{idle_standing}
use Rattle.theory_errors.proofs.Elsewhere.{kept_same, none_more, none_less}
use Rattle.theory_errors.proofs.Rows.{over_stays}
use Rattle.theory_errors.proofs.RowsKept.{completed_own}
use Rattle.model.proofs.OpenedLaws.{not_opened}
use Rattle.streams.specs.Asked as asked
use Rattle.streams.specs.Asked.{has, with_slot, changed, active_in}
use Rattle.streams.proofs.Searches.{IsFound}
use Rattle.streams.proofs.Changes.{slot_left, slot_given}
use Rattle.connection_state.specs.Fragments.{IsFragment}
use Rattle.connection_state.proofs.Standings.{opened_standing}
use Rattle.connection_state.proofs.FragmentFaults.{block_fault}
use Rattle.connection_state.proofs.FragmentBooks.{rows_left}

-- ---- the last stream

-- a block on the stream opens the last
abbrev pub opens_last_in : Summary → ℕ → Bool
opens_last_in s id = are_last s s.drained (if may_open s.drained s.opened id then id ∷ s.opened else s.opened)

-- its fault where the GOAWAY behind it can't go out
abbrev pub late_fault : Summary → ℕ → Option Fault
late_fault s id = fault_if (opens_last_in s id && is_crowded_in s) (Stream 11)

-- ---- what a standing says of HEADERS

-- on an idle stream they open it, or are refused
pub idle_headers : (active : ℕ) → (fault_of (verdict active Standing.Idle 1) ≡ None) ⊎ (fault_of (verdict active Standing.Idle 1) ≡ Some (Stream refused_stream))
idle_headers active = cases (nat_lt active most_active)
  where
    cases : (b : Bool) → let o : Option Fault = fault_of (if b then Opens else Fails (Stream refused_stream)) in (o ≡ None) ⊎ (o ≡ Some (Stream refused_stream))
    cases true = inl refl
    cases false = inr refl

-- they are discarded on no active one
never_discarded : (a b c d : Bool) → (d || c || a && b) ≡ false → fault_of (opened_verdict (if d then ResetByUs else (if c then ResetByPeer else state_by_ends a b)) 1) ≡ Some Discarded → ⊥
never_discarded a b c true on is = absurd (let no : true ≡ false = on in cc)
never_discarded a b true false on is = absurd (let no : true ≡ false = on in cc)
never_discarded true true false false on is = absurd (let no : true ≡ false = on in cc)
never_discarded true false false false on is = let no : Some (Stream 5) ≡ Some Discarded = is in cc
never_discarded false true false false on is = let no : None ≡ Some Discarded = is in cc
never_discarded false false false false on is = let no : None ≡ Some Discarded = is in cc

back_false : (x : Bool) → not x ≡ true → x ≡ false
back_false true is = absurd (let no : false ≡ true = is in cc)
back_false false is = refl

module _ (setup : Setup) (b : Book) (frame : Frame) (fields : List Field) (of : IsFragment frame) (sound : first_of (frame_rows_in (summary_in b) frame) ≡ None) (block : Partial) (is_block : completed_in b.block frame ≡ Some block) (of_stream : (frame.id == 0) ≡ false) (kept : AreKept b.rows) where
  -- what is kept before it
  abbrev s : Summary
  s = summary_in b

  -- the frame with the fields of its block
  abbrev noted : Noted
  noted = record { frame = frame; note = Fields fields }

  -- the fault by its stream's standing
  abbrev by_standing : Option Fault
  by_standing = fault_of (asked.verdict b.drained b.rows frame.id 1)

  -- the block is malformed behind what the stream carried
  abbrev is_bad : Outline → Bool
  is_bad outline = not (is_some outline.cause) && is_bad_block (carried_in outline) block.ends (Fields fields)

  -- ---- which streams it opens

  -- it opens its stream where that may be opened
  opens_is : opens_by s.drained s.opened (completed_in s.block frame) (Fields fields) ≡ may_open s.drained s.opened frame.id
  opens_is = ap (λ (o : Option Partial). opens_by s.drained s.opened o (Fields fields)) is_block ∙ ap (λ id. may_open s.drained s.opened id) (completed_own b.block frame block is_block)

  -- ---- its fault

  -- where it opens the last stream, and its GOAWAY can't go out
  abbrev late : Option Fault
  late = late_fault s frame.id

  pub told_fault : (outline : Outline) → fault_for outline s (Came noted) ≡ or_else (first_of (by_standing ∷ late ∷ [])) (fault_if (is_bad outline) (Stream protocol_error))
  told_fault outline =
      block_fault s noted of sound block is_block outline
      ∙ ap (λ x. or_else (first_of (by_standing ∷ fault_if (are_last s s.drained (if x then frame.id ∷ s.opened else s.opened) && is_crowded_in s) (Stream 11) ∷ [])) (fault_if (is_bad outline) (Stream protocol_error))) opens_is

  pub mild : is_fatal by_standing ≡ false → (outline : Outline) → is_fatal (fault_for outline s (Came noted)) ≡ false
  mild is outline = ap is_fatal (told_fault outline) ∙ cases by_standing is (opens_last_in s frame.id && is_crowded_in s) (is_bad outline)
    where
      cases : (o : Option Fault) → is_fatal o ≡ false → (y x : Bool) → is_fatal (or_else (first_of (o ∷ fault_if y (Stream 11) ∷ [])) (fault_if x (Stream protocol_error))) ≡ false
      cases None is true x = refl
      cases None is false true = refl
      cases None is false false = refl
      cases (Some f) is y x = is

  pub rows_are : (x : Bool) → may_open s.drained s.opened frame.id ≡ x → rows_after setup false s (Came noted) b.rows ≡ (if x then row_opened setup false s (Came noted) frame.id ∷ map (row_behind setup false s (Came noted)) b.rows else map (row_behind setup false s (Came noted)) b.rows)
  rows_are x is = ap (λ y. if y then row_opened setup false s (Came noted) frame.id ∷ map (row_behind setup false s (Came noted)) b.rows else map (row_behind setup false s (Came noted)) b.rows) (opens_is ∙ is)

  -- such a stream has no row
  pub not_there : may_open s.drained s.opened frame.id ≡ true → (row : Row) → IsFound b.rows row → row.id ≡ frame.id → ⊥
  not_there may row found same =
      let there : has b.rows frame.id ≡ true = ap (has b.rows) (sym same) ∙ found.0 in
      let none : has b.rows frame.id ≡ false = not_opened s.drained s.opened frame.id may in
      let no : true ≡ false = sym there ∙ none in cc

  -- ---- a frame that is discarded

  -- It opens no stream.
  discarded_opens_none : by_standing ≡ Some Discarded → may_open s.drained s.opened frame.id ≡ false
  discarded_opens_none is = elim (cases_Bool (may_open s.drained s.opened frame.id)) [
    | inr none ↦ none
    | inl may ↦
        let n : ℕ = length (active_in b.rows) in
        let idle : fault_of (verdict n Standing.Idle 1) ≡ Some Discarded = sym (ap (λ (st : Standing). fault_of (verdict n st 1)) (idle_standing s frame.id may)) ∙ is in
        elim (idle_headers n) [
          | inl none ↦ absurd (let no : None ≡ Some Discarded = sym none ∙ idle in cc)
          | inr refused ↦ absurd (let no : Some (Stream refused_stream) ≡ Some Discarded = sym refused ∙ idle in cc)
        ]
  ]

  -- All rows stay.
  pub discarded_rows : by_standing ≡ Some Discarded → rows_after setup false s (Came noted) b.rows ≡ b.rows
  discarded_rows is =
      rows_are false (discarded_opens_none is)
      ∙ rows_left setup b noted (mild (ap is_fatal is)) (λ (row : Row). row) kept own (λ row apart. refl)
      ∙ map-id b.rows
    where
      by_slot : (id : ℕ) (slot : Slot) → IsTidy slot → has b.rows id ≡ true → find b.rows id ≡ kept_in slot → id ≡ frame.id → row_behind setup false s (Came noted) (record { id = id; slot = slot }) ≡ record { id = id; slot = slot }
      by_slot id (Over by_us) tidy there found same = over_stays_so id by_us
        where
          over_stays_so : (id : ℕ) (by_us : Bool) → row_behind setup false s (Came noted) (record { id = id; slot = Over by_us }) ≡ record { id = id; slot = Over by_us }
          over_stays_so id by_us =
              ap (λ x. record { id = id; slot = if x then Over by_us else Live (kept_behind setup false s (Came noted) id (over_kept by_us)) })
              (over_stays setup false s (Came noted) id (over_kept by_us) (fault_for (over_kept by_us).outline s (Came noted)) (closed by_us))
            where
              closed : (x : Bool) → is_over_in (over_kept x) ≡ true
              closed true = refl
              closed false = refl
      by_slot id (Live k) tidy there found same =
          let on : is_over_in (find b.rows frame.id) ≡ false = ap (λ n. is_over_in (find b.rows n)) (sym same) ∙ ap is_over_in found ∙ tidy.0 in
          let here : has b.rows frame.id ≡ true = ap (has b.rows) (sym same) ∙ there in
          let x : Kept = find b.rows frame.id in
          absurd (never_discarded x.ended_by_client x.ended_by_gateway x.reset_by_client x.reset_by_gateway on (sym (ap (λ (st : Standing). fault_of (verdict (length (active_in b.rows)) st 1)) (opened_standing b.drained b.rows frame.id of_stream here)) ∙ is))

      own : (row : Row) → IsRow row → IsFound b.rows row → row.id ≡ frame.id → row_behind setup false s (Came noted) row ≡ row
      own row is found same = by_slot row.id row.slot is.tidy found.0 found.1 same

  -- ---- a frame with no fault

  -- What is kept of its stream behind it.
  pub block_kept : (k : Kept) → fault_for k.outline s (Came noted) ≡ None → let cause : Option Cause = cause_of_block setup (carried_in k.outline) (Fields fields) in
      kept_behind setup false s (Came noted) frame.id k ≡ record k { ended_by_client = block.ends || k.ended_by_client; outline = outline_behind k.outline (is_some cause) (Block fields block.ends ∷ []) cause k.head_out }
  block_kept k faultless =
      let now : Kept = record k { ended_by_client = block.ends || k.ended_by_client; outline = outline_behind k.outline (is_some cause) (Block fields block.ends ∷ []) cause k.head_out } in
      let on : (frame.id == frame.id) ≡ true = eq-eqb frame.id frame.id refl in
      kept_same now (kept_behind setup false s (Came noted) frame.id k)
      (ap (λ x. x && ends_by (completed_in s.block frame) frame || k.ended_by_client) on ∙ ap (λ (o : Option Partial). ends_by o frame || k.ended_by_client) is_block)
      refl
      (ap (λ x. x && frame.id == frame.id || k.reset_by_client) of.no_reset)
      refl
      (none_more (is_sound s frame) k.balance (grant frame.id frame) (ap (λ x. if x && frame.id == frame.id then increment frame else 0) of.no_update))
      (none_less k.room _ (ap (λ x. if x && frame.id == frame.id then length frame.payload else 0) of.no_data))
      refl
      (ap (λ (o : Option Fault). outline_from setup false frame.id s (Came noted) k o) faultless
      ∙ ap (λ (c : Option Cause). outline_behind k.outline (interrupts frame.id (Came noted) None c) (items_in frame.id s (Came noted)) c k.head_out) cause_is
      ∙ ap (λ x. outline_behind k.outline x (items_in frame.id s (Came noted)) cause k.head_out) goes_on
      ∙ ap (λ (xs : List Item). outline_behind k.outline (is_some cause) xs cause k.head_out) items_are)
    where
      cause : Option Cause
      cause = cause_of_block setup (carried_in k.outline) (Fields fields)

      above : nat_lt 0 frame.id ≡ true
      above = lt-ltb 0 frame.id (let apart = eqb-false frame.id 0 of_stream in omega (arith, apart))

      cause_is : new_cause_in setup false frame.id s (Came noted) k.outline None ≡ cause
      cause_is =
          ap (λ x. if x && nat_lt 0 frame.id then cause_of_frame setup (carried_in k.outline) (completed_in s.block frame) noted else None) (eq-eqb frame.id frame.id refl)
          ∙ ap (λ x. if x then cause_of_frame setup (carried_in k.outline) (completed_in s.block frame) noted else None) above
          ∙ ap (λ (o : Option Partial). cause_of_frame setup (carried_in k.outline) o noted) is_block

      goes_on : interrupts frame.id (Came noted) None cause ≡ is_some cause
      goes_on = ap (λ x. false || x && frame.id == frame.id || is_some cause) of.no_reset

      items_are : items_in frame.id s (Came noted) ≡ Block fields block.ends ∷ []
      items_are =
          ap (λ x. if x then frame_items (completed_in s.block frame) noted else []) (eq-eqb frame.id frame.id refl)
          ∙ ap (λ (o : Option Partial). frame_items o noted) is_block

  -- The rows where it opens its stream: one more, and the others stay.
  pub opened_rows : is_fatal by_standing ≡ false → may_open s.drained s.opened frame.id ≡ true → rows_after setup false s (Came noted) b.rows ≡ row_opened setup false s (Came noted) frame.id ∷ b.rows
  opened_rows calm may =
      rows_are true may
      ∙ ap (λ (rs : List Row). row_opened setup false s (Came noted) frame.id ∷ rs)
      (rows_left setup b noted (mild calm) (λ (row : Row). row) kept (λ row is found same. absurd (not_there may row found same)) (λ row apart. refl) ∙ map-id b.rows)

  -- Where it opens none, the row of its stream alone changes.
  pub known_rows : is_fatal by_standing ≡ false → may_open s.drained s.opened frame.id ≡ false → rows_after setup false s (Came noted) b.rows ≡ changed frame.id (slot_of (kept_behind setup false s (Came noted) frame.id (find b.rows frame.id))) b.rows
  known_rows calm known =
      rows_are false known
      ∙ rows_left setup b noted (mild calm) (with_slot frame.id (slot_of (kept_behind setup false s (Came noted) frame.id (find b.rows frame.id)))) kept own (λ row apart. slot_left frame.id _ row apart)
    where
      own : (row : Row) → IsRow row → IsFound b.rows row → row.id ≡ frame.id → row_behind setup false s (Came noted) row ≡ with_slot frame.id (slot_of (kept_behind setup false s (Came noted) frame.id (find b.rows frame.id))) row
      own row is found same =
          ap (λ (id : ℕ). record { id = row.id; slot = slot_of (kept_behind setup false s (Came noted) id (kept_in row.slot)) }) same
          ∙ ap (λ (k : Kept). record { id = row.id; slot = slot_of (kept_behind setup false s (Came noted) frame.id k) }) (sym found.1 ∙ ap (find b.rows) same)
          ∙ sym (slot_given frame.id (slot_of (kept_behind setup false s (Came noted) frame.id (find b.rows frame.id))) row same)
