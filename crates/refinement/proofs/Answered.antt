-- What frames gain, by the answers of the judgement.
use Rattle.std.proofs.Common.{◌≡◌, ℕ, ◌<◌, ◌≤◌, ◌%◌, Bool, true, false, not, ◌&&◌, ◌||◌, ◌==◌, nat_lt, if◌then◌else◌, List, [], ◌∷◌, ◌++◌, length, Option, Some, None, refl, sym, ◌∙◌, ap, inl, inr, arith}
use Rattle.std.proofs.lemmas.Bool.{eq-eqb, eqb-true, eqb-false, and_parts, ltb-true, lt-ltb}
use Rattle.std.specs.Prelude.{is_some}
use Rattle.std.specs.List.{list_any, list_all}
use Rattle.model.specs.Messages.{Field}
use Rattle.model.specs.Messages.Item.{Block, Content}
use Rattle.model.specs.Frames.{Frame, data_kind, headers_kind, continuation_kind, rst_stream_kind, settings_kind, ping_kind, window_update_kind, has_flag, is_ack, content, ends_stream, protocol_error, settings_ack}
use Rattle.model.specs.Setup.{Setup}
use Rattle.model.specs.Tapes.{Note, Noted}
use Rattle.model.specs.Tapes.Note.{NoBlock, Fields}
use Rattle.model.specs.Tapes.Entry.{Came}
use Rattle.model.specs.Decoding.{Partial, joined}
use Rattle.model.specs.StreamStates.{state_of, is_above, unopened, opened_or, verdict}
use Rattle.model.specs.Limits.{most_streams}
use Rattle.model.specs.StreamStates.Standing.{WholeConnection}
use Rattle.model.specs.ErrorTable.{judged as judged_as, fault_of}
use Rattle.model.specs.Lifetimes.{may_open, opens_by}
use Rattle.model.specs.ErrorClause.{is_fatal, acks, ping_ack}
use Rattle.model.specs.WindowsOnTape.{has_settings}
use Rattle.model.specs.Errors.{Fault}
use Rattle.model.specs.Errors.Fault.{Connection}
use Rattle.model.specs.Streams.{frame_items, block_items}
use Rattle.model.specs.Causes.{Cause, cause_of_head, cause_if, are_large}
use Rattle.model.specs.Causes.Cause.{LargeFields}
use Rattle.model.specs.Courses.{cause_of_block, cause_of_frame, first_of_both}
use Rattle.theory_errors.specs.Summary.{Stream as Kept, Outline, Summary, carried_in}
use Rattle.theory_errors.specs.Judging.{completed_in, active_in, streams_in, fault_on_in}
use Rattle.theory_errors.specs.Owing.{fault_in, cause_in, last_goaway_in, resets_in, owes_in}
use Rattle.theory_errors.specs.Rows.{Row, ids_of, find}
use Rattle.theory_errors.specs.Quiet.{noted_of}
use Rattle.theory_errors.specs.Book.{Book, summary_in}
use Rattle.theory_errors.proofs.Rows.{find_none}
use Rattle.theory.specs.Rule.{added_in, Adds}
use Rattle.local_replies.specs.Views.{cause_of}
use Rattle.connection_state.specs.Judgement.{IsPlain, IsTaken}
use Rattle.connection_state.specs.Blocks.{SaysOf}
use Rattle.connection_state.specs.Fragments.{IsOfBlock}
use Rattle.connection_state.specs.declared.answers.Judged.{Judged}
use Rattle.connection_state.specs.declared.answers.Judged.TheVariants as judged
use Rattle.connection_state.specs.declared.answers.BlockJudged.{BlockJudged}
use Rattle.connection_state.specs.declared.answers.BlockJudged.TheVariants as block
use Rattle.refinement.specs.Owed.{reset_behind, owed_for, owed_with_block, owed_at_fault}
use Rattle.refinement.proofs.Owing.{no_goaway, same_cause, none_reset, idle_no_cause, a_reset, owes_faultless, owes_at_fault}
use Rattle.refinement.specs.Additions.{GoesOn, IsPlainAddition, IsBlockAddition}
use Rattle.refinement.proofs.Gaining.{caused, none_behind, none_at_fault, none_replied, none_borne, all_borne, stands, unended_with_block, unended_with_data, data_of_stream}

-- ---- a stream that may be opened yet

absent_above : (id : ℕ) (ids : List ℕ) → list_all (λ other. nat_lt other id) ids ≡ true → list_any (λ other. other == id) ids ≡ false
absent_above id [] all = refl
absent_above id (other ∷ ids) all =
    let parts = and_parts (nat_lt other id) (list_all (λ other. nat_lt other id) ids) all in
    ap (λ b. b || list_any (λ other. other == id) ids) (apart (other == id) refl parts.0) ∙ absent_above id ids parts.1
  where
    apart : (b : Bool) → (other == id) ≡ b → nat_lt other id ≡ true → b ≡ false
    apart false e less = refl
    apart true e less = absurd (let same : other ≡ id = eqb-true other id e in let no : nat_lt id id ≡ true = ap (λ n. nat_lt n id) (sym same) ∙ less in let is : id < id = ltb-true id id no in omega (arith, is))

-- nothing was said of it
pub idle_unended : (drained : Bool) (rows : List Row) (id : ℕ) → may_open drained (ids_of rows) id ≡ true → (find rows id).ended_by_client ≡ false
idle_unended drained rows id may =
    let parts = and_parts (id % 2 == 1 && list_all (λ other. nat_lt other id) (ids_of rows)) (not drained && nat_lt (length (ids_of rows)) most_streams) may in
    let above = and_parts (id % 2 == 1) (list_all (λ other. nat_lt other id) (ids_of rows)) parts.0 in
    ap (λ (k : Kept). k.ended_by_client) (find_none rows id (absent_above id (ids_of rows) above.1))

-- ---- frames without a fragment

-- a frame of neither type completes no header block
completes_none : (before : Option Partial) (frame : Frame) → IsPlain frame → completed_in before frame ≡ None
completes_none before frame p =
    ap (λ b. if (b || frame.kind == continuation_kind) && has_flag 4 frame then joined before frame else None) p.no_headers
    ∙ ap (λ b. if b && has_flag 4 frame then joined before frame else None) p.no_continuation

no_new : (a b : Option Cause) → a ≡ None → first_of_both a b ≡ a → b ≡ None
no_new None b is same = same
no_new (Some cause) b is same = cc

the_new : (a b : Option Cause) (cause : Cause) → a ≡ None → first_of_both a b ≡ Some cause → b ≡ Some cause
the_new None b cause is now = now
the_new (Some old) b cause is now = cc

module _ (setup : Setup) (book : Book) (frame : Frame) (plain : IsPlain frame) where
  abbrev pub told : Summary
  told = summary_in book

  idle : (frame.kind == data_kind) ≡ false → added_in setup told (noted_of frame) ≡ []
  idle no_data =
      none_borne setup told (noted_of frame) (ap (λ (b : Option Partial). is_some b || frame.kind == data_kind) (completes_none book.block frame plain) ∙ no_data)

  of_kind : (kind : ℕ) → frame.kind ≡ kind → (kind == data_kind) ≡ false → (frame.kind == data_kind) ≡ false
  of_kind kind is apart = ap (λ k. k == data_kind) is ∙ apart

  not_first : (a b : Bool) → not (a || b) ≡ true → a ≡ false
  not_first false b is = refl
  not_first true b is = cc

  -- where it has no fault
  pub plain_addition : length (ids_of book.rows) ≤ most_streams → (new : Book) (answer : Judged) → IsTaken setup book frame new answer → IsPlainAddition setup told (noted_of frame) answer
  plain_addition few new (judged.Failed fault) taken = absurd taken.says
  plain_addition few new judged.Ignored taken =
      idle (not_first (frame.kind == data_kind) _ (ap not (sym (assoc (frame.kind == data_kind) (frame.kind == rst_stream_kind) (frame.kind == window_update_kind) (has_settings frame) (frame.kind == ping_kind && not (is_ack frame)))) ∙ taken.says))
    where
      assoc : (a b c d e : Bool) → (a || b || c || d || e) ≡ (a || (b || c || d || e))
      assoc true b c d e = refl
      assoc false b c d e = refl
  plain_addition few new (judged.Settings change) taken = idle (of_kind settings_kind (settings_of (frame.kind == settings_kind) refl (taken.says.0)) refl)
    where
      settings_of : (b : Bool) → (frame.kind == settings_kind) ≡ b → (b && not (is_ack frame)) ≡ true → frame.kind ≡ settings_kind
      settings_of true e is = eqb-true frame.kind settings_kind e
      settings_of false e is = cc
  plain_addition few new (judged.Ping octets) taken = idle (of_kind ping_kind taken.says.0 refl)
  plain_addition few new judged.Granted taken = idle (of_kind window_update_kind taken.says refl)
  plain_addition few new judged.Reset taken = idle (of_kind rst_stream_kind taken.says refl)
  plain_addition few new (judged.Content octets ends) taken = (λ goes_on. content_added goes_on, λ over. none_behind setup told (noted_of frame) over)
    where
      kind : frame.kind ≡ data_kind
      kind = taken.says.0

      none : completed_in book.block frame ≡ None
      none = completes_none book.block frame plain

      brought : frame_items (completed_in book.block frame) (noted_of frame) ≡ Content octets.now ends ∷ []
      brought =
          ap (λ (b : Option Partial). frame_items b (noted_of frame)) none
          ∙ ap (λ b. if b then Content (content frame) (ends_stream frame) ∷ [] else []) (eq-eqb frame.kind data_kind kind)
          ∙ ap (λ (xs : List ℕ). Content xs (ends_stream frame) ∷ []) (sym taken.says.1)
          ∙ ap (λ (b : Bool). Content octets.now b ∷ []) (sym taken.says.2)

      content_added : GoesOn told frame.id → Adds setup told (noted_of frame) (Content octets.now ends)
      content_added goes_on = record {
        adds = all_borne setup told (noted_of frame) goes_on.not_over taken.faultless (ap (λ k. k == rst_stream_kind) kind) (no_new (find book.rows frame.id).outline.cause (caused setup told (noted_of frame)) goes_on.no_cause taken.says.3) ∙ brought;
        goes_on = unended_with_data told (noted_of frame) few taken.faultless (idle_unended book.drained book.rows frame.id) none kind (data_of_stream told (noted_of frame) few taken.faultless (idle_unended book.drained book.rows frame.id) kind);
      }
  plain_addition few new judged.LargeBody taken =
      none_replied setup told (noted_of frame) Cause.LargeBody (the_new (find book.rows frame.id).outline.cause (caused setup told (noted_of frame)) Cause.LargeBody taken.says.1 taken.says.2)

  -- where it has one
  pub plain_failed : (fault : Fault) → fault_in told (Came (noted_of frame)) ≡ Some fault → added_in setup told (noted_of frame) ≡ []
  plain_failed fault is = none_at_fault setup told (noted_of frame) fault is

  -- it opens no stream
  no_more_opened : last_goaway_in told (Came (noted_of frame)) ≡ []
  no_more_opened = no_goaway setup told (noted_of frame) (ap (λ (b : Option Partial). opens_by told.drained told.opened b NoBlock) (completes_none book.block frame plain))

  -- what it calls for where it has no fault
  faultless_owes : fault_in told (Came (noted_of frame)) ≡ None → (xs ys : List Frame) → acks (Came (noted_of frame)) None ≡ xs → resets_in setup false told (Came (noted_of frame)) ≡ ys → owes_in setup false told (Came (noted_of frame)) ≡ xs ++ ys
  faultless_owes faultless xs ys acked reset =
      owes_faultless setup told (noted_of frame) faultless
      ∙ ap (λ (zs : List Frame). zs ++ (acks (Came (noted_of frame)) None ++ resets_in setup false told (Came (noted_of frame)))) no_more_opened
      ∙ ap (λ (zs : List Frame). zs ++ resets_in setup false told (Came (noted_of frame))) acked
      ∙ ap (λ (zs : List Frame). xs ++ zs) reset

  -- a type that isn't acknowledged
  silent : has_settings frame ≡ false → (frame.kind == ping_kind && not (is_ack frame)) ≡ false → acks (Came (noted_of frame)) None ≡ []
  silent a b =
      ap (λ c. if c then settings_ack ∷ [] else (if frame.kind == ping_kind && not (is_ack frame) then ping_ack frame.payload ∷ [] else [])) a
      ∙ ap (λ c. if c then ping_ack frame.payload ∷ [] else []) b

  silent_kind : (kind : ℕ) → frame.kind ≡ kind → (kind == settings_kind) ≡ false → (kind == ping_kind) ≡ false → acks (Came (noted_of frame)) None ≡ []
  silent_kind kind is a b = silent (ap (λ k. k == settings_kind && not (is_ack frame)) is ∙ ap (λ c. c && not (is_ack frame)) a) (ap (λ k. k == ping_kind && not (is_ack frame)) is ∙ ap (λ c. c && not (is_ack frame)) b)

  idle_owes : fault_in told (Came (noted_of frame)) ≡ None → (frame.kind == data_kind) ≡ false → (xs : List Frame) → acks (Came (noted_of frame)) None ≡ xs → owes_in setup false told (Came (noted_of frame)) ≡ xs ++ []
  idle_owes faultless no_data xs acked =
      faultless_owes faultless xs [] acked (none_reset setup told (noted_of frame) (idle_no_cause setup told (noted_of frame) faultless (ap (λ (b : Option Partial). is_some b || frame.kind == data_kind) (completes_none book.block frame plain) ∙ no_data)))

  pub plain_owes : (new : Book) (answer : Judged) → IsTaken setup book frame new answer → owes_in setup false told (Came (noted_of frame)) ≡ owed_for frame.id (find book.rows frame.id).head_out answer
  plain_owes new (judged.Failed fault) taken = absurd taken.says
  plain_owes new judged.Ignored taken = idle_owes taken.faultless parts.0 [] (silent parts.1 parts.2)
    where
      ignored : (a b c d e : Bool) → not (a || b || c || d || e) ≡ true → (a ≡ false) × (d ≡ false) × (e ≡ false)
      ignored false false false false false is = (refl, refl, refl)
      ignored true b c d e is = cc
      ignored false true c d e is = cc
      ignored false false true d e is = cc
      ignored false false false true e is = cc
      ignored false false false false true is = cc

      parts : ((frame.kind == data_kind) ≡ false) × (has_settings frame ≡ false) × ((frame.kind == ping_kind && not (is_ack frame)) ≡ false)
      parts = ignored (frame.kind == data_kind) (frame.kind == rst_stream_kind) (frame.kind == window_update_kind) (has_settings frame) (frame.kind == ping_kind && not (is_ack frame)) taken.says
  plain_owes new (judged.Settings change) taken =
      idle_owes taken.faultless (no_data (frame.kind == settings_kind) refl taken.says.0) (settings_ack ∷ [])
      (ap (λ c. if c then settings_ack ∷ [] else (if frame.kind == ping_kind && not (is_ack frame) then ping_ack frame.payload ∷ [] else [])) taken.says.0)
    where
      no_data : (b : Bool) → (frame.kind == settings_kind) ≡ b → (b && not (is_ack frame)) ≡ true → (frame.kind == data_kind) ≡ false
      no_data true e is = ap (λ k. k == data_kind) (eqb-true frame.kind settings_kind e)
      no_data false e is = cc
  plain_owes new (judged.Ping octets) taken =
      idle_owes taken.faultless (of_kind ping_kind taken.says.0 refl) (ping_ack octets.now ∷ [])
      (ap (λ k. if k == settings_kind && not (is_ack frame) then settings_ack ∷ [] else (if k == ping_kind && not (is_ack frame) then ping_ack frame.payload ∷ [] else [])) taken.says.0
      ∙ ap (λ c. if not c then ping_ack frame.payload ∷ [] else []) taken.says.1
      ∙ ap (λ (xs : List ℕ). ping_ack xs ∷ []) (sym taken.says.2))
  plain_owes new judged.Granted taken = idle_owes taken.faultless (of_kind window_update_kind taken.says refl) [] (silent_kind window_update_kind taken.says refl refl)
  plain_owes new judged.Reset taken = idle_owes taken.faultless (of_kind rst_stream_kind taken.says refl) [] (silent_kind rst_stream_kind taken.says refl refl)
  plain_owes new (judged.Content octets ends) taken =
      faultless_owes taken.faultless [] [] (silent_kind data_kind taken.says.0 refl refl) (same_cause setup told (noted_of frame) taken.says.3)
  plain_owes new judged.LargeBody taken =
      faultless_owes taken.faultless [] (owed_for frame.id (find book.rows frame.id).head_out judged.LargeBody) (silent_kind data_kind taken.says.0 refl refl)
      (a_reset setup told (noted_of frame) Cause.LargeBody taken.says.1 (the_new (find book.rows frame.id).outline.cause (caused setup told (noted_of frame)) Cause.LargeBody taken.says.1 taken.says.2))

  -- and where it has one that isn't of the connection
  pub plain_owes_at_fault : (fault : Fault) → is_fatal (Some fault) ≡ false → fault_in told (Came (noted_of frame)) ≡ Some fault → owes_in setup false told (Came (noted_of frame)) ≡ owed_at_fault frame.id fault
  plain_owes_at_fault fault mild is = owes_at_fault setup told (noted_of frame) fault mild is ∙ ap (λ (zs : List Frame). zs ++ owed_at_fault frame.id fault) no_more_opened

-- ---- frames with a fragment

module _ (setup : Setup) (book : Book) (noted : Noted) (of : IsOfBlock noted.frame) (few : length (ids_of book.rows) ≤ most_streams) where
  abbrev pub told_then : Summary
  told_then = summary_in book

  pub not_data : (noted.frame.kind == data_kind) ≡ false
  not_data = elim of [ inl is ↦ ap (λ k. k == data_kind) is | inr is ↦ ap (λ k. k == data_kind) is ]

  pub not_reset : (noted.frame.kind == rst_stream_kind) ≡ false
  not_reset = elim of [ inl is ↦ ap (λ k. k == rst_stream_kind) is | inr is ↦ ap (λ k. k == rst_stream_kind) is ]

  -- it isn't acknowledged
  not_acked : acks (Came noted) None ≡ []
  not_acked = elim of [
    | inl is ↦ ap (λ k. if k == settings_kind && not (is_ack noted.frame) then settings_ack ∷ [] else (if k == ping_kind && not (is_ack noted.frame) then ping_ack noted.frame.payload ∷ [] else [])) is
    | inr is ↦ ap (λ k. if k == settings_kind && not (is_ack noted.frame) then settings_ack ∷ [] else (if k == ping_kind && not (is_ack noted.frame) then ping_ack noted.frame.payload ∷ [] else [])) is
  ]

  block_owes : fault_in told_then (Came noted) ≡ None → (ys : List Frame) → resets_in setup false told_then (Came noted) ≡ ys → owes_in setup false told_then (Came noted) ≡ last_goaway_in told_then (Came noted) ++ ys
  block_owes faultless ys reset =
      owes_faultless setup told_then noted faultless
      ∙ ap (λ (xs : List Frame). last_goaway_in told_then (Came noted) ++ (xs ++ resets_in setup false told_then (Came noted))) not_acked
      ∙ ap (λ (xs : List Frame). last_goaway_in told_then (Came noted) ++ xs) reset

  module _ (faultless : fault_in told_then (Came noted) ≡ None) (completed : Partial) (is_block : completed_in book.block noted.frame ≡ Some completed) (fields : List Field) (note : noted.note ≡ Fields fields) where
    -- it is of a stream
    pub of_stream : (noted.frame.id == 0) ≡ false
    of_stream = on_stream (noted.frame.id == 0) refl
      where
        passes : fault_on_in told_then noted.frame.id (Some headers_kind) ≡ None
        passes = ap (λ (b : Option Partial). fault_on_in told_then noted.frame.id (judged_as b noted.frame)) (sym is_block) ∙ stands told_then noted few faultless (idle_unended book.drained book.rows noted.frame.id)

        on_stream : (b : Bool) → (noted.frame.id == 0) ≡ b → (noted.frame.id == 0) ≡ false
        on_stream false e = e
        on_stream true e =
            let wrong : fault_on_in told_then noted.frame.id (Some headers_kind) ≡ Some (Connection protocol_error) =
            ap (λ b. fault_of (verdict (length (active_in told_then)) (if b then WholeConnection else opened_or (state_of noted.frame.id (streams_in told_then)) (unopened (is_above noted.frame.id (streams_in told_then)) (told_then.drained || length (streams_in told_then) == most_streams) noted.frame.id)) headers_kind)) e in
            absurd (let no : None ≡ Some (Connection protocol_error) = sym passes ∙ wrong in cc)

    -- the cause that the frame is for its stream is that of its block
    pub caused_by : caused setup told_then noted ≡ cause_of_block setup (carried_in (find book.rows noted.frame.id).outline) (Fields fields)
    caused_by =
        ap (λ b. if b && nat_lt 0 noted.frame.id then cause_in setup false (find book.rows noted.frame.id).outline told_then (Came noted) (fault_in told_then (Came noted)) else None) (eq-eqb noted.frame.id noted.frame.id refl)
        ∙ ap (λ b. if b then cause_in setup false (find book.rows noted.frame.id).outline told_then (Came noted) (fault_in told_then (Came noted)) else None) (positive noted.frame.id of_stream)
        ∙ ap (λ (found : Option Fault). cause_in setup false (find book.rows noted.frame.id).outline told_then (Came noted) found) faultless
        ∙ ap (λ (c : Option Partial). cause_of_frame setup (carried_in (find book.rows noted.frame.id).outline) c noted) is_block
        ∙ ap (λ (n : Note). cause_of_block setup (carried_in (find book.rows noted.frame.id).outline) n) note
      where
        positive : (id : ℕ) → (id == 0) ≡ false → nat_lt 0 id ≡ true
        positive id is = lt-ltb 0 id (let apart = eqb-false id 0 is in omega (arith, apart))

    -- its item
    item : frame_items (completed_in book.block noted.frame) noted ≡ Block fields completed.ends ∷ []
    item = ap (λ (c : Option Partial). frame_items c noted) is_block ∙ ap (λ (n : Note). block_items completed n) note

    adds_block : (find book.rows noted.frame.id).outline.over ≡ false → cause_of_block setup (carried_in (find book.rows noted.frame.id).outline) (Fields fields) ≡ None → Adds setup told_then noted (Block fields completed.ends)
    adds_block goes_on none = record {
      adds = all_borne setup told_then noted goes_on faultless not_reset (caused_by ∙ none) ∙ item;
      goes_on = unended_with_block told_then noted few faultless (idle_unended book.drained book.rows noted.frame.id) completed is_block;
    }

    pub head_none : (outline : Outline) → outline.begun ≡ false → cause_of_head setup fields ≡ None → cause_of_block setup (carried_in outline) (Fields fields) ≡ None
    head_none outline begun none = ap (λ b. if b then cause_if (are_large fields) LargeFields else cause_of_head setup fields) begun ∙ none

    uncaused : cause_of_block setup (carried_in (find book.rows noted.frame.id).outline) (Fields fields) ≡ None → owes_in setup false told_then (Came noted) ≡ last_goaway_in told_then (Came noted) ++ []
    uncaused none = block_owes faultless [] (none_reset setup told_then noted (caused_by ∙ none))

    pub whole_addition : (answer : BlockJudged) → SaysOf setup (find book.rows noted.frame.id).outline fields completed.ends answer → IsBlockAddition setup told_then noted fields completed.ends answer
    whole_addition (block.Failed fault) says = absurd says
    whole_addition block.GoesOn says = absurd says
    whole_addition (block.Begins head route) says = record { first = says.0; adds = adds_block says.1 (head_none (find book.rows noted.frame.id).outline says.0 says.2.no_cause) }
    whole_addition (block.Answered cause) says = none_replied setup told_then noted (cause_of cause) (caused_by ∙ says.1)
    whole_addition (block.Trailers trailers) says = adds_block says.1 says.2
    whole_addition block.Ignored says = none_behind setup told_then noted says.0

    -- what it calls for beside the GOAWAY
    pub whole_owes : (answer : BlockJudged) → SaysOf setup (find book.rows noted.frame.id).outline fields completed.ends answer → owes_in setup false told_then (Came noted) ≡ last_goaway_in told_then (Came noted) ++ owed_with_block noted.frame.id (find book.rows noted.frame.id).head_out answer
    whole_owes (block.Failed fault) says = absurd says
    whole_owes block.GoesOn says = absurd says
    whole_owes (block.Begins head route) says = uncaused (head_none (find book.rows noted.frame.id).outline says.0 says.2.no_cause)
    whole_owes (block.Answered cause) says =
        block_owes faultless (reset_behind noted.frame.id (find book.rows noted.frame.id).head_out (cause_of cause))
        (a_reset setup told_then noted (cause_of cause) says.0 (caused_by ∙ says.1))
    whole_owes (block.Trailers trailers) says = uncaused says.2
    whole_owes block.Ignored says =
        block_owes faultless [] (same_cause setup told_then noted (ap (λ (c : Option Cause). first_of_both (find book.rows noted.frame.id).outline.cause c) caused_by ∙ says.1))

  -- a frame whose block goes on
  pub part_addition : completed_in book.block noted.frame ≡ None → added_in setup told_then noted ≡ []
  part_addition none = none_borne setup told_then noted (ap (λ (b : Option Partial). is_some b || noted.frame.kind == data_kind) none ∙ not_data)

  -- it calls for nothing
  pub part_owes : fault_in told_then (Came noted) ≡ None → completed_in book.block noted.frame ≡ None → owes_in setup false told_then (Came noted) ≡ []
  part_owes faultless none =
      block_owes faultless [] (none_reset setup told_then noted (idle_no_cause setup told_then noted faultless (ap (λ (b : Option Partial). is_some b || noted.frame.kind == data_kind) none ∙ not_data)))
      ∙ ap (λ (xs : List Frame). xs ++ []) (no_goaway setup told_then noted (ap (λ (b : Option Partial). opens_by told_then.drained told_then.opened b noted.note) none))

  -- what one with a fault that isn't of the connection calls for, and that it gains nothing
  pub block_owes_at_fault : (fault : Fault) → is_fatal (Some fault) ≡ false → fault_in told_then (Came noted) ≡ Some fault → owes_in setup false told_then (Came noted) ≡ last_goaway_in told_then (Came noted) ++ owed_at_fault noted.frame.id fault
  block_owes_at_fault fault mild is = owes_at_fault setup told_then noted fault mild is

  pub block_failed : (fault : Fault) → fault_in told_then (Came noted) ≡ Some fault → added_in setup told_then noted ≡ []
  block_failed fault is = none_at_fault setup told_then noted fault is
