-- All that comes of a frame with a fragment, by the judgement's answer.
use Rattle.std.proofs.Common.{◌≡◌, ℕ, ◌<◌, ◌≤◌, true, false, ◌||◌, ◌==◌, List, append-nil, length, Option, Some, None, refl, sym, ◌∙◌, ap, [], ◌∷◌}
use Rattle.std.specs.Prelude.{is_some}
use Rattle.model.specs.Frames.{Frame, data_kind}
use Rattle.model.specs.Logs.{Output}
use Rattle.model.specs.Setup.{Setup}
use Rattle.model.specs.Tables.{Table}
use Rattle.model.specs.Limits.{most_streams}
use Rattle.model.specs.Tapes.{Noted}
use Rattle.model.specs.Tapes.Entry.{Came}
use Rattle.model.specs.Causes.{Cause}
use Rattle.model.specs.Courses.{first_of_both}
use Rattle.model.specs.Decoding.{Partial}
use Rattle.model.specs.Errors as errors
use Rattle.model.specs.ErrorClause.{is_fatal, rst_stream}
use Rattle.model.specs.Lifetimes.{opens_by}
use Rattle.theory_errors.specs.Summary.{Summary}
use Rattle.theory_errors.specs.Judging.{completed_in}
use Rattle.theory_errors.specs.Quiet.{noted_of, sending}
use Rattle.theory_errors.specs.Rows.{ids_of, find}
use Rattle.theory_errors.specs.Rows.Slot.{Over}
use Rattle.theory_errors.specs.Book.{Book, book_after}
use Rattle.theory_errors.specs.Tidy.{AreKept}
use Rattle.theory_errors.proofs.Tidy.{kept_behind_entry}
use Rattle.theory_header_tables.specs.State as theory_header_tables
use Rattle.streams.specs.Asked.{changed}
use Rattle.connection_state.specs.Inbound.{Inbound, book_of, told_of}
use Rattle.connection_state.specs.Fragments.{IsOfBlock, IsFragmentJudged, noted_behind, noted_reset}
use Rattle.connection_state.specs.declared.answers.FrameError.TheVariants as fault
use Rattle.connection_state.specs.declared.answers.BlockJudged.TheVariants as judged
use Rattle.connection_state.specs.Sending.{behind_reset}
use Rattle.connection_state.proofs.SendingBooks.{reset_leads}
use Rattle.refinement.specs.View.{View, balanced}
use Rattle.refinement.specs.Rest.{IsAtRest}
use Rattle.refinement.proofs.Answered.{part_addition, part_owes, whole_addition, whole_owes, block_owes_at_fault, block_failed, caused_by, not_data}
use Rattle.refinement.proofs.Owing.{idle_no_cause, not_caused, no_goaway, no_more}
use Rattle.refinement.proofs.Coming.{outside_of, inbound_in, inbound_behind}
use Rattle.event_handlers.specs.Comings.{ComesFrom}
use Rattle.event_handlers.specs.Inputs.Input.{OfFrame}
use Rattle.event_handlers.specs.block_frames.Following.{goaway_behind, IsCalmedBehind}
use Rattle.event_handlers.specs.block_frames.Acting.{IsActed}
use Rattle.event_handlers.specs.block_frames.Taken.{IsBlockTaken}
use Rattle.event_handlers.specs.declared.block_frames.outlet.Outlet.{Outlet}
use Rattle.event_handlers.specs.declared.block_frames.taking.BlockTaken.{BlockTaken}
use Rattle.event_handlers.specs.declared.block_frames.taking.BlockTaken.TheVariants as taken
use Rattle.event_handlers.proofs.block_frames.Before.{left_is}
use Rattle.event_handlers.proofs.block_frames.Passed.{fatal_so, goaway, passed_none, passed_reset, passed_stopped}

-- the table that a frame leaves
table_is : (old mid : Inbound) (noted : Noted) (next : Table) → (completed_in old.block noted.frame ≡ None → next ≡ old.table) → mid.table ≡ next → mid.table ≡ theory_header_tables.table_after (completed_in old.block noted.frame) next old.table
table_is old mid noted next stays table = by (completed_in old.block noted.frame) refl
  where
    by : (o : Option Partial) → completed_in old.block noted.frame ≡ o → mid.table ≡ theory_header_tables.table_after o next old.table
    by None none = table ∙ stays none
    by (Some block) is = table

-- what is kept behind a reset
pub reset_is : (setup : Setup) (untaken : ℕ) (old mid : Inbound) (noted : Noted) (next : Table) (code : ℕ) → AreKept old.rows → book_of (outside_of untaken) mid ≡ noted_reset setup (book_of (outside_of untaken) old) noted code → (completed_in old.block noted.frame ≡ None → next ≡ old.table) → mid.table ≡ next
    → mid ≡ record (inbound_behind setup untaken old noted next) { rows = changed noted.frame.id (Over true) (inbound_behind setup untaken old noted next).rows }
reset_is setup untaken old mid noted next code kept left stays table =
    ap (λ (b : Book). inbound_in mid.table b) (left ∙ ap (λ (b : Book). record b { untaken = untaken }) reset)
    ∙ ap (λ (t : Table). record (inbound_in t then_book) { rows = changed noted.frame.id (Over true) then_book.rows }) (table_is old mid noted next stays table)
  where
    then_book : Book
    then_book = noted_behind setup (book_of (outside_of untaken) old) noted

    reset : book_after setup false then_book (sending (rst_stream noted.frame.id code)) ≡ behind_reset then_book (rst_stream noted.frame.id code)
    reset = (reset_leads setup then_book (noted_of (rst_stream noted.frame.id code)) (kept_behind_entry setup false (book_of (outside_of untaken) old) (Came noted) kept) refl refl).book

module _ (setup : Setup) (old : View) (rest : IsAtRest old) (frame : Frame) (mid : Inbound) (of : IsOfBlock frame) (kept : AreKept old.inbound.rows) (few_rows : length (ids_of old.inbound.rows) ≤ most_streams) (outputs : List Output) (small : frame.id < 2147483648) (outlet : Outlet) where
  abbrev told : Summary
  told = told_of (outside_of old.untaken) old.inbound

  abbrev book : Book
  book = book_of (outside_of old.untaken) old.inbound

  abbrev last : Option ℕ
  last = goaway_behind (length old.inbound.rows) mid.rows

  -- an error of the connection
  pub fatal_taken : (code : ℕ) (is : IsFragmentJudged setup (outside_of old.untaken) old.inbound frame mid (judged.Failed (fault.Connection code))) (result : BlockTaken) (new : View) (put_out : List Output) → IsActed frame.id outlet (judged.Failed (fault.Connection code)) last (record old { inbound = mid }) outputs result new put_out → IsBlockTaken setup old outputs frame result new put_out
  fatal_taken code is (taken.Goes due goaway_left dropped) new put_out acted = absurd acted.0
  fatal_taken code is (taken.Fatal found) new put_out acted =
      fatal_so setup old rest frame mid of kept few_rows outputs small (judged.Failed (fault.Connection code)) is found (is.judged.is ∙ ap (λ c. Some (errors.Fault.Connection c)) (sym acted.0)) is.judged.left new put_out acted.1 acted.2

  -- an error of its stream
  pub stream_taken : (code : ℕ) (is : IsFragmentJudged setup (outside_of old.untaken) old.inbound frame mid (judged.Failed (fault.Stream code))) (result : BlockTaken) (new : View) (put_out : List Output) → IsActed frame.id outlet (judged.Failed (fault.Stream code)) last (record old { inbound = mid }) outputs result new put_out → IsBlockTaken setup old outputs frame result new put_out
  stream_taken code is result new put_out acted =
      passed_reset setup old rest frame mid of kept few_rows outputs small (judged.Failed (fault.Stream code)) is (ap is_fatal is.judged.is) code
      (reset_is setup old.untaken old.inbound mid (record { frame = frame; note = is.note }) is.next code kept is.judged.left is.stays is.table) is.judged.is result new put_out acted

  -- one whose stream can't be reset, so that the connection ends
  pub stream_stopped : (code : ℕ) (is : IsFragmentJudged setup (outside_of old.untaken) old.inbound frame mid (judged.Failed (fault.Stream code))) (p : List Output) → IsCalmedBehind last (record old { inbound = mid }) outputs p → ComesFrom setup old balanced outputs (OfFrame frame ∷ []) balanced None p
  stream_stopped code is p stopped =
      passed_stopped setup old rest frame mid of kept few_rows outputs small (judged.Failed (fault.Stream code)) is (ap is_fatal is.judged.is) code
      (reset_is setup old.untaken old.inbound mid (record { frame = frame; note = is.note }) is.next code kept is.judged.left is.stays is.table) is.judged.is p stopped

  -- one that is passed over
  pub discarded_taken : (is : IsFragmentJudged setup (outside_of old.untaken) old.inbound frame mid (judged.Failed fault.Discarded)) (result : BlockTaken) (new : View) (put_out : List Output) → IsActed frame.id outlet (judged.Failed fault.Discarded) last (record old { inbound = mid }) outputs result new put_out → IsBlockTaken setup old outputs frame result new put_out
  discarded_taken is result new put_out acted =
      let noted : Noted = record { frame = frame; note = is.note } in
      let same : mid ≡ inbound_behind setup old.untaken old.inbound noted is.next = left_is setup old.untaken old.inbound mid noted is.next is.judged.left is.stays is.table in
      passed_none setup old rest frame mid of kept few_rows outputs small (judged.Failed fault.Discarded) is (ap is_fatal is.judged.is) same
      (block_failed setup book noted of few_rows errors.Fault.Discarded is.judged.is)
      (block_owes_at_fault setup book noted of few_rows errors.Fault.Discarded refl is.judged.is ∙ append-nil _ ∙ goaway setup old rest frame mid of kept few_rows outputs small (judged.Failed fault.Discarded) is (ap (λ (i : Inbound). ids_of i.rows) same))
      (ap (λ (c : Option Cause). first_of_both (find old.inbound.rows frame.id).outline.cause c) (not_caused setup told noted errors.Fault.Discarded is.judged.is) ∙ no_more (find old.inbound.rows frame.id).outline.cause)
      result new put_out acted

  -- one with which a block goes on
  pub part_taken : (is : IsFragmentJudged setup (outside_of old.untaken) old.inbound frame mid judged.GoesOn) (result : BlockTaken) (new : View) (put_out : List Output) → IsActed frame.id outlet judged.GoesOn last (record old { inbound = mid }) outputs result new put_out → IsBlockTaken setup old outputs frame result new put_out
  part_taken is result new put_out acted =
      let noted : Noted = record { frame = frame; note = is.note } in
      let same : mid ≡ inbound_behind setup old.untaken old.inbound noted is.next = left_is setup old.untaken old.inbound mid noted is.next is.judged.left is.stays is.table in
      passed_none setup old rest frame mid of kept few_rows outputs small judged.GoesOn is (ap is_fatal is.judged.faultless) same
      (part_addition setup book noted of few_rows is.judged.says)
      (part_owes setup book noted of few_rows is.judged.faultless is.judged.says ∙ sym (no_goaway setup told noted (ap (λ (o : Option Partial). opens_by told.drained told.opened o is.note) is.judged.says)) ∙ goaway setup old rest frame mid of kept few_rows outputs small judged.GoesOn is (ap (λ (i : Inbound). ids_of i.rows) same))
      (ap (λ (c : Option Cause). first_of_both (find old.inbound.rows frame.id).outline.cause c) (idle_no_cause setup told noted is.judged.faultless (ap (λ (o : Option Partial). is_some o || frame.kind == data_kind) is.judged.says ∙ not_data setup book noted of few_rows)) ∙ no_more (find old.inbound.rows frame.id).outline.cause)
      result new put_out acted

  -- one whose block isn't looked at any more
  pub ignored_taken : (is : IsFragmentJudged setup (outside_of old.untaken) old.inbound frame mid judged.Ignored) (result : BlockTaken) (new : View) (put_out : List Output) → IsActed frame.id outlet judged.Ignored last (record old { inbound = mid }) outputs result new put_out → IsBlockTaken setup old outputs frame result new put_out
  ignored_taken is result new put_out acted =
      let noted : Noted = record { frame = frame; note = is.note } in
      let says = is.judged.says in
      let same : mid ≡ inbound_behind setup old.untaken old.inbound noted is.next = left_is setup old.untaken old.inbound mid noted is.next is.judged.left is.stays is.table in
      passed_none setup old rest frame mid of kept few_rows outputs small judged.Ignored is (ap is_fatal is.judged.faultless) same
      (whole_addition setup book noted of few_rows is.judged.faultless says.0 says.2 says.1 says.3 judged.Ignored says.4)
      (whole_owes setup book noted of few_rows is.judged.faultless says.0 says.2 says.1 says.3 judged.Ignored says.4 ∙ append-nil _ ∙ goaway setup old rest frame mid of kept few_rows outputs small judged.Ignored is (ap (λ (i : Inbound). ids_of i.rows) same))
      (ap (λ (c : Option Cause). first_of_both (find old.inbound.rows frame.id).outline.cause c) (caused_by setup book noted of few_rows is.judged.faultless says.0 says.2 says.1 says.3) ∙ says.4.1)
      result new put_out acted
