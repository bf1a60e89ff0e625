-- A frame that completes a header block, by what the decoder and the streams said of it.
use Rattle.std.proofs.Common.{◌≡◌, ℕ, Bool, true, false, ◌==◌, if◌then◌else◌, List, [], ◌∷◌, Option, Some, None, refl, sym, ◌∙◌, ap, subst}
use Rattle.std.specs.Prelude.{is_some}
use Rattle.model.specs.Messages.{Field}
use Rattle.model.specs.Frames.{Frame, ends_headers}
use Rattle.model.specs.Setup.{Setup}
use Rattle.model.specs.Tables.{Table}
use Rattle.model.specs.Tapes.{Note}
use Rattle.model.specs.Tapes.Note.{NoBlock, Fields, Undecodable, Unread}
use Rattle.model.specs.Tapes.Entry.{Came}
use Rattle.model.specs.Decoding.{Partial, joined}
use Rattle.model.specs.Errors.{Fault, first_of, or_else}
use Rattle.model.specs.Errors.Fault.{Connection}
use Rattle.theory_errors.specs.Summary.{Summary}
use Rattle.theory_errors.specs.Judging.{completed_in, frame_rows_in, rows_behind_block_in, malformed_in, values_in, shift_in, connection_update_in, idle_in, connection_data_in, resets_row_in, is_crowded_in}
use Rattle.theory_errors.specs.Owing.{fault_in}
use Rattle.theory_errors.specs.Rows.{Row, find}
use Rattle.theory_errors.specs.Book.{Book}
use Rattle.theory_errors.specs.Tidy.{AreKept}
use Rattle.theory_header_tables.specs.Rule.{IsNoted}
use Rattle.theory_header_tables.specs.Verdicts.{verdict_in}
use Rattle.model.specs.StreamStates.Standing.{Beyond}
use Rattle.streams.specs.Asked.{standing}
use Rattle.connection_state.specs.Inbound.{Inbound, Outside, book_of, told_of}
use Rattle.connection_state.specs.Judgement.{behind}
use Rattle.connection_state.specs.Blocks.{SettlesBy, fault_with}
use Rattle.connection_state.specs.Draining.{AreAsEver}
use Rattle.connection_state.specs.Fragments.{IsTableLeft, IsNotedJudged, IsFragmentJudged, Completes, IsUndecodable}
use Rattle.connection_state.specs.declared.answers.FrameError.TheVariants as told
use Rattle.connection_state.specs.declared.answers.BlockJudged.{BlockJudged}
use Rattle.connection_state.specs.declared.answers.BlockJudged.TheVariants as judged
use Rattle.connection_state.proofs.Rows.{first_within}
use Rattle.connection_state.proofs.Gathering.{no_error_before}
use Rattle.connection_state.proofs.FragmentFaults.{block_fault}
use Rattle.connection_state.proofs.FragmentBooks.{heard_with}
use Rattle.connection_state.proofs.BlockBooks.{beyond_judged, judged_by}

-- the table that the decoder leaves is kept
table_left : (next : Table) (a : BlockJudged) → IsTableLeft next a next
table_left next (judged.Failed (told.Connection code)) = tt
table_left next (judged.Failed (told.Stream code)) = refl
table_left next (judged.Failed told.Discarded) = refl
table_left next judged.GoesOn = refl
table_left next (judged.Begins head route) = refl
table_left next (judged.Answered cause) = refl
table_left next (judged.Trailers trailers) = refl
table_left next judged.Ignored = refl

-- a frame that completes a block ends it
ends_it : (begun : Option Partial) (frame : Frame) (block : Partial) → completed_in begun frame ≡ Some block → ends_headers frame ≡ true
ends_it begun frame block is = cases (ends_headers frame) is
  where
    cases : (x : Bool) → (if x then joined begun frame else None) ≡ Some block → x ≡ true
    cases true is = refl
    cases false is = absurd (let no : None ≡ Some block = is in cc)

module _ (setup : Setup) (outside : Outside) (before old : Inbound) (frame : Frame) (block : Partial) (by : Completes before old frame block) where
  -- the book in which it was heard
  heard_is : (rows : List Row) (next : Table) → heard_with (book_of outside before) frame rows ≡ book_of outside (record old { has_come = true; last = frame.id; rows = rows; table = next })
  heard_is rows next =
      ap (λ x. record (heard_with (book_of outside before) frame rows) { block = if x then None else joined before.block frame }) (ends_it before.block frame block by.is_block)
      ∙ sym (ap (λ (o : Inbound). book_of outside (record o { has_come = true; last = frame.id; rows = rows; table = next })) by.same)

  noted_so : (note : Note) (next : Table) → IsNoted (Some block) false before.table note next → IsNoted (completed_in before.block frame) (verdict_in (told_of outside before) frame).is_error before.table note next
  noted_so note next is =
      subst (λ o. IsNoted o (verdict_in (told_of outside before) frame).is_error before.table note next) (sym by.is_block)
      (subst (λ e. IsNoted (Some block) e before.table note next) (sym (no_error_before before frame by.of by.sound outside)) is)

  -- What comes of a block that was read.
  pub block_judged : (frame.id == 0) ≡ false → AreKept before.rows → AreAsEver before.drained before.rows frame.id → (fields : List Field) (next : Table) (rows : List Row) (a : BlockJudged) → IsNoted (Some block) false before.table (Fields fields) next → SettlesBy (fault_with (is_crowded_in (told_of outside before)) before.rows frame.id fields block.ends) setup before.rows frame.id fields block.ends rows a
      → IsFragmentJudged setup outside before frame (record old { has_come = true; last = frame.id; rows = rows; table = next }) a
  block_judged of_stream kept ever fields next rows a noted settles = record {
    note = Fields fields;
    next = next;
    is_noted = noted_so (Fields fields) next noted;
    stays = λ none. absurd (let no : None ≡ Some block = sym none ∙ by.is_block in cc);
    read = λ unread. absurd (cc);
    table = table_left next a;
    judged = subst (λ (x : Book). IsNotedJudged setup (book_of outside before) (record { frame = frame; note = Fields fields }) x a) (heard_is rows next) (judged_by setup (book_of outside before) frame fields by.of (by.sound outside) block by.is_block of_stream kept ever refl rows a settles);
  }

  -- One on an id that is beyond the last is discarded, though it was read.
  pub block_beyond : (frame.id == 0) ≡ false → AreKept before.rows → standing before.drained before.rows frame.id ≡ Beyond → (fields : List Field) (next : Table) → IsNoted (Some block) false before.table (Fields fields) next
      → IsFragmentJudged setup outside before frame (record old { has_come = true; last = frame.id; rows = before.rows; table = next }) (judged.Failed told.Discarded)
  block_beyond of_stream kept beyond fields next noted = record {
    note = Fields fields;
    next = next;
    is_noted = noted_so (Fields fields) next noted;
    stays = λ none. absurd (let no : None ≡ Some block = sym none ∙ by.is_block in cc);
    read = λ unread. absurd (cc);
    table = refl;
    judged = subst (λ (x : Book). IsNotedJudged setup (book_of outside before) (record { frame = frame; note = Fields fields }) x (judged.Failed told.Discarded)) (heard_is before.rows next) (beyond_judged setup (book_of outside before) frame fields by.of (by.sound outside) block by.is_block of_stream kept beyond);
  }

  -- One that can't be read is an error of the connection.
  pub block_unread : (new : Inbound) → new.rows ≡ old.rows → IsUndecodable before.table block.fragments → IsFragmentJudged setup outside before frame new (judged.Failed (told.Connection 9))
  block_unread new rows unread = record {
    note = Undecodable;
    next = before.table;
    is_noted = noted_so Undecodable before.table (unread block refl);
    stays = λ none. refl;
    read = λ unread. absurd (cc);
    table = tt;
    judged = record {
      is = block_fault (told_of outside before) (record { frame = frame; note = Undecodable }) by.of (by.sound outside) block by.is_block (find before.rows frame.id).outline;
      left = rows ∙ ap (λ (o : Inbound). o.rows) by.same;
    };
  }

-- A frame with which a block goes on.
pub goes_on_judged : (setup : Setup) (outside : Outside) (old new : Inbound) (frame : Frame) → completed_in old.block frame ≡ None → fault_in (told_of outside old) (Came (record { frame = frame; note = NoBlock })) ≡ None
    → book_of outside new ≡ behind setup (book_of outside old) frame → new.table ≡ old.table → IsFragmentJudged setup outside old frame new judged.GoesOn
goes_on_judged setup outside old new frame none faultless left table = record {
  note = NoBlock;
  next = old.table;
  is_noted = subst (λ o. IsNoted o (verdict_in (told_of outside old) frame).is_error old.table NoBlock old.table) (sym none) refl;
  stays = λ none. refl;
  read = λ unread. absurd (cc);
  table = table;
  judged = record { faultless = faultless; left = left; says = none };
}

-- A frame that is wrong by itself.
pub frame_judged : (setup : Setup) (outside : Outside) (old : Inbound) (frame : Frame) (code : ℕ) → first_of (frame_rows_in (told_of outside old) frame) ≡ Some (Connection code) → IsFragmentJudged setup outside old frame old (judged.Failed (told.Connection code))
frame_judged setup outside old frame code is = record {
  note = note (completed_in old.block frame);
  next = old.table;
  is_noted = noted (completed_in old.block frame) (verdict_in (told_of outside old) frame).is_error wrong_before;
  stays = λ none. refl;
  read = λ unread. wrong_before;
  table = tt;
  judged = record {
    is = ap (λ (x : Option Fault). or_else x (malformed_in (find old.rows frame.id).outline s (Came (record { frame = frame; note = note (completed_in old.block frame) })))) (first_within (frame_rows_in s frame) (values_in frame ∷ shift_in s frame ∷ connection_update_in s frame ∷ idle_in s frame ∷ resets_row_in s frame ∷ connection_data_in s frame ∷ rows_behind_block_in s (record { frame = frame; note = note (completed_in old.block frame) })) (Connection code) is);
    left = refl;
  };
}
  where
    s : Summary
    s = told_of outside old

    wrong_before : (verdict_in (told_of outside old) frame).is_error ≡ true
    wrong_before = ap is_some (first_within (frame_rows_in s frame) (values_in frame ∷ shift_in s frame ∷ connection_update_in s frame ∷ idle_in s frame ∷ resets_row_in s frame ∷ connection_data_in s frame ∷ []) (Connection code) is)

    note : Option Partial → Note
    note None = NoBlock
    note (Some block) = Unread

    noted : (o : Option Partial) (e : Bool) → e ≡ true → IsNoted o e old.table (note o) old.table
    noted None e is = refl
    noted (Some block) true is = (refl, refl)
    noted (Some block) false is = absurd (let no : false ≡ true = is in cc)
