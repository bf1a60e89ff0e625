-- A frame that completes a header block and is an error of its stream: what it and the reset of the stream leave (RFC 9113, section 5.4.2).
use Rattle.std.proofs.Common.{◌≡◌, ℕ, true, false, ◌==◌, List, [], ◌∷◌, map, Option, Some, None, refl, sym, ◌∙◌, ap}
use Rattle.std.proofs.lemmas.Bool.{ne_eqb}
use Rattle.std.specs.Prelude.{ℤ, pos, ◌+ℤ◌}
use Rattle.std.specs.List.{AllByRecursion}
use Rattle.std.proofs.lemmas.List.Elements.{recursion_from_All}
use Rattle.model.specs.Messages.{Field}
use Rattle.model.specs.Frames.{Frame}
use Rattle.model.specs.Setup.{Setup}
use Rattle.model.specs.Tapes.{Noted}
use Rattle.model.specs.Tapes.Entry.{Came}
use Rattle.model.specs.Tapes.Note.{Fields}
use Rattle.model.specs.Decoding.{Partial}
use Rattle.model.specs.Errors.{first_of}
use Rattle.model.specs.Lifetimes.{may_open}
use Rattle.model.specs.ErrorTable.{fault_of}
use Rattle.model.specs.ErrorClause.{is_fatal, rst_stream}
use Rattle.theory_errors.specs.Summary.{Outline}
use Rattle.theory_errors.specs.Judging.{completed_in, frame_rows_in, fault_for}
use Rattle.theory_errors.specs.After.{begun_after}
use Rattle.theory_errors.specs.Rows.{Row, row_behind, row_opened, rows_after, find}
use Rattle.theory_errors.specs.Rows.Slot.{Over}
use Rattle.theory_errors.specs.Book.{Book, summary_in, book_after}
use Rattle.theory_errors.specs.Tidy.{AreKept}
use Rattle.theory_errors.specs.Quiet.{sending}
use Rattle.theory_errors.proofs.Elsewhere.{row_stays, none_more, none_less}
use Rattle.streams.specs.Asked as asked
use Rattle.streams.specs.Asked.{changed}
use Rattle.streams.proofs.Searches.{IsFound, all_found}
use Rattle.connection_state.specs.Fragments.{IsFragment, noted_behind, noted_reset}
use Rattle.connection_state.proofs.Streams.{reset_own, both_rows}
use Rattle.connection_state.proofs.FragmentBooks.{heard_with, fragment_book}
use Rattle.connection_state.proofs.FragmentStreams.{mild, not_there, opened_rows, rows_are}

-- What a reset leaves of a book: its rows, and the octets that are counted later, aside.
reset_book : (setup : Setup) (b m : Book) (id code : ℕ) → m.block_out ≡ None → record (book_after setup false m (sending (rst_stream id code))) { untaken = b.untaken } ≡ record m { rows = map (row_behind setup false (summary_in m) (sending (rst_stream id code))) m.rows; untaken = b.untaken }
reset_book setup b m id code none_out =
    let rst : Frame = rst_stream id code in
    let all : List Row = map (row_behind setup false (summary_in m) (sending rst)) m.rows in
    ap (λ (o : Option Partial). record (book_after setup false m (sending rst)) { untaken = b.untaken; block_out = o }) (ap (λ (o : Option Partial). begun_after o rst) none_out ∙ sym none_out)
    ∙ ap (λ (x : ℤ). record m { untaken = b.untaken; window = x; room = m.room +ℤ pos 0; rows = all }) (none_less m.window 0 refl)
    ∙ ap (λ (x : ℤ). record m { untaken = b.untaken; room = x; rows = all }) (none_more true m.room 0 refl)

module _ (setup : Setup) (b : Book) (frame : Frame) (fields : List Field) (of : IsFragment frame) (sound : first_of (frame_rows_in (summary_in b) frame) ≡ None) (block : Partial) (is_block : completed_in b.block frame ≡ Some block) (of_stream : (frame.id == 0) ≡ false) (kept : AreKept b.rows) where
  abbrev noted : Noted
  noted = record { frame = frame; note = Fields fields }

  module _ (code : ℕ) (none_out : b.block_out ≡ None) (calm : is_fatal (fault_of (asked.verdict b.drained b.rows frame.id 1)) ≡ false) where
    -- no frame on a stream is an error of the connection with it
    calmly : (outline : Outline) → is_fatal (fault_for outline (summary_in b) (Came noted)) ≡ false
    calmly = mild setup b frame fields of sound block is_block of_stream kept calm

    -- the book behind the frame
    heard_is : (rows : List Row) → rows_after setup false (summary_in b) (Came noted) b.rows ≡ rows → noted_behind setup b noted ≡ heard_with b frame rows
    heard_is rows rows_is = fragment_book setup b noted rows of rows_is (calmly (find b.rows frame.id).outline)

    -- A stream that wasn't opened by it is over by the gateway.
    pub reset_known : may_open (summary_in b).drained (summary_in b).opened frame.id ≡ false → noted_reset setup b noted code ≡ heard_with b frame (changed frame.id (Over true) b.rows)
    reset_known known =
        let all : List Row = map (row_behind setup false (summary_in b) (Came noted)) b.rows in
        let m : Book = heard_with b frame all in
        ap (λ (x : Book). record (book_after setup false x (sending (rst_stream frame.id code))) { untaken = b.untaken }) (heard_is all (rows_are setup b frame fields of sound block is_block of_stream kept false known))
        ∙ reset_book setup b m frame.id code none_out
        ∙ ap (λ (rows : List Row). heard_with b frame rows) (both_rows setup b m noted code calmly b.rows kept)

    -- One that was is over from the first.
    pub reset_opened : may_open (summary_in b).drained (summary_in b).opened frame.id ≡ true → noted_reset setup b noted code ≡ heard_with b frame (record { id = frame.id; slot = Over true } ∷ b.rows)
    reset_opened may =
        let first : Row = row_opened setup false (summary_in b) (Came noted) frame.id in
        let m : Book = heard_with b frame (first ∷ b.rows) in
        ap (λ (x : Book). record (book_after setup false x (sending (rst_stream frame.id code))) { untaken = b.untaken }) (heard_is (first ∷ b.rows) (opened_rows setup b frame fields of sound block is_block of_stream kept calm may))
        ∙ reset_book setup b m frame.id code none_out
        ∙ ap (λ (row : Row). heard_with b frame (row ∷ map (row_behind setup false (summary_in m) (sending (rst_stream frame.id code))) b.rows)) (reset_own setup m frame.id code first refl)
        ∙ ap (λ (rows : List Row). heard_with b frame (record { id = frame.id; slot = Over true } ∷ rows)) (each m b.rows kept (recursion_from_All (IsFound b.rows) b.rows (all_found b.rows kept)))
      where
        each : (m : Book) (rows : List Row) → AreKept rows → AllByRecursion (IsFound b.rows) rows → map (row_behind setup false (summary_in m) (sending (rst_stream frame.id code))) rows ≡ rows
        each m [] kept_rows found = refl
        each m (row ∷ rows) kept_rows found =
            let other : (frame.id == row.id) ≡ false = ne_eqb frame.id row.id (λ same. not_there setup b frame fields of sound block is_block of_stream kept may row found.0 (sym same)) in
            ap (λ (r : Row). r ∷ map (row_behind setup false (summary_in m) (sending (rst_stream frame.id code))) rows) (row_stays setup false (summary_in m) (sending (rst_stream frame.id code)) row kept_rows.0 (other, refl))
            ∙ ap (λ (rs : List Row). row ∷ rs) (each m rows kept_rows.2 found.1)
