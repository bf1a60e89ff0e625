-- A control frame that is owed: it may be sent, and then it is owed no more, and nothing else changes but what is untaken.
use Rattle.std.proofs.Common.{◌≡◌, ℕ, true, false, not, ◌&&◌, ◌||◌, ◌==◌, nat_lt, if◌then◌else◌, List, [], ◌∷◌, ◌++◌, length, append-nil, Option, None, refl, sym, ◌∙◌, ap, inl, inr}
use Rattle.std.proofs.lemmas.Bool.{and_right}
use Rattle.std.proofs.Math.Bool.{or-false}
use Rattle.std.specs.List.{list_any}
use Rattle.model.specs.Messages.{Item}
use Rattle.model.specs.Messages.Item.{Content}
use Rattle.model.specs.Frames.{Frame, headers_kind, continuation_kind, window_update_kind, ends_headers, ends_stream, content, goaway, enhance_your_calm}
use Rattle.model.specs.Setup.{Setup}
use Rattle.model.specs.Decoding.{Partial, joined}
use Rattle.model.specs.Streams.{frame_items}
use Rattle.model.specs.Lifetimes.{ends_by, may_open}
use Rattle.model.specs.WindowsOnTape.{increment}
use Rattle.model.specs.Courses.{is_final}
use Rattle.model.specs.ErrorClause.{is_passing, is_calming}
use Rattle.theory_errors.specs.Summary.{Stream as Kept}
use Rattle.theory_errors.specs.Judging.{completed_in, is_crowded_in}
use Rattle.theory_errors.specs.Turn.{rest_of}
use Rattle.theory_errors.specs.Owing.{highest_in, owes_in}
use Rattle.theory_errors.specs.After.{grant, stream_from}
use Rattle.theory_errors.specs.Rows.{Row, Slot, ids_of, kept_in, slot_of, row_behind, over_kept}
use Rattle.theory_errors.specs.Rows.Slot.{Live, Over}
use Rattle.theory_errors.specs.Book.{Book, summary_in, book_after, ledger_after, MayMove}
use Rattle.theory_errors.specs.Tidy.{IsSteady, IsTidy, IsRow, AreKept}
use Rattle.theory_errors.specs.Quiet.{IsControl, noted_of, sending, sends, paid_of}
use Rattle.theory_errors.proofs.Elsewhere.{kept_same, course_same, none_more, none_less, over_again}
use Rattle.theory_errors.proofs.Idle.{no_cause_if}
use Rattle.theory_errors.proofs.Turns.{completes_none, control_owes}
use Rattle.theory_errors.proofs.Quiet.{begins_none, no_items_if, all_stay, same_book}

-- it is no part of a response, nor are octets given back with it
pub no_passing : (frame : Frame) → IsControl frame → is_passing (noted_of frame) ≡ false
no_passing frame control =
    ap (λ x. x || frame.kind == headers_kind || frame.kind == continuation_kind || frame.kind == window_update_kind) control.no_data
    ∙ ap (λ x. x || frame.kind == continuation_kind || frame.kind == window_update_kind) control.no_headers
    ∙ ap (λ x. x || frame.kind == window_update_kind) control.no_continuation
    ∙ control.no_update

-- It calls for nothing.
pub owes_none : (setup : Setup) (b : Book) (frame : Frame) → IsControl frame → owes_in setup false (summary_in b) (sending frame) ≡ []
owes_none setup b frame control = control_owes setup false (summary_in b) (noted_of frame) (no_passing frame control)

module _ (setup : Setup) (b : Book) (frame : Frame) (control : IsControl frame) (no_block : b.block_out ≡ None) (kept : AreKept b.rows) where
  nothing : completed_in b.block_out frame ≡ None
  nothing = completes_none b.block_out frame control.no_headers control.no_continuation

  -- it leaves each stream as it was
  untouched : (id : ℕ) (k : Kept) → IsSteady k.outline → stream_from setup false (summary_in b) (sending frame) id k None ≡ k
  untouched id k is = kept_same k _
      refl
      (ap (λ (block : Option Partial). frame.id == id && ends_by block frame || k.ended_by_gateway) nothing
      ∙ ap (λ x. frame.id == id && (x && ends_stream frame) || k.ended_by_gateway) control.no_data
      ∙ ap (λ x. x || k.ended_by_gateway) (and_right (frame.id == id) false refl))
      refl
      (ap (λ x. x && frame.id == id || k.reset_by_gateway) control.no_reset)
      (none_less k.balance _ (ap (λ x. if x && frame.id == id then length frame.payload else 0) control.no_data))
      (none_more true k.room (grant id frame) (ap (λ x. if x && frame.id == id then increment frame else 0) control.no_update))
      (ap (λ (items : List Item). k.head_out || list_any is_final items) (none_on id) ∙ or-false k.head_out)
      (course_same setup false (summary_in b) (sending frame) id k None is (no_cause_if (0 == id && nat_lt 0 id) None refl) (ap (λ x. x && frame.id == id || false) control.no_reset) refl)
    where
      none_on : (id : ℕ) → (if frame.id == id then frame_items (completed_in b.block_out frame) (noted_of frame) else []) ≡ []
      none_on id =
          ap (λ (block : Option Partial). if frame.id == id then frame_items block (noted_of frame) else []) nothing
          ∙ ap (λ x. if frame.id == id then (if x then Content (content frame) (ends_stream frame) ∷ [] else []) else []) control.no_data
          ∙ no_items_if (frame.id == id)

  -- each slot stays
  slot_stays : (id : ℕ) (slot : Slot) → IsTidy slot → slot_of (stream_from setup false (summary_in b) (sending frame) id (kept_in slot) None) ≡ slot
  slot_stays id (Live k) tidy = ap slot_of (untouched id k tidy.1) ∙ ap (λ x. if x then Over k.reset_by_gateway else Live k) tidy.0
  slot_stays id (Over by_us) tidy = ap slot_of (untouched id (over_kept by_us) (λ none. refl)) ∙ over_again by_us

  row_same : (row : Row) → IsRow row → row_behind setup false (summary_in b) (sending frame) row ≡ row
  row_same row is = ap (λ (x : Slot). record { id = row.id; slot = x }) (slot_stays row.id row.slot is.tidy)

  -- the book stays, but for what is untaken
  pub book_stays : book_after setup false b (sending frame) ≡ paid_of b frame
  book_stays = same_book (book_after setup false b (sending frame)) (paid_of b frame) refl refl refl
      (ap (λ (block : Option Partial). if ends_headers frame then None else joined block frame) no_block ∙ begins_none frame control.no_headers ∙ sym no_block)
      refl
      (none_less b.window _ (ap (λ x. if x && true then length frame.payload else 0) control.no_data))
      (none_more true b.room (grant 0 frame) (ap (λ x. if x && frame.id == 0 then increment frame else 0) control.no_update))
      (all_stay (row_behind setup false (summary_in b) (sending frame)) b.rows kept row_same)
      refl
      refl

  -- A debt that is paid is owed no more.
  pub paid : (queue : List Frame) → (is_calming frame && not b.ends) ≡ false → ledger_after setup (record { book = b; queue = frame ∷ queue }) (sends frame) ≡ record { book = paid_of b frame; queue = queue }
  paid queue owing =
      ap (λ (x : Book). record { book = x; queue = if is_calming frame && not b.ends then [] else queue ++ owes_in setup false (summary_in b) (sending frame) }) book_stays
      ∙ ap (λ x. record { book = paid_of b frame; queue = if x then [] else queue ++ owes_in setup false (summary_in b) (sending frame) }) owing
      ∙ ap (λ (fs : List Frame). record { book = paid_of b frame; queue = queue ++ fs }) (owes_none setup b frame control)
      ∙ ap (λ (fs : List Frame). record { book = paid_of b frame; queue = fs }) (append-nil queue)

  -- Behind a GOAWAY in place of another frame nothing is owed.
  pub stood : (queue : List Frame) → (is_calming frame && not b.ends) ≡ true → ledger_after setup (record { book = b; queue = queue }) (sends frame) ≡ record { book = paid_of b frame; queue = [] }
  stood queue in_place =
      ap (λ (x : Book). record { book = x; queue = if is_calming frame && not b.ends then [] else rest_of queue ++ owes_in setup false (summary_in b) (sending frame) }) book_stays
      ∙ ap (λ x. record { book = paid_of b frame; queue = if x then [] else rest_of queue ++ owes_in setup false (summary_in b) (sending frame) }) in_place

-- Any frame that is owed may be sent, unless it is on a stream that may be opened yet: but where too many octets are untaken only a GOAWAY that asks
-- the client to be calm, and that only where the connection is to end.
pub may_pay : (b : Book) (frame : Frame) → is_passing (noted_of frame) ≡ false → (queue : List Frame) → b.closed ≡ false → may_open (summary_in b).drained (summary_in b).opened frame.id ≡ false
    → (is_calming frame && not b.ends) ≡ false → (is_crowded_in (summary_in b) && not (is_calming frame)) ≡ false → MayMove (record { book = b; queue = frame ∷ queue }) (sends frame)
may_pay b frame control queue open_yet apart owing calm = record {
  allowed = record { open_yet = open_yet; turn = inl (record { front = refl; control = control; owing = owing; calm = calm }) };
  fit = apart;
}

-- A GOAWAY that asks the client to be calm may be sent in place of what is owed, where too many octets are untaken.
pub may_stand : (b : Book) (queue : List Frame) → b.closed ≡ false → b.ends ≡ false → is_crowded_in (summary_in b) ≡ true → MayMove (record { book = b; queue = queue }) (sends (goaway (highest_in (ids_of b.rows)) enhance_your_calm))
may_stand b queue open_yet on crowded = record {
  allowed = record { open_yet = open_yet; turn = inr (inr (record { goes_on = on; crowded_so = crowded; goaway = refl })) };
  fit = refl;
}
