-- The book behind a frame that was sent, and what it calls for.
use Rattle.std.proofs.Common.{◌≡◌, ℕ, Bool, true, false, not, ◌&&◌, ◌||◌, ◌==◌, if◌then◌else◌, List, [], ◌∷◌, ◌++◌, map, length, Option, Some, None, refl, sym, ◌∙◌, ap, inl, inr}
use Rattle.std.proofs.lemmas.Bool.{and_parts, cases_eq, ne_eqb, eq-eqb, eqb-true}
use Rattle.std.proofs.Math.Bool.{or-false}
use Rattle.std.specs.Prelude.{ℤ, pos, ◌+ℤ◌, ◌-ℤ◌}
use Rattle.std.specs.List.{list_any}
use Rattle.model.specs.Messages.{Field}
use Rattle.model.specs.Messages.Item.{Block, Content}
use Rattle.model.specs.Frames.{Frame, data_kind, headers_kind, rst_stream_kind, window_update_kind, continuation_kind, ends_headers, ends_stream, content, goaway, no_error}
use Rattle.model.specs.Setup.{Setup}
use Rattle.model.specs.Tapes.{Note, Noted}
use Rattle.model.specs.Tapes.Note.{Fields}
use Rattle.model.specs.Tapes.Entry.{Sent}
use Rattle.model.specs.Decoding.{Partial, joined}
use Rattle.model.specs.Streams.{block_items, frame_items}
use Rattle.model.specs.Limits.{most_streams}
use Rattle.model.specs.Lifetimes.{ends_by}
use Rattle.model.specs.WindowsOnTape.{increment, data_length, is_any}
use Rattle.model.specs.Courses.{is_final}
use Rattle.model.specs.ErrorClause.{rst_stream}
use Rattle.model.proofs.OwedSteps.{neither_full, no_reset_for}
use Rattle.theory_errors.specs.Summary.{Stream as Kept, Summary}
use Rattle.theory_errors.specs.Judging.{completed_in}
use Rattle.theory_errors.specs.Owing.{highest_in, next_outline, resets_in, reset_behind_in, owes_in}
use Rattle.theory_errors.specs.After.{begun_after, grant, kept_behind}
use Rattle.theory_errors.specs.Rows.{Row, Slot, kept_in, find, slot_of, slot_behind, row_behind}
use Rattle.theory_errors.specs.Rows.Slot.{Live, Over}
use Rattle.theory_errors.specs.Book.{Book, summary_in, book_after}
use Rattle.theory_errors.specs.Tidy.{IsTidy, IsRow, AreKept}
use Rattle.theory_errors.specs.Quiet.{IsControl, sending, paid_of}
use Rattle.theory_errors.proofs.Elsewhere.{none_more, none_less, over_again, row_stays}
use Rattle.theory_errors.proofs.Idle.{zero_unless}
use Rattle.theory_errors.proofs.Turns.{completes_none}
use Rattle.theory_errors.proofs.Quiet.{begins_none, all_stay, same_book}
use Rattle.theory_errors.proofs.Paying as paying
use Rattle.streams.specs.Sending.{head_sent, data_sent, given_back}
use Rattle.connection_state.specs.Fragments.{IsFragment, IsOfBlock}
use Rattle.connection_state.specs.Sending.{LeadsTo, with_kept, behind_head, behind_data, behind_reset, behind_update, behind_stream_update, early_reset}
use Rattle.connection_state.proofs.Gathering.{of_headers, of_continuation, goes_on}
use Rattle.connection_state.proofs.SendingStreams.{Brings, brought, own_slot, one_changes, sent_elsewhere}

-- ---- any frame

-- the book behind it, by its parts
sent_book : (setup : Setup) (b : Book) (noted : Noted) (block_out : Option Partial) (window room : ℤ) (rows : List Row) → begun_after b.block_out noted.frame ≡ block_out
    → (b.window -ℤ pos (data_length is_any noted.frame)) ≡ window → (b.room +ℤ pos (grant 0 noted.frame)) ≡ room → map (row_behind setup false (summary_in b) (Sent noted)) b.rows ≡ rows
    → book_after setup false b (Sent noted) ≡ record (paid_of b noted.frame) { block_out = block_out; window = window; room = room; rows = rows }
sent_book setup b noted block_out window room rows block_is window_is room_is rows_are =
    same_book (book_after setup false b (Sent noted)) (record (paid_of b noted.frame) { block_out = block_out; window = window; room = room; rows = rows }) refl refl refl block_is refl window_is room_is rows_are refl refl

-- it calls for nothing but the reset behind a response that ends before its request
sent_owes : (setup : Setup) (b : Book) (noted : Noted) (ends : Bool) → ends_by (completed_in b.block_out noted.frame) noted.frame ≡ ends → owes_in setup false (summary_in b) (Sent noted) ≡ early_reset b noted.frame.id ends
sent_owes setup b noted ends ended =
    let s : Summary = summary_in b in
    ap (λ x. (if x then goaway (highest_in s.opened) no_error ∷ [] else []) ++ (resets_in setup false s (Sent noted) ++ reset_behind_in s (Sent noted))) (neither_full s.drained (length s.opened) most_streams)
    ∙ ap (λ (fs : List Frame). fs ++ reset_behind_in s (Sent noted)) none_reset
    ∙ ap (λ x. if x && not (s.stream noted.frame.id).ended_by_client then rst_stream noted.frame.id no_error ∷ [] else []) ended
  where
    none_reset : resets_in setup false (summary_in b) (Sent noted) ≡ []
    none_reset = no_reset_for 0 (next_outline setup false 0 (summary_in b) (Sent noted)).head_out ((summary_in b).stream 0).outline.cause

-- a slot that holds what it should is made from what it tells
pub same_slot : (slot : Slot) → IsTidy slot → slot_of (kept_in slot) ≡ slot
same_slot (Live kept) tidy = ap (λ x. if x then Over kept.reset_by_gateway else Live kept) tidy.0
same_slot (Over by_us) tidy = over_again by_us

module _ (setup : Setup) (b : Book) (noted : Noted) (kept : AreKept b.rows) (ends out : Bool) (sent back : ℕ) (brings : Brings (summary_in b) noted ends out sent back) where
  -- the rows where it brings its stream this
  rows_brought : (next : Kept → Kept) → ((k : Kept) → brought setup (summary_in b) noted ends out sent back brings k ≡ next k) → map (row_behind setup false (summary_in b) (Sent noted)) b.rows ≡ with_kept noted.frame.id (next (find b.rows noted.frame.id)) b.rows
  rows_brought next same =
      one_changes setup false (summary_in b) (Sent noted) noted.frame.id (slot_of (next (find b.rows noted.frame.id))) b.rows kept
      (λ row is found own.
      own_slot setup (summary_in b) noted ends out sent back brings row.id own row.slot is.tidy (find b.rows noted.frame.id) (ap (find b.rows) (sym own) ∙ found.1)
      ∙ ap slot_of (same (find b.rows noted.frame.id)))
      (λ row apart. sent_elsewhere (summary_in b) noted row apart)

  -- and where it brings it nothing
  rows_same : ((k : Kept) → brought setup (summary_in b) noted ends out sent back brings k ≡ k) → map (row_behind setup false (summary_in b) (Sent noted)) b.rows ≡ b.rows
  rows_same same = all_stay (row_behind setup false (summary_in b) (Sent noted)) b.rows kept one
    where
      one : (row : Row) → IsRow row → row_behind setup false (summary_in b) (Sent noted) row ≡ row
      one row is = elim (cases_eq row.id noted.frame.id) [
        | inl own ↦
            ap (λ (x : Slot). record { id = row.id; slot = x }) (
            own_slot setup (summary_in b) noted ends out sent back brings row.id own row.slot is.tidy (kept_in row.slot) refl
            ∙ ap slot_of (same (kept_in row.slot))
            ∙ same_slot row.slot is.tidy)
        | inr apart ↦ row_stays setup false (summary_in b) (Sent noted) row is (sent_elsewhere (summary_in b) noted row apart)
      ]

-- ---- frames of header blocks

-- a frame of which a block is made is HEADERS or CONTINUATION
joined_of : (begun : Option Partial) (frame : Frame) (block : Partial) → joined begun frame ≡ Some block → IsOfBlock frame
joined_of None frame block is = cases (frame.kind == headers_kind) refl is
  where
    cases : (x : Bool) → (frame.kind == headers_kind) ≡ x → (if x then Some (record { id = frame.id; ends = ends_stream frame; fragments = content frame }) else None) ≡ Some block → IsOfBlock frame
    cases true same is = inl (eqb-true frame.kind headers_kind same)
    cases false same is = absurd (let no : None ≡ Some block = is in cc)
joined_of (Some begun) frame block is = cases (frame.kind == continuation_kind && frame.id == begun.id) refl is
  where
    cases : (x : Bool) → (frame.kind == continuation_kind && frame.id == begun.id) ≡ x → (if x then Some (record { id = begun.id; ends = begun.ends; fragments = begun.fragments ++ content frame }) else None) ≡ Some block → IsOfBlock frame
    cases true same is = inr (eqb-true frame.kind continuation_kind (and_parts (frame.kind == continuation_kind) (frame.id == begun.id) same).0)
    cases false same is = absurd (let no : None ≡ Some block = is in cc)

fragment_of : (frame : Frame) → IsOfBlock frame → IsFragment frame
fragment_of frame (inl headers) = of_headers frame headers
fragment_of frame (inr continuation) = of_continuation frame continuation

-- one that completes a block ends it
ends_it : (begun : Option Partial) (frame : Frame) (block : Partial) → completed_in begun frame ≡ Some block → (ends_headers frame ≡ true) × (joined begun frame ≡ Some block)
ends_it begun frame block is = cases (ends_headers frame) refl is
  where
    cases : (x : Bool) → ends_headers frame ≡ x → (if x then joined begun frame else None) ≡ Some block → (ends_headers frame ≡ true) × (joined begun frame ≡ Some block)
    cases true same is = (same, is)
    cases false same is = absurd (let no : None ≡ Some block = is in cc)

-- nothing is sent of windows with such frames, nor given back
no_octets : (frame : Frame) (test : Bool) → IsFragment frame → (if frame.kind == data_kind && test then length frame.payload else 0) ≡ 0
no_octets frame test of = ap (λ x. if x && test then length frame.payload else 0) of.no_data

no_increment : (frame : Frame) (test : Bool) → IsFragment frame → (if frame.kind == window_update_kind && test then increment frame else 0) ≡ 0
no_increment frame test of = ap (λ x. if x && test then increment frame else 0) of.no_update

-- a frame with which a block isn't complete
pub fragment_leads : (setup : Setup) (b : Book) (noted : Noted) (begun : Partial) → AreKept b.rows → ends_headers noted.frame ≡ false → joined b.block_out noted.frame ≡ Some begun
    → LeadsTo setup false b (Sent noted) (record (paid_of b noted.frame) { block_out = Some begun }) []
fragment_leads setup b noted begun kept goes is = record {
  book = sent_book setup b noted (Some begun) b.window b.room b.rows
      (ap (λ x. if x then None else joined b.block_out frame) goes ∙ is)
      (none_less b.window _ (no_octets frame true of))
      (none_more true b.room _ (no_increment frame (frame.id == 0) of))
      (rows_same setup b noted kept false false 0 0 brings same);
  owes = sent_owes setup b noted false brings.ended;
}
  where
    frame : Frame
    frame = noted.frame

    of : IsFragment noted.frame
    of = fragment_of noted.frame (joined_of b.block_out noted.frame begun is)

    none : completed_in b.block_out noted.frame ≡ None
    none = goes_on b.block_out noted.frame goes

    brings : Brings (summary_in b) noted false false 0 0
    brings = record {
      no_reset = of.no_reset;
      ended = ap (λ (o : Option Partial). ends_by o noted.frame) none ∙ ap (λ x. x && ends_stream noted.frame) of.no_data;
      head = ap (λ (o : Option Partial). list_any is_final (frame_items o noted)) none ∙ ap (λ x. list_any is_final (if x then Content (content noted.frame) (ends_stream noted.frame) ∷ [] else [])) of.no_data;
      exhausted = no_octets noted.frame (noted.frame.id == noted.frame.id) of;
      given = no_increment noted.frame (noted.frame.id == noted.frame.id) of;
    }

    same : (k : Kept) → brought setup (summary_in b) noted false false 0 0 brings k ≡ k
    same k =
        ap (λ n. record k { balance = n; room = k.room +ℤ pos 0; head_out = k.head_out || false }) (none_less k.balance 0 refl)
        ∙ ap (λ n. record k { room = n; head_out = k.head_out || false }) (none_more true k.room 0 refl)
        ∙ ap (λ x. record k { head_out = x }) (or-false k.head_out)

-- the last frame of a block
pub block_leads : (setup : Setup) (b : Book) (noted : Noted) (block : Partial) (fields : List Field) → AreKept b.rows → completed_in b.block_out noted.frame ≡ Some block → noted.note ≡ Fields fields
    → LeadsTo setup false b (Sent noted) (behind_head b noted.frame (is_final (Block fields block.ends)) block.ends) (early_reset b noted.frame.id block.ends)
block_leads setup b noted block fields kept is note = record {
  book = sent_book setup b noted None b.window b.room _
      (ap (λ x. if x then None else joined b.block_out noted.frame) whole.0)
      (none_less b.window _ (no_octets noted.frame true of))
      (none_more true b.room _ (no_increment noted.frame (noted.frame.id == 0) of))
      (rows_brought setup b noted kept block.ends final 0 0 brings (head_sent final block.ends) same);
  owes = sent_owes setup b noted block.ends brings.ended;
}
  where
    whole : (ends_headers noted.frame ≡ true) × (joined b.block_out noted.frame ≡ Some block)
    whole = ends_it b.block_out noted.frame block is

    of : IsFragment noted.frame
    of = fragment_of noted.frame (joined_of b.block_out noted.frame block whole.1)

    final : Bool
    final = is_final (Block fields block.ends)

    brings : Brings (summary_in b) noted block.ends final 0 0
    brings = record {
      no_reset = of.no_reset;
      ended = ap (λ (o : Option Partial). ends_by o noted.frame) is;
      head = ap (λ (o : Option Partial). list_any is_final (frame_items o noted)) is ∙ ap (λ (n : Note). list_any is_final (block_items block n)) note ∙ or-false (is_final (Block fields block.ends));
      exhausted = no_octets noted.frame (noted.frame.id == noted.frame.id) of;
      given = no_increment noted.frame (noted.frame.id == noted.frame.id) of;
    }

    same : (k : Kept) → brought setup (summary_in b) noted block.ends final 0 0 brings k ≡ head_sent final block.ends k
    same k =
        ap (λ n. record k { ended_by_gateway = block.ends || k.ended_by_gateway; balance = n; room = k.room +ℤ pos 0; head_out = k.head_out || final }) (none_less k.balance 0 refl)
        ∙ ap (λ n. record k { ended_by_gateway = block.ends || k.ended_by_gateway; room = n; head_out = k.head_out || final }) (none_more true k.room 0 refl)

-- ---- other frames, between blocks

module _ (setup : Setup) (b : Book) (noted : Noted) (kept : AreKept b.rows) (no_block : b.block_out ≡ None) (no_headers : (noted.frame.kind == headers_kind) ≡ false) (no_continuation : (noted.frame.kind == continuation_kind) ≡ false) where
  -- it completes none
  none : completed_in b.block_out noted.frame ≡ None
  none = completes_none b.block_out noted.frame no_headers no_continuation

  -- and begins none
  begins : begun_after b.block_out noted.frame ≡ b.block_out
  begins = ap (λ (o : Option Partial). begun_after o noted.frame) no_block ∙ begins_none noted.frame no_headers ∙ sym no_block

  -- it ends its stream where it is DATA that does
  ended_by : (has_data : Bool) → (noted.frame.kind == data_kind) ≡ has_data → ends_by (completed_in b.block_out noted.frame) noted.frame ≡ (has_data && ends_stream noted.frame)
  ended_by has_data is = ap (λ (o : Option Partial). ends_by o noted.frame) none ∙ ap (λ x. x && ends_stream noted.frame) is

  -- it has no head
  no_head : (has_data : Bool) → (noted.frame.kind == data_kind) ≡ has_data → list_any is_final (frame_items (completed_in b.block_out noted.frame) noted) ≡ false
  no_head has_data is =
      ap (λ (o : Option Partial). list_any is_final (frame_items o noted)) none
      ∙ ap (λ x. list_any is_final (if x then Content (content noted.frame) (ends_stream noted.frame) ∷ [] else [])) is
      ∙ either has_data
    where
      either : (x : Bool) → list_any is_final (if x then Content (content noted.frame) (ends_stream noted.frame) ∷ [] else []) ≡ false
      either true = refl
      either false = refl

pub data_leads : (setup : Setup) (b : Book) (noted : Noted) → AreKept b.rows → b.block_out ≡ None → noted.frame.kind ≡ data_kind → LeadsTo setup false b (Sent noted) (behind_data b noted.frame) (early_reset b noted.frame.id (ends_stream noted.frame))
data_leads setup b noted kept no_block kind = record {
  book = sent_book setup b noted b.block_out _ b.room _
      (begins setup b noted kept no_block (other headers_kind refl) (other continuation_kind refl))
      (ap (λ x. b.window -ℤ pos (if x && true then length noted.frame.payload else 0)) is_data)
      (none_more true b.room _ (ap (λ x. if x && noted.frame.id == 0 then increment noted.frame else 0) (other window_update_kind refl)))
      (rows_brought setup b noted kept (ends_stream noted.frame) false (length noted.frame.payload) 0 brings (data_sent (length noted.frame.payload) (ends_stream noted.frame)) same);
  owes = sent_owes setup b noted (ends_stream noted.frame) brings.ended;
}
  where
    is_data : (noted.frame.kind == data_kind) ≡ true
    is_data = ap (λ k. k == data_kind) kind

    other : (n : ℕ) → (data_kind == n) ≡ false → (noted.frame.kind == n) ≡ false
    other n is = ap (λ k. k == n) kind ∙ is

    own : (noted.frame.id == noted.frame.id) ≡ true
    own = eq-eqb noted.frame.id noted.frame.id refl

    brings : Brings (summary_in b) noted (ends_stream noted.frame) false (length noted.frame.payload) 0
    brings = record {
      no_reset = other rst_stream_kind refl;
      ended = ended_by setup b noted kept no_block (other headers_kind refl) (other continuation_kind refl) true is_data;
      head = no_head setup b noted kept no_block (other headers_kind refl) (other continuation_kind refl) true is_data;
      exhausted = ap (λ x. if x && noted.frame.id == noted.frame.id then length noted.frame.payload else 0) is_data ∙ ap (λ x. if x then length noted.frame.payload else 0) own;
      given = ap (λ x. if x && noted.frame.id == noted.frame.id then increment noted.frame else 0) (other window_update_kind refl);
    }

    same : (k : Kept) → brought setup (summary_in b) noted (ends_stream noted.frame) false (length noted.frame.payload) 0 brings k ≡ data_sent (length noted.frame.payload) (ends_stream noted.frame) k
    same k =
        let next : Kept = data_sent (length noted.frame.payload) (ends_stream noted.frame) k in
        ap (λ n. record next { room = n; head_out = k.head_out || false }) (none_more true k.room 0 refl) ∙ ap (λ x. record next { head_out = x }) (or-false k.head_out)

pub reset_leads : (setup : Setup) (b : Book) (noted : Noted) → AreKept b.rows → b.block_out ≡ None → noted.frame.kind ≡ rst_stream_kind → LeadsTo setup false b (Sent noted) (behind_reset b noted.frame) []
reset_leads setup b noted kept no_block kind = record {
  book = sent_book setup b noted b.block_out b.window b.room _
      (begins setup b noted kept no_block (other headers_kind refl) (other continuation_kind refl))
      (none_less b.window _ (ap (λ x. if x && true then length noted.frame.payload else 0) (other data_kind refl)))
      (none_more true b.room _ (ap (λ x. if x && noted.frame.id == 0 then increment noted.frame else 0) (other window_update_kind refl)))
      (one_changes setup false (summary_in b) (Sent noted) noted.frame.id (Over true) b.rows kept (λ row is found same. over row same) (λ row apart. sent_elsewhere (summary_in b) noted row apart));
  owes = sent_owes setup b noted false (ended_by setup b noted kept no_block (other headers_kind refl) (other continuation_kind refl) false (other data_kind refl));
}
  where
    other : (n : ℕ) → (rst_stream_kind == n) ≡ false → (noted.frame.kind == n) ≡ false
    other n is = ap (λ k. k == n) kind ∙ is

    over : (row : Row) → row.id ≡ noted.frame.id → slot_behind setup false (summary_in b) (Sent noted) row.id row.slot ≡ Over true
    over row same =
        let now : Kept = kept_behind setup false (summary_in b) (Sent noted) row.id (kept_in row.slot) in
        let us : now.reset_by_gateway ≡ true =
        ap (λ k. k == rst_stream_kind && noted.frame.id == row.id || (kept_in row.slot).reset_by_gateway) kind ∙ ap (λ x. x || (kept_in row.slot).reset_by_gateway) (eq-eqb noted.frame.id row.id (sym same)) in
        ap (λ x. if x || now.reset_by_client || now.ended_by_client && now.ended_by_gateway then Over now.reset_by_gateway else Live now) us ∙ ap Over us

-- ---- octets given back

pub update_leads : (setup : Setup) (b : Book) (noted : Noted) → AreKept b.rows → b.block_out ≡ None → noted.frame.kind ≡ window_update_kind → noted.frame.id ≡ 0 → LeadsTo setup false b (Sent noted) (behind_update b noted.frame) []
update_leads setup b noted kept no_block kind whole = record {
  book = sent_book setup b noted b.block_out b.window _ b.rows
      (begins setup b noted kept no_block (other headers_kind refl) (other continuation_kind refl))
      (none_less b.window _ (ap (λ x. if x && true then length noted.frame.payload else 0) (other data_kind refl)))
      (ap (λ k. b.room +ℤ pos (if k == window_update_kind && noted.frame.id == 0 then increment noted.frame else 0)) kind ∙ ap (λ n. b.room +ℤ pos (if n == 0 then increment noted.frame else 0)) whole)
      (all_stay (row_behind setup false (summary_in b) (Sent noted)) b.rows kept (λ row is. row_stays setup false (summary_in b) (Sent noted) row is (apart row is, refl)));
  owes = sent_owes setup b noted false (ended_by setup b noted kept no_block (other headers_kind refl) (other continuation_kind refl) false (other data_kind refl));
}
  where
    other : (n : ℕ) → (window_update_kind == n) ≡ false → (noted.frame.kind == n) ≡ false
    other n is = ap (λ k. k == n) kind ∙ is

    apart : (row : Row) → IsRow row → (noted.frame.id == row.id) ≡ false
    apart row is = ne_eqb noted.frame.id row.id (λ same. absurd (let no : true ≡ false = sym (eq-eqb row.id 0 (sym same ∙ whole)) ∙ is.of_stream in cc))

pub stream_update_leads : (setup : Setup) (b : Book) (noted : Noted) → AreKept b.rows → b.block_out ≡ None → noted.frame.kind ≡ window_update_kind → (noted.frame.id == 0) ≡ false → LeadsTo setup false b (Sent noted) (behind_stream_update b noted.frame) []
stream_update_leads setup b noted kept no_block kind of_stream = record {
  book = sent_book setup b noted b.block_out b.window b.room _
      (begins setup b noted kept no_block (other headers_kind refl) (other continuation_kind refl))
      (none_less b.window _ (ap (λ x. if x && true then length noted.frame.payload else 0) (other data_kind refl)))
      (none_more true b.room _ (zero_unless (noted.frame.kind == window_update_kind) (noted.frame.id == 0) (increment noted.frame) of_stream))
      (rows_brought setup b noted kept false false 0 (increment noted.frame) brings (given_back (increment noted.frame)) same);
  owes = sent_owes setup b noted false brings.ended;
}
  where
    other : (n : ℕ) → (window_update_kind == n) ≡ false → (noted.frame.kind == n) ≡ false
    other n is = ap (λ k. k == n) kind ∙ is

    brings : Brings (summary_in b) noted false false 0 (increment noted.frame)
    brings = record {
      no_reset = other rst_stream_kind refl;
      ended = ended_by setup b noted kept no_block (other headers_kind refl) (other continuation_kind refl) false (other data_kind refl);
      head = no_head setup b noted kept no_block (other headers_kind refl) (other continuation_kind refl) false (other data_kind refl);
      exhausted = ap (λ x. if x && noted.frame.id == noted.frame.id then length noted.frame.payload else 0) (other data_kind refl);
      given = ap (λ k. if k == window_update_kind && noted.frame.id == noted.frame.id then increment noted.frame else 0) kind ∙ ap (λ x. if x then increment noted.frame else 0) (eq-eqb noted.frame.id noted.frame.id refl);
    }

    same : (k : Kept) → brought setup (summary_in b) noted false false 0 (increment noted.frame) brings k ≡ given_back (increment noted.frame) k
    same k =
        let next : Kept = given_back (increment noted.frame) k in
        ap (λ n. record next { balance = n; head_out = k.head_out || false }) (none_less k.balance 0 refl) ∙ ap (λ x. record next { head_out = x }) (or-false k.head_out)

-- ---- frames beside responses

pub control_leads : (setup : Setup) (b : Book) (frame : Frame) → AreKept b.rows → b.block_out ≡ None → IsControl frame → LeadsTo setup false b (sending frame) (paid_of b frame) []
control_leads setup b frame kept no_block control = record {
  book = paying.book_stays setup b frame control no_block kept;
  owes = paying.owes_none setup b frame control;
}
