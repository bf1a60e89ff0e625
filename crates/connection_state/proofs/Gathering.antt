-- HEADERS and CONTINUATION that are right by themselves: what they go on with, and frames with which their block goes on (RFC 9113, section 4.3).
use Rattle.std.proofs.Common.{◌≡◌, ℕ, suc, ◌+◌, ◌<◌, ◌≤◌, Bool, true, false, not, ◌&&◌, ◌||◌, ◌==◌, ◌%◌, nat_lt, if◌then◌else◌, [], ◌∷◌, ◌++◌, length, Option, Some, None, refl, sym, ◌∙◌, ap, arith}
use Rattle.std.proofs.lemmas.Bool.{or_parts}
use Rattle.std.proofs.lemmas.Bool.Decides.{nat_tests}
use Rattle.std.proofs.lemmas.List.{length-append}
use Rattle.std.specs.Prelude.{is_some}
use Rattle.model.specs.Frames.{Frame, ends_headers, ends_stream, content, enhance_your_calm}
use Rattle.model.specs.Setup.{Setup}
use Rattle.model.specs.Decoding.{Partial, joined}
use Rattle.model.specs.Errors.{row_first_frame}
use Rattle.model.specs.Errors.Fault.{Connection}
use Rattle.model.specs.FrameErrors.{fault_if, is_between, is_misplaced, is_long}
use Rattle.model.specs.Limits.{longest_block, most_continuations}
use Rattle.model.specs.ErrorClause.{is_fatal}
use Rattle.theory_errors.specs.Summary.{Outline}
use Rattle.theory_errors.specs.Judging.{completed_in, fault_for, continuations_in, between_in, long_block_in, misplaced_in, payload_in}
use Rattle.theory_errors.specs.Rows.{find}
use Rattle.theory_errors.specs.Tidy.{AreKept}
use Rattle.theory_errors.specs.Quiet.{noted_of, coming}
use Rattle.connection_state.specs.Inbound.{Inbound, Outside, book_of, told_of}
use Rattle.connection_state.specs.Judgement.{behind}
use Rattle.connection_state.specs.Fragments.{IsFragment, Completes}
use Rattle.connection_state.proofs.Rows.{none_here, is_right}
use Rattle.connection_state.proofs.Answering.{IsSound, nothing}
use Rattle.theory_header_tables.specs.Verdicts.{verdict_in}
use Rattle.connection_state.proofs.FragmentFaults.{fragment_fault, none_before}
use Rattle.connection_state.proofs.FragmentBooks.{heard_with, fragment_rows, fragment_book}

-- ---- the type of such a frame

pub of_headers : (frame : Frame) → frame.kind ≡ 1 → IsFragment frame
of_headers frame kind = record { no_data = ap (λ k. k == 0) kind; no_reset = ap (λ k. k == 3) kind; no_update = ap (λ k. k == 8) kind; no_settings = ap (λ k. k == 4) kind }

pub of_continuation : (frame : Frame) → frame.kind ≡ 9 → IsFragment frame
of_continuation frame kind = record { no_data = ap (λ k. k == 0) kind; no_reset = ap (λ k. k == 3) kind; no_update = ap (λ k. k == 8) kind; no_settings = ap (λ k. k == 4) kind }

-- ---- what is begun before it

-- nothing before HEADERS
pub headers_first : (i : Inbound) (frame : Frame) → frame.kind ≡ 1 → IsSound i frame → i.block ≡ None
headers_first i frame kind sound = cases i.block (is_right (told_of nothing i) frame (sound nothing)).between
  where
    cases : (block : Option Partial) → is_between block frame ≡ false → block ≡ None
    cases None is = refl
    cases (Some begun) is = absurd (let no : true ≡ false = sym (ap (λ k. not (k == 9 && frame.id == begun.id)) kind) ∙ is in cc)

-- and they are on a stream
pub headers_of_stream : (i : Inbound) (frame : Frame) → frame.kind ≡ 1 → IsSound i frame → (frame.id == 0) ≡ false
headers_of_stream i frame kind sound =
    cases (frame.id == 0) (frame.id % 2 == 0) (ap (λ (k : ℕ). is_misplaced (record { kind = k; flags = frame.flags; id = frame.id; payload = frame.payload })) (sym kind) ∙ (is_right (told_of nothing i) frame (sound nothing)).placed)
  where
    cases : (x y : Bool) → (x || false || false || y) ≡ false → x ≡ false
    cases true y is = absurd (let no : true ≡ false = is in cc)
    cases false y is = refl

-- A block before CONTINUATION, of its stream.
pub record IsBegun (i : Inbound) (frame : Frame) : Type 0 where
  pub block : Partial
  pub is : i.block ≡ Some block
  pub same : (frame.id == block.id) ≡ true

pub continuation_later : (i : Inbound) (frame : Frame) → frame.kind ≡ 9 → IsSound i frame → IsBegun i frame
continuation_later i frame kind sound = cases i.block refl (is_right (told_of nothing i) frame (sound nothing)).between
  where
    cases : (block : Option Partial) → i.block ≡ block → is_between block frame ≡ false → IsBegun i frame
    cases None is between = absurd (let no : true ≡ false = sym (ap (λ k. k == 9) kind) ∙ between in cc)
    cases (Some begun) is between = record { block = begun; is = is; same = own (frame.id == begun.id) (sym (ap (λ k. not (k == 9 && frame.id == begun.id)) kind) ∙ between) }
      where
        own : (x : Bool) → not (true && x) ≡ false → x ≡ true
        own true is = refl
        own false is = absurd (let no : true ≡ false = is in cc)

-- the block that it goes on with
pub joined_with : (i : Inbound) (frame : Frame) → frame.kind ≡ 9 → (begun : IsBegun i frame) → joined i.block frame ≡ Some (record begun.block { fragments = begun.block.fragments ++ content frame })
joined_with i frame kind begun =
    ap (λ (o : Option Partial). joined o frame) begun.is
    ∙ ap (λ k. if k == 9 && frame.id == begun.block.id then Some (record begun.block { fragments = begun.block.fragments ++ content frame }) else None) kind
    ∙ ap (λ x. if x then Some (record begun.block { fragments = begun.block.fragments ++ content frame }) else None) begun.same

-- It isn't too long with it.
pub record IsShort (i : Inbound) (frame : Frame) (block : Partial) : Type 0 where
  pub octets : length block.fragments + length (content frame) ≤ longest_block
  pub frames : i.continuations < most_continuations

pub still_short : (i : Inbound) (frame : Frame) → frame.kind ≡ 9 → IsSound i frame → (begun : IsBegun i frame) → IsShort i frame begun.block
still_short i frame kind sound begun =
    let s = told_of nothing i in
    let a = none_here (row_first_frame s.has_come frame) (None ∷ between_in s frame ∷ long_block_in s frame ∷ misplaced_in frame ∷ payload_in frame ∷ []) (sound nothing) in
    let b = none_here (between_in s frame) (long_block_in s frame ∷ misplaced_in frame ∷ payload_in frame ∷ []) a.1 in
    let c = none_here (long_block_in s frame) (misplaced_in frame ∷ payload_in frame ∷ []) b.1 in
    let parts = or_parts (is_long (joined i.block frame)) (nat_lt most_continuations (continuations_in i.continuations frame)) (unless (is_long (joined i.block frame) || nat_lt most_continuations (continuations_in i.continuations frame)) c.0) in
    let octets : nat_lt longest_block (length (begun.block.fragments ++ content frame)) ≡ false = ap is_long (sym (joined_with i frame kind begun)) ∙ parts.0 in
    let frames : nat_lt most_continuations (suc i.continuations) ≡ false = ap (λ k. nat_lt most_continuations (if k == 9 then suc i.continuations else 0)) (sym kind) ∙ parts.1 in
    record {
      octets = grind (arith, nat_tests, octets, length-append begun.block.fragments (content frame));
      frames = grind (arith, nat_tests, frames);
    }
  where
    unless : (x : Bool) → fault_if x (Connection enhance_your_calm) ≡ None → x ≡ false
    unless true none = absurd (let no : Some (Connection enhance_your_calm) ≡ None = none in cc)
    unless false none = refl

-- ---- a frame with which a block goes on

pub goes_on : (begun : Option Partial) (frame : Frame) → ends_headers frame ≡ false → completed_in begun frame ≡ None
goes_on begun frame is = ap (λ x. if x then joined begun frame else None) is

pub gathered_fault : (i : Inbound) (frame : Frame) → IsFragment frame → ends_headers frame ≡ false → IsSound i frame → (outside : Outside) (outline : Outline) → fault_for outline (told_of outside i) (coming frame) ≡ None
gathered_fault i frame of is sound outside outline = fragment_fault (told_of outside i) (noted_of frame) of (sound outside) (goes_on i.block frame is) refl outline

pub gathered_book : (i : Inbound) (frame : Frame) → IsFragment frame → ends_headers frame ≡ false → IsSound i frame → AreKept i.rows → (setup : Setup) (outside : Outside)
    → behind setup (book_of outside i) frame ≡ record (heard_with (book_of outside i) frame i.rows) { block = joined i.block frame }
gathered_book i frame of is sound kept setup outside =
    fragment_book setup (book_of outside i) (noted_of frame) i.rows of
    (fragment_rows setup (told_of outside i) (noted_of frame) of (goes_on i.block frame is) (gathered_fault i frame of is sound outside) i.rows kept)
    (ap is_fatal (gathered_fault i frame of is sound outside (find i.rows frame.id).outline))
    ∙ ap (λ x. record (heard_with (book_of outside i) frame i.rows) { block = if x then None else joined i.block frame }) is

-- ---- what the decoder is asked

-- a frame that is right by itself is no error before its block is read
pub no_error_before : (i : Inbound) (frame : Frame) → IsFragment frame → IsSound i frame → (outside : Outside) → (verdict_in (told_of outside i) frame).is_error ≡ false
no_error_before i frame of sound outside = ap is_some (none_before (told_of outside i) (noted_of frame) of (sound outside))

-- The book behind HEADERS whose block goes on.
pub first_book : (i : Inbound) (frame : Frame) → frame.kind ≡ 1 → ends_headers frame ≡ false → IsSound i frame → AreKept i.rows → (setup : Setup) (outside : Outside) (begun : Option Partial) → begun ≡ Some (record { id = frame.id; ends = ends_stream frame; fragments = content frame })
    → record (book_of outside i) { has_come = true; block = begun; continuations = 0; last = frame.id } ≡ behind setup (book_of outside i) frame
first_book i frame kind is sound kept setup outside begun begun_is =
    ap (λ (o : Option Partial). record (book_of outside i) { has_come = true; block = o; continuations = 0; last = frame.id }) (begun_is ∙ sym first)
    ∙ ap (λ n. record (book_of outside i) { has_come = true; block = joined i.block frame; continuations = n; last = frame.id }) (sym (ap (λ k. if k == 9 then suc i.continuations else 0) kind))
    ∙ sym (gathered_book i frame (of_headers frame kind) is sound kept setup outside)
  where
    first : joined i.block frame ≡ Some (record { id = frame.id; ends = ends_stream frame; fragments = content frame })
    first =
        ap (λ (o : Option Partial). joined o frame) (headers_first i frame kind sound)
        ∙ ap (λ k. if k == 1 then Some (record { id = frame.id; ends = ends_stream frame; fragments = content frame }) else None) kind

-- The book behind a CONTINUATION whose block goes on.
pub more_book : (i : Inbound) (frame : Frame) → frame.kind ≡ 9 → ends_headers frame ≡ false → IsSound i frame → AreKept i.rows → (setup : Setup) (outside : Outside) (by : IsBegun i frame) (begun : Option Partial) (count : ℕ)
    → begun ≡ Some (record by.block { fragments = by.block.fragments ++ content frame }) → count ≡ suc i.continuations
    → record (book_of outside i) { has_come = true; block = begun; continuations = count; last = frame.id } ≡ behind setup (book_of outside i) frame
more_book i frame kind is sound kept setup outside by begun count begun_is count_is =
    ap (λ (o : Option Partial). record (book_of outside i) { has_come = true; block = o; continuations = count; last = frame.id }) (begun_is ∙ sym (joined_with i frame kind by))
    ∙ ap (λ n. record (book_of outside i) { has_come = true; block = joined i.block frame; continuations = n; last = frame.id }) (count_is ∙ sym (ap (λ k. if k == 9 then suc i.continuations else 0) kind))
    ∙ sym (gathered_book i frame (of_continuation frame kind) is sound kept setup outside)

-- ---- a frame that completes a block

-- HEADERS that are a whole block
pub headers_complete : (i now : Inbound) (frame : Frame) → frame.kind ≡ 1 → ends_headers frame ≡ true → IsSound i frame → now ≡ record i { continuations = 0 } → Completes i now frame (record { id = frame.id; ends = ends_stream frame; fragments = content frame })
headers_complete i now frame kind ends sound is = record {
  of = of_headers frame kind;
  is_block =
      ap (λ x. if x then joined i.block frame else None) ends
      ∙ ap (λ (o : Option Partial). joined o frame) (headers_first i frame kind sound)
      ∙ ap (λ k. if k == 1 then Some (record { id = frame.id; ends = ends_stream frame; fragments = content frame }) else None) kind;
  sound = sound;
  same =
      is
      ∙ ap (λ (o : Option Partial). record i { block = o; continuations = 0 }) (headers_first i frame kind sound)
      ∙ ap (λ n. record i { block = None; continuations = n }) (sym (ap (λ k. if k == 9 then suc i.continuations else 0) kind));
}

-- the last CONTINUATION
pub continuation_completes : (i now : Inbound) (frame : Frame) → frame.kind ≡ 9 → ends_headers frame ≡ true → IsSound i frame → (by : IsBegun i frame) → now ≡ record i { block = None; continuations = suc i.continuations } → Completes i now frame (record by.block { fragments = by.block.fragments ++ content frame })
continuation_completes i now frame kind ends sound by is = record {
  of = of_continuation frame kind;
  is_block = ap (λ x. if x then joined i.block frame else None) ends ∙ joined_with i frame kind by;
  sound = sound;
  same = is ∙ ap (λ n. record i { block = None; continuations = n }) (sym (ap (λ k. if k == 9 then suc i.continuations else 0) kind));
}

-- the id of a block that is begun
abbrev pub id_of : Option Partial → ℕ
id_of None = 0
id_of (Some block) = block.id
