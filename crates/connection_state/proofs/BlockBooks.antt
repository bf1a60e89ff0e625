-- What comes of a whole header block on its stream, and so of the frame that completes it: the book that it leaves.
use Rattle.std.proofs.Common.{◌≡◌, Bool, true, false, ◌&&◌, ◌==◌, if◌then◌else◌, List, [], ◌∷◌, length, Option, Some, None, refl, sym, ◌∙◌, ap, inl, inr}
use Rattle.std.proofs.lemmas.Bool.{cases_Bool}
use Rattle.model.specs.Messages.{Field}
use Rattle.model.specs.Frames.{Frame, protocol_error}
use Rattle.model.specs.Setup.{Setup}
use Rattle.model.specs.Tapes.{Noted}
use Rattle.model.specs.Tapes.Entry.{Came}
use Rattle.model.specs.Tapes.Note.{Fields}
use Rattle.model.specs.Decoding.{Partial}
use Rattle.model.specs.Errors.{Fault, first_of, or_else}
use Rattle.model.specs.Errors.Fault.{Connection, Stream, Discarded}
use Rattle.model.specs.FrameErrors.{fault_if}
use Rattle.model.specs.StreamStates.{Standing, verdict}
use Rattle.model.specs.StreamStates.Standing.{Beyond}
use Rattle.model.specs.Lifetimes.{may_open}
use Rattle.model.specs.ErrorTable.{fault_of}
use Rattle.model.specs.ErrorClause.{is_fatal}
use Rattle.theory_errors.specs.Summary.{Stream as Kept}
use Rattle.theory_errors.specs.Judging.{completed_in, frame_rows_in, fault_for, is_crowded_in}
use Rattle.theory_errors.specs.Owing.{fault_in}
use Rattle.theory_errors.specs.Rows.{Row, fresh, find, slot_of, ids_of, rows_after}
use Rattle.theory_errors.specs.Rows.Slot.{Over}
use Rattle.theory_errors.specs.Book.{Book, summary_in}
use Rattle.theory_errors.specs.Tidy.{AreKept}
use Rattle.streams.specs.Asked as asked
use Rattle.streams.specs.Asked.{changed, active_in}
use Rattle.connection_state.specs.Judgement.{fault_told}
use Rattle.connection_state.specs.Blocks.{placed, kept_with, is_malformed_behind, opens_last, no_goaway, fault_with, AreLeft, SettlesBy}
use Rattle.connection_state.specs.Draining.{AreAsEver}
use Rattle.connection_state.specs.Fragments.{IsFragment, noted_behind, IsNotedLeft, IsNotedJudged}
use Rattle.connection_state.specs.declared.answers.FrameError.TheVariants as told
use Rattle.connection_state.specs.declared.answers.BlockJudged.{BlockJudged}
use Rattle.connection_state.specs.declared.answers.BlockJudged.TheVariants as judged
use Rattle.connection_state.proofs.BlockRows.{nothing_known}
use Rattle.connection_state.proofs.FragmentBooks.{heard_with, fragment_book}
use Rattle.connection_state.proofs.FragmentStreams.{late_fault, told_fault, discarded_rows, block_kept, opened_rows, known_rows}
use Rattle.connection_state.proofs.FragmentResets.{reset_known, reset_opened}
use Rattle.connection_state.proofs.Beyond.{last_as_ever}

module _ (setup : Setup) (b : Book) (frame : Frame) (fields : List Field) (of : IsFragment frame) (sound : first_of (frame_rows_in (summary_in b) frame) ≡ None) (block : Partial) (is_block : completed_in b.block frame ≡ Some block) (of_stream : (frame.id == 0) ≡ false) (kept : AreKept b.rows) where
  abbrev noted : Noted
  noted = record { frame = frame; note = Fields fields }

  -- whether too many octets are untaken
  abbrev crowded : Bool
  crowded = is_crowded_in (summary_in b)

  -- the fault by its stream's standing
  abbrev by_standing : Option Fault
  by_standing = fault_of (asked.verdict b.drained b.rows frame.id 1)

  -- where it opens the last stream, and its GOAWAY can't go out
  abbrev late : Option Fault
  late = no_goaway crowded b.rows frame.id

  -- where it stands undrained
  abbrev as_ever : Option Fault
  as_ever = fault_of (asked.verdict false b.rows frame.id 1)

  -- A block on an id that is beyond the last is discarded.
  pub beyond_judged : asked.standing b.drained b.rows frame.id ≡ Beyond → IsNotedJudged setup b noted (heard_with b frame b.rows) (judged.Failed told.Discarded)
  beyond_judged beyond =
      let discarded : by_standing ≡ Some Discarded = ap (λ (st : Standing). fault_of (verdict (length (active_in b.rows)) st 1)) beyond in
      let is : fault_in (summary_in b) (Came noted) ≡ Some Discarded =
      told_fault setup b frame fields of sound block is_block of_stream kept (find b.rows frame.id).outline
      ∙ ap (λ (o : Option Fault). or_else (first_of (o ∷ late_fault (summary_in b) frame.id ∷ [])) (fault_if (is_malformed_behind (find b.rows frame.id).outline fields block.ends) (Stream protocol_error))) discarded in
      record { is = is; left = sym (fragment_book setup b noted b.rows of (discarded_rows setup b frame fields of sound block is_block of_stream kept discarded) (ap is_fatal is)) }

  -- where it isn't, it stands as ever
  module _ (ever : AreAsEver b.drained b.rows frame.id) where
    standing_is : by_standing ≡ as_ever
    standing_is = ap (λ (st : Standing). fault_of (verdict (length (active_in b.rows)) st 1)) ever.stands

    -- the fault of the frame is that of its block
    fault_is : fault_in (summary_in b) (Came noted) ≡ fault_with crowded b.rows frame.id fields block.ends
    fault_is =
        told_fault setup b frame fields of sound block is_block of_stream kept (find b.rows frame.id).outline
        ∙ alone by_standing (late_fault (summary_in b) frame.id) later
        ∙ ap (λ (o : Option Fault). or_else o (or_else (late_fault (summary_in b) frame.id) later)) standing_is
        ∙ ap (λ x. or_else as_ever (or_else (fault_if (x && crowded) (Stream 11)) later)) (last_as_ever b.drained (ids_of b.rows) frame.id ever.opens)
      where
        later : Option Fault
        later = fault_if (is_malformed_behind (find b.rows frame.id).outline fields block.ends) (Stream protocol_error)

        alone : (o n later : Option Fault) → or_else (first_of (o ∷ n ∷ [])) later ≡ or_else o (or_else n later)
        alone None None later = refl
        alone None (Some g) later = refl
        alone (Some f) n later = refl

    -- what the fault of the block says of that by its stream's standing
    calm_by : (f : Option Fault) → fault_with crowded b.rows frame.id fields block.ends ≡ f → is_fatal f ≡ false → is_fatal by_standing ≡ false
    calm_by f is calm = ap is_fatal standing_is ∙ cases as_ever (or_else late (fault_if (is_malformed_behind (find b.rows frame.id).outline fields block.ends) (Stream protocol_error))) f is calm
      where
        cases : (o rest f : Option Fault) → or_else o rest ≡ f → is_fatal f ≡ false → is_fatal o ≡ false
        cases None rest f is calm = refl
        cases (Some g) rest f is calm = ap is_fatal is ∙ calm

    discarded_by : fault_with crowded b.rows frame.id fields block.ends ≡ Some Discarded → by_standing ≡ Some Discarded
    discarded_by is = standing_is ∙ cases as_ever (opens_last b.rows frame.id && crowded) (is_malformed_behind (find b.rows frame.id).outline fields block.ends) is
      where
        cases : (o : Option Fault) (y x : Bool) → or_else o (or_else (fault_if y (Stream 11)) (fault_if x (Stream protocol_error))) ≡ Some Discarded → o ≡ Some Discarded
        cases None true x is = absurd (let no : Some (Stream 11) ≡ Some Discarded = is in cc)
        cases None false true is = absurd (let no : Some (Stream protocol_error) ≡ Some Discarded = is in cc)
        cases None false false is = absurd (let no : None ≡ Some Discarded = is in cc)
        cases (Some g) y x is = is

    module _ (none_out : b.block_out ≡ None) where
      -- an error, and what it leaves
      pub failed : (fault : Fault) (rows : List Row) → fault_with crowded b.rows frame.id fields block.ends ≡ Some fault → AreLeft b.rows frame.id fault rows → IsNotedLeft setup b noted fault (heard_with b frame rows)
      failed (Connection code) rows is left = left
      failed (Stream code) rows is left = elim (cases_Bool (may_open false (ids_of b.rows) frame.id)) [
        | inl may ↦
            ap (heard_with b frame) (left ∙ ap (λ x. if x then record { id = frame.id; slot = Over true } ∷ b.rows else changed frame.id (Over true) b.rows) may)
            ∙ sym (reset_opened setup b frame fields of sound block is_block of_stream kept code none_out (calm_by (Some (Stream code)) is refl) (ever.opens ∙ may))
        | inr known ↦
            ap (heard_with b frame) (left ∙ ap (λ x. if x then record { id = frame.id; slot = Over true } ∷ b.rows else changed frame.id (Over true) b.rows) known)
            ∙ sym (reset_known setup b frame fields of sound block is_block of_stream kept code none_out (calm_by (Some (Stream code)) is refl) (ever.opens ∙ known))
      ]
      failed Discarded rows is left =
          ap (heard_with b frame) left
          ∙ sym (fragment_book setup b noted b.rows of (discarded_rows setup b frame fields of sound block is_block of_stream kept (discarded_by is)) (ap is_fatal (fault_is ∙ is)))

    module _ (faultless : fault_with crowded b.rows frame.id fields block.ends ≡ None) where
      -- no fault behind what the stream carried
      none_for : (k : Kept) → k ≡ find b.rows frame.id → fault_for k.outline (summary_in b) (Came noted) ≡ None
      none_for k is = ap (λ (x : Kept). fault_for x.outline (summary_in b) (Came noted)) is ∙ fault_is ∙ faultless

      -- the rows that it leaves
      pub rows_taken : rows_after setup false (summary_in b) (Came noted) b.rows ≡ placed b.rows frame.id (slot_of (kept_with setup (find b.rows frame.id) fields block.ends))
      rows_taken = elim (cases_Bool (may_open false (ids_of b.rows) frame.id)) [
        | inl may ↦
            let unknown : find b.rows frame.id ≡ fresh = nothing_known b.rows frame.id may in
            opened_rows setup b frame fields of sound block is_block of_stream kept (calm_by None faultless refl) (ever.opens ∙ may)
            ∙ ap (λ (k : Kept). record { id = frame.id; slot = slot_of k } ∷ b.rows) (block_kept setup b frame fields of sound block is_block of_stream kept fresh (none_for fresh (sym unknown)) ∙ ap (λ (k : Kept). kept_with setup k fields block.ends) (sym unknown))
            ∙ sym (ap (λ x. if x then record { id = frame.id; slot = slot_of (kept_with setup (find b.rows frame.id) fields block.ends) } ∷ b.rows else changed frame.id (slot_of (kept_with setup (find b.rows frame.id) fields block.ends)) b.rows) may)
        | inr known ↦
            known_rows setup b frame fields of sound block is_block of_stream kept (calm_by None faultless refl) (ever.opens ∙ known)
            ∙ ap (λ (k : Kept). changed frame.id (slot_of k) b.rows) (block_kept setup b frame fields of sound block is_block of_stream kept (find b.rows frame.id) (none_for (find b.rows frame.id) refl))
            ∙ sym (ap (λ x. if x then record { id = frame.id; slot = slot_of (kept_with setup (find b.rows frame.id) fields block.ends) } ∷ b.rows else changed frame.id (slot_of (kept_with setup (find b.rows frame.id) fields block.ends)) b.rows) known)
      ]

      pub book_taken : (rows : List Row) → rows ≡ placed b.rows frame.id (slot_of (kept_with setup (find b.rows frame.id) fields block.ends)) → heard_with b frame rows ≡ noted_behind setup b noted
      book_taken rows left = ap (heard_with b frame) left ∙ sym (fragment_book setup b noted _ of rows_taken (ap is_fatal (fault_is ∙ faultless)))

    -- So what comes of the block comes of the frame.
    pub judged_by : b.block_out ≡ None → (rows : List Row) (a : BlockJudged) → SettlesBy (fault_with crowded b.rows frame.id fields block.ends) setup b.rows frame.id fields block.ends rows a → IsNotedJudged setup b noted (heard_with b frame rows) a
    judged_by none_out rows (judged.Failed fault) s = record { is = fault_is ∙ s.0; left = failed none_out (fault_told fault) rows s.0 s.1 }
    judged_by none_out rows judged.GoesOn s = absurd s.1.says
    judged_by none_out rows (judged.Begins head route) s = record { faultless = fault_is ∙ s.0; left = book_taken s.0 rows s.1.left; says = (block, fields, is_block, refl, s.1.says) }
    judged_by none_out rows (judged.Answered cause) s = record { faultless = fault_is ∙ s.0; left = book_taken s.0 rows s.1.left; says = (block, fields, is_block, refl, s.1.says) }
    judged_by none_out rows (judged.Trailers trailers) s = record { faultless = fault_is ∙ s.0; left = book_taken s.0 rows s.1.left; says = (block, fields, is_block, refl, s.1.says) }
    judged_by none_out rows judged.Ignored s = record { faultless = fault_is ∙ s.0; left = book_taken s.0 rows s.1.left; says = (block, fields, is_block, refl, s.1.says) }
