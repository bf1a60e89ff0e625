-- What comes of a frame that leaves its stream as it is: it is ignored, grants octets, has settings, is a PING, or is discarded.
use Rattle.std.proofs.Common.{◌≡◌, ℕ, Bool, true, false, not, ◌||◌, ◌==◌, List, [], Option, Some, refl, sym, ◌∙◌, ap, subst}
use Rattle.std.proofs.lemmas.Bool.{and_parts}
use Rattle.std.specs.Prelude.{is_some}
use Rattle.model.specs.Frames.{Frame, data_kind, rst_stream_kind}
use Rattle.model.specs.Logs.{Output}
use Rattle.model.specs.Setup.{Setup}
use Rattle.model.specs.Decoding.{Partial}
use Rattle.model.specs.WindowsOnTape.{is_any, data_length}
use Rattle.model.specs.Errors.Fault.{Discarded}
use Rattle.model.specs.ErrorClause.{is_fatal}
use Rattle.theory_errors.specs.Judging.{is_over_in}
use Rattle.theory_errors.specs.Owing.{fault_in, owes_in}
use Rattle.theory_errors.specs.Rows.{Row, find}
use Rattle.theory_errors.specs.Quiet.{noted_of, coming}
use Rattle.theory_errors.specs.Book.{Book, summary_in, book_after}
use Rattle.theory_errors.specs.Tidy.{AreKept}
use Rattle.theory_requests.specs.State.{Due}
use Rattle.header_blocks.specs.Encoding.{Encoding}
use Rattle.theory_header_tables.specs.State.{named_by}
use Rattle.theory_header_tables.specs.Verdicts.{verdict_in}
use Rattle.streams.specs.Asked.{has, is_active}
use Rattle.connection_state.specs.Inbound.{Inbound, Outside, book_of, told_of}
use Rattle.connection_state.specs.Judgement.{IsPlain, IsTaken, behind}
use Rattle.connection_state.specs.declared.answers.Judged.{Judged}
use Rattle.theory.specs.Moves.{Move}
use Rattle.theory.specs.State.{State}
use Rattle.theory.specs.Rule.{added_in}
use Rattle.theory.specs.Steps.{told_by}
use Rattle.refinement.specs.View.{View, balanced, Leads}
use Rattle.refinement.specs.Rest.{IsAtRest}
use Rattle.refinement.specs.Bringing.{Brings}
use Rattle.refinement.proofs.Gaining.{none_at_fault}
use Rattle.refinement.proofs.Owing.{idle_no_cause}
use Rattle.refinement.proofs.Answered.{plain_owes_at_fault}
use Rattle.refinement.proofs.Coming.{outside_of, encoding_with}
use Rattle.event_handlers.proofs.plain_frames.Streams.{none_completed, unchanged, over_calm, cause_kept}
use Rattle.event_handlers.proofs.plain_frames.Faults.{fault_names_none}
use Rattle.event_handlers.proofs.plain_frames.Standing.{active_not_discarded}
use Rattle.event_handlers.proofs.plain_frames.Coming.{Passes, kept_rows, passes_same, came}

-- a stream that is active isn't over
pub active_on : (rows : List Row) (id : ℕ) → is_active rows id ≡ true → is_over_in (find rows id) ≡ false
active_on rows id active = flipped (is_over_in (find rows id)) (and_parts (has rows id) (not (is_over_in (find rows id))) active).1
  where
    flipped : (x : Bool) → not x ≡ true → x ≡ false
    flipped false is = refl
    flipped true is = cc

module _ (setup : Setup) (old : View) (rest : IsAtRest old) (frame : Frame) (plain : IsPlain frame) (inbound : Inbound) (table : inbound.table ≡ old.inbound.table) where
  abbrev b : Book
  b = book_of (outside_of old.untaken) old.inbound

  -- what is told of the stream behind the frame, where the judgement leaves this
  same_told : (left : book_of (outside_of old.untaken) inbound ≡ behind setup b frame) → (is_active (book_after setup false b (coming frame)).rows frame.id ≡ is_active old.inbound.rows frame.id) × ((find (book_after setup false b (coming frame)).rows frame.id).outline.cause ≡ (find old.inbound.rows frame.id).outline.cause)
      → (is_active inbound.rows frame.id ≡ is_active old.inbound.rows frame.id) × ((find inbound.rows frame.id).outline.cause ≡ (find old.inbound.rows frame.id).outline.cause)
  same_told left same = subst (λ (rows : List Row). (is_active rows frame.id ≡ is_active old.inbound.rows frame.id) × ((find rows frame.id).outline.cause ≡ (find old.inbound.rows frame.id).outline.cause)) (sym (ap (λ (x : Book). x.rows) left)) same

  -- ---- without a fault

  module _ (answer : Judged) (taken : (outside : Outside) → IsTaken setup (book_of outside old.inbound) frame (book_of outside inbound) answer) where
    -- Where it is neither DATA nor RST_STREAM, and gains nothing by the answer, it comes and leaves all as it is but for settings.
    pub quiet : (frame.kind == data_kind) ≡ false → (frame.kind == rst_stream_kind) ≡ false → (owed : List Frame) (encoding : Encoding)
        → ((outside : Outside) → owes_in setup false (told_of outside old.inbound) (coming frame) ≡ owed)
        → ((outside : Outside) → encoding_with (named_by (verdict_in (told_of outside old.inbound) frame) frame) old.encoding ≡ encoding)
        → ((run : List Move) (s : State) → Leads setup run old balanced s → added_in setup (told_by s) (noted_of frame) ≡ []) → (outputs : List Output)
        → Brings setup old balanced outputs (coming frame) (record old { inbound = inbound; encoding = encoding }) (record balanced { owed = owed; fresh = data_length is_any frame }) outputs
    quiet no_data no_reset owed encoding owes encodes adds outputs =
        came setup old rest frame plain inbound table (taken (outside_of old.untaken)).left (λ outside. ap is_fatal (taken outside).faultless) owed Due.Nothing old.offers old.upstreams old.marks 0 encoding refl owes encodes passes outputs
      where
        passes : (run : List Move) (s : State) (leads : Leads setup run old balanced s) → Passes setup old rest frame plain inbound table (taken (outside_of old.untaken)).left (λ outside. ap is_fatal (taken outside).faultless) old.offers old.upstreams old.marks 0 Due.Nothing s
        passes run s leads =
            let kept : AreKept old.inbound.rows = kept_rows setup run old s leads in
            passes_same setup old rest frame plain inbound table (taken (outside_of old.untaken)).left (λ outside. ap is_fatal (taken outside).faultless) run s leads (adds run s leads)
            (same_told (taken (outside_of old.untaken)).left (unchanged setup b frame plain kept (λ active. (
              over_calm setup b frame plain kept no_reset no_data ∙ active_on old.inbound.rows frame.id active,
              cause_kept setup b frame plain kept (idle_no_cause setup (summary_in b) (noted_of frame) (taken (outside_of old.untaken)).faultless (ap (λ (o : Option Partial). is_some o || frame.kind == data_kind) (none_completed setup b frame plain kept) ∙ no_data)),
            ))))

    -- by the state's book
    pub taken_by : (run : List Move) (s : State) → Leads setup run old balanced s → IsTaken setup s.ledger.book frame (book_of (record { given = s.ledger.book.given; untaken = old.untaken }) inbound) answer
    taken_by run s leads = subst (λ (x : Book). IsTaken setup x frame (book_of (record { given = s.ledger.book.given; untaken = old.untaken }) inbound) answer) (sym leads.keeps.book) (taken (record { given = s.ledger.book.given; untaken = old.untaken }))

  -- ---- where it is discarded

  module _ (left : (outside : Outside) → book_of outside inbound ≡ behind setup (book_of outside old.inbound) frame) (discarded : (outside : Outside) → fault_in (told_of outside old.inbound) (coming frame) ≡ Some Discarded) where
    -- It comes, and nothing changes.
    pub passed_over : (outputs : List Output) → Brings setup old balanced outputs (coming frame) (record old { inbound = inbound }) (record balanced { fresh = data_length is_any frame }) outputs
    passed_over outputs =
        came setup old rest frame plain inbound table (left (outside_of old.untaken)) (λ outside. ap is_fatal (discarded outside)) [] Due.Nothing old.offers old.upstreams old.marks 0 old.encoding refl
        (λ outside. plain_owes_at_fault setup (book_of outside old.inbound) frame plain Discarded refl (discarded outside))
        (λ outside. fault_names_none (told_of outside old.inbound) frame Discarded refl (discarded outside) old.encoding)
        passes outputs
      where
        passes : (run : List Move) (s : State) (leads : Leads setup run old balanced s) → Passes setup old rest frame plain inbound table (left (outside_of old.untaken)) (λ outside. ap is_fatal (discarded outside)) old.offers old.upstreams old.marks 0 Due.Nothing s
        passes run s leads =
            let kept : AreKept old.inbound.rows = kept_rows setup run old s leads in
            passes_same setup old rest frame plain inbound table (left (outside_of old.untaken)) (λ outside. ap is_fatal (discarded outside)) run s leads
            (none_at_fault setup (told_by s) (noted_of frame) Discarded (ap (λ (x : Book). fault_in (summary_in x) (coming frame)) leads.keeps.book ∙ discarded (record { given = s.ledger.book.given; untaken = old.untaken })))
            (same_told (left (outside_of old.untaken)) (unchanged setup b frame plain kept (λ active. absurd (active_not_discarded b frame kept active (discarded (outside_of old.untaken))))))
