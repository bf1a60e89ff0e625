-- What has to be so before the answer is acted on, and what comes of it, by where moves led.
use Rattle.std.proofs.Common.{◌≡◌, ℕ, ◌<◌, ◌≤◌, ◌⊎◌, Bool, true, false, if◌then◌else◌, List, length, Some, None, refl, sym, ◌∙◌, ap, subst, inl, inr, [], ◌∷◌}
use Rattle.model.specs.Messages.{Field}
use Rattle.model.specs.Frames.{Frame}
use Rattle.model.specs.Logs.{Output}
use Rattle.model.specs.Setup.{Setup}
use Rattle.model.specs.Limits.{most_streams}
use Rattle.model.specs.Tapes.Note.{Fields}
use Rattle.model.specs.Tapes.Entry.{Came}
use Rattle.model.specs.Causes.{reset_code, cause_if, are_large, cause_of_head}
use Rattle.model.specs.Causes.Cause.{LargeFields}
use Rattle.model.specs.Courses.{cause_of_block}
use Rattle.model.specs.ErrorClause.{is_fatal}
use Rattle.local_replies.specs.Views.{cause_of}
use Rattle.local_replies.specs.declared.cause.Cause.{Cause as Why}
use Rattle.theory_errors.specs.Judging.{is_over_in}
use Rattle.theory_errors.specs.Rows.{Row, ids_of, find}
use Rattle.theory_errors.specs.Book.{Book}
use Rattle.theory_errors.specs.Tidy.{AreKept}
use Rattle.theory_responses.specs.State as theory_responses
use Rattle.streams.specs.Asked.{is_active}
use Rattle.connection_state.specs.Inbound.{Inbound, told_of}
use Rattle.connection_state.specs.Fragments.{IsOfBlock, IsFragmentJudged}
use Rattle.connection_state.specs.declared.answers.FrameError.TheVariants as fault
use Rattle.connection_state.specs.declared.answers.BlockJudged.{BlockJudged}
use Rattle.connection_state.specs.declared.answers.BlockJudged.TheVariants as judged
use Rattle.theory.specs.Moves.{Move}
use Rattle.theory.specs.State.{State}
use Rattle.refinement.specs.View.{View, balanced, Leads}
use Rattle.refinement.specs.Rest.{IsAtRest}
use Rattle.refinement.proofs.Coming.{outside_of, inbound_behind}
use Rattle.refinement.proofs.Heads.{none_cut_behind, begun_if_out}
use Rattle.refinement.proofs.Resets.{inactive}
use Rattle.refinement.proofs.HeldFor.{go_on_so}
use Rattle.event_handlers.specs.block_frames.Following.{IsNewest, goaway_behind}
use Rattle.event_handlers.specs.Comings.{ComesFrom}
use Rattle.event_handlers.specs.Inputs.Input.{OfFrame}
use Rattle.event_handlers.specs.block_frames.Acting.{IsActed, MayAct, IsStopped}
use Rattle.event_handlers.specs.block_frames.Taken.{IsBlockTaken, IsOutlet}
use Rattle.event_handlers.specs.declared.block_frames.outlet.Outlet.{Outlet}
use Rattle.event_handlers.specs.declared.block_frames.taking.BlockTaken.{BlockTaken}
use Rattle.event_handlers.proofs.block_frames.Before.{left_is, kept_rows, few, not_half, box_there, newest_behind}
use Rattle.event_handlers.proofs.block_frames.Assembled.{reset_is, fatal_taken, stream_taken, discarded_taken, part_taken, ignored_taken, stream_stopped}
use Rattle.event_handlers.proofs.block_frames.Requests.{active, ended_is, begun_taken, may_end_then, ended_taken}
use Rattle.event_handlers.proofs.block_frames.Replies.{replied_taken, replied_stopped}

module _ (setup : Setup) (old : View) (rest : IsAtRest old) (run : List Move) (s : State) (leads : Leads setup run old balanced s) (frame : Frame) (of : IsOfBlock frame) (outlet : Outlet) where
  abbrev id : ℕ
  id = frame.id

  rows_are : AreKept old.inbound.rows
  rows_are = kept_rows setup old rest run s leads

  few_are : length (ids_of old.inbound.rows) ≤ most_streams
  few_are = few setup old rest run s leads

  half : is_over_in (find old.inbound.rows id) ≡ false → (find old.inbound.rows id).ended_by_gateway ≡ false
  half = not_half setup old rest run s leads id

  calm : (find old.inbound.rows id).outline.over ≡ false → (find old.inbound.rows id).outline.cause ≡ None
  calm =
      subst (λ (b : Book). (find b.rows id).outline.over ≡ false → (find b.rows id).outline.cause ≡ None) leads.keeps.book
      ((go_on_so setup run s leads.stands leads.so (ap (λ (b : Book). b.closed) leads.keeps.book)).no_cause id)

  -- a reply leaves no reset owed where no final head is out, or its cause has no code
  module _ (judging : Setup) (why : Why) (fields : List Field) (no_cause : (find old.inbound.rows id).outline.cause ≡ None) (because : cause_of_block judging (Rattle.theory_errors.specs.Summary.carried_in (find old.inbound.rows id).outline) (Fields fields) ≡ Some (cause_of why)) where
    pub none_cut_own : (k : theory_responses.Kept) → theory_responses.find id old.offers.kept ≡ Some k → ((find old.inbound.rows id).head_out ≡ false) ⊎ (reset_code (cause_of why) ≡ None) → (theory_responses.answered (cause_of why) k).cut ≡ false
    none_cut_own k found late = elim late [ inl out ↦ early out | inr coded ↦ by (find old.inbound.rows id).head_out refl coded ]
      where
        there : theory_responses.find id s.offers.kept ≡ Some k
        there = ap (λ (o : theory_responses.State). theory_responses.find id o.kept) leads.keeps.offers ∙ found

        early : (find old.inbound.rows id).head_out ≡ false → (theory_responses.answered (cause_of why) k).cut ≡ false
        early out = none_cut_behind setup run s leads.stands leads.so id k there (rest.none_cut id k found) (ap (λ (b : Book). (find b.rows id).head_out) leads.keeps.book ∙ out) (cause_of why)

        large : (b : Bool) → cause_if b LargeFields ≡ Some (cause_of why) → reset_code (cause_of why) ≡ None → (theory_responses.answered (cause_of why) k).cut ≡ false
        large true is coded = (let same : LargeFields ≡ cause_of why = cc in let no : reset_code LargeFields ≡ None = ap reset_code same ∙ coded in cc)
        large false is coded = cc

        by : (b : Bool) → (find old.inbound.rows id).head_out ≡ b → reset_code (cause_of why) ≡ None → (theory_responses.answered (cause_of why) k).cut ≡ false
        by false out coded = early out
        by true out coded =
            let begun : (find old.inbound.rows id).outline.begun ≡ true =
            ap (λ (b : Book). (find b.rows id).outline.begun) (sym leads.keeps.book)
            ∙ begun_if_out setup run s leads.stands leads.so id k there (rest.none_cut id k found) (ap (λ (b : Book). (find b.rows id).head_out) leads.keeps.book ∙ out) (ap (λ (b : Book). (find b.rows id).outline.cause) leads.keeps.book ∙ no_cause) in
            large (are_large fields) (sym (ap (λ b. if b then cause_if (are_large fields) LargeFields else cause_of_head judging fields) begun) ∙ because) coded

  -- ---- before the answer is acted on

  module _ (mid : Inbound) (outputs : List Output) (small : id < 2147483648) where
    abbrev mid_view : View
    mid_view = record old { inbound = mid }

    newest_if : (rows : List Row) → mid.rows ≡ rows → IsNewest (is_active rows id) id old.offers → IsNewest (is_active mid.rows id) id old.offers
    newest_if rows same is = subst (λ (rs : List Row). IsNewest (is_active rs id) id old.offers) (sym same) is

    newest_taken : (answer : BlockJudged) (is : IsFragmentJudged setup (outside_of old.untaken) old.inbound frame mid answer) → is_fatal (Rattle.theory_errors.specs.Owing.fault_in (told_of (outside_of old.untaken) old.inbound) (Came (record { frame = frame; note = is.note }))) ≡ false
        → mid ≡ inbound_behind setup old.untaken old.inbound (record { frame = frame; note = is.note }) is.next → IsNewest (is_active mid.rows id) id old.offers
    newest_taken answer is mild same =
        newest_if (inbound_behind setup old.untaken old.inbound (record { frame = frame; note = is.note }) is.next).rows (ap (λ (i : Inbound). i.rows) same)
        (newest_behind setup old rest run s leads (record { frame = frame; note = is.note }) is.next of mild is.is_noted is.read)

    -- An outbox may be made for the stream, where one is to be.
    pub newest : (answer : BlockJudged) → IsFragmentJudged setup (outside_of old.untaken) old.inbound frame mid answer → IsNewest (is_active mid.rows id) id old.offers
    newest (judged.Failed (fault.Connection code)) is = λ on none. absurd (let no : true ≡ false = sym (ap (λ (rows : List Row). is_active rows id) (sym is.judged.left) ∙ on) ∙ (sym (box_there setup old rest run s leads id) ∙ none) in cc)
    newest (judged.Failed (fault.Stream code)) is = λ on none.
        absurd (let no : true ≡ false = sym (ap (λ (i : Inbound). is_active i.rows id) (sym (reset_is setup old.untaken old.inbound mid (record { frame = frame; note = is.note }) is.next code rows_are is.judged.left is.stays is.table)) ∙ on) ∙ inactive id true (inbound_behind setup old.untaken old.inbound (record { frame = frame; note = is.note }) is.next).rows in cc)
    newest (judged.Failed fault.Discarded) is = newest_taken (judged.Failed fault.Discarded) is (ap is_fatal is.judged.is) (left_is setup old.untaken old.inbound mid (record { frame = frame; note = is.note }) is.next is.judged.left is.stays is.table)
    newest judged.GoesOn is = newest_taken judged.GoesOn is (ap is_fatal is.judged.faultless) (left_is setup old.untaken old.inbound mid (record { frame = frame; note = is.note }) is.next is.judged.left is.stays is.table)
    newest (judged.Begins head route) is = newest_taken (judged.Begins head route) is (ap is_fatal is.judged.faultless) (left_is setup old.untaken old.inbound mid (record { frame = frame; note = is.note }) is.next is.judged.left is.stays is.table)
    newest (judged.Answered why) is = newest_taken (judged.Answered why) is (ap is_fatal is.judged.faultless) (left_is setup old.untaken old.inbound mid (record { frame = frame; note = is.note }) is.next is.judged.left is.stays is.table)
    newest (judged.Trailers trailers) is = newest_taken (judged.Trailers trailers) is (ap is_fatal is.judged.faultless) (left_is setup old.untaken old.inbound mid (record { frame = frame; note = is.note }) is.next is.judged.left is.stays is.table)
    newest judged.Ignored is = newest_taken judged.Ignored is (ap is_fatal is.judged.faultless) (left_is setup old.untaken old.inbound mid (record { frame = frame; note = is.note }) is.next is.judged.left is.stays is.table)

    -- The answer may be acted on.
    pub may_act : (answer : BlockJudged) → IsFragmentJudged setup (outside_of old.untaken) old.inbound frame mid answer → MayAct id answer mid_view
    may_act (judged.Failed found) is = tt
    may_act judged.GoesOn is = tt
    may_act judged.Ignored is = tt
    may_act (judged.Begins head route) is =
        let says = is.judged.says in
        let same = left_is setup old.untaken old.inbound mid (record { frame = frame; note = is.note }) is.next is.judged.left is.stays is.table in
        record {
          active = ap (λ (i : Inbound). is_active i.rows id) same ∙ active setup old rest frame mid of rows_are few_are outputs small half calm (judged.Begins head route) is is.judged.faultless says.0 says.2 says.1 says.3;
          no_body = λ ended. says.4.2.no_body (sym (ended_is setup old rest frame mid of rows_are few_are outputs small half calm (judged.Begins head route) is is.judged.faultless says.0 says.2 says.1 says.3) ∙ (ap (λ (i : Inbound). (find i.rows id).ended_by_client) (sym same) ∙ ended));
        }
    may_act (judged.Answered why) is =
        let says = is.judged.says in
        let same = left_is setup old.untaken old.inbound mid (record { frame = frame; note = is.note }) is.next is.judged.left is.stays is.table in
        ap (λ (i : Inbound). is_active i.rows id) same ∙ active setup old rest frame mid of rows_are few_are outputs small half calm (judged.Answered why) is is.judged.faultless says.0 says.2 says.1 says.3
    may_act (judged.Trailers trailers) is = may_end_then setup old rest frame mid of rows_are few_are outputs small half calm trailers is run s leads

    -- ---- what comes of it, for any setup

    pub all_taken : (judging : Setup) → IsOutlet judging outlet → (answer : BlockJudged) → IsFragmentJudged judging (outside_of old.untaken) old.inbound frame mid answer → (result : BlockTaken) (new : View) (put_out : List Output) → IsActed id outlet answer (goaway_behind (length old.inbound.rows) mid.rows) mid_view outputs result new put_out → IsBlockTaken judging old outputs frame result new put_out
    all_taken judging passes (judged.Failed (fault.Connection code)) is result new put_out acted = fatal_taken judging old rest frame mid of rows_are few_are outputs small outlet code is result new put_out acted
    all_taken judging passes (judged.Failed (fault.Stream code)) is result new put_out acted = stream_taken judging old rest frame mid of rows_are few_are outputs small outlet code is result new put_out acted
    all_taken judging passes (judged.Failed fault.Discarded) is result new put_out acted = discarded_taken judging old rest frame mid of rows_are few_are outputs small outlet is result new put_out acted
    all_taken judging passes judged.GoesOn is result new put_out acted = part_taken judging old rest frame mid of rows_are few_are outputs small outlet is result new put_out acted
    all_taken judging passes judged.Ignored is result new put_out acted = ignored_taken judging old rest frame mid of rows_are few_are outputs small outlet is result new put_out acted
    all_taken judging passes (judged.Begins head route) is result new put_out acted = begun_taken judging old rest frame mid of rows_are few_are outputs small half calm outlet passes head route is result new put_out acted
    all_taken judging passes (judged.Trailers trailers) is result new put_out acted = ended_taken judging old rest frame mid of rows_are few_are outputs small half calm trailers is result new put_out acted
    all_taken judging passes (judged.Answered why) is result new put_out acted =
        replied_taken judging old rest frame mid of rows_are few_are outputs small half calm why is (none_cut_own judging why is.judged.says.1 is.judged.says.4.0 is.judged.says.4.1) result new put_out acted

    -- Where the connection was ended in place of what it calls for, this is right.
    pub all_stopped : (judging : Setup) (answer : BlockJudged) → IsFragmentJudged judging (outside_of old.untaken) old.inbound frame mid answer → (p : List Output) → IsStopped id answer (goaway_behind (length old.inbound.rows) mid.rows) mid_view outputs p → ComesFrom judging old balanced outputs (OfFrame frame ∷ []) balanced None p
    all_stopped judging (judged.Failed (fault.Connection code)) is p stopped = absurd stopped
    all_stopped judging (judged.Failed (fault.Stream code)) is p stopped = stream_stopped judging old rest frame mid of rows_are few_are outputs small outlet code is p stopped
    all_stopped judging (judged.Failed fault.Discarded) is p stopped = absurd stopped
    all_stopped judging judged.GoesOn is p stopped = absurd stopped
    all_stopped judging judged.Ignored is p stopped = absurd stopped
    all_stopped judging (judged.Begins head route) is p stopped = absurd stopped
    all_stopped judging (judged.Trailers trailers) is p stopped = absurd stopped
    all_stopped judging (judged.Answered why) is p stopped =
        replied_stopped judging old rest frame mid of rows_are few_are outputs small half calm why is (none_cut_own judging why is.judged.says.1 is.judged.says.4.0 is.judged.says.4.1) p stopped
