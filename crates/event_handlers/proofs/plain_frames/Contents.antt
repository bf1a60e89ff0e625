-- Octets of a request's body: they wait with it, or end it, and then the whole request is due; or they go out, where it does, or are dropped with
-- it.
use Rattle.std.proofs.Common.{◌≡◌, ℕ, ◌+◌, Bool, true, false, not, ◌&&◌, ◌||◌, ◌==◌, if◌then◌else◌, List, [], ◌++◌, length, Option, Some, None, refl, sym, ◌∙◌, ap, subst}
use Rattle.std.proofs.lemmas.Bool.{and_parts}
use Rattle.std.specs.Prelude.{is_none, is_some}
use Rattle.model.specs.Messages.Item.{Content}
use Rattle.model.specs.Malformed.{has_length, is_within, is_malformed_content}
use Rattle.model.specs.Frames.{Frame, data_kind, content, ends_stream, protocol_error}
use Rattle.model.specs.Logs.{Output}
use Rattle.model.specs.Setup.{Setup}
use Rattle.model.specs.Causes.{Cause}
use Rattle.model.specs.Decoding.{Partial}
use Rattle.model.specs.Errors.{first_of}
use Rattle.model.specs.Errors.Fault.{Stream}
use Rattle.model.specs.ErrorTable.{is_malformed}
use Rattle.model.specs.WindowsOnTape.{is_any, data_length}
use Rattle.model.specs.ErrorClause.{is_fatal}
use Rattle.theory_errors.specs.Summary.{carried_in, Stream as Kept}
use Rattle.theory_errors.specs.Judging.{is_over_in, rows_in, malformed_in, completed_in}
use Rattle.theory_errors.specs.Owing.{fault_in, owes_in}
use Rattle.theory_errors.specs.Rows.{Row, find}
use Rattle.theory_errors.specs.Quiet.{noted_of, coming}
use Rattle.theory_errors.specs.Book.{Book, summary_in, book_after}
use Rattle.h1_writer.specs.Sending.{Stage}
use Rattle.h1_writer.specs.Sending.Stage.{Whole as WholeText}
use Rattle.theory_responses.specs.State as theory_responses
use Rattle.theory_requests.specs.Rule.{IsServing}
use Rattle.theory_requests.specs.State as theory_requests
use Rattle.theory_requests.specs.Lines.{least_idle}
use Rattle.theory_requests.specs.State.{Held, Way, Due, is_whole, held_of, held_with}
use Rattle.theory_requests.specs.State.Way.{Waiting, Going, Dropped}
use Rattle.streams.specs.Asked.{has, is_active}
use Rattle.connection_state.specs.Inbound.{Inbound, Outside, book_of, told_of}
use Rattle.connection_state.specs.Judgement.{IsPlain, IsTaken}
use Rattle.connection_state.specs.Judgement as connection_state
use Rattle.connection_state.specs.declared.answers.Judged.{Judged}
use Rattle.upstream_connections.specs.Kept as upstreams
use Rattle.upstream_connections.specs.Requests.{MayTake, MayTakeOf, Gathers, IsPassed, TakesBy}
use Rattle.upstream_connections.specs.Requests.{Takes as TakesOf}
use Rattle.upstream_connections.specs.Connections.{lives}
use Rattle.theory.specs.Moves.{Addition, Move, gained, told_in}
use Rattle.theory.specs.Coming.{IsGained}
use Rattle.theory.specs.Moves.Decision.{Takes}
use Rattle.theory.specs.State.{State}
use Rattle.theory.specs.Rule.{added_in, Adds}
use Rattle.theory.specs.Steps.{told_by, told_behind}
use Rattle.refinement.specs.Additions.{GoesOn}
use Rattle.refinement.specs.Ways.{GoesBy, IsHeldFor}
use Rattle.refinement.specs.View.{View, balanced, Leads}
use Rattle.refinement.specs.Rest.{IsAtRest}
use Rattle.refinement.specs.Bringing.{Brings}
use Rattle.refinement.proofs.Kept.{change_none}
use Rattle.refinement.proofs.HeldFor.{go_on_so, held_for}
use Rattle.window_credit.specs.Sides.{unless_over}
use Rattle.window_credit.specs.Standing.{dropped_of}
use Rattle.refinement.proofs.Coming.{outside_of, change_between, offers_with, told_of_rows}
use Rattle.event_handlers.specs.plain_frames.Acting.{goes_on}
use Rattle.event_handlers.proofs.plain_frames.Streams.{none_completed, change_is_none}
use Rattle.event_handlers.proofs.plain_frames.Standing.{of_rows}
use Rattle.event_handlers.proofs.plain_frames.Begun.{begun_where}
use Rattle.event_handlers.proofs.plain_frames.Coming.{Passes, kept_rows, passes_same, came}
use Rattle.event_handlers.proofs.plain_frames.Bodies.{above_zero, active_goes_on, second_none, none_if, mild, names, was_active, is_active_now, found_now}

flipped : (x : Bool) → not x ≡ true → x ≡ false
flipped false is = refl
flipped true is = cc

-- DATA that is right ends a body of the length that was declared
right_length : (within ends right : Bool) → (not within || ends && not right) ≡ false → ends ≡ true → right ≡ true
right_length within ends true is last = refl
right_length false ends false is last = cc
right_length true true false is last = cc
right_length true false false is last = cc

right_within : (within ends right : Bool) → (not within || ends && not right) ≡ false → within ≡ true
right_within true ends right is = refl
right_within false ends right is = cc

module _ (setup : Setup) (old : View) (rest : IsAtRest old) (frame : Frame) (plain : IsPlain frame) (inbound : Inbound) (table : inbound.table ≡ old.inbound.table) (answer : Judged) (taken : (outside : Outside) → IsTaken setup (book_of outside old.inbound) frame (book_of outside inbound) answer) (kind : frame.kind ≡ data_kind)
    (octets : List ℕ) (ends : Bool) (octets_are : octets ≡ content frame) (ends_is : ends ≡ ends_stream frame) (same_cause : connection_state.cause_behind setup (book_of (outside_of old.untaken) old.inbound) frame ≡ connection_state.cause_before (book_of (outside_of old.untaken) old.inbound) frame) where
  abbrev b : Book
  b = book_of (outside_of old.untaken) old.inbound

  abbrev k : Kept
  k = find old.inbound.rows frame.id

  abbrev of_state : State → Outside
  of_state s = record { given = s.ledger.book.given; untaken = old.untaken }

  -- the stream is as it was
  stream_same : (run : List Move) (s : State) → Leads setup run old balanced s → (is_active inbound.rows frame.id ≡ is_active old.inbound.rows frame.id) × ((find inbound.rows frame.id).outline.cause ≡ k.outline.cause)
  stream_same run s leads = (
    is_active_now setup old rest frame plain inbound table answer taken kind run s leads ∙ sym (was_active setup old rest frame plain inbound table answer taken kind run s leads),
    ap (λ (x : Kept). x.outline.cause) (found_now setup old rest frame plain inbound table answer taken kind run s leads) ∙ same_cause,
  )

  offers_same : (run : List Move) (s : State) → Leads setup run old balanced s → offers_with frame.id (change_between old.inbound.rows inbound.rows frame.id) old.offers ≡ old.offers
  offers_same run s leads =
      let rows : inbound.rows ≡ (book_after setup false b (coming frame)).rows = ap (λ (x : Book). x.rows) (taken (outside_of old.untaken)).left in
      let there = subst (λ (rows : List Row). (is_active rows frame.id ≡ is_active old.inbound.rows frame.id) × ((find rows frame.id).outline.cause ≡ k.outline.cause)) rows (stream_same run s leads) in
      ap (λ (rows : List Row). offers_with frame.id (change_between old.inbound.rows rows frame.id) old.offers) rows
      ∙ ap (λ (c : theory_responses.Change). offers_with frame.id c old.offers) (change_is_none setup b frame plain (kept_rows setup run old s leads) there)
      ∙ ap (λ (ks : List theory_responses.Kept). record old.offers { kept = ks }) (change_none frame.id old.offers.kept)

  -- nothing that waits of its DATA goes
  change_same : (run : List Move) (s : State) → Leads setup run old balanced s → (change_between old.inbound.rows inbound.rows frame.id).over ≡ false
  change_same run s leads =
      let rows : inbound.rows ≡ (book_after setup false b (coming frame)).rows = ap (λ (x : Book). x.rows) (taken (outside_of old.untaken)).left in
      let there = subst (λ (rows : List Row). (is_active rows frame.id ≡ is_active old.inbound.rows frame.id) × ((find rows frame.id).outline.cause ≡ k.outline.cause)) rows (stream_same run s leads) in
      ap (λ (rows : List Row). (change_between old.inbound.rows rows frame.id).over) rows
      ∙ ap (λ (c : theory_responses.Change). c.over) (change_is_none setup b frame plain (kept_rows setup run old s leads) there)

  module _ (owes : (outside : Outside) → owes_in setup false (told_of outside old.inbound) (coming frame) ≡ []) (additions : (run : List Move) (s : State) → Leads setup run old balanced s → (GoesOn (told_by s) frame.id → Adds setup (told_by s) (noted_of frame) (Content octets ends)) × (((told_by s).stream frame.id).outline.over ≡ true → added_in setup (told_by s) (noted_of frame) ≡ [])) where
    abbrev mild_so : (outside : Outside) → is_fatal (fault_in (told_of outside old.inbound) (coming frame)) ≡ false
    mild_so = mild setup old rest frame plain inbound table answer taken kind

    passes_with : (upstream : upstreams.State) (due : Due) → upstream.live ≡ old.upstreams.live → ((run : List Move) (s : State) → Leads setup run old balanced s → Passes setup old rest frame plain inbound table (taken (outside_of old.untaken)).left mild_so old.offers upstream old.marks 0 due s) → (outputs : List Output)
        → Brings setup old balanced outputs (coming frame) (record old { inbound = inbound; upstreams = upstream }) (record balanced { due = due; fresh = data_length is_any frame }) outputs
    passes_with upstream due live passes outputs =
        came setup old rest frame plain inbound table (taken (outside_of old.untaken)).left mild_so [] due old.offers upstream old.marks 0 old.encoding live owes (names setup old rest frame plain inbound table answer taken kind) passes outputs

    -- ---- where nothing more of the request is looked at

    pub left_alone : goes_on old.inbound.rows frame.id ≡ false → (outputs : List Output) → Brings setup old balanced outputs (coming frame) (record old { inbound = inbound }) (record balanced { fresh = data_length is_any frame }) outputs
    left_alone none outputs =
        passes_with old.upstreams Due.Nothing refl
        (λ run s leads.
        passes_same setup old rest frame plain inbound table (taken (outside_of old.untaken)).left mild_so run s leads
        ((additions run s leads).1 (ap (λ (x : Book). (find x.rows frame.id).outline.over) leads.keeps.book ∙ over k.outline.over (sym (ap (λ x. x && not k.outline.over) (was_active setup old rest frame plain inbound table answer taken kind run s leads)) ∙ none)))
        (stream_same run s leads))
        outputs
      where
        over : (x : Bool) → not x ≡ false → x ≡ true
        over true is = refl
        over false is = cc

    -- ---- where it goes on

    module _ (on : goes_on old.inbound.rows frame.id ≡ true) where
      not_over : k.outline.over ≡ false
      not_over = flipped k.outline.over (and_parts (is_active old.inbound.rows frame.id) (not k.outline.over) on).1

      module _ (run : List Move) (s : State) (leads : Leads setup run old balanced s) where
        open_yet : s.ledger.book.closed ≡ false
        open_yet = ap (λ (x : Book). x.closed) leads.keeps.book

        over_there : (find s.ledger.book.rows frame.id).outline.over ≡ false
        over_there = ap (λ (x : Book). (find x.rows frame.id).outline.over) leads.keeps.book ∙ not_over

        active_there : is_active s.ledger.book.rows frame.id ≡ true
        active_there = ap (λ (x : Book). is_active x.rows frame.id) leads.keeps.book ∙ was_active setup old rest frame plain inbound table answer taken kind run s leads

        cause_there : (find s.ledger.book.rows frame.id).outline.cause ≡ None
        cause_there = (go_on_so setup run s leads.stands leads.so open_yet).no_cause frame.id over_there

        no_cause : k.outline.cause ≡ None
        no_cause = ap (λ (x : Book). (find x.rows frame.id).outline.cause) (sym leads.keeps.book) ∙ cause_there

        -- its request is held
        held : IsHeldFor k.outline frame.id s.requests.held
        held =
            subst (λ (x : Book). IsHeldFor (find x.rows frame.id).outline frame.id s.requests.held) leads.keeps.book
            (held_for setup run s leads.stands leads.so open_yet (ap (λ (r : theory_requests.State). r.due) leads.keeps.requests) frame.id (begun_where setup run s leads.stands frame.id active_there over_there) over_there)

        held_is : s.requests.held ≡ old.upstreams.held
        held_is = ap (λ (r : theory_requests.State). r.held) leads.keeps.requests

        abbrev of_stream : Held
        of_stream = record { id = frame.id; way = held.way }

        held_found : held_of frame.id old.upstreams.held ≡ Some of_stream
        held_found = ap (λ (hs : List Held). held_of frame.id hs) (sym held_is) ∙ held.found

        -- it makes no request malformed
        fine : is_malformed_content (carried_in k.outline) octets ends ≡ false
        fine =
            ap (λ (xs : List ℕ). is_malformed_content (carried_in k.outline) xs ends) octets_are
            ∙ ap (λ x. is_malformed_content (carried_in k.outline) (content frame) x) ends_is
            ∙ sym (
            ap (λ (o : Option Cause). not (is_some o) && is_malformed (carried_in k.outline) (completed_in old.inbound.block frame) (noted_of frame)) no_cause
            ∙ ap (λ (o : Option Partial). is_malformed (carried_in k.outline) o (noted_of frame)) (none_completed setup b frame plain (kept_rows setup run old s leads))
            ∙ ap (λ n. n == data_kind && is_malformed_content (carried_in k.outline) (content frame) (ends_stream frame)) kind)
            ∙ row
          where
            row : (not (is_some k.outline.cause) && is_malformed (carried_in k.outline) (completed_in old.inbound.block frame) (noted_of frame)) ≡ false
            row = none_if _ (Stream protocol_error) (second_none (first_of (rows_in (summary_in b) (noted_of frame))) (malformed_in k.outline (summary_in b) (coming frame)) (taken (outside_of old.untaken)).faultless)

        -- octets keep within what was declared, and those that end the body reach it
        within : is_within k.outline.declared (k.outline.octets + length octets) ≡ true
        within = right_within (is_within k.outline.declared (k.outline.octets + length octets)) ends (has_length k.outline.declared (k.outline.octets + length octets)) fine

        length_right : ends ≡ true → has_length k.outline.declared (k.outline.octets + length octets) ≡ true
        length_right last = right_length (is_within k.outline.declared (k.outline.octets + length octets)) ends (has_length k.outline.declared (k.outline.octets + length octets)) fine last

        -- So they may come of what is held.
        pub may_take : MayTakeOf octets ends (held_of frame.id old.upstreams.held)
        may_take = subst (MayTakeOf octets ends) (sym held_found) (by held.way held.goes)
          where
            by : (way : Way) → GoesBy k.outline way → MayTake octets ends way
            by (Waiting route text stage body) goes = λ last. goes.may_end octets (length_right last)
            by (Going number stage) goes = record {
              keep = goes.keep;
              parts = goes.parts;
              ended = false;
              text = goes.text;
              pieces = goes.pieces;
              sending = goes.sending;
              may_push = goes.may_push octets within;
              has_length = λ last. goes.full octets (length_right last);
            }
            by Dropped goes = tt

        -- the stream is served behind the frame
        serves : (addition : Addition) → IsServing (told_in (told_behind setup s (Takes (noted_of frame) old.inbound.table addition))) (noted_of frame)
        serves addition =
            subst (λ (x : Book). IsServing (told_in (summary_in x)) (noted_of frame)) (sym behind)
            (record {
              counted = above_zero frame.id (of_rows old.inbound.rows frame.id (kept_rows setup run old s leads) (and_parts (has old.inbound.rows frame.id) (not (is_over_in k)) (was_active setup old rest frame plain inbound table answer taken kind run s leads)).0);
              served = ap (λ x. x && is_none (find inbound.rows frame.id).outline.cause) (is_active_now setup old rest frame plain inbound table answer taken kind run s leads) ∙ ap (λ (o : Option Cause). is_none o) ((stream_same run s leads).1 ∙ no_cause);
              goes_on = active_goes_on (of_state s) inbound frame.id (is_active_now setup old rest frame plain inbound table answer taken kind run s leads);
            })
          where
            behind : book_after setup false s.ledger.book (coming frame) ≡ book_of (of_state s) inbound
            behind = ap (λ (x : Book). book_after setup false x (coming frame)) leads.keeps.book ∙ sym (taken (of_state s)).left

        adds : Adds setup (told_by s) (noted_of frame) (Content octets ends)
        adds = (additions run s leads).0 (record { not_over = over_there; no_cause = cause_there })

        abbrev upstream_then : List Held → upstreams.State
        upstream_then hs = record old.upstreams { held = hs }

        -- It comes with what it gains, where that leaves this.
        passes_by : (due : Due) (hs : List Held) (addition : Addition) → IsGained setup (told_behind setup s (Takes (noted_of frame) old.inbound.table addition)) s (noted_of frame) addition
            → theory_requests.after setup (told_of_rows inbound) (upstreams.with_due old.upstreams Due.Nothing) (gained (noted_of frame) addition) ≡ upstreams.with_due (upstream_then hs) due
            → Passes setup old rest frame plain inbound table (taken (outside_of old.untaken)).left mild_so old.offers (upstream_then hs) old.marks 0 due s
        passes_by due hs addition right requests = record {
          addition = addition;
          right = right;
          requests = requests;
          on_offer = offers_same run s leads;
          marked = ap (λ x. unless_over x frame.id old.marks) (change_same run s leads);
          returned = ap (λ x. dropped_of x frame.id old.marks) (change_same run s leads);
        }

        -- ---- it waits

        waiting_passes : (route : ℕ) (text : List ℕ) (stage : Stage) (body : List ℕ) → is_whole stage ≡ false → held_of frame.id s.requests.held ≡ Some (record { id = frame.id; way = Waiting route text stage body })
            → (last : Bool) → ends ≡ last → (due : Due) (next : Option Way) (hs : List Held) → Gathers (lives old.upstreams.live) frame.id octets [] last route text stage body due next → hs ≡ held_with frame.id next old.upstreams.held
            → Passes setup old rest frame plain inbound table (taken (outside_of old.untaken)).left mild_so old.offers (upstream_then hs) old.marks 0 due s
        waiting_passes route text stage body part found false more due next hs gathers held_then =
            passes_by due hs addition_now
            (subst (λ x. Adds setup (told_by s) (noted_of frame) (Content octets x)) more adds, record { serving = serves addition_now; found = found; gathered = (refl, refl) })
            (ap (λ x. let r : theory_requests.State = record { held = held_with frame.id (if x then None else Some (Waiting route text stage (body ++ octets))) old.upstreams.held; live = lives old.upstreams.live; due = theory_requests.to_open x (least_idle route (lives old.upstreams.live)) frame.id route (text ++ []) stage; count = old.upstreams.count } in r) part
            ∙ ap (λ (hs : List Held). upstreams.with_due (upstream_then hs) Due.Nothing) (ap (λ (o : Option Way). held_with frame.id o old.upstreams.held) (sym gathers.1) ∙ sym held_then)
            ∙ ap (λ (d : Due). upstreams.with_due (upstream_then hs) d) (sym gathers.0))
          where
            addition_now : Addition
            addition_now = Addition.Gathers (Content octets false) route text stage body [] stage
        waiting_passes route text stage body part found true last due next hs gathers held_then =
            passes_by due hs addition_now
            (subst (λ x. Adds setup (told_by s) (noted_of frame) (Content octets x)) last adds, record { serving = serves addition_now; found = found; gathered = (gathers.0.continues, refl) })
            (ap (λ (hs : List Held). upstreams.with_due (upstream_then hs) (theory_requests.to_begin (least_idle route (lives old.upstreams.live)) frame.id route (text ++ gathers.0.written) WholeText)) (ap (λ (o : Option Way). held_with frame.id o old.upstreams.held) (sym gathers.1) ∙ sym held_then)
            ∙ ap (λ (d : Due). upstreams.with_due (upstream_then hs) d) (sym gathers.0.due_is))
          where
            addition_now : Addition
            addition_now = Addition.Gathers (Content octets true) route text stage body gathers.0.written WholeText

        -- ---- it goes out

        going_passes : (number : ℕ) (stage : Stage) → held_of frame.id s.requests.held ≡ Some (record { id = frame.id; way = Going number stage })
            → (due : Due) (next : Option Way) (hs : List Held) → IsPassed octets [] ends number stage due next → hs ≡ held_with frame.id next old.upstreams.held
            → Passes setup old rest frame plain inbound table (taken (outside_of old.untaken)).left mild_so old.offers (upstream_then hs) old.marks 0 due s
        going_passes number stage found due next hs passed held_then =
            passes_by due hs addition_now
            (adds, record { serving = serves addition_now; found = found; continues = passed.continues; whole = passed.whole })
            (ap (λ (hs : List Held). upstreams.with_due (upstream_then hs) (theory_requests.to_send number passed.written)) (ap (λ (o : Option Way). held_with frame.id o old.upstreams.held) (sym passed.next_is) ∙ sym held_then)
            ∙ ap (λ (d : Due). upstreams.with_due (upstream_then hs) d) (sym passed.due_is))
          where
            addition_now : Addition
            addition_now = Addition.Passes (Content octets ends) number stage passed.written passed.stage

        -- ---- what comes of it is dropped

        dropped_passes : held_of frame.id s.requests.held ≡ Some (record { id = frame.id; way = Dropped }) → (due : Due) (hs : List Held) → due ≡ Due.Nothing → hs ≡ old.upstreams.held
            → Passes setup old rest frame plain inbound table (taken (outside_of old.untaken)).left mild_so old.offers (upstream_then hs) old.marks 0 due s
        dropped_passes found due hs nothing same =
            passes_by due hs (Addition.Drops (Content octets ends)) (adds, record { serving = serves (Addition.Drops (Content octets ends)); found = found })
            (ap (λ (hs : List Held). upstreams.with_due (upstream_then hs) Due.Nothing) (sym same) ∙ ap (λ (d : Due). upstreams.with_due (upstream_then hs) d) (sym nothing))

        content_passes : (due : Due) (hs : List Held) → TakesOf (lives old.upstreams.live) frame.id octets [] ends old.upstreams.held (held_of frame.id old.upstreams.held) due hs → Passes setup old rest frame plain inbound table (taken (outside_of old.untaken)).left mild_so old.offers (upstream_then hs) old.marks 0 due s
        content_passes due hs takes = by held.way held.found held.goes (subst (λ (o : Option Held). TakesOf (lives old.upstreams.live) frame.id octets [] ends old.upstreams.held o due hs) held_found takes)
          where
            by : (way : Way) → held_of frame.id s.requests.held ≡ Some (record { id = frame.id; way = way }) → GoesBy k.outline way → TakesBy (lives old.upstreams.live) frame.id octets [] ends old.upstreams.held way due hs
                → Passes setup old rest frame plain inbound table (taken (outside_of old.untaken)).left mild_so old.offers (upstream_then hs) old.marks 0 due s
            by (Waiting route text stage body) found goes takes = waiting_passes route text stage body goes.part found ends refl due takes.0 hs takes.1 takes.2
            by (Going number stage) found goes takes = going_passes number stage found due takes.0 hs takes.1 takes.2
            by Dropped found goes takes = dropped_passes found due hs takes.0 takes.1

      -- Octets of its body are taken.
      pub content_comes : (due : Due) (hs : List Held) → TakesOf (lives old.upstreams.live) frame.id octets [] ends old.upstreams.held (held_of frame.id old.upstreams.held) due hs → (outputs : List Output)
          → Brings setup old balanced outputs (coming frame) (record old { inbound = inbound; upstreams = record old.upstreams { held = hs } }) (record balanced { due = due; fresh = data_length is_any frame }) outputs
      content_comes due hs takes outputs = passes_with (record old.upstreams { held = hs }) due refl (λ run s leads. content_passes run s leads due hs takes) outputs
