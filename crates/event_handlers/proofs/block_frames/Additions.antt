-- A request begins, or ends with trailers: what that brings.
use Rattle.std.proofs.Common.{◌≡◌, ℕ, ◌+◌, Bool, true, false, not, ◌&&◌, ◌||◌, ◌==◌, if◌then◌else◌, List, [], ◌∷◌, ◌++◌, Option, Some, None, refl, sym, ◌∙◌, ap, subst, arith}
use Rattle.std.specs.Prelude.{is_none, is_some}
use Rattle.std.proofs.lemmas.Bool.{or_parts, eqb-false}
use Rattle.model.specs.Messages.{Field}
use Rattle.model.specs.Messages.Item.{Block}
use Rattle.model.specs.Http2.{passed_trailers}
use Rattle.model.specs.Frames.{Frame}
use Rattle.model.specs.Logs.{Output}
use Rattle.model.specs.Malformed.{is_malformed_block, are_trailers, has_length}
use Rattle.model.specs.Setup.{Setup}
use Rattle.model.specs.Tables.{Table}
use Rattle.model.specs.Tapes.{Note, Noted}
use Rattle.model.specs.Tapes.Note.{Fields}
use Rattle.model.specs.Tapes.Entry.{Came}
use Rattle.model.specs.Causes.{Cause, are_large, cause_if}
use Rattle.model.specs.Causes.Cause.{LargeFields}
use Rattle.model.specs.Courses.{cause_of_block}
use Rattle.model.specs.Decoding.{Partial, is_read}
use Rattle.model.specs.Errors.{Fault, first_of, or_else}
use Rattle.model.specs.ErrorClause.{is_fatal}
use Rattle.model.specs.FrameErrors.{fault_if}
use Rattle.model.specs.ErrorTable.{is_malformed}
use Rattle.h1_writer.specs.Sending.{Stage}
use Rattle.h1_writer.specs.Sending.Stage.{Whole}
use Rattle.local_replies.specs.Openings.{GoesOn}
use Rattle.theory_errors.specs.Summary.{Outline, Summary, carried_in}
use Rattle.theory_errors.specs.Judging.{completed_in, rows_in, malformed_in}
use Rattle.theory_errors.specs.Owing.{fault_in, owes_in}
use Rattle.theory_errors.specs.Rows.{find}
use Rattle.theory_errors.specs.Book.{Book, summary_in, book_after}
use Rattle.theory_responses.specs.State as theory_responses
use Rattle.theory_responses.specs.Rule.{found_by}
use Rattle.theory_requests.specs.Lines.{least_idle}
use Rattle.theory_requests.specs.State as theory_requests
use Rattle.theory_requests.specs.State.{Held, Way, Due, held_of, held_with, goes_now, waits_from, is_whole}
use Rattle.theory_requests.specs.State.Due.{Nothing}
use Rattle.theory_requests.specs.State.Way.{Waiting, Going, Dropped}
use Rattle.theory_requests.specs.Rule.{IsServing}
use Rattle.theory_header_tables.specs.Rule.{IsNoted}
use Rattle.theory_header_tables.specs.Verdicts.{verdict_in}
use Rattle.streams.specs.Asked.{is_active}
use Rattle.streams.specs.Sending.{is_served}
use Rattle.connection_state.specs.Inbound.{Inbound, book_of, told_of}
use Rattle.connection_state.specs.Fragments.{IsOfBlock}
use Rattle.upstream_connections.specs.Kept as upstreams
use Rattle.upstream_connections.specs.Kept.{with_due, Begins}
use Rattle.upstream_connections.specs.Requests.{Gathers, IsPassed, TakesBy}
use Rattle.upstream_connections.specs.Connections.{lives}
use Rattle.upstream_connections.specs.Requests.{Takes as TakesOf}
use Rattle.theory.specs.Moves.{Addition, Move, gained, told_in}
use Rattle.theory.specs.Moves.Decision.{Takes}
use Rattle.theory.specs.State.{State}
use Rattle.theory.specs.Rule.{Adds, AddsHead}
use Rattle.theory.specs.Coming.{IsGained}
use Rattle.theory.specs.Steps.{told_by, told_behind}
use Rattle.refinement.specs.View.{View, balanced, Leads, waiting_for}
use Rattle.refinement.specs.Rest.{IsAtRest}
use Rattle.refinement.specs.Bringing.{Course, Brings}
use Rattle.refinement.specs.Ways.{IsHeldFor}
use Rattle.refinement.proofs.Coming.{outside_of, inbound_behind, change_between, offers_with, told_of_rows}
use Rattle.event_handlers.specs.block_frames.Taken.{IsOutlet}
use Rattle.event_handlers.specs.declared.block_frames.outlet.Outlet.{Outlet}
use Rattle.event_handlers.specs.block_frames.Following.{offers_if, held_if, marks_if, dropped_if, dropped_by, followed}
use Rattle.event_handlers.proofs.block_frames.Lists.{offers_followed}
use Rattle.event_handlers.proofs.block_frames.Streams.{goes_on_with}
use Rattle.event_handlers.proofs.block_frames.Before.{box_there, leads_there}

module _ (setup : Setup) (old : View) (rest : IsAtRest old) (noted : Noted) (next : Table) (of : IsOfBlock noted.frame) (mild : is_fatal (fault_in (told_of (outside_of old.untaken) old.inbound) (Came noted)) ≡ false)
    (is_noted : IsNoted (completed_in old.inbound.block noted.frame) (verdict_in (told_of (outside_of old.untaken) old.inbound) noted.frame).is_error old.inbound.table noted.note next) (read : is_read noted.note ≡ false → (verdict_in (told_of (outside_of old.untaken) old.inbound) noted.frame).is_error ≡ true)
    (counted : (noted.frame.id == 0) ≡ false) (active : is_active (inbound_behind setup old.untaken old.inbound noted next).rows noted.frame.id ≡ true) (no_cause : (find (inbound_behind setup old.untaken old.inbound noted next).rows noted.frame.id).outline.cause ≡ None) where
  abbrev id : ℕ
  id = noted.frame.id

  abbrev behind : Inbound
  behind = inbound_behind setup old.untaken old.inbound noted next

  abbrev behind_view : View
  behind_view = record old { inbound = behind }

  served : is_served behind.rows id ≡ true
  served = ap (λ b. b && is_none (find behind.rows id).outline.cause) active ∙ ap (λ (c : Option Cause). is_none c) no_cause

  -- the stream is served behind the frame, and the connection goes on
  serving_now : (g : Addition) (run : List Move) (s : State) → Leads setup run old balanced s → IsServing (told_in (told_behind setup s (Takes noted next g))) noted
  serving_now g run s leads = subst (λ (b : Book). IsServing (told_in (summary_in (book_after setup false b (Came noted)))) noted) (sym leads.keeps.book) (record {
    counted = (let some = eqb-false id 0 counted in omega (arith, some));
    served = served;
    goes_on = goes_on_with (summary_in (book_after setup false (book_of (outside_of old.untaken) old.inbound) (Came noted))) id mild active;
  })

  followed_there : (run : List Move) (s : State) → Leads setup run old balanced s → offers_with id (change_between old.inbound.rows behind.rows id) old.offers ≡ offers_if (is_active behind.rows id) id old.offers
  followed_there run s leads =
      ap (λ (c : Option Cause). offers_with id (record { opens = not (is_active old.inbound.rows id) && is_active behind.rows id; over = is_active old.inbound.rows id && not (is_active behind.rows id); caused = c }) old.offers) (none_found (find old.inbound.rows id).outline.cause)
      ∙ offers_followed (is_active old.inbound.rows id) (is_active behind.rows id) id old.offers (box_there setup old rest run s leads id)
    where
      none_found : (c : Option Cause) → found_by c (find behind.rows id).outline.cause ≡ None
      none_found None = no_cause
      none_found (Some cause) = refl

  -- ---- a request begins

  module _ (fields : List Field) (ends : Bool) (route : ℕ) (adds : AddsHead setup (told_of (outside_of old.untaken) old.inbound) noted (Block fields ends)) where
    pub brings_begun : (outlet : Outlet) → IsOutlet setup outlet → (owed : List Frame) → owes_in setup false (told_of (outside_of old.untaken) old.inbound) (Came noted) ≡ owed → (parts : Rattle.request_rules.specs.Heads.HeadParts) → GoesOn setup fields ends parts route
        → (due : Due) (new : upstreams.State) → Begins (followed id behind_view).upstreams id route outlet.keep parts ends outlet.at_once due new
        → (outputs : List Output) → Brings setup old balanced outputs (Came noted) (record (followed id behind_view) { upstreams = new }) (record balanced { owed = owed; due = due; shared = dropped_by id behind_view }) outputs
    brings_begun outlet as_set owed owes parts goes due new begun outputs run s leads =
        leads_there setup old rest run s leads noted next of mild is_noted read gained_by is_so owed due (offers_if (is_active behind.rows id) id old.offers) new
        (ap (λ (u : upstreams.State). u.live) begun.kept) owes (followed_there run s leads) requests outputs
      where
        gained_by : Addition
        gained_by = Addition.Begins fields ends route begun.text begun.stage

        is_so : IsGained setup (told_behind setup s (Takes noted next gained_by)) s noted gained_by
        is_so = (
          subst (λ (b : Book). AddsHead setup (summary_in b) noted (Block fields ends)) (sym leads.keeps.book) (record { first = adds.first; adds = record { adds = adds.adds.adds; goes_on = adds.adds.goes_on } }),
          record {
            serving = serving_now gained_by run s leads;
            by_route = goes.by_route;
            sending =
                subst (λ (p : Rattle.request_rules.specs.Heads.HeadParts). Rattle.h1_writer.specs.Sending.Sending setup.keep p ends begun.text [] [] begun.stage) goes.parts
                (subst (λ keep. Rattle.h1_writer.specs.Sending.Sending keep parts ends begun.text [] [] begun.stage) as_set.keep begun.sending);
            whole = begun.whole;
          },
        )

        goes_so : goes_now setup begun.stage ≡ (outlet.at_once || ends)
        goes_so = ap (λ b. b || is_whole begun.stage) (sym as_set.at_once) ∙ ap (λ b. outlet.at_once || b) begun.whole

        requests : theory_requests.after setup (told_of_rows behind) (with_due old.upstreams Nothing) (theory_requests.Move.Begins noted fields ends route begun.text begun.stage) ≡ with_due new due
        requests =
            ap (λ b. record (with_due old.upstreams Nothing) { held = held_with id (waits_from b (Waiting route begun.text begun.stage [])) old.upstreams.held; due = theory_requests.to_open b (least_idle route (lives old.upstreams.live)) id route begun.text begun.stage }) goes_so
            ∙ ap (λ (d : Due). record (with_due old.upstreams Nothing) { held = held_with id (waits_from (outlet.at_once || ends) (Waiting route begun.text begun.stage [])) old.upstreams.held; due = d }) (sym begun.due_is)
            ∙ ap (λ b. record (with_due old.upstreams due) { held = held_with id (waits_from (outlet.at_once || ends) (Waiting route begun.text begun.stage [])) (held_if b id old.upstreams.held) }) (sym served)
            ∙ ap (λ (u : upstreams.State). with_due u due) (sym begun.kept)

  -- ---- trailers end one

  module _ (fields : List Field) (adds : Adds setup (told_of (outside_of old.untaken) old.inbound) noted (Block fields true)) (was : is_active old.inbound.rows id ≡ true)
      (run : List Move) (s : State) (leads : Leads setup run old balanced s) (held : IsHeldFor (find old.inbound.rows id).outline id old.upstreams.held) (owed : List Frame) (owes : owes_in setup false (told_of (outside_of old.untaken) old.inbound) (Came noted) ≡ owed) (outputs : List Output) where
    abbrev upstream_then : List Held → upstreams.State
    upstream_then hs = record old.upstreams { held = hs }

    held_there : s.requests.held ≡ old.upstreams.held
    held_there = ap (λ (r : theory_requests.State). r.held) leads.keeps.requests

    adds_there : Adds setup (told_by s) noted (Block fields true)
    adds_there = subst (λ (b : Book). Adds setup (summary_in b) noted (Block fields true)) (sym leads.keeps.book) (record { adds = adds.adds; goes_on = adds.goes_on })

    stays : offers_if (is_active behind.rows id) id old.offers ≡ old.offers
    stays =
        ap (λ b. offers_if b id old.offers) active
        ∙ ap (λ b. if b then old.offers else record old.offers { kept = old.offers.kept ++ theory_responses.blank id ∷ [] }) (box_there setup old rest run s leads id ∙ was)

    -- it comes with what it gains, where that leaves this
    ends_by : (due : Due) (hs : List Held) (addition : Addition) → IsGained setup (told_behind setup s (Takes noted next addition)) s noted addition
        → theory_requests.after setup (told_of_rows behind) (with_due old.upstreams Nothing) (gained noted addition) ≡ with_due (upstream_then hs) due
        → Course setup run s outputs (Came noted) (record behind_view { upstreams = upstream_then hs }) (record balanced { owed = owed; due = due }) outputs
    ends_by due hs addition is_so requests =
        subst (λ b. Course setup run s outputs (Came noted) (record behind_view { upstreams = upstream_then hs; marks = marks_if b id old.marks }) (record balanced { owed = owed; due = due; shared = dropped_if b (waiting_for id old) }) outputs) active
        (leads_there setup old rest run s leads noted next of mild is_noted read addition is_so owed due old.offers (upstream_then hs) refl owes (followed_there run s leads ∙ stays) requests outputs)

    ended_waiting : (route : ℕ) (text : List ℕ) (stage : Stage) (body : List ℕ) → held_of id s.requests.held ≡ Some (record { id = id; way = Waiting route text stage body })
        → (due : Due) (after : Option Way) (hs : List Held) → Gathers (lives old.upstreams.live) id [] (passed_trailers fields) true route text stage body due after → hs ≡ held_with id after old.upstreams.held
        → Course setup run s outputs (Came noted) (record behind_view { upstreams = upstream_then hs }) (record balanced { owed = owed; due = due }) outputs
    ended_waiting route text stage body found due after hs gathers held_then =
        ends_by due hs addition_now
        (adds_there, record { serving = serving_now addition_now run s leads; found = found; gathered = (gathers.0.continues, refl) })
        (ap (λ (hs : List Held). with_due (upstream_then hs) (theory_requests.to_begin (least_idle route (lives old.upstreams.live)) id route (text ++ gathers.0.written) Whole)) (ap (λ (o : Option Way). held_with id o old.upstreams.held) (sym gathers.1) ∙ sym held_then)
        ∙ ap (λ (d : Due). with_due (upstream_then hs) d) (sym gathers.0.due_is))
      where
        addition_now : Addition
        addition_now = Addition.Gathers (Block fields true) route text stage body gathers.0.written Whole

    ended_going : (number : ℕ) (stage : Stage) → held_of id s.requests.held ≡ Some (record { id = id; way = Going number stage })
        → (due : Due) (after : Option Way) (hs : List Held) → IsPassed [] (passed_trailers fields) true number stage due after → hs ≡ held_with id after old.upstreams.held
        → Course setup run s outputs (Came noted) (record behind_view { upstreams = upstream_then hs }) (record balanced { owed = owed; due = due }) outputs
    ended_going number stage found due after hs passed held_then =
        ends_by due hs addition_now
        (adds_there, record { serving = serving_now addition_now run s leads; found = found; continues = passed.continues; whole = passed.whole })
        (ap (λ (hs : List Held). with_due (upstream_then hs) (theory_requests.to_send number passed.written)) (ap (λ (o : Option Way). held_with id o old.upstreams.held) (sym passed.next_is) ∙ sym held_then)
        ∙ ap (λ (d : Due). with_due (upstream_then hs) d) (sym passed.due_is))
      where
        addition_now : Addition
        addition_now = Addition.Passes (Block fields true) number stage passed.written passed.stage

    ended_dropped : held_of id s.requests.held ≡ Some (record { id = id; way = Dropped }) → (due : Due) (hs : List Held) → due ≡ Nothing → hs ≡ old.upstreams.held
        → Course setup run s outputs (Came noted) (record behind_view { upstreams = upstream_then hs }) (record balanced { owed = owed; due = due }) outputs
    ended_dropped found due hs nothing same =
        ends_by due hs (Addition.Drops (Block fields true)) (adds_there, record { serving = serving_now (Addition.Drops (Block fields true)) run s leads; found = found })
        (ap (λ (hs : List Held). with_due (upstream_then hs) Nothing) (sym same) ∙ ap (λ (d : Due). with_due (upstream_then hs) d) (sym nothing))

    pub brings_ended : (due : Due) (hs : List Held) → TakesOf (lives old.upstreams.live) id [] (passed_trailers fields) true old.upstreams.held (held_of id old.upstreams.held) due hs
        → Course setup run s outputs (Came noted) (record behind_view { upstreams = upstream_then hs }) (record balanced { owed = owed; due = due }) outputs
    brings_ended due hs takes = by held.way (ap (λ (xs : List Held). held_of id xs) held_there ∙ held.found) (subst (λ (o : Option Held). TakesOf (lives old.upstreams.live) id [] (passed_trailers fields) true old.upstreams.held o due hs) held.found takes)
      where
        by : (way : Way) → held_of id s.requests.held ≡ Some (record { id = id; way = way }) → TakesBy (lives old.upstreams.live) id [] (passed_trailers fields) true old.upstreams.held way due hs
            → Course setup run s outputs (Came noted) (record behind_view { upstreams = upstream_then hs }) (record balanced { owed = owed; due = due }) outputs
        by (Waiting route text stage body) found takes = ended_waiting route text stage body found due takes.0 hs takes.1 takes.2
        by (Going number stage) found takes = ended_going number stage found due takes.0 hs takes.1 takes.2
        by Dropped found takes = ended_dropped found due hs takes.0 takes.1

-- ---- trailers without a fault

second_none : (a b : Option Fault) → or_else a b ≡ None → b ≡ None
second_none None b e = e
second_none (Some fault) b e = cc

no_fault : (b : Bool) (fault : Fault) → fault_if b fault ≡ None → b ≡ false
no_fault false fault e = refl
no_fault true fault e = cc

not_not : (b : Bool) → not b ≡ false → b ≡ true
not_not true e = refl
not_not false e = cc

not_large : (b : Bool) (cause : Cause) → cause_if b cause ≡ None → b ≡ false
not_large false cause e = refl
not_large true cause e = cc

-- They end the stream, behind as many octets as were declared.
pub trailers_end : (setup : Setup) (s : Summary) (noted : Noted) (block : Partial) (fields : List Field) → completed_in s.block noted.frame ≡ Some block → noted.note ≡ Fields fields → fault_in s (Came noted) ≡ None
    → (s.stream noted.frame.id).outline.cause ≡ None → (s.stream noted.frame.id).outline.begun ≡ true → cause_of_block setup (carried_in (s.stream noted.frame.id).outline) (Fields fields) ≡ None
    → (block.ends ≡ true) × (has_length (s.stream noted.frame.id).outline.declared ((s.stream noted.frame.id).outline.octets + 0) ≡ true)
trailers_end setup s noted block fields is_block note faultless no_cause begun none = (not_not block.ends second.0, ap (λ n. has_length outline.declared n) plain ∙ not_not (has_length outline.declared outline.octets) first.1)
  where
    outline : Outline
    outline = (s.stream noted.frame.id).outline

    plain : outline.octets + 0 ≡ outline.octets
    plain = omega arith

    fine : is_malformed (carried_in outline) (completed_in s.block noted.frame) noted ≡ false
    fine =
        sym (ap (λ (c : Option Cause). not (is_some c) && is_malformed (carried_in outline) (completed_in s.block noted.frame) noted) no_cause)
        ∙ no_fault (not (is_some outline.cause) && is_malformed (carried_in outline) (completed_in s.block noted.frame) noted) _ (second_none (first_of (rows_in s noted)) (malformed_in outline s (Came noted)) faultless)

    small : are_large fields ≡ false
    small = not_large (are_large fields) LargeFields (sym (ap (λ b. if b then cause_if (are_large fields) LargeFields else Rattle.model.specs.Causes.cause_of_head setup fields) begun) ∙ none)

    rules : ((not block.ends || not (are_trailers fields)) || not (has_length outline.declared outline.octets)) ≡ false
    rules =
        sym (
        ap (λ (o : Option Partial). is_malformed (carried_in outline) o noted) is_block
        ∙ ap (λ (n : Note). Rattle.model.specs.ErrorTable.is_bad_block (carried_in outline) block.ends n) note
        ∙ ap (λ b. not b && is_malformed_block (carried_in outline) fields block.ends) small
        ∙ ap (λ b. if b then (not block.ends || not (are_trailers fields)) || not (has_length outline.declared outline.octets) else not (Rattle.model.specs.Malformed.is_well_formed fields) || block.ends && not (has_length (Rattle.model.specs.Http2.declared_length fields) 0)) begun)
        ∙ fine

    first : ((not block.ends || not (are_trailers fields)) ≡ false) × (not (has_length outline.declared outline.octets) ≡ false)
    first = or_parts (not block.ends || not (are_trailers fields)) (not (has_length outline.declared outline.octets)) rules

    second : (not block.ends ≡ false) × (not (are_trailers fields) ≡ false)
    second = or_parts (not block.ends) (not (are_trailers fields)) first.0
