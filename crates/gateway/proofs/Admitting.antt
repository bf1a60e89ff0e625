-- What may come by what is kept is what may come by the log, and the rooms that it tells are those of the log.
use Rattle.std.proofs.Common.{◌≡◌, ℕ, true, false, Bool, not, ◌&&◌, if◌then◌else◌, List, [], length, Option, Some, None, refl, sym, ◌∙◌, ap, subst}
use Rattle.std.specs.Prelude.{is_some, option_map}
use Rattle.std.proofs.lemmas.Bool.{and_parts}
use Rattle.model.specs.Logs.{Event, Step, client_in}
use Rattle.model.specs.Logs.Event.{Client, ClientEnd, ClientTook, Up, UpEnd, UpFailed, UpTook, Drain}
use Rattle.model.specs.Setup.{Setup, Passing}
use Rattle.model.specs.Setup.Passing.{Whole, Streaming}
use Rattle.model.specs.Tapes.{Entry, is_closed}
use Rattle.model.specs.Known.{Known}
use Rattle.model.specs.Rooms.{IsAdmitted}
use Rattle.model.specs.Admission as admission
use Rattle.theory_errors.specs.Rule.{AreKnown, known_of}
use Rattle.theory_errors.proofs.Knowing.{known_so}
use Rattle.theory_responses.specs.Outbox.{Outbox}
use Rattle.theory_responses.specs.Outbox.Outbox.{Before, Behind, Over}
use Rattle.theory_responses.specs.Held.{body_waiting}
use Rattle.theory_receive_windows.specs.Held.{body_in}
use Rattle.theory_receive_windows.specs.Rooms.{IsHeld, AreHeld}
use Rattle.theory_requests.specs.State as theory_requests
use Rattle.theory_requests.specs.Lines as lines
use Rattle.theory_requests.specs.Lines.{find, line_of, is_idle}
use Rattle.theory_requests.specs.Lines.Answer.{Pending as Partly, Idle, Done}
use Rattle.theory_requests.specs.Rule.{is_done_by, is_done}
use Rattle.theory_requests.specs.Meaning.{AreSo}
use Rattle.theory_requests.proofs.Clauses.{all_stand, none_done}
use Rattle.theory_requests.proofs.Connections.{connections_told}
use Rattle.upstream_response.specs.Waiting.{passing_in}
use Rattle.upstream_connections.specs.Connections.{Connection, number_of, lives}
use Rattle.send_queue.specs.Asked.{held_if}
use Rattle.theory.specs.Moves.{Move}
use Rattle.theory.specs.State.{State, tape_of, conducts, turns_of}
use Rattle.theory.proofs.Tapes.{requests_tape}
use Rattle.theory.proofs.Placing.{turns_may, turns_so}
use Rattle.refinement.specs.View.{View, Pending, Leads}
use Rattle.refinement.specs.Rest.{told_view}
use Rattle.refinement.proofs.Lives.{lives_found}
use Rattle.theory_memory_bound.proofs.Rooms.{HoldsFor, none_held, passed_on, holds_for}
use Rattle.event_handlers.specs.Admission.{is_up, takes_room, held_of, held_on, room_on, admits as admits_kept}
use Rattle.event_handlers.specs.Comings.{IsOver}
use Rattle.event_handlers.specs.Resting.{IsSettled}
use Rattle.event_handlers.proofs.Admitting.{admitted_by_kept, admitted_by_tape, up_by_tape, room_by_tape}
use Rattle.gateway.specs.declared.phase.Phase.{Phase}
use Rattle.gateway.specs.declared.phase.Phase.TheVariants as phase
use Rattle.gateway.specs.Rooms.{TellsRoom}
use Rattle.gateway.specs.Stands.{Standing, Stands, MayCome, IsIn, pending_in, admits, room_of, is_open}

-- ---- what takes room, where something may come in

same_body : (box : Outbox) → length (body_in box) ≡ length (body_waiting box)
same_body (Before interims head body whole) = refl
same_body (Behind body whole) = refl
same_body Over = refl

module _ (setup : Setup) (run : List Move) (kept : View) (pending : Pending) (s : State) (leads : Leads setup run kept pending s) (settled : IsSettled kept) (known : Known) (same : known.setup ≡ setup) (knows : AreKnown known (conducts run)) where
  leads_known : Leads known.setup run kept pending s
  leads_known = subst (λ (x : Setup). Leads x run kept pending s) (sym same) leads

  module _ (k : ℕ) (c : Connection) (found : find number_of k kept.upstreams.live ≡ Some c) where
    -- of one that is idle nothing takes room
    idle_held : c.live.answer ≡ Idle → (passing : Passing) → known.setup.passing ≡ passing → IsHeld passing known (tape_of run) k 0
    idle_held is Whole by_it = refl
    idle_held is Streaming by_it = none_held known run kept pending s leads_known knows settled.rest.none_cut settled.rest.none_done k c found is

    partly_held : c.live.answer ≡ Partly → (passing : Passing) → known.setup.passing ≡ passing → IsHeld passing known (tape_of run) k (takes_room (passing_in c.answer.way) kept.offers c.live.stream)
    partly_held is passing by_it = by passing by_it
      where
        passed : passing_in c.answer.way ≡ known.setup.passing
        passed = passed_on known run kept pending s leads_known knows settled.rest.none_cut settled.rest.none_done k c found is

        by : (p : Passing) → known.setup.passing ≡ p → IsHeld p known (tape_of run) k (takes_room (passing_in c.answer.way) kept.offers c.live.stream)
        by Whole whole = ap (λ p. takes_room p kept.offers c.live.stream) (passed ∙ whole)
        by Streaming streaming =
            let h : HoldsFor known (tape_of run) k c.live.stream kept.offers.kept = holds_for known run kept pending s leads_known knows settled.rest.none_cut settled.rest.none_done k c found is streaming in
            let count : length (body_in h.box.box) ≡ takes_room (passing_in c.answer.way) kept.offers c.live.stream =
            same_body h.box.box ∙ sym (ap held_if h.found) ∙ sym (ap (λ p. takes_room p kept.offers c.live.stream) (passed ∙ streaming)) in
            subst (IsHeld Streaming known (tape_of run) k) count h.holds

    -- none is done with
    goes_on : c.live.answer ≡ Done → ⊥
    goes_on is =
        let none : is_done (told_view kept) c.live ≡ false =
        none_done (told_view kept) k (lives kept.upstreams.live) c.live settled.rest.none_done (lives_found k kept.upstreams.live ∙ ap (option_map (λ (x : Connection). x.live)) found) in
        let clash : true ≡ false = sym (ap (λ a. is_done_by a ((told_view kept).served c.live.stream)) is) ∙ none in
        cc

    held_by : IsHeld known.setup.passing known (tape_of run) k (held_of kept.offers (Some c))
    held_by = by c.live.answer refl
      where
        by : (a : lines.Answer) → c.live.answer ≡ a → IsHeld known.setup.passing known (tape_of run) k (if is_idle a then 0 else takes_room (passing_in c.answer.way) kept.offers c.live.stream)
        by Partly is = partly_held is known.setup.passing refl
        by Idle is = idle_held is known.setup.passing refl
        by Done is = absurd (goes_on is)

  held_there : (k : ℕ) → is_up kept k ≡ true → IsHeld known.setup.passing known (tape_of run) k (held_on kept k)
  held_there k up = by (find number_of k kept.upstreams.live) refl up
    where
      by : (found : Option Connection) → find number_of k kept.upstreams.live ≡ found → is_some found ≡ true → IsHeld known.setup.passing known (tape_of run) k (held_of kept.offers found)
      by None is some = absurd (let no : false ≡ true = some in cc)
      by (Some c) is some = held_by k c is

  held_where_open : (k : ℕ) → admission.is_open k (tape_of run) ≡ true → IsHeld known.setup.passing known (tape_of run) k (held_on kept k)
  held_where_open k open_there = held_there k (up_by_tape setup run kept pending s leads k ∙ open_there)

  are_held : (event : Event) → AreHeld known (tape_of run) (held_on kept) event
  are_held (Up k piece) = held_where_open k
  are_held (Client piece) = tt
  are_held ClientEnd = tt
  are_held (ClientTook count) = tt
  are_held (UpEnd k) = tt
  are_held (UpFailed k) = tt
  are_held (UpTook k count) = tt
  are_held Drain = tt

  open_admits : (event : Event) → admits_kept kept event ≡ true → IsAdmitted known (tape_of run) event
  open_admits event may = admitted_by_kept setup run kept pending s leads known event (are_held event) may

  admits_open : (event : Event) → IsAdmitted known (tape_of run) event → admits_kept kept event ≡ true
  admits_open event may = admitted_by_tape setup run kept pending s leads known event (are_held event) may

  pub open_room : (k : ℕ) → TellsRoom known (tape_of run) k (room_on kept k)
  open_room k = record {
    opened = λ open_there. room_by_tape setup run kept pending s leads known k (held_where_open k open_there);
    shut = λ shut. by (find number_of k kept.upstreams.live) (up_by_tape setup run kept pending s leads k ∙ shut);
  }
    where
      by : (found : Option Connection) → is_some found ≡ false → Rattle.event_handlers.specs.Admission.room_of kept.offers found ≡ 0
      by None none = refl
      by (Some c) none = absurd (let no : true ≡ false = none in cc)

-- ---- by the phase

module _ (setup : Setup) (partial text : List ℕ) (kept : View) (run : List Move) where
  -- behind the client's close no connection is open
  over_up : (k : ℕ) → IsOver setup run → false ≡ admission.is_open k (tape_of run)
  over_up k over = sym (ap (λ l. is_some (line_of k l)) none) ∙ told ∙ ap (λ (t : List Entry). admission.is_open k t) (requests_tape setup run)
    where
      known : Known
      known = known_of setup (conducts run)

      knows : AreKnown known (conducts run)
      knows = known_so setup (conducts run)

      so : AreSo known (turns_of setup run)
      so = turns_so known run knows over.allowed (over.so known refl knows)

      told : is_some (line_of k (theory_requests.state_of setup (turns_of setup run)).live) ≡ admission.is_open k (theory_requests.tape_of (turns_of setup run))
      told = connections_told known (turns_of setup run) (turns_may setup run over.allowed) so k

      none : (theory_requests.state_of setup (turns_of setup run)).live ≡ []
      none = (all_stand known (turns_of setup run) (turns_may setup run over.allowed) so).shut (ap is_closed (requests_tape setup run) ∙ over.closed)

  up_in : (p : Phase) → is_open p ≡ false → IsIn p setup partial kept text run → (k : ℕ) → false ≡ admission.is_open k (tape_of run)
  up_in phase.New e o k = absurd (let no : true ≡ false = e in cc)
  up_in phase.Preface e o k = absurd (let no : true ≡ false = e in cc)
  up_in phase.Frames e o k = absurd (let no : true ≡ false = e in cc)
  up_in phase.Closed e o k = over_up k o
  up_in phase.Dead e o k = absurd o

  module _ (known : Known) (same : known.setup ≡ setup) (knows : AreKnown known (conducts run)) where
    module _ (event : Event) where
      admits_in : (p : Phase) → IsIn p setup partial kept text run → (is_open p && admits_kept kept event) ≡ true → IsAdmitted known (tape_of run) event
      admits_in phase.New o may = open_admits setup run kept (pending_in setup.more_room phase.New) o.state o.leads o.settled known same knows event may
      admits_in phase.Preface o may = open_admits setup run kept (pending_in setup.more_room phase.Preface) o.state o.leads o.settled known same knows event may
      admits_in phase.Frames o may = open_admits setup run kept (pending_in setup.more_room phase.Frames) o.state o.leads o.settled known same knows event may
      admits_in phase.Closed o may = absurd (let no : false ≡ true = may in cc)
      admits_in phase.Dead o may = absurd o

      in_admits : (p : Phase) → IsIn p setup partial kept text run → IsAdmitted known (tape_of run) event → (is_open p && admits_kept kept event) ≡ true
      in_admits phase.New o may = admits_open setup run kept (pending_in setup.more_room phase.New) o.state o.leads o.settled known same knows event may
      in_admits phase.Preface o may = admits_open setup run kept (pending_in setup.more_room phase.Preface) o.state o.leads o.settled known same knows event may
      in_admits phase.Frames o may = admits_open setup run kept (pending_in setup.more_room phase.Frames) o.state o.leads o.settled known same knows event may
      in_admits phase.Closed o may = absurd (let no : true ≡ false = sym o.closed ∙ is_not (is_closed (tape_of run)) (and_parts (not (is_closed (tape_of run))) (admission.is_in_order (tape_of run) event) may.in_order).0 in cc)
        where
          is_not : (b : Bool) → not b ≡ true → b ≡ false
          is_not false e = refl
          is_not true e = let no : false ≡ true = e in cc
      in_admits phase.Dead o may = absurd o

    room_in : (p : Phase) → IsIn p setup partial kept text run → (k : ℕ) → TellsRoom known (tape_of run) k (if is_open p then room_on kept k else 0)
    room_in phase.New o k = open_room setup run kept (pending_in setup.more_room phase.New) o.state o.leads o.settled known same knows k
    room_in phase.Preface o k = open_room setup run kept (pending_in setup.more_room phase.Preface) o.state o.leads o.settled known same knows k
    room_in phase.Frames o k = open_room setup run kept (pending_in setup.more_room phase.Frames) o.state o.leads o.settled known same knows k
    room_in phase.Closed o k = record { opened = λ e. absurd (let no : false ≡ true = over_up k o ∙ e in cc); shut = λ e. refl }
    room_in phase.Dead o k = absurd o

module _ (setup : Setup) (g : Standing) (log : List Step) (run : List Move) (stands : Stands setup g log run) where
  -- What may come by what is kept may come behind the moves,
  pub admitted_in : (event : Event) → admits g event ≡ true → MayCome setup run event
  admitted_in event may known same knows = admits_in setup g.partial (client_in log) g.kept run known same knows event g.phase stands.is_in may

  -- and nothing else may.
  pub in_admitted : (event : Event) → IsAdmitted (known_of setup (conducts run)) (tape_of run) event → admits g event ≡ true
  in_admitted event may = in_admits setup g.partial (client_in log) g.kept run (known_of setup (conducts run)) refl (known_so setup (conducts run)) event g.phase stands.is_in may

  -- The room that is told is that of the log.
  pub room_by_log : (k : ℕ) → TellsRoom (known_of setup (conducts run)) (tape_of run) k (room_of g k)
  room_by_log k = room_in setup g.partial (client_in log) g.kept run (known_of setup (conducts run)) refl (known_so setup (conducts run)) g.phase stands.is_in k

  pub closed_up : is_open g.phase ≡ false → (k : ℕ) → false ≡ admission.is_open k (tape_of run)
  closed_up over k = up_in setup g.partial (client_in log) g.kept run g.phase over stands.is_in k
