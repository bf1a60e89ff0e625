-- What was heard of an exchange with what comes of its connection: by what is kept, and by what its reader knows of the response.
use Rattle.std.proofs.Common.{◌≡◌, ℕ, true, false, ◌&&◌, ◌==◌, List, ◌∷◌, ◌++◌, Some, None, refl, sym, ◌∙◌, ap, subst, inl, inr, if◌then◌else◌}
use Rattle.std.specs.Prelude.{Option}
use Rattle.std.proofs.lemmas.Bool.{cases_Bool, eq-eqb}
use Rattle.model.specs.Messages.{Request}
use Rattle.model.specs.Http1.{H1Request, forward}
use Rattle.model.specs.Logs.{Event}
use Rattle.model.specs.Logs.Event.{Up, UpEnd}
use Rattle.model.specs.Tapes.{Entry, is_closed}
use Rattle.model.specs.Tapes.Entry.{Happened}
use Rattle.model.specs.Openings.{exchanges, exchange_on, given, sent_for}
use Rattle.model.specs.Available.{heard_by, ended_by}
use Rattle.model.specs.Known.{Known}
use Rattle.model.specs.Courses.{upstream_of}
use Rattle.model.specs.Offers.{is_to_head}
use Rattle.model.specs.Idle.{is_asked_for_head, IsAllHeard, IsTooLong, LeavesOpen, MayBeKept}
use Rattle.model.proofs.ItemLaws.{items_stay}
use Rattle.model.proofs.PastLaws.{heard_own}
use Rattle.theory_requests.specs.Told.{is_served}
use Rattle.theory_requests.specs.Lines.{Answer, Line, line_of}
use Rattle.theory_requests.specs.Lines.Answer.{Pending}
use Rattle.theory_requests.specs.Lines.Heard.{Keepable, Finished}
use Rattle.theory_requests.specs.State.{Held, held_of}
use Rattle.theory_requests.specs.Rule.{is_done_by}
use Rattle.theory_requests.specs.Connections.{IsRequestSent}
use Rattle.theory_requests.proofs.Standing.{Stands}
use Rattle.theory_requests.proofs.Clauses.{none_done}
use Rattle.theory_requests.proofs.Ending.{request_sent, request_unsent}
use Rattle.theory_requests.proofs.Fitting.{not_not}
use Rattle.theory.specs.Moves.{Move, told_in}
use Rattle.theory.specs.State.{State, tape_of, summary_at, turns_of, state_of}
use Rattle.theory.specs.Rule.{RestsBehind}
use Rattle.theory.specs.Answered.{IsHeardBy, LeavesIdle}
use Rattle.theory.proofs.Tapes.{requests_tape}
use Rattle.theory.proofs.Telling.{all_moved, told_right}
use Rattle.theory.proofs.Placing.{turns_may, turns_so}
use Rattle.theory.proofs.Keeping.{IsKnown}
use Rattle.theory.proofs.Unended.{stands, open_go_on}

-- ---- by the response alone

module _ (known : Known) (t : List Entry) (k : ℕ) where
  -- an event asks for nothing
  asked_same : (event : Event) → is_asked_for_head known (exchange_on k t) (Happened event ∷ t) ≡ is_asked_for_head known (exchange_on k t) t
  asked_same event = ap is_to_head (sym (items_stay known (exchange_on k t).stream t (Happened event) refl))

  -- octets that leave the connection not idle finish it
  pub not_left : (piece : List ℕ) → IsAllHeard known (Happened (Up k piece) ∷ t) (exchange_on k t) → (LeavesIdle known t k piece → ⊥) → IsHeardBy known t (Up k piece) Finished
  not_left piece whole not = (
    whole,
    λ m. not (record {
      keeps = m.keeps;
      answered = subst (λ b. LeavesOpen (heard_by (exchange_on k t) t ++ piece) b) (asked_same (Up k piece)) (subst (λ x. LeavesOpen x (is_asked_for_head known (exchange_on k t) (Happened (Up k piece) ∷ t))) (heard_own k piece t) m.answered);
      fits = λ long. m.fits (subst (λ b. IsTooLong known (heard_by (exchange_on k t) (Happened (Up k piece) ∷ t)) b) (sym (asked_same (Up k piece))) (subst (λ x. IsTooLong known x (is_asked_for_head known (exchange_on k t) t)) (sym (heard_own k piece t)) long));
    }),
  )

  -- and so does its end
  pub at_end : IsAllHeard known (Happened (UpEnd k) ∷ t) (exchange_on k t) → IsHeardBy known t (UpEnd k) Finished
  at_end whole = (whole, λ m. let clash : true ≡ false = sym ended ∙ m.not_ended in cc)
    where
      ended : ended_by (exchange_on k t) (Happened (UpEnd k) ∷ t) ≡ true
      ended =
          let s = given k (exchanges t) in
          ap (λ b. if b && s == s then true else ended_by (exchange_on k t) t) (eq-eqb k k refl) ∙ ap (λ b. if b then true else ended_by (exchange_on k t) t) (eq-eqb s s refl)

-- ---- by what is kept

module _ (known : Known) (run : List Move) (is_known : IsKnown known run) (rests : RestsBehind known.setup run) (k : ℕ) (line : Line) (found : line_of k (state_of known.setup run).requests.live ≡ Some line) where
  abbrev t : List Entry
  t = tape_of run

  abbrev s : State
  s = state_of known.setup run

  st : Stands known (tape_of run) (state_of known.setup run).requests
  st = stands known run is_known

  -- its request was sent whole where nothing is held of it
  sent : line.answer ≡ Pending → held_of line.stream (state_of known.setup run).requests.held ≡ None → IsRequestSent known (tape_of run) k
  sent pending none =
      subst (λ (x : List Entry). IsRequestSent known x k) (requests_tape known.setup run)
      (request_sent known (turns_of known.setup run) (turns_may known.setup run is_known.all) (turns_so known run is_known.knows is_known.all is_known.answered) rests.served.nothing k line found
      (ap (λ (x : List Entry). is_served known line.stream x) (requests_tape known.setup run) ∙ served) none)
    where
      served : is_served known line.stream (tape_of run) ≡ true
      served =
          sym ((told_right known run is_known.knows (all_moved known run is_known.all)).served line.stream)
          ∙ not_not ((told_in (summary_at known.setup run)).served line.stream)
          (subst (λ (a : Answer). is_done_by a ((told_in (summary_at known.setup run)).served line.stream) ≡ false) pending (none_done (told_in (summary_at known.setup run)) k (state_of known.setup run).requests.live line rests.served.none_done found))

  -- and not where something is
  unsent : (x : Held) → held_of line.stream (state_of known.setup run).requests.held ≡ Some x → (request : Request) → H1Request (sent_for (exchange_on k (tape_of run)) (tape_of run)) request → ⊥
  unsent x held =
      subst (λ (u : List Entry). (request : Request) → H1Request (sent_for (exchange_on k u) u) request → ⊥) (requests_tape known.setup run)
      (request_unsent known (turns_of known.setup run) (turns_may known.setup run is_known.all) (turns_so known run is_known.knows is_known.all is_known.answered) rests.served.nothing k line found x held)

  -- so with octets that leave it so it may be kept
  pub keepable : line.answer ≡ Pending → held_of line.stream (state_of known.setup run).requests.held ≡ None → (piece : List ℕ) → LeavesIdle known (tape_of run) k piece → IsHeardBy known (tape_of run) (Up k piece) Keepable
  keepable pending none piece l =
      let r = sent pending none in record {
        keeps = l.keeps;
        goes_on = open_yet;
        request = forward r.request;
        sent = r.reads;
        answered = subst (λ b. LeavesOpen (heard_by (exchange_on k t) (Happened (Up k piece) ∷ t)) b) (sym (asked_same known t k (Up k piece))) (subst (λ x. LeavesOpen x (is_asked_for_head known (exchange_on k t) t)) (sym (heard_own k piece t)) l.answered);
        fits = λ long. l.fits (subst (λ b. IsTooLong known (heard_by (exchange_on k t) t ++ piece) b) (asked_same known t k (Up k piece)) (subst (λ x. IsTooLong known x (is_asked_for_head known (exchange_on k t) (Happened (Up k piece) ∷ t))) (heard_own k piece t) long));
        not_ended = open_go_on known run is_known rests k (st.keeps.are_so k line found).opened;
      }
    where
      open_yet : is_closed (tape_of run) ≡ false
      open_yet = elim (cases_Bool (is_closed (tape_of run))) [
        | inr not ↦ not
        | inl closed ↦ absurd (let clash : ◌≡◌ {A = Option Line} None (Some line) = ap (line_of k) (sym (st.shut closed)) ∙ found in cc)
      ]

  -- a request that wasn't sent whole leaves nothing idle
  pub in_part : (x : Held) → held_of line.stream (state_of known.setup run).requests.held ≡ Some x → (event : Event) → upstream_of event ≡ k → IsAllHeard known (Happened event ∷ tape_of run) (exchange_on k (tape_of run)) → IsHeardBy known (tape_of run) event Finished
  in_part x held event of whole =
      subst (λ n. IsAllHeard known (Happened event ∷ tape_of run) (exchange_on n (tape_of run)) × (MayBeKept known (Happened event ∷ tape_of run) (exchange_on n (tape_of run)) → ⊥)) (sym of)
      (whole, λ m. unsent x held m.request m.sent)
