-- What comes of an idle connection leaves what is on offer: its last response is whole.
use Rattle.std.proofs.Common.{◌≡◌, ℕ, Bool, false, List, [], ◌∷◌, ◌++◌, refl, sym, subst, inl, inr}
use Rattle.std.proofs.lemmas.List.{append-nil}
use Rattle.std.proofs.lemmas.Bool.Decides.{eqb_tells}
use Rattle.model.specs.Logs.{Event}
use Rattle.model.specs.Logs.Event.{Client, ClientEnd, ClientTook, Up, UpEnd, UpFailed, UpTook, Drain}
use Rattle.model.specs.Tapes.{Entry}
use Rattle.model.specs.Tapes.Entry.{Happened}
use Rattle.model.specs.Responses.{IsComplete}
use Rattle.model.specs.Openings.{Opened, exchanges, exchange_on, AreApart}
use Rattle.model.specs.Available.{heard_by, ended_by, IsIn, IsShown}
use Rattle.model.specs.Deliveries.{Delivery}
use Rattle.model.specs.Known.{Known}
use Rattle.model.specs.Courses.{about, upstream_of}
use Rattle.model.specs.Idle.{is_asked_for_head, IsIdle}
use Rattle.model.proofs.DeliveryReadings.{one_connection}
use Rattle.model.proofs.ExchangeLaws.{newest_in}
use Rattle.model.proofs.PastLaws.{shown_past, heard_own}
use Rattle.theory_responses.specs.State.{State, after}
use Rattle.theory_responses.specs.State.Move.{Idles}
use Rattle.theory_responses.specs.Policy.{Neighbours, MayIdle}
use Rattle.theory_responses.proofs.Entries.{StaysShown, shown_beside, event_quiet, none_unless_fails}
use Rattle.theory_responses.proofs.Offering.{Offering, offering_quiet}

module _ (known : Known) (t : List Entry) where
  -- what is shown of a response is shown with more behind it, whether its connection ended or not
  more_shown : (o : Opened) (more : List ℕ) (ended : Bool) → IsComplete (heard_by o t) false (is_asked_for_head known o t) → ended_by o t ≡ false → (d : Delivery)
      → IsShown known.setup.passing (heard_by o t) (ended_by o t) (is_asked_for_head known o t) d → IsShown known.setup.passing (heard_by o t ++ more) ended (is_asked_for_head known o t) d
  more_shown o more ended whole not_ended d shown =
      shown_past known.setup.passing (heard_by o t) more ended (is_asked_for_head known o t) d whole (subst (λ b. IsShown known.setup.passing (heard_by o t) b (is_asked_for_head known o t) d) not_ended shown)

  -- of the connection's newest exchange
  own_shown : (event : Event) → IsIdle known t (upstream_of event) → StaysShown known t event (exchange_on (upstream_of event) t) (about t (Happened event))
  own_shown (Up k piece) idle d shown =
      let o = exchange_on k t in
      let a = idle.kept.answered in
      subst (λ x. IsShown known.setup.passing x (ended_by o t) (is_asked_for_head known o t) d) (sym (heard_own k piece t)) (more_shown o piece (ended_by o t) (a.response, a.reads) idle.kept.not_ended d shown)
  own_shown (UpEnd k) idle d shown =
      let o = exchange_on k t in
      let a = idle.kept.answered in
      subst (λ x. IsShown known.setup.passing x (ended_by o (Happened (UpEnd k) ∷ t)) (is_asked_for_head known o t) d) (append-nil (heard_by o t)) (more_shown o [] (ended_by o (Happened (UpEnd k) ∷ t)) (a.response, a.reads) idle.kept.not_ended d shown)
  own_shown (UpFailed k) idle d shown = shown
  own_shown (Client piece) idle d shown = shown
  own_shown ClientEnd idle d shown = shown
  own_shown (ClientTook count) idle d shown = shown
  own_shown (UpTook k count) idle d shown = shown
  own_shown Drain idle d shown = shown

  -- and of all others
  idle_shown : (event : Event) → AreApart (exchanges t) → IsIdle known t (upstream_of event) → (o : Opened) → IsIn o (exchanges t) → StaysShown known t event o o.stream
  idle_shown event apart idle o there = elim (eqb_tells o.k (upstream_of event)) [
    | inl x ↦ elim (eqb_tells o.stream (about t (Happened event))) [
      | inl y ↦ (let same : exchange_on (upstream_of event) t ≡ o = one_connection (exchanges t) (exchange_on (upstream_of event) t) o apart (newest_in (upstream_of event) (exchanges t) o there x.1) there (sym y.1) in
          subst (λ (p : Opened). StaysShown known t event p p.stream) same (own_shown event idle))
      | inr y ↦ shown_beside known t event o o.stream (λ k s. y.1 s)
    ]
    | inr x ↦ shown_beside known t event o o.stream (λ k s. x.1 k)
  ]

-- So outboxes stay.
pub idles_keep : (known : Known) (t : List Entry) (s : State) (event : Event) → Neighbours known t → Offering known t s → MayIdle known t event → Offering known (Happened event ∷ t) (after s (Idles event))
idles_keep known t s event n h may =
    offering_quiet known t (Happened event) s (after s (Idles event)) h
    (λ stream. refl)
    (λ stream. event_quiet known t event stream (none_unless_fails known stream t event may.sound) (λ o g. subst (StaysShown known t event o) g.is_given (idle_shown known t event n.apart may.idle o g.is_opened)))
    (λ stream. refl) refl h.keeps
