-- Each event that came fitted the room that its connection had, and so it is behind a step.
use Rattle.std.proofs.Common.{◌≡◌, ℕ, ◌-◌, ◌≤◌, List, [], ◌∷◌, ◌++◌, length, refl, sym, ap, subst, inl, inr, arith}
use Rattle.std.specs.Prelude.{◌⊎◌}
use Rattle.model.specs.Logs.{Event}
use Rattle.model.specs.Logs.Event.{Client, ClientEnd, ClientTook, Up, UpEnd, UpFailed, UpTook, Drain}
use Rattle.model.specs.Setup.{Passing}
use Rattle.model.specs.Setup.Passing.{Whole, Streaming}
use Rattle.model.specs.Tapes.{Noted, Entry, acts, sent, ActsFollow}
use Rattle.model.specs.Tapes.Entry.{Came, Breached, Happened, Sent, Did}
use Rattle.model.specs.Known.{Known}
use Rattle.model.specs.Available.{heard_by}
use Rattle.model.specs.Offers.{is_to_head}
use Rattle.model.specs.Openings.{Opened, exchanges, exchange_on, given}
use Rattle.model.specs.Idle.{is_asked_for_head, IsTooLong, LeavesOpen, MayBeKept, IsIdle}
use Rattle.model.specs.Responses.{Seen}
use Rattle.model.specs.Rooms.{IsRoom, FitsRoom}
use Rattle.model.specs.WindowsOnTape.{is_on, data_octets}
use Rattle.model.proofs.ItemLaws.{items_stay}
use Rattle.theory_responses.specs.Held.{FitRooms}
use Rattle.event_handlers.specs.Inputs.{inputs_in, events_in}
use Rattle.event_handlers.specs.Inputs.Input.{OfFrame, OfBreach, OfEvent}

-- ---- frames that are sent leave no less room

-- a frame that is sent leaves what a request asks for
same_asked : (known : Known) (t : List Entry) (noted : Noted) (o : Opened) → is_asked_for_head known o (Sent noted ∷ t) ≡ is_asked_for_head known o t
same_asked known t noted o = ap is_to_head (sym (items_stay known o.stream t (Sent noted) refl))

kept_before : (known : Known) (t : List Entry) (noted : Noted) (o : Opened) → MayBeKept known (Sent noted ∷ t) o → MayBeKept known t o
kept_before known t noted o kept = record {
  keeps = kept.keeps;
  goes_on = kept.goes_on;
  request = kept.request;
  sent = kept.sent;
  answered = subst (λ b. LeavesOpen (heard_by o t) b) (same_asked known t noted o) kept.answered;
  fits = subst (λ b. IsTooLong known (heard_by o t) b → ⊥) (same_asked known t noted o) kept.fits;
  not_ended = kept.not_ended;
}

kept_behind : (known : Known) (t : List Entry) (noted : Noted) (o : Opened) → MayBeKept known t o → MayBeKept known (Sent noted ∷ t) o
kept_behind known t noted o kept = record {
  keeps = kept.keeps;
  goes_on = kept.goes_on;
  request = kept.request;
  sent = kept.sent;
  answered = subst (λ b. LeavesOpen (heard_by o t) b) (sym (same_asked known t noted o)) kept.answered;
  fits = subst (λ b. IsTooLong known (heard_by o t) b → ⊥) (sym (same_asked known t noted o)) kept.fits;
  not_ended = kept.not_ended;
}

-- so just the connections are idle that were
idle_before : (known : Known) (t : List Entry) (noted : Noted) (k : ℕ) → IsIdle known (Sent noted ∷ t) k → IsIdle known t k
idle_before known t noted k idle = record { is_open = idle.is_open; kept = kept_before known t noted (exchange_on k t) idle.kept }

idle_behind : (known : Known) (t : List Entry) (noted : Noted) (k : ℕ) → IsIdle known t k → IsIdle known (Sent noted ∷ t) k
idle_behind known t noted k idle = record { is_open = idle.is_open; kept = kept_behind known t noted (exchange_on k t) idle.kept }

-- what there was room for before a frame went there is behind it
room_sent : (passing : Passing) (known : Known) (k : ℕ) (t : List Entry) (noted : Noted) (length_of count : ℕ) → ((before : ℕ) → IsRoom passing known k t before → length_of ≤ before) → IsRoom passing known k (Sent noted ∷ t) count → length_of ≤ count
room_sent Whole known k t noted length_of count fits room = fits count room
room_sent Streaming known k t noted length_of count fits (inl idle) = fits count (inl (idle_before known t noted k idle.0, idle.1))
room_sent Streaming known k t noted length_of count fits (inr (busy, room)) =
    let before : ℕ = Rattle.model.specs.Admission.room k t - (length room.octets - data_octets (is_on (given k (exchanges t))) (sent t)) in
    let less : length_of ≤ before = fits before (inr (
      λ idle. busy (idle_behind known t noted k idle),
      record {
        interims = room.interims;
        head = room.head;
        octets = room.octets;
        seen = subst (λ b. Seen (heard_by (exchange_on k t) t) b room.interims room.head room.octets) (same_asked known t noted (exchange_on k t)) room.seen;
        is = refl;
      },
    )) in
    let is = room.is in
    omega (arith, less, is)

fits_sent : (known : Known) (t : List Entry) (noted : Noted) (event : Event) → FitsRoom known t event → FitsRoom known (Sent noted ∷ t) event
fits_sent known t noted (Up k piece) fits = λ count room. room_sent known.setup.passing known k t noted (length piece) count fits room
fits_sent known t noted (Client piece) fits = tt
fits_sent known t noted ClientEnd fits = tt
fits_sent known t noted (ClientTook count) fits = tt
fits_sent known t noted (UpEnd k) fits = tt
fits_sent known t noted (UpFailed k) fits = tt
fits_sent known t noted (UpTook k count) fits = tt
fits_sent known t noted Drain fits = tt

-- so there is behind frames alone
fits_behind : (known : Known) (a t : List Entry) (event : Event) → inputs_in a ≡ [] → acts a ≡ [] → FitsRoom known t event → FitsRoom known (a ++ t) event
fits_behind known [] t event none still fits = fits
fits_behind known (Sent noted ∷ a) t event none still fits = fits_sent known (a ++ t) noted event (fits_behind known a t event none still fits)
fits_behind known (Did act ∷ a) t event none still fits = absurd (let no : act ∷ acts a ≡ [] = still in cc)
fits_behind known (Came noted ∷ a) t event none still fits = absurd (let no : OfFrame noted.frame ∷ inputs_in a ≡ [] = none in cc)
fits_behind known (Breached breach ∷ a) t event none still fits = absurd (let no : OfBreach breach ∷ inputs_in a ≡ [] = none in cc)
fits_behind known (Happened other ∷ a) t event none still fits = absurd (let no : OfEvent other ∷ inputs_in a ≡ [] = none in cc)

-- ---- a step

module _ (known : Known) (t : List Entry) (fit : FitRooms known t) where
  -- where no event came
  fit_quiet : (a : List Entry) → events_in (inputs_in a) ≡ [] → FitRooms known (a ++ t)
  fit_quiet [] none = fit
  fit_quiet (Came noted ∷ a) none = fit_quiet a none
  fit_quiet (Breached breach ∷ a) none = fit_quiet a none
  fit_quiet (Sent noted ∷ a) none = fit_quiet a none
  fit_quiet (Did act ∷ a) none = fit_quiet a none
  fit_quiet (Happened other ∷ a) none = absurd (let no : other ∷ events_in (inputs_in a) ≡ [] = none in cc)

  module _ (event : Event) (fits : FitsRoom known t event) where
    -- where this one came alone, before all acts
    fit_event : (a : List Entry) → inputs_in a ≡ OfEvent event ∷ [] → ActsFollow a → FitRooms known (a ++ t)
    fit_event [] came follow = absurd (let no : [] ≡ OfEvent event ∷ [] = came in cc)
    fit_event (Sent noted ∷ a) came follow = fit_event a came follow
    fit_event (Did act ∷ a) came follow = fit_event a came follow
    fit_event (Came noted ∷ a) came follow = absurd (let no : OfFrame noted.frame ∷ inputs_in a ≡ OfEvent event ∷ [] = came in let clash : OfFrame noted.frame ≡ OfEvent event = cc in cc)
    fit_event (Breached breach ∷ a) came follow = absurd (let no : OfBreach breach ∷ inputs_in a ≡ OfEvent event ∷ [] = came in let clash : OfBreach breach ≡ OfEvent event = cc in cc)
    fit_event (Happened other ∷ a) came follow =
        let both : OfEvent other ∷ inputs_in a ≡ OfEvent event ∷ [] = came in
        let none : inputs_in a ≡ [] = cc in
        let same : event ≡ other = cc in (
          subst (FitsRoom known (a ++ t)) same (fits_behind known a t event none follow fits),
          fit_quiet a (ap events_in none),
        )

    -- By what the event comes to each event fits that came so far: it came alone, or it was octets of the client.
    pub fit_step : (a : List Entry) → (inputs_in a ≡ OfEvent event ∷ []) ⊎ (events_in (inputs_in a) ≡ []) → ActsFollow a → FitRooms known (a ++ t)
    fit_step a came follow = elim came [ inl one ↦ fit_event a one follow | inr none ↦ fit_quiet a none ]
