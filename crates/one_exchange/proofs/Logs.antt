-- All clauses, and the headline, are as before.
use Rattle.std.proofs.Common.{◌≡◌, ℕ, true, false, List, [], ◌∷◌, ◌++◌, refl, sym, ap, ◌∙◌, subst, reverse}
use Rattle.model.specs.Logs.{Event, Step, client_in}
use Rattle.model.specs.Logs.Event.{Client, ClientEnd, ClientTook, Up, UpEnd, UpFailed, UpTook, Drain}
use Rattle.model.specs.Setup.{Setup}
use Rattle.model.specs.Tapes.{Entry, acts, happened, listed, ActsFollow}
use Rattle.model.specs.Tapes.Entry.{Came, Breached, Happened, Sent, Did}
use Rattle.model.specs.Admission.{is_open, is_admitted}
use Rattle.model.specs.Known.{Known}
use Rattle.model.specs.Headline.{ClausesHold, HoldsInTurn, IsTold, IsTaped, HasTape, Headline}
use Rattle.one_exchange.specs.Connections.{ComeOfOpen, KeepsNone}
use Rattle.one_exchange.specs.Headline.{ClausesHoldOnce, IsToldOnce, IsTapedOnce, HasTapeOnce, HeadlineOnce}
use Rattle.one_exchange.proofs.Alone.{Stands, stands, before, before_all}
use Rattle.one_exchange.proofs.Courses.{errors_hold}
use Rattle.one_exchange.proofs.Offered.{responses_hold}
use Rattle.one_exchange.proofs.Sent.{requests_hold}
use Rattle.one_exchange.proofs.Ending.{progress_holds}
use Rattle.one_exchange.proofs.Returning.{windows_hold, floods_hold}
use Rattle.one_exchange.proofs.Judged.{up_open, end_open, admitted_once, are_judged}

pub clauses_hold : (known : Known) (t : List Entry) → Stands known t → ClausesHold known t → ClausesHoldOnce known t
clauses_hold known t s h = record {
  requests = requests_hold known t s h.requests;
  responses = responses_hold known t s h.responses;
  errors = errors_hold known t s h.errors;
  progress = progress_holds known t s h.progress;
  windows = windows_hold known t s h.windows;
  floods = floods_hold known t s h.floods;
}

hold_in_turn : (known : Known) (t : List Entry) → Stands known t → HoldsInTurn (ClausesHold known) t → HoldsInTurn (ClausesHoldOnce known) t
hold_in_turn known [] s h = tt
hold_in_turn known (Came noted ∷ t) s h = let was = before known (Came noted) t s in (clauses_hold known t was h.0, hold_in_turn known t was h.1)
hold_in_turn known (Breached breach ∷ t) s h = let was = before known (Breached breach) t s in (clauses_hold known t was h.0, hold_in_turn known t was h.1)
hold_in_turn known (Happened event ∷ t) s h = let was = before known (Happened event) t s in (clauses_hold known t was h.0, hold_in_turn known t was h.1)
hold_in_turn known (Sent noted ∷ t) s h = hold_in_turn known t (before known (Sent noted) t s) h
hold_in_turn known (Did act ∷ t) s h = hold_in_turn known t (before known (Did act) t s) h

-- ---- what comes of an upstream comes of an open one

-- what comes before an event opens and closes nothing
open_stays : (k : ℕ) (segment t : List Entry) → acts segment ≡ [] → happened segment ≡ [] → is_open k (segment ++ t) ≡ is_open k t
open_stays k [] t a h = refl
open_stays k (Came noted ∷ segment) t a h = open_stays k segment t a h
open_stays k (Breached breach ∷ segment) t a h = open_stays k segment t a h
open_stays k (Happened event ∷ segment) t a h = absurd (let no : event ∷ happened segment ≡ [] = h in cc)
open_stays k (Sent noted ∷ segment) t a h = open_stays k segment t a h
open_stays k (Did act ∷ segment) t a h = absurd (let no : act ∷ acts segment ≡ [] = a in cc)

quiet_come : (segment t : List Entry) → happened segment ≡ [] → ComeOfOpen t → ComeOfOpen (segment ++ t)
quiet_come [] t h c = c
quiet_come (Came noted ∷ segment) t h c = quiet_come segment t h c
quiet_come (Breached breach ∷ segment) t h c = quiet_come segment t h c
quiet_come (Happened event ∷ segment) t h c = absurd (let no : event ∷ happened segment ≡ [] = h in cc)
quiet_come (Sent noted ∷ segment) t h c = quiet_come segment t h c
quiet_come (Did act ∷ segment) t h c = quiet_come segment t h c

-- an event that may come behind a tape
event_comes : (event : Event) (segment t : List Entry) → is_admitted t event ≡ true → acts segment ≡ [] → happened segment ≡ [] → ComeOfOpen t → ComeOfOpen (Happened event ∷ segment ++ t)
event_comes (Up k piece) segment t may a h c = (open_stays k segment t a h ∙ up_open t k piece may, quiet_come segment t h c)
event_comes (UpEnd k) segment t may a h c = (open_stays k segment t a h ∙ end_open t k may, quiet_come segment t h c)
event_comes (Client piece) segment t may a h c = quiet_come segment t h c
event_comes ClientEnd segment t may a h c = quiet_come segment t h c
event_comes (ClientTook count) segment t may a h c = quiet_come segment t h c
event_comes (UpFailed k) segment t may a h c = quiet_come segment t h c
event_comes (UpTook k count) segment t may a h c = quiet_come segment t h c
event_comes Drain segment t may a h c = quiet_come segment t h c

-- the one event of a list
one_event : (event found : Event) (more : List Event) → found ∷ more ≡ event ∷ [] → (found ≡ event) × (more ≡ [])
one_event event found more e = (let same : found ≡ event = cc in same, let none : more ≡ [] = cc in none)

listed_one : (event found : Event) (more : List Event) → found ∷ more ≡ listed event → (found ≡ event) × (more ≡ [])
listed_one (Client piece) found more e = absurd (let no : found ∷ more ≡ [] = e in cc)
listed_one ClientEnd found more e = one_event ClientEnd found more e
listed_one (ClientTook count) found more e = one_event (ClientTook count) found more e
listed_one (Up k piece) found more e = one_event (Up k piece) found more e
listed_one (UpEnd k) found more e = one_event (UpEnd k) found more e
listed_one (UpFailed k) found more e = one_event (UpFailed k) found more e
listed_one (UpTook k count) found more e = one_event (UpTook k count) found more e
listed_one Drain found more e = one_event Drain found more e

step_comes : (event : Event) (segment t : List Entry) → is_admitted t event ≡ true → happened segment ≡ listed event → ActsFollow segment → ComeOfOpen t → ComeOfOpen (segment ++ t)
step_comes event [] t may h a c = c
step_comes event (Came noted ∷ segment) t may h a c = step_comes event segment t may h a c
step_comes event (Breached breach ∷ segment) t may h a c = step_comes event segment t may h a c
step_comes event (Happened found ∷ segment) t may h a c =
    let one = listed_one event found (happened segment) h in
    event_comes found segment t (ap (is_admitted t) one.0 ∙ may) a one.1 c
step_comes event (Sent noted ∷ segment) t may h a c = step_comes event segment t may h a c
step_comes event (Did act ∷ segment) t may h a c = step_comes event segment t may h a c

pub come_of_open : (known : Known) (steps : List Step) (tape : List Entry) → HasTape known steps tape → ComeOfOpen tape
come_of_open known [] tape h = subst ComeOfOpen (sym h) tt
come_of_open known (step ∷ earlier) tape h =
    let segment = h.0 in
    let t = h.1 in
    let taped : IsTaped known earlier step t segment = h.3 in
    let comes = come_of_open known earlier t h.4 in
    subst ComeOfOpen (sym h.2) (step_comes step.event segment t taped.admitted.in_order taped.step_is.event taped.step_is.acts_follow comes)

-- no connection is kept on the tape of a log
pub keeps_none : (known : Known) (step : Step) (earlier : List Step) (tape : List Entry) → known.setup.keep ≡ false → HasTape known (step ∷ earlier) tape → KeepsNone known tape
keeps_none known step earlier tape off h =
    let clauses : ClausesHold known tape = subst (ClausesHold known) (sym h.2) h.3.clauses in record {
      off = off;
      requests = clauses.requests;
      go_to_open = clauses.progress.go_to_open;
      come_of_open = come_of_open known (step ∷ earlier) tape h;
    }

-- ---- the headline

module _ (known : Known) (off : known.setup.keep ≡ false) where
  told_once : (text : List ℕ) (t : List Entry) → Stands known t → IsTold known text t → IsToldOnce known text t
  told_once text t s h = record {
    read = h.read;
    table = h.table;
    decodes = h.decodes;
    others_are_read = h.others_are_read;
    failures = are_judged known t s h.failures;
    ends = h.ends;
  }

  taped_once : (earlier : List Step) (step : Step) (t segment : List Entry) → Stands known (segment ++ t) → IsTaped known earlier step t segment → IsTapedOnce known earlier step t segment
  taped_once earlier step t segment s h = record {
    admitted = admitted_once known t (before_all known segment t s) step.event h.admitted;
    step_is = h.step_is;
    told = told_once (client_in (step ∷ earlier)) (segment ++ t) s h.told;
    in_turn = hold_in_turn known (segment ++ t) s h.in_turn;
    clauses = clauses_hold known (segment ++ t) s h.clauses;
  }

  has_tape_once : (steps : List Step) (tape : List Entry) → HasTape known steps tape → HasTapeOnce known steps tape
  has_tape_once [] tape h = h
  has_tape_once (step ∷ earlier) tape h =
      let segment = h.0 in
      let t = h.1 in
      let taped : IsTaped known earlier step t segment = h.3 in
      let s = subst (Stands known) h.2 (stands known tape (keeps_none known step earlier tape off h)) in
      (segment, t, h.2, taped_once earlier step t segment s taped, has_tape_once earlier t h.4)

pub headline_holds : (setup : Setup) (log : List Step) → setup.keep ≡ false → Headline setup log → HeadlineOnce setup log
headline_holds setup log off h = record {
  known = h.known;
  of_setup = h.of_setup;
  tape = h.tape;
  has_tape = has_tape_once h.known (ap (λ (s : Setup). s.keep) h.of_setup ∙ off) (reverse log) h.tape h.has_tape;
}
