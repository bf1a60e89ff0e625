-- Where the gateway stands behind an event, by what the event comes to.
use Rattle.std.proofs.Common.{◌≡◌, ℕ, true, false, Bool, List, [], ◌∷◌, ◌++◌, reverse, map, refl, sym, ◌∙◌, ap, subst, append-nil, if◌then◌else◌, Option, Some, None, inl, inr}
use Rattle.std.specs.Prelude.{◌⊎◌, OnOk, Result, Ok, Err}
use Rattle.model.specs.Logs.{Event, Output, Step, client_in, client_octets}
use Rattle.model.specs.Logs.Event.{Client, ClientEnd, ClientTook, Up, UpEnd, UpFailed, UpTook, Drain}
use Rattle.model.specs.Octets.{IsStrictFront}
use Rattle.model.specs.Frames.{preface, settings_frame}
use Rattle.model.specs.Setup.{Setup}
use Rattle.model.specs.Tapes.{Entry, listed, breaches, is_closed, IsRead, IsNoPreface}
use Rattle.model.specs.Tapes as model
use Rattle.frames.specs.Views.{IsUnfinished}
use Rattle.theory.specs.Moves.{Move}
use Rattle.theory.specs.State.{State, tape_of}
use Rattle.refinement.specs.View.{View, Pending, balanced, Leads}
use Rattle.refinement.proofs.Performing.{tape_behind}
use Rattle.event_handlers.specs.Inputs.{Input, events_in}
use Rattle.event_handlers.specs.Inputs.Input.{OfFrame, OfBreach, OfEvent}
use Rattle.event_handlers.specs.Comings.{Comes, ComesFrom}
use Rattle.event_handlers.specs.Resting.{IsSettled, IsPassedBy}
use Rattle.event_handlers.specs.declared.resting.Onward.{Onward}
use Rattle.event_handlers.specs.declared.resting.Onward.TheVariants as answer
use Rattle.event_handlers.proofs.Following.{greets_then, comes_none}
use Rattle.gateway.specs.declared.phase.Phase.{Phase}
use Rattle.gateway.specs.declared.phase.Phase.TheVariants as phase
use Rattle.gateway.specs.Reading.{Takes}
use Rattle.gateway.specs.Stands.{Standing, Serves, Stands, StandsNext, IsOpen, IsIn, IsReadIn, IsUnbegun, IsBehind, IsFresh, is_open, pending_in, MayCome}
use Rattle.gateway.specs.Receiving.{Happens, Hears, Waits, Departs, GoesOn, Greets, KeepsTerms, IsSettledIf, is_begun, greeted}
use Rattle.gateway.proofs.Told.{frames_in, breaches_in, in_events, unbroken_then, unbegun_then, unbegun_read, behind_then, behind_read, waits_kept, waits_unbroken, waits_read, departs_read, goes_unbroken, goes_first, goes_on, IsReadOn}
use Rattle.gateway.proofs.Steps.{rests_behind, answered_more, fits_more, step_by}

-- what follows where a call is Ok, follows where it was
pub on_ok_map : {A E X Y : Type 0} (r : Result A E) → (X → Y) → OnOk r X → OnOk r Y
on_ok_map (Ok a) f x = f x
on_ok_map (Err e) f x = tt

-- ---- by the phase

-- where something may come in, the connection is open
pub open_in : (p : Phase) (setup : Setup) (partial : List ℕ) (kept : View) (text : List ℕ) (run : List Move) → is_open p ≡ true → IsIn p setup partial kept text run → IsOpen setup p partial kept text run
open_in phase.New setup partial kept text run e o = o
open_in phase.Preface setup partial kept text run e o = o
open_in phase.Frames setup partial kept text run e o = o
open_in phase.Closed setup partial kept text run e o = absurd (let no : false ≡ true = e in cc)
open_in phase.Dead setup partial kept text run e o = absurd o

-- once the gateway's settings are sent, nothing is owed
nothing_owed : (more : ℕ) (p : Phase) → pending_in more (greeted p) ≡ balanced
nothing_owed more phase.New = refl
nothing_owed more phase.Preface = refl
nothing_owed more phase.Frames = refl
nothing_owed more phase.Closed = refl
nothing_owed more phase.Dead = refl

-- where nothing is owed, something came
not_fresh : (more : ℕ) (p : Phase) (kept : View) → pending_in more p ≡ balanced → IsFresh p kept
not_fresh more phase.New kept paid = absurd (let both : settings_frame more ∷ [] ≡ [] = ap (λ (p : Pending). p.owed) paid in cc)
not_fresh more phase.Preface kept paid = tt
not_fresh more phase.Frames kept paid = tt
not_fresh more phase.Closed kept paid = tt
not_fresh more phase.Dead kept paid = tt

-- before the preface was read, and behind it
unbegun_in : (p : Phase) (partial text : List ℕ) (t : List Entry) → is_begun (greeted p) ≡ false → IsReadIn p partial text t → IsUnbegun partial text t
unbegun_in phase.New partial text t e o = o
unbegun_in phase.Preface partial text t e o = o
unbegun_in phase.Frames partial text t e o = absurd (let no : true ≡ false = e in cc)
unbegun_in phase.Closed partial text t e o = o
unbegun_in phase.Dead partial text t e o = o

behind_in : (p : Phase) (partial text : List ℕ) (t : List Entry) → is_begun (greeted p) ≡ true → IsReadIn p partial text t → IsBehind partial text t
behind_in phase.Frames partial text t e o = o
behind_in phase.New partial text t e o = absurd (let no : false ≡ true = e in cc)
behind_in phase.Preface partial text t e o = absurd (let no : false ≡ true = e in cc)
behind_in phase.Closed partial text t e o = absurd (let no : false ≡ true = e in cc)
behind_in phase.Dead partial text t e o = absurd (let no : false ≡ true = e in cc)

into_unbegun : (p : Phase) → is_begun p ≡ false → (partial text : List ℕ) (t : List Entry) → IsUnbegun partial text t → IsReadIn p partial text t
into_unbegun phase.New e partial text t u = u
into_unbegun phase.Preface e partial text t u = u
into_unbegun phase.Frames e partial text t u = absurd (let no : true ≡ false = e in cc)
into_unbegun phase.Closed e partial text t u = u
into_unbegun phase.Dead e partial text t u = u

-- what is kept where a step ends
abbrev pub ended : Onward → Standing → Standing
ended answer.On g = g
ended answer.Over g = record g { phase = phase.Closed }

-- ---- a step's end

abbrev pub step_of : Event → List Output → Step
step_of event q = record { event = event; outputs = reverse q }

module _ (setup : Setup) (old : Standing) (log : List Step) (run : List Move) (stands : Stands setup old log run) (event : Event) (admitted : MayCome setup run event) (inputs : List Input) (q : List Output) (events : events_in inputs ≡ listed event) (alone : (inputs ≡ OfEvent event ∷ []) ⊎ (events_in inputs ≡ [])) where
  -- the connection goes on
  pub goes_to : (new : Standing) → Serves setup new → is_open new.phase ≡ true → pending_in setup.more_room new.phase ≡ balanced → IsSettled new.kept → (c : Comes setup run [] inputs balanced (Some new.kept) q)
      → IsRead (client_in (step_of event q ∷ log)) (tape_of (c.moves ++ run)) → IsReadIn new.phase new.partial (client_in (step_of event q ∷ log)) (tape_of (c.moves ++ run)) → breaches (tape_of (c.moves ++ run)) ≡ [] → StandsNext setup new log run event (reverse q)
  goes_to new serves goes paid settled c read octets unbroken = record {
    segment = c.moves;
    step_is = step_by setup log run stands.answered event inputs (Some new.kept) q events c;
    stands = record {
      serves = serves;
      answered = answered_more setup log run stands.answered event inputs (Some new.kept) q admitted events c (rests_behind setup log run stands.answered (c.moves ++ run) (Some new.kept) c.stands (λ kept is. subst IsSettled (some_same is) settled)) read;
      fits = fits_more setup log run stands.answered event inputs (Some new.kept) q stands.fits admitted alone c;
      is_in = into new.phase goes (record { state = c.stands.0; leads = subst (λ p. Leads setup (c.moves ++ run) new.kept p c.stands.0) (sym paid) c.stands.1; settled = settled; octets = octets; unbroken = unbroken; fresh = not_fresh setup.more_room new.phase new.kept paid });
    };
  }
    where
      some_same : {a b : View} → Some a ≡ Some b → a ≡ b
      some_same e = cc

      into : (p : Phase) → is_open p ≡ true → IsOpen setup p new.partial new.kept (client_in (step_of event q ∷ log)) (c.moves ++ run) → IsIn p setup new.partial new.kept (client_in (step_of event q ∷ log)) (c.moves ++ run)
      into phase.New e o = o
      into phase.Preface e o = o
      into phase.Frames e o = o
      into phase.Closed e o = absurd (let no : false ≡ true = e in cc)
      into phase.Dead e o = absurd (let no : false ≡ true = e in cc)

  -- the connection was closed
  pub ends_at : (new : Standing) → Serves setup new → (c : Comes setup run [] inputs balanced None q) → IsRead (client_in (step_of event q ∷ log)) (tape_of (c.moves ++ run)) → StandsNext setup (record new { phase = phase.Closed }) log run event (reverse q)
  ends_at new serves c read = record {
    segment = c.moves;
    step_is = step_by setup log run stands.answered event inputs None q events c;
    stands = record {
      serves = record { servable = serves.servable; routes = serves.routes; max_body = serves.max_body; passing = serves.passing; keep = serves.keep; most_idle = serves.most_idle };
      answered = answered_more setup log run stands.answered event inputs None q admitted events c (rests_behind setup log run stands.answered (c.moves ++ run) None c.stands (λ kept is. absurd (let no : None ≡ Some kept = is in cc))) read;
      fits = fits_more setup log run stands.answered event inputs None q stands.fits admitted alone c;
      is_in = c.stands;
    };
  }

-- ---- by what the event comes to

no_octets : (event : Event) → listed event ≡ event ∷ [] → client_octets event ≡ []
no_octets (Client piece) e = absurd (let no : [] ≡ Client piece ∷ [] = e in cc)
no_octets ClientEnd e = refl
no_octets (ClientTook count) e = refl
no_octets (Up k piece) e = refl
no_octets (UpEnd k) e = refl
no_octets (UpFailed k) e = refl
no_octets (UpTook k count) e = refl
no_octets Drain e = refl

-- it goes on being open
stays_open : (p : Phase) → is_open p ≡ true → is_open (greeted p) ≡ true
stays_open phase.New e = refl
stays_open phase.Preface e = refl
stays_open phase.Frames e = refl
stays_open phase.Closed e = e
stays_open phase.Dead e = e

-- terms that are kept serve as before
serves_on : (setup : Setup) (g g' : Standing) → Serves setup g → g'.routes ≡ g.routes → g'.max_body ≡ g.max_body → g'.passing ≡ g.passing → g'.keep ≡ g.keep → g'.most_idle ≡ g.most_idle → Serves setup g'
serves_on setup g g' s routes body passing keep most = record { servable = s.servable; routes = s.routes ∙ sym routes; max_body = s.max_body ∙ sym body; passing = subst (IsPassedBy setup) (sym passing) s.passing; keep = keep ∙ s.keep; most_idle = most ∙ s.most_idle }

module _ (setup : Setup) (old mid : Standing) (p : List Output) (log : List Step) (run : List Move) (stands : Stands setup old log run) (greets : Greets old mid p) (is_open_yet : is_open old.phase ≡ true) where
  o : IsOpen setup old.phase old.partial old.kept (client_in log) run
  o = open_in old.phase setup old.partial old.kept (client_in log) run is_open_yet stands.is_in

  phase_is : mid.phase ≡ greeted old.phase
  phase_is = ap (λ (g : Standing). g.phase) greets.after

  partial_is : mid.partial ≡ old.partial
  partial_is = ap (λ (g : Standing). g.partial) greets.after

  pub serves_mid : Serves setup mid
  serves_mid = serves_on setup old mid stands.serves (ap (λ (g : Standing). g.routes) greets.after) (ap (λ (g : Standing). g.max_body) greets.after) (ap (λ (g : Standing). g.passing) greets.after) (ap (λ (g : Standing). g.keep) greets.after) (ap (λ (g : Standing). g.most_idle) greets.after)

  mid_open : is_open mid.phase ≡ true
  mid_open = ap is_open phase_is ∙ stays_open old.phase is_open_yet

  mid_paid : pending_in setup.more_room mid.phase ≡ balanced
  mid_paid = ap (pending_in setup.more_room) phase_is ∙ nothing_owed setup.more_room old.phase

  -- behind the settings moves led to what is kept
  pub mid_leads : (moves : List Move) × (s : State) × Leads setup moves mid.kept balanced s
  mid_leads = let one = greets.performs setup run o.state o.leads in (one.segment.moves ++ run, one.segment.state, one.segment.leads)

  from_greeting : (inputs : List Input) (now : Option View) (q : List Output) → ComesFrom setup mid.kept balanced p inputs balanced now q → Comes setup run [] inputs balanced now q
  from_greeting inputs now q later = greets_then setup old.kept mid.kept (pending_in setup.more_room old.phase) balanced balanced p q inputs now (greets.performs setup) greets.only later run o.state o.leads

  module _ (event : Event) (admitted : MayCome setup run event) (hap : Standing) (q : List Output) (terms : KeepsTerms mid hap) where
    serves_hap : Serves setup hap
    serves_hap = serves_on setup mid hap serves_mid terms.routes terms.max_body terms.passing terms.keep terms.most_idle

    -- ---- an event that isn't octets of the client

    module _ (others : listed event ≡ event ∷ []) (stays : hap ≡ record mid { kept = hap.kept }) where
      text_same : client_in (step_of event q ∷ log) ≡ client_in log
      text_same = ap (λ x. client_in log ++ x) (no_octets event others) ∙ append-nil (client_in log)

      hap_phase : hap.phase ≡ greeted old.phase
      hap_phase = ap (λ (g : Standing). g.phase) stays ∙ phase_is

      hap_partial : hap.partial ≡ old.partial
      hap_partial = ap (λ (g : Standing). g.partial) stays ∙ partial_is

      module _ (now : Option View) (c : Comes setup run [] (OfEvent event ∷ []) balanced now q) where
        tape_is : tape_of (c.moves ++ run) ≡ tape_of c.moves ++ tape_of run
        tape_is = tape_behind c.moves run

        read_in : (ph : Phase) → is_open ph ≡ true → IsReadIn ph old.partial (client_in log) (tape_of run) → IsRead (client_in log) (tape_of c.moves ++ tape_of run)
        read_in phase.New e u = unbegun_read (client_in log) (tape_of run) (tape_of c.moves) o.unbroken (ap frames_in c.came) (ap breaches_in c.came) old.partial u
        read_in phase.Preface e u = unbegun_read (client_in log) (tape_of run) (tape_of c.moves) o.unbroken (ap frames_in c.came) (ap breaches_in c.came) old.partial u
        read_in phase.Frames e u = behind_read (client_in log) (tape_of run) (tape_of c.moves) o.unbroken (ap frames_in c.came) (ap breaches_in c.came) old.partial u
        read_in phase.Closed e u = absurd (let no : false ≡ true = e in cc)
        read_in phase.Dead e u = absurd (let no : false ≡ true = e in cc)

        kept_in : (ph : Phase) → is_open ph ≡ true → IsReadIn ph old.partial (client_in log) (tape_of run) → IsReadIn (greeted ph) old.partial (client_in log) (tape_of c.moves ++ tape_of run)
        kept_in phase.New e u = unbegun_then (client_in log) (tape_of run) (tape_of c.moves) o.unbroken (ap frames_in c.came) (ap breaches_in c.came) old.partial u
        kept_in phase.Preface e u = unbegun_then (client_in log) (tape_of run) (tape_of c.moves) o.unbroken (ap frames_in c.came) (ap breaches_in c.came) old.partial u
        kept_in phase.Frames e u = behind_then (client_in log) (tape_of run) (tape_of c.moves) o.unbroken (ap frames_in c.came) (ap breaches_in c.came) old.partial u
        kept_in phase.Closed e u = absurd (let no : false ≡ true = e in cc)
        kept_in phase.Dead e u = absurd (let no : false ≡ true = e in cc)

        event_read : IsRead (client_in (step_of event q ∷ log)) (tape_of (c.moves ++ run))
        event_read = subst (λ x. IsRead x (tape_of (c.moves ++ run))) (sym text_same) (subst (λ t. IsRead (client_in log) t) (sym tape_is) (read_in old.phase is_open_yet o.octets))

        event_kept : IsReadIn hap.phase hap.partial (client_in (step_of event q ∷ log)) (tape_of (c.moves ++ run))
        event_kept =
            subst (λ ph. IsReadIn ph hap.partial (client_in (step_of event q ∷ log)) (tape_of (c.moves ++ run))) (sym hap_phase)
            (subst (λ x. IsReadIn (greeted old.phase) x (client_in (step_of event q ∷ log)) (tape_of (c.moves ++ run))) (sym hap_partial)
            (subst (λ x. IsReadIn (greeted old.phase) old.partial x (tape_of (c.moves ++ run))) (sym text_same)
            (subst (λ t. IsReadIn (greeted old.phase) old.partial (client_in log) t) (sym tape_is) (kept_in old.phase is_open_yet o.octets))))

        event_unbroken : breaches (tape_of (c.moves ++ run)) ≡ []
        event_unbroken = ap breaches tape_is ∙ unbroken_then (client_in log) (tape_of run) (tape_of c.moves) o.unbroken (ap frames_in c.came) (ap breaches_in c.came)

      hears_goes : IsSettled hap.kept → Comes setup run [] (OfEvent event ∷ []) balanced (Some hap.kept) q → StandsNext setup hap log run event (reverse q)
      hears_goes settled c =
          goes_to setup old log run stands event admitted (OfEvent event ∷ []) q (sym others) (inl refl) hap serves_hap (ap is_open hap_phase ∙ stays_open old.phase is_open_yet) (ap (pending_in setup.more_room) hap_phase ∙ nothing_owed setup.more_room old.phase) settled c
          (event_read (Some hap.kept) c) (event_kept (Some hap.kept) c) (event_unbroken (Some hap.kept) c)

      hears_over : Comes setup run [] (OfEvent event ∷ []) balanced None q → StandsNext setup (record hap { phase = phase.Closed }) log run event (reverse q)
      hears_over c = ends_at setup old log run stands event admitted (OfEvent event ∷ []) q (sym others) (inl refl) hap serves_hap c (event_read None c)

    pub hears_next : (went : Onward) → IsSettledIf went hap.kept → listed event ≡ event ∷ [] → Hears mid hap went p q event → StandsNext setup (ended went hap) log run event (reverse q)
    hears_next answer.On settled others h = hears_goes others h.stays settled (from_greeting (OfEvent event ∷ []) (Some hap.kept) q (h.comes setup serves_mid))
    hears_next answer.Over settled others h = hears_over others h.stays (from_greeting (OfEvent event ∷ []) None q (h.comes setup serves_mid))

-- ---- octets of the client

module _ (setup : Setup) (old mid : Standing) (p : List Output) (log : List Step) (run : List Move) (stands : Stands setup old log run) (greets : Greets old mid p) (is_open_yet : is_open old.phase ≡ true) (piece : List ℕ) (admitted : MayCome setup run (Client piece)) (hap : Standing) (q : List Output) (terms : KeepsTerms mid hap) where
  before : IsOpen setup old.phase old.partial old.kept (client_in log) run
  before = o setup old mid p log run stands greets is_open_yet

  serves_behind : Serves setup hap
  serves_behind = serves_hap setup old mid p log run stands greets is_open_yet (Client piece) admitted hap q terms

  unread_is : mid.partial ++ piece ≡ old.partial ++ piece
  unread_is = ap (λ x. x ++ piece) (partial_is setup old mid p log run stands greets is_open_yet)

  unbegun_yet : is_begun mid.phase ≡ false → IsUnbegun old.partial (client_in log) (tape_of run)
  unbegun_yet unbegun = unbegun_in old.phase old.partial (client_in log) (tape_of run) (ap is_begun (sym (phase_is setup old mid p log run stands greets is_open_yet)) ∙ unbegun) before.octets

  comes_by : (inputs : List Input) (now : Option View) → ComesFrom setup mid.kept balanced p inputs balanced now q → Comes setup run [] inputs balanced now q
  comes_by inputs now later = from_greeting setup old mid p log run stands greets is_open_yet inputs now q later

  -- they are a front of the preface
  pub waits_next : (went : Onward) → IsSettledIf went hap.kept → Waits mid hap went p q (mid.partial ++ piece) → StandsNext setup (ended went hap) log run (Client piece) (reverse q)
  waits_next answer.Over settled w = absurd (let no : answer.Over ≡ answer.On = w.goes_on in cc)
  waits_next answer.On settled w =
      let kept_is : hap.kept ≡ mid.kept = ap (λ (g : Standing). g.kept) w.after in
      let c : Comes setup run [] [] balanced (Some hap.kept) q = comes_by [] (Some hap.kept) (subst (λ k. ComesFrom setup mid.kept balanced p [] balanced (Some k) q) (sym kept_is) (subst (λ x. ComesFrom setup mid.kept balanced p [] balanced (Some mid.kept) x) (sym w.puts_nothing) (comes_none setup mid.kept balanced p))) in
      let tape : tape_of (c.moves ++ run) ≡ tape_of c.moves ++ tape_of run = tape_behind c.moves run in
      let u = unbegun_yet w.unbegun in
      let front = subst (λ x. IsStrictFront x preface) unread_is w.front in
      let phase_of : hap.phase ≡ mid.phase = ap (λ (g : Standing). g.phase) w.after in
      let partial_of : hap.partial ≡ old.partial ++ piece = ap (λ (g : Standing). g.partial) w.after ∙ unread_is in
      let kept = waits_kept old.partial (client_in log) piece (tape_of run) (tape_of c.moves) u before.unbroken front c.came in
      goes_to setup old log run stands (Client piece) admitted [] q refl (inr refl) hap serves_behind
      (ap is_open phase_of ∙ mid_open setup old mid p log run stands greets is_open_yet) (ap (pending_in setup.more_room) phase_of ∙ mid_paid setup old mid p log run stands greets is_open_yet) settled c
      (subst (λ t. IsRead (client_in log ++ piece) t) (sym tape) (waits_read old.partial (client_in log) piece (tape_of run) (tape_of c.moves) u before.unbroken front c.came))
      (subst (λ t. IsReadIn hap.phase hap.partial (client_in log ++ piece) t) (sym tape) (subst (λ x. IsReadIn hap.phase x (client_in log ++ piece) (tape_of c.moves ++ tape_of run)) (sym partial_of) (into_unbegun hap.phase (ap is_begun phase_of ∙ w.unbegun) (old.partial ++ piece) (client_in log ++ piece) (tape_of c.moves ++ tape_of run) kept)))
      (ap breaches tape ∙ waits_unbroken old.partial (client_in log) piece (tape_of run) (tape_of c.moves) u before.unbroken front c.came)

  -- they depart from it
  pub departs_next : (went : Onward) → Departs mid hap went p q (mid.partial ++ piece) → StandsNext setup (ended went hap) log run (Client piece) (reverse q)
  departs_next answer.On d = absurd (let no : answer.On ≡ answer.Over = d.is_over in cc)
  departs_next answer.Over d =
      let c : Comes setup run [] (OfBreach model.Breach.WrongPreface ∷ []) balanced None q = comes_by (OfBreach model.Breach.WrongPreface ∷ []) None (d.comes setup) in
      ends_at setup old log run stands (Client piece) admitted (OfBreach model.Breach.WrongPreface ∷ []) q refl (inr refl) hap serves_behind c
      (subst (λ t. IsRead (client_in log ++ piece) t) (sym (tape_behind c.moves run)) (departs_read old.partial (client_in log) piece (tape_of run) (tape_of c.moves) (unbegun_yet d.unbegun) before.unbroken (subst IsNoPreface unread_is d.no_preface) c.came))

  -- frames are read off them
  module _ (behind : List ℕ) (begins : mid.partial ++ piece ≡ (if is_begun mid.phase then behind else preface ++ behind)) (rest : List ℕ) (now : Option View) (takes : Takes (λ s. Serves s mid) mid.kept p behind rest now q) where
    abbrev came_in : List Input
    came_in = takes.last ++ reverse (map OfFrame takes.frames)

    no_event : events_in came_in ≡ []
    no_event = elim takes.broken [
      | inl none ↦ ap (λ (l : List Input). events_in (l ++ reverse (map OfFrame takes.frames))) none ∙ in_events takes.frames
      | inr long ↦ ap (λ (l : List Input). events_in (l ++ reverse (map OfFrame takes.frames))) long.0 ∙ in_events takes.frames
    ]

    frames_come : Comes setup run [] came_in balanced now q
    frames_come = comes_by came_in now (takes.comes setup (serves_mid setup old mid p log run stands greets is_open_yet))

    begins_by : (b : Bool) → is_begun (greeted old.phase) ≡ b → old.partial ++ piece ≡ (if b then behind else preface ++ behind)
        → IsReadOn (client_in log) piece (tape_of run) (tape_of frames_come.moves) before.unbroken takes.frames takes.last rest takes.broken frames_come.came
    begins_by true e is = goes_on (client_in log) piece (tape_of run) (tape_of frames_come.moves) before.unbroken takes.frames takes.last rest takes.broken frames_come.came old.partial behind (behind_in old.phase old.partial (client_in log) (tape_of run) e before.octets) is takes.reading
    begins_by false e is = goes_first (client_in log) piece (tape_of run) (tape_of frames_come.moves) before.unbroken takes.frames takes.last rest takes.broken frames_come.came old.partial behind (unbegun_in old.phase old.partial (client_in log) (tape_of run) e before.octets) is takes.reading

    read_on : IsReadOn (client_in log) piece (tape_of run) (tape_of frames_come.moves) before.unbroken takes.frames takes.last rest takes.broken frames_come.came
    read_on = begins_by (is_begun (greeted old.phase)) refl (sym unread_is ∙ begins ∙ ap (λ ph. if is_begun ph then behind else preface ++ behind) (phase_is setup old mid p log run stands greets is_open_yet))

    tape_on : tape_of (frames_come.moves ++ run) ≡ tape_of frames_come.moves ++ tape_of run
    tape_on = tape_behind frames_come.moves run

    read_by : (is_closed (tape_of (frames_come.moves ++ run)) ≡ false → IsUnfinished rest) → IsRead (client_in log ++ piece) (tape_of (frames_come.moves ++ run))
    read_by leaves = subst (λ t. IsRead (client_in log ++ piece) t) (sym tape_on) (read_on.read (λ e. leaves (ap is_closed tape_on ∙ e)))

  pub reads_next : (went : Onward) → IsSettledIf went hap.kept → GoesOn mid hap went p q (mid.partial ++ piece) → StandsNext setup (ended went hap) log run (Client piece) (reverse q)
  reads_next answer.On settled g =
      let r = g.reads in
      let t = r.takes in
      let c = frames_come g.behind g.begins r.rest (Some hap.kept) t in
      let on = read_on g.behind g.begins r.rest (Some hap.kept) t in
      let tape = tape_on g.behind g.begins r.rest (Some hap.kept) t in
      let phase_of : hap.phase ≡ phase.Frames = ap (λ (x : Standing). x.phase) r.keeps in
      let partial_of : hap.partial ≡ r.rest = ap (λ (x : Standing). x.partial) r.keeps in
      goes_to setup old log run stands (Client piece) admitted (came_in g.behind g.begins r.rest (Some hap.kept) t) q (no_event g.behind g.begins r.rest (Some hap.kept) t) (inr (no_event g.behind g.begins r.rest (Some hap.kept) t)) hap serves_behind
      (ap is_open phase_of) (ap (pending_in setup.more_room) phase_of) settled c
      (read_by g.behind g.begins r.rest (Some hap.kept) t (λ e. t.leaves))
      (subst (λ ph. IsReadIn ph hap.partial (client_in log ++ piece) (tape_of (c.moves ++ run))) (sym phase_of) (subst (λ x. IsBehind x (client_in log ++ piece) (tape_of (c.moves ++ run))) (sym partial_of) (subst (λ x. IsBehind r.rest (client_in log ++ piece) x) (sym tape) (on.kept t.leaves))))
      (ap breaches tape ∙ goes_unbroken (client_in log) piece (tape_of run) (tape_of c.moves) before.unbroken t.frames t.last r.rest t.broken c.came t.leaves)
  reads_next answer.Over settled g =
      let r = g.reads in
      let c = frames_come g.behind g.begins r.rest None r.takes in
      ends_at setup old log run stands (Client piece) admitted (came_in g.behind g.begins r.rest None r.takes) q (no_event g.behind g.begins r.rest None r.takes) (inr (no_event g.behind g.begins r.rest None r.takes)) hap serves_behind c
      (read_by g.behind g.begins r.rest None r.takes (λ e. absurd (let no : true ≡ false = sym c.stands.closed ∙ e in cc)))

-- ---- all of it

pub stands_next : (setup : Setup) (old mid : Standing) (p : List Output) (log : List Step) (run : List Move) → Stands setup old log run → Greets old mid p → is_open old.phase ≡ true
    → (event : Event) → MayCome setup run event → (hap : Standing) (q : List Output) → KeepsTerms mid hap → (went : Onward) → IsSettledIf went hap.kept → Happens mid hap went p q event
    → StandsNext setup (ended went hap) log run event (reverse q)
stands_next setup old mid p log run stands greets goes (Client piece) admitted hap q terms went settled h = elim h [
  | inl w ↦ waits_next setup old mid p log run stands greets goes piece admitted hap q terms went settled w
  | inr other ↦ elim other [
    | inl d ↦ departs_next setup old mid p log run stands greets goes piece admitted hap q terms went d
    | inr g ↦ reads_next setup old mid p log run stands greets goes piece admitted hap q terms went settled g
  ]
]
stands_next setup old mid p log run stands greets goes ClientEnd admitted hap q terms went settled h = hears_next setup old mid p log run stands greets goes ClientEnd admitted hap q terms went settled refl h
stands_next setup old mid p log run stands greets goes (ClientTook count) admitted hap q terms went settled h = hears_next setup old mid p log run stands greets goes (ClientTook count) admitted hap q terms went settled refl h
stands_next setup old mid p log run stands greets goes (Up k piece) admitted hap q terms went settled h = hears_next setup old mid p log run stands greets goes (Up k piece) admitted hap q terms went settled refl h
stands_next setup old mid p log run stands greets goes (UpEnd k) admitted hap q terms went settled h = hears_next setup old mid p log run stands greets goes (UpEnd k) admitted hap q terms went settled refl h
stands_next setup old mid p log run stands greets goes (UpFailed k) admitted hap q terms went settled h = hears_next setup old mid p log run stands greets goes (UpFailed k) admitted hap q terms went settled refl h
stands_next setup old mid p log run stands greets goes (UpTook k count) admitted hap q terms went settled h = hears_next setup old mid p log run stands greets goes (UpTook k count) admitted hap q terms went settled refl h
stands_next setup old mid p log run stands greets goes Drain admitted hap q terms went settled h = hears_next setup old mid p log run stands greets goes Drain admitted hap q terms went settled refl h
