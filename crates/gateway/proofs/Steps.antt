-- One step: from where the gateway stood to where it stands, for the log with that step.
use Rattle.std.proofs.Common.{◌≡◌, List, [], ◌∷◌, ◌++◌, reverse, refl, sym, ◌∙◌, ap, subst, Option, Some, None, inl, inr}
use Rattle.std.specs.Prelude.{◌⊎◌}
use Rattle.model.specs.Logs.{Event, Output, Step, client_in}
use Rattle.model.specs.Setup.{Setup}
use Rattle.model.specs.Known.{Known}
use Rattle.model.specs.Tapes.{Entry, listed, outputs, put_entry, IsRead, IsStep}
use Rattle.theory_errors.specs.Rule.{AreKnown}
use Rattle.theory_errors.specs.Summary.{Summary}
use Rattle.theory_responses.specs.Held.{FitRooms}
use Rattle.theory.specs.Moves.{Move}
use Rattle.theory.specs.Moves.Move.{Does, Settles}
use Rattle.theory.specs.State.{State, conducts, tape_of, state_of}
use Rattle.theory.specs.Rule.{Rests, RestsBehind}
use Rattle.theory.specs.Steps.{told_by}
use Rattle.theory.proofs.Stepping.{before_is}
use Rattle.refinement.specs.View.{View, balanced, Leads}
use Rattle.refinement.specs.Performing.{put_all}
use Rattle.refinement.proofs.Performing.{tape_behind}
use Rattle.refinement.proofs.Resting.{rests_are_ready}
use Rattle.event_handlers.specs.Inputs.{Input, events_in}
use Rattle.event_handlers.specs.Inputs.Input.{OfEvent}
use Rattle.event_handlers.specs.Comings.{StandsAt, Comes}
use Rattle.event_handlers.specs.Resting.{IsSettled}
use Rattle.gateway.specs.Stands.{AreAnswered, MayCome, AreFitting}
use Rattle.gateway.proofs.Fitting.{fit_step}
use Rattle.gateway.proofs.Told.{happened_by}

-- what is known behind moves is known before the last of them
pub known_before : (known : Known) (moves run : List Move) → AreKnown known (conducts (moves ++ run)) → AreKnown known (conducts run)
known_before known [] run knows = knows
known_before known (Does d ∷ moves) run knows = known_before known moves run knows.0
known_before known (Settles ∷ moves) run knows = known_before known moves run knows

-- what entries put out
put_none : (t : List Entry) → put_all [] t ≡ outputs t
put_none [] = refl
put_none (e ∷ t) = ap (λ (o : List Output). put_entry o e) (put_none t)

module _ (setup : Setup) (log : List Step) (run : List Move) (answered : AreAnswered setup log run) where
  -- the gateway rests where moves led to what is at rest, and behind the connection's end
  pub rests_behind : (moves : List Move) (now : Option View) → StandsAt setup moves balanced now → ((kept : View) → now ≡ Some kept → IsSettled kept) → RestsBehind setup moves
  rests_behind moves None over settled = over.rests
  rests_behind moves (Some kept) at settled =
      let s : State = at.0 in
      let leads : Leads setup moves kept balanced s = at.1 in
      let ready = rests_are_ready setup moves kept s leads (settled kept refl).rest in
      subst (λ (u : Summary). Rests u (state_of setup moves)) (sym (before_is setup moves s leads.stands)) (subst (λ (x : State). Rests (told_by s) x) (sym leads.stands.is) ready.rests)

  -- what comes by an event's inputs is a step
  pub step_by : (event : Event) (inputs : List Input) (now : Option View) (q : List Output) → events_in inputs ≡ listed event → (c : Comes setup run [] inputs balanced now q)
      → IsStep (record { event = event; outputs = reverse q }) (tape_of c.moves)
  step_by event inputs now q events c = record {
    spelled = c.spelled;
    put_out = ap reverse (c.puts ∙ put_none (tape_of c.moves));
    event = happened_by (tape_of c.moves) ∙ ap events_in c.came ∙ events;
    acts_follow = c.acts_follow;
  }

  -- the log with one step more is answered
  pub answered_more : (event : Event) (inputs : List Input) (now : Option View) (q : List Output) → MayCome setup run event → events_in inputs ≡ listed event
      → (c : Comes setup run [] inputs balanced now q) → RestsBehind setup (c.moves ++ run) → IsRead (client_in (record { event = event; outputs = reverse q } ∷ log)) (tape_of (c.moves ++ run))
      → AreAnswered setup (record { event = event; outputs = reverse q } ∷ log) (c.moves ++ run)
  answered_more event inputs now q admitted events c rests read known same knows = (
    c.moves,
    run,
    refl,
    record {
      admitted = admitted known same (known_before known c.moves run knows);
      step_is = step_by event inputs now q events c;
      read = read;
      rests = subst (λ (x : Setup). RestsBehind x (c.moves ++ run)) (sym same) rests;
    },
    answered known same (known_before known c.moves run knows),
  )

  -- each event fits that came so far
  pub fits_more : (event : Event) (inputs : List Input) (now : Option View) (q : List Output) → AreFitting setup run → MayCome setup run event → (inputs ≡ OfEvent event ∷ []) ⊎ (events_in inputs ≡ [])
      → (c : Comes setup run [] inputs balanced now q) → AreFitting setup (c.moves ++ run)
  fits_more event inputs now q fits admitted alone c known same knows =
      let before = known_before known c.moves run knows in
      subst (FitRooms known) (sym (tape_behind c.moves run))
      (fit_step known (tape_of run) (fits known same before) event (admitted known same before).fits (tape_of c.moves)
      (elim alone [ inl one ↦ inl (c.came ∙ one) | inr none ↦ inr (ap events_in c.came ∙ none) ]) c.acts_follow)
