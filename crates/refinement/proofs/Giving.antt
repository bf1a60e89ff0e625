-- A connection is given to a stream: of the new exchange nothing was heard; and where an idle one is due for it, that may be given to it.
use Rattle.std.proofs.Common.{◌≡◌, ℕ, Bool, true, false, if◌then◌else◌, List, [], ◌∷◌, Option, refl, sym, ◌∙◌, ap, subst, arith}
use Rattle.std.specs.Prelude.{is_some}
use Rattle.std.proofs.lemmas.Bool.{eq-eqb}
use Rattle.model.specs.Logs.Act.{ToUp}
use Rattle.model.specs.Setup.{Setup, Passing}
use Rattle.model.specs.Setup.Passing.{Whole, Streaming}
use Rattle.model.specs.Tapes.{Entry}
use Rattle.model.specs.Tapes.Entry.{Did}
use Rattle.model.specs.Openings.{Opened, exchanges, exchange_on, route_of, given, last_stream, begins_another, connection_of}
use Rattle.model.specs.Available.{heard_by}
use Rattle.model.specs.Known.{Known}
use Rattle.model.specs.Lifetimes.{is_active}
use Rattle.model.specs.Idle.{is_asked_for_head}
use Rattle.model.proofs.ExchangeLaws.{another_on, unheard}
use Rattle.theory_responses.specs.Rule.{BeginsNext}
use Rattle.theory_responses.specs.Sight.{IsRightOf, sight_in}
use Rattle.h1_reader.specs.Standing.{Stands as Reads}
use Rattle.h1_reader.specs.Keeps.{Knows}
use Rattle.h1_reader.proofs.KeepSteps.{knows_new}
use Rattle.upstream_response.specs.Waiting.{passing_in, Waits}
use Rattle.upstream_response.specs.declared.answer.ResponsePassing.{ResponsePassing as Way}
use Rattle.theory_receive_windows.proofs.Resting.{Receiving}
use Rattle.theory_requests.specs.Connections.{IsUsedFor}
use Rattle.theory_requests.specs.Lines.{Line}
use Rattle.theory_requests.specs.Rule as requests
use Rattle.theory_requests.proofs.Standing as standing
use Rattle.upstream_connections.specs.Connections.{fresh}
use Rattle.theory.specs.Moves.{Move}
use Rattle.theory.specs.State.{State, tape_of}
use Rattle.theory.specs.Rule.{rooms_in}
use Rattle.theory.specs.Going.{Uses}
use Rattle.theory.specs.Steps.{told_by, Stands}
use Rattle.refinement.specs.Hearing.{IsSetUp, IsHeard}
use Rattle.refinement.specs.View.{AreSo}
use Rattle.refinement.proofs.Connected.{none_connected}
use Rattle.refinement.proofs.Sound as sound
use Rattle.refinement.proofs.Where.{own, own_led, right_here, stands_here, windows_here, live_here}

-- ---- a new answer

-- An answer of which nothing has come stands for what was heard of an exchange of which nothing was.
pub heard_fresh : (known : Known) (t : List Entry) (k : ℕ) (to_head : Bool) (way : Way) → Reads [] [] (fresh to_head way).reader → heard_by (exchange_on k t) t ≡ [] → to_head ≡ is_asked_for_head known (exchange_on k t) t → IsSetUp known (fresh to_head way) → IsHeard known t k (fresh to_head way)
heard_fresh known t k to_head way reads nothing asked set_up = record {
  parts = [];
  stands = subst (λ x. Reads x [] (fresh to_head way).reader) (sym nothing) reads;
  knows = subst (λ x. Knows x (fresh to_head way).reader) (sym nothing) (knows_new to_head (record { octets = []; connections = []; keeps = false }) refl);
  short = omega arith;
  few_named = omega arith;
  goes_on = refl;
  waits = none_waits (passing_in way);
  asked = asked;
  set_up = set_up;
}
  where
    none_waits : (p : Passing) → Waits p [] (fresh to_head way)
    none_waits Whole = (refl, refl, refl)
    none_waits Streaming = (refl, refl, refl)

-- ---- an idle connection

module _ (setup : Setup) (run : List Move) (s : State) (stand : Stands setup run s) (so : AreSo setup run) (k : ℕ) (octets : List ℕ) (due : requests.MayUse s.requests k octets) where
  abbrev t : List Entry
  t = tape_of run

  abbrev then_tape : List Entry
  then_tape = Did (ToUp k octets) ∷ t

  -- what is due can be done
  pub used : IsUsedFor (own setup run s stand so) t k octets
  used = sound.given_next (own setup run s stand so) run s (own_led setup run s stand so) k octets due

  pub begins : BeginsNext (sight_in (told_by s)) k
  begins = sound.uses_next (own setup run s stand so) run s (own_led setup run s stand so) k octets due

  right : IsRightOf (own setup run s stand so) t (sight_in (told_by s))
  right = right_here setup run s stand so

  stands : standing.Stands (own setup run s stand so) t s.requests
  stands = stands_here setup run s stand so

  -- another exchange begins with it, by the book
  pub begins_here : begins_another (given k s.ledger.book.given) s.ledger.book.last octets ≡ true
  begins_here = ap (λ os. begins_another (given k os) s.ledger.book.last octets) right.given ∙ ap (λ n. begins_another (given k (exchanges t)) n octets) right.last ∙ used.begins

  -- and by the tape
  pub exchange_then : exchange_on k then_tape ≡ another_on k t
  exchange_then =
      ap (λ b. newest (if b then another_on k t ∷ exchanges t else exchanges t)) used.begins
      ∙ ap {A = Bool} {B = Opened} (λ b. record { k = k; route = if b then route_of k (exchanges t) else route_of k (exchanges t); stream = if b then last_stream t else given k (exchanges t) }) (eq-eqb k k refl)
    where
      newest : List Opened → Opened
      newest os = record { k = k; route = route_of k os; stream = given k os }

  -- of which nothing was heard
  pub nothing_heard : heard_by (exchange_on k then_tape) then_tape ≡ []
  nothing_heard = ap (λ (o : Opened). heard_by o t) exchange_then ∙ (unheard (another_on k t) t used.started.none_given some).0
    where
      some : last_stream t ≡ 0 → ⊥
      some zero = Rattle.theory_requests.proofs.Starting.active_some (last_stream t) t used.started.in_time.active zero

  -- So it may be given to the stream of the last frame, where nothing is owed, and where requests are passed on as they come before the effect
  -- of the frame is over.
  pub may_give : s.ledger.queue ≡ [] → (setup.passing ≡ Streaming → s.windows.settled ≡ false) → Uses setup s k octets
  may_give nothing in_effect = record {
    nothing = nothing;
    begins = begins;
    due = due;
    window = record {
      opened = let l = stands.keeps.all k used.again.idle.is_open in ap (λ (o : Option Line). is_some o) l.1;
      begins = begins_here;
      active = live_here setup run s stand so (told_by s).last ∙ begins.active;
      first =
          (rooms.keeping.streams (told_by s).last active_there).connection
          ∙ ap (λ n. connection_of n (exchanges t)) right.last
          ∙ none_connected (last_stream t) (exchanges t) used.started.none_given;
      in_effect = in_effect;
    };
  }
    where
      rooms : Receiving setup.more_room setup.passing t (rooms_in (told_by s) s)
      rooms = windows_here setup run s stand so

      active_there : is_active (told_by s).last t ≡ true
      active_there = sym (right.active (told_by s).last) ∙ begins.active
