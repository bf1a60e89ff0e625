-- What holds where moves led: of the offers, of what waits to go back, and of requests and connections.
use Rattle.std.proofs.Common.{◌≡◌, ℕ, List, refl, sym, ◌∙◌, ap, subst}
use Rattle.model.specs.Setup.{Setup}
use Rattle.model.specs.Tapes.{Entry}
use Rattle.model.specs.Known.{Known}
use Rattle.theory_errors.specs.Summary.{Summary}
use Rattle.theory_errors.specs.Rule.{AreKnown, known_of}
use Rattle.theory_errors.proofs.Knowing.{known_so}
use Rattle.theory_responses.specs.Sight.{IsRightOf, sight_in}
use Rattle.theory_responses.proofs.Ruling.{Placed}
use Rattle.theory_responses.proofs.Allowing.{placed}
use Rattle.theory_receive_windows.specs.Policy.{Gates, AreAllowed}
use Rattle.theory_receive_windows.specs.Rule.{moves_of, state_with, state_behind, kept_behind}
use Rattle.theory_receive_windows.specs.State as windows
use Rattle.theory_receive_windows.proofs.Resting.{Receiving, receiving}
use Rattle.theory_receive_windows.proofs.Incoming.{live_among}
use Rattle.theory_receive_windows.proofs.Ruling.{all_allowed, state_same}
use Rattle.theory_requests.proofs.Standing as standing
use Rattle.theory.specs.Moves.{Move}
use Rattle.theory.specs.State.{State, conducts, tape_of, offers_of, windows_of, state_of}
use Rattle.theory.specs.Rule.{rooms_in}
use Rattle.theory.specs.Steps.{told_by, Stands}
use Rattle.theory.proofs.Tapes.{offers_tape, windows_tape}
use Rattle.theory.proofs.Placing.{offers_may, offers_right, offers_told, windows_may, windows_gates, windows_right}
use Rattle.theory.proofs.Stepping.{before_is}
use Rattle.refinement.specs.Led.{IsLed}
use Rattle.refinement.specs.View.{AreSo}
use Rattle.refinement.proofs.Sound as sound

-- Moves that came by the rule, of which what they say of answers is so, led here, whatever is known of them.
pub led_to : (known : Known) (setup : Setup) (run : List Move) (s : State) → known.setup ≡ setup → AreKnown known (conducts run) → Stands setup run s → AreSo setup run → IsLed known run s
led_to known setup run s same knows stand so = record { knows = knows; answered = so known same knows; stands = subst (λ (x : Setup). Stands x run s) (sym same) stand }

module _ (setup : Setup) (run : List Move) (s : State) (stand : Stands setup run s) (so : AreSo setup run) where
  -- what follows of failures from the moves alone
  abbrev pub own : Known
  own = known_of setup (conducts run)

  pub own_led : IsLed own run s
  own_led = led_to own setup run s refl (known_so setup (conducts run)) stand so

  -- what is read of the book is right
  pub right_here : IsRightOf own (tape_of run) (sight_in (told_by s))
  right_here = sound.right own run s own_led

  -- what is kept of requests stands for the tape
  pub stands_here : standing.Stands own (tape_of run) s.requests
  stands_here = sound.stands own run s own_led

  -- so does what is on offer
  pub placed_here : Placed own (tape_of run) s.offers
  placed_here =
      subst (λ (x : State). Placed own (tape_of run) x.offers) stand.is
      (subst (λ (t : List Entry). Placed own t (state_of setup run).offers) (offers_tape setup run)
      (placed own (offers_of setup run) (offers_may setup run stand.allowed) (offers_right own run own_led.knows stand.allowed) (offers_told own run own_led.knows own_led.answered)).1)

  -- and what is kept of the client's octets, and of those that were put out
  rooms_same : state_behind setup.more_room setup.passing (windows_of setup run) ≡ rooms_in (told_by s) s
  rooms_same =
      ap (λ (g : Gates). state_with g (kept_behind setup.more_room setup.passing (windows_of setup run))) (windows_gates setup run)
      ∙ ap (λ (u : Summary). rooms_in u (state_of setup run)) (before_is setup run s stand)
      ∙ ap (λ (x : State). rooms_in (told_by s) x) stand.is

  pub moved_here : windows.state_of setup.more_room setup.passing (moves_of (windows_of setup run)) ≡ rooms_in (told_by s) s
  moved_here = sym (state_same own setup.more_room setup.passing (windows_of setup run) (windows_may setup run stand.allowed) (windows_right own run own_led.knows stand.allowed own_led.answered)) ∙ rooms_same

  -- moves of windows that were allowed led to it
  pub windows_allowed : AreAllowed setup.more_room setup.passing (moves_of (windows_of setup run))
  windows_allowed = all_allowed own setup.more_room setup.passing (windows_of setup run) (windows_may setup run stand.allowed) (windows_right own run own_led.knows stand.allowed own_led.answered)

  pub windows_here : Receiving setup.more_room setup.passing (tape_of run) (rooms_in (told_by s) s)
  windows_here =
      subst (λ (x : windows.State). Receiving setup.more_room setup.passing (tape_of run) x) moved_here
      (subst (λ (t : List Entry). Receiving setup.more_room setup.passing t (windows.state_of setup.more_room setup.passing (moves_of (windows_of setup run)))) (windows_tape setup run)
      (receiving setup.more_room setup.passing (moves_of (windows_of setup run)) windows_allowed))

  -- a stream is active by what is kept of windows just where it is by the book
  pub live_here : (id : ℕ) → windows.is_live (rooms_in (told_by s) s) id ≡ (sight_in (told_by s)).active id
  live_here id = live_among setup.more_room setup.passing (tape_of run) (rooms_in (told_by s) s) id windows_here.keeping ∙ sym (right_here.active id)
