-- What was heard of a connection with octets that make its response whole, where the gateway rests: it may be kept where the response leaves it open,
-- connections are kept, and nothing is held of the request; and else it may not.
use Rattle.std.proofs.Common.{◌≡◌, ℕ, true, false, List, ◌∷◌, Some, None, refl, sym, ◌∙◌, ap, subst}
use Rattle.model.specs.Logs.Event.{Up}
use Rattle.model.specs.Setup.{Setup}
use Rattle.model.specs.Tapes.Entry.{Happened}
use Rattle.model.specs.Openings.{exchange_on}
use Rattle.model.specs.Known.{Known}
use Rattle.model.specs.Idle.{IsAllHeard}
use Rattle.theory_errors.specs.Rule.{AreKnown}
use Rattle.theory_errors.specs.Summary.{Summary}
use Rattle.theory_requests.specs.Lines.{Line, line_of}
use Rattle.theory_requests.specs.Lines.Answer.{Pending}
use Rattle.theory_requests.specs.Lines.Heard.{Keepable, Finished}
use Rattle.theory_requests.specs.State.{Held, held_of}
use Rattle.theory.specs.Answered.{IsHeardBy, LeavesIdle}
use Rattle.theory.specs.Moves.{Move}
use Rattle.theory.specs.State.{State, conducts, tape_of, summary_at, state_of}
use Rattle.theory.specs.Rule.{Rests, RestsBehind, AllAllowed}
use Rattle.theory.specs.Steps.{told_by, Stands}
use Rattle.theory.proofs.Keeping.{IsKnown}
use Rattle.theory.proofs.Stepping.{before_is}
use Rattle.theory.proofs.Verdicts as verdicts
use Rattle.refinement.specs.View.{AreSo}

module _ (setup : Setup) (run : List Move) (s : State) (stand : Stands setup run s) (so : AreSo setup run) (rests : Rests (told_by s) s) (k : ℕ) (line : Line) (found : line_of k s.requests.live ≡ Some line) (pending : line.answer ≡ Pending) where
  -- by the state behind the moves
  rests_behind : RestsBehind setup run
  rests_behind = subst (λ (x : State). Rests (summary_at setup run) x) (sym stand.is) (subst (λ (u : Summary). Rests u s) (sym (before_is setup run s stand)) rests)

  found_behind : line_of k (state_of setup run).requests.live ≡ Some line
  found_behind = ap (λ (x : State). line_of k x.requests.live) stand.is ∙ found

  module _ (known : Known) (same : known.setup ≡ setup) (knows : AreKnown known (conducts run)) where
    is_known : IsKnown known run
    is_known = record { knows = knows; all = subst (λ (x : Setup). AllAllowed x run) (sym same) stand.allowed; answered = so known same knows }

    -- Nothing is held of its request, and the octets leave it idle.
    pub keepable : held_of line.stream s.requests.held ≡ None → (octets : List ℕ) → LeavesIdle known (tape_of run) k octets → IsHeardBy known (tape_of run) (Up k octets) Keepable
    keepable none octets leaves =
        verdicts.keepable known run is_known (subst (λ (x : Setup). RestsBehind x run) (sym same) rests_behind) k line
        (subst (λ (x : Setup). line_of k (state_of x run).requests.live ≡ Some line) (sym same) found_behind) pending
        (subst (λ (x : Setup). held_of line.stream (state_of x run).requests.held ≡ None) (sym same) (ap (λ (x : State). held_of line.stream x.requests.held) stand.is ∙ none)) octets leaves

    -- Something is.
    pub in_part : (held : Held) → held_of line.stream s.requests.held ≡ Some held → (octets : List ℕ) → IsAllHeard known (Happened (Up k octets) ∷ tape_of run) (exchange_on k (tape_of run)) → IsHeardBy known (tape_of run) (Up k octets) Finished
    in_part held is octets whole =
        verdicts.in_part known run is_known (subst (λ (x : Setup). RestsBehind x run) (sym same) rests_behind) k line
        (subst (λ (x : Setup). line_of k (state_of x run).requests.live ≡ Some line) (sym same) found_behind) held
        (subst (λ (x : Setup). held_of line.stream (state_of x run).requests.held ≡ Some held) (sym same) (ap (λ (x : State). held_of line.stream x.requests.held) stand.is ∙ is)) (Up k octets) refl whole

  -- They don't leave it so, or connections aren't kept.
  pub not_left : (known : Known) (octets : List ℕ) → IsAllHeard known (Happened (Up k octets) ∷ tape_of run) (exchange_on k (tape_of run)) → (LeavesIdle known (tape_of run) k octets → ⊥) → IsHeardBy known (tape_of run) (Up k octets) Finished
  not_left known octets whole never = verdicts.not_left known (tape_of run) k octets whole never

  pub not_kept : (known : Known) → known.setup ≡ setup → setup.keep ≡ false → (octets : List ℕ) → IsAllHeard known (Happened (Up k octets) ∷ tape_of run) (exchange_on k (tape_of run)) → IsHeardBy known (tape_of run) (Up k octets) Finished
  not_kept known same off octets whole = not_left known octets whole (λ leaves. let clash : false ≡ true = sym off ∙ ap (λ (x : Setup). x.keep) (sym same) ∙ leaves.keeps in cc)
