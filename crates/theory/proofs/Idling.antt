-- A connection that is kept as idle is idle, and what is said of its events is so.
use Rattle.std.proofs.Common.{◌≡◌, ℕ, List, ◌++◌, Some, sym, subst, inl, inr}
use Rattle.model.specs.Logs.Event.{Up, UpEnd, UpFailed}
use Rattle.model.specs.Tapes.{Entry}
use Rattle.model.specs.Noticing.{IsPlainlyBad}
use Rattle.model.specs.Openings.{exchange_on}
use Rattle.model.specs.Available.{heard_by}
use Rattle.model.specs.Known.{Known}
use Rattle.model.specs.Failures.{IsPlainlyBroken}
use Rattle.model.specs.Idle.{is_asked_for_head, IsTooLong, IsIdle}
use Rattle.model.proofs.PastLaws.{heard_own, idle_never_fails}
use Rattle.theory_requests.specs.Lines.{Line, line_of}
use Rattle.theory_requests.specs.Lines.Answer.{Idle}
use Rattle.theory_requests.specs.Pool.{Answers}
use Rattle.theory.specs.Moves.{Move}
use Rattle.theory.specs.Moves.Decision.{Idles}
use Rattle.theory.specs.State.{tape_of, state_of}
use Rattle.theory.specs.Answered.{IsAnswered}
use Rattle.theory.proofs.Keeping.{IsKnown}
use Rattle.theory.proofs.Unended.{stands}

-- what is kept of it is so
pub idle_by_state : (known : Known) (run : List Move) → IsKnown known run → (k : ℕ) (line : Line) → line_of k (state_of known.setup run).requests.live ≡ Some line → line.answer ≡ Idle → IsIdle known (tape_of run) k
idle_by_state known run is_known k line found is =
    let so = (stands known run is_known).keeps.are_so k line found in record { is_open = so.opened; kept = subst (Answers known (tape_of run) k) is so.answers }

module _ (known : Known) (t : List Entry) (k : ℕ) where
  pub octets_so : (piece : List ℕ) → IsIdle known t k → (IsPlainlyBad (heard_by (exchange_on k t) t ++ piece) (is_asked_for_head known (exchange_on k t) t) → ⊥) → IsAnswered known t (Idles (Up k piece))
  octets_so piece idle plain = (idle, λ fails. by (subst (λ (x : List ℕ). IsPlainlyBroken known x (is_asked_for_head known (exchange_on k t) t)) (heard_own k piece t) fails))
    where
      by : IsPlainlyBroken known (heard_by (exchange_on k t) t ++ piece) (is_asked_for_head known (exchange_on k t) t) → ⊥
      by (inl bad) = plain bad
      by (inr long) = (idle_never_fails known t k idle).0 piece (inr (subst (λ (x : List ℕ). IsTooLong known x (is_asked_for_head known (exchange_on k t) t)) (sym (heard_own k piece t)) long))

  pub end_so : IsIdle known t k → IsAnswered known t (Idles (UpEnd k))
  end_so idle = (idle, (idle_never_fails known t k idle).1)

  pub failure_so : IsIdle known t k → IsAnswered known t (Idles (UpFailed k))
  failure_so idle = (idle, (idle_never_fails known t k idle).2)
