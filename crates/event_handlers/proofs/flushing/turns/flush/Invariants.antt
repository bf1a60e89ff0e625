use Rattle.std.proofs.Common.{◌≡◌, ℕ, ◌<◌, ◌-◌, true}
use Rattle.streams.specs.Asked.{has}
use Rattle.refinement.specs.Rest.{NoneCut, NoneDone, PerformsBack}
use Rattle.event_handlers.proofs.flushing.turns.flush.Given as goal

abbrev pub invariant-loop-session : goal.invariant-loop-session
invariant-loop-session l = PerformsBack l.fn.session l.fn.out l.session l.out × NoneCut l.session.offers × ((id : ℕ) → has l.session.inbound.rows id ≡ true → id < 2147483648) × NoneDone l.session

abbrev pub decreases-loop-session : goal.decreases-loop-session
decreases-loop-session l = 65536 - l.session.untaken
