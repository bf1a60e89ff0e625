use Rattle.std.proofs.Common.{◌≡◌, ℕ, length}
use Rattle.model.specs.Setup.{Setup}
use Rattle.refinement.specs.Rest.{back_of}
use Rattle.refinement.specs.Bringing.{PerformsOwn}
use Rattle.event_handlers.specs.Closings.{NoneDoneBut}
use Rattle.event_handlers.proofs.paying.closing.close_unserved.Given as goal

-- what was done so far performs, leaves none done with of another stream, and changes nothing but the connections
abbrev pub invariant-loop-k : goal.invariant-loop-k
invariant-loop-k l = record {
  performs : (setup : Setup) (back : ℕ) → PerformsOwn setup l.fn.session (back_of back) l.fn.out l.session (back_of back) l.out;
  none_but : NoneDoneBut l.fn.id l.session;
  inbound : l.session.inbound ≡ l.fn.session.inbound;
  offers : l.session.offers ≡ l.fn.session.offers;
  encoding : l.session.encoding ≡ l.fn.session.encoding;
  untaken : l.session.untaken ≡ l.fn.session.untaken;
}

abbrev pub decreases-loop-k : goal.decreases-loop-k
decreases-loop-k l = length l.session.upstreams.live
