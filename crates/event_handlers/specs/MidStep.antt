-- In the midst of a step: what has to be so of what is kept, so that the gateway may come to rest behind what is still to be done.
use Rattle.std.specs.Prelude.{◌≡◌, ℕ, false}
use Rattle.window_credit.specs.Sides.{is_past}
use Rattle.refinement.specs.View.{View}
use Rattle.refinement.specs.Rest.{NoneCut}
use Rattle.event_handlers.specs.Closings.{NoneDoneBut}
use Rattle.event_handlers.specs.Resting.{AreNumbered}

-- The step is about this stream: no reset is owed, no connection is done with but perhaps the stream's, and streams have numbers.
pub record IsMidStep (id : ℕ) (kept : View) : Type 0 where
  pub none_cut : NoneCut kept.offers
  pub none_but : NoneDoneBut id kept
  pub numbered : AreNumbered kept

-- What was due was handed on to an upstream: of what is kept its connections and octets that wait for their sides changed, and nothing else. None is done
-- with that wasn't before, and if the connection of the last frame's stream wasn't given to another since, it isn't now.
pub record IsHandedOn (old new : View) : Type 0 where
  pub inbound : new.inbound ≡ old.inbound
  pub offers : new.offers ≡ old.offers
  pub encoding : new.encoding ≡ old.encoding
  pub untaken : new.untaken ≡ old.untaken
  pub none_but : (id : ℕ) → NoneDoneBut id old → NoneDoneBut id new
  pub newest : is_past old.inbound.last old.marks ≡ false → is_past old.inbound.last new.marks ≡ false
