-- Where moves led.
use Rattle.std.specs.Prelude.{List}
use Rattle.model.specs.Known.{Known}
use Rattle.theory_errors.specs.Rule.{AreKnown}
use Rattle.theory.specs.Moves.{Move}
use Rattle.theory.specs.State.{State, conducts}
use Rattle.theory.specs.Answered.{AreAnswered}
use Rattle.theory.specs.Steps.{Stands}

-- The state stands behind moves that came by the rule, where the connection goes on; what is known of failures is what they say, and what
-- they say of answers is so.
pub record IsLed (known : Known) (run : List Move) (s : State) : Type 0 where
  pub knows : AreKnown known (conducts run)
  pub answered : AreAnswered known run
  pub stands : Stands known.setup run s
