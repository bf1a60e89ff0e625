-- Where the gateway rests behind something that came in, in words of the code.
use Rattle.std.specs.Prelude.{◌≡◌, ℕ, true, ◌<◌, Option, Some, None}
use Rattle.model.specs.Setup.{Setup}
use Rattle.model.specs.Setup.Passing.{Whole}
use Rattle.streams.specs.Asked.{has}
use Rattle.upstream_response.specs.declared.answer.ResponsePassing.{ResponsePassing}
use Rattle.upstream_response.specs.Waiting.{passing_in, limit_in}
use Rattle.connection_state.specs.Blocks.{IsFor}
use Rattle.refinement.specs.View.{View}
use Rattle.refinement.specs.Rest.{IsAtRest}
use Rattle.event_handlers.specs.declared.resting.Onward.{Onward}
use Rattle.event_handlers.specs.declared.resting.Onward.TheVariants as went
use Rattle.event_handlers.specs.declared.taking.ServiceTerms.{ServiceTerms}

-- what is kept of the connection, unless it was closed
abbrev pub now_of : Onward → View → Option View
now_of went.On kept = Some kept
now_of went.Over kept = None

-- Each stream has a number of 31 bits (RFC 9113, section 5.1.1).
abbrev pub AreNumbered : View → Type 0
AreNumbered kept = (id : ℕ) → has kept.inbound.rows id ≡ true → id < 2147483648

-- Something may come in, and streams have numbers.
pub record IsSettled (kept : View) : Type 0 where
  pub rest : IsAtRest kept
  pub numbered : AreNumbered kept

-- Where the connection goes on, this is so.
abbrev pub RestsSo : Onward → View → Type 0
RestsSo went.On kept = IsSettled kept
RestsSo went.Over kept = Unit {0}

-- Bodies are passed on as the setup says.
pub record IsPassedBy (setup : Setup) (way : ResponsePassing) : Type 0 where
  pub passing : passing_in way ≡ setup.passing
  pub limit : setup.passing ≡ Whole → limit_in way ≡ Some setup.max_response

-- The setup is that of this service.
pub record IsServed (setup : Setup) (service : ServiceTerms) : Type 0 where
  pub terms : IsFor setup service.terms
  pub passing : IsPassedBy setup service.passing
  pub keep : service.keep ≡ setup.keep
