-- Why the client's octets are no frames, in words of the definitions.
use Rattle.model.specs.Tapes as model
use Rattle.event_handlers.specs.declared.leaving.Breach.{Breach}
use Rattle.event_handlers.specs.declared.leaving.Breach.TheVariants as breach

abbrev pub breach_of : Breach → model.Breach
breach_of breach.WrongPreface = model.Breach.WrongPreface
breach_of breach.TooLong = model.Breach.TooLong
