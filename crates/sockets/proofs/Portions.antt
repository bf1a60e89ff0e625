-- How large portions are, and what fits them.
use Rattle.std.proofs.Common.{◌≡◌, ◌<◌, ◌≤◌, length, ◌∷◌, arith}
use Rattle.std.specs.Prelude.{true, false, Option, None, Some}
use Rattle.effects.specs.declared.events.Event.{Event}
use Rattle.effects.specs.declared.events.Event.TheVariants as event
use Rattle.socket_io.specs.declared.incoming.Got.{Got}
use Rattle.socket_io.specs.declared.incoming.Got.TheVariants as got
use Rattle.sockets.specs.Idle.{is_of_client}
use Rattle.sockets.specs.Performed.{IsWithin, client_heard}
use Rattle.sockets.specs.Portions.{portion_size, FitsPortion}
use Rattle.sockets.specs.declared.portion.Portion.{Portion}
use Rattle.sockets.specs.declared.portion.Portion.TheVariants.{Least, Small, Large, Whole}

pub portion_some : (portion : Portion) → 0 < portion_size portion
portion_some Least = omega arith
portion_some Small = omega arith
portion_some Large = omega arith
portion_some Whole = omega arith

pub portion_fits : (portion : Portion) → portion_size portion ≤ 65536
portion_fits Least = omega arith
portion_fits Small = omega arith
portion_fits Large = omega arith
portion_fits Whole = omega arith

-- What a read of the client gave fits.
pub heard_fits : (portion : Portion) (got : Got) → IsWithin (portion_size portion) got → FitsPortion portion (client_heard got)
heard_fits portion (got.Octets octets) within = within.1
heard_fits portion got.Nothing within = tt
heard_fits portion got.End within = tt

-- What isn't octets of the client fits.
pub others_fit : (portion : Portion) (event : Option Event) → is_of_client event ≡ false → FitsPortion portion event
others_fit portion None other = tt
others_fit portion (Some (event.Client octets)) other = absurd (let no : true ≡ false = other in cc)
others_fit portion (Some event.ClientEnd) other = tt
others_fit portion (Some (event.ClientTook count)) other = tt
others_fit portion (Some (event.Up k octets)) other = tt
others_fit portion (Some (event.UpEnd k)) other = tt
others_fit portion (Some (event.UpFailed k)) other = tt
others_fit portion (Some (event.UpTook k count)) other = tt
others_fit portion (Some event.Drain) other = tt
