-- How much of a client is read at a time.
use Rattle.std.specs.Prelude.{ℕ, ◌≤◌, length, Option, Some, ⊤}
use Rattle.effects.specs.declared.events.Event.{Event}
use Rattle.effects.specs.declared.events.Event.TheVariants as event
use Rattle.sockets.specs.declared.portion.Portion.{Portion}
use Rattle.sockets.specs.declared.portion.Portion.TheVariants.{Least, Small, Large, Whole}

-- how many octets it is
abbrev pub portion_size : Portion → ℕ
portion_size Least = 1024
portion_size Small = 2048
portion_size Large = 4096
portion_size Whole = 65536

-- the next smaller one, down to the least
abbrev pub smaller_portion : Portion → Portion
smaller_portion Least = Least
smaller_portion Small = Least
smaller_portion Large = Small
smaller_portion Whole = Large

-- the next larger one, short of the whole
abbrev pub larger_portion : Portion → Portion
larger_portion Least = Small
larger_portion Small = Large
larger_portion Large = Large
larger_portion Whole = Whole

-- Octets of the client that come in one event are no more than that.
abbrev pub FitsPortion : Portion → Option Event → Type 0
FitsPortion portion (Some (event.Client octets)) = length octets.items ≤ portion_size portion
FitsPortion portion event = ⊤
