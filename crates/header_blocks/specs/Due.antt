-- The maxima with which a block begins.
use Rattle.std.specs.Prelude.{◌≡◌, ℕ, ◌≤◌, List, ◌++◌, Option, unwrap_or, option_to_list}
use Rattle.std.specs.Option.{ForSome}
use Rattle.model.specs.Limits.{first_maximum}
use Rattle.model.specs.Maxima.{Maxima}
use Rattle.header_blocks.specs.Encoding.{StandsFor}
use Rattle.header_blocks.specs.declared.limits.Limits.{Limits}
use Rattle.header_blocks.specs.declared.limits.SizeUpdates.{SizeUpdates}

-- Both are at most the greatest maximum.
pub record AreInRange (limits : Limits) : Type 0 where
  pub least : limits.least ≤ first_maximum
  pub last : limits.last ≤ first_maximum

-- What the limits since the block before make due, and where it leads.
pub record IsDue (maximum : ℕ) (limits : Option Limits) (due : SizeUpdates) : Type 0 where
  pub least : ForSome due.least (λ m. m ≤ first_maximum)
  pub last : ForSome due.last (λ m. m ≤ first_maximum)
  pub reached : unwrap_or due.last (unwrap_or due.least maximum) ≡ due.reached
  pub maxima : (named : List ℕ) → StandsFor named limits → Maxima maximum named (option_to_list due.least ++ option_to_list due.last)
