-- What octets of the client come to: frames are read off their front, and each is taken whole.
use Rattle.std.specs.Prelude.{◌≡◌, ℕ, ◌+◌, ◌-◌, ◌⊎◌, List, [], ◌∷◌, ◌++◌, length, min, drop, map, reverse, Option, Some, None}
use Rattle.model.specs.Frames.{Frame, Reading, IsTooLong, length_field}
use Rattle.model.specs.Logs.{Output}
use Rattle.model.specs.Setup.{Setup}
use Rattle.model.specs.Tapes as model
use Rattle.frames.specs.Views.{IsUnfinished}
use Rattle.refinement.specs.View.{View, balanced}
use Rattle.event_handlers.specs.Inputs.{Input}
use Rattle.event_handlers.specs.Inputs.Input.{OfFrame, OfBreach}
use Rattle.event_handlers.specs.Comings.{ComesFrom}
use Rattle.event_handlers.specs.Resting.{IsSettled}
use Rattle.gateway.specs.declared.reading.Read.{Read}
use Rattle.gateway.specs.declared.reading.Read.TheVariants as read

-- ---- where a piece is cut

-- How many octets of a piece complete the frame that begins with those that wait, its header and as
-- many behind that as it says (RFC 9113, section 4.1): all of the piece where there are fewer.
abbrev pub completing_in : List ℕ → List ℕ → ℕ
completing_in waiting piece = min (9 + length_field (waiting ++ piece) - length waiting) (length piece)

-- ---- frames, for each setup that the gateway serves by

-- These frames, the oldest first, were read off the front of a text, and taken one after another; the rest is left.
pub record Taking (serves : Setup → Type 0) (old : View) (o : List Output) (text rest : List ℕ) (now : Option View) (o' : List Output) : Type 0 where
  pub frames : List Frame
  pub reading : Reading text frames rest
  pub comes : (setup : Setup) → serves setup → ComesFrom setup old balanced o (reverse (map OfFrame frames)) balanced now o'

-- where the connection goes on, the rest begins no frame, and no header that is too long
abbrev pub LeavesRest : Option View → List ℕ → Type 0
LeavesRest (Some kept) rest = IsUnfinished rest
LeavesRest None rest = Unit {0}

-- All frames were, unless the connection was closed; a header that is too long, which closes it, comes last.
pub record Takes (serves : Setup → Type 0) (old : View) (o : List Output) (text rest : List ℕ) (now : Option View) (o' : List Output) : Type 0 where
  pub frames : List Frame
  pub reading : Reading text frames rest
  pub last : List Input
  pub broken : (last ≡ []) ⊎ ((last ≡ OfBreach model.Breach.TooLong ∷ []) × IsTooLong rest)
  pub comes : (setup : Setup) → serves setup → ComesFrom setup old balanced o (last ++ reverse (map OfFrame frames)) balanced now o'
  pub leaves : LeavesRest now rest

-- So many octets of the text were taken, and the connection goes on; or it was closed.
abbrev pub Reads : (Setup → Type 0) → View → List Output → List ℕ → Read → View → List Output → Type 0
Reads serves old o text (read.Rest used) new o' = Takes serves old o text (drop used text) (Some new) o'
Reads serves old o text read.Over new o' = (rest : List ℕ) × Takes serves old o text rest None o'

-- how many octets were taken, where it goes on
abbrev pub used_in : Read → ℕ
used_in (read.Rest used) = used
used_in read.Over = 0

-- where it goes on, something may come in
abbrev pub RestsIn : Read → View → Type 0
RestsIn (read.Rest used) kept = IsSettled kept
RestsIn read.Over kept = Unit {0}
