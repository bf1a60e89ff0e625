-- Why a connection ends, as the rule has it.
use Rattle.std.specs.Prelude.{◌≡◌, ℕ, Option, Some, None}
use Rattle.model.specs.Logs.Event.{ClientEnd}
use Rattle.model.specs.Errors.Fault.{Connection}
use Rattle.model.specs.Tables.{Table}
use Rattle.model.specs.Tapes.{Breach, Noted}
use Rattle.model.specs.Tapes.Entry.{Came, Breached}
use Rattle.theory_errors.specs.Owing.{fault_in}
use Rattle.theory.specs.Moves.{Decision}
use Rattle.theory.specs.Moves.Addition.{Nothing}
use Rattle.theory.specs.Moves.Decision.{Takes, Breaks, Notes}
use Rattle.theory.specs.State.{State}
use Rattle.theory.specs.Ending.{IsFatal}
use Rattle.theory.specs.Steps.{told_by}
use Rattle.event_handlers.specs.declared.ending.reason.Ending.{Ending}
use Rattle.event_handlers.specs.declared.ending.reason.Ending.TheVariants.{Gone, Breach as Broken, Frame}

-- the code of the error, if there is one
abbrev pub code_in : Ending → Option ℕ
code_in Gone = None
code_in (Broken code) = Some code
code_in (Frame code) = Some code

-- The connection ends with this decision: the client's end; what departs from the preface or is too long; a frame that is an error of the
-- connection.
abbrev pub IsBy : State → Ending → Decision → Type 0
IsBy s Gone d = d ≡ Notes ClientEnd
IsBy s (Broken code) d = (breach : Breach) × (d ≡ Breaks breach) × (fault_in (told_by s) (Breached breach) ≡ Some (Connection code))
IsBy s (Frame code) d =
    (noted : Noted) × (next : Table) × (d ≡ Takes noted next Nothing) × (fault_in (told_by s) (Came noted) ≡ Some (Connection code)) × IsFatal s noted next
