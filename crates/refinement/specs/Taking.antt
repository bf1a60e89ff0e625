-- What is left to show where a frame of the client is taken that is no error of the connection.
use Rattle.std.specs.Prelude.{◌≡◌, false, true}
use Rattle.model.specs.Setup.{Setup}
use Rattle.model.specs.Tables.{Table}
use Rattle.model.specs.Tapes.{Noted}
use Rattle.model.specs.Tapes.Entry.{Came}
use Rattle.model.specs.Decoding.{is_read}
use Rattle.model.specs.ErrorClause.{is_fatal}
use Rattle.theory_errors.specs.Owing.{fault_in}
use Rattle.theory_header_tables.specs.Rule.{IsTaken}
use Rattle.theory_header_tables.specs.Verdicts.{verdict_in}
use Rattle.theory.specs.Moves.{Addition}
use Rattle.theory.specs.Moves.Decision.{Takes}
use Rattle.theory.specs.State.{State}
use Rattle.theory.specs.Coming.{IsGained}
use Rattle.theory.specs.Steps.{told_by, told_behind}

-- The frame isn't an error of the connection, its note is that of the header block that it completes, and what it gains is so.
pub record IsFrameTaken (setup : Setup) (s : State) (noted : Noted) (next : Table) (addition : Addition) : Type 0 where
  pub mild : is_fatal (fault_in (told_by s) (Came noted)) ≡ false
  pub noted_right : IsTaken s.tables noted (verdict_in (told_by s) noted.frame) next
  pub read : is_read noted.note ≡ false → (verdict_in (told_by s) noted.frame).is_error ≡ true
  pub gained : IsGained setup (told_behind setup s (Takes noted next addition)) s noted addition
