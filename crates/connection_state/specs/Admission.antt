-- Whether DATA is admitted, before its stream is looked at.
use Rattle.std.specs.Prelude.{◌≡◌, true, false, length, Some, pos, int_lt}
use Rattle.model.specs.Frames.{Frame}
use Rattle.model.specs.Errors as errors
use Rattle.model.specs.ErrorClause.{is_fatal}
use Rattle.theory_errors.specs.Owing.{fault_in}
use Rattle.theory_errors.specs.Quiet.{coming}
use Rattle.streams.specs.Asked.{is_active}
use Rattle.connection_state.specs.Inbound.{Inbound, Outside, told_of}
use Rattle.connection_state.specs.Judgement.{is_of_stream}

-- DATA has a fault, which isn't one of its stream. Unless it is one of the connection, its stream isn't active, and the connection has
-- room for it.
pub record IsRefused (inbound : Inbound) (frame : Frame) (fault : errors.Fault) : Type 0 where
  pub is : (outside : Outside) → fault_in (told_of outside inbound) (coming frame) ≡ Some fault
  pub mild : is_of_stream (Some fault) ≡ false
  pub inactive : is_fatal (Some fault) ≡ false → is_active inbound.rows frame.id ≡ false
  pub fits : is_fatal (Some fault) ≡ false → int_lt inbound.room (pos (length frame.payload)) ≡ false

-- DATA comes on an active stream, and the connection has room for it.
pub record IsAdmitted (inbound : Inbound) (frame : Frame) : Type 0 where
  pub active : is_active inbound.rows frame.id ≡ true
  pub fits : int_lt inbound.room (pos (length frame.payload)) ≡ false
