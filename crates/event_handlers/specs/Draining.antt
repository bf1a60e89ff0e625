-- What is kept where the operator wants the connection to end.
use Rattle.std.specs.Prelude.{true, if◌then◌else◌, Option, Some, None, ℕ}
use Rattle.theory_errors.specs.Owing.{highest_in}
use Rattle.theory_errors.specs.Rows.{ids_of}
use Rattle.connection_state.specs.Draining.{is_full_in}
use Rattle.refinement.specs.View.{View}

-- what is kept then
abbrev pub drained_at : View → View
drained_at kept = record kept { inbound = record kept.inbound { drained = true } }

-- the last stream, for the GOAWAY, unless none might be opened before
abbrev pub last_of : View → Option ℕ
last_of kept = if is_full_in kept.inbound then None else Some (highest_in (ids_of kept.inbound.rows))
