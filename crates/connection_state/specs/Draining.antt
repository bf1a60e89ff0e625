-- What changes where the operator wants the connection to end.
use Rattle.std.specs.Prelude.{◌≡◌, ℕ, Bool, true, false, ◌||◌, ◌==◌, List, length}
use Rattle.model.specs.Limits.{most_streams}
use Rattle.model.specs.StreamStates.{Standing}
use Rattle.model.specs.StreamStates.Standing.{Beyond}
use Rattle.model.specs.Lifetimes.{may_open}
use Rattle.theory_errors.specs.Rows.{Row, ids_of}
use Rattle.streams.specs.Asked.{standing}
use Rattle.connection_state.specs.Inbound.{Inbound}

-- no stream may be opened any more
abbrev pub is_full_in : Inbound → Bool
is_full_in inbound = inbound.drained || length inbound.rows == most_streams

-- an id is above all that were opened
abbrev pub is_beyond : Standing → Bool
is_beyond Beyond = true
is_beyond other = false

-- An id stands as it would, were the connection not drained.
pub record AreAsEver (drained : Bool) (rows : List Row) (id : ℕ) : Type 0 where
  pub stands : standing drained rows id ≡ standing false rows id
  pub opens : may_open drained (ids_of rows) id ≡ may_open false (ids_of rows) id
