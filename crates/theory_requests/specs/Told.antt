-- What is told of a point by the book of the connection's errors (`theory_errors`), which says what has become of each stream and whether the
-- connection is to end.
use Rattle.std.specs.Prelude.{◌≡◌, ℕ, Bool, false, ◌&&◌, List, is_none}
use Rattle.model.specs.Tapes.{Entry, is_closed}
use Rattle.model.specs.Known.{Known}
use Rattle.model.specs.Lifetimes.{is_active}
use Rattle.model.specs.Courses.{cause}
use Rattle.model.specs.ErrorClause.{must_end}

-- the stream is served: it is active, and the gateway doesn't answer it itself
abbrev pub is_served : Known → ℕ → List Entry → Bool
is_served known stream t = is_active stream t && is_none (cause known stream t)

-- What is told of a point.
pub record Told : Type 0 where
  pub served : ℕ → Bool
  -- the connection to the client is to end, and it was closed
  pub ends : Bool
  pub closed : Bool

-- It is so.
pub record IsTold (known : Known) (t : List Entry) (told : Told) : Type 0 where
  pub served : (stream : ℕ) → told.served stream ≡ is_served known stream t
  pub ends : told.ends ≡ must_end known t
  pub closed : told.closed ≡ is_closed t

-- what is told before anything comes
abbrev pub nothing_told : Told
nothing_told = record { served = λ stream. false; ends = false; closed = false }
