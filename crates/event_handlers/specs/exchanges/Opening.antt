-- What is kept of a stream's DATA once a connection is opened for it or given to it, and more is put out there.
use Rattle.std.specs.Prelude.{◌≡◌, ℕ, true, List, [], ◌∷◌, ◌++◌}
use Rattle.model.specs.Setup.{Passing}
use Rattle.model.specs.Setup.Passing.{Whole, Streaming}
use Rattle.window_credit.specs.Sides.{Side, change, is_above_all, opened, passing, putting}
use Rattle.upstream_connections.specs.Connections.{Connection}
use Rattle.event_handlers.specs.declared.exchanges.opening.Counts.{Counts}

-- the sides where a connection was opened for a stream, and so many octets were put out for it: nothing is kept where bodies are passed on whole
abbrev pub with_side : Passing → ℕ → ℕ → ℕ → List Side → List Side
with_side Whole stream k count sides = sides
with_side Streaming stream k count sides = change stream (putting count) (sides ++ opened stream k 0 0 ∷ [])

-- the sides where a connection went over from one stream to another, of which by then so many octets were put out and taken
abbrev pub with_side_over : Passing → ℕ → ℕ → ℕ → ℕ → ℕ → List Side → List Side
with_side_over Whole from stream k out took sides = sides
with_side_over Streaming from stream k out took sides = change from passing sides ++ opened stream k out took ∷ []

-- The stream that a connection was given to last, and what is counted of that.
pub record IsLast (connection : Connection) (stream : ℕ) (counts : Counts) : Type 0 where
  pub stream_is : stream ≡ connection.live.stream
  pub out : counts.put_out ≡ connection.out
  pub took : counts.taken ≡ connection.took

-- The stream is above all of which something is kept, where bodies are passed on as they come.
abbrev pub IsAbove : Passing → ℕ → List Side → Type 0
IsAbove passing stream sides = passing ≡ Streaming → is_above_all stream sides ≡ true
