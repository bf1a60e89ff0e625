-- What the side of a connection takes, and what is kept and goes back then.
use Rattle.std.specs.Prelude.{◌≡◌, ℕ, ◌+◌, ◌≤◌, List, map, Option, Some, None}
use Rattle.theory_receive_windows.specs.Marks.{released}
use Rattle.theory_requests.specs.Lines.{find}
use Rattle.upstream_connections.specs.Connections.{Connection, number_of, taken_at}
use Rattle.window_credit.specs.Sides.{queue_of, released_behind, taken_of_all}
use Rattle.refinement.specs.View.{View}

-- The connection is open, and so many octets that were put out for it weren't taken.
pub record MayBeTaken (live : List Connection) (k count : ℕ) : Type 0 where
  pub connection : Connection
  pub found : find number_of k live ≡ Some connection
  pub within : connection.took + count ≤ connection.out

-- how many octets the side of a connection took, if it is open
abbrev pub took_if : Option Connection → ℕ
took_if None = 0
took_if (Some connection) = connection.took

-- how many it took where it takes so many more
abbrev pub took_then : ℕ → ℕ → View → ℕ
took_then k count kept = took_if (find number_of k kept.upstreams.live) + count

-- what is kept where the side of a connection, which was given to this stream last, took so many octets more
abbrev pub with_taken : ℕ → ℕ → ℕ → View → View
with_taken k stream count kept = record kept {
  upstreams = record kept.upstreams { live = map (taken_at k count) kept.upstreams.live };
  marks = taken_of_all stream k (took_then k count kept) kept.marks;
}

-- the octets of the stream's DATA that no longer wait then, and those of streams that had the connection before
abbrev pub own_released : ℕ → ℕ → ℕ → View → ℕ
own_released k stream count kept = released (took_then k count kept) (queue_of stream kept.marks)

abbrev pub older_released : ℕ → ℕ → View → ℕ
older_released k count kept = released_behind k (took_then k count kept) kept.marks
