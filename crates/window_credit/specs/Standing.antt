-- What is kept beside the state of the rule of windows. How many octets were put out for a connection is asked of the stream alone that it was given to
-- last (`newest`), and how many were taken of that and of each for which something waits.
use Rattle.std.specs.Prelude.{◌≡◌, ℕ, Bool, true, false, not, ◌||◌, ◌==◌, nat_lt, if◌then◌else◌, List, [], ◌∷◌, length, map, Some, None}
use Rattle.std.specs.List.{list_any}
use Rattle.theory_receive_windows.specs.Marks.{total, IsAbove}
use Rattle.theory_receive_windows.specs.State.{Row, State, is_live}
use Rattle.window_credit.specs.Sides.{Side, find, queue_of}

-- how many octets of a stream's connection are taken is asked
abbrev pub is_followed : Side → Bool
is_followed side = not side.past || nat_lt 0 (length side.queue)

-- The row of a stream, and what is counted of its connection, are those that are kept.
pub record IsRow (newest out took : ℕ → ℕ) (id : ℕ) (r : Row) (side : Side) : Type 0 where
  pub k : r.k ≡ side.k
  pub queue : r.queue ≡ side.queue
  pub past : side.past ≡ not (newest side.k == id)
  pub put_out : side.past ≡ false → out side.k ≡ side.out
  pub taken : is_followed side ≡ true → took side.k ≡ side.took

-- No stream stands twice.
abbrev pub AreApart : List ℕ → Type 0
AreApart [] = Unit {0}
AreApart (id ∷ ids) = (list_any (λ other. other == id) ids ≡ false) × AreApart ids

abbrev pub ids_of : List Side → List ℕ
ids_of sides = map (λ (side : Side). side.id) sides

-- What is kept is of active streams, of each once, and as the rule has it: rows, the stream that a connection was given to last, and how many octets were
-- put out for it and taken. Of active streams of which nothing is kept none wait.
pub record Keeps (sides : List Side) (active : ℕ → Bool) (row : ℕ → Row) (newest out took : ℕ → ℕ) : Type 0 where
  pub live : (id : ℕ) (side : Side) → find id sides ≡ Some side → active id ≡ true
  pub rows : (id : ℕ) (side : Side) → find id sides ≡ Some side → IsRow newest out took id (row id) side
  pub rest : (id : ℕ) → active id ≡ true → find id sides ≡ None → (row id).queue ≡ []
  pub apart : AreApart (ids_of sides)

-- the same of a state, where connections were last given to these streams
abbrev pub StandFor : (ℕ → ℕ) → List Side → State → Type 0
StandFor newest sides s = Keeps sides (is_live s) s.row newest s.out s.took

-- the streams that connections were given to last, where this one was given to this stream
abbrev pub newest_with : ℕ → ℕ → (ℕ → ℕ) → ℕ → ℕ
newest_with k stream newest j = if k == j then stream else newest j

-- what is kept of this stream, if something is, is of that connection
abbrev pub IsOf : ℕ → ℕ → List Side → Type 0
IsOf id k sides = (side : Side) → find id sides ≡ Some side → side.k ≡ k

-- nothing is kept of this stream that is of that connection
abbrev pub IsOfNone : ℕ → ℕ → List Side → Type 0
IsOfNone id k sides = (side : Side) → find id sides ≡ Some side → side.k ≡ k → ⊥

-- the octets that waited for a stream, where it is over
abbrev pub dropped_of : Bool → ℕ → List Side → ℕ
dropped_of over id sides = if over then total (queue_of id sides) else 0

-- No active stream stands twice, and none has octets that wait behind a mark that is reached.
pub record NoneReached (s : State) : Type 0 where
  pub apart : AreApart s.live
  pub above : (id : ℕ) → is_live s id ≡ true → IsAbove (s.took (s.row id).k) (s.row id).queue
