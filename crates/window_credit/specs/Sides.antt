-- What is kept of streams' DATA, and how it changes.
use Rattle.std.specs.Prelude.{◌≡◌, ℕ, ◌+◌, ◌≤◌, Bool, true, false, not, ◌&&◌, nat_lt, if◌then◌else◌, ◌==◌, List, []}
use Rattle.std.specs.Prelude.{◌∷◌, length, map, sum_by, Option, Some, None, option_map}
use Rattle.std.specs.List.{list_all}
use Rattle.theory_receive_windows.specs.Marks.{Mark, total, pop, released, push}

-- Of an active stream: the number of the connection that it was given, how many octets were put out for that connection, how many
-- of them its side took, and the octets of the stream's DATA that wait for it. It stays when the connection is closed. Where the connection was given to
-- another stream since, what is put out there now is that stream's.
pub record Side : Type 0 where
  pub id : ℕ
  pub k : ℕ
  pub out : ℕ
  pub took : ℕ
  pub queue : List Mark
  pub past : Bool

-- ---- the streams that are kept

-- what is kept of a stream, if something is
abbrev pub find : ℕ → List Side → Option Side
find id [] = None
find id (side ∷ sides) = if side.id == id then Some side else find id sides

-- one stream changes
abbrev pub change : ℕ → (Side → Side) → List Side → List Side
change id f [] = []
change id f (side ∷ sides) = if side.id == id then f side ∷ sides else side ∷ change id f sides

-- one stream goes
abbrev pub without : ℕ → List Side → List Side
without id [] = []
without id (side ∷ sides) = if side.id == id then without id sides else side ∷ without id sides

-- it goes where it is over
abbrev pub unless_over : Bool → ℕ → List Side → List Side
unless_over over id sides = if over then without id sides else sides

-- an id is above those of all
abbrev pub is_above_all : ℕ → List Side → Bool
is_above_all id sides = list_all (λ (side : Side). nat_lt side.id id) sides

-- ---- what is asked of them

-- the number of a stream's connection
abbrev pub number_of : ℕ → List Side → Option ℕ
number_of id sides = option_map (λ (side : Side). side.k) (find id sides)

abbrev pub queue_if : Option Side → List Mark
queue_if None = []
queue_if (Some side) = side.queue

-- the octets of a stream that wait
abbrev pub queue_of : ℕ → List Side → List Mark
queue_of id sides = queue_if (find id sides)

abbrev pub took_if : Option Side → ℕ
took_if None = 0
took_if (Some side) = side.took

-- how many octets the side of a stream's connection took
abbrev pub took_of : ℕ → List Side → ℕ
took_of id sides = took_if (find id sides)

abbrev pub has_untaken_if : Option Side → Bool
has_untaken_if None = false
has_untaken_if (Some side) = not side.past && nat_lt side.took side.out

-- not all octets that were put out for a stream's connection are taken, where no other stream was given it since
abbrev pub has_untaken : ℕ → List Side → Bool
has_untaken id sides = has_untaken_if (find id sides)

abbrev pub is_past_if : Option Side → Bool
is_past_if None = false
is_past_if (Some side) = side.past

-- a stream's connection was given to another since
abbrev pub is_past : ℕ → List Side → Bool
is_past id sides = is_past_if (find id sides)

-- ---- how one changes

-- a connection was given to the stream, of which so many octets were put out and taken
abbrev pub opened : ℕ → ℕ → ℕ → ℕ → Side
opened id k out took = record { id = id; k = k; out = out; took = took; queue = []; past = false }

-- another stream was given the connection
abbrev pub passing : Side → Side
passing side = record { id = side.id; k = side.k; out = side.out; took = side.took; queue = side.queue; past = true }

-- so many octets more were put out
abbrev pub putting : ℕ → Side → Side
putting count side = record { id = side.id; k = side.k; out = side.out + count; took = side.took; queue = side.queue; past = side.past }

-- so many are taken by now: marks that are reached go
abbrev pub taking : ℕ → Side → Side
taking taken side = record { id = side.id; k = side.k; out = side.out; took = taken; queue = pop taken side.queue; past = side.past }

-- so many octets of DATA wait behind all that was put out
abbrev pub waiting : ℕ → Side → Side
waiting count side = record { id = side.id; k = side.k; out = side.out; took = side.took; queue = push side.queue side.out count; past = side.past }

-- So many may be taken of the octets that were put out for the stream, whose connection no other stream was given since.
pub record MayTake (taken : ℕ) (side : Side) : Type 0 where
  pub newest : side.past ≡ false
  pub within : taken ≤ side.out

-- ---- streams whose connections were given to others since

-- some of its octets wait still
abbrev pub waits_behind : Side → Bool
waits_behind side = side.past && nat_lt 0 (length side.queue)

-- how many do
abbrev pub behind_of : Side → ℕ
behind_of side = if side.past then total side.queue else 0

-- those of all such streams
abbrev pub octets_behind : List Side → ℕ
octets_behind sides = sum_by behind_of sides

-- it is such a stream, and had this connection
abbrev pub waits_on : ℕ → Side → Bool
waits_on k side = side.k == k && waits_behind side

-- So many octets of a connection are taken by now: such a stream that had it, and what goes back of it.
abbrev pub taking_on : ℕ → ℕ → Side → Side
taking_on k taken side = if waits_on k side then taking taken side else side

abbrev pub released_on : ℕ → ℕ → Side → ℕ
released_on k taken side = if waits_on k side then released taken side.queue else 0

-- all that had it, and what goes back of all
abbrev pub taking_behind : ℕ → ℕ → List Side → List Side
taking_behind k taken sides = map (taking_on k taken) sides

abbrev pub released_behind : ℕ → ℕ → List Side → ℕ
released_behind k taken sides = sum_by (released_on k taken) sides

-- and so is it of the stream that has it now
abbrev pub taken_of_all : ℕ → ℕ → ℕ → List Side → List Side
taken_of_all id k taken sides = change id (taking taken) (taking_behind k taken sides)
