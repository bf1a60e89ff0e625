-- Open connections.
use Rattle.std.specs.Prelude.{ℕ, nat_lt, suc, ◌+◌, ◌<◌, ◌==◌, ◌^◌, Bool, false, not, if◌then◌else◌, List, []}
use Rattle.std.specs.Prelude.{◌∷◌, map, filter, length, reverse, Option, Some, None}
use Rattle.std.specs.List.{AllPairs}
use Rattle.h1_reader.specs.declared.reader.Place.TheVariants as place
use Rattle.upstream_response.specs.Waiting.{Answer}
use Rattle.upstream_response.specs.declared.answer.ResponsePassing.{ResponsePassing}
use Rattle.upstream_response.specs.declared.answer.ResponsePassing.TheVariants.{Streaming}
use Rattle.theory_requests.specs.Lines as theory_requests
use Rattle.theory_requests.specs.Lines.{Line, Heard, with_answer, given_to, answer_by, is_idle, idle_ones, idle_beside}
use Rattle.theory_requests.specs.Lines.Answer.{Pending}
use Rattle.upstream_connections.specs.Places.{IsAt, IsNowhere}

-- An open connection: as the rule of requests has it, with the answer of its upstream so far, and how many octets were put out for it and
-- how many of them its side took.
pub record Connection : Type 0 where
  pub live : Line
  pub answer : Answer
  pub out : ℕ
  pub took : ℕ

abbrev pub number_of : Connection → ℕ
number_of c = c.live.k

abbrev pub stream_of : Connection → ℕ
stream_of c = c.live.stream

-- the stream that it works for, and one more, so that this is 0 where it is idle: then the exchange with its last one is over
abbrev pub works_for : Connection → ℕ
works_for c = if is_idle c.live.answer then 0 else suc c.live.stream

-- they are those of the rule of requests
abbrev pub lives : List Connection → List Line
lives cs = map (λ (c : Connection). c.live) cs

-- an answer of which nothing has come
abbrev pub fresh : Bool → ResponsePassing → Answer
fresh to_head passing = record {
  reader = record { to_head = to_head; place = place.Head 0; held = record { octets = []; connections = []; keeps = false } };
  way = passing;
  head = None;
  body = [];
  trailers = None;
}

-- one that was just opened, by this route
abbrev pub opened : ℕ → ℕ → ℕ → Bool → ResponsePassing → Connection
opened k route stream to_head passing = record {
  live = record { k = k; route = route; stream = stream; answer = Pending };
  answer = fresh to_head passing;
  out = 0;
  took = 0;
}

-- ---- changes of the connection with a number

-- its response is so far
abbrev pub marked_at : ℕ → theory_requests.Answer → Connection → Connection
marked_at k progress c = record { live = with_answer k progress c.live; answer = c.answer; out = c.out; took = c.took }

-- it is given to a stream, of whose response nothing has come; what was put out for it and what its side took stays counted
abbrev pub given_at : ℕ → ℕ → Answer → Connection → Connection
given_at k stream answer c = record { live = given_to k stream c.live; answer = if c.live.k == k then answer else c.answer; out = c.out; took = c.took }

-- its answer is this now
abbrev pub answer_at : ℕ → Answer → Connection → Connection
answer_at k answer c = record { live = c.live; answer = if c.live.k == k then answer else c.answer; out = c.out; took = c.took }

-- so many octets more were put out
abbrev pub put_at : ℕ → ℕ → Connection → Connection
put_at k count c = record { live = c.live; answer = c.answer; out = if c.live.k == k then c.out + count else c.out; took = c.took }

-- so many more were taken
abbrev pub taken_at : ℕ → ℕ → Connection → Connection
taken_at k count c = record { live = c.live; answer = c.answer; out = c.out; took = if c.live.k == k then c.took + count else c.took }

-- so many octets more can be counted for a connection, if it is open
abbrev pub HasRoom : ℕ → Option Connection → Type 0
HasRoom count None = Unit {0}
HasRoom count (Some c) = c.out + count < 2 ^ 64

-- this was heard of its exchange, by which it becomes idle or doesn't: so many may be
abbrev pub heard_at : ℕ → ℕ → Heard → List Connection → List Connection
heard_at most k heard cs = map (marked_at k (answer_by most (idle_beside k (lives cs)) heard)) cs

-- ---- idle ones

-- a connection that may be open is, and is idle
abbrev pub is_idle_one : Option Connection → Bool
is_idle_one None = false
is_idle_one (Some c) = is_idle c.live.answer

-- how many are idle
abbrev pub idle_count : List Connection → ℕ
idle_count cs = length (idle_ones (lives cs))

-- the numbers of those that are idle, by rising number, where the connections stand with the oldest first
abbrev pub idle_numbers : List Connection → List ℕ
idle_numbers cs = reverse (idle_ones (lives (reverse cs)))

-- Numbers rise: each is less than all that stand behind it.
abbrev pub Rise : List ℕ → Type 0
Rise ks = AllPairs (λ j k. j < k) ks

-- numbers but this one
abbrev pub others : ℕ → List ℕ → List ℕ
others k ks = filter (λ j. not (j == k)) ks

-- this one among numbers that rise
abbrev pub among : ℕ → List ℕ → List ℕ
among k [] = k ∷ []
among k (j ∷ js) = if nat_lt j k then j ∷ among k js else k ∷ j ∷ js

-- ---- where they lie

-- what stands where none is
abbrev pub no_connection : Connection
no_connection = opened 0 0 0 false Streaming

-- The connection at this place has the number.
abbrev pub IsOpenAt : List Connection → ℕ → ℕ → Type 0
IsOpenAt cs k place = IsAt number_of no_connection cs k place

-- None has it.
abbrev pub IsOpenNowhere : List Connection → ℕ → Type 0
IsOpenNowhere cs k = IsNowhere number_of no_connection cs k

-- Numbers of connections, the newest first, fall from below this one.
abbrev pub AreBelow : ℕ → List Connection → Type 0
AreBelow top [] = Unit {0}
AreBelow top (c ∷ cs) = (c.live.k < top) × AreBelow c.live.k cs

-- Those of connections, the oldest first, rise.
abbrev pub AreRising : List Connection → Type 0
AreRising cs = (top : ℕ) × AreBelow top (reverse cs)
