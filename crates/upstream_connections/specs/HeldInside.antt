-- How many octets lie in this crate's types. Each count takes the struct apart by the names of all its fields, and counts each by its type: what lies in
-- one field more has to be counted here.
use Rattle.std.specs.Prelude.{ℕ, ◌+◌, List, [], ◌∷◌, reverse}
use Rattle.arrayvec.specs.ArrayVec.{ArrayVec}
use Rattle.h1_writer.specs.Sending.{held_back}
use Rattle.theory_requests.specs.Held.{held_of_all}
use Rattle.request_buffer.specs.HeldInside as requests
use Rattle.upstream_response.specs.HeldInside.{octets_of}
use Rattle.upstream_connections.specs.Connections.{Connection}
use Rattle.upstream_connections.specs.declared.connection.UpstreamConnection.TheInside.{Inside as ConnectionInside}
use Rattle.upstream_connections.specs.declared.held.Held.TheInside.{Inside as HeldInside}
use Rattle.upstream_connections.specs.declared.held.Way.{Way}
use Rattle.upstream_connections.specs.declared.held.Way.TheVariants as way
use Rattle.upstream_connections.specs.declared.idle.Idle.{Idle}
use Rattle.upstream_connections.specs.declared.progress.Progress.{Progress}
use Rattle.upstream_connections.specs.declared.upstreams.Upstreams.TheInside.{Inside as UpstreamsInside}

-- none in a number, and none in how far a response is, which is one of a few names
abbrev pub in_number : ℕ → ℕ
in_number number = 0

abbrev pub in_numbers : ArrayVec ℕ → ℕ
in_numbers numbers = 0

-- nor in the two lists of those that are idle
abbrev pub in_idle : Idle → ℕ
in_idle = λ record { numbers = numbers; keys = keys }. in_numbers numbers + in_numbers keys

abbrev pub in_progress : Progress → ℕ
in_progress progress = 0

-- the octets of the answers of connections, as they are seen
abbrev pub answers_in : List Connection → ℕ
answers_in [] = 0
answers_in (c ∷ cs) = octets_of c.answer + answers_in cs

-- those that lie in a connection: its answer
abbrev pub in_connection : ConnectionInside → ℕ
in_connection = λ record {
  number = number;
  route = route;
  stream = stream;
  progress = progress;
  answer = answer;
  put_out = put_out;
  taken = taken;
}.
    in_number number + in_number route + in_number stream + in_progress progress + in_number put_out + in_number taken + octets_of answer

-- in a request that isn't whole: one that waits, or the octet that is held back of one that goes out
abbrev pub in_way : Way → ℕ
in_way (way.Waiting request) = requests.octets_of request
in_way (way.Going number going) = in_number number + held_back going
in_way way.Dropped = 0

abbrev pub in_held : HeldInside → ℕ
in_held = λ record { id = id; way = way }. in_number id + in_way way

-- in all of them: the requests and the connections, the newest first
abbrev pub in_upstreams : UpstreamsInside → ℕ
in_upstreams = λ record { alloc = alloc; held = held; connections = connections; idle = idle; count = count }.
    in_idle idle + in_number count + held_of_all (reverse held.items) + answers_in (reverse connections.items)
