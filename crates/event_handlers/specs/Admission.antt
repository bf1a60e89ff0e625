-- Which event may come, by what is kept.
use Rattle.std.specs.Prelude.{ℕ, ◌+◌, ◌-◌, Bool, true, false, ◌&&◌, nat_le, if◌then◌else◌, length, Option, Some, None, is_some}
use Rattle.model.specs.Logs.{Event}
use Rattle.model.specs.Logs.Event.{Client, ClientEnd, ClientTook, Up, UpEnd, UpFailed, UpTook, Drain}
use Rattle.model.specs.Setup.{Passing}
use Rattle.model.specs.Setup.Passing.{Whole, Streaming}
use Rattle.theory_responses.specs.State as theory_responses
use Rattle.theory_requests.specs.Lines.{find, is_idle}
use Rattle.upstream_response.specs.Waiting.{passing_in}
use Rattle.upstream_connections.specs.Connections.{Connection, number_of}
use Rattle.send_queue.specs.Asked.{held_for}
use Rattle.refinement.specs.View.{View}

-- so many octets more of those that were put out may be taken
abbrev pub may_take : Option Connection → ℕ → Bool
may_take None count = false
may_take (Some c) count = nat_le (c.took + count) c.out

-- the connection to an upstream with this number is open
abbrev pub is_up : View → ℕ → Bool
is_up kept k = is_some (find number_of k kept.upstreams.live)

-- ---- the room of an upstream

-- how many octets of a stream's response take room: where it is passed on as it comes those of its body that weren't sent, else none
abbrev pub takes_room : Passing → theory_responses.State → ℕ → ℕ
takes_room Whole offers stream = 0
takes_room Streaming offers stream = held_for stream offers.kept

-- how many of a connection's do, if that is open: none where it is idle, since the exchange with its last stream is over
abbrev pub held_of : theory_responses.State → Option Connection → ℕ
held_of offers None = 0
held_of offers (Some c) = if is_idle c.live.answer then 0 else takes_room (passing_in c.answer.way) offers c.live.stream

abbrev pub held_on : View → ℕ → ℕ
held_on kept k = held_of kept.offers (find number_of k kept.upstreams.live)

-- how many octets more of it may come in one event: 65,536 less those that take room
abbrev pub room_of : theory_responses.State → Option Connection → ℕ
room_of offers None = 0
room_of offers (Some c) = 65536 - held_of offers (Some c)

abbrev pub room_on : View → ℕ → ℕ
room_on kept k = room_of kept.offers (find number_of k kept.upstreams.live)

-- ---- which event may come

-- the event may come: octets of the client at most 65,536 at a time, and while at most 1,073,741,824 octets for it aren't taken; of an upstream only
-- while its connection is open, and at most as many as it has room for; and of octets only those as taken that were put out and aren't yet
abbrev pub admits : View → Event → Bool
admits kept (Client piece) = nat_le (length piece) 65536 && nat_le kept.untaken 1073741824
admits kept ClientEnd = true
admits kept (ClientTook count) = nat_le count kept.untaken
admits kept (Up k piece) = is_up kept k && nat_le (length piece) (room_on kept k)
admits kept (UpEnd k) = is_up kept k
admits kept (UpFailed k) = is_up kept k
admits kept (UpTook k count) = may_take (find number_of k kept.upstreams.live) count
admits kept Drain = true
