-- How many octets lie in this crate's types. Each count takes the struct apart by the names of all its fields: what lies in one field more has to be
-- counted here.
use Rattle.std.specs.Prelude.{ℕ, ◌+◌, length}
use Rattle.h1_writer.specs.Sending.{held_back, most_line}
use Rattle.request_buffer.specs.Waits.{Request}
use Rattle.request_buffer.specs.declared.going.Going.TheInside.{Inside as GoingInside}
use Rattle.request_buffer.specs.declared.buffered_request.BufferedRequest.TheInside.{Inside as WaitingInside}

-- the octets of a request that waits, as it is seen, and room for the line of a chunk, which it may have between its head and its body
abbrev pub octets_of : Request → ℕ
octets_of request = length request.text + length request.body + held_back request.stage + most_line

-- those that lie in it: its head, the room for a line and its body are one list
abbrev pub in_waiting : WaitingInside → ℕ
in_waiting = λ record { route = route; sender = sender; octets = octets; head = head; body = body }. length octets.items + held_back sender

-- in one that goes out
abbrev pub in_going : GoingInside → ℕ
in_going = λ record { sender = sender }. held_back sender
