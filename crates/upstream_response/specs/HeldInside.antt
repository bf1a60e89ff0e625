-- How many octets lie in an answer. The count takes the struct apart by the names of all its fields, and counts each by its type: what lies in one field
-- more has to be counted here.
use Rattle.std.specs.Prelude.{ℕ, ◌+◌, length, Option, Some, None}
use Rattle.model.specs.ResponseHeads.{Head}
use Rattle.h1_reader.specs.HeadSizes.{field_octets}
use Rattle.theory_responses.specs.Held.{head_octets, octets_of_fields}
use Rattle.theory_responses.specs.Outbox.{trailers_at}
use Rattle.upstream_response.specs.Waiting.{Answer}
use Rattle.upstream_response.specs.declared.answer.Answer.TheInside.{Inside}
use Rattle.upstream_response.specs.declared.answer.ResponsePassing.{ResponsePassing}

-- none in how a response is passed on, which has a number at most
abbrev pub in_passing : ResponsePassing → ℕ
in_passing passing = 0

-- the octets of a head that waits, if one does
abbrev pub head_waiting : Option Head → ℕ
head_waiting None = 0
head_waiting (Some head) = head_octets head

-- the octets of an answer, as it is seen: those that its reader holds unread, the fields Connection of its head, and its head, its body and its
-- trailers that wait for its end
abbrev pub octets_of : Answer → ℕ
octets_of answer =
    length answer.reader.held.octets + field_octets answer.reader.held.connections + head_waiting answer.head + length answer.body
    + octets_of_fields (trailers_at answer.trailers)

-- those that lie in it
abbrev pub in_answer : Inside → ℕ
in_answer = λ record { alloc = alloc; reader = reader; passing = passing; head = head; body = body; trailers = trailers }.
    in_passing passing + length reader.held.octets + field_octets reader.held.connections + head_waiting head + length body.items
    + octets_of_fields (trailers_at trailers)
