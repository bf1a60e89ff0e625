-- How many octets outboxes hold: names and values of the heads and trailers that wait, and what waits of bodies. And the most that there may
-- be.
use Rattle.std.specs.Prelude.{◌≡◌, ℕ, ◌+◌, ◌*◌, false, ◌==◌, List, [], ◌∷◌, ◌++◌, length, Some, None, sum_by}
use Rattle.std.specs.List.{list_any}
use Rattle.model.specs.Messages.{Field}
use Rattle.model.specs.Frames.{is_padded}
use Rattle.model.specs.Setup.{Setup, Passing}
use Rattle.model.specs.Setup.Passing.{Whole, Streaming}
use Rattle.model.specs.Tapes.{Entry}
use Rattle.model.specs.Tapes.Entry.{Happened, Sent}
use Rattle.model.specs.ResponseHeads.{Head}
use Rattle.model.specs.Limits.{longest_section, most_interims}
use Rattle.model.specs.Known.{Known}
use Rattle.model.specs.Rooms.{FitsRoom}
use Rattle.model.specs.Failures.{AreJudged}
use Rattle.theory_responses.specs.Outbox.{Outbox, trailers_at}
use Rattle.theory_responses.specs.Outbox.Outbox.{Before, Behind, Over}
use Rattle.theory_responses.specs.State.{Kept, State}

-- ---- what is held

-- the octets of a head: its names and values
abbrev pub head_octets : Head → ℕ
head_octets head = sum_by (λ (field : Field). length field.name + length field.value) head.fields

-- the heads that wait in an outbox, in their order
abbrev pub heads_waiting : Outbox → List Head
heads_waiting (Before interims (Some final) body whole) = interims ++ final ∷ []
heads_waiting (Before interims None body whole) = interims
heads_waiting _ = []

-- the octets of the body that wait in it
abbrev pub body_waiting : Outbox → List ℕ
body_waiting (Before interims head body whole) = body
body_waiting (Behind body whole) = body
body_waiting Over = []

-- the octets of fields: their names and values
abbrev pub octets_of_fields : List Field → ℕ
octets_of_fields fields = sum_by (λ (field : Field). length field.name + length field.value) fields

-- the trailers that wait in it
abbrev pub trailers_waiting : Outbox → List Field
trailers_waiting (Before interims head body whole) = trailers_at whole
trailers_waiting (Behind body whole) = trailers_at whole
trailers_waiting Over = []

-- all octets that an outbox holds
abbrev pub octets_in : Outbox → ℕ
octets_in box = sum_by head_octets (heads_waiting box) + length (body_waiting box) + octets_of_fields (trailers_waiting box)

-- all that the outboxes of a state hold
abbrev pub octets_held : State → ℕ
octets_held s = sum_by (λ (k : Kept). octets_in k.box) s.kept

-- ---- the most that there may be

-- how many heads wait at most: the interim heads that a response may have, and its final one
abbrev pub most_heads : ℕ
most_heads = most_interims + 1

-- how many octets of a body that is passed on as it comes: an upstream's room
abbrev pub most_streamed : ℕ
most_streamed = 65536

-- how many octets of a body, in each way of passing them on
abbrev pub most_of_body : Passing → Setup → ℕ
most_of_body Whole setup = setup.max_response
most_of_body Streaming setup = most_streamed

-- how many octets one outbox holds at most
abbrev pub most_octets : Setup → ℕ
most_octets setup = most_heads * longest_section + longest_section + most_of_body setup.passing setup

-- ---- what came, and how it went

-- Each event of the tape fitted the room that its connection had.
abbrev pub FitRooms : Known → List Entry → Type 0
FitRooms known [] = Unit {0}
FitRooms known (Happened event ∷ t) = FitsRoom known t event × FitRooms known t
FitRooms known (_ ∷ t) = FitRooms known t

-- No frame to the client has padding.
abbrev pub AreUnpadded : List Entry → Type 0
AreUnpadded [] = Unit {0}
AreUnpadded (Sent noted ∷ t) = (is_padded noted.frame ≡ false) × AreUnpadded t
AreUnpadded (_ ∷ t) = AreUnpadded t

-- What bounds the bodies that wait: where they are passed on whole, that failures are judged rightly, responses that are too long
-- among them; where they are passed on as they come, that each event fitted its room, and that nothing went as padding, which
-- makes room like octets of a body.
abbrev pub AreLimited : Passing → Known → List Entry → Type 0
AreLimited Whole known t = AreJudged known t
AreLimited Streaming known t = FitRooms known t × AreUnpadded t

-- ---- whose outboxes there are

-- No id stands twice.
abbrev pub AreDistinct : List ℕ → Type 0
AreDistinct [] = Unit {0}
AreDistinct (id ∷ ids) = (list_any (λ other. other == id) ids ≡ false) × AreDistinct ids
