-- Tapes of worked rows, for the examples: what a client sends, what the gateway answers, and the parts that several rows share.
use Rattle.std.specs.Prelude.{ℕ, false, List, [], ◌∷◌, codes}
use Rattle.model.specs.Messages.{Field}
use Rattle.model.specs.Frames.{Frame, spell_number, settings_frame, settings_ack}
use Rattle.model.specs.Logs.Event.{Up}
use Rattle.model.specs.Logs.Act.{Open, ToUp, Close}
use Rattle.model.specs.Setup.{Setup}
use Rattle.model.specs.Setup.Policy.{Plain}
use Rattle.model.specs.Setup.Passing.{Whole, Streaming}
use Rattle.model.specs.Tapes.{Entry}
use Rattle.model.specs.Tapes.Note.{NoBlock, Fields}
use Rattle.model.specs.Tapes.Entry.{Came, Happened, Sent, Did}
use Rattle.model.specs.Known.{Known}

-- one route for every authority and path, and bodies of a megabyte
abbrev pub whole : Setup
whole = record { routes = record { authority = []; path = codes "/" } ∷ []; policy = Plain; passing = Whole; max_body = 1048576; max_response = 1048576; keep = false; most_idle = 8; more_room = 0 }

abbrev pub streaming : Setup
streaming = record whole { passing = Streaming }

-- nothing of an upstream failed
abbrev pub by_whole : Known
by_whole = record { setup = whole; failures = [] }

abbrev pub by_streaming : Known
by_streaming = record { setup = streaming; failures = [] }

abbrev pub frame : ℕ → ℕ → ℕ → List ℕ → Frame
frame kind flags id payload = record { kind = kind; flags = flags; id = id; payload = payload }

-- a frame that completes no header block
abbrev pub plain : Frame → Entry
plain f = Came (record { frame = f; note = NoBlock })

abbrev pub headed : Frame → List Field → Entry
headed f fields = Came (record { frame = f; note = Fields fields })

abbrev pub out : Frame → Entry
out f = Sent (record { frame = f; note = NoBlock })

abbrev pub out_headed : Frame → List Field → Entry
out_headed f fields = Sent (record { frame = f; note = Fields fields })

abbrev pub field : List ℕ → List ℕ → Field
field name value = record { name = name; value = value }

-- the fields of a request, and the block of them
abbrev pub head_of : List ℕ → List Field
head_of method =
    field (codes ":method") method
    ∷ field (codes ":scheme") (codes "http")
    ∷ field (codes ":path") (codes "/")
    ∷ field (codes ":authority") (codes "www.example.com")
    ∷ []

abbrev pub get : List Field
get = head_of (codes "GET")

abbrev pub post : List Field
post = head_of (codes "POST")

abbrev pub get_block : List ℕ
get_block = 130 ∷ 134 ∷ 132 ∷ 65 ∷ 15 ∷ codes "www.example.com"

abbrev pub post_block : List ℕ
post_block = 131 ∷ 134 ∷ 132 ∷ 65 ∷ 15 ∷ codes "www.example.com"

-- the gateway's settings, the client's, and their acknowledgement
abbrev pub begun : List Entry
begun = out settings_ack ∷ plain (frame 4 0 0 []) ∷ out (settings_frame 0) ∷ []

-- the text of the GET
abbrev pub get_text : List ℕ
get_text = codes "GET / HTTP/1.1\r\nhost: www.example.com\r\nvia: 2.0 h2gw\r\nconnection: close\r\n\r\n"

-- a GET on a stream, that goes to a connection
abbrev pub getting : ℕ → ℕ → List Entry → List Entry
getting k stream t = Did (ToUp k get_text) ∷ Did (Open k 0) ∷ headed (frame 1 5 stream get_block) get ∷ t

-- ---- what rows have in common

-- a GET on stream 1, and its response with a body of two octets
abbrev pub got : List Entry
got = getting 1 1 begun

abbrev pub answer_text : List ℕ
answer_text = codes "HTTP/1.1 200 OK\r\nContent-Length: 2\r\n\r\nhi"

abbrev pub ok_two : List Field
ok_two = field (codes ":status") (codes "200") ∷ field (codes "content-length") (codes "2") ∷ []

-- the block of these fields: index 8, and the name at index 28 with a value that isn't inserted
abbrev pub ok_block : List ℕ
ok_block = 136 ∷ 15 ∷ 13 ∷ 1 ∷ 50 ∷ []

abbrev pub heard_two : List Entry
heard_two = Happened (Up 1 answer_text) ∷ got

abbrev pub answered : List Entry
answered = out (frame 0 1 1 (codes "hi")) ∷ out_headed (frame 1 4 1 ok_block) ok_two ∷ Did (Close 1) ∷ heard_two

-- a reply of the gateway's own, and its block: the names at the indices 8 and 28
abbrev pub bad_gateway : List Field
bad_gateway = field (codes ":status") (codes "502") ∷ field (codes "content-length") (codes "0") ∷ []

abbrev pub bad_gateway_block : List ℕ
bad_gateway_block = 8 ∷ 3 ∷ 53 ∷ 48 ∷ 50 ∷ 15 ∷ 13 ∷ 1 ∷ 48 ∷ []

-- interim heads
abbrev pub hints : List Field
hints = field (codes ":status") (codes "103") ∷ []

abbrev pub hints_block : List ℕ
hints_block = 8 ∷ 3 ∷ 49 ∷ 48 ∷ 51 ∷ []

-- behind a GET the client's table has its authority, at index 62
abbrev pub next_get_block : List ℕ
next_get_block = 130 ∷ 134 ∷ 132 ∷ 190 ∷ []

-- WINDOW_UPDATE and RST_STREAM
abbrev pub update : ℕ → ℕ → Frame
update id count = frame 8 0 id (spell_number count)

abbrev pub reset : ℕ → ℕ → Frame
reset id code = frame 3 0 id (spell_number code)

abbrev pub settings : List ℕ → Frame
settings payload = frame 4 0 0 payload
