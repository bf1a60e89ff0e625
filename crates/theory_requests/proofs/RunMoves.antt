-- The moves of a worked run: a POST with a body in two DATA frames, between them a GET on another stream, which is reset while its
-- connection is open.
use Rattle.std.proofs.Common.{ℕ, true, false, List, [], ◌∷◌, ◌++◌}
use Rattle.std.specs.Prelude.{codes}
use Rattle.std.specs.List.{flat_map}
use Rattle.model.specs.Messages.{Field}
use Rattle.model.specs.Messages.Item.{Content}
use Rattle.model.specs.Frames.{Frame, settings_frame, settings_ack}
use Rattle.model.specs.Setup.Policy.{Plain}
use Rattle.model.specs.Setup.Passing.{Whole as WholePassing}
use Rattle.model.specs.Logs.Act.{Open, ToUp, Close}
use Rattle.model.specs.Tapes.{Noted}
use Rattle.model.specs.Tapes.Note.{NoBlock, Fields}
use Rattle.model.specs.Known.{Known}
use Rattle.request_rules.specs.Heads.{parts_of}
use Rattle.h1_writer.specs.Sending.{head_of}
use Rattle.model.specs.Http1Text.{chunk_text, last_chunk}
use Rattle.h1_writer.specs.Sending.Stage.{Whole, Chunking}
use Rattle.theory_requests.specs.State.{Move, Turn}
use Rattle.theory_requests.specs.State.Move.{Takes, Begins, Gathers, Sends, Acts}
use Rattle.theory_requests.proofs.Telling.{serving}

-- one route for every authority and path
abbrev pub known : Known
known = record {
  setup = record { routes = record { authority = []; path = codes "/" } ∷ []; policy = Plain; passing = WholePassing; max_body = 1048576; max_response = 1048576; keep = false; most_idle = 8; more_room = 0 };
  failures = [];
}

-- a frame by its parts
abbrev pub frame : ℕ → ℕ → ℕ → List ℕ → Frame
frame kind flags id payload = record { kind = kind; flags = flags; id = id; payload = payload }

-- a frame that completes no header block, and one that completes this
abbrev pub plain : Frame → Noted
plain f = record { frame = f; note = NoBlock }

-- a frame that completes this block
abbrev pub headed : Frame → List Field → Noted
headed f fields = record { frame = f; note = Fields fields }

-- a field by its name and value
abbrev pub field : List ℕ → List ℕ → Field
field name value = record { name = name; value = value }

-- the fields of a request
abbrev pub head_with : List ℕ → List Field
head_with method =
    field (codes ":method") method ∷ field (codes ":scheme") (codes "http") ∷ field (codes ":path") (codes "/") ∷ field (codes ":authority") (codes "a.example") ∷ []

-- a GET, and a POST
abbrev pub get : List Field
get = head_with (codes "GET")

-- the other
abbrev pub post : List Field
post = head_with (codes "POST")

-- the texts: of the GET, and of the POST as its body comes
abbrev pub get_text : List ℕ
get_text = head_of false (parts_of get) true ++ []

-- the POST with these pieces of its body
abbrev pub post_text : List (List ℕ) → List ℕ
post_text pieces = head_of false (parts_of post) false ++ flat_map chunk_text pieces

-- its whole body, and the whole POST
abbrev pub body_text : List ℕ
body_text = chunk_text (codes "hello") ++ last_chunk []

abbrev pub post_whole : List ℕ
post_whole = post_text [] ++ body_text

-- ---- the moves, the newest first

-- a move with which these streams are served
abbrev pub turn : Move → List ℕ → Turn
turn move ids = record { move = move; told = serving ids }

-- settings of both sides, acknowledged
abbrev pub m1 : List Turn
m1 = turn (Sends (plain settings_ack)) [] ∷ turn (Takes (plain (frame 4 0 0 []))) [] ∷ turn (Sends (plain (settings_frame 0))) [] ∷ []

-- HEADERS of the POST
abbrev pub post_head : Noted
post_head = headed (frame 1 4 1 (131 ∷ 134 ∷ 132 ∷ [])) post

-- the first DATA
abbrev pub first_data : Noted
first_data = plain (frame 0 0 1 (codes "he"))

-- HEADERS of a GET, which end the stream
abbrev pub get_head : Noted
get_head = headed (frame 1 5 3 (130 ∷ 134 ∷ 132 ∷ [])) get

-- the last DATA, which ends the stream
abbrev pub last_data : Noted
last_data = plain (frame 0 1 1 (codes "llo"))

-- RST_STREAM
abbrev pub reset : Noted
reset = plain (frame 3 0 3 (0 ∷ 0 ∷ 0 ∷ 8 ∷ []))

-- the head of the POST waits
abbrev pub m2 : List Turn
m2 = turn (Begins post_head post false 0 (post_text []) Chunking) (1 ∷ []) ∷ m1

-- its first octets too
abbrev pub m3 : List Turn
m3 = turn (Gathers first_data (Content (codes "he") false) 0 (post_text []) Chunking [] [] Chunking) (1 ∷ []) ∷ m2

-- a GET comes between
abbrev pub m4 : List Turn
m4 = turn (Begins get_head get true 0 get_text Whole) (3 ∷ 1 ∷ []) ∷ m3

-- it goes out
abbrev pub m5 : List Turn
m5 = turn (Acts (ToUp 1 get_text)) (3 ∷ 1 ∷ []) ∷ turn (Acts (Open 1 0)) (3 ∷ 1 ∷ []) ∷ m4

-- the POST comes to its end
abbrev pub m6 : List Turn
m6 = turn (Gathers last_data (Content (codes "llo") true) 0 (post_text []) Chunking (codes "he") body_text Whole) (3 ∷ 1 ∷ []) ∷ m5

-- it goes out
abbrev pub m7 : List Turn
m7 = turn (Acts (ToUp 2 post_whole)) (3 ∷ 1 ∷ []) ∷ turn (Acts (Open 2 0)) (3 ∷ 1 ∷ []) ∷ m6

-- the stream of the GET is reset, and its connection closed
abbrev pub m8 : List Turn
m8 = turn (Acts (Close 1)) (1 ∷ []) ∷ turn (Takes reset) (1 ∷ []) ∷ m7
