-- How many octets are held of requests, and how many may be.
use Rattle.std.specs.Prelude.{◌≡◌, ℕ, ◌+◌, Bool, false, ◌==◌, if◌then◌else◌, List, [], ◌∷◌, length, Option, Some, None}
use Rattle.model.specs.Frames.{Fits}
use Rattle.model.specs.Limits.{largest_fields}
use Rattle.model.specs.Tapes.{Entry}
use Rattle.model.specs.Tapes.Entry.{Came}
use Rattle.h1_writer.specs.Sending.{held_back, most_line}
use Rattle.theory_requests.specs.Lines.{Line, line_of}
use Rattle.theory_requests.specs.State.{Way, Held, held_of, Due, State}
use Rattle.theory_requests.specs.State.Way.{Waiting, Going, Dropped}
use Rattle.theory_requests.specs.State.Due.{Nothing, ToOpen, ToUse, ToSend}

-- ---- what is held

-- the octets of a request that isn't whole: those that wait, with room for the line of a chunk, and the one that is held back
abbrev pub held_by : Way → ℕ
held_by (Waiting route text stage body) = length text + length body + held_back stage + most_line
held_by (Going k stage) = held_back stage
held_by Dropped = 0

-- the octets that are held of a stream's request
abbrev pub held_requests : ℕ → List Held → ℕ
held_requests stream [] = 0
held_requests stream (h ∷ hs) = (if h.id == stream then held_by h.way else 0) + held_requests stream hs

-- the connection is the stream's
abbrev pub is_for : ℕ → Option Line → Bool
is_for stream None = false
is_for stream (Some line) = line.stream == stream

-- the octets that are due for a stream: on a connection that is to be opened for it, or given to it, or on one of its own
abbrev pub due_for : ℕ → List Line → Due → ℕ
due_for stream ls Nothing = 0
due_for stream ls (ToOpen other route text stage) = if other == stream then length text + held_back stage else 0
due_for stream ls (ToUse k other text stage) = if other == stream then length text + held_back stage else 0
due_for stream ls (ToSend k text) = if is_for stream (line_of k ls) then length text else 0

-- all octets that are held for a stream
abbrev pub held_for : ℕ → State → ℕ
held_for stream s = held_requests stream s.held + due_for stream s.live s.due

-- all octets that are due, and all that are held
abbrev pub due_octets : Due → ℕ
due_octets Nothing = 0
due_octets (ToOpen stream route text stage) = length text + held_back stage
due_octets (ToUse k stream text stage) = length text + held_back stage
due_octets (ToSend k text) = length text

abbrev pub held_of_all : List Held → ℕ
held_of_all [] = 0
held_of_all (h ∷ hs) = held_by h.way + held_of_all hs

abbrev pub held_octets : State → ℕ
held_octets s = held_of_all s.held + due_octets s.due

-- ---- how many may be

-- the most octets of a head's text: a list of fields that isn't too large, and 94 octets beside them, for the request line and the lines
-- host, via, content-length and connection
abbrev pub most_head : ℕ
most_head = largest_fields + 94

-- the most octets of the lines of trailers: those of a list of fields that isn't too large
abbrev pub most_trailers : ℕ
most_trailers = largest_fields

-- the most octets beside a request's body: its head's text, the size of a chunk and the ends of its lines, the last chunk, the trailers'
-- lines, and an octet that is held back
abbrev pub most_beside : ℕ
most_beside = most_head + most_trailers + 26

-- No stream is held twice.
abbrev pub AreApart : List Held → Type 0
AreApart [] = Unit {0}
AreApart (h ∷ hs) = (held_of h.id hs ≡ None) × AreApart hs

-- Each frame of the client's is one that can be spelled.
abbrev pub FitFrames : List Entry → Type 0
FitFrames [] = Unit {0}
FitFrames (Came noted ∷ t) = Fits noted.frame × FitFrames t
FitFrames (e ∷ t) = FitFrames t
