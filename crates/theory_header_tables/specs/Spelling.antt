-- The frames of one block, and the moves by which they go.
use Rattle.std.specs.Prelude.{◌≡◌, ℕ, Bool, true, false, List, [], ◌∷◌, ◌++◌, Option, Some, None}
use Rattle.model.specs.Messages.{Field}
use Rattle.model.specs.Frames.{Frame, headers_kind, continuation_kind}
use Rattle.model.specs.Tables.{Table}
use Rattle.model.specs.Tapes.{Note}
use Rattle.model.specs.Decoding.{Partial}
use Rattle.model.specs.Tapes.Note.{NoBlock, Fields}
use Rattle.theory_errors.specs.After.{begun_after}
use Rattle.theory_header_tables.specs.State.{State, Move, after}
use Rattle.theory_header_tables.specs.State.Move.{Sends}
use Rattle.theory_header_tables.specs.Rule.{MayCome}

-- fragments together
abbrev pub joined_up : List (List ℕ) → List ℕ
joined_up [] = []
joined_up (fragment ∷ fragments) = fragment ++ joined_up fragments

-- the flags of a HEADERS: END_STREAM, and END_HEADERS
abbrev pub headers_flags : Bool → Bool → ℕ
headers_flags true true = 5
headers_flags true false = 1
headers_flags false true = 4
headers_flags false false = 0

-- a HEADERS with the first fragment, which ends the stream or not, and the block or not
abbrev pub headers_frame : ℕ → Bool → Bool → List ℕ → Frame
headers_frame id ends whole fragment = record { kind = headers_kind; flags = headers_flags ends whole; id = id; payload = fragment }

-- a CONTINUATION with a further one
abbrev pub continuation_frame : ℕ → ℕ → List ℕ → Frame
continuation_frame id flags fragment = record { kind = continuation_kind; flags = flags; id = id; payload = fragment }

-- the block of a stream with these fragments
abbrev pub block_of : ℕ → Bool → List ℕ → Partial
block_of id ends fragments = record { id = id; ends = ends; fragments = fragments }

-- a frame that goes, with its note, where this block was begun
abbrev pub goes : Option Partial → Frame → Note → Table → Move
goes before frame note next = Sends (record { frame = frame; note = note }) before next

-- the moves of further frames behind a block's octets, the oldest first: the last one ends the block
abbrev pub rest_moves : ℕ → Bool → List Field → Table → List ℕ → List ℕ → List (List ℕ) → List Move
rest_moves id ends fields next before fragment [] = goes (Some (block_of id ends before)) (continuation_frame id 4 fragment) (Fields fields) next ∷ []
rest_moves id ends fields next before fragment (another ∷ fragments) =
    goes (Some (block_of id ends before)) (continuation_frame id 0 fragment) NoBlock next
    ∷ rest_moves id ends fields next (before ++ fragment) another fragments

-- the moves of all frames of a block
abbrev pub block_moves : ℕ → Bool → List Field → Table → List ℕ → List (List ℕ) → List Move
block_moves id ends fields next fragment [] = goes None (headers_frame id ends true fragment) (Fields fields) next ∷ []
block_moves id ends fields next fragment (another ∷ fragments) =
    goes None (headers_frame id ends false fragment) NoBlock next ∷ rest_moves id ends fields next fragment another fragments

-- the state behind a whole block
abbrev pub with_whole : Table → State → State
with_whole next s = record s { encoding = record s.encoding { table = next; limits = None } }

-- Each frame of the moves, the oldest first, goes where that block is begun which the frames before it leave.
abbrev pub Follow : Option Partial → List Move → Option Partial → Type 0
Follow block [] last = block ≡ last
Follow block (Sends noted before next ∷ moves) last = (before ≡ block) × Follow (begun_after before noted.frame) moves last
Follow block (_ ∷ moves) last = ⊥

-- The moves, the oldest first, might come one after another, and lead from one state to another.
abbrev pub Leads : State → List Move → State → Type 0
Leads s [] s' = s' ≡ s
Leads s (m ∷ moves) s' = MayCome s m × Leads (after s m) moves s'
