-- What is held of a stream whose items go on, whether requests are passed on whole or as they come, as it stands to what the book tells of
-- the stream.
use Rattle.std.specs.Prelude.{◌≡◌, ℕ, ◌+◌, Bool, true, false, List, [], ◌++◌, length, Some}
use Rattle.std.specs.List.{concat}
use Rattle.model.specs.Http2.{HasLength}
use Rattle.model.specs.Malformed.{has_length, is_within}
use Rattle.request_rules.specs.Heads.{HeadParts}
use Rattle.h1_writer.specs.Sending.{Stage, Sending, MayPush}
use Rattle.h1_writer.specs.Sending.Stage.{Whole, Counting, Holding, Chunking}
use Rattle.theory_errors.specs.Summary.{Outline}
use Rattle.request_buffer.specs.Waits.{MayEnd}
use Rattle.theory_requests.specs.Lines.{Line, line_of}
use Rattle.theory_requests.specs.State.{Way, Held, Due, held_of, is_whole}
use Rattle.theory_requests.specs.State.Way.{Waiting, Going, Dropped}
use Rattle.theory_requests.specs.State.Due.{Nothing, ToOpen, ToUse, ToSend}

-- These octets of the body may be pushed, and the text ended behind them.
abbrev pub MayEndBehind : Stage → List ℕ → Type 0
MayEndBehind Whole octets = ⊥
MayEndBehind (Counting left) octets = length octets ≡ left
MayEndBehind (Holding octet) octets = octets ≡ []
MayEndBehind Chunking octets = Unit {0}

-- A request that waits: it isn't whole, and may end behind as many octets as are declared by what the stream's course counts.
pub record MayWait (outline : Outline) (route : ℕ) (text : List ℕ) (stage : Stage) (body : List ℕ) : Type 0 where
  pub part : is_whole stage ≡ false
  pub may_end : (octets : List ℕ) → has_length outline.declared (outline.octets + length octets) ≡ true
      → MayEnd (record { route = route; text = text; stage = stage; body = body }) octets

-- A request that goes out: it isn't whole, and what was written of it holds as many octets of the body as the stream's course counts. Octets
-- that don't go past what is declared may be pushed, and behind as many as are declared the body is whole and the text may be ended.
pub record MayGoOn (outline : Outline) (stage : Stage) : Type 0 where
  pub part : is_whole stage ≡ false
  pub parts : HeadParts
  pub text : List ℕ
  pub pieces : List (List ℕ)
  pub keep : Bool
  pub sending : Sending keep parts false text pieces [] stage
  pub counted : length (concat pieces) ≡ outline.octets
  pub declared : parts.length ≡ outline.declared
  pub may_push : (octets : List ℕ) → is_within outline.declared (outline.octets + length octets) ≡ true → MayPush stage (length octets)
  pub full : (octets : List ℕ) → has_length outline.declared (outline.octets + length octets) ≡ true → HasLength parts.length (concat pieces ++ octets)
  pub may_end : (octets : List ℕ) → has_length outline.declared (outline.octets + length octets) ≡ true → MayEndBehind stage octets

-- What the book tells of the stream lets its request go on by this way.
abbrev pub GoesBy : Outline → Way → Type 0
GoesBy outline (Waiting route text stage body) = MayWait outline route text stage body
GoesBy outline (Going k stage) = MayGoOn outline stage
GoesBy outline Dropped = Unit {0}

-- Something is held of the stream, and what comes of its request may go on by its way.
pub record IsHeldFor (outline : Outline) (id : ℕ) (hs : List Held) : Type 0 where
  pub way : Way
  pub found : held_of id hs ≡ Some (record { id = id; way = way })
  pub goes : GoesBy outline way

-- A connection is due for the stream, a new one or an idle one, and its request isn't whole.
abbrev pub IsDuePart : Due → ℕ → Type 0
IsDuePart Nothing id = ⊥
IsDuePart (ToOpen stream route text stage) id = (stream ≡ id) × (is_whole stage ≡ false)
IsDuePart (ToUse k stream text stage) id = (stream ≡ id) × (is_whole stage ≡ false)
IsDuePart (ToSend k text) id = ⊥

-- The connection is open, and was given to the stream last.
pub record IsOpenFor (id k : ℕ) (ls : List Line) : Type 0 where
  pub line : Line
  pub found : line_of k ls ≡ Some line
  pub number : line.k ≡ k
  pub stream : line.stream ≡ id
