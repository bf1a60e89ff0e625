-- Where a reader stands: what its value says of all octets that it was fed, and of all pieces that it told.
use Rattle.std.specs.Prelude.{◌≡◌, ℕ, ◌+◌, ◌<◌, ◌≤◌, Bool, true, false, List, [], ◌∷◌, ◌++◌, length, map, ◌⊎◌, Some, None}
use Rattle.std.specs.List.{concat, list_any}
use Rattle.httparse.specs.Grammar.{HasNoResponse, MayBecomeResponse, HasNoSection, MayBecomeSection}
use Rattle.model.specs.Octets.{Joined}
use Rattle.model.specs.ResponseHeads as model
use Rattle.model.specs.Messages.{Field}
use Rattle.model.specs.ResponseHeads.{named_by_connection}
use Rattle.model.specs.Limits.{longest_section, most_interims}
use Rattle.model.specs.ResponseHeads.Framing.{Chunks as IsChunks, Sized as IsSized, UntilEnd as IsUntilEnd}
use Rattle.model.specs.Responses.{Response, H1Response, ChunkLine, Chunk as IsChunk, HasBody, IsComplete, IsSpoilt, Seen}
use Rattle.response_texts.specs.ChunkLines.{IsLinePart, IsInRange}
use Rattle.h1_reader.specs.Parts.{Part, ends_with}
use Rattle.h1_reader.specs.Parts.Part.{Interim, Final, Body, Done}
use Rattle.response_texts.specs.declared.chunk_line.LinePlace.{LinePlace}
use Rattle.h1_reader.specs.declared.reader.Place.{Place}
use Rattle.h1_reader.specs.declared.reader.Ended.{Ended}
use Rattle.h1_reader.specs.declared.reader.Ended.TheVariants.{Complete, Short}
use Rattle.h1_reader.specs.declared.reader.Place.TheVariants.{Head, Sized, UntilEnd, Line, Chunk, ChunkEnd, ChunkReturn, Trailers, Past, Broken}

-- What is held: the octets that begin no head or no trailers yet, the fields Connection of the final head, and whether that lets its
-- connection stay open.
pub record Held : Type 0 where
  pub octets : List ℕ
  pub connections : List Field
  pub keeps : Bool

-- the names that these fields gave (RFC 9110, section 7.6.1)
abbrev pub names_held : Held → List (List ℕ)
names_held held = named_by_connection held.connections

-- A reader's value: whether the response answers HEAD, its place, and what is held.
pub record State : Type 0 where
  pub to_head : Bool
  pub place : Place
  pub held : Held

-- Whole interim heads were told, and the rest of the octets, which is held, begins with no head and may become one.
pub record BeforeHead (count : ℕ) (held text : List ℕ) (parts : List Part) : Type 0 where
  pub interims : List model.Head
  pub front : List ℕ
  pub is : text ≡ front ++ held
  pub are_interims : Joined model.Interim front interims
  pub has_count : count ≡ length interims
  pub few : count ≤ most_interims
  pub no_head : HasNoResponse held
  pub may_become : MayBecomeResponse held
  pub short : length held ≤ longest_section
  pub told : parts ≡ map Interim interims

-- Whole interim heads, the final head and octets of its body were told; behind the head stands the rest.
pub record InBody (to_head : Bool) (framing : model.Framing) (text rest octets : List ℕ) (parts ends : List Part) : Type 0 where
  pub interims : List model.Head
  pub head : model.Head
  pub front : List ℕ
  pub head_text : List ℕ
  pub bodies : List (List ℕ)
  pub is : text ≡ front ++ head_text ++ rest
  pub are_interims : Joined model.Interim front interims
  pub few : length interims ≤ most_interims
  pub is_final : model.Final to_head head_text head framing
  pub has_octets : octets ≡ concat bodies
  pub told : parts ≡ map Interim interims ++ (Final head ∷ map Body bodies ++ ends)

-- So many octets of the body are to come.
pub record InSized (to_head : Bool) (left : ℕ) (text : List ℕ) (parts : List Part) : Type 0 where
  pub octets : List ℕ
  pub count : ℕ
  pub body : InBody to_head (IsSized count) text octets octets parts []
  pub has_count : length octets + left ≡ count
  pub some : 0 < left

-- The body goes on until the server ends the connection.
pub record InRest (to_head : Bool) (text : List ℕ) (parts : List Part) : Type 0 where
  pub octets : List ℕ
  pub body : InBody to_head IsUntilEnd text octets octets parts []

-- Whole chunks stand behind the head, and behind them this text; their octets were told, and the next ones.
pub record InChunked (named : List (List ℕ)) (to_head : Bool) (behind next text : List ℕ) (parts : List Part) : Type 0 where
  pub chunks : List (List ℕ)
  pub front : List ℕ
  pub body : InBody to_head (IsChunks named) text (front ++ behind) (concat chunks ++ next) parts []
  pub are_chunks : Joined IsChunk front chunks

-- A chunk's line was begun.
pub record InLine (named : List (List ℕ)) (to_head : Bool) (line : LinePlace) (text : List ℕ) (parts : List Part) : Type 0 where
  pub behind : List ℕ
  pub chunked : InChunked named to_head behind [] text parts
  pub is_part : IsLinePart line behind

-- So many octets of a chunk are to come.
pub record InChunk (named : List (List ℕ)) (to_head : Bool) (left : ℕ) (text : List ℕ) (parts : List Part) : Type 0 where
  pub line : List ℕ
  pub size : ℕ
  pub next : List ℕ
  pub chunked : InChunked named to_head (line ++ next) next text parts
  pub is_line : ChunkLine line size
  pub has_size : length next + left ≡ size
  pub some : 0 < left

-- All octets of a chunk were told, and this is there of its end.
pub record BehindChunk (named : List (List ℕ)) (to_head : Bool) (end text : List ℕ) (parts : List Part) : Type 0 where
  pub line : List ℕ
  pub next : List ℕ
  pub chunked : InChunked named to_head (line ++ next ++ end) next text parts
  pub is_line : ChunkLine line (length next)
  pub some : 0 < length next

-- Behind the line of the last chunk stand octets, which are held, that are no trailers and may become ones.
pub record InTrailers (named : List (List ℕ)) (to_head : Bool) (held text : List ℕ) (parts : List Part) : Type 0 where
  pub line : List ℕ
  pub chunked : InChunked named to_head (line ++ held) [] text parts
  pub is_last : ChunkLine line 0
  pub no_trailers : HasNoSection held
  pub may_become : MayBecomeSection held
  pub short : length held ≤ longest_section

-- The whole body was told, and the trailers, wherever the octets end.
pub record IsPast (to_head : Bool) (text : List ℕ) (parts : List Part) : Type 0 where
  pub framing : model.Framing
  pub rest : List ℕ
  pub octets : List ℕ
  pub trailers : List Field
  pub body : InBody to_head framing text rest octets parts (ends_with trailers)
  pub whole : HasBody framing false rest octets trailers

-- What is held begins with no head or with no trailers, and where octets of a known number are to come, one or more are.
abbrev pub IsKept : Place → List ℕ → Type 0
IsKept (Head count) held = HasNoResponse held
IsKept (Sized left) held = 0 < left
IsKept (Line line) held = IsInRange line
IsKept (Chunk left) held = 0 < left
IsKept Trailers held = HasNoSection held
IsKept _ held = Unit {0}

-- The reader is in a body, but not in trailers, or past it.
abbrev pub IsInBody : Place → Type 0
IsInBody (Head count) = ⊥
IsInBody Trailers = ⊥
IsInBody (Broken fault) = ⊥
IsInBody _ = Unit {0}

abbrev pub StandsAt : Place → Bool → Held → List ℕ → List Part → Type 0
StandsAt (Head count) to_head held text parts = BeforeHead count held.octets text parts
StandsAt (Sized left) to_head held text parts = InSized to_head left text parts
StandsAt UntilEnd to_head held text parts = InRest to_head text parts
StandsAt (Line line) to_head held text parts = InLine (names_held held) to_head line text parts
StandsAt (Chunk left) to_head held text parts = InChunk (names_held held) to_head left text parts
StandsAt ChunkEnd to_head held text parts = BehindChunk (names_held held) to_head [] text parts
StandsAt ChunkReturn to_head held text parts = BehindChunk (names_held held) to_head (13 ∷ []) text parts
StandsAt Trailers to_head held text parts = InTrailers (names_held held) to_head held.octets text parts
StandsAt Past to_head held text parts = IsPast to_head text parts
StandsAt (Broken fault) to_head held text parts = ⊥

-- The reader was fed this text and told these pieces.
abbrev pub Stands : List ℕ → List Part → State → Type 0
Stands text parts state = StandsAt state.place state.to_head state.held text parts

-- With these octets the reader tells these pieces: whatever it was fed before, it stands for all of it.
pub record Hears (old : State) (octets : List ℕ) (added : List Part) (new : State) : Type 0 where
  pub same : new.to_head ≡ old.to_head
  pub stands : (text : List ℕ) (before : List Part) → Stands text before old → Stands (text ++ octets) (before ++ added) new

-- With these octets no whole response comes any more, whatever follows.
abbrev pub Breaks : State → List ℕ → Type 0
Breaks old octets = (text : List ℕ) (before : List Part) → Stands text before old → IsSpoilt (text ++ octets) old.to_head

-- The end of the connection makes a whole response of the octets so far, or none.
abbrev pub IsEnd : Ended → State → Type 0
IsEnd Complete state = (text : List ℕ) (parts : List Part) → Stands text parts state → IsComplete text true state.to_head
IsEnd Short state = (text : List ℕ) (parts : List Part) → Stands text parts state → IsComplete text true state.to_head → ⊥

-- a piece that says that the response is whole
abbrev pub is_end : Part → Bool
is_end Done = true
is_end _ = false

abbrev pub is_done : List Part → Bool
is_done parts = list_any is_end parts

-- Whole interim heads stand in the text, and these were told.
pub record TellsBefore (text : List ℕ) (to_head : Bool) (parts : List Part) : Type 0 where
  pub interims : List model.Head
  pub seen : Seen text to_head interims None []
  pub told : parts ≡ map Interim interims

-- A final head stands in the text; it was told, and the octets of its body that stand there, and perhaps its trailers and that it is
-- whole.
pub record TellsBehind (text : List ℕ) (to_head : Bool) (parts : List Part) : Type 0 where
  pub interims : List model.Head
  pub head : model.Head
  pub bodies : List (List ℕ)
  pub ends : List Part
  pub seen : Seen text to_head interims (Some head) (concat bodies)
  pub told : parts ≡ map Interim interims ++ (Final head ∷ map Body bodies ++ ends)
  pub ends_are : (ends ≡ []) ⊎ ((trailers : List Field) × (ends ≡ ends_with trailers))

-- The pieces tell what stands in the text.
abbrev pub Tells : List ℕ → Bool → List Part → Type 0
Tells text to_head parts = TellsBefore text to_head parts ⊎ TellsBehind text to_head parts

-- A whole response stands in the text, and just this was told.
pub record TellsWhole (text : List ℕ) (to_head : Bool) (parts : List Part) : Type 0 where
  pub response : Response
  pub is_whole : H1Response text false to_head response
  pub bodies : List (List ℕ)
  pub has_body : response.body ≡ concat bodies
  pub told : parts ≡ map Interim response.interims ++ (Final response.head ∷ map Body bodies ++ ends_with response.trailers)
