-- Which fault stands in the octets of a response: what stands there, by the kind that is answered.
use Rattle.std.specs.Prelude.{◌≡◌, ℕ, ◌≤◌, ◌⊎◌, Bool, List, ◌++◌, length}
use Rattle.model.specs.Octets.{Joined}
use Rattle.model.specs.ResponseHeads as model
use Rattle.model.specs.ResponseHeads.{Interim, Final}
use Rattle.model.specs.ResponseHeads.Framing.{Chunks}
use Rattle.model.specs.Responses.{ChunkLine, Chunk as IsChunk}
use Rattle.model.specs.Limits.{most_interims}
use Rattle.model.specs.Noticing.{IsNoLine, IsBadChunkEnd}
use Rattle.response_texts.specs.SectionFaults.{HeadFault, TrailerFault}
use Rattle.response_texts.specs.declared.fault.ResponseFault.{ResponseFault}
use Rattle.response_texts.specs.declared.fault.ResponseFault.TheVariants as fault
use Rattle.h1_reader.specs.Parts.{Part}
use Rattle.h1_reader.specs.Standing.{State, Stands}

-- ---- bodies in chunks

-- The line of the last chunk, and behind it a fault of trailers.
pub record IsBehindLast (fault : ResponseFault) (text : List ℕ) : Type 0 where
  pub line : List ℕ
  pub tail : List ℕ
  pub is : text ≡ line ++ tail
  pub is_last : ChunkLine line 0
  pub is_fault : TrailerFault fault tail

-- The fault of a text behind whole chunks: no line of a chunk, a chunk without its end, or a fault of the trailers (RFC 9112,
-- section 7.1).
abbrev pub ChunkFault : ResponseFault → List ℕ → Type 0
ChunkFault fault.Chunk text = IsNoLine text ⊎ (IsBadChunkEnd text ⊎ IsBehindLast fault.Chunk text)
ChunkFault fault.TooLong text = IsBehindLast fault.TooLong text
ChunkFault _ text = ⊥

-- ---- responses

-- Behind whole interim heads stands a fault of a head.
pub record FaultBefore (fault : ResponseFault) (text : List ℕ) (to_head : Bool) : Type 0 where
  pub interims : List model.Head
  pub front : List ℕ
  pub rest : List ℕ
  pub is : text ≡ front ++ rest
  pub are_interims : Joined Interim front interims
  pub few_interims : length interims ≤ most_interims
  pub is_fault : HeadFault fault to_head (length interims) rest

-- Behind a final head and whole chunks stands a fault of a body in chunks.
pub record FaultBehind (fault : ResponseFault) (text : List ℕ) (to_head : Bool) : Type 0 where
  pub interims : List model.Head
  pub head : model.Head
  pub front : List ℕ
  pub head_text : List ℕ
  pub chunks : List (List ℕ)
  pub chunks_text : List ℕ
  pub rest : List ℕ
  pub named : List (List ℕ)
  pub is : text ≡ front ++ head_text ++ chunks_text ++ rest
  pub are_interims : Joined Interim front interims
  pub few_interims : length interims ≤ most_interims
  pub is_final : Final to_head head_text head (Chunks named)
  pub are_chunks : Joined IsChunk chunks_text chunks
  pub is_fault : ChunkFault fault rest

-- This fault stands in the text, and no other: each text has one at most.
abbrev pub FaultStands : ResponseFault → List ℕ → Bool → Type 0
FaultStands fault text to_head = FaultBefore fault text to_head ⊎ FaultBehind fault text to_head

-- With these octets this fault stands there, whatever the reader was fed before.
abbrev pub Fails : State → List ℕ → ResponseFault → Type 0
Fails old octets fault = (text : List ℕ) (before : List Part) → Stands text before old → FaultStands fault (text ++ octets) old.to_head
