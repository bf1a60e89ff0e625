-- Tables kept in step, and fair turns: what holds besides the headline, which an encoder that never inserts keeps too.
use Rattle.std.specs.Prelude.{◌≡◌, ℕ, suc, ◌<◌, ◌≤◌, Bool, true, ◌&&◌, ◌||◌, ◌==◌, ◌⊎◌, if◌then◌else◌, List, [], ◌∷◌, ◌++◌, Option, Some, None}
use Rattle.model.specs.Messages.{Field}
use Rattle.model.specs.Frames.{Frame, data_kind, headers_kind}
use Rattle.model.specs.Tables.{Table, field_size, look_up}
use Rattle.model.specs.Blocks.{IsIndexed, IsInserted, IsNotInserted, AreMaxima, AreFields}
use Rattle.model.specs.Maxima.{Maxima}
use Rattle.model.specs.Setup.{Policy}
use Rattle.model.specs.Setup.Policy.{Plain, Indexing}
use Rattle.model.specs.Tapes.{Entry, came, sent}
use Rattle.model.specs.Tapes.Entry.{Sent}
use Rattle.model.specs.Decoding.{Partial, completed, Decodes}
use Rattle.model.specs.Known.{Known}
use Rattle.model.specs.ResponseClause.{limits_since}
use Rattle.model.specs.Readiness.{IsReady}
use Rattle.model.specs.Headline.{OthersAreRead}

-- ---- how blocks are written (RFC 7541, sections 4.2 and 6)

-- The field stands at the index, and at no lower one.
pub record IsLeastIndex (table : Table) (field : Field) (index : ℕ) : Type 0 where
  pub here : look_up table index ≡ Some field
  pub least : (lower : ℕ) → lower < index → look_up table lower ≡ Some field → ⊥

-- The field stands in neither table.
abbrev pub StandsNowhere : Table → Field → Type 0
StandsNowhere table field = (index : ℕ) → look_up table index ≡ Some field → ⊥

-- A field that stands in a table goes as its least index.
pub record GoesAsIndex (table : Table) (octets : List ℕ) (field : Field) (next : Table) : Type 0 where
  pub indexed : IsIndexed table octets field next
  pub least : IsLeastIndex table field indexed.index

-- Any other is inserted where it fits the table.
pub record GoesIn (table : Table) (octets : List ℕ) (field : Field) (next : Table) : Type 0 where
  pub absent : StandsNowhere table field
  pub fits : field_size field ≤ table.maximum
  pub inserted : IsInserted table octets field next

-- It isn't where it doesn't.
pub record StaysOut (table : Table) (octets : List ℕ) (field : Field) (next : Table) : Type 0 where
  pub absent : StandsNowhere table field
  pub too_large : table.maximum < field_size field
  pub left_out : IsNotInserted table octets field next

abbrev pub IsWritten : Table → List ℕ → Field → Table → Type 0
IsWritten table octets field next = GoesAsIndex table octets field next ⊎ (GoesIn table octets field next ⊎ StaysOut table octets field next)

-- Fields are written so, one after another.
abbrev pub AreWritten : Table → List ℕ → List Field → Table → Type 0
AreWritten table octets [] next = (octets ≡ []) × (next ≡ table)
AreWritten table octets (field ∷ fields) next =
    (front rest : List ℕ) × (between : Table) × (octets ≡ front ++ rest) × IsWritten table front field between × AreWritten between rest fields next

-- With tables in use each field is written so, and without them in any way that leaves the table as it is.
abbrev pub AreWrittenBy : Policy → Table → List ℕ → List Field → Table → Type 0
AreWrittenBy Indexing table octets fields next = AreWritten table octets fields next
AreWrittenBy Plain table octets fields next = AreFields table octets fields next × (next ≡ table)

-- A block that is sent begins with just the maxima that the client's limits call for since the block before.
pub record IsInStep (policy : Policy) (t : List Entry) (block : Partial) : Type 0 where
  pub table : Table
  pub decodes : Decodes (sent t) table
  pub front : List ℕ
  pub rest : List ℕ
  pub is : block.fragments ≡ front ++ rest
  pub maxima : List ℕ
  pub between : Table
  pub are_maxima : AreMaxima table front maxima between
  pub called_for : Maxima table.maximum (limits_since t) maxima
  pub fields : List Field
  pub next : Table
  pub written : AreWrittenBy policy between rest fields next

abbrev pub IsInStepIfBlock : Policy → List Entry → Option Partial → Type 0
IsInStepIfBlock policy t None = Unit {0}
IsInStepIfBlock policy t (Some block) = IsInStep policy t block

abbrev pub EachInStep : Policy → List Entry → Type 0
EachInStep policy [] = Unit {0}
EachInStep policy (Sent noted ∷ t) = IsInStepIfBlock policy t (completed (sent t) noted.frame) × EachInStep policy t
EachInStep policy (_ ∷ t) = EachInStep policy t

-- ---- turns

-- the frame begins a part of a response: its stream has a turn
abbrev pub begins_part : Frame → Bool
begins_part frame = frame.kind == data_kind || frame.kind == headers_kind

-- the turns of a stream
abbrev pub turns_on : ℕ → List Entry → ℕ
turns_on stream [] = 0
turns_on stream (Sent noted ∷ t) = if begins_part noted.frame && noted.frame.id == stream then suc (turns_on stream t) else turns_on stream t
turns_on stream (_ ∷ t) = turns_on stream t

-- The stream is ready before each turn, of whichever stream, in a stretch of the tape that stands behind this one.
abbrev pub IsReadyAtEach : Known → ℕ → List Entry → List Entry → Type 0
IsReadyAtEach known stream before [] = Unit {0}
IsReadyAtEach known stream before (Sent noted ∷ stretch) = (begins_part noted.frame ≡ true → IsReady known (stretch ++ before) stream)
    × IsReadyAtEach known stream before stretch
IsReadyAtEach known stream before (_ ∷ stretch) = IsReadyAtEach known stream before stretch

-- While a stream is ready at each turn and has none, no other has two.
abbrev pub AreFair : Known → List Entry → Type 0
AreFair known t =
    (later stretch before : List Entry) → t ≡ later ++ stretch ++ before → (waits other : ℕ) → IsReadyAtEach known waits before stretch
    → turns_on waits stretch ≡ 0 → turns_on other stretch ≤ 1

-- These are the tables of both directions behind the tape, as the other side has them: that of the blocks that were sent, and
-- that of all that came, refused, reset and discarded ones too. Blocks are written as the policy says, and turns are fair.
pub record InStep (known : Known) (t : List Entry) (encoder decoder : Table) : Type 0 where
  pub of_sent : Decodes (sent t) encoder
  pub of_came : Decodes (came t) decoder
  pub all_read : OthersAreRead t
  pub written : EachInStep known.setup.policy t
  pub fair : AreFair known t
