-- What a read of a head says of the octets.
use Rattle.std.specs.Prelude.{◌≡◌, ℕ, ◌<◌, ◌≤◌, Bool, not, ◌&&◌, ◌==◌, List, [], ◌∷◌, ◌++◌, length, take, map, codes, bytes_eq}
use Rattle.std.specs.List.{list_any}
use Rattle.httparse.specs.Grammar as grammar
use Rattle.httparse.specs.Grammar.{HasNoResponse, MayBecomeResponse}
use Rattle.httparse.specs.declared.spans.HeaderSpan.{HeaderSpan}
use Rattle.httparse.specs.Spans.{span_bytes}
use Rattle.model.specs.Octets.{lower}
use Rattle.model.specs.Messages.{Field}
use Rattle.model.specs.ResponseHeads as model
use Rattle.model.specs.ResponseHeads.{meant, named_by_connection}
use Rattle.response_texts.specs.HeadSizes.{field_octets}
use Rattle.response_texts.specs.Framings.{framing_view}
use Rattle.response_texts.specs.declared.fault.ResponseFault.{ResponseFault}
use Rattle.response_texts.specs.declared.fault.ResponseFault.TheVariants.{Length, Coding}
use Rattle.response_texts.specs.declared.head.HeadRead.{HeadRead}
use Rattle.response_texts.specs.declared.head.HeadRead.TheVariants.{More, Interim, Final}
use Rattle.response_texts.specs.declared.front.FrontRead.{FrontRead}
use Rattle.response_texts.specs.declared.front.FrontRead.TheVariants.{OnGoing, InterimAt, FinalAt}

-- Where the lines of framing say nothing, the codings are at fault where there is one, else the lengths.
abbrev pub framing_fault : List (List ℕ) → ResponseFault
framing_fault [] = Length
framing_fault (coding ∷ codings) = Coding

-- the field of a line
abbrev pub field_from : List ℕ → HeaderSpan → Field
field_from text line = record { name = lower (span_bytes text line.name); value = span_bytes text line.value }

-- the head's fields Connection have the option close, in any case of letters (RFC 9112, section 9.6)
abbrev pub says_close : grammar.ResponseHead → Bool
says_close spelled = list_any (bytes_eq (codes "close")) (named_by_connection (map meant spelled.fields))

-- The head lets its connection stay open: it is of HTTP/1.1, and doesn't say close (RFC 9112, section 9.3).
abbrev pub leaves_open : grammar.ResponseHead → Bool
leaves_open spelled = spelled.minor == 1 && not (says_close spelled)

-- The text is a final head whose body is framed in this way, and which lets its connection stay open, or doesn't.
abbrev pub IsFinalRead : Bool → List ℕ → model.Head → model.Framing → Bool → Type 0
IsFinalRead to_head text head framing stays = (final : model.Final to_head text head framing) × (stays ≡ leaves_open final.spelled)

-- no head begins the octets and one may come, or one of so many octets stands there
abbrev pub IsHeadRead : Bool → List ℕ → HeadRead → Type 0
IsHeadRead to_head text More = HasNoResponse text × MayBecomeResponse text
IsHeadRead to_head text (Interim head used) = (used ≤ length text) × model.Interim (take used text) head
IsHeadRead to_head text (Final head framing connections stays used) =
    (used ≤ length text) × IsFinalRead to_head (take used text) head (framing_view (named_by_connection connections.items) framing) stays
    × (field_octets connections.items ≤ 16384)

-- Whatever follows the octets, they begin with no interim head and with no final one.
pub record HasNoHead (to_head : Bool) (text : List ℕ) : Type 0 where
  pub no_interim : (more front past : List ℕ) (head : model.Head) → text ++ more ≡ front ++ past → model.Interim front head → ⊥
  pub no_final : (more front past : List ℕ) (head : model.Head) (framing : model.Framing) → text ++ more ≡ front ++ past
      → model.Final to_head front head framing → ⊥

-- The octets behind those that were held end before a head does, or so many of them end one.
abbrev pub IsFrontRead : Bool → List ℕ → List ℕ → FrontRead → Type 0
IsFrontRead to_head held octets (OnGoing text) = (text.items ≡ held ++ octets) × (length text.items ≤ 16384) × HasNoResponse text.items
    × MayBecomeResponse text.items
IsFrontRead to_head held octets (InterimAt head used) = (0 < used) × (used ≤ length octets) × model.Interim (held ++ take used octets) head
IsFrontRead to_head held octets (FinalAt head framing connections stays used) =
    (0 < used) × (used ≤ length octets) × IsFinalRead to_head (held ++ take used octets) head
    (framing_view (named_by_connection connections.items) framing) stays
    × (field_octets connections.items ≤ 16384)
