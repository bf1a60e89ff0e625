-- Responses of an HTTP/1.1 server (RFC 9112): what a whole one says, and what stands in a beginning of one.
use Rattle.std.specs.Prelude.{◌≡◌, ℕ, ◌<◌, ◌≤◌, ◌⊎◌, Bool, true, not, ◌||◌, ◌==◌, List, [], ◌∷◌, ◌++◌, length, take, Option, Some, None}
use Rattle.std.specs.List.{list_all, concat}
use Rattle.std.specs.Str.Parse.{digits_value}
use Rattle.httparse.specs.Grammar as grammar
use Rattle.httparse.specs.Grammar.{LineEnd, HasNoResponse, ReadsSection, HasNoSection, MayBecomeSection}
use Rattle.model.specs.Octets.{IsStrictFront, some_of, is_hex_digit, is_space, Joined}
use Rattle.model.specs.Messages.{Field}
use Rattle.model.specs.Http1.{crlf}
use Rattle.model.specs.ResponseHeads.{Head, Framing, values_hold, trailers_passed, Interim, Final}
use Rattle.model.specs.Limits.{longest_section, most_fields, most_interims}
use Rattle.model.specs.ResponseHeads.Framing.{Bodiless, Chunks, Sized, UntilEnd}

-- A response: the interim heads before it, its own head, the octets of its body, and the trailers that are passed back.
pub record Response : Type 0 where
  pub interims : List Head
  pub head : Head
  pub body : List ℕ
  pub trailers : List Field

-- ---- bodies in chunks (RFC 9112, section 7.1)

-- an octet of an extension: any but NUL and those of a line's end
abbrev pub is_extension_octet : ℕ → Bool
is_extension_octet octet = not (octet == 13 || octet == 10 || octet == 0)

-- nothing, or a semicolon and at most 256 octets
abbrev pub IsExtension : List ℕ → Type 0
IsExtension [] = Unit {0}
IsExtension (octet ∷ octets) = (octet ≡ 59) × (length octets ≤ 256) × (list_all is_extension_octet octets ≡ true)

-- A chunk's first line: 1 to 8 digits of a number in base sixteen, at most 256 spaces and tabs, an extension that says
-- nothing here, the line's end.
pub record ChunkLine (text : List ℕ) (size : ℕ) : Type 0 where
  pub digits : List ℕ
  pub spaces : List ℕ
  pub extension : List ℕ
  pub is : text ≡ digits ++ spaces ++ extension ++ crlf
  pub are_digits : some_of is_hex_digit digits ≡ true
  pub few_digits : length digits ≤ 8
  pub are_spaces : list_all is_space spaces ≡ true
  pub few_spaces : length spaces ≤ 256
  pub is_extension : IsExtension extension
  pub has_size : size ≡ digits_value 16 digits

-- A chunk that isn't the last: its line, so many octets, the end of a line.
pub record Chunk (text octets : List ℕ) : Type 0 where
  pub line : List ℕ
  pub is : text ≡ line ++ octets ++ crlf
  pub has_line : ChunkLine line (length octets)
  pub is_not_last : 0 < length octets

-- The text is a trailer section that is taken (RFC 9112, section 7.1.2).
pub record IsTrailers (text : List ℕ) : Type 0 where
  pub lines : List grammar.Field
  pub last : LineEnd
  pub reads : ReadsSection text lines last []
  pub is_short : length text ≤ longest_section
  pub has_few : length lines ≤ most_fields
  pub values : values_hold lines ≡ true

-- The text begins with a body in chunks: chunks, the line of the last one, a section of trailers. Those are passed back that may be.
pub record Chunked (named : List (List ℕ)) (text body : List ℕ) (trailers : List Field) : Type 0 where
  pub chunks : List (List ℕ)
  pub front : List ℕ
  pub line : List ℕ
  pub section : List ℕ
  pub past : List ℕ
  pub is : text ≡ front ++ line ++ section ++ past
  pub are_chunks : Joined Chunk front chunks
  pub is_last : ChunkLine line 0
  pub are_trailers : IsTrailers section
  pub is_body : body ≡ concat chunks
  pub passes : trailers ≡ trailers_passed named are_trailers.lines

-- ---- whole responses

-- The text begins with these octets, so many.
pub record BeginsWith (count : ℕ) (text octets : List ℕ) : Type 0 where
  pub past : List ℕ
  pub is : text ≡ octets ++ past
  pub has_count : length octets ≡ count

-- The text behind a head begins with the whole text of a body, and of trailers behind chunks (RFC 9112, section 6.3). What stands past its end doesn't
-- count; whether the server ended the connection counts where nothing else says where the body ends.
abbrev pub HasBody : Framing → Bool → List ℕ → List ℕ → List Field → Type 0
HasBody Bodiless ended text body trailers = (body ≡ []) × (trailers ≡ [])
HasBody (Chunks named) ended text body trailers = Chunked named text body trailers
HasBody (Sized count) ended text body trailers = BeginsWith count text body × (trailers ≡ [])
HasBody UntilEnd ended text body trailers = (ended ≡ true) × (text ≡ body) × (trailers ≡ [])

-- All that a server sent, and then ended the connection or didn't, is this whole response to a request, whose method is
-- HEAD or isn't (RFC 9112, sections 2.1 and 6.3).
pub record H1Response (text : List ℕ) (ended to_head : Bool) (response : Response) : Type 0 where
  pub front : List ℕ
  pub head_text : List ℕ
  pub rest : List ℕ
  pub framing : Framing
  pub is : text ≡ front ++ head_text ++ rest
  pub are_interims : Joined Interim front response.interims
  pub few_interims : length response.interims ≤ most_interims
  pub is_final : Final to_head head_text response.head framing
  pub body : HasBody framing ended rest response.body response.trailers

-- There is a whole response.
abbrev pub IsComplete : List ℕ → Bool → Bool → Type 0
IsComplete text ended to_head = (response : Response) × H1Response text ended to_head response

-- Nothing that follows makes a whole response of the text, whether the server ends the connection or not.
abbrev pub IsSpoilt : List ℕ → Bool → Type 0
IsSpoilt text to_head = (more : List ℕ) (ended : Bool) → IsComplete (text ++ more) ended to_head → ⊥

-- ---- what stands in a beginning of one

-- A chunk's line that isn't whole.
pub record InLine (text : List ℕ) : Type 0 where
  pub line : List ℕ
  pub size : ℕ
  pub is_line : ChunkLine line size
  pub is_part : IsStrictFront text line

-- A chunk's line with some of its octets, or with all and less than the end of a line.
pub record InChunk (text octets : List ℕ) : Type 0 where
  pub line : List ℕ
  pub size : ℕ
  pub end : List ℕ
  pub is : text ≡ line ++ octets ++ end
  pub is_line : ChunkLine line size
  pub is_not_last : 0 < size
  pub is_part : ((length octets < size) × (end ≡ [])) ⊎ ((length octets ≡ size) × IsStrictFront end crlf)

-- The line of the last chunk, and trailers that aren't whole.
pub record InTrailers (text : List ℕ) : Type 0 where
  pub line : List ℕ
  pub tail : List ℕ
  pub is : text ≡ line ++ tail
  pub is_last : ChunkLine line 0
  pub no_trailers : HasNoSection tail
  pub may_become : MayBecomeSection tail

-- The line of the last chunk and whole trailers, whatever follows.
pub record PastTrailers (text : List ℕ) : Type 0 where
  pub line : List ℕ
  pub trailers : List ℕ
  pub past : List ℕ
  pub is : text ≡ line ++ trailers ++ past
  pub is_last : ChunkLine line 0
  pub are_trailers : IsTrailers trailers

-- What stands behind whole chunks, with the octets of the next chunk that are there.
abbrev pub BehindChunks : List ℕ → List ℕ → Type 0
BehindChunks text octets = ((octets ≡ []) × (InLine text ⊎ (InTrailers text ⊎ PastTrailers text))) ⊎ InChunk text octets

-- Whole chunks, and what stands behind them.
pub record InChunks (text octets : List ℕ) : Type 0 where
  pub chunks : List (List ℕ)
  pub front : List ℕ
  pub behind : List ℕ
  pub next : List ℕ
  pub is : text ≡ front ++ behind
  pub are_chunks : Joined Chunk front chunks
  pub behind_them : BehindChunks behind next
  pub has_octets : octets ≡ concat chunks ++ next

-- These octets of a body stand in the text behind its head.
abbrev pub StandsIn : Framing → List ℕ → List ℕ → Type 0
StandsIn Bodiless text octets = octets ≡ []
StandsIn (Chunks named) text octets = InChunks text octets
StandsIn (Sized count) text octets = octets ≡ take count text
StandsIn UntilEnd text octets = octets ≡ text

-- Whole interim heads, and a rest that begins with no head.
pub record SeenBefore (text : List ℕ) (interims : List Head) : Type 0 where
  pub front : List ℕ
  pub rest : List ℕ
  pub is : text ≡ front ++ rest
  pub are_interims : Joined Interim front interims
  pub few_interims : length interims ≤ most_interims
  pub no_head : HasNoResponse rest

-- Whole interim heads, a final head, and of its body these octets.
pub record SeenBehind (text : List ℕ) (to_head : Bool) (interims : List Head) (head : Head) (octets : List ℕ) : Type 0 where
  pub front : List ℕ
  pub head_text : List ℕ
  pub rest : List ℕ
  pub framing : Framing
  pub is : text ≡ front ++ head_text ++ rest
  pub are_interims : Joined Interim front interims
  pub few_interims : length interims ≤ most_interims
  pub is_final : Final to_head head_text head framing
  pub body : StandsIn framing rest octets

-- What stands in a text that begins a response: interim heads, the final head once it is whole, octets of its body.
abbrev pub Seen : List ℕ → Bool → List Head → Option Head → List ℕ → Type 0
Seen text to_head interims None octets = SeenBefore text interims × (octets ≡ [])
Seen text to_head interims (Some head) octets = SeenBehind text to_head interims head octets
