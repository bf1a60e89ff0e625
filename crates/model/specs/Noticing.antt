-- Which faults of a response have to be noticed as soon as they stand there. Nothing that follows
-- one makes a whole response of what came. A reader may notice any other fault of which this is so
-- (`IsSpoilt` of `Responses`) when it likes.
use Rattle.std.specs.Prelude.{◌≡◌, ℕ, ◌<◌, ◌≤◌, ◌⊎◌, Bool, List, [], ◌++◌, length}
use Rattle.httparse.specs.Grammar as grammar
use Rattle.httparse.specs.Grammar.{LineEnd, ReadsResponse, HasNoResponse, NeverHasResponse, ReadsSection, HasNoSection, NeverHasSection}
use Rattle.model.specs.Octets.{IsFront, Joined}
use Rattle.model.specs.Http1.{crlf}
use Rattle.model.specs.Limits.{most_interims, longest_section}
use Rattle.model.specs.ResponseHeads.{Head, Framing, Interim, Final}
use Rattle.model.specs.ResponseHeads.Framing.{Chunks}
use Rattle.model.specs.Responses.{ChunkLine, Chunk, IsTrailers}

-- A head of the grammar that is no final one, and none that may come behind so many interim heads.
pub record IsRefused (to_head : Bool) (before : ℕ) (text : List ℕ) : Type 0 where
  pub spelled : grammar.ResponseHead
  pub reads : ReadsResponse text spelled []
  pub no_interim : (head : Head) → Interim text head → most_interims ≤ before
  pub no_final : (head : Head) (framing : Framing) → Final to_head text head framing → ⊥

-- Behind so many interim heads: what no head begins with, more octets than a head may have without its end, or a head that
-- is refused.
abbrev pub IsBadHead : Bool → ℕ → List ℕ → Type 0
IsBadHead to_head before text =
    NeverHasResponse text ⊎ ((HasNoResponse text × (longest_section < length text))
    ⊎ ((head_text past : List ℕ) × (text ≡ head_text ++ past) × IsRefused to_head before head_text))

-- No chunk's line begins the text, nor does the text begin one.
pub record IsNoLine (text : List ℕ) : Type 0 where
  pub begins_none : (line past : List ℕ) (size : ℕ) → ChunkLine line size → text ≡ line ++ past → ⊥
  pub is_no_part : (line : List ℕ) (size : ℕ) → ChunkLine line size → IsFront text line → ⊥

-- A chunk's line and its octets, and something else than the end of a line.
pub record IsBadChunkEnd (text : List ℕ) : Type 0 where
  pub line : List ℕ
  pub octets : List ℕ
  pub end : List ℕ
  pub is : text ≡ line ++ octets ++ end
  pub has_line : ChunkLine line (length octets)
  pub is_not_last : 0 < length octets
  pub is_no_part : IsFront end crlf → ⊥
  pub is_no_end : IsFront crlf end → ⊥

-- Trailers of the grammar that aren't taken.
pub record AreRefused (text : List ℕ) : Type 0 where
  pub lines : List grammar.Field
  pub last : LineEnd
  pub reads : ReadsSection text lines last []
  pub not_taken : IsTrailers text → ⊥

-- What no trailers begin with, more octets than trailers may have without their end, or trailers that are refused.
abbrev pub AreBadTrailers : List ℕ → Type 0
AreBadTrailers text =
    NeverHasSection text ⊎ ((HasNoSection text × (longest_section < length text))
    ⊎ ((trailers past : List ℕ) × (text ≡ trailers ++ past) × AreRefused trailers))

-- Behind whole chunks something that can't be continued.
abbrev pub IsBadChunk : List ℕ → Type 0
IsBadChunk text = IsNoLine text ⊎ (IsBadChunkEnd text ⊎ ((line tail : List ℕ) × (text ≡ line ++ tail) × ChunkLine line 0 × AreBadTrailers tail))

-- Behind whole interim heads stands a bad head.
pub record PlainlyBefore (text : List ℕ) (to_head : Bool) : Type 0 where
  pub interims : List Head
  pub front : List ℕ
  pub rest : List ℕ
  pub is : text ≡ front ++ rest
  pub are_interims : Joined Interim front interims
  pub few_interims : length interims ≤ most_interims
  pub is_bad : IsBadHead to_head (length interims) rest

-- Behind a final head and whole chunks stands something that can't be continued.
pub record PlainlyBehind (text : List ℕ) (to_head : Bool) : Type 0 where
  pub interims : List Head
  pub head : Head
  pub front : List ℕ
  pub head_text : List ℕ
  pub chunks : List (List ℕ)
  pub chunks_text : List ℕ
  pub rest : List ℕ
  pub named : List (List ℕ)
  pub is : text ≡ front ++ head_text ++ chunks_text ++ rest
  pub are_interims : Joined Interim front interims
  pub few_interims : length interims ≤ most_interims
  pub is_final : Final to_head head_text head (Chunks named)
  pub are_chunks : Joined Chunk chunks_text chunks
  pub is_bad : IsBadChunk rest

-- A fault that has to be noticed as soon as it stands there.
abbrev pub IsPlainlyBad : List ℕ → Bool → Type 0
IsPlainlyBad text to_head = PlainlyBefore text to_head ⊎ PlainlyBehind text to_head
