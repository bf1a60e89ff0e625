-- Which fault stands in the place of a head or of trailers, by the kind that is answered.
use Rattle.std.specs.Prelude.{◌≡◌, ◌≢◌, ℕ, ◌<◌, ◌≤◌, ◌⊎◌, Bool, List, [], ◌++◌, length, take, map, None, codes}
use Rattle.httparse.specs.Grammar as grammar
use Rattle.httparse.specs.Grammar.{LineEnd, status_code, ReadsResponse, HasNoResponse, MayBecomeResponse}
use Rattle.httparse.specs.Grammar.{NeverHasResponse, ReadsSection, HasNoSection, MayBecomeSection, NeverHasSection}
use Rattle.model.specs.Http1.{values_of}
use Rattle.model.specs.ResponseHeads as model
use Rattle.model.specs.ResponseHeads.{meant, framing_of, Interim}
use Rattle.model.specs.Limits.{longest_section, most_fields, most_interims}
use Rattle.response_texts.specs.declared.fault.ResponseFault.{ResponseFault}
use Rattle.response_texts.specs.declared.fault.ResponseFault.TheVariants as fault

-- ---- heads

-- the octets within which a head ends, and a trailer section (this project's profile)
abbrev pub in_reach : List ℕ → List ℕ
in_reach text = take longest_section text

-- the values of the lines transfer-encoding
abbrev pub codings : grammar.ResponseHead → List (List ℕ)
codings spelled = values_of (codes "transfer-encoding") (map meant spelled.fields)

-- The head is a final one whose lines of framing say nothing (RFC 9112, sections 6.1 to 6.3).
pub record IsUnframed (to_head : Bool) (spelled : grammar.ResponseHead) : Type 0 where
  pub has_few : length spelled.fields ≤ most_fields
  pub is_final : 200 ≤ status_code spelled
  pub unframed : framing_of to_head spelled ≡ None

-- Why a whole head is refused, whatever stands before it. Too many fields and a status below 100 come first, then a change of
-- protocols, which nobody asked for (RFC 9110, section 15.2.2). Where the lines of framing say nothing, the coding is at fault
-- where there is one, whatever the lengths are; else the lengths are (RFC 9112, section 6.3).
abbrev pub IsRefusedFor : ResponseFault → Bool → grammar.ResponseHead → Type 0
IsRefusedFor fault.Head to_head spelled = (most_fields < length spelled.fields) ⊎ (status_code spelled < 100)
IsRefusedFor fault.Upgrade to_head spelled = (length spelled.fields ≤ most_fields) × (status_code spelled ≡ 101)
IsRefusedFor fault.Coding to_head spelled = IsUnframed to_head spelled × (codings spelled ≢ [])
IsRefusedFor fault.Length to_head spelled = IsUnframed to_head spelled × (codings spelled ≡ [])
IsRefusedFor _ to_head spelled = ⊥

-- At the front stands a whole head, which is refused.
pub record IsRefusedHead (fault : ResponseFault) (to_head : Bool) (text : List ℕ) : Type 0 where
  pub head_text : List ℕ
  pub past : List ℕ
  pub spelled : grammar.ResponseHead
  pub is : text ≡ head_text ++ past
  pub reads : ReadsResponse head_text spelled []
  pub is_short : length head_text ≤ longest_section
  pub refused : IsRefusedFor fault to_head spelled

-- There are more octets than a head may have, and up to there they are less than one.
pub record IsLongHead (text : List ℕ) : Type 0 where
  pub longer : longest_section < length text
  pub no_head : HasNoResponse (in_reach text)
  pub may_become : MayBecomeResponse (in_reach text)

-- Behind as many interim heads as there may be stands one more.
pub record IsNinth (before : ℕ) (text : List ℕ) : Type 0 where
  pub many : most_interims ≤ before
  pub head_text : List ℕ
  pub past : List ℕ
  pub head : model.Head
  pub is : text ≡ head_text ++ past
  pub is_interim : Interim head_text head

-- The fault of a text behind so many interim heads, in the place of a head: in reach stands what no head begins with, there
-- is no end in reach, one interim head too many, or a whole head that is refused (RFC 9112, sections 4 and 5; this project's
-- profile).
abbrev pub HeadFault : ResponseFault → Bool → ℕ → List ℕ → Type 0
HeadFault fault.Head to_head before text = NeverHasResponse (in_reach text) ⊎ IsRefusedHead fault.Head to_head text
HeadFault fault.TooLong to_head before text = IsLongHead text ⊎ IsNinth before text
HeadFault fault.Length to_head before text = IsRefusedHead fault.Length to_head text
HeadFault fault.Coding to_head before text = IsRefusedHead fault.Coding to_head text
HeadFault fault.Upgrade to_head before text = IsRefusedHead fault.Upgrade to_head text
HeadFault _ to_head before text = ⊥

-- ---- trailers

-- At the front stand whole trailers, with too many fields.
pub record AreManyTrailers (text : List ℕ) : Type 0 where
  pub trailers : List ℕ
  pub past : List ℕ
  pub lines : List grammar.Field
  pub last : LineEnd
  pub is : text ≡ trailers ++ past
  pub reads : ReadsSection trailers lines last []
  pub are_short : length trailers ≤ longest_section
  pub many : most_fields < length lines

-- There are more octets than trailers may have, and up to there they are less than trailers.
pub record AreLongTrailers (text : List ℕ) : Type 0 where
  pub longer : longest_section < length text
  pub no_trailers : HasNoSection (in_reach text)
  pub may_become : MayBecomeSection (in_reach text)

-- The fault of a text in the place of trailers (RFC 9112, section 7.1.2).
abbrev pub TrailerFault : ResponseFault → List ℕ → Type 0
TrailerFault fault.Chunk text = NeverHasSection (in_reach text) ⊎ AreManyTrailers text
TrailerFault fault.TooLong text = AreLongTrailers text
TrailerFault _ text = ⊥
