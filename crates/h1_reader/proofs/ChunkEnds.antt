-- Where a body in chunks isn't whole, and where it can't be.
use Rattle.std.proofs.Common.{◌≡◌, ℕ, ◌+◌, ◌<◌, Bool, List, [], ◌∷◌, ◌++◌, length, refl, sym, ap, ◌∙◌, subst, append_assoc, length-append, arith}
use Rattle.httparse.specs.Grammar.{ReadsSection, HasNoSection}
use Rattle.httparse.proofs.GrammarLemmas.{ReadsSection-append}
use Rattle.model.specs.Octets.{Joined}
use Rattle.model.specs.Messages.{Field}
use Rattle.model.specs.Http1.{crlf}
use Rattle.model.specs.ResponseHeads as model
use Rattle.model.specs.ResponseHeads.Framing.{Chunks as IsChunks}
use Rattle.model.specs.Responses.{ChunkLine, Chunk as IsChunk, Chunked, IsTrailers, HasBody, IsComplete}
use Rattle.model.proofs.Http1Runs.{same_front, same_rest, BeginsNone, one_joined}
use Rattle.model.proofs.ResponseHeadReadings.{one_front}
use Rattle.model.proofs.ResponseBodies.{one_chunk_line, one_response_chunk, none_at_last}
use Rattle.h1_reader.specs.Parts.{Part}
use Rattle.response_texts.specs.ChunkLines.{IsLinePart}
use Rattle.h1_reader.specs.Standing.{InChunked, InLine, InChunk, BehindChunk, InTrailers}
use Rattle.response_texts.specs.declared.chunk_line.LinePlace.{LinePlace}
use Rattle.response_texts.proofs.ChunkLineLemmas.{line_begun, none_in_line}

-- neither a chunk nor the end of a body in chunks begins the text
pub record NoBody (text : List ℕ) : Type 0 where
  pub no_chunk : BeginsNone IsChunk text
  pub no_end : (line trailers past : List ℕ) → ChunkLine line 0 → IsTrailers trailers → text ≡ line ++ (trailers ++ past) → ⊥

cons-append : (x : ℕ) (a b : List ℕ) → (x ∷ a) ++ b ≡ x ∷ (a ++ b)
cons-append x a b = refl

last_grouped : (front line trailers past : List ℕ) → front ++ line ++ trailers ++ past ≡ front ++ (line ++ (trailers ++ past))
last_grouped front line trailers past = simp append_assoc

pub chunk_grouped : (line octets past : List ℕ) → (line ++ octets ++ crlf) ++ past ≡ line ++ (octets ++ 13 ∷ (10 ∷ past))
chunk_grouped line octets past = simp (append_assoc, cons-append)

-- chunks of one text are those of the other, where none begins what follows them
pub not_chunked : (named : List (List ℕ)) (front behind rest body : List ℕ) (trailers : List Field) (chunks : List (List ℕ)) → Joined IsChunk front chunks → NoBody behind → front ++ behind ≡ rest → Chunked named rest body trailers → ⊥
not_chunked named front behind rest body trailers chunks joined none e q =
    let whole : front ++ behind ≡ q.front ++ (q.line ++ (q.section ++ q.past)) = e ∙ q.is ∙ last_grouped q.front q.line q.section q.past in
    let fronts = one_joined IsChunk one_response_chunk front q.front behind (q.line ++ (q.section ++ q.past)) chunks q.chunks joined q.are_chunks
    none.no_chunk (none_at_last q.line (q.section ++ q.past) q.is_last) whole in
    none.no_end q.line q.section q.past q.is_last q.are_trailers (same_rest front q.front behind (q.line ++ (q.section ++ q.past)) fronts.0 whole)

in_chunks : (named : List (List ℕ)) (framing : model.Framing) (ended : Bool) (rest body : List ℕ) (trailers : List Field) → IsChunks named ≡ framing → HasBody framing ended rest body trailers → Chunked named rest body trailers
in_chunks named framing ended rest body trailers e w = subst (λ (f : model.Framing). HasBody f ended rest body trailers) (sym e) w

-- no response is whole
pub chunked_short : {named : List (List ℕ)} (ended to_head : Bool) (behind next text : List ℕ) (parts : List Part) → InChunked named to_head behind next text parts → NoBody behind → IsComplete text ended to_head → ⊥
chunked_short {named} ended to_head behind next text parts c none whole =
    let b = c.body in
    let p = whole.1 in
    let same = one_front to_head b.front p.front b.head_text p.head_text (c.front ++ behind) p.rest b.interims whole.0.interims b.head whole.0.head (IsChunks named) p.framing
    b.are_interims p.are_interims b.is_final p.is_final (sym b.is ∙ p.is) in
    not_chunked named c.front behind p.rest whole.0.body whole.0.trailers c.chunks c.are_chunks none same.final.rest (in_chunks named p.framing ended p.rest whole.0.body whole.0.trailers same.final.framing p.body)

-- ---- what stands at each place is no body

pub no_line_body : (text : List ℕ) → ((line past : List ℕ) (size : ℕ) → ChunkLine line size → text ≡ line ++ past → ⊥) → NoBody text
no_line_body text none = record {
  no_chunk = λ front more octets chunk e.
      none chunk.line (octets ++ 13 ∷ (10 ∷ more)) (length octets) chunk.has_line (e ∙ ap (λ (o : List ℕ). o ++ more) chunk.is ∙ chunk_grouped chunk.line octets more);
  no_end = λ line trailers past last are e. none line (trailers ++ past) 0 last e;
}

-- a line and octets of its chunk
pub octets_no_body : (line next : List ℕ) (size : ℕ) → ChunkLine line size → length next < size → NoBody (line ++ next)
octets_no_body line next size l less = record {
  no_chunk = λ front more octets chunk e.
      let whole : line ++ next ≡ chunk.line ++ (octets ++ 13 ∷ (10 ∷ more)) = e ∙ ap (λ (o : List ℕ). o ++ more) chunk.is ∙ chunk_grouped chunk.line octets more in
      let lines = one_chunk_line line chunk.line next (octets ++ 13 ∷ (10 ∷ more)) size (length octets) l chunk.has_line whole in
      let rests : length next ≡ length (octets ++ 13 ∷ (10 ∷ more)) = ap length (same_rest line chunk.line next (octets ++ 13 ∷ (10 ∷ more)) lines.0 whole) in
      let sum : length (octets ++ 13 ∷ (10 ∷ more)) ≡ length octets + length (13 ∷ (10 ∷ more)) = length-append octets (13 ∷ (10 ∷ more)) in
      let sizes : size ≡ length octets = lines.1 in
      absurd (omega arith);
  no_end = λ other trailers past last are e.
      let sizes : size ≡ 0 = (one_chunk_line line other next (trailers ++ past) size 0 l last e).1 in
      absurd (omega arith);
}

-- a line, its octets, and what no end of a line begins
pub end_no_body : (line next tail : List ℕ) → ChunkLine line (length next) → 0 < length next → ((more : List ℕ) → tail ≡ 13 ∷ (10 ∷ more) → ⊥) → NoBody (line ++ (next ++ tail))
end_no_body line next tail l some none = record {
  no_chunk = λ front more octets chunk e.
      let whole : line ++ (next ++ tail) ≡ chunk.line ++ (octets ++ 13 ∷ (10 ∷ more)) = e ∙ ap (λ (o : List ℕ). o ++ more) chunk.is ∙ chunk_grouped chunk.line octets more in
      let lines = one_chunk_line line chunk.line (next ++ tail) (octets ++ 13 ∷ (10 ∷ more)) (length next) (length octets) l chunk.has_line whole in
      let rests = same_rest line chunk.line (next ++ tail) (octets ++ 13 ∷ (10 ∷ more)) lines.0 whole in
      let same = same_front next octets tail (13 ∷ (10 ∷ more)) lines.1 rests in
      none more (same_rest next octets tail (13 ∷ (10 ∷ more)) same rests);
  no_end = λ other trailers past last are e.
      let sizes : length next ≡ 0 = (one_chunk_line line other (next ++ tail) (trailers ++ past) (length next) 0 l last e).1 in
      absurd (omega arith);
}

-- the line of the last chunk, and what no trailers begin
pub trailers_no_body : (line tail : List ℕ) → ChunkLine line 0 → ((trailers past : List ℕ) → IsTrailers trailers → tail ≡ trailers ++ past → ⊥) → NoBody (line ++ tail)
trailers_no_body line tail l none = record {
  no_chunk = none_at_last line tail l;
  no_end = λ other trailers past last are e.
      let lines = one_chunk_line line other tail (trailers ++ past) 0 0 l last e in
      none trailers past are (same_rest line other tail (trailers ++ past) lines.0 e);
}

no_trailers_there : (held : List ℕ) → HasNoSection held → (trailers past : List ℕ) → IsTrailers trailers → held ≡ trailers ++ past → ⊥
no_trailers_there held none trailers past are e =
    none are.lines are.last past
    (subst (λ (o : List ℕ). ReadsSection o are.lines are.last past) (sym e) (ReadsSection-append trailers are.lines are.last [] past are.reads))

pub line_no_body : (line : LinePlace) (text : List ℕ) → IsLinePart line text → NoBody text
line_no_body line text p = no_line_body text (none_in_line text (line_begun line text p))

pub chunk_no_body : {named : List (List ℕ)} (to_head : Bool) (left : ℕ) (text : List ℕ) (parts : List Part) (b : InChunk named to_head left text parts) → NoBody (b.line ++ b.next)
chunk_no_body {named} to_head left text parts b =
    let sum : length b.next + left ≡ b.size = b.has_size in
    let some : 0 < left = b.some in
    octets_no_body b.line b.next b.size b.is_line (omega arith)

pub end_body_none : {named : List (List ℕ)} (to_head : Bool) (end text : List ℕ) (parts : List Part) → length end < 2 → (b : BehindChunk named to_head end text parts) → NoBody (b.line ++ b.next ++ end)
end_body_none {named} to_head end text parts few b =
    subst NoBody (sym (append_assoc b.line b.next end))
    (end_no_body b.line b.next end b.is_line b.some (λ more e. let lengths : length end ≡ length {A = ℕ} (13 ∷ (10 ∷ more)) = ap length e in absurd (omega arith)))

pub held_no_body : {named : List (List ℕ)} (to_head : Bool) (held text : List ℕ) (parts : List Part) (b : InTrailers named to_head held text parts) → NoBody (b.line ++ held)
held_no_body {named} to_head held text parts b = trailers_no_body b.line held b.is_last (no_trailers_there held b.no_trailers)

-- ---- no response is whole at these places

pub line_short : {named : List (List ℕ)} (ended to_head : Bool) (line : LinePlace) (text : List ℕ) (parts : List Part) → InLine named to_head line text parts → IsComplete text ended to_head → ⊥
line_short {named} ended to_head line text parts b whole = chunked_short ended to_head b.behind [] text parts b.chunked (line_no_body line b.behind b.is_part) whole

pub chunk_short : {named : List (List ℕ)} (ended to_head : Bool) (left : ℕ) (text : List ℕ) (parts : List Part) → InChunk named to_head left text parts → IsComplete text ended to_head → ⊥
chunk_short {named} ended to_head left text parts b whole = chunked_short ended to_head (b.line ++ b.next) b.next text parts b.chunked (chunk_no_body to_head left text parts b) whole

pub end_short : {named : List (List ℕ)} (ended to_head : Bool) (end text : List ℕ) (parts : List Part) → length end < 2 → BehindChunk named to_head end text parts → IsComplete text ended to_head → ⊥
end_short {named} ended to_head end text parts few b whole = chunked_short ended to_head (b.line ++ b.next ++ end) b.next text parts b.chunked (end_body_none to_head end text parts few b) whole

pub trailers_short : {named : List (List ℕ)} (ended to_head : Bool) (held text : List ℕ) (parts : List Part) → InTrailers named to_head held text parts → IsComplete text ended to_head → ⊥
trailers_short {named} ended to_head held text parts b whole = chunked_short ended to_head (b.line ++ held) [] text parts b.chunked (held_no_body to_head held text parts b) whole

pub no_octets : length {A = ℕ} [] < 2
no_octets = omega arith

pub one_octet : length {A = ℕ} (13 ∷ []) < 2
one_octet = omega arith
