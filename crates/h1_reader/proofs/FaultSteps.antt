-- Where a reader stands, the fault that it answers stands in the octets.
use Rattle.std.proofs.Common.{◌≡◌, ℕ, ◌<◌, ◌≤◌, Bool, List, [], ◌∷◌, ◌++◌, length, take, drop, get_or, refl, sym, ap, ◌∙◌, subst, append_assoc, inl, inr, arith}
use Rattle.std.specs.Prelude.{◌≢◌, Result, Ok, Err, IfErr}
use Rattle.std.proofs.lemmas.List.{append-nil, take-append-drop}
use Rattle.model.specs.Octets.{IsFront}
use Rattle.model.specs.Http1.{crlf}
use Rattle.model.specs.ResponseHeads as model
use Rattle.model.specs.Responses.{ChunkLine}
use Rattle.h1_reader.specs.Parts.{Part}
use Rattle.response_texts.specs.ChunkLines.{IsLinePart, NeverLine}
use Rattle.h1_reader.specs.Standing.{State, InChunked, BehindChunk}
use Rattle.response_texts.specs.SectionFaults.{HeadFault, TrailerFault}
use Rattle.h1_reader.specs.Faults.{ChunkFault, FaultStands, Fails}
use Rattle.response_texts.specs.declared.chunk_line.LinePlace.{LinePlace}
use Rattle.response_texts.specs.declared.fault.ResponseFault.{ResponseFault}
use Rattle.response_texts.specs.declared.fault.ResponseFault.TheVariants as fault
use Rattle.h1_reader.specs.declared.reader.Place.TheVariants.{Head, Line, ChunkEnd, ChunkReturn, Trailers, Broken}
use Rattle.h1_reader.proofs.Steps.{at}

-- ---- heads

-- a fault of a head that isn't one too many is one behind any number of interim heads
behind_some : (f : ResponseFault) (to_head : Bool) (before : ℕ) (text : List ℕ) → HeadFault f to_head 0 text → HeadFault f to_head before text
behind_some fault.Head to_head before text h = h
behind_some fault.TooLong to_head before text (inl long) = inl long
behind_some fault.TooLong to_head before text (inr ninth) = let many : 8 ≤ 0 = ninth.many in absurd (omega arith)
behind_some fault.Length to_head before text h = h
behind_some fault.Coding to_head before text h = h
behind_some fault.Upgrade to_head before text h = h
behind_some fault.Chunk to_head before text h = h
behind_some fault.Memory to_head before text h = h

behind_held : (text front held xs : List ℕ) → text ≡ front ++ held → text ++ xs ≡ front ++ (held ++ xs)
behind_held text front held xs e = ap (λ (o : List ℕ). o ++ xs) e ∙ append_assoc front held xs

pub fails_head : (old : State) (count : ℕ) (f : ResponseFault) (xs : List ℕ) → old.place ≡ Head count → HeadFault f old.to_head 0 (old.held.octets ++ xs) → Fails old xs f
fails_head old count f xs e h text before s =
    let b = at (Head count) old text before e s in
    let counted : count ≡ length b.interims = b.has_count in
    let few : count ≤ 8 = b.few in
    inl (record {
      interims = b.interims;
      front = b.front;
      rest = old.held.octets ++ xs;
      is = behind_held text b.front old.held.octets xs b.is;
      are_interims = b.are_interims;
      few_interims = omega arith;
      is_fault = behind_some f old.to_head (length b.interims) (old.held.octets ++ xs) h;
    })

pub fails_ninth : (old : State) (count used : ℕ) (xs : List ℕ) (head : model.Head) → old.place ≡ Head count → 8 ≤ count → model.Interim (old.held.octets ++ take used xs) head → Fails old xs fault.TooLong
fails_ninth old count used xs head e many i text before s =
    let b = at (Head count) old text before e s in
    let counted : count ≡ length b.interims = b.has_count in
    let few : count ≤ 8 = b.few in
    let cut : old.held.octets ++ xs ≡ (old.held.octets ++ take used xs) ++ drop used xs =
    ap (λ (o : List ℕ). old.held.octets ++ o) (sym (take-append-drop used xs)) ∙ sym (append_assoc old.held.octets (take used xs) (drop used xs)) in
    inl (record {
      interims = b.interims;
      front = b.front;
      rest = old.held.octets ++ xs;
      is = behind_held text b.front old.held.octets xs b.is;
      are_interims = b.are_interims;
      few_interims = omega arith;
      is_fault = inr (record { many = omega arith; head_text = old.held.octets ++ take used xs; past = drop used xs; head = head; is = cut; is_interim = i });
    })

-- ---- chunks

-- a fault behind chunks is one of the response
fails_chunked : {named : List (List ℕ)} (f : ResponseFault) (to_head : Bool) (behind next text xs : List ℕ) (parts : List Part) → InChunked named to_head behind next text parts → ChunkFault f (behind ++ xs) → FaultStands f (text ++ xs) to_head
fails_chunked {named} f to_head behind next text xs parts c h =
    let b = c.body in
    inr (record {
      interims = b.interims;
      head = b.head;
      front = b.front;
      head_text = b.head_text;
      chunks = c.chunks;
      chunks_text = c.front;
      rest = behind ++ xs;
      named = named;
      is = ap (λ (o : List ℕ). o ++ xs) b.is ∙ regrouped b.front b.head_text c.front behind xs;
      are_interims = b.are_interims;
      few_interims = b.few;
      is_final = b.is_final;
      are_chunks = c.are_chunks;
      is_fault = h;
    })
  where
    regrouped : (front head chunks behind xs : List ℕ) → (front ++ head ++ (chunks ++ behind)) ++ xs ≡ front ++ head ++ chunks ++ (behind ++ xs)
    regrouped front head chunks behind xs = simp append_assoc

next_octet : (text : List ℕ) (octet : ℕ) (rest : List ℕ) → text ++ octet ∷ rest ≡ (text ++ octet ∷ []) ++ rest
next_octet text octet rest = sym (append_assoc text (octet ∷ []) rest)

pub fails_line : (old : State) (line : LinePlace) (octet : ℕ) → old.place ≡ Line line → ((text : List ℕ) → IsLinePart line text → NeverLine (text ++ octet ∷ [])) → (rest : List ℕ) → Fails old (octet ∷ rest) fault.Chunk
fails_line old line octet e never rest text before s =
    let b = at (Line line) old text before e s in
    fails_chunked fault.Chunk old.to_head b.behind [] text (octet ∷ rest) before b.chunked
    (inl (record {
      begins_none = λ other past size l is. never b.behind b.is_part rest other past size l (sym (next_octet b.behind octet rest) ∙ is);
      is_no_part = λ other size l f. never b.behind b.is_part (rest ++ f.rest) other [] size l
          (sym (append_assoc (b.behind ++ octet ∷ []) rest f.rest) ∙ ap (λ (o : List ℕ). o ++ f.rest) (sym (next_octet b.behind octet rest)) ∙ sym f.is ∙ sym (append-nil other));
    }))

fails_end : {named : List (List ℕ)} (old : State) (end xs text : List ℕ) (before : List Part) → BehindChunk named old.to_head end text before → (IsFront (end ++ xs) crlf → ⊥) → (IsFront crlf (end ++ xs) → ⊥) → FaultStands fault.Chunk (text ++ xs) old.to_head
fails_end {named} old end xs text before b no_part no_end =
    fails_chunked fault.Chunk old.to_head (b.line ++ b.next ++ end) b.next text xs before b.chunked
    (inr (inl (record {
      line = b.line;
      octets = b.next;
      end = end ++ xs;
      is = append_assoc (b.line ++ b.next) end xs;
      has_line = b.is_line;
      is_not_last = b.some;
      is_no_part = no_part;
      is_no_end = no_end;
    })))

pub fails_return : (old : State) (octet : ℕ) → old.place ≡ ChunkEnd → (octet ≡ 13 → ⊥) → (rest : List ℕ) → Fails old (octet ∷ rest) fault.Chunk
fails_return old octet e other rest text before s =
    fails_end old [] (octet ∷ rest) text before (at ChunkEnd old text before e s)
    (λ f. let same : crlf ≡ octet ∷ (rest ++ f.rest) = f.is in let first : 13 ≡ octet = cc in other (sym first))
    (λ f. let same : octet ∷ rest ≡ 13 ∷ (10 ∷ f.rest) = f.is in let first : octet ≡ 13 = cc in other first)

pub fails_feed : (old : State) (octet : ℕ) → old.place ≡ ChunkReturn → (octet ≡ 10 → ⊥) → (rest : List ℕ) → Fails old (octet ∷ rest) fault.Chunk
fails_feed old octet e other rest text before s =
    fails_end old (13 ∷ []) (octet ∷ rest) text before (at ChunkReturn old text before e s)
    (λ f. let same : crlf ≡ 13 ∷ (octet ∷ (rest ++ f.rest)) = f.is in let second : 10 ≡ octet = cc in other (sym second))
    (λ f. let same : 13 ∷ (octet ∷ rest) ≡ 13 ∷ (10 ∷ f.rest) = f.is in let second : octet ≡ 10 = cc in other second)

trailers_chunk : (f : ResponseFault) (line tail : List ℕ) → ChunkLine line 0 → TrailerFault f tail → ChunkFault f (line ++ tail)
trailers_chunk fault.Chunk line tail l t = inr (inr (record { line = line; tail = tail; is = refl; is_last = l; is_fault = t }))
trailers_chunk fault.TooLong line tail l t = record { line = line; tail = tail; is = refl; is_last = l; is_fault = t }
trailers_chunk fault.Head line tail l t = t
trailers_chunk fault.Length line tail l t = t
trailers_chunk fault.Coding line tail l t = t
trailers_chunk fault.Upgrade line tail l t = t
trailers_chunk fault.Memory line tail l t = t

pub fails_trailers : (old : State) (f : ResponseFault) (xs : List ℕ) → old.place ≡ Trailers → TrailerFault f (old.held.octets ++ xs) → Fails old xs f
fails_trailers old f xs e t text before s =
    let b = at Trailers old text before e s in
    fails_chunked f old.to_head (b.line ++ old.held.octets) [] text xs before b.chunked
    (subst (λ (o : List ℕ). ChunkFault f o) (sym (append_assoc b.line old.held.octets xs)) (trailers_chunk f b.line (old.held.octets ++ xs) b.is_last t))

-- ---- steps

pub fails_broken : (old : State) (f g : ResponseFault) (xs : List ℕ) → old.place ≡ Broken f → Fails old xs g
fails_broken old f g xs e text before s = absurd (at (Broken f) old text before e s)

-- so where an octet fails
pub first_fails : (old : State) (octets : List ℕ) (result : Result ℕ ResponseFault) → 0 < length octets → IfErr result (λ f. (rest : List ℕ) → Fails old (get_or octets 0 0 ∷ rest) f)
    → IfErr result (λ f. f ≢ fault.Memory → Fails old octets f)
first_fails old octets (Ok used) some h = tt
first_fails old [] (Err f) some h = absurd (omega arith)
first_fails old (octet ∷ octets) (Err f) some h = λ _. h octets
