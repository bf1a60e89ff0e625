-- One text has one fault at most.
use Rattle.std.proofs.Common.{◌≡◌, ℕ, ◌-◌, ◌<◌, ◌≤◌, Bool, List, [], ◌++◌, length, take, refl, sym, ap, ◌∙◌, subst, append_assoc, inl, inr, arith}
use Rattle.std.specs.Prelude.{◌⊎◌}
use Rattle.std.proofs.lemmas.List.{append-nil}
use Rattle.httparse.specs.Grammar as grammar
use Rattle.httparse.specs.Grammar.{ReadsResponse, NeverHasResponse, ReadsSection, status_code}
use Rattle.httparse.proofs.GrammarLemmas.{ReadsSection-append}
use Rattle.model.specs.ResponseHeads as model
use Rattle.model.specs.ResponseHeads.Framing.{Chunks as IsChunks}
use Rattle.model.specs.Responses.{Chunk as IsChunk}
use Rattle.model.proofs.Http1Runs.{same_rest, BeginsNone, one_joined}
use Rattle.model.proofs.ResponseHeadReadings.{spelled_reads, one_spelled, one_interim, one_front}
use Rattle.model.proofs.ResponseBodies.{one_chunk_line, one_response_chunk, none_at_last}
use Rattle.response_texts.specs.Heads.{HasNoHead}
use Rattle.response_texts.specs.SectionFaults.{in_reach, IsUnframed, IsRefusedFor, IsRefusedHead, IsLongHead, IsNinth, HeadFault, AreLongTrailers, TrailerFault}
use Rattle.h1_reader.specs.Faults.{IsBehindLast, ChunkFault, FaultBefore, FaultBehind, FaultStands}
use Rattle.response_texts.specs.declared.fault.ResponseFault.{ResponseFault}
use Rattle.response_texts.specs.declared.fault.ResponseFault.TheVariants as fault
use Rattle.response_texts.proofs.FrontLemmas.{taken_behind}
use Rattle.h1_reader.proofs.Noticed.{chunk_begins_none}
use Rattle.h1_reader.proofs.FaultLaws.{no_head_or_ninth, no_interim_there, nine, before_no_final, refused_none}

-- ---- one head

-- a head at the front is in reach
in_reach_behind : (text front past : List ℕ) → text ≡ front ++ past → length front ≤ 16384 → in_reach text ≡ front ++ take (16384 - length front) past
in_reach_behind text front past e short = ap in_reach e ∙ taken_behind front past 16384 short

abbrev StandsThere : List ℕ → Type 0
StandsThere text = (spelled : grammar.ResponseHead) × (rest : List ℕ) × ReadsResponse (in_reach text) spelled rest

refused_there : (f : ResponseFault) (to_head : Bool) (text : List ℕ) → IsRefusedHead f to_head text → StandsThere text
refused_there f to_head text r = (
  r.spelled,
  take (16384 - length r.head_text) r.past,
  subst (λ (o : List ℕ). ReadsResponse o r.spelled (take (16384 - length r.head_text) r.past)) (sym (in_reach_behind text r.head_text r.past r.is r.is_short)) (spelled_reads r.head_text (take (16384 - length r.head_text) r.past) r.spelled r.reads),
)

never_not : (text : List ℕ) → NeverHasResponse (in_reach text) → StandsThere text → ⊥
never_not text never s = never s.1 s.0 (s.1 ++ s.1) (grammar_on (in_reach text) s.0 s.1 s.1 s.2)
  where
    grammar_on : (t : List ℕ) (h : grammar.ResponseHead) (rest more : List ℕ) → ReadsResponse t h rest → ReadsResponse (t ++ more) h (rest ++ more)
    grammar_on t h rest more p = (p.0, ap (λ (o : List ℕ). o ++ more) p.1 ∙ append_assoc (grammar.print_response h) rest more)

never_not_long : (text : List ℕ) → NeverHasResponse (in_reach text) → IsLongHead text → ⊥
never_not_long text never long = let may = long.may_become in never may.0 may.1 [] may.2

unframed_not : (to_head : Bool) (spelled : grammar.ResponseHead) → IsUnframed to_head spelled → (100 < length spelled.fields) ⊎ (status_code spelled < 100) → ⊥
unframed_not to_head spelled un (inl many) = let few : length spelled.fields ≤ 100 = un.has_few in absurd (omega arith)
unframed_not to_head spelled un (inr low) = let high : 200 ≤ status_code spelled = un.is_final in absurd (omega arith)

final_not : (to_head : Bool) (spelled : grammar.ResponseHead) → IsUnframed to_head spelled → status_code spelled ≡ 101 → ⊥
final_not to_head spelled un is = let high : 200 ≤ status_code spelled = un.is_final in absurd (omega arith)

-- a head is refused for one reason
same_refusal : (f g : ResponseFault) (to_head : Bool) (spelled : grammar.ResponseHead) → IsRefusedFor f to_head spelled → IsRefusedFor g to_head spelled → f ≡ g
same_refusal fault.Head fault.Head to_head spelled p q = refl
same_refusal fault.Head fault.Upgrade to_head spelled (inl many) q = let few : length spelled.fields ≤ 100 = q.0 in absurd (omega arith)
same_refusal fault.Head fault.Upgrade to_head spelled (inr low) q = let is : status_code spelled ≡ 101 = q.1 in absurd (omega arith)
same_refusal fault.Head fault.Coding to_head spelled p q = absurd (unframed_not to_head spelled q.0 p)
same_refusal fault.Head fault.Length to_head spelled p q = absurd (unframed_not to_head spelled q.0 p)
same_refusal fault.Head fault.TooLong to_head spelled p q = absurd q
same_refusal fault.Head fault.Chunk to_head spelled p q = absurd q
same_refusal fault.Head fault.Memory to_head spelled p q = absurd q
same_refusal fault.Upgrade fault.Head to_head spelled q (inl many) = let few : length spelled.fields ≤ 100 = q.0 in absurd (omega arith)
same_refusal fault.Upgrade fault.Head to_head spelled q (inr low) = let is : status_code spelled ≡ 101 = q.1 in absurd (omega arith)
same_refusal fault.Upgrade fault.Upgrade to_head spelled p q = refl
same_refusal fault.Upgrade fault.Coding to_head spelled p q = absurd (final_not to_head spelled q.0 p.1)
same_refusal fault.Upgrade fault.Length to_head spelled p q = absurd (final_not to_head spelled q.0 p.1)
same_refusal fault.Upgrade fault.TooLong to_head spelled p q = absurd q
same_refusal fault.Upgrade fault.Chunk to_head spelled p q = absurd q
same_refusal fault.Upgrade fault.Memory to_head spelled p q = absurd q
same_refusal fault.Coding fault.Head to_head spelled p q = absurd (unframed_not to_head spelled p.0 q)
same_refusal fault.Coding fault.Upgrade to_head spelled p q = absurd (final_not to_head spelled p.0 q.1)
same_refusal fault.Coding fault.Coding to_head spelled p q = refl
same_refusal fault.Coding fault.Length to_head spelled p q = absurd (p.1 q.1)
same_refusal fault.Coding fault.TooLong to_head spelled p q = absurd q
same_refusal fault.Coding fault.Chunk to_head spelled p q = absurd q
same_refusal fault.Coding fault.Memory to_head spelled p q = absurd q
same_refusal fault.Length fault.Head to_head spelled p q = absurd (unframed_not to_head spelled p.0 q)
same_refusal fault.Length fault.Upgrade to_head spelled p q = absurd (final_not to_head spelled p.0 q.1)
same_refusal fault.Length fault.Coding to_head spelled p q = absurd (q.1 p.1)
same_refusal fault.Length fault.Length to_head spelled p q = refl
same_refusal fault.Length fault.TooLong to_head spelled p q = absurd q
same_refusal fault.Length fault.Chunk to_head spelled p q = absurd q
same_refusal fault.Length fault.Memory to_head spelled p q = absurd q
same_refusal fault.TooLong g to_head spelled p q = absurd p
same_refusal fault.Chunk g to_head spelled p q = absurd p
same_refusal fault.Memory g to_head spelled p q = absurd p

one_refusal : (f g : ResponseFault) (to_head : Bool) (text : List ℕ) → IsRefusedHead f to_head text → IsRefusedHead g to_head text → f ≡ g
one_refusal f g to_head text p q =
    let same : p.spelled ≡ q.spelled = (one_spelled p.head_text q.head_text p.past q.past p.spelled q.spelled p.reads q.reads (sym p.is ∙ q.is)).1 in
    same_refusal f g to_head q.spelled (subst (λ (s : grammar.ResponseHead). IsRefusedFor f to_head s) same p.refused) q.refused

-- the reasons, put apart: what no head begins with, no end in reach, one interim head too many, or a whole head that is refused
abbrev Reasons : ResponseFault → Bool → ℕ → List ℕ → Type 0
Reasons f to_head before text =
    ((f ≡ fault.Head) × NeverHasResponse (in_reach text)) ⊎ (((f ≡ fault.TooLong) × IsLongHead text) ⊎ (((f ≡ fault.TooLong) × IsNinth before text) ⊎ IsRefusedHead f to_head text))

reasons : (f : ResponseFault) (to_head : Bool) (before : ℕ) (text : List ℕ) → HeadFault f to_head before text → Reasons f to_head before text
reasons fault.Head to_head before text (inl never) = inl (refl, never)
reasons fault.Head to_head before text (inr r) = inr (inr (inr r))
reasons fault.TooLong to_head before text (inl long) = inr (inl (refl, long))
reasons fault.TooLong to_head before text (inr ninth) = inr (inr (inl (refl, ninth)))
reasons fault.Length to_head before text r = inr (inr (inr r))
reasons fault.Coding to_head before text r = inr (inr (inr r))
reasons fault.Upgrade to_head before text r = inr (inr (inr r))
reasons fault.Chunk to_head before text r = absurd r
reasons fault.Memory to_head before text r = absurd r

ninth_there : (before : ℕ) (text : List ℕ) → IsNinth before text → StandsThere text
ninth_there before text n = (
  n.is_interim.spelled,
  take (16384 - length n.head_text) n.past,
  subst (λ (o : List ℕ). ReadsResponse o n.is_interim.spelled (take (16384 - length n.head_text) n.past)) (sym (in_reach_behind text n.head_text n.past n.is n.is_interim.taken.is_short))
      (spelled_reads n.head_text (take (16384 - length n.head_text) n.past) n.is_interim.spelled n.is_interim.taken.reads),
)

long_not : (text : List ℕ) → IsLongHead text → StandsThere text → ⊥
long_not text long s = long.no_head s.0 s.1 s.2

-- an interim head isn't refused
ninth_not : (f : ResponseFault) (to_head : Bool) (before : ℕ) (text : List ℕ) → IsNinth before text → IsRefusedHead f to_head text → ⊥
ninth_not f to_head before text n r =
    (refused_none f to_head text r r.refused).no_interim [] n.head_text n.past n.head (append-nil text ∙ n.is) n.is_interim

one_head_fault : (f g : ResponseFault) (to_head : Bool) (before : ℕ) (text : List ℕ) → Reasons f to_head before text → Reasons g to_head before text → f ≡ g
one_head_fault f g to_head before text (inl p) (inl q) = p.0 ∙ sym q.0
one_head_fault f g to_head before text (inl p) (inr (inl q)) = absurd (never_not_long text p.1 q.1)
one_head_fault f g to_head before text (inl p) (inr (inr (inl q))) = absurd (never_not text p.1 (ninth_there before text q.1))
one_head_fault f g to_head before text (inl p) (inr (inr (inr q))) = absurd (never_not text p.1 (refused_there g to_head text q))
one_head_fault f g to_head before text (inr (inl p)) (inl q) = absurd (never_not_long text q.1 p.1)
one_head_fault f g to_head before text (inr (inl p)) (inr (inl q)) = p.0 ∙ sym q.0
one_head_fault f g to_head before text (inr (inl p)) (inr (inr (inl q))) = p.0 ∙ sym q.0
one_head_fault f g to_head before text (inr (inl p)) (inr (inr (inr q))) = absurd (long_not text p.1 (refused_there g to_head text q))
one_head_fault f g to_head before text (inr (inr (inl p))) (inl q) = absurd (never_not text q.1 (ninth_there before text p.1))
one_head_fault f g to_head before text (inr (inr (inl p))) (inr (inl q)) = p.0 ∙ sym q.0
one_head_fault f g to_head before text (inr (inr (inl p))) (inr (inr (inl q))) = p.0 ∙ sym q.0
one_head_fault f g to_head before text (inr (inr (inl p))) (inr (inr (inr q))) = absurd (ninth_not g to_head before text p.1 q)
one_head_fault f g to_head before text (inr (inr (inr p))) (inl q) = absurd (never_not text q.1 (refused_there f to_head text p))
one_head_fault f g to_head before text (inr (inr (inr p))) (inr (inl q)) = absurd (long_not text q.1 (refused_there f to_head text p))
one_head_fault f g to_head before text (inr (inr (inr p))) (inr (inr (inl q))) = absurd (ninth_not f to_head before text q.1 p)
one_head_fault f g to_head before text (inr (inr (inr p))) (inr (inr (inr q))) = one_refusal f g to_head text p q

-- ---- one place behind interim heads

before_before : (f g : ResponseFault) (text : List ℕ) (to_head : Bool) → FaultBefore f text to_head → FaultBefore g text to_head → f ≡ g
before_before f g text to_head p q =
    elim (no_head_or_ninth f to_head (length p.interims) p.rest p.is_fault) [
      | inl none ↦ elim (no_head_or_ninth g to_head (length q.interims) q.rest q.is_fault) [
        | inl other ↦ both none other
        | inr m ↦ (
            let more : 8 < length p.interims = nine g text [] p.front p.rest to_head p.interims q m.1 p.are_interims (begins_none p.rest none) (append-nil text ∙ p.is) in
            let few : length p.interims ≤ 8 = p.few_interims in
            absurd (omega arith)
            )
      ]
      | inr n ↦ elim (no_head_or_ninth g to_head (length q.interims) q.rest q.is_fault) [
        | inl other ↦ (
            let more : 8 < length q.interims = nine f text [] q.front q.rest to_head q.interims p n.1 q.are_interims (begins_none q.rest other) (append-nil text ∙ q.is) in
            let few : length q.interims ≤ 8 = q.few_interims in
            absurd (omega arith)
            )
        | inr m ↦ n.0 ∙ sym m.0
      ]
    ]
  where
    begins_none : (rest : List ℕ) → HasNoHead to_head rest → BeginsNone model.Interim rest
    begins_none rest none = subst (BeginsNone model.Interim) (append-nil rest) (no_interim_there to_head rest [] none)

    both : HasNoHead to_head p.rest → HasNoHead to_head q.rest → f ≡ g
    both none other =
        let whole : p.front ++ p.rest ≡ q.front ++ q.rest = sym p.is ∙ q.is in
        let fronts = one_joined model.Interim one_interim p.front q.front p.rest q.rest p.interims q.interims p.are_interims q.are_interims (begins_none p.rest none) (begins_none q.rest other) whole in
        let rests : p.rest ≡ q.rest = same_rest p.front q.front p.rest q.rest fronts.0 whole in
        let counts : length p.interims ≡ length q.interims = ap length fronts.1 in
        let here : HeadFault f to_head (length q.interims) q.rest = subst (λ n. HeadFault f to_head n q.rest) counts (subst (λ (o : List ℕ). HeadFault f to_head (length p.interims) o) rests p.is_fault) in
        one_head_fault f g to_head (length q.interims) q.rest (reasons f to_head (length q.interims) q.rest here) (reasons g to_head (length q.interims) q.rest q.is_fault)

-- ---- one place behind chunks

last_begins_none : (f : ResponseFault) (text : List ℕ) → IsBehindLast f text → BeginsNone IsChunk text
last_begins_none f text b = subst (λ (o : List ℕ). BeginsNone IsChunk o) (sym b.is) (none_at_last b.line b.tail b.is_last)

begins_no_chunk : (f : ResponseFault) (text : List ℕ) → ChunkFault f text → BeginsNone IsChunk text
begins_no_chunk fault.Chunk text (inl n) = chunk_begins_none text (inl n)
begins_no_chunk fault.Chunk text (inr (inl b)) = chunk_begins_none text (inr (inl b))
begins_no_chunk fault.Chunk text (inr (inr b)) = last_begins_none fault.Chunk text b
begins_no_chunk fault.TooLong text b = last_begins_none fault.TooLong text b
begins_no_chunk fault.Head text t = absurd t
begins_no_chunk fault.Length text t = absurd t
begins_no_chunk fault.Coding text t = absurd t
begins_no_chunk fault.Upgrade text t = absurd t
begins_no_chunk fault.Memory text t = absurd t

-- trailers that are too long are no other fault
long_alone : (tail : List ℕ) → AreLongTrailers tail → TrailerFault fault.Chunk tail → ⊥
long_alone tail long (inl never) = let may = long.may_become in never may.0 may.1 may.2 [] may.3
long_alone tail long (inr m) =
    let there : ReadsSection (in_reach tail) m.lines m.last (take (16384 - length m.trailers) m.past) =
    subst (λ (o : List ℕ). ReadsSection o m.lines m.last (take (16384 - length m.trailers) m.past)) (sym (in_reach_behind tail m.trailers m.past m.is m.are_short))
    (ReadsSection-append m.trailers m.lines m.last [] (take (16384 - length m.trailers) m.past) m.reads) in
    long.no_trailers m.lines m.last (take (16384 - length m.trailers) m.past) there

chunk_not_long : (text : List ℕ) → ChunkFault fault.Chunk text → IsBehindLast fault.TooLong text → ⊥
chunk_not_long text (inl n) b = n.begins_none b.line b.tail 0 b.is_last b.is
chunk_not_long text (inr (inl c)) b =
    let whole : b.line ++ b.tail ≡ c.line ++ (c.octets ++ c.end) = sym b.is ∙ c.is ∙ append_assoc c.line c.octets c.end in
    let sizes : 0 ≡ length c.octets = (one_chunk_line b.line c.line b.tail (c.octets ++ c.end) 0 (length c.octets) b.is_last c.has_line whole).1 in
    let some : 0 < length c.octets = c.is_not_last in
    absurd (omega arith)
chunk_not_long text (inr (inr c)) b =
    let whole : b.line ++ b.tail ≡ c.line ++ c.tail = sym b.is ∙ c.is in
    let lines = one_chunk_line b.line c.line b.tail c.tail 0 0 b.is_last c.is_last whole in
    long_alone b.tail b.is_fault (subst (TrailerFault fault.Chunk) (sym (same_rest b.line c.line b.tail c.tail lines.0 whole)) c.is_fault)

one_chunk_fault : (f g : ResponseFault) (text : List ℕ) → ChunkFault f text → ChunkFault g text → f ≡ g
one_chunk_fault fault.Chunk fault.Chunk text p q = refl
one_chunk_fault fault.Chunk fault.TooLong text p q = absurd (chunk_not_long text p q)
one_chunk_fault fault.TooLong fault.Chunk text p q = absurd (chunk_not_long text q p)
one_chunk_fault fault.TooLong fault.TooLong text p q = refl
one_chunk_fault fault.Chunk fault.Head text p q = absurd q
one_chunk_fault fault.Chunk fault.Length text p q = absurd q
one_chunk_fault fault.Chunk fault.Coding text p q = absurd q
one_chunk_fault fault.Chunk fault.Upgrade text p q = absurd q
one_chunk_fault fault.Chunk fault.Memory text p q = absurd q
one_chunk_fault fault.TooLong fault.Head text p q = absurd q
one_chunk_fault fault.TooLong fault.Length text p q = absurd q
one_chunk_fault fault.TooLong fault.Coding text p q = absurd q
one_chunk_fault fault.TooLong fault.Upgrade text p q = absurd q
one_chunk_fault fault.TooLong fault.Memory text p q = absurd q
one_chunk_fault fault.Head g text p q = absurd p
one_chunk_fault fault.Length g text p q = absurd p
one_chunk_fault fault.Coding g text p q = absurd p
one_chunk_fault fault.Upgrade g text p q = absurd p
one_chunk_fault fault.Memory g text p q = absurd p

grouped : (front head chunks rest : List ℕ) → front ++ head ++ chunks ++ rest ≡ (front ++ head) ++ (chunks ++ rest)
grouped front head chunks rest = simp append_assoc

behind_behind : (f g : ResponseFault) (text : List ℕ) (to_head : Bool) → FaultBehind f text to_head → FaultBehind g text to_head → f ≡ g
behind_behind f g text to_head p q =
    let whole : (p.front ++ p.head_text) ++ (p.chunks_text ++ p.rest) ≡ (q.front ++ q.head_text) ++ (q.chunks_text ++ q.rest) =
    sym (grouped p.front p.head_text p.chunks_text p.rest) ∙ sym p.is ∙ q.is ∙ grouped q.front q.head_text q.chunks_text q.rest in
    let same = one_front to_head p.front q.front p.head_text q.head_text (p.chunks_text ++ p.rest) (q.chunks_text ++ q.rest) p.interims q.interims p.head q.head (IsChunks p.named) (IsChunks q.named)
    p.are_interims q.are_interims p.is_final q.is_final whole in
    let fronts = one_joined IsChunk one_response_chunk p.chunks_text q.chunks_text p.rest q.rest p.chunks q.chunks p.are_chunks q.are_chunks
    (begins_no_chunk f p.rest p.is_fault) (begins_no_chunk g q.rest q.is_fault) same.final.rest in
    let rests : p.rest ≡ q.rest = same_rest p.chunks_text q.chunks_text p.rest q.rest fronts.0 same.final.rest in
    one_chunk_fault f g q.rest (subst (λ (o : List ℕ). ChunkFault f o) rests p.is_fault) q.is_fault

before_behind : (f g : ResponseFault) (text : List ℕ) (to_head : Bool) → FaultBefore f text to_head → FaultBehind g text to_head → ⊥
before_behind f g text to_head p q =
    before_no_final f text [] q.front q.head_text (q.chunks_text ++ q.rest) to_head q.interims q.head (IsChunks q.named) p q.are_interims q.few_interims q.is_final
    (append-nil text ∙ q.is ∙ grouped q.front q.head_text q.chunks_text q.rest ∙ append_assoc q.front q.head_text (q.chunks_text ++ q.rest))

pub one_fault : (f g : ResponseFault) (text : List ℕ) (to_head : Bool) → FaultStands f text to_head → FaultStands g text to_head → f ≡ g
one_fault f g text to_head (inl p) (inl q) = before_before f g text to_head p q
one_fault f g text to_head (inl p) (inr q) = absurd (before_behind f g text to_head p q)
one_fault f g text to_head (inr p) (inl q) = absurd (before_behind g f text to_head q p)
one_fault f g text to_head (inr p) (inr q) = behind_behind f g text to_head p q
