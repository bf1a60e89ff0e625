-- Where a reader stands nothing that has to be noticed stands in the text.
use Rattle.std.proofs.Common.{◌≡◌, ℕ, ◌+◌, ◌<◌, ◌≤◌, Bool, false, List, [], ◌∷◌, ◌++◌, length, refl, sym, ap, ◌∙◌, subst, append_assoc, length-append, inl, inr, arith}
use Rattle.std.proofs.lemmas.Bool.{cases_lt}
use Rattle.std.proofs.lemmas.List.{append-nil}
use Rattle.httparse.specs.Grammar as grammar
use Rattle.httparse.specs.Grammar.{ReadsResponse, HasNoResponse, MayBecomeResponse, NeverHasResponse, ReadsSection, HasNoSection, MayBecomeSection, LineEnd}
use Rattle.httparse.proofs.GrammarLemmas.{section_unique, ReadsSection-append}
use Rattle.model.specs.Octets.{Joined, IsFront}
use Rattle.model.specs.Messages.{Field}
use Rattle.model.specs.Http1.{crlf}
use Rattle.model.specs.ResponseHeads as model
use Rattle.model.specs.ResponseHeads.Framing.{Chunks as IsChunks, Sized as IsSized, UntilEnd as IsUntilEnd}
use Rattle.model.specs.Responses as responses
use Rattle.model.specs.Responses.{ChunkLine, Chunk as IsChunk, Chunked, IsTrailers, HasBody}
use Rattle.model.specs.Noticing.{IsBadHead, AreBadTrailers, IsBadChunk, PlainlyBefore, PlainlyBehind, IsPlainlyBad}
use Rattle.model.proofs.Http1Runs.{same_front, same_rest, BeginsNone, one_joined}
use Rattle.model.proofs.ResponseHeadReadings.{one_spelled, one_interim, none_at_final, none_without_head, one_front, spelled_reads}
use Rattle.model.proofs.ResponseBodies.{one_chunk_line, one_response_chunk, none_at_last}
use Rattle.h1_reader.specs.Parts.{Part}
use Rattle.h1_reader.specs.Standing.{Held, State, InBody, InChunked, BehindChunk, StandsAt, Stands}
use Rattle.h1_reader.specs.declared.reader.Place.{Place}
use Rattle.h1_reader.specs.declared.reader.Place.TheVariants.{Head, Sized, UntilEnd, Line, Chunk, ChunkEnd, ChunkReturn, Trailers, Past, Broken}
use Rattle.h1_reader.proofs.Steps.{joined_longer}
use Rattle.response_texts.proofs.ChunkLineLemmas.{line_begun, none_in_line}
use Rattle.h1_reader.proofs.ChunkEnds.{NoBody, no_line_body, end_no_body, line_no_body, chunk_no_body, end_body_none, held_no_body, no_octets, one_octet}

-- ---- heads

-- as many things joined end at one place
same_joined : (s t x y : List ℕ) (hs ks : List model.Head) → Joined model.Interim s hs → Joined model.Interim t ks → length hs ≡ length ks → s ++ x ≡ t ++ y → s ≡ t
same_joined s t x y [] [] p q l e = p ∙ sym q
same_joined s t x y [] (k ∷ ks) p q l e = absurd (omega arith)
same_joined s t x y (h ∷ hs) [] p q l e = absurd (omega arith)
same_joined s t x y (h ∷ hs) (k ∷ ks) p q l e =
    let whole : p.0 ++ (p.1 ++ x) ≡ q.0 ++ (q.1 ++ y) =
    sym (append_assoc p.0 p.1 x) ∙ ap (λ (o : List ℕ). o ++ x) (sym p.3) ∙ e ∙ ap (λ (o : List ℕ). o ++ y) q.3 ∙ append_assoc q.0 q.1 y in
    let first : p.0 ≡ q.0 = (one_interim p.0 q.0 (p.1 ++ x) (q.1 ++ y) h k p.2 q.2 whole).0 in
    let more : p.1 ≡ q.1 = same_joined p.1 q.1 x y hs ks p.4 q.4 (omega arith) (same_rest p.0 q.0 (p.1 ++ x) (q.1 ++ y) first whole) in
    p.3 ∙ ap (λ (o : List ℕ). o ++ p.1) first ∙ ap (λ (o : List ℕ). q.0 ++ o) more ∙ sym q.3

never_now : (text : List ℕ) → NeverHasResponse text → HasNoResponse text
never_now text never = subst HasNoResponse (append-nil text) (never [])

-- behind fewer than eight interim heads no further one begins what is bad
bad_begins_none : (to_head : Bool) (before : ℕ) (text : List ℕ) → before < 8 → IsBadHead to_head before text → BeginsNone model.Interim text
bad_begins_none to_head before text few (inl never) = none_without_head text (never_now text never)
bad_begins_none to_head before text few (inr (inl long)) = none_without_head text long.0
bad_begins_none to_head before text few (inr (inr r)) =
    λ front more head interim e.
    let same : front ≡ r.0 = (one_spelled front r.0 more r.1 interim.spelled r.3.spelled interim.taken.reads r.3.reads (sym e ∙ r.2)).0 in
    let many : 8 ≤ before = r.3.no_interim head (subst (λ (o : List ℕ). model.Interim o head) same interim) in
    absurd (omega arith)

-- a bad head stands where the interim heads end
bad_there : (to_head : Bool) (text front there : List ℕ) (interims : List model.Head) → Joined model.Interim front interims → length interims ≤ 8 → BeginsNone model.Interim there → text ≡ front ++ there
    → (p : PlainlyBefore text to_head) → p.rest ≡ there
bad_there to_head text front there interims joined few none is p =
    let whole : p.front ++ p.rest ≡ front ++ there = sym p.is ∙ is in
    elim (cases_lt (length p.interims) 8) [
      | inl less ↦
          let fronts = one_joined model.Interim one_interim p.front front p.rest there p.interims interims p.are_interims joined
          (bad_begins_none to_head (length p.interims) p.rest less p.is_bad) none whole in
          same_rest p.front front p.rest there fronts.0 whole
      | inr many ↦
          let longer : length p.interims ≤ length interims = joined_longer p.front front p.rest there p.interims interims p.are_interims joined none whole in
          let same : p.front ≡ front = same_joined p.front front p.rest there p.interims interims p.are_interims joined (omega arith) whole in
          same_rest p.front front p.rest there same whole
    ]

held_not_bad : (to_head : Bool) (before : ℕ) (held : List ℕ) → HasNoResponse held → MayBecomeResponse held → length held ≤ 16384 → IsBadHead to_head before held → ⊥
held_not_bad to_head before held none may short (inl never) = never may.0 may.1 [] may.2
held_not_bad to_head before held none may short (inr (inl long)) = let more : 16384 < length held = long.1 in absurd (omega arith)
held_not_bad to_head before held none may short (inr (inr r)) =
    none r.3.spelled r.1 (subst (λ (o : List ℕ). ReadsResponse o r.3.spelled r.1) (sym r.2) (spelled_reads r.0 r.1 r.3.spelled r.3.reads))

final_not_bad : (to_head : Bool) (before : ℕ) (head_text rest : List ℕ) (head : model.Head) (framing : model.Framing) → model.Final to_head head_text head framing
    → IsBadHead to_head before (head_text ++ rest) → ⊥
final_not_bad to_head before head_text rest head framing final (inl never) =
    never_now (head_text ++ rest) never final.spelled rest (spelled_reads head_text rest final.spelled final.taken.reads)
final_not_bad to_head before head_text rest head framing final (inr (inl long)) = long.0 final.spelled rest (spelled_reads head_text rest final.spelled final.taken.reads)
final_not_bad to_head before head_text rest head framing final (inr (inr r)) =
    let same : head_text ≡ r.0 = (one_spelled head_text r.0 rest r.1 final.spelled r.3.spelled final.taken.reads r.3.reads r.2).0 in
    r.3.no_final head framing (subst (λ (o : List ℕ). model.Final to_head o head framing) same final)

-- ---- chunks

-- no chunk begins what can't be continued
pub chunk_begins_none : (text : List ℕ) → IsBadChunk text → BeginsNone IsChunk text
chunk_begins_none text (inl n) = (no_line_body text (λ line past size l e. n.begins_none line past size l e)).no_chunk
chunk_begins_none text (inr (inl b)) =
    let none = end_no_body b.line b.octets b.end b.has_line b.is_not_last (λ more e. b.is_no_end (record { rest = more; is = e })) in
    subst (λ (o : List ℕ). BeginsNone IsChunk o) (sym (b.is ∙ append_assoc b.line b.octets b.end)) none.no_chunk
chunk_begins_none text (inr (inr t)) = subst (λ (o : List ℕ). BeginsNone IsChunk o) (sym t.2) (none_at_last t.0 t.1 t.3)

part_not_bad : (text : List ℕ) → responses.InLine text → IsBadChunk text → ⊥
part_not_bad text b (inl n) = n.is_no_part b.line b.size b.is_line (record { rest = b.is_part.next ∷ b.is_part.rest; is = b.is_part.is })
part_not_bad text b (inr (inl q)) = none_in_line text b q.line (q.octets ++ q.end) (length q.octets) q.has_line (q.is ∙ append_assoc q.line q.octets q.end)
part_not_bad text b (inr (inr t)) = none_in_line text b t.0 t.1 0 t.3 t.2

-- behind a line that isn't the last
chunk_not_bad : (line tail : List ℕ) (size : ℕ) → ChunkLine line size → 0 < size → ((octets end : List ℕ) → tail ≡ octets ++ end → length octets ≡ size → (IsFront end crlf → ⊥) → ⊥) → IsBadChunk (line ++ tail) → ⊥
chunk_not_bad line tail size l some none (inl n) = n.begins_none line tail size l refl
chunk_not_bad line tail size l some none (inr (inl q)) =
    let whole : line ++ tail ≡ q.line ++ (q.octets ++ q.end) = q.is ∙ append_assoc q.line q.octets q.end in
    let lines = one_chunk_line line q.line tail (q.octets ++ q.end) size (length q.octets) l q.has_line whole in
    none q.octets q.end (same_rest line q.line tail (q.octets ++ q.end) lines.0 whole) (sym lines.1) q.is_no_part
chunk_not_bad line tail size l some none (inr (inr t)) =
    let sizes : size ≡ 0 = (one_chunk_line line t.0 tail t.1 size 0 l t.3 t.2).1 in
    absurd (omega arith)

-- behind the last line
last_not_bad : (line tail : List ℕ) → ChunkLine line 0 → (AreBadTrailers tail → ⊥) → IsBadChunk (line ++ tail) → ⊥
last_not_bad line tail l none (inl n) = n.begins_none line tail 0 l refl
last_not_bad line tail l none (inr (inl q)) =
    let whole : line ++ tail ≡ q.line ++ (q.octets ++ q.end) = q.is ∙ append_assoc q.line q.octets q.end in
    let sizes : 0 ≡ length q.octets = (one_chunk_line line q.line tail (q.octets ++ q.end) 0 (length q.octets) l q.has_line whole).1 in
    let some : 0 < length q.octets = q.is_not_last in
    absurd (omega arith)
last_not_bad line tail l none (inr (inr t)) =
    let lines = one_chunk_line line t.0 tail t.1 0 0 l t.3 t.2 in
    none (subst AreBadTrailers (sym (same_rest line t.0 tail t.1 lines.0 t.2)) t.4)

trailers_not_bad : (held : List ℕ) → HasNoSection held → MayBecomeSection held → length held ≤ 16384 → AreBadTrailers held → ⊥
trailers_not_bad held none may short (inl never) = never may.0 may.1 may.2 [] may.3
trailers_not_bad held none may short (inr (inl long)) = let more : 16384 < length held = long.1 in absurd (omega arith)
trailers_not_bad held none may short (inr (inr t)) =
    none t.3.lines t.3.last t.1
    (subst (λ (o : List ℕ). ReadsSection o t.3.lines t.3.last t.1) (sym t.2) (ReadsSection-append t.0 t.3.lines t.3.last [] t.1 t.3.reads))

whole_not_bad : (trailers past : List ℕ) → IsTrailers trailers → AreBadTrailers (trailers ++ past) → ⊥
whole_not_bad trailers past are (inl never) =
    never past are.lines are.last (past ++ past)
    (subst (λ (o : List ℕ). ReadsSection o are.lines are.last (past ++ past)) (sym (append_assoc trailers past past)) (ReadsSection-append trailers are.lines are.last [] (past ++ past) are.reads))
whole_not_bad trailers past are (inr (inl long)) = long.0 are.lines are.last past (ReadsSection-append trailers are.lines are.last [] past are.reads)
whole_not_bad trailers past are (inr (inr t)) =
    let here = ReadsSection-append trailers are.lines are.last [] past are.reads in
    let there : ReadsSection (trailers ++ past) t.3.lines t.3.last t.1 =
    subst (λ (o : List ℕ). ReadsSection o t.3.lines t.3.last t.1) (sym t.2) (ReadsSection-append t.0 t.3.lines t.3.last [] t.1 t.3.reads) in
    let same = section_unique (trailers ++ past) are.lines t.3.lines are.last t.3.last past t.1 here there in
    let texts : trailers ≡ t.0 =
    are.reads.1 ∙ ap (λ (o : List grammar.Field). grammar.print_section o are.last ++ []) same.0 ∙ ap (λ (o : LineEnd). grammar.print_section t.3.lines o ++ []) same.1 ∙ sym t.3.reads.1 in
    t.3.not_taken (subst IsTrailers texts are)

-- ---- where a reader stands

-- what is bad behind a head stands behind the chunks
bad_chunk : (to_head : Bool) (framing : model.Framing) (text rest octets front behind : List ℕ) (chunks : List (List ℕ)) (parts ends : List Part) → InBody to_head framing text rest octets parts ends
    → rest ≡ front ++ behind → Joined IsChunk front chunks → BeginsNone IsChunk behind → PlainlyBehind text to_head → IsBadChunk behind
bad_chunk to_head framing text rest octets front behind chunks parts ends b is joined none p =
    let grouped : text ≡ (p.front ++ p.head_text) ++ (p.chunks_text ++ p.rest) = p.is ∙ append_assoc (p.front ++ p.head_text) p.chunks_text p.rest in
    let same = one_front to_head b.front p.front b.head_text p.head_text rest (p.chunks_text ++ p.rest) b.interims p.interims b.head p.head framing (IsChunks p.named)
    b.are_interims p.are_interims b.is_final p.is_final (sym b.is ∙ grouped) in
    let whole : front ++ behind ≡ p.chunks_text ++ p.rest = sym is ∙ same.final.rest in
    let fronts = one_joined IsChunk one_response_chunk front p.chunks_text behind p.rest chunks p.chunks joined p.are_chunks none (chunk_begins_none p.rest p.is_bad) whole in
    subst IsBadChunk (sym (same_rest front p.chunks_text behind p.rest fronts.0 whole)) p.is_bad

-- only a body in chunks has chunks
framed_in_chunks : (to_head : Bool) (framing : model.Framing) (text rest octets : List ℕ) (parts ends : List Part) → InBody to_head framing text rest octets parts ends → (p : PlainlyBehind text to_head) → framing ≡ IsChunks p.named
framed_in_chunks to_head framing text rest octets parts ends b p =
    let grouped : text ≡ (p.front ++ p.head_text) ++ (p.chunks_text ++ p.rest) = p.is ∙ append_assoc (p.front ++ p.head_text) p.chunks_text p.rest in
    (one_front to_head b.front p.front b.head_text p.head_text rest (p.chunks_text ++ p.rest) b.interims p.interims b.head p.head framing (IsChunks p.named)
    b.are_interims p.are_interims b.is_final p.is_final (sym b.is ∙ grouped)).final.framing

chunked_not_bad : {named : List (List ℕ)} (to_head : Bool) (behind next text : List ℕ) (parts : List Part) (c : InChunked named to_head behind next text parts) → NoBody behind → (IsBadChunk behind → ⊥) → PlainlyBehind text to_head → ⊥
chunked_not_bad {named} to_head behind next text parts c none good p =
    good (bad_chunk to_head (IsChunks named) text (c.front ++ behind) _ c.front behind c.chunks parts [] c.body refl c.are_chunks none.no_chunk p)

end_not_bad : {named : List (List ℕ)} (to_head : Bool) (end text : List ℕ) (parts : List Part) → length end < 2 → IsFront end crlf → BehindChunk named to_head end text parts → PlainlyBehind text to_head → ⊥
end_not_bad {named} to_head end text parts few part b p =
    chunked_not_bad to_head (b.line ++ b.next ++ end) b.next text parts b.chunked (end_body_none to_head end text parts few b)
    (λ bad. chunk_not_bad b.line (b.next ++ end) (length b.next) b.is_line b.some
    (λ octets other e l no_part.
    let same : b.next ≡ octets = same_front b.next octets end other (sym l) e in
    no_part (subst (λ (o : List ℕ). IsFront o crlf) (same_rest b.next octets end other same e) part))
    (subst IsBadChunk (append_assoc b.line b.next end) bad)) p

past_not_bad : (to_head : Bool) (framing : model.Framing) (text rest octets : List ℕ) (trailers : List Field) (parts ends : List Part) → InBody to_head framing text rest octets parts ends → HasBody framing false rest octets trailers
    → PlainlyBehind text to_head → ⊥
past_not_bad to_head framing text rest octets trailers parts ends b w p =
    let q : Chunked p.named rest octets trailers = subst (λ (f : model.Framing). HasBody f false rest octets trailers) (framed_in_chunks to_head framing text rest octets parts ends b p) w in
    let grouped : q.front ++ q.line ++ q.section ++ q.past ≡ q.front ++ (q.line ++ (q.section ++ q.past)) = regrouped q.front q.line q.section q.past in
    last_not_bad q.line (q.section ++ q.past) q.is_last (whole_not_bad q.section q.past q.are_trailers)
    (bad_chunk to_head framing text rest octets q.front (q.line ++ (q.section ++ q.past)) q.chunks parts ends b (q.is ∙ grouped) q.are_chunks (none_at_last q.line (q.section ++ q.past) q.is_last) p)
  where
    regrouped : (front line section past : List ℕ) → front ++ line ++ section ++ past ≡ front ++ (line ++ (section ++ past))
    regrouped front line section past = simp append_assoc

no_sized : (count : ℕ) (named : List (List ℕ)) → ◌≡◌ {A = model.Framing} (IsSized count) (IsChunks named) → ⊥
no_sized count named e = cc

no_rest : (named : List (List ℕ)) → ◌≡◌ {A = model.Framing} IsUntilEnd (IsChunks named) → ⊥
no_rest named e = cc

-- before its head ends nothing is behind it
none_behind : (to_head : Bool) (held text front : List ℕ) (interims : List model.Head) → Joined model.Interim front interims → HasNoResponse held → text ≡ front ++ held → PlainlyBehind text to_head → ⊥
none_behind to_head held text front interims joined none is p =
    let grouped : front ++ held ≡ p.front ++ (p.head_text ++ (p.chunks_text ++ p.rest)) = sym is ∙ p.is ∙ regrouped p.front p.head_text p.chunks_text p.rest in
    let fronts = one_joined model.Interim one_interim front p.front held (p.head_text ++ (p.chunks_text ++ p.rest)) interims p.interims joined p.are_interims
    (none_without_head held none) (none_at_final to_head p.head_text (p.chunks_text ++ p.rest) p.head (IsChunks p.named) p.is_final) grouped in
    none p.is_final.spelled (p.chunks_text ++ p.rest)
    (subst (λ (o : List ℕ). ReadsResponse o p.is_final.spelled (p.chunks_text ++ p.rest)) (sym (same_rest front p.front held (p.head_text ++ (p.chunks_text ++ p.rest)) fronts.0 grouped))
    (spelled_reads p.head_text (p.chunks_text ++ p.rest) p.is_final.spelled p.is_final.taken.reads))
  where
    regrouped : (front head chunks rest : List ℕ) → front ++ head ++ chunks ++ rest ≡ front ++ (head ++ (chunks ++ rest))
    regrouped front head chunks rest = simp append_assoc

none_before : (to_head : Bool) (framing : model.Framing) (text rest octets : List ℕ) (parts ends : List Part) → InBody to_head framing text rest octets parts ends → PlainlyBefore text to_head → ⊥
none_before to_head framing text rest octets parts ends b p =
    let there : p.rest ≡ b.head_text ++ rest =
    bad_there to_head text b.front (b.head_text ++ rest) b.interims b.are_interims b.few (none_at_final to_head b.head_text rest b.head framing b.is_final) (b.is ∙ append_assoc b.front b.head_text rest) p in
    final_not_bad to_head (length p.interims) b.head_text rest b.head framing b.is_final (subst (λ (o : List ℕ). IsBadHead to_head (length p.interims) o) there p.is_bad)

not_bad_at : (place : Place) (to_head : Bool) (held : Held) (text : List ℕ) (parts : List Part) → StandsAt place to_head held text parts → IsPlainlyBad text to_head → ⊥
not_bad_at (Head count) to_head held text parts b (inl p) =
    let counted : count ≡ length b.interims = b.has_count in
    let few : count ≤ 8 = b.few in
    let there : p.rest ≡ held.octets = bad_there to_head text b.front held.octets b.interims b.are_interims (omega arith) (none_without_head held.octets b.no_head) b.is p in
    held_not_bad to_head (length p.interims) held.octets b.no_head b.may_become b.short (subst (λ (o : List ℕ). IsBadHead to_head (length p.interims) o) there p.is_bad)
not_bad_at (Head count) to_head held text parts b (inr p) = none_behind to_head held.octets text b.front b.interims b.are_interims b.no_head b.is p
not_bad_at (Sized left) to_head held text parts b (inl p) = none_before to_head _ text b.octets b.octets parts [] b.body p
not_bad_at (Sized left) to_head held text parts b (inr p) = no_sized b.count p.named (framed_in_chunks to_head _ text b.octets b.octets parts [] b.body p)
not_bad_at UntilEnd to_head held text parts b (inl p) = none_before to_head _ text b.octets b.octets parts [] b.body p
not_bad_at UntilEnd to_head held text parts b (inr p) = no_rest p.named (framed_in_chunks to_head _ text b.octets b.octets parts [] b.body p)
not_bad_at (Line line) to_head held text parts b (inl p) = none_before to_head _ text _ _ parts [] b.chunked.body p
not_bad_at (Line line) to_head held text parts b (inr p) =
    chunked_not_bad to_head b.behind [] text parts b.chunked (line_no_body line b.behind b.is_part) (part_not_bad b.behind (line_begun line b.behind b.is_part)) p
not_bad_at (Chunk left) to_head held text parts b (inl p) = none_before to_head _ text _ _ parts [] b.chunked.body p
not_bad_at (Chunk left) to_head held text parts b (inr p) =
    let sum : length b.next + left ≡ b.size = b.has_size in
    let some : 0 < left = b.some in
    chunked_not_bad to_head (b.line ++ b.next) b.next text parts b.chunked (chunk_no_body to_head left text parts b)
    (chunk_not_bad b.line b.next b.size b.is_line (omega arith) (λ octets end e l no_part.
    let lengths : length b.next ≡ length octets + length end = ap length e ∙ length-append octets end in
    absurd (omega arith))) p
not_bad_at ChunkEnd to_head held text parts b (inl p) = none_before to_head _ text _ _ parts [] b.chunked.body p
not_bad_at ChunkEnd to_head held text parts b (inr p) = end_not_bad to_head [] text parts no_octets (record { rest = crlf; is = refl }) b p
not_bad_at ChunkReturn to_head held text parts b (inl p) = none_before to_head _ text _ _ parts [] b.chunked.body p
not_bad_at ChunkReturn to_head held text parts b (inr p) = end_not_bad to_head (13 ∷ []) text parts one_octet (record { rest = 10 ∷ []; is = refl }) b p
not_bad_at Trailers to_head held text parts b (inl p) = none_before to_head _ text _ _ parts [] b.chunked.body p
not_bad_at Trailers to_head held text parts b (inr p) =
    chunked_not_bad to_head (b.line ++ held.octets) [] text parts b.chunked (held_no_body to_head held.octets text parts b)
    (last_not_bad b.line held.octets b.is_last (trailers_not_bad held.octets b.no_trailers b.may_become b.short)) p
not_bad_at Past to_head held text parts b (inl p) = none_before to_head b.framing text b.rest b.octets parts _ b.body p
not_bad_at Past to_head held text parts b (inr p) = past_not_bad to_head b.framing text b.rest b.octets b.trailers parts _ b.body b.whole p
not_bad_at (Broken fault) to_head held text parts b bad = b

pub not_bad : (text : List ℕ) (parts : List Part) (state : State) → Stands text parts state → IsPlainlyBad text state.to_head → ⊥
not_bad text parts state s bad = not_bad_at state.place state.to_head state.held text parts s bad
