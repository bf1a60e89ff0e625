-- A fault that stands spoils the response, and one text has one fault at most.
use Rattle.std.proofs.Common.{◌≡◌, ℕ, ◌+◌, ◌<◌, ◌≤◌, Bool, List, [], ◌∷◌, ◌++◌, length, drop, refl, sym, ap, ◌∙◌, subst, append_assoc, length-append, length-take-le, inl, inr, arith}
use Rattle.std.specs.Prelude.{◌⊎◌, Some, None, Option}
use Rattle.std.proofs.lemmas.Bool.{cases_lt}
use Rattle.std.proofs.lemmas.List.{take-append-drop}
use Rattle.httparse.specs.Grammar as grammar
use Rattle.httparse.specs.Grammar.{ReadsResponse, ReadsSection, status_code}
use Rattle.httparse.proofs.GrammarLemmas.{section_unique, ReadsSection-append}
use Rattle.model.specs.Octets.{Joined, IsFront}
use Rattle.model.specs.Http1.{crlf}
use Rattle.model.specs.ResponseHeads as model
use Rattle.model.specs.ResponseHeads.{framing_of}
use Rattle.model.specs.ResponseHeads.Framing.{Chunks as IsChunks}
use Rattle.model.specs.Responses.{ChunkLine, HasBody, IsSpoilt}
use Rattle.model.specs.Noticing.{IsNoLine}
use Rattle.model.proofs.Http1Runs.{same_rest, BeginsNone, one_joined}
use Rattle.model.proofs.ResponseHeadReadings.{Spelled, spelled_reads, one_spelled, one_interim, none_at_final, one_front}
use Rattle.response_texts.specs.Heads.{HasNoHead}
use Rattle.response_texts.specs.Trailers.{NeverTrailers}
use Rattle.h1_reader.specs.Standing.{State, Breaks}
use Rattle.response_texts.specs.SectionFaults.{in_reach, IsUnframed, IsRefusedFor, IsRefusedHead, IsLongHead, IsNinth, HeadFault, TrailerFault}
use Rattle.h1_reader.specs.Faults.{IsBehindLast, ChunkFault, FaultBefore, FaultBehind, FaultStands, Fails}
use Rattle.response_texts.specs.declared.fault.ResponseFault.{ResponseFault}
use Rattle.response_texts.specs.declared.fault.ResponseFault.TheVariants as fault
use Rattle.response_texts.proofs.HeadLemmas.{none_taken}
use Rattle.response_texts.proofs.FrontLemmas.{front_of_longer, none_so_long, none_longer}
use Rattle.response_texts.proofs.TrailerLemmas.{never_longer, never_so_long, trailers_read}
use Rattle.h1_reader.proofs.Steps.{joined_longer, joined_more}
use Rattle.h1_reader.proofs.ChunkEnds.{NoBody, no_line_body, end_no_body, trailers_no_body, not_chunked}

-- ---- no head begins where one is at fault

none_some : (f : model.Framing) → ◌≡◌ {A = Option model.Framing} None (Some f) → ⊥
none_some f e = cc

-- a head that any text behind it begins with is the one that stands there
same_head : (f : ResponseFault) (to_head : Bool) (text more front past : List ℕ) (k : grammar.ResponseHead) → (r : IsRefusedHead f to_head text) → text ++ more ≡ front ++ past → Spelled front k → r.spelled ≡ k
same_head f to_head text more front past k r e q =
    let whole : r.head_text ++ (r.past ++ more) ≡ front ++ past = sym (append_assoc r.head_text r.past more) ∙ ap (λ (o : List ℕ). o ++ more) (sym r.is) ∙ e in
    (one_spelled r.head_text front (r.past ++ more) past r.spelled k r.reads q whole).1

unframed_none : (f : ResponseFault) (to_head : Bool) (text : List ℕ) → (r : IsRefusedHead f to_head text) → IsUnframed to_head r.spelled → HasNoHead to_head text
unframed_none f to_head text r un = record {
  no_interim = λ more front past head e p.
      let codes : status_code r.spelled ≡ status_code p.spelled = ap status_code (same_head f to_head text more front past p.spelled r e p.taken.reads) in
      let high : 200 ≤ status_code r.spelled = un.is_final in
      let low : status_code p.spelled < 200 = p.is_interim in
      absurd (omega arith);
  no_final = λ more front past head framing e p.
      none_some framing (sym un.unframed ∙ ap (framing_of to_head) (same_head f to_head text more front past p.spelled r e p.taken.reads) ∙ p.framed);
}

pub refused_none : (f : ResponseFault) (to_head : Bool) (text : List ℕ) → (r : IsRefusedHead f to_head text) → IsRefusedFor f to_head r.spelled → HasNoHead to_head text
refused_none fault.Head to_head text r (inl many) =
    none_taken to_head text (λ more front past k e p.
    let fields : length r.spelled.fields ≡ length k.fields = ap (λ (s : grammar.ResponseHead). length s.fields) (same_head fault.Head to_head text more front past k r e p.reads) in
    let few : length k.fields ≤ 100 = p.has_few in
    absurd (omega arith))
refused_none fault.Head to_head text r (inr low) =
    none_taken to_head text (λ more front past k e p.
    let codes : status_code r.spelled ≡ status_code k = ap status_code (same_head fault.Head to_head text more front past k r e p.reads) in
    let high : 100 ≤ status_code k = p.has_class in
    absurd (omega arith))
refused_none fault.Upgrade to_head text r w = none_taken to_head text (λ more front past k e p. p.no_upgrade (sym (ap status_code (same_head fault.Upgrade to_head text more front past k r e p.reads)) ∙ w.1))
refused_none fault.Coding to_head text r w = unframed_none fault.Coding to_head text r w.0
refused_none fault.Length to_head text r w = unframed_none fault.Length to_head text r w.0
refused_none fault.TooLong to_head text r w = absurd w
refused_none fault.Chunk to_head text r w = absurd w
refused_none fault.Memory to_head text r w = absurd w

in_reach_cut : (text : List ℕ) → in_reach text ++ drop 16384 text ≡ text
in_reach_cut text = take-append-drop 16384 text

reach_size : (text : List ℕ) → 16384 < length text → length (in_reach text) ≡ 16384
reach_size text long = length-take-le 16384 text (omega arith)

none_of_never : (to_head : Bool) (text : List ℕ) → grammar.NeverHasResponse (in_reach text) → HasNoHead to_head text
none_of_never to_head text never =
    subst (λ (o : List ℕ). HasNoHead to_head o) (in_reach_cut text) (none_longer to_head (in_reach text) (drop 16384 text) (none_taken to_head (in_reach text) (λ more front past k e p.
    never more k past (subst (λ (o : List ℕ). ReadsResponse o k past) (sym e) (spelled_reads front past k p.reads)))))

none_of_long : (to_head : Bool) (text : List ℕ) → IsLongHead text → HasNoHead to_head text
none_of_long to_head text long =
    let size : length (in_reach text) ≡ 16384 = reach_size text long.longer in
    subst (λ (o : List ℕ). HasNoHead to_head o) (in_reach_cut text) (none_so_long to_head (in_reach text) (drop 16384 text) long.no_head (omega arith))

-- no head begins there, or the ninth interim head does
pub no_head_or_ninth : (f : ResponseFault) (to_head : Bool) (before : ℕ) (text : List ℕ) → HeadFault f to_head before text → HasNoHead to_head text ⊎ ((f ≡ fault.TooLong) × IsNinth before text)
no_head_or_ninth fault.Head to_head before text (inl never) = inl (none_of_never to_head text never)
no_head_or_ninth fault.Head to_head before text (inr r) = inl (refused_none fault.Head to_head text r r.refused)
no_head_or_ninth fault.TooLong to_head before text (inl long) = inl (none_of_long to_head text long)
no_head_or_ninth fault.TooLong to_head before text (inr ninth) = inr (refl, ninth)
no_head_or_ninth fault.Length to_head before text r = inl (refused_none fault.Length to_head text r r.refused)
no_head_or_ninth fault.Coding to_head before text r = inl (refused_none fault.Coding to_head text r r.refused)
no_head_or_ninth fault.Upgrade to_head before text r = inl (refused_none fault.Upgrade to_head text r r.refused)
no_head_or_ninth fault.Chunk to_head before text r = absurd r
no_head_or_ninth fault.Memory to_head before text r = absurd r

pub no_interim_there : (to_head : Bool) (text more : List ℕ) → HasNoHead to_head text → BeginsNone model.Interim (text ++ more)
no_interim_there to_head text more none front past head p e = none.no_interim more front past head e p

-- one interim head more stands in the text than before the fault
pub nine : (f : ResponseFault) (text more front rest : List ℕ) (to_head : Bool) (interims : List model.Head) → (p : FaultBefore f text to_head) → IsNinth (length p.interims) p.rest
    → Joined model.Interim front interims → BeginsNone model.Interim rest → text ++ more ≡ front ++ rest → 8 < length interims
nine f text more front rest to_head interims p n joined none e =
    let many : 8 ≤ length p.interims = n.many in
    let whole : (p.front ++ n.head_text) ++ (n.past ++ more) ≡ front ++ rest = regrouped p.front n.head_text n.past more ∙ ap (λ (o : List ℕ). (p.front ++ o) ++ more) (sym n.is) ∙ ap (λ (o : List ℕ). o ++ more) (sym p.is) ∙ e in
    let longer : length (p.interims ++ n.head ∷ []) ≤ length interims =
    joined_longer (p.front ++ n.head_text) front (n.past ++ more) rest (p.interims ++ n.head ∷ []) interims
    (joined_more model.Interim p.front n.head_text p.interims n.head p.are_interims n.is_interim) joined none whole in
    let size : length (p.interims ++ n.head ∷ []) ≡ length p.interims + 1 = length-append p.interims (n.head ∷ []) in
    omega arith
  where
    regrouped : (front head past more : List ℕ) → (front ++ head) ++ (past ++ more) ≡ (front ++ (head ++ past)) ++ more
    regrouped front head past more = simp append_assoc

-- behind whole interim heads where one is at fault stands no final head
pub before_no_final : (f : ResponseFault) (text more front head_text rest : List ℕ) (to_head : Bool) (interims : List model.Head) (head : model.Head) (framing : model.Framing) → FaultBefore f text to_head
    → Joined model.Interim front interims → length interims ≤ 8 → model.Final to_head head_text head framing → text ++ more ≡ front ++ (head_text ++ rest) → ⊥
before_no_final f text more front head_text rest to_head interims head framing p joined few final e =
    elim (no_head_or_ninth f to_head (length p.interims) p.rest p.is_fault) [
      | inl none ↦ (
          let whole : p.front ++ (p.rest ++ more) ≡ front ++ (head_text ++ rest) = sym (append_assoc p.front p.rest more) ∙ ap (λ (o : List ℕ). o ++ more) (sym p.is) ∙ e in
          let fronts = one_joined model.Interim one_interim p.front front (p.rest ++ more) (head_text ++ rest) p.interims interims p.are_interims joined
          (no_interim_there to_head p.rest more none) (none_at_final to_head head_text rest head framing final) whole in
          none.no_final more head_text rest head framing (same_rest p.front front (p.rest ++ more) (head_text ++ rest) fronts.0 whole) final
          )
      | inr n ↦ (
          let many : 8 < length interims = nine f text more front (head_text ++ rest) to_head interims p n.1 joined (none_at_final to_head head_text rest head framing final) e in
          absurd (omega arith)
          )
    ]

-- ---- no body goes on where a chunk or trailers are at fault

-- a line begins more octets just where it begins fewer, or these begin it
no_line_on : (text more : List ℕ) → IsNoLine text → (line past : List ℕ) (size : ℕ) → ChunkLine line size → text ++ more ≡ line ++ past → ⊥
no_line_on text more n line past size l e = elim (cases_lt (length text) (length line)) [
  | inl less ↦ n.is_no_part line size l (record { rest = drop (length text) line; is = sym (cut line text past more (sym e) (omega arith)) })
  | inr fits ↦ n.begins_none line (drop (length line) text) size l (sym (cut text line more past e fits))
]
  where
    cut : (t front x past : List ℕ) → t ++ x ≡ front ++ past → length front ≤ length t → front ++ drop (length front) t ≡ t
    cut t front x past e h = front_of_longer t x front past e h

no_end_on : (end more past : List ℕ) → (IsFront end crlf → ⊥) → (IsFront crlf end → ⊥) → end ++ more ≡ 13 ∷ (10 ∷ past) → ⊥
no_end_on [] more past no_part no_end e = no_part (record { rest = crlf; is = refl })
no_end_on (x ∷ []) more past no_part no_end e =
    let first : x ≡ 13 = cc in
    no_part (record { rest = 10 ∷ []; is = ap (λ n. n ∷ (10 ∷ [])) (sym first) })
no_end_on (x ∷ (y ∷ end)) more past no_part no_end e =
    let first : x ≡ 13 = cc in
    let second : y ≡ 10 = cc in
    no_end (record { rest = end; is = ap (λ n. n ∷ (y ∷ end)) first ∙ ap (λ n. 13 ∷ (n ∷ end)) second })

never_of_faults : (f : ResponseFault) (text : List ℕ) → TrailerFault f text → NeverTrailers text
never_of_faults fault.Chunk text (inl never) =
    subst NeverTrailers (in_reach_cut text) (never_longer (in_reach text) (drop 16384 text) (λ more trailers past e are.
    never more are.lines are.last past (subst (λ (o : List ℕ). ReadsSection o are.lines are.last past) (sym e) (trailers_read trailers past are))))
never_of_faults fault.Chunk text (inr m) =
    λ more trailers past e are.
    let whole : m.trailers ++ (m.past ++ more) ≡ trailers ++ past = sym (append_assoc m.trailers m.past more) ∙ ap (λ (o : List ℕ). o ++ more) (sym m.is) ∙ e in
    let there : ReadsSection (m.trailers ++ (m.past ++ more)) are.lines are.last past = subst (λ (o : List ℕ). ReadsSection o are.lines are.last past) (sym whole) (trailers_read trailers past are) in
    let same = (section_unique (m.trailers ++ (m.past ++ more)) m.lines are.lines m.last are.last (m.past ++ more) past (ReadsSection-append m.trailers m.lines m.last [] (m.past ++ more) m.reads) there).0 in
    let sizes : length m.lines ≡ length are.lines = ap length same in
    let many : 100 < length m.lines = m.many in
    let few : length are.lines ≤ 100 = are.has_few in
    absurd (omega arith)
never_of_faults fault.TooLong text long =
    let size : length (in_reach text) ≡ 16384 = reach_size text long.longer in
    subst NeverTrailers (in_reach_cut text) (never_so_long (in_reach text) (drop 16384 text) long.no_trailers (omega arith))
never_of_faults fault.Head text t = absurd t
never_of_faults fault.Length text t = absurd t
never_of_faults fault.Coding text t = absurd t
never_of_faults fault.Upgrade text t = absurd t
never_of_faults fault.Memory text t = absurd t

last_no_body : (f : ResponseFault) (text more : List ℕ) → IsBehindLast f text → NoBody (text ++ more)
last_no_body f text more b =
    subst NoBody (sym (append_assoc b.line b.tail more) ∙ ap (λ (o : List ℕ). o ++ more) (sym b.is))
    (trailers_no_body b.line (b.tail ++ more) b.is_last (λ trailers past are e. never_of_faults f b.tail b.is_fault more trailers past e are))

fault_no_body : (f : ResponseFault) (text more : List ℕ) → ChunkFault f text → NoBody (text ++ more)
fault_no_body fault.Chunk text more (inl n) = no_line_body (text ++ more) (λ line past size l e. no_line_on text more n line past size l e)
fault_no_body fault.Chunk text more (inr (inl b)) =
    subst NoBody (sym (regrouped b.line b.octets b.end more) ∙ ap (λ (o : List ℕ). o ++ more) (sym b.is))
    (end_no_body b.line b.octets (b.end ++ more) b.has_line b.is_not_last (λ past e. no_end_on b.end more past b.is_no_part b.is_no_end e))
  where
    regrouped : (line octets end more : List ℕ) → (line ++ octets ++ end) ++ more ≡ line ++ (octets ++ (end ++ more))
    regrouped line octets end more = simp append_assoc
fault_no_body fault.Chunk text more (inr (inr b)) = last_no_body fault.Chunk text more b
fault_no_body fault.TooLong text more b = last_no_body fault.TooLong text more b
fault_no_body fault.Head text more t = absurd t
fault_no_body fault.Length text more t = absurd t
fault_no_body fault.Coding text more t = absurd t
fault_no_body fault.Upgrade text more t = absurd t
fault_no_body fault.Memory text more t = absurd t

-- ---- a fault spoils the response

behind_grouped : (front head chunks rest more : List ℕ) → (front ++ head ++ chunks ++ rest) ++ more ≡ (front ++ head) ++ (chunks ++ (rest ++ more))
behind_grouped front head chunks rest more = simp append_assoc

behind_spoils : (f : ResponseFault) (text : List ℕ) (to_head : Bool) → FaultBehind f text to_head → IsSpoilt text to_head
behind_spoils f text to_head q more ended whole =
    let p = whole.1 in
    let parts : (q.front ++ q.head_text) ++ (q.chunks_text ++ (q.rest ++ more)) ≡ (p.front ++ p.head_text) ++ p.rest =
    sym (behind_grouped q.front q.head_text q.chunks_text q.rest more) ∙ ap (λ (o : List ℕ). o ++ more) (sym q.is) ∙ p.is in
    let same = one_front to_head q.front p.front q.head_text p.head_text (q.chunks_text ++ (q.rest ++ more)) p.rest q.interims whole.0.interims q.head whole.0.head (IsChunks q.named) p.framing
    q.are_interims p.are_interims q.is_final p.is_final parts in
    not_chunked q.named q.chunks_text (q.rest ++ more) p.rest whole.0.body whole.0.trailers q.chunks q.are_chunks (fault_no_body f q.rest more q.is_fault) same.final.rest
    (subst (λ (w : model.Framing). HasBody w ended p.rest whole.0.body whole.0.trailers) (sym same.final.framing) p.body)

pub spoils : (f : ResponseFault) (text : List ℕ) (to_head : Bool) → FaultStands f text to_head → IsSpoilt text to_head
spoils f text to_head (inl p) more ended whole =
    let w = whole.1 in
    before_no_final f text more w.front w.head_text w.rest to_head whole.0.interims whole.0.head w.framing p w.are_interims w.few_interims w.is_final (w.is ∙ append_assoc w.front w.head_text w.rest)
spoils f text to_head (inr q) more ended whole = behind_spoils f text to_head q more ended whole

pub fails_breaks : (old : State) (octets : List ℕ) (f : ResponseFault) → Fails old octets f → Breaks old octets
fails_breaks old octets f fails text before s = spoils f (text ++ octets) old.to_head (fails text before s)
