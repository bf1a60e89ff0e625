-- What stands past the end of a whole response changes nothing of it, and an idle connection fails no answer.
use Rattle.std.proofs.Common.{◌≡◌, ℕ, suc, ◌+◌, ◌<◌, arith, length-append, Bool, true, false, ◌&&◌, ◌==◌, List, [], ◌∷◌, ◌++◌, length, refl, sym, ap, ◌∙◌, subst, inl, inr, append_assoc, if◌then◌else◌}
use Rattle.std.specs.Prelude.{Some, take}
use Rattle.std.specs.List.{concat}
use Rattle.std.proofs.lemmas.List.{append-nil}
use Rattle.std.proofs.Math.Seq.{take-append_seam}
use Rattle.std.proofs.lemmas.Bool.{eq-eqb}
use Rattle.model.specs.ResponseHeads.{Framing}
use Rattle.model.specs.ResponseHeads.Framing.{Bodiless, Chunks, Sized, UntilEnd}
use Rattle.httparse.specs.Grammar.{ReadsSection}
use Rattle.httparse.proofs.GrammarLemmas.{section_unique, ReadsSection-append}
use Rattle.model.specs.Octets.{IsStrictFront}
use Rattle.model.specs.Messages.{Field}
use Rattle.model.specs.Responses.{Response, H1Response, Chunk, Chunked, HasBody, StandsIn, IsComplete, IsSpoilt, Seen}
use Rattle.model.specs.Logs.Event.{Up, UpEnd, UpFailed}
use Rattle.model.specs.Tapes.{Entry}
use Rattle.model.specs.Tapes.Entry.{Happened}
use Rattle.model.specs.Setup.{Passing}
use Rattle.model.specs.Deliveries.{Delivery}
use Rattle.model.specs.Openings.{exchange_on, given, exchanges}
use Rattle.model.specs.Available.{heard_by, IsShown}
use Rattle.model.specs.Known.{Known}
use Rattle.model.specs.Idle.{IsTooLong, LeavesOpen, IsIdle, is_asked_for_head}
use Rattle.model.specs.Failures.{IsBroken, MayFail}
use Rattle.model.proofs.Http1Runs.{same_rest, one_joined}
use Rattle.model.proofs.ResponseHeadReadings.{one_front}
use Rattle.model.proofs.ResponseBodies.{one_chunk_line, one_response_chunk, none_at_last, last_regrouped}
use Rattle.model.proofs.SeenLaws.{one_seen}

body_past : (framing : Framing) (ended : Bool) (text more body : List ℕ) (trailers : List Field) → HasBody framing false text body trailers → HasBody framing ended (text ++ more) body trailers
body_past Bodiless ended text more body trailers h = h
body_past (Chunks named) ended text more body trailers h = record {
  chunks = h.chunks;
  front = h.front;
  line = h.line;
  section = h.section;
  past = h.past ++ more;
  is = ap (λ l. l ++ more) h.is ∙ append_assoc (h.front ++ h.line ++ h.section) h.past more;
  are_chunks = h.are_chunks;
  is_last = h.is_last;
  are_trailers = h.are_trailers;
  is_body = h.is_body;
  passes = h.passes;
}
body_past (Sized count) ended text more body trailers h = (record { past = h.0.past ++ more; is = ap (λ l. l ++ more) h.0.is ∙ append_assoc body h.0.past more; has_count = h.0.has_count }, h.1)
body_past UntilEnd ended text more body trailers h = absurd (let clash : false ≡ true = h.0 in cc)

-- A response that is whole before its connection ends stays so, whatever follows.
pub whole_past : (text more : List ℕ) (ended to_head : Bool) (r : Response) → H1Response text false to_head r → H1Response (text ++ more) ended to_head r
whole_past text more ended to_head r p = record {
  front = p.front;
  head_text = p.head_text;
  rest = p.rest ++ more;
  framing = p.framing;
  is = ap (λ l. l ++ more) p.is ∙ append_assoc (p.front ++ p.head_text) p.rest more;
  are_interims = p.are_interims;
  few_interims = p.few_interims;
  is_final = p.is_final;
  body = body_past p.framing ended p.rest more r.body r.trailers p.body;
}

pub complete_past : (text more : List ℕ) (ended to_head : Bool) → IsComplete text false to_head → IsComplete (text ++ more) ended to_head
complete_past text more ended to_head c = (c.0, whole_past text more ended to_head c.0 c.1)

-- the same is shown of it
pub shown_past : (passing : Passing) (text more : List ℕ) (ended to_head : Bool) (d : Delivery) → IsComplete text false to_head → IsShown passing text false to_head d → IsShown passing (text ++ more) ended to_head d
shown_past passing text more ended to_head d c (inl a) = inl (record { response = a.response; is_whole = whole_past text more ended to_head a.response a.is_whole; says = a.says })
shown_past passing text more ended to_head d c (inr b) = absurd (b.not_whole c)

-- ---- what is seen of a whole response

body_stands : (framing : Framing) (text body : List ℕ) (trailers : List Field) → HasBody framing false text body trailers → StandsIn framing text body
body_stands Bodiless text body trailers h = h.0
body_stands (Chunks named) text body trailers h = record {
  chunks = h.chunks;
  front = h.front;
  behind = h.line ++ h.section ++ h.past;
  next = [];
  is = h.is ∙ append_assoc (h.front ++ h.line) h.section h.past ∙ append_assoc h.front h.line (h.section ++ h.past) ∙ ap (λ l. h.front ++ l) (sym (append_assoc h.line h.section h.past));
  are_chunks = h.are_chunks;
  behind_them = inl (refl, inr (inr (record { line = h.line; trailers = h.section; past = h.past; is = refl; is_last = h.is_last; are_trailers = h.are_trailers })));
  has_octets = h.is_body ∙ sym (append-nil (concat h.chunks));
}
body_stands (Sized count) text body trailers h = sym (ap (take count) h.0.is ∙ ap (λ n. take n (body ++ h.0.past)) (sym h.0.has_count) ∙ take-append_seam body h.0.past)
body_stands UntilEnd text body trailers h = absurd (let clash : false ≡ true = h.0 in cc)

pub whole_seen : (text : List ℕ) (to_head : Bool) (r : Response) → H1Response text false to_head r → Seen text to_head r.interims (Some r.head) r.body
whole_seen text to_head r p = record {
  front = p.front;
  head_text = p.head_text;
  rest = p.rest;
  framing = p.framing;
  is = p.is;
  are_interims = p.are_interims;
  few_interims = p.few_interims;
  is_final = p.is_final;
  body = body_stands p.framing p.rest r.body r.trailers p.body;
}

-- ---- an idle connection

-- octets of a connection are its newest exchange's
pub heard_own : (k : ℕ) (piece : List ℕ) (t : List Entry) → heard_by (exchange_on k t) (Happened (Up k piece) ∷ t) ≡ heard_by (exchange_on k t) t ++ piece
heard_own k piece t =
    let s = given k (exchanges t) in
    let before = heard_by (exchange_on k t) t in
    ap (λ b. if b && s == s then before ++ piece else before) (eq-eqb k k refl) ∙ ap (λ b. if b then before ++ piece else before) (eq-eqb s s refl)

module _ (known : Known) (text : List ℕ) (to_head : Bool) (whole : LeavesOpen text to_head) where
  -- behind a whole response no octets spoil it
  never_spoilt : (more : List ℕ) → IsSpoilt (text ++ more) to_head → ⊥
  never_spoilt more spoilt = spoilt [] false (whole.response, whole_past (text ++ more) [] false to_head whole.response (whole_past text more false to_head whole.response whole.reads))

  -- nor make it longer
  never_longer : (more : List ℕ) → IsTooLong known (text ++ more) to_head → IsTooLong known text to_head
  never_longer more long =
      let r = whole.response in
      let same = one_seen (text ++ more) to_head long.interims r.interims long.head (Some r.head) long.octets r.body long.seen (whole_seen (text ++ more) to_head r (whole_past text more false to_head r whole.reads)) in
      record {
        whole = long.whole;
        interims = r.interims;
        head = Some r.head;
        octets = r.body;
        seen = whole_seen text to_head r whole.reads;
        over = subst (λ (l : List ℕ). known.setup.max_response < length l) same.octets long.over;
      }

-- No answer fails with what comes of an idle connection.
pub idle_never_fails : (known : Known) (t : List Entry) (k : ℕ) → IsIdle known t k → ((piece : List ℕ) → MayFail known t (Up k piece) → ⊥) × (MayFail known t (UpEnd k) → ⊥) × (MayFail known t (UpFailed k) → ⊥)
idle_never_fails known t k i = (
  λ piece fails. octets piece (subst (λ (x : List ℕ). IsBroken known x (is_asked_for_head known (exchange_on k t) t)) (heard_own k piece t) fails),
  λ fails. fails (
      subst (λ (x : List ℕ). IsComplete x true (is_asked_for_head known (exchange_on k t) t)) (append-nil (heard_by (exchange_on k t) t))
      (complete_past (heard_by (exchange_on k t) t) [] true (is_asked_for_head known (exchange_on k t) t) (i.kept.answered.response, i.kept.answered.reads))
      ),
  λ fails. fails i,
)
  where
    octets : (piece : List ℕ) → IsBroken known (heard_by (exchange_on k t) t ++ piece) (is_asked_for_head known (exchange_on k t) t) → ⊥
    octets piece (inl spoilt) = never_spoilt known (heard_by (exchange_on k t) t) (is_asked_for_head known (exchange_on k t) t) i.kept.answered piece spoilt
    octets piece (inr long) = i.kept.fits (never_longer known (heard_by (exchange_on k t) t) (is_asked_for_head known (exchange_on k t) t) i.kept.answered piece long)

-- ---- just a response, and no octet more

-- What stands behind a head is just the text of a body, and of its trailers, that ends before the connection does.
abbrev pub IsJustBody : Framing → List ℕ → List ℕ → List Field → Type 0
IsJustBody Bodiless text body trailers = text ≡ []
IsJustBody (Chunks named) text body trailers = (c : Chunked named text body trailers) × (c.past ≡ [])
IsJustBody (Sized count) text body trailers = length text ≡ count
IsJustBody UntilEnd text body trailers = ⊥

not_shorter : (framing : Framing) (text shorter body other : List ℕ) (trailers others : List Field) (next : ℕ) (rest : List ℕ) → text ≡ shorter ++ next ∷ rest → IsJustBody framing text body trailers → HasBody framing false shorter other others → ⊥
not_shorter Bodiless text shorter body other trailers others next rest e just h = let sizes : 0 ≡ length shorter + length (next ∷ rest) = ap length (sym just ∙ e) ∙ length-append shorter (next ∷ rest) in let some : length (next ∷ rest) ≡ suc (length rest) = refl in omega (arith, sizes, some)
not_shorter (Chunks named) text shorter body other trailers others next rest e just h =
    let c = just.0 in
    let more : List ℕ = h.past ++ next ∷ rest in
    let whole : c.front ++ (c.line ++ (c.section ++ c.past)) ≡ h.front ++ (h.line ++ (h.section ++ more)) =
    sym (last_regrouped c.front c.line c.section c.past) ∙ sym c.is ∙ e ∙ ap (λ l. l ++ next ∷ rest) h.is ∙ append_assoc (h.front ++ h.line ++ h.section) h.past (next ∷ rest) ∙ last_regrouped h.front h.line h.section more in
    let fronts = one_joined Chunk one_response_chunk c.front h.front _ _ c.chunks h.chunks c.are_chunks h.are_chunks (none_at_last c.line _ c.is_last) (none_at_last h.line _ h.is_last) whole in
    let behind = same_rest c.front h.front _ _ fronts.0 whole in
    let lines = one_chunk_line c.line h.line _ _ 0 0 c.is_last h.is_last behind in
    let tails : c.section ++ c.past ≡ h.section ++ more = same_rest c.line h.line _ _ lines.0 behind in
    let ends : c.section ≡ h.section ++ more = sym (append-nil c.section) ∙ ap (λ l. c.section ++ l) (sym just.1) ∙ tails in
    let same = section_unique (h.section ++ more) _ _ _ _ [] more (subst (λ (x : List ℕ). ReadsSection x c.are_trailers.lines c.are_trailers.last []) ends c.are_trailers.reads) (ReadsSection-append h.section _ _ [] more h.are_trailers.reads) in
    let sizes : 0 ≡ length h.past + length (next ∷ rest) = ap length same.2 ∙ length-append h.past (next ∷ rest) in
    let some : length (next ∷ rest) ≡ suc (length rest) = refl in
    omega (arith, sizes, some)
not_shorter (Sized count) text shorter body other trailers others next rest e just h =
    let sizes : length text ≡ length shorter + length (next ∷ rest) = ap length e ∙ length-append shorter (next ∷ rest) in
    let some : length (next ∷ rest) ≡ suc (length rest) = refl in
    let less : length shorter ≡ length other + length h.0.past = ap length h.0.is ∙ length-append other h.0.past in
    let has : length other ≡ count = h.0.has_count in
    let is : length text ≡ count = just in
    omega (arith, sizes, some, less, has, is)
not_shorter UntilEnd text shorter body other trailers others next rest e just h = just

-- No octet of it can be left out.
pub no_shorter : (text front : List ℕ) (to_head : Bool) (r : Response) → (p : H1Response text false to_head r) → IsJustBody p.framing p.rest r.body r.trailers → IsStrictFront front text → IsComplete front false to_head → ⊥
no_shorter text front to_head r p just strict c =
    let q = c.1 in
    let more : List ℕ = strict.next ∷ strict.rest in
    let whole : (p.front ++ p.head_text) ++ p.rest ≡ (q.front ++ q.head_text) ++ (q.rest ++ more) = sym p.is ∙ strict.is ∙ ap (λ l. l ++ more) q.is ∙ append_assoc (q.front ++ q.head_text) q.rest more in
    let same = one_front to_head p.front q.front p.head_text q.head_text p.rest (q.rest ++ more) r.interims c.0.interims r.head c.0.head p.framing q.framing p.are_interims q.are_interims p.is_final q.is_final whole in
    not_shorter p.framing p.rest q.rest r.body c.0.body r.trailers c.0.trailers strict.next strict.rest same.final.rest just (subst (λ (f : Framing). HasBody f false q.rest c.0.body c.0.trailers) (sym same.final.framing) q.body)
