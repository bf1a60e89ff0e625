-- A whole text is its request's, and one that isn't whole is a strict front of each that it may become.
use Rattle.std.proofs.Common.{replicate, ◌≡◌, ℕ, ◌+◌, ◌^◌, ◌<◌, ◌≤◌, Bool, true, false, List, [], ◌∷◌, ◌++◌, length, Option, Some, None, refl, sym, ap, ◌∙◌, subst, append_assoc, length-append, arith}
use Rattle.std.specs.List.{list_all, concat, flat_map}
use Rattle.std.proofs.lemmas.List.{append-nil, nil_from_length, length-replicate}
use Rattle.std.proofs.lemmas.List.Concat.{flat_map-append}
use Rattle.model.specs.Octets.{IsFront, IsStrictFront}
use Rattle.model.specs.Http1.{BeginsNoRequest, forward, H1Kept}
use Rattle.model.specs.Http1Text.{framing_of, content_of, chunk_text, last_chunk}
use Rattle.model.specs.Messages.{Field}
use Rattle.model.specs.Http2.{HasLength, WellFormedTrailers, passed_trailers, trailers_beside}
use Rattle.model.proofs.Http1Readings.{one_request}
use Rattle.model.proofs.Http1Texts.{has_line, Frames, IsSendable, text_kept, kept_reads, no_framing}
use Rattle.model.proofs.Http2Sends.{head_sendable, trailers_have_lines}
use Rattle.request_rules.specs.Heads.{HeadParts, IsRequestHead, request_with}
use Rattle.h1_writer.specs.Sending.{Stage, Sending, SentWhole, SentCounting, SentHolding, SentChunking, head_of, piece_of, GoesOnTo, HoldsAll, LacksAtMostOne, HasRoom, MayPush, MayFinish}
use Rattle.h1_writer.specs.Sending.Stage.{Whole, Counting, Holding, Chunking}
use Rattle.h1_writer.proofs.Stages.{are_full, concat_more, more_full}
use Rattle.h1_writer.proofs.Written.{length_frames, declared_fits, chunk_frames}

sendable : (parts : HeadParts) (body : List ℕ) (trailers : List Field) → IsRequestHead parts → IsSendable (request_with parts body trailers)
sendable parts body trailers p =
    let head = head_sendable p.head body [] p.well_formed p.no_connect in
    subst (λ (q : HeadParts). IsSendable (request_with q body trailers)) (sym p.is) (record { method = head.method; target = head.target; authority = head.authority; fields = head.fields })

length_fits : (parts : HeadParts) (n : ℕ) → IsRequestHead parts → parts.length ≡ Some n → n < 2 ^ 64
length_fits parts n p e = declared_fits p.head n p.well_formed.length_holds (sym (ap (λ (q : HeadParts). q.length) p.is) ∙ e)

-- what follows a head frames the body
content_frames : (declared : Option ℕ) (ended : Bool) (pieces : List (List ℕ)) (trailers : List Field) → ((n : ℕ) → declared ≡ Some n → n < 2 ^ 64) → are_full pieces ≡ true → HasLength declared (concat pieces)
    → (ended ≡ true → (pieces ≡ []) × (trailers ≡ [])) → list_all has_line trailers ≡ true → Frames (framing_of declared ended) (content_of declared ended pieces trailers) (concat pieces) (trailers_beside declared trailers)
content_frames (Some n) ended pieces trailers fits full held none lines = length_frames n ended (concat pieces) (fits n refl) held
content_frames None false pieces trailers fits full held none lines = chunk_frames pieces trailers full lines
content_frames None true pieces trailers fits full held none lines =
    subst (λ (ps : List (List ℕ)). Frames [] [] (concat ps) trailers) (sym (none refl).0) (subst (λ (ls : List Field). Frames [] [] [] ls) (sym (none refl).1) no_framing)

pub whole_read : (keep : Bool) (parts : HeadParts) (ended : Bool) (text : List ℕ) (pieces : List (List ℕ)) (given : List Field) → IsRequestHead parts → WellFormedTrailers given → SentWhole keep parts ended text pieces (passed_trailers given)
    → H1Kept keep text (forward (request_with parts (concat pieces) (passed_trailers given)))
whole_read keep parts ended text pieces given p w s =
    let trailers = passed_trailers given in
    subst (λ (t : List ℕ). H1Kept keep t (forward (request_with parts (concat pieces) trailers))) (sym s.is)
    (text_kept keep (request_with parts (concat pieces) trailers) (framing_of parts.length ended) (content_of parts.length ended pieces trailers) (sendable parts (concat pieces) trailers p)
    (content_frames parts.length ended pieces trailers (λ n e. length_fits parts n p e) s.full s.has_length s.none_ended (trailers_have_lines given w)))

-- ---- what a text that isn't whole may become

strict_front : (text more : List ℕ) → 0 < length more → IsStrictFront text (text ++ more)
strict_front text [] some = absurd (omega arith)
strict_front text (next ∷ rest) some = record { next = next; rest = rest; is = refl }

-- the text of a declared body
declared_text : (keep : Bool) (parts : HeadParts) (text body more : List ℕ) (trailers : List Field) → IsRequestHead parts → parts.length ≡ Some (length body) → text ++ more ≡ head_of keep parts false ++ body → 0 < length more → GoesOnTo keep parts text body trailers
declared_text keep parts text body more trailers p declared is some =
    let framing : Frames (framing_of parts.length false) body body (trailers_beside parts.length trailers) =
    subst (λ (d : Option ℕ). Frames (framing_of d false) body body (trailers_beside d trailers)) (sym declared) (length_frames (length body) false body (length_fits parts (length body) p declared) refl) in
    record {
      whole = text ++ more;
      reads = subst (λ (t : List ℕ). H1Kept keep t (forward (request_with parts body trailers))) (sym is) (text_kept keep (request_with parts body trailers) (framing_of parts.length false) body (sendable parts body trailers p) framing);
      is_front = strict_front text more some;
    }

declared_body : (parts : HeadParts) (n : ℕ) (body : List ℕ) → parts.length ≡ Some n → HasLength parts.length body → parts.length ≡ Some (length body)
declared_body parts n body e held =
    let is : length body ≡ n = subst (λ (d : Option ℕ). HasLength d body) e held in
    e ∙ ap {A = ℕ} {B = Option ℕ} (λ m. Some m) (sym is)

pub counting_front : (keep : Bool) (parts : HeadParts) (ended : Bool) (text : List ℕ) (pieces : List (List ℕ)) (left : ℕ) (body : List ℕ) (trailers : List Field) → IsRequestHead parts → SentCounting keep parts ended text pieces left
    → IsFront (concat pieces) body → HasLength parts.length body → GoesOnTo keep parts text body trailers
counting_front keep parts ended text pieces left body trailers p s front held =
    let is : length body ≡ length (concat pieces) + left = subst (λ (d : Option ℕ). HasLength d body) s.declared held in
    let lengths : length body ≡ length (concat pieces) + length front.rest = ap length front.is ∙ length-append (concat pieces) front.rest in
    let more : 0 < left = s.more in
    declared_text keep parts text body front.rest trailers p (declared_body parts _ body s.declared held)
    (ap (λ (t : List ℕ). t ++ front.rest) s.is ∙ append_assoc (head_of keep parts false) (concat pieces) front.rest ∙ ap (λ (b : List ℕ). head_of keep parts false ++ b) (sym front.is))
    (omega arith)

pub holding_front : (keep : Bool) (parts : HeadParts) (ended : Bool) (text : List ℕ) (pieces : List (List ℕ)) (octet : ℕ) (body : List ℕ) (trailers : List Field) → IsRequestHead parts → SentHolding keep parts ended text pieces octet
    → IsFront (concat pieces) body → HasLength parts.length body → GoesOnTo keep parts text body trailers
holding_front keep parts ended text pieces octet body trailers p s front held =
    let is : length body ≡ length (concat pieces) = subst (λ (d : Option ℕ). HasLength d body) s.declared held in
    let lengths : length body ≡ length (concat pieces) + length front.rest = ap length front.is ∙ length-append (concat pieces) front.rest in
    let rest : front.rest ≡ [] = nil_from_length front.rest (omega arith) in
    let same : body ≡ concat pieces = front.is ∙ ap (λ (r : List ℕ). concat pieces ++ r) rest ∙ append-nil (concat pieces) in
    declared_text keep parts text body (octet ∷ []) trailers p (declared_body parts _ body s.declared held) (s.is ∙ ap (λ (b : List ℕ). head_of keep parts false ++ b) (sym same)) (omega arith)

chunking_text : (keep : Bool) (parts : HeadParts) (pieces : List (List ℕ)) (given : List Field) → IsRequestHead parts → WellFormedTrailers given → parts.length ≡ None → are_full pieces ≡ true
    → H1Kept keep (head_of keep parts false ++ (flat_map chunk_text pieces ++ last_chunk (passed_trailers given))) (forward (request_with parts (concat pieces) (passed_trailers given)))
chunking_text keep parts pieces given p w none full =
    let trailers = passed_trailers given in
    text_kept keep (request_with parts (concat pieces) trailers) (framing_of parts.length false) (flat_map chunk_text pieces ++ last_chunk trailers) (sendable parts (concat pieces) trailers p)
    (subst (λ (d : Option ℕ). Frames (framing_of d false) (flat_map chunk_text pieces ++ last_chunk trailers) (concat pieces) (trailers_beside d trailers)) (sym none)
    (chunk_frames pieces trailers full (trailers_have_lines given w)))

last_some : (trailers : List Field) → 0 < length (last_chunk trailers)
last_some trailers = simp length-append (omega arith)

pub chunking_front : (keep : Bool) (parts : HeadParts) (ended : Bool) (text : List ℕ) (pieces : List (List ℕ)) (body : List ℕ) (given : List Field) → IsRequestHead parts → WellFormedTrailers given → SentChunking keep parts ended text pieces
    → IsFront (concat pieces) body → GoesOnTo keep parts text body (passed_trailers given)
chunking_front keep parts ended text pieces body given p w s front =
    let trailers = passed_trailers given in
    let all = pieces ++ piece_of front.rest in
    let more = flat_map chunk_text (piece_of front.rest) ++ last_chunk trailers in
    let whole : text ++ more ≡ head_of keep parts false ++ (flat_map chunk_text all ++ last_chunk trailers) =
    ap (λ (t : List ℕ). t ++ more) s.is ∙ append_assoc (head_of keep parts false) (flat_map chunk_text pieces) more
    ∙ ap (λ (t : List ℕ). head_of keep parts false ++ t)
    (sym (append_assoc (flat_map chunk_text pieces) (flat_map chunk_text (piece_of front.rest)) (last_chunk trailers)) ∙ ap (λ (t : List ℕ). t ++ last_chunk trailers) (sym (flat_map-append chunk_text pieces (piece_of front.rest)))) in
    let body_is : concat all ≡ body = concat_more pieces front.rest ∙ sym front.is in
    let lengths : length more ≡ length (flat_map chunk_text (piece_of front.rest)) + length (last_chunk trailers) = length-append (flat_map chunk_text (piece_of front.rest)) (last_chunk trailers) in
    let some = last_some trailers in
    record {
      whole = text ++ more;
      reads = subst (λ (t : List ℕ). H1Kept keep t (forward (request_with parts body trailers))) (sym whole)
          (subst (λ (b : List ℕ). H1Kept keep (head_of keep parts false ++ (flat_map chunk_text all ++ last_chunk trailers)) (forward (request_with parts b trailers))) body_is
          (chunking_text keep parts all given p w s.undeclared (more_full pieces front.rest s.full)));
      is_front = strict_front text more (omega (arith, lengths, some));
    }

pub unfinished_front : (keep : Bool) (parts : HeadParts) (ended : Bool) (text : List ℕ) (pieces : List (List ℕ)) (stage : Stage) (body : List ℕ) (given : List Field) → IsRequestHead parts → WellFormedTrailers given → Sending keep parts ended text pieces [] stage
    → (stage ≡ Whole → ⊥) → IsFront (concat pieces) body → HasLength parts.length body → GoesOnTo keep parts text body (passed_trailers given)
unfinished_front keep parts ended text pieces Whole body given p w s open' front held = absurd (open' refl)
unfinished_front keep parts ended text pieces (Counting left) body given p w s open' front held = counting_front keep parts ended text pieces left body (passed_trailers given) p s front held
unfinished_front keep parts ended text pieces (Holding octet) body given p w s open' front held = holding_front keep parts ended text pieces octet body (passed_trailers given) p s front held
unfinished_front keep parts ended text pieces Chunking body given p w s open' front held = chunking_front keep parts ended text pieces body given p w s front

-- a strict front of a request's text begins with none
pub none_begun : (keep : Bool) (parts : HeadParts) (text body : List ℕ) (trailers : List Field) → GoesOnTo keep parts text body trailers → BeginsNoRequest text
none_begun keep parts text body trailers m a more request q e =
    let front = m.is_front in
    let whole : a ++ (more ++ front.next ∷ front.rest) ≡ m.whole ++ [] =
    sym (append_assoc a more (front.next ∷ front.rest)) ∙ ap (λ (t : List ℕ). t ++ front.next ∷ front.rest) (sym e) ∙ sym front.is ∙ sym (append-nil m.whole) in
    let same = one_request a m.whole (more ++ front.next ∷ front.rest) [] request (forward (request_with parts body trailers)) q (kept_reads keep m.whole _ m.reads) whole in
    let first : length a ≡ length m.whole = ap length same.0 in
    let second : length text ≡ length a + length more = ap length e ∙ length-append a more in
    let third : length m.whole ≡ length text + length (front.next ∷ front.rest) = ap length front.is ∙ length-append text (front.next ∷ front.rest) in
    absurd (omega arith)

-- no trailers are well formed
no_trailers : WellFormedTrailers []
no_trailers = record { no_pseudo_field = refl; names_hold = refl; values_hold = refl; no_connection_field = refl }

-- some body that a text may go on to
some_body : (keep : Bool) (parts : HeadParts) (ended : Bool) (text : List ℕ) (pieces : List (List ℕ)) (stage : Stage) → Sending keep parts ended text pieces [] stage → (stage ≡ Whole → ⊥)
    → (body : List ℕ) × IsFront (concat pieces) body × HasLength parts.length body
some_body keep parts ended text pieces Whole s open' = absurd (open' refl)
some_body keep parts ended text pieces (Counting left) s open' = (
  concat pieces ++ replicate left 0,
  record { rest = replicate left 0; is = refl },
  subst (λ (d : Option ℕ). HasLength d (concat pieces ++ replicate left 0)) (sym s.declared)
      (length-append (concat pieces) (replicate left 0) ∙ ap (λ (n : ℕ). length (concat pieces) + n) (length-replicate left 0)),
)
some_body keep parts ended text pieces (Holding octet) s open' = (
  concat pieces,
  record { rest = []; is = sym (append-nil (concat pieces)) },
  subst (λ (d : Option ℕ). HasLength d (concat pieces)) (sym s.declared) refl,
)
some_body keep parts ended text pieces Chunking s open' = (
  concat pieces,
  record { rest = []; is = sym (append-nil (concat pieces)) },
  subst (λ (d : Option ℕ). HasLength d (concat pieces)) (sym s.undeclared) tt,
)

pub unfinished_none : (keep : Bool) (parts : HeadParts) (ended : Bool) (text : List ℕ) (pieces : List (List ℕ)) (stage : Stage) → IsRequestHead parts → Sending keep parts ended text pieces [] stage → (stage ≡ Whole → ⊥)
    → BeginsNoRequest text
unfinished_none keep parts ended text pieces stage p s open' =
    let some = some_body keep parts ended text pieces stage s open' in
    none_begun keep parts text some.0 [] (unfinished_front keep parts ended text pieces stage some.0 [] p no_trailers s open' some.1 some.2)

-- ---- what may be called

pub room_to_push : (keep : Bool) (parts : HeadParts) (ended : Bool) (text : List ℕ) (pieces : List (List ℕ)) (stage : Stage) (count : ℕ) → Sending keep parts ended text pieces [] stage → (stage ≡ Whole → ⊥)
    → HasRoom parts.length pieces count → MayPush stage count
room_to_push keep parts ended text pieces Whole count s open' room = absurd (open' refl)
room_to_push keep parts ended text pieces (Counting left) count s open' room =
    let fits : length (concat pieces) + count ≤ length (concat pieces) + left = subst (λ (d : Option ℕ). HasRoom d pieces count) s.declared room in
    omega arith
room_to_push keep parts ended text pieces (Holding octet) count s open' room =
    let fits : length (concat pieces) + count ≤ length (concat pieces) = subst (λ (d : Option ℕ). HasRoom d pieces count) s.declared room in
    omega arith
room_to_push keep parts ended text pieces Chunking count s open' room = tt

pub end_to_finish : (keep : Bool) (parts : HeadParts) (ended : Bool) (text : List ℕ) (pieces : List (List ℕ)) (stage : Stage) → Sending keep parts ended text pieces [] stage → (stage ≡ Whole → ⊥)
    → HasLength parts.length (concat pieces) → MayFinish stage
end_to_finish keep parts ended text pieces Whole s open' held = absurd (open' refl)
end_to_finish keep parts ended text pieces (Counting left) s open' held =
    let whole : length (concat pieces) ≡ length (concat pieces) + left = subst (λ (d : Option ℕ). HasLength d (concat pieces)) s.declared held in
    let more : 0 < left = s.more in
    absurd (omega arith)
end_to_finish keep parts ended text pieces (Holding octet) s open' held = tt
end_to_finish keep parts ended text pieces Chunking s open' held = tt

-- ---- nothing waits but the last octet

whole_holds : (declared : Option ℕ) (ended : Bool) (pieces : List (List ℕ)) (trailers : List Field) → (ended ≡ true → (pieces ≡ []) × (trailers ≡ [])) → HoldsAll declared pieces (content_of declared ended pieces trailers)
whole_holds (Some n) ended pieces trailers none = refl
whole_holds None false pieces trailers none = record { rest = last_chunk trailers; is = refl }
whole_holds None true pieces trailers none = record { rest = []; is = sym (append-nil (flat_map chunk_text pieces) ∙ ap (flat_map chunk_text) (none refl).0) }

pub lacks_one : (keep : Bool) (parts : HeadParts) (ended : Bool) (text : List ℕ) (pieces : List (List ℕ)) (trailers : List Field) (stage : Stage) → Sending keep parts ended text pieces trailers stage → LacksAtMostOne keep parts ended text pieces
lacks_one keep parts ended text pieces trailers Whole s = record {
  missing = [];
  is_last = tt;
  content = content_of parts.length ended pieces trailers;
  is = append-nil text ∙ s.is;
  holds_all = whole_holds parts.length ended pieces trailers s.none_ended;
}
lacks_one keep parts ended text pieces trailers (Counting left) s = record {
  missing = [];
  is_last = tt;
  content = concat pieces;
  is = append-nil text ∙ s.is ∙ ap (λ (e : Bool). head_of keep parts e ++ concat pieces) (sym s.not_ended);
  holds_all = subst (λ (d : Option ℕ). HoldsAll d pieces (concat pieces)) (sym s.declared) refl;
}
lacks_one keep parts ended text pieces trailers (Holding octet) s = record {
  missing = octet ∷ [];
  is_last = s.declared;
  content = concat pieces;
  is = s.is ∙ ap (λ (e : Bool). head_of keep parts e ++ concat pieces) (sym s.not_ended);
  holds_all = subst (λ (d : Option ℕ). HoldsAll d pieces (concat pieces)) (sym s.declared) refl;
}
lacks_one keep parts ended text pieces trailers Chunking s = record {
  missing = [];
  is_last = tt;
  content = flat_map chunk_text pieces;
  is = append-nil text ∙ s.is ∙ ap (λ (e : Bool). head_of keep parts e ++ flat_map chunk_text pieces) (sym s.not_ended);
  holds_all = subst (λ (d : Option ℕ). HoldsAll d pieces (flat_map chunk_text pieces)) (sym s.undeclared) (record { rest = []; is = sym (append-nil (flat_map chunk_text pieces)) });
}
