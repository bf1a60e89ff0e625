-- How the text grows with what is pushed.
use Rattle.std.proofs.Common.{Result, Ok, Err, OnOk, OnErr, ◌≡◌, ℕ, ◌+◌, ◌-◌, ◌<◌, ◌≤◌, Bool, true, false, List, [], ◌∷◌, ◌++◌, length, take, get_or, Option, Some, None, drop, refl, sym, ap, ◌∙◌, subst, append_assoc, length-append, arith}
use Rattle.std.specs.Prelude.{not}
use Rattle.std.specs.List.{list_all, concat, flat_map}
use Rattle.std.proofs.lemmas.Bool.{and_parts, and_from}
use Rattle.std.proofs.lemmas.List.{append-nil, take_more, take_all, length-drop}
use Rattle.std.proofs.lemmas.List.Concat.{flat_map-append}
use Rattle.model.specs.Octets.{is_empty}
use Rattle.model.specs.Messages.{Field}
use Rattle.request_rules.specs.Heads.{HeadParts}
use Rattle.h1_writer.specs.Sending.{Stage, Sending, SentWhole, SentCounting, SentHolding, SentChunking, Continues, MayPush, piece_of, head_of}
use Rattle.model.specs.Http1Text.{chunk_text, last_chunk, content_of}
use Rattle.h1_writer.specs.Sending.Stage.{Whole, Counting, Holding, Chunking}
use Rattle.model.specs.Http2.{HasLength}

abbrev pub are_full : List (List ℕ) → Bool
are_full pieces = list_all (λ piece. not (is_empty piece)) pieces

all_full : (a b : List (List ℕ)) → are_full a ≡ true → are_full b ≡ true → are_full (a ++ b) ≡ true
all_full [] b p q = q
all_full (piece ∷ a) b p q = let parts = and_parts (not (is_empty piece)) (are_full a) p in and_from (not (is_empty piece)) (are_full (a ++ b)) parts.0 (all_full a b parts.1 q)

piece_full : (octets : List ℕ) → are_full (piece_of octets) ≡ true
piece_full [] = refl
piece_full (octet ∷ octets) = refl

pub more_full : (pieces : List (List ℕ)) (octets : List ℕ) → are_full pieces ≡ true → are_full (pieces ++ piece_of octets) ≡ true
more_full pieces octets p = all_full pieces (piece_of octets) p (piece_full octets)

piece_joined : (octets : List ℕ) → concat (piece_of octets) ≡ octets
piece_joined [] = refl
piece_joined (octet ∷ octets) = append-nil (octet ∷ octets)

concat_both : (a b : List (List ℕ)) → concat (a ++ b) ≡ concat a ++ concat b
concat_both [] b = refl
concat_both (piece ∷ a) b = ap (λ (rest : List ℕ). piece ++ rest) (concat_both a b) ∙ sym (append_assoc piece (concat a) (concat b))

pub concat_more : (pieces : List (List ℕ)) (octets : List ℕ) → concat (pieces ++ piece_of octets) ≡ concat pieces ++ octets
concat_more pieces octets = concat_both pieces (piece_of octets) ∙ ap (λ (rest : List ℕ). concat pieces ++ rest) (piece_joined octets)

text_more : (head text octets : List ℕ) (pieces : List (List ℕ)) → text ≡ head ++ concat pieces → text ++ octets ≡ head ++ concat (pieces ++ piece_of octets)
text_more head text octets pieces e =
    ap (λ (t : List ℕ). t ++ octets) e ∙ append_assoc head (concat pieces) octets ∙ ap (λ (rest : List ℕ). head ++ rest) (sym (concat_more pieces octets))

pub push_counting : (keep : Bool) (parts : HeadParts) (ended : Bool) (text octets : List ℕ) (pieces : List (List ℕ)) (left : ℕ) → length octets < left → SentCounting keep parts ended text pieces left
    → SentCounting keep parts ended (text ++ octets) (pieces ++ piece_of octets) (left - length octets)
push_counting keep parts ended text octets pieces left short s =
    let lengths : length (concat (pieces ++ piece_of octets)) ≡ length (concat pieces) + length octets = ap length (concat_more pieces octets) ∙ length-append (concat pieces) octets in
    let sum : length (concat pieces) + left ≡ length (concat (pieces ++ piece_of octets)) + (left - length octets) = omega arith in
    record {
      not_ended = s.not_ended;
      full = more_full pieces octets s.full;
      declared = s.declared ∙ ap {A = ℕ} {B = Option ℕ} (λ n. Some n) sum;
      more = omega arith;
      is = text_more (head_of keep parts false) text octets pieces s.is;
    }

front_and_last : (octets : List ℕ) → 0 < length octets → take (length octets - 1) octets ++ get_or octets (length octets - 1) 0 ∷ [] ≡ octets
front_and_last octets some =
    let whole : length octets - 1 + 1 ≡ length octets = omega arith in
    sym (take_more octets (length octets - 1) 0 (omega arith)) ∙ ap (λ (n : ℕ). take n octets) whole ∙ take_all (length octets) octets (omega arith)

pub push_last : (keep : Bool) (parts : HeadParts) (ended : Bool) (text octets : List ℕ) (pieces : List (List ℕ)) (left : ℕ) → 0 < length octets → length octets ≡ left → SentCounting keep parts ended text pieces left
    → SentHolding keep parts ended (text ++ take (length octets - 1) octets) (pieces ++ piece_of octets) (get_or octets (length octets - 1) 0)
push_last keep parts ended text octets pieces left some all s =
    let lengths : length (concat (pieces ++ piece_of octets)) ≡ length (concat pieces) + length octets = ap length (concat_more pieces octets) ∙ length-append (concat pieces) octets in
    let sum : length (concat pieces) + left ≡ length (concat (pieces ++ piece_of octets)) = omega arith in
    record {
      not_ended = s.not_ended;
      full = more_full pieces octets s.full;
      declared = s.declared ∙ ap {A = ℕ} {B = Option ℕ} (λ n. Some n) sum;
      is = append_assoc text (take (length octets - 1) octets) (get_or octets (length octets - 1) 0 ∷ []) ∙ ap (λ (rest : List ℕ). text ++ rest) (front_and_last octets some)
          ∙ text_more (head_of keep parts false) text octets pieces s.is;
    }

chunk_joined : (octets : List ℕ) → 0 < length octets → flat_map chunk_text (piece_of octets) ≡ chunk_text octets
chunk_joined [] some = absurd (omega arith)
chunk_joined (octet ∷ octets) some = append-nil (chunk_text (octet ∷ octets))

pub push_chunked : (keep : Bool) (parts : HeadParts) (ended : Bool) (text octets : List ℕ) (pieces : List (List ℕ)) → 0 < length octets → SentChunking keep parts ended text pieces
    → SentChunking keep parts ended (text ++ chunk_text octets) (pieces ++ piece_of octets)
push_chunked keep parts ended text octets pieces some s = record {
  not_ended = s.not_ended;
  full = more_full pieces octets s.full;
  undeclared = s.undeclared;
  is = ap (λ (t : List ℕ). t ++ chunk_text octets) s.is ∙ append_assoc (head_of keep parts false) (flat_map chunk_text pieces) (chunk_text octets)
      ∙ ap (λ (rest : List ℕ). head_of keep parts false ++ rest) (sym (flat_map-append chunk_text pieces (piece_of octets) ∙ ap (λ (rest : List ℕ). flat_map chunk_text pieces ++ rest) (chunk_joined octets some)));
}

-- a stage that is known stands for the value
pub counts_on : (stage : Stage) (left : ℕ) (octets : List ℕ) → stage ≡ Counting left → length octets < left → Continues stage octets octets [] (Counting (left - length octets))
counts_on stage left octets e short keep parts ended text pieces s =
    push_counting keep parts ended text octets pieces left short (subst (λ (t : Stage). Sending keep parts ended text pieces [] t) e s)

pub holds_last : (stage : Stage) (left : ℕ) (octets : List ℕ) → stage ≡ Counting left → 0 < length octets → left ≤ length octets → MayPush stage (length octets)
    → Continues stage (take (length octets - 1) octets) octets [] (Holding (get_or octets (length octets - 1) 0))
holds_last stage left octets e some long may keep parts ended text pieces s =
    let most : length octets ≤ left = subst (λ (t : Stage). MayPush t (length octets)) e may in
    push_last keep parts ended text octets pieces left some (omega arith) (subst (λ (t : Stage). Sending keep parts ended text pieces [] t) e s)

pub adds_chunk : (stage : Stage) (octets : List ℕ) → stage ≡ Chunking → 0 < length octets → Continues stage (chunk_text octets) octets [] stage
adds_chunk stage octets e some keep parts ended text pieces s =
    subst (λ (t : Stage). Sending keep parts ended (text ++ chunk_text octets) (pieces ++ piece_of octets) [] t) (sym e)
    (push_chunked keep parts ended text octets pieces some (subst (λ (t : Stage). Sending keep parts ended text pieces [] t) e s))

-- the last chunk ends a text of chunks
ends_chunks : (keep : Bool) (parts : HeadParts) (ended : Bool) (text : List ℕ) (pieces : List (List ℕ)) (trailers : List Field) → SentChunking keep parts ended text pieces → SentWhole keep parts ended (text ++ last_chunk trailers) pieces trailers
ends_chunks keep parts ended text pieces trailers s = record {
  none_ended = λ e. absurd (let clash : true ≡ false = sym e ∙ s.not_ended in cc);
  full = s.full;
  has_length = subst (λ (o : Option ℕ). HasLength o (concat pieces)) (sym s.undeclared) tt;
  is = ap (λ (t : List ℕ). t ++ last_chunk trailers) s.is ∙ append_assoc (head_of keep parts false) (flat_map chunk_text pieces) (last_chunk trailers)
      ∙ ap (λ (b : Bool). head_of keep parts b ++ content_of None b pieces trailers) (sym s.not_ended)
      ∙ ap (λ (o : Option ℕ). head_of keep parts ended ++ content_of o ended pieces trailers) (sym s.undeclared);
}

-- a body in one chunk ends it
pub closes : (stage : Stage) (octets : List ℕ) (trailers : List Field) → stage ≡ Chunking → 0 < length octets → Continues stage (chunk_text octets ++ last_chunk trailers) octets trailers Whole
closes stage octets trailers e some keep parts ended text pieces s =
    subst (λ (t : List ℕ). SentWhole keep parts ended t (pieces ++ piece_of octets) trailers) (append_assoc text (chunk_text octets) (last_chunk trailers))
    (ends_chunks keep parts ended (text ++ chunk_text octets) (pieces ++ piece_of octets) trailers (push_chunked keep parts ended text octets pieces some (subst (λ (t : Stage). Sending keep parts ended text pieces [] t) e s)))

-- so do chunks that were written before, with the last one
pub ends : (stage : Stage) (trailers : List Field) → stage ≡ Chunking → Continues stage (last_chunk trailers) [] trailers Whole
ends stage trailers e keep parts ended text pieces s =
    subst (λ (ps : List (List ℕ)). SentWhole keep parts ended (text ++ last_chunk trailers) ps trailers) (sym (append-nil pieces))
    (ends_chunks keep parts ended text pieces trailers (subst (λ (t : Stage). Sending keep parts ended text pieces [] t) e s))

-- beside a declared length no trailers are written
pub releases : (stage : Stage) (octet : ℕ) (trailers : List Field) → stage ≡ Holding octet → Continues stage (octet ∷ []) [] trailers Whole
releases stage octet trailers e keep parts ended text pieces s =
    let held : SentHolding keep parts ended text pieces octet = subst (λ (t : Stage). Sending keep parts ended text pieces [] t) e s in
    subst (λ (ps : List (List ℕ)). SentWhole keep parts ended (text ++ octet ∷ []) ps trailers) (sym (append-nil pieces)) (record {
      none_ended = λ e. absurd (let clash : true ≡ false = sym e ∙ held.not_ended in cc);
      full = held.full;
      has_length = subst (λ (o : Option ℕ). HasLength o (concat pieces)) (sym held.declared) refl;
      is = held.is ∙ ap (λ (o : Option ℕ). head_of keep parts false ++ content_of o false pieces trailers) (sym held.declared)
          ∙ ap (λ (b : Bool). head_of keep parts b ++ content_of parts.length b pieces trailers) (sym held.not_ended);
    })

-- some octets stand behind a place within
pub some_left : (items : List ℕ) (place : ℕ) → place < length items → 0 < length (drop place items)
some_left items place within = let count : length (drop place items) ≡ length items - place = length-drop place items in omega (arith, count, within)

pub on_ok : {T E P Q : Type 0} (r : Result T E) → (P → Q) → OnOk r P → OnOk r Q
on_ok (Ok x) to p = to p
on_ok (Err e) to p = tt

pub on_err : {T E P : Type 0} (r : Result T E) → P → OnErr r P
on_err (Ok x) p = tt
on_err (Err e) p = p
