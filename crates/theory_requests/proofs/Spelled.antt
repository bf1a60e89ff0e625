-- What was written for a stream's items is spelled in one way, and stays so whatever items come behind them.
use Rattle.std.proofs.Common.{◌≡◌, ℕ, ◌+◌, Bool, true, false, List, [], ◌∷◌, ◌++◌, length, Option, Some, None, refl, sym, ap, ◌∙◌, subst, append-nil, append_assoc, length-append, inl, inr, if◌then◌else◌}
use Rattle.std.specs.Prelude.{replicate}
use Rattle.std.specs.List.{concat, flat_map}
use Rattle.std.proofs.lemmas.List.{length-replicate}
use Rattle.model.specs.Octets.{IsFront}
use Rattle.model.specs.Messages.{Field, Request, Item}
use Rattle.model.specs.Messages.Item.{Block}
use Rattle.model.specs.Http1.{H1Request}
use Rattle.model.specs.Http1Text.{chunk_text, last_chunk, content_of}
use Rattle.model.specs.Http2.{HasLength, declared_length, passed_trailers, first_block}
use Rattle.model.specs.Spelling.{IsSpelling, IsSpelled}
use Rattle.request_rules.specs.Heads.{parts_of}
use Rattle.h1_writer.specs.Sending.{Stage, Sending, SentWhole, SentCounting, SentHolding, SentChunking, head_of, piece_of}
use Rattle.h1_writer.specs.Sending.Stage.{Whole, Counting, Holding, Chunking}
use Rattle.h1_writer.proofs.Stages.{are_full, concat_more, more_full}
use Rattle.theory_requests.specs.Written.{IsWritten}
use Rattle.theory_requests.proofs.Texts.{cases_stage, sent_in_part}

-- What a text that is written goes on to: a whole one, in the one spelling, and itself if nothing is waited for.
record GoesOn (keep : Bool) (head : List Field) (ended : Bool) (text : List ℕ) (stage : Stage) : Type 0 where
  whole : List ℕ
  spelling : IsSpelling keep head ended whole
  front : IsFront text whole
  is_whole : stage ≡ Whole → text ≡ whole

-- beside a declared length the body stands alone
alone : (declared : Option ℕ) (n : ℕ) (pieces : List (List ℕ)) → declared ≡ Some n → content_of declared false pieces [] ≡ concat pieces
alone declared n pieces is = subst (λ (d : Option ℕ). content_of d false pieces [] ≡ concat pieces) (sym is) refl

-- a text with a body of the declared length
declared_spelling : (keep : Bool) (head : List Field) (n : ℕ) (pieces : List (List ℕ)) (text : List ℕ) → declared_length head ≡ Some n → length (concat pieces) ≡ n → are_full pieces ≡ true
    → text ≡ head_of keep (parts_of head) false ++ concat pieces → IsSpelling keep head false text
declared_spelling keep head n pieces text declared long full is = record {
  pieces = pieces;
  trailers = [];
  are_full = full;
  has_length = subst (λ (d : Option ℕ). HasLength d (concat pieces)) (sym declared) long;
  is = is ∙ ap (λ (b : List ℕ). head_of keep (parts_of head) false ++ b) (sym (alone (declared_length head) n pieces declared));
}

-- octets of the body are missing
counting : (keep : Bool) (head : List Field) (text : List ℕ) (pieces : List (List ℕ)) (left : ℕ) → (parts_of head).length ≡ Some (length (concat pieces) + left) → are_full pieces ≡ true
    → text ≡ head_of keep (parts_of head) false ++ concat pieces → IsSpelling keep head false (text ++ replicate left 0)
counting keep head text pieces left declared full is =
    let rest : List ℕ = replicate left 0 in
    let body : concat (pieces ++ piece_of rest) ≡ concat pieces ++ rest = concat_more pieces rest in
    declared_spelling keep head (length (concat pieces) + left) (pieces ++ piece_of rest) (text ++ rest) declared
    (ap length body ∙ length-append (concat pieces) rest ∙ ap (λ (n : ℕ). length (concat pieces) + n) (length-replicate left 0))
    (more_full pieces rest full)
    (ap (λ (x : List ℕ). x ++ rest) is ∙ append_assoc (head_of keep (parts_of head) false) (concat pieces) rest ∙ ap (λ (b : List ℕ). head_of keep (parts_of head) false ++ b) (sym body))

-- the last chunk is missing
chunking : (keep : Bool) (head : List Field) (text : List ℕ) (pieces : List (List ℕ)) → (parts_of head).length ≡ None → are_full pieces ≡ true
    → text ≡ head_of keep (parts_of head) false ++ flat_map chunk_text pieces → IsSpelling keep head false (text ++ last_chunk [])
chunking keep head text pieces none full is = record {
  pieces = pieces;
  trailers = [];
  are_full = full;
  has_length = subst (λ (d : Option ℕ). HasLength d (concat pieces)) (sym none) tt;
  is = ap (λ (x : List ℕ). x ++ last_chunk []) is ∙ append_assoc (head_of keep (parts_of head) false) (flat_map chunk_text pieces) (last_chunk [])
      ∙ ap (λ (b : List ℕ). head_of keep (parts_of head) false ++ b) (subst (λ (d : Option ℕ). flat_map chunk_text pieces ++ last_chunk [] ≡ content_of d false pieces []) (sym none) refl);
}

-- a text that isn't whole, of a head that didn't end its stream
goes_on_false : (keep : Bool) (head : List Field) (ended : Bool) (text rest : List ℕ) (stage : Stage) → (stage ≡ Whole → ⊥) → ended ≡ false → IsSpelling keep head false (text ++ rest) → GoesOn keep head ended text stage
goes_on_false keep head ended text rest stage part not_ended spelling = record {
  whole = text ++ rest;
  spelling = subst (λ (e : Bool). IsSpelling keep head e (text ++ rest)) (sym not_ended) spelling;
  front = record { rest = rest; is = refl };
  is_whole = λ e. absurd (part e);
}

goes_on : (keep : Bool) (head : List Field) (ended : Bool) (text : List ℕ) (pieces : List (List ℕ)) (trailers : List Field) (stage : Stage) → Sending keep (parts_of head) ended text pieces trailers stage → GoesOn keep head ended text stage
goes_on keep head ended text pieces trailers Whole s = record {
  whole = text;
  spelling = record { pieces = pieces; trailers = trailers; are_full = s.full; has_length = s.has_length; is = s.is };
  front = record { rest = []; is = sym (append-nil text) };
  is_whole = λ e. refl;
}
goes_on keep head ended text pieces trailers (Counting left) s =
    goes_on_false keep head ended text (replicate left 0) (Counting left) (λ e. cc) s.not_ended (counting keep head text pieces left s.declared s.full s.is)
goes_on keep head ended text pieces trailers (Holding octet) s =
    goes_on_false keep head ended text (octet ∷ []) (Holding octet) (λ e. cc) s.not_ended (declared_spelling keep head (length (concat pieces)) pieces (text ++ octet ∷ []) s.declared refl s.full s.is)
goes_on keep head ended text pieces trailers Chunking s =
    goes_on_false keep head ended text (last_chunk []) Chunking (λ e. cc) s.not_ended (chunking keep head text pieces s.undeclared s.full s.is)

-- a text that isn't whole reads as no request
none_reads : (keep : Bool) (items : List Item) (text : List ℕ) (stage : Stage) → IsWritten keep items text stage → (stage ≡ Whole → ⊥) → (request : Request) → H1Request text request → ⊥
none_reads keep items text stage w part request reads =
    (sent_in_part keep items text stage w part).reads.no_more text [] request reads (sym (append-nil text))

-- what was written is spelled so
pub written_spelled : (keep : Bool) (items : List Item) (text : List ℕ) (stage : Stage) → IsWritten keep items text stage → IsSpelled keep items text
written_spelled keep items text stage w =
    let g = goes_on keep w.head w.ended text w.pieces (passed_trailers (first_block w.more)) stage w.sending in
    record {
      head = w.head;
      ended = w.ended;
      more = w.more;
      is = w.is;
      whole = g.whole;
      spelling = g.spelling;
      front = g.front;
      to_the_end = λ request reads. elim (cases_stage stage) [
        | inl whole ↦ g.is_whole whole
        | inr part ↦ absurd (none_reads keep items text stage w part request reads)
      ];
    }

-- whatever items come behind
pub spelled_more : (keep b : Bool) (items more : List Item) (text : List ℕ) → IsSpelled keep items text → IsSpelled keep (if b then items else items ++ more) text
spelled_more keep true items more text s = s
spelled_more keep false items more text s = record {
  head = s.head;
  ended = s.ended;
  more = s.more ++ more;
  is = ap (λ (xs : List Item). xs ++ more) s.is;
  whole = s.whole;
  spelling = s.spelling;
  front = s.front;
  to_the_end = s.to_the_end;
}
