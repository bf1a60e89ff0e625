-- What each step through a body in chunks does to where a reader stands.
use Rattle.std.proofs.Common.{◌≡◌, ℕ, ◌+◌, ◌-◌, ◌<◌, ◌≤◌, Bool, List, [], ◌∷◌, ◌++◌, length, refl, sym, ap, ◌∙◌, subst, append_assoc, length-append, arith}
use Rattle.std.specs.List.{concat}
use Rattle.std.proofs.lemmas.List.{append-nil}
use Rattle.httparse.specs.Grammar.{HasNoSection, MayBecomeSection}
use Rattle.model.specs.Http1.{crlf}
use Rattle.model.specs.ResponseHeads.Framing.{Chunks as IsChunks}
use Rattle.model.specs.Responses.{ChunkLine, Chunk as IsChunk}
use Rattle.model.specs.Messages.{Field}
use Rattle.h1_reader.specs.Parts.{Part, ends_with}
use Rattle.h1_reader.specs.Parts.Part.{Body}
use Rattle.response_texts.specs.Trailers.{ArePassed}
use Rattle.response_texts.specs.ChunkLines.{IsLinePart}
use Rattle.h1_reader.specs.Standing.{Held, names_held, State, InBody, InChunked, StandsAt, Stands, Hears}
use Rattle.response_texts.specs.declared.chunk_line.LinePlace.{LinePlace}
use Rattle.response_texts.specs.declared.chunk_line.LinePlace.TheVariants.{Size}
use Rattle.h1_reader.specs.declared.reader.Place.{Place}
use Rattle.h1_reader.specs.declared.reader.Place.TheVariants.{Line, Chunk, ChunkEnd, ChunkReturn, Trailers, Past}
use Rattle.h1_reader.proofs.Steps.{at, state_of, with_octets, arrives, body_step, past_step, end_step, joined_more, one_concat}

-- ---- behind whole chunks

-- octets that aren't told
pub chunked_on : {named : List (List ℕ)} (to_head : Bool) (behind next text xs : List ℕ) (parts : List Part) → InChunked named to_head behind next text parts → InChunked named to_head (behind ++ xs) next (text ++ xs) parts
chunked_on {named} to_head behind next text xs parts c = record {
  chunks = c.chunks;
  front = c.front;
  body = subst (λ (o : List ℕ). InBody to_head (IsChunks named) (text ++ xs) o (concat c.chunks ++ next) parts []) (append_assoc c.front behind xs)
      (past_step to_head (IsChunks named) text (c.front ++ behind) (concat c.chunks ++ next) xs parts [] c.body);
  are_chunks = c.are_chunks;
}

-- octets of the chunk
pub chunked_told : {named : List (List ℕ)} (to_head : Bool) (behind next text xs : List ℕ) (parts : List Part) → InChunked named to_head behind next text parts
    → InChunked named to_head (behind ++ xs) (next ++ xs) (text ++ xs) (parts ++ Body xs ∷ [])
chunked_told {named} to_head behind next text xs parts c =
    let told = body_step to_head (IsChunks named) text (c.front ++ behind) (concat c.chunks ++ next) xs parts c.body in
    let there = subst (λ (o : List ℕ). InBody to_head (IsChunks named) (text ++ xs) o ((concat c.chunks ++ next) ++ xs) (parts ++ Body xs ∷ []) []) (append_assoc c.front behind xs) told in
    record {
      chunks = c.chunks;
      front = c.front;
      body = subst (λ (o : List ℕ). InBody to_head (IsChunks named) (text ++ xs) (c.front ++ (behind ++ xs)) o (parts ++ Body xs ∷ []) []) (append_assoc (concat c.chunks) next xs) there;
      are_chunks = c.are_chunks;
    }

-- a chunk is whole
pub chunked_whole : {named : List (List ℕ)} (to_head : Bool) (behind next text : List ℕ) (parts : List Part) → InChunked named to_head behind next text parts → IsChunk behind next → InChunked named to_head [] [] text parts
chunked_whole {named} to_head behind next text parts c p =
    let rest = subst (λ (o : List ℕ). InBody to_head (IsChunks named) text o (concat c.chunks ++ next) parts []) (sym (append-nil (c.front ++ behind))) c.body in
    let octets : concat c.chunks ++ next ≡ concat (c.chunks ++ next ∷ []) ++ [] = sym (one_concat c.chunks next) ∙ sym (append-nil (concat (c.chunks ++ next ∷ []))) in
    record {
      chunks = c.chunks ++ next ∷ [];
      front = c.front ++ behind;
      body = subst (λ (o : List ℕ). InBody to_head (IsChunks named) text ((c.front ++ behind) ++ []) o parts []) octets rest;
      are_chunks = joined_more IsChunk c.front behind c.chunks next c.are_chunks p;
    }

pub chunked_same : {named : List (List ℕ)} (to_head : Bool) (a b next text : List ℕ) (parts : List Part) → a ≡ b → InChunked named to_head a next text parts → InChunked named to_head b next text parts
chunked_same {named} to_head a b next text parts e c = subst (λ (o : List ℕ). InChunked named to_head o next text parts) e c

-- ---- steps

-- the reader goes to a place and tells nothing
silent : (new : State) (to_head : Bool) (place : Place) (held : Held) (text : List ℕ) (parts : List Part) → new ≡ state_of to_head place held → StandsAt place to_head held text parts
    → Stands text (parts ++ []) new
silent new to_head place held text parts e s = subst (λ (o : List Part). Stands text o new) (sym (append-nil parts)) (arrives new to_head place held text parts e s)

-- a line goes on
pub hears_line : (old new : State) (line on : LinePlace) (octet : ℕ) → old.place ≡ Line line → ((text : List ℕ) → IsLinePart line text → IsLinePart on (text ++ octet ∷ []))
    → new ≡ state_of old.to_head (Line on) old.held → Hears old (octet ∷ []) [] new
hears_line old new line on octet e goes is = record {
  same = ap (λ (n : State). n.to_head) is;
  stands = λ text before s.
      let b = at (Line line) old text before e s in
      silent new old.to_head (Line on) old.held (text ++ octet ∷ []) before is
      (record { behind = b.behind ++ octet ∷ []; chunked = chunked_on old.to_head b.behind [] text (octet ∷ []) before b.chunked; is_part = goes b.behind b.is_part });
}

-- a line is whole, and a chunk begins
pub hears_size : (old new : State) (line : LinePlace) (size octet : ℕ) → old.place ≡ Line line → ((text : List ℕ) → IsLinePart line text → ChunkLine (text ++ octet ∷ []) size) → 0 < size
    → new ≡ state_of old.to_head (Chunk size) old.held → Hears old (octet ∷ []) [] new
hears_size old new line size octet e goes some is = record {
  same = ap (λ (n : State). n.to_head) is;
  stands = λ text before s.
      let b = at (Line line) old text before e s in
      let on = chunked_on old.to_head b.behind [] text (octet ∷ []) before b.chunked in
      silent new old.to_head (Chunk size) old.held (text ++ octet ∷ []) before is (record {
        line = b.behind ++ octet ∷ [];
        size = size;
        next = [];
        chunked = chunked_same old.to_head (b.behind ++ octet ∷ []) ((b.behind ++ octet ∷ []) ++ []) [] (text ++ octet ∷ []) before (sym (append-nil (b.behind ++ octet ∷ []))) on;
        is_line = goes b.behind b.is_part;
        has_size = omega arith;
        some = some;
      });
}

-- the last line is whole
pub hears_last : (old new : State) (line : LinePlace) (octet : ℕ) → old.place ≡ Line line → ((text : List ℕ) → IsLinePart line text → ChunkLine (text ++ octet ∷ []) 0)
    → HasNoSection [] → MayBecomeSection [] → new ≡ state_of old.to_head Trailers (with_octets [] old.held) → Hears old (octet ∷ []) [] new
hears_last old new line octet e goes none may is = record {
  same = ap (λ (n : State). n.to_head) is;
  stands = λ text before s.
      let b = at (Line line) old text before e s in
      let on = chunked_on old.to_head b.behind [] text (octet ∷ []) before b.chunked in
      silent new old.to_head Trailers (with_octets [] old.held) (text ++ octet ∷ []) before is (record {
        line = b.behind ++ octet ∷ [];
        chunked = chunked_same old.to_head (b.behind ++ octet ∷ []) ((b.behind ++ octet ∷ []) ++ []) [] (text ++ octet ∷ []) before (sym (append-nil (b.behind ++ octet ∷ []))) on;
        is_last = goes b.behind b.is_part;
        no_trailers = none;
        may_become = may;
        short = omega arith;
      });
}

-- octets of a chunk
pub hears_chunk : (old new : State) (left : ℕ) (xs : List ℕ) → old.place ≡ Chunk left → length xs < left → new ≡ state_of old.to_head (Chunk (left - length xs)) old.held
    → Hears old xs (Body xs ∷ []) new
hears_chunk old new left xs e less is = record {
  same = ap (λ (n : State). n.to_head) is;
  stands = λ text before s.
      let b = at (Chunk left) old text before e s in
      let sum : length b.next + left ≡ b.size = b.has_size in
      let longer : length (b.next ++ xs) ≡ length b.next + length xs = length-append b.next xs in
      let told = chunked_told old.to_head (b.line ++ b.next) b.next text xs before b.chunked in
      arrives new old.to_head (Chunk (left - length xs)) old.held (text ++ xs) (before ++ Body xs ∷ []) is (record {
        line = b.line;
        size = b.size;
        next = b.next ++ xs;
        chunked = chunked_same old.to_head ((b.line ++ b.next) ++ xs) (b.line ++ (b.next ++ xs)) (b.next ++ xs) (text ++ xs) (before ++ Body xs ∷ []) (append_assoc b.line b.next xs) told;
        is_line = b.is_line;
        has_size = omega arith;
        some = omega arith;
      });
}

-- the last octets of a chunk
pub hears_chunk_all : (old new : State) (left : ℕ) (xs : List ℕ) → old.place ≡ Chunk left → length xs ≡ left → new ≡ state_of old.to_head ChunkEnd old.held → Hears old xs (Body xs ∷ []) new
hears_chunk_all old new left xs e all is = record {
  same = ap (λ (n : State). n.to_head) is;
  stands = λ text before s.
      let b = at (Chunk left) old text before e s in
      let sum : length b.next + left ≡ b.size = b.has_size in
      let some : 0 < left = b.some in
      let longer : length (b.next ++ xs) ≡ length b.next + length xs = length-append b.next xs in
      let size : b.size ≡ length (b.next ++ xs) = omega arith in
      let told = chunked_told old.to_head (b.line ++ b.next) b.next text xs before b.chunked in
      let there : (b.line ++ b.next) ++ xs ≡ (b.line ++ (b.next ++ xs)) ++ [] = append_assoc b.line b.next xs ∙ sym (append-nil (b.line ++ (b.next ++ xs))) in
      arrives new old.to_head ChunkEnd old.held (text ++ xs) (before ++ Body xs ∷ []) is (record {
        line = b.line;
        next = b.next ++ xs;
        chunked = chunked_same old.to_head ((b.line ++ b.next) ++ xs) ((b.line ++ (b.next ++ xs)) ++ []) (b.next ++ xs) (text ++ xs) (before ++ Body xs ∷ []) there told;
        is_line = subst (λ n. ChunkLine b.line n) size b.is_line;
        some = omega arith;
      });
}

-- the carriage return behind a chunk
pub hears_return : (old new : State) (octet : ℕ) → old.place ≡ ChunkEnd → octet ≡ 13 → new ≡ state_of old.to_head ChunkReturn old.held → Hears old (octet ∷ []) [] new
hears_return old new octet e same is = record {
  same = ap (λ (n : State). n.to_head) is;
  stands = λ text before s.
      let b = at ChunkEnd old text before e s in
      let on = chunked_on old.to_head (b.line ++ b.next ++ []) b.next text (octet ∷ []) before b.chunked in
      let there : ((b.line ++ b.next) ++ []) ++ octet ∷ [] ≡ (b.line ++ b.next) ++ 13 ∷ [] =
      ap (λ (o : List ℕ). o ++ octet ∷ []) (append-nil (b.line ++ b.next)) ∙ ap (λ (o : ℕ). (b.line ++ b.next) ++ o ∷ []) same in
      silent new old.to_head ChunkReturn old.held (text ++ octet ∷ []) before is
      (record { line = b.line; next = b.next; chunked = chunked_same old.to_head _ _ b.next (text ++ octet ∷ []) before there on; is_line = b.is_line; some = b.some });
}

-- the line feed behind a chunk
pub hears_feed : (old new : State) (octet : ℕ) → old.place ≡ ChunkReturn → octet ≡ 10 → new ≡ state_of old.to_head (Line (Size 0 0)) old.held → Hears old (octet ∷ []) [] new
hears_feed old new octet e same is = record {
  same = ap (λ (n : State). n.to_head) is;
  stands = λ text before s.
      let b = at ChunkReturn old text before e s in
      let on = chunked_on old.to_head (b.line ++ b.next ++ 13 ∷ []) b.next text (octet ∷ []) before b.chunked in
      let there : ((b.line ++ b.next) ++ 13 ∷ []) ++ octet ∷ [] ≡ (b.line ++ b.next) ++ crlf =
      append_assoc (b.line ++ b.next) (13 ∷ []) (octet ∷ []) ∙ ap (λ (o : ℕ). (b.line ++ b.next) ++ 13 ∷ o ∷ []) same in
      let whole = chunked_same old.to_head _ _ b.next (text ++ octet ∷ []) before there on in
      let few : 0 ≤ 8 = omega arith in
      silent new old.to_head (Line (Size 0 0)) old.held (text ++ octet ∷ []) before is (record {
        behind = [];
        chunked = chunked_whole old.to_head ((b.line ++ b.next) ++ crlf) b.next (text ++ octet ∷ []) before whole (record { line = b.line; is = refl; has_line = b.is_line; is_not_last = b.some });
        is_part = record { are_digits = refl; has_count = refl; few = few; has_size = refl };
      });
}

-- octets of trailers
pub hears_trailers : (old new : State) (xs held : List ℕ) → old.place ≡ Trailers → held ≡ old.held.octets ++ xs → HasNoSection held → MayBecomeSection held → length held ≤ 16384
    → new ≡ state_of old.to_head Trailers (with_octets held old.held) → Hears old xs [] new
hears_trailers old new xs held e longer none may short is = record {
  same = ap (λ (n : State). n.to_head) is;
  stands = λ text before s.
      let b = at Trailers old text before e s in
      let on = chunked_on old.to_head (b.line ++ old.held.octets) [] text xs before b.chunked in
      let there : (b.line ++ old.held.octets) ++ xs ≡ b.line ++ held = append_assoc b.line old.held.octets xs ∙ ap (λ (o : List ℕ). b.line ++ o) (sym longer) in
      silent new old.to_head Trailers (with_octets held old.held) (text ++ xs) before is
      (record { line = b.line; chunked = chunked_same old.to_head _ _ [] (text ++ xs) before there on; is_last = b.is_last; no_trailers = none; may_become = may; short = short });
}

-- the end of trailers
pub hears_end : (old new : State) (xs : List ℕ) (held : Held) (trailers : List Field) → old.place ≡ Trailers → ArePassed (names_held old.held) (old.held.octets ++ xs) trailers → new ≡ state_of old.to_head Past held
    → Hears old xs (ends_with trailers) new
hears_end old new xs held trailers e are is = record {
  same = ap (λ (n : State). n.to_head) is;
  stands = λ text before s.
      let b = at Trailers old text before e s in
      let on = chunked_on old.to_head (b.line ++ old.held.octets) [] text xs before b.chunked in
      let there : on.front ++ ((b.line ++ old.held.octets) ++ xs) ≡ on.front ++ b.line ++ (old.held.octets ++ xs) ++ [] = regrouped on.front b.line old.held.octets xs in
      arrives new old.to_head Past held (text ++ xs) (before ++ ends_with trailers) is (record {
        framing = IsChunks (names_held old.held);
        rest = on.front ++ ((b.line ++ old.held.octets) ++ xs);
        octets = concat on.chunks ++ [];
        trailers = trailers;
        body = end_step old.to_head (IsChunks (names_held old.held)) (text ++ xs) (on.front ++ ((b.line ++ old.held.octets) ++ xs)) (concat on.chunks ++ []) before trailers on.body;
        whole = record {
          chunks = on.chunks;
          front = on.front;
          line = b.line;
          section = old.held.octets ++ xs;
          past = [];
          is = there;
          are_chunks = on.are_chunks;
          is_last = b.is_last;
          are_trailers = are.are;
          is_body = append-nil (concat on.chunks);
          passes = are.is;
        };
      });
}
  where
    regrouped : (front line held xs : List ℕ) → front ++ ((line ++ held) ++ xs) ≡ front ++ line ++ (held ++ xs) ++ []
    regrouped front line held xs = simp (append_assoc, append-nil)
