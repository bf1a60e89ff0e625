-- In a body some continuation is a whole response.
use Rattle.std.proofs.Common.{◌≡◌, ℕ, zero, suc, ◌+◌, ◌<◌, ◌≤◌, Bool, true, false, List, [], ◌∷◌, ◌++◌, length, refl, sym, ap, ◌∙◌, subst, append_assoc, length-append, arith}
use Rattle.std.specs.List.{concat}
use Rattle.std.proofs.lemmas.List.{append-nil}
use Rattle.std.proofs.lemmas.List.Elements.{All-nil}
use Rattle.httparse.specs.Grammar as grammar
use Rattle.model.specs.Http1.{crlf}
use Rattle.model.specs.ResponseHeads.Framing.{Chunks as IsChunks, Sized as IsSized}
use Rattle.model.specs.Responses.{ChunkLine, IsTrailers, IsComplete, IsSpoilt}
use Rattle.h1_reader.specs.Parts.{Part}
use Rattle.h1_reader.specs.Parts.Part.{Body}
use Rattle.h1_reader.specs.Standing.{Held, State, InChunked, InSized, StandsAt, Stands, IsInBody}
use Rattle.h1_reader.specs.declared.reader.Place.{Place}
use Rattle.h1_reader.specs.declared.reader.Place.TheVariants.{Head, Sized, UntilEnd, Line, Chunk, ChunkEnd, ChunkReturn, Trailers, Past, Broken}
use Rattle.response_texts.proofs.ChunkLineLemmas.{line_begun}
use Rattle.h1_reader.proofs.Steps.{body_step}
use Rattle.h1_reader.proofs.ChunkSteps.{chunked_on, chunked_told, chunked_whole, chunked_same}
use Rattle.h1_reader.proofs.Ends.{whole_response, past_complete, rest_complete}

-- so many octets
some_octets : ℕ → List ℕ
some_octets zero = []
some_octets (suc count) = 48 ∷ some_octets count

counted : (count : ℕ) → length (some_octets count) ≡ count
unfolding some_octets
counted zero = refl
counted (suc count) = ap suc (counted count)

empty_trailers : IsTrailers crlf
empty_trailers =
    let short : length crlf ≤ 16384 = omega arith in
    let few : length {A = grammar.Field} [] ≤ 100 = omega arith in
    record { lines = []; last = grammar.LineEnd.crlf; reads = (All-nil grammar.IsField, refl); is_short = short; has_few = few; values = refl }

-- behind the last line the empty line makes it whole
last_line : {named : List (List ℕ)} (to_head : Bool) (line text : List ℕ) (parts : List Part) → InChunked named to_head line [] text parts → ChunkLine line 0 → IsComplete (text ++ crlf) false to_head
unfolding empty_trailers
last_line {named} to_head line text parts c l =
    let on = chunked_on to_head line [] text crlf parts c in
    whole_response to_head false (IsChunks named) (text ++ crlf) (on.front ++ (line ++ crlf)) (concat on.chunks ++ []) [] parts [] on.body (record {
      chunks = on.chunks;
      front = on.front;
      line = line;
      section = crlf;
      past = [];
      is = regrouped on.front line;
      are_chunks = on.are_chunks;
      is_last = l;
      are_trailers = empty_trailers;
      is_body = append-nil (concat on.chunks);
      passes = refl;
    })
  where
    regrouped : (front line : List ℕ) → front ++ (line ++ crlf) ≡ front ++ line ++ crlf ++ []
    regrouped front line = simp (append_assoc, append-nil)

-- the line of the last chunk
last : List ℕ
last = 48 ∷ 13 ∷ 10 ∷ []

is_last : ChunkLine last 0
unfolding last
is_last =
    let none : length {A = ℕ} [] ≤ 256 = omega arith in
    let one : length {A = ℕ} (48 ∷ []) ≤ 8 = omega arith in
    record { digits = 48 ∷ []; spaces = []; extension = []; is = refl; are_digits = refl; few_digits = one; are_spaces = refl; few_spaces = none; is_extension = tt; has_size = refl }

no_hope : (to_head : Bool) (text more : List ℕ) → IsComplete (text ++ more) false to_head → IsSpoilt text to_head → ⊥
no_hope to_head text more whole spoilt = spoilt more false whole

on_hope : (to_head : Bool) (text more : List ℕ) → (IsSpoilt (text ++ more) to_head → ⊥) → IsSpoilt text to_head → ⊥
on_hope to_head text more hope spoilt = hope (λ rest ended whole. spoilt (more ++ rest) ended (subst (λ (o : List ℕ). IsComplete o ended to_head) (append_assoc text more rest) whole))

-- behind whole chunks
chunks_hope : {named : List (List ℕ)} (to_head : Bool) (text : List ℕ) (parts : List Part) → InChunked named to_head [] [] text parts → IsSpoilt text to_head → ⊥
chunks_hope {named} to_head text parts c =
    on_hope to_head text last (no_hope to_head (text ++ last) crlf (last_line to_head last (text ++ last) parts (chunked_on to_head [] [] text last parts c) is_last))

-- behind the octets of a chunk
end_hope : {named : List (List ℕ)} (to_head : Bool) (line next end more text : List ℕ) (parts : List Part) → end ++ more ≡ crlf → InChunked named to_head (line ++ next ++ end) next text parts → ChunkLine line (length next) → 0 < length next
    → IsSpoilt text to_head → ⊥
end_hope {named} to_head line next end more text parts e c l some =
    let on = chunked_on to_head (line ++ next ++ end) next text more parts c in
    let whole : (line ++ next ++ end) ++ more ≡ line ++ next ++ crlf = append_assoc (line ++ next) end more ∙ ap (λ (o : List ℕ). line ++ next ++ o) e in
    on_hope to_head text more (chunks_hope to_head (text ++ more) parts
    (chunked_whole to_head (line ++ next ++ crlf) next (text ++ more) parts (chunked_same to_head _ _ next (text ++ more) parts whole on) (record { line = line; is = refl; has_line = l; is_not_last = some })))

-- in a chunk
chunk_hope : {named : List (List ℕ)} (to_head : Bool) (line next text : List ℕ) (left size : ℕ) (parts : List Part) → InChunked named to_head (line ++ next) next text parts → ChunkLine line size → length next + left ≡ size → 0 < size
    → IsSpoilt text to_head → ⊥
chunk_hope {named} to_head line next text left size parts c l sum some =
    let more = some_octets left in
    let told = chunked_told to_head (line ++ next) next text more parts c in
    let there : (line ++ next) ++ more ≡ line ++ (next ++ more) ++ [] = append_assoc line next more ∙ sym (append-nil (line ++ (next ++ more))) in
    let many : length more ≡ left = counted left in
    let longer : length (next ++ more) ≡ length next + length more = length-append next more in
    let sized : size ≡ length (next ++ more) = omega arith in
    on_hope to_head text more (end_hope to_head line (next ++ more) [] crlf (text ++ more) (parts ++ Body more ∷ []) refl
    (chunked_same to_head _ _ (next ++ more) (text ++ more) (parts ++ Body more ∷ []) there told) (subst (λ n. ChunkLine line n) sized l) (omega arith))

line_hope : {named : List (List ℕ)} (to_head : Bool) (line text : List ℕ) (size : ℕ) (parts : List Part) → InChunked named to_head line [] text parts → ChunkLine line size → IsSpoilt text to_head → ⊥
line_hope {named} to_head line text zero parts c l = no_hope to_head text crlf (last_line to_head line text parts c l)
line_hope {named} to_head line text (suc size) parts c l =
    chunk_hope to_head line [] text (suc size) (suc size) parts (chunked_same to_head line (line ++ []) [] text parts (sym (append-nil line)) c) l (omega arith) (omega arith)

sized_hope : (to_head : Bool) (left : ℕ) (text : List ℕ) (parts : List Part) → InSized to_head left text parts → IsSpoilt text to_head → ⊥
sized_hope to_head left text parts b =
    let more = some_octets left in
    let many : length more ≡ left = counted left in
    let longer : length (b.octets ++ more) ≡ length b.octets + length more = length-append b.octets more in
    let sum : length b.octets + left ≡ b.count = b.has_count in
    let whole : length (b.octets ++ more) ≡ b.count = omega arith in
    no_hope to_head text more (whole_response to_head false (IsSized b.count) (text ++ more) (b.octets ++ more) (b.octets ++ more) [] (parts ++ Body more ∷ []) []
    (body_step to_head (IsSized b.count) text b.octets b.octets more parts b.body) (record { past = []; is = sym (append-nil (b.octets ++ more)); has_count = whole }, refl))

hope_at : (place : Place) (to_head : Bool) (held : Held) (text : List ℕ) (parts : List Part) → StandsAt place to_head held text parts → IsInBody place → IsSpoilt text to_head → ⊥
hope_at (Head count) to_head held text parts b none spoilt = none
hope_at (Sized left) to_head held text parts b some spoilt = sized_hope to_head left text parts b spoilt
hope_at UntilEnd to_head held text parts b some spoilt =
    spoilt [] true (subst (λ (o : List ℕ). IsComplete o true to_head) (sym (append-nil text)) (rest_complete to_head text parts b))
hope_at (Line line) to_head held text parts b some spoilt =
    let begun = line_begun line b.behind b.is_part in
    let more = begun.is_part.next ∷ begun.is_part.rest in
    on_hope to_head text more (line_hope to_head begun.line (text ++ more) begun.size parts
    (chunked_same to_head (b.behind ++ more) begun.line [] (text ++ more) parts (sym begun.is_part.is) (chunked_on to_head b.behind [] text more parts b.chunked)) begun.is_line) spoilt
hope_at (Chunk left) to_head held text parts b some spoilt =
    let sum : length b.next + left ≡ b.size = b.has_size in
    let more : 0 < left = b.some in
    chunk_hope to_head b.line b.next text left b.size parts b.chunked b.is_line b.has_size (omega arith) spoilt
hope_at ChunkEnd to_head held text parts b some spoilt = end_hope to_head b.line b.next [] crlf text parts refl b.chunked b.is_line b.some spoilt
hope_at ChunkReturn to_head held text parts b some spoilt = end_hope to_head b.line b.next (13 ∷ []) (10 ∷ []) text parts refl b.chunked b.is_line b.some spoilt
hope_at Trailers to_head held text parts b none spoilt = none
hope_at Past to_head held text parts b some spoilt =
    spoilt [] false (subst (λ (o : List ℕ). IsComplete o false to_head) (sym (append-nil text)) (past_complete false to_head text parts b))
hope_at (Broken fault) to_head held text parts b none spoilt = none

pub hope : (text : List ℕ) (parts : List Part) (state : State) → Stands text parts state → IsInBody state.place → IsSpoilt text state.to_head → ⊥
hope text parts state s some spoilt = hope_at state.place state.to_head state.held text parts s some spoilt
