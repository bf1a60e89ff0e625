-- How long the text is that is written for a head and its body.
use Rattle.std.proofs.Common.{◌≡◌, ℕ, ◌+◌, ◌<◌, ◌≤◌, ◌^◌, Bool, true, false, List, [], ◌∷◌, ◌++◌, length, refl, sym, ap, ◌∙◌, arith, length-append, append-nil}
use Rattle.std.specs.Prelude.{Option, Some, None}
use Rattle.std.specs.List.{concat, flat_map}
use Rattle.std.specs.Int.Digits.{digits_of}
use Rattle.std.proofs.lemmas.List.{length-map}
use Rattle.std.proofs.lemmas.List.Concat.{flat_map-append}
use Rattle.std.proofs.lemmas.Int.Digits.{length-digits_of-le}
use Rattle.model.specs.Messages.{Field}
use Rattle.model.specs.Http1Text.{lines_text, content_of, hex_digit, hex_size, chunk_text, last_chunk}
use Rattle.request_rules.specs.Heads.{HeadParts}
use Rattle.h1_writer.specs.Sending.{Stage, held_back, Sending, head_of, piece_of}
use Rattle.h1_writer.specs.Sending.Stage.{Whole, Counting, Holding, Chunking}
use Rattle.h1_writer.proofs.Stages.{concat_more}

-- ---- chunks

-- a chunk's size line and the ends of its lines: 20 octets at most
chunk_length : (octets : List ℕ) → length octets < 2 ^ 64 → length (chunk_text octets) ≤ length octets + 20
chunk_length octets fits =
    let digits : length (digits_of 16 (length octets)) ≤ 16 = length-digits_of-le 16 16 (length octets) (omega arith) (omega (arith, fits)) in
    let hex = length-map (digits_of 16 (length octets)) hex_digit in
    let text : length (chunk_text octets) ≡ length (hex_size (length octets)) + 4 + length octets = simp length-append (omega arith) in
    omega (arith, digits, hex, text)

-- ---- what stands behind a head

-- the octets that pieces take behind a head, with a declared length or in chunks, without the last chunk
abbrev taken : Option ℕ → List (List ℕ) → ℕ
taken (Some declared) pieces = length (concat pieces)
taken None pieces = length (flat_map chunk_text pieces)

-- octets more, in one piece
taken_more : (declared : Option ℕ) (pieces : List (List ℕ)) (octets : List ℕ) → length octets < 2 ^ 64 → taken declared (pieces ++ piece_of octets) ≤ taken declared pieces + length octets + 20
taken_more (Some declared) pieces octets fits =
    let size : length (concat (pieces ++ piece_of octets)) ≡ length (concat pieces) + length octets = ap length (concat_more pieces octets) ∙ length-append (concat pieces) octets in omega (arith, size)
taken_more None pieces octets fits =
    let size : length (flat_map chunk_text (pieces ++ piece_of octets)) ≡ length (flat_map chunk_text pieces) + length (flat_map chunk_text (piece_of octets)) =
    ap length (flat_map-append chunk_text pieces (piece_of octets)) ∙ length-append (flat_map chunk_text pieces) (flat_map chunk_text (piece_of octets)) in
    let one = one_chunk octets fits in
    omega (arith, size, one)
  where
    one_chunk : (octets : List ℕ) → length octets < 2 ^ 64 → length (flat_map chunk_text (piece_of octets)) ≤ length octets + 20
    one_chunk [] fits = omega arith
    one_chunk (octet ∷ octets) fits = let chunk = chunk_length (octet ∷ octets) fits in let same : length (flat_map chunk_text ((octet ∷ octets) ∷ [])) ≡ length (chunk_text (octet ∷ octets)) = ap length (append-nil (chunk_text (octet ∷ octets))) in omega (arith, chunk, same)

-- no piece takes nothing
none_taken : (declared : Option ℕ) → taken declared [] ≡ 0
none_taken (Some declared) = refl
none_taken None = refl

module _ (keep : Bool) (parts : HeadParts) (ended : Bool) (text : List ℕ) (pieces : List (List ℕ)) (trailers : List Field) where
  -- a text that isn't whole, with the octet that is held back, is as long as its head and what its pieces take
  at_least : (stage : Stage) → Sending keep parts ended text pieces trailers stage → (stage ≡ Whole → ⊥) → length (head_of keep parts ended) + taken parts.length pieces ≡ length text + held_back stage
  at_least Whole s part = absurd (part refl)
  at_least (Counting left) s part =
      let is : length text ≡ length (head_of keep parts false) + length (concat pieces) = ap length s.is ∙ length-append (head_of keep parts false) (concat pieces) in
      ap (λ b. length (head_of keep parts b) + taken parts.length pieces) s.not_ended ∙ ap (λ d. length (head_of keep parts false) + taken d pieces) s.declared ∙ omega (arith, is)
  at_least (Holding octet) s part =
      let is : length text + 1 ≡ length (head_of keep parts false) + length (concat pieces) = sym (length-append text (octet ∷ [])) ∙ ap length s.is ∙ length-append (head_of keep parts false) (concat pieces) in
      ap (λ b. length (head_of keep parts b) + taken parts.length pieces) s.not_ended ∙ ap (λ d. length (head_of keep parts false) + taken d pieces) s.declared ∙ omega (arith, is)
  at_least Chunking s part =
      let is : length text ≡ length (head_of keep parts false) + length (flat_map chunk_text pieces) = ap length s.is ∙ length-append (head_of keep parts false) (flat_map chunk_text pieces) in
      ap (λ b. length (head_of keep parts b) + taken parts.length pieces) s.not_ended ∙ ap (λ d. length (head_of keep parts false) + taken d pieces) s.undeclared ∙ omega (arith, is)

  -- a last chunk with trailers comes behind that at most
  at_most : (stage : Stage) → Sending keep parts ended text pieces trailers stage → length text ≤ length (head_of keep parts ended) + taken parts.length pieces + 5 + length (lines_text trailers)
  at_most Whole s = let size = ap length s.is ∙ length-append (head_of keep parts ended) (content_of parts.length ended pieces trailers) in let rest = whole_length parts.length ended pieces in omega (arith, size, rest)
    where
      whole_length : (declared : Option ℕ) (ends : Bool) (all : List (List ℕ)) → length (content_of declared ends all trailers) ≤ taken declared all + 5 + length (lines_text trailers)
      whole_length (Some declared) ends all = omega arith
      whole_length None true all = omega arith
      whole_length None false all = let size = length-append (flat_map chunk_text all) (last_chunk trailers) in let last : length (last_chunk trailers) ≡ 5 + length (lines_text trailers) = simp length-append (omega arith) in omega (arith, size, last)
  at_most (Counting left) s = let size = at_least (Counting left) s (λ e. cc) in omega (arith, size)
  at_most (Holding octet) s = let size = at_least (Holding octet) s (λ e. cc) in omega (arith, size)
  at_most Chunking s = let size = at_least Chunking s (λ e. cc) in omega (arith, size)

-- ---- what is written

-- the text of a head that waits, with an octet that is held back
pub head_waits : (keep : Bool) (parts : HeadParts) (ended : Bool) (text : List ℕ) (stage : Stage) → Sending keep parts ended text [] [] stage → (stage ≡ Whole → ⊥) → length text + held_back stage ≡ length (head_of keep parts ended)
head_waits keep parts ended text stage s part = let size = at_least keep parts ended text [] [] stage s part in let none = none_taken parts.length in omega (arith, size, none)

-- a text with the body in one piece
pub one_piece : (keep : Bool) (parts : HeadParts) (ended : Bool) (text octets : List ℕ) (trailers : List Field) (stage : Stage) → length octets < 2 ^ 64 → Sending keep parts ended text ([] ++ piece_of octets) trailers stage → length text ≤ length (head_of keep parts ended) + length octets + 25 + length (lines_text trailers)
one_piece keep parts ended text octets trailers stage fits s =
    let size = at_most keep parts ended text ([] ++ piece_of octets) trailers stage s in
    let more = taken_more parts.length [] octets fits in
    let none = none_taken parts.length in
    omega (arith, size, more, none)

-- what is written for octets more
pub written_length : (keep : Bool) (parts : HeadParts) (ended : Bool) (text written octets : List ℕ) (pieces : List (List ℕ)) (trailers : List Field) (old new : Stage) → length octets < 2 ^ 64 → Sending keep parts ended text pieces [] old → (old ≡ Whole → ⊥)
    → Sending keep parts ended (text ++ written) (pieces ++ piece_of octets) trailers new → length written ≤ length octets + 25 + length (lines_text trailers) + held_back old
written_length keep parts ended text written octets pieces trailers old new fits before part behind =
    let least = at_least keep parts ended text pieces [] old before part in
    let most = at_most keep parts ended (text ++ written) (pieces ++ piece_of octets) trailers new behind in
    let more = taken_more parts.length pieces octets fits in
    let both = length-append text written in
    omega (arith, least, most, more, both)
