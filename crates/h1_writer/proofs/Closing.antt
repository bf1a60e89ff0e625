-- A body in one chunk that stands where it was gathered, and what is written before it.
use Rattle.std.proofs.Common.{◌≡◌, ℕ, ◌+◌, ◌-◌, ◌^◌, ◌<◌, ◌≤◌, List, [], ◌++◌, length, take, drop, length-take-le, sym, ap, ◌∙◌, append_assoc, length-append, arith}
use Rattle.std.specs.Int.Digits.{digits_of}
use Rattle.std.proofs.lemmas.Int.Digits.{length-digits_of-le}
use Rattle.std.proofs.lemmas.List.{length-map, length-drop}
use Rattle.std.proofs.Math.Seq.{drop-append_seam}
use Rattle.std.proofs.Math.ListN.{drop_of_length-le}
use Rattle.std.proofs.lemmas.List.{append-nil, take_all}
use Rattle.model.specs.Messages.{Field}
use Rattle.model.specs.Http1.{crlf}
use Rattle.model.specs.Http1Text.{hex_digit, hex_size, chunk_text, last_chunk}

-- a size has sixteen digits at most
pub few_digits : (size : ℕ) → size < 2 ^ 64 → length (hex_size size) ≤ 16
few_digits size fits =
    let few : length (digits_of 16 size) ≤ 16 = length-digits_of-le 16 16 size (omega arith) fits in
    let same : length (hex_size size) ≡ length (digits_of 16 size) = length-map (digits_of 16 size) hex_digit in
    omega (arith, few, same)

-- a head and a chunk's line have this length
pub front_length : (head line : List ℕ) → length ((head ++ line) ++ crlf) ≡ length head + length line + 2
front_length head line =
    let one : length ((head ++ line) ++ crlf) ≡ length (head ++ line) + 2 = length-append (head ++ line) crlf in
    let two : length (head ++ line) ≡ length head + length line = length-append head line in
    omega (arith, one, two)

-- what stands before a body, the body, and what is written behind it
pub closed : (head line body : List ℕ) (trailers : List Field) → (((head ++ line) ++ crlf) ++ body) ++ (crlf ++ last_chunk trailers) ≡ head ++ ((((line ++ crlf) ++ body) ++ crlf) ++ last_chunk trailers)
closed head line body trailers =
    ap (λ (os : List ℕ). (os ++ body) ++ (crlf ++ last_chunk trailers)) (append_assoc head line crlf)
    ∙ ap (λ (os : List ℕ). os ++ (crlf ++ last_chunk trailers)) (append_assoc head (line ++ crlf) body)
    ∙ append_assoc head ((line ++ crlf) ++ body) (crlf ++ last_chunk trailers)
    ∙ ap (λ (os : List ℕ). head ++ os) (sym (append_assoc ((line ++ crlf) ++ body) crlf (last_chunk trailers)))

-- what is written before a body fits in the room that was left
pub fits_before : (head items front : List ℕ) (body : ℕ) → front ≡ (head ++ hex_size (length items - body)) ++ crlf → length items < 2 ^ 64 → length head + 18 ≤ body → length front ≤ body
fits_before head items front body is small room =
    let few : length (hex_size (length items - body)) ≤ 16 = few_digits (length items - body) (omega (arith, small)) in
    let count : length front ≡ length head + length (hex_size (length items - body)) + 2 = ap length is ∙ front_length head (hex_size (length items - body)) in
    omega (arith, few, count, room)

-- a text that is laid before its body, from its beginning on
pub laid : (items front new final : List ℕ) (head body start : ℕ) (trailers : List Field) → front ≡ (take head items ++ hex_size (length items - body)) ++ crlf → length front ≤ body → body ≤ length items → start ≡ body - length front
    → new ≡ take (body - length front) items ++ (front ++ drop body items) → final ≡ new ++ (crlf ++ last_chunk trailers) → drop start final ≡ take head items ++ (chunk_text (drop body items) ++ last_chunk trailers)
laid items front new final head body start trailers front_is fits within start_is new_is final_is =
    let before : List ℕ = take (body - length front) items in
    let rest : List ℕ = drop body items in
    let count : length before ≡ start = length-take-le (body - length front) items (omega (arith, within)) ∙ sym start_is in
    let whole : final ≡ before ++ ((front ++ rest) ++ (crlf ++ last_chunk trailers)) = final_is ∙ ap (λ (os : List ℕ). os ++ (crlf ++ last_chunk trailers)) new_is ∙ append_assoc before (front ++ rest) ((crlf ++ last_chunk trailers)) in
    ap (λ (n : ℕ). drop n final) (sym count) ∙ ap (λ (os : List ℕ). drop (length before) os) whole ∙ drop-append_seam before ((front ++ rest) ++ (crlf ++ last_chunk trailers))
    ∙ ap (λ (os : List ℕ). (os ++ rest) ++ (crlf ++ last_chunk trailers)) front_is
    ∙ closed (take head items) (hex_size (length items - body)) rest trailers
    ∙ ap (λ (n : ℕ). take head items ++ ((((hex_size n ++ crlf) ++ rest) ++ crlf) ++ last_chunk trailers)) (sym (length-drop body items))

-- what is written over a whole list is all of it
pub all_new : (items new : List ℕ) (count : ℕ) → length new ≡ length items → count ≡ length items → take count (new ++ drop (length new) items) ≡ new
all_new items new count same all =
    let none : drop (length new) items ≡ [] = drop_of_length-le items (omega (arith, same)) in
    ap (λ (os : List ℕ). take count (new ++ os)) none ∙ ap (take count) (append-nil new) ∙ take_all count new (omega (arith, same, all))

-- a text before its body is as long as what it was laid over
pub same_length : (items front : List ℕ) (body : ℕ) → length front ≤ body → body ≤ length items → length (take (body - length front) items ++ (front ++ drop body items)) ≡ length items
same_length items front body fits within =
    let one : length (take (body - length front) items ++ (front ++ drop body items)) ≡ length (take (body - length front) items) + length (front ++ drop body items) = length-append (take (body - length front) items) (front ++ drop body items) in
    let two : length (front ++ drop body items) ≡ length front + length (drop body items) = length-append front (drop body items) in
    let three : length (take (body - length front) items) ≡ body - length front = length-take-le (body - length front) items (omega (arith, within)) in
    let four : length (drop body items) ≡ length items - body = length-drop body items in
    omega (arith, one, two, three, four, fits, within)
