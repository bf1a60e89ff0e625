-- Room for 5,462 fields is enough for 16,384 octets: each field takes three or more.
use Rattle.std.proofs.Common.{◌≡◌, ℕ, ◌+◌, ◌*◌, ◌<◌, ◌≤◌, List, [], ◌∷◌, ◌++◌, length, ap, ◌∙◌, length-append, arith}
use Rattle.std.specs.Prelude.{All}
use Rattle.std.specs.List.{flat_map}
use Rattle.std.proofs.lemmas.List.Elements.{All-head, All-tail}
use Rattle.httparse.specs.Grammar as grammar
use Rattle.httparse.specs.Grammar.{IsField, LineEnd, print_field, print_section, print_end, print_response}
use Rattle.httparse.specs.Spans.{ResponseExceeds, SectionExceeds}

end_size : (end : LineEnd) → 1 ≤ length (print_end end)
end_size LineEnd.crlf = omega arith
end_size LineEnd.lf = omega arith

lines_size : (lines : List grammar.Field) → All IsField lines → 3 * length lines ≤ length (flat_map print_field lines)
lines_size [] are = omega arith
lines_size (line ∷ lines) are =
    let first : IsField line = All-head IsField line lines are in
    let some : 0 < length line.name = first.name.0 in
    let ends : 1 ≤ length (print_end line.end) = end_size line.end in
    let more : 3 * length lines ≤ length (flat_map print_field lines) = lines_size lines (All-tail IsField line lines are) in
    let size : length (print_field line) ≡ length line.name + (1 + length line.raw) + length (print_end line.end) = simp length-append (omega arith) in
    let whole : length (print_field line ++ flat_map print_field lines) ≡ length (print_field line) + length (flat_map print_field lines) = length-append (print_field line) (flat_map print_field lines) in
    omega arith

section_size : (lines : List grammar.Field) (last : LineEnd) → All IsField lines → 3 * length lines < length (print_section lines last)
section_size lines last are =
    let more : 3 * length lines ≤ length (flat_map print_field lines) = lines_size lines are in
    let ends : 1 ≤ length (print_end last) = end_size last in
    let whole : length (print_section lines last) ≡ length (flat_map print_field lines) + length (print_end last) = length-append (flat_map print_field lines) (print_end last) in
    omega arith

head_size : (head : grammar.ResponseHead) → length (print_section head.fields head.last) ≤ length (print_response head)
unfolding print_response
head_size head = simp length-append (omega arith)

pub head_fits : (room : ℕ) (text : List ℕ) → length text ≤ 16384 → ResponseExceeds room text → room < 5462
head_fits room text short over =
    let reads = over.4 in
    let many : room < length over.3.fields = over.5 in
    let section : 3 * length over.3.fields < length (print_section over.3.fields over.3.last) = section_size over.3.fields over.3.last reads.0.fields in
    let head : length (print_section over.3.fields over.3.last) ≤ length (print_response over.3) = head_size over.3 in
    let text_size : length text ≡ length over.0 + length over.1 = ap length over.2 ∙ length-append over.0 over.1 in
    let whole : length (over.0 ++ 10 ∷ []) ≡ length (print_response over.3 ++ []) = ap length reads.1 in
    let left : length (over.0 ++ 10 ∷ []) ≡ length over.0 + 1 = length-append over.0 (10 ∷ []) in
    let right : length (print_response over.3 ++ []) ≡ length (print_response over.3) + 0 = length-append (print_response over.3) [] in
    omega arith

pub section_fits : (room : ℕ) (text : List ℕ) → length text ≤ 16384 → SectionExceeds room text → room < 5462
section_fits room text short over =
    let reads = over.4 in
    let many : room < length over.3 = over.5 in
    let section : 3 * length over.3 < length (print_section over.3 LineEnd.lf) = section_size over.3 LineEnd.lf reads.0 in
    let text_size : length text ≡ length over.0 + length over.1 = ap length over.2 ∙ length-append over.0 over.1 in
    let whole : length (over.0 ++ 10 ∷ []) ≡ length (print_section over.3 LineEnd.lf ++ []) = ap length reads.1 in
    let left : length (over.0 ++ 10 ∷ []) ≡ length over.0 + 1 = length-append over.0 (10 ∷ []) in
    let right : length (print_section over.3 LineEnd.lf ++ []) ≡ length (print_section over.3 LineEnd.lf) + 0 = length-append (print_section over.3 LineEnd.lf) [] in
    omega arith
