-- The names and values of a head are no longer than its text.
use Rattle.std.proofs.Common.{◌≡◌, ℕ, ◌+◌, ◌≤◌, Bool, true, false, List, [], ◌∷◌, ◌++◌, length, map, reverse, filter, ap, sym, ◌∙◌, subst, length-append, arith}
use Rattle.std.specs.Prelude.{bytes_eq, if◌then◌else◌, codes}
use Rattle.std.specs.List.{flat_map}
use Rattle.std.proofs.lemmas.List.{length-reverse, length-map}
use Rattle.httparse.specs.Grammar as grammar
use Rattle.httparse.specs.Grammar.{skip_ows, trim_ows, is_ows, print_field, print_end, print_section, print_response}
use Rattle.model.specs.Messages.{Field}
use Rattle.model.specs.Http1.{without}
use Rattle.model.specs.ResponseHeads as model
use Rattle.model.specs.ResponseHeads.{meant, without_framing, with_one, never_has_body, head_of, trailers_passed, IsTaken}
use Rattle.model.specs.Responses.{IsTrailers}
use Rattle.response_texts.specs.HeadSizes.{field_octets}

-- ---- one line

either_short : (t : Bool) (xs ys : List ℕ) (n : ℕ) → length xs ≤ n → length ys ≤ n → length (if t then xs else ys) ≤ n
either_short true xs ys n p q = p
either_short false xs ys n p q = q

skipped_short : (text : List ℕ) → length (skip_ows text) ≤ length text
skipped_short [] = omega arith
skipped_short (octet ∷ octets) =
    let less : length (skip_ows octets) ≤ length octets = skipped_short octets in
    either_short (is_ows octet) (skip_ows octets) (octet ∷ octets) (length (octet ∷ octets)) (omega arith) (omega arith)

trimmed_short : (text : List ℕ) → length (trim_ows text) ≤ length text
unfolding trim_ows
trimmed_short text =
    let front : length (skip_ows text) ≤ length text = skipped_short text in
    let back : length (skip_ows (reverse (skip_ows text))) ≤ length (reverse (skip_ows text)) = skipped_short (reverse (skip_ows text)) in
    let outer : length (reverse (skip_ows (reverse (skip_ows text)))) ≡ length (skip_ows (reverse (skip_ows text))) = length-reverse (skip_ows (reverse (skip_ows text))) in
    let inner : length (reverse (skip_ows text)) ≡ length (skip_ows text) = length-reverse (skip_ows text) in
    omega arith

line_size : (line : grammar.Field) → length (meant line).name + length (meant line).value ≤ length (print_field line)
line_size line =
    let name : length (meant line).name ≡ length line.name = length-map line.name _ in
    let value : length (meant line).value ≤ length line.raw = trimmed_short line.raw in
    let whole : length (print_field line) ≡ length line.name + (1 + length line.raw) + length (print_end line.end) = simp length-append (omega arith) in
    omega arith

lines_size : (lines : List grammar.Field) → field_octets (map meant lines) ≤ length (flat_map print_field lines)
lines_size [] = omega arith
lines_size (line ∷ lines) =
    let first = line_size line in
    let more : field_octets (map meant lines) ≤ length (flat_map print_field lines) = lines_size lines in
    let whole : length (print_field line ++ flat_map print_field lines) ≡ length (print_field line) + length (flat_map print_field lines) = length-append (print_field line) (flat_map print_field lines) in
    omega arith

-- ---- what is passed back

kept_size : (t : Bool) (field : Field) (kept fields : List Field) → field_octets kept ≤ field_octets fields
    → field_octets (if t then field ∷ kept else kept) ≤ field_octets (field ∷ fields)
kept_size true field kept fields less = omega arith
kept_size false field kept fields less = omega arith

filtered_size : (test : Field → Bool) (fields : List Field) → field_octets (filter test fields) ≤ field_octets fields
filtered_size test [] = omega arith
filtered_size test (field ∷ fields) = kept_size (test field) field (filter test fields) fields (filtered_size test fields)

one_size : (t : Bool) (field : Field) (all some fields : List Field) → field_octets all ≤ field_octets fields → field_octets some ≤ field_octets fields
    → field_octets (if t then field ∷ all else field ∷ some) ≤ field_octets (field ∷ fields)
one_size true field all some fields p q = omega arith
one_size false field all some fields p q = omega arith

with_one_size : (name : List ℕ) (fields : List Field) → field_octets (with_one name fields) ≤ field_octets fields
with_one_size name [] = omega arith
with_one_size name (field ∷ fields) =
    one_size (bytes_eq field.name name) field (without (name ∷ []) fields) (with_one name fields) fields (filtered_size _ fields) (with_one_size name fields)

either_size : (t : Bool) (xs ys fields : List Field) → field_octets xs ≤ field_octets fields → field_octets ys ≤ field_octets fields → field_octets (if t then xs else ys) ≤ field_octets fields
either_size true xs ys fields p q = p
either_size false xs ys fields p q = q

framing_size : (status : ℕ) (fields : List Field) → field_octets (without_framing status fields) ≤ field_octets fields
framing_size status fields =
    either_size (never_has_body status) (without (codes "content-length" ∷ codes "transfer-encoding" ∷ []) fields) (with_one (codes "content-length") fields) fields
    (filtered_size _ fields) (with_one_size (codes "content-length") fields)

head_of_size : (spelled : grammar.ResponseHead) → field_octets (head_of spelled).fields ≤ length (print_response spelled)
unfolding print_response
head_of_size spelled =
    let fields = map meant spelled.fields in
    let kept : field_octets (without_framing (grammar.status_code spelled) fields) ≤ field_octets fields = framing_size (grammar.status_code spelled) fields in
    let back : field_octets (head_of spelled).fields ≤ field_octets (without_framing (grammar.status_code spelled) fields) = filtered_size _ (without_framing (grammar.status_code spelled) fields) in
    let lines : field_octets fields ≤ length (flat_map print_field spelled.fields) = lines_size spelled.fields in
    simp length-append (omega arith)

-- so have all fields of a head
pub lines_taken : (text : List ℕ) (spelled : grammar.ResponseHead) → IsTaken text spelled → field_octets (map meant spelled.fields) ≤ length text
unfolding print_response
lines_taken text spelled taken =
    let lines : field_octets (map meant spelled.fields) ≤ length (flat_map print_field spelled.fields) = lines_size spelled.fields in
    let parts : field_octets (map meant spelled.fields) ≤ length (print_response spelled) = simp length-append (omega arith) in
    let whole : length text ≡ length (print_response spelled) + 0 = ap length taken.reads.1 ∙ length-append (print_response spelled) [] in
    omega (arith, parts, whole)

pub taken_size : (text : List ℕ) (spelled : grammar.ResponseHead) → IsTaken text spelled → field_octets (head_of spelled).fields ≤ length text
taken_size text spelled taken =
    let head = head_of_size spelled in
    let whole : length text ≡ length (print_response spelled) + 0 = ap length taken.reads.1 ∙ length-append (print_response spelled) [] in
    omega arith

pub interim_size : (text : List ℕ) (head : model.Head) → model.Interim text head → field_octets head.fields ≤ length text
interim_size text head interim =
    subst (λ (h : model.Head). field_octets h.fields ≤ length text) (sym interim.says) (taken_size text interim.spelled interim.taken)

pub final_size : (to_head : Bool) (text : List ℕ) (head : model.Head) (framing : model.Framing) → model.Final to_head text head framing → field_octets head.fields ≤ length text
final_size to_head text head framing final =
    subst (λ (h : model.Head). field_octets h.fields ≤ length text) (sym final.says) (taken_size text final.spelled final.taken)

-- the trailers that are passed back have no more octets than their section
pub section_size : (named : List (List ℕ)) (text : List ℕ) (are : IsTrailers text) → field_octets (trailers_passed named are.lines) ≤ length text
section_size named text are =
    let fields = map meant are.lines in
    let kept : field_octets (trailers_passed named are.lines) ≤ field_octets fields = filtered_size _ fields in
    let lines : field_octets fields ≤ length (flat_map print_field are.lines) = lines_size are.lines in
    let whole : length text ≡ length (print_section are.lines are.last) + 0 = ap length are.reads.1 ∙ length-append (print_section are.lines are.last) [] in
    let parts : length (print_section are.lines are.last) ≡ length (flat_map print_field are.lines) + length (print_end are.last) = length-append (flat_map print_field are.lines) (print_end are.last) in
    omega (arith, kept, lines, whole, parts)
