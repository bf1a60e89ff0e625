-- The names and values of a head are no longer than its text, and a response has few heads: so those that are shown of one are
-- bounded.
use Rattle.std.proofs.Common.{◌≡◌, ℕ, ◌+◌, ◌≤◌, Bool, true, false, List, [], ◌∷◌, ◌++◌, length, map, reverse, filter, ap, sym, ◌∙◌, subst, length-append, arith, inl, inr}
use Rattle.std.specs.Prelude.{bytes_eq, if◌then◌else◌, codes, sum_by, All, Option, Some, None}
use Rattle.std.specs.List.{flat_map}
use Rattle.std.proofs.lemmas.List.{length-reverse, length-map}
use Rattle.std.proofs.lemmas.List.Sums.{sum_by-cons}
use Rattle.std.proofs.lemmas.List.Elements.{All-cons, All-nil}
use Rattle.httparse.specs.Grammar as grammar
use Rattle.httparse.specs.Grammar.{skip_ows, trim_ows, is_ows, print_field, print_end, print_section, print_response}
use Rattle.model.specs.Messages.{Field}
use Rattle.model.specs.Http1.{without}
use Rattle.model.specs.Octets.{Joined}
use Rattle.model.specs.ResponseHeads.{Head, Framing, Interim, Final, meant, without_framing, with_one, never_has_body, head_of, trailers_passed, IsTaken}
use Rattle.model.specs.Limits.{longest_section, most_interims}
use Rattle.model.specs.ResponseHeads.Framing.{Bodiless, Chunks, Sized, UntilEnd}
use Rattle.model.specs.Responses.{IsTrailers, HasBody, Seen}
use Rattle.model.specs.Setup.{Passing}
use Rattle.model.specs.Setup.Passing.{Whole, Streaming}
use Rattle.model.specs.Deliveries.{Delivery}
use Rattle.model.specs.Available.{shown, IsShown}
use Rattle.theory_responses.specs.Outbox.{trailers_at}
use Rattle.theory_responses.specs.Held.{head_octets, octets_of_fields}

-- the octets of all names and values
abbrev pub field_octets : List Field → ℕ
field_octets fields = sum_by (λ (field : Field). length field.name + length field.value) fields

one_more : (field : Field) (fields : List Field) → field_octets (field ∷ fields) ≡ (length field.name + length field.value) + field_octets fields
one_more field fields = sum_by-cons (λ (f : Field). length f.name + length f.value) field fields

-- ---- one line

either_short : (t : Bool) (xs ys : List ℕ) (n : ℕ) → length xs ≤ n → length ys ≤ n → length (if t then xs else ys) ≤ n
either_short true xs ys n p q = p
either_short false xs ys n p q = q

skipped_short : (text : List ℕ) → length (skip_ows text) ≤ length text
skipped_short [] = omega arith
skipped_short (octet ∷ octets) =
    let less : length (skip_ows octets) ≤ length octets = skipped_short octets in
    either_short (is_ows octet) (skip_ows octets) (octet ∷ octets) (length (octet ∷ octets)) (omega arith) (omega arith)

trimmed_short : (text : List ℕ) → length (trim_ows text) ≤ length text
unfolding trim_ows
trimmed_short text =
    let front : length (skip_ows text) ≤ length text = skipped_short text in
    let back : length (skip_ows (reverse (skip_ows text))) ≤ length (reverse (skip_ows text)) = skipped_short (reverse (skip_ows text)) in
    let outer : length (reverse (skip_ows (reverse (skip_ows text)))) ≡ length (skip_ows (reverse (skip_ows text))) = length-reverse (skip_ows (reverse (skip_ows text))) in
    let inner : length (reverse (skip_ows text)) ≡ length (skip_ows text) = length-reverse (skip_ows text) in
    omega arith

line_size : (line : grammar.Field) → length (meant line).name + length (meant line).value ≤ length (print_field line)
line_size line =
    let name : length (meant line).name ≡ length line.name = length-map line.name _ in
    let value : length (meant line).value ≤ length line.raw = trimmed_short line.raw in
    let whole : length (print_field line) ≡ length line.name + (1 + length line.raw) + length (print_end line.end) = simp length-append (omega arith) in
    omega arith

lines_size : (lines : List grammar.Field) → field_octets (map meant lines) ≤ length (flat_map print_field lines)
lines_size [] = omega arith
lines_size (line ∷ lines) =
    let first = line_size line in
    let sum = one_more (meant line) (map meant lines) in
    let more : field_octets (map meant lines) ≤ length (flat_map print_field lines) = lines_size lines in
    let whole : length (print_field line ++ flat_map print_field lines) ≡ length (print_field line) + length (flat_map print_field lines) = length-append (print_field line) (flat_map print_field lines) in
    omega (arith, first, sum, more, whole)

-- ---- what is passed back

kept_size : (t : Bool) (field : Field) (kept fields : List Field) → field_octets kept ≤ field_octets fields
    → field_octets (if t then field ∷ kept else kept) ≤ field_octets (field ∷ fields)
kept_size true field kept fields less = let a = one_more field kept in let b = one_more field fields in omega (arith, a, b, less)
kept_size false field kept fields less = let b = one_more field fields in omega (arith, b, less)

filtered_size : (test : Field → Bool) (fields : List Field) → field_octets (filter test fields) ≤ field_octets fields
filtered_size test [] = omega arith
filtered_size test (field ∷ fields) = kept_size (test field) field (filter test fields) fields (filtered_size test fields)

one_size : (t : Bool) (field : Field) (all some fields : List Field) → field_octets all ≤ field_octets fields → field_octets some ≤ field_octets fields
    → field_octets (if t then field ∷ all else field ∷ some) ≤ field_octets (field ∷ fields)
one_size true field all some fields p q = let a = one_more field all in let b = one_more field fields in omega (arith, a, b, p)
one_size false field all some fields p q = let a = one_more field some in let b = one_more field fields in omega (arith, a, b, q)

with_one_size : (name : List ℕ) (fields : List Field) → field_octets (with_one name fields) ≤ field_octets fields
with_one_size name [] = omega arith
with_one_size name (field ∷ fields) =
    one_size (bytes_eq field.name name) field (without (name ∷ []) fields) (with_one name fields) fields (filtered_size _ fields) (with_one_size name fields)

either_size : (t : Bool) (xs ys fields : List Field) → field_octets xs ≤ field_octets fields → field_octets ys ≤ field_octets fields → field_octets (if t then xs else ys) ≤ field_octets fields
either_size true xs ys fields p q = p
either_size false xs ys fields p q = q

framing_size : (status : ℕ) (fields : List Field) → field_octets (without_framing status fields) ≤ field_octets fields
framing_size status fields =
    either_size (never_has_body status) (without (codes "content-length" ∷ codes "transfer-encoding" ∷ []) fields) (with_one (codes "content-length") fields) fields
    (filtered_size _ fields) (with_one_size (codes "content-length") fields)

head_of_size : (spelled : grammar.ResponseHead) → head_octets (head_of spelled) ≤ length (print_response spelled)
unfolding print_response
head_of_size spelled =
    let fields = map meant spelled.fields in
    let kept : field_octets (without_framing (grammar.status_code spelled) fields) ≤ field_octets fields = framing_size (grammar.status_code spelled) fields in
    let back : field_octets (head_of spelled).fields ≤ field_octets (without_framing (grammar.status_code spelled) fields) = filtered_size _ (without_framing (grammar.status_code spelled) fields) in
    let lines : field_octets fields ≤ length (flat_map print_field spelled.fields) = lines_size spelled.fields in
    simp length-append (omega arith)

-- ---- heads

-- a head whose text was taken has at most as many octets as a section may have
abbrev pub IsShort : Head → Type 0
IsShort head = head_octets head ≤ longest_section

taken_size : (text : List ℕ) (spelled : grammar.ResponseHead) → IsTaken text spelled → IsShort (head_of spelled)
taken_size text spelled taken =
    let head = head_of_size spelled in
    let whole : length text ≡ length (print_response spelled) + 0 = ap length taken.reads.1 ∙ length-append (print_response spelled) [] in
    let short = taken.is_short in
    omega (arith, head, whole, short)

interim_short : (text : List ℕ) (head : Head) → Interim text head → IsShort head
interim_short text head interim = subst IsShort (sym interim.says) (taken_size text interim.spelled interim.taken)

final_short : (to_head : Bool) (text : List ℕ) (head : Head) (framing : Framing) → Final to_head text head framing → IsShort head
final_short to_head text head framing final = subst IsShort (sym final.says) (taken_size text final.spelled final.taken)

interims_short : (text : List ℕ) (heads : List Head) → Joined Interim text heads → All IsShort heads
interims_short text [] joined = All-nil IsShort
interims_short text (head ∷ heads) joined = All-cons IsShort head heads (interim_short joined.0 head joined.2) (interims_short joined.1 heads joined.4)

-- ---- trailers

-- those that are passed back have no more octets than their section
section_size : (named : List (List ℕ)) (text : List ℕ) (are : IsTrailers text) → octets_of_fields (trailers_passed named are.lines) ≤ length text
section_size named text are =
    let fields = map meant are.lines in
    let kept : field_octets (trailers_passed named are.lines) ≤ field_octets fields = filtered_size _ fields in
    let lines : field_octets fields ≤ length (flat_map print_field are.lines) = lines_size are.lines in
    let whole : length text ≡ length (print_section are.lines are.last) + 0 = ap length are.reads.1 ∙ length-append (print_section are.lines are.last) [] in
    let parts : length (print_section are.lines are.last) ≡ length (flat_map print_field are.lines) + length (print_end are.last) = length-append (flat_map print_field are.lines) (print_end are.last) in
    omega (arith, kept, lines, whole, parts)

none_short : (trailers : List Field) → trailers ≡ [] → octets_of_fields trailers ≤ longest_section
none_short [] e = omega arith
none_short (field ∷ fields) e = cc

trailers_short : (framing : Framing) (ended : Bool) (rest body : List ℕ) (trailers : List Field) → HasBody framing ended rest body trailers → octets_of_fields trailers ≤ longest_section
trailers_short Bodiless ended rest body trailers w = none_short trailers w.1
trailers_short (Chunks named) ended rest body trailers w =
    let size = section_size named w.section w.are_trailers in
    let short = w.are_trailers.is_short in
    let same = ap octets_of_fields w.passes in
    omega (arith, size, short, same)
trailers_short (Sized count) ended rest body trailers w = none_short trailers w.1
trailers_short UntilEnd ended rest body trailers w = none_short trailers w.2

-- ---- what is shown of a response

-- the head is short if it is there
abbrev pub IsShortIf : Option Head → Type 0
IsShortIf None = Unit {0}
IsShortIf (Some head) = IsShort head

-- Few interim heads, each short, a short final head, and short trailers.
pub record HasFewHeads (delivery : Delivery) : Type 0 where
  pub few : length delivery.interims ≤ most_interims
  pub short : All IsShort delivery.interims
  pub final : IsShortIf delivery.head
  pub trailers : octets_of_fields (trailers_at delivery.ends) ≤ longest_section

seen_few : (passing : Passing) (text : List ℕ) (to_head : Bool) (interims : List Head) (head : Option Head) (octets : List ℕ) → Seen text to_head interims head octets → HasFewHeads (shown passing interims head octets)
seen_few Whole text to_head interims None octets s = record { few = s.0.few_interims; short = interims_short s.0.front interims s.0.are_interims; final = tt; trailers = omega arith }
seen_few Whole text to_head interims (Some head) octets s = record { few = s.few_interims; short = interims_short s.front interims s.are_interims; final = tt; trailers = omega arith }
seen_few Streaming text to_head interims None octets s = record { few = s.0.few_interims; short = interims_short s.0.front interims s.0.are_interims; final = tt; trailers = omega arith }
seen_few Streaming text to_head interims (Some head) octets s = record { few = s.few_interims; short = interims_short s.front interims s.are_interims; final = final_short to_head s.head_text head s.framing s.is_final; trailers = omega arith }

-- What is shown of an upstream's answer has few heads, and each is short.
pub shown_few : (passing : Passing) (text : List ℕ) (ended to_head : Bool) (delivery : Delivery) → IsShown passing text ended to_head delivery → HasFewHeads delivery
shown_few passing text ended to_head delivery (inl a) =
    let w = a.is_whole in
    subst HasFewHeads (sym a.says) (record { few = w.few_interims; short = interims_short w.front a.response.interims w.are_interims; final = final_short to_head w.head_text a.response.head w.framing w.is_final; trailers = trailers_short w.framing ended w.rest a.response.body a.response.trailers w.body })
shown_few passing text ended to_head delivery (inr b) = subst HasFewHeads (sym b.says) (seen_few passing text to_head b.interims b.head b.octets b.seen)
