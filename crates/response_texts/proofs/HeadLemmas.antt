-- What the parser's answer says of the heads that are taken.
use Rattle.std.proofs.Common.{suc, ◌≡◌, ℕ, ◌<◌, ◌≤◌, Bool, List, [], ◌∷◌, ◌++◌, length, get_or, take, drop, map, refl, sym, ap, ◌∙◌, length-take-le, arith}
use Rattle.std.specs.Prelude.{Some, not, ◌&&◌, ◌==◌, codes, bytes_eq}
use Rattle.std.specs.List.{list_any}
use Rattle.std.proofs.lemmas.List.{append-nil}
use Rattle.std.proofs.Math.Seq.{take-append_seam}
use Rattle.httparse.specs.Grammar as grammar
use Rattle.httparse.specs.Grammar.{print_response, status_code}
use Rattle.httparse.specs.declared.spans.HeaderSpan.{HeaderSpan}
use Rattle.httparse.specs.declared.spans.ResponseSpans.{ResponseSpans}
use Rattle.httparse.specs.Spans.{IsResponseAt, IsResponseOf, IsResponseWithin, AreFieldsAt, header_bytes, name_and_value}
use Rattle.model.specs.Octets.{lower}
use Rattle.model.specs.Messages.{Field}
use Rattle.model.specs.ResponseHeads.{Head, Framing, IsTaken, meant, named_by_connection, framing_of, framing_for, head_of, passed, without_framing}
use Rattle.model.proofs.ResponseHeadReadings.{Spelled}
use Rattle.response_texts.specs.Heads.{field_from, leaves_open, HasNoHead}
use Rattle.response_texts.proofs.Values.{head_values}

pub none_taken : (to_head : Bool) (text : List ℕ) → ((more front past : List ℕ) (k : grammar.ResponseHead) → text ++ more ≡ front ++ past → IsTaken front k → ⊥) → HasNoHead to_head text
none_taken to_head text none = record {
  no_interim = λ more front past head e p. none more front past p.spelled e p.taken;
  no_final = λ more front past head framing e p. none more front past p.spelled e p.taken;
}

map_map : (f : List ℕ × List ℕ → Field) (g : HeaderSpan → List ℕ × List ℕ) (xs : List HeaderSpan) → map f (map g xs) ≡ map (λ x. f (g x)) xs
map_map f g [] = refl
map_map f g (x ∷ xs) = ap (λ (o : List Field). f (g x) ∷ o) (map_map f g xs)

map_lines : (f : List ℕ × List ℕ → Field) (g : grammar.Field → List ℕ × List ℕ) (xs : List grammar.Field) → map f (map g xs) ≡ map (λ x. f (g x)) xs
map_lines f g [] = refl
map_lines f g (x ∷ xs) = ap (λ (o : List Field). f (g x) ∷ o) (map_lines f g xs)

abbrev paired : List ℕ × List ℕ → Field
paired p = record { name = lower p.0; value = p.1 }

-- the fields at the spans are the fields that the lines mean
pub meant_at : (text : List ℕ) (spans : List HeaderSpan) (count : ℕ) (lines : List grammar.Field) → AreFieldsAt text spans count lines → map (field_from text) (take count spans) ≡ map meant lines
meant_at text spans count lines at =
    sym (map_map paired (header_bytes text) (take count spans)) ∙ ap (map paired) at ∙ map_lines paired name_and_value lines

length_mapped : (f : HeaderSpan → List ℕ × List ℕ) (xs : List HeaderSpan) → length (map f xs) ≡ length xs
length_mapped f [] = refl
length_mapped f (x ∷ xs) = ap suc (length_mapped f xs)

length_lines : (f : grammar.Field → List ℕ × List ℕ) (xs : List grammar.Field) → length (map f xs) ≡ length xs
length_lines f [] = refl
length_lines f (x ∷ xs) = ap suc (length_lines f xs)

pub count_is : (text : List ℕ) (spans : List HeaderSpan) (count : ℕ) (lines : List grammar.Field) → count ≤ length spans → AreFieldsAt text spans count lines → count ≡ length lines
count_is text spans count lines fits at =
    let lengths : length (take count spans) ≡ length lines = sym (length_mapped (header_bytes text) (take count spans)) ∙ ap length at ∙ length_lines name_and_value lines in
    let taken : length (take count spans) ≡ count = length-take-le count spans fits in
    sym taken ∙ lengths

-- the front of the octets is the head's text
pub front_is : (text : List ℕ) (spans : List HeaderSpan) (found : ResponseSpans) (h : grammar.ResponseHead) → IsResponseAt text spans found h → Spelled (take found.len text) h
front_is text spans found h at = (
  at.reads.0,
  ap (take found.len) at.reads.1 ∙ ap (λ n. take n (print_response h ++ drop found.len text)) at.len ∙ take-append_seam (print_response h) (drop found.len text) ∙ sym (append-nil (print_response h)),
)

-- a head that passes all tests is taken: the grammar lets no other octet into a value
pub taken : (text : List ℕ) (spans : List HeaderSpan) (found : ResponseSpans) → (of : IsResponseOf text spans found) → IsResponseWithin text spans found
    → ((k : ℕ) → get_or text k 0 < 256) → length text ≤ 16384 → found.headers ≤ 100 → 100 ≤ found.code → (found.code ≡ 101 → ⊥) → IsTaken (take found.len text) of.0
taken text spans found of within octets short few high other =
    let code : found.code ≡ status_code of.0 = of.1.code in
    let count : found.headers ≡ length of.0.fields = count_is text spans found.headers of.0.fields within.section.count_fits of.1.fields in
    let fits : length (take found.len text) ≡ found.len = length-take-le found.len text within.section.len_fits in
    let inside : found.len ≤ length text = within.section.len_fits in
    record {
      reads = front_is text spans found of.0 of.1;
      is_short = omega arith;
      has_few = omega arith;
      values = head_values of.0 text (drop found.len text) of.1.reads octets;
      has_class = omega arith;
      no_upgrade = λ e. other (code ∙ e);
    }

head_same : (h k : Head) → h.status ≡ k.status → h.fields ≡ k.fields → h ≡ k
head_same h k s f = λ i. record { status = s i; fields = f i }

pub says : (text : List ℕ) (spans : List HeaderSpan) (found : ResponseSpans) (fields kept : List Field) (head : Head) → (of : IsResponseOf text spans found)
    → fields ≡ map (field_from text) (take found.headers spans) → kept ≡ passed fields (without_framing found.code fields)
    → head.status ≡ found.code → head.fields ≡ kept → head ≡ head_of of.0
says text spans found fields kept head of is passes status back =
    let lines = is ∙ meant_at text spans found.headers of.0.fields of.1.fields in
    head_same head (head_of of.0) (status ∙ of.1.code)
    (back ∙ passes ∙ ap (λ n. passed fields (without_framing n fields)) of.1.code ∙ ap (λ (fs : List Field). passed fs (without_framing (status_code of.0) fs)) lines)

pub framed : (to_head : Bool) (text : List ℕ) (spans : List HeaderSpan) (found : ResponseSpans) (fields : List Field) (framing : Framing) → (of : IsResponseOf text spans found)
    → fields ≡ map (field_from text) (take found.headers spans) → framing_for to_head found.version found.code fields ≡ Some framing → framing_of to_head of.0 ≡ Some framing
framed to_head text spans found fields framing of is some =
    let lines = is ∙ meant_at text spans found.headers of.0.fields of.1.fields in
    sym (ap (λ (fs : List Field). framing_for to_head of.0.minor (status_code of.0) fs) lines) ∙ ap (λ n. framing_for to_head of.0.minor n fields) (sym of.1.code)
    ∙ ap (λ n. framing_for to_head n found.code fields) (sym of.1.version) ∙ some

-- the head lets its connection stay open just where its version and its fields Connection do
pub opens : (text : List ℕ) (spans : List HeaderSpan) (found : ResponseSpans) (connections fields : List Field) (stays : Bool) → (of : IsResponseOf text spans found)
    → fields ≡ map (field_from text) (take found.headers spans) → named_by_connection connections ≡ named_by_connection fields
    → stays ≡ (found.version == 1 && not (list_any (bytes_eq (codes "close")) (named_by_connection connections))) → stays ≡ leaves_open of.0
opens text spans found connections fields stays of is names told =
    let lines = is ∙ meant_at text spans found.headers of.0.fields of.1.fields in
    told ∙ ap (λ n. n == 1 && not (list_any (bytes_eq (codes "close")) (named_by_connection connections))) of.1.version
    ∙ ap (λ (ns : List (List ℕ)). of.0.minor == 1 && not (list_any (bytes_eq (codes "close")) ns)) (names ∙ ap named_by_connection lines)
