-- What the grammar says of a field's value: each octet of it may stand there.
use Rattle.std.proofs.Common.{suc, ◌≡◌, ℕ, ◌<◌, Bool, true, List, [], ◌∷◌, ◌++◌, get_or, refl, sym, ap, ◌∙◌, arith}
use Rattle.std.specs.Prelude.{All, nat_lt}
use Rattle.std.specs.List.{list_all, flat_map}
use Rattle.std.proofs.lemmas.Bool.{and_parts, and_from}
use Rattle.std.proofs.lemmas.Bool.Decides.{nat_tests}
use Rattle.std.proofs.lemmas.List.Folds.{list_all-append}
use Rattle.std.proofs.lemmas.List.Sums.{AllPass-from_list_all, list_all-from_AllPass}
use Rattle.std.proofs.lemmas.List.Elements.{All-head, All-tail}
use Rattle.httparse.specs.Grammar as grammar
use Rattle.httparse.specs.Grammar.{AllPass, IsField, LineEnd, ReadsResponse, is_value_byte, trim_ows, field_value, print_field, print_section, print_end}
use Rattle.httparse.proofs.GrammarLemmas.{print_response-append}
use Rattle.httparse.proofs.TrimLemmas.{AllPass-trim_ows}
use Rattle.model.specs.Octets.{is_value_octet}
use Rattle.model.specs.ResponseHeads.{values_hold}

abbrev is_octet : ℕ → Bool
is_octet octet = nat_lt octet 256

value_octet : (octet : ℕ) → is_value_byte octet ≡ true → is_octet octet ≡ true → is_value_octet octet ≡ true
value_octet octet p q = grind (arith, nat_tests)

octets_of : (text : List ℕ) → ((k : ℕ) → get_or text k 0 < 256) → list_all is_octet text ≡ true
octets_of [] p = refl
octets_of (octet ∷ octets) p = and_from (is_octet octet) (list_all is_octet octets) (below (p 0)) (octets_of octets (λ k. p (suc k)))
  where
    below : octet < 256 → is_octet octet ≡ true
    below h = grind (arith, nat_tests)

front_octets : (xs ys : List ℕ) → list_all is_octet (xs ++ ys) ≡ true → (list_all is_octet xs ≡ true) × (list_all is_octet ys ≡ true)
front_octets xs ys p = and_parts (list_all is_octet xs) (list_all is_octet ys) (sym (list_all-append is_octet xs ys) ∙ p)

raw_values : (raw : List ℕ) → AllPass is_value_byte raw → list_all is_octet raw ≡ true → list_all is_value_octet (trim_ows raw) ≡ true
raw_values raw pass p =
    let octets = AllPass-from_list_all is_octet raw p in
    let values : AllPass is_value_octet raw = λ i d h. value_octet (get_or raw i d) (pass i d h) (octets i d h) in
    list_all-from_AllPass is_value_octet (trim_ows raw) (AllPass-trim_ows is_value_octet raw values)

line_values : (line : grammar.Field) → IsField line → list_all is_octet (print_field line) ≡ true → list_all is_value_octet (field_value line) ≡ true
line_values line is p =
    let front = front_octets (line.name ++ 58 ∷ line.raw) (print_end line.end) p in
    let rest = front_octets line.name (58 ∷ line.raw) front.0 in
    raw_values line.raw is.raw (and_parts (is_octet 58) (list_all is_octet line.raw) rest.1).1

lines_values : (lines : List grammar.Field) → All IsField lines → list_all is_octet (flat_map print_field lines) ≡ true → values_hold lines ≡ true
lines_values [] are p = refl
lines_values (line ∷ lines) are p =
    let parts = front_octets (print_field line) (flat_map print_field lines) p in
    and_from (list_all is_value_octet (field_value line)) (values_hold lines) (line_values line (All-head IsField line lines are) parts.0) (lines_values lines (All-tail IsField line lines are) parts.1)

-- the octets of a text that holds lines are those of values
pub values_of : (lines : List grammar.Field) (last : LineEnd) (text rest : List ℕ) → All IsField lines → text ≡ print_section lines last ++ rest → ((k : ℕ) → get_or text k 0 < 256)
    → values_hold lines ≡ true
values_of lines last text rest are e octets =
    let whole : list_all is_octet (print_section lines last ++ rest) ≡ true = ap (list_all is_octet) (sym e) ∙ octets_of text octets in
    let section = front_octets (print_section lines last) rest whole in
    lines_values lines are (front_octets (flat_map print_field lines) (print_end last) section.0).0

-- the same of a head
pub head_values : (spelled : grammar.ResponseHead) (text rest : List ℕ) → ReadsResponse text spelled rest → ((k : ℕ) → get_or text k 0 < 256) → values_hold spelled.fields ≡ true
head_values spelled text rest reads octets =
    let section = print_section spelled.fields spelled.last ++ rest in
    let behind_reason = print_end spelled.line_end ++ section in
    let behind_digits = grammar.print_reason spelled.reason ++ behind_reason in
    let behind_version = spelled.digits ++ behind_digits in
    let whole : list_all is_octet (grammar.print_blank spelled.blank ++ (grammar.print_version spelled.minor ++ 32 ∷ behind_version)) ≡ true =
    ap (list_all is_octet) (sym (reads.1 ∙ print_response-append spelled rest)) ∙ octets_of text octets in
    let version = (front_octets (grammar.print_blank spelled.blank) (grammar.print_version spelled.minor ++ 32 ∷ behind_version) whole).1 in
    let digits = (and_parts (is_octet 32) (list_all is_octet behind_version) (front_octets (grammar.print_version spelled.minor) (32 ∷ behind_version) version).1).1 in
    let reason = (front_octets spelled.digits behind_digits digits).1 in
    let line_end = (front_octets (grammar.print_reason spelled.reason) behind_reason reason).1 in
    let lines = (front_octets (print_end spelled.line_end) section line_end).1 in
    let fields = (front_octets (print_section spelled.fields spelled.last) rest lines).0 in
    lines_values spelled.fields reads.0.fields (front_octets (flat_map print_field spelled.fields) (print_end spelled.last) fields).0
