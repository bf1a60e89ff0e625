-- A response's body ends in one place, whichever way it is framed.
use Rattle.std.proofs.Common.{◌≡◌, ℕ, ◌<◌, Bool, true, false, List, [], ◌∷◌, ◌++◌, length, refl, sym, ap, ◌∙◌, subst, append_assoc, inl, inr, arith}
use Rattle.std.specs.Prelude.{not, ◌||◌, ◌==◌}
use Rattle.std.specs.List.{list_all, concat}
use Rattle.std.specs.Str.Parse.{digits_value}
use Rattle.std.proofs.lemmas.Bool.{or_cases, eqb-true, and_parts, and_from}
use Rattle.std.proofs.lemmas.List.{append_cancel_right}
use Rattle.model.specs.Octets.{is_hex_digit, is_space}
use Rattle.httparse.specs.Grammar.{ReadsSection}
use Rattle.httparse.proofs.GrammarLemmas.{section_unique, ReadsSection-append}
use Rattle.model.specs.Messages.{Field}
use Rattle.model.specs.Http1.{crlf}
use Rattle.model.specs.Responses.{ChunkLine, IsExtension, is_extension_octet, Chunk, IsTrailers, Chunked, HasBody}
use Rattle.model.specs.ResponseHeads.{Framing, trailers_passed}
use Rattle.model.specs.ResponseHeads.Framing.{Bodiless, Chunks, Sized, UntilEnd}
use Rattle.model.proofs.Http1Runs.{same_front, same_rest, run_of_some, run-append, run_weaker, one_run, IsPrefixFree, BeginsNone, one_joined}

cons-append : (x : ℕ) (a b : List ℕ) → (x ∷ a) ++ b ≡ x ∷ (a ++ b)
cons-append x a b = refl

-- an octet that doesn't end a line
abbrev is_inside : ℕ → Bool
is_inside octet = not (octet == 13)

space_cases : (octet : ℕ) (P : ℕ → Type 0) → P 32 → P 9 → is_space octet ≡ true → P octet
space_cases octet P a b p =
    elim (or_cases (octet == 32) (octet == 9) p) [
      | inl e ↦ subst P (sym (eqb-true octet 32 e)) a
      | inr e ↦ subst P (sym (eqb-true octet 9 e)) b
    ]

space_inside : (octet : ℕ) → is_space octet ≡ true → is_inside octet ≡ true
space_inside octet p = let P : ℕ → Type 0 = λ o. is_inside o ≡ true in space_cases octet P refl refl p

space_no_digit : (octet : ℕ) → is_space octet ≡ true → is_hex_digit octet ≡ false
space_no_digit octet p = let P : ℕ → Type 0 = λ o. is_hex_digit o ≡ false in space_cases octet P refl refl p

no_digit_at_end : (octet : ℕ) → octet ≡ 13 → is_hex_digit octet ≡ false
no_digit_at_end octet e = let P : ℕ → Type 0 = λ o. is_hex_digit o ≡ false in subst P (sym e) refl

inside_by : (b : Bool) (octet : ℕ) → (octet == 13) ≡ b → (b ≡ true → ⊥) → is_inside octet ≡ true
inside_by true octet e n = absurd (n refl)
inside_by false octet e n = ap not e

true_not_false : ◌≡◌ {A = Bool} true false → ⊥
true_not_false e = cc

digit_inside : (octet : ℕ) → is_hex_digit octet ≡ true → is_inside octet ≡ true
digit_inside octet p = inside_by (octet == 13) octet refl (λ e. true_not_false (sym p ∙ no_digit_at_end octet (eqb-true octet 13 e)))

extension_by : (a b c : Bool) → not (a || b || c) ≡ true → not a ≡ true
extension_by true b c p = p
extension_by false b c p = refl

extension_octet_inside : (octet : ℕ) → is_extension_octet octet ≡ true → is_inside octet ≡ true
extension_octet_inside octet p = extension_by (octet == 13) (octet == 10) (octet == 0) p

extension_inside : (extension : List ℕ) → IsExtension extension → list_all is_inside extension ≡ true
extension_inside [] p = refl
extension_inside (octet ∷ octets) p =
    let P : ℕ → Type 0 = λ o. is_inside o ≡ true in
    let first : is_inside octet ≡ true = subst P (sym p.0) refl in
    and_from (is_inside octet) (list_all is_inside octets) first (run_weaker is_extension_octet is_inside extension_octet_inside octets p.2)

record Stop (text : List ℕ) : Type 0 where
  first : ℕ
  rest : List ℕ
  is : text ≡ first ∷ rest
  stops : is_hex_digit first ≡ false

-- behind the digits stands no digit
stop_at : (spaces extension more : List ℕ) → list_all is_space spaces ≡ true → IsExtension extension → Stop (spaces ++ (extension ++ 13 ∷ more))
stop_at [] [] more p q = record { first = 13; rest = more; is = refl; stops = refl }
stop_at [] (octet ∷ octets) more p q =
    let P : ℕ → Type 0 = λ o. is_hex_digit o ≡ false in
    record { first = octet; rest = octets ++ 13 ∷ more; is = refl; stops = subst P (sym q.0) refl }
stop_at (octet ∷ octets) extension more p q =
    record { first = octet; rest = octets ++ (extension ++ 13 ∷ more); is = refl; stops = space_no_digit octet (and_parts (is_space octet) (list_all is_space octets) p).0 }

line_regrouped : (digits spaces extension x : List ℕ) → (digits ++ spaces ++ extension ++ crlf) ++ x ≡ digits ++ (spaces ++ (extension ++ 13 ∷ (10 ∷ x)))
line_regrouped digits spaces extension x = simp (append_assoc, cons-append)

line_as_run : (digits spaces extension x : List ℕ) → (digits ++ spaces ++ extension ++ crlf) ++ x ≡ (digits ++ (spaces ++ extension)) ++ 13 ∷ (10 ∷ x)
line_as_run digits spaces extension x = simp (append_assoc, cons-append)

line_inside : {text : List ℕ} {size : ℕ} (line : ChunkLine text size) → list_all is_inside (line.digits ++ (line.spaces ++ line.extension)) ≡ true
line_inside {text} {size} line =
    run-append is_inside line.digits (line.spaces ++ line.extension)
    (run_weaker is_hex_digit is_inside digit_inside line.digits (run_of_some is_hex_digit line.digits line.are_digits))
    (run-append is_inside line.spaces line.extension (run_weaker is_space is_inside space_inside line.spaces line.are_spaces) (extension_inside line.extension line.is_extension))

pub one_chunk_line : IsPrefixFree ChunkLine
one_chunk_line s t x y m n p q e =
    let grouped : p.digits ++ (p.spaces ++ (p.extension ++ 13 ∷ (10 ∷ x))) ≡ q.digits ++ (q.spaces ++ (q.extension ++ 13 ∷ (10 ∷ y))) =
    sym (line_regrouped p.digits p.spaces p.extension x) ∙ ap (λ (o : List ℕ). o ++ x) (sym p.is) ∙ e ∙ ap (λ (o : List ℕ). o ++ y) q.is ∙ line_regrouped q.digits q.spaces q.extension y in
    let runs : (p.digits ++ (p.spaces ++ p.extension)) ++ 13 ∷ (10 ∷ x) ≡ (q.digits ++ (q.spaces ++ q.extension)) ++ 13 ∷ (10 ∷ y) =
    sym (line_as_run p.digits p.spaces p.extension x) ∙ ap (λ (o : List ℕ). o ++ x) (sym p.is) ∙ e ∙ ap (λ (o : List ℕ). o ++ y) q.is ∙ line_as_run q.digits q.spaces q.extension y in
    let cut = one_run is_inside _ _ 13 13 (10 ∷ x) (10 ∷ y) (line_inside p) (line_inside q) refl refl runs in
    let rests : x ≡ y = cc (cut.1) in
    let a = stop_at p.spaces p.extension (10 ∷ x) p.are_spaces p.is_extension in
    let b = stop_at q.spaces q.extension (10 ∷ y) q.are_spaces q.is_extension in
    let stopped : p.digits ++ a.first ∷ a.rest ≡ q.digits ++ b.first ∷ b.rest =
    ap (λ (o : List ℕ). p.digits ++ o) (sym a.is) ∙ grouped ∙ ap (λ (o : List ℕ). q.digits ++ o) b.is in
    let sizes = one_run is_hex_digit p.digits q.digits a.first b.first a.rest b.rest (run_of_some is_hex_digit p.digits p.are_digits) (run_of_some is_hex_digit q.digits q.are_digits) a.stops b.stops stopped in
    (append_cancel_right s t x (e ∙ ap (λ (o : List ℕ). t ++ o) (sym rests)), p.has_size ∙ ap (digits_value 16) sizes.0 ∙ sym q.has_size)

chunk_regrouped : (line octets x : List ℕ) → (line ++ octets ++ crlf) ++ x ≡ line ++ (octets ++ 13 ∷ (10 ∷ x))
chunk_regrouped line octets x = simp (append_assoc, cons-append)

pub one_response_chunk : IsPrefixFree Chunk
one_response_chunk s t x y f g p q e =
    let whole : p.line ++ (f ++ 13 ∷ (10 ∷ x)) ≡ q.line ++ (g ++ 13 ∷ (10 ∷ y)) =
    sym (chunk_regrouped p.line f x) ∙ ap (λ (o : List ℕ). o ++ x) (sym p.is) ∙ e ∙ ap (λ (o : List ℕ). o ++ y) q.is ∙ chunk_regrouped q.line g y in
    let lines = one_chunk_line p.line q.line _ _ (length f) (length g) p.has_line q.has_line whole in
    let behind = same_rest p.line q.line _ _ lines.0 whole in
    let same = same_front f g (13 ∷ (10 ∷ x)) (13 ∷ (10 ∷ y)) lines.1 behind in
    let ends : ◌≡◌ {A = List ℕ} (13 ∷ (10 ∷ x)) (13 ∷ (10 ∷ y)) = same_rest f g (13 ∷ (10 ∷ x)) (13 ∷ (10 ∷ y)) same behind in
    let rests : x ≡ y = cc in
    (append_cancel_right s t x (e ∙ ap (λ (o : List ℕ). t ++ o) (sym rests)), same)

-- the line of the last chunk begins no other
pub none_at_last : (line more : List ℕ) → ChunkLine line 0 → BeginsNone Chunk (line ++ more)
none_at_last line more last front past octets chunk e =
    let whole : line ++ more ≡ chunk.line ++ (octets ++ 13 ∷ (10 ∷ past)) = e ∙ ap (λ (o : List ℕ). o ++ past) chunk.is ∙ chunk_regrouped chunk.line octets past in
    let lines = one_chunk_line line chunk.line _ _ 0 (length octets) last chunk.has_line whole in
    let some : 0 < length octets = chunk.is_not_last in
    let none : 0 ≡ length octets = lines.1 in
    absurd (omega arith)

pub last_regrouped : (front line section past : List ℕ) → front ++ line ++ section ++ past ≡ front ++ (line ++ (section ++ past))
last_regrouped front line section past = simp append_assoc

-- trailers of the grammar end in one place, and have one list of lines
pub one_section : (a b x y : List ℕ) (p : IsTrailers a) (q : IsTrailers b) → a ++ x ≡ b ++ y → p.lines ≡ q.lines
one_section a b x y p q e =
    let first : ReadsSection (a ++ x) p.lines p.last x = ReadsSection-append a p.lines p.last [] x p.reads in
    let other : ReadsSection (a ++ x) q.lines q.last y = subst (λ (t : List ℕ). ReadsSection t q.lines q.last y) (sym e) (ReadsSection-append b q.lines q.last [] y q.reads) in
    (section_unique (a ++ x) p.lines q.lines p.last q.last x y first other).0

pub one_response_chunked : (named : List (List ℕ)) (text body other : List ℕ) (trailers others : List Field)
    → Chunked named text body trailers → Chunked named text other others → (body ≡ other) × (trailers ≡ others)
one_response_chunked named text body other trailers others p q =
    let whole : p.front ++ (p.line ++ (p.section ++ p.past)) ≡ q.front ++ (q.line ++ (q.section ++ q.past)) =
    sym (last_regrouped p.front p.line p.section p.past) ∙ sym p.is ∙ q.is ∙ last_regrouped q.front q.line q.section q.past in
    let fronts = one_joined Chunk one_response_chunk p.front q.front _ _ p.chunks q.chunks p.are_chunks q.are_chunks
    (none_at_last p.line _ p.is_last) (none_at_last q.line _ q.is_last) whole in
    let behind = same_rest p.front q.front _ _ fronts.0 whole in
    let lasts = one_chunk_line p.line q.line _ _ 0 0 p.is_last q.is_last behind in
    let lines = one_section p.section q.section p.past q.past p.are_trailers q.are_trailers (same_rest p.line q.line _ _ lasts.0 behind) in
    (p.is_body ∙ ap concat fronts.1 ∙ sym q.is_body, p.passes ∙ ap (trailers_passed named) lines ∙ sym q.passes)

pub one_body : (framing : Framing) (ended : Bool) (text body other : List ℕ) (trailers others : List Field)
    → HasBody framing ended text body trailers → HasBody framing ended text other others → (body ≡ other) × (trailers ≡ others)
one_body Bodiless ended text body other trailers others p q = (p.0 ∙ sym q.0, p.1 ∙ sym q.1)
one_body (Chunks named) ended text body other trailers others p q = one_response_chunked named text body other trailers others p q
one_body (Sized count) ended text body other trailers others p q =
    (same_front body other p.0.past q.0.past (p.0.has_count ∙ sym q.0.has_count) (sym p.0.is ∙ q.0.is), p.1 ∙ sym q.1)
one_body UntilEnd ended text body other trailers others p q = (sym p.1 ∙ q.1, p.2 ∙ sym q.2)
