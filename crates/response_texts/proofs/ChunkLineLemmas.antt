-- Chunks' lines read octet by octet.
use Rattle.std.proofs.Common.{zero, suc, add-one, ◌≡◌, ℕ, ◌+◌, ◌*◌, ◌^◌, ◌<◌, ◌≤◌, Bool, true, false, List, [], ◌∷◌, ◌++◌, length, refl, sym, ap, ◌∙◌, subst, append_assoc, length-append, inl, inr, arith}
use Rattle.std.specs.Prelude.{◌==◌, Option, Some, None, MatchOption}
use Rattle.std.specs.List.{list_all}
use Rattle.std.specs.Char.{digit_value}
use Rattle.std.specs.Str.Parse.{digits_value}
use Rattle.std.proofs.lemmas.Bool.{or_cases, eqb-true, and_parts, and_from, false≢true}
use Rattle.std.proofs.lemmas.List.{append-nil}
use Rattle.std.proofs.Math.Nat.{pow-succ', pow-le-pow_right}
use Rattle.httparse.proofs.ChunkLemmas.{digits_value_after_push}
use Rattle.model.specs.Octets.{some_of, is_hex_digit, is_space}
use Rattle.model.specs.Http1.{crlf}
use Rattle.model.specs.Responses.{IsExtension, is_extension_octet, ChunkLine, InLine}
use Rattle.model.proofs.Http1Runs.{one_run, run_of_some, run-append}
use Rattle.model.proofs.ResponseBodies.{one_chunk_line}
use Rattle.response_texts.specs.ChunkLines.{LineFront, AreDigits, BehindSize, InExtension, BehindReturn, IsLinePart, NeverLine, IsStep, BreaksLine}
use Rattle.response_texts.specs.declared.chunk_line.LinePlace.{LinePlace}
use Rattle.response_texts.specs.declared.chunk_line.LineStep.{LineStep}
use Rattle.response_texts.specs.declared.chunk_line.LinePlace.TheVariants.{Size, Spaces, Extension, Return}

cons-append : (x : ℕ) (a b : List ℕ) → (x ∷ a) ++ b ≡ x ∷ (a ++ b)
cons-append x a b = refl

-- ---- runs

-- the text begins with an octet that doesn't pass
record Stops (test : ℕ → Bool) (text : List ℕ) : Type 0 where
  first : ℕ
  rest : List ℕ
  is : text ≡ first ∷ rest
  fails : test first ≡ false

stops_at : (test : ℕ → Bool) (first : ℕ) (rest : List ℕ) → test first ≡ false → Stops test (first ∷ rest)
stops_at test first rest fails = record { first = first; rest = rest; is = refl; fails = fails }

runs_end : (test : ℕ → Bool) (u v x y : List ℕ) → list_all test u ≡ true → list_all test v ≡ true → Stops test x → Stops test y → u ++ x ≡ v ++ y → (u ≡ v) × (x ≡ y)
runs_end test u v x y p q a b e =
    let same = one_run test u v a.first b.first a.rest b.rest p q a.fails b.fails
    (ap (λ (o : List ℕ). u ++ o) (sym a.is) ∙ e ∙ ap (λ (o : List ℕ). v ++ o) b.is) in
    (same.0, a.is ∙ same.1 ∙ sym b.is)

-- a run that an octet ends is the longest
run_longest : (test : ℕ → Bool) (u v x y : List ℕ) → list_all test u ≡ true → Stops test y → u ++ x ≡ v ++ y → length u ≤ length v
run_longest test [] v x y p b e = omega arith
run_longest test (a ∷ u) [] x y p b e =
    let whole : a ∷ (u ++ x) ≡ b.first ∷ b.rest = e ∙ b.is in
    let same : a ≡ b.first = cc in
    absurd (false≢true (sym b.fails ∙ ap test (sym same) ∙ (and_parts (test a) (list_all test u) p).0))
run_longest test (a ∷ u) (c ∷ v) x y p b e =
    let rest : u ++ x ≡ v ++ y = cc in
    let more : length u ≤ length v = run_longest test u v x y (and_parts (test a) (list_all test u) p).1 b rest in
    omega arith

run_and : (test : ℕ → Bool) (u : List ℕ) (octet : ℕ) → list_all test u ≡ true → test octet ≡ true → list_all test (u ++ octet ∷ []) ≡ true
run_and test u octet p q = run-append test u (octet ∷ []) p (and_from (test octet) true q refl)

-- ---- where the parts of a line end

space_cases : (octet : ℕ) (P : ℕ → Type 0) → P 32 → P 9 → is_space octet ≡ true → P octet
space_cases octet P a b p =
    elim (or_cases (octet == 32) (octet == 9) p) [
      | inl e ↦ subst P (sym (eqb-true octet 32 e)) a
      | inr e ↦ subst P (sym (eqb-true octet 9 e)) b
    ]

space_no_digit : (octet : ℕ) → is_space octet ≡ true → is_hex_digit octet ≡ false
space_no_digit octet p = let P : ℕ → Type 0 = λ o. is_hex_digit o ≡ false in space_cases octet P refl refl p

extension_stops : (test : ℕ → Bool) → test 59 ≡ false → test 13 ≡ false → (extension more : List ℕ) → IsExtension extension → Stops test (extension ++ 13 ∷ more)
extension_stops test a b [] more p = stops_at test 13 more b
extension_stops test a b (octet ∷ octets) more p =
    let P : ℕ → Type 0 = λ o. test o ≡ false in
    stops_at test octet (octets ++ 13 ∷ more) (subst P (sym p.0) a)

spaces_stop : (spaces rest : List ℕ) → list_all is_space spaces ≡ true → Stops is_hex_digit rest → Stops is_hex_digit (spaces ++ rest)
spaces_stop [] rest p q = q
spaces_stop (octet ∷ octets) rest p q = stops_at is_hex_digit octet (octets ++ rest) (space_no_digit octet (and_parts (is_space octet) (list_all is_space octets) p).0)

-- ---- a line that begins as the text does

abbrev behind : List ℕ → ℕ → List ℕ → List ℕ
behind tail octet more = tail ++ octet ∷ more

line_grouped : (digits spaces extension x : List ℕ) → (digits ++ spaces ++ extension ++ crlf) ++ x ≡ digits ++ (spaces ++ (extension ++ 13 ∷ (10 ∷ x)))
line_grouped digits spaces extension x = simp (append_assoc, cons-append)

front_grouped : (digits spaces extension tail : List ℕ) (octet : ℕ) (more : List ℕ)
    → ((digits ++ (spaces ++ (extension ++ tail))) ++ octet ∷ []) ++ more ≡ digits ++ (spaces ++ (extension ++ (tail ++ octet ∷ more)))
front_grouped digits spaces extension tail octet more = simp (append_assoc, cons-append)

digits_grouped : (digits : List ℕ) (octet : ℕ) (more : List ℕ) → (digits ++ octet ∷ []) ++ more ≡ digits ++ octet ∷ more
digits_grouped digits octet more = simp (append_assoc, cons-append)

line_is : {line : List ℕ} {size : ℕ} (l : ChunkLine line size) (past : List ℕ) → line ++ past ≡ l.digits ++ (l.spaces ++ (l.extension ++ 13 ∷ (10 ∷ past)))
line_is {line} {size} l past = ap (λ (o : List ℕ). o ++ past) l.is ∙ line_grouped l.digits l.spaces l.extension past

line_digits_stop : {line : List ℕ} {size : ℕ} (l : ChunkLine line size) (past : List ℕ) → Stops is_hex_digit (l.spaces ++ (l.extension ++ 13 ∷ (10 ∷ past)))
line_digits_stop {line} {size} l past = spaces_stop l.spaces _ l.are_spaces (extension_stops is_hex_digit refl refl l.extension (10 ∷ past) l.is_extension)

line_spaces_stop : {line : List ℕ} {size : ℕ} (l : ChunkLine line size) (past : List ℕ) → Stops is_space (l.extension ++ 13 ∷ (10 ∷ past))
line_spaces_stop {line} {size} l past = extension_stops is_space refl refl l.extension (10 ∷ past) l.is_extension

-- the digits are the line's
digits_cut : (digits rest line past : List ℕ) (size : ℕ) (l : ChunkLine line size) → some_of is_hex_digit digits ≡ true → Stops is_hex_digit rest → digits ++ rest ≡ line ++ past
    → rest ≡ l.spaces ++ (l.extension ++ 13 ∷ (10 ∷ past))
digits_cut digits rest line past size l p stop e =
    (runs_end is_hex_digit digits l.digits rest (l.spaces ++ (l.extension ++ 13 ∷ (10 ∷ past))) (run_of_some is_hex_digit digits p) (run_of_some is_hex_digit l.digits l.are_digits)
    stop (line_digits_stop l past) (e ∙ line_is l past)).1

-- so are the spaces and tabs
spaces_cut : (digits spaces rest line past : List ℕ) (size : ℕ) (l : ChunkLine line size) → some_of is_hex_digit digits ≡ true → list_all is_space spaces ≡ true
    → Stops is_hex_digit (spaces ++ rest) → Stops is_space rest → digits ++ (spaces ++ rest) ≡ line ++ past → rest ≡ l.extension ++ 13 ∷ (10 ∷ past)
spaces_cut digits spaces rest line past size l p q stop end e =
    (runs_end is_space spaces l.spaces rest (l.extension ++ 13 ∷ (10 ∷ past)) q l.are_spaces end (line_spaces_stop l past)
    (digits_cut digits (spaces ++ rest) line past size l p stop e)).1

-- ---- octets that break a line

pub breaks_first : (size octet : ℕ) (text : List ℕ) → is_hex_digit octet ≡ false → AreDigits 0 size text → NeverLine (text ++ octet ∷ [])
breaks_first size octet [] fails a more line past n l e =
    let short : length l.digits ≤ 0 = run_longest is_hex_digit l.digits [] (l.spaces ++ (l.extension ++ 13 ∷ (10 ∷ past))) (octet ∷ more)
    (run_of_some is_hex_digit l.digits l.are_digits) (stops_at is_hex_digit octet more fails) (sym (e ∙ line_is l past)) in
    some_long l.digits l.are_digits short
  where
    some_long : (digits : List ℕ) → some_of is_hex_digit digits ≡ true → length digits ≤ 0 → ⊥
    some_long [] p h = false≢true p
    some_long (digit ∷ digits) p h = absurd (omega arith)
breaks_first size octet (o ∷ text) fails a more line past n l e =
    let none : 0 ≡ length (o ∷ text) = a.has_count in
    absurd (omega arith)

pub breaks_digits : (count size octet : ℕ) (text : List ℕ) → 8 ≤ count → is_hex_digit octet ≡ true → AreDigits count size text → NeverLine (text ++ octet ∷ [])
breaks_digits count size octet text many p a more line past n l e =
    let long : length (text ++ octet ∷ []) ≤ length l.digits =
    run_longest is_hex_digit (text ++ octet ∷ []) l.digits more (l.spaces ++ (l.extension ++ 13 ∷ (10 ∷ past))) (run_and is_hex_digit text octet a.are_digits p) (line_digits_stop l past)
    (e ∙ line_is l past) in
    let longer : length (text ++ octet ∷ []) ≡ length text + 1 = length-append text (octet ∷ []) in
    let counted : count ≡ length text = a.has_count in
    let few : length l.digits ≤ 8 = l.few_digits in
    absurd (omega arith)

-- behind a size
behind_size : {size : ℕ} {spaces extension tail text : List ℕ} (f : LineFront size spaces extension tail text) (octet : ℕ) (more line past : List ℕ)
    → (text ++ octet ∷ []) ++ more ≡ line ++ past → f.digits ++ (spaces ++ (extension ++ (tail ++ octet ∷ more))) ≡ line ++ past
behind_size {size} {spaces} {extension} {tail} {text} f octet more line past e =
    sym (front_grouped f.digits spaces extension tail octet more) ∙ ap (λ (o : List ℕ). (o ++ octet ∷ []) ++ more) (sym f.is) ∙ e

pub breaks_spaces : (size count octet : ℕ) (text : List ℕ) → 256 ≤ count → is_space octet ≡ true → BehindSize size count text → NeverLine (text ++ octet ∷ [])
breaks_spaces size count octet text many p b more line past n l e =
    let rest = digits_cut b.front.digits (b.spaces ++ octet ∷ more) line past n l b.front.are_digits
    (spaces_stop b.spaces (octet ∷ more) b.front.are_spaces (stops_at is_hex_digit octet more (space_no_digit octet p))) (behind_size b.front octet more line past e) in
    let long : length (b.spaces ++ octet ∷ []) ≤ length l.spaces =
    run_longest is_space (b.spaces ++ octet ∷ []) l.spaces more (l.extension ++ 13 ∷ (10 ∷ past)) (run_and is_space b.spaces octet b.front.are_spaces p) (line_spaces_stop l past)
    (digits_grouped b.spaces octet more ∙ rest) in
    let longer : length (b.spaces ++ octet ∷ []) ≡ length b.spaces + 1 = length-append b.spaces (octet ∷ []) in
    let counted : count ≡ length b.spaces = b.has_count in
    let few : length l.spaces ≤ 256 = l.few_spaces in
    absurd (omega arith)

-- what an extension and the end of a line begin with
begins_end : (octet : ℕ) (more extension past : List ℕ) → IsExtension extension → octet ∷ more ≡ extension ++ 13 ∷ past → (octet ≡ 59 → ⊥) → (octet ≡ 13 → ⊥) → ⊥
begins_end octet more [] past p e a b = b (cc)
begins_end octet more (o ∷ os) past p e a b = let first : octet ≡ o = cc in a (first ∙ p.0)

ends_size : (count octet : ℕ) (spaces more : List ℕ) → count ≡ length spaces → (count ≡ 0 → is_hex_digit octet ≡ false) → list_all is_space spaces ≡ true → Stops is_hex_digit (spaces ++ octet ∷ more)
ends_size count octet [] more c h p = stops_at is_hex_digit octet more (h c)
ends_size count octet (o ∷ os) more c h p = stops_at is_hex_digit o (os ++ octet ∷ more) (space_no_digit o (and_parts (is_space o) (list_all is_space os) p).0)

pub breaks_other : (size count octet : ℕ) (text : List ℕ) → (count ≡ 0 → is_hex_digit octet ≡ false) → is_space octet ≡ false → (octet ≡ 59 → ⊥) → (octet ≡ 13 → ⊥)
    → BehindSize size count text → NeverLine (text ++ octet ∷ [])
breaks_other size count octet text ends fails a b s more line past n l e =
    let rest = spaces_cut s.front.digits s.spaces (octet ∷ more) line past n l s.front.are_digits s.front.are_spaces
    (ends_size count octet s.spaces more s.has_count ends s.front.are_spaces) (stops_at is_space octet more fails) (behind_size s.front octet more line past e) in
    begins_end octet more l.extension (10 ∷ past) l.is_extension rest a b

-- behind a semicolon the rest of the extension stands
record InRest (octets rest extension past : List ℕ) : Type 0 where
  inside : List ℕ
  is : octets ++ rest ≡ inside ++ 13 ∷ past
  are : list_all is_extension_octet inside ≡ true
  few : length inside ≤ 256

in_rest : (octets rest extension past : List ℕ) → IsExtension extension → (59 ∷ octets) ++ rest ≡ extension ++ 13 ∷ past → InRest octets rest extension past
in_rest octets rest [] past p e = let no : ◌≡◌ {A = ℕ} 59 13 = cc in absurd (omega arith)
in_rest octets rest (o ∷ os) past p e = record { inside = os; is = cc; are = p.2; few = p.1 }

extension_cut : (size count octet : ℕ) (text : List ℕ) (x : InExtension size count text) (more line past : List ℕ) (n : ℕ) (l : ChunkLine line n) → (text ++ octet ∷ []) ++ more ≡ line ++ past
    → InRest x.octets (octet ∷ more) l.extension (10 ∷ past)
extension_cut size count octet text x more line past n l e =
    let whole : x.front.digits ++ (x.spaces ++ ((59 ∷ x.octets) ++ octet ∷ more)) ≡ line ++ past = behind_size x.front octet more line past e in
    in_rest x.octets (octet ∷ more) l.extension (10 ∷ past) l.is_extension
    (spaces_cut x.front.digits x.spaces ((59 ∷ x.octets) ++ octet ∷ more) line past n l x.front.are_digits x.front.are_spaces
    (spaces_stop x.spaces _ x.front.are_spaces (stops_at is_hex_digit 59 (x.octets ++ octet ∷ more) refl)) (stops_at is_space 59 (x.octets ++ octet ∷ more) refl) whole)

pub breaks_extension : (size count octet : ℕ) (text : List ℕ) → 256 ≤ count → is_extension_octet octet ≡ true → InExtension size count text → NeverLine (text ++ octet ∷ [])
breaks_extension size count octet text many p x more line past n l e =
    let rest = extension_cut size count octet text x more line past n l e in
    let long : length (x.octets ++ octet ∷ []) ≤ length rest.inside =
    run_longest is_extension_octet (x.octets ++ octet ∷ []) rest.inside more (13 ∷ (10 ∷ past)) (run_and is_extension_octet x.octets octet (extension_octets x.octets x.front.is_extension) p)
    (stops_at is_extension_octet 13 (10 ∷ past) refl) (digits_grouped x.octets octet more ∙ rest.is) in
    let longer : length (x.octets ++ octet ∷ []) ≡ length x.octets + 1 = length-append x.octets (octet ∷ []) in
    let counted : count ≡ length x.octets = x.has_count in
    let few : length rest.inside ≤ 256 = rest.few in
    absurd (omega arith)
  where
    extension_octets : (octets : List ℕ) → IsExtension (59 ∷ octets) → list_all is_extension_octet octets ≡ true
    extension_octets octets p = p.2

pub breaks_control : (size count octet : ℕ) (text : List ℕ) → is_extension_octet octet ≡ false → (octet ≡ 13 → ⊥) → InExtension size count text → NeverLine (text ++ octet ∷ [])
breaks_control size count octet text fails other x more line past n l e =
    let rest = extension_cut size count octet text x more line past n l e in
    let ends = (runs_end is_extension_octet x.octets rest.inside (octet ∷ more) (13 ∷ (10 ∷ past)) x.front.is_extension.2 rest.are
    (stops_at is_extension_octet octet more fails) (stops_at is_extension_octet 13 (10 ∷ past) refl) rest.is).1 in
    let same : octet ≡ 13 = cc in
    other same

end_cut : (extension other x y : List ℕ) → IsExtension extension → IsExtension other → extension ++ 13 ∷ x ≡ other ++ 13 ∷ y → x ≡ y
end_cut [] [] x y p q e = cc
end_cut [] (o ∷ os) x y p q e = let no : 13 ≡ o = cc in let mark : o ≡ 59 = q.0 in absurd (omega arith)
end_cut (o ∷ os) [] x y p q e = let no : o ≡ 13 = cc in let mark : o ≡ 59 = p.0 in absurd (omega arith)
end_cut (o ∷ os) (b ∷ bs) x y p q e =
    let rest : os ++ 13 ∷ x ≡ bs ++ 13 ∷ y = cc in
    let ends = (one_run is_extension_octet os bs 13 13 x y p.2 q.2 refl refl rest).1 in
    cc

pub breaks_return : (size octet : ℕ) (text : List ℕ) → (octet ≡ 10 → ⊥) → BehindReturn size text → NeverLine (text ++ octet ∷ [])
breaks_return size octet text other b more line past n l e =
    let whole : b.front.digits ++ (b.spaces ++ (b.extension ++ 13 ∷ (octet ∷ more))) ≡ line ++ past = behind_size b.front octet more line past e in
    let rest = spaces_cut b.front.digits b.spaces (b.extension ++ 13 ∷ (octet ∷ more)) line past n l b.front.are_digits b.front.are_spaces
    (spaces_stop b.spaces _ b.front.are_spaces (extension_stops is_hex_digit refl refl b.extension (octet ∷ more) b.front.is_extension))
    (extension_stops is_space refl refl b.extension (octet ∷ more) b.front.is_extension) whole in
    let ends : ◌≡◌ {A = List ℕ} (octet ∷ more) (10 ∷ past) = end_cut b.extension l.extension (octet ∷ more) (10 ∷ past) b.front.is_extension l.is_extension rest in
    let same : octet ≡ 10 = cc in
    other same

-- ---- octets with which a line goes on

some_run : (test : ℕ → Bool) (text : List ℕ) → list_all test text ≡ true → 0 < length text → some_of test text ≡ true
some_run test [] p h = absurd (omega arith)
some_run test (octet ∷ octets) p h = p

-- a number of few digits is small
pub small_size : (count size : ℕ) → size < 16 ^ count → count < 8 → size < 268435456
small_size count size p h = let few : count ≤ 7 = omega arith in let most : 16 ^ count ≤ 16 ^ 7 = pow-le-pow_right (omega arith) few in omega arith

pub next_size : (count size value : ℕ) → size < 16 ^ count → value < 16 → 16 * size + value < 16 ^ (count + 1)
next_size count size value p h = let power : 16 ^ (count + 1) ≡ 16 * 16 ^ count = rw add-one (pow-succ' 16 count) in rw power (omega arith)

pub digit_goes : (count size octet value : ℕ) (text : List ℕ) → count < 8 → is_hex_digit octet ≡ true → value ≡ digit_value octet → AreDigits count size text
    → AreDigits (count + 1) (16 * size + value) (text ++ octet ∷ [])
digit_goes count size octet value text few p v a =
    let longer : length (text ++ octet ∷ []) ≡ length text + 1 = length-append text (octet ∷ []) in
    let counted : count ≡ length text = a.has_count in
    let pushed : digits_value 16 (text ++ octet ∷ []) ≡ digits_value 16 text * 16 + digit_value octet = digits_value_after_push 16 0 text octet in
    let so_far : size ≡ digits_value 16 text = a.has_size in
    record { are_digits = run_and is_hex_digit text octet a.are_digits p; has_count = omega arith; few = omega arith; has_size = omega arith }

-- digits, one or more, are a size
pub digits_are : (count size : ℕ) (text : List ℕ) → (count ≡ 0 → ⊥) → AreDigits count size text → BehindSize size 0 text
digits_are count size text some a =
    let counted : count ≡ length text = a.has_count in
    let few : count ≤ 8 = a.few in
    let more : 0 < length text = above (length text) (λ e. some (counted ∙ e)) in
    record {
      spaces = [];
      front = record {
        digits = text;
        is = sym (append-nil text);
        are_digits = some_run is_hex_digit text a.are_digits more;
        few_digits = omega arith;
        are_spaces = refl;
        few_spaces = omega arith;
        is_extension = tt;
        has_size = a.has_size;
      };
      has_count = refl;
    }
  where
    above : (n : ℕ) → (n ≡ 0 → ⊥) → 0 < n
    above zero h = absurd (h refl)
    above (suc n) h = omega arith

-- what an octet does behind a size it does behind its digits
pub behind_digits : (count size octet : ℕ) (step : Option LineStep) → (count ≡ 0 → ⊥) → MatchOption step (BreaksLine (BehindSize size 0) octet) (IsStep (BehindSize size 0) octet)
    → MatchOption step (BreaksLine (AreDigits count size) octet) (IsStep (AreDigits count size) octet)
behind_digits count size octet None some m = λ text a. m text (digits_are count size text some a)
behind_digits count size octet (Some step) some m = record { range = m.range; goes = λ text a. m.goes text (digits_are count size text some a) }

space_grouped : (digits spaces : List ℕ) (octet : ℕ) → (digits ++ (spaces ++ ([] ++ []))) ++ octet ∷ [] ≡ digits ++ ((spaces ++ octet ∷ []) ++ ([] ++ []))
space_grouped digits spaces octet = simp (append_assoc, cons-append, append-nil)

tail_grouped : (digits spaces extension tail : List ℕ) (octet : ℕ) → (digits ++ (spaces ++ (extension ++ tail))) ++ octet ∷ [] ≡ digits ++ (spaces ++ (extension ++ (tail ++ octet ∷ [])))
tail_grouped digits spaces extension tail octet = simp append_assoc

extension_grouped : (digits spaces extension : List ℕ) (octet : ℕ) → (digits ++ (spaces ++ (extension ++ []))) ++ octet ∷ [] ≡ digits ++ (spaces ++ ((extension ++ octet ∷ []) ++ []))
extension_grouped digits spaces extension octet = simp (append_assoc, append-nil)

pub space_goes : (size count octet : ℕ) (text : List ℕ) → count < 256 → is_space octet ≡ true → BehindSize size count text → BehindSize size (count + 1) (text ++ octet ∷ [])
space_goes size count octet text few p b =
    let longer : length (b.spaces ++ octet ∷ []) ≡ length b.spaces + 1 = length-append b.spaces (octet ∷ []) in
    let counted : count ≡ length b.spaces = b.has_count in
    record {
      spaces = b.spaces ++ octet ∷ [];
      front = record {
        digits = b.front.digits;
        is = ap (λ (o : List ℕ). o ++ octet ∷ []) b.front.is ∙ space_grouped b.front.digits b.spaces octet;
        are_digits = b.front.are_digits;
        few_digits = b.front.few_digits;
        are_spaces = run_and is_space b.spaces octet b.front.are_spaces p;
        few_spaces = omega arith;
        is_extension = tt;
        has_size = b.front.has_size;
      };
      has_count = omega arith;
    }

-- a front with more of its tail
tail_goes : {size : ℕ} {spaces extension tail text : List ℕ} (f : LineFront size spaces extension tail text) (octet : ℕ) → LineFront size spaces extension (tail ++ octet ∷ []) (text ++ octet ∷ [])
tail_goes {size} {spaces} {extension} {tail} {text} f octet = record {
  digits = f.digits;
  is = ap (λ (o : List ℕ). o ++ octet ∷ []) f.is ∙ tail_grouped f.digits spaces extension tail octet;
  are_digits = f.are_digits;
  few_digits = f.few_digits;
  are_spaces = f.are_spaces;
  few_spaces = f.few_spaces;
  is_extension = f.is_extension;
  has_size = f.has_size;
}

-- a front with more of its extension
extension_front : {size : ℕ} {spaces extension text : List ℕ} (f : LineFront size spaces extension [] text) (octet : ℕ) → IsExtension (extension ++ octet ∷ [])
    → LineFront size spaces (extension ++ octet ∷ []) [] (text ++ octet ∷ [])
extension_front {size} {spaces} {extension} {text} f octet p = record {
  digits = f.digits;
  is = ap (λ (o : List ℕ). o ++ octet ∷ []) f.is ∙ extension_grouped f.digits spaces extension octet;
  are_digits = f.are_digits;
  few_digits = f.few_digits;
  are_spaces = f.are_spaces;
  few_spaces = f.few_spaces;
  is_extension = p;
  has_size = f.has_size;
}

pub mark_goes : (size count octet : ℕ) (text : List ℕ) → octet ≡ 59 → BehindSize size count text → InExtension size 0 (text ++ octet ∷ [])
mark_goes size count octet text e b =
    let none : length {A = ℕ} [] ≤ 256 = omega arith in
    let begun : LineFront size b.spaces (octet ∷ []) [] (text ++ octet ∷ []) = extension_front b.front octet (e, none, refl) in
    record {
      spaces = b.spaces;
      octets = [];
      front = subst (λ (o : ℕ). LineFront size b.spaces (o ∷ []) [] (text ++ octet ∷ [])) e begun;
      has_count = refl;
    }

pub octet_goes : (size count octet : ℕ) (text : List ℕ) → count < 256 → is_extension_octet octet ≡ true → InExtension size count text → InExtension size (count + 1) (text ++ octet ∷ [])
octet_goes size count octet text few p x =
    let longer : length (x.octets ++ octet ∷ []) ≡ length x.octets + 1 = length-append x.octets (octet ∷ []) in
    let counted : count ≡ length x.octets = x.has_count in
    let fits : length (x.octets ++ octet ∷ []) ≤ 256 = omega arith in
    record {
      spaces = x.spaces;
      octets = x.octets ++ octet ∷ [];
      front = extension_front x.front octet (refl, fits, run_and is_extension_octet x.octets octet x.front.is_extension.2 p);
      has_count = omega arith;
    }

return_front : {size : ℕ} {spaces extension text : List ℕ} (f : LineFront size spaces extension [] text) (octet : ℕ) → octet ≡ 13 → BehindReturn size (text ++ octet ∷ [])
return_front {size} {spaces} {extension} {text} f octet e = record {
  spaces = spaces;
  extension = extension;
  front = subst (λ (o : ℕ). LineFront size spaces extension (o ∷ []) (text ++ octet ∷ [])) e (tail_goes f octet);
}

pub return_goes : (size count octet : ℕ) (text : List ℕ) → octet ≡ 13 → BehindSize size count text → BehindReturn size (text ++ octet ∷ [])
return_goes size count octet text e b = return_front b.front octet e

pub extension_returns : (size count octet : ℕ) (text : List ℕ) → octet ≡ 13 → InExtension size count text → BehindReturn size (text ++ octet ∷ [])
extension_returns size count octet text e x = return_front x.front octet e

line_of : {size : ℕ} {spaces extension text : List ℕ} → LineFront size spaces extension crlf text → ChunkLine text size
line_of {size} {spaces} {extension} {text} f = record {
  digits = f.digits;
  spaces = spaces;
  extension = extension;
  is = f.is ∙ regrouped f.digits;
  are_digits = f.are_digits;
  few_digits = f.few_digits;
  are_spaces = f.are_spaces;
  few_spaces = f.few_spaces;
  is_extension = f.is_extension;
  has_size = f.has_size;
}
  where
    regrouped : (digits : List ℕ) → digits ++ (spaces ++ (extension ++ crlf)) ≡ digits ++ spaces ++ extension ++ crlf
    regrouped digits = simp append_assoc

pub feed_goes : (size octet : ℕ) (text : List ℕ) → octet ≡ 10 → BehindReturn size text → ChunkLine (text ++ octet ∷ []) size
feed_goes size octet text e b =
    line_of (subst (λ (o : ℕ). LineFront size b.spaces b.extension (13 ∷ o ∷ []) (text ++ octet ∷ [])) e (tail_goes b.front octet))

-- ---- what was read begins a line

ended : {size : ℕ} {spaces extension text : List ℕ} → LineFront size spaces extension [] text → InLine text
ended {size} {spaces} {extension} {text} f =
    let whole : ChunkLine ((text ++ 13 ∷ []) ++ 10 ∷ []) size = line_of (tail_goes (tail_goes f 13) 10) in
    record { line = (text ++ 13 ∷ []) ++ 10 ∷ []; size = size; is_line = whole; is_part = record { next = 13; rest = 10 ∷ []; is = append_assoc text (13 ∷ []) (10 ∷ []) } }

size_begun : (count size : ℕ) (text : List ℕ) → AreDigits count size text → InLine text
size_begun zero size [] a =
    let none : length {A = ℕ} [] ≤ 256 = omega arith in
    let one : length {A = ℕ} (48 ∷ []) ≤ 8 = omega arith in
    record {
      line = 48 ∷ 13 ∷ 10 ∷ [];
      size = 0;
      is_line = record { digits = 48 ∷ []; spaces = []; extension = []; is = refl; are_digits = refl; few_digits = one; are_spaces = refl; few_spaces = none; is_extension = tt; has_size = refl };
      is_part = record { next = 48; rest = 13 ∷ 10 ∷ []; is = refl };
    }
size_begun zero size (octet ∷ octets) a = let none : 0 ≡ length (octet ∷ octets) = a.has_count in absurd (omega arith)
size_begun (suc count) size text a = ended (digits_are (suc count) size text (λ e. absurd (omega arith)) a).front

pub line_begun : (place : LinePlace) (text : List ℕ) → IsLinePart place text → InLine text
line_begun (Size count size) text a = size_begun count size text a
line_begun (Spaces size count) text b = ended b.front
line_begun (Extension size count) text x = ended x.front
line_begun (Return size) text b =
    record { line = text ++ 10 ∷ []; size = size; is_line = line_of (tail_goes b.front 10); is_part = record { next = 10; rest = []; is = refl } }

-- no line begins what a line strictly begins with
pub none_in_line : (text : List ℕ) → InLine text → (line past : List ℕ) (size : ℕ) → ChunkLine line size → text ≡ line ++ past → ⊥
none_in_line text b line past size l e =
    let whole : b.line ≡ line ++ (past ++ b.is_part.next ∷ b.is_part.rest) = b.is_part.is ∙ ap (λ (o : List ℕ). o ++ b.is_part.next ∷ b.is_part.rest) e ∙ append_assoc line past _ in
    let same : line ≡ b.line = (one_chunk_line line b.line (past ++ b.is_part.next ∷ b.is_part.rest) [] size b.size l b.is_line (sym whole ∙ sym (append-nil b.line))).0 in
    let lengths : length b.line ≡ length line + length (past ++ b.is_part.next ∷ b.is_part.rest) = ap length whole ∙ length-append line (past ++ b.is_part.next ∷ b.is_part.rest) in
    let some : length (past ++ b.is_part.next ∷ b.is_part.rest) ≡ length past + length (b.is_part.next ∷ b.is_part.rest) = length-append past (b.is_part.next ∷ b.is_part.rest) in
    let equal : length line ≡ length b.line = ap length same in
    absurd (omega arith)
