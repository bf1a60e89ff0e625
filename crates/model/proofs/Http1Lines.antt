-- A field line is read in one way, and ends in one place.
use Rattle.std.proofs.Common.{◌≡◌, ℕ, ◌<◌, Bool, true, false, List, [], ◌∷◌, ◌++◌, length, reverse, refl, sym, ap, ◌∙◌, subst, append_assoc, inl, inr, arith}
use Rattle.std.specs.Prelude.{not, ◌==◌}
use Rattle.std.specs.List.{list_all}
use Rattle.std.proofs.lemmas.Bool.{false≢true, and_parts, and_from, not-true, or_cases, eqb-true}
use Rattle.std.proofs.lemmas.List.{reverse-append, reverse-reverse, length-reverse, append_cancel_right}
use Rattle.model.specs.Octets.{some_of, is_token_octet, is_space, is_value_octet, is_value, begins_with_space, ends_with_space, lower}
use Rattle.model.specs.Messages.{Field}
use Rattle.model.specs.Http1.{Line, crlf}
use Rattle.model.proofs.Http1Runs.{run_of_some, run-append, run_weaker, not_in_run, one_run, IsPrefixFree, BeginsNone}

-- the parts of a value's test
pub record ValueParts (value : List ℕ) : Type 0 where
  pub octets : list_all is_value_octet value ≡ true
  pub begins : begins_with_space value ≡ false
  pub ends : ends_with_space value ≡ false

pub value_parts : (value : List ℕ) → is_value value ≡ true → ValueParts value
value_parts value p =
    let outer = and_parts _ _ p in
    let inner = and_parts (list_all is_value_octet value) (not (begins_with_space value)) outer.0 in
    record { octets = inner.0; begins = not-true _ inner.1; ends = not-true _ outer.1 }

pub value_from_parts : (value : List ℕ) → ValueParts value → is_value value ≡ true
value_from_parts value p = rw (p.octets, p.begins, p.ends)

pub run_at : (test : ℕ → Bool) (a : List ℕ) (octet : ℕ) (b : List ℕ) → list_all test (a ++ octet ∷ b) ≡ true → test octet ≡ true
run_at test [] octet b p = (and_parts (test octet) (list_all test b) p).0
run_at test (first ∷ a) octet b p = run_at test a octet b (and_parts (test first) (list_all test (a ++ octet ∷ b)) p).1

pub run-reverse : (test : ℕ → Bool) (a : List ℕ) → list_all test a ≡ true → list_all test (reverse a) ≡ true
run-reverse test [] p = refl
run-reverse test (octet ∷ a) p =
    let parts = and_parts (test octet) (list_all test a) p in
    rw (reverse-append (octet ∷ []) a) (run-append test (reverse a) (octet ∷ []) (run-reverse test a parts.1) (and_from (test octet) true parts.0 refl))

-- behind spaces a text that begins with none is one
one_behind_spaces : (a b x y : List ℕ) → list_all is_space a ≡ true → list_all is_space b ≡ true
    → begins_with_space x ≡ false → begins_with_space y ≡ false → 0 < length x → 0 < length y → a ++ x ≡ b ++ y → x ≡ y
one_behind_spaces a b [] y p q nx ny lx ly e = absurd (omega arith)
one_behind_spaces a b (c ∷ x) [] p q nx ny lx ly e = absurd (omega arith)
one_behind_spaces a b (c ∷ x) (d ∷ y) p q nx ny lx ly e = (one_run is_space a b c d x y p q nx ny e).1

no_value_in_spaces : (a b : List ℕ) (c : ℕ) (v after : List ℕ) → list_all is_space (a ++ b) ≡ true → is_space c ≡ false → ((d : List ℕ) → a ++ b ≡ d ++ ((c ∷ v) ++ after) → ⊥)
no_value_in_spaces a b c v after p fails d e =
    false≢true (sym fails ∙ run_at is_space d c (v ++ after) (subst (λ (t : List ℕ). list_all is_space t ≡ true) e p))

one_full_value : (a b v w c d : List ℕ) → list_all is_space a ≡ true → list_all is_space b ≡ true → list_all is_space c ≡ true → list_all is_space d ≡ true
    → ValueParts v → ValueParts w → 0 < length v → 0 < length w → begins_with_space (v ++ c) ≡ false → begins_with_space (w ++ d) ≡ false
    → 0 < length (v ++ c) → 0 < length (w ++ d) → a ++ (v ++ c) ≡ b ++ (w ++ d) → v ≡ w
one_full_value a b v w c d pa pb pc pd pv pw lv lw nv nw fv fw e =
    let behind : v ++ c ≡ w ++ d = one_behind_spaces a b (v ++ c) (w ++ d) pa pb nv nw fv fw e in
    let turned : reverse c ++ reverse v ≡ reverse d ++ reverse w = sym (reverse-append v c) ∙ ap reverse behind ∙ reverse-append w d in
    let lengths : 0 < length (reverse v) = rw (length-reverse v) lv in
    let others : 0 < length (reverse w) = rw (length-reverse w) lw in
    let same = one_behind_spaces (reverse c) (reverse d) (reverse v) (reverse w) (run-reverse is_space c pc) (run-reverse is_space d pd) pv.ends pw.ends lengths others turned in
    sym (reverse-reverse v) ∙ ap reverse same ∙ reverse-reverse w

-- the value between spaces is one
pub one_value : (a b v w c d : List ℕ) → list_all is_space a ≡ true → list_all is_space b ≡ true → list_all is_space c ≡ true → list_all is_space d ≡ true
    → ValueParts v → ValueParts w → a ++ (v ++ c) ≡ b ++ (w ++ d) → v ≡ w
one_value a b [] [] c d pa pb pc pd pv pw e = refl
one_value a b [] (o ∷ w) c d pa pb pc pd pv pw e = absurd (no_value_in_spaces a c o w d (run-append is_space a c pa pc) pw.begins b e)
one_value a b (o ∷ v) [] c d pa pb pc pd pv pw e = absurd (no_value_in_spaces b d o v c (run-append is_space b d pb pd) pv.begins a (sym e))
one_value a b (o ∷ v) (q ∷ w) c d pa pb pc pd pv pw e =
    one_full_value a b (o ∷ v) (q ∷ w) c d pa pb pc pd pv pw (omega arith) (omega arith) pv.begins pw.begins (omega arith) (omega arith) e

space_is_value_octet : (octet : ℕ) → is_space octet ≡ true → is_value_octet octet ≡ true
space_is_value_octet octet p =
    let passes = λ (o : ℕ). is_value_octet o ≡ true in
    elim (or_cases (octet == 32) (octet == 9) p) [
      | inl e ↦ subst passes (sym (eqb-true octet 32 e)) refl
      | inr e ↦ subst passes (sym (eqb-true octet 9 e)) refl
    ]

pub field_same : (f g : Field) → f.name ≡ g.name → f.value ≡ g.value → f ≡ g
field_same f g n v = λ i. record { name = n i; value = v i }

cons-append : (x : ℕ) (a b : List ℕ) → (x ∷ a) ++ b ≡ x ∷ (a ++ b)
cons-append x a b = refl

-- what stands behind a line's name, up to its end
line_regrouped : (name before value after x : List ℕ)
    → (name ++ 58 ∷ before ++ value ++ after ++ crlf) ++ x ≡ name ++ 58 ∷ ((before ++ (value ++ after)) ++ 13 ∷ (10 ∷ x))
line_regrouped name before value after x = simp (append_assoc, cons-append)

line_octets : {text : List ℕ} {field : Field} (line : Line text field) → list_all is_value_octet (line.before ++ (field.value ++ line.after)) ≡ true
line_octets {text} {field} line =
    let spaces = run_weaker is_space is_value_octet space_is_value_octet in
    run-append is_value_octet line.before (field.value ++ line.after) (spaces line.before line.space_before)
    (run-append is_value_octet field.value line.after (value_parts field.value line.is_value).octets (spaces line.after line.space_after))

pub one_line : IsPrefixFree Line
one_line s t x y f g p q e =
    let whole : p.name ++ 58 ∷ ((p.before ++ (f.value ++ p.after)) ++ 13 ∷ (10 ∷ x)) ≡ q.name ++ 58 ∷ ((q.before ++ (g.value ++ q.after)) ++ 13 ∷ (10 ∷ y)) =
    sym (line_regrouped p.name p.before f.value p.after x) ∙ ap (λ (o : List ℕ). o ++ x) (sym p.is) ∙ e ∙ ap (λ (o : List ℕ). o ++ y) q.is ∙ line_regrouped q.name q.before g.value q.after y in
    let names = one_run is_token_octet p.name q.name 58 58 _ _ (run_of_some is_token_octet p.name p.is_token) (run_of_some is_token_octet q.name q.is_token) refl refl whole in
    let behind : (p.before ++ (f.value ++ p.after)) ++ 13 ∷ (10 ∷ x) ≡ (q.before ++ (g.value ++ q.after)) ++ 13 ∷ (10 ∷ y) = cc (names.1) in
    let raws = one_run is_value_octet _ _ 13 13 _ _ (line_octets p) (line_octets q) refl refl behind in
    let values : f.value ≡ g.value =
    one_value p.before q.before f.value g.value p.after q.after p.space_before q.space_before p.space_after q.space_after (value_parts f.value p.is_value) (value_parts g.value q.is_value) raws.0 in
    let same_names : f.name ≡ g.name = p.is_named ∙ ap lower names.0 ∙ sym q.is_named in
    let rests : x ≡ y = cc (raws.1) in
    (append_cancel_right s t x (e ∙ ap (λ (o : List ℕ). t ++ o) (sym rests)), field_same f g same_names values)

no_token : (name : List ℕ) (x y : List ℕ) → some_of is_token_octet name ≡ true → 13 ∷ x ≡ name ++ y → ⊥
no_token [] x y p e = false≢true p
no_token (octet ∷ name) x y p e = not_in_run is_token_octet 13 octet name p refl (cc)

-- a line's end begins no field line
pub end_begins_none : (more : List ℕ) → BeginsNone Line (13 ∷ more)
end_begins_none more front rest field line e =
    let whole : 13 ∷ more ≡ line.name ++ (58 ∷ line.before ++ (field.value ++ (line.after ++ (crlf ++ rest)))) =
    e ∙ ap (λ (o : List ℕ). o ++ rest) line.is ∙ simp (append_assoc, cons-append) in
    no_token line.name more _ line.is_token whole
