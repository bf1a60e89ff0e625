-- A body ends in one place, whichever way it is framed.
use Rattle.std.proofs.Common.{◌≡◌, ℕ, ◌<◌, true, List, [], ◌∷◌, ◌++◌, length, refl, sym, ap, ◌∙◌, append_assoc, arith}
use Rattle.std.specs.List.{concat}
use Rattle.std.specs.Str.Parse.{digits_value}
use Rattle.std.proofs.lemmas.List.{append_cancel_right}
use Rattle.model.specs.Octets.{some_of, is_hex_digit}
use Rattle.model.specs.Messages.{Field}
use Rattle.model.specs.Http1.{crlf, Line, Chunk, Chunked, Counted, Framed}
use Rattle.model.proofs.Http1Runs.{same_front, same_rest, run_of_some, one_run, IsPrefixFree, BeginsNone, one_joined}
use Rattle.model.proofs.Http1Lines.{one_line, end_begins_none}

pub cons-append : (x : ℕ) (a b : List ℕ) → (x ∷ a) ++ b ≡ x ∷ (a ++ b)
cons-append x a b = refl

pub nil-append : (a : List ℕ) → [] ++ a ≡ a
nil-append a = refl

chunk_regrouped : (size data_octets x : List ℕ) → (size ++ crlf ++ data_octets ++ crlf) ++ x ≡ size ++ 13 ∷ (10 ∷ (data_octets ++ 13 ∷ (10 ∷ x)))
chunk_regrouped size data_octets x = simp (append_assoc, cons-append)

pub one_chunk : IsPrefixFree Chunk
one_chunk s t x y f g p q e =
    let whole : p.size ++ 13 ∷ (10 ∷ (f ++ 13 ∷ (10 ∷ x))) ≡ q.size ++ 13 ∷ (10 ∷ (g ++ 13 ∷ (10 ∷ y))) =
    sym (chunk_regrouped p.size f x) ∙ ap (λ (o : List ℕ). o ++ x) (sym p.is) ∙ e ∙ ap (λ (o : List ℕ). o ++ y) q.is ∙ chunk_regrouped q.size g y in
    let sizes = one_run is_hex_digit p.size q.size 13 13 _ _ (run_of_some is_hex_digit p.size p.is_size) (run_of_some is_hex_digit q.size q.is_size) refl refl whole in
    let behind : f ++ 13 ∷ (10 ∷ x) ≡ g ++ 13 ∷ (10 ∷ y) = cc (sizes.1) in
    let lengths : length f ≡ length g = p.has_size ∙ ap (digits_value 16) sizes.0 ∙ sym q.has_size in
    let same = same_front f g (13 ∷ (10 ∷ x)) (13 ∷ (10 ∷ y)) lengths behind in
    let ends : ◌≡◌ {A = List ℕ} (13 ∷ (10 ∷ x)) (13 ∷ (10 ∷ y)) = same_rest f g (13 ∷ (10 ∷ x)) (13 ∷ (10 ∷ y)) same behind in
    let rests : x ≡ y = cc in
    (append_cancel_right s t x (e ∙ ap (λ (o : List ℕ). t ++ o) (sym rests)), same)

-- the last size begins no chunk
last_begins_none : (last more : List ℕ) → some_of is_hex_digit last ≡ true → digits_value 16 last ≡ 0 → BeginsNone Chunk (last ++ 13 ∷ more)
last_begins_none last more p zero front rest octets chunk e =
    let whole : last ++ 13 ∷ more ≡ chunk.size ++ 13 ∷ (10 ∷ (octets ++ 13 ∷ (10 ∷ rest))) =
    e ∙ ap (λ (o : List ℕ). o ++ rest) chunk.is ∙ chunk_regrouped chunk.size octets rest in
    let sizes = one_run is_hex_digit last chunk.size 13 13 _ _ (run_of_some is_hex_digit last p) (run_of_some is_hex_digit chunk.size chunk.is_size) refl refl whole in
    let none : length octets ≡ 0 = chunk.has_size ∙ ap (digits_value 16) (sym sizes.0) ∙ zero in
    let some : 0 < length octets = chunk.is_not_last in
    absurd (omega arith)

chunked_regrouped : (front last lines x : List ℕ) → (front ++ last ++ crlf ++ lines ++ crlf) ++ x ≡ front ++ (last ++ 13 ∷ (10 ∷ (lines ++ 13 ∷ (10 ∷ x))))
chunked_regrouped front last lines x = simp (append_assoc, cons-append)

-- No text of a body and trailers begins a text of others.
abbrev pub EndsOnce : (List ℕ → List ℕ → List Field → Type 0) → Type 0
EndsOnce Reads = (s t x y b c : List ℕ) (v w : List Field) → Reads s b v → Reads t c w → s ++ x ≡ t ++ y → (s ≡ t) × (b ≡ c) × (v ≡ w)

pub one_chunked : EndsOnce Chunked
one_chunked s t x y b c v w p q e =
    let whole : p.front ++ (p.last_size ++ 13 ∷ (10 ∷ (p.lines ++ 13 ∷ (10 ∷ x)))) ≡ q.front ++ (q.last_size ++ 13 ∷ (10 ∷ (q.lines ++ 13 ∷ (10 ∷ y)))) =
    sym (chunked_regrouped p.front p.last_size p.lines x) ∙ ap (λ (o : List ℕ). o ++ x) (sym p.is) ∙ e ∙ ap (λ (o : List ℕ). o ++ y) q.is ∙ chunked_regrouped q.front q.last_size q.lines y in
    let fronts = one_joined Chunk one_chunk p.front q.front _ _ p.chunks q.chunks p.are_chunks q.are_chunks
    (last_begins_none p.last_size _ p.is_size p.is_last) (last_begins_none q.last_size _ q.is_size q.is_last) whole in
    let behind = same_rest p.front q.front _ _ fronts.0 whole in
    let lasts = one_run is_hex_digit p.last_size q.last_size 13 13 _ _ (run_of_some is_hex_digit p.last_size p.is_size) (run_of_some is_hex_digit q.last_size q.is_size) refl refl behind in
    let section : p.lines ++ 13 ∷ (10 ∷ x) ≡ q.lines ++ 13 ∷ (10 ∷ y) = cc (lasts.1) in
    let lines = one_joined Line one_line p.lines q.lines _ _ v w p.are_lines q.are_lines (end_begins_none _) (end_begins_none _) section in
    let ends : ◌≡◌ {A = List ℕ} (13 ∷ (10 ∷ x)) (13 ∷ (10 ∷ y)) = same_rest p.lines q.lines _ _ lines.0 section in
    let rests : x ≡ y = cc (ends) in
    (append_cancel_right s t x (e ∙ ap (λ (o : List ℕ). t ++ o) (sym rests)), p.is_body ∙ ap concat fronts.1 ∙ sym q.is_body, lines.1)

pub one_counted : (digits : List ℕ) → IsPrefixFree (Counted digits)
one_counted digits s t x y b c p q e =
    let lengths : length b ≡ length c = p.has_length ∙ sym q.has_length in
    let behind : b ++ x ≡ c ++ y = ap (λ (o : List ℕ). o ++ x) (sym p.is) ∙ e ∙ ap (λ (o : List ℕ). o ++ y) q.is in
    let same = same_front b c x y lengths behind in
    (p.is ∙ same ∙ sym q.is, same)

pub one_framed : (lengths codings : List (List ℕ)) → EndsOnce (Framed lengths codings)
one_framed [] [] s t x y b c v w p q e = (p.0 ∙ sym q.0, p.1 ∙ sym q.1, p.2 ∙ sym q.2)
one_framed [] (coding ∷ []) s t x y b c v w p q e = one_chunked s t x y b c v w p.1 q.1 e
one_framed [] (coding ∷ other ∷ codings) s t x y b c v w p q e = absurd p
one_framed (digits ∷ []) [] s t x y b c v w p q e = let one = one_counted digits s t x y b c p.0 q.0 e in (one.0, one.1, p.1 ∙ sym q.1)
one_framed (digits ∷ []) (coding ∷ codings) s t x y b c v w p q e = absurd p
one_framed (digits ∷ other ∷ lengths) [] s t x y b c v w p q e = absurd p
one_framed (digits ∷ other ∷ lengths) (coding ∷ codings) s t x y b c v w p q e = absurd p
