-- Lines and chunks as they are put together.
use Rattle.std.proofs.Common.{Option, ◌≡◌, ℕ, Bool, List, [], ◌∷◌, ◌++◌, decimal, Some, refl, sym, ap, ◌∙◌, append_assoc}
use Rattle.std.specs.Prelude.{codes}
use Rattle.std.proofs.lemmas.List.{append-nil}
use Rattle.std.proofs.lemmas.List.Concat.{flat_map-append}
use Rattle.model.specs.Messages.{Field}
use Rattle.model.specs.Http1.{crlf, via}
use Rattle.request_rules.specs.Heads.{HeadParts}
use Rattle.h1_writer.specs.Sending.{head_of}
use Rattle.model.specs.Http1Text.{line_text, lines_text, framing_of, closing}

four_parts : (old a b c d : List ℕ) → ((old ++ (a ++ b)) ++ c) ++ d ≡ old ++ ((((a ++ b) ++ c) ++ d) ++ [])
four_parts old a b c d = simp (append_assoc, append-nil)

pub length_line : (old : List ℕ) (n : ℕ) (ended : Bool) → ((old ++ codes "content-length: ") ++ decimal n) ++ codes "\r\n" ≡ old ++ lines_text (framing_of (Some n) ended)
length_line old n ended = four_parts old (codes "content-length") (codes ": ") (decimal n) (codes "\r\n")

eleven_parts : (old m s p v w h f a g c e : List ℕ)
    → (((((((((old ++ m) ++ s) ++ p) ++ (v ++ w)) ++ h) ++ f) ++ a) ++ g) ++ c) ++ e ≡ old ++ (m ++ s ++ p ++ v ++ w ++ ((h ++ (f ++ (a ++ g))) ++ c) ++ e)
eleven_parts old m s p v w h f a g c e = simp (append_assoc, append-nil)

abbrev host : List ℕ → Field
host authority = record { name = codes "host"; value = authority }

lines_joined : (keep : Bool) (authority : List ℕ) (fields framing : List Field)
    → line_text (host authority) ++ (lines_text fields ++ (line_text via ++ lines_text framing)) ++ lines_text (closing keep) ≡ lines_text (host authority ∷ fields ++ via ∷ framing ++ closing keep)
lines_joined keep authority fields framing =
    sym (flat_map-append line_text (host authority ∷ fields ++ via ∷ framing) (closing keep)
    ∙ ap (λ (front : List ℕ). front ++ lines_text (closing keep)) (flat_map-append line_text (host authority ∷ fields) (via ∷ framing) ∙ append_assoc (line_text (host authority)) (lines_text fields) (line_text via ++ lines_text framing)))

pub head_built : (keep : Bool) (parts : HeadParts) (ended : Bool) (old : List ℕ)
    → (((((((((old ++ parts.method) ++ codes " ") ++ parts.path) ++ codes " HTTP/1.1\r\n") ++ line_text (host parts.authority)) ++ lines_text parts.fields) ++ line_text via)
    ++ lines_text (framing_of parts.length ended)) ++ lines_text (closing keep)) ++ codes "\r\n" ≡ old ++ head_of keep parts ended
head_built keep parts ended old =
    eleven_parts old parts.method (codes " ") parts.path (codes " HTTP/1.1") crlf (line_text (host parts.authority)) (lines_text parts.fields) (line_text via) (lines_text (framing_of parts.length ended)) (lines_text (closing keep)) crlf
    ∙ ap (λ (lines : List ℕ). old ++ (parts.method ++ codes " " ++ parts.path ++ codes " HTTP/1.1" ++ crlf ++ lines ++ crlf)) (lines_joined keep parts.authority parts.fields (framing_of parts.length ended))

add : (new old front more : List ℕ) → new ≡ old ++ more → old ≡ front → new ≡ front ++ more
add new old front more e f = e ∙ ap (λ (t : List ℕ). t ++ more) f

add_other : (new old front more other : List ℕ) → new ≡ old ++ more → more ≡ other → old ≡ front → new ≡ front ++ other
add_other new old front more other e o f = e ∙ ap (λ (t : List ℕ). t ++ more) f ∙ ap (λ (t : List ℕ). front ++ t) o

pub head_steps : (keep : Bool) (parts : HeadParts) (ended : Bool) (o0 o1 o2 o3 o4 o5 o6 o7 o8 o9 o10 m p a : List ℕ) (fields : List Field) (declared : Option ℕ)
    → m ≡ parts.method → p ≡ parts.path → a ≡ parts.authority → fields ≡ parts.fields → declared ≡ parts.length
    → o1 ≡ o0 ++ m → o2 ≡ o1 ++ codes " " → o3 ≡ o2 ++ p → o4 ≡ o3 ++ codes " HTTP/1.1\r\n" → o5 ≡ o4 ++ line_text (host a) → o6 ≡ o5 ++ lines_text fields
    → o7 ≡ o6 ++ line_text via → o8 ≡ o7 ++ lines_text (framing_of declared ended) → o9 ≡ o8 ++ lines_text (closing keep) → o10 ≡ o9 ++ codes "\r\n" → o10 ≡ o0 ++ head_of keep parts ended
head_steps keep parts ended o0 o1 o2 o3 o4 o5 o6 o7 o8 o9 o10 m p a fields declared em ep ea ef ed e1 e2 e3 e4 e5 e6 e7 e8 e9 e10 =
    let host_line : line_text (host a) ≡ line_text (host parts.authority) = ap (λ (t : List ℕ). line_text (host t)) ea in
    let lines : lines_text fields ≡ lines_text parts.fields = ap lines_text ef in
    let framing : lines_text (framing_of declared ended) ≡ lines_text (framing_of parts.length ended) = ap (λ (d : Option ℕ). lines_text (framing_of d ended)) ed in
    add o10 o9 _ (codes "\r\n") e10 (add o9 o8 _ (lines_text (closing keep)) e9 (add_other o8 o7 _ (lines_text (framing_of declared ended)) _ e8 framing
    (add o7 o6 _ (line_text via) e7 (add_other o6 o5 _ (lines_text fields) _ e6 lines (add_other o5 o4 _ (line_text (host a)) _ e5 host_line
    (add o4 o3 _ (codes " HTTP/1.1\r\n") e4 (add_other o3 o2 _ p _ e3 ep (add o2 o1 _ (codes " ") e2 (add_other o1 o0 _ m _ e1 em refl)))))))))
    ∙ head_built keep parts ended o0
