-- A request's text begins with HEAD and a space just where that is its method.
use Rattle.std.proofs.Common.{◌≡◌, ℕ, ◌+◌, ◌≤◌, Bool, true, false, ◌&&◌, ◌==◌, List, [], ◌∷◌, ◌++◌, codes, length, refl, sym, ◌∙◌, ap, append_assoc, length-append, inl, inr, arith}
use Rattle.std.specs.Prelude.{bytes_eq}
use Rattle.std.specs.List.{list_all, concat, flat_map}
use Rattle.std.proofs.lemmas.Bool.{and_parts}
use Rattle.std.proofs.lemmas.Bool.Decides.{eqb_tells}
use Rattle.model.specs.Octets.{some_of, is_token_octet}
use Rattle.model.specs.Messages.{Field}
use Rattle.model.specs.Http1Text.{framing_of, lines_text, written_fields, content_of, chunk_text}
use Rattle.model.specs.Http1.{crlf}
use Rattle.model.specs.Http2.{method_of, path_of}
use Rattle.model.specs.Causes.{is_front_of}
use Rattle.request_rules.specs.Heads.{parts_of, request_with}
use Rattle.h1_writer.specs.Sending.{Stage, Sending, head_of}
use Rattle.h1_writer.specs.Sending.Stage.{Whole, Counting, Holding, Chunking}

-- a space is no octet of a token
no_space : (octet : ℕ) → is_token_octet octet ≡ true → (octet == 32) ≡ false
no_space octet is = elim (eqb_tells octet 32) [
  | inl same ↦ absurd (let no : true ≡ false = sym is ∙ ap is_token_octet same.1 in cc)
  | inr other ↦ other.0
]

-- a word before a space is a front of a text that begins with a token and a space just where it is that token
front_is : (word method rest : List ℕ) → list_all is_token_octet word ≡ true → list_all is_token_octet method ≡ true → is_front_of (word ++ 32 ∷ []) (method ++ 32 ∷ rest) ≡ bytes_eq method word
front_is [] [] rest token method = refl
front_is [] (m ∷ ms) rest token method = ap (λ b. b && true) (flipped m (no_space m (and_parts (is_token_octet m) (list_all is_token_octet ms) method).0))
  where
    flipped : (m : ℕ) → (m == 32) ≡ false → (32 == m) ≡ false
    flipped m apart = elim (eqb_tells 32 m) [
      | inl same ↦ absurd (let no : true ≡ false = ap (λ n. n == 32) same.1 ∙ apart in cc)
      | inr other ↦ other.0
    ]
front_is (w ∷ ws) [] rest token method = ap (λ b. b && is_front_of (ws ++ 32 ∷ []) rest) (no_space w (and_parts (is_token_octet w) (list_all is_token_octet ws) token).0)
front_is (w ∷ ws) (m ∷ ms) rest token method =
    ap (λ b. b && is_front_of (ws ++ 32 ∷ []) (ms ++ 32 ∷ rest)) (turned w m)
    ∙ ap (λ b. (m == w) && b) (front_is ws ms rest (and_parts (is_token_octet w) (list_all is_token_octet ws) token).1 (and_parts (is_token_octet m) (list_all is_token_octet ms) method).1)
  where
    turned : (a b : ℕ) → (a == b) ≡ (b == a)
    turned a b = elim (eqb_tells a b) [
      | inl same ↦ elim (eqb_tells b a) [ inl s ↦ same.0 ∙ sym s.0 | inr o ↦ absurd (o.1 (sym same.1)) ]
      | inr other ↦ elim (eqb_tells b a) [ inl s ↦ absurd (other.1 (sym s.1)) | inr o ↦ other.0 ∙ sym o.0 ]
    ]

all_of : (xs : List ℕ) → some_of is_token_octet xs ≡ true → list_all is_token_octet xs ≡ true
all_of [] some = let no : false ≡ true = some in cc
all_of (x ∷ xs) some = some

-- a text that is long enough begins with a word just where it does with more behind it
front_longer : (word text more : List ℕ) → length word ≤ length text → is_front_of word (text ++ more) ≡ is_front_of word text
front_longer [] text more long = refl
front_longer (w ∷ ws) [] more long = absurd (omega (arith, long))
front_longer (w ∷ ws) (x ∷ text) more long = ap (λ b. (w == x) && b) (front_longer ws text more (omega (arith, long)))

-- A text goes on behind a method and a space, with some octets.
record GoesOnBehind (method text : List ℕ) : Type 0 where
  pub rest : List ℕ
  pub is : text ≡ method ++ 32 ∷ rest
  pub long : 6 ≤ length rest

and_more : (method text more : List ℕ) → GoesOnBehind method text → GoesOnBehind method (text ++ more)
and_more method text more g = record {
  rest = g.rest ++ more;
  is = ap (λ x. x ++ more) g.is ∙ append_assoc method (32 ∷ g.rest) more;
  long = (let low = g.long in omega (arith, low, length-append g.rest more));
}

-- a request's line does
line_goes : (method path : List ℕ) → GoesOnBehind method (((method ++ 32 ∷ []) ++ path) ++ codes " HTTP/1.1")
line_goes method path = record {
  rest = path ++ codes " HTTP/1.1";
  is = append_assoc (method ++ 32 ∷ []) path (codes " HTTP/1.1") ∙ append_assoc method (32 ∷ []) (path ++ codes " HTTP/1.1");
  long = (let nine : length (codes " HTTP/1.1") ≡ 9 = refl in omega (arith, nine, length-append path (codes " HTTP/1.1")));
}

module _ (keep : Bool) (head : List Field) (token : some_of is_token_octet (method_of head) ≡ true) where
  -- a head's text does, whatever comes behind it
  head_goes : (ended : Bool) (more : List ℕ) → GoesOnBehind (method_of head) (head_of keep (parts_of head) ended ++ more)
  head_goes ended more =
      and_more (method_of head) _ more
      (and_more (method_of head) _ crlf
      (and_more (method_of head) _ (lines_text (written_fields keep (request_with (parts_of head) [] []) (framing_of (parts_of head).length ended)))
      (and_more (method_of head) _ crlf (line_goes (method_of head) (path_of head)))))

  asks : (ended : Bool) (more : List ℕ) → is_front_of (codes "HEAD ") (head_of keep (parts_of head) ended ++ more) ≡ bytes_eq (method_of head) (codes "HEAD")
  asks ended more =
      let g = head_goes ended more in
      ap (λ x. is_front_of (codes "HEAD ") x) g.is ∙ front_is (codes "HEAD") (method_of head) g.rest refl (all_of (method_of head) token)

  -- A request's text begins with HEAD and a space just where its method is HEAD, whether it is whole or not.
  pub asked_is : (ended : Bool) (text : List ℕ) (pieces : List (List ℕ)) (trailers : List Field) (stage : Stage) → Sending keep (parts_of head) ended text pieces trailers stage → is_front_of (codes "HEAD ") text ≡ bytes_eq (method_of head) (codes "HEAD")
  asked_is ended text pieces trailers Whole sent = ap (λ x. is_front_of (codes "HEAD ") x) sent.is ∙ asks ended (content_of (parts_of head).length ended pieces trailers)
  asked_is ended text pieces trailers (Counting left) sent = ap (λ x. is_front_of (codes "HEAD ") x) sent.is ∙ asks false (concat pieces)
  asked_is ended text pieces trailers Chunking sent = ap (λ x. is_front_of (codes "HEAD ") x) sent.is ∙ asks false (flat_map chunk_text pieces)
  asked_is ended text pieces trailers (Holding octet) sent =
      let g = head_goes false (concat pieces) in
      let five : length (codes "HEAD ") ≡ 5 = refl in
      let low = g.long in
      let same : length text + 1 ≡ length (method_of head) + length (32 ∷ g.rest) = sym (length-append text (octet ∷ [])) ∙ ap length (sent.is ∙ g.is) ∙ length-append (method_of head) (32 ∷ g.rest) in
      let long : length (codes "HEAD ") ≤ length text = omega (arith, five, low, same) in
      sym (front_longer (codes "HEAD ") text (octet ∷ []) long) ∙ ap (λ x. is_front_of (codes "HEAD ") x) sent.is ∙ asks false (concat pieces)
