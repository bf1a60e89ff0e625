-- When a text is spelled in the one way, and how another is told from it.
use Rattle.std.proofs.Common.{◌≡◌, ℕ, ◌+◌, ◌<◌, Bool, true, false, List, [], ◌∷◌, ◌++◌, refl, sym, ap, ◌∙◌, subst, append-nil, arith}
use Rattle.std.specs.Prelude.{zero, suc, ◌==◌, Option, None, if◌then◌else◌, nat_lt, map, not, get_or}
use Rattle.std.specs.List.{list_all}
use Rattle.std.specs.Int.Digits.{digits_of}
use Rattle.std.proofs.lemmas.Bool.{eq-eqb, false≢true}
use Rattle.std.proofs.lemmas.Int.Digits.{first_digits_of}
use Rattle.model.specs.Octets.{is_empty}
use Rattle.model.specs.Messages.{Field, Item}
use Rattle.model.specs.Messages.Item.{Block, Content}
use Rattle.model.specs.Http1Text.{framing_of, head_text, hex_digit, hex_size, content_of}
use Rattle.model.specs.Http2.{HasLength, declared_length, request_of}
use Rattle.model.specs.Spelling.{IsSpelling, IsSpelled}

-- ---- what is spelled so

-- a whole request without a body, whose head ended its stream
pub bare_spelled : (keep : Bool) (items : List Item) (head : List Field) (text : List ℕ) → items ≡ Block head true ∷ [] → declared_length head ≡ None → text ≡ head_text keep (request_of head [] []) [] → IsSpelled keep items text
bare_spelled keep items head text is none spelled = record {
  head = head;
  ended = true;
  more = [];
  is = is;
  whole = text;
  spelling = record {
    pieces = [];
    trailers = [];
    are_full = refl;
    has_length = subst (λ (d : Option ℕ). HasLength d []) (sym none) tt;
    is = subst (λ (d : Option ℕ). text ≡ head_text keep (request_of head [] []) (framing_of d true) ++ content_of d true [] []) (sym none)
        (spelled ∙ sym (append-nil (head_text keep (request_of head [] []) [])));
  };
  front = record { rest = []; is = sym (append-nil text) };
  to_the_end = λ request reads. refl;
}

-- ---- what isn't

-- the octet at a place, or 0
abbrev pub octet_at : ℕ → List ℕ → ℕ
octet_at n [] = 0
octet_at zero (octet ∷ octets) = octet
octet_at (suc n) (octet ∷ octets) = octet_at n octets

-- of two octets that aren't one
pub differ : (a b : ℕ) → (a == b) ≡ false → a ≡ b → ⊥
differ a b apart same = absurd (false≢true (sym apart ∙ eq-eqb a b same))

-- how the head that stands first among items is, and whether it ended its stream
abbrev first_fields : List Item → List Field
first_fields (Block fields ends ∷ items) = fields
first_fields items = []

abbrev first_ends : List Item → Bool
first_ends (Block fields ends ∷ items) = ends
first_ends items = false

-- A text that is spelled so begins like a whole one, whose head is that of the items.
pub record BeginsLike (keep : Bool) (head : List Field) (ended : Bool) (text : List ℕ) : Type 0 where
  pub pieces : List (List ℕ)
  pub trailers : List Field
  pub rest : List ℕ
  pub are_full : list_all (λ piece. not (is_empty piece)) pieces ≡ true
  pub is : text ++ rest ≡ head_text keep (request_of head [] []) (framing_of (declared_length head) ended) ++ content_of (declared_length head) ended pieces trailers

pub begins_like : (keep : Bool) (head : List Field) (ended : Bool) (more : List Item) (text : List ℕ) → IsSpelled keep (Block head ended ∷ more) text → BeginsLike keep head ended text
begins_like keep head ended more text s =
    let same_head : head ≡ s.head = ap first_fields s.is in
    let same_end : ended ≡ s.ended = ap first_ends s.is in
    let spelling : IsSpelling keep head ended s.whole =
    subst (λ (fields : List Field). IsSpelling keep fields ended s.whole) (sym same_head) (subst (λ (e : Bool). IsSpelling keep s.head e s.whole) (sym same_end) s.spelling) in
    record { pieces = spelling.pieces; trailers = spelling.trailers; rest = s.front.rest; are_full = spelling.are_full; is = sym s.front.is ∙ spelling.is }

-- ---- sizes of chunks

not_zero : (digit : ℕ) → 0 < digit → hex_digit digit ≡ 48 → ⊥
not_zero digit some = by (nat_lt digit 10)
  where
    by : (small : Bool) → (if small then 48 + digit else 87 + digit) ≡ 48 → ⊥
    by true e = omega (arith, e, some)
    by false e = omega (arith, e)

first_not_zero : (digits more : List ℕ) → 0 < get_or digits 0 0 → octet_at 0 (map hex_digit digits ++ more) ≡ 48 → ⊥
first_not_zero [] more some e = omega (arith, some)
first_not_zero (digit ∷ digits) more some e = not_zero digit some e

-- the text of a size doesn't begin with 0
pub size_not_zero : (size : ℕ) (more : List ℕ) → 0 < size → octet_at 0 (hex_size size ++ more) ≡ 48 → ⊥
size_not_zero size more some e = first_not_zero (digits_of 16 size) more (first_digits_of 16 size (omega arith) some) e
