-- Octets, and texts, which are lists of them. What a list begins with is a front of it: nothing, a part, or all.
use Rattle.std.specs.Prelude.{◌≡◌, ℕ, ◌+◌, Bool, true, false, not, ◌&&◌, ◌||◌, ◌==◌, nat_le, if◌then◌else◌, List, [], ◌∷◌, ◌++◌, map, reverse, codes}
use Rattle.std.specs.List.{list_all, list_any}

pub record IsFront (front text : List ℕ) : Type 0 where
  pub rest : List ℕ
  pub is : text ≡ front ++ rest

-- A front that is not the whole.
pub record IsStrictFront (front text : List ℕ) : Type 0 where
  pub next : ℕ
  pub rest : List ℕ
  pub is : text ≡ front ++ next ∷ rest

abbrev pub is_between : ℕ → ℕ → ℕ → Bool
is_between low high octet = nat_le low octet && nat_le octet high

-- ASCII letters in lower case, every other octet as it is (RFC 9110, section 5.1: names are read without case).
abbrev pub lower_octet : ℕ → ℕ
lower_octet octet = if is_between 65 90 octet then octet + 32 else octet

abbrev pub lower : List ℕ → List ℕ
lower text = map lower_octet text

abbrev pub is_empty : List ℕ → Bool
is_empty [] = true
is_empty (octet ∷ octets) = false

-- whether a text begins with this octet
abbrev pub begins_with : ℕ → List ℕ → Bool
begins_with octet [] = false
begins_with octet (first ∷ octets) = octet == first

-- Each octet passes the test, and there is one or more.
abbrev pub some_of : (ℕ → Bool) → List ℕ → Bool
some_of test [] = false
some_of test (octet ∷ octets) = test octet && list_all test octets

-- A digit.
abbrev pub is_digit : ℕ → Bool
is_digit octet = is_between 48 57 octet

-- A digit of a number in base sixteen, in either case.
abbrev pub is_hex_digit : ℕ → Bool
is_hex_digit octet = is_digit octet || is_between 65 70 octet || is_between 97 102 octet

-- An octet of a token: a digit, a letter or one of these (RFC 9110, section 5.6.2).
abbrev pub is_token_octet : ℕ → Bool
is_token_octet octet =
    is_digit octet || is_between 65 90 octet || is_between 97 122 octet
    || list_any (λ mark. mark == octet) (codes "!#$%&'*+-.^_`|~")

-- A visible octet of ASCII: what a request's target is made of, as it is read here.
abbrev pub is_visible : ℕ → Bool
is_visible octet = is_between 33 126 octet

-- A space or a tab (RFC 9110, section 5.6.3).
abbrev pub is_space : ℕ → Bool
is_space octet = octet == 32 || octet == 9

-- An octet of a field's value: a tab, a space, a visible one or one past ASCII (RFC 9110, section 5.5).
abbrev pub is_value_octet : ℕ → Bool
is_value_octet octet = octet == 9 || is_between 32 126 octet || is_between 128 255 octet

abbrev pub begins_with_space : List ℕ → Bool
begins_with_space [] = false
begins_with_space (octet ∷ octets) = is_space octet

abbrev pub ends_with_space : List ℕ → Bool
ends_with_space text = begins_with_space (reverse text)

-- A field's value: such octets, perhaps none, with no space or tab at either end (RFC 9110, section 5.5).
abbrev pub is_value : List ℕ → Bool
is_value text = list_all is_value_octet text && not (begins_with_space text) && not (ends_with_space text)

-- The text is the texts of these things, one after another; a relation says which texts a thing has.
abbrev pub Joined : {A : Type 0} → (List ℕ → A → Type 0) → List ℕ → List A → Type 0
Joined Reads text [] = text ≡ []
Joined Reads text (item ∷ items) =
    (first : List ℕ) × (more : List ℕ) × Reads first item × (text ≡ first ++ more) × Joined Reads more items
