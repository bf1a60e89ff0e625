-- When the items of a stream are no request, as a test (RFC 9113, sections 8.1 to 8.3). These are
-- the rules of `Http2` again. They are proved equal (law `malformed_tests`), so whoever has read
-- `Http2` can skip this file.
use Rattle.std.specs.Prelude.{ℕ, ◌+◌, Bool, true, false, not, ◌&&◌, ◌||◌, ◌==◌, nat_le, if◌then◌else◌, List, [], ◌∷◌}
use Rattle.std.specs.Prelude.{length, codes, bytes_eq, Option, Some, None}
use Rattle.std.specs.List.{list_all, list_any}
use Rattle.model.specs.Octets.{some_of, is_digit, is_token_octet, lower, is_value}
use Rattle.model.specs.Messages.{Field, Item}
use Rattle.model.specs.Messages.Item.{Block}
use Rattle.model.specs.Http1.{values_of, without}
use Rattle.model.specs.Http2.{is_pseudo, pseudo_fields, regular_fields, method_of, authorities_of, authority_of}
use Rattle.model.specs.Http2.{is_connect, declared_length, known_names, is_name_octet, connection_names, is_path_for}
use Rattle.model.specs.Http2.{is_authority_octet, body_of}

-- ---- the rules of a head and of trailers

-- all these tests pass
abbrev pub all_hold : List Bool → Bool
all_hold tests = list_all (λ holds. holds) tests

abbrev pub is_none_left : List Field → Bool
is_none_left [] = true
is_none_left (field ∷ fields) = false

-- so many fields have this name
abbrev pub has : ℕ → List ℕ → List Field → Bool
has count name fields = length (values_of name fields) == count

-- pseudo-fields stand before all others
abbrev pub are_pseudo_first : List Field → Bool
are_pseudo_first [] = true
are_pseudo_first (field ∷ fields) = if is_pseudo field then are_pseudo_first fields else is_none_left (pseudo_fields fields)

abbrev pub are_pseudo_fields : List Field → Bool
are_pseudo_fields head =
    all_hold (
    are_pseudo_first head
    ∷ is_none_left (without known_names (pseudo_fields head))
    ∷ has 1 (codes ":method") head
    ∷ has (if is_connect head then 0 else 1) (codes ":scheme") head
    ∷ has (if is_connect head then 0 else 1) (codes ":path") head
    ∷ nat_le (length (values_of (codes ":authority") head)) 1
    ∷ (not (is_connect head) || has 1 (codes ":authority") head)
    ∷ []
    )

abbrev pub are_names : List Field → Bool
are_names fields = list_all (λ field. some_of is_name_octet field.name) (regular_fields fields)

abbrev pub are_values : List Field → Bool
are_values fields = list_all (λ field. is_value field.value) fields

-- no field has one of these names
abbrev pub has_none_of : List (List ℕ) → List Field → Bool
has_none_of names fields = list_all (λ field. not (list_any (bytes_eq field.name) names)) fields

abbrev pub are_te : List Field → Bool
are_te head = list_all (λ value. bytes_eq value (codes "trailers")) (values_of (codes "te") head)

abbrev pub is_scheme : List Field → Bool
is_scheme head = list_all (λ scheme. bytes_eq scheme (codes "http") || bytes_eq scheme (codes "https")) (values_of (codes ":scheme") head)

abbrev pub is_authority : List Field → Bool
is_authority head =
    all_hold (
    nat_le (length (values_of (codes "host") head)) 1
    ∷ some_of is_authority_octet (authority_of head)
    ∷ list_all (λ other. bytes_eq (lower other) (lower (authority_of head))) (authorities_of head)
    ∷ []
    )

abbrev pub is_length_field : List Field → Bool
is_length_field head =
    all_hold (
    nat_le (length (values_of (codes "content-length") head)) 1
    ∷ list_all (λ value. some_of is_digit value && nat_le (length value) 18) (values_of (codes "content-length") head)
    ∷ []
    )

-- a head that may begin a request, as `WellFormedHead` says it
abbrev pub is_well_formed : List Field → Bool
is_well_formed head =
    all_hold (
    are_pseudo_fields head
    ∷ are_names head
    ∷ are_values head
    ∷ has_none_of connection_names head
    ∷ are_te head
    ∷ some_of is_token_octet (method_of head)
    ∷ is_scheme head
    ∷ list_all (is_path_for (method_of head)) (values_of (codes ":path") head)
    ∷ is_authority head
    ∷ is_length_field head
    ∷ []
    )

-- trailers that may end one, as `WellFormedTrailers` says it
abbrev pub are_trailers : List Field → Bool
are_trailers fields = all_hold (is_none_left (pseudo_fields fields) ∷ are_names fields ∷ are_values fields ∷ has_none_of connection_names fields ∷ [])

-- ---- the declared length (section 8.1.1)

-- what the head of some items declares
abbrev pub declared : List Item → Option ℕ
declared (Block fields ends ∷ items) = declared_length fields
declared _ = None

-- so many octets are just what is declared, where something is
abbrev pub has_length : Option ℕ → ℕ → Bool
has_length None count = true
has_length (Some length) count = count == length

-- so many are not past it
abbrev pub is_within : Option ℕ → ℕ → Bool
is_within None count = true
is_within (Some length) count = nat_le count length

-- ---- what comes behind what a stream carried

-- What a stream carried so far, as far as it is looked at when more comes: whether its head came, the length that this declares, how
-- many octets of the body came, and whether the stream waits for a reply of the gateway's own.
pub record Carried : Type 0 where
  pub begun : Bool
  pub declared : Option ℕ
  pub octets : ℕ
  pub waits : Bool

abbrev pub is_begun : List Item → Bool
is_begun [] = false
is_begun (item ∷ items) = true

abbrev pub carried_by : List Item → Bool → Carried
carried_by items waits = record { begun = is_begun items; declared = declared items; octets = length (body_of items); waits = waits }

-- A header block: the first is the head, and one that ends the stream with it declares no body; any other is of trailers,
-- which end the stream, behind as many octets as were declared (section 8.1).
abbrev pub is_malformed_block : Carried → List Field → Bool → Bool
is_malformed_block carried fields ends =
    if carried.begun
    then not ends || not (are_trailers fields) || not (has_length carried.declared carried.octets)
    else not (is_well_formed fields) || ends && not (has_length (declared_length fields) 0)

-- Octets of the body, which go past what was declared, or end the stream short of it.
abbrev pub is_malformed_content : Carried → List ℕ → Bool → Bool
is_malformed_content carried octets ends =
    let count = carried.octets + length octets in
    not (is_within carried.declared count) || ends && not (has_length carried.declared count)
