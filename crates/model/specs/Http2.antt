-- The request that a stream of HTTP/2 means (RFC 9113, section 8), by its items, the oldest first.
use Rattle.std.specs.Prelude.{◌≡◌, ℕ, ◌≤◌, Bool, true, false, not, ◌&&◌, ◌||◌, ◌==◌, nat_le, if◌then◌else◌, List, []}
use Rattle.std.specs.Prelude.{◌∷◌, ◌++◌, length, filter, codes, bytes_eq, Option, Some, None}
use Rattle.std.specs.List.{list_all, list_any}
use Rattle.std.specs.Str.Parse.{digits_value}
use Rattle.model.specs.Octets.{IsFront, is_empty, some_of, is_between, is_digit, is_token_octet, is_visible, is_value, lower, begins_with}
use Rattle.model.specs.Messages.{Field, Request, Item, ends_with}
use Rattle.model.specs.Messages.Item.{Block, Content}
use Rattle.model.specs.Http1.{values_of, without}

-- ---- the parts of a head

-- the first of some texts, and nothing where there is none
abbrev pub first_of : List (List ℕ) → List ℕ
first_of [] = []
first_of (text ∷ texts) = text

-- A pseudo-field's name begins with a colon (section 8.3).
abbrev pub is_pseudo : Field → Bool
is_pseudo field = begins_with 58 field.name

abbrev pub pseudo_fields : List Field → List Field
pseudo_fields fields = filter is_pseudo fields

abbrev pub regular_fields : List Field → List Field
regular_fields fields = filter (λ field. not (is_pseudo field)) fields

abbrev pub method_of : List Field → List ℕ
method_of head = first_of (values_of (codes ":method") head)

abbrev pub path_of : List Field → List ℕ
path_of head = first_of (values_of (codes ":path") head)

-- all that a head says of its authority (section 8.3.1): the pseudo-field, then the host field
abbrev pub authorities_of : List Field → List (List ℕ)
authorities_of head = values_of (codes ":authority") head ++ values_of (codes "host") head

-- the authority is the pseudo-field's, else the host field's
abbrev pub authority_of : List Field → List ℕ
authority_of head = first_of (authorities_of head)

abbrev pub is_connect : List Field → Bool
is_connect head = bytes_eq (method_of head) (codes "CONNECT")

-- the number of octets that a content-length field promises, if there is one
abbrev pub promised : List (List ℕ) → Option ℕ
promised [] = None
promised (digits ∷ more) = Some (digits_value 10 digits)

abbrev pub declared_length : List Field → Option ℕ
declared_length head = promised (values_of (codes "content-length") head)

-- ---- the rules of a head

-- so many fields have this name
abbrev pub Has : ℕ → List ℕ → List Field → Type 0
Has count name fields = length (values_of name fields) ≡ count

-- The pseudo-fields of a request (section 8.3.1).
abbrev pub known_names : List (List ℕ)
known_names = codes ":method" ∷ codes ":scheme" ∷ codes ":path" ∷ codes ":authority" ∷ []

-- Pseudo-fields stand first and each is a known one (section 8.3). None is there twice. Method, scheme and path are there
-- (section 8.3.1); with the method CONNECT the authority is there, and scheme and path are not (section 8.5).
pub record PseudoFieldsHold (head : List Field) : Type 0 where
  pub first : head ≡ pseudo_fields head ++ regular_fields head
  pub known : without known_names (pseudo_fields head) ≡ []
  pub method : Has 1 (codes ":method") head
  pub scheme : Has (if is_connect head then 0 else 1) (codes ":scheme") head
  pub path : Has (if is_connect head then 0 else 1) (codes ":path") head
  pub one_authority : length (values_of (codes ":authority") head) ≤ 1
  pub connect_authority : is_connect head ≡ true → Has 1 (codes ":authority") head

-- a token's octet that is no upper-case letter (section 8.2.1)
abbrev pub is_name_octet : ℕ → Bool
is_name_octet octet = is_token_octet octet && not (is_between 65 90 octet)

-- The names of the other fields are tokens without upper-case letters (section 8.2.1).
abbrev pub NamesHold : List Field → Type 0
NamesHold fields = list_all (λ field. some_of is_name_octet field.name) (regular_fields fields) ≡ true

-- Each field's value is one that a field can have (section 8.2.1).
abbrev pub ValuesHold : List Field → Type 0
ValuesHold fields = list_all (λ field. is_value field.value) fields ≡ true

-- No field speaks of the connection (section 8.2.2).
abbrev pub connection_names : List (List ℕ)
connection_names =
    codes "connection" ∷ codes "proxy-connection" ∷ codes "keep-alive" ∷ codes "transfer-encoding" ∷ codes "upgrade" ∷ []

abbrev pub HasNoConnectionField : List Field → Type 0
HasNoConnectionField fields = without connection_names fields ≡ fields

-- A te field has the value trailers alone (section 8.2.2).
abbrev pub TeHolds : List Field → Type 0
TeHolds head = list_all (λ value. bytes_eq value (codes "trailers")) (values_of (codes "te") head) ≡ true

-- The method is a token (RFC 9110, section 9.1).
abbrev pub MethodHolds : List Field → Type 0
MethodHolds head = some_of is_token_octet (method_of head) ≡ true

-- A scheme is http or https.
abbrev pub SchemeHolds : List Field → Type 0
SchemeHolds head =
    list_all (λ scheme. bytes_eq scheme (codes "http") || bytes_eq scheme (codes "https")) (values_of (codes ":scheme") head) ≡ true

-- a path's visible octets begin with '/', or with the method OPTIONS it is '*' (section 8.3.1)
abbrev pub is_path_for : List ℕ → List ℕ → Bool
is_path_for method path =
    list_all is_visible path && begins_with 47 path || bytes_eq path (codes "*") && bytes_eq method (codes "OPTIONS")

abbrev pub PathHolds : List Field → Type 0
PathHolds head = list_all (is_path_for (method_of head)) (values_of (codes ":path") head) ≡ true

-- a visible octet that ends no authority and parts no user from a host
abbrev pub is_authority_octet : ℕ → Bool
is_authority_octet octet = is_visible octet && not (list_any (λ mark. mark == octet) (codes "/?#@\\"))

-- There is at most one host field, an authority is there, its octets are such, and where both are there they say one, case
-- aside (section 8.3.1).
pub record AuthorityHolds (head : List Field) : Type 0 where
  pub one_host : length (values_of (codes "host") head) ≤ 1
  pub octets : some_of is_authority_octet (authority_of head) ≡ true
  pub same : list_all (λ other. bytes_eq (lower other) (lower (authority_of head))) (authorities_of head) ≡ true

-- There is at most one content-length field, of 1 to 18 digits.
pub record LengthFieldHolds (head : List Field) : Type 0 where
  pub one : length (values_of (codes "content-length") head) ≤ 1
  pub digits : list_all (λ value. some_of is_digit value && nat_le (length value) 18) (values_of (codes "content-length") head) ≡ true

-- A header block that may begin a request.
pub record WellFormedHead (head : List Field) : Type 0 where
  pub pseudo_fields_hold : PseudoFieldsHold head
  pub names_hold : NamesHold head
  pub values_hold : ValuesHold head
  pub no_connection_field : HasNoConnectionField head
  pub te_holds : TeHolds head
  pub method_holds : MethodHolds head
  pub scheme_holds : SchemeHolds head
  pub path_holds : PathHolds head
  pub authority_holds : AuthorityHolds head
  pub length_holds : LengthFieldHolds head

-- A block that may end a request: no pseudo-field (section 8.1), and the same rules for names, values and fields of a connection.
pub record WellFormedTrailers (trailers : List Field) : Type 0 where
  pub no_pseudo_field : pseudo_fields trailers ≡ []
  pub names_hold : NamesHold trailers
  pub values_hold : ValuesHold trailers
  pub no_connection_field : HasNoConnectionField trailers

-- ---- the trailers that are sent on

-- The names of fields that no trailers pass on (RFC 9110, section 6.5.1): those that say how a message is sent or framed, that are acted
-- on before its body is read, or that say who asks.
abbrev pub names_not_in_trailers : List (List ℕ)
names_not_in_trailers =
    codes "host" ∷ codes "content-length" ∷ codes "te" ∷ codes "trailer" ∷ codes "expect" ∷ codes "cookie" ∷ codes "set-cookie"
    ∷ codes "authorization" ∷ []

-- the trailers that may be passed on
abbrev pub passed_trailers : List Field → List Field
passed_trailers trailers = without names_not_in_trailers trailers

-- the trailers of a request, by the length that its head declares: beside one none are sent, since they stand behind chunks alone (RFC
-- 9112, section 7.1.2)
abbrev pub trailers_beside : Option ℕ → List Field → List Field
trailers_beside None trailers = trailers
trailers_beside (Some declared) trailers = []

-- ---- the fields that are sent on

-- texts with a separator between each two
abbrev pub joined_by : List ℕ → List (List ℕ) → List ℕ
joined_by separator [] = []
joined_by separator (text ∷ []) = text
joined_by separator (text ∷ next ∷ texts) = text ++ separator ++ joined_by separator (next ∷ texts)

abbrev pub is_cookie : Field → Bool
is_cookie field = bytes_eq field.name (codes "cookie")

abbrev pub is_empty_cookie : Field → Bool
is_empty_cookie field = is_cookie field && is_empty field.value

-- one cookie field, at the place of the first, for all that there are (section 8.2.3)
abbrev pub with_one_cookie : List Field → List Field
with_one_cookie [] = []
with_one_cookie (field ∷ fields) =
    if is_cookie field
    then record { name = codes "cookie"; value = joined_by (codes "; ") (values_of (codes "cookie") (field ∷ fields)) } ∷ without (codes "cookie" ∷ []) fields
    else field ∷ with_one_cookie fields

-- The fields of a head that the request has beside its other parts: none that says where it goes or how it is sent, and
-- no empty cookie.
abbrev pub fields_of : List Field → List Field
fields_of head =
    with_one_cookie (filter (λ field. not (is_empty_cookie field)) (without (codes "host" ∷ codes "te" ∷ codes "content-length" ∷ []) (regular_fields head)))

-- the request of a head, a body and trailers
abbrev pub request_of : List Field → List ℕ → List Field → Request
request_of head body trailers = record {
  method = method_of head;
  target = path_of head;
  authority = authority_of head;
  fields = fields_of head;
  body = body;
  trailers = trailers_beside (declared_length head) (passed_trailers trailers);
}

-- ---- streams

-- The first item is a header block with these fields.
abbrev pub HasHead : List Item → List Field → Type 0
HasHead (Block fields ends ∷ items) head = fields ≡ head
HasHead _ head = ⊥

-- the octets of the contents, joined
abbrev pub body_of : List Item → List ℕ
body_of [] = []
body_of (Content octets ends ∷ items) = octets ++ body_of items
body_of (Block fields ends ∷ items) = body_of items

-- the fields of the first block among these items
abbrev pub first_block : List Item → List Field
first_block [] = []
first_block (Content octets ends ∷ items) = first_block items
first_block (Block fields ends ∷ items) = fields

-- the trailers of a stream: the fields of the block behind its head, if there is one
abbrev pub trailers_of : List Item → List Field
trailers_of [] = []
trailers_of (head ∷ items) = first_block items

-- The last item ends the stream, and no earlier one does.
abbrev pub EndsWithLast : List Item → Type 0
EndsWithLast [] = ⊥
EndsWithLast (item ∷ []) = ends_with item ≡ true
EndsWithLast (item ∷ next ∷ items) = (ends_with item ≡ false) × EndsWithLast (next ∷ items)

-- Behind the head stand contents, and behind them perhaps one block of trailers.
abbrev pub AreContents : List Item → Type 0
AreContents [] = Unit {0}
AreContents (Content octets ends ∷ items) = AreContents items
AreContents (Block fields ends ∷ items) = WellFormedTrailers fields × (items ≡ [])

abbrev pub HasContents : List Item → Type 0
HasContents [] = ⊥
HasContents (head ∷ items) = AreContents items

-- A body is as long as its head declares, where it does (section 8.1.1).
abbrev pub HasLength : Option ℕ → List ℕ → Type 0
HasLength None body = Unit {0}
HasLength (Some declared) body = length body ≡ declared

-- The items of a stream are a request (section 8.1): a head, contents, perhaps trailers, and the stream's end. CONNECT is
-- no request here.
pub record H2Request (items : List Item) (request : Request) : Type 0 where
  pub head : List Field
  pub has_head : HasHead items head
  pub well_formed : WellFormedHead head
  pub no_connect : is_connect head ≡ false
  pub contents : HasContents items
  pub ends : EndsWithLast items
  pub length_holds : HasLength (declared_length head) (body_of items)
  pub is : request ≡ request_of head (body_of items) (trailers_of items)

-- The request is one that these items may still become, or are: it has their head, a body that begins with their octets, the
-- declared length, and any trailers that may end a request. Whether they ended isn't asked.
pub record MayBecome (items : List Item) (request : Request) : Type 0 where
  pub head : List Field
  pub has_head : HasHead items head
  pub begun : IsFront (body_of items) request.body
  pub length_holds : HasLength (declared_length head) request.body
  pub trailers : List Field
  pub well_formed : WellFormedTrailers trailers
  pub is : request ≡ request_of head request.body trailers
