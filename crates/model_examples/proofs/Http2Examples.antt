-- Streams that mean requests, and heads that break a rule.
use Rattle.std.proofs.Common.{◌≡◌, ℕ, ◌≤◌, true, false, List, [], ◌∷◌, ◌++◌, refl, sym, subst, arith}
use Rattle.std.specs.Prelude.{codes}
use Rattle.std.proofs.lemmas.Bool.{false≢true}
use Rattle.model.specs.Messages.{Field, Request}
use Rattle.model.specs.Messages.Item.{Block, Content}
use Rattle.model.specs.Http2.{is_connect, is_authority_octet, fields_of, PseudoFieldsHold, NamesHold, ValuesHold, HasNoConnectionField, TeHolds, SchemeHolds, PathHolds, AuthorityHolds, LengthFieldHolds, WellFormedHead, HasLength, declared_length, H2Request}

abbrev field : List ℕ → List ℕ → Field
field name value = record { name = name; value = value }

abbrev method_get : Field
method_get = field (codes ":method") (codes "GET")

abbrev scheme_http : Field
scheme_http = field (codes ":scheme") (codes "http")

abbrev path_root : Field
path_root = field (codes ":path") (codes "/")

abbrev authority_h : Field
authority_h = field (codes ":authority") (codes "h")

abbrev start : List Field
start = method_get ∷ scheme_http ∷ path_root ∷ authority_h ∷ []

-- cookies apart, one of them empty, a host in another case, a length
abbrev long_head : List Field
long_head =
    start ++ field (codes "cookie") [] ∷ field (codes "cookie") (codes "a=1") ∷ field (codes "x") [] ∷ field (codes "host") (codes "H")
    ∷ field (codes "cookie") (codes "b=2") ∷ field (codes "te") (codes "trailers") ∷ field (codes "content-length") (codes "02") ∷ []

long_fields : fields_of long_head ≡ field (codes "cookie") (codes "a=1; b=2") ∷ field (codes "x") [] ∷ []
long_fields = refl

long_head_holds : WellFormedHead long_head
long_head_holds = record {
  pseudo_fields_hold = record {
    first = refl;
    known = refl;
    method = refl;
    scheme = refl;
    path = refl;
    one_authority = omega arith;
    connect_authority = λ e. absurd (false≢true e);
  };
  names_hold = refl;
  values_hold = refl;
  no_connection_field = refl;
  te_holds = refl;
  method_holds = refl;
  scheme_holds = refl;
  path_holds = refl;
  authority_holds = record { one_host = omega arith; octets = refl; same = refl };
  length_holds = record { one = omega arith; digits = refl };
}

-- two contents, of which one is empty, and trailers
long_request : H2Request (Block long_head false ∷ Content (codes "h") false ∷ Content [] false ∷ Content (codes "i") false ∷ Block (field (codes "x") (codes "1") ∷ []) true ∷ [])
    (record { method = codes "GET"; target = codes "/"; authority = codes "h"; fields = field (codes "cookie") (codes "a=1; b=2") ∷ field (codes "x") [] ∷ []; body = codes "hi"; trailers = [] })
long_request = record {
  head = long_head;
  has_head = refl;
  well_formed = long_head_holds;
  no_connect = refl;
  contents = (record { no_pseudo_field = refl; names_hold = refl; values_hold = refl; no_connection_field = refl }, refl);
  ends = (refl, (refl, (refl, (refl, refl))));
  length_holds = refl;
  is = refl;
}

-- the head of a tunnel has neither scheme nor path
connect_holds : PseudoFieldsHold (field (codes ":method") (codes "CONNECT") ∷ authority_h ∷ [])
connect_holds = record { first = refl; known = refl; method = refl; scheme = refl; path = refl; one_authority = omega arith; connect_authority = λ e. refl }

-- '*' is a path for OPTIONS alone
star_for_options : PathHolds (field (codes ":method") (codes "OPTIONS") ∷ field (codes ":path") (codes "*") ∷ [])
star_for_options = refl

star_for_get : PathHolds (method_get ∷ field (codes ":path") (codes "*") ∷ []) → ⊥
star_for_get = false≢true

-- a backslash, as each of the other marks, is in no authority
marks : (is_authority_octet 92 ≡ false) × (is_authority_octet 47 ≡ false) × (is_authority_octet 64 ≡ false)
marks = (refl, refl, refl)

-- ---- what breaks a rule

late_pseudo_field : PseudoFieldsHold (method_get ∷ scheme_http ∷ path_root ∷ field (codes "x") [] ∷ authority_h ∷ []) → ⊥
late_pseudo_field p = let e = p.first in cc

unknown_pseudo_field : PseudoFieldsHold (start ++ field (codes ":status") (codes "200") ∷ []) → ⊥
unknown_pseudo_field p = let e = p.known in cc

two_paths : PseudoFieldsHold (start ++ path_root ∷ []) → ⊥
two_paths p = let e : ◌≡◌ {A = ℕ} 2 1 = p.path in absurd (omega arith)

no_scheme : PseudoFieldsHold (method_get ∷ path_root ∷ authority_h ∷ []) → ⊥
no_scheme p = let e : ◌≡◌ {A = ℕ} 0 1 = p.scheme in absurd (omega arith)

connect_with_path : PseudoFieldsHold (field (codes ":method") (codes "CONNECT") ∷ path_root ∷ authority_h ∷ []) → ⊥
connect_with_path p = let e : ◌≡◌ {A = ℕ} 1 0 = p.path in absurd (omega arith)

upper_case_name : NamesHold (start ++ field (codes "X") [] ∷ []) → ⊥
upper_case_name = false≢true

empty_name : NamesHold (start ++ field [] [] ∷ []) → ⊥
empty_name = false≢true

line_end_in_value : ValuesHold (start ++ field (codes "x") (codes "a\r\nb") ∷ []) → ⊥
line_end_in_value = false≢true

space_ends_value : ValuesHold (start ++ field (codes "x") (codes "a ") ∷ []) → ⊥
space_ends_value = false≢true

coding_named : HasNoConnectionField (start ++ field (codes "transfer-encoding") (codes "chunked") ∷ []) → ⊥
coding_named e = cc

te_gzip : TeHolds (start ++ field (codes "te") (codes "gzip") ∷ []) → ⊥
te_gzip = false≢true

scheme_ftp : SchemeHolds (method_get ∷ field (codes ":scheme") (codes "ftp") ∷ []) → ⊥
scheme_ftp = false≢true

path_with_space : PathHolds (method_get ∷ field (codes ":path") (codes "/a b") ∷ []) → ⊥
path_with_space = false≢true

other_host : AuthorityHolds (start ++ field (codes "host") (codes "x") ∷ []) → ⊥
other_host p = false≢true p.same

user_in_authority : AuthorityHolds (field (codes ":authority") (codes "u@h") ∷ []) → ⊥
user_in_authority p = false≢true p.octets

no_authority : AuthorityHolds (method_get ∷ scheme_http ∷ path_root ∷ []) → ⊥
no_authority p = false≢true p.octets

two_lengths : LengthFieldHolds (field (codes "content-length") (codes "1") ∷ field (codes "content-length") (codes "1") ∷ []) → ⊥
two_lengths p = let e : 2 ≤ 1 = p.one in absurd (omega arith)

long_length : LengthFieldHolds (field (codes "content-length") (codes "0000000000000000001") ∷ []) → ⊥
long_length p = false≢true p.digits

-- a length that isn't the body's
short_body : (request : Request) → H2Request (Block long_head false ∷ Content (codes "h") true ∷ []) request → ⊥
short_body request p = wrong_length p.head p.has_head p.length_holds
  where
    wrong_length : (head : List Field) → long_head ≡ head → HasLength (declared_length head) (codes "h") → ⊥
    wrong_length head e held = let same : ◌≡◌ {A = ℕ} 1 2 = subst (λ (h : List Field). HasLength (declared_length h) (codes "h")) (sym e) held in absurd (omega arith)

-- the stream hasn't ended
unfinished : (request : Request) → H2Request (Block start false ∷ []) request → ⊥
unfinished request p = false≢true p.ends

-- a tunnel is no request
tunnel : (request : Request) → H2Request (Block (field (codes ":method") (codes "CONNECT") ∷ authority_h ∷ []) true ∷ []) request → ⊥
tunnel request p = false≢true (sym (subst (λ (h : List Field). is_connect h ≡ false) (sym p.has_head) p.no_connect))
