-- What an HTTP/1.1 server reads in the octets that it is sent (RFC 9112). Nothing here knows HTTP/2 or a writer.
use Rattle.std.specs.Prelude.{◌≡◌, ℕ, ◌<◌, Bool, true, false, not, ◌&&◌, ◌||◌, if◌then◌else◌, List, [], ◌∷◌, ◌++◌, length, filter, codes, bytes_eq}
use Rattle.std.specs.List.{list_all, list_any, concat}
use Rattle.std.specs.Str.Parse.{digits_value}
use Rattle.model.specs.Octets.{IsFront, some_of, begins_with, is_digit, is_hex_digit, is_token_octet, is_visible, is_space, is_value, lower, Joined}
use Rattle.model.specs.Messages.{Field, Request}

-- the end of a line
abbrev pub crlf : List ℕ
crlf = 13 ∷ 10 ∷ []

-- A field line (RFC 9112, section 5): a token, a colon, spaces or tabs, the value, spaces or tabs, the line's end. Names
-- are read without case.
pub record Line (text : List ℕ) (field : Field) : Type 0 where
  pub name : List ℕ
  pub before : List ℕ
  pub after : List ℕ
  pub is : text ≡ name ++ 58 ∷ before ++ field.value ++ after ++ crlf
  pub is_token : some_of is_token_octet name ≡ true
  pub space_before : list_all is_space before ≡ true
  pub is_value : is_value field.value ≡ true
  pub space_after : list_all is_space after ≡ true
  pub is_named : field.name ≡ lower name

-- Field lines, one after another.
abbrev pub Lines : List ℕ → List Field → Type 0
Lines text fields = Joined Line text fields

-- the values of the fields of a name, in their order
abbrev pub values_of : List ℕ → List Field → List (List ℕ)
values_of name [] = []
values_of name (field ∷ fields) = if bytes_eq field.name name then field.value ∷ values_of name fields else values_of name fields

-- the fields whose name is none of these, in their order
abbrev pub without : List (List ℕ) → List Field → List Field
without names fields = filter (λ field. not (list_any (bytes_eq field.name) names)) fields

-- the names of lines that say where a request goes and how it is sent, beside what it means
abbrev pub framing_names : List (List ℕ)
framing_names = codes "host" ∷ codes "connection" ∷ codes "content-length" ∷ codes "transfer-encoding" ∷ []

-- A chunk (RFC 9112, section 7.1): its size in base sixteen, which is not 0, the line's end, its data, the line's end.
pub record Chunk (text data_octets : List ℕ) : Type 0 where
  pub size : List ℕ
  pub is : text ≡ size ++ crlf ++ data_octets ++ crlf
  pub is_size : some_of is_hex_digit size ≡ true
  pub has_size : length data_octets ≡ digits_value 16 size
  pub is_not_last : 0 < length data_octets

-- A body in chunks (RFC 9112, section 7.1): chunks, the size 0 on its line, the lines of trailers (section 7.1.2), and an empty line.
pub record Chunked (text body : List ℕ) (trailers : List Field) : Type 0 where
  pub chunks : List (List ℕ)
  pub front : List ℕ
  pub last_size : List ℕ
  pub lines : List ℕ
  pub is : text ≡ front ++ last_size ++ crlf ++ lines ++ crlf
  pub are_chunks : Joined Chunk front chunks
  pub is_size : some_of is_hex_digit last_size ≡ true
  pub is_last : digits_value 16 last_size ≡ 0
  pub is_body : body ≡ concat chunks
  pub are_lines : Lines lines trailers

-- A body of so many octets as decimal digits say (RFC 9112, section 6.2).
pub record Counted (digits text body : List ℕ) : Type 0 where
  pub are_digits : some_of is_digit digits ≡ true
  pub has_length : length body ≡ digits_value 10 digits
  pub is : text ≡ body

-- What stands after the head (RFC 9112, section 6.3), by the values of the lines content-length and transfer-encoding:
-- without either there is no body; with one line of either it says where the body ends; any other lot of lines is no
-- request's. Trailers stand behind chunks alone.
abbrev pub Framed : List (List ℕ) → List (List ℕ) → List ℕ → List ℕ → List Field → Type 0
Framed [] [] text body trailers = (text ≡ []) × (body ≡ []) × (trailers ≡ [])
Framed (digits ∷ []) [] text body trailers = Counted digits text body × (trailers ≡ [])
Framed [] (coding ∷ []) text body trailers = (lower coding ≡ codes "chunked") × Chunked text body trailers
Framed _ _ text body trailers = ⊥

-- What the head of a request says: its request line, and all fields of its lines.
pub record Head : Type 0 where
  pub method : List ℕ
  pub target : List ℕ
  pub fields : List Field

-- A target that is read: visible octets that begin with '/', or `*` (RFC 9112, section 3.2). The other forms are of proxies and
-- tunnels, and nothing is ever meant by them here.
abbrev pub is_target : List ℕ → Bool
is_target target = list_all is_visible target && begins_with 47 target || bytes_eq target (codes "*")

-- The text of a head (RFC 9112, sections 2.1 and 3): the request line, field lines and an empty line.
pub record H1Head (text : List ℕ) (head : Head) : Type 0 where
  pub lines : List ℕ
  pub is : text ≡ head.method ++ codes " " ++ head.target ++ codes " HTTP/1.1" ++ crlf ++ lines ++ crlf
  pub method : some_of is_token_octet head.method ≡ true
  pub target : is_target head.target ≡ true
  pub are_lines : Lines lines head.fields

-- the connection option `close`, and no other beside it (RFC 9112, section 9.6)
abbrev pub is_close : List ℕ → Bool
is_close value = bytes_eq (lower value) (codes "close")

-- the client sends no other request on the connection
abbrev pub asks_to_close : Head → Bool
asks_to_close head = list_any is_close (values_of (codes "connection") head.fields)

-- A whole request (RFC 9112, section 2.1): a head of which one line is the host's, and the body that its lines frame. Its one
-- connection option is `close`, or it has none: any other names a field that a server drops before it passes the request on
-- (RFC 9110, section 7.6.1).
pub record H1Request (text : List ℕ) (request : Request) : Type 0 where
  pub head : Head
  pub head_text : List ℕ
  pub content : List ℕ
  pub is : text ≡ head_text ++ content
  pub has_head : H1Head head_text head
  pub method : request.method ≡ head.method
  pub target : request.target ≡ head.target
  pub authority : values_of (codes "host") head.fields ≡ request.authority ∷ []
  pub options : list_all is_close (values_of (codes "connection") head.fields) ≡ true
  pub fields : request.fields ≡ without framing_names head.fields
  pub body : Framed (values_of (codes "content-length") head.fields) (values_of (codes "transfer-encoding") head.fields) content request.body request.trailers

-- No beginning of these octets is a request.
abbrev pub BeginsNoRequest : List ℕ → Type 0
BeginsNoRequest text = (front more : List ℕ) (request : Request) → H1Request front request → text ≡ front ++ more → ⊥

-- A request behind which another may stand.
pub record H1Open (text : List ℕ) (request : Request) : Type 0 where
  pub reads : H1Request text request
  pub stays_open : asks_to_close reads.head ≡ false

-- A request, and where its connection is kept one behind which another may stand.
abbrev pub H1Kept : Bool → List ℕ → Request → Type 0
H1Kept false text request = H1Request text request
H1Kept true text request = H1Open text request

-- These requests, one after another; behind one that asks to close the connection no other is read (RFC 9112, section 9.6).
abbrev pub AreRequests : List ℕ → List Request → Type 0
AreRequests text [] = text ≡ []
AreRequests text (request ∷ []) = H1Request text request
AreRequests text (request ∷ next ∷ requests) =
    (first more : List ℕ) × (text ≡ first ++ more) × H1Open first request × AreRequests more (next ∷ requests)

-- What was sent on a connection is these requests, one after another, and then a rest that begins with none.
pub record H1Requests (text : List ℕ) (requests : List Request) (rest : List ℕ) : Type 0 where
  pub front : List ℕ
  pub is : text ≡ front ++ rest
  pub are_requests : AreRequests front requests
  pub no_more : BeginsNoRequest rest

-- the field that the gateway adds (RFC 9110, section 7.6.3)
abbrev pub via : Field
via = record { name = codes "via"; value = codes "2.0 h2gw" }

-- What an upstream is to read of a request: the same, and that it came through the gateway.
abbrev pub forward : Request → Request
forward request = record request { fields = request.fields ++ via ∷ [] }

-- ---- a beginning of a request, whose body is passed on as it comes

-- What stands behind a head is whole chunks, and these octets are in them.
pub record HasChunks (rest octets : List ℕ) : Type 0 where
  pub chunks : List (List ℕ)
  pub are_chunks : Joined Chunk rest chunks
  pub hold : IsFront octets (concat chunks)

-- By the lines of its head that say how a body is framed, what stands behind the head has these octets of it. That it is no more than
-- a body begins with is said of each connection's text (`IsSentInPart`).
abbrev pub HasBody : List (List ℕ) → List (List ℕ) → List ℕ → List ℕ → Type 0
HasBody [] [] rest octets = (rest ≡ []) × (octets ≡ [])
HasBody (digits ∷ []) [] rest octets = IsFront octets rest
HasBody [] (coding ∷ []) rest octets = (lower coding ≡ codes "chunked") × HasChunks rest octets
HasBody _ _ rest octets = ⊥

-- What is kept back of a text: nothing, or one octet where as many octets of a body came as the head declares (RFC 9112, section 6.2).
abbrev pub KeptBack : List ℕ → List (List ℕ) → List ℕ → Type 0
KeptBack [] lengths octets = Unit {0}
KeptBack (_ ∷ []) (digits ∷ []) octets = length octets ≡ digits_value 10 digits
KeptBack _ _ _ = ⊥

-- The text, with what is kept back of it, is a whole head and a beginning of a body with these octets.
pub record HasCome (text octets : List ℕ) : Type 0 where
  pub extra : List ℕ
  pub head : Head
  pub head_text : List ℕ
  pub rest : List ℕ
  pub is : text ++ extra ≡ head_text ++ rest
  pub has_head : H1Head head_text head
  pub kept_back : KeptBack extra (values_of (codes "content-length") head.fields) octets
  pub has_body : HasBody (values_of (codes "content-length") head.fields) (values_of (codes "transfer-encoding") head.fields) rest octets
