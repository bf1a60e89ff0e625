-- What the gateway writes for a request is read as that request.
use Rattle.std.proofs.Common.{reverse, arith, ◌≡◌, ℕ, Bool, true, false, List, [], ◌∷◌, ◌++◌, filter, refl, sym, ap, ◌∙◌, subst, append_assoc}
use Rattle.std.specs.Prelude.{◌≤◌, ◌||◌, ◌==◌, nat_le, codes, not, ◌&&◌, bytes_eq, if◌then◌else◌}
use Rattle.std.specs.List.{list_all, list_any}
use Rattle.std.proofs.lemmas.Bool.{leb-true, le-leb, or_left, or_right, or_from, ne_eqb, false≢true, and_parts, and_from, or_parts, not-true, not_from_false, cond-true, cond-false}
use Rattle.std.proofs.lemmas.List.{append-nil}
use Rattle.std.proofs.lemmas.List.Elements.{filter-append}
use Rattle.model.specs.Octets.{begins_with_space, is_space, is_value_octet, some_of, is_between, is_token_octet, is_visible, is_value, lower, lower_octet}
use Rattle.model.specs.Messages.{Field, Request}
use Rattle.model.specs.Http1.{crlf, Line, Lines, values_of, without, is_close, framing_names, via, Framed, is_target, H1Head, H1Request, H1Open, H1Kept, forward}
use Rattle.model.specs.Http1Text.{line_text, lines_text, closing, written_fields, head_text}
use Rattle.model.specs.Http2.{is_name_octet}
use Rattle.model.proofs.Http1Bodies.{cons-append}
use Rattle.model.proofs.Http1Runs.{run_weaker, run_of_some}
use Rattle.model.proofs.Http1Lines.{value_from_parts, run-reverse}

-- a field that has a line: its name is a token in lower case
abbrev pub has_line : Field → Bool
has_line field = some_of is_name_octet field.name && is_value field.value

-- a field that is written as it is: its line is none that the writer adds
abbrev pub can_send : Field → Bool
can_send field = has_line field && not (list_any (bytes_eq field.name) framing_names)

name_octet_is_token : (octet : ℕ) → is_name_octet octet ≡ true → is_token_octet octet ≡ true
name_octet_is_token octet p = (and_parts (is_token_octet octet) (not (is_between 65 90 octet)) p).0

lower_octet_same : (octet : ℕ) → is_name_octet octet ≡ true → lower_octet octet ≡ octet
lower_octet_same octet p =
    let small = not-true (is_between 65 90 octet) (and_parts (is_token_octet octet) (not (is_between 65 90 octet)) p).1 in
    cond-false (is_between 65 90 octet) _ octet small

pub lower_same : (name : List ℕ) → list_all is_name_octet name ≡ true → lower name ≡ name
lower_same [] p = refl
lower_same (octet ∷ name) p =
    let parts = and_parts (is_name_octet octet) (list_all is_name_octet name) p in
    let first = lower_octet_same octet parts.0 in
    let rest = lower_same name parts.1 in
    cc

pub token_from_name : (name : List ℕ) → some_of is_name_octet name ≡ true → (some_of is_token_octet name ≡ true) × (lower name ≡ name)
token_from_name [] p = absurd (false≢true p)
token_from_name (octet ∷ name) p = (run_weaker is_name_octet is_token_octet name_octet_is_token (octet ∷ name) p, lower_same (octet ∷ name) p)

line_spelled : (name value : List ℕ) → name ++ codes ": " ++ value ++ crlf ≡ name ++ 58 ∷ (32 ∷ []) ++ value ++ [] ++ crlf
line_spelled name value = simp (append_assoc, cons-append, append-nil)

pub line_read : (field : Field) → has_line field ≡ true → Line (line_text field) field
line_read field p =
    let parts = and_parts (some_of is_name_octet field.name) (is_value field.value) p in
    let name = token_from_name field.name parts.0 in
    record {
      name = field.name;
      before = 32 ∷ [];
      after = [];
      is = line_spelled field.name field.value;
      is_token = name.0;
      space_before = refl;
      is_value = parts.1;
      space_after = refl;
      is_named = sym name.1;
    }

pub lines_read : (fields : List Field) → list_all has_line fields ≡ true → Lines (lines_text fields) fields
lines_read [] p = refl
lines_read (field ∷ fields) p =
    let parts = and_parts (has_line field) (list_all has_line fields) p in
    (line_text field, lines_text fields, line_read field parts.0, refl, lines_read fields parts.1)

kept_append : (t : Bool) (v : List ℕ) (whole a b : List (List ℕ)) → whole ≡ a ++ b → (if t then v ∷ whole else whole) ≡ (if t then v ∷ a else a) ++ b
kept_append true v whole a b e = ap (λ (vs : List (List ℕ)). v ∷ vs) e
kept_append false v whole a b e = e

pub values_of-append : (name : List ℕ) (a b : List Field) → values_of name (a ++ b) ≡ values_of name a ++ values_of name b
values_of-append name [] b = refl
values_of-append name (field ∷ a) b =
    kept_append (bytes_eq field.name name) field.value (values_of name (a ++ b)) (values_of name a) (values_of name b) (values_of-append name a b)

-- no field has the name, so there is no value of it
pub values_none : (name : List ℕ) (fields : List Field) → list_all (λ field. not (bytes_eq field.name name)) fields ≡ true → values_of name fields ≡ []
values_none name [] p = refl
values_none name (field ∷ fields) p =
    let parts = and_parts (not (bytes_eq field.name name)) _ p in
    cond-false (bytes_eq field.name name) (field.value ∷ values_of name fields) (values_of name fields) (not-true _ parts.0) ∙ values_none name fields parts.1

pub filter_all : (test : Field → Bool) (fields : List Field) → list_all test fields ≡ true → filter test fields ≡ fields
filter_all test [] p = refl
filter_all test (field ∷ fields) p =
    let parts = and_parts (test field) (list_all test fields) p in
    cond-true (test field) (field ∷ filter test fields) (filter test fields) parts.0 ∙ ap (λ (fs : List Field). field ∷ fs) (filter_all test fields parts.1)

pub all_weaker : (test wider : Field → Bool) (weaker : (field : Field) → test field ≡ true → wider field ≡ true) (fields : List Field)
    → list_all test fields ≡ true → list_all wider fields ≡ true
all_weaker test wider weaker [] p = refl
all_weaker test wider weaker (field ∷ fields) p =
    let parts = and_parts (test field) (list_all test fields) p in
    and_from (wider field) (list_all wider fields) (weaker field parts.0) (all_weaker test wider weaker fields parts.1)

pub all-append : (test : Field → Bool) (a b : List Field) → list_all test a ≡ true → list_all test b ≡ true → list_all test (a ++ b) ≡ true
all-append test [] b p q = q
all-append test (field ∷ a) b p q =
    let parts = and_parts (test field) (list_all test a) p in
    and_from (test field) (list_all test (a ++ b)) parts.0 (all-append test a b parts.1 q)

-- what a field that is written as it is tells of its name
pub record Apart (field : Field) : Type 0 where
  pub has_line : has_line field ≡ true
  pub outside : not (list_any (bytes_eq field.name) framing_names) ≡ true
  pub host : not (bytes_eq field.name (codes "host")) ≡ true
  pub connection : not (bytes_eq field.name (codes "connection")) ≡ true
  pub content_length : not (bytes_eq field.name (codes "content-length")) ≡ true
  pub transfer_encoding : not (bytes_eq field.name (codes "transfer-encoding")) ≡ true

pub apart : (field : Field) → can_send field ≡ true → Apart field
apart field p =
    let parts = and_parts (has_line field) _ p in
    let all = or_parts (bytes_eq field.name (codes "host")) _ (not-true _ parts.1) in
    let three = or_parts (bytes_eq field.name (codes "connection")) _ all.1 in
    let two = or_parts (bytes_eq field.name (codes "content-length")) _ three.1 in
    let one = or_parts (bytes_eq field.name (codes "transfer-encoding")) _ two.1 in
    record {
      has_line = parts.0;
      outside = parts.1;
      host = not_from_false _ all.0;
      connection = not_from_false _ three.0;
      content_length = not_from_false _ two.0;
      transfer_encoding = not_from_false _ one.0;
    }

-- a request whose text can be written
pub record IsSendable (request : Request) : Type 0 where
  pub method : some_of is_token_octet request.method ≡ true
  pub target : is_target request.target ≡ true
  pub authority : is_value request.authority ≡ true
  pub fields : list_all can_send request.fields ≡ true

-- lines that frame these octets as this body and trailers, and say nothing else
pub record Frames (framing : List Field) (content body : List ℕ) (trailers : List Field) : Type 0 where
  pub lines : list_all has_line framing ≡ true
  pub no_host : values_of (codes "host") framing ≡ []
  pub no_option : values_of (codes "connection") framing ≡ []
  pub not_kept : without framing_names framing ≡ []
  pub framed : Framed (values_of (codes "content-length") framing) (values_of (codes "transfer-encoding") framing) content body trailers

-- a name that none of the other lines has is one of the framing's
closing_apart : (keep : Bool) (name : List ℕ) → bytes_eq (codes "connection") name ≡ false → values_of name (closing keep) ≡ []
closing_apart true name no_close = refl
closing_apart false name no_close = cond-false (bytes_eq (codes "connection") name) (codes "close" ∷ []) [] no_close

others_apart : (keep : Bool) (name : List ℕ) (fields framing : List Field) → bytes_eq (codes "connection") name ≡ false → bytes_eq (codes "via") name ≡ false
    → values_of name fields ≡ [] → values_of name (fields ++ via ∷ framing ++ closing keep) ≡ values_of name framing
others_apart keep name fields framing no_close no_via none =
    let last : values_of name (closing keep) ≡ [] = closing_apart keep name no_close in
    let middle : values_of name (via ∷ framing) ≡ values_of name framing = cond-false (bytes_eq (codes "via") name) (via.value ∷ values_of name framing) (values_of name framing) no_via in
    values_of-append name (fields ++ via ∷ framing) (closing keep)
    ∙ ap (λ (vs : List (List ℕ)). vs ++ values_of name (closing keep)) (values_of-append name fields (via ∷ framing))
    ∙ rw (none, middle, last) (append-nil (values_of name framing))

-- a connection line, if there is one, is the writer's
options_apart : (keep : Bool) (fields framing : List Field) → values_of (codes "connection") fields ≡ [] → values_of (codes "connection") framing ≡ []
    → values_of (codes "connection") (fields ++ via ∷ framing ++ closing keep) ≡ values_of (codes "connection") (closing keep)
options_apart keep fields framing none no_option =
    values_of-append (codes "connection") (fields ++ via ∷ framing) (closing keep)
    ∙ ap (λ (vs : List (List ℕ)). vs ++ values_of (codes "connection") (closing keep)) (values_of-append (codes "connection") fields (via ∷ framing))
    ∙ rw (none, no_option) refl

closing_says_close : (keep : Bool) → list_all is_close (values_of (codes "connection") (closing keep)) ≡ true
closing_says_close true = refl
closing_says_close false = refl

closing_has_line : (keep : Bool) → list_all has_line (closing keep) ≡ true
closing_has_line true = refl
closing_has_line false = refl

closing_not_kept : (keep : Bool) → without framing_names (closing keep) ≡ []
closing_not_kept true = refl
closing_not_kept false = refl

none_named : (name : List ℕ) (fields : List Field) → ((field : Field) → Apart field → not (bytes_eq field.name name) ≡ true) → list_all can_send fields ≡ true → values_of name fields ≡ []
none_named name fields says p = values_none name fields (all_weaker can_send (λ field. not (bytes_eq field.name name)) (λ field q. says field (apart field q)) fields p)

written_have_lines : (keep : Bool) (request : Request) (framing : List Field) → IsSendable request → list_all has_line framing ≡ true → list_all has_line (written_fields keep request framing) ≡ true
written_have_lines keep request framing p q =
    let fields = all_weaker can_send has_line (λ field r. (apart field r).has_line) request.fields p.fields in
    let rest : list_all has_line (request.fields ++ via ∷ framing ++ closing keep) ≡ true =
    all-append has_line (request.fields ++ via ∷ framing) (closing keep) (all-append has_line request.fields (via ∷ framing) fields q) (closing_has_line keep) in
    and_from (is_value request.authority) _ p.authority rest

written_kept : (keep : Bool) (request : Request) (framing : List Field) → IsSendable request → without framing_names framing ≡ [] → request.fields ++ via ∷ [] ≡ without framing_names (written_fields keep request framing)
written_kept keep request framing p q =
    let test : Field → Bool = λ field. not (list_any (bytes_eq field.name) framing_names) in
    let fields : filter test request.fields ≡ request.fields = filter_all test request.fields (all_weaker can_send test (λ field r. (apart field r).outside) request.fields p.fields) in
    let middle : filter test (via ∷ framing) ≡ via ∷ [] = ap (λ (fs : List Field). via ∷ fs) q in
    sym (filter-append test (request.fields ++ via ∷ framing) (closing keep)
    ∙ ap (λ (fs : List Field). filter test (request.fields ++ via ∷ framing) ++ fs) (closing_not_kept keep)
    ∙ ap (λ (fs : List Field). fs ++ []) (filter-append test request.fields (via ∷ framing))
    ∙ append-nil (filter test request.fields ++ filter test (via ∷ framing)) ∙ cc (fields, middle))

-- A head that is written is read with the fields that are written.
pub head_read : (keep : Bool) (request : Request) (framing : List Field) → IsSendable request → list_all has_line framing ≡ true
    → H1Head (head_text keep request framing) (record { method = request.method; target = request.target; fields = written_fields keep request framing })
head_read keep request framing p q = record {
  lines = lines_text (written_fields keep request framing);
  is = refl;
  method = p.method;
  target = p.target;
  are_lines = lines_read (written_fields keep request framing) (written_have_lines keep request framing p q);
}

-- A head that is written, and octets that its framing makes this body, are the request with that body.
pub text_read : (keep : Bool) (request : Request) (framing : List Field) (content : List ℕ) → IsSendable request → Frames framing content request.body request.trailers
    → H1Request (head_text keep request framing ++ content) (forward request)
text_read keep request framing content p q =
    let host = others_apart keep (codes "host") request.fields framing refl refl (none_named (codes "host") request.fields (λ field a. a.host) p.fields) in
    let lengths = others_apart keep (codes "content-length") request.fields framing refl refl (none_named (codes "content-length") request.fields (λ field a. a.content_length) p.fields) in
    let codings = others_apart keep (codes "transfer-encoding") request.fields framing refl refl (none_named (codes "transfer-encoding") request.fields (λ field a. a.transfer_encoding) p.fields) in
    let options = options_apart keep request.fields framing (none_named (codes "connection") request.fields (λ field a. a.connection) p.fields) q.no_option in
    record {
      head = record { method = request.method; target = request.target; fields = written_fields keep request framing };
      head_text = head_text keep request framing;
      content = content;
      is = refl;
      has_head = head_read keep request framing p q.lines;
      method = refl;
      target = refl;
      authority = ap (λ (vs : List (List ℕ)). request.authority ∷ vs) (host ∙ q.no_host);
      options = ap (λ (vs : List (List ℕ)). list_all is_close vs) options ∙ closing_says_close keep;
      fields = written_kept keep request framing p q.not_kept;
      body = rw (lengths, codings) q.framed;
    }

-- Where the connection is kept, another request may stand behind it.
pub text_open : (request : Request) (framing : List Field) (content : List ℕ) → IsSendable request → Frames framing content request.body request.trailers
    → H1Open (head_text true request framing ++ content) (forward request)
unfolding text_read
text_open request framing content p q = record {
  reads = text_read true request framing content p q;
  stays_open = ap (λ (vs : List (List ℕ)). list_any is_close vs) (options_apart true request.fields framing (none_named (codes "connection") request.fields (λ field a. a.connection) p.fields) q.no_option);
}

pub text_kept : (keep : Bool) (request : Request) (framing : List Field) (content : List ℕ) → IsSendable request → Frames framing content request.body request.trailers
    → H1Kept keep (head_text keep request framing ++ content) (forward request)
text_kept false request framing content p q = text_read false request framing content p q
text_kept true request framing content p q = text_open request framing content p q

-- it is a request
pub kept_reads : (keep : Bool) (text : List ℕ) (request : Request) → H1Kept keep text request → H1Request text request
kept_reads false text request r = r
kept_reads true text request r = r.reads

-- and where the connection is kept, another may stand behind it
pub kept_open : (keep : Bool) (text : List ℕ) (request : Request) → keep ≡ true → H1Kept keep text request → H1Open text request
kept_open false text request on r = absurd (let clash : false ≡ true = on in cc)
kept_open true text request on r = r

-- ---- a request without a body

pub visible_is_value_octet : (octet : ℕ) → is_visible octet ≡ true → is_value_octet octet ≡ true
visible_is_value_octet octet p =
    let parts = and_parts (nat_le 33 octet) (nat_le octet 126) p in
    let low : 33 ≤ octet = leb-true 33 octet parts.0 in
    let within : nat_le 32 octet ≡ true = le-leb 32 octet (omega arith) in
    or_left (octet == 9 || is_between 32 126 octet) _ (or_right (octet == 9) _ (and_from _ _ within parts.1))

pub visible_is_no_space : (octet : ℕ) → is_visible octet ≡ true → is_space octet ≡ false
visible_is_no_space octet p =
    let low : 33 ≤ octet = leb-true 33 octet (and_parts (nat_le 33 octet) (nat_le octet 126) p).0 in
    or_from (octet == 32) (octet == 9) (ne_eqb octet 32 (λ e. absurd (omega arith))) (ne_eqb octet 9 (λ e. absurd (omega arith)))

begins_visible : (text : List ℕ) → list_all is_visible text ≡ true → begins_with_space text ≡ false
begins_visible [] p = refl
begins_visible (octet ∷ text) p = visible_is_no_space octet (and_parts (is_visible octet) (list_all is_visible text) p).0

pub visible_is_value : (text : List ℕ) → list_all is_visible text ≡ true → is_value text ≡ true
visible_is_value text p = value_from_parts text (record {
  octets = run_weaker is_visible is_value_octet visible_is_value_octet text p;
  begins = begins_visible text p;
  ends = begins_visible (reverse text) (run-reverse is_visible text p);
})

-- nothing frames no octets
pub no_framing : Frames [] [] [] []
no_framing = record { lines = refl; no_host = refl; no_option = refl; not_kept = refl; framed = (refl, refl, refl) }

-- the text of a request that has neither fields nor a body
abbrev pub get_text : List ℕ → List ℕ → List ℕ → List ℕ
get_text method target authority =
    method ++ codes " " ++ target ++ codes " HTTP/1.1\r\nhost: " ++ authority ++ codes "\r\nvia: 2.0 h2gw\r\nconnection: close\r\n\r\n"

abbrev pub bare_request : List ℕ → List ℕ → List ℕ → Request
bare_request method target authority = record { method = method; target = target; authority = authority; fields = []; body = []; trailers = [] }

five_parts : (m b t c a f : List ℕ) → m ++ b ++ t ++ c ++ a ++ f ≡ m ++ (b ++ (t ++ (c ++ (a ++ f))))
five_parts m b t c a f = simp append_assoc

ten_parts : (m b t c d h a e f g : List ℕ) → (m ++ b ++ t ++ c ++ d ++ (h ++ a ++ e ++ f) ++ g) ++ [] ≡ m ++ (b ++ (t ++ ((c ++ (d ++ h)) ++ (a ++ (e ++ (f ++ g))))))
ten_parts m b t c d h a e f g = simp (append_assoc, append-nil)

pub get_spelled : (method target authority : List ℕ) → get_text method target authority ≡ head_text false (bare_request method target authority) [] ++ []
get_spelled method target authority =
    five_parts method (codes " ") target (codes " HTTP/1.1\r\nhost: ") authority (codes "\r\nvia: 2.0 h2gw\r\nconnection: close\r\n\r\n")
    ∙ sym (ten_parts method (codes " ") target (codes " HTTP/1.1") crlf (codes "host: ") authority crlf (codes "via: 2.0 h2gw\r\nconnection: close\r\n") crlf)

pub get_read : (method target authority : List ℕ) → some_of is_token_octet method ≡ true → is_target target ≡ true → some_of is_visible authority ≡ true
    → H1Request (get_text method target authority) (forward (bare_request method target authority))
get_read method target authority is_method may_be_target is_authority =
    let sendable : IsSendable (bare_request method target authority) =
    record { method = is_method; target = may_be_target; authority = visible_is_value authority (run_of_some is_visible authority is_authority); fields = refl } in
    subst (λ (text : List ℕ). H1Request text (forward (bare_request method target authority))) (sym (get_spelled method target authority))
    (text_read false (bare_request method target authority) [] [] sendable no_framing)

-- the same where the connection is kept
abbrev pub kept_get_text : List ℕ → List ℕ → List ℕ → List ℕ
kept_get_text method target authority = method ++ codes " " ++ target ++ codes " HTTP/1.1\r\nhost: " ++ authority ++ codes "\r\nvia: 2.0 h2gw\r\n\r\n"

kept_spelled : (method target authority : List ℕ) → kept_get_text method target authority ≡ head_text true (bare_request method target authority) [] ++ []
kept_spelled method target authority =
    five_parts method (codes " ") target (codes " HTTP/1.1\r\nhost: ") authority (codes "\r\nvia: 2.0 h2gw\r\n\r\n")
    ∙ sym (ten_parts method (codes " ") target (codes " HTTP/1.1") crlf (codes "host: ") authority crlf (codes "via: 2.0 h2gw\r\n") crlf)

pub kept_get_open : (method target authority : List ℕ) → some_of is_token_octet method ≡ true → is_target target ≡ true → some_of is_visible authority ≡ true
    → H1Open (kept_get_text method target authority) (forward (bare_request method target authority))
kept_get_open method target authority is_method may_be_target is_authority =
    let sendable : IsSendable (bare_request method target authority) =
    record { method = is_method; target = may_be_target; authority = visible_is_value authority (run_of_some is_visible authority is_authority); fields = refl } in
    subst (λ (text : List ℕ). H1Open text (forward (bare_request method target authority))) (sym (kept_spelled method target authority))
    (text_open (bare_request method target authority) [] [] sendable no_framing)
