-- Trailers of a request and of a response that pass, and gateways that pass others, or none.
use Rattle.std.proofs.Common.{◌≡◌, ℕ, ◌<◌, true, false, List, [], ◌∷◌, ◌++◌, length, refl, sym, ap, ◌∙◌, subst, arith}
use Rattle.std.specs.Prelude.{Option, Some, None, codes}
use Rattle.std.specs.Str.Parse.{digits_value}
use Rattle.std.proofs.lemmas.Bool.{false≢true}
use Rattle.model.specs.Messages.{Field, Item, Request}
use Rattle.model.specs.Messages.Item.{Block, Content}
use Rattle.model.specs.Http1.{Line, Chunked, Framed}
use Rattle.model.specs.Http2.{request_of, pseudo_fields, WellFormedHead, H2Request}
use Rattle.model.specs.ResponseHeads.{Head}
use Rattle.model.specs.Deliveries.{End, Delivery, IsSection, AreInterims, AreContents, IsAnswer, IsAnsweredBy, ReadsAs, IsPartOf}
use Rattle.model.proofs.FirstLog.{field}
use Rattle.model.proofs.DeliveryReadings.{one_delivery}
use Rattle.model.proofs.Http2Readings.{one_meaning}
use Rattle.model.proofs.TrailerTexts.{x_b, head, answer_head, answer_rest, answered}
use Rattle.model.specs.Responses.{H1Response}

-- ---- those of a request

abbrev x_a : Field
x_a = field (codes "x-a") (codes "1")

abbrev a_length : Field
a_length = field (codes "content-length") (codes "9")

abbrev start : List Field
start = field (codes ":method") (codes "POST") ∷ field (codes ":scheme") (codes "http") ∷ field (codes ":path") (codes "/") ∷ field (codes ":authority") (codes "h") ∷ []

start_holds : WellFormedHead start
start_holds = record {
  pseudo_fields_hold = record { first = refl; known = refl; method = refl; scheme = refl; path = refl; one_authority = omega arith; connect_authority = λ e. absurd (false≢true e) };
  names_hold = refl;
  values_hold = refl;
  no_connection_field = refl;
  te_holds = refl;
  method_holds = refl;
  scheme_holds = refl;
  path_holds = refl;
  authority_holds = record { one_host = omega arith; octets = refl; same = refl };
  length_holds = record { one = omega arith; digits = refl };
}

abbrev meant_with : List Field → Request
meant_with trailers = record { method = codes "POST"; target = codes "/"; authority = codes "h"; fields = []; body = []; trailers = trailers }

-- a trailer that passes stands before one that doesn't
abbrev both_trailers : List Field
both_trailers = x_a ∷ a_length ∷ []

asked : H2Request (Block start false ∷ Block both_trailers true ∷ []) (meant_with (x_a ∷ []))
asked = record {
  head = start;
  has_head = refl;
  well_formed = start_holds;
  no_connect = refl;
  contents = (record { no_pseudo_field = refl; names_hold = refl; values_hold = refl; no_connection_field = refl }, refl);
  ends = (refl, refl);
  length_holds = tt;
  is = refl;
}

line_a : Line (codes "x-a: 1\r\n") x_a
line_a = record { name = codes "x-a"; before = codes " "; after = []; is = refl; is_token = refl; space_before = refl; is_value = refl; space_after = refl; is_named = refl }

-- what the upstream is sent behind the head
written : Chunked (codes "0\r\nx-a: 1\r\n\r\n") [] (x_a ∷ [])
written = record {
  chunks = [];
  front = [];
  last_size = codes "0";
  lines = codes "x-a: 1\r\n";
  is = refl;
  are_chunks = refl;
  is_size = refl;
  is_last = refl;
  is_body = refl;
  are_lines = (codes "x-a: 1\r\n", [], line_a, refl, refl);
}

-- ---- and what isn't its

-- A gateway that passes the trailer `content-length` doesn't send the request.
passes_a_length : H2Request (Block start false ∷ Block both_trailers true ∷ []) (meant_with both_trailers) → ⊥
passes_a_length p = let clash : meant_with (x_a ∷ []) ≡ meant_with both_trailers = one_meaning _ _ _ asked p in let same = ap (λ (r : Request). r.trailers) clash in cc

-- Nor does one that drops `x-a`.
drops_x_a : H2Request (Block start false ∷ Block both_trailers true ∷ []) (meant_with []) → ⊥
drops_x_a p = let clash : meant_with (x_a ∷ []) ≡ meant_with [] = one_meaning _ _ _ asked p in let same = ap (λ (r : Request). r.trailers) clash in cc

-- Beside a declared length no trailers are meant, and none are read.
abbrev start_of_two : List Field
start_of_two = start ++ field (codes "content-length") (codes "2") ∷ []

beside_a_length : (request : Request) → H2Request (Block start_of_two false ∷ Content (codes "hi") false ∷ Block (x_a ∷ []) true ∷ []) request → request.trailers ≡ []
beside_a_length request p = ap (λ (r : Request). r.trailers) p.is ∙ ap (λ (head : List Field). (request_of head (codes "hi") (x_a ∷ [])).trailers) (sym p.has_head)

none_read_beside : (digits text body : List ℕ) (trailer : Field) (trailers : List Field) → Framed (digits ∷ []) [] text body (trailer ∷ trailers) → ⊥
none_read_beside digits text body trailer trailers f = let clash = f.1 in cc

-- ---- those of a response

-- what the upstream sent is a whole response; its trailer `x-b` passes, `content-length` doesn't
all_answered : H1Response (answer_head ++ answer_rest) false false (record { interims = []; head = head; body = codes "hi"; trailers = x_b ∷ [] })
all_answered = answered

-- what the client is to read of it
abbrev delivery : Delivery
delivery = record { interims = []; head = Some head; body = codes "hi"; ends = Some (x_b ∷ []) }

-- what it reads of a head, of DATA, and of a block behind it
abbrev read_with : List Field → Delivery
read_with trailers = record { interims = []; head = Some head; body = codes "hi"; ends = Some trailers }

abbrev fields : List Field
fields = field (codes ":status") (codes "200") ∷ []

is_section : IsSection fields head
is_section = record { digits = codes "200"; is = refl; three = refl; are_digits = refl; status = refl; no_other = refl }

abbrev sent_with : Field → List Field → List Item
sent_with trailer trailers = Block fields false ∷ Content (codes "hi") false ∷ Block (trailer ∷ trailers) true ∷ []

reads_them : (trailer : Field) (trailers : List Field) → pseudo_fields (trailer ∷ trailers) ≡ [] → ReadsAs (sent_with trailer trailers) (read_with (trailer ∷ trailers))
reads_them trailer trailers plain = record {
  interim_items = [];
  rest = sent_with trailer trailers;
  is = refl;
  interims = tt;
  answer = (is_section, omega arith, ([], refl, (refl, refl, refl, (λ e. let clash : trailer ∷ trailers ≡ [] = e in cc), plain)));
}

client_reads : ReadsAs (sent_with x_b []) delivery
client_reads = reads_them x_b [] refl

all_of_it : IsPartOf delivery delivery
all_of_it = record { interims = refl; head_is = refl; body = record { rest = []; is = refl }; ended = λ trailers e. (e, refl) }

-- ---- and what isn't all of it

not_all : (trailers : List Field) → (trailers ≡ x_b ∷ [] → ⊥) → (read : Delivery) → read ≡ read_with trailers → IsPartOf read delivery → ⊥
not_all trailers other read is part =
    let all : Some (x_b ∷ []) ≡ Some trailers = ((subst (λ (d : Delivery). IsPartOf d delivery) is part).ended trailers refl).0 in
    other (let same : x_b ∷ [] ≡ trailers = cc in sym same)

-- A gateway that passes the trailer `content-length` doesn't send what is on offer.
sends_a_length : (read : Delivery) → ReadsAs (sent_with x_b (a_length ∷ [])) read → IsPartOf read delivery → ⊥
sends_a_length read r part =
    not_all (x_b ∷ a_length ∷ []) (λ e. let clash : x_b ∷ a_length ∷ [] ≡ x_b ∷ [] = e in cc) read
    (one_delivery _ read (read_with (x_b ∷ a_length ∷ [])) r (reads_them x_b (a_length ∷ []) refl)) part

-- Nor does one that ends the response with its DATA.
drops_x_b : (read : Delivery) → ReadsAs (Block fields false ∷ Content (codes "hi") true ∷ []) read → IsPartOf read delivery → ⊥
drops_x_b read r part =
    not_all [] (λ e. let clash : [] ≡ x_b ∷ [] = e in cc) read
    (one_delivery _ read (read_with []) r (record { interim_items = []; rest = Block fields false ∷ Content (codes "hi") true ∷ []; is = refl; interims = tt; answer = (is_section, omega arith, (refl, refl, refl)) })) part

-- Nor does one whose trailers go before the last octet of the body.
sends_trailers_early : (read : Delivery) → ReadsAs (Block fields false ∷ Content (codes "h") false ∷ Block (x_b ∷ []) true ∷ []) read → IsPartOf read delivery → ⊥
sends_trailers_early read r part =
    let same = one_delivery _ read (record { interims = []; head = Some head; body = codes "h"; ends = Some (x_b ∷ []) }) r (record {
      interim_items = [];
      rest = Block fields false ∷ Content (codes "h") false ∷ Block (x_b ∷ []) true ∷ [];
      is = refl;
      interims = tt;
      answer = (is_section, omega arith, ([], refl, (refl, refl, refl, (λ e. let clash : x_b ∷ [] ≡ [] = e in cc), refl)));
    }) in
    let body : codes "h" ≡ codes "hi" = ((subst (λ (d : Delivery). IsPartOf d delivery) same part).ended (x_b ∷ []) refl).1 in
    let sizes : 1 ≡ 2 = ap length body in omega (arith, sizes)

-- ---- and what isn't read as a response at all

status_field : List ℕ → Field
status_field digits = record { name = codes ":status"; value = digits }

-- a head with the status 200 is no interim head
not_interim : (others : List Field) (h : Head) → fields ≡ others → IsSection others h → h.status < 200 → ⊥
unfolding status_field
not_interim others h same section low =
    let whole : status_field (codes "200") ∷ [] ≡ status_field section.digits ∷ h.fields = same ∙ section.is in
    let first : status_field (codes "200") ≡ status_field section.digits = cc in
    let digits : codes "200" ≡ section.digits = ap (λ (f : Field). f.value) first in
    let status : h.status ≡ 200 = section.status ∙ ap (digits_value 10) (sym digits) in
    omega (arith, status, low)

-- What stands behind a final head, and is no contents of a response, makes all of it none.
no_response : (rest : List Item) → ((body : List ℕ) (ends : End) → AreContents rest body ends → ⊥) → (read : Delivery) → ReadsAs (Block fields false ∷ rest) read → ⊥
no_response rest none read r = at r.interim_items r.rest read.interims read.head r.is r.interims r.answer
  where
    at : (front behind : List Item) (heads : List Head) (h : Option Head) → Block fields false ∷ rest ≡ front ++ behind → AreInterims front heads → IsAnsweredBy behind h read.body read.ends → ⊥
    at [] behind heads None e i a = let clash : Block fields false ∷ rest ≡ (let none : List Item = [] in none) = e ∙ a.0 in cc
    at [] behind heads (Some h) e i a = none read.body read.ends (subst (λ items. IsAnswer items h read.body read.ends) (sym e) a).2
    at (Content octets ends ∷ front) behind heads h e i a = cc
    at (Block others true ∷ front) behind heads h e i a = cc
    at (Block others false ∷ front) behind [] h e i a = i
    at (Block others false ∷ front) behind (first ∷ heads) h e i a =
        let block : Block fields false ≡ Block others false = cc in let same : fields ≡ others = cc in not_interim others first same i.0 i.1

-- Trailers behind DATA that ended the stream.
trailers_behind_the_end : (read : Delivery) → ReadsAs (Block fields false ∷ Content (codes "hi") true ∷ Block (x_b ∷ []) true ∷ []) read → ⊥
trailers_behind_the_end = no_response (Content (codes "hi") true ∷ Block (x_b ∷ []) true ∷ []) (λ body ends p. let clash : Block (x_b ∷ []) true ∷ [] ≡ (let none : List Item = [] in none) = p.0 in cc)

-- Octets behind trailers.
octets_behind_trailers : (read : Delivery) → ReadsAs (Block fields false ∷ Content (codes "h") false ∷ Block (x_b ∷ []) true ∷ Content (codes "i") true ∷ []) read → ⊥
octets_behind_trailers =
    no_response (Content (codes "h") false ∷ Block (x_b ∷ []) true ∷ Content (codes "i") true ∷ [])
    (λ body ends p. let clash : Content (codes "i") true ∷ [] ≡ (let none : List Item = [] in none) = p.2.0 in cc)

-- Trailers that don't end their stream.
trailers_without_end : (read : Delivery) → ReadsAs (Block fields false ∷ Content (codes "hi") false ∷ Block (x_b ∷ []) false ∷ []) read → ⊥
trailers_without_end = no_response (Content (codes "hi") false ∷ Block (x_b ∷ []) false ∷ []) (λ body ends p. p.2)
