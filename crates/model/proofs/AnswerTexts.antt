-- A response of an upstream, octet by octet: a head with a length, and two octets.
use Rattle.model.proofs.FirstLog.{field, short, indexed}
use Rattle.model.specs.Blocks as blocks
use Rattle.model.specs.Tables.{first_table, static_table, look_up}
use Rattle.model.specs.Messages.{Field}
use Rattle.std.proofs.Common.{◌≡◌, ℕ, ◌<◌, false, List, [], ◌∷◌, ◌++◌, length, append_assoc, refl, sym, ap, ◌∙◌, subst, inl, inr, arith}
use Rattle.std.specs.Prelude.{Some, codes, zero, suc, get_or}
use Rattle.std.proofs.lemmas.List.Sums.{AllPass-from_list_all}
use Rattle.std.specs.List.{All}
use Rattle.std.specs.Char.{is_ascii_digit}
use Rattle.httparse.specs.Grammar as grammar
use Rattle.httparse.specs.Grammar.{is_token_byte, is_value_byte, IsField, IsResponseHead, ReadsResponse, trim_ows, print_response}
use Rattle.model.specs.Octets.{Joined}
use Rattle.model.specs.ResponseHeads.{Head, Framing, Interim, Final}
use Rattle.model.specs.ResponseHeads.Framing.{Chunks, Sized}
use Rattle.model.specs.Responses.{Response, H1Response}
use Rattle.model.specs.Noticing.{IsBadHead, IsPlainlyBad}
use Rattle.model.specs.Idle.{LeavesOpen}
use Rattle.model.proofs.PastLaws.{no_shorter}
use Rattle.model.proofs.ResponseHeadReadings.{one_spelled, none_at_final, one_final}

abbrev pub answer_head : List ℕ
answer_head = codes "HTTP/1.1 200 OK\r\nContent-Length: 2\r\n\r\n"

abbrev pub answer : List ℕ
answer = answer_head ++ codes "hi"

abbrev pub head : Head
head = record { status = 200; fields = field (codes "content-length") (codes "2") ∷ [] }

abbrev spelled : grammar.ResponseHead
spelled = record {
  blank = [];
  minor = 1;
  digits = codes "200";
  reason = Some (codes "OK");
  line_end = grammar.crlf;
  fields = record { name = codes "Content-Length"; raw = codes " 2"; end = grammar.crlf } ∷ [];
  last = grammar.crlf;
}

one_field : All IsField spelled.fields
unfolding is_token_byte
one_field k d lt = at k lt
  where
    line : IsField (record { name = codes "Content-Length"; raw = codes " 2"; end = grammar.crlf })
    line = record { name = (omega arith, AllPass-from_list_all is_token_byte (codes "Content-Length") refl); raw = AllPass-from_list_all is_value_byte (codes " 2") refl }

    at : (k : ℕ) → k < 1 → IsField (get_or spelled.fields k d)
    at zero lt = line
    at (suc k) lt = absurd (omega arith)

is_head : IsResponseHead spelled
is_head = record {
  minor = omega arith;
  digits = (refl, AllPass-from_list_all is_ascii_digit (codes "200") refl);
  reason = AllPass-from_list_all is_value_byte (codes "OK") refl;
  fields = one_field;
}

reads : ReadsResponse answer_head spelled []
unfolding print_response
reads = (is_head, refl)

final : Final false answer_head head (Sized 2)
unfolding trim_ows
final = record {
  spelled = spelled;
  taken = record { reads = reads; is_short = omega arith; has_few = omega arith; values = refl; has_class = omega arith; no_upgrade = λ e. absurd (omega (arith, e)) };
  is_final = omega arith;
  framed = refl;
  says = refl;
}

abbrev pub response : Response
response = record { interims = []; head = head; body = codes "hi"; trailers = [] }

pub answered : H1Response answer false false response
answered = record {
  front = [];
  head_text = answer_head;
  rest = codes "hi";
  framing = Sized 2;
  is = refl;
  are_interims = refl;
  few_interims = omega arith;
  is_final = final;
  body = (record { past = []; is = refl; has_count = refl }, refl);
}

-- no octet stands behind it, and the connection stays open
pub leaves_open : LeavesOpen answer false
unfolding trim_ows answered final
leaves_open = record {
  response = response;
  reads = answered;
  version = refl;
  no_close = refl;
  no_more = λ front strict whole. no_shorter answer front false response answered refl strict whole;
}

-- ---- it can't be given up

-- no interim head stands before a final one
no_front : (head_text rest front more : List ℕ) (heads : List Head) (framing : Framing) (h : Head) → Final false head_text h framing → Joined Interim front heads → head_text ++ rest ≡ front ++ more → (heads ≡ []) × (front ≡ [])
no_front head_text rest front more [] framing h f j e = (refl, j)
no_front head_text rest front more (k ∷ heads) framing h f j e =
    absurd (none_at_final false head_text rest h framing f j.0 (j.1 ++ more) k j.2 (e ∙ ap (λ x. x ++ more) j.3 ∙ append_assoc j.0 j.1 more))

has_head : ReadsResponse answer spelled (codes "hi")
unfolding print_response
has_head = (is_head, refl)

-- no final head is framed otherwise
pub one_framing : (front head_text rest : List ℕ) (heads : List Head) (h : Head) (framing : Framing) → Joined Interim front heads → Final false head_text h framing → answer ≡ front ++ head_text ++ rest → (framing ≡ Sized 2) × (rest ≡ codes "hi")
one_framing front head_text rest heads h framing j f e =
    let none = no_front answer_head (codes "hi") front (head_text ++ rest) heads (Sized 2) head final j (e ∙ append_assoc front head_text rest) in
    let behind : answer ≡ head_text ++ rest = e ∙ ap (λ x. x ++ head_text ++ rest) none.1 in
    let same = one_final false answer_head head_text (codes "hi") rest head h (Sized 2) framing final f behind in
    (sym same.framing, sym same.rest)

bad_head : (rest : List ℕ) (count : ℕ) → answer ≡ rest → IsBadHead false count rest → ⊥
bad_head rest count e (inl never) = never [] spelled (codes "hi") (subst (λ (x : List ℕ). ReadsResponse (x ++ []) spelled (codes "hi")) e has_head)
bad_head rest count e (inr (inl none)) = none.0 spelled (codes "hi") (subst (λ (x : List ℕ). ReadsResponse x spelled (codes "hi")) e has_head)
bad_head rest count e (inr (inr bad)) =
    let r = bad.3 in
    let same = one_spelled answer_head bad.0 (codes "hi") bad.1 spelled r.spelled reads r.reads (e ∙ bad.2) in
    r.no_final head (Sized 2) (subst (λ (x : List ℕ). Final false x head (Sized 2)) same.0 final)

pub not_plain : IsPlainlyBad answer false → ⊥
not_plain (inl b) =
    let none = no_front answer_head (codes "hi") b.front b.rest b.interims (Sized 2) head final b.are_interims b.is in
    bad_head b.rest (length b.interims) (b.is ∙ ap (λ x. x ++ b.rest) none.1) b.is_bad
not_plain (inr b) =
    let same = one_framing b.front b.head_text (b.chunks_text ++ b.rest) b.interims b.head (Chunks b.named) b.are_interims b.is_final (b.is ∙ append_assoc (b.front ++ b.head_text) b.chunks_text b.rest) in
    let clash : Chunks b.named ≡ Sized 2 = same.0 in cc

-- ---- what the client is sent of it

abbrev pub fields : List Field
fields = field (codes ":status") (codes "200") ∷ head.fields

-- index 8 of the static table, and a literal with the name at index 28 that isn't inserted
abbrev pub block : List ℕ
block = 136 ∷ 15 ∷ 13 ∷ 1 ∷ 50 ∷ []

found_status : look_up first_table 8 ≡ Some (field (codes ":status") (codes "200"))
unfolding static_table
found_status = refl

found_length : look_up first_table 28 ≡ Some (field (codes "content-length") [])
unfolding static_table
found_length = refl

length_literal : blocks.Represents first_table (15 ∷ 13 ∷ 1 ∷ 50 ∷ []) (field (codes "content-length") (codes "2")) first_table
length_literal = inr (inr (inl (record {
  literal = record {
    index = 28;
    index_octets = 15 ∷ 13 ∷ [];
    name_octets = [];
    value_octets = 1 ∷ 50 ∷ [];
    is = refl;
    marked = record { int = inr (record { first = 15; groups = 13 ∷ []; is = refl; ones = refl; are_groups = omega arith; few = omega arith; sum = refl; in_range = omega arith }); marked = refl };
    name = inr (record { is_empty = refl; entry = field (codes "content-length") []; found = found_length; same = refl });
    string = inl (record { header = 1 ∷ []; is = refl; number = short 7 0 1 1 (record { first = 1; is = refl; low_bits = refl; not_ones = omega arith }) refl });
  };
  same = refl;
})))

pub is_block : blocks.IsBlock first_table block [] fields first_table
is_block = record {
  front = [];
  rest = block;
  between = first_table;
  is = refl;
  are_maxima = (refl, refl);
  are_fields = (
    136 ∷ [],
    15 ∷ 13 ∷ 1 ∷ 50 ∷ [],
    first_table,
    refl,
    indexed 136 8 _ (short 7 1 136 8 (record { first = 136; is = refl; low_bits = refl; not_ones = omega arith }) refl) found_status,
    (15 ∷ 13 ∷ 1 ∷ 50 ∷ [], [], first_table, refl, length_literal, (refl, refl)),
  );
}
