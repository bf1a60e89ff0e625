-- A response of an upstream whose body is in chunks, with trailers behind them, octet by octet: one that passes, and one that doesn't.
use Rattle.std.proofs.Common.{◌≡◌, ℕ, ◌<◌, false, List, [], ◌∷◌, ◌++◌, refl, arith}
use Rattle.std.specs.Prelude.{Some, codes, zero, suc, get_or}
use Rattle.std.specs.List.{All}
use Rattle.std.specs.Char.{is_ascii_digit}
use Rattle.std.proofs.lemmas.List.Sums.{AllPass-from_list_all}
use Rattle.httparse.specs.Grammar as grammar
use Rattle.httparse.specs.Grammar.{is_token_byte, is_value_byte, IsField, IsResponseHead, ReadsResponse, trim_ows, print_response}
use Rattle.model.specs.Messages.{Field}
use Rattle.model.specs.ResponseHeads.{Head, Final}
use Rattle.model.specs.ResponseHeads.Framing.{Chunks}
use Rattle.model.specs.Responses.{Response, Chunked, H1Response, ChunkLine, IsTrailers}
use Rattle.model.specs.Idle.{LeavesOpen}
use Rattle.model.proofs.PastLaws.{no_shorter}
use Rattle.model.proofs.FirstLog.{field}

abbrev pub x_b : Field
x_b = field (codes "x-b") (codes "2")

abbrev pub answer_head : List ℕ
answer_head = codes "HTTP/1.1 200 OK\r\nTransfer-Encoding: chunked\r\n\r\n"

abbrev pub answer_rest : List ℕ
answer_rest = codes "2\r\nhi\r\n0\r\nX-B: 2\r\nContent-Length: 9\r\n\r\n"

abbrev pub head : Head
head = record { status = 200; fields = [] }

abbrev spelled : grammar.ResponseHead
spelled = record {
  blank = [];
  minor = 1;
  digits = codes "200";
  reason = Some (codes "OK");
  line_end = grammar.crlf;
  fields = record { name = codes "Transfer-Encoding"; raw = codes " chunked"; end = grammar.crlf } ∷ [];
  last = grammar.crlf;
}

coding_line : IsField (record { name = codes "Transfer-Encoding"; raw = codes " chunked"; end = grammar.crlf })
unfolding is_token_byte
coding_line = record { name = (omega arith, AllPass-from_list_all is_token_byte (codes "Transfer-Encoding") refl); raw = AllPass-from_list_all is_value_byte (codes " chunked") refl }

one_field : All IsField spelled.fields
one_field k d lt = at k lt
  where
    at : (k : ℕ) → k < 1 → IsField (get_or spelled.fields k d)
    at zero lt = coding_line
    at (suc k) lt = absurd (omega arith)

is_head : IsResponseHead spelled
is_head = record {
  minor = omega arith;
  digits = (refl, AllPass-from_list_all is_ascii_digit (codes "200") refl);
  reason = AllPass-from_list_all is_value_byte (codes "OK") refl;
  fields = one_field;
}

reads : ReadsResponse answer_head spelled []
unfolding print_response
reads = (is_head, refl)

final : Final false answer_head head (Chunks [])
unfolding trim_ows
final = record {
  spelled = spelled;
  taken = record { reads = reads; is_short = omega arith; has_few = omega arith; values = refl; has_class = omega arith; no_upgrade = λ e. absurd (omega (arith, e)) };
  is_final = omega arith;
  framed = refl;
  says = refl;
}

abbrev lines : List grammar.Field
lines = record { name = codes "X-B"; raw = codes " 2"; end = grammar.crlf } ∷ record { name = codes "Content-Length"; raw = codes " 9"; end = grammar.crlf } ∷ []

line_b : IsField (record { name = codes "X-B"; raw = codes " 2"; end = grammar.crlf })
unfolding is_token_byte
line_b = record { name = (omega arith, AllPass-from_list_all is_token_byte (codes "X-B") refl); raw = AllPass-from_list_all is_value_byte (codes " 2") refl }

line_length : IsField (record { name = codes "Content-Length"; raw = codes " 9"; end = grammar.crlf })
unfolding is_token_byte
line_length = record { name = (omega arith, AllPass-from_list_all is_token_byte (codes "Content-Length") refl); raw = AllPass-from_list_all is_value_byte (codes " 9") refl }

are_lines : All IsField lines
are_lines k d lt = at k lt
  where
    at : (k : ℕ) → k < 2 → IsField (get_or lines k d)
    at zero lt = line_b
    at (suc zero) lt = line_length
    at (suc (suc k)) lt = absurd (omega arith)

section : IsTrailers (codes "X-B: 2\r\nContent-Length: 9\r\n\r\n")
unfolding trim_ows
section = record { lines = lines; last = grammar.crlf; reads = (are_lines, refl); is_short = omega arith; has_few = omega arith; values = refl }

line_of_two : ChunkLine (codes "2\r\n") 2
line_of_two = record { digits = codes "2"; spaces = []; extension = []; is = refl; are_digits = refl; few_digits = omega arith; are_spaces = refl; few_spaces = omega arith; is_extension = tt; has_size = refl }

last_line : ChunkLine (codes "0\r\n") 0
last_line = record { digits = codes "0"; spaces = []; extension = []; is = refl; are_digits = refl; few_digits = omega arith; are_spaces = refl; few_spaces = omega arith; is_extension = tt; has_size = refl }

-- `x-b` passes, `content-length` doesn't
chunks_read : Chunked [] answer_rest (codes "hi") (x_b ∷ [])
unfolding trim_ows section
chunks_read = record {
  chunks = codes "hi" ∷ [];
  front = codes "2\r\nhi\r\n";
  line = codes "0\r\n";
  section = codes "X-B: 2\r\nContent-Length: 9\r\n\r\n";
  past = [];
  is = refl;
  are_chunks = (codes "2\r\nhi\r\n", [], record { line = codes "2\r\n"; is = refl; has_line = line_of_two; is_not_last = omega arith }, refl, refl);
  is_last = last_line;
  are_trailers = section;
  is_body = refl;
  passes = refl;
}

pub answered : H1Response (answer_head ++ answer_rest) false false (record { interims = []; head = head; body = codes "hi"; trailers = x_b ∷ [] })
answered = record {
  front = [];
  head_text = answer_head;
  rest = answer_rest;
  framing = Chunks [];
  is = refl;
  are_interims = refl;
  few_interims = omega arith;
  is_final = final;
  body = chunks_read;
}

abbrev pub response : Response
response = record { interims = []; head = head; body = codes "hi"; trailers = x_b ∷ [] }

none_past : chunks_read.past ≡ []
unfolding chunks_read
none_past = refl

-- no octet stands behind its trailers, and the connection stays open
pub leaves_open : LeavesOpen (answer_head ++ answer_rest) false
unfolding trim_ows answered final
leaves_open = record {
  response = response;
  reads = answered;
  version = refl;
  no_close = refl;
  no_more = λ front strict whole. no_shorter (answer_head ++ answer_rest) front false response answered (chunks_read, none_past) strict whole;
}
