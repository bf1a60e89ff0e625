-- Texts that are read as requests, though the gateway never writes them so, and texts that no server reads as one.
use Rattle.std.proofs.Common.{◌≡◌, ℕ, true, List, [], ◌∷◌, ◌++◌, refl, arith}
use Rattle.std.specs.Prelude.{codes}
use Rattle.std.specs.List.{list_all}
use Rattle.model.specs.Octets.{some_of, is_token_octet, is_space, is_value, lower}
use Rattle.model.specs.Messages.{Field}
use Rattle.model.specs.Http1.{crlf, Line, Chunked, H1Head, H1Request, BeginsNoRequest}
use Rattle.model.proofs.Http1Readings.{not_framed, not_for_one_host}

-- a line from its parts
line_of : (name before value after : List ℕ) → some_of is_token_octet name ≡ true → list_all is_space before ≡ true → is_value value ≡ true → list_all is_space after ≡ true
    → Line (name ++ 58 ∷ before ++ value ++ after ++ crlf) (record { name = lower name; value = value })
line_of name before value after n b v a =
    record { name = name; before = before; after = after; is = refl; is_token = n; space_before = b; is_value = v; space_after = a; is_named = refl }

-- the fields of a head's lines
abbrev host_a : Field
host_a = record { name = codes "host"; value = codes "a" }

abbrev field_x : Field
field_x = record { name = codes "x-a"; value = codes "1 2" }

abbrev chunked_field : Field
chunked_field = record { name = codes "transfer-encoding"; value = codes "Chunked" }

abbrev length_field : Field
length_field = record { name = codes "content-length"; value = codes "02" }

-- a name in another case
plain_host : Line (codes "HOST: a\r\n") host_a
plain_host = line_of (codes "HOST") (codes " ") (codes "a") [] refl refl refl refl

-- no space, spaces and tabs round the value
bare_host : Line (codes "Host:a\r\n") host_a
bare_host = line_of (codes "Host") [] (codes "a") [] refl refl refl refl

wide_host : Line (codes "host:\t  a \t\r\n") host_a
wide_host = line_of (codes "host") (codes "\t  ") (codes "a") (codes " \t") refl refl refl refl

line_x : Line (codes "X-A: 1 2\r\n") field_x
line_x = line_of (codes "X-A") (codes " ") (codes "1 2") [] refl refl refl refl

-- an empty value between spaces
line_empty : Line (codes "x:  \r\n") (record { name = codes "x"; value = [] })
line_empty = line_of (codes "x") (codes " ") [] (codes " ") refl refl refl refl

plain_request : H1Request (codes "GET / HTTP/1.1\r\nHOST: a\r\n\r\n") (record { method = codes "GET"; target = codes "/"; authority = codes "a"; fields = []; body = []; trailers = [] })
plain_request = record {
  head = record { method = codes "GET"; target = codes "/"; fields = host_a ∷ [] };
  head_text = codes "GET / HTTP/1.1\r\nHOST: a\r\n\r\n";
  content = [];
  is = refl;
  has_head = record {
    lines = codes "HOST: a\r\n";
    is = refl;
    method = refl;
    target = refl;
    are_lines = (codes "HOST: a\r\n", [], plain_host, refl, refl);
  };
  method = refl;
  target = refl;
  authority = refl;
  options = refl;
  fields = refl;
  body = (refl, refl, refl);
}

-- the host line stands last, with white space round its value
other_order : H1Request (codes "GET / HTTP/1.1\r\nX-A: 1 2\r\nhost:\t  a \t\r\n\r\n") (record { method = codes "GET"; target = codes "/"; authority = codes "a"; fields = field_x ∷ []; body = []; trailers = [] })
other_order = record {
  head = record { method = codes "GET"; target = codes "/"; fields = field_x ∷ host_a ∷ [] };
  head_text = codes "GET / HTTP/1.1\r\nX-A: 1 2\r\nhost:\t  a \t\r\n\r\n";
  content = [];
  is = refl;
  has_head = record {
    lines = codes "X-A: 1 2\r\nhost:\t  a \t\r\n";
    is = refl;
    method = refl;
    target = refl;
    are_lines = (codes "X-A: 1 2\r\n", codes "host:\t  a \t\r\n", line_x, refl, (codes "host:\t  a \t\r\n", [], wide_host, refl, refl));
  };
  method = refl;
  target = refl;
  authority = refl;
  options = refl;
  fields = refl;
  body = (refl, refl, refl);
}

-- a size in upper case with zeros before it, and a last size of three zeros
chunks_read : Chunked (codes "00A\r\n0123456789\r\n1\r\n!\r\n000\r\n\r\n") (codes "0123456789!") []
chunks_read = record {
  chunks = codes "0123456789" ∷ codes "!" ∷ [];
  front = codes "00A\r\n0123456789\r\n1\r\n!\r\n";
  last_size = codes "000";
  lines = [];
  is = refl;
  are_chunks = (
    codes "00A\r\n0123456789\r\n",
    codes "1\r\n!\r\n",
    record { size = codes "00A"; is = refl; is_size = refl; has_size = refl; is_not_last = omega arith },
    refl,
    (
      codes "1\r\n!\r\n",
      [],
      record { size = codes "1"; is = refl; is_size = refl; has_size = refl; is_not_last = omega arith },
      refl,
      refl,
    ),
  );
  is_size = refl;
  is_last = refl;
  is_body = refl;
  are_lines = refl;
}

chunked_line : Line (codes "Transfer-Encoding: Chunked\r\n") chunked_field
chunked_line = line_of (codes "Transfer-Encoding") (codes " ") (codes "Chunked") [] refl refl refl refl

length_line : Line (codes "content-length: 02\r\n") length_field
length_line = line_of (codes "content-length") (codes " ") (codes "02") [] refl refl refl refl

chunked_request : H1Request (codes "PUT /x HTTP/1.1\r\nHost:a\r\nTransfer-Encoding: Chunked\r\n\r\n00A\r\n0123456789\r\n1\r\n!\r\n000\r\n\r\n")
    (record { method = codes "PUT"; target = codes "/x"; authority = codes "a"; fields = []; body = codes "0123456789!"; trailers = [] })
chunked_request = record {
  head = record { method = codes "PUT"; target = codes "/x"; fields = host_a ∷ chunked_field ∷ [] };
  head_text = codes "PUT /x HTTP/1.1\r\nHost:a\r\nTransfer-Encoding: Chunked\r\n\r\n";
  content = codes "00A\r\n0123456789\r\n1\r\n!\r\n000\r\n\r\n";
  is = refl;
  has_head = record {
    lines = codes "Host:a\r\nTransfer-Encoding: Chunked\r\n";
    is = refl;
    method = refl;
    target = refl;
    are_lines = (codes "Host:a\r\n", codes "Transfer-Encoding: Chunked\r\n", bare_host, refl, (codes "Transfer-Encoding: Chunked\r\n", [], chunked_line, refl, refl));
  };
  method = refl;
  target = refl;
  authority = refl;
  options = refl;
  fields = refl;
  body = (refl, chunks_read);
}

-- ---- what is no request

-- both framing lines, whatever follows
both_head : H1Head (codes "PUT /x HTTP/1.1\r\nHost:a\r\nTransfer-Encoding: Chunked\r\ncontent-length: 02\r\n\r\n")
    (record { method = codes "PUT"; target = codes "/x"; fields = host_a ∷ chunked_field ∷ length_field ∷ [] })
both_head = record {
  lines = codes "Host:a\r\nTransfer-Encoding: Chunked\r\ncontent-length: 02\r\n";
  is = refl;
  method = refl;
  target = refl;
  are_lines = (
    codes "Host:a\r\n",
    codes "Transfer-Encoding: Chunked\r\ncontent-length: 02\r\n",
    bare_host,
    refl,
    (codes "Transfer-Encoding: Chunked\r\n", codes "content-length: 02\r\n", chunked_line, refl, (codes "content-length: 02\r\n", [], length_line, refl, refl)),
  );
}

abbrev pub both_lines : List ℕ
both_lines = codes "PUT /x HTTP/1.1\r\nHost:a\r\nTransfer-Encoding: Chunked\r\ncontent-length: 02\r\n\r\n"

pub both_framings : (rest : List ℕ) → BeginsNoRequest (both_lines ++ rest)
both_framings rest = not_framed _ rest _ both_head (λ content body trailers framed. framed)

-- two lengths, though they say one number
lengths_head : H1Head (codes "PUT /x HTTP/1.1\r\nHost:a\r\ncontent-length: 02\r\ncontent-length: 02\r\n\r\n")
    (record { method = codes "PUT"; target = codes "/x"; fields = host_a ∷ length_field ∷ length_field ∷ [] })
lengths_head = record {
  lines = codes "Host:a\r\ncontent-length: 02\r\ncontent-length: 02\r\n";
  is = refl;
  method = refl;
  target = refl;
  are_lines = (
    codes "Host:a\r\n",
    codes "content-length: 02\r\ncontent-length: 02\r\n",
    bare_host,
    refl,
    (codes "content-length: 02\r\n", codes "content-length: 02\r\n", length_line, refl, (codes "content-length: 02\r\n", [], length_line, refl, refl)),
  );
}

two_lengths : (rest : List ℕ) → BeginsNoRequest (codes "PUT /x HTTP/1.1\r\nHost:a\r\ncontent-length: 02\r\ncontent-length: 02\r\n\r\n" ++ rest)
two_lengths rest = not_framed _ rest _ lengths_head (λ content body trailers framed. framed)

-- two host lines, though they are one
hosts_head : H1Head (codes "GET / HTTP/1.1\r\nHost:a\r\nHOST: a\r\n\r\n") (record { method = codes "GET"; target = codes "/"; fields = host_a ∷ host_a ∷ [] })
hosts_head = record {
  lines = codes "Host:a\r\nHOST: a\r\n";
  is = refl;
  method = refl;
  target = refl;
  are_lines = (codes "Host:a\r\n", codes "HOST: a\r\n", bare_host, refl, (codes "HOST: a\r\n", [], plain_host, refl, refl));
}

two_hosts : (rest : List ℕ) → BeginsNoRequest (codes "GET / HTTP/1.1\r\nHost:a\r\nHOST: a\r\n\r\n" ++ rest)
two_hosts rest = not_for_one_host _ rest _ hosts_head (λ authority e. cc)

-- no host line
no_host_head : H1Head (codes "GET / HTTP/1.1\r\nX-A: 1 2\r\n\r\n") (record { method = codes "GET"; target = codes "/"; fields = field_x ∷ [] })
no_host_head = record {
  lines = codes "X-A: 1 2\r\n";
  is = refl;
  method = refl;
  target = refl;
  are_lines = (codes "X-A: 1 2\r\n", [], line_x, refl, refl);
}

no_host : (rest : List ℕ) → BeginsNoRequest (codes "GET / HTTP/1.1\r\nX-A: 1 2\r\n\r\n" ++ rest)
no_host rest = not_for_one_host _ rest _ no_host_head (λ authority e. cc)
