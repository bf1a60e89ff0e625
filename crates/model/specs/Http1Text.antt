-- The text that the gateway writes for a request: one spelling among all those that a server reads as it.
use Rattle.std.specs.Prelude.{ℕ, ◌+◌, Bool, true, false, nat_lt, if◌then◌else◌, List, [], ◌∷◌, ◌++◌, length, map, codes, decimal, Option, Some, None}
use Rattle.std.specs.List.{concat, flat_map}
use Rattle.std.specs.Int.Digits.{digits_of}
use Rattle.model.specs.Messages.{Field, Request}
use Rattle.model.specs.Http1.{crlf, via}

-- a field's line: one space behind the colon, none behind the value
abbrev pub line_text : Field → List ℕ
line_text field = field.name ++ codes ": " ++ field.value ++ crlf

abbrev pub lines_text : List Field → List ℕ
lines_text fields = flat_map line_text fields

-- the line that says how the body is framed: the declared length, or chunks where more is to come, or nothing
abbrev pub framing_of : Option ℕ → Bool → List Field
framing_of (Some declared) ended = record { name = codes "content-length"; value = decimal declared } ∷ []
framing_of None false = record { name = codes "transfer-encoding"; value = codes "chunked" } ∷ []
framing_of None true = []

-- the line that says that no other request is sent on the connection, unless that is kept
abbrev pub closing : Bool → List Field
closing true = []
closing false = record { name = codes "connection"; value = codes "close" } ∷ []

-- the fields in the order in which they are written
abbrev pub written_fields : Bool → Request → List Field → List Field
written_fields keep request framing = record { name = codes "host"; value = request.authority } ∷ request.fields ++ via ∷ framing ++ closing keep

-- the request line, the lines and the empty line
abbrev pub head_text : Bool → Request → List Field → List ℕ
head_text keep request framing =
    request.method ++ codes " " ++ request.target ++ codes " HTTP/1.1" ++ crlf ++ lines_text (written_fields keep request framing) ++ crlf

-- a digit in base sixteen, in lower case
abbrev pub hex_digit : ℕ → ℕ
hex_digit digit = if nat_lt digit 10 then 48 + digit else 87 + digit

-- a size above 0 in base sixteen, without leading zeros
abbrev pub hex_size : ℕ → List ℕ
hex_size size = map hex_digit (digits_of 16 size)

-- a chunk (RFC 9112, section 7.1)
abbrev pub chunk_text : List ℕ → List ℕ
chunk_text piece = hex_size (length piece) ++ crlf ++ piece ++ crlf

-- the last chunk, with these trailers (RFC 9112, section 7.1.2)
abbrev pub last_chunk : List Field → List ℕ
last_chunk trailers = codes "0" ++ crlf ++ lines_text trailers ++ crlf

-- what follows a head, for a body that came in these pieces, and trailers: chunks, with the trailers behind them, where no length was
-- declared, and else the body alone
abbrev pub content_of : Option ℕ → Bool → List (List ℕ) → List Field → List ℕ
content_of (Some declared) ended pieces trailers = concat pieces
content_of None true pieces trailers = []
content_of None false pieces trailers = flat_map chunk_text pieces ++ last_chunk trailers
