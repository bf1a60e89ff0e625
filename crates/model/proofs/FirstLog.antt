-- A worked log: a client's preface, its empty settings and one GET come in one piece, and the gateway's settings, their
-- acknowledgement, an upstream's opening and a request's text are put out. `HeadlineExamples` shows of it that it keeps the headline.
use Rattle.std.proofs.Common.{◌≡◌, ℕ, true, false, List, [], ◌∷◌, ◌++◌, length, length-append, ◌+◌, refl, ◌∙◌, ap, arith, inl, inr, ◌==◌, if◌then◌else◌}
use Rattle.std.specs.Prelude.{◌/◌, ◌^◌, slice_index, Some, codes}
use Rattle.model.specs.Octets.{some_of, is_token_octet, is_value, lower}
use Rattle.model.specs.Messages.{Field, Request, Item}
use Rattle.model.specs.Frames.{Frame, Fits, Spells, Reading, BeginsNoFrame, preface, spell, settings_frame, settings_ack}
use Rattle.model.specs.Integers.{IsShortInt, IsMarkedInt}
use Rattle.model.specs.Tables.{first_table, static_table, look_up}
use Rattle.model.specs.Blocks as blocks
use Rattle.model.specs.Http1 as http1
use Rattle.model.specs.Http1.{crlf, Line, H1Request, BeginsNoRequest, forward, H1Head}
use Rattle.model.specs.Http2.{WellFormedHead}
use Rattle.model.specs.Logs.{Step}
use Rattle.model.specs.Logs.Event.{Client}
use Rattle.model.specs.Logs.Act.{Open, ToUp}
use Rattle.model.specs.Logs.Output.{ToClient, Does}
use Rattle.model.specs.Setup.{Setup}
use Rattle.model.specs.Setup.Policy.{Plain}
use Rattle.model.specs.Setup.Passing.{Whole}
use Rattle.model.specs.Tapes.{Noted, Entry, sent, IsRead, EndsWithClose}
use Rattle.model.specs.Tapes.Note.{NoBlock, Fields}
use Rattle.model.specs.Tapes.Entry.{Came, Sent, Did}
use Rattle.model.specs.Decoding.{Decodes}
use Rattle.model.specs.Available.{items_on}

-- one route for every authority and path
abbrev pub setup : Setup
setup = record { routes = record { authority = []; path = codes "/" } ∷ []; policy = Plain; passing = Whole; max_body = 1000; max_response = 1000; keep = false; most_idle = 8; more_room = 0 }

abbrev pub settings : Frame
settings = record { kind = 4; flags = 0; id = 0; payload = [] }

-- the indices 2, 6 and 4 of the static table, and a literal with the name at index 1 that isn't inserted
abbrev pub block : List ℕ
block = 130 ∷ 134 ∷ 132 ∷ 1 ∷ 1 ∷ 97 ∷ []

abbrev pub headers : Frame
headers = record { kind = 1; flags = 5; id = 1; payload = block }

abbrev pub field : List ℕ → List ℕ → Field
field name value = record { name = name; value = value }

abbrev pub head : List Field
head = field (codes ":method") (codes "GET") ∷ field (codes ":scheme") (codes "http") ∷ field (codes ":path") (codes "/") ∷ field (codes ":authority") (codes "a") ∷ []

abbrev pub text : List ℕ
text = codes "GET / HTTP/1.1\r\nhost: a\r\nvia: 2.0 h2gw\r\nconnection: close\r\n\r\n"

abbrev pub step : Step
step = record {
  event = Client (preface ++ spell settings ++ spell headers);
  outputs = ToClient (spell (settings_frame 0) ++ spell settings_ack) ∷ Does (Open 1 0) ∷ Does (ToUp 1 text) ∷ [];
}

abbrev pub settings_came : Noted
settings_came = record { frame = settings; note = NoBlock }

abbrev pub headers_came : Noted
headers_came = record { frame = headers; note = Fields head }

-- the newest entry stands first
abbrev pub tape : List Entry
tape =
    Did (ToUp 1 text) ∷ Did (Open 1 0) ∷ Came headers_came ∷ Sent (record { frame = settings_ack; note = NoBlock }) ∷ Came settings_came
    ∷ Sent (record { frame = settings_frame 0; note = NoBlock }) ∷ []

-- ---- the client's octets are the preface and the two frames

pub no_frame : BeginsNoFrame []
no_frame octets more frame spells e = absurd (let n : 0 ≡ length (octets ++ more) = ap length e in let is = ap length spells.is in cc)

pub settings_spelled : Spells (spell settings) settings
settings_spelled = record { fits = record { kind = omega arith; flags = omega arith; id = omega arith; payload = omega arith }; bit = 0; is_bit = omega arith; is = refl }

pub headers_spelled : Spells (spell headers) headers
headers_spelled = record { fits = record { kind = omega arith; flags = omega arith; id = omega arith; payload = omega arith }; bit = 0; is_bit = omega arith; is = refl }

pub reading : Reading (spell settings ++ spell headers) (settings ∷ headers ∷ []) []
reading = (spell settings, spell headers, settings_spelled, refl, (spell headers, [], headers_spelled, refl, refl))

-- ---- the block's fields

pub short : (prefix mark first value : ℕ) → IsShortInt prefix (first ∷ []) value → slice_index (first ∷ []) 0 / 2 ^ prefix ≡ mark → IsMarkedInt prefix mark (first ∷ []) value
short prefix mark first value is marked = record { int = inl is; marked = marked }

pub indexed : (first index : ℕ) (entry : Field) → IsMarkedInt 7 1 (first ∷ []) index → look_up first_table index ≡ Some entry → blocks.Represents first_table (first ∷ []) entry first_table
indexed first index entry marked found = inl (record { index = index; marked = marked; found = found; same = refl })

found_method : look_up first_table 2 ≡ Some (field (codes ":method") (codes "GET"))
unfolding static_table
found_method = refl

found_scheme : look_up first_table 6 ≡ Some (field (codes ":scheme") (codes "http"))
unfolding static_table
found_scheme = refl

found_path : look_up first_table 4 ≡ Some (field (codes ":path") (codes "/"))
unfolding static_table
found_path = refl

found_authority : look_up first_table 1 ≡ Some (field (codes ":authority") [])
unfolding static_table
found_authority = refl

authority_literal : blocks.Represents first_table (1 ∷ 1 ∷ 97 ∷ []) (field (codes ":authority") (codes "a")) first_table
authority_literal = inr (inr (inl (record {
  literal = record {
    index = 1;
    index_octets = 1 ∷ [];
    name_octets = [];
    value_octets = 1 ∷ 97 ∷ [];
    is = refl;
    marked = short 4 0 1 1 (record { first = 1; is = refl; low_bits = refl; not_ones = omega arith }) refl;
    name = inr (record { is_empty = refl; entry = field (codes ":authority") []; found = found_authority; same = refl });
    string = inl (record { header = 1 ∷ []; is = refl; number = short 7 0 1 1 (record { first = 1; is = refl; low_bits = refl; not_ones = omega arith }) refl });
  };
  same = refl;
})))

fields_read : blocks.AreFields first_table block head first_table
fields_read = (
  130 ∷ [],
  134 ∷ 132 ∷ 1 ∷ 1 ∷ 97 ∷ [],
  first_table,
  refl,
  indexed 130 2 _ (short 7 1 130 2 (record { first = 130; is = refl; low_bits = refl; not_ones = omega arith }) refl) found_method,
  (
    134 ∷ [],
    132 ∷ 1 ∷ 1 ∷ 97 ∷ [],
    first_table,
    refl,
    indexed 134 6 _ (short 7 1 134 6 (record { first = 134; is = refl; low_bits = refl; not_ones = omega arith }) refl) found_scheme,
    (
      132 ∷ [],
      1 ∷ 1 ∷ 97 ∷ [],
      first_table,
      refl,
      indexed 132 4 _ (short 7 1 132 4 (record { first = 132; is = refl; low_bits = refl; not_ones = omega arith }) refl) found_path,
      (1 ∷ 1 ∷ 97 ∷ [], [], first_table, refl, authority_literal, (refl, refl)),
    ),
  ),
)

block_read : blocks.Block first_table block head first_table
block_read = record { maxima = []; is_block = record { front = []; rest = block; between = first_table; is = refl; are_maxima = (refl, refl); are_fields = fields_read } }

pub decodes : Decodes (headers_came ∷ settings_came ∷ []) first_table
decodes = (first_table, (first_table, refl, (refl, refl), refl), block_read, refl)

-- ---- the request, on both sides

abbrev pub request : Request
request = record { method = codes "GET"; target = codes "/"; authority = codes "a"; fields = []; body = []; trailers = [] }

pub well_formed : WellFormedHead head
well_formed = record {
  pseudo_fields_hold = record { first = refl; known = refl; method = refl; scheme = refl; path = refl; one_authority = omega arith; connect_authority = λ e. absurd (let f : false ≡ true = e in cc) };
  names_hold = refl;
  values_hold = refl;
  no_connection_field = refl;
  te_holds = refl;
  method_holds = refl;
  scheme_holds = refl;
  path_holds = refl;
  authority_holds = record { one_host = omega arith; octets = refl; same = refl };
  length_holds = record { one = omega arith; digits = refl };
}

line : (name value : List ℕ) → some_of is_token_octet name ≡ true → is_value value ≡ true → Line (name ++ 58 ∷ (32 ∷ []) ++ value ++ [] ++ crlf) (field (lower name) value)
line name value token good = record { name = name; before = 32 ∷ []; after = []; is = refl; is_token = token; space_before = refl; is_value = good; space_after = refl; is_named = refl }

abbrev pub read_head : http1.Head
read_head = record { method = codes "GET"; target = codes "/"; fields = field (codes "host") (codes "a") ∷ field (codes "via") (codes "2.0 h2gw") ∷ field (codes "connection") (codes "close") ∷ [] }

pub has_read_head : H1Head text read_head
has_read_head = record {
  lines = codes "host: a\r\nvia: 2.0 h2gw\r\nconnection: close\r\n";
  is = refl;
  method = refl;
  target = refl;
  are_lines = (
    codes "host: a\r\n",
    codes "via: 2.0 h2gw\r\nconnection: close\r\n",
    line (codes "host") (codes "a") refl refl,
    refl,
    (
      codes "via: 2.0 h2gw\r\n",
      codes "connection: close\r\n",
      line (codes "via") (codes "2.0 h2gw") refl refl,
      refl,
      (codes "connection: close\r\n", [], line (codes "connection") (codes "close") refl refl, refl, refl),
    ),
  );
}

pub reads : H1Request text (forward request)
reads = record {
  head = read_head;
  head_text = text;
  content = [];
  is = refl;
  has_head = has_read_head;
  method = refl;
  target = refl;
  authority = refl;
  options = refl;
  fields = refl;
  body = (refl, refl, refl);
}

pub nothing_begins_none : BeginsNoRequest []
nothing_begins_none front more request reads is = absurd (
    let size : 0 ≡ length front + length more = ap length is ∙ length-append front more in
    let parts : length front ≡ length reads.head_text + length reads.content = ap length reads.is ∙ length-append reads.head_text reads.content in
    let head = reads.has_head in
    let whole : length reads.head_text ≡ length head.lines + (length reads.head.method + (length reads.head.target + 14)) = ap length head.is ∙ simp length-append (omega arith) in
    omega arith)

-- no stream was sent anything yet
pub nothing_on : (stream : ℕ) → items_on stream (sent tape) ≡ []
nothing_on stream = elim (0 == stream) as (λ b. ([] ++ (if b then [] else [])) ++ (if b then [] else []) ≡ (let none : List Item = [] in none)) [ true ↦ refl | false ↦ refl ]

-- ---- the log

pub settings_fits : Fits (settings_frame 0)
settings_fits = record { kind = omega arith; flags = omega arith; id = omega arith; payload = omega arith }

pub ack_fits : Fits settings_ack
ack_fits = record { kind = omega arith; flags = omega arith; id = omega arith; payload = omega arith }

pub read : IsRead (preface ++ spell settings ++ spell headers) tape
read = inr (inr (record { behind = spell settings ++ spell headers; rest = []; begins = refl; reading = reading; breach = inl refl; no_more = λ on. (no_frame, λ long. absurd (let nine = long.header in omega (arith, nine))) }))

-- nothing comes behind the client's close
pub ends : EndsWithClose tape
ends = (refl, (refl, (refl, (refl, (refl, (refl, tt))))))
