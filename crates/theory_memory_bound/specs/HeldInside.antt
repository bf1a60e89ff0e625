-- How many octets lie in the session, and in what it keeps as far as the crates that it comes from
-- don't say it themselves (settings, flow_control, header_blocks, streams, window_credit, request_buffer,
-- send_buffer, upstream_response, upstream_connections). Each count takes the struct apart by the
-- names of all its fields, and counts each by its type: what lies in one field more has to be
-- counted here.
use Rattle.std.specs.Prelude.{ℕ, ◌+◌, ℤ, Bool, List, length, sum_by}
use Rattle.model.specs.Tables.{total_size}
use Rattle.theory_errors.specs.Held.{octets_begun}
use Rattle.theory_errors.specs.Rows.{Row}
use Rattle.theory_responses.specs.Held.{octets_in, octets_held, octets_of_fields}
use Rattle.theory_responses.specs.State.{Kept}
use Rattle.theory_requests.specs.Held.{held_of_all}
use Rattle.h1_reader.specs.HeadSizes.{field_octets}
use Rattle.hpack_table.specs.HeldInside.{in_number, in_index_if}
use Rattle.header_blocks.specs.HeldInside as blocks
use Rattle.upstream_connections.specs.HeldInside.{answers_in}
use Rattle.hpack_table.specs.declared.field.Field.TheInside.{Inside as FieldInside}
use Rattle.hpack_table.specs.Ringed.{fields_in}
use Rattle.hpack_table.specs.declared.ring.Ring.TheInside.{Inside as RingInside}
use Rattle.hpack_table.specs.declared.table.Table.TheInside.{Inside as TableInside}
use Rattle.window_credit.specs.Sides.{Side}
use Rattle.h1_writer.specs.Views.{stage_of}
use Rattle.h1_writer.specs.declared.sender.Sender.TheInside.{Inside as SenderInside}
use Rattle.h1_writer.specs.Sending.{held_back}
use Rattle.response_texts.specs.declared.passed.ResponseHead.TheInside.{Inside as HeadInside}
use Rattle.response_texts.specs.declared.passed.Trailers.TheInside.{Inside as TrailersInside}
use Rattle.httparse.specs.declared.spans.HeaderSpan.{HeaderSpan}
use Rattle.h1_reader.specs.declared.reader.Place.{Place}
use Rattle.h1_reader.specs.declared.reader.Reader.TheInside.{Inside as ReaderInside}
use Rattle.connection_state.specs.declared.connection.Connection.TheInside.{Inside as ConnectionInside}
use Rattle.send_queue.specs.declared.kept.Kept.TheInside.{Inside as KeptInside}
use Rattle.send_queue.specs.declared.offered.Offered.{Offered}
use Rattle.send_queue.specs.declared.offers.Offers.TheInside.{Inside as OffersInside}
use Rattle.refinement.specs.declared.session.Session.TheInside.{Inside as SessionInside}

-- none in a flag
abbrev pub in_flag : Bool → ℕ
in_flag flag = 0

-- ---- fields, heads and trailers

-- in a field: its name and its value are one list
abbrev pub in_field : FieldInside → ℕ
in_field = λ record { text = text; split = split }. in_number split + length text.items

-- in the ring that its fields stand in
abbrev pub in_ring : RingInside → ℕ
in_ring = λ record { buffer = buffer; alloc = alloc }. octets_of_fields (fields_in buffer)

-- in a table of fields, and in its index
abbrev pub in_table : TableInside → ℕ
in_table = λ record { fields = fields; size = size; maximum = maximum; index = index }.
    in_number size + in_number maximum + in_index_if index + octets_of_fields fields

-- in a head, and in trailers
abbrev pub in_head : HeadInside → ℕ
in_head = λ record { status = status; fields = fields }. in_number status + octets_of_fields fields.items

abbrev pub in_trailers : TrailersInside → ℕ
in_trailers = λ record { lines = lines }. octets_of_fields lines.items

-- in the writer of a request: the octet that is held back
abbrev pub in_sender : SenderInside → ℕ
in_sender = λ record { waiting = waiting }. held_back (stage_of waiting)

-- none in where a reader stands, which has numbers alone, and none in a span of what it reads
abbrev pub in_place : Place → ℕ
in_place place = 0

abbrev pub in_span : HeaderSpan → ℕ
in_span = λ record { name = name; value = value }. in_number name.start + in_number name.end + in_number value.start + in_number value.end

-- in a reader of a response: what it holds unread, and the fields Connection of its head
abbrev pub in_reader : ReaderInside → ℕ
in_reader = λ record { alloc = alloc; to_head = to_head; place = place; held = held; connections = connections; keeps = keeps; spans = spans }.
    in_flag to_head + in_place place + in_flag keeps + length held.items + field_octets connections.items + sum_by in_span spans.items

-- ---- the session

-- none in what is seen of streams and of what waits of their DATA, and none in a size, a number perhaps below zero
abbrev pub in_rows : List Row → ℕ
in_rows rows = 0

abbrev pub in_sides : List Side → ℕ
in_sides sides = 0

abbrev pub in_size : ℤ → ℕ
in_size size = 0

-- in what is kept for the client's frames: its header block that isn't complete, and its table
abbrev pub in_connection : ConnectionInside → ℕ
in_connection = λ record {
  has_come = has_come;
  joiner = joiner;
  continuations = continuations;
  settings = settings;
  window = window;
  own = own;
  room = room;
  drained = drained;
  streams = streams;
  resets = resets;
  last = last;
  decoder = decoder;
  alloc = alloc;
}.
    in_flag has_come + in_flag drained + in_number continuations + in_rows streams + in_number settings + in_size window + in_number own + in_size room + in_number resets + in_number last
    + blocks.octets_begun joiner.begun + total_size decoder.table.fields

-- in what is kept of a stream's response, and of all: what is on offer
abbrev pub in_kept : KeptInside → ℕ
in_kept = λ record { id = id; outbox = outbox; cut = cut }. in_number id + in_flag cut + octets_in outbox

-- none in which streams have something on offer, three numbers
abbrev pub in_offered : Offered → ℕ
in_offered = λ record { count = count; low = low; high = high }. in_number count + in_number low + in_number high

abbrev pub in_offers : OffersInside → ℕ
in_offers = λ record { alloc = alloc; kept = kept; last = last; offered = offered }.
    in_number last + in_offered offered + sum_by (λ (k : Kept). octets_in k.box) kept.items

-- in the whole session
abbrev pub in_session : SessionInside → ℕ
in_session = λ record { inbound = inbound; offers = offers; upstreams = upstreams; marks = marks; encoder = encoder; untaken = untaken }.
    in_sides marks + in_number untaken + octets_begun inbound.block + total_size inbound.table.fields + total_size encoder.table.fields
    + (octets_held offers + held_of_all upstreams.held + answers_in upstreams.live)
