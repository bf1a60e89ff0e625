-- How many octets lie in this crate's types. Each count takes the struct apart by the names of all its fields, and counts each by its type: what lies in
-- one field more has to be counted here.
use Rattle.std.specs.Prelude.{ℕ, ◌+◌, Bool, Option, Some, None, sum_by}
use Rattle.theory_errors.specs.Summary.{Stream as Kept}
use Rattle.flow_control.specs.HeldInside.{in_size}
use Rattle.streams.specs.declared.StreamTable.TheInside.{Inside as StreamsInside}
use Rattle.streams.specs.declared.course.Course.{Course}
use Rattle.streams.specs.declared.course.Reply.{Reply}
use Rattle.streams.specs.declared.entries.StreamEntry.{StreamEntry}
use Rattle.streams.specs.declared.entries.Slot.{Slot}
use Rattle.streams.specs.declared.entries.Slot.TheVariants as slot
use Rattle.streams.specs.declared.live.Live.TheInside.{Inside as LiveInside}
use Rattle.streams.specs.declared.records.StreamRecord.{StreamRecord}

-- ---- a stream

-- none in a number, and none in a flag
abbrev pub in_number : ℕ → ℕ
in_number number = 0

abbrev pub in_flag : Bool → ℕ
in_flag flag = 0

abbrev pub in_number_if : Option ℕ → ℕ
in_number_if None = 0
in_number_if (Some number) = in_number number

-- in a reply, whose cause is one of a few names
abbrev pub in_reply : Reply → ℕ
in_reply = λ record { cause = cause; head_out = head_out }. in_flag head_out

abbrev pub in_reply_if : Option Reply → ℕ
in_reply_if None = 0
in_reply_if (Some reply) = in_reply reply

-- in the course of a request
abbrev pub in_course : Course → ℕ
in_course = λ record { begun = begun; declared = declared; octets = octets; over = over; reply = reply }.
    in_flag begun + in_number_if declared + in_number octets + in_flag over + in_reply_if reply

-- in what is kept of an active stream
abbrev pub in_live : LiveInside → ℕ
in_live = λ record {
  ended_by_client = ended_by_client;
  ended_by_gateway = ended_by_gateway;
  balance = balance;
  room = room;
  head_out = head_out;
  course = course;
}.
    in_flag ended_by_client + in_flag ended_by_gateway + in_size balance + in_size room + in_flag head_out + in_course course

-- ---- all that were opened

-- none in what is seen of an active stream, which has numbers and flags alone
abbrev pub in_kept : Kept → ℕ
in_kept kept = 0

-- in the record of an active stream, and at a key
abbrev pub in_record : StreamRecord → ℕ
in_record = λ record { id = id; live = live }. in_number id + in_kept live

abbrev pub at_key : Option StreamRecord → ℕ
at_key None = 0
at_key (Some r) = in_record r

-- in the entry of a stream
abbrev pub in_slot : Slot → ℕ
in_slot (slot.Live key) = in_number key
in_slot (slot.Over by_us) = in_flag by_us

abbrev pub in_entry : StreamEntry → ℕ
in_entry = λ record { id = id; slot = slot }. in_number id + in_slot slot

-- in all
abbrev pub in_streams : StreamsInside → ℕ
in_streams = λ record { entries = entries; records = records }. sum_by in_entry entries.items + sum_by at_key records.slots
