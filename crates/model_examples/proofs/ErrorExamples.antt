-- Worked rows of errors, by computation: the fault of a frame, and the frames that it calls for.
use Rattle.std.specs.Prelude.{◌≡◌, ℕ, zero, suc, true, false, List, [], ◌∷◌, ◌++◌, Some, None, refl, codes}
use Rattle.model.specs.Messages.Item.{Block, Content}
use Rattle.model.specs.Tables.{total_size}
use Rattle.model.specs.Frames.{goaway, setting, settings_ack, protocol_error, flow_control_error, frame_size_error, compression_error, stream_closed, enhance_your_calm}
use Rattle.model.specs.Tapes.{Noted, Entry}
use Rattle.model.specs.Tapes.Note.{Undecodable}
use Rattle.model.specs.Tapes.Breach.{WrongPreface, TooLong}
use Rattle.model.specs.Tapes.Entry.{Came, Breached}
use Rattle.model.specs.Errors.Fault.{Connection, Discarded}
use Rattle.model.specs.Courses.{items, fault}
use Rattle.model.specs.ErrorClause.{rst_stream, ping_ack, owed_by}
use Rattle.model_examples.proofs.RowTapes.{by_whole, by_streaming, frame, plain, headed, out, field, get, get_block, post, post_block, begun, getting, got, answered, update, settings}

-- ---- a header block in four frames, and a PING between them

abbrev pub two_frames : List Entry
two_frames = plain (frame 9 0 1 (65 ∷ 15 ∷ codes "www")) ∷ plain (frame 1 1 1 (130 ∷ 134 ∷ 132 ∷ [])) ∷ begun

abbrev pub three_frames : List Entry
three_frames = plain (frame 9 0 1 (codes ".ex")) ∷ two_frames

pub no_item_yet : items by_whole 1 three_frames ≡ []
unfolding total_size
no_item_yet = refl

pub whole_block : items by_whole 1 (headed (frame 9 4 1 (codes "ample.com")) get ∷ three_frames) ≡ Block get true ∷ []
unfolding total_size
whole_block = refl

pub ping_between : fault by_whole two_frames (plain (frame 6 0 0 (1 ∷ 2 ∷ 3 ∷ 4 ∷ 5 ∷ 6 ∷ 7 ∷ 8 ∷ []))) ≡ Some (Connection protocol_error)
unfolding total_size
ping_between = refl

pub goaway_between : owed_by by_whole two_frames (plain (frame 6 0 0 (1 ∷ 2 ∷ 3 ∷ 4 ∷ 5 ∷ 6 ∷ 7 ∷ 8 ∷ []))) ≡ goaway 0 protocol_error ∷ []
unfolding total_size
goaway_between = refl

-- ---- a block of many frames: 64 CONTINUATION frames may come, and no more

abbrev pub going_on : ℕ → List Entry
going_on zero = plain (frame 1 1 1 (130 ∷ [])) ∷ begun
going_on (suc n) = plain (frame 9 0 1 []) ∷ going_on n

pub one_more : fault by_whole (going_on 63) (plain (frame 9 0 1 [])) ≡ None
unfolding total_size
one_more = refl

pub too_many : owed_by by_whole (going_on 64) (plain (frame 9 0 1 [])) ≡ goaway 0 enhance_your_calm ∷ []
unfolding total_size
too_many = refl

-- ---- blocks that can't be read

abbrev pub lost : Noted
lost = record { frame = frame 1 5 3 (130 ∷ 134 ∷ 132 ∷ 190 ∷ []); note = Undecodable }

pub lost_block : fault by_whole got (Came lost) ≡ Some (Connection compression_error)
unfolding total_size
lost_block = refl

-- the stream of such a block isn't opened
pub goaway_of_lost : owed_by by_whole got (Came lost) ≡ goaway 1 compression_error ∷ []
unfolding total_size
goaway_of_lost = refl

-- ---- frames on streams that are closed

-- stream 5 was opened, and 3 was skipped
pub data_on_skipped : owed_by by_whole (getting 1 5 begun) (plain (frame 0 0 3 (120 ∷ []))) ≡ goaway 5 stream_closed ∷ []
unfolding total_size
data_on_skipped = refl

pub update_on_skipped : fault by_whole (getting 1 5 begun) (plain (update 3 1)) ≡ Some Discarded
unfolding total_size
update_on_skipped = refl

pub nothing_for_skipped : owed_by by_whole (getting 1 5 begun) (plain (update 3 1)) ≡ []
unfolding total_size
nothing_for_skipped = refl

-- DATA behind a whole request and its whole response
pub data_on_closed : owed_by by_whole answered (plain (frame 0 0 1 (120 ∷ []))) ≡ goaway 1 stream_closed ∷ []
unfolding total_size
data_on_closed = refl

-- DATA behind a whole request that isn't answered yet, and once more behind the reset
pub data_behind_end : owed_by by_whole got (plain (frame 0 0 1 (120 ∷ []))) ≡ rst_stream 1 stream_closed ∷ []
unfolding total_size
data_behind_end = refl

abbrev pub once : List Entry
once = out (update 0 1) ∷ out (rst_stream 1 stream_closed) ∷ plain (frame 0 0 1 (120 ∷ [])) ∷ got

pub data_behind_reset : fault by_whole once (plain (frame 0 0 1 (120 ∷ []))) ≡ Some Discarded
unfolding total_size
data_behind_reset = refl

-- the fault behind the request doesn't take the request back
pub request_stays : items by_whole 1 once ≡ Block get true ∷ []
unfolding total_size
request_stays = refl

-- ---- more octets than were declared

abbrev pub declared_five : List Entry
declared_five = plain (frame 0 0 1 (codes "hello")) ∷ headed (frame 1 4 1 (post_block ++ 15 ∷ 13 ∷ 1 ∷ 53 ∷ [])) (post ++ field (codes "content-length") (codes "5") ∷ []) ∷ begun

pub past_declared : owed_by by_whole declared_five (plain (frame 0 0 1 (codes "x"))) ≡ rst_stream 1 protocol_error ∷ []
unfolding total_size
past_declared = refl

pub faultless_items : items by_streaming 1 (plain (frame 0 0 1 (codes "x")) ∷ declared_five) ≡ Block (post ++ field (codes "content-length") (codes "5") ∷ []) false ∷ Content (codes "hello") false ∷ []
unfolding total_size
faultless_items = refl

-- an empty DATA ends the body just there
pub just_declared : fault by_whole declared_five (plain (frame 0 1 1 [])) ≡ None
unfolding total_size
just_declared = refl

-- trailers with a pseudo-field
pub bad_trailers : owed_by by_streaming declared_five (headed (frame 1 5 1 (132 ∷ [])) (field (codes ":path") (codes "/") ∷ [])) ≡ rst_stream 1 protocol_error ∷ []
unfolding total_size
bad_trailers = refl

-- ---- heads that are malformed: a value with a line's end, a path with a space, two lengths, a name in upper case

abbrev pub head_with : List ℕ → List ℕ → Entry
head_with name value = headed (frame 1 5 1 get_block) (get ++ field name value ∷ [])

pub line_in_value : owed_by by_whole begun (head_with (codes "x-a") (codes "1\r\n")) ≡ rst_stream 1 protocol_error ∷ []
unfolding total_size
line_in_value = refl

pub transfer_coding : owed_by by_whole begun (head_with (codes "transfer-encoding") (codes "chunked")) ≡ rst_stream 1 protocol_error ∷ []
unfolding total_size
transfer_coding = refl

pub upper_case : owed_by by_whole begun (head_with (codes "X") (codes "1")) ≡ rst_stream 1 protocol_error ∷ []
unfolding total_size
upper_case = refl

pub good_field : owed_by by_whole begun (head_with (codes "x") (codes "1")) ≡ []
unfolding total_size
good_field = refl

-- ---- the connection

pub wrong_preface : owed_by by_whole begun (Breached WrongPreface) ≡ goaway 0 protocol_error ∷ []
wrong_preface = refl

pub too_long : owed_by by_whole begun (Breached TooLong) ≡ goaway 0 frame_size_error ∷ []
too_long = refl

pub answered_ping : owed_by by_whole begun (plain (frame 6 0 0 (1 ∷ 2 ∷ 3 ∷ 4 ∷ 5 ∷ 6 ∷ 7 ∷ 8 ∷ []))) ≡ ping_ack (1 ∷ 2 ∷ 3 ∷ 4 ∷ 5 ∷ 6 ∷ 7 ∷ 8 ∷ []) ∷ []
unfolding total_size
answered_ping = refl

pub acknowledged : owed_by by_whole begun (plain (settings (setting 4 10))) ≡ settings_ack ∷ []
unfolding total_size
acknowledged = refl

-- increments of the connection's window: 7fff0000 leaves it at the greatest, one more is past it, and 0 is an error
pub greatest : fault by_whole begun (plain (update 0 2147418112)) ≡ None
unfolding total_size
greatest = refl

pub past_greatest : owed_by by_whole begun (plain (update 0 2147418113)) ≡ goaway 0 flow_control_error ∷ []
unfolding total_size
past_greatest = refl

pub by_nothing : owed_by by_whole begun (plain (update 0 0)) ≡ goaway 0 protocol_error ∷ []
unfolding total_size
by_nothing = refl

-- HEADERS on an even id and on 0, DATA on an idle id, settings with a wrong value
pub even_headers : owed_by by_whole got (headed (frame 1 5 2 get_block) get) ≡ goaway 1 protocol_error ∷ []
unfolding total_size
even_headers = refl

pub headers_on_0 : owed_by by_whole got (headed (frame 1 5 0 get_block) get) ≡ goaway 1 protocol_error ∷ []
unfolding total_size
headers_on_0 = refl

pub idle_data : owed_by by_whole got (plain (frame 0 0 3 [])) ≡ goaway 1 protocol_error ∷ []
unfolding total_size
idle_data = refl

pub wrong_size : owed_by by_whole got (plain (settings (setting 5 16383))) ≡ goaway 1 protocol_error ∷ []
unfolding total_size
wrong_size = refl

-- HEADERS on an id below one that was opened, and again on a stream that is closed
pub lower_headers : owed_by by_whole (getting 1 5 begun) (headed (frame 1 5 3 get_block) get) ≡ goaway 5 protocol_error ∷ []
unfolding total_size
lower_headers = refl

pub again : owed_by by_whole answered (headed (frame 1 5 1 get_block) get) ≡ goaway 1 stream_closed ∷ []
unfolding total_size
again = refl
