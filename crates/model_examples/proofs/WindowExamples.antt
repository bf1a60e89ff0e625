-- Worked rows of windows, by computation.
use Rattle.std.specs.Prelude.{◌≡◌, ℕ, true, false, List, [], ◌∷◌, ◌++◌, refl, codes, pos, negsuc, replicate}
use Rattle.model.specs.Messages.Item.{Block, Content}
use Rattle.model.specs.Tables.{total_size}
use Rattle.model.specs.Frames.{goaway, setting, settings_frame, settings_ack, protocol_error, flow_control_error}
use Rattle.model.specs.Logs.Event.{UpTook}
use Rattle.model.specs.Logs.Act.{Open, ToUp, Close}
use Rattle.model.specs.Setup.Passing.{Streaming}
use Rattle.model.specs.Tapes.{Entry}
use Rattle.model.specs.Tapes.Entry.{Happened, Did}
use Rattle.model.specs.WindowsOnTape.{first_size, stream_window, connection_window, table_limit, room_on, room_on_connection}
use Rattle.model.specs.ResponseClause.{limits_since}
use Rattle.model.specs.Courses.{items}
use Rattle.model.specs.ErrorClause.{rst_stream, owed_by}
use Rattle.model.specs.WindowClause.{kept, kept_in_all}
use Rattle.model_examples.proofs.RowTapes.{by_whole, frame, plain, headed, out, out_headed, field, post, post_block, begun, getting, got, answered, update, settings}

-- ---- a first size of 10, which is lowered to 3 when 10 octets were sent

abbrev pub small : List Entry
small = getting 1 1 (out settings_ack ∷ plain (settings (setting 4 10)) ∷ out (settings_frame 0) ∷ [])

pub ten : stream_window 1 small ≡ pos 10
unfolding total_size
ten = refl

abbrev pub ten_sent : List Entry
ten_sent = out (frame 0 0 1 (codes "abcdefghij")) ∷ out_headed (frame 1 4 1 (136 ∷ [])) (field (codes ":status") (codes "200") ∷ []) ∷ Did (Close 1) ∷ small

pub none_left : stream_window 1 ten_sent ≡ pos 0
none_left = refl

abbrev pub lowered : List Entry
lowered = out settings_ack ∷ plain (settings (setting 4 3)) ∷ ten_sent

pub below_zero : stream_window 1 lowered ≡ negsuc 6
below_zero = refl

-- the connection's window isn't shifted
pub not_shifted : connection_window lowered ≡ pos 65525
not_shifted = refl

-- an increment of 12 leaves 5, which are sent, and one of 5 leaves 5 again
abbrev pub five_sent : List Entry
five_sent = out (frame 0 0 1 (codes "klmno")) ∷ plain (update 1 12) ∷ lowered

pub five_left : stream_window 1 (plain (update 1 12) ∷ lowered) ≡ pos 5
five_left = refl

pub five_more : stream_window 1 (plain (update 1 5) ∷ five_sent) ≡ pos 5
five_more = refl

-- settings that are an error change nothing: a first size past the greatest
pub no_change : first_size (plain (settings (setting 4 2147483648)) ∷ ten_sent) ≡ 10
no_change = refl

-- nor does a first size with which the window of an active stream is past the greatest
pub no_shift : first_size (plain (settings (setting 4 2147483647)) ∷ plain (update 1 11) ∷ ten_sent) ≡ 10
no_shift = refl

pub shift_fault : owed_by by_whole (plain (update 1 11) ∷ ten_sent) (plain (settings (setting 4 2147483647))) ≡ goaway 1 flow_control_error ∷ []
unfolding total_size
shift_fault = refl

-- increments of a stream: 0, and one past the greatest
pub by_nothing : owed_by by_whole ten_sent (plain (update 1 0)) ≡ rst_stream 1 protocol_error ∷ []
unfolding total_size
by_nothing = refl

pub past_greatest : owed_by by_whole got (plain (update 1 2147418113)) ≡ rst_stream 1 flow_control_error ∷ []
unfolding total_size
past_greatest = refl

-- ---- a table of size 0, and 4,096 again, between two blocks

abbrev pub fell_and_rose : List Entry
fell_and_rose = out settings_ack ∷ plain (settings (setting 1 4096)) ∷ out settings_ack ∷ plain (settings (setting 1 0)) ∷ answered

pub two_limits : limits_since fell_and_rose ≡ 0 ∷ 4096 ∷ []
two_limits = refl

pub limit_now : table_limit fell_and_rose ≡ 4096
limit_now = refl

pub none_since : limits_since (out_headed (frame 1 5 3 (32 ∷ 63 ∷ 225 ∷ 31 ∷ 137 ∷ [])) (field (codes ":status") (codes "204") ∷ []) ∷ getting 2 3 fell_and_rose) ≡ []
none_since = refl

-- ---- octets given back

-- a request of five octets, passed on whole: all are given back
abbrev pub declared_five : List Entry
declared_five = plain (frame 0 0 1 (codes "hello")) ∷ headed (frame 1 4 1 (post_block ++ 15 ∷ 13 ∷ 1 ∷ 53 ∷ [])) (post ++ field (codes "content-length") (codes "5") ∷ []) ∷ begun

abbrev pub given_back : List Entry
given_back = out (update 1 5) ∷ out (update 0 5) ∷ declared_five

pub shared_again : room_on_connection given_back ≡ pos 65535
shared_again = refl

pub own_again : room_on 65535 1 given_back ≡ pos 65535
own_again = refl

-- padding counts: the five octets of `02 hi 00 00`
pub padding_counts : room_on_connection (plain (frame 0 9 1 (2 ∷ 104 ∷ 105 ∷ 0 ∷ 0 ∷ [])) ∷ headed (frame 1 4 1 post_block) post ∷ begun) ≡ pos 65530
padding_counts = refl

pub padded_item : items by_whole 1 (plain (frame 0 9 1 (2 ∷ 104 ∷ 105 ∷ 0 ∷ 0 ∷ [])) ∷ headed (frame 1 4 1 post_block) post ∷ begun) ≡ Block post false ∷ Content (codes "hi") true ∷ []
unfolding total_size
padded_item = refl

-- the same request passed on as it comes: 95 octets of its head went out, and 4 of the body
abbrev pub head_text : List ℕ
head_text = codes "POST / HTTP/1.1\r\nhost: www.example.com\r\nvia: 2.0 h2gw\r\ncontent-length: 5\r\nconnection: close\r\n\r\n"

abbrev pub streamed : List Entry
streamed =
    Did (ToUp 1 (codes "hell"))
    ∷ plain (frame 0 0 1 (codes "hello"))
    ∷ Did (ToUp 1 head_text)
    ∷ Did (Open 1 0)
    ∷ headed (frame 1 4 1 (post_block ++ 15 ∷ 13 ∷ 1 ∷ 53 ∷ [])) (post ++ field (codes "content-length") (codes "5") ∷ [])
    ∷ begun

pub kept_yet : kept Streaming 1 streamed ≡ 5
kept_yet = refl

pub kept_of_head : kept Streaming 1 (Happened (UpTook 1 98) ∷ streamed) ≡ 5
kept_of_head = refl

pub taken_all : kept_in_all Streaming (Happened (UpTook 1 99) ∷ streamed) ≡ 0
taken_all = refl

-- once the stream is reset nothing is kept for it, so that all six octets are given back
pub kept_no_more : kept_in_all Streaming (out (rst_stream 1 protocol_error) ∷ plain (frame 0 0 1 (codes "x")) ∷ streamed) ≡ 0
kept_no_more = refl

pub shared_at_last : room_on_connection (out (update 0 6) ∷ out (rst_stream 1 protocol_error) ∷ plain (frame 0 0 1 (codes "x")) ∷ streamed) ≡ pos 65535
shared_at_last = refl

-- 65,535 octets that aren't given back leave no room for one more
abbrev pub full : List Entry
full = plain (frame 0 0 1 (replicate 16383 97)) ∷ plain (frame 0 0 1 (replicate 16384 97)) ∷ plain (frame 0 0 1 (replicate 16384 97)) ∷ plain (frame 0 0 1 (replicate 16384 97)) ∷ headed (frame 1 4 1 post_block) post ∷ begun

pub no_room : room_on_connection full ≡ pos 0
no_room = refl
