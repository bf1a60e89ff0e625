-- Worked rows of the gateway's own replies, by computation: the cause, what becomes of the items, and the resets.
use Rattle.std.specs.Prelude.{◌≡◌, ℕ, zero, suc, ◌+◌, ◌*◌, false, List, [], ◌∷◌, ◌++◌, length, Some, None, refl, codes, pos, replicate}
use Rattle.std.specs.List.{list_any}
use Rattle.model.specs.Messages.{Field}
use Rattle.model.specs.Messages.Item.{Block}
use Rattle.model.specs.Tables.{total_size}
use Rattle.model.specs.Frames.{internal_error, no_error, refused_stream}
use Rattle.model.specs.Logs.Event.{Up, UpEnd, ClientTook}
use Rattle.model.specs.Logs.Act.{Close}
use Rattle.model.specs.Tapes.{Entry, sent}
use Rattle.model.specs.Tapes.Entry.{Happened, Did}
use Rattle.model.specs.Errors.Fault.{Discarded}
use Rattle.model.specs.Available.{items_on}
use Rattle.model.specs.Known.{Known}
use Rattle.model.specs.Lifetimes.{active}
use Rattle.model.specs.WindowsOnTape.{connection_window}
use Rattle.model.specs.Admission.{untaken}
use Rattle.model.specs.Causes.Cause.{LargeFields, Tunnel, Expects, LargeBody, NoRoute, BadAnswer}
use Rattle.model.specs.Courses.{items, cause, fault, is_final}
use Rattle.model.specs.ErrorClause.{rst_stream, owed_by}
use Rattle.model_examples.proofs.RowTapes.{whole, by_whole, streaming, frame, plain, headed, out, out_headed, field, head_of, get, get_block, post, post_block, begun, getting, got, reset, hints, hints_block}

-- ---- causes at a head

abbrev pub elsewhere : Known
elsewhere = record { setup = record whole { routes = record { authority = codes "a.example"; path = codes "/" } ∷ [] }; failures = [] }

pub no_route : cause elsewhere 1 (headed (frame 1 5 1 get_block) get ∷ begun) ≡ Some NoRoute
unfolding total_size
no_route = refl

-- what is answered is no item, so no connection may be given to it
pub no_items : items elsewhere 1 (headed (frame 1 5 1 get_block) get ∷ begun) ≡ []
unfolding total_size
no_items = refl

pub tunnel : cause by_whole 1 (headed (frame 1 5 1 []) (field (codes ":method") (codes "CONNECT") ∷ field (codes ":authority") (codes "h:80") ∷ []) ∷ begun) ≡ Some Tunnel
unfolding total_size
tunnel = refl

pub expects : cause by_whole 1 (headed (frame 1 4 1 []) (post ++ field (codes "expect") (codes "100-continue") ∷ []) ∷ begun) ≡ Some Expects
unfolding total_size
expects = refl

pub large_body : cause by_whole 1 (headed (frame 1 4 1 []) (post ++ field (codes "content-length") (codes "2000000") ∷ []) ∷ begun) ≡ Some LargeBody
unfolding total_size
large_body = refl

-- fields that are too large are answered before anything else is judged, here a name in upper case
abbrev pub too_large : List Field
too_large = get ++ field (codes "X") (replicate 16384 97) ∷ []

pub large_fields : cause by_whole 1 (headed (frame 1 5 1 []) too_large ∷ begun) ≡ Some LargeFields
unfolding total_size
large_fields = refl

pub no_fault : fault by_whole begun (headed (frame 1 5 1 []) too_large) ≡ None
unfolding total_size
no_fault = refl

-- a malformed head is reset and not answered, though its method asks for a tunnel
pub reset_instead : cause by_whole 1 (headed (frame 1 5 1 []) (head_of (codes "CONNECT")) ∷ begun) ≡ None
unfolding total_size
reset_instead = refl

-- ---- causes behind a head

abbrev pub small_bodies : Known
small_bodies = record { setup = record whole { max_body = 4 }; failures = [] }

abbrev pub long_body : List Entry
long_body = plain (frame 0 0 1 (codes "hello")) ∷ headed (frame 1 4 1 post_block) post ∷ begun

pub past_most : cause small_bodies 1 long_body ≡ Some LargeBody
unfolding total_size
past_most = refl

pub head_stays : items small_bodies 1 long_body ≡ Block post false ∷ []
unfolding total_size
head_stays = refl

-- behind the cause nothing is judged: malformed trailers are no error
pub not_judged : fault small_bodies long_body (headed (frame 1 4 1 []) (field (codes ":path") (codes "/") ∷ [])) ≡ None
unfolding total_size
not_judged = refl

-- ---- an answer that fails: the end in a chunk

abbrev pub in_chunk : List Entry
in_chunk = Happened (Up 1 (codes "0\r\n0123456789abcdef\r\n")) ∷ Happened (Up 1 (codes "HTTP/1.1 200 OK\r\nTransfer-Encoding: chunked\r\n\r\n1")) ∷ got

abbrev pub ended_in_chunk : Known
ended_in_chunk = record { setup = whole; failures = length in_chunk ∷ [] }

pub not_failed_before : cause ended_in_chunk 1 in_chunk ≡ None
unfolding total_size
not_failed_before = refl

pub bad_answer : cause ended_in_chunk 1 (Happened (UpEnd 1) ∷ in_chunk) ≡ Some BadAnswer
unfolding total_size
bad_answer = refl

-- the head isn't out, so it is answered and not reset
pub not_reset : owed_by ended_in_chunk in_chunk (Happened (UpEnd 1)) ≡ []
unfolding total_size
not_reset = refl

-- passed on as it comes, the head is out, and so is a part of the body
abbrev pub in_chunk_streaming : List Entry
in_chunk_streaming =
    out (frame 0 0 1 (codes "0123456789abcdef"))
    ∷ Happened (Up 1 (codes "0\r\n0123456789abcdef\r\n"))
    ∷ out_headed (frame 1 4 1 (136 ∷ [])) (field (codes ":status") (codes "200") ∷ [])
    ∷ Happened (Up 1 (codes "HTTP/1.1 200 OK\r\nTransfer-Encoding: chunked\r\n\r\n1"))
    ∷ got

abbrev pub ended_streaming : Known
ended_streaming = record { setup = streaming; failures = length in_chunk_streaming ∷ [] }

pub reset_in_body : owed_by ended_streaming in_chunk_streaming (Happened (UpEnd 1)) ≡ rst_stream 1 internal_error ∷ []
unfolding total_size
reset_in_body = refl

-- an interim head is no final one
pub interim_out : list_any is_final (items_on 1 (sent (out_headed (frame 1 4 1 hints_block) hints ∷ got))) ≡ false
interim_out = refl

-- ---- resets behind whole responses

-- the name at index 35, and a value that isn't inserted
abbrev pub expect_octets : List ℕ
expect_octets = 15 ∷ 20 ∷ 12 ∷ codes "100-continue"

-- a reply to a request that isn't whole is followed by a reset, one to a whole request isn't
abbrev pub expecting : List Entry
expecting = headed (frame 1 4 1 (post_block ++ expect_octets)) (post ++ field (codes "expect") (codes "100-continue") ∷ []) ∷ begun

abbrev pub reply_fields : List Field
reply_fields = field (codes ":status") (codes "417") ∷ field (codes "content-length") (codes "0") ∷ []

abbrev pub reply_block : List ℕ
reply_block = 8 ∷ 3 ∷ 52 ∷ 49 ∷ 55 ∷ 15 ∷ 13 ∷ 1 ∷ 48 ∷ []

pub reset_behind_reply : owed_by by_whole expecting (out_headed (frame 1 5 1 reply_block) reply_fields) ≡ rst_stream 1 no_error ∷ []
unfolding total_size
reset_behind_reply = refl

pub none_behind_whole : owed_by elsewhere (headed (frame 1 5 1 get_block) get ∷ begun) (out_headed (frame 1 5 1 reply_block) reply_fields) ≡ []
unfolding total_size
none_behind_whole = refl

-- ---- a hundred streams

-- so many streams, from 1 on, with a GET each, that are all active
abbrev pub many : ℕ → List Entry
many zero = begun
many (suc n) = headed (frame 1 5 (2 * n + 1) []) get ∷ many n

-- one more is refused
pub refused : owed_by by_whole (many 100) (headed (frame 1 5 201 []) get) ≡ rst_stream 201 refused_stream ∷ []
unfolding total_size
refused = refl

-- it was opened for all that: what comes on it behind its reset is discarded
pub refused_is_opened : fault by_whole (out (rst_stream 201 refused_stream) ∷ headed (frame 1 4 201 []) get ∷ many 100) (plain (frame 0 0 201 (120 ∷ []))) ≡ Some Discarded
unfolding total_size
refused_is_opened = refl

-- ---- the turn of a stream that waits for room

-- a body of 65,535 octets was sent: the connection's window is used up, and 65,617 octets aren't taken
abbrev pub long_answer : List Entry
long_answer =
    out (frame 0 1 1 (replicate 16383 97))
    ∷ out (frame 0 0 1 (replicate 16384 97))
    ∷ out (frame 0 0 1 (replicate 16384 97))
    ∷ out (frame 0 0 1 (replicate 16384 97))
    ∷ out_headed (frame 1 4 1 (136 ∷ 92 ∷ 132 ∷ 113 ∷ 182 ∷ 217 ∷ 111 ∷ [])) (field (codes ":status") (codes "200") ∷ field (codes "content-length") (codes "65535") ∷ [])
    ∷ Did (Close 1)
    ∷ getting 3 5 (getting 2 3 got)

pub used_up : connection_window long_answer ≡ pos 0
used_up = refl

pub past_high_water : untaken long_answer ≡ 65617
past_high_water = refl

pub below_high_water : untaken (Happened (ClientTook 100) ∷ plain (reset 3 8) ∷ long_answer) ≡ 65517
below_high_water = refl

pub two_left : active long_answer ≡ 5 ∷ 3 ∷ []
two_left = refl

pub one_left : active (plain (reset 3 8) ∷ long_answer) ≡ 5 ∷ []
one_left = refl
