-- Connections that are kept, and octets that wait: the room of an idle one, and what is given back where one connection carries two
-- requests, by computation.
use Rattle.std.proofs.Common.{◌≡◌, ℕ, false, List, [], ◌∷◌, ◌++◌, refl, ap, inl, inr, arith}
use Rattle.std.specs.Prelude.{codes, pos, nat_abs, ◌-ℤ◌, Some}
use Rattle.model.specs.Tables.{total_size}
use Rattle.model.specs.Messages.{Field}
use Rattle.model.specs.Logs.Event.{Up, UpTook}
use Rattle.model.specs.Logs.Act.{Open, ToUp}
use Rattle.model.specs.Setup.Passing.{Whole, Streaming}
use Rattle.model.specs.Tapes.{Entry}
use Rattle.model.specs.Tapes.Entry.{Happened, Did}
use Rattle.model.specs.Openings.{exchanges}
use Rattle.model.specs.Idle.{IsIdle}
use Rattle.model.specs.Rooms.{IsRoom}
use Rattle.model.specs.WindowsOnTape.{room_on_connection}
use Rattle.model.specs.WindowClause.{kept, kept_in_all, WindowsHold}
use Rattle.model.proofs.ExchangeLaws.{no_idle}
use Rattle.model.proofs.PastLaws.{whole_seen}
use Rattle.model.proofs.AnswerTexts as answer
use Rattle.model_examples.proofs.RowTapes.{by_streaming, frame, plain, headed, out, out_headed, field, post, post_block, begun, heard_two, ok_two, ok_block, answer_text, update}
use Rattle.model_examples.proofs.KeepExamples.{by_keeping, keeping_by, exchange, first_heard, idle_on}

-- ---- the room of an idle connection

-- The response is whole and waits for the client: two octets of its body aren't sent yet. They take no room.
waits_idle : IsIdle (keeping_by Streaming) first_heard 1
unfolding total_size
waits_idle = idle_on Streaming first_heard 1 1 refl refl refl refl refl refl refl

pub room_while_idle : IsRoom Streaming (keeping_by Streaming) 1 first_heard 65536
room_while_idle = inl (waits_idle, refl)

-- No other is its room,
pub one_room_while_idle : (count : ℕ) → IsRoom Streaming (keeping_by Streaming) 1 first_heard count → count ≡ 65536
one_room_while_idle count (inl room) = room.1
one_room_while_idle count (inr room) = absurd (room.0 waits_idle)

-- nor where responses are passed on whole.
pub room_of_whole : IsRoom Whole by_keeping 1 first_heard 65536
room_of_whole = refl

-- Where no connection is kept, they take room until it is closed.
pub room_beside : IsRoom Streaming by_streaming 1 heard_two 65534
unfolding total_size
room_beside = inr (
  λ i. no_idle by_streaming heard_two 1 refl i,
  record { interims = []; head = Some answer.head; octets = codes "hi"; seen = whole_seen answer_text false answer.response answer.answered; is = refl },
)

-- ---- two requests with bodies on one connection

abbrev pub five : List Field
five = post ++ field (codes "content-length") (codes "5") ∷ []

abbrev pub three : List Field
three = post ++ field (codes "content-length") (codes "3") ∷ []

-- their heads, of 76 octets each
abbrev pub head_of_five : List ℕ
head_of_five = codes "POST / HTTP/1.1\r\nhost: www.example.com\r\nvia: 2.0 h2gw\r\ncontent-length: 5\r\n\r\n"

abbrev pub head_of_three : List ℕ
head_of_three = codes "POST / HTTP/1.1\r\nhost: www.example.com\r\nvia: 2.0 h2gw\r\ncontent-length: 3\r\n\r\n"

-- the first is put out and answered
abbrev pub first_heard_of : List Entry
first_heard_of =
    Happened (Up 1 answer_text)
    ∷ Did (ToUp 1 (codes "hello"))
    ∷ plain (frame 0 1 1 (codes "hello"))
    ∷ Did (ToUp 1 head_of_five)
    ∷ Did (Open 1 0)
    ∷ headed (frame 1 4 1 (post_block ++ 15 ∷ 13 ∷ 1 ∷ 53 ∷ [])) five
    ∷ begun

-- the client has the response; so the stream is over, and what came on it is given back, though the upstream's side took nothing yet
abbrev pub first_over : List Entry
first_over = out (update 0 5) ∷ out (frame 0 1 1 (codes "hi")) ∷ out_headed (frame 1 4 1 ok_block) ok_two ∷ first_heard_of

-- the second is put out behind it
abbrev pub with_second : List Entry → List Entry
with_second t =
    Did (ToUp 1 (codes "hey"))
    ∷ plain (frame 0 1 3 (codes "hey"))
    ∷ Did (ToUp 1 head_of_three)
    ∷ headed (frame 1 4 3 (131 ∷ 134 ∷ 132 ∷ 190 ∷ 15 ∷ 13 ∷ 1 ∷ 51 ∷ [])) three
    ∷ t

abbrev pub took : ℕ → List Entry → List Entry
took count t = Happened (UpTook 1 count) ∷ t

pub two_exchanges : exchanges (with_second first_over) ≡ exchange 1 3 ∷ exchange 1 1 ∷ []
two_exchanges = refl

-- The first has 81 octets, the second 79. The second's three wait until both are taken, since a side takes octets in their order.
pub first_is_taken : kept Streaming 3 (took 81 (with_second first_over)) ≡ 3
first_is_taken = refl

pub one_is_left : kept Streaming 3 (took 159 (with_second first_over)) ≡ 3
one_is_left = refl

pub both_are_taken : kept Streaming 3 (took 160 (with_second first_over)) ≡ 0
both_are_taken = refl

-- Nothing is kept for a stream that is over: the connection's window lacks the second's octets alone,
pub second_alone : kept_in_all Streaming (with_second first_over) ≡ 3
second_alone = refl

pub lacks_three : room_on_connection (with_second first_over) ≡ pos 65535 -ℤ pos (kept_in_all Streaming (with_second first_over))
lacks_three = refl

-- and none once they are taken.
abbrev pub all_taken : List Entry
all_taken = out (update 0 3) ∷ took 160 (with_second first_over)

pub given_back : room_on_connection all_taken ≡ pos 65535 -ℤ pos (kept_in_all Streaming all_taken)
given_back = refl

-- While the client hasn't taken the first response its stream is active. Its octets wait for the first's alone, also behind the second.
pub first_waits : kept_in_all Streaming (took 80 (with_second first_heard_of)) ≡ 8
first_waits = refl

pub first_waits_no_more : kept_in_all Streaming (took 81 (with_second first_heard_of)) ≡ 3
first_waits_no_more = refl

-- ---- gateways that count otherwise

-- It counts what was put out anew with the second request, and not what was taken: three octets go back that nobody took.
pub puts_out_anew : WindowsHold (keeping_by Streaming) (out (update 0 3) ∷ took 81 (with_second first_over)) → ⊥
puts_out_anew c = let back = c.gives_back refl in let clash : 65535 ≡ 65532 = ap nat_abs back.shared in omega (arith, clash)

-- It counts what was taken anew: they never go back.
pub takes_anew : WindowsHold (keeping_by Streaming) (took 160 (with_second first_over)) → ⊥
takes_anew c = let back = c.gives_back refl in let clash : 65532 ≡ 65535 = ap nat_abs back.shared in omega (arith, clash)
