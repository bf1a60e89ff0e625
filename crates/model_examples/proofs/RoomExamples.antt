-- The windows in which the gateway receives are larger than 65,535 (RFC 9113, sections 6.5.2 and 6.9.2): 1,048,576 octets.
use Rattle.std.proofs.Common.{◌≡◌, List, [], ◌∷◌, ◌++◌, refl, ap, arith, pos, length, drop}
use Rattle.std.specs.Prelude.{sum_by, Some, None, codes, replicate, ◌≤ℤ◌}
use Rattle.std.proofs.lemmas.Int.{ints}
use Rattle.model.specs.Frames.{Frame, settings_frame, flow_control_error}
use Rattle.model.specs.Setup.{Setup, own_window}
use Rattle.model.specs.Tapes.{Entry}
use Rattle.model.specs.Known.{Known}
use Rattle.model.specs.Errors.Fault.{Connection, Stream}
use Rattle.model.specs.WindowsOnTape.{stream_window, connection_window, room_on, room_on_connection}
use Rattle.model.specs.ErrorTable.{row_connection_data, row_stream_data}
use Rattle.model.specs.ErrorClause.{ErrorsHold}
use Rattle.model.specs.WindowClause.{IsWithinWindows, KeepsWindows, GivesBack, GivesNoMore}
use Rattle.model.specs.Headline.{HoldsInTurn}
use Rattle.model_examples.proofs.RowTapes.{whole, frame, plain, headed, out, post, post_block, update}
use Rattle.model_examples.proofs.WindowExamples.{full}

abbrev pub wide : Setup
wide = record whole { more_room = 983041 }

abbrev pub by_wide : Known
by_wide = record { setup = wide; failures = [] }

pub window_is : own_window wide ≡ 1048576
window_is = refl

-- the settings have an entry more
pub settings_are : (settings_frame 983041).payload ≡ 0 ∷ 3 ∷ 0 ∷ 0 ∷ 0 ∷ 100 ∷ 0 ∷ 6 ∷ 0 ∷ 0 ∷ 64 ∷ 0 ∷ 0 ∷ 4 ∷ 0 ∷ 16 ∷ 0 ∷ 0 ∷ []
settings_are = refl

-- and where windows are as at first they don't
pub settings_were : (settings_frame 0).payload ≡ 0 ∷ 3 ∷ 0 ∷ 0 ∷ 0 ∷ 100 ∷ 0 ∷ 6 ∷ 0 ∷ 0 ∷ 64 ∷ 0 ∷ []
settings_were = refl

-- a WINDOW_UPDATE makes the connection's as large
abbrev pub greeted : List Entry
greeted = out (update 0 983041) ∷ out (settings_frame 983041) ∷ []

pub shared_room : room_on_connection greeted ≡ pos 1048576
shared_room = refl

pub own_room : room_on (own_window wide) 1 greeted ≡ pos 1048576
own_room = refl

-- those in which it sends are as ever
pub sends_as_ever : (stream_window 1 greeted ≡ pos 65535) × (connection_window greeted ≡ pos 65535)
sends_as_ever = (refl, refl)

-- behind 65,535 octets there is room on the stream
pub room_left : room_on (own_window wide) 1 full ≡ pos 983041
room_left = refl

-- ---- a stream that uses what is more, and one that passes it: here windows have one octet more, 65,536

abbrev pub wider : Setup
wider = record whole { more_room = 1 }

-- the stream is opened, and 65,535 octets came on it
abbrev pub nearly : List Entry
nearly =
    plain (frame 0 0 1 (replicate 16383 97))
    ∷ plain (frame 0 0 1 (replicate 16384 97))
    ∷ plain (frame 0 0 1 (replicate 16384 97))
    ∷ plain (frame 0 0 1 (replicate 16384 97))
    ∷ headed (frame 1 4 1 post_block) post
    ∷ plain (frame 4 0 0 [])
    ∷ out (update 0 1)
    ∷ out (settings_frame 1)
    ∷ []

-- the one octet more is no error, neither of the connection nor of the stream,
pub last_octet : row_connection_data nearly (plain (frame 0 0 1 (codes "x"))) ≡ None
last_octet = refl

pub last_on_stream : row_stream_data (own_window wider) nearly (plain (frame 0 0 1 (codes "x"))) ≡ None
last_on_stream = refl

-- but the next would be one of the connection,
pub one_too_many : row_connection_data nearly (plain (frame 0 0 1 (codes "xy"))) ≡ Some (Connection flow_control_error)
one_too_many = refl

-- and of the stream, were there room on the connection
pub one_past_stream : row_stream_data (own_window wider) nearly (plain (frame 0 0 1 (codes "xy"))) ≡ Some (Stream flow_control_error)
one_past_stream = refl

-- Where windows are as ever, the one octet is an error already.
pub past_ever : row_stream_data (own_window whole) nearly (plain (frame 0 0 1 (codes "x"))) ≡ Some (Stream flow_control_error)
past_ever = refl

-- ---- gateways that go wrong

-- It makes the connection's window larger by one octet too much.
pub gives_one_too_much : GivesNoMore (own_window wide) (out (update 0 983042) ∷ out (settings_frame 983041) ∷ []) → ⊥
gives_one_too_much h = let clash : pos 1048577 ≤ℤ pos 1048576 = h.0 refl in omega (arith, ints, clash)

-- It gives an octet back on a stream, of which none came.
pub gives_on_stream : GivesNoMore (own_window wide) (out (update 1 1) ∷ greeted) → ⊥
gives_on_stream h = let clash : pos 1048577 ≤ℤ pos 1048576 = h.0 refl in omega (arith, ints, clash)

-- It announces larger windows of streams, and leaves the connection's.
pub leaves_the_connection : GivesBack by_wide (out (settings_frame 983041) ∷ []) → ⊥
leaves_the_connection h = let clash : pos 65535 ≡ pos 1048576 = h.shared in omega (arith, ints, clash)

-- It makes the connection's larger, and announces nothing.
pub announces_nothing : ErrorsHold by_wide (out (update 0 983041) ∷ out (settings_frame 0) ∷ []) → ⊥
announces_nothing h = let clash : 12 ≡ 18 = ap (λ (fs : List Frame). sum_by (λ (f : Frame). length f.payload) fs) h.just_owed in omega (arith, clash)

-- It makes the connection's larger before it announces anything.
pub updates_first : ErrorsHold by_wide (out (settings_frame 983041) ∷ out (update 0 983041) ∷ []) → ⊥
updates_first h = ends h.begins.0 h.begins.1
  where
    none : (newer : List Frame) → [] ≡ newer ++ settings_frame 983041 ∷ [] → ⊥
    none [] e = cc
    none (f ∷ newer) e = cc

    ends : (newer : List Frame) → settings_frame 983041 ∷ update 0 983041 ∷ [] ≡ newer ++ settings_frame 983041 ∷ [] → ⊥
    ends [] e = let clash : 2 ≡ 1 = ap length e in omega (arith, clash)
    ends (f ∷ []) e = let clash : 8 ≡ 4 = ap (λ (fs : List Frame). sum_by (λ (other : Frame). other.kind) (drop 1 fs)) e in omega (arith, clash)
    ends (f ∷ g ∷ newer) e = none newer (ap (drop 2) e)

-- It makes it larger by half of what it should, or once something came in: with half of it, and before, its window isn't as large.
pub updates_by_half : GivesBack by_wide (out (update 0 491520) ∷ out (settings_frame 983041) ∷ []) → ⊥
updates_by_half h = let clash : pos 557055 ≡ pos 1048576 = h.shared in omega (arith, ints, clash)

pub updates_late : HoldsInTurn (GivesBack by_wide) (out (update 0 983041) ∷ plain (frame 4 0 0 []) ∷ out (settings_frame 983041) ∷ []) → ⊥
updates_late h = leaves_the_connection h.0

-- It sends as much as it receives, though the client's windows are as ever.
pub sends_more : KeepsWindows (out (frame 0 0 1 (replicate 65536 97)) ∷ greeted) → ⊥
sends_more h =
    let within : IsWithinWindows greeted (frame 0 0 1 (replicate 65536 97)) = h.0 refl (omega arith) in
    let clash : pos 65536 ≤ℤ pos 65535 = within.shared in
    omega (arith, ints, clash)
