-- While the connection isn't to end, the client's DATA has fitted the connection's receiving window.
use Rattle.std.proofs.Common.{◌≡◌, ℕ, Bool, true, false, ◌&&◌, ◌==◌, if◌then◌else◌, List, [], ◌∷◌, length, Option, None, refl, arith}
use Rattle.std.specs.Prelude.{ℤ, pos, ◌+ℤ◌, ◌-ℤ◌, ◌≤ℤ◌, int_lt}
use Rattle.std.proofs.lemmas.Int.{ints}
use Rattle.model.specs.Frames.{data_kind, flow_control_error}
use Rattle.model.specs.Setup.{Setup}
use Rattle.model.specs.Tapes.{Noted, Entry}
use Rattle.model.specs.Tapes.Entry.{Came, Breached, Happened, Sent, Did}
use Rattle.model.specs.Errors.{Fault, first_of}
use Rattle.model.specs.Errors.Fault.{Connection}
use Rattle.model.specs.FrameErrors.{fault_if}
use Rattle.model.specs.ErrorTable.{unless_of_stream, is_past_room}
use Rattle.model.specs.WindowsOnTape.{is_any}
use Rattle.theory_errors.specs.Summary.{Summary}
use Rattle.theory_errors.specs.Judging.{fault_by_standing_in, stream_update_in, stream_data_in, malformed_in, connection_data_in, no_goaway_in}
use Rattle.theory_errors.specs.After.{room_after, ends_after}
use Rattle.theory_errors.specs.Rule.{Move}
use Rattle.theory_errors.specs.Book.{as_point, summary_in, ledger_of, AllMoved}
use Rattle.theory_errors.proofs.Calm.{early_rows, early_fatal, calm}
use Rattle.theory_errors.proofs.Seen.{none_at}
use Rattle.theory_errors.proofs.Few.{on_before}

-- no fault where a test would make one
not_so : (b : Bool) (fault : Fault) → fault_if b fault ≡ None → b ≡ false
not_so false fault none = refl
not_so true fault none = absurd (cc)

-- a frame that is no error of the connection isn't past its room
fits_behind : (s : Summary) (noted : Noted) → ends_after s (Came noted) ≡ false → is_past_room s.room noted.frame ≡ false
fits_behind s noted on =
    let later : List (Option Fault) = unless_of_stream (fault_by_standing_in s noted.frame) ∷ stream_update_in s noted.frame ∷ stream_data_in s noted.frame ∷ fault_by_standing_in s noted.frame ∷ no_goaway_in s noted ∷ [] in
    let none : first_of (early_rows s noted) ≡ None = calm (early_rows s noted) later (malformed_in (s.stream noted.frame.id).outline s (Came noted)) (early_fatal s noted) on in
    let row : connection_data_in s noted.frame ≡ None = none_at 11 (early_rows s noted) none in
    not_so (is_past_room s.room noted.frame) (Connection flow_control_error) row

-- so it leaves some, or none
left_unless : (is_data : Bool) (room : ℤ) (count : ℕ) → (is_data && int_lt room (pos count)) ≡ false → pos 0 ≤ℤ room → pos 0 ≤ℤ (room -ℤ pos (if is_data && true then count else 0))
left_unless true room count fits left = omega (arith, ints, fits)
left_unless false room count fits left = omega (arith, ints, left)

more_left : (room : ℤ) (count : ℕ) → pos 0 ≤ℤ room → pos 0 ≤ℤ (room +ℤ pos count)
more_left room count left = omega (arith, ints, left)

-- any entry does
left_kept : (s : Summary) (e : Entry) → ends_after s e ≡ false → pos 0 ≤ℤ s.room → pos 0 ≤ℤ room_after s.room is_any 0 e
left_kept s (Came noted) on left = left_unless (noted.frame.kind == data_kind) s.room (length noted.frame.payload) (fits_behind s noted on) left
left_kept s (Breached breach) on left = left
left_kept s (Happened event) on left = left
left_kept s (Sent noted) on left = more_left s.room _ left
left_kept s (Did act) on left = left

pub none_missing : (setup : Setup) (moves : List Move) → AllMoved setup moves → (ledger_of setup moves).book.ends ≡ false → pos 0 ≤ℤ (ledger_of setup moves).book.room
none_missing setup [] all on = omega (arith, ints)
none_missing setup (m ∷ moves) all on =
    let s : Summary = summary_in (ledger_of setup moves).book in
    left_kept s m.entry on (none_missing setup moves all.0 (on_before (as_point (ledger_of setup moves)) m.entry all.1.allowed.turn on))
