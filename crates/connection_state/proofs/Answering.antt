-- What is kept of a connection, and answers to control frames.
use Rattle.std.proofs.Common.{◌≡◌, ℕ, true, false, not, ◌&&◌, ◌||◌, ◌==◌, Bool, List, [], ◌∷◌, length, Option, Some, None, refl, sym, ◌∙◌, ap, subst, arith}
use Rattle.std.specs.Prelude.{ℤ, pos, ◌+ℤ◌, ◌≤ℤ◌, int_lt, option_map, IfSome, IfNone}
use Rattle.std.proofs.lemmas.Int.{ints}
use Rattle.model.specs.Frames.{Frame, is_ack, flow_control_error}
use Rattle.model.specs.ErrorTable.{is_idle}
use Rattle.streams.specs.Asked.{standing, is_active}
use Rattle.frames.specs.Parsed.{has_variant}
use Rattle.theory_errors.specs.Quiet.{IsQuiet}
use Rattle.model.specs.Setup.{Setup, Policy, Passing}
use Rattle.model.specs.Errors.{Fault, first_of}
use Rattle.model.specs.FrameErrors.{fault_if, is_misplaced}
use Rattle.model.specs.Errors.Fault.{Connection}
use Rattle.model.specs.Windows.{IsPast, IsSize}
use Rattle.model.specs.WindowsOnTape.{is_past, has_settings}
use Rattle.theory_errors.specs.Judging.{frame_rows_in}
use Rattle.connection_state.specs.Inbound.{Inbound, Outside, book_of, told_of}
use Rattle.connection_state.specs.declared.answers.FrameError.{FrameError as Told}
use Rattle.connection_state.specs.Admission.{IsRefused}
use Rattle.connection_state.specs.Judgement.{IsPlain, fault_told, update, reset, data_frame, is_ignored}
use Rattle.connection_state.proofs.DataFaults.{idle_refuses, inactive_refuses, data_idle, data_past, data_inactive}
use Rattle.connection_state.proofs.Rows.{is_right, none_begun}

-- the frame is right by itself, whatever else is kept
abbrev pub IsSound : Inbound → Frame → Type 0
IsSound i frame = (outside : Outside) → first_of (frame_rows_in (told_of outside i) frame) ≡ None

-- nothing else is kept
abbrev pub nothing : Outside
nothing = record { given = []; untaken = 0 }

-- No header block is begun where a frame without a fragment is right.
pub no_block_of : (i : Inbound) (frame : Frame) → IsPlain frame → IsSound i frame → i.block ≡ None
no_block_of i frame plain sound = none_begun (told_of nothing i) frame plain (is_right (told_of nothing i) frame (sound nothing))

-- a window that is past the greatest, as a test
pub past_is : (size : ℤ) → IsPast size → is_past size ≡ true
past_is size past = grind (arith, ints)

pub not_past_is : (size : ℤ) → IsSize size → is_past size ≡ false
not_past_is size is = grind (arith, ints, is.not_past)

-- ---- quiet frames, by their types

-- a frame of one of these types, without settings, is quiet
pub quiet_of : (frame : Frame) (kind : ℕ) → frame.kind ≡ kind → has_settings frame ≡ false → ((kind == 0) ≡ false) × ((kind == 1) ≡ false) × ((kind == 3) ≡ false) × ((kind == 8) ≡ false) × ((kind == 9) ≡ false) → IsQuiet frame
quiet_of frame kind is none others = record {
  control = record {
    no_data = ap (λ k. k == 0) is ∙ others.0;
    no_headers = ap (λ k. k == 1) is ∙ others.1;
    no_reset = ap (λ k. k == 3) is ∙ others.2;
    no_update = ap (λ k. k == 8) is ∙ others.3;
    no_continuation = ap (λ k. k == 9) is ∙ others.4;
  };
  no_settings = none;
}

-- settings that aren't any are an acknowledgement, which isn't answered
pub ack_quiet : (frame : Frame) → frame.kind ≡ 4 → has_settings frame ≡ false → IsQuiet frame
ack_quiet frame kind none = quiet_of frame 4 kind none (refl, refl, refl, refl, refl)

pub ack_ignored : (frame : Frame) → frame.kind ≡ 4 → has_settings frame ≡ false → is_ignored frame ≡ true
ack_ignored frame kind none =
    ap (λ x. not (frame.kind == 0 || frame.kind == 3 || frame.kind == 8 || x || frame.kind == 6 && not (is_ack frame))) none
    ∙ ap (λ k. not (k == 0 || k == 3 || k == 8 || false || k == 6 && not (is_ack frame))) kind

-- a PING is quiet
no_settings_by : (frame : Frame) (kind : ℕ) → frame.kind ≡ kind → (kind == 4) ≡ false → has_settings frame ≡ false
no_settings_by frame kind is none = ap (λ k. k == 4 && not (is_ack frame)) is ∙ ap (λ x. x && not (is_ack frame)) none

pub ping_quiet : (frame : Frame) → frame.kind ≡ 6 → IsQuiet frame
ping_quiet frame kind = quiet_of frame 6 kind (no_settings_by frame 6 kind refl) (refl, refl, refl, refl, refl)

pub ping_ignored : (frame : Frame) → frame.kind ≡ 6 → is_ack frame ≡ true → is_ignored frame ≡ true
ping_ignored frame kind ack =
    ap (λ x. not (frame.kind == 0 || frame.kind == 3 || frame.kind == 8 || x || frame.kind == 6 && not (is_ack frame))) (no_settings_by frame 6 kind refl)
    ∙ ap (λ k. not (k == 0 || k == 3 || k == 8 || false || k == 6 && not (is_ack frame))) kind
    ∙ ap (λ x. not (not x)) ack

-- and so is a type that isn't used
six : (a b c d e f g : Bool) → (a || b || c || d || e || f || g) ≡ false → (a ≡ false) × (b ≡ false) × (c ≡ false) × (d ≡ false) × (e ≡ false) × (f ≡ false) × (g ≡ false)
six false false false false false false false is = (refl, refl, refl, refl, refl, refl, refl)
six true b c d e f g is = absurd (let no : true ≡ false = is in cc)
six false true c d e f g is = absurd (let no : true ≡ false = is in cc)
six false false true d e f g is = absurd (let no : true ≡ false = is in cc)
six false false false true e f g is = absurd (let no : true ≡ false = is in cc)
six false false false false true f g is = absurd (let no : true ≡ false = is in cc)
six false false false false false true g is = absurd (let no : true ≡ false = is in cc)
six false false false false false false true is = absurd (let no : true ≡ false = is in cc)

pub other_quiet : (frame : Frame) → has_variant frame.kind ≡ false → IsQuiet frame
other_quiet frame other =
    let parts = six (frame.kind == 0) (frame.kind == 1) (frame.kind == 3) (frame.kind == 4) (frame.kind == 6) (frame.kind == 8) (frame.kind == 9) other in
    record {
      control = record { no_data = parts.0; no_headers = parts.1; no_reset = parts.2; no_update = parts.5; no_continuation = parts.6 };
      no_settings = ap (λ x. x && not (is_ack frame)) parts.3;
    }

pub other_ignored : (frame : Frame) → has_variant frame.kind ≡ false → is_ignored frame ≡ true
other_ignored frame other =
    let parts = six (frame.kind == 0) (frame.kind == 1) (frame.kind == 3) (frame.kind == 4) (frame.kind == 6) (frame.kind == 8) (frame.kind == 9) other in
    ap (λ x. not (x || frame.kind == 3 || frame.kind == 8 || has_settings frame || frame.kind == 6 && not (is_ack frame))) parts.0
    ∙ ap (λ x. not (x || frame.kind == 8 || has_settings frame || frame.kind == 6 && not (is_ack frame))) parts.2
    ∙ ap (λ x. not (x || has_settings frame || frame.kind == 6 && not (is_ack frame))) parts.5
    ∙ ap (λ x. not (x && not (is_ack frame) || frame.kind == 6 && not (is_ack frame))) parts.3
    ∙ ap (λ x. not (x && not (is_ack frame))) parts.4

-- a setup, where none matters
pub any_setup : Setup
any_setup = record { routes = []; policy = Policy.Plain; passing = Passing.Whole; max_body = 0; max_response = 0; keep = false; most_idle = 8; more_room = 0 }

-- what is said of a record that is seen from inside, and of a frame by its parts
pub moved : (P : Inbound → Frame → Type 0) (i j : Inbound) (f g : Frame) → i ≡ j → g ≡ f → P i f → P j g
moved P i j f g same_record same_frame is = subst (λ (x : Inbound). P x g) same_record (subst (λ (h : Frame). P i h) (sym same_frame) is)

-- what was granted fits where the window with it does
pub fits_so : (first count : ℕ) (balance : ℤ) → IsSize balance → (pos first +ℤ balance +ℤ pos count) ≤ℤ pos 2147483647 → IsSize (balance +ℤ pos count)
fits_so first count balance is within = record { above = grind (arith, ints, is.above); not_past = grind (arith, ints, within) }

-- neither of two is wrong
pub neither_wrong : (a b : Bool) (f g : Fault) → first_of (fault_if a f ∷ fault_if b g ∷ []) ≡ None → (a ≡ false) × (b ≡ false)
neither_wrong true b f g none = absurd (let no : Some f ≡ None = none in cc)
neither_wrong false true f g none = absurd (let no : Some g ≡ None = none in cc)
neither_wrong false false f g none = (refl, refl)

-- ---- frames by their types

-- a frame by its parts
pub update_by : (frame : Frame) → frame.kind ≡ 8 → frame ≡ update frame.flags frame.id frame.payload
update_by frame kind = ap (λ (k : ℕ). record { kind = k; flags = frame.flags; id = frame.id; payload = frame.payload }) kind

pub reset_by : (frame : Frame) → frame.kind ≡ 3 → frame ≡ reset frame.flags frame.id frame.payload
reset_by frame kind = ap (λ (k : ℕ). record { kind = k; flags = frame.flags; id = frame.id; payload = frame.payload }) kind

pub data_by : (frame : Frame) → frame.kind ≡ 0 → frame ≡ data_frame frame.flags frame.id frame.payload
data_by frame kind = ap (λ (k : ℕ). record { kind = k; flags = frame.flags; id = frame.id; payload = frame.payload }) kind

-- DATA and RST_STREAM are on a stream
placed_so : (x : Bool) → (x || false || false || false) ≡ false → x ≡ false
placed_so true is = absurd (let no : true ≡ false = is in cc)
placed_so false is = refl

pub reset_of_stream : (i : Inbound) (frame : Frame) → frame.kind ≡ 3 → IsSound i frame → (frame.id == 0) ≡ false
reset_of_stream i frame kind sound =
    placed_so (frame.id == 0) (ap (λ (k : ℕ). is_misplaced (record { kind = k; flags = frame.flags; id = frame.id; payload = frame.payload })) (sym kind) ∙ (is_right (told_of nothing i) frame (sound nothing)).placed)

pub data_of_stream : (i : Inbound) (frame : Frame) → frame.kind ≡ 0 → IsSound i frame → (frame.id == 0) ≡ false
data_of_stream i frame kind sound =
    placed_so (frame.id == 0) (ap (λ (k : ℕ). is_misplaced (record { kind = k; flags = frame.flags; id = frame.id; payload = frame.payload })) (sym kind) ∙ (is_right (told_of nothing i) frame (sound nothing)).placed)

-- ---- DATA

-- what is said of a record and a frame, of the record from inside and of the frame by its parts
pub moved_back : (P : Inbound → Frame → Type 0) (i j : Inbound) (f g : Frame) → i ≡ j → g ≡ f → P j g → P i f
moved_back P i j f g same_record same_frame is = subst (λ (x : Inbound). P x f) (sym same_record) (subst (λ (h : Frame). P j h) same_frame is)

-- a fault that is told is there, with what is known of it
pub told_some : (P : Fault → Type 0) (told : Option Told) (fault : Fault) → option_map fault_told told ≡ Some fault → P fault → IfSome told (λ f. P (fault_told f))
told_some P None fault is known = tt
told_some P (Some f) fault is known = subst P (sym (ap (λ (o : Option Fault). fault_or o) is)) known
  where
    fault_or : Option Fault → Fault
    fault_or None = fault
    fault_or (Some x) = x

pub told_not_none : (Q : Type 0) (told : Option Told) (fault : Fault) → option_map fault_told told ≡ Some fault → IfNone told Q
told_not_none Q None fault is = absurd (let no : None ≡ Some fault = is in cc)
told_not_none Q (Some f) fault is = tt

module _ (i : Inbound) (flags id : ℕ) (payload : List ℕ) (of_stream : (id == 0) ≡ false) (sound : IsSound i (data_frame flags id payload)) where
  -- its fault on an idle stream, past the connection's window, and on another stream that isn't active
  pub refused_idle : (idle : is_idle (standing i.drained i.rows id) ≡ true) → IsRefused i (data_frame flags id payload) (Connection (idle_refuses i.drained i.rows id of_stream idle).0)
  refused_idle idle = record {
    is = λ outside. data_idle (book_of outside i) flags id payload of_stream (sound outside) idle ∙ (idle_refuses i.drained i.rows id of_stream idle).1;
    mild = refl;
    inactive = λ no. absurd (let clash : true ≡ false = no in cc);
    fits = λ no. absurd (let clash : true ≡ false = no in cc);
  }

  module _ (known : is_idle (standing i.drained i.rows id) ≡ false) where
    pub refused_past : int_lt i.room (pos (length payload)) ≡ true → IsRefused i (data_frame flags id payload) (Connection flow_control_error)
    refused_past past = record {
      is = λ outside. data_past (book_of outside i) flags id payload of_stream (sound outside) known past;
      mild = refl;
      inactive = λ no. absurd (let clash : true ≡ false = no in cc);
      fits = λ no. absurd (let clash : true ≡ false = no in cc);
    }

    pub refused_inactive : int_lt i.room (pos (length payload)) ≡ false → (idle : is_active i.rows id ≡ false) → IsRefused i (data_frame flags id payload) (inactive_refuses i.drained i.rows id of_stream idle).0
    refused_inactive fits idle = record {
      is = λ outside. data_inactive (book_of outside i) flags id payload of_stream (sound outside) known fits idle ∙ (inactive_refuses i.drained i.rows id of_stream idle).1;
      mild = (inactive_refuses i.drained i.rows id of_stream idle).2;
      inactive = λ mild. idle;
      fits = λ mild. fits;
    }
