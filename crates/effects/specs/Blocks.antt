-- A header block in frames (RFC 9113, sections 4.3, 6.2 and 6.10), and what each of them is to those who send them.
use Rattle.std.specs.Prelude.{◌≡◌, ℕ, zero, suc, ◌+◌, ◌-◌, ◌/◌, ◌==◌, Bool, true, false, if◌then◌else◌, List, [], ◌∷◌, length, take, drop, Option, Some, None}
use Rattle.model.specs.Octets.{is_empty}
use Rattle.model.specs.Frames.{Frame, Fits, data_kind, headers_kind, rst_stream_kind, window_update_kind, continuation_kind}
use Rattle.model.specs.Tapes.{Note}
use Rattle.model.specs.Decoding.{Partial}
use Rattle.model.specs.FrameErrors.{is_between}
use Rattle.model.specs.ErrorClause.{is_passing, is_plainly_flagged, is_filled}
use Rattle.theory_errors.specs.Judging.{completed_in}
use Rattle.theory_errors.specs.After.{begun_after}

-- the frames of octets of a block: so many that are filled, with 16,384 octets, and the last, with END_HEADERS; the first has this type
-- and these flags, and all behind it are CONTINUATION
abbrev pub frames_of : ℕ → ℕ → ℕ → ℕ → List ℕ → List Frame
frames_of zero kind flags stream octets = record { kind = kind; flags = flags + 4; id = stream; payload = octets } ∷ []
frames_of (suc filled) kind flags stream octets =
    record { kind = kind; flags = flags; id = stream; payload = take 16384 octets } ∷ frames_of filled continuation_kind 0 stream (drop 16384 octets)

-- how many filled frames stand before the last
abbrev pub filled_before : List ℕ → ℕ
filled_before octets = (length octets - 1) / 16384

-- the frames of a block: HEADERS, with END_STREAM or without, and CONTINUATION as long as octets are left
abbrev pub block_frames : ℕ → Bool → List ℕ → List Frame
block_frames stream ends block = frames_of (filled_before block) headers_kind (if ends then 1 else 0) stream block

-- the type of a frame with a fragment, where a block was begun or wasn't
abbrev pub kind_behind : Option Partial → ℕ
kind_behind None = headers_kind
kind_behind (Some begun) = continuation_kind

-- A frame with a fragment that may go out where this block was begun: in its order, plainly flagged, and filled unless it is the last.
pub record IsFragment (stream : ℕ) (begun : Option Partial) (frame : Frame) : Type 0 where
  pub on_stream : frame.id ≡ stream
  pub kind : frame.kind ≡ kind_behind begun
  pub together : is_between begun frame ≡ false
  pub passing : (note : Note) → is_passing (record { frame = frame; note = note }) ≡ true
  pub plainly_flagged : is_plainly_flagged frame ≡ true
  pub filled : is_filled frame ≡ true
  pub has_octets : is_empty frame.payload ≡ false
  pub no_data : (frame.kind == data_kind) ≡ false
  pub no_reset : (frame.kind == rst_stream_kind) ≡ false
  pub no_update : (frame.kind == window_update_kind) ≡ false
  pub fits : Fits frame

-- The frames go out one after another where this was begun: the last completes the block, and those before it go on with it.
abbrev pub Complete : Partial → Option Partial → List Frame → Type 0
Complete block begun [] = ⊥
Complete block begun (last ∷ []) = IsFragment block.id begun last × (completed_in begun last ≡ Some block) × (begun_after begun last ≡ None)
Complete block begun (frame ∷ frames) = IsFragment block.id begun frame × (completed_in begun frame ≡ None) × Complete block (begun_after begun frame) frames
