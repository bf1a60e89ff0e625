-- What octets begin with, in words of the code.
use Rattle.std.specs.Prelude.{◌≡◌, ℕ, ◌+◌, ◌<◌, ◌≤◌, List, ◌++◌, length, take, slice_range}
use Rattle.model.specs.Frames.{Frame, Spells, BeginsNoFrame, IsTooLong, length_field}
use Rattle.frames.specs.declared.views.View.{View}
use Rattle.frames.specs.declared.views.Split.{Split}
use Rattle.frames.specs.declared.views.Split.TheVariants.{Frame as Whole, More, TooLong}

-- a view's frame with another payload
abbrev pub with_payload : View → List ℕ → Frame
with_payload view payload = record { kind = view.kind; flags = view.flags; id = view.id; payload = payload }

-- a view without where it lies in memory
abbrev pub frame_of : View → Frame
frame_of view = with_payload view view.payload.now

-- a view's frame with octets behind its payload
abbrev pub joined : View → List ℕ → Frame
joined view more = with_payload view (view.payload.now ++ more)

-- The first `used` octets spell the frame, and its payload is those of them behind the nine of the header.
pub record IsAtFront (octets : List ℕ) (view : View) (used : ℕ) : Type 0 where
  pub used_is : used ≡ 9 + length_field octets
  pub within : used ≤ length octets
  pub spells : Spells (take used octets) (frame_of view)
  pub payload : view.payload.now ≡ slice_range octets 9 used

-- Less than a whole frame stands there, and no header that is too long: so the octets are fewer than the longest frame has.
pub record IsUnfinished (octets : List ℕ) : Type 0 where
  pub no_frame : BeginsNoFrame octets
  pub not_too_long : IsTooLong octets → ⊥
  pub short : length octets < 16393

-- A whole header stands there that is too long, and so no frame.
pub record IsRefused (octets : List ℕ) : Type 0 where
  pub too_long : IsTooLong octets
  pub no_frame : BeginsNoFrame octets

-- The answer says what the octets begin with; each of the three excludes the others.
abbrev pub IsSplit : List ℕ → Split → Type 0
IsSplit octets (Whole view used) = IsAtFront octets view used
IsSplit octets More = IsUnfinished octets
IsSplit octets TooLong = IsRefused octets
