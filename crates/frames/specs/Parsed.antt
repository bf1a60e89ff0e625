-- What `parse` answers, in words of the definitions.
use Rattle.std.specs.Prelude.{◌≡◌, ℕ, ◌%◌, Bool, false, ◌||◌, ◌==◌}
use Rattle.model.specs.Frames as model
use Rattle.model.specs.Frames.{data_kind, headers_kind, rst_stream_kind, settings_kind, ping_kind, window_update_kind, continuation_kind, content}
use Rattle.model.specs.Payloads.{PayloadFault, number_field}
use Rattle.model.specs.Payloads.PayloadFault.{WrongSize, OverPadded}
use Rattle.frames.specs.Parts.{Parts}
use Rattle.frames.specs.declared.parts.Frame.{Frame}
use Rattle.frames.specs.declared.parts.Frame.TheVariants.{Data, Headers, RstStream, Settings, Ping, WindowUpdate, Continuation, Other}
use Rattle.frames.specs.declared.parts.FrameFault.{FrameFault}
use Rattle.frames.specs.declared.parts.FrameFault.TheVariants.{Size, Protocol}

-- the parts without where they lie in memory
abbrev pub parts_in : Frame → Parts
parts_in (Data octets) = Parts.Data octets.now
parts_in (Headers fragment) = Parts.Headers fragment.now
parts_in (RstStream code) = Parts.RstStream code
parts_in (Settings entries) = Parts.Settings entries.now
parts_in (Ping octets) = Parts.Ping octets.now
parts_in (WindowUpdate increment) = Parts.WindowUpdate increment
parts_in (Continuation fragment) = Parts.Continuation fragment.now
parts_in Other = Parts.Other

-- the type has a variant of its own
abbrev pub has_variant : ℕ → Bool
has_variant kind =
    kind == data_kind
    || kind == headers_kind
    || kind == rst_stream_kind
    || kind == settings_kind
    || kind == ping_kind
    || kind == window_update_kind
    || kind == continuation_kind

-- The variant tells the type, and where in the payload its parts stand; `Other` is of the types without a variant. So the
-- type tells the variant too.
abbrev pub Says : Frame → model.Frame → Type 0
Says (Data octets) frame = (frame.kind ≡ data_kind) × (octets.now ≡ content frame)
Says (Headers fragment) frame = (frame.kind ≡ headers_kind) × (fragment.now ≡ content frame)
Says (RstStream code) frame = (frame.kind ≡ rst_stream_kind) × (code ≡ number_field frame.payload)
Says (Settings entries) frame = (frame.kind ≡ settings_kind) × (entries.now ≡ frame.payload)
Says (Ping octets) frame = (frame.kind ≡ ping_kind) × (octets.now ≡ frame.payload)
Says (WindowUpdate increment) frame = (frame.kind ≡ window_update_kind) × (increment ≡ number_field frame.payload % 2147483648)
Says (Continuation fragment) frame = (frame.kind ≡ continuation_kind) × (fragment.now ≡ content frame)
Says Other frame = has_variant frame.kind ≡ false

-- a fault, as that of a payload
abbrev pub fault_of : FrameFault → PayloadFault
fault_of Size = WrongSize
fault_of Protocol = OverPadded
