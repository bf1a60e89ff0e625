-- Whether a frame, of any type, has a fragment of a header block.
use Rattle.std.specs.Prelude.{◌==◌, ◌||◌, Bool}
use Rattle.model.specs.Frames.{Frame, headers_kind, continuation_kind}

-- the frame has a fragment of a header block
abbrev pub has_fragment : Frame → Bool
has_fragment frame = frame.kind == headers_kind || frame.kind == continuation_kind
