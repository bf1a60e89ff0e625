-- DATA that may go by the summary: it is at most both windows.
use Rattle.std.specs.Prelude.{length, pos, ◌≤ℤ◌}
use Rattle.model.specs.Frames.{Frame}
use Rattle.theory_errors.specs.Summary.{Summary}
use Rattle.theory_errors.specs.Judging.{window_in}

-- A frame is at most both windows.
pub record FitsWindows (s : Summary) (frame : Frame) : Type 0 where
  pub own : pos (length frame.payload) ≤ℤ window_in s.first_size (s.stream frame.id)
  pub shared : pos (length frame.payload) ≤ℤ s.window
