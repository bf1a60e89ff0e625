-- The verdict on a frame of the client, from what is kept of errors, streams, windows and blocks.
use Rattle.std.specs.Prelude.{◌&&◌, is_some}
use Rattle.model.specs.Frames.{Frame}
use Rattle.model.specs.Errors.{first_of}
use Rattle.theory_errors.specs.Summary.{Summary}
use Rattle.theory_errors.specs.Judging.{rows_before_block_in, completed_in}
use Rattle.theory_errors.specs.After.{is_sound, are_taken_in}
use Rattle.theory_header_tables.specs.State.{Verdict}

-- the verdict on a frame
abbrev pub verdict_in : Summary → Frame → Verdict
verdict_in s frame = record {
  is_error = is_some (first_of (rows_before_block_in s frame));
  is_taken = is_sound s frame && are_taken_in s frame;
  block = completed_in s.block frame;
}
