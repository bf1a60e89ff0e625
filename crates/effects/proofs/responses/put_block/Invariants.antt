use Rattle.std.proofs.Common.{◌≡◌, ◌≤◌, length}
use Rattle.effects.specs.Sent.{put_frames}
use Rattle.effects.specs.Blocks.{frames_of, filled_before}
use Rattle.effects.proofs.responses.put_block.Given as goal

abbrev pub invariant-loop-view : goal.invariant-loop-view
invariant-loop-view l = record {
  frames : put_frames l.out (frames_of (filled_before l.view.payload.now) l.view.kind l.view.flags l.view.id l.view.payload.now) ≡ put_frames l.fn.out (frames_of (filled_before l.fn.block) 1 l.fn.flags l.fn.stream l.fn.block);
  stream : l.view.id ≡ l.fn.stream;
  kind : l.view.kind ≤ 9;
  flags : l.view.flags ≤ 1;
}

abbrev pub decreases-loop-view : goal.decreases-loop-view
decreases-loop-view l = length l.view.payload.now
