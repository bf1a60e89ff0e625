use Rattle.std.proofs.Common.{◌≡◌, ◌+◌, length}
use Rattle.theory_receive_windows.specs.Marks.{total, pop, released}
use Rattle.window_credit.specs.Queued.{marks_of}
use Rattle.window_credit.proofs.queue.drop_all.Given as goal

abbrev pub invariant-loop-count : goal.invariant-loop-count
invariant-loop-count l = record {
  left : pop l.taken (marks_of l.marks.items) ≡ pop l.taken (marks_of l.fn.marks.items);
  sum : l.sum + released l.taken (marks_of l.marks.items) ≡ released l.taken (marks_of l.fn.marks.items);
  all : l.sum + total (marks_of l.marks.items) ≡ total (marks_of l.fn.marks.items);
}

abbrev pub decreases-loop-count : goal.decreases-loop-count
decreases-loop-count l = length l.marks.items
