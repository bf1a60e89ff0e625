use Rattle.std.proofs.Common.{◌≡◌, take}
use Rattle.std.specs.Prelude.{sum_by}
use Rattle.window_credit.specs.Sides.{released_on}
use Rattle.window_credit.proofs.Behind.{taken_to}
use Rattle.window_credit.proofs.older.take_from_all.Given as goal

abbrev pub invariant-loop-side : goal.invariant-loop-side
invariant-loop-side l = record {
  left : l.side-items ≡ taken_to l.number l.taken l.side-index l.fn.sides.items;
  sum : l.sum ≡ sum_by (released_on l.number l.taken) (take l.side-index l.fn.sides.items);
}
