use Rattle.std.proofs.Common.{◌≡◌, nat_lt, drop}
use Rattle.std.specs.List.{find}
use Rattle.huffman.proofs.codes.row_at.Given as goal

abbrev pub invariant-loop-row : goal.invariant-loop-row
invariant-loop-row l = find (λ row. nat_lt l.window row.1) l.rows ≡ find (λ row. nat_lt l.window row.1) (drop l.row-index l.rows)
