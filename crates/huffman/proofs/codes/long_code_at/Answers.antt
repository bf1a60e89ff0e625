use Rattle.std.proofs.Common.{Some, sym, ◌∙◌}
use Rattle.huffman.proofs.TableLemmas.{row_for, long_front}
use Rattle.huffman.proofs.codes.long_code_at.Goals as goal

pub returns : goal.returns
returns c =
    let row = row_for c.args.window (Some (c.in-Some.width, c.in-Some.field-0-1, c.in-Some.lead)) c.requires.least c.requires.most (sym c.in-Some.is ∙ c.row_at.ensures) in
    rw c.symbol_at.ensures (long_front c.args.window c.in-Some.width c.in-Some.field-0-1 c.in-Some.lead row)
