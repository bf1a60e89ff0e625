use Rattle.std.proofs.Common.{arith}
use Rattle.huffman.proofs.DecodeLemmas.{padding_yes, padding_no, no_padding}
use Rattle.huffman.proofs.decoder.is_padding.Goals as goal

pub returns-then-left-le-MOST_PADDING-clause-yes : goal.returns-then-left-le-MOST_PADDING-clause-yes
returns-then-left-le-MOST_PADDING-clause-yes c = padding_yes c.args.left (omega arith)

pub returns-then-left-le-MOST_PADDING-clause-no : goal.returns-then-left-le-MOST_PADDING-clause-no
returns-then-left-le-MOST_PADDING-clause-no c = padding_no c.args.left c.requires (omega arith)

pub returns-else-left-le-MOST_PADDING-clause-no : goal.returns-else-left-le-MOST_PADDING-clause-no
returns-else-left-le-MOST_PADDING-clause-no c = no_padding c.args.left c.requires (omega arith)
