use Rattle.huffman.proofs.WindowLemmas.{window_below, whole_front, unended}
use Rattle.huffman.proofs.codes.next_code.Goals as goal

pub code_at-code-requires : goal.code_at-code-requires
code_at-code-requires c = window_below c.args.waiting c.requires

pub returns-then-code-waiting-clause-some : goal.returns-then-code-waiting-clause-some
returns-then-code-waiting-clause-some c = whole_front c.args.waiting c.code_at-code.result c.if-code-waiting.true c.code_at-code.ensures

pub returns-else-code-waiting-clause-none : goal.returns-else-code-waiting-clause-none
returns-else-code-waiting-clause-none c = unended c.args.waiting c.code_at-code.result c.requires c.if-code-waiting.false c.code_at-code.ensures
