use Rattle.huffman.specs.declared.decoder.HuffFault.TheVariants.{Eos, Padding}
use Rattle.huffman.proofs.FaultLemmas.{no_text}
use Rattle.header_blocks.proofs.strings.huffman_string.Goals as goal

pub returns-in-Err-Eos-clause-none : goal.returns-in-Err-Eos-clause-none
returns-in-Err-Eos-clause-none c = λ string. no_text c.args.text.now string Eos (λ e. cc) (rw c.in-Err-Eos.field-0-is at c.in-Err-Eos.ensures.fault)

pub returns-in-Err-Padding-clause-none : goal.returns-in-Err-Padding-clause-none
returns-in-Err-Padding-clause-none c = λ string. no_text c.args.text.now string Padding (λ e. cc) (rw c.in-Err-Padding.field-0-is at c.in-Err-Padding.ensures.fault)
