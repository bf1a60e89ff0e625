use Rattle.std.proofs.Common.{sym, ◌∙◌}
use Rattle.huffman.proofs.TableLemmas.{short_front, past_shorts}
use Rattle.huffman.proofs.codes.code_at.Goals as goal

pub long_code_at-requires-clause-least : goal.long_code_at-requires-clause-least
long_code_at-requires-clause-least c = past_shorts c.args.window (sym c.entry_at.ensures ∙ c.in-None.is)

pub returns-in-Some : goal.returns-in-Some
returns-in-Some c = short_front c.args.window c.in-Some.octet c.in-Some.width (sym c.entry_at.ensures ∙ c.in-Some.is)
