use Rattle.std.proofs.Common.{refl}
use Rattle.command_line.specs.declared.words.WordsFault.TheVariants.{Memory}
use Rattle.command_line.specs.Gateways.{Refuses}
use Rattle.h2gw_setup.proofs.setting.words_of.Goals as goal

pub returns-then-is_err-clause-stops : goal.returns-then-is_err-clause-stops
unfolding Refuses
returns-then-is_err-clause-stops c = (Memory, refl, tt)
