use Rattle.std.proofs.Common.{◌<◌, arith}
use Rattle.response_texts.proofs.chunk_line.line_step.Goals as goal

pub space_step-requires : goal.space_step-requires
space_step-requires c = λ e. let some : 0 < c.in-Spaces.spaces = rw c.in-Spaces.is at c.requires in absurd (omega arith)

pub returns-in-Size : goal.returns-in-Size
returns-in-Size c = rw c.in-Size.is c.size_step.ensures

pub returns-in-Spaces : goal.returns-in-Spaces
returns-in-Spaces c = rw c.in-Spaces.is c.space_step.ensures

pub returns-in-Extension : goal.returns-in-Extension
returns-in-Extension c = rw c.in-Extension.is c.extension_step.ensures

pub returns-in-Return : goal.returns-in-Return
returns-in-Return c = rw c.in-Return.is c.return_step.ensures
