use Rattle.std.proofs.Common.{◌≡◌, ◌++◌, take}
use Rattle.model.specs.Http1Text.{lines_text}
use Rattle.h1_writer.proofs.lines.push_lines.Given as goal

abbrev pub invariant-loop-field : goal.invariant-loop-field
invariant-loop-field l = l.out.items ≡ l.initial.out.items ++ lines_text (take l.field-index l.fields)
