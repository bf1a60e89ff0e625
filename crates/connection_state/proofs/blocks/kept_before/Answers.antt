use Rattle.std.proofs.Common.{sym, ◌∙◌, ap}
use Rattle.theory_errors.specs.Summary.{Stream as Kept}
use Rattle.connection_state.proofs.BlockRows.{idle_of, nothing_known}
use Rattle.connection_state.proofs.blocks.kept_before.Goals as goal

pub returns-in_default-clause-course : goal.returns-in_default-clause-course
returns-in_default-clause-course c =
    c.new.ensures ∙ sym (ap (λ (k : Kept). k.outline) (nothing_known c.args.streams.now c.args.id (idle_of c.args.streams.now c.args.id c.requires.wanted c.in_default.ensures.none)))

pub returns-in_default-clause-head_out : goal.returns-in_default-clause-head_out
returns-in_default-clause-head_out c =
    sym (ap (λ (k : Kept). k.head_out) (nothing_known c.args.streams.now c.args.id (idle_of c.args.streams.now c.args.id c.requires.wanted c.in_default.ensures.none)))
