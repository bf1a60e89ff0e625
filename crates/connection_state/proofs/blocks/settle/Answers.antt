use Rattle.std.proofs.Common.{if◌then◌else◌, Some, ◌∙◌, ap}
use Rattle.model.specs.Errors.Fault.{Stream}
use Rattle.connection_state.proofs.Kept.{if_ok}
use Rattle.connection_state.proofs.Settling.{not_crowded, settles_alike}
use Rattle.connection_state.proofs.blocks.settle.Goals as goal
use Rattle.connection_state.proofs.blocks.settle.Goals.{else-crowded-via-then-crowded+else-is_last, else-crowded-via-else-crowded}
use Rattle.connection_state.specs.Blocks.{fault_with, fault_on}

pub returns-clause-settled : goal.returns-clause-settled
returns-clause-settled c = if_ok c.judge_block.result c.judge_block.ensures.settled (λ answer settles setup fields for read.
    settles_alike (fault_with c.args.crowded c.args.streams.now c.args.id fields c.args.ends) setup c.args.streams.now c.judge_block.new.streams c.args.id fields c.args.ends answer
    (elim c.else-crowded.branch [
      | else-crowded-via-then-crowded+else-is_last w ↦
          ap (λ x. fault_with x c.args.streams.now c.args.id fields c.args.ends) w.if-crowded.true
          ∙ w.is_last.ensures.is fields c.args.ends
          ∙ ap (λ x. if x then Some (Stream 11) else fault_on c.args.streams.now c.args.id fields c.args.ends) w.if-is_last.false
      | else-crowded-via-else-crowded w ↦
          ap (λ x. fault_with x c.args.streams.now c.args.id fields c.args.ends) w.if-crowded.false
          ∙ not_crowded c.args.streams.now c.args.id fields c.args.ends
    ])
    (settles setup fields for read))
