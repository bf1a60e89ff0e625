use Rattle.model.specs.Blocks.{NoBlock}
use Rattle.header_blocks.specs.Represented.{UnlessMemory}
use Rattle.header_blocks.specs.Faults.{IsFaultOf}
use Rattle.header_blocks.proofs.HeldInside.{empty_behind}
use Rattle.header_blocks.proofs.Refused.{by_seen}
use Rattle.header_blocks.proofs.decoder.Decoder.decode.Goals as goal

pub returns-in-Err-clause-no_block : goal.returns-in-Err-clause-no_block
returns-in-Err-clause-no_block c =
    rw (← c.self.view_is) (by_seen c.decode_block-result.result (λ table fault. UnlessMemory fault (NoBlock table c.args.block.now)) c.self.inside.fault c.self.inside.before.value c.self.inside.table c.decode_block-result.ensures.none)

pub returns-in-Err-clause-fault : goal.returns-in-Err-clause-fault
returns-in-Err-clause-fault c =
    rw (← c.self.view_is) (by_seen c.decode_block-result.result (λ table fault. UnlessMemory fault (IsFaultOf table c.args.block.now fault)) c.self.inside.fault c.self.inside.before.value c.self.inside.table c.decode_block-result.ensures.fault)

pub invariant_of-self : goal.invariant_of-self
invariant_of-self c = empty_behind c.self.inside.fault c.self.inside.before.value c.self.inside.table c.of.result.value c.new.result.fields c.in_default.is c.of.ensures c.new.ensures.fields c.self.invariant.0

pub invariant_of-self-in-Err-2 : goal.invariant_of-self-in-Err-2
invariant_of-self-in-Err-2 c = empty_behind c.self.inside.fault c.self.inside.before.value c.self.inside.table c.of.result.value c.new.result.fields c.in_default.is c.of.ensures c.new.ensures.fields c.self.invariant.0
