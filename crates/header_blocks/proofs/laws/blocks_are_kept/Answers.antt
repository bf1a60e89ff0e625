use Rattle.header_blocks.proofs.Followed.{nothing_kept, counted, kept_on, kept_none}
use Rattle.header_blocks.proofs.laws.blocks_are_kept.Goals as goal

pub returns-clause-nothing : goal.returns-clause-nothing
returns-clause-nothing c = nothing_kept

pub returns-clause-count : goal.returns-clause-count
returns-clause-count c = counted

pub returns-clause-goes_on : goal.returns-clause-goes_on
returns-clause-goes_on c = kept_on

pub returns-clause-whole : goal.returns-clause-whole
returns-clause-whole c = kept_none
