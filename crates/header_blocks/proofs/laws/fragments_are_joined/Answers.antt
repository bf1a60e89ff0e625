use Rattle.header_blocks.proofs.Followed.{first_joined, more_joined, other_joined}
use Rattle.header_blocks.proofs.laws.fragments_are_joined.Goals as goal

pub returns-clause-first : goal.returns-clause-first
returns-clause-first c = first_joined

pub returns-clause-more : goal.returns-clause-more
returns-clause-more c = more_joined

pub returns-clause-other : goal.returns-clause-other
returns-clause-other c = other_joined
