use Rattle.std.proofs.Common.{ap, ◌∙◌, List, ℕ, take}
use Rattle.hpack_table.proofs.Chained.{chained_front, hashes_front}
use Rattle.hpack_table.proofs.chains.Chains.keep.Goals as goal

pub invariant_of-self : goal.invariant_of-self
invariant_of-self c = chained_front c.self.inside.newest.items c.self.inside.added c.args.count c.self.inside.links.items c.truncate.new.self.items c.self.invariant c.truncate.ensures.items

pub returns : goal.returns
returns c = hashes_front c.args.count c.self.inside.links.items c.truncate.new.self.items c.truncate.ensures.items ∙ ap (λ (h : List ℕ). take c.args.count h) c.self.view_is
