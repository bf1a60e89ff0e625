use Rattle.std.proofs.Common.{rules}
use Rattle.std.specs.Prelude.{nat_lt}
use Rattle.std.proofs.lemmas.List.Sorted.{IsPartitionPoint-from_clause}
use Rattle.send_queue.proofs.Finding.{splits_below, parted_below}
use Rattle.send_queue.proofs.places.count_below.Goals as goal

pub returns : goal.returns
returns c =
    let facts = c.partition_point.ensures in
    let below = IsPartitionPoint-from_clause (λ k. nat_lt k.id c.args.least) _ _ facts.partitioned (parted_below c.args.kept.now c.requires c.args.least) (λ a r q k. search rules) in
    splits_below c.args.kept.now c.requires c.args.least c.partition_point.result facts.bound below
