use Rattle.std.proofs.Common.{rules}
use Rattle.std.specs.Prelude.{nat_le}
use Rattle.std.proofs.lemmas.List.Sorted.{IsPartitionPoint-from_clause}
use Rattle.send_queue.proofs.Finding.{splits, parted}
use Rattle.send_queue.proofs.places.count_upto.Goals as goal

pub returns : goal.returns
returns c =
    let facts = c.partition_point.ensures in
    let upto = IsPartitionPoint-from_clause (λ k. nat_le k.id c.args.last) _ _ facts.partitioned (parted c.args.kept.now c.requires c.args.last) (λ a r q k. search rules) in
    splits c.args.kept.now c.requires c.args.last c.partition_point.result facts.bound upto
