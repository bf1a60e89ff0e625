use Rattle.std.proofs.Common.{◌-◌, length}
use Rattle.hpack_table.proofs.ByHash.{PassesName}
use Rattle.hpack_table.proofs.by_hash.name_place.Given as goal

abbrev pub invariant-loop-field : goal.invariant-loop-field
invariant-loop-field l = PassesName l.fields l.name l.place

abbrev pub decreases-loop-field : goal.decreases-loop-field
decreases-loop-field l = length l.fields - l.place
