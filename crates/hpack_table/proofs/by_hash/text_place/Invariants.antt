use Rattle.std.proofs.Common.{◌-◌, length}
use Rattle.hpack_table.proofs.ByHash.{PassesText}
use Rattle.hpack_table.proofs.by_hash.text_place.Given as goal

abbrev pub invariant-loop-field : goal.invariant-loop-field
invariant-loop-field l = PassesText l.fields l.name l.value l.place

abbrev pub decreases-loop-field : goal.decreases-loop-field
decreases-loop-field l = length l.fields - l.place
