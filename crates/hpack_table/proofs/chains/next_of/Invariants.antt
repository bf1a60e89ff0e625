use Rattle.std.proofs.Common.{ℕ, List, ◌-◌, length}
use Rattle.hpack_table.specs.Chaining.{IsChained, IsNextOfHash, hashes_of}
use Rattle.hpack_table.proofs.chains.next_of.Given as goal

abbrev pub invariant-loop-link : goal.invariant-loop-link
invariant-loop-link l = (newest : List ℕ) (added from : ℕ) → IsChained newest added l.links.items → IsNextOfHash (hashes_of l.links.items) l.hash from l.initial.place → IsNextOfHash (hashes_of l.links.items) l.hash from l.place

abbrev pub decreases-loop-link : goal.decreases-loop-link
decreases-loop-link l = length l.links.items - l.place
