use Rattle.std.proofs.Common.{◌≡◌, ◌+◌, ◌^◌, ◌≤◌, length, take}
use Rattle.model.specs.Integers.{groups_value}
use Rattle.hpack_int.specs.Reading.{AreSet}
use Rattle.hpack_int.proofs.read_groups.Given as goal

abbrev pub invariant-loop-place : goal.invariant-loop-place
invariant-loop-place l = record {
  within : l.place ≤ length l.groups;
  are_set : AreSet (take l.place l.groups);
  sum : l.value ≡ l.ones + groups_value (take l.place l.groups);
  is_weight : l.weight ≡ 128 ^ l.place;
  in_range : l.value ≤ 4294967295;
}
