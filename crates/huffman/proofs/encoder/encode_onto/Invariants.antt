use Rattle.std.specs.Prelude.{◌+◌, ◌*◌, ◌≤◌, vec_len, vec_capacity}
use Rattle.std.proofs.Common.{take}
use Rattle.huffman.proofs.CodingLemmas.{Coding}
use Rattle.huffman.proofs.encoder.encode_onto.Given as goal

abbrev pub invariant-loop-octet : goal.invariant-loop-octet
invariant-loop-octet l = record {
  coding : Coding (take l.octet-index l.string) l.pending l.fn.out.items l.out.items;
  room : 8 * vec_len l.out + l.pending.width ≤ 8 * vec_len l.fn.out + 30 * l.octet-index;
  capacity : vec_capacity l.fn.out ≤ vec_capacity l.out;
}
