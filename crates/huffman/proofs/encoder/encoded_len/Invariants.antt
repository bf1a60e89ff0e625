use Rattle.std.proofs.Common.{◌≤◌, ◌*◌, take}
use Rattle.huffman.proofs.CodingLemmas.{Counting}
use Rattle.huffman.proofs.encoder.encoded_len.Given as goal

abbrev pub invariant-loop-octet : goal.invariant-loop-octet
invariant-loop-octet l = record {
  small : l.bits ≤ 30 * l.octet-index;
  counting : Counting (take l.octet-index l.string) l.bits;
}
