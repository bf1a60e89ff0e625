use Rattle.std.specs.Prelude.{◌≡◌, ◌+◌, ◌*◌, ◌≤◌, vec_len, vec_capacity}
use Rattle.huffman.proofs.FlushLemmas.{Flushing}
use Rattle.huffman.proofs.encoder.put_octets.Given as goal

abbrev pub invariant-loop-rest : goal.invariant-loop-rest
invariant-loop-rest l = record {
  flushing : Flushing l.fn.all l.rest.number l.rest.width l.fn.out.items l.out.items;
  room : 8 * vec_len l.out + l.rest.width ≡ 8 * vec_len l.fn.out + l.fn.all.width;
  capacity : vec_capacity l.fn.out ≤ vec_capacity l.out;
}

abbrev pub decreases-loop-rest : goal.decreases-loop-rest
decreases-loop-rest l = l.rest.width
