use Rattle.std.proofs.Common.{arith, refl}
use Rattle.model.proofs.FramesFronts.{at_front}
use Rattle.frames.proofs.split.Goals as goal

pub returns : goal.returns
returns c = record {
  used_is = omega arith;
  within = omega arith;
  spells = at_front c.args.octets.now _ (λ i. omega (arith, c.type_inv.octets i)) refl (omega arith) (omega arith);
  payload = refl;
}
