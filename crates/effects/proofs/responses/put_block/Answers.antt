use Rattle.std.proofs.Common.{◌∙◌, arith, refl}
use Rattle.effects.proofs.Cuts.{goes_next}
use Rattle.effects.proofs.responses.put_block.Goals as goal

pub send-requires : goal.send-requires
send-requires c =
    let i = c.loop-view.invariant in let size = c.split_at.ensures.front_len in let stream = c.requires.stream in
    record { kind = omega (arith, i.kind); flags = omega (arith, i.flags); id = omega (arith, i.stream, stream); payload = omega (arith, size) }

pub send-requires-2 : goal.send-requires-2
send-requires-2 c =
    let i = c.loop-view.invariant in let stream = c.requires.stream in
    record { kind = omega (arith, i.kind); flags = omega (arith, i.flags); id = omega (arith, i.stream, stream); payload = c.loop-view-test.false }

pub loop-view-preserved : goal.loop-view-preserved
loop-view-preserved c =
    let i = c.loop-view.invariant in let view = c.loop-view.view in
    record {
      frames =
          goes_next c.loop-view.out c.send.new.self view.kind view.flags view.id c.args.stream view.payload.now c.split_at.result.0.now c.split_at.result.1.now c.loop-view-test.true c.split_at.ensures.front c.split_at.ensures.back
          i.stream c.in_ok-send.ensures
          ∙ i.frames;
      stream = refl;
      kind = omega arith;
      flags = omega arith;
    }
