use Rattle.std.proofs.Common.{ap}
use Rattle.sockets.specs.declared.side.Side.{Side}
use Rattle.sockets.proofs.Passed.{put_front, passed, passes_front, passes_same, still_front}
use Rattle.sockets.proofs.side.Side.put.Goals as goal

pub returns-in_err-put-clause-front : goal.returns-in_err-put-clause-front
returns-in_err-put-clause-front g c =
    put_front c.put.result _ _ c.args.octets.now c.args.self.now.out c.put.new.self c.put.ensures.passes c.put.ensures.failed c.put.ensures.refused

pub returns-then-octets-self-clause-front : goal.returns-then-octets-self-clause-front
returns-then-octets-self-clause-front g c =
    passes_front _ _ c.args.octets.now c.args.self.now.out c.watch.new.self.out
    (passes_same _ _ _ c.args.octets.now c.args.self.now.out c.put.new.self c.watch.new.self.out c.watch.ensures.held (ap (λ (side : Side g.row.S.Denot). side.out) c.watch.ensures.stays)
    (passed _ _ c.args.octets.now c.args.self.now.out c.put.new.self c.in_ok-put.ensures.passes))

pub returns-in_err-gather-clause-front : goal.returns-in_err-gather-clause-front
returns-in_err-gather-clause-front g c = still_front _ c.args.octets.now c.args.self.now.out c.gather.new.self c.in_err-gather.ensures.refused
