use Rattle.std.proofs.Common.{[]}
use Rattle.std.specs.Prelude.{Some}
use Rattle.sockets.proofs.Moving.{all_still, all_twice}
use Rattle.sockets.proofs.Queueing.{grows_still, grows_twice}
use Rattle.sockets.proofs.queues.heed_all.Goals as goal

pub loop-report-init : goal.loop-report-init
loop-report-init g c = record { can_next = tt; is_finite = tt; goes = all_still _ _ c.args.upstreams.now.items; ready = grows_still c.args.ready.now.items; listed = λ all. all }

pub loop-report-preserved : goal.loop-report-preserved
loop-report-preserved g c = record {
  can_next = tt;
  is_finite = tt;
  goes = all_twice _ _ (Some []) c.args.upstreams.now.items c.loop-report.upstreams.items _ c.loop-report.invariant.goes c.heed.ensures.goes;
  ready = grows_twice _ _ _ c.loop-report.invariant.ready c.heed.ensures.ready;
  listed = λ all. c.in_ok-heed.ensures.listed (c.loop-report.invariant.listed all);
}

pub returns-in_err-heed-clause-goes : goal.returns-in_err-heed-clause-goes
returns-in_err-heed-clause-goes g c = all_twice _ _ (Some []) c.args.upstreams.now.items c.loop-report.upstreams.items _ c.loop-report.invariant.goes c.heed.ensures.goes

pub returns-in_err-heed-clause-ready : goal.returns-in_err-heed-clause-ready
returns-in_err-heed-clause-ready g c = grows_twice _ _ _ c.loop-report.invariant.ready c.heed.ensures.ready
