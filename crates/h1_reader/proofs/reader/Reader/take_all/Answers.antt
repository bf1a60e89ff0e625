use Rattle.std.proofs.lemmas.List.{take_rest}
use Rattle.h1_reader.proofs.Ending.{to_none, to_more, to_fails, to_goes, to_learns, to_used}
use Rattle.h1_reader.proofs.reader.Reader.take_all.Goals as goal

pub loop-self-init : goal.loop-self-init
loop-self-init c = to_none c.args.self.now c.args.told.now c.args.octets.now c.requires.place

pub returns-in-Err-clause-fault : goal.returns-in-Err-clause-fault
returns-in-Err-clause-fault c =
    λ n. to_fails c.args.self.now c.loop-self.self c.args.told.now c.loop-self.told c.in-Err.fault c.args.octets.now c.loop-self.rest.now c.requires.nothing c.loop-self.invariant (c.in-Err.ensures.fault n)

pub loop-self-preserved : goal.loop-self-preserved
loop-self-preserved c =
    rw (take_rest c.loop-self.rest.now c.in-Ok.used)
    (to_more c.args.self.now c.loop-self.self c.take.new.self c.args.told.now c.loop-self.told c.take.new.told c.args.octets.now c.loop-self.rest.now c.in-Ok.used c.requires.nothing c.loop-self.invariant c.in-Ok.ensures.ok.2 c.in-Ok.ensures.ends c.in-Ok.ensures.learns)

pub returns-clause-ok : goal.returns-clause-ok
returns-clause-ok c = to_goes c.args.self.now c.loop-self.self c.args.told.now c.loop-self.told c.args.octets.now c.loop-self.rest.now c.loop-self.invariant

pub returns-clause-used : goal.returns-clause-used
returns-clause-used c = to_used c.args.self.now c.loop-self.self c.args.told.now c.loop-self.told c.args.octets.now c.loop-self.rest.now c.loop-self.invariant (c.stops.ensures.yes c.loop-self-test.false)

pub returns-clause-learns : goal.returns-clause-learns
returns-clause-learns c = to_learns c.args.self.now c.loop-self.self c.args.told.now c.loop-self.told c.args.octets.now c.loop-self.rest.now c.loop-self.invariant
