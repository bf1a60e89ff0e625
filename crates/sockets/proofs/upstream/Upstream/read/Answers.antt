use Rattle.std.proofs.Common.{length, refl, ap}
use Rattle.sockets.specs.declared.side.Side.{Side}
use Rattle.sockets.proofs.Moving.{read_goes, side_got}
use Rattle.sockets.proofs.Events.{read_fits}
use Rattle.sockets.proofs.upstream.Upstream.read.Goals as goal

pub returns-clause-goes : goal.returns-clause-goes
returns-clause-goes g c =
    let unended = rw c.in-Some.is at c.requires.unended in
    read_goes _ _ c.read-got.result c.event_of.result c.args.self.now.k c.args.self.now.broken c.is_lost-is_lost.result c.args.self.now _ c.in-Some.side c.read-got.new.self c.in-Some.is refl (ap (λ (side : Side g.row.S.Denot). side.lost) c.read-got.ensures.stays) c.event_of.ensures
    (side_got _ _ c.read-got.result (length c.args.room.now) c.in-Some.side c.read-got.new.self c.read-got.ensures.stays c.read-got.ensures.gives c.read-got.ensures.held c.read-got.ensures.ended unended c.requires.room)

pub returns-clause-fits : goal.returns-clause-fits
returns-clause-fits g c =
    read_fits c.read-got.result c.event_of.result c.args.self.now.k (length c.args.room.now) c.args.self.now.broken c.is_lost-is_lost.result _ _ c.requires.room c.read-got.ensures.gives c.event_of.ensures
