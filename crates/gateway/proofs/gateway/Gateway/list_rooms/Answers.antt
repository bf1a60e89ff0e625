use Rattle.std.proofs.Common.{◌++◌, map, sym, ap, ◌∙◌, subst}
use Rattle.theory_errors.specs.Rule.{known_of}
use Rattle.theory.specs.State.{conducts, tape_of}
use Rattle.gateway.specs.Rooms.{AreRooms, room_in}
use Rattle.gateway.specs.Stands.{Standing}
use Rattle.gateway.proofs.Rooms.{rooms_by_log, no_rooms_by_log, on_ok, listed_by}
use Rattle.gateway.proofs.gateway.Gateway.list_rooms.Goals as goal

pub returns-then-not-is_open-clause-log : goal.returns-then-not-is_open-clause-log
returns-then-not-is_open-clause-log c = λ setup log run stands.
    subst (λ r. AreRooms (known_of setup (conducts run)) (tape_of run) r) (sym c.clear.ensures.items)
    (no_rooms_by_log setup c.args.self.now log run stands (sym c.is_open.ensures ∙ c.if-not-is_open.true))

pub returns-clause-log : goal.returns-clause-log
returns-clause-log c = on_ok c.list_open.result
    (λ is setup log run stands.
    subst (λ r. AreRooms (known_of setup (conducts run)) (tape_of run) r) (sym (is ∙ ap (λ r. r ++ map (room_in c.args.self.now.kept.offers) c.connections.result.now) c.clear.ensures.items))
    (rooms_by_log setup c.args.self.now log run stands (sym c.is_open.ensures ∙ c.if-not-is_open.false) c.connections.result.now (c.connections.ensures.all ∙ ap (λ i. i.session.upstreams.live) c.self-inside.view_is ∙ ap (λ (g : Standing). g.kept.upstreams.live) c.self.view_is) c.connections.ensures.rising))
    (listed_by c.list_open.result _ c.args.self.now.kept.offers c.list_open.new.rooms.items c.clear.new.self.items c.connections.result.now (ap (λ i. i.session.offers) c.self-inside.view_is ∙ ap (λ (g : Standing). g.kept.offers) c.self.view_is) c.list_open.ensures)
