use Rattle.std.proofs.Common.{◌∙◌, ap, subst, sym, if◌then◌else◌}
use Rattle.theory_errors.specs.Rule.{known_of}
use Rattle.theory.specs.State.{conducts, tape_of}
use Rattle.event_handlers.specs.Admission.{room_on}
use Rattle.gateway.specs.Rooms.{TellsRoom}
use Rattle.gateway.proofs.Admitting.{room_by_log}
use Rattle.gateway.proofs.gateway.Gateway.room.Goals as goal

pub returns-then-is_open-clause-log : goal.returns-then-is_open-clause-log
returns-then-is_open-clause-log c = λ setup log run stands.
    subst (TellsRoom (known_of setup (conducts run)) (tape_of run) c.args.k)
    (ap (λ b. if b then room_on c.args.self.now.kept c.args.k else 0) (sym c.is_open.ensures ∙ c.if-is_open.true) ∙ sym c.room_on.ensures)
    (room_by_log setup c.args.self.now log run stands c.args.k)

pub returns-else-is_open-clause-log : goal.returns-else-is_open-clause-log
returns-else-is_open-clause-log c = λ setup log run stands.
    subst (TellsRoom (known_of setup (conducts run)) (tape_of run) c.args.k)
    (ap (λ b. if b then room_on c.args.self.now.kept c.args.k else 0) (sym c.is_open.ensures ∙ c.if-is_open.false))
    (room_by_log setup c.args.self.now log run stands c.args.k)
