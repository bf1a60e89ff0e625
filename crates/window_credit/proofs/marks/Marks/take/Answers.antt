use Rattle.std.proofs.Common.{sym, ap, ◌∙◌, subst, Option}
use Rattle.std.specs.Prelude.{IfSome}
use Rattle.theory_receive_windows.specs.Marks.{released}
use Rattle.window_credit.specs.Sides.{Side, find, queue_if, MayTake}
use Rattle.window_credit.proofs.Taking.{may_stay}
use Rattle.window_credit.proofs.marks.Marks.take.Goals as goal

pub take_own-own-requires : goal.take_own-own-requires
take_own-own-requires c =
    subst (λ (o : Option Side). IfSome o (MayTake c.args.taken)) (sym (ap (find c.args.id) c.take_behind-older.ensures.kept ∙ may_stay c.args.number c.args.taken c.args.id c.args.self.now c.requires)) c.requires

pub returns-clause-own : goal.returns-clause-own
returns-clause-own c =
    c.take_own-own.ensures.released
    ∙ ap (λ (o : Option Side). released c.args.taken (queue_if o)) (ap (find c.args.id) c.take_behind-older.ensures.kept ∙ may_stay c.args.number c.args.taken c.args.id c.args.self.now c.requires)
