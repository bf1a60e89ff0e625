use Rattle.std.proofs.Common.{◌≡◌, ◌++◌, ap, ◌∙◌, ℕ}
use Rattle.std.specs.declared.vec.Vec.{Vec}
use Rattle.std.specs.declared.alloc.Global.{Global}
use Rattle.event_handlers.proofs.Results.{if_ok}
use Rattle.gateway.proofs.Pieces.{receives_waited}
use Rattle.gateway.proofs.gateway.Gateway.take_behind.Goals as goal

pub returns-clause-receives : goal.returns-clause-receives
returns-clause-receives c =
    let text : c.deref.result.now ≡ c.self.inside.partial.items ++ c.args.piece.now = c.deref.ensures.value ∙ c.in_ok-extend_from_slice.ensures.items ∙ ap (λ (waited : Vec ℕ Global). waited.items ++ c.args.piece.now) c.replace-text.ensures.value in
    rw (← c.self.view_is) (if_ok c.read-2.result
    (λ went receives. receives_waited _ c.read-2.new.self c.replace-text.new.dest.items c.args.out.now c.read-2.new.out went c.deref.result.now (c.self.inside.partial.items ++ c.args.piece.now) text receives)
    c.read-2.ensures.receives)
