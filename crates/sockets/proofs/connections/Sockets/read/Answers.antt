use Rattle.std.proofs.Common.{◌≡◌, ◌∙◌, sym, ap, subst}
use Rattle.std.specs.Prelude.{None, Ok}
use Rattle.std.proofs.lemmas.Result.{IfOk-weaker}
use Rattle.sockets.specs.Idle.{could_read, next_of}
use Rattle.driver.specs.Calls.{HearsIdleFirst}
use Rattle.sockets.specs.declared.upstream.Upstream.{Upstream}
use Rattle.sockets.proofs.Idling.{hears_client, not_held, rotated}
use Rattle.sockets.proofs.Moving.{moves_failed, moves_still}
use Rattle.sockets.proofs.Queueing.{queued_in}
use Rattle.sockets.proofs.connections.Sockets.read.Goals as goal

pub returns-in_err-push_back-clause-moves : goal.returns-in_err-push_back-clause-moves
returns-in_err-push_back-clause-moves g c = moves_failed _ _ c.from_residual.result _ _ _ _ c.from_residual.ensures.0 (moves_still _ _ _ _)

pub returns-then-is_held_back-clause-moves : goal.returns-then-is_held_back-clause-moves
returns-then-is_held_back-clause-moves g c = moves_still _ _ _ _

pub returns-then-is_held_back-clause-queued : goal.returns-then-is_held_back-clause-queued
returns-then-is_held_back-clause-queued g c = λ before. rw c.in_ok-push_back.ensures.items (queued_in _ _ _ _ _ _ (rotated c.args.number c.args.self.now.ready.items) before)

pub returns-clause-first : goal.returns-clause-first
returns-clause-first g c =
    let old = c.args.self.now in
    let new = c.read_client.new.self in
    let idle = c.args.idle.now in
    IfOk-weaker c.read_client.result _ _
    (λ event heard none.
    subst (λ looks. HearsIdleFirst idle (next_of event) (could_read new.upstreams.items) old.heard_at new.heard_at looks) (sym c.read_client.ensures.looks)
    (hears_client idle event (could_read new.upstreams.items) old.heard_at new.heard_at old.looks
    (λ k among. ap (λ us. could_read us k) (ap (λ v. v.items) c.read_client.ensures.upstreams) ∙ none k c.if-number-ne-CLIENT.false among)
    (not_held old.heard_at old.looks idle (sym c.is_held_back.ensures ∙ c.if-is_held_back.false)) heard))
    c.read_client.ensures.heard
