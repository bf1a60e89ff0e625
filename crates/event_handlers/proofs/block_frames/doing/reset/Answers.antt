use Rattle.std.proofs.Common.{◌≡◌, ℕ, List, Option, Some, None, subst, inl, inr}
use Rattle.model.specs.Logs.{Output}
use Rattle.refinement.specs.View.{View}
use Rattle.event_handlers.specs.Stopping.{IsCalmed}
use Rattle.event_handlers.specs.block_frames.Following.{with_goaway, put_goaway, IsCalmedBehind, WasFree}
use Rattle.event_handlers.proofs.Results.{stopped}
use Rattle.event_handlers.proofs.block_frames.doing.reset.Goals as goal

-- behind the GOAWAY, or where none is owed
behind_it : (last : Option ℕ) (old v : View) (o q p : List Output) → WasFree last old → v ≡ with_goaway last old → q ≡ put_goaway last o → IsCalmed v q p → IsCalmedBehind last old o p
behind_it None old v o q p free kept puts is = inl (subst (λ (x : View). IsCalmed x o p) kept (subst (λ (x : List Output). IsCalmed v x p) puts is))
behind_it (Some last) old v o q p free kept puts is = inr (free, subst (λ (x : View). IsCalmed x (put_goaway (Some last) o) p) kept (subst (λ (x : List Output). IsCalmed v x p) puts is))

pub returns-in_err-pay_goaway-clause-over : goal.returns-in_err-pay_goaway-clause-over
returns-in_err-pay_goaway-clause-over c = stopped c.from_residual.result c.in_err-pay_goaway.field-0.0 c.from_residual.ensures.1 (λ is. inl is) c.in_err-pay_goaway.ensures.over

pub returns-in_err-pay-clause-over : goal.returns-in_err-pay-clause-over
returns-in_err-pay-clause-over c =
    stopped c.from_residual-in_err-pay.result c.in_err-pay.field-0.0 c.from_residual-in_err-pay.ensures.1
    (λ is. behind_it c.args.goaway c.args.session.now c.pay_goaway.new.session c.args.out.now c.pay_goaway.new.out c.pay.new.out c.in_ok-pay_goaway.ensures.free c.in_ok-pay_goaway.ensures.kept c.in_ok-pay_goaway.ensures.sent is) c.in_err-pay.ensures.over
