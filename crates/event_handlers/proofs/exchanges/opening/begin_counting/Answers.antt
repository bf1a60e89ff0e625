use Rattle.std.proofs.Common.{◌≡◌, ◌+◌, ◌<◌, ◌^◌, true, Option, Some, sym, ◌∙◌, ap, subst, arith}
use Rattle.std.specs.Prelude.{IfSome}
use Rattle.upstream_response.specs.Waiting.{passing_in}
use Rattle.window_credit.specs.Sides.{Side, find, is_above_all, opened}
use Rattle.window_credit.proofs.Looking.{joined_own}
use Rattle.refinement.specs.View.{View}
use Rattle.event_handlers.proofs.exchanges.Opens.{none_above}
use Rattle.event_handlers.proofs.exchanges.opening.begin_counting.Goals as goal

pub put-requires : goal.put-requires
put-requires c =
    let above : is_above_all c.args.stream c.session.inside.marks ≡ true = ap (λ (v : View). is_above_all c.args.stream v.marks) c.session.view_is ∙ c.requires (ap passing_in c.in-Streaming.is) in
    let found : find c.args.stream c.open.new.self ≡ Some (opened c.args.stream c.args.k 0 0) =
    ap (find c.args.stream) c.in_ok-open-in-Streaming.ensures.opened ∙ joined_own (opened c.args.stream c.args.k 0 0) c.session.inside.marks (none_above c.args.stream c.session.inside.marks above) in
    let fits = c.ranges.count.fits in
    subst (λ (o : Option Side). IfSome o (λ side. side.out + c.args.count < 2 ^ 64)) (sym found) (omega (arith, fits))
