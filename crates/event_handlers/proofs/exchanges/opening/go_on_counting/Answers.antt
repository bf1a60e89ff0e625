use Rattle.std.proofs.Common.{◌≡◌, List, true, sym, ◌∙◌, ap, subst}
use Rattle.upstream_response.specs.Waiting.{passing_in}
use Rattle.window_credit.specs.Sides.{Side, is_above_all}
use Rattle.refinement.specs.View.{View}
use Rattle.event_handlers.proofs.exchanges.Reuses.{above_passed}
use Rattle.event_handlers.proofs.exchanges.opening.go_on_counting.Goals as goal

pub open-requires-clause-above : goal.open-requires-clause-above
open-requires-clause-above c =
    let above : is_above_all c.args.stream c.session.inside.marks ≡ true = ap (λ (v : View). is_above_all c.args.stream v.marks) c.session.view_is ∙ c.requires.above (ap passing_in c.in-Streaming.is) in
    subst (λ (sides : List Side). is_above_all c.args.stream sides ≡ true) (sym c.pass.ensures) (above_passed c.args.stream c.args.from c.session.inside.marks above)
