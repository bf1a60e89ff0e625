use Rattle.std.proofs.Common.{◌≡◌, List, take, drop, subst, sym, ap, ◌∙◌}
use Rattle.theory_responses.specs.State.{Kept}
use Rattle.send_queue.specs.Places.{AreRising, IsSplit, AreAllOffered}
use Rattle.send_queue.proofs.Readying.{rising_drop}
use Rattle.send_queue.proofs.OnOffer.{none_counted, between}
use Rattle.send_queue.proofs.offered.Offered.among.Goals as goal

pub returns-then-self-eq0 : goal.returns-then-self-eq0
returns-then-self-eq0 c = none_counted c.args.self c.args.kept.now c.requires.told c.if-self-eq0.true

pub count_upto-requires : goal.count_upto-requires
count_upto-requires c = subst AreRising (sym c.split_at.ensures.back) (rising_drop c.count_below.result c.args.kept.now c.requires.rising)

pub returns : goal.returns
returns c =
    let upto : IsSplit (drop c.count_below.result c.args.kept.now) c.args.self.high c.count_upto.result = subst (λ (ks : List Kept). IsSplit ks c.args.self.high c.count_upto.result) c.split_at.ensures.back c.count_upto.ensures in
    let some : c.split_at-2.result.0.now ≡ take c.count_upto.result (drop c.count_below.result c.args.kept.now) = c.split_at-2.ensures.front ∙ ap (take c.count_upto.result) c.split_at.ensures.back in
    subst (AreAllOffered c.args.kept.now) (sym some) (between c.args.self c.args.kept.now c.requires.told c.count_below.result c.count_upto.result c.count_below.ensures upto)
