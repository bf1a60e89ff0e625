use Rattle.std.proofs.Common.{◌≡◌, ◌+◌, true, subst, List, ℕ}
use Rattle.std.specs.List.{list_all}
use Rattle.std.proofs.lemmas.List.{take_rest, take_all}
use Rattle.response_texts.proofs.Texts.{cut_there, cut_none, is_other}
use Rattle.response_texts.proofs.octets.cut.Goals as goal

pub returns-then-text-place-eq44-clause-cut : goal.returns-then-text-place-eq44-clause-cut
returns-then-text-place-eq44-clause-cut c =
    rw (take_rest c.args.text.now (c.loop-place.place + 1)) (cut_there c.args.text.now c.loop-place.place c.loop-place-test.true c.if-text-place-eq44.true c.loop-place.invariant)

pub returns-clause-cut : goal.returns-clause-cut
returns-clause-cut c =
    cut_none c.args.text.now (subst (λ (t : List ℕ). list_all is_other t ≡ true) (take_all c.loop-place.place c.args.text.now c.loop-place-test.false) c.loop-place.invariant)
