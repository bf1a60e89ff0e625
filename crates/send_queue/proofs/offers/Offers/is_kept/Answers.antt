use Rattle.std.proofs.Common.{◌≡◌, subst, ap, ◌∙◌, List, None}
use Rattle.std.specs.Prelude.{IfSome, IfNone}
use Rattle.theory_responses.specs.State.{Kept, State, find}
use Rattle.send_queue.specs.Places.{IsAt}
use Rattle.send_queue.specs.Asked.{is_kept}
use Rattle.send_queue.proofs.Changing.{kept_is}
use Rattle.send_queue.proofs.offers.Offers.is_kept.Goals as goal

pub returns : goal.returns
returns c =
    let found = subst (λ (ks : List Kept). IfSome c.place_of.result (IsAt ks c.args.id)) c.deref.ensures.value c.place_of.ensures.found in
    let absent = subst (λ (ks : List Kept). IfNone c.place_of.result (find c.args.id ks ≡ None)) c.deref.ensures.value c.place_of.ensures.absent in
    c.is_some.ensures
    ∙ kept_is c.args.id c.self.inside.kept.items c.place_of.result c.self.invariant.rising found absent
    ∙ ap (λ (s : State). is_kept c.args.id s.kept) c.self.view_is
