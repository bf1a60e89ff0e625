use Rattle.std.proofs.Common.{◌≡◌, false, [], None, refl, ap}
use Rattle.model.specs.Setup.{Setup}
use Rattle.model.specs.Setup.Policy.{Plain}
use Rattle.model.specs.Setup.Passing.{Whole}
use Rattle.theory_errors.specs.Book.{Book}
use Rattle.refinement.specs.View.{View}
use Rattle.gateway.proofs.Sizes.{none_small, none_held}
use Rattle.gateway.proofs.gateway.new_session.Goals as goal

-- no header block is begun, by any setup
pub returns-clause-small : goal.returns-clause-small
returns-clause-small c setup =
    let some : Setup = record { routes = []; policy = Plain; passing = Whole; max_body = 0; max_response = 0; keep = false; most_idle = 8; more_room = 0 } in
    none_small setup _ (ap (λ (b : Book). b.block) (c.new.ensures.book some refl)) c.new-2.ensures c.new-3.ensures c.new-4.ensures c.new.ensures.table c.new-5.ensures

pub returns-clause-nothing : goal.returns-clause-nothing
returns-clause-nothing c =
    let some : Setup = record { routes = []; policy = Plain; passing = Whole; max_body = 0; max_response = 0; keep = false; most_idle = 8; more_room = 0 } in
    let session : View = record { inbound = c.new.result; offers = c.new-2.result; upstreams = c.new-3.result; marks = c.new-4.result; encoding = c.new-5.result; untaken = 0 } in
    none_held session (ap (λ (b : Book). b.block) (c.new.ensures.book some refl)) c.new-2.ensures c.new-3.ensures c.new.ensures.table c.new-5.ensures
