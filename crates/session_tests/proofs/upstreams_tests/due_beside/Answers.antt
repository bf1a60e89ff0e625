use Rattle.std.proofs.Common.{[], ◌∷◌, false, true, ap, ◌∙◌}
use Rattle.theory_requests.specs.State.{id_of, held_of}
use Rattle.theory_requests.proofs.Lists.{find_other}
use Rattle.upstream_connections.specs.Kept.{State}
use Rattle.upstream_connections.specs.Requests.{due_by}
use Rattle.upstream_connections.proofs.Waiting.{may_take}
use Rattle.session_tests.proofs.upstreams_tests.due_beside.Goals as goal

pub take_body-requires : goal.take_body-requires
take_body-requires g c =
    may_take c.args.upstreams.now c.begin.new.self 3 7 false c.args.head.now (due_by c.in_ok-begin.field-0) c.in_ok-begin.ensures.begun c.requires (121 ∷ []) true c.forget.new.self.held
    (ap (λ (s : State). held_of 3 s.held) c.forget.ensures ∙ find_other id_of 5 3 c.begin.new.self.held (λ same. cc))
