use Rattle.std.proofs.Common.{[], ◌∷◌, false, true, refl}
use Rattle.upstream_connections.specs.Connections.{lives}
use Rattle.upstream_connections.specs.Requests.{due_by}
use Rattle.upstream_connections.proofs.Waiting.{may_take}
use Rattle.session_tests.proofs.Bodies.{may_take_behind}
use Rattle.session_tests.proofs.upstreams_tests.due_behind.Goals as goal

pub take_body-requires : goal.take_body-requires
take_body-requires g c =
    may_take c.args.upstreams.now c.begin.new.self 3 7 false c.args.head.now (due_by c.in_ok-begin.field-0) c.in_ok-begin.ensures.begun c.requires (104 ∷ 101 ∷ 108 ∷ []) false c.begin.new.self.held refl

pub take_body-requires-2 : goal.take_body-requires-2
take_body-requires-2 g c =
    may_take_behind c.args.upstreams.now c.begin.new.self 3 7 false c.args.head.now (due_by c.in_ok-begin.field-0) c.in_ok-begin.ensures.begun c.requires (lives c.begin.new.self.live) (104 ∷ 101 ∷ 108 ∷ []) (108 ∷ 111 ∷ []) c.args.trailers.now true (due_by c.in_ok-take_body.field-0) c.take_body.new.self.held c.in_ok-take_body.ensures.takes
