use Rattle.std.proofs.Common.{false, true, [], ◌∷◌, ap, subst}
use Rattle.std.specs.Prelude.{suc}
use Rattle.upstream_connections.specs.declared.held.Due.{Due}
use Rattle.theory_requests.specs.Lines.{least_idle}
use Rattle.upstream_connections.specs.Connections.{lives}
use Rattle.upstream_connections.specs.Requests.{due_by, due_for}
use Rattle.upstream_connections.specs.Kept.{State, Begins}
use Rattle.session_tests.proofs.Bodies.{may_go_out, may_go_further}
use Rattle.session_tests.proofs.upstreams_tests.assert_goes_out.Goals as goal

pub take_body-requires : goal.take_body-requires
take_body-requires g c =
    let b : Begins c.args.upstreams.now 3 7 false c.args.head.now false true (due_for c.in-ToOpen.request) c.begin.new.self =
    subst (λ (d : Due). Begins c.args.upstreams.now 3 7 false c.args.head.now false true (due_by d) c.begin.new.self) c.in-ToOpen.is c.in_ok-request.ensures.begun in
    may_go_out c.args.upstreams.now c.begin.new.self 3 7 false c.args.head.now c.in-ToOpen.request b (ap (λ (s : State). least_idle 7 (lives s.live)) c.requires.first) c.requires.undeclared (suc c.begin.new.self.count) c.open.new.self.held (ap (λ (s : State). s.held) c.in_ok-k.ensures.opened) (104 ∷ 101 ∷ 108 ∷ []) false

pub take_body-requires-2 : goal.take_body-requires-2
take_body-requires-2 g c =
    let b : Begins c.args.upstreams.now 3 7 false c.args.head.now false true (due_for c.in-ToOpen.request) c.begin.new.self =
    subst (λ (d : Due). Begins c.args.upstreams.now 3 7 false c.args.head.now false true (due_by d) c.begin.new.self) c.in-ToOpen.is c.in_ok-request.ensures.begun in
    may_go_further c.args.upstreams.now c.begin.new.self 3 7 false c.args.head.now c.in-ToOpen.request b (ap (λ (s : State). least_idle 7 (lives s.live)) c.requires.first) c.requires.undeclared (suc c.begin.new.self.count) c.open.new.self.held (ap (λ (s : State). s.held) c.in_ok-k.ensures.opened) (lives c.open.new.self.live)
    (104 ∷ 101 ∷ 108 ∷ []) (108 ∷ 111 ∷ []) c.args.trailers.now true (due_by c.in_ok-number.field-0) c.take_body.new.self.held c.in_ok-number.ensures.takes
