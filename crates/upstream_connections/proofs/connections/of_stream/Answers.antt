use Rattle.std.proofs.Common.{suc, ◌∙◌, ap, sym}
use Rattle.std.specs.Prelude.{reverse}
use Rattle.std.proofs.lemmas.Bool.{eqb-true, eqb-false}
use Rattle.std.proofs.lemmas.List.{nil_from_length}
use Rattle.theory_requests.specs.Lines.{find}
use Rattle.upstream_connections.specs.Connections.{works_for}
use Rattle.upstream_connections.proofs.Openings.{newest_found, newest_other}
use Rattle.upstream_connections.proofs.connections.of_stream.Goals as goal

pub returns-then-works_for : goal.returns-then-works_for
returns-then-works_for c =
    sym c.loop-connection.invariant
    ∙ ap (λ cs. find works_for (suc c.args.id) (reverse cs)) c.in-Some.ensures.steps
    ∙ newest_found (suc c.args.id) c.next.new.self.iter.rest.now c.in-Some.connection.now (eqb-true (works_for c.in-Some.connection.now) (suc c.args.id) (sym c.works_for.ensures ∙ c.if-works_for.true))

pub loop-connection-preserved : goal.loop-connection-preserved
loop-connection-preserved c =
    sym (newest_other (suc c.args.id) c.next.new.self.iter.rest.now c.in-Some.connection.now (eqb-false (works_for c.in-Some.connection.now) (suc c.args.id) (sym c.works_for.ensures ∙ c.if-works_for.false)))
    ∙ sym (ap (λ cs. find works_for (suc c.args.id) (reverse cs)) c.in-Some.ensures.steps)
    ∙ c.loop-connection.invariant

pub returns : goal.returns
returns c =
    sym c.loop-connection.invariant
    ∙ ap (λ cs. find works_for (suc c.args.id) (reverse cs)) (nil_from_length c.loop-connection.connection-iterator.iter.rest.now c.in-None.ensures.steps.0)
