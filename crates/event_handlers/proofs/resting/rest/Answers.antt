use Rattle.std.proofs.Common.{None, ◌∙◌, subst}
use Rattle.refinement.specs.View.{balanced}
use Rattle.refinement.specs.Rest.{back_of}
use Rattle.refinement.specs.Bringing.{PerformsOwn}
use Rattle.event_handlers.proofs.Results.{stopped}
use Rattle.event_handlers.proofs.Ends.{shut_follows}
use Rattle.event_handlers.proofs.Following.{follows_own, follows_then}
use Rattle.event_handlers.proofs.Stays.{ends_as}
use Rattle.event_handlers.proofs.resting.rest.Goals as goal

pub shut-requires : goal.shut-requires
shut-requires c = record { exhausted = ends_as c.flush.new.session _ c.is_exhausted.result c.session.view_is c.is_exhausted.ensures ∙ c.if-is_exhausted.true }

pub returns-then-is_exhausted-clause-follows : goal.returns-then-is_exhausted-clause-follows
returns-then-is_exhausted-clause-follows c back is_back setup =
    let flushed = c.in_ok-flush.ensures.performs back is_back in
    follows_then setup c.args.session.now c.flush.new.session (back_of back) (back_of flushed.0) balanced c.args.out.now c.flush.new.out c.shut.new.out None (flushed.2 setup)
    (shut_follows setup c.flush.new.session 0 flushed.0 balanced c.flush.new.out c.shut.new.out (λ run s leads. c.in_ok-shut.ensures setup run s 0 flushed.0 leads))

pub returns-clause-follows : goal.returns-clause-follows
returns-clause-follows c back is_back setup =
    let flushed = c.in_ok-flush.ensures.performs back is_back in
    let on = ends_as c.flush.new.session _ c.is_exhausted.result c.session.view_is c.is_exhausted.ensures ∙ c.if-is_exhausted.false in
    follows_own setup c.args.session.now c.flush.new.session (back_of back) balanced c.args.out.now c.flush.new.out
    (subst (λ n. PerformsOwn setup c.args.session.now (back_of back) c.args.out.now c.flush.new.session (back_of n) c.flush.new.out) (flushed.1 on) (flushed.2 setup))

pub returns-clause-rests : goal.returns-clause-rests
returns-clause-rests c =
    let flushed = c.in_ok-flush.ensures in
    record {
      rest = record {
        goes_on = ends_as c.flush.new.session _ c.is_exhausted.result c.session.view_is c.is_exhausted.ensures ∙ c.if-is_exhausted.false;
        none_cut = flushed.none_cut;
        none_done = flushed.none_done;
        flushed = flushed.flushed;
      };
      numbered = flushed.numbered;
    }

pub returns-in_err-flush-clause-over : goal.returns-in_err-flush-clause-over
returns-in_err-flush-clause-over c = stopped c.from_residual.result c.in_err-flush.field-0.0 c.from_residual.ensures.1 (λ ends. ends) c.in_err-flush.ensures.over
