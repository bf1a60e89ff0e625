use Rattle.std.proofs.Common.{◌∙◌, ap, sym, subst}
use Rattle.std.specs.Prelude.{is_ok}
use Rattle.std.specs.List.{Contains}
use Rattle.sockets.specs.declared.upstream.Upstream.{Upstream}
use Rattle.sockets.proofs.Queueing.{grows_still, grows_by, joins_marks, was_marked, stands_behind}
use Rattle.sockets.proofs.queues.join_ready.Goals as goal

pub returns-in_ok-push_back-clause-more : goal.returns-in_ok-push_back-clause-more
returns-in_ok-push_back-clause-more g c = grows_by (is_ok c.push_back.result) _ _ _ c.push_back.ensures.items

pub returns-in_err-push_back-clause-more : goal.returns-in_err-push_back-clause-more
returns-in_err-push_back-clause-more g c = grows_by (is_ok c.push_back.result) _ _ _ c.push_back.ensures.items

pub returns-else-joins_queue-clause-more : goal.returns-else-joins_queue-clause-more
returns-else-joins_queue-clause-more g c = grows_still c.args.ready.now.items

pub returns-in_ok-push_back-clause-may : goal.returns-in_ok-push_back-clause-may
returns-in_ok-push_back-clause-may g c = λ so. ap (λ (u : Upstream g.row.S.Denot). u.is_queued) c.joins_queue.ensures.stands ∙ joins_marks _ _ _ c.joins_queue.ensures.joins so

pub returns-else-joins_queue-clause-may : goal.returns-else-joins_queue-clause-may
returns-else-joins_queue-clause-may g c = λ so. ap (λ (u : Upstream g.row.S.Denot). u.is_queued) c.joins_queue.ensures.stands ∙ joins_marks _ _ _ c.joins_queue.ensures.joins so

pub returns-in_ok-push_back-clause-queued : goal.returns-in_ok-push_back-clause-queued
returns-in_ok-push_back-clause-queued g c = λ was is.
    subst (Contains c.push_back.new.self.items) (ap (λ (u : Upstream g.row.S.Denot). u.k) c.joins_queue.ensures.stands) (stands_behind _ _ _ c.in_ok-push_back.ensures.items)

pub returns-else-joins_queue-clause-queued : goal.returns-else-joins_queue-clause-queued
returns-else-joins_queue-clause-queued g c = λ was is. was (was_marked _ _ c.if-joins_queue.false (sym (ap (λ (u : Upstream g.row.S.Denot). u.is_queued) c.joins_queue.ensures.stands) ∙ is))
