use Rattle.std.proofs.Common.{◌∙◌, ap, sym, subst}
use Rattle.std.specs.Prelude.{is_ok}
use Rattle.std.specs.List.{Contains}
use Rattle.sockets.specs.declared.upstream.Upstream.{Upstream}
use Rattle.sockets.proofs.Queueing.{grows_still, grows_by, joins_marks, was_marked, stands_behind}
use Rattle.sockets.proofs.queues.join_writes.Goals as goal

pub returns-in_ok-push_back-clause-more : goal.returns-in_ok-push_back-clause-more
returns-in_ok-push_back-clause-more g c = grows_by (is_ok c.push_back.result) _ _ _ c.push_back.ensures.items

pub returns-in_err-push_back-clause-more : goal.returns-in_err-push_back-clause-more
returns-in_err-push_back-clause-more g c = grows_by (is_ok c.push_back.result) _ _ _ c.push_back.ensures.items

pub returns-else-joins_list-clause-more : goal.returns-else-joins_list-clause-more
returns-else-joins_list-clause-more g c = grows_still c.args.writes.now.items

pub returns-in_ok-push_back-clause-owes : goal.returns-in_ok-push_back-clause-owes
returns-in_ok-push_back-clause-owes g c = λ so. ap (λ (u : Upstream g.row.S.Denot). u.is_listed) c.joins_list.ensures.stands ∙ joins_marks _ _ _ c.joins_list.ensures.joins so

pub returns-else-joins_list-clause-owes : goal.returns-else-joins_list-clause-owes
returns-else-joins_list-clause-owes g c = λ so. ap (λ (u : Upstream g.row.S.Denot). u.is_listed) c.joins_list.ensures.stands ∙ joins_marks _ _ _ c.joins_list.ensures.joins so

pub returns-in_ok-push_back-clause-listed : goal.returns-in_ok-push_back-clause-listed
returns-in_ok-push_back-clause-listed g c = λ was is.
    subst (Contains c.push_back.new.self.items) (ap (λ (u : Upstream g.row.S.Denot). u.k) c.joins_list.ensures.stands) (stands_behind _ _ _ c.in_ok-push_back.ensures.items)

pub returns-else-joins_list-clause-listed : goal.returns-else-joins_list-clause-listed
returns-else-joins_list-clause-listed g c = λ was is. was (was_marked _ _ c.if-joins_list.false (sym (ap (λ (u : Upstream g.row.S.Denot). u.is_listed) c.joins_list.ensures.stands) ∙ is))
