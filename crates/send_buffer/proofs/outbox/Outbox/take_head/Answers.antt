use Rattle.std.proofs.Common.{rules, ◌≡◌, [], ◌∷◌, Some}
use Rattle.theory_responses.specs.Outbox.Outbox.{Before}
use Rattle.send_buffer.specs.Views.{end_in, outbox_in}
use Rattle.send_buffer.proofs.Sent as laws
use Rattle.send_buffer.proofs.outbox.Outbox.take_head.Goals as goal

pub returns-in-Some-clause-head : goal.returns-in-Some-clause-head
returns-in-Some-clause-head c =
    let old : c.args.self.now ≡ Before c.in-Before.interims.items c.in-Before.head c.in-Before.body (end_in c.in-Before.whole) = search rules in
    let front : c.in-Before.interims.items ≡ c.in-Some.first ∷ c.pop_front.new.self.items = search rules in
    laws.took_early c.args.self.now c.in-Before.interims.items c.pop_front.new.self.items c.in-Some.first c.in-Before.head c.in-Before.body (end_in c.in-Before.whole) old front

pub returns-in-Some-head-clause-head : goal.returns-in-Some-head-clause-head
returns-in-Some-head-clause-head c =
    let old : c.args.self.now ≡ Before c.in-Before.interims.items (Some c.in-Some-head.head) c.in-Before.body (end_in c.in-Before.whole) = search rules in
    let none : c.in-Before.interims.items ≡ [] = search rules in
    laws.took_final c.args.self.now c.in-Before.interims.items c.in-Some-head.head c.in-Before.body (end_in c.in-Before.whole) (outbox_in c.behind.result) old none c.behind.ensures
