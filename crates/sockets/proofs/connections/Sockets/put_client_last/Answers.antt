use Rattle.std.proofs.Common.{rules, ◌≤◌, ◌≡◌, ◌<◌, length, sym, ap, ◌∙◌, arith}
use Rattle.std.proofs.lemmas.List.Elements.{filter_from_retain}
use Rattle.sockets.proofs.Queueing.{is_other, stands_last, turned_last, kept_last}
use Rattle.sockets.proofs.connections.Sockets.put_client_last.Goals as goal

pub push_back_reserved-requires : goal.push_back_reserved-requires
push_back_reserved-requires g c =
    let ready = c.args.self.now.ready in
    let left = c.retain.new.self in
    let fewer = c.if-len-count.true in
    let small = ready.small in
    let ring_fits = ready.ring_fits in
    omega (arith, fewer, small, ring_fits, ready.ok.0, left.ok.0, c.retain.ensures.capacity, c.len-count.ensures, c.len.ensures)

pub returns-then-len-count-clause-ready : goal.returns-then-len-count-clause-ready
returns-then-len-count-clause-ready g c =
    let left = filter_from_retain _ is_other (λ p x b q called. search rules) _ c.args.self.now.ready.items c.retain.new.self.items c.retain.ensures.filtered in
    let many = c.args.self.now.ready.ok.0 in
    let few = c.retain.new.self.ok.0 in
    let fewer = c.if-len-count.true in
    turned_last c.args.self.now.ready.items c.retain.new.self.items _ left (omega (arith, many, few, fewer, c.len-count.ensures, c.len.ensures)) c.push_back_reserved.ensures.items

pub returns-else-len-count-clause-ready : goal.returns-else-len-count-clause-ready
returns-else-len-count-clause-ready g c =
    let left = filter_from_retain _ is_other (λ p x b q called. search rules) _ c.args.self.now.ready.items c.retain.new.self.items c.retain.ensures.filtered in
    let all = c.if-len-count.false in
    kept_last c.args.self.now.ready.items c.retain.new.self.items left (omega (arith, all, c.args.self.now.ready.ok.0, c.retain.new.self.ok.0, c.len-count.ensures, c.len.ensures))

pub returns-then-len-count-clause-stand : goal.returns-then-len-count-clause-stand
returns-then-len-count-clause-stand g c = stands_last _ _ (returns-then-len-count-clause-ready g c)

pub returns-else-len-count-clause-stand : goal.returns-else-len-count-clause-stand
returns-else-len-count-clause-stand g c = stands_last _ _ (returns-else-len-count-clause-ready g c)
