use Rattle.std.proofs.Common.{rules, ◌≡◌, [], ◌∷◌, ◌++◌, Some, subst}
use Rattle.std.specs.Ordering.{nat_cmp}
use Rattle.std.specs.BTreeMap.{get, Updates}
use Rattle.exchange_log.specs.Exchanges.{IsHeardBy}
use Rattle.exchange_log.proofs.Hearing.{is_over}
use Rattle.exchange_log.proofs.exchanges.Exchanges.hear.Goals as goal

pub returns-in_ok-tell : goal.returns-in_ok-tell
returns-in_ok-tell c =
    let found : get nat_cmp c.args.self.now.connections c.args.k ≡ Some c.in-Some.connection.now = search rules in
    let updates : Updates nat_cmp c.args.self.now.connections c.tell.new.self.connections c.args.k (Some c.hear.new.self) = search rules in
    let more : c.tell.new.self.over.items ≡ c.args.self.now.over.items ++ c.in-Some-2.over ∷ [] = search rules in
    is_over c.args.k c.args.octets.now c.args.self.now.connections c.tell.new.self.connections c.args.self.now.over.items c.tell.new.self.over.items
    c.in-Some.connection.now c.hear.new.self c.in-Some-2.over found updates more c.hear.ensures.route
    (subst (λ over. IsHeardBy c.in-Some.connection.now.route c.in-Some.connection.now.exchange c.args.octets.now over c.hear.new.self.exchange) c.in-Some-2.is c.in_ok-over.ensures.heard)
