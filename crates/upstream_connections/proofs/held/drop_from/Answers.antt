use Rattle.std.proofs.Common.{rules, ◌≡◌, ◌<◌, ◌≤◌, add-one, length}
use Rattle.upstream_connections.proofs.Requests.{dropped_next, dropped_out}
use Rattle.upstream_connections.proofs.held.drop_from.Goals as goal

pub loop-h-preserved : goal.loop-h-preserved
loop-h-preserved c =
    let within : c.loop-h.h-index < length c.args.held.now.items = rw c.deref_mut-h-items.ensures.value at c.loop-h-test.true in
    rw add-one (dropped_next c.args.k c.loop-h.h-index c.args.held.now.items c.loop-h.h-items c.h-item.result c.drop_from.new.self c.loop-h.invariant within c.drop_from.ensures)

pub returns : goal.returns
returns c =
    let past : length c.args.held.now.items ≤ c.loop-h.h-index = rw c.deref_mut-h-items.ensures.value at c.loop-h-test.false in
    let all : c.args.held.now.len ≡ length c.loop-h.h-items = search rules in
    dropped_out c.args.k c.loop-h.h-index c.args.held.now.len c.args.held.now.items c.loop-h.h-items c.loop-h.invariant past all
