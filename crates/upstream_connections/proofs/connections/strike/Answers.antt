use Rattle.std.proofs.Common.{◌^◌, ◌∙◌, sym, ap, subst, arith}
use Rattle.std.specs.Prelude.{reverse}
use Rattle.theory_requests.specs.Lines.{find}
use Rattle.upstream_connections.specs.Connections.{number_of, others, Rise}
use Rattle.upstream_connections.specs.Keys.{key, rising}
use Rattle.upstream_connections.proofs.Idling.{idle_rise, idle_stays}
use Rattle.upstream_connections.proofs.Keys.{keys_rise, key_struck, keys_beside, route_off}
use Rattle.upstream_connections.proofs.connections.strike.Goals as goal

pub strike-requires-clause-numbers : goal.strike-requires-clause-numbers
strike-requires-clause-numbers c = idle_rise c.args.connections.now c.args.idle.now.numbers.items c.requires.numbers (2 ^ 32) c.requires.below

pub strike-requires-clause-keys : goal.strike-requires-clause-keys
strike-requires-clause-keys c = subst Rise (sym c.requires.keys) (keys_rise (2 ^ 32) (reverse c.args.connections.now) c.requires.below (omega arith))

pub returns-in-Some-clause-keys : goal.returns-in-Some-clause-keys
returns-in-Some-clause-keys c =
    let number = c.ranges.k in
    c.strike.ensures.keys
    ∙ ap (others (key c.in-Some.route c.args.k)) c.requires.keys
    ∙ key_struck c.in-Some.route c.args.k (2 ^ 32) (reverse c.args.connections.now) c.requires.below (omega arith) (omega (arith, number)) (sym c.in-Some.ensures)

pub returns-in_default-clause-numbers : goal.returns-in_default-clause-numbers
returns-in_default-clause-numbers c =
    let cs = c.args.connections.now in
    idle_stays cs cs c.args.idle.now.numbers.items c.requires.numbers c.args.k (2 ^ 32) c.requires.below (route_off (find number_of c.args.k (reverse cs)) (sym c.in_default.ensures))

pub returns-in_default-clause-keys : goal.returns-in_default-clause-keys
returns-in_default-clause-keys c =
    c.requires.keys ∙ ap rising (keys_beside c.args.k (2 ^ 32) (reverse c.args.connections.now) c.requires.below (sym c.in_default.ensures))
