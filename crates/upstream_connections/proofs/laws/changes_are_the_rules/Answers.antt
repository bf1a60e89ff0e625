use Rattle.std.proofs.Common.{List, map, ap}
use Rattle.theory_requests.specs.Lines.{Line}
use Rattle.theory_requests.specs.State as theory_requests
use Rattle.theory_requests.specs.State.{held_with, unless_whole, drop_from}
use Rattle.theory_requests.specs.State.Way.{Going}
use Rattle.theory_requests.specs.State.Due.{Nothing}
use Rattle.upstream_connections.specs.Connections.{fresh}
use Rattle.upstream_connections.proofs.Changing.{heard_is, given_is, closed_is}
use Rattle.upstream_connections.proofs.laws.changes_are_the_rules.Goals as goal

pub returns-clause-heard : goal.returns-clause-heard
returns-clause-heard c = heard_is

pub returns-clause-given : goal.returns-clause-given
returns-clause-given c = λ setup told s k stream text stage to_head passing.
    ap (λ (ls : List Line). let n : theory_requests.State = record { held = held_with stream (unless_whole stage (Going k stage)) s.held; live = ls; due = Nothing; count = s.count } in n)
    (given_is k stream (fresh to_head passing) s.live)

pub returns-clause-closed : goal.returns-clause-closed
returns-clause-closed c = λ setup told s k.
    ap (λ (ls : List Line). let n : theory_requests.State = record { held = map (drop_from k) s.held; live = ls; due = Nothing; count = s.count } in n) (closed_is k s.live)
