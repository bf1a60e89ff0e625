-- What a connection, and all of them, end as where a `&mut` to an answer is returned.
use Rattle.std.specs.Prelude.{ℕ, map, Option}
use Rattle.std.specs.Borrow.{Lends, LendsIf, Fml, MutBor}
use Rattle.upstream_response.specs.Waiting.{Answer}
use Rattle.upstream_response.specs.contracts.answer.Answer.{the_row as answer_row}
use Rattle.upstream_connections.specs.Connections.{Connection, answer_at}
use Rattle.upstream_connections.specs.Kept.{State}
use Rattle.upstream_connections.specs.contracts.connection.UpstreamConnection.{the_row as connection_row}
use Rattle.upstream_connections.specs.contracts.upstreams.Upstreams.{the_row as upstreams_row}

-- once the borrow ends, the connection's answer is the last one behind it
abbrev pub LendsOwn : MutBor Connection → MutBor Answer → Fml
LendsOwn c r = Lends connection_row answer_row c r (λ answer. record c.now { answer = answer })

-- the answer of the connection with this number is; if none is open, all stays as it is
abbrev pub LendsAnswer : MutBor State → ℕ → Option (MutBor Answer) → Fml
LendsAnswer s k r = LendsIf upstreams_row answer_row s r (λ answer. record s.now { live = map (answer_at k answer) s.now.live }) s.now
