-- How a call moves the world of sockets: which octets left which socket, and which were put out to which.
use Rattle.std.specs.Prelude.{◌≡◌, ℕ, List, Result, Ok, Err, Option, None, IfOk}
use Rattle.std.specs.declared.net.socket_addr.SocketAddr.{SocketAddr}
use Rattle.driver.specs.Calls.{Call}
use Rattle.driver.specs.Calls.Call.{Asked, Applied, Aside}
use Rattle.sockets.specs.Performed.{AreRising, Performs, Leaves, MovesOn, Fits, told_by}
use Rattle.sockets.specs.Tokens.{number_of_client}
use Rattle.sockets.specs.declared.connections.Sockets.{Sockets}
use Rattle.sockets.specs.declared.side.Side.{Side}
use Rattle.sockets.specs.declared.upstream.Upstream.{Upstream}

-- What is seen of a world of sockets: its client's socket, the open connections, the addresses of its routes, and its client's number among those of a
-- reactor.
pub record Seen (S : Type 0) : Type 0 where
  pub client : Side S
  pub upstreams : List (Upstream S)
  pub addresses : List SocketAddr
  pub number : ℕ

abbrev pub seen_in : {N S Stream Listener : Type 0} → Sockets N S Stream Listener → Seen S
seen_in sockets = record {
  client = sockets.client;
  upstreams = sockets.upstreams.items;
  addresses = sockets.addresses.now;
  number = number_of_client sockets.reporting;
}

-- where contracts name what passes through sockets
module _ {S : Type 0} (left held : S → Option (List ℕ)) where
  -- Where it was asked what comes, what became of the client's socket and of each connection is what the answer tells, which fits; where it was handed an
  -- output, that was done, or a front of it where the call failed. Between calls nothing came and nothing was put out.
  abbrev pub MovesBy : ℕ → List SocketAddr → Call → Side S → List (Upstream S) → Side S → List (Upstream S) → Type 0
  MovesBy number addresses (Asked rooms idle answer) client upstreams client' upstreams' =
      MovesOn left held (told_by answer) client upstreams client' upstreams' × IfOk (told_by answer) (λ event. Fits rooms event)
  MovesBy number addresses (Applied output (Ok done)) client upstreams client' upstreams' =
      Performs left held number addresses output client upstreams client' upstreams'
  MovesBy number addresses (Applied output (Err failed)) client upstreams client' upstreams' = Leaves left held output client upstreams client' upstreams'
  MovesBy number addresses (Aside answer) client upstreams client' upstreams' = MovesOn left held (Ok None) client upstreams client' upstreams'

  -- So it moves from what is seen of it to that. Connections that stood by rising number do so still, and its addresses and its client's number stay.
  pub record Steps (call : Call) (old new : Seen S) : Type 0 where
    pub moved : MovesBy old.number old.addresses call old.client old.upstreams new.client new.upstreams
    pub rising : AreRising old.upstreams → AreRising new.upstreams
    pub addresses : new.addresses ≡ old.addresses
    pub number : new.number ≡ old.number
