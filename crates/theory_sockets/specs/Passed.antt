-- What passed through the sockets of a world is what a log tells of them.
use Rattle.std.specs.Prelude.{◌≡◌, ◌≤◌, ◌+◌, ℕ, false, true, List, [], ◌++◌, length, All, Option, None, Some, is_some, IfSome, Result, Ok, Err, slice_get}
use Rattle.std.specs.Io.KnownBytes.{Appends, Consumes}
use Rattle.std.specs.declared.net.socket_addr.SocketAddr.{SocketAddr}
use Rattle.model.specs.Logs.{Step}
use Rattle.model.specs.Setup.{Setup}
use Rattle.driver.specs.Calls.{Call, log_of, IsServed}
use Rattle.driver.specs.declared.services.ServiceEnd.{ServiceEnd}
use Rattle.driver.specs.declared.services.ServeFault.{ServeFault}
use Rattle.driver.specs.declared.services.ServeFault.TheVariants as fault
use Rattle.sockets.specs.Moves.{Seen, Steps}
use Rattle.sockets.specs.Sides.{IsBegun, is_deaf}
use Rattle.sockets.specs.Tokens.{token_number}
use Rattle.sockets.specs.declared.side.Side.{Side}
use Rattle.sockets.specs.declared.upstream.Upstream.{Upstream}
use Rattle.theory_sockets.specs.Told.{Told, Connection, nothing, items, client_told, connection}

-- Nothing passed through the sockets of a world yet, and no connection is open.
pub record IsNew {S : Type 0} (world : Seen S) : Type 0 where
  pub client : IsBegun (token_number world.number 0) world.client
  pub none_open : world.upstreams ≡ []

-- where contracts name what passes through sockets
module _ {S : Type 0} (left held : S → Option (List ℕ)) where
  -- What passed through a socket since it began, by what is told of it. The octets that came are the first of those that its peer sent, in order, and its
  -- end came just where that is told: then those were all. Of the octets that were put out to it a front was written, in order, and no others were; what
  -- is behind that waits, and what is behind that is lost. It is told of as taken at most what was written.
  pub record Passed (told : Told) (lost : List ℕ) (begun now : Side S) : Type 0 where
    pub came : Consumes (left begun.socket) (left now.socket) told.came
    pub ended : now.ended ≡ told.ended
    pub all_came : told.ended ≡ true → IfSome (left begun.socket) (λ sent. told.came ≡ sent)
    pub written : List ℕ
    pub are_written : Appends (held begun.socket) (held now.socket) written
    pub in_order : written ++ (now.out.waiting ++ lost) ≡ told.put
    pub taken : told.took + now.out.untold ≤ length written

  -- So it is of a connection's socket, if one could be made. Else nothing came of it, and all that was put out to it is lost.
  abbrev pub PassedTo : Told → List ℕ → Option (Side S) → Option (Side S) → Type 0
  PassedTo told lost None now = (now ≡ None) × (told ≡ record nothing { put = lost })
  PassedTo told lost (Some begun) None = ⊥
  PassedTo told lost (Some begun) (Some now) = Passed told lost begun now

  -- The connection goes to the address of its route, and what passed through its socket since it was opened is what is told of it. Octets are lost only
  -- where no socket could be made, or what is written to it reaches nobody.
  pub record IsConnection (addresses : List SocketAddr) (number : ℕ) (told : Connection) (upstream : Upstream S) : Type 0 where
    pub address : upstream.address ≡ slice_get addresses told.route
    pub begun : Option (Side S)
    pub is_begun : IfSome begun (IsBegun (token_number number upstream.k))
    pub lost : List ℕ
    pub passed : PassedTo told.told lost begun upstream.side
    pub none_lost : is_some upstream.side ≡ true → is_deaf upstream ≡ false → lost ≡ []

  -- It was opened, and that is so.
  abbrev pub IsOpened : List SocketAddr → ℕ → Option Connection → Upstream S → Type 0
  IsOpened addresses number None upstream = ⊥
  IsOpened addresses number (Some told) upstream = IsConnection addresses number told upstream

  -- So it is of each socket of a world, by a log, the newest step first: of its client's, of which nothing is lost, and of each connection that is open.
  pub record ArePassed (log : List Step) (begun now : Seen S) : Type 0 where
    pub client : Passed (client_told (items log)) [] begun.client now.client
    pub connections : All (λ upstream. IsOpened begun.addresses begun.number (connection upstream.k (items log)) upstream) now.upstreams

  -- what a call left that failed, if one did, by how serving ended
  abbrev pub EndsBy : Result ServiceEnd ServeFault → Seen S → Seen S → Type 0
  EndsBy (Ok ended) before now = now ≡ before
  EndsBy (Err fault.World) before now = (call : Call) × Steps left held call before now
  EndsBy (Err (fault.NotAdmitted peer)) before now = now ≡ before
  EndsBy (Err fault.Memory) before now = now ≡ before

  -- A world was served, with this outcome: there is a log of which what is promised holds, and what passed through the sockets is what that log tells. Where a
  -- call of the world failed, that is so of what was there before it.
  pub record IsServedBy (setup : Setup) (outcome : Result ServiceEnd ServeFault) (begun now : Seen S) : Type 0 where
    pub calls : List Call
    pub promised : IsServed setup outcome calls
    pub before : Seen S
    pub passed : ArePassed (log_of calls) begun before
    pub ends : EndsBy outcome before now
