-- What calls do to what the world of sockets keeps: what became of each socket, and which connections are open.
use Rattle.std.specs.Prelude.{◌≡◌, ◌<◌, ◌≤◌, ◌⊎◌, ℕ, Bool, true, false, List, [], ◌∷◌, ◌++◌, length, All, Option, None, Some, Result, Ok, Err, slice_get, ⊤}
use Rattle.std.specs.List.Sorted.{IsNonDecreasingBy}
use Rattle.std.specs.declared.net.socket_addr.SocketAddr.{SocketAddr}
use Rattle.model.specs.Logs.{Step}
use Rattle.effects.specs.declared.events.Event.{Event}
use Rattle.effects.specs.declared.events.Event.TheVariants as event
use Rattle.effects.specs.declared.events.Output.{Output}
use Rattle.effects.specs.declared.events.Output.TheVariants.{Client, Open, Up, Close, CloseClient}
use Rattle.driver.specs.Worlds.{Handed}
use Rattle.driver.specs.declared.world.Next.{Next}
use Rattle.driver.specs.declared.world.Next.TheVariants.{Happened, Nothing, Over}
use Rattle.driver.specs.declared.world.WorldFault.{WorldFault}
use Rattle.socket_io.specs.declared.incoming.Got.{Got}
use Rattle.socket_io.specs.declared.incoming.Got.TheVariants as got
use Rattle.sockets.specs.Rooms.{room_in}
use Rattle.sockets.specs.Sides.{News, no_news, lost_news, came_news, end_news, put_news, took_news, Goes, GoesTo, GoesOn, GoesFront, SendsFront, IsNew, is_deaf}
use Rattle.sockets.specs.declared.side.Side.{Side}
use Rattle.sockets.specs.declared.upstream.Upstream.{Upstream}

-- The numbers of connections don't fall.
abbrev pub AreRising : {S : Type 0} → List (Upstream S) → Type 0
AreRising upstreams = IsNonDecreasingBy (λ upstream. upstream.k) upstreams

-- No open connection has this number.
abbrev pub IsOpenNowhere : {S : Type 0} → ℕ → List (Upstream S) → Type 0
IsOpenNowhere k upstreams = All (λ upstream. upstream.k ≡ k → ⊥) upstreams

abbrev pub IsNumbered : {S : Type 0} → ℕ → Upstream S → Type 0
IsNumbered k upstream = upstream.k ≡ k

-- One such connection more is open, and all others are as they were.
pub record Opens {S : Type 0} (Is : Upstream S → Type 0) (old new : List (Upstream S)) : Type 0 where
  pub before : List (Upstream S)
  pub behind : List (Upstream S)
  pub opened : Upstream S
  pub is : Is opened
  pub old_is : old ≡ before ++ behind
  pub new_is : new ≡ before ++ opened ∷ behind

-- The connection with this number changed so, and all others are as they were.
pub record Changes {S : Type 0} (k : ℕ) (So : Upstream S → Upstream S → Type 0) (old new : List (Upstream S)) : Type 0 where
  pub before : List (Upstream S)
  pub behind : List (Upstream S)
  pub from : Upstream S
  pub to : Upstream S
  pub number : from.k ≡ k
  pub so : So from to
  pub old_is : old ≡ before ++ from ∷ behind
  pub new_is : new ≡ before ++ to ∷ behind

-- A connection with this number isn't open any more, if one was, and all others are as they were.
abbrev pub Closes : {S : Type 0} → ℕ → List (Upstream S) → List (Upstream S) → Type 0
Closes k old new = (IsOpenNowhere k old × (new ≡ old)) ⊎ Opens (IsNumbered k) new old

-- what an event tells of the client: octets of it, its end, or how many it took
abbrev pub client_news : Option Event → News
client_news (Some (event.Client octets)) = came_news octets.items
client_news (Some event.ClientEnd) = end_news
client_news (Some (event.ClientTook count)) = took_news count
client_news event = no_news

-- what is told of it by what a call answers
abbrev pub client_told : Result (Option Event) WorldFault → News
client_told (Ok event) = client_news event
client_told (Err fault) = lost_news

-- what a read tells of the client
abbrev pub got_news : Got → News
got_news (got.Octets octets) = came_news octets.items
got_news got.Nothing = no_news
got_news got.End = end_news

-- the event that tells what a read of the client gave
abbrev pub client_heard : Got → Option Event
client_heard (got.Octets octets) = Some (event.Client octets)
client_heard got.Nothing = None
client_heard got.End = Some event.ClientEnd

-- Octets that a read gave are some, and no more than that.
abbrev pub IsWithin : ℕ → Got → Type 0
IsWithin most (got.Octets octets) = (0 < length octets.items) × (length octets.items ≤ most)
IsWithin most got.Nothing = ⊤
IsWithin most got.End = ⊤

-- whether the event tells that a connection failed
abbrev pub is_failed : Option Event → Bool
is_failed (Some (event.UpFailed k)) = true
is_failed event = false

-- whether an event tells of the client: what came of it, or that it took something
abbrev pub tells_of_client : Event → Bool
tells_of_client (event.Client octets) = true
tells_of_client event.ClientEnd = true
tells_of_client (event.ClientTook count) = true
tells_of_client (event.Up k octets) = false
tells_of_client (event.UpEnd k) = false
tells_of_client (event.UpFailed k) = false
tells_of_client (event.UpTook k count) = false
tells_of_client event.Drain = false

-- whether nothing comes
abbrev pub is_nothing : Next → Bool
is_nothing (Happened event) = false
is_nothing Nothing = true
is_nothing Over = false

-- whether what comes tells of the client
abbrev pub moves_client : Next → Bool
moves_client (Happened event) = tells_of_client event
moves_client Nothing = false
moves_client Over = false

-- what an event of an upstream tells of it
abbrev pub up_news : Option Event → News
up_news (Some (event.Up k octets)) = came_news octets.items
up_news (Some (event.UpEnd k)) = end_news
up_news (Some (event.UpTook k count)) = took_news count
up_news event = no_news

-- Octets of an upstream for which there is so much room are some, and no more; its end and its failure too come only where there is room.
abbrev pub FitsRoom : ℕ → Option Event → Type 0
FitsRoom room (Some (event.Up k octets)) = (0 < length octets.items) × (length octets.items ≤ room)
FitsRoom room (Some (event.UpEnd k)) = 0 < room
FitsRoom room (Some (event.UpFailed k)) = 0 < room
FitsRoom room event = ⊤

-- the event that is answered
abbrev pub told_by : Result Next WorldFault → Result (Option Event) WorldFault
told_by (Ok (Happened event)) = Ok (Some event)
told_by (Ok Nothing) = Ok None
told_by (Ok Over) = Ok None
told_by (Err fault) = Err fault

-- An event that comes fits: octets are some, of the client at most 65,536 and of an upstream at most as many as it has room for; the end and the failure of one
-- come only where it has room; of those that were taken there is one at least.
abbrev pub Fits : List (ℕ × ℕ) → Option Event → Type 0
Fits rooms (Some (event.Client octets)) = (0 < length octets.items) × (length octets.items ≤ 65536)
Fits rooms (Some (event.Up k octets)) = (0 < length octets.items) × (length octets.items ≤ room_in k rooms)
Fits rooms (Some (event.UpEnd k)) = 0 < room_in k rooms
Fits rooms (Some (event.UpFailed k)) = 0 < room_in k rooms
Fits rooms (Some (event.ClientTook count)) = 0 < count
Fits rooms (Some (event.UpTook k count)) = 0 < count
Fits rooms event = ⊤

-- where contracts name what passes through sockets
module _ {S : Type 0} (left held : S → Option (List ℕ)) where
  -- Octets are put out to an upstream, unless what is written to it reaches nobody by now; then a front of them at most. Where that was so before, nothing
  -- is done.
  pub record Sends (octets : List ℕ) (old new : Upstream S) : Type 0 where
    pub front : SendsFront left held octets old new
    pub puts_out : GoesTo left held (put_news octets) old.side new.side ⊎ (is_deaf new ≡ true)
    pub deaf : is_deaf old ≡ true → (new.side ≡ old.side) × (new.broken ≡ old.broken)

  -- What became of a connection is what an event of it tells; of one that failed only its number is told.
  abbrev pub GoesBy : Option Event → Upstream S → Upstream S → Type 0
  GoesBy (Some (event.UpFailed k)) old new = new.k ≡ old.k
  GoesBy event old new = GoesOn left held (up_news event) old new

  -- A connection with this number was sent octets, if one is open, and all others are as they were.
  abbrev pub SendsTo : ℕ → List ℕ → List (Upstream S) → List (Upstream S) → Type 0
  SendsTo k octets old new = (IsOpenNowhere k old × (new ≡ old)) ⊎ Changes k (Sends octets) old new

  -- What an output does to the client's socket and to the open connections, in the world of the
  -- client with this number. They are found by their numbers, which rise. A connection is opened to
  -- the address of its route, under a number that no open one has.
  abbrev pub Performs : ℕ → List SocketAddr → Output → Side S → List (Upstream S) → Side S → List (Upstream S) → Type 0
  Performs number addresses (Client octets) client upstreams client' upstreams' = Goes left held (put_news octets.items) client client'
      × (upstreams' ≡ upstreams)
  Performs number addresses (Open k route) client upstreams client' upstreams' = (client' ≡ client)
      × Opens (IsNew number k (slice_get addresses route)) upstreams upstreams' × (AreRising upstreams → IsOpenNowhere k upstreams)
  Performs number addresses (Up k octets) client upstreams client' upstreams' = (client' ≡ client)
      × (AreRising upstreams → SendsTo k octets upstreams upstreams')
  Performs number addresses (Close k) client upstreams client' upstreams' = (client' ≡ client) × (AreRising upstreams → Closes k upstreams upstreams')
  Performs number addresses CloseClient client upstreams client' upstreams' = Goes left held no_news client client' × (upstreams' ≡ upstreams)

  -- What an output leaves that couldn't be performed: of its octets a front at most was put out, and nothing else.
  abbrev pub Leaves : Output → Side S → List (Upstream S) → Side S → List (Upstream S) → Type 0
  Leaves (Client octets) client upstreams client' upstreams' = GoesFront left held octets.items client client' × (upstreams' ≡ upstreams)
  Leaves (Up k octets) client upstreams client' upstreams' = (client' ≡ client) × Changes k (SendsFront left held octets) upstreams upstreams'
  Leaves CloseClient client upstreams client' upstreams' = Goes left held no_news client client' × (upstreams' ≡ upstreams)
  Leaves output client upstreams client' upstreams' = (client' ≡ client) × (upstreams' ≡ upstreams)

  -- All connections are there still, and this became of each.
  abbrev pub AllGoOn : News → List (Upstream S) → List (Upstream S) → Type 0
  AllGoOn news [] new = new ≡ []
  AllGoOn news (upstream ∷ upstreams) [] = ⊥
  AllGoOn news (upstream ∷ upstreams) (new ∷ more) = GoesOn left held news upstream new × AllGoOn news upstreams more

  -- All connections went on without news, and then this became of the one with this number.
  pub record OneGoesOn (k : ℕ) (news : News) (old new : List (Upstream S)) : Type 0 where
    pub mid : List (Upstream S)
    pub all : AllGoOn no_news old mid
    pub one : Changes k (GoesOn left held news) mid new

  -- All connections went on without news, and then the one with this number was dropped.
  pub record OneIsDropped (k : ℕ) (old new : List (Upstream S)) : Type 0 where
    pub mid : List (Upstream S)
    pub all : AllGoOn no_news old mid
    pub one : Opens (IsNumbered k) new mid

  -- What became of upstreams is what is told: octets of one, its end, or how many it took; one that failed isn't there any more.
  abbrev pub OthersGoOn : Result (Option Event) WorldFault → List (Upstream S) → List (Upstream S) → Type 0
  OthersGoOn (Ok (Some (event.Up k octets))) old new = OneGoesOn k (came_news octets.items) old new
  OthersGoOn (Ok (Some (event.UpEnd k))) old new = OneGoesOn k end_news old new
  OthersGoOn (Ok (Some (event.UpTook k count))) old new = OneGoesOn k (took_news count) old new
  OthersGoOn (Ok (Some (event.UpFailed k))) old new = OneIsDropped k old new
  OthersGoOn (Ok event) old new = AllGoOn no_news old new
  OthersGoOn (Err fault) old new = AllGoOn lost_news old new

  -- What is left where the world looked for an event, by what it answers: what became of the client's socket and of each connection is what the event
  -- tells, and else they are as they were, but that of what waits for each its socket may have taken a front.
  pub record MovesOn (answer : Result (Option Event) WorldFault) (client : Side S) (upstreams : List (Upstream S)) (client' : Side S)
      (upstreams' : List (Upstream S)) : Type 0 where
    pub client_is : Goes left held (client_told answer) client client'
    pub others : OthersGoOn answer upstreams upstreams'

-- the world of sockets tells no log
abbrev pub no_log : Option (List Step)
no_log = None

-- nor what its calls were handed
abbrev pub none_handed : Option (List Handed)
none_handed = None
