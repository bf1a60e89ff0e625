-- Which sockets stand among those of which something may be read, and which upstreams among those of which it may have to be told what they took.
use Rattle.std.specs.Prelude.{◌≡◌, ◌<◌, ◌++◌, ◌&&◌, ◌==◌, ℕ, Bool, true, false, not, nat_lt, if◌then◌else◌, List, [], ◌∷◌, length, Option, None, Some, ⊤}
use Rattle.std.specs.List.{Contains, filter, list_any}
use Rattle.sockets.specs.Sides.{may_be_ready}
use Rattle.sockets.specs.declared.side.Side.{Side}
use Rattle.sockets.specs.declared.upstream.Upstream.{Upstream}
use Rattle.sockets.specs.declared.connections.Sockets.{Sockets}

-- Numbers stay in a queue, and others may stand behind them.
pub record Grows (old new : List ℕ) : Type 0 where
  pub more : List ℕ
  pub is : new ≡ old ++ more

-- What stood in a queue stands in another.
abbrev pub StandsIn : List ℕ → List ℕ → Type 0
StandsIn a b = (x : ℕ) → Contains a x → Contains b x

-- it took octets of which wasn't told
abbrev pub took_untold : {S : Type 0} → Option (Side S) → Bool
took_untold None = false
took_untold (Some side) = nat_lt 0 side.out.untold

-- An upstream that is marked so stands among those to be read, and among those to be told of.
pub record IsMarked {S : Type 0} (ready writes : List ℕ) (upstream : Upstream S) : Type 0 where
  pub queued : upstream.is_queued ≡ true → Contains ready upstream.k
  pub listed : upstream.is_listed ≡ true → Contains writes upstream.k

-- It is marked so where something may be read of it, and where it took octets of which wasn't told.
pub record IsListed {S : Type 0} (ready writes : List ℕ) (upstream : Upstream S) : Type 0 where
  pub marked : IsMarked ready writes upstream
  pub may : may_be_ready upstream.side ≡ true → upstream.is_queued ≡ true
  pub took : took_untold upstream.side ≡ true → upstream.is_listed ≡ true

-- So is each, and its number is above this one and above those before it.
abbrev pub AllListed : {S : Type 0} → ℕ → List ℕ → List ℕ → List (Upstream S) → Type 0
AllListed number ready writes [] = ⊤
AllListed number ready writes (upstream ∷ upstreams) = (number < upstream.k) × IsListed ready writes upstream × AllListed upstream.k ready writes upstreams

-- The client that is marked so stands among those to be read, and it is marked so where something may be read of it.
pub record IsClientListed {S : Type 0} (ready : List ℕ) (is_queued : Bool) (client : Side S) : Type 0 where
  pub queued : is_queued ≡ true → Contains ready 0
  pub may : may_be_ready (Some client) ≡ true → is_queued ≡ true

-- So are the client, whose number is 0, and each upstream, which has a number of its own.
pub record AreQueued {S : Type 0} (ready writes : List ℕ) (is_client_queued : Bool) (client : Side S) (upstreams : List (Upstream S)) : Type 0 where
  pub client_is : IsClientListed ready is_client_queued client
  pub all_are : AllListed 0 ready writes upstreams

-- So are those of a world.
abbrev pub HasQueued : {N S Stream Listener : Type 0} → Sockets N S Stream Listener → Type 0
HasQueued sockets = AreQueued sockets.ready.items sockets.writes.items sockets.is_client_queued sockets.client sockets.upstreams.items

-- So were they before this number was taken from the front of those to be read.
abbrev pub HadQueued : {N S Stream Listener : Type 0} → ℕ → Sockets N S Stream Listener → Type 0
HadQueued number sockets = AreQueued (number ∷ sockets.ready.items) sockets.writes.items sockets.is_client_queued sockets.client sockets.upstreams.items

-- whether a number is the client's
abbrev pub is_clients : ℕ → Bool
is_clients number = number == 0

-- those to be read, where the client goes behind the others if it stands among them
abbrev pub client_last : List ℕ → List ℕ
client_last numbers = filter (λ number. not (is_clients number)) numbers ++ (if list_any is_clients numbers then 0 ∷ [] else [])

-- Octets came of the client since all sockets were last looked at, and it stands among those to be read.
abbrev pub is_late : {N S Stream Listener : Type 0} → Sockets N S Stream Listener → Bool
is_late sockets = (sockets.heard_at == sockets.looks) && sockets.is_client_queued

-- It is so, though connections are open.
abbrev pub is_behind : {N S Stream Listener : Type 0} → Sockets N S Stream Listener → Bool
is_behind sockets = is_late sockets && not (length sockets.upstreams.items == 0)

-- whether the number in front is the client's
abbrev pub is_clients_turn : List ℕ → Bool
is_clients_turn [] = false
is_clients_turn (number ∷ numbers) = is_clients number
