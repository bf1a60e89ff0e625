-- What is known of a socket and of a connection to an upstream, and how it changes.
use Rattle.std.specs.Prelude.{◌≡◌, ◌+◌, ◌||◌, ◌&&◌, ℕ, Bool, true, false, not, nat_lt, if◌then◌else◌, List, [], length}
use Rattle.std.specs.Prelude.{Option, None, Some, Result, Ok, Err, IsErr, IfSome, ⊤}
use Rattle.std.specs.Io.KnownBytes.{Consumes, IsAtEnd}
use Rattle.std.specs.IoError.{error_kind}
use Rattle.std.specs.declared.io.Error.{Error}
use Rattle.std.specs.declared.io.ErrorKind.TheVariants.{OutOfMemory}
use Rattle.std.specs.declared.net.socket_addr.SocketAddr.{SocketAddr}
use Rattle.mio.specs.Event.{is_readable, is_writable, is_error, is_read_closed, is_write_closed}
use Rattle.mio.specs.Interest as interest
use Rattle.mio.specs.declared.event.event.Event.{Event}
use Rattle.effects.specs.declared.events.Event.{Event as Heard}
use Rattle.effects.specs.declared.events.Event.TheVariants.{Up, UpEnd, UpFailed}
use Rattle.sockets.specs.declared.side.Side.{Side}
use Rattle.sockets.specs.declared.upstream.Upstream.{Upstream}
use Rattle.socket_io.specs.Transfers.{Way, nothing_put, told, told_count}
use Rattle.socket_io.specs.declared.incoming.Got.{Got}
use Rattle.socket_io.specs.declared.incoming.Got.TheVariants.{Octets, Nothing, End}
use Rattle.driver.specs.declared.world.WorldFault.{WorldFault}
use Rattle.sockets.specs.Putting.{Passes, PassesFront}
use Rattle.sockets.specs.Tokens.{token_number}

-- What is told of a socket: which octets of it were read, if that is told; whether its end was; which were put out, and of how many that it took is told.
pub record News : Type 0 where
  pub came : Option (List ℕ)
  pub ended : Bool
  pub put : List ℕ
  pub took : ℕ

-- nothing was read of it, nothing is put out, and nothing is told
abbrev pub no_news : News
no_news = record { came = Some []; ended = false; put = []; took = 0 }

-- a call failed, and isn't followed by others: what it read, if something, is lost
abbrev pub lost_news : News
lost_news = record { came = None; ended = false; put = []; took = 0 }

abbrev pub came_news : List ℕ → News
came_news octets = record no_news { came = Some octets }

abbrev pub end_news : News
end_news = record no_news { ended = true }

abbrev pub put_news : List ℕ → News
put_news octets = record no_news { put = octets }

abbrev pub took_news : ℕ → News
took_news count = record no_news { took = count }

-- These octets were read, if they are told.
abbrev pub Reads : Option (List ℕ) → Option (List ℕ) → Option (List ℕ) → Type 0
Reads left left' None = ⊤
Reads left left' (Some came) = Consumes left left' came

-- Nothing is told of a socket that couldn't be made: no octets of it, no end, and none that it took. What is put out for it reaches nobody.
abbrev pub IsSilent : News → Type 0
IsSilent news = IfSome news.came (λ came. came ≡ []) × (news.ended ≡ false) × (news.took ≡ 0)

-- both directions are over
abbrev pub is_lost : {S : Type 0} → Option (Side S) → Bool
is_lost None = false
is_lost (Some side) = side.lost

-- what is written to it reaches nobody
abbrev pub is_deaf : {S : Type 0} → Upstream S → Bool
is_deaf upstream = upstream.broken || is_lost upstream.side

-- where contracts name what passes through sockets
module _ {S : Type 0} (left held : S → Option (List ℕ)) where
  -- What became of a side is what is told of it: no octets were read but those, nor its end but where that is told, and of what it took so many are told of.
  pub record Goes (news : News) (old new : Side S) : Type 0 where
    pub reads : Reads (left old.socket) (left new.socket) news.came
    pub ends : IfSome news.came (λ _. new.ended ≡ (old.ended || news.ended))
    pub at_end : news.ended ≡ true → (old.ended ≡ false) × IsAtEnd (left old.socket)
    pub passes : Passes (held old.socket) (held new.socket) news.put news.took old.out new.out
    pub token : new.token ≡ old.token
    pub heard : interest.is_readable old.interests ≡ true → interest.is_readable new.interests ≡ true

  abbrev pub GoesTo : News → Option (Side S) → Option (Side S) → Type 0
  GoesTo news None new = (new ≡ None) × IsSilent news
  GoesTo news (Some side) None = ⊥
  GoesTo news (Some side) (Some new) = Goes news side new

  -- A connection is there still, and what became of it is what is told. Where what is written to it reaches nobody, that stays so, and so does that a write
  -- failed.
  pub record GoesOn (news : News) (old new : Upstream S) : Type 0 where
    pub number : new.k ≡ old.k
    pub address : new.address ≡ old.address
    pub goes : GoesTo news old.side new.side
    pub deaf : is_deaf old ≡ true → is_deaf new ≡ true
    pub broken : old.broken ≡ true → new.broken ≡ true

  -- Of the octets that are put out to a side a front is.
  pub record GoesFront (octets : List ℕ) (old new : Side S) : Type 0 where
    pub reads : left new.socket ≡ left old.socket
    pub ends : new.ended ≡ old.ended
    pub passes : PassesFront (held old.socket) (held new.socket) octets old.out new.out

  abbrev pub GoesFrontTo : List ℕ → Option (Side S) → Option (Side S) → Type 0
  GoesFrontTo octets None new = new ≡ None
  GoesFrontTo octets (Some side) None = ⊥
  GoesFrontTo octets (Some side) (Some new) = GoesFront octets side new

  -- Octets are put out to an upstream, or a front of them, and nothing else.
  pub record SendsFront (octets : List ℕ) (old new : Upstream S) : Type 0 where
    pub number : new.k ≡ old.k
    pub address : new.address ≡ old.address
    pub front : GoesFrontTo octets old.side new.side

-- A report is noted. That something may be read, and that it takes no more, stay so; that it is full is over once it takes octets again.
abbrev pub noted : {S : Type 0} → Event → Side S → Side S
noted event side = record side {
  readable = side.readable || (is_read_closed event || is_error event) || is_readable event;
  full = side.full && not (is_writable event);
  lost = side.lost || is_error event || is_write_closed event;
}

-- a write to it failed
abbrev pub given_up : {S : Type 0} → Side S → Side S
given_up side = record side { lost = true; readable = true }

-- Something may be read of a side, or it is to be told that there is none.
abbrev pub may_be_ready : {S : Type 0} → Option (Side S) → Bool
may_be_ready None = true
may_be_ready (Some side) = side.readable && not side.ended

-- Something may be read of a side, or it is to be told that there is none, where there is so much room: with none nothing is told.
abbrev pub is_ready : {S : Type 0} → ℕ → Option (Side S) → Bool
is_ready room side = may_be_ready side && nat_lt 0 room

-- Something may be read of the client: no more octets than these that were put out for it weren't told of as taken.
abbrev pub may_read : {S : Type 0} → ℕ → Side S → Bool
may_read most client = may_be_ready (Some client) && not (nat_lt most (length client.out.waiting + client.out.untold))

-- octets were put out that weren't told of as taken
abbrev pub owes : {S : Type 0} → Option (Side S) → Bool
owes None = false
owes (Some side) = nat_lt 0 (length side.out.waiting + side.out.untold)

-- what is on its way out to a side
abbrev pub out_of : {S : Type 0} → Option (Side S) → Option Way
out_of None = None
out_of (Some side) = Some side.out

-- a report is noted of a side
abbrev pub note_side : {S : Type 0} → Event → Option (Side S) → Option (Side S)
note_side event None = None
note_side event (Some side) = Some (noted event side)

-- a report is noted of an upstream
abbrev pub heard_of : {S : Type 0} → Event → Upstream S → Upstream S
heard_of event upstream = record upstream { side = note_side event upstream.side }

-- a write to a side failed
abbrev pub side_given_up : {S : Type 0} → Option (Side S) → Option (Side S)
side_given_up None = None
side_given_up (Some side) = Some (given_up side)

-- how many octets of a side were taken and not told of
abbrev pub count_told : {S : Type 0} → Option (Side S) → ℕ
count_told None = 0
count_told (Some side) = told_count 1 side.out

-- all that were taken are told of
abbrev pub side_told : {S : Type 0} → Option (Side S) → Option (Side S)
side_told None = None
side_told (Some side) = Some (record side { out = told 1 side.out })

-- A socket is reported under this token for what may be read, and nothing was put out to it.
pub record IsBegun {S : Type 0} (token : ℕ) (side : Side S) : Type 0 where
  pub token_is : side.token ≡ record { 0 = token }
  pub heard : interest.is_readable side.interests ≡ true
  pub nothing : side.out ≡ nothing_put
  pub unread : side.ended ≡ false

-- An upstream of the client with this number is new: it is connected to this address, if there is
-- one and a socket could be made, under its own token. Nothing was put out for it, and none of its
-- writes failed.
pub record IsNew {S : Type 0} (client k : ℕ) (address : Option SocketAddr) (upstream : Upstream S) : Type 0 where
  pub number : upstream.k ≡ k
  pub address_is : upstream.address ≡ address
  pub begun : IfSome upstream.side (IsBegun (token_number client k))
  pub whole : upstream.broken ≡ false

-- What a report or a failed write said of a side it says still.
abbrev pub KeepsHeard : {S : Type 0} → Option (Side S) → Option (Side S) → Type 0
KeepsHeard None new = new ≡ None
KeepsHeard (Some side) None = ⊥
KeepsHeard (Some side) (Some new) = (side.readable ≡ true → new.readable ≡ true) × (side.lost ≡ true → new.lost ≡ true)

-- Something may be there behind what a read gave, where that was octets.
abbrev pub may_go_on : Got → Bool
may_go_on (Octets octets) = true
may_go_on got = false

-- What a read of connection k gave is told, by whether a write failed and whether it was reported as over: octets as they are, its end where no write failed,
-- and a failure where nothing more comes, or the read failed. Where memory was refused the call fails.
abbrev pub Tells : ℕ → Bool → Bool → Result Got Error → Result (Option Heard) WorldFault → Type 0
Tells k broken lost (Ok (Octets octets)) told = told ≡ Ok (Some (Up k octets))
Tells k broken lost (Ok End) told = told ≡ Ok (Some (if broken then UpFailed k else UpEnd k))
Tells k broken lost (Ok Nothing) told = told ≡ Ok (if broken || lost then Some (UpFailed k) else None)
Tells k broken lost (Err error) told = (error_kind error ≡ OutOfMemory → IsErr told) × ((error_kind error ≡ OutOfMemory → ⊥) → told ≡ Ok (Some (UpFailed k)))

-- the event is of this connection: what it sent, its end or its failure
abbrev pub IsOf : ℕ → Heard → Type 0
IsOf k (Up j octets) = j ≡ k
IsOf k (UpEnd j) = j ≡ k
IsOf k (UpFailed j) = j ≡ k
IsOf k event = ⊥
