-- Octets that pass between a gateway and a socket.
use Rattle.std.specs.Prelude.{◌≡◌, ◌≤◌, ◌<◌, ◌+◌, ◌-◌, ◌^◌, ℕ, List, [], ◌++◌, ◌⊎◌, nat_lt, if◌then◌else◌, length, min, Option, Result, Ok, Err, ⊤}
use Rattle.std.specs.Io.KnownBytes.{Appends, Consumes, Keeps, IsAtEnd}
use Rattle.std.specs.IoError.{error_kind}
use Rattle.std.specs.declared.io.ErrorKind.{ErrorKind}
use Rattle.std.specs.declared.io.ErrorKind.TheVariants.{WouldBlock, Interrupted}
use Rattle.socket_io.specs.declared.outgoing.PutFault.{PutFault}
use Rattle.socket_io.specs.declared.outgoing.PutFault.TheVariants.{Socket, Memory}
use Rattle.socket_io.specs.declared.incoming.Got.{Got}
use Rattle.socket_io.specs.declared.incoming.Got.TheVariants.{Octets, Nothing, End}

-- what is on its way out: the octets that wait, how many were taken that weren't told of, and how many that were written are still kept before those that
-- wait
pub record Way : Type 0 where
  pub waiting : List ℕ
  pub untold : ℕ
  pub sent : ℕ

abbrev pub nothing_put : Way
nothing_put = record { waiting = []; untold = 0; sent = 0 }

-- how many octets are told of, from so many on
abbrev pub told_count : ℕ → Way → ℕ
told_count least way = if nat_lt way.untold least then 0 else way.untold

-- what is left when they were
abbrev pub told : ℕ → Way → Way
told least way = if nat_lt way.untold least then way else record way { untold = 0 }

-- Octets are put out behind those that wait. Of all these a front is written, no other octets are, and the rest waits, in
-- order; what is written counts as taken and not told of. Known octets of the socket are those that it had, and then those.
pub record Passes (had has : Option (List ℕ)) (old : Way) (octets : List ℕ) (new : Way) : Type 0 where
  pub written : List ℕ
  pub in_order : written ++ new.waiting ≡ old.waiting ++ octets
  pub are_written : Appends had has written
  pub counted : new.untold ≡ min (old.untold + length written) (2 ^ 64 - 1)

-- Octets were put out, and memory was refused for those that a socket didn't take: a front of them was written, no other octets
-- were, and the rest, one at least, is lost. What waited before waits still, and where something did nothing was written.
pub record Loses (had has : Option (List ℕ)) (old : Way) (octets : List ℕ) (new : Way) : Type 0 where
  pub written : List ℕ
  pub lost : List ℕ
  pub parted : written ++ lost ≡ octets
  pub some : 0 < length lost
  pub are_written : Appends had has written
  pub behind : 0 < length old.waiting → written ≡ []
  pub waits : new.waiting ≡ old.waiting
  pub counted : new.untold ≡ min (old.untold + length written) (2 ^ 64 - 1)

-- the answer that the socket failed
abbrev pub IsSocketFault : {A : Type 0} → Result A PutFault → Type 0
IsSocketFault (Err (Socket error)) = ⊤
IsSocketFault (Err Memory) = ⊥
IsSocketFault (Ok a) = ⊥

-- the answer that memory was refused
abbrev pub IsMemoryFault : {A : Type 0} → Result A PutFault → Type 0
IsMemoryFault (Err (Socket error)) = ⊥
IsMemoryFault (Err Memory) = ⊤
IsMemoryFault (Ok a) = ⊥

-- a call only came too early, so that it is to be made again
abbrev pub IsEarly : ErrorKind → Type 0
IsEarly kind = (kind ≡ WouldBlock) ⊎ (kind ≡ Interrupted)

-- the answer that the socket failed, where the call only came too early
abbrev pub IsEarlyFault : {A : Type 0} → Result A PutFault → Type 0
IsEarlyFault (Err (Socket error)) = IsEarly (error_kind error)
IsEarlyFault (Err Memory) = ⊥
IsEarlyFault (Ok a) = ⊥

-- What a read with so much room gave of the octets that the socket still had: some of the first, its end, or nothing.
abbrev pub Gives : Option (List ℕ) → Option (List ℕ) → ℕ → Got → Type 0
Gives had has room (Octets piece) = (0 < length piece.items) × (length piece.items ≤ room) × Consumes had has piece.items
Gives had has room Nothing = Keeps had has
Gives had has room End = Consumes had has [] × (0 < room → IsAtEnd had)
