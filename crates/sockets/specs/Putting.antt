-- Octets that are put out to a socket, and what it took.
use Rattle.std.specs.Prelude.{◌≡◌, ◌≤◌, ◌+◌, ◌-◌, ◌^◌, ℕ, List, Option, ◌++◌, length, min}
use Rattle.std.specs.Io.KnownBytes.{Appends}
use Rattle.socket_io.specs.Transfers.{Way}

-- Octets are put out behind those that wait: of all these a front is written, no other octets are, and the rest waits, in order. What is written counts as
-- taken, and so many of all that were taken are told of; that number stops at 2^64 - 1. Known octets of the socket are those that it had, and then those.
pub record Passes (had has : Option (List ℕ)) (octets : List ℕ) (told : ℕ) (old new : Way) : Type 0 where
  pub taken : List ℕ
  pub in_order : taken ++ new.waiting ≡ old.waiting ++ octets
  pub are_written : Appends had has taken
  pub at_most : told + new.untold ≤ old.untold + length taken
  pub at_least : min (old.untold + length taken) (2 ^ 64 - 1) ≤ told + new.untold

-- Octets were to be put out behind those that wait, and some of them may be lost: of all these a front is written, what is behind that waits, in
-- order, and what is behind that is lost.
pub record PassesFront (had has : Option (List ℕ)) (octets : List ℕ) (old new : Way) : Type 0 where
  pub taken : List ℕ
  pub lost : List ℕ
  pub in_order : taken ++ (new.waiting ++ lost) ≡ old.waiting ++ octets
  pub are_written : Appends had has taken
  pub at_most : new.untold ≤ old.untold + length taken
