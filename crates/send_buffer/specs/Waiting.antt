-- Octets of a body that wait in code.
use Rattle.std.specs.Prelude.{◌≤◌, ℕ, List}
use Rattle.send_buffer.specs.declared.octets.Store.{Store}
use Rattle.send_buffer.specs.declared.octets.Store.TheVariants as store

abbrev pub waiting_in : Store → List ℕ
waiting_in (store.Piece piece) = piece.items
waiting_in (store.Ring ring) = ring.items

-- A ring has room for at most 65,536.
abbrev pub IsKept : Store → Type 0
IsKept (store.Piece piece) = Unit {0}
IsKept (store.Ring ring) = ring.capacity ≤ 65536
