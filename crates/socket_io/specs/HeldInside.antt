-- How many octets lie in this crate's types. Each count takes the struct apart by the names of all its fields, and counts each by its type: what lies in
-- one field more has to be counted here.
use Rattle.std.specs.Prelude.{ℕ, ◌+◌, length}
use Rattle.socket_io.specs.declared.outgoing.Outgoing.TheInside.{Inside as OutgoingInside}

-- none in a number
abbrev pub in_number : ℕ → ℕ
in_number number = 0

-- in octets on their way out: those that wait, and those that were written and still lie before them
abbrev pub in_outgoing : OutgoingInside → ℕ
in_outgoing = λ record { octets = octets; start = start; untold = untold }. length octets.items + in_number start + in_number untold
