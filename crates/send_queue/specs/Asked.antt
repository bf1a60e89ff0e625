-- What the streams that are kept are asked.
use Rattle.std.specs.Prelude.{ℕ, Bool, true, false, nat_lt, if◌then◌else◌, List, [], ◌∷◌, length, Option, Some, None, is_some, option_and_then, ℤ}
use Rattle.std.specs.List.{list_all}
use Rattle.theory_errors.specs.Judging.{window_in}
use Rattle.theory_errors.specs.Rows.{Row}
use Rattle.theory_errors.specs.Rows as rows
use Rattle.theory_responses.specs.Outbox.{Part, part_of}
use Rattle.theory_responses.specs.Outbox.Part.{Early, Final, Octets, Trailing}
use Rattle.theory_responses.specs.State.{Kept, Windows, find, is_ready}
use Rattle.theory_responses.specs.Held.{body_waiting}

-- the stream is kept
abbrev pub is_kept : ℕ → List Kept → Bool
is_kept id ks = is_some (find id ks)

-- a reset of a stream that may be kept or not is owed
abbrev pub is_cut_if : Option Kept → Bool
is_cut_if None = false
is_cut_if (Some k) = k.cut

-- a reset of the stream is owed
abbrev pub is_cut : ℕ → List Kept → Bool
is_cut id ks = is_cut_if (find id ks)

-- how many octets of the body wait for a stream that may be kept or not
abbrev pub held_if : Option Kept → ℕ
held_if None = 0
held_if (Some k) = length (body_waiting k.box)

-- how many wait for the stream
abbrev pub held_for : ℕ → List Kept → ℕ
held_for id ks = held_if (find id ks)

-- an id is above those of all
abbrev pub is_above_all : ℕ → List Kept → Bool
is_above_all id ks = list_all (λ (k : Kept). nat_lt k.id id) ks

-- the part that goes next on a stream, where so many octets may
abbrev pub part_for : ℕ → ℕ → List Kept → Option Part
part_for most id ks = option_and_then (λ (k : Kept). part_of most k.box) (find id ks)

-- what goes next is a head
abbrev pub is_head : Option Part → Bool
is_head (Some (Early head)) = true
is_head (Some (Final head ends)) = true
is_head _ = false

-- it is octets of a body, or its end alone
abbrev pub are_octets : Option Part → Bool
are_octets (Some (Octets octets ends)) = true
are_octets _ = false

-- it is trailers
abbrev pub are_trailers : Option Part → Bool
are_trailers (Some (Trailing trailers)) = true
are_trailers _ = false

-- The windows, by what is kept of the streams, the first size that settings give them, and the connection's. How much the client hasn't
-- taken is another's question.
abbrev pub windows_over : List Row → ℕ → ℤ → Windows
windows_over all first shared = record { own = λ id. window_in first (rows.find all id); shared = shared; untaken = 0 }

-- the first stream of which something can go
abbrev pub first_ready : Windows → List Kept → Option ℕ
first_ready windows [] = None
first_ready windows (k ∷ ks) = if is_ready windows k then Some k.id else first_ready windows ks
