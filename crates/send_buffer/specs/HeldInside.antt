-- How many octets lie in this crate's types. Each count takes the struct apart by the names of all its fields, and each of its cases by all that it has:
-- what lies in one field more has to be counted here.
use Rattle.std.specs.Prelude.{ℕ, ◌+◌, length, Option, Some, None, sum_by}
use Rattle.model.specs.ResponseHeads.{Head}
use Rattle.model.specs.Deliveries.{End}
use Rattle.theory_responses.specs.Outbox.{trailers_at}
use Rattle.theory_responses.specs.Held.{head_octets, octets_of_fields}
use Rattle.send_buffer.specs.Views.{end_in}
use Rattle.send_buffer.specs.declared.octets.Octets.TheInside.{Inside as Octets}
use Rattle.send_buffer.specs.declared.octets.Store.{Store}
use Rattle.send_buffer.specs.declared.octets.Store.TheVariants as store
use Rattle.send_buffer.specs.declared.outbox.Outbox.TheInside.{Inside as Outbox}
use Rattle.send_buffer.specs.declared.outbox.Place.{Place}
use Rattle.send_buffer.specs.declared.outbox.Place.TheVariants as place

-- ---- octets of a body

-- what is left of a piece, or a ring
abbrev pub in_store : Store → ℕ
in_store (store.Piece piece) = length piece.items
in_store (store.Ring ring) = length ring.items

abbrev pub in_octets : Octets → ℕ
in_octets = λ record { alloc = alloc; store = store }. in_store store

-- ---- an outbox

-- the octets of a head, if there is one: its names and values
abbrev pub in_head : Option Head → ℕ
in_head None = 0
in_head (Some head) = head_octets head

-- those of trailers, if the response is whole and has some
abbrev pub in_end : Option End → ℕ
in_end whole = octets_of_fields (trailers_at (end_in whole))

-- what lies in an outbox, by how far the response was sent
abbrev pub in_place : Place → ℕ
in_place (place.Before interims head body whole) = sum_by head_octets interims.items + in_head head + length body + in_end whole
in_place (place.Behind body whole) = length body + in_end whole
in_place place.Over = 0

abbrev pub in_outbox : Outbox → ℕ
in_outbox = λ record { place = place }. in_place place
