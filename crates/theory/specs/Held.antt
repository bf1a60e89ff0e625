-- How many octets are kept, as sums over all octet lists of the state, and how many may be.
use Rattle.std.specs.Prelude.{ℕ, ◌+◌, ◌*◌, ◌==◌, if◌then◌else◌, List, [], ◌∷◌, length, sum_by}
use Rattle.model.specs.Frames.{Frame}
use Rattle.model.specs.Setup.{Setup}
use Rattle.model.specs.Tables.{total_size}
use Rattle.theory_errors.specs.Held.{octets_begun}
use Rattle.theory_responses.specs.State.{Kept}
use Rattle.theory_responses.specs.Held as offers
use Rattle.theory_requests.specs.Held as requests
use Rattle.theory.specs.State.{State}

-- ---- what is kept

-- what is kept of the connection: header blocks that aren't complete, frames that are owed, and the tables of both directions, each
-- field with the 32 that its size counts
abbrev pub held_on_connection : State → ℕ
held_on_connection s =
    octets_begun s.ledger.book.block + octets_begun s.ledger.book.block_out + sum_by (λ (frame : Frame). length frame.payload) s.ledger.queue
    + total_size s.tables.decoding.fields + total_size s.tables.encoding.table.fields

-- what is on offer for a stream
abbrev pub on_offer_for : ℕ → List Kept → ℕ
on_offer_for stream [] = 0
on_offer_for stream (k ∷ ks) = (if k.id == stream then offers.octets_in k.box else 0) + on_offer_for stream ks

-- what is kept for a stream: what is on offer for it, and of its request
abbrev pub held_for : ℕ → State → ℕ
held_for stream s = on_offer_for stream s.offers.kept + requests.held_for stream s.requests

-- all that is kept
abbrev pub held_in_all : State → ℕ
held_in_all s = held_on_connection s + (offers.octets_held s.offers + requests.held_octets s.requests)

-- ---- how many may be

-- of the connection, and for each of at most 100 streams
abbrev pub most_on_connection : ℕ
most_on_connection = 200000

abbrev pub most_for_stream : Setup → ℕ
most_for_stream setup = setup.max_body + setup.max_response + 400000

-- in all
abbrev pub most_in_all : Setup → ℕ
most_in_all setup = most_on_connection + 100 * most_for_stream setup
