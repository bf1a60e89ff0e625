-- Octets of DATA that are given back (RFC 9113, section 6.9), and what is kept behind the frame that gives them.
use Rattle.std.specs.Prelude.{◌≡◌, ◌≤◌, ℕ, ◌+◌, Bool, not, ◌&&◌, ◌==◌, if◌then◌else◌, List, pos, ◌+ℤ◌}
use Rattle.theory_errors.specs.Rows.{Row, find}
use Rattle.streams.specs.Asked.{has, is_active}
use Rattle.streams.specs.Sending.{given_back, is_served}
use Rattle.connection_state.specs.Sending.{with_kept}
use Rattle.window_credit.specs.declared.marks.TakenOctets.{TakenOctets}
use Rattle.refinement.specs.View.{View, Pending, balanced}
use Rattle.refinement.specs.Rest.{GoesOn}

-- so many octets on one stream, and none on any other
abbrev pub own_of : ℕ → ℕ → ℕ → ℕ
own_of id count other = if id == other then count else 0

-- Octets that a side took are to go back: all on the connection, and on the stream that it was given to last its own; and nothing else is pending.
abbrev pub back_on : ℕ → TakenOctets → Pending
back_on id taken = record balanced { shared = taken.own + taken.older; own = own_of id taken.own }

-- and then those of the stream alone, once the connection has all
abbrev pub due_on_stream : ℕ → ℕ → Pending
due_on_stream id count = record balanced { own = own_of id count }

-- they go back on a stream: it is active, and the client hasn't ended it
abbrev pub goes_back_on : List Row → ℕ → Bool
goes_back_on rows id = is_active rows id && not (find rows id).ended_by_client

-- what is kept where so many were given back on the connection, and on a stream: WINDOW_UPDATE is spelled with 13 octets
abbrev pub given_on_connection : View → ℕ → View
given_on_connection kept count = record kept { inbound = record kept.inbound { room = kept.inbound.room +ℤ pos count }; untaken = kept.untaken + 13 }

abbrev pub given_on_stream : View → ℕ → ℕ → View
given_on_stream kept id count =
    record kept {
      inbound = record kept.inbound { rows = with_kept id (given_back count (find kept.inbound.rows id)) kept.inbound.rows };
      untaken = kept.untaken + 13;
    }

-- Octets were given back, or wait: windows, what waits and what is untaken changed, and nothing else.
pub record IsReturned (old new : View) : Type 0 where
  pub offers : new.offers ≡ old.offers
  pub upstreams : new.upstreams ≡ old.upstreams
  pub encoding : new.encoding ≡ old.encoding
  pub goes_on : GoesOn old → GoesOn new
  pub opened : (id : ℕ) → has new.inbound.rows id ≡ has old.inbound.rows id
  pub served : (id : ℕ) → is_served new.inbound.rows id ≡ is_served old.inbound.rows id
  pub more : old.untaken ≤ new.untaken
