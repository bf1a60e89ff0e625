-- The request of a stream that waits for its end, as it stands to what the book tells of the stream.
use Rattle.std.specs.Prelude.{◌≡◌, ℕ, ◌+◌, true, false, List, length, Some}
use Rattle.model.specs.Malformed.{has_length}
use Rattle.h1_writer.specs.Sending.{Stage}
use Rattle.theory_errors.specs.Summary.{Outline}
use Rattle.request_buffer.specs.Waits.{MayEnd}
use Rattle.theory_requests.specs.State.{Held, held_of, is_whole}
use Rattle.theory_requests.specs.State.Way.{Waiting}

-- It is held, and may end behind as many octets as are declared by what the stream's course counts.
pub record WaitsFor (outline : Outline) (id : ℕ) (hs : List Held) : Type 0 where
  pub route : ℕ
  pub text : List ℕ
  pub stage : Stage
  pub body : List ℕ
  pub found : held_of id hs ≡ Some (record { id = id; way = Waiting route text stage body })
  pub part : is_whole stage ≡ false
  pub may_end : (octets : List ℕ) → has_length outline.declared (outline.octets + length octets) ≡ true
      → MayEnd (record { route = route; text = text; stage = stage; body = body }) octets
