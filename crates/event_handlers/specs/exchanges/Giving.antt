-- What is kept where the gateway replies to a stream itself, since its upstream's answer failed, and what is put out then.
use Rattle.std.specs.Prelude.{◌≡◌, ℕ, ◌+◌, Bool, true, false, nat_lt, List, length, map, Option, Some, None}
use Rattle.model.specs.Limits.{most_untaken}
use Rattle.model.specs.Frames.{spell, internal_error}
use Rattle.model.specs.Causes.Cause.{BadAnswer}
use Rattle.model.specs.ErrorClause.{rst_stream}
use Rattle.model.specs.Logs.{Output}
use Rattle.model.specs.Logs.Act.{Close}
use Rattle.model.specs.Logs.Output.{ToClient, Does}
use Rattle.model.specs.Tapes.{put}
use Rattle.theory_errors.specs.Rows.{find}
use Rattle.theory_errors.specs.Rows.Slot.{Over}
use Rattle.theory_responses.specs.State.{change, answered}
use Rattle.theory_responses.specs.State as theory_responses
use Rattle.send_queue.specs.Asked.{is_cut}
use Rattle.theory_requests.specs.Lines.{without}
use Rattle.theory_requests.specs.State.{id_of, drop_from}
use Rattle.streams.specs.Asked.{changed}
use Rattle.streams.specs.Sending.{failed}
use Rattle.connection_state.specs.Sending.{with_kept}
use Rattle.upstream_connections.specs.Connections.{number_of}
use Rattle.window_credit.specs.Sides as marks
use Rattle.refinement.specs.View.{View, waiting_for}

-- the gateway replies to the stream, and nothing is held of it
abbrev pub replied_to : ℕ → View → View
replied_to stream kept = record {
  inbound = record kept.inbound { rows = with_kept stream (failed (find kept.inbound.rows stream)) kept.inbound.rows };
  offers = record kept.offers { kept = change stream (answered BadAnswer) kept.offers.kept };
  upstreams = record kept.upstreams { held = without id_of stream kept.upstreams.held };
  marks = kept.marks;
  encoding = kept.encoding;
  untaken = kept.untaken;
}

-- the stream was reset with INTERNAL_ERROR (RFC 9113, section 7): nothing waits of its DATA any more
abbrev pub reset_behind : ℕ → View → View
reset_behind stream kept = record {
  inbound = record kept.inbound { rows = changed stream (Over true) kept.inbound.rows };
  offers = record kept.offers { kept = theory_responses.without stream kept.offers.kept };
  upstreams = kept.upstreams;
  marks = marks.without stream kept.marks;
  encoding = kept.encoding;
  untaken = kept.untaken + length (spell (rst_stream stream internal_error));
}

-- it was, where a reset is owed
abbrev pub reset_if : Bool → ℕ → View → View
reset_if true stream kept = reset_behind stream kept
reset_if false stream kept = kept

abbrev pub put_if : Bool → ℕ → List Output → List Output
put_if true stream outputs = put outputs (ToClient (spell (rst_stream stream internal_error)))
put_if false stream outputs = outputs

-- the octets of its DATA that waited go back on the connection then
abbrev pub back_if : Bool → ℕ → View → ℕ
back_if true stream kept = waiting_for stream kept
back_if false stream kept = 0

abbrev pub given_if : Bool → ℕ → View → Option ℕ
given_if true stream kept = Some (waiting_for stream kept)
given_if false stream kept = None

-- a reset is owed, once the gateway replies
abbrev pub is_cut_then : ℕ → View → Bool
is_cut_then stream kept = is_cut stream (change stream (answered BadAnswer) kept.offers.kept)

-- The gateway replies to the stream itself, or resets it where it is too late for that: then so many octets that waited go back.
pub record IsGivenUp (stream : ℕ) (old : View) (outputs : List Output) (back : Option ℕ) (new : View) (put_out : List Output) : Type 0 where
  pub kept : new ≡ reset_if (is_cut_then stream old) stream (replied_to stream old)
  pub puts : put_out ≡ put_if (is_cut_then stream old) stream outputs
  pub back_is : back ≡ given_if (is_cut_then stream old) stream old
  pub few : is_cut_then stream old ≡ true → nat_lt most_untaken old.untaken ≡ false

-- all that is kept, without a connection: what goes out there is dropped
abbrev pub closed_at : ℕ → View → View
closed_at k kept = record {
  inbound = kept.inbound;
  offers = kept.offers;
  upstreams = record kept.upstreams { held = map (drop_from k) kept.upstreams.held; live = without number_of k kept.upstreams.live };
  marks = kept.marks;
  encoding = kept.encoding;
  untaken = kept.untaken;
}

-- what is kept where the answer of an open connection failed, and what was put out: the stream was reset, and the connection is still open; or
-- the gateway replies, and the connection is closed
abbrev pub abandoned_if : Bool → ℕ → ℕ → View → View
abandoned_if true k stream kept = reset_behind stream (replied_to stream kept)
abandoned_if false k stream kept = closed_at k (replied_to stream kept)

abbrev pub put_abandoned : Bool → ℕ → ℕ → List Output → List Output
put_abandoned true k stream outputs = put outputs (ToClient (spell (rst_stream stream internal_error)))
put_abandoned false k stream outputs = put outputs (Does (Close k))

-- The stream of an open connection is given up, whose answer failed: so many octets go back on the connection to the client.
pub record IsAbandoned (k stream : ℕ) (old : View) (outputs : List Output) (back : ℕ) (new : View) (put_out : List Output) : Type 0 where
  pub kept : new ≡ abandoned_if (is_cut_then stream old) k stream old
  pub puts : put_out ≡ put_abandoned (is_cut_then stream old) k stream outputs
  pub back_is : back ≡ back_if (is_cut_then stream old) stream old
  pub few : is_cut_then stream old ≡ true → nat_lt most_untaken old.untaken ≡ false
