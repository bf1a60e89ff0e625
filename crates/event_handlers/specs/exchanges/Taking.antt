-- What octets of an upstream come to, and the end of its connection: its answer goes on, and what is news of it is on offer.
use Rattle.std.specs.Prelude.{◌≡◌, ℕ, false, if◌then◌else◌, List, map, Option, Some, None}
use Rattle.upstream_response.specs.Waiting.{Answer}
use Rattle.upstream_response.specs.declared.answer.Heard.{Heard}
use Rattle.upstream_response.specs.declared.answer.Heard.TheVariants as heard
use Rattle.upstream_response.specs.declared.answer.ResponsePassing.TheVariants.{Streaming}
use Rattle.upstream_response.specs.declared.answer.AnswerEnd.{AnswerEnd}
use Rattle.theory_responses.specs.State as theory_responses
use Rattle.send_queue.specs.Changes.{IsHeardFor, IsEndedFor}
use Rattle.theory_requests.specs.Lines.{find, Line, is_idle}
use Rattle.upstream_connections.specs.Connections.{Connection, number_of, answer_at, fresh}
use Rattle.refinement.specs.View.{View}

-- all that is kept, where these are the offers, and a connection's answer is this
abbrev pub answered_with : ℕ → Answer → theory_responses.State → View → View
answered_with k answer offers kept = record {
  inbound = kept.inbound;
  offers = offers;
  upstreams = record kept.upstreams { live = map (answer_at k answer) kept.upstreams.live };
  marks = kept.marks;
  encoding = kept.encoding;
  untaken = kept.untaken;
}

-- the stream that a connection works for: none where it is idle
abbrev pub served_by : Line → Option ℕ
served_by l = if is_idle l.answer then None else Some l.stream

-- what is left of an answer: nothing, once it is over
abbrev pub left_of : Heard → Answer → Answer
left_of heard.GoesOn answer = answer
left_of _ answer = fresh false Streaming

-- The octets come to this, of which nothing is kept once the answer is over.
pub record IsHeardOut (old : theory_responses.State) (stream : ℕ) (answer : Answer) (octets : List ℕ) (heard : Heard) (left : Answer)
    (new : theory_responses.State) : Type 0 where
  pub behind : Answer
  pub hears : IsHeardFor old stream answer octets heard behind new
  pub left_is : left ≡ left_of heard behind

-- They come to this on the open connection with this number.
pub record AreTaken (old : View) (k : ℕ) (octets : List ℕ) (heard : Heard) (new : View) : Type 0 where
  pub connection : Connection
  pub found : find number_of k old.upstreams.live ≡ Some connection
  pub answer : Answer
  pub offers : theory_responses.State
  pub hears : IsHeardFor old.offers connection.live.stream connection.answer octets heard answer offers
  pub is : new ≡ answered_with k (left_of heard answer) offers old

-- So does its end.
pub record IsEndTaken (old : View) (k : ℕ) (ended : AnswerEnd) (new : View) : Type 0 where
  pub connection : Connection
  pub found : find number_of k old.upstreams.live ≡ Some connection
  pub offers : theory_responses.State
  pub ends : IsEndedFor old.offers connection.live.stream connection.answer ended offers
  pub is : new ≡ answered_with k (fresh false Streaming) offers old
