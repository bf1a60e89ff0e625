-- What waits of an answer for its end, where responses are passed on whole.
use Rattle.std.specs.Prelude.{◌≡◌, ℕ, ◌<◌, ◌≤◌, List, [], ◌++◌, length, Option, Some, None}
use Rattle.model.specs.ResponseHeads.{Head}
use Rattle.model.specs.Setup.{Passing}
use Rattle.model.specs.Setup.Passing.{Whole, Streaming}
use Rattle.model.specs.Deliveries.{Delivery, End}
use Rattle.theory_responses.specs.Outbox.{first_head, first_end}
use Rattle.h1_reader.specs.Parts.{Part}
use Rattle.h1_reader.specs.Standing.{State as Reader}
use Rattle.upstream_response.specs.Telling.{interims_of, head_of, body_of, trailers_of}
use Rattle.upstream_response.specs.declared.answer.ResponsePassing.{ResponsePassing as Way}
use Rattle.upstream_response.specs.declared.answer.ResponsePassing.TheVariants as way

-- An answer: its reader, how it is passed on, and the head, the octets of the body and the trailers that wait for its end.
pub record Answer : Type 0 where
  pub reader : Reader
  pub way : Way
  pub head : Option Head
  pub body : List ℕ
  pub trailers : End

-- how responses are passed on
abbrev pub passing_in : Way → Passing
passing_in (way.Whole most) = Whole
passing_in way.Streaming = Streaming

-- the most octets of a body that is passed on whole
abbrev pub limit_in : Way → Option ℕ
limit_in (way.Whole most) = Some most
limit_in way.Streaming = None

-- What waits, once these parts were told: of a response that is passed on whole its head and its body, of another neither; and its trailers.
abbrev pub Waits : Passing → List Part → Answer → Type 0
Waits Whole parts answer = (answer.head ≡ head_of parts) × (answer.body ≡ body_of parts) × (answer.trailers ≡ trailers_of parts)
Waits Streaming parts answer = (answer.head ≡ None) × (answer.body ≡ []) × (answer.trailers ≡ trailers_of parts)

-- what waits once a head, a body and trailers are told
abbrev pub waiting : Passing → Answer → Option Head → List ℕ → End → Answer
waiting Whole answer head body trailers = record answer {
  head = first_head answer.head head;
  body = answer.body ++ body;
  trailers = first_end answer.trailers trailers;
}
waiting Streaming answer head body trailers = record answer { trailers = first_end answer.trailers trailers }

-- what goes on offer at once of parts of a response that isn't whole yet
abbrev pub news_at_once : Passing → List Part → Delivery
news_at_once Whole parts = record { interims = interims_of parts; head = None; body = []; ends = None }
news_at_once Streaming parts = record { interims = interims_of parts; head = head_of parts; body = body_of parts; ends = None }

-- A body has more octets than one that is passed on whole may have.
abbrev pub IsPast : Way → List ℕ → Type 0
IsPast (way.Whole most) body = most < length body
IsPast way.Streaming body = ⊥

-- It has no more.
abbrev pub IsWithin : Way → List ℕ → Type 0
IsWithin (way.Whole most) body = length body ≤ most
IsWithin way.Streaming body = Unit {0}
