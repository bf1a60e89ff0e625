-- An answer takes octets where it stands, and its end: what the calls come to.
use Rattle.std.proofs.Common.{◌≡◌, ℕ, true, false, List, Option, Some, None, refl, ap, subst}
use Rattle.std.specs.Prelude.{is_some, IfSome}
use Rattle.upstream_response.specs.Waiting.{Answer}
use Rattle.upstream_response.specs.declared.answer.Heard.{Heard}
use Rattle.upstream_response.specs.declared.answer.ResponsePassing.TheVariants.{Streaming}
use Rattle.upstream_response.specs.declared.answer.AnswerEnd.{AnswerEnd}
use Rattle.theory_responses.specs.State as theory_responses
use Rattle.send_queue.specs.Changes.{IsHeardFor, IsEndedFor}
use Rattle.theory_requests.specs.Lines.{find}
use Rattle.upstream_connections.specs.Connections.{Connection, number_of, fresh}
use Rattle.refinement.specs.View.{View}
use Rattle.event_handlers.specs.exchanges.Taking.{answered_with, IsHeardOut, AreTaken, IsEndTaken}

module _ (kept : View) (k stream : ℕ) (lent left : Answer) (offers : theory_responses.State) (opened : is_some (find number_of k kept.upstreams.live) ≡ true)
    (stream_is : IfSome (find number_of k kept.upstreams.live) (λ c. stream ≡ c.live.stream)) (lent_is : IfSome (find number_of k kept.upstreams.live) (λ c. lent ≡ c.answer)) where
  -- the connection, with its stream and its answer
  record IsLent : Type 0 where
    pub connection : Connection
    pub found : find number_of k kept.upstreams.live ≡ Some connection
    pub of : stream ≡ connection.live.stream
    pub its : lent ≡ connection.answer

  is_lent : IsLent
  is_lent = by (find number_of k kept.upstreams.live) refl opened stream_is lent_is
    where
      by : (o : Option Connection) → find number_of k kept.upstreams.live ≡ o → is_some o ≡ true → IfSome o (λ c. stream ≡ c.live.stream) → IfSome o (λ c. lent ≡ c.answer) → IsLent
      by None is some of its = let no : false ≡ true = some in cc
      by (Some c) is some of its = record { connection = c; found = is; of = of; its = its }

  pub octets_taken : (octets : List ℕ) (heard : Heard) → IsHeardOut kept.offers stream lent octets heard left offers → AreTaken kept k octets heard (answered_with k left offers kept)
  octets_taken octets heard out = record {
    connection = is_lent.connection;
    found = is_lent.found;
    answer = out.behind;
    offers = offers;
    hears = subst (λ n. IsHeardFor kept.offers n is_lent.connection.answer octets heard out.behind offers) is_lent.of (subst (λ (a : Answer). IsHeardFor kept.offers stream a octets heard out.behind offers) is_lent.its out.hears);
    is = ap (λ (a : Answer). answered_with k a offers kept) out.left_is;
  }

  pub end_taken : (ended : AnswerEnd) → left ≡ fresh false Streaming → IsEndedFor kept.offers stream lent ended offers → IsEndTaken kept k ended (answered_with k left offers kept)
  end_taken ended empty ends = record {
    connection = is_lent.connection;
    found = is_lent.found;
    offers = offers;
    ends = subst (λ n. IsEndedFor kept.offers n is_lent.connection.answer ended offers) is_lent.of (subst (λ (a : Answer). IsEndedFor kept.offers stream a ended offers) is_lent.its ends);
    is = ap (λ (a : Answer). answered_with k a offers kept) empty;
  }
