-- What came of an upstream leaves the gateway in the midst of a step about its stream at most.
use Rattle.std.proofs.Common.{◌≡◌, ℕ, Bool, true, false, List, [], ◌∷◌, Option, Some, refl, sym, subst}
use Rattle.model.specs.Logs.{Output}
use Rattle.theory_requests.specs.Lines.{Heard, find}
use Rattle.theory_requests.specs.Lines.Heard.{Finished}
use Rattle.theory_responses.specs.State as theory_responses
use Rattle.upstream_connections.specs.Connections.{Connection, number_of, fresh, answer_at}
use Rattle.upstream_response.specs.Waiting.{Answer}
use Rattle.upstream_response.specs.declared.answer.AnswerEnd.{AnswerEnd}
use Rattle.upstream_response.specs.declared.answer.AnswerEnd.TheVariants as ended
use Rattle.upstream_response.specs.declared.answer.Heard.{Heard as Told}
use Rattle.upstream_response.specs.declared.answer.ResponsePassing.TheVariants.{Streaming}
use Rattle.refinement.specs.View.{View}
use Rattle.refinement.specs.Rest.{NoneCut, NoneDone}
use Rattle.event_handlers.specs.MidStep.{IsMidStep}
use Rattle.event_handlers.specs.Resting.{AreNumbered}
use Rattle.event_handlers.specs.exchanges.Finishing.{closed_by, closed_unless, finished_at, is_idle_then, marked_as}
use Rattle.event_handlers.specs.exchanges.Giving.{closed_at, IsGivenUp, IsAbandoned}
use Rattle.event_handlers.specs.exchanges.Taking.{answered_with, left_of, AreTaken, IsEndTaken}
use Rattle.event_handlers.proofs.MidSteps.{IsStill}
use Rattle.event_handlers.proofs.exchanges.Closes.{filled_none_cut, abandoned_none_cut, abandoned_numbered, given_up_none_cut, given_up_numbered}
use Rattle.event_handlers.proofs.exchanges.Done.{answered_none, closed_none_done, finished_none, abandoned_none_but, given_none_but}
use Rattle.event_handlers.proofs.exchanges.Finishes.{found_then}

module _ (old new : View) (still : IsStill old) (k : ℕ) where
  -- an idle connection is closed, or is as it was
  pub closed_still : new ≡ closed_at k old → IsStill new
  closed_still is = subst IsStill (sym is) (record { none_cut = still.none_cut; none_done = closed_none_done k old still.none_done; numbered = still.numbered })

  pub closed_by_still : (octets : List ℕ) → new ≡ closed_by octets k old → IsStill new
  closed_by_still [] is = subst IsStill (sym is) still
  closed_by_still (octet ∷ octets) is = closed_still is

  -- octets, or the end, were taken and aren't judged yet
  answered_still : (answer : Answer) (offers : theory_responses.State) → NoneCut offers → new ≡ answered_with k answer offers old → IsStill new
  answered_still answer offers none_cut is = record {
    none_cut = subst (λ (v : View). NoneCut v.offers) (sym is) none_cut;
    none_done = answered_none old new k answer offers is still.none_done;
    numbered = subst AreNumbered (sym is) still.numbered;
  }

  pub taken_still : (octets : List ℕ) (h : Told) → AreTaken old k octets h new → IsStill new
  taken_still octets h taken =
      let x = taken.hears in
      answered_still (left_of h taken.answer) taken.offers (subst (λ (o : theory_responses.State). NoneCut o) (sym x.is) (filled_none_cut taken.connection.live.stream x.box old.offers x.stream x.found still.none_cut)) taken.is

  pub end_still : (e : AnswerEnd) → IsEndTaken old k e new → IsStill new
  end_still e taken =
      let x = taken.ends in
      answered_still (fresh false Streaming) taken.offers (subst (λ (o : theory_responses.State). NoneCut o) (sym x.is) (filled_none_cut taken.connection.live.stream x.box old.offers x.stream x.found still.none_cut)) taken.is

-- the response is whole with them
finished_still : (middle new : View) → IsStill middle → (most k : ℕ) (w : Heard) (c : Connection) → find number_of k middle.upstreams.live ≡ Some c → new ≡ finished_at most k w middle → IsStill new
finished_still middle new still most k w c found is = subst IsStill (sym is) (by (is_idle_then most k w middle) refl)
  where
    by : (b : Bool) → is_idle_then most k w middle ≡ b → IsStill (closed_unless (is_idle_then most k w middle) k (marked_as most k w middle))
    by b same = subst (λ x. IsStill (closed_unless x k (marked_as most k w middle))) (sym same) (each b (subst (λ x. NoneDone (closed_unless x k (marked_as most k w middle))) same (finished_none most k w middle c found still.none_done)))
      where
        each : (x : Bool) → NoneDone (closed_unless x k (marked_as most k w middle)) → IsStill (closed_unless x k (marked_as most k w middle))
        each true none = record { none_cut = still.none_cut; none_done = none; numbered = still.numbered }
        each false none = record { none_cut = still.none_cut; none_done = none; numbered = still.numbered }

pub taken_finished_still : (old middle new : View) → IsStill old → (most k : ℕ) (octets : List ℕ) (h : Told) (w : Heard) → AreTaken old k octets h middle → new ≡ finished_at most k w middle → IsStill new
taken_finished_still old middle new still most k octets h w taken is =
    finished_still middle new (taken_still old middle still k octets h taken) most k w (answer_at k (left_of h taken.answer) taken.connection)
    (found_then old middle k (left_of h taken.answer) taken.offers taken.connection taken.found taken.is) is

pub end_finished_still : (old middle new : View) → IsStill old → (k : ℕ) → IsEndTaken old k ended.Complete middle → new ≡ finished_at 0 k Finished middle → IsStill new
end_finished_still old middle new still k taken is =
    finished_still middle new (end_still old middle still k ended.Complete taken) 0 k Finished (answer_at k (fresh false Streaming) taken.connection)
    (found_then old middle k (fresh false Streaming) taken.offers taken.connection taken.found taken.is) is

-- ---- the stream is given up

pub abandoned_mid : (k stream : ℕ) (old new : View) (outputs put_out : List Output) (back : ℕ) → IsStill old → IsAbandoned k stream old outputs back new put_out → IsMidStep stream new
abandoned_mid k stream old new outputs put_out back still given = record {
  none_cut = abandoned_none_cut k stream old new outputs put_out back still.none_cut given;
  none_but = abandoned_none_but k stream old new outputs put_out back still.none_done given;
  numbered = abandoned_numbered k stream old new outputs put_out back still.numbered given;
}

pub given_mid : (stream : ℕ) (old new : View) (outputs put_out : List Output) (back : Option ℕ) → IsStill old → IsGivenUp stream old outputs back new put_out → IsMidStep stream new
given_mid stream old new outputs put_out back still given = record {
  none_cut = given_up_none_cut stream old new outputs put_out back still.none_cut given;
  none_but = given_none_but stream old new outputs put_out back still.none_done given;
  numbered = given_up_numbered stream old new outputs put_out back still.numbered given;
}
