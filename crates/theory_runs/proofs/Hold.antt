-- The clauses of the headline hold behind worked runs, by the law.
use Rattle.std.proofs.Common.{false, [], ◌∷◌, length, refl}
use Rattle.model.specs.Tables.{total_size}
use Rattle.model.specs.Logs.Event.{UpFailed}
use Rattle.model.specs.Known.{Known}
use Rattle.model.specs.Headline.{ClausesHold, HoldsInTurn}
use Rattle.model.proofs.OfferLemmas.{nothing_complete}
use Rattle.model.proofs.ExchangeLaws.{no_idle}
use Rattle.theory_requests.specs.Lines.Heard.{Partly}
use Rattle.theory.specs.State.{tape_of}
use Rattle.theory.specs.Answered.{IsHeardBy}
use Rattle.theory.proofs.Keeping.{IsKnown, clauses, in_turn}
use Rattle.theory_runs.proofs.Greeting.{setup}
use Rattle.theory_runs.proofs.Request.{forwarded, forwarded_allowed, forwarded_rests}
use Rattle.theory_runs.proofs.Failure.{replied_to, replied_leads, replied_rests}
use Rattle.theory_runs.proofs.Body.{cancelled, cancelled_leads, cancelled_rests}

-- no answer failed
abbrev pub known : Known
known = record { setup = setup; failures = [] }

-- a GET that went out
pub forwarded_holds : ClausesHold known (tape_of forwarded)
forwarded_holds = clauses known forwarded (record { knows = ((((((tt, refl), refl), refl), refl), refl), refl); all = forwarded_allowed; answered = ((((((tt, tt), tt), tt), tt), tt), tt) }) forwarded_rests

cancelled_known : IsKnown known cancelled
cancelled_known = record {
  knows = ((((((((((((((tt, refl), refl), refl), refl), refl), refl), refl), refl), refl), refl), refl), refl), refl), refl);
  all = cancelled_leads.allowed;
  answered = ((((((((((((((tt, tt), tt), tt), tt), tt), tt), tt), tt), tt), tt), tt), tt), tt), tt);
}

-- a request that was reset in the middle of its body
pub cancelled_holds : ClausesHold known (tape_of cancelled)
cancelled_holds = clauses known cancelled cancelled_known cancelled_rests

-- and before each thing that came in
pub cancelled_in_turn : HoldsInTurn (ClausesHold known) (tape_of cancelled)
cancelled_in_turn = in_turn known cancelled cancelled_known

-- ---- the same of the reply, where a failure is known

abbrev pub known_failed : Known
known_failed = record { setup = setup; failures = length (tape_of forwarded) ∷ [] }

-- nothing was heard of the connection that failed
none_whole : IsHeardBy known_failed (tape_of forwarded) (UpFailed 1) Partly
unfolding total_size
none_whole whole = nothing_complete false false whole

replied_known : IsKnown known_failed replied_to
replied_known = record {
  knows = ((((((((tt, refl), refl), refl), refl), refl), refl), refl), refl);
  all = replied_leads.allowed;
  answered = ((((((((tt, tt), tt), tt), tt), tt), tt), (none_whole, λ idle. no_idle known_failed _ 1 refl idle)), tt);
}

-- a GET that the gateway answers itself
pub replied_holds : ClausesHold known_failed (tape_of replied_to)
replied_holds = clauses known_failed replied_to replied_known replied_rests
