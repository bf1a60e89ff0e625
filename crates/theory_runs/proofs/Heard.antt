-- The clauses of the headline hold behind the run in which a response is heard, by the law: what is told of the answer is so.
use Rattle.std.proofs.Common.{◌≡◌, ◌<◌, ◌≤◌, false, true, [], ◌∷◌, length, take, Option, Some, None, refl, sym, ap, subst, inl, inr, arith, List, ℕ}
use Rattle.model.specs.Tables.{total_size}
use Rattle.model.specs.ResponseHeads.{Head}
use Rattle.model.specs.Responses.{Seen, StandsIn}
use Rattle.model.specs.Deliveries.{Delivery, nothing}
use Rattle.model.specs.Available.{heard_by, ended_by, IsIn, IsShown}
use Rattle.model.specs.Courses.{items}
use Rattle.model.specs.Offers.{is_to_head}
use Rattle.model.specs.Logs.Event.{Up}
use Rattle.model.specs.Openings.{Opened, exchanges}
use Rattle.model.specs.Setup.Passing.{Whole}
use Rattle.model.specs.Tapes.Entry.{Happened}
use Rattle.model.specs.Failures.{MustFail}
use Rattle.model.specs.Idle.{IsTooLong}
use Rattle.model.specs.Headline.{ClausesHold, HoldsInTurn}
use Rattle.model.proofs.AnswerTexts as texts
use Rattle.model.proofs.HeadLaws.{nothing_shown}
use Rattle.model.proofs.OfferLaws.{one_shown}
use Rattle.theory_responses.specs.Outbox.{with_news}
use Rattle.theory_responses.specs.Shown.{Tells}
use Rattle.theory_requests.specs.Lines.Heard.{Finished}
use Rattle.theory.specs.State.{tape_of}
use Rattle.theory.specs.Answered.{IsHeardBy, IsAnswered}
use Rattle.theory.proofs.Keeping.{IsKnown, clauses, in_turn}
use Rattle.theory_runs.proofs.Request.{forwarded}
use Rattle.theory_runs.proofs.Answer.{answer_text, news, heard_decision, answered, answered_leads, answered_rests}
use Rattle.theory_runs.proofs.Hold.{known}

-- ---- the news

-- of no octets nothing is on offer
shown_nothing : (d : Delivery) → IsShown Whole [] false false d → d ≡ nothing
shown_nothing d shown = one_shown Whole [] false false d nothing shown (nothing_shown Whole false)

-- all of the answer is told
tells : Tells Whole [] false answer_text false false news
tells = record {
  not_whole = λ d shown. ap (λ (x : Delivery). x.ends) (shown_nothing d shown);
  none_late = λ d shown some. refl;
  shows = λ d shown. inl (record { response = texts.response; is_whole = texts.answered; says = ap (λ (x : Delivery). with_news x news) (shown_nothing d shown) });
}

-- ---- what the decision says is so

told_so : (o : Opened) → IsIn o (exchanges (tape_of forwarded))
    → Tells Whole (heard_by o (tape_of forwarded)) (ended_by o (tape_of forwarded)) (heard_by o (Happened (Up 1 answer_text) ∷ tape_of forwarded)) (ended_by o (Happened (Up 1 answer_text) ∷ tape_of forwarded)) (is_to_head (items known 1 (tape_of forwarded))) news
unfolding total_size
told_so o (inl same) =
    subst (λ (p : Opened). Tells Whole (heard_by p (tape_of forwarded)) (ended_by p (tape_of forwarded)) (heard_by p (Happened (Up 1 answer_text) ∷ tape_of forwarded)) (ended_by p (Happened (Up 1 answer_text) ∷ tape_of forwarded)) (is_to_head (items known 1 (tape_of forwarded))) news) (sym same) tells
told_so o (inr none) = absurd none

-- the response is whole, and no connection is kept
whole_so : IsHeardBy known (tape_of forwarded) (Up 1 answer_text) Finished
unfolding total_size
whole_so = ((texts.response, texts.answered), λ kept. let clash : false ≡ true = kept.keeps in cc)

-- its body is no longer than may be kept
not_long : IsTooLong known answer_text false → ⊥
not_long long = at long.head long.seen
  where
    at : (found : Option Head) → Seen answer_text false long.interims found long.octets → ⊥
    at None seen = let none : 1048576 < 0 = subst (λ (x : List ℕ). 1048576 < length x) seen.1 long.over in omega (arith, none)
    at (Some h) seen =
        let same = texts.one_framing seen.front seen.head_text seen.rest long.interims h seen.framing seen.are_interims seen.is_final seen.is in
        let two : long.octets ≡ take 2 seen.rest = subst (λ f. StandsIn f seen.rest long.octets) same.0 seen.body in
        let few : length (take 2 seen.rest) ≤ 2 = subst (λ (x : List ℕ). length (take 2 x) ≤ 2) (sym same.1) (omega arith) in
        let over : 1048576 < length (take 2 seen.rest) = subst (λ (x : List ℕ). 1048576 < length x) two long.over in
        omega (arith, few, over)

-- so it isn't given up
not_failed : MustFail known (tape_of forwarded) (Up 1 answer_text) → ⊥
unfolding total_size
not_failed (inl plain) = texts.not_plain plain
not_failed (inr long) = not_long long

heard_so : IsAnswered known (tape_of forwarded) heard_decision
unfolding total_size
heard_so = (λ o given. told_so o given.is_opened, whole_so, not_failed)

-- ---- so the clauses hold

answered_known : IsKnown known answered
answered_known = record {
  knows = ((((((((((tt, refl), refl), refl), refl), refl), refl), refl), refl), refl), refl);
  all = answered_leads.allowed;
  answered = ((((((((((tt, tt), tt), tt), tt), tt), tt), heard_so), tt), tt), tt);
}

-- behind a response that was passed on
pub answered_holds : ClausesHold known (tape_of answered)
answered_holds = clauses known answered answered_known answered_rests

-- and before each thing that came in
pub answered_in_turn : HoldsInTurn (ClausesHold known) (tape_of answered)
answered_in_turn = in_turn known answered answered_known
