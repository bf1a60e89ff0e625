-- The clauses of the headline hold behind the run in which a response is heard in parts, and behind each of them, by the law.
use Rattle.std.proofs.Common.{None, ◌≡◌, ◌+◌, ◌++◌, false, true, [], ◌∷◌, length, length-append, Some, refl, sym, ◌∙◌, ap, subst, append_assoc, inl, inr, arith, List, ℕ}
use Rattle.std.specs.Prelude.{codes}
use Rattle.std.proofs.lemmas.List.{append_cancel_right}
use Rattle.model.specs.Tables.{total_size}
use Rattle.model.specs.Octets.{Joined}
use Rattle.model.specs.ResponseHeads.{Head, Framing, Interim, Final}
use Rattle.model.specs.ResponseHeads.Framing.{Chunks, Sized}
use Rattle.model.specs.Responses.{HasBody, IsComplete}
use Rattle.model.specs.Noticing.{IsBadHead, IsPlainlyBad}
use Rattle.model.specs.Deliveries.{Delivery, nothing}
use Rattle.model.specs.Available.{heard_by, ended_by, IsIn, IsShown}
use Rattle.model.specs.Courses.{items}
use Rattle.model.specs.Offers.{is_to_head}
use Rattle.model.specs.Logs.{Event}
use Rattle.model.specs.Logs.Event.{Up}
use Rattle.model.specs.Openings.{Opened}
use Rattle.model.specs.Setup.Passing.{Whole, Streaming}
use Rattle.model.specs.Tapes.{Entry}
use Rattle.model.specs.Tapes.Entry.{Happened}
use Rattle.model.specs.Known.{Known}
use Rattle.model.specs.Failures.{MustFail}
use Rattle.model.specs.Idle.{IsTooLong}
use Rattle.model.specs.Headline.{ClausesHold, HoldsInTurn}
use Rattle.model.proofs.AnswerTexts as texts
use Rattle.model.proofs.HeadLaws.{nothing_shown}
use Rattle.model.proofs.OfferLaws.{one_shown}
use Rattle.model.proofs.ResponseHeadReadings.{one_spelled, spelled_reads, none_at_final, one_front}
use Rattle.theory_responses.specs.Outbox.{with_news}
use Rattle.theory_responses.specs.Shown.{Tells}
use Rattle.theory_requests.specs.Lines.Heard.{Partly, Finished}
use Rattle.theory.specs.State.{tape_of}
use Rattle.theory.specs.Answered.{IsHeardBy, IsAnswered}
use Rattle.theory.proofs.Keeping.{IsKnown, clauses, in_turn}
use Rattle.theory_runs.proofs.Body.{first_given}
use Rattle.theory_runs.proofs.Streaming.{streaming, waits}
use Rattle.theory_runs.proofs.BothWays.{begin_text, begin_news, end_news, begin_decision, end_decision, ended, all_back, all_back_leads, all_back_rests}

-- no answer failed
abbrev pub known : Known
known = record { setup = streaming; failures = [] }

-- ---- the head, and what stands behind it

-- the head is that of the whole answer
final : Final false texts.answer_head texts.head (Sized 2)
final =
    let a = texts.answered in
    let same = texts.one_framing a.front a.head_text a.rest [] texts.head a.framing a.are_interims a.is_final a.is in
    let whole : texts.answer_head ++ codes "hi" ≡ a.head_text ++ codes "hi" = a.is ∙ ap (λ (x : List ℕ). x ++ a.head_text ++ a.rest) a.are_interims ∙ ap (λ (x : List ℕ). a.head_text ++ x) same.1 in
    subst (λ (x : List ℕ). Final false x texts.head (Sized 2)) (sym (append_cancel_right texts.answer_head a.head_text (codes "hi") whole))
    (subst (λ (f : Framing). Final false a.head_text texts.head f) same.0 a.is_final)

-- no interim head stands before it
no_front : (front more rest : List ℕ) (heads : List Head) → Joined Interim front heads → texts.answer_head ++ rest ≡ front ++ more → front ≡ []
no_front front more rest [] j e = j
no_front front more rest (k ∷ heads) j e =
    absurd (none_at_final false texts.answer_head rest texts.head (Sized 2) final j.0 (j.1 ++ more) k j.2 (e ∙ ap (λ (x : List ℕ). x ++ more) j.3 ∙ append_assoc j.0 j.1 more))

bad_head : (rest : List ℕ) (count : ℕ) → IsBadHead false count (texts.answer_head ++ rest) → ⊥
bad_head rest count (inl never) = never [] final.spelled (rest ++ []) (spelled_reads texts.answer_head (rest ++ []) final.spelled final.taken.reads)
bad_head rest count (inr (inl none)) = none.0 final.spelled rest (spelled_reads texts.answer_head rest final.spelled final.taken.reads)
bad_head rest count (inr (inr bad)) =
    let same = one_spelled texts.answer_head bad.0 rest bad.1 final.spelled bad.3.spelled final.taken.reads bad.3.reads bad.2 in
    bad.3.no_final texts.head (Sized 2) (subst (λ (x : List ℕ). Final false x texts.head (Sized 2)) same.0 final)

-- whatever stands behind it, it isn't plainly bad
not_plain : (rest : List ℕ) → IsPlainlyBad (texts.answer_head ++ rest) false → ⊥
not_plain rest (inl b) =
    let none = no_front b.front b.rest rest b.interims b.are_interims b.is in
    bad_head rest (length b.interims) (subst (λ (x : List ℕ). IsBadHead false (length b.interims) x) (sym (b.is ∙ ap (λ (x : List ℕ). x ++ b.rest) none)) b.is_bad)
not_plain rest (inr b) =
    let fronts = one_front false [] b.front texts.answer_head b.head_text rest (b.chunks_text ++ b.rest) [] b.interims texts.head b.head (Sized 2) (Chunks b.named) refl b.are_interims final b.is_final (b.is ∙ append_assoc (b.front ++ b.head_text) b.chunks_text b.rest) in
    let clash : Sized 2 ≡ Chunks b.named = fronts.final.framing in cc

-- one octet behind it is no whole response
not_whole : IsComplete begin_text false false → ⊥
not_whole c =
    let r = c.1 in
    let fronts = one_front false [] r.front texts.answer_head r.head_text (codes "h") r.rest [] c.0.interims texts.head c.0.head (Sized 2) r.framing refl r.are_interims final r.is_final r.is in
    let sized : HasBody (Sized 2) false r.rest c.0.body c.0.trailers = subst (λ (f : Framing). HasBody f false r.rest c.0.body c.0.trailers) (sym fronts.final.framing) r.body in
    let short : 1 ≡ length c.0.body + length sized.0.past = ap length (fronts.final.rest ∙ sized.0.is) ∙ length-append c.0.body sized.0.past in
    omega (arith, short, sized.0.has_count)

-- ---- the news

-- what is on offer with the first part
abbrev begun : Delivery
begun = record { interims = []; head = Some texts.head; body = codes "h"; ends = None }

begun_shown : IsShown Streaming begin_text false false begun
begun_shown = inr (record {
  interims = [];
  head = Some texts.head;
  octets = codes "h";
  not_whole = not_whole;
  seen = record { front = []; head_text = texts.answer_head; rest = codes "h"; framing = Sized 2; is = refl; are_interims = refl; few_interims = omega arith; is_final = final; body = refl };
  says = refl;
})

begin_tells : Tells Streaming [] false begin_text false false begin_news
begin_tells = record {
  not_whole = λ d shown. ap (λ (x : Delivery). x.ends) (is_nothing d shown);
  none_late = λ d shown some. refl;
  shows = λ d shown. subst (λ (x : Delivery). IsShown Streaming begin_text false false (with_news x begin_news)) (sym (is_nothing d shown)) begun_shown;
}
  where
    is_nothing : (d : Delivery) → IsShown Streaming [] false false d → d ≡ nothing
    is_nothing d shown = one_shown Streaming [] false false d nothing shown (nothing_shown Streaming false)

end_tells : Tells Streaming begin_text false texts.answer false false end_news
end_tells = record {
  not_whole = λ d shown. ap (λ (x : Delivery). x.ends) (is_begun d shown);
  none_late = λ d shown some. refl;
  shows = λ d shown. inl (record { response = texts.response; is_whole = texts.answered; says = ap (λ (x : Delivery). with_news x end_news) (is_begun d shown) });
}
  where
    is_begun : (d : Delivery) → IsShown Streaming begin_text false false d → d ≡ begun
    is_begun d shown = one_shown Streaming begin_text false false d begun shown begun_shown

-- ---- what the decisions say is so

-- the one connection
the_first : (o : Opened) → IsIn o (first_given ∷ []) → o ≡ first_given
the_first o (inl same) = same
the_first o (inr none) = absurd none

-- these news are told of a connection
abbrev AreTold : List Entry → Event → Delivery → Opened → Type 0
AreTold t event told o = Tells Streaming (heard_by o t) (ended_by o t) (heard_by o (Happened event ∷ t)) (ended_by o (Happened event ∷ t)) (is_to_head (items known 1 t)) told

begin_told : (o : Opened) → IsIn o (first_given ∷ []) → AreTold (tape_of waits) (Up 1 begin_text) begin_news o
unfolding total_size
begin_told o there = subst (AreTold (tape_of waits) (Up 1 begin_text) begin_news) (sym (the_first o there)) begin_tells

end_told : (o : Opened) → IsIn o (first_given ∷ []) → AreTold (tape_of ended) (Up 1 (codes "i")) end_news o
unfolding total_size
end_told o there = subst (AreTold (tape_of ended) (Up 1 (codes "i")) end_news) (sym (the_first o there)) end_tells

-- the response isn't whole with the first part, and is with the second
begin_not_whole : IsHeardBy known (tape_of waits) (Up 1 begin_text) Partly
unfolding total_size
begin_not_whole whole = not_whole whole

end_whole : IsHeardBy known (tape_of ended) (Up 1 (codes "i")) Finished
unfolding total_size
end_whole = ((texts.response, texts.answered), λ kept. let clash : false ≡ true = kept.keeps in cc)

-- nothing is too long where responses are passed on as they come
never_long : (text : List ℕ) → IsTooLong known text false → ⊥
never_long text long = let clash : Streaming ≡ Whole = long.whole in cc

begin_not_failed : MustFail known (tape_of waits) (Up 1 begin_text) → ⊥
unfolding total_size
begin_not_failed (inl plain) = not_plain (codes "h") plain
begin_not_failed (inr long) = never_long begin_text long

end_not_failed : MustFail known (tape_of ended) (Up 1 (codes "i")) → ⊥
unfolding total_size
end_not_failed (inl plain) = not_plain (codes "hi") plain
end_not_failed (inr long) = never_long texts.answer long

begin_so : IsAnswered known (tape_of waits) begin_decision
unfolding total_size
begin_so = (λ o given. begin_told o given.is_opened, begin_not_whole, begin_not_failed)

end_so : IsAnswered known (tape_of ended) end_decision
unfolding total_size
end_so = (λ o given. end_told o given.is_opened, end_whole, end_not_failed)

-- ---- so the clauses hold

all_known : IsKnown known all_back
all_known = record {
  knows = ((((((((((((((((((((tt, refl), refl), refl), refl), refl), refl), refl), refl), refl), refl), refl), refl), refl), refl), refl), refl), refl), refl), refl), refl);
  all = all_back_leads.allowed;
  answered = ((((((((((((((((((((tt, tt), tt), tt), tt), tt), tt), tt), tt), begin_so), tt), tt), λ none. none), tt), tt), tt), tt), end_so), tt), tt), tt);
}

-- behind a request and a response that were passed on as they came
pub all_back_holds : ClausesHold known (tape_of all_back)
all_back_holds = clauses known all_back all_known all_back_rests

-- and before each thing that came in
pub all_back_in_turn : HoldsInTurn (ClausesHold known) (tape_of all_back)
all_back_in_turn = in_turn known all_back all_known
