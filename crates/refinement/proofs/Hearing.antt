-- What an answer makes of an upstream's octets, and of the end of its connection, is so: the news, whether the response is whole and leaves the
-- connection to be kept, whether it failed.
use Rattle.std.proofs.Common.{◌≡◌, ℕ, ◌<◌, ◌≤◌, ◌⊎◌, Bool, true, false, ◌&&◌, ◌==◌, ◌||◌, if◌then◌else◌, List, [], ◌∷◌, ◌++◌, append-nil, length, Some, refl, sym, ◌∙◌, ap, subst, inl, inr}
use Rattle.std.proofs.lemmas.Bool.{eq-eqb}
use Rattle.std.proofs.lemmas.List.Folds.{list_any-append}
use Rattle.model.specs.Messages.{Item}
use Rattle.model.specs.Logs.{Event}
use Rattle.model.specs.Logs.Event.{Up, UpEnd, UpFailed}
use Rattle.model.specs.Limits.{longest_section}
use Rattle.model.specs.Setup.{Passing, own_window}
use Rattle.model.specs.Setup.Passing.{Whole}
use Rattle.model.specs.Tapes.{Entry}
use Rattle.model.specs.Tapes.Entry.{Happened}
use Rattle.model.specs.Openings.{Opened, exchanges, exchange_on, given, AreApart}
use Rattle.model.specs.Available.{heard_by, ended_by, IsIn}
use Rattle.model.specs.Known.{Known}
use Rattle.model.specs.Courses.{course, carried, items, interrupts, new_cause}
use Rattle.model.specs.ErrorTable.{fault_with}
use Rattle.model.specs.Responses.{IsComplete}
use Rattle.model.specs.Failures.{IsJudged}
use Rattle.model.specs.Idle.{is_asked_for_head, IsAllHeard, LeavesOpen, MayBeKept}
use Rattle.model.specs.Idle as idle
use Rattle.model.specs.Offers.{is_to_head, IsGiven}
use Rattle.model.proofs.DeliveryReadings.{one_connection}
use Rattle.model.proofs.PastLaws.{heard_own}
use Rattle.h1_reader.specs.HeadSizes.{field_octets}
use Rattle.h1_reader.specs.Parts.{Part}
use Rattle.h1_reader.specs.Standing.{Stands, Hears, Breaks, IsEnd, is_end, is_done}
use Rattle.h1_reader.specs.Keeps.{Knows, Learns}
use Rattle.h1_reader.specs.declared.reader.Ended.TheVariants.{Complete, Short}
use Rattle.h1_reader.proofs.Telling.{done, not_done}
use Rattle.theory_responses.specs.Shown.{Tells}
use Rattle.theory_responses.specs.Rule as offers
use Rattle.theory_responses.specs.State.Move.{Hears as Brings}
use Rattle.upstream_response.specs.Telling.{body_of, news_of, news_at_end}
use Rattle.upstream_response.proofs.Reading.{hears_news}
use Rattle.upstream_response.proofs.Ending.{ends_news}
use Rattle.upstream_response.proofs.Judging as judging
use Rattle.upstream_response.specs.Waiting.{Answer, passing_in, limit_in, Waits}
use Rattle.upstream_response.specs.Hearing.{IsTooLong, LeavesOpenWith, NeverOpenWith}
use Rattle.upstream_response.specs.declared.answer.ResponsePassing.{ResponsePassing as Way}
use Rattle.upstream_response.specs.declared.answer.ResponsePassing.TheVariants as way
use Rattle.theory_requests.specs.Lines.Heard.{Partly, Finished}
use Rattle.theory.specs.Answered.{IsHeardBy, LeavesIdle}
use Rattle.theory.proofs.Verdicts.{at_end}
use Rattle.refinement.specs.Hearing.{IsHeard}

-- an event leaves the items of a stream
same_or_more : (b : Bool) (xs : List Item) → (if b then xs else xs ++ []) ≡ xs
same_or_more true xs = refl
same_or_more false xs = append-nil xs

pub items_behind_event : (known : Known) (t : List Entry) (event : Event) (stream : ℕ) → items known stream (Happened event ∷ t) ≡ items known stream t
items_behind_event known t event stream =
    let before = course known stream t in
    let found = fault_with (own_window known.setup) (carried before) t (Happened event) in
    same_or_more (before.over || interrupts stream (Happened event) found (new_cause known stream t (Happened event) before found)) before.items

-- the end of a connection ends its newest exchange
ended_own : (k : ℕ) (t : List Entry) → ended_by (exchange_on k t) (Happened (UpEnd k) ∷ t) ≡ true
ended_own k t =
    let s = given k (exchanges t) in
    let before = ended_by (exchange_on k t) t in
    ap (λ b. if b && s == s then true else before) (eq-eqb k k refl) ∙ ap (λ b. if b then true else before) (eq-eqb s s refl)

done_behind : (parts added : List Part) → is_done parts ≡ false → is_done (parts ++ added) ≡ is_done added
done_behind parts added none = list_any-append is_end parts added ∙ ap (λ b. b || is_done added) none

-- an event asks for nothing
asked_behind : (known : Known) (t : List Entry) (o : Opened) (event : Event) → is_asked_for_head known o (Happened event ∷ t) ≡ is_asked_for_head known o t
asked_behind known t o event = ap is_to_head (items_behind_event known t event o.stream)

module _ (known : Known) (t : List Entry) (k stream : ℕ) (answer : Answer) (there : IsIn (exchange_on k t) (exchanges t)) (of_stream : given k (exchanges t) ≡ stream) (apart : AreApart (exchanges t)) (heard_so : IsHeard known t k answer) (open_yet : ended_by (exchange_on k t) t ≡ false) where
  abbrev passing : Passing
  passing = known.setup.passing

  -- the newest exchange of the connection
  abbrev own : Opened
  own = exchange_on k t

  -- the only one of its stream
  only : (p : Opened) → IsGiven t stream p → own ≡ p
  only p g = one_connection (exchanges t) own p apart there g.is_opened (of_stream ∙ sym g.is_given)

  -- what is so of the connection's text behind an event, and of whether its stream asks for a head, is so of what the reader was fed
  back : (P : List ℕ → Bool → Bool → Type 0) (event : Event) (text : List ℕ) (ended : Bool) → heard_by own (Happened event ∷ t) ≡ text → ended_by own (Happened event ∷ t) ≡ ended → P text ended answer.reader.to_head → P (heard_by own (Happened event ∷ t)) (ended_by own (Happened event ∷ t)) (is_asked_for_head known own (Happened event ∷ t))
  back P event text ended same_text same_end is =
      subst (λ h. P (heard_by own (Happened event ∷ t)) (ended_by own (Happened event ∷ t)) h) (heard_so.asked ∙ sym (asked_behind known t own event))
      (subst (λ b. P (heard_by own (Happened event ∷ t)) b answer.reader.to_head) (sym same_end)
      (subst (λ x. P x ended answer.reader.to_head) (sym same_text) is))

  -- the request asks for a head alone or doesn't
  to_head : answer.reader.to_head ≡ is_to_head (items known stream t)
  to_head = heard_so.asked ∙ ap (λ n. is_to_head (items known n t)) of_stream

  module _ (octets : List ℕ) (added : List Part) (new : Answer) (hears : Hears answer.reader octets added new.reader) where
    abbrev behind : List Entry
    behind = Happened (Up k octets) ∷ t

    -- the news
    pub octets_told : offers.IsTold known t (Brings (Up k octets) stream (news_of passing heard_so.parts added))
    octets_told p g =
        let tells : Tells passing (heard_by own t) false (heard_by own t ++ octets) false answer.reader.to_head (news_of passing heard_so.parts added) = hears_news passing (heard_by own t) octets heard_so.parts added answer.reader new.reader heard_so.stands hears heard_so.goes_on in
        let here : Tells passing (heard_by own t) (ended_by own t) (heard_by own behind) (ended_by own behind) (is_to_head (items known stream t)) (news_of passing heard_so.parts added) =
        subst (λ h. Tells passing (heard_by own t) (ended_by own t) (heard_by own behind) (ended_by own behind) h (news_of passing heard_so.parts added)) to_head
        (subst (λ e. Tells passing (heard_by own t) e (heard_by own behind) e answer.reader.to_head (news_of passing heard_so.parts added)) (sym open_yet)
        (subst (λ x. Tells passing (heard_by own t) false x false answer.reader.to_head (news_of passing heard_so.parts added)) (sym (heard_own k octets t)) tells)) in
        subst (λ (x : Opened). Tells passing (heard_by x t) (ended_by x t) (heard_by x behind) (ended_by x behind) (is_to_head (items known stream t)) (news_of passing heard_so.parts added)) (only p g) here

    -- where the reader stands then
    stands_now : Stands (heard_by own behind) (heard_so.parts ++ added) new.reader
    stands_now = subst (λ x. Stands x (heard_so.parts ++ added) new.reader) (sym (heard_own k octets t)) (hears.stands (heard_by own t) heard_so.parts heard_so.stands)

    -- the response is whole
    pub octets_whole : is_done added ≡ true → IsAllHeard known behind own
    octets_whole is =
        back (λ x b h. IsComplete x b h) (Up k octets) (heard_by own behind) false refl open_yet
        (subst (IsComplete (heard_by own behind) false) hears.same (done (heard_by own behind) (heard_so.parts ++ added) new.reader stands_now (done_behind heard_so.parts added heard_so.goes_on ∙ is)))

    -- or isn't
    pub octets_partly : is_done added ≡ false → IsHeardBy known t (Up k octets) Partly
    octets_partly is =
        back (λ x b h. IsComplete x b h → ⊥) (Up k octets) (heard_by own behind) false refl open_yet
        (subst (λ h. IsComplete (heard_by own behind) false h → ⊥) hears.same (not_done (heard_by own behind) (heard_so.parts ++ added) new.reader stands_now (done_behind heard_so.parts added heard_so.goes_on ∙ is)))

    -- the answer doesn't fail where its body isn't too long, and does where it is
    pub octets_judged : (passing ≡ Whole → length (body_of (heard_so.parts ++ added)) ≤ known.setup.max_response) → IsJudged known t (Up k octets) false
    octets_judged fits = judging.goes_on known t k octets heard_so.parts added answer.reader new.reader heard_so.asked heard_so.stands hears fits

    -- what is kept then stands for all that was heard
    pub octets_heard : Learns answer.reader octets new.reader → length new.reader.held.octets ≤ longest_section → field_octets new.reader.held.connections ≤ longest_section → is_done added ≡ false → new.way ≡ answer.way → Waits (passing_in new.way) (heard_so.parts ++ added) new → IsHeard known behind k new
    octets_heard learns short named goes_on same waits = record {
      parts = heard_so.parts ++ added;
      stands = stands_now;
      knows = subst (λ x. Knows x new.reader) (sym (heard_own k octets t)) (learns (heard_by own t) heard_so.parts heard_so.stands heard_so.knows);
      short = short;
      few_named = named;
      goes_on = done_behind heard_so.parts added heard_so.goes_on ∙ goes_on;
      waits = waits;
      asked = hears.same ∙ heard_so.asked ∙ ap is_to_head (sym (items_behind_event known t (Up k octets) (given k (exchanges t))));
      set_up = record { passing = ap passing_in same ∙ heard_so.set_up.passing; limit = λ whole. ap limit_in same ∙ heard_so.set_up.limit whole };
    }

  -- octets with which the response leaves its connection open, where connections are kept and the answer doesn't fail
  pub octets_left : (octets : List ℕ) → LeavesOpenWith answer octets → known.setup.keep ≡ true → IsJudged known t (Up k octets) false → LeavesIdle known t k octets
  octets_left octets leaves keeps judged = record {
    keeps = keeps;
    answered = subst (LeavesOpen (heard_by own t ++ octets)) heard_so.asked (leaves (heard_by own t) heard_so.parts heard_so.stands heard_so.knows heard_so.goes_on);
    fits = λ long. judged (inr (subst (λ x. idle.IsTooLong known x (is_asked_for_head known own t)) (sym (heard_own k octets t)) long));
  }

  -- and with which it doesn't
  pub octets_never : (octets : List ℕ) → NeverOpenWith answer octets → LeavesIdle known t k octets → ⊥
  octets_never octets never leaves = never (heard_by own t) heard_so.parts heard_so.stands heard_so.knows (subst (LeavesOpen (heard_by own t ++ octets)) (sym heard_so.asked) leaves.answered)

  -- octets with which the answer fails
  pub octets_failed : (octets : List ℕ) → Breaks answer.reader octets ⊎ IsTooLong answer octets → IsJudged known t (Up k octets) true
  octets_failed octets (inl breaks) = judging.breaks known t k octets heard_so.parts answer.reader heard_so.asked heard_so.stands breaks
  octets_failed octets (inr long) =
      judging.too_long known t k octets heard_so.parts long.added answer.reader long.new heard_so.asked heard_so.stands long.hears (sym heard_so.set_up.passing ∙ whole_is answer.way long.limit)
      (subst (λ n. n < length (body_of (heard_so.parts ++ long.added))) (most (heard_so.set_up.limit (sym heard_so.set_up.passing ∙ whole_is answer.way long.limit))) (long.long heard_so.parts heard_so.waits))
    where
      whole_is : (way : Way) → limit_in way ≡ Some long.most → passing_in way ≡ Whole
      whole_is (way.Whole n) is = refl
      whole_is way.Streaming is = cc

      most : limit_in answer.way ≡ Some known.setup.max_response → long.most ≡ known.setup.max_response
      most is = let same : Some long.most ≡ Some known.setup.max_response = sym long.limit ∙ is in cc

  -- Where they break it the response isn't whole.
  pub broken_partly : (octets : List ℕ) → Breaks answer.reader octets → IsHeardBy known t (Up k octets) Partly
  broken_partly octets breaks =
      back (λ x b h. IsComplete x b h → ⊥) (Up k octets) (heard_by own t ++ octets) false (heard_own k octets t) open_yet
      (λ complete. breaks (heard_by own t) heard_so.parts heard_so.stands [] false (subst (λ x. IsComplete x false answer.reader.to_head) (sym (append-nil (heard_by own t ++ octets))) complete))

  -- Where its body is too long with them it may be whole, and the connection can't be kept behind it.
  pub long_finished : (octets : List ℕ) (long : IsTooLong answer octets) → is_done long.added ≡ true → IsHeardBy known t (Up k octets) Finished
  long_finished octets long is = (whole, never (octets_failed octets (inr long)))
    where
      then_tape : List Entry
      then_tape = Happened (Up k octets) ∷ t

      whole : IsAllHeard known then_tape own
      whole = octets_whole octets long.added (record answer { reader = long.new }) long.hears is

      never : IsJudged known t (Up k octets) true → MayBeKept known then_tape own → ⊥
      never (inl spoilt) kept =
          spoilt [] (ended_by own then_tape)
          (subst (λ x. IsComplete x (ended_by own then_tape) (is_asked_for_head known own t)) (sym (append-nil (heard_by own then_tape)))
          (subst (IsComplete (heard_by own then_tape) (ended_by own then_tape)) (asked_behind known t own (Up k octets)) whole))
      never (inr too_long) kept = kept.fits (subst (idle.IsTooLong known (heard_by own then_tape)) (sym (asked_behind known t own (Up k octets))) too_long)

  -- What was heard before the connection fails is no whole response.
  pub gone_partly : IsHeardBy known t (UpFailed k) Partly
  gone_partly =
      back (λ x b h. IsComplete x b h → ⊥) (UpFailed k) (heard_by own t) false refl open_yet
      (not_done (heard_by own t) heard_so.parts answer.reader heard_so.stands heard_so.goes_on)

  -- ---- the end of the connection

  abbrev ended : List Entry
  ended = Happened (UpEnd k) ∷ t

  ends_now : ended_by own ended ≡ true
  ends_now = ended_own k t

  -- the news where the response is whole with it
  pub end_told : IsEnd Complete answer.reader → offers.IsTold known t (Brings (UpEnd k) stream (news_at_end passing heard_so.parts))
  end_told whole p g =
      let tells : Tells passing (heard_by own t) false (heard_by own t) true answer.reader.to_head (news_at_end passing heard_so.parts) = ends_news passing (heard_by own t) heard_so.parts answer.reader heard_so.stands heard_so.goes_on (whole (heard_by own t) heard_so.parts heard_so.stands) in
      let here : Tells passing (heard_by own t) (ended_by own t) (heard_by own ended) (ended_by own ended) (is_to_head (items known stream t)) (news_at_end passing heard_so.parts) =
      subst (λ h. Tells passing (heard_by own t) (ended_by own t) (heard_by own ended) (ended_by own ended) h (news_at_end passing heard_so.parts)) to_head
      (subst (λ e. Tells passing (heard_by own t) e (heard_by own t) (ended_by own ended) answer.reader.to_head (news_at_end passing heard_so.parts)) (sym open_yet)
      (subst (λ e. Tells passing (heard_by own t) false (heard_by own t) e answer.reader.to_head (news_at_end passing heard_so.parts)) (sym ends_now) tells)) in
      subst (λ (x : Opened). Tells passing (heard_by x t) (ended_by x t) (heard_by x ended) (ended_by x ended) (is_to_head (items known stream t)) (news_at_end passing heard_so.parts)) (only p g) here

  -- its response is whole with it, and the connection can't be kept
  pub end_whole : IsEnd Complete answer.reader → IsHeardBy known t (UpEnd k) Finished
  end_whole whole = at_end known t k (back (λ x b h. IsComplete x b h) (UpEnd k) (heard_by own t) true refl ends_now (whole (heard_by own t) heard_so.parts heard_so.stands))

  pub end_judged : IsEnd Complete answer.reader → IsJudged known t (UpEnd k) false
  end_judged whole = judging.ends known t k heard_so.parts answer.reader heard_so.asked heard_so.stands whole

  -- and where it is cut short with it
  pub end_short : IsEnd Short answer.reader → IsHeardBy known t (UpEnd k) Partly × IsJudged known t (UpEnd k) true
  end_short short = (
    back (λ x b h. IsComplete x b h → ⊥) (UpEnd k) (heard_by own t) true refl ends_now (short (heard_by own t) heard_so.parts heard_so.stands),
    judging.ends_short known t k heard_so.parts answer.reader heard_so.asked heard_so.stands short,
  )
