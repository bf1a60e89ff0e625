-- What comes of an upstream that works for a stream, in the words of the calls: its answer goes on, is whole, or fails.
use Rattle.std.proofs.Common.{◌≡◌, ℕ, ◌≤◌, Bool, true, false, ◌&&◌, List, ◌∷◌, ◌++◌, map, length, Option, Some, None, refl, sym, ◌∙◌, ap, subst, inl, inr, if◌then◌else◌}
use Rattle.std.specs.Prelude.{◌⊎◌, nat_le}
use Rattle.std.proofs.lemmas.Bool.{le-leb}
use Rattle.model.specs.Logs.{Output}
use Rattle.model.specs.Logs.Event.{Up, UpEnd, UpFailed}
use Rattle.model.specs.Setup.{Setup}
use Rattle.model.specs.Setup.Passing.{Whole as WholePassing}
use Rattle.model.specs.Openings.{exchanges, exchange_on, given, AreApart}
use Rattle.model.specs.Available.{heard_by, ended_by, IsIn}
use Rattle.model.specs.Failures.{IsJudged}
use Rattle.model.specs.Idle.{is_asked_for_head, IsAllHeard, IsIdle}
use Rattle.model.specs.Responses.{IsComplete}
use Rattle.model.specs.Tapes.Entry.{Happened}
use Rattle.model.specs.Known.{Known}
use Rattle.model.specs.Deliveries.{Delivery}
use Rattle.theory_errors.specs.Rule.{AreKnown}
use Rattle.theory_responses.specs.Outbox.{Outbox, grown}
use Rattle.theory_responses.specs.Rule as offers
use Rattle.theory_responses.specs.State as theory_responses
use Rattle.theory_responses.specs.State.{Kept}
use Rattle.theory_responses.specs.State.Move.{Hears as IsTelling}
use Rattle.theory_receive_windows.specs.Policy.{Gates, may_come}
use Rattle.theory_receive_windows.specs.State as theory_receive_windows
use Rattle.theory_requests.specs.Lines.{Heard, find, line_of, is_idle}
use Rattle.theory_requests.specs.Lines.Answer.{Pending}
use Rattle.theory_requests.specs.Lines.Heard.{Partly, Keepable, Finished}
use Rattle.theory_requests.specs.Pool.{Answers}
use Rattle.theory_requests.specs.State as theory_requests
use Rattle.theory_requests.specs.State.{Held, held_of}
use Rattle.h1_reader.specs.Standing.{Breaks, IsEnd, is_done}
use Rattle.h1_reader.specs.declared.reader.Ended.TheVariants as reader
use Rattle.upstream_response.specs.Telling.{news_of, news_at_end}
use Rattle.upstream_response.specs.Waiting.{Answer, passing_in, limit_in, Waits}
use Rattle.upstream_response.specs.declared.answer.ResponsePassing.{ResponsePassing as Way}
use Rattle.upstream_response.specs.declared.answer.ResponsePassing.TheVariants as way
use Rattle.upstream_response.specs.Hearing.{Tells, IsTooLong, LeavesOpenWith, NeverOpenWith}
use Rattle.send_queue.specs.Changes.{refilled}
use Rattle.upstream_connections.specs.Connections.{Connection, number_of, answer_at, heard_at, fresh}
use Rattle.theory.specs.Moves.{Move}
use Rattle.theory.specs.Moves.Decision.{Hears, Fails}
use Rattle.theory.specs.State.{State, conducts, tape_of}
use Rattle.theory.specs.Answered.{IsAnswered, IsHeardBy}
use Rattle.theory.specs.Coming.{IsReady}
use Rattle.refinement.specs.View.{View, balanced, Leads}
use Rattle.refinement.specs.Rest.{IsAtRest}
use Rattle.refinement.specs.Hearing.{IsHeard}
use Rattle.refinement.specs.Bringing.{Course}
use Rattle.refinement.proofs.Hearing as hearing
use Rattle.refinement.proofs.Sound as sound
use Rattle.refinement.proofs.Verdicts as verdicts
use Rattle.refinement.proofs.Where.{led_to}
use Rattle.event_handlers.specs.exchanges.Giving.{replied_to, closed_at}
use Rattle.event_handlers.proofs.exchanges.Coming as coming
use Rattle.event_handlers.proofs.exchanges.Hears as hears
use Rattle.event_handlers.proofs.exchanges.Fails as fails

-- octets of an open connection may come, as its end may
pub octets_come : (k : ℕ) (octets : List ℕ) → length octets ≤ 65536 → (gates : Gates) (rooms : theory_receive_windows.State) → gates.is_up k ≡ true → may_come gates rooms (Up k octets) ≡ true
octets_come k octets short gates rooms up = ap (λ b. b && nat_le (length octets) (if b then 65536 else 0)) up ∙ le-leb (length octets) 65536 short

-- a response of which no more than so many octets are passed on is passed on whole
limited_whole : (way : Way) (most : ℕ) → limit_in way ≡ Some most → passing_in way ≡ WholePassing
limited_whole (way.Whole limit) most is = refl
limited_whole way.Streaming most none = let no : ◌≡◌ {A = Option ℕ} None (Some most) = none in cc

-- ---- what was heard, where a response is whole

-- It is this, by whether connections are kept, by what is held of the request, and by what the octets leave of its connection.
abbrev pub IsVerdict : Bool → Option Held → Answer → List ℕ → Heard → Type 0
IsVerdict keep held old octets Partly = ⊥
IsVerdict keep held old octets Keepable = (keep ≡ true) × (held ≡ None) × LeavesOpenWith old octets
IsVerdict keep held old octets Finished = (keep ≡ false) ⊎ (((h : Held) × (held ≡ Some h)) ⊎ NeverOpenWith old octets)

module _ (setup : Setup) (kept : View) (rest : IsAtRest kept) (run : List Move) (s : State) (leads : Leads setup run kept balanced s) (k : ℕ) (c : Connection) (found : find number_of k kept.upstreams.live ≡ Some c) (working : is_idle c.live.answer ≡ false) (outputs : List Output) where
  abbrev base : IsHeard (coming.known_here setup kept rest run s leads k c found working) (tape_of run) k c.answer
  base = coming.heard_own setup kept rest run s leads k c found working

  abbrev same_parts : (known : Known) → known.setup ≡ setup → AreKnown known (conducts run) → IsHeard known (tape_of run) k c.answer
  same_parts = coming.heard_here setup kept rest run s leads k c found working

  there : IsIn (exchange_on k (tape_of run)) (exchanges (tape_of run))
  there = coming.there_here setup kept rest run s leads k c found working

  of_stream : given k (exchanges (tape_of run)) ≡ c.live.stream
  of_stream = coming.given_is_stream setup kept rest run s leads k c found working

  apart : AreApart (exchanges (tape_of run))
  apart = coming.apart_here setup kept rest run s leads k c found working

  open_yet : ended_by (exchange_on k (tape_of run)) (tape_of run) ≡ false
  open_yet = coming.not_ended setup kept rest run s leads k c found working

  ready : IsReady s
  ready = coming.ready setup kept rest run s leads k c found working

  open_here : line_of k s.requests.live ≡ Some c.live
  open_here = coming.open_here setup kept rest run s leads k c found working

  pending : c.live.answer ≡ Pending
  pending = coming.pending setup kept rest run s leads k c found working

  held_same : held_of c.live.stream s.requests.held ≡ held_of c.live.stream kept.upstreams.held
  held_same = ap (λ (r : theory_requests.State). held_of c.live.stream r.held) leads.keeps.requests

  -- ---- octets

  module _ (octets : List ℕ) (short : length octets ≤ 65536) where
    module _ (done : Bool) (new : Answer) (x : Kept) (box : Outbox) (there_is : theory_responses.find c.live.stream kept.offers.kept ≡ Some x) (tells : Tells c.answer octets x.box done new box) where
      abbrev news : Delivery
      news = news_of (passing_in c.answer.way) base.parts tells.added

      judged_so : (known : Known) → known.setup ≡ setup → AreKnown known (conducts run) → IsJudged known (tape_of run) (Up k octets) false
      judged_so known same knows =
          let it = same_parts known same knows in
          hearing.octets_judged known (tape_of run) k c.live.stream c.answer there of_stream apart it open_yet octets tells.added new tells.hears
          (λ is. tells.fits base.parts known.setup.max_response base.waits (it.set_up.limit is))

      told_so : (heard : Heard) → ((known : Known) → known.setup ≡ setup → AreKnown known (conducts run) → IsHeardBy known (tape_of run) (Up k octets) heard) → (known : Known) → known.setup ≡ setup → AreKnown known (conducts run) → IsAnswered known (tape_of run) (Hears (Up k octets) c.live.stream news heard)
      told_so heard so known same knows =
          let it = same_parts known same knows in (
            subst (λ p. offers.IsTold known (tape_of run) (IsTelling (Up k octets) c.live.stream (news_of p base.parts tells.added))) (sym it.set_up.passing)
                (hearing.octets_told known (tape_of run) k c.live.stream c.answer there of_stream apart it open_yet octets tells.added new tells.hears),
            so known same knows,
            judged_so known same knows,
          )

      -- its response isn't whole
      partly_so : done ≡ false → (known : Known) → known.setup ≡ setup → AreKnown known (conducts run) → IsHeardBy known (tape_of run) (Up k octets) Partly
      partly_so on known same knows =
          hearing.octets_partly known (tape_of run) k c.live.stream c.answer there of_stream apart (same_parts known same knows) open_yet octets tells.added new tells.hears (tells.ends ∙ on)

      stands_on : done ≡ false → (known : Known) → known.setup ≡ setup → AreKnown known (conducts run) → IsHeard known (Happened (Up k octets) ∷ tape_of run) k new
      stands_on on known same knows =
          hearing.octets_heard known (tape_of run) k c.live.stream c.answer there of_stream apart (same_parts known same knows) open_yet octets tells.added new tells.hears
          tells.learns tells.short tells.few_named (tells.ends ∙ on) tells.same (subst (λ way. Waits (passing_in way) (base.parts ++ tells.added) new) (sym tells.same) (tells.waits base.parts base.waits on))

      pub octets_on : done ≡ false → Course setup run s outputs (Happened (Up k octets)) (record kept { offers = refilled c.live.stream box kept.offers; upstreams = record kept.upstreams { live = map (answer_at k new) kept.upstreams.live } }) balanced outputs
      octets_on on =
          subst (λ (cs : List Connection). Course setup run s outputs (Happened (Up k octets)) (record kept { offers = refilled c.live.stream box kept.offers; upstreams = record kept.upstreams { live = cs } }) balanced outputs) (coming.partly_answered setup kept rest run s leads k c found working new)
          (hears.heard_performs setup kept rest run s leads k c found working (Up k octets) refl refl tt (λ y. refl) (octets_come k octets short) news Partly new box x there_is (tells.offers base.parts base.waits) (told_so Partly (partly_so on))
          (λ is. stands_on on) (λ no. absurd (no refl)) outputs)

      -- it is
      whole_so : done ≡ true → (known : Known) → known.setup ≡ setup → AreKnown known (conducts run) → IsAllHeard known (Happened (Up k octets) ∷ tape_of run) (exchange_on k (tape_of run))
      whole_so is known same knows =
          hearing.octets_whole known (tape_of run) k c.live.stream c.answer there of_stream apart (same_parts known same knows) open_yet octets tells.added new tells.hears (tells.ends ∙ is)

      verdict_so : done ≡ true → (heard : Heard) → IsVerdict setup.keep (held_of c.live.stream kept.upstreams.held) c.answer octets heard → (known : Known) → known.setup ≡ setup → AreKnown known (conducts run) → IsHeardBy known (tape_of run) (Up k octets) heard
      verdict_so is Partly never known same knows = absurd never
      verdict_so is Keepable may known same knows =
          verdicts.keepable setup run s leads.stands leads.so ready.rests k c.live open_here pending known same knows (held_same ∙ may.1) octets
          (hearing.octets_left known (tape_of run) k c.live.stream c.answer there of_stream apart (same_parts known same knows) open_yet octets may.2 (ap (λ (x : Setup). x.keep) same ∙ may.0) (judged_so known same knows))
      verdict_so is Finished (inl off) known same knows = verdicts.not_kept setup run s leads.stands leads.so ready.rests k c.live open_here pending known same off octets (whole_so is known same knows)
      verdict_so is Finished (inr (inl some)) known same knows =
          verdicts.in_part setup run s leads.stands leads.so ready.rests k c.live open_here pending known same knows some.0 (held_same ∙ some.1) octets (whole_so is known same knows)
      verdict_so is Finished (inr (inr never)) known same knows =
          verdicts.not_left setup run s leads.stands leads.so ready.rests k c.live open_here pending known octets (whole_so is known same knows)
          (hearing.octets_never known (tape_of run) k c.live.stream c.answer there of_stream apart (same_parts known same knows) open_yet octets never)

      pub octets_whole : done ≡ true → (heard : Heard) → IsVerdict setup.keep (held_of c.live.stream kept.upstreams.held) c.answer octets heard
          → Course setup run s outputs (Happened (Up k octets)) (record kept { offers = refilled c.live.stream box kept.offers; upstreams = record kept.upstreams { live = heard_at setup.most_idle k heard (map (answer_at k (fresh false way.Streaming)) kept.upstreams.live) } }) balanced outputs
      octets_whole is heard verdict =
          hears.heard_performs setup kept rest run s leads k c found working (Up k octets) refl refl tt (λ y. refl) (octets_come k octets short) news heard (fresh false way.Streaming) box x there_is (tells.offers base.parts base.waits) (told_so heard (verdict_so is heard verdict))
          (λ part. absurd (never_partly heard verdict part)) (λ no. refl) outputs
        where
          never_partly : (h : Heard) → IsVerdict setup.keep (held_of c.live.stream kept.upstreams.held) c.answer octets h → h ≡ Partly → ⊥
          never_partly Partly v is = v
          never_partly Keepable v is = cc
          never_partly Finished v is = cc

    -- octets with which the answer fails
    module _ (why : Breaks c.answer.reader octets ⊎ IsTooLong c.answer octets) where
      judged_failed : (known : Known) → known.setup ≡ setup → AreKnown known (conducts run) → IsJudged known (tape_of run) (Up k octets) true
      judged_failed known same knows = hearing.octets_failed known (tape_of run) k c.live.stream c.answer there of_stream apart (same_parts known same knows) open_yet octets why

    abbrev FailsAs : Heard → Type 0
    FailsAs w = (known : Known) → known.setup ≡ setup → AreKnown known (conducts run) → IsAnswered known (tape_of run) (Fails (Up k octets) c.live.stream w)

    -- how far its response is then doesn't depend on what is known
    failing_octets : (why : Breaks c.answer.reader octets ⊎ IsTooLong c.answer octets) → (w : Heard) × FailsAs w × (w ≡ Keepable → ⊥)
    failing_octets (inl breaks) = (Partly, (λ known same knows. (broken known same knows, judged_failed (inl breaks) known same knows)), (λ no. cc))
      where
        broken : (known : Known) → known.setup ≡ setup → AreKnown known (conducts run) → IsHeardBy known (tape_of run) (Up k octets) Partly
        broken known same knows = hearing.broken_partly known (tape_of run) k c.live.stream c.answer there of_stream apart (same_parts known same knows) open_yet octets breaks
    failing_octets (inr long) = by (is_done long.added) refl
      where
        by : (b : Bool) → is_done long.added ≡ b → (w : Heard) × FailsAs w × (w ≡ Keepable → ⊥)
        by false is = (
          Partly,
          (λ known same knows. (
            hearing.octets_partly known (tape_of run) k c.live.stream c.answer there of_stream apart (same_parts known same knows) open_yet octets long.added (record c.answer { reader = long.new }) long.hears is,
            judged_failed (inr long) known same knows,
          )),
          (λ no. cc),
        )
        by true is = (
          Finished,
          (λ known same knows. (
            hearing.long_finished known (tape_of run) k c.live.stream c.answer there of_stream apart (same_parts known same knows) open_yet octets long is,
            judged_failed (inr long) known same knows,
          )),
          (λ no. cc),
        )

    -- responses that fail for their length are passed on whole; others aren't whole with the octets
    is_part : (why : Breaks c.answer.reader octets ⊎ IsTooLong c.answer octets) → (setup.passing ≡ WholePassing → ⊥) → (failing_octets why).0 ≡ Partly
    unfolding failing_octets
    is_part (inl breaks) streams = refl
    is_part (inr long) streams = absurd (streams (sym base.set_up.passing ∙ limited_whole c.answer.way long.most long.limit))

    pub octets_fail : Breaks c.answer.reader octets ⊎ IsTooLong c.answer octets → fails.FailsBy setup kept run s k c.live.stream outputs (Happened (Up k octets))
    octets_fail why =
        let it = failing_octets why in
        record {
          opened = λ streams answer. fails.failure_open setup kept rest run s leads k c found working (Up k octets) refl tt (λ y. refl) (octets_come k octets short) it.0 it.2 it.1 refl answer (is_part why streams) outputs;
          closed = λ unreset. fails.failure_closed setup kept rest run s leads k c found working (Up k octets) refl tt (λ y. refl) (octets_come k octets short) it.0 it.2 it.1 refl c.answer unreset outputs;
        }

  -- ---- the end of the connection

  module _ (x : Kept) (box : Outbox) (there_is : theory_responses.find c.live.stream kept.offers.kept ≡ Some x) (complete : IsEnd reader.Complete c.answer.reader)
      (grows : (parts : List Rattle.h1_reader.specs.Parts.Part) → Waits (passing_in c.answer.way) parts c.answer → box ≡ grown x.box (news_at_end (passing_in c.answer.way) parts)) where
    end_told : (known : Known) → known.setup ≡ setup → AreKnown known (conducts run) → IsAnswered known (tape_of run) (Hears (UpEnd k) c.live.stream (news_at_end (passing_in c.answer.way) base.parts) Finished)
    end_told known same knows =
        let it = same_parts known same knows in (
          subst (λ p. offers.IsTold known (tape_of run) (IsTelling (UpEnd k) c.live.stream (news_at_end p base.parts))) (sym it.set_up.passing)
              (hearing.end_told known (tape_of run) k c.live.stream c.answer there of_stream apart it open_yet complete),
          hearing.end_whole known (tape_of run) k c.live.stream c.answer there of_stream apart it open_yet complete,
          hearing.end_judged known (tape_of run) k c.live.stream c.answer there of_stream apart it open_yet complete,
        )

    pub end_brings : Course setup run s outputs (Happened (UpEnd k)) (record kept { offers = refilled c.live.stream box kept.offers; upstreams = record kept.upstreams { live = heard_at setup.most_idle k Finished (map (answer_at k (fresh false way.Streaming)) kept.upstreams.live) } }) balanced outputs
    end_brings =
        hears.heard_performs setup kept rest run s leads k c found working (UpEnd k) refl refl tt (λ y. refl) (λ gates rooms up. up) (news_at_end (passing_in c.answer.way) base.parts) Finished (fresh false way.Streaming) box x there_is (grows base.parts base.waits) end_told
        (λ no. absurd (cc)) (λ no. refl) outputs

  module _ (cut_short : IsEnd reader.Short c.answer.reader) where
    end_judged : (known : Known) → known.setup ≡ setup → AreKnown known (conducts run) → IsAnswered known (tape_of run) (Fails (UpEnd k) c.live.stream Partly)
    end_judged known same knows = hearing.end_short known (tape_of run) k c.live.stream c.answer there of_stream apart (same_parts known same knows) open_yet cut_short

    pub end_fails : fails.FailsBy setup kept run s k c.live.stream outputs (Happened (UpEnd k))
    end_fails = record {
      opened = λ streams answer. fails.failure_open setup kept rest run s leads k c found working (UpEnd k) refl tt (λ y. refl) (λ gates rooms up. up) Partly (λ no. cc) end_judged refl answer refl outputs;
      closed = λ unreset. fails.failure_closed setup kept rest run s leads k c found working (UpEnd k) refl tt (λ y. refl) (λ gates rooms up. up) Partly (λ no. cc) end_judged refl c.answer unreset outputs;
    }

  -- its failure
  pub failure_brings : Course setup run s outputs (Happened (UpFailed k)) (replied_to c.live.stream (closed_at k kept)) (record balanced { owed = fails.resets_for kept c.live.stream }) outputs
  failure_brings =
      fails.failure_gone setup kept rest run s leads k c found working (UpFailed k) refl tt (λ y. refl) (λ gates rooms up. up) Partly (λ no. cc) failed refl outputs
    where
      -- it isn't idle, since its response isn't whole
      not_idle : (known : Known) → known.setup ≡ setup → AreKnown known (conducts run) → IsIdle known (tape_of run) k → ⊥
      not_idle known same knows idle =
          let it = (sound.stands known run s (led_to known setup run s same knows leads.stands leads.so)).keeps.are_so k c.live (coming.open_here setup kept rest run s leads k c found working) in
          let none : IsAllHeard known (tape_of run) (exchange_on k (tape_of run)) → ⊥ = subst (Answers known (tape_of run) k) (coming.pending setup kept rest run s leads k c found working) it.answers in
          none (subst (λ b. IsComplete (heard_by (exchange_on k (tape_of run)) (tape_of run)) b (is_asked_for_head known (exchange_on k (tape_of run)) (tape_of run))) (sym idle.kept.not_ended) (idle.kept.answered.response, idle.kept.answered.reads))

      failed : (known : Known) → known.setup ≡ setup → AreKnown known (conducts run) → IsAnswered known (tape_of run) (Fails (UpFailed k) c.live.stream Partly)
      failed known same knows = (hearing.gone_partly known (tape_of run) k c.live.stream c.answer there of_stream apart (same_parts known same knows) open_yet, not_idle known same knows)
