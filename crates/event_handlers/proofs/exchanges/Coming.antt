-- An upstream's event comes where the gateway rests, of an open connection that works for a stream: what holds then of the connection, of its stream,
-- and of the answers of others.
use Rattle.std.proofs.Common.{◌≡◌, ℕ, suc, Bool, true, false, ◌==◌, List, [], ◌∷◌, map, Option, Some, None, refl, sym, ◌∙◌, ap, subst}
use Rattle.std.specs.Prelude.{is_some}
use Rattle.std.specs.List.{list_any}
use Rattle.std.proofs.lemmas.Bool.{ne_eqb}
use Rattle.model.specs.Logs.{Event}
use Rattle.model.specs.Logs.Event.{UpFailed}
use Rattle.model.specs.Setup.{Setup}
use Rattle.model.specs.Tapes.{Entry}
use Rattle.model.specs.Tapes.Entry.{Happened}
use Rattle.model.specs.Openings.{exchanges, exchange_on, given, AreApart}
use Rattle.model.specs.Available.{ended_by, IsIn}
use Rattle.model.specs.Known.{Known}
use Rattle.model.specs.Courses.{course, upstream_of}
use Rattle.model.proofs.ExchangeLaws.{open_exchange}
use Rattle.theory_errors.specs.Summary.{Summary}
use Rattle.theory_errors.specs.Rule.{AreKnown}
use Rattle.theory_responses.specs.Rule.{IsEventOf}
use Rattle.theory_responses.specs.Sight.{sight_in}
use Rattle.theory_receive_windows.specs.Policy.{Gates, may_come}
use Rattle.theory_receive_windows.specs.State as theory_receive_windows
use Rattle.theory_requests.specs.State as theory_requests
use Rattle.theory_requests.specs.Lines.{Answer, Line, find, line_of, is_idle}
use Rattle.theory_requests.specs.Lines.Answer.{Pending, Idle, Done}
use Rattle.theory_requests.specs.Lines.Heard.{Partly}
use Rattle.theory_requests.specs.Pool.{IsSo}
use Rattle.theory_requests.specs.Rule as requests
use Rattle.theory_requests.specs.Rule.{is_done, is_done_by}
use Rattle.theory_requests.proofs.Clauses.{none_done}
use Rattle.theory_requests.proofs.Fitting.{not_not}
use Rattle.theory_requests.proofs.Numbers.{none_zero}
use Rattle.theory_requests.proofs.Reasons.{heard_same}
use Rattle.theory_requests.proofs.Standing as standing
use Rattle.upstream_response.specs.Waiting as answers
use Rattle.upstream_connections.specs.Connections.{Connection, number_of, lives, marked_at, answer_at, heard_at, AreBelow}
use Rattle.theory.specs.Moves.{Move, told_in}
use Rattle.theory.specs.Moves.Decision.{Idles}
use Rattle.theory.specs.State.{State, conducts, tape_of, gates_in, summary_at}
use Rattle.theory.specs.Rule.{rooms_in, Rests, RestsBehind}
use Rattle.theory.specs.Coming.{IsReady, MayAnswer}
use Rattle.theory.specs.Steps.{told_by}
use Rattle.theory.proofs.Stepping.{before_is}
use Rattle.theory.proofs.Unended.{open_go_on}
use Rattle.refinement.specs.View.{View, balanced, Leads}
use Rattle.refinement.specs.Hearing.{IsHeard}
use Rattle.refinement.specs.Rest.{IsAtRest}
use Rattle.refinement.proofs.Idles.{marked_so}
use Rattle.refinement.proofs.Resting.{rests_are_ready}
use Rattle.refinement.proofs.Sound as sound
use Rattle.refinement.proofs.Staying.{found_live, heard_beside}
use Rattle.refinement.proofs.Ways.{AreFalling, numbers_fall, falling_below}
use Rattle.refinement.proofs.Where.{led_to, own, own_led, stands_here}

-- one that isn't idle and isn't done with either isn't whole, and its stream is served
pending_by : (a : Answer) (served : Bool) → is_idle a ≡ false → is_done_by a served ≡ false → (a ≡ Pending) × (served ≡ true)
pending_by Pending served working on = (refl, not_not served on)
pending_by Idle served working on = let no : true ≡ false = working in cc
pending_by Done served working on = let no : true ≡ false = on in cc

-- of a connection it is told how far its response is, and what its answer is, in either order
marked_answered : (k : ℕ) (progress : Answer) (answer : answers.Answer) (cs : List Connection) → map (marked_at k progress) (map (answer_at k answer) cs) ≡ map (answer_at k answer) (map (marked_at k progress) cs)
marked_answered k progress answer [] = refl
marked_answered k progress answer (c ∷ cs) = ap (λ xs. marked_at k progress (answer_at k answer c) ∷ xs) (marked_answered k progress answer cs)

module _ (setup : Setup) (kept : View) (rest : IsAtRest kept) (run : List Move) (s : State) (leads : Leads setup run kept balanced s) (k : ℕ) (c : Connection) (found : find number_of k kept.upstreams.live ≡ Some c) (working : is_idle c.live.answer ≡ false) where
  abbrev pub t : List Entry
  t = tape_of run

  abbrev pub stream : ℕ
  stream = c.live.stream

  abbrev pub known_here : Known
  known_here = own setup run s leads.stands leads.so

  pub ready : IsReady s
  ready = rests_are_ready setup run kept s leads rest

  pub stand : standing.Stands known_here t s.requests
  stand = stands_here setup run s leads.stands leads.so

  pub lives_are : s.requests.live ≡ lives kept.upstreams.live
  lives_are = ap (λ (r : theory_requests.State). r.live) leads.keeps.requests

  -- the connection is open
  pub open_here : line_of k s.requests.live ≡ Some c.live
  open_here = ap (line_of k) lives_are ∙ found_live k kept.upstreams.live c found

  -- it isn't done with
  parts : (c.live.answer ≡ Pending) × ((told_in (told_by s)).served stream ≡ true)
  parts = pending_by c.live.answer ((told_in (told_by s)).served stream) working (none_done (told_in (told_by s)) k s.requests.live c.live ready.rests.served.none_done open_here)

  -- so its response isn't whole
  pub pending : c.live.answer ≡ Pending
  pending = parts.0

  pub served : (told_in (told_by s)).served stream ≡ true
  served = parts.1

  pub none_done_yet : list_any (is_done (told_in (told_by s))) s.requests.live ≡ false
  none_done_yet = ready.rests.served.none_done

  requests_come : requests.MayCome (told_in (told_by s)) s.requests
  requests_come = record { nothing = ready.rests.served.nothing; none_done = none_done_yet; goes_on = ready.goes_on }

  -- an event of it is of its stream
  pub event_of : (event : Event) → upstream_of event ≡ k → IsEventOf (sight_in (told_by s)) event stream
  event_of event of = sound.event_of known_here run s (own_led setup run s leads.stands leads.so) event c.live (ap (λ n. line_of n s.requests.live) of ∙ open_here) served

  is_up : is_some (line_of k s.requests.live) ≡ true
  is_up = ap (λ (o : Option Line). is_some o) open_here

  pub may_answer : (event : Event) → upstream_of event ≡ k → ((gates : Gates) (rooms : theory_receive_windows.State) → gates.is_up k ≡ true → may_come gates rooms event ≡ true) → MayAnswer s event stream
  may_answer event of comes = record {
    admitted = comes (gates_in (told_by s) s.requests) (rooms_in (told_by s) s) is_up;
    of = event_of event of;
    kept = (c.live, ap (λ n. line_of n s.requests.live) of ∙ open_here);
  }

  -- ---- its newest exchange

  line_here : IsSo known_here t k c.live
  line_here = stand.keeps.are_so k c.live open_here

  -- it is one that began, for its stream
  pub there_here : IsIn (exchange_on k t) (exchanges t)
  there_here = open_exchange k t line_here.opened

  pub given_is_stream : given k (exchanges t) ≡ stream
  given_is_stream = line_here.stream

  pub apart_here : AreApart (exchanges t)
  apart_here = stand.apart

  pub number_some : (k == 0) ≡ false
  number_some = ne_eqb k 0 (none_zero t (exchange_on k t) stand.numbered stand.goes there_here)

  -- its upstream hasn't ended it
  pub not_ended : ended_by (exchange_on k t) t ≡ false
  not_ended =
      let rests : RestsBehind setup run =
      subst (λ (x : State). Rests (summary_at setup run) x) (sym leads.stands.is) (subst (λ (u : Summary). Rests u s) (sym (before_is setup run s leads.stands)) ready.rests) in
      let led = own_led setup run s leads.stands leads.so in
      open_go_on known_here run (record { knows = led.knows; all = leads.stands.allowed; answered = led.answered }) rests k
      line_here.opened

  -- ---- answers

  -- the gateway doesn't reply to its stream itself
  pub calm : (known : Known) → known.setup ≡ setup → AreKnown known (conducts run) → (course known stream t).cause ≡ None
  calm known same knows =
      let right = sound.right known run s (led_to known setup run s same knows leads.stands leads.so) in
      let event = event_of (UpFailed k) refl in
      sym (right.cause stream (sym (right.active stream) ∙ event.active)) ∙ event.no_cause

  -- the answer stands for what was heard, whatever is known: these pieces were told
  abbrev pub heard_own : IsHeard known_here t k c.answer
  heard_own = let knows = (own_led setup run s leads.stands leads.so).knows in leads.heard.so known_here refl knows k c found pending (calm known_here refl knows)

  abbrev pub heard_here : (known : Known) → known.setup ≡ setup → AreKnown known (conducts run) → IsHeard known t k c.answer
  heard_here known same knows =
      let is = leads.heard.so known same knows k c found pending (calm known same knows) in
      record { parts = heard_own.parts; stands = heard_own.stands; knows = heard_own.knows; short = heard_own.short; few_named = heard_own.few_named; goes_on = heard_own.goes_on; waits = heard_own.waits; asked = is.asked; set_up = is.set_up }

  -- answers of the others stand for what was heard behind the event
  pub others_heard : (event : Event) → upstream_of event ≡ k → (known : Known) → known.setup ≡ setup → AreKnown known (conducts run) → (j : ℕ) (x : Connection) → (j ≡ k → ⊥) → find number_of j kept.upstreams.live ≡ Some x → x.live.answer ≡ Pending → (course known x.live.stream (Happened event ∷ t)).cause ≡ None → IsHeard known (Happened event ∷ t) j x.answer
  others_heard event of known same knows j x apart there on no_cause =
      heard_beside setup run s leads.stands leads.so kept.upstreams.live lives_are (Idles event) j (heard_same t (Happened event) (exchange_on j t) (λ e. apart (e ∙ of))) refl leads.heard known same knows x there on no_cause

  -- ---- connections

  pub below : AreBelow (suc s.requests.count) kept.upstreams.live
  below = falling_below (suc s.requests.count) kept.upstreams.live (subst (AreFalling (suc s.requests.count)) lives_are (numbers_fall setup run s leads.stands))

  -- where its response isn't whole yet it stays as it is
  pub partly_same : map (marked_at k Pending) kept.upstreams.live ≡ kept.upstreams.live
  partly_same =
      marked_so k (suc s.requests.count) Pending kept.upstreams.live below
      (λ x there. let same : ◌≡◌ {A = Option Connection} (Some x) (Some c) = sym there ∙ found in let this : x ≡ c = cc in ap (λ (y : Connection). y.live.answer) this ∙ pending)

  -- and so it does with another answer
  pub partly_answered : (answer : answers.Answer) → heard_at setup.most_idle k Partly (map (answer_at k answer) kept.upstreams.live) ≡ map (answer_at k answer) kept.upstreams.live
  partly_answered answer = marked_answered k Pending answer kept.upstreams.live ∙ ap (λ cs. map (answer_at k answer) cs) partly_same
