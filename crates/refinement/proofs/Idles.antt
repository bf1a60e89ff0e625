-- What comes of an idle connection: what is said of it is so, and it finishes the connection, unless it is no octets.
use Rattle.std.proofs.Common.{◌≡◌, ℕ, ◌+◌, ◌<◌, ◌≤◌, Bool, true, false, nat_lt, ◌==◌, if◌then◌else◌, List, [], ◌∷◌, ◌++◌, append-nil, map, Option, Some, refl, sym, ◌∙◌, ap, subst, inl, inr, arith}
use Rattle.std.proofs.lemmas.Bool.{ne_eqb, lt-ltb}
use Rattle.std.proofs.lemmas.Bool.Decides.{eqb_tells}
use Rattle.model.specs.Logs.{Event}
use Rattle.model.specs.Logs.Event.{Client, ClientEnd, ClientTook, Up, UpEnd, UpFailed, UpTook, Drain}
use Rattle.model.specs.Setup.{Setup}
use Rattle.model.specs.Tapes.{Entry}
use Rattle.model.specs.Responses.{IsComplete}
use Rattle.model.specs.Noticing.{IsPlainlyBad}
use Rattle.model.specs.Openings.{exchange_on}
use Rattle.model.specs.Available.{heard_by}
use Rattle.model.specs.Known.{Known}
use Rattle.model.specs.Courses.{upstream_of}
use Rattle.model.specs.Idle.{is_asked_for_head, IsIdle}
use Rattle.model.proofs.PastLaws.{complete_past}
use Rattle.theory_errors.specs.Rule.{AreKnown}
use Rattle.h1_reader.specs.Parts.{ends_with}
use Rattle.h1_reader.specs.Parts.Part.{Interim, Final, Body}
use Rattle.h1_reader.specs.declared.reader.Place.TheVariants as place
use Rattle.h1_reader.proofs.Noticed.{not_bad}
use Rattle.theory_requests.specs.Lines.{Answer, Line, line_of, without, idle_beside}
use Rattle.theory_requests.specs.Lines.Answer.{Idle, Done}
use Rattle.theory_requests.specs.Lines.Heard.{Keepable}
use Rattle.theory_requests.specs.Pool.{Answers}
use Rattle.upstream_connections.specs.Connections.{Connection, number_of, lives, marked_at, heard_at, is_idle_one, idle_count, AreBelow}
use Rattle.upstream_connections.proofs.Idling.{weight, all_counted}
use Rattle.theory_requests.specs.Lines as lines
use Rattle.theory.specs.Moves.{Move}
use Rattle.theory.specs.Moves.Decision.{Idles}
use Rattle.theory.specs.Moves.Move.{Does}
use Rattle.theory.specs.State.{State, conducts, tape_of}
use Rattle.theory.specs.Answered.{IsAnswered}
use Rattle.theory.specs.Coming.{MayBreakOff}
use Rattle.theory.specs.Steps.{Stands}
use Rattle.theory.proofs.Idling.{octets_so, end_so, failure_so}
use Rattle.refinement.specs.View.{AreSo}
use Rattle.refinement.proofs.Sound as sound
use Rattle.refinement.proofs.Where.{led_to}

-- ---- what is said of it

-- octets behind a whole response are no fault that has to be noticed
whole_not_bad : (text : List ℕ) (to_head : Bool) → IsComplete text false to_head → IsPlainlyBad text to_head → ⊥
whole_not_bad text to_head c bad =
    let r = c.0 in
    let p = c.1 in
    not_bad text (map Interim r.interims ++ (Final r.head ∷ map Body (r.body ∷ []) ++ ends_with r.trailers))
    (record { to_head = to_head; place = place.Past; held = record { octets = []; connections = []; keeps = false } })
    (record {
      framing = p.framing;
      rest = p.rest;
      octets = r.body;
      trailers = r.trailers;
      body = record {
        interims = r.interims;
        head = r.head;
        front = p.front;
        head_text = p.head_text;
        bodies = r.body ∷ [];
        is = p.is;
        are_interims = p.are_interims;
        few = p.few_interims;
        is_final = p.is_final;
        has_octets = sym (append-nil r.body);
        told = refl;
      };
      whole = p.body;
    }) bad

-- What is said of its events is so.
pub idles_told : (known : Known) (t : List Entry) (event : Event) → MayBreakOff event → IsIdle known t (upstream_of event) → IsAnswered known t (Idles event)
idles_told known t (Up k piece) of idle =
    octets_so known t k piece idle (whole_not_bad (heard_by (exchange_on k t) t ++ piece) (is_asked_for_head known (exchange_on k t) t)
    (complete_past (heard_by (exchange_on k t) t) piece false (is_asked_for_head known (exchange_on k t) t) (idle.kept.answered.response, idle.kept.answered.reads)))
idles_told known t (UpEnd k) of idle = end_so known t k idle
idles_told known t (UpFailed k) of idle = failure_so known t k idle
idles_told known t (Client piece) of idle = absurd of
idles_told known t ClientEnd of idle = absurd of
idles_told known t (ClientTook count) of idle = absurd of
idles_told known t (UpTook k count) of idle = absurd of
idles_told known t Drain of idle = absurd of

module _ (setup : Setup) (run : List Move) (s : State) (stand : Stands setup run s) (so : AreSo setup run) (k : ℕ) (line : Line) (found : line_of k s.requests.live ≡ Some line) (is_idle : line.answer ≡ Idle) where
  -- The connection is idle, whatever is known.
  pub idle_here : (known : Known) → known.setup ≡ setup → AreKnown known (conducts run) → IsIdle known (tape_of run) k
  idle_here known same knows =
      let it = (sound.stands known run s (led_to known setup run s same knows stand so)).keeps.are_so k line found in
      record { is_open = it.opened; kept = subst (Answers known (tape_of run) k) is_idle it.answers }

  -- What is said of answers is so behind an event of it.
  pub so_idles : (event : Event) → upstream_of event ≡ k → MayBreakOff event → AreSo setup (Does (Idles event) ∷ run)
  so_idles event of may known same knows = (
    so known same knows.0,
    idles_told known (tape_of run) event may (subst (IsIdle known (tape_of run)) (sym of) (idle_here known same knows.0)),
  )

-- ---- what becomes of it

-- of a connection it is told that its response is so far, or it isn't
abbrev marked_if : Bool → Answer → Connection → Connection
marked_if b a c = record { live = record { k = c.live.k; route = c.live.route; stream = c.live.stream; answer = if b then a else c.live.answer }; answer = c.answer; out = c.out; took = c.took }

-- no connection below another has its number
none_lower : (k top : ℕ) (a : Answer) (cs : List Connection) → top ≤ k → AreBelow top cs → map (marked_at k a) cs ≡ cs
none_lower k top a [] le below = refl
none_lower k top a (c ∷ cs) le below =
    let less : c.live.k < top = below.0 in
    ap (λ b. marked_if b a c ∷ map (marked_at k a) cs) (ne_eqb c.live.k k (λ same. omega (arith, less, le, same)))
    ∙ ap (λ ys. c ∷ ys) (none_lower k c.live.k a cs (omega (arith, less, le)) below.1)

-- One of which it is told how it is stays so.
pub marked_so : (k top : ℕ) (a : Answer) (cs : List Connection) → AreBelow top cs → ((c : Connection) → lines.find number_of k cs ≡ Some c → c.live.answer ≡ a) → map (marked_at k a) cs ≡ cs
marked_so k top a [] below so = refl
marked_so k top a (c ∷ cs) below so = elim (eqb_tells c.live.k k) [
  | inl own ↦ (
      ap (λ b. marked_if b a c ∷ map (marked_at k a) cs) own.0
      ∙ ap (λ (x : Answer). marked_if true x c ∷ map (marked_at k a) cs) (sym (so c (ap (λ b. if b then Some c else lines.find number_of k cs) own.0)))
      ∙ ap (λ ys. c ∷ ys) (none_lower k c.live.k a cs (let same = own.1 in omega (arith, same)) below.1)
      )
  | inr off ↦ (
      ap (λ b. marked_if b a c ∷ map (marked_at k a) cs) off.0
      ∙ ap (λ ys. c ∷ ys) (marked_so k c.live.k a cs below.1 (λ x found. so x (ap (λ b. if b then Some c else lines.find number_of k cs) off.0 ∙ found)))
      )
]

-- Where few are idle, no octets leave an idle one as it is.
pub idle_stays : (most k top : ℕ) (cs : List Connection) (c : Connection) → AreBelow top cs → idle_count cs ≤ most → lines.find number_of k cs ≡ Some c → c.live.answer ≡ Idle → heard_at most k Keepable cs ≡ cs
idle_stays most k top cs c below few found is =
    ap (λ b. map (marked_at k (if b then Idle else Done)) cs) room
    ∙ marked_so k top Idle cs below (λ x there. let same : ◌≡◌ {A = Option Connection} (Some x) (Some c) = sym there ∙ found in let this : x ≡ c = cc in ap (λ (y : Connection). y.live.answer) this ∙ is)
  where
    one : is_idle_one (lines.find number_of k cs) ≡ true
    one = ap is_idle_one found ∙ ap lines.is_idle is

    room : nat_lt (idle_beside k (lives cs)) most ≡ true
    room =
        let all : idle_count cs ≡ idle_beside k (lives cs) + weight (is_idle_one (lines.find number_of k cs)) = all_counted k top cs below in
        let some : weight (is_idle_one (lines.find number_of k cs)) ≡ 1 = ap weight one in
        lt-ltb (idle_beside k (lives cs)) most (omega (arith, all, some, few))

-- Any, or its end, finish it; and once it is closed nothing is left of that.
pub finished_closed : (k : ℕ) (progress : Answer) (cs : List Connection) → without number_of k (map (marked_at k progress) cs) ≡ without number_of k cs
finished_closed k progress [] = refl
finished_closed k progress (c ∷ cs) = by (c.live.k == k) (finished_closed k progress cs)
  where
    by : (b : Bool) → without number_of k (map (marked_at k progress) cs) ≡ without number_of k cs
        → (if b then without number_of k (map (marked_at k progress) cs) else marked_if b progress c ∷ without number_of k (map (marked_at k progress) cs)) ≡ (if b then without number_of k cs else c ∷ without number_of k cs)
    by true rest = rest
    by false rest = ap (λ ys. c ∷ ys) rest
