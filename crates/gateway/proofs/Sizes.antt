-- What a gateway holds between steps is bounded.
use Rattle.std.proofs.Common.{◌≡◌, ℕ, ◌<◌, ◌≤◌, ◌^◌, true, false, List, [], ◌∷◌, ◌++◌, length, length-append, refl, sym, ◌∙◌, ap, subst, arith, None}
use Rattle.model.specs.Frames.{preface, settings_frame}
use Rattle.model.specs.Logs.{Step, client_in}
use Rattle.model.specs.Octets.{IsStrictFront}
use Rattle.model.specs.Setup.{Setup, own_window}
use Rattle.model.specs.Known.{Known}
use Rattle.theory_errors.specs.Rule.{AreKnown, known_of}
use Rattle.theory_errors.proofs.Knowing.{known_so}
use Rattle.theory_responses.specs.State as theory_responses
use Rattle.upstream_connections.specs.Kept.{nothing}
use Rattle.header_blocks.specs.Encoding.{first_encoding}
use Rattle.model.specs.Tables.{first_table, total_size}
use Rattle.theory_receive_windows.specs.Marks.{total}
use Rattle.window_credit.specs.Sides.{Side, queue_of}
use Rattle.theory.specs.Moves.{Move}
use Rattle.theory.specs.State.{conducts}
use Rattle.theory.specs.Rule.{RestsBehind}
use Rattle.refinement.specs.View.{View, waiting_for}
use Rattle.theory_memory_bound.specs.Held.{IsSmall, held_in}
use Rattle.theory_memory_bound.proofs.Holding.{little_kept}
use Rattle.gateway.specs.declared.phase.Phase.{Phase}
use Rattle.gateway.specs.declared.phase.Phase.TheVariants as phase
use Rattle.gateway.specs.Stands.{Standing, Stands, IsOpen, IsReadIn, is_open, is_dead}
use Rattle.gateway.specs.Held.{IsHeldWithin}
use Rattle.gateway.specs.Held.{held_in as held}

-- ---- a session in which nothing is kept

nothing_waits : (setup : Setup) (kept : View) → kept.marks ≡ [] → (stream : ℕ) → waiting_for stream kept ≤ own_window setup
nothing_waits setup kept none stream =
    let nothing : waiting_for stream kept ≡ 0 = ap (λ (sides : List Side). total (queue_of stream sides)) none in
    omega (arith, nothing)

pub none_small : (setup : Setup) (kept : View) → kept.inbound.block ≡ None → kept.offers ≡ theory_responses.start → kept.upstreams ≡ nothing → kept.marks ≡ [] → kept.inbound.table ≡ first_table → kept.encoding ≡ first_encoding false → IsSmall setup kept
unfolding total_size
none_small setup kept block offers upstreams marks table encoding =
    rw (offers, upstreams, table, encoding, block) (record { beside = omega arith; few_boxes = omega arith; few_requests = omega arith; few_connections = omega arith; each = λ stream. omega arith; all = omega arith; few_waiting = nothing_waits setup kept marks })

pub none_held : (kept : View) → kept.inbound.block ≡ None → kept.offers ≡ theory_responses.start → kept.upstreams ≡ nothing → kept.inbound.table ≡ first_table → kept.encoding ≡ first_encoding false → held_in kept ≡ 0
unfolding total_size
none_held kept block offers upstreams table encoding =
    rw (offers, upstreams, table, encoding, block) (omega arith)

-- ---- the octets that aren't a whole frame

front_short : (text : List ℕ) → IsStrictFront text preface → length text ≤ 24
front_short text f =
    let size : 24 ≡ length (text ++ f.next ∷ f.rest) = ap length f.is in
    let parts = length-append text (f.next ∷ f.rest) in
    omega (arith, size, parts)

partial_short : (p : Phase) (partial text : List ℕ) (t : List _) → is_open p ≡ true → IsReadIn p partial text t → length partial ≤ 16392
partial_short phase.New partial text t on u = let short = front_short text u.front in let same = ap length u.all in omega (arith, short, same)
partial_short phase.Preface partial text t on u = let short = front_short text u.front in let same = ap length u.all in omega (arith, short, same)
partial_short phase.Frames partial text t on b = let short = b.rest.short in omega (arith, short)
partial_short phase.Closed partial text t on b = absurd (let no : false ≡ true = on in cc)
partial_short phase.Dead partial text t on b = absurd (let no : false ≡ true = on in cc)

-- No stream has more marks than octets that wait.
abbrev pub HasFewMarks : View → Type 0
HasFewMarks kept = (stream : ℕ) → length (queue_of stream kept.marks) ≤ waiting_for stream kept

pub within : (setup : Setup) (g : Standing) → length g.partial ≤ 16392 → IsSmall setup g.kept → HasFewMarks g.kept → IsHeldWithin setup g
within setup g short small few = record {
  beside = (let beside = small.beside in omega (arith, short, beside));
  few_responses = small.few_boxes;
  few_requests = small.few_requests;
  few_connections = small.few_connections;
  each = small.each;
  all = (let all = small.all in omega (arith, short, all));
  few_marks = λ stream. (let marks = few stream in let octets = small.few_waiting stream in omega (arith, marks, octets));
}

-- ---- where it stands behind a step

module _ (setup : Setup) (g : Standing) (step : Step) (log : List Step) (run : List Move) (stands : Stands setup g (step ∷ log) run) where
  abbrev known : Known
  known = known_of setup (conducts run)

  knows : AreKnown known (conducts run)
  knows = known_so setup (conducts run)

  rests : RestsBehind setup run
  rests = let answered = stands.answered known refl knows in subst (RestsBehind setup) (sym answered.2) answered.3.rests

  small_body : setup.max_body < 2 ^ 64
  small_body = let body = stands.serves.servable.body in omega (arith, body)

  open_small : (p : Phase) → g.phase ≡ p → is_open p ≡ true → IsSmall setup g.kept
  open_small phase.New is on = absurd (let o : IsOpen setup phase.New g.partial g.kept (client_in (step ∷ log)) run = subst (λ x. Rattle.gateway.specs.Stands.IsIn x setup g.partial g.kept (client_in (step ∷ log)) run) is stands.is_in in
      let owed : settings_frame setup.more_room ∷ [] ≡ [] = sym o.leads.keeps.owed ∙ sym (ap (λ s. s.ledger.queue) o.leads.stands.is) ∙ rests.conduct.nothing in cc)
  open_small phase.Preface is on =
      let o : IsOpen setup phase.Preface g.partial g.kept (client_in (step ∷ log)) run = subst (λ x. Rattle.gateway.specs.Stands.IsIn x setup g.partial g.kept (client_in (step ∷ log)) run) is stands.is_in in
      little_kept setup run g.kept o.state o.leads rests small_body (λ streaming. stands.fits known refl knows)
  open_small phase.Frames is on =
      let o : IsOpen setup phase.Frames g.partial g.kept (client_in (step ∷ log)) run = subst (λ x. Rattle.gateway.specs.Stands.IsIn x setup g.partial g.kept (client_in (step ∷ log)) run) is stands.is_in in
      little_kept setup run g.kept o.state o.leads rests small_body (λ streaming. stands.fits known refl knows)
  open_small phase.Closed is on = absurd (let no : false ≡ true = on in cc)
  open_small phase.Dead is on = absurd (let no : false ≡ true = on in cc)

  open_short : (p : Phase) → g.phase ≡ p → is_open p ≡ true → length g.partial ≤ 16392
  open_short phase.New is on = let o : IsOpen setup phase.New g.partial g.kept (client_in (step ∷ log)) run = subst (λ x. Rattle.gateway.specs.Stands.IsIn x setup g.partial g.kept (client_in (step ∷ log)) run) is stands.is_in in partial_short phase.New g.partial (client_in (step ∷ log)) _ on o.octets
  open_short phase.Preface is on = let o : IsOpen setup phase.Preface g.partial g.kept (client_in (step ∷ log)) run = subst (λ x. Rattle.gateway.specs.Stands.IsIn x setup g.partial g.kept (client_in (step ∷ log)) run) is stands.is_in in partial_short phase.Preface g.partial (client_in (step ∷ log)) _ on o.octets
  open_short phase.Frames is on = let o : IsOpen setup phase.Frames g.partial g.kept (client_in (step ∷ log)) run = subst (λ x. Rattle.gateway.specs.Stands.IsIn x setup g.partial g.kept (client_in (step ∷ log)) run) is stands.is_in in partial_short phase.Frames g.partial (client_in (step ∷ log)) _ on o.octets
  open_short phase.Closed is on = absurd (let no : false ≡ true = on in cc)
  open_short phase.Dead is on = absurd (let no : false ≡ true = on in cc)

  pub open_within : is_open g.phase ≡ true → HasFewMarks g.kept → IsHeldWithin setup g
  open_within on few = within setup g (open_short g.phase refl on) (open_small g.phase refl on) few

  -- where it isn't closed
  pub not_closed_within : (g.phase ≡ phase.Closed → ⊥) → HasFewMarks g.kept → IsHeldWithin setup g
  not_closed_within goes_on few = open_within (by g.phase refl) few
    where
      by : (p : Phase) → g.phase ≡ p → is_open p ≡ true
      by phase.New is = refl
      by phase.Preface is = refl
      by phase.Frames is = refl
      by phase.Closed is = absurd (goes_on is)
      by phase.Dead is = absurd (subst (λ p. Rattle.gateway.specs.Stands.IsIn p setup g.partial g.kept (client_in (step ∷ log)) run) is stands.is_in)

-- ---- once it is over, nothing that is kept matters

pub over_stands : (setup : Setup) (g h : Standing) (log : List Step) (run : List Move) → g.phase ≡ phase.Closed → h ≡ record g { partial = []; kept = h.kept } → Stands setup g log run → Stands setup h log run
over_stands setup g h log run closed is stands =
    subst (λ x. Stands setup x log run) (sym is) (record {
      serves = record { servable = stands.serves.servable; routes = stands.serves.routes; max_body = stands.serves.max_body; passing = stands.serves.passing; keep = stands.serves.keep; most_idle = stands.serves.most_idle };
      answered = stands.answered;
      fits = stands.fits;
      is_in = subst (λ p. Rattle.gateway.specs.Stands.IsIn p setup [] h.kept (client_in log) run) (sym closed) (subst (λ p. Rattle.gateway.specs.Stands.IsIn p setup g.partial g.kept (client_in log) run) closed stands.is_in);
    })

-- of one that is closed, and that memory wasn't refused to, the phase is told
pub over_is_closed : (p : Phase) → is_open p ≡ false → is_dead p ≡ false → p ≡ phase.Closed
over_is_closed phase.New over alive = absurd (let no : true ≡ false = over in cc)
over_is_closed phase.Preface over alive = absurd (let no : true ≡ false = over in cc)
over_is_closed phase.Frames over alive = absurd (let no : true ≡ false = over in cc)
over_is_closed phase.Closed over alive = refl
over_is_closed phase.Dead over alive = absurd (let no : true ≡ false = alive in cc)

-- where all was let go of
pub none_in : (h : Standing) → h.partial ≡ [] → held_in h.kept ≡ 0 → held h ≡ 0
none_in h is none = let no_partial : length h.partial ≡ 0 = ap length is in omega (arith, no_partial, none)

pub empty_within : (setup : Setup) (h : Standing) → h.partial ≡ [] → IsSmall setup h.kept → h.kept.marks ≡ [] → IsHeldWithin setup h
empty_within setup h is small no_marks =
    let none : length h.partial ≡ 0 = ap length is in
    within setup h (omega (arith, none)) small (λ stream. (let nothing : length (queue_of stream h.kept.marks) ≡ 0 = ap (λ (sides : List Side). length (queue_of stream sides)) no_marks in omega (arith, nothing)))
