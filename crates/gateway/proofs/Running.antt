-- The log of a run, event by event.
use Rattle.std.proofs.Common.{◌≡◌, ℕ, zero, suc, ◌+◌, ◌<◌, ◌≤◌, List, [], ◌∷◌, ◌++◌, length, length-append, take, get_or, map, reverse, refl, sym, ◌∙◌, ap, subst, arith, inl, inr, Option, Some, None}
use Rattle.std.specs.declared.vec.Vec.{Vec}
use Rattle.std.specs.declared.alloc.Global.{Global}
use Rattle.std.specs.Prelude.{slice_get}
use Rattle.std.proofs.lemmas.Grind.{common_steps}
use Rattle.std.proofs.lemmas.List.{length-map, take_more, reverse-append, reverse-reverse}
use Rattle.model.specs.Logs as logs
use Rattle.model.specs.Rooms.{IsAdmitted}
use Rattle.model.specs.Setup.{Setup}
use Rattle.theory_errors.specs.Rule.{known_of}
use Rattle.effects.specs.declared.events.Event.{Event}
use Rattle.effects.specs.declared.events.Output.{Output}
use Rattle.effects.specs.Views.{event_of, outputs_of}
use Rattle.theory.specs.Moves.{Move}
use Rattle.theory.specs.State.{conducts, tape_of}
use Rattle.gateway.specs.Promises.{Promise}
use Rattle.gateway.specs.declared.runs.RunFault.{RunFault}
use Rattle.gateway.specs.declared.runs.RunFault.TheVariants.{NotAdmitted, Memory}
use Rattle.gateway.specs.Runs.{log_of, Explains, IsRefusedBehind, IsCutAt, Stops}
use Rattle.gateway.specs.Stands.{Standing, Stands, StandsNext}
use Rattle.gateway.proofs.Logging.{promised_by}

pub log_more : (events : List Event) (outs : List (Vec Output Global)) (event : Event) (out : Vec Output Global) → length outs ≡ length events
    → log_of (events ++ event ∷ []) (outs ++ out ∷ []) ≡ log_of events outs ++ record { event = event_of event; outputs = outputs_of out.items } ∷ []
log_more [] [] event out e = refl
log_more [] (x ∷ outs) event out e = absurd (let n : suc (length outs) ≡ 0 = e in omega arith)
log_more (x ∷ events) [] event out e = absurd (let n : 0 ≡ suc (length events) = e in omega arith)
log_more (x ∷ events) (y ∷ outs) event out e = ap (λ l. record { event = event_of x; outputs = outputs_of y.items } ∷ l) (log_more events outs event out (let n : suc (length outs) ≡ suc (length events) = e in omega arith))

-- it has as many events as have outputs
log_taken : (events : List Event) (outs : List (Vec Output Global)) (n : ℕ) → length outs ≡ n → log_of (take n events) outs ≡ log_of events outs
log_taken [] outs zero e = refl
log_taken [] outs (suc n) e = refl
log_taken (x ∷ events) [] zero e = refl
log_taken (x ∷ events) [] (suc n) e = absurd (let no : 0 ≡ suc n = e in omega arith)
log_taken (x ∷ events) (y ∷ outs) zero e = absurd (let no : suc (length outs) ≡ 0 = e in omega arith)
log_taken (x ∷ events) (y ∷ outs) (suc n) e = ap (λ l. record { event = event_of x; outputs = outputs_of y.items } ∷ l) (log_taken events outs n (let less : suc (length outs) ≡ suc n = e in omega arith))

-- those before the next one
log_events : (events : List Event) (outs : List (Vec Output Global)) (n : ℕ) (event : logs.Event) → length outs ≡ n → slice_get (map event_of events) n ≡ Some event
    → map (λ (s : logs.Step). s.event) (log_of events outs) ≡ take n (map event_of events)
log_events [] outs n event e found = absurd (let no : ◌≡◌ {A = Option logs.Event} None (Some event) = found in cc)
log_events (x ∷ events) [] zero event e found = refl
log_events (x ∷ events) [] (suc n) event e found = absurd (let no : 0 ≡ suc n = e in omega arith)
log_events (x ∷ events) (y ∷ outs) zero event e found = absurd (let no : suc (length outs) ≡ 0 = e in omega arith)
log_events (x ∷ events) (y ∷ outs) (suc n) event e found = ap (λ l. event_of x ∷ l) (log_events events outs n event (let less : suc (length outs) ≡ suc n = e in omega arith) found)

-- what is promised of the log, the oldest step first, by the tape of the moves behind which the gateway stands
pub promised_at : (setup : Setup) (g : Standing) (log : List logs.Step) (run : List Move) → Stands setup g (reverse log) run → (promise : Promise setup log) × (promise.headline.tape ≡ tape_of run) × (promise.headline.known ≡ known_of setup (conducts run))
promised_at setup g log run stands =
    subst (λ (l : List logs.Step). (promise : Promise setup l) × (promise.headline.tape ≡ tape_of run) × (promise.headline.known ≡ known_of setup (conducts run))) (reverse-reverse log) (promised_by setup g (reverse log) run stands)

-- the gateway stands for the log of these events
pub record Running (setup : Setup) (events : List Event) (outs : List (Vec Output Global)) (g : Standing) : Type 0 where
  pub count : length outs ≡ length events
  pub run : List Move
  pub stands : Stands setup g (reverse (log_of events outs)) run

-- no event yet
pub running_none : (setup : Setup) (outs : List (Vec Output Global)) (g : Standing) → outs ≡ [] → Stands setup g [] [] → Running setup [] outs g
running_none setup outs g none stands = subst (λ os. Running setup [] os g) (sym none) (record { count = refl; run = []; stands = stands })

-- one more event
pub running_more : (setup : Setup) (events : List Event) (n : ℕ) (outs outs' : List (Vec Output Global)) (g g' : Standing) (event : Event) (old out : Vec Output Global) → n < length events → event ≡ get_or events n event → old.items ≡ [] → outs' ≡ outs ++ out ∷ []
    → (puts : (acts : List logs.Output) × (outputs_of out.items ≡ outputs_of old.items ++ acts) × ((s : Setup) (log : List logs.Step) (run : List Move) → Stands s g log run → StandsNext s g' log run (event_of event) acts))
    → Running setup (take n events) outs g → Running setup (take (n + 1) events) outs' g'
running_more setup events n outs outs' g g' event old out lt at none is puts r =
    let all : outputs_of out.items ≡ puts.0 = puts.1 ∙ ap (λ x. outputs_of x ++ puts.0) none in
    let taken : take (n + 1) events ≡ take n events ++ event ∷ [] = take_more events n event lt ∙ ap (λ e. take n events ++ e ∷ []) (sym at) in
    let next = puts.2 setup (reverse (log_of (take n events) outs)) r.run r.stands in
    let log : reverse (log_of (take (n + 1) events) outs') ≡ record { event = event_of event; outputs = puts.0 } ∷ reverse (log_of (take n events) outs) =
    ap (λ es. reverse (log_of es outs')) taken
    ∙ ap (λ os. reverse (log_of (take n events ++ event ∷ []) os)) is
    ∙ ap reverse (log_more (take n events) outs event out r.count)
    ∙ reverse-append (log_of (take n events) outs) (record { event = event_of event; outputs = outputs_of out.items } ∷ [])
    ∙ ap (λ acts. record { event = event_of event; outputs = acts } ∷ reverse (log_of (take n events) outs)) all in
    let size : length outs' ≡ length outs + 1 = ap length is ∙ length-append outs (out ∷ []) in
    let count : length outs ≡ length (take n events) = r.count in
    let more : length (take (n + 1) events) ≡ length (take n events) + 1 = ap length taken ∙ length-append (take n events) (event ∷ []) in
    record {
      count = size ∙ ap (λ x. x + 1) count ∙ sym more;
      run = next.segment ++ r.run;
      stands = subst (λ l. Stands setup g' l (next.segment ++ r.run)) (sym log) next.stands;
    }

-- all events
pub running_promised : (setup : Setup) (events : List Event) (n : ℕ) (outs : List (Vec Output Global)) (g : Standing) → length events ≤ n → Running setup (take n events) outs g → Promise setup (log_of events outs)
running_promised setup events n outs g past r =
    let all : take n events ≡ events = grind (arith, common_steps) in
    let whole = subst (λ es. Running setup es outs g) all r in
    (promised_at setup g (log_of events outs) whole.run whole.stands).0

-- an output list for each
pub running_each : (setup : Setup) (events : List Event) (n : ℕ) (outs : List (Vec Output Global)) (g : Standing) → length events ≤ n → Running setup (take n events) outs g → length outs ≡ length events
running_each setup events n outs g past r =
    let all : take n events ≡ events = grind (arith, common_steps) in
    r.count ∙ ap length all

get_mapped : (events : List Event) (n : ℕ) (event : Event) → n < length events → event ≡ get_or events n event → slice_get (map event_of events) n ≡ Some (event_of event)
get_mapped [] n event lt at = absurd (omega arith)
get_mapped (x ∷ events) zero event lt at = ap (λ e. Some (event_of e)) (sym at)
get_mapped (x ∷ events) (suc n) event lt at = get_mapped events n event (omega arith) at

-- where the gateway stands before an event
record IsBefore (setup : Setup) (events : List Event) (n : ℕ) (outs : List (Vec Output Global)) (g : Standing) : Type 0 where
  each : length outs ≡ n
  run : List Move
  stands : Stands setup g (reverse (log_of events outs)) run

before : (setup : Setup) (events : List Event) (n : ℕ) (outs : List (Vec Output Global)) (g : Standing) → n < length events → Running setup (take n events) outs g → IsBefore setup events n outs g
before setup events n outs g lt r =
    let taken : length (take n events) ≡ n = grind (arith, common_steps) in
    let each : length outs ≡ n = r.count ∙ taken in
    record { each = each; run = r.run; stands = subst (λ l. Stands setup g (reverse l) r.run) (log_taken events outs n each) r.stands }

-- the next event may not come
pub running_refused : (setup : Setup) (events : List Event) (n : ℕ) (outs : List (Vec Output Global)) (g : Standing) (event : Event) → n < length events → event ≡ get_or events n event
    → ((s : Setup) (log : List logs.Step) (run : List Move) → Stands s g log run → IsAdmitted (known_of s (conducts run)) (tape_of run) (event_of event) → ⊥)
    → Running setup (take n events) outs g → IsRefusedBehind setup events outs n
running_refused setup events n outs g event lt at turned r =
    let here = before setup events n outs g lt r in
    let promise = promised_at setup g (log_of events outs) here.run here.stands in
    record {
      each = here.each;
      event = event_of event;
      found = get_mapped events n event lt at;
      promise = promise.0;
      refused = λ may. turned setup (reverse (log_of events outs)) here.run here.stands (subst (λ t. IsAdmitted (known_of setup (conducts here.run)) t (event_of event)) promise.1 (subst (λ k. IsAdmitted k promise.0.headline.tape (event_of event)) promise.2 may));
    }

-- memory was refused at it
pub running_cut : (setup : Setup) (events : List Event) (n : ℕ) (outs : List (Vec Output Global)) (g : Standing) → n < length events → Running setup (take n events) outs g → IsCutAt setup events outs n
running_cut setup events n outs g lt r =
    let here = before setup events n outs g lt r in
    record { each = here.each; within = lt; promise = (promised_at setup g (log_of events outs) here.run here.stands).0 }

-- what is said where what was put out isn't told
pub explained : (setup : Setup) (events : List Event) (outs : List (Vec Output Global)) (fault : RunFault) → Stops setup events outs fault → Explains setup (map event_of events) fault
explained setup events outs (NotAdmitted place) s = record {
  event = s.event;
  found = s.found;
  log = log_of events outs;
  are_events = log_events events outs place s.event s.each s.found;
  promise = s.promise;
  refused = s.refused;
}
explained setup events outs (Memory place) (inl cut) = inl (rw (length-map events event_of) cut.within)
explained setup events outs (Memory place) (inr first) = inr first.0
