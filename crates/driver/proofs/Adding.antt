-- What serving a world adds to its log.
use Rattle.std.specs.Prelude.{IsErrOf, is_ok, OnOk}
use Rattle.std.proofs.Common.{◌≡◌, length, length-append, Ok, Err, Result, ◌||◌, Bool, true, false, Option, Some, List, [], ◌∷◌, ◌++◌, ℕ, take, drop, reverse, refl, ap, sym, ◌∙◌, subst, append_assoc, append-nil}
use Rattle.std.specs.List.{list_any}
use Rattle.std.proofs.lemmas.List.{reverse-append, take-append-drop, map-append}
use Rattle.model.specs.Rooms.{IsAdmitted}
use Rattle.theory_errors.specs.Rule.{known_of}
use Rattle.model.specs.Logs as logs
use Rattle.model.specs.Logs.{Step}
use Rattle.model.specs.Setup.{Setup}
use Rattle.effects.specs.Views.{event_of, output_of, outputs_of}
use Rattle.theory.specs.Moves.{Move}
use Rattle.theory.specs.State.{conducts, tape_of}
use Rattle.gateway.specs.Promises.{Promise}
use Rattle.gateway.specs.Rooms.{AreRooms, AreAllIdle}
use Rattle.gateway.specs.Stands.{Standing, Stands, StandsNext}
use Rattle.gateway.proofs.Running.{promised_at}
use Rattle.effects.specs.declared.events.Event.{Event}
use Rattle.effects.specs.declared.events.Output.{Output}
use Rattle.driver.specs.declared.services.ServiceEnd.{ServiceEnd}
use Rattle.driver.specs.declared.services.Peer.{Peer}
use Rattle.driver.specs.declared.services.ServeFault.TheVariants.{NotAdmitted}
use Rattle.driver.specs.Worlds.{Handed, Serves, StandsWithRooms, AddsPromised, AddsFrontTo, AddsUnansweredTo, AddsHanded, IsHanded, AreHanded, AreAllHanded, HandsTo, MayNotCome, came, with_outputs, closes, has_closed, is_closed}
use Rattle.driver.specs.Worlds.IsFrontOf.{Whole, Lacks}

-- ---- whether the client is closed

either_false : (a b : Bool) → (a || b) ≡ false → (a ≡ false) × (b ≡ false)
either_false false b h = (refl, h)
either_false true b h = absurd (cc)

or_nothing : (a : Bool) → (a || false) ≡ a
or_nothing false = refl
or_nothing true = refl

-- It is closed in a log in which it wasn't just where the next step closes it.
has_closed_more : (added : List Step) (step : Step) → has_closed added ≡ false → has_closed (added ++ step ∷ []) ≡ list_any closes step.outputs
has_closed_more [] step h = or_nothing (list_any closes step.outputs)
has_closed_more (s ∷ ss) step h =
    let parts = either_false (list_any closes s.outputs) (has_closed ss) h in
    ap (λ b. b || has_closed (ss ++ step ∷ [])) parts.0 ∙ has_closed_more ss step parts.1

closes_seen : (out : List Output) → list_any closes (outputs_of out) ≡ list_any (λ output. closes (output_of output)) out
closes_seen [] = refl
closes_seen (o ∷ out) = ap (λ b. closes (output_of o) || b) (closes_seen out)

-- ---- what was handed

-- What was handed is right for more that was added, too.
is_handed_more : (setup : Setup) (n : ℕ) (added more : List Step) (h : Handed) → IsHanded setup n added h → IsHanded setup n (added ++ more) h
is_handed_more setup n added more h i = record {
  front = i.front;
  rest = i.rest ++ more;
  parts = ap (λ l. l ++ more) i.parts ∙ append_assoc i.front i.rest more;
  goes_on = i.goes_on;
  steps = i.steps;
  promise = i.promise;
  rooms = i.rooms;
  idle = i.idle;
}

are_handed_more : (setup : Setup) (n : ℕ) (added more : List Step) (hs : List Handed) → AreHanded setup n added hs → AreHanded setup n (added ++ more) hs
are_handed_more setup n added more [] all = tt
are_handed_more setup n added more (h ∷ hs) all = (is_handed_more setup n added more h all.0, are_handed_more setup n added more hs all.1)

are_handed_end : (setup : Setup) (n : ℕ) (added : List Step) (hs : List Handed) (h : Handed) → AreHanded setup n added hs → IsHanded setup n added h → AreHanded setup n added (hs ++ h ∷ [])
are_handed_end setup n added [] h all one = (one, tt)
are_handed_end setup n added (x ∷ hs) h all one = (all.0, are_handed_end setup n added hs h all.1 one)

all_handed_more : (setup : Setup) (n : ℕ) (added more : List Step) (old new : Option (List Handed)) → AreAllHanded setup n added old new → AreAllHanded setup n (added ++ more) old new
all_handed_more setup n added more old new all = λ earlier e. let a = all earlier e in (a.0, a.1, are_handed_more setup n added more a.0 a.2)

-- ---- the log

-- No rooms are those behind nothing.
no_rooms : (setup : Setup) (rooms : List (ℕ × ℕ)) → rooms ≡ [] → AreRooms (known_of setup []) [] rooms
no_rooms setup rooms none = subst (λ r. AreRooms (known_of setup []) [] r) (sym none) (record { rise = tt; listed = λ k. refl; each = tt })

-- A new gateway stands for no steps.
pub stands_none : (setup : Setup) (g : Standing) (rooms : List (ℕ × ℕ)) → rooms ≡ [] → Stands setup g [] [] → StandsWithRooms setup g rooms
stands_none setup g rooms none stands = record { log = []; run = []; stands = stands; rooms_are = no_rooms setup rooms none }

-- Nothing was added yet, and nothing handed.
pub serves_none : (setup : Setup) (log : Option (List Step)) (g : Standing) (rooms : List (ℕ × ℕ)) (handed : Option (List Handed)) (before : List Step) → log ≡ Some before → rooms ≡ [] → Stands setup g [] []
    → Serves setup false log g rooms handed handed before
serves_none setup log g rooms handed before e none stands = record {
  added = [];
  run = [];
  is = e ∙ ap Some (sym (append-nil before));
  stands = stands;
  has_closed_is = refl;
  rooms_are = no_rooms setup rooms none;
  hands = λ earlier h. ([], h ∙ ap Some (sym (append-nil earlier)), tt);
}

-- What the gateway did with an event.
pub record Steps (g g' : Standing) (event : Event) (old out : List Output) : Type 0 where
  pub none : old ≡ []
  pub puts : (outputs : List logs.Output) × (outputs_of out ≡ outputs_of old ++ outputs)
      × ((s : Setup) (l : List Step) (r : List Move) → Stands s g l r → StandsNext s g' l r (event_of event) outputs)

-- Afterwards it stands for the log with what was put out.
pub next_of : (g g' : Standing) (event : Event) (old out : List Output) → Steps g g' event old out → (setup : Setup) (log : List Step) (run : List Move) → Stands setup g log run → StandsNext setup g' log run (event_of event) (outputs_of out)
next_of g g' event old out steps setup log run stands =
    let all : outputs_of out ≡ steps.puts.0 = steps.puts.1 ∙ ap (λ x. outputs_of x ++ steps.puts.0) steps.none in
    subst (λ o. StandsNext setup g' log run (event_of event) o) (sym all) (steps.puts.2 setup log run stands)

-- Afterwards the gateway stands for some log with the rooms behind it, as before.
pub stands_on : (g g' : Standing) (event : Event) (old out : List Output) → Steps g g' event old out → (rooms rooms' : List (ℕ × ℕ))
    → ((setup : Setup) (log : List Step) (run : List Move) (next : StandsNext setup g' log run (event_of event) (outputs_of out)) → AreRooms (known_of setup (conducts run)) (tape_of run) rooms
    → AreRooms (known_of setup (conducts (next.segment ++ run))) (tape_of (next.segment ++ run)) rooms')
    → (setup : Setup) → StandsWithRooms setup g rooms → StandsWithRooms setup g' rooms'
stands_on g g' event old out steps rooms rooms' noted setup s =
    let next = next_of g g' event old out steps setup s.log s.run s.stands in record {
      log = record { event = event_of event; outputs = outputs_of out } ∷ s.log;
      run = next.segment ++ s.run;
      stands = next.stands;
      rooms_are = noted setup s.log s.run next s.rooms_are;
    }

-- The log with this step stands for the gateway behind it.
stands_more : (setup : Setup) (g g' : Standing) (added : List Step) (run : List Move) (event : Event) (old out : List Output) → (steps : Steps g g' event old out)
    → (stands : Stands setup g (reverse added) run)
    → Stands setup g' (reverse (added ++ with_outputs (came event) (outputs_of out) ∷ [])) ((next_of g g' event old out steps setup (reverse added) run stands).segment ++ run)
stands_more setup g g' added run event old out steps stands =
    let next = next_of g g' event old out steps setup (reverse added) run stands in
    subst (λ l. Stands setup g' l (next.segment ++ run)) (sym (reverse-append added (with_outputs (came event) (outputs_of out) ∷ []))) next.stands

-- One more step was added.
pub serves_more : (setup : Setup) (g g' : Standing) (before added : List Step) (run : List Move) (event : Event) (old out : List Output) (log : Option (List Step)) (closed : Bool) (rooms : List (ℕ × ℕ)) (earlier handed handed' : Option (List Handed))
    → log ≡ Some (before ++ added ++ with_outputs (came event) (outputs_of out) ∷ []) → Steps g g' event old out
    → closed ≡ list_any (λ output. closes (output_of output)) out → has_closed added ≡ false
    → Stands setup g (reverse added) run
    → ((next : StandsNext setup g' (reverse added) run (event_of event) (outputs_of out)) → AreRooms (known_of setup (conducts (next.segment ++ run))) (tape_of (next.segment ++ run)) rooms)
    → AreAllHanded setup (length before) added earlier handed → handed' ≡ handed
    → Serves setup closed log g' rooms earlier handed' before
serves_more setup g g' before added run event old out log closed rooms earlier handed handed' is steps ends still stands noted hands same =
    let next = next_of g g' event old out steps setup (reverse added) run stands in
    record {
      added = added ++ with_outputs (came event) (outputs_of out) ∷ [];
      run = next.segment ++ run;
      is = is ∙ ap Some (append_assoc before added (with_outputs (came event) (outputs_of out) ∷ []));
      stands = stands_more setup g g' added run event old out steps stands;
      has_closed_is = has_closed_more added (with_outputs (came event) (outputs_of out)) still ∙ closes_seen out ∙ sym ends;
      rooms_are = noted next;
      hands = all_handed_more setup (length before) added (with_outputs (came event) (outputs_of out) ∷ []) earlier handed' (subst (λ h. AreAllHanded setup (length before) added earlier h) (sym same) hands);
    }

-- What is promised holds of what was added.
pub serves_run : (setup : Setup) (closed : Bool) (ended : ServiceEnd) (log : Option (List Step)) (g : Standing) (rooms : List (ℕ × ℕ)) (old handed : Option (List Handed)) (before : List Step) → Serves setup closed log g rooms old handed before → closed ≡ is_closed ended
    → AddsPromised setup (is_closed ended) before log
serves_run setup closed ended log g rooms old handed before s is = (s.added, s.is, (promised_at setup g s.added s.run s.stands).0, s.has_closed_is ∙ is)

-- What was added, before a call of the world failed.
pub front_whole : (setup : Setup) (closed : Bool) (log log' : Option (List Step)) (g : Standing) (rooms : List (ℕ × ℕ)) (old handed : Option (List Handed)) (before : List Step) → log' ≡ log → Serves setup closed log g rooms old handed before → AddsFrontTo setup before log'
front_whole setup closed log log' g rooms old handed before e s = (s.added, s.added, e ∙ s.is, Whole s.added, (promised_at setup g s.added s.run s.stands).0)

-- Outputs were applied until one failed.
pub front_lacks : (setup : Setup) (g g' : Standing) (before added : List Step) (run : List Move) (event : Event) (old out : List Output) (log : Option (List Step)) (done more : List logs.Output)
    → outputs_of out ≡ done ++ more → log ≡ Some (before ++ added ++ with_outputs (came event) done ∷ []) → Steps g g' event old out
    → Stands setup g (reverse added) run → AddsFrontTo setup before log
front_lacks setup g g' before added run event old out log done more parts is steps stands =
    let next = next_of g g' event old out steps setup (reverse added) run stands in
    let whole : added ++ with_outputs (came event) (outputs_of out) ∷ [] ≡ added ++ with_outputs (with_outputs (came event) done) more ∷ [] =
    ap (λ os. added ++ with_outputs (came event) os ∷ []) parts in (
      added ++ with_outputs (came event) done ∷ [],
      added ++ with_outputs (with_outputs (came event) done) more ∷ [],
      is ∙ ap Some (append_assoc before added (with_outputs (came event) done ∷ [])),
      Lacks added (with_outputs (came event) done) more,
      subst (λ l. Promise setup l) whole (promised_at setup g' (added ++ with_outputs (came event) (outputs_of out) ∷ []) (next.segment ++ run) (stands_more setup g g' added run event old out steps stands)).0,
    )

-- An event came that may not.
pub may_not_come : (setup : Setup) (closed : Bool) (log : Option (List Step)) (g : Standing) (rooms : List (ℕ × ℕ)) (old handed : Option (List Handed)) (before : List Step) (event : Event) → (s : Serves setup closed log g rooms old handed before)
    → (IsAdmitted (known_of setup (conducts s.run)) (tape_of s.run) (event_of event) → ⊥) → MayNotCome setup s.added (event_of event)
may_not_come setup closed log g rooms old handed before event s refused =
    let promised = promised_at setup g s.added s.run s.stands in record { promise = promised.0; refused = λ may. refused (subst (λ t. IsAdmitted (known_of setup (conducts s.run)) t (event_of event)) promised.1 (subst (λ k. IsAdmitted k promised.0.headline.tape (event_of event)) promised.2 may)) }

-- Nothing is put out for the event that came last.
pub unanswered : (setup : Setup) (closed : Bool) (log came_log log' : Option (List Step)) (g : Standing) (rooms : List (ℕ × ℕ)) (old handed : Option (List Handed)) (before : List Step) (event : Event) → log' ≡ came_log
    → (s : Serves setup closed log g rooms old handed before) → came_log ≡ Some (before ++ s.added ++ came event ∷ []) → AddsUnansweredTo setup before log'
unanswered setup closed log came_log log' g rooms old handed before event same s is = (s.added, event, same ∙ is, (promised_at setup g s.added s.run s.stands).0)

-- ---- a call of `next`

-- Those that are idle are so behind whatever log the gateway stands for.
abbrev pub TellsIdle : Standing → List ℕ → Type 0
TellsIdle g idle = (setup : Setup) (log : List Step) (run : List Move) → Stands setup g log run → AreAllIdle (known_of setup (conducts run)) (tape_of run) idle

-- What it was handed is right, and so is what was handed before.
pub hands_one : (setup : Setup) (log : Option (List Step)) (g : Standing) (rooms : List (ℕ × ℕ)) (idle : List ℕ) (old handed handed' : Option (List Handed)) (before : List Step) → AddsHanded log handed rooms idle handed'
    → TellsIdle g idle → (s : Serves setup false log g rooms old handed before) → AreAllHanded setup (length before) s.added old handed'
hands_one setup log g rooms idle old handed handed' before adds tells s = λ earlier e.
    let a = s.hands earlier e in
    let p = promised_at setup g s.added s.run s.stands in
    let one : Handed = record { steps = length (before ++ s.added); rooms = rooms; idle = idle } in
    let right : IsHanded setup (length before) s.added one = record {
      front = s.added;
      rest = [];
      parts = sym (append-nil s.added);
      goes_on = s.has_closed_is;
      steps = length-append before s.added;
      promise = p.0;
      rooms = subst (λ k. AreRooms k p.0.headline.tape rooms) (sym p.2) (subst (λ t. AreRooms (known_of setup (conducts s.run)) t rooms) (sym p.1) s.rooms_are);
      idle = subst (λ k. AreAllIdle k p.0.headline.tape idle) (sym p.2) (subst (λ t. AreAllIdle (known_of setup (conducts s.run)) t idle) (sym p.1) (tells setup (reverse s.added) s.run s.stands));
    } in (
      a.0 ++ one ∷ [],
      adds (before ++ s.added) (earlier ++ a.0) s.is a.1 ∙ ap Some (append_assoc earlier a.0 (one ∷ [])),
      are_handed_end setup (length before) s.added a.0 one a.2 right,
    )

-- Nothing came.
pub serves_same : (setup : Setup) (log log' : Option (List Step)) (g : Standing) (rooms : List (ℕ × ℕ)) (idle : List ℕ) (old handed handed' : Option (List Handed)) (before : List Step) → log' ≡ log → AddsHanded log handed rooms idle handed'
    → TellsIdle g idle → Serves setup false log g rooms old handed before → Serves setup false log' g rooms old handed' before
serves_same setup log log' g rooms idle old handed handed' before e adds tells s = record {
  added = s.added;
  run = s.run;
  is = e ∙ s.is;
  stands = s.stands;
  has_closed_is = s.has_closed_is;
  rooms_are = s.rooms_are;
  hands = hands_one setup log g rooms idle old handed handed' before adds tells s;
}

-- What was handed is right where nothing is added any more,
pub hands_still : (setup : Setup) (closed : Bool) (log log' : Option (List Step)) (g : Standing) (rooms : List (ℕ × ℕ)) (old handed handed' : Option (List Handed)) (before : List Step) → log' ≡ log → handed' ≡ handed
    → Serves setup closed log g rooms old handed before → HandsTo setup before old log' handed'
hands_still setup closed log log' g rooms old handed handed' before e same s = (s.added, e ∙ s.is, subst (λ h. AreAllHanded setup (length before) s.added old h) (sym same) s.hands)

-- and where a step is.
pub hands_step : (setup : Setup) (before added : List Step) (step : Step) (old handed handed' : Option (List Handed)) (log : Option (List Step)) → log ≡ Some (before ++ added ++ step ∷ []) → handed' ≡ handed
    → AreAllHanded setup (length before) added old handed → HandsTo setup before old log handed'
hands_step setup before added step old handed handed' log is same hands = (
  added ++ step ∷ [],
  is ∙ ap Some (append_assoc before added (step ∷ [])),
  all_handed_more setup (length before) added (step ∷ []) old handed' (subst (λ h. AreAllHanded setup (length before) added old h) (sym same) hands),
)

-- It is right where the gateway serves still,
pub hands_of : (setup : Setup) (closed : Bool) (log : Option (List Step)) (g : Standing) (rooms : List (ℕ × ℕ)) (old handed : Option (List Handed)) (before : List Step) → Serves setup closed log g rooms old handed before → HandsTo setup before old log handed
hands_of setup closed log g rooms old handed before s = (s.added, s.is, s.hands)

-- and where nothing came.
pub hands_none : (setup : Setup) (log : Option (List Step)) (handed : Option (List Handed)) (before : List Step) → log ≡ Some before → HandsTo setup before handed log handed
hands_none setup log handed before e = ([], e ∙ ap Some (sym (append-nil before)), λ earlier h. ([], h ∙ ap Some (sym (append-nil earlier)), tt))

-- What a call promises where it answers so.
pub on_ok_at : {A E X : Type 0} (r : Result A E) → is_ok r ≡ true → OnOk r X → X
on_ok_at (Ok a) e x = x
on_ok_at (Err f) e x = absurd (let g : false ≡ true = e in cc)

-- Outputs are those before a place and those from it on.
pub cut_outputs : (n : ℕ) (out : List Output) → outputs_of out ≡ outputs_of (take n out) ++ outputs_of (drop n out)
cut_outputs n out = ap outputs_of (sym (take-append-drop n out)) ∙ map-append output_of (take n out) (drop n out)

-- An error is the same one, whatever an answer would have been.
pub same_fault : {A B E : Type 0} (fault other : E) → IsErrOf {T = A} (Err fault) other → IsErrOf {T = B} (Err fault) other
same_fault fault other is = let same : fault ≡ other = cc in rw same refl

-- An answer is no error.
pub no_fault : {A E : Type 0} (answer : A) (fault : E) → IsErrOf (Ok answer) fault → ⊥
no_fault answer fault is = let no : true ≡ false = ap is_ok is in cc

-- The peer that a refusal names is this one.
pub named : {T : Type 0} (one other : Peer) → IsErrOf {T = T} (Err (NotAdmitted one)) (NotAdmitted other) → one ≡ other
named one other is = cc
