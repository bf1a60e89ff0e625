-- The log that calls tell, and what serving adds to it.
use Rattle.std.proofs.Common.{◌≡◌, ◌+◌, ◌<◌, suc, take, get_or, arith, length, Ok, Err, Result, Bool, true, false, Option, Some, List, [], ◌∷◌, ◌++◌, ℕ, reverse, refl, ap, sym, ◌∙◌, append_assoc, append-nil, inl, inr}
use Rattle.std.specs.Prelude.{⊤}
use Rattle.std.specs.List.{list_any}
use Rattle.std.proofs.Math.Seq.{take-suc}
use Rattle.std.proofs.lemmas.List.{reverse-append, reverse-reverse, map-append}
use Rattle.model.specs.Logs as logs
use Rattle.model.specs.Logs.{Step}
use Rattle.model.specs.Rooms.{IsAdmitted}
use Rattle.model.specs.Setup.{Setup}
use Rattle.theory_errors.specs.Rule.{known_of}
use Rattle.theory.specs.Moves.{Move}
use Rattle.theory.specs.State.{conducts, tape_of}
use Rattle.effects.specs.Views.{event_of, output_of, outputs_of}
use Rattle.effects.specs.declared.events.Event.{Event}
use Rattle.effects.specs.declared.events.Output.{Output}
use Rattle.gateway.specs.Rooms.{AreRooms}
use Rattle.gateway.specs.Stands.{Standing, Stands, StandsNext}
use Rattle.driver.specs.Worlds.{Handed, Serves, AddsEvent, AddsHanded, came, with_outputs, closes, is_closed, peer_of}
use Rattle.driver.specs.Calls.{Call, Along, told, log_of, handed_by, put_behind, AreWhole, AreCutShort, Moves, AppliesTo, Runs, HasCome, WasServed, AreAskedRightly}
use Rattle.driver.specs.Calls.Call.{Asked, Applied, Aside}
use Rattle.driver.specs.declared.services.Peer.{Peer}
use Rattle.driver.specs.declared.services.ServiceEnd.{ServiceEnd}
use Rattle.driver.specs.declared.services.ServeFault.TheVariants.{World, Memory, NotAdmitted}
use Rattle.driver.specs.declared.world.Next.{Next}
use Rattle.driver.specs.declared.world.Next.TheVariants.{Happened, Nothing, Over}
use Rattle.driver.specs.declared.world.WorldFault.{WorldFault}
use Rattle.driver.proofs.Adding.{Steps, TellsIdle, serves_none, serves_same, serves_more, serves_run, front_whole, front_lacks, may_not_come, unanswered, hands_one, hands_of, hands_step, hands_none}

-- ---- a call that asked

turned : (step : Step) (log : List Step) → reverse (step ∷ log) ≡ reverse log ++ step ∷ []
turned step log = reverse-append (step ∷ []) log

-- The event that was answered stands at the end of what is told.
pub tells_event : (rooms : List (ℕ × ℕ)) (idle : List ℕ) (next : Next) (calls : List Call) → AddsEvent (told calls) next (told (Asked rooms idle (Ok next) ∷ calls))
tells_event rooms idle (Happened event) calls = λ before is.
    let log : reverse (log_of calls) ≡ before = cc in
    ap Some (turned (came event) (log_of calls) ∙ ap (λ l. l ++ came event ∷ []) log)
tells_event rooms idle Nothing calls = refl
tells_event rooms idle Over calls = refl

-- What it was told is told behind what those before it were.
pub tells_handed : (rooms : List (ℕ × ℕ)) (idle : List ℕ) (next : Next) (calls : List Call)
    → AddsHanded (told calls) (Some (handed_by calls)) rooms idle (Some (handed_by (Asked rooms idle (Ok next) ∷ calls)))
tells_handed rooms idle next calls = λ steps earlier is was.
    let log : reverse (log_of calls) ≡ steps = cc in
    let hands : handed_by calls ≡ earlier = cc in
    ap (λ (l : List Step). Some (handed_by calls ++ record { steps = length l; rooms = rooms; idle = idle } ∷ [])) log
    ∙ ap (λ (hs : List Handed). Some (hs ++ record { steps = length steps; rooms = rooms; idle = idle } ∷ [])) hands

-- ---- a call that was handed an output

abbrev is_none_of : List Step → Bool
is_none_of [] = true
is_none_of (step ∷ log) = false

last_of : List Step → Step → Step
last_of [] other = other
last_of (step ∷ log) other = step

-- What is told with its newest step last is that step with the log before it the other way round.
newest : (log before : List Step) (step : Step) → reverse log ≡ before ++ step ∷ [] → log ≡ step ∷ reverse before
newest log before step is = sym (reverse-reverse log) ∙ ap reverse is ∙ reverse-append before (step ∷ [])

-- An output that was done stands behind those of the newest step.
pub tells_output : (output : Output) (calls : List Call) (before : List Step) (step : Step) (done : ⊤) → told calls ≡ Some (before ++ step ∷ [])
    → told (Applied output (Ok done) ∷ calls) ≡ Some (before ++ with_outputs step (output_of output ∷ []) ∷ [])
tells_output output calls before step done is =
    let log : reverse (log_of calls) ≡ before ++ step ∷ [] = cc in
    ap (λ l. Some (reverse (put_behind output l))) (newest (log_of calls) before step log)
    ∙ ap Some (turned (with_outputs step (output_of output ∷ [])) (reverse before) ∙ ap (λ l. l ++ with_outputs step (output_of output ∷ []) ∷ []) (reverse-reverse before))

-- A log that ends with a step is told by calls with an event.
not_empty : (before : List Step) (step : Step) → [] ≡ before ++ step ∷ [] → ⊥
not_empty [] step is = absurd (let no : true ≡ false = ap (λ (log : List Step). is_none_of log) is in cc)
not_empty (other ∷ before) step is = absurd (let no : true ≡ false = ap (λ (log : List Step). is_none_of log) is in cc)

told_some : (calls : List Call) (before : List Step) (step : Step) → told calls ≡ Some (before ++ step ∷ []) → log_of calls ≡ [] → ⊥
told_some calls before step is none =
    let log : reverse (log_of calls) ≡ before ++ step ∷ [] = cc in
    not_empty before step (sym (ap reverse none) ∙ log)

-- ---- what calls lead to

pub with_none : (step : Step) → with_outputs step [] ≡ step
with_none step = ap (λ os. record { event = step.event; outputs = os }) (append-nil step.outputs)

-- the outputs before a place, and the one there
pub one_more : (n : ℕ) (outs : List Output) (output : Output) → n < length outs → output ≡ get_or outs n output → take (n + 1) outs ≡ take n outs ++ output ∷ []
one_more n outs output within is =
    ap (λ m. take m outs) (let e : n + 1 ≡ suc n = omega arith in e) ∙ take-suc outs n output within ∙ ap (λ o. take n outs ++ o ∷ []) (sym is)

pub with_more : (step : Step) (done : List Output) (output : Output) → with_outputs (with_outputs step (outputs_of done)) (output_of output ∷ []) ≡ with_outputs step (outputs_of (done ++ output ∷ []))
with_more step done output =
    ap (λ os. record { event = step.event; outputs = os }) (append_assoc step.outputs (outputs_of done) (output_of output ∷ []) ∙ ap (λ os. step.outputs ++ os) (sym (map-append output_of done (output ∷ []))))

module _ {W : Type 0} (moves : W → Call → W → Type 0) (hears : W → Type 0) (could_read : W → ℕ → Bool) (heard_at looks : W → ℕ) where
  abbrev Goes : (begun old : W) → Call → W → Type 0
  Goes begun old call new = Moves moves hears could_read heard_at looks (hears begun) old call new

  abbrev CameAlong : W → List Call → W → Type 0
  CameAlong begun calls world = Along (Goes begun) begun calls world

  -- ---- outputs

  pub applies_none : (begun world : W) (calls : List Call) (before : List Step) (step : Step) → CameAlong begun calls world → told calls ≡ Some (before ++ step ∷ [])
      → AppliesTo moves hears could_read heard_at looks AreWhole begun calls (before ++ with_outputs step [] ∷ []) world
  applies_none begun world calls before step along is = record {
    more = calls;
    along = along;
    tells = is ∙ ap (λ s. Some (before ++ s ∷ [])) (sym (with_none step));
    same = refl;
    are = λ whole. whole;
  }

  -- one more of the outputs
  pub applies_more : (begun old new : W) (calls : List Call) (before : List Step) (step : Step) (done : List Output) (output : Output) (answer : ⊤) → Goes begun old (Applied output (Ok answer)) new
      → AppliesTo moves hears could_read heard_at looks AreWhole begun calls (before ++ with_outputs step (outputs_of done) ∷ []) old
      → AppliesTo moves hears could_read heard_at looks AreWhole begun calls (before ++ with_outputs step (outputs_of (done ++ output ∷ [])) ∷ []) new
  applies_more begun old new calls before step done output answer goes a = record {
    more = Applied output (Ok answer) ∷ a.more;
    along = (old, a.along, goes);
    tells = tells_output output a.more before (with_outputs step (outputs_of done)) answer a.tells ∙ ap (λ s. Some (before ++ s ∷ [])) (with_more step done output);
    same = a.same;
    are = λ whole. (told_some a.more before (with_outputs step (outputs_of done)) a.tells, a.are whole);
  }

  -- One that failed tells nothing.
  pub applies_failed : (begun old new : W) (calls : List Call) (before : List Step) (step : Step) (output : Output) (fault : WorldFault) → Goes begun old (Applied output (Err fault)) new
      → AppliesTo moves hears could_read heard_at looks AreWhole begun calls (before ++ step ∷ []) old → AppliesTo moves hears could_read heard_at looks AreCutShort begun calls (before ++ step ∷ []) new
  applies_failed begun old new calls before step output fault goes a = record {
    more = Applied output (Err fault) ∷ a.more;
    along = (old, a.along, goes);
    tells = a.tells;
    same = a.same;
    are = λ whole. (told_some a.more before step a.tells, a.are whole);
  }

  -- ---- a world that was asked

  -- It wasn't called yet.
  pub runs_none : (setup : Setup) (world : W) (g : Standing) (rooms : List (ℕ × ℕ)) → rooms ≡ [] → Stands setup g [] [] → Runs moves hears could_read heard_at looks setup false world world g rooms
  runs_none setup world g rooms none stands = record {
    calls = [];
    along = refl;
    whole = tt;
    hears_on = λ h. h;
    serves = serves_none setup (told []) g rooms (Some []) [] refl none stands;
  }

  -- It moved on between calls.
  pub runs_aside : (setup : Setup) (begun old new : W) (g : Standing) (rooms : List (ℕ × ℕ)) (closed : Bool) (done : ⊤) → Goes begun old (Aside (Ok done)) new → (hears old → hears new)
      → Runs moves hears could_read heard_at looks setup closed begun old g rooms → Runs moves hears could_read heard_at looks setup closed begun new g rooms
  runs_aside setup begun old new g rooms closed done goes on r =
      record { calls = Aside (Ok done) ∷ r.calls; along = (old, r.along, goes); whole = r.whole; hears_on = λ h. on (r.hears_on h); serves = r.serves }

  -- It failed between calls.
  pub served_aside : (setup : Setup) (begun old new : W) (g : Standing) (rooms : List (ℕ × ℕ)) (closed : Bool) (fault : WorldFault) → Goes begun old (Aside (Err fault)) new
      → Runs moves hears could_read heard_at looks setup closed begun old g rooms → WasServed moves hears could_read heard_at looks setup (Err World) begun new
  served_aside setup begun old new g rooms closed fault goes r = record {
    calls = Aside (Err fault) ∷ r.calls;
    along = (old, r.along, goes);
    is = (
      front_whole setup closed (told r.calls) (told r.calls) g rooms (Some []) (Some (handed_by r.calls)) [] refl r.serves,
      hands_of setup closed (told r.calls) g rooms (Some []) (Some (handed_by r.calls)) [] r.serves,
      r.whole,
    );
  }

  module _ (setup : Setup) (begun old new : W) (g : Standing) (rooms : List (ℕ × ℕ)) (idle : List ℕ) (tells : TellsIdle g idle) (r : Runs moves hears could_read heard_at looks setup false begun old g rooms) where
    -- Nothing came.
    pub runs_nothing : Goes begun old (Asked rooms idle (Ok Nothing)) new → (hears old → hears new) → Runs moves hears could_read heard_at looks setup false begun new g rooms
    runs_nothing goes on = record {
      calls = Asked rooms idle (Ok Nothing) ∷ r.calls;
      along = (old, r.along, goes);
      whole = r.whole;
      hears_on = λ h. on (r.hears_on h);
      serves = serves_same setup (told r.calls) (told r.calls) g rooms idle (Some []) (Some (handed_by r.calls)) (Some (handed_by (Asked rooms idle (Ok Nothing) ∷ r.calls))) [] refl (tells_handed rooms idle Nothing r.calls) tells r.serves;
    }

    pub runs_over : Goes begun old (Asked rooms idle (Ok Over)) new → (hears old → hears new) → Runs moves hears could_read heard_at looks setup false begun new g rooms
    runs_over goes on = record {
      calls = Asked rooms idle (Ok Over) ∷ r.calls;
      along = (old, r.along, goes);
      whole = r.whole;
      hears_on = λ h. on (r.hears_on h);
      serves = serves_same setup (told r.calls) (told r.calls) g rooms idle (Some []) (Some (handed_by r.calls)) (Some (handed_by (Asked rooms idle (Ok Over) ∷ r.calls))) [] refl (tells_handed rooms idle Over r.calls) tells r.serves;
    }

    -- The call failed.
    pub served_failed : (fault : WorldFault) → Goes begun old (Asked rooms idle (Err fault)) new → WasServed moves hears could_read heard_at looks setup (Err World) begun new
    served_failed fault goes = record {
      calls = Asked rooms idle (Err fault) ∷ r.calls;
      along = (old, r.along, goes);
      is = (
        front_whole setup false (told r.calls) (told r.calls) g rooms (Some []) (Some (handed_by r.calls)) [] refl r.serves,
        hands_of setup false (told r.calls) g rooms (Some []) (Some (handed_by r.calls)) [] r.serves,
        r.whole,
      );
    }

    -- An event came.
    pub has_come : (event : Event) → Goes begun old (Asked rooms idle (Ok (Happened event))) new → (hears old → hears new) → HasCome moves hears could_read heard_at looks setup begun new g rooms event
    has_come event goes on = record {
      calls = Asked rooms idle (Ok (Happened event)) ∷ r.calls;
      along = (old, r.along, goes);
      whole = r.whole;
      hears_on = λ h. on (r.hears_on h);
      added = r.serves.added;
      run = r.serves.run;
      is = tells_event rooms idle (Happened event) r.calls r.serves.added r.serves.is;
      stands = r.serves.stands;
      goes_on = r.serves.has_closed_is;
      rooms_are = r.serves.rooms_are;
      hands = hands_one setup (told r.calls) g rooms idle (Some []) (Some (handed_by r.calls)) (Some (handed_by (Asked rooms idle (Ok (Happened event)) ∷ r.calls))) [] (tells_handed rooms idle (Happened event) r.calls) tells r.serves;
    }

  -- ---- an event that came

  module _ (setup : Setup) (begun world : W) (g : Standing) (rooms : List (ℕ × ℕ)) (event : Event) (h : HasCome moves hears could_read heard_at looks setup begun world g rooms event) where
    -- what was served before it
    before : Serves setup false (Some h.added) g rooms (Some []) (Some (handed_by h.calls)) []
    before = record { added = h.added; run = h.run; is = refl; stands = h.stands; has_closed_is = h.goes_on; rooms_are = h.rooms_are; hands = h.hands }

    asked_rightly : AreAskedRightly setup h.calls
    asked_rightly = hands_step setup [] h.added (came event) (Some []) (Some (handed_by h.calls)) (Some (handed_by h.calls)) (told h.calls) h.is refl h.hands

    -- It may not come.
    pub served_refused : (peer : Peer) → peer_of event ≡ peer → ((log : List Step) (run : List Move) → Stands setup g log run → IsAdmitted (known_of setup (conducts run)) (tape_of run) (event_of event) → ⊥)
        → WasServed moves hears could_read heard_at looks setup (Err (NotAdmitted peer)) begun world
    unfolding before
    served_refused peer of refused = record {
      calls = h.calls;
      along = h.along;
      is = (
        (h.added, event, h.is, may_not_come setup false (Some h.added) g rooms (Some []) (Some (handed_by h.calls)) [] event before (refused (reverse h.added) h.run h.stands), of),
        asked_rightly,
        h.whole,
      );
    }

    -- Memory was refused.
    pub served_unanswered : WasServed moves hears could_read heard_at looks setup (Err Memory) begun world
    unfolding before
    served_unanswered = record {
      calls = h.calls;
      along = h.along;
      is = (
        inr (unanswered setup false (Some h.added) (told h.calls) (told h.calls) g rooms (Some []) (Some (handed_by h.calls)) [] event refl before h.is),
        asked_rightly,
        h.whole,
      );
    }

    module _ (g' : Standing) (old out : List Output) (steps : Steps g g' event old out) where
      -- It was answered, and what is put out was done.
      pub runs_on : (new : W) (closed : Bool) (rooms' : List (ℕ × ℕ)) → closed ≡ list_any (λ output. closes (output_of output)) out
          → ((next : StandsNext setup g' (reverse h.added) h.run (event_of event) (outputs_of out)) → AreRooms (known_of setup (conducts (next.segment ++ h.run))) (tape_of (next.segment ++ h.run)) rooms')
          → (hears world → hears new) → AppliesTo moves hears could_read heard_at looks AreWhole begun h.calls (h.added ++ with_outputs (came event) (outputs_of out) ∷ []) new
          → Runs moves hears could_read heard_at looks setup closed begun new g' rooms'
      runs_on new closed rooms' ends noted on a = record {
        calls = a.more;
        along = a.along;
        whole = a.are h.whole;
        hears_on = λ x. on (h.hears_on x);
        serves = serves_more setup g g' [] h.added h.run event old out (told a.more) closed rooms' (Some []) (Some (handed_by h.calls)) (Some (handed_by a.more)) a.tells steps ends h.goes_on h.stands noted h.hands (ap Some a.same);
      }

      -- A front of it was.
      pub served_front : (new : W) (done more : List logs.Output) → outputs_of out ≡ done ++ more → AppliesTo moves hears could_read heard_at looks AreCutShort begun h.calls (h.added ++ with_outputs (came event) done ∷ []) new
          → WasServed moves hears could_read heard_at looks setup (Err World) begun new
      served_front new done more parts a = record {
        calls = a.more;
        along = a.along;
        is = (
          front_lacks setup g g' [] h.added h.run event old out (told a.more) done more parts a.tells steps h.stands,
          hands_step setup [] h.added (with_outputs (came event) done) (Some []) (Some (handed_by h.calls)) (Some (handed_by a.more)) (told a.more) a.tells (ap Some a.same) h.hands,
          a.are h.whole,
        );
      }

  -- ---- how it ended

  pub served_ended : (setup : Setup) (begun world : W) (g : Standing) (rooms : List (ℕ × ℕ)) (closed : Bool) (ended : ServiceEnd) → closed ≡ is_closed ended → Runs moves hears could_read heard_at looks setup closed begun world g rooms
      → WasServed moves hears could_read heard_at looks setup (Ok ended) begun world
  served_ended setup begun world g rooms closed ended is r = record {
    calls = r.calls;
    along = r.along;
    is = (
      serves_run setup closed ended (told r.calls) g rooms (Some []) (Some (handed_by r.calls)) [] r.serves is,
      hands_of setup closed (told r.calls) g rooms (Some []) (Some (handed_by r.calls)) [] r.serves,
      r.whole,
    );
  }

  -- Nothing was called.
  pub served_nothing : (setup : Setup) (world : W) → WasServed moves hears could_read heard_at looks setup (Err Memory) world world
  served_nothing setup world = record { calls = []; along = refl; is = (inl refl, hands_none setup (told []) (Some []) [] refl, tt) }
