-- What a world was called for and what it answered, and along which calls it moved.
use Rattle.std.specs.Prelude.{◌≡◌, ℕ, Bool, true, false, Option, Some, Result, Ok, Err, List, [], ◌∷◌, ◌++◌, ◌⊎◌, length, reverse, ⊤}
use Rattle.std.specs.List.{Contains}
use Rattle.model.specs.Logs.{Step}
use Rattle.model.specs.Setup.{Setup}
use Rattle.effects.specs.Views.{output_of}
use Rattle.effects.specs.declared.events.Event.{Event}
use Rattle.effects.specs.declared.events.Event.TheVariants as event
use Rattle.effects.specs.declared.events.Output.{Output}
use Rattle.theory_errors.specs.Rule.{known_of}
use Rattle.theory.specs.Moves.{Move}
use Rattle.theory.specs.State.{conducts, tape_of}
use Rattle.gateway.specs.Rooms.{AreRooms}
use Rattle.gateway.specs.Stands.{Standing, Stands}
use Rattle.driver.specs.Worlds.{Handed, Serves, AddsPromised, AddsFrontTo, AddsRefusedTo, AddsUnansweredTo, AreAllHanded, HandsTo}
use Rattle.driver.specs.Worlds.{came, with_outputs, has_closed, is_closed, ends}
use Rattle.driver.specs.declared.services.ServiceEnd.{ServiceEnd}
use Rattle.driver.specs.declared.services.ServeFault.{ServeFault}
use Rattle.driver.specs.declared.services.ServeFault.TheVariants as fault
use Rattle.driver.specs.declared.world.Next.{Next}
use Rattle.driver.specs.declared.world.Next.TheVariants.{Happened, Nothing, Over}
use Rattle.driver.specs.declared.world.WorldFault.{WorldFault}

-- A call of a world, with its answer: it was asked what comes next, and told the open connections, each with its room, and those that are idle; or it
-- was handed an output. Beside these it may have moved on between calls, as a world does that is told what is reported, or have failed then.
pub data Call : Type 0 where
  Asked : List (ℕ × ℕ) → List ℕ → Result Next WorldFault → Call
  Applied : Output → Result ⊤ WorldFault → Call
  Aside : Result ⊤ WorldFault → Call

-- A world moved from one state to another along these calls, the newest first.
abbrev pub Along : {W : Type 0} → (W → Call → W → Type 0) → W → List Call → W → Type 0
Along moves begun [] world = world ≡ begun
Along {W} moves begun (call ∷ calls) world = (mid : W) × Along moves begun calls mid × moves mid call world

-- ---- the log that calls tell

-- an output stands behind those of the newest step
abbrev pub put_behind : Output → List Step → List Step
put_behind output [] = []
put_behind output (step ∷ log) = with_outputs step (output_of output ∷ []) ∷ log

-- The events that were answered, each with the outputs that were handed over behind it, the newest first. A call that failed tells nothing.
abbrev pub log_of : List Call → List Step
log_of [] = []
log_of (Asked rooms idle (Ok (Happened event)) ∷ calls) = came event ∷ log_of calls
log_of (Asked rooms idle (Ok Nothing) ∷ calls) = log_of calls
log_of (Asked rooms idle (Ok Over) ∷ calls) = log_of calls
log_of (Asked rooms idle (Err failed) ∷ calls) = log_of calls
log_of (Applied output (Ok done) ∷ calls) = put_behind output (log_of calls)
log_of (Applied output (Err failed) ∷ calls) = log_of calls
log_of (Aside answer ∷ calls) = log_of calls

-- the same with the oldest first, as a world tells its log
abbrev pub told : List Call → Option (List Step)
told calls = Some (reverse (log_of calls))

-- what those that asked were told, the oldest first
abbrev pub handed_by : List Call → List Handed
handed_by [] = []
handed_by (Asked rooms idle (Ok next) ∷ calls) = handed_by calls ++ record { steps = length (reverse (log_of calls)); rooms = rooms; idle = idle } ∷ []
handed_by (Asked rooms idle (Err failed) ∷ calls) = handed_by calls
handed_by (Applied output answer ∷ calls) = handed_by calls
handed_by (Aside answer ∷ calls) = handed_by calls

-- ---- which calls failed

-- None of these failed, and each output stands behind an event.
abbrev pub AreWhole : List Call → Type 0
AreWhole [] = ⊤
AreWhole (Asked rooms idle (Ok next) ∷ calls) = AreWhole calls
AreWhole (Asked rooms idle (Err failed) ∷ calls) = ⊥
AreWhole (Applied output (Ok done) ∷ calls) = (log_of calls ≡ [] → ⊥) × AreWhole calls
AreWhole (Applied output (Err failed) ∷ calls) = ⊥
AreWhole (Aside (Ok done) ∷ calls) = AreWhole calls
AreWhole (Aside (Err failed) ∷ calls) = ⊥

-- The newest of these failed, and those before it are whole.
abbrev pub AreCutShort : List Call → Type 0
AreCutShort [] = ⊥
AreCutShort (Asked rooms idle (Ok next) ∷ calls) = ⊥
AreCutShort (Asked rooms idle (Err failed) ∷ calls) = AreWhole calls
AreCutShort (Applied output (Ok done) ∷ calls) = ⊥
AreCutShort (Applied output (Err failed) ∷ calls) = (log_of calls ≡ [] → ⊥) × AreWhole calls
AreCutShort (Aside (Ok done) ∷ calls) = ⊥
AreCutShort (Aside (Err failed) ∷ calls) = AreWhole calls

-- Which call failed, by how serving ended: the last one where that was a call of the world, and else none.
abbrev pub FailsBy : Result ServiceEnd ServeFault → List Call → Type 0
FailsBy (Ok ended) calls = AreWhole calls
FailsBy (Err fault.World) calls = AreCutShort calls
FailsBy (Err (fault.NotAdmitted peer)) calls = AreWhole calls
FailsBy (Err fault.Memory) calls = AreWhole calls

-- ---- what is idle is heard before the client

-- Octets of the client came: behind them nothing could be read of a connection that is idle, by the world's own marks; and all sockets were looked at
-- since octets of the client came last, unless none is idle. The number of looks at which they came is kept.
pub record IsHeardLast (idle : List ℕ) (could_read : ℕ → Bool) (heard_at heard_at' looks' : ℕ) : Type 0 where
  pub none_left : (k : ℕ) → Contains idle k → could_read k ≡ false
  pub looked : (idle ≡ [] → ⊥) → heard_at ≡ looks' → ⊥
  pub noted : heard_at' ≡ looks'

-- With what else comes that number stays.
abbrev pub HearsIdleFirst : List ℕ → Next → (ℕ → Bool) → ℕ → ℕ → ℕ → Type 0
HearsIdleFirst idle (Happened (event.Client octets)) could_read heard_at heard_at' looks' = IsHeardLast idle could_read heard_at heard_at' looks'
HearsIdleFirst idle next could_read heard_at heard_at' looks' = heard_at' ≡ heard_at

-- so it is in a call that asked
abbrev pub IsIdleFirst : Call → (ℕ → Bool) → ℕ → ℕ → ℕ → Type 0
IsIdleFirst (Asked rooms idle (Ok next)) could_read heard_at heard_at' looks' = HearsIdleFirst idle next could_read heard_at heard_at' looks'
IsIdleFirst call could_read heard_at heard_at' looks' = ⊤

-- ---- what serving a world came to

-- What is promised of these calls, by how serving ended: of the log that they tell, or of a front of it where a call failed.
abbrev pub IsServed : Setup → Result ServiceEnd ServeFault → List Call → Type 0
IsServed setup (Ok ended) calls = AddsPromised setup (is_closed ended) [] (told calls)
IsServed setup (Err fault.World) calls = AddsFrontTo setup [] (told calls)
IsServed setup (Err (fault.NotAdmitted peer)) calls = AddsRefusedTo setup peer [] (told calls)
IsServed setup (Err fault.Memory) calls = (calls ≡ []) ⊎ AddsUnansweredTo setup [] (told calls)

-- What those that asked were told was right for that log.
abbrev pub AreAskedRightly : Setup → List Call → Type 0
AreAskedRightly setup calls = HandsTo setup [] (Some []) (told calls) (Some (handed_by calls))

-- where contracts name how a world moves, whether it hears what is idle first, what could be read of its connections, and how often it looked
module _ {W : Type 0} (moves : W → Call → W → Type 0) (hears : W → Type 0) (could_read : W → ℕ → Bool) (heard_at looks : W → ℕ) where
  -- A call moved a world, which heard what is idle before the client, if it does that.
  pub record Moves (first : Type 0) (old : W) (call : Call) (new : W) : Type 0 where
    pub moved : moves old call new
    pub idle_first : first → IsIdleFirst call (could_read new) (heard_at old) (heard_at new) (looks new)

  -- There are calls along which a world moved, and of these this is so.
  pub record Moved (Is : List Call → Type 0) (begun world : W) : Type 0 where
    pub calls : List Call
    pub along : Along (Moves (hears begun)) begun calls world
    pub is : Is calls

  -- It moved on behind these calls, and was asked nothing more; this is the log that is told then. Where they are whole, this is so of all.
  pub record AppliesTo (Are : List Call → Type 0) (begun : W) (calls : List Call) (log : List Step) (world : W) : Type 0 where
    pub more : List Call
    pub along : Along (Moves (hears begun)) begun more world
    pub tells : told more ≡ Some log
    pub same : handed_by more ≡ handed_by calls
    pub are : AreWhole calls → Are more

  -- There are whole calls along which a world moved, and the gateway stands for the log that they tell, in which the client is closed or
  -- not. These are the rooms behind it, and what was handed was right.
  pub record Runs (setup : Setup) (closed : Bool) (begun world : W) (g : Standing) (rooms : List (ℕ × ℕ)) : Type 0 where
    pub calls : List Call
    pub along : Along (Moves (hears begun)) begun calls world
    pub whole : AreWhole calls
    pub hears_on : hears begun → hears world
    pub serves : Serves setup closed (told calls) g rooms (Some []) (Some (handed_by calls)) []

  -- An event came with the last of these calls, which are whole. The gateway stands for the log that those before it tell, in which the client isn't closed; these are
  -- the rooms behind it, and what was handed was right.
  pub record HasCome (setup : Setup) (begun world : W) (g : Standing) (rooms : List (ℕ × ℕ)) (event : Event) : Type 0 where
    pub calls : List Call
    pub along : Along (Moves (hears begun)) begun calls world
    pub whole : AreWhole calls
    pub hears_on : hears begun → hears world
    pub added : List Step
    pub run : List Move
    pub is : told calls ≡ Some (added ++ came event ∷ [])
    pub stands : Stands setup g (reverse added) run
    pub goes_on : has_closed added ≡ false
    pub rooms_are : AreRooms (known_of setup (conducts run)) (tape_of run) rooms
    pub hands : AreAllHanded setup 0 added (Some []) (Some (handed_by calls))

  -- Serving it came to this, and a call failed just where that is said.
  abbrev pub WasServed : Setup → Result ServiceEnd ServeFault → W → W → Type 0
  WasServed setup outcome begun world = Moved (λ calls. IsServed setup outcome calls × AreAskedRightly setup calls × FailsBy outcome calls) begun world

  -- A turn leaves it served on, or came to a fault.
  abbrev pub TurnLeaves : Setup → Result (Option ServiceEnd) ServeFault → W → W → Standing → List (ℕ × ℕ) → Type 0
  TurnLeaves setup (Ok ended) begun world g rooms = Runs setup (ends ended) begun world g rooms
  TurnLeaves setup (Err failed) begun world g rooms = WasServed setup (Err failed) begun world
