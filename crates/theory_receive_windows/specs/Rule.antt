-- Which move may come next by states alone: what is kept here, and what is read of the rest before the move and behind it. It
-- names no tape.
use Rattle.std.specs.Prelude.{◌≡◌, ℕ, ◌<◌, ◌⊎◌, Bool, true, false, not, ◌&&◌, ◌==◌, List, [], ◌∷◌, map}
use Rattle.model.specs.Frames.{Frame, window_update_kind}
use Rattle.model.specs.Setup.{Passing}
use Rattle.model.specs.Tapes.{Noted, Entry}
use Rattle.model.specs.Known.{Known}
use Rattle.model.specs.WindowsOnTape.{increment}
use Rattle.theory_responses.specs.Sight.{Sight, first_sight, IsRightOf}
use Rattle.theory_receive_windows.specs.State.{State, Move, tape_of, start, after, Kept, kept_of, with_told}
use Rattle.theory_receive_windows.specs.State.Move.{Takes, Breaks, Hears, Settles, Gives, Sends, Uses, Acts}
use Rattle.theory_receive_windows.specs.Policy.{Gates, AreGates, gates_on, MayHear, MayUse, IsBare, MayDo}

-- a stream is over with a move
abbrev pub is_over_by : Sight → Sight → ℕ → Bool
is_over_by before behind id = before.active id && not (behind.active id)

-- Nothing is owed: the last frame's effect is over, and all is given back that goes back.
pub record OwesNothing (sight : Sight) (s : State) : Type 0 where
  pub settled : s.count ≡ 0
  pub shared : s.debt ≡ 0
  pub own : (stream : ℕ) → sight.active stream ≡ true → sight.ended stream ≡ false → (s.row stream).debt ≡ 0

-- A frame of the client, before which the effect of the last is over and the connection goes on: whether it opens its stream, which is active then, and
-- whether that is over with it, is what is read.
pub record TakesFrame (before behind : Sight) (s : State) (noted : Noted) (opens over : Bool) : Type 0 where
  pub nothing : OwesNothing before s
  pub goes_on : before.ends ≡ false
  pub opens_it : opens ≡ (not (before.opened noted.frame.id) && behind.opened noted.frame.id)
  pub lives : opens ≡ true → behind.active noted.frame.id ≡ true
  pub over_with_it : over ≡ is_over_by before behind noted.frame.id

-- what is owed on the connection, or on an active stream that the client hasn't ended
abbrev pub OwesAll : Sight → State → Frame → Bool → Type 0
OwesAll before s frame true = increment frame ≡ s.debt
OwesAll before s frame false = (before.active frame.id ≡ true) × (before.ended frame.id ≡ false) × (increment frame ≡ (s.row frame.id).debt)

-- The frame gives back all that is owed on its id.
pub record GivesAll (before : Sight) (s : State) (frame : Frame) : Type 0 where
  pub kind : frame.kind ≡ window_update_kind
  pub owed : OwesAll before s frame (frame.id == 0)

-- Any other frame to the client.
pub record SendsOther (before behind : Sight) (noted : Noted) (over : Bool) : Type 0 where
  pub kind : (noted.frame.kind == window_update_kind) ≡ false
  pub over_with_it : over ≡ is_over_by before behind noted.frame.id

-- The move may come; something comes in only where nothing is owed.
abbrev pub MayCome : Passing → Gates → Sight → Sight → State → Move → Type 0
MayCome passing gates before behind s (Takes noted opens over) = TakesFrame before behind s noted opens over
MayCome passing gates before behind s (Breaks breach) = OwesNothing before s
MayCome passing gates before behind s (Hears event) = OwesNothing before s × MayHear gates s event
MayCome passing gates before behind s Settles = Unit {0}
MayCome passing gates before behind s (Gives noted) = GivesAll before s noted.frame
MayCome passing gates before behind s (Sends noted over) = SendsOther before behind noted over
MayCome passing gates before behind s (Uses k octets) = MayUse passing gates s k octets
MayCome passing gates before behind s (Acts act) = MayDo passing gates s act

-- Octets are to be given back, by what is read: the last frame's effect is over, and some are owed on the connection, or on an active stream that the
-- client hasn't ended.
pub record OwesSome (sight : Sight) (s : State) : Type 0 where
  pub settled : s.count ≡ 0
  pub some : (0 < s.debt) ⊎ ((stream : ℕ) × (sight.active stream ≡ true) × (sight.ended stream ≡ false) × (0 < (s.row stream).debt))

-- ---- runs

-- A move, and what is read and told behind it.
pub record Seen : Type 0 where
  pub move : Move
  pub sight : Sight
  pub gates : Gates

-- the moves of a run, the newest first
abbrev pub moves_of : List Seen → List Move
moves_of run = map (λ (x : Seen). x.move) run

-- what is read behind it
abbrev pub sight_of : List Seen → Sight
sight_of [] = first_sight
sight_of (x ∷ run) = x.sight

-- what is told behind it
abbrev pub gates_of : List Seen → Gates
gates_of [] = gates_on []
gates_of (x ∷ run) = x.gates

-- the state of what is kept and what is told
abbrev pub state_with : Gates → Kept → State
state_with gates kept = with_told gates.live gates.last kept

-- what is kept behind it: each move changes the state of what is kept and what is told before it
abbrev pub kept_behind : ℕ → Passing → List Seen → Kept
kept_behind more passing [] = kept_of (start more)
kept_behind more passing (x ∷ run) = kept_of (after passing (state_with (gates_of run) (kept_behind more passing run)) x.move)

-- and so the state behind it
abbrev pub state_behind : ℕ → Passing → List Seen → State
state_behind more passing run = state_with (gates_of run) (kept_behind more passing run)

-- Each move might come where it came.
abbrev pub AllMayCome : ℕ → Passing → List Seen → Type 0
AllMayCome more passing [] = Unit {0}
AllMayCome more passing (x ∷ run) = AllMayCome more passing run × MayCome passing (gates_of run) (sight_of run) x.sight (state_behind more passing run) x.move

-- No DATA came on a stream that a kept connection is given to.
abbrev pub IsTold : Passing → List Entry → Move → Type 0
IsTold passing t (Uses k octets) = IsBare passing t
IsTold passing t _ = Unit {0}

-- What was read and told is right behind each move, and what the moves ask of the others.
abbrev pub AreRight : Known → Passing → List Seen → Type 0
AreRight known passing [] = Unit {0}
AreRight known passing (x ∷ run) =
    AreRight known passing run × IsRightOf known (tape_of (moves_of (x ∷ run))) x.sight × AreGates (tape_of (moves_of (x ∷ run))) x.gates
    × IsTold passing (tape_of (moves_of run)) x.move
