-- Turns: each frame that begins a part of a response has its turn.
use Rattle.std.specs.Prelude.{◌≡◌, ℕ, true, false, if◌then◌else◌, List, [], ◌∷◌, map, Some, slice_index, SomeIndex}
use Rattle.model.specs.Tapes.{Entry}
use Rattle.model.specs.Tapes.Entry.{Sent}
use Rattle.model.specs.Turns.{IsNextTurn}
use Rattle.model.specs.Known.{Known}
use Rattle.model.specs.Readiness.{IsReady}
use Rattle.model.specs.Synchrony.{begins_part}
use Rattle.theory_responses.specs.State.{Kept, State, Windows, Move, find, ready, entry_of, state_of}
use Rattle.theory_responses.specs.Policy.{windows_on}
use Rattle.theory_responses.specs.Sight.{windows_in}
use Rattle.theory_responses.specs.Rule.{Seen, moves_of, sight_of}

-- the stream of the last such frame
abbrev pub last_turn : List Entry → ℕ
last_turn [] = 0
last_turn (Sent noted ∷ t) = if begins_part noted.frame then noted.frame.id else last_turn t
last_turn (_ ∷ t) = last_turn t

-- The stream has the next turn behind the last one, among streams of which none that is ready is missing.
pub record HasTurn (known : Known) (t : List Entry) (id : ℕ) : Type 0 where
  pub ready : List ℕ
  pub turn : IsNextTurn (last_turn t) ready (Some id)
  pub listed : (stream : ℕ) → IsReady known t stream → SomeIndex ready (λ k. slice_index ready k ≡ stream)

-- Each frame that begins a part is one of the stream that has the turn.
abbrev pub EachInTurn : Known → List Entry → Type 0
EachInTurn known [] = Unit {0}
EachInTurn known (Sent noted ∷ t) = (begins_part noted.frame ≡ true → HasTurn known t noted.frame.id) × EachInTurn known t
EachInTurn known (_ ∷ t) = EachInTurn known t

-- ---- by the state of what is on offer

-- A part of the stream may begin: no reset is owed, and the stream has the next turn.
pub record MayBegin (windows : Windows) (s : State) (id : ℕ) : Type 0 where
  pub none_cut : (stream : ℕ) (kept : Kept) → find stream s.kept ≡ Some kept → kept.cut ≡ false
  pub turn : IsNextTurn s.last (ready windows s) (Some id)

-- The same of an entry, if it begins a part.
abbrev pub MayBeginIf : Windows → State → Entry → Type 0
MayBeginIf windows s (Sent noted) = begins_part noted.frame ≡ true → MayBegin windows s noted.frame.id
MayBeginIf windows s _ = Unit {0}

-- Each part that a run begins might begin where it did, by what is read there.
abbrev pub AllBegan : List Seen → Type 0
AllBegan [] = Unit {0}
AllBegan (x ∷ run) = AllBegan run × MayBeginIf (windows_in (sight_of run)) (state_of (moves_of run)) (entry_of x.move)

-- The same of moves, by their tape.
abbrev pub EachBegan : List Move → Type 0
EachBegan [] = Unit {0}
EachBegan (m ∷ ms) = EachBegan ms × MayBeginIf (windows_on (map entry_of ms)) (state_of ms) (entry_of m)
