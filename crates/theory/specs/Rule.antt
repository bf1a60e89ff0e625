-- Which move may come next: by what is kept, and by what is told before the move and behind it. No tape is named here.
use Rattle.std.specs.Prelude.{◌≡◌, Bool, true, false, not, ◌&&◌, ◌⊎◌, ◌||◌, if◌then◌else◌, List, [], ◌∷◌}
use Rattle.model.specs.Messages.{Item}
use Rattle.model.specs.Messages.Item.{Block}
use Rattle.model.specs.Setup.{Setup}
use Rattle.model.specs.Tapes.{Noted}
use Rattle.model.specs.Tapes.Entry.{Came}
use Rattle.model.specs.Streams.{frame_items}
use Rattle.model.specs.Courses.{interrupts}
use Rattle.theory_errors.specs.Summary.{Stream as Kept, Summary}
use Rattle.theory_errors.specs.Judging.{completed_in, fault_for}
use Rattle.theory_errors.specs.Owing.{new_cause_in}
use Rattle.theory_errors.specs.Book as theory_errors
use Rattle.theory_errors.specs.Book.{MayMove}
use Rattle.theory_responses.specs.Sight.{sight_in, windows_in}
use Rattle.theory_responses.specs.Policy.{IsFlushed}
use Rattle.theory_responses.specs.Rule as offers
use Rattle.theory_receive_windows.specs.Rule as windows
use Rattle.theory_receive_windows.specs.State as theory_receive_windows
use Rattle.theory_receive_windows.specs.Rule.{OwesNothing, OwesSome}
use Rattle.model.specs.ErrorClause.{is_calming}
use Rattle.model.specs.Frames.{Frame}
use Rattle.theory_requests.specs.Rule as requests
use Rattle.theory_header_tables.specs.Rule as theory_header_tables
use Rattle.theory_header_tables.specs.Turns.{MayBeginIf}
use Rattle.theory.specs.Moves.{Addition, Decision, Move, entry_of, comes_in, conduct_of, offer_of, request_of, table_of, window_of, told_in}
use Rattle.theory.specs.Moves.Addition.{Nothing, Begins, Gathers, Passes, Drops}
use Rattle.theory.specs.Moves.Decision.{Takes, Sends, Goes}
use Rattle.theory.specs.Moves.Move.{Does, Settles}
use Rattle.theory.specs.State.{State, gates_in, summary_at, state_of}

-- ---- what a frame adds to its stream's request

-- the item that a frame adds, if it adds one: none where the items are over, or end with it
abbrev pub added_to : Setup → Kept → Summary → Noted → List Item
added_to setup kept s noted =
    let found = fault_for kept.outline s (Came noted) in
    if kept.outline.over || interrupts noted.frame.id (Came noted) found (new_cause_in setup false noted.frame.id s (Came noted) kept.outline found)
    then []
    else frame_items (completed_in s.block noted.frame) noted

abbrev pub added_in : Setup → Summary → Noted → List Item
added_in setup s noted = added_to setup (s.stream noted.frame.id) s noted

-- The frame adds this item, and the client hadn't ended the stream.
pub record Adds (setup : Setup) (s : Summary) (noted : Noted) (item : Item) : Type 0 where
  pub adds : added_in setup s noted ≡ item ∷ []
  pub goes_on : (s.stream noted.frame.id).ended_by_client ≡ false

-- The frame adds a request's head, its first item.
pub record AddsHead (setup : Setup) (s : Summary) (noted : Noted) (item : Item) : Type 0 where
  pub first : (s.stream noted.frame.id).outline.begun ≡ false
  pub adds : Adds setup s noted item

-- What is said of a frame's gain is so.
abbrev pub Additions : Setup → Summary → Noted → Addition → Type 0
Additions setup s noted Nothing = added_in setup s noted ≡ []
Additions setup s noted (Begins head ended route text stage) = AddsHead setup s noted (Block head ended)
Additions setup s noted (Gathers item route text old body written stage) = Adds setup s noted item
Additions setup s noted (Passes item k old written stage) = Adds setup s noted item
Additions setup s noted (Drops item) = Adds setup s noted item

abbrev pub AdditionsIf : Setup → Summary → Decision → Type 0
AdditionsIf setup s (Takes noted next addition) = Additions setup s noted addition
AdditionsIf setup s d = Unit {0}

-- ---- rest

-- the state of receiving windows: what is kept of it and what is told
abbrev pub rooms_in : Summary → State → theory_receive_windows.State
rooms_in s state = windows.state_with (gates_in s state.requests) state.windows

-- The gateway rests: nothing is owed, nothing can go on, header blocks to the client are whole, those of the client were read,
-- connections that are done with are closed, what goes back was given back, and the client is closed if the connection is to end.
pub record Rests (s : Summary) (state : State) : Type 0 where
  pub conduct : theory_errors.Rests state.ledger
  pub flushed : IsFlushed (windows_in (sight_in s)) state.offers
  pub served : requests.Rests (told_in s) state.requests
  pub read : state.tables.lost ≡ false
  pub given_back : s.closed ≡ false → OwesNothing (sight_in s) (rooms_in s state)

-- ---- GOAWAYs in place of other frames

-- a frame to the client that asks it to be calm
abbrev pub calms : Decision → Bool
calms (Sends noted next) = is_calming noted.frame
calms (Goes noted item part next) = is_calming noted.frame
calms d = false

-- A frame would go: one is owed, or octets go back.
abbrev pub WouldGo : Summary → State → Type 0
WouldGo s state =
    ((next : Frame) × (rest : List Frame) × (state.ledger.queue ≡ next ∷ rest)) ⊎ OwesSome (sight_in s) (rooms_in s state)

-- ---- decisions

-- The decision may be done: each concern allows it, and what comes in comes where the gateway rests.
pub record MayDo (setup : Setup) (before behind : Summary) (state : State) (d : Decision) : Type 0 where
  pub rests : comes_in (entry_of d) ≡ true → Rests before state
  pub conduct : MayMove state.ledger (conduct_of d)
  pub offer : offers.MayCome (sight_in before) (sight_in behind) state.offers (offer_of (sight_in before) (sight_in behind) d)
  pub in_turn : MayBeginIf (windows_in (sight_in before)) state.offers (entry_of d)
  pub request : requests.IsAllowed setup (told_in before) (told_in behind) state.requests (request_of d)
  pub additions : AdditionsIf setup before d
  pub calls : (calms d && not state.ledger.book.ends) ≡ true → WouldGo before state
  pub table : theory_header_tables.IsFit state.tables (table_of before d)
  pub window : windows.MayCome setup.passing (gates_in before state.requests) (sight_in before) (sight_in behind) (rooms_in before state)
      (window_of (sight_in before) (sight_in behind) d)

-- Each move might come where it came; the newest stands first. The effect of what came last may be over at any time.
abbrev pub AllAllowed : Setup → List Move → Type 0
AllAllowed setup [] = Unit {0}
AllAllowed setup (Does d ∷ run) = AllAllowed setup run × MayDo setup (summary_at setup run) (summary_at setup (Does d ∷ run)) (state_of setup run) d
AllAllowed setup (Settles ∷ run) = AllAllowed setup run

-- The gateway rests behind the moves.
abbrev pub RestsBehind : Setup → List Move → Type 0
RestsBehind setup run = Rests (summary_at setup run) (state_of setup run)
