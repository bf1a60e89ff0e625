-- Where a gateway rests by what is kept, so that something may come in.
use Rattle.std.specs.Prelude.{◌≡◌, ℕ, ◌<◌, false, List, [], Some}
use Rattle.std.specs.List.{list_any}
use Rattle.model.specs.Setup.{Setup}
use Rattle.model.specs.Limits.{high_water}
use Rattle.theory_responses.specs.State as theory_responses
use Rattle.theory_requests.specs.Told.{Told}
use Rattle.theory_requests.specs.Rule.{is_done}
use Rattle.connection_state.specs.Inbound.{told_of}
use Rattle.upstream_connections.specs.Connections.{lives}
use Rattle.send_queue.specs.Asked.{windows_over}
use Rattle.theory.specs.Moves.{Move, told_in}
use Rattle.theory.specs.State.{State}
use Rattle.model.specs.Logs.{Output}
use Rattle.refinement.specs.View.{View, Pending, balanced, Leads}
use Rattle.refinement.specs.Bringing.{PerformsOwn}

-- what is told of streams, and of the end; it doesn't depend on which connections were opened
abbrev pub told_view : View → Told
told_view kept = told_in (told_of (record { given = []; untaken = kept.untaken }) kept.inbound)

-- A reset of no stream is owed.
abbrev pub NoneCut : theory_responses.State → Type 0
NoneCut offers = (id : ℕ) (stream : theory_responses.Kept) → theory_responses.find id offers.kept ≡ Some stream → stream.cut ≡ false

-- No connection is done with.
abbrev pub NoneDone : View → Type 0
NoneDone kept = list_any (is_done (told_view kept)) (lives kept.upstreams.live) ≡ false

-- the connection isn't to end
abbrev pub GoesOn : View → Type 0
GoesOn kept = (told_view kept).ends ≡ false

-- No part of a response can go, while few octets for the client are untaken.
abbrev pub IsFlushed : View → Type 0
IsFlushed kept = kept.untaken < high_water → theory_responses.ready (windows_over kept.inbound.rows kept.inbound.first_size kept.inbound.window) kept.offers
    ≡ []

-- Something may come in.
pub record IsAtRest (kept : View) : Type 0 where
  pub goes_on : GoesOn kept
  pub none_cut : NoneCut kept.offers
  pub none_done : NoneDone kept
  pub flushed : IsFlushed kept

-- so many octets are to go back on the connection, and nothing else is pending
abbrev pub back_of : ℕ → Pending
back_of back = record balanced { shared = back }

-- Where the connection goes on none are: they go back at once. Where it is to end they don't.
abbrev pub IsBack : View → ℕ → Type 0
IsBack kept back = GoesOn kept → back ≡ 0

-- Moves led to what is kept, with what is pending.
abbrev pub Reached : Setup → View → Pending → Type 0
Reached setup kept pending = (run : List Move) × (s : State) × Leads setup run kept pending s

-- Wherever moves led to what was kept, and nothing was pending but such octets, they lead on to what is kept now, and nothing else is pending then.
abbrev pub PerformsBack : View → List Output → View → List Output → Type 0
PerformsBack old outputs new outputs' =
    (back : ℕ) → IsBack old back → (back' : ℕ) × IsBack new back'
    × ((setup : Setup) → PerformsOwn setup old (back_of back) outputs new (back_of back') outputs')
