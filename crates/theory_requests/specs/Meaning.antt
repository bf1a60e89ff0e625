-- What the moves say of their entries, and what holds of the tape then.
use Rattle.std.specs.Prelude.{◌≡◌, false, List, [], ◌∷◌, ◌++◌}
use Rattle.model.specs.Messages.{Item}
use Rattle.model.specs.Messages.Item.{Block}
use Rattle.model.specs.Tapes.{Noted, Entry}
use Rattle.model.specs.Tapes.Entry.{Came, Happened}
use Rattle.model.specs.Openings.{exchange_on, GoToOpen}
use Rattle.model.specs.Known.{Known}
use Rattle.model.specs.Lifetimes.{is_ended_by_client}
use Rattle.model.specs.Courses.{items, upstream_of}
use Rattle.model.specs.Idle.{FewAreIdle}
use Rattle.model.specs.RequestClause.{RequestsHold}
use Rattle.model.specs.ProgressClause.{AllForwarded, AllStreamed, AreClosed, ClosesRightly}
use Rattle.theory_requests.specs.Told.{IsTold}
use Rattle.theory_requests.specs.Pool.{Verdict}
use Rattle.theory_requests.specs.State.{Move, Turn, tape_of}
use Rattle.theory_requests.specs.State.Move.{Takes, Begins, Gathers, Passes, Drops, Hears}

-- ---- what the moves say

-- The frame adds this item to its stream, which the client hadn't ended.
pub record Brings (known : Known) (t : List Entry) (noted : Noted) (item : Item) : Type 0 where
  pub adds : items known noted.frame.id (Came noted ∷ t) ≡ items known noted.frame.id t ++ item ∷ []
  pub goes_on : is_ended_by_client noted.frame.id t ≡ false

-- What the move says of its entry is so: which item a frame adds to its stream; and of an answer, whether a response is whole with it, and
-- whether its connection may be kept then.
abbrev pub IsSo : Known → List Entry → Move → Type 0
IsSo known t (Takes noted) = items known noted.frame.id (Came noted ∷ t) ≡ items known noted.frame.id t
IsSo known t (Begins noted head ended route text stage) = (items known noted.frame.id t ≡ []) × Brings known t noted (Block head ended)
IsSo known t (Gathers noted item route text old body written stage) = Brings known t noted item
IsSo known t (Passes noted item k old written stage) = Brings known t noted item
IsSo known t (Drops noted item) = Brings known t noted item
IsSo known t (Hears event heard) = Verdict known (Happened event ∷ t) (exchange_on (upstream_of event) t) heard
IsSo known t _ = Unit {0}

-- All that the moves say, and all that is told, is so.
abbrev pub AreSo : Known → List Turn → Type 0
AreSo known [] = Unit {0}
AreSo known (turn ∷ turns) = AreSo known turns × IsSo known (tape_of turns) turn.move × IsTold known (tape_of (turn ∷ turns)) turn.told

-- ---- what holds then

-- What the clauses on requests and on progress ask of requests and connections.
pub record KeepClauses (known : Known) (t : List Entry) : Type 0 where
  pub requests : RequestsHold known t
  pub forwarded : AllForwarded known t
  pub streamed : AllStreamed known t
  pub closed : AreClosed known t
  pub closes : ClosesRightly known t t
  pub few_idle : FewAreIdle known t
  pub go_to_open : GoToOpen t
