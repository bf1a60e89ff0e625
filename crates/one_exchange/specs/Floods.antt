-- The clause on floods, where each connection carries one exchange.
use Rattle.std.specs.Prelude.{◌≡◌, true, List, [], ◌∷◌, ◌++◌}
use Rattle.model.specs.Frames.{Frame}
use Rattle.model.specs.Tapes.{Entry, sent}
use Rattle.model.specs.Tapes.Entry.{Sent}
use Rattle.model.specs.Setup.{own_window}
use Rattle.model.specs.Known.{Known}
use Rattle.model.specs.ErrorClause.{controls}
use Rattle.one_exchange.specs.Errors.{owed_once, stands_in_once}
use Rattle.one_exchange.specs.Progress.{AllForwardedOnce, AllStreamedOnce}
use Rattle.one_exchange.specs.Windows.{GoesBackOnce}

-- Octets would be given back.
pub record WouldReturnOnce (known : Known) (t : List Entry) : Type 0 where
  pub unpaid : List Frame
  pub just_owed : owed_once known t ≡ unpaid ++ controls (sent t)
  pub forwarded : AllForwardedOnce known t
  pub streamed : AllStreamedOnce known t
  pub goes_back : GoesBackOnce (own_window known.setup) known.setup.passing t

-- A frame would go: one that is owed beyond what was sent, or one with which octets are given back.
pub data WouldGoOnce (known : Known) (t : List Entry) : Type 0 where
  OwedOnce : (newer : List Frame) → (next : Frame) → owed_once known t ≡ newer ++ next ∷ controls (sent t) → WouldGoOnce known t
  ReturnedOnce : WouldReturnOnce known t → WouldGoOnce known t

-- The clause: each GOAWAY that stands in place of another frame stands where one would go.
abbrev pub FloodsHoldOnce : Known → List Entry → Type 0
FloodsHoldOnce known [] = Unit {0}
FloodsHoldOnce known (Sent noted ∷ t) = (stands_in_once known t noted ≡ true → WouldGoOnce known t) × FloodsHoldOnce known t
FloodsHoldOnce known (_ ∷ t) = FloodsHoldOnce known t
