-- The clause on floods: the connection ends in place of another frame only where that would go (this project's profile). What goes out while too many
-- octets are untaken is in the clause on errors.
use Rattle.std.specs.Prelude.{◌≡◌, true, List, [], ◌∷◌, ◌++◌}
use Rattle.model.specs.Frames.{Frame}
use Rattle.model.specs.Tapes.{Entry, sent}
use Rattle.model.specs.Tapes.Entry.{Sent}
use Rattle.model.specs.Known.{Known}
use Rattle.model.specs.Setup.{own_window}
use Rattle.model.specs.ErrorClause.{controls, owed, stands_in}
use Rattle.model.specs.ProgressClause.{AllForwarded, AllStreamed}
use Rattle.model.specs.WindowClause.{GoesBack}

-- Octets would be given back: what was sent was owed, what came is passed on to upstreams, and there is less room than at first, but for what is kept.
pub record WouldReturn (known : Known) (t : List Entry) : Type 0 where
  pub unpaid : List Frame
  pub just_owed : owed known t ≡ unpaid ++ controls (sent t)
  pub forwarded : AllForwarded known t
  pub streamed : AllStreamed known t
  pub goes_back : GoesBack (own_window known.setup) known.setup.passing t

-- A frame would go: one that is owed beyond what was sent, or one with which octets are given back.
pub data WouldGo (known : Known) (t : List Entry) : Type 0 where
  Owed : (newer : List Frame) → (next : Frame) → owed known t ≡ newer ++ next ∷ controls (sent t) → WouldGo known t
  Returned : WouldReturn known t → WouldGo known t

-- Each GOAWAY that stands in place of another frame stands where one would go.
abbrev pub FloodsHold : Known → List Entry → Type 0
FloodsHold known [] = Unit {0}
FloodsHold known (Sent noted ∷ t) = (stands_in known t noted ≡ true → WouldGo known t) × FloodsHold known t
FloodsHold known (_ ∷ t) = FloodsHold known t
