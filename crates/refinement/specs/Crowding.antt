-- Where too many octets for the client are untaken for a frame beside responses, and one would go.
use Rattle.std.specs.Prelude.{◌≡◌, ◌<◌, ◌⊎◌, ℕ, List, ◌∷◌}
use Rattle.model.specs.Frames.{Frame}
use Rattle.model.specs.Limits.{most_untaken}
use Rattle.theory_requests.specs.State.Due.{Nothing}
use Rattle.refinement.specs.View.{View, Pending, GoBack}

-- A frame would go: one is owed, or octets go back on the connection, or on a stream.
abbrev pub WouldBeSent : View → Pending → Type 0
WouldBeSent kept pending =
    ((next : Frame) × (rest : List Frame) × (pending.owed ≡ next ∷ rest))
    ⊎ ((pending.fresh ≡ 0) × ((0 < pending.shared) ⊎ ((id : ℕ) × GoBack kept.inbound id × (0 < pending.own id))))

-- It can't go: a GOAWAY that asks the client to be calm goes in its place.
pub record IsCrowdedView (kept : View) (pending : Pending) : Type 0 where
  pub crowded : most_untaken < kept.untaken
  pub nothing_due : pending.due ≡ Nothing
  pub would_go : WouldBeSent kept pending
