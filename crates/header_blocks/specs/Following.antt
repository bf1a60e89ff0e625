-- What a joiner keeps, by the frames of a direction, the newest first (RFC 9113, section 4.3).
use Rattle.std.specs.Prelude.{◌≡◌, List, None}
use Rattle.model.specs.Tapes.{Noted}
use Rattle.model.specs.Decoding.{begun}
use Rattle.model.specs.FrameErrors.{last_continuations}
use Rattle.header_blocks.specs.Joining.{Joining}

-- What is kept of the frames is the block that they begin and don't complete, if any, with the number of its CONTINUATION frames.
pub record IsKeptOf (before : List Noted) (joining : Joining) : Type 0 where
  pub is_begun : joining.begun ≡ begun before
  pub continuations : (joining.begun ≡ None → ⊥) → joining.continuations ≡ last_continuations before
