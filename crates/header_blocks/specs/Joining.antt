-- Header blocks that come in fragments (RFC 9113, section 4.3).
use Rattle.std.specs.Prelude.{◌≡◌, ℕ, suc, ◌+◌, ◌≤◌, ◌<◌, ◌==◌, nat_lt, ◌||◌, Bool, if◌then◌else◌, List, ◌++◌, length, Option, Some, None, option_map}
use Rattle.std.specs.Option.{ForSome}
use Rattle.model.specs.Frames.{Frame, continuation_kind}
use Rattle.model.specs.Decoding.{Partial, joined}
use Rattle.model.specs.FrameErrors.{is_between, is_long}
use Rattle.model.specs.Limits.{longest_block, most_continuations}
use Rattle.header_blocks.specs.declared.join_fault.JoinFault.{JoinFault}
use Rattle.header_blocks.specs.declared.join_fault.JoinFault.TheVariants.{Outside, Between, TooLong}

-- The block that was begun and isn't whole, if any, and of how many CONTINUATION frames it came.
pub record Joining : Type 0 where
  pub begun : Option Partial
  pub continuations : ℕ

-- no block was begun
abbrev pub nothing_begun : Joining
nothing_begun = record { begun = None; continuations = 0 }

-- of how many CONTINUATION frames the block comes with this frame
abbrev pub continuations_with : Joining → Frame → ℕ
continuations_with joining frame = if frame.kind == continuation_kind then suc joining.continuations else 0

-- whether the block passes its most octets or CONTINUATION frames with this frame (this project's profile)
abbrev pub is_too_long : Joining → Frame → Bool
is_too_long joining frame = is_long (joined joining.begun frame) || nat_lt most_continuations (continuations_with joining frame)

-- what a frame that may not come next is called
abbrev pub misplaced : Option Partial → JoinFault
misplaced None = Outside
misplaced (Some block) = Between

-- the fault of a frame, if it has one: it may not come next, or the block is too long with it
abbrev pub fault_at : Joining → Frame → Option JoinFault
fault_at joining frame =
    if is_between joining.begun frame then Some (misplaced joining.begun)
    else if is_too_long joining frame then Some TooLong
    else None

-- the block that a HEADERS begins, by its stream, its END_STREAM and its fragment
abbrev pub begins : ℕ → Bool → List ℕ → Joining
begins id ends fragment = record { begun = Some (record { id = id; ends = ends; fragments = fragment }); continuations = 0 }

-- the block with the fragment of a CONTINUATION more
abbrev pub continues : Joining → List ℕ → Joining
continues joining fragment = record {
  begun = option_map {T = Partial} (λ block. record block { fragments = block.fragments ++ fragment }) joining.begun;
  continuations = suc joining.continuations;
}

-- A block was begun, and stays within the limits with the fragment of a CONTINUATION more.
pub record HasRoom (joining : Joining) (fragment : List ℕ) : Type 0 where
  pub block : Partial
  pub is_begun : joining.begun ≡ Some block
  pub octets : length block.fragments + length fragment ≤ longest_block
  pub frames : joining.continuations < most_continuations

-- What was begun is within the limits.
pub record IsWithin (joining : Joining) : Type 0 where
  pub octets : ForSome joining.begun (λ block. length block.fragments ≤ longest_block)
  pub frames : joining.continuations ≤ most_continuations
