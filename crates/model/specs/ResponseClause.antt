-- The clause on responses: what the client reads on each stream is what its upstream answered, or a reply of the gateway's own
-- whose cause occurred. Header blocks keep within the client's limits, and aren't torn apart.
use Rattle.std.specs.Prelude.{◌≡◌, ℕ, ◌≤◌, true, false, if◌then◌else◌, List, [], ◌∷◌, ◌++◌, length, Option, Some, None}
use Rattle.std.specs.Prelude.{is_some, All, Any, unwrap_or, is_none, ◌&&◌}
use Rattle.std.specs.List.{last_or}
use Rattle.model.specs.Messages.{Field}
use Rattle.model.specs.Tables.{Table}
use Rattle.model.specs.Blocks.{IsBlock}
use Rattle.model.specs.Tapes.{Noted, Entry, sent}
use Rattle.model.specs.Tapes.Entry.{Came, Sent}
use Rattle.model.specs.Decoding.{Partial, begun, completed, Decodes}
use Rattle.model.specs.SettingValues.{settings_in, header_table_size, values_of}
use Rattle.model.specs.FrameErrors.{frame_fault, is_between}
use Rattle.model.specs.WindowsOnTape.{client_settings, are_taken, table_limit}
use Rattle.model.specs.Available.{are_decoded}
use Rattle.model.specs.Known.{Known}
use Rattle.model.specs.Offers.{IsDelivered}

-- ---- the client's limits (RFC 7541, section 4.2)

-- the limits of the table that the client named since the last block to it, the oldest first
abbrev pub limits_since : List Entry → List ℕ
limits_since [] = []
limits_since (Came noted ∷ t) =
    let before = limits_since t in
    if is_none (frame_fault t (Came noted)) && are_taken t (client_settings t) noted.frame
    then before ++ values_of header_table_size (settings_in noted.frame.payload)
    else before
limits_since (Sent noted ∷ t) = if is_some (completed (sent t) noted.frame) then [] else limits_since t
limits_since (_ ∷ t) = limits_since t

-- A block begins with these maxima, where the table had this one, the client named these limits since the block before, and the
-- last that it ever named is the limit now: behind each limit that was named the table came down to it, neither a maximum
-- nor the table's own passes the limit now, and there are no more than two.
pub record AreWithin (maximum : ℕ) (limits : List ℕ) (now : ℕ) (maxima : List ℕ) : Type 0 where
  pub come_down : All (λ limit. Any (λ reached. reached ≤ limit) (maximum ∷ maxima)) limits
  pub named : All (λ named. named ≤ now) maxima
  pub stands : unwrap_or (last_or None maxima) maximum ≤ now
  pub few : length maxima ≤ 2

-- A block that is sent begins with maxima that keep within the client's limits.
pub record KeepsLimits (t : List Entry) (block : Partial) : Type 0 where
  pub table : Table
  pub decodes : Decodes (sent t) table
  pub maxima : List ℕ
  pub fields : List Field
  pub next : Table
  pub is_block : IsBlock table block.fragments maxima fields next
  pub within : AreWithin table.maximum (limits_since t) (table_limit t) maxima

abbrev pub KeepsIfBlock : List Entry → Option Partial → Type 0
KeepsIfBlock t None = Unit {0}
KeepsIfBlock t (Some block) = KeepsLimits t block

abbrev pub EachKeeps : List Entry → Type 0
EachKeeps [] = Unit {0}
EachKeeps (Sent noted ∷ t) = KeepsIfBlock t (completed (sent t) noted.frame) × EachKeeps t
EachKeeps (_ ∷ t) = EachKeeps t

-- ---- blocks in several frames (RFC 9113, section 4.3)

-- The frames of a block stand together, and each block is whole.
abbrev pub AreTogether : List Noted → Type 0
AreTogether [] = Unit {0}
AreTogether (noted ∷ before) = (is_between (begun before) noted.frame ≡ false) × AreTogether before

-- The client reads each header block over the one table of that direction, within the limits that it set, and on each stream
-- what was on offer for it.
pub record ResponsesHold (known : Known) (t : List Entry) : Type 0 where
  pub table : Table
  pub decodes : Decodes (sent t) table
  pub decoded : are_decoded (sent t) ≡ true
  pub together : AreTogether (sent t)
  pub none_begun : begun (sent t) ≡ None
  pub limits : EachKeeps t
  pub delivered : (stream : ℕ) → IsDelivered known t stream
