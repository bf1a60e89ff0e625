-- What a report leaves of the sockets of a client.
use Rattle.std.specs.Prelude.{◌≡◌, ◌⊎◌, List, Some}
use Rattle.mio.specs.declared.event.event.Event.{Event}
use Rattle.sockets.specs.Performed.{AreRising, Changes, IsOpenNowhere}
use Rattle.sockets.specs.Sides.{KeepsHeard, note_side, noted}
use Rattle.sockets.specs.Tokens.{number_reported}
use Rattle.sockets.specs.declared.side.Side.{Side}
use Rattle.sockets.specs.declared.upstream.Upstream.{Upstream}

-- What was reported of a connection is noted of it.
abbrev pub HasNoted : {S : Type 0} → Event → Upstream S → Upstream S → Type 0
HasNoted report old new = KeepsHeard (note_side report old.side) new.side

-- It is noted of the connection with the reported number, if that is open, and all others are as they
-- were.
abbrev pub NotesOne : {S : Type 0} → Event → List (Upstream S) → List (Upstream S) → Type 0
NotesOne report old new =
    (IsOpenNowhere (number_reported report) old × (new ≡ old))
    ⊎ Changes (number_reported report) (HasNoted report) old new

-- What was reported is noted of the socket with the reported number: of the client's, which is 0, or
-- of a connection's, if the numbers of those rise.
pub record Notes
    {S : Type 0} (report : Event) (client : Side S) (upstreams : List (Upstream S))
    (client' : Side S) (upstreams' : List (Upstream S)) : Type 0 where
  pub of_client :
      number_reported report ≡ 0 → KeepsHeard (Some (noted report client)) (Some client')
  pub of_one :
      (number_reported report ≡ 0 → ⊥) → AreRising upstreams → NotesOne report upstreams upstreams'
