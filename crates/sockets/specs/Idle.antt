-- What is idle is heard before the client.
use Rattle.std.specs.Prelude.{◌≡◌, ◌==◌, ◌&&◌, ◌||◌, ℕ, Bool, true, false, not, List, [], ◌∷◌, length, Option, None, Some}
use Rattle.effects.specs.declared.events.Event.{Event}
use Rattle.effects.specs.declared.events.Event.TheVariants as event
use Rattle.driver.specs.Calls.{HearsIdleFirst}
use Rattle.driver.specs.declared.world.Next.{Next}
use Rattle.driver.specs.declared.world.Next.TheVariants.{Happened, Nothing}
use Rattle.sockets.specs.Sides.{may_be_ready}
use Rattle.sockets.specs.declared.connections.Sockets.{Sockets}
use Rattle.sockets.specs.declared.reporting.Reporting.{Reporting}
use Rattle.sockets.specs.declared.reporting.Reporting.TheVariants.{Own, Shared}
use Rattle.sockets.specs.declared.upstream.Upstream.{Upstream}

-- whether something may be read of an open connection with this number, by its marks
abbrev pub could_read : {S : Type 0} → List (Upstream S) → ℕ → Bool
could_read [] k = false
could_read (upstream ∷ upstreams) k = (upstream.k == k && may_be_ready upstream.side) || could_read upstreams k

-- whether an event is octets of the client
abbrev pub is_of_client : Option Event → Bool
is_of_client (Some (event.Client octets)) = true
is_of_client event = false

-- what comes, where it is this event, or none
abbrev pub next_of : Option Event → Next
next_of None = Nothing
next_of (Some event) = Happened event

-- whether sockets have a poll of their own, and look at it themselves
abbrev pub is_alone : Reporting → Bool
is_alone (Own own) = true
is_alone (Shared shared) = false

-- Octets of the client came since all sockets were last looked at, though connections are idle.
abbrev pub is_held_back : {N S Stream Listener : Type 0} → List ℕ → Sockets N S Stream Listener → Bool
is_held_back idle sockets = (sockets.heard_at == sockets.looks) && not (length idle == 0)

-- An event that comes of sockets is octets of the client only where nothing may be read of one that is idle, behind a look at all.
abbrev pub HearsFirst : {N S Stream Listener : Type 0} → List ℕ → Option Event → Sockets N S Stream Listener → Sockets N S Stream Listener → Type 0
HearsFirst idle event old new = HearsIdleFirst idle (next_of event) (could_read new.upstreams.items) old.heard_at new.heard_at new.looks
