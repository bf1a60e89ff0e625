-- What a read gave, as an event.
use Rattle.std.proofs.Common.{◌≡◌, ◌≤◌, ◌<◌, ◌==◌, ◌||◌, ℕ, [], ◌∷◌, List, length, Result, Ok, Err, refl, sym, subst, inl, inr, arith}
use Rattle.std.specs.Prelude.{Bool, Option, None, Some, IfSome, IfOk, min, false, true, if◌then◌else◌}
use Rattle.std.specs.declared.io.Error.{Error}
use Rattle.std.proofs.lemmas.Bool.Decides.{nat_tests}
use Rattle.socket_io.specs.Transfers.{Gives}
use Rattle.socket_io.specs.declared.incoming.Got.{Got}
use Rattle.socket_io.specs.declared.incoming.Got.TheVariants.{Octets, Nothing, End}
use Rattle.effects.specs.declared.events.Event.{Event}
use Rattle.effects.specs.declared.events.Event.TheVariants.{Client, ClientEnd, ClientTook, Up, UpEnd, UpFailed, UpTook, Drain}
use Rattle.sockets.specs.declared.side.Side.{Side}
use Rattle.sockets.specs.declared.upstream.Upstream.{Upstream}
use Rattle.sockets.specs.Rooms.{room_in}
use Rattle.driver.specs.Worlds.{HasRoom, KeepsRooms}
use Rattle.driver.specs.declared.world.Next.TheVariants.{Happened}
use Rattle.driver.specs.declared.world.WorldFault.{WorldFault}
use Rattle.sockets.specs.Sides.{IsOf, Goes, Tells, lost_news}
use Rattle.sockets.specs.Performed.{FitsRoom, Fits, IsWithin, MovesOn, client_heard, got_news}
use Rattle.sockets.proofs.Moving.{told_lost, all_still}

-- There is room for it, where there is some.
some_room : (j k room : ℕ) (rooms : List (ℕ × ℕ)) → j ≡ k → room ≡ room_in k rooms → 0 < min room 65536 → 0 < room_in j rooms
some_room j k room rooms is of some =
    let here : 0 < room_in k rooms = grind (arith, some, of) in
    subst (λ n. 0 < room_in n rooms) (sym is) here

-- Octets of an upstream are no more than it has room for.
pub fits_room : (event : Option Event) (k room : ℕ) (rooms : List (ℕ × ℕ)) → IfSome event (IsOf k) → room ≡ room_in k rooms → FitsRoom (min room 65536) event → Fits rooms event
fits_room None k room rooms is of fits = tt
fits_room (Some (Up j octets)) k room rooms is of fits =
    let most = fits.1 in
    let within : length octets.items ≤ room_in k rooms = grind (arith, most, of) in
    (fits.0, subst (λ n. length octets.items ≤ room_in n rooms) (sym is) within)
fits_room (Some (UpEnd j)) k room rooms is of fits = some_room j k room rooms is of fits
fits_room (Some (UpFailed j)) k room rooms is of fits = some_room j k room rooms is of fits
fits_room (Some (UpTook j count)) k room rooms is of fits = absurd is
fits_room (Some Drain) k room rooms is of fits = tt
fits_room (Some (Client octets)) k room rooms is of fits = absurd is
fits_room (Some ClientEnd) k room rooms is of fits = tt
fits_room (Some (ClientTook count)) k room rooms is of fits = absurd is

-- Octets of the client are as many as a read gave.
pub fits_heard : (got : Got) (rooms : List (ℕ × ℕ)) → IsWithin 65536 got → Fits rooms (client_heard got)
fits_heard (Octets octets) rooms within = within
fits_heard Nothing rooms within = tt
fits_heard End rooms within = tt

told_end : (broken : Bool) (k room : ℕ) → 0 < room → FitsRoom room (Some (if broken then UpFailed k else UpEnd k))
told_end true k room some = some
told_end false k room some = some

told_nothing : (over : Bool) (k room : ℕ) → 0 < room → FitsRoom room (if over then Some (UpFailed k) else None)
told_nothing true k room some = some
told_nothing false k room some = tt

-- What a read of an upstream gave fits the room that there is.
pub read_fits : (got : Result Got Error) (told : Result (Option Event) WorldFault) (k room : ℕ) (broken lost : Bool) (had has : Option (List ℕ)) → 0 < room → IfOk got (λ g. Gives had has room g)
    → Tells k broken lost got told → IfOk told (λ event. FitsRoom room event)
read_fits (Ok (Octets octets)) told k room broken lost had has some gives tells = subst (λ r. IfOk r (λ event. FitsRoom room event)) (sym tells) (gives.0, gives.1)
read_fits (Ok End) told k room broken lost had has some gives tells = subst (λ r. IfOk r (λ event. FitsRoom room event)) (sym tells) (told_end broken k room some)
read_fits (Ok Nothing) told k room broken lost had has some gives tells = subst (λ r. IfOk r (λ event. FitsRoom room event)) (sym tells) (told_nothing (broken || lost) k room some)
read_fits (Err error) (Err fault) k room broken lost had has some gives tells = tt
read_fits (Err error) (Ok event) k room broken lost had has some gives tells =
    subst (λ r. IfOk r (λ event. FitsRoom room event)) (sym (tells.1 (λ memory. let no : false ≡ true = tells.0 memory in cc))) some

-- A connection that has room was handed.
has_first : (k count : ℕ) (one : ℕ × ℕ) (rooms : List (ℕ × ℕ)) (b : Bool) → (one.0 == k) ≡ b → (0 < room_in k rooms → count ≤ room_in k rooms → HasRoom rooms k count)
    → 0 < (if b then one.1 else room_in k rooms) → count ≤ (if b then one.1 else room_in k rooms) → HasRoom (one ∷ rooms) k count
has_first k count one rooms true is more some within = inl (grind (arith, nat_tests), within)
has_first k count one rooms false is more some within = inr (more some within)

has_room : (k count : ℕ) (rooms : List (ℕ × ℕ)) → 0 < room_in k rooms → count ≤ room_in k rooms → HasRoom rooms k count
has_room k count [] some within = absurd (let none : 0 < 0 = some in omega (arith, none))
has_room k count (one ∷ rooms) some within = has_first k count one rooms (one.0 == k) refl (has_room k count rooms) some within

-- What fits is of connections that have room for it.
pub fits_keeps : (rooms : List (ℕ × ℕ)) (event : Event) → Fits rooms (Some event) → KeepsRooms rooms (Happened event)
fits_keeps rooms (Up k octets) fits = let some = fits.0 in let most = fits.1 in has_room k (length octets.items) rooms (omega (arith, some, most)) most
fits_keeps rooms (UpEnd k) fits = has_room k 0 rooms fits (omega arith)
fits_keeps rooms (UpFailed k) fits = has_room k 0 rooms fits (omega arith)
fits_keeps rooms (UpTook k count) fits = tt
fits_keeps rooms Drain fits = tt
fits_keeps rooms (Client octets) fits = tt
fits_keeps rooms ClientEnd fits = tt
fits_keeps rooms (ClientTook count) fits = tt

module _ {S : Type 0} (left held : S → Option (List ℕ)) where
  -- The event tells what was read of the client.
  pub heard_moves : (got : Got) (c c' : Side S) (us : List (Upstream S)) → Goes left held (got_news got) c c' → MovesOn left held (Ok (client_heard got)) c us c' us
  heard_moves (Octets octets) c c' us goes = record { client_is = goes; others = all_still left held us }
  heard_moves Nothing c c' us goes = record { client_is = goes; others = all_still left held us }
  heard_moves End c c' us goes = record { client_is = goes; others = all_still left held us }

  -- What was read of it isn't told.
  pub got_lost : (got : Got) (old new : Side S) → Goes left held (got_news got) old new → Goes left held lost_news old new
  got_lost (Octets octets) old new goes = told_lost left held (Some octets.items) false old new goes
  got_lost Nothing old new goes = told_lost left held (Some []) false old new goes
  got_lost End old new goes = told_lost left held (Some []) true old new goes
