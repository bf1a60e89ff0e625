-- Which stream has a connection, by the exchanges that began; and where moves led what is kept of the stream of an open one.
use Rattle.std.proofs.Common.{◌≡◌, ℕ, true, false, List, [], ◌∷◌, Some, refl, sym, ◌∙◌, ap, subst, inl, inr, if◌then◌else◌}
use Rattle.std.proofs.lemmas.Bool.{ne_eqb}
use Rattle.std.proofs.lemmas.Bool.Decides.{eqb_tells}
use Rattle.model.specs.Setup.{Setup}
use Rattle.model.specs.Tapes.{Entry}
use Rattle.model.specs.Openings.{Opened, exchanges, exchange_on, given, connection_of, AreApart, IsGivenNone}
use Rattle.model.specs.Available.{IsIn}
use Rattle.model.proofs.DeliveryReadings.{one_connection}
use Rattle.model.proofs.ExchangeLaws.{open_exchange}
use Rattle.theory_receive_windows.specs.State as windows
use Rattle.theory_receive_windows.specs.State.{is_live}
use Rattle.theory_receive_windows.specs.Rule.{moves_of}
use Rattle.theory_receive_windows.proofs.Resting.{Receiving}
use Rattle.theory_receive_windows.proofs.Incoming.{live_among}
use Rattle.theory_requests.specs.State as theory_requests
use Rattle.theory_requests.specs.Lines.{line_of, find}
use Rattle.theory_requests.specs.Pool.{IsSo}
use Rattle.theory_requests.proofs.Standing as standing
use Rattle.upstream_connections.specs.Connections.{Connection, number_of}
use Rattle.window_credit.specs.Sides.{Side}
use Rattle.window_credit.specs.Sides as marks
use Rattle.window_credit.specs.Standing.{IsOf, NoneReached}
use Rattle.window_credit.proofs.Telling as telling
use Rattle.theory.specs.Moves.{Move}
use Rattle.theory.specs.State.{State, tape_of, windows_of}
use Rattle.theory.specs.Rule.{rooms_in}
use Rattle.theory.specs.Steps.{told_by}
use Rattle.refinement.specs.View.{View, Pending, newest_in, Leads}
use Rattle.refinement.proofs.Staying.{found_live}
use Rattle.refinement.proofs.Where.{own, right_here, stands_here, windows_here, windows_allowed, moved_here}

-- ---- by the exchanges that began

-- A connection that was given to a stream is the one that it has.
pub connection_in : (os : List Opened) (o : Opened) → AreApart os → IsIn o os → connection_of o.stream os ≡ o.k
connection_in [] o apart there = absurd there
connection_in (p ∷ os) o apart there = elim (eqb_tells p.stream o.stream) [
  | inl same ↦ ap (λ b. if b then p.k else connection_of o.stream os) same.0 ∙ ap (λ (x : Opened). x.k) (one_connection (p ∷ os) p o apart (inl refl) there same.1)
  | inr off ↦ ap (λ b. if b then p.k else connection_of o.stream os) off.0 ∙ (elim there [
    | inl same ↦ absurd (off.1 (sym (ap (λ (x : Opened). x.stream) same)))
    | inr rest ↦ connection_in os o apart.1 rest
  ])
]

-- One that was given none has none.
pub none_connected : (id : ℕ) (os : List Opened) → IsGivenNone id os → connection_of id os ≡ 0
none_connected id [] none = refl
none_connected id (o ∷ os) none = ap (λ b. if b then o.k else connection_of id os) (ne_eqb o.stream id (λ same. none.0 (sym same))) ∙ none_connected id os none.1

-- ---- where moves led

-- nothing waits behind a mark that is reached
pub none_reached : (setup : Setup) (run : List Move) (kept : View) (pending : Pending) (s : State) → Leads setup run kept pending s → NoneReached (rooms_in (told_by s) s)
none_reached setup run kept pending s leads =
    subst NoneReached (moved_here setup run s leads.stands leads.so) (telling.ahead setup.more_room setup.passing (moves_of (windows_of setup run)) (windows_allowed setup run s leads.stands leads.so))

module _ (setup : Setup) (run : List Move) (kept : View) (pending : Pending) (s : State) (leads : Leads setup run kept pending s) (k : ℕ) (c : Connection) (found : find number_of k kept.upstreams.live ≡ Some c) where
  abbrev t : List Entry
  t = tape_of run

  abbrev rooms : windows.State
  rooms = rooms_in (told_by s) s

  abbrev stream : ℕ
  stream = c.live.stream

  stand : standing.Stands (own setup run s leads.stands leads.so) t s.requests
  stand = stands_here setup run s leads.stands leads.so

  -- the connection is as it is kept
  line_here : IsSo (own setup run s leads.stands leads.so) t k c.live
  line_here = stand.keeps.are_so k c.live (ap (λ (r : theory_requests.State). line_of k r.live) leads.keeps.requests ∙ found_live k kept.upstreams.live c found)

  -- it was given to its stream last, and that has no other
  pub given_here : given k (exchanges t) ≡ stream
  given_here = line_here.stream

  connection_here : connection_of stream (exchanges t) ≡ k
  connection_here =
      ap (λ n. connection_of n (exchanges t)) (sym given_here)
      ∙ connection_in (exchanges t) (exchange_on k t) stand.apart (open_exchange k t line_here.opened)

  row_connection : (id : ℕ) → is_live rooms id ≡ true → (rooms.row id).k ≡ connection_of id (exchanges t)
  row_connection id on =
      let receives : Receiving setup.more_room setup.passing t rooms = windows_here setup run s leads.stands leads.so in
      (receives.keeping.streams id (sym (live_among setup.more_room setup.passing t rooms id receives.keeping) ∙ on)).connection

  -- The row of its stream has its number, while that is active; rows of streams that it was given to before may have it, too.
  pub its_row : is_live rooms stream ≡ true → (rooms.row stream).k ≡ k
  its_row on = row_connection stream on ∙ connection_here

  -- Its stream is the one that it was given to last, by the book.
  pub newest_is : newest_in s k ≡ stream
  newest_is = ap (λ os. given k os) (right_here setup run s leads.stands leads.so).given ∙ given_here

  -- What is kept of its stream's marks is of it, and has just its counts.
  pub its_side : (side : Side) → marks.find stream kept.marks ≡ Some side → (side.k ≡ k) × (side.past ≡ false) × (side.out ≡ c.out) × (side.took ≡ c.took)
  its_side side there =
      let row = leads.marked.stand.rows stream side there in
      let number : side.k ≡ k = sym row.k ∙ its_row (leads.marked.stand.live stream side there) in
      let last : side.past ≡ false = telling.newest_is (newest_in s) kept.marks rooms leads.marked.stand stream side there (ap (newest_in s) number ∙ newest_is) in
      let counted = leads.keeps.counted k c found in (
        number,
        last,
        sym (row.put_out last) ∙ ap rooms.out number ∙ counted.0,
        sym (row.taken (telling.followed side last)) ∙ ap rooms.took number ∙ counted.1,
      )

  -- So of marks those of its stream are of it, where they are kept.
  pub of_it : IsOf (newest_in s k) k kept.marks
  of_it side there = (its_side side (ap (λ n. marks.find n kept.marks) (sym newest_is) ∙ there)).0
