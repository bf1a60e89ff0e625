-- Which event may come is what the tape tells, where what takes room of upstreams is told rightly.
use Rattle.std.proofs.Common.{◌≡◌, ℕ, ◌+◌, ◌-◌, Bool, true, false, not, ◌&&◌, List, length, Option, Some, None, refl, sym, ◌∙◌, ap, subst, arith, if◌then◌else◌}
use Rattle.std.specs.Prelude.{is_some, nat_le, option_map}
use Rattle.std.proofs.lemmas.Bool.{leb-true, le-leb}
use Rattle.model.specs.Setup.{Setup}
use Rattle.model.specs.Logs.{Event}
use Rattle.model.specs.Logs.Event.{Client, ClientEnd, ClientTook, Up, UpEnd, UpFailed, UpTook, Drain}
use Rattle.model.specs.Tapes.{Entry}
use Rattle.model.specs.Admission.{is_open}
use Rattle.model.specs.Openings.{Opened, given}
use Rattle.model.specs.Rooms.{IsRoom, IsAdmitted}
use Rattle.model.specs.Known.{Known}
use Rattle.theory_errors.specs.Rule.{AreKnown, known_of}
use Rattle.theory_errors.specs.Summary.{Summary}
use Rattle.theory_errors.specs.Book.{Book}
use Rattle.theory_errors.proofs.Knowing.{known_so}
use Rattle.theory_receive_windows.specs.Policy.{Gates, AreGates}
use Rattle.theory_receive_windows.specs.Policy as receiving_policy
use Rattle.theory_receive_windows.specs.Rooms.{IsHeld, AreHeld, admits_beside}
use Rattle.theory_receive_windows.specs.State as theory_receive_windows
use Rattle.theory_receive_windows.proofs.Admitting.{is_room, admitted, admits_it}
use Rattle.theory_receive_windows.proofs.Counting.{Counting}
use Rattle.theory_requests.specs.State as theory_requests
use Rattle.theory_requests.specs.Lines.{find, line_of}
use Rattle.theory_requests.proofs.Connections.{connections_told}
use Rattle.upstream_connections.specs.Connections.{Connection, number_of}
use Rattle.theory.specs.Moves.{Move}
use Rattle.theory.specs.State.{State, conducts, tape_of, turns_of, gates_in, summary_at}
use Rattle.theory.specs.Rule.{rooms_in}
use Rattle.theory.specs.Steps.{told_by}
use Rattle.theory.proofs.Tapes.{requests_tape}
use Rattle.theory.proofs.Telling.{live_told, all_moved, sight_right, closed_told}
use Rattle.theory.proofs.Placing.{turns_may, turns_so}
use Rattle.theory.proofs.Stepping.{before_is}
use Rattle.refinement.specs.View.{View, Pending, Leads}
use Rattle.refinement.proofs.Lives.{lives_found}
use Rattle.refinement.proofs.Where.{windows_here}
use Rattle.event_handlers.specs.Admission.{may_take, is_up, held_of, held_on, room_of, room_on, admits}

-- what fits the room that is left fits a room as at first
both_fit : (n held : ℕ) → (nat_le n 65536 && nat_le n (65536 - held)) ≡ nat_le n (65536 - held)
both_fit n held = by (nat_le n (65536 - held)) refl
  where
    by : (b : Bool) → nat_le n (65536 - held) ≡ b → (nat_le n 65536 && b) ≡ b
    by true e = let less = leb-true n (65536 - held) e in ap (λ b. b && true) (le-leb n 65536 (omega (arith, less)))
    by false e = none (nat_le n 65536)
      where
        none : (b : Bool) → (b && false) ≡ false
        none true = refl
        none false = refl

module _ (setup : Setup) (run : List Move) (kept : View) (pending : Pending) (s : State) (leads : Leads setup run kept pending s) where
  abbrev known : Known
  known = known_of setup (conducts run)

  knows : AreKnown known (conducts run)
  knows = known_so setup (conducts run)

  abbrev rooms : theory_receive_windows.State
  rooms = rooms_in (told_by s) s

  abbrev gates : Gates
  gates = gates_in (told_by s) s.requests

  -- what is told of connections is so
  gates_by_moves : AreGates (tape_of run) (gates_in (summary_at setup run) (theory_requests.state_of setup (turns_of setup run)))
  gates_by_moves =
      let moved = all_moved known run leads.stands.allowed in
      let so = leads.so known refl knows in
      record {
        is_up = λ k. connections_told known (turns_of setup run) (turns_may setup run leads.stands.allowed) (turns_so known run knows leads.stands.allowed so) k ∙ ap (λ (t : List Entry). is_open k t) (requests_tape setup run);
        given = λ k. ap (λ (os : List Opened). given k os) (sight_right known run knows moved).given;
        live = live_told known run knows moved;
        last = (sight_right known run knows moved).last;
        untaken = (sight_right known run knows moved).untaken;
        closed = closed_told known run knows moved;
      }

  gates_same : gates_in (summary_at setup run) (theory_requests.state_of setup (turns_of setup run)) ≡ gates
  gates_same = ap (λ (u : Summary). gates_in u (theory_requests.state_of setup (turns_of setup run))) (before_is setup run s leads.stands) ∙ ap (λ (x : State). gates_in (told_by s) x.requests) leads.stands.is

  gates_so : AreGates (tape_of run) gates
  gates_so = subst (λ (g : Gates). AreGates (tape_of run) g) gates_same gates_by_moves

  -- and what was put out and taken is counted rightly
  counting : Counting (tape_of run) rooms
  counting = (windows_here setup run s leads.stands leads.so).counting

  -- ---- by what is kept

  open_yet : gates.closed ≡ false
  open_yet = ap (λ (b : Book). b.closed) leads.keeps.book

  untaken : gates.untaken ≡ kept.untaken
  untaken = ap (λ (b : Book). b.untaken) leads.keeps.book

  some_mapped : {A B : Type 0} (f : A → B) (x : Option A) → is_some (option_map f x) ≡ is_some x
  some_mapped f None = refl
  some_mapped f (Some x) = refl

  up : (k : ℕ) → gates.is_up k ≡ is_up kept k
  up k =
      ap (λ (r : theory_requests.State). is_some (line_of k r.live)) leads.keeps.requests
      ∙ ap is_some (lives_found k kept.upstreams.live)
      ∙ some_mapped (λ (c : Connection). c.live) (find number_of k kept.upstreams.live)

  -- the room that is left
  left : (found : Option Connection) → (if is_some found then 65536 else 0) - held_of kept.offers found ≡ room_of kept.offers found
  left None = refl
  left (Some c) = refl

  room_left : (k : ℕ) → receiving_policy.room_in gates k - held_on kept k ≡ room_on kept k
  room_left k = ap (λ b. (if b then 65536 else 0) - held_on kept k) (up k) ∙ left (find number_of k kept.upstreams.live)

  -- octets of an upstream may come
  fit : (n : ℕ) (found : Option Connection) → ((is_some found && nat_le n (if is_some found then 65536 else 0)) && nat_le n (room_of kept.offers found)) ≡ (is_some found && nat_le n (room_of kept.offers found))
  fit n None = refl
  fit n (Some c) = both_fit n (held_of kept.offers (Some c))

  taken : (k count : ℕ) (found : Option Connection) → find number_of k kept.upstreams.live ≡ found → (is_some found && nat_le (rooms.took k + count) (rooms.out k)) ≡ may_take found count
  taken k count None is = refl
  taken k count (Some c) is =
      let counted = leads.keeps.counted k c is in
      ap (λ n. nat_le (n + count) (rooms.out k)) counted.1 ∙ ap (λ n. nat_le (c.took + count) n) counted.0

  and_true : (b : Bool) → (b && true) ≡ b
  and_true true = refl
  and_true false = refl

  come : (event : Event) → (receiving_policy.may_come gates rooms event && Rattle.theory_receive_windows.specs.Rooms.fits gates (held_on kept) event) ≡ admits kept event
  come (Client piece) = and_true (nat_le (length piece) 65536 && nat_le gates.untaken 1073741824) ∙ ap (λ n. nat_le (length piece) 65536 && nat_le n 1073741824) untaken
  come ClientEnd = refl
  come (ClientTook count) = and_true (nat_le count gates.untaken) ∙ ap (λ n. nat_le count n) untaken
  come (Up k piece) =
      ap (λ n. (gates.is_up k && nat_le (length piece) (if gates.is_up k then 65536 else 0)) && nat_le (length piece) n) (room_left k)
      ∙ ap (λ b. (b && nat_le (length piece) (if b then 65536 else 0)) && nat_le (length piece) (room_on kept k)) (up k)
      ∙ fit (length piece) (find number_of k kept.upstreams.live)
  come (UpEnd k) = and_true (gates.is_up k) ∙ up k
  come (UpFailed k) = and_true (gates.is_up k) ∙ up k
  come (UpTook k count) = and_true (gates.is_up k && nat_le (rooms.took k + count) (rooms.out k)) ∙ ap (λ b. b && nat_le (rooms.took k + count) (rooms.out k)) (up k) ∙ taken k count (find number_of k kept.upstreams.live) refl
  come Drain = refl

  beside : (event : Event) → admits_beside gates rooms (held_on kept) event ≡ admits kept event
  beside event = ap (λ b. (not b && receiving_policy.may_come gates rooms event) && Rattle.theory_receive_windows.specs.Rooms.fits gates (held_on kept) event) open_yet ∙ come event

  -- An upstream's connection is open by what is kept just where it is by the tape.
  pub up_by_tape : (k : ℕ) → is_up kept k ≡ is_open k (tape_of run)
  up_by_tape k = sym (up k) ∙ gates_so.is_up k

  -- The event may come by what is kept just where it may by the tape.
  module _ (known : Known) (event : Event) (told : AreHeld known (tape_of run) (held_on kept) event) where
    pub admitted_by_kept : admits kept event ≡ true → IsAdmitted known (tape_of run) event
    admitted_by_kept may = admitted known (tape_of run) rooms gates gates_so (held_on kept) counting event told (beside event ∙ may)

    pub admitted_by_tape : IsAdmitted known (tape_of run) event → admits kept event ≡ true
    admitted_by_tape may = sym (beside event) ∙ admits_it known (tape_of run) rooms gates gates_so (held_on kept) counting event told may

  -- The room of an upstream is that of the tape.
  pub room_by_tape : (known : Known) (k : ℕ) → IsHeld known.setup.passing known (tape_of run) k (held_on kept k) → IsRoom known.setup.passing known k (tape_of run) (room_on kept k)
  room_by_tape known k told = subst (IsRoom known.setup.passing known k (tape_of run)) (room_left k) (is_room known (tape_of run) rooms gates gates_so (held_on kept) counting known.setup.passing k told)
