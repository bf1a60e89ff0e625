-- Moves that are allowed keep the invariant, and where all is paid each receiving window is as at first but for what waits.
use Rattle.std.proofs.Common.{◌≡◌, ℕ, ◌+◌, Bool, true, false, ◌==◌, List, [], ◌∷◌, ◌++◌, length, refl, sym, ap, subst, ◌∙◌, arith, if◌then◌else◌, pos, ◌-ℤ◌, ◌≤ℤ◌, ◌<◌, inl, inr}
use Rattle.std.specs.Prelude.{sum_by, nat_lt, ◌<ℤ◌}
use Rattle.std.proofs.lemmas.Int.{ints}
use Rattle.std.proofs.lemmas.Bool.{eq-eqb}
use Rattle.model.specs.Frames.{window_update_kind}
use Rattle.model.specs.Logs.Act.{Open, ToUp, Close, CloseClient}
use Rattle.model.specs.Setup.{Passing, own_window}
use Rattle.model.specs.Setup.Passing.{Whole, Streaming}
use Rattle.model.specs.Tapes.{Noted, Entry, came, sent, sent_up}
use Rattle.model.specs.Tapes.Entry.{Sent}
use Rattle.model.specs.Known.{Known}
use Rattle.model.specs.Openings.{connection_of, route_of, exchanges}
use Rattle.model.specs.Windows.{sending_window}
use Rattle.model.specs.Limits.{first_window}
use Rattle.model.specs.Lifetimes.{is_active, is_ended_by_client}
use Rattle.model.specs.WindowsOnTape.{is_on, is_any, data_octets, increments, room_on, room_on_connection}
use Rattle.model.specs.WindowClause.{taken, waiting, kept, kept_in_all, GivesBack, GivesNoMore, GoesBack}
use Rattle.theory_receive_windows.specs.Marks.{total}
use Rattle.theory_receive_windows.specs.State.{exchange, fresh_of, State, Move, start, held, after, entries_of, tape_of, state_of}
use Rattle.theory_receive_windows.specs.State.Move.{Takes, Breaks, Hears, Settles, Gives, Sends, Uses, Acts}
use Rattle.theory_receive_windows.specs.Policy.{Holds, AreAllowed, IsPaid, IsOwed}
use Rattle.theory_receive_windows.proofs.Queues.{all_wait}
use Rattle.theory_receive_windows.proofs.Sums.{is_among, same_sum}
use Rattle.theory_receive_windows.proofs.Tapes.{among_active, active_given, by_any_route}
use Rattle.theory_receive_windows.proofs.Counting.{Counting, counting_start, counting_step}
use Rattle.theory_receive_windows.proofs.Keeping.{Waits, StandsIn, Keeping, keeping_start, no_fresh}
use Rattle.theory_receive_windows.proofs.Incoming.{keeping_old, keeping_new, keeping_broken, keeping_event}
use Rattle.theory_receive_windows.proofs.Outgoing.{keeping_settled, keeping_given, keeping_sent}
use Rattle.theory_receive_windows.proofs.Acting.{keeping_put, keeping_used, keeping_opened, keeping_closed, keeping_shut}

-- All that holds behind each move.
pub record Receiving (more : ℕ) (passing : Passing) (t : List Entry) (s : State) : Type 0 where
  pub counting : Counting t s
  pub keeping : Keeping more passing t s
  pub no_more : GivesNoMore (first_window + more) t

-- nothing came
pub receiving_start : (more : ℕ) (passing : Passing) → Receiving more passing [] (start more)
receiving_start more passing = record { counting = counting_start more; keeping = keeping_start more passing; no_more = tt }

-- ---- each move

-- what is kept behind any move
keeping_step : (more : ℕ) (passing : Passing) (t : List Entry) (s : State) (m : Move) → Counting t s → Keeping more passing t s → Holds passing t s m → Keeping more passing (entries_of m ++ t) (after passing s m)
keeping_step more passing t s (Takes noted true true) c h may = absurd (let no : true ≡ false = may.opened.0 in cc)
keeping_step more passing t s (Takes noted true false) c h may = keeping_new more passing t s noted c h may.settled may
keeping_step more passing t s (Takes noted false over) c h may = keeping_old more passing t s noted c h may.settled over may
keeping_step more passing t s (Breaks breach) c h may = keeping_broken more passing t s c h may breach
keeping_step more passing t s (Hears event) c h may = keeping_event more passing t s c h may.settled event
keeping_step more passing t s Settles c h may = keeping_settled more passing t s c h
keeping_step more passing t s (Gives noted) c h may = keeping_given more passing t s noted h may
keeping_step more passing t s (Sends noted over) c h may = keeping_sent more passing t s noted h over may
keeping_step more passing t s (Uses k octets) c h may = keeping_used more passing t s c h k octets may.0 may.1
keeping_step more passing t s (Acts (Open k route)) c h may = keeping_opened more passing t s c h k route may
keeping_step more passing t s (Acts (ToUp k octets)) c h may = keeping_put more passing t s c h k octets may
keeping_step more passing t s (Acts (Close k)) c h may = keeping_closed more passing t s c h k
keeping_step more passing t s (Acts CloseClient) c h may = keeping_shut more passing t s c h

-- no more was given back than came
below : (own given came rest : ℕ) → came ≡ given + rest → sending_window own given came ≤ℤ pos own
below own given came rest e = omega (arith, ints, e)

-- nor on the connection, whose window was made larger by so many octets
shared_below : (more given came rest : ℕ) → came + more ≡ given + rest → sending_window first_window given came ≤ℤ pos (first_window + more)
shared_below more given came rest e = omega (arith, ints, e)

-- a frame that gives octets back, on the connection or on a stream
no_more_given : (more : ℕ) (passing : Passing) (t : List Entry) (s : State) (noted : Noted) → Keeping more passing (Sent noted ∷ t) s → noted.frame.kind ≡ window_update_kind → (b : Bool) → (b ≡ false → is_active noted.frame.id t ≡ true) → (if b then room_on_connection (Sent noted ∷ t) else room_on (first_window + more) noted.frame.id (Sent noted ∷ t)) ≤ℤ pos (first_window + more)
no_more_given more passing t s noted h kind true on = shared_below more (increments 0 (sent (Sent noted ∷ t))) (data_octets is_any (came t)) _ h.shared
no_more_given more passing t s noted h kind false on =
    let here : is_active noted.frame.id (Sent noted ∷ t) ≡ true = active_given t noted kind noted.frame.id ∙ on refl in
    below (first_window + more) (increments noted.frame.id (sent (Sent noted ∷ t))) (data_octets (is_on noted.frame.id) (came t)) _ (h.streams noted.frame.id here).own

-- any move
no_more_step : (more : ℕ) (passing : Passing) (t : List Entry) (s : State) (m : Move) → Keeping more passing (entries_of m ++ t) (after passing s m) → GivesNoMore (first_window + more) t → Holds passing t s m → GivesNoMore (first_window + more) (entries_of m ++ t)
no_more_step more passing t s (Takes noted opens over) h g may = g
no_more_step more passing t s (Breaks breach) h g may = g
no_more_step more passing t s (Hears event) h g may = g
no_more_step more passing t s Settles h g may = g
no_more_step more passing t s (Gives noted) h g may = (λ kind. no_more_given more passing t (after passing s (Gives noted)) noted h kind (noted.frame.id == 0) (λ other. (subst (λ b. IsOwed t s noted.frame b) other may.owed).0), g)
no_more_step more passing t s (Sends noted over) h g may = (λ kind. absurd (let no : true ≡ false = sym (eq-eqb noted.frame.kind window_update_kind kind) ∙ may.kind in cc), g)
no_more_step more passing t s (Uses k octets) h g may = g
no_more_step more passing t s (Acts act) h g may = g

-- Each move that is allowed keeps the invariant.
pub receiving_step : (more : ℕ) (passing : Passing) (t : List Entry) (s : State) (m : Move) → Receiving more passing t s → Holds passing t s m → Receiving more passing (entries_of m ++ t) (after passing s m)
receiving_step more passing t s m h may =
    let keeping : Keeping more passing (entries_of m ++ t) (after passing s m) = keeping_step more passing t s m h.counting h.keeping may in
    record { counting = counting_step passing t s m h.counting may; keeping = keeping; no_more = no_more_step more passing t s m keeping h.no_more may }

-- Moves that are allowed keep it.
pub receiving : (more : ℕ) (passing : Passing) (moves : List Move) → AreAllowed more passing moves → Receiving more passing (tape_of moves) (state_of more passing moves)
receiving more passing [] all = receiving_start more passing
receiving more passing (m ∷ ms) all = receiving_step more passing (tape_of ms) (state_of more passing ms) m (receiving more passing ms all.0) all.1

-- ---- at rest

module _ (t : List Entry) (s : State) (c : Counting t s) (none : s.count ≡ 0) where
  -- what waits for a stream is what is kept for it
  held_kept : (passing : Passing) (id : ℕ) → StandsIn passing t s id → held s id ≡ kept passing id t
  held_kept Whole id h = ap (λ ms. total ms) h.queue
  held_kept Streaming id h =
      let q : Waits t id (s.row id) s.took s.out s.settled (fresh_of s id) = h.queue in
      let all = q.counts (s.took (s.row id).k) (s.out (s.row id).k) (omega arith) (λ e. refl) in
      let fresh = no_fresh s id none in
      let zero : (if nat_lt (s.took (s.row id).k) (s.out (s.row id).k) then fresh_of s id else 0) ≡ 0 = either (nat_lt (s.took (s.row id).k) (s.out (s.row id).k)) (fresh_of s id) fresh in
      let wait = all_wait (s.took (s.row id).k) (s.out (s.row id).k) (s.row id).queue q.rise q.above in
      let same : waiting (exchange id (s.row id).k) (s.took (s.row id).k) t (s.out (s.row id).k) ≡ kept Streaming id t =
      ap (λ n. waiting (exchange id (s.row id).k) n t (s.out (s.row id).k)) (c.took (s.row id).k)
      ∙ ap (λ n. waiting (exchange id (s.row id).k) (taken (s.row id).k t) t n) (c.out (s.row id).k)
      ∙ ap (λ j. waiting (exchange id j) (taken j t) t (length (sent_up j t))) h.connection
      ∙ by_any_route id (connection_of id (exchanges t)) 0 (route_of (connection_of id (exchanges t)) (exchanges t)) (taken (connection_of id (exchanges t)) t) t (length (sent_up (connection_of id (exchanges t)) t)) in
      omega (arith, all, zero, wait, same)
    where
      either : (b : Bool) (n : ℕ) → n ≡ 0 → (if b then n else 0) ≡ 0
      either true n e = e
      either false n e = refl

  -- what waits for all streams is what is kept for them
  all_kept : (more : ℕ) (passing : Passing) → Keeping more passing t s → sum_by (held s) s.live ≡ kept_in_all passing t
  all_kept more passing h =
      same_sum (held s) (λ id. kept passing id t) s.live (λ id among. held_kept passing id (h.streams id (sym (among_active t id) ∙ ap (λ ids. is_among id ids) (sym h.live) ∙ among)))
      ∙ ap (λ ids. sum_by (λ id. kept passing id t) ids) h.live

-- a window with as much less
less : (own given came rest : ℕ) → came ≡ given + rest → sending_window own given came ≡ (pos own -ℤ pos rest)
less own given came rest e = omega (arith, ints, e)

shared_less : (more given came rest : ℕ) → came + more ≡ given + rest → sending_window first_window given came ≡ (pos (first_window + more) -ℤ pos rest)
shared_less more given came rest e = omega (arith, ints, e)

-- Each receiving window is as at first, but for what is kept.
pub gives_back : (known : Known) (t : List Entry) (s : State) → Receiving known.setup.more_room known.setup.passing t s → IsPaid t s → GivesBack known t
gives_back known t s h paid = record {
  shared =
      let before = h.keeping.shared in
      let none = paid.settled in
      let owed = paid.shared in
      let all = all_kept t s h.counting paid.settled known.setup.more_room known.setup.passing h.keeping in
      shared_less known.setup.more_room (increments 0 (sent t)) (data_octets is_any (came t)) (kept_in_all known.setup.passing t) (omega (arith, before, none, owed, all));
  own = λ stream on not_ended.
      let stands = h.keeping.streams stream on in
      let own = stands.own in
      let fresh = no_fresh s stream paid.settled in
      let owed = paid.own stream on not_ended in
      let same = held_kept t s h.counting paid.settled known.setup.passing stream stands in
      less (own_window known.setup) (increments stream (sent t)) (data_octets (is_on stream) (came t)) (kept known.setup.passing stream t) (omega (arith, own, fresh, owed, same));
}

-- a window with less than that
under : (own given came rest : ℕ) → given + rest < came → sending_window own given came <ℤ (pos own -ℤ pos rest)
under own given came rest e = omega (arith, ints, e)

shared_under : (more given came rest : ℕ) → given + rest < came + more → sending_window first_window given came <ℤ (pos (first_window + more) -ℤ pos rest)
shared_under more given came rest e = omega (arith, ints, e)

-- Where octets are owed they go back.
pub shared_goes_back : (more : ℕ) (passing : Passing) (t : List Entry) (s : State) → Receiving more passing t s → s.count ≡ 0 → 0 < s.debt → GoesBack (first_window + more) passing t
shared_goes_back more passing t s h none some =
    let before = h.keeping.shared in
    let all = all_kept t s h.counting none more passing h.keeping in
    inl (shared_under more (increments 0 (sent t)) (data_octets is_any (came t)) (kept_in_all passing t) (omega (arith, before, none, all, some)))

pub own_goes_back : (more : ℕ) (passing : Passing) (t : List Entry) (s : State) (stream : ℕ) → Receiving more passing t s → s.count ≡ 0 → is_active stream t ≡ true → is_ended_by_client stream t ≡ false → 0 < (s.row stream).debt → GoesBack (first_window + more) passing t
own_goes_back more passing t s stream h none on open_yet some =
    let stands = h.keeping.streams stream on in
    let own = stands.own in
    let fresh = no_fresh s stream none in
    let same = held_kept t s h.counting none passing stream stands in
    inr (stream, on, open_yet, under (first_window + more) (increments stream (sent t)) (data_octets (is_on stream) (came t)) (kept passing stream t) (omega (arith, own, fresh, same, some)))

-- Behind moves that are allowed it holds.
pub gives_back_at_rest : (known : Known) (moves : List Move) → AreAllowed known.setup.more_room known.setup.passing moves → IsPaid (tape_of moves) (state_of known.setup.more_room known.setup.passing moves) → GivesBack known (tape_of moves)
gives_back_at_rest known moves all paid = gives_back known (tape_of moves) (state_of known.setup.more_room known.setup.passing moves) (receiving known.setup.more_room known.setup.passing moves all) paid

-- nothing is given back that did not come
pub gives_no_more : (more : ℕ) (passing : Passing) (moves : List Move) → AreAllowed more passing moves → GivesNoMore (first_window + more) (tape_of moves)
gives_no_more more passing moves all = (receiving more passing moves all).no_more

-- ---- the rooms now

-- Each room is as at first, without what waits, what came last, and what is owed.
pub shared_room : (more : ℕ) (passing : Passing) (t : List Entry) (s : State) → Receiving more passing t s → room_on_connection t ≡ pos (first_window + more) -ℤ pos (sum_by (held s) s.live + s.count + s.debt)
shared_room more passing t s h = shared_less more (increments 0 (sent t)) (data_octets is_any (came t)) _ h.keeping.shared

-- the same of an active stream
pub own_room : (more : ℕ) (passing : Passing) (t : List Entry) (s : State) (id : ℕ) → Receiving more passing t s → is_active id t ≡ true → room_on (first_window + more) id t ≡ pos (first_window + more) -ℤ pos (held s id + fresh_of s id + (s.row id).debt)
own_room more passing t s id h on = less (first_window + more) (increments id (sent t)) (data_octets (is_on id) (came t)) _ (h.keeping.streams id on).own
