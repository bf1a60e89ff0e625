-- What is kept for a stream isn't given back: while the stream is active its row says so, and behind that nothing is given back on it.
use Rattle.std.proofs.Common.{◌≡◌, ℕ, ◌+◌, ◌<◌, ◌≤◌, Bool, true, false, ◌==◌, ◌&&◌, List, [], ◌∷◌, ◌++◌, length, refl, sym, ap, subst, ◌∙◌, arith, if◌then◌else◌, inl, inr, pos, ◌-ℤ◌, ◌≤ℤ◌}
use Rattle.std.specs.Prelude.{nat_lt}
use Rattle.std.proofs.lemmas.Int.{ints}
use Rattle.std.proofs.lemmas.Bool.{cases_Bool, and_right, ne_eqb}
use Rattle.std.proofs.lemmas.Bool.Decides.{eqb_tells}
use Rattle.model.specs.Frames.{window_update_kind}
use Rattle.model.specs.Logs.{Event}
use Rattle.model.specs.Logs.Event.{Client, ClientEnd, ClientTook, Up, UpEnd, UpFailed, UpTook, Drain}
use Rattle.model.specs.Logs.Act.{Open, ToUp, Close, CloseClient}
use Rattle.model.specs.Setup.{Passing}
use Rattle.model.specs.Setup.Passing.{Whole, Streaming}
use Rattle.model.specs.Tapes.{Noted, Breach, Entry, came, sent, sent_up}
use Rattle.model.specs.Tapes.Entry.{Came, Breached, Happened, Sent, Did}
use Rattle.model.specs.Openings.{connection_of, route_of, exchanges, given, last_stream, begins_another}
use Rattle.model.specs.Windows.{sending_window}
use Rattle.model.specs.Limits.{first_window}
use Rattle.model.specs.Lifetimes.{active, is_active}
use Rattle.model.specs.WindowsOnTape.{is_on, increment, data_length, data_octets, increments}
use Rattle.model.specs.WindowClause.{taken, waiting, kept, HoldsBack}
use Rattle.theory_receive_windows.specs.Marks.{Mark, total, waiting_of}
use Rattle.theory_receive_windows.specs.State.{exchange, fresh_of, State, is_live, Move, after, with_event, with_given, settle_by, must_wait, entries_of, tape_of, state_of}
use Rattle.theory_receive_windows.specs.State.Move.{Takes, Breaks, Hears, Settles, Gives, Sends, Uses, Acts}
use Rattle.theory_receive_windows.specs.Policy.{Holds, AreAllowed, IsOwed, MayGive}
use Rattle.theory_responses.proofs.Moving.{exchanges_sent}
use Rattle.theory_receive_windows.proofs.Sums.{is_among}
use Rattle.theory_receive_windows.proofs.Tapes.{among_active, active_given, by_any_route}
use Rattle.theory_receive_windows.proofs.Counting.{Counting}
use Rattle.theory_receive_windows.proofs.Keeping.{Waits, StandsIn}
use Rattle.model.proofs.AloneLaws.{same_exchanges}
use Rattle.theory_receive_windows.proofs.Resting.{Receiving, receiving}

-- the connection of a stream
abbrev upstream : ℕ → List Entry → ℕ
upstream id t = connection_of id (exchanges t)

-- What was given back on a stream and what waits is no more than came, whatever is taken and, until a frame's effect is over, put out.
abbrev pub IsHeldBack : Passing → List Entry → Bool → ℕ → Type 0
IsHeldBack Whole t settled id = increments id (sent t) ≤ data_octets (is_on id) (came t)
IsHeldBack Streaming t settled id =
    (n put : ℕ) → taken (upstream id t) t ≤ n → (settled ≡ true → put ≡ length (sent_up (upstream id t) t)) → increments id (sent t) + waiting (exchange id (upstream id t)) n t put ≤ data_octets (is_on id) (came t)

-- ---- while the stream is active

-- no more waits than there is
fewer_wait : (n : ℕ) (ms : List Mark) → waiting_of n ms ≤ total ms
fewer_wait n [] = omega arith
fewer_wait n (m ∷ ms) = by (nat_lt n m.mark) (fewer_wait n ms)
  where
    by : (b : Bool) → waiting_of n ms ≤ total ms → (if b then m.count else 0) + waiting_of n ms ≤ m.count + total ms
    by true le = omega (arith, le)
    by false le = omega (arith, le)

at_most : (b : Bool) (n : ℕ) → (if b then n else 0) ≤ n
at_most true n = omega arith
at_most false n = omega arith

-- its row says so
pub held_active : (passing : Passing) (t : List Entry) (s : State) (id : ℕ) → Counting t s → StandsIn passing t s id → IsHeldBack passing t s.settled id
held_active Whole t s id c h = let own = h.own in omega (arith, own)
held_active Streaming t s id c h = λ n put le cond.
    let k = (s.row id).k in
    let same : upstream id t ≡ k = sym h.connection in
    let q : Waits t id (s.row id) s.took s.out s.settled (fresh_of s id) = h.queue in
    let reached : s.took k ≤ n = subst (λ (x : ℕ). x ≤ n) (ap (λ j. taken j t) same ∙ sym (c.took k)) le in
    let all = q.counts n put reached (λ e. cond e ∙ ap (λ j. length (sent_up j t)) same ∙ sym (c.out k)) in
    let few = fewer_wait n (s.row id).queue in
    let fresh = at_most (nat_lt n put) (fresh_of s id) in
    let own = h.own in
    let here : waiting (exchange id (upstream id t)) n t put ≡ waiting (exchange id k) n t put = ap (λ j. waiting (exchange id j) n t put) same in
    omega (arith, all, few, fresh, own, here)

-- ---- behind any move

-- more of a number is no less
more_taken : (b : Bool) (n count : ℕ) → n ≤ (if b then n + count else n)
more_taken true n count = omega arith
more_taken false n count = omega arith

taken_more : (k : ℕ) (t : List Entry) (event : Event) → taken k t ≤ taken k (Happened event ∷ t)
taken_more k t (Client piece) = omega arith
taken_more k t ClientEnd = omega arith
taken_more k t (ClientTook count) = omega arith
taken_more k t (Up j piece) = omega arith
taken_more k t (UpEnd j) = omega arith
taken_more k t (UpFailed j) = omega arith
taken_more k t (UpTook j count) = more_taken (k == j) (taken k t) count
taken_more k t Drain = omega arith

module _ (t : List Entry) (id : ℕ) (settled : Bool) (h : IsHeldBack Streaming t settled id) where
  -- where the effect of the last frame is over
  arrived : (n : ℕ) → taken (upstream id t) t ≤ n → increments id (sent t) + waiting (exchange id (upstream id t)) n t (length (sent_up (upstream id t) t)) ≤ data_octets (is_on id) (came t)
  arrived n le = h n (length (sent_up (upstream id t) t)) le (λ e. refl)

  came_on : (noted : Noted) → IsHeldBack Streaming (Came noted ∷ t) false id
  came_on noted = λ n put le cond. let old = arrived n le in let few = at_most (nat_lt n put) (data_length (is_on id) noted.frame) in omega (arith, old, few)

  heard_on : (event : Event) → IsHeldBack Streaming (Happened event ∷ t) false id
  heard_on event = λ n put le cond. let more = taken_more (upstream id t) t event in arrived n (omega (arith, more, le))

  settled_on : IsHeldBack Streaming t true id
  settled_on = λ n put le cond. h n put le (λ e. cond refl)

-- more comes on it
came_whole : (t : List Entry) (noted : Noted) (settled : Bool) (id : ℕ) → IsHeldBack Whole t settled id → IsHeldBack Whole (Came noted ∷ t) false id
came_whole t noted settled id h = omega (arith, h)

came_held : (passing : Passing) (t : List Entry) (noted : Noted) (settled : Bool) (id : ℕ) → IsHeldBack passing t settled id → IsHeldBack passing (Came noted ∷ t) false id
came_held Whole t noted settled id h = came_whole t noted settled id h
came_held Streaming t noted settled id h = came_on t id settled h noted

broken_held : (passing : Passing) (t : List Entry) (breach : Breach) (settled : Bool) (id : ℕ) → IsHeldBack passing t settled id → IsHeldBack passing (Breached breach ∷ t) false id
broken_held Whole t breach settled id h = h
broken_held Streaming t breach settled id h = λ n put le cond. arrived t id settled h n le

heard_held : (passing : Passing) (t : List Entry) (event : Event) (settled : Bool) (id : ℕ) → IsHeldBack passing t settled id → IsHeldBack passing (Happened event ∷ t) false id
heard_held Whole t event settled id h = h
heard_held Streaming t event settled id h = heard_on t id settled h event

settled_held : (passing : Passing) (t : List Entry) (settled : Bool) (id : ℕ) → IsHeldBack passing t settled id → IsHeldBack passing t true id
settled_held Whole t settled id h = h
settled_held Streaming t settled id h = settled_on t id settled h

-- a frame that gives nothing back on it
sent_held : (passing : Passing) (t : List Entry) (noted : Noted) (settled : Bool) (id : ℕ) → (noted.frame.kind == window_update_kind && noted.frame.id == id) ≡ false → IsHeldBack passing t settled id → IsHeldBack passing (Sent noted ∷ t) settled id
sent_held passing t noted settled id other h = by passing h
  where
    same : increments id (sent (Sent noted ∷ t)) ≡ increments id (sent t) + 0
    same = ap (λ b. increments id (sent t) + (if b then increment noted.frame else 0)) other

    by : (passing : Passing) → IsHeldBack passing t settled id → IsHeldBack passing (Sent noted ∷ t) settled id
    by Whole h = omega (arith, h, same)
    by Streaming h = λ n put le cond. let old = h n put le cond in omega (arith, old, same)

-- a connection that is another stream's
opened_held : (passing : Passing) (t : List Entry) (k route : ℕ) (settled : Bool) (id : ℕ) → (last_stream t == id) ≡ false → IsHeldBack passing t settled id → IsHeldBack passing (Did (Open k route) ∷ t) settled id
opened_held Whole t k route settled id other h = h
opened_held Streaming t k route settled id other h = λ n put le cond.
    let same : upstream id (Did (Open k route) ∷ t) ≡ upstream id t = ap (λ b. if b then k else upstream id t) other in
    let old = h n put (subst (λ (j : ℕ). taken j t ≤ n) same le) (λ e. cond e ∙ ap (λ j. length (sent_up j t)) same) in
    let here : waiting (exchange id (upstream id (Did (Open k route) ∷ t))) n t put ≡ waiting (exchange id (upstream id t)) n t put = ap (λ j. waiting (exchange id j) n t put) same in
    omega (arith, old, here)

-- more is put out for the exchange of the last frame's stream, before that frame's effect is over
put_held : (passing : Passing) (t : List Entry) (k : ℕ) (octets : List ℕ) (settled : Bool) (id : ℕ) → given k (exchanges t) ≡ last_stream t → (passing ≡ Streaming → settled ≡ false) → IsHeldBack passing t settled id → IsHeldBack passing (Did (ToUp k octets) ∷ t) settled id
put_held Whole t k octets settled id its before h = h
put_held Streaming t k octets settled id its before h = λ n put le cond.
    let same : upstream id (Did (ToUp k octets) ∷ t) ≡ upstream id t = ap (connection_of id) (same_exchanges t k octets its) in
    let old = h n put (subst (λ (j : ℕ). taken j t ≤ n) same le) (λ e. absurd (let no : true ≡ false = sym e ∙ before refl in cc)) in
    let here : waiting (exchange id (upstream id (Did (ToUp k octets) ∷ t))) n t put ≡ waiting (exchange id (upstream id t)) n t put = ap (λ j. waiting (exchange id j) n t put) same in
    omega (arith, old, here)

-- or for one that begins for another stream
used_held : (passing : Passing) (t : List Entry) (k : ℕ) (octets : List ℕ) (settled : Bool) (id : ℕ) → (last_stream t == id) ≡ false → begins_another (given k (exchanges t)) (last_stream t) octets ≡ true → (passing ≡ Streaming → settled ≡ false) → IsHeldBack passing t settled id → IsHeldBack passing (Did (ToUp k octets) ∷ t) settled id
used_held Whole t k octets settled id other begins before h = h
used_held Streaming t k octets settled id other begins before h = λ n put le cond.
    let same : upstream id (Did (ToUp k octets) ∷ t) ≡ upstream id t = ap (connection_of id) (exchanges_sent k octets t true begins) ∙ ap (λ b. if b then k else upstream id t) other in
    let old = h n put (subst (λ (j : ℕ). taken j t ≤ n) same le) (λ e. absurd (let no : true ≡ false = sym e ∙ before refl in cc)) in
    let here : waiting (exchange id (upstream id (Did (ToUp k octets) ∷ t))) n t put ≡ waiting (exchange id (upstream id t)) n t put = ap (λ j. waiting (exchange id j) n t put) same in
    omega (arith, old, here)

closed_held : (passing : Passing) (t : List Entry) (k : ℕ) (settled : Bool) (id : ℕ) → IsHeldBack passing t settled id → IsHeldBack passing (Did (Close k) ∷ t) settled id
closed_held Whole t k settled id h = h
closed_held Streaming t k settled id h = h

shut_held : (passing : Passing) (t : List Entry) (settled : Bool) (id : ℕ) → IsHeldBack passing t settled id → IsHeldBack passing (Did CloseClient ∷ t) settled id
shut_held Whole t settled id h = h
shut_held Streaming t settled id h = h

-- ---- behind moves

-- an event begins an effect
event_begins : (s : State) (event : Event) → (with_event s event).settled ≡ false
event_begins s (Client piece) = refl
event_begins s ClientEnd = refl
event_begins s (ClientTook count) = refl
event_begins s (Up j piece) = refl
event_begins s (UpEnd j) = refl
event_begins s (UpFailed j) = refl
event_begins s (UpTook j count) = refl
event_begins s Drain = refl

effect_ends : (b : Bool) (s : State) → (settle_by b s).settled ≡ true
effect_ends true s = refl
effect_ends false s = refl

-- what is given back leaves it as it is
given_on : (b : Bool) (s : State) (noted : Noted) → (with_given b s noted).settled ≡ s.settled
given_on true s noted = refl
given_on false s noted = refl

-- the frame gives back on a stream that is active
given_active : (t : List Entry) (s : State) (noted : Noted) (b : Bool) → b ≡ false → IsOwed t s noted.frame b → is_active noted.frame.id t ≡ true
given_active t s noted true e owed = absurd (let no : true ≡ false = e in cc)
given_active t s noted false e owed = owed.0

-- so on none that is over
gives_elsewhere : (t : List Entry) (s : State) (noted : Noted) (id : ℕ) → 0 < id → MayGive t s noted.frame → is_active id (Sent noted ∷ t) ≡ false → (noted.frame.id == id) ≡ false
gives_elsewhere t s noted id counted may off = elim (eqb_tells noted.frame.id id) [
  | inl is ↦ (
      let apart : (noted.frame.id == 0) ≡ false = ne_eqb noted.frame.id 0 (λ zero. let same = is.1 in omega (arith, counted, zero, same)) in
      let on : is_active noted.frame.id t ≡ true = given_active t s noted (noted.frame.id == 0) apart may.owed in
      let here : is_active id t ≡ true = subst (λ (n : ℕ). is_active n t ≡ true) is.1 on in
      absurd (let no : true ≡ false = sym here ∙ sym (active_given t noted may.kind id) ∙ off in cc)
      )
  | inr x ↦ x.0
]

-- a connection is given to an active stream alone
begins_elsewhere : (t : List Entry) (s : State) (id : ℕ) → s.live ≡ active t → s.stream ≡ last_stream t → is_live s s.stream ≡ true → is_active id t ≡ false → (last_stream t == id) ≡ false
begins_elsewhere t s id live last on_live off = elim (eqb_tells (last_stream t) id) [
  | inl is ↦ (
      let among : is_among id (active t) ≡ true = ap (λ ids. is_among id ids) (sym live) ∙ ap (λ n. is_among n s.live) (sym is.1 ∙ sym last) ∙ on_live in
      absurd (let no : true ≡ false = sym among ∙ among_active t id ∙ off in cc)
      )
  | inr x ↦ x.0
]

-- a stream that is over behind any move
over_held : (more : ℕ) (passing : Passing) (t : List Entry) (s : State) (m : Move) (id : ℕ) → 0 < id → Receiving more passing t s → is_active id (entries_of m ++ t) ≡ false → IsHeldBack passing t s.settled id → Holds passing t s m → IsHeldBack passing (entries_of m ++ t) (after passing s m).settled id
over_held more passing t s (Takes noted opens over) id counted r off h may = came_held passing t noted s.settled id h
over_held more passing t s (Breaks breach) id counted r off h may = broken_held passing t breach s.settled id h
over_held more passing t s (Hears event) id counted r off h may = subst (λ b. IsHeldBack passing (Happened event ∷ t) b id) (sym (event_begins s event)) (heard_held passing t event s.settled id h)
over_held more passing t s Settles id counted r off h may = subst (λ b. IsHeldBack passing t b id) (sym (effect_ends (must_wait passing s) s)) (settled_held passing t s.settled id h)
over_held more passing t s (Gives noted) id counted r off h may =
    subst (λ b. IsHeldBack passing (Sent noted ∷ t) b id) (sym (given_on (noted.frame.id == 0) s noted))
    (sent_held passing t noted s.settled id (ap (λ b. noted.frame.kind == window_update_kind && b) (gives_elsewhere t s noted id counted may off) ∙ and_right (noted.frame.kind == window_update_kind) false refl) h)
over_held more passing t s (Sends noted over) id counted r off h may = sent_held passing t noted s.settled id (ap (λ b. b && noted.frame.id == id) may.kind) h
over_held more passing t s (Uses k octets) id counted r off h may = used_held passing t k octets s.settled id (begins_elsewhere t s id r.keeping.live r.counting.last may.0.active off) may.0.begins may.0.in_effect h
over_held more passing t s (Acts (Open k route)) id counted r off h may = opened_held passing t k route s.settled id (begins_elsewhere t s id r.keeping.live r.counting.last may.active off) h
over_held more passing t s (Acts (ToUp k octets)) id counted r off h may = put_held passing t k octets s.settled id may.its may.in_effect h
over_held more passing t s (Acts (Close k)) id counted r off h may = closed_held passing t k s.settled id h
over_held more passing t s (Acts CloseClient) id counted r off h may = shut_held passing t s.settled id h

-- nothing came
nothing_held : (passing : Passing) (id : ℕ) → IsHeldBack passing [] false id
nothing_held Whole id = omega arith
nothing_held Streaming id = λ n put le cond. omega arith

-- It is so behind moves that are allowed.
held_back : (more : ℕ) (passing : Passing) (moves : List Move) → AreAllowed more passing moves → (id : ℕ) → 0 < id → IsHeldBack passing (tape_of moves) (state_of more passing moves).settled id
held_back more passing [] all id counted = nothing_held passing id
held_back more passing (m ∷ ms) all id counted = elim (cases_Bool (is_active id (tape_of (m ∷ ms)))) [
  | inl on ↦ (
      let r = receiving more passing (m ∷ ms) all in
      held_active passing (tape_of (m ∷ ms)) (state_of more passing (m ∷ ms)) id r.counting (r.keeping.streams id on)
      )
  | inr off ↦ over_held more passing (tape_of ms) (state_of more passing ms) m id counted (receiving more passing ms all.0) off (held_back more passing ms all.0 id counted) all.1
]

-- a window with as much less, or more less
at_least_less : (own given came rest : ℕ) → given + rest ≤ came → sending_window own given came ≤ℤ (pos own -ℤ pos rest)
at_least_less own given came rest e = omega (arith, ints, e)

-- what is kept for the stream is no more
kept_less : (passing : Passing) (t : List Entry) (settled : Bool) (id : ℕ) → IsHeldBack passing t settled id → increments id (sent t) + kept passing id t ≤ data_octets (is_on id) (came t)
kept_less Whole t settled id h = omega (arith, h)
kept_less Streaming t settled id h =
    let k = upstream id t in
    let old = h (taken k t) (length (sent_up k t)) (omega arith) (λ e. refl) in
    let same : waiting (exchange id k) (taken k t) t (length (sent_up k t)) ≡ kept Streaming id t = by_any_route id k 0 (route_of k (exchanges t)) (taken k t) t (length (sent_up k t)) in
    omega (arith, old, same)

-- What is kept for a stream isn't given back on it.
pub holds_back : (more : ℕ) (passing : Passing) (moves : List Move) → AreAllowed more passing moves → HoldsBack (first_window + more) passing (tape_of moves)
holds_back more passing moves all = λ stream counted.
    at_least_less (first_window + more) (increments stream (sent (tape_of moves))) (data_octets (is_on stream) (came (tape_of moves))) (kept passing stream (tape_of moves))
    (kept_less passing (tape_of moves) (state_of more passing moves).settled stream (held_back more passing moves all stream counted))
