-- The invariant behind what comes in.
use Rattle.std.proofs.Common.{◌≡◌, ℕ, ◌+◌, ◌≤◌, Bool, true, false, not, ◌&&◌, ◌||◌, ◌==◌, List, ◌∷◌, refl, sym, ap, subst, ◌∙◌, arith, if◌then◌else◌, inl, inr, pos}
use Rattle.std.specs.Prelude.{sum_by}
use Rattle.std.proofs.lemmas.Int.{ints}
use Rattle.std.proofs.lemmas.List.Sums.{sum_by-cons}
use Rattle.std.proofs.lemmas.Bool.{and_parts, eq-eqb, ne_eqb}
use Rattle.std.proofs.lemmas.Bool.Decides.{eqb_tells}
use Rattle.model.specs.Logs.{Event}
use Rattle.model.specs.Logs.Event.{Client, ClientEnd, ClientTook, Up, UpEnd, UpFailed, UpTook, Drain}
use Rattle.model.specs.Setup.{Passing}
use Rattle.model.specs.Setup.Passing.{Whole, Streaming}
use Rattle.model.specs.Tapes.{Noted, Breach, Entry, came, sent}
use Rattle.model.specs.Tapes.Entry.{Came, Breached, Happened}
use Rattle.model.specs.Decoding.{completed}
use Rattle.model.specs.Lifetimes.{opened, opens_by, is_opened, is_over, is_active, is_drained}
use Rattle.model.specs.Windows.{balance}
use Rattle.model.specs.WindowsOnTape.{is_on, is_any, data_length, data_octets, increments}
use Rattle.model.proofs.OpenedLaws.{opens_new}
use Rattle.model.proofs.ActiveLaws.{active_came}
use Rattle.theory_receive_windows.specs.Marks.{total, pop, released}
use Rattle.theory_receive_windows.specs.State.{fresh_of, Row, State, held, dropped, unless_over, add, reached, blank, with_frame, with_event, with_taken}
use Rattle.theory_receive_windows.specs.Policy.{MayTake, IsNew}
use Rattle.theory_receive_windows.proofs.Queues.{split}
use Rattle.theory_receive_windows.proofs.Sums.{is_among, AreApart, one_goes, same_beside, two_sums}
use Rattle.theory_receive_windows.proofs.Tapes.{active_apart, among_active, goes_from_active, comes_to_active, data_on}
use Rattle.theory_receive_windows.proofs.Counting.{Counting}
use Rattle.theory_receive_windows.proofs.Keeping.{IsQueue, Stands, Keeping, no_fresh, waits_came, waits_broken, waits_event, waits_heard, waits_new}

-- ---- the streams that are kept

-- no stream is kept twice
pub live_apart : (more : ℕ) (passing : Passing) (t : List Entry) (s : State) → Keeping more passing t s → AreApart s.live
live_apart more passing t s h = subst AreApart (sym h.live) (active_apart t)

-- a stream is kept where it is active
pub live_among : (more : ℕ) (passing : Passing) (t : List Entry) (s : State) (id : ℕ) → Keeping more passing t s → is_among id s.live ≡ is_active id t
live_among more passing t s id h = ap (λ ids. is_among id ids) h.live ∙ among_active t id

-- What waits for a stream that is over goes back.
pub drops : (more : ℕ) (passing : Passing) (t : List Entry) (s : State) (over : Bool) (id : ℕ) → Keeping more passing t s → (over ≡ true → is_active id t ≡ true) → sum_by (held s) (unless_over over id s.live) + dropped over s id ≡ sum_by (held s) s.live
drops more passing t s true id h was = one_goes (held s) id s.live (live_apart more passing t s h) (live_among more passing t s id h ∙ was refl)
drops more passing t s false id h was = omega arith

-- a window as at first: as much came as was given back
as_much : (given came : ℕ) → balance given came ≡ pos 0 → came ≡ given
as_much given came e = omega (arith, ints, e)

-- ---- a frame of the client

module _ (more : ℕ) (passing : Passing) (t : List Entry) (s : State) (noted : Noted) (c : Counting t s) (h : Keeping more passing t s) (none : s.count ≡ 0) where
  -- what waits for a stream that was active
  queue_came : (p : Passing) (id : ℕ) → IsQueue p t id (s.row id) s.took s.out s.settled (fresh_of s id) → IsQueue p (Came noted ∷ t) id (s.row id) s.took s.out false (if noted.frame.id == id then data_length is_any noted.frame else 0)
  queue_came Whole id q = q
  queue_came Streaming id q = waits_came t id (s.row id) s.took s.out s.settled (fresh_of s id) (c.out (s.row id).k) q (no_fresh s id none) noted _ (data_on noted.frame id)

  -- a stream that was active
  stands_came : (id : ℕ) → is_active id t ≡ true → Stands passing (Came noted ∷ t) id (s.row id) s.took s.out false (if noted.frame.id == id then data_length is_any noted.frame else 0)
  stands_came id on =
      let old = h.streams id on in
      let own = old.own in
      let zero = no_fresh s id none in
      let more = data_on noted.frame id in
      record { own = omega (arith, own, zero, more); connection = old.connection; queue = queue_came passing id old.queue }

  -- a stream that isn't opened with it wasn't before
  opened_before : (id : ℕ) (b : Bool) → is_among id (if b then noted.frame.id ∷ opened t else opened t) ≡ false → is_opened id t ≡ false
  opened_before id true out = second (noted.frame.id == id) (is_opened id t) out
    where
      second : (b c : Bool) → (b || c) ≡ false → c ≡ false
      second true c e = absurd (let no : true ≡ false = e in cc)
      second false c e = e
  opened_before id false out = out

  -- a stream that is active behind the frame, and was not opened with it, was active
  came_beside : (over : Bool) → is_active noted.frame.id (Came noted ∷ t) ≡ (is_active noted.frame.id t && not over) → (id : ℕ) → is_active id (Came noted ∷ t) ≡ true → is_active id t ≡ true
  came_beside over own id on = elim (eqb_tells noted.frame.id id) [
    | inr off ↦ sym (active_came t noted id off.1) ∙ on
    | inl is ↦ (
        let both : (is_active noted.frame.id t && not over) ≡ true = sym own ∙ ap (λ n. is_active n (Came noted ∷ t)) is.1 ∙ on in
        sym (ap (λ n. is_active n t) is.1) ∙ (and_parts (is_active noted.frame.id t) (not over) both).0
        )
  ]

  -- its stream isn't opened with it
  pub keeping_old : (over : Bool) → MayTake t s noted false over → Keeping more passing (Came noted ∷ t) (with_frame s noted false over)
  keeping_old over may = record {
    live =
        ap (λ ids. unless_over over noted.frame.id ids) h.live
        ∙ sym (goes_from_active t (Came noted) noted.frame.id over (ap (λ b. if b then noted.frame.id ∷ opened t else opened t) may.opens) (λ other off. active_came t noted other off) may.opened);
    unopened = λ id out. h.unopened id (opened_before id (opens_by (is_drained t) (opened t) (completed (came t) noted.frame) noted.note) out);
    shared =
        let before = h.shared in
        let goes = drops more passing t s over noted.frame.id h may.was in
        omega (arith, before, goes, none);
    streams = λ id on. stands_came id (came_beside over may.opened id on);
  }

  -- nothing waits for a new stream but what the frame brings
  queue_new : (p : Passing) → IsNew t noted.frame.id → IsQueue p (Came noted ∷ t) noted.frame.id blank s.took s.out false (if noted.frame.id == noted.frame.id then data_length is_any noted.frame else 0)
  queue_new Whole new = refl
  queue_new Streaming new = waits_new t noted noted.frame.id s.took s.out _ (sym (c.out 0) ∙ c.none_out) (data_on noted.frame noted.frame.id)

  -- the row of a new stream stands for it
  stands_new : IsNew t noted.frame.id → is_opened noted.frame.id t ≡ false → Stands passing (Came noted ∷ t) noted.frame.id blank s.took s.out false (if noted.frame.id == noted.frame.id then data_length is_any noted.frame else 0)
  stands_new new out =
      let same = as_much (increments noted.frame.id (sent t)) (data_octets (is_on noted.frame.id) (came t)) new in
      let more = data_on noted.frame noted.frame.id in
      record { own = omega (arith, same, more); connection = sym (h.unopened noted.frame.id out); queue = queue_new passing new }

  -- its stream is
  pub keeping_new : MayTake t s noted true false → Keeping more passing (Came noted ∷ t) (with_frame s noted true false)
  keeping_new may =
      let out : is_among noted.frame.id (opened t) ≡ false = opens_new t noted may.opens in
      let idle : is_active noted.frame.id t ≡ false = ap (λ b. b && not (is_over noted.frame.id t)) out in
      let absent : is_among noted.frame.id s.live ≡ false = live_among more passing t s noted.frame.id h ∙ idle in
      let s' : State = with_frame s noted true false in record {
        live =
            ap (λ ids. noted.frame.id ∷ ids) h.live
            ∙ sym (comes_to_active t (Came noted) noted.frame.id (ap (λ b. if b then noted.frame.id ∷ opened t else opened t) may.opens) out (λ other off. active_came t noted other off) may.opened.1);
        unopened = λ id off. h.unopened id (opened_before id (opens_by (is_drained t) (opened t) (completed (came t) noted.frame) noted.note) off);
        shared =
            let before = h.shared in
            let a = sum_by-cons (held s') noted.frame.id s.live in
            let own : held s' noted.frame.id ≡ 0 = ap (λ b. total (if b then blank else s.row noted.frame.id).queue) (eq-eqb noted.frame.id noted.frame.id refl) in
            let beside : sum_by (held s') s.live ≡ sum_by (held s) s.live =
            same_beside (held s') (held s) noted.frame.id s.live (λ other off. ap (λ b. total (if b then blank else s.row other).queue) (turned other off)) absent in
            omega (arith, before, a, own, beside, none);
        streams = λ id on. elim (eqb_tells noted.frame.id id) [
          | inl is ↦ subst (λ (r : Row). Stands passing (Came noted ∷ t) id r s.took s.out false (if noted.frame.id == id then data_length is_any noted.frame else 0)) (sym (ap (λ b. if b then blank else s.row id) is.0))
              (subst (λ (n : ℕ). Stands passing (Came noted ∷ t) n blank s.took s.out false (if noted.frame.id == n then data_length is_any noted.frame else 0)) is.1 (stands_new may.opened.2 out))
          | inr off ↦ subst (λ (r : Row). Stands passing (Came noted ∷ t) id r s.took s.out false (if noted.frame.id == id then data_length is_any noted.frame else 0)) (sym (ap (λ b. if b then blank else s.row id) off.0))
              (stands_came id (sym (active_came t noted id off.1) ∙ on))
        ];
      }
    where
      turned : (other : ℕ) → (other == noted.frame.id) ≡ false → (noted.frame.id == other) ≡ false
      turned other off = ne_eqb noted.frame.id other (λ same. absurd (let no : true ≡ false = sym (eq-eqb other noted.frame.id (sym same)) ∙ off in cc))

-- ---- what is no frame

module _ (more : ℕ) (passing : Passing) (t : List Entry) (s : State) (c : Counting t s) (h : Keeping more passing t s) (none : s.count ≡ 0) where
  -- what waits behind octets that are not read
  queue_broken : (p : Passing) (breach : Breach) (id : ℕ) → IsQueue p t id (s.row id) s.took s.out s.settled (fresh_of s id) → IsQueue p (Breached breach ∷ t) id (s.row id) s.took s.out false (fresh_of s id)
  queue_broken Whole breach id q = q
  queue_broken Streaming breach id q = waits_broken t id (s.row id) s.took s.out s.settled (fresh_of s id) (c.out (s.row id).k) q (no_fresh s id none) breach

  -- octets that are not read: the invariant stays
  pub keeping_broken : (breach : Breach) → Keeping more passing (Breached breach ∷ t) (record s { settled = false })
  keeping_broken breach = record {
    live = h.live;
    unopened = h.unopened;
    shared = h.shared;
    streams = λ id on. let old = h.streams id on in record { own = old.own; connection = old.connection; queue = queue_broken passing breach id old.queue };
  }

  -- what waits behind an event that takes nothing
  queue_event : (p : Passing) (event : Event) (id : ℕ) → IsQueue p t id (s.row id) s.took s.out s.settled (fresh_of s id) → IsQueue p (Happened event ∷ t) id (s.row id) s.took s.out false (fresh_of s id)
  queue_event Whole event id q = q
  queue_event Streaming event id q = waits_event t id (s.row id) s.took s.out s.settled (fresh_of s id) (c.out (s.row id).k) q (no_fresh s id none) event

  -- each stream behind it
  stands_event : (event : Event) (id : ℕ) → is_active id t ≡ true → Stands passing (Happened event ∷ t) id (s.row id) s.took s.out false (fresh_of s id)
  stands_event event id on = let old = h.streams id on in record { own = old.own; connection = old.connection; queue = queue_event passing event id old.queue }

  -- ---- an upstream's side took octets

  -- what waits behind the octets that are taken
  queue_taken : (p : Passing) (k count : ℕ) (id : ℕ) → IsQueue p t id (s.row id) s.took s.out s.settled (fresh_of s id) → IsQueue p (Happened (UpTook k count) ∷ t) id (reached (add k count s.took (s.row id).k) (s.row id)) (add k count s.took) s.out false (fresh_of s id)
  queue_taken Whole k count id q = ap (λ ms. pop (add k count s.took (s.row id).k) ms) q
  queue_taken Streaming k count id q = waits_heard t id (s.row id) s.took s.out s.settled (fresh_of s id) (c.out (s.row id).k) q (no_fresh s id none) (UpTook k count) (add k count s.took) (by ((s.row id).k == k))
    where
      by : (b : Bool) → s.took (s.row id).k ≤ (if b then s.took (s.row id).k + count else s.took (s.row id).k)
      by true = omega arith
      by false = omega arith

  -- each stream behind them
  stands_taken : (k count id : ℕ) → is_active id t ≡ true → Stands passing (Happened (UpTook k count) ∷ t) id (reached (add k count s.took (s.row id).k) (s.row id)) (add k count s.took) s.out false (fresh_of s id)
  stands_taken k count id on =
      let old = h.streams id on in
      let own = old.own in
      let parts = split (add k count s.took (s.row id).k) (s.row id).queue in
      record { own = omega (arith, own, parts); connection = old.connection; queue = queue_taken passing k count id old.queue }

  -- an upstream took octets: the invariant stays
  keeping_taken : (k count : ℕ) → Keeping more passing (Happened (UpTook k count) ∷ t) (with_taken s k count)
  keeping_taken k count = record {
    live = h.live;
    unopened = h.unopened;
    shared =
        let before = h.shared in
        let parts = two_sums (held s) (held (with_taken s k count)) (λ id. released (add k count s.took (s.row id).k) (s.row id).queue) s.live (λ id. split (add k count s.took (s.row id).k) (s.row id).queue) in
        omega (arith, before, parts);
    streams = stands_taken k count;
  }

  -- ---- any event

  -- Behind any event the invariant stays.
  pub keeping_event : (event : Event) → Keeping more passing (Happened event ∷ t) (with_event s event)
  keeping_event (UpTook k count) = keeping_taken k count
  keeping_event Drain = record { live = h.live; unopened = h.unopened; shared = h.shared; streams = stands_event Drain }
  keeping_event (Client piece) = record { live = h.live; unopened = h.unopened; shared = h.shared; streams = stands_event (Client piece) }
  keeping_event ClientEnd = record { live = h.live; unopened = h.unopened; shared = h.shared; streams = stands_event ClientEnd }
  keeping_event (ClientTook count) = record { live = h.live; unopened = h.unopened; shared = h.shared; streams = stands_event (ClientTook count) }
  keeping_event (Up k piece) = record { live = h.live; unopened = h.unopened; shared = h.shared; streams = stands_event (Up k piece) }
  keeping_event (UpEnd k) = record { live = h.live; unopened = h.unopened; shared = h.shared; streams = stands_event (UpEnd k) }
  keeping_event (UpFailed k) = record { live = h.live; unopened = h.unopened; shared = h.shared; streams = stands_event (UpFailed k) }
