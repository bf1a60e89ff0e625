-- The invariant: what came is what was given back, what waits, and what is owed, on the connection and on each active stream.
use Rattle.std.proofs.Common.{◌≡◌, ℕ, ◌+◌, ◌≤◌, Bool, true, false, ◌==◌, ◌⊎◌, List, [], ◌∷◌, length, refl, sym, ap, subst, ◌∙◌, arith, if◌then◌else◌, inl, inr}
use Rattle.std.specs.Prelude.{nat_lt, sum_by}
use Rattle.std.proofs.lemmas.Bool.{ltb-true, ltb-false, le-ltb}
use Rattle.model.specs.Setup.{Passing}
use Rattle.model.specs.Setup.Passing.{Whole, Streaming}
use Rattle.model.specs.Logs.Act.{Open, ToUp}
use Rattle.model.specs.Tapes.{Noted, Breach, Entry, came, sent, sent_up}
use Rattle.model.specs.Tapes.Entry.{Came, Breached, Happened, Sent, Did}
use Rattle.model.specs.Logs.{Event}
use Rattle.model.specs.Openings.{connection_of, exchanges}
use Rattle.model.specs.Lifetimes.{active, is_opened, is_active}
use Rattle.model.specs.WindowsOnTape.{is_on, is_any, data_length, data_octets, increments}
use Rattle.model.specs.WindowClause.{waiting}
use Rattle.theory_receive_windows.specs.Marks.{total, waiting_of, Rise, IsAbove}
use Rattle.theory_receive_windows.specs.State.{exchange, Row, State, start, held, fresh_of, blank, given, waits, reached}
use Rattle.theory_receive_windows.proofs.Queues.{none_above, pop_later, popped_above, popped_rise, higher, pushed_rise, pushed_waiting, pushed_above}
use Rattle.theory_receive_windows.proofs.Tapes.{most_waits, none_waits, waits_alike}

-- What waits on the tape is what the queue says, however many octets more are taken; and what came with the last frame, however
-- many more are put out while its effect isn't over.
pub record Waits (t : List Entry) (id : ℕ) (r : Row) (took out : ℕ → ℕ) (settled : Bool) (fresh : ℕ) : Type 0 where
  pub counts : (n put : ℕ) → took r.k ≤ n → (settled ≡ true → put ≡ out r.k) → waiting (exchange id r.k) n t put ≡ waiting_of n r.queue + (if nat_lt n put then fresh else 0)
  pub above : IsAbove (took r.k) r.queue
  pub rise : Rise 0 r.queue (out r.k)

-- where requests are passed on whole nothing waits
abbrev pub IsQueue : Passing → List Entry → ℕ → Row → (ℕ → ℕ) → (ℕ → ℕ) → Bool → ℕ → Type 0
IsQueue Whole t id r took out settled fresh = r.queue ≡ []
IsQueue Streaming t id r took out settled fresh = Waits t id r took out settled fresh

-- what came on a stream
abbrev pub BalancesOn : List Entry → ℕ → Row → ℕ → Type 0
BalancesOn t id r fresh = data_octets (is_on id) (came t) ≡ increments id (sent t) + (total r.queue + fresh + r.debt)

-- The row of an active stream stands for it.
pub record Stands (passing : Passing) (t : List Entry) (id : ℕ) (r : Row) (took out : ℕ → ℕ) (settled : Bool) (fresh : ℕ) : Type 0 where
  pub own : BalancesOn t id r fresh
  pub connection : r.k ≡ connection_of id (exchanges t)
  pub queue : IsQueue passing t id r took out settled fresh

-- the same, of the row that is kept
abbrev pub StandsIn : Passing → List Entry → State → ℕ → Type 0
StandsIn passing t s id = Stands passing t id (s.row id) s.took s.out s.settled (fresh_of s id)

-- all that came, where the connection's window has so many octets more than 65,535
abbrev pub Balances : ℕ → List Entry → State → Type 0
Balances more t s = data_octets is_any (came t) + more ≡ increments 0 (sent t) + (sum_by (held s) s.live + s.count + s.debt)

-- What is kept of DATA is what the tape says.
pub record Keeping (more : ℕ) (passing : Passing) (t : List Entry) (s : State) : Type 0 where
  pub live : s.live ≡ active t
  -- a stream that wasn't opened has no connection
  pub unopened : (id : ℕ) → is_opened id t ≡ false → connection_of id (exchanges t) ≡ 0
  pub shared : Balances more t s
  pub streams : (id : ℕ) → is_active id t ≡ true → StandsIn passing t s id

-- nothing is kept at first
pub keeping_start : (more : ℕ) (passing : Passing) → Keeping more passing [] (start more)
keeping_start more passing = record { live = refl; unopened = λ id out. refl; shared = omega arith; streams = λ id a. absurd (let no : false ≡ true = a in cc) }

-- ---- something comes in

-- where nothing is fresh none is on any stream
pub no_fresh : (s : State) (id : ℕ) → s.count ≡ 0 → fresh_of s id ≡ 0
no_fresh s id none = by (s.stream == id)
  where
    by : (b : Bool) → (if b then s.count else 0) ≡ 0
    by true = none
    by false = refl

-- nothing, or nothing
none_if : (b : Bool) (n : ℕ) → n ≡ 0 → (if b then n else 0) ≡ 0
none_if true n e = e
none_if false n e = refl

module _ (t : List Entry) (id : ℕ) (r : Row) (took out : ℕ → ℕ) (settled : Bool) (fresh : ℕ) (puts : out r.k ≡ length (sent_up r.k t)) (w : Waits t id r took out settled fresh) (none : fresh ≡ 0) where
  -- what waits where the effect of the last frame is over
  arrived : (n : ℕ) → took r.k ≤ n → waiting (exchange id r.k) n t (length (sent_up r.k t)) ≡ waiting_of n r.queue
  arrived n le =
      let all : waiting (exchange id r.k) n t (out r.k) ≡ waiting_of n r.queue + (if nat_lt n (out r.k) then fresh else 0) = w.counts n (out r.k) le (λ e. refl) in
      let zero = none_if (nat_lt n (out r.k)) fresh none in
      let same : waiting (exchange id r.k) n t (length (sent_up r.k t)) ≡ waiting (exchange id r.k) n t (out r.k) = ap (λ put. waiting (exchange id r.k) n t put) (sym puts) in
      omega (arith, all, zero, same)

  -- a frame of the client
  pub waits_came : (noted : Noted) (more : ℕ) → data_length (is_on id) noted.frame ≡ more → Waits (Came noted ∷ t) id r took out false more
  waits_came noted more is = record {
    counts = λ n put le cond.
        let old = arrived n le in
        let new : (if nat_lt n put then data_length (is_on id) noted.frame else 0) ≡ (if nat_lt n put then more else 0) = ap (λ x. if nat_lt n put then x else 0) is in
        omega (arith, old, new);
    above = w.above;
    rise = w.rise;
  }

  -- octets that aren't read
  pub waits_broken : (breach : Breach) → Waits (Breached breach ∷ t) id r took out false fresh
  waits_broken breach = record { counts = λ n put le cond. let old = arrived n le in let zero = none_if (nat_lt n put) fresh none in omega (arith, old, zero); above = w.above; rise = w.rise }

  -- an event, with which as many octets are taken or more
  pub waits_heard : (event : Event) (took' : ℕ → ℕ) → took r.k ≤ took' r.k → Waits (Happened event ∷ t) id (reached (took' r.k) r) took' out false fresh
  waits_heard event took' more = record {
    counts = λ n put le cond.
        let old = arrived n (omega (arith, more, le)) in
        let same = pop_later (took' r.k) n r.queue le in
        let zero = none_if (nat_lt n put) fresh none in
        omega (arith, old, same, zero);
    above = popped_above (took' r.k) r.queue;
    rise = popped_rise (took' r.k) 0 (out r.k) r.queue w.rise;
  }

  -- an event with which nothing is taken
  pub waits_event : (event : Event) → Waits (Happened event ∷ t) id r took out false fresh
  waits_event event = record { counts = λ n put le cond. let old = arrived n le in let zero = none_if (nat_lt n put) fresh none in omega (arith, old, zero); above = w.above; rise = w.rise }

-- ---- the effect of a frame is over

module _ (t : List Entry) (id : ℕ) (r : Row) (took out : ℕ → ℕ) (settled : Bool) (fresh : ℕ) (w : Waits t id r took out settled fresh) where
  -- its octets go back, where all that was put out is taken or none came
  pub settled_back : (debt : ℕ) → (nat_lt (took r.k) (out r.k) ≡ false) ⊎ (fresh ≡ 0) → Waits t id (record { k = r.k; queue = r.queue; debt = debt }) took out true 0
  settled_back debt why = record {
    counts = λ n put le cond.
        let all = w.counts n put le (λ e. cond refl) in
        let zero : (if nat_lt n put then fresh else 0) ≡ 0 = elim why [
          | inl all_taken ↦ (
              let over : out r.k ≤ took r.k = ltb-false (took r.k) (out r.k) all_taken in
              let is : put ≡ out r.k = cond refl in
              ap (λ b. if b then fresh else 0) (le-ltb n put (omega (arith, over, le, is)))
              )
          | inr none ↦ none_if (nat_lt n put) fresh none
        ] in
        let nought = none_if (nat_lt n put) 0 refl in
        omega (arith, all, zero, nought);
    above = w.above;
    rise = w.rise;
  }

  -- they wait behind a mark
  pub settled_waits : nat_lt (took r.k) (out r.k) ≡ true → Waits t id (waits (out r.k) fresh r) took out true 0
  settled_waits lt = record {
    counts = λ n put le cond.
        let is : put ≡ out r.k = cond refl in
        let all = w.counts n put le (λ e. is) in
        let pushed = pushed_waiting n (out r.k) fresh r.queue in
        let same : (if nat_lt n put then fresh else 0) ≡ (if nat_lt n (out r.k) then fresh else 0) = ap (λ p. if nat_lt n p then fresh else 0) is in
        let nought = none_if (nat_lt n put) 0 refl in
        omega (arith, all, pushed, same, nought);
    above = pushed_above (took r.k) (out r.k) fresh r.queue (ltb-true (took r.k) (out r.k) lt) w.above;
    rise = pushed_rise 0 (out r.k) fresh r.queue w.rise;
  }

  -- ---- what is sent and done

  -- a frame to the client
  pub waits_sent : (noted : Noted) (debt : ℕ) → Waits (Sent noted ∷ t) id (record { k = r.k; queue = r.queue; debt = debt }) took out settled fresh
  waits_sent noted debt = record { counts = w.counts; above = w.above; rise = w.rise }

  -- more is put out, before the effect of the last frame is over
  pub waits_put : (k : ℕ) (octets : List ℕ) (out' : ℕ → ℕ) → settled ≡ false → out r.k ≤ out' r.k → Waits (Did (ToUp k octets) ∷ t) id r took out' settled fresh
  waits_put k octets out' before more = record {
    counts = λ n put le cond. w.counts n put le (λ e. absurd (let no : true ≡ false = sym e ∙ before in cc));
    above = w.above;
    rise = higher 0 (out r.k) (out' r.k) r.queue more w.rise;
  }

  -- the stream gets its connection
  pub waits_opened : (k route : ℕ) → out k ≡ 0 → out r.k ≡ 0 → took k ≡ 0 → took r.k ≡ 0 → length (sent_up k t) ≡ 0 → length (sent_up r.k t) ≡ 0 → Waits (Did (Open k route) ∷ t) id (given k r) took out settled fresh
  waits_opened k route ok orr tk tr sk sr = record {
    counts = λ n put le cond. waits_alike id k r.k n t put sk sr ∙ w.counts n put (omega (arith, tr)) (λ e. cond e ∙ ok ∙ sym orr);
    above = subst (λ (n : ℕ). IsAbove n r.queue) (tr ∙ sym tk) w.above;
    rise = subst (λ (n : ℕ). Rise 0 r.queue n) (orr ∙ sym ok) w.rise;
  }

  -- the stream gets a connection that is kept, before any of its DATA
  pub waits_used : (k : ℕ) (octets : List ℕ) (out' : ℕ → ℕ) → data_octets (is_on id) (came t) ≡ 0 → fresh ≡ 0 → out r.k ≡ 0 → Waits (Did (ToUp k octets) ∷ t) id (given k r) took out' settled fresh
  waits_used k octets out' bare none orr = record {
    counts = λ n put le cond.
        let few = most_waits (exchange id k) n t put in
        let queued : waiting_of n r.queue ≡ 0 = ap (λ ms. waiting_of n ms) empty in
        let zero = none_if (nat_lt n put) fresh none in
        omega (arith, few, bare, queued, zero);
    above = subst (λ ms. IsAbove (took k) ms) (sym empty) tt;
    rise = subst (λ ms. Rise 0 ms (out' k)) (sym empty) (omega arith);
  }
    where
      empty : r.queue ≡ []
      empty = none_above (took r.k) (out r.k) r.queue (omega (arith, orr)) w.rise w.above

-- a new stream
pub waits_new : (t : List Entry) (noted : Noted) (id : ℕ) (took out : ℕ → ℕ) (more : ℕ) → length (sent_up 0 t) ≡ 0 → data_length (is_on id) noted.frame ≡ more → Waits (Came noted ∷ t) id blank took out false more
waits_new t noted id took out more none is = record {
  counts = λ n put le cond.
      let old : waiting (exchange id 0) n t (length (sent_up 0 t)) ≡ 0 = ap (λ p. waiting (exchange id 0) n t p) none ∙ none_waits id 0 n t none in
      let new : (if nat_lt n put then data_length (is_on id) noted.frame else 0) ≡ (if nat_lt n put then more else 0) = ap (λ x. if nat_lt n put then x else 0) is in
      omega (arith, old, new);
  above = tt;
  rise = omega arith;
}
