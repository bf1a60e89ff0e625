-- The invariant behind an act: a connection that is opened or closed, octets that are put out.
use Rattle.std.proofs.Common.{◌≡◌, ℕ, ◌+◌, ◌≤◌, Bool, true, false, not, ◌==◌, List, ◌∷◌, length, refl, sym, ap, subst, ◌∙◌, arith, if◌then◌else◌, inl, inr}
use Rattle.std.proofs.lemmas.Bool.{and_parts, ne_eqb}
use Rattle.std.proofs.lemmas.Bool.Decides.{eqb_tells}
use Rattle.model.specs.Logs.Act.{Open, ToUp, Close, CloseClient}
use Rattle.model.specs.Setup.{Passing}
use Rattle.model.specs.Setup.Passing.{Whole, Streaming}
use Rattle.model.specs.Tapes.{Entry, came}
use Rattle.model.specs.Tapes.Entry.{Did}
use Rattle.model.specs.Openings.{connection_of, exchanges, last_stream}
use Rattle.model.specs.Lifetimes.{is_opened, is_over, is_active}
use Rattle.theory_receive_windows.specs.Marks.{total}
use Rattle.model.specs.WindowsOnTape.{is_on, data_octets}
use Rattle.theory_receive_windows.specs.State.{fresh_of, Row, State, held, is_live, add, given, with_use, with_act}
use Rattle.theory_receive_windows.specs.Policy.{gates_on, MayOpen, MayPut, MayUse, IsBare}
use Rattle.model.proofs.AloneLaws.{same_exchanges}
use Rattle.theory_receive_windows.proofs.Sums.{same_sum}
use Rattle.theory_receive_windows.proofs.Counting.{Counting}
use Rattle.theory_receive_windows.proofs.Incoming.{live_among}
use Rattle.theory_receive_windows.proofs.Keeping.{IsQueue, Stands, StandsIn, Keeping, waits_put, waits_used, waits_opened}
use Rattle.theory_responses.proofs.Moving.{exchanges_sent}

module _ (more : ℕ) (passing : Passing) (t : List Entry) (s : State) (c : Counting t s) (h : Keeping more passing t s) where
  -- octets are put out
  queue_put : (p : Passing) (k : ℕ) (octets : List ℕ) (id : ℕ) → (p ≡ Streaming → s.settled ≡ false) → IsQueue p t id (s.row id) s.took s.out s.settled (fresh_of s id) → IsQueue p (Did (ToUp k octets) ∷ t) id (s.row id) s.took (add k (length octets) s.out) s.settled (fresh_of s id)
  queue_put Whole k octets id in_effect q = q
  queue_put Streaming k octets id in_effect q = waits_put t id (s.row id) s.took s.out s.settled (fresh_of s id) q k octets (add k (length octets) s.out) (in_effect refl) (by ((s.row id).k == k))
    where
      by : (b : Bool) → s.out (s.row id).k ≤ (if b then s.out (s.row id).k + length octets else s.out (s.row id).k)
      by true = omega arith
      by false = omega arith

  -- octets are put out: the invariant stays
  pub keeping_put : (k : ℕ) (octets : List ℕ) → MayPut passing (gates_on t) s k → Keeping more passing (Did (ToUp k octets) ∷ t) (record s { out = add k (length octets) s.out })
  keeping_put k octets may = let same = same_exchanges t k octets may.its in record {
    live = h.live;
    unopened = λ id out. ap (connection_of id) same ∙ h.unopened id out;
    shared = h.shared;
    streams = λ id on. let old = h.streams id on in record { own = old.own; connection = old.connection ∙ sym (ap (connection_of id) same); queue = queue_put passing k octets id may.in_effect old.queue };
  }

  -- a connection is opened
  queue_opened : (p : Passing) (k route id : ℕ) → MayOpen s k → (s.row id).k ≡ 0 → IsQueue p t id (s.row id) s.took s.out s.settled (fresh_of s id) → IsQueue p (Did (Open k route) ∷ t) id (given k (s.row id)) s.took s.out s.settled (fresh_of s id)
  queue_opened Whole k route id may none q = q
  queue_opened Streaming k route id may none q =
      let out0 : s.out (s.row id).k ≡ 0 = ap s.out none ∙ c.none_out in
      let took0 : s.took (s.row id).k ≡ 0 = ap s.took none ∙ c.none_took in
      waits_opened t id (s.row id) s.took s.out s.settled (fresh_of s id) q k route may.unused out0 may.untaken took0 (sym (c.out k) ∙ may.unused) (sym (c.out (s.row id).k) ∙ out0)

  -- other streams stay as they were
  queue_beside : (p : Passing) (k route id : ℕ) → IsQueue p t id (s.row id) s.took s.out s.settled (fresh_of s id) → IsQueue p (Did (Open k route) ∷ t) id (s.row id) s.took s.out s.settled (fresh_of s id)
  queue_beside Whole k route id q = q
  queue_beside Streaming k route id q = record { counts = q.counts; above = q.above; rise = q.rise }

  -- each stream, where one gets a connection
  stands_opened : (k route id : ℕ) → MayOpen s k → is_active id t ≡ true → Stands passing (Did (Open k route) ∷ t) id (if s.stream == id then given k (s.row id) else s.row id) s.took s.out s.settled (fresh_of s id)
  stands_opened k route id may on =
      let old = h.streams id on in
      let there : (last_stream t == id) ≡ (s.stream == id) = ap (λ n. n == id) (sym c.last) in
      elim (eqb_tells s.stream id) [
        | inl is ↦ subst (λ (b : Bool). Stands passing (Did (Open k route) ∷ t) id (if b then given k (s.row id) else s.row id) s.took s.out s.settled (fresh_of s id)) (sym is.0) (record {
          own = old.own;
          connection = sym (ap (λ b. if b then k else connection_of id (exchanges t)) (there ∙ is.0));
          queue = queue_opened passing k route id may (ap (λ n. (s.row n).k) (sym is.1) ∙ may.first) old.queue;
        })
        | inr off ↦ subst (λ (b : Bool). Stands passing (Did (Open k route) ∷ t) id (if b then given k (s.row id) else s.row id) s.took s.out s.settled (fresh_of s id)) (sym off.0) (record {
          own = old.own;
          connection = old.connection ∙ sym (ap (λ b. if b then k else connection_of id (exchanges t)) (there ∙ off.0));
          queue = queue_beside passing k route id old.queue;
        })
      ]

  -- a connection changes nothing that waits
  held_given : (b : Bool) (k : ℕ) (r : Row) → total (if b then given k r else r).queue ≡ total r.queue
  held_given true k r = refl
  held_given false k r = refl

  -- the stream that gets it was opened
  unopened_yet : (k : ℕ) → is_live s s.stream ≡ true → (id : ℕ) → is_opened id t ≡ false → (if last_stream t == id then k else connection_of id (exchanges t)) ≡ 0
  unopened_yet k active id out =
      ap (λ b. if b then k else connection_of id (exchanges t)) (ne_eqb (last_stream t) id (λ same.
      let on : is_active id t ≡ true = ap (λ n. is_active n t) (sym (c.last ∙ same)) ∙ sym (live_among more passing t s s.stream h) ∙ active in
      let there : is_opened id t ≡ true = (and_parts (is_opened id t) (not (is_over id t)) on).0 in
      absurd (let no : true ≡ false = sym there ∙ out in cc)))
      ∙ h.unopened id out

  -- a connection is opened: the invariant stays
  pub keeping_opened : (k route : ℕ) → MayOpen s k → Keeping more passing (Did (Open k route) ∷ t) (with_act s (Open k route))
  keeping_opened k route may = record {
    live = h.live;
    unopened = unopened_yet k may.active;
    shared =
        let before = h.shared in
        let same = same_sum (held (with_act s (Open k route))) (held s) s.live (λ id among. held_given (s.stream == id) k (s.row id)) in
        omega (arith, before, same);
    streams = λ id on. stands_opened k route id may on;
  }

  -- an exchange begins on one that is kept
  module _ (k : ℕ) (octets : List ℕ) (may : MayUse passing (gates_on t) s k octets) (bare : IsBare passing t) where
    abbrev u : List Entry
    u = Did (ToUp k octets) ∷ t

    connection_now : (id : ℕ) → connection_of id (exchanges u) ≡ (if s.stream == id then k else connection_of id (exchanges t))
    connection_now id = ap (connection_of id) (exchanges_sent k octets t true may.begins) ∙ ap (λ n. if n == id then k else connection_of id (exchanges t)) (sym c.last)

    -- none of its DATA waits
    queue_used : (p : Passing) (id : ℕ) → (p ≡ Streaming → data_octets (is_on id) (came t) ≡ 0) → (s.row id).k ≡ 0 → StandsIn passing t s id → IsQueue p t id (s.row id) s.took s.out s.settled (fresh_of s id) → IsQueue p u id (given k (s.row id)) s.took (add k (length octets) s.out) s.settled (fresh_of s id)
    queue_used Whole id none first old q = q
    queue_used Streaming id none first old q =
        let own = old.own in
        let zero = none refl in
        let fresh : fresh_of s id ≡ 0 = omega (arith, own, zero) in
        waits_used t id (s.row id) s.took s.out s.settled (fresh_of s id) q k octets (add k (length octets) s.out) zero fresh (ap s.out first ∙ c.none_out)

    stands_used : (id : ℕ) → is_active id t ≡ true → Stands passing u id (if s.stream == id then given k (s.row id) else s.row id) s.took (add k (length octets) s.out) s.settled (fresh_of s id)
    stands_used id on =
        let old = h.streams id on in
        elim (eqb_tells s.stream id) [
          | inl is ↦ subst (λ (b : Bool). Stands passing u id (if b then given k (s.row id) else s.row id) s.took (add k (length octets) s.out) s.settled (fresh_of s id)) (sym is.0) (record {
            own = old.own;
            connection = sym (connection_now id ∙ ap (λ b. if b then k else connection_of id (exchanges t)) is.0);
            queue = queue_used passing id (λ streaming. ap (λ n. data_octets (is_on n) (came t)) (sym (sym c.last ∙ is.1)) ∙ bare streaming) (ap (λ n. (s.row n).k) (sym is.1) ∙ may.first) old old.queue;
          })
          | inr off ↦ subst (λ (b : Bool). Stands passing u id (if b then given k (s.row id) else s.row id) s.took (add k (length octets) s.out) s.settled (fresh_of s id)) (sym off.0) (record {
            own = old.own;
            connection = old.connection ∙ sym (connection_now id ∙ ap (λ b. if b then k else connection_of id (exchanges t)) off.0);
            queue = queue_put passing k octets id may.in_effect old.queue;
          })
        ]

    pub keeping_used : Keeping more passing u (with_use s k octets)
    keeping_used = record {
      live = h.live;
      unopened = λ id out. ap (connection_of id) (exchanges_sent k octets t true may.begins) ∙ unopened_yet k may.active id out;
      shared =
          let before = h.shared in
          let same = same_sum (held (with_use s k octets)) (held s) s.live (λ id among. held_given (s.stream == id) k (s.row id)) in
          omega (arith, before, same);
      streams = stands_used;
    }

  -- a closed connection leaves what waits
  queue_closed : (p : Passing) (k id : ℕ) → IsQueue p t id (s.row id) s.took s.out s.settled (fresh_of s id) → IsQueue p (Did (Close k) ∷ t) id (s.row id) s.took s.out s.settled (fresh_of s id)
  queue_closed Whole k id q = q
  queue_closed Streaming k id q = record { counts = q.counts; above = q.above; rise = q.rise }

  -- a connection is closed
  pub keeping_closed : (k : ℕ) → Keeping more passing (Did (Close k) ∷ t) (with_act s (Close k))
  keeping_closed k = record {
    live = h.live;
    unopened = h.unopened;
    shared = h.shared;
    streams = λ id on. let old = h.streams id on in record { own = old.own; connection = old.connection; queue = queue_closed passing k id old.queue };
  }

  -- the client's close leaves it too
  queue_shut : (p : Passing) (id : ℕ) → IsQueue p t id (s.row id) s.took s.out s.settled (fresh_of s id) → IsQueue p (Did CloseClient ∷ t) id (s.row id) s.took s.out s.settled (fresh_of s id)
  queue_shut Whole id q = q
  queue_shut Streaming id q = record { counts = q.counts; above = q.above; rise = q.rise }

  -- the client is closed
  pub keeping_shut : Keeping more passing (Did CloseClient ∷ t) (with_act s CloseClient)
  keeping_shut = record {
    live = h.live;
    unopened = h.unopened;
    shared = h.shared;
    streams = λ id on. let old = h.streams id on in record { own = old.own; connection = old.connection; queue = queue_shut passing id old.queue };
  }
