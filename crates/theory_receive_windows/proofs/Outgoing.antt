-- The invariant behind the end of a frame's effect, and behind what is sent and done.
use Rattle.std.proofs.Common.{◌≡◌, ℕ, ◌+◌, Bool, true, false, not, ◌&&◌, ◌==◌, List, ◌∷◌, refl, sym, ap, subst, ◌∙◌, arith, if◌then◌else◌, inl, inr}
use Rattle.std.specs.Prelude.{nat_lt}
use Rattle.std.proofs.lemmas.Bool.{and_parts, and_right, eq-eqb, eqb-true, ne_eqb}
use Rattle.std.proofs.lemmas.Bool.Decides.{eqb_tells}
use Rattle.model.specs.Frames.{window_update_kind}
use Rattle.model.specs.Setup.{Passing}
use Rattle.model.specs.Setup.Passing.{Whole, Streaming}
use Rattle.model.specs.Tapes.{Noted, Entry}
use Rattle.model.specs.Tapes.Entry.{Sent}
use Rattle.model.specs.Openings.{connection_of, exchanges}
use Rattle.model.specs.Lifetimes.{active, is_active}
use Rattle.model.specs.WindowsOnTape.{increment}
use Rattle.model.proofs.ActiveLaws.{active_beside}
use Rattle.theory_receive_windows.specs.Marks.{total, push}
use Rattle.theory_receive_windows.specs.State.{fresh_of, Row, State, held, unless_over, owing, waits, paid, is_live, must_wait, settle_by, with_settled, with_given, with_sent}
use Rattle.theory_receive_windows.specs.Policy.{MayGive, MaySend, IsOwed}
use Rattle.theory_receive_windows.proofs.Queues.{pushed_total}
use Rattle.theory_receive_windows.proofs.Sums.{one_changes, same_sum}
use Rattle.theory_receive_windows.proofs.Tapes.{goes_from_active, active_given, zero_idle, same_active}
use Rattle.theory_receive_windows.proofs.Counting.{Counting}
use Rattle.theory_receive_windows.proofs.Keeping.{IsQueue, BalancesOn, Waits, Stands, StandsIn, Keeping, settled_back, settled_waits, waits_sent}
use Rattle.theory_receive_windows.proofs.Incoming.{live_apart, live_among, drops}

-- ---- the effect of a frame is over

module _ (more : ℕ) (passing : Passing) (t : List Entry) (s : State) (c : Counting t s) (h : Keeping more passing t s) where
  -- its octets go back
  queue_back : (p : Passing) (id debt : ℕ) → is_active id t ≡ true → must_wait p s ≡ false → IsQueue p t id (s.row id) s.took s.out s.settled (fresh_of s id) → IsQueue p t id (record { k = (s.row id).k; queue = (s.row id).queue; debt = debt }) s.took s.out true 0
  queue_back Whole id debt on no_wait q = q
  queue_back Streaming id debt on no_wait q = settled_back t id (s.row id) s.took s.out s.settled (fresh_of s id) q debt (elim (eqb_tells s.stream id) [
    | inl is ↦ (
        let live : is_live s s.stream ≡ true = live_among more passing t s s.stream h ∙ ap (λ n. is_active n t) is.1 ∙ on in
        let none : nat_lt (s.took (s.row s.stream).k) (s.out (s.row s.stream).k) ≡ false = ap (λ b. b && nat_lt (s.took (s.row s.stream).k) (s.out (s.row s.stream).k)) (sym live) ∙ no_wait in
        inl (ap (λ n. nat_lt (s.took (s.row n).k) (s.out (s.row n).k)) (sym is.1) ∙ none)
        )
    | inr off ↦ inr (ap (λ b. if b then s.count else 0) off.0)
  ])

  -- each stream, where its octets go back
  stands_back : must_wait passing s ≡ false → (id : ℕ) → is_active id t ≡ true → StandsIn passing t (settle_by false s) id
  stands_back no_wait id on =
      let old = h.streams id on in
      by (s.stream == id) refl old.own old.connection (λ debt. queue_back passing id debt on no_wait old.queue)
    where
      by : (b : Bool) → (s.stream == id) ≡ b → BalancesOn t id (s.row id) (if b then s.count else 0) → (s.row id).k ≡ connection_of id (exchanges t)
          → ((debt : ℕ) → IsQueue passing t id (record { k = (s.row id).k; queue = (s.row id).queue; debt = debt }) s.took s.out true 0)
          → Stands passing t id (if b then owing s.count (s.row id) else s.row id) s.took s.out true (if s.stream == id then 0 else 0)
      by true e own k q = subst (λ (n : ℕ). Stands passing t id (owing s.count (s.row id)) s.took s.out true n) (sym (ap (λ b. if b then 0 else 0) e)) (record { own = omega (arith, own); connection = k; queue = q ((s.row id).debt + s.count) })
      by false e own k q = subst (λ (n : ℕ). Stands passing t id (s.row id) s.took s.out true n) (sym (ap (λ b. if b then 0 else 0) e)) (record { own = own; connection = k; queue = q (s.row id).debt })

  -- a debt changes nothing that waits
  held_owing : (b : Bool) (r : Row) → total (if b then owing s.count r else r).queue ≡ total r.queue
  held_owing true r = refl
  held_owing false r = refl

  -- they go back: the invariant stays
  keeping_back : must_wait passing s ≡ false → Keeping more passing t (settle_by false s)
  keeping_back no_wait = record {
    live = h.live;
    unopened = h.unopened;
    shared =
        let before = h.shared in
        let same = same_sum (held (settle_by false s)) (held s) s.live (λ id among. held_owing (s.stream == id) (s.row id)) in
        omega (arith, before, same);
    streams = stands_back no_wait;
  }

-- they wait
module _ (more : ℕ) (t : List Entry) (s : State) (c : Counting t s) (h : Keeping more Streaming t s) (wait : must_wait Streaming s ≡ true) where
  -- the stream is active, and octets for its upstream are not taken
  wait_parts : (is_live s s.stream ≡ true) × (nat_lt (s.took (s.row s.stream).k) (s.out (s.row s.stream).k) ≡ true)
  wait_parts = and_parts (is_live s s.stream) (nat_lt (s.took (s.row s.stream).k) (s.out (s.row s.stream).k)) wait

  -- each stream, where the octets wait
  stands_waits : (id : ℕ) → is_active id t ≡ true → StandsIn Streaming t (settle_by true s) id
  stands_waits id on =
      let old = h.streams id on in
      elim (eqb_tells s.stream id) [
        | inl is ↦ (
            let fresh : fresh_of s id ≡ s.count = ap (λ b. if b then s.count else 0) is.0 in
            let own : BalancesOn t id (s.row id) s.count = subst (λ (n : ℕ). BalancesOn t id (s.row id) n) fresh old.own in
            let pushed = pushed_total (s.out (s.row id).k) s.count (s.row id).queue in
            let q : Waits t id (s.row id) s.took s.out s.settled s.count = subst (λ (n : ℕ). Waits t id (s.row id) s.took s.out s.settled n) fresh old.queue in
            let lt : nat_lt (s.took (s.row id).k) (s.out (s.row id).k) ≡ true = ap (λ n. nat_lt (s.took (s.row n).k) (s.out (s.row n).k)) (sym is.1) ∙ wait_parts.1 in
            let new : Stands Streaming t id (waits (s.out (s.row id).k) s.count (s.row id)) s.took s.out true 0 = record { own = omega (arith, own, pushed); connection = old.connection; queue = settled_waits t id (s.row id) s.took s.out s.settled s.count q lt } in
            let marked : Stands Streaming t id (waits (s.out (s.row s.stream).k) s.count (s.row id)) s.took s.out true 0 = subst (λ (n : ℕ). Stands Streaming t id (waits (s.out (s.row n).k) s.count (s.row id)) s.took s.out true 0) (sym is.1) new in
            subst (λ (b : Bool). Stands Streaming t id (if b then waits (s.out (s.row s.stream).k) s.count (s.row id) else s.row id) s.took s.out true (if b then 0 else 0)) (sym is.0) marked
            )
        | inr off ↦ (
            let fresh : fresh_of s id ≡ 0 = ap (λ b. if b then s.count else 0) off.0 in
            let own : BalancesOn t id (s.row id) 0 = subst (λ (n : ℕ). BalancesOn t id (s.row id) n) fresh old.own in
            let q : Waits t id (s.row id) s.took s.out true 0 = settled_back t id (s.row id) s.took s.out s.settled (fresh_of s id) old.queue (s.row id).debt (inr fresh) in
            let same : Stands Streaming t id (s.row id) s.took s.out true 0 = record { own = own; connection = old.connection; queue = q } in
            subst (λ (b : Bool). Stands Streaming t id (if b then waits (s.out (s.row s.stream).k) s.count (s.row id) else s.row id) s.took s.out true (if b then 0 else 0)) (sym off.0) same
            )
      ]

  -- they wait: the invariant stays
  keeping_waits : Keeping more Streaming t (settle_by true s)
  keeping_waits = record {
    live = h.live;
    unopened = h.unopened;
    shared =
        let before = h.shared in
        let one = one_changes (held (settle_by true s)) (held s) s.stream s.live (live_apart more Streaming t s h) (λ other off. ap (λ b. total (if b then waits (s.out (s.row s.stream).k) s.count (s.row other) else s.row other).queue) (turned other off)) wait_parts.0 in
        let own : held (settle_by true s) s.stream ≡ total (push (s.row s.stream).queue (s.out (s.row s.stream).k) s.count) = ap (λ b. total (if b then waits (s.out (s.row s.stream).k) s.count (s.row s.stream) else s.row s.stream).queue) (eq-eqb s.stream s.stream refl) in
        let pushed = pushed_total (s.out (s.row s.stream).k) s.count (s.row s.stream).queue in
        omega (arith, before, one, own, pushed);
    streams = stands_waits;
  }
    where
      turned : (other : ℕ) → (other == s.stream) ≡ false → (s.stream == other) ≡ false
      turned other off = ne_eqb s.stream other (λ same. absurd (let no : true ≡ false = sym (eq-eqb other s.stream (sym same)) ∙ off in cc))

-- Behind the end of a frame's effect the invariant stays.
pub keeping_settled : (more : ℕ) (passing : Passing) (t : List Entry) (s : State) → Counting t s → Keeping more passing t s → Keeping more passing t (with_settled passing s)
keeping_settled more Whole t s c h = keeping_back more Whole t s c h refl
keeping_settled more Streaming t s c h = by (must_wait Streaming s) refl
  where
    by : (b : Bool) → must_wait Streaming s ≡ b → Keeping more Streaming t (settle_by b s)
    by true e = keeping_waits more t s c h e
    by false e = keeping_back more Streaming t s c h e

-- ---- octets are given back

module _ (more : ℕ) (passing : Passing) (t : List Entry) (s : State) (noted : Noted) (h : Keeping more passing t s) where
  -- what waits behind a frame to the client
  queue_sent : (p : Passing) (id debt : ℕ) → IsQueue p t id (s.row id) s.took s.out s.settled (fresh_of s id) → IsQueue p (Sent noted ∷ t) id (record { k = (s.row id).k; queue = (s.row id).queue; debt = debt }) s.took s.out s.settled (fresh_of s id)
  queue_sent Whole id debt q = q
  queue_sent Streaming id debt q = waits_sent t id (s.row id) s.took s.out s.settled (fresh_of s id) q noted debt

  -- what it grants an id
  grants_other : (id : ℕ) → (noted.frame.id == id) ≡ false → (if noted.frame.kind == window_update_kind && noted.frame.id == id then increment noted.frame else 0) ≡ 0
  grants_other id off = ap (λ b. if noted.frame.kind == window_update_kind && b then increment noted.frame else 0) off ∙ ap (λ b. if b then increment noted.frame else 0) (and_right (noted.frame.kind == window_update_kind) false refl)

  -- on the id itself
  grants_own : (id : ℕ) → noted.frame.kind ≡ window_update_kind → (noted.frame.id == id) ≡ true → (if noted.frame.kind == window_update_kind && noted.frame.id == id then increment noted.frame else 0) ≡ increment noted.frame
  grants_own id kind own = ap (λ k. if k == window_update_kind && noted.frame.id == id then increment noted.frame else 0) kind ∙ ap (λ b. if b then increment noted.frame else 0) own

  -- a stream on which nothing is given back
  stands_sent : (id : ℕ) → is_active id t ≡ true → (if noted.frame.kind == window_update_kind && noted.frame.id == id then increment noted.frame else 0) ≡ 0 → Stands passing (Sent noted ∷ t) id (s.row id) s.took s.out s.settled (fresh_of s id)
  stands_sent id on none =
      let old = h.streams id on in
      let own = old.own in
      record { own = omega (arith, own, none); connection = old.connection; queue = queue_sent passing id (s.row id).debt old.queue }

  -- octets that are given back end no stream
  live_given : noted.frame.kind ≡ window_update_kind → s.live ≡ active (Sent noted ∷ t)
  live_given kind = h.live ∙ sym (same_active t (Sent noted) refl (λ id. active_given t noted kind id))

  -- on the connection
  pub keeping_shared : noted.frame.kind ≡ window_update_kind → (noted.frame.id == 0) ≡ true → increment noted.frame ≡ s.debt → Keeping more passing (Sent noted ∷ t) (with_given true s noted)
  keeping_shared kind zero owed = record {
    live = live_given kind;
    unopened = h.unopened;
    shared =
        let before = h.shared in
        let grant = grants_own 0 kind zero in
        omega (arith, before, grant, owed);
    streams = λ id on.
        let was : is_active id t ≡ true = sym (active_given t noted kind id) ∙ on in
        let apart : (noted.frame.id == id) ≡ false = ne_eqb noted.frame.id id (λ same. absurd (let no : false ≡ true = sym (zero_idle t) ∙ ap (λ n. is_active n t) (sym (eqb-true noted.frame.id 0 zero) ∙ same) ∙ was in cc)) in
        stands_sent id was (grants_other id apart);
  }

  -- each stream, where one is paid
  stands_paid : noted.frame.kind ≡ window_update_kind → increment noted.frame ≡ (s.row noted.frame.id).debt → (id : ℕ) → is_active id t ≡ true → StandsIn passing (Sent noted ∷ t) (with_given false s noted) id
  stands_paid kind owed id on = elim (eqb_tells noted.frame.id id) [
    | inl is ↦ (
        let old = h.streams id on in
        let own = old.own in
        let grant = grants_own id kind is.0 in
        let all : increment noted.frame ≡ (s.row id).debt = owed ∙ ap (λ n. (s.row n).debt) is.1 in
        let new : Stands passing (Sent noted ∷ t) id (paid (s.row id)) s.took s.out s.settled (fresh_of s id) = record { own = omega (arith, own, grant, all); connection = old.connection; queue = queue_sent passing id 0 old.queue } in
        subst (λ (b : Bool). Stands passing (Sent noted ∷ t) id (if b then paid (s.row id) else s.row id) s.took s.out s.settled (fresh_of s id)) (sym is.0) new
        )
    | inr off ↦ subst (λ (b : Bool). Stands passing (Sent noted ∷ t) id (if b then paid (s.row id) else s.row id) s.took s.out s.settled (fresh_of s id)) (sym off.0) (stands_sent id on (grants_other id off.0))
  ]

  -- what is paid changes nothing that waits
  held_paid : (b : Bool) (r : Row) → total (if b then paid r else r).queue ≡ total r.queue
  held_paid true r = refl
  held_paid false r = refl

  -- on a stream
  pub keeping_own : noted.frame.kind ≡ window_update_kind → (noted.frame.id == 0) ≡ false → increment noted.frame ≡ (s.row noted.frame.id).debt → Keeping more passing (Sent noted ∷ t) (with_given false s noted)
  keeping_own kind other owed = record {
    live = live_given kind;
    unopened = h.unopened;
    shared =
        let before = h.shared in
        let grant = grants_other 0 other in
        let same = same_sum (held (with_given false s noted)) (held s) s.live (λ id among. held_paid (noted.frame.id == id) (s.row id)) in
        omega (arith, before, grant, same);
    streams = λ id on. stands_paid kind owed id (sym (active_given t noted kind id) ∙ on);
  }

  -- Behind octets that are given back the invariant stays.
  pub keeping_given : MayGive t s noted.frame → Keeping more passing (Sent noted ∷ t) (with_given (noted.frame.id == 0) s noted)
  keeping_given may = by (noted.frame.id == 0) refl may.owed
    where
      by : (b : Bool) → (noted.frame.id == 0) ≡ b → IsOwed t s noted.frame b → Keeping more passing (Sent noted ∷ t) (with_given b s noted)
      by true e owed = keeping_shared may.kind e owed
      by false e owed = keeping_own may.kind e owed.2

  -- ---- any other frame

  -- it grants nothing
  grants_none : (id : ℕ) → (noted.frame.kind == window_update_kind) ≡ false → (if noted.frame.kind == window_update_kind && noted.frame.id == id then increment noted.frame else 0) ≡ 0
  grants_none id kind = ap (λ b. if b && noted.frame.id == id then increment noted.frame else 0) kind

  -- a stream that is active behind the frame was active
  sent_beside : (over : Bool) → is_active noted.frame.id (Sent noted ∷ t) ≡ (is_active noted.frame.id t && not over) → (id : ℕ) → is_active id (Sent noted ∷ t) ≡ true → is_active id t ≡ true
  sent_beside over own id on = elim (eqb_tells noted.frame.id id) [
    | inr off ↦ sym (active_beside t noted id off.1) ∙ on
    | inl is ↦ (
        let both : (is_active noted.frame.id t && not over) ≡ true = sym own ∙ ap (λ n. is_active n (Sent noted ∷ t)) is.1 ∙ on in
        sym (ap (λ n. is_active n t) is.1) ∙ (and_parts (is_active noted.frame.id t) (not over) both).0
        )
  ]

  -- Behind any other frame the invariant stays.
  pub keeping_sent : (over : Bool) → MaySend t noted over → Keeping more passing (Sent noted ∷ t) (with_sent s noted over)
  keeping_sent over may = record {
    live = ap (λ ids. unless_over over noted.frame.id ids) h.live ∙ sym (goes_from_active t (Sent noted) noted.frame.id over refl (λ other off. active_beside t noted other off) may.active);
    unopened = h.unopened;
    shared =
        let before = h.shared in
        let goes = drops more passing t s over noted.frame.id h may.was in
        let grant = grants_none 0 may.kind in
        omega (arith, before, goes, grant);
    streams = λ id on. stands_sent id (sent_beside over may.active id on) (grants_none id may.kind);
  }
