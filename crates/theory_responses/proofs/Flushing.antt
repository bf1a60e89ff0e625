-- The flush: where no stream has a turn, none is ready; and the clauses follow from the invariant.
use Rattle.std.proofs.Common.{◌≡◌, ℕ, Bool, true, false, not, List, [], ◌∷◌, map, refl, sym, ap, ◌∙◌, subst, inl, inr, arith, ℤ, pos, length}
use Rattle.std.specs.Prelude.{Option, Some, None, ◌<ℤ◌, int_lt, is_some, SomeIndex, slice_index}
use Rattle.std.proofs.lemmas.Int.{ints}
use Rattle.std.proofs.lemmas.Bool.{and_parts, and_from, not-true}
use Rattle.model.specs.Tapes.{Entry, sent}
use Rattle.model.specs.Openings.{Opened}
use Rattle.model.specs.Deliveries.{nothing}
use Rattle.model.specs.Available.{items_on}
use Rattle.model.specs.Known.{Known}
use Rattle.model.specs.Causes.{Cause}
use Rattle.model.specs.Courses.{course}
use Rattle.model.specs.Lifetimes.{is_active}
use Rattle.model.specs.WindowsOnTape.{stream_window, connection_window}
use Rattle.model.specs.Readiness.{HasWindows, CanGo, IsReady}
use Rattle.model.specs.ProgressClause.{NoneReady}
use Rattle.model.specs.Turns.{IsNextTurn}
use Rattle.model.specs.Offers.{IsGiven, IsOffered}
use Rattle.model.proofs.DeliveryReadings.{one_delivery}
use Rattle.model.proofs.OfferLaws.{one_offer}
use Rattle.theory_responses.specs.Outbox.{offered_by, can_go}
use Rattle.theory_responses.specs.State.{Kept, State, Move, start, find, are_open, is_ready, is_ready_if, can_turn, ready, entry_of, after, state_of}
use Rattle.theory_responses.specs.State.Move.{Takes, Breaks, Notes, Hears, Fails, Idles, Goes, Sends, Acts}
use Rattle.theory_responses.specs.Policy.{Neighbours, windows_on, Holds, AreAllowed, IsFlushed, KeepClauses}
use Rattle.model.proofs.HeadLaws.{nothing_reads}
use Rattle.theory_responses.proofs.Listing.{filter_in, filter_out, found_among}
use Rattle.theory_responses.proofs.Going.{goes_by_outbox, outbox_goes}
use Rattle.theory_responses.proofs.Offering.{IsHeld, IsKeptIf, Offering, breaks_keep, notes_keep, sends_keep}
use Rattle.theory_responses.proofs.Moving.{hears_keep, fails_keep, goes_keep, acts_keep}
use Rattle.theory_responses.proofs.Idling.{idles_keep}
use Rattle.theory_responses.proofs.Taking.{takes_keep}

-- ---- each move

pub moves_keep : (known : Known) (t : List Entry) (s : State) (m : Move) → Neighbours known t → Offering known t s → Holds known t s m → Offering known (entry_of m ∷ t) (after s m)
moves_keep known t s (Takes noted change) n h may = takes_keep known t s noted change n h may
moves_keep known t s (Breaks breach) n h may = breaks_keep known t s breach h
moves_keep known t s (Notes event) n h may = notes_keep known t s event n h may
moves_keep known t s (Hears event stream news) n h may = hears_keep known t s event stream news n h may
moves_keep known t s (Fails event stream) n h may = fails_keep known t s event stream h may
moves_keep known t s (Idles event) n h may = idles_keep known t s event n h may
moves_keep known t s (Goes noted item part over) n h may = goes_keep known t s noted item part over h may.0 may.1
moves_keep known t s (Sends noted) n h may = sends_keep known t s noted h may
moves_keep known t s (Acts act) n h may = acts_keep known t s act h may

-- ---- who is ready

above : (z : ℤ) → int_lt (pos 0) z ≡ true → pos 0 <ℤ z
above z e = omega (arith, ints, e)

is_above : (z : ℤ) → pos 0 <ℤ z → int_lt (pos 0) z ≡ true
is_above z lt = by (int_lt (pos 0) z) refl
  where
    by : (b : Bool) → int_lt (pos 0) z ≡ b → b ≡ true
    by true e = refl
    by false e = absurd (omega (arith, ints, e, lt))

module _ (known : Known) (t : List Entry) (s : State) (h : Offering known t s) (stream : ℕ) (k : Kept) (kept : IsHeld known t stream k) where
  abbrev own : ℤ
  own = stream_window k.id t

  abbrev shared : ℤ
  shared = connection_window t

  -- whether both windows are open
  abbrev open_now : Bool
  open_now = are_open (windows_on t) k.id

  windows_there : HasWindows t stream → open_now ≡ true
  windows_there w = and_from (int_lt (pos 0) own) (int_lt (pos 0) shared) (is_above own (subst (λ n. pos 0 <ℤ stream_window n t) (sym kept.named) w.own)) (is_above shared w.shared)

  windows_back : open_now ≡ true → HasWindows t stream
  windows_back e =
      let parts = and_parts (int_lt (pos 0) own) (int_lt (pos 0) shared) e in
      record { own = subst (λ n. pos 0 <ℤ stream_window n t) kept.named (above own parts.0); shared = above shared parts.1 }

  -- a stream that is ready by the clause is ready by its outbox
  pub ready_by_outbox : Neighbours known t → k.cut ≡ false → IsReady known t stream → is_ready (windows_on t) k ≡ true
  ready_by_outbox n not_cut r =
      let st = kept.stands not_cut in
      let same : r.read ≡ st.read = one_delivery (items_on stream (sent t)) r.read st.read r.reads st.reads in
      elim st.offer [
        | inl p ↦ (
            let offers : r.offered ≡ offered_by st.read k.box = one_offer known t stream n.apart r.offered (offered_by st.read k.box) r.is_offered p in
            let goes : CanGo t stream st.read (offered_by st.read k.box) = subst (λ d. CanGo t stream st.read d) offers (subst (λ d. CanGo t stream d r.offered) same r.can_go) in
            and_from (not k.cut) (can_go open_now k.box) (ap (λ b. not b) not_cut) (goes_by_outbox t stream open_now st.read k.box windows_there st.fits goes)
            )
        | inr none ↦ absurd (no_offer none.no_cause none.no_connection r.is_offered)
      ]
    where
      no_offer : (course known stream t).cause ≡ None → ((o : Opened) → IsGiven t stream o → ⊥) → IsOffered known t stream r.offered → ⊥
      no_offer none_caused none_given (inl p) = let clash : ◌≡◌ {A = Option Cause} None (Some p.cause) = sym none_caused ∙ p.has_cause in cc
      no_offer none_caused none_given (inr p) = none_given p.o p.given

  -- and the other way round
  pub outbox_by_ready : is_active stream t ≡ true → is_ready (windows_on t) k ≡ true → IsReady known t stream
  outbox_by_ready active e =
      let parts = and_parts (not k.cut) (can_go open_now k.box) e in
      let st = kept.stands (not-true k.cut parts.0) in
      elim st.offer [
        | inl p ↦ record { is_active = active; read = st.read; offered = offered_by st.read k.box; reads = st.reads; is_offered = p; can_go = outbox_goes t stream open_now st.read k.box windows_back st.fits parts.1 }
        | inr none ↦ absurd (let clash : false ≡ true = sym (ap (can_go open_now) none.is_silent) ∙ parts.1 in cc)
      ]

-- ---- none is ready

-- each active stream's record
kept_at : (known : Known) (t : List Entry) (stream : ℕ) (o : Option Kept) → IsKeptIf known t stream o → (k : Kept) × (o ≡ Some k) × IsHeld known t stream k
kept_at known t stream None h = absurd h
kept_at known t stream (Some k) h = (k, refl, h)

-- a stream is ready by the clause just where it stands in the list
pub listed : (known : Known) (t : List Entry) (s : State) → Neighbours known t → Offering known t s → ((stream : ℕ) (kept : Kept) → find stream s.kept ≡ Some kept → kept.cut ≡ false)
    → (stream : ℕ) → IsReady known t stream → SomeIndex (ready (windows_on t) s) (λ k. slice_index (ready (windows_on t) s) k ≡ stream)
listed known t s n h none_cut stream r =
    let at = kept_at known t stream (find stream s.kept) (h.kept stream r.is_active) in
    let yes : is_ready (windows_on t) at.0 ≡ true = ready_by_outbox known t s h stream at.0 at.2 n (none_cut stream at.0 at.1) r in
    filter_in (can_turn (windows_on t) s) (map (λ (k : Kept). k.id) s.kept) stream (found_among stream s.kept at.0 at.1) (ap (is_ready_if (windows_on t)) at.1 ∙ yes)

pub listed_ready : (known : Known) (t : List Entry) (s : State) → Offering known t s → (stream : ℕ) → SomeIndex (ready (windows_on t) s) (λ k. slice_index (ready (windows_on t) s) k ≡ stream) → IsReady known t stream
listed_ready known t s h stream i = by (find stream s.kept) refl (filter_out (can_turn (windows_on t) s) (map (λ (k : Kept). k.id) s.kept) stream i)
  where
    by : (o : Option Kept) → find stream s.kept ≡ o → is_ready_if (windows_on t) o ≡ true → IsReady known t stream
    by None e r = let clash : false ≡ true = r in cc
    by (Some k) e r =
        let active : is_active stream t ≡ true = sym (h.lives stream) ∙ ap (λ o. is_some o) e in
        outbox_by_ready known t s h stream k (subst (IsKeptIf known t stream) e (h.kept stream active)) active r

-- so the stream whose turn it is is ready
pub turn_ready : (known : Known) (t : List Entry) (s : State) → Offering known t s → (stream : ℕ) → IsNextTurn s.last (ready (windows_on t) s) (Some stream) → IsReady known t stream
turn_ready known t s h stream (inl turn) = listed_ready known t s h stream turn.is_ready
turn_ready known t s h stream (inr turn) = listed_ready known t s h stream turn.is_ready

-- and where no stream is listed none is ready
pub flushed : (known : Known) (t : List Entry) (s : State) → Neighbours known t → Offering known t s → IsFlushed (windows_on t) s → NoneReady known t
flushed known t s n h done low stream r =
    let i = listed known t s n h (done.none_cut low) stream r in
    let none : length (ready (windows_on t) s) ≡ 0 = ap length (done.none_ready low) in
    let within = i.1 in
    omega (arith, within, none)

-- ---- a run of moves

pub start_holds : (known : Known) → Offering known [] start
start_holds known = record {
  lives = λ stream. refl;
  kept = λ stream a. let clash : false ≡ true = a in cc;
  keeps = tt;
  delivered = λ stream. record { delivery = nothing; reads = nothing_reads; offered = inl refl };
}

pub run_holds : (known : Known) (ms : List Move) → AreAllowed known ms → Offering known (map entry_of ms) (state_of ms)
run_holds known [] a = start_holds known
run_holds known (m ∷ ms) a = moves_keep known (map entry_of ms) (state_of ms) m a.1 (run_holds known ms a.0) a.2

-- The three clauses, however responses are passed on.
pub clauses_hold : (known : Known) (ms : List Move) → AreAllowed known ms → Neighbours known (map entry_of ms) → IsFlushed (windows_on (map entry_of ms)) (state_of ms) → KeepClauses known (map entry_of ms)
clauses_hold known ms a n done =
    let h = run_holds known ms a in
    record { delivered = h.delivered; keeps = h.keeps; none_ready = flushed known (map entry_of ms) (state_of ms) n h done }
