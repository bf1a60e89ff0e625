-- Each move that is allowed keeps the invariant of the outboxes: those that change a stream's outbox.
use Rattle.std.proofs.Common.{◌≡◌, ℕ, Bool, true, not, ◌&&◌, List, [], ◌∷◌, refl, sym, ap, ◌∙◌, subst, inl, inr, if◌then◌else◌, false, arith}
use Rattle.std.specs.Prelude.{Some, None, is_some, nat_lt}
use Rattle.std.proofs.lemmas.Bool.{eq-eqb, not-true, lt-ltb}
use Rattle.std.proofs.lemmas.Bool.Decides.{eqb_tells}
use Rattle.model.specs.Messages.{Item}
use Rattle.model.specs.Logs.{Event, Act}
use Rattle.model.specs.Logs.Act.{Open, ToUp, Close, CloseClient}
use Rattle.model.specs.Tapes.{Noted, Entry}
use Rattle.model.specs.Tapes.Entry.{Happened, Sent, Did}
use Rattle.model.specs.Openings.{Opened, exchanges, exchange_on, given, last_stream, route_of, begins_another}
use Rattle.model.specs.Available.{heard_by, ended_by, IsIn}
use Rattle.model.specs.Known.{Known, fails_behind}
use Rattle.model.specs.Causes.{cause_if}
use Rattle.model.specs.Causes.Cause.{BadAnswer}
use Rattle.model.specs.Lifetimes.{is_active}
use Rattle.model.specs.Courses.{about, upstream_of, cause_of}
use Rattle.model.specs.Offers.{is_to_head, IsDelivered}
use Rattle.model.specs.Deliveries.{Delivery}
use Rattle.model.proofs.DeliveryReadings.{given_none}
use Rattle.model.proofs.ExchangeLaws.{another_on, unheard}
use Rattle.theory_responses.specs.Outbox.{Part, IsNext}
use Rattle.theory_responses.specs.State.{Kept, State, find, change, told, gone, answered, after}
use Rattle.theory_responses.specs.State.Move.{Hears, Fails, Goes, Acts}
use Rattle.theory_responses.specs.Policy.{Neighbours, windows_on, MayGo, Brings, IsOf, MayHear, MayGiveUp, MayBegin, MayDo}
use Rattle.theory_responses.proofs.Standing.{SameOffer, stands_sent, delivered_sent, stands_told, stands_given, delivered_same}
use Rattle.theory_responses.proofs.Entries.{cause_stays, out_stays, items_stay, none_by_did, sent_quiet, act_quiet, begins_quiet, shown_beside, event_quiet, none_unless_fails, none_elsewhere}
use Rattle.theory_responses.proofs.Keeping.{KeepsId, answered_id, find_changed, find_other, some_mapped}
use Rattle.model.proofs.ActiveLaws.{active_sent, active_beside, brought, brought_other}
use Rattle.theory_responses.proofs.Offering.{IsHeld, IsKeptIf, Offering, kept_unless, lives_unless, kept_same, kept_still, kept_by, held_answered, caused_now, out_now, heads_now, offering_quiet}

-- the same streams are kept
some_changed : (stream : ℕ) (f : Kept → Kept) (ks : List Kept) → KeepsId f → (other : ℕ) → is_some (find other (change stream f ks)) ≡ is_some (find other ks)
some_changed stream f ks keeps other = elim (eqb_tells stream other) [
  | inl x ↦ subst (λ n. is_some (find n (change stream f ks)) ≡ is_some (find n ks)) x.1 (ap (λ o. is_some o) (find_changed stream f ks keeps) ∙ some_mapped f (find stream ks))
  | inr x ↦ ap (λ o. is_some o) (find_other stream other f ks keeps x.1)
]

-- ---- events of a stream's connection

-- one stream's record changes, and the others' stay
module _ (known : Known) (t : List Entry) (e : Entry) (stream : ℕ) (f : Kept → Kept) (ks : List Kept) (keeps : KeepsId f) where
  pub kept_changed : (here : (k : Kept) → find stream ks ≡ Some k → IsHeld known t stream k → IsHeld known (e ∷ t) stream (f k)) → (there : (other : ℕ) → (stream ≡ other → ⊥) → is_active other (e ∷ t) ≡ true → IsKeptIf known t other (find other ks) → IsKeptIf known (e ∷ t) other (find other ks))
      → (other : ℕ) → is_active other (e ∷ t) ≡ true → IsKeptIf known t other (find other ks) → IsKeptIf known (e ∷ t) other (find other (change stream f ks))
  kept_changed here there other a h = elim (eqb_tells stream other) [
    | inl x ↦ subst (λ n. IsKeptIf known (e ∷ t) n (find n (change stream f ks))) x.1
        (subst (IsKeptIf known (e ∷ t) stream) (sym (find_changed stream f ks keeps)) (kept_by known t (e ∷ t) stream f (find stream ks) here (subst (λ n. IsKeptIf known t n (find n ks)) (sym x.1) h)))
    | inr x ↦ subst (IsKeptIf known (e ∷ t) other) (sym (find_other stream other f ks keeps x.1)) (there other x.1 a h)
  ]

module _ (known : Known) (t : List Entry) (event : Event) (stream : ℕ) (of : IsOf known t event stream) where
  -- the event is of no other stream's exchange
  others_quiet : (other : ℕ) → (stream ≡ other → ⊥) → SameOffer known t (Happened event ∷ t) other
  others_quiet other apart =
      event_quiet known t event other (none_elsewhere known other t event (λ e. apart (sym of.given.is_given ∙ e)))
      (λ o g. shown_beside known t event o other (λ k s. apart (sym of.given.is_given ∙ sym s ∙ g.is_given)))

  -- the outbox of the event's stream changes
  pub event_keeps : (s s' : State) (f : Kept → Kept) → KeepsId f → Offering known t s → s'.kept ≡ change stream f s.kept
      → ((k : Kept) → IsHeld known t stream k → IsHeld known (Happened event ∷ t) stream (f k)) → Offering known (Happened event ∷ t) s'
  event_keeps s s' f keeps h ek here = record {
    lives = λ other. ap (λ ks. is_some (find other ks)) ek ∙ some_changed stream f s.kept keeps other ∙ h.lives other;
    kept = λ other a. subst (λ ks. IsKeptIf known (Happened event ∷ t) other (find other ks)) (sym ek)
        (kept_changed known t (Happened event) stream f s.kept keeps (λ k is. here k) (λ other apart a. kept_same known t (Happened event) other (find other s.kept) (others_quiet other apart) refl) other a (h.kept other a));
    keeps = h.keeps;
    delivered = λ other. delivered_same known (Happened event) t other refl (h.delivered other);
  }

-- the upstream tells more
pub hears_keep : (known : Known) (t : List Entry) (s : State) (event : Event) (stream : ℕ) (news : Delivery) → Neighbours known t → Offering known t s → MayHear known t event stream news → Offering known (Happened event ∷ t) (after s (Hears event stream news))
hears_keep known t s event stream news n h may =
    let none : cause_of known stream t (Happened event) ≡ None = none_unless_fails known stream t event may.sound in
    event_keeps known t event stream may.of s (after s (Hears event stream news)) (told news) (λ k. refl) h refl (λ k kept. record {
      named = kept.named;
      stands = λ c. stands_told known t (Happened event ∷ t) stream (exchange_on (upstream_of event) t) news k.box refl (cause_stays known stream t (Happened event) none) (out_stays known stream t (Happened event) none)
          (ap is_to_head (items_stay known stream t (Happened event) refl)) n.apart may.of.given (record { is_opened = may.of.given.is_opened; is_given = may.of.given.is_given }) (inl may.of.no_cause) may.tells (kept.stands c);
      uncut = λ free. kept.uncut may.of.no_cause;
    })

-- a failure is the cause for the stream of its connection
pub caused_by_failure : (known : Known) (t : List Entry) (event : Event) {stream : ℕ} (of : IsOf known t event stream) → fails_behind known t ≡ true → cause_of known stream t (Happened event) ≡ Some BadAnswer
caused_by_failure known t event {stream} of fails =
    ap (λ b. if b && nat_lt 0 stream then cause_if (fails_behind known t) BadAnswer else None) (eq-eqb (about t (Happened event)) stream of.given.is_given)
    ∙ ap (λ b. if b then cause_if (fails_behind known t) BadAnswer else None) (lt-ltb 0 stream of.counted) ∙ ap (λ b. cause_if b BadAnswer) fails

-- its answer fails
pub fails_keep : (known : Known) (t : List Entry) (s : State) (event : Event) (stream : ℕ) → Offering known t s → MayGiveUp known t event stream → Offering known (Happened event ∷ t) (after s (Fails event stream))
fails_keep known t s event stream h may =
    let of = may.of in
    let new = caused_by_failure known t event of may.fails in
    let now = caused_now known stream t (Happened event) BadAnswer of.no_cause new in
    let out = out_now known stream t (Happened event) BadAnswer of.no_cause now in
    let heads = heads_now known stream t (Happened event) BadAnswer of.no_cause now in
    event_keeps known t event stream of s (after s (Fails event stream)) (answered BadAnswer) (answered_id BadAnswer) h refl
    (λ k kept. held_answered known t (Happened event ∷ t) stream BadAnswer k k.box refl now out heads kept.named kept.stands)

-- ---- a part goes

pub goes_keep : (known : Known) (t : List Entry) (s : State) (noted : Noted) (item : Item) (part : Part) (over : Bool) → Offering known t s → MayGo (windows_on t) s noted item part → Brings t noted item over → Offering known (Sent noted ∷ t) (after s (Goes noted item part over))
goes_keep known t s noted item part over h may brings = record {
  lives = lives_unless known (Sent noted ∷ t) stream (change stream (gone part) s.kept) over
      (ap (λ b. b && not over) (some_changed stream (gone part) s.kept (λ k. refl) stream ∙ ap (λ o. is_some o) may.found) ∙ sym brings.active)
      (λ other apart. some_changed stream (gone part) s.kept (λ k. refl) other ∙ h.lives other ∙ sym (active_beside t noted other apart));
  kept = kept_unless known (Sent noted ∷ t) stream (change stream (gone part) s.kept) over (λ a. not-true over (sym brings.active ∙ a)) (λ other a.
      kept_changed known t (Sent noted) stream (gone part) s.kept (λ k. refl) here
      (λ other apart a. kept_same known t (Sent noted) other (find other s.kept) (sent_quiet known t noted other) (brought_other t noted other apart))
      other a (h.kept other (active_sent t noted other a)));
  keeps = ((λ is_data some. record { own = may.own is_data some; shared = may.shared is_data some }), h.keeps);
  delivered = λ other. elim (eqb_tells stream other) [
    | inl x ↦ subst (IsDelivered known (Sent noted ∷ t)) x.1
        (delivered_sent known t (Sent noted ∷ t) stream (sent_quiet known t noted stream) item may.kept.box part (brought t noted (item ∷ []) brings.brings) may.next may.is (kept.stands may.not_cut))
    | inr x ↦ delivered_same known (Sent noted) t other (brought_other t noted other x.1) (h.delivered other)
  ];
}
  where
    stream : ℕ
    stream = noted.frame.id

    kept : IsHeld known t stream may.kept
    kept = subst (IsKeptIf known t stream) may.found (h.kept stream (sym (h.lives stream) ∙ ap (λ o. is_some o) may.found))

    here : (k : Kept) → find stream s.kept ≡ Some k → IsHeld known t stream k → IsHeld known (Sent noted ∷ t) stream (gone part k)
    here k is old =
        let both : Some may.kept ≡ Some k = sym may.found ∙ is in
        let same : may.kept ≡ k = cc in
        record {
          named = old.named;
          stands = λ c. stands_sent known t (Sent noted ∷ t) stream (sent_quiet known t noted stream) item k.box part (brought t noted (item ∷ []) brings.brings) (subst (λ (x : Kept). IsNext x.box part) same may.next) may.is (old.stands c);
          uncut = λ free. old.uncut ((sent_quiet known t noted stream).cause ∙ free);
        }

-- ---- an act

-- an exchange begins, for the stream of the last frame
module _ (known : Known) (t : List Entry) (s : State) (act : Act) (k route : ℕ) (now : exchanges (Did act ∷ t) ≡ record { k = k; route = route; stream = last_stream t } ∷ exchanges t) (h : Offering known t s) (may : MayBegin known t) where
  abbrev u : List Entry
  u = Did act ∷ t

  abbrev new : Opened
  new = record { k = k; route = route; stream = last_stream t }

  not_heard : (heard_by new t ≡ []) × (ended_by new t ≡ false)
  not_heard = unheard new t may.none_given (λ none. let some = may.counted in omega (arith, some, none))

  here : (r : Kept) → IsHeld known t (last_stream t) r → IsHeld known u (last_stream t) r
  here r old = record {
    named = old.named;
    stands = λ c. stands_given known t u (last_stream t) new r.box refl (sym (cause_stays known (last_stream t) t (Did act) (none_by_did known (last_stream t) t act)) ∙ may.no_cause)
        (record { is_opened = subst (IsIn new) (sym now) (inl refl); is_given = refl }) not_heard.0 not_heard.1
        (λ o g. given_none (exchanges t) (last_stream t) o may.none_given g.is_opened (sym g.is_given)) may.no_cause (old.stands c);
    uncut = λ free. old.uncut may.no_cause;
  }

  begins_keep : Offering known u (after s (Acts act))
  begins_keep = record {
    lives = h.lives;
    kept = λ stream a. elim (eqb_tells (last_stream t) stream) [
      | inl x ↦ subst (λ n. IsKeptIf known u n (find n s.kept)) x.1 (kept_still known t u (last_stream t) (find (last_stream t) s.kept) here (subst (λ n. IsKeptIf known t n (find n s.kept)) (sym x.1) (h.kept stream a)))
      | inr x ↦ kept_same known t (Did act) stream (find stream s.kept) (begins_quiet known t act stream new now x.1) refl (h.kept stream a)
    ];
    keeps = h.keeps;
    delivered = λ stream. delivered_same known (Did act) t stream refl (h.delivered stream);
  }

-- octets begin another exchange, or none
pub exchanges_sent : (k : ℕ) (octets : List ℕ) (t : List Entry) (another : Bool) → begins_another (given k (exchanges t)) (last_stream t) octets ≡ another → exchanges (Did (ToUp k octets) ∷ t) ≡ (if another then another_on k t ∷ exchanges t else exchanges t)
exchanges_sent k octets t another is = ap (λ b. if b then another_on k t ∷ exchanges t else exchanges t) is

pub acts_keep : (known : Known) (t : List Entry) (s : State) (act : Act) → Offering known t s → MayDo known t act → Offering known (Did act ∷ t) (after s (Acts act))
acts_keep known t s (Open k route) h may = begins_keep known t s (Open k route) k route refl h may
acts_keep known t s (ToUp k octets) h may = by (begins_another (given k (exchanges t)) (last_stream t) octets) refl
  where
    by : (another : Bool) → begins_another (given k (exchanges t)) (last_stream t) octets ≡ another → Offering known (Did (ToUp k octets) ∷ t) (after s (Acts (ToUp k octets)))
    by true is = begins_keep known t s (ToUp k octets) k (route_of k (exchanges t)) (exchanges_sent k octets t true is) h (may is)
    by false is = offering_quiet known t (Did (ToUp k octets)) s s h (λ stream. refl) (λ stream. act_quiet known t (ToUp k octets) stream (exchanges_sent k octets t false is)) (λ stream. refl) refl h.keeps
acts_keep known t s (Close k) h may = offering_quiet known t (Did (Close k)) s s h (λ stream. refl) (λ stream. act_quiet known t (Close k) stream refl) (λ stream. refl) refl h.keeps
acts_keep known t s CloseClient h may = offering_quiet known t (Did CloseClient) s s h (λ stream. refl) (λ stream. act_quiet known t CloseClient stream refl) (λ stream. refl) refl h.keeps
