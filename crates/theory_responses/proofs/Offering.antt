-- The invariant of all streams and their outboxes, and that each move that is allowed keeps it.
use Rattle.std.proofs.Common.{◌≡◌, ℕ, Bool, true, false, not, ◌==◌, ◌&&◌, List, [], ◌∷◌, refl, sym, ap, ◌∙◌, subst, inl, inr, arith, if◌then◌else◌}
use Rattle.std.specs.Prelude.{Option, Some, None, is_some, option_map}
use Rattle.std.specs.List.{list_any}
use Rattle.std.proofs.lemmas.Bool.{eq-eqb, not-true, and_parts}
use Rattle.std.proofs.lemmas.Bool.Decides.{eqb_tells}
use Rattle.model.specs.Frames.{data_kind, rst_stream_kind}
use Rattle.model.specs.Logs.{Event}
use Rattle.model.specs.Tapes.{Noted, Breach, Entry, sent}
use Rattle.model.specs.Tapes.Entry.{Breached, Happened, Sent}
use Rattle.model.specs.Decoding.{completed}
use Rattle.model.specs.Available.{items_on}
use Rattle.model.specs.Known.{Known}
use Rattle.model.specs.Causes.{Cause}
use Rattle.model.specs.Lifetimes.{is_active}
use Rattle.model.specs.WindowClause.{KeepsWindows}
use Rattle.model.specs.Deliveries.{heads_in}
use Rattle.model.specs.Courses.{course, cause_of, upstream_of, is_final, first_of_both}
use Rattle.model.specs.Offers.{IsDelivered}
use Rattle.theory_responses.specs.Outbox.{Outbox}
use Rattle.theory_responses.specs.Outbox.Outbox.{Before, Behind, Over}
use Rattle.theory_responses.specs.State.{Kept, State, find, unless_over, answered_box, after}
use Rattle.theory_responses.specs.State.Move.{Breaks, Notes, Sends}
use Rattle.theory_responses.specs.Policy.{Neighbours, BringsNone}
use Rattle.theory_responses.proofs.Standing.{SameOffer, Stands, stands_same, stands_replied, delivered_same}
use Rattle.model.proofs.HeadLaws.{out_by_read}
use Rattle.theory_responses.proofs.Entries.{sent_quiet, breach_quiet, shown_beside, event_quiet, none_of_nobody}
use Rattle.theory_responses.proofs.Keeping.{find_without, find_beside, some_unless}
use Rattle.model.proofs.ActiveLaws.{active_sent, active_beside, active_control, brought_none, none_brought}

-- The record is the stream's, and unless a reset is owed its outbox is what is on offer behind what was read. A reset is owed only where the gateway
-- answers the stream itself.
pub record IsHeld (known : Known) (t : List Entry) (stream : ℕ) (k : Kept) : Type 0 where
  pub named : k.id ≡ stream
  pub stands : k.cut ≡ false → Stands known t stream k.box
  pub uncut : (course known stream t).cause ≡ None → k.cut ≡ false

-- The stream has such a record.
abbrev pub IsKeptIf : Known → List Entry → ℕ → Option Kept → Type 0
IsKeptIf known t stream None = ⊥
IsKeptIf known t stream (Some k) = IsHeld known t stream k

-- Just the active streams are kept; what was sent was within the windows, and on offer.
pub record Offering (known : Known) (t : List Entry) (s : State) : Type 0 where
  pub lives : (stream : ℕ) → is_some (find stream s.kept) ≡ is_active stream t
  pub kept : (stream : ℕ) → is_active stream t ≡ true → IsKeptIf known t stream (find stream s.kept)
  pub keeps : KeepsWindows t
  pub delivered : (stream : ℕ) → IsDelivered known t stream

-- ---- one stream

-- nothing of the stream's happens
pub kept_same : (known : Known) (t : List Entry) (e : Entry) (stream : ℕ) (o : Option Kept) → SameOffer known t (e ∷ t) stream → items_on stream (sent (e ∷ t)) ≡ items_on stream (sent t)
    → IsKeptIf known t stream o → IsKeptIf known (e ∷ t) stream o
kept_same known t e stream None q i h = absurd h
kept_same known t e stream (Some k) q i h = record { named = h.named; stands = λ c. stands_same known t (e ∷ t) stream q k.box i (h.stands c); uncut = λ none. h.uncut (q.cause ∙ none) }

-- the stream's record changes
pub kept_by : (known : Known) (t u : List Entry) (stream : ℕ) (f : Kept → Kept) (o : Option Kept) → ((k : Kept) → o ≡ Some k → IsHeld known t stream k → IsHeld known u stream (f k)) → IsKeptIf known t stream o → IsKeptIf known u stream (option_map f o)
kept_by known t u stream f None by h = absurd h
kept_by known t u stream f (Some k) by h = by k refl h

-- the stream's record stays
pub kept_still : (known : Known) (t u : List Entry) (stream : ℕ) (o : Option Kept) → ((k : Kept) → IsHeld known t stream k → IsHeld known u stream k) → IsKeptIf known t stream o → IsKeptIf known u stream o
kept_still known t u stream None by h = absurd h
kept_still known t u stream (Some k) by h = by k h

-- the gateway answers the stream itself
pub held_answered : (known : Known) (t u : List Entry) (stream : ℕ) (cause : Cause) (k : Kept) (box : Outbox) → items_on stream (sent u) ≡ items_on stream (sent t) → (course known stream u).cause ≡ Some cause → (course known stream u).head_out ≡ list_any is_final (items_on stream (sent t)) → (course known stream u).heads_out ≡ heads_in (items_on stream (sent t))
    → k.id ≡ stream → (k.cut ≡ false → Stands known t stream box) → IsHeld known u stream (answered_box cause k box)
held_answered known t u stream cause k (Before interims head body whole) same now out heads named stands = record {
  named = named;
  stands = λ c.
      let h = stands c in
      let none : list_any is_final (items_on stream (sent t)) ≡ false = out_by_read (items_on stream (sent t)) h.read h.reads ∙ ap (λ x. is_some x) h.fits in
      stands_replied known t u stream cause (Before interims head body whole) same now (out ∙ none) heads none h;
  uncut = λ none. let clash : ◌≡◌ {A = Option Cause} (Some cause) None = sym now ∙ none in cc;
}
held_answered known t u stream cause k (Behind body whole) same now out heads named stands =
    record { named = named; stands = λ c. let clash : true ≡ false = c in cc; uncut = λ none. let clash : ◌≡◌ {A = Option Cause} (Some cause) None = sym now ∙ none in cc }
held_answered known t u stream cause k Over same now out heads named stands =
    record { named = named; stands = λ c. let clash : true ≡ false = c in cc; uncut = λ none. let clash : ◌≡◌ {A = Option Cause} (Some cause) None = sym now ∙ none in cc }

-- the course with its first cause
pub caused_now : (known : Known) (stream : ℕ) (t : List Entry) (e : Entry) (cause : Cause) → (course known stream t).cause ≡ None → cause_of known stream t e ≡ Some cause → (course known stream (e ∷ t)).cause ≡ Some cause
caused_now known stream t e cause none now = ap (λ c. first_of_both c (cause_of known stream t e)) none ∙ now

pub out_now : (known : Known) (stream : ℕ) (t : List Entry) (e : Entry) (cause : Cause) → (course known stream t).cause ≡ None → (course known stream (e ∷ t)).cause ≡ Some cause → (course known stream (e ∷ t)).head_out ≡ list_any is_final (items_on stream (sent t))
out_now known stream t e cause none now =
    let new : cause_of known stream t e ≡ Some cause = sym (ap (λ c. first_of_both c (cause_of known stream t e)) none) ∙ now in
    ap (λ c. if is_some c then (course known stream t).head_out else is_some (cause_of known stream t e) && list_any is_final (items_on stream (sent t))) none
    ∙ ap (λ c. is_some c && list_any is_final (items_on stream (sent t))) new

pub heads_now : (known : Known) (stream : ℕ) (t : List Entry) (e : Entry) (cause : Cause) → (course known stream t).cause ≡ None → (course known stream (e ∷ t)).cause ≡ Some cause → (course known stream (e ∷ t)).heads_out ≡ heads_in (items_on stream (sent t))
heads_now known stream t e cause none now =
    let new : cause_of known stream t e ≡ Some cause = sym (ap (λ c. first_of_both c (cause_of known stream t e)) none) ∙ now in
    ap (λ c. if is_some c then (course known stream t).heads_out else (if is_some (cause_of known stream t e) then heads_in (items_on stream (sent t)) else [])) none
    ∙ ap (λ c. if is_some c then heads_in (items_on stream (sent t)) else []) new

-- ---- a stream that is over isn't kept

module _ (known : Known) (u : List Entry) (id : ℕ) (ks : List Kept) where
  pub kept_unless : (over : Bool) → (is_active id u ≡ true → over ≡ false) → ((stream : ℕ) → is_active stream u ≡ true → IsKeptIf known u stream (find stream ks)) → (stream : ℕ) → is_active stream u ≡ true → IsKeptIf known u stream (find stream (unless_over over id ks))
  kept_unless false goes h stream a = h stream a
  kept_unless true goes h stream a = elim (eqb_tells id stream) [
    | inl x ↦ absurd (let clash : true ≡ false = goes (subst (λ n. is_active n u ≡ true) (sym x.1) a) in cc)
    | inr x ↦ subst (IsKeptIf known u stream) (sym (find_without id stream ks x.1)) (h stream a)
  ]

  pub lives_unless : (over : Bool) → (is_some (find id ks) && not over) ≡ is_active id u → ((stream : ℕ) → (id ≡ stream → ⊥) → is_some (find stream ks) ≡ is_active stream u) → (stream : ℕ) → is_some (find stream (unless_over over id ks)) ≡ is_active stream u
  lives_unless over here there stream = elim (eqb_tells id stream) [
    | inl x ↦ subst (λ n. is_some (find n (unless_over over id ks)) ≡ is_active n u) x.1 (some_unless over id ks ∙ here)
    | inr x ↦ ap (λ o. is_some o) (find_beside over id stream ks x.1) ∙ there stream x.1
  ]

-- ---- entries that change no stream's offer

module _ (known : Known) (t : List Entry) (e : Entry) (s s' : State) (h : Offering known t s) where
  pub offering_quiet : ((stream : ℕ) → is_active stream (e ∷ t) ≡ is_active stream t) → ((stream : ℕ) → SameOffer known t (e ∷ t) stream) → ((stream : ℕ) → items_on stream (sent (e ∷ t)) ≡ items_on stream (sent t))
      → s'.kept ≡ s.kept → KeepsWindows (e ∷ t) → Offering known (e ∷ t) s'
  offering_quiet live quiet same_items ek keeps = record {
    lives = λ stream. ap (λ ks. is_some (find stream ks)) ek ∙ h.lives stream ∙ sym (live stream);
    kept = λ stream a. subst (λ ks. IsKeptIf known (e ∷ t) stream (find stream ks)) (sym ek) (kept_same known t e stream (find stream s.kept) (quiet stream) (same_items stream) (h.kept stream (sym (live stream) ∙ a)));
    keeps = keeps;
    delivered = λ stream. delivered_same known e t stream (same_items stream) (h.delivered stream);
  }

-- an event that is no answer
pub notes_keep : (known : Known) (t : List Entry) (s : State) (event : Event) → Neighbours known t → Offering known t s → upstream_of event ≡ 0 → Offering known (Happened event ∷ t) (after s (Notes event))
notes_keep known t s event n h may =
    offering_quiet known t (Happened event) s (after s (Notes event)) h
    (λ stream. refl)
    (λ stream. event_quiet known t event stream (none_of_nobody known stream t event n.counted may) (λ o g. shown_beside known t event o stream (λ k s. let above = n.counted o g.is_opened in let none : o.k ≡ 0 = k ∙ may in omega (arith, above, none))))
    (λ stream. refl) refl h.keeps

pub breaks_keep : (known : Known) (t : List Entry) (s : State) (breach : Breach) → Offering known t s → Offering known (Breached breach ∷ t) (after s (Breaks breach))
breaks_keep known t s breach h =
    offering_quiet known t (Breached breach) s (after s (Breaks breach)) h (λ stream. refl) (λ stream. breach_quiet known t breach stream) (λ stream. refl) refl h.keeps

pub sends_keep : (known : Known) (t : List Entry) (s : State) (noted : Noted) → Offering known t s → BringsNone t noted → Offering known (Sent noted ∷ t) (after s (Sends noted))
sends_keep known t s noted h may = record {
  lives = lives_unless known (Sent noted ∷ t) noted.frame.id s.kept resets (ap (λ b. b && not resets) (h.lives noted.frame.id) ∙ sym live) (λ stream other. h.lives stream ∙ sym (active_beside t noted stream other));
  kept = kept_unless known (Sent noted ∷ t) noted.frame.id s.kept resets (λ a. not-true resets (and_parts (is_active noted.frame.id t) (not resets) (sym live ∙ a)).1)
      (λ stream a. kept_same known t (Sent noted) stream (find stream s.kept) (sent_quiet known t noted stream) (none stream) (h.kept stream (active_sent t noted stream a)));
  keeps = ((λ is. absurd (let clash : false ≡ true = sym may.no_data ∙ eq-eqb noted.frame.kind data_kind is in cc)), h.keeps);
  delivered = λ stream. delivered_same known (Sent noted) t stream (none stream) (h.delivered stream);
}
  where
    resets : Bool
    resets = noted.frame.kind == rst_stream_kind

    live : is_active noted.frame.id (Sent noted ∷ t) ≡ (is_active noted.frame.id t && not resets)
    live = active_control t noted may.no_block may.no_data

    none : (stream : ℕ) → items_on stream (sent (Sent noted ∷ t)) ≡ items_on stream (sent t)
    none stream = brought_none t noted stream (none_brought noted (completed (sent t) noted.frame) may.no_block may.no_data)
