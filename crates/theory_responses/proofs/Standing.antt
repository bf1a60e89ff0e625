-- How a stream stands to its outbox, and the six ways in which one entry changes that.
use Rattle.std.proofs.Common.{◌≡◌, ℕ, true, false, List, [], ◌∷◌, ◌++◌, refl, sym, ap, ◌∙◌, subst, inl, inr}
use Rattle.std.specs.Prelude.{Option, Some, None, is_some, ◌⊎◌}
use Rattle.std.specs.List.{list_any}
use Rattle.std.proofs.lemmas.List.{append-nil}
use Rattle.model.specs.Messages.{Item}
use Rattle.model.specs.ResponseHeads.{Head}
use Rattle.model.specs.Tapes.{Entry, sent}
use Rattle.model.specs.Openings.{Opened, exchanges, AreApart}
use Rattle.model.specs.Deliveries.{Delivery, nothing, heads_in, ReadsAs, IsPartOf}
use Rattle.model.specs.Available.{heard_by, ended_by, items_on, IsShown}
use Rattle.model.specs.Known.{Known}
use Rattle.model.specs.Causes.{Cause, reply}
use Rattle.model.specs.Courses.{Course, course, items, is_final}
use Rattle.model.specs.Offers.{is_to_head, IsGiven, HasNoReply, IsReplied, IsPassedOn, IsOffered, IsDelivered}
use Rattle.theory_responses.specs.Outbox.{Outbox, silent, replied, offered_by, Fits, Part, IsNext, left, read_more, IsItemOf, with_news, grown}
use Rattle.theory_responses.specs.Shown.{Tells}
use Rattle.model.proofs.DeliveryReadings.{one_connection}
use Rattle.model.proofs.HeadLaws.{out_by_read, heads_by_read, nothing_reads, nothing_shown}
use Rattle.theory_responses.proofs.Parts.{no_next, same_delivery, offer_stays, fits_left, reads_more, is_part, news_join, fits_grown}

-- Nothing is on offer for the stream: no connection was given to it, and the gateway doesn't answer it.
pub record HasNoOffer (known : Known) (t : List Entry) (stream : ℕ) (read : Delivery) (box : Outbox) : Type 0 where
  pub nothing_read : read ≡ nothing
  pub is_silent : box ≡ silent
  pub no_cause : (course known stream t).cause ≡ None
  pub no_connection : (o : Opened) → IsGiven t stream o → ⊥

-- What was read with the outbox behind it is what is on offer, or nothing is.
pub record Stands (known : Known) (t : List Entry) (stream : ℕ) (box : Outbox) : Type 0 where
  pub read : Delivery
  pub reads : ReadsAs (items_on stream (sent t)) read
  pub fits : Fits read box
  pub offer : IsOffered known t stream (offered_by read box) ⊎ HasNoOffer known t stream read box

-- ---- two tapes with one offer

-- The tapes differ in nothing that an offer for the stream rests on, but for what was sent.
pub record SameOffer (known : Known) (t u : List Entry) (stream : ℕ) : Type 0 where
  pub cause : (course known stream t).cause ≡ (course known stream u).cause
  pub out : (course known stream t).head_out ≡ (course known stream u).head_out
  pub heads : (course known stream t).heads_out ≡ (course known stream u).heads_out
  pub there : (o : Opened) → IsGiven t stream o → IsGiven u stream o
  pub back : (o : Opened) → IsGiven u stream o → IsGiven t stream o
  pub head : (o : Opened) → IsGiven t stream o → is_to_head (items known stream t) ≡ is_to_head (items known stream u)
  pub still : (o : Opened) → IsGiven t stream o → (d : Delivery) → IsShown known.setup.passing (heard_by o t) (ended_by o t) (is_to_head (items known stream t)) d → IsShown known.setup.passing (heard_by o u) (ended_by o u) (is_to_head (items known stream t)) d

no_reply_same : (c d : Course) → c.cause ≡ d.cause → c.head_out ≡ d.head_out → HasNoReply c → HasNoReply d
no_reply_same c d e f (inl none) = inl (sym e ∙ none)
no_reply_same c d e f (inr out) = inr (sym f ∙ out)

module _ (known : Known) (t u : List Entry) (stream : ℕ) (s : SameOffer known t u stream) where
  passed_same : (d : Delivery) → IsPassedOn known t stream d → IsPassedOn known u stream d
  passed_same d p = record {
    no_reply = no_reply_same (course known stream t) (course known stream u) s.cause s.out p.no_reply;
    o = p.o;
    given = s.there p.o p.given;
    shows = subst (λ x. IsShown known.setup.passing (heard_by p.o u) (ended_by p.o u) x d) (s.head p.o p.given) (s.still p.o p.given d p.shows);
  }

  replied_same : (d : Delivery) → IsReplied known t stream d → IsReplied known u stream d
  replied_same d p = record {
    cause = p.cause;
    has_cause = sym s.cause ∙ p.has_cause;
    head_not_out = sym s.out ∙ p.head_not_out;
    says = p.says ∙ ap (λ x. reply x p.cause) s.heads;
  }

  pub offered_same : (d : Delivery) → IsOffered known t stream d → IsOffered known u stream d
  offered_same d (inl p) = inl (replied_same d p)
  offered_same d (inr p) = inr (passed_same d p)

  none_same : (read : Delivery) (box : Outbox) → HasNoOffer known t stream read box → HasNoOffer known u stream read box
  none_same read box h = record { nothing_read = h.nothing_read; is_silent = h.is_silent; no_cause = sym s.cause ∙ h.no_cause; no_connection = λ o g. h.no_connection o (s.back o g) }

  -- 1. Nothing of the stream's happens.
  pub stands_same : (box : Outbox) → items_on stream (sent u) ≡ items_on stream (sent t) → Stands known t stream box → Stands known u stream box
  stands_same box e h = record {
    read = h.read;
    reads = subst (λ x. ReadsAs x h.read) (sym e) h.reads;
    fits = h.fits;
    offer = elim h.offer [ inl p ↦ inl (offered_same (offered_by h.read box) p) | inr none ↦ inr (none_same h.read box none) ];
  }

  -- 2. The next part is sent.
  module _ (item : Item) (box : Outbox) (part : Part) (brings : items_on stream (sent u) ≡ items_on stream (sent t) ++ item ∷ []) (next : IsNext box part) (is : IsItemOf item part) (h : Stands known t stream box) where
    reads_now : ReadsAs (items_on stream (sent u)) (read_more h.read part)
    reads_now = subst (λ x. ReadsAs x (read_more h.read part)) (sym brings) (reads_more (items_on stream (sent t)) item h.read box part h.reads h.fits next is)

    same_offer : offered_by (read_more h.read part) (left box part) ≡ offered_by h.read box
    same_offer = offer_stays (items_on stream (sent t)) h.read box part h.reads h.fits next

    fits_now : Fits (read_more h.read part) (left box part)
    fits_now = fits_left (items_on stream (sent t)) h.read box part h.reads h.fits next

    pub stands_sent : Stands known u stream (left box part)
    stands_sent = record {
      read = read_more h.read part;
      reads = reads_now;
      fits = fits_now;
      offer = elim h.offer [
        | inl p ↦ inl (subst (IsOffered known u stream) (sym same_offer) (offered_same (offered_by h.read box) p))
        | inr none ↦ absurd (no_next box part next none.is_silent)
      ];
    }

    -- what is read then is on offer still
    pub delivered_sent : IsDelivered known u stream
    delivered_sent = record {
      delivery = read_more h.read part;
      reads = reads_now;
      offered = inr (elim h.offer [
        | inl p ↦ record { later = []; earlier = u; is = refl; no_more = refl; source = offered_by h.read box; offered = offered_same (offered_by h.read box) p; part = subst (IsPartOf (read_more h.read part)) same_offer (is_part (items_on stream (sent u)) (read_more h.read part) (left box part) reads_now fits_now) }
        | inr none ↦ absurd (no_next box part next none.is_silent)
      ]);
    }

-- ---- the offer grows, or is replaced

-- 3. The stream's upstream tells more of its response.
module _ (known : Known) (t u : List Entry) (stream : ℕ) (o : Opened) (news : Delivery) (box : Outbox)
    (same_items : items_on stream (sent u) ≡ items_on stream (sent t)) (cause : (course known stream t).cause ≡ (course known stream u).cause) (out : (course known stream t).head_out ≡ (course known stream u).head_out)
    (head : is_to_head (items known stream t) ≡ is_to_head (items known stream u)) (apart : AreApart (exchanges t)) (given : IsGiven t stream o) (given_now : IsGiven u stream o) (not_replied : HasNoReply (course known stream t))
    (tells : Tells known.setup.passing (heard_by o t) (ended_by o t) (heard_by o u) (ended_by o u) (is_to_head (items known stream t)) news) where
  passed_more : (d : Delivery) → IsPassedOn known t stream d → IsPassedOn known u stream (with_news d news) × (d.ends ≡ None) × (is_some d.head ≡ true → news.interims ≡ [])
  passed_more d p =
      let same : p.o ≡ o = one_connection (exchanges t) p.o o apart p.given.is_opened given.is_opened (p.given.is_given ∙ sym given.is_given) in
      let shown : IsShown known.setup.passing (heard_by o t) (ended_by o t) (is_to_head (items known stream t)) d =
      subst (λ (x : Opened). IsShown known.setup.passing (heard_by x t) (ended_by x t) (is_to_head (items known stream t)) d) same p.shows in (
        record {
          no_reply = no_reply_same (course known stream t) (course known stream u) cause out not_replied;
          o = o;
          given = given_now;
          shows = subst (λ x. IsShown known.setup.passing (heard_by o u) (ended_by o u) x (with_news d news)) head (tells.shows d shown);
        },
        tells.not_whole d shown,
        tells.none_late d shown,
      )

  replied_clash : (d : Delivery) → IsReplied known t stream d → ⊥
  replied_clash d p = elim not_replied [
    | inl none ↦ let clash : ◌≡◌ {A = Option Cause} None (Some p.cause) = sym none ∙ p.has_cause in cc
    | inr is_out ↦ let clash : true ≡ false = sym is_out ∙ p.head_not_out in cc
  ]

  pub stands_told : Stands known t stream box → Stands known u stream (grown box news)
  stands_told h = record {
    read = h.read;
    reads = subst (λ x. ReadsAs x h.read) (sym same_items) h.reads;
    fits = fits_grown h.read box news h.fits;
    offer = elim h.offer [
      | inl p ↦ elim p [
        | inl r ↦ absurd (replied_clash (offered_by h.read box) r)
        | inr q ↦ (let more = passed_more (offered_by h.read box) q in
            inl (inr (subst (IsPassedOn known u stream) (news_join h.read box news h.fits more.1 more.2) more.0)))
      ]
      | inr none ↦ absurd (none.no_connection o given)
    ];
  }

-- 4. The gateway answers the stream itself.
pub stands_replied : (known : Known) (t u : List Entry) (stream : ℕ) (cause : Cause) (box : Outbox) → items_on stream (sent u) ≡ items_on stream (sent t) → (course known stream u).cause ≡ Some cause → (course known stream u).head_out ≡ false → (course known stream u).heads_out ≡ heads_in (items_on stream (sent t))
    → list_any is_final (items_on stream (sent t)) ≡ false → Stands known t stream box → Stands known u stream (replied cause)
stands_replied known t u stream cause box same now out heads none h =
    let no_head : h.read.head ≡ None = none_out h.read.head (sym (out_by_read (items_on stream (sent t)) h.read h.reads) ∙ none) in
    let reads : ReadsAs (items_on stream (sent u)) h.read = subst (λ x. ReadsAs x h.read) (sym same) h.reads in
    record {
      read = h.read;
      reads = reads;
      fits = no_head;
      offer = inl (inl (record {
        cause = cause;
        has_cause = now;
        head_not_out = out;
        says = same_delivery (append-nil h.read.interims ∙ sym (heads_by_read (items_on stream (sent t)) h.read h.reads no_head) ∙ sym heads) refl refl refl;
      }));
    }
  where
    none_out : (head : Option Head) → is_some head ≡ false → head ≡ None
    none_out None e = refl
    none_out (Some x) e = let clash : true ≡ false = e in cc

-- 5. A connection is given to the stream, and nothing was heard of it.
pub stands_given : (known : Known) (t u : List Entry) (stream : ℕ) (o : Opened) (box : Outbox) → items_on stream (sent u) ≡ items_on stream (sent t) → (course known stream u).cause ≡ None → IsGiven u stream o → heard_by o u ≡ [] → ended_by o u ≡ false
    → ((p : Opened) → IsGiven t stream p → ⊥) → (course known stream t).cause ≡ None → Stands known t stream box → Stands known u stream box
stands_given known t u stream o box same no_cause given unheard not_ended none_before none_caused h = elim h.offer [
  | inl p ↦ absurd (elim p [
    | inl r ↦ let clash : ◌≡◌ {A = Option Cause} None (Some r.cause) = sym none_caused ∙ r.has_cause in cc
    | inr q ↦ none_before q.o q.given
  ])
  | inr none ↦ subst (Stands known u stream) (sym none.is_silent) (record {
    read = nothing;
    reads = subst (λ x. ReadsAs x nothing) (sym same) (subst (ReadsAs (items_on stream (sent t))) none.nothing_read h.reads);
    fits = refl;
    offer = inl (inr (record {
      no_reply = inl no_cause;
      o = o;
      given = given;
      shows = subst (λ x. IsShown known.setup.passing x (ended_by o u) (is_to_head (items known stream u)) nothing) (sym unheard)
          (subst (λ x. IsShown known.setup.passing [] x (is_to_head (items known stream u)) nothing) (sym not_ended) (nothing_shown known.setup.passing (is_to_head (items known stream u))));
    }));
  })
]

-- 6. The stream is new.
pub stands_new : (known : Known) (u : List Entry) (stream : ℕ) → items_on stream (sent u) ≡ [] → (course known stream u).cause ≡ None → ((o : Opened) → IsGiven u stream o → ⊥) → Stands known u stream silent
stands_new known u stream unsent no_cause no_connection = record {
  read = nothing;
  reads = subst (λ x. ReadsAs x nothing) (sym unsent) nothing_reads;
  fits = refl;
  offer = inr (record { nothing_read = refl; is_silent = refl; no_cause = no_cause; no_connection = no_connection });
}

-- The same, where the gateway answers it at once.
pub stands_new_replied : (known : Known) (u : List Entry) (stream : ℕ) (cause : Cause) → items_on stream (sent u) ≡ [] → (course known stream u).cause ≡ Some cause → (course known stream u).head_out ≡ false → (course known stream u).heads_out ≡ [] → Stands known u stream (replied cause)
stands_new_replied known u stream cause unsent now out heads =
    let reads : ReadsAs (items_on stream (sent u)) nothing = subst (λ x. ReadsAs x nothing) (sym unsent) nothing_reads in
    record { read = nothing; reads = reads; fits = refl; offer = inl (inl (record { cause = cause; has_cause = now; head_not_out = out; says = same_delivery (sym heads) refl refl refl })) }

-- ---- what was delivered

-- an entry that sends the stream nothing
pub delivered_same : (known : Known) (e : Entry) (t : List Entry) (stream : ℕ) → items_on stream (sent (e ∷ t)) ≡ items_on stream (sent t) → IsDelivered known t stream → IsDelivered known (e ∷ t) stream
delivered_same known e t stream same d = record {
  delivery = d.delivery;
  reads = subst (λ x. ReadsAs x d.delivery) (sym same) d.reads;
  offered = elim d.offered [
    | inl none ↦ inl none
    | inr w ↦ inr (record { later = e ∷ w.later; earlier = w.earlier; is = ap (λ x. e ∷ x) w.is; no_more = same ∙ w.no_more; source = w.source; offered = w.offered; part = w.part })
  ];
}
