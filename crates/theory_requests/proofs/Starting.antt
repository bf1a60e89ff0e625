-- A text that is due begins an exchange: on a connection that is opened, or on an idle one.
use Rattle.std.proofs.Common.{◌≡◌, ℕ, Bool, true, false, not, List, [], ◌∷◌, ◌++◌, length, refl, sym, ap, ◌∙◌, subst, inl, inr, if◌then◌else◌, append-nil}
use Rattle.std.specs.Prelude.{Option, Some, None, ◌⊎◌}
use Rattle.std.proofs.lemmas.Bool.{and_parts, eq-eqb}
use Rattle.std.proofs.lemmas.Bool.Decides.{eqb_tells}
use Rattle.model.specs.Messages.{Item, Request}
use Rattle.model.specs.Http1.{H1Request}
use Rattle.model.specs.Http2.{HasHead, WellFormedHead, authority_of, path_of}
use Rattle.model.specs.Tapes.{Entry, is_closed}
use Rattle.model.specs.Openings.{Opened, opens, exchanges, exchange_on, given, sent_for, AreNumbered, AreApart, IsGivenNone, GoToOpen}
use Rattle.model.specs.Admission.{is_open}
use Rattle.model.specs.Available.{IsIn}
use Rattle.model.specs.Known.{Known}
use Rattle.model.specs.Lifetimes.{is_opened, is_over, is_active}
use Rattle.model.specs.Courses.{items}
use Rattle.model.specs.Offers.{IsGiven}
use Rattle.model.specs.Idle.{MayBeKept}
use Rattle.model.specs.RequestClause.{BeginInTime}
use Rattle.model.proofs.LifeLaws.{opened_stays}
use Rattle.model.proofs.OpenedLaws.{none_zero}
use Rattle.model.proofs.DeliveryReadings.{one_connection, given_none}
use Rattle.h1_writer.specs.Sending.{Stage}
use Rattle.theory_requests.specs.Written.{IsWritten}
use Rattle.theory_requests.specs.Lines.{line_of}
use Rattle.theory_requests.specs.Pool.{Keeps}
use Rattle.theory_requests.specs.State.{Way, Held, held_of, held_with, unless_whole, is_whole, State}
use Rattle.theory_requests.specs.State.Way.{Going}
use Rattle.theory_requests.proofs.Lists.{held_now, held_beside}
use Rattle.theory_requests.proofs.Texts.{sent_either, no_request, one_head, part_told, sent_in_part}
use Rattle.theory_requests.proofs.Leaving.{IsLetGo, LetGo, let_go_stay}
use Rattle.theory_requests.proofs.Standing.{owed, text_of, IsNewest, IsPast, IsSent, Given, IsDueFor, Fares, IsStarting, IsDue, IsFor, IsGoing, IsOnWay, Stands, unread_same, has_head_stays, past_stays, way_stays}
use Rattle.theory_requests.proofs.Passing.{sent_same}
use Rattle.theory_requests.proofs.Spelled.{written_spelled}
use Rattle.model.proofs.ExchangeLaws.{newest_in}
use Rattle.model.specs.Setup.{IsFirstMatch}

-- an active stream was opened, so it has another id than 0
active_opened : (stream : ℕ) (t : List Entry) → is_active stream t ≡ true → is_opened stream t ≡ true
active_opened stream t active = (and_parts (is_opened stream t) (not (is_over stream t)) active).0

pub active_some : (stream : ℕ) (t : List Entry) → is_active stream t ≡ true → stream ≡ 0 → ⊥
active_some stream t active zero = let clash : true ≡ false = sym (active_opened stream t active) ∙ ap (λ n. is_opened n t) zero ∙ none_zero t in cc

-- none was given to the stream
pub given_none_in : (stream : ℕ) (os : List Opened) → ((o : Opened) → IsIn o os → o.stream ≡ stream → ⊥) → IsGivenNone stream os
given_none_in stream [] none = tt
given_none_in stream (o ∷ os) none = (λ e. none o (inl refl) (sym e), given_none_in stream os (λ p i. none p (inr i)))

-- what a text that was written is to an exchange that is sent it
pub sent_written : (known : Known) (t : List Entry) (o : Opened) (text : List ℕ) (stage : Stage) → IsWritten known.setup.keep (items known o.stream t) text stage → IsSent known t text o
sent_written known t o text stage w = record {
  reads = elim (sent_either known.setup.keep (items known o.stream t) text stage w) [
    | inl whole ↦ inl whole
    | inr part ↦ inr (record { part = part.0; cut = λ request means. absurd (no_request (items known o.stream t) request part.1 means) })
  ];
  spelled = written_spelled known.setup.keep (items known o.stream t) text stage w;
  writes = λ opened. (stage, w);
}

-- ---- a request that isn't whole leaves no connection idle

-- what was written of one that isn't whole is no request
pub part_reads_none : (keep : Bool) (xs : List Item) (text : List ℕ) (stage : Stage) → IsWritten keep xs text stage → is_whole stage ≡ false → (request : Request) → H1Request text request → ⊥
part_reads_none keep xs text stage w part request reads =
    (sent_in_part keep xs text stage w (part_told stage part)).reads.no_more text [] request reads (sym (append-nil text))

pub going_not_kept : (known : Known) (t : List Entry) (s : State) → Stands known t s → (stream k : ℕ) (stage : Stage) → (w : IsGoing known t s stream k stage) → owed w.o t s.due ≡ [] → given k (exchanges t) ≡ stream → MayBeKept known t (exchange_on k t) → ⊥
going_not_kept known t s h stream k stage w none its m =
    part_reads_none known.setup.keep (items known stream t) (text_of w.o t s.due) stage w.written w.part m.request (subst (λ x. H1Request x m.request) text m.sent)
  where
    here : IsIn (exchange_on k t) (exchanges t)
    here = subst (λ n. IsIn (exchange_on n t) (exchanges t)) w.number (newest_in w.o.k (exchanges t) w.o w.given.is_opened refl)

    same : exchange_on k t ≡ w.o
    same = one_connection (exchanges t) (exchange_on k t) w.o h.apart here w.given.is_opened (its ∙ sym w.given.is_given)

    text : sent_for (exchange_on k t) t ≡ text_of w.o t s.due
    text = ap (λ o. sent_for o t) same ∙ sym (ap (λ x. sent_for w.o t ++ x) none ∙ append-nil (sent_for w.o t))

-- ---- an entry with which an exchange begins

-- What is to be shown of such an entry.
pub record Starts (known : Known) (t : List Entry) (e : Entry) (s u : State) : Type 0 where
  pub stream : ℕ
  pub route : ℕ
  pub text : List ℕ
  pub stage : Stage
  pub idle : Option ℕ
  pub due : IsStarting known t s.live stream route text stage idle
  -- it was due for its stream, and for no other
  pub due_for : (other : ℕ) → IsDueFor s.due other → stream ≡ other
  pub new : Opened
  pub of_stream : new.stream ≡ stream
  pub of_route : new.route ≡ route
  pub now : exchanges (e ∷ t) ≡ new ∷ exchanges t
  pub same_items : (other : ℕ) → items known other (e ∷ t) ≡ items known other t
  pub new_text : text_of new (e ∷ t) u.due ≡ text
  pub old_text : (o : Opened) → IsIn o (exchanges t) → text_of o (e ∷ t) u.due ≡ text_of o t s.due
  pub old_sent : (o : Opened) → IsIn o (exchanges t) → sent_for o (e ∷ t) ≡ sent_for o t
  pub still_shut : (o : Opened) → IsIn o (exchanges t) → is_open o.k t ≡ false → is_open o.k (e ∷ t) ≡ false
  pub old_place : (o : Opened) → IsIn o (exchanges t) → Given known t s.due o → IsNewest t o → IsNewest (e ∷ t) o ⊎ IsPast known (e ∷ t) o
  pub held_is : u.held ≡ held_with stream (unless_whole stage (Going new.k stage)) s.held
  pub new_line : IsFor u.live new.k stream
  pub old_line : (other k : ℕ) (stage : Stage) → IsGoing known t s other k stage → IsFor u.live k other
  pub missing : (o : Opened) → IsIn o (exchanges t) → line_of o.k s.live ≡ None → line_of o.k u.live ≡ None
  pub numbered : AreNumbered (opens (e ∷ t))
  pub count : u.count ≡ length (opens (e ∷ t))
  pub is_due : IsDue known (e ∷ t) u.live u.due
  pub keeps : Keeps known (e ∷ t) u.live
  pub goes : GoToOpen (e ∷ t)
  pub in_time : BeginInTime known (e ∷ t)
  pub let_go : (k : ℕ) (earlier : List Entry) → IsLetGo known t k earlier → IsLetGo known (e ∷ t) k earlier
  pub closes : LetGo known (e ∷ t) t → LetGo known (e ∷ t) (e ∷ t)
  pub shut : is_closed (e ∷ t) ≡ true → u.live ≡ []

-- What is kept stands for the tape behind it.
module _ (known : Known) (t : List Entry) (e : Entry) (s u : State) (h : Stands known t s) (p : Starts known t e s u) where
  none_given : IsGivenNone p.new.stream (exchanges t)
  none_given = given_none_in p.new.stream (exchanges t) (λ o i same. p.due.none_given o (record { is_opened = i; is_given = same ∙ p.of_stream }))

  new_in : IsIn p.new (exchanges (e ∷ t))
  new_in = subst (IsIn p.new) (sym p.now) (inl refl)

  old_in : (o : Opened) → IsIn o (exchanges t) → IsIn o (exchanges (e ∷ t))
  old_in o i = subst (IsIn o) (sym p.now) (inr i)

  -- the new exchange's stream has the head that it was written for
  written : IsWritten known.setup.keep (items known p.new.stream (e ∷ t)) p.text p.stage
  written = subst (λ xs. IsWritten known.setup.keep xs p.text p.stage) (sym (p.same_items p.new.stream)) (subst (λ n. IsWritten known.setup.keep (items known n t) p.text p.stage) (sym p.of_stream) p.due.written)

  new_given : Given known (e ∷ t) u.due p.new
  new_given = record {
    started = opened_stays t e p.new.stream (ap (λ n. is_opened n t) p.of_stream ∙ active_opened p.stream t p.due.in_time.active);
    head = p.due.head;
    has_head = has_head_stays known t e p.new.stream p.due.head (subst (λ n. HasHead (items known n t) p.due.head) (sym p.of_stream) p.due.has_head);
    well_formed = subst WellFormedHead (one_head known.setup.keep (items known p.stream t) p.text p.stage p.due.written p.due.head p.due.has_head) p.due.written.well_formed;
    by_route = subst (λ n. IsFirstMatch known.setup.routes (authority_of p.due.head) (path_of p.due.head) n) (sym p.of_route) p.due.by_route;
    sent = subst (λ x. IsSent known (e ∷ t) x p.new) (sym p.new_text) (sent_written known (e ∷ t) p.new p.text p.stage written);
    place = inl (ap (given p.new.k) p.now ∙ ap (λ b. if b then p.new.stream else given p.new.k (exchanges t)) (eq-eqb p.new.k p.new.k refl));
  }

  -- one that wasn't the newest isn't
  newest_back : (o : Opened) → IsIn o (exchanges t) → IsNewest (e ∷ t) o → IsNewest t o
  newest_back o i newest = elim (eqb_tells p.new.k o.k) [
    | inl same ↦ absurd (given_none (exchanges t) p.new.stream o none_given i (sym (ap (λ b. if b then p.new.stream else given o.k (exchanges t)) same.0) ∙ sym (ap (given o.k) p.now) ∙ newest))
    | inr apart ↦ sym (ap (λ b. if b then p.new.stream else given o.k (exchanges t)) apart.0) ∙ sym (ap (given o.k) p.now) ∙ newest
  ]

  old_given : (o : Opened) → IsIn o (exchanges t) → Given known (e ∷ t) u.due o
  old_given o i =
      let g = h.given o i in record {
        started = opened_stays t e o.stream g.started;
        head = g.head;
        has_head = has_head_stays known t e o.stream g.head g.has_head;
        well_formed = g.well_formed;
        by_route = g.by_route;
        sent = subst (λ x. IsSent known (e ∷ t) x o) (sym (p.old_text o i)) (sent_same known t e o (text_of o t s.due) i (p.same_items o.stream) (p.still_shut o i) g.sent);
        place = elim g.place [
          | inl newest ↦ p.old_place o i g newest
          | inr past ↦ inr (past_stays known t e o (newest_back o i) (p.old_sent o i) past)
        ];
      }

  all_given : (o : Opened) → IsIn o (exchanges (e ∷ t)) → Given known (e ∷ t) u.due o
  all_given o i = by (subst (IsIn o) p.now i)
    where
      by : IsIn o (p.new ∷ exchanges t) → Given known (e ∷ t) u.due o
      by (inl is) = subst (Given known (e ∷ t) u.due) (sym is) new_given
      by (inr old) = old_given o old

  fares : (stream : ℕ) → Fares known (e ∷ t) u.due stream
  fares stream = elim (h.fares stream) [
    | inl none ↦ inl (unread_same known t e stream (p.same_items stream) none)
    | inr some ↦ (elim some [
      | inl is ↦ inr (inr (p.new, record { is_opened = new_in; is_given = p.of_stream ∙ p.due_for stream is }))
      | inr g ↦ inr (inr (g.0, record { is_opened = old_in g.0 g.1.is_opened; is_given = g.1.is_given }))
    ])
  ]

  -- ---- requests that aren't whole

  -- the request goes out on its connection, unless it is whole
  going : (way : Way) → unless_whole p.stage (Going p.new.k p.stage) ≡ Some way → IsOnWay known (e ∷ t) u p.stream way
  going way is = by (is_whole p.stage) refl is
    where
      by : (b : Bool) → is_whole p.stage ≡ b → (if b then None else Some (Going p.new.k p.stage)) ≡ Some way → IsOnWay known (e ∷ t) u p.stream way
      by true whole is = absurd (cc)
      by false part is =
          let same : Going p.new.k p.stage ≡ way = cc in
          subst (IsOnWay known (e ∷ t) u p.stream) same (record {
            o = p.new;
            given = record { is_opened = new_in; is_given = p.of_stream };
            number = refl;
            line = p.new_line;
            written = subst (λ x. IsWritten known.setup.keep (items known p.stream (e ∷ t)) x p.stage) (sym p.new_text) (subst (λ n. IsWritten known.setup.keep (items known n (e ∷ t)) p.text p.stage) p.of_stream written);
            part = part;
          })

  -- other requests stay as they are
  old_way : (stream : ℕ) → (p.stream ≡ stream → ⊥) → (way : Way) → IsOnWay known t s stream way → IsOnWay known (e ∷ t) u stream way
  old_way stream apart way w =
      way_stays known t e s u stream way (p.same_items stream) (λ o g. record { is_opened = old_in o g.is_opened; is_given = g.is_given }) back (λ o g. p.old_text o g.is_opened)
      (λ k stage is line. p.old_line stream k stage (subst (IsOnWay known t s stream) is w)) (λ o g. p.missing o g.is_opened) w
    where
      back : (o : Opened) → IsGiven (e ∷ t) stream o → IsGiven t stream o
      back o g = by (subst (IsIn o) p.now g.is_opened)
        where
          by : IsIn o (p.new ∷ exchanges t) → IsGiven t stream o
          by (inl is) = absurd (apart (sym p.of_stream ∙ sym (ap (λ (x : Opened). x.stream) is) ∙ g.is_given))
          by (inr old) = record { is_opened = old; is_given = g.is_given }

  held : (stream : ℕ) (x : Held) → held_of stream u.held ≡ Some x → IsOnWay known (e ∷ t) u stream x.way
  held stream x found = elim (eqb_tells p.stream stream) [
    | inl same ↦ subst (λ n. IsOnWay known (e ∷ t) u n x.way) same.1 (going x.way (held_now p.stream (unless_whole p.stage (Going p.new.k p.stage)) s.held x (ap (held_of p.stream) (sym p.held_is) ∙ ap (λ n. held_of n u.held) same.1 ∙ found)))
    | inr apart ↦ old_way stream apart.1 x.way (h.held stream x (sym (held_beside p.stream stream (unless_whole p.stage (Going p.new.k p.stage)) s.held apart.1) ∙ ap (held_of stream) (sym p.held_is) ∙ found))
  ]

  pub starts_next : Stands known (e ∷ t) u
  starts_next = record {
    numbered = p.numbered;
    apart = subst AreApart (sym p.now) (none_given, h.apart);
    count = p.count;
    given = all_given;
    fares = fares;
    held = held;
    due = p.is_due;
    keeps = p.keeps;
    goes = p.goes;
    in_time = p.in_time;
    closes = p.closes (let_go_stay known t e p.let_go t h.closes);
    shut = p.shut;
  }
