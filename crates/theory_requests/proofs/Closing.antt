-- Connections that are closed, or fail, and the end of the client's.
use Rattle.std.proofs.Common.{◌≡◌, ℕ, Bool, true, false, not, ◌==◌, ◌&&◌, List, [], ◌∷◌, map, refl, sym, ap, ◌∙◌, subst, inl, inr, arith, if◌then◌else◌}
use Rattle.std.specs.Prelude.{Option, Some, None, ◌⊎◌, is_none, option_map}
use Rattle.std.proofs.lemmas.Bool.{cases_Bool, eq-eqb, and_parts}
use Rattle.std.proofs.lemmas.Bool.Decides.{eqb_tells}
use Rattle.model.specs.Logs.Event.{UpFailed}
use Rattle.model.specs.Logs.Act.{Close, CloseClient}
use Rattle.model.specs.Tapes.{Entry}
use Rattle.model.specs.Tapes.Entry.{Happened, Did}
use Rattle.model.specs.Openings.{Opened, exchanges, exchange_on}
use Rattle.model.specs.Admission.{is_open}
use Rattle.model.specs.Available.{heard_by}
use Rattle.model.specs.Known.{Known}
use Rattle.model.specs.Lifetimes.{is_active}
use Rattle.model.specs.Causes.{Cause}
use Rattle.model.specs.Courses.{items, cause}
use Rattle.model.specs.ErrorClause.{must_end}
use Rattle.model.specs.Offers.{is_to_head, IsGiven}
use Rattle.model.specs.Idle.{is_asked_for_head, IsTooLong, LeavesOpen, MayBeKept, IsOneTooMany}
use Rattle.model.specs.ProgressClause.{Reason}
use Rattle.model.specs.ProgressClause.Reason.{Over, Complete, Answered, ClientClosed}
use Rattle.h1_writer.specs.Sending.{Stage}
use Rattle.theory_requests.specs.Told.{Told, IsTold, is_served}
use Rattle.theory_requests.specs.Lines.{Answer, Line, k_of, line_of, lines_without}
use Rattle.theory_requests.specs.Lines.Answer.{Pending, Idle, Done}
use Rattle.theory_requests.specs.Pool.{Answers, Keeps, IsSo}
use Rattle.theory_requests.specs.State.{Way, Held, held_of, id_of, dropped, drop_from, State, after}
use Rattle.theory_requests.specs.State.Way.{Waiting, Going, Dropped}
use Rattle.theory_requests.specs.State.Move.{Fails, Acts}
use Rattle.theory_requests.specs.Rule.{is_done_by, is_done, IsKept, MayCome, MayClose, MayShut}
use Rattle.model.proofs.ItemLaws.{items_stay}
use Rattle.model.proofs.ExchangeLaws.{open_exchange}
use Rattle.theory_requests.proofs.Lists.{find_map, find_gone, find_other, missing_without}
use Rattle.theory_requests.proofs.Fitting.{not_not}
use Rattle.theory_requests.proofs.Reasons.{reason_stays}
use Rattle.theory_requests.proofs.Reusing.{closes_leave}
use Rattle.theory_requests.proofs.Losing.{closed_why, keeps_closed}
use Rattle.theory_requests.proofs.Leaving.{IsLetGo, event_leaves, keeps_failed}
use Rattle.theory_requests.proofs.Standing.{owed, text_of, IsFor, IsOnWay, Stands, some_items}
use Rattle.theory_requests.proofs.Passing.{IsPassing, given_there, let_go_left, none_owed, none_due, text_same, way_same}
use Rattle.theory_requests.proofs.Framing.{held_kept, still_shut, not_to_end, none_to_close}

-- ---- lists

-- what was held of a stream from which a connection is dropped
pub drop_found : (k stream : ℕ) (hs : List Held) (x : Held) → held_of stream (map (drop_from k) hs) ≡ Some x → (old : Held) × (held_of stream hs ≡ Some old) × (x.way ≡ dropped k old.way)
drop_found k stream hs x e = by (held_of stream hs) refl (sym (find_map id_of (drop_from k) (λ h. refl) stream hs) ∙ e)
  where
    by : (o : Option Held) → held_of stream hs ≡ o → option_map (drop_from k) o ≡ Some x → (old : Held) × (held_of stream hs ≡ Some old) × (x.way ≡ dropped k old.way)
    by None was e = absurd (cc)
    by (Some old) was e = let same : drop_from k old ≡ x = cc in (old, was, ap (λ (h : Held). h.way) (sym same))

-- a connection that is closed might be kept only where it might before
close_back : (known : Known) (t : List Entry) (k : ℕ) (o : Opened) → MayBeKept known (Did (Close k) ∷ t) o → MayBeKept known t o
close_back known t k o m =
    let same : is_asked_for_head known o (Did (Close k) ∷ t) ≡ is_asked_for_head known o t = ap is_to_head (sym (items_stay known o.stream t (Did (Close k)) refl)) in record {
      keeps = m.keeps;
      goes_on = m.goes_on;
      request = m.request;
      sent = m.sent;
      answered = subst (λ b. LeavesOpen (heard_by o t) b) same m.answered;
      fits = λ long. m.fits (subst (λ b. IsTooLong known (heard_by o t) b) (sym same) long);
      not_ended = m.not_ended;
    }

module _ (known : Known) (t : List Entry) (s : State) (h : Stands known t s) where
  -- the exchange of a connection that is kept
  pub found_exchange : (k : ℕ) (l : Line) → line_of k s.live ≡ Some l → IsGiven t l.stream (exchange_on k t)
  found_exchange k l found = let so = h.keeps.are_so k l found in record { is_opened = open_exchange k t so.opened; is_given = so.stream }

  -- ---- a connection is kept no longer

  module _ (k : ℕ) (e : Entry) (u : State) (is : u.live ≡ lines_without k s.live) (same : exchanges (e ∷ t) ≡ exchanges t) (same_text : (o : Opened) → text_of o (e ∷ t) u.due ≡ text_of o t s.due) (same_items : (stream : ℕ) → items known stream (e ∷ t) ≡ items known stream t) where
    gone_now : line_of k u.live ≡ None
    gone_now = ap (line_of k) is ∙ find_gone k_of k s.live

    others : (j : ℕ) → (k ≡ j → ⊥) → line_of j u.live ≡ line_of j s.live
    others j apart = ap (line_of j) is ∙ find_other k_of k j s.live apart

    missing : (j : ℕ) → line_of j s.live ≡ None → line_of j u.live ≡ None
    missing j none = ap (line_of j) is ∙ missing_without k_of k j s.live none

    stays : (stream : ℕ) (way : Way) → ((j : ℕ) (stage : Stage) → way ≡ Going j stage → IsFor s.live j stream → IsFor u.live j stream) → IsOnWay known t s stream way → IsOnWay known (e ∷ t) u stream way
    stays stream way keeps w = way_same known t e s u stream way (same_items stream) same (λ o g. same_text o) keeps missing w

    -- the way of a request behind that
    way_dropped : (stream : ℕ) (way : Way) → IsOnWay known t s stream way → IsOnWay known (e ∷ t) u stream (dropped k way)
    way_dropped stream (Waiting route text stage body) w = stays stream (Waiting route text stage body) (λ j x e. cc) w
    way_dropped stream Dropped w = stays stream Dropped (λ j x e. cc) w
    way_dropped stream (Going j stage) w = elim (eqb_tells j k) [
      | inl at ↦ subst (λ b. IsOnWay known (e ∷ t) u stream (if b then Dropped else Going j stage)) (sym at.0) (record { o = w.o; given = given_there t e stream w.o same w.given; gone = subst (λ n. line_of n u.live ≡ None) (sym (w.number ∙ at.1)) gone_now })
      | inr apart ↦ subst (λ b. IsOnWay known (e ∷ t) u stream (if b then Dropped else Going j stage)) (sym apart.0)
          (stays stream (Going j stage) (λ i x is line. (let at : j ≡ i = cc in (line.0, others i (λ e. apart.1 (at ∙ sym e)) ∙ line.1, line.2))) w)
    ]

    pub held_dropped : (stream : ℕ) (x : Held) → held_of stream (map (drop_from k) s.held) ≡ Some x → IsOnWay known (e ∷ t) u stream x.way
    held_dropped stream x at =
        let was = drop_found k stream s.held x at in subst (IsOnWay known (e ∷ t) u stream) (sym was.2) (way_dropped stream was.0.way (h.held stream was.0 was.1))

  -- ---- why a connection is done with

  -- a stream that isn't served: a reason
  lost_reason : (o : Opened) → is_served known o.stream t ≡ false → Reason known t o
  lost_reason o lost = by (is_active o.stream t) refl (cause known o.stream t) refl lost
    where
      by : (b : Bool) → is_active o.stream t ≡ b → (c : Option Cause) → cause known o.stream t ≡ c → (b && is_none c) ≡ false → Reason known t o
      by false over c found e = Over over
      by true active (Some found) is e = Answered found is
      by true active None is e = absurd (cc)

  -- one whose answer is pending while its stream is served isn't, unless the client is closed
  pub none_reason : (told : Told) → IsTold known t told → (k : ℕ) (l : Line) → line_of k s.live ≡ Some l → l.answer ≡ Pending → is_done told l ≡ false → Reason known t (exchange_on k t) → ⊥
  none_reason told is_told k l found pending going reason = by reason
    where
      on : told.served l.stream ≡ true
      on = not_not (told.served l.stream) (ap (λ a. is_done_by a (told.served l.stream)) (sym pending) ∙ going)

      served : is_served known (exchange_on k t).stream t ≡ true
      served = ap (λ n. is_served known n t) (h.keeps.are_so k l found).stream ∙ (sym (is_told.served l.stream) ∙ on)

      parts : (is_active (exchange_on k t).stream t ≡ true) × (is_none (cause known (exchange_on k t).stream t) ≡ true)
      parts = and_parts (is_active (exchange_on k t).stream t) (is_none (cause known (exchange_on k t).stream t)) served

      by : Reason known t (exchange_on k t) → ⊥
      by (Over over) = let clash : true ≡ false = sym parts.0 ∙ over in cc
      by (Complete heard) = subst (Answers known t k) pending (h.keeps.are_so k l found).answers heard
      by (Answered found_cause is) = let clash : true ≡ false = sym parts.1 ∙ ap is_none is in cc
      by (ClientClosed closed) = let clash : ◌≡◌ {A = Option Line} None (Some l) = sym (ap (line_of k) (h.shut closed)) ∙ found in cc

  module _ (told behind : Told) (is_told : IsTold known t told) where
    -- one that is done with: a reason
    done_reason : (k : ℕ) (l : Line) → line_of k s.live ≡ Some l → is_done told l ≡ true → Reason known t (exchange_on k t)
    done_reason k l found done = by l.answer (h.keeps.are_so k l found).answers done
      where
        lost : (b : Bool) → not b ≡ true → b ≡ false
        lost true e = absurd (let clash : false ≡ true = e in cc)
        lost false e = refl

        by : (a : Answer) → Answers known t k a → is_done_by a (told.served l.stream) ≡ true → Reason known t (exchange_on k t)
        by Pending a e = lost_reason (exchange_on k t) (ap (λ n. is_served known n t) (h.keeps.are_so k l found).stream ∙ sym (is_told.served l.stream) ∙ lost (told.served l.stream) e)
        by Idle a e = absurd (let clash : false ≡ true = e in cc)
        by Done a e = Complete a.0

    -- ---- closes

    -- a connection is closed
    pub closes : (k : ℕ) → MayClose told s k → IsPassing known t (Did (Close k)) s (after known.setup behind s (Acts (Close k)))
    closes k may = record {
      same_due = refl;
      due = none_due known (e ∷ t) u.live u.due may.nothing;
      same = refl;
      same_opens = refl;
      same_sent = λ o. refl;
      same_owed = owes;
      same_items = same_items;
      still_shut = λ j e. if_shut (j == k) (is_open j t) e;
      count = refl;
      held = held_dropped k e u refl refl (λ o. text_same t e s.due u.due o refl refl (owes o)) same_items;
      keeps = keeps_closed known t s.live h.keeps k may.line may.found not_idle (λ e. e);
      goes = λ x. x;
      in_time = λ x. x;
      let_go = let_go_left known t e s h (λ e. e) (λ j shut there. closes_leave known t j k (λ same. let clash : true ≡ false = sym so.opened ∙ ap (λ n. is_open n t) (sym same) ∙ shut in cc));
      closes = λ c. (record { was_open = so.opened; there = open_exchange k t so.opened; shut = ap (λ b. if b then false else is_open k t) (eq-eqb k k refl); why = why }, c);
      shut = λ closed. ap (lines_without k) (h.shut closed);
    }
      where
        e : Entry
        e = Did (Close k)

        u : State
        u = after known.setup behind s (Acts (Close k))

        so : IsSo known t k may.line
        so = h.keeps.are_so k may.line may.found

        if_shut : (b c : Bool) → c ≡ false → (if b then false else c) ≡ false
        if_shut true c e = refl
        if_shut false c e = e

        same_items : (stream : ℕ) → items known stream (Did (Close k) ∷ t) ≡ items known stream t
        same_items stream = sym (items_stay known stream t (Did (Close k)) refl)

        owes : (o : Opened) → owed o (Did (Close k) ∷ t) s.due ≡ owed o t s.due
        owes o = none_owed o (Did (Close k) ∷ t) s.due may.nothing ∙ sym (none_owed o t s.due may.nothing)

        not_idle : may.line.answer ≡ Idle → must_end known t ≡ true
        not_idle idle = elim may.why [
          | inl done ↦ absurd (let clash : false ≡ true = ap (λ a. is_done_by a (told.served may.line.stream)) (sym idle) ∙ done in cc)
          | inr ending ↦ sym is_told.ends ∙ ending
        ]

        -- the end isn't to come, so it is done with
        done : must_end known t ≡ false → is_done told may.line ≡ true
        done on = elim may.why [
          | inl is ↦ is
          | inr ending ↦ absurd (let clash : true ≡ false = sym ending ∙ is_told.ends ∙ on in cc)
        ]

        reason : must_end known t ≡ false → Reason known (Did (Close k) ∷ t) (exchange_on k t)
        reason on =
            let g = h.given (exchange_on k t) (open_exchange k t so.opened) in
            reason_stays known t (Did (Close k)) (exchange_on k t) g.started (some_items (items known (exchange_on k t).stream t) g.head g.has_head) (λ x. x) (done_reason k may.line may.found (done on))

        too_many : must_end known t ≡ false → MayBeKept known (Did (Close k) ∷ t) (exchange_on k t) → IsOneTooMany known t k
        too_many on m = elim (closed_why known t s.live h.keeps k may.line may.found not_idle (λ e. e) (close_back known t k (exchange_on k t) m)) [
          | inl many ↦ many
          | inr over ↦ absurd (let clash : true ≡ false = sym over ∙ on in cc)
        ]

        why : (Reason known (Did (Close k) ∷ t) (exchange_on k t) × (MayBeKept known (Did (Close k) ∷ t) (exchange_on k t) → IsOneTooMany known t k)) ⊎ (must_end known t ≡ true)
        why = elim (cases_Bool (must_end known t)) [
          | inl over ↦ inr over
          | inr on ↦ inl (reason on, too_many on)
        ]

    -- the client is closed
    pub shuts : MayShut s → IsPassing known t (Did CloseClient) s (after known.setup behind s (Acts CloseClient))
    shuts may = record {
      same_due = refl;
      due = none_due known (Did CloseClient ∷ t) s.live s.due may.nothing;
      same = refl;
      same_opens = refl;
      same_sent = λ o. refl;
      same_owed = λ o. none_owed o (Did CloseClient ∷ t) s.due may.nothing ∙ sym (none_owed o t s.due may.nothing);
      same_items = λ stream. sym (items_stay known stream t (Did CloseClient) refl);
      still_shut = λ j e. e;
      count = refl;
      held = λ stream x found. cc;
      keeps = subst (Keeps known (Did CloseClient ∷ t)) (sym may.none) (record { are_so = λ k l found. cc; all = none_open; distinct = tt; few = omega arith });
      goes = λ x. x;
      in_time = λ x. x;
      let_go = stay;
      closes = λ c. c;
      shut = λ closed. may.none;
    }
      where
        none_open : (k : ℕ) → is_open k t ≡ true → (l : Line) × (line_of k [] ≡ Some l)
        none_open k on = let l = h.keeps.all k on in (l.0, ap (line_of k) (sym may.none) ∙ l.1)

        stay : (k : ℕ) (earlier : List Entry) → IsLetGo known t k earlier → IsLetGo known (Did CloseClient ∷ t) k earlier
        stay k earlier g = record {
          was_open = g.was_open;
          there = g.there;
          shut = g.shut;
          why = elim g.why [
            | inl reason ↦ inl (ClientClosed refl, λ m. absurd (let clash : true ≡ false = m.goes_on in cc))
            | inr over ↦ inr over
          ];
        }

    -- ---- failures

    -- a connection fails
    pub fails : (k : ℕ) → MayCome told s → IsKept s k → IsPassing known t (Happened (UpFailed k)) s (after known.setup behind s (Fails k))
    fails k come there = record {
      same_due = refl;
      due = none_due known (e ∷ t) u.live u.due come.nothing;
      same = refl;
      same_opens = refl;
      same_sent = λ o. refl;
      same_owed = owes;
      same_items = same_items;
      still_shut = still_shut t (UpFailed k);
      count = refl;
      held = λ stream x found. held_dropped k e u refl refl (λ o. text_same t e s.due u.due o refl refl (owes o)) same_items stream x (held_kept behind stream (map (drop_from k) s.held) x found).0;
      keeps = keeps_failed known t s.live h.keeps (none_to_close known t s h told behind is_told come) (sym is_told.ends ∙ come.goes_on) k;
      goes = λ x. x;
      in_time = λ x. x;
      let_go = let_go_left known t e s h (λ ends. absurd (not_to_end known t s h told behind is_told come ends)) (λ j shut at. event_leaves known t j (UpFailed k) (λ same. let clash : true ≡ false = sym (h.keeps.are_so k there.0 there.1).opened ∙ ap (λ n. is_open n t) (sym same) ∙ shut in cc));
      closes = λ x. x;
      shut = λ closed. ap (lines_without k) (h.shut closed);
    }
      where
        e : Entry
        e = Happened (UpFailed k)

        u : State
        u = after known.setup behind s (Fails k)

        same_items : (stream : ℕ) → items known stream (Happened (UpFailed k) ∷ t) ≡ items known stream t
        same_items stream = sym (items_stay known stream t (Happened (UpFailed k)) refl)

        owes : (o : Opened) → owed o (Happened (UpFailed k) ∷ t) s.due ≡ owed o t s.due
        owes o = none_owed o (Happened (UpFailed k) ∷ t) s.due come.nothing ∙ sym (none_owed o t s.due come.nothing)
