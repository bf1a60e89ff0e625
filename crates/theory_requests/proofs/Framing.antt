-- Entries that leave every connection as it is: frames that add no item, frames that are sent, breaches, and events of no upstream.
use Rattle.std.proofs.Common.{◌≡◌, ℕ, Bool, true, false, ◌||◌, ◌==◌, List, [], ◌∷◌, ◌++◌, refl, sym, ap, ◌∙◌, subst, inl, inr, if◌then◌else◌}
use Rattle.std.specs.Prelude.{Some}
use Rattle.std.specs.List.{list_any}
use Rattle.std.proofs.lemmas.Bool.{cases_Bool, or_parts}
use Rattle.std.proofs.lemmas.Bool.Decides.{eqb_tells}
use Rattle.model.specs.Logs.{Event}
use Rattle.model.specs.Logs.Event.{Client, ClientEnd, ClientTook, Up, UpEnd, UpFailed, UpTook, Drain}
use Rattle.model.specs.Tapes.{Noted, Breach, Entry}
use Rattle.model.specs.Tapes.Entry.{Came, Breached, Happened, Sent}
use Rattle.model.specs.Openings.{Opened, exchanges, exchange_on, sent_for}
use Rattle.model.specs.Admission.{is_open}
use Rattle.model.specs.Available.{IsIn}
use Rattle.model.specs.Known.{Known}
use Rattle.model.specs.Courses.{items, upstream_of}
use Rattle.model.specs.ErrorClause.{must_end}
use Rattle.theory_requests.specs.Told.{Told, IsTold}
use Rattle.theory_requests.specs.Lines.{Answer, Line, line_of, is_finished}
use Rattle.theory_requests.specs.Lines.Answer.{Pending, Idle, Done}
use Rattle.theory_requests.specs.Pool.{Keeps}
use Rattle.theory_requests.specs.State.{Held, held_of, kept, Due, State, after}
use Rattle.theory_requests.specs.State.Due.{Nothing, ToOpen, ToUse, ToSend}
use Rattle.theory_requests.specs.State.Move.{Takes, Breaks, Notes, Sends}
use Rattle.theory_requests.specs.Rule.{is_done_by, is_done, MayCome, MaySend}
use Rattle.model.proofs.ItemLaws.{items_stay}
use Rattle.model.proofs.LifeLaws.{ends_sent}
use Rattle.model.proofs.ExchangeLaws.{open_exchange}
use Rattle.theory_requests.proofs.Numbers.{none_zero}
use Rattle.theory_requests.proofs.Pooling.{keeps_same}
use Rattle.theory_requests.proofs.Leaving.{came_leaves, sent_leaves, breach_leaves, event_leaves}
use Rattle.theory_requests.proofs.Standing.{owed, text_of, IsFor, IsOnWay, Stands}
use Rattle.theory_requests.proofs.Passing.{IsPassing, items_where, begun_on, let_go_left, none_owed, none_due, way_same}
use Rattle.theory_requests.proofs.Goaways.{due_sent}

-- ---- what is held

-- what is held of a stream that is served was held before
pub held_kept : (told : Told) (stream : ℕ) (hs : List Held) (x : Held) → held_of stream (kept told hs) ≡ Some x → (held_of stream hs ≡ Some x) × (told.served stream ≡ true)
held_kept told stream [] x e = cc
held_kept told stream (h ∷ hs) x e = by (held_kept told stream hs x) (told.served h.id) refl e
  where
    at : (held_of stream (kept told hs) ≡ Some x → (held_of stream hs ≡ Some x) × (told.served stream ≡ true)) → told.served h.id ≡ true → held_of stream (h ∷ kept told hs) ≡ Some x → (held_of stream (h ∷ hs) ≡ Some x) × (told.served stream ≡ true)
    at again served e = elim (eqb_tells h.id stream) [
      | inl same ↦ (ap (λ b. if b then Some h else held_of stream hs) same.0 ∙ (sym (ap (λ b. if b then Some h else held_of stream (kept told hs)) same.0) ∙ e), sym (ap told.served same.1) ∙ served)
      | inr apart ↦ (let more = again (sym (ap (λ b. if b then Some h else held_of stream (kept told hs)) apart.0) ∙ e) in (ap (λ b. if b then Some h else held_of stream hs) apart.0 ∙ more.0, more.1))
    ]

    by : (held_of stream (kept told hs) ≡ Some x → (held_of stream hs ≡ Some x) × (told.served stream ≡ true)) → (b : Bool) → told.served h.id ≡ b → held_of stream (if b then h ∷ kept told hs else kept told hs) ≡ Some x → (held_of stream (h ∷ hs) ≡ Some x) × (told.served stream ≡ true)
    by again true served e = at again served e
    by again false lost e =
        let more = again e in
        elim (eqb_tells h.id stream) [
          | inl same ↦ absurd (let clash : true ≡ false = sym more.1 ∙ sym (ap told.served same.1) ∙ lost in cc)
          | inr apart ↦ (ap (λ b. if b then Some h else held_of stream hs) apart.0 ∙ more.0, more.1)
        ]

-- an event opens no connection
pub still_shut : (t : List Entry) (event : Event) (k : ℕ) → is_open k t ≡ false → is_open k (Happened event ∷ t) ≡ false
still_shut t (Client piece) k e = e
still_shut t ClientEnd k e = e
still_shut t (ClientTook count) k e = e
still_shut t (Up j piece) k e = e
still_shut t (UpEnd j) k e = e
still_shut t (UpFailed j) k e = by (k == j)
  where
    by : (b : Bool) → (if b then false else is_open k t) ≡ false
    by true = refl
    by false = e
still_shut t (UpTook j count) k e = e
still_shut t Drain k e = e

-- what is due to exchanges stays when a frame is sent
owed_sent : (o : Opened) (t : List Entry) (noted : Noted) (due : Due) → owed o (Sent noted ∷ t) due ≡ owed o t due
owed_sent o t noted Nothing = refl
owed_sent o t noted (ToOpen stream route text stage) = refl
owed_sent o t noted (ToUse k stream text stage) = refl
owed_sent o t noted (ToSend k text) = refl

-- where none is done with, none is to be closed for its answer
pub none_finished_of : (told : Told) (ls : List Line) → list_any (is_done told) ls ≡ false → list_any (λ (x : Line). is_finished x.answer) ls ≡ false
none_finished_of told [] none = refl
none_finished_of told (l ∷ ls) none =
    let parts = or_parts (is_done told l) (list_any (is_done told) ls) none in
    ap (λ b. b || list_any (λ (x : Line). is_finished x.answer) ls) (by l.answer parts.0) ∙ none_finished_of told ls parts.1
  where
    by : (a : Answer) → is_done_by a (told.served l.stream) ≡ false → is_finished a ≡ false
    by Pending e = refl
    by Idle e = refl
    by Done e = absurd (let clash : true ≡ false = e in cc)

module _ (known : Known) (t : List Entry) (s : State) (h : Stands known t s) (told behind : Told) (is_told : IsTold known t told) where
  -- where something comes in the connection isn't to end
  pub not_to_end : MayCome told s → must_end known t ≡ true → ⊥
  not_to_end come ends = let clash : true ≡ false = sym ends ∙ sym is_told.ends ∙ come.goes_on in cc

  -- something comes in: no connection is to be closed for its answer
  pub none_to_close : MayCome told s → list_any (λ (x : Line). is_finished x.answer) s.live ≡ false
  none_to_close come = none_finished_of told s.live come.none_done

  -- what is kept of connections stays so behind a frame
  pub came_keeps : (noted : Noted) → MayCome told s → Keeps known (Came noted ∷ t) s.live
  came_keeps noted come =
      keeps_same known t (Came noted) s.live (λ k on. came_leaves known t k noted (begun_on known t s h k (open_exchange k t on))) (λ k on. on) (λ ends. absurd (not_to_end come ends)) (inr (none_to_close come)) h.keeps

  -- what is held behind an entry that leaves items, exchanges and connections
  module _ (e : Entry) (u : State) (same_due : u.due ≡ s.due) (same_live : u.live ≡ s.live) (same_items : (stream : ℕ) → items known stream (e ∷ t) ≡ items known stream t) (same : exchanges (e ∷ t) ≡ exchanges t) (same_text : (o : Opened) → text_of o (e ∷ t) u.due ≡ text_of o t s.due) where
    on_way : (stream : ℕ) (x : Held) → held_of stream s.held ≡ Some x → IsOnWay known (e ∷ t) u stream x.way
    on_way stream x found =
        way_same known t e s u stream x.way (same_items stream) same (λ o g. same_text o) (λ k stage is there. subst (λ ls. IsFor ls k stream) (sym same_live) there) (λ k none. ap (line_of k) same_live ∙ none) (h.held stream x found)

  -- ---- frames

  -- a frame that adds no item
  pub takes : (noted : Noted) → MayCome told s → items known noted.frame.id (Came noted ∷ t) ≡ items known noted.frame.id t → IsPassing known t (Came noted) s (after known.setup behind s (Takes noted))
  takes noted come same =
      let u = after known.setup behind s (Takes noted) in
      let owes : (o : Opened) → owed o (Came noted ∷ t) s.due ≡ owed o t s.due = λ o. none_owed o (Came noted ∷ t) s.due come.nothing ∙ sym (none_owed o t s.due come.nothing) in record {
        same_due = refl;
        due = none_due known (Came noted ∷ t) u.live u.due come.nothing;
        same = refl;
        same_opens = refl;
        same_sent = λ o. refl;
        same_owed = owes;
        same_items = items_where known t noted same;
        still_shut = λ k e. e;
        count = refl;
        held = λ stream x found. on_way (Came noted) u refl refl (items_where known t noted same) refl (λ o. ap (λ xs. sent_for o t ++ xs) (owes o)) stream x (held_kept behind stream s.held x found).0;
        keeps = came_keeps noted come;
        goes = λ x. x;
        in_time = λ x. x;
        let_go = let_go_left known t _ s h (λ ends. absurd (not_to_end come ends)) (λ k shut there. came_leaves known t k noted (begun_on known t s h k there));
        closes = λ x. x;
        shut = h.shut;
      }

  -- a frame is sent
  pub sends : (noted : Noted) → MaySend s noted → IsPassing known t (Sent noted) s (after known.setup behind s (Sends noted))
  sends noted may =
      let u = after known.setup behind s (Sends noted) in
      let same : (stream : ℕ) → items known stream (Sent noted ∷ t) ≡ items known stream t = λ stream. sym (items_stay known stream t (Sent noted) refl) in record {
        same_due = refl;
        due = due_sent known t noted s may h.due;
        same = refl;
        same_opens = refl;
        same_sent = λ o. refl;
        same_owed = λ o. owed_sent o t noted s.due;
        same_items = same;
        still_shut = λ k e. e;
        count = refl;
        held = λ stream x found. on_way (Sent noted) u refl refl same refl (λ o. ap (λ xs. sent_for o t ++ xs) (owed_sent o t noted s.due)) stream x (held_kept behind stream s.held x found).0;
        keeps = keeps_same known t (Sent noted) s.live (λ k on. sent_leaves known t k noted) (λ k on. on) (ends_sent known t noted) (inl refl) h.keeps;
        goes = λ x. x;
        in_time = λ x. x;
        let_go = let_go_left known t _ s h (ends_sent known t noted) (λ k shut there. sent_leaves known t k noted);
        closes = λ x. x;
        shut = h.shut;
      }

  -- ---- breaches, and events of no upstream

  -- a breach
  pub breaks : (breach : Breach) → MayCome told s → IsPassing known t (Breached breach) s (after known.setup behind s (Breaks breach))
  breaks breach come =
      let u = after known.setup behind s (Breaks breach) in
      let same : (stream : ℕ) → items known stream (Breached breach ∷ t) ≡ items known stream t = λ stream. sym (items_stay known stream t (Breached breach) refl) in
      let owes : (o : Opened) → owed o (Breached breach ∷ t) s.due ≡ owed o t s.due = λ o. none_owed o (Breached breach ∷ t) s.due come.nothing ∙ sym (none_owed o t s.due come.nothing) in record {
        same_due = refl;
        due = none_due known (Breached breach ∷ t) u.live u.due come.nothing;
        same = refl;
        same_opens = refl;
        same_sent = λ o. refl;
        same_owed = owes;
        same_items = same;
        still_shut = λ k e. e;
        count = refl;
        held = on_way (Breached breach) u refl refl same refl (λ o. ap (λ xs. sent_for o t ++ xs) (owes o));
        keeps = keeps_same known t (Breached breach) s.live (λ k on. breach_leaves known t k breach) (λ k on. on) (λ ends. absurd (not_to_end come ends)) (inr (none_to_close come)) h.keeps;
        goes = λ x. x;
        in_time = λ x. x;
        let_go = let_go_left known t _ s h (λ ends. absurd (not_to_end come ends)) (λ k shut there. breach_leaves known t k breach);
        closes = λ x. x;
        shut = h.shut;
      }

  -- an event of no upstream
  pub notes : (event : Event) → MayCome told s → upstream_of event ≡ 0 → IsPassing known t (Happened event) s (after known.setup behind s (Notes event))
  notes event come zero =
      let u = after known.setup behind s (Notes event) in
      let owes : (o : Opened) → owed o (Happened event ∷ t) s.due ≡ owed o t s.due = λ o. none_owed o (Happened event ∷ t) s.due come.nothing ∙ sym (none_owed o t s.due come.nothing) in record {
        same_due = refl;
        due = none_due known (Happened event ∷ t) u.live u.due come.nothing;
        same = refl;
        same_opens = refl;
        same_sent = λ o. refl;
        same_owed = owes;
        same_items = same;
        still_shut = still_shut t event;
        count = refl;
        held = on_way (Happened event) u refl refl same refl (λ o. ap (λ xs. sent_for o t ++ xs) (owes o));
        keeps = keeps_same known t (Happened event) s.live (λ k on. event_leaves known t k event (of_none k (open_exchange k t on))) opened_before (λ ends. absurd (not_to_end come ends)) (inr (none_to_close come)) h.keeps;
        goes = λ x. x;
        in_time = λ x. x;
        let_go = let_go_left known t _ s h (λ ends. absurd (not_to_end come ends)) (λ k shut there. event_leaves known t k event (of_none k there));
        closes = λ x. x;
        shut = h.shut;
      }
    where
      same : (stream : ℕ) → items known stream (Happened event ∷ t) ≡ items known stream t
      same stream = sym (items_stay known stream t (Happened event) refl)

      -- it is of no connection
      of_none : (k : ℕ) → IsIn (exchange_on k t) (exchanges t) → k ≡ upstream_of event → ⊥
      of_none k there e = none_zero t (exchange_on k t) h.numbered h.goes there (e ∙ zero)

      -- and opens none
      opened_before : (k : ℕ) → is_open k (Happened event ∷ t) ≡ true → is_open k t ≡ true
      opened_before k on = elim (cases_Bool (is_open k t)) [
        | inl was ↦ was
        | inr shut ↦ absurd (let clash : true ≡ false = sym on ∙ still_shut t event k shut in cc)
      ]
