-- Frames that add an item to their stream.
use Rattle.std.proofs.Common.{append-nil, ◌≡◌, ℕ, Bool, true, false, not, ◌==◌, ◌||◌, ◌&&◌, List, [], ◌∷◌, ◌++◌, refl, sym, ap, ◌∙◌, subst, inl, inr, if◌then◌else◌, append_assoc}
use Rattle.std.specs.Prelude.{Option, Some, None, ◌⊎◌, is_none}
use Rattle.std.specs.List.{list_any}
use Rattle.std.proofs.lemmas.Bool.{eq-eqb, ne_eqb, cases_Bool, and_from, and_parts, and_right}
use Rattle.std.proofs.lemmas.Bool.Decides.{eqb_tells}
use Rattle.model.specs.Messages.{Field, Item, Request, ends_with}
use Rattle.model.specs.Messages.Item.{Block, Content}
use Rattle.model.specs.Http2.{HasHead, body_of, H2Request, MayBecome, authority_of, path_of}
use Rattle.model.specs.Malformed.{carried_by}
use Rattle.model.specs.Setup.{Passing, IsFirstMatch}
use Rattle.model.specs.Setup.Passing.{Whole as WholePassing, Streaming}
use Rattle.model.specs.Tapes.{Noted, Entry, came}
use Rattle.model.specs.Tapes.Entry.{Came}
use Rattle.model.specs.Decoding.{completed}
use Rattle.model.specs.Streams.{frame_items, items_of}
use Rattle.model.specs.Openings.{Opened, exchanges, sent_for}
use Rattle.model.specs.Admission.{is_open}
use Rattle.model.specs.Available.{IsIn}
use Rattle.model.specs.Known.{Known}
use Rattle.model.specs.Lifetimes.{ends_by, is_active, is_ended_by_client}
use Rattle.model.specs.Causes.{Cause}
use Rattle.model.specs.Courses.{items, cause}
use Rattle.model.specs.Offers.{IsGiven}
use Rattle.model.specs.RequestClause.{MayBeServed}
use Rattle.model.specs.ProgressClause.{is_first_end, was_cut, had_closed}
use Rattle.model.proofs.DeliveryReadings.{one_connection}
use Rattle.h1_writer.specs.Sending.{Stage}
use Rattle.theory_requests.specs.Written.{octets_of, trailers_in, IsWritten, IsAwaited}
use Rattle.theory_requests.specs.Told.{Told, IsTold}
use Rattle.theory_requests.specs.Lines.{Answer, Line, line_of, is_finished, least_idle}
use Rattle.theory_requests.specs.Lines.Answer.{Pending, Idle, Done}
use Rattle.theory_requests.specs.Pool.{Answers, Keeps}
use Rattle.theory_requests.specs.State.{Way, Held, held_of, held_with, waits_from, unless_whole, goes_now, is_streaming, is_whole, to_begin, to_open, to_send, Due, State, after}
use Rattle.theory_requests.specs.State.Way.{Waiting, Going, Dropped}
use Rattle.theory_requests.specs.State.Due.{Nothing, ToOpen, ToUse, ToSend}
use Rattle.theory_requests.specs.State.Move.{Begins, Gathers, Passes, Drops}
use Rattle.theory_requests.specs.Rule.{MayCome, IsServing, MayBegin, IsGathered, MayGather, MayPass, MayDrop}
use Rattle.theory_requests.specs.Meaning.{Brings}
use Rattle.model.proofs.ItemLaws.{ends_tell, added_ends, none_ended}
use Rattle.model.proofs.ItemLaws.{is_interrupted}
use Rattle.theory_requests.proofs.Lists.{held_now, held_beside}
use Rattle.theory_requests.proofs.Texts.{no_request, part_tells, whole_told, one_ends}
use Rattle.theory_requests.proofs.Bringing.{IsGood, is_good}
use Rattle.theory_requests.proofs.Writing.{body_append, head_written, item_written, head_awaited, item_gathered, item_completes, may_go_on}
use Rattle.theory_requests.proofs.Pool.{none_finished}
use Rattle.theory_requests.proofs.Leaving.{came_leaves}
use Rattle.model.specs.WindowsOnTape.{is_on, data_octets}
use Rattle.theory_requests.proofs.Bare.{none_with_head}
use Rattle.model.specs.Spelling.{IsSpelled}
use Rattle.theory_requests.proofs.Spelled.{spelled_more}
use Rattle.theory_requests.proofs.Standing.{IsSentWhole, IsSentInPart, owed, text_of, IsInPart, IsSent, Given, IsDueFor, Fares, IsStarting, IsDue, IsOnWay, IsWaiting, IsGoing, IsDropped, Stands, Steps, had_closed_in, has_head_stays}
use Rattle.theory_requests.proofs.Passing.{items_beside, begun_on, let_go_left, none_owed, none_due, sent_same, fares_same, way_same}
use Rattle.theory_requests.proofs.Framing.{not_to_end, none_to_close, came_keeps}
use Rattle.theory_requests.proofs.Starting.{sent_written, going_not_kept}

-- ---- a part stays one

-- a request that longer items may become, the shorter ones may
may_back : (b : Bool) (xs ys : List Item) (head : List Field) (request : Request) → HasHead xs head → MayBecome (if b then xs else xs ++ ys) request → MayBecome xs request
may_back true xs ys head request has may = may
may_back false [] ys head request has may = absurd has
may_back false (Content octets ends ∷ xs) ys head request has may = absurd has
may_back false (Block fields ends ∷ xs) ys head request has may = record {
  head = may.head;
  has_head = may.has_head;
  begun = record { rest = body_of ys ++ may.begun.rest; is = may.begun.is ∙ ap (λ l. l ++ may.begun.rest) (body_append xs ys) ∙ append_assoc (body_of xs) (body_of ys) may.begun.rest };
  length_holds = may.length_holds;
  trailers = may.trailers;
  well_formed = may.well_formed;
  is = may.is;
}

-- a part of a request is one of what it may become
part_stays : (keep b : Bool) (xs ys : List Item) (head : List Field) (text : List ℕ) (request : Request) → HasHead xs head → MayBecome (if b then xs else xs ++ ys) request → IsSentInPart keep text xs → IsSentInPart keep text (if b then xs else xs ++ ys)
part_stays keep b xs ys head text request has some p = record { some = (request, some); reads = p.reads; goes_on = λ r may. p.goes_on r (may_back b xs ys head r has may); in_chunks = p.in_chunks }

-- ---- what is due

-- nothing is due to an exchange of another stream than the last frame's
owed_beside : (o : Opened) (t : List Entry) (noted : Noted) (due : Due) → (noted.frame.id ≡ o.stream → ⊥) → owed o (Came noted ∷ t) due ≡ []
owed_beside o t noted Nothing apart = refl
owed_beside o t noted (ToOpen stream route text stage) apart = refl
owed_beside o t noted (ToUse k stream text stage) apart = refl
owed_beside o t noted (ToSend k text) apart = ap (λ b. if o.k == k && b then text else []) (ne_eqb o.stream noted.frame.id (λ e. apart (sym e))) ∙ ap (λ b. if b then text else []) (and_right (o.k == k) false refl)

-- octets that are due to the exchange of its stream
owed_own : (o : Opened) (t : List Entry) (noted : Noted) (octets : List ℕ) → o.stream ≡ noted.frame.id → owed o (Came noted ∷ t) (to_send o.k octets) ≡ octets
owed_own o t noted [] same = refl
owed_own o t noted (octet ∷ octets) same = ap (λ b. if b && o.stream == noted.frame.id then octet ∷ octets else []) (eq-eqb o.k o.k refl) ∙ ap (λ b. if b then octet ∷ octets else []) (eq-eqb o.stream noted.frame.id same)

-- a text that begins an exchange is due for its stream
due_for_it : (idle : Option ℕ) (stream route : ℕ) (text : List ℕ) (stage : Stage) → IsDueFor (to_begin idle stream route text stage) stream
due_for_it None stream route text stage = refl
due_for_it (Some k) stream route text stage = refl

due_to_begin : (known : Known) (t : List Entry) (ls : List Line) (stream route : ℕ) (text : List ℕ) (stage : Stage) (idle : Option ℕ) → IsStarting known t ls stream route text stage idle → IsDue known t ls (to_begin idle stream route text stage)
due_to_begin known t ls stream route text stage None starts = starts
due_to_begin known t ls stream route text stage (Some k) starts = (route, starts)

-- requests that wait are passed on whole
waits_whole : (passing : Passing) (b : Bool) → (is_streaming passing || b) ≡ false → (passing ≡ WholePassing) × (b ≡ false)
waits_whole WholePassing b e = (refl, e)
waits_whole Streaming b e = absurd (cc)

-- requests that go out where they are passed on whole are whole
goes_whole : (passing : Passing) (b : Bool) → (is_streaming passing || b) ≡ true → passing ≡ WholePassing → b ≡ true
goes_whole WholePassing b e same = e
goes_whole Streaming b e same = absurd (cc)

-- a stream that is served is active, and isn't answered
none_answered : (c : Option Cause) → is_none c ≡ true → c ≡ None
none_answered None e = refl
none_answered (Some c) e = absurd (cc)

module _ (known : Known) (t : List Entry) (s : State) (h : Stands known t s) (told behind : Told) (is_told : IsTold known t told) (come : MayCome told s) (noted : Noted) (item : Item) (brings : Brings known t noted item) (serving : IsServing behind noted) (is_behind : IsTold known (Came noted ∷ t) behind) where
  abbrev pub e : Entry
  e = Came noted

  abbrev pub id : ℕ
  id = noted.frame.id

  served : (is_active id (e ∷ t) ≡ true) × (cause known id (e ∷ t) ≡ None)
  served =
      let parts = and_parts (is_active id (e ∷ t)) (is_none (cause known id (e ∷ t))) (sym (is_behind.served id) ∙ serving.served) in
      (parts.0, none_answered (cause known id (e ∷ t)) parts.1)

  -- a connection may be opened for it, once its text is whole or where requests are passed on as they come
  in_time : (text : List ℕ) (stage : Stage) → IsWritten known.setup.keep (items known id (e ∷ t)) text stage → (known.setup.passing ≡ WholePassing → is_whole stage ≡ true) → MayBeServed known (e ∷ t) id
  in_time text stage written ready = record {
    active = served.0;
    no_cause = served.1;
    goes_on = sym is_behind.ends ∙ serving.goes_on;
    whole = λ passing. one_ends (items known id (e ∷ t)) (written.ends (whole_told stage (ready passing)));
  }

  good : IsGood known.setup (carried_by (items known id t) false) item
  good = is_good known t noted item brings serving.counted served.1

  text_beside : (due : Due) → (o : Opened) → (id ≡ o.stream → ⊥) → text_of o (e ∷ t) due ≡ text_of o t s.due
  text_beside due o apart = ap (λ x. sent_for o t ++ x) (owed_beside o t noted due apart) ∙ sym (ap (λ x. sent_for o t ++ x) (none_owed o t s.due come.nothing))

  sent_beside : (due : Due) → (o : Opened) → IsIn o (exchanges t) → Given known t s.due o → (id ≡ o.stream → ⊥) → IsSent known (e ∷ t) (text_of o (e ∷ t) due) o
  sent_beside due o i g apart =
      subst (λ x. IsSent known (e ∷ t) x o) (sym (text_beside due o apart)) (sent_same known t e o (text_of o t s.due) i (items_beside known t noted o.stream apart) (λ shut. shut) g.sent)

  -- What is to be shown of the frame's own stream.
  record Own (u : State) : Type 0 where
    same_count : u.count ≡ s.count
    same_live : u.live ≡ s.live
    sent : (o : Opened) → IsIn o (exchanges t) → Given known t s.due o → id ≡ o.stream → IsSent known (e ∷ t) (text_of o (e ∷ t) u.due) o
    held : (x : Held) → held_of id u.held ≡ Some x → IsOnWay known (e ∷ t) u id x.way
    held_others : (stream : ℕ) → (id ≡ stream → ⊥) → held_of stream u.held ≡ held_of stream s.held
    fares : Fares known (e ∷ t) u.due id
    is_due : IsDue known (e ∷ t) s.live u.due

  own_step : (u : State) → Own u → Steps known t e s u
  own_step u p = record {
    same = refl;
    same_opens = refl;
    count = p.same_count;
    sent = λ o i g. elim (eqb_tells id o.stream) [ inl same ↦ p.sent o i g same.1 | inr apart ↦ sent_beside u.due o i g apart.1 ];
    past = λ o i past. refl;
    fares = λ stream. elim (eqb_tells id stream) [
      | inl same ↦ subst (Fares known (e ∷ t) u.due) same.1 p.fares
      | inr apart ↦ fares_same known t e s.due u.due stream (λ due. absurd (subst (λ d. IsDueFor d stream) come.nothing due)) refl (items_beside known t noted stream apart.1) (h.fares stream)
    ];
    held = λ stream x found. elim (eqb_tells id stream) [
      | inl same ↦ subst (λ n. IsOnWay known (e ∷ t) u n x.way) same.1 (p.held x (ap (λ n. held_of n u.held) same.1 ∙ found))
      | inr apart ↦ way_same known t e s u stream x.way (items_beside known t noted stream apart.1) refl (λ o g. text_beside u.due o (λ same. apart.1 (same ∙ g.is_given))) (λ k stage is line. (line.0, ap (line_of k) p.same_live ∙ line.1, line.2)) (λ k none. ap (line_of k) p.same_live ∙ none) (h.held stream x (sym (p.held_others stream apart.1) ∙ found))
    ];
    due = subst (λ ls. IsDue known (e ∷ t) ls u.due) (sym p.same_live) p.is_due;
    keeps = subst (Keeps known (e ∷ t)) (sym p.same_live) (came_keeps known t s h told behind is_told noted come);
    goes = h.goes;
    in_time = h.in_time;
    let_go = let_go_left known t e s h (λ ends. absurd (not_to_end known t s h told behind is_told come ends)) (λ k shut there. came_leaves known t k noted (begun_on known t s h k there));
    closes = λ c. c;
    shut = λ closed. p.same_live ∙ h.shut closed;
  }

  -- ---- a request waits, or a connection is due for it

  module _ (route : ℕ) (head : List Field) (has_head : HasHead (items known id (e ∷ t)) head) (by_route : IsFirstMatch known.setup.routes (authority_of head) (path_of head) route) (none_given : (o : Opened) → IsGiven t id o → ⊥) where
    module _ (text : List ℕ) (stage : Stage) (body full : List ℕ) where
      -- the text and the body wait, or the full text goes out
      abbrev pub waiting_or : Bool → State
      waiting_or goes = record { held = held_with id (waits_from goes (Waiting route text stage body)) s.held; live = s.live; due = to_open goes (least_idle route s.live) id route full stage; count = s.count }

      none_of_id : (o : Opened) → IsIn o (exchanges t) → id ≡ o.stream → ⊥
      none_of_id o i same = none_given o (record { is_opened = i; is_given = sym same })

      opens_now : IsWritten known.setup.keep (items known id (e ∷ t)) full stage → (known.setup.passing ≡ WholePassing → is_whole stage ≡ true) → (known.setup.passing ≡ Streaming → data_octets (is_on id) (came (e ∷ t)) ≡ 0) → Steps known t e s (waiting_or true)
      opens_now written ready bare = own_step (waiting_or true) (record {
        same_count = refl;
        same_live = refl;
        sent = λ o i g same. absurd (none_of_id o i same);
        held = λ x found. absurd (let none : ◌≡◌ {A = Option Way} None (Some x.way) = held_now id None s.held x found in cc);
        held_others = λ stream apart. held_beside id stream None s.held apart;
        fares = inr (inl (due_for_it (least_idle route s.live) id route full stage));
        is_due = due_to_begin known (e ∷ t) s.live id route full stage (least_idle route s.live) (record {
          last = refl;
          none_given = λ o g. none_given o (record { is_opened = g.is_opened; is_given = g.is_given });
          written = written;
          head = head;
          has_head = has_head;
          by_route = by_route;
          in_time = in_time full stage written ready;
          bare = bare;
          none_finished = none_to_close known t s h told behind is_told come;
          least = refl;
        });
      })

      waits : IsAwaited known.setup.keep (items known id (e ∷ t)) text stage body → known.setup.passing ≡ WholePassing → Steps known t e s (waiting_or false)
      waits awaited whole_passing = own_step (waiting_or false) (record {
        same_count = refl;
        same_live = refl;
        sent = λ o i g same. absurd (none_of_id o i same);
        held = held;
        held_others = λ stream apart. held_beside id stream (Some (Waiting route text stage body)) s.held apart;
        fares = inl (record { no_request = λ request means. no_request (items known id (e ∷ t)) request awaited.goes_on means; no_head = λ streaming other has. (let clash : WholePassing ≡ Streaming = sym whole_passing ∙ streaming in cc) });
        is_due = tt;
      })
        where
          on_way : IsWaiting known (e ∷ t) id route text stage body
          on_way = record { whole_passing = whole_passing; awaited = awaited; head = head; has_head = has_head; by_route = by_route; none_given = λ o g. none_given o (record { is_opened = g.is_opened; is_given = g.is_given }) }

          held : (x : Held) → held_of id (held_with id (Some (Waiting route text stage body)) s.held) ≡ Some x → IsOnWay known (e ∷ t) (waiting_or false) id x.way
          held x found =
              let both : Some (Waiting route text stage body) ≡ Some x.way = held_now id (Some (Waiting route text stage body)) s.held x found in
              let same : Waiting route text stage body ≡ x.way = cc in
              subst (IsOnWay known (e ∷ t) (waiting_or false) id) same on_way

  -- ---- a head

  pub begins : (head : List Field) (ended : Bool) (route : ℕ) (text : List ℕ) (stage : Stage) → items known id t ≡ [] → item ≡ Block head ended → MayBegin known.setup behind noted head ended route text stage → Steps known t e s (after known.setup behind s (Begins noted head ended route text stage))
  begins head ended route text stage empty is may = by (goes_now known.setup stage) (waits_whole known.setup.passing (is_whole stage)) (goes_whole known.setup.passing (is_whole stage))
    where
      now : items known id (e ∷ t) ≡ Block head ended ∷ []
      now = brings.adds ∙ ap (λ xs. xs ++ item ∷ []) empty ∙ ap (λ x. x ∷ []) is

      is_good_head : IsGood known.setup (carried_by [] false) (Block head ended)
      is_good_head = subst (IsGood known.setup (carried_by [] false)) is (subst (λ xs. IsGood known.setup (carried_by xs false) item) empty good)

      written : IsWritten known.setup.keep (items known id (e ∷ t)) text stage
      written = subst (λ xs. IsWritten known.setup.keep xs text stage) (sym now) (head_written known.setup head ended text stage is_good_head may.sending may.whole)

      awaited : is_whole stage ≡ false → IsAwaited known.setup.keep (items known id (e ∷ t)) text stage []
      awaited part = subst (λ xs. IsAwaited known.setup.keep xs text stage []) (sym now) (head_awaited known.setup head ended text stage is_good_head may.sending may.whole part)

      has_head : HasHead (items known id (e ∷ t)) head
      has_head = subst (λ xs. HasHead xs head) (sym now) refl

      none_given : (o : Opened) → IsGiven t id o → ⊥
      none_given o g = let was = (h.given o g.is_opened).has_head in subst (λ xs. HasHead xs (h.given o g.is_opened).head) (ap (λ n. items known n t) g.is_given ∙ empty) was

      by : (goes : Bool) → (goes ≡ false → (known.setup.passing ≡ WholePassing) × (is_whole stage ≡ false)) → (goes ≡ true → known.setup.passing ≡ WholePassing → is_whole stage ≡ true)
          → Steps known t e s (waiting_or route head has_head may.by_route none_given text stage [] text goes)
      by true fine ready = opens_now route head has_head may.by_route none_given text stage [] text written (ready refl) (λ streaming. none_with_head known t noted head ended empty now)
      by false fine ready = waits route head has_head may.by_route none_given text stage [] text (awaited (fine refl).1) (fine refl).0

  -- ---- an item of a request that waits

  pub gathers : (route : ℕ) (text : List ℕ) (old : Stage) (body written : List ℕ) (stage : Stage) → MayGather behind s noted item route text old body written stage → Steps known t e s (after known.setup behind s (Gathers noted item route text old body written stage))
  gathers route text old body written stage may = by (ends_with item) refl may.gathered
    where
      w : IsWaiting known t id route text old body
      w = h.held id (record { id = id; way = Waiting route text old body }) may.found

      has_head : HasHead (items known id (e ∷ t)) w.head
      has_head = has_head_stays known t e id w.head w.has_head

      by : (ends : Bool) → ends_with item ≡ ends → IsGathered ends old (body ++ octets_of item) (trailers_in item) written stage → Steps known t e s (waiting_or route w.head has_head w.by_route w.none_given text stage (body ++ octets_of item) (text ++ written) (is_whole stage))
      by true ends g =
          subst (λ goes. Steps known t e s (waiting_or route w.head has_head w.by_route w.none_given text stage (body ++ octets_of item) (text ++ written) goes)) (sym g.1)
          (opens_now route w.head has_head w.by_route w.none_given text stage (body ++ octets_of item) (text ++ written)
          (subst (λ xs. IsWritten known.setup.keep xs (text ++ written) stage) (sym brings.adds) (item_completes known.setup (items known id t) text old body item written stage w.awaited good ends g.0 g.1))
          (λ passing. g.1) (λ streaming. absurd (let clash : WholePassing ≡ Streaming = sym w.whole_passing ∙ streaming in cc)))
      by false goes_on g =
          subst (λ behind. Steps known t e s (waiting_or route w.head has_head w.by_route w.none_given text behind (body ++ octets_of item) (text ++ written) (is_whole behind))) (sym g.1)
          (subst (λ goes. Steps known t e s (waiting_or route w.head has_head w.by_route w.none_given text old (body ++ octets_of item) (text ++ written) goes)) (sym (part_tells old w.awaited.part))
          (waits route w.head has_head w.by_route w.none_given text old (body ++ octets_of item) (text ++ written)
          (subst (λ xs. IsAwaited known.setup.keep xs text old (body ++ octets_of item)) (sym brings.adds) (item_gathered known.setup (items known id t) text old body item w.awaited good goes_on))
          w.whole_passing))

  -- ---- an item of a request that goes out

  abbrev pub passed : ℕ → Stage → List ℕ → Stage → State
  passed k old written stage = after known.setup behind s (Passes noted item k old written stage)

  pub passes : (k : ℕ) (old : Stage) (written : List ℕ) (stage : Stage) → MayPass behind s noted item k old written stage → Steps known t e s (after known.setup behind s (Passes noted item k old written stage))
  passes k old written stage may = own_step (passed k old written stage) (record {
    same_count = refl;
    same_live = refl;
    sent = sent;
    held = held;
    held_others = λ stream apart. held_beside id stream (unless_whole stage (Going k stage)) s.held apart;
    fares = inr (inr (w.o, record { is_opened = w.given.is_opened; is_given = w.given.is_given }));
    is_due = is_due written;
  })
    where
      w : IsGoing known t s id k old
      w = h.held id (record { id = id; way = Going k old }) may.found

      text_now : text_of w.o (e ∷ t) (to_send k written) ≡ text_of w.o t s.due ++ written
      text_now =
          ap (λ n. sent_for w.o t ++ owed w.o (e ∷ t) (to_send n written)) (sym w.number) ∙ ap (λ x. sent_for w.o t ++ x) (owed_own w.o t noted written w.given.is_given)
          ∙ ap (λ x. x ++ written) (sym (ap (λ x. sent_for w.o t ++ x) (none_owed w.o t s.due come.nothing) ∙ append-nil (sent_for w.o t)))

      now : IsWritten known.setup.keep (items known id (e ∷ t)) (text_of w.o (e ∷ t) (to_send k written)) stage
      now =
          subst (λ x. IsWritten known.setup.keep (items known id (e ∷ t)) x stage) (sym text_now)
          (subst (λ xs. IsWritten known.setup.keep xs (text_of w.o t s.due ++ written) stage) (sym brings.adds) (item_written known.setup (items known id t) (text_of w.o t s.due) old item written stage w.written w.part good may.continues may.whole))

      sent : (o : Opened) → IsIn o (exchanges t) → Given known t s.due o → id ≡ o.stream → IsSent known (e ∷ t) (text_of o (e ∷ t) (to_send k written)) o
      sent o i g same =
          let is : w.o ≡ o = one_connection (exchanges t) w.o o h.apart w.given.is_opened i (w.given.is_given ∙ same) in
          subst (λ (p : Opened). IsSent known (e ∷ t) (text_of p (e ∷ t) (to_send k written)) p) is
          (sent_written known (e ∷ t) w.o (text_of w.o (e ∷ t) (to_send k written)) stage (subst (λ n. IsWritten known.setup.keep (items known n (e ∷ t)) (text_of w.o (e ∷ t) (to_send k written)) stage) (sym w.given.is_given) now))

      -- its response isn't whole, or the connection would have been closed, or is idle
      pending : (a : Answer) → w.line.0.answer ≡ a → w.line.0.answer ≡ Pending
      pending Pending is = is
      pending Idle is =
          let so = h.keeps.are_so k w.line.0 w.line.1 in
          absurd (going_not_kept known t s h id k old w (none_owed w.o t s.due come.nothing) (so.stream ∙ w.line.2) (subst (Answers known t k) is so.answers))
      pending Done is = absurd (let clash : true ≡ false = sym (ap is_finished is) ∙ none_finished k s.live w.line.0 (none_to_close known t s h told behind is_told come) w.line.1 in cc)

      is_due : (octets : List ℕ) → IsDue known (e ∷ t) s.live (to_send k octets)
      is_due [] = tt
      is_due (octet ∷ octets) = record { line = w.line.0; found = w.line.1; stream = w.line.2; pending = pending w.line.0.answer refl; none_finished = none_to_close known t s h told behind is_told come }

      held : (x : Held) → held_of id (held_with id (unless_whole stage (Going k stage)) s.held) ≡ Some x → IsOnWay known (e ∷ t) (passed k old written stage) id x.way
      held x found = by (is_whole stage) refl (held_now id (unless_whole stage (Going k stage)) s.held x found)
        where
          by : (b : Bool) → is_whole stage ≡ b → (if b then None else Some (Going k stage)) ≡ Some x.way → IsOnWay known (e ∷ t) (passed k old written stage) id x.way
          by true whole e = absurd (cc)
          by false part e =
              let same : Going k stage ≡ x.way = cc in
              subst (IsOnWay known (Came noted ∷ t) (passed k old written stage) id) same (record { o = w.o; given = record { is_opened = w.given.is_opened; is_given = w.given.is_given }; number = w.number; line = w.line; written = now; part = part })

  -- ---- an item of a request that is dropped

  pub drops : MayDrop behind s noted → Steps known t e s (after known.setup behind s (Drops noted item))
  drops may = own_step s (record {
    same_count = refl;
    same_live = refl;
    sent = sent;
    held = held;
    held_others = λ stream apart. refl;
    fares = inr (inr (w.o, record { is_opened = w.given.is_opened; is_given = w.given.is_given }));
    is_due = none_due known (e ∷ t) s.live s.due come.nothing;
  })
    where
      w : IsDropped t s id
      w = h.held id (record { id = id; way = Dropped }) may.found

      held : (x : Held) → held_of id s.held ≡ Some x → IsOnWay known (e ∷ t) s id x.way
      held x found =
          let both : ◌≡◌ {A = Option Held} (Some (record { id = id; way = Dropped })) (Some x) = sym may.found ∙ found in
          let same : ◌≡◌ {A = Held} (record { id = id; way = Dropped }) x = cc in
          subst (λ (y : Held). IsOnWay known (e ∷ t) s id y.way) same (record { o = w.o; given = record { is_opened = w.given.is_opened; is_given = w.given.is_given }; gone = w.gone })

      none_before : list_any ends_with (items known id t) ≡ false
      none_before = none_ended known id t brings.goes_on

      shut : (o : Opened) → line_of o.k s.live ≡ None → is_open o.k t ≡ false
      shut o none = elim (cases_Bool (is_open o.k t)) [
        | inl on ↦ absurd (let l = h.keeps.all o.k on in let clash : ◌≡◌ {A = Option Line} None (Some l.0) = sym none ∙ l.1 in cc)
        | inr is ↦ is
      ]

      own : (text : List ℕ) → (o : Opened) → IsIn o (exchanges t) → Given known t s.due o → line_of o.k s.live ≡ None → id ≡ o.stream → IsSent known t text o → IsSent known (e ∷ t) text o
      own text o i g none same was = record { reads = elim was.reads [ inl whole ↦ by_whole whole | inr p ↦ by_part p ]; spelled = still_spelled; writes = λ opened. absurd (let clash : true ≡ false = sym opened ∙ shut o none in cc) }
        where
          still_spelled : IsSpelled known.setup.keep (items known o.stream (e ∷ t)) text
          still_spelled =
              subst (λ n. IsSpelled known.setup.keep (items known n (e ∷ t)) text) same
              (spelled_more known.setup.keep (is_interrupted known id t e) (items known id t) (items_of id t e) text (subst (λ n. IsSpelled known.setup.keep (items known n t) text) (sym same) was.spelled))

          by_whole : IsSentWhole known.setup.keep text (items known o.stream t) → IsSentWhole known.setup.keep text (items known o.stream (e ∷ t)) ⊎ IsInPart known (e ∷ t) text o
          by_whole whole = absurd (no_request (items known o.stream t) whole.request (subst (λ n. list_any ends_with (items known n t) ≡ false) same none_before) whole.means)

          ended_now : list_any ends_with (items known id (e ∷ t)) ≡ true → ends_by (completed (came t) noted.frame) noted.frame ≡ true
          ended_now now =
              let added : list_any ends_with (items_of id t e) ≡ true = added_ends (is_interrupted known id t e) (items known id t) (items_of id t e) none_before now in
              ends_tell (completed (came t) noted.frame) noted (sym (ap (λ b. list_any ends_with (if b then frame_items (completed (came t) noted.frame) noted else [])) (eq-eqb id id refl)) ∙ added)

          first_end : list_any ends_with (items known id (e ∷ t)) ≡ true → is_first_end o.stream t noted ≡ true
          first_end now =
              and_from (id == o.stream && ends_by (completed (came t) noted.frame) noted.frame) (not (is_ended_by_client o.stream t))
              (and_from (id == o.stream) (ends_by (completed (came t) noted.frame) noted.frame) (eq-eqb id o.stream same) (ended_now now))
              (ap not (subst (λ n. is_ended_by_client n t ≡ false) same brings.goes_on))

          cut : (request : Request) → H2Request (items known id (e ∷ t)) request → was_cut o.stream (e ∷ t) ≡ true
          cut request means = elim (cases_Bool (list_any ends_with (items known id (e ∷ t)))) [
            | inl now ↦ ap (λ b. if b then had_closed o.stream (exchanges t) t else was_cut o.stream t) (first_end now) ∙ had_closed_in o.stream (exchanges t) t o i refl (shut o none)
            | inr none ↦ absurd (no_request (items known id (e ∷ t)) request none means)
          ]

          here : HasHead (items known id t) g.head
          here = subst (λ n. HasHead (items known n t) g.head) (sym same) g.has_head

          by_part : IsInPart known t text o → IsSentWhole known.setup.keep text (items known o.stream (e ∷ t)) ⊎ IsInPart known (e ∷ t) text o
          by_part p = inr (record {
            part =
                let some = may_go_on known.setup (items known id t) g.head item here good in
                subst (λ n. IsSentInPart known.setup.keep text (items known n (e ∷ t))) same
                (part_stays known.setup.keep (is_interrupted known id t e) (items known id t) (items_of id t e) g.head text some.0 here (subst (λ xs. MayBecome xs some.0) (sym brings.adds) some.1) (subst (λ n. IsSentInPart known.setup.keep text (items known n t)) (sym same) p.part));
            cut = λ request means. (cut request (subst (λ n. H2Request (items known n (e ∷ t)) request) (sym same) means), shut o none);
          })

      same_text : (o : Opened) → text_of o (e ∷ t) s.due ≡ text_of o t s.due
      same_text o = ap (λ x. sent_for o t ++ x) (none_owed o (e ∷ t) s.due come.nothing) ∙ sym (ap (λ x. sent_for o t ++ x) (none_owed o t s.due come.nothing))

      sent : (o : Opened) → IsIn o (exchanges t) → Given known t s.due o → id ≡ o.stream → IsSent known (e ∷ t) (text_of o (e ∷ t) s.due) o
      sent o i g same =
          let is : w.o ≡ o = one_connection (exchanges t) w.o o h.apart w.given.is_opened i (w.given.is_given ∙ same) in
          subst (λ x. IsSent known (e ∷ t) x o) (sym (same_text o)) (own (text_of o t s.due) o i g (ap (λ (p : Opened). line_of p.k s.live) (sym is) ∙ w.gone) same g.sent)
