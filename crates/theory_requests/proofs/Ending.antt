-- A request that goes out and isn't held was sent whole: its stream came to its end. One that is held wasn't.
use Rattle.std.proofs.Common.{◌≡◌, ℕ, Bool, true, false, ◌==◌, ◌&&◌, ◌||◌, List, [], ◌∷◌, ◌++◌, map, refl, sym, ap, ◌∙◌, subst, inl, inr, if◌then◌else◌, append-nil, arith}
use Rattle.std.specs.Prelude.{Option, Some, None, ◌⊎◌, is_none, option_map}
use Rattle.std.specs.List.{list_any}
use Rattle.std.proofs.lemmas.Bool.{cases_Bool, and_parts, ne_eqb}
use Rattle.std.proofs.lemmas.Bool.Decides.{eqb_tells}
use Rattle.std.proofs.lemmas.List.Folds.{list_any-append}
use Rattle.model.specs.Messages.{Item, Request, ends_with}
use Rattle.model.specs.Http1.{H1Request, forward}
use Rattle.model.specs.Logs.{Event}
use Rattle.model.specs.Logs.Event.{UpFailed}
use Rattle.model.specs.Logs.Act.{Open, ToUp, Close, CloseClient}
use Rattle.model.specs.Tapes.{Noted, Entry}
use Rattle.model.specs.Tapes.Entry.{Came, Breached, Happened, Sent, Did}
use Rattle.model.specs.Openings.{Opened, exchanges, exchange_on, last_stream, sent_for}
use Rattle.model.specs.Admission.{is_open}
use Rattle.model.specs.Available.{IsIn}
use Rattle.model.specs.Known.{Known}
use Rattle.model.specs.Lifetimes.{is_opened, is_active}
use Rattle.model.specs.Causes.{Cause}
use Rattle.model.specs.Courses.{items, cause}
use Rattle.model.specs.Offers.{IsGiven}
use Rattle.model.proofs.LifeLaws.{lost_stays}
use Rattle.model.proofs.DeliveryReadings.{one_connection}
use Rattle.model.proofs.ExchangeLaws.{another_on}
use Rattle.model.proofs.Http1Texts.{kept_reads}
use Rattle.model.proofs.ItemLaws.{items_stay}
use Rattle.h1_writer.specs.Sending.{Stage}
use Rattle.h1_writer.specs.Sending.Stage.{Whole}
use Rattle.theory_requests.specs.Written.{IsWritten}
use Rattle.theory_requests.specs.Told.{is_served, Told, IsTold}
use Rattle.theory_requests.specs.Lines.{Line, line_of}
use Rattle.theory_requests.specs.State.{Way, Held, id_of, held_of, with_way, held_at, held_with, held_opened, held_used, kept, drop_from, unless_whole, is_whole, State, Move, entry_of, after, Turn, state_of, tape_of}
use Rattle.theory_requests.specs.State.Way.{Waiting, Going, Dropped}
use Rattle.theory_requests.specs.State.Due.{Nothing}
use Rattle.theory_requests.specs.State.Move.{Takes, Begins, Gathers, Passes, Drops, Breaks, Notes, Hears, Fails, Sends, Acts}
use Rattle.theory_requests.specs.Rule.{MayMove, MayOpen, MayUse, told_of, AreAllowed}
use Rattle.theory_requests.specs.Meaning.{IsSo, AreSo}
use Rattle.theory_requests.specs.Connections.{IsRequestSent}
use Rattle.theory_requests.proofs.Lists.{find_first, find_map, held_beside}
use Rattle.theory_requests.proofs.Texts.{cases_stage, one_ends, whole_told, sent_whole}
use Rattle.theory_requests.proofs.Reasons.{cause_stays}
use Rattle.theory_requests.proofs.Frozen.{items_frozen}
use Rattle.theory_requests.proofs.Standing.{text_of, IsStarting, IsDue, IsWaiting, IsOnWay, Stands, some_items}
use Rattle.theory_requests.proofs.Streamed.{sent_all}
use Rattle.theory_requests.proofs.Closing.{found_exchange}
use Rattle.theory_requests.proofs.Numbers.{within_opened}
use Rattle.theory_requests.proofs.Passing.{none_owed}
use Rattle.theory_requests.proofs.Framing.{still_shut}
use Rattle.theory_requests.proofs.Starting.{part_reads_none}
use Rattle.theory_requests.proofs.Using as using
use Rattle.theory_requests.proofs.Going as going
use Rattle.theory_requests.proofs.Clauses.{all_stand}

-- ---- what was so before

-- a stream that is served was served before
served_before : (known : Known) (t : List Entry) (e : Entry) (stream : ℕ) → is_opened stream t ≡ true → is_served known stream (e ∷ t) ≡ true → is_served known stream t ≡ true
served_before known t e stream opened served = by (is_active stream t) refl (cause known stream t) refl
  where
    parts : (is_active stream (e ∷ t) ≡ true) × (is_none (cause known stream (e ∷ t)) ≡ true)
    parts = and_parts (is_active stream (e ∷ t)) (is_none (cause known stream (e ∷ t))) served

    by : (b : Bool) → is_active stream t ≡ b → (c : Option Cause) → cause known stream t ≡ c → (b && is_none c) ≡ true
    by false lost c found = absurd (let clash : true ≡ false = sym parts.0 ∙ lost_stays t e stream opened lost in cc)
    by true active (Some x) found = absurd (let clash : true ≡ false = sym parts.1 ∙ ap is_none (cause_stays known t e stream x found) in cc)
    by true active None found = refl

-- one of which nothing is held though it is served, had nothing held before others were let go
none_before : (told : Told) (stream : ℕ) (hs : List Held) → told.served stream ≡ true → held_of stream (kept told hs) ≡ None → held_of stream hs ≡ None
none_before told stream [] served none = refl
none_before told stream (h ∷ hs) served none = elim (eqb_tells h.id stream) [
  | inl same ↦ absurd (
      let on : told.served h.id ≡ true = ap told.served same.1 ∙ served in
      let clash : ◌≡◌ {A = Option Held} (Some h) None = sym (ap (λ b. if b then Some h else held_of stream (kept told hs)) same.0) ∙ sym (ap (λ b. held_of stream (if b then h ∷ kept told hs else kept told hs)) on) ∙ none in cc)
  | inr apart ↦ ap (λ b. if b then Some h else held_of stream hs) apart.0 ∙ none_before told stream hs served (by (told.served h.id) none)
]
  where
    by : (b : Bool) → held_of stream (if b then h ∷ kept told hs else kept told hs) ≡ None → held_of stream (kept told hs) ≡ None
    by true none = elim (eqb_tells h.id stream) [
      | inl same ↦ absurd (let clash : ◌≡◌ {A = Option Held} (Some h) None = sym (ap (λ b. if b then Some h else held_of stream (kept told hs)) same.0) ∙ none in cc)
      | inr apart ↦ sym (ap (λ b. if b then Some h else held_of stream (kept told hs)) apart.0) ∙ none
    ]
    by false none = none

-- nor before a connection was dropped
none_dropped : (k stream : ℕ) (hs : List Held) → held_of stream (map (drop_from k) hs) ≡ None → held_of stream hs ≡ None
none_dropped k stream hs none = by (held_of stream hs) refl (sym (find_map id_of (drop_from k) (λ h. refl) stream hs) ∙ none)
  where
    by : (o : Option Held) → held_of stream hs ≡ o → option_map (drop_from k) o ≡ None → held_of stream hs ≡ None
    by None is e = is
    by (Some h) is e = absurd (cc)

-- nothing is held of a stream: what it is on now is nothing
none_now : (id : ℕ) (way : Option Way) (hs : List Held) → held_of id (held_with id way hs) ≡ None → way ≡ None
none_now id None hs none = refl
none_now id (Some way) hs none = by (held_of id hs) refl none
  where
    by : (o : Option Held) → held_of id hs ≡ o → held_of id (held_at id way o hs) ≡ None → Some way ≡ None
    by None is none = absurd (let clash : ◌≡◌ {A = Option Held} (Some (record { id = id; way = way })) None = sym (find_first id_of id (record { id = id; way = way }) hs refl) ∙ none in cc)
    by (Some h) is none = absurd (let clash : ◌≡◌ {A = Option Held} (option_map (with_way id way) (Some h)) None = sym (ap (option_map (with_way id way)) is) ∙ sym (find_map id_of (with_way id way) (λ y. refl) id hs) ∙ none in cc)

-- so its text waits for nothing
whole_now : (stage : Stage) (way : Way) → unless_whole stage way ≡ None → is_whole stage ≡ true
whole_now stage way e = by (is_whole stage) e
  where
    by : (b : Bool) → (if b then None else Some way) ≡ None → b ≡ true
    by true e = refl
    by false e = absurd (cc)

-- ---- along moves

-- Each stream that is served, on a connection that is open, came to its end if nothing is held of it.
abbrev AreEnded : Known → List Entry → List Held → Type 0
AreEnded known t hs = (o : Opened) → IsIn o (exchanges t) → is_open o.k t ≡ true → is_served known o.stream t ≡ true → held_of o.stream hs ≡ None → list_any ends_with (items known o.stream t) ≡ true

module _ (known : Known) (t : List Entry) (s : State) (h : Stands known t s) (behind : Told) (was : AreEnded known t s.held) where
  -- so it stays where nothing was held before, and the connection was open
  ends_still : (e : Entry) (hs : List Held) → exchanges (e ∷ t) ≡ exchanges t → ((o : Opened) → IsIn o (exchanges t) → is_open o.k (e ∷ t) ≡ true → is_open o.k t ≡ true) → ((o : Opened) → IsIn o (exchanges t) → is_served known o.stream (e ∷ t) ≡ true → held_of o.stream hs ≡ None → held_of o.stream s.held ≡ None) → AreEnded known (e ∷ t) hs
  ends_still e hs same opened none o i on served held =
      let before = subst (IsIn o) same i in
      let ended = was o before (opened o before on) (served_before known t e o.stream (h.given o before).started served) (none o before served held) in
      ap (λ xs. list_any ends_with xs) (items_frozen known o.stream t e ended) ∙ ended

  -- a frame: of its own stream only what is to be shown
  ends_came : (noted : Noted) (hs : List Held) → ((stream : ℕ) → (noted.frame.id ≡ stream → ⊥) → held_of stream hs ≡ held_of stream s.held) → ((o : Opened) → IsIn o (exchanges t) → o.stream ≡ noted.frame.id → held_of noted.frame.id hs ≡ None → list_any ends_with (items known noted.frame.id (Came noted ∷ t)) ≡ true) → AreEnded known (Came noted ∷ t) hs
  ends_came noted hs others own o i on served held = elim (eqb_tells noted.frame.id o.stream) [
    | inl same ↦ subst (λ n. list_any ends_with (items known n (Came noted ∷ t)) ≡ true) same.1 (own o i (sym same.1) (ap (λ n. held_of n hs) same.1 ∙ held))
    | inr apart ↦ (
        let ended = was o i on (served_before known t (Came noted) o.stream (h.given o i).started served) (sym (others o.stream apart.1) ∙ held) in
        ap (λ xs. list_any ends_with xs) (items_frozen known o.stream t (Came noted) ended) ∙ ended)
  ]

  -- an exchange begins
  ends_started : (e : Entry) (hs : List Held) (new : Opened) (stream route : ℕ) (text : List ℕ) (stage : Stage) (idle : Option ℕ) → IsStarting known t s.live stream route text stage idle → new.stream ≡ stream → exchanges (e ∷ t) ≡ new ∷ exchanges t → ((other : ℕ) → items known other (e ∷ t) ≡ items known other t)
      → hs ≡ held_with stream (unless_whole stage (Going new.k stage)) s.held → ((o : Opened) → IsIn o (exchanges t) → is_open o.k (e ∷ t) ≡ true → is_open o.k t ≡ true) → AreEnded known (e ∷ t) hs
  ends_started e hs new stream route text stage idle due of_stream now same_items held_is opened o i on served held = by (subst (IsIn o) now i)
    where
      by : IsIn o (new ∷ exchanges t) → list_any ends_with (items known o.stream (e ∷ t)) ≡ true
      by (inl is) =
          let at : o.stream ≡ stream = ap (λ (x : Opened). x.stream) is ∙ of_stream in
          let whole : is_whole stage ≡ true = whole_now stage (Going new.k stage) (none_now stream (unless_whole stage (Going new.k stage)) s.held (ap (held_of stream) (sym held_is) ∙ ap (λ n. held_of n hs) (sym at) ∙ held)) in
          ap (λ xs. list_any ends_with xs) (same_items o.stream) ∙ ap (λ n. list_any ends_with (items known n t)) at ∙ one_ends (items known stream t) (due.written.ends (whole_told stage whole))
      by (inr old) =
          let apart : stream ≡ o.stream → ⊥ = λ same. due.none_given o (record { is_opened = old; is_given = sym same }) in
          ap (λ xs. list_any ends_with xs) (same_items o.stream)
          ∙ was o old (opened o old on) (served_before known t e o.stream (h.given o old).started served) (sym (held_beside stream o.stream (unless_whole stage (Going new.k stage)) s.held apart) ∙ ap (held_of o.stream) (sym held_is) ∙ held)

  -- ends with one more that ends
  with_last : (xs : List Item) (item : Item) → ends_with item ≡ true → list_any ends_with (xs ++ item ∷ []) ≡ true
  with_last xs item ends = list_any-append ends_with xs (item ∷ []) ∙ ap (λ b. list_any ends_with xs || (b || false)) ends ∙ by (list_any ends_with xs)
    where
      by : (b : Bool) → (b || (true || false)) ≡ true
      by true = refl
      by false = refl

  -- what is open behind an event was open before it
  opened_before : (event : Event) (k : ℕ) → is_open k (Happened event ∷ t) ≡ true → is_open k t ≡ true
  opened_before event k on = elim (cases_Bool (is_open k t)) [
    | inl was_open ↦ was_open
    | inr shut ↦ absurd (let clash : true ≡ false = sym on ∙ still_shut t event k shut in cc)
  ]

  -- and behind a close
  open_before_close : (k n : ℕ) → is_open n (Did (Close k) ∷ t) ≡ true → is_open n t ≡ true
  open_before_close k n on = by (n == k) on
    where
      by : (b : Bool) → (if b then false else is_open n t) ≡ true → is_open n t ≡ true
      by true e = absurd (let clash : false ≡ true = e in cc)
      by false e = e

  uses : (k : ℕ) (octets : List ℕ) → MayUse s k octets → AreEnded known (Did (ToUp k octets) ∷ t) (held_used s.due s.held)
  uses k [] may = absurd (using.used_some known t s h k [] may refl)
  uses k (octet ∷ octets) may =
      let due : (route : ℕ) × IsStarting known t s.live may.stream route (octet ∷ octets) may.stage (Some k) = subst (IsDue known t s.live) may.due h.due in
      ends_started (Did (ToUp k (octet ∷ octets))) (held_used s.due s.held) (another_on k t) may.stream due.0 (octet ∷ octets) may.stage (Some k) due.1 due.1.last (using.is_now known t s h k octet octets may) (λ other. sym (items_stay known other t (Did (ToUp k (octet ∷ octets))) refl)) (ap (λ d. held_used d s.held) may.due) (λ o i on. on)

  opens : (k route : ℕ) → MayOpen s k route → AreEnded known (Did (Open k route) ∷ t) (held_opened s.due k s.held)
  opens k route may =
      let due : IsStarting known t s.live may.stream route may.text may.stage None = subst (IsDue known t s.live) may.due h.due in
      ends_started (Did (Open k route)) (held_opened s.due k s.held) (record { k = k; route = route; stream = last_stream t }) may.stream route may.text may.stage None due due.last refl (λ other. sym (items_stay known other t (Did (Open k route)) refl)) (ap (λ d. held_opened d k s.held) may.due)
      (λ o i on. sym (ap (λ b. if b then true else is_open o.k t) (ne_eqb o.k k (λ same. let less = within_opened t o h.numbered h.goes i in let next = may.next in let count = h.count in omega (arith, less, next, count, same)))) ∙ on)

  ended_behind : (before : Told) (m : Move) → MayMove known.setup before behind s m → IsSo known t m → IsTold known (entry_of m ∷ t) behind → AreEnded known (entry_of m ∷ t) (after known.setup behind s m).held
  ended_behind before (Takes noted) may so is = ends_still (Came noted) (kept behind s.held) refl (λ o i on. on) (λ o i served none. none_before behind o.stream s.held (is.served o.stream ∙ served) none)
  ended_behind before (Begins noted head ended route text stage) may so is =
      ends_came noted _ (λ stream apart. held_beside noted.frame.id stream _ s.held apart)
      (λ o i same none. absurd (let g = h.given o i in some_items (items known o.stream t) g.head g.has_head (ap (λ n. items known n t) same ∙ so.0)))
  ended_behind before (Gathers noted item route text old body written stage) may so is =
      let w : IsWaiting known t noted.frame.id route text old body = h.held noted.frame.id (record { id = noted.frame.id; way = Waiting route text old body }) may.1.found in
      ends_came noted _ (λ stream apart. held_beside noted.frame.id stream _ s.held apart) (λ o i same none. absurd (w.none_given o (record { is_opened = i; is_given = same })))
  ended_behind before (Passes noted item k old written stage) may so is =
      ends_came noted _ (λ stream apart. held_beside noted.frame.id stream _ s.held apart)
      (λ o i same none. ap (λ xs. list_any ends_with xs) so.adds ∙ with_last (items known noted.frame.id t) item (sym may.1.whole ∙ whole_now stage (Going k stage) (none_now noted.frame.id (unless_whole stage (Going k stage)) s.held none)))
  ended_behind before (Drops noted item) may so is =
      ends_came noted s.held (λ stream apart. refl) (λ o i same none. absurd (let clash : ◌≡◌ {A = Option Held} None (Some (record { id = noted.frame.id; way = Dropped })) = sym none ∙ may.1.found in cc))
  ended_behind before (Breaks breach) may so is = ends_still (Breached breach) s.held refl (λ o i on. on) (λ o i served none. none)
  ended_behind before (Notes event) may so is = ends_still (Happened event) s.held refl (λ o i on. opened_before event o.k on) (λ o i served none. none)
  ended_behind before (Hears event heard) may so is = ends_still (Happened event) (kept behind s.held) refl (λ o i on. opened_before event o.k on) (λ o i served none. none_before behind o.stream s.held (is.served o.stream ∙ served) none)
  ended_behind before (Fails k) may so is =
      ends_still (Happened (UpFailed k)) (kept behind (map (drop_from k) s.held)) refl (λ o i on. opened_before (UpFailed k) o.k on)
      (λ o i served none. none_dropped k o.stream s.held (none_before behind o.stream (map (drop_from k) s.held) (is.served o.stream ∙ served) none))
  ended_behind before (Sends noted) may so is = ends_still (Sent noted) (kept behind s.held) refl (λ o i on. on) (λ o i served none. none_before behind o.stream s.held (is.served o.stream ∙ served) none)
  ended_behind before (Acts (Open k route)) may so is = opens k route may
  ended_behind before (Acts (ToUp k octets)) may so is = elim may [
    | inl sends ↦ ends_still (Did (ToUp k octets)) (held_used s.due s.held) (going.same known t s h k octets sends) (λ o i on. on) (λ o i served none. ap (λ d. held_of o.stream (held_used d s.held)) (sym sends) ∙ none)
    | inr used ↦ uses k octets used
  ]
  ended_behind before (Acts (Close k)) may so is = ends_still (Did (Close k)) (map (drop_from k) s.held) refl (λ o i on. open_before_close k o.k on) (λ o i served none. none_dropped k o.stream s.held none)
  ended_behind before (Acts CloseClient) may so is = λ o i on served none. absurd (let l = h.keeps.all o.k on in let clash : ◌≡◌ {A = Option Line} None (Some l.0) = ap (line_of o.k) (sym may.none) ∙ l.1 in cc)

all_ended : (known : Known) (turns : List Turn) → AreAllowed known.setup turns → AreSo known turns → AreEnded known (tape_of turns) (state_of known.setup turns).held
all_ended known [] all so = λ o i on served none. absurd i
all_ended known (turn ∷ turns) all so =
    ended_behind known (tape_of turns) (state_of known.setup turns) (all_stand known turns all.0 so.0) turn.told (all_ended known turns all.0 so.0) (told_of turns) turn.move all.1.may so.1 so.2

-- ---- what was sent

module _ (known : Known) (turns : List Turn) (all : AreAllowed known.setup turns) (so : AreSo known turns) (nothing : (state_of known.setup turns).due ≡ Nothing) (k : ℕ) (line : Line) (found : line_of k (state_of known.setup turns).live ≡ Some line) where
  abbrev t : List Entry
  t = tape_of turns

  abbrev s : State
  s = state_of known.setup turns

  h : Stands known t s
  h = all_stand known turns all so

  its : IsGiven t line.stream (exchange_on k t)
  its = found_exchange known t s h k line found

  on : is_open k t ≡ true
  on = (h.keeps.are_so k line found).opened

  -- where nothing is held of its stream, which is served, the request was sent whole
  pub request_sent : is_served known line.stream t ≡ true → held_of line.stream s.held ≡ None → IsRequestSent known t k
  request_sent served none =
      let o = exchange_on k t in
      let ended = all_ended known turns all so o its.is_opened on (ap (λ n. is_served known n t) its.is_given ∙ served) (ap (λ n. held_of n s.held) its.is_given ∙ none) in
      let w = (sent_all known t s h nothing o its.is_opened).writes on in
      by w.0 w.1 ended (cases_stage w.0)
    where
      by : (stage : Stage) → IsWritten known.setup.keep (items known (exchange_on k t).stream t) (sent_for (exchange_on k t) t) stage → list_any ends_with (items known (exchange_on k t).stream t) ≡ true → (stage ≡ Whole) ⊎ (stage ≡ Whole → ⊥) → IsRequestSent known t k
      by stage w ended (inl whole) =
          let all_of_it = sent_whole known.setup.keep (items known (exchange_on k t).stream t) (sent_for (exchange_on k t) t) stage w whole in
          record { request = all_of_it.request; means = all_of_it.means; reads = kept_reads known.setup.keep (sent_for (exchange_on k t) t) (forward all_of_it.request) all_of_it.reads }
      by stage w ended (inr part) = absurd (let clash : true ≡ false = sym ended ∙ w.goes_on part in cc)

  -- where something is held of it, it wasn't
  pub request_unsent : (x : Held) → held_of line.stream s.held ≡ Some x → (request : Request) → H1Request (sent_for (exchange_on k t) t) request → ⊥
  request_unsent x held request reads = by x.way (h.held line.stream x held)
    where
      by : (way : Way) → IsOnWay known t s line.stream way → ⊥
      by (Waiting route text stage body) w = w.none_given (exchange_on k t) its
      by (Going j stage) w =
          let same : exchange_on k t ≡ w.o = one_connection (exchanges t) (exchange_on k t) w.o h.apart its.is_opened w.given.is_opened (its.is_given ∙ sym w.given.is_given) in
          let text : sent_for (exchange_on k t) t ≡ text_of w.o t s.due = ap (λ o. sent_for o t) same ∙ sym (ap (λ x. sent_for w.o t ++ x) (none_owed w.o t s.due nothing) ∙ append-nil (sent_for w.o t)) in
          part_reads_none known.setup.keep (items known line.stream t) (text_of w.o t s.due) stage w.written w.part request (subst (λ x. H1Request x request) text reads)
      by Dropped w =
          let same : exchange_on k t ≡ w.o = one_connection (exchanges t) (exchange_on k t) w.o h.apart its.is_opened w.given.is_opened (its.is_given ∙ sym w.given.is_given) in
          let clash : ◌≡◌ {A = Option Line} None (Some line) = sym w.gone ∙ ap (λ (o : Opened). line_of o.k s.live) (sym same) ∙ found in cc
