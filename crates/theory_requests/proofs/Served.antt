-- What is held is held for streams that are served: each once, so of no more than are active.
use Rattle.std.proofs.Common.{◌≡◌, ℕ, zero, suc, ◌+◌, ◌≤◌, Bool, true, false, not, ◌==◌, ◌&&◌, ◌||◌, List, [], ◌∷◌, ◌++◌, length, map, filter, refl, sym, ap, ◌∙◌, subst, inl, inr, if◌then◌else◌, arith}
use Rattle.std.specs.Prelude.{Option, Some, None, is_none, nat_lt, option_map}
use Rattle.std.specs.List.{list_any}
use Rattle.std.proofs.lemmas.Bool.{and_parts, ne_eqb, eq-eqb}
use Rattle.std.proofs.lemmas.Bool.Decides.{eqb_tells}
use Rattle.model.specs.Messages.{Item}
use Rattle.model.specs.Frames.{goaway_kind}
use Rattle.model.specs.Setup.{Setup, own_window}
use Rattle.model.specs.Logs.Act.{Open, ToUp, Close, CloseClient}
use Rattle.model.specs.Tapes.{Noted, Breach, Entry, is_closed}
use Rattle.model.specs.Tapes.Entry.{Came, Breached, Happened, Sent, Did}
use Rattle.model.specs.Logs.{Event, Act}
use Rattle.model.specs.Openings.{given, exchanges}
use Rattle.model.specs.Known.{Known}
use Rattle.model.specs.Lifetimes.{opened, active, is_opened, is_over, is_active}
use Rattle.model.specs.Causes.{Cause}
use Rattle.model.specs.ErrorTable.{fault_with}
use Rattle.model.specs.Courses.{course, carried, cause, cause_at, first_of_both, about}
use Rattle.model.proofs.ActiveLaws.{active_came}
use Rattle.theory_requests.proofs.Numbers.{zero_given}
use Rattle.h1_writer.specs.Sending.{Stage}
use Rattle.theory_requests.specs.Told.{is_served, Told, IsTold}
use Rattle.theory_requests.specs.Lines.{without, Line, k_of, line_of, least_idle, lines_opened}
use Rattle.theory_requests.specs.Lines.Answer.{Pending}
use Rattle.theory_requests.specs.State.{Way, Held, id_of, held_of, with_way, held_at, held_with, held_opened, held_used, held_after, kept, drop_from, live_acted, live_after, Due, to_open, to_send, due_opened, due_after, is_whole, goes_now, State, Move, entry_of, after, Turn, state_of, tape_of}
use Rattle.theory_requests.specs.State.Way.{Going}
use Rattle.theory_requests.specs.State.Due.{Nothing, ToOpen, ToUse, ToSend}
use Rattle.theory_requests.specs.State.Move.{Takes, Begins, Gathers, Passes, Drops, Breaks, Notes, Hears, Fails, Sends, Acts}
use Rattle.theory_requests.specs.Rule.{IsServing, MayPass, MayOpen, MayUse, MayMove, told_of, AreAllowed}
use Rattle.theory_requests.specs.Meaning.{AreSo}
use Rattle.theory_requests.specs.Held.{AreApart}
use Rattle.theory_requests.proofs.Lists.{find_first, find_other, find_map, held_beside}
use Rattle.theory_requests.proofs.Standing.{IsStarting, IsDue, IsGoing, Stands}
use Rattle.theory_requests.proofs.Goaways.{served_same}
use Rattle.theory_requests.proofs.Framing.{held_kept}
use Rattle.theory_requests.proofs.Closing.{drop_found}
use Rattle.theory_requests.proofs.Clauses.{all_stand, all_told}

-- ---- entries of other streams

-- a stream that an entry isn't about is answered for no new cause
cause_stays : (known : Known) (t : List Entry) (e : Entry) (stream : ℕ) → (about t e == stream && nat_lt 0 stream) ≡ false → cause known stream (e ∷ t) ≡ cause known stream t
cause_stays known t e stream none =
    ap (λ b. first_of_both (cause known stream t) (if b then cause_at known (course known stream t) t e (fault_with (own_window known.setup) (carried (course known stream t)) t e) else None)) none ∙ no_other (cause known stream t)
  where
    no_other : (c : Option Cause) → first_of_both c None ≡ c
    no_other None = refl
    no_other (Some c) = refl

-- an entry that is about none is about no stream
about_none : (n stream : ℕ) → n ≡ 0 → (n == stream && nat_lt 0 stream) ≡ false
about_none n stream none = ap (λ m. m == stream && nat_lt 0 stream) none ∙ by stream
  where
    by : (m : ℕ) → (0 == m && nat_lt 0 m) ≡ false
    by zero = refl
    by (suc m) = ap (λ b. b && nat_lt 0 (suc m)) (ne_eqb 0 (suc m) (λ e. omega (arith, e)))

-- a frame of another stream leaves it served or not
pub served_came : (known : Known) (t : List Entry) (noted : Noted) (stream : ℕ) → (noted.frame.id ≡ stream → ⊥) → is_served known stream (Came noted ∷ t) ≡ is_served known stream t
served_came known t noted stream apart =
    ap (λ b. b && is_none (cause known stream (Came noted ∷ t))) (active_came t noted stream apart)
    ∙ ap (λ c. is_active stream t && is_none c) (cause_stays known t (Came noted) stream (ap (λ b. b && nat_lt 0 stream) (ne_eqb noted.frame.id stream apart)))

-- so does what is neither a frame nor about a stream
served_breached : (known : Known) (t : List Entry) (breach : Breach) (stream : ℕ) → is_served known stream (Breached breach ∷ t) ≡ is_served known stream t
served_breached known t breach stream = ap (λ c. is_active stream t && is_none c) (cause_stays known t (Breached breach) stream (about_none 0 stream refl))

served_noted : (known : Known) (t : List Entry) (event : Event) (stream : ℕ) → about t (Happened event) ≡ 0 → is_served known stream (Happened event ∷ t) ≡ is_served known stream t
served_noted known t event stream none = ap (λ c. is_active stream t && is_none c) (cause_stays known t (Happened event) stream (about_none (about t (Happened event)) stream none))

pub served_acted : (known : Known) (t : List Entry) (act : Act) (stream : ℕ) → is_served known stream (Did act ∷ t) ≡ is_served known stream t
served_acted known t act stream = ap (λ c. is_active stream t && is_none c) (cause_stays known t (Did act) stream (about_none 0 stream refl))

-- ---- each move

-- All that is held is of streams that are served.
abbrev pub AllServed : Known → List Entry → List Held → Type 0
AllServed known t hs = (stream : ℕ) (x : Held) → held_of stream hs ≡ Some x → is_served known stream t ≡ true

module _ (known : Known) (t : List Entry) (s : State) (h : Stands known t s) (behind : Told) (was : AllServed known t s.held) where
  -- what is held no longer of streams that aren't served
  those_kept : (e : Entry) (hs : List Held) → IsTold known (e ∷ t) behind → AllServed known (e ∷ t) (kept behind hs)
  those_kept e hs is_behind stream x found = sym (is_behind.served stream) ∙ (held_kept behind stream hs x found).1

  -- what is held of a frame's own stream changes
  with_own : (noted : Noted) → IsServing behind noted → IsTold known (Came noted ∷ t) behind → (way : Option Way) → AllServed known (Came noted ∷ t) (held_with noted.frame.id way s.held)
  with_own noted serving is_behind way stream x found = elim (eqb_tells noted.frame.id stream) [
    | inl same ↦ subst (λ n. is_served known n (Came noted ∷ t) ≡ true) same.1 (sym (is_behind.served noted.frame.id) ∙ serving.served)
    | inr apart ↦ served_came known t noted stream apart.1 ∙ was stream x (sym (held_beside noted.frame.id stream way s.held apart.1) ∙ found)
  ]

  -- nothing that is held changes
  with_none : (noted : Noted) → IsServing behind noted → IsTold known (Came noted ∷ t) behind → AllServed known (Came noted ∷ t) s.held
  with_none noted serving is_behind stream x found = elim (eqb_tells noted.frame.id stream) [
    | inl same ↦ subst (λ n. is_served known n (Came noted ∷ t) ≡ true) same.1 (sym (is_behind.served noted.frame.id) ∙ serving.served)
    | inr apart ↦ served_came known t noted stream apart.1 ∙ was stream x found
  ]

  -- a connection is opened
  opens_one : (k route : ℕ) → MayOpen s k route → AllServed known (Did (Open k route) ∷ t) (held_opened s.due k s.held)
  opens_one k route may = subst (λ d. AllServed known (Did (Open k route) ∷ t) (held_opened d k s.held)) (sym may.due) with_it
    where
      due : IsStarting known t s.live may.stream route may.text may.stage None
      due = subst (IsDue known t s.live) may.due h.due

      own : is_served known may.stream t ≡ true
      own = ap (λ b. b && is_none (cause known may.stream t)) due.in_time.active ∙ ap is_none due.in_time.no_cause

      with_it : AllServed known (Did (Open k route) ∷ t) (held_opened (ToOpen may.stream route may.text may.stage) k s.held)
      with_it stream x found = served_acted known t (Open k route) stream ∙ (elim (eqb_tells may.stream stream) [
        | inl same ↦ subst (λ n. is_served known n t ≡ true) same.1 own
        | inr apart ↦ was stream x (sym (held_beside may.stream stream _ s.held apart.1) ∙ found)
      ])

  -- an idle one is used
  uses_one : (k : ℕ) (octets : List ℕ) → MayUse s k octets → AllServed known (Did (ToUp k octets) ∷ t) (held_used s.due s.held)
  uses_one k octets may = subst (λ d. AllServed known (Did (ToUp k octets) ∷ t) (held_used d s.held)) (sym may.due) with_it
    where
      due : (route : ℕ) × IsStarting known t s.live may.stream route octets may.stage (Some k)
      due = subst (IsDue known t s.live) may.due h.due

      own : is_served known may.stream t ≡ true
      own = ap (λ b. b && is_none (cause known may.stream t)) due.1.in_time.active ∙ ap is_none due.1.in_time.no_cause

      with_it : AllServed known (Did (ToUp k octets) ∷ t) (held_used (ToUse k may.stream octets may.stage) s.held)
      with_it stream x found = served_acted known t (ToUp k octets) stream ∙ (elim (eqb_tells may.stream stream) [
        | inl same ↦ subst (λ n. is_served known n t ≡ true) same.1 own
        | inr apart ↦ was stream x (sym (held_beside may.stream stream _ s.held apart.1) ∙ found)
      ])

  served_behind : (before : Told) (m : Move) → MayMove known.setup before behind s m → IsTold known (entry_of m ∷ t) behind → AllServed known (entry_of m ∷ t) (held_after known.setup behind s.held s.due m)
  served_behind before (Takes noted) may is = those_kept (Came noted) s.held is
  served_behind before (Begins noted head ended route text stage) may is = with_own noted may.1.serving is _
  served_behind before (Gathers noted item route text old body written stage) may is = with_own noted may.1.serving is _
  served_behind before (Passes noted item k old written stage) may is = with_own noted may.1.serving is _
  served_behind before (Drops noted item) may is = with_none noted may.1.serving is
  served_behind before (Breaks breach) may is = λ stream x found. served_breached known t breach stream ∙ was stream x found
  served_behind before (Notes event) may is = λ stream x found. served_noted known t event stream (ap (λ n. given n (exchanges t)) may.1 ∙ zero_given t h.numbered h.goes) ∙ was stream x found
  served_behind before (Hears event heard) may is = those_kept (Happened event) s.held is
  served_behind before (Fails k) may is = those_kept (entry_of (Fails k)) (map (drop_from k) s.held) is
  served_behind before (Sends noted) may is = those_kept (Sent noted) s.held is
  served_behind before (Acts (Open k route)) may is = opens_one k route may
  served_behind before (Acts (ToUp k octets)) may is = elim may [
    | inl sends ↦ (λ stream x found. served_acted known t (ToUp k octets) stream ∙ was stream x (ap (λ d. held_of stream (held_used d s.held)) (sym sends) ∙ found))
    | inr used ↦ uses_one k octets used
  ]
  served_behind before (Acts (Close k)) may is = λ stream x found. served_acted known t (Close k) stream ∙ (let old = drop_found k stream s.held x found in was stream old.0 old.1)
  served_behind before (Acts CloseClient) may is = λ stream x found. absurd (cc)

-- Each stream of which something is held is served.
pub held_served : (known : Known) (turns : List Turn) → AreAllowed known.setup turns → AreSo known turns → AllServed known (tape_of turns) (state_of known.setup turns).held
held_served known [] all so = λ stream x found. absurd (cc)
held_served known (turn ∷ turns) all so =
    served_behind known (tape_of turns) (state_of known.setup turns) (all_stand known turns all.0 so.0) turn.told (held_served known turns all.0 so.0) (told_of turns) turn.move all.1.may so.2

-- ---- what is due

-- What is due is due for a stream that is served.
abbrev pub DueServed : Known → List Entry → List Line → Due → Type 0
DueServed known t ls Nothing = Unit {0}
DueServed known t ls (ToOpen stream route text stage) = is_served known stream t ≡ true
DueServed known t ls (ToUse k stream text stage) = is_served known stream t ≡ true
DueServed known t ls (ToSend k text) = (l : Line) → line_of k ls ≡ Some l → is_served known l.stream t ≡ true

module _ (known : Known) (t : List Entry) (s : State) (h : Stands known t s) (behind : Told) (was : DueServed known t s.live s.due) where
  -- a connection is due for a frame's own stream, or none
  opens_served : (noted : Noted) → IsServing behind noted → IsTold known (Came noted ∷ t) behind → (ls : List Line) (goes : Bool) (idle : Option ℕ) (route : ℕ) (text : List ℕ) (stage : Stage) → DueServed known (Came noted ∷ t) ls (to_open goes idle noted.frame.id route text stage)
  opens_served noted serving is_behind ls true None route text stage = sym (is_behind.served noted.frame.id) ∙ serving.served
  opens_served noted serving is_behind ls true (Some k) route text stage = sym (is_behind.served noted.frame.id) ∙ serving.served
  opens_served noted serving is_behind ls false idle route text stage = tt

  -- a request goes out on its stream's connection
  passes_served : (noted : Noted) (item : Item) (k : ℕ) (old : Stage) (written : List ℕ) (stage : Stage) → MayPass behind s noted item k old written stage → IsTold known (Came noted ∷ t) behind → DueServed known (Came noted ∷ t) s.live (to_send k written)
  passes_served noted item k old written stage may is_behind = by written
    where
      w : IsGoing known t s noted.frame.id k old
      w = h.held noted.frame.id (record { id = noted.frame.id; way = Going k old }) may.found

      on_it : (l : Line) → line_of k s.live ≡ Some l → is_served known l.stream (Came noted ∷ t) ≡ true
      on_it l found =
          let both : Some w.line.0 ≡ Some l = sym w.line.1 ∙ found in
          let is : w.line.0 ≡ l = cc in
          let same : l.stream ≡ noted.frame.id = ap (λ (x : Line). x.stream) (sym is) ∙ w.line.2 in
          subst (λ n. is_served known n (Came noted ∷ t) ≡ true) (sym same) (sym (is_behind.served noted.frame.id) ∙ may.serving.served)

      by : (octets : List ℕ) → DueServed known (Came noted ∷ t) s.live (to_send k octets)
      by [] = tt
      by (octet ∷ octets) = on_it

  -- a connection is opened, and then its text is due
  opened_served : (k route : ℕ) → MayOpen s k route → DueServed known (Did (Open k route) ∷ t) (live_acted s.live s.due (Open k route)) (due_opened s.due k)
  opened_served k route may = subst (λ d. DueServed known (Did (Open k route) ∷ t) (live_acted s.live d (Open k route)) (due_opened d k)) (sym may.due) with_it
    where
      due : IsStarting known t s.live may.stream route may.text may.stage None
      due = subst (IsDue known t s.live) may.due h.due

      with_it : (l : Line) → line_of k (lines_opened k route may.stream s.live) ≡ Some l → is_served known l.stream (Did (Open k route) ∷ t) ≡ true
      with_it l found =
          let new : Line = record { k = k; route = route; stream = may.stream; answer = Pending } in
          let both : Some new ≡ Some l = sym (find_first k_of k new s.live refl) ∙ found in
          let is : new ≡ l = cc in
          subst (λ (x : Line). is_served known x.stream (Did (Open k route) ∷ t) ≡ true) is
          (served_acted known t (Open k route) may.stream ∙ (ap (λ b. b && is_none (cause known may.stream t)) due.in_time.active ∙ ap is_none due.in_time.no_cause))

  nothing_served : (e : Entry) (ls : List Line) (due : Due) → due ≡ Nothing → DueServed known (e ∷ t) ls due
  nothing_served e ls due none = subst (DueServed known (e ∷ t) ls) (sym none) tt

  -- a GOAWAY changes no stream
  still_served : (noted : Noted) → noted.frame.kind ≡ goaway_kind → (due : Due) → DueServed known t s.live due → DueServed known (Sent noted ∷ t) s.live due
  still_served noted goaway Nothing is = tt
  still_served noted goaway (ToOpen stream route text stage) is = served_same known t noted goaway stream ∙ is
  still_served noted goaway (ToUse k stream text stage) is = served_same known t noted goaway stream ∙ is
  still_served noted goaway (ToSend k text) is = λ l found. served_same known t noted goaway l.stream ∙ is l found

  due_served_behind : (before : Told) (m : Move) → MayMove known.setup before behind s m → IsTold known (entry_of m ∷ t) behind → DueServed known (entry_of m ∷ t) (live_after known.setup s.live s.due m) (due_after known.setup s.live s.due m)
  due_served_behind before (Takes noted) may is = nothing_served (Came noted) _ s.due may.nothing
  due_served_behind before (Begins noted head ended route text stage) may is = opens_served noted may.1.serving is s.live (goes_now known.setup stage) (least_idle route s.live) route text stage
  due_served_behind before (Gathers noted item route text old body written stage) may is = opens_served noted may.1.serving is s.live (is_whole stage) (least_idle route s.live) route (text ++ written) stage
  due_served_behind before (Passes noted item k old written stage) may is = passes_served noted item k old written stage may.1 is
  due_served_behind before (Drops noted item) may is = nothing_served (Came noted) _ s.due may.0.nothing
  due_served_behind before (Breaks breach) may is = nothing_served (Breached breach) _ s.due may.nothing
  due_served_behind before (Notes event) may is = nothing_served (Happened event) _ s.due may.0.nothing
  due_served_behind before (Hears event heard) may is = nothing_served (Happened event) _ s.due may.0.nothing
  due_served_behind before (Fails k) may is = nothing_served (entry_of (Fails k)) _ s.due may.0.nothing
  due_served_behind before (Sends noted) may is = elim may [
    | inl nothing ↦ nothing_served (Sent noted) _ s.due nothing
    | inr goaway ↦ still_served noted goaway.0 s.due was
  ]
  due_served_behind before (Acts (Open k route)) may is = opened_served k route may
  due_served_behind before (Acts (ToUp k octets)) may is = tt
  due_served_behind before (Acts (Close k)) may is = nothing_served (Did (Close k)) _ s.due may.nothing
  due_served_behind before (Acts CloseClient) may is = nothing_served (Did CloseClient) _ s.due may.nothing

-- What is due is due for a stream that is served.
pub due_served : (known : Known) (turns : List Turn) → AreAllowed known.setup turns → AreSo known turns → DueServed known (tape_of turns) (state_of known.setup turns).live (state_of known.setup turns).due
due_served known [] all so = tt
due_served known (turn ∷ turns) all so = due_served_behind known (tape_of turns) (state_of known.setup turns) (all_stand known turns all.0 so.0) turn.told (due_served known turns all.0 so.0) (told_of turns) turn.move all.1.may so.2

-- ---- behind the client's close

-- Nothing is held there.
pub none_behind_close : (known : Known) (turns : List Turn) → AreAllowed known.setup turns → AreSo known turns → is_closed (tape_of turns) ≡ true → ((state_of known.setup turns).held ≡ []) × ((state_of known.setup turns).due ≡ Nothing)
none_behind_close known [] all so closed = absurd (cc)
none_behind_close known (turn ∷ turns) all so closed = by turn.move all.1.may closed
  where
    going : is_closed (tape_of turns) ≡ true → ⊥
    going shut = let clash : false ≡ true = sym all.1.open_yet ∙ (all_told known turns so.0).closed ∙ shut in cc

    by : (m : Move) → MayMove known.setup (told_of turns) turn.told (state_of known.setup turns) m → is_closed (entry_of m ∷ tape_of turns) ≡ true
        → ((after known.setup turn.told (state_of known.setup turns) m).held ≡ []) × ((after known.setup turn.told (state_of known.setup turns) m).due ≡ Nothing)
    by (Acts CloseClient) may shut = (refl, may.nothing)
    by (Acts (Open k route)) may shut = absurd (going shut)
    by (Acts (ToUp k octets)) may shut = absurd (going shut)
    by (Acts (Close k)) may shut = absurd (going shut)
    by (Takes noted) may shut = absurd (going shut)
    by (Begins noted head ended route text stage) may shut = absurd (going shut)
    by (Gathers noted item route text old body written stage) may shut = absurd (going shut)
    by (Passes noted item k old written stage) may shut = absurd (going shut)
    by (Drops noted item) may shut = absurd (going shut)
    by (Breaks breach) may shut = absurd (going shut)
    by (Notes event) may shut = absurd (going shut)
    by (Hears event heard) may shut = absurd (going shut)
    by (Fails k) may shut = absurd (going shut)
    by (Sends noted) may shut = absurd (going shut)

-- ---- each once

-- what isn't found
not_found : (o : Option Held) → ((x : Held) → o ≡ Some x → ⊥) → o ≡ None
not_found None none = refl
not_found (Some x) none = absurd (none x refl)

apart_kept : (told : Told) (hs : List Held) → AreApart hs → AreApart (kept told hs)
apart_kept told [] apart = tt
apart_kept told (h ∷ hs) apart = by (told.served h.id) (apart_kept told hs apart.1)
  where
    by : (b : Bool) → AreApart (kept told hs) → AreApart (if b then h ∷ kept told hs else kept told hs)
    by true more = (not_found (held_of h.id (kept told hs)) (λ x found. let clash : ◌≡◌ {A = Option Held} None (Some x) = sym apart.0 ∙ (held_kept told h.id hs x found).0 in cc), more)
    by false more = more

pub apart_without : (n : ℕ) (hs : List Held) → AreApart hs → AreApart (without id_of n hs)
apart_without n [] apart = tt
apart_without n (h ∷ hs) apart = elim (eqb_tells h.id n) [
  | inl same ↦ subst (λ b. AreApart (if b then without id_of n hs else h ∷ without id_of n hs)) (sym same.0) (apart_without n hs apart.1)
  | inr other ↦ subst (λ b. AreApart (if b then without id_of n hs else h ∷ without id_of n hs)) (sym other.0) (find_other id_of n h.id hs (λ e. other.1 (sym e)) ∙ apart.0, apart_without n hs apart.1)
]

-- what is held of each may change
apart_changed : (f : Held → Held) → ((h : Held) → (f h).id ≡ h.id) → (hs : List Held) → AreApart hs → AreApart (map f hs)
apart_changed f keeps [] apart = tt
apart_changed f keeps (h ∷ hs) apart = (ap (λ n. held_of n (map f hs)) (keeps h) ∙ find_map id_of f keeps h.id hs ∙ ap (option_map f) apart.0, apart_changed f keeps hs apart.1)

pub apart_with : (id : ℕ) (way : Option Way) (hs : List Held) → AreApart hs → AreApart (held_with id way hs)
apart_with id None hs apart = apart_without id hs apart
apart_with id (Some way) hs apart = by (held_of id hs) refl
  where
    by : (o : Option Held) → held_of id hs ≡ o → AreApart (held_at id way o hs)
    by None none = (none, apart)
    by (Some h) was = apart_changed (with_way id way) (λ y. refl) hs apart

apart_dropped : (k : ℕ) (hs : List Held) → AreApart hs → AreApart (map (drop_from k) hs)
apart_dropped k hs apart = apart_changed (drop_from k) (λ x. refl) hs apart

apart_opened : (due : Due) (k : ℕ) (hs : List Held) → AreApart hs → AreApart (held_opened due k hs)
apart_opened Nothing k hs apart = apart
apart_opened (ToOpen stream route text stage) k hs apart = apart_with stream _ hs apart
apart_opened (ToUse j stream text stage) k hs apart = apart
apart_opened (ToSend j text) k hs apart = apart

apart_used : (due : Due) (hs : List Held) → AreApart hs → AreApart (held_used due hs)
apart_used Nothing hs apart = apart
apart_used (ToOpen stream route text stage) hs apart = apart
apart_used (ToUse k stream text stage) hs apart = apart_with stream _ hs apart
apart_used (ToSend k text) hs apart = apart

apart_behind : (setup : Setup) (behind : Told) (s : State) (m : Move) → AreApart s.held → AreApart (held_after setup behind s.held s.due m)
apart_behind setup behind s (Takes noted) apart = apart_kept behind s.held apart
apart_behind setup behind s (Begins noted head ended route text stage) apart = apart_with noted.frame.id _ s.held apart
apart_behind setup behind s (Gathers noted item route text old body written stage) apart = apart_with noted.frame.id _ s.held apart
apart_behind setup behind s (Passes noted item k old written stage) apart = apart_with noted.frame.id _ s.held apart
apart_behind setup behind s (Drops noted item) apart = apart
apart_behind setup behind s (Breaks breach) apart = apart
apart_behind setup behind s (Notes event) apart = apart
apart_behind setup behind s (Hears event heard) apart = apart_kept behind s.held apart
apart_behind setup behind s (Fails k) apart = apart_kept behind (map (drop_from k) s.held) (apart_dropped k s.held apart)
apart_behind setup behind s (Sends noted) apart = apart_kept behind s.held apart
apart_behind setup behind s (Acts (Open k route)) apart = apart_opened s.due k s.held apart
apart_behind setup behind s (Acts (ToUp k octets)) apart = apart_used s.due s.held apart
apart_behind setup behind s (Acts (Close k)) apart = apart_dropped k s.held apart
apart_behind setup behind s (Acts CloseClient) apart = tt

-- No stream is held twice, whatever moves come.
pub held_apart : (setup : Setup) (turns : List Turn) → AreApart (state_of setup turns).held
held_apart setup [] = tt
held_apart setup (turn ∷ turns) = apart_behind setup turn.told (state_of setup turns) turn.move (held_apart setup turns)

-- ---- no more than there are active streams

-- the id is among these
abbrev pub is_among : ℕ → List ℕ → Bool
is_among n ids = list_any (λ id. id == n) ids

among_filter : (p : ℕ → Bool) (n : ℕ) (ids : List ℕ) → p n ≡ true → is_among n ids ≡ true → is_among n (filter p ids) ≡ true
among_filter p n [] passes there = there
among_filter p n (id ∷ ids) passes there = elim (eqb_tells id n) [
  | inl same ↦ subst (λ b. is_among n (if b then id ∷ filter p ids else filter p ids) ≡ true) (sym (ap p same.1 ∙ passes)) (ap (λ b. b || is_among n (filter p ids)) same.0)
  | inr apart ↦ by (p id) (among_filter p n ids passes (sym (ap (λ b. b || is_among n ids) apart.0) ∙ there))
]
  where
    by : (b : Bool) → is_among n (filter p ids) ≡ true → is_among n (if b then id ∷ filter p ids else filter p ids) ≡ true
    by false more = more
    by true more = or_more (id == n) more
      where
        or_more : (a : Bool) → is_among n (filter p ids) ≡ true → (a || is_among n (filter p ids)) ≡ true
        or_more true e = refl
        or_more false e = e

-- without one that is there the list is shorter
shorter : (n : ℕ) (ids : List ℕ) → length (filter (λ id. not (id == n)) ids) ≤ length ids
shorter n [] = omega arith
shorter n (id ∷ ids) = by (id == n) (shorter n ids)
  where
    by : (b : Bool) → length (filter (λ id. not (id == n)) ids) ≤ length ids → length (if not b then id ∷ filter (λ id. not (id == n)) ids else filter (λ id. not (id == n)) ids) ≤ suc (length ids)
    by true more = omega (arith, more)
    by false more = omega (arith, more)

one_less : (n : ℕ) (ids : List ℕ) → is_among n ids ≡ true → length (filter (λ id. not (id == n)) ids) + 1 ≤ length ids
one_less n [] there = absurd (cc)
one_less n (id ∷ ids) there = by (id == n) there (one_less n ids)
  where
    by : (b : Bool) → (b || is_among n ids) ≡ true → (is_among n ids ≡ true → length (filter (λ id. not (id == n)) ids) + 1 ≤ length ids)
        → length (if not b then id ∷ filter (λ id. not (id == n)) ids else filter (λ id. not (id == n)) ids) + 1 ≤ suc (length ids)
    by true e more = let less = shorter n ids in omega (arith, less)
    by false e more = let less = more e in omega (arith, less)

-- streams that are apart and among these are no more than these
pub no_more : (hs : List Held) (ids : List ℕ) → AreApart hs → ((stream : ℕ) (x : Held) → held_of stream hs ≡ Some x → is_among stream ids ≡ true) → length hs ≤ length ids
no_more [] ids apart among = omega arith
no_more (h ∷ hs) ids apart among =
    let less = one_less h.id ids (among h.id h (ap (λ b. if b then Some h else held_of h.id hs) (eq-eqb h.id h.id refl))) in
    let rest = no_more hs (filter (λ id. not (id == h.id)) ids) apart.1 still in
    omega (arith, less, rest)
  where
    still : (stream : ℕ) (x : Held) → held_of stream hs ≡ Some x → is_among stream (filter (λ id. not (id == h.id)) ids) ≡ true
    still stream x found =
        let other : h.id ≡ stream → ⊥ = λ same. let clash : ◌≡◌ {A = Option Held} None (Some x) = sym (ap (λ n. held_of n hs) (sym same) ∙ apart.0) ∙ found in cc in
        among_filter (λ id. not (id == h.id)) stream ids (ap not (ne_eqb stream h.id (λ e. other (sym e)))) (among stream x (ap (λ b. if b then Some h else held_of stream hs) (ne_eqb h.id stream other) ∙ found))

-- a stream that is active is among the active ones
pub among_active : (stream : ℕ) (t : List Entry) → is_active stream t ≡ true → is_among stream (active t) ≡ true
among_active stream t is = let parts = and_parts (is_opened stream t) (not (is_over stream t)) is in among_filter (λ id. not (is_over id t)) stream (opened t) parts.1 parts.0

-- Of no more streams something is held than are active.
pub held_few : (known : Known) (turns : List Turn) → AreAllowed known.setup turns → AreSo known turns → length (state_of known.setup turns).held ≤ length (active (tape_of turns))
held_few known turns all so =
    no_more (state_of known.setup turns).held (active (tape_of turns)) (held_apart known.setup turns)
    (λ stream x found. among_active stream (tape_of turns) (and_parts (is_active stream (tape_of turns)) (is_none (cause known stream (tape_of turns))) (held_served known turns all so stream x found)).0)
