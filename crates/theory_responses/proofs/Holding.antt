-- What each outbox holds of octets is bounded: heads by what a response may have of them, bodies by their limit or by the room of
-- upstreams.
use Rattle.std.proofs.Common.{◌≡◌, ℕ, ◌+◌, ◌-◌, ◌*◌, ◌≤◌, Bool, true, false, ◌==◌, List, [], ◌∷◌, ◌++◌, length, drop, length-append, length-drop, refl, sym, ap, ◌∙◌, subst, inl, inr, arith, if◌then◌else◌}
use Rattle.std.specs.Prelude.{Option, Some, None, is_some, All, sum_by}
use Rattle.std.proofs.lemmas.List.{append-nil, length-map, length-reverse}
use Rattle.std.proofs.lemmas.List.Elements.{All-cons, All-nil, All-head, All-tail, All-push}
use Rattle.std.proofs.lemmas.List.Sums.{sum_by-le}
use Rattle.model.specs.ResponseHeads.{Head}
use Rattle.model.specs.Limits.{longest_section}
use Rattle.model.specs.Messages.{Field}
use Rattle.model.specs.Responses.{H1Response, IsComplete, Seen}
use Rattle.model.specs.Logs.{Event}
use Rattle.model.specs.Logs.Event.{Client, ClientEnd, ClientTook, Up, UpEnd, UpFailed, UpTook, Drain}
use Rattle.model.specs.Setup.{Setup, Passing}
use Rattle.model.specs.Setup.Passing.{Whole, Streaming}
use Rattle.model.specs.Tapes.{Entry, sent}
use Rattle.model.specs.Tapes.Entry.{Came, Breached, Happened, Sent, Did}
use Rattle.model.specs.Openings.{Opened, exchanges, given, exchange_on}
use Rattle.model.specs.Deliveries.{End, Delivery, ReadsAs}
use Rattle.model.specs.Available.{heard_by, ended_by, items_on, shown, IsShown}
use Rattle.model.specs.Admission.{room, is_open}
use Rattle.model.specs.WindowsOnTape.{is_on, data_octets}
use Rattle.model.specs.Rooms.{HasRoomBeside, IsRoom, FitsRoom}
use Rattle.model.proofs.PastLaws.{heard_own}
use Rattle.model.specs.Known.{Known}
use Rattle.model.specs.Causes.{Cause}
use Rattle.model.specs.Causes.Cause.{BadAnswer}
use Rattle.model.specs.Frames.{rst_stream_kind}
use Rattle.model.specs.Courses.{course, items, upstream_of}
use Rattle.model.specs.Offers.{is_to_head, IsGiven}
use Rattle.model.specs.Idle.{is_asked_for_head, IsIdle}
use Rattle.model.specs.Failures.{AreJudged}
use Rattle.model.specs.Lifetimes.{active}
use Rattle.model.proofs.DeliveryReadings.{one_connection}
use Rattle.theory_responses.specs.Outbox.{trailers_at, Outbox, silent, replied, offered_by, Fits, Part, left, rest_of, grown}
use Rattle.theory_responses.specs.Outbox.Outbox.{Before, Behind, Over}
use Rattle.theory_responses.specs.Outbox.Part.{Early, Final, Octets, Trailing}
use Rattle.theory_responses.specs.State.{Kept, State, Move, find, change, without, unless_over, told, gone, answered_box, answered, answered_if, blank, with_new, kept_after, entry_of, state_of}
use Rattle.theory_responses.specs.State.Move.{Takes, Breaks, Notes, Hears, Fails, Idles, Goes, Sends, Acts}
use Rattle.theory_responses.specs.Policy.{Neighbours, MayHear, Holds}
use Rattle.theory_responses.specs.Sight.{Sight}
use Rattle.theory_responses.specs.Rule.{MayCome, Seen as Step, moves_of, tape_of, sight_of, AllMayCome, AreRight, AreTold}
use Rattle.theory_responses.specs.Held.{octets_of_fields, trailers_waiting, head_octets, heads_waiting, body_waiting, octets_in, octets_held, most_heads, most_streamed, most_of_body, most_octets, FitRooms, AreUnpadded, AreLimited}
use Rattle.theory_responses.proofs.Parts.{none_behind, news_join, fits_grown}
use Rattle.theory_responses.proofs.Standing.{Stands}
use Rattle.theory_responses.proofs.Entries.{cause_stays, none_unless_fails, items_stay}
use Rattle.theory_responses.proofs.Offering.{IsHeld, IsKeptIf, Offering}
use Rattle.theory_responses.proofs.Allowing.{placed}
use Rattle.theory_responses.proofs.HeadSizes.{IsShort, HasFewHeads, shown_few}
use Rattle.theory_responses.proofs.BodySizes.{seen_grows, whole_seen}
use Rattle.theory_responses.proofs.SentOctets.{read_size, data_within}
use Rattle.theory_responses.proofs.Limits.{NoneTooLong, judged_before, none_too_long, seen_kept}
use Rattle.theory_responses.proofs.Counting.{are_of_active}

-- ---- what holds of each outbox

-- It holds of the outbox of each stream that is kept.
abbrev pub HoldsOfAll : (Outbox → Type 0) → List Kept → Type 0
HoldsOfAll P ks = All (λ (k : Kept). P k.box) ks

-- The news of the move leave it so.
abbrev pub LeavesNews : (Outbox → Type 0) → List Kept → Move → Type 0
LeavesNews P ks (Hears event stream news) = (k : Kept) → find stream ks ≡ Some k → P k.box → P (grown k.box news)
LeavesNews P ks _ = Unit {0}

module _ (P : Outbox → Type 0) (none : P silent) (reply : (cause : Cause) → P (replied cause)) (goes : (box : Outbox) (part : Part) → P box → P (left box part)) where
  abbrev Q : Kept → Type 0
  Q k = P k.box

  all_changed : (stream : ℕ) (f : Kept → Kept) (ks : List Kept) → ((k : Kept) → find stream ks ≡ Some k → P k.box → P (f k).box) → HoldsOfAll P ks → HoldsOfAll P (change stream f ks)
  all_changed stream f [] here all = All-nil Q
  all_changed stream f (k ∷ ks) here all =
      by (k.id == stream) refl (All-head Q k ks all) (All-tail Q k ks all)
      (λ same. all_changed stream f ks (λ other found. here other (ap (λ b. if b then Some k else find stream ks) same ∙ found)) (All-tail Q k ks all))
    where
      by : (b : Bool) → (k.id == stream) ≡ b → P k.box → HoldsOfAll P ks → ((k.id == stream) ≡ false → HoldsOfAll P (change stream f ks)) → HoldsOfAll P (if b then f k ∷ ks else k ∷ change stream f ks)
      by true same first others later = All-cons Q (f k) ks (here k (ap (λ b. if b then Some k else find stream ks) same) first) others
      by false same first others later = All-cons Q k (change stream f ks) first (later same)

  all_without : (stream : ℕ) (ks : List Kept) → HoldsOfAll P ks → HoldsOfAll P (without stream ks)
  all_without stream [] all = All-nil Q
  all_without stream (k ∷ ks) all = by (k.id == stream) (All-head Q k ks all) (all_without stream ks (All-tail Q k ks all))
    where
      by : (b : Bool) → P k.box → HoldsOfAll P (without stream ks) → HoldsOfAll P (if b then without stream ks else k ∷ without stream ks)
      by true first others = others
      by false first others = All-cons Q k (without stream ks) first others

  all_left : (over : Bool) (stream : ℕ) (ks : List Kept) → HoldsOfAll P ks → HoldsOfAll P (unless_over over stream ks)
  all_left true stream ks all = all_without stream ks all
  all_left false stream ks all = all

  all_new : (opens : Bool) (stream : ℕ) (ks : List Kept) → HoldsOfAll P ks → HoldsOfAll P (with_new opens stream ks)
  all_new true stream ks all = All-push Q ks (blank stream) all none
  all_new false stream ks all = all

  answered_so : (cause : Cause) (k : Kept) (box : Outbox) → P box → P (answered_box cause k box).box
  answered_so cause k (Before interims head body whole) p = reply cause
  answered_so cause k (Behind body whole) p = p
  answered_so cause k Over p = p

  answered_if_so : (caused : Option Cause) (k : Kept) → P k.box → P (answered_if caused k).box
  answered_if_so None k p = p
  answered_if_so (Some cause) k p = answered_so cause k k.box p

  -- Each move leaves it so, where its news do.
  pub all_behind : (ks : List Kept) (m : Move) → LeavesNews P ks m → HoldsOfAll P ks → HoldsOfAll P (kept_after ks m)
  all_behind ks (Takes noted c) news all =
      all_left c.over noted.frame.id (change noted.frame.id (answered_if c.caused) (with_new c.opens noted.frame.id ks))
      (all_changed noted.frame.id (answered_if c.caused) (with_new c.opens noted.frame.id ks) (λ k found p. answered_if_so c.caused k p) (all_new c.opens noted.frame.id ks all))
  all_behind ks (Breaks breach) news all = all
  all_behind ks (Notes event) news all = all
  all_behind ks (Hears event stream fresh) news all = all_changed stream (told fresh) ks news all
  all_behind ks (Fails event stream) news all = all_changed stream (answered BadAnswer) ks (λ k found p. answered_so BadAnswer k k.box p) all
  all_behind ks (Idles event) news all = all
  all_behind ks (Goes noted item part over) news all = all_left over noted.frame.id (change noted.frame.id (gone part) ks) (all_changed noted.frame.id (gone part) ks (λ k found p. goes k.box part p) all)
  all_behind ks (Sends noted) news all = all_left (noted.frame.kind == rst_stream_kind) noted.frame.id ks all
  all_behind ks (Acts act) news all = all

-- ---- what is heard

-- What was read with the outbox behind it is what is shown of the answer before the event, and not whole; with the news it is what
-- is shown behind it.
pub record Heard (known : Known) (t : List Entry) (event : Event) (stream : ℕ) (news : Delivery) (box : Outbox) : Type 0 where
  pub read : Delivery
  pub reads : ReadsAs (items_on stream (sent t)) read
  pub fits : Fits read box
  pub given : IsGiven t stream (exchange_on (upstream_of event) t)
  pub no_cause : (course known stream (Happened event ∷ t)).cause ≡ None
  pub before : IsShown known.setup.passing (heard_by (exchange_on (upstream_of event) t) t) (ended_by (exchange_on (upstream_of event) t) t) (is_to_head (items known stream t)) (offered_by read box)
  pub not_whole : (offered_by read box).ends ≡ None
  pub behind : IsShown known.setup.passing (heard_by (exchange_on (upstream_of event) t) (Happened event ∷ t)) (ended_by (exchange_on (upstream_of event) t) (Happened event ∷ t)) (is_to_head (items known stream t)) (offered_by read (grown box news))

module _ (known : Known) (t : List Entry) (event : Event) (stream : ℕ) (news : Delivery) (n : Neighbours known t) (may : MayHear known t event stream news) where
  abbrev newest : Opened
  newest = exchange_on (upstream_of event) t

  -- what stands there is shown of the connection's answer
  heard_of : (box : Outbox) → Stands known t stream box → Heard known t event stream news box
  heard_of box h = elim h.offer [
    | inl (inl r) ↦ absurd (let clash : ◌≡◌ {A = Option Cause} None (Some r.cause) = sym may.of.no_cause ∙ r.has_cause in cc)
    | inl (inr q) ↦ (
        let same : q.o ≡ newest = one_connection (exchanges t) q.o newest n.apart q.given.is_opened may.of.given.is_opened (q.given.is_given ∙ sym may.of.given.is_given) in
        let before : IsShown known.setup.passing (heard_by newest t) (ended_by newest t) (is_to_head (items known stream t)) (offered_by h.read box) =
        subst (λ (x : Opened). IsShown known.setup.passing (heard_by x t) (ended_by x t) (is_to_head (items known stream t)) (offered_by h.read box)) same q.shows in
        let not_whole = may.tells.not_whole (offered_by h.read box) before in
        record {
          read = h.read;
          reads = h.reads;
          fits = h.fits;
          given = may.of.given;
          no_cause = sym (cause_stays known stream t (Happened event) (none_unless_fails known stream t event may.sound)) ∙ may.of.no_cause;
          before = before;
          not_whole = not_whole;
          behind = subst (IsShown known.setup.passing (heard_by newest (Happened event ∷ t)) (ended_by newest (Happened event ∷ t)) (is_to_head (items known stream t)))
              (news_join h.read box news h.fits not_whole (may.tells.none_late (offered_by h.read box) before)) (may.tells.shows (offered_by h.read box) before);
        })
    | inr none ↦ absurd (none.no_connection newest may.of.given)
  ]

-- a stream that is found is active, and its record is held
found_held : (known : Known) (t : List Entry) (s : State) (stream : ℕ) (k : Kept) → Offering known t s → find stream s.kept ≡ Some k → IsHeld known t stream k
found_held known t s stream k h found = subst (IsKeptIf known t stream) found (h.kept stream (sym (h.lives stream) ∙ ap (λ o. is_some o) found))

-- Behind a move by the rule the news are heard so.
module _ (known : Known) (t : List Entry) (s : State) (before behind : Sight) (n : Neighbours known t) (h : Offering known t s) (P : Outbox → Type 0) where
  pub leaves_news : (m : Move) → Holds known t s m → MayCome before behind s m
      → ((event : Event) (stream : ℕ) (news : Delivery) (box : Outbox) → m ≡ Hears event stream news → Heard known t event stream news box → P box → P (grown box news)) → LeavesNews P s.kept m
  leaves_news (Hears event stream news) holds may by = λ k found p.
      let held : IsHeld known t stream k = found_held known t s stream k h found in
      by event stream news k.box refl (heard_of known t event stream news n holds k.box (held.stands (held.uncut holds.of.no_cause))) p
  leaves_news (Takes noted c) holds may by = tt
  leaves_news (Breaks breach) holds may by = tt
  leaves_news (Notes event) holds may by = tt
  leaves_news (Fails event stream) holds may by = tt
  leaves_news (Idles event) holds may by = tt
  leaves_news (Goes noted item part over) holds may by = tt
  leaves_news (Sends noted) holds may by = tt
  leaves_news (Acts act) holds may by = tt

-- ---- heads

-- Few heads wait, and each is short, and so are trailers.
pub record FewWait (box : Outbox) : Type 0 where
  pub few : length (heads_waiting box) ≤ most_heads
  pub short : All IsShort (heads_waiting box)
  pub trailers : octets_of_fields (trailers_waiting box) ≤ longest_section

short_behind : (xs ys : List Head) → All IsShort (xs ++ ys) → All IsShort ys
short_behind [] ys all = all
short_behind (x ∷ xs) ys all = short_behind xs ys (All-tail IsShort x (xs ++ ys) all)

no_heads : FewWait Over
no_heads = record { few = omega arith; short = All-nil IsShort; trailers = omega arith }

-- those that are offered, without those that were read
few_offered : (read : Delivery) (box : Outbox) → HasFewHeads (offered_by read box) → FewWait box
few_offered read (Before interims None body whole) h =
    let count : length (read.interims ++ interims) ≡ length read.interims + length interims = length-append read.interims interims in
    let few = h.few in
    record { few = omega (arith, count, few); short = short_behind read.interims interims h.short; trailers = h.trailers }
few_offered read (Before interims (Some final) body whole) h =
    let count : length (read.interims ++ interims) ≡ length read.interims + length interims = length-append read.interims interims in
    let one : length (interims ++ final ∷ []) ≡ length interims + 1 = length-append interims (final ∷ []) in
    let few = h.few in
    record { few = omega (arith, count, few, one); short = All-push IsShort interims final (short_behind read.interims interims h.short) h.final; trailers = h.trailers }
few_offered read (Behind body whole) h = record { few = omega arith; short = All-nil IsShort; trailers = h.trailers }
few_offered read Over h = no_heads

few_replied : (cause : Cause) → FewWait (replied cause)
few_replied cause = record { few = omega arith; short = All-cons IsShort _ [] (omega arith) (All-nil IsShort); trailers = omega arith }

few_rest : (body : List ℕ) (whole : End) (ends : Bool) → octets_of_fields (trailers_at whole) ≤ longest_section → FewWait (rest_of body whole ends)
few_rest body whole true t = no_heads
few_rest body whole false t = record { few = omega arith; short = All-nil IsShort; trailers = t }

few_left : (box : Outbox) (part : Part) → FewWait box → FewWait (left box part)
few_left (Before (first ∷ interims) None body whole) (Early sent) f = let few = f.few in record { few = omega (arith, few); short = All-tail IsShort first interims f.short; trailers = f.trailers }
few_left (Before (first ∷ interims) (Some final) body whole) (Early sent) f = let few = f.few in record { few = omega (arith, few); short = All-tail IsShort first (interims ++ final ∷ []) f.short; trailers = f.trailers }
few_left (Before (first ∷ interims) head body whole) (Final sent ends) f = f
few_left (Before (first ∷ interims) head body whole) (Octets octets ends) f = f
few_left (Before [] head body whole) (Early sent) f = f
few_left (Before [] (Some final) body whole) (Final sent ends) f = few_rest body whole ends f.trailers
few_left (Before [] None body whole) (Final sent ends) f = few_rest body whole ends f.trailers
few_left (Before (first ∷ interims) head body whole) (Trailing fields) f = f
few_left (Before [] head body whole) (Trailing fields) f = f
few_left (Behind body whole) (Trailing fields) f = no_heads
few_left (Before [] head body whole) (Octets octets ends) f = f
few_left (Behind body whole) (Early sent) f = f
few_left (Behind body whole) (Final sent ends) f = f
few_left (Behind body whole) (Octets octets ends) f = few_rest (drop (length octets) body) whole ends f.trailers
few_left Over part f = f

-- ---- bodies

-- no more of the body waits than so many octets
abbrev pub IsWithin : ℕ → Outbox → Type 0
IsWithin most box = length (body_waiting box) ≤ most

within_rest : (most : ℕ) (body : List ℕ) (whole : End) (ends : Bool) → length body ≤ most → IsWithin most (rest_of body whole ends)
within_rest most body whole true w = omega arith
within_rest most body whole false w = w

within_left : (most : ℕ) (box : Outbox) (part : Part) → IsWithin most box → IsWithin most (left box part)
within_left most (Before (first ∷ interims) head body whole) (Early sent) w = w
within_left most (Before (first ∷ interims) head body whole) (Final sent ends) w = w
within_left most (Before (first ∷ interims) head body whole) (Octets octets ends) w = w
within_left most (Before [] head body whole) (Early sent) w = w
within_left most (Before [] head body whole) (Final sent ends) w = within_rest most body whole ends w
within_left most (Before [] head body whole) (Octets octets ends) w = w
within_left most (Behind body whole) (Early sent) w = w
within_left most (Behind body whole) (Final sent ends) w = w
within_left most (Behind body whole) (Octets octets ends) w =
    let less : length (drop (length octets) body) ≡ length body - length octets = length-drop (length octets) body in
    within_rest most (drop (length octets) body) whole ends (omega (arith, less, w))
within_left most (Before (first ∷ interims) head body whole) (Trailing fields) w = w
within_left most (Before [] head body whole) (Trailing fields) w = w
within_left most (Behind body whole) (Trailing fields) w = omega arith
within_left most Over part w = w

-- what waits is among what is offered
within_offered : (read : Delivery) (box : Outbox) → length (body_waiting box) ≤ length (offered_by read box).body
within_offered read (Before interims head body whole) = omega arith
within_offered read (Behind body whole) = let all : length (read.body ++ body) ≡ length read.body + length body = length-append read.body body in omega (arith, all)
within_offered read Over = omega arith

-- ---- bodies that are passed on whole

-- what is shown of them is nothing, or was seen
whole_shown : (known : Known) (text : List ℕ) (ended to_head : Bool) (most : ℕ) (d : Delivery) → known.setup.passing ≡ Whole
    → ((interims : List Head) (head : Option Head) (octets : List ℕ) → Seen text to_head interims head octets → length octets ≤ most) → IsShown known.setup.passing text ended to_head d → length d.body ≤ most
whole_shown known text ended to_head most d whole seen (inl a) =
    let within = seen a.response.interims (Some a.response.head) a.response.body (whole_seen text ended to_head a.response a.is_whole) in
    let same : length d.body ≡ length a.response.body = ap (λ (x : Delivery). length x.body) a.says in
    omega (arith, within, same)
whole_shown known text ended to_head most d whole seen (inr b) =
    let none : length d.body ≡ 0 = ap (λ (x : Delivery). length x.body) b.says ∙ ap (λ p. length (shown p b.interims b.head b.octets).body) whole in
    omega (arith, none)

whole_news : (known : Known) (t : List Entry) (event : Event) (stream : ℕ) (news : Delivery) (box : Outbox) → known.setup.passing ≡ Whole → NoneTooLong known (Happened event ∷ t) → Heard known t event stream news box → IsWithin known.setup.max_response (grown box news)
whole_news known t event stream news box whole short h =
    let o = exchange_on (upstream_of event) t in
    let stream_is : o.stream ≡ stream = h.given.is_given in
    let kept = whole_shown known (heard_by o (Happened event ∷ t)) (ended_by o (Happened event ∷ t)) (is_to_head (items known stream t)) known.setup.max_response (offered_by h.read (grown box news)) whole
    (λ interims head octets seen. seen_kept known (Happened event ∷ t) o interims head octets short whole h.given.is_opened
    (ap (λ id. (course known id (Happened event ∷ t)).cause) stream_is ∙ h.no_cause)
    (subst (λ b. Seen (heard_by o (Happened event ∷ t)) b interims head octets) (ap is_to_head (items_stay known stream t (Happened event) refl) ∙ ap (λ id. is_to_head (items known id (Happened event ∷ t))) (sym stream_is)) seen)) h.behind in
    let within = within_offered h.read (grown box news) in
    omega (arith, kept, within)

-- ---- bodies that are passed on as they come

-- the octets that came of an upstream with the event
abbrev pub piece_of : Event → List ℕ
piece_of (Up k piece) = piece
piece_of _ = []

heard_more : (t : List Entry) (event : Event) → heard_by (exchange_on (upstream_of event) t) (Happened event ∷ t) ≡ heard_by (exchange_on (upstream_of event) t) t ++ piece_of event
heard_more t (Up k piece) = heard_own k piece t
heard_more t (Client piece) = sym (append-nil (heard_by (exchange_on 0 t) t))
heard_more t ClientEnd = sym (append-nil (heard_by (exchange_on 0 t) t))
heard_more t (ClientTook count) = sym (append-nil (heard_by (exchange_on 0 t) t))
heard_more t (UpEnd k) = sym (append-nil (heard_by (exchange_on k t) t))
heard_more t (UpFailed k) = sym (append-nil (heard_by (exchange_on k t) t))
heard_more t (UpTook k count) = sym (append-nil (heard_by (exchange_on 0 t) t))
heard_more t Drain = sym (append-nil (heard_by (exchange_on 0 t) t))

-- What is shown of an answer that is passed on as it comes is seen in its text.
pub record IsSeen (text : List ℕ) (to_head : Bool) (octets : List ℕ) : Type 0 where
  pub interims : List Head
  pub head : Option Head
  pub seen : Seen text to_head interims head octets

shown_seen : (passing : Passing) (text : List ℕ) (ended to_head : Bool) (d : Delivery) → passing ≡ Streaming → IsShown passing text ended to_head d → IsSeen text to_head d.body
shown_seen passing text ended to_head d streaming (inl a) = record {
  interims = a.response.interims;
  head = Some a.response.head;
  seen = subst (Seen text to_head a.response.interims (Some a.response.head)) (sym (ap (λ (x : Delivery). x.body) a.says)) (whole_seen text ended to_head a.response a.is_whole);
}
shown_seen passing text ended to_head d streaming (inr b) = record {
  interims = b.interims;
  head = b.head;
  seen = subst (Seen text to_head b.interims b.head) (sym (ap (λ (x : Delivery). x.body) b.says ∙ ap (λ p. (shown p b.interims b.head b.octets).body) streaming)) b.seen;
}

-- the octets that are offered are those that were read and those that wait
offered_size : (items_read : List _) (read : Delivery) (box : Outbox) → ReadsAs items_read read → Fits read box → length (offered_by read box).body ≡ length read.body + length (body_waiting box)
offered_size items_read read (Before interims head body whole) r f = let none : length read.body ≡ 0 = ap length (none_behind items_read read r f).0 in omega (arith, none)
offered_size items_read read (Behind body whole) r f = length-append read.body body
offered_size items_read read Over r f = omega arith

module _ (known : Known) (t : List Entry) (event : Event) (stream : ℕ) (news : Delivery) (box : Outbox) (streaming : known.setup.passing ≡ Streaming) (h : Heard known t event stream news box) where
  abbrev to_head : Bool
  to_head = is_to_head (items known stream t)

  abbrev o : Opened
  o = exchange_on (upstream_of event) t

  seen_before : IsSeen (heard_by o t) to_head (offered_by h.read box).body
  seen_before = shown_seen known.setup.passing (heard_by o t) (ended_by o t) to_head (offered_by h.read box) streaming h.before

  seen_behind : IsSeen (heard_by o (Happened event ∷ t)) to_head (offered_by h.read (grown box news)).body
  seen_behind = shown_seen known.setup.passing (heard_by o (Happened event ∷ t)) (ended_by o (Happened event ∷ t)) to_head (offered_by h.read (grown box news)) streaming h.behind

  -- its connection isn't idle, since its response isn't whole
  not_idle : IsIdle known t (upstream_of event) → ⊥
  not_idle idle =
      let a = idle.kept.answered in
      by h.before (a.response, subst (λ id. H1Response (heard_by o t) (ended_by o t) (is_to_head (items known id t)) a.response) h.given.is_given (subst (λ b. H1Response (heard_by o t) b (is_asked_for_head known o t) a.response) (sym idle.kept.not_ended) a.reads))
    where
      by : IsShown known.setup.passing (heard_by o t) (ended_by o t) to_head (offered_by h.read box) → IsComplete (heard_by o t) (ended_by o t) to_head → ⊥
      by (inl a) whole = let clash : ◌≡◌ {A = Option (List Field)} (Some a.response.trailers) None = sym (ap (λ (x : Delivery). x.ends) a.says) ∙ h.not_whole in cc
      by (inr b) whole = b.not_whole whole

  fits_behind : Fits h.read (grown box news)
  fits_behind = fits_grown h.read box news h.fits

  -- no more waits than waited and came
  waits_more : length (body_waiting (grown box news)) ≤ length (body_waiting box) + length (piece_of event)
  waits_more =
      let grows = seen_grows (heard_by o t) (piece_of event) to_head seen_before.interims seen_behind.interims seen_before.head seen_behind.head (offered_by h.read box).body (offered_by h.read (grown box news)).body seen_before.seen
      (subst (λ text. Seen text to_head seen_behind.interims seen_behind.head (offered_by h.read (grown box news)).body) (heard_more t event) seen_behind.seen) in
      let old = offered_size (items_on stream (sent t)) h.read box h.reads h.fits in
      let new = offered_size (items_on stream (sent t)) h.read (grown box news) h.reads fits_behind in
      omega (arith, grows, old, new)

  -- what came fits beside what waited
  room_left : (k : ℕ) (piece : List ℕ) → upstream_of event ≡ k → AreUnpadded t → FitsRoom known t (Up k piece) → length piece ≤ most_streamed - length (body_waiting box)
  room_left k piece same bare fits =
      let stream_is : given k (exchanges t) ≡ stream = ap (λ j. given j (exchanges t)) (sym same) ∙ h.given.is_given in
      let octets = (offered_by h.read box).body in
      let beside : HasRoomBeside known (exchange_on k t) t (room k t - (length octets - data_octets (is_on (given k (exchanges t))) (sent t))) = record {
        interims = seen_before.interims;
        head = seen_before.head;
        octets = octets;
        seen = subst (λ j. Seen (heard_by (exchange_on j t) t) (is_to_head (items known (given k (exchanges t)) t)) seen_before.interims seen_before.head octets) same
            (subst (λ id. Seen (heard_by o t) (is_to_head (items known id t)) seen_before.interims seen_before.head octets) (sym stream_is) seen_before.seen);
        is = refl;
      } in
      let fitted : length piece ≤ room k t - (length octets - data_octets (is_on (given k (exchanges t))) (sent t)) =
      fits (room k t - (length octets - data_octets (is_on (given k (exchanges t))) (sent t)))
      (subst (λ p. IsRoom p known k t (room k t - (length octets - data_octets (is_on (given k (exchanges t))) (sent t)))) (sym streaming) (inr (λ idle. not_idle (subst (IsIdle known t) (sym same) idle), beside))) in
      let counts : data_octets (is_on (given k (exchanges t))) (sent t) ≡ data_octets (is_on stream) (sent t) = ap (λ id. data_octets (is_on id) (sent t)) stream_is in
      let within = data_within stream t bare in
      let size = read_size (items_on stream (sent t)) h.read h.reads in
      let all = offered_size (items_on stream (sent t)) h.read box h.reads h.fits in
      let open_room = most_room (is_open k t) in
      omega (arith, fitted, counts, within, size, all, open_room)
    where
      most_room : (b : Bool) → (if b then 65536 else 0) ≤ 65536
      most_room true = omega arith
      most_room false = omega arith

  -- So no more waits than the room is.
  streamed_news : AreUnpadded t → FitsRoom known t event → IsWithin most_streamed box → IsWithin most_streamed (grown box news)
  streamed_news bare fits w = by event fits refl waits_more
    where
      by : (e : Event) → FitsRoom known t e → upstream_of event ≡ upstream_of e → length (body_waiting (grown box news)) ≤ length (body_waiting box) + length (piece_of e) → IsWithin most_streamed (grown box news)
      by (Up k piece) fits same more = let left = room_left k piece same bare fits in omega (arith, left, more, w)
      by (Client piece) fits same more = omega (arith, more, w)
      by ClientEnd fits same more = omega (arith, more, w)
      by (ClientTook count) fits same more = omega (arith, more, w)
      by (UpEnd k) fits same more = omega (arith, more, w)
      by (UpFailed k) fits same more = omega (arith, more, w)
      by (UpTook k count) fits same more = omega (arith, more, w)
      by Drain fits same more = omega (arith, more, w)

-- ---- runs

-- the earlier events fitted too, and the earlier frames had no padding
fitted_before : (known : Known) (t : List Entry) (e : Entry) → FitRooms known (e ∷ t) → FitRooms known t
fitted_before known t (Happened event) f = f.1
fitted_before known t (Came noted) f = f
fitted_before known t (Breached breach) f = f
fitted_before known t (Sent noted) f = f
fitted_before known t (Did act) f = f

bare_before : (t : List Entry) (e : Entry) → AreUnpadded (e ∷ t) → AreUnpadded t
bare_before t (Sent noted) b = b.1
bare_before t (Came noted) b = b
bare_before t (Breached breach) b = b
bare_before t (Happened event) b = b
bare_before t (Did act) b = b

-- Few heads wait in each outbox.
pub all_few : (known : Known) (run : List Step) → AllMayCome run → AreRight known run → AreTold known run → HoldsOfAll FewWait (state_of (moves_of run)).kept
all_few known [] may right told = All-nil (λ (k : Kept). FewWait k.box)
all_few known (x ∷ run) may right told =
    let old = placed known run may.0 right.0 told.0 in
    let new = placed known (x ∷ run) may right told in
    let s = state_of (moves_of run) in
    all_behind FewWait (record { few = omega arith; short = All-nil IsShort; trailers = omega arith }) few_replied few_left s.kept x.move
    (leaves_news known (tape_of run) s (sight_of run) x.sight old.1.neighbours old.1.offering FewWait x.move new.0.2 may.1
    (λ event stream news box is h p. few_offered h.read (grown box news) (shown_few known.setup.passing (heard_by (exchange_on (upstream_of event) (tape_of run)) (Happened event ∷ tape_of run)) (ended_by (exchange_on (upstream_of event) (tape_of run)) (Happened event ∷ tape_of run)) (is_to_head (items known stream (tape_of run))) (offered_by h.read (grown box news)) h.behind)))
    (all_few known run may.0 right.0 told.0)

-- Where responses are passed on whole, no more of a body waits than may be kept.
pub all_kept : (known : Known) (run : List Step) → AllMayCome run → AreRight known run → AreTold known run → AreJudged known (tape_of run) → known.setup.passing ≡ Whole
    → HoldsOfAll (IsWithin known.setup.max_response) (state_of (moves_of run)).kept
all_kept known [] may right told judged whole = All-nil (λ (k : Kept). IsWithin known.setup.max_response k.box)
all_kept known (x ∷ run) may right told judged whole =
    let old = placed known run may.0 right.0 told.0 in
    let new = placed known (x ∷ run) may right told in
    let s = state_of (moves_of run) in
    let short = none_too_long known (x ∷ run) may right told judged in
    all_behind (IsWithin known.setup.max_response) (omega arith) (λ cause. omega arith) (within_left known.setup.max_response) s.kept x.move
    (leaves_news known (tape_of run) s (sight_of run) x.sight old.1.neighbours old.1.offering (IsWithin known.setup.max_response) x.move new.0.2 may.1
    (λ event stream news box is h p. whole_news known (tape_of run) event stream news box whole (subst (λ m. NoneTooLong known (entry_of m ∷ tape_of run)) is short) h))
    (all_kept known run may.0 right.0 told.0 (judged_before known (tape_of run) (entry_of x.move) judged) whole)

-- Where they are passed on as they come, no more waits than an upstream's room is.
pub all_streamed : (known : Known) (run : List Step) → AllMayCome run → AreRight known run → AreTold known run → FitRooms known (tape_of run) → AreUnpadded (tape_of run) → known.setup.passing ≡ Streaming
    → HoldsOfAll (IsWithin most_streamed) (state_of (moves_of run)).kept
all_streamed known [] may right told fit bare streaming = All-nil (λ (k : Kept). IsWithin most_streamed k.box)
all_streamed known (x ∷ run) may right told fit bare streaming =
    let old = placed known run may.0 right.0 told.0 in
    let new = placed known (x ∷ run) may right told in
    let s = state_of (moves_of run) in
    all_behind (IsWithin most_streamed) (omega arith) (λ cause. omega arith) (within_left most_streamed) s.kept x.move
    (leaves_news known (tape_of run) s (sight_of run) x.sight old.1.neighbours old.1.offering (IsWithin most_streamed) x.move new.0.2 may.1
    (λ event stream news box is h p. streamed_news known (tape_of run) event stream news box streaming h (bare_before (tape_of run) (entry_of x.move) bare)
    (subst (λ m. FitRooms known (entry_of m ∷ tape_of run)) is fit).0 p))
    (all_streamed known run may.0 right.0 told.0 (fitted_before known (tape_of run) (entry_of x.move) fit) (bare_before (tape_of run) (entry_of x.move) bare) streaming)

-- ---- all octets

-- the octets of the heads in one outbox
pub heads_sum : (box : Outbox) → FewWait box → sum_by head_octets (heads_waiting box) ≤ most_heads * longest_section
heads_sum box f =
    let sum = sum_by-le head_octets longest_section (heads_waiting box) f.short in
    let few = f.few in
    omega (arith, sum, few)

-- the body of each, in both ways
all_within : (known : Known) (run : List Step) → AllMayCome run → AreRight known run → AreTold known run
    → (passing : Passing) → known.setup.passing ≡ passing → AreLimited passing known (tape_of run) → HoldsOfAll (IsWithin (most_of_body passing known.setup)) (state_of (moves_of run)).kept
all_within known run may right told Whole whole judged = all_kept known run may right told judged whole
all_within known run may right told Streaming streaming limited = all_streamed known run may right told limited.0 limited.1 streaming

-- What one outbox holds.
pub all_held : (known : Known) (run : List Step) → AllMayCome run → AreRight known run → AreTold known run → AreLimited known.setup.passing known (tape_of run)
    → All (λ (k : Kept). octets_in k.box ≤ most_octets known.setup) (state_of (moves_of run)).kept
all_held known run may right told limited = λ i d lt.
    let heads = heads_sum _ (all_few known run may right told i d lt) in
    let body = all_within known run may right told known.setup.passing refl limited i d lt in
    let trailers = (all_few known run may right told i d lt).trailers in
    omega (arith, heads, body, trailers)

-- What they hold together.
pub held_together : (known : Known) (run : List Step) → AllMayCome run → AreRight known run → AreTold known run → AreLimited known.setup.passing known (tape_of run)
    → octets_held (state_of (moves_of run)) ≤ length (active (tape_of run)) * most_octets known.setup
held_together known run may right told limited =
    let sum = sum_by-le (λ (k : Kept). octets_in k.box) (most_octets known.setup) (state_of (moves_of run)).kept (all_held known run may right told limited) in
    let count : length (state_of (moves_of run)).kept ≡ length (active (tape_of run)) =
    sym (length-map (state_of (moves_of run)).kept (λ (k : Kept). k.id)) ∙ ap length (are_of_active known run may right told) ∙ length-reverse (active (tape_of run)) in
    subst (λ n. octets_held (state_of (moves_of run)) ≤ n * most_octets known.setup) count sum

-- The most of one outbox, by what may be kept of a response.
pub most_within : (setup : Setup) → most_octets setup ≤ setup.max_response + 229376
most_within setup = by setup.passing
  where
    by : (passing : Passing) → most_heads * longest_section + longest_section + most_of_body passing setup ≤ setup.max_response + 229376
    by Whole = omega arith
    by Streaming = omega arith
