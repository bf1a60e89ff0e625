-- How what is kept stands to the tape, and that it stands so behind an entry.
use Rattle.std.proofs.Common.{◌≡◌, ℕ, Bool, true, false, ◌==◌, ◌&&◌, ◌||◌, not, List, [], ◌∷◌, ◌++◌, length, refl, sym, ap, ◌∙◌, subst, inl, inr, if◌then◌else◌}
use Rattle.std.specs.Prelude.{Option, Some, None, ◌⊎◌}
use Rattle.std.specs.List.{list_any}
use Rattle.std.proofs.lemmas.Bool.{eq-eqb}
use Rattle.model.specs.Messages.{Field, Item, Request, ends_with}
use Rattle.model.specs.Messages.Item.{Block, Content}
use Rattle.model.specs.Http2.{HasHead, WellFormedHead, H2Request, authority_of, path_of}
use Rattle.model.specs.Setup.{IsFirstMatch, own_window}
use Rattle.model.specs.Setup.Passing.{Whole as WholePassing, Streaming}
use Rattle.model.specs.Tapes.{Entry, came, is_closed}
use Rattle.model.specs.Tapes.Entry.{Came, Breached, Happened, Sent, Did}
use Rattle.model.specs.Streams.{items_of}
use Rattle.model.specs.Openings.{Opened, opens, exchanges, given, last_stream, is_of, sent_for, AreNumbered, AreApart, GoToOpen}
use Rattle.model.specs.Admission.{is_open}
use Rattle.model.specs.Available.{IsIn}
use Rattle.model.specs.Known.{Known}
use Rattle.model.specs.Lifetimes.{is_opened}
use Rattle.model.specs.ErrorTable.{fault_with}
use Rattle.model.specs.Courses.{course, carried, items, interrupts}
use Rattle.model.specs.Http1.{H1Requests, H1Kept, forward}
use Rattle.model.specs.Http2.{MayBecome}
use Rattle.model.specs.Spelling.{IsSpelled}
use Rattle.model.specs.Octets.{IsStrictFront}
use Rattle.model.specs.Offers.{IsGiven}
use Rattle.model.specs.RequestClause.{EndsWithChunks, MayBeServed, BeginInTime}
use Rattle.model.specs.ProgressClause.{had_closed, is_first_end, was_cut}
use Rattle.model.specs.WindowsOnTape.{is_on, data_octets}
use Rattle.h1_writer.specs.Sending.{Stage}
use Rattle.model.specs.Courses.{cause_of}
use Rattle.theory_requests.specs.Written.{IsWritten, IsAwaited}
use Rattle.theory_requests.specs.Lines.{Line, line_of, is_finished, least_idle}
use Rattle.theory_requests.specs.Lines.Answer.{Pending}
use Rattle.theory_requests.specs.Pool.{Keeps}
use Rattle.theory_requests.specs.State.{Way, Held, held_of, Due, State, is_whole}
use Rattle.theory_requests.specs.State.Way.{Waiting, Going, Dropped}
use Rattle.theory_requests.specs.State.Due.{Nothing, ToOpen, ToUse, ToSend}
use Rattle.theory_requests.proofs.Leaving.{IsLetGo, LetGo, let_go_stay}
use Rattle.theory_requests.proofs.Frozen.{items_frozen}
use Rattle.model.proofs.LifeLaws.{opened_stays}

-- ---- one exchange

-- the text reads as the one request that the items mean; where its connection is kept, another may stand behind it
pub record IsSentWhole (keep : Bool) (text : List ℕ) (items : List Item) : Type 0 where
  pub request : Request
  pub means : H2Request items request
  pub reads : H1Kept keep text (forward request)

-- the text reads as no request yet, and goes on to one for every request that the items may still become; its chunks are whole
pub record IsSentInPart (keep : Bool) (text : List ℕ) (items : List Item) : Type 0 where
  pub some : (request : Request) × MayBecome items request
  pub reads : H1Requests text [] text
  pub goes_on : (request : Request) → MayBecome items request → (whole : List ℕ) × H1Kept keep whole (forward request) × IsStrictFront text whole
  pub in_chunks : EndsWithChunks text

-- what is due to an exchange: that of the stream of the last frame
abbrev pub owed : Opened → List Entry → Due → List ℕ
owed o t (ToSend k text) = if is_of o k (last_stream t) then text else []
owed o t due = []

-- what an exchange was sent, and what is due to it
abbrev pub text_of : Opened → List Entry → Due → List ℕ
text_of o t due = sent_for o t ++ owed o t due

-- the exchange is the newest of its connection
abbrev pub IsNewest : List Entry → Opened → Type 0
IsNewest t o = given o.k (exchanges t) ≡ o.stream

-- The connection was given to another stream since: the exchange was sent its request whole, which came to its end.
pub record IsPast (known : Known) (t : List Entry) (o : Opened) : Type 0 where
  pub later : IsNewest t o → ⊥
  pub ended : list_any ends_with (items known o.stream t) ≡ true
  pub whole : IsSentWhole known.setup.keep (sent_for o t) (items known o.stream t)

-- A part of the stream's request was sent: if it came to its end the connection was closed before.
pub record IsInPart (known : Known) (t : List Entry) (text : List ℕ) (o : Opened) : Type 0 where
  pub part : IsSentInPart known.setup.keep text (items known o.stream t)
  pub cut : (request : Request) → H2Request (items known o.stream t) request → (was_cut o.stream t ≡ true) × (is_open o.k t ≡ false)

-- The text is the stream's request, whole or in part, and spelled in one way; while the connection is open it is what was written for the items.
pub record IsSent (known : Known) (t : List Entry) (text : List ℕ) (o : Opened) : Type 0 where
  pub reads : IsSentWhole known.setup.keep text (items known o.stream t) ⊎ IsInPart known t text o
  pub spelled : IsSpelled known.setup.keep (items known o.stream t) text
  pub writes : is_open o.k t ≡ true → (stage : Stage) × IsWritten known.setup.keep (items known o.stream t) text stage

-- A connection was given to a stream with this head.
pub record Given (known : Known) (t : List Entry) (due : Due) (o : Opened) : Type 0 where
  pub started : is_opened o.stream t ≡ true
  pub head : List Field
  pub has_head : HasHead (items known o.stream t) head
  pub well_formed : WellFormedHead head
  pub by_route : IsFirstMatch known.setup.routes (authority_of head) (path_of head) o.route
  pub sent : IsSent known t (text_of o t due) o
  pub place : IsNewest t o ⊎ IsPast known t o

-- ---- one stream

-- a connection is due for the stream
abbrev pub IsDueFor : Due → ℕ → Type 0
IsDueFor (ToOpen stream route text stage) other = stream ≡ other
IsDueFor (ToUse k stream text stage) other = stream ≡ other
IsDueFor due other = ⊥

-- The stream has no request, nor so much as a head where requests are passed on as they come.
pub record IsUnread (known : Known) (t : List Entry) (stream : ℕ) : Type 0 where
  pub no_request : (request : Request) → H2Request (items known stream t) request → ⊥
  pub no_head : known.setup.passing ≡ Streaming → (head : List Field) → HasHead (items known stream t) head → ⊥

-- The stream has no request, or a connection is due for it, or was given to it.
abbrev pub Fares : Known → List Entry → Due → ℕ → Type 0
Fares known t due stream =
    IsUnread known t stream ⊎ (IsDueFor due stream ⊎ ((o : Opened) × IsGiven t stream o))

-- ---- what is due

-- A text is due for the stream of the last frame, which was given no connection; of its route this is the least idle one, if one is.
pub record IsStarting (known : Known) (t : List Entry) (ls : List Line) (stream route : ℕ) (text : List ℕ) (stage : Stage) (idle : Option ℕ) : Type 0 where
  pub last : last_stream t ≡ stream
  pub none_given : (o : Opened) → IsGiven t stream o → ⊥
  pub written : IsWritten known.setup.keep (items known stream t) text stage
  pub head : List Field
  pub has_head : HasHead (items known stream t) head
  pub by_route : IsFirstMatch known.setup.routes (authority_of head) (path_of head) route
  pub in_time : MayBeServed known t stream
  pub bare : known.setup.passing ≡ Streaming → data_octets (is_on stream) (came t) ≡ 0
  pub none_finished : list_any (λ (x : Line). is_finished x.answer) ls ≡ false
  pub least : least_idle route ls ≡ idle

-- Octets are due to a connection that is kept for the stream of the last frame, whose response isn't whole.
pub record IsSending (t : List Entry) (ls : List Line) (k : ℕ) : Type 0 where
  pub line : Line
  pub found : line_of k ls ≡ Some line
  pub stream : line.stream ≡ last_stream t
  pub pending : line.answer ≡ Pending
  pub none_finished : list_any (λ (x : Line). is_finished x.answer) ls ≡ false

-- What is due can be done.
abbrev pub IsDue : Known → List Entry → List Line → Due → Type 0
IsDue known t ls Nothing = Unit {0}
IsDue known t ls (ToOpen stream route text stage) = IsStarting known t ls stream route text stage None
IsDue known t ls (ToUse k stream text stage) = (route : ℕ) × IsStarting known t ls stream route text stage (Some k)
IsDue known t ls (ToSend k text) = IsSending t ls k

-- ---- requests that aren't whole

-- A request that waits: its head was written, these octets of its body came, and its stream has no connection.
pub record IsWaiting (known : Known) (t : List Entry) (stream route : ℕ) (text : List ℕ) (stage : Stage) (body : List ℕ) : Type 0 where
  pub whole_passing : known.setup.passing ≡ WholePassing
  pub awaited : IsAwaited known.setup.keep (items known stream t) text stage body
  pub head : List Field
  pub has_head : HasHead (items known stream t) head
  pub by_route : IsFirstMatch known.setup.routes (authority_of head) (path_of head) route
  pub none_given : (o : Opened) → IsGiven t stream o → ⊥

-- the connection is kept for the stream
abbrev pub IsFor : List Line → ℕ → ℕ → Type 0
IsFor ls k stream = (line : Line) × (line_of k ls ≡ Some line) × (line.stream ≡ stream)

-- A request that goes out: what was written of it was sent on its stream's connection, or is due to that.
pub record IsGoing (known : Known) (t : List Entry) (s : State) (stream k : ℕ) (stage : Stage) : Type 0 where
  pub o : Opened
  pub given : IsGiven t stream o
  pub number : o.k ≡ k
  pub line : IsFor s.live k stream
  pub written : IsWritten known.setup.keep (items known stream t) (text_of o t s.due) stage
  pub part : is_whole stage ≡ false

-- A request that is dropped: its stream's connection isn't open any more.
pub record IsDropped (t : List Entry) (s : State) (stream : ℕ) : Type 0 where
  pub o : Opened
  pub given : IsGiven t stream o
  pub gone : line_of o.k s.live ≡ None

-- What is held of a stream is so.
abbrev pub IsOnWay : Known → List Entry → State → ℕ → Way → Type 0
IsOnWay known t s stream (Waiting route text stage body) = IsWaiting known t stream route text stage body
IsOnWay known t s stream (Going k stage) = IsGoing known t s stream k stage
IsOnWay known t s stream Dropped = IsDropped t s stream

-- ---- all of it

-- What is kept stands for the tape.
pub record Stands (known : Known) (t : List Entry) (s : State) : Type 0 where
  pub numbered : AreNumbered (opens t)
  pub apart : AreApart (exchanges t)
  pub count : s.count ≡ length (opens t)
  pub given : (o : Opened) → IsIn o (exchanges t) → Given known t s.due o
  pub fares : (stream : ℕ) → Fares known t s.due stream
  pub held : (stream : ℕ) (h : Held) → held_of stream s.held ≡ Some h → IsOnWay known t s stream h.way
  pub due : IsDue known t s.live s.due
  pub keeps : Keeps known t s.live
  pub goes : GoToOpen t
  pub in_time : BeginInTime known t
  pub closes : LetGo known t t
  pub shut : is_closed t ≡ true → s.live ≡ []

-- ---- what stays whatever comes

-- where a stream's items stay it has no more than before
pub unread_same : (known : Known) (t : List Entry) (e : Entry) (stream : ℕ) → items known stream (e ∷ t) ≡ items known stream t → IsUnread known t stream → IsUnread known (e ∷ t) stream
unread_same known t e stream same u = record {
  no_request = λ request means. u.no_request request (subst (λ xs. H2Request xs request) same means);
  no_head = λ streaming head has. u.no_head streaming head (subst (λ xs. HasHead xs head) same has);
}

-- the first item stays
pub has_head_stays : (known : Known) (t : List Entry) (e : Entry) (stream : ℕ) (head : List Field) → HasHead (items known stream t) head → HasHead (items known stream (e ∷ t)) head
has_head_stays known t e stream head has = by ((course known stream t).over || interrupts stream e (fault_with (own_window known.setup) (carried (course known stream t)) t e) (cause_of known stream t e)) (items known stream t) (items_of stream t e) has
  where
    by : (b : Bool) (xs ys : List Item) → HasHead xs head → HasHead (if b then xs else xs ++ ys) head
    by true xs ys h = h
    by false [] ys h = absurd h
    by false (Block fields ends ∷ xs) ys h = h
    by false (Content octets ends ∷ xs) ys h = absurd h

-- with a head there is an item
pub some_items : (xs : List Item) (head : List Field) → HasHead xs head → xs ≡ [] → ⊥
some_items xs head has e = subst (λ ys. HasHead ys head) e has

-- a connection of the stream isn't open any more
pub had_closed_in : (stream : ℕ) (os : List Opened) (t : List Entry) (o : Opened) → IsIn o os → o.stream ≡ stream → is_open o.k t ≡ false → had_closed stream os t ≡ true
had_closed_in stream [] t o i same shut = absurd i
had_closed_in stream (p ∷ os) t o (inl is) same shut =
    ap (λ (x : Opened). x.stream == stream && not (is_open x.k t) || had_closed stream os t) (sym is) ∙ ap (λ b. b && not (is_open o.k t) || had_closed stream os t) (eq-eqb o.stream stream same) ∙ ap (λ b. not b || had_closed stream os t) shut
had_closed_in stream (p ∷ os) t o (inr i) same shut = by (p.stream == stream && not (is_open p.k t)) (had_closed_in stream os t o i same shut)
  where
    by : (b : Bool) → had_closed stream os t ≡ true → (b || had_closed stream os t) ≡ true
    by true e = refl
    by false e = e

-- a stream that was cut stays so, where its connection isn't open
pub cut_stays : (t : List Entry) (e : Entry) (stream : ℕ) → was_cut stream t ≡ true → had_closed stream (exchanges t) t ≡ true → was_cut stream (e ∷ t) ≡ true
cut_stays t (Came noted) stream cut closed = by (is_first_end stream t noted)
  where
    by : (b : Bool) → (if b then had_closed stream (exchanges t) t else was_cut stream t) ≡ true
    by true = closed
    by false = cut
cut_stays t (Breached breach) stream cut closed = cut
cut_stays t (Happened event) stream cut closed = cut
cut_stays t (Sent noted) stream cut closed = cut
cut_stays t (Did act) stream cut closed = cut

-- an exchange that is past stays so
pub past_stays : (known : Known) (t : List Entry) (e : Entry) (o : Opened) → (IsNewest (e ∷ t) o → IsNewest t o) → sent_for o (e ∷ t) ≡ sent_for o t → IsPast known t o → IsPast known (e ∷ t) o
past_stays known t e o back same p =
    let frozen = items_frozen known o.stream t e p.ended in record {
      later = λ newest. p.later (back newest);
      ended = ap (λ xs. list_any ends_with xs) frozen ∙ p.ended;
      whole = subst (λ xs. IsSentWhole known.setup.keep (sent_for o (e ∷ t)) xs) (sym frozen) (subst (λ x. IsSentWhole known.setup.keep x (items known o.stream t)) (sym same) p.whole);
    }

-- a way stays that a request is on, where its stream's items, its exchange and its text stay, and connections that matter to it
pub way_stays : (known : Known) (t : List Entry) (e : Entry) (s u : State) (stream : ℕ) (way : Way) → items known stream (e ∷ t) ≡ items known stream t → ((o : Opened) → IsGiven t stream o → IsGiven (e ∷ t) stream o) → ((o : Opened) → IsGiven (e ∷ t) stream o → IsGiven t stream o) → ((o : Opened) → IsGiven t stream o → text_of o (e ∷ t) u.due ≡ text_of o t s.due)
    → ((k : ℕ) (stage : Stage) → way ≡ Going k stage → IsFor s.live k stream → IsFor u.live k stream) → ((o : Opened) → IsGiven t stream o → line_of o.k s.live ≡ None → line_of o.k u.live ≡ None) → IsOnWay known t s stream way → IsOnWay known (e ∷ t) u stream way
way_stays known t e s u stream (Waiting route text stage body) same there back same_text keeps loses w =
    record {
      whole_passing = w.whole_passing;
      awaited = subst (λ xs. IsAwaited known.setup.keep xs text stage body) (sym same) w.awaited;
      head = w.head;
      has_head = subst (λ xs. HasHead xs w.head) (sym same) w.has_head;
      by_route = w.by_route;
      none_given = λ o g. w.none_given o (back o g);
    }
way_stays known t e s u stream (Going k stage) same there back same_text keeps loses w = record {
  o = w.o;
  given = there w.o w.given;
  number = w.number;
  line = keeps k stage refl w.line;
  written = subst (λ x. IsWritten known.setup.keep (items known stream (e ∷ t)) x stage) (sym (same_text w.o w.given)) (subst (λ xs. IsWritten known.setup.keep xs (text_of w.o t s.due) stage) (sym same) w.written);
  part = w.part;
}
way_stays known t e s u stream Dropped same there back same_text keeps loses w = record { o = w.o; given = there w.o w.given; gone = loses w.o w.given w.gone }

-- ---- an entry with which no exchange begins

-- What is to be shown of such an entry.
pub record Steps (known : Known) (t : List Entry) (e : Entry) (s u : State) : Type 0 where
  pub same : exchanges (e ∷ t) ≡ exchanges t
  pub same_opens : opens (e ∷ t) ≡ opens t
  pub count : u.count ≡ s.count
  pub sent : (o : Opened) → IsIn o (exchanges t) → Given known t s.due o → IsSent known (e ∷ t) (text_of o (e ∷ t) u.due) o
  pub past : (o : Opened) → IsIn o (exchanges t) → IsPast known t o → sent_for o (e ∷ t) ≡ sent_for o t
  pub fares : (stream : ℕ) → Fares known (e ∷ t) u.due stream
  pub held : (stream : ℕ) (h : Held) → held_of stream u.held ≡ Some h → IsOnWay known (e ∷ t) u stream h.way
  pub due : IsDue known (e ∷ t) u.live u.due
  pub keeps : Keeps known (e ∷ t) u.live
  pub goes : GoToOpen (e ∷ t)
  pub in_time : BeginInTime known (e ∷ t)
  pub let_go : (k : ℕ) (earlier : List Entry) → IsLetGo known t k earlier → IsLetGo known (e ∷ t) k earlier
  pub closes : LetGo known (e ∷ t) t → LetGo known (e ∷ t) (e ∷ t)
  pub shut : is_closed (e ∷ t) ≡ true → u.live ≡ []

-- what is kept stands for the tape behind such an entry
pub stands_next : (known : Known) (t : List Entry) (e : Entry) (s u : State) → Stands known t s → Steps known t e s u → Stands known (e ∷ t) u
stands_next known t e s u h p = record {
  numbered = subst AreNumbered (sym p.same_opens) h.numbered;
  apart = subst AreApart (sym p.same) h.apart;
  count = p.count ∙ h.count ∙ ap length (sym p.same_opens);
  given = λ o i. given o (subst (IsIn o) p.same i);
  fares = p.fares;
  held = p.held;
  due = p.due;
  keeps = p.keeps;
  goes = p.goes;
  in_time = p.in_time;
  closes = p.closes (let_go_stay known t e p.let_go t h.closes);
  shut = p.shut;
}
  where
    given : (o : Opened) → IsIn o (exchanges t) → Given known (e ∷ t) u.due o
    given o i =
        let g = h.given o i in record {
          started = opened_stays t e o.stream g.started;
          head = g.head;
          has_head = has_head_stays known t e o.stream g.head g.has_head;
          well_formed = g.well_formed;
          by_route = g.by_route;
          sent = p.sent o i g;
          place = elim g.place [
            | inl newest ↦ inl (ap (given_in o.k) p.same ∙ newest)
            | inr past ↦ inr (past_stays known t e o (λ newest. sym (ap (given_in o.k) p.same) ∙ newest) (p.past o i past) past)
          ];
        }
      where
        given_in : ℕ → List Opened → ℕ
        given_in = Rattle.model.specs.Openings.given
