-- A connection that is due is opened, and its text goes out there: this performs.
use Rattle.std.proofs.Common.{◌≡◌, ℕ, suc, ◌<◌, Bool, true, false, not, ◌==◌, ◌&&◌, ◌||◌, List, [], ◌∷◌, ◌++◌, map, length, Option, Some, None, codes, refl, sym, ◌∙◌, ap, subst, inl, inr, if◌then◌else◌, arith}
use Rattle.std.specs.Prelude.{is_none, nat_lt, IfSome}
use Rattle.std.specs.List.{list_any}
use Rattle.std.proofs.lemmas.Bool.{eq-eqb, eqb-true, ltb-true, ne_eqb, and_parts}
use Rattle.std.proofs.lemmas.Bool.Decides.{eqb_tells}
use Rattle.model.specs.Http2.{first_block, passed_trailers}
use Rattle.model.specs.Logs.{Output}
use Rattle.model.specs.Logs.Act.{Open, ToUp}
use Rattle.model.specs.Logs.Output.{Does as Puts}
use Rattle.model.specs.Setup.{Setup, Passing as Way}
use Rattle.model.specs.Setup.Passing.{Whole as WholePassing, Streaming}
use Rattle.model.specs.Tapes.{Entry, put}
use Rattle.model.specs.Tapes.Entry.{Did}
use Rattle.model.specs.Causes.{is_front_of, Cause}
use Rattle.model.specs.Openings.{Opened, opens, exchanges, exchange_on, given, route_of, last_stream, connection_of, IsGivenNone}
use Rattle.model.specs.Messages.{Item}
use Rattle.model.specs.Known.{Known}
use Rattle.model.specs.Lifetimes.{opened, is_opened, is_active}
use Rattle.model.specs.Courses.{items}
use Rattle.model.specs.Offers.{is_to_head}
use Rattle.model.specs.Limits.{most_streams}
use Rattle.model.specs.Available.{heard_by, IsIn}
use Rattle.model.proofs.ItemLaws.{head_stays}
use Rattle.model.proofs.ExchangeLaws.{unheard}
use Rattle.theory_errors.specs.Summary.{summary_of}
use Rattle.theory_errors.specs.Rule.{AreKnown}
use Rattle.theory_errors.specs.Book.{Book, ledger_of, summary_in}
use Rattle.theory_errors.specs.Told as theory_errors
use Rattle.theory_errors.proofs.Telling.{book_told}
use Rattle.theory_receive_windows.specs.Policy as windows
use Rattle.theory_receive_windows.specs.State as theory_receive_windows
use Rattle.theory_receive_windows.proofs.Resting.{Receiving}
use Rattle.theory_receive_windows.proofs.Incoming.{live_among}
use Rattle.h1_reader.specs.Standing.{Stands as Reads}
use Rattle.h1_writer.specs.Sending.{Stage}
use Rattle.theory_responses.specs.Sight.{sight_in}
use Rattle.upstream_response.specs.Waiting.{passing_in}
use Rattle.upstream_response.specs.declared.answer.ResponsePassing.{ResponsePassing}
use Rattle.window_credit.specs.Sides.{Side, is_above_all, change, putting}
use Rattle.window_credit.specs.Sides.{find as find_side, opened as opened_side}
use Rattle.window_credit.specs.Standing.{newest_with}
use Rattle.window_credit.proofs.Looking.{above_all}
use Rattle.streams.specs.Asked as asked
use Rattle.theory_requests.specs.State as theory_requests
use Rattle.theory_requests.specs.Lines as lines
use Rattle.theory_requests.specs.Lines.{Line, find}
use Rattle.theory_requests.specs.Written.{IsWritten}
use Rattle.theory_requests.specs.State.{Held, held_with, unless_whole}
use Rattle.theory_requests.specs.State.Way.{Going}
use Rattle.theory_requests.specs.State.Due.{ToOpen, ToSend}
use Rattle.theory_requests.specs.Rule as requests
use Rattle.theory_requests.specs.Rule.{is_done}
use Rattle.theory_requests.proofs.Numbers.{within_opened}
use Rattle.theory_requests.proofs.Starting.{active_some, given_none_in}
use Rattle.theory_requests.proofs.Standing as standing
use Rattle.theory_requests.proofs.Standing.{IsStarting, IsDue}
use Rattle.upstream_connections.specs.Kept as upstreams
use Rattle.upstream_connections.specs.Kept.{opened_for}
use Rattle.upstream_connections.specs.Connections.{Connection, number_of, lives, put_at, fresh}
use Rattle.upstream_connections.specs.Connections as connections
use Rattle.theory.specs.Moves.{Decision, Move, told_in}
use Rattle.theory.specs.Moves.Decision.{Acts}
use Rattle.theory.specs.Moves.Move.{Does}
use Rattle.theory.specs.State.{State, conducts, tape_of}
use Rattle.theory.specs.Rule.{rooms_in}
use Rattle.theory.specs.Steps.{told_by, told_behind, next}
use Rattle.theory.proofs.Telling.{all_moved}
use Rattle.refinement.specs.View.{View, Pending, balanced, newest_in, AreMarked, Leads, AreHeard}
use Rattle.refinement.specs.Hearing.{IsSetUp, IsHeard}
use Rattle.refinement.specs.Rest.{told_view}
use Rattle.refinement.specs.Bringing.{OwnSegment, PerformsOwn}
use Rattle.refinement.proofs.Bringing.{own_then}
use Rattle.refinement.proofs.Connected.{none_connected}
use Rattle.refinement.proofs.Giving.{heard_fresh}
use Rattle.refinement.proofs.Lives.{lives_same}
use Rattle.refinement.proofs.Marking.{marked_opened, marked_opened_beside}
use Rattle.refinement.proofs.Newest.{due_newest}
use Rattle.refinement.proofs.Sound as sound
use Rattle.refinement.proofs.Staying.{heard_by_entry, open_begun, calm_before}
use Rattle.event_handlers.specs.Closings.{told_but, NoneDoneBut}
use Rattle.event_handlers.specs.Resting.{IsPassedBy}
use Rattle.event_handlers.specs.exchanges.Opening.{with_side}
use Rattle.event_handlers.proofs.exchanges.Asking.{asked_is}
use Rattle.event_handlers.proofs.exchanges.Acts as acts
use Rattle.event_handlers.proofs.exchanges.Few.{few_given, no_more_opened, nothing_put}
use Rattle.event_handlers.proofs.exchanges.Sends.{calls_send}
use Rattle.refinement.proofs.Where.{led_to, own, own_led, right_here, stands_here, windows_here, live_here}

-- ---- whether the request asks for a head

-- a request's items ask for a head just where its text begins so
pub asks_as_text : (keep : Bool) (xs : List Item) (text : List ℕ) (stage : Stage) → IsWritten keep xs text stage → is_front_of (codes "HEAD ") text ≡ is_to_head xs
asks_as_text keep xs text stage w =
    asked_is keep w.head w.well_formed.method_holds w.ended text w.pieces (passed_trailers (first_block w.more)) stage w.sending ∙ sym (ap is_to_head w.is)

-- an answer is passed on as the setup says
pub set_up_by : (setup : Setup) (to_head : Bool) (passing : ResponsePassing) → IsPassedBy setup passing → (known : Known) → known.setup ≡ setup → IsSetUp known (fresh to_head passing)
set_up_by setup to_head passing passed known same = record {
  passing = passed.passing ∙ sym (ap (λ (x : Setup). x.passing) same);
  limit = λ is. passed.limit (sym (ap (λ (x : Setup). x.passing) same) ∙ is) ∙ ap (λ (x : Setup). Some x.max_response) (sym same);
}

-- ---- what is kept of DATA that waits

-- of a stream above all that are kept nothing is
pub none_above : (id : ℕ) (sides : List Side) → is_above_all id sides ≡ true → find_side id sides ≡ None
none_above id [] above = refl
none_above id (side ∷ sides) above = by (side.id == id) refl (none_above id sides)
  where
    parts : (nat_lt side.id id ≡ true) × (is_above_all id sides ≡ true)
    parts = and_parts (nat_lt side.id id) (is_above_all id sides) above

    by : (b : Bool) → (side.id == id) ≡ b → (is_above_all id sides ≡ true → find_side id sides ≡ None) → (if b then Some side else find_side id sides) ≡ None
    by true is rest = let less : side.id < id = ltb-true side.id id parts.0 in let same = eqb-true side.id id is in absurd (omega (arith, less, same))
    by false apart rest = rest parts.1

-- the sides where a connection was opened for a stream, and nothing was put out for it yet
abbrev pub with_opened : Way → ℕ → ℕ → List Side → List Side
with_opened WholePassing stream k sides = sides
with_opened Streaming stream k sides = sides ++ opened_side stream k 0 0 ∷ []

-- ---- rows of windows

debt_same : (b : Bool) (k : ℕ) (r : theory_receive_windows.Row) → (if b then theory_receive_windows.given k r else r).debt ≡ r.debt
debt_same true k r = refl
debt_same false k r = refl

module _ (setup : Setup) (kept : View) (fresh_octets back stream route : ℕ) (text : List ℕ) (stage : Stage) where
  -- what is pending before and behind it
  abbrev pub due_before : Pending
  due_before = record balanced { due = ToOpen stream route text stage; fresh = fresh_octets; shared = back }

  -- the number of the connection
  abbrev pub number : ℕ
  number = suc kept.upstreams.count

  abbrev pub due_behind : Pending
  due_behind = record balanced { due = ToSend number text; fresh = fresh_octets; shared = back }

  module _ (run : List Move) (s : State) (leads : Leads setup run kept due_before s) where
    abbrev t : List Entry
    t = tape_of run

    stand : standing.Stands (own setup run s leads.stands leads.so) t s.requests
    stand = stands_here setup run s leads.stands leads.so

    due_is : s.requests.due ≡ ToOpen stream route text stage
    due_is = ap (λ (r : theory_requests.State). r.due) leads.keeps.requests

    count_is : s.requests.count ≡ kept.upstreams.count
    count_is = ap (λ (r : theory_requests.State). r.count) leads.keeps.requests

    -- what is due can be done, whatever is known
    due_for : (known : Known) → known.setup ≡ setup → AreKnown known (conducts run) → IsStarting known t s.requests.live stream route text stage None
    due_for known same knows = subst (IsDue known t s.requests.live) due_is (sound.stands known run s (led_to known setup run s same knows leads.stands leads.so)).due

    due : IsStarting (own setup run s leads.stands leads.so) t s.requests.live stream route text stage None
    due = subst (IsDue (own setup run s leads.stands leads.so) t s.requests.live) due_is stand.due

    -- its stream was given none
    none_given : IsGivenNone stream (exchanges t)
    none_given = given_none_in stream (exchanges t) (λ o i same. due.none_given o (record { is_opened = i; is_given = same }))

    -- the number is above those of all others
    above_others : length (opens t) < number
    above_others = let same = sym count_is ∙ stand.count in omega (arith, same)

    last_is : (told_by s).last ≡ stream
    last_is = (right_here setup run s leads.stands leads.so).last ∙ due.last

    -- ---- how many there are

    stream_opened : is_opened stream t ≡ true
    stream_opened = (and_parts (is_opened stream t) _ due.in_time.active).0

    -- another connection may be opened
    pub room_for_one : kept.upstreams.count < most_streams
    room_for_one =
        let told : theory_errors.IsTold (ledger_of setup (conducts run)).book (summary_of (own setup run s leads.stands leads.so) t) =
        book_told (own setup run s leads.stands leads.so) (conducts run) (own_led setup run s leads.stands leads.so).knows (all_moved (own setup run s leads.stands leads.so) run leads.stands.allowed) (ap (λ (x : State). x.ledger.book.ends) leads.stands.is ∙ leads.stands.goes_on) in
        let few = told.stand.few in
        let less = few_given (exchanges t) (opened t) stream stand.apart (λ o i. (stand.given o i).started) none_given stream_opened in
        let count = sym count_is ∙ stand.count in
        let no_more = no_more_opened t in
        omega (arith, few, less, count, no_more)

    -- its stream is served
    pub stream_served : (told_view kept).served stream ≡ true
    stream_served =
        ap (λ (b : Book). (told_in (summary_in b)).served stream) (sym leads.keeps.book)
        ∙ ap (λ b. b && is_none ((sight_in (told_by s)).cause stream)) ((right_here setup run s leads.stands leads.so).active stream ∙ due.in_time.active)
        ∙ ap (λ (o : Option Cause). is_none o) ((right_here setup run s leads.stands leads.so).cause stream due.in_time.active ∙ due.in_time.no_cause)

    -- ---- the connection is opened

    abbrev first : Decision
    first = Acts (Open number route)

    abbrev one : State
    one = next setup s (Does first)

    abbrev given_one : List Opened
    given_one = record { k = number; route = route; stream = s.ledger.book.last } ∷ s.ledger.book.given

    may_open : requests.MayOpen s.requests number route
    may_open = record { stream = stream; text = text; stage = stage; due = due_is; next = ap suc (sym count_is) }

    rooms : Receiving setup.more_room setup.passing t (rooms_in (told_by s) s)
    rooms = windows_here setup run s leads.stands leads.so

    active_here : is_active (told_by s).last t ≡ true
    active_here = ap (λ n. is_active n t) last_is ∙ due.in_time.active

    none_out : s.windows.out number ≡ 0
    none_out = rooms.counting.out number ∙ ap (λ (x : List ℕ). length x) (nothing_put t number stand.numbered stand.goes above_others)

    none_taken : s.windows.took number ≡ 0
    none_taken = let less = rooms.counting.within number in let none = none_out in omega (arith, less, none)

    window : windows.MayOpen (rooms_in (told_by s) s) number
    window = record {
      active = live_among setup.more_room setup.passing t (rooms_in (told_by s) s) (told_by s).last rooms.keeping ∙ active_here;
      counted = omega arith;
      first =
          (rooms.keeping.streams (told_by s).last active_here).connection
          ∙ ap (λ n. connection_of n (exchanges t)) last_is
          ∙ none_connected stream (exchanges t) none_given;
      unused = none_out;
      untaken = none_taken;
    }

    abbrev new_line : Line
    new_line = record { k = number; route = route; stream = stream; answer = lines.Answer.Pending }

    -- what is held then: what is still to come of the request goes out there
    abbrev pub held_then : List Held
    held_then = held_with stream (unless_whole stage (Going number stage)) kept.upstreams.held

    requests_one : one.requests ≡ record { held = held_then; live = new_line ∷ lives kept.upstreams.live; due = ToSend number text; count = number }
    requests_one = ap (λ (r : theory_requests.State). theory_requests.after setup (told_in (told_behind setup s first)) r (theory_requests.Move.Acts (Open number route))) leads.keeps.requests

    -- ---- what was heard

    -- the tape behind the opening
    abbrev opened_tape : List Entry
    opened_tape = Did (Open number route) ∷ t

    its_then : given number (exchanges opened_tape) ≡ last_stream opened_tape
    its_then = ap (λ b. if b then last_stream t else given number (exchanges t)) (eq-eqb number number refl)

    given_new : given number (exchanges opened_tape) ≡ stream
    given_new = its_then ∙ due.last

    -- the newest exchange of a connection, which is the new one or another
    abbrev exchange_if : Bool → ℕ → Opened
    exchange_if new j = record { k = j; route = if new then route else route_of j (exchanges t); stream = if new then last_stream t else given j (exchanges t) }

    -- nothing was heard of the new exchange
    nothing_heard : heard_by (exchange_on number opened_tape) opened_tape ≡ []
    nothing_heard =
        ap (λ b. heard_by (exchange_if b number) t) (eq-eqb number number refl)
        ∙ (unheard (record { k = number; route = route; stream = last_stream t }) t (subst (λ n. IsGivenNone n (exchanges t)) (sym due.last) none_given) (λ zero. active_some (last_stream t) t (ap (λ n. is_active n t) due.last ∙ due.in_time.active) zero)).0

    -- other connections have the exchange that they had
    exchange_other : (j : ℕ) → (number ≡ j → ⊥) → exchange_on j opened_tape ≡ exchange_on j t
    exchange_other j apart = ap (λ b. exchange_if b j) (ne_eqb number j apart)

    -- ---- what is kept of DATA that waits

    abbrev windows_before : theory_receive_windows.State
    windows_before = rooms_in (told_by s) s

    -- no side is its
    no_side : (side : Side) → find_side stream kept.marks ≡ Some side → ⊥
    no_side side found =
        let some = leads.marked.some stream side found in
        let none : side.k ≡ 0 = sym (leads.marked.stand.rows stream side found).k ∙ ap (λ n. (windows_before.row n).k) (sym last_is) ∙ window.first in
        omega (arith, some, none)

    no_side_kept : find_side stream kept.marks ≡ None
    no_side_kept = by (find_side stream kept.marks) refl
      where
        by : (o : Option Side) → find_side stream kept.marks ≡ o → o ≡ None
        by None found = refl
        by (Some side) found = absurd (no_side side found)

    -- it is above all of which something is kept
    pub above : setup.passing ≡ Streaming → is_above_all stream kept.marks ≡ true
    above streaming = above_all stream kept.marks (λ other side found.
        let on : asked.is_active s.ledger.book.rows other ≡ true = sym (live_here setup run s leads.stands leads.so other) ∙ leads.marked.stand.live other side found in
        due_newest setup run s leads.stands leads.so streaming stream route text stage due_is other (and_parts (asked.has s.ledger.book.rows other) _ on).0
        (λ own. no_side side (ap (λ n. find_side n kept.marks) (sym own) ∙ found)))

    -- and of no stream that the number was given to, which is none, anything is kept
    nobody : find_side (newest_in s number) kept.marks ≡ None
    nobody = by (find_side (newest_in s number) kept.marks) refl
      where
        ungiven : newest_in s number ≡ 0
        ungiven =
            ap (λ os. given number os) (right_here setup run s leads.stands leads.so).given
            ∙ none_of (exchanges t) (λ o i same. let le = within_opened t o stand.numbered stand.goes i in let lt = above_others in let e : o.k ≡ number = same in omega (arith, le, lt, e))
          where
            none_of : (os : List Opened) → ((o : Opened) → IsIn o os → o.k ≡ number → ⊥) → given number os ≡ 0
            none_of [] none = refl
            none_of (o ∷ os) none = ap (λ b. if b then o.stream else given number os) (ne_eqb o.k number (none o (inl refl))) ∙ none_of os (λ p i. none p (inr i))

        by : (o : Option Side) → find_side (newest_in s number) kept.marks ≡ o → o ≡ None
        by None found = refl
        by (Some side) found =
            let on : is_active 0 t ≡ true = sym (live_among setup.more_room setup.passing t windows_before 0 rooms.keeping) ∙ leads.marked.stand.live 0 side (ap (λ n. find_side n kept.marks) (sym ungiven) ∙ found) in
            absurd (active_some 0 t on refl)

    marked_by : (p : Way) → setup.passing ≡ p → AreMarked setup.passing (newest_with number windows_before.stream (newest_in s)) (with_opened p stream number kept.marks) (theory_receive_windows.with_act windows_before (Open number route))
    marked_by WholePassing is = marked_opened_beside setup.passing (newest_in s) kept.marks windows_before leads.marked number route is
    marked_by Streaming is =
        subst (λ n. AreMarked setup.passing (newest_with number windows_before.stream (newest_in s)) (kept.marks ++ opened_side n number 0 0 ∷ []) (theory_receive_windows.with_act windows_before (Open number route))) last_is
        (marked_opened setup.passing (newest_in s) kept.marks windows_before leads.marked number route (omega arith) is window.active (ap (λ n. find_side n kept.marks) last_is ∙ no_side_kept) nobody none_out none_taken)

    module _ (to_head : Bool) (passing : ResponsePassing) (passed : IsPassedBy setup passing) (asks : to_head ≡ is_front_of (codes "HEAD ") text) (reads : Reads [] [] (fresh to_head passing).reader) where
      abbrev pub new_connection : Connection
      new_connection = connections.opened number route stream to_head passing

      -- the new answer stands for nothing
      heard_new : (known : Known) → known.setup ≡ setup → AreKnown known (conducts run) → IsHeard known opened_tape number new_connection.answer
      heard_new known same knows =
          let it = due_for known same knows in
          let some : items known stream t ≡ [] → ⊥ = standing.some_items (items known stream t) it.head it.has_head in
          heard_fresh known opened_tape number to_head passing reads nothing_heard
          (asks ∙ asks_as_text known.setup.keep (items known stream t) text stage it.written
          ∙ head_stays known stream t (Did (Open number route)) some
          ∙ ap (λ n. is_to_head (items known n opened_tape)) (sym given_new))
          (set_up_by setup to_head passing passed known same)

      -- and the others as before
      heard_one : AreHeard setup (Does first ∷ run) (new_connection ∷ kept.upstreams.live)
      heard_one = record {
        so = λ known same knows j c found goes_on calm. elim (eqb_tells number j) [
          | inl is ↦ (
              let it : Some new_connection ≡ Some c = sym (ap (λ b. if b then Some new_connection else find number_of j kept.upstreams.live) is.0) ∙ found in
              let this : new_connection ≡ c = cc in
              subst (λ n. IsHeard known opened_tape n c.answer) is.1 (subst (λ (x : Connection). IsHeard known opened_tape number x.answer) this (heard_new known same knows.0))
              )
          | inr off ↦ (
              let before : find number_of j kept.upstreams.live ≡ Some c = sym (ap (λ b. if b then Some new_connection else find number_of j kept.upstreams.live) off.0) ∙ found in
              heard_by_entry known t (Did (Open number route)) j c.answer refl (exchange_other j off.1)
              (open_begun setup run s leads.stands leads.so kept.upstreams.live (ap (λ (r : theory_requests.State). r.live) leads.keeps.requests) known same knows.0 j c before)
              (leads.heard.so known same knows.0 j c before goes_on (calm_before known c.live.stream (Did (Open number route)) t calm))
              )
        ];
        none_idle = λ j c found idle. elim (eqb_tells number j) [
          | inl is ↦ (
              let it : Some new_connection ≡ Some c = sym (ap (λ b. if b then Some new_connection else find number_of j kept.upstreams.live) is.0) ∙ found in
              let this : new_connection ≡ c = cc in
              let no : lines.Answer.Pending ≡ lines.Answer.Idle = ap (λ (x : Connection). x.live.answer) this ∙ idle in
              cc
              )
          | inr off ↦ leads.heard.none_idle j c (sym (ap (λ b. if b then Some new_connection else find number_of j kept.upstreams.live) off.0) ∙ found) idle
        ];
      }

      -- ---- what is kept then

      abbrev pub opened_view : View
      opened_view = record kept { upstreams = record { held = held_then; live = new_connection ∷ kept.upstreams.live; count = number }; marks = with_opened setup.passing stream number kept.marks }

      -- how much was put out for each connection, and how much of it was taken
      counted_one : (j : ℕ) (x : Connection) → find number_of j opened_view.upstreams.live ≡ Some x → (s.windows.out j ≡ x.out) × (s.windows.took j ≡ x.took)
      counted_one j x found = elim (eqb_tells number j) [
        | inl is ↦ (
            let it : Some new_connection ≡ Some x = sym (ap (λ b. if b then Some new_connection else find number_of j kept.upstreams.live) is.0) ∙ found in
            let this : new_connection ≡ x = cc in (
              ap s.windows.out (sym is.1) ∙ none_out ∙ ap (λ (y : Connection). y.out) this,
              ap s.windows.took (sym is.1) ∙ none_taken ∙ ap (λ (y : Connection). y.took) this,
            )
            )
        | inr off ↦ leads.keeps.counted j x (sym (ap (λ b. if b then Some new_connection else find number_of j kept.upstreams.live) off.0) ∙ found)
      ]

      done : acts.IsDone setup kept due_before run s leads (Open number route) given_one opened_view.upstreams (ToSend number text) opened_view.marks (theory_receive_windows.with_act windows_before (Open number route))
      done = record {
        goes_on = tt;
        may = record { nothing = leads.keeps.owed; begins = sound.opens_next (own setup run s leads.stands leads.so) run s (own_led setup run s leads.stands leads.so) number route may_open; due = may_open; window = window };
        given_is = refl;
        requests = requests_one;
        rooms_are = refl;
        debts = record { fresh = refl; shared = refl; own = λ id. debt_same (windows_before.stream == id) number (s.windows.row id) };
        counted = counted_one;
        heard = heard_one;
        marked = marked_by setup.passing refl;
        in_effect = leads.in_effect;
      }

      -- A connection that is due is opened, and its text is due then.
      pub opened_performs : (outputs : List Output) → OwnSegment setup run s outputs opened_view due_behind (put outputs (Puts (Open number route)))
      opened_performs = acts.acted setup kept due_before run s leads (Open number route) given_one opened_view.upstreams (ToSend number text) opened_view.marks (theory_receive_windows.with_act windows_before (Open number route)) done

-- ---- in the words of the calls

module _ (kept : View) (stream route : ℕ) (text : List ℕ) (stage : Stage) (to_head : Bool) (passing : ResponsePassing) (middle behind : upstreams.State) (sides : List Side) (k count : ℕ) (before between after : List Output)
    (asks : to_head ≡ is_front_of (codes "HEAD ") text) (reads : Reads [] [] (fresh to_head passing).reader)
    (is_number : k ≡ suc kept.upstreams.count) (is_count : count ≡ length text)
    (opened_is : middle ≡ opened_for stream route to_head passing stage kept.upstreams)
    (put_is : behind ≡ record middle { live = map (put_at k count) middle.live }) (sides_are : sides ≡ with_side (passing_in passing) stream k count kept.marks)
    (opens_out : between ≡ put before (Puts (Open k route))) (puts_out : after ≡ put between (Puts (ToUp k text))) where
  -- it is opened
  it_opens : (setup : Setup) (fresh_octets back : ℕ) → IsPassedBy setup passing
      → PerformsOwn setup kept (due_before setup kept fresh_octets back stream route text stage) before (record kept { upstreams = middle; marks = with_opened (passing_in passing) stream k kept.marks }) (record balanced { due = ToSend k text; fresh = fresh_octets; shared = back }) between
  it_opens setup fresh_octets back passed run s leads =
      subst (λ n. OwnSegment setup run s before (record kept { upstreams = middle; marks = with_opened (passing_in passing) stream n kept.marks }) (record balanced { due = ToSend n text; fresh = fresh_octets; shared = back }) between) (sym is_number)
      (subst (λ (u : upstreams.State). OwnSegment setup run s before (record kept { upstreams = u; marks = with_opened (passing_in passing) stream (suc kept.upstreams.count) kept.marks }) (due_behind setup kept fresh_octets back stream route text stage) between) (sym opened_is)
      (subst (λ (p : Way). OwnSegment setup run s before (record kept { upstreams = opened_for stream route to_head passing stage kept.upstreams; marks = with_opened p stream (suc kept.upstreams.count) kept.marks }) (due_behind setup kept fresh_octets back stream route text stage) between) (sym passed.passing)
      (subst (λ (o : List Output). OwnSegment setup run s before (opened_view setup kept fresh_octets back stream route text stage run s leads to_head passing passed asks reads) (due_behind setup kept fresh_octets back stream route text stage) o) (ap (λ n. put before (Puts (Open n route))) (sym is_number) ∙ sym opens_out)
      (opened_performs setup kept fresh_octets back stream route text stage run s leads to_head passing passed asks reads before))))

  sides_put : (p : Way) → passing_in passing ≡ p → (p ≡ WholePassing → kept.marks ≡ []) → sides ≡ change stream (putting count) (with_opened p stream k kept.marks)
  sides_put WholePassing is none =
      sides_are ∙ ap (λ (p : Way). with_side p stream k count kept.marks) is ∙ none refl ∙ ap (λ (ms : List Side). change stream (putting count) ms) (sym (none refl))
  sides_put Streaming is none = sides_are ∙ ap (λ (p : Way). with_side p stream k count kept.marks) is

  -- The calls perform.
  pub calls_perform : (setup : Setup) (fresh_octets back : ℕ) → IsPassedBy setup passing
      → PerformsOwn setup kept (record balanced { due = ToOpen stream route text stage; fresh = fresh_octets; shared = back }) before (record kept { upstreams = behind; marks = sides }) (record balanced { fresh = fresh_octets; shared = back }) after
  calls_perform setup fresh_octets back passed run s leads =
      let opened : View = record kept { upstreams = middle; marks = with_opened (passing_in passing) stream k kept.marks } in
      let of : IfSome (find number_of k middle.live) (λ c. stream ≡ c.live.stream) =
      subst (λ (u : upstreams.State). IfSome (find number_of k u.live) (λ c. stream ≡ c.live.stream)) (sym opened_is)
      (subst (λ b. IfSome (if b then Some (connections.opened (suc kept.upstreams.count) route stream to_head passing) else find number_of k kept.upstreams.live) (λ c. stream ≡ c.live.stream)) (sym (eq-eqb (suc kept.upstreams.count) k (sym is_number))) refl) in
      let puts = calls_send opened k stream count text behind sides between after of is_count put_is (sides_put (passing_in passing) refl (λ whole. leads.marked.none (sym passed.passing ∙ whole))) puts_out setup fresh_octets back in
      own_then setup kept opened (record kept { upstreams = behind; marks = sides }) (due_before setup kept fresh_octets back stream route text stage) (record balanced { due = ToSend k text; fresh = fresh_octets; shared = back }) (record balanced { fresh = fresh_octets; shared = back }) before between after
      (it_opens setup fresh_octets back passed) puts run s leads

-- The new connection isn't done with, since its stream is served.
pub opens_but : (kept : View) (stream route k count : ℕ) (to_head : Bool) (passing : ResponsePassing) (stage : Stage) (middle behind : upstreams.State) (sides : List Side) → (told_view kept).served stream ≡ true
    → middle ≡ opened_for stream route to_head passing stage kept.upstreams → behind ≡ record middle { live = map (put_at k count) middle.live }
    → (id : ℕ) → NoneDoneBut id kept → NoneDoneBut id (record kept { upstreams = behind; marks = sides })
opens_but kept stream route k count to_head passing stage middle behind sides served opened_is put_is id none =
    ap (λ (ls : List Line). list_any (is_done (told_but id kept)) ls)
    (ap (λ (u : upstreams.State). lives u.live) put_is ∙ lives_same (put_at k count) (λ c. refl) middle.live ∙ ap (λ (u : upstreams.State). lives u.live) opened_is)
    ∙ by (id == stream)
  where
    by : (b : Bool) → (not (b || (told_view kept).served stream) || list_any (is_done (told_but id kept)) (lives kept.upstreams.live)) ≡ false
    by true = none
    by false = ap (λ x. not x || list_any (is_done (told_but id kept)) (lives kept.upstreams.live)) served ∙ none
