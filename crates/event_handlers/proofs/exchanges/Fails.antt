-- An upstream's answer fails: the gateway replies to its stream itself, and the connection is closed, or is open still, or is gone with it. This
-- performs.
use Rattle.std.proofs.Common.{◌≡◌, ℕ, Bool, true, false, not, ◌&&◌, ◌==◌, List, [], ◌∷◌, map, Option, Some, None, refl, sym, ◌∙◌, ap, subst, inl, inr, if◌then◌else◌}
use Rattle.std.specs.Prelude.{option_map, is_none}
use Rattle.std.proofs.lemmas.Bool.{ne_eqb, eq-eqb, and_parts}
use Rattle.std.proofs.lemmas.Bool.Decides.{eqb_tells}
use Rattle.model.specs.Frames.{Frame, internal_error}
use Rattle.model.specs.Logs.{Event, Output}
use Rattle.model.specs.Logs.Act.{Close}
use Rattle.model.specs.Logs.Output.{Does as Puts}
use Rattle.model.specs.Setup.{Setup}
use Rattle.model.specs.Setup.Passing.{Whole}
use Rattle.model.specs.Tapes.{Entry, put}
use Rattle.model.specs.Tapes.Entry.{Happened}
use Rattle.model.specs.ErrorClause.{rst_stream}
use Rattle.model.specs.Causes.Cause.{BadAnswer}
use Rattle.model.specs.Openings.{Opened, given}
use Rattle.model.specs.Known.{Known}
use Rattle.model.specs.Lifetimes.{is_opened, is_over, is_active}
use Rattle.model.specs.Causes.{Cause}
use Rattle.model.specs.Courses.{course as course_of, upstream_of}
use Rattle.model.proofs.OpenedLaws.{none_zero}
use Rattle.theory_errors.specs.Judging.{is_active_in}
use Rattle.theory_errors.specs.Rule.{AreKnown}
use Rattle.theory_errors.specs.Rows as rows
use Rattle.theory_errors.specs.Book.{Book, Ledger, ledger_after, summary_in}
use Rattle.theory_responses.specs.State as theory_responses
use Rattle.theory_responses.specs.State.{answered}
use Rattle.theory_receive_windows.specs.Policy.{Gates, may_come}
use Rattle.theory_receive_windows.specs.State as theory_receive_windows
use Rattle.theory_requests.specs.Told.{Told}
use Rattle.theory_requests.specs.State as theory_requests
use Rattle.theory_requests.specs.Lines as lines
use Rattle.theory_requests.specs.Lines.{Heard, Line, k_of, find, without, is_idle, lines_heard, answer_by, idle_beside}
use Rattle.theory_requests.specs.Lines.Heard.{Partly, Keepable, Finished}
use Rattle.theory_requests.specs.State.{Held, id_of, drop_from}
use Rattle.theory_requests.specs.State.Due.{Nothing}
use Rattle.theory_requests.specs.Rule.{is_done_by}
use Rattle.theory_requests.proofs.Lists.{found_key, find_gone, find_map}
use Rattle.streams.specs.Asked as asked
use Rattle.connection_state.specs.Inbound.{book_of}
use Rattle.connection_state.specs.Sending.{behind_failure, reset_if_out}
use Rattle.connection_state.proofs.SendingEvents.{fails_lead, happened_ledger}
use Rattle.upstream_connections.specs.Kept as upstreams
use Rattle.upstream_response.specs.Waiting.{Answer}
use Rattle.upstream_response.specs.HeldInside.{octets_of}
use Rattle.upstream_connections.specs.Connections.{Connection, number_of, lives, answer_at, heard_at, marked_at}
use Rattle.theory.specs.Moves.{Decision, Move, conduct_of, told_in, failed as failed_request}
use Rattle.theory.specs.Moves.Decision.{Fails}
use Rattle.theory.specs.Moves.Move.{Does}
use Rattle.theory.specs.State.{State, conducts, tape_of}
use Rattle.theory.specs.Rule.{rooms_in}
use Rattle.theory.specs.Answered.{IsAnswered}
use Rattle.theory.specs.Coming.{MayBreakOff}
use Rattle.theory.specs.Steps.{told_by, told_behind, next, MayGoOn, Stands}
use Rattle.theory.proofs.Coming.{may_fail}
use Rattle.theory.proofs.Stepping.{one_more}
use Rattle.refinement.specs.View.{View, Pending, balanced, newest_in, GoBack, IsCredited, AreMarked, Leads, AreSo, AreHeard}
use Rattle.refinement.specs.Hearing.{IsHeard}
use Rattle.refinement.specs.Rest.{IsAtRest, told_view}
use Rattle.refinement.specs.Bringing.{Course}
use Rattle.refinement.proofs.Idles.{finished_closed}
use Rattle.refinement.proofs.Kept.{held_behind, served_dropped}
use Rattle.refinement.proofs.Lives.{IsDone, lives_closed, lives_same, lives_heard}
use Rattle.refinement.proofs.Marking.{rooms_next, marked_event}
use Rattle.refinement.proofs.Sound as sound
use Rattle.refinement.proofs.Staying.{found_before, found_from, rows_kept, all_held_served}
use Rattle.refinement.proofs.Where.{led_to, right_here}
use Rattle.event_handlers.specs.exchanges.Giving.{replied_to, closed_at}
use Rattle.event_handlers.specs.exchanges.Taking.{answered_with}
use Rattle.event_handlers.proofs.exchanges.Coming as coming
use Rattle.event_handlers.proofs.exchanges.FailedRows as failing
use Rattle.event_handlers.proofs.exchanges.Following.{course_own}
use Rattle.event_handlers.proofs.paying.Closes.{closes}

-- behind one that failed a connection whose stream isn't served is done with
failed_done : (most others : ℕ) (heard : Heard) → (heard ≡ Keepable → ⊥) → is_done_by (answer_by most others heard) false ≡ true
failed_done most others Partly never = refl
failed_done most others Keepable never = absurd (never refl)
failed_done most others Finished never = refl

-- and isn't idle
failed_working : (most others : ℕ) (heard : Heard) → (heard ≡ Keepable → ⊥) → is_idle (answer_by most others heard) ≡ false
failed_working most others Partly never = refl
failed_working most others Keepable never = absurd (never refl)
failed_working most others Finished never = refl

-- one that goes, whatever its answer was
pub without_answer : (k : ℕ) (answer : Answer) (cs : List Connection) → without number_of k (map (answer_at k answer) cs) ≡ without number_of k cs
without_answer k answer [] = refl
without_answer k answer (c ∷ cs) = by (c.live.k == k) refl (without_answer k answer cs)
  where
    by : (b : Bool) → (c.live.k == k) ≡ b → without number_of k (map (answer_at k answer) cs) ≡ without number_of k cs
        → (if b then without number_of k (map (answer_at k answer) cs) else answer_at k answer c ∷ without number_of k (map (answer_at k answer) cs)) ≡ (if b then without number_of k cs else c ∷ without number_of k cs)
    by true is more = more
    by false is more = ap (λ b. let x : Connection = record c { answer = if b then answer else c.answer } in x ∷ without number_of k (map (answer_at k answer) cs)) is ∙ ap (λ (xs : List Connection). c ∷ xs) more

-- the reset that is owed, where a final head is out
abbrev pub resets_for : View → ℕ → List Frame
resets_for kept stream = if is_none (rows.find kept.inbound.rows stream).outline.cause && (rows.find kept.inbound.rows stream).head_out then rst_stream stream internal_error ∷ [] else []

-- The answer for a stream fails with what came in: its connection is open still, but where too long a response failed, which is passed on
-- whole; and it may be closed at once, where no reset is owed.
pub record FailsBy (setup : Setup) (kept : View) (run : List Move) (s : State) (k stream : ℕ) (outputs : List Output) (entry : Entry) : Type 0 where
  pub opened : (setup.passing ≡ Whole → ⊥) → (answer : Answer) → Course setup run s outputs entry (replied_to stream (answered_with k answer kept.offers kept)) (record balanced { owed = resets_for kept stream }) outputs
  pub closed : resets_for kept stream ≡ [] → Course setup run s outputs entry (closed_at k (replied_to stream kept)) (record balanced { owed = resets_for kept stream }) (put outputs (Puts (Close k)))

module _ (setup : Setup) (kept : View) (rest : IsAtRest kept) (run : List Move) (s : State) (leads : Leads setup run kept balanced s) (k : ℕ) (c : Connection) (found : find number_of k kept.upstreams.live ≡ Some c) (working : is_idle c.live.answer ≡ false)
    (event : Event) (of : upstream_of event ≡ k) (breaks_off : MayBreakOff event)
    (quiet : (x : theory_receive_windows.State) → theory_receive_windows.with_event x event ≡ record x { settled = false }) (comes : (gates : Gates) (rooms : theory_receive_windows.State) → gates.is_up k ≡ true → may_come gates rooms event ≡ true)
    (w : Heard) (never : w ≡ Keepable → ⊥) (so : (known : Known) → known.setup ≡ setup → AreKnown known (conducts run) → IsAnswered known (tape_of run) (Fails event c.live.stream w)) where
  abbrev stream : ℕ
  stream = c.live.stream

  abbrev decision : Decision
  decision = Fails event stream w

  abbrev book : Book
  book = s.ledger.book

  abbrev one : State
  one = next setup s (Does decision)

  abbrev one_run : List Move
  one_run = Does decision ∷ run

  active_here : asked.is_active book.rows stream ≡ true
  active_here = (coming.event_of setup kept rest run s leads k c found working event of).active

  no_cause : (rows.find book.rows stream).outline.cause ≡ None
  no_cause = (coming.event_of setup kept rest run s leads k c found working event of).no_cause

  given_here : given (upstream_of event) book.given ≡ stream
  given_here =
      ap (λ n. given n book.given) of
      ∙ ap (λ (os : List Opened). given k os) (right_here setup run s leads.stands leads.so).given
      ∙ coming.given_is_stream setup kept rest run s leads k c found working

  stream_some : (stream == 0) ≡ false
  stream_some = ne_eqb stream 0 (λ zero.
      let on : is_active stream (tape_of run) ≡ true = sym ((right_here setup run s leads.stands leads.so).active stream) ∙ active_here in
      let opened : is_opened stream (tape_of run) ≡ true = (and_parts (is_opened stream (tape_of run)) (not (is_over stream (tape_of run))) on).0 in
      let no : true ≡ false = sym opened ∙ ap (λ n. is_opened n (tape_of run)) zero ∙ none_zero (tape_of run) in
      absurd (let clash : true ≡ false = no in cc))

  -- ---- the answer fails

  ledger_one : ledger_after setup s.ledger (conduct_of decision) ≡ record { book = behind_failure book stream; queue = reset_if_out book stream }
  ledger_one =
      happened_ledger setup true s.ledger event (behind_failure book stream) (reset_if_out book stream)
      (fails_lead setup book event stream (rows_kept setup run s leads.stands) (ap (λ n. n == 0) of ∙ coming.number_some setup kept rest run s leads k c found working) given_here stream_some)

  may_one : MayGoOn setup s (Does decision)
  may_one = (
    ap (λ (d : Ledger). d.book.ends) ledger_one,
    may_fail setup (told_behind setup s decision) s (coming.ready setup kept rest run s leads k c found working) event stream w (record {
      answer = coming.may_answer setup kept rest run s leads k c found working event of comes;
      of_upstream = breaks_off;
      about = ap (λ n. is_active_in n (told_by s)) given_here ∙ active_here;
      caused = ap (λ (d : Ledger). (rows.find d.book.rows stream).outline.cause) ledger_one ∙ failing.cause_then book.rows stream active_here no_cause;
    }),
  )

  stands_one : Stands setup one_run one
  stands_one = one_more setup run s (Does decision) leads.stands may_one

  so_one : AreSo setup one_run
  so_one known same knows = (leads.so known same knows.0, so known same knows.0)

  -- the gateway replies to the stream itself then, whatever is known
  caused_one : (known : Known) → known.setup ≡ setup → AreKnown known (conducts one_run) → (course_of known stream (Happened event ∷ tape_of run)).cause ≡ Some BadAnswer
  caused_one known same knows =
      let right = sound.right known one_run one (led_to known setup one_run one same knows stands_one so_one) in
      let active : asked.is_active one.ledger.book.rows stream ≡ true = ap (λ (d : Ledger). asked.is_active d.book.rows stream) ledger_one ∙ failing.active_then book.rows stream active_here stream ∙ active_here in
      sym (right.cause stream (sym (right.active stream) ∙ active))
      ∙ ap (λ (d : Ledger). (rows.find d.book.rows stream).outline.cause) ledger_one
      ∙ failing.cause_then book.rows stream active_here no_cause

  -- ---- what is held

  abbrev told_one : Told
  told_one = told_in (summary_in (behind_failure book stream))

  not_served : told_one.served stream ≡ false
  not_served = failing.not_served book.rows stream active_here no_cause

  held_one : theory_requests.kept told_one s.requests.held ≡ without id_of stream s.requests.held
  held_one =
      held_behind (told_in (told_by s)) told_one stream (failing.served_other book.rows stream active_here) s.requests.held (all_held_served setup run s leads.stands leads.so)
      ∙ ap (λ b. if b then s.requests.held else without id_of stream s.requests.held) not_served

  -- ---- fields that are the same behind both

  windows_one : one.windows ≡ record s.windows { settled = false }
  windows_one = ap theory_receive_windows.kept_of (quiet (rooms_in (told_by s) s))

  abbrev rooms : theory_receive_windows.State
  rooms = rooms_in (told_by s) s

  marked_one : AreMarked setup.passing (newest_in one) kept.marks (rooms_in (told_by one) one)
  marked_one =
      subst (λ (os : List Opened). AreMarked setup.passing (λ j. given j os) kept.marks (rooms_in (told_by one) one)) (sym (ap (λ (d : Ledger). d.book.given) ledger_one))
      (subst (AreMarked setup.passing (newest_in s) kept.marks) (sym (rooms_next setup run s leads.stands leads.so decision may_one so_one ∙ quiet rooms)) (marked_event setup.passing (newest_in s) kept.marks rooms leads.marked))

  abbrev new : View
  new = replied_to stream kept

  abbrev pending : Pending
  pending = record balanced { owed = resets_for kept stream }

  book_one : one.ledger.book ≡ book_of (record { given = book.given; untaken = kept.untaken }) new.inbound
  book_one = ap (λ (d : Ledger). d.book) ledger_one ∙ ap (λ (b : Book). behind_failure b stream) leads.keeps.book

  queue_one : one.ledger.queue ≡ resets_for kept stream
  queue_one = ap (λ (d : Ledger). d.queue) ledger_one ∙ ap (λ (b : Book). reset_if_out b stream) leads.keeps.book

  offers_one : one.offers ≡ new.offers
  offers_one = ap (λ (o : theory_responses.State). record o { kept = theory_responses.change stream (answered BadAnswer) o.kept }) leads.keeps.offers

  active_kept : asked.is_active kept.inbound.rows stream ≡ true
  active_kept = ap (λ (b : Book). asked.is_active b.rows stream) (sym leads.keeps.book) ∙ active_here

  cause_kept : (rows.find kept.inbound.rows stream).outline.cause ≡ None
  cause_kept = ap (λ (b : Book). (rows.find b.rows stream).outline.cause) (sym leads.keeps.book) ∙ no_cause

  back_before : (id : ℕ) → GoBack new.inbound id → GoBack kept.inbound id
  back_before id back = record {
    active = sym (failing.active_then kept.inbound.rows stream active_kept id) ∙ back.active;
    goes_on = sym (failing.ended_then kept.inbound.rows stream active_kept id) ∙ back.goes_on;
  }

  credited_one : IsCredited pending new.inbound one.windows
  credited_one = record {
    fresh = ap (λ (x : theory_receive_windows.Kept). x.count) windows_one ∙ leads.keeps.credited.fresh;
    shared = ap (λ (x : theory_receive_windows.Kept). x.debt) windows_one ∙ leads.keeps.credited.shared;
    own = λ id back. ap (λ (x : theory_receive_windows.Kept). (x.row id).debt) windows_one ∙ leads.keeps.credited.own id (back_before id back);
  }

  counted_one : (j : ℕ) (x : Connection) → find number_of j kept.upstreams.live ≡ Some x → (one.windows.out j ≡ x.out) × (one.windows.took j ≡ x.took)
  counted_one j x is = let was = leads.keeps.counted j x is in (ap (λ (y : theory_receive_windows.Kept). y.out j) windows_one ∙ was.0, ap (λ (y : theory_receive_windows.Kept). y.took j) windows_one ∙ was.1)

  -- what was put out is so far what the new state says, whatever else changed
  course : (ups : upstreams.State) → one.requests ≡ upstreams.with_due ups Nothing → AreHeard setup one_run ups.live → ((j : ℕ) (x : Connection) → find number_of j ups.live ≡ Some x → (one.windows.out j ≡ x.out) × (one.windows.took j ≡ x.took))
      → (outputs : List Output) → Course setup run s outputs (Happened event) (record new { upstreams = ups }) pending outputs
  course ups requests heard counted outputs = record {
    segment = record {
      moves = Does decision ∷ [];
      state = one;
      by_rule = (s, refl, may_one, refl);
      leads = record {
        stands = stands_one;
        so = so_one;
        heard = heard;
        keeps = record {
          book = book_one ∙ ap (λ (os : List Opened). book_of (record { given = os; untaken = kept.untaken }) new.inbound) (sym (ap (λ (b : Book). b.given) book_one));
          owed = queue_one;
          offers = offers_one;
          requests = requests;
          decoding = leads.keeps.decoding;
          encoding = leads.keeps.encoding;
          read = leads.keeps.read;
          credited = credited_one;
          counted = counted;
        };
        marked = marked_one;
        in_effect = tt;
      };
      puts = refl;
    };
    own = [];
    begins = refl;
    are_own = tt;
  }

  module _ (as_heard : failed_request event w ≡ theory_requests.Move.Hears event w) (answer : Answer) where
    -- how far its response is then, and what its answer is
    abbrev progress : lines.Answer
    progress = answer_by setup.most_idle (idle_beside k (lives kept.upstreams.live)) w

    abbrev behind : List Connection
    behind = map (answer_at k answer) (heard_at setup.most_idle k w kept.upstreams.live)

    abbrev heard_view : View
    heard_view = replied_to stream (record kept { upstreams = record kept.upstreams { live = behind } })

    requests_one : one.requests ≡ upstreams.with_due heard_view.upstreams Nothing
    requests_one =
        ap (λ (m : theory_requests.Move). theory_requests.after setup (told_in (told_behind setup s decision)) s.requests m) as_heard
        ∙ ap (λ (d : Ledger). theory_requests.after setup (told_in (summary_in d.book)) s.requests (theory_requests.Move.Hears event w)) ledger_one
        ∙ ap (λ (hs : List Held). record { held = hs; live = lines_heard setup.most_idle (upstream_of event) w s.requests.live; due = s.requests.due; count = s.requests.count }) held_one
        ∙ ap (λ n. record { held = without id_of stream s.requests.held; live = lines_heard setup.most_idle n w s.requests.live; due = s.requests.due; count = s.requests.count }) of
        ∙ ap (λ (r : theory_requests.State). record { held = without id_of stream r.held; live = lines_heard setup.most_idle k w r.live; due = r.due; count = r.count }) leads.keeps.requests
        ∙ ap (λ (ls : List Line). record { held = without id_of stream kept.upstreams.held; live = ls; due = Nothing; count = kept.upstreams.count }) (sym (lives_same (answer_at k answer) (λ y. refl) (heard_at setup.most_idle k w kept.upstreams.live) ∙ lives_heard setup.most_idle k w kept.upstreams.live))

    -- what each was before
    from_two : (j : ℕ) (now : Connection) → find number_of j behind ≡ Some now → (y : Connection) × (find number_of j kept.upstreams.live ≡ Some y) × (answer_at k answer (marked_at k progress y) ≡ now)
    from_two j now is =
        let last = found_from (answer_at k answer) (λ y. refl) (heard_at setup.most_idle k w kept.upstreams.live) j now is in
        let first = found_from (marked_at k progress) (λ y. refl) kept.upstreams.live j last.before last.there in
        (first.before, first.there, ap (answer_at k answer) first.is ∙ last.is)

    own_one : (j : ℕ) (y : Connection) → find number_of j kept.upstreams.live ≡ Some y → j ≡ k → y ≡ c
    own_one j y there here = let own : ◌≡◌ {A = Option Connection} (Some y) (Some c) = sym there ∙ ap (λ n. find number_of n kept.upstreams.live) here ∙ found in let this : y ≡ c = cc in this

    heard_one : AreHeard setup one_run behind
    heard_one = record {
      so = λ known same knows j now is on calm.
          let from = from_two j now is in
          let y = from.0 in
          let number : y.live.k ≡ j = found_key number_of j kept.upstreams.live y from.1 in
          let its : y.live.stream ≡ now.live.stream = ap (λ (z : Connection). z.live.stream) from.2 in
          elim (eqb_tells j k) [
            | inl here ↦ absurd (
                let no : ◌≡◌ {A = Option Cause} (Some BadAnswer) None =
                sym (caused_one known same knows) ∙ ap (λ n. (course_of known n (Happened event ∷ tape_of run)).cause) (ap (λ (z : Connection). z.live.stream) (sym (own_one j y from.1 here.1)) ∙ its) ∙ calm in
                let clash : ◌≡◌ {A = Option Cause} (Some BadAnswer) None = no in cc
                )
            | inr off ↦ (
                let other : (y.live.k == k) ≡ false = ap (λ n. n == k) number ∙ off.0 in
                subst (λ (a : Answer). IsHeard known (Happened event ∷ tape_of run) j a) (sym (ap (λ b. if b then answer else y.answer) other) ∙ ap (λ (z : Connection). z.answer) from.2)
                (coming.others_heard setup kept rest run s leads k c found working event of known same knows.0 j y off.1 from.1 (sym (ap (λ b. if b then progress else y.live.answer) other) ∙ ap (λ (z : Connection). z.live.answer) from.2 ∙ on)
                (ap (λ n. (course_of known n (Happened event ∷ tape_of run)).cause) its ∙ calm))
                )
          ];
      none_idle = λ j now is idle.
          let from = from_two j now is in
          let y = from.0 in
          let number : y.live.k ≡ j = found_key number_of j kept.upstreams.live y from.1 in
          elim (eqb_tells j k) [
            | inl here ↦ absurd (
                let its : (y.live.k == k) ≡ true = ap (λ n. n == k) number ∙ here.0 in
                let no : true ≡ false = sym (ap is_idle (sym (ap (λ b. if b then progress else y.live.answer) its) ∙ ap (λ (z : Connection). z.live.answer) from.2 ∙ idle)) ∙ failed_working setup.most_idle (idle_beside k (lives kept.upstreams.live)) w never in
                let clash : true ≡ false = no in cc
                )
            | inr off ↦ (
                let other : (y.live.k == k) ≡ false = ap (λ n. n == k) number ∙ off.0 in
                ap octets_of (sym (sym (ap (λ b. if b then answer else y.answer) other) ∙ ap (λ (z : Connection). z.answer) from.2))
                ∙ leads.heard.none_idle j y from.1 (sym (ap (λ b. if b then progress else y.live.answer) other) ∙ ap (λ (z : Connection). z.live.answer) from.2 ∙ idle)
                )
          ];
    }

    -- The answer fails, and its connection is open still, of whose answer nothing more is asked.
    failure_heard : (outputs : List Output) → Course setup run s outputs (Happened event) heard_view pending outputs
    failure_heard = course heard_view.upstreams requests_one heard_one (λ j now is.
        let from = from_two j now is in
        let was = counted_one j from.0 from.1 in
        (was.0 ∙ ap (λ (z : Connection). z.out) from.2, was.1 ∙ ap (λ (z : Connection). z.took) from.2))

    -- its response isn't whole
    pub failure_open : w ≡ Partly → (outputs : List Output) → Course setup run s outputs (Happened event) (replied_to stream (answered_with k answer kept.offers kept)) pending outputs
    failure_open part outputs =
        subst (λ (cs : List Connection). Course setup run s outputs (Happened event) (replied_to stream (record kept { upstreams = record kept.upstreams { live = map (answer_at k answer) cs } })) pending outputs)
        (ap (λ (h : Heard). heard_at setup.most_idle k h kept.upstreams.live) part ∙ coming.partly_same setup kept rest run s leads k c found working) (failure_heard outputs)

    -- ---- the connection is closed then

    done : IsDone (told_view heard_view) behind k
    done = record {
      connection = answer_at k answer (marked_at k progress c);
      found =
          find_map number_of (answer_at k answer) (λ y. refl) k (heard_at setup.most_idle k w kept.upstreams.live)
          ∙ ap (option_map (answer_at k answer)) (find_map number_of (marked_at k progress) (λ y. refl) k kept.upstreams.live ∙ ap (option_map (marked_at k progress)) found);
      done =
          ap (λ b. is_done_by (if b then progress else c.live.answer) ((told_view heard_view).served stream)) (eq-eqb c.live.k k (found_key number_of k kept.upstreams.live c found))
          ∙ ap (is_done_by progress) (failing.not_served kept.inbound.rows stream active_kept cause_kept)
          ∙ failed_done setup.most_idle (idle_beside k (lives kept.upstreams.live)) w never;
    }

    -- The answer fails with octets or with the end of its connection, which is closed then.
    pub failure_closed : resets_for kept stream ≡ [] → (outputs : List Output) → Course setup run s outputs (Happened event) (closed_at k new) pending (put outputs (Puts (Close k)))
    failure_closed unreset outputs =
        subst (λ (fs : List Frame). Course setup run s outputs (Happened event) (closed_at k new) (record balanced { owed = fs }) (put outputs (Puts (Close k)))) (sym unreset)
        (subst (λ (cs : List Connection). Course setup run s outputs (Happened event) (record (closed_at k new) { upstreams = record { held = map (drop_from k) (without id_of stream kept.upstreams.held); live = cs; count = kept.upstreams.count } }) balanced (put outputs (Puts (Close k))))
        (without_answer k answer (heard_at setup.most_idle k w kept.upstreams.live) ∙ finished_closed k progress kept.upstreams.live)
        (course_own setup run s outputs outputs (put outputs (Puts (Close k))) heard_view (closed_at k heard_view) balanced balanced (Happened event)
        (subst (λ (fs : List Frame). Course setup run s outputs (Happened event) heard_view (record balanced { owed = fs }) outputs) unreset (failure_heard outputs))
        (closes setup heard_view 0 k (λ top below. done) outputs)))

  -- ---- the connection is gone with it

  module _ (as_failed : failed_request event w ≡ theory_requests.Move.Fails k) where
    -- what is kept then
    abbrev gone_view : View
    gone_view = replied_to stream (closed_at k kept)

    held_gone : theory_requests.kept told_one (map (drop_from k) s.requests.held) ≡ without id_of stream (map (drop_from k) s.requests.held)
    held_gone =
        held_behind (told_in (told_by s)) told_one stream (failing.served_other book.rows stream active_here) (map (drop_from k) s.requests.held) (served_dropped (told_in (told_by s)) k s.requests.held (all_held_served setup run s leads.stands leads.so))
        ∙ ap (λ b. if b then map (drop_from k) s.requests.held else without id_of stream (map (drop_from k) s.requests.held)) not_served

    requests_gone : one.requests ≡ upstreams.with_due gone_view.upstreams Nothing
    requests_gone =
        ap (λ (m : theory_requests.Move). theory_requests.after setup (told_in (told_behind setup s decision)) s.requests m) as_failed
        ∙ ap (λ (d : Ledger). theory_requests.after setup (told_in (summary_in d.book)) s.requests (theory_requests.Move.Fails k)) ledger_one
        ∙ ap (λ (hs : List Held). record { held = hs; live = without k_of k s.requests.live; due = s.requests.due; count = s.requests.count }) held_gone
        ∙ ap (λ (r : theory_requests.State). record { held = without id_of stream (map (drop_from k) r.held); live = without k_of k r.live; due = r.due; count = r.count }) leads.keeps.requests
        ∙ ap (λ (ls : List Line). record { held = without id_of stream (map (drop_from k) kept.upstreams.held); live = ls; due = Nothing; count = kept.upstreams.count }) (sym (lives_closed k kept.upstreams.live))

    heard_gone : AreHeard setup one_run (without number_of k kept.upstreams.live)
    heard_gone = record {
      so = λ known same knows j x is on calm.
          coming.others_heard setup kept rest run s leads k c found working event of known same knows.0 j x (apart_from j x is) (found_before k j kept.upstreams.live x is) on calm;
      none_idle = λ j x is. leads.heard.none_idle j x (found_before k j kept.upstreams.live x is);
    }
      where
        apart_from : (j : ℕ) (x : Connection) → find number_of j (without number_of k kept.upstreams.live) ≡ Some x → j ≡ k → ⊥
        apart_from j x is same = let clash : ◌≡◌ {A = Option Connection} None (Some x) = sym (find_gone number_of k kept.upstreams.live) ∙ ap (λ n. find number_of n (without number_of k kept.upstreams.live)) (sym same) ∙ is in absurd (let no : ◌≡◌ {A = Option Connection} None (Some x) = clash in cc)

    -- The answer fails with its connection.
    pub failure_gone : (outputs : List Output) → Course setup run s outputs (Happened event) gone_view pending outputs
    failure_gone = course gone_view.upstreams requests_gone heard_gone (λ j x is. counted_one j x (found_before k j kept.upstreams.live x is))
