-- The effect of the last frame is over, and the octets of DATA that came with it go back, on the connection and on its stream while that goes on.
use Rattle.std.proofs.Common.{◌≡◌, ℕ, ◌+◌, ◌<◌, Bool, true, false, not, ◌&&◌, ◌||◌, ◌==◌, List, [], ◌∷◌, Option, Some, None, refl, sym, ◌∙◌, ap, subst, if◌then◌else◌, arith}
use Rattle.std.specs.Prelude.{nat_lt, pos, ◌+ℤ◌}
use Rattle.std.proofs.lemmas.Bool.{and_parts, and_from, not-true, eq-eqb, eqb-true}
use Rattle.model.specs.Frames.{Frame, Fits, spell}
use Rattle.model.specs.Logs.{Output}
use Rattle.model.specs.Logs.Output.{ToClient}
use Rattle.model.specs.Setup.{Setup, Passing}
use Rattle.model.specs.Setup.Passing.{Whole, Streaming}
use Rattle.model.specs.Tapes.{put}
use Rattle.theory_errors.specs.Judging.{is_crowded_in}
use Rattle.theory_errors.specs.Owing.{must_end_in}
use Rattle.model.specs.Limits.{most_untaken}
use Rattle.theory_errors.specs.Rows as rows
use Rattle.theory_errors.specs.Quiet.{noted_of}
use Rattle.theory_errors.specs.Book.{Book, summary_in}
use Rattle.theory_responses.specs.Sight.{sight_in}
use Rattle.theory_receive_windows.specs.Rule.{OwesAll}
use Rattle.theory_receive_windows.specs.State as theory_receive_windows
use Rattle.theory_receive_windows.specs.State.{kept_of, with_given, must_wait, settle_by, change, owing, paid, waits, is_live}
use Rattle.theory_receive_windows.proofs.Counting.{Counting}
use Rattle.theory_requests.specs.State.{Held, Due}
use Rattle.window_credit.specs.Sides.{Side, waiting, has_untaken, has_untaken_if, is_past, is_past_if}
use Rattle.window_credit.specs.Sides.{find as find_side, change as change_side}
use Rattle.window_credit.proofs.Telling.{must_wait_is, untaken_newest}
use Rattle.streams.specs.Asked.{is_active}
use Rattle.streams.specs.Sending.{given_back}
use Rattle.connection_state.specs.Inbound.{Inbound}
use Rattle.connection_state.specs.Sending.{with_kept, behind_update, behind_stream_update}
use Rattle.connection_state.proofs.SendingBooks.{update_leads, stream_update_leads}
use Rattle.effects.specs.Sent.{window_update}
use Rattle.effects.proofs.Going.{update_grants, update_goes}
use Rattle.theory.specs.Moves.{Move, told_in}
use Rattle.theory.specs.Moves.Move.{Settles}
use Rattle.theory.specs.State.{State, tape_of}
use Rattle.theory.specs.Rule.{rooms_in}
use Rattle.theory.specs.Steps.{told_by, next}
use Rattle.theory.proofs.Stepping.{one_more}
use Rattle.refinement.specs.View.{View, Pending, balanced, GoBack, Keeps, AreMarked, AreSo, Leads, IsCredited, newest_in}
use Rattle.refinement.specs.Rest.{GoesOn}
use Rattle.refinement.specs.Bringing.{PerformsOwn}
use Rattle.refinement.proofs.Kept.{AreServed}
use Rattle.refinement.proofs.Where.{windows_here}
use Rattle.refinement.proofs.Marking.{rooms_settled, marked_back, marked_waits}
use Rattle.refinement.proofs.Staying.{so_settles, heard_settles, rows_kept}
use Rattle.event_handlers.specs.paying.Returning.{own_of, due_on_stream, goes_back_on, given_on_connection, given_on_stream}
use Rattle.event_handlers.proofs.paying.Rows.{stays, active_stays, not_to_open}
use Rattle.event_handlers.proofs.paying.Giving.{IsGivenBack, gives}

-- ---- what is to go back

-- what is to go back when the effect of the last frame isn't over, and when it is
abbrev pub fresh : ℕ → ℕ → Pending
fresh count shared = record balanced { fresh = count; shared = shared }

abbrev pub due_back : ℕ → ℕ → ℕ → Pending
due_back id count shared = record balanced { shared = shared; own = own_of id count }

-- ---- the effect is over

module _ (setup : Setup) (kept : View) (count shared : ℕ) (newest : is_past kept.inbound.last kept.marks ≡ false) (run : List Move) (s : State) (leads : Leads setup run kept (fresh count shared) s) where
  abbrev rooms : theory_receive_windows.State
  rooms = rooms_in (told_by s) s

  abbrev stream : ℕ
  stream = kept.inbound.last

  -- the stream of the last frame
  last : s.ledger.book.last ≡ stream
  last = ap (λ (b : Book). b.last) leads.keeps.book

  abbrev then_state : State
  then_state = next setup s Settles

  -- not all is taken that was put out for it just where that is kept so
  waits_is : must_wait setup.passing rooms ≡ has_untaken stream kept.marks
  waits_is = by setup.passing refl
    where
      none_kept : setup.passing ≡ Whole → has_untaken stream kept.marks ≡ false
      none_kept whole = ap (has_untaken stream) (leads.marked.none whole)

      streaming : setup.passing ≡ Streaming → (o : Option Side) → find_side rooms.stream kept.marks ≡ o → must_wait Streaming rooms ≡ has_untaken rooms.stream kept.marks
      streaming is (Some side) found =
          let own : side.past ≡ false = sym (ap is_past_if found) ∙ ap (λ n. is_past n kept.marks) last ∙ newest in
          must_wait_is (newest_in s) kept.marks rooms leads.marked.stand rooms.stream side found own refl
      streaming is None none = nowhere (is_live rooms rooms.stream) refl ∙ sym (ap has_untaken_if none)
        where
          counting : Counting (tape_of run) rooms
          counting = (windows_here setup run s leads.stands leads.so).counting

          nowhere : (live : Bool) → is_live rooms rooms.stream ≡ live → (live && nat_lt (rooms.took (rooms.row rooms.stream).k) (rooms.out (rooms.row rooms.stream).k)) ≡ false
          nowhere false off = refl
          nowhere true on =
              let at_none : (rooms.row rooms.stream).k ≡ 0 = leads.marked.all is rooms.stream on none in
              ap (λ k. nat_lt (rooms.took k) (rooms.out k)) at_none
              ∙ ap (λ n. nat_lt n (rooms.out 0)) counting.none_took
              ∙ ap (nat_lt 0) counting.none_out

      by : (p : Passing) → setup.passing ≡ p → must_wait p rooms ≡ has_untaken stream kept.marks
      by Whole is = sym (none_kept is)
      by Streaming is = streaming is (find_side rooms.stream kept.marks) refl ∙ ap (λ n. has_untaken n kept.marks) last

  windows_then : (b : Bool) → has_untaken stream kept.marks ≡ b → then_state.windows ≡ kept_of (settle_by b rooms)
  windows_then b is = ap (λ x. kept_of (settle_by x rooms)) (waits_is ∙ is)

  so_then : AreSo setup (Settles ∷ run)
  so_then = so_settles setup run leads.so

  rooms_then : (b : Bool) → has_untaken stream kept.marks ≡ b → rooms_in (told_by then_state) then_state ≡ settle_by b rooms
  rooms_then b is = rooms_settled setup run s leads.stands leads.so so_then ∙ ap (λ x. settle_by x rooms) (waits_is ∙ is)

  -- where they go back

  credited_back : IsCredited (due_back stream count (count + shared)) kept.inbound (kept_of (settle_by false rooms))
  credited_back =
      let was = leads.keeps.credited in
      let fresh_is = was.fresh in
      let shared_is = was.shared in
      record {
        fresh = refl;
        shared = omega (arith, fresh_is, shared_is);
        own = λ id goes. by id goes (s.ledger.book.last == id) refl;
      }
    where
      by : (id : ℕ) → GoBack kept.inbound id → (b : Bool) → (s.ledger.book.last == id) ≡ b → (change s.ledger.book.last (owing s.windows.count) s.windows.row id).debt ≡ own_of stream count id
      by id goes true is =
          let own_is = leads.keeps.credited.own id goes in
          let fresh_is = leads.keeps.credited.fresh in
          ap (λ b. (if b then owing s.windows.count (s.windows.row id) else s.windows.row id).debt) is
          ∙ (let sum : (s.windows.row id).debt + s.windows.count ≡ count = omega (arith, own_is, fresh_is) in sum)
          ∙ sym (ap (λ b. if b then count else 0) (ap (λ n. n == id) (sym last) ∙ is))
      by id goes false is =
          ap (λ b. (if b then owing s.windows.count (s.windows.row id) else s.windows.row id).debt) is
          ∙ leads.keeps.credited.own id goes
          ∙ sym (ap (λ b. if b then count else 0) (ap (λ n. n == id) (sym last) ∙ is))

  -- where they wait

  credited_waits : IsCredited (record balanced { shared = shared }) kept.inbound (kept_of (settle_by true rooms))
  credited_waits = record {
    fresh = refl;
    shared = leads.keeps.credited.shared;
    own = λ id goes. by (s.ledger.book.last == id) (s.windows.row id) (leads.keeps.credited.own id goes);
  }
    where
      by : (b : Bool) (r : theory_receive_windows.Row) → r.debt ≡ 0 → (if b then waits (s.windows.out (s.windows.row s.ledger.book.last).k) s.windows.count r else r).debt ≡ 0
      by true r none = none
      by false r none = none

  keeps_then : (sides : List Side) (pending : Pending) → pending.owed ≡ [] → pending.due ≡ Due.Nothing → (b : Bool) → has_untaken stream kept.marks ≡ b → IsCredited pending kept.inbound (kept_of (settle_by b rooms)) → Keeps (record kept { marks = sides }) pending then_state
  keeps_then sides pending nothing nothing_due b is credited = record {
    book = leads.keeps.book;
    owed = leads.keeps.owed ∙ sym nothing;
    offers = leads.keeps.offers;
    requests = leads.keeps.requests ∙ ap (λ (d : Due). Rattle.upstream_connections.specs.Kept.with_due kept.upstreams d) (sym nothing_due);
    decoding = leads.keeps.decoding;
    encoding = leads.keeps.encoding;
    read = leads.keeps.read;
    credited = subst (λ (w : theory_receive_windows.Kept). IsCredited pending kept.inbound w) (sym (windows_then b is)) credited;
    counted = λ k c found.
        let so = leads.keeps.counted k c found in
        let same = counts b in (
          ap (λ (w : theory_receive_windows.Kept). w.out k) (windows_then b is) ∙ ap (λ (f : ℕ → ℕ). f k) same.0 ∙ so.0,
          ap (λ (w : theory_receive_windows.Kept). w.took k) (windows_then b is) ∙ ap (λ (f : ℕ → ℕ). f k) same.1 ∙ so.1,
        );
  }
    where
      counts : (b : Bool) → ((kept_of (settle_by b rooms)).out ≡ s.windows.out) × ((kept_of (settle_by b rooms)).took ≡ s.windows.took)
      counts true = (refl, refl)
      counts false = (refl, refl)

  settled_back : has_untaken stream kept.marks ≡ false → Leads setup (Settles ∷ run) kept (due_back stream count (count + shared)) then_state
  settled_back none = record {
    stands = one_more setup run s Settles leads.stands tt;
    so = so_then;
    heard = heard_settles setup run kept.upstreams.live leads.heard;
    keeps = keeps_then kept.marks (due_back stream count (count + shared)) refl refl false none credited_back;
    marked = subst (AreMarked setup.passing (newest_in s) kept.marks) (sym (rooms_then false none)) (marked_back setup.passing (newest_in s) kept.marks rooms leads.marked);
    in_effect = tt;
  }

  -- what is kept where they wait
  abbrev waiting_view : View
  waiting_view = record kept { marks = change_side stream (waiting count) kept.marks }

  settled_waits : has_untaken stream kept.marks ≡ true → Leads setup (Settles ∷ run) waiting_view (record balanced { shared = shared }) then_state
  settled_waits some = record {
    stands = one_more setup run s Settles leads.stands tt;
    so = so_then;
    heard = heard_settles setup run kept.upstreams.live leads.heard;
    keeps = keeps_then (change_side stream (waiting count) kept.marks) (record balanced { shared = shared }) refl refl true some credited_waits;
    marked =
        subst (AreMarked setup.passing (newest_in s) (change_side stream (waiting count) kept.marks)) (sym (rooms_then true some))
        (subst (λ n. AreMarked setup.passing (newest_in s) (change_side stream (waiting n) kept.marks) (settle_by true rooms)) leads.keeps.credited.fresh
        (subst (λ n. AreMarked setup.passing (newest_in s) (change_side n (waiting rooms.count) kept.marks) (settle_by true rooms)) last
        (by (find_side rooms.stream kept.marks) refl)));
    in_effect = tt;
  }
    where
      by : (o : Option Side) → find_side rooms.stream kept.marks ≡ o → AreMarked setup.passing (newest_in s) (change_side rooms.stream (waiting rooms.count) kept.marks) (settle_by true rooms)
      by (Some side) found =
          let own : side.past ≡ false = sym (ap is_past_if found) ∙ ap (λ n. is_past n kept.marks) last ∙ newest in
          marked_waits setup.passing (newest_in s) kept.marks rooms leads.marked side found own
      by None none = absurd (let no : true ≡ false = sym some ∙ ap (λ n. has_untaken n kept.marks) (sym last) ∙ ap has_untaken_if none in cc)

-- The effect of the last frame is over: its octets are to go back, where all is taken that was put out for its stream.
pub settles : (setup : Setup) (kept : View) (count shared : ℕ) (outputs : List Output) → is_past kept.inbound.last kept.marks ≡ false → has_untaken kept.inbound.last kept.marks ≡ false → PerformsOwn setup kept (fresh count shared) outputs kept (due_back kept.inbound.last count (count + shared)) outputs
settles setup kept count shared outputs newest none run s leads = record {
  segment = record { moves = Settles ∷ []; state = then_state setup kept count shared newest run s leads; by_rule = (s, refl, tt, refl); leads = settled_back setup kept count shared newest run s leads none; puts = refl };
  are_own = tt;
}

-- Else they wait.
pub defers : (setup : Setup) (kept : View) (count shared : ℕ) (outputs : List Output) → has_untaken kept.inbound.last kept.marks ≡ true
    → PerformsOwn setup kept (fresh count shared) outputs (record kept { marks = change_side kept.inbound.last (waiting count) kept.marks }) (record balanced { shared = shared }) outputs
defers setup kept count shared outputs some run s leads = record {
  segment = record { moves = Settles ∷ []; state = then_state setup kept count shared (untaken_newest kept.marks kept.inbound.last some) run s leads; by_rule = (s, refl, tt, refl); leads = settled_waits setup kept count shared (untaken_newest kept.marks kept.inbound.last some) run s leads some; puts = refl };
  are_own = tt;
}

-- ---- where the stream doesn't go on

-- Nothing goes back on it.
pub forgets : (setup : Setup) (kept : View) (id count : ℕ) (outputs : List Output) → goes_back_on kept.inbound.rows id ≡ false → PerformsOwn setup kept (due_on_stream id count) outputs kept balanced outputs
forgets setup kept id count outputs over run s leads = record {
  segment = record { moves = []; state = s; by_rule = refl; leads = record { stands = leads.stands; so = leads.so; heard = leads.heard; keeps = keeps; marked = leads.marked; in_effect = tt }; puts = refl };
  are_own = tt;
}
  where
    by : (other : ℕ) → GoBack kept.inbound other → (b : Bool) → (id == other) ≡ b → (s.windows.row other).debt ≡ 0
    by other goes true is =
        absurd (let no : false ≡ true = sym over ∙ ap (goes_back_on kept.inbound.rows) (eqb-true id other is) ∙ and_from (is_active kept.inbound.rows other) (not (rows.find kept.inbound.rows other).ended_by_client) goes.active (ap not goes.goes_on) in cc)
    by other goes false is = leads.keeps.credited.own other goes ∙ ap (λ b. if b then count else 0) is

    keeps : Keeps kept balanced s
    keeps = record {
      book = leads.keeps.book;
      owed = leads.keeps.owed;
      offers = leads.keeps.offers;
      requests = leads.keeps.requests;
      decoding = leads.keeps.decoding;
      encoding = leads.keeps.encoding;
      read = leads.keeps.read;
      credited = record { fresh = leads.keeps.credited.fresh; shared = leads.keeps.credited.shared; own = λ other goes. by other goes (id == other) refl };
      counted = leads.keeps.counted;
    }

-- ---- frames that give them back

-- such a frame fits
update_fits : (id count : ℕ) → id < 2147483648 → Fits (window_update id count)
update_fits id count small = record { kind = omega arith; flags = omega arith; id = small; payload = omega arith }

-- the connection goes on by what is told
goes_on_told : (setup : Setup) (run : List Move) (kept : View) (pending : Pending) (s : State) → Leads setup run kept pending s → GoesOn kept → must_end_in (told_by s) ≡ false
goes_on_told setup run kept pending s leads on = ap (λ (b : Book). must_end_in (summary_in b)) leads.keeps.book ∙ on

-- not too many octets are untaken by what is told
uncrowded : (setup : Setup) (run : List Move) (kept : View) (pending : Pending) (s : State) → Leads setup run kept pending s → nat_lt most_untaken kept.untaken ≡ false → is_crowded_in (told_by s) ≡ false
uncrowded setup run kept pending s leads few = ap (λ (b : Book). nat_lt most_untaken b.untaken) leads.keeps.book ∙ few

module _ (setup : Setup) (kept : View) (count : ℕ) (own : ℕ → ℕ) (some : 0 < count) (small : count < 2147483648) (on : GoesOn kept) (few : nat_lt most_untaken kept.untaken ≡ false) (outputs : List Output) where
  -- what is to go back, on the connection too and then on streams alone
  abbrev both : Pending
  both = record balanced { shared = count; own = own }

  abbrev streams : Pending
  streams = record balanced { own = own }

  -- the receiving window of the connection behind it
  abbrev with_room : Inbound
  with_room = record kept.inbound { room = kept.inbound.room +ℤ pos count }

  shared_shown : (run : List Move) (s : State) → Leads setup run kept both s → IsGivenBack kept with_room (kept.untaken + 13) streams (window_update 0 count) setup s
  shared_shown run s leads = record {
    book = behind_update s.ledger.book (window_update 0 count);
    leads_to = update_leads setup s.ledger.book (noted_of (window_update 0 count)) (rows_kept setup run s leads.stands) (ap (λ (b : Book). b.block_out) leads.keeps.book) refl refl;
    book_is =
        ap (λ (b : Book). behind_update b (window_update 0 count)) leads.keeps.book
        ∙ ap (λ n. behind_book n) (update_grants 0 count small);
    given_same = refl;
    served = λ hs are. are;
    not_to_open = refl;
    goes_on = goes_on_told setup run kept both s leads on;
    rightly = update_goes (told_by s) 0 count some small (uncrowded setup run kept both s leads few) refl;
    owed = update_grants 0 count small ∙ sym leads.keeps.credited.shared;
    credited =
        let was = leads.keeps.credited in
        record { fresh = was.fresh; shared = refl; own = λ id goes. was.own id (record { active = goes.active; goes_on = goes.goes_on }) };
  }
    where
      behind_book : ℕ → Book
      behind_book n = record (Rattle.connection_state.specs.Inbound.book_of (record { given = s.ledger.book.given; untaken = kept.untaken + 13 }) kept.inbound) { room = kept.inbound.room +ℤ pos n }

  -- Octets go back on the connection.
  pub gives_shared : PerformsOwn setup kept both outputs (given_on_connection kept count) streams (put outputs (ToClient (spell (window_update 0 count))))
  gives_shared = gives setup kept with_room (kept.untaken + 13) refl both streams refl refl refl refl (window_update 0 count) refl (update_fits 0 count (omega arith)) outputs shared_shown

module _ (setup : Setup) (kept : View) (id count : ℕ) (goes : goes_back_on kept.inbound.rows id ≡ true) (in_range : id < 2147483648) (of_stream : (id == 0) ≡ false) (some : 0 < count) (small : count < 2147483648) (on : GoesOn kept) (few : nat_lt most_untaken kept.untaken ≡ false) (outputs : List Output) where
  abbrev frame : Frame
  frame = window_update id count

  -- the rows behind it
  abbrev with_row : Inbound
  with_row = record kept.inbound { rows = with_kept id (given_back count (rows.find kept.inbound.rows id)) kept.inbound.rows }

  live : is_active kept.inbound.rows id ≡ true
  live = (and_parts (is_active kept.inbound.rows id) (not (rows.find kept.inbound.rows id).ended_by_client) goes).0

  open_side : (rows.find kept.inbound.rows id).ended_by_client ≡ false
  open_side = not-true (rows.find kept.inbound.rows id).ended_by_client (and_parts (is_active kept.inbound.rows id) (not (rows.find kept.inbound.rows id).ended_by_client) goes).1

  -- octets go back on the same streams
  back_before : (other : ℕ) → GoBack with_row other → GoBack kept.inbound other
  back_before other back = record {
    active = sym (active_stays kept.inbound.rows id count live other) ∙ back.active;
    goes_on = sym (stays kept.inbound.rows id count live (λ k. k.ended_by_client) (λ k. refl) other) ∙ back.goes_on;
  }

  module _ (run : List Move) (s : State) (leads : Leads setup run kept (due_on_stream id count) s) where
    -- what is told of the stream
    told_live : (sight_in (told_by s)).active id ≡ true
    told_live = ap (λ (b : Book). (sight_in (summary_in b)).active id) leads.keeps.book ∙ live

    told_open : (sight_in (told_by s)).ended id ≡ false
    told_open = ap (λ (b : Book). (sight_in (summary_in b)).ended id) leads.keeps.book ∙ open_side

    owed_own : OwesAll (sight_in (told_by s)) (rooms_in (told_by s) s) frame (id == 0)
    owed_own =
        subst (OwesAll (sight_in (told_by s)) (rooms_in (told_by s) s) frame) (sym of_stream)
        (told_live, told_open, update_grants id count small ∙ sym (ap (λ b. if b then count else 0) (eq-eqb id id refl)) ∙ sym (leads.keeps.credited.own id (record { active = live; goes_on = open_side })))

    served_same : (hs : List Held) → AreServed (told_in (told_by s)) hs → AreServed (told_in (summary_in (behind_stream_update s.ledger.book frame))) hs
    served_same [] are = tt
    served_same (h ∷ hs) are = (
      ap (λ (b : Book). (told_in (summary_in (behind_stream_update b frame))).served h.id) leads.keeps.book
          ∙ ap (λ n. Rattle.streams.specs.Sending.is_served (with_kept id (given_back n (rows.find kept.inbound.rows id)) kept.inbound.rows) h.id) (update_grants id count small)
          ∙ Rattle.event_handlers.proofs.paying.Rows.served_stays kept.inbound.rows id count live h.id
          ∙ sym (ap (λ (b : Book). (told_in (summary_in b)).served h.id) leads.keeps.book)
          ∙ are.0,
      served_same hs are.1,
    )

    credited_own : IsCredited balanced with_row (kept_of (with_given false (rooms_in (told_by s) s) (noted_of frame)))
    credited_own =
        let was = leads.keeps.credited in
        record {
          fresh = was.fresh;
          shared = was.shared;
          own = λ other back. by other back (id == other) refl;
        }
      where
        by : (other : ℕ) → GoBack with_row other → (b : Bool) → (id == other) ≡ b → (change id paid s.windows.row other).debt ≡ 0
        by other back true is = ap (λ b. (if b then paid (s.windows.row other) else s.windows.row other).debt) is
        by other back false is =
            ap (λ b. (if b then paid (s.windows.row other) else s.windows.row other).debt) is
            ∙ leads.keeps.credited.own other (back_before other back)
            ∙ ap (λ b. if b then count else 0) is

    abbrev own_book : ℕ → Book
    own_book n = record (Rattle.connection_state.specs.Inbound.book_of (record { given = s.ledger.book.given; untaken = kept.untaken + 13 }) kept.inbound) { rows = with_kept id (given_back n (rows.find kept.inbound.rows id)) kept.inbound.rows }

    own_shown : IsGivenBack kept with_row (kept.untaken + 13) balanced frame setup s
    own_shown = record {
      book = behind_stream_update s.ledger.book frame;
      leads_to = stream_update_leads setup s.ledger.book (noted_of frame) (rows_kept setup run s leads.stands) (ap (λ (b : Book). b.block_out) leads.keeps.book) refl of_stream;
      book_is = ap (λ (b : Book). behind_stream_update b frame) leads.keeps.book ∙ ap own_book (update_grants id count small);
      given_same = refl;
      served = served_same;
      not_to_open = not_to_open (told_by s).drained (told_by s).opened id (and_parts ((sight_in (told_by s)).opened id) _ told_live).0;
      goes_on = goes_on_told setup run kept (due_on_stream id count) s leads on;
      rightly = update_goes (told_by s) id count some small (uncrowded setup run kept (due_on_stream id count) s leads few) (ap (λ b. b || (sight_in (told_by s)).active id && not ((sight_in (told_by s)).ended id)) of_stream ∙ and_from ((sight_in (told_by s)).active id) (not ((sight_in (told_by s)).ended id)) told_live (ap not told_open));
      owed = owed_own;
      credited = subst (λ b. IsCredited balanced with_row (kept_of (with_given b (rooms_in (told_by s) s) (noted_of frame)))) (sym of_stream) credited_own;
    }

  -- Octets go back on one stream.
  pub gives_own : PerformsOwn setup kept (due_on_stream id count) outputs (given_on_stream kept id count) balanced (put outputs (ToClient (spell frame)))
  gives_own = gives setup kept with_row (kept.untaken + 13) refl (due_on_stream id count) balanced refl refl refl refl frame refl (update_fits id count in_range) outputs own_shown
