-- A reset that is owed next is sent, and its stream is over with it.
use Rattle.std.proofs.Common.{◌≡◌, ℕ, ◌+◌, Bool, true, false, not, ◌&&◌, ◌||◌, ◌==◌, nat_lt, List, [], ◌∷◌, ◌++◌, append-nil, length, Option, Some, None, refl, sym, ◌∙◌, ap, subst, inl, if◌then◌else◌}
use Rattle.std.proofs.lemmas.Bool.{and_parts, eqb-true}
use Rattle.std.specs.Prelude.{is_none}
use Rattle.std.specs.List.{list_any}
use Rattle.model.specs.Frames.{Frame, Fits, spell}
use Rattle.model.specs.Logs.{Output}
use Rattle.model.specs.Logs.Output.{ToClient}
use Rattle.model.specs.Setup.{Setup}
use Rattle.model.specs.Tapes.{put}
use Rattle.model.specs.Limits.{most_untaken}
use Rattle.model.specs.Lifetimes.{may_open}
use Rattle.model.specs.ErrorClause.{rst_stream}
use Rattle.model.specs.Openings.{Opened}
use Rattle.theory_errors.specs.Summary.{Stream as Kept, Summary}
use Rattle.theory_errors.specs.Judging.{is_over_in}
use Rattle.theory_errors.specs.Turn.{rest_of}
use Rattle.theory_errors.specs.Rows.{Row, Slot, ids_of, kept_in}
use Rattle.theory_errors.specs.Rows.Slot.{Over}
use Rattle.theory_errors.specs.Rows as rows
use Rattle.theory_errors.specs.Quiet.{noted_of}
use Rattle.theory_errors.specs.Book.{Book, Ledger, ledger_after, summary_in}
use Rattle.theory_responses.specs.State as theory_responses
use Rattle.theory_receive_windows.specs.Marks.{total}
use Rattle.theory_receive_windows.specs.State as theory_receive_windows
use Rattle.theory_requests.specs.Told.{Told}
use Rattle.theory_requests.specs.State as theory_requests
use Rattle.theory_requests.specs.Lines.{without}
use Rattle.theory_requests.specs.State.{Held, id_of}
use Rattle.theory_requests.specs.State.Due.{Nothing}
use Rattle.streams.specs.Asked.{has, is_active, changed}
use Rattle.streams.proofs.Changes.{same_ids}
use Rattle.connection_state.specs.Inbound.{Outside, book_of}
use Rattle.connection_state.specs.Sending.{behind_reset}
use Rattle.connection_state.proofs.SendingBooks.{reset_leads}
use Rattle.connection_state.proofs.SendingEvents.{sent_ledger}
use Rattle.upstream_connections.specs.Kept as upstreams
use Rattle.window_credit.specs.Sides.{Side}
use Rattle.window_credit.specs.Sides as marks
use Rattle.window_credit.specs.Standing.{dropped_of}
use Rattle.window_credit.proofs.Rising.{without_none}
use Rattle.window_credit.proofs.Telling as telling
use Rattle.theory.specs.Moves.{Decision, Move, conduct_of, told_in}
use Rattle.theory.specs.Moves.Decision.{Sends}
use Rattle.theory.specs.Moves.Move.{Does}
use Rattle.theory.specs.State.{State}
use Rattle.theory.specs.Rule.{rooms_in}
use Rattle.theory.specs.Steps.{told_by, told_behind, next, MayGoOn}
use Rattle.theory.proofs.Going.{may_pay}
use Rattle.theory.proofs.Stepping.{one_more}
use Rattle.refinement.specs.View.{View, Pending, GoBack, newest_in, AreMarked, waiting_for, Leads}
use Rattle.refinement.specs.Bringing.{OwnSegment}
use Rattle.refinement.proofs.Kept.{held_behind}
use Rattle.refinement.proofs.Where.{live_here}
use Rattle.refinement.proofs.Marking.{rooms_next, marked_sent}
use Rattle.refinement.proofs.Staying.{so_stays, heard_stays, rows_kept, all_held_served}

-- ---- rows of which one is changed

-- what is found of a stream whose row is changed
pub find_own : (id : ℕ) (slot : Slot) (all : List Row) → has all id ≡ true → rows.find (changed id slot all) id ≡ kept_in slot
find_own id slot [] there = cc
find_own id slot (row ∷ all) there = by (row.id == id) refl (find_own id slot all)
  where
    by : (b : Bool) → (row.id == id) ≡ b → (has all id ≡ true → rows.find (changed id slot all) id ≡ kept_in slot) → rows.find (changed id slot (row ∷ all)) id ≡ kept_in slot
    by true is rest =
        ap (λ b. rows.find ((if b then record { id = row.id; slot = slot } else row) ∷ changed id slot all) id) is ∙ ap (λ b. if b then kept_in slot else rows.find (changed id slot all) id) is
    by false is rest =
        ap (λ b. rows.find ((if b then record { id = row.id; slot = slot } else row) ∷ changed id slot all) id) is
        ∙ ap (λ b. if b then kept_in row.slot else rows.find (changed id slot all) id) is
        ∙ rest (sym (ap (λ b. b || has all id) is) ∙ there)

-- and of any other
pub find_other : (id other : ℕ) (slot : Slot) (all : List Row) → (id == other) ≡ false → rows.find (changed id slot all) other ≡ rows.find all other
find_other id other slot [] apart = refl
find_other id other slot (row ∷ all) apart = by (row.id == id) refl (find_other id other slot all apart)
  where
    by : (b : Bool) → (row.id == id) ≡ b → rows.find (changed id slot all) other ≡ rows.find all other → rows.find (changed id slot (row ∷ all)) other ≡ rows.find (row ∷ all) other
    by false is rest =
        ap (λ b. rows.find ((if b then record { id = row.id; slot = slot } else row) ∷ changed id slot all) other) is
        ∙ ap (λ (k : Kept). if row.id == other then kept_in row.slot else k) rest
    by true is rest =
        let not_it : (row.id == other) ≡ false = ap (λ n. n == other) (eqb-true row.id id is) ∙ apart in
        ap (λ b. rows.find ((if b then record { id = row.id; slot = slot } else row) ∷ changed id slot all) other) is
        ∙ ap (λ b. if b then kept_in slot else rows.find (changed id slot all) other) not_it
        ∙ rest
        ∙ sym (ap (λ b. if b then kept_in row.slot else rows.find all other) not_it)

pub has_same : (id other : ℕ) (slot : Slot) (all : List Row) → has (changed id slot all) other ≡ has all other
has_same id other slot all = ap (λ (ids : List ℕ). list_any (λ n. n == other) ids) (same_ids id slot all)

-- a stream that is over isn't active
pub inactive : (id : ℕ) (by_us : Bool) (all : List Row) → is_active (changed id (Over by_us) all) id ≡ false
inactive id by_us all = ap (λ b. b && not (is_over_in (rows.find (changed id (Over by_us) all) id))) (has_same id id (Over by_us) all) ∙ by (has all id) refl
  where
    closed : (us : Bool) → (us || false || true) ≡ true
    closed true = refl
    closed false = refl

    by : (b : Bool) → has all id ≡ b → (b && not (is_over_in (rows.find (changed id (Over by_us) all) id))) ≡ false
    by false there = refl
    by true there = ap (λ (k : Kept). not (is_over_in k)) (find_own id (Over by_us) all there) ∙ ap not (closed by_us)

pub active_same : (id other : ℕ) (slot : Slot) (all : List Row) → (id == other) ≡ false → is_active (changed id slot all) other ≡ is_active all other
active_same id other slot all apart =
    ap (λ b. b && not (is_over_in (rows.find (changed id slot all) other))) (has_same id other slot all) ∙ ap (λ (k : Kept). has all other && not (is_over_in k)) (find_other id other slot all apart)

-- ---- the reset

-- what is kept behind it
abbrev pub reset_view : View → ℕ → ℕ → View
reset_view kept id code = record {
  inbound = record kept.inbound { rows = changed id (Over true) kept.inbound.rows };
  offers = record kept.offers { kept = theory_responses.without id kept.offers.kept };
  upstreams = record kept.upstreams { held = without id_of id kept.upstreams.held };
  marks = marks.without id kept.marks;
  encoding = kept.encoding;
  untaken = kept.untaken + length (spell (rst_stream id code));
}

module _ (setup : Setup) (kept : View) (pending : Pending) (rest : List Frame) (id code : ℕ) (front : pending.owed ≡ rst_stream id code ∷ rest) (nothing_due : pending.due ≡ Nothing) (known : may_open kept.inbound.drained (ids_of kept.inbound.rows) id ≡ false) (fits : Fits (rst_stream id code)) (calm : nat_lt most_untaken kept.untaken ≡ false) (outputs : List Output) where
  abbrev frame : Frame
  frame = rst_stream id code

  abbrev new : View
  new = reset_view kept id code

  module _ (run : List Move) (s : State) (leads : Leads setup run kept pending s) where
    abbrev decision : Decision
    decision = Sends (noted_of frame) s.tables.encoding.table

    abbrev book : Book
    book = s.ledger.book

    abbrev outside : Outside
    outside = record { given = book.given; untaken = kept.untaken }

    none_begun : book.block_out ≡ None
    none_begun = ap (λ (b : Book). b.block_out) leads.keeps.book

    queue : s.ledger.queue ≡ frame ∷ rest
    queue = leads.keeps.owed ∙ front

    -- the ledger behind it
    ledger : ledger_after setup s.ledger (conduct_of decision) ≡ record { book = behind_reset book frame; queue = rest }
    ledger =
        sent_ledger setup false s.ledger (noted_of frame) (behind_reset book frame) [] refl (reset_leads setup book (noted_of frame) (rows_kept setup run s leads.stands) none_begun refl)
        ∙ ap (λ (q : List Frame). record { book = behind_reset book frame; queue = rest_of q ++ [] }) queue
        ∙ ap (λ (q : List Frame). record { book = behind_reset book frame; queue = q }) (append-nil rest)

    told : told_behind setup s decision ≡ summary_in (behind_reset book frame)
    told = ap (λ (d : Ledger). summary_in d.book) ledger

    may : MayGoOn setup s (Does decision)
    may = (
      ap (λ (d : Ledger). d.book.ends) ledger ∙ ap (λ (b : Book). b.ends) leads.keeps.book,
      may_pay setup (told_behind setup s decision) s (noted_of frame) s.tables.encoding.table (record {
        between = record {
          open_yet = ap (λ (b : Book). b.closed) leads.keeps.book;
          none_begun = none_begun;
          before_due = inl (ap (λ (r : theory_requests.State). r.due) leads.keeps.requests ∙ nothing_due);
          no_note = refl;
          not_to_open = ap (λ (b : Book). may_open b.drained (ids_of b.rows) id) leads.keeps.book ∙ known;
        };
        front = subst (λ (q : List Frame). q ≡ frame ∷ rest_of q) (sym queue) refl;
        control = refl;
        owing = refl;
        calm = ap (λ (b : Book). nat_lt most_untaken b.untaken && true) leads.keeps.book ∙ ap (λ b. b && true) calm;
      }),
    )

    abbrev then_state : State
    then_state = next setup s (Does decision)

    book_kept : then_state.ledger.book ≡ book_of (record { given = then_state.ledger.book.given; untaken = new.untaken }) new.inbound
    book_kept =
        ap (λ (d : Ledger). d.book) ledger
        ∙ ap (λ (b : Book). behind_reset b frame) leads.keeps.book
        ∙ ap (λ (os : List Opened). book_of (record { given = os; untaken = new.untaken }) new.inbound) (sym (ap (λ (d : Ledger). d.book.given) ledger))

    -- ---- what is held

    abbrev after_it : Told
    after_it = told_in (summary_in (behind_reset book frame))

    others_served : (other : ℕ) → (id == other) ≡ false → after_it.served other ≡ (told_in (told_by s)).served other
    others_served other apart =
        ap (λ b. b && is_none (rows.find (changed id (Over true) book.rows) other).outline.cause) (active_same id other (Over true) book.rows apart)
        ∙ ap (λ (k : Kept). is_active book.rows other && is_none k.outline.cause) (find_other id other (Over true) book.rows apart)

    not_served : after_it.served id ≡ false
    not_served = ap (λ b. b && is_none (rows.find (changed id (Over true) book.rows) id).outline.cause) (inactive id true book.rows)

    held_then : theory_requests.kept after_it s.requests.held ≡ without id_of id s.requests.held
    held_then =
        held_behind (told_in (told_by s)) after_it id others_served s.requests.held (all_held_served setup run s leads.stands leads.so)
        ∙ ap (λ b. if b then s.requests.held else without id_of id s.requests.held) not_served

    requests_kept : then_state.requests ≡ upstreams.with_due new.upstreams pending.due
    requests_kept =
        ap (λ (u : Summary). theory_requests.after setup (told_in u) s.requests (theory_requests.Move.Sends (noted_of frame))) told
        ∙ ap (λ (hs : List Held). record s.requests { held = hs }) held_then
        ∙ ap (λ (r : theory_requests.State). record r { held = without id_of id r.held }) leads.keeps.requests

    -- ---- octets that go back

    abbrev over_with_it : Bool
    over_with_it = is_active book.rows id && not (is_active then_state.ledger.book.rows id)

    live_so : (other : ℕ) → theory_receive_windows.is_live (rooms_in (told_by s) s) other ≡ is_active book.rows other
    live_so = live_here setup run s leads.stands leads.so

    -- where it wasn't active nothing is kept of it
    none_kept : over_with_it ≡ false → marks.find id kept.marks ≡ None
    none_kept not_over = by (marks.find id kept.marks) refl
      where
        idle : is_active then_state.ledger.book.rows id ≡ false
        idle = ap (λ (d : Ledger). is_active d.book.rows id) ledger ∙ inactive id true book.rows

        clash : (b : Bool) → b ≡ true → (b && not (is_active then_state.ledger.book.rows id)) ≡ true
        clash b on = ap (λ x. x && not (is_active then_state.ledger.book.rows id)) on ∙ ap not idle

        by : (o : Option Side) → marks.find id kept.marks ≡ o → o ≡ None
        by None found = refl
        by (Some side) found =
            let no : true ≡ false = sym (clash (is_active book.rows id) (sym (live_so id) ∙ leads.marked.stand.live id side found)) ∙ not_over in
            cc

    -- nothing is kept of it any more, and what waited for it goes back
    left : marks.unless_over over_with_it id kept.marks ≡ marks.without id kept.marks
    left = by over_with_it refl
      where
        by : (b : Bool) → over_with_it ≡ b → marks.unless_over b id kept.marks ≡ marks.without id kept.marks
        by true over = refl
        by false over = sym (without_none id kept.marks (none_kept over))

    dropped_is : dropped_of over_with_it id kept.marks ≡ waiting_for id kept
    dropped_is = by over_with_it refl
      where
        by : (b : Bool) → over_with_it ≡ b → dropped_of b id kept.marks ≡ waiting_for id kept
        by true over = refl
        by false over = sym (ap (λ (o : Option Side). total (marks.queue_if o)) (none_kept over))

    was_active : over_with_it ≡ true → theory_receive_windows.is_live (rooms_in (told_by s) s) id ≡ true
    was_active over = live_so id ∙ (and_parts (is_active book.rows id) (not (is_active then_state.ledger.book.rows id)) over).0

    debt_then : then_state.windows.debt ≡ pending.shared + waiting_for id kept
    debt_then =
        telling.drops (newest_in s) kept.marks (rooms_in (told_by s) s) leads.marked.stand over_with_it id was_active
        ∙ ap (λ n. s.windows.debt + n) dropped_is
        ∙ ap (λ n. n + waiting_for id kept) leads.keeps.credited.shared

    marked_then : AreMarked setup.passing (newest_in then_state) (marks.without id kept.marks) (rooms_in (told_by then_state) then_state)
    marked_then =
        subst (λ (ms : List Side). AreMarked setup.passing (newest_in then_state) ms (rooms_in (told_by then_state) then_state)) left
        (subst (AreMarked setup.passing (newest_in s) (marks.unless_over over_with_it id kept.marks)) (sym (rooms_next setup run s leads.stands leads.so decision may (so_stays setup run decision tt leads.so)))
        (marked_sent setup.passing (newest_in s) kept.marks (rooms_in (told_by s) s) leads.marked (noted_of frame) over_with_it))

    -- they go back on other streams than this as before
    back_before : (other : ℕ) → GoBack new.inbound other → GoBack kept.inbound other
    back_before other back = by (id == other) refl
      where
        by : (b : Bool) → (id == other) ≡ b → GoBack kept.inbound other
        by true is =
            absurd (let no : true ≡ false = sym (subst (λ n. is_active (changed id (Over true) kept.inbound.rows) n ≡ true) (sym (eqb-true id other is)) back.active) ∙ inactive id true kept.inbound.rows in cc)
        by false apart = record {
          active = sym (active_same id other (Over true) kept.inbound.rows apart) ∙ back.active;
          goes_on = ap (λ (k : Kept). k.ended_by_client) (sym (find_other id other (Over true) kept.inbound.rows apart)) ∙ back.goes_on;
        }

    -- A reset that is owed next is sent, and its stream is over: what waited of its DATA goes back.
    pub reset_paid : OwnSegment setup run s outputs new (record pending { owed = rest; shared = pending.shared + waiting_for id kept }) (put outputs (ToClient (spell frame)))
    reset_paid = record {
      segment = record {
        moves = Does decision ∷ [];
        state = then_state;
        by_rule = (s, refl, may, refl);
        leads = record {
          stands = one_more setup run s (Does decision) leads.stands may;
          so = so_stays setup run decision tt leads.so;
          heard = heard_stays setup run s leads.stands leads.so kept.upstreams.live (ap (λ (r : theory_requests.State). r.live) leads.keeps.requests) decision tt leads.heard;
          keeps = record {
            book = book_kept;
            owed = ap (λ (d : Ledger). d.queue) ledger;
            offers = ap (λ (o : theory_responses.State). record o { kept = theory_responses.without id o.kept }) leads.keeps.offers;
            requests = requests_kept;
            decoding = leads.keeps.decoding;
            encoding = leads.keeps.encoding;
            read = leads.keeps.read;
            credited = record {
              fresh = leads.keeps.credited.fresh;
              shared = debt_then;
              own = λ other back. leads.keeps.credited.own other (back_before other back);
            };
            counted = leads.keeps.counted;
          };
          marked = marked_then;
          in_effect = leads.in_effect;
        };
        puts = refl;
      };
      are_own = (fits, tt);
    }
