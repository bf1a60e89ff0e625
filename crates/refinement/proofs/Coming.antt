-- A frame of the client is taken that is no error of the connection: where that leads, by what is kept.
use Rattle.std.proofs.Common.{◌≡◌, ℕ, ◌+◌, Bool, true, false, not, ◌&&◌, ◌||◌, ◌==◌, List, [], ◌∷◌, map, Some, refl, sym, ◌∙◌, ap, subst, if◌then◌else◌, arith}
use Rattle.std.proofs.lemmas.Bool.{and_parts, and_from, or_parts, eqb-true}
use Rattle.model.specs.Frames.{Frame}
use Rattle.model.specs.Logs.{Output}
use Rattle.model.specs.Setup.{Setup}
use Rattle.model.specs.Tables.{Table}
use Rattle.model.specs.Tapes.{Noted}
use Rattle.model.specs.Tapes.Entry.{Came}
use Rattle.model.specs.Decoding.{is_read}
use Rattle.model.specs.Lifetimes.{opens_by}
use Rattle.model.specs.ErrorClause.{is_fatal}
use Rattle.model.specs.WindowsOnTape.{is_any, data_length}
use Rattle.model.proofs.OpenedLaws.{not_opened}
use Rattle.theory_errors.specs.Summary.{Stream as Kept, Summary}
use Rattle.theory_errors.specs.Judging.{is_over_in, completed_in, fault_for}
use Rattle.theory_errors.specs.Owing.{fault_in, owes_in}
use Rattle.theory_errors.specs.After.{kept_behind, ended_by_client_after}
use Rattle.theory_errors.specs.Rows.{Row, ids_of, slot_of, kept_in, row_behind, find}
use Rattle.theory_errors.specs.Rows as rows
use Rattle.theory_errors.specs.Book.{Book, summary_in, book_after}
use Rattle.theory_errors.specs.Tidy.{AreKept}
use Rattle.theory_errors.proofs.Rows.{find_changed, over_stays, slot_alike}
use Rattle.theory_errors.proofs.RowsKept.{opens_own}
use Rattle.theory_responses.specs.Rule.{found_by}
use Rattle.theory_responses.specs.State as theory_responses
use Rattle.theory_receive_windows.specs.State as theory_receive_windows
use Rattle.theory_requests.specs.Told.{Told}
use Rattle.theory_requests.specs.State as theory_requests
use Rattle.theory_requests.specs.Lines.{find as find_one, without}
use Rattle.theory_requests.specs.State.{Due, Held, id_of}
use Rattle.header_blocks.specs.Encoding.{Encoding}
use Rattle.theory_header_tables.specs.State as theory_header_tables
use Rattle.theory_header_tables.specs.State.{limits_and, named_by}
use Rattle.theory_header_tables.specs.Verdicts.{verdict_in}
use Rattle.streams.specs.Asked.{has, is_active}
use Rattle.connection_state.specs.Inbound.{Inbound, Outside, book_of, told_of}
use Rattle.upstream_connections.specs.Kept as upstreams
use Rattle.upstream_connections.specs.Connections.{Connection, lives, number_of}
use Rattle.theory.specs.Moves.{Addition, Decision, Move, told_in, gained}
use Rattle.theory.specs.Moves.Decision.{Takes}
use Rattle.theory.specs.Moves.Move.{Does}
use Rattle.window_credit.specs.Sides.{Side}
use Rattle.window_credit.specs.Sides as marks
use Rattle.window_credit.specs.Standing.{dropped_of}
use Rattle.window_credit.proofs.Telling as telling
use Rattle.theory.specs.State.{State}
use Rattle.theory.specs.Rule.{rooms_in}
use Rattle.theory.specs.Coming.{IsReady}
use Rattle.theory.specs.Steps.{Stands, told_by, next, MayGoOn}
use Rattle.theory.proofs.Stepping.{one_more}
use Rattle.refinement.specs.Others.{SameOf}
use Rattle.refinement.specs.Taking.{IsFrameTaken}
use Rattle.refinement.specs.View.{View, Pending, balanced, GoBack, newest_in, AreMarked, AreSo, AreHeard, IsInEffect, Leads}
use Rattle.refinement.specs.Bringing.{Course}
use Rattle.refinement.proofs.Beside.{others_stay, served_stays}
use Rattle.refinement.proofs.Kept.{held_behind, AreServed}
use Rattle.refinement.proofs.Staying.{so_stays, heard_stays, rows_kept, all_held_served}
use Rattle.refinement.proofs.Taking.{taken_goes_on}
use Rattle.refinement.proofs.Where.{live_here}
use Rattle.refinement.proofs.Marking.{rooms_next, marked_came}

-- ---- what is kept behind a frame

-- What isn't kept of the book for the client's frames, of which how many octets are untaken alone matters to them.
abbrev pub outside_of : ℕ → Outside
outside_of untaken = record { given = []; untaken = untaken }

-- where that doesn't either
abbrev pub no_outside : Outside
no_outside = outside_of 0

-- what is kept for the client's frames, of a book and a table
abbrev pub inbound_in : Table → Book → Inbound
inbound_in table book = record {
  has_come = book.has_come;
  block = book.block;
  continuations = book.continuations;
  first_size = book.first_size;
  own = book.own;
  window = book.window;
  room = book.room;
  drained = book.drained;
  rows = book.rows;
  resets = book.resets;
  last = book.last;
  table = table;
}

-- what is kept for them behind a frame, whose header block leaves this table
abbrev pub inbound_behind : Setup → ℕ → Inbound → Noted → Table → Inbound
inbound_behind setup untaken inbound noted next_table =
    inbound_in (theory_header_tables.table_after (completed_in inbound.block noted.frame) next_table inbound.table) (book_after setup false (book_of (outside_of untaken) inbound) (Came noted))

-- the book behind a frame with which the connection goes on
pub frame_book : (setup : Setup) (outside : Outside) (inbound : Inbound) (noted : Noted) (next_table : Table) → is_fatal (fault_in (told_of outside inbound) (Came noted)) ≡ false
    → book_after setup false (book_of outside inbound) (Came noted) ≡ book_of outside (inbound_behind setup outside.untaken inbound noted next_table)
frame_book setup outside inbound noted next_table mild = ap (λ b. record (book_after setup false (book_of outside inbound) (Came noted)) { ends = b }) mild

-- what a frame changes of its stream, by the rows before it and behind it
abbrev pub change_between : List Row → List Row → ℕ → theory_responses.Change
change_between old new id = record {
  opens = not (is_active old id) && is_active new id;
  over = is_active old id && not (is_active new id);
  caused = found_by (rows.find old id).outline.cause (rows.find new id).outline.cause;
}

-- what is on offer behind such a change
abbrev pub offers_with : ℕ → theory_responses.Change → theory_responses.State → theory_responses.State
offers_with id c offers = record offers { kept = theory_responses.unless_over c.over id (theory_responses.change id (theory_responses.answered_if c.caused) (theory_responses.with_new c.opens id offers.kept)) }

-- the encoder behind limits that a frame names
abbrev pub encoding_with : List ℕ → Encoding → Encoding
encoding_with named encoding = record encoding { limits = limits_and encoding.limits named }

-- what is told of a stream's service by rows
abbrev pub told_of_rows : Inbound → Told
told_of_rows inbound = told_in (told_of no_outside inbound)

-- ---- streams behind a frame

-- a stream that is over doesn't go on
alive : (setup : Setup) (s : Summary) (noted : Noted) (id : ℕ) (kept : Kept) → is_over_in (kept_in (slot_of (kept_behind setup false s (Came noted) id kept))) ≡ false → (is_over_in kept ≡ false) × (kept_in (slot_of (kept_behind setup false s (Came noted) id kept)) ≡ kept_behind setup false s (Came noted) id kept)
alive setup s noted id kept on =
    let behind : Kept = kept_behind setup false s (Came noted) id kept in
    let alike = slot_alike behind in
    let goes_on : is_over_in behind ≡ false = sym alike.over ∙ on in
    (by (is_over_in kept) refl goes_on, alike.live goes_on)
  where
    by : (b : Bool) → is_over_in kept ≡ b → is_over_in (kept_behind setup false s (Came noted) id kept) ≡ false → is_over_in kept ≡ false
    by false is goes_on = is
    by true is goes_on = absurd (let no : true ≡ false = sym (over_stays setup false s (Came noted) id kept (fault_for kept.outline s (Came noted)) is) ∙ goes_on in cc)

-- a stream that the client didn't end with the frame wasn't ended before
not_ended : (id : ℕ) (s : Summary) (noted : Noted) (before : Bool) → ended_by_client_after id s (Came noted) before ≡ false → before ≡ false
not_ended id s noted before is = (or_parts _ before is).1

module _ (setup : Setup) (b : Book) (noted : Noted) (mild : is_fatal (fault_in (summary_in b) (Came noted)) ≡ false) (kept : AreKept b.rows) where
  abbrev now : List Row
  now = (book_after setup false b (Came noted)).rows

  abbrev newly : Bool
  newly = not (has b.rows noted.frame.id) && has now noted.frame.id

  -- a stream that was opened before is found as the frame leaves it
  found_now : has b.rows noted.frame.id ≡ true → rows.find now noted.frame.id ≡ kept_in (slot_of (kept_behind setup false (summary_in b) (Came noted) noted.frame.id (rows.find b.rows noted.frame.id)))
  found_now there = by (opens_by b.drained (ids_of b.rows) (completed_in b.block noted.frame) noted.note) refl
    where
      changed : List Row
      changed = map (row_behind setup false (summary_in b) (Came noted)) b.rows

      by : (x : Bool) → opens_by b.drained (ids_of b.rows) (completed_in b.block noted.frame) noted.note ≡ x
          → rows.find (if x then rows.row_opened setup false (summary_in b) (Came noted) noted.frame.id ∷ changed else changed) noted.frame.id ≡ kept_in (slot_of (kept_behind setup false (summary_in b) (Came noted) noted.frame.id (rows.find b.rows noted.frame.id)))
      by false is = find_changed setup false (summary_in b) (Came noted) b.rows noted.frame.id there
      by true is =
          absurd (let no : false ≡ true = sym (not_opened b.drained (ids_of b.rows) noted.frame.id (opens_own b.drained (ids_of b.rows) b.block noted.frame noted.note is)) ∙ there in cc)

  -- Octets go back behind the frame on streams on which they did before, but for one that it opens.
  pub goes_back : (id : ℕ) → is_active now id ≡ true → (rows.find now id).ended_by_client ≡ false → ((noted.frame.id == id) && newly) ≡ false → (is_active b.rows id ≡ true) × ((rows.find b.rows id).ended_by_client ≡ false)
  goes_back id active on old = by (noted.frame.id == id) refl
    where
      by : (x : Bool) → (noted.frame.id == id) ≡ x → (is_active b.rows id ≡ true) × ((rows.find b.rows id).ended_by_client ≡ false)
      by false apart =
          let same : SameOf b (book_after setup false b (Came noted)) id = others_stay setup b noted mild kept id apart in (
            sym (ap (λ x. x && not (is_over_in (rows.find now id))) same.opened ∙ ap (λ (k : Kept). has b.rows id && not (is_over_in k)) same.kept) ∙ active,
            ap (λ (k : Kept). k.ended_by_client) (sym same.kept) ∙ on,
          )
      by true own =
          let is : noted.frame.id ≡ id = eqb-true noted.frame.id id own in
          subst (λ n. (is_active b.rows n ≡ true) × ((rows.find b.rows n).ended_by_client ≡ false)) is
          (own_stream (subst (λ n. is_active now n ≡ true) (sym is) active) (subst (λ n. (rows.find now n).ended_by_client ≡ false) (sym is) on) (sym (ap (λ x. x && newly) own) ∙ old))
        where
          there_before : (x y : Bool) → (not x && y) ≡ false → y ≡ true → x ≡ true
          there_before true y is there = refl
          there_before false y is there = absurd (let no : true ≡ false = sym there ∙ is in cc)

          flipped : (x : Bool) → not x ≡ true → x ≡ false
          flipped false is = refl
          flipped true is = cc

          own_stream : is_active now noted.frame.id ≡ true → (rows.find now noted.frame.id).ended_by_client ≡ false → newly ≡ false → (is_active b.rows noted.frame.id ≡ true) × ((rows.find b.rows noted.frame.id).ended_by_client ≡ false)
          own_stream live goes_on none =
              let parts = and_parts (has now noted.frame.id) (not (is_over_in (rows.find now noted.frame.id))) live in
              let there = there_before (has b.rows noted.frame.id) (has now noted.frame.id) none parts.0 in
              let found = found_now there in
              let was = alive setup (summary_in b) noted noted.frame.id (rows.find b.rows noted.frame.id) (ap is_over_in (sym found) ∙ flipped (is_over_in (rows.find now noted.frame.id)) parts.1) in (
                and_from (has b.rows noted.frame.id) (not (is_over_in (rows.find b.rows noted.frame.id))) there (ap not was.0),
                not_ended noted.frame.id (summary_in b) noted (rows.find b.rows noted.frame.id).ended_by_client (ap (λ (k : Kept). k.ended_by_client) (sym (found ∙ was.1)) ∙ goes_on),
              )

-- ---- the move

none_lost : (lost read error : Bool) → lost ≡ false → (read ≡ false → error ≡ true) → (lost || not read && not error) ≡ false
none_lost lost true error none by = ap (λ x. x || false) none
none_lost lost false error none by = ap (λ x. x || not error) none ∙ ap not (by refl)

module _ (setup : Setup) (run : List Move) (kept : View) (s : State) (leads : Leads setup run kept balanced s) (ready : IsReady s) (noted : Noted) (next_table : Table) (addition : Addition) (taken : IsFrameTaken setup s noted next_table addition) where
  abbrev pub decision : Decision
  decision = Takes noted next_table addition

  abbrev pub outside : Outside
  outside = record { given = s.ledger.book.given; untaken = kept.untaken }

  -- what is kept for the client's frames behind it
  abbrev pub behind : Inbound
  behind = inbound_behind setup kept.untaken kept.inbound noted next_table

  -- The move may come.
  pub may_come : MayGoOn setup s (Does decision)
  may_come = taken_goes_on setup s ready noted next_table addition taken

  abbrev pub then_state : State
  then_state = next setup s (Does decision)

  pub stands_then : Stands setup (Does decision ∷ run) then_state
  stands_then = one_more setup run s (Does decision) leads.stands may_come

  pub so_then : AreSo setup (Does decision ∷ run)
  so_then = so_stays setup run decision tt leads.so

  live_kept : s.requests.live ≡ lives kept.upstreams.live
  live_kept = ap (λ (r : theory_requests.State). r.live) leads.keeps.requests

  pub heard_then : AreHeard setup (Does decision ∷ run) kept.upstreams.live
  heard_then = heard_stays setup run s leads.stands leads.so kept.upstreams.live live_kept decision tt leads.heard

  rows_so : AreKept s.ledger.book.rows
  rows_so = rows_kept setup run s leads.stands

  mild_kept : is_fatal (fault_in (told_of outside kept.inbound) (Came noted)) ≡ false
  mild_kept = subst (λ (b : Book). is_fatal (fault_in (summary_in b) (Came noted)) ≡ false) leads.keeps.book taken.mild

  -- The book behind it.
  pub book_then : then_state.ledger.book ≡ book_of outside behind
  book_then = ap (λ (b : Book). book_after setup false b (Came noted)) leads.keeps.book ∙ frame_book setup outside kept.inbound noted next_table mild_kept

  -- What is owed behind it.
  pub queue_then : then_state.ledger.queue ≡ owes_in setup false (told_of outside kept.inbound) (Came noted)
  queue_then = ap (λ (b : Book). owes_in setup false (summary_in b) (Came noted)) leads.keeps.book

  -- What is on offer behind it.
  pub offers_then : then_state.offers ≡ offers_with noted.frame.id (change_between kept.inbound.rows behind.rows noted.frame.id) kept.offers
  offers_then =
      ap (λ (b : Book). offers_with noted.frame.id (change_between s.ledger.book.rows b.rows noted.frame.id) s.offers) book_then
      ∙ ap (λ (b : Book). offers_with noted.frame.id (change_between b.rows behind.rows noted.frame.id) s.offers) leads.keeps.book
      ∙ ap (λ (o : theory_responses.State). offers_with noted.frame.id (change_between kept.inbound.rows behind.rows noted.frame.id) o) leads.keeps.offers

  -- What is kept of requests behind it.
  pub requests_then : then_state.requests ≡ theory_requests.after setup (told_of_rows behind) (upstreams.with_due kept.upstreams Due.Nothing) (gained noted addition)
  requests_then =
      ap (λ (b : Book). theory_requests.after setup (told_in (summary_in b)) s.requests (gained noted addition)) book_then
      ∙ ap (λ (r : theory_requests.State). theory_requests.after setup (told_of_rows behind) r (gained noted addition)) leads.keeps.requests

  -- What is held, where only streams that are served stay: that of the frame's stream where it isn't served behind it.
  pub held_then : theory_requests.kept (told_of_rows behind) kept.upstreams.held ≡ (if (told_of_rows behind).served noted.frame.id then kept.upstreams.held else without id_of noted.frame.id kept.upstreams.held)
  held_then =
      held_behind (told_of_rows kept.inbound) (told_of_rows behind) noted.frame.id others kept.upstreams.held
      (subst (λ (hs : List Held). AreServed (told_of_rows kept.inbound) hs) (ap (λ (r : theory_requests.State). r.held) leads.keeps.requests)
      (subst (λ (b : Book). AreServed (told_in (summary_in b)) s.requests.held) leads.keeps.book (all_held_served setup run s leads.stands leads.so)))
    where
      others : (other : ℕ) → (noted.frame.id == other) ≡ false → (told_of_rows behind).served other ≡ (told_of_rows kept.inbound).served other
      others other apart =
          sym (ap (λ (b : Book). (told_in (summary_in b)).served other) book_then)
          ∙ served_stays s.ledger.book then_state.ledger.book other (others_stay setup s.ledger.book noted taken.mild rows_so other apart)
          ∙ ap (λ (b : Book). (told_in (summary_in b)).served other) leads.keeps.book

  -- ---- octets of DATA that go back

  abbrev opens_it : Bool
  opens_it = not (has s.ledger.book.rows noted.frame.id) && has then_state.ledger.book.rows noted.frame.id

  abbrev over_with_it : Bool
  over_with_it = is_active s.ledger.book.rows noted.frame.id && not (is_active then_state.ledger.book.rows noted.frame.id)

  -- nothing was to go back
  old_debt : (id : ℕ) → GoBack kept.inbound id → (s.windows.row id).debt ≡ 0
  old_debt id back = leads.keeps.credited.own id back

  none_behind : (id : ℕ) → GoBack behind id → (then_state.windows.row id).debt ≡ 0
  none_behind id back = by opens_it refl (noted.frame.id == id) refl
    where
      rows_now : is_active then_state.ledger.book.rows id ≡ true
      rows_now = ap (λ (b : Book). is_active b.rows id) book_then ∙ back.active

      before : ((noted.frame.id == id) && opens_it) ≡ false → (s.windows.row id).debt ≡ 0
      before old =
          let was = goes_back setup s.ledger.book noted taken.mild rows_so id rows_now (ap (λ (b : Book). (find b.rows id).ended_by_client) book_then ∙ back.goes_on) old in
          old_debt id (record { active = sym (ap (λ (b : Book). is_active b.rows id) leads.keeps.book) ∙ was.0; goes_on = sym (ap (λ (b : Book). (find b.rows id).ended_by_client) leads.keeps.book) ∙ was.1 })

      neither : (x : Bool) → (x && false) ≡ false
      neither true = refl
      neither false = refl

      by : (x : Bool) → opens_it ≡ x → (y : Bool) → (noted.frame.id == id) ≡ y → ((if x then theory_receive_windows.change noted.frame.id (λ r. theory_receive_windows.blank) s.windows.row else s.windows.row) id).debt ≡ 0
      by false opened y own = before (ap (λ x. (noted.frame.id == id) && x) opened ∙ neither (noted.frame.id == id))
      by true opened true own = ap (λ x. (if x then theory_receive_windows.blank else s.windows.row id).debt) own
      by true opened false own = ap (λ x. (if x then theory_receive_windows.blank else s.windows.row id).debt) own ∙ before (ap (λ x. x && opens_it) own)

  -- its stream is over by what is kept just where it is by the rule
  over_kept : over_with_it ≡ (change_between kept.inbound.rows behind.rows noted.frame.id).over
  over_kept =
      ap (λ (b : Book). is_active s.ledger.book.rows noted.frame.id && not (is_active b.rows noted.frame.id)) book_then
      ∙ ap (λ (b : Book). is_active b.rows noted.frame.id && not (is_active behind.rows noted.frame.id)) leads.keeps.book

  live_so : (id : ℕ) → theory_receive_windows.is_live (rooms_in (told_by s) s) id ≡ is_active s.ledger.book.rows id
  live_so = live_here setup run s leads.stands leads.so

  was_active : over_with_it ≡ true → theory_receive_windows.is_live (rooms_in (told_by s) s) noted.frame.id ≡ true
  was_active over = live_so noted.frame.id ∙ (and_parts (is_active s.ledger.book.rows noted.frame.id) (not (is_active then_state.ledger.book.rows noted.frame.id)) over).0

  opened_new : opens_it ≡ true → (over_with_it ≡ false) × (theory_receive_windows.is_live (rooms_in (told_by s) s) noted.frame.id ≡ false)
  opened_new opens =
      let idle : is_active s.ledger.book.rows noted.frame.id ≡ false = never (has s.ledger.book.rows noted.frame.id) (and_parts (not (has s.ledger.book.rows noted.frame.id)) (has then_state.ledger.book.rows noted.frame.id) opens).0 in
      (ap (λ b. b && not (is_active then_state.ledger.book.rows noted.frame.id)) idle, live_so noted.frame.id ∙ idle)
    where
      never : (b : Bool) → not b ≡ true → (b && not (is_over_in (find s.ledger.book.rows noted.frame.id))) ≡ false
      never true none = let no : false ≡ true = none in cc
      never false none = refl

  -- What waits of DATA is kept as before, but of a stream that is over.
  marked_then : AreMarked setup.passing (newest_in then_state) (marks.unless_over (change_between kept.inbound.rows behind.rows noted.frame.id).over noted.frame.id kept.marks) (rooms_in (told_by then_state) then_state)
  marked_then =
      subst (λ b. AreMarked setup.passing (newest_in then_state) (marks.unless_over b noted.frame.id kept.marks) (rooms_in (told_by then_state) then_state)) over_kept
      (subst (AreMarked setup.passing (newest_in s) (marks.unless_over over_with_it noted.frame.id kept.marks)) (sym (rooms_next setup run s leads.stands leads.so decision may_come so_then))
      (marked_came setup.passing (newest_in s) kept.marks (rooms_in (told_by s) s) leads.marked noted opens_it over_with_it opened_new))

  -- The octets that waited for such a stream go back.
  debt_then : then_state.windows.debt ≡ dropped_of (change_between kept.inbound.rows behind.rows noted.frame.id).over noted.frame.id kept.marks
  debt_then =
      telling.drops (newest_in s) kept.marks (rooms_in (told_by s) s) leads.marked.stand over_with_it noted.frame.id was_active
      ∙ none_before (dropped_of over_with_it noted.frame.id kept.marks)
      ∙ ap (λ b. dropped_of b noted.frame.id kept.marks) over_kept
    where
      none_before : (n : ℕ) → s.windows.debt + n ≡ n
      none_before n = let none = leads.keeps.credited.shared in omega (arith, none)

  -- ---- all of it

  -- Where this is what is kept then: on offer, of requests with what is due, of DATA that waits with what goes back of it, and by the encoder; and
  -- this is owed.
  pub leads_then : (owed : List Frame) (due : Due) (offers : theory_responses.State) (upstream : upstreams.State) (sides : List Side) (shared : ℕ) → upstream.live ≡ kept.upstreams.live → owes_in setup false (told_of outside kept.inbound) (Came noted) ≡ owed
      → offers_with noted.frame.id (change_between kept.inbound.rows behind.rows noted.frame.id) kept.offers ≡ offers → theory_requests.after setup (told_of_rows behind) (upstreams.with_due kept.upstreams Due.Nothing) (gained noted addition) ≡ upstreams.with_due upstream due
      → marks.unless_over (change_between kept.inbound.rows behind.rows noted.frame.id).over noted.frame.id kept.marks ≡ sides → dropped_of (change_between kept.inbound.rows behind.rows noted.frame.id).over noted.frame.id kept.marks ≡ shared
      → Leads setup (Does decision ∷ run) (record { inbound = behind; offers = offers; upstreams = upstream; marks = sides; encoding = encoding_with (named_by (verdict_in (told_of outside kept.inbound) noted.frame) noted.frame) kept.encoding; untaken = kept.untaken })
      (record balanced { owed = owed; due = due; fresh = data_length is_any noted.frame; shared = shared }) then_state
  leads_then owed due offers upstream sides shared same_live owes on_offer requests left back = record {
    stands = stands_then;
    so = so_then;
    heard = subst (λ (cs : List Connection). AreHeard setup (Does decision ∷ run) cs) (sym same_live) heard_then;
    keeps = record {
      book = book_then;
      owed = queue_then ∙ owes;
      offers = offers_then ∙ on_offer;
      requests = requests_then ∙ requests;
      decoding =
          ap (λ (b : Book). theory_header_tables.table_after (completed_in b.block noted.frame) next_table s.tables.decoding) leads.keeps.book
          ∙ ap (λ (t : Table). theory_header_tables.table_after (completed_in kept.inbound.block noted.frame) next_table t) leads.keeps.decoding;
      encoding =
          ap (λ (b : Book). encoding_with (named_by (verdict_in (summary_in b) noted.frame) noted.frame) s.tables.encoding) leads.keeps.book
          ∙ ap (λ (e : Encoding). encoding_with (named_by (verdict_in (told_of outside kept.inbound) noted.frame) noted.frame) e) leads.keeps.encoding;
      read = none_lost s.tables.lost (is_read noted.note) (verdict_in (told_by s) noted.frame).is_error leads.keeps.read taken.read;
      credited = record {
        fresh = refl;
        shared = debt_then ∙ back;
        own = none_behind;
      };
      counted = λ k c found. leads.keeps.counted k c (subst (λ (cs : List Connection). find_one number_of k cs ≡ Some c) same_live found);
    };
    marked = subst (λ (ms : List Side). AreMarked setup.passing (newest_in then_state) ms (rooms_in (told_by then_state) then_state)) left marked_then;
    in_effect = in_time due;
  }
    where
      in_time : (d : Due) → IsInEffect d false
      in_time Due.Nothing = tt
      in_time (Due.ToOpen stream route text stage) = refl
      in_time (Due.ToUse k stream text stage) = refl
      in_time (Due.ToSend k text) = refl

  -- The frame begins a course that leads there, with which nothing is put out.
  pub begins : (outputs : List Output) (new : View) (pending : Pending) → Leads setup (Does decision ∷ run) new pending then_state → Course setup run s outputs (Came noted) new pending outputs
  begins outputs new pending there = record {
    segment = record { moves = Does decision ∷ []; state = then_state; by_rule = (s, refl, may_come, refl); leads = there; puts = refl };
    own = [];
    begins = refl;
    are_own = tt;
  }
