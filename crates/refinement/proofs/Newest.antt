-- Where requests are passed on as they come, a connection that is due is due for the newest stream: a stream that was opened has begun, or its
-- items are over.
use Rattle.std.proofs.Common.{◌≡◌, ℕ, ◌<◌, Bool, true, false, not, ◌&&◌, ◌||◌, ◌==◌, if◌then◌else◌, List, [], ◌∷◌, map, Option, Some, None, refl, sym, ◌∙◌, ap, subst}
use Rattle.std.specs.Prelude.{nat_lt}
use Rattle.std.specs.List.{list_any, list_all}
use Rattle.std.proofs.lemmas.Bool.{and_parts, ltb-true, eqb-true, eq-eqb, ne_eqb}
use Rattle.model.specs.Logs.Event.{Client, ClientEnd, ClientTook, Up, UpEnd, UpFailed, UpTook, Drain}
use Rattle.model.specs.Logs.Act.{Open, ToUp, Close, CloseClient}
use Rattle.model.specs.Messages.{Item}
use Rattle.model.specs.Messages.Item.{Block}
use Rattle.model.specs.Tables.{Table}
use Rattle.model.specs.Setup.{Setup}
use Rattle.model.specs.Setup.Passing.{Whole as WholePassing, Streaming}
use Rattle.model.specs.Malformed.{is_begun}
use Rattle.model.specs.Streams.{frame_items}
use Rattle.model.specs.Tapes.{Note, Noted, Entry}
use Rattle.model.specs.Tapes.Note.{NoBlock, Fields, Undecodable, Unread}
use Rattle.model.specs.Tapes.Entry.{Came, Breached, Happened, Sent, Did}
use Rattle.model.specs.Decoding.{Partial}
use Rattle.model.specs.Known.{Known}
use Rattle.model.specs.Lifetimes.{opens_by}
use Rattle.theory_errors.specs.Summary.{Stream as Kept, Summary}
use Rattle.theory_errors.specs.Judging.{is_over_in, completed_in, fault_for}
use Rattle.theory_errors.specs.Rule.{Move as ConductMove, AreKnown, point_of}
use Rattle.theory_errors.specs.Owing.{items_in}
use Rattle.theory_errors.specs.After.{kept_behind}
use Rattle.theory_errors.specs.Rows.{Row, Slot, find, fresh, over_kept, kept_in, slot_of, ids_of, slot_behind, row_behind, row_opened}
use Rattle.theory_errors.specs.Rows.Slot.{Live, Over}
use Rattle.theory_errors.specs.Book.{Book, ledger_of, summary_in, book_after}
use Rattle.theory_errors.proofs.Rows.{ids_changed, over_stays}
use Rattle.theory_errors.proofs.RowsKept.{opens_own}
use Rattle.h1_writer.specs.Sending.{Stage}
use Rattle.theory_requests.specs.Lines.{least_idle}
use Rattle.theory_requests.specs.State as theory_requests
use Rattle.theory_requests.specs.State.{Due, to_open, to_send}
use Rattle.theory_requests.specs.State.Due.{Nothing, ToOpen, ToUse, ToSend}
use Rattle.theory_requests.proofs.Standing.{IsWaiting}
use Rattle.streams.specs.Asked.{has}
use Rattle.theory.specs.Moves.{Addition, Decision, Move, told_in}
use Rattle.theory.specs.Moves.Decision.{Takes, Breaks, Notes, Hears, Fails, Idles, Sends, Goes, Acts}
use Rattle.theory.specs.Moves.Move.{Does, Settles}
use Rattle.theory.specs.State.{State, conducts, tape_of, summary_at, turns_of, state_of}
use Rattle.theory.specs.Rule.{AllAllowed, AddsHead}
use Rattle.theory.specs.Answered.{AreAnswered}
use Rattle.theory.specs.Steps.{Stands}
use Rattle.theory.proofs.Stepping.{before_is}
use Rattle.refinement.specs.Led.{IsLed}
use Rattle.refinement.specs.View.{AreSo}
use Rattle.refinement.proofs.HeldFor.{went_on}
use Rattle.refinement.proofs.Sound as sound
use Rattle.refinement.proofs.Where.{own, own_led}

-- ---- a stream that was opened has begun, or its items are over

abbrev IsBegun : Slot → Type 0
IsBegun (Live kept) = (kept.outline.begun || kept.outline.over) ≡ true
IsBegun (Over by_us) = Unit {0}

abbrev AllBegun : List Row → Type 0
AllBegun [] = Unit {0}
AllBegun (row ∷ rows) = IsBegun row.slot × AllBegun rows

-- so it stays, with more items or none
stays : (begun over interrupted ends new : Bool) → (begun || over) ≡ true → ((if over || interrupted then begun else begun || new) || (over || interrupted || ends)) ≡ true
stays true over interrupted ends new is = by (over || interrupted)
  where
    by : (b : Bool) → ((if b then true else true) || (over || interrupted || ends)) ≡ true
    by true = refl
    by false = refl
stays false true interrupted ends new is = refl
stays false false interrupted ends new is = let no : false ≡ true = is in cc

-- and so it is of the first item
first : (interrupted ends new : Bool) → new ≡ true → ((if interrupted then false else new) || (interrupted || ends)) ≡ true
first true ends new is = refl
first false ends new is = ap (λ b. b || ends) is

slot_begun : (kept : Kept) → (kept.outline.begun || kept.outline.over) ≡ true → IsBegun (slot_of kept)
slot_begun kept is = by (is_over_in kept)
  where
    by : (b : Bool) → IsBegun (if b then Over kept.reset_by_gateway else Live kept)
    by true = tt
    by false = is

module _ (setup : Setup) (fails : Bool) (s : Summary) (e : Entry) where
  slot_stays : (id : ℕ) (slot : Slot) → IsBegun slot → IsBegun (slot_behind setup fails s e id slot)
  slot_stays id (Live kept) is = slot_begun (kept_behind setup fails s e id kept) (stays kept.outline.begun kept.outline.over _ _ _ is)
  slot_stays id (Over by_us) is =
      subst (λ b. IsBegun (if b then Over (kept_behind setup fails s e id (over_kept by_us)).reset_by_gateway else Live (kept_behind setup fails s e id (over_kept by_us)))) (sym (over_stays setup fails s e id (over_kept by_us) (fault_for (over_kept by_us).outline s e) (ends by_us))) tt
    where
      ends : (us : Bool) → (us || false || true) ≡ true
      ends true = refl
      ends false = refl

  rows_stay : (rows : List Row) → AllBegun rows → AllBegun (map (row_behind setup fails s e) rows)
  rows_stay [] all = tt
  rows_stay (row ∷ rows) all = (slot_stays row.id row.slot all.0, rows_stay rows all.1)

-- a frame that opens a stream brings it an item
brings_one : (drained : Bool) (opened : List ℕ) (block : Option Partial) (noted : Noted) → opens_by drained opened block noted.note ≡ true → is_begun (frame_items block noted) ≡ true
brings_one drained opened None noted is = let no : false ≡ true = is in cc
brings_one drained opened (Some block) noted is = by noted.note is
  where
    by : (note : Note) → opens_by drained opened (Some block) note ≡ true → is_begun (frame_items (Some block) (record noted { note = note })) ≡ true
    by NoBlock is = let no : false ≡ true = is in cc
    by (Fields fields) is = refl
    by Undecodable is = let no : false ≡ true = is in cc
    by Unread is = let no : false ≡ true = is in cc

begun_behind : (setup : Setup) (fails : Bool) (book : Book) (e : Entry) → AllBegun book.rows → AllBegun (book_after setup fails book e).rows
begun_behind setup fails book (Came noted) all = by (opens_by book.drained (ids_of book.rows) (completed_in book.block noted.frame) noted.note) refl
  where
    new : opens_by book.drained (ids_of book.rows) (completed_in book.block noted.frame) noted.note ≡ true → is_begun (items_in noted.frame.id (summary_in book) (Came noted)) ≡ true
    new is = ap (λ b. is_begun (if b then frame_items (completed_in book.block noted.frame) noted else [])) (eq-eqb noted.frame.id noted.frame.id refl) ∙ brings_one book.drained (ids_of book.rows) (completed_in book.block noted.frame) noted is

    by : (b : Bool) → opens_by book.drained (ids_of book.rows) (completed_in book.block noted.frame) noted.note ≡ b
        → AllBegun (if b then row_opened setup fails (summary_in book) (Came noted) noted.frame.id ∷ map (row_behind setup fails (summary_in book) (Came noted)) book.rows else map (row_behind setup fails (summary_in book) (Came noted)) book.rows)
    by true is = (slot_begun (kept_behind setup fails (summary_in book) (Came noted) noted.frame.id fresh) (first _ _ _ (new is)), rows_stay setup fails (summary_in book) (Came noted) book.rows all)
    by false is = rows_stay setup fails (summary_in book) (Came noted) book.rows all
begun_behind setup fails book (Breached breach) all = rows_stay setup fails (summary_in book) (Breached breach) book.rows all
begun_behind setup fails book (Happened event) all = rows_stay setup fails (summary_in book) (Happened event) book.rows all
begun_behind setup fails book (Sent noted) all = rows_stay setup fails (summary_in book) (Sent noted) book.rows all
begun_behind setup fails book (Did act) all = rows_stay setup fails (summary_in book) (Did act) book.rows all

ledger_begun : (setup : Setup) (moves : List ConductMove) → AllBegun (ledger_of setup moves).book.rows
ledger_begun setup [] = tt
ledger_begun setup (m ∷ moves) = begun_behind setup m.fails (ledger_of setup moves).book m.entry (ledger_begun setup moves)

-- of one that its client hasn't ended
found_begun : (rows : List Row) (id : ℕ) → AllBegun rows → has rows id ≡ true → (find rows id).ended_by_client ≡ false → ((find rows id).outline.begun || (find rows id).outline.over) ≡ true
found_begun [] id all there on = let no : false ≡ true = there in cc
found_begun (row ∷ rows) id all there on = by (row.id == id) there on (found_begun rows id all.1)
  where
    own_slot : (slot : Slot) → IsBegun slot → (kept_in slot).ended_by_client ≡ false → ((kept_in slot).outline.begun || (kept_in slot).outline.over) ≡ true
    own_slot (Live kept) is on = is
    own_slot (Over by_us) is on = let no : true ≡ false = on in cc

    by : (b : Bool) → (b || has rows id) ≡ true → (if b then kept_in row.slot else find rows id).ended_by_client ≡ false
        → (has rows id ≡ true → (find rows id).ended_by_client ≡ false → ((find rows id).outline.begun || (find rows id).outline.over) ≡ true)
        → ((if b then kept_in row.slot else find rows id).outline.begun || (if b then kept_in row.slot else find rows id).outline.over) ≡ true
    by true there on later = own_slot row.slot all.0 on
    by false there on later = later there on

-- ---- a frame that brings a stream its head opens it

-- The stream is above all others that were opened.
abbrev pub IsNewest : List Row → ℕ → Type 0
IsNewest rows id = (other : ℕ) → has rows other ≡ true → (other ≡ id → ⊥) → other < id

one_below : (ids : List ℕ) (other id : ℕ) → list_any (λ n. n == other) ids ≡ true → list_all (λ n. nat_lt n id) ids ≡ true → other < id
one_below [] other id there all = let no : false ≡ true = there in cc
one_below (x ∷ ids) other id there all =
    let parts = and_parts (nat_lt x id) (list_all (λ n. nat_lt n id) ids) all in
    by (x == other) refl there parts.0 (one_below ids other id) parts.1
  where
    by : (b : Bool) → (x == other) ≡ b → (b || list_any (λ n. n == other) ids) ≡ true → nat_lt x id ≡ true → (list_any (λ n. n == other) ids ≡ true → list_all (λ n. nat_lt n id) ids ≡ true → other < id) → list_all (λ n. nat_lt n id) ids ≡ true → other < id
    by true is there below later rest = subst (λ n. n < id) (eqb-true x other is) (ltb-true x id below)
    by false is there below later rest = later there rest

-- one that was opened before has begun, so its head is none
cut : (over interrupted : Bool) (items : List Item) (item : Item) → (if over || interrupted then [] else items) ≡ item ∷ [] → over ≡ true → ⊥
cut false interrupted items item adds is = let no : false ≡ true = is in cc
cut true interrupted items item adds is = let clash : ◌≡◌ {A = List Item} [] (item ∷ []) = adds in cc

not_there : (setup : Setup) (book : Book) (noted : Noted) (item : Item) → AllBegun book.rows → AddsHead setup (summary_in book) noted item → has book.rows noted.frame.id ≡ false
not_there setup book noted item all adds = by (has book.rows noted.frame.id) refl
  where
    by : (b : Bool) → has book.rows noted.frame.id ≡ b → b ≡ false
    by false is = refl
    by true is =
        let begun = found_begun book.rows noted.frame.id all is adds.adds.goes_on in
        absurd (cut (find book.rows noted.frame.id).outline.over _ _ item adds.adds.adds (sym (ap (λ b. b || (find book.rows noted.frame.id).outline.over) adds.first) ∙ begun))

-- so it is the newest
newest_now : (setup : Setup) (book : Book) (noted : Noted) → has book.rows noted.frame.id ≡ false → has (book_after setup false book (Came noted)).rows noted.frame.id ≡ true → IsNewest (book_after setup false book (Came noted)).rows noted.frame.id
newest_now setup book noted new there = by (map (row_behind setup false (summary_in book) (Came noted)) book.rows) same (row_opened setup false (summary_in book) (Came noted) noted.frame.id).slot (opens_by book.drained (ids_of book.rows) (completed_in book.block noted.frame) noted.note) refl there
  where
    same : (other : ℕ) → has (map (row_behind setup false (summary_in book) (Came noted)) book.rows) other ≡ has book.rows other
    same other = ap (λ (ids : List ℕ). list_any (λ n. n == other) ids) (ids_changed setup false (summary_in book) (Came noted) book.rows)

    by : (changed : List Row) → ((other : ℕ) → has changed other ≡ has book.rows other) → (slot : Slot) (b : Bool) → opens_by book.drained (ids_of book.rows) (completed_in book.block noted.frame) noted.note ≡ b
        → has (if b then record { id = noted.frame.id; slot = slot } ∷ changed else changed) noted.frame.id ≡ true → IsNewest (if b then record { id = noted.frame.id; slot = slot } ∷ changed else changed) noted.frame.id
    by changed same slot false is there = absurd (let no : true ≡ false = sym there ∙ same noted.frame.id ∙ new in let clash : true ≡ false = no in cc)
    by changed same slot true is there = λ other among apart.
        let may = opens_own book.drained (ids_of book.rows) book.block noted.frame noted.note is in
        let above = and_parts _ (list_all (λ n. nat_lt n noted.frame.id) (ids_of book.rows)) (and_parts _ _ may).0 in
        one_below (ids_of book.rows) other noted.frame.id
        (sym (same other) ∙ sym (ap (λ b. b || has changed other) (ne_eqb noted.frame.id other (λ same_id. apart (sym same_id)))) ∙ among) above.1

-- ---- along moves

-- A connection that is due, a new one or an idle one, is due for the newest stream.
abbrev DueNewest : List Row → Due → Type 0
DueNewest rows Nothing = Unit {0}
DueNewest rows (ToOpen stream route text stage) = IsNewest rows stream
DueNewest rows (ToUse k stream text stage) = IsNewest rows stream
DueNewest rows (ToSend k text) = Unit {0}

none_newest : (rows : List Row) (due : Due) → due ≡ Nothing → DueNewest rows due
none_newest rows due none = subst (DueNewest rows) (sym none) tt

sent_newest : (rows : List Row) (k : ℕ) (text : List ℕ) → DueNewest rows (to_send k text)
sent_newest rows k [] = tt
sent_newest rows k (octet ∷ octets) = tt

if_newest : (b : Bool) (idle : Option ℕ) (rows : List Row) (stream route : ℕ) (text : List ℕ) (stage : Stage) → (b ≡ true → IsNewest rows stream) → DueNewest rows (to_open b idle stream route text stage)
if_newest true None rows stream route text stage newest = newest refl
if_newest true (Some k) rows stream route text stage newest = newest refl
if_newest false idle rows stream route text stage newest = tt

module _ (known : Known) (streaming : known.setup.passing ≡ Streaming) (run : List Move) where
  abbrev setup : Setup
  setup = known.setup

  abbrev before : Book
  before = (ledger_of setup (conducts run)).book

  abbrev r : theory_requests.State
  r = theory_requests.state_of setup (turns_of setup run)

  -- the book, and what is due, behind a decision
  abbrev book_behind : Decision → Book
  book_behind d = (ledger_of setup (conducts (Does d ∷ run))).book

  abbrev due_behind : Decision → Due
  due_behind d = (theory_requests.state_of setup (turns_of setup (Does d ∷ run))).due

  module _ (noted : Noted) (next : Table) (addition : Addition) (allowed : AllAllowed setup (Does (Takes noted next addition) ∷ run)) (on : (book_behind (Takes noted next addition)).ends ≡ false) where
    abbrev now : Book
    now = book_behind (Takes noted next addition)

    pub before_on : before.ends ≡ false
    before_on = went_on setup run (Takes noted next addition) allowed.1.conduct on

    pub told_same : summary_at setup run ≡ summary_in before
    told_same = before_is setup run (state_of setup run) (record { allowed = allowed.0; is = refl; goes_on = before_on })

    pub served_there : (told_in (summary_at setup (Does (Takes noted next addition) ∷ run))).served noted.frame.id ≡ true → has now.rows noted.frame.id ≡ true
    served_there served =
        let here : (told_in (summary_in now)).served noted.frame.id ≡ true =
        sym (ap (λ b. (told_in (if b then (point_of setup (conducts (Does (Takes noted next addition) ∷ run))).summary else summary_in now)).served noted.frame.id) on) ∙ served in
        (and_parts (has now.rows noted.frame.id) _ (and_parts (has now.rows noted.frame.id && not (is_over_in (find now.rows noted.frame.id))) _ here).0).0

  taken : (noted : Noted) (next : Table) (addition : Addition) → AreKnown known (conducts run) → AreAnswered known run → (allowed : AllAllowed setup (Does (Takes noted next addition) ∷ run)) → (book_behind (Takes noted next addition)).ends ≡ false
      → DueNewest (book_behind (Takes noted next addition)).rows (due_behind (Takes noted next addition))
  taken noted next Addition.Nothing knows answered allowed on = none_newest _ r.due allowed.1.request.may.nothing
  taken noted next (Addition.Begins head ended route text stage) knows answered allowed on =
      if_newest (theory_requests.goes_now setup stage) (least_idle route r.live) _ noted.frame.id route text stage
      (λ goes.
      newest_now setup before noted
      (not_there setup before noted (Block head ended) (ledger_begun setup (conducts run)) (subst (λ (u : Summary). AddsHead setup u noted (Block head ended)) (told_same noted next (Addition.Begins head ended route text stage) allowed on) allowed.1.additions))
      (served_there noted next (Addition.Begins head ended route text stage) allowed on allowed.1.request.may.1.serving.served))
  taken noted next (Addition.Gathers item route text old body written stage) knows answered allowed on =
      let led : IsLed known run (state_of setup run) = record { knows = knows; answered = answered; stands = record { allowed = allowed.0; is = refl; goes_on = before_on noted next (Addition.Gathers item route text old body written stage) allowed on } } in
      let waits : IsWaiting known (tape_of run) noted.frame.id route text old body = (sound.stands known run (state_of setup run) led).held noted.frame.id _ allowed.1.request.may.1.found in
      absurd (let no : WholePassing ≡ Streaming = sym waits.whole_passing ∙ streaming in let clash : WholePassing ≡ Streaming = no in cc)
  taken noted next (Addition.Passes item k old written stage) knows answered allowed on = sent_newest _ k written
  taken noted next (Addition.Drops item) knows answered allowed on = none_newest _ r.due allowed.1.request.may.0.nothing

  -- behind a frame that is sent the same streams were opened
  opened_before : (noted : Noted) (other : ℕ) → has (book_after setup false before (Sent noted)).rows other ≡ true → has before.rows other ≡ true
  opened_before noted other among = sym (ap (λ (ids : List ℕ). list_any (λ n. n == other) ids) (ids_changed setup false (summary_in before) (Sent noted) before.rows)) ∙ among

  still_newest : (noted : Noted) (due : Due) → DueNewest before.rows due → DueNewest (book_after setup false before (Sent noted)).rows due
  still_newest noted Nothing was = tt
  still_newest noted (ToSend k text) was = tt
  still_newest noted (ToOpen stream route text stage) was = λ other among apart.
      was other (opened_before noted other among) apart
  still_newest noted (ToUse k stream text stage) was = λ other among apart.
      was other (opened_before noted other among) apart

  done : (d : Decision) → AreKnown known (conducts run) → AreAnswered known run → (allowed : AllAllowed setup (Does d ∷ run)) → (book_behind d).ends ≡ false → DueNewest before.rows r.due → DueNewest (book_behind d).rows (due_behind d)
  done (Takes noted next addition) knows answered allowed on was = taken noted next addition knows answered allowed on
  done (Breaks breach) knows answered allowed on was = none_newest _ r.due allowed.1.request.may.nothing
  done (Notes event) knows answered allowed on was = none_newest _ r.due allowed.1.request.may.0.nothing
  done (Hears event stream news heard) knows answered allowed on was = none_newest _ r.due allowed.1.request.may.0.nothing
  done (Fails (UpFailed k) stream heard) knows answered allowed on was = none_newest _ r.due allowed.1.request.may.0.nothing
  done (Fails (Client piece) stream heard) knows answered allowed on was = none_newest _ r.due allowed.1.request.may.0.nothing
  done (Fails ClientEnd stream heard) knows answered allowed on was = none_newest _ r.due allowed.1.request.may.0.nothing
  done (Fails (ClientTook count) stream heard) knows answered allowed on was = none_newest _ r.due allowed.1.request.may.0.nothing
  done (Fails (Up k piece) stream heard) knows answered allowed on was = none_newest _ r.due allowed.1.request.may.0.nothing
  done (Fails (UpEnd k) stream heard) knows answered allowed on was = none_newest _ r.due allowed.1.request.may.0.nothing
  done (Fails (UpTook k count) stream heard) knows answered allowed on was = none_newest _ r.due allowed.1.request.may.0.nothing
  done (Fails Drain stream heard) knows answered allowed on was = none_newest _ r.due allowed.1.request.may.0.nothing
  done (Idles (Client piece)) knows answered allowed on was = none_newest _ r.due allowed.1.request.may.0.nothing
  done (Idles ClientEnd) knows answered allowed on was = none_newest _ r.due allowed.1.request.may.0.nothing
  done (Idles (ClientTook count)) knows answered allowed on was = none_newest _ r.due allowed.1.request.may.0.nothing
  done (Idles (Up k [])) knows answered allowed on was = none_newest _ r.due allowed.1.request.may.0.nothing
  done (Idles (Up k (octet ∷ octets))) knows answered allowed on was = none_newest _ r.due allowed.1.request.may.0.nothing
  done (Idles (UpEnd k)) knows answered allowed on was = none_newest _ r.due allowed.1.request.may.0.nothing
  done (Idles (UpFailed k)) knows answered allowed on was = none_newest _ r.due allowed.1.request.may.0.nothing
  done (Idles (UpTook k count)) knows answered allowed on was = none_newest _ r.due allowed.1.request.may.0.nothing
  done (Idles Drain) knows answered allowed on was = none_newest _ r.due allowed.1.request.may.0.nothing
  done (Sends noted next) knows answered allowed on was = still_newest noted r.due was
  done (Goes noted item part next) knows answered allowed on was = still_newest noted r.due was
  done (Acts (Open k route)) knows answered allowed on was = let may = allowed.1.request.may in subst (λ (due : Due). DueNewest (book_behind (Acts (Open k route))).rows (theory_requests.due_opened due k)) (sym may.due) tt
  done (Acts (ToUp k octets)) knows answered allowed on was = tt
  done (Acts (Close k)) knows answered allowed on was = none_newest _ r.due allowed.1.request.may.nothing
  done (Acts CloseClient) knows answered allowed on was = none_newest _ r.due allowed.1.request.may.nothing

newest : (known : Known) → known.setup.passing ≡ Streaming → (run : List Move) → AreKnown known (conducts run) → AreAnswered known run → AllAllowed known.setup run → (ledger_of known.setup (conducts run)).book.ends ≡ false
    → DueNewest (ledger_of known.setup (conducts run)).book.rows (theory_requests.state_of known.setup (turns_of known.setup run)).due
newest known streaming [] knows answered allowed on = tt
newest known streaming (Settles ∷ run) knows answered allowed on = newest known streaming run knows answered allowed on
newest known streaming (Does d ∷ run) knows answered allowed on =
    done known streaming run d knows.0 answered.0 allowed on (newest known streaming run knows.0 answered.0 allowed.0 (went_on known.setup run d allowed.1.conduct on))

-- Where moves led, a connection that is due is due for the newest stream.
module _ (setup : Setup) (run : List Move) (s : State) (stand : Stands setup run s) (so : AreSo setup run) (streaming : setup.passing ≡ Streaming) where
  all_newest : DueNewest s.ledger.book.rows s.requests.due
  all_newest =
      let led = own_led setup run s stand so in
      subst (λ (x : State). DueNewest x.ledger.book.rows x.requests.due) stand.is
      (newest (own setup run s stand so) streaming run led.knows led.answered stand.allowed (ap (λ (x : State). x.ledger.book.ends) stand.is ∙ stand.goes_on))

  -- one that is to be opened
  pub due_newest : (stream route : ℕ) (text : List ℕ) (stage : Stage) → s.requests.due ≡ ToOpen stream route text stage → IsNewest s.ledger.book.rows stream
  due_newest stream route text stage due = subst (DueNewest s.ledger.book.rows) due all_newest

  -- an idle one
  pub used_newest : (k stream : ℕ) (text : List ℕ) (stage : Stage) → s.requests.due ≡ ToUse k stream text stage → IsNewest s.ledger.book.rows stream
  used_newest k stream text stage due = subst (DueNewest s.ledger.book.rows) due all_newest
