-- The book behind acts and events, and what they call for.
use Rattle.std.proofs.Common.{◌≡◌, ℕ, zero, suc, ◌-◌, ◌≤◌, Bool, true, false, not, ◌&&◌, ◌||◌, ◌==◌, if◌then◌else◌, List, [], ◌∷◌, ◌++◌, map, length, append-nil, Option, Some, None, refl, sym, ◌∙◌, ap, subst, inl, inr, arith}
use Rattle.std.proofs.lemmas.Bool.{eq-eqb, ne_eqb, lt-ltb, le-ltb, eqb-true, eqb-false, cases_Bool}
use Rattle.std.proofs.lemmas.List.{length-map}
use Rattle.std.specs.Prelude.{nat_lt, is_some, is_none}
use Rattle.model.specs.Frames.{Frame, goaway, no_error, internal_error}
use Rattle.model.specs.Setup.{Setup}
use Rattle.model.specs.Logs.{Event, Act}
use Rattle.model.specs.Logs.Event.{Client, ClientEnd, ClientTook, Up, UpEnd, UpFailed, UpTook, Drain}
use Rattle.model.specs.Logs.Act.{Open, ToUp, Close, CloseClient}
use Rattle.model.specs.Tapes.{Noted}
use Rattle.model.specs.Tapes.Entry.{Happened, Sent, Did}
use Rattle.model.specs.Limits.{most_streams}
use Rattle.model.specs.Lifetimes.{is_drain}
use Rattle.model.specs.Openings.{given}
use Rattle.model.specs.Causes.{Cause, cause_if}
use Rattle.model.specs.Causes.Cause.{BadAnswer}
use Rattle.model.specs.Courses.{upstream_of, first_of_both, interrupts}
use Rattle.model.specs.ErrorClause.{rst_stream, reset_for, is_calming}
use Rattle.model.proofs.OwedSteps.{neither_full, no_reset_for}
use Rattle.theory_errors.specs.Summary.{Outline, Stream as Kept, Summary}
use Rattle.theory_errors.specs.Turn.{rest_of}
use Rattle.theory_errors.specs.Judging.{are_last}
use Rattle.theory_errors.specs.Owing.{highest_in, about_in, outline_behind, outline_from, next_outline, resets_in, owes_in}
use Rattle.theory_errors.specs.After.{given_after, stream_from}
use Rattle.theory_errors.specs.Rows.{Row, Slot, kept_in, find, slot_of, row_behind}
use Rattle.theory_errors.specs.Book.{Book, Ledger, summary_in, book_after, ledger_after}
use Rattle.theory_errors.specs.Tidy.{IsSteady, AreKept}
use Rattle.theory_errors.proofs.Elsewhere.{kept_same, course_same, row_stays}
use Rattle.theory_errors.proofs.Idle.{no_cause_if}
use Rattle.theory_errors.proofs.Quiet.{all_stay}
use Rattle.streams.specs.Sending.{failed}
use Rattle.connection_state.specs.Sending.{LeadsTo, with_kept, is_of_upstream, goaway_of_drain, behind_failure, reset_if_out}
use Rattle.connection_state.proofs.SendingStreams.{steady_in, one_changes}
use Rattle.connection_state.proofs.SendingBooks.{same_slot}

-- ---- acts

-- no row changes, and nothing is called for
acts_stay : (setup : Setup) (b : Book) (act : Act) → AreKept b.rows → map (row_behind setup false (summary_in b) (Did act)) b.rows ≡ b.rows
acts_stay setup b act kept = all_stay (row_behind setup false (summary_in b) (Did act)) b.rows kept (λ row is. row_stays setup false (summary_in b) (Did act) row is refl)

acts_owe : (setup : Setup) (b : Book) (act : Act) → owes_in setup false (summary_in b) (Did act) ≡ []
acts_owe setup b act =
    let s : Summary = summary_in b in
    ap (λ x. (if x then goaway (highest_in s.opened) no_error ∷ [] else []) ++ (resets_in setup false s (Did act) ++ [])) (neither_full s.drained (length s.opened) most_streams)
    ∙ ap (λ (fs : List Frame). fs ++ []) none_reset
  where
    none_reset : resets_in setup false (summary_in b) (Did act) ≡ []
    none_reset = no_reset_for 0 (next_outline setup false 0 (summary_in b) (Did act)).head_out ((summary_in b).stream 0).outline.cause

pub opens_lead : (setup : Setup) (b : Book) (k route : ℕ) → AreKept b.rows → LeadsTo setup false b (Did (Open k route)) (record b { given = record { k = k; route = route; stream = b.last } ∷ b.given }) []
opens_lead setup b k route kept = record {
  book = ap (λ (rows : List Row). record b { given = record { k = k; route = route; stream = b.last } ∷ b.given; rows = rows }) (acts_stay setup b (Open k route) kept);
  owes = acts_owe setup b (Open k route);
}

-- octets, with which another exchange may begin
pub puts_lead : (setup : Setup) (b : Book) (k : ℕ) (octets : List ℕ) → AreKept b.rows → LeadsTo setup false b (Did (ToUp k octets)) (record b { given = given_after b.given b.last (Did (ToUp k octets)) }) []
puts_lead setup b k octets kept = record {
  book = ap (λ (rows : List Row). record b { given = given_after b.given b.last (Did (ToUp k octets)); rows = rows }) (acts_stay setup b (ToUp k octets) kept);
  owes = acts_owe setup b (ToUp k octets);
}

pub closes_lead : (setup : Setup) (b : Book) (k : ℕ) → AreKept b.rows → LeadsTo setup false b (Did (Close k)) b []
closes_lead setup b k kept = record { book = ap (λ (rows : List Row). record b { rows = rows }) (acts_stay setup b (Close k) kept); owes = acts_owe setup b (Close k) }

pub shuts_lead : (setup : Setup) (b : Book) → AreKept b.rows → LeadsTo setup false b (Did CloseClient) (record b { closed = true }) []
shuts_lead setup b kept = record { book = ap (λ (rows : List Row). record b { closed = true; rows = rows }) (acts_stay setup b CloseClient kept); owes = acts_owe setup b CloseClient }

-- ---- events with which no answer fails

-- no other event than the operator's leaves none that may be opened
none_last : (s : Summary) (drains : Bool) → drains ≡ false → are_last s (drains || s.drained) s.opened ≡ false
none_last s drains other = ap (λ x. are_last s (x || s.drained) s.opened) other ∙ neither_full s.drained (length s.opened) most_streams

module _ (setup : Setup) (b : Book) (event : Event) where
  -- a stream stays as it is
  same_behind : (id : ℕ) (kept : Kept) → IsSteady kept.outline → stream_from setup false (summary_in b) (Happened event) id kept None ≡ kept
  same_behind id kept is =
      kept_same kept (stream_from setup false (summary_in b) (Happened event) id kept None) refl refl refl refl refl refl refl
      (course_same setup false (summary_in b) (Happened event) id kept None is (no_cause_if (about_in (summary_in b) (Happened event) == id && nat_lt 0 id) (cause_if false BadAnswer) refl) refl refl)

  events_stay : AreKept b.rows → map (row_behind setup false (summary_in b) (Happened event)) b.rows ≡ b.rows
  events_stay kept = all_stay (row_behind setup false (summary_in b) (Happened event)) b.rows kept (λ row is.
      ap (λ (x : Slot). record { id = row.id; slot = x }) (ap slot_of (same_behind row.id (kept_in row.slot) (steady_in row.slot is.tidy)) ∙ same_slot row.slot is.tidy))

  none_reset : resets_in setup false (summary_in b) (Happened event) ≡ []
  none_reset =
      let s : Summary = summary_in b in
      let id : ℕ = about_in s (Happened event) in
      let out : Bool = (next_outline setup false id s (Happened event)).head_out in
      ap (λ (c : Option Cause). reset_for id out (s.stream id).outline.cause (first_of_both (s.stream id).outline.cause c)) (no_cause_if (id == id && nat_lt 0 id) (cause_if false BadAnswer) refl)
      ∙ no_reset_for id out (s.stream id).outline.cause

  events_owe : is_drain event ≡ false → owes_in setup false (summary_in b) (Happened event) ≡ []
  events_owe other =
      let s : Summary = summary_in b in
      ap (λ x. (if x then goaway (highest_in s.opened) no_error ∷ [] else []) ++ (resets_in setup false s (Happened event) ++ [])) (none_last s (is_drain event) other)
      ∙ ap (λ (fs : List Frame). fs ++ []) none_reset

pub heard_lead : (setup : Setup) (b : Book) (event : Event) → AreKept b.rows → is_of_upstream event ≡ true → LeadsTo setup false b (Happened event) (record b { ends = false }) []
heard_lead setup b (Up k piece) kept is = record { book = ap (λ (rows : List Row). record b { rows = rows; ends = false }) (events_stay setup b (Up k piece) kept); owes = events_owe setup b (Up k piece) refl }
heard_lead setup b (UpEnd k) kept is = record { book = ap (λ (rows : List Row). record b { rows = rows; ends = false }) (events_stay setup b (UpEnd k) kept); owes = events_owe setup b (UpEnd k) refl }
heard_lead setup b (UpFailed k) kept is = record { book = ap (λ (rows : List Row). record b { rows = rows; ends = false }) (events_stay setup b (UpFailed k) kept); owes = events_owe setup b (UpFailed k) refl }
heard_lead setup b (UpTook k count) kept is = record { book = ap (λ (rows : List Row). record b { rows = rows; ends = false }) (events_stay setup b (UpTook k count) kept); owes = events_owe setup b (UpTook k count) refl }
heard_lead setup b (Client piece) kept is = absurd (let no : false ≡ true = is in cc)
heard_lead setup b ClientEnd kept is = absurd (let no : false ≡ true = is in cc)
heard_lead setup b (ClientTook count) kept is = absurd (let no : false ≡ true = is in cc)
heard_lead setup b Drain kept is = absurd (let no : false ≡ true = is in cc)

pub took_leads : (setup : Setup) (b : Book) (count : ℕ) → AreKept b.rows → LeadsTo setup false b (Happened (ClientTook count)) (record b { ends = false; untaken = b.untaken - count }) []
took_leads setup b count kept = record {
  book = ap (λ (rows : List Row). record b { rows = rows; ends = false; untaken = b.untaken - count }) (events_stay setup b (ClientTook count) kept);
  owes = events_owe setup b (ClientTook count) refl;
}

-- the operator's wish for the end
last_goaway_is : (drained : Bool) (n k : ℕ) (frame : Frame) → n ≡ k → k ≤ most_streams
    → (if not drained && nat_lt n most_streams && true then frame ∷ [] else []) ≡ (if drained || k == most_streams then [] else frame ∷ [])
last_goaway_is true n k frame same few = refl
last_goaway_is false n k frame same few = elim (cases_Bool (k == most_streams)) [
  | inl all ↦
      ap (λ x. if x && true then frame ∷ [] else []) (le-ltb n most_streams (let is = eqb-true k most_streams all in omega (arith, same, is)))
      ∙ sym (ap (λ x. if x then [] else frame ∷ []) all)
  | inr some ↦
      ap (λ x. if x && true then frame ∷ [] else []) (lt-ltb n most_streams (let apart = eqb-false k most_streams some in omega (arith, same, few, apart)))
      ∙ sym (ap (λ x. if x then [] else frame ∷ []) some)
]

pub drain_leads : (setup : Setup) (b : Book) → AreKept b.rows → length b.rows ≤ most_streams → LeadsTo setup false b (Happened Drain) (record b { ends = false; drained = true }) (goaway_of_drain b)
drain_leads setup b kept few = record {
  book = ap (λ (rows : List Row). record b { rows = rows; ends = false; drained = true }) (events_stay setup b Drain kept);
  owes =
      let s : Summary = summary_in b in
      let last : Frame = goaway (highest_in s.opened) no_error in
      ap (λ (fs : List Frame). (if not b.drained && nat_lt (length s.opened) most_streams && true then last ∷ [] else []) ++ (fs ++ [])) (none_reset setup b Drain)
      ∙ append-nil (if not b.drained && nat_lt (length s.opened) most_streams && true then last ∷ [] else [])
      ∙ last_goaway_is b.drained (length s.opened) (length b.rows) last (length-map b.rows (λ (row : Row). row.id)) few;
}

-- ---- an answer that fails

-- its event is one of an upstream
not_of_operator : (event : Event) → (upstream_of event == 0) ≡ false → is_drain event ≡ false
not_of_operator Drain some = absurd (let no : true ≡ false = some in cc)
not_of_operator (Up k piece) some = refl
not_of_operator (UpEnd k) some = refl
not_of_operator (UpFailed k) some = refl
not_of_operator (UpTook k count) some = refl
not_of_operator (Client piece) some = refl
not_of_operator ClientEnd some = refl
not_of_operator (ClientTook count) some = refl

-- the reset for it
reset_behind_failure : (id : ℕ) (out kept_out : Bool) (cause : Option Cause) → reset_for id (if is_some cause then kept_out else true && out) cause (first_of_both cause (Some BadAnswer)) ≡ (if is_none cause && out then rst_stream id internal_error ∷ [] else [])
reset_behind_failure id true kept_out None = refl
reset_behind_failure id false kept_out None = refl
reset_behind_failure id out true (Some cause) = refl
reset_behind_failure id out false (Some cause) = refl

module _ (setup : Setup) (b : Book) (event : Event) (kept : AreKept b.rows) (of_stream : (given (upstream_of event) b.given == 0) ≡ false) where
  -- its stream
  abbrev stream : ℕ
  stream = given (upstream_of event) b.given

  -- it is about its stream, which is one
  about_it : (stream == stream && nat_lt 0 stream) ≡ true
  about_it = ap (λ x. x && nat_lt 0 stream) (eq-eqb stream stream refl) ∙ above stream of_stream
    where
      above : (n : ℕ) → (n == 0) ≡ false → nat_lt 0 n ≡ true
      above zero is = absurd (let no : true ≡ false = is in cc)
      above (suc n) is = lt-ltb 0 (suc n) (omega arith)

  -- so it is a cause for it
  outline_failed : (k : Kept) → outline_from setup true stream (summary_in b) (Happened event) k None ≡ (failed k).outline
  outline_failed k = ap (λ x. let cause : Option Cause = if x then Some BadAnswer else None in outline_behind k.outline (interrupts stream (Happened event) None cause) [] cause k.head_out) about_it

  fails_own : (k : Kept) → stream_from setup true (summary_in b) (Happened event) stream k None ≡ failed k
  fails_own k = ap (λ (x : Outline). record k { outline = x }) (outline_failed k)

  rows_failed : map (row_behind setup true (summary_in b) (Happened event)) b.rows ≡ with_kept stream (failed (find b.rows stream)) b.rows
  rows_failed =
      one_changes setup true (summary_in b) (Happened event) stream (slot_of (failed (find b.rows stream))) b.rows kept
      (λ row is found same.
      ap (λ n. slot_of (stream_from setup true (summary_in b) (Happened event) n (kept_in row.slot) None)) same
      ∙ ap slot_of (fails_own (kept_in row.slot))
      ∙ ap (λ (k : Kept). slot_of (failed k)) (sym (ap (find b.rows) (sym same) ∙ found.1)))
      (λ row apart. (ne_eqb stream row.id (λ same. apart (sym same)), refl))

  failure_owes : (upstream_of event == 0) ≡ false → owes_in setup true (summary_in b) (Happened event) ≡ reset_if_out b stream
  failure_owes some =
      let s : Summary = summary_in b in
      let k : Kept = find b.rows stream in
      ap (λ x. (if x then goaway (highest_in s.opened) no_error ∷ [] else []) ++ (resets_in setup true s (Happened event) ++ [])) (none_last s (is_drain event) (not_of_operator event some))
      ∙ append-nil (resets_in setup true s (Happened event))
      ∙ ap (λ (x : Outline). reset_for stream x.head_out k.outline.cause x.cause) (outline_failed k)
      ∙ reset_behind_failure stream k.head_out k.outline.head_out k.outline.cause

  -- the book, event by event
  failure_book : (upstream_of event == 0) ≡ false → book_after setup true b (Happened event) ≡ behind_failure b stream
  failure_book some = cases event some rows_failed
    where
      cases : (e : Event) → (upstream_of e == 0) ≡ false → map (row_behind setup true (summary_in b) (Happened e)) b.rows ≡ with_kept stream (failed (find b.rows stream)) b.rows → book_after setup true b (Happened e) ≡ behind_failure b stream
      cases (Up k piece) some are = ap (λ (rows : List Row). record b { rows = rows; ends = false }) are
      cases (UpEnd k) some are = ap (λ (rows : List Row). record b { rows = rows; ends = false }) are
      cases (UpFailed k) some are = ap (λ (rows : List Row). record b { rows = rows; ends = false }) are
      cases (UpTook k count) some are = absurd (let no : true ≡ false = some in cc)
      cases (Client piece) some are = absurd (let no : true ≡ false = some in cc)
      cases ClientEnd some are = absurd (let no : true ≡ false = some in cc)
      cases (ClientTook count) some are = absurd (let no : true ≡ false = some in cc)
      cases Drain some are = absurd (let no : true ≡ false = some in cc)

pub fails_lead : (setup : Setup) (b : Book) (event : Event) (id : ℕ) → AreKept b.rows → (upstream_of event == 0) ≡ false → given (upstream_of event) b.given ≡ id → (id == 0) ≡ false → LeadsTo setup true b (Happened event) (behind_failure b id) (reset_if_out b id)
fails_lead setup b event id kept some same of_stream =
    subst (λ n. LeadsTo setup true b (Happened event) (behind_failure b n) (reset_if_out b n)) same
    (record { book = failure_book setup b event kept of some; owes = failure_owes setup b event kept of some })
  where
    of : (given (upstream_of event) b.given == 0) ≡ false
    of = ap (λ n. n == 0) same ∙ of_stream

-- ---- what is kept and owed

pub sent_ledger : (setup : Setup) (fails : Bool) (ledger : Ledger) (noted : Noted) (new : Book) (called : List Frame) → (is_calming noted.frame && not ledger.book.ends) ≡ false → LeadsTo setup fails ledger.book (Sent noted) new called
    → ledger_after setup ledger (record { entry = Sent noted; fails = fails }) ≡ record { book = new; queue = rest_of ledger.queue ++ called }
sent_ledger setup fails ledger noted new called owing leads =
    ap (λ x. record { book = book_after setup fails ledger.book (Sent noted); queue = if x then [] else rest_of ledger.queue ++ owes_in setup fails (summary_in ledger.book) (Sent noted) }) owing
    ∙ ap (λ (x : Book). record { book = x; queue = rest_of ledger.queue ++ owes_in setup fails (summary_in ledger.book) (Sent noted) }) leads.book
    ∙ ap (λ (fs : List Frame). record { book = new; queue = rest_of ledger.queue ++ fs }) leads.owes

pub did_ledger : (setup : Setup) (fails : Bool) (ledger : Ledger) (act : Act) (new : Book) (called : List Frame) → LeadsTo setup fails ledger.book (Did act) new called
    → ledger_after setup ledger (record { entry = Did act; fails = fails }) ≡ record { book = new; queue = ledger.queue }
did_ledger setup fails ledger act new called leads = ap (λ (x : Book). record { book = x; queue = ledger.queue }) leads.book

pub happened_ledger : (setup : Setup) (fails : Bool) (ledger : Ledger) (event : Event) (new : Book) (called : List Frame) → LeadsTo setup fails ledger.book (Happened event) new called
    → ledger_after setup ledger (record { entry = Happened event; fails = fails }) ≡ record { book = new; queue = called }
happened_ledger setup fails ledger event new called leads =
    ap (λ (x : Book). record { book = x; queue = owes_in setup fails (summary_in ledger.book) (Happened event) }) leads.book ∙ ap (λ (fs : List Frame). record { book = new; queue = fs }) leads.owes
