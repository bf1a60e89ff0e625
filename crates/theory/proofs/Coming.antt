-- Where the gateway rests and its connection goes on, whatever may come in has its move.
use Rattle.std.proofs.Common.{◌≡◌, ℕ, Bool, true, false, not, ◌&&◌, ◌||◌, ◌==◌, List, [], ◌∷◌, map, Option, Some, None, refl, sym, ◌∙◌, ap, inl, inr, if◌then◌else◌}
use Rattle.std.proofs.lemmas.Bool.{cases_Bool, and_parts, and_from, eqb-true, eq-eqb}
use Rattle.std.specs.List.{list_any}
use Rattle.model.specs.Frames.{rst_stream_kind}
use Rattle.model.specs.Setup.{Setup}
use Rattle.model.specs.Tables.{Table}
use Rattle.model.specs.Logs.{Event}
use Rattle.model.specs.Logs.Event.{Client, ClientEnd, ClientTook, Up, UpEnd, UpFailed, UpTook, Drain}
use Rattle.model.specs.Tapes.{Noted, Breach}
use Rattle.model.specs.Tapes.Entry.{Came}
use Rattle.model.specs.Decoding.{Partial}
use Rattle.model.specs.Lifetimes.{opens_by}
use Rattle.model.specs.Courses.{upstream_of}
use Rattle.model.specs.Deliveries.{Delivery}
use Rattle.theory_errors.specs.Summary.{Stream as Kept, Summary}
use Rattle.theory_errors.specs.Judging.{is_over_in, completed_in}
use Rattle.theory_errors.specs.After.{kept_behind, ended_by_client_after}
use Rattle.theory_errors.specs.Rows.{Row, fresh, kept_in, slot_of, find, ids_of, row_behind, row_opened, rows_after}
use Rattle.theory_errors.specs.Rows.Slot.{Live, Over}
use Rattle.theory_errors.specs.Book.{as_point}
use Rattle.theory_errors.specs.Rule.{MayComeIn}
use Rattle.theory_responses.specs.Sight.{sight_in}
use Rattle.theory_receive_windows.specs.Policy.{may_come}
use Rattle.theory_receive_windows.specs.Rule.{OwesNothing}
use Rattle.theory_requests.specs.Lines.{Heard}
use Rattle.theory_requests.specs.Rule as requests
use Rattle.theory_requests.specs.Rule.{IsKept}
use Rattle.theory.specs.Moves.{Addition, told_in, gained, failed, idled}
use Rattle.theory.specs.Moves.Addition.{Nothing, Begins, Gathers, Passes, Drops}
use Rattle.theory.specs.Moves.Decision.{Takes, Breaks, Notes, Hears, Fails, Idles}
use Rattle.theory.specs.State.{State, gates_in}
use Rattle.theory.specs.Rule.{rooms_in, Additions, MayDo}
use Rattle.theory.specs.Steps.{told_by, told_behind}
use Rattle.theory.specs.Coming.{IsReady, IsGained, MayTake, MayBreakOff, MayHear, MayFail, MayIdle}

module _ (setup : Setup) (behind : Summary) (s : State) (ready : IsReady s) where
  comes : MayComeIn (as_point s.ledger)
  comes = record { nothing = ready.rests.conduct.nothing; none_begun = ready.rests.conduct.none_begun; goes_on = ready.goes_on }

  requests_come : requests.MayCome (told_in (told_by s)) s.requests
  requests_come = record { nothing = ready.rests.served.nothing; none_done = ready.rests.served.none_done; goes_on = ready.goes_on }

  owes_none : OwesNothing (sight_in (told_by s)) (rooms_in (told_by s) s)
  owes_none = ready.rests.given_back ready.open_yet

  ends_not : s.ledger.book.ends ≡ false
  ends_not = first_false s.ledger.book.ends _ ready.goes_on
    where
      first_false : (a b : Bool) → (a || b) ≡ false → a ≡ false
      first_false true b e = cc
      first_false false b e = refl

  -- what departs from the preface, or is too long
  pub may_break : (breach : Breach) → MayDo setup (told_by s) behind s (Breaks breach)
  may_break breach = record {
    rests = λ e. ready.rests;
    conduct = record { allowed = record { open_yet = ready.open_yet; turn = comes }; fit = tt };
    offer = ready.rests.flushed;
    in_turn = tt;
    request = record { open_yet = ready.open_yet; may = requests_come };
    additions = tt;
    calls = λ so. absurd (let no : false ≡ true = so in cc);
    table = tt;
    window = owes_none;
  }

  -- an event of no upstream's answer, that may come by its numbers
  pub may_note : (event : Event) → upstream_of event ≡ 0 → may_come (gates_in (told_by s) s.requests) (rooms_in (told_by s) s) event ≡ true → MayDo setup (told_by s) behind s (Notes event)
  may_note event none may = record {
    rests = λ e. ready.rests;
    conduct = record { allowed = record { open_yet = ready.open_yet; turn = comes }; fit = λ fails. absurd (let no : false ≡ true = fails in cc) };
    offer = (ready.rests.flushed, none);
    in_turn = tt;
    request = record { open_yet = ready.open_yet; may = (requests_come, none) };
    additions = tt;
    calls = λ so. absurd (let no : false ≡ true = so in cc);
    table = tt;
    window = (owes_none, record { settled = owes_none.settled; admitted = may });
  }

  -- what an answer of an upstream asks of requests, by whether it fails
  failed_may : (event : Event) (heard : Heard) → MayBreakOff event → IsKept s.requests (upstream_of event) → requests.MayMove setup (told_in (told_by s)) (told_in behind) s.requests (failed event heard)
  failed_may (UpFailed k) heard of kept = (requests_come, kept)
  failed_may (Up k piece) heard of kept = (requests_come, of, kept)
  failed_may (UpEnd k) heard of kept = (requests_come, of, kept)
  failed_may (Client piece) heard of kept = absurd of
  failed_may ClientEnd heard of kept = absurd of
  failed_may (ClientTook count) heard of kept = absurd of
  failed_may (UpTook k count) heard of kept = absurd of
  failed_may Drain heard of kept = absurd of

  -- an answer that doesn't fail
  pub may_hear : (event : Event) (stream : ℕ) (news : Delivery) (heard : Heard) → MayHear behind s event stream → MayDo setup (told_by s) behind s (Hears event stream news heard)
  may_hear event stream news heard may = record {
    rests = λ e. ready.rests;
    conduct = record { allowed = record { open_yet = ready.open_yet; turn = comes }; fit = λ fails. absurd (let no : false ≡ true = fails in cc) };
    offer = (ready.rests.flushed, may.answer.of, may.calm);
    in_turn = tt;
    request = record { open_yet = ready.open_yet; may = (requests_come, may.of_upstream, may.answer.kept) };
    additions = tt;
    calls = λ so. absurd (let no : false ≡ true = so in cc);
    table = tt;
    window = (owes_none, record { settled = owes_none.settled; admitted = may.answer.admitted });
  }

  -- one that does
  pub may_fail : (event : Event) (stream : ℕ) (heard : Heard) → MayFail behind s event stream → MayDo setup (told_by s) behind s (Fails event stream heard)
  may_fail event stream heard may = record {
    rests = λ e. ready.rests;
    conduct = record { allowed = record { open_yet = ready.open_yet; turn = comes }; fit = λ fails. may.about };
    offer = (ready.rests.flushed, may.answer.of, may.caused);
    in_turn = tt;
    request = record { open_yet = ready.open_yet; may = failed_may event heard may.of_upstream may.answer.kept };
    additions = tt;
    calls = λ so. absurd (let no : false ≡ true = so in cc);
    table = tt;
    window = (owes_none, record { settled = owes_none.settled; admitted = may.answer.admitted });
  }

  -- what comes of an idle connection
  idled_may : (event : Event) → MayBreakOff event → IsKept s.requests (upstream_of event) → requests.MayMove setup (told_in (told_by s)) (told_in behind) s.requests (idled event)
  idled_may (UpFailed k) of kept = (requests_come, kept)
  idled_may (Up k []) of kept = (requests_come, of, kept)
  idled_may (Up k (octet ∷ octets)) of kept = (requests_come, of, kept)
  idled_may (UpEnd k) of kept = (requests_come, of, kept)
  idled_may (Client piece) of kept = absurd of
  idled_may ClientEnd of kept = absurd of
  idled_may (ClientTook count) of kept = absurd of
  idled_may (UpTook k count) of kept = absurd of
  idled_may Drain of kept = absurd of

  pub may_idle : (event : Event) → MayIdle s event → MayDo setup (told_by s) behind s (Idles event)
  may_idle event may = record {
    rests = λ e. ready.rests;
    conduct = record { allowed = record { open_yet = ready.open_yet; turn = comes }; fit = λ fails. absurd (let no : false ≡ true = fails in cc) };
    offer = ready.rests.flushed;
    in_turn = tt;
    request = record { open_yet = ready.open_yet; may = idled_may event may.of_upstream may.kept };
    additions = tt;
    calls = λ so. absurd (let no : false ≡ true = so in cc);
    table = tt;
    window = (owes_none, record { settled = owes_none.settled; admitted = may.admitted });
  }

  request_may : (noted : Noted) (addition : Addition) → IsGained setup behind s noted addition → requests.MayMove setup (told_in (told_by s)) (told_in behind) s.requests (gained noted addition)
  request_may noted Nothing g = requests_come
  request_may noted (Begins head ended route text stage) g = (requests_come, g.1)
  request_may noted (Gathers item route text old body written stage) g = (requests_come, g.1)
  request_may noted (Passes item k old written stage) g = (requests_come, g.1)
  request_may noted (Drops item) g = (requests_come, g.1)

  additions_of : (noted : Noted) (addition : Addition) → IsGained setup behind s noted addition → Additions setup (told_by s) noted addition
  additions_of noted Nothing g = g
  additions_of noted (Begins head ended route text stage) g = g.0
  additions_of noted (Gathers item route text old body written stage) g = g.0
  additions_of noted (Passes item k old written stage) g = g.0
  additions_of noted (Drops item) g = g.0

  -- a frame; where it opens its stream, that is active behind it
  pub may_take : (noted : Noted) (next : Table) (addition : Addition) → MayTake setup behind s noted next addition
      → ((not ((sight_in (told_by s)).opened noted.frame.id) && (sight_in behind).opened noted.frame.id) ≡ true → (sight_in behind).active noted.frame.id ≡ true) → MayDo setup (told_by s) behind s (Takes noted next addition)
  may_take noted next addition may lives = record {
    rests = λ e. ready.rests;
    conduct = record { allowed = record { open_yet = ready.open_yet; turn = comes }; fit = may.fit };
    offer = (ready.rests.flushed, ends_not, refl);
    in_turn = tt;
    request = record { open_yet = ready.open_yet; may = request_may noted addition may.gained };
    additions = additions_of noted addition may.gained;
    calls = λ so. absurd (let no : false ≡ true = so in cc);
    table = may.noted_right;
    window = record { nothing = owes_none; goes_on = ends_not; opens_it = refl; lives = lives; over_with_it = refl };
  }

-- ---- a stream that a frame opens is active behind it

-- a frame that completes a header block is no reset
no_reset : (noted : Noted) (before : Option Partial) (block : Partial) → completed_in before noted.frame ≡ Some block → (noted.frame.kind == rst_stream_kind) ≡ false
no_reset noted before block whole = elim (cases_Bool (noted.frame.kind == rst_stream_kind)) [
  | inr other ↦ other
  | inl is ↦ absurd (let kind : noted.frame.kind ≡ rst_stream_kind = eqb-true noted.frame.kind rst_stream_kind is in
      let none : None ≡ Some block = sym (ap (λ (k : ℕ). completed_in before (record noted.frame { kind = k })) kind) ∙ whole in cc)
]

not_over : (setup : Setup) (s : Summary) (noted : Noted) → (noted.frame.kind == rst_stream_kind) ≡ false → is_over_in (kept_behind setup false s (Came noted) noted.frame.id fresh) ≡ false
not_over setup s noted other = ap (λ b. ((false || (b && noted.frame.id == noted.frame.id || false)) || ended_by_client_after noted.frame.id s (Came noted) false && false)) other ∙ both (ended_by_client_after noted.frame.id s (Came noted) false)
  where
    both : (b : Bool) → (b && false) ≡ false
    both true = refl
    both false = refl

live_in : (k : Kept) → is_over_in k ≡ false → is_over_in (kept_in (slot_of k)) ≡ false
live_in k e = ap (λ b. is_over_in (kept_in (if b then Over k.reset_by_gateway else Live k))) e ∙ e

module _ (setup : Setup) (s : State) (noted : Noted) where
  abbrev u : Summary
  u = told_by s

  abbrev behind : List Row
  behind = rows_after setup false u (Came noted) s.ledger.book.rows

  same_ids : (rows : List Row) → ids_of (map (row_behind setup false u (Came noted)) rows) ≡ ids_of rows
  same_ids [] = refl
  same_ids (row ∷ rows) = ap (λ (ids : List ℕ). row.id ∷ ids) (same_ids rows)

  abbrev opens : Bool
  opens = opens_by u.drained u.opened (completed_in u.block noted.frame) noted.note

  abbrev pub is_one : List ℕ → Bool
  is_one ids = list_any (λ other. other == noted.frame.id) ids

  pub lives : (not (is_one (ids_of s.ledger.book.rows)) && is_one (ids_of behind)) ≡ true → (is_one (ids_of behind) && not (is_over_in (find behind noted.frame.id))) ≡ true
  lives new = cases opens refl
    where
      there : is_one (ids_of behind) ≡ true
      there = (and_parts (not (is_one (ids_of s.ledger.book.rows))) (is_one (ids_of behind)) new).1

      block_of : (block : Option Partial) → opens_by u.drained u.opened block noted.note ≡ true → (b : Partial) × (block ≡ Some b)
      block_of (Some b) e = (b, refl)
      block_of None e = cc

      cases : (b : Bool) → opens ≡ b → (is_one (ids_of behind) && not (is_over_in (find behind noted.frame.id))) ≡ true
      cases true is =
          let block = block_of (completed_in u.block noted.frame) is in
          let live = live_in (kept_behind setup false u (Came noted) noted.frame.id fresh) (not_over setup u noted (no_reset noted u.block block.0 block.1)) in
          let rows : behind ≡ row_opened setup false u (Came noted) noted.frame.id ∷ map (row_behind setup false u (Came noted)) s.ledger.book.rows =
          ap (λ b. if b then row_opened setup false u (Came noted) noted.frame.id ∷ map (row_behind setup false u (Came noted)) s.ledger.book.rows else map (row_behind setup false u (Came noted)) s.ledger.book.rows) is in
          and_from (is_one (ids_of behind)) (not (is_over_in (find behind noted.frame.id))) there
          (ap not (ap (λ (rs : List Row). is_over_in (find rs noted.frame.id)) rows
          ∙ ap (λ b. is_over_in (if b then kept_in (slot_of (kept_behind setup false u (Came noted) noted.frame.id fresh)) else find (map (row_behind setup false u (Came noted)) s.ledger.book.rows) noted.frame.id)) (eq-eqb noted.frame.id noted.frame.id refl)
          ∙ live))
      cases false is =
          absurd (let same : is_one (ids_of behind) ≡ is_one (ids_of s.ledger.book.rows) =
          ap (λ (rs : List Row). is_one (ids_of rs)) (ap (λ b. if b then row_opened setup false u (Came noted) noted.frame.id ∷ map (row_behind setup false u (Came noted)) s.ledger.book.rows else map (row_behind setup false u (Came noted)) s.ledger.book.rows) is)
          ∙ ap is_one (same_ids s.ledger.book.rows) in
          let not_there = (and_parts (not (is_one (ids_of s.ledger.book.rows))) (is_one (ids_of behind)) new).0 in
          clash (is_one (ids_of s.ledger.book.rows)) not_there (sym same ∙ there))
        where
          clash : (b : Bool) → not b ≡ true → b ≡ true → ⊥
          clash true e f = let no : false ≡ true = e in cc
          clash false e f = let no : false ≡ true = f in cc

-- so a frame may come, by what the book tells
pub may_take_by_book : (setup : Setup) (s : State) → IsReady s → (noted : Noted) (next : Table) (addition : Addition) → MayTake setup (told_behind setup s (Takes noted next addition)) s noted next addition → MayDo setup (told_by s) (told_behind setup s (Takes noted next addition)) s (Takes noted next addition)
may_take_by_book setup s ready noted next addition may = may_take setup (told_behind setup s (Takes noted next addition)) s ready noted next addition may (lives setup s noted)
