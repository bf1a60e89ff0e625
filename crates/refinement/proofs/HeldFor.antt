-- Where moves led, what is held of each stream whose items go on lets its request go on, whether requests are passed on whole or as they come.
use Rattle.std.proofs.Common.{◌≡◌, ℕ, ◌+◌, Bool, true, false, not, ◌&&◌, ◌||◌, ◌==◌, if◌then◌else◌, ◌⊎◌, List, [], ◌∷◌, ◌++◌, length, length-append, Option, Some, None, leb-true, le-leb, refl, sym, ◌∙◌, ap, subst, inl, inr, arith}
use Rattle.std.specs.Prelude.{is_none}
use Rattle.std.specs.List.{concat, list_any}
use Rattle.std.proofs.lemmas.List.{nil_from_length}
use Rattle.std.proofs.lemmas.Bool.{or_parts, eqb-true}
use Rattle.model.specs.Messages.{Field, Item}
use Rattle.model.specs.Http2.{HasLength, declared_length, body_of}
use Rattle.model.specs.Malformed.{declared, has_length, is_within}
use Rattle.model.specs.Known.{Known}
use Rattle.model.specs.Setup.{Setup}
use Rattle.model.specs.Logs.Act.{CloseClient}
use Rattle.model.specs.Tapes.{Entry}
use Rattle.model.specs.Causes.{Cause}
use Rattle.model.specs.Courses.{course, items}
use Rattle.request_rules.specs.Heads.{HeadParts, parts_of}
use Rattle.h1_writer.specs.Sending.{Stage, Sending, SentCounting, SentHolding, SentChunking, HasRoom}
use Rattle.h1_writer.specs.Sending.Stage.{Whole, Counting, Holding, Chunking}
use Rattle.h1_writer.proofs.Wholes.{room_to_push}
use Rattle.model.specs.ErrorClause.{is_calming}
use Rattle.theory_errors.specs.Summary.{Stream as Kept, Outline, Summary, outline_of, summary_of}
use Rattle.theory_errors.specs.Rule.{known_of, point_of}
use Rattle.theory_errors.proofs.Knowing.{known_so}
use Rattle.theory_errors.proofs.Telling.{book_told, active_told, live_told}
use Rattle.theory_errors.specs.Judging.{is_over_in}
use Rattle.theory_errors.specs.Rows.{Row, Slot, ids_of, find, kept_in}
use Rattle.theory_errors.specs.Rows.Slot.{Live, Over}
use Rattle.theory_errors.specs.Tidy.{AreKept, IsTidy}
use Rattle.theory_errors.specs.Told.{IsTold}
use Rattle.theory_errors.specs.Book.{Book, MayMove, ledger_of, summary_in}
use Rattle.theory_errors.proofs.Tidy.{ledger_kept}
use Rattle.theory_requests.specs.State as theory_requests
use Rattle.theory_requests.specs.Written.{IsWritten, IsAwaited}
use Rattle.theory_requests.specs.Lines.{k_of}
use Rattle.theory_requests.specs.State.{Way, Held, id_of, held_of, Due, is_whole}
use Rattle.theory_requests.specs.State.Way.{Waiting, Going, Dropped}
use Rattle.theory_requests.specs.State.Due.{Nothing}
use Rattle.theory_requests.proofs.Lists.{found_key}
use Rattle.theory.specs.Moves.{Decision, Move, conduct_of, told_in}
use Rattle.theory.specs.Moves.Decision.{Takes, Breaks, Notes, Hears, Fails, Idles, Sends, Goes, Acts}
use Rattle.theory.specs.Moves.Move.{Does, Settles}
use Rattle.theory.specs.State.{State, conducts, tape_of, summary_at, turns_of, state_of}
use Rattle.theory.specs.Rule.{AdditionsIf, AllAllowed}
use Rattle.theory.specs.Steps.{Stands}
use Rattle.theory.proofs.Stepping.{before_is}
use Rattle.theory.proofs.Telling.{all_moved}
use Rattle.theory_requests.proofs.Standing.{IsOnWay, IsGoing, text_of}
use Rattle.refinement.specs.Led.{IsLed}
use Rattle.refinement.specs.View.{AreSo}
use Rattle.refinement.specs.Ways.{MayEndBehind, MayWait, MayGoOn, GoesBy, IsHeldFor, IsDuePart, IsOpenFor}
use Rattle.refinement.proofs.Sound.{stands as sound}
use Rattle.refinement.proofs.Going.{IsHeld, AllGoOn, done}

-- ---- along a run

-- a stream of which something is kept is active
pub begun_active : (rows : List Row) → AreKept rows → (id : ℕ) → (find rows id).outline.begun ≡ true → (list_any (λ other. other == id) (ids_of rows) && not (is_over_in (find rows id))) ≡ true
begun_active [] kept id begun = cc
begun_active (row ∷ rows) kept id begun = by (row.id == id) begun (begun_active rows kept.2 id)
  where
    live : (slot : Slot) → IsTidy slot → (kept_in slot).outline.begun ≡ true → not (is_over_in (kept_in slot)) ≡ true
    live (Live k) tidy b = ap not tidy.0
    live (Over by_us) tidy b = cc

    by : (b : Bool) → (if b then kept_in row.slot else find rows id).outline.begun ≡ true → ((find rows id).outline.begun ≡ true → (list_any (λ other. other == id) (ids_of rows) && not (is_over_in (find rows id))) ≡ true)
        → ((b || list_any (λ other. other == id) (ids_of rows)) && not (is_over_in (if b then kept_in row.slot else find rows id))) ≡ true
    by true here later = live row.slot kept.0.tidy here
    by false here later = later here

-- the connection went on before a decision with which it does
pub went_on : (setup : Setup) (run : List Move) (d : Decision) → MayMove (ledger_of setup (conducts run)) (conduct_of d) → (ledger_of setup (conducts (Does d ∷ run))).book.ends ≡ false → (ledger_of setup (conducts run)).book.ends ≡ false
went_on setup run (Takes noted next addition) may on = (or_parts _ _ may.allowed.turn.goes_on).0
went_on setup run (Breaks breach) may on = (or_parts _ _ may.allowed.turn.goes_on).0
went_on setup run (Notes event) may on = (or_parts _ _ may.allowed.turn.goes_on).0
went_on setup run (Hears event stream news heard) may on = (or_parts _ _ may.allowed.turn.goes_on).0
went_on setup run (Fails event stream heard) may on = (or_parts _ _ may.allowed.turn.goes_on).0
went_on setup run (Idles event) may on = (or_parts _ _ may.allowed.turn.goes_on).0
went_on setup run (Sends noted next) may on = (or_parts (is_calming noted.frame) _ on).1
went_on setup run (Goes noted item part next) may on = (or_parts (is_calming noted.frame) _ on).1
went_on setup run (Acts act) may on = on

was_open : (setup : Setup) (run : List Move) (d : Decision) → (ledger_of setup (conducts (Does d ∷ run))).book.closed ≡ false → (d ≡ Acts CloseClient → ⊥)
was_open setup run d open_yet is = let no : true ≡ false = sym (ap (λ (x : Decision). (ledger_of setup (conducts (Does x ∷ run))).book.closed) is) ∙ open_yet in cc

-- While the connection goes on, something is held of each stream whose items do, or a connection is due for it, and it isn't replied to.
all_go_on : (setup : Setup) → (run : List Move) → AllAllowed setup run → (ledger_of setup (conducts run)).book.ends ≡ false → (ledger_of setup (conducts run)).book.closed ≡ false
    → AllGoOn (ledger_of setup (conducts run)).book.rows (theory_requests.state_of setup (turns_of setup run))
all_go_on setup [] allowed on open_yet = record { awaited = λ id begun over. cc; no_cause = λ id over. refl; parts = λ id h found. cc; due = tt }
all_go_on setup (Settles ∷ run) allowed on open_yet = all_go_on setup run allowed on open_yet
all_go_on setup (Does d ∷ run) allowed on open_yet =
    done setup book (theory_requests.state_of setup (turns_of setup run)) (all_go_on setup run allowed.0 before_on allowed.1.conduct.allowed.open_yet) (told_in (summary_at setup run)) (told_in (summary_at setup (Does d ∷ run))) d served
    (subst (λ (u : Summary). AdditionsIf setup u d) same allowed.1.additions)
    allowed.1.request.may
    (was_open setup run d open_yet)
  where
    book : Book
    book = (ledger_of setup (conducts run)).book

    now : Book
    now = (ledger_of setup (conducts (Does d ∷ run))).book

    before_on : book.ends ≡ false
    before_on = went_on setup run d allowed.1.conduct on

    same : summary_at setup run ≡ summary_in book
    same = before_is setup run (state_of setup run) (record { allowed = allowed.0; is = refl; goes_on = before_on })

    served : (id : ℕ) → (find now.rows id).outline.begun ≡ true → (find now.rows id).outline.cause ≡ None → (told_in (summary_at setup (Does d ∷ run))).served id ≡ true
    served id begun none =
        ap (λ b. (told_in (if b then (point_of setup (conducts (Does d ∷ run))).summary else summary_in now)).served id) on
        ∙ ap (λ b. b && is_none (find now.rows id).outline.cause) (begun_active now.rows (ledger_kept setup (conducts (Does d ∷ run))) id begun)
        ∙ ap (λ (c : Option Cause). is_none c) none

-- ---- what may come of a request by the course of its stream

told_length : (declared : Option ℕ) (body : List ℕ) → has_length declared (length body) ≡ true → HasLength declared body
told_length None body is = tt
told_length (Some n) body is = eqb-true (length body) n is

-- octets that keep within what is declared have room
has_room : (declared : Option ℕ) (pieces : List (List ℕ)) (count : ℕ) → is_within declared (length (concat pieces) + count) ≡ true → HasRoom declared pieces count
has_room None pieces count is = tt
has_room (Some n) pieces count is = leb-true (length (concat pieces) + count) n is

-- just as many as are declared keep within
pub within_length : (declared : Option ℕ) (count : ℕ) → has_length declared count ≡ true → is_within declared count ≡ true
within_length None count is = refl
within_length (Some n) count is = let same : count ≡ n = eqb-true count n is in le-leb count n (omega arith)

not_whole : (stage : Stage) → is_whole stage ≡ false → stage ≡ Whole → ⊥
not_whole stage part is = let no : true ≡ false = sym (ap is_whole is) ∙ part in cc

part_of : (stage : Stage) → (stage ≡ Whole → ⊥) → is_whole stage ≡ false
part_of Whole not_so = absurd (not_so refl)
part_of (Counting left) not_so = refl
part_of (Holding octet) not_so = refl
part_of Chunking not_so = refl

-- a text that isn't whole is of a head that didn't end its stream
of_open_head : (keep : Bool) (parts : HeadParts) (ended : Bool) (text : List ℕ) (pieces : List (List ℕ)) (trailers : List Field) (stage : Stage) → (stage ≡ Whole → ⊥) → Sending keep parts ended text pieces trailers stage → Sending keep parts false text pieces [] stage
of_open_head keep parts ended text pieces trailers Whole part sending = absurd (part refl)
of_open_head keep parts ended text pieces trailers (Counting left) part sending = subst (λ b. SentCounting keep parts b text pieces left) sending.not_ended sending
of_open_head keep parts ended text pieces trailers (Holding octet) part sending = subst (λ b. SentHolding keep parts b text pieces octet) sending.not_ended sending
of_open_head keep parts ended text pieces trailers Chunking part sending = subst (λ b. SentChunking keep parts b text pieces) sending.not_ended sending

-- it may be ended behind octets with which it has the declared length
ends_behind : (keep : Bool) (parts : HeadParts) (ended : Bool) (text : List ℕ) (pieces : List (List ℕ)) (trailers : List Field) (stage : Stage) (octets : List ℕ) → (stage ≡ Whole → ⊥) → Sending keep parts ended text pieces trailers stage
    → has_length parts.length (length (concat pieces) + length octets) ≡ true → MayEndBehind stage octets
ends_behind keep parts ended text pieces trailers Whole octets part sending long = part refl
ends_behind keep parts ended text pieces trailers (Counting left) octets part sending long =
    let is : length (concat pieces) + length octets ≡ length (concat pieces) + left = eqb-true (length (concat pieces) + length octets) (length (concat pieces) + left) (subst (λ (d : Option ℕ). has_length d (length (concat pieces) + length octets) ≡ true) sending.declared long) in
    omega arith
ends_behind keep parts ended text pieces trailers (Holding octet) octets part sending long =
    let is : length (concat pieces) + length octets ≡ length (concat pieces) = eqb-true (length (concat pieces) + length octets) (length (concat pieces)) (subst (λ (d : Option ℕ). has_length d (length (concat pieces) + length octets) ≡ true) sending.declared long) in
    nil_from_length octets (omega arith)
ends_behind keep parts ended text pieces trailers Chunking octets part sending long = tt

-- a request that waits, by its items
waits_by : (keep : Bool) (items : List Item) (outline : Outline) (route : ℕ) (text : List ℕ) (stage : Stage) (body : List ℕ) → outline.declared ≡ declared items → outline.octets ≡ length (body_of items) → IsAwaited keep items text stage body → MayWait outline route text stage body
waits_by keep items outline route text stage body declared_is octets_is a = record {
  part = part_of stage a.part;
  may_end = λ octets long. record {
    keep = keep;
    parts = _;
    sending = a.sending;
    goes_on = a.part;
    has_length =
        told_length (declared_length a.head) (body ++ octets)
        (ap (λ n. has_length (declared_length a.head) n) (length-append body octets)
        ∙ ap (λ (xs : List ℕ). has_length (declared_length a.head) (length xs + length octets)) a.body_is
        ∙ sym (ap (λ (xs : List Item). has_length (declared xs) (length (body_of xs) + length octets)) a.is)
        ∙ ap (λ n. has_length (declared items) (n + length octets)) (sym octets_is)
        ∙ ap (λ (d : Option ℕ). has_length d (outline.octets + length octets)) (sym declared_is)
        ∙ long);
  };
}

-- a request that goes out, by its items
goes_by : (keep : Bool) (items : List Item) (outline : Outline) (text : List ℕ) (stage : Stage) → outline.declared ≡ declared items → outline.octets ≡ length (body_of items) → is_whole stage ≡ false → IsWritten keep items text stage → MayGoOn outline stage
goes_by keep items outline text stage declared_is octets_is part w = record {
  part = part;
  parts = parts_of w.head;
  text = text;
  pieces = w.pieces;
  keep = keep;
  sending = open_sending;
  counted = counted;
  declared = sent_declared;
  may_push = λ octets within.
      room_to_push keep (parts_of w.head) false text w.pieces stage (length octets) open_sending not_so
      (has_room (parts_of w.head).length w.pieces (length octets) (same is_within (length octets) ∙ within));
  full = λ octets long.
      told_length (parts_of w.head).length (concat w.pieces ++ octets)
      (ap (λ n. has_length (parts_of w.head).length n) (length-append (concat w.pieces) octets) ∙ same has_length (length octets) ∙ long);
  may_end = λ octets long. ends_behind keep (parts_of w.head) false text w.pieces [] stage octets not_so open_sending (same has_length (length octets) ∙ long);
}
  where
    not_so : stage ≡ Whole → ⊥
    not_so = not_whole stage part

    open_sending : Sending keep (parts_of w.head) false text w.pieces [] stage
    open_sending = of_open_head keep (parts_of w.head) w.ended text w.pieces _ stage not_so w.sending

    sent_declared : (parts_of w.head).length ≡ outline.declared
    sent_declared = sym (ap (λ (xs : List Item). declared xs) w.is) ∙ sym declared_is

    counted : length (concat w.pieces) ≡ outline.octets
    counted = ap (λ (xs : List ℕ). length xs) w.body ∙ sym (ap (λ (xs : List Item). length (body_of xs)) w.is) ∙ sym octets_is

    same : (test : Option ℕ → ℕ → Bool) (count : ℕ) → test (parts_of w.head).length (length (concat w.pieces) + count) ≡ test outline.declared (outline.octets + count)
    same test count = ap (λ (d : Option ℕ). test d (length (concat w.pieces) + count)) sent_declared ∙ ap (λ n. test outline.declared (n + count)) counted

-- ---- by what is kept

module _ (setup : Setup) (run : List Move) (s : State) (stands : Stands setup run s) (so : AreSo setup run) where
  abbrev known : Known
  known = known_of setup (conducts run)

  abbrev t : List Entry
  t = tape_of run

  led : IsLed known run s
  led = record { knows = known_so setup (conducts run); answered = so known refl (known_so setup (conducts run)); stands = stands }

  told : IsTold s.ledger.book (summary_of known t)
  told =
      subst (λ (x : State). IsTold x.ledger.book (summary_of known t)) stands.is
      (book_told known (conducts run) (known_so setup (conducts run)) (all_moved known run stands.allowed) (ap (λ (x : State). x.ledger.book.ends) stands.is ∙ stands.goes_on))

  rows_so : AreKept s.ledger.book.rows
  rows_so = subst (λ (x : State). AreKept x.ledger.book.rows) stands.is (ledger_kept setup (conducts run))

  -- What is held of a stream that carried something may go on by what the book tells of it.
  pub by_way : (id : ℕ) → (find s.ledger.book.rows id).outline.begun ≡ true → IsHeld id s.requests.held → IsHeldFor (find s.ledger.book.rows id).outline id s.requests.held
  by_way id begun held = record {
    way = held.0.way;
    found = held.1 ∙ ap (λ n. Some (let x : Held = record { id = n; way = held.0.way } in x)) (found_key id_of id s.requests.held held.0 held.1);
    goes = on held.0.way ((sound known run s led).held id held.0 held.1);
  }
    where
      outline : (find s.ledger.book.rows id).outline ≡ outline_of (course known id t)
      outline = ap (λ (k : Kept). k.outline) (live_told known t s.ledger.book told id (sym (active_told known t s.ledger.book told id) ∙ begun_active s.ledger.book.rows rows_so id begun))

      on : (way : Way) → IsOnWay known t s.requests id way → GoesBy (find s.ledger.book.rows id).outline way
      on (Waiting route text stage body) so = waits_by setup.keep (items known id t) (find s.ledger.book.rows id).outline route text stage body (ap (λ (b : Outline). b.declared) outline) (ap (λ (b : Outline). b.octets) outline) so.awaited
      on (Going k stage) so = goes_by setup.keep (items known id t) (find s.ledger.book.rows id).outline (text_of so.o t s.requests.due) stage (ap (λ (b : Outline). b.declared) outline) (ap (λ (b : Outline). b.octets) outline) so.part so.written
      on Dropped so = tt

  -- What goes out goes out on a connection that is open and is its stream's.
  pub goes_out : (id k : ℕ) (stage : Stage) → held_of id s.requests.held ≡ Some (record { id = id; way = Going k stage }) → IsOpenFor id k s.requests.live
  goes_out id k stage found =
      let way : IsGoing known t s.requests id k stage = (sound known run s led).held id (record { id = id; way = Going k stage }) found in
      record { line = way.line.0; found = way.line.1; number = found_key k_of k s.requests.live way.line.0 way.line.1; stream = way.line.2 }

  module _ (open_yet : s.ledger.book.closed ≡ false) where
    -- All streams whose items go on are awaited.
    pub go_on_so : AllGoOn s.ledger.book.rows s.requests
    go_on_so =
        subst (λ (x : State). AllGoOn x.ledger.book.rows x.requests) stands.is
        (all_go_on setup run stands.allowed (ap (λ (x : State). x.ledger.book.ends) stands.is ∙ stands.goes_on) (ap (λ (x : State). x.ledger.book.closed) stands.is ∙ open_yet))

    -- Something is held of a stream whose items go on, or a connection is due for it.
    pub held_or_due : (id : ℕ) → (find s.ledger.book.rows id).outline.begun ≡ true → (find s.ledger.book.rows id).outline.over ≡ false → IsHeldFor (find s.ledger.book.rows id).outline id s.requests.held ⊎ IsDuePart s.requests.due id
    held_or_due id begun over = elim (go_on_so.awaited id begun over) [ inl held ↦ inl (by_way id begun held) | inr part ↦ inr part ]

    -- Where nothing is due something is held of it.
    pub held_for : s.requests.due ≡ Nothing → (id : ℕ) → (find s.ledger.book.rows id).outline.begun ≡ true → (find s.ledger.book.rows id).outline.over ≡ false → IsHeldFor (find s.ledger.book.rows id).outline id s.requests.held
    held_for nothing id begun over = elim (held_or_due id begun over) [ inl held ↦ held | inr part ↦ absurd (subst (λ (due : Due). IsDuePart due id) nothing part) ]
