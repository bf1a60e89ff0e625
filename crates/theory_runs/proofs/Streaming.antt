-- A run where requests are passed on as they come: octets of a body go out at once, wait until the upstream's side has taken them,
-- and are given back then.
use Rattle.std.proofs.Common.{◌≡◌, ℕ, ◌+◌, ◌==◌, Bool, true, false, List, [], ◌∷◌, length, refl, subst, inl, inr, arith, pos}
use Rattle.std.proofs.lemmas.Bool.{eqb-true}
use Rattle.std.specs.Prelude.{codes}
use Rattle.model.specs.Messages.Item.{Content}
use Rattle.model.specs.Frames.{Frame, settings_ack}
use Rattle.model.specs.Tables.{total_size}
use Rattle.model.specs.Logs.Event.{UpTook}
use Rattle.model.specs.Logs.Act.{Open, ToUp}
use Rattle.model.specs.Openings.{Opened}
use Rattle.model.specs.Setup.{Setup}
use Rattle.model.specs.Setup.Passing.{Streaming}
use Rattle.model.specs.Tapes.{Noted}
use Rattle.model.specs.Tapes.Note.{Fields}
use Rattle.model.specs.Tapes.Entry.{Came, Happened, Sent, Did}
use Rattle.model.specs.Http1Text.{chunk_text}
use Rattle.h1_writer.specs.Sending.Stage.{Chunking}
use Rattle.h1_writer.proofs.Stages.{adds_chunk}
use Rattle.theory_errors.specs.Book.{Ledger}
use Rattle.theory_errors.specs.Rows.{Row}
use Rattle.theory_errors.specs.Rows.Slot.{Live}
use Rattle.theory_receive_windows.specs.State.{add, change, blank, paid, given, with_taken, kept_of}
use Rattle.theory_requests.specs.Lines.Answer.{Pending}
use Rattle.theory_requests.specs.State.Way.{Going}
use Rattle.theory_requests.specs.State.Due.{Nothing, ToOpen, ToSend}
use Rattle.theory_header_tables.proofs.Requests.{request, decoded, request_read}
use Rattle.theory.specs.Moves.{Decision, Move}
use Rattle.theory.specs.Moves.Addition.{Begins, Passes}
use Rattle.theory.specs.Moves.Decision.{Takes, Notes, Sends, Acts}
use Rattle.theory.specs.Moves.Move.{Does, Settles}
use Rattle.theory.specs.State.{State, tape_of, state_of}
use Rattle.theory.specs.Rule.{rooms_in, MayDo, Rests, RestsBehind}
use Rattle.model.specs.Headline.{ClausesHold}
use Rattle.theory.proofs.Keeping.{clauses}
use Rattle.theory.specs.Steps.{told_by, Stands, next}
use Rattle.theory_runs.proofs.Steps.{goes, settles, rests}
use Rattle.theory_runs.proofs.Greeting.{setup, frame, plain, never, none_kept, ours, theirs, acked}
use Rattle.theory_runs.proofs.Request.{one_whole, only_one, first_route}
use Rattle.theory_runs.proofs.Answer.{at_forwarded}
use Rattle.theory_runs.proofs.Body.{first_given, silent_one, posting}

abbrev pub streaming : Setup
streaming = record setup { passing = Streaming }

-- ---- the moves

-- a GET with a body, its text, and the first octets
abbrev pub asks : Noted
asks = record { frame = frame 1 4 1 (130 ∷ 134 ∷ 132 ∷ 65 ∷ 1 ∷ 97 ∷ []); note = Fields request }

abbrev pub text : List ℕ
text = codes "GET / HTTP/1.1\r\nhost: a\r\nvia: 2.0 h2gw\r\ntransfer-encoding: chunked\r\nconnection: close\r\n\r\n"

abbrev pub octets : Noted
octets = plain (frame 0 0 1 (codes "he"))

abbrev pub chunk : List ℕ
chunk = chunk_text (codes "he")

abbrev pub asked_decision : Decision
asked_decision = Takes asks decoded (Begins request false 0 text Chunking)

abbrev pub octets_decision : Decision
octets_decision = Takes octets decoded (Passes (Content (codes "he") false) 1 Chunking chunk Chunking)

-- the upstream's side takes all of it
abbrev pub took_decision : Decision
took_decision = Notes (UpTook 1 (length text + length chunk))

abbrev pub shared_back : Noted
shared_back = plain (frame 8 0 0 (0 ∷ 0 ∷ 0 ∷ 2 ∷ []))

abbrev pub own_back : Noted
own_back = plain (frame 8 0 1 (0 ∷ 0 ∷ 0 ∷ 2 ∷ []))

abbrev pub greeted : List Move
greeted = Does acked ∷ Does theirs ∷ Does ours ∷ []

abbrev pub begun : List Move
begun = Settles ∷ Does (Acts (ToUp 1 text)) ∷ Does (Acts (Open 1 0)) ∷ Does asked_decision ∷ greeted

abbrev pub waits : List Move
waits = Settles ∷ Does (Acts (ToUp 1 chunk)) ∷ Does octets_decision ∷ begun

abbrev pub returned : List Move
returned = Does (Sends own_back decoded) ∷ Does (Sends shared_back decoded) ∷ Does took_decision ∷ waits

-- ---- what is kept behind each

abbrev pub ledger : Bool → List Frame → List Row → List Opened → ℕ → ℕ → ℕ → Ledger
ledger came queue rows connections last room untaken = record {
  book = record at_forwarded.ledger.book { has_come = came; room = pos room; rows = rows; given = connections; last = last; untaken = untaken };
  queue = queue;
}

abbrev pub row : ℕ → ℕ → List Row
row count room = record { id = 1; slot = Live (posting count room) } ∷ []

abbrev pub at_start : State
at_start = state_of streaming []

abbrev pub at_ours : State
at_ours = record at_start {
  ledger = ledger false [] [] [] 0 65535 21;
  offers = at_start.offers;
  windows = at_start.windows;
}

abbrev pub at_theirs : State
at_theirs = record at_ours { ledger = ledger true (settings_ack ∷ []) [] [] 0 65535 21 }

abbrev pub at_greeted : State
at_greeted = record at_theirs {
  ledger = ledger true [] [] [] 0 65535 30;
  offers = at_theirs.offers;
  windows = at_theirs.windows;
}

abbrev pub at_asked : State
at_asked = record at_greeted {
  ledger = ledger true [] (row 0 65535) [] 1 65535 30;
  offers = record at_greeted.offers { kept = silent_one 1 ∷ [] };
  requests = record at_greeted.requests { due = ToOpen 1 0 text Chunking };
  tables = record at_greeted.tables { decoding = decoded };
  windows = record at_greeted.windows { row = change 1 (λ r. blank) at_greeted.windows.row };
}

abbrev pub at_opened : State
at_opened = record at_asked {
  ledger = ledger true [] (row 0 65535) (first_given ∷ []) 1 65535 30;
  requests = record { held = record { id = 1; way = Going 1 Chunking } ∷ []; live = record { k = 1; route = 0; stream = 1; answer = Pending } ∷ []; due = ToSend 1 text; count = 1 };
  windows = record at_asked.windows { row = change 1 (given 1) at_asked.windows.row };
}

abbrev pub at_put : State
at_put = record at_opened {
  requests = record at_opened.requests { due = Nothing };
  windows = record at_opened.windows { out = add 1 (length text) at_opened.windows.out };
}

abbrev pub at_begun : State
at_begun = next streaming at_put Settles

abbrev pub at_octets : State
at_octets = record at_begun {
  ledger = ledger true [] (row 2 65533) (first_given ∷ []) 1 65533 30;
  requests = record at_begun.requests { due = ToSend 1 chunk };
  windows = record at_begun.windows { count = 2; settled = false };
}

abbrev pub at_passed : State
at_passed = record at_octets {
  requests = record at_octets.requests { due = Nothing };
  windows = record at_octets.windows { out = add 1 (length chunk) at_octets.windows.out };
}

abbrev pub at_waits : State
at_waits = next streaming at_passed Settles

-- ---- each may come

ours_may : MayDo streaming (told_by at_start) (told_by at_ours) at_start ours
ours_may = record {
  rests = λ e. never e;
  conduct = record { allowed = record { open_yet = refl; turn = inl (record { front = refl; control = refl; owing = refl; calm = refl }) }; fit = refl };
  offer = record { no_block = refl; no_data = refl };
  in_turn = λ e. never e;
  request = record { open_yet = refl; may = inl refl };
  additions = tt;
  calls = λ so. absurd (let no : false ≡ true = so in cc);
  table = record { together = refl; is_given = refl };
  window = record { kind = refl; over_with_it = refl };
}

-- behind the gateway's settings it rests
ours_rests : Rests (told_by at_ours) at_ours
ours_rests = record {
  conduct = record { nothing = refl; none_begun = refl; ended = λ e. never e };
  flushed = record { none_cut = λ low stream kept found. none_kept found; none_ready = λ low. refl };
  served = record { nothing = refl; none_done = refl; ended = λ e. never e };
  read = refl;
  given_back = λ open_yet. record { settled = refl; shared = refl; own = λ stream active goes_on. never active };
}

theirs_may : MayDo streaming (told_by at_ours) (told_by at_theirs) at_ours theirs
theirs_may = record {
  rests = λ e. ours_rests;
  conduct = record { allowed = record { open_yet = refl; turn = record { nothing = refl; none_begun = refl; goes_on = refl } }; fit = λ fine completes. never completes };
  offer = (ours_rests.flushed, refl, refl);
  in_turn = tt;
  request = record { open_yet = refl; may = record { nothing = refl; none_done = refl; goes_on = refl } };
  additions = refl;
  calls = λ so. absurd (let no : false ≡ true = so in cc);
  table = record { is_noted = refl };
  window = record { nothing = ours_rests.given_back refl; goes_on = refl; opens_it = refl; lives = λ e. never e; over_with_it = refl };
}

acked_may : MayDo streaming (told_by at_theirs) (told_by at_greeted) at_theirs acked
acked_may = record {
  rests = λ e. never e;
  conduct = record { allowed = record { open_yet = refl; turn = inl (record { front = refl; control = refl; owing = refl; calm = refl }) }; fit = refl };
  offer = record { no_block = refl; no_data = refl };
  in_turn = λ e. never e;
  request = record { open_yet = refl; may = inl refl };
  additions = tt;
  calls = λ so. absurd (let no : false ≡ true = so in cc);
  table = record { together = refl; is_given = refl };
  window = record { kind = refl; over_with_it = refl };
}

-- behind both sides' settings too
greeted_rest : Rests (told_by at_greeted) at_greeted
greeted_rest = record {
  conduct = record { nothing = refl; none_begun = refl; ended = λ e. never e };
  flushed = record { none_cut = λ low stream kept found. none_kept found; none_ready = λ low. refl };
  served = record { nothing = refl; none_done = refl; ended = λ e. never e };
  read = refl;
  given_back = λ open_yet. record { settled = refl; shared = refl; own = λ stream active goes_on. never active };
}

asked_may : MayDo streaming (told_by at_greeted) (told_by at_asked) at_greeted asked_decision
unfolding total_size
asked_may = record {
  rests = λ e. greeted_rest;
  conduct = record { allowed = record { open_yet = refl; turn = record { nothing = refl; none_begun = refl; goes_on = refl } }; fit = λ fine completes. refl };
  offer = (greeted_rest.flushed, refl, refl);
  in_turn = tt;
  request = record {
    open_yet = refl;
    may = (
      record { nothing = refl; none_done = refl; goes_on = refl },
      record {
        serving = record { counted = omega arith; served = refl; goes_on = refl };
        by_route = first_route;
        sending = record { not_ended = refl; full = refl; undeclared = refl; is = refl };
        whole = refl;
      },
    );
  };
  additions = record { first = refl; adds = record { adds = refl; goes_on = refl } };
  calls = λ so. absurd (let no : false ≡ true = so in cc);
  table = record { is_noted = request_read };
  window = record { nothing = greeted_rest.given_back refl; goes_on = refl; opens_it = refl; lives = λ e. refl; over_with_it = refl };
}

opened_may : MayDo streaming (told_by at_asked) (told_by at_opened) at_asked (Acts (Open 1 0))
unfolding total_size
opened_may = record {
  rests = λ e. never e;
  conduct = record { allowed = record { open_yet = refl; turn = refl }; fit = tt };
  offer = record { active = refl; has_items = refl; no_cause = refl; first = tt; counted = omega arith };
  in_turn = tt;
  request = record { open_yet = refl; may = record { stream = 1; text = text; stage = Chunking; due = refl; next = refl } };
  additions = tt;
  calls = λ so. absurd (let no : false ≡ true = so in cc);
  table = tt;
  window = record { active = refl; counted = omega arith; first = refl; unused = refl; untaken = refl };
}

put_may : MayDo streaming (told_by at_opened) (told_by at_put) at_opened (Acts (ToUp 1 text))
unfolding total_size
put_may = record {
  rests = λ e. never e;
  conduct = record { allowed = record { open_yet = refl; turn = refl }; fit = tt };
  offer = λ begins. absurd (let no : false ≡ true = begins in cc);
  in_turn = tt;
  request = record { open_yet = refl; may = inl refl };
  additions = tt;
  calls = λ so. absurd (let no : false ≡ true = so in cc);
  table = tt;
  window = record { opened = refl; its = refl; in_effect = λ e. refl };
}

begun_rest : Rests (told_by at_begun) at_begun
begun_rest = record {
  conduct = record { nothing = refl; none_begun = refl; ended = λ e. never e };
  flushed = record { none_cut = λ low stream kept found. one_whole (1 == stream) (silent_one 1) kept refl found; none_ready = λ low. refl };
  served = record { nothing = refl; none_done = refl; ended = λ e. never e };
  read = refl;
  given_back = λ open_yet. record { settled = refl; shared = refl; own = λ stream active goes_on. subst (λ (id : ℕ). (at_begun.windows.row id).debt ≡ 0) (eqb-true 1 stream (only_one (1 == stream) _ active)) refl };
}

octets_may : MayDo streaming (told_by at_begun) (told_by at_octets) at_begun octets_decision
unfolding total_size
octets_may = record {
  rests = λ e. begun_rest;
  conduct = record { allowed = record { open_yet = refl; turn = record { nothing = refl; none_begun = refl; goes_on = refl } }; fit = λ fine completes. never completes };
  offer = (begun_rest.flushed, refl, refl);
  in_turn = tt;
  request = record {
    open_yet = refl;
    may = (
      record { nothing = refl; none_done = refl; goes_on = refl },
      record {
        serving = record { counted = omega arith; served = refl; goes_on = refl };
        found = refl;
        continues = adds_chunk Chunking (codes "he") refl (omega arith);
        whole = refl;
      },
    );
  };
  additions = record { adds = refl; goes_on = refl };
  calls = λ so. absurd (let no : false ≡ true = so in cc);
  table = record { is_noted = refl };
  window = record { nothing = begun_rest.given_back refl; goes_on = refl; opens_it = refl; lives = λ e. never e; over_with_it = refl };
}

passed_may : MayDo streaming (told_by at_octets) (told_by at_passed) at_octets (Acts (ToUp 1 chunk))
unfolding total_size
passed_may = record {
  rests = λ e. never e;
  conduct = record { allowed = record { open_yet = refl; turn = refl }; fit = tt };
  offer = λ begins. absurd (let no : false ≡ true = begins in cc);
  in_turn = tt;
  request = record { open_yet = refl; may = inl refl };
  additions = tt;
  calls = λ so. absurd (let no : false ≡ true = so in cc);
  table = tt;
  window = record { opened = refl; its = refl; in_effect = λ e. refl };
}

-- ---- so the run is allowed, and rests while octets wait

pub begun_leads : Stands streaming begun at_begun
unfolding total_size
begun_leads =
    let none : Stands streaming [] at_start = record { is = refl; goes_on = refl; allowed = tt } in
    let first = goes streaming [] at_start none ours at_ours refl refl ours_may in
    let second = goes streaming (Does ours ∷ []) at_ours first theirs at_theirs refl refl theirs_may in
    let third = goes streaming (Does theirs ∷ Does ours ∷ []) at_theirs second acked at_greeted refl refl acked_may in
    let fourth = goes streaming greeted at_greeted third asked_decision at_asked refl refl asked_may in
    let fifth = goes streaming (Does asked_decision ∷ greeted) at_asked fourth (Acts (Open 1 0)) at_opened refl refl opened_may in
    settles streaming (Does (Acts (ToUp 1 text)) ∷ Does (Acts (Open 1 0)) ∷ Does asked_decision ∷ greeted) at_put
    (goes streaming (Does (Acts (Open 1 0)) ∷ Does asked_decision ∷ greeted) at_opened fifth (Acts (ToUp 1 text)) at_put refl refl put_may)

pub waits_leads : Stands streaming waits at_waits
unfolding total_size
waits_leads =
    let first = goes streaming begun at_begun begun_leads octets_decision at_octets refl refl octets_may in
    settles streaming (Does (Acts (ToUp 1 chunk)) ∷ Does octets_decision ∷ begun) at_passed
    (goes streaming (Does octets_decision ∷ begun) at_octets first (Acts (ToUp 1 chunk)) at_passed refl refl passed_may)

pub waits_rest : Rests (told_by at_waits) at_waits
waits_rest = record {
  conduct = record { nothing = refl; none_begun = refl; ended = λ e. never e };
  flushed = record { none_cut = λ low stream kept found. one_whole (1 == stream) (silent_one 1) kept refl found; none_ready = λ low. refl };
  served = record { nothing = refl; none_done = refl; ended = λ e. never e };
  read = refl;
  given_back = λ open_yet. record { settled = refl; shared = refl; own = λ stream active goes_on. subst (λ (id : ℕ). (at_waits.windows.row id).debt ≡ 0) (eqb-true 1 stream (only_one (1 == stream) _ active)) refl };
}

pub waits_rests : RestsBehind streaming waits
waits_rests = rests streaming waits at_waits waits_leads waits_rest

-- ---- the upstream's side takes all, and what waited goes back

abbrev pub at_took : State
at_took = record at_waits { windows = kept_of (with_taken (rooms_in (told_by at_waits) at_waits) 1 (length text + length chunk)) }

abbrev pub at_shared : State
at_shared = record at_took {
  ledger = ledger true [] (row 2 65533) (first_given ∷ []) 1 65535 43;
  offers = at_took.offers;
  windows = record at_took.windows { debt = 0 };
}

abbrev pub at_returned : State
at_returned = record at_shared {
  ledger = ledger true [] (row 2 65535) (first_given ∷ []) 1 65535 56;
  offers = at_shared.offers;
  windows = record at_shared.windows { row = change 1 paid at_shared.windows.row };
}

took_may : MayDo streaming (told_by at_waits) (told_by at_took) at_waits took_decision
unfolding total_size
took_may = record {
  rests = λ e. waits_rest;
  conduct = record { allowed = record { open_yet = refl; turn = record { nothing = refl; none_begun = refl; goes_on = refl } }; fit = λ e. never e };
  offer = (waits_rest.flushed, refl);
  in_turn = tt;
  request = record { open_yet = refl; may = (record { nothing = refl; none_done = refl; goes_on = refl }, refl) };
  additions = tt;
  calls = λ so. absurd (let no : false ≡ true = so in cc);
  table = tt;
  window = (waits_rest.given_back refl, record { settled = refl; admitted = refl });
}

shared_may : MayDo streaming (told_by at_took) (told_by at_shared) at_took (Sends shared_back decoded)
unfolding total_size
shared_may = record {
  rests = λ e. never e;
  conduct = record { allowed = record { open_yet = refl; turn = inr (inl (record { nothing = refl; goes_on = refl; passing = refl; rightly = refl })) }; fit = refl };
  offer = record { no_block = refl; no_data = refl };
  in_turn = λ e. never e;
  request = record { open_yet = refl; may = inl refl };
  additions = tt;
  calls = λ so. absurd (let no : false ≡ true = so in cc);
  table = record { together = refl; is_given = refl };
  window = record { kind = refl; owed = refl };
}

own_may : MayDo streaming (told_by at_shared) (told_by at_returned) at_shared (Sends own_back decoded)
unfolding total_size
own_may = record {
  rests = λ e. never e;
  conduct = record { allowed = record { open_yet = refl; turn = inr (inl (record { nothing = refl; goes_on = refl; passing = refl; rightly = refl })) }; fit = refl };
  offer = record { no_block = refl; no_data = refl };
  in_turn = λ e. never e;
  request = record { open_yet = refl; may = inl refl };
  additions = tt;
  calls = λ so. absurd (let no : false ≡ true = so in cc);
  table = record { together = refl; is_given = refl };
  window = record { kind = refl; owed = (refl, refl, refl) };
}

pub returned_leads : Stands streaming returned at_returned
unfolding total_size
returned_leads =
    let first = goes streaming waits at_waits waits_leads took_decision at_took refl refl took_may in
    let second = goes streaming (Does took_decision ∷ waits) at_took first (Sends shared_back decoded) at_shared refl refl shared_may in
    goes streaming (Does (Sends shared_back decoded) ∷ Does took_decision ∷ waits) at_shared second (Sends own_back decoded) at_returned refl refl own_may

pub returned_rests : RestsBehind streaming returned
returned_rests = rests streaming returned at_returned returned_leads (record {
  conduct = record { nothing = refl; none_begun = refl; ended = λ e. never e };
  flushed = record { none_cut = λ low stream kept found. one_whole (1 == stream) (silent_one 1) kept refl found; none_ready = λ low. refl };
  served = record { nothing = refl; none_done = refl; ended = λ e. never e };
  read = refl;
  given_back = λ open_yet. record { settled = refl; shared = refl; own = λ stream active goes_on. subst (λ (id : ℕ). (at_returned.windows.row id).debt ≡ 0) (eqb-true 1 stream (only_one (1 == stream) _ active)) refl };
})

-- the tape
pub returned_tape : tape_of returned
    ≡ Sent own_back ∷ Sent shared_back ∷ Happened (UpTook 1 (length text + length chunk)) ∷ Did (ToUp 1 chunk) ∷ Came octets ∷ Did (ToUp 1 text) ∷ Did (Open 1 0) ∷ Came asks ∷ tape_of greeted
returned_tape = refl

-- the clauses hold behind it
pub returned_holds : ClausesHold (record { setup = streaming; failures = [] }) (tape_of returned)
returned_holds = clauses (record { setup = streaming; failures = [] }) returned (record {
  knows = (((((((((((tt, refl), refl), refl), refl), refl), refl), refl), refl), refl), refl), refl);
  all = returned_leads.allowed;
  answered = (((((((((((tt, tt), tt), tt), tt), tt), tt), tt), tt), λ none. none), tt), tt);
}) returned_rests
