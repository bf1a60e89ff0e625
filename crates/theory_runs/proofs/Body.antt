-- The run goes on otherwise: behind the GET a POST begins on stream 3, with two octets of its body, which are given back; a second GET
-- goes out on stream 5. Then the POST is reset in the middle of its body, or comes to its end and goes out.
use Rattle.std.proofs.Common.{◌≡◌, ℕ, ◌==◌, ◌&&◌, Bool, true, false, not, if◌then◌else◌, List, [], ◌∷◌, Option, Some, None, refl, sym, ap, ◌∙◌, inl, inr, arith, pos, ◌-ℤ◌}
use Rattle.std.specs.Prelude.{codes, length}
use Rattle.std.specs.List.{list_all}
use Rattle.model.specs.Messages.{Field}
use Rattle.model.specs.Messages.Item.{Content}
use Rattle.model.specs.Tables.{total_size, static_table, keep, field_of}
use Rattle.model.specs.Blocks.{Block}
use Rattle.model.specs.Logs.Act.{Open, ToUp}
use Rattle.model.specs.Openings.{Opened}
use Rattle.model.specs.Tapes.{Noted}
use Rattle.model.specs.Tapes.Note.{Fields}
use Rattle.model.specs.Tapes.Entry.{Came, Sent, Did}
use Rattle.h1_writer.specs.Sending.Stage.{Whole, Chunking}
use Rattle.theory_errors.specs.Summary.{Stream as Told}
use Rattle.theory_errors.specs.Book.{Ledger}
use Rattle.theory_errors.specs.Rows.{Row, fresh}
use Rattle.theory_errors.specs.Rows.Slot.{Live, Over}
use Rattle.theory_responses.specs.Outbox.{silent}
use Rattle.theory_responses.specs.State.{Kept, find}
use Rattle.theory_receive_windows.specs.State as theory_receive_windows
use Rattle.theory_receive_windows.specs.State.{add, change, owing, blank, paid, given}
use Rattle.theory_requests.specs.Lines.Answer.{Pending}
use Rattle.theory_requests.specs.State.{Held}
use Rattle.theory_requests.specs.State.Way.{Waiting}
use Rattle.theory_requests.specs.State.Due.{Nothing, ToOpen, ToSend}
use Rattle.theory_header_tables.proofs.Requests.{request, decoded}
use Rattle.theory.specs.Moves.{Decision, Move}
use Rattle.theory.specs.Moves.Addition.{Nothing as NoAddition, Begins, Gathers}
use Rattle.theory.specs.Moves.Decision.{Takes, Sends, Acts}
use Rattle.theory.specs.Moves.Move.{Does, Settles}
use Rattle.theory.specs.State.{State, tape_of}
use Rattle.theory.specs.Rule.{MayDo, Rests, RestsBehind}
use Rattle.theory.specs.Steps.{told_by, Stands, next}
use Rattle.theory_runs.proofs.Steps.{goes, settles, rests}
use Rattle.theory_runs.proofs.Greeting.{setup, frame, plain, never}
use Rattle.theory_runs.proofs.Request.{request_text, forwarded, first_route}
use Rattle.theory_runs.proofs.Answer.{one, at_forwarded, forwarded_leads, forwarded_rest}

-- ---- the moves

-- the fields of the POST, its block, whose authority goes by its index, and its text
abbrev pub post : List Field
post = field_of (codes ":method") (codes "POST") ∷ field_of (codes ":scheme") (codes "http") ∷ field_of (codes ":path") (codes "/") ∷ field_of (codes ":authority") (codes "a") ∷ []

abbrev pub post_head : Noted
post_head = record { frame = frame 1 4 3 (131 ∷ 134 ∷ 132 ∷ 190 ∷ []); note = Fields post }

abbrev pub post_text : List ℕ
post_text = codes "POST / HTTP/1.1\r\nhost: a\r\nvia: 2.0 h2gw\r\ntransfer-encoding: chunked\r\nconnection: close\r\n\r\n"

-- its first octets, which wait as they are
abbrev pub first_octets : Noted
first_octets = plain (frame 0 0 3 (codes "he"))

-- what is given back
abbrev pub shared_back : Noted
shared_back = plain (frame 8 0 0 (0 ∷ 0 ∷ 0 ∷ 2 ∷ []))

abbrev pub own_back : Noted
own_back = plain (frame 8 0 3 (0 ∷ 0 ∷ 0 ∷ 2 ∷ []))

-- the second GET
abbrev pub get_head : Noted
get_head = record { frame = frame 1 5 5 (130 ∷ 134 ∷ 132 ∷ 190 ∷ []); note = Fields request }

-- the reset of the POST
abbrev pub cancels : Noted
cancels = plain (frame 3 0 3 (0 ∷ 0 ∷ 0 ∷ 8 ∷ []))

abbrev pub post_decision : Decision
post_decision = Takes post_head decoded (Begins post false 0 post_text Chunking)

abbrev pub first_decision : Decision
first_decision = Takes first_octets decoded (Gathers (Content (codes "he") false) 0 post_text Chunking [] [] Chunking)

abbrev pub shared_decision : Decision
shared_decision = Sends shared_back decoded

abbrev pub own_decision : Decision
own_decision = Sends own_back decoded

abbrev pub get_decision : Decision
get_decision = Takes get_head decoded (Begins request true 0 request_text Whole)

abbrev pub cancel_decision : Decision
cancel_decision = Takes cancels decoded NoAddition

abbrev pub begins : List Move
begins = Does post_decision ∷ forwarded

abbrev pub gathers : List Move
gathers = Settles ∷ Does first_decision ∷ begins

abbrev pub returns : List Move
returns = Does own_decision ∷ Does shared_decision ∷ gathers

abbrev pub between : List Move
between = Settles ∷ Does (Acts (ToUp 2 request_text)) ∷ Does (Acts (Open 2 0)) ∷ Does get_decision ∷ returns

abbrev pub cancelled : List Move
cancelled = Settles ∷ Does cancel_decision ∷ between

-- the tape
pub cancelled_tape : tape_of cancelled
    ≡ Came cancels ∷ Did (ToUp 2 request_text) ∷ Did (Open 2 0) ∷ Came get_head ∷ Sent own_back ∷ Sent shared_back ∷ Came first_octets ∷ Came post_head ∷ tape_of forwarded
cancelled_tape = refl

-- ---- what is kept behind each

-- the POST, of which so many octets came, in a window of the rest
abbrev pub posting : ℕ → ℕ → Told
posting octets room = record fresh { room = pos room -ℤ pos 65535; outline = record { begun = true; declared = None; octets = octets; over = false; cause = None; head_out = false } }

-- the rows
abbrev pub get_row : ℕ → Row
get_row id = record { id = id; slot = Live (one false) }

abbrev pub post_row : ℕ → ℕ → Row
post_row octets room = record { id = 3; slot = Live (posting octets room) }

-- connections by their streams
abbrev pub first_given : Opened
first_given = record { k = 1; route = 0; stream = 1 }

abbrev pub second_given : Opened
second_given = record { k = 2; route = 0; stream = 5 }

-- the ledger with these
abbrev pub ledger_of_all : List Row → List Opened → ℕ → ℕ → ℕ → Ledger
ledger_of_all rows connections last room untaken = record {
  book = record at_forwarded.ledger.book { room = pos room; rows = rows; given = connections; last = last; untaken = untaken };
  queue = [];
}

-- nothing is on offer for a stream
abbrev pub silent_one : ℕ → Kept
silent_one id = record { id = id; box = silent; cut = false }

-- the POST waits with the text of its head and these octets of its body
abbrev pub waiting : List ℕ → Held
waiting body = record { id = 3; way = Waiting 0 post_text Chunking body }

abbrev pub at_begins : State
at_begins = record at_forwarded {
  ledger = ledger_of_all (post_row 0 65535 ∷ get_row 1 ∷ []) (first_given ∷ []) 3 65535 30;
  offers = record at_forwarded.offers { kept = silent_one 1 ∷ silent_one 3 ∷ [] };
  requests = record at_forwarded.requests { held = waiting [] ∷ [] };
  windows = record at_forwarded.windows { row = change 3 (λ r. blank) at_forwarded.windows.row; settled = false };
}

abbrev pub at_first : State
at_first = record at_begins {
  ledger = ledger_of_all (post_row 2 65533 ∷ get_row 1 ∷ []) (first_given ∷ []) 3 65533 30;
  requests = record at_begins.requests { held = waiting (codes "he") ∷ [] };
  windows = record at_begins.windows { count = 2 };
}

-- two octets are owed on the connection and on the stream
abbrev pub at_gathers : State
at_gathers = next setup at_first Settles

abbrev pub at_shared : State
at_shared = record at_gathers {
  ledger = ledger_of_all (post_row 2 65533 ∷ get_row 1 ∷ []) (first_given ∷ []) 3 65535 43;
  offers = at_gathers.offers;
  windows = record at_gathers.windows { debt = 0 };
}

abbrev pub at_returns : State
at_returns = record at_shared {
  ledger = ledger_of_all (post_row 2 65535 ∷ get_row 1 ∷ []) (first_given ∷ []) 3 65535 56;
  offers = at_shared.offers;
  windows = record at_shared.windows { row = change 3 paid at_shared.windows.row };
}

abbrev pub at_get : State
at_get = record at_returns {
  ledger = ledger_of_all (get_row 5 ∷ post_row 2 65535 ∷ get_row 1 ∷ []) (first_given ∷ []) 5 65535 56;
  offers = record at_returns.offers { kept = silent_one 1 ∷ silent_one 3 ∷ silent_one 5 ∷ [] };
  requests = record at_returns.requests { due = ToOpen 5 0 request_text Whole };
  windows = record at_returns.windows { row = change 5 (λ r. blank) at_returns.windows.row; settled = false };
}

abbrev pub at_opened : State
at_opened = record at_get {
  ledger = ledger_of_all (get_row 5 ∷ post_row 2 65535 ∷ get_row 1 ∷ []) (second_given ∷ first_given ∷ []) 5 65535 56;
  requests = record at_get.requests { live = record { k = 2; route = 0; stream = 5; answer = Pending } ∷ record { k = 1; route = 0; stream = 1; answer = Pending } ∷ []; due = ToSend 2 request_text; count = 2 };
  windows = record at_get.windows { row = change 5 (given 2) at_get.windows.row };
}

abbrev pub at_put : State
at_put = record at_opened {
  requests = record at_opened.requests { due = Nothing };
  windows = record at_opened.windows { out = add 2 (length request_text) at_opened.windows.out };
}

abbrev pub at_between : State
at_between = next setup at_put Settles

-- the same, where the client reset an active stream
abbrev pub with_reset : Ledger → Ledger
with_reset ledger = record ledger { book = record ledger.book { resets = 1 } }

abbrev pub at_cancelled : State
at_cancelled = record at_between {
  ledger = with_reset (ledger_of_all (get_row 5 ∷ record { id = 3; slot = Over false } ∷ get_row 1 ∷ []) (second_given ∷ first_given ∷ []) 3 65535 56);
  offers = record at_between.offers { kept = silent_one 1 ∷ silent_one 5 ∷ [] };
  requests = record at_between.requests { held = [] };
  windows = record at_between.windows { settled = false };
}

-- ---- what rests

-- of these streams no reset is owed
pub none_cut_of : (ks : List Kept) → list_all (λ (k : Kept). not k.cut) ks ≡ true → (stream : ℕ) (kept : Kept) → find stream ks ≡ Some kept → kept.cut ≡ false
none_cut_of [] all stream kept found = let clash : ◌≡◌ {A = Option Kept} None (Some kept) = found in cc
none_cut_of (k ∷ ks) all stream kept found = at (k.id == stream) (all_parts all).0 (λ more. none_cut_of ks (all_parts all).1 stream kept more) found
  where
    all_parts : list_all (λ (x : Kept). not x.cut) (k ∷ ks) ≡ true → (k.cut ≡ false) × (list_all (λ (x : Kept). not x.cut) ks ≡ true)
    all_parts all = by k.cut all
      where
        by : (c : Bool) → (not c && list_all (λ (x : Kept). not x.cut) ks) ≡ true → (c ≡ false) × (list_all (λ (x : Kept). not x.cut) ks ≡ true)
        by false all = (refl, all)
        by true all = absurd (let clash : false ≡ true = all in cc)

    at : (b : Bool) → k.cut ≡ false → (find stream ks ≡ Some kept → kept.cut ≡ false) → (if b then Some k else find stream ks) ≡ Some kept → kept.cut ≡ false
    at true uncut rest found = let same : k ≡ kept = cc in ap (λ (x : Kept). x.cut) (sym same) ∙ uncut
    at false uncut rest found = rest found

-- nothing is owed on any stream
abbrev pub AllPaid : (ℕ → theory_receive_windows.Row) → Type 0
AllPaid rows = (id : ℕ) → (rows id).debt ≡ 0

-- nor is it where one row changes to another to which nothing is owed
pub change_paid : (id : ℕ) (f : theory_receive_windows.Row → theory_receive_windows.Row) (rows : ℕ → theory_receive_windows.Row) → ((r : theory_receive_windows.Row) → r.debt ≡ 0 → (f r).debt ≡ 0) → AllPaid rows → AllPaid (change id f rows)
change_paid id f rows keeps all other = at (id == other) (rows other) (all other)
  where
    at : (b : Bool) (r : theory_receive_windows.Row) → r.debt ≡ 0 → (if b then f r else r).debt ≡ 0
    at true r e = keeps r e
    at false r e = e

-- what was owed on a stream is paid
pays : (id : ℕ) (f : theory_receive_windows.Row → theory_receive_windows.Row) (rows : ℕ → theory_receive_windows.Row) → AllPaid rows → AllPaid (change id paid (change id f rows))
pays id f rows all other = at (id == other) (rows other) (all other)
  where
    at : (b : Bool) (r : theory_receive_windows.Row) → r.debt ≡ 0 → (if b then paid (if b then f r else r) else (if b then f r else r)).debt ≡ 0
    at true r e = refl
    at false r e = e

pub owes_no_more : (r : theory_receive_windows.Row) → r.debt ≡ 0 → (owing 0 r).debt ≡ 0
owes_no_more r e = omega (arith, e)

pub forwarded_paid : AllPaid at_forwarded.windows.row
forwarded_paid =
    change_paid 1 (owing 0) (change 1 (given 1) (change 1 (λ r. blank) (change 0 (owing 0) (λ id. blank)))) owes_no_more
    (change_paid 1 (given 1) (change 1 (λ r. blank) (change 0 (owing 0) (λ id. blank))) (λ r e. e)
    (change_paid 1 (λ r. blank) (change 0 (owing 0) (λ id. blank)) (λ r e. refl)
    (change_paid 0 (owing 0) (λ id. blank) owes_no_more (λ id. refl))))

begins_paid : AllPaid at_begins.windows.row
begins_paid = change_paid 3 (λ r. blank) at_forwarded.windows.row (λ r e. refl) forwarded_paid

returns_paid : AllPaid at_returns.windows.row
returns_paid = pays 3 (owing 2) at_begins.windows.row begins_paid

pub between_paid : AllPaid at_between.windows.row
between_paid =
    change_paid 5 (owing 0) at_opened.windows.row owes_no_more
    (change_paid 5 (given 2) at_get.windows.row (λ r e. e)
    (change_paid 5 (λ r. blank) at_returns.windows.row (λ r e. refl) returns_paid))

begins_rest : Rests (told_by at_begins) at_begins
begins_rest = record {
  conduct = record { nothing = refl; none_begun = refl; ended = λ e. never e };
  flushed = record { none_cut = λ low stream kept found. none_cut_of (silent_one 1 ∷ silent_one 3 ∷ []) refl stream kept found; none_ready = λ low. refl };
  served = record { nothing = refl; none_done = refl; ended = λ e. never e };
  read = refl;
  given_back = λ open_yet. record { settled = refl; shared = refl; own = λ stream active goes_on. begins_paid stream };
}

returns_rest : Rests (told_by at_returns) at_returns
returns_rest = record {
  conduct = record { nothing = refl; none_begun = refl; ended = λ e. never e };
  flushed = record { none_cut = λ low stream kept found. none_cut_of (silent_one 1 ∷ silent_one 3 ∷ []) refl stream kept found; none_ready = λ low. refl };
  served = record { nothing = refl; none_done = refl; ended = λ e. never e };
  read = refl;
  given_back = λ open_yet. record { settled = refl; shared = refl; own = λ stream active goes_on. returns_paid stream };
}

pub between_rest : Rests (told_by at_between) at_between
between_rest = record {
  conduct = record { nothing = refl; none_begun = refl; ended = λ e. never e };
  flushed = record { none_cut = λ low stream kept found. none_cut_of (silent_one 1 ∷ silent_one 3 ∷ silent_one 5 ∷ []) refl stream kept found; none_ready = λ low. refl };
  served = record { nothing = refl; none_done = refl; ended = λ e. never e };
  read = refl;
  given_back = λ open_yet. record { settled = refl; shared = refl; own = λ stream active goes_on. between_paid stream };
}

-- ---- the blocks

post_read : Block decoded (131 ∷ 134 ∷ 132 ∷ 190 ∷ []) post decoded
unfolding static_table keep
post_read = record {
  maxima = [];
  is_block = record {
    front = [];
    rest = 131 ∷ 134 ∷ 132 ∷ 190 ∷ [];
    between = decoded;
    is = refl;
    are_maxima = (refl, refl);
    are_fields = (
      131 ∷ [],
      134 ∷ 132 ∷ 190 ∷ [],
      decoded,
      refl,
      inl (record { index = 3; marked = record { int = inl (record { first = 131; is = refl; low_bits = refl; not_ones = omega arith }); marked = refl }; found = refl; same = refl }),
      (
        134 ∷ [],
        132 ∷ 190 ∷ [],
        decoded,
        refl,
        inl (record { index = 6; marked = record { int = inl (record { first = 134; is = refl; low_bits = refl; not_ones = omega arith }); marked = refl }; found = refl; same = refl }),
        (
          132 ∷ [],
          190 ∷ [],
          decoded,
          refl,
          inl (record { index = 4; marked = record { int = inl (record { first = 132; is = refl; low_bits = refl; not_ones = omega arith }); marked = refl }; found = refl; same = refl }),
          (
            190 ∷ [],
            [],
            decoded,
            refl,
            inl (record { index = 62; marked = record { int = inl (record { first = 190; is = refl; low_bits = refl; not_ones = omega arith }); marked = refl }; found = refl; same = refl }),
            (refl, refl),
          ),
        ),
      ),
    );
  };
}

pub get_read : Block decoded (130 ∷ 134 ∷ 132 ∷ 190 ∷ []) request decoded
unfolding static_table keep
get_read = record {
  maxima = [];
  is_block = record {
    front = [];
    rest = 130 ∷ 134 ∷ 132 ∷ 190 ∷ [];
    between = decoded;
    is = refl;
    are_maxima = (refl, refl);
    are_fields = (
      130 ∷ [],
      134 ∷ 132 ∷ 190 ∷ [],
      decoded,
      refl,
      inl (record { index = 2; marked = record { int = inl (record { first = 130; is = refl; low_bits = refl; not_ones = omega arith }); marked = refl }; found = refl; same = refl }),
      (
        134 ∷ [],
        132 ∷ 190 ∷ [],
        decoded,
        refl,
        inl (record { index = 6; marked = record { int = inl (record { first = 134; is = refl; low_bits = refl; not_ones = omega arith }); marked = refl }; found = refl; same = refl }),
        (
          132 ∷ [],
          190 ∷ [],
          decoded,
          refl,
          inl (record { index = 4; marked = record { int = inl (record { first = 132; is = refl; low_bits = refl; not_ones = omega arith }); marked = refl }; found = refl; same = refl }),
          (
            190 ∷ [],
            [],
            decoded,
            refl,
            inl (record { index = 62; marked = record { int = inl (record { first = 190; is = refl; low_bits = refl; not_ones = omega arith }); marked = refl }; found = refl; same = refl }),
            (refl, refl),
          ),
        ),
      ),
    );
  };
}

-- ---- each may come

begins_may : MayDo setup (told_by at_forwarded) (told_by at_begins) at_forwarded post_decision
unfolding total_size
begins_may = record {
  rests = λ e. forwarded_rest;
  conduct = record { allowed = record { open_yet = refl; turn = record { nothing = refl; none_begun = refl; goes_on = refl } }; fit = λ fine completes. refl };
  offer = (forwarded_rest.flushed, refl, refl);
  in_turn = tt;
  request = record {
    open_yet = refl;
    may = (
      record { nothing = refl; none_done = refl; goes_on = refl },
      record {
        serving = record { counted = omega arith; served = refl; goes_on = refl };
        by_route = first_route;
        sending = record { not_ended = refl; full = refl; undeclared = refl; is = refl };
        whole = refl;
      },
    );
  };
  additions = record { first = refl; adds = record { adds = refl; goes_on = refl } };
  calls = λ so. absurd (let no : false ≡ true = so in cc);
  table = record { is_noted = post_read };
  window = record { nothing = forwarded_rest.given_back refl; goes_on = refl; opens_it = refl; lives = λ e. refl; over_with_it = refl };
}

first_may : MayDo setup (told_by at_begins) (told_by at_first) at_begins first_decision
unfolding total_size
first_may = record {
  rests = λ e. begins_rest;
  conduct = record { allowed = record { open_yet = refl; turn = record { nothing = refl; none_begun = refl; goes_on = refl } }; fit = λ fine completes. never completes };
  offer = (begins_rest.flushed, refl, refl);
  in_turn = tt;
  request = record {
    open_yet = refl;
    may = (
      record { nothing = refl; none_done = refl; goes_on = refl },
      record {
        serving = record { counted = omega arith; served = refl; goes_on = refl };
        found = refl;
        gathered = (refl, refl);
      },
    );
  };
  additions = record { adds = refl; goes_on = refl };
  calls = λ so. absurd (let no : false ≡ true = so in cc);
  table = record { is_noted = refl };
  window = record { nothing = begins_rest.given_back refl; goes_on = refl; opens_it = refl; lives = λ e. never e; over_with_it = refl };
}

shared_may : MayDo setup (told_by at_gathers) (told_by at_shared) at_gathers shared_decision
unfolding total_size
shared_may = record {
  rests = λ e. never e;
  conduct = record { allowed = record { open_yet = refl; turn = inr (inl (record { nothing = refl; goes_on = refl; passing = refl; rightly = refl })) }; fit = refl };
  offer = record { no_block = refl; no_data = refl };
  in_turn = λ e. never e;
  request = record { open_yet = refl; may = inl refl };
  additions = tt;
  calls = λ so. absurd (let no : false ≡ true = so in cc);
  table = record { together = refl; is_given = refl };
  window = record { kind = refl; owed = refl };
}

own_may : MayDo setup (told_by at_shared) (told_by at_returns) at_shared own_decision
unfolding total_size
own_may = record {
  rests = λ e. never e;
  conduct = record { allowed = record { open_yet = refl; turn = inr (inl (record { nothing = refl; goes_on = refl; passing = refl; rightly = refl })) }; fit = refl };
  offer = record { no_block = refl; no_data = refl };
  in_turn = λ e. never e;
  request = record { open_yet = refl; may = inl refl };
  additions = tt;
  calls = λ so. absurd (let no : false ≡ true = so in cc);
  table = record { together = refl; is_given = refl };
  window = record { kind = refl; owed = (refl, refl, refl) };
}

get_may : MayDo setup (told_by at_returns) (told_by at_get) at_returns get_decision
unfolding total_size
get_may = record {
  rests = λ e. returns_rest;
  conduct = record { allowed = record { open_yet = refl; turn = record { nothing = refl; none_begun = refl; goes_on = refl } }; fit = λ fine completes. refl };
  offer = (returns_rest.flushed, refl, refl);
  in_turn = tt;
  request = record {
    open_yet = refl;
    may = (
      record { nothing = refl; none_done = refl; goes_on = refl },
      record {
        serving = record { counted = omega arith; served = refl; goes_on = refl };
        by_route = first_route;
        sending = record { none_ended = λ e. (refl, refl); full = refl; has_length = tt; is = refl };
        whole = refl;
      },
    );
  };
  additions = record { first = refl; adds = record { adds = refl; goes_on = refl } };
  calls = λ so. absurd (let no : false ≡ true = so in cc);
  table = record { is_noted = get_read };
  window = record { nothing = returns_rest.given_back refl; goes_on = refl; opens_it = refl; lives = λ e. refl; over_with_it = refl };
}

opened_may : MayDo setup (told_by at_get) (told_by at_opened) at_get (Acts (Open 2 0))
unfolding total_size
opened_may = record {
  rests = λ e. never e;
  conduct = record { allowed = record { open_yet = refl; turn = refl }; fit = tt };
  offer = record { active = refl; has_items = refl; no_cause = refl; first = (λ e. let clash : 5 ≡ 1 = e in omega (arith, clash), tt); counted = omega arith };
  in_turn = tt;
  request = record { open_yet = refl; may = record { stream = 5; text = request_text; stage = Whole; due = refl; next = refl } };
  additions = tt;
  calls = λ so. absurd (let no : false ≡ true = so in cc);
  table = tt;
  window = record { active = refl; counted = omega arith; first = refl; unused = refl; untaken = refl };
}

put_may : MayDo setup (told_by at_opened) (told_by at_put) at_opened (Acts (ToUp 2 request_text))
unfolding total_size
put_may = record {
  rests = λ e. never e;
  conduct = record { allowed = record { open_yet = refl; turn = refl }; fit = tt };
  offer = λ begins. absurd (let no : false ≡ true = begins in cc);
  in_turn = tt;
  request = record { open_yet = refl; may = inl refl };
  additions = tt;
  calls = λ so. absurd (let no : false ≡ true = so in cc);
  table = tt;
  window = record { opened = refl; its = refl; in_effect = λ e. cc };
}

cancel_may : MayDo setup (told_by at_between) (told_by at_cancelled) at_between cancel_decision
unfolding total_size
cancel_may = record {
  rests = λ e. between_rest;
  conduct = record { allowed = record { open_yet = refl; turn = record { nothing = refl; none_begun = refl; goes_on = refl } }; fit = λ fine completes. never completes };
  offer = (between_rest.flushed, refl, refl);
  in_turn = tt;
  request = record { open_yet = refl; may = record { nothing = refl; none_done = refl; goes_on = refl } };
  additions = refl;
  calls = λ so. absurd (let no : false ≡ true = so in cc);
  table = record { is_noted = refl };
  window = record { nothing = between_rest.given_back refl; goes_on = refl; opens_it = refl; lives = λ e. never e; over_with_it = refl };
}

-- ---- so the run is allowed, and rests

pub gathers_leads : Stands setup gathers at_gathers
unfolding total_size
gathers_leads =
    let first = goes setup forwarded at_forwarded forwarded_leads post_decision at_begins refl refl begins_may in
    settles setup (Does first_decision ∷ begins) at_first (goes setup begins at_begins first first_decision at_first refl refl first_may)

pub returns_leads : Stands setup returns at_returns
unfolding total_size
returns_leads = goes setup (Does shared_decision ∷ gathers) at_shared (goes setup gathers at_gathers gathers_leads shared_decision at_shared refl refl shared_may) own_decision at_returns refl refl own_may

pub between_leads : Stands setup between at_between
unfolding total_size
between_leads =
    let first = goes setup returns at_returns returns_leads get_decision at_get refl refl get_may in
    let second = goes setup (Does get_decision ∷ returns) at_get first (Acts (Open 2 0)) at_opened refl refl opened_may in
    settles setup (Does (Acts (ToUp 2 request_text)) ∷ Does (Acts (Open 2 0)) ∷ Does get_decision ∷ returns) at_put
    (goes setup (Does (Acts (Open 2 0)) ∷ Does get_decision ∷ returns) at_opened second (Acts (ToUp 2 request_text)) at_put refl refl put_may)

pub between_rests : RestsBehind setup between
between_rests = rests setup between at_between between_leads between_rest

pub cancelled_leads : Stands setup cancelled (next setup at_cancelled Settles)
unfolding total_size
cancelled_leads = settles setup (Does cancel_decision ∷ between) at_cancelled (goes setup between at_between between_leads cancel_decision at_cancelled refl refl cancel_may)

pub cancelled_rests : RestsBehind setup cancelled
cancelled_rests = rests setup cancelled (next setup at_cancelled Settles) cancelled_leads (record {
  conduct = record { nothing = refl; none_begun = refl; ended = λ e. never e };
  flushed = record { none_cut = λ low stream kept found. none_cut_of (silent_one 1 ∷ silent_one 5 ∷ []) refl stream kept found; none_ready = λ low. refl };
  served = record { nothing = refl; none_done = refl; ended = λ e. never e };
  read = refl;
  given_back = λ open_yet. record { settled = refl; shared = refl; own = λ stream active goes_on. change_paid 3 (owing 0) at_between.windows.row owes_no_more between_paid stream };
})
