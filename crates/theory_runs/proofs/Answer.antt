-- The run goes on: the GET's upstream answers with a body of two octets, its connection is closed, and the response goes out.
use Rattle.std.proofs.Common.{◌≡◌, ℕ, zero, suc, ◌<◌, ◌==◌, ◌&&◌, Bool, true, false, List, [], ◌∷◌, ◌++◌, length, Option, Some, None, refl, sym, ap, subst, inl, inr, arith, pos, get_or}
use Rattle.std.proofs.lemmas.Bool.{eqb-true}
use Rattle.std.specs.Prelude.{codes, slice_index}
use Rattle.model.specs.Messages.{Field}
use Rattle.model.specs.Messages.Item.{Block, Content}
use Rattle.model.specs.Maxima.{Maxima}
use Rattle.model.specs.Tables.{Table, total_size, static_table, keep, look_up, first_table, added, field_of}
use Rattle.model.specs.Logs.Event.{Up}
use Rattle.model.specs.Logs.Act.{Close}
use Rattle.model.specs.Tapes.{Noted}
use Rattle.model.specs.Tapes.Note.{Fields}
use Rattle.model.specs.Tapes.Entry.{Happened, Sent, Did}
use Rattle.model.specs.ResponseHeads.{Head}
use Rattle.model.specs.Deliveries.{Delivery}
use Rattle.header_blocks.specs.Chosen.{GoesIn}
use Rattle.header_blocks.proofs.RawStrings.{one_octet, one_octet_chosen}
use Rattle.theory_errors.specs.Summary.{Stream as Told}
use Rattle.theory_errors.specs.Book.{Ledger}
use Rattle.theory_errors.specs.Rows.{Row, fresh}
use Rattle.theory_errors.specs.Rows.Slot.{Live, Over}
use Rattle.theory_responses.specs.Outbox.{silent}
use Rattle.theory_responses.specs.Outbox.Outbox.{Before, Behind}
use Rattle.theory_responses.specs.Outbox.Part.{Final, Octets}
use Rattle.theory_responses.specs.State.{Kept}
use Rattle.theory_receive_windows.specs.State.{add, change, owing, blank, given}
use Rattle.theory_requests.specs.Lines.Answer.{Done, Pending}
use Rattle.theory_requests.specs.Lines.Heard.{Finished}
use Rattle.theory_requests.specs.State.Due.{Nothing}
use Rattle.theory_header_tables.specs.Rule.{IsEncoded}
use Rattle.theory_header_tables.proofs.Requests.{decoded}
use Rattle.theory_header_tables.proofs.Searching.{absent, absent_below}
use Rattle.theory.specs.Moves.{Decision, Move}
use Rattle.theory.specs.Moves.Decision.{Hears, Goes, Acts}
use Rattle.theory.specs.Moves.Move.{Does, Settles}
use Rattle.theory.specs.State.{State, tape_of}
use Rattle.theory.specs.Rule.{MayDo, Rests, RestsBehind}
use Rattle.theory.specs.Steps.{told_by, Stands, next}
use Rattle.theory_runs.proofs.Steps.{goes, settles, rests}
use Rattle.theory_runs.proofs.Greeting.{setup, frame, plain, never, none_kept}
use Rattle.theory_runs.proofs.Request.{request_text, forwarded, forwarded_allowed, one_whole, only_one}

-- ---- the moves

-- the answer, and its head
abbrev pub answer_text : List ℕ
answer_text = codes "HTTP/1.1 200 OK\r\nContent-Length: 2\r\n\r\nhi"

abbrev pub sized : Field
sized = field_of (codes "content-length") (codes "2")

abbrev pub answer_head : Head
answer_head = record { status = 200; fields = sized ∷ [] }

-- what is told of it: all of it
abbrev pub news : Delivery
news = record { interims = []; head = Some answer_head; body = codes "hi"; ends = Some [] }

-- the fields of its block, and the table that this leaves
abbrev pub ok : Field
ok = field_of (codes ":status") (codes "200")

abbrev pub encoded : Table
encoded = added sized first_table

-- HEADERS, and DATA that ends the stream
abbrev pub head_out : Noted
head_out = record { frame = frame 1 4 1 (136 ∷ 92 ∷ 1 ∷ 50 ∷ []); note = Fields (ok ∷ sized ∷ []) }

abbrev pub body_out : Noted
body_out = plain (frame 0 1 1 (codes "hi"))

abbrev pub heard_decision : Decision
heard_decision = Hears (Up 1 answer_text) 1 news Finished

abbrev pub head_decision : Decision
head_decision = Goes head_out (Block (ok ∷ sized ∷ []) false) (Final answer_head false) encoded

abbrev pub body_decision : Decision
body_decision = Goes body_out (Content (codes "hi") true) (Octets (codes "hi") true) encoded

abbrev pub heard : List Move
heard = Does heard_decision ∷ forwarded

abbrev pub closed : List Move
closed = Does (Acts (Close 1)) ∷ heard

abbrev pub begun : List Move
begun = Does head_decision ∷ closed

abbrev pub answered : List Move
answered = Settles ∷ Does body_decision ∷ begun

-- the tape
pub answered_tape : tape_of answered ≡ Sent body_out ∷ Sent head_out ∷ Did (Close 1) ∷ Happened (Up 1 answer_text) ∷ tape_of forwarded
answered_tape = refl

-- ---- what is kept behind each

-- stream 1, which the client ended; whether the head of its response is out
abbrev pub one : Bool → Told
one out = record fresh { ended_by_client = true; head_out = out; outline = record { begun = true; declared = None; octets = 0; over = true; cause = None; head_out = false } }

-- the ledger with this row, so much of the connection's window, and so many octets untaken
abbrev pub ledger_with : Row → ℕ → ℕ → Ledger
ledger_with row window untaken = record {
  book = record {
    has_come = true;
    block = None;
    continuations = 0;
    block_out = None;
    first_size = 65535;
    own = 65535;
    window = pos window;
    room = pos 65535;
    drained = false;
    rows = row ∷ [];
    resets = 0;
    given = record { k = 1; route = 0; stream = 1 } ∷ [];
    last = 1;
    ends = false;
    closed = false;
    untaken = untaken;
  };
  queue = [];
}

abbrev pub at_forwarded : State
at_forwarded = record {
  ledger = ledger_with (record { id = 1; slot = Live (one false) }) 65535 30;
  offers = record { kept = record { id = 1; box = silent; cut = false } ∷ []; last = 0 };
  requests = record { held = []; live = record { k = 1; route = 0; stream = 1; answer = Pending } ∷ []; due = Nothing; count = 1 };
  tables = record { decoding = decoded; unread = false; lost = false; encoding = record { table = first_table; limits = None; indexing = true; refused = false }; limit = 4096 };
  windows = record {
    row = change 1 (owing 0) (change 1 (given 1) (change 1 (λ r. blank) (change 0 (owing 0) (λ id. blank))));
    count = 0;
    settled = true;
    debt = 0;
    out = add 1 (length request_text) (λ k. 0);
    took = λ k. 0;
  };
}

pub forwarded_leads : Stands setup forwarded at_forwarded
unfolding total_size
forwarded_leads = record { is = refl; goes_on = refl; allowed = forwarded_allowed }

-- what is kept of the response of stream 1
abbrev pub waiting : Kept
waiting = record { id = 1; box = Before [] (Some answer_head) (codes "hi") (Some []); cut = false }

abbrev pub at_heard : State
at_heard = record at_forwarded {
  offers = record at_forwarded.offers { kept = waiting ∷ [] };
  requests = record at_forwarded.requests { live = record { k = 1; route = 0; stream = 1; answer = Done } ∷ [] };
  windows = record at_forwarded.windows { settled = false };
}

abbrev pub at_closed : State
at_closed = record at_heard {
  requests = record at_heard.requests { live = [] };
  windows = at_heard.windows;
}

-- its head is out
abbrev pub half_out : Kept
half_out = record { id = 1; box = Behind (codes "hi") (Some []); cut = false }

abbrev pub at_begun : State
at_begun = record at_closed {
  ledger = ledger_with (record { id = 1; slot = Live (one true) }) 65535 43;
  offers = record { kept = half_out ∷ []; last = 1 };
  tables = record at_closed.tables { encoding = record at_closed.tables.encoding { table = encoded } };
  windows = at_closed.windows;
}

abbrev pub at_answered : State
at_answered = record at_begun {
  ledger = ledger_with (record { id = 1; slot = Over false }) 65533 54;
  offers = record { kept = []; last = 1 };
  windows = at_begun.windows;
}

-- ---- the block

-- the value begins with a 2
abbrev pub begins_with_two : Field → Bool
begins_with_two field = get_or field.value 0 0 == 50

-- the name begins with a c and has 14 octets
abbrev pub is_length_name : List ℕ → Bool
is_length_name name = get_or name 0 0 == 99 && length name == 14

-- no entry below is the status
pub status_above : (index : ℕ) → index < 8 → look_up first_table index ≡ Some ok → ⊥
unfolding static_table
status_above zero lt is = let clash : ◌≡◌ {A = Option Field} None (Some ok) = is in cc
status_above (suc place) lt is = absent_below begins_with_two ok refl 7 (static_table ++ []) refl place (omega (arith, lt)) is

-- no entry is the other field, and none below has its name
pub sized_nowhere : (index : ℕ) → look_up first_table index ≡ Some sized → ⊥
unfolding static_table
sized_nowhere zero is = let clash : ◌≡◌ {A = Option Field} None (Some sized) = is in cc
sized_nowhere (suc place) is = absent (λ (e : Field). is_length_name e.name && length e.value == 1) sized refl (static_table ++ []) refl place is

pub named_above : (index : ℕ) (other : Field) → index < 28 → look_up first_table index ≡ Some other → other.name ≡ sized.name → ⊥
unfolding static_table
named_above zero other lt is same = let clash : ◌≡◌ {A = Option Field} None (Some other) = is in cc
named_above (suc place) other lt is same = absent_below (λ (e : Field). is_length_name e.name) other (ap is_length_name same) 27 (static_table ++ []) refl place (omega (arith, lt)) is

-- it goes into the table, with the name of an entry
sized_inserted : GoesIn true first_table (92 ∷ 1 ∷ 50 ∷ []) sized encoded
unfolding static_table keep
sized_inserted = record {
  absent = sized_nowhere;
  inserted = record {
    literal = record {
      index = 28;
      index_octets = 92 ∷ [];
      name_octets = [];
      value_octets = 1 ∷ 50 ∷ [];
      is = refl;
      marked = record { int = inl (record { first = 92; is = refl; low_bits = refl; not_ones = omega arith }); marked = refl };
      name = inr (record { is_empty = refl; entry = field_of (codes "content-length") []; found = refl; same = refl });
      string = inl (one_octet 50);
    };
    inserted = refl;
  };
  name = inl (record { entry = field_of (codes "content-length") []; here = refl; named = refl; least = named_above });
  is_indexing = refl;
  fits = omega arith;
  strings = record { name = λ is_zero. absurd (let clash : 28 ≡ 0 = is_zero in omega (arith, clash)); value = one_octet_chosen 50 };
}

pub answer_encoded : IsEncoded at_closed.tables.encoding (record { id = 1; ends = false; fragments = 136 ∷ 92 ∷ 1 ∷ 50 ∷ [] }) (Fields (ok ∷ sized ∷ [])) encoded
unfolding static_table
answer_encoded = record {
  fields = ok ∷ sized ∷ [];
  is_noted = refl;
  encodes = record {
    maxima = [];
    is_block = record {
      front = [];
      rest = 136 ∷ 92 ∷ 1 ∷ 50 ∷ [];
      between = first_table;
      is = refl;
      are_maxima = (refl, refl);
      are_fields = (
        136 ∷ [],
        92 ∷ 1 ∷ 50 ∷ [],
        first_table,
        refl,
        inl (record { index = 8; marked = record { int = inl (record { first = 136; is = refl; low_bits = refl; not_ones = omega arith }); marked = refl }; found = refl; same = refl }),
        (92 ∷ 1 ∷ 50 ∷ [], [], encoded, refl, inr (inl sized_inserted.inserted), (refl, refl)),
      );
    };
    due = λ limits none. subst (λ l. Maxima 4096 l []) (sym none) refl;
    chosen = (
      136 ∷ [],
      92 ∷ 1 ∷ 50 ∷ [],
      first_table,
      refl,
      inl (record { indexed = record { index = 8; marked = record { int = inl (record { first = 136; is = refl; low_bits = refl; not_ones = omega arith }); marked = refl }; found = refl; same = refl }; least = record { here = refl; least = status_above } }),
      (92 ∷ 1 ∷ 50 ∷ [], [], encoded, refl, inr (inl sized_inserted), (refl, refl)),
    );
  };
}

-- ---- each may come

-- it rests before it
pub forwarded_rest : Rests (told_by at_forwarded) at_forwarded
forwarded_rest = record {
  conduct = record { nothing = refl; none_begun = refl; ended = λ e. never e };
  flushed = record { none_cut = λ low stream kept found. one_whole (1 == stream) (record { id = 1; box = silent; cut = false }) kept refl found; none_ready = λ low. refl };
  served = record { nothing = refl; none_done = refl; ended = λ e. never e };
  read = refl;
  given_back = λ open_yet. record { settled = refl; shared = refl; own = λ stream active goes_on. subst (λ (id : ℕ). (at_forwarded.windows.row id).debt ≡ 0) (eqb-true 1 stream (only_one (1 == stream) _ active)) refl };
}

pub heard_may : MayDo setup (told_by at_forwarded) (told_by at_heard) at_forwarded heard_decision
unfolding total_size
heard_may = record {
  rests = λ e. forwarded_rest;
  conduct = record { allowed = record { open_yet = refl; turn = record { nothing = refl; none_begun = refl; goes_on = refl } }; fit = λ e. never e };
  offer = (forwarded_rest.flushed, record { is_given = refl; active = refl; no_cause = refl }, refl);
  in_turn = tt;
  request = record { open_yet = refl; may = (record { nothing = refl; none_done = refl; goes_on = refl }, tt, (record { k = 1; route = 0; stream = 1; answer = Pending }, refl)) };
  additions = tt;
  calls = λ so. absurd (let no : false ≡ true = so in cc);
  table = tt;
  window = (forwarded_rest.given_back refl, record { settled = refl; admitted = refl });
}

pub closed_may : MayDo setup (told_by at_heard) (told_by at_closed) at_heard (Acts (Close 1))
unfolding total_size
closed_may = record {
  rests = λ e. never e;
  conduct = record { allowed = record { open_yet = refl; turn = refl }; fit = tt };
  offer = tt;
  in_turn = tt;
  request = record { open_yet = refl; may = record { nothing = refl; line = record { k = 1; route = 0; stream = 1; answer = Done }; found = refl; why = inl refl } };
  additions = tt;
  calls = λ so. absurd (let no : false ≡ true = so in cc);
  table = tt;
  window = tt;
}

-- the one stream that is ready is the first
pub each_one : (k : ℕ) → k < 1 → slice_index (1 ∷ []) k ≡ 1
each_one zero lt = refl
each_one (suc k) lt = omega (arith, lt)

pub begun_may : MayDo setup (told_by at_closed) (told_by at_begun) at_closed head_decision
unfolding total_size
begun_may = record {
  rests = λ e. never e;
  conduct = record { allowed = record { open_yet = refl; turn = inr (inl (record { nothing = refl; goes_on = refl; passing = refl; rightly = refl })) }; fit = refl };
  offer = (
    record {
      kept = waiting;
      found = refl;
      not_cut = refl;
      next = (refl, tt);
      is = (refl, record { digits = codes "200"; is = refl; three = refl; are_digits = refl; status = refl; no_other = refl }, omega arith);
      turn = inl (record { is_ready = (0, omega arith, refl); above = omega arith; least = λ k lt some. some });
      own = λ is_data. let clash : 1 ≡ 0 = is_data in absurd (omega (arith, clash));
      shared = λ is_data. let clash : 1 ≡ 0 = is_data in absurd (omega (arith, clash));
    },
    record { active = refl; brings = refl },
  );
  in_turn = λ begins. record {
    none_cut = λ stream kept found. one_whole (1 == stream) waiting kept refl found;
    turn = inl (record { is_ready = (0, omega arith, refl); above = omega arith; least = λ k lt some. some });
  };
  request = record { open_yet = refl; may = inl refl };
  additions = tt;
  calls = λ so. absurd (let no : false ≡ true = so in cc);
  table = record { together = refl; is_given = answer_encoded };
  window = record { kind = refl; over_with_it = refl };
}

pub body_may : MayDo setup (told_by at_begun) (told_by at_answered) at_begun body_decision
unfolding total_size
body_may = record {
  rests = λ e. never e;
  conduct = record { allowed = record { open_yet = refl; turn = inr (inl (record { nothing = refl; goes_on = refl; passing = refl; rightly = refl })) }; fit = refl };
  offer = (
    record {
      kept = half_out;
      found = refl;
      not_cut = refl;
      next = ([], refl, (refl, refl), λ e. refl);
      is = (refl, refl);
      turn = inr (record { is_ready = (0, omega arith, refl); none_above = λ k lt. let one = each_one k lt in omega (arith, one); least = λ k lt. let one = each_one k lt in omega (arith, one) });
      own = λ is_data some. omega arith;
      shared = λ is_data some. omega arith;
    },
    record { active = refl; brings = refl },
  );
  in_turn = λ begins. record {
    none_cut = λ stream kept found. one_whole (1 == stream) half_out kept refl found;
    turn = inr (record { is_ready = (0, omega arith, refl); none_above = λ k lt. let one = each_one k lt in omega (arith, one); least = λ k lt. let one = each_one k lt in omega (arith, one) });
  };
  request = record { open_yet = refl; may = inl refl };
  additions = tt;
  calls = λ so. absurd (let no : false ≡ true = so in cc);
  table = record { together = refl; is_given = refl };
  window = record { kind = refl; over_with_it = refl };
}

-- ---- so the run is allowed, and rests

pub begun_leads : Stands setup begun at_begun
begun_leads =
    let first = goes setup forwarded at_forwarded forwarded_leads heard_decision at_heard refl refl heard_may in
    let second = goes setup heard at_heard first (Acts (Close 1)) at_closed refl refl closed_may in
    goes setup closed at_closed second head_decision at_begun refl refl begun_may

pub answered_leads : Stands setup answered (next setup at_answered Settles)
answered_leads = settles setup (Does body_decision ∷ begun) at_answered (goes setup begun at_begun begun_leads body_decision at_answered refl refl body_may)

pub answered_rests : RestsBehind setup answered
answered_rests = rests setup answered (next setup at_answered Settles) answered_leads (record {
  conduct = record { nothing = refl; none_begun = refl; ended = λ e. never e };
  flushed = record { none_cut = λ low stream kept found. none_kept found; none_ready = λ low. refl };
  served = record { nothing = refl; none_done = refl; ended = λ e. never e };
  read = refl;
  given_back = λ open_yet. record { settled = refl; shared = refl; own = λ stream active goes_on. subst (λ (id : ℕ). ((next setup at_answered Settles).windows.row id).debt ≡ 0) (eqb-true 1 stream (only_one (1 == stream) _ active)) refl };
})
