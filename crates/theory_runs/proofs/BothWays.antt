-- The run with a streamed request goes on both ways: its response is passed on as it comes while octets of the request wait, which are
-- given back late; the request ends, and then the response, and the last octet of the request goes back behind the end of its stream.
use Rattle.std.proofs.Common.{◌≡◌, ℕ, ◌+◌, ◌==◌, true, false, List, [], ◌∷◌, ◌++◌, length, Some, None, refl, subst, inl, inr, arith, pos, ◌-ℤ◌}
use Rattle.std.proofs.lemmas.Bool.{eqb-true}
use Rattle.std.specs.Prelude.{codes, negsuc}
use Rattle.model.specs.Messages.Item.{Block, Content}
use Rattle.model.specs.Tables.{total_size}
use Rattle.model.specs.Logs.Event.{Up, UpTook}
use Rattle.model.specs.Logs.Act.{ToUp, Close}
use Rattle.model.specs.Tapes.{Noted}
use Rattle.model.specs.Tapes.Entry.{Came, Happened, Sent, Did}
use Rattle.model.specs.Deliveries.{Delivery}
use Rattle.model.specs.Http1Text.{chunk_text, last_chunk}
use Rattle.h1_writer.specs.Sending.Stage.{Whole, Chunking}
use Rattle.h1_writer.proofs.Stages.{adds_chunk}
use Rattle.theory_requests.specs.Lines.Answer.{Done, Pending}
use Rattle.theory_requests.specs.Lines.Heard.{Finished, Partly}
use Rattle.theory_requests.proofs.Writing.{ends_behind}
use Rattle.theory_errors.specs.Summary.{Stream as Told}
use Rattle.theory_errors.specs.Book.{Ledger}
use Rattle.theory_errors.specs.Rows.{Slot}
use Rattle.theory_errors.specs.Rows.Slot.{Live, Over}
use Rattle.theory_responses.specs.Outbox.Outbox.{Before, Behind}
use Rattle.theory_responses.specs.Outbox.Part.{Final, Octets}
use Rattle.theory_receive_windows.specs.State.{add, change, paid, with_taken, kept_of}
use Rattle.theory_requests.specs.State.Due.{Nothing, ToSend}
use Rattle.theory_header_tables.proofs.Requests.{decoded}
use Rattle.theory.specs.Moves.{Decision, Move}
use Rattle.theory.specs.Moves.Addition.{Passes}
use Rattle.theory.specs.Moves.Decision.{Takes, Hears, Goes, Sends, Acts}
use Rattle.theory.specs.Moves.Move.{Does, Settles}
use Rattle.theory.specs.State.{State, tape_of}
use Rattle.theory.specs.Rule.{rooms_in, MayDo, Rests, RestsBehind}
use Rattle.theory.specs.Steps.{told_by, Stands, next}
use Rattle.theory_runs.proofs.Steps.{goes, settles, rests}
use Rattle.theory_runs.proofs.Greeting.{frame, plain, never, none_kept}
use Rattle.theory_runs.proofs.Request.{one_whole, only_one}
use Rattle.theory_runs.proofs.Answer.{answer_head, ok, sized, encoded, head_out, answer_encoded, each_one}
use Rattle.theory_runs.proofs.Body.{posting}
use Rattle.theory_runs.proofs.BodyEnd.{text_ends}
use Rattle.theory_runs.proofs.Turns.{boxed, first_live}
use Rattle.theory_runs.proofs.Streaming.{streaming, text, chunk, took_decision, shared_back, own_back, waits, at_waits, waits_rest, waits_leads}

-- ---- the moves

-- the head of the response and one octet of its two, and the other
abbrev pub begin_text : List ℕ
begin_text = codes "HTTP/1.1 200 OK\r\nContent-Length: 2\r\n\r\nh"

abbrev pub begin_news : Delivery
begin_news = record { interims = []; head = Some answer_head; body = codes "h"; ends = None }

abbrev pub end_news : Delivery
end_news = record { interims = []; head = None; body = codes "i"; ends = Some [] }

abbrev pub begin_decision : Decision
begin_decision = Hears (Up 1 begin_text) 1 begin_news Partly

abbrev pub end_decision : Decision
end_decision = Hears (Up 1 (codes "i")) 1 end_news Finished

-- what goes out of it
abbrev pub h_out : Noted
h_out = plain (frame 0 0 1 (codes "h"))

abbrev pub i_out : Noted
i_out = plain (frame 0 1 1 (codes "i"))

abbrev pub head_decision : Decision
head_decision = Goes head_out (Block (ok ∷ sized ∷ []) false) (Final answer_head false) encoded

abbrev pub h_decision : Decision
h_decision = Goes h_out (Content (codes "h") false) (Octets (codes "h") false) encoded

abbrev pub i_decision : Decision
i_decision = Goes i_out (Content (codes "i") true) (Octets (codes "i") true) encoded

-- the last octet of the request, with its end, and what is given back for it
abbrev pub last_octet : Noted
last_octet = plain (frame 0 1 1 (codes "y"))

-- what is written for it
abbrev pub written : List ℕ
written = chunk_text (codes "y") ++ last_chunk []

abbrev pub last_decision : Decision
last_decision = Takes last_octet decoded (Passes (Content (codes "y") true) 1 Chunking written Whole)

abbrev pub octet_back : Noted
octet_back = plain (frame 8 0 0 (0 ∷ 0 ∷ 0 ∷ 1 ∷ []))

abbrev pub parted : List Move
parted = Does h_decision ∷ Does head_decision ∷ Does begin_decision ∷ waits

abbrev pub returned : List Move
returned = Does (Sends own_back encoded) ∷ Does (Sends shared_back encoded) ∷ Does took_decision ∷ parted

abbrev pub ended : List Move
ended = Settles ∷ Does (Acts (ToUp 1 written)) ∷ Does last_decision ∷ returned

abbrev pub over : List Move
over = Does i_decision ∷ Does (Acts (Close 1)) ∷ Does end_decision ∷ ended

abbrev pub all_back : List Move
all_back = Does (Sends octet_back encoded) ∷ over

-- the tapes: up to where the request ended, and behind that
pub ended_tape : tape_of ended
    ≡ Did (ToUp 1 written) ∷ Came last_octet ∷ Sent own_back ∷ Sent shared_back ∷ Happened (UpTook 1 (length text + length chunk)) ∷ Sent h_out ∷ Sent head_out ∷ Happened (Up 1 begin_text) ∷ tape_of waits
ended_tape = refl

pub all_back_tape : tape_of all_back ≡ Sent octet_back ∷ Sent i_out ∷ Did (Close 1) ∷ Happened (Up 1 (codes "i")) ∷ tape_of ended
all_back_tape = refl

-- ---- what is kept behind each

-- the ledger with this slot for stream 1, so much of the connection's windows, and so many octets untaken
abbrev pub ledger_of : Slot → ℕ → ℕ → ℕ → Ledger
ledger_of slot room window untaken = record {
  book = record at_waits.ledger.book { rows = record { id = 1; slot = slot } ∷ []; room = pos room; window = pos window; untaken = untaken };
  queue = [];
}

-- the stream with the head of its response out, with an octet behind it, with a window as at first, and ended by the client
abbrev pub begun : Told
begun = record (posting 2 65533) { head_out = true }

abbrev pub sent_one : Told
sent_one = record begun { balance = negsuc 0 }

abbrev pub paid_back : Told
paid_back = record sent_one { room = pos 0 }

abbrev pub asked_all : Told
asked_all = record sent_one { ended_by_client = true; room = pos 65534 -ℤ pos 65535; outline = record { begun = true; declared = None; octets = 3; over = true; cause = None; head_out = false } }

abbrev pub at_heard : State
at_heard = record at_waits {
  offers = record at_waits.offers { kept = boxed 1 (Before [] (Some answer_head) (codes "h") None) ∷ [] };
  windows = record at_waits.windows { settled = false };
}

abbrev pub at_begun : State
at_begun = record at_heard {
  ledger = ledger_of (Live begun) 65533 65535 43;
  offers = record { kept = boxed 1 (Behind (codes "h") None) ∷ []; last = 1 };
  tables = record at_heard.tables { encoding = record at_heard.tables.encoding { table = encoded } };
  windows = at_heard.windows;
}

abbrev pub at_parted : State
at_parted = record at_begun {
  ledger = ledger_of (Live sent_one) 65533 65534 53;
  offers = record { kept = boxed 1 (Behind [] None) ∷ []; last = 1 };
  windows = at_begun.windows;
}

abbrev pub at_took : State
at_took = record at_parted { windows = kept_of (with_taken (rooms_in (told_by at_parted) at_parted) 1 (length text + length chunk)) }

abbrev pub at_shared : State
at_shared = record at_took {
  ledger = ledger_of (Live sent_one) 65535 65534 66;
  offers = at_took.offers;
  windows = record at_took.windows { debt = 0 };
}

abbrev pub at_returned : State
at_returned = record at_shared {
  ledger = ledger_of (Live paid_back) 65535 65534 79;
  offers = at_shared.offers;
  windows = record at_shared.windows { row = change 1 paid at_shared.windows.row };
}

abbrev pub at_last : State
at_last = record at_returned {
  ledger = ledger_of (Live asked_all) 65534 65534 79;
  requests = record at_returned.requests { held = []; due = ToSend 1 written };
  windows = record at_returned.windows { count = 1 };
}

abbrev pub at_put : State
at_put = record at_last {
  requests = record at_last.requests { due = Nothing };
  windows = record at_last.windows { out = add 1 (length written) at_last.windows.out };
}

abbrev pub at_ended : State
at_ended = next streaming at_put Settles

abbrev pub at_whole : State
at_whole = record at_ended {
  offers = record at_ended.offers { kept = boxed 1 (Behind (codes "i") (Some [])) ∷ [] };
  requests = record at_ended.requests { live = first_live Done ∷ [] };
  windows = record at_ended.windows { settled = false };
}

abbrev pub at_closed : State
at_closed = record at_whole { requests = record at_whole.requests { live = [] } }

-- the octet that waited is owed
abbrev pub at_over : State
at_over = record at_closed {
  ledger = ledger_of (Over false) 65534 65533 89;
  offers = record { kept = []; last = 1 };
  windows = record at_closed.windows { debt = 1 };
}

abbrev pub at_all_back : State
at_all_back = record at_over {
  ledger = ledger_of (Over false) 65535 65533 102;
  offers = at_over.offers;
  windows = record at_over.windows { debt = 0 };
}

-- ---- where it rests

parted_rest : Rests (told_by at_parted) at_parted
parted_rest = record {
  conduct = record { nothing = refl; none_begun = refl; ended = λ e. never e };
  flushed = record { none_cut = λ low stream kept found. one_whole (1 == stream) (boxed 1 (Behind [] None)) kept refl found; none_ready = λ low. refl };
  served = record { nothing = refl; none_done = refl; ended = λ e. never e };
  read = refl;
  given_back = λ open_yet. record { settled = refl; shared = refl; own = λ stream active goes_on. subst (λ (id : ℕ). (at_parted.windows.row id).debt ≡ 0) (eqb-true 1 stream (only_one (1 == stream) _ active)) refl };
}

returned_rest : Rests (told_by at_returned) at_returned
returned_rest = record {
  conduct = record { nothing = refl; none_begun = refl; ended = λ e. never e };
  flushed = record { none_cut = λ low stream kept found. one_whole (1 == stream) (boxed 1 (Behind [] None)) kept refl found; none_ready = λ low. refl };
  served = record { nothing = refl; none_done = refl; ended = λ e. never e };
  read = refl;
  given_back = λ open_yet. record { settled = refl; shared = refl; own = λ stream active goes_on. subst (λ (id : ℕ). (at_returned.windows.row id).debt ≡ 0) (eqb-true 1 stream (only_one (1 == stream) _ active)) refl };
}

-- also where an octet waits, of which nothing is owed yet
ended_rest : Rests (told_by at_ended) at_ended
ended_rest = record {
  conduct = record { nothing = refl; none_begun = refl; ended = λ e. never e };
  flushed = record { none_cut = λ low stream kept found. one_whole (1 == stream) (boxed 1 (Behind [] None)) kept refl found; none_ready = λ low. refl };
  served = record { nothing = refl; none_done = refl; ended = λ e. never e };
  read = refl;
  given_back = λ open_yet. record { settled = refl; shared = refl; own = λ stream active goes_on. subst (λ (id : ℕ). (at_ended.windows.row id).debt ≡ 0) (eqb-true 1 stream (only_one (1 == stream) _ active)) refl };
}

-- ---- each may come

begin_may : MayDo streaming (told_by at_waits) (told_by at_heard) at_waits begin_decision
unfolding total_size
begin_may = record {
  rests = λ e. waits_rest;
  conduct = record { allowed = record { open_yet = refl; turn = record { nothing = refl; none_begun = refl; goes_on = refl } }; fit = λ e. never e };
  offer = (waits_rest.flushed, record { is_given = refl; active = refl; no_cause = refl }, refl);
  in_turn = tt;
  request = record { open_yet = refl; may = (record { nothing = refl; none_done = refl; goes_on = refl }, tt, (first_live Pending, refl)) };
  additions = tt;
  calls = λ so. absurd (let no : false ≡ true = so in cc);
  table = tt;
  window = (waits_rest.given_back refl, record { settled = refl; admitted = refl });
}

head_may : MayDo streaming (told_by at_heard) (told_by at_begun) at_heard head_decision
unfolding total_size
head_may = record {
  rests = λ e. never e;
  conduct = record { allowed = record { open_yet = refl; turn = inr (inl (record { nothing = refl; goes_on = refl; passing = refl; rightly = refl })) }; fit = refl };
  offer = (
    record {
      kept = boxed 1 (Before [] (Some answer_head) (codes "h") None);
      found = refl;
      not_cut = refl;
      next = (refl, tt);
      is = (refl, record { digits = codes "200"; is = refl; three = refl; are_digits = refl; status = refl; no_other = refl }, omega arith);
      turn = inl (record { is_ready = (0, omega arith, refl); above = omega arith; least = λ k lt some. some });
      own = λ is_data. let clash : 1 ≡ 0 = is_data in absurd (omega (arith, clash));
      shared = λ is_data. let clash : 1 ≡ 0 = is_data in absurd (omega (arith, clash));
    },
    record { active = refl; brings = refl },
  );
  in_turn = λ begins. record {
    none_cut = λ stream kept found. one_whole (1 == stream) (boxed 1 (Before [] (Some answer_head) (codes "h") None)) kept refl found;
    turn = inl (record { is_ready = (0, omega arith, refl); above = omega arith; least = λ k lt some. some });
  };
  request = record { open_yet = refl; may = inl refl };
  additions = tt;
  calls = λ so. absurd (let no : false ≡ true = so in cc);
  table = record { together = refl; is_given = answer_encoded };
  window = record { kind = refl; over_with_it = refl };
}

-- all that came goes, without the end
h_may : MayDo streaming (told_by at_begun) (told_by at_parted) at_begun h_decision
unfolding total_size
h_may = record {
  rests = λ e. never e;
  conduct = record { allowed = record { open_yet = refl; turn = inr (inl (record { nothing = refl; goes_on = refl; passing = refl; rightly = refl })) }; fit = refl };
  offer = (
    record {
      kept = boxed 1 (Behind (codes "h") None);
      found = refl;
      not_cut = refl;
      next = ([], refl, tt, λ e. absurd (let clash : codes "h" ≡ [] = e in cc));
      is = (refl, refl);
      turn = inr (record { is_ready = (0, omega arith, refl); none_above = λ k lt. let one = each_one k lt in omega (arith, one); least = λ k lt. let one = each_one k lt in omega (arith, one) });
      own = λ is_data some. omega arith;
      shared = λ is_data some. omega arith;
    },
    record { active = refl; brings = refl },
  );
  in_turn = λ begins. record {
    none_cut = λ stream kept found. one_whole (1 == stream) (boxed 1 (Behind (codes "h") None)) kept refl found;
    turn = inr (record { is_ready = (0, omega arith, refl); none_above = λ k lt. let one = each_one k lt in omega (arith, one); least = λ k lt. let one = each_one k lt in omega (arith, one) });
  };
  request = record { open_yet = refl; may = inl refl };
  additions = tt;
  calls = λ so. absurd (let no : false ≡ true = so in cc);
  table = record { together = refl; is_given = refl };
  window = record { kind = refl; over_with_it = refl };
}

took_may : MayDo streaming (told_by at_parted) (told_by at_took) at_parted took_decision
unfolding total_size
took_may = record {
  rests = λ e. parted_rest;
  conduct = record { allowed = record { open_yet = refl; turn = record { nothing = refl; none_begun = refl; goes_on = refl } }; fit = λ e. never e };
  offer = (parted_rest.flushed, refl);
  in_turn = tt;
  request = record { open_yet = refl; may = (record { nothing = refl; none_done = refl; goes_on = refl }, refl) };
  additions = tt;
  calls = λ so. absurd (let no : false ≡ true = so in cc);
  table = tt;
  window = (parted_rest.given_back refl, record { settled = refl; admitted = refl });
}

shared_may : MayDo streaming (told_by at_took) (told_by at_shared) at_took (Sends shared_back encoded)
unfolding total_size
shared_may = record {
  rests = λ e. never e;
  conduct = record { allowed = record { open_yet = refl; turn = inr (inl (record { nothing = refl; goes_on = refl; passing = refl; rightly = refl })) }; fit = refl };
  offer = record { no_block = refl; no_data = refl };
  in_turn = λ e. never e;
  request = record { open_yet = refl; may = inl refl };
  additions = tt;
  calls = λ so. absurd (let no : false ≡ true = so in cc);
  table = record { together = refl; is_given = refl };
  window = record { kind = refl; owed = refl };
}

own_may : MayDo streaming (told_by at_shared) (told_by at_returned) at_shared (Sends own_back encoded)
unfolding total_size
own_may = record {
  rests = λ e. never e;
  conduct = record { allowed = record { open_yet = refl; turn = inr (inl (record { nothing = refl; goes_on = refl; passing = refl; rightly = refl })) }; fit = refl };
  offer = record { no_block = refl; no_data = refl };
  in_turn = λ e. never e;
  request = record { open_yet = refl; may = inl refl };
  additions = tt;
  calls = λ so. absurd (let no : false ≡ true = so in cc);
  table = record { together = refl; is_given = refl };
  window = record { kind = refl; owed = (refl, refl, refl) };
}

last_may : MayDo streaming (told_by at_returned) (told_by at_last) at_returned last_decision
unfolding total_size
last_may = record {
  rests = λ e. returned_rest;
  conduct = record { allowed = record { open_yet = refl; turn = record { nothing = refl; none_begun = refl; goes_on = refl } }; fit = λ fine completes. never completes };
  offer = (returned_rest.flushed, refl, refl);
  in_turn = tt;
  request = record {
    open_yet = refl;
    may = (
      record { nothing = refl; none_done = refl; goes_on = refl },
      record {
        serving = record { counted = omega arith; served = refl; goes_on = refl };
        found = refl;
        continues = ends_behind Chunking Chunking Whole (chunk_text (codes "y")) (last_chunk []) (codes "y") [] (adds_chunk Chunking (codes "y") refl (omega arith)) text_ends;
        whole = refl;
      },
    );
  };
  additions = record { adds = refl; goes_on = refl };
  calls = λ so. absurd (let no : false ≡ true = so in cc);
  table = record { is_noted = refl };
  window = record { nothing = returned_rest.given_back refl; goes_on = refl; opens_it = refl; lives = λ e. never e; over_with_it = refl };
}

put_may : MayDo streaming (told_by at_last) (told_by at_put) at_last (Acts (ToUp 1 written))
unfolding total_size
put_may = record {
  rests = λ e. never e;
  conduct = record { allowed = record { open_yet = refl; turn = refl }; fit = tt };
  offer = λ begins. absurd (let no : false ≡ true = begins in cc);
  in_turn = tt;
  request = record { open_yet = refl; may = inl refl };
  additions = tt;
  calls = λ so. absurd (let no : false ≡ true = so in cc);
  table = tt;
  window = record { opened = refl; its = refl; in_effect = λ e. refl };
}

end_may : MayDo streaming (told_by at_ended) (told_by at_whole) at_ended end_decision
unfolding total_size
end_may = record {
  rests = λ e. ended_rest;
  conduct = record { allowed = record { open_yet = refl; turn = record { nothing = refl; none_begun = refl; goes_on = refl } }; fit = λ e. never e };
  offer = (ended_rest.flushed, record { is_given = refl; active = refl; no_cause = refl }, refl);
  in_turn = tt;
  request = record { open_yet = refl; may = (record { nothing = refl; none_done = refl; goes_on = refl }, tt, (first_live Pending, refl)) };
  additions = tt;
  calls = λ so. absurd (let no : false ≡ true = so in cc);
  table = tt;
  window = (ended_rest.given_back refl, record { settled = refl; admitted = refl });
}

closed_may : MayDo streaming (told_by at_whole) (told_by at_closed) at_whole (Acts (Close 1))
unfolding total_size
closed_may = record {
  rests = λ e. never e;
  conduct = record { allowed = record { open_yet = refl; turn = refl }; fit = tt };
  offer = tt;
  in_turn = tt;
  request = record { open_yet = refl; may = record { nothing = refl; line = first_live Done; found = refl; why = inl refl } };
  additions = tt;
  calls = λ so. absurd (let no : false ≡ true = so in cc);
  table = tt;
  window = tt;
}

i_may : MayDo streaming (told_by at_closed) (told_by at_over) at_closed i_decision
unfolding total_size
i_may = record {
  rests = λ e. never e;
  conduct = record { allowed = record { open_yet = refl; turn = inr (inl (record { nothing = refl; goes_on = refl; passing = refl; rightly = refl })) }; fit = refl };
  offer = (
    record {
      kept = boxed 1 (Behind (codes "i") (Some []));
      found = refl;
      not_cut = refl;
      next = ([], refl, (refl, refl), λ e. refl);
      is = (refl, refl);
      turn = inr (record { is_ready = (0, omega arith, refl); none_above = λ k lt. let one = each_one k lt in omega (arith, one); least = λ k lt. let one = each_one k lt in omega (arith, one) });
      own = λ is_data some. omega arith;
      shared = λ is_data some. omega arith;
    },
    record { active = refl; brings = refl },
  );
  in_turn = λ begins. record {
    none_cut = λ stream kept found. one_whole (1 == stream) (boxed 1 (Behind (codes "i") (Some []))) kept refl found;
    turn = inr (record { is_ready = (0, omega arith, refl); none_above = λ k lt. let one = each_one k lt in omega (arith, one); least = λ k lt. let one = each_one k lt in omega (arith, one) });
  };
  request = record { open_yet = refl; may = inl refl };
  additions = tt;
  calls = λ so. absurd (let no : false ≡ true = so in cc);
  table = record { together = refl; is_given = refl };
  window = record { kind = refl; over_with_it = refl };
}

octet_may : MayDo streaming (told_by at_over) (told_by at_all_back) at_over (Sends octet_back encoded)
unfolding total_size
octet_may = record {
  rests = λ e. never e;
  conduct = record { allowed = record { open_yet = refl; turn = inr (inl (record { nothing = refl; goes_on = refl; passing = refl; rightly = refl })) }; fit = refl };
  offer = record { no_block = refl; no_data = refl };
  in_turn = λ e. never e;
  request = record { open_yet = refl; may = inl refl };
  additions = tt;
  calls = λ so. absurd (let no : false ≡ true = so in cc);
  table = record { together = refl; is_given = refl };
  window = record { kind = refl; owed = refl };
}

-- ---- so the run is allowed, and rests behind each part

pub parted_leads : Stands streaming parted at_parted
unfolding total_size
parted_leads =
    let first = goes streaming waits at_waits waits_leads begin_decision at_heard refl refl begin_may in
    let second = goes streaming (Does begin_decision ∷ waits) at_heard first head_decision at_begun refl refl head_may in
    goes streaming (Does head_decision ∷ Does begin_decision ∷ waits) at_begun second h_decision at_parted refl refl h_may

pub parted_rests : RestsBehind streaming parted
parted_rests = rests streaming parted at_parted parted_leads parted_rest

pub returned_leads : Stands streaming returned at_returned
unfolding total_size
returned_leads =
    let first = goes streaming parted at_parted parted_leads took_decision at_took refl refl took_may in
    let second = goes streaming (Does took_decision ∷ parted) at_took first (Sends shared_back encoded) at_shared refl refl shared_may in
    goes streaming (Does (Sends shared_back encoded) ∷ Does took_decision ∷ parted) at_shared second (Sends own_back encoded) at_returned refl refl own_may

pub ended_leads : Stands streaming ended at_ended
unfolding total_size
ended_leads =
    let first = goes streaming returned at_returned returned_leads last_decision at_last refl refl last_may in
    settles streaming (Does (Acts (ToUp 1 written)) ∷ Does last_decision ∷ returned) at_put
    (goes streaming (Does last_decision ∷ returned) at_last first (Acts (ToUp 1 written)) at_put refl refl put_may)

pub ended_rests : RestsBehind streaming ended
ended_rests = rests streaming ended at_ended ended_leads ended_rest

pub over_leads : Stands streaming over at_over
unfolding total_size
over_leads =
    let first = goes streaming ended at_ended ended_leads end_decision at_whole refl refl end_may in
    let second = goes streaming (Does end_decision ∷ ended) at_whole first (Acts (Close 1)) at_closed refl refl closed_may in
    goes streaming (Does (Acts (Close 1)) ∷ Does end_decision ∷ ended) at_closed second i_decision at_over refl refl i_may

pub all_back_leads : Stands streaming all_back at_all_back
unfolding total_size
all_back_leads = goes streaming over at_over over_leads (Sends octet_back encoded) at_all_back refl refl octet_may

pub all_back_rests : RestsBehind streaming all_back
all_back_rests = rests streaming all_back at_all_back all_back_leads (record {
  conduct = record { nothing = refl; none_begun = refl; ended = λ e. never e };
  flushed = record { none_cut = λ low stream kept found. none_kept found; none_ready = λ low. refl };
  served = record { nothing = refl; none_done = refl; ended = λ e. never e };
  read = refl;
  given_back = λ open_yet. record { settled = refl; shared = refl; own = λ stream active goes_on. subst (λ (id : ℕ). (at_all_back.windows.row id).debt ≡ 0) (eqb-true 1 stream (only_one (1 == stream) _ active)) refl };
})
