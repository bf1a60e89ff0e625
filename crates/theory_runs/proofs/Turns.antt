-- Two responses take turns: behind the first GET a second one goes out on stream 3. The client's settings leave streams no window, so
-- that an interim head goes out and the heads of both responses, and both bodies wait. Settings that raise the windows let them go:
-- one octet of each stream in its turn, as the rule leaves it to the gateway how many go in a frame.
use Rattle.std.proofs.Common.{◌≡◌, ℕ, true, false, List, [], ◌∷◌, length, Some, None, refl, pos}
use Rattle.std.specs.Prelude.{codes}
use Rattle.model.specs.Messages.{Field}
use Rattle.model.specs.Messages.Item.{Block, Content}
use Rattle.model.specs.Frames.{Frame, settings_ack}
use Rattle.model.specs.Tables.{Table, first_table, added, field_of}
use Rattle.model.specs.Logs.Event.{Up}
use Rattle.model.specs.Logs.Act.{Open, ToUp, Close}
use Rattle.model.specs.Openings.{Opened}
use Rattle.model.specs.Tapes.{Noted}
use Rattle.model.specs.Tapes.Note.{Fields}
use Rattle.model.specs.Tapes.Entry.{Came, Happened, Sent, Did}
use Rattle.model.specs.ResponseHeads.{Head}
use Rattle.model.specs.Deliveries.{Delivery}
use Rattle.h1_writer.specs.Sending.Stage.{Whole}
use Rattle.theory_errors.specs.Book.{Ledger}
use Rattle.theory_errors.specs.Rows.{Row, Slot}
use Rattle.theory_errors.specs.Rows.Slot.{Live, Over}
use Rattle.theory_responses.specs.Outbox.{Outbox}
use Rattle.theory_responses.specs.Outbox.Outbox.{Before, Behind}
use Rattle.theory_responses.specs.Outbox.Part.{Early, Final, Octets}
use Rattle.theory_responses.specs.State.{Kept}
use Rattle.theory_receive_windows.specs.State.{add, change, blank, given}
use Rattle.theory_requests.specs.Lines.{Answer, Line as Connection}
use Rattle.theory_requests.specs.Lines.Answer.{Done, Pending}
use Rattle.theory_requests.specs.Lines.Heard.{Finished, Partly}
use Rattle.theory_requests.specs.State.Due.{Nothing as NoneDue, ToOpen, ToSend}
use Rattle.theory_header_tables.proofs.Requests.{request, decoded}
use Rattle.theory.specs.Moves.{Decision, Move}
use Rattle.theory.specs.Moves.Addition.{Nothing, Begins}
use Rattle.theory.specs.Moves.Decision.{Takes, Hears, Goes, Sends, Acts}
use Rattle.theory.specs.Moves.Move.{Does, Settles}
use Rattle.theory.specs.State.{State, tape_of}
use Rattle.theory.specs.Steps.{next}
use Rattle.theory_runs.proofs.Greeting.{setup, frame, plain}
use Rattle.theory_runs.proofs.Request.{request_text, forwarded}
use Rattle.theory_runs.proofs.Answer.{answer_text, answer_head, news, ok, sized, head_out, heard_decision, one, at_forwarded}
use Rattle.theory_runs.proofs.Window.{sizes, raise, sent_one}
use Rattle.theory_runs.proofs.Body.{get_row, first_given, silent_one}

-- ---- the moves

-- settings that leave streams no window, and acknowledgements, before the gateway's blocks and behind them
abbrev pub lower : Decision
lower = Takes (sizes 0) decoded Nothing

abbrev pub ack_first : Decision
ack_first = Sends (plain settings_ack) first_table

-- the second GET
abbrev pub asks : Noted
asks = record { frame = frame 1 5 3 (130 ∷ 134 ∷ 132 ∷ 190 ∷ []); note = Fields request }

abbrev pub asked_decision : Decision
asked_decision = Takes asks decoded (Begins request true 0 request_text Whole)

-- the interim head that the first upstream tells
abbrev pub early_text : List ℕ
early_text = codes "HTTP/1.1 103 Early Hints\r\n\r\n"

abbrev pub early_head : Head
early_head = record { status = 103; fields = [] }

abbrev pub early_news : Delivery
early_news = record { interims = early_head ∷ []; head = None; body = []; ends = None }

-- the field of its block, and the tables that the blocks leave
abbrev pub early : Field
early = field_of (codes ":status") (codes "103")

abbrev pub with_early : Table
with_early = added early first_table

abbrev pub with_both : Table
with_both = added sized with_early

abbrev pub ack_again : Decision
ack_again = Sends (plain settings_ack) with_both

-- HEADERS of the interim head, and of the second response, whose length stands in the table then
abbrev pub early_out : Noted
early_out = record { frame = frame 1 4 1 (72 ∷ 130 ∷ 8 ∷ 25 ∷ []); note = Fields (early ∷ []) }

abbrev pub second_out : Noted
second_out = record { frame = frame 1 4 3 (136 ∷ 190 ∷ []); note = Fields (ok ∷ sized ∷ []) }

-- DATA of a stream: the first octet of the body, and the last
abbrev pub h_out : ℕ → Noted
h_out id = plain (frame 0 0 id (codes "h"))

abbrev pub i_out : ℕ → Noted
i_out id = plain (frame 0 1 id (codes "i"))

abbrev pub early_decision : Decision
early_decision = Goes early_out (Block (early ∷ []) false) (Early early_head) with_early

abbrev pub first_decision : Decision
first_decision = Goes head_out (Block (ok ∷ sized ∷ []) false) (Final answer_head false) with_both

abbrev pub second_decision : Decision
second_decision = Goes second_out (Block (ok ∷ sized ∷ []) false) (Final answer_head false) with_both

abbrev pub h_decision : ℕ → Decision
h_decision id = Goes (h_out id) (Content (codes "h") false) (Octets (codes "h") false) with_both

abbrev pub i_decision : ℕ → Decision
i_decision id = Goes (i_out id) (Content (codes "i") true) (Octets (codes "i") true) with_both

abbrev pub lowered : List Move
lowered = Does ack_first ∷ Does lower ∷ forwarded

abbrev pub both_asked : List Move
both_asked = Settles ∷ Does (Acts (ToUp 2 request_text)) ∷ Does (Acts (Open 2 0)) ∷ Does asked_decision ∷ lowered

abbrev pub hinted : List Move
hinted = Does early_decision ∷ Does (Hears (Up 1 early_text) 1 early_news Partly) ∷ both_asked

abbrev pub first_begun : List Move
first_begun = Does first_decision ∷ Does (Acts (Close 1)) ∷ Does heard_decision ∷ hinted

abbrev pub both_begun : List Move
both_begun = Does second_decision ∷ Does (Acts (Close 2)) ∷ Does (Hears (Up 2 answer_text) 3 news Finished) ∷ first_begun

abbrev pub raised : List Move
raised = Does ack_again ∷ Does raise ∷ both_begun

abbrev pub half_out : List Move
half_out = Does (h_decision 3) ∷ Does (h_decision 1) ∷ raised

abbrev pub all_out : List Move
all_out = Settles ∷ Does (i_decision 3) ∷ Does (i_decision 1) ∷ half_out

-- the tapes: up to where both bodies wait, and behind that
pub both_begun_tape : tape_of both_begun
    ≡ Sent second_out ∷ Did (Close 2) ∷ Happened (Up 2 answer_text) ∷ Sent head_out ∷ Did (Close 1) ∷ Happened (Up 1 answer_text) ∷ Sent early_out ∷ Happened (Up 1 early_text)
    ∷ Did (ToUp 2 request_text) ∷ Did (Open 2 0) ∷ Came asks ∷ Sent (plain settings_ack) ∷ Came (sizes 0) ∷ tape_of forwarded
both_begun_tape = refl

pub all_out_tape : tape_of all_out ≡ Sent (i_out 3) ∷ Sent (i_out 1) ∷ Sent (h_out 3) ∷ Sent (h_out 1) ∷ Sent (plain settings_ack) ∷ Came (sizes 10) ∷ tape_of both_begun
all_out_tape = refl

-- ---- what is kept behind each

-- the connection of the second GET
abbrev pub second_given : Opened
second_given = record { k = 2; route = 0; stream = 3 }

-- the ledger behind settings with this first size
abbrev pub ledger_at : ℕ → List Frame → List Row → List Opened → ℕ → ℕ → ℕ → Ledger
ledger_at size queue rows connections last window untaken = record {
  book = record at_forwarded.ledger.book { first_size = size; window = pos window; rows = rows; given = connections; last = last; untaken = untaken };
  queue = queue;
}

-- the rows of both streams
abbrev pub both_rows : Slot → Slot → List Row
both_rows first second = record { id = 3; slot = second } ∷ record { id = 1; slot = first } ∷ []

-- what is kept of a stream's response
abbrev pub boxed : ℕ → Outbox → Kept
boxed id box = record { id = id; box = box; cut = false }

-- the response with its head, and what is left of it
abbrev pub whole : Outbox
whole = Before [] (Some answer_head) (codes "hi") (Some [])

abbrev pub body_left : Outbox
body_left = Behind (codes "hi") (Some [])

abbrev pub last_left : Outbox
last_left = Behind (codes "i") (Some [])

-- the open connections
abbrev pub first_live : Answer → Connection
first_live answer = record { k = 1; route = 0; stream = 1; answer = answer }

abbrev pub second_live : Answer → Connection
second_live answer = record { k = 2; route = 0; stream = 3; answer = answer }

abbrev pub both_given : List Opened
both_given = second_given ∷ first_given ∷ []

abbrev pub at_lowered : State
at_lowered = record at_forwarded {
  ledger = ledger_at 0 (settings_ack ∷ []) (get_row 1 ∷ []) (first_given ∷ []) 0 65535 30;
  offers = at_forwarded.offers;
  windows = record at_forwarded.windows { settled = false };
}

abbrev pub at_acked : State
at_acked = record at_lowered { ledger = ledger_at 0 [] (get_row 1 ∷ []) (first_given ∷ []) 0 65535 39 }

abbrev pub at_asked : State
at_asked = record at_acked {
  ledger = ledger_at 0 [] (get_row 3 ∷ get_row 1 ∷ []) (first_given ∷ []) 3 65535 39;
  offers = record at_acked.offers { kept = silent_one 1 ∷ silent_one 3 ∷ [] };
  requests = record at_acked.requests { due = ToOpen 3 0 request_text Whole };
  windows = record at_acked.windows { row = change 3 (λ r. blank) at_acked.windows.row };
}

abbrev pub at_opened : State
at_opened = record at_asked {
  ledger = ledger_at 0 [] (get_row 3 ∷ get_row 1 ∷ []) both_given 3 65535 39;
  requests = record at_asked.requests { live = second_live Pending ∷ first_live Pending ∷ []; due = ToSend 2 request_text; count = 2 };
  windows = record at_asked.windows { row = change 3 (given 2) at_asked.windows.row };
}

abbrev pub at_put : State
at_put = record at_opened {
  requests = record at_opened.requests { due = NoneDue };
  windows = record at_opened.windows { out = add 2 (length request_text) at_opened.windows.out };
}

abbrev pub at_both_asked : State
at_both_asked = next setup at_put Settles

abbrev pub at_told : State
at_told = record at_both_asked {
  offers = record at_both_asked.offers { kept = boxed 1 (Before (early_head ∷ []) None [] None) ∷ silent_one 3 ∷ [] };
  windows = record at_both_asked.windows { settled = false };
}

abbrev pub at_hinted : State
at_hinted = record at_told {
  ledger = ledger_at 0 [] (get_row 3 ∷ get_row 1 ∷ []) both_given 3 65535 52;
  offers = record { kept = silent_one 1 ∷ silent_one 3 ∷ []; last = 1 };
  tables = record at_told.tables { encoding = record at_told.tables.encoding { table = with_early } };
  windows = at_told.windows;
}

abbrev pub at_first_heard : State
at_first_heard = record at_hinted {
  offers = record at_hinted.offers { kept = boxed 1 whole ∷ silent_one 3 ∷ [] };
  requests = record at_hinted.requests { live = second_live Pending ∷ first_live Done ∷ [] };
}

abbrev pub at_first_closed : State
at_first_closed = record at_first_heard { requests = record at_first_heard.requests { live = second_live Pending ∷ [] } }

abbrev pub at_first_begun : State
at_first_begun = record at_first_closed {
  ledger = ledger_at 0 [] (both_rows (Live (one true)) (Live (one false))) both_given 3 65535 65;
  offers = record { kept = boxed 1 body_left ∷ silent_one 3 ∷ []; last = 1 };
  tables = record at_first_closed.tables { encoding = record at_first_closed.tables.encoding { table = with_both } };
  windows = at_first_closed.windows;
}

abbrev pub at_second_heard : State
at_second_heard = record at_first_begun {
  offers = record at_first_begun.offers { kept = boxed 1 body_left ∷ boxed 3 whole ∷ [] };
  requests = record at_first_begun.requests { live = second_live Done ∷ [] };
}

abbrev pub at_second_closed : State
at_second_closed = record at_second_heard { requests = record at_second_heard.requests { live = [] } }

abbrev pub at_both_begun : State
at_both_begun = record at_second_closed {
  ledger = ledger_at 0 [] (both_rows (Live (one true)) (Live (one true))) both_given 3 65535 76;
  offers = record { kept = boxed 1 body_left ∷ boxed 3 body_left ∷ []; last = 3 };
  windows = at_second_closed.windows;
}

abbrev pub at_raised : State
at_raised = record at_both_begun {
  ledger = ledger_at 10 (settings_ack ∷ []) (both_rows (Live (one true)) (Live (one true))) both_given 0 65535 76;
  offers = at_both_begun.offers;
  windows = at_both_begun.windows;
}

abbrev pub at_acked_again : State
at_acked_again = record at_raised { ledger = ledger_at 10 [] (both_rows (Live (one true)) (Live (one true))) both_given 0 65535 85 }

abbrev pub at_first_half : State
at_first_half = record at_acked_again {
  ledger = ledger_at 10 [] (both_rows (Live sent_one) (Live (one true))) both_given 0 65534 95;
  offers = record { kept = boxed 1 last_left ∷ boxed 3 body_left ∷ []; last = 1 };
  windows = at_acked_again.windows;
}

abbrev pub at_half_out : State
at_half_out = record at_first_half {
  ledger = ledger_at 10 [] (both_rows (Live sent_one) (Live sent_one)) both_given 0 65533 105;
  offers = record { kept = boxed 1 last_left ∷ boxed 3 last_left ∷ []; last = 3 };
  windows = at_first_half.windows;
}

abbrev pub at_first_out : State
at_first_out = record at_half_out {
  ledger = ledger_at 10 [] (both_rows (Over false) (Live sent_one)) both_given 0 65532 115;
  offers = record { kept = boxed 3 last_left ∷ []; last = 1 };
  windows = at_half_out.windows;
}

abbrev pub at_both_out : State
at_both_out = record at_first_out {
  ledger = ledger_at 10 [] (both_rows (Over false) (Over false)) both_given 0 65531 125;
  offers = record { kept = []; last = 3 };
  windows = at_first_out.windows;
}

abbrev pub at_all_out : State
at_all_out = next setup at_both_out Settles
