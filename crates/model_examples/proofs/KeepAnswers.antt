-- Responses behind which a connection isn't kept: a head alone, with an octet behind it, and one with `close` in Connection.
use Rattle.std.proofs.Common.{◌≡◌, ℕ, ◌<◌, true, false, List, [], ◌∷◌, ◌++◌, map, length, append_assoc, refl, ap, ◌∙◌, subst, arith}
use Rattle.std.specs.Prelude.{codes, Some, zero, suc, get_or, bytes_eq}
use Rattle.std.specs.List.{All, list_any}
use Rattle.std.specs.Char.{is_ascii_digit}
use Rattle.std.proofs.lemmas.List.Sums.{AllPass-from_list_all}
use Rattle.httparse.specs.Grammar as grammar
use Rattle.httparse.specs.Grammar.{is_token_byte, is_value_byte, IsField, IsResponseHead, ReadsResponse, trim_ows, print_response}
use Rattle.model.specs.Octets.{Joined}
use Rattle.model.specs.ResponseHeads.{Head, Interim, Final, meant, named_by_connection}
use Rattle.model.specs.ResponseHeads.Framing.{Bodiless, Sized}
use Rattle.model.specs.Responses.{Response, H1Response}
use Rattle.model.specs.Tables.{total_size}
use Rattle.model.specs.Logs.Event.{Up}
use Rattle.model.specs.Logs.Act.{Close}
use Rattle.model.specs.Tapes.{Entry}
use Rattle.model.specs.Tapes.Entry.{Happened, Did}
use Rattle.model.specs.Http1.{forward}
use Rattle.model.specs.Idle.{IsTooLong, LeavesOpen, IsIdle}
use Rattle.model.specs.ProgressClause.{AreClosed, IsDoneWith}
use Rattle.model.specs.ProgressClause.Reason.{Complete}
use Rattle.model.proofs.PastLaws.{whole_past, whole_seen, no_shorter}
use Rattle.model.proofs.SeenLaws.{one_seen}
use Rattle.model.proofs.ResponseHeadReadings.{one_spelled, none_at_final}
use Rattle.model_examples.proofs.RowTapes.{field}
use Rattle.model_examples.proofs.KeepExamples.{by_keeping, none_and_more, request, opens_for_more, second_got, second_heard, second_closed, third_got}

-- ---- a head alone: an octet behind it belongs to no response

abbrev none_text : List ℕ
none_text = codes "HTTP/1.1 204 No Content\r\n\r\n"

abbrev none_head : Head
none_head = record { status = 204; fields = [] }

abbrev none_spelled : grammar.ResponseHead
none_spelled = record { blank = []; minor = 1; digits = codes "204"; reason = Some (codes "No Content"); line_end = grammar.crlf; fields = []; last = grammar.crlf }

no_fields : All IsField none_spelled.fields
no_fields k d lt = absurd (omega (arith, lt))

is_none_head : IsResponseHead none_spelled
is_none_head = record {
  minor = omega arith;
  digits = (refl, AllPass-from_list_all is_ascii_digit (codes "204") refl);
  reason = AllPass-from_list_all is_value_byte (codes "No Content") refl;
  fields = no_fields;
}

none_reads : ReadsResponse none_text none_spelled []
unfolding print_response
none_reads = (is_none_head, refl)

none_final : Final false none_text none_head Bodiless
unfolding trim_ows
none_final = record {
  spelled = none_spelled;
  taken = record { reads = none_reads; is_short = omega arith; has_few = omega arith; values = refl; has_class = omega arith; no_upgrade = λ e. absurd (omega (arith, e)) };
  is_final = omega arith;
  framed = refl;
  says = refl;
}

abbrev none_response : Response
none_response = record { interims = []; head = none_head; body = []; trailers = [] }

none_answered : H1Response none_text false false none_response
none_answered = record {
  front = [];
  head_text = none_text;
  rest = [];
  framing = Bodiless;
  is = refl;
  are_interims = refl;
  few_interims = omega arith;
  is_final = none_final;
  body = (refl, refl);
}

pub none_left : LeavesOpen none_and_more false → ⊥
none_left l = l.no_more none_text (record { next = 88; rest = []; is = refl }) (none_response, none_answered)

-- The second response of the row comes with it, so the connection is closed, and isn't kept.
pub closes_second : IsDoneWith by_keeping second_closed 1 second_heard
unfolding total_size
closes_second = record {
  was_open = refl;
  reason = Complete (none_response, whole_past none_text (codes "X") false false none_response none_answered);
  not_kept = λ kept. absurd (none_left kept.answered);
}

pub stays_open_behind_second : AreClosed by_keeping second_heard → ⊥
unfolding total_size
stays_open_behind_second closed = none_left (closed 1 refl (Complete (none_response, whole_past none_text (codes "X") false false none_response none_answered))).answered

-- The head alone leaves the connection idle,
abbrev pub second_whole : List Entry
second_whole = Happened (Up 1 none_text) ∷ second_got

none_open : LeavesOpen none_text false
unfolding trim_ows none_answered none_final
none_open = record {
  response = none_response;
  reads = none_answered;
  version = refl;
  no_close = refl;
  no_more = λ front strict whole. no_shorter none_text front false none_response none_answered refl strict whole;
}

no_body : IsTooLong by_keeping none_text false → ⊥
no_body long =
    let seen = whole_seen none_text false none_response none_answered in
    let same = one_seen none_text false long.interims [] long.head (Some none_head) long.octets [] long.seen seen in
    let over : 1048576 < 0 = subst (λ (l : List ℕ). 1048576 < length l) same.octets long.over in
    omega (arith, over)

pub idle_behind_head : IsIdle by_keeping second_whole 1
unfolding total_size
idle_behind_head = record {
  is_open = refl;
  kept = record {
    keeps = refl;
    goes_on = refl;
    request = forward request;
    sent = opens_for_more.reads;
    answered = none_open;
    fits = no_body;
    not_ended = refl;
  };
}

-- and with the octet, which comes later, it is idle no more: it is closed.
abbrev pub stray_later : List Entry
stray_later = Happened (Up 1 (codes "X")) ∷ second_whole

pub idle_no_more : IsIdle by_keeping stray_later 1 → ⊥
unfolding total_size
idle_no_more i = none_left i.kept.answered

pub closes_behind_stray : IsDoneWith by_keeping (Did (Close 1) ∷ stray_later) 1 stray_later
unfolding total_size
closes_behind_stray = record {
  was_open = refl;
  reason = Complete (none_response, whole_past none_text (codes "X") false false none_response none_answered);
  not_kept = λ kept. absurd (none_left kept.answered);
}

pub stays_open_behind_stray : AreClosed by_keeping stray_later → ⊥
unfolding total_size
stays_open_behind_stray closed =
    let kept = closed 1 refl (Complete (none_response, whole_past none_text (codes "X") false false none_response none_answered)) in
    none_left kept.answered

-- ---- the server says that it closes the connection

abbrev closing_text : List ℕ
closing_text = codes "HTTP/1.1 200 OK\r\nConnection: close\r\nContent-Length: 0\r\n\r\n"

abbrev closing_head : Head
closing_head = record { status = 200; fields = field (codes "content-length") (codes "0") ∷ [] }

abbrev closing_spelled : grammar.ResponseHead
closing_spelled = record {
  blank = [];
  minor = 1;
  digits = codes "200";
  reason = Some (codes "OK");
  line_end = grammar.crlf;
  fields =
      record { name = codes "Connection"; raw = codes " close"; end = grammar.crlf }
      ∷ record { name = codes "Content-Length"; raw = codes " 0"; end = grammar.crlf }
      ∷ [];
  last = grammar.crlf;
}

two_fields : All IsField closing_spelled.fields
unfolding is_token_byte
two_fields k d lt = at k lt
  where
    option : IsField (record { name = codes "Connection"; raw = codes " close"; end = grammar.crlf })
    option = record { name = (omega arith, AllPass-from_list_all is_token_byte (codes "Connection") refl); raw = AllPass-from_list_all is_value_byte (codes " close") refl }

    size : IsField (record { name = codes "Content-Length"; raw = codes " 0"; end = grammar.crlf })
    size = record { name = (omega arith, AllPass-from_list_all is_token_byte (codes "Content-Length") refl); raw = AllPass-from_list_all is_value_byte (codes " 0") refl }

    at : (k : ℕ) → k < 2 → IsField (get_or closing_spelled.fields k d)
    at zero lt = option
    at (suc zero) lt = size
    at (suc (suc k)) lt = absurd (omega (arith, lt))

is_closing_head : IsResponseHead closing_spelled
is_closing_head = record {
  minor = omega arith;
  digits = (refl, AllPass-from_list_all is_ascii_digit (codes "200") refl);
  reason = AllPass-from_list_all is_value_byte (codes "OK") refl;
  fields = two_fields;
}

closing_reads : ReadsResponse closing_text closing_spelled []
unfolding print_response
closing_reads = (is_closing_head, refl)

closing_final : Final false closing_text closing_head (Sized 0)
unfolding trim_ows
closing_final = record {
  spelled = closing_spelled;
  taken = record { reads = closing_reads; is_short = omega arith; has_few = omega arith; values = refl; has_class = omega arith; no_upgrade = λ e. absurd (omega (arith, e)) };
  is_final = omega arith;
  framed = refl;
  says = refl;
}

abbrev closing_response : Response
closing_response = record { interims = []; head = closing_head; body = []; trailers = [] }

closing_answered : H1Response closing_text false false closing_response
closing_answered = record {
  front = [];
  head_text = closing_text;
  rest = [];
  framing = Sized 0;
  is = refl;
  are_interims = refl;
  few_interims = omega arith;
  is_final = closing_final;
  body = (record { past = []; is = refl; has_count = refl }, refl);
}

-- no interim head stands before it
no_front : (front rest : List ℕ) (heads : List Head) → Joined Interim front heads → closing_text ≡ front ++ rest → front ≡ []
no_front front rest [] j e = j
no_front front rest (k ∷ heads) j e = absurd (none_at_final false closing_text [] closing_head (Sized 0) closing_final j.0 (j.1 ++ rest) k j.2 (e ∙ ap (λ x. x ++ rest) j.3 ∙ append_assoc j.0 j.1 rest))

pub option_left : LeavesOpen closing_text false → ⊥
unfolding trim_ows
option_left l =
    let parts : closing_text ≡ l.reads.front ++ (l.reads.head_text ++ l.reads.rest) = l.reads.is ∙ append_assoc l.reads.front l.reads.head_text l.reads.rest in
    let none = no_front l.reads.front (l.reads.head_text ++ l.reads.rest) l.response.interims l.reads.are_interims parts in
    let behind : closing_text ≡ l.reads.head_text ++ l.reads.rest = parts ∙ ap (λ x. x ++ (l.reads.head_text ++ l.reads.rest)) none in
    let same = one_spelled closing_text l.reads.head_text [] l.reads.rest closing_spelled l.reads.is_final.spelled closing_reads l.reads.is_final.taken.reads behind in
    let clash : true ≡ false = ap (λ (h : grammar.ResponseHead). list_any (bytes_eq (codes "close")) (named_by_connection (map meant h.fields))) same.1 ∙ l.no_close in
    cc

-- The third response of the row says so.
abbrev third_heard : List Entry
third_heard = Happened (Up 2 closing_text) ∷ third_got

pub closes_third : IsDoneWith by_keeping (Did (Close 2) ∷ third_heard) 2 third_heard
unfolding total_size
closes_third = record {
  was_open = refl;
  reason = Complete (closing_response, closing_answered);
  not_kept = λ kept. absurd (option_left kept.answered);
}
