-- Connections that are kept for further requests: rows of three requests on two connections, and of an idle one that ends.
use Rattle.std.proofs.Common.{◌≡◌, ℕ, ◌<◌, length, Bool, true, false, List, [], ◌∷◌, ◌++◌, refl, sym, ap, ◌∙◌, subst, inl, inr, arith, if◌then◌else◌}
use Rattle.std.specs.Prelude.{codes, Some}
use Rattle.std.proofs.lemmas.Bool.Decides.{eqb_tells}
use Rattle.model.specs.Messages.{Request}
use Rattle.model.specs.Http1.{H1Request, H1Open, forward}
use Rattle.model.specs.Logs.Event.{Up, UpEnd}
use Rattle.model.specs.Logs.Act.{Open, ToUp, Close}
use Rattle.model.specs.Setup.{Setup, Passing}
use Rattle.model.specs.Setup.Passing.{Whole}
use Rattle.model.specs.Tapes.{Entry, came, sent, sent_up, is_closed}
use Rattle.model.specs.Tapes.Entry.{Happened, Did}
use Rattle.model.specs.Responses.{IsComplete}
use Rattle.model.specs.Admission.{is_open}
use Rattle.model.specs.Openings.{Opened, exchanges, exchange_on, sent_for}
use Rattle.model.specs.Available.{heard_by, ended_by}
use Rattle.model.specs.Known.{Known}
use Rattle.model.specs.Courses.{about}
use Rattle.model.specs.Idle.{is_asked_for_head, IsTooLong, LeavesOpen, MayBeKept, IsIdle, NoneIdleBefore}
use Rattle.model.specs.RequestClause.{MayBeUsedAgain, BeginInTime}
use Rattle.model.specs.ProgressClause.{AreClosed, IsDoneWith}
use Rattle.model.specs.ProgressClause.Reason.{Complete}
use Rattle.model.proofs.Http1Texts.{kept_get_open, bare_request}
use Rattle.model.proofs.PastLaws.{whole_past, whole_seen}
use Rattle.model.proofs.SeenLaws.{one_seen}
use Rattle.model.specs.Tables.{total_size, first_table}
use Rattle.model.specs.Decoding.{Decodes}
use Rattle.model.proofs.AnswerTexts as answer
use Rattle.model_examples.proofs.RowTapes.{whole, frame, headed, out, out_headed, get, get_block, next_get_block, begun, ok_two, ok_block, answer_text}
use Rattle.model_examples.proofs.RowBlocks.{get_table, settings_decode, begun_decodes, get_spelled, next_get_spelled, ok_spelled}

-- as in the other rows, and connections are kept
abbrev pub keeping : Setup
keeping = record whole { keep = true }

abbrev pub by_keeping : Known
by_keeping = record { setup = keeping; failures = [] }

-- the same, where requests and responses are passed on so
abbrev pub keeping_by : Passing → Known
keeping_by passing = record { setup = record keeping { passing = passing }; failures = [] }

-- the text of the GET, without a line that says that the connection is closed behind it
abbrev pub getk : List ℕ
getk = codes "GET / HTTP/1.1\r\nhost: www.example.com\r\nvia: 2.0 h2gw\r\n\r\n"

-- the request, its text, and its response: the connection is idle behind it
abbrev pub first_got : List Entry
first_got = Did (ToUp 1 getk) ∷ Did (Open 1 0) ∷ headed (frame 1 5 1 get_block) get ∷ begun

abbrev pub first_heard : List Entry
first_heard = Happened (Up 1 answer_text) ∷ first_got

abbrev pub first_answered : List Entry
first_answered = out (frame 0 1 1 (codes "hi")) ∷ out_headed (frame 1 4 1 ok_block) ok_two ∷ first_heard

-- the second goes out on it
abbrev pub second_came : List Entry
second_came = headed (frame 1 5 3 next_get_block) get ∷ first_answered

abbrev pub second_got : List Entry
second_got = Did (ToUp 1 getk) ∷ second_came

-- an octet stands behind its response, so that the connection is closed
abbrev pub none_and_more : List ℕ
none_and_more = codes "HTTP/1.1 204 No Content\r\n\r\nX"

abbrev pub second_heard : List Entry
second_heard = Happened (Up 1 none_and_more) ∷ second_got

abbrev pub second_closed : List Entry
second_closed = Did (Close 1) ∷ second_heard

-- and the third has one of its own
abbrev pub third_got : List Entry
third_got = Did (ToUp 2 getk) ∷ Did (Open 2 0) ∷ headed (frame 1 5 5 next_get_block) get ∷ second_closed

abbrev pub exchange : ℕ → ℕ → Opened
exchange k stream = record { k = k; route = 0; stream = stream }

-- the blocks of both directions can be read
pub came_decodes : Decodes (came third_got) get_table
came_decodes = (get_table, (get_table, (first_table, settings_decode, get_spelled, refl), next_get_spelled, refl), next_get_spelled, refl)

pub sent_decodes : Decodes (sent third_got) first_table
sent_decodes = (first_table, (first_table, begun_decodes, ok_spelled, refl), (refl, refl), refl)

-- ---- exchanges, by computation

pub three_exchanges : exchanges third_got ≡ exchange 2 5 ∷ exchange 1 3 ∷ exchange 1 1 ∷ []
three_exchanges = refl

pub first_is_sent : sent_for (exchange 1 1) third_got ≡ getk
first_is_sent = refl

pub second_is_sent : sent_for (exchange 1 3) third_got ≡ getk
second_is_sent = refl

pub both_are_sent : sent_up 1 third_got ≡ getk ++ getk
both_are_sent = refl

pub first_is_heard : heard_by (exchange 1 1) third_got ≡ answer_text
first_is_heard = refl

pub second_is_heard : heard_by (exchange 1 3) third_got ≡ none_and_more
second_is_heard = refl

-- what comes of the connection is about the stream that it is given to then
pub about_first : about first_got (Happened (Up 1 answer_text)) ≡ 1
about_first = refl

pub about_second : about second_got (Happened (Up 1 none_and_more)) ≡ 3
about_second = refl

-- ---- the connection is idle, and used again

abbrev pub request : Request
request = bare_request (codes "GET") (codes "/") (codes "www.example.com")

-- another request may stand behind the text
pub opens_for_more : H1Open getk (forward request)
opens_for_more = kept_get_open (codes "GET") (codes "/") (codes "www.example.com") refl refl refl

few_octets : (passing : Passing) → IsTooLong (keeping_by passing) answer_text false → ⊥
few_octets passing long =
    let same = one_seen answer_text false long.interims [] long.head (Some answer.head) long.octets (codes "hi") long.seen (whole_seen answer_text false answer.response answer.answered) in
    let over : 1048576 < length (codes "hi") = subst (λ (l : List ℕ). 1048576 < length l) same.octets long.over in
    omega (arith, over)

-- An exchange that was sent that request and heard that response alone is over in such a way that its connection may be kept.
pub kept_on : (passing : Passing) (t : List Entry) (o : Opened) → sent_for o t ≡ getk → heard_by o t ≡ answer_text → ended_by o t ≡ false
    → is_asked_for_head (keeping_by passing) o t ≡ false → is_closed t ≡ false → MayBeKept (keeping_by passing) t o
kept_on passing t o asks hears stays asked on = record {
  keeps = refl;
  goes_on = on;
  request = forward request;
  sent = subst (λ (x : List ℕ). H1Request x (forward request)) (sym asks) opens_for_more.reads;
  answered = subst (λ (b : Bool). LeavesOpen (heard_by o t) b) (sym asked) (subst (λ (x : List ℕ). LeavesOpen x false) (sym hears) answer.leaves_open);
  fits = λ long. few_octets passing
      (subst (λ (b : Bool). IsTooLong (keeping_by passing) answer_text b) asked
      (subst (λ (x : List ℕ). IsTooLong (keeping_by passing) x (is_asked_for_head (keeping_by passing) o t)) hears long));
  not_ended = stays;
}

-- If it is open and was given to no other stream since, it is idle.
pub idle_on : (passing : Passing) (t : List Entry) (k stream : ℕ) → is_open k t ≡ true → exchange_on k t ≡ exchange k stream
    → sent_for (exchange k stream) t ≡ getk → heard_by (exchange k stream) t ≡ answer_text → ended_by (exchange k stream) t ≡ false
    → is_asked_for_head (keeping_by passing) (exchange k stream) t ≡ false → is_closed t ≡ false → IsIdle (keeping_by passing) t k
idle_on passing t k stream is_on newest asks hears stays asked on = record {
  is_open = is_on;
  kept = subst (λ (o : Opened). MayBeKept (keeping_by passing) t o) (sym newest) (kept_on passing t (exchange k stream) asks hears stays asked on);
}

pub idle : IsIdle by_keeping second_came 1
unfolding total_size
idle = idle_on Whole second_came 1 1 refl refl refl refl refl refl refl

-- it is the least of its route, since there is no other
least : NoneIdleBefore by_keeping second_came 0 1
least j i route = elim (eqb_tells j 1) [
  | inl same ↦ (let e = same.1 in omega (arith, e))
  | inr apart ↦ absurd (let clash : false ≡ true = sym (ap (λ b. if b then true else false) apart.0) ∙ i.is_open in cc)
]

pub used_again : MayBeUsedAgain by_keeping second_came 1
unfolding total_size
used_again = record { served = record { active = refl; no_cause = refl; goes_on = refl; whole = λ passing. refl }; idle = idle; least = least }

-- its last exchange began in time
pub second_in_time : BeginInTime by_keeping second_got → BeginInTime by_keeping second_came
second_in_time c = c.1

-- ---- it is closed where its upstream ends it, and behind an octet too many

abbrev pub ended : List Entry
ended = Did (Close 1) ∷ Happened (UpEnd 1) ∷ first_answered

-- the response is the same with the end
pub ends_rightly : IsDoneWith by_keeping ended 1 (Happened (UpEnd 1) ∷ first_answered)
unfolding total_size
ends_rightly = record {
  was_open = refl;
  reason = Complete (answer.response, whole_past answer_text [] true false answer.response answer.answered);
  not_kept = λ kept. absurd (let clash : true ≡ false = kept.not_ended in cc);
}

abbrev pub answered_and_more : List ℕ
answered_and_more = answer_text ++ codes "X"

abbrev pub heard_too_much : List Entry
heard_too_much = Happened (Up 1 answered_and_more) ∷ first_got

-- an octet behind the response: nothing that is left may be kept
pub not_left : (to_head : Bool) → to_head ≡ false → LeavesOpen answered_and_more to_head → ⊥
not_left to_head e l = l.no_more answer_text (record { next = 88; rest = []; is = refl }) (subst (λ (b : Bool). IsComplete answer_text false b) (sym e) (answer.response, answer.answered))

pub closes_rightly : IsDoneWith by_keeping (Did (Close 1) ∷ heard_too_much) 1 heard_too_much
unfolding total_size
closes_rightly = record {
  was_open = refl;
  reason = Complete (answer.response, whole_past answer_text (codes "X") false false answer.response answer.answered);
  not_kept = λ kept. absurd (not_left false refl kept.answered);
}

-- Both leave it open only if they break the clause.
pub stays_open_behind_end : AreClosed by_keeping (Happened (UpEnd 1) ∷ first_answered) → ⊥
unfolding total_size
stays_open_behind_end closed =
    let kept = closed 1 refl (Complete (answer.response, whole_past answer_text [] true false answer.response answer.answered)) in
    let clash : true ≡ false = kept.not_ended in cc

pub stays_open_behind_more : AreClosed by_keeping heard_too_much → ⊥
unfolding total_size
stays_open_behind_more closed =
    let kept = closed 1 refl (Complete (answer.response, whole_past answer_text (codes "X") false false answer.response answer.answered)) in
    not_left false refl kept.answered
