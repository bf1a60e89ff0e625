-- The log of a first request and its response keeps the headline: behind the step of `HeadlineExamples` the upstream answers
-- with a length and two octets, its connection is closed, and the client is sent a head and a body.
use Rattle.std.proofs.Common.{◌≡◌, ℕ, ◌<◌, ◌≤◌, Bool, true, false, not, ◌&&◌, ◌||◌, ◌==◌, List, [], ◌∷◌, ◌++◌, length, refl, sym, ap, ◌∙◌, subst, inl, inr, arith, if◌then◌else◌}
use Rattle.std.specs.Prelude.{Option, Some, None, codes, take}
use Rattle.std.proofs.lemmas.Bool.Decides.{eqb_tells}
use Rattle.model.specs.Messages.{Item, Request}
use Rattle.model.specs.Messages.Item.{Block, Content}
use Rattle.model.specs.Tables.{total_size, first_table}
use Rattle.model.specs.Frames.{Fits, preface, spell, settings_frame, settings_ack}
use Rattle.model.specs.Http1.{H1Requests, forward}
use Rattle.model.specs.Http2.{H2Request}
use Rattle.model.specs.Logs.{Step}
use Rattle.model.specs.Logs.Event.{Up}
use Rattle.model.specs.Logs.Act.{Close}
use Rattle.model.specs.Logs.Output.{ToClient, Does}
use Rattle.model.specs.Tapes.{Noted, Entry, sent, sent_up}
use Rattle.model.specs.Tapes.Note.{NoBlock, Fields}
use Rattle.model.specs.Tapes.Entry.{Happened, Sent, Did}
use Rattle.model.specs.Decoding.{Decodes}
use Rattle.model.specs.ResponseHeads.{Head}
use Rattle.model.specs.Responses.{StandsIn, Seen}
use Rattle.model.specs.Deliveries.{Delivery, IsSection, ReadsAs}
use Rattle.model.specs.Available.{IsIn, items_on}
use Rattle.model.specs.Courses.{items}
use Rattle.model.specs.Offers.{IsOffered, IsDelivered}
use Rattle.model.specs.Lifetimes.{is_active, is_over}
use Rattle.model.specs.Idle.{IsTooLong}
use Rattle.model.specs.Failures.{MustFail}
use Rattle.model.specs.Spelling.{IsSpelled}
use Rattle.model.specs.RequestClause.{IsServed, IsSent, RequestsHold}
use Rattle.model_examples.proofs.SpellingLaws.{bare_spelled}
use Rattle.model.proofs.ExchangeLaws.{few_kept}
use Rattle.model.proofs.OpenLaws.{sent_alone}
use Rattle.model.specs.ErrorClause.{ErrorsHold}
use Rattle.model.specs.Openings.{Opened, opens, exchanges, exchanges_of, sent_for}
use Rattle.model.specs.ProgressClause.{AreClosed, IsForwarded, AllForwarded, ProgressHolds}
use Rattle.model.specs.ProgressClause.Reason.{Over}
use Rattle.model.specs.WindowClause.{WindowsHold}
use Rattle.model.specs.Headline.{IsTold, IsTaped, Headline}
use Rattle.model.proofs.Http2Readings.{one_meaning}
use Rattle.model.proofs.OfferLemmas.{BringNone, no_items}
use Rattle.model.specs.ResponseClause.{EachKeeps, ResponsesHold}
use Rattle.model.proofs.FirstLog as first
use Rattle.model.proofs.FirstLog.{setup, text, request, well_formed, nothing_begins_none}
use Rattle.model.proofs.AnswerTexts.{answer, head, fields, block, is_block, response, answered, one_framing, not_plain}
use Rattle.model_examples.proofs.HeadlineExamples as before
use Rattle.model_examples.proofs.BeginningExamples.{known, not_streaming, no_request, nothing_either, none_read}

abbrev headers : Noted
headers = record { frame = record { kind = 1; flags = 4; id = 1; payload = block }; note = Fields fields }

abbrev content : Noted
content = record { frame = record { kind = 0; flags = 1; id = 1; payload = codes "hi" }; note = NoBlock }

abbrev segment : List Entry
segment = Sent content ∷ Sent headers ∷ Did (Close 1) ∷ Happened (Up 1 answer) ∷ []

abbrev tape : List Entry
tape = segment ++ first.tape

-- ---- what the client is sent

abbrev before_answer : List Noted
before_answer = record { frame = settings_ack; note = NoBlock } ∷ record { frame = settings_frame 0; note = NoBlock } ∷ []

sent_before : Decodes before_answer first_table
sent_before = (first_table, (first_table, refl, (refl, refl), refl), (refl, refl), refl)

sent_now : Decodes (sent tape) first_table
sent_now = (first_table, (first_table, sent_before, record { maxima = []; is_block = is_block }, refl), (refl, refl), refl)

limits : EachKeeps tape
limits = (
  tt,
  (
    record {
      table = first_table;
      decodes = sent_before;
      maxima = [];
      fields = fields;
      next = first_table;
      is_block = is_block;
      within = record { come_down = λ k d lt. absurd (omega arith); named = λ k d lt. absurd (omega arith); stands = omega arith; few = omega arith };
    },
    (tt, (tt, tt)),
  ),
)

abbrev delivery : Delivery
delivery = record { interims = []; head = Some head; body = codes "hi"; ends = Some [] }

section : IsSection fields head
section = record { digits = codes "200"; is = refl; three = refl; are_digits = refl; status = refl; no_other = refl }

client_reads : ReadsAs (items_on 1 (sent tape)) delivery
client_reads = record {
  interim_items = [];
  rest = Block fields false ∷ Content (codes "hi") true ∷ [];
  is = refl;
  interims = tt;
  answer = (section, omega arith, (refl, refl, refl));
}

offered : IsOffered known tape 1 delivery
unfolding total_size
offered = inr (record {
  no_reply = inl refl;
  o = record { k = 1; route = 0; stream = 1 };
  given = record { is_opened = inl refl; is_given = refl };
  shows = inl (record { response = response; is_whole = answered; says = refl });
})

delivered_first : IsDelivered known tape 1
delivered_first = record {
  delivery = delivery;
  reads = client_reads;
  offered = inr (record {
    later = [];
    earlier = tape;
    is = refl;
    no_more = refl;
    source = delivery;
    offered = offered;
    part = record { interims = refl; head_is = refl; body = record { rest = []; is = refl }; ended = λ trailers e. (e, refl) };
  });
}

-- what the frames bring a stream, by whether it is stream 0 and whether it is stream 1
abbrev shape : Bool → Bool → List Item
shape of_all of_first =
    ((([] ++ (if of_all then [] else [])) ++ (if of_all then [] else [])) ++ (if of_first then Block fields false ∷ [] else []))
    ++ (if of_first then Content (codes "hi") true ∷ [] else [])

shape_beside : (of_all : Bool) → shape of_all false ≡ []
shape_beside true = refl
shape_beside false = refl

delivered : (stream : ℕ) → IsDelivered known tape stream
delivered stream = elim (eqb_tells 1 stream) [
  | inl same ↦ subst (λ s. IsDelivered known tape s) same.1 delivered_first
  | inr apart ↦ (let none : items_on stream (sent tape) ≡ [] = ap (λ b. shape (0 == stream) b) apart.0 ∙ shape_beside (0 == stream) in
      none_read tape stream none)
]

responses : ResponsesHold known tape
responses = record {
  table = first_table;
  decodes = sent_now;
  decoded = refl;
  together = (refl, (refl, (refl, (refl, tt))));
  none_begun = refl;
  limits = limits;
  delivered = delivered;
}

-- ---- the other clauses

means : H2Request (items known 1 tape) request
unfolding total_size
means = record { head = first.head; has_head = refl; well_formed = well_formed; no_connect = refl; contents = tt; ends = refl; length_holds = tt; is = refl }

sends : H1Requests (sent_up 1 tape) (forward request ∷ []) []
sends = record { front = text; is = refl; are_requests = first.reads; no_more = nothing_begins_none }

served : IsServed known tape (record { k = 1; route = 0; stream = 1 })
unfolding total_size
served = record {
  head = first.head;
  has_head = refl;
  well_formed = well_formed;
  by_route = before.by_route;
}

sent_whole : IsSent known tape (record { k = 1; route = 0; stream = 1 } ∷ []) (sent_up 1 tape)
sent_whole = inl (sent_alone known tape (record { k = 1; route = 0; stream = 1 }) (sent_up 1 tape) request refl means sends)

all_sent : (o : Opened) → IsIn o (opens tape) → IsSent known tape (exchanges_of o.k (exchanges tape)) (sent_up o.k tape)
all_sent o (inl same) = subst (λ (p : Opened). IsSent known tape (exchanges_of p.k (exchanges tape)) (sent_up p.k tape)) (sym same) sent_whole
all_sent o (inr none) = absurd none

all_served : (o : Opened) → IsIn o (exchanges tape) → IsServed known tape o
all_served o (inl same) = subst (λ p. IsServed known tape p) (sym same) served
all_served o (inr none) = absurd none

all_spelled : (o : Opened) → IsIn o (exchanges tape) → IsSpelled false (items known o.stream tape) (sent_for o tape)
unfolding total_size
all_spelled o (inl same) =
    subst (λ (p : Opened). IsSpelled false (items known p.stream tape) (sent_for p tape)) (sym same) (bare_spelled false (Block first.head true ∷ []) first.head text refl refl refl)
all_spelled o (inr none) = absurd none

requests : RequestsHold known tape
requests = record { numbered = (refl, tt); apart = (tt, tt); in_time = before.requests.in_time; served = all_served; sent = all_sent; spelled = all_spelled }

nothing_beside : (of_first : Bool) → of_first ≡ false → (if of_first then Block first.head true ∷ [] else []) ≡ []
nothing_beside of_first e = ap (λ b. if b then Block first.head true ∷ [] else []) e

brings_none : (stream : ℕ) → (1 == stream) ≡ false → BringNone stream tape
brings_none stream apart = (refl, (refl, (refl, (refl, (refl, (refl, (nothing_beside (1 == stream) apart, (refl, (nothing_either (0 == stream), (refl, tt))))))))))

forwarded_first : (r : Request) → H2Request (items known 1 tape) r → IsForwarded tape 1 r
forwarded_first r m =
    subst (λ (x : Request). IsForwarded tape 1 x) (one_meaning (items known 1 tape) request r means m) (record {
      o = record { k = 1; route = 0; stream = 1 };
      given = record { is_opened = inl refl; is_given = refl };
      reads = sends;
    })

forwarded : AllForwarded known tape
forwarded stream r place m routed cut = elim (eqb_tells 1 stream) [
  | inl same ↦ subst (λ s. IsForwarded tape s r) same.1 (forwarded_first r (subst (λ s. H2Request (items known s tape) r) (sym same.1) m))
  | inr apart ↦ absurd (no_request (items known stream tape) r (no_items known stream tape (brings_none stream apart.0)) m)
]

-- stream 1 was ended by both sides, and no other was opened
none_active : (stream : ℕ) → is_active stream tape ≡ true → ⊥
none_active stream on = elim (eqb_tells 1 stream) [
  | inl same ↦ (let off : is_active 1 tape ≡ true = subst (λ s. is_active s tape ≡ true) (sym same.1) on in let clash : false ≡ true = off in cc)
  | inr apart ↦ (let off : is_active stream tape ≡ false = ap (λ b. (b || false) && not (is_over stream tape)) apart.0 in let clash : false ≡ true = sym off ∙ on in cc)
]

-- the one connection is closed
all_closed : AreClosed known tape
all_closed k on reason = absurd (none_open (k == 1) on)
  where
    none_open : (first : Bool) → (if first then false else (if first then true else false)) ≡ true → ⊥
    none_open true e = let clash : false ≡ true = e in cc
    none_open false e = let clash : false ≡ true = e in cc

progress : ProgressHolds known tape
progress = record {
  forwarded = forwarded;
  streamed = not_streaming;
  none_ready = λ room stream ready. none_active stream ready.is_active;
  closed = all_closed;
  closes = (record { was_open = refl; reason = Over refl; not_kept = λ kept. absurd (let clash : false ≡ true = kept.keeps in cc) }, tt);
  few_idle = few_kept known tape refl;
  go_to_open = (refl, tt);
}

errors : ErrorsHold known tape
unfolding total_size
errors = record {
  begins = (content.frame ∷ headers.frame ∷ settings_ack ∷ [], refl);
  just_owed = refl;
  followed = (
    inl (content.frame ∷ headers.frame ∷ [], refl),
    (
      inl (content.frame ∷ headers.frame ∷ [], refl),
      (
        inl (content.frame ∷ headers.frame ∷ [], refl),
        (
          inl (content.frame ∷ headers.frame ∷ [], refl),
          (inl (content.frame ∷ headers.frame ∷ [], refl), (inl (content.frame ∷ headers.frame ∷ settings_ack ∷ [], refl), tt)),
        ),
      ),
    ),
  );
  goaway_first = (refl, (refl, (refl, tt)));
  rightly_sent = (refl, (refl, (refl, (refl, tt))));
  calm = (record { uncrowded = λ so. absurd (let no : false ≡ true = so in cc); in_place = λ so. absurd (let no : false ≡ true = so in cc) }, (record { uncrowded = λ so. absurd (let no : false ≡ true = so in cc); in_place = λ so. absurd (let no : false ≡ true = so in cc) }, (record { uncrowded = λ so. absurd (let no : false ≡ true = so in cc); in_place = λ so. absurd (let no : false ≡ true = so in cc) }, (record { uncrowded = λ so. absurd (let no : false ≡ true = so in cc); in_place = λ so. absurd (let no : false ≡ true = so in cc) }, tt))));
  closed = refl;
  in_time = (refl, (refl, (refl, tt)));
}

windows : WindowsHold known tape
windows = record {
  keeps = (
    λ kind some. record { own = omega arith; shared = omega arith },
    (
      λ kind some. absurd (omega (arith, kind)),
      (λ kind some. absurd (omega (arith, kind)), (λ kind some. absurd (omega (arith, kind)), tt)),
    ),
  );
  no_more = (
    λ kind. absurd (omega (arith, kind)),
    (λ kind. absurd (omega (arith, kind)), (λ kind. absurd (omega (arith, kind)), (λ kind. absurd (omega (arith, kind)), tt))),
  );
  holds_back = λ stream counted. omega arith;
  gives_back = λ on. record { shared = refl; own = λ stream on unended. refl };
}

-- ---- the log

abbrev answer_step : Step
answer_step = record {
  event = Up 1 answer;
  outputs = Does (Close 1) ∷ ToClient (spell headers.frame ++ spell content.frame) ∷ [];
}

content_fits : Fits content.frame
content_fits = record { kind = omega arith; flags = omega arith; id = omega arith; payload = omega arith }

headers_fits : Fits headers.frame
headers_fits = record { kind = omega arith; flags = omega arith; id = omega arith; payload = omega arith }

not_long : IsTooLong known answer false → ⊥
not_long long = at long.head long.seen
  where
    at : (found : Option Head) → Seen answer false long.interims found long.octets → ⊥
    at None seen = let none : 1000 < 0 = subst (λ (x : List ℕ). 1000 < length x) seen.1 long.over in omega (arith, none)
    at (Some h) seen =
        let same = one_framing seen.front seen.head_text seen.rest long.interims h seen.framing seen.are_interims seen.is_final seen.is in
        let two : long.octets ≡ take 2 seen.rest = subst (λ f. StandsIn f seen.rest long.octets) same.0 seen.body in
        let few : length (take 2 seen.rest) ≤ 2 = subst (λ (x : List ℕ). length (take 2 x) ≤ 2) (sym same.1) (omega arith) in
        let over : 1000 < length (take 2 seen.rest) = subst (λ (x : List ℕ). 1000 < length x) two long.over in
        omega (arith, few, over)

-- the answer is whole, so it may not be given up
not_failed : MustFail known first.tape (Up 1 answer) → ⊥
unfolding total_size
not_failed (inl plain) = not_plain plain
not_failed (inr long) = not_long long

told : IsTold known (preface ++ spell first.settings ++ spell first.headers) tape
told = record {
  read = inr (inr (record { behind = spell first.settings ++ spell first.headers; rest = []; begins = refl; reading = first.reading; breach = inl refl; no_more = λ on. (first.no_frame, λ long. absurd (let nine = long.header in omega (arith, nine))) }));
  table = first_table;
  decodes = first.decodes;
  others_are_read = (refl, (refl, tt));
  failures = (not_failed, tt);
  ends = (refl, (refl, (refl, (refl, first.ends))));
}

taped : IsTaped known (first.step ∷ []) answer_step first.tape segment
taped = record {
  admitted = record { in_order = refl; fits = λ count room. subst (λ n. length answer ≤ n) (sym room) (omega arith) };
  step_is = record { spelled = (content_fits, (headers_fits, tt)); put_out = refl; event = refl; acts_follow = refl };
  told = told;
  in_turn = (before.clauses, before.in_turn);
  clauses = record { requests = requests; responses = responses; errors = errors; progress = progress; windows = windows; floods = (λ so. absurd (let no : false ≡ true = so in cc), (λ so. absurd (let no : false ≡ true = so in cc), (λ so. absurd (let no : false ≡ true = so in cc), (λ so. absurd (let no : false ≡ true = so in cc), tt)))) };
}

pub answered_log : Headline setup (first.step ∷ answer_step ∷ [])
answered_log = record { known = known; of_setup = refl; tape = tape; has_tape = (segment, first.tape, refl, taped, (first.tape, [], refl, before.taped, refl)) }
