-- The log of a first request keeps the headline: that of `FirstLog`, with its tape.
use Rattle.std.proofs.Common.{◌≡◌, ℕ, true, false, not, ◌&&◌, ◌||◌, ◌==◌, [], ◌∷◌, ◌++◌, refl, sym, ap, ◌∙◌, subst, inl, inr, arith, if◌then◌else◌}
use Rattle.std.specs.Prelude.{Option, Some, None, codes}
use Rattle.std.proofs.lemmas.Bool.Decides.{eqb_tells}
use Rattle.model.specs.Messages.{Request}
use Rattle.model.specs.Messages.Item.{Block}
use Rattle.model.specs.Tables.{total_size, first_table}
use Rattle.model.specs.Frames.{preface, spell, settings_ack}
use Rattle.model.specs.Http2.{H2Request}
use Rattle.model.specs.Setup.{IsFirstMatch}
use Rattle.model.specs.Setup.Passing.{Whole}
use Rattle.model.specs.Tapes.{sent_up}
use Rattle.model.specs.Openings.{Opened, opens, exchanges, exchanges_of, exchange_on, sent_for}
use Rattle.model.proofs.ExchangeLaws.{no_idle, few_kept}
use Rattle.model.proofs.OpenLaws.{sent_alone}
use Rattle.model.specs.Deliveries.{Delivery}
use Rattle.model.specs.Available.{heard_by, ended_by, IsIn, IsShown}
use Rattle.model.specs.Lifetimes.{is_active, is_over}
use Rattle.model.specs.Causes.{Cause}
use Rattle.model.specs.Courses.{items}
use Rattle.model.specs.Offers.{is_to_head, IsOffered}
use Rattle.model.specs.Spelling.{IsSpelled}
use Rattle.model.specs.RequestClause.{IsServed, IsSent, BeginInTime, RequestsHold}
use Rattle.model_examples.proofs.SpellingLaws.{bare_spelled}
use Rattle.model.specs.ResponseClause.{ResponsesHold}
use Rattle.model.specs.ErrorClause.{ErrorsHold}
use Rattle.model.specs.ProgressClause.{AllForwarded, AllStreamed, NoneReady, Reason, AreClosed, ProgressHolds, IsForwarded}
use Rattle.model.specs.ProgressClause.Reason.{Over, Complete, Answered, ClientClosed}
use Rattle.model.specs.WindowClause.{WindowsHold}
use Rattle.model.specs.Headline.{ClausesHold, HoldsInTurn, IsTold, IsTaped, Headline}
use Rattle.model.proofs.FirstLog as first
use Rattle.model.proofs.FirstLog.{setup, head, text, step, tape, request, decodes, well_formed, reads, nothing_begins_none, nothing_on, settings_fits, ack_fits}
use Rattle.model_examples.proofs.BeginningExamples.{known, not_streaming, no_request, nothing_either, none_read, settled_holds, settled_in_turn}
use Rattle.model.proofs.Http2Readings.{one_meaning}
use Rattle.model.proofs.OfferLemmas.{OffersNothing, nothing_begun, nothing_offered, nothing_complete, nothing_goes, BringNone, no_items}

-- ---- requests

pub means : H2Request (items known 1 tape) request
unfolding total_size
means = record { head = head; has_head = refl; well_formed = well_formed; no_connect = refl; contents = tt; ends = refl; length_holds = tt; is = refl }

pub by_route : IsFirstMatch setup.routes (codes "a") (codes "/") 0
by_route = record { route = record { authority = []; path = codes "/" }; found = refl; matches = (inl refl, inl (record { rest = []; is = refl })); none_before = λ earlier before. absurd (omega (arith, before)) }

served : IsServed known tape (record { k = 1; route = 0; stream = 1 })
unfolding total_size
served = record {
  head = head;
  has_head = refl;
  well_formed = well_formed;
  by_route = by_route;
}

sent_whole : IsSent known tape (record { k = 1; route = 0; stream = 1 } ∷ []) text
sent_whole = inl (sent_alone known tape (record { k = 1; route = 0; stream = 1 }) text request refl means (record { front = text; is = refl; are_requests = reads; no_more = nothing_begins_none }))

all_sent : (o : Opened) → IsIn o (opens tape) → IsSent known tape (exchanges_of o.k (exchanges tape)) (sent_up o.k tape)
all_sent o (inl same) = subst (λ (p : Opened). IsSent known tape (exchanges_of p.k (exchanges tape)) (sent_up p.k tape)) (sym same) sent_whole
all_sent o (inr none) = absurd none

all_served : (o : Opened) → IsIn o (exchanges tape) → IsServed known tape o
all_served o (inl same) = subst (λ p. IsServed known tape p) (sym same) served
all_served o (inr none) = absurd none

in_time : BeginInTime known tape
unfolding total_size
in_time = (tt, (record { active = refl; no_cause = refl; goes_on = refl; whole = λ passing. refl }, λ j idle route. no_idle known _ j refl idle, tt))

all_spelled : (o : Opened) → IsIn o (exchanges tape) → IsSpelled false (items known o.stream tape) (sent_for o tape)
unfolding total_size
all_spelled o (inl same) =
    subst (λ (p : Opened). IsSpelled false (items known p.stream tape) (sent_for p tape)) (sym same) (bare_spelled false (Block head true ∷ []) head text refl refl refl)
all_spelled o (inr none) = absurd none

pub requests : RequestsHold known tape
requests = record { numbered = (refl, tt); apart = (tt, tt); in_time = in_time; served = all_served; sent = all_sent; spelled = all_spelled }

-- ---- streams beside the first

brings_none : (stream : ℕ) → (1 == stream) ≡ false → BringNone stream tape
brings_none stream apart = (refl, (refl, (ap (λ b. if b then Block head true ∷ [] else []) apart, (refl, (nothing_either (0 == stream), (refl, tt))))))

pub not_active : (stream : ℕ) → (1 == stream) ≡ false → is_active stream tape ≡ true → ⊥
not_active stream apart on = let off : is_active stream tape ≡ false = ap (λ b. (b || false) && not (is_over stream tape)) apart in let clash : false ≡ true = sym off ∙ on in cc

-- ---- progress

forwarded_first : (r : Request) → H2Request (items known 1 tape) r → IsForwarded tape 1 r
forwarded_first r m =
    subst (λ (x : Request). IsForwarded tape 1 x) (one_meaning (items known 1 tape) request r means m) (record {
      o = record { k = 1; route = 0; stream = 1 };
      given = record { is_opened = inl refl; is_given = refl };
      reads = record { front = text; is = refl; are_requests = reads; no_more = nothing_begins_none };
    })

forwarded : AllForwarded known tape
forwarded stream r place m routed cut = elim (eqb_tells 1 stream) [
  | inl same ↦ subst (λ s. IsForwarded tape s r) same.1 (forwarded_first r (subst (λ s. H2Request (items known s tape) r) (sym same.1) m))
  | inr apart ↦ absurd (no_request (items known stream tape) r (no_items known stream tape (brings_none stream apart.0)) m)
]

streamed : AllStreamed known tape
streamed = not_streaming

-- nothing was heard of the one connection
none_offered : (delivery : Delivery) → IsOffered known tape 1 delivery → OffersNothing delivery
unfolding total_size
none_offered delivery (inl replied) = let clash : ◌≡◌ {A = Option Cause} None (Some replied.cause) = replied.has_cause in cc
none_offered delivery (inr passed) = of_opened passed.given.is_opened
  where
    answers : IsShown Whole [] false false delivery → OffersNothing delivery
    answers (inl all) = nothing_offered false false delivery all
    answers (inr part) = nothing_begun Whole false false delivery part

    of_opened : IsIn passed.o (exchanges tape) → OffersNothing delivery
    of_opened (inl same) = answers (subst (λ (o : Opened). IsShown Whole (heard_by o tape) (ended_by o tape) (is_to_head (items known 1 tape)) delivery) same passed.shows)
    of_opened (inr none) = absurd none

none_ready : NoneReady known tape
none_ready room stream ready = elim (eqb_tells 1 stream) [
  | inl same ↦ nothing_goes tape stream ready.read ready.offered (none_offered ready.offered (subst (λ s. IsOffered known tape s ready.offered) (sym same.1) ready.is_offered)) ready.can_go
  | inr apart ↦ not_active stream apart.0 ready.is_active
]

no_reason : Reason known tape (record { k = 1; route = 0; stream = 1 }) → ⊥
unfolding total_size
no_reason (Over e) = let clash : true ≡ false = e in cc
no_reason (Complete whole) = nothing_complete false false whole
no_reason (Answered found e) = let clash : ◌≡◌ {A = Option Cause} None (Some found) = e in cc
no_reason (ClientClosed e) = let clash : false ≡ true = e in cc

all_closed : AreClosed known tape
all_closed k on reason = elim (eqb_tells k 1) [
  | inl same ↦ absurd (no_reason (subst (λ n. Reason known tape (exchange_on n tape)) same.1 reason))
  | inr apart ↦ absurd (let clash : false ≡ true = sym (ap (λ b. if b then true else false) apart.0) ∙ on in cc)
]

progress : ProgressHolds known tape
progress = record {
  forwarded = forwarded;
  streamed = streamed;
  none_ready = none_ready;
  closed = all_closed;
  closes = tt;
  few_idle = few_kept known tape refl;
  go_to_open = (refl, tt);
}

-- ---- responses

pub responses : ResponsesHold known tape
responses = record {
  table = first_table;
  decodes = (first_table, (first_table, refl, (refl, refl), refl), (refl, refl), refl);
  decoded = refl;
  together = (refl, (refl, tt));
  none_begun = refl;
  limits = (tt, (tt, tt));
  delivered = λ stream. none_read tape stream (nothing_on stream);
}

-- ---- errors and windows

errors : ErrorsHold known tape
unfolding total_size
errors = record {
  begins = (settings_ack ∷ [], refl);
  just_owed = refl;
  followed = (inl ([], refl), (inl ([], refl), (inl ([], refl), (inl (settings_ack ∷ [], refl), tt))));
  goaway_first = (refl, (refl, tt));
  rightly_sent = (refl, (refl, tt));
  calm = (record { uncrowded = λ so. absurd (let no : false ≡ true = so in cc); in_place = λ so. absurd (let no : false ≡ true = so in cc) }, (record { uncrowded = λ so. absurd (let no : false ≡ true = so in cc); in_place = λ so. absurd (let no : false ≡ true = so in cc) }, tt));
  closed = refl;
  in_time = (refl, (refl, tt));
}

windows : WindowsHold known tape
windows = record {
  keeps = (λ kind some. absurd (omega (arith, kind)), (λ kind some. absurd (omega (arith, kind)), tt));
  no_more = (λ kind. absurd (omega (arith, kind)), (λ kind. absurd (omega (arith, kind)), tt));
  holds_back = λ stream counted. omega arith;
  gives_back = λ on. record { shared = refl; own = λ stream on unended. refl };
}

-- ---- the log

told : IsTold known (preface ++ spell first.settings ++ spell first.headers) tape
told = record {
  read = first.read;
  table = first_table;
  decodes = decodes;
  others_are_read = (refl, (refl, tt));
  failures = tt;
  ends = first.ends;
}

pub clauses : ClausesHold known tape
clauses = record { requests = requests; responses = responses; errors = errors; progress = progress; windows = windows; floods = (λ so. absurd (let no : false ≡ true = so in cc), (λ so. absurd (let no : false ≡ true = so in cc), tt)) }

pub in_turn : HoldsInTurn (ClausesHold known) tape
in_turn = (settled_holds, settled_in_turn)

pub taped : IsTaped known [] step [] tape
taped = record {
  admitted = record { in_order = refl; fits = tt };
  step_is = record { spelled = (ack_fits, (settings_fits, tt)); put_out = refl; event = refl; acts_follow = tt };
  told = told;
  in_turn = in_turn;
  clauses = clauses;
}

pub first_log : Headline setup (step ∷ [])
first_log = record { known = known; of_setup = refl; tape = tape; has_tape = (tape, [], refl, taped, refl) }
