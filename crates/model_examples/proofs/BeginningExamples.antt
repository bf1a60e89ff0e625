-- Before the first request the clauses hold: behind the gateway's settings, and once the client's are acknowledged.
use Rattle.std.proofs.Common.{◌≡◌, ℕ, Bool, false, true, ◌==◌, if◌then◌else◌, List, [], ◌∷◌, refl, sym, subst, inl, arith}
use Rattle.model.specs.Messages.{Item, Request}
use Rattle.model.specs.Tables.{total_size, first_table}
use Rattle.model.specs.Frames.{settings_frame, settings_ack}
use Rattle.model.specs.Http2.{H2Request}
use Rattle.model.specs.Setup.Passing.{Whole, Streaming}
use Rattle.model.specs.Tapes.{Entry, sent}
use Rattle.model.specs.Tapes.Note.{NoBlock}
use Rattle.model.specs.Tapes.Entry.{Came, Sent}
use Rattle.model.specs.Deliveries.{nothing, ReadsAs}
use Rattle.model.specs.Available.{items_on}
use Rattle.model.specs.Known.{Known}
use Rattle.model.specs.Courses.{items}
use Rattle.model.specs.Offers.{IsDelivered}
use Rattle.model.specs.ProgressClause.{AllForwarded, AllStreamed}
use Rattle.model.proofs.ExchangeLaws.{few_kept}
use Rattle.model.specs.Headline.{ClausesHold, HoldsInTurn}
use Rattle.model.proofs.FirstLog.{setup, settings_came, nothing_on}
use Rattle.model.proofs.OfferLemmas.{no_items}

abbrev pub known : Known
known = record { setup = setup; failures = [] }

-- the gateway's settings were sent
abbrev pub greeted : List Entry
greeted = Sent (record { frame = settings_frame 0; note = NoBlock }) ∷ []

-- the client's came and were acknowledged
abbrev pub settled : List Entry
settled = Sent (record { frame = settings_ack; note = NoBlock }) ∷ Came settings_came ∷ greeted

-- whole requests are passed on
pub not_streaming : {t : List Entry} → AllStreamed known t
not_streaming passing = let clash : Whole ≡ Streaming = passing in cc

pub no_request : (list : List Item) (r : Request) → list ≡ [] → H2Request list r → ⊥
no_request [] r e m = m.has_head
no_request (item ∷ list) r e m = cc

-- an item list for stream 0 or another, without items
pub nothing_either : (b : Bool) → (if b then (let none : List Item = [] in none) else []) ≡ []
nothing_either true = refl
nothing_either false = refl

-- nothing was read on a stream
pub none_read : (t : List Entry) (stream : ℕ) → items_on stream (sent t) ≡ [] → IsDelivered known t stream
none_read t stream none = record {
  delivery = nothing;
  reads = subst (λ x. ReadsAs x nothing) (sym none) (record { interim_items = []; rest = []; is = refl; interims = tt; answer = (refl, refl, refl) });
  offered = inl refl;
}

-- ---- behind the gateway's settings

greeted_forwarded : AllForwarded known greeted
greeted_forwarded stream r place m routed cut = absurd (no_request (items known stream greeted) r (no_items known stream greeted (refl, tt)) m)

pub greeted_holds : ClausesHold known greeted
unfolding total_size
greeted_holds = record {
  requests = record { numbered = tt; apart = tt; in_time = tt; served = λ o i. absurd i; sent = λ o i. absurd i; spelled = λ o i. absurd i };
  responses = record {
    table = first_table;
    decodes = (first_table, refl, (refl, refl), refl);
    decoded = refl;
    together = (refl, tt);
    none_begun = refl;
    limits = (tt, tt);
    delivered = λ stream. none_read greeted stream (nothing_either (0 == stream));
  };
  errors = record { begins = ([], refl); just_owed = refl; followed = tt; goaway_first = tt; rightly_sent = (refl, tt); calm = (record { uncrowded = λ so. absurd (let no : false ≡ true = so in cc); in_place = λ so. absurd (let no : false ≡ true = so in cc) }, tt); closed = refl; in_time = tt };
  progress = record {
    forwarded = greeted_forwarded;
    streamed = not_streaming;
    none_ready = λ room stream ready. let clash : false ≡ true = ready.is_active in cc;
    closed = λ k on reason. absurd (let clash : false ≡ true = on in cc);
    closes = tt;
    few_idle = few_kept known greeted refl;
    go_to_open = tt;
  };
  windows = record { keeps = (λ kind some. absurd (omega (arith, kind)), tt); no_more = (λ kind. absurd (omega (arith, kind)), tt); holds_back = λ stream counted. omega arith; gives_back = λ on. record { shared = refl; own = λ stream on unended. refl } };
  floods = (λ so. absurd (let no : false ≡ true = so in cc), tt);
}

-- ---- behind the client's

settled_forwarded : AllForwarded known settled
settled_forwarded stream r place m routed cut = absurd (no_request (items known stream settled) r (no_items known stream settled (refl, (nothing_either (0 == stream), (refl, tt)))) m)

pub settled_holds : ClausesHold known settled
unfolding total_size
settled_holds = record {
  requests = record { numbered = tt; apart = tt; in_time = tt; served = λ o i. absurd i; sent = λ o i. absurd i; spelled = λ o i. absurd i };
  responses = record {
    table = first_table;
    decodes = (first_table, (first_table, refl, (refl, refl), refl), (refl, refl), refl);
    decoded = refl;
    together = (refl, (refl, tt));
    none_begun = refl;
    limits = (tt, (tt, tt));
    delivered = λ stream. none_read settled stream (nothing_on stream);
  };
  errors = record {
    begins = (settings_ack ∷ [], refl);
    just_owed = refl;
    followed = (inl (settings_ack ∷ [], refl), tt);
    goaway_first = tt;
    rightly_sent = (refl, (refl, tt));
    calm = (record { uncrowded = λ so. absurd (let no : false ≡ true = so in cc); in_place = λ so. absurd (let no : false ≡ true = so in cc) }, (record { uncrowded = λ so. absurd (let no : false ≡ true = so in cc); in_place = λ so. absurd (let no : false ≡ true = so in cc) }, tt));
    closed = refl;
    in_time = (refl, tt);
  };
  progress = record {
    forwarded = settled_forwarded;
    streamed = not_streaming;
    none_ready = λ room stream ready. let clash : false ≡ true = ready.is_active in cc;
    closed = λ k on reason. absurd (let clash : false ≡ true = on in cc);
    closes = tt;
    few_idle = few_kept known settled refl;
    go_to_open = tt;
  };
  windows = record {
    keeps = (λ kind some. absurd (omega (arith, kind)), (λ kind some. absurd (omega (arith, kind)), tt));
    no_more = (λ kind. absurd (omega (arith, kind)), (λ kind. absurd (omega (arith, kind)), tt));
    holds_back = λ stream counted. omega arith;
    gives_back = λ on. record { shared = refl; own = λ stream on unended. refl };
  };
  floods = (λ so. absurd (let no : false ≡ true = so in cc), (λ so. absurd (let no : false ≡ true = so in cc), tt));
}

-- so they do before the client's settings, and before its first request
pub settled_in_turn : HoldsInTurn (ClausesHold known) settled
settled_in_turn = (greeted_holds, tt)
