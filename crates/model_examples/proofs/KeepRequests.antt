-- The clause on requests where two of them go on one connection, and a third on another.
use Rattle.std.proofs.Common.{◌≡◌, true, [], ◌∷◌, ◌++◌, refl, sym, subst, inl, inr, arith}
use Rattle.std.specs.Prelude.{codes}
use Rattle.std.proofs.lemmas.Bool.{false≢true}
use Rattle.model.specs.Tables.{total_size}
use Rattle.model.specs.Messages.Item.{Block}
use Rattle.model.specs.Octets.{Joined}
use Rattle.model.specs.Http1.{H1Open, forward}
use Rattle.model.specs.Http2.{HasHead, WellFormedHead, H2Request}
use Rattle.model.specs.Setup.{IsFirstMatch}
use Rattle.model.specs.Tapes.{sent_up}
use Rattle.model.specs.Openings.{Opened, opens, exchanges, exchanges_of, sent_for}
use Rattle.model.specs.Available.{IsIn}
use Rattle.model.specs.Courses.{items}
use Rattle.model.specs.Spelling.{IsSpelled}
use Rattle.model.specs.RequestClause.{IsServed, ReadsAsAll, IsSent, RequestsHold}
use Rattle.model_examples.proofs.SpellingLaws.{bare_spelled}
use Rattle.model.proofs.FirstLog.{nothing_begins_none}
use Rattle.model.proofs.OpenLaws.{behind_open, joined_open}
use Rattle.model_examples.proofs.RowTapes.{get}
use Rattle.model_examples.proofs.KeepExamples.{keeping, by_keeping, getk, exchange, request, opens_for_more, third_got}
use Rattle.model_examples.proofs.KeepPool.{all_in_time}

-- ---- what the streams mean

get_holds : WellFormedHead get
get_holds = record {
  pseudo_fields_hold = record {
    first = refl;
    known = refl;
    method = refl;
    scheme = refl;
    path = refl;
    one_authority = omega arith;
    connect_authority = λ e. absurd (false≢true e);
  };
  names_hold = refl;
  values_hold = refl;
  no_connection_field = refl;
  te_holds = refl;
  method_holds = refl;
  scheme_holds = refl;
  path_holds = refl;
  authority_holds = record { one_host = omega arith; octets = refl; same = refl };
  length_holds = record { one = omega arith; digits = refl };
}

first_means : H2Request (items by_keeping 1 third_got) request
unfolding total_size
first_means = record { head = get; has_head = refl; well_formed = get_holds; no_connect = refl; contents = tt; ends = refl; length_holds = tt; is = refl }

second_means : H2Request (items by_keeping 3 third_got) request
unfolding total_size
second_means = record { head = get; has_head = refl; well_formed = get_holds; no_connect = refl; contents = tt; ends = refl; length_holds = tt; is = refl }

third_means : H2Request (items by_keeping 5 third_got) request
unfolding total_size
third_means = record { head = get; has_head = refl; well_formed = get_holds; no_connect = refl; contents = tt; ends = refl; length_holds = tt; is = refl }

by_route : IsFirstMatch keeping.routes (codes "www.example.com") (codes "/") 0
by_route = record {
  route = record { authority = []; path = codes "/" };
  found = refl;
  matches = (inl refl, inl (record { rest = []; is = refl }));
  none_before = λ earlier before. absurd (omega (arith, before));
}

-- ---- what the connections were sent

one_joined : Joined H1Open getk (forward request ∷ [])
one_joined = (getk, [], opens_for_more, refl, refl)

-- one request, and behind it another may stand
one_read : ReadsAsAll by_keeping getk (request ∷ [])
one_read = record {
  reads = record { front = getk; is = refl; are_requests = opens_for_more.reads; no_more = nothing_begins_none };
  stay_open = λ keep. one_joined;
}

-- two, one behind the other
both_read : ReadsAsAll by_keeping (getk ++ getk) (request ∷ request ∷ [])
both_read = record {
  reads = record {
    front = getk ++ getk;
    is = refl;
    are_requests = behind_open getk getk (forward request ∷ []) (forward request ∷ []) one_joined opens_for_more.reads;
    no_more = nothing_begins_none;
  };
  stay_open = λ keep. joined_open getk getk (forward request ∷ []) (forward request ∷ []) one_joined one_joined;
}

pub both_sent : IsSent by_keeping third_got (exchange 1 3 ∷ exchange 1 1 ∷ []) (getk ++ getk)
both_sent = inl (record { requests = request ∷ request ∷ []; mean = (second_means, (first_means, tt)); all = both_read })

pub third_sent : IsSent by_keeping third_got (exchange 2 5 ∷ []) getk
third_sent = inl (record { requests = request ∷ []; mean = (third_means, tt); all = one_read })

-- ---- the clause

abbrev IsSentTo : Opened → Type 0
IsSentTo o = IsSent by_keeping third_got (exchanges_of o.k (exchanges third_got)) (sent_up o.k third_got)

all_sent : (o : Opened) → IsIn o (opens third_got) → IsSentTo o
all_sent o (inl same) = subst IsSentTo (sym same) third_sent
all_sent o (inr (inl same)) = subst IsSentTo (sym same) both_sent
all_sent o (inr (inr none)) = absurd none

served : (o : Opened) → HasHead (items by_keeping o.stream third_got) get → o.route ≡ 0 → IsServed by_keeping third_got o
served o has first = record {
  head = get;
  has_head = has;
  well_formed = get_holds;
  by_route = subst (IsFirstMatch keeping.routes (codes "www.example.com") (codes "/")) (sym first) by_route;
}

all_served : (o : Opened) → IsIn o (exchanges third_got) → IsServed by_keeping third_got o
unfolding total_size
all_served o (inl same) = subst (IsServed by_keeping third_got) (sym same) (served (exchange 2 5) refl refl)
all_served o (inr (inl same)) = subst (IsServed by_keeping third_got) (sym same) (served (exchange 1 3) refl refl)
all_served o (inr (inr (inl same))) = subst (IsServed by_keeping third_got) (sym same) (served (exchange 1 1) refl refl)
all_served o (inr (inr (inr none))) = absurd none

spelled : (o : Opened) → items by_keeping o.stream third_got ≡ Block get true ∷ [] → sent_for o third_got ≡ getk → IsSpelled true (items by_keeping o.stream third_got) (sent_for o third_got)
spelled o items_are text_is = subst (IsSpelled true (items by_keeping o.stream third_got)) (sym text_is) (bare_spelled true (items by_keeping o.stream third_got) get getk items_are refl refl)

all_spelled : (o : Opened) → IsIn o (exchanges third_got) → IsSpelled true (items by_keeping o.stream third_got) (sent_for o third_got)
unfolding total_size
all_spelled o (inl same) = subst (λ (p : Opened). IsSpelled true (items by_keeping p.stream third_got) (sent_for p third_got)) (sym same) (spelled (exchange 2 5) refl refl)
all_spelled o (inr (inl same)) = subst (λ (p : Opened). IsSpelled true (items by_keeping p.stream third_got) (sent_for p third_got)) (sym same) (spelled (exchange 1 3) refl refl)
all_spelled o (inr (inr (inl same))) = subst (λ (p : Opened). IsSpelled true (items by_keeping p.stream third_got) (sent_for p third_got)) (sym same) (spelled (exchange 1 1) refl refl)
all_spelled o (inr (inr (inr none))) = absurd none

-- The row of three requests on two connections keeps the clause.
pub requests_hold : RequestsHold by_keeping third_got
requests_hold = record {
  numbered = (refl, (refl, tt));
  apart = (
    (λ e. absurd (omega (arith, e)), (λ e. absurd (omega (arith, e)), tt)),
    ((λ e. absurd (omega (arith, e)), tt), (tt, tt)),
  );
  in_time = all_in_time;
  served = all_served;
  sent = all_sent;
  spelled = all_spelled;
}
