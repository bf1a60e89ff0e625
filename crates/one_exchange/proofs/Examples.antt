-- A tape on which no connection is kept, with a request on its one connection; and why each premise is needed.
use Rattle.std.proofs.Common.{◌≡◌, ℕ, false, true, [], ◌∷◌, List, refl, sym, subst, inl, inr, arith}
use Rattle.std.specs.Prelude.{codes}
use Rattle.model.specs.Tables.{total_size}
use Rattle.model.specs.Logs.Event.{Up}
use Rattle.model.specs.Logs.Act.{Open, ToUp}
use Rattle.model.specs.Http2.{H2Request}
use Rattle.model.specs.Setup.{IsFirstMatch}
use Rattle.model.specs.Tapes.{Noted, Entry, sent_up}
use Rattle.model.specs.Tapes.Entry.{Came, Happened, Did}
use Rattle.model.specs.Tapes.Note.{NoBlock}
use Rattle.model.specs.Openings.{Opened, opens, exchanges, exchanges_of, sent_for}
use Rattle.model.specs.Available.{IsIn, heard_by}
use Rattle.model.specs.Known.{Known}
use Rattle.model.specs.Courses.{items}
use Rattle.model.specs.Spelling.{IsSpelled}
use Rattle.model.specs.RequestClause.{IsServed, IsSent, BeginInTime}
use Rattle.model.proofs.ExchangeLaws.{no_idle}
use Rattle.model.proofs.OpenLaws.{sent_alone}
use Rattle.model.proofs.FirstLog.{setup, head, text, tape, request, well_formed, reads, nothing_begins_none}
use Rattle.one_exchange.specs.Connections.{heard, ComeOfOpen, KeepsNone}
use Rattle.one_exchange.specs.Requests.{RequestsHoldOnce}
use Rattle.one_exchange.proofs.Alone.{stands, heard_is}
use Rattle.one_exchange.proofs.Sent.{requests_hold}

-- ---- the tape of a first request, of whose answer some octets came

abbrev answered : List Entry
answered = Happened (Up 1 (codes "HTTP")) ∷ tape

abbrev known : Known
known = record { setup = setup; failures = [] }

abbrev first : Opened
first = record { k = 1; route = 0; stream = 1 }

means : H2Request (items known 1 answered) request
unfolding total_size
means = record { head = head; has_head = refl; well_formed = well_formed; no_connect = refl; contents = tt; ends = refl; length_holds = tt; is = refl }

by_route : IsFirstMatch setup.routes (codes "a") (codes "/") 0
by_route = record { route = record { authority = []; path = codes "/" }; found = refl; matches = (inl refl, inl (record { rest = []; is = refl })); none_before = λ earlier before. absurd (omega (arith, before)) }

served : IsServed known answered first
unfolding total_size
served = record { head = head; has_head = refl; well_formed = well_formed; by_route = by_route }

sent : IsSent known answered (first ∷ []) text
sent = inl (sent_alone known answered first text request refl means (record { front = text; is = refl; are_requests = reads; no_more = nothing_begins_none }))

all_sent : (o : Opened) → IsIn o (opens answered) → IsSent known answered (exchanges_of o.k (exchanges answered)) (sent_up o.k answered)
all_sent o (inl same) = subst (λ (p : Opened). IsSent known answered (exchanges_of p.k (exchanges answered)) (sent_up p.k answered)) (sym same) sent
all_sent o (inr none) = absurd none

all_served : (o : Opened) → IsIn o (exchanges answered) → IsServed known answered o
all_served o (inl same) = subst (λ p. IsServed known answered p) (sym same) served
all_served o (inr none) = absurd none

in_time : BeginInTime known answered
unfolding total_size
in_time = (tt, (record { active = refl; no_cause = refl; goes_on = refl; whole = λ passing. refl }, λ j idle route. no_idle known _ j refl idle, tt))

all_spelled : (o : Opened) → IsIn o (exchanges answered) → IsSpelled false (items known o.stream answered) (sent_for o answered)
unfolding total_size
all_spelled o (inl same) = subst (λ (p : Opened). IsSpelled false (items known p.stream answered) (sent_for p answered)) (sym same) (record {
  head = head;
  ended = true;
  more = [];
  is = refl;
  whole = text;
  spelling = record { pieces = []; trailers = []; are_full = refl; has_length = tt; is = refl };
  front = record { rest = []; is = refl };
  to_the_end = λ request reads. refl;
})
all_spelled o (inr none) = absurd none

keeps_none : KeepsNone known answered
keeps_none = record {
  off = refl;
  requests = record { numbered = (refl, tt); apart = (tt, tt); in_time = in_time; served = all_served; sent = all_sent; spelled = all_spelled };
  go_to_open = (refl, tt);
  come_of_open = (refl, tt);
}

-- the clause on requests holds of it, as it is said of connections
holds_once : RequestsHoldOnce known answered
holds_once = requests_hold known answered (stands known answered keeps_none) keeps_none.requests

-- and what came of its exchange is what came of the connection
all_heard : heard_by first answered ≡ heard 1 answered
all_heard = heard_is known answered (stands known answered keeps_none) first (inl refl)

some_heard : heard 1 answered ≡ codes "HTTP"
some_heard = refl

-- ---- where a connection is kept, what came of it isn't all of its first exchange

-- a frame on a stream
abbrev on : ℕ → Noted
on stream = record { frame = record { kind = 1; flags = 5; id = stream; payload = [] }; note = NoBlock }

-- two streams, one connection; a letter stands for each message
abbrev kept : List Entry
kept =
    Happened (Up 1 (codes "b")) ∷ Did (ToUp 1 (codes "y")) ∷ Came (on 3) ∷ Happened (Up 1 (codes "a")) ∷ Did (ToUp 1 (codes "x")) ∷ Did (Open 1 0) ∷ Came (on 1)
    ∷ []

all_of_it : heard 1 kept ≡ codes "ab"
all_of_it = refl

of_the_first : heard_by first kept ≡ codes "a"
of_the_first = refl

of_the_second : heard_by (record { k = 1; route = 0; stream = 3 }) kept ≡ codes "b"
of_the_second = refl

needs_off : heard_by first kept ≡ heard 1 kept → ⊥
needs_off same = let clash : codes "a" ≡ codes "ab" = same in cc

-- ---- nor where something came of it before it was opened

abbrev early : List Entry
early = Did (Open 1 0) ∷ Came (on 1) ∷ Happened (Up 1 (codes "a")) ∷ []

isnt_open : ComeOfOpen early → ⊥
isnt_open comes = let clash : false ≡ true = comes.0 in cc

needs_open : heard_by first early ≡ heard 1 early → ⊥
needs_open same = let clash : ◌≡◌ {A = List ℕ} [] (codes "a") = same in cc
