-- A worked run, where connections are kept: a GET goes out on a connection of its own, which is idle behind the response, and is given to
-- the next GET. Behind that one's response stands an octet more, so that the connection is closed.
use Rattle.std.proofs.Common.{◌≡◌, ℕ, ◌<◌, true, false, List, [], ◌∷◌, ◌++◌, length, refl, subst, inl, inr, arith}
use Rattle.std.specs.Prelude.{Some, codes}
use Rattle.model.specs.Tables.{total_size}
use Rattle.model.specs.Messages.{Request}
use Rattle.model.specs.Http1.{H1Open, forward}
use Rattle.model.specs.Logs.Event.{Up}
use Rattle.model.specs.Logs.Act.{Open, ToUp, Close}
use Rattle.model.specs.Tapes.{Noted}
use Rattle.model.specs.Tapes.Entry.{Happened}
use Rattle.model.specs.Openings.{exchanges, exchange_on}
use Rattle.model.specs.Known.{Known}
use Rattle.model.specs.Idle.{IsTooLong}
use Rattle.model.proofs.AnswerTexts as answers
use Rattle.model.proofs.Http1Texts.{kept_get_open, bare_request}
use Rattle.model.proofs.PastLaws.{whole_past, whole_seen}
use Rattle.model.proofs.SeenLaws.{one_seen}
use Rattle.request_rules.specs.Heads.{parts_of}
use Rattle.h1_writer.specs.Sending.{Sending, head_of}
use Rattle.h1_writer.specs.Sending.Stage.{Whole}
use Rattle.theory_requests.specs.Lines.Answer.{Pending, Idle, Done}
use Rattle.theory_requests.specs.Lines.Heard.{Keepable, Finished}
use Rattle.theory_requests.specs.Pool.{Verdict}
use Rattle.theory_requests.specs.State.{state_of, Turn, tape_of}
use Rattle.theory_requests.specs.State.Due.{ToOpen, ToUse}
use Rattle.theory_requests.specs.State.Move.{Begins, Hears, Acts}
use Rattle.theory_requests.specs.Rule.{MayOpen, MayClose, AreAllowed, is_done}
use Rattle.theory_requests.specs.Meaning.{AreSo, KeepClauses}
use Rattle.theory_requests.proofs.Telling.{serving, told_by}
use Rattle.theory_requests.proofs.Clauses.{clauses_hold}
use Rattle.theory_requests.proofs.RunMoves.{known, get, headed, frame, turn, m1}
use Rattle.theory_requests.proofs.Examples.{calm, serving_on, first_route}

abbrev keeping : Known
keeping = record known { setup = record known.setup { keep = true } }

-- two GETs, each of which ends its stream
abbrev get_on : ℕ → Noted
get_on stream = headed (frame 1 5 stream (130 ∷ 134 ∷ 132 ∷ [])) get

abbrev getk : List ℕ
getk = head_of true (parts_of get) true ++ []

-- the first goes out
abbrev r2 : List Turn
r2 = turn (Acts (ToUp 1 getk)) (1 ∷ []) ∷ turn (Acts (Open 1 0)) (1 ∷ []) ∷ turn (Begins (get_on 1) get true 0 getk Whole) (1 ∷ []) ∷ m1

-- it is answered
abbrev r3 : List Turn
r3 = turn (Hears (Up 1 answers.answer) Keepable) (1 ∷ []) ∷ r2

-- the second comes
abbrev r4 : List Turn
r4 = turn (Begins (get_on 3) get true 0 getk Whole) (3 ∷ 1 ∷ []) ∷ r3

-- it goes out on the same connection
abbrev r5 : List Turn
r5 = turn (Acts (ToUp 1 getk)) (3 ∷ 1 ∷ []) ∷ r4

-- and is answered, with an octet too many
abbrev r6 : List Turn
r6 = turn (Acts (Close 1)) (3 ∷ 1 ∷ []) ∷ turn (Hears (Up 1 (answers.answer ++ codes "X")) Finished) (3 ∷ 1 ∷ []) ∷ r5

-- ---- they are allowed

get_sent : Sending true (parts_of get) true getk [] [] Whole
get_sent = record { none_ended = λ e. (refl, refl); full = refl; has_length = tt; is = refl }

c1 : AreAllowed keeping.setup m1
c1 = (((tt, record { open_yet = refl; may = inl refl }), record { open_yet = refl; may = calm _ _ refl refl refl }), record { open_yet = refl; may = inl refl })

c2 : AreAllowed keeping.setup r2
c2 = (
  (
    (c1, record { open_yet = refl; may = (calm _ _ refl refl refl, record { serving = serving_on _ _ (omega arith) refl refl; by_route = first_route; sending = get_sent; whole = refl }) }),
    record { open_yet = refl; may = record { stream = 1; text = getk; stage = Whole; due = refl; next = refl } },
  ),
  record { open_yet = refl; may = inl refl },
)

c3 : AreAllowed keeping.setup r3
c3 = (c2, record { open_yet = refl; may = (calm _ _ refl refl refl, tt, (record { k = 1; route = 0; stream = 1; answer = Pending }, refl)) })

c4 : AreAllowed keeping.setup r4
c4 = (c3, record { open_yet = refl; may = (calm _ _ refl refl refl, record { serving = serving_on _ _ (omega arith) refl refl; by_route = first_route; sending = get_sent; whole = refl }) })

c5 : AreAllowed keeping.setup r5
c5 = (c4, record { open_yet = refl; may = inr (record { stream = 3; stage = Whole; due = refl }) })

c6 : AreAllowed keeping.setup r6
c6 = (
  (c5, record { open_yet = refl; may = (calm _ _ refl refl refl, tt, (record { k = 1; route = 0; stream = 3; answer = Pending }, refl)) }),
  record { open_yet = refl; may = record { nothing = refl; line = record { k = 1; route = 0; stream = 3; answer = Done }; found = refl; why = inl refl } },
)

-- ---- they say what is so

abbrev request : Request
request = bare_request (codes "GET") (codes "/") (codes "a.example")

-- another request may stand behind the text
opens_for_more : H1Open getk (forward request)
opens_for_more = kept_get_open (codes "GET") (codes "/") (codes "a.example") refl refl refl

few_octets : IsTooLong keeping answers.answer false → ⊥
few_octets long =
    let same = one_seen answers.answer false long.interims [] long.head (Some answers.head) long.octets (codes "hi") long.seen (whole_seen answers.answer false answers.response answers.answered) in
    let over : 1048576 < length (codes "hi") = subst (λ (l : List ℕ). 1048576 < length l) same.octets long.over in
    omega (arith, over)

may_be_kept : Verdict keeping (Happened (Up 1 answers.answer) ∷ tape_of r2) (exchange_on 1 (tape_of r2)) Keepable
unfolding total_size
may_be_kept = record { keeps = refl; goes_on = refl; request = forward request; sent = opens_for_more.reads; answered = answers.leaves_open; fits = few_octets; not_ended = refl }

-- an octet stands behind the response
not_kept : Verdict keeping (Happened (Up 1 (answers.answer ++ codes "X")) ∷ tape_of r5) (exchange_on 1 (tape_of r5)) Finished
unfolding total_size
not_kept = (
  (answers.response, whole_past answers.answer (codes "X") false false answers.response answers.answered),
  λ m. m.answered.no_more answers.answer (record { next = 88; rest = []; is = refl }) (answers.response, answers.answered),
)

v1 : AreSo keeping m1
v1 = (((tt, tt, told_by keeping _ [] tt refl refl refl), refl, told_by keeping _ [] tt refl refl refl), tt, told_by keeping _ [] tt refl refl refl)

v2 : AreSo keeping r2
unfolding total_size
v2 = (
  (
    (v1, (refl, record { adds = refl; goes_on = refl }), told_by keeping _ (1 ∷ []) (refl, tt) refl refl refl),
    tt,
    told_by keeping _ (1 ∷ []) (refl, tt) refl refl refl,
  ),
  tt,
  told_by keeping _ (1 ∷ []) (refl, tt) refl refl refl,
)

v3 : AreSo keeping r3
unfolding total_size
v3 = (v2, may_be_kept, told_by keeping _ (1 ∷ []) (refl, tt) refl refl refl)

v4 : AreSo keeping r4
unfolding total_size
v4 = (v3, (refl, record { adds = refl; goes_on = refl }), told_by keeping _ (3 ∷ 1 ∷ []) (refl, (refl, tt)) refl refl refl)

v5 : AreSo keeping r5
unfolding total_size
v5 = (v4, tt, told_by keeping _ (3 ∷ 1 ∷ []) (refl, (refl, tt)) refl refl refl)

v6 : AreSo keeping r6
unfolding total_size
v6 = (
  (v5, not_kept, told_by keeping _ (3 ∷ 1 ∷ []) (refl, (refl, tt)) refl refl refl),
  tt,
  told_by keeping _ (3 ∷ 1 ∷ []) (refl, (refl, tt)) refl refl refl,
)

-- so the clauses hold at its end: one connection, two exchanges
at_end : KeepClauses keeping (tape_of r6)
at_end = clauses_hold keeping r6 c6 v6 (record { nothing = refl; none_done = refl; ended = λ e. cc })

two_exchanges : exchanges (tape_of r6) ≡ record { k = 1; route = 0; stream = 3 } ∷ record { k = 1; route = 0; stream = 1 } ∷ []
two_exchanges = refl

-- ---- what the rule refuses meanwhile

-- the connection isn't closed while it is idle
closes_idle : MayClose (serving (1 ∷ [])) (state_of keeping.setup r3) 1 → ⊥
closes_idle may = elim may.why [
  | inl done ↦ (let clash : false ≡ true = subst (λ l. is_done (serving (1 ∷ [])) l ≡ true) same done in cc)
  | inr ends ↦ (let clash : false ≡ true = ends in cc)
]
  where
    same : may.line ≡ record { k = 1; route = 0; stream = 1; answer = Idle }
    same = let found : Some (record { k = 1; route = 0; stream = 1; answer = Idle }) ≡ Some may.line = may.found in cc

-- and none is opened beside it
opens_beside : (k route : ℕ) → MayOpen (state_of keeping.setup r4) k route → ⊥
opens_beside k route may = let clash : ToUse 1 3 getk Whole ≡ ToOpen may.stream route may.text may.stage = may.due in cc
