-- A worked run, where requests are passed on as they come: the head of a POST goes out on a connection of its own, then the first octets
-- of its body. The upstream answers before the rest has come, which is dropped then.
use Rattle.std.proofs.Common.{◌≡◌, true, false, List, [], ◌∷◌, refl, inl, arith}
use Rattle.std.specs.Prelude.{codes}
use Rattle.model.specs.Tables.{total_size}
use Rattle.model.specs.Messages.Item.{Content}
use Rattle.model.specs.Setup.Passing.{Streaming}
use Rattle.model.specs.Logs.Event.{Up}
use Rattle.model.specs.Logs.Act.{Open, ToUp, Close}
use Rattle.model.specs.Tapes.Entry.{Happened}
use Rattle.model.specs.Openings.{exchange_on}
use Rattle.model.specs.Known.{Known}
use Rattle.model.proofs.AnswerTexts.{answer, response, answered}
use Rattle.model.specs.Http1Text.{chunk_text}
use Rattle.h1_writer.specs.Sending.Stage.{Chunking}
use Rattle.theory_requests.specs.State.{state_of, Turn, tape_of}
use Rattle.theory_requests.specs.State.Move.{Begins, Passes, Drops, Hears, Acts}
use Rattle.theory_requests.specs.Rule.{AreAllowed}
use Rattle.theory_requests.specs.Pool.{Verdict}
use Rattle.theory_requests.specs.Lines.Answer.{Pending, Done}
use Rattle.theory_requests.specs.Lines.Heard.{Finished}
use Rattle.theory_requests.specs.Meaning.{AreSo, KeepClauses}
use Rattle.theory_requests.specs.Held.{held_for}
use Rattle.theory_requests.proofs.Telling.{told_by}
use Rattle.theory_requests.proofs.Clauses.{clauses_hold}
use Rattle.theory_requests.proofs.RunMoves.{known, post, post_text, post_head, first_data, last_data, turn, m1}
use Rattle.theory_requests.proofs.Examples.{calm, serving_on, first_route, post_begun, chunk_goes}

abbrev streaming : Known
streaming = record known { setup = record known.setup { passing = Streaming } }

-- the head goes out
abbrev s2 : List Turn
s2 = turn (Acts (ToUp 1 (post_text []))) (1 ∷ []) ∷ turn (Acts (Open 1 0)) (1 ∷ []) ∷ turn (Begins post_head post false 0 (post_text []) Chunking) (1 ∷ []) ∷ m1

-- and the first octets
abbrev s3 : List Turn
s3 = turn (Acts (ToUp 1 (chunk_text (codes "he")))) (1 ∷ []) ∷ turn (Passes first_data (Content (codes "he") false) 1 Chunking (chunk_text (codes "he")) Chunking) (1 ∷ []) ∷ s2

b1 : AreAllowed streaming.setup m1
b1 = (((tt, record { open_yet = refl; may = inl refl }), record { open_yet = refl; may = calm _ _ refl refl refl }), record { open_yet = refl; may = inl refl })

b2 : AreAllowed streaming.setup s2
b2 = (
  (
    (b1, record { open_yet = refl; may = (calm _ _ refl refl refl, record { serving = serving_on _ _ (omega arith) refl refl; by_route = first_route; sending = post_begun; whole = refl }) }),
    record { open_yet = refl; may = record { stream = 1; text = post_text []; stage = Chunking; due = refl; next = refl } },
  ),
  record { open_yet = refl; may = inl refl },
)

b3 : AreAllowed streaming.setup s3
b3 = (
  (b2, record { open_yet = refl; may = (calm _ _ refl refl refl, record { serving = serving_on _ _ (omega arith) refl refl; found = refl; continues = chunk_goes (codes "he") (omega arith); whole = refl }) }),
  record { open_yet = refl; may = inl refl },
)

t1 : AreSo streaming m1
t1 = (((tt, tt, told_by streaming _ [] tt refl refl refl), refl, told_by streaming _ [] tt refl refl refl), tt, told_by streaming _ [] tt refl refl refl)

t2 : AreSo streaming s2
unfolding total_size
t2 = (
  (
    (t1, (refl, record { adds = refl; goes_on = refl }), told_by streaming _ (1 ∷ []) (refl, tt) refl refl refl),
    tt,
    told_by streaming _ (1 ∷ []) (refl, tt) refl refl refl,
  ),
  tt,
  told_by streaming _ (1 ∷ []) (refl, tt) refl refl refl,
)

t3 : AreSo streaming s3
unfolding total_size
t3 = (
  (t2, record { adds = refl; goes_on = refl }, told_by streaming _ (1 ∷ []) (refl, tt) refl refl refl),
  tt,
  told_by streaming _ (1 ∷ []) (refl, tt) refl refl refl,
)

-- the upstream answers before the request is whole, and its connection is closed
abbrev s4 : List Turn
s4 = turn (Acts (Close 1)) (1 ∷ []) ∷ turn (Hears (Up 1 answer) Finished) (1 ∷ []) ∷ s3

b4 : AreAllowed streaming.setup s4
b4 = (
  (b3, record { open_yet = refl; may = (calm _ _ refl refl refl, tt, (record { k = 1; route = 0; stream = 1; answer = Pending }, refl)) }),
  record { open_yet = refl; may = record { nothing = refl; line = record { k = 1; route = 0; stream = 1; answer = Done }; found = refl; why = inl refl } },
)

-- what came is a whole response, and no connection is kept
all_heard : Verdict streaming (Happened (Up 1 answer) ∷ tape_of s3) (exchange_on 1 (tape_of s3)) Finished
unfolding total_size
all_heard = ((response, answered), λ m. let clash : false ≡ true = m.keeps in cc)

t4 : AreSo streaming s4
unfolding total_size
t4 = (
  (t3, all_heard, told_by streaming _ (1 ∷ []) (refl, tt) refl refl refl),
  tt,
  told_by streaming _ (1 ∷ []) (refl, tt) refl refl refl,
)

-- the end of the body is dropped
abbrev s5 : List Turn
s5 = turn (Drops last_data (Content (codes "llo") true)) (1 ∷ []) ∷ s4

b5 : AreAllowed streaming.setup s5
b5 = (b4, record { open_yet = refl; may = (calm _ _ refl refl refl, record { serving = serving_on _ _ (omega arith) refl refl; found = refl }) })

t5 : AreSo streaming s5
unfolding total_size
t5 = (t4, record { adds = refl; goes_on = refl }, told_by streaming _ (1 ∷ []) (refl, tt) refl refl refl)

-- so the clauses hold at its end
at_end : KeepClauses streaming (tape_of s5)
at_end = clauses_hold streaming s5 b5 t5 (record { nothing = refl; none_done = refl; ended = λ e. cc })

-- while the request goes out a chunk of it is due, and then nothing is held
chunk_due : held_for 1 (state_of streaming.setup (turn (Passes first_data (Content (codes "he") false) 1 Chunking (chunk_text (codes "he")) Chunking) (1 ∷ []) ∷ s2)) ≡ 7
chunk_due = refl

none_held : held_for 1 (state_of streaming.setup s3) ≡ 0
none_held = refl
