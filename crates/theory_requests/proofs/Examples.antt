-- A worked run, where requests are passed on whole: each of its moves is allowed and says what is so, by computation, and the clauses
-- hold at its end.
use Rattle.std.proofs.Common.{◌≡◌, ℕ, ◌+◌, ◌<◌, true, false, List, [], ◌∷◌, length, refl, sym, inl, arith}
use Rattle.std.specs.Prelude.{codes}
use Rattle.std.specs.List.{list_any}
use Rattle.model.specs.Tables.{total_size}
use Rattle.model.specs.Setup.{IsFirstMatch}
use Rattle.model.specs.Tapes.{Noted}
use Rattle.model.specs.Tapes.Entry.{Came}
use Rattle.request_rules.specs.Heads.{parts_of}
use Rattle.h1_writer.specs.Sending.{Sending, Continues}
use Rattle.model.specs.Http1Text.{chunk_text, last_chunk}
use Rattle.h1_writer.specs.Sending.Stage.{Whole, Chunking}
use Rattle.h1_writer.proofs.Stages.{adds_chunk, ends}
use Rattle.theory_requests.specs.Told.{Told}
use Rattle.theory_requests.specs.Lines.Answer.{Pending}
use Rattle.theory_requests.specs.State.{State, state_of, tape_of}
use Rattle.theory_requests.specs.State.Due.{Nothing}
use Rattle.theory_requests.specs.Rule.{is_done, MayCome, IsServing, AreAllowed}
use Rattle.theory_requests.specs.Meaning.{AreSo, KeepClauses}
use Rattle.model.proofs.ItemLaws.{items_stay}
use Rattle.theory_requests.specs.Held.{held_for, held_octets}
use Rattle.theory_requests.proofs.Telling.{told_by}
use Rattle.theory_requests.proofs.Writing.{ends_behind}
use Rattle.theory_requests.proofs.Clauses.{clauses_hold}
use Rattle.theory_requests.proofs.RunMoves.{known, get, post, get_text, post_text, body_text, post_whole, m1, reset, m2, m3, m4, m5, m6, m7, m8}

-- ---- they are allowed

-- something may come where this can be seen of what is kept
pub calm : (told : Told) (s : State) → s.due ≡ Nothing → list_any (is_done told) s.live ≡ false → told.ends ≡ false → MayCome told s
calm told s a b c = record { nothing = a; none_done = b; goes_on = c }

-- the one route matches
pub first_route : IsFirstMatch known.setup.routes (codes "a.example") (codes "/") 0
first_route = record { route = record { authority = []; path = codes "/" }; found = refl; matches = (inl refl, inl (record { rest = []; is = refl })); none_before = λ earlier before. absurd (omega (arith, before)) }

a1 : AreAllowed known.setup m1
a1 = (((tt, record { open_yet = refl; may = inl refl }), record { open_yet = refl; may = calm _ _ refl refl refl }), record { open_yet = refl; may = inl refl })

-- the head of the POST, and each piece of its body
pub post_begun : Sending false (parts_of post) false (post_text []) [] [] Chunking
post_begun = record { not_ended = refl; full = refl; undeclared = refl; is = refl }

get_sent : Sending false (parts_of get) true get_text [] [] Whole
get_sent = record { none_ended = λ e. (refl, refl); full = refl; has_length = tt; is = refl }

-- octets go as a chunk
pub chunk_goes : (octets : List ℕ) → 0 < length octets → Continues Chunking (chunk_text octets) octets [] Chunking
chunk_goes octets some = adds_chunk Chunking octets refl some

-- the last chunk ends the text
text_ends : Continues Chunking (last_chunk []) [] [] Whole
text_ends = ends Chunking [] refl

-- the whole body, and the end behind it
body_ends : Continues Chunking body_text (codes "hello") [] Whole
body_ends = ends_behind Chunking Chunking Whole (chunk_text (codes "hello")) (last_chunk []) (codes "hello") [] (chunk_goes (codes "hello") (omega arith)) text_ends

-- the frame's stream is served behind a move with these
pub serving_on : (told : Told) (noted : Noted) → 0 < noted.frame.id → told.served noted.frame.id ≡ true → told.ends ≡ false → IsServing told noted
serving_on told noted counted served goes_on = record { counted = counted; served = served; goes_on = goes_on }

a2 : AreAllowed known.setup m2
a2 = (a1, record { open_yet = refl; may = (calm _ _ refl refl refl, record { serving = serving_on _ _ (omega arith) refl refl; by_route = first_route; sending = post_begun; whole = refl }) })

a3 : AreAllowed known.setup m3
a3 = (a2, record { open_yet = refl; may = (calm _ _ refl refl refl, record { serving = serving_on _ _ (omega arith) refl refl; found = refl; gathered = (refl, refl) }) })

a4 : AreAllowed known.setup m4
a4 = (a3, record { open_yet = refl; may = (calm _ _ refl refl refl, record { serving = serving_on _ _ (omega arith) refl refl; by_route = first_route; sending = get_sent; whole = refl }) })

a5 : AreAllowed known.setup m5
a5 = ((a4, record { open_yet = refl; may = record { stream = 3; text = get_text; stage = Whole; due = refl; next = refl } }), record { open_yet = refl; may = inl refl })

a6 : AreAllowed known.setup m6
a6 = (a5, record { open_yet = refl; may = (calm _ _ refl refl refl, record { serving = serving_on _ _ (omega arith) refl refl; found = refl; gathered = (body_ends, refl) }) })

a7 : AreAllowed known.setup m7
a7 = ((a6, record { open_yet = refl; may = record { stream = 1; text = post_whole; stage = Whole; due = refl; next = refl } }), record { open_yet = refl; may = inl refl })

a8 : AreAllowed known.setup m8
a8 = (
  (a7, record { open_yet = refl; may = calm _ _ refl refl refl }),
  record { open_yet = refl; may = record { nothing = refl; line = record { k = 1; route = 0; stream = 3; answer = Pending }; found = refl; why = inl refl } },
)

-- ---- they say what is so

-- no frame of the connection adds an item
so1 : AreSo known m1
so1 = (((tt, tt, told_by known _ [] tt refl refl refl), refl, told_by known _ [] tt refl refl refl), tt, told_by known _ [] tt refl refl refl)

so2 : AreSo known m2
unfolding total_size
so2 = (so1, (refl, record { adds = refl; goes_on = refl }), told_by known _ (1 ∷ []) (refl, tt) refl refl refl)

so3 : AreSo known m3
unfolding total_size
so3 = (so2, record { adds = refl; goes_on = refl }, told_by known _ (1 ∷ []) (refl, tt) refl refl refl)

so4 : AreSo known m4
unfolding total_size
so4 = (so3, (refl, record { adds = refl; goes_on = refl }), told_by known _ (3 ∷ 1 ∷ []) (refl, (refl, tt)) refl refl refl)

so5 : AreSo known m5
unfolding total_size
so5 = ((so4, tt, told_by known _ (3 ∷ 1 ∷ []) (refl, (refl, tt)) refl refl refl), tt, told_by known _ (3 ∷ 1 ∷ []) (refl, (refl, tt)) refl refl refl)

so6 : AreSo known m6
unfolding total_size
so6 = (so5, record { adds = refl; goes_on = refl }, told_by known _ (3 ∷ 1 ∷ []) (refl, (refl, tt)) refl refl refl)

so7 : AreSo known m7
unfolding total_size
so7 = ((so6, tt, told_by known _ (3 ∷ 1 ∷ []) (refl, (refl, tt)) refl refl refl), tt, told_by known _ (3 ∷ 1 ∷ []) (refl, (refl, tt)) refl refl refl)

so8 : AreSo known m8
unfolding total_size
so8 = ((so7, sym (items_stay known 3 (tape_of m7) (Came reset) refl), told_by known _ (1 ∷ []) (refl, (refl, tt)) refl refl refl), tt, told_by known _ (1 ∷ []) (refl, (refl, tt)) refl refl refl)

-- so the clauses hold at its end
at_end : KeepClauses known (tape_of m8)
at_end = clauses_hold known m8 a8 so8 (record { nothing = refl; none_done = refl; ended = λ e. cc })

-- ---- what is held meanwhile

-- of the POST its head's text waits, with room for a line, then two octets more; then all of it is due, and once it is out nothing is held
head_held : held_for 1 (state_of known.setup m2) ≡ length (post_text []) + 18
head_held = refl

octets_held : held_for 1 (state_of known.setup m3) ≡ length (post_text []) + 20
octets_held = refl

whole_due : held_for 1 (state_of known.setup m6) ≡ length post_whole
whole_due = refl

none_held : held_octets (state_of known.setup m7) ≡ 0
none_held = refl

-- the GET is due between, on its own stream
get_due : held_octets (state_of known.setup m4) ≡ length (post_text []) + 20 + held_for 3 (state_of known.setup m4)
get_due = refl
