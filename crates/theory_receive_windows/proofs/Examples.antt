-- A worked run, where requests are passed on as they come: padded DATA on two streams, of which one is reset; an upstream's side
-- takes some of what was put out, and what waited for that goes back. Each move is shown to be allowed by computation.
use Rattle.std.proofs.Common.{◌≡◌, ℕ, Bool, true, false, ◌||◌, ◌==◌, List, [], ◌∷◌, refl, sym, subst, ◌∙◌, pos, arith}
use Rattle.std.specs.Prelude.{codes}
use Rattle.std.proofs.lemmas.Bool.{eqb-true}
use Rattle.model.specs.Frames.{settings_frame}
use Rattle.model.specs.Logs.Event.{UpTook}
use Rattle.model.specs.Logs.Act.{Open, ToUp, Close}
use Rattle.model.specs.Setup.{Passing}
use Rattle.model.specs.Setup.Passing.{Whole, Streaming}
use Rattle.model.specs.Tapes.{Noted}
use Rattle.model.specs.Tapes.Note.{NoBlock, Fields}
use Rattle.model.specs.Known.{Known}
use Rattle.model.specs.Lifetimes.{is_active}
use Rattle.model.specs.WindowsOnTape.{room_on, room_on_connection}
use Rattle.model.specs.WindowClause.{kept_in_all, GivesBack}
use Rattle.theory_receive_windows.specs.State.{Move, tape_of, state_of}
use Rattle.theory_receive_windows.specs.State.Move.{Takes, Hears, Settles, Gives, Sends, Uses, Acts}
use Rattle.theory_receive_windows.specs.Policy.{gates_on, Holds, AreAllowed, IsPaid, admits}
use Rattle.theory_receive_windows.proofs.Incoming.{live_among}
use Rattle.theory_receive_windows.proofs.Resting.{receiving, gives_back_at_rest}

-- a frame that completes no block
abbrev plain : ℕ → ℕ → ℕ → List ℕ → Noted
plain kind flags id payload = record { frame = record { kind = kind; flags = flags; id = id; payload = payload }; note = NoBlock }

-- a frame that completes a block, of which only that it was read matters here
abbrev headed : ℕ → Noted
headed id = record { frame = record { kind = 1; flags = 4; id = id; payload = [] }; note = Fields [] }

-- octets given back
abbrev update : ℕ → ℕ → Noted
update id count = plain 8 0 id (0 ∷ 0 ∷ 0 ∷ count ∷ [])

-- no stream is over
none_over : {A : Type 0} → false ≡ true → A
none_over e = absurd (let no : false ≡ true = e in cc)

-- the connection begins
abbrev begun : List Move
begun = Sends (plain 4 1 0 []) false ∷ Takes (plain 4 0 0 []) false false ∷ Sends (record { frame = settings_frame 0; note = NoBlock }) false ∷ []

-- it may
begun_allowed : AreAllowed 0 Streaming begun
begun_allowed = ((
  ((tt, record { kind = refl; active = refl; was = none_over }), record { settled = refl; opens = refl; opened = refl; was = none_over }),
  record { kind = refl; active = refl; was = none_over },
)
    )

-- two requests begin, each with a connection
abbrev asked : List Move
asked =
    Acts (ToUp 2 (codes "HEADS"))
    ∷ Acts (Open 2 0)
    ∷ Takes (headed 3) true false
    ∷ Acts (ToUp 1 (codes "HEAD"))
    ∷ Acts (Open 1 0)
    ∷ Takes (headed 1) true false
    ∷ begun

-- they may
asked_allowed : AreAllowed 0 Streaming asked
asked_allowed =
    let new : AreAllowed 0 Streaming (Takes (headed 1) true false ∷ begun) = (begun_allowed, record { settled = refl; opens = refl; opened = (refl, refl, refl); was = none_over }) in
    let opened : AreAllowed 0 Streaming (Acts (Open 1 0) ∷ Takes (headed 1) true false ∷ begun) = (new, record { active = refl; counted = omega arith; first = refl; unused = refl; untaken = refl }) in
    let put : AreAllowed 0 Streaming (Acts (ToUp 1 (codes "HEAD")) ∷ Acts (Open 1 0) ∷ Takes (headed 1) true false ∷ begun) = (opened, record { opened = refl; its = refl; in_effect = λ e. refl }) in
    (((put, record { settled = refl; opens = refl; opened = (refl, refl, refl); was = none_over }), record { active = refl; counted = omega arith; first = refl; unused = refl; untaken = refl }), record { opened = refl; its = refl; in_effect = λ e. refl })

-- five octets of DATA on the one, two of them padded, and six on the other: what was put out by then isn't taken yet
abbrev padded : List Move
padded =
    Settles
    ∷ Acts (ToUp 2 (codes "abc"))
    ∷ Takes (plain 0 8 3 (2 ∷ 97 ∷ 98 ∷ 99 ∷ 0 ∷ 0 ∷ [])) false false
    ∷ Settles
    ∷ Acts (ToUp 1 (codes "hi"))
    ∷ Takes (plain 0 8 1 (2 ∷ 104 ∷ 105 ∷ 0 ∷ 0 ∷ [])) false false
    ∷ asked

-- it may come so
padded_allowed : AreAllowed 0 Streaming padded
padded_allowed = (
  (((((asked_allowed, record { settled = refl; opens = refl; opened = refl; was = none_over }), record { opened = refl; its = refl; in_effect = λ e. refl }), tt), record { settled = refl; opens = refl; opened = refl; was = none_over }), record { opened = refl; its = refl; in_effect = λ e. refl }),
  tt,
)

-- One upstream takes five of six octets, and then, behind one octet more of DATA, the sixth.
abbrev taken_in_part : List Move
taken_in_part =
    Hears (UpTook 1 1)
    ∷ Settles
    ∷ Acts (ToUp 1 (codes "x"))
    ∷ Takes (plain 0 0 1 (120 ∷ [])) false false
    ∷ Hears (UpTook 1 5)
    ∷ padded

-- this may come
taken_allowed : AreAllowed 0 Streaming taken_in_part
taken_allowed = (
  ((((padded_allowed, record { settled = refl; admitted = refl }), record { settled = refl; opens = refl; opened = refl; was = none_over }), record { opened = refl; its = refl; in_effect = λ e. refl }), tt),
  record { settled = refl; admitted = refl },
)

-- five octets are owed, and the sixth waits
five_owed : (state_of 0 Streaming taken_in_part).debt ≡ 5
five_owed = refl

-- the one behind its own mark
one_waits : ((state_of 0 Streaming taken_in_part).row 1).queue ≡ record { mark = 7; count = 1 } ∷ []
one_waits = refl

-- They go back. The client resets the other stream, and what waited for it goes back on the connection.
abbrev run : List Move
run =
    Gives (update 0 6)
    ∷ Acts (Close 2)
    ∷ Takes (plain 3 0 3 (0 ∷ 0 ∷ 0 ∷ 8 ∷ [])) false true
    ∷ Gives (update 1 5)
    ∷ Gives (update 0 5)
    ∷ taken_in_part

-- all of it is allowed
run_allowed : AreAllowed 0 Streaming run
run_allowed = (
  ((((taken_allowed, record { kind = refl; owed = refl }), record { kind = refl; owed = (refl, refl, refl) }), record { settled = refl; opens = refl; opened = refl; was = λ e. refl }), tt),
  record { kind = refl; owed = refl },
)

-- ---- behind it

-- one stream is active still
one_active : (stream : ℕ) → is_active stream (tape_of run) ≡ true → 1 ≡ stream
one_active stream on = eqb-true 1 stream (first (1 == stream) (live_among 0 Streaming (tape_of run) (state_of 0 Streaming run) stream (receiving 0 Streaming run run_allowed).keeping ∙ on))
  where
    first : (b : Bool) → (b || false) ≡ true → b ≡ true
    first true e = refl
    first false e = e

-- nothing is owed
run_paid : IsPaid (tape_of run) (state_of 0 Streaming run)
run_paid = record { settled = refl; shared = refl; own = λ stream on not_ended. subst (λ (n : ℕ). ((state_of 0 Streaming run).row n).debt ≡ 0) (one_active stream on) refl }

-- one octet is kept, on the connection and on the stream
one_kept : kept_in_all Streaming (tape_of run) ≡ 1
one_kept = refl

-- the connection's room
shared_room : room_on_connection (tape_of run) ≡ pos 65534
shared_room = refl

-- the stream's room
own_room : room_on 65535 1 (tape_of run) ≡ pos 65534
own_room = refl

-- the clause holds of this run
given_back : (known : Known) → known.setup.passing ≡ Streaming → known.setup.more_room ≡ 0 → GivesBack known (tape_of run)
given_back known is usual =
    gives_back_at_rest known run
    (subst (λ n. AreAllowed n known.setup.passing run) (sym usual) (subst (λ (p : Passing). AreAllowed 0 p run) (sym is) run_allowed))
    (subst (λ n. IsPaid (tape_of run) (state_of n known.setup.passing run)) (sym usual) (subst (λ (p : Passing). IsPaid (tape_of run) (state_of 0 p run)) (sym is) run_paid))

-- The upstream may take what is put out and isn't taken, and no octet more.
may_take_one : admits (gates_on (tape_of run)) (state_of 0 Streaming run) (UpTook 1 1) ≡ true
may_take_one = refl

-- two are too many
not_two : admits (gates_on (tape_of run)) (state_of 0 Streaming run) (UpTook 1 2) ≡ false
not_two = refl

-- ---- where requests are passed on whole

-- padded DATA goes back behind its effect: on the connection, and on the stream that isn't ended
abbrev whole : List Move
whole =
    Gives (update 1 5)
    ∷ Gives (update 0 5)
    ∷ Settles
    ∷ Takes (plain 0 8 1 (2 ∷ 104 ∷ 105 ∷ 0 ∷ 0 ∷ [])) false false
    ∷ Takes (headed 1) true false
    ∷ []

-- it may
whole_allowed : AreAllowed 0 Whole whole
whole_allowed = (
  ((((tt, record { settled = refl; opens = refl; opened = (refl, refl, refl); was = none_over }), record { settled = refl; opens = refl; opened = refl; was = none_over }), tt), record { kind = refl; owed = refl }),
  record { kind = refl; owed = (refl, refl, refl) },
)

-- DATA on a stream that was reset goes back on the connection
abbrev late : List Move
late = Gives (update 0 3) ∷ Settles ∷ Takes (plain 0 0 1 (1 ∷ 2 ∷ 3 ∷ [])) false false ∷ Sends (plain 3 0 1 (0 ∷ 0 ∷ 0 ∷ 1 ∷ [])) true ∷ whole

-- it may
late_allowed : AreAllowed 0 Whole late
late_allowed = ((((whole_allowed, record { kind = refl; active = refl; was = λ e. refl }), record { settled = refl; opens = refl; opened = refl; was = none_over }), tt), record { kind = refl; owed = refl })

-- all goes back
all_room : room_on_connection (tape_of late) ≡ pos 65535
all_room = refl

-- ---- a connection that is kept

-- a request goes out with two octets of DATA
abbrev sent_once : List Move
sent_once =
    Settles
    ∷ Acts (ToUp 1 (codes "hi"))
    ∷ Takes (plain 0 1 1 (104 ∷ 105 ∷ [])) false false
    ∷ Acts (ToUp 1 (codes "HEAD"))
    ∷ Acts (Open 1 0)
    ∷ Takes (headed 1) true false
    ∷ begun

-- another goes out on the same connection with three: all wait
abbrev sent_again : List Move
sent_again =
    Settles
    ∷ Acts (ToUp 1 (codes "abc"))
    ∷ Takes (plain 0 1 3 (97 ∷ 98 ∷ 99 ∷ [])) false false
    ∷ Uses 1 (codes "HEADS")
    ∷ Takes (headed 3) true false
    ∷ sent_once

-- they may
once_allowed : AreAllowed 0 Streaming sent_once
once_allowed = (
  (
    (
      (
        ((begun_allowed, record { settled = refl; opens = refl; opened = (refl, refl, refl); was = none_over }), record { active = refl; counted = omega arith; first = refl; unused = refl; untaken = refl }),
        record { opened = refl; its = refl; in_effect = λ e. refl },
      ),
      record { settled = refl; opens = refl; opened = refl; was = none_over },
    ),
    record { opened = refl; its = refl; in_effect = λ e. refl },
  ),
  tt,
)

again_allowed : AreAllowed 0 Streaming sent_again
again_allowed = (
  (
    (
      (
        (once_allowed, record { settled = refl; opens = refl; opened = (refl, refl, refl); was = none_over }),
        (record { opened = refl; begins = refl; active = refl; first = refl; in_effect = λ e. refl }, λ e. refl),
      ),
      record { settled = refl; opens = refl; opened = refl; was = none_over },
    ),
    record { opened = refl; its = refl; in_effect = λ e. refl },
  ),
  tt,
)

-- its side takes the first request: what waited of its DATA is owed, and the other's waits on
first_owed : (state_of 0 Streaming (Hears (UpTook 1 6) ∷ sent_again)).debt ≡ 2
first_owed = refl

other_waits : ((state_of 0 Streaming (Hears (UpTook 1 6) ∷ sent_again)).row 3).queue ≡ record { mark = 14; count = 3 } ∷ []
other_waits = refl

-- it takes the other one too
both_owed : (state_of 0 Streaming (Hears (UpTook 1 8) ∷ Hears (UpTook 1 6) ∷ sent_again)).debt ≡ 5
both_owed = refl

-- ---- what isn't allowed

-- A connection that is kept isn't given to a stream on which DATA came: it would wait for what was put out before.
abbrev begun_late : List Move
begun_late = Takes (plain 0 1 3 (97 ∷ 98 ∷ 99 ∷ [])) false false ∷ Takes (headed 3) true false ∷ sent_once

not_bare : Holds Streaming (tape_of begun_late) (state_of 0 Streaming begun_late) (Uses 1 (codes "HEADS")) → ⊥
not_bare may = let three : ◌≡◌ {A = ℕ} 3 0 = may.1 refl in absurd (omega (arith, three))

-- Octets that wait aren't given back.
too_early : Holds Streaming (tape_of padded) (state_of 0 Streaming padded) (Gives (update 0 5)) → ⊥
too_early may = let five : ◌≡◌ {A = ℕ} 5 0 = may.owed in absurd (omega (arith, five))

-- Nothing is put out behind the end of a frame's effect, which would make octets wait that went back.
too_late : Holds Streaming (tape_of padded) (state_of 0 Streaming padded) (Acts (ToUp 1 (codes "x"))) → ⊥
too_late may = absurd (let no : true ≡ false = may.in_effect refl in cc)

-- Who keeps octets that are due doesn't rest.
kept_back : IsPaid (tape_of taken_in_part) (state_of 0 Streaming taken_in_part) → ⊥
kept_back paid = let five : ◌≡◌ {A = ℕ} 5 0 = paid.shared in absurd (omega (arith, five))

-- An upstream's side that takes five of six octets lets none go back.
none_owed : (state_of 0 Streaming (Hears (UpTook 1 5) ∷ padded)).debt ≡ 0
none_owed = refl
