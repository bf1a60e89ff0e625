-- Verdicts that are right by what was known before each are right by all that is known.
use Rattle.std.proofs.Common.{◌≡◌, ℕ, ◌≤◌, Bool, true, false, List, [], ◌∷◌, length, sym, subst, arith, if◌then◌else◌}
use Rattle.model.specs.Setup.{Setup}
use Rattle.model.specs.Tapes.{Entry}
use Rattle.model.specs.Tapes.Entry.{Came, Breached, Happened, Sent, Did}
use Rattle.model.specs.Known.{Known, fails_behind, with_failure}
use Rattle.model.specs.Failures.{IsJudged, AreJudged}
use Rattle.model.proofs.FailureLaws.{judged_more, are_judged_more}
use Rattle.theory_errors.specs.Rule.{Move, tape_of, failures_of, known_of}
use Rattle.theory_errors.proofs.Knowing.{known_so}
use Rattle.upstream_response.specs.Verdicts.{IsRightVerdict, AreRightVerdicts}

-- what is known behind a move that says so
abbrev known_with : Setup → List Move → Bool → Known
known_with setup moves fails = record { setup = setup; failures = if fails then length (tape_of moves) ∷ failures_of moves else failures_of moves }

-- one entry more, with which an answer failed or not
judged_entry : (known : Known) (t : List Entry) (e : Entry) (fails : Bool) → fails_behind known t ≡ fails → IsRightVerdict known t e fails → AreJudged known t → AreJudged known (e ∷ t)
judged_entry known t (Happened event) fails is right h = (subst (λ (b : Bool). IsJudged known t event b) (sym is) right, h)
judged_entry known t (Came noted) fails is right h = h
judged_entry known t (Breached breach) fails is right h = h
judged_entry known t (Sent noted) fails is right h = h
judged_entry known t (Did act) fails is right h = h

-- what a move says of failure stays right
right_more : (place : ℕ) (known : Known) (t : List Entry) (e : Entry) (fails : Bool) → length t ≤ place → IsRightVerdict known t e fails → IsRightVerdict (with_failure place known) t e fails
right_more place known t (Happened event) fails le right = judged_more place known t event fails le right
right_more place known t (Came noted) fails le right = tt
right_more place known t (Breached breach) fails le right = tt
right_more place known t (Sent noted) fails le right = tt
right_more place known t (Did act) fails le right = tt

-- What the moves say of failures is right at each event of their tape.
pub are_judged : (setup : Setup) (moves : List Move) → AreRightVerdicts setup moves → AreJudged (known_of setup moves) (tape_of moves)
are_judged setup [] right = tt
are_judged setup (m ∷ moves) right = by m.fails (known_so setup (m ∷ moves)).1 right.1 (are_judged setup moves right.0)
  where
    by : (b : Bool) → fails_behind (known_with setup moves b) (tape_of moves) ≡ b → IsRightVerdict (known_of setup moves) (tape_of moves) m.entry b → AreJudged (known_of setup moves) (tape_of moves) → AreJudged (known_with setup moves b) (m.entry ∷ tape_of moves)
    by true is right h =
        judged_entry (known_with setup moves true) (tape_of moves) m.entry true is
        (right_more (length (tape_of moves)) (known_of setup moves) (tape_of moves) m.entry true (omega arith) right)
        (are_judged_more (length (tape_of moves)) (known_of setup moves) (tape_of moves) (omega arith) h)
    by false is right h = judged_entry (known_of setup moves) (tape_of moves) m.entry false is right h
