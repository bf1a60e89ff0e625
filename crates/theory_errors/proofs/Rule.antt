-- Whoever keeps the rule of `theory_errors` keeps the clause on errors.
use Rattle.std.proofs.Common.{◌≡◌, Bool, true, if◌then◌else◌, List, [], ◌∷◌, ◌++◌, refl, sym, ◌∙◌, ap, subst, inl, inr}
use Rattle.model.specs.Frames.{Frame}
use Rattle.model.specs.Logs.Act.{Open, ToUp, Close, CloseClient}
use Rattle.model.specs.Tapes.{Entry}
use Rattle.model.specs.Tapes.Entry.{Came, Breached, Happened, Sent, Did}
use Rattle.model.specs.Known.{Known, fails_behind}
use Rattle.model.specs.ErrorClause.{stands_in, ErrorsHold}
use Rattle.theory_errors.specs.Turn.{rest_of, queue_of, InTurn, Conducted}
use Rattle.theory_errors.specs.Summary.{Summary, summary_of}
use Rattle.theory_errors.specs.Owing.{must_end_in}
use Rattle.theory_errors.specs.Rule.{Move, Point, point_after, queue_behind, IsInTurn, Allowed, tape_of, point_of, AllAllowed, AreKnown}
use Rattle.theory_errors.proofs.Owed.{owes_same}
use Rattle.theory_errors.proofs.Kept.{summary_kept}
use Rattle.theory_errors.proofs.Errors.{errors_hold}

-- what is kept and owed behind a tape
abbrev pub point_on : Known → List Entry → Point
point_on known t = record { summary = summary_of known t; queue = queue_of known t }

queue_same : (known : Known) (t : List Entry) (e : Entry) → queue_behind known.setup (fails_behind known t) (point_on known t) e ≡ queue_of known (e ∷ t)
queue_same known t (Came noted) = owes_same known t (Came noted)
queue_same known t (Breached breach) = owes_same known t (Breached breach)
queue_same known t (Happened event) = owes_same known t (Happened event)
queue_same known t (Sent noted) = ap (λ (fs : List Frame). if stands_in known t noted then [] else rest_of (queue_of known t) ++ fs) (owes_same known t (Sent noted))
queue_same known t (Did act) = refl

-- The fold of the moves is what their tape leaves.
pub point_same : (known : Known) (moves : List Move) → AreKnown known moves → point_of known.setup moves ≡ point_on known (tape_of moves)
point_same known [] all = refl
point_same known (m ∷ moves) all =
    let t : List Entry = tape_of moves in
    ap (λ (p : Point). point_after known.setup p m) (point_same known moves all.0)
    ∙ ap (λ (b : Bool). point_after known.setup (point_on known t) (record { entry = m.entry; fails = b })) (sym all.1)
    ∙ ap (λ (s : Summary). record { summary = s; queue = queue_behind known.setup (fails_behind known t) (point_on known t) m.entry }) (summary_kept known t m.entry)
    ∙ ap (λ (q : List Frame). record { summary = summary_of known (m.entry ∷ t); queue = q }) (queue_same known t m.entry)

-- it is the entry's turn by the tape where it is by what is kept
in_turn : (known : Known) (t : List Entry) (e : Entry) → IsInTurn (point_on known t) e → InTurn known t (queue_of known t) e
in_turn known t (Came noted) may = record { nothing = may.nothing; none_begun = may.none_begun; goes_on = may.goes_on }
in_turn known t (Breached breach) may = record { nothing = may.nothing; none_begun = may.none_begun; goes_on = may.goes_on }
in_turn known t (Happened event) may = record { nothing = may.nothing; none_begun = may.none_begun; goes_on = may.goes_on }
in_turn known t (Sent noted) (inl due) = inl due
in_turn known t (Sent noted) (inr (inl may)) = inr (inl (record { nothing = may.nothing; goes_on = may.goes_on; passing = may.passing; rightly = may.rightly }))
in_turn known t (Sent noted) (inr (inr stand)) = inr (inr stand)
in_turn known t (Did CloseClient) may = record { nothing = may.nothing; to_end = may.to_end }
in_turn known t (Did (Open k route)) may = may
in_turn known t (Did (ToUp k octets)) may = may
in_turn known t (Did (Close k)) may = may

pub conducted : (known : Known) (moves : List Move) → AreKnown known moves → AllAllowed known.setup moves → Conducted known (tape_of moves)
conducted known [] all allowed = tt
conducted known (m ∷ moves) all allowed =
    let here : Allowed (point_on known (tape_of moves)) m = subst (λ p. Allowed p m) (point_same known moves all.0) allowed.1 in
    (conducted known moves all.0 allowed.0, record { open_yet = here.open_yet; turn = in_turn known (tape_of moves) m.entry here.turn })

-- The program rests: nothing is owed, and the client is closed if the connection is to end.
pub record IsAtRest (p : Point) : Type 0 where
  pub nothing : p.queue ≡ []
  pub ended : must_end_in p.summary ≡ true → p.summary.closed ≡ true

-- The clause on errors holds wherever the program rests.
pub errors_hold_at_rest : (known : Known) (moves : List Move) → AreKnown known moves → AllAllowed known.setup moves → IsAtRest (point_of known.setup moves) → ErrorsHold known (tape_of moves)
errors_hold_at_rest known moves all allowed rest =
    let here : IsAtRest (point_on known (tape_of moves)) = subst IsAtRest (point_same known moves all) rest in
    errors_hold known (tape_of moves) (conducted known moves all allowed) here.nothing here.ended
