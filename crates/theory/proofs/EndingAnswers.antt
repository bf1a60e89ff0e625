-- The moves of the end say nothing of answers.
use Rattle.std.proofs.Common.{List, [], ◌∷◌, ◌++◌, append_assoc, sym, subst}
use Rattle.model.specs.Frames.{Frame}
use Rattle.model.specs.Tables.{Table}
use Rattle.model.specs.Logs.Act.{Close}
use Rattle.model.specs.Known.{Known}
use Rattle.theory_errors.specs.Quiet.{noted_of}
use Rattle.theory_requests.specs.Lines.{Line}
use Rattle.theory.specs.Moves.{Decision, Move}
use Rattle.theory.specs.Moves.Decision.{Sends, Acts}
use Rattle.theory.specs.Moves.Move.{Does}
use Rattle.theory.specs.State.{State, tape_of}
use Rattle.theory.specs.Answered.{IsAnswered, AreAnswered}
use Rattle.theory.specs.Ending.{goaway_by, sent_all, goaway_of, closes_of, by_number, ending_of}

closes_say_none : (known : Known) (ls : List Line) (run : List Move) → AreAnswered known run → AreAnswered known (closes_of ls ++ run)
closes_say_none known [] run so = so
closes_say_none known (l ∷ ls) run so =
    subst (AreAnswered known) (sym (append_assoc (closes_of ls) (Does (Acts (Close l.k)) ∷ []) run)) (closes_say_none known ls (Does (Acts (Close l.k)) ∷ run) (so, tt))

sends_say_none : (known : Known) (table : Table) (frames : List Frame) (run : List Move) → AreAnswered known run → AreAnswered known (sent_all table frames ++ run)
sends_say_none known table [] run so = so
sends_say_none known table (frame ∷ frames) run so =
    subst (AreAnswered known) (sym (append_assoc (sent_all table frames) (Does (Sends (noted_of frame) table) ∷ []) run)) (sends_say_none known table frames (Does (Sends (noted_of frame) table) ∷ run) (so, tt))

-- What is said of answers is so behind the end where it was before, and the decision says what is so.
pub answered : (known : Known) (run : List Move) (s : State) (d : Decision) → AreAnswered known run → IsAnswered known (tape_of run) d → AreAnswered known (ending_of s d ++ Does d ∷ run)
answered known run s d so now = (
  subst (AreAnswered known) (sym (append_assoc (closes_of (by_number s)) (goaway_of s d) (Does d ∷ run)))
      (closes_say_none known (by_number s) (goaway_of s d ++ Does d ∷ run) (sends_say_none known s.tables.encoding.table (goaway_by s d) (Does d ∷ run) (so, now))),
  tt,
)
