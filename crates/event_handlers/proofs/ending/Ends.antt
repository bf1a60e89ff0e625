-- The connection ends with what came in, by the rule.
use Rattle.std.proofs.Common.{List, [], ◌∷◌, ◌++◌, append_assoc, sym, ap, subst}
use Rattle.model.specs.Known.{Known}
use Rattle.model.specs.Logs.Act.{CloseClient}
use Rattle.model.specs.Setup.{Setup}
use Rattle.model.specs.Tapes.{Entry}
use Rattle.model.specs.Tapes.Entry.{Did}
use Rattle.theory_errors.specs.Rule.{AreKnown}
use Rattle.theory.specs.Answered.{IsAnswered}
use Rattle.theory.specs.Coming.{IsReady}
use Rattle.theory.specs.Ending.{goaway_by, frames_sent, closed_all, by_number, ending_of, Ends}
use Rattle.theory.specs.Moves.{Decision, Move, entry_of}
use Rattle.theory.specs.Moves.Move.{Does, Settles}
use Rattle.theory.specs.State.{State, conducts, tape_of}
use Rattle.theory.specs.Steps.{Stands}
use Rattle.theory.proofs.EndingAnswers.{answered}
use Rattle.theory.proofs.EndingFrames.{frame_leads}
use Rattle.theory.proofs.EndingStarts.{client_leads, breach_leads}
use Rattle.refinement.specs.Rest.{IsAtRest}
use Rattle.refinement.specs.View.{View, balanced, Leads}
use Rattle.refinement.proofs.Resting.{rests_are_ready}
use Rattle.event_handlers.specs.ending.Closing.{IsEnded}
use Rattle.event_handlers.specs.ending.Reasons.{IsBy}
use Rattle.event_handlers.specs.declared.ending.reason.Ending.{Ending}
use Rattle.event_handlers.specs.declared.ending.reason.Ending.TheVariants.{Gone, Breach as Broken, Frame as Wrong}
use Rattle.event_handlers.proofs.ending.Goaways.{end_own}

-- it ends by the rule
ends_by : (setup : Setup) (run : List Move) (s : State) → Stands setup run s → IsReady s → (why : Ending) (d : Decision) → IsBy s why d → Ends setup run s d
ends_by setup run s stands ready Gone d by = subst (Ends setup run s) (sym by) (client_leads setup run s stands ready)
ends_by setup run s stands ready (Broken code) d by = subst (Ends setup run s) (sym by.1) (breach_leads setup run s by.0 stands ready)
ends_by setup run s stands ready (Wrong code) d by = subst (Ends setup run s) (sym by.2) (frame_leads setup run s by.0 by.1 stands ready by.4)

-- the decision says nothing of answers that isn't so
says_so : (known : Known) (t : List Entry) (s : State) (why : Ending) (d : Decision) → IsBy s why d → IsAnswered known t d
says_so known t s Gone d by = subst (IsAnswered known t) (sym by) (λ no. no)
says_so known t s (Broken code) d by = subst (IsAnswered known t) (sym by.1) tt
says_so known t s (Wrong code) d by = subst (IsAnswered known t) (sym by.2) tt

-- what is known of moves is known of those before some
pub known_before : (known : Known) (moves run : List Move) → AreKnown known (conducts (moves ++ run)) → AreKnown known (conducts run)
known_before known [] run knows = knows
known_before known (Does d ∷ moves) run knows = known_before known moves run knows.0
known_before known (Settles ∷ moves) run knows = known_before known moves run knows

-- All of it.
pub is_ended : (setup : Setup) (run : List Move) (before : View) (s : State) (why : Ending) (d : Decision) → Leads setup run before balanced s → IsAtRest before → IsBy s why d → IsEnded setup run s d
is_ended setup run before s why d leads rest by = record {
  ends = ends_by setup run s leads.stands (rests_are_ready setup run before s leads rest) why d by;
  so = λ known is knows. answered known run s d (leads.so known is (known_before known (ending_of s d) (Does d ∷ run) knows).0) (says_so known (tape_of run) s why d by);
  own = Did CloseClient ∷ (closed_all (by_number s) ++ frames_sent (goaway_by s d));
  begins = ap (λ (t : List Entry). Did CloseClient ∷ t) (sym (append_assoc (closed_all (by_number s)) (frames_sent (goaway_by s d)) (entry_of d ∷ [])));
  are_own = end_own s why d by;
}
