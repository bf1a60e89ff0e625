-- The tables and the turns of one tape together.
use Rattle.std.proofs.Common.{◌≡◌, false, List, map, sym, subst}
use Rattle.model.specs.Setup.{Policy}
use Rattle.model.specs.Known.{Known}
use Rattle.model.specs.Tapes.{Entry, sent}
use Rattle.model.specs.ResponseClause.{AreTogether}
use Rattle.model.specs.Synchrony.{AreFair, InStep}
use Rattle.theory_errors.specs.Turn.{Conducted}
use Rattle.theory_responses.specs.State.{Move as Offer, entry_of as offered}
use Rattle.theory_responses.specs.Policy.{AreAllowed}
use Rattle.theory_responses.specs.Rule.{Seen, moves_of, tape_of as offered_tape, AllMayCome, AreRight, AreTold}
use Rattle.theory_responses.proofs.Allowing.{placed}
use Rattle.theory_header_tables.specs.State.{Move, tape_of, state_of}
use Rattle.theory_header_tables.specs.Rule.{AllFit}
use Rattle.theory_header_tables.specs.Kept.{AllJudged, KeepTables}
use Rattle.theory_header_tables.specs.Turns.{AllBegan, EachBegan}
use Rattle.theory_header_tables.proofs.Tables.{run_holds, tables_kept}
use Rattle.theory_header_tables.proofs.Reading.{all_came}
use Rattle.theory_header_tables.proofs.Turned.{turns_fair}
use Rattle.theory_header_tables.proofs.Began.{each_began}

pub in_step_by : (known : Known) (moves : List Move) (offers : List Offer) → tape_of moves ≡ map offered offers → Conducted known (tape_of moves) → AllJudged moves → AllFit known.setup.policy moves → (state_of known.setup.policy moves).lost ≡ false → AreAllowed known offers → EachBegan offers
    → InStep known (tape_of moves) (state_of known.setup.policy moves).encoding.table (state_of known.setup.policy moves).decoding
in_step_by known moves offers same conducted judged fit kept allowed began =
    let policy : Policy = known.setup.policy in
    let keep : KeepTables policy (tape_of moves) (state_of policy moves) = tables_kept policy (tape_of moves) (state_of policy moves) (run_holds policy moves judged (all_came known policy moves conducted judged kept fit)) in
    record {
      of_sent = keep.of_sent;
      of_came = keep.of_came;
      all_read = keep.others_are_read kept;
      written = keep.written;
      fair = subst (AreFair known) (sym same) (turns_fair known offers allowed (subst (λ (t : List Entry). AreTogether (sent t)) same keep.together) began);
    }

-- The same of a run of what is on offer that may come by states alone.
pub in_step_by_states : (known : Known) (moves : List Move) (run : List Seen) → tape_of moves ≡ offered_tape run → Conducted known (tape_of moves) → AllJudged moves → AllFit known.setup.policy moves → (state_of known.setup.policy moves).lost ≡ false → AllMayCome run → AreRight known run → AreTold known run → AllBegan run
    → InStep known (tape_of moves) (state_of known.setup.policy moves).encoding.table (state_of known.setup.policy moves).decoding
in_step_by_states known moves run same conducted judged fit kept may right told began =
    in_step_by known moves (moves_of run) same conducted judged fit kept (placed known run may right told).0 (each_began known run may right told began)
