-- An error of the connection before a block is read ends the connection, so nothing comes behind a block that wasn't read.
use Rattle.std.proofs.Common.{◌≡◌, Bool, true, false, not, ◌&&◌, ◌||◌, List, [], ◌∷◌, refl, sym, ◌∙◌, ap}
use Rattle.std.specs.Prelude.{is_some}
use Rattle.std.proofs.lemmas.Bool.{or_parts, or_right}
use Rattle.model.specs.Setup.{Policy}
use Rattle.model.specs.Tapes.{Noted, Entry}
use Rattle.model.specs.Tapes.Entry.{Came, Breached, Happened, Sent, Did}
use Rattle.model.specs.Decoding.{is_read}
use Rattle.model.specs.Errors.{first_of}
use Rattle.model.specs.ErrorTable.{rows_before_block}
use Rattle.model.specs.Known.{Known}
use Rattle.model.specs.ErrorClause.{is_calming, calls_for_end, must_end}
use Rattle.model.specs.Lifetimes.{is_exhausted}
use Rattle.theory_errors.specs.Turn.{queue_of, MayStand, Conducted}
use Rattle.theory_errors.specs.Summary.{summary_of}
use Rattle.theory_errors.proofs.Calm.{fatal_before_block}
use Rattle.theory_header_tables.specs.State.{State, Move, entry_of, after, state_of, tape_of}
use Rattle.theory_header_tables.specs.State.Move.{Takes, Sends, Breaks, Hears, Acts}
use Rattle.theory_header_tables.specs.Rule.{MayCome, AllCame, IsFit, AllFit}
use Rattle.theory_header_tables.specs.Kept.{IsJudgedIf, AllJudged}

-- An error before a block is read ends the connection.
pub error_ends : (known : Known) (t : List Entry) (noted : Noted) → is_some (first_of (rows_before_block t (Came noted))) ≡ true → calls_for_end known (Came noted ∷ t) ≡ true
error_ends known t noted e = fatal_before_block (summary_of known t) noted e

-- ---- so nothing comes behind

-- A block that wasn't read, though memory wasn't refused, ends the connection.
pub record Stops (known : Known) (t : List Entry) (s : State) : Type 0 where
  pub ends : s.unread ≡ true → s.lost ≡ false → calls_for_end known t ≡ true

-- What comes in comes where the connection isn't to end.
abbrev pub GoesOn : Known → List Entry → Entry → Type 0
GoesOn known t (Sent noted) = Unit {0}
GoesOn known t (Did act) = Unit {0}
GoesOn known t e = must_end known t ≡ false

-- every block was read where something may come in
pub all_read_by : (known : Known) (t : List Entry) (s : State) → Stops known t s → must_end known t ≡ false → s.lost ≡ false → s.unread ≡ false
all_read_by known t s h on kept = by s.unread refl
  where
    by : (b : Bool) → s.unread ≡ b → s.unread ≡ false
    by true e = let clash : true ≡ false = sym (h.ends e kept) ∙ (or_parts (calls_for_end known t) (is_exhausted t) on).0 in cc
    by false e = e

-- only an error leaves a block unread
only_error : (read error : Bool) → not read ≡ true → (not read && not error) ≡ false → error ≡ true
only_error read true n e = refl
only_error true false n e = let clash : false ≡ true = n in cc
only_error false false n e = let clash : true ≡ false = e in cc

pub stops_step : (known : Known) (t : List Entry) (s : State) (m : Move) → IsJudgedIf t m → GoesOn known t (entry_of m) → (after s m).lost ≡ false → Stops known t s → Stops known (entry_of m ∷ t) (after s m)
stops_step known t s (Takes noted verdict next) j on kept h =
    let parts = or_parts s.lost (not (is_read noted.note) && not verdict.is_error) kept in
    let read : s.unread ≡ false = all_read_by known t s h on parts.0 in record {
      ends = λ unread same. error_ends known t noted (sym j.error ∙ only_error (is_read noted.note) verdict.is_error (ap (λ b. b || not (is_read noted.note)) (sym read) ∙ unread) parts.1);
    }
stops_step known t s (Breaks breach) j on kept h = record { ends = λ unread same. refl }
stops_step known t s (Hears event) j on kept h = record { ends = λ unread same. absurd (let clash : true ≡ false = sym unread ∙ all_read_by known t s h on same in cc) }
stops_step known t s (Sends noted before next) j on kept h = record { ends = λ unread same. or_right (is_calming noted.frame) (calls_for_end known t) (h.ends unread same) }
stops_step known t s (Acts act) j on kept h = record { ends = h.ends }

-- ---- the rule, where that of `theory_errors` holds

goes_on_by : (known : Known) (t : List Entry) (e : Entry) → MayStand known t (queue_of known t) e → GoesOn known t e
goes_on_by known t (Came noted) may = may.turn.goes_on
goes_on_by known t (Breached breach) may = may.turn.goes_on
goes_on_by known t (Happened event) may = may.turn.goes_on
goes_on_by known t (Sent noted) may = tt
goes_on_by known t (Did act) may = tt

-- what wasn't lost behind a move wasn't before it
kept_before : (s : State) (m : Move) → (after s m).lost ≡ false → s.lost ≡ false
kept_before s (Takes noted verdict next) e = (or_parts s.lost (not (is_read noted.note) && not verdict.is_error) e).0
kept_before s (Sends noted before next) e = e
kept_before s (Breaks breach) e = e
kept_before s (Hears event) e = e
kept_before s (Acts act) e = e

stops_run : (known : Known) (policy : Policy) (moves : List Move) → Conducted known (tape_of moves) → AllJudged moves → (state_of policy moves).lost ≡ false → Stops known (tape_of moves) (state_of policy moves)
stops_run known policy [] c j kept = record { ends = λ unread same. let clash : false ≡ true = unread in cc }
stops_run known policy (m ∷ moves) c j kept =
    stops_step known (tape_of moves) (state_of policy moves) m j.1 (goes_on_by known (tape_of moves) (entry_of m) c.1) kept
    (stops_run known policy moves c.0 j.0 (kept_before (state_of policy moves) m kept))

may_come_by : (known : Known) (t : List Entry) (s : State) (m : Move) → Stops known t s → s.lost ≡ false → GoesOn known t (entry_of m) → IsFit s m → MayCome s m
may_come_by known t s (Takes noted verdict next) h kept on fit = record { all_read = all_read_by known t s h on kept; is_taken = fit }
may_come_by known t s (Sends noted before next) h kept on fit = fit
may_come_by known t s (Breaks breach) h kept on fit = fit
may_come_by known t s (Hears event) h kept on fit = fit
may_come_by known t s (Acts act) h kept on fit = fit

-- Fit moves in their turn, no memory refused, might come.
pub all_came : (known : Known) (policy : Policy) (moves : List Move) → Conducted known (tape_of moves) → AllJudged moves → (state_of policy moves).lost ≡ false → AllFit policy moves → AllCame policy moves
all_came known policy [] c j kept fit = tt
all_came known policy (m ∷ moves) c j kept fit =
    let before : (state_of policy moves).lost ≡ false = kept_before (state_of policy moves) m kept in (
      all_came known policy moves c.0 j.0 before fit.0,
      may_come_by known (tape_of moves) (state_of policy moves) m (stops_run known policy moves c.0 j.0 before) before (goes_on_by known (tape_of moves) (entry_of m) c.1) fit.1,
    )
