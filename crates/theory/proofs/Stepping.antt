-- A log whose steps are answered by moves that came by the rule has the headline; and moves lead from state to state.
use Rattle.std.proofs.Common.{◌≡◌, ℕ, false, List, [], ◌∷◌, ◌++◌, reverse, refl, sym, ◌∙◌, ap, subst, if◌then◌else◌}
use Rattle.model.specs.Logs.{Step, client_in}
use Rattle.model.specs.Setup.{Setup}
use Rattle.model.specs.Tapes.{Entry}
use Rattle.model.specs.Known.{Known}
use Rattle.model.specs.Headline.{ClausesHold, HoldsInTurn, IsTold, HasTape, Headline}
use Rattle.theory_errors.specs.Summary.{Summary}
use Rattle.theory_errors.specs.Rule.{AreKnown, point_of}
use Rattle.theory_errors.specs.Book.{ledger_of, ledger_after, summary_in}
use Rattle.theory_responses.specs.Sight.{sight_in}
use Rattle.theory_receive_windows.specs.Policy.{Gates}
use Rattle.theory_receive_windows.specs.Rule as windows
use Rattle.theory_receive_windows.specs.State as theory_receive_windows
use Rattle.theory.specs.Moves.{Decision, Move, entry_of, conduct_of, window_of}
use Rattle.theory.specs.Moves.Move.{Does, Settles}
use Rattle.theory.specs.State.{State, conducts, tape_of, summary_at, state_of}
use Rattle.theory.specs.Rule.{rooms_in, MayDo, AllAllowed, RestsBehind}
use Rattle.theory.specs.Answered.{AreAnswered}
use Rattle.theory.specs.Steps.{after, told_by, told_behind, next, MayGoOn, Leads, Stands, AreAnsweredBy}
use Rattle.theory.proofs.Placing.{windows_gates}
use Rattle.theory.proofs.Keeping.{IsKnown, clauses, in_step, in_turn, judged, ends_with_close}

-- ---- one move

-- what is kept behind a decision
pub state_after : (setup : Setup) (run : List Move) (d : Decision) → state_of setup (Does d ∷ run) ≡ after setup (summary_at setup run) (summary_at setup (Does d ∷ run)) (state_of setup run) d
state_after setup run d =
    ap (λ (g : Gates). record (state_of setup (Does d ∷ run)) { windows = theory_receive_windows.kept_of (theory_receive_windows.after setup.passing (windows.state_with g (state_of setup run).windows) (window_of (sight_in (summary_at setup run)) (sight_in (summary_at setup (Does d ∷ run))) d)) }) (windows_gates setup run)

state_settled : (setup : Setup) (run : List Move) → state_of setup (Settles ∷ run) ≡ record (state_of setup run) { windows = theory_receive_windows.kept_of (theory_receive_windows.after setup.passing (rooms_in (summary_at setup run) (state_of setup run)) theory_receive_windows.Move.Settles) }
state_settled setup run =
    ap (λ (g : Gates). record (state_of setup run) { windows = theory_receive_windows.kept_of (theory_receive_windows.after setup.passing (windows.state_with g (state_of setup run).windows) theory_receive_windows.Move.Settles) }) (windows_gates setup run)

-- while the connection goes on, what is told is what the book tells
told_on : (setup : Setup) (run : List Move) → (ledger_of setup (conducts run)).book.ends ≡ false → summary_at setup run ≡ summary_in (ledger_of setup (conducts run)).book
told_on setup run on = ap (λ b. if b then (point_of setup (conducts run)).summary else summary_in (ledger_of setup (conducts run)).book) on

module _ (setup : Setup) (run : List Move) (s : State) (stands : Stands setup run s) where
  pub before_is : summary_at setup run ≡ told_by s
  before_is = told_on setup run (ap (λ (x : State). x.ledger.book.ends) stands.is ∙ stands.goes_on) ∙ ap told_by stands.is

  module _ (d : Decision) (on : (ledger_after setup s.ledger (conduct_of d)).book.ends ≡ false) where
    behind_is : summary_at setup (Does d ∷ run) ≡ told_behind setup s d
    behind_is = told_on setup (Does d ∷ run) (ap (λ (x : State). (ledger_after setup x.ledger (conduct_of d)).book.ends) stands.is ∙ on) ∙ ap (λ (x : State). told_behind setup x d) stands.is

    pub done : MayDo setup (told_by s) (told_behind setup s d) s d → Stands setup (Does d ∷ run) (next setup s (Does d))
    done may = record {
      allowed = (
        stands.allowed,
        subst (λ (x : State). MayDo setup (summary_at setup run) (summary_at setup (Does d ∷ run)) x d) (sym stands.is)
            (subst (λ (u : Summary). MayDo setup u (summary_at setup (Does d ∷ run)) s d) (sym before_is) (subst (λ (u : Summary). MayDo setup (told_by s) u s d) (sym behind_is) may)),
      );
      is =
          state_after setup run d
          ∙ ap (λ (x : State). after setup (summary_at setup run) (summary_at setup (Does d ∷ run)) x d) stands.is
          ∙ ap (λ (u : Summary). after setup u (summary_at setup (Does d ∷ run)) s d) before_is
          ∙ ap (λ (u : Summary). after setup (told_by s) u s d) behind_is;
      goes_on = on;
    }

  pub settled : Stands setup (Settles ∷ run) (next setup s Settles)
  settled = record { allowed = stands.allowed; is = state_settled setup run ∙ ap (λ (u : Summary). record (state_of setup run) { windows = theory_receive_windows.kept_of (theory_receive_windows.after setup.passing (rooms_in u (state_of setup run)) theory_receive_windows.Move.Settles) }) before_is ∙ ap (λ (x : State). record x { windows = theory_receive_windows.kept_of (theory_receive_windows.after setup.passing (rooms_in (told_by s) x) theory_receive_windows.Move.Settles) }) stands.is; goes_on = stands.goes_on }

-- a move that may come, by what is kept alone, comes by the rule and leaves what it says
pub one_more : (setup : Setup) (run : List Move) (s : State) (m : Move) → Stands setup run s → MayGoOn setup s m → Stands setup (m ∷ run) (next setup s m)
one_more setup run s (Does d) stands may = done setup run s stands d may.0 may.1
one_more setup run s Settles stands may = settled setup run s stands

-- so do any that lead on
pub led : (setup : Setup) (run : List Move) (old new : State) (moves : List Move) → Stands setup run old → Leads setup old moves new → Stands setup (moves ++ run) new
led setup run old new [] stands leads = subst (Stands setup run) (sym leads) stands
led setup run old new (m ∷ moves) stands leads =
    subst (Stands setup (m ∷ moves ++ run)) (sym leads.3) (one_more setup (moves ++ run) leads.0 m (led setup run old leads.0 moves stands leads.1) leads.2)

pub leads_then : (setup : Setup) (old s new : State) (first later : List Move) → Leads setup old first s → Leads setup s later new → Leads setup old (later ++ first) new
leads_then setup old s new first [] a b = subst (Leads setup old first) (sym b) a
leads_then setup old s new first (m ∷ later) a b = (b.0, leads_then setup old s b.0 first later a b.1, b.2, b.3)

-- ---- a log

tape_both : (segment before : List Move) → tape_of (segment ++ before) ≡ tape_of segment ++ tape_of before
tape_both [] before = refl
tape_both (Does d ∷ segment) before = ap (λ (t : List Entry). entry_of d ∷ t) (tape_both segment before)
tape_both (Settles ∷ segment) before = tape_both segment before

-- what holds of moves holds of those before some
before_these : (known : Known) (segment before : List Move) → IsKnown known (segment ++ before) → IsKnown known before
before_these known [] before k = k
before_these known (Does d ∷ segment) before k = before_these known segment before (record { knows = k.knows.0; all = k.all.0; answered = k.answered.0 })
before_these known (Settles ∷ segment) before k = before_these known segment before (record { knows = k.knows; all = k.all; answered = k.answered })

told : (known : Known) (text : List ℕ) (run : List Move) → IsKnown known run → RestsBehind known.setup run → Rattle.model.specs.Tapes.IsRead text (tape_of run) → IsTold known text (tape_of run)
told known text run k rests read =
    let steps = in_step known run k rests in
    record { read = read; table = (state_of known.setup run).tables.decoding; decodes = steps.of_came; others_are_read = steps.all_read; failures = judged known run k.knows k.answered; ends = ends_with_close known run k.knows k.all }

has_tape : (known : Known) (steps : List Step) (run : List Move) → IsKnown known run → AreAnsweredBy known steps run → HasTape known steps (tape_of run)
has_tape known [] run k is = ap tape_of is
has_tape known (step ∷ earlier) run k a =
    let segment : List Move = a.0 in
    let before : List Move = a.1 in
    let here : IsKnown known (segment ++ before) = subst (IsKnown known) a.2 k in
    let same : tape_of (segment ++ before) ≡ tape_of segment ++ tape_of before = tape_both segment before in (
      tape_of segment,
      tape_of before,
      ap tape_of a.2 ∙ same,
      record {
        admitted = a.3.admitted;
        step_is = a.3.step_is;
        told = subst (IsTold known (client_in (step ∷ earlier))) same (told known (client_in (step ∷ earlier)) (segment ++ before) here a.3.rests a.3.read);
        in_turn = subst (HoldsInTurn (ClausesHold known)) same (in_turn known (segment ++ before) here);
        clauses = subst (ClausesHold known) same (clauses known (segment ++ before) here a.3.rests);
      },
      has_tape known earlier before (before_these known segment before here) a.4,
    )

pub has_headline : (known : Known) (log : List Step) (run : List Move) → AreKnown known (conducts run) → AllAllowed known.setup run → AreAnswered known run → AreAnsweredBy known (reverse log) run → Headline known.setup log
has_headline known log run knows all answered by = record {
  known = known;
  of_setup = refl;
  tape = tape_of run;
  has_tape = has_tape known (reverse log) run (record { knows = knows; all = all; answered = answered }) by;
}
