-- Whoever keeps the rule keeps the clause on floods.
use Rattle.std.proofs.Common.{◌≡◌, true, false, not, ◌&&◌, List, [], ◌∷◌, reverse, sym, ap, ◌∙◌, subst, inl, inr}
use Rattle.std.proofs.lemmas.Bool.{and_parts}
use Rattle.model.specs.Setup.{own_window}
use Rattle.model.specs.Tapes.{Noted, Entry}
use Rattle.model.specs.Known.{Known}
use Rattle.model.specs.ErrorClause.{is_calming, calls_for_end, stands_in}
use Rattle.model.specs.ProgressClause.{AllForwarded, AllStreamed}
use Rattle.model.specs.WindowClause.{GoesBack}
use Rattle.model.specs.FloodClause as floods
use Rattle.model.specs.FloodClause.{FloodsHold}
use Rattle.model.specs.FloodClause.WouldGo.{Owed, Returned}
use Rattle.theory_errors.specs.Rule.{AreKnown}
use Rattle.theory_errors.specs.Book.{ledger_of}
use Rattle.theory_errors.proofs.Book.{all_owed_by_book, owed_by_book, ends_by_book}
use Rattle.theory_responses.specs.Sight.{Sight, sight_in}
use Rattle.theory_receive_windows.specs.Policy.{Gates}
use Rattle.theory_receive_windows.specs.Rule as windows
use Rattle.theory_receive_windows.specs.Rule.{OwesSome}
use Rattle.theory_receive_windows.proofs.Ruling.{run_goes_back}
use Rattle.theory_requests.specs.State.Due.{Nothing}
use Rattle.theory_requests.specs.Rule.{MaySend}
use Rattle.theory_requests.proofs.Clauses.{all_passed_on}
use Rattle.theory.specs.Moves.{Move}
use Rattle.theory.specs.Moves.Decision.{Takes, Breaks, Notes, Hears, Fails, Idles, Sends, Goes, Acts}
use Rattle.theory.specs.Moves.Move.{Does, Settles}
use Rattle.theory.specs.State.{conducts, tape_of, summary_at, turns_of, windows_of, state_of}
use Rattle.theory.specs.Rule.{rooms_in, AllAllowed, WouldGo}
use Rattle.theory.specs.Answered.{AreAnswered}
use Rattle.theory.proofs.Tapes.{requests_tape, windows_tape}
use Rattle.theory.proofs.Telling.{all_moved}
use Rattle.theory.proofs.Placing.{turns_may, turns_so, windows_sight, windows_gates, windows_may, windows_right}

module _ (known : Known) (run : List Move) (knows : AreKnown known (conducts run)) (all : AllAllowed known.setup run) (answered : AreAnswered known run) where
  abbrev t : List Entry
  t = tape_of run

  -- what came is passed on where nothing is due to an upstream
  passed_on : (state_of known.setup run).requests.due ≡ Nothing → AllForwarded known t × AllStreamed known t
  passed_on nothing =
      subst (λ (x : List Entry). AllForwarded known x × AllStreamed known x) (requests_tape known.setup run)
      (all_passed_on known (turns_of known.setup run) (turns_may known.setup run all) (turns_so known run knows all answered) nothing)

  -- octets that are to be given back
  returned : OwesSome (sight_in (summary_at known.setup run)) (rooms_in (summary_at known.setup run) (state_of known.setup run)) → GoesBack (own_window known.setup) known.setup.passing t
  returned owes =
      subst (GoesBack (own_window known.setup) known.setup.passing) (windows_tape known.setup run)
      (run_goes_back known (windows_of known.setup run) (windows_may known.setup run all) (windows_right known run knows all answered)
      (subst (λ (g : Gates). OwesSome (windows.sight_of (windows_of known.setup run)) (windows.state_with g (windows.kept_behind known.setup.more_room known.setup.passing (windows_of known.setup run)))) (sym (windows_gates known.setup run))
      (subst (λ (s : Sight). OwesSome s (rooms_in (summary_at known.setup run) (state_of known.setup run))) (sym (windows_sight known.setup run)) owes)))

  -- what would go by what is kept would go by the tape, where nothing is due to an upstream
  pub would : (state_of known.setup run).requests.due ≡ Nothing → WouldGo (summary_at known.setup run) (state_of known.setup run) → floods.WouldGo known t
  would nothing (inl owed) = Owed (reverse owed.1) owed.0 (owed_by_book known (conducts run) knows (all_moved known run all) owed.0 owed.1 owed.2)
  would nothing (inr owes) =
      let passed = passed_on nothing in
      Returned (record {
        unpaid = reverse (ledger_of known.setup (conducts run)).queue;
        just_owed = all_owed_by_book known (conducts run) knows (all_moved known run all);
        forwarded = passed.0;
        streamed = passed.1;
        goes_back = returned owes;
      })

  -- nothing is due where a GOAWAY goes that asks the client to be calm
  pub none_due : (noted : Noted) → stands_in known t noted ≡ true → MaySend (state_of known.setup run).requests noted → (state_of known.setup run).requests.due ≡ Nothing
  none_due noted stands (inl nothing) = nothing
  none_due noted stands (inr (goaway, mild)) =
      absurd (let no : true ≡ false = sym (and_parts (is_calming noted.frame) (not (calls_for_end known t)) stands).0 ∙ mild in cc)

  -- where the GOAWAY stands in place of another frame by the tape, it does by what is kept
  pub stood : (noted : Noted) → stands_in known t noted ≡ true → (is_calming noted.frame && not (ledger_of known.setup (conducts run)).book.ends) ≡ true
  stood noted stands = ap (λ b. is_calming noted.frame && not b) (ends_by_book known (conducts run) knows (all_moved known run all)) ∙ stands

-- It holds behind any moves.
pub floods_hold : (known : Known) (run : List Move) → AreKnown known (conducts run) → AllAllowed known.setup run → AreAnswered known run → FloodsHold known (tape_of run)
floods_hold known [] knows all answered = tt
floods_hold known (Settles ∷ run) knows all answered = floods_hold known run knows all answered
floods_hold known (Does (Takes noted next addition) ∷ run) knows all answered = floods_hold known run knows.0 all.0 answered.0
floods_hold known (Does (Breaks breach) ∷ run) knows all answered = floods_hold known run knows.0 all.0 answered.0
floods_hold known (Does (Notes event) ∷ run) knows all answered = floods_hold known run knows.0 all.0 answered.0
floods_hold known (Does (Hears event stream news heard) ∷ run) knows all answered = floods_hold known run knows.0 all.0 answered.0
floods_hold known (Does (Fails event stream heard) ∷ run) knows all answered = floods_hold known run knows.0 all.0 answered.0
floods_hold known (Does (Idles event) ∷ run) knows all answered = floods_hold known run knows.0 all.0 answered.0
floods_hold known (Does (Sends noted next) ∷ run) knows all answered =
    (λ stands. would known run knows.0 all.0 answered.0 (none_due known run knows.0 all.0 answered.0 noted stands all.1.request.may) (all.1.calls (stood known run knows.0 all.0 answered.0 noted stands)), floods_hold known run knows.0 all.0 answered.0)
floods_hold known (Does (Goes noted item part next) ∷ run) knows all answered =
    (λ stands. would known run knows.0 all.0 answered.0 (none_due known run knows.0 all.0 answered.0 noted stands all.1.request.may) (all.1.calls (stood known run knows.0 all.0 answered.0 noted stands)), floods_hold known run knows.0 all.0 answered.0)
floods_hold known (Does (Acts act) ∷ run) knows all answered = floods_hold known run knows.0 all.0 answered.0
