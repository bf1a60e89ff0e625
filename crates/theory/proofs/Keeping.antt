-- Whoever keeps the rule keeps the headline: at rest, and before each thing that comes in.
use Rattle.std.proofs.Common.{◌≡◌, Bool, true, false, List, [], ◌∷◌, None, refl, sym, ◌∙◌, ap, subst}
use Rattle.model.specs.Setup.{own_window}
use Rattle.model.specs.Logs.{Event}
use Rattle.model.specs.Tapes.{Entry, sent, is_closed, EndsWithClose}
use Rattle.model.specs.Tapes.Entry.{Came, Breached, Happened, Sent, Did}
use Rattle.model.specs.Decoding.{begun}
use Rattle.model.specs.Known.{Known, fails_behind}
use Rattle.model.specs.Failures.{IsJudged, AreJudged}
use Rattle.model.specs.ErrorClause.{ErrorsHold}
use Rattle.model.specs.Headline.{ClausesHold, HoldsInTurn}
use Rattle.model.specs.Synchrony.{InStep}
use Rattle.model.specs.WindowClause.{GivesBack, GivesNoMore, HoldsBack}
use Rattle.theory_errors.specs.Rule.{AreKnown, Point}
use Rattle.theory_errors.specs.Book.{ledger_of}
use Rattle.theory_errors.proofs.Rule.{point_same}
use Rattle.theory_errors.proofs.Book.{has_kept, errors_hold_by_book, block_out_told}
use Rattle.theory_responses.specs.Policy as theory_responses
use Rattle.theory_responses.specs.Sight.{Sight, windows_in}
use Rattle.theory_responses.proofs.Allowing.{run_keeps}
use Rattle.theory_receive_windows.specs.Policy.{Gates}
use Rattle.theory_receive_windows.specs.Rule as windows
use Rattle.theory_receive_windows.specs.Rule.{OwesNothing}
use Rattle.theory_receive_windows.proofs.Ruling.{all_allowed, run_gives_back}
use Rattle.theory_receive_windows.proofs.Resting.{gives_no_more}
use Rattle.theory_receive_windows.proofs.Withholding.{holds_back}
use Rattle.theory_requests.specs.Meaning as theory_requests
use Rattle.theory_requests.specs.Rule as requests
use Rattle.theory_requests.specs.State as served
use Rattle.theory_requests.proofs.Clauses.{clauses_hold}
use Rattle.theory_header_tables.specs.Kept.{KeepTables}
use Rattle.theory_header_tables.specs.State as tabling
use Rattle.theory_header_tables.proofs.Tables.{run_holds, tables_kept}
use Rattle.theory_header_tables.proofs.Reading.{all_came}
use Rattle.theory_header_tables.proofs.Synced.{in_step_by_states}
use Rattle.theory.specs.Moves.{Decision, Move, entry_of, fails_in, comes_in}
use Rattle.theory.specs.Moves.Decision.{Takes, Breaks, Notes, Hears, Fails, Idles, Sends, Goes, Acts}
use Rattle.theory.specs.Moves.Move.{Does, Settles}
use Rattle.theory.specs.State.{conducts, tape_of, offers_of, turns_of, tables_of, windows_of, state_of, summary_at}
use Rattle.theory.specs.Rule.{rooms_in, AllAllowed, RestsBehind}
use Rattle.theory.specs.Answered.{IsAnswered, AreAnswered}
use Rattle.theory.proofs.Floods.{floods_hold}
use Rattle.theory.proofs.Tapes.{offers_tape, requests_tape, tables_tape, windows_tape}
use Rattle.theory.proofs.Telling.{all_moved, closed_told}
use Rattle.theory.proofs.Placing.{offers_sight, offers_may, offers_right, offers_told, parts_begin, windows_sight, windows_gates, windows_may, windows_right, turns_told, turns_may, turns_so, tables_fit, tables_judged, in_turns}

-- A run that is allowed, and what is known of answers.
pub record IsKnown (known : Known) (run : List Move) : Type 0 where
  pub knows : AreKnown known (conducts run)
  pub all : AllAllowed known.setup run
  pub answered : AreAnswered known run

module _ (known : Known) (run : List Move) (k : IsKnown known run) (rests : RestsBehind known.setup run) where
  abbrev t : List Entry
  t = tape_of run

  abbrev tables : tabling.State
  tables = (state_of known.setup run).tables

  -- ---- what each concern gives

  of_offers : theory_responses.KeepClauses known t
  of_offers =
      subst (theory_responses.KeepClauses known) (offers_tape known.setup run)
      (run_keeps known (offers_of known.setup run) (offers_may known.setup run k.all) (offers_right known run k.knows k.all) (offers_told known run k.knows k.answered)
      (subst (λ (s : Sight). theory_responses.IsFlushed (windows_in s) (state_of known.setup run).offers) (sym (offers_sight known.setup run)) rests.flushed))

  pub of_requests : theory_requests.KeepClauses known t
  of_requests =
      subst (theory_requests.KeepClauses known) (requests_tape known.setup run)
      (clauses_hold known (turns_of known.setup run) (turns_may known.setup run k.all) (turns_so known run k.knows k.all k.answered)
      (subst (λ told. requests.Rests told (served.state_of known.setup (turns_of known.setup run))) (sym (turns_told known.setup run)) rests.served))

  of_tables : KeepTables known.setup.policy t tables
  of_tables =
      subst (λ (x : List Entry). KeepTables known.setup.policy x tables) (tables_tape known.setup run)
      (tables_kept known.setup.policy (tabling.tape_of (tables_of known.setup run)) tables
      (run_holds known.setup.policy (tables_of known.setup run) (tables_judged known run k.knows k.all)
      (all_came known known.setup.policy (tables_of known.setup run) (subst (λ (x : List Entry). Rattle.theory_errors.specs.Turn.Conducted known x) (sym (tables_tape known.setup run)) (in_turns known run k.knows k.all)) (tables_judged known run k.knows k.all) rests.read (tables_fit known.setup run k.all))))

  errors : ErrorsHold known t
  errors = errors_hold_by_book known (conducts run) k.knows (all_moved known run k.all) rests.conduct

  none_begun : begun (sent t) ≡ None
  none_begun = sym (block_out_told known (conducts run) k.knows (all_moved known run k.all)) ∙ rests.conduct.none_begun

  no_more : GivesNoMore (own_window known.setup) t
  no_more =
      subst (GivesNoMore (own_window known.setup)) (windows_tape known.setup run)
      (gives_no_more known.setup.more_room known.setup.passing (windows.moves_of (windows_of known.setup run)) (all_allowed known known.setup.more_room known.setup.passing (windows_of known.setup run) (windows_may known.setup run k.all) (windows_right known run k.knows k.all k.answered)))

  kept_back : HoldsBack (own_window known.setup) known.setup.passing t
  kept_back =
      subst (HoldsBack (own_window known.setup) known.setup.passing) (windows_tape known.setup run)
      (holds_back known.setup.more_room known.setup.passing (windows.moves_of (windows_of known.setup run)) (all_allowed known known.setup.more_room known.setup.passing (windows_of known.setup run) (windows_may known.setup run k.all) (windows_right known run k.knows k.all k.answered)))

  gives_back : is_closed t ≡ false → GivesBack known t
  gives_back open_yet =
      subst (GivesBack known) (windows_tape known.setup run)
      (run_gives_back known (windows_of known.setup run) (windows_may known.setup run k.all) (windows_right known run k.knows k.all k.answered)
      (subst (λ (g : Gates). OwesNothing (windows.sight_of (windows_of known.setup run)) (windows.state_with g (windows.kept_behind known.setup.more_room known.setup.passing (windows_of known.setup run)))) (sym (windows_gates known.setup run))
      (subst (λ (s : Sight). OwesNothing s (rooms_in (summary_at known.setup run) (state_of known.setup run))) (sym (windows_sight known.setup run)) (rests.given_back (closed_told known run k.knows (all_moved known run k.all) ∙ open_yet)))))

  -- ---- the clauses

  pub clauses : ClausesHold known t
  clauses = record {
    requests = of_requests.requests;
    responses = record {
      table = tables.encoding.table;
      decodes = of_tables.of_sent;
      decoded = of_tables.decoded;
      together = of_tables.together;
      none_begun = none_begun;
      limits = of_tables.limits;
      delivered = of_offers.delivered;
    };
    errors = errors;
    progress = record {
      forwarded = of_requests.forwarded;
      streamed = of_requests.streamed;
      none_ready = of_offers.none_ready;
      closed = of_requests.closed;
      closes = of_requests.closes;
      few_idle = of_requests.few_idle;
      go_to_open = of_requests.go_to_open;
    };
    windows = record { keeps = of_offers.keeps; no_more = no_more; holds_back = kept_back; gives_back = gives_back };
    floods = floods_hold known run k.knows k.all k.answered;
  }

  -- ---- tables and turns

  pub in_step : InStep known t tables.encoding.table tables.decoding
  in_step =
      subst (λ (x : List Entry). InStep known x tables.encoding.table tables.decoding) (tables_tape known.setup run)
      (in_step_by_states known (tables_of known.setup run) (offers_of known.setup run) (tables_tape known.setup run ∙ sym (offers_tape known.setup run))
      (subst (λ (x : List Entry). Rattle.theory_errors.specs.Turn.Conducted known x) (sym (tables_tape known.setup run)) (in_turns known run k.knows k.all)) (tables_judged known run k.knows k.all)
      (tables_fit known.setup run k.all) rests.read (offers_may known.setup run k.all) (offers_right known run k.knows k.all) (offers_told known run k.knows k.answered) (parts_begin known.setup run k.all))

-- ---- before each thing that comes in

-- where something comes in, the clauses hold before it
before_one : (known : Known) (run : List Move) (d : Decision) → IsKnown known run → (comes_in (entry_of d) ≡ true → RestsBehind known.setup run) → HoldsInTurn (ClausesHold known) (tape_of run) → HoldsInTurn (ClausesHold known) (entry_of d ∷ tape_of run)
before_one known run d k rests before = by (entry_of d) rests
  where
    by : (e : Entry) → (comes_in e ≡ true → RestsBehind known.setup run) → HoldsInTurn (ClausesHold known) (e ∷ tape_of run)
    by (Came noted) rests = (clauses known run k (rests refl), before)
    by (Breached breach) rests = (clauses known run k (rests refl), before)
    by (Happened event) rests = (clauses known run k (rests refl), before)
    by (Sent noted) rests = before
    by (Did act) rests = before

pub in_turn : (known : Known) (run : List Move) → IsKnown known run → HoldsInTurn (ClausesHold known) (tape_of run)
in_turn known [] k = tt
in_turn known (Does d ∷ run) k =
    let before : IsKnown known run = record { knows = k.knows.0; all = k.all.0; answered = k.answered.0 } in
    before_one known run d before k.all.1.rests (in_turn known run before)
in_turn known (Settles ∷ run) k = in_turn known run (record { knows = k.knows; all = k.all; answered = k.answered })

-- ---- failures, and the end

-- what is known of an event is what its decision says
judged_as : (known : Known) (t : List Entry) (event : Event) (fails : Bool) → fails_behind known t ≡ fails → IsJudged known t event fails → IsJudged known t event (fails_behind known t)
judged_as known t event fails same so = subst (IsJudged known t event) (sym same) so

judged_one : (known : Known) (t : List Entry) (d : Decision) → fails_behind known t ≡ fails_in d → IsAnswered known t d → AreJudged known t → AreJudged known (entry_of d ∷ t)
judged_one known t (Takes noted next addition) same so before = before
judged_one known t (Breaks breach) same so before = before
judged_one known t (Notes event) same so before = (judged_as known t event false same so, before)
judged_one known t (Hears event stream news heard) same so before = (judged_as known t event false same so.2, before)
judged_one known t (Fails event stream heard) same so before = (judged_as known t event true same so.1, before)
judged_one known t (Idles event) same so before = (judged_as known t event false same so.1, before)
judged_one known t (Sends noted next) same so before = before
judged_one known t (Goes noted item part next) same so before = before
judged_one known t (Acts act) same so before = before

pub judged : (known : Known) (run : List Move) → AreKnown known (conducts run) → AreAnswered known run → AreJudged known (tape_of run)
judged known [] knows so = tt
judged known (Does d ∷ run) knows so = judged_one known (tape_of run) d knows.1 so.1 (judged known run knows.0 so.0)
judged known (Settles ∷ run) knows so = judged known run knows so

-- nothing tables behind the client's close
pub ends_with_close : (known : Known) (run : List Move) → AreKnown known (conducts run) → AllAllowed known.setup run → EndsWithClose (tape_of run)
ends_with_close known [] knows all = tt
ends_with_close known (Does d ∷ run) knows all =
    let kept = has_kept known.setup (conducts run) (all_moved known run all.0) in
    let same : (ledger_of known.setup (conducts run)).book.closed ≡ is_closed (tape_of run) = kept.tells.closed ∙ ap (λ (p : Point). p.summary.closed) (point_same known (conducts run) knows.0) in
    (sym same ∙ all.1.conduct.allowed.open_yet, ends_with_close known run knows.0 all.0)
ends_with_close known (Settles ∷ run) knows all = ends_with_close known run knows all
