-- Before anything came the gateway stands for the log without steps, behind no move.
use Rattle.std.proofs.Common.{◌≡◌, true, false, List, [], ◌∷◌, Option, Some, None, refl, sym, ◌∙◌, ap}
use Rattle.std.specs.List.{list_any}
use Rattle.model.specs.Setup.{Setup}
use Rattle.model.specs.Tables.{first_table}
use Rattle.theory_errors.specs.Rows.{Row}
use Rattle.theory_errors.specs.Book.{Book, first_ledger, summary_in}
use Rattle.theory_errors.specs.Owing.{must_end_in}
use Rattle.theory_responses.specs.State as theory_responses
use Rattle.theory_requests.specs.Rule.{is_done}
use Rattle.theory_header_tables.specs.State.{inserts}
use Rattle.header_blocks.specs.Encoding.{first_encoding}
use Rattle.streams.specs.Asked.{has}
use Rattle.connection_state.specs.Inbound.{book_of}
use Rattle.upstream_connections.specs.Kept.{State, nothing}
use Rattle.upstream_connections.specs.Connections.{lives}
use Rattle.send_queue.specs.Asked.{windows_over}
use Rattle.theory.specs.State as theory
use Rattle.refinement.specs.View.{View}
use Rattle.refinement.specs.Rest.{told_view}
use Rattle.refinement.proofs.Starting.{first_leads}
use Rattle.event_handlers.specs.Resting.{IsSettled}
use Rattle.gateway.specs.declared.phase.Phase.TheVariants as phase
use Rattle.gateway.specs.Stands.{Standing, Serves, Stands}

module _ (setup : Setup) (kept : View) (book : book_of (record { given = []; untaken = 0 }) kept.inbound ≡ (first_ledger setup).book) (offers : kept.offers ≡ theory_responses.start) (upstreams : kept.upstreams ≡ nothing) (table : kept.inbound.table ≡ first_table) (encoding : kept.encoding ≡ first_encoding (inserts setup.policy)) (marks : kept.marks ≡ []) (untaken : kept.untaken ≡ 0) where
  no_rows : kept.inbound.rows ≡ []
  no_rows = ap (λ (b : Book). b.rows) book

  not_to_end : must_end_in (summary_in (book_of (record { given = []; untaken = kept.untaken }) kept.inbound)) ≡ false
  not_to_end = ap (λ n. must_end_in (summary_in (book_of (record { given = []; untaken = n }) kept.inbound))) untaken ∙ ap (λ (b : Book). must_end_in (summary_in b)) book

  first_settled : IsSettled kept
  first_settled = record {
    rest = record {
      goes_on = not_to_end;
      none_cut = λ id stream found. absurd (let no : ◌≡◌ {A = Option theory_responses.Kept} None (Some stream) = sym (ap (λ (s : theory_responses.State). theory_responses.find id s.kept) offers) ∙ found in cc);
      none_done = ap (λ (u : State). list_any (is_done (told_view kept)) (lives u.live)) upstreams;
      flushed = λ few. ap (λ (s : theory_responses.State). theory_responses.ready (windows_over kept.inbound.rows kept.inbound.first_size kept.inbound.window) s) offers;
    };
    numbered = λ id there. absurd (let no : false ≡ true = sym (ap (λ (rows : List Row). has rows id) no_rows) ∙ there in cc);
  }

  pub first_stands : (g : Standing) → Serves setup g → g.phase ≡ phase.New → g.partial ≡ [] → g.kept ≡ kept → Stands setup g [] []
  first_stands g serves of_phase of_partial of_kept = record {
    serves = serves;
    answered = λ known same knows. refl;
    fits = λ known same knows. tt;
    is_in = rw (of_phase, of_partial, of_kept) (record {
      state = theory.state_of setup [];
      leads = first_leads setup kept book offers upstreams table encoding marks untaken;
      settled = first_settled;
      octets = record { front = record { next = 80; rest = 82 ∷ 73 ∷ 32 ∷ 42 ∷ 32 ∷ 72 ∷ 84 ∷ 84 ∷ 80 ∷ 47 ∷ 50 ∷ 46 ∷ 48 ∷ 13 ∷ 10 ∷ 13 ∷ 10 ∷ 83 ∷ 77 ∷ 13 ∷ 10 ∷ 13 ∷ 10 ∷ []; is = refl }; all = refl; no_frame = refl };
      unbroken = refl;
      fresh = untaken;
    });
  }
