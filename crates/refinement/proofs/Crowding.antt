-- Where what is kept says that too many octets are untaken, the rule says so of the state.
use Rattle.std.proofs.Common.{◌<◌, nat_lt, List, sym, ◌∙◌, ap, subst, inl, inr}
use Rattle.std.proofs.lemmas.Bool.{lt-ltb}
use Rattle.model.specs.Setup.{Setup}
use Rattle.model.specs.Limits.{most_untaken}
use Rattle.theory_errors.specs.Rows.{find}
use Rattle.theory_errors.specs.Book.{Book}
use Rattle.theory_requests.specs.State as theory_requests
use Rattle.streams.specs.Asked.{is_active}
use Rattle.theory.specs.Moves.{Move}
use Rattle.theory.specs.State.{State}
use Rattle.theory.specs.Rule.{WouldGo}
use Rattle.theory.specs.Steps.{told_by}
use Rattle.theory.specs.Ending.{IsCrowded}
use Rattle.refinement.specs.View.{View, Pending, Leads}
use Rattle.refinement.specs.Crowding.{WouldBeSent, IsCrowdedView}

module _ (setup : Setup) (run : List Move) (kept : View) (pending : Pending) (s : State) (leads : Leads setup run kept pending s) where
  would_go : WouldBeSent kept pending → WouldGo (told_by s) s
  would_go (inl owed) = inl (owed.0, owed.1, leads.keeps.owed ∙ owed.2)
  would_go (inr (fresh, inl some)) = inr (record {
    settled = leads.keeps.credited.fresh ∙ fresh;
    some = inl (subst (λ n. 0 < n) (sym leads.keeps.credited.shared) some);
  })
  would_go (inr (fresh, inr (id, back, some))) = inr (record {
    settled = leads.keeps.credited.fresh ∙ fresh;
    some = inr (
      id,
      ap (λ (b : Book). is_active b.rows id) leads.keeps.book ∙ back.active,
      ap (λ (b : Book). (find b.rows id).ended_by_client) leads.keeps.book ∙ back.goes_on,
      subst (λ n. 0 < n) (sym (leads.keeps.credited.own id back)) some,
    );
  })

  pub crowded_so : IsCrowdedView kept pending → IsCrowded s
  crowded_so v = record {
    open_yet = ap (λ (b : Book). b.closed) leads.keeps.book;
    crowded = ap (λ (b : Book). nat_lt most_untaken b.untaken) leads.keeps.book ∙ lt-ltb most_untaken kept.untaken v.crowded;
    none_begun = ap (λ (b : Book). b.block_out) leads.keeps.book;
    nothing_due = ap (λ (r : theory_requests.State). r.due) leads.keeps.requests ∙ v.nothing_due;
    read = leads.keeps.read;
    would_go = would_go v.would_go;
  }
