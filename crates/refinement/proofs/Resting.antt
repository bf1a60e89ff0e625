-- Where moves led to what is kept, nothing is pending, and it is at rest, something may come in.
use Rattle.std.proofs.Common.{◌≡◌, true, false, List, refl, sym, ◌∙◌, ap, subst}
use Rattle.std.specs.List.{list_any}
use Rattle.model.specs.Setup.{Setup}
use Rattle.theory_errors.specs.Summary.{Summary}
use Rattle.theory_errors.specs.Owing.{must_end_in}
use Rattle.theory_errors.specs.Book.{Book, summary_in}
use Rattle.theory_errors.specs.Book as theory_errors
use Rattle.theory_responses.specs.State as theory_responses
use Rattle.theory_responses.specs.Policy.{IsFlushed}
use Rattle.theory_responses.specs.Sight.{sight_in, windows_in}
use Rattle.theory_receive_windows.specs.Rule.{OwesNothing}
use Rattle.theory_requests.specs.Rule as requests
use Rattle.theory_requests.specs.State as theory_requests
use Rattle.connection_state.specs.Inbound.{book_of}
use Rattle.send_queue.specs.Asked.{windows_over}
use Rattle.upstream_connections.specs.Connections.{lives}
use Rattle.theory.specs.Moves.{Move, told_in}
use Rattle.theory.specs.State.{State}
use Rattle.theory.specs.Rule.{Rests, rooms_in}
use Rattle.theory.specs.Steps.{told_by}
use Rattle.theory.specs.Coming.{IsReady}
use Rattle.theory.proofs.EndingMoves.{ready_same}
use Rattle.refinement.specs.View.{View, balanced, Leads}
use Rattle.refinement.specs.Rest.{IsAtRest}

module _ (setup : Setup) (run : List Move) (kept : View) (s : State) (leads : Leads setup run kept balanced s) (rest : IsAtRest kept) where
  -- the book, by what is kept
  abbrev book : Book
  book = book_of (record { given = s.ledger.book.given; untaken = kept.untaken }) kept.inbound

  told : told_by s ≡ summary_in book
  told = ap (λ (b : Book). summary_in b) leads.keeps.book

  goes_on : must_end_in (told_by s) ≡ false
  goes_on = ap (λ (u : Summary). must_end_in u) told ∙ rest.goes_on

  ends_not : {A : Type 0} → must_end_in (told_by s) ≡ true → A
  ends_not ends = absurd (let no : true ≡ false = sym ends ∙ goes_on in cc)

  open_yet : s.ledger.book.closed ≡ false
  open_yet = ap (λ (b : Book). b.closed) leads.keeps.book

  -- nothing is owed, and no header block goes out
  conduct_rests : theory_errors.Rests s.ledger
  conduct_rests = record { nothing = leads.keeps.owed; none_begun = ap (λ (b : Book). b.block_out) leads.keeps.book; ended = ends_not }

  -- nothing can go
  flushed : IsFlushed (windows_in (sight_in (told_by s))) s.offers
  flushed =
      subst (λ (u : Summary). IsFlushed (windows_in (sight_in u)) s.offers) (sym told)
      (subst (λ (o : theory_responses.State). IsFlushed (windows_in (sight_in (summary_in book))) o) (sym leads.keeps.offers) (record {
        none_cut = λ few. rest.none_cut;
        none_ready = λ few. ready_same (windows_over kept.inbound.rows kept.inbound.first_size kept.inbound.window) (windows_in (sight_in (summary_in book))) kept.offers (λ stream is. refl) ∙ rest.flushed few;
      }))

  -- nothing is due, and no connection is done with
  served : requests.Rests (told_in (told_by s)) s.requests
  served = record {
    nothing = ap (λ (r : theory_requests.State). r.due) leads.keeps.requests;
    none_done =
        ap (λ (r : theory_requests.State). list_any (requests.is_done (told_in (told_by s))) r.live) leads.keeps.requests
        ∙ ap (λ (u : Summary). list_any (requests.is_done (told_in u)) (lives kept.upstreams.live)) told
        ∙ rest.none_done;
    ended = ends_not;
  }

  -- all is given back that goes back
  given_back : OwesNothing (sight_in (told_by s)) (rooms_in (told_by s) s)
  given_back = record {
    settled = leads.keeps.credited.fresh;
    shared = leads.keeps.credited.shared;
    own = λ stream active ended. leads.keeps.credited.own stream (record {
      active = ap (λ (u : Summary). (sight_in u).active stream) (sym told) ∙ active;
      goes_on = ap (λ (u : Summary). (sight_in u).ended stream) (sym told) ∙ ended;
    });
  }

  pub rests : Rests (told_by s) s
  rests = record { conduct = conduct_rests; flushed = flushed; served = served; read = leads.keeps.read; given_back = λ open_there. given_back }

-- Something may come in.
pub rests_are_ready : (setup : Setup) (run : List Move) (kept : View) (s : State) → Leads setup run kept balanced s → IsAtRest kept → IsReady s
rests_are_ready setup run kept s leads rest = record { rests = rests setup run kept s leads rest; open_yet = open_yet setup run kept s leads rest; goes_on = goes_on setup run kept s leads rest }
