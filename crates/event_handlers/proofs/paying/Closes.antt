-- A connection that is done with is closed: this performs.
use Rattle.std.proofs.Common.{◌≡◌, ℕ, suc, List, ◌∷◌, map, refl, sym, ◌∙◌, ap, subst, inl}
use Rattle.model.specs.Logs.{Output}
use Rattle.model.specs.Logs.Output.{Does as Puts}
use Rattle.model.specs.Logs.Act.{Close}
use Rattle.model.specs.Setup.{Setup}
use Rattle.model.specs.Tapes.{put}
use Rattle.theory_errors.specs.Book.{Book, summary_in}
use Rattle.theory_requests.specs.State as theory_requests
use Rattle.theory_requests.specs.Lines.{Line, without, k_of, line_of}
use Rattle.theory_requests.specs.State.{drop_from}
use Rattle.theory_requests.specs.Rule.{is_done, MayClose}
use Rattle.upstream_connections.specs.Connections.{number_of, lives, AreBelow}
use Rattle.theory.specs.Moves.{Move, told_in}
use Rattle.theory.specs.Moves.Decision.{Acts}
use Rattle.theory.specs.Moves.Move.{Does}
use Rattle.theory.specs.State.{State}
use Rattle.theory.specs.Rule.{rooms_in}
use Rattle.theory.specs.Steps.{told_by}
use Rattle.refinement.specs.View.{View, Leads}
use Rattle.refinement.specs.Rest.{told_view, back_of}
use Rattle.refinement.specs.Bringing.{PerformsOwn}
use Rattle.refinement.proofs.Lives.{IsDone, lives_closed}
use Rattle.refinement.proofs.Staying.{heard_stays, heard_of_fewer, found_live, found_before}
use Rattle.refinement.proofs.Ways.{numbers_fall, falling_below}
use Rattle.event_handlers.proofs.exchanges.Acts as acts

module _ (setup : Setup) (kept : View) (back k : ℕ) (done_is : (top : ℕ) → AreBelow top kept.upstreams.live → IsDone (told_view kept) kept.upstreams.live k) (outputs : List Output) where
  -- what is kept then
  abbrev pub closed_view : View
  closed_view = record kept { upstreams = record kept.upstreams { held = map (drop_from k) kept.upstreams.held; live = without number_of k kept.upstreams.live } }

  module _ (run : List Move) (s : State) (leads : Leads setup run kept (back_of back) s) where
    open_ones : s.requests.live ≡ lives kept.upstreams.live
    open_ones = ap (λ (r : theory_requests.State). r.live) leads.keeps.requests

    -- it is open, and done with
    done : IsDone (told_view kept) kept.upstreams.live k
    done =
        done_is (suc s.requests.count)
        (falling_below (suc s.requests.count) kept.upstreams.live (subst (Rattle.refinement.proofs.Ways.AreFalling (suc s.requests.count)) open_ones (numbers_fall setup run s leads.stands)))

    may_close : MayClose (told_in (told_by s)) s.requests k
    may_close = record {
      nothing = ap (λ (r : theory_requests.State). r.due) leads.keeps.requests;
      line = done.connection.live;
      found = ap (line_of k) open_ones ∙ found_live k kept.upstreams.live done.connection done.found;
      why = inl (ap (λ (b : Book). is_done (told_in (summary_in b)) done.connection.live) leads.keeps.book ∙ done.done);
    }

    it : acts.IsDone setup kept (back_of back) run s leads (Close k) s.ledger.book.given closed_view.upstreams theory_requests.Due.Nothing kept.marks (rooms_in (told_by s) s)
    it = record {
      goes_on = tt;
      may = record { nothing = leads.keeps.owed; may = may_close };
      given_is = refl;
      requests =
          ap (λ (r : theory_requests.State). record { held = map (drop_from k) r.held; live = without k_of k r.live; due = r.due; count = r.count }) leads.keeps.requests
          ∙ ap (λ (ls : List Line). record { held = map (drop_from k) kept.upstreams.held; live = ls; due = theory_requests.Due.Nothing; count = kept.upstreams.count }) (sym (lives_closed k kept.upstreams.live));
      rooms_are = refl;
      debts = record { fresh = refl; shared = refl; own = λ id. refl };
      counted = λ j c found. leads.keeps.counted j c (found_before k j kept.upstreams.live c found);
      heard = heard_of_fewer setup (Does (Acts (Close k)) ∷ run) kept.upstreams.live k (heard_stays setup run s leads.stands leads.so kept.upstreams.live open_ones (Acts (Close k)) tt leads.heard);
      marked = leads.marked;
      in_effect = tt;
    }

  -- A connection that is done with is closed.
  pub closes : PerformsOwn setup kept (back_of back) outputs closed_view (back_of back) (put outputs (Puts (Close k)))
  closes run s leads = acts.acted setup kept (back_of back) run s leads (Close k) s.ledger.book.given closed_view.upstreams theory_requests.Due.Nothing kept.marks (rooms_in (told_by s) s) (it run s leads) outputs
