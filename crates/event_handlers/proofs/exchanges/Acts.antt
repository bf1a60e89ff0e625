-- An act of the gateway's own: of what is kept it leaves all but connections, octets that wait for their sides, and what is due.
use Rattle.std.proofs.Common.{◌≡◌, ℕ, false, List, [], ◌∷◌, Some, refl, sym, ◌∙◌, ap, subst}
use Rattle.model.specs.Logs.{Act, Output}
use Rattle.model.specs.Logs.Act.{Open, ToUp, Close, CloseClient}
use Rattle.model.specs.Logs.Output.{Does as Puts}
use Rattle.model.specs.Openings.{Opened, given}
use Rattle.model.specs.Setup.{Setup}
use Rattle.model.specs.Tapes.{put}
use Rattle.model.specs.Tapes.Entry.{Did}
use Rattle.theory_errors.specs.After.{given_after}
use Rattle.theory_errors.specs.Book.{Book, Ledger, ledger_after}
use Rattle.theory_errors.specs.Tidy.{AreKept}
use Rattle.theory_receive_windows.specs.State as theory_receive_windows
use Rattle.theory_requests.specs.Lines.{find}
use Rattle.theory_requests.specs.State.{Due}
use Rattle.connection_state.specs.Inbound.{book_of}
use Rattle.connection_state.specs.Sending.{LeadsTo}
use Rattle.connection_state.proofs.SendingEvents.{opens_lead, puts_lead, closes_lead, did_ledger}
use Rattle.upstream_connections.specs.Kept as upstreams
use Rattle.upstream_connections.specs.Connections.{Connection, number_of}
use Rattle.window_credit.specs.Sides.{Side}
use Rattle.theory.specs.Moves.{Decision, Move, conduct_of, window_of}
use Rattle.theory.specs.Moves.Decision.{Acts}
use Rattle.theory.specs.Moves.Move.{Does}
use Rattle.theory_responses.specs.Sight.{sight_in}
use Rattle.theory.specs.Going as going
use Rattle.theory.specs.State.{State}
use Rattle.theory.specs.Rule.{rooms_in}
use Rattle.theory.specs.Steps.{told_by, told_behind, next, MayGoOn}
use Rattle.theory.proofs.Going.{may_act}
use Rattle.theory.proofs.Stepping.{one_more}
use Rattle.refinement.specs.View.{View, Pending, AreMarked, AreHeard, AreSo, IsInEffect, Leads}
use Rattle.refinement.specs.Bringing.{OwnSegment}
use Rattle.refinement.proofs.Marking.{rooms_next}
use Rattle.refinement.proofs.Staying.{so_stays, rows_kept}

-- an act with which the connection to the client goes on
abbrev pub GoesOn : Act → Type 0
GoesOn CloseClient = ⊥
GoesOn act = Unit {0}

-- of the book it changes which connections were given to whom
book_then : (setup : Setup) (b : Book) (act : Act) → GoesOn act → AreKept b.rows → LeadsTo setup false b (Did act) (record b { given = given_after b.given b.last (Did act) }) []
book_then setup b (Open k route) on kept = opens_lead setup b k route kept
book_then setup b (ToUp k octets) on kept = puts_lead setup b k octets kept
book_then setup b (Close k) on kept = closes_lead setup b k kept
book_then setup b CloseClient on kept = absurd on

-- The same octets are to go back.
pub record SameDebts (before behind : theory_receive_windows.State) : Type 0 where
  pub fresh : behind.count ≡ before.count
  pub shared : behind.debt ≡ before.debt
  pub own : (id : ℕ) → (behind.row id).debt ≡ (before.row id).debt

module _ (setup : Setup) (kept : View) (pending : Pending) (run : List Move) (s : State) (leads : Leads setup run kept pending s) (act : Act) where
  abbrev decision : Decision
  decision = Acts act

  abbrev pub behind : State
  behind = next setup s (Does decision)

  abbrev rooms : theory_receive_windows.State
  rooms = rooms_in (told_by s) s

  -- What is left to show: the rule lets it be done, and this is so of connections, of octets that wait, and of what is due.
  pub record IsDone (given_then : List Opened) (ups : upstreams.State) (due : Due) (sides : List Side) (rooms_then : theory_receive_windows.State) : Type 0 where
    pub goes_on : GoesOn act
    pub may : going.Acts setup s act
    pub given_is : given_after s.ledger.book.given s.ledger.book.last (Did act) ≡ given_then
    pub requests : behind.requests ≡ upstreams.with_due ups due
    pub rooms_are : theory_receive_windows.after setup.passing rooms (window_of (sight_in (told_by s)) (sight_in (told_behind setup s decision)) decision) ≡ rooms_then
    pub debts : SameDebts rooms rooms_then
    pub counted : (k : ℕ) (c : Connection) → find number_of k ups.live ≡ Some c → (rooms_then.out k ≡ c.out) × (rooms_then.took k ≡ c.took)
    pub heard : AreHeard setup (Does decision ∷ run) ups.live
    pub marked : AreMarked setup.passing (λ k. given k given_then) sides rooms_then
    pub in_effect : IsInEffect due rooms_then.settled

  module _ (given_then : List Opened) (ups : upstreams.State) (due : Due) (sides : List Side) (rooms_then : theory_receive_windows.State) (it : IsDone given_then ups due sides rooms_then) where
    pub ledger : ledger_after setup s.ledger (conduct_of decision) ≡ record { book = record s.ledger.book { given = given_then }; queue = s.ledger.queue }
    ledger =
        did_ledger setup false s.ledger act _ [] (book_then setup s.ledger.book act it.goes_on (rows_kept setup run s leads.stands))
        ∙ ap (λ (os : List Opened). record { book = record s.ledger.book { given = os }; queue = s.ledger.queue }) it.given_is

    may : MayGoOn setup s (Does decision)
    may = (
      ap (λ (d : Ledger). d.book.ends) ledger ∙ leads.stands.goes_on,
      may_act setup (told_behind setup s decision) s act (ap (λ (b : Book). b.closed) leads.keeps.book) it.may,
    )

    so : AreSo setup (Does decision ∷ run)
    so = so_stays setup run decision tt leads.so

    windows : behind.windows ≡ theory_receive_windows.kept_of rooms_then
    windows = ap theory_receive_windows.kept_of it.rooms_are

    -- The act leads on.
    pub acted : (outputs : List Output) → OwnSegment setup run s outputs (record kept { upstreams = ups; marks = sides }) (record pending { due = due }) (put outputs (Puts act))
    acted outputs = record {
      segment = record {
        moves = Does decision ∷ [];
        state = behind;
        by_rule = (s, refl, may, refl);
        leads = record {
          stands = one_more setup run s (Does decision) leads.stands may;
          so = so;
          heard = it.heard;
          keeps = record {
            book =
                ap (λ (d : Ledger). d.book) ledger
                ∙ ap (λ (b : Book). record b { given = given_then }) leads.keeps.book
                ∙ ap (λ (os : List Opened). book_of (record { given = os; untaken = kept.untaken }) kept.inbound) (sym (ap (λ (d : Ledger). d.book.given) ledger));
            owed = ap (λ (d : Ledger). d.queue) ledger ∙ leads.keeps.owed;
            offers = leads.keeps.offers;
            requests = it.requests;
            decoding = leads.keeps.decoding;
            encoding = leads.keeps.encoding;
            read = leads.keeps.read;
            credited = record {
              fresh = ap (λ (w : theory_receive_windows.Kept). w.count) windows ∙ it.debts.fresh ∙ leads.keeps.credited.fresh;
              shared = ap (λ (w : theory_receive_windows.Kept). w.debt) windows ∙ it.debts.shared ∙ leads.keeps.credited.shared;
              own = λ id back. ap (λ (w : theory_receive_windows.Kept). (w.row id).debt) windows ∙ it.debts.own id ∙ leads.keeps.credited.own id back;
            };
            counted = λ k c found. let x = it.counted k c found in (ap (λ (w : theory_receive_windows.Kept). w.out k) windows ∙ x.0, ap (λ (w : theory_receive_windows.Kept). w.took k) windows ∙ x.1);
          };
          marked =
              subst (λ (os : List Opened). AreMarked setup.passing (λ k. given k os) sides (rooms_in (told_by behind) behind)) (sym (ap (λ (d : Ledger). d.book.given) ledger))
              (subst (AreMarked setup.passing (λ k. given k given_then) sides) (sym (rooms_next setup run s leads.stands leads.so decision may so ∙ it.rooms_are)) it.marked);
          in_effect = subst (IsInEffect due) (sym (ap (λ (w : theory_receive_windows.Kept). w.settled) windows)) it.in_effect;
        };
        puts = refl;
      };
      are_own = tt;
    }
