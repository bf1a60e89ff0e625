-- The operator wants the connection to end: what is kept then, and what is owed.
use Rattle.std.proofs.Common.{◌≡◌, ℕ, ◌≤◌, Bool, true, false, ◌||◌, if◌then◌else◌, List, [], ◌∷◌, length, Some, None, refl, sym, ◌∙◌, ap, subst}
use Rattle.std.specs.List.{list_any}
use Rattle.std.proofs.lemmas.List.{length-map}
use Rattle.model.specs.Frames.{goaway, no_error}
use Rattle.model.specs.Limits.{most_streams}
use Rattle.model.specs.Logs.{Output}
use Rattle.model.specs.Logs.Event.{Drain}
use Rattle.model.specs.Setup.{Setup}
use Rattle.model.specs.Tapes.Entry.{Happened}
use Rattle.model.specs.Openings.{Opened, given}
use Rattle.theory_errors.specs.Owing.{highest_in}
use Rattle.theory_errors.specs.Rows.{Row, ids_of}
use Rattle.theory_errors.specs.Book.{Book, Ledger, ledger_after}
use Rattle.connection_state.specs.Inbound.{Inbound, book_of, told_of}
use Rattle.connection_state.specs.Draining.{is_full_in}
use Rattle.connection_state.specs.Sending.{goaway_of_drain}
use Rattle.connection_state.proofs.SendingEvents.{drain_leads, happened_ledger}
use Rattle.theory_requests.specs.Lines.{Line}
use Rattle.theory_requests.specs.Rule.{is_done, is_done_by}
use Rattle.theory_requests.specs.State as theory_requests
use Rattle.upstream_connections.specs.Connections.{lives}
use Rattle.upstream_connections.specs.Kept as upstreams
use Rattle.theory.specs.Moves.{Decision, Move, conduct_of, told_in}
use Rattle.theory.specs.Moves.Decision.{Notes}
use Rattle.theory.specs.Moves.Move.{Does}
use Rattle.theory.specs.State.{State}
use Rattle.theory.specs.Rule.{rooms_in}
use Rattle.theory.specs.Steps.{told_by, told_behind, next, MayGoOn}
use Rattle.theory.proofs.Coming.{may_note}
use Rattle.theory.proofs.Stepping.{one_more}
use Rattle.refinement.specs.View.{View, Pending, balanced, Keeps, AreMarked, AreSo, Leads, newest_in}
use Rattle.refinement.specs.Rest.{IsAtRest, NoneDone, told_view}
use Rattle.refinement.specs.Bringing.{Brings}
use Rattle.refinement.proofs.Marking.{rooms_next, marked_event}
use Rattle.refinement.proofs.Resting.{rests_are_ready}
use Rattle.refinement.proofs.Staying.{so_stays, heard_stays, rows_kept}
use Rattle.event_handlers.specs.block_frames.Following.{goaway_frames}
use Rattle.event_handlers.specs.Draining.{drained_at, last_of}
use Rattle.event_handlers.proofs.plain_frames.Coming.{few}

-- the GOAWAY that is owed
goaway_same : (full : Bool) (last : ℕ) → (if full then [] else goaway last no_error ∷ []) ≡ goaway_frames (if full then None else Some last)
goaway_same true last = refl
goaway_same false last = refl

module _ (setup : Setup) (kept : View) (rest : IsAtRest kept) (outputs : List Output) where
  abbrev owing : Pending
  owing = record balanced { owed = goaway_frames (last_of kept) }

  module _ (run : List Move) (s : State) (leads : Leads setup run kept balanced s) where
    abbrev decision : Decision
    decision = Notes Drain

    few_rows : length s.ledger.book.rows ≤ most_streams
    few_rows = subst (λ n. n ≤ most_streams) (length-map s.ledger.book.rows (λ (row : Row). row.id)) (few setup run kept s leads)

    ledger : ledger_after setup s.ledger (conduct_of decision) ≡ record { book = record s.ledger.book { ends = false; drained = true }; queue = goaway_of_drain s.ledger.book }
    ledger = happened_ledger setup false s.ledger Drain (record s.ledger.book { ends = false; drained = true }) (goaway_of_drain s.ledger.book) (drain_leads setup s.ledger.book (rows_kept setup run s leads.stands) few_rows)

    may : MayGoOn setup s (Does decision)
    may = (ap (λ (d : Ledger). d.book.ends) ledger, may_note setup (told_behind setup s decision) s (rests_are_ready setup run kept s leads rest) Drain refl refl)

    abbrev then_state : State
    then_state = next setup s (Does decision)

    book_kept : then_state.ledger.book ≡ book_of (record { given = then_state.ledger.book.given; untaken = kept.untaken }) (drained_at kept).inbound
    book_kept =
        ap (λ (d : Ledger). d.book) ledger
        ∙ ap (λ (b : Book). record b { ends = false; drained = true }) leads.keeps.book
        ∙ ap (λ (os : List Opened). book_of (record { given = os; untaken = kept.untaken }) (drained_at kept).inbound) (sym (ap (λ (d : Ledger). d.book.given) ledger))

    keeps : Keeps (drained_at kept) owing then_state
    keeps = record {
      book = book_kept;
      owed = ap (λ (d : Ledger). d.queue) ledger ∙ ap goaway_of_drain leads.keeps.book ∙ goaway_same (is_full_in kept.inbound) (highest_in (ids_of kept.inbound.rows));
      offers = leads.keeps.offers;
      requests = leads.keeps.requests;
      decoding = leads.keeps.decoding;
      encoding = leads.keeps.encoding;
      read = leads.keeps.read;
      credited = record { fresh = leads.keeps.credited.fresh; shared = leads.keeps.credited.shared; own = λ id goes. leads.keeps.credited.own id (record { active = goes.active; goes_on = goes.goes_on }) };
      counted = leads.keeps.counted;
    }

    so_then : AreSo setup (Does decision ∷ run)
    so_then = so_stays setup run decision tt leads.so

    marked : AreMarked setup.passing (newest_in then_state) kept.marks (rooms_in (told_by then_state) then_state)
    marked =
        subst (λ (os : List Opened). AreMarked setup.passing (λ j. given j os) kept.marks (rooms_in (told_by then_state) then_state)) (sym (ap (λ (d : Ledger). d.book.given) ledger))
        (subst (AreMarked setup.passing (newest_in s) kept.marks) (sym (rooms_next setup run s leads.stands leads.so decision may so_then))
        (marked_event setup.passing (newest_in s) kept.marks (rooms_in (told_by s) s) leads.marked))

    leads_on : Leads setup (Does decision ∷ run) (drained_at kept) owing then_state
    leads_on = record {
      stands = one_more setup run s (Does decision) leads.stands may;
      so = so_then;
      heard = heard_stays setup run s leads.stands leads.so kept.upstreams.live (ap (λ (r : theory_requests.State). r.live) leads.keeps.requests) decision tt leads.heard;
      keeps = keeps;
      marked = marked;
      in_effect = tt;
    }

  -- The operator wants the connection to end: the GOAWAY is owed, unless none might be opened before.
  pub drain_noted : Brings setup kept balanced outputs (Happened Drain) (drained_at kept) owing outputs
  drain_noted run s leads = record {
    segment = record { moves = Does (decision run s leads) ∷ []; state = then_state run s leads; by_rule = (s, refl, may run s leads, refl); leads = leads_on run s leads; puts = refl };
    own = [];
    begins = refl;
    are_own = tt;
  }

-- no connection is done with that wasn't
pub drained_done : (kept new : View) → new.inbound ≡ (drained_at kept).inbound → new.upstreams ≡ kept.upstreams → NoneDone kept → NoneDone new
drained_done kept new inbound are none =
    ap (λ (u : upstreams.State). list_any (is_done (told_view new)) (lives u.live)) are ∙ same_any (lives kept.upstreams.live) ∙ none
  where
    served : (stream : ℕ) → (told_view new).served stream ≡ (told_view kept).served stream
    served stream = ap (λ (i : Inbound). (told_in (told_of (record { given = []; untaken = new.untaken }) i)).served stream) inbound

    same_any : (ls : List Line) → list_any (is_done (told_view new)) ls ≡ list_any (is_done (told_view kept)) ls
    same_any [] = refl
    same_any (l ∷ ls) = ap (λ b. is_done_by l.answer b || list_any (is_done (told_view new)) ls) (served l.stream) ∙ ap (λ b. is_done (told_view kept) l || b) (same_any ls)
