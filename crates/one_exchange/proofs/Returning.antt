-- What is kept of windows is the same, and so is where a GOAWAY may stand in place of another frame.
use Rattle.std.proofs.Common.{◌≡◌, ℕ, List, [], ◌∷◌, refl, sym, ap, ◌∙◌, subst, inl, inr}
use Rattle.std.specs.Prelude.{pos, ◌-ℤ◌, ◌≤ℤ◌, ◌<ℤ◌, sum_by}
use Rattle.model.specs.Setup.{Passing, own_window}
use Rattle.model.specs.Setup.Passing.{Whole, Streaming}
use Rattle.model.specs.Tapes.{Entry}
use Rattle.model.specs.Tapes.Entry.{Came, Breached, Happened, Sent, Did}
use Rattle.model.specs.Openings.{Opened, exchange_for, connection_of, route_of}
use Rattle.model.specs.Known.{Known}
use Rattle.model.specs.Lifetimes.{active}
use Rattle.model.specs.WindowsOnTape.{room_on, room_on_connection}
use Rattle.model.specs.WindowClause.{waiting_for, kept, kept_in_all, GivesBack, GoesBack, WindowsHold}
use Rattle.model.specs.FloodClause.{WouldReturn, WouldGo, FloodsHold}
use Rattle.model.specs.FloodClause.WouldGo.{Owed, Returned}
use Rattle.one_exchange.specs.Connections.{opened_for}
use Rattle.one_exchange.specs.Windows.{kept_once, kept_in_all_once, GivesBackOnce, GoesBackOnce, WindowsHoldOnce}
use Rattle.one_exchange.specs.Floods.{WouldReturnOnce, WouldGoOnce, FloodsHoldOnce}
use Rattle.one_exchange.specs.Floods.WouldGoOnce.{OwedOnce, ReturnedOnce}
use Rattle.one_exchange.proofs.Alone.{Stands, before, one_each}
use Rattle.one_exchange.proofs.Courses.{owed_is, stands_in_is}
use Rattle.one_exchange.proofs.Ending.{all_forwarded, all_streamed}

module _ (known : Known) (t : List Entry) (s : Stands known t) where
  for_is : (stream : ℕ) → exchange_for stream t ≡ opened_for stream t
  for_is stream =
      ap (λ (os : List Opened). record { k = connection_of stream os; route = route_of (connection_of stream os) os; stream = stream }) (one_each known t s)

  kept_is : (passing : Passing) (stream : ℕ) → kept passing stream t ≡ kept_once passing stream t
  kept_is Whole stream = refl
  kept_is Streaming stream = ap (λ (o : Opened). waiting_for o t) (for_is stream)

  kept_in_all_is : (passing : Passing) → kept_in_all passing t ≡ kept_in_all_once passing t
  kept_in_all_is passing = λ i. sum_by (λ (stream : ℕ). kept_is passing stream i) (active t)

  gives_back : GivesBack known t → GivesBackOnce known t
  gives_back h = record {
    shared = h.shared ∙ ap (λ (n : ℕ). pos (own_window known.setup) -ℤ pos n) (kept_in_all_is known.setup.passing);
    own = λ stream active not_ended. h.own stream active not_ended ∙ ap (λ (n : ℕ). pos (own_window known.setup) -ℤ pos n) (kept_is known.setup.passing stream);
  }

  pub windows_hold : WindowsHold known t → WindowsHoldOnce known t
  windows_hold h = record {
    keeps = h.keeps;
    no_more = h.no_more;
    holds_back = λ stream above.
        let same = kept_is known.setup.passing stream in subst (λ (n : ℕ). room_on (own_window known.setup) stream t ≤ℤ (pos (own_window known.setup) -ℤ pos n)) same (h.holds_back stream above);
    gives_back = λ not_closed. gives_back (h.gives_back not_closed);
  }

  goes_back : (passing : Passing) → GoesBack (own_window known.setup) passing t → GoesBackOnce (own_window known.setup) passing t
  goes_back passing (inl shared) = inl (subst (λ (n : ℕ). room_on_connection t <ℤ (pos (own_window known.setup) -ℤ pos n)) (kept_in_all_is passing) shared)
  goes_back passing (inr own) = inr (own.0, own.1, own.2, subst (λ (n : ℕ). room_on (own_window known.setup) own.0 t <ℤ (pos (own_window known.setup) -ℤ pos n)) (kept_is passing own.0) own.3)

  would_return : WouldReturn known t → WouldReturnOnce known t
  would_return w = record {
    unpaid = w.unpaid;
    just_owed = owed_is known t s ∙ w.just_owed;
    forwarded = all_forwarded known t s w.forwarded;
    streamed = all_streamed known t s w.streamed;
    goes_back = goes_back known.setup.passing w.goes_back;
  }

  would_go : WouldGo known t → WouldGoOnce known t
  would_go (Owed newer next is) = OwedOnce newer next (owed_is known t s ∙ is)
  would_go (Returned w) = ReturnedOnce (would_return w)

pub floods_hold : (known : Known) (t : List Entry) → Stands known t → FloodsHold known t → FloodsHoldOnce known t
floods_hold known [] s h = tt
floods_hold known (Came noted ∷ t) s h = floods_hold known t (before known (Came noted) t s) h
floods_hold known (Breached breach ∷ t) s h = floods_hold known t (before known (Breached breach) t s) h
floods_hold known (Happened event ∷ t) s h = floods_hold known t (before known (Happened event) t s) h
floods_hold known (Sent noted ∷ t) s h =
    let was = before known (Sent noted) t s in
    (λ stands. would_go known t was (h.0 (sym (stands_in_is known t noted was) ∙ stands)), floods_hold known t was h.1)
floods_hold known (Did act ∷ t) s h = floods_hold known t (before known (Did act) t s) h
