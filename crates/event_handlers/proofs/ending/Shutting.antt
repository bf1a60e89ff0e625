-- A connection that is spent is shut: its moves come by the rule, and lead to rest.
use Rattle.std.proofs.Common.{◌≡◌, ℕ, Bool, true, false, ◌&&◌, ◌||◌, ◌==◌, List, [], ◌∷◌, ◌++◌, map, reverse, length, append_assoc, Option, Some, None, refl, sym, ◌∙◌, ap, subst, inr, arith}
use Rattle.std.proofs.lemmas.Bool.{eqb-true}
use Rattle.std.proofs.lemmas.List.{reverse-append, reverse-reverse}
use Rattle.std.specs.List.{list_any}
use Rattle.model.specs.Known.{Known}
use Rattle.model.specs.Logs.{Output}
use Rattle.model.specs.Logs.Act.{Close, CloseClient}
use Rattle.model.specs.Setup.{Setup}
use Rattle.model.specs.Limits.{most_streams}
use Rattle.model.specs.Tapes.{Entry}
use Rattle.model.specs.Tapes.Entry.{Did}
use Rattle.theory_errors.specs.Summary.{Summary}
use Rattle.theory_errors.specs.Judging.{active_in}
use Rattle.theory_errors.specs.Owing.{must_end_in}
use Rattle.theory_errors.specs.Rule.{known_of}
use Rattle.theory_errors.specs.Book.{Book, Ledger, ledger_after, summary_in}
use Rattle.theory_errors.proofs.Knowing.{known_so}
use Rattle.theory_responses.specs.State as theory_responses
use Rattle.theory_responses.specs.Sight.{sight_in, windows_in}
use Rattle.theory_requests.specs.State as theory_requests
use Rattle.theory_requests.specs.Lines.{Line, k_of, line_of, without}
use Rattle.theory_requests.specs.State.Due.{Nothing}
use Rattle.theory_requests.specs.Rule.{is_done}
use Rattle.connection_state.proofs.SendingEvents.{closes_lead, shuts_lead, did_ledger}
use Rattle.upstream_connections.specs.Connections.{lives}
use Rattle.theory.specs.Moves.{Decision, Move, conduct_of, told_in}
use Rattle.theory.specs.Moves.Decision.{Acts}
use Rattle.theory.specs.Moves.Move.{Does}
use Rattle.theory.specs.State.{State, conducts, tape_of, state_of}
use Rattle.theory.specs.Rule.{Rests, RestsBehind}
use Rattle.theory.specs.Ending.{closes_of, closed_all}
use Rattle.theory.specs.Steps as theory
use Rattle.theory.specs.Steps.{told_by, told_behind, next, MayGoOn, Stands}
use Rattle.theory.proofs.EndingLives.{AreApart, last_found, last_goes, last_apart}
use Rattle.theory.proofs.Going.{may_act}
use Rattle.theory.proofs.Stepping.{before_is, one_more, leads_then}
use Rattle.refinement.specs.Bringing.{AreOwn}
use Rattle.refinement.specs.Led.{IsLed}
use Rattle.refinement.specs.Performing.{put_all}
use Rattle.refinement.specs.Rest.{told_view}
use Rattle.refinement.specs.View.{View, balanced, AreSo, Leads}
use Rattle.refinement.proofs.Performing.{tape_behind}
use Rattle.refinement.proofs.Sound.{boxes}
use Rattle.refinement.proofs.Staying.{so_stays, rows_kept}
use Rattle.event_handlers.specs.ending.Closing.{IsShut}
use Rattle.event_handlers.proofs.ending.Goaways.{apart_in, closed_own}

-- ---- what holds until the client is closed

-- The moves led to this state, in which the connection is to end, though nothing that came calls for it; these connections are open yet.
record IsExhausted (setup : Setup) (run : List Move) (s : State) (ls : List Line) : Type 0 where
  pub stands : Stands setup run s
  pub so : AreSo setup run
  pub ends : must_end_in (told_by s) ≡ true
  pub open_yet : s.ledger.book.closed ≡ false
  pub owes : s.ledger.queue ≡ []
  pub none_begun : s.ledger.book.block_out ≡ None
  pub live : s.requests.live ≡ ls
  pub due : s.requests.due ≡ Nothing
  pub read : s.tables.lost ≡ false
  pub none_kept : s.offers.kept ≡ []

-- ---- a connection is closed

module _ (setup : Setup) (run : List Move) (s : State) (l : Line) (ls : List Line) (apart : line_of l.k ls ≡ None) (exhausted : IsExhausted setup run s (ls ++ l ∷ [])) where
  abbrev closes : Decision
  closes = Acts (Close l.k)

  same_ledger : ledger_after setup s.ledger (conduct_of closes) ≡ s.ledger
  same_ledger = did_ledger setup false s.ledger (Close l.k) s.ledger.book [] (closes_lead setup s.ledger.book l.k (rows_kept setup run s exhausted.stands))

  may_close : MayGoOn setup s (Does closes)
  may_close = (
    ap (λ (d : Ledger). d.book.ends) same_ledger ∙ exhausted.stands.goes_on,
    may_act setup (told_behind setup s closes) s (Close l.k) exhausted.open_yet (record {
      nothing = exhausted.owes;
      may = record {
        nothing = exhausted.due;
        line = l;
        found = ap (λ (xs : List Line). line_of l.k xs) exhausted.live ∙ last_found l ls apart;
        why = inr exhausted.ends;
      };
    }),
  )

  closed_one : IsExhausted setup (Does closes ∷ run) (next setup s (Does closes)) ls
  closed_one = record {
    stands = one_more setup run s (Does closes) exhausted.stands may_close;
    so = so_stays setup run closes tt exhausted.so;
    ends = ap (λ (d : Ledger). must_end_in (summary_in d.book)) same_ledger ∙ exhausted.ends;
    open_yet = ap (λ (d : Ledger). d.book.closed) same_ledger ∙ exhausted.open_yet;
    owes = ap (λ (d : Ledger). d.queue) same_ledger ∙ exhausted.owes;
    none_begun = ap (λ (d : Ledger). d.book.block_out) same_ledger ∙ exhausted.none_begun;
    live = ap (λ (xs : List Line). without k_of l.k xs) exhausted.live ∙ last_goes l ls apart;
    due = exhausted.due;
    read = exhausted.read;
    none_kept = exhausted.none_kept;
  }

-- All of them are closed: moves by the rule lead on, and no connection is open behind them.
record AreClosed (setup : Setup) (run : List Move) (s : State) (moves : List Move) : Type 0 where
  pub state : State
  pub by_rule : theory.Leads setup s moves state
  pub exhausted : IsExhausted setup (moves ++ run) state []

close_each : (setup : Setup) (ls : List Line) (run : List Move) (s : State) → AreApart (reverse ls) → IsExhausted setup run s (reverse ls) → AreClosed setup run s (closes_of ls)
close_each setup [] run s apart exhausted = record { state = s; by_rule = refl; exhausted = exhausted }
close_each setup (l ∷ ls) run s apart exhausted =
    let m : Move = Does (Acts (Close l.k)) in
    let is : reverse (l ∷ ls) ≡ reverse ls ++ l ∷ [] = reverse-append (l ∷ []) ls in
    let last = last_apart l (reverse ls) (subst AreApart is apart) in
    let so : IsExhausted setup run s (reverse ls ++ l ∷ []) = subst (λ (xs : List Line). IsExhausted setup run s xs) is exhausted in
    let rest = close_each setup ls (m ∷ run) (next setup s m) last.1 (closed_one setup run s l (reverse ls) last.0 so) in
    record {
      state = rest.state;
      by_rule = leads_then setup s (next setup s m) rest.state (m ∷ []) (closes_of ls) (s, refl, may_close setup run s l (reverse ls) last.0 so, refl) rest.by_rule;
      exhausted = subst (λ (moves : List Move). IsExhausted setup moves rest.state []) (sym (append_assoc (closes_of ls) (m ∷ []) run)) rest.exhausted;
    }

-- ---- the client is closed

module _ (setup : Setup) (run : List Move) (s : State) (exhausted : IsExhausted setup run s []) where
  abbrev shuts : Move
  shuts = Does (Acts CloseClient)

  abbrev shut_state : State
  shut_state = next setup s shuts

  shut_ledger : ledger_after setup s.ledger (conduct_of (Acts CloseClient)) ≡ record { book = record s.ledger.book { closed = true }; queue = s.ledger.queue }
  shut_ledger = did_ledger setup false s.ledger CloseClient (record s.ledger.book { closed = true }) [] (shuts_lead setup s.ledger.book (rows_kept setup run s exhausted.stands))

  may_shut : MayGoOn setup s shuts
  may_shut = (
    ap (λ (d : Ledger). d.book.ends) shut_ledger ∙ exhausted.stands.goes_on,
    may_act setup (told_behind setup s (Acts CloseClient)) s CloseClient exhausted.open_yet (record {
      nothing = exhausted.owes;
      to_end = exhausted.ends;
      none_open = record { nothing = exhausted.due; none = exhausted.live };
    }),
  )

  shut_stands : Stands setup (shuts ∷ run) shut_state
  shut_stands = one_more setup run s shuts exhausted.stands may_shut

  is_closed : shut_state.ledger.book.closed ≡ true
  is_closed = ap (λ (d : Ledger). d.book.closed) shut_ledger

  not_found : (ks : List theory_responses.Kept) → ks ≡ [] → (stream : ℕ) (k : theory_responses.Kept) → theory_responses.find stream ks ≡ Some k → k.cut ≡ false
  not_found ks none stream k found = absurd (let clash : ◌≡◌ {A = Option theory_responses.Kept} None (Some k) = sym (ap (λ (xs : List theory_responses.Kept). theory_responses.find stream xs) none) ∙ found in cc)

  shut_rests : Rests (told_by shut_state) shut_state
  shut_rests = record {
    conduct = record { nothing = ap (λ (d : Ledger). d.queue) shut_ledger ∙ exhausted.owes; none_begun = ap (λ (d : Ledger). d.book.block_out) shut_ledger ∙ exhausted.none_begun; ended = λ ends. is_closed };
    flushed = record {
      none_cut = λ few. not_found s.offers.kept exhausted.none_kept;
      none_ready = λ few. ap (λ (ks : List theory_responses.Kept). theory_responses.ready (windows_in (sight_in (told_by shut_state))) (record { kept = ks; last = s.offers.last })) exhausted.none_kept;
    };
    served = record { nothing = exhausted.due; none_done = ap (λ (ls : List Line). list_any (is_done (told_in (told_by shut_state))) ls) exhausted.live; ended = λ ends. is_closed };
    read = exhausted.read;
    given_back = λ open_yet. absurd (let no : true ≡ false = sym is_closed ∙ open_yet in cc);
  }

  shut_rests_behind : RestsBehind setup (shuts ∷ run)
  shut_rests_behind =
      subst (λ (u : Summary). Rests u (state_of setup (shuts ∷ run))) (sym (before_is setup (shuts ∷ run) shut_state shut_stands))
      (subst (λ (x : State). Rests (told_by shut_state) x) (sym shut_stands.is) shut_rests)

-- ---- what is on the tape

closes_tape : (ls : List Line) → tape_of (closes_of ls) ≡ closed_all ls
closes_tape [] = refl
closes_tape (l ∷ ls) = tape_behind (closes_of ls) (Does (Acts (Close l.k)) ∷ []) ∙ ap (λ (t : List Entry). t ++ Did (Close l.k) ∷ []) (closes_tape ls)

-- ---- all of it

-- Where the connection is to end, though nothing that came calls for it, no stream is active.
last_of : (a b c : Bool) → a ≡ false → (a || b && c) ≡ true → c ≡ true
last_of true b c is ends = let no : true ≡ false = is in cc
last_of false true c is ends = ends
last_of false false c is ends = let no : false ≡ true = ends in cc

none_of : (xs : List ℕ) → length xs ≡ 0 → xs ≡ []
none_of [] is = refl
none_of (x ∷ xs) is = absurd (omega (arith, is))

none_kept : (ks : List theory_responses.Kept) → map (λ (k : theory_responses.Kept). k.id) ks ≡ [] → ks ≡ []
none_kept [] is = refl
none_kept (k ∷ ks) is = cc

module _ (setup : Setup) (run : List Move) (kept : View) (s : State) (fresh back : ℕ) (leads : Leads setup run kept (record balanced { fresh = fresh; shared = back }) s) (ends : (told_view kept).ends ≡ true) where
  abbrev known : Known
  known = known_of setup (conducts run)

  ends_told : must_end_in (told_by s) ≡ true
  ends_told = ap (λ (b : Book). must_end_in (summary_in b)) leads.keeps.book ∙ ends

  none_active : active_in (told_by s) ≡ []
  none_active = none_of (active_in (told_by s)) (eqb-true (length (active_in (told_by s))) 0 (last_of (told_by s).ends ((told_by s).drained || length (told_by s).opened == most_streams) (length (active_in (told_by s)) == 0) leads.stands.goes_on ends_told))

  led : IsLed known run s
  led = record { knows = known_so setup (conducts run); answered = leads.so known refl (known_so setup (conducts run)); stands = leads.stands }

  is_exhausted : IsExhausted setup run s (lives kept.upstreams.live)
  is_exhausted = record {
    stands = leads.stands;
    so = leads.so;
    ends = ends_told;
    open_yet = ap (λ (b : Book). b.closed) leads.keeps.book;
    owes = leads.keeps.owed;
    none_begun = ap (λ (b : Book). b.block_out) leads.keeps.book;
    live = ap (λ (r : theory_requests.State). r.live) leads.keeps.requests;
    due = ap (λ (r : theory_requests.State). r.due) leads.keeps.requests;
    read = leads.keeps.read;
    none_kept = none_kept s.offers.kept (boxes known run s led ∙ ap (λ (ids : List ℕ). reverse ids) none_active);
  }

  apart : AreApart (lives kept.upstreams.live)
  apart = subst AreApart (ap (λ (r : theory_requests.State). r.live) leads.keeps.requests) (apart_in setup run s leads.stands)

  -- open connections by rising number
  abbrev rising : List Line
  rising = reverse (lives kept.upstreams.live)

  turned : lives kept.upstreams.live ≡ reverse rising
  turned = sym (reverse-reverse (lives kept.upstreams.live))

  abbrev closed : AreClosed setup run s (closes_of rising)
  closed = close_each setup rising run s (subst AreApart turned apart) (subst (λ (ls : List Line). IsExhausted setup run s ls) turned is_exhausted)

  abbrev behind : List Move
  behind = closes_of rising ++ run

  -- It is shut.
  pub is_shut : (outputs put_out : List Output) → put_out ≡ put_all outputs (Did CloseClient ∷ closed_all rising) → IsShut setup run s outputs put_out
  is_shut outputs put_out puts = record {
    moves = shuts setup behind closed.state closed.exhausted ∷ closes_of rising;
    state = shut_state setup behind closed.state closed.exhausted;
    by_rule = (closed.state, closed.by_rule, may_shut setup behind closed.state closed.exhausted, refl);
    puts = puts ∙ ap (λ (t : List Entry). put_all outputs (Did CloseClient ∷ t)) (sym (closes_tape rising));
    are_own = subst AreOwn (sym (closes_tape rising)) (closed_own rising);
    closed = refl;
    stands = shut_stands setup behind closed.state closed.exhausted;
    rests = shut_rests_behind setup behind closed.state closed.exhausted;
    so = so_stays setup behind (Acts CloseClient) tt closed.exhausted.so;
  }
