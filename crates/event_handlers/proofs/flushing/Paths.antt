-- Moves from one state in its form to another, and what they put out.
use Rattle.std.proofs.Common.{◌≡◌, ℕ, Bool, true, false, List, [], ◌∷◌, ◌++◌, Option, None, refl, sym, ◌∙◌, ap, subst, append_assoc}
use Rattle.std.specs.Prelude.{Some}
use Rattle.model.specs.Frames.{Frame, Fits, spell}
use Rattle.model.specs.Logs.{Output}
use Rattle.model.specs.Logs.Output.{ToClient}
use Rattle.model.specs.Setup.{Setup}
use Rattle.model.specs.Tapes.{Entry, put, put_entry}
use Rattle.model.specs.Tables.{Table}
use Rattle.model.specs.Tapes.{Noted}
use Rattle.model.specs.Openings.{Opened}
use Rattle.model.specs.Decoding.{Partial}
use Rattle.model.specs.Messages.{Item}
use Rattle.theory_responses.specs.Outbox.{Part}
use Rattle.theory_receive_windows.specs.State as theory_receive_windows
use Rattle.theory_header_tables.specs.State as theory_header_tables
use Rattle.upstream_connections.specs.Connections.{Connection, number_of}
use Rattle.theory_responses.specs.Sight.{sight_in}
use Rattle.window_credit.specs.Sides.{Side, unless_over}
use Rattle.theory.specs.Moves.{Decision, Move, entry_of, window_of}
use Rattle.theory.specs.Moves.Decision.{Sends, Goes}
use Rattle.theory.specs.Moves.Move.{Does}
use Rattle.theory.specs.State.{State, tape_of}
use Rattle.theory.specs.Rule.{rooms_in}
use Rattle.theory.specs.Steps.{Stands, told_by, told_behind, next, MayGoOn}
use Rattle.theory.specs.Steps as theory
use Rattle.theory.proofs.Stepping.{one_more, leads_then}
use Rattle.refinement.specs.View.{View, balanced, IsCredited, AreMarked, AreHeard, Leads, AreSo}
use Rattle.refinement.specs.Performing.{put_all}
use Rattle.refinement.specs.Bringing.{AreOwn, OwnSegment}
use Rattle.refinement.proofs.Performing.{tape_behind, put_behind}
use Rattle.refinement.proofs.Bringing.{own_behind}
use Rattle.refinement.proofs.Staying.{so_stays, heard_stays}
use Rattle.refinement.proofs.Marking.{rooms_next}
use Rattle.event_handlers.proofs.flushing.Placed.{state_at, owing, back_if, newest_of, At, at_led, state_is}
use Rattle.theory_requests.specs.Lines.{find}

-- Moves lead on from one to the other, nothing comes in with them, and they put this out.
pub record Path (setup : Setup) (run : List Move) (u : View) (owed : List Frame) (begun : Option Partial) (outputs : List Output) (v : View) (owed' : List Frame) (begun' : Option Partial) (put_out : List Output) (given : List Opened) (rest : theory_header_tables.State) (windows windows' : theory_receive_windows.Kept) : Type 0 where
  pub moves : List Move
  pub by_rule : theory.Leads setup (state_at u owed begun given rest windows) moves (state_at v owed' begun' given rest windows')
  pub at : At setup (moves ++ run) v owed' begun' given rest windows'
  pub own : AreOwn (tape_of moves)
  pub puts : put_out ≡ put_all outputs (tape_of moves)

module _ (setup : Setup) (given : List Opened) (rest : theory_header_tables.State) where
  -- one behind another
  pub path_then : (windows windows' windows'' : theory_receive_windows.Kept) (run : List Move) (u v w : View) (x y z : List Frame) (a b c : Option Partial) (o p q : List Output)
      → (one : Path setup run u x a o v y b p given rest windows windows') → Path setup (one.moves ++ run) v y b p w z c q given rest windows' windows'' → Path setup run u x a o w z c q given rest windows windows''
  path_then windows windows' windows'' run u v w x y z a b c o p q one two = record {
    moves = two.moves ++ one.moves;
    by_rule = leads_then setup (state_at u x a given rest windows) (state_at v y b given rest windows') (state_at w z c given rest windows'') one.moves two.moves one.by_rule two.by_rule;
    at = subst (λ (run : List Move). At setup run w z c given rest windows'') (sym (append_assoc two.moves one.moves run)) two.at;
    own = subst AreOwn (sym (tape_behind two.moves one.moves)) (own_behind (tape_of two.moves) (tape_of one.moves) two.own one.own);
    puts = two.puts ∙ ap (λ (o : List Output). put_all o (tape_of two.moves)) one.puts ∙ sym (put_behind o (tape_of two.moves) (tape_of one.moves)) ∙ ap (λ (t : List Entry). put_all o t) (sym (tape_behind two.moves one.moves));
  }

  -- one move, with which a frame goes out, with which its stream is over or isn't
  module _ (windows : theory_receive_windows.Kept) (run : List Move) (u : View) (owed : List Frame) (begun : Option Partial) (at : At setup run u owed begun given rest windows) (v : View) (owed' : List Frame) (begun' : Option Partial) (outputs : List Output)
      (live_same : v.upstreams.live ≡ u.upstreams.live) (over : Bool) (id : ℕ) (marks_are : unless_over over id u.marks ≡ v.marks) (own_same : IsCredited (record balanced { shared = (back_if over id u windows).debt }) v.inbound (back_if over id u windows)) where
    abbrev s : State
    s = state_at u owed begun given rest windows

    abbrev windows_now : theory_receive_windows.Kept
    windows_now = back_if over id u windows

    counts_same : (b : Bool) → ((back_if b id u windows).out ≡ windows.out) × ((back_if b id u windows).took ≡ windows.took)
    counts_same true = (refl, refl)
    counts_same false = (refl, refl)

    one_move : (d : Decision) (may : MayGoOn setup s (Does d)) → next setup s (Does d) ≡ state_at v owed' begun' given rest windows_now → (so : AreSo setup (Does d ∷ run)) → AreHeard setup (Does d ∷ run) u.upstreams.live
        → AreMarked setup.passing (newest_of given) (unless_over over id u.marks) (theory_receive_windows.after setup.passing (rooms_in (told_by s) s) (window_of (sight_in (told_by s)) (sight_in (told_behind setup s d)) d))
        → AreOwn (entry_of d ∷ []) → Path setup run u owed begun outputs v owed' begun' (put_entry outputs (entry_of d)) given rest windows windows_now
    one_move d may leads so heard marked own = record {
      moves = Does d ∷ [];
      by_rule = (s, refl, may, sym leads);
      at = record {
        stands = subst (Stands setup (Does d ∷ run)) leads (one_more setup run s (Does d) at.stands may);
        so = so;
        heard = subst (AreHeard setup (Does d ∷ run)) (sym live_same) heard;
        credited = own_same;
        counted = λ k c found.
            let was = at.counted k c (subst (λ (cs : List Connection). find number_of k cs ≡ Some c) live_same found) in
            let same = counts_same over in (
              ap (λ (f : ℕ → ℕ). f k) same.0 ∙ was.0,
              ap (λ (f : ℕ → ℕ). f k) same.1 ∙ was.1,
            );
        marked =
            subst (λ (ms : List Side). AreMarked setup.passing (newest_of given) ms (rooms_in (told_by (state_at v owed' begun' given rest windows_now)) (state_at v owed' begun' given rest windows_now))) marks_are
            (subst (λ (x : State). AreMarked setup.passing (newest_of given) (unless_over over id u.marks) (rooms_in (told_by x) x)) leads
            (subst (AreMarked setup.passing (newest_of given) (unless_over over id u.marks)) (sym (rooms_next setup run s at.stands at.so d may so)) marked));
      };
      own = own;
      puts = refl;
    }

    -- a frame that brings no stream an item
    pub sends_path : (noted : Noted) (table : Table) → Fits noted.frame → MayGoOn setup s (Does (Sends noted table)) → next setup s (Does (Sends noted table)) ≡ state_at v owed' begun' given rest windows_now
        → AreMarked setup.passing (newest_of given) (unless_over over id u.marks) (theory_receive_windows.after setup.passing (rooms_in (told_by s) s) (window_of (sight_in (told_by s)) (sight_in (told_behind setup s (Sends noted table))) (Sends noted table)))
        → Path setup run u owed begun outputs v owed' begun' (put outputs (ToClient (spell noted.frame))) given rest windows windows_now
    sends_path noted table fits may leads marked =
        one_move (Sends noted table) may leads (so_stays setup run (Sends noted table) tt at.so) (heard_stays setup run s at.stands at.so u.upstreams.live refl (Sends noted table) tt at.heard) marked (fits, tt)

    -- one with which a part is complete
    pub part_path : (noted : Noted) (item : Item) (part : Part) (table : Table) → Fits noted.frame → MayGoOn setup s (Does (Goes noted item part table)) → next setup s (Does (Goes noted item part table)) ≡ state_at v owed' begun' given rest windows_now
        → AreMarked setup.passing (newest_of given) (unless_over over id u.marks) (theory_receive_windows.after setup.passing (rooms_in (told_by s) s) (window_of (sight_in (told_by s)) (sight_in (told_behind setup s (Goes noted item part table))) (Goes noted item part table)))
        → Path setup run u owed begun outputs v owed' begun' (put outputs (ToClient (spell noted.frame))) given rest windows windows_now
    part_path noted item part table fits may leads marked =
        one_move (Goes noted item part table) may leads (so_stays setup run (Goes noted item part table) tt at.so) (heard_stays setup run s at.stands at.so u.upstreams.live refl (Goes noted item part table) tt at.heard) marked (fits, tt)

-- A path from where moves led performs.
pub path_performs : (setup : Setup) (run : List Move) (s : State) (u v : View) (x y : List Frame) (o p : List Output) (back : ℕ) (windows : theory_receive_windows.Kept) → (leads : Leads setup run u (owing x back) s)
    → Path setup run u x None o v y None p s.ledger.book.given s.tables s.windows windows → OwnSegment setup run s o v (owing y windows.debt) p
path_performs setup run s u v x y o p back windows leads path = record {
  segment = record {
    moves = path.moves;
    state = state_at v y None s.ledger.book.given s.tables windows;
    by_rule = subst (λ (old : State). theory.Leads setup old path.moves (state_at v y None s.ledger.book.given s.tables windows)) (sym (state_is u x back s leads.keeps)) path.by_rule;
    leads = at_led setup (path.moves ++ run) v y s.ledger.book.given s.tables windows path.at;
    puts = path.puts;
  };
  are_own = path.own;
}
