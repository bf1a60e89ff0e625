-- Parts of a step, one behind another.
use Rattle.std.proofs.Common.{◌≡◌, List, [], ◌∷◌, ◌++◌, refl, sym, ◌∙◌, ap, subst, append_assoc}
use Rattle.model.specs.Logs.{Output}
use Rattle.model.specs.Setup.{Setup}
use Rattle.model.specs.Tapes.{Entry, put_entry}
use Rattle.theory.specs.Moves.{Move, entry_of}
use Rattle.theory.specs.Moves.Move.{Does, Settles}
use Rattle.theory.specs.State.{tape_of}
use Rattle.theory.proofs.Stepping.{leads_then}
use Rattle.refinement.specs.View.{View, Pending, Leads}
use Rattle.refinement.specs.Performing.{put_all, Performs}

-- the tape of moves behind others
pub tape_behind : (later earlier : List Move) → tape_of (later ++ earlier) ≡ tape_of later ++ tape_of earlier
tape_behind [] earlier = refl
tape_behind (Does d ∷ later) earlier = ap (λ (t : List Entry). entry_of d ∷ t) (tape_behind later earlier)
tape_behind (Settles ∷ later) earlier = tape_behind later earlier

pub put_behind : (outputs : List Output) (later earlier : List Entry) → put_all outputs (later ++ earlier) ≡ put_all (put_all outputs earlier) later
put_behind outputs [] earlier = refl
put_behind outputs (e ∷ later) earlier = ap (λ (o : List Output). put_entry o e) (put_behind outputs later earlier)

-- Nothing is done.
pub performs_none : (setup : Setup) (kept : View) (pending : Pending) (outputs : List Output) → Performs setup kept pending outputs kept pending outputs
performs_none setup kept pending outputs run s leads = record { moves = []; state = s; by_rule = refl; leads = leads; puts = refl }

-- One part is done, and then another.
pub performs_then : (setup : Setup) (a b c : View) (x y z : Pending) (o p q : List Output) → Performs setup a x o b y p → Performs setup b y p c z q → Performs setup a x o c z q
performs_then setup a b c x y z o p q first later run s leads =
    let one = first run s leads in
    let two = later (one.moves ++ run) one.state one.leads in
    record {
      moves = two.moves ++ one.moves;
      state = two.state;
      by_rule = leads_then setup s one.state two.state one.moves two.moves one.by_rule two.by_rule;
      leads = subst (λ (run : List Move). Leads setup run c z two.state) (sym (append_assoc two.moves one.moves run)) two.leads;
      puts = two.puts ∙ ap (λ (o : List Output). put_all o (tape_of two.moves)) one.puts ∙ sym (put_behind o (tape_of two.moves) (tape_of one.moves)) ∙ ap (λ (t : List Entry). put_all o t) (sym (tape_behind two.moves one.moves));
    }
