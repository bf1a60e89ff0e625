-- Parts of a step with which nothing comes in, one behind another, and behind one with which something does.
use Rattle.std.proofs.Common.{List, [], ◌∷◌, ◌++◌, refl, sym, ◌∙◌, ap, subst, append_assoc}
use Rattle.model.specs.Logs.{Output}
use Rattle.model.specs.Setup.{Setup}
use Rattle.model.specs.Tapes.{Entry}
use Rattle.model.specs.Tapes.Entry.{Came, Breached, Happened, Sent, Did}
use Rattle.theory.specs.Moves.{Move}
use Rattle.theory.specs.State.{State, tape_of}
use Rattle.theory.proofs.Stepping.{leads_then}
use Rattle.refinement.specs.View.{View, Pending, Leads}
use Rattle.refinement.specs.Performing.{put_all, Segment, Performs}
use Rattle.refinement.specs.Bringing.{AreOwn, PerformsOwn, Brings}
use Rattle.refinement.proofs.Performing.{tape_behind, put_behind}

-- what is the gateway's own, behind what is
pub own_behind : (later earlier : List Entry) → AreOwn later → AreOwn earlier → AreOwn (later ++ earlier)
own_behind [] earlier own before = before
own_behind (Sent noted ∷ later) earlier own before = (own.0, own_behind later earlier own.1 before)
own_behind (Did act ∷ later) earlier own before = own_behind later earlier own before
own_behind (Came noted ∷ later) earlier own before = absurd own
own_behind (Breached breach ∷ later) earlier own before = absurd own
own_behind (Happened event ∷ later) earlier own before = absurd own

-- moves behind moves that led on lead on
abbrev pub segments_then : (setup : Setup) (run : List Move) (s : State) (o p q : List Output) (b c : View) (y z : Pending) → (one : Segment setup run s o b y p) → Segment setup (one.moves ++ run) one.state p c z q → Segment setup run s o c z q
segments_then setup run s o p q b c y z one two = record {
  moves = two.moves ++ one.moves;
  state = two.state;
  by_rule = leads_then setup s one.state two.state one.moves two.moves one.by_rule two.by_rule;
  leads = subst (λ (run : List Move). Leads setup run c z two.state) (sym (append_assoc two.moves one.moves run)) two.leads;
  puts = two.puts ∙ ap (λ (o : List Output). put_all o (tape_of two.moves)) one.puts ∙ sym (put_behind o (tape_of two.moves) (tape_of one.moves)) ∙ ap (λ (t : List Entry). put_all o t) (sym (tape_behind two.moves one.moves));
}

-- Nothing is done.
pub own_none : (setup : Setup) (kept : View) (pending : Pending) (outputs : List Output) → PerformsOwn setup kept pending outputs kept pending outputs
own_none setup kept pending outputs run s leads = record { segment = record { moves = []; state = s; by_rule = refl; leads = leads; puts = refl }; are_own = tt }

-- One part with which nothing comes in is done, and then another.
pub own_then : (setup : Setup) (a b c : View) (x y z : Pending) (o p q : List Output) → PerformsOwn setup a x o b y p → PerformsOwn setup b y p c z q → PerformsOwn setup a x o c z q
own_then setup a b c x y z o p q first later run s leads =
    let one = first run s leads in
    let two = later (one.segment.moves ++ run) one.segment.state one.segment.leads in
    record {
      segment = segments_then setup run s o p q b c y z one.segment two.segment;
      are_own = subst AreOwn (sym (tape_behind two.segment.moves one.segment.moves)) (own_behind (tape_of two.segment.moves) (tape_of one.segment.moves) two.are_own one.are_own);
    }

-- Something comes in with a part that is done, and then another part with which nothing does.
pub brings_then : (setup : Setup) (a b c : View) (x y z : Pending) (o p q : List Output) (entry : Entry) → Brings setup a x o entry b y p → PerformsOwn setup b y p c z q → Brings setup a x o entry c z q
brings_then setup a b c x y z o p q entry first later run s leads =
    let one = first run s leads in
    let two = later (one.segment.moves ++ run) one.segment.state one.segment.leads in
    record {
      segment = segments_then setup run s o p q b c y z one.segment two.segment;
      own = tape_of two.segment.moves ++ one.own;
      begins = tape_behind two.segment.moves one.segment.moves ∙ ap (λ (t : List Entry). tape_of two.segment.moves ++ t) one.begins ∙ sym (append_assoc (tape_of two.segment.moves) one.own (entry ∷ []));
      are_own = own_behind (tape_of two.segment.moves) one.own two.are_own one.are_own;
    }

-- Both perform.
pub own_performs : (setup : Setup) (a b : View) (x y : Pending) (o p : List Output) → PerformsOwn setup a x o b y p → Performs setup a x o b y p
own_performs setup a b x y o p own run s leads = (own run s leads).segment

pub brings_performs : (setup : Setup) (a b : View) (x y : Pending) (o p : List Output) (entry : Entry) → Brings setup a x o entry b y p → Performs setup a x o b y p
brings_performs setup a b x y o p entry brings run s leads = (brings run s leads).segment
