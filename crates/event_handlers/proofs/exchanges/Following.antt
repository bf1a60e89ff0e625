-- Something came in, and then the gateway did something of its own.
use Rattle.std.proofs.Common.{List, ◌∷◌, [], ◌++◌, sym, ◌∙◌, ap, append_assoc}
use Rattle.model.specs.Logs.{Output}
use Rattle.model.specs.Setup.{Setup}
use Rattle.model.specs.Tapes.{Entry}
use Rattle.theory.specs.Moves.{Move}
use Rattle.theory.specs.State.{State, tape_of}
use Rattle.refinement.specs.View.{View, Pending}
use Rattle.refinement.specs.Bringing.{Course, PerformsOwn}
use Rattle.refinement.proofs.Bringing.{segments_then, own_behind}
use Rattle.refinement.proofs.Performing.{tape_behind}

pub course_own : (setup : Setup) (run : List Move) (s : State) (o p q : List Output) (b c : View) (y z : Pending) (entry : Entry) → Course setup run s o entry b y p → PerformsOwn setup b y p c z q → Course setup run s o entry c z q
course_own setup run s o p q b c y z entry one later =
    let two = later (one.segment.moves ++ run) one.segment.state one.segment.leads in
    record {
      segment = segments_then setup run s o p q b c y z one.segment two.segment;
      own = tape_of two.segment.moves ++ one.own;
      begins = tape_behind two.segment.moves one.segment.moves ∙ ap (λ (u : List Entry). tape_of two.segment.moves ++ u) one.begins ∙ sym (append_assoc (tape_of two.segment.moves) one.own (entry ∷ []));
      are_own = own_behind (tape_of two.segment.moves) one.own two.are_own one.are_own;
    }
