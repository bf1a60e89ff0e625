use Rattle.std.proofs.Common.{ap, sym, ◌∙◌, subst}
use Rattle.connection_state.specs.Inbound.{Inbound, book_of}
use Rattle.theory_errors.specs.Tidy.{AreKept}
use Rattle.frames.specs.Views.{frame_of}
use Rattle.connection_state.proofs.Controls.{quiet_fault, quiet_behind, control_plain}
use Rattle.connection_state.proofs.Answering.{no_block_of}
use Rattle.connection_state.proofs.connection.Connection.take_quiet.Goals as goal

pub hear-requires : goal.hear-requires
hear-requires c = no_block_of c.args.self.now (frame_of c.args.view) (control_plain (frame_of c.args.view) c.requires.quiet.control) c.requires.sound

pub returns-clause-faultless : goal.returns-clause-faultless
returns-clause-faultless c = λ outside. quiet_fault (book_of outside c.args.self.now) (frame_of c.args.view) c.requires.quiet (c.requires.sound outside)

pub returns-clause-left : goal.returns-clause-left
returns-clause-left c = λ setup outside.
    ap (book_of outside) c.hear.ensures.is ∙ sym (quiet_behind setup (book_of outside c.args.self.now) (frame_of c.args.view) c.requires.quiet (c.requires.sound outside) (subst (λ (x : Inbound). AreKept x.rows) c.hear.ensures.is c.hear.ensures.kept))
