use Rattle.std.proofs.Common.{false, List, [], ◌∷◌, refl, sym, ◌∙◌}
use Rattle.std.specs.Prelude.{is_some}
use Rattle.model.specs.Messages.Item.{Block}
use Rattle.theory_errors.specs.Summary.{Outline}
use Rattle.theory_errors.specs.Rows.{Row, find}
use Rattle.streams.specs.Views.{outline_of}
use Rattle.model.specs.Tapes.Note.{Fields}
use Rattle.model.specs.Courses.{cause_of_block}
use Rattle.theory_errors.specs.Summary.{carried_in}
use Rattle.connection_state.proofs.Settling.{left_by, reply_so, malformed_by, replied_is_well, over_same, cause_stays}
use Rattle.connection_state.proofs.blocks.pass_over.Goals as goal

pub returns-clause-settled : goal.returns-clause-settled
returns-clause-settled c = λ setup fields.
    let rows : List Row = c.args.streams.now in
    let outline : Outline = (find rows c.args.id).outline in
    let cause = cause_of_block setup (carried_in outline) (Fields fields) in
    let replied = reply_so c.args.course outline c.requires.course c.requires.replied in
    record {
      faultless = malformed_by rows c.args.id fields c.args.ends outline false c.requires.passes refl (replied_is_well outline fields c.args.ends replied.0);
      left = left_by setup rows c.keep.new.streams c.args.id fields c.args.ends (outline_of c.args.course) cause c.in_ok-keep.ensures.is refl (
          c.requires.course ∙ sym (over_same outline (is_some cause) (Block fields c.args.ends ∷ []) cause (find rows c.args.id).head_out replied.1 replied.0)
          );
      says = (replied.1, cause_stays outline.cause cause replied.0);
    }
