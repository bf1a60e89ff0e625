use Rattle.std.proofs.Common.{true, List, Some, [], ◌∷◌, ◌∙◌, ap}
use Rattle.model.specs.Messages.Item.{Block}
use Rattle.theory_errors.specs.Summary.{Outline}
use Rattle.theory_errors.specs.Owing.{outline_behind}
use Rattle.theory_errors.specs.Rows.{Row, find}
use Rattle.local_replies.specs.Views.{cause_of}
use Rattle.streams.specs.Views.{outline_of}
use Rattle.connection_state.proofs.Settling.{left_by, no_reply}
use Rattle.connection_state.proofs.blocks.answer.Goals as goal

pub returns-clause-settled : goal.returns-clause-settled
returns-clause-settled c = λ setup fields faultless cause_is.
    let rows : List Row = c.args.streams.now in
    record {
      faultless = faultless;
      left = left_by setup rows c.keep.new.streams c.args.id fields c.args.ends (outline_of c.replied-course.result) (Some (cause_of c.args.cause)) c.in_ok-keep.ensures.is cause_is (
          c.replied-course.ensures (Block fields c.args.ends ∷ [])
          ∙ ap (λ (b : Outline). outline_behind b true (Block fields c.args.ends ∷ []) (Some (cause_of c.args.cause)) c.args.before.head_out) c.requires.course
          ∙ ap (λ out. outline_behind (find rows c.args.id).outline true (Block fields c.args.ends ∷ []) (Some (cause_of c.args.cause)) out) c.requires.head_out
          );
      says = (no_reply c.args.before.course (find rows c.args.id).outline c.requires.course c.requires.none_yet, cause_is);
    }
