use Rattle.std.proofs.Common.{◌≡◌, ℕ, Bool, true, false, List, Some, None, refl, sym, ◌∙◌, ap, subst}
use Rattle.model.specs.Messages.{Field}
use Rattle.model.specs.ErrorTable.{fault_of}
use Rattle.model.specs.FrameErrors.{fault_if}
use Rattle.model.specs.Errors.Fault.{Stream}
use Rattle.theory_errors.specs.Summary.{Outline, carried_in}
use Rattle.theory_errors.specs.Rows.{Row, find}
use Rattle.local_replies.specs.Views.{cause_of}
use Rattle.local_replies.specs.Openings.{ComesTo, is_bad_head}
use Rattle.streams.specs.Asked.{verdict}
use Rattle.streams.specs.Views.{outline_of}
use Rattle.streams.specs.declared.course.Course.{Course}
use Rattle.connection_state.specs.Blocks.{fault_on}
use Rattle.connection_state.proofs.Kept.{if_ok}
use Rattle.connection_state.proofs.Settling.{malformed_by, bad_head, cause_of_first, no_reply}
use Rattle.connection_state.proofs.blocks.take_head.Goals as goal

-- its fault, by whether it is malformed
found : (rows : List Row) (id : ℕ) (fields : List Field) (ends : Bool) (course : Course) (bad : Bool) → fault_of (verdict false rows id 1) ≡ None → outline_of course ≡ (find rows id).outline → course.begun ≡ false → course.reply ≡ None
    → is_bad_head fields ends ≡ bad → fault_on rows id fields ends ≡ fault_if bad (Stream 1)
found rows id fields ends course bad passes same begun none is = malformed_by rows id fields ends (outline_of course) bad passes same (bad_head (outline_of course) fields ends bad (no_reply course (outline_of course) refl none) begun is)

pub returns-in-Malformed-clause-settled : goal.returns-in-Malformed-clause-settled
returns-in-Malformed-clause-settled c = if_ok c.fail.result c.fail.ensures.settled (λ answer settles setup for.
    let comes = subst (ComesTo setup c.args.fields.now c.args.ends) c.in-Malformed.is (c.in_ok-judge_head.ensures setup for.routes for.max_body) in
    settles setup c.args.fields.now c.args.ends (found c.args.streams.now c.args.id c.args.fields.now c.args.ends c.args.before.course true c.requires.passes c.requires.course c.requires.begun c.requires.none_yet comes))

pub returns-in-Answered-clause-settled : goal.returns-in-Answered-clause-settled
returns-in-Answered-clause-settled c = if_ok c.answer.result c.answer.ensures.settled (λ answer settles setup for.
    let comes = subst (ComesTo setup c.args.fields.now c.args.ends) c.in-Answered.is (c.in_ok-judge_head.ensures setup for.routes for.max_body) in
    settles setup c.args.fields.now (found c.args.streams.now c.args.id c.args.fields.now c.args.ends c.args.before.course false c.requires.passes c.requires.course c.requires.begun c.requires.none_yet comes.0)
    (cause_of_first setup (carried_in (find c.args.streams.now c.args.id).outline) c.args.fields.now (Some (cause_of c.in-Answered.cause)) (sym (ap (λ (b : Outline). b.begun) c.requires.course) ∙ c.requires.begun) comes.1.because))

pub returns-in-Forwarded-clause-settled : goal.returns-in-Forwarded-clause-settled
returns-in-Forwarded-clause-settled c = if_ok c.begin.result c.begin.ensures.settled (λ answer settles setup for.
    let comes = subst (ComesTo setup c.args.fields.now c.args.ends) c.in-Forwarded.is (c.in_ok-judge_head.ensures setup for.routes for.max_body) in
    settles setup c.args.fields.now (found c.args.streams.now c.args.id c.args.fields.now c.args.ends c.args.before.course false c.requires.passes c.requires.course c.requires.begun c.requires.none_yet comes.0) comes.1)
