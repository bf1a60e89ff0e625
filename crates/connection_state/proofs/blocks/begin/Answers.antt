use Rattle.std.proofs.Common.{◌≡◌, ℕ, Bool, true, false, List, Option, None, [], ◌∷◌, sym, ◌∙◌, ap}
use Rattle.model.specs.Messages.{Field}
use Rattle.model.specs.Messages.Item.{Block}
use Rattle.model.specs.Setup.{Setup}
use Rattle.model.specs.Http2.{declared_length}
use Rattle.theory_errors.specs.Summary.{Outline, carried_in}
use Rattle.theory_errors.specs.Owing.{outline_behind}
use Rattle.theory_errors.specs.Rows.{Row, find, slot_of}
use Rattle.request_rules.specs.Heads.{HeadParts}
use Rattle.local_replies.specs.Openings.{GoesOn}
use Rattle.streams.specs.Views.{outline_of}
use Rattle.streams.specs.declared.course.Course.{Course}
use Rattle.connection_state.specs.Blocks.{placed, kept_so, kept_with}
use Rattle.connection_state.proofs.Settling.{left_by, cause_of_first, over_is, none_joins}
use Rattle.connection_state.proofs.blocks.begin.Goals as goal

-- the rows that a head leaves which goes on
left : (setup : Setup) (rows new : List Row) (id : ℕ) (fields : List Field) (ends : Bool) (head : HeadParts) (route : ℕ) (before next : Course) (length : Option ℕ) → outline_of before ≡ (find rows id).outline → before.begun ≡ false → GoesOn setup fields ends head route
    → length ≡ head.length
    → ((line : List Field) (out : Bool) → (before.begun ≡ false → declared_length line ≡ length) → outline_of next ≡ outline_behind (outline_of before) false (Block line ends ∷ []) None out)
    → new ≡ placed rows id (slot_of (kept_so (find rows id) (outline_of next) ends)) → new ≡ placed rows id (slot_of (kept_with setup (find rows id) fields ends))
left setup rows new id fields ends head route before next length same begun on length_is next_is new_is =
    left_by setup rows new id fields ends (outline_of next) None new_is (cause_of_first setup (carried_in (find rows id).outline) fields None (sym (ap (λ (b : Outline). b.begun) same) ∙ begun) on.no_cause)
    (next_is fields (find rows id).head_out (λ first. sym (length_is ∙ ap (λ (h : HeadParts). h.length) on.parts)) ∙ ap (λ (b : Outline). outline_behind b false (Block fields ends ∷ []) None (find rows id).head_out) same)

pub returns-then-course-clause-settled : goal.returns-then-course-clause-settled
returns-then-course-clause-settled c = λ setup fields faultless on. record {
  faultless = faultless;
  left = left setup c.args.streams.now c.keep.new.streams c.args.id fields c.args.ends c.args.head c.args.route c.args.course c.with_block-next.result c.length.result c.requires.course c.requires.begun on c.length.ensures c.with_block-next.ensures c.in_ok-keep.ensures.is;
  says = (
    over_is c.args.course (find c.args.streams.now c.args.id).outline true c.requires.course c.requires.none_yet c.if-course.true,
    none_joins (find c.args.streams.now c.args.id).outline.cause (cause_of_first setup (carried_in (find c.args.streams.now c.args.id).outline) fields None (sym (ap (λ (b : Outline). b.begun) c.requires.course) ∙ c.requires.begun) on.no_cause),
  );
}

pub returns-clause-settled : goal.returns-clause-settled
returns-clause-settled c = λ setup fields faultless on. record {
  faultless = faultless;
  left = left setup c.args.streams.now c.keep.new.streams c.args.id fields c.args.ends c.args.head c.args.route c.args.course c.with_block-next.result c.length.result c.requires.course c.requires.begun on c.length.ensures c.with_block-next.ensures c.in_ok-keep.ensures.is;
  says = (sym (ap (λ (b : Outline). b.begun) c.requires.course) ∙ c.requires.begun, over_is c.args.course (find c.args.streams.now c.args.id).outline false c.requires.course c.requires.none_yet c.if-course.false, on);
}
