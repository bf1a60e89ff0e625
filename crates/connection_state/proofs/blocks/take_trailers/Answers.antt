use Rattle.std.proofs.Common.{◌≡◌, ℕ, Bool, true, false, List, None, [], ◌∷◌, refl, sym, ◌∙◌, ap}
use Rattle.std.specs.Prelude.{◌≤◌, is_some, not, ◌&&◌, ◌||◌, Option}
use Rattle.model.specs.Messages.{Field}
use Rattle.model.specs.Messages.Item.{Block}
use Rattle.model.specs.Setup.{Setup}
use Rattle.model.specs.Tapes.Note.{Fields}
use Rattle.model.specs.Http2.{declared_length}
use Rattle.model.specs.Tables.{total_size}
use Rattle.model.specs.Causes.{are_large}
use Rattle.model.specs.Limits.{largest_fields}
use Rattle.model.specs.Malformed.{are_trailers, has_length, is_malformed_block}
use Rattle.model.specs.ErrorTable.{fault_of, is_bad_block}
use Rattle.model.specs.FrameErrors.{fault_if}
use Rattle.model.specs.Errors.Fault.{Stream}
use Rattle.theory_errors.specs.Summary.{Outline, carried_in}
use Rattle.theory_errors.specs.Owing.{outline_behind}
use Rattle.theory_errors.specs.Rows.{Row, find, slot_of}
use Rattle.local_replies.specs.Openings.{behind_head}
use Rattle.streams.specs.Asked.{verdict}
use Rattle.streams.specs.Views.{outline_of}
use Rattle.streams.specs.declared.course.Course.{Course}
use Rattle.connection_state.specs.Blocks.{placed, kept_so, kept_with, fault_on}
use Rattle.connection_state.proofs.Kept.{if_ok}
use Rattle.connection_state.proofs.Settling.{left_by, malformed_by, bad_trailers, cause_of_trailers, fits_is_small, no_reply, over_is, none_joins}
use Rattle.connection_state.proofs.blocks.take_trailers.Goals as goal

-- its fault, by what was tested
found : (rows : List Row) (id : ℕ) (fields : List Field) (ends : Bool) (course : Course) (octets : ℕ) (test : Bool) → fault_of (verdict false rows id 1) ≡ None → outline_of course ≡ (find rows id).outline → course.begun ≡ true → course.reply ≡ None → octets ≡ course.octets
    → ((waits : Bool) → test ≡ is_bad_block (behind_head course.declared octets waits) ends (Fields fields)) → fault_on rows id fields ends ≡ fault_if test (Stream 1)
found rows id fields ends course octets test passes same begun none count tests =
    malformed_by rows id fields ends (outline_of course) test passes same (bad_trailers (outline_of course) fields ends test (no_reply course (outline_of course) refl none) begun (
    ap (λ n. is_bad_block (behind_head course.declared n (is_some (outline_of course).cause)) ends (Fields fields)) (sym count) ∙ sym (tests (is_some (outline_of course).cause))
    ))

-- trailers without a fault keep the rules
kept_rules : (fields : List Field) (ends : Bool) (declared : Option ℕ) (octets : ℕ) (test : Bool) → test ≡ false → test ≡ is_bad_block (behind_head declared octets false) ends (Fields fields) → are_large fields ≡ false → are_trailers fields ≡ true
kept_rules fields ends declared octets test none is small =
    by ends (are_trailers fields) (not (has_length declared octets)) (sym (ap (λ b. not b && is_malformed_block (behind_head declared octets false) fields ends) small) ∙ sym is ∙ none)
  where
    by : (e t l : Bool) → (not e || not t || l) ≡ false → t ≡ true
    by e true l x = refl
    by true false l x = let clash : true ≡ false = x in cc
    by false false l x = let clash : true ≡ false = x in cc

-- the rows that it leaves
left : (setup : Setup) (rows new : List Row) (id : ℕ) (fields : List Field) (ends : Bool) (before next : Course) → outline_of before ≡ (find rows id).outline → before.begun ≡ true → total_size fields ≤ largest_fields
    → ((line : List Field) (out : Bool) → (before.begun ≡ false → declared_length line ≡ None) → outline_of next ≡ outline_behind (outline_of before) false (Block line ends ∷ []) None out)
    → new ≡ placed rows id (slot_of (kept_so (find rows id) (outline_of next) ends)) → new ≡ placed rows id (slot_of (kept_with setup (find rows id) fields ends))
left setup rows new id fields ends before next same begun fits next_is new_is =
    left_by setup rows new id fields ends (outline_of next) None new_is (cause_of_trailers setup (carried_in (find rows id).outline) fields (sym (ap (λ (b : Outline). b.begun) same) ∙ begun) (fits_is_small fields fits))
    (next_is fields (find rows id).head_out (λ first. absurd (let no : true ≡ false = sym begun ∙ first in cc)) ∙ ap (λ (b : Outline). outline_behind b false (Block fields ends ∷ []) None (find rows id).head_out) same)

pub returns-then-are_malformed_trailers-clause-settled : goal.returns-then-are_malformed_trailers-clause-settled
returns-then-are_malformed_trailers-clause-settled c = if_ok c.fail.result c.fail.ensures.settled (λ answer settles setup.
    settles setup c.args.fields.now c.args.ends (
    found c.args.streams.now c.args.id c.args.fields.now c.args.ends c.args.course c.from.result c.are_malformed_trailers.result c.requires.passes c.requires.course c.requires.begun c.requires.none_yet c.from.ensures c.are_malformed_trailers.ensures
    ∙ ap (λ x. fault_if x (Stream 1)) c.if-are_malformed_trailers.true
    ))

pub returns-then-course-clause-settled : goal.returns-then-course-clause-settled
returns-then-course-clause-settled c = λ setup. record {
  faultless =
      found c.args.streams.now c.args.id c.args.fields.now c.args.ends c.args.course c.from.result c.are_malformed_trailers.result c.requires.passes c.requires.course c.requires.begun c.requires.none_yet c.from.ensures c.are_malformed_trailers.ensures
      ∙ ap (λ x. fault_if x (Stream 1)) c.if-are_malformed_trailers.false;
  left = left setup c.args.streams.now c.keep.new.streams c.args.id c.args.fields.now c.args.ends c.args.course c.with_block.result c.requires.course c.requires.begun c.requires.fits c.with_block.ensures c.in_ok-keep.ensures.is;
  says = (
    over_is c.args.course (find c.args.streams.now c.args.id).outline true c.requires.course c.requires.none_yet c.if-course.true,
    none_joins (find c.args.streams.now c.args.id).outline.cause (cause_of_trailers setup (carried_in (find c.args.streams.now c.args.id).outline) c.args.fields.now (sym (ap (λ (b : Outline). b.begun) c.requires.course) ∙ c.requires.begun) (fits_is_small c.args.fields.now c.requires.fits)),
  );
}

pub returns-clause-settled : goal.returns-clause-settled
returns-clause-settled c = λ setup. record {
  faultless =
      found c.args.streams.now c.args.id c.args.fields.now c.args.ends c.args.course c.from.result c.are_malformed_trailers.result c.requires.passes c.requires.course c.requires.begun c.requires.none_yet c.from.ensures c.are_malformed_trailers.ensures
      ∙ ap (λ x. fault_if x (Stream 1)) c.if-are_malformed_trailers.false;
  left = left setup c.args.streams.now c.keep.new.streams c.args.id c.args.fields.now c.args.ends c.args.course c.with_block.result c.requires.course c.requires.begun c.requires.fits c.with_block.ensures c.in_ok-keep.ensures.is;
  says = (
    sym (ap (λ (b : Outline). b.begun) c.requires.course) ∙ c.requires.begun,
    over_is c.args.course (find c.args.streams.now c.args.id).outline false c.requires.course c.requires.none_yet c.if-course.false,
    cause_of_trailers setup (carried_in (find c.args.streams.now c.args.id).outline) c.args.fields.now (sym (ap (λ (b : Outline). b.begun) c.requires.course) ∙ c.requires.begun) (fits_is_small c.args.fields.now c.requires.fits),
    c.in_ok-trailers.ensures,
  );
}

-- those that aren't malformed keep the rules
pub passed-requires : goal.passed-requires
passed-requires c =
    kept_rules c.args.fields.now c.args.ends c.args.course.declared c.from.result c.are_malformed_trailers.result c.if-are_malformed_trailers.false (c.are_malformed_trailers.ensures false) (fits_is_small c.args.fields.now c.requires.fits)
