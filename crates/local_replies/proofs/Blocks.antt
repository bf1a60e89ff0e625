-- What the tests of a header block say, by what its stream carried and by whether it is too large to be read.
use Rattle.std.proofs.Common.{◌≡◌, ◌≤◌, ◌<◌, Bool, true, false, not, ◌&&◌, List, [], ◌∷◌, ◌++◌, ap, ◌∙◌}
use Rattle.std.specs.Prelude.{Some, None}
use Rattle.std.proofs.lemmas.Bool.{lt-ltb}
use Rattle.model.specs.Messages.{Field}
use Rattle.model.specs.Tables.{total_size}
use Rattle.model.specs.Tapes.Note.{Fields}
use Rattle.model.specs.Setup.{Setup}
use Rattle.model.specs.Malformed.{Carried, is_malformed_block}
use Rattle.model.specs.Causes.{are_large, cause_if, first_cause, cause_of_head, is_routed}
use Rattle.model.specs.Limits.{largest_fields}
use Rattle.model.specs.Causes.Cause.{LargeFields, NoRoute}
use Rattle.model.specs.ErrorTable.{is_bad_block}
use Rattle.model.specs.Courses.{cause_of_block}
use Rattle.local_replies.specs.Openings.{is_bad_head, causes_without_routes, behind_head}
use Rattle.local_replies.proofs.Heads.{not_large}

-- what a stream carried, with another answer to whether its head came
abbrev with_head : Carried → Bool → Carried
with_head carried begun = record carried { begun = begun }

-- ---- the first block

pub head_bad : (carried : Carried) (fields : List Field) (ended : Bool) → carried.begun ≡ false → is_bad_block carried ended (Fields fields) ≡ is_bad_head fields ended
head_bad carried fields ended e = ap (λ begun. is_bad_block (with_head carried begun) ended (Fields fields)) e

pub head_cause : (setup : Setup) (carried : Carried) (fields : List Field) → carried.begun ≡ false → cause_of_block setup carried (Fields fields) ≡ cause_of_head setup fields
head_cause setup carried fields e = ap (λ begun. cause_of_block setup (with_head carried begun) (Fields fields)) e

-- ---- a later one

pub trailers_bad : (carried : Carried) (fields : List Field) (ended : Bool) → carried.begun ≡ true
    → is_bad_block carried ended (Fields fields) ≡ is_bad_block (behind_head carried.declared carried.octets carried.waits) ended (Fields fields)
trailers_bad carried fields ended e = ap (λ begun. is_bad_block (with_head carried begun) ended (Fields fields)) e

pub trailers_cause : (setup : Setup) (carried : Carried) (fields : List Field) → carried.begun ≡ true → total_size fields ≤ largest_fields → cause_of_block setup carried (Fields fields) ≡ None
trailers_cause setup carried fields e fits =
    ap (λ begun. cause_of_block setup (with_head carried begun) (Fields fields)) e ∙ ap (λ b. cause_if b LargeFields) (not_large fields fits)

-- ---- any that is too large: it is answered, whatever it says

pub large_good : (carried : Carried) (fields : List Field) (ended : Bool) → largest_fields < total_size fields → is_bad_block carried ended (Fields fields) ≡ false
large_good carried fields ended over = ap (λ b. not b && is_malformed_block carried fields ended) (lt-ltb largest_fields (total_size fields) over)

pub large_cause : (setup : Setup) (carried : Carried) (fields : List Field) → largest_fields < total_size fields → cause_of_block setup carried (Fields fields) ≡ Some LargeFields
large_cause setup carried fields over = by_head carried.begun (lt-ltb largest_fields (total_size fields) over)
  where
    by_head : (begun : Bool) → are_large fields ≡ true → cause_of_block setup (with_head carried begun) (Fields fields) ≡ Some LargeFields
    by_head true large = ap (λ b. cause_if b LargeFields) large
    by_head false large = ap (λ b. first_cause (cause_if b LargeFields ∷ causes_without_routes setup.max_body fields ++ cause_if (not (is_routed setup.routes fields)) NoRoute ∷ [])) large
