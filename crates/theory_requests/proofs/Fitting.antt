-- A frame without a fault that is no cause leaves its stream's items a request so far: what a sender needs to write it.
use Rattle.std.proofs.Common.{◌≡◌, ℕ, ◌+◌, Bool, true, false, not, ◌&&◌, ◌||◌, List, [], ◌∷◌, ◌++◌, length, refl, sym, ap, ◌∙◌, subst, length-append, arith}
use Rattle.std.specs.Prelude.{Option, Some, None}
use Rattle.std.specs.List.{concat}
use Rattle.std.proofs.lemmas.Bool.{leb-true, eqb-true}
use Rattle.model.specs.Messages.{Field, Item}
use Rattle.model.specs.Messages.Item.{Block}
use Rattle.model.specs.Http2.{WellFormedTrailers, HasLength, is_connect, declared_length, body_of}
use Rattle.model.specs.Malformed.{Carried, carried_by, is_well_formed, are_trailers, has_length, is_within, is_malformed_block, is_malformed_content}
use Rattle.model.specs.Setup.{Setup}
use Rattle.model.specs.Tapes.{Noted, Entry, came}
use Rattle.model.specs.Tapes.Entry.{Came}
use Rattle.model.specs.Decoding.{completed}
use Rattle.model.specs.Errors.{Fault, or_else}
use Rattle.model.specs.FrameErrors.{fault_if}
use Rattle.model.specs.Causes.{Cause, are_large, cause_if, first_cause, cause_of_head, is_routed}
use Rattle.model.specs.ErrorTable.{is_malformed, row_malformed, fault_of_rows, fault_with}
use Rattle.model.proofs.MalformedLaws.{head_holds, trailers_hold}
use Rattle.request_rules.specs.Heads.{parts_of}
use Rattle.h1_writer.specs.Sending.{Stage, HasRoom, MayPush, MayFinish}
use Rattle.h1_writer.specs.Sending.Stage.{Whole}
use Rattle.h1_writer.proofs.Wholes.{room_to_push, end_to_finish}
use Rattle.theory_requests.specs.Written.{IsWritten, IsAwaited, IsTaken}
use Rattle.theory_requests.proofs.Trailing.{bare}

-- ---- no fault

-- where neither is a fault the second isn't
second_none : (first second : Option Fault) → or_else first second ≡ None → second ≡ None
second_none None second e = e
second_none (Some fault) second e = absurd (cc)

-- a test that is no fault fails
no_fault_if : (b : Bool) (fault : Fault) → fault_if b fault ≡ None → b ≡ false
no_fault_if true fault is = absurd (cc)
no_fault_if false fault is = refl

-- a frame without a fault, on a stream that the gateway doesn't answer, isn't malformed
pub not_malformed : (own : ℕ) (carried : Carried) (t : List Entry) (noted : Noted) → fault_with own carried t (Came noted) ≡ None → carried.waits ≡ false → is_malformed carried (completed (came t) noted.frame) noted ≡ false
not_malformed own carried t noted none calm =
    let row : row_malformed carried t (Came noted) ≡ None = second_none (fault_of_rows own t (Came noted)) (row_malformed carried t (Came noted)) none in
    sym (ap (λ b. not b && is_malformed carried (completed (came t) noted.frame) noted) calm) ∙ no_fault_if (not carried.waits && is_malformed carried (completed (came t) noted.frame) noted) _ row

-- ---- tests

-- neither of two tests passes
neither : (a b : Bool) → (a || b) ≡ false → (a ≡ false) × (b ≡ false)
neither false b e = (refl, e)
neither true b e = absurd (cc)

-- a test whose opposite fails passes
pub not_not : (b : Bool) → not b ≡ false → b ≡ true
not_not true e = refl
not_not false e = absurd (cc)

-- a test that passes where another does
then_true : (a b : Bool) → (a && not b) ≡ false → a ≡ true → b ≡ true
then_true true true e on = refl
then_true true false e on = absurd (cc)
then_true false b e on = absurd (cc)

-- the first of some causes, and the others
pub no_cause : (b : Bool) (cause : Cause) (later : List (Option Cause)) → first_cause (cause_if b cause ∷ later) ≡ None → (b ≡ false) × (first_cause later ≡ None)
no_cause true cause later e = absurd (cc)
no_cause false cause later e = (refl, e)

-- ---- heads

-- the test of a length tells it
length_told : (declared : Option ℕ) (body : List ℕ) → has_length declared (length body) ≡ true → HasLength declared body
length_told None body e = tt
length_told (Some n) body e = eqb-true (length body) n e

-- a head that is neither malformed nor a cause is taken
pub head_taken : (setup : Setup) (head : List Field) (ends : Bool) → cause_of_head setup head ≡ None → is_malformed_block (carried_by [] false) head ends ≡ false → IsTaken setup head ends
head_taken setup head ends none good =
    let small = no_cause (are_large head) _ _ none in
    let plain = no_cause (is_connect head) _ _ small.1 in
    let expects = no_cause (Rattle.model.specs.Causes.has_field (Rattle.std.specs.Prelude.codes "expect") head) _ _ plain.1 in
    let length_ok = no_cause (Rattle.model.specs.Causes.declares_past setup.max_body (declared_length head)) _ _ expects.1 in
    let routed = no_cause (not (is_routed setup.routes head)) _ _ length_ok.1 in
    let rules = neither (not (is_well_formed head)) (ends && not (has_length (declared_length head) 0)) good in record {
      well_formed = head_holds head (not_not (is_well_formed head) rules.0);
      no_connect = plain.0;
      routed = not_not (is_routed setup.routes head) routed.0;
      no_body = λ e. length_told (declared_length head) [] (then_true ends (has_length (declared_length head) 0) rules.1 e);
    }

-- ---- what comes behind a head

-- behind a head and what came of its body
module _ (head : List Field) (ended : Bool) (more : List Item) where
  -- octets are within what is declared, and where they end the stream the body is as long
  content_rules : (octets : List ℕ) (ends : Bool) → is_malformed_content (carried_by (Block head ended ∷ more) false) octets ends ≡ false
      → (is_within (declared_length head) (length (body_of more) + length octets) ≡ true) × (ends ≡ true → HasLength (declared_length head) (body_of more ++ octets))
  content_rules octets ends good =
      let count = length (body_of more) + length octets in
      let rules = neither (not (is_within (declared_length head) count)) (ends && not (has_length (declared_length head) count)) good in (
        not_not (is_within (declared_length head) count) rules.0,
        λ e. length_told (declared_length head) (body_of more ++ octets) (ap (has_length (declared_length head)) (length-append (body_of more) octets) ∙ then_true ends (has_length (declared_length head) count) rules.1 e),
      )

  -- a block is of trailers: it ends the stream, behind as many octets as were declared
  trailers_rules : (fields : List Field) (ends : Bool) → is_malformed_block (carried_by (Block head ended ∷ more) false) fields ends ≡ false
      → (ends ≡ true) × WellFormedTrailers fields × HasLength (declared_length head) (body_of more)
  trailers_rules fields ends good =
      let first = neither (not ends || not (are_trailers fields)) (not (has_length (declared_length head) (length (body_of more)))) good in
      let second = neither (not ends) (not (are_trailers fields)) first.0 in (
        not_not ends second.0,
        trailers_hold fields (not_not (are_trailers fields) second.1),
        length_told (declared_length head) (body_of more) (not_not (has_length (declared_length head) (length (body_of more))) first.1),
      )

-- octets within what is declared find room behind pieces
room_told : (declared : Option ℕ) (pieces : List (List ℕ)) (octets : List ℕ) → is_within declared (length (concat pieces) + length octets) ≡ true → HasRoom declared pieces (length octets)
room_told None pieces octets e = tt
room_told (Some n) pieces octets e = leb-true (length (concat pieces) + length octets) n e

-- a body as long as declared finds room behind a head
room_whole : (declared : Option ℕ) (body : List ℕ) → HasLength declared body → HasRoom declared [] (length body)
room_whole None body e = tt
room_whole (Some n) body e = let same : length body ≡ n = e in omega (arith, same)

-- ---- of a request that goes out

module _ (keep : Bool) (items : List Item) (text : List ℕ) (stage : Stage) (w : IsWritten keep items text stage) (part : stage ≡ Whole → ⊥) where
  -- octets may be pushed, and where they end the stream the body is as long as declared
  pub content_fits : (octets : List ℕ) (ends : Bool) → is_malformed_content (carried_by items false) octets ends ≡ false → MayPush stage (length octets) × (ends ≡ true → HasLength (parts_of w.head).length (concat w.pieces ++ octets))
  content_fits octets ends good =
      let rules = content_rules w.head w.ended w.more octets ends (subst (λ xs. is_malformed_content (carried_by xs false) octets ends ≡ false) w.is good) in (
        room_to_push keep (parts_of w.head) w.ended text w.pieces stage (length octets) (bare keep items text stage w part) part
            (room_told (parts_of w.head).length w.pieces octets (ap (λ body. is_within (declared_length w.head) (length body + length octets)) w.body ∙ rules.0)),
        λ e. subst (λ body. HasLength (parts_of w.head).length (body ++ octets)) (sym w.body) (rules.1 e),
      )

  -- a block behind a head is of trailers: it ends the stream, and the text may be ended
  pub trailers_fit : (fields : List Field) (ends : Bool) → is_malformed_block (carried_by items false) fields ends ≡ false → (ends ≡ true) × WellFormedTrailers fields × MayFinish stage
  trailers_fit fields ends good =
      let rules = trailers_rules w.head w.ended w.more fields ends (subst (λ xs. is_malformed_block (carried_by xs false) fields ends ≡ false) w.is good) in
      (rules.0, rules.1, end_to_finish keep (parts_of w.head) w.ended text w.pieces stage (bare keep items text stage w part) part (subst (HasLength (parts_of w.head).length) (sym w.body) rules.2))

-- ---- of a request that waits

module _ (keep : Bool) (items : List Item) (text : List ℕ) (stage : Stage) (body : List ℕ) (w : IsAwaited keep items text stage body) where
  whole_fits : (octets : List ℕ) → HasLength (declared_length w.head) octets → MayPush stage (length octets)
  whole_fits octets whole = room_to_push keep (parts_of w.head) false text [] stage (length octets) w.sending w.part (room_whole (declared_length w.head) octets whole)

  -- octets that end the stream make the body as long as declared, and all of it may be pushed
  pub last_fits : (octets : List ℕ) → is_malformed_content (carried_by items false) octets true ≡ false → MayPush stage (length (body ++ octets)) × HasLength (parts_of w.head).length (body ++ octets)
  last_fits octets good =
      let rules = content_rules w.head false w.more octets true (subst (λ xs. is_malformed_content (carried_by xs false) octets true ≡ false) w.is good) in
      let whole : HasLength (declared_length w.head) (body ++ octets) = subst (λ b. HasLength (declared_length w.head) (b ++ octets)) (sym w.body_is) (rules.1 refl) in
      (whole_fits (body ++ octets) whole, whole)

  -- a block is of trailers: it ends the stream, and the body, which is as long as declared, may be pushed
  pub trailers_behind : (fields : List Field) (ends : Bool) → is_malformed_block (carried_by items false) fields ends ≡ false
      → (ends ≡ true) × WellFormedTrailers fields × MayPush stage (length body) × HasLength (parts_of w.head).length body
  trailers_behind fields ends good =
      let rules = trailers_rules w.head false w.more fields ends (subst (λ xs. is_malformed_block (carried_by xs false) fields ends ≡ false) w.is good) in
      let whole : HasLength (declared_length w.head) body = subst (HasLength (declared_length w.head)) (sym w.body_is) rules.2 in
      (rules.0, rules.1, whole_fits body whole, whole)
