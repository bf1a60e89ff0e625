-- Each head that is taken can be passed back, and so can each that the gateway answers with itself.
use Rattle.std.proofs.Common.{◌≡◌, ◌≤◌, ℕ, List, length, refl, sym, subst, arith}
use Rattle.httparse.specs.Grammar as grammar
use Rattle.model.specs.ResponseHeads.{Head, IsTaken, head_of}
use Rattle.model.specs.Causes.{Cause, reply_head}
use Rattle.model.specs.Causes.Cause.{LargeFields, Tunnel, Expects, LargeBody, NoRoute, BadAnswer}
use Rattle.model.proofs.DeliveryLemmas.{status_small, head_plain}
use Rattle.response_texts.specs.HeadSizes.{field_octets, CanBePassedBack}
use Rattle.response_texts.proofs.HeadSizeLemmas.{taken_size}

taken_passed : (text : List ℕ) (spelled : grammar.ResponseHead) → IsTaken text spelled → CanBePassedBack (head_of spelled)
taken_passed text spelled taken =
    let size : field_octets (head_of spelled).fields ≤ length text = taken_size text spelled taken in
    let short : length text ≤ 16384 = taken.is_short in
    record { digits = status_small spelled taken.reads.0; plain = head_plain spelled taken.reads.0; short = omega arith }

pub passed_back : (text : List ℕ) (spelled : grammar.ResponseHead) (head : Head) → IsTaken text spelled → head ≡ head_of spelled → CanBePassedBack head
passed_back text spelled head taken says = subst CanBePassedBack (sym says) (taken_passed text spelled taken)

pub reply_passed : (cause : Cause) → CanBePassedBack (reply_head cause)
reply_passed LargeFields = record { digits = omega arith; plain = refl; short = omega arith }
reply_passed Tunnel = record { digits = omega arith; plain = refl; short = omega arith }
reply_passed Expects = record { digits = omega arith; plain = refl; short = omega arith }
reply_passed LargeBody = record { digits = omega arith; plain = refl; short = omega arith }
reply_passed NoRoute = record { digits = omega arith; plain = refl; short = omega arith }
reply_passed BadAnswer = record { digits = omega arith; plain = refl; short = omega arith }
