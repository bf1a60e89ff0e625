-- The course of a request, as what it stands for.
use Rattle.std.proofs.Common.{◌≡◌, true, false, Option, Some, None, refl}
use Rattle.std.specs.Prelude.{option_map, is_some}
use Rattle.theory_errors.specs.Tidy.{IsSteady}
use Rattle.streams.specs.declared.course.Course.{Course}
use Rattle.streams.specs.declared.course.Reply.{Reply}
use Rattle.local_replies.specs.Views.{cause_of}
use Rattle.streams.specs.Views.{was_head_out, outline_of}

-- Only where there is a cause, a head was out when it came.
pub course_steady : (course : Course) → IsSteady (outline_of course)
course_steady course = cases course.reply
  where
    cases : (reply : Option Reply) → is_some (option_map (λ (r : Reply). cause_of r.cause) reply) ≡ false → was_head_out reply ≡ false
    cases None none = refl
    cases (Some r) none = absurd (let no : true ≡ false = none in cc)
