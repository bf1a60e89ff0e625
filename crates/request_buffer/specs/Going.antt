-- A request that goes out as it comes, and what goes out for octets of its body.
use Rattle.std.specs.Prelude.{◌≡◌, ℕ, Bool, true, false, List, [], ◌++◌, length}
use Rattle.std.specs.List.{concat}
use Rattle.model.specs.Messages.{Field}
use Rattle.model.specs.Http2.{HasLength}
use Rattle.request_rules.specs.Heads.{HeadParts}
use Rattle.h1_writer.specs.Sending.{Stage, Sending, Continues, MayPush}
use Rattle.h1_writer.specs.Sending.Stage.{Whole}

-- These octets may go out, and end the body or don't: its text is that of a head and of pieces, which with them are no longer than declared,
-- and just as long where they end it.
pub record MayGo (stage : Stage) (octets : List ℕ) (ends : Bool) : Type 0 where
  pub keep : Bool
  pub parts : HeadParts
  pub ended : Bool
  pub text : List ℕ
  pub pieces : List (List ℕ)
  pub sending : Sending keep parts ended text pieces [] stage
  pub may_push : MayPush stage (length octets)
  pub has_length : ends ≡ true → HasLength parts.length (concat pieces ++ octets)

-- The text goes on with what is written for the octets, and is whole behind it, with these trailers, just where they end the body.
pub record GoesOn (old : Stage) (octets : List ℕ) (trailers : List Field) (ends : Bool) (written : List ℕ) (new : Stage) : Type 0 where
  pub continues : Continues old written octets trailers new
  pub whole : ends ≡ true → new ≡ Whole
  pub part : ends ≡ false → new ≡ Whole → ⊥
