-- A request that waits for its end, as the rule of requests has it, and what it may end with.
use Rattle.std.specs.Prelude.{◌≡◌, ℕ, ◌+◌, ◌<◌, ◌≤◌, Bool, false, List, [], ◌++◌}
use Rattle.model.specs.Messages.{Field}
use Rattle.model.specs.Http2.{HasLength}
use Rattle.request_rules.specs.Heads.{HeadParts}
use Rattle.h1_writer.specs.Sending.{Stage, Sending, Continues, MayFinish}
use Rattle.h1_writer.specs.Sending.Stage.{Whole}

-- The place of its route, its head's text as it was written, what that waits for, and the octets of the body as they came.
pub record Request : Type 0 where
  pub route : ℕ
  pub text : List ℕ
  pub stage : Stage
  pub body : List ℕ

-- How a request lies in one piece of memory with so many octets: its head ends before its body begins, right there where a length was declared;
-- else with room for the line of a chunk between them, once anything stands behind the head. There is no more room than for one.
pub record IsLaid (stage : Stage) (head body all : ℕ) : Type 0 where
  pub before : head ≤ body
  pub gap : body ≤ head + 18
  pub within : body ≤ all
  pub joined : (MayFinish stage → ⊥) → body ≡ head
  pub room : MayFinish stage → head < all → head + 18 ≤ body

-- The request may end behind these octets: its body has the length that its head declares, if it declares one.
pub record MayEnd (request : Request) (octets : List ℕ) : Type 0 where
  pub keep : Bool
  pub parts : HeadParts
  pub sending : Sending keep parts false request.text [] [] request.stage
  pub goes_on : request.stage ≡ Whole → ⊥
  pub has_length : HasLength parts.length (request.body ++ octets)

-- The text is that of its head, and behind it what is written for the whole body at once, and for these trailers.
pub record IsEnded (request : Request) (octets : List ℕ) (trailers : List Field) (text : List ℕ) : Type 0 where
  pub written : List ℕ
  pub is : text ≡ request.text ++ written
  pub continues : Continues request.stage written (request.body ++ octets) trailers Whole

-- Nothing of this body was sent, whose octets came in any pieces: its length is the declared one, if one is, and the text may be ended behind it.
pub record Ends (stage : Stage) (head body : List ℕ) : Type 0 where
  pub keep : Bool
  pub parts : HeadParts
  pub sending : Sending keep parts false head [] [] stage
  pub goes_on : stage ≡ Whole → ⊥
  pub has_length : HasLength parts.length body

-- The text is this head's, and behind it what is written for the whole body at once, and for these trailers.
abbrev pub IsEndedText : List ℕ → Stage → List ℕ → List Field → List ℕ → Type 0
IsEndedText head stage body trailers text = (written : List ℕ) × (text ≡ head ++ written) × Continues stage written body trailers Whole
