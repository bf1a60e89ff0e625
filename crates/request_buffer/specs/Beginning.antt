-- What is written for a request's head.
use Rattle.std.specs.Prelude.{◌≡◌, ℕ, Bool, true, false, []}
use Rattle.request_rules.specs.Heads.{HeadParts}
use Rattle.h1_writer.specs.Sending.{Sending}
use Rattle.h1_writer.specs.Sending.Stage.{Whole}
use Rattle.request_buffer.specs.declared.buffered_request.Begun.{Begun}
use Rattle.request_buffer.specs.declared.buffered_request.Begun.TheVariants as begun

-- What was written for a head that ended its stream is its whole text, for a connection that is kept or isn't; of any other it waits, with
-- nothing of its body.
abbrev pub IsBegun : Bool → HeadParts → Bool → ℕ → Begun → Type 0
IsBegun keep parts ended route (begun.Whole text) = (ended ≡ true) × Sending keep parts ended text.items [] [] Whole
IsBegun keep parts ended route (begun.Waits request) =
    (ended ≡ false) × Sending keep parts ended request.text [] [] request.stage × (request.stage ≡ Whole → ⊥) × (request.route ≡ route) × (request.body ≡ [])
