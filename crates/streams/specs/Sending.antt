-- What the gateway does on an active stream, and what comes of its upstream's answer.
use Rattle.std.specs.Prelude.{◌≡◌, ℕ, Bool, true, false, ◌||◌, ◌&&◌, ◌==◌, [], Some, is_none, pos, ◌+ℤ◌, ◌-ℤ◌, ◌≤ℤ◌, List}
use Rattle.model.specs.Windows.{IsAboveLeast}
use Rattle.model.specs.Limits.{greatest_window}
use Rattle.model.specs.Causes.Cause.{BadAnswer}
use Rattle.theory_errors.specs.Summary.{Stream as Kept}
use Rattle.theory_errors.specs.Owing.{outline_behind}
use Rattle.theory_errors.specs.Rows.{Row, find}
use Rattle.streams.specs.Asked.{is_active}
use Rattle.streams.specs.declared.steps.StreamStep.{StreamStep}
use Rattle.streams.specs.declared.steps.StreamStep.TheVariants as step

-- a stream on which a header block went out, a final head or not, and which the gateway ended with it or before, or not yet
-- (RFC 9113, sections 5.1 and 8.1)
abbrev pub head_sent : Bool → Bool → Kept → Kept
head_sent is_final ends kept =
    record kept { ended_by_gateway = ends || kept.ended_by_gateway; head_out = kept.head_out || is_final }

-- one on which so many octets of DATA went out (RFC 9113, section 6.9.1)
abbrev pub data_sent : ℕ → Bool → Kept → Kept
data_sent count ends kept =
    record kept { ended_by_gateway = ends || kept.ended_by_gateway; balance = kept.balance -ℤ pos count }

-- one to which so many octets were given back (RFC 9113, section 6.9.1)
abbrev pub given_back : ℕ → Kept → Kept
given_back count kept = record kept { room = kept.room +ℤ pos count }

-- one whose upstream's answer failed: the gateway replies itself, unless it did before
abbrev pub failed : Kept → Kept
failed kept = record kept { outline = outline_behind kept.outline true [] (Some BadAnswer) kept.head_out }

-- one behind a step
abbrev pub stepped : StreamStep → Kept → Kept
stepped (step.Head is_final ends) kept = head_sent is_final ends kept
stepped (step.Data octets ends) kept = data_sent octets ends kept
stepped (step.GivenBack octets) kept = given_back octets kept
stepped step.Failed kept = failed kept

-- the gateway ends the stream with the step
abbrev pub ends_by : StreamStep → Bool
ends_by (step.Head is_final ends) = ends
ends_by (step.Data octets ends) = ends
ends_by (step.GivenBack octets) = false
ends_by step.Failed = false

-- What was sent stays a window's size behind octets of DATA, if there are any.
abbrev pub AreSendable : ℕ → Kept → Type 0
AreSendable count kept = (count == 0) ≡ false → IsAboveLeast (kept.balance -ℤ pos count)

-- What was given back stays a window's size behind octets of DATA that come.
abbrev pub AreTakable : ℕ → Kept → Type 0
AreTakable count kept = IsAboveLeast (kept.room -ℤ pos count)

-- The receiving window isn't past the greatest with these octets.
abbrev pub AreReturnable : ℕ → Kept → Type 0
AreReturnable count kept = (kept.room +ℤ pos count) ≤ℤ pos greatest_window

-- The numbers that are kept have room for the step.
abbrev pub HasRoom : StreamStep → Kept → Type 0
HasRoom (step.Data octets ends) kept = AreSendable octets kept
HasRoom (step.GivenBack octets) kept = AreReturnable octets kept
HasRoom _ kept = Unit {0}

-- the stream is served: it is active, and the gateway doesn't reply to it itself
abbrev pub is_served : List Row → ℕ → Bool
is_served rows id = is_active rows id && is_none (find rows id).outline.cause
