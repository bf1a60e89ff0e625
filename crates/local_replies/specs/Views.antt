-- Causes, in words of the model.
use Rattle.model.specs.Causes as local_replies
use Rattle.local_replies.specs.declared.cause.Cause.{Cause}
use Rattle.local_replies.specs.declared.cause.Cause.TheVariants as cause

-- a cause
abbrev pub cause_of : Cause → local_replies.Cause
cause_of cause.LargeFields = local_replies.Cause.LargeFields
cause_of cause.Tunnel = local_replies.Cause.Tunnel
cause_of cause.Expects = local_replies.Cause.Expects
cause_of cause.LargeBody = local_replies.Cause.LargeBody
cause_of cause.NoRoute = local_replies.Cause.NoRoute
cause_of cause.BadAnswer = local_replies.Cause.BadAnswer
