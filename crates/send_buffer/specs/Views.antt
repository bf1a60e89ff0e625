-- The code's values as the rule of what is on offer has them.
use Rattle.std.specs.Prelude.{◌≡◌, Bool, true, false, Option, Some, None, ◌++◌}
use Rattle.model.specs.ResponseHeads.{Head}
use Rattle.model.specs.Deliveries.{End}
use Rattle.theory_responses.specs.Outbox.{trailers_at, Outbox}
use Rattle.theory_responses.specs.Outbox as rule
use Rattle.send_buffer.specs.declared.outbox.Place.{Place}
use Rattle.send_buffer.specs.declared.outbox.Place.TheVariants as place
use Rattle.send_buffer.specs.declared.part.Part.{Part}
use Rattle.send_buffer.specs.declared.part.Part.TheVariants as part

-- how a response ends: with trailers, if there are some
abbrev pub end_in : Option End → End
end_in None = None
end_in (Some trailers) = Some (trailers_at trailers)

-- an outbox
abbrev pub outbox_in : Place → Outbox
outbox_in (place.Before interims head body whole) = rule.Outbox.Before interims.items head body (end_in whole)
outbox_in (place.Behind body whole) = rule.Outbox.Behind body (end_in whole)
outbox_in place.Over = rule.Outbox.Over

-- the next part
abbrev pub part_in : Part → rule.Part
part_in (part.Early head) = rule.Part.Early head.now
part_in (part.Final head ends) = rule.Part.Final head.now ends
part_in (part.Octets front back ends) = rule.Part.Octets (front.now ++ back.now) ends
part_in (part.Trailing trailers) = rule.Part.Trailing trailers.now

-- The part is this head.
abbrev pub IsHead : Head → rule.Part → Type 0
IsHead head (rule.Part.Early other) = head ≡ other
IsHead head (rule.Part.Final other ends) = head ≡ other
IsHead head _ = ⊥

-- The part stands behind the final head.
abbrev pub IsBehindHead : rule.Part → Type 0
IsBehindHead (rule.Part.Octets octets ends) = Unit {0}
IsBehindHead (rule.Part.Trailing trailers) = Unit {0}
IsBehindHead part = ⊥

-- It isn't trailers.
abbrev pub AreNoTrailers : rule.Part → Type 0
AreNoTrailers (rule.Part.Trailing trailers) = ⊥
AreNoTrailers part = Unit {0}

-- The part is octets of the body.
abbrev pub AreOctets : rule.Part → Type 0
AreOctets (rule.Part.Octets octets ends) = Unit {0}
AreOctets part = ⊥

-- Octets of the body aren't next.
abbrev pub HasNoOctets : Option rule.Part → Type 0
HasNoOctets (Some (rule.Part.Octets octets ends)) = ⊥
HasNoOctets part = Unit {0}

-- the final head was sent
abbrev pub is_begun : Outbox → Bool
is_begun (rule.Outbox.Before interims head body whole) = false
is_begun _ = true
