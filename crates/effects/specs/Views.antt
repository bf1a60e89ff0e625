-- Events and outputs without where they lie in memory.
use Rattle.std.specs.Prelude.{List, map}
use Rattle.model.specs.Logs as logs
use Rattle.effects.specs.declared.events.Event.{Event}
use Rattle.effects.specs.declared.events.Event.TheVariants as event
use Rattle.effects.specs.declared.events.Output.{Output}
use Rattle.effects.specs.declared.events.Output.TheVariants as output

abbrev pub event_of : Event → logs.Event
event_of (event.Client piece) = logs.Event.Client piece.items
event_of event.ClientEnd = logs.Event.ClientEnd
event_of (event.ClientTook count) = logs.Event.ClientTook count
event_of (event.Up k piece) = logs.Event.Up k piece.items
event_of (event.UpEnd k) = logs.Event.UpEnd k
event_of (event.UpFailed k) = logs.Event.UpFailed k
event_of (event.UpTook k count) = logs.Event.UpTook k count
event_of event.Drain = logs.Event.Drain

abbrev pub output_of : Output → logs.Output
output_of (output.Client octets) = logs.Output.ToClient octets.items
output_of (output.Open k route) = logs.Output.Does (logs.Act.Open k route)
output_of (output.Up k octets) = logs.Output.Does (logs.Act.ToUp k octets)
output_of (output.Close k) = logs.Output.Does (logs.Act.Close k)
output_of output.CloseClient = logs.Output.Does logs.Act.CloseClient

abbrev pub outputs_of : List Output → List logs.Output
outputs_of outputs = map output_of outputs
