use Rattle.theory_requests.proofs.Counted as connections
use Rattle.theory_requests.proofs.Holding as theory_memory_bound
use Rattle.theory_requests.proofs.Room as room
use Rattle.theory_requests.proofs.Served as streams
use Rattle.theory_requests.proofs.requests_are_bounded.Goals as goal

pub returns-clause-stream : goal.returns-clause-stream
returns-clause-stream c = theory_memory_bound.held_by_body

pub returns-clause-streaming : goal.returns-clause-streaming
returns-clause-streaming c = theory_memory_bound.held_by_frame

pub returns-clause-going : goal.returns-clause-going
returns-clause-going c = theory_memory_bound.none_waits

pub returns-clause-frames : goal.returns-clause-frames
returns-clause-frames c = room.read_frames_fit

pub returns-clause-apart : goal.returns-clause-apart
returns-clause-apart c = streams.held_apart

pub returns-clause-served : goal.returns-clause-served
returns-clause-served c = streams.held_served

pub returns-clause-few : goal.returns-clause-few
returns-clause-few c = streams.held_few

pub returns-clause-none_else : goal.returns-clause-none_else
returns-clause-none_else c = theory_memory_bound.none_held

pub returns-clause-closed : goal.returns-clause-closed
returns-clause-closed c = theory_memory_bound.none_at_close

pub returns-clause-together : goal.returns-clause-together
returns-clause-together c = theory_memory_bound.all_by_body

pub returns-clause-connections : goal.returns-clause-connections
returns-clause-connections c = connections.live_few

pub returns-clause-idle : goal.returns-clause-idle
returns-clause-idle c = connections.idle_few

pub returns-clause-none_idle : goal.returns-clause-none_idle
returns-clause-none_idle c = connections.idle_none
