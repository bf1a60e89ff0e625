use Rattle.theory_requests.proofs.Calling as calling
use Rattle.theory_requests.proofs.written_items.Goals as goal

pub returns-clause-head : goal.returns-clause-head
returns-clause-head c = calling.head_fits

pub returns-clause-octets : goal.returns-clause-octets
returns-clause-octets c = calling.octets_fit

pub returns-clause-trailers : goal.returns-clause-trailers
returns-clause-trailers c = calling.trailers_end

pub returns-clause-last_octets : goal.returns-clause-last_octets
returns-clause-last_octets c = calling.last_octets_fit

pub returns-clause-last_trailers : goal.returns-clause-last_trailers
returns-clause-last_trailers c = calling.last_trailers_fit
