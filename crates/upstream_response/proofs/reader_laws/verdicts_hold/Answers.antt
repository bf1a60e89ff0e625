use Rattle.upstream_response.proofs.Verdicts as verdicts
use Rattle.upstream_response.proofs.reader_laws.verdicts_hold.Goals as goal

pub returns : goal.returns
returns c = verdicts.are_judged
