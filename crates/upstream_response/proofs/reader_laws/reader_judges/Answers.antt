use Rattle.upstream_response.proofs.Judging as judging
use Rattle.upstream_response.proofs.reader_laws.reader_judges.Goals as goal

pub returns-clause-goes_on : goal.returns-clause-goes_on
returns-clause-goes_on c = judging.goes_on

pub returns-clause-too_long : goal.returns-clause-too_long
returns-clause-too_long c = judging.too_long

pub returns-clause-breaks : goal.returns-clause-breaks
returns-clause-breaks c = judging.breaks

pub returns-clause-ends : goal.returns-clause-ends
returns-clause-ends c = judging.ends

pub returns-clause-ends_short : goal.returns-clause-ends_short
returns-clause-ends_short c = judging.ends_short
