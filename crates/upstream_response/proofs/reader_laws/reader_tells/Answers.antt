use Rattle.upstream_response.proofs.Reading as reading
use Rattle.upstream_response.proofs.Ending as ending
use Rattle.upstream_response.proofs.reader_laws.reader_tells.Goals as goal

pub returns-clause-hears : goal.returns-clause-hears
returns-clause-hears c = reading.hears_news

pub returns-clause-ends : goal.returns-clause-ends
returns-clause-ends c = ending.ends_news
