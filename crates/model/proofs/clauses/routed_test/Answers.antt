use Rattle.model.specs.Http2.{authority_of, path_of}
use Rattle.model.proofs.RouteLaws.{has_match, match_has}
use Rattle.model.proofs.clauses.routed_test.Goals as goal

pub returns-clause-first : goal.returns-clause-first
returns-clause-first c = λ routes head. has_match routes (authority_of head) (path_of head)

pub returns-clause-passes : goal.returns-clause-passes
returns-clause-passes c = λ routes head. match_has routes (authority_of head) (path_of head)
