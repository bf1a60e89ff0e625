use Rattle.std.proofs.Common.{◌∙◌, ap}
use Rattle.configuration.specs.Configs.{route_names}
use Rattle.configuration.specs.Steps.{is_only}
use Rattle.configuration.proofs.TablesLemmas.{only_keys}
use Rattle.configuration.proofs.reading.is_known_route.Goals as goal

pub returns-in-Some : goal.returns-in-Some
returns-in-Some c = c.has_route_keys.ensures ∙ (only_keys route_names c.in-Some.table.now ∙ ap (is_only route_names) c.in-Some.ensures)
