use Rattle.std.proofs.Common.{◌∙◌, ap, sym}
use Rattle.std.specs.Prelude.{Some}
use Rattle.std.proofs.lemmas.List.{get_or_read}
use Rattle.upstream_connections.specs.Connections.{no_connection}
use Rattle.upstream_connections.proofs.Openings.{found, not_found}
use Rattle.upstream_connections.proofs.connections.find.Goals as goal

pub returns-in-Some : goal.returns-in-Some
returns-in-Some c =
    found c.args.connections.now c.requires c.args.k c.in-Some.place c.in-Some.ensures.found
    ∙ ap Some (sym (get_or_read c.args.connections.now c.in-Some.place c.index-connections-place.result c.in-Some.ensures.found.within c.index-connections-place.is no_connection))

pub returns-in-None : goal.returns-in-None
returns-in-None c = not_found c.args.connections.now c.args.k c.in-None.ensures.absent
