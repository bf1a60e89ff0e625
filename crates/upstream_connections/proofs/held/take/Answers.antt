use Rattle.std.proofs.Common.{◌∙◌, ap, sym}
use Rattle.std.specs.Prelude.{reverse, Some}
use Rattle.std.proofs.lemmas.List.{get_or_read}
use Rattle.upstream_connections.specs.Requests.{no_held, IsHeldAt}
use Rattle.upstream_connections.proofs.Requests.{found, taken_out, not_found, none_taken}
use Rattle.upstream_connections.proofs.held.take.Goals as goal

pub returns-in_default-clause-is : goal.returns-in_default-clause-is
returns-in_default-clause-is c = sym (not_found c.args.held.now.items c.args.id (rw (← c.deref.ensures.value) c.in_default.ensures.absent))

pub returns-in_default-clause-rest : goal.returns-in_default-clause-rest
returns-in_default-clause-rest c = sym (none_taken c.args.held.now.items c.args.id (rw (← c.deref.ensures.value) c.in_default.ensures.absent))

pub returns-clause-is : goal.returns-clause-is
returns-clause-is c =
    let is : IsHeldAt c.args.held.now.items c.args.id c.in-Some.place = rw (← c.deref.ensures.value) c.in-Some.ensures.found in
    ap Some (get_or_read c.args.held.now.items c.in-Some.place c.remove.result is.within c.remove.ensures.value no_held)
    ∙ sym (found c.args.held.now.items c.requires c.args.id c.in-Some.place is)

pub returns-clause-rest : goal.returns-clause-rest
returns-clause-rest c =
    let is : IsHeldAt c.args.held.now.items c.args.id c.in-Some.place = rw (← c.deref.ensures.value) c.in-Some.ensures.found in
    ap reverse c.remove.ensures.items ∙ sym (taken_out c.args.held.now.items c.requires c.args.id c.in-Some.place is)
