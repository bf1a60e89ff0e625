use Rattle.std.proofs.Common.{◌≡◌, true, List, sym, ◌∙◌, ap}
use Rattle.theory_errors.specs.Rows.{Row}
use Rattle.theory_errors.specs.Rows.Slot.{Live as Active, Over}
use Rattle.streams.specs.Asked.{is_active, changed}
use Rattle.connection_state.proofs.BlockRows.{placed_active, placed_idle, idle_of, front_changed}
use Rattle.connection_state.proofs.Kept.{active_found, none_found}
use Rattle.connection_state.proofs.blocks.reset.Goals as goal

pub returns-then-is_some-clause-is : goal.returns-then-is_some-clause-is
returns-then-is_some-clause-is c =
    let rows : List Row = c.args.streams.now in
    let active : is_active rows c.args.id ≡ true = active_found _ rows c.args.id c.find.result (sym c.is_some.ensures ∙ c.if-is_some.true) c.find.ensures.live in
    c.close.ensures.is ∙ sym (placed_active rows c.args.id (Over true) active)

pub returns-clause-is : goal.returns-clause-is
returns-clause-is c =
    let rows : List Row = c.args.streams.now in
    let may = idle_of rows c.args.id c.requires.wanted (none_found rows c.args.id c.find.result (sym c.is_some.ensures ∙ c.if-is_some.false) c.find.ensures.none) in
    c.close-2.ensures.is
    ∙ ap (λ (rs : List Row). changed c.args.id (Over true) rs) c.in_ok-open.ensures.ok
    ∙ front_changed rows c.args.id (Active c.opened.result) (Over true) may
    ∙ sym (placed_idle rows c.args.id (Over true) may)
