use Rattle.std.proofs.Common.{◌≡◌, true, List, ◌∷◌, sym, ◌∙◌, ap}
use Rattle.theory_errors.specs.Summary.{Stream as Kept}
use Rattle.theory_errors.specs.Rows.{Row, Slot, find, slot_of}
use Rattle.theory_errors.specs.Rows.Slot.{Live as Active}
use Rattle.streams.specs.Asked.{is_active, changed}
use Rattle.streams.specs.Views.{outline_of}
use Rattle.connection_state.specs.Blocks.{kept_so}
use Rattle.connection_state.proofs.BlockRows.{placed_active, placed_idle, idle_of, nothing_known, taken_none, opened_so}
use Rattle.connection_state.proofs.Kept.{active_found, none_found, on_ok}
use Rattle.connection_state.proofs.blocks.keep.Goals as goal

pub returns-then-is_some-clause-is : goal.returns-then-is_some-clause-is
returns-then-is_some-clause-is c =
    let rows : List Row = c.args.streams.now in
    let active : is_active rows c.args.id ≡ true = active_found _ rows c.args.id c.find.result (sym c.is_some.ensures ∙ c.if-is_some.true) c.find.ensures.live in
    c.take.ensures.is
    ∙ ap (λ (k : Kept). changed c.args.id (slot_of k) rows) (taken_none (outline_of c.args.course) c.args.ends (find rows c.args.id))
    ∙ sym (placed_active rows c.args.id (slot_of (kept_so (find rows c.args.id) (outline_of c.args.course) c.args.ends)) active)

pub returns-clause-is : goal.returns-clause-is
returns-clause-is c =
    let rows : List Row = c.args.streams.now in
    let may = idle_of rows c.args.id c.requires.wanted (none_found rows c.args.id c.find.result (sym c.is_some.ensures ∙ c.if-is_some.false) c.find.ensures.none) in
    let slot : Active c.opened.result ≡ slot_of (kept_so (find rows c.args.id) (outline_of c.args.course) c.args.ends) =
    ap Active c.opened.ensures ∙ sym (opened_so (outline_of c.args.course) c.args.ends) ∙ ap (λ (k : Kept). slot_of (kept_so k (outline_of c.args.course) c.args.ends)) (sym (nothing_known rows c.args.id may)) in
    on_ok c.open.result c.open.ensures.ok (λ is.
    is ∙ ap (λ (s : Slot). record { id = c.args.id; slot = s } ∷ rows) slot ∙ sym (placed_idle rows c.args.id (slot_of (kept_so (find rows c.args.id) (outline_of c.args.course) c.args.ends)) may))
