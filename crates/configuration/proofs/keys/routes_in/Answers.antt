use Rattle.std.proofs.Common.{◌∙◌, sym, ap, Some}
use Rattle.toml.specs.View.{items_view}
use Rattle.configuration.proofs.TablesLemmas.{routes_found, no_routes_found, too_many_found}
use Rattle.configuration.proofs.keys.routes_in.Goals as goal

pub returns-then-are_tables : goal.returns-then-are_tables
returns-then-are_tables c =
    routes_found _ _ c.deref-values.result.now (sym c.in-Some.ensures) (ap (λ l. Some (items_view l)) c.deref-values.ensures.value ∙ c.in_ok-as_array.ensures) c.if-values-gt-MOST_ROUTES.false
    (sym c.are_tables.ensures ∙ c.if-are_tables.true)

pub returns-else-are_tables : goal.returns-else-are_tables
returns-else-are_tables c =
    no_routes_found _ _ c.deref-values.result.now (sym c.in-Some.ensures) (ap (λ l. Some (items_view l)) c.deref-values.ensures.value ∙ c.in_ok-as_array.ensures)
    (sym c.are_tables.ensures ∙ c.if-are_tables.false)

pub returns-then-values-gt-MOST_ROUTES : goal.returns-then-values-gt-MOST_ROUTES
returns-then-values-gt-MOST_ROUTES c =
    too_many_found _ _ c.deref-values.result.now (sym c.in-Some.ensures) (ap (λ l. Some (items_view l)) c.deref-values.ensures.value ∙ c.in_ok-as_array.ensures) c.if-values-gt-MOST_ROUTES.true
