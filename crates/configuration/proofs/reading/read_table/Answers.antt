use Rattle.std.proofs.Common.{◌∙◌, sym, [], ◌∷◌, refl, inl}
use Rattle.toml.specs.View.{table_view}
use Rattle.configuration.specs.Configs.{table_names}
use Rattle.configuration.specs.declared.faults.Key.TheVariants as key
use Rattle.configuration.proofs.TablesLemmas.{only_keys}
use Rattle.configuration.proofs.ConfigsLemmas.{right_keys, routes_fault, has_unknown, unknown_in_table, unknown_in_routes, all_known}
use Rattle.configuration.proofs.reading.read_table.Goals as goal

pub returns-in_default-clause-err : goal.returns-in_default-clause-err
returns-in_default-clause-err c =
    inl (record { before = []; after = key.Passing ∷ key.MaxBody ∷ key.MaxResponse ∷ key.Keep ∷ key.Idle ∷ key.Window ∷ key.Route ∷ []; parts = refl; right = tt; wrong = λ r. c.in_default.ensures r.0 r.1 })

pub returns-in_default-passing_in-clause-err : goal.returns-in_default-passing_in-clause-err
returns-in_default-passing_in-clause-err c =
    inl (record {
      before = key.Policy ∷ [];
      after = key.MaxBody ∷ key.MaxResponse ∷ key.Keep ∷ key.Idle ∷ key.Window ∷ key.Route ∷ [];
      parts = refl;
      right = ((c.in-Some.policy, c.in-Some.ensures), tt);
      wrong = λ r. c.in_default-passing_in.ensures r.0 r.1;
    })

pub returns-in_default-most_in-clause-err : goal.returns-in_default-most_in-clause-err
returns-in_default-most_in-clause-err c =
    inl (record {
      before = key.Policy ∷ key.Passing ∷ [];
      after = key.MaxResponse ∷ key.Keep ∷ key.Idle ∷ key.Window ∷ key.Route ∷ [];
      parts = refl;
      right = ((c.in-Some.policy, c.in-Some.ensures), ((c.in-Some-passing_in.passing, c.in-Some-passing_in.ensures), tt));
      wrong = λ r. c.in_default-most_in.ensures r.0 r.1;
    })

pub returns-in_default-most_in-2-clause-err : goal.returns-in_default-most_in-2-clause-err
returns-in_default-most_in-2-clause-err c =
    inl (record {
      before = key.Policy ∷ key.Passing ∷ key.MaxBody ∷ [];
      after = key.Keep ∷ key.Idle ∷ key.Window ∷ key.Route ∷ [];
      parts = refl;
      right = ((c.in-Some.policy, c.in-Some.ensures), ((c.in-Some-passing_in.passing, c.in-Some-passing_in.ensures), ((c.in-Some-most_in.max_body, c.in-Some-most_in.ensures), tt)));
      wrong = λ r. c.in_default-most_in-2.ensures r.0 r.1;
    })

pub returns-in_default-keep_in-clause-err : goal.returns-in_default-keep_in-clause-err
returns-in_default-keep_in-clause-err c =
    inl (record {
      before = key.Policy ∷ key.Passing ∷ key.MaxBody ∷ key.MaxResponse ∷ [];
      after = key.Idle ∷ key.Window ∷ key.Route ∷ [];
      parts = refl;
      right = (
        (c.in-Some.policy, c.in-Some.ensures),
        ((c.in-Some-passing_in.passing, c.in-Some-passing_in.ensures), ((c.in-Some-most_in.max_body, c.in-Some-most_in.ensures), ((c.in-Some-most_in-2.max_response, c.in-Some-most_in-2.ensures), tt))),
      );
      wrong = λ r. c.in_default-keep_in.ensures r.0 r.1;
    })

pub returns-in_default-idle_in-clause-err : goal.returns-in_default-idle_in-clause-err
returns-in_default-idle_in-clause-err c =
    inl (record {
      before = key.Policy ∷ key.Passing ∷ key.MaxBody ∷ key.MaxResponse ∷ key.Keep ∷ [];
      after = key.Window ∷ key.Route ∷ [];
      parts = refl;
      right = (
        (c.in-Some.policy, c.in-Some.ensures),
        ((c.in-Some-passing_in.passing, c.in-Some-passing_in.ensures), ((c.in-Some-most_in.max_body, c.in-Some-most_in.ensures), ((c.in-Some-most_in-2.max_response, c.in-Some-most_in-2.ensures), ((c.in-Some-keep_in.keep, c.in-Some-keep_in.ensures), tt)))),
      );
      wrong = λ r. c.in_default-idle_in.ensures r.0 r.1;
    })

pub returns-in_default-window_in-clause-err : goal.returns-in_default-window_in-clause-err
returns-in_default-window_in-clause-err c =
    inl (record {
      before = key.Policy ∷ key.Passing ∷ key.MaxBody ∷ key.MaxResponse ∷ key.Keep ∷ key.Idle ∷ [];
      after = key.Route ∷ [];
      parts = refl;
      right = (
        (c.in-Some.policy, c.in-Some.ensures),
        ((c.in-Some-passing_in.passing, c.in-Some-passing_in.ensures), ((c.in-Some-most_in.max_body, c.in-Some-most_in.ensures), ((c.in-Some-most_in-2.max_response, c.in-Some-most_in-2.ensures), ((c.in-Some-keep_in.keep, c.in-Some-keep_in.ensures), ((c.in-Some-idle_in.idle, c.in-Some-idle_in.ensures), tt))))),
      );
      wrong = λ r. c.in_default-window_in.ensures r.0 r.1;
    })

pub returns-in_default-routes_in-clause-err : goal.returns-in_default-routes_in-clause-err
returns-in_default-routes_in-clause-err c =
    inl (record {
      before = key.Policy ∷ key.Passing ∷ key.MaxBody ∷ key.MaxResponse ∷ key.Keep ∷ key.Idle ∷ key.Window ∷ [];
      after = [];
      parts = refl;
      right = (
        (c.in-Some.policy, c.in-Some.ensures),
        ((c.in-Some-passing_in.passing, c.in-Some-passing_in.ensures), ((c.in-Some-most_in.max_body, c.in-Some-most_in.ensures), ((c.in-Some-most_in-2.max_response, c.in-Some-most_in-2.ensures), ((c.in-Some-keep_in.keep, c.in-Some-keep_in.ensures), ((c.in-Some-idle_in.idle, c.in-Some-idle_in.ensures), ((c.in-Some-window_in.window, c.in-Some-window_in.ensures), tt)))))),
      );
      wrong = λ r. c.in_default-routes_in.ensures r.0 r.1;
    })

pub returns-in-Err-clause-err : goal.returns-in-Err-clause-err
returns-in-Err-clause-err c = routes_fault (table_view c.args.table.now) c.in-Some-routes_in.values.now c.in-Err.fault (right_keys (table_view c.args.table.now) c.in-Some.policy c.in-Some-passing_in.passing c.in-Some-most_in.max_body c.in-Some-most_in-2.max_response c.in-Some-keep_in.keep c.in-Some-idle_in.idle c.in-Some-window_in.window c.in-Some-routes_in.values.now c.in-Some.ensures
    c.in-Some-passing_in.ensures c.in-Some-most_in.ensures c.in-Some-most_in-2.ensures c.in-Some-keep_in.ensures c.in-Some-idle_in.ensures c.in-Some-window_in.ensures c.in-Some-routes_in.ensures) c.in-Some-routes_in.ensures c.in-Err.ensures.err

pub returns-then-not-has_table_keys-clause-err : goal.returns-then-not-has_table_keys-clause-err
returns-then-not-has_table_keys-clause-err c =
    has_unknown (table_view c.args.table.now) c.in-Some-routes_in.values.now c.in-Ok.routes.items (right_keys (table_view c.args.table.now) c.in-Some.policy c.in-Some-passing_in.passing c.in-Some-most_in.max_body c.in-Some-most_in-2.max_response c.in-Some-keep_in.keep c.in-Some-idle_in.idle c.in-Some-window_in.window c.in-Some-routes_in.values.now c.in-Some.ensures
    c.in-Some-passing_in.ensures c.in-Some-most_in.ensures c.in-Some-most_in-2.ensures c.in-Some-keep_in.ensures c.in-Some-idle_in.ensures c.in-Some-window_in.ensures c.in-Some-routes_in.ensures) c.in-Some-routes_in.ensures c.in-Ok.ensures.ok
    (unknown_in_table (table_view c.args.table.now) c.in-Some-routes_in.ensures.0 (sym (only_keys table_names c.args.table.now) ∙ (sym c.has_table_keys.ensures ∙ c.if-not-has_table_keys.true)))

pub returns-then-not-are_known_routes-clause-err : goal.returns-then-not-are_known_routes-clause-err
returns-then-not-are_known_routes-clause-err c =
    has_unknown (table_view c.args.table.now) c.in-Some-routes_in.values.now c.in-Ok.routes.items (right_keys (table_view c.args.table.now) c.in-Some.policy c.in-Some-passing_in.passing c.in-Some-most_in.max_body c.in-Some-most_in-2.max_response c.in-Some-keep_in.keep c.in-Some-idle_in.idle c.in-Some-window_in.window c.in-Some-routes_in.values.now c.in-Some.ensures
    c.in-Some-passing_in.ensures c.in-Some-most_in.ensures c.in-Some-most_in-2.ensures c.in-Some-keep_in.ensures c.in-Some-idle_in.ensures c.in-Some-window_in.ensures c.in-Some-routes_in.ensures) c.in-Some-routes_in.ensures c.in-Ok.ensures.ok
    (unknown_in_routes (table_view c.args.table.now) c.in-Some-routes_in.values.now c.in-Some-routes_in.ensures (sym (only_keys table_names c.args.table.now) ∙ (sym c.has_table_keys.ensures ∙ c.if-not-has_table_keys.false))
    (sym c.are_known_routes.ensures ∙ c.if-not-are_known_routes.true))

pub returns-clause-ok : goal.returns-clause-ok
returns-clause-ok c =
    let has = c.in-Some-routes_in.ensures in
    record {
      policy = c.in-Some.ensures;
      passing = c.in-Some-passing_in.ensures;
      max_body = c.in-Some-most_in.ensures;
      max_response = c.in-Some-most_in-2.ensures;
      keep = c.in-Some-keep_in.ensures;
      idle = c.in-Some-idle_in.ensures;
      window = c.in-Some-window_in.ensures;
      tables = has.0;
      are_tables = has.2;
      routes = c.in-Ok.ensures.ok has.0 has.1;
      known = all_known (table_view c.args.table.now) c.in-Some-routes_in.values.now has (sym (only_keys table_names c.args.table.now) ∙ (sym c.has_table_keys.ensures ∙ c.if-not-has_table_keys.false))
          (sym c.are_known_routes.ensures ∙ c.if-not-are_known_routes.false);
    }
