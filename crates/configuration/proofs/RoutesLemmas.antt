-- The routes of the tables that were read so far.
use Rattle.std.proofs.Common.{◌≡◌, ℕ, suc, ◌+◌, ◌<◌, ◌&&◌, List, [], ◌∷◌, ◌++◌, length, map, take, drop, get_or, Some, None, refl, ap, ap₂, sym, ◌∙◌, subst, drop-cons}
use Rattle.std.specs.List.{list_all, AllByRecursion}
use Rattle.std.proofs.lemmas.List.{take_more, take-append-drop, map-append}
use Rattle.toml.specs.Data.{Data, Members, table, as_table}
use Rattle.toml.specs.View.{view}
use Rattle.toml.specs.declared.value.Value.{Value}
use Rattle.gateway.specs.declared.config.Route.{Route}
use Rattle.configuration.specs.declared.faults.ConfigFault.{ConfigFault}
use Rattle.configuration.specs.declared.faults.ConfigFault.TheVariants.{NotToml, Bad, UnknownKey, Memory}
use Rattle.configuration.specs.Configs.{IsRoute, AreRoutes, AreRight, route_keys, has_only}
use Rattle.configuration.specs.Steps.{IsNoRoute, AreNoRoutes, is_only}
use Rattle.configuration.proofs.TablesLemmas.{cut_at, table_is, same_cons}

-- These routes are those of the values, if they are tables.
abbrev pub HasRead : List Value → List Route → Type 0
HasRead vs routes = (tables : List Members) → map view vs ≡ map table tables → AreRoutes tables routes

-- The values before a place, the value there and those behind it.
at_place : (vs : List Value) (n : ℕ) (v : Value) → n < length vs → v ≡ get_or vs n v → map view vs ≡ map view (take n vs) ++ view v ∷ map view (drop (suc n) vs)
at_place vs n v less at =
    ap (map view) (sym (take-append-drop n vs) ∙ ap (λ l. take n vs ++ l) (drop-cons vs n v less ∙ ap (λ x. x ∷ drop (suc n) vs) (sym at)))
    ∙ map-append view (take n vs) (v ∷ drop (suc n) vs)

pub no_routes : HasRead [] []
no_routes [] e = tt
no_routes (t ∷ ts) e = let bad : [] ≡ table t ∷ map table ts = e in absurd (cc)

one_more : (tables : List Members) (routes : List Route) (m : Members) (route : Route) → AreRoutes tables routes → IsRoute m route → AreRoutes (tables ++ m ∷ []) (routes ++ route ∷ [])
one_more [] [] m route h is = (is, tt)
one_more [] (r ∷ routes) m route h is = absurd h
one_more (t ∷ tables) [] m route h is = absurd h
one_more (t ∷ tables) (r ∷ routes) m route h is = (h.0, one_more tables routes m route h.1 is)

-- Nothing is behind the last table.
last_table : (before : List Data) (here : Data) (tables : List Members) → before ++ here ∷ [] ≡ map table tables
    → (front : List Members) × (m : Members) × (tables ≡ front ++ m ∷ []) × (before ≡ map table front) × (here ≡ table m)
last_table [] here [] e = let bad : here ∷ [] ≡ [] = e in absurd (cc)
last_table [] here (t ∷ []) e = let same : here ∷ [] ≡ table t ∷ [] = e in let is : here ≡ table t = cc in ([], t, refl, refl, is)
last_table [] here (t ∷ u ∷ ts) e = let same : here ∷ [] ≡ table t ∷ table u ∷ map table ts = e in let rest : [] ≡ table u ∷ map table ts = cc in absurd (cc)
last_table (d ∷ ds) here [] e = let bad : d ∷ (ds ++ here ∷ []) ≡ [] = e in absurd (cc)
last_table (d ∷ ds) here (t ∷ ts) e =
    let same : d ∷ (ds ++ here ∷ []) ≡ table t ∷ map table ts = e in
    let first : d ≡ table t = cc in
    let others : ds ++ here ∷ [] ≡ map table ts = cc in
    let rest = last_table ds here ts others in
    (t ∷ rest.0, rest.1, ap (λ l. t ∷ l) rest.2, ap₂ (λ x l. x ∷ l) first rest.3, rest.4)

same_table : (m n : Members) → table m ≡ table n → m ≡ n
same_table m n e = cc

-- One more table was read.
pub routes_more : (vs : List Value) (n : ℕ) (v : Value) (m : Members) (routes routes' : List Route) (route : Route) → n < length vs → v ≡ get_or vs n v
    → Some m ≡ as_table (view v) → IsRoute m route → routes' ≡ routes ++ route ∷ [] → HasRead (take n vs) routes → HasRead (take (n + 1) vs) routes'
routes_more vs n v m routes routes' route less at is route_is more h tables e =
    let values : map view (take (n + 1) vs) ≡ map view (take n vs) ++ view v ∷ [] =
    ap (map view) (take_more vs n v less ∙ ap (λ x. take n vs ++ x ∷ []) (sym at)) ∙ map-append view (take n vs) (v ∷ []) in
    let last = last_table (map view (take n vs)) (view v) tables (sym values ∙ e) in
    let same : m ≡ last.1 = same_table m last.1 (sym (table_is (view v) m is) ∙ last.4) in
    rw (last.2, more) (one_more last.0 routes last.1 route (h last.0 last.3) (subst (λ x. IsRoute x route) same route_is))

pub routes_are_right : (tables : List Members) (routes : List Route) → AreRoutes tables routes → AllByRecursion (AreRight route_keys) tables
routes_are_right [] [] h = tt
routes_are_right [] (r ∷ routes) h = absurd h
routes_are_right (t ∷ tables) [] h = absurd h
routes_are_right (t ∷ tables) (r ∷ routes) h =
    (((r.authority.items, h.0.authority), ((r.prefix.items, h.0.prefix), ((_, h.0.upstream), tt))), routes_are_right tables routes h.1)

-- A table that is no route is found behind those that are.
pub routes_fail : (vs : List Value) (n : ℕ) (v : Value) (m : Members) (routes : List Route) (fault : ConfigFault) → n < length vs → v ≡ get_or vs n v
    → Some m ≡ as_table (view v) → IsNoRoute m fault → HasRead (take n vs) routes → (tables : List Members) → map view vs ≡ map table tables → AreNoRoutes tables fault
routes_fail vs n v m routes NotToml less at is h read tables e = h
routes_fail vs n v m routes UnknownKey less at is h read tables e = h
routes_fail vs n v m routes Memory less at is h read tables e = tt
routes_fail vs n v m routes (Bad key) less at is h read tables e =
    let cut = cut_at (map view (take n vs)) (view v) (map view (drop (suc n) vs)) tables (sym (at_place vs n v less at) ∙ e) in
    let same : m ≡ cut.entries = same_table m cut.entries (sym (table_is (view v) m is) ∙ cut.is_here) in
    record {
      before = cut.front;
      route = cut.entries;
      after = cut.back;
      parts = cut.parts;
      right = routes_are_right cut.front routes (read cut.front cut.is_front);
      wrong = subst (λ x. IsNoRoute x (Bad key)) same h;
    }

-- A value that is no table is found in no tables.
pub never_tables : (vs : List Value) (n : ℕ) (v : Value) → n < length vs → v ≡ get_or vs n v → as_table (view v) ≡ None
    → (tables : List Members) → map view vs ≡ map table tables → ⊥
never_tables vs n v less at is tables e =
    let cut = cut_at (map view (take n vs)) (view v) (map view (drop (suc n) vs)) tables (sym (at_place vs n v less at) ∙ e) in
    let bad : Some cut.entries ≡ None = sym (ap as_table cut.is_here) ∙ is in
    absurd (cc)

-- The tables of known routes have the keys of routes alone.
pub known_routes : (names : List (List ℕ)) (vs : List Value) (tables : List Members) → map view vs ≡ map table tables
    → list_all (λ v. is_only names (as_table (view v))) vs ≡ list_all (has_only names) tables
known_routes names [] [] e = refl
known_routes names [] (t ∷ ts) e = let bad : [] ≡ table t ∷ map table ts = e in absurd (cc)
known_routes names (v ∷ vs) [] e = let bad : view v ∷ map view vs ≡ [] = e in absurd (cc)
known_routes names (v ∷ vs) (t ∷ ts) e =
    let same = same_cons (view v) (table t) (map view vs) (map table ts) e in
    ap₂ (λ d b. is_only names (as_table d) && b) same.0 (known_routes names vs ts same.1)
