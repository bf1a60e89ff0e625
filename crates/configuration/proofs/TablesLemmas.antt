-- Values that are tables, and the routes that tables are.
use Rattle.std.proofs.Common.{◌≡◌, ◌<◌, ◌≤◌, ℕ, suc, true, false, ◌&&◌, List, [], ◌∷◌, ◌++◌, length, map, Option, Some, None, is_some, option_map, String, Global, BTreeMap, string_bytes, refl, ap, ap₂, sym, ◌∙◌, subst, arith}
use Rattle.std.specs.List.{list_all}
use Rattle.std.specs.BTreeMap.{keys}
use Rattle.std.proofs.lemmas.Bool.{and_parts}
use Rattle.toml.specs.Data.{Data, Items, Members, no_items, item, string, integer, float, boolean, datetime, array, table, as_array, as_table}
use Rattle.toml.specs.View.{view, items_of, items_view, members_view, table_view}
use Rattle.toml.specs.declared.value.Value.{Value}
use Rattle.configuration.specs.Keys.{AreTables}
use Rattle.configuration.specs.Configs.{is_among, has_only}

-- A value that has a table's entries is that table.
pub table_is : (d : Data) (m : Members) → Some m ≡ as_table d → d ≡ table m
table_is (table n) m e = let same : Some m ≡ Some n = e in let is : m ≡ n = cc in ap table (sym is)
table_is (string s) m e = let bad : Some m ≡ None = e in absurd (cc)
table_is (integer z) m e = let bad : Some m ≡ None = e in absurd (cc)
table_is (float x) m e = let bad : Some m ≡ None = e in absurd (cc)
table_is (boolean b) m e = let bad : Some m ≡ None = e in absurd (cc)
table_is (datetime t) m e = let bad : Some m ≡ None = e in absurd (cc)
table_is (array ds) m e = let bad : Some m ≡ None = e in absurd (cc)

has_table : (o : Option Members) → is_some o ≡ true → (m : Members) × (Some m ≡ o)
has_table None e = let bad : false ≡ true = e in absurd (cc)
has_table (Some m) e = (m, refl)

-- Values that are all tables are those of some tables.
tables_of : (vs : List Value) → list_all (λ v. is_some (as_table (view v))) vs ≡ true → (tables : List Members) × (map view vs ≡ map table tables)
tables_of [] e = ([], refl)
tables_of (v ∷ vs) e =
    let both = and_parts (is_some (as_table (view v))) (list_all (λ x. is_some (as_table (view x))) vs) e in
    let first = has_table (as_table (view v)) both.0 in
    let rest = tables_of vs both.1 in
    (first.0 ∷ rest.0, ap₂ (λ d ds. d ∷ ds) (table_is (view v) first.0 first.1) rest.1)

same_item : (d e : Data) (ds es : Items) → item d ds ≡ item e es → (d ≡ e) × (ds ≡ es)
same_item d e ds es same = (cc, cc)

-- Values that aren't all tables are those of no tables.
no_tables : (vs : List Value) (ts : List Members) → list_all (λ v. is_some (as_table (view v))) vs ≡ false → items_view vs ≡ items_of (map table ts) → ⊥
no_tables [] ts f e = let bad : true ≡ false = f in absurd (cc)
no_tables (v ∷ vs) [] f e = let bad : item (view v) (items_view vs) ≡ no_items = e in absurd (cc)
no_tables (v ∷ vs) (t ∷ ts) f e =
    let same = same_item (view v) (table t) (items_view vs) (items_of (map table ts)) e in
    no_tables vs ts (subst (λ d. (is_some (as_table d) && list_all (λ x. is_some (as_table (view x))) vs) ≡ false) same.0 f) same.1

-- As many tables as values.
as_many : (vs : List Value) (ts : List Members) → items_view vs ≡ items_of (map table ts) → length vs ≡ length ts
as_many [] [] e = refl
as_many [] (t ∷ ts) e = let bad : no_items ≡ item (table t) (items_of (map table ts)) = e in absurd (cc)
as_many (v ∷ vs) [] e = let bad : item (view v) (items_view vs) ≡ no_items = e in absurd (cc)
as_many (v ∷ vs) (t ∷ ts) e =
    let same = same_item (view v) (table t) (items_view vs) (items_of (map table ts)) e in
    ap suc (as_many vs ts same.1)

-- The values of an array at a key are tables, and few enough.
pub routes_found : (o : Option Data) (d : Data) (vs : List Value) → o ≡ Some d → Some (items_view vs) ≡ as_array d → length vs ≤ 4294967295
    → list_all (λ v. is_some (as_table (view v))) vs ≡ true → (tables : List Members) × (map view vs ≡ map table tables) × AreTables (option_map as_array o) tables
routes_found o d vs at is few all =
    let tables = tables_of vs all in
    let same : items_view vs ≡ items_of (map table tables.0) = ap items_of tables.1 in
    let count : length vs ≡ length tables.0 = as_many vs tables.0 same in
    (tables.0, tables.1, rw at (sym is ∙ ap (λ l. Some l) same, omega arith))

-- The values of an array at a key aren't all tables.
pub no_routes_found : (o : Option Data) (d : Data) (vs : List Value) → o ≡ Some d → Some (items_view vs) ≡ as_array d
    → list_all (λ v. is_some (as_table (view v))) vs ≡ false → (tables : List Members) → AreTables (option_map as_array o) tables → ⊥
no_routes_found o d vs at is not_all tables are =
    let found : as_array d ≡ Some (items_of (map table tables)) = (rw at at are).0 in
    let both : Some (items_view vs) ≡ Some (items_of (map table tables)) = is ∙ found in
    let same : items_view vs ≡ items_of (map table tables) = cc in
    no_tables vs tables not_all same

-- The values of an array at a key are too many.
pub too_many_found : (o : Option Data) (d : Data) (vs : List Value) → o ≡ Some d → Some (items_view vs) ≡ as_array d → 4294967295 < length vs
    → (tables : List Members) → AreTables (option_map as_array o) tables → ⊥
too_many_found o d vs at is many tables are =
    let found : (as_array d ≡ Some (items_of (map table tables))) × (length tables ≤ 4294967295) = (rw at at are) in
    let both : Some (items_view vs) ≡ Some (items_of (map table tables)) = is ∙ found.0 in
    let same : items_view vs ≡ items_of (map table tables) = cc in
    let count : length vs ≡ length tables = as_many vs tables same in
    let few : length tables ≤ 4294967295 = found.1 in
    omega arith

-- What stands at a key is no array.
pub no_array_found : (o : Option Data) (d : Data) → o ≡ Some d → as_array d ≡ None → (tables : List Members) → AreTables (option_map as_array o) tables → ⊥
no_array_found o d at is tables are =
    let found : as_array d ≡ Some (items_of (map table tables)) = (rw at at are).0 in
    let both : None ≡ Some (items_of (map table tables)) = sym is ∙ found in
    absurd (cc)

only_among : (names : List (List ℕ)) (es : List (String Global × Value)) → list_all (λ k. is_among names (string_bytes k)) (map (λ e. e.0) es) ≡ has_only names (members_view es)
only_among names [] = refl
only_among names (e ∷ es) = ap (λ b. is_among names (string_bytes e.0) && b) (only_among names es)

-- The test of a map's keys is that of its entries.
pub only_keys : (names : List (List ℕ)) (t : BTreeMap (String Global) Value) → list_all (λ k. is_among names (string_bytes k)) (keys t) ≡ has_only names (table_view t)
only_keys names t = only_among names t.entries

-- A list of tables, cut at one of them.
pub record Cut (before : List Data) (here : Data) (tables : List Members) : Type 0 where
  pub front : List Members
  pub entries : Members
  pub back : List Members
  pub parts : tables ≡ front ++ entries ∷ back
  pub is_front : before ≡ map table front
  pub is_here : here ≡ table entries

pub same_cons : (d e : Data) (ds es : List Data) → d ∷ ds ≡ e ∷ es → (d ≡ e) × (ds ≡ es)
same_cons d e ds es same = (cc, cc)

pub cut_at : (before : List Data) (here : Data) (after : List Data) (tables : List Members) → before ++ here ∷ after ≡ map table tables → Cut before here tables
cut_at [] here after [] e = let bad : here ∷ after ≡ [] = e in absurd (cc)
cut_at [] here after (t ∷ ts) e =
    let same = same_cons here (table t) after (map table ts) e in
    record { front = []; entries = t; back = ts; parts = refl; is_front = refl; is_here = same.0 }
cut_at (d ∷ ds) here after [] e = let bad : d ∷ (ds ++ here ∷ after) ≡ [] = e in absurd (cc)
cut_at (d ∷ ds) here after (t ∷ ts) e =
    let same = same_cons d (table t) (ds ++ here ∷ after) (map table ts) e in
    let rest = cut_at ds here after ts same.1 in
    record {
      front = t ∷ rest.front;
      entries = rest.entries;
      back = rest.back;
      parts = ap (λ l. t ∷ l) rest.parts;
      is_front = ap₂ (λ x l. x ∷ l) same.0 rest.is_front;
      is_here = rest.is_here;
    }
