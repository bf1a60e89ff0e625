-- Of keys that rise the first of a route tells its least connection that is idle.
use Rattle.std.proofs.Common.{◌≡◌, ℕ, ◌-◌, ◌<◌, ◌≤◌, ◌==◌, ◌^◌, nat_lt, if◌then◌else◌, Bool, true, false, not, ◌&&◌, List, [], ◌∷◌, length, get_or, Some, None, refl, sym, ap, ◌∙◌, inl, inr, arith}
use Rattle.std.specs.Prelude.{Option, zero, suc}
use Rattle.std.proofs.lemmas.Bool.{lt-ltb, le-ltb, eq-eqb, ne_eqb, eqb-true, cases_lt, false≢true}
use Rattle.theory_requests.specs.Lines.{is_idle, least_idle, lesser}
use Rattle.upstream_connections.specs.Connections.{Connection, lives, among, Rise, AreBelow}
use Rattle.upstream_connections.specs.Keys.{key, is_key_of, least_key, rising, idle_keys}
use Rattle.upstream_connections.proofs.Idling.{more}
use Rattle.upstream_connections.proofs.Numbers.{none_falls}
use Rattle.upstream_connections.proofs.Rising.{AreFrom, Climbs}
use Rattle.upstream_connections.proofs.Keys.{keys_in, keys_climb}

-- ---- keys of a route

is_below : (route x : ℕ) → x < key route 0 → is_key_of route x ≡ false
is_below route x less = ap (λ b. not b && nat_lt x (key (suc route) 0)) (lt-ltb x (key route 0) less)

is_beyond : (route x : ℕ) → key (suc route) 0 ≤ x → is_key_of route x ≡ false
is_beyond route x from = by (nat_lt x (key route 0)) (le-ltb x (key (suc route) 0) from)
  where
    by : (b : Bool) → nat_lt x (key (suc route) 0) ≡ false → (not b && nat_lt x (key (suc route) 0)) ≡ false
    by true beyond = refl
    by false beyond = beyond

is_within : (route x : ℕ) → key route 0 ≤ x → x < key (suc route) 0 → is_key_of route x ≡ true
is_within route x from less = ap (λ b. not b && nat_lt x (key (suc route) 0)) (le-ltb x (key route 0) from) ∙ lt-ltb x (key (suc route) 0) less

-- one of the route isn't below its first
not_below : (route x : ℕ) → is_key_of route x ≡ true → key route 0 ≤ x
not_below route x is = elim (cases_lt x (key route 0)) [
  | inl less ↦ absurd (false≢true (sym (is_below route x less) ∙ is))
  | inr from ↦ from
]

-- a connection's key is one of its route, and of no other
is_own : (route r k : ℕ) → k < 2 ^ 32 → is_key_of route (key r k) ≡ (r == route)
is_own route r k fits = elim (cases_lt r route) [
  | inl less ↦ is_below route (key r k) (omega (arith, fits, less)) ∙ sym (ne_eqb r route (λ same. omega (arith, less, same)))
  | inr from ↦ elim (cases_lt route r) [
    | inl more ↦ is_beyond route (key r k) (omega (arith, more)) ∙ sym (ne_eqb r route (λ same. omega (arith, more, same)))
    | inr upto ↦ (
        let same : r ≡ route = omega (arith, from, upto) in
        is_within route (key r k) (omega (arith, same)) (omega (arith, same, fits)) ∙ sym (eq-eqb r route same)
        )
  ]
]

-- ---- the first of them

pub none_is : (route : ℕ) (keys : List ℕ) → ((i : ℕ) → i < length keys → is_key_of route (get_or keys i 0) ≡ false) → least_key route keys ≡ None
none_is route [] none = refl
none_is route (x ∷ xs) none =
    ap (λ b. if b then Some (x - key route 0) else least_key route xs) (none 0 (omega arith))
    ∙ none_is route xs (λ i lt. none (suc i) (omega (arith, lt)))

pub first_is : (route : ℕ) (keys : List ℕ) (place : ℕ) → place < length keys → ((i : ℕ) → i < place → is_key_of route (get_or keys i 0) ≡ false)
    → is_key_of route (get_or keys place 0) ≡ true → least_key route keys ≡ Some (get_or keys place 0 - key route 0)
first_is route [] place within none is = absurd (omega (arith, within))
first_is route (x ∷ xs) zero within none is = ap (λ b. if b then Some (x - key route 0) else least_key route xs) is
first_is route (x ∷ xs) (suc place) within none is =
    ap (λ b. if b then Some (x - key route 0) else least_key route xs) (none 0 (omega arith))
    ∙ first_is route xs place (omega (arith, within)) (λ i lt. none (suc i) (omega (arith, lt))) is

module _ (route : ℕ) (keys : List ℕ) (rise : Rise keys) (place : ℕ) (within : place ≤ length keys) (before : (i : ℕ) → i < place → get_or keys i 0 < key route 0) where
  -- all come before the route's first
  pub none_behind : length keys ≤ place → least_key route keys ≡ None
  none_behind all = none_is route keys (λ i lt. is_below route (get_or keys i 0) (before i (omega (arith, lt, all))))

  module _ (found : ℕ) (there : place < length keys) (is : get_or keys place 0 ≡ found) (from : key route 0 ≤ found) where
    -- the first that doesn't is of the route
    pub found_own : found - key route 0 < 2 ^ 32 → least_key route keys ≡ Some (found - key route 0)
    found_own fits =
        first_is route keys place there
        (λ i lt. is_below route (get_or keys i 0) (before i lt))
        (ap (is_key_of route) is ∙ is_within route found from (omega (arith, from, fits)))
        ∙ ap (λ n. Some (n - key route 0)) is

    -- or all from it on are of others
    pub found_other : 2 ^ 32 ≤ found - key route 0 → least_key route keys ≡ None
    found_other beyond = none_is route keys (λ i lt. elim (cases_lt i place) [
      | inl less ↦ is_below route (get_or keys i 0) (before i less)
      | inr behind ↦ (
          let low : get_or keys place 0 ≤ get_or keys i 0 = none_falls keys rise place i behind lt in
          is_beyond route (get_or keys i 0) (omega (arith, low, is, from, beyond))
          )
    ])

-- ---- it is the least that is idle

-- one that no other comes before is the least
lesser_first : (route x : ℕ) (xs : List ℕ) → AreFrom x xs → lesser (x - key route 0) (least_key route xs) ≡ x - key route 0
lesser_first route x [] from = refl
lesser_first route x (y ∷ ys) from = by (is_key_of route y) (lesser_first route x ys from.1)
  where
    by : (b : Bool) → lesser (x - key route 0) (least_key route ys) ≡ x - key route 0 → lesser (x - key route 0) (if b then Some (y - key route 0) else least_key route ys) ≡ x - key route 0
    by true rest = let first = from.0 in ap (λ b. if b then y - key route 0 else x - key route 0) (le-ltb (y - key route 0) (x - key route 0) (omega (arith, first)))
    by false rest = rest

-- a key that is of the route or isn't, before the least of others
abbrev or_lesser : Bool → ℕ → Option ℕ → Option ℕ
or_lesser own n o = if own then Some (lesser n o) else o

least_among : (route x : ℕ) (xs : List ℕ) → Climbs xs → least_key route (among x xs) ≡ or_lesser (is_key_of route x) (x - key route 0) (least_key route xs)
least_among route x [] climbs = refl
least_among route x (y ∷ ys) climbs = elim (cases_lt y x) [
  | inl less ↦ ap (λ b. least_key route (if b then y ∷ among x ys else x ∷ y ∷ ys)) (lt-ltb y x less) ∙ by (is_key_of route y) refl less (least_among route x ys climbs.1)
  | inr from ↦ (
      ap (λ b. least_key route (if b then y ∷ among x ys else x ∷ y ∷ ys)) (le-ltb y x from)
      ∙ first (is_key_of route x) (lesser_first route x (y ∷ ys) (from, weaker x (suc y) ys (omega (arith, from)) climbs.0))
      )
]
  where
    weaker : (j k : ℕ) (zs : List ℕ) → j ≤ k → AreFrom k zs → AreFrom j zs
    weaker j k [] le from = tt
    weaker j k (z ∷ zs) le from = (let low = from.0 in omega (arith, low, le), weaker j k zs le from.1)

    first : (b : Bool) → lesser (x - key route 0) (least_key route (y ∷ ys)) ≡ x - key route 0
        → (if b then Some (x - key route 0) else least_key route (y ∷ ys)) ≡ or_lesser b (x - key route 0) (least_key route (y ∷ ys))
    first true least = ap (λ n. Some n) (sym least)
    first false least = refl

    behind : (b : Bool) → nat_lt (y - key route 0) (x - key route 0) ≡ true → Some (y - key route 0) ≡ or_lesser b (x - key route 0) (Some (y - key route 0))
    behind true less = sym (ap (λ b. Some (if b then y - key route 0 else x - key route 0)) less)
    behind false less = refl

    by : (b : Bool) → is_key_of route y ≡ b → y < x → least_key route (among x ys) ≡ or_lesser (is_key_of route x) (x - key route 0) (least_key route ys)
        → (if b then Some (y - key route 0) else least_key route (among x ys)) ≡ or_lesser (is_key_of route x) (x - key route 0) (if b then Some (y - key route 0) else least_key route ys)
    by true own less rest = behind (is_key_of route x) (let low = not_below route y own in lt-ltb (y - key route 0) (x - key route 0) (omega (arith, low, less)))
    by false other less rest = rest

pub least_is : (route top : ℕ) (cs : List Connection) → AreBelow top cs → top ≤ 2 ^ 32 → least_key route (idle_keys cs) ≡ least_idle route (lives cs)
least_is route top [] below le = refl
least_is route top (c ∷ cs) below le = by (is_idle c.live.answer) (least_is route c.live.k cs below.1 (omega (arith, low, le)))
  where
    low : c.live.k < top
    low = below.0

    by : (i : Bool) → least_key route (idle_keys cs) ≡ least_idle route (lives cs)
        → least_key route (rising (more i (key c.live.route c.live.k) (keys_in cs))) ≡ (if i && c.live.route == route then Some (lesser c.live.k (least_idle route (lives cs))) else least_idle route (lives cs))
    by true rest =
        least_among route (key c.live.route c.live.k) (idle_keys cs) (keys_climb c.live.k cs below.1 (omega (arith, low, le)))
        ∙ ap (or_lesser (is_key_of route (key c.live.route c.live.k)) (key c.live.route c.live.k - key route 0)) rest
        ∙ ap (λ b. or_lesser b (key c.live.route c.live.k - key route 0) (least_idle route (lives cs))) (is_own route c.live.route c.live.k (omega (arith, low, le)))
        ∙ own (c.live.route == route) refl (least_idle route (lives cs))
      where
        own : (b : Bool) → (c.live.route == route) ≡ b → (o : Option ℕ) → or_lesser b (key c.live.route c.live.k - key route 0) o ≡ (if b then Some (lesser c.live.k o) else o)
        own true same o = let alike = eqb-true c.live.route route same in ap (λ n. Some (lesser n o)) (let number : key c.live.route c.live.k - key route 0 ≡ c.live.k = omega (arith, alike) in number)
        own false other o = refl
    by false rest = rest
