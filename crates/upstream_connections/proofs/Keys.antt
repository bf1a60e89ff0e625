-- The keys of idle connections, by rising key: they stand in the order of routes and of numbers, and change with the connections.
use Rattle.std.proofs.Common.{◌≡◌, ℕ, ◌<◌, ◌≤◌, ◌==◌, ◌^◌, if◌then◌else◌, Bool, true, false, List, [], ◌∷◌, ◌++◌, length, map, Some, None, refl, sym, ap, ◌∙◌, subst, inl, inr, arith}
use Rattle.std.specs.Prelude.{Option, suc, reverse}
use Rattle.std.proofs.lemmas.Bool.{eq-eqb, ne_eqb, eqb-true, cases_lt}
use Rattle.std.proofs.lemmas.List.{reverse-append}
use Rattle.upstream_response.specs.Waiting.{Answer}
use Rattle.theory_requests.specs.Lines as theory_requests
use Rattle.model.specs.Limits.{most_streams}
use Rattle.theory_requests.specs.Lines.{find, without, is_idle, idle_ones, idle_beside}
use Rattle.theory_requests.specs.Lines.Answer.{Pending}
use Rattle.theory_requests.proofs.Lists.{find_gone}
use Rattle.upstream_connections.specs.Connections.{Connection, number_of, lives, others, among, Rise, AreBelow, is_idle_one, marked_at, given_at}
use Rattle.upstream_connections.specs.Keys.{key, keys_of, rising, idle_keys, idle_route}
use Rattle.upstream_connections.proofs.Openings.{weaker, below_changed}
use Rattle.upstream_connections.proofs.Rising.{Lacks, AreDistinct, Climbs, climbing_rise, rising_climb, as_many, others_rising, among_two}
use Rattle.upstream_connections.proofs.Idling.{more, idle_in, but_other, but_own, all_beside, beside_without, lives_same, given_idle}

-- ---- keys are apart

-- those of two numbers are, whichever routes they have
pub keys_apart : (r s j k : ℕ) → j < 2 ^ 32 → k < 2 ^ 32 → key r j ≡ key s k → j ≡ k
keys_apart r s j k low high same = elim (cases_lt r s) [
  | inl less ↦ absurd (omega (arith, same, low, less))
  | inr from ↦ elim (cases_lt s r) [
    | inl more ↦ absurd (omega (arith, same, high, more))
    | inr upto ↦ (let alike : r ≡ s = omega (arith, from, upto) in omega (arith, same, alike))
  ]
]

-- the keys of these connections
abbrev pub keys_in : List Connection → List ℕ
keys_in cs = keys_of (lives cs)

-- one of a number above theirs isn't among them
lacks_above : (route k top : ℕ) (cs : List Connection) → AreBelow top cs → top ≤ k → k < 2 ^ 32 → Lacks (key route k) (keys_in cs)
lacks_above route k top [] below le fits = tt
lacks_above route k top (c ∷ cs) below le fits = by (is_idle c.live.answer) (lacks_above route k c.live.k cs below.1 (let low = below.0 in omega (arith, low, le)) fits)
  where
    by : (b : Bool) → Lacks (key route k) (keys_in cs) → Lacks (key route k) (more b (key c.live.route c.live.k) (keys_in cs))
    by true rest = (
      (λ same. let low = below.0 in let alike = keys_apart c.live.route route c.live.k k (omega (arith, low, le, fits)) fits same in omega (arith, low, le, alike)),
      rest,
    )
    by false rest = rest

distinct : (top : ℕ) (cs : List Connection) → AreBelow top cs → top ≤ 2 ^ 32 → AreDistinct (keys_in cs)
distinct top [] below le = tt
distinct top (c ∷ cs) below le = by (is_idle c.live.answer) (distinct c.live.k cs below.1 (let low = below.0 in omega (arith, low, le)))
  where
    by : (b : Bool) → AreDistinct (keys_in cs) → AreDistinct (more b (key c.live.route c.live.k) (keys_in cs))
    by true rest = (lacks_above c.live.route c.live.k c.live.k cs below.1 (omega arith) (let low = below.0 in omega (arith, low, le)), rest)
    by false rest = rest

pub keys_climb : (top : ℕ) (cs : List Connection) → AreBelow top cs → top ≤ 2 ^ 32 → Climbs (idle_keys cs)
keys_climb top cs below le = rising_climb (keys_in cs) (distinct top cs below le)

pub keys_rise : (top : ℕ) (cs : List Connection) → AreBelow top cs → top ≤ 2 ^ 32 → Rise (idle_keys cs)
keys_rise top cs below le = climbing_rise (idle_keys cs) (keys_climb top cs below le)

-- ---- without one

without_below : (k top : ℕ) (cs : List Connection) → AreBelow top cs → top ≤ k → without number_of k cs ≡ cs
without_below k top [] below le = refl
without_below k top (c ∷ cs) below le =
    ap (λ b. if b then without number_of k cs else c ∷ without number_of k cs) (ne_eqb c.live.k k (let low = below.0 in λ same. omega (arith, low, le, same)))
    ∙ ap (λ rest. c ∷ rest) (without_below k c.live.k cs below.1 (let low = below.0 in omega (arith, low, le)))

-- where it isn't idle they are those of the others
pub keys_beside : (k top : ℕ) (cs : List Connection) → AreBelow top cs → idle_route (find number_of k cs) ≡ None → keys_in cs ≡ keys_in (without number_of k cs)
keys_beside k top [] below off = refl
keys_beside k top (c ∷ cs) below off = by (c.live.k == k) refl off (keys_beside k c.live.k cs below.1)
  where
    left : (i : Bool) → (if i then Some c.live.route else None) ≡ None → more i (key c.live.route c.live.k) (keys_in cs) ≡ keys_in cs
    left true none = let clash : ◌≡◌ {A = Option ℕ} (Some c.live.route) None = none in cc
    left false none = refl

    by : (b : Bool) → (c.live.k == k) ≡ b → idle_route (if b then Some c else find number_of k cs) ≡ None
        → (idle_route (find number_of k cs) ≡ None → keys_in cs ≡ keys_in (without number_of k cs))
        → keys_in (c ∷ cs) ≡ keys_in (if b then without number_of k cs else c ∷ without number_of k cs)
    by true own none rest =
        left (is_idle c.live.answer) none
        ∙ sym (ap keys_in (without_below k c.live.k cs below.1 (let same = eqb-true c.live.k k own in omega (arith, same))))
    by false other none rest = ap (more (is_idle c.live.answer) (key c.live.route c.live.k)) (rest none)

-- where it is it stands among those of the others
pub keys_among : (route k top : ℕ) (cs : List Connection) → AreBelow top cs → idle_route (find number_of k cs) ≡ Some route → idle_keys cs ≡ among (key route k) (idle_keys (without number_of k cs))
keys_among route k top [] below on = let clash : ◌≡◌ {A = Option ℕ} None (Some route) = on in cc
keys_among route k top (c ∷ cs) below on = by (c.live.k == k) refl on (keys_among route k c.live.k cs below.1)
  where
    head : (i : Bool) → c.live.k ≡ k → (if i then Some c.live.route else None) ≡ Some route → rising (more i (key c.live.route c.live.k) (keys_in cs)) ≡ among (key route k) (idle_keys cs)
    head true same is =
        let alike : c.live.route ≡ route = (let o : ◌≡◌ {A = Option ℕ} (Some c.live.route) (Some route) = is in cc) in
        ap (λ n. among (key c.live.route n) (idle_keys cs)) same ∙ ap (λ r. among (key r k) (idle_keys cs)) alike
    head false same is = let clash : ◌≡◌ {A = Option ℕ} None (Some route) = is in cc

    behind : (i : Bool) → idle_keys cs ≡ among (key route k) (idle_keys (without number_of k cs))
        → rising (more i (key c.live.route c.live.k) (keys_in cs)) ≡ among (key route k) (rising (more i (key c.live.route c.live.k) (keys_in (without number_of k cs))))
    behind true rest = ap (among (key c.live.route c.live.k)) rest ∙ among_two (key c.live.route c.live.k) (key route k) (idle_keys (without number_of k cs))
    behind false rest = rest

    by : (b : Bool) → (c.live.k == k) ≡ b → idle_route (if b then Some c else find number_of k cs) ≡ Some route
        → (idle_route (find number_of k cs) ≡ Some route → idle_keys cs ≡ among (key route k) (idle_keys (without number_of k cs)))
        → idle_keys (c ∷ cs) ≡ among (key route k) (idle_keys (if b then without number_of k cs else c ∷ without number_of k cs))
    by true own is rest =
        let same = eqb-true c.live.k k own in
        head (is_idle c.live.answer) same is
        ∙ sym (ap (λ ds. among (key route k) (idle_keys ds)) (without_below k c.live.k cs below.1 (omega (arith, same))))
    by false other is rest = behind (is_idle c.live.answer) (rest is)

-- ---- one is struck

-- Each that has the number has the route.
abbrev AreOf : ℕ → ℕ → List Connection → Type 0
AreOf route k [] = Unit {0}
AreOf route k (c ∷ cs) = (c.live.k ≡ k → c.live.route ≡ route) × AreOf route k cs

none_of : (route k top : ℕ) (cs : List Connection) → AreBelow top cs → top ≤ k → AreOf route k cs
none_of route k top [] below le = tt
none_of route k top (c ∷ cs) below le = (
  (λ same. let low = below.0 in absurd (omega (arith, low, le, same))),
  none_of route k c.live.k cs below.1 (let low = below.0 in omega (arith, low, le)),
)

are_of : (route k top : ℕ) (cs : List Connection) → AreBelow top cs → idle_route (find number_of k cs) ≡ Some route → AreOf route k cs
are_of route k top [] below on = tt
are_of route k top (c ∷ cs) below on = by (c.live.k == k) refl on (are_of route k c.live.k cs below.1)
  where
    routed : (i : Bool) → (if i then Some c.live.route else None) ≡ Some route → c.live.route ≡ route
    routed true is = let o : ◌≡◌ {A = Option ℕ} (Some c.live.route) (Some route) = is in cc
    routed false is = let clash : ◌≡◌ {A = Option ℕ} None (Some route) = is in cc

    by : (b : Bool) → (c.live.k == k) ≡ b → idle_route (if b then Some c else find number_of k cs) ≡ Some route → (idle_route (find number_of k cs) ≡ Some route → AreOf route k cs) → AreOf route k (c ∷ cs)
    by true own is rest = (
      (λ same. routed (is_idle c.live.answer) is),
      none_of route k c.live.k cs below.1 (let same = eqb-true c.live.k k own in omega (arith, same)),
    )
    by false other is rest = ((λ same. let clash : ◌≡◌ {A = Bool} true false = sym (eq-eqb c.live.k k same) ∙ other in cc), rest is)

key_goes : (route k top : ℕ) (cs : List Connection) → AreBelow top cs → top ≤ 2 ^ 32 → k < 2 ^ 32 → AreOf route k cs → others (key route k) (keys_in cs) ≡ keys_in (without number_of k cs)
key_goes route k top [] below le fits of = refl
key_goes route k top (c ∷ cs) below le fits of = by (c.live.k == k) refl (key_goes route k c.live.k cs below.1 (omega (arith, low, le)) fits of.1)
  where
    low : c.live.k < top
    low = below.0

    by : (b : Bool) → (c.live.k == k) ≡ b → others (key route k) (keys_in cs) ≡ keys_in (without number_of k cs)
        → others (key route k) (keys_in (c ∷ cs)) ≡ keys_in (if b then without number_of k cs else c ∷ without number_of k cs)
    by true own rest =
        let same = eqb-true c.live.k k own in
        but_own (key route k) (is_idle c.live.answer) (key c.live.route c.live.k) (keys_in cs)
        (eq-eqb (key c.live.route c.live.k) (key route k) (ap (λ n. key c.live.route n) same ∙ ap (λ r. key r k) (of.0 same)))
        ∙ rest
    by false other rest =
        but_other (key route k) (is_idle c.live.answer) (key c.live.route c.live.k) (keys_in cs)
        (ne_eqb (key c.live.route c.live.k) (key route k) (λ alike.
        let same = keys_apart c.live.route route c.live.k k (omega (arith, low, le)) fits alike in
        let clash : ◌≡◌ {A = Bool} true false = sym (eq-eqb c.live.k k same) ∙ other in cc))
        ∙ ap (more (is_idle c.live.answer) (key c.live.route c.live.k)) rest

-- those that are left are the others'
pub key_struck : (route k top : ℕ) (cs : List Connection) → AreBelow top cs → top ≤ 2 ^ 32 → k < 2 ^ 32 → idle_route (find number_of k cs) ≡ Some route
    → others (key route k) (idle_keys cs) ≡ idle_keys (without number_of k cs)
key_struck route k top cs below le fits on =
    others_rising (key route k) (keys_in cs) (distinct top cs below le)
    ∙ ap rising (key_goes route k top cs below le fits (are_of route k top cs below on))

-- the numbers of connections are fewer than those that a key has room for
pub all_fit : (count : ℕ) → count ≤ most_streams → suc count ≤ 2 ^ 32
all_fit count few = omega (arith, few)

pub fits_all : (count : ℕ) → count ≤ most_streams → (cs : List Connection) → AreBelow (suc count) cs → AreBelow (2 ^ 32) cs
fits_all count few cs below = weaker (suc count) (2 ^ 32) cs (all_fit count few) below

-- ---- as connections change

-- what changes of one alone leaves those of the others
pub keys_left : (k : ℕ) (f : Connection → Connection) → ((c : Connection) → (f c).live.k ≡ c.live.k) → ((c : Connection) → (f c).live.route ≡ c.live.route)
    → ((c : Connection) → (c.live.k == k) ≡ false → (f c).live.answer ≡ c.live.answer) → (cs : List Connection) → keys_in (without number_of k (map f cs)) ≡ keys_in (without number_of k cs)
keys_left k f number route same [] = refl
keys_left k f number route same (c ∷ cs) = by (c.live.k == k) refl (keys_left k f number route same cs)
  where
    by : (b : Bool) → (c.live.k == k) ≡ b → keys_in (without number_of k (map f cs)) ≡ keys_in (without number_of k cs)
        → keys_in (without number_of k (f c ∷ map f cs)) ≡ keys_in (if b then without number_of k cs else c ∷ without number_of k cs)
    by true own rest =
        ap (λ b. keys_in (if b then without number_of k (map f cs) else f c ∷ without number_of k (map f cs))) (ap (λ n. n == k) (number c) ∙ own)
        ∙ rest
    by false other rest =
        ap (λ b. keys_in (if b then without number_of k (map f cs) else f c ∷ without number_of k (map f cs))) (ap (λ n. n == k) (number c) ∙ other)
        ∙ ap (λ a. more (is_idle a) (key (f c).live.route (f c).live.k) (keys_in (without number_of k (map f cs)))) (same c other)
        ∙ ap (λ n. more (is_idle c.live.answer) (key (f c).live.route n) (keys_in (without number_of k (map f cs)))) (number c)
        ∙ ap (λ r. more (is_idle c.live.answer) (key r c.live.k) (keys_in (without number_of k (map f cs)))) (route c)
        ∙ ap (more (is_idle c.live.answer) (key c.live.route c.live.k)) rest

-- as many as are idle
keys_counted : (cs : List Connection) → length (keys_in cs) ≡ length (idle_in cs)
keys_counted [] = refl
keys_counted (c ∷ cs) = by (is_idle c.live.answer) (keys_counted cs)
  where
    by : (b : Bool) → length (keys_in cs) ≡ length (idle_in cs) → length (more b (key c.live.route c.live.k) (keys_in cs)) ≡ length (more b c.live.k (idle_in cs))
    by true rest = ap suc rest
    by false rest = rest

-- as many of the others as are idle beside one
pub keys_beside_counted : (k : ℕ) (cs : List Connection) → length (idle_keys (without number_of k cs)) ≡ idle_beside k (lives cs)
keys_beside_counted k cs =
    as_many (keys_in (without number_of k cs))
    ∙ keys_counted (without number_of k cs)
    ∙ ap length (sym (all_beside k (without number_of k cs) (find_gone number_of k cs)) ∙ beside_without k cs)

-- ---- what may be open and idle

pub route_on : (o : Option Connection) (route : ℕ) → idle_route o ≡ Some route → is_idle_one o ≡ true
route_on None route is = let clash : ◌≡◌ {A = Option ℕ} None (Some route) = is in cc
route_on (Some c) route is = by (is_idle c.live.answer) is
  where
    by : (b : Bool) → (if b then Some c.live.route else None) ≡ Some route → b ≡ true
    by true i = refl
    by false i = let clash : ◌≡◌ {A = Option ℕ} None (Some route) = i in cc

pub route_off : (o : Option Connection) → idle_route o ≡ None → is_idle_one o ≡ false
route_off None is = refl
route_off (Some c) is = by (is_idle c.live.answer) is
  where
    by : (b : Bool) → (if b then Some c.live.route else None) ≡ None → b ≡ false
    by true i = let clash : ◌≡◌ {A = Option ℕ} (Some c.live.route) None = i in cc
    by false i = refl

off_route : (o : Option Connection) → is_idle_one o ≡ false → idle_route o ≡ None
off_route None off = refl
off_route (Some c) off = ap (λ b. if b then Some c.live.route else None) off

-- ---- as they lie

module _ (old new : List Connection) (keys : List ℕ) (were : keys ≡ idle_keys (reverse old)) where
  -- where the lines stay as they are
  pub keys_same : (f : Connection → Connection) → ((c : Connection) → (f c).live ≡ c.live) → reverse new ≡ map f (reverse old) → keys ≡ idle_keys (reverse new)
  keys_same f same changed =
      were
      ∙ sym (ap (λ ls. rising (keys_of ls)) (lives_same f same (reverse old)))
      ∙ sym (ap idle_keys changed)

  -- where one was opened
  pub keys_opened : (c : Connection) → new ≡ old ++ c ∷ [] → c.live.answer ≡ Pending → keys ≡ idle_keys (reverse new)
  keys_opened c grown pending =
      were
      ∙ sym (ap (λ a. rising (more (is_idle a) (key c.live.route c.live.k) (keys_in (reverse old)))) pending)
      ∙ sym (ap idle_keys (reverse-append old (c ∷ [])))
      ∙ sym (ap (λ cs. idle_keys (reverse cs)) grown)

module _ (old new : List Connection) (k top : ℕ) (below : AreBelow top (reverse old)) where
  -- where it was given to a stream
  pub keys_given : (stream : ℕ) (answer : Answer) → reverse new ≡ map (given_at k stream answer) (reverse old) → idle_keys (without number_of k (reverse old)) ≡ idle_keys (reverse new)
  keys_given stream answer changed =
      ap rising (
      sym (keys_left k (given_at k stream answer) (λ c. refl) (λ c. refl) (λ c other. ap (λ b. if b then Pending else c.live.answer) other) (reverse old))
      ∙ sym (keys_beside k top (map (given_at k stream answer) (reverse old)) (below_changed (given_at k stream answer) (λ c. refl) top (reverse old) below)
      (off_route (find number_of k (map (given_at k stream answer) (reverse old))) (given_idle k stream answer (reverse old) (find number_of k (reverse old)) refl)))
      )
      ∙ sym (ap idle_keys changed)

  module _ (progress : theory_requests.Answer) (changed : reverse new ≡ map (marked_at k progress) (reverse old)) where
    below_new : AreBelow top (reverse new)
    below_new = subst (AreBelow top) (sym changed) (below_changed (marked_at k progress) (λ c. refl) top (reverse old) below)

    left_new : keys_in (without number_of k (reverse old)) ≡ keys_in (without number_of k (reverse new))
    left_new =
        sym (keys_left k (marked_at k progress) (λ c. refl) (λ c. refl) (λ c other. ap (λ b. if b then progress else c.live.answer) other) (reverse old))
        ∙ sym (ap (λ cs. keys_in (without number_of k cs)) changed)

    -- where it isn't idle with its response so far
    pub keys_off : idle_route (find number_of k (reverse new)) ≡ None → idle_keys (without number_of k (reverse old)) ≡ idle_keys (reverse new)
    keys_off off = ap rising (left_new ∙ sym (keys_beside k top (reverse new) below_new off))

    -- where it is
    pub keys_on : (route : ℕ) → idle_route (find number_of k (reverse new)) ≡ Some route → among (key route k) (idle_keys (without number_of k (reverse old))) ≡ idle_keys (reverse new)
    keys_on route on = ap (λ ks. among (key route k) (rising ks)) left_new ∙ sym (keys_among route k top (reverse new) below_new on)
