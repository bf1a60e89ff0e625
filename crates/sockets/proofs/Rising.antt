-- Connections whose numbers don't fall: which are found, and how they stay so.
use Rattle.std.proofs.Common.{◌≡◌, ◌≤◌, ◌<◌, ◌+◌, ℕ, zero, suc, List, [], ◌∷◌, length, set, get_or, map, true, false, Result, Ok, Err, refl, sym, ap, ◌∙◌, inl, inr, arith}
use Rattle.std.proofs.lemmas.List.{get_or-map, length-map}
use Rattle.std.proofs.lemmas.List.Edits.{get_or-remove_below, get_or-remove_above, length-remove}
use Rattle.std.proofs.lemmas.List.Sorted.{IsNonDecreasingBy-insert}
use Rattle.std.proofs.lemmas.Bool.{cases_lt}
use Rattle.std.proofs.lemmas.Bool.Decides.{nat_tests}
use Rattle.std.proofs.lemmas.Cmp.{ranked}
use Rattle.std.proofs.Math.Seq.{map-set_same}
use Rattle.std.specs.Prelude.{IfSome, IfNone, nat_lt}
use Rattle.std.specs.List.{insert, remove}
use Rattle.std.specs.List.Sorted.{IsBinarySearchResult, IsNonDecreasingBy, IsPartitionPoint}
use Rattle.std.specs.Result.{result_ok}
use Rattle.std.specs.Ordering.{nat_cmp, ordering_index}
use Rattle.sockets.specs.declared.upstream.Upstream.{Upstream}
use Rattle.sockets.specs.Performed.{AreRising, IsOpenNowhere}

module _ {S : Type 0} where
  -- One that changed before it was taken away is taken away.
  pub set_removed : (us : List (Upstream S)) (i : ℕ) (u : Upstream S) → remove (set us i u) i ≡ remove us i
  set_removed [] i u = refl
  set_removed (v ∷ vs) zero u = refl
  set_removed (v ∷ vs) (suc i) u = ap (λ ws. v ∷ ws) (set_removed vs i u)

  -- the comparisons with a number rise, as a binary search asks
  comparisons_rise : (us : List (Upstream S)) (k : ℕ) → AreRising us → IsNonDecreasingBy (λ (u : Upstream S). ordering_index (nat_cmp u.k k)) us
  comparisons_rise us k up i j d le within =
      let rises : (get_or us i d).k ≤ (get_or us j d).k = up i j d le within in
      grind (arith, nat_tests)

  -- A search by halves ends at a connection with that number, or says that it found none.
  pub searched : (us : List (Upstream S)) (k : ℕ) (r : Result ℕ ℕ) → IsBinarySearchResult (λ (u : Upstream S). nat_cmp u.k k) us r
      → IfSome (result_ok r) (λ place. (other : Upstream S) → (get_or us place other).k ≡ k)
  searched us k (Ok place) equal = λ other. ranked _ k _ (sym (equal other))
  searched us k (Err place) parted = tt

  -- Where it says so there is none.
  pub not_found : (us : List (Upstream S)) (k : ℕ) (r : Result ℕ ℕ) → IsBinarySearchResult (λ (u : Upstream S). nat_cmp u.k k) us r → IfNone (result_ok r) (AreRising us → IsOpenNowhere k us)
  not_found us k (Ok place) equal = tt
  not_found us k (Err place) parted = λ up i d within same.
      elim (cases_lt i place) [
        | inl before ↦ (let less : (get_or us i d).k < k = ranked _ k _ (sym ((parted (comparisons_rise us k up)).0 i d (omega arith) before)) in omega (arith, less, same))
        | inr from ↦ (let more : k < (get_or us i d).k = ranked _ k _ (sym ((parted (comparisons_rise us k up)).1 i d from within)) in omega (arith, more, same))
      ]

  -- Others that have the same numbers.
  pub rising_same : (us vs : List (Upstream S)) → map (λ (u : Upstream S). u.k) vs ≡ map (λ (u : Upstream S). u.k) us → AreRising us → AreRising vs
  rising_same us vs same up a b d le lt =
      let long : length vs ≡ length us = sym (length-map vs (λ (u : Upstream S). u.k)) ∙ ap length same ∙ length-map us (λ (u : Upstream S). u.k) in
      let first : (get_or vs a d).k ≡ (get_or us a d).k = sym (get_or-map (λ (u : Upstream S). u.k) vs a d 0 (omega (arith, le, lt))) ∙ ap (λ ks. get_or ks a 0) same ∙ get_or-map (λ (u : Upstream S). u.k) us a d 0 (omega (arith, le, lt, long)) in
      let second : (get_or vs b d).k ≡ (get_or us b d).k = sym (get_or-map (λ (u : Upstream S). u.k) vs b d 0 lt) ∙ ap (λ ks. get_or ks b 0) same ∙ get_or-map (λ (u : Upstream S). u.k) us b d 0 (omega (arith, lt, long)) in
      omega (arith, first, second, up a b d le (omega (arith, lt, long)))

  -- One changed that has its number still.
  pub rising_set : (us : List (Upstream S)) (i : ℕ) (old new : Upstream S) → new.k ≡ (get_or us i old).k → AreRising us → AreRising (set us i new)
  rising_set us i old new is = rising_same us (set us i new) (map-set_same (λ (u : Upstream S). u.k) us i new old is)

  -- One was taken away.
  pub rising_remove : (us : List (Upstream S)) (i : ℕ) → i < length us → AreRising us → AreRising (remove us i)
  rising_remove us i within up a b d le lt =
      let long : length (remove us i) + 1 ≡ length us = length-remove us i within in
      elim (cases_lt b i) [
        | inl below ↦ omega (arith, ap (λ (u : Upstream S). u.k) (get_or-remove_below us i d a (omega (arith, le, below)) within), ap (λ (u : Upstream S). u.k) (get_or-remove_below us i d b below within), up a b d le (omega (arith, below, within)))
        | inr above ↦ elim (cases_lt a i) [
          | inl below ↦ omega (arith, ap (λ (u : Upstream S). u.k) (get_or-remove_below us i d a below within), ap (λ (u : Upstream S). u.k) (get_or-remove_above us i d b above within), up a (b + 1) d (omega (arith, le)) (omega (arith, lt, long)))
          | inr from ↦ omega (arith, ap (λ (u : Upstream S). u.k) (get_or-remove_above us i d a from within), ap (λ (u : Upstream S). u.k) (get_or-remove_above us i d b above within), up (a + 1) (b + 1) d (omega (arith, le)) (omega (arith, lt, long)))
        ]
      ]

  -- One was put between those below it and the others.
  pub rising_insert : (us : List (Upstream S)) (i : ℕ) (u : Upstream S) (k : ℕ) → u.k ≡ k → i ≤ length us → AreRising us
      → IsPartitionPoint (λ (v : Upstream S). nat_lt v.k k ≡ true) (λ (v : Upstream S). nat_lt v.k k ≡ false) us i → AreRising (insert us i u)
  rising_insert us i u k is within up point =
      IsNonDecreasingBy-insert (λ (v : Upstream S). v.k) us i u up within
      (λ j d lt. let low : nat_lt (get_or us j d).k k ≡ true = point.0 j d (omega arith) lt in grind (arith, nat_tests))
      (λ j d le lt. let high : nat_lt (get_or us j d).k k ≡ false = point.1 j d le lt in grind (arith, nat_tests))
