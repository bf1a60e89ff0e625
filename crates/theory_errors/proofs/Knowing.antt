-- What the moves say of failures is what is known of them, now and behind any further moves.
use Rattle.std.proofs.Common.{◌≡◌, ℕ, suc, ◌≤◌, Bool, true, false, ◌||◌, ◌==◌, if◌then◌else◌, List, [], ◌∷◌, ◌++◌, length, refl, ◌∙◌, ap, subst, append_assoc, arith}
use Rattle.std.specs.List.{list_any}
use Rattle.std.proofs.lemmas.Bool.{or_from, or_left, ne_eqb, eq-eqb}
use Rattle.std.proofs.lemmas.List.Folds.{list_any-append}
use Rattle.model.specs.Setup.{Setup}
use Rattle.theory_errors.specs.Rule.{Move, tape_of, AreKnown, failures_of, known_of}

-- a place is among these
abbrev is_in : ℕ → List ℕ → Bool
is_in n places = list_any (λ place. place == n) places

abbrev pub AreFrom : ℕ → List ℕ → Type 0
AreFrom n [] = Unit {0}
AreFrom n (place ∷ places) = (n ≤ place) × AreFrom n places

none_from : (n : ℕ) (places : List ℕ) → AreFrom (suc n) places → is_in n places ≡ false
none_from n [] from = refl
none_from n (place ∷ places) from =
    or_from (place == n) (is_in n places) (ne_eqb place n (λ same. let above = from.0 in omega (arith, same, above))) (none_from n places from.1)

from_less : (n : ℕ) (places : List ℕ) → AreFrom (suc n) places → AreFrom n places
from_less n [] from = tt
from_less n (place ∷ places) from = (let above = from.0 in omega (arith, above), from_less n places from.1)

from_more : (n : ℕ) (places : List ℕ) → AreFrom (suc n) places → AreFrom n (places ++ n ∷ [])
from_more n [] from = (omega arith, tt)
from_more n (place ∷ places) from = (let above = from.0 in omega (arith, above), from_more n places from.1)

-- the failures of moves stand at places of their tape
none_later : (n : ℕ) (moves : List Move) → length (tape_of moves) ≤ n → is_in n (failures_of moves) ≡ false
none_later n [] le = refl
none_later n (m ∷ moves) le = cases m.fails (none_later n moves (omega (arith, le)))
  where
    cases : (b : Bool) → is_in n (failures_of moves) ≡ false → is_in n (if b then length (tape_of moves) ∷ failures_of moves else failures_of moves) ≡ false
    cases true rest = or_from (length (tape_of moves) == n) (is_in n (failures_of moves)) (ne_eqb (length (tape_of moves)) n (λ same. omega (arith, same, le))) rest
    cases false rest = rest

-- Behind further moves, whose failures stand at later places, as much is known of these.
pub known_later : (setup : Setup) (later : List ℕ) (moves : List Move) → AreFrom (length (tape_of moves)) later → AreKnown (record { setup = setup; failures = later ++ failures_of moves }) moves
known_later setup later [] from = tt
known_later setup later (m ∷ moves) from =
    cases m.fails (λ l f. known_later setup l moves f) (λ l. list_any-append (λ place. place == length (tape_of moves)) later l)
  where
    n : ℕ
    n = length (tape_of moves)

    cases : (b : Bool) → ((l : List ℕ) → AreFrom (length (tape_of moves)) l → AreKnown (record { setup = setup; failures = l ++ failures_of moves }) moves) → ((l : List ℕ) → is_in (length (tape_of moves)) (later ++ l) ≡ (is_in (length (tape_of moves)) later || is_in (length (tape_of moves)) l))
        → AreKnown (record { setup = setup; failures = later ++ (if b then length (tape_of moves) ∷ failures_of moves else failures_of moves) }) moves × (is_in (length (tape_of moves)) (later ++ (if b then length (tape_of moves) ∷ failures_of moves else failures_of moves)) ≡ b)
    cases true more both = (
      subst (λ (l : List ℕ). AreKnown (record { setup = setup; failures = l }) moves) (append_assoc later (length (tape_of moves) ∷ []) (failures_of moves)) (more (later ++ length (tape_of moves) ∷ []) (from_more (length (tape_of moves)) later from)),
      both (length (tape_of moves) ∷ failures_of moves)
          ∙ ap (λ b. b || is_in (length (tape_of moves)) (length (tape_of moves) ∷ failures_of moves)) (none_from (length (tape_of moves)) later from)
          ∙ or_left (length (tape_of moves) == length (tape_of moves)) (is_in (length (tape_of moves)) (failures_of moves)) (eq-eqb (length (tape_of moves)) (length (tape_of moves)) refl),
    )
    cases false more both = (
      more later (from_less (length (tape_of moves)) later from),
      both (failures_of moves)
          ∙ ap (λ b. b || is_in (length (tape_of moves)) (failures_of moves)) (none_from (length (tape_of moves)) later from)
          ∙ none_later (length (tape_of moves)) moves (omega arith),
    )

pub known_so : (setup : Setup) (moves : List Move) → AreKnown (known_of setup moves) moves
known_so setup moves = known_later setup [] moves tt
