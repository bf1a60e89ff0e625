-- No stream has two turns while another that is ready has none.
use Rattle.std.proofs.Common.{◌≡◌, ◌≢◌, ℕ, ◌<◌, ◌≤◌, List, [], ◌∷◌, Some, refl, inl, inr, arith}
use Rattle.std.specs.Prelude.{SomeIndex, slice_index, ◌⊎◌}
use Rattle.std.proofs.lemmas.Bool.Decides.{nat_tests}
use Rattle.std.proofs.lemmas.Bool.{cases_lt}
use Rattle.model.specs.Turns.{IsNextTurn, Turn, AreTurns, IsPassedOver, turns_of}

-- while a stream above the last waits, the next turn is between the two
between : (last waiting : ℕ) (ready : List ℕ) (id : ℕ) → last < waiting → IsNextTurn last ready (Some id) → SomeIndex ready (λ k. slice_index ready k ≡ waiting) → id ≢ waiting → record { above : last < id; under : id < waiting }
between last waiting ready id lt (inl next) there ne =
    let at_most = next.least there.0 there.1 (omega (arith, there.2)) in
    record { above = next.above; under = omega (arith, at_most, there.2, ne) }
between last waiting ready id lt (inr first) there ne = absurd (omega (arith, first.none_above there.0 there.1, there.2))

-- so the turns rise below it, and none comes twice
rising : (last waiting other : ℕ) (turns : List Turn) → last < waiting → AreTurns last turns → IsPassedOver waiting turns → record { once : turns_of other turns ≤ 1; none_before : other ≤ last → turns_of other turns ≡ 0; none_behind : waiting ≤ other → turns_of other turns ≡ 0 }
rising last waiting other [] lt are over = record { once = omega arith; none_before = λ le. refl; none_behind = λ le. refl }
rising last waiting other (turn ∷ turns) lt are over =
    let step = between last waiting turn.ready turn.id lt are.0 over.0 over.1 in
    let later = rising turn.id waiting other turns step.under are.1 over.2 in
    record {
      once = grind (arith, nat_tests, later.once, later.none_before);
      none_before = λ le. grind (arith, nat_tests, step.above, later.none_before);
      none_behind = λ le. grind (arith, nat_tests, step.under, later.none_behind);
    }

-- while one that isn't above the last waits, the next turn is above the last, or below the one that waits
beyond : (last waiting : ℕ) (ready : List ℕ) (id : ℕ) → IsNextTurn last ready (Some id) → SomeIndex ready (λ k. slice_index ready k ≡ waiting) → id ≢ waiting → (last < id) ⊎ (id < waiting)
beyond last waiting ready id (inl next) there ne = inl next.above
beyond last waiting ready id (inr first) there ne = inr (omega (arith, first.least there.0 there.1, there.2, ne))

-- so the turns rise from the last, and then below it, and none comes twice
turning : (last waiting other : ℕ) (turns : List Turn) → waiting ≤ last → AreTurns last turns → IsPassedOver waiting turns → record { once : turns_of other turns ≤ 1; none_between : waiting ≤ other → other ≤ last → turns_of other turns ≡ 0 }
turning last waiting other [] le are over = record { once = omega arith; none_between = λ a b. refl }
turning last waiting other (turn ∷ turns) le are over = elim (beyond last waiting turn.ready turn.id are.0 over.0 over.1) [
  | inl above ↦
      let later = turning turn.id waiting other turns (omega arith) are.1 over.2 in
      record {
        once = grind (arith, nat_tests, later.once, later.none_between);
        none_between = λ a b. grind (arith, nat_tests, above, later.none_between);
      }
  | inr under ↦
      let later = rising turn.id waiting other turns under are.1 over.2 in
      record {
        once = grind (arith, nat_tests, later.once, later.none_before);
        none_between = λ a b. grind (arith, nat_tests, under, later.none_behind);
      }
]

pub no_second_turn : (last waiting other : ℕ) (turns : List Turn) → AreTurns last turns → IsPassedOver waiting turns → turns_of other turns ≤ 1
no_second_turn last waiting other turns are over = elim (cases_lt last waiting) [
  | inl lt ↦ (rising last waiting other turns lt are over).once
  | inr le ↦ (turning last waiting other turns le are over).once
]
