-- Turns go round: behind a turn of a stream it has none again before a stream that stays ready has had its own.
use Rattle.std.proofs.Common.{◌≡◌, ℕ, ◌<◌, ◌≤◌, List, subst, sym, inl, inr, arith}
use Rattle.std.specs.Prelude.{Some, ◌⊎◌}
use Rattle.std.proofs.lemmas.Bool.{cases_order}
use Rattle.model.specs.Turns.{IsNextTurn}
use Rattle.theory_responses.proofs.Listing.{StandsAt}

-- The last turn is on the way from one stream to another, by rising ids and then from the least again.
abbrev pub IsOnTheWay : ℕ → ℕ → ℕ → Type 0
IsOnTheWay from to last = ((from < to) × (from ≤ last) × (last < to)) ⊎ ((to < from) × ((from ≤ last) ⊎ (last < to)))

-- behind its own turn a stream is at the beginning of the way
pub way_begins : (from to : ℕ) → (from ≡ to → ⊥) → IsOnTheWay from to from
way_begins from to apart = elim (cases_order from to) [
  | inl same ↦ absurd (apart same)
  | inr (inl below) ↦ inl (below, omega arith, below)
  | inr (inr above) ↦ inr (above, inl (omega arith))
]

-- The next turn is that of the stream that is ready at the end of the way, or is on the way and not the first stream's.
pub way_goes_on : (from to last id : ℕ) (ready : List ℕ) → IsNextTurn last ready (Some id) → StandsAt ready to → (id ≡ to → ⊥) → IsOnTheWay from to last → (id ≡ from → ⊥) × IsOnTheWay from to id
way_goes_on from to last id ready (inl turn) there other way =
    let upper : last < to → id ≤ to = λ lt. subst (λ n. id ≤ n) there.2 (turn.least there.0 there.1 (subst (λ n. last < n) (sym there.2) lt)) in
    let above : last < id = turn.above in
    elim way [
      | inl w ↦ (let below : id < to = below_to (upper w.2) in let low = w.1 in (λ e. omega (arith, e, low, above), inl (w.0, omega (arith, low, above), below)))
      | inr w ↦ elim w.1 [
        | inl past ↦ (λ e. omega (arith, e, past, above), inr (w.0, inl (omega (arith, past, above))))
        | inr before ↦ (let below : id < to = below_to (upper before) in let high = w.0 in (λ e. omega (arith, e, below, high), inr (w.0, inr below)))
      ]
    ]
  where
    below_to : id ≤ to → id < to
    below_to le = elim (cases_order id to) [ inl same ↦ absurd (other same) | inr (inl lt) ↦ lt | inr (inr gt) ↦ absurd (omega (arith, le, gt)) ]
way_goes_on from to last id ready (inr turn) there other way =
    let le : id ≤ to = subst (λ n. id ≤ n) there.2 (turn.least there.0 there.1) in
    let none : to ≤ last = subst (λ n. n ≤ last) there.2 (turn.none_above there.0 there.1) in
    let below : id < to = elim (cases_order id to) [ inl same ↦ absurd (other same) | inr (inl lt) ↦ lt | inr (inr gt) ↦ absurd (omega (arith, le, gt)) ] in
    elim way [
      | inl w ↦ (let short = w.2 in absurd (omega (arith, none, short)))
      | inr w ↦ (let high = w.0 in (λ e. omega (arith, e, below, high), inr (w.0, inr below)))
    ]
