-- Where each part has its turn, turns are fair.
use Rattle.std.proofs.Common.{◌≡◌, ℕ, suc, ◌≤◌, Bool, true, false, ◌&&◌, ◌==◌, if◌then◌else◌, List, [], ◌∷◌, ◌++◌, refl, sym, ◌∙◌, ap, subst, append_assoc, arith, inl, inr, ◌⊎◌}
use Rattle.std.proofs.lemmas.Bool.{eq-eqb}
use Rattle.std.proofs.lemmas.Bool.Decides.{eqb_tells}
use Rattle.model.specs.Tapes.{Entry}
use Rattle.model.specs.Tapes.Entry.{Came, Breached, Happened, Sent, Did}
use Rattle.model.specs.Known.{Known}
use Rattle.model.specs.Readiness.{IsReady}
use Rattle.model.specs.Synchrony.{begins_part, turns_on, IsReadyAtEach, AreFair}
use Rattle.theory_responses.proofs.Turning.{IsOnTheWay, way_begins, way_goes_on}
use Rattle.theory_header_tables.specs.Turns.{last_turn, HasTurn, EachInTurn}

-- A stream had no turn, or one, and then the last turn is on the way from it to the one that waits.
abbrev HadOne : ℕ → ℕ → ℕ → ℕ → Type 0
HadOne other waits count last = (count ≡ 0) ⊎ ((count ≡ 1) × IsOnTheWay other waits last)

-- one turn more or none
abbrev counted : Bool → ℕ → ℕ
counted b count = if b then suc count else count

-- none at all is none now and none before
none_now : (b : Bool) (count : ℕ) → counted b count ≡ 0 → (b ≡ false) × (count ≡ 0)
none_now true count e = absurd (omega (arith, e))
none_now false count e = (refl, e)

module _ (known : Known) (waits other : ℕ) (apart : other ≡ waits → ⊥) where
  -- a turn of a stream that isn't the one that waits
  one_turn : (t : List Entry) (id count : ℕ) → HasTurn known t id → IsReady known t waits → (id ≡ waits → ⊥) → HadOne other waits count (last_turn t) → HadOne other waits (counted (id == other) count) id
  one_turn t id count has ready not_waits had =
      let goes_on = λ (way : IsOnTheWay other waits (last_turn t)). way_goes_on other waits (last_turn t) id has.ready has.turn (has.listed waits ready) not_waits way in
      elim (eqb_tells id other) [
        | inl is ↦ subst (λ b. HadOne other waits (counted b count) id) (sym is.0) (elim had [
          | inl none ↦ inr (ap suc none, subst (IsOnTheWay other waits) (sym is.1) (way_begins other waits apart))
          | inr one ↦ absurd ((goes_on one.1).0 is.1)
        ])
        | inr isnt ↦ subst (λ b. HadOne other waits (counted b count) id) (sym isnt.0) (elim had [
          | inl none ↦ inl none
          | inr one ↦ inr (one.0, (goes_on one.1).1)
        ])
      ]

  -- a stretch in which the one that waits is ready at each turn, and has none
  waited : (before stretch : List Entry) → EachInTurn known (stretch ++ before) → IsReadyAtEach known waits before stretch → turns_on waits stretch ≡ 0 → HadOne other waits (turns_on other stretch) (last_turn (stretch ++ before))
  waited before [] each stays none = inl refl
  waited before (Came noted ∷ stretch) each stays none = waited before stretch each stays none
  waited before (Breached breach ∷ stretch) each stays none = waited before stretch each stays none
  waited before (Happened event ∷ stretch) each stays none = waited before stretch each stays none
  waited before (Did act ∷ stretch) each stays none = waited before stretch each stays none
  waited before (Sent noted ∷ stretch) each stays none = by (begins_part noted.frame) refl (waited before stretch each.1 stays.1)
    where
      by : (b : Bool) → begins_part noted.frame ≡ b → (turns_on waits stretch ≡ 0 → HadOne other waits (turns_on other stretch) (last_turn (stretch ++ before)))
          → HadOne other waits (counted (begins_part noted.frame && (noted.frame.id == other)) (turns_on other stretch)) (if begins_part noted.frame then noted.frame.id else last_turn (stretch ++ before))
      by false e had =
          let none_before : turns_on waits stretch ≡ 0 = ap (λ b. counted (b && (noted.frame.id == waits)) (turns_on waits stretch)) (sym e) ∙ none in
          subst (λ b. HadOne other waits (counted (b && (noted.frame.id == other)) (turns_on other stretch)) (if b then noted.frame.id else last_turn (stretch ++ before))) (sym e) (had none_before)
      by true e had =
          let parts = none_now (noted.frame.id == waits) (turns_on waits stretch) (ap (λ b. counted (b && (noted.frame.id == waits)) (turns_on waits stretch)) (sym e) ∙ none) in
          let not_waits : noted.frame.id ≡ waits → ⊥ = λ same. let clash : true ≡ false = sym (eq-eqb noted.frame.id waits same) ∙ parts.0 in cc in
          subst (λ b. HadOne other waits (counted (b && (noted.frame.id == other)) (turns_on other stretch)) (if b then noted.frame.id else last_turn (stretch ++ before))) (sym e)
          (one_turn (stretch ++ before) noted.frame.id (turns_on other stretch) (each.0 e) (stays.0 e) not_waits (had parts.1))

-- what stands behind later entries
each_behind : (known : Known) (later t : List Entry) → EachInTurn known (later ++ t) → EachInTurn known t
each_behind known [] t each = each
each_behind known (Sent noted ∷ later) t each = each_behind known later t each.1
each_behind known (Came noted ∷ later) t each = each_behind known later t each
each_behind known (Breached breach ∷ later) t each = each_behind known later t each
each_behind known (Happened event ∷ later) t each = each_behind known later t each
each_behind known (Did act ∷ later) t each = each_behind known later t each

at_most_one : (other waits count last : ℕ) → HadOne other waits count last → count ≤ 1
at_most_one other waits count last (inl none) = omega (arith, none)
at_most_one other waits count last (inr one) = let is = one.0 in omega (arith, is)

-- Turns are fair.
pub fair : (known : Known) (t : List Entry) → EachInTurn known t → AreFair known t
fair known t each later stretch before is waits other stays none =
    let here : EachInTurn known (stretch ++ before) = each_behind known later (stretch ++ before) (subst (EachInTurn known) (is ∙ append_assoc later stretch before) each) in
    elim (eqb_tells other waits) [
      | inl same ↦ (let e : turns_on other stretch ≡ 0 = ap (λ n. turns_on n stretch) same.1 ∙ none in omega (arith, e))
      | inr apart ↦ at_most_one other waits (turns_on other stretch) (last_turn (stretch ++ before)) (waited known waits other (λ same. let clash : true ≡ false = sym (eq-eqb other waits same) ∙ apart.0 in cc) before stretch here stays none)
    ]
