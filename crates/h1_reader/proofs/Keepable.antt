-- Whether a response leaves its connection open, by how many octets its reader used and what that knows of the head.
use Rattle.std.proofs.Common.{◌≡◌, ℕ, ◌+◌, ◌<◌, ◌≤◌, Bool, true, false, ◌||◌, List, [], ◌∷◌, ◌++◌, length, take, drop, refl, sym, ap, ◌∙◌, subst, append_assoc, length-append, length-take-le, inl, inr, arith}
use Rattle.std.specs.Prelude.{◌&&◌, ◌==◌}
use Rattle.std.proofs.lemmas.Bool.{cases_lt, eqb-true, eq-eqb}
use Rattle.std.proofs.lemmas.List.{take_all, take-append-drop}
use Rattle.std.proofs.lemmas.List.Folds.{list_any-append}
use Rattle.model.specs.Octets.{IsStrictFront}
use Rattle.model.specs.Idle.{LeavesOpen}
use Rattle.h1_reader.specs.Parts.{Part}
use Rattle.h1_reader.specs.Standing.{State, Stands, Hears, is_end, is_done}
use Rattle.h1_reader.specs.Uses.{NoneShorter, Uses}
use Rattle.h1_reader.specs.Keeps.{Knows, Learns}
use Rattle.h1_reader.proofs.Telling.{not_done}
use Rattle.h1_reader.proofs.KeepSteps.{kept_open, kept_closed}

both_true : (a b : Bool) → (a && b) ≡ true → (a ≡ true) × (b ≡ true)
both_true true b e = (refl, e)
both_true false b e = absurd (let clash : ◌≡◌ {A = Bool} false true = e in cc)

-- All octets are used, and the head lets the connection stay open: it may be kept.
pub kept : (text octets : List ℕ) (parts added : List Part) (used : ℕ) (old new : State) → Stands text parts old → Knows text old → is_done parts ≡ false → Hears old octets added new → Learns old octets new → Uses old octets used
    → is_done added ≡ true → (used == length octets && new.held.keeps) ≡ true → LeavesOpen (text ++ octets) old.to_head
kept text octets parts added used old new s k on h l u done told =
    let all = both_true (used == length octets) new.held.keeps told in
    let count : used ≡ length octets = eqb-true used (length octets) all.0 in
    let taken : take used octets ≡ octets = ap (λ n. take n octets) count ∙ take_all (length octets) octets (omega arith) in
    let none : NoneShorter (text ++ octets) old.to_head = subst (λ (o : List ℕ). NoneShorter (text ++ o) old.to_head) taken (u.no_shorter text parts s (not_done text parts old s on)) in
    let whole : is_done (parts ++ added) ≡ true = list_any-append is_end parts added ∙ ap (λ b. b || is_done added) on ∙ done in
    subst (λ t. LeavesOpen (text ++ octets) t) h.same
    (kept_open (text ++ octets) (parts ++ added) new (h.stands text parts s) (l text parts s k) whole (subst (λ t. NoneShorter (text ++ octets) t) (sym h.same) none) all.1)

split : (text front back : List ℕ) → 0 < length back → IsStrictFront (text ++ front) (text ++ (front ++ back))
split text front [] some = absurd (omega arith)
split text front (o ∷ back) some = record { next = o; rest = back; is = sym (append_assoc text front (o ∷ back)) }

-- octets are left
strict : (text octets : List ℕ) (used : ℕ) → used < length octets → IsStrictFront (text ++ take used octets) (text ++ octets)
strict text octets used less =
    let cut : take used octets ++ drop used octets ≡ octets = take-append-drop used octets in
    let sum : length (take used octets ++ drop used octets) ≡ length (take used octets) + length (drop used octets) = length-append (take used octets) (drop used octets) in
    let all : length (take used octets ++ drop used octets) ≡ length octets = ap length cut in
    let taken : length (take used octets) ≡ used = length-take-le used octets (omega arith) in
    subst (λ (o : List ℕ). IsStrictFront (text ++ take used octets) (text ++ o)) cut (split text (take used octets) (drop used octets) (omega arith))

-- Octets are left, or the head doesn't let it stay open: it may not be kept.
pub not_kept : (text octets : List ℕ) (parts added : List Part) (used : ℕ) (old new : State) → Stands text parts old → Knows text old → Hears old octets added new → Learns old octets new → Uses old octets used
    → (used == length octets && new.held.keeps) ≡ false → LeavesOpen (text ++ octets) old.to_head → ⊥
not_kept text octets parts added used old new s k h l u told leaves = elim (cases_lt used (length octets)) [
  | inl less ↦ leaves.no_more (text ++ take used octets) (strict text octets used less) (u.whole less text parts s).is_whole
  | inr all ↦
      let within : used ≤ length octets = u.within in
      let count : used ≡ length octets = omega arith in
      let yes : new.held.keeps ≡ true = kept_closed (text ++ octets) new (l text parts s k) (subst (λ t. LeavesOpen (text ++ octets) t) (sym h.same) leaves) in
      let clash : true ≡ false = sym (ap (λ b. b && new.held.keeps) (eq-eqb used (length octets) count) ∙ yes) ∙ told in cc
]
