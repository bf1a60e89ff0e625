-- Looking up a stream among those that are kept.
use Rattle.std.proofs.Common.{◌≡◌, ℕ, Bool, true, false, not, ◌==◌, ◌&&◌, List, [], ◌∷◌, ◌++◌, refl, sym, ap, ◌∙◌, inl, inr, if◌then◌else◌}
use Rattle.std.specs.Prelude.{Option, Some, None, is_some, option_map}
use Rattle.std.proofs.lemmas.Bool.{eq-eqb, ne_eqb, and_right}
use Rattle.std.proofs.Math.Bool.{and-true}
use Rattle.std.proofs.lemmas.Bool.Decides.{eqb_tells}
use Rattle.model.specs.Causes.{Cause}
use Rattle.theory_responses.specs.Outbox.{Outbox}
use Rattle.theory_responses.specs.Outbox.Outbox.{Before, Behind, Over}
use Rattle.theory_responses.specs.State.{Kept, find, change, without, unless_over, answered_box, answered, answered_if, blank}

-- the change leaves the id
abbrev pub KeepsId : (Kept → Kept) → Type 0
KeepsId f = (k : Kept) → (f k).id ≡ k.id

answered_box_id : (cause : Cause) (k : Kept) (box : Outbox) → (answered_box cause k box).id ≡ k.id
answered_box_id cause k (Before interims head body whole) = refl
answered_box_id cause k (Behind body whole) = refl
answered_box_id cause k Over = refl

pub answered_id : (cause : Cause) → KeepsId (answered cause)
answered_id cause k = answered_box_id cause k k.box

pub answered_if_id : (caused : Option Cause) → KeepsId (answered_if caused)
answered_if_id None k = refl
answered_if_id (Some cause) k = answered_id cause k

pub find_changed : (stream : ℕ) (f : Kept → Kept) (ks : List Kept) → KeepsId f → find stream (change stream f ks) ≡ option_map f (find stream ks)
find_changed stream f [] keeps = refl
find_changed stream f (k ∷ ks) keeps = by (k.id == stream) refl (find_changed stream f ks keeps)
  where
    by : (b : Bool) → (k.id == stream) ≡ b → find stream (change stream f ks) ≡ option_map f (find stream ks) → find stream (if b then f k ∷ ks else k ∷ change stream f ks) ≡ option_map f (if b then Some k else find stream ks)
    by true e more = ap (λ b. if b then Some (f k) else find stream ks) (ap (λ n. n == stream) (keeps k) ∙ e)
    by false e more = ap (λ b. if b then Some k else find stream (change stream f ks)) e ∙ more

pub find_other : (stream other : ℕ) (f : Kept → Kept) (ks : List Kept) → KeepsId f → (stream ≡ other → ⊥) → find other (change stream f ks) ≡ find other ks
find_other stream other f [] keeps apart = refl
find_other stream other f (k ∷ ks) keeps apart = elim (eqb_tells k.id stream) [
  | inl x ↦ (
      let no : (k.id == other) ≡ false = ne_eqb k.id other (λ e. apart (sym x.1 ∙ e)) in
      ap (λ b. find other (if b then f k ∷ ks else k ∷ change stream f ks)) x.0
      ∙ ap (λ b. if b then Some (f k) else find other ks) (ap (λ n. n == other) (keeps k) ∙ no)
      ∙ sym (ap (λ b. if b then Some k else find other ks) no)
      )
  | inr x ↦ ap (λ b. find other (if b then f k ∷ ks else k ∷ change stream f ks)) x.0 ∙ ap (λ r. if k.id == other then Some k else r) (find_other stream other f ks keeps apart)
]

-- a new stream behind the others
pub find_new : (stream : ℕ) (ks : List Kept) → find stream ks ≡ None → find stream (ks ++ blank stream ∷ []) ≡ Some (blank stream)
find_new stream [] none = ap (λ b. if b then Some (blank stream) else None) (eq-eqb stream stream refl)
find_new stream (k ∷ ks) none = by (k.id == stream) none (find_new stream ks)
  where
    by : (b : Bool) → (if b then Some k else find stream ks) ≡ None → (find stream ks ≡ None → find stream (ks ++ blank stream ∷ []) ≡ Some (blank stream)) → (if b then Some k else find stream (ks ++ blank stream ∷ [])) ≡ Some (blank stream)
    by true e more = cc
    by false e more = more e

pub find_old : (stream other : ℕ) (ks : List Kept) → (stream ≡ other → ⊥) → find other (ks ++ blank stream ∷ []) ≡ find other ks
find_old stream other [] apart = ap (λ b. if b then Some (blank stream) else None) (ne_eqb stream other apart)
find_old stream other (k ∷ ks) apart = ap (λ r. if k.id == other then Some k else r) (find_old stream other ks apart)

-- ---- a stream goes

pub find_gone : (stream : ℕ) (ks : List Kept) → find stream (without stream ks) ≡ None
find_gone stream [] = refl
find_gone stream (k ∷ ks) = by (k.id == stream) refl (find_gone stream ks)
  where
    by : (b : Bool) → (k.id == stream) ≡ b → find stream (without stream ks) ≡ None → find stream (if b then without stream ks else k ∷ without stream ks) ≡ None
    by true e more = more
    by false e more = ap (λ b. if b then Some k else find stream (without stream ks)) e ∙ more

pub find_without : (stream other : ℕ) (ks : List Kept) → (stream ≡ other → ⊥) → find other (without stream ks) ≡ find other ks
find_without stream other [] apart = refl
find_without stream other (k ∷ ks) apart = elim (eqb_tells k.id stream) [
  | inl x ↦ ap (λ b. find other (if b then without stream ks else k ∷ without stream ks)) x.0 ∙ find_without stream other ks apart ∙ sym (ap (λ b. if b then Some k else find other ks) (ne_eqb k.id other (λ e. apart (sym x.1 ∙ e))))
  | inr x ↦ ap (λ b. find other (if b then without stream ks else k ∷ without stream ks)) x.0 ∙ ap (λ r. if k.id == other then Some k else r) (find_without stream other ks apart)
]

pub find_beside : (over : Bool) (stream other : ℕ) (ks : List Kept) → (stream ≡ other → ⊥) → find other (unless_over over stream ks) ≡ find other ks
find_beside true stream other ks apart = find_without stream other ks apart
find_beside false stream other ks apart = refl

-- ---- whether a stream is kept

pub some_mapped : (f : Kept → Kept) (o : Option Kept) → is_some (option_map f o) ≡ is_some o
some_mapped f None = refl
some_mapped f (Some k) = refl

-- a stream that is over isn't kept
pub some_unless : (over : Bool) (stream : ℕ) (ks : List Kept) → is_some (find stream (unless_over over stream ks)) ≡ (is_some (find stream ks) && not over)
some_unless true stream ks = ap (λ o. is_some o) (find_gone stream ks) ∙ sym (and_right (is_some (find stream ks)) false refl)
some_unless false stream ks = sym (and-true (is_some (find stream ks)))
