-- What is held of requests and what is on offer, behind an entry about one stream.
use Rattle.std.proofs.Common.{◌≡◌, ℕ, Bool, true, false, ◌==◌, if◌then◌else◌, List, [], ◌∷◌, map, refl, sym, ◌∙◌, ap, inl, inr}
use Rattle.std.proofs.lemmas.Bool.{eq-eqb}
use Rattle.std.proofs.lemmas.Bool.Decides.{eqb_tells}
use Rattle.theory_responses.specs.State.{Kept, change, without as without_box}
use Rattle.theory_requests.specs.Told.{Told}
use Rattle.theory_requests.specs.Lines.{without}
use Rattle.theory_requests.specs.State.{Held, id_of, kept, drop_from}

-- ---- requests

-- These requests are all served.
abbrev pub AreServed : Told → List Held → Type 0
AreServed told [] = Unit {0}
AreServed told (h ∷ hs) = (told.served h.id ≡ true) × AreServed told hs

-- so by another that tells the same of them
pub served_by : (a b : Told) → ((id : ℕ) → b.served id ≡ a.served id) → (hs : List Held) → AreServed a hs → AreServed b hs
served_by a b same [] are = tt
served_by a b same (h ∷ hs) are = (same h.id ∙ are.0, served_by a b same hs are.1)

-- and where what goes out on a connection is dropped
pub served_dropped : (told : Told) (k : ℕ) (hs : List Held) → AreServed told hs → AreServed told (map (drop_from k) hs)
served_dropped told k [] are = tt
served_dropped told k (h ∷ hs) are = (are.0, served_dropped told k hs are.1)

-- they all stay
pub kept_served : (told : Told) (hs : List Held) → AreServed told hs → kept told hs ≡ hs
kept_served told [] are = refl
kept_served told (h ∷ hs) are = ap (λ b. if b then h ∷ kept told hs else kept told hs) are.0 ∙ ap (λ (xs : List Held). h ∷ xs) (kept_served told hs are.1)

flipped : (a b : ℕ) → (a == b) ≡ false → (b == a) ≡ false
flipped a b apart = elim (eqb_tells b a) [ inl is ↦ absurd (let no : true ≡ false = sym (eq-eqb a b (sym is.1)) ∙ apart in cc) | inr other ↦ other.0 ]

module _ (before behind : Told) (id : ℕ) (same : (other : ℕ) → (id == other) ≡ false → behind.served other ≡ before.served other) where
  all_served : behind.served id ≡ true → (hs : List Held) → AreServed before hs → kept behind hs ≡ hs
  all_served on [] are = refl
  all_served on (h ∷ hs) are = ap (λ b. if b then h ∷ kept behind hs else kept behind hs) here ∙ ap (λ (xs : List Held). h ∷ xs) (all_served on hs are.1)
    where
      here : behind.served h.id ≡ true
      here = elim (eqb_tells id h.id) [ inl is ↦ ap (λ n. behind.served n) (sym is.1) ∙ on | inr apart ↦ same h.id apart.0 ∙ are.0 ]

  but_one : behind.served id ≡ false → (hs : List Held) → AreServed before hs → kept behind hs ≡ without id_of id hs
  but_one off [] are = refl
  but_one off (h ∷ hs) are = elim (eqb_tells h.id id) [
    | inl is ↦ ap (λ b. if b then h ∷ kept behind hs else kept behind hs) (ap (λ n. behind.served n) is.1 ∙ off) ∙ but_one off hs are.1 ∙ sym (ap (λ b. if b then without id_of id hs else h ∷ without id_of id hs) is.0)
    | inr apart ↦ ap (λ b. if b then h ∷ kept behind hs else kept behind hs) (same h.id (flipped h.id id apart.0) ∙ are.0) ∙ ap (λ (xs : List Held). h ∷ xs) (but_one off hs are.1) ∙ sym (ap (λ b. if b then without id_of id hs else h ∷ without id_of id hs) apart.0)
  ]

-- What is held of streams that are served, where the other ones are behind the entry as before: it stays, but that of the one stream.
pub held_behind : (before behind : Told) (id : ℕ) → ((other : ℕ) → (id == other) ≡ false → behind.served other ≡ before.served other) → (hs : List Held) → AreServed before hs → kept behind hs ≡ (if behind.served id then hs else without id_of id hs)
held_behind before behind id same hs served = by (behind.served id) refl
  where
    by : (b : Bool) → behind.served id ≡ b → kept behind hs ≡ (if behind.served id then hs else without id_of id hs)
    by true is = all_served before behind id same is hs served ∙ sym (ap (λ b. if b then hs else without id_of id hs) is)
    by false is = but_one before behind id same is hs served ∙ sym (ap (λ b. if b then hs else without id_of id hs) is)

-- ---- outboxes

-- a change that changes nothing
pub change_none : (id : ℕ) (ks : List Kept) → change id (λ k. k) ks ≡ ks
change_none id [] = refl
change_none id (k ∷ ks) = by (k.id == id) (change_none id ks)
  where
    by : (b : Bool) → change id (λ k. k) ks ≡ ks → (if b then k ∷ ks else k ∷ change id (λ k. k) ks) ≡ k ∷ ks
    by true rest = refl
    by false rest = ap (λ (xs : List Kept). k ∷ xs) rest

-- nothing stays of a stream that goes, whatever was changed of it
pub changed_goes : (id : ℕ) (f : Kept → Kept) → ((k : Kept) → (f k).id ≡ k.id) → (ks : List Kept) → without_box id (change id f ks) ≡ without_box id ks
changed_goes id f ids [] = refl
changed_goes id f ids (k ∷ ks) = by (k.id == id) refl (changed_goes id f ids ks)
  where
    by : (b : Bool) → (k.id == id) ≡ b → without_box id (change id f ks) ≡ without_box id ks → without_box id (if b then f k ∷ ks else k ∷ change id f ks) ≡ (if b then without_box id ks else k ∷ without_box id ks)
    by true e rest = ap (λ n. if n == id then without_box id ks else f k ∷ without_box id ks) (ids k) ∙ ap (λ b. if b then without_box id ks else f k ∷ without_box id ks) e
    by false e rest = ap (λ b. if b then without_box id (change id f ks) else k ∷ without_box id (change id f ks)) e ∙ ap (λ (xs : List Kept). k ∷ xs) rest
