-- What is heard for a stream, as the rule's moves tell it: news that join what is on offer, or none.
use Rattle.std.proofs.Common.{◌≡◌, ℕ, ◌==◌, if◌then◌else◌, Bool, true, false, List, [], ◌∷◌, refl, sym, ap, ◌∙◌, subst}
use Rattle.std.specs.Prelude.{Some}
use Rattle.model.specs.Deliveries.{Delivery}
use Rattle.theory_responses.specs.Outbox.{grown}
use Rattle.theory_responses.specs.State.{Kept, State, find, change, told}
use Rattle.send_queue.specs.Changes.{with_box, refilled}

some_same : {x y : Kept} → Some x ≡ Some y → x ≡ y
some_same same = cc

-- two changes are the same where they make the same of the stream
change_same : (id : ℕ) (f g : Kept → Kept) (ks : List Kept) (k : Kept) → find id ks ≡ Some k → f k ≡ g k → change id f ks ≡ change id g ks
change_same id f g [] k found same = refl
change_same id f g (x ∷ ks) k found same = by (x.id == id) found (change_same id f g ks k)
  where
    by : (b : Bool) → (if b then Some x else find id ks) ≡ Some k → (find id ks ≡ Some k → f k ≡ g k → change id f ks ≡ change id g ks) → (if b then f x ∷ ks else x ∷ change id f ks) ≡ (if b then g x ∷ ks else x ∷ change id g ks)
    by true e rest = ap (λ (y : Kept). y ∷ ks) (subst (λ (y : Kept). f y ≡ g y) (sym (some_same e)) same)
    by false e rest = ap (λ (ys : List Kept). x ∷ ys) (rest e same)

change_self : (id : ℕ) (ks : List Kept) → change id (λ k. k) ks ≡ ks
change_self id [] = refl
change_self id (x ∷ ks) = by (x.id == id) (change_self id ks)
  where
    by : (b : Bool) → change id (λ k. k) ks ≡ ks → (if b then x ∷ ks else x ∷ change id (λ k. k) ks) ≡ x ∷ ks
    by true rest = refl
    by false rest = ap (λ (ys : List Kept). x ∷ ys) rest

-- an outbox with news is that of a stream which is told them
pub refilled_told : (s : State) (id : ℕ) (k : Kept) (news : Delivery) → find id s.kept ≡ Some k → refilled id (grown k.box news) s ≡ record { kept = change id (told news) s.kept; last = s.last }
refilled_told s id k news found =
    ap (λ (ks : List Kept). let it : State = record { kept = ks; last = s.last } in it) (change_same id (with_box (grown k.box news)) (told news) s.kept k found refl)

-- with the same outbox nothing changes
pub refilled_same : (s : State) (id : ℕ) (k : Kept) → find id s.kept ≡ Some k → refilled id k.box s ≡ s
refilled_same s id k found =
    ap (λ (ks : List Kept). let it : State = record { kept = ks; last = s.last } in it) (change_same id (with_box k.box) (λ x. x) s.kept k found refl ∙ change_self id s.kept)
