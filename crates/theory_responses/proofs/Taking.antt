-- A frame of the client keeps the invariant of the outboxes, whatever it does to its stream and to the windows.
use Rattle.std.proofs.Common.{◌≡◌, ℕ, Bool, true, false, not, ◌&&◌, List, ◌∷◌, refl, sym, ap, ◌∙◌, subst, inl, inr}
use Rattle.std.specs.Prelude.{Option, Some, None, is_some, option_map}
use Rattle.std.specs.List.{list_any}
use Rattle.std.proofs.lemmas.Bool.{not-true, and_parts}
use Rattle.std.proofs.lemmas.Bool.Decides.{eqb_tells}
use Rattle.model.specs.Deliveries.{heads_in}
use Rattle.model.specs.Tapes.{Noted, Entry}
use Rattle.model.specs.Tapes.Entry.{Came}
use Rattle.model.specs.Known.{Known}
use Rattle.model.specs.Causes.{Cause}
use Rattle.model.specs.Lifetimes.{is_active}
use Rattle.model.specs.Courses.{is_final}
use Rattle.theory_responses.specs.State.{Kept, State, Change, find, change, answered_if, blank, with_new, after}
use Rattle.theory_responses.specs.State.Move.{Takes}
use Rattle.theory_responses.specs.Policy.{Neighbours, IsNew, IsCaused, IsOpened, MayTake}
use Rattle.theory_responses.proofs.Standing.{stands_same, stands_new, stands_new_replied, delivered_same}
use Rattle.theory_responses.proofs.Entries.{cause_stays, out_stays, heads_stay, came_quiet, none_by_other}
use Rattle.theory_responses.proofs.Keeping.{answered_if_id, find_changed, find_other, find_new, find_old, some_mapped}
use Rattle.model.proofs.ActiveLaws.{active_came}
use Rattle.theory_responses.proofs.Offering.{IsHeld, IsKeptIf, Offering, kept_unless, lives_unless, held_answered, out_now, heads_now}

module _ (known : Known) (t : List Entry) (s : State) (noted : Noted) (effect : Change) (n : Neighbours known t) (h : Offering known t s) (may : MayTake known t s noted effect) where
  abbrev u : List Entry
  u = Came noted ∷ t

  abbrev id : ℕ
  id = noted.frame.id

  -- another stream's record
  held_other : (stream : ℕ) (o : Option Kept) → (id ≡ stream → ⊥) → IsKeptIf known t stream o → IsKeptIf known u stream o
  held_other stream None other k = absurd k
  held_other stream (Some k) other kept =
      let none = none_by_other known stream t noted other in
      record { named = kept.named; stands = λ c. stands_same known t u stream (came_quiet known t noted stream (cause_stays known stream t (Came noted) none) (out_stays known stream t (Came noted) none) (heads_stay known stream t (Came noted) none) n.begun) k.box refl (kept.stands c); uncut = λ free. kept.uncut (cause_stays known stream t (Came noted) none ∙ free) }

  -- a new stream's record
  held_new : (caused : Option Cause) → IsNew known t s noted.frame.id → IsCaused known t noted caused → IsHeld known u id (answered_if caused (blank id))
  held_new None new leaves = record { named = refl; stands = λ c. stands_new known u id new.unsent (sym leaves.cause ∙ new.no_cause) (λ o g. new.not_given o (record { is_opened = g.is_opened; is_given = g.is_given })); uncut = λ free. refl }
  held_new (Some found) new gives = record {
    named = refl;
    stands = λ c. stands_new_replied known u id found new.unsent gives.now (out_now known id t (Came noted) found gives.no_cause gives.now ∙ ap (list_any is_final) new.unsent)
        (heads_now known id t (Came noted) found gives.no_cause gives.now ∙ ap heads_in new.unsent);
    uncut = λ free. refl;
  }

  -- that of a stream that was active
  held_old : (caused : Option Cause) (o : Option Kept) → IsCaused known t noted caused → IsKeptIf known t id o → IsKeptIf known u id (option_map (answered_if caused) o)
  held_old caused None is k = absurd k
  held_old None (Some k) leaves kept = record { named = kept.named; stands = λ c. stands_same known t u id (came_quiet known t noted id leaves.cause leaves.out leaves.heads n.begun) k.box refl (kept.stands c); uncut = λ free. kept.uncut (leaves.cause ∙ free) }
  held_old (Some found) (Some k) gives kept = held_answered known t u id found k k.box refl gives.now (out_now known id t (Came noted) found gives.no_cause gives.now) (heads_now known id t (Came noted) found gives.no_cause gives.now) kept.named kept.stands

  -- the record of the frame's stream
  held_here : (opens : Bool) → IsOpened known t s noted opens effect.over → is_active id u ≡ true → IsKeptIf known u id (option_map (answered_if effect.caused) (find id (with_new opens id s.kept)))
  held_here true new a = subst (λ o. IsKeptIf known u id (option_map (answered_if effect.caused) o)) (sym (find_new id s.kept new.0.not_kept)) (held_new effect.caused new.0 (may.caused a))
  held_here false old a = held_old effect.caused (find id s.kept) (may.caused a) (h.kept id (and_parts (is_active id t) (not effect.over) (sym old ∙ a)).0)

  -- the records of other streams stay behind a new one
  with_other : (opens : Bool) (stream : ℕ) → (id ≡ stream → ⊥) → find stream (with_new opens id s.kept) ≡ find stream s.kept
  with_other true stream other = find_old id stream s.kept other
  with_other false stream other = refl

  abbrev f : Kept → Kept
  f = answered_if effect.caused

  abbrev with_it : List Kept
  with_it = with_new effect.opens id s.kept

  abbrev ks : List Kept
  ks = change id f with_it

  kept_here : is_active id u ≡ true → IsKeptIf known u id (find id ks)
  kept_here a = subst (IsKeptIf known u id) (sym (find_changed id f with_it (answered_if_id effect.caused))) (held_here effect.opens may.opened a)

  -- another's is found as before
  found_there : (stream : ℕ) → (id ≡ stream → ⊥) → find stream ks ≡ find stream s.kept
  found_there stream other = find_other id stream f with_it (answered_if_id effect.caused) other ∙ with_other effect.opens stream other

  kept_there : (stream : ℕ) → (id ≡ stream → ⊥) → is_active stream u ≡ true → IsKeptIf known u stream (find stream ks)
  kept_there stream other a = subst (IsKeptIf known u stream) (sym (found_there stream other)) (held_other stream (find stream s.kept) other (h.kept stream (sym (active_came t noted stream other) ∙ a)))

  -- who is kept before those that are over go
  some_here : is_some (find id ks) ≡ is_some (find id with_it)
  some_here = ap (λ o. is_some o) (find_changed id f with_it (answered_if_id effect.caused)) ∙ some_mapped f (find id with_it)

  some_there : (stream : ℕ) → (id ≡ stream → ⊥) → is_some (find stream ks) ≡ is_active stream u
  some_there stream other = ap (λ o. is_some o) (found_there stream other) ∙ h.lives stream ∙ sym (active_came t noted stream other)

  lives_here : (opens : Bool) → IsOpened known t s noted opens effect.over → (is_some (find id (with_new opens id s.kept)) && not effect.over) ≡ is_active id u
  lives_here true new = ap (λ o. is_some o && not effect.over) (find_new id s.kept new.0.not_kept) ∙ ap (λ b. not b) new.1 ∙ sym new.2
  lives_here false old = ap (λ b. b && not effect.over) (h.lives id) ∙ sym old

  stays_on : (opens : Bool) → IsOpened known t s noted opens effect.over → is_active id u ≡ true → effect.over ≡ false
  stays_on true new a = new.1
  stays_on false old a = not-true effect.over (and_parts (is_active id t) (not effect.over) (sym old ∙ a)).1

  pub takes_keep : Offering known u (after s (Takes noted effect))
  takes_keep = record {
    lives = lives_unless known u id ks effect.over (ap (λ b. b && not effect.over) some_here ∙ lives_here effect.opens may.opened) some_there;
    kept = kept_unless known u id ks effect.over (stays_on effect.opens may.opened) (λ stream a. elim (eqb_tells id stream) [
      | inl x ↦ subst (λ y. IsKeptIf known u y (find y ks)) x.1 (kept_here (subst (λ y. is_active y u ≡ true) (sym x.1) a))
      | inr x ↦ kept_there stream x.1 a
    ]);
    keeps = h.keeps;
    delivered = λ stream. delivered_same known (Came noted) t stream refl (h.delivered stream);
  }
