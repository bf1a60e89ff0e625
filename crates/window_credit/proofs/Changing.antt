-- How what is kept changes where the stream at a place does.
use Rattle.std.proofs.Common.{◌≡◌, ℕ, List, set, get_or, Some, refl, sym, ap, ◌∙◌, subst}
use Rattle.std.specs.Prelude.{Result, Ok, Err, OnOk}
use Rattle.std.proofs.lemmas.List.{get_or_default}
use Rattle.window_credit.specs.Sides.{Side, opened, find, change}
use Rattle.window_credit.specs.Counts.{AreSome}
use Rattle.window_credit.specs.Places.{at, AreRising, AllAreSome, IsAt}
use Rattle.window_credit.proofs.Rising.{find_at, change_at, rising_changed}
use Rattle.window_credit.proofs.Counted.{some_at}

-- what follows of a success follows where there is one
pub on_ok : {X E : Type 0} (P Q : Type 0) (r : Result X E) → OnOk r P → (P → Q) → OnOk r Q
on_ok P Q (Ok x) is so = so is
on_ok P Q (Err e) is so = tt

module _ (sides : List Side) (id place : ℕ) (rising : AreRising sides) (is : IsAt sides id place) (side : Side) (read : side ≡ get_or sides place side) where
  -- the stream that is read
  stands : at sides place ≡ side
  stands = get_or_default sides place (opened 0 0 0 0) side is.within ∙ sym read

  pub found : find id sides ≡ Some side
  found = find_at id sides place rising is ∙ ap Some stands

  -- behind its marks wait some octets
  pub some_read : AllAreSome sides → AreSome side.queue
  some_read all = subst (λ (s : Side). AreSome s.queue) stands (some_at sides place all)

  -- another in its place is it, changed
  pub changed_to : (f : Side → Side) (new : Side) → new ≡ f side → set sides place new ≡ change id f sides
  changed_to f new changed = ap (set sides place) (changed ∙ ap f (sym stands)) ∙ sym (change_at id f sides place rising is)

  -- with its id in its place, ids rise
  pub rising_to : (new : Side) → new.id ≡ side.id → AreRising (set sides place new)
  rising_to new same =
      let f : Side → Side = λ x. record { id = x.id; k = new.k; out = new.out; took = new.took; queue = new.queue; past = new.past } in
      subst AreRising (sym (changed_to f new (ap (λ n. let it : Side = record { id = n; k = new.k; out = new.out; took = new.took; queue = new.queue; past = new.past } in it) same))) (rising_changed id f sides (λ x. refl) rising)
