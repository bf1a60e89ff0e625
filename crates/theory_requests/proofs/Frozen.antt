-- Items that came to their end stay as they are.
use Rattle.std.proofs.Common.{◌≡◌, ℕ, Bool, true, false, ◌||◌, List, [], ◌∷◌, ◌++◌, refl, sym, ap, ◌∙◌, if◌then◌else◌}
use Rattle.std.specs.List.{list_any}
use Rattle.std.proofs.lemmas.List.Folds.{list_any-append}
use Rattle.model.specs.Messages.{ends_with}
use Rattle.model.specs.Tapes.{Entry}
use Rattle.model.specs.Streams.{items_of}
use Rattle.model.specs.Setup.{own_window}
use Rattle.model.specs.Known.{Known}
use Rattle.model.specs.ErrorTable.{fault_with}
use Rattle.model.specs.Courses.{course, carried, items, cause_of, interrupts}

-- with items that came to their end a course is over
course_over : (known : Known) (stream : ℕ) (t : List Entry) → list_any ends_with (items known stream t) ≡ true → (course known stream t).over ≡ true
course_over known stream [] ends = absurd (cc)
course_over known stream (e ∷ t) ends =
    by (course known stream t).over (interrupts stream e (fault_with (own_window known.setup) (carried (course known stream t)) t e) (cause_of known stream t e)) (course_over known stream t) ends
  where
    added : (x y : Bool) → (x || y) ≡ true → (x ≡ true → false ≡ true) → y ≡ true
    added true y e none = absurd (let clash : false ≡ true = none refl in cc)
    added false y e none = e

    by : (a b : Bool) → (list_any ends_with (items known stream t) ≡ true → a ≡ true) → list_any ends_with (if a || b then items known stream t else items known stream t ++ items_of stream t e) ≡ true → (a || b || list_any ends_with (items_of stream t e)) ≡ true
    by true b was ends = refl
    by false true was ends = refl
    by false false was ends = added (list_any ends_with (items known stream t)) (list_any ends_with (items_of stream t e)) (sym (list_any-append ends_with (items known stream t) (items_of stream t e)) ∙ ends) was

-- so whatever comes adds none
pub items_frozen : (known : Known) (stream : ℕ) (t : List Entry) (e : Entry) → list_any ends_with (items known stream t) ≡ true → items known stream (e ∷ t) ≡ items known stream t
items_frozen known stream t e ends =
    ap (λ b. if b || interrupts stream e (fault_with (own_window known.setup) (carried (course known stream t)) t e) (cause_of known stream t e) then items known stream t else items known stream t ++ items_of stream t e) (course_over known stream t ends)
