-- No DATA came on a stream before its request's head.
use Rattle.std.proofs.Common.{◌≡◌, ℕ, Bool, true, false, ◌==◌, ◌&&◌, ◌||◌, List, [], ◌∷◌, ◌++◌, length, refl, sym, ap, ◌∙◌, inl, inr, arith, if◌then◌else◌}
use Rattle.std.specs.Prelude.{Option, None}
use Rattle.std.specs.List.{list_any}
use Rattle.std.proofs.lemmas.Bool.{cases_Bool, and_right, or_parts}
use Rattle.std.proofs.lemmas.Bool.Decides.{eqb_tells}
use Rattle.std.proofs.lemmas.List.Folds.{list_any-append}
use Rattle.model.specs.Messages.{Field, Item, ends_with}
use Rattle.model.specs.Messages.Item.{Block, Content}
use Rattle.model.specs.Frames.{data_kind, content, ends_stream}
use Rattle.model.specs.Tapes.{Noted, Entry, came}
use Rattle.model.specs.Tapes.Entry.{Came, Breached, Happened, Sent, Did}
use Rattle.model.specs.Decoding.{Partial, completed}
use Rattle.model.specs.Streams.{frame_items, items_of}
use Rattle.model.specs.Setup.{own_window}
use Rattle.model.specs.Known.{Known}
use Rattle.model.specs.ErrorTable.{fault_with}
use Rattle.model.specs.Courses.{course, carried, items, cause_of, interrupts}
use Rattle.model.specs.WindowsOnTape.{is_on, data_length, data_octets}
use Rattle.model.proofs.ItemLaws.{none_over}

-- octets of a body, though they be none
abbrev is_content : Item → Bool
is_content (Block fields ends) = false
is_content (Content octets ends) = true

-- a frame that brings a stream no such item is no DATA on it
no_octets : (before : List Noted) (noted : Noted) (id : ℕ) → list_any is_content (if noted.frame.id == id then frame_items (completed before noted.frame) noted else []) ≡ false → data_length (is_on id) noted.frame ≡ 0
no_octets before noted id quiet = elim (eqb_tells noted.frame.kind data_kind) [
  | inl is ↦ elim (eqb_tells noted.frame.id id) [
    | inl on ↦ (let none : completed before noted.frame ≡ None = ap (λ (k : ℕ). completed before (record noted.frame { kind = k })) is.1 in
        let brings : (if noted.frame.id == id then frame_items (completed before noted.frame) noted else []) ≡ Content (content noted.frame) (ends_stream noted.frame) ∷ [] =
        ap (λ b. if b then frame_items (completed before noted.frame) noted else []) on.0 ∙ ap (λ (b : Option Partial). frame_items b noted) none ∙ ap (λ b. if b then Content (content noted.frame) (ends_stream noted.frame) ∷ [] else []) is.0 in
        absurd (let clash : true ≡ false = sym (ap (list_any is_content) brings) ∙ quiet in cc))
    | inr off ↦ ap (λ b. if noted.frame.kind == data_kind && b then length noted.frame.payload else 0) off.0 ∙ ap (λ b. if b then length noted.frame.payload else 0) (and_right (noted.frame.kind == data_kind) false refl)
  ]
  | inr off ↦ ap (λ b. if b && noted.frame.id == id then length noted.frame.payload else 0) off.0
]

-- what was so of the items, where they aren't over, was so before
quiet_before : (over interrupted : Bool) (old new : List Item) → (over || interrupted || list_any ends_with new) ≡ false → list_any is_content (if over || interrupted then old else old ++ new) ≡ false → (over ≡ false) × (list_any is_content old ≡ false) × (list_any is_content new ≡ false)
quiet_before true interrupted old new going quiet = absurd (let clash : true ≡ false = going in cc)
quiet_before false true old new going quiet = absurd (let clash : true ≡ false = going in cc)
quiet_before false false old new going quiet =
    let parts = or_parts (list_any is_content old) (list_any is_content new) (sym (list_any-append is_content old new) ∙ quiet) in (refl, parts.0, parts.1)

-- Where items aren't over, and none is octets of a body, no DATA came.
none_came : (known : Known) (id : ℕ) (t : List Entry) → (course known id t).over ≡ false → list_any is_content (items known id t) ≡ false → data_octets (is_on id) (came t) ≡ 0
none_came known id [] going quiet = refl
none_came known id (Came noted ∷ t) going quiet =
    let was = quiet_before (course known id t).over (interrupts id (Came noted) (fault_with (own_window known.setup) (carried (course known id t)) t (Came noted)) (cause_of known id t (Came noted))) (items known id t) (items_of id t (Came noted)) going quiet in
    let more = none_came known id t was.0 was.1 in
    let here = no_octets (came t) noted id was.2 in
    omega (arith, more, here)
none_came known id (Breached breach ∷ t) going quiet =
    let was = quiet_before (course known id t).over (interrupts id (Breached breach) (fault_with (own_window known.setup) (carried (course known id t)) t (Breached breach)) (cause_of known id t (Breached breach))) (items known id t) [] going quiet in none_came known id t was.0 was.1
none_came known id (Happened event ∷ t) going quiet =
    let was = quiet_before (course known id t).over (interrupts id (Happened event) (fault_with (own_window known.setup) (carried (course known id t)) t (Happened event)) (cause_of known id t (Happened event))) (items known id t) [] going quiet in none_came known id t was.0 was.1
none_came known id (Sent noted ∷ t) going quiet =
    let was = quiet_before (course known id t).over (interrupts id (Sent noted) (fault_with (own_window known.setup) (carried (course known id t)) t (Sent noted)) (cause_of known id t (Sent noted))) (items known id t) [] going quiet in none_came known id t was.0 was.1
none_came known id (Did act ∷ t) going quiet =
    let was = quiet_before (course known id t).over (interrupts id (Did act) (fault_with (own_window known.setup) (carried (course known id t)) t (Did act)) (cause_of known id t (Did act))) (items known id t) [] going quiet in none_came known id t was.0 was.1

-- So none came where the head does.
pub none_with_head : (known : Known) (t : List Entry) (noted : Noted) (head : List Field) (ended : Bool) → items known noted.frame.id t ≡ [] → items known noted.frame.id (Came noted ∷ t) ≡ Block head ended ∷ [] → data_octets (is_on noted.frame.id) (came (Came noted ∷ t)) ≡ 0
none_with_head known t noted head ended empty now =
    let before = none_came known id t going (ap (list_any is_content) empty) in
    let here = no_octets (came t) noted id (brought ((course known id t).over || interrupts id (Came noted) (fault_with (own_window known.setup) (carried (course known id t)) t (Came noted)) (cause_of known id t (Came noted))) (items known id t) (items_of id t (Came noted)) empty now) in
    omega (arith, before, here)
  where
    id : ℕ
    id = noted.frame.id

    going : (course known id t).over ≡ false
    going = elim (cases_Bool (course known id t).over) [
      | inl over ↦ absurd (let clash : ◌≡◌ {A = List Item} [] (Block head ended ∷ []) = sym empty ∙ sym (none_over known t noted over) ∙ now in cc)
      | inr not_over ↦ not_over
    ]

    brought : (b : Bool) (old new : List Item) → old ≡ [] → (if b then old else old ++ new) ≡ Block head ended ∷ [] → list_any is_content new ≡ false
    brought true old new none is = absurd (let clash : ◌≡◌ {A = List Item} [] (Block head ended ∷ []) = sym none ∙ is in cc)
    brought false old new none is = ap (list_any is_content) (sym (ap (λ xs. xs ++ new) none) ∙ is)
