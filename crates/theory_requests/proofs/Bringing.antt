-- A frame that adds an item to a stream that is served has no fault and is no cause: so the item is as a request's has to be.
use Rattle.std.proofs.Common.{◌≡◌, ℕ, ◌+◌, ◌<◌, Bool, true, false, not, ◌==◌, ◌&&◌, ◌||◌, List, [], ◌∷◌, ◌++◌, length, refl, sym, ap, ◌∙◌, subst, inl, inr, if◌then◌else◌, arith, length-append}
use Rattle.std.specs.Prelude.{Option, Some, None, is_some, nat_lt}
use Rattle.std.proofs.lemmas.List.{append_cancel_left}
use Rattle.std.proofs.lemmas.Bool.{cases_Bool, or_parts, eq-eqb, lt-ltb}
use Rattle.model.specs.Messages.{Field, Item}
use Rattle.model.specs.Messages.Item.{Block, Content}
use Rattle.model.specs.Frames.{data_kind, ends_stream, content}
use Rattle.model.specs.Malformed.{Carried, carried_by, is_malformed_block, is_malformed_content}
use Rattle.model.specs.Setup.{Setup, own_window}
use Rattle.model.specs.Tapes.{Note, Noted, Entry, came}
use Rattle.model.specs.Tapes.Note.{NoBlock, Fields, Undecodable, Unread}
use Rattle.model.specs.Tapes.Entry.{Came}
use Rattle.model.specs.Decoding.{Partial, completed}
use Rattle.model.specs.Errors.{Fault}
use Rattle.model.specs.Errors.Fault.{Connection, Stream, Discarded}
use Rattle.model.specs.Streams.{frame_items, items_of, is_on, is_reset, is_ended_by}
use Rattle.model.specs.Known.{Known}
use Rattle.model.specs.Causes.{Cause, are_large, cause_if, cause_of_head}
use Rattle.model.specs.Causes.Cause.{LargeFields}
use Rattle.model.specs.ErrorTable.{is_bad_block, is_malformed, fault_with}
use Rattle.model.specs.Courses.{course, carried, items, cause, cause_of, cause_of_block, cause_of_frame, cause_at, first_of_both, interrupts}
use Rattle.theory_requests.specs.Meaning.{Brings}
use Rattle.model.proofs.ItemLaws.{is_interrupted}
use Rattle.theory_requests.proofs.Fitting.{not_malformed, no_cause}

-- The item is as it has to be behind what the stream carried: no fault, and no cause.
abbrev pub IsGood : Setup → Carried → Item → Type 0
IsGood setup carried (Content octets ends) = is_malformed_content carried octets ends ≡ false
IsGood setup carried (Block fields ends) = (cause_of_block setup carried (Fields fields) ≡ None) × (is_malformed_block carried fields ends ≡ false)

-- a block that is no cause isn't large
pub not_large : (setup : Setup) (carried : Carried) (fields : List Field) → cause_of_block setup carried (Fields fields) ≡ None → are_large fields ≡ false
not_large setup carried fields none = by carried.begun none
  where
    by_test : (b : Bool) → cause_if b LargeFields ≡ None → b ≡ false
    by_test true e = absurd (cc)
    by_test false e = refl

    by : (begun : Bool) → (if begun then cause_if (are_large fields) LargeFields else cause_of_head setup fields) ≡ None → are_large fields ≡ false
    by true e = by_test (are_large fields) e
    by false e = (no_cause (are_large fields) _ _ e).0

-- the item of a frame that isn't malformed and no cause is good
good_item : (setup : Setup) (carried : Carried) (block : Option Partial) (noted : Noted) (item : Item) → frame_items block noted ≡ item ∷ [] → is_malformed carried block noted ≡ false → cause_of_frame setup carried block noted ≡ None → IsGood setup carried item
good_item setup carried (Some block) noted item is well none = by noted.note is well none
  where
    by : (note : Note) → Rattle.model.specs.Streams.block_items block note ≡ item ∷ [] → is_bad_block carried block.ends note ≡ false → cause_of_block setup carried note ≡ None → IsGood setup carried item
    by (Fields fields) is well none =
        let same : Block fields block.ends ≡ item = cc in
        subst (IsGood setup carried) same (none, sym (ap (λ b. not b && is_malformed_block carried fields block.ends) (not_large setup carried fields none)) ∙ well)
    by NoBlock is well none = absurd (cc)
    by Undecodable is well none = absurd (cc)
    by Unread is well none = absurd (cc)
good_item setup carried None noted item is well none = by (noted.frame.kind == data_kind) is well
  where
    by : (b : Bool) → (if b then Content (content noted.frame) (ends_stream noted.frame) ∷ [] else []) ≡ item ∷ [] → (b && is_malformed_content carried (content noted.frame) (ends_stream noted.frame)) ≡ false → IsGood setup carried item
    by true is well = let same : Content (content noted.frame) (ends_stream noted.frame) ≡ item = cc in subst (IsGood setup carried) same well
    by false is well = absurd (cc)

-- nothing grows by nothing
grows : (xs : List Item) (item : Item) → xs ≡ xs ++ item ∷ [] → ⊥
grows xs item e = let size : length xs ≡ length xs + 1 = ap length e ∙ length-append xs (item ∷ []) in omega (arith, size)

-- what doesn't end the items of its own stream is no fault
no_fault : (found : Option Fault) → is_ended_by true found ≡ false → found ≡ None
no_fault None e = refl
no_fault (Some (Connection code)) e = absurd (cc)
no_fault (Some (Stream code)) e = absurd (cc)
no_fault (Some Discarded) e = absurd (cc)

none_there : (c : Option Cause) → is_some c ≡ false → c ≡ None
none_there None e = refl
none_there (Some c) e = absurd (cc)

none_before : (old new : Option Cause) → first_of_both old new ≡ None → (old ≡ None) × (new ≡ None)
none_before None new e = (refl, e)
none_before (Some c) new e = absurd (cc)

-- ---- a frame that doesn't interrupt its stream's items

module _ (known : Known) (t : List Entry) (noted : Noted) (goes_on : is_interrupted known noted.frame.id t (Came noted) ≡ false) where
  abbrev pub found_there : Option Fault
  found_there = fault_with (own_window known.setup) (carried (course known noted.frame.id t)) t (Came noted)

  none_interrupts : (is_ended_by (is_on noted.frame.id (Came noted)) found_there ≡ false) × (is_some (cause_of known noted.frame.id t (Came noted)) ≡ false)
  none_interrupts =
      let no = or_parts (course known noted.frame.id t).over (interrupts noted.frame.id (Came noted) found_there (cause_of known noted.frame.id t (Came noted))) goes_on in
      let parts = or_parts (is_ended_by (is_on noted.frame.id (Came noted)) found_there || is_reset noted.frame.id (Came noted)) (is_some (cause_of known noted.frame.id t (Came noted))) no.1 in
      ((or_parts (is_ended_by (is_on noted.frame.id (Came noted)) found_there) (is_reset noted.frame.id (Came noted)) parts.0).0, parts.1)

  -- it has no fault
  pub no_fault_there : found_there ≡ None
  no_fault_there = no_fault found_there (sym (ap (λ b. is_ended_by b found_there) (eq-eqb noted.frame.id noted.frame.id refl)) ∙ none_interrupts.0)

  -- nor is it a cause
  pub no_cause_there : 0 < noted.frame.id → cause_of_frame known.setup (carried (course known noted.frame.id t)) (completed (came t) noted.frame) noted ≡ None
  no_cause_there some =
      sym (ap (cause_at known (course known noted.frame.id t) t (Came noted)) no_fault_there)
      ∙ sym (ap (λ b. if b && nat_lt 0 noted.frame.id then cause_at known (course known noted.frame.id t) t (Came noted) found_there else None) (eq-eqb noted.frame.id noted.frame.id refl)
      ∙ ap (λ b. if b then cause_at known (course known noted.frame.id t) t (Came noted) found_there else None) (lt-ltb 0 noted.frame.id some))
      ∙ none_there (cause_of known noted.frame.id t (Came noted)) none_interrupts.1

-- ---- the item of one that adds an item

module _ (known : Known) (t : List Entry) (noted : Noted) (item : Item) (brings : Brings known t noted item) (some : 0 < noted.frame.id) (calm : cause known noted.frame.id (Came noted ∷ t) ≡ None) where
  abbrev pub e : Entry
  e = Came noted

  abbrev pub id : ℕ
  id = noted.frame.id

  -- nothing interrupts the items
  goes_on : is_interrupted known id t e ≡ false
  goes_on = elim (cases_Bool (is_interrupted known id t e)) [
    | inl over ↦ absurd (grows (items known id t) item (sym (ap (λ b. if b then items known id t else items known id t ++ items_of id t e) over) ∙ brings.adds))
    | inr not_over ↦ not_over
  ]

  -- it is the frame's
  pub item_is : frame_items (completed (came t) noted.frame) noted ≡ item ∷ []
  item_is =
      sym (ap (λ b. if b then frame_items (completed (came t) noted.frame) noted else []) (eq-eqb id id refl))
      ∙ append_cancel_left (items known id t) (items_of id t e) (item ∷ []) (sym (ap (λ b. if b then items known id t else items known id t ++ items_of id t e) goes_on) ∙ brings.adds)

  none_found : fault_with (own_window known.setup) (carried (course known id t)) t e ≡ None
  none_found = no_fault_there known t noted goes_on

  none_before_it : cause known id t ≡ None
  none_before_it = (none_before (cause known id t) (cause_of known id t e) calm).0

  waits_not : (carried (course known id t)).waits ≡ false
  waits_not = ap is_some none_before_it

  -- what the stream carried waits for no reply
  carried_is : carried (course known id t) ≡ carried_by (items known id t) false
  carried_is = ap (carried_by (items known id t)) waits_not

  no_frame_cause : cause_of_frame known.setup (carried (course known id t)) (completed (came t) noted.frame) noted ≡ None
  no_frame_cause = no_cause_there known t noted goes_on some

  -- the item is good
  pub is_good : IsGood known.setup (carried_by (items known id t) false) item
  is_good =
      subst (λ c. IsGood known.setup c item) carried_is
      (good_item known.setup (carried (course known id t)) (completed (came t) noted.frame) noted item item_is (not_malformed (own_window known.setup) (carried (course known id t)) t noted none_found waits_not) no_frame_cause)
