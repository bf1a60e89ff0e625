-- What a frame adds to its stream's request: the book tells what the tape says.
use Rattle.std.proofs.Common.{◌≡◌, ℕ, ◌≤◌, Bool, true, false, ◌||◌, ◌==◌, if◌then◌else◌, List, [], ◌∷◌, ◌++◌, append-nil, length, Option, Some, None, refl, sym, ◌∙◌, ap}
use Rattle.std.proofs.lemmas.Bool.{eq-eqb, or_parts}
use Rattle.std.specs.Prelude.{is_some}
use Rattle.model.specs.Messages.{Item}
use Rattle.model.specs.Frames.{data_kind}
use Rattle.model.specs.Malformed.{is_begun}
use Rattle.model.specs.Setup.{Setup}
use Rattle.model.specs.Tapes.{Noted, Entry, came}
use Rattle.model.specs.Tapes.Entry.{Came}
use Rattle.model.specs.Decoding.{Partial, completed}
use Rattle.model.specs.Limits.{most_streams}
use Rattle.model.specs.Errors.{Fault, first_of, or_else}
use Rattle.model.specs.Errors.Fault.{Connection, Stream, Discarded}
use Rattle.model.specs.Streams.{frame_items, is_ended_by}
use Rattle.model.specs.Known.{Known}
use Rattle.model.specs.Courses.{course, items, interrupts}
use Rattle.theory_errors.specs.Summary.{Stream as Kept, Summary, summary_of, stream_of}
use Rattle.theory_errors.specs.Judging.{completed_in, rows_in, malformed_in, fault_for}
use Rattle.theory_errors.specs.Owing.{new_cause_in}
use Rattle.theory_errors.specs.Rows.{WillDo, with_streams, find}
use Rattle.theory_errors.specs.Book.{Book, summary_in}
use Rattle.theory_errors.specs.Told.{IsTold}
use Rattle.theory_errors.proofs.Alike.{fault_for_seen}
use Rattle.theory_errors.proofs.Wanted.{bears}
use Rattle.theory_errors.proofs.Seen.{for_wanted, right_if_wanted}
use Rattle.theory_errors.proofs.RowsKept.{will_do}
use Rattle.theory_requests.specs.Meaning.{Brings}
use Rattle.theory.specs.Rule.{added_to, added_in, Adds, AddsHead}

-- ---- where nothing is added

over_by : (over a b c : Bool) → a ≡ true → (over || ((a || b) || c)) ≡ true
over_by true a b c e = refl
over_by false true b c e = refl
over_by false false b c e = cc

-- any fault ends the items of its own stream
ended_by : (same : Bool) → same ≡ true → (found : Fault) → is_ended_by same (Some found) ≡ true
ended_by true e (Connection code) = refl
ended_by true e (Stream code) = refl
ended_by true e Discarded = refl
ended_by false e found = cc

module _ (setup : Setup) (noted : Noted) where
  abbrev pub id : ℕ
  id = noted.frame.id

  -- what is added, where this is the fault
  abbrev given : Kept → Summary → Option Fault → List Item
  given kept v found =
      if kept.outline.over || interrupts id (Came noted) found (new_cause_in setup false id v (Came noted) kept.outline found)
      then []
      else frame_items (completed_in v.block noted.frame) noted

  pub none_wrong : (kept : Kept) (v : Summary) (fault : Fault) → fault_for kept.outline v (Came noted) ≡ Some fault → added_to setup kept v noted ≡ []
  none_wrong kept v fault is =
      ap (given kept v) is
      ∙ ap (λ b. if b then [] else frame_items (completed_in v.block noted.frame) noted) (over_by kept.outline.over (is_ended_by (id == id) (Some fault)) _ _ (ended_by (id == id) (eq-eqb id id refl) fault))

  no_items : (v : Summary) → bears v noted.frame ≡ false → frame_items (completed_in v.block noted.frame) noted ≡ []
  no_items v idle = cases (completed_in v.block noted.frame) (or_parts (is_some (completed_in v.block noted.frame)) (noted.frame.kind == data_kind) idle)
    where
      cases : (block : Option Partial) → (is_some block ≡ false) × ((noted.frame.kind == data_kind) ≡ false) → frame_items block noted ≡ []
      cases (Some block) is = absurd (let no : true ≡ false = is.0 in cc)
      cases None is = ap (λ b. if b then Item.Content (Rattle.model.specs.Frames.content noted.frame) (Rattle.model.specs.Frames.ends_stream noted.frame) ∷ [] else []) is.1

  either_none : (b : Bool) (xs : List Item) → xs ≡ [] → (if b then [] else xs) ≡ []
  either_none true xs e = refl
  either_none false xs e = e

  pub none_idle : (kept : Kept) (v : Summary) → bears v noted.frame ≡ false → added_to setup kept v noted ≡ []
  none_idle kept v idle = either_none _ (frame_items (completed_in v.block noted.frame) noted) (no_items v idle)

  -- ---- another view of the streams that will do

  module _ (f : ℕ → Kept) (s : Summary) (will : WillDo f s) (few : length s.opened ≤ most_streams) where
    wrong_there : (fault : Fault) → first_of (rows_in s noted) ≡ Some fault → (kept : Kept) → fault_for kept.outline s (Came noted) ≡ Some fault
    wrong_there fault is kept = ap (λ (x : Option Fault). or_else x (malformed_in kept.outline s (Came noted))) is

    right_there : f id ≡ s.stream id → added_to setup (f id) (with_streams f s) noted ≡ added_to setup (s.stream id) s noted
    right_there right =
        ap (λ (k : Kept). added_to setup k (with_streams f s) noted) right
        ∙ ap (λ (found : Option Fault). given (s.stream id) s found) (fault_for_seen f s will (s.stream id).outline (Came noted))

    -- it tells the same, and where an item is added all of the stream
    pub added_seen : added_to setup (f id) (with_streams f s) noted ≡ added_to setup (s.stream id) s noted
    added_seen = cases (first_of (rows_in s noted)) refl (bears s noted.frame) refl
      where
        cases : (first : Option Fault) → first_of (rows_in s noted) ≡ first → (b : Bool) → bears s noted.frame ≡ b → added_to setup (f id) (with_streams f s) noted ≡ added_to setup (s.stream id) s noted
        cases (Some fault) is b e = none_wrong (f id) (with_streams f s) fault (fault_for_seen f s will (f id).outline (Came noted) ∙ wrong_there fault is (f id)) ∙ sym (none_wrong (s.stream id) s fault (wrong_there fault is (s.stream id)))
        cases None is true bearing = right_there (right_if_wanted setup false f s will few id (for_wanted s noted few is bearing))
        cases None is false idle = none_idle (f id) (with_streams f s) idle ∙ sym (none_idle (s.stream id) s idle)

    pub right_if_added : (item : Item) → added_to setup (s.stream id) s noted ≡ item ∷ [] → f id ≡ s.stream id
    right_if_added item adds = cases (first_of (rows_in s noted)) refl (bears s noted.frame) refl
      where
        cases : (first : Option Fault) → first_of (rows_in s noted) ≡ first → (b : Bool) → bears s noted.frame ≡ b → f id ≡ s.stream id
        cases (Some fault) is b e = absurd (let no : [] ≡ item ∷ [] = sym (none_wrong (s.stream id) s fault (wrong_there fault is (s.stream id))) ∙ adds in cc)
        cases None is true bearing = right_if_wanted setup false f s will few id (for_wanted s noted few is bearing)
        cases None is false idle = absurd (let no : [] ≡ item ∷ [] = sym (none_idle (s.stream id) s idle) ∙ adds in cc)

-- ---- the tape

both : (b : Bool) (old new : List Item) → (if b then old else old ++ new) ≡ old ++ (if b then [] else new)
both true old new = sym (append-nil old)
both false old new = refl

module _ (known : Known) (t : List Entry) (noted : Noted) where
  abbrev over : Bool
  over =
      let found = fault_for (stream_of known t noted.frame.id).outline (summary_of known t) (Came noted) in
      (course known noted.frame.id t).over || interrupts noted.frame.id (Came noted) found (new_cause_in known.setup false noted.frame.id (summary_of known t) (Came noted) (stream_of known t noted.frame.id).outline found)

  -- The items of a frame's stream behind it are those before it, and what it adds by the summary.
  pub items_with : items known noted.frame.id (Came noted ∷ t) ≡ items known noted.frame.id t ++ added_in known.setup (summary_of known t) noted
  items_with =
      ap (λ b. if over then items known noted.frame.id t else items known noted.frame.id t ++ (if b then frame_items (completed (came t) noted.frame) noted else [])) (eq-eqb noted.frame.id noted.frame.id refl)
      ∙ both over (items known noted.frame.id t) (frame_items (completed (came t) noted.frame) noted)

  no_items_begun : (xs : List Item) → is_begun xs ≡ false → xs ≡ []
  no_items_begun [] e = refl
  no_items_begun (x ∷ xs) e = cc

  module _ (s : Summary) (same : added_in known.setup s noted ≡ added_in known.setup (summary_of known t) noted) (right : (item : Item) → added_in known.setup (summary_of known t) noted ≡ item ∷ [] → s.stream noted.frame.id ≡ stream_of known t noted.frame.id) where
    -- what is told of a frame's gain is so
    pub none_added : added_in known.setup s noted ≡ [] → items known noted.frame.id (Came noted ∷ t) ≡ items known noted.frame.id t
    none_added none = items_with ∙ ap (λ (xs : List Item). items known noted.frame.id t ++ xs) (sym same ∙ none) ∙ append-nil (items known noted.frame.id t)

    pub one_added : (item : Item) → Adds known.setup s noted item → Brings known t noted item
    one_added item a = record {
      adds = items_with ∙ ap (λ (xs : List Item). items known noted.frame.id t ++ xs) (sym same ∙ a.adds);
      goes_on = sym (ap (λ (k : Kept). k.ended_by_client) (right item (sym same ∙ a.adds))) ∙ a.goes_on;
    }

    pub first_added : (item : Item) → AddsHead known.setup s noted item → items known noted.frame.id t ≡ []
    first_added item a =
        no_items_begun (items known noted.frame.id t) (sym (ap (λ (k : Kept). k.outline.begun) (right item (sym same ∙ a.adds.adds))) ∙ a.first)

-- the book tells what a frame adds, and where it adds something all that is kept of its stream
module _ (known : Known) (t : List Entry) (book : Book) (told : IsTold book (summary_of known t)) (noted : Noted) where
  pub added_by_book : added_in known.setup (summary_in book) noted ≡ added_in known.setup (summary_of known t) noted
  added_by_book =
      ap (λ (s : Summary). added_in known.setup s noted) told.same
      ∙ added_seen known.setup noted (find book.rows) (summary_of known t) (will_do book.rows (summary_of known t) told.stand) told.stand.few

  pub right_by_book : (item : Item) → added_in known.setup (summary_of known t) noted ≡ item ∷ [] → find book.rows noted.frame.id ≡ stream_of known t noted.frame.id
  right_by_book item adds = right_if_added known.setup noted (find book.rows) (summary_of known t) (will_do book.rows (summary_of known t) told.stand) told.stand.few item adds
