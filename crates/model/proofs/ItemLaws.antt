-- What an entry leaves of the items of a stream, and who ended a stream whose items come to an end.
use Rattle.std.proofs.Common.{◌≡◌, ℕ, Bool, true, false, ◌==◌, ◌||◌, ◌&&◌, List, [], ◌∷◌, ◌++◌, refl, sym, ap, ◌∙◌, inl, inr, if◌then◌else◌}
use Rattle.std.specs.Prelude.{Option, Some, None, is_some}
use Rattle.std.specs.List.{list_any}
use Rattle.std.proofs.lemmas.List.{append-nil}
use Rattle.std.proofs.lemmas.List.Folds.{list_any-append}
use Rattle.std.proofs.lemmas.Bool.{cases_Bool, eq-eqb}
use Rattle.model.specs.Messages.{Item, ends_with}
use Rattle.model.specs.Messages.Item.{Block, Content}
use Rattle.model.specs.Frames.{data_kind, ends_stream, content}
use Rattle.model.specs.Tapes.{Note, Noted, Entry, came}
use Rattle.model.specs.Tapes.Note.{NoBlock, Fields, Undecodable, Unread}
use Rattle.model.specs.Tapes.Entry.{Came, Breached, Happened, Sent, Did}
use Rattle.model.specs.Decoding.{Partial, completed}
use Rattle.model.specs.Errors.{Fault}
use Rattle.model.specs.Errors.Fault.{Connection, Stream, Discarded}
use Rattle.model.specs.Streams.{block_items, frame_items, items_of, is_reset, is_ended_by}
use Rattle.model.specs.Setup.{own_window}
use Rattle.model.specs.Known.{Known}
use Rattle.model.specs.Lifetimes.{ends_by, is_ended_by_client}
use Rattle.model.specs.ErrorTable.{fault_with}
use Rattle.model.specs.Courses.{course, carried, items, cause_of, fault, interrupts}
use Rattle.model.specs.Offers.{is_to_head}
use Rattle.model.proofs.LifeLaws.{ended_stays}

-- whether the items of a stream were over, or an entry interrupts them
abbrev pub is_interrupted : Known → ℕ → List Entry → Entry → Bool
is_interrupted known stream t e =
    let before = course known stream t in before.over || interrupts stream e (fault_with (own_window known.setup) (carried before) t e) (cause_of known stream t e)

-- the first item tells the method
first_tells : (b : Bool) (xs ys : List Item) → (xs ≡ [] → ⊥) → is_to_head xs ≡ is_to_head (if b then xs else xs ++ ys)
first_tells true xs ys some = refl
first_tells false [] ys some = absurd (some refl)
first_tells false (Block fields ends ∷ xs) ys some = refl
first_tells false (Content octets ends ∷ xs) ys some = refl

none_added : (b : Bool) (xs ys : List Item) → ys ≡ [] → xs ≡ (if b then xs else xs ++ ys)
none_added true xs ys e = refl
none_added false xs ys e = sym (ap (λ l. xs ++ l) e ∙ append-nil xs)

-- where something came on the stream the method stays
pub head_stays : (known : Known) (stream : ℕ) (t : List Entry) (e : Entry) → (items known stream t ≡ [] → ⊥) → is_to_head (items known stream t) ≡ is_to_head (items known stream (e ∷ t))
head_stays known stream t e some =
    first_tells (is_interrupted known stream t e) (items known stream t) (items_of stream t e) some

-- an entry that brings no item leaves the items
pub items_stay : (known : Known) (stream : ℕ) (t : List Entry) (e : Entry) → items_of stream t e ≡ [] → items known stream t ≡ items known stream (e ∷ t)
items_stay known stream t e none =
    none_added (is_interrupted known stream t e) (items known stream t) (items_of stream t e) none

-- ---- frames that add no item

-- a frame that has a fault adds none
pub none_by_fault : (known : Known) (t : List Entry) (noted : Noted) (found : Fault) → fault known t (Came noted) ≡ Some found → items known noted.frame.id (Came noted ∷ t) ≡ items known noted.frame.id t
none_by_fault known t noted found is = ap (λ b. if b then items known noted.frame.id t else items known noted.frame.id t ++ items_of noted.frame.id t (Came noted)) over
  where
    ended : (found : Fault) → is_ended_by true (Some found) ≡ true
    ended (Connection code) = refl
    ended (Stream code) = refl
    ended Discarded = refl

    or_true : (a b c d : Bool) → b ≡ true → (a || (b || c || d)) ≡ true
    or_true true b c d e = refl
    or_true false true c d e = refl
    or_true false false c d e = cc

    over : is_interrupted known noted.frame.id t (Came noted) ≡ true
    over =
        or_true (course known noted.frame.id t).over (is_ended_by (noted.frame.id == noted.frame.id) (fault known t (Came noted))) (is_reset noted.frame.id (Came noted)) (is_some (cause_of known noted.frame.id t (Came noted)))
        (ap (λ b. is_ended_by b (fault known t (Came noted))) (eq-eqb noted.frame.id noted.frame.id refl) ∙ ap (is_ended_by true) is ∙ ended found)

-- nor does one on a stream whose items were over, or one that has none
pub none_over : (known : Known) (t : List Entry) (noted : Noted) → (course known noted.frame.id t).over ≡ true → items known noted.frame.id (Came noted ∷ t) ≡ items known noted.frame.id t
none_over known t noted over = ap (λ b. if b || interrupts noted.frame.id (Came noted) (fault known t (Came noted)) (cause_of known noted.frame.id t (Came noted)) then items known noted.frame.id t else items known noted.frame.id t ++ items_of noted.frame.id t (Came noted)) over

pub none_brought : (known : Known) (t : List Entry) (noted : Noted) → frame_items (completed (came t) noted.frame) noted ≡ [] → items known noted.frame.id (Came noted ∷ t) ≡ items known noted.frame.id t
none_brought known t noted none =
    sym (items_stay known noted.frame.id t (Came noted) (ap (λ b. if b then frame_items (completed (came t) noted.frame) noted else []) (eq-eqb noted.frame.id noted.frame.id refl) ∙ none))

-- ---- items that come to an end

-- an item that ends the stream came with a frame that does
pub ends_tell : (block : Option Partial) (noted : Noted) → list_any ends_with (frame_items block noted) ≡ true → ends_by block noted.frame ≡ true
ends_tell (Some block) noted e = by noted.note e
  where
    plain : (b : Bool) → (b || false) ≡ true → b ≡ true
    plain true e = refl
    plain false e = e

    by : (note : Note) → list_any ends_with (block_items block note) ≡ true → block.ends ≡ true
    by (Fields fields) e = plain block.ends e
    by NoBlock e = cc
    by Undecodable e = cc
    by Unread e = cc
ends_tell None noted e = by (noted.frame.kind == data_kind) (ends_stream noted.frame) e
  where
    by : (a b : Bool) → list_any ends_with (if a then Content (content noted.frame) b ∷ [] else []) ≡ true → (a && b) ≡ true
    by true true e = refl
    by true false e = e
    by false b e = e

-- where more came to an end than before, what was added does
pub added_ends : (b : Bool) (xs ys : List Item) → list_any ends_with xs ≡ false → list_any ends_with (if b then xs else xs ++ ys) ≡ true → list_any ends_with ys ≡ true
added_ends true xs ys none e = let clash : false ≡ true = sym none ∙ e in cc
added_ends false xs ys none e = ap (λ b. b || list_any ends_with ys) (sym none) ∙ sym (list_any-append ends_with xs ys) ∙ e

-- an entry whose items end the stream is a frame of the client that does
ended_by_entry : (t : List Entry) (e : Entry) (stream : ℕ) → list_any ends_with (items_of stream t e) ≡ true → is_ended_by_client stream (e ∷ t) ≡ true
ended_by_entry t (Came noted) stream ends = by (noted.frame.id == stream) ends
  where
    by : (b : Bool) → list_any ends_with (if b then frame_items (completed (came t) noted.frame) noted else []) ≡ true → (b && ends_by (completed (came t) noted.frame) noted.frame || is_ended_by_client stream t) ≡ true
    by true e = ap (λ b. b || is_ended_by_client stream t) (ends_tell (completed (came t) noted.frame) noted e)
    by false e = absurd (cc)
ended_by_entry t (Breached breach) stream ends = absurd (cc)
ended_by_entry t (Happened event) stream ends = absurd (cc)
ended_by_entry t (Sent noted) stream ends = absurd (cc)
ended_by_entry t (Did act) stream ends = absurd (cc)

-- items that come to an end: the client ended the stream
pub ended_by_items : (known : Known) (stream : ℕ) (t : List Entry) → list_any ends_with (items known stream t) ≡ true → is_ended_by_client stream t ≡ true
ended_by_items known stream [] ends = absurd (cc)
ended_by_items known stream (e ∷ t) ends = elim (cases_Bool (list_any ends_with (items known stream t))) [
  | inl before ↦ ended_stays t e stream (ended_by_items known stream t before)
  | inr none ↦ ended_by_entry t e stream (added_ends (is_interrupted known stream t e) (items known stream t) (items_of stream t e) none ends)
]

-- so where the client didn't end the stream no item does
pub none_ended : (known : Known) (stream : ℕ) (t : List Entry) → is_ended_by_client stream t ≡ false → list_any ends_with (items known stream t) ≡ false
none_ended known stream t goes_on = elim (cases_Bool (list_any ends_with (items known stream t))) [
  | inl ends ↦ (let clash : true ≡ false = sym (ended_by_items known stream t ends) ∙ goes_on in cc)
  | inr none ↦ none
]
