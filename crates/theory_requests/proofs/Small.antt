-- What came of a stream's request is no larger than the gateway takes: the fields of its head, and its body.
use Rattle.std.proofs.Common.{◌≡◌, ℕ, ◌+◌, ◌<◌, ◌≤◌, Bool, true, false, ◌==◌, ◌&&◌, List, [], ◌∷◌, ◌++◌, length, refl, sym, ap, ◌∙◌, subst, inl, inr, if◌then◌else◌, arith, length-append, append-nil}
use Rattle.std.specs.Prelude.{Option, Some, None, nat_lt}
use Rattle.std.proofs.lemmas.Bool.{ltb-false, eq-eqb}
use Rattle.std.proofs.lemmas.Bool.Decides.{eqb_tells}
use Rattle.model.specs.Messages.{Field, Item}
use Rattle.model.specs.Messages.Item.{Block, Content}
use Rattle.model.specs.Frames.{data_kind, ends_stream, content}
use Rattle.model.specs.Http2.{HasHead, body_of}
use Rattle.model.specs.Malformed.{Carried}
use Rattle.model.specs.Setup.{Setup}
use Rattle.model.specs.Tapes.{Note, Noted, Entry, came}
use Rattle.model.specs.Tapes.Note.{NoBlock, Fields, Undecodable, Unread}
use Rattle.model.specs.Tapes.Entry.{Came, Breached, Happened, Sent, Did}
use Rattle.model.specs.Decoding.{Partial, completed}
use Rattle.model.specs.Streams.{block_items, frame_items, items_of}
use Rattle.model.specs.Known.{Known}
use Rattle.model.specs.Causes.{are_large, cause_if}
use Rattle.model.specs.Causes.Cause.{LargeBody}
use Rattle.model.specs.Courses.{course, carried, items, cause_of_block, cause_of_frame}
use Rattle.model.proofs.ItemLaws.{is_interrupted, items_stay}
use Rattle.theory_requests.proofs.Bringing.{not_large, no_cause_there}
use Rattle.theory_requests.proofs.Writing.{body_append}

-- The head isn't too large, nor the body.
pub record IsSmall (setup : Setup) (items : List Item) : Type 0 where
  pub head : (fields : List Field) → HasHead items fields → are_large fields ≡ false
  pub body : length (body_of items) ≤ setup.max_body

module _ (setup : Setup) (items : List Item) (small : IsSmall setup items) where
  -- a block behind them that isn't large
  with_block : (fields : List Field) (ends : Bool) → are_large fields ≡ false → IsSmall setup (items ++ Block fields ends ∷ [])
  with_block fields ends fits = record { head = head items small.head; body = subst (λ n. n ≤ setup.max_body) (sym size) small.body }
    where
      head : (xs : List Item) → ((h : List Field) → HasHead xs h → are_large h ≡ false) → (h : List Field) → HasHead (xs ++ Block fields ends ∷ []) h → are_large h ≡ false
      head [] was h has = subst (λ x. are_large x ≡ false) has fits
      head (Block first b ∷ xs) was h has = was h has
      head (Content octets b ∷ xs) was h has = absurd has

      size : length (body_of (items ++ Block fields ends ∷ [])) ≡ length (body_of items)
      size = ap length (body_append items (Block fields ends ∷ []) ∙ append-nil (body_of items))

  -- octets behind them that stay within what is taken
  with_content : (octets : List ℕ) (ends : Bool) → length (body_of items) + length octets ≤ setup.max_body → IsSmall setup (items ++ Content octets ends ∷ [])
  with_content octets ends fits = record { head = head items small.head; body = subst (λ n. n ≤ setup.max_body) (sym size) fits }
    where
      head : (xs : List Item) → ((h : List Field) → HasHead xs h → are_large h ≡ false) → (h : List Field) → HasHead (xs ++ Content octets ends ∷ []) h → are_large h ≡ false
      head [] was h has = absurd has
      head (Block first b ∷ xs) was h has = was h has
      head (Content other b ∷ xs) was h has = absurd has

      size : length (body_of (items ++ Content octets ends ∷ [])) ≡ length (body_of items) + length octets
      size = ap length (body_append items (Content octets ends ∷ [])) ∙ length-append (body_of items) (octets ++ []) ∙ ap (λ xs. length (body_of items) + length xs) (append-nil octets)

  none_behind : IsSmall setup (items ++ [])
  none_behind = subst (IsSmall setup) (sym (append-nil items)) small

  -- octets that are no cause stay within that
  within : (count : ℕ) → cause_if (nat_lt setup.max_body count) LargeBody ≡ None → count ≤ setup.max_body
  within count none = ltb-false setup.max_body count (by (nat_lt setup.max_body count) none)
    where
      by : (b : Bool) → cause_if b LargeBody ≡ None → b ≡ false
      by true e = absurd (cc)
      by false e = refl

  -- what a frame adds that is no cause
  with_frame : (before : Carried) → before.octets ≡ length (body_of items) → (block : Option Partial) (noted : Noted) → cause_of_frame setup before block noted ≡ None → IsSmall setup (items ++ frame_items block noted)
  with_frame before counted (Some block) noted none = by noted.note none
    where
      by : (note : Note) → cause_of_block setup before note ≡ None → IsSmall setup (items ++ block_items block note)
      by (Fields fields) none = with_block fields block.ends (not_large setup before fields none)
      by NoBlock none = none_behind
      by Undecodable none = none_behind
      by Unread none = none_behind
  with_frame before counted None noted none = by (noted.frame.kind == data_kind) none
    where
      by : (b : Bool) → cause_if (b && nat_lt setup.max_body (before.octets + length (content noted.frame))) LargeBody ≡ None → IsSmall setup (items ++ (if b then Content (content noted.frame) (ends_stream noted.frame) ∷ [] else []))
      by true none = with_content (content noted.frame) (ends_stream noted.frame) (subst (λ n. n + length (content noted.frame) ≤ setup.max_body) counted (within (before.octets + length (content noted.frame)) none))
      by false none = none_behind

-- an entry that brings nothing leaves it so
small_stays : (known : Known) (stream : ℕ) (t : List Entry) (e : Entry) → items_of stream t e ≡ [] → IsSmall known.setup (items known stream t) → IsSmall known.setup (items known stream (e ∷ t))
small_stays known stream t e none = subst (IsSmall known.setup) (items_stay known stream t e none)

-- a frame leaves it so
small_came : (known : Known) (t : List Entry) (noted : Noted) → 0 < noted.frame.id → IsSmall known.setup (items known noted.frame.id t) → IsSmall known.setup (items known noted.frame.id (Came noted ∷ t))
small_came known t noted some small = by (is_interrupted known noted.frame.id t (Came noted)) refl
  where
    own : frame_items (completed (came t) noted.frame) noted ≡ items_of noted.frame.id t (Came noted)
    own = sym (ap (λ b. if b then frame_items (completed (came t) noted.frame) noted else []) (eq-eqb noted.frame.id noted.frame.id refl))

    by : (b : Bool) → is_interrupted known noted.frame.id t (Came noted) ≡ b → IsSmall known.setup (if b then items known noted.frame.id t else items known noted.frame.id t ++ items_of noted.frame.id t (Came noted))
    by true over = small
    by false goes_on =
        subst (λ xs. IsSmall known.setup (items known noted.frame.id t ++ xs)) own
        (with_frame known.setup (items known noted.frame.id t) small (carried (course known noted.frame.id t)) refl (completed (came t) noted.frame) noted (no_cause_there known t noted goes_on some))

-- So it is for each stream.
pub items_small : (known : Known) (stream : ℕ) → 0 < stream → (t : List Entry) → IsSmall known.setup (items known stream t)
items_small known stream some [] = record { head = λ fields has. absurd has; body = omega arith }
items_small known stream some (Came noted ∷ t) = elim (eqb_tells noted.frame.id stream) [
  | inl same ↦ subst (λ n. IsSmall known.setup (items known n (Came noted ∷ t))) same.1
      (small_came known t noted (subst (λ n. 0 < n) (sym same.1) some) (subst (λ n. IsSmall known.setup (items known n t)) (sym same.1) (items_small known stream some t)))
  | inr apart ↦ small_stays known stream t (Came noted) (ap (λ b. if b then frame_items (completed (came t) noted.frame) noted else []) apart.0) (items_small known stream some t)
]
items_small known stream some (Breached breach ∷ t) = small_stays known stream t (Breached breach) refl (items_small known stream some t)
items_small known stream some (Happened event ∷ t) = small_stays known stream t (Happened event) refl (items_small known stream some t)
items_small known stream some (Sent noted ∷ t) = small_stays known stream t (Sent noted) refl (items_small known stream some t)
items_small known stream some (Did act ∷ t) = small_stays known stream t (Did act) refl (items_small known stream some t)
