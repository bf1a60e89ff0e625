-- What holds of a stream of which something can go, where moves led: it is active, and the gateway hasn't ended it.
use Rattle.std.proofs.Common.{◌≡◌, ℕ, Bool, true, false, ◌&&◌, ◌||◌, ◌==◌, if◌then◌else◌, List, [], ◌∷◌, ◌++◌, map, Option, Some, None, refl, sym, ◌∙◌, ap, subst, inl, inr}
use Rattle.std.specs.Prelude.{◌⊎◌, is_some}
use Rattle.std.specs.List.{list_any}
use Rattle.std.proofs.lemmas.Bool.{cases_Bool, eqb-true}
use Rattle.std.proofs.lemmas.List.Folds.{list_any-append}
use Rattle.model.specs.Messages.{Item, ends_with}
use Rattle.model.specs.Messages.Item.{Block, Content}
use Rattle.model.specs.Frames.{data_kind, ends_stream, content}
use Rattle.model.specs.ResponseHeads.{Head}
use Rattle.model.specs.Setup.{Setup}
use Rattle.model.specs.Tapes.{Note, Noted, Entry, sent}
use Rattle.model.specs.Tapes.Note.{NoBlock, Fields, Undecodable, Unread}
use Rattle.model.specs.Tapes.Entry.{Sent}
use Rattle.model.specs.Decoding.{Partial, completed}
use Rattle.model.specs.Streams.{frame_items, block_items}
use Rattle.model.specs.Available.{items_on}
use Rattle.model.specs.Deliveries.{End, Delivery, AreInterims, AreContents, IsAnsweredBy, ReadsAs}
use Rattle.model.specs.Known.{Known}
use Rattle.model.specs.Lifetimes.{ends_by, is_active, is_ended_by_gateway}
use Rattle.theory_errors.specs.Summary.{Stream as Conducted}
use Rattle.theory_errors.specs.Judging.{is_active_in}
use Rattle.theory_errors.specs.Rule.{known_of}
use Rattle.theory_errors.specs.Rows.{find as find_row}
use Rattle.theory_errors.specs.Book.{ledger_of}
use Rattle.theory_errors.proofs.Knowing.{known_so}
use Rattle.theory_errors.proofs.Telling.{book_told, live_told}
use Rattle.theory_responses.specs.Outbox.{Outbox, Fits, can_go}
use Rattle.theory_responses.specs.Outbox.Outbox.{Before, Behind, Over}
use Rattle.theory_responses.specs.State as theory_responses
use Rattle.theory_responses.specs.State.{Kept, Move, find, entry_of}
use Rattle.theory_responses.specs.State.Move.{Takes, Breaks, Notes, Hears, Fails, Idles, Goes, Sends, Acts}
use Rattle.theory_responses.specs.Policy.{AreAllowed}
use Rattle.theory_responses.specs.Rule.{moves_of}
use Rattle.theory_responses.proofs.Offering.{Offering, IsHeld, IsKeptIf}
use Rattle.theory_responses.proofs.Allowing.{placed}
use Rattle.theory_responses.proofs.Ruling.{Placed}
use Rattle.theory.specs.Moves as theory
use Rattle.theory.specs.State.{State, conducts, tape_of, offers_of}
use Rattle.theory.specs.Steps.{Stands, told_by}
use Rattle.theory.proofs.Tapes.{offers_tape}
use Rattle.theory.proofs.Telling.{all_moved}
use Rattle.theory.proofs.Placing.{offers_may, offers_right, offers_told}
use Rattle.refinement.specs.Led.{IsLed}
use Rattle.refinement.specs.View.{AreSo}
use Rattle.refinement.proofs.Sound.{right}

-- ---- what ends a stream is an item that does

-- a frame that brings one item ends its stream where the item does
ends_with_item : (block : Option Partial) (noted : Noted) (item : Item) → frame_items block noted ≡ item ∷ [] → list_any ends_with (frame_items block noted) ≡ ends_by block noted.frame
ends_with_item (Some block) noted item brings = by noted.note brings
  where
    by : (note : Note) → block_items block note ≡ item ∷ [] → list_any ends_with (block_items block note) ≡ block.ends
    by NoBlock brings = cc
    by (Fields fields) brings = or_false block.ends
      where
        or_false : (b : Bool) → (b || false) ≡ b
        or_false true = refl
        or_false false = refl
    by Undecodable brings = cc
    by Unread brings = cc
ends_with_item None noted item brings = by (noted.frame.kind == data_kind) (ends_stream noted.frame)
  where
    by : (a b : Bool) → list_any ends_with (if a then Content (content noted.frame) b ∷ [] else []) ≡ (a && b)
    by true true = refl
    by true false = refl
    by false b = refl

-- one that brings none ends none
ends_none : (block : Option Partial) (noted : Noted) → block ≡ None → (noted.frame.kind == data_kind) ≡ false → ends_by block noted.frame ≡ false
ends_none block noted none no_data = ap (λ (b : Option Partial). ends_by b noted.frame) none ∙ ap (λ b. b && ends_stream noted.frame) no_data

module _ (known : Known) (id : ℕ) where
  -- the gateway ended the stream, as the tape and as the items tell it
  abbrev by_tape : List Entry → Bool
  by_tape t = is_ended_by_gateway id t

  abbrev by_items : List Entry → Bool
  by_items t = list_any ends_with (items_on id (sent t))

  -- a frame more
  sent_more : (t : List Entry) (noted : Noted) → (noted.frame.id ≡ id → list_any ends_with (frame_items (completed (sent t) noted.frame) noted) ≡ true ⊎ (ends_by (completed (sent t) noted.frame) noted.frame ≡ false))
      → (by_tape t ≡ true → by_items t ≡ true) → by_tape (Sent noted ∷ t) ≡ true → by_items (Sent noted ∷ t) ≡ true
  sent_more t noted ends before is = by (noted.frame.id == id) refl is
    where
      its : List Item
      its = frame_items (completed (sent t) noted.frame) noted

      behind : by_tape t ≡ true → (b : Bool) → list_any ends_with (items_on id (sent t) ++ (if b then its else [])) ≡ true
      behind on b = list_any-append ends_with (items_on id (sent t)) (if b then its else []) ∙ ap (λ x. x || list_any ends_with (if b then its else [])) (before on)

      or_true : (b : Bool) → (b || true) ≡ true
      or_true true = refl
      or_true false = refl

      by : (b : Bool) → (noted.frame.id == id) ≡ b → (b && ends_by (completed (sent t) noted.frame) noted.frame || by_tape t) ≡ true → list_any ends_with (items_on id (sent t) ++ (if b then its else [])) ≡ true
      by false apart on = behind on false
      by true same on = elim (ends (eqb-true noted.frame.id id same)) [
        | inl brought ↦ list_any-append ends_with (items_on id (sent t)) its ∙ ap (λ x. list_any ends_with (items_on id (sent t)) || x) brought ∙ or_true (list_any ends_with (items_on id (sent t)))
        | inr none ↦ behind (sym (ap (λ b. b || by_tape t) none) ∙ on) true
      ]

  -- either a frame that brings one item ends its stream by it, or not at all
  by_one : (block : Option Partial) (noted : Noted) (item : Item) → frame_items block noted ≡ item ∷ [] → (list_any ends_with (frame_items block noted) ≡ true) ⊎ (ends_by block noted.frame ≡ false)
  by_one block noted item brings = elim (cases_Bool (ends_by block noted.frame)) [
    | inl is ↦ inl (ends_with_item block noted item brings ∙ is)
    | inr none ↦ inr none
  ]

  -- What the gateway ended was ended by an item.
  pub ended_by_item : (ms : List Move) → AreAllowed known ms → by_tape (map entry_of ms) ≡ true → by_items (map entry_of ms) ≡ true
  ended_by_item [] all = λ is. absurd (let clash : false ≡ true = is in cc)
  ended_by_item (Takes noted change ∷ ms) all = ended_by_item ms all.0
  ended_by_item (Breaks breach ∷ ms) all = ended_by_item ms all.0
  ended_by_item (Notes event ∷ ms) all = ended_by_item ms all.0
  ended_by_item (Hears event stream news ∷ ms) all = ended_by_item ms all.0
  ended_by_item (Fails event stream ∷ ms) all = ended_by_item ms all.0
  ended_by_item (Idles event ∷ ms) all = ended_by_item ms all.0
  ended_by_item (Acts act ∷ ms) all = ended_by_item ms all.0
  ended_by_item (Goes noted item part over ∷ ms) all =
      sent_more (map entry_of ms) noted (λ own. by_one (completed (sent (map entry_of ms)) noted.frame) noted item all.2.1.brings) (ended_by_item ms all.0)
  ended_by_item (Sends noted ∷ ms) all =
      sent_more (map entry_of ms) noted (λ own. inr (ends_none (completed (sent (map entry_of ms)) noted.frame) noted all.2.no_block all.2.no_data)) (ended_by_item ms all.0)

-- ---- what isn't whole wasn't ended

interims_go_on : (items : List Item) (heads : List Head) → AreInterims items heads → list_any ends_with items ≡ false
interims_go_on [] [] are = refl
interims_go_on (Block fields false ∷ items) (head ∷ heads) are = interims_go_on items heads are.2
interims_go_on [] (head ∷ heads) are = absurd are
interims_go_on (Block fields true ∷ items) heads are = absurd are
interims_go_on (Content octets ends ∷ items) heads are = absurd are
interims_go_on (Block fields false ∷ items) [] are = absurd are

contents_go_on : (items : List Item) (body : List ℕ) (end : End) → AreContents items body end → end ≡ None → list_any ends_with items ≡ false
contents_go_on [] body end are not_whole = refl
contents_go_on (Content octets true ∷ items) body end are not_whole = absurd (let clash : ◌≡◌ {A = End} (Some []) None = sym are.2 ∙ not_whole in cc)
contents_go_on (Content octets false ∷ items) body end are not_whole = contents_go_on items are.0 end are.2 not_whole
contents_go_on (Block fields true ∷ items) body end are not_whole = absurd (let clash : ◌≡◌ {A = End} (Some fields) None = sym are.2 ∙ not_whole in cc)
contents_go_on (Block fields false ∷ items) body end are not_whole = absurd are

answer_goes_on : (items : List Item) (head : Option Head) (body : List ℕ) (end : End) → IsAnsweredBy items head body end → (head ≡ None) ⊎ (end ≡ None) → list_any ends_with items ≡ false
answer_goes_on items None body end is not_yet = ap (λ (xs : List Item). list_any ends_with xs) is.0
answer_goes_on items (Some head) body end is (inl none) = absurd (let clash : ◌≡◌ {A = Option Head} (Some head) None = none in cc)
answer_goes_on (Block fields true ∷ items) (Some head) body end is (inr not_whole) = absurd (let clash : ◌≡◌ {A = End} (Some []) None = sym is.4 ∙ not_whole in cc)
answer_goes_on (Block fields false ∷ items) (Some head) body end is (inr not_whole) = contents_go_on items body end is.2 not_whole
answer_goes_on [] (Some head) body end is (inr not_whole) = absurd is
answer_goes_on (Content octets ends ∷ items) (Some head) body end is (inr not_whole) = absurd is

items_go_on : (items : List Item) (read : Delivery) → ReadsAs items read → (read.head ≡ None) ⊎ (read.ends ≡ None) → list_any ends_with items ≡ false
items_go_on items read reads not_yet =
    ap (λ (xs : List Item). list_any ends_with xs) reads.is
    ∙ list_any-append ends_with reads.interim_items reads.rest
    ∙ ap (λ b. b || list_any ends_with reads.rest) (interims_go_on reads.interim_items read.interims reads.interims)
    ∙ answer_goes_on reads.rest read.head read.body read.ends reads.answer not_yet

-- behind an outbox of which something can go the response isn't whole
not_yet_whole : (read : Delivery) (windows : Bool) (box : Outbox) → Fits read box → can_go windows box ≡ true → (read.head ≡ None) ⊎ (read.ends ≡ None)
not_yet_whole read windows (Before interims head body whole) fits can = inl fits
not_yet_whole read windows (Behind body whole) fits can = inr fits.1
not_yet_whole read windows Over fits can = absurd (let no : false ≡ true = can in cc)

-- ---- where moves led

module _ (setup : Setup) (run : List theory.Move) (s : State) (stands : Stands setup run s) (so : AreSo setup run) where
  abbrev known : Known
  known = known_of setup (conducts run)

  led : IsLed known run s
  led = record { knows = known_so setup (conducts run); answered = so known refl (known_so setup (conducts run)); stands = stands }

  abbrev moves : List Move
  moves = moves_of (offers_of setup run)

  all : AreAllowed known moves × Placed known (map entry_of moves) (theory_responses.state_of moves)
  all = placed known (offers_of setup run) (offers_may setup run stands.allowed) (offers_right known run led.knows stands.allowed) (offers_told known run led.knows led.answered)

  tape_is : map entry_of moves ≡ tape_of run
  tape_is = offers_tape setup run

  offers_are : theory_responses.state_of moves ≡ s.offers
  offers_are = ap (λ (x : State). x.offers) stands.is

  offering_here : Offering known (tape_of run) s.offers
  offering_here = subst (λ (t : List Entry). Offering known t s.offers) tape_is (subst (Offering known (map entry_of moves)) offers_are all.1.offering)

  -- Just the active streams have an outbox.
  pub kept_active : (id : ℕ) → is_some (find id s.offers.kept) ≡ is_active_in id (told_by s)
  kept_active id = offering_here.lives id ∙ sym ((right known run s led).active id)

  module _ (id : ℕ) (k : Kept) (found : find id s.offers.kept ≡ Some k) (not_cut : k.cut ≡ false) (windows : Bool) (can : can_go windows k.box ≡ true) where
    on_tape : is_active id (tape_of run) ≡ true
    on_tape = sym (offering_here.lives id) ∙ ap (λ (o : Option Kept). is_some o) found

    held : IsHeld known (tape_of run) id k
    held = subst (IsKeptIf known (tape_of run) id) found (offering_here.kept id on_tape)

    not_by_items : list_any ends_with (items_on id (sent (tape_of run))) ≡ false
    not_by_items =
        let stands = held.stands not_cut in
        items_go_on (items_on id (sent (tape_of run))) stands.read stands.reads (not_yet_whole stands.read windows k.box stands.fits can)

    not_on_tape : is_ended_by_gateway id (tape_of run) ≡ false
    not_on_tape = elim (cases_Bool (is_ended_by_gateway id (tape_of run))) [
      | inl is ↦ absurd (let no : true ≡ false = sym (subst (λ (t : List Entry). is_ended_by_gateway id t ≡ true → list_any ends_with (items_on id (sent t)) ≡ true) tape_is (ended_by_item known id moves all.0) is) ∙ not_by_items in cc)
      | inr none ↦ none
    ]

    -- A stream of which something can go is active.
    pub ready_active : is_active_in id (told_by s) ≡ true
    ready_active = sym (kept_active id) ∙ ap (λ (o : Option Kept). is_some o) found

    -- The gateway hasn't ended it.
    pub ready_unended : (find_row s.ledger.book.rows id).ended_by_gateway ≡ false
    ready_unended =
        ap (λ (x : State). (find_row x.ledger.book.rows id).ended_by_gateway) (sym stands.is)
        ∙ ap (λ (kept : Conducted). kept.ended_by_gateway) (live_told known (tape_of run) (ledger_of setup (conducts run)).book (book_told known (conducts run) led.knows (all_moved known run stands.allowed) (ap (λ (x : State). x.ledger.book.ends) stands.is ∙ stands.goes_on)) id on_tape)
        ∙ not_on_tape
