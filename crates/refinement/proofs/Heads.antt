-- Where no final head is out, the gateway's reply takes the place of what is on offer, and no reset is owed.
use Rattle.std.proofs.Common.{◌≡◌, ℕ, true, false, List, [], ◌∷◌, Some, None, refl, sym, ◌∙◌, ap, subst, inl, inr}
use Rattle.std.specs.Prelude.{is_some}
use Rattle.model.specs.Messages.{Field, Item}
use Rattle.model.specs.Http2.{HasHead}
use Rattle.model.specs.Malformed.{is_begun}
use Rattle.model.specs.Courses.{course, items}
use Rattle.model.specs.Setup.{Setup}
use Rattle.model.specs.Tapes.{Entry, sent}
use Rattle.model.specs.Available.{items_on}
use Rattle.model.specs.Deliveries.{Delivery}
use Rattle.model.specs.Known.{Known}
use Rattle.model.specs.Causes.{Cause}
use Rattle.model.specs.Lifetimes.{is_active}
use Rattle.model.proofs.HeadLaws.{out_by_read}
use Rattle.theory_errors.specs.Summary.{Stream as Conducted, summary_of, stream_of}
use Rattle.theory_errors.specs.Rule.{known_of}
use Rattle.theory_errors.specs.Rows as rows
use Rattle.theory_errors.specs.Told as theory_errors
use Rattle.theory_errors.proofs.Knowing.{known_so}
use Rattle.theory_errors.proofs.Telling.{book_told, live_told}
use Rattle.theory_responses.specs.Outbox.{Outbox, Fits}
use Rattle.theory_responses.specs.Outbox.Outbox.{Before, Behind, Over}
use Rattle.theory_responses.specs.State.{Kept, find, answered, answered_box}
use Rattle.theory_responses.proofs.Standing as standing
use Rattle.theory_responses.proofs.Offering.{IsKeptIf, IsHeld, Offering}
use Rattle.theory_responses.proofs.Allowing.{placed}
use Rattle.theory.specs.Moves.{Move}
use Rattle.theory.specs.State.{State, conducts, tape_of, offers_of, state_of}
use Rattle.theory.specs.Steps.{Stands}
use Rattle.theory.proofs.Tapes.{offers_tape}
use Rattle.theory.proofs.Telling.{all_moved}
use Rattle.theory.proofs.Placing.{offers_may, offers_right, offers_told}
use Rattle.theory_requests.proofs.Standing as serves
use Rattle.refinement.specs.View.{AreSo}
use Rattle.refinement.proofs.Sound.{stands as sound}

module _ (setup : Setup) (run : List Move) (s : State) (stands : Stands setup run s) (so : AreSo setup run) where
  abbrev known : Known
  known = known_of setup (conducts run)

  abbrev t : List Entry
  t = tape_of run

  -- outboxes are what is on offer behind what was read
  pub offering : Offering known t s.offers
  offering =
      subst (λ (x : State). Offering known t x.offers) stands.is
      (subst (λ (u : List Entry). Offering known u (state_of setup run).offers) (offers_tape setup run)
      (placed known (offers_of setup run) (offers_may setup run stands.allowed) (offers_right known run (known_so setup (conducts run)) stands.allowed) (offers_told known run (known_so setup (conducts run)) (so known refl (known_so setup (conducts run))))).1.offering)

  pub told : theory_errors.IsTold s.ledger.book (summary_of known t)
  told =
      subst (λ (x : State). theory_errors.IsTold x.ledger.book (summary_of known t)) stands.is
      (book_told known (conducts run) (known_so setup (conducts run)) (all_moved known run stands.allowed) (ap (λ (x : State). x.ledger.book.ends) stands.is ∙ stands.goes_on))

  -- A reply leaves no reset owed on a stream whose final head isn't out.
  pub none_cut_behind : (id : ℕ) (k : Kept) → find id s.offers.kept ≡ Some k → k.cut ≡ false → (rows.find s.ledger.book.rows id).head_out ≡ false → (cause : Cause) → (answered cause k).cut ≡ false
  none_cut_behind id k found whole not_out cause = by k.box stand.fits
    where
      active : is_active id t ≡ true
      active = sym (offering.lives id) ∙ ap is_some found

      held : IsHeld known t id k
      held = subst (IsKeptIf known t id) found (offering.kept id active)

      stand : standing.Stands known t id k.box
      stand = held.stands whole

      not_read : is_some stand.read.head ≡ false
      not_read = sym (out_by_read (items_on id (sent t)) stand.read stand.reads) ∙ sym (ap (λ (c : Conducted). c.head_out) (live_told known t s.ledger.book told id active)) ∙ not_out

      by : (box : Outbox) → Fits stand.read box → (answered_box cause k box).cut ≡ false
      by (Before interims head body all) fits = whole
      by (Behind body all) fits = absurd (let no : true ≡ false = sym fits.0 ∙ not_read in cc)
      by Over fits = absurd (let no : true ≡ false = sym fits.0 ∙ not_read in cc)

  -- A stream whose final head is out has begun, unless the gateway replies to it.
  pub begun_if_out : (id : ℕ) (k : Kept) → find id s.offers.kept ≡ Some k → k.cut ≡ false → (rows.find s.ledger.book.rows id).head_out ≡ true → (rows.find s.ledger.book.rows id).outline.cause ≡ None → (rows.find s.ledger.book.rows id).outline.begun ≡ true
  begun_if_out id k found whole out no_cause = elim stand.offer [
    | inl offered ↦ elim offered [
      | inl replied ↦ absurd (let no : None ≡ Some replied.cause = sym caused ∙ replied.has_cause in cc)
      | inr passed ↦ (
          let it = serving.given passed.o passed.given.is_opened in
          begun_by it.head (subst (λ n. HasHead (items known n t) it.head) passed.given.is_given it.has_head))
    ]
    | inr none ↦ absurd (let no : false ≡ true = ap (λ (d : Delivery). is_some d.head) (sym none.nothing_read) ∙ read_out in cc)
  ]
    where
      active : is_active id t ≡ true
      active = sym (offering.lives id) ∙ ap is_some found

      held : IsHeld known t id k
      held = subst (IsKeptIf known t id) found (offering.kept id active)

      stand : standing.Stands known t id k.box
      stand = held.stands whole

      row : rows.find s.ledger.book.rows id ≡ stream_of known t id
      row = live_told known t s.ledger.book told id active

      read_out : is_some stand.read.head ≡ true
      read_out = sym (out_by_read (items_on id (sent t)) stand.read stand.reads) ∙ sym (ap (λ (c : Conducted). c.head_out) row) ∙ out

      caused : (course known id t).cause ≡ None
      caused = sym (ap (λ (c : Conducted). c.outline.cause) row) ∙ no_cause

      serving : serves.Stands known t s.requests
      serving = sound known run s (record { knows = known_so setup (conducts run); answered = so known refl (known_so setup (conducts run)); stands = stands })

      some : (xs : List Item) (head : List Field) → HasHead xs head → is_begun xs ≡ true
      some [] head has = absurd has
      some (x ∷ xs) head has = refl

      begun_by : (head : List Field) → HasHead (items known id t) head → (rows.find s.ledger.book.rows id).outline.begun ≡ true
      begun_by head has = ap (λ (c : Conducted). c.outline.begun) row ∙ some (items known id t) head has
