-- What comes of an idle connection ends that: but for no octets, which leave it as it is.
use Rattle.std.proofs.Common.{◌≡◌, ℕ, Bool, true, false, ◌&&◌, ◌==◌, List, [], ◌∷◌, ◌++◌, refl, sym, ap, ◌∙◌, subst, append-nil, if◌then◌else◌}
use Rattle.std.proofs.lemmas.Bool.{eq-eqb}
use Rattle.model.specs.Responses.{IsComplete}
use Rattle.model.specs.Logs.{Event}
use Rattle.model.specs.Logs.Event.{Up, UpEnd}
use Rattle.model.specs.Tapes.{Entry}
use Rattle.model.specs.Tapes.Entry.{Happened}
use Rattle.model.specs.Openings.{exchanges, exchange_on, given}
use Rattle.model.specs.Available.{heard_by, ended_by}
use Rattle.model.specs.Known.{Known}
use Rattle.model.specs.Offers.{is_to_head}
use Rattle.model.specs.Idle.{is_asked_for_head, IsAllHeard, IsTooLong, LeavesOpen, MayBeKept, IsIdle}
use Rattle.model.proofs.ItemLaws.{items_stay}
use Rattle.model.proofs.PastLaws.{whole_past, heard_own}
use Rattle.theory_requests.specs.Pool.{Verdict}
use Rattle.theory_requests.specs.Lines.Heard.{Keepable, Finished}

module _ (known : Known) (t : List Entry) (k : ℕ) (i : IsIdle known t k) where
  abbrev before : List ℕ
  before = heard_by (exchange_on k t) t

  abbrev to_head : Bool
  to_head = is_asked_for_head known (exchange_on k t) t

  asked_same : (event : Event) → is_asked_for_head known (exchange_on k t) (Happened event ∷ t) ≡ to_head
  asked_same event = ap is_to_head (sym (items_stay known (exchange_on k t).stream t (Happened event) refl))

  -- it was whole, and it is
  still_whole : (event : Event) (more : List ℕ) (ended : Bool) → heard_by (exchange_on k t) (Happened event ∷ t) ≡ before ++ more → ended_by (exchange_on k t) (Happened event ∷ t) ≡ ended → IsAllHeard known (Happened event ∷ t) (exchange_on k t)
  still_whole event more ended heard ends =
      subst (λ b. IsComplete (heard_by (exchange_on k t) (Happened event ∷ t)) (ended_by (exchange_on k t) (Happened event ∷ t)) b) (sym (asked_same event))
      (subst (λ b. IsComplete (heard_by (exchange_on k t) (Happened event ∷ t)) b to_head) (sym ends)
      (subst (λ x. IsComplete x ended to_head) (sym heard)
      (i.kept.answered.response, whole_past before more ended to_head i.kept.answered.response i.kept.answered.reads)))

  -- octets stand behind it
  pub hears_more : (octet : ℕ) (octets : List ℕ) → Verdict known (Happened (Up k (octet ∷ octets)) ∷ t) (exchange_on k t) Finished
  hears_more octet octets = (still_whole event (octet ∷ octets) false heard i.kept.not_ended, not_kept)
    where
      event : Event
      event = Up k (octet ∷ octets)

      heard : heard_by (exchange_on k t) (Happened (Up k (octet ∷ octets)) ∷ t) ≡ before ++ octet ∷ octets
      heard = heard_own k (octet ∷ octets) t

      not_kept : MayBeKept known (Happened (Up k (octet ∷ octets)) ∷ t) (exchange_on k t) → ⊥
      not_kept m =
          m.answered.no_more before (record { next = octet; rest = octets; is = heard })
          (subst (λ b. IsComplete before false b) (sym (asked_same event)) (i.kept.answered.response, i.kept.answered.reads))

  -- its upstream ends the connection
  pub hears_end : Verdict known (Happened (UpEnd k) ∷ t) (exchange_on k t) Finished
  hears_end = (still_whole (UpEnd k) [] true (sym (append-nil before)) ended, λ m. let clash : true ≡ false = sym ended ∙ m.not_ended in cc)
    where
      ended : ended_by (exchange_on k t) (Happened (UpEnd k) ∷ t) ≡ true
      ended =
          let s = given k (exchanges t) in
          ap (λ b. if b && s == s then true else ended_by (exchange_on k t) t) (eq-eqb k k refl) ∙ ap (λ b. if b then true else ended_by (exchange_on k t) t) (eq-eqb s s refl)

  -- nothing comes of it
  pub hears_none : Verdict known (Happened (Up k []) ∷ t) (exchange_on k t) Keepable
  hears_none =
      let heard : heard_by (exchange_on k t) (Happened (Up k []) ∷ t) ≡ before = heard_own k [] t ∙ append-nil before in record {
        keeps = i.kept.keeps;
        goes_on = i.kept.goes_on;
        request = i.kept.request;
        sent = i.kept.sent;
        answered = subst (λ b. LeavesOpen (heard_by (exchange_on k t) (Happened (Up k []) ∷ t)) b) (sym (asked_same (Up k []))) (subst (λ x. LeavesOpen x to_head) (sym heard) i.kept.answered);
        fits = λ long. i.kept.fits (subst (λ b. IsTooLong known before b) (asked_same (Up k [])) (subst (λ x. IsTooLong known x (is_asked_for_head known (exchange_on k t) (Happened (Up k []) ∷ t))) heard long));
        not_ended = i.kept.not_ended;
      }
