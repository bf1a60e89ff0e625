-- The rule by states alone leads to the one by the tape, where what is read is right and what is told is news.
use Rattle.std.proofs.Common.{◌≡◌, ℕ, zero, suc, ◌<◌, Bool, true, false, not, ◌==◌, ◌&&◌, ◌||◌, List, [], ◌∷◌, ◌++◌, refl, sym, ap, ◌∙◌, arith, if◌then◌else◌}
use Rattle.std.specs.Prelude.{Option, Some, None, is_some}
use Rattle.std.specs.List.{list_any}
use Rattle.std.proofs.lemmas.Bool.{and_parts, and_from}
use Rattle.model.specs.Messages.{Item}
use Rattle.model.specs.Logs.{Event}
use Rattle.model.specs.Tapes.{Noted, Entry, came, sent}
use Rattle.model.specs.Tapes.Entry.{Came, Happened}
use Rattle.model.specs.Decoding.{completed}
use Rattle.model.specs.Streams.{items_of}
use Rattle.model.specs.Openings.{Opened, exchanges, given}
use Rattle.model.specs.Available.{items_on}
use Rattle.model.specs.Setup.{own_window}
use Rattle.model.specs.Known.{Known, fails_behind}
use Rattle.model.specs.Causes.{Cause}
use Rattle.model.specs.Causes.Cause.{BadAnswer}
use Rattle.model.specs.ErrorTable.{fault_with}
use Rattle.model.specs.Lifetimes.{opened, opens_by, is_opened, is_over, is_active, is_ended_by_client, is_ended_by_gateway, is_reset_by_client, is_reset_by_gateway, is_drained}
use Rattle.model.specs.Courses.{course, carried, items, about, upstream_of, cause_of, interrupts, first_of_both}
use Rattle.model.specs.Offers.{IsGiven}
use Rattle.model.proofs.ExchangeLaws.{given_in}
use Rattle.model.proofs.OpenedLaws.{opens_own, opens_new, none_zero}
use Rattle.theory_responses.specs.State.{State, find}
use Rattle.theory_responses.specs.Policy.{Neighbours, IsOf, IsNew, IsCaused, LeavesCause, IsOpened, MayTake}
use Rattle.theory_responses.specs.Sight.{Sight, IsRightOf}
use Rattle.theory_responses.specs.Rule.{found_by, change_by, IsEventOf}
use Rattle.theory_responses.proofs.Entries.{cause_stays, out_stays, heads_stay, out_with_cause, heads_with_cause, none_unless_fails}
use Rattle.theory_responses.proofs.Offering.{Offering, caused_now}
use Rattle.theory_responses.proofs.Moving.{caused_by_failure}

-- Beside the invariant of the outboxes: what the others' rules no longer have to say.
pub record Placed (known : Known) (t : List Entry) (s : State) : Type 0 where
  pub offering : Offering known t s
  pub neighbours : Neighbours known t
  -- a stream that wasn't opened was sent nothing, and no connection was given to it
  pub unsent : (id : ℕ) → is_opened id t ≡ false → items_on id (sent t) ≡ []
  pub not_given : (id : ℕ) → is_opened id t ≡ false → (o : Opened) → IsGiven t id o → ⊥

-- ---- items stay

grown_some : (b : Bool) (xs ys : List Item) → (xs ≡ [] → ⊥) → (if b then xs else xs ++ ys) ≡ [] → ⊥
grown_some true xs ys some e = some e
grown_some false [] ys some e = some refl
grown_some false (x ∷ xs) ys some e = cc

-- a stream that has items keeps them
pub items_kept : (known : Known) (stream : ℕ) (t : List Entry) (e : Entry) → (items known stream t ≡ [] → ⊥) → items known stream (e ∷ t) ≡ [] → ⊥
items_kept known stream t e =
    grown_some ((course known stream t).over || interrupts stream e (fault_with (own_window known.setup) (carried (course known stream t)) t e) (cause_of known stream t e)) (items known stream t) (items_of stream t e)

-- ---- lives

-- an active stream was opened
opened_active : (id : ℕ) (t : List Entry) → is_active id t ≡ true → is_opened id t ≡ true
opened_active id t on = (and_parts (is_opened id t) (not (is_over id t)) on).0

-- so it isn't one that wasn't
pub not_unopened : (id other : ℕ) (t : List Entry) → is_active id t ≡ true → is_opened other t ≡ false → id ≡ other → ⊥
not_unopened id other t on out same = let clash : true ≡ false = sym (opened_active id t on) ∙ ap (λ n. is_opened n t) same ∙ out in cc

-- the id of an active stream is above 0
pub above_zero : (id : ℕ) (t : List Entry) → is_active id t ≡ true → 0 < id
above_zero id t on = by id refl
  where
    by : (n : ℕ) → id ≡ n → 0 < id
    by zero e = absurd (not_unopened id 0 t on (none_zero t) e)
    by (suc n) e = omega (arith, e)

-- what ended a stream before a frame still does
over_before : (x y r c e g : Bool) → not (r || (x || c) || (y || e) && g) ≡ true → not (r || c || e && g) ≡ true
over_before x y true c e g h = h
over_before true y false c e g h = let clash : false ≡ true = h in cc
over_before false y false true e g h = h
over_before false true false false true g h = h
over_before false true false false false g h = refl
over_before false false false false e g h = h

module _ (t : List Entry) (noted : Noted) where
  abbrev u : List Entry
  u = Came noted ∷ t

  abbrev opens_it : Bool
  opens_it = opens_by (is_drained t) (opened t) (completed (came t) noted.frame) noted.note

  -- a stream that isn't opened behind the frame wasn't before
  pub unopened_before : (id : ℕ) → is_opened id u ≡ false → is_opened id t ≡ false
  unopened_before id = by opens_it
    where
      by : (b : Bool) → list_any (λ other. other == id) (if b then noted.frame.id ∷ opened t else opened t) ≡ false → is_opened id t ≡ false
      by true out = second (noted.frame.id == id) (is_opened id t) out
        where
          second : (b c : Bool) → (b || c) ≡ false → c ≡ false
          second true c e = absurd (let no : true ≡ false = e in cc)
          second false c e = e
      by false out = out

  -- A stream that is active behind the frame, and wasn't before, is opened by it.
  pub opened_by_it : is_active noted.frame.id t ≡ false → is_active noted.frame.id u ≡ true → opens_it ≡ true
  opened_by_it off on = by opens_it refl
    where
      id : ℕ
      id = noted.frame.id

      parts : (is_opened id u ≡ true) × (not (is_over id u) ≡ true)
      parts = and_parts (is_opened id u) (not (is_over id u)) on

      going : not (is_over id t) ≡ true
      going = over_before _ _ (is_reset_by_gateway id t) (is_reset_by_client id t) (is_ended_by_client id t) (is_ended_by_gateway id t) parts.1

      by : (b : Bool) → opens_it ≡ b → opens_it ≡ true
      by true e = e
      by false e =
          let there : is_opened id t ≡ true = sym (ap (λ b. list_any (λ other. other == id) (if b then id ∷ opened t else opened t)) e) ∙ parts.0 in
          let was : is_active id t ≡ true = and_from (is_opened id t) (not (is_over id t)) there going in
          let clash : true ≡ false = sym was ∙ off in
          cc

-- ---- causes

-- A course's cause that stays leaves what was out when it came.
leaves : (known : Known) (t : List Entry) (noted : Noted) → (course known noted.frame.id t).cause ≡ (course known noted.frame.id (Came noted ∷ t)).cause → LeavesCause known t noted
leaves known t noted same = by (course known id t).cause refl
  where
    id : ℕ
    id = noted.frame.id

    u : List Entry
    u = Came noted ∷ t

    by : (c : Option Cause) → (course known id t).cause ≡ c → LeavesCause known t noted
    by None none =
        let new : cause_of known id t (Came noted) ≡ None = sym (ap (λ c. first_of_both c (cause_of known id t (Came noted))) none) ∙ sym same ∙ none in
        record { cause = same; out = out_stays known id t (Came noted) new; heads = heads_stay known id t (Came noted) new }
    by (Some found) is = record { cause = same; out = out_with_cause known id t (Came noted) found is; heads = heads_with_cause known id t (Came noted) found is }

-- The cause that is read to have come is what the tape says.
caused_by : (known : Known) (t : List Entry) (noted : Noted) (before behind : Option Cause) → before ≡ (course known noted.frame.id t).cause → behind ≡ (course known noted.frame.id (Came noted ∷ t)).cause → IsCaused known t noted (found_by before behind)
caused_by known t noted None None was is = leaves known t noted (sym was ∙ is)
caused_by known t noted None (Some found) was is = record { no_cause = sym was; now = sym is }
caused_by known t noted (Some found) behind was is = leaves known t noted with_cause
  where
    with_cause : (course known noted.frame.id t).cause ≡ (course known noted.frame.id (Came noted ∷ t)).cause
    with_cause = sym was ∙ ap (λ c. first_of_both c (cause_of known noted.frame.id t (Came noted))) was

-- ---- a frame of the client

-- no record of a stream that isn't active
none_there : {A : Type 0} (o : Option A) → is_some o ≡ false → o ≡ None
none_there None e = refl
none_there (Some x) e = let clash : true ≡ false = e in cc

module _ (known : Known) (t : List Entry) (s : State) (p : Placed known t s) (noted : Noted) (before behind : Sight) (right : IsRightOf known t before) (goes_on : before.ends ≡ false) (now : IsRightOf known (Came noted ∷ t) behind) where
  -- a stream that opens is new
  is_new : is_active noted.frame.id t ≡ false → is_active noted.frame.id (Came noted ∷ t) ≡ true → IsNew known t s noted.frame.id
  is_new off on =
      let by = opened_by_it t noted off on in
      let out = opens_new t noted by in
      record {
        not_kept = none_there (find noted.frame.id s.kept) (p.offering.lives noted.frame.id ∙ off);
        unsent = p.unsent noted.frame.id out;
        not_given = p.not_given noted.frame.id out;
        no_cause = (right.new goes_on noted.frame.id (opens_own t noted by)).1;
      }

  -- what is read of its life is what the tape says
  opened_by : (a b : Bool) → a ≡ is_active noted.frame.id t → b ≡ is_active noted.frame.id (Came noted ∷ t) → IsOpened known t s noted (not a && b) (a && not b)
  opened_by true true was is = sym is ∙ ap (λ x. x && true) was
  opened_by true false was is = sym is ∙ ap (λ x. x && false) was
  opened_by false false was is = sym is ∙ ap (λ x. x && true) was
  opened_by false true was is = (is_new (sym was) (sym is), refl, sym is)

  -- and so is what is read of its cause
  cause_read : is_active noted.frame.id (Came noted ∷ t) ≡ true → before.cause noted.frame.id ≡ (course known noted.frame.id t).cause
  cause_read on = by (is_active noted.frame.id t) refl
    where
      by : (a : Bool) → is_active noted.frame.id t ≡ a → before.cause noted.frame.id ≡ (course known noted.frame.id t).cause
      by true was = right.cause noted.frame.id was
      by false off = let new = right.new goes_on noted.frame.id (opens_own t noted (opened_by_it t noted off on)) in new.0 ∙ sym new.1

  -- What the frame changes is what the tape says.
  pub takes_by : MayTake known t s noted (change_by before behind noted.frame.id)
  takes_by = record {
    opened = opened_by (before.active noted.frame.id) (behind.active noted.frame.id) (right.active noted.frame.id) (now.active noted.frame.id);
    caused = λ on. caused_by known t noted (before.cause noted.frame.id) (behind.cause noted.frame.id) (cause_read on) (now.cause noted.frame.id on);
  }

-- ---- events

module _ (known : Known) (t : List Entry) (s : State) (p : Placed known t s) (event : Event) (stream : ℕ) (before behind : Sight) (right : IsRightOf known t before) (now : IsRightOf known (Happened event ∷ t) behind) (of : IsEventOf before event stream) where
  active : is_active stream t ≡ true
  active = sym (right.active stream) ∙ of.active

  -- the event is of the stream's connection
  pub of_stream : IsOf known t event stream
  of_stream = record {
    given = record { is_opened = given_in (upstream_of event) (exchanges t) some; is_given = about_is };
    no_cause = sym (right.cause stream active) ∙ of.no_cause;
    counted = above_zero stream t active;
  }
    where
      about_is : about t (Happened event) ≡ stream
      about_is = sym (ap (λ os. given (upstream_of event) os) right.given) ∙ of.is_given

      some : about t (Happened event) ≡ 0 → ⊥
      some none = let above = above_zero stream t active in let zero_is : stream ≡ 0 = sym about_is ∙ none in omega (arith, above, zero_is)

  -- where no cause is read behind it, no answer failed
  pub sound : behind.cause stream ≡ None → fails_behind known t ≡ false
  sound none = by (fails_behind known t) refl
    where
      by : (b : Bool) → fails_behind known t ≡ b → b ≡ false
      by false e = refl
      by true fails =
          let new = caused_by_failure known t event of_stream fails in
          let clash : ◌≡◌ {A = Option Cause} None (Some BadAnswer) = sym none ∙ now.cause stream active ∙ caused_now known stream t (Happened event) BadAnswer of_stream.no_cause new in
          cc

  -- where one is, it did
  pub fails : behind.cause stream ≡ Some BadAnswer → fails_behind known t ≡ true
  fails found = by (fails_behind known t) refl
    where
      by : (b : Bool) → fails_behind known t ≡ b → b ≡ true
      by true e = refl
      by false holds =
          let same = cause_stays known stream t (Happened event) (none_unless_fails known stream t event holds) in
          let clash : ◌≡◌ {A = Option Cause} None (Some BadAnswer) = sym of_stream.no_cause ∙ same ∙ sym (now.cause stream active) ∙ found in
          cc
