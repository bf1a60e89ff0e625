-- Which connections are done with, behind a change that is about one stream.
use Rattle.std.proofs.Common.{◌≡◌, ℕ, suc, ◌<◌, ◌≤◌, Bool, true, false, not, ◌==◌, ◌||◌, ◌&&◌, List, [], ◌∷◌, length, Option, Some, None, refl, sym, ◌∙◌, ap, subst, inl, inr, if◌then◌else◌, arith}
use Rattle.std.specs.Prelude.{is_none}
use Rattle.std.specs.List.{list_any}
use Rattle.std.proofs.lemmas.Bool.{eq-eqb, eqb-true, ne_eqb, cases_Bool, and_parts}
use Rattle.std.proofs.lemmas.Bool.Decides.{eqb_tells}
use Rattle.model.specs.Setup.{Setup}
use Rattle.model.specs.Causes.{Cause}
use Rattle.model.specs.Tapes.{Noted}
use Rattle.model.specs.Tapes.Entry.{Came}
use Rattle.model.specs.ErrorClause.{is_fatal}
use Rattle.theory_errors.specs.Summary.{Stream as Kept}
use Rattle.theory_errors.specs.Judging.{is_over_in}
use Rattle.theory_errors.specs.Owing.{fault_in}
use Rattle.theory_errors.specs.Rows.{Row, Slot, kept_in, slot_of}
use Rattle.theory_errors.specs.Rows.{find as find_row}
use Rattle.theory_errors.specs.Rows.Slot.{Over}
use Rattle.theory_errors.specs.Book.{Book, summary_in, book_after}
use Rattle.theory_errors.specs.Tidy.{AreKept}
use Rattle.theory_requests.specs.Lines.{Answer, Line, find, without, is_idle}
use Rattle.theory_requests.specs.Lines.Answer.{Pending, Idle, Done}
use Rattle.theory_requests.specs.Told.{Told}
use Rattle.theory_requests.specs.Rule.{is_done, is_done_by}
use Rattle.streams.specs.Asked.{has, is_active, changed}
use Rattle.streams.specs.Sending.{is_served}
use Rattle.upstream_connections.specs.Connections.{Connection, number_of, works_for, lives, AreBelow}
use Rattle.refinement.specs.View.{View}
use Rattle.refinement.specs.Rest.{told_view, NoneDone}
use Rattle.refinement.proofs.Beside.{others_stay, served_stays}
use Rattle.refinement.proofs.Lives.{IsDone}
use Rattle.event_handlers.specs.Closings.{told_but, NoneDoneBut, IsAbout}
use Rattle.event_handlers.proofs.flushing.Rows.{not_flip, found_own, found_other, active_own, active_other}

-- ---- tests of which none of some holds

pub or_both : (a b : Bool) → (a || b) ≡ false → (a ≡ false) × (b ≡ false)
or_both false false is = (refl, refl)
or_both false true is = cc
or_both true b is = cc

pub or_none : (a b : Bool) → a ≡ false → b ≡ false → (a || b) ≡ false
or_none false false a b = refl
or_none false true a b = cc
or_none true b is other = cc

-- where each that fails the one fails the other, none passes this either
none_any : {A : Type 0} (p q : A → Bool) → ((x : A) → p x ≡ false → q x ≡ false) → (xs : List A) → list_any p xs ≡ false → list_any q xs ≡ false
none_any p q less [] none = refl
none_any p q less (x ∷ xs) none =
    let parts = or_both (p x) (list_any p xs) none in or_none (q x) (list_any q xs) (less x parts.0) (none_any p q less xs parts.1)

-- a connection isn't done with where its stream is served as before
still_on : (before behind : Told) (l : Line) → (before.served l.stream ≡ true → behind.served l.stream ≡ true) → is_done before l ≡ false → is_done behind l ≡ false
still_on before behind l served on = by l.answer on
  where
    flip : (b : Bool) → not b ≡ false → b ≡ true
    flip true is = refl
    flip false is = cc

    by : (a : Answer) → is_done_by a (before.served l.stream) ≡ false → is_done_by a (behind.served l.stream) ≡ false
    by Pending on = ap not (served (flip (before.served l.stream) on))
    by Idle on = refl
    by Done on = let no : true ≡ false = on in cc

or_right : (a b : Bool) → b ≡ true → (a || b) ≡ true
or_right true b is = refl
or_right false b is = is

-- ---- a change about one stream

-- None but those of the stream is done with behind it.
pub about_but : (id : ℕ) (old new : View) → IsAbout id old new → NoneDone old → NoneDoneBut id new
about_but id old new about none =
    ap (λ (ls : List Line). list_any (is_done (told_but id new)) ls) about.live
    ∙ none_any (is_done (told_view old)) (is_done (told_but id new)) (λ l. still_on (told_view old) (told_but id new) l (served l.stream)) (lives old.upstreams.live) none
  where
    served : (stream : ℕ) → is_served old.inbound.rows stream ≡ true → (id == stream || is_served new.inbound.rows stream) ≡ true
    served stream was = elim (cases_Bool (id == stream)) [
      | inl own ↦ ap (λ b. b || is_served new.inbound.rows stream) own
      | inr apart ↦ or_right (id == stream) (is_served new.inbound.rows stream) (about.served stream apart ∙ was)
    ]

pub but_one : (id : ℕ) (kept : View) → NoneDone kept → NoneDoneBut id kept
but_one id kept none = about_but id kept kept (record { served = λ other apart. refl; live = refl }) none

-- What is told of streams stays: so does which are done with.
pub but_stays : (id : ℕ) (old new : View) → ((stream : ℕ) → is_served new.inbound.rows stream ≡ is_served old.inbound.rows stream) → lives new.upstreams.live ≡ lives old.upstreams.live → NoneDoneBut id old → NoneDoneBut id new
but_stays id old new same live none =
    ap (λ (ls : List Line). list_any (is_done (told_but id new)) ls) live
    ∙ none_any (is_done (told_but id old)) (is_done (told_but id new))
    (λ l. still_on (told_but id old) (told_but id new) l (λ was. ap (λ b. id == l.stream || b) (same l.stream) ∙ was)) (lives old.upstreams.live) none

pub none_stays : (old new : View) → ((stream : ℕ) → is_served new.inbound.rows stream ≡ is_served old.inbound.rows stream) → lives new.upstreams.live ≡ lives old.upstreams.live → NoneDone old → NoneDone new
none_stays old new same live none =
    ap (λ (ls : List Line). list_any (is_done (told_view new)) ls) live
    ∙ none_any (is_done (told_view old)) (is_done (told_view new)) (λ l. still_on (told_view old) (told_view new) l (λ was. same l.stream ∙ was)) (lives old.upstreams.live) none

-- ---- where the stream is served, or has no connection, none is done with

pub none_served : (id : ℕ) (kept : View) → (told_view kept).served id ≡ true → NoneDoneBut id kept → NoneDone kept
none_served id kept on none =
    none_any (is_done (told_but id kept)) (is_done (told_view kept)) (λ l. still_on (told_but id kept) (told_view kept) l (served l.stream)) (lives kept.upstreams.live) none
  where
    served : (stream : ℕ) → (id == stream || (told_view kept).served stream) ≡ true → (told_view kept).served stream ≡ true
    served stream either = elim (eqb_tells id stream) [
      | inl own ↦ ap (λ n. (told_view kept).served n) (sym own.1) ∙ on
      | inr apart ↦ sym (ap (λ b. b || (told_view kept).served stream) apart.0) ∙ either
    ]

-- one that works for another stream, or is idle, is done with just where it was
beside : (id : ℕ) (kept : View) (c : Connection) → (works_for c == suc id) ≡ false → is_done (told_but id kept) c.live ≡ false → is_done (told_view kept) c.live ≡ false
beside id kept c apart none = by c.live.answer refl none
  where
    other : is_idle c.live.answer ≡ false → (id == c.live.stream) ≡ false
    other working = ne_eqb id c.live.stream (λ same.
        let clash : true ≡ false = sym (eq-eqb (works_for c) (suc id) (ap (λ b. if b then 0 else suc c.live.stream) working ∙ ap suc (sym same))) ∙ apart in cc)

    by : (a : Answer) → c.live.answer ≡ a → is_done_by a (id == c.live.stream || (told_view kept).served c.live.stream) ≡ false → is_done_by a ((told_view kept).served c.live.stream) ≡ false
    by Pending is off = sym (ap (λ b. not (b || (told_view kept).served c.live.stream)) (other (ap is_idle is))) ∙ off
    by Idle is off = refl
    by Done is off = off

-- none of these works for the stream
module _ (id : ℕ) (kept : View) where
  none_of : (cs : List Connection) → find works_for (suc id) cs ≡ None → list_any (is_done (told_but id kept)) (lives cs) ≡ false → list_any (is_done (told_view kept)) (lives cs) ≡ false
  none_of [] absent none = refl
  none_of (c ∷ cs) absent none = by (works_for c == suc id) refl absent (none_of cs)
    where
      parts : (is_done (told_but id kept) c.live ≡ false) × (list_any (is_done (told_but id kept)) (lives cs) ≡ false)
      parts = or_both (is_done (told_but id kept) c.live) (list_any (is_done (told_but id kept)) (lives cs)) none

      by : (b : Bool) → (works_for c == suc id) ≡ b → (if b then Some c else find works_for (suc id) cs) ≡ None
          → (find works_for (suc id) cs ≡ None → list_any (is_done (told_but id kept)) (lives cs) ≡ false → list_any (is_done (told_view kept)) (lives cs) ≡ false) → list_any (is_done (told_view kept)) (lives (c ∷ cs)) ≡ false
      by true own found more = let clash : ◌≡◌ {A = Option Connection} (Some c) None = found in cc
      by false apart rest more = or_none (is_done (told_view kept) c.live) (list_any (is_done (told_view kept)) (lives cs)) (beside id kept c apart parts.0) (more rest parts.1)

  pub none_open : find works_for (suc id) kept.upstreams.live ≡ None → NoneDoneBut id kept → NoneDone kept
  none_open absent none = none_of kept.upstreams.live absent none

-- ---- a connection that is closed

-- none is done with that wasn't
closed_none : (p : Line → Bool) (k : ℕ) (cs : List Connection) → list_any p (lives cs) ≡ false → list_any p (lives (without number_of k cs)) ≡ false
closed_none p k [] none = refl
closed_none p k (c ∷ cs) none = by (number_of c == k) (closed_none p k cs parts.1)
  where
    parts : (p c.live ≡ false) × (list_any p (lives cs) ≡ false)
    parts = or_both (p c.live) (list_any p (lives cs)) none

    by : (b : Bool) → list_any p (lives (without number_of k cs)) ≡ false → list_any p (lives (if b then without number_of k cs else c ∷ without number_of k cs)) ≡ false
    by true rest = rest
    by false rest = or_none (p c.live) (list_any p (lives (without number_of k cs))) parts.0 rest

pub closed_but : (id k : ℕ) (kept : View) → NoneDoneBut id kept → list_any (is_done (told_but id kept)) (lives (without number_of k kept.upstreams.live)) ≡ false
closed_but id k kept none = closed_none (is_done (told_but id kept)) k kept.upstreams.live none

pub closed_still : (k : ℕ) (kept : View) → NoneDone kept → list_any (is_done (told_view kept)) (lives (without number_of k kept.upstreams.live)) ≡ false
closed_still k kept none = closed_none (is_done (told_view kept)) k kept.upstreams.live none

-- no more are open without one
no_more : (k : ℕ) (cs : List Connection) → length (without number_of k cs) ≤ length cs
no_more k [] = omega arith
no_more k (c ∷ cs) = by (number_of c == k) (no_more k cs)
  where
    by : (b : Bool) → length (without number_of k cs) ≤ length cs → length (if b then without number_of k cs else c ∷ without number_of k cs) ≤ suc (length cs)
    by true le = omega (arith, le)
    by false le = omega (arith, le)

-- one fewer is open then, where one of the stream was
pub fewer : (id : ℕ) (cs : List Connection) (c : Connection) → find works_for (suc id) cs ≡ Some c → length (without number_of c.live.k cs) < length cs
fewer id [] c found = let clash : ◌≡◌ {A = Option Connection} None (Some c) = found in cc
fewer id (x ∷ cs) c found = by (x.live.k == c.live.k) refl (fewer id cs c)
  where
    later : (b : Bool) → (if b then Some x else find works_for (suc id) cs) ≡ Some c → (x.live.k == c.live.k) ≡ false → find works_for (suc id) cs ≡ Some c
    later true is apart = let same : x ≡ c = cc in absurd (let clash : true ≡ false = sym (eq-eqb x.live.k c.live.k (ap (λ (y : Connection). y.live.k) same)) ∙ apart in cc)
    later false is apart = is

    by : (b : Bool) → (x.live.k == c.live.k) ≡ b → (find works_for (suc id) cs ≡ Some c → length (without number_of c.live.k cs) < length cs) → length (if x.live.k == c.live.k then without number_of c.live.k cs else x ∷ without number_of c.live.k cs) < suc (length cs)
    by true own more = let le = no_more c.live.k cs in subst (λ b. length (if b then without number_of c.live.k cs else x ∷ without number_of c.live.k cs) < suc (length cs)) (sym own) (omega (arith, le))
    by false apart more =
        let less = more (later (works_for x == suc id) found apart) in
        subst (λ b. length (if b then without number_of c.live.k cs else x ∷ without number_of c.live.k cs) < suc (length cs)) (sym apart) (omega (arith, less))

-- ---- a stream that isn't served

-- a connection that works for a stream isn't idle
working : (c : Connection) (id : ℕ) → works_for c ≡ suc id → (is_idle c.live.answer ≡ false) × (c.live.stream ≡ id)
working c id is = by (is_idle c.live.answer) refl is
  where
    by : (b : Bool) → is_idle c.live.answer ≡ b → (if b then 0 else suc c.live.stream) ≡ suc id → (is_idle c.live.answer ≡ false) × (c.live.stream ≡ id)
    by true idle none = absurd (omega (arith, none))
    by false on same = (on, omega (arith, same))

done_unless : (a : Answer) → is_idle a ≡ false → is_done_by a false ≡ true
done_unless Pending on = refl
done_unless Idle on = let no : true ≡ false = on in cc
done_unless Done on = refl

-- the number of its newest connection is below
found_below : (top id : ℕ) (cs : List Connection) (c : Connection) → AreBelow top cs → find works_for (suc id) cs ≡ Some c → c.live.k < top
found_below top id [] c below found = let clash : ◌≡◌ {A = Option Connection} None (Some c) = found in cc
found_below top id (x ∷ cs) c below found = by (works_for x == suc id) found (found_below x.live.k id cs c below.1)
  where
    by : (b : Bool) → (if b then Some x else find works_for (suc id) cs) ≡ Some c → (find works_for (suc id) cs ≡ Some c → c.live.k < x.live.k) → c.live.k < top
    by true is more = let same : x ≡ c = cc in subst (λ (y : Connection). y.live.k < top) same below.0
    by false is more = let less = more is in let first = below.0 in omega (arith, less, first)

-- Its newest connection is done with.
pub unserved_done : (told : Told) (top id : ℕ) (cs : List Connection) (c : Connection) → told.served id ≡ false → AreBelow top cs → find works_for (suc id) cs ≡ Some c → IsDone told cs c.live.k
unserved_done told top id [] c off below found = let clash : ◌≡◌ {A = Option Connection} None (Some c) = found in cc
unserved_done told top id (x ∷ cs) c off below found = by (works_for x == suc id) refl found (unserved_done told x.live.k id cs c off below.1)
  where
    by : (b : Bool) → (works_for x == suc id) ≡ b → (if b then Some x else find works_for (suc id) cs) ≡ Some c → (find works_for (suc id) cs ≡ Some c → IsDone told cs c.live.k) → IsDone told (x ∷ cs) c.live.k
    by true own is more =
        let same : x ≡ c = cc in
        record {
          connection = x;
          found = ap (λ b. if b then Some x else find number_of c.live.k cs) (eq-eqb x.live.k c.live.k (ap (λ (y : Connection). y.live.k) same));
          done = let its = working x id (eqb-true (works_for x) (suc id) own) in ap (λ n. is_done_by x.live.answer (told.served n)) its.1 ∙ ap (is_done_by x.live.answer) off ∙ done_unless x.live.answer its.0;
        }
    by false apart rest more =
        let one = more rest in
        let less = found_below x.live.k id cs c below.1 rest in
        record {
          connection = one.connection;
          found = ap (λ b. if b then Some x else find number_of c.live.k cs) (ne_eqb x.live.k c.live.k (λ same. omega (arith, less, same))) ∙ one.found;
          done = one.done;
        }

-- ---- rows of which one changes

served_other : (id : ℕ) (slot : Slot) (rows : List Row) (other : ℕ) → (id == other) ≡ false → is_served (changed id slot rows) other ≡ is_served rows other
served_other id slot rows other apart =
    ap (λ b. b && is_none (find_row (changed id slot rows) other).outline.cause) (active_other id slot rows other apart)
    ∙ ap (λ (k : Kept). is_active rows other && is_none k.outline.cause) (found_other id slot rows other apart)

pub about_then : (id : ℕ) (a b c : View) → IsAbout id a b → IsAbout id b c → IsAbout id a c
about_then id a b c first later = record { served = λ other apart. later.served other apart ∙ first.served other apart; live = later.live ∙ first.live }

-- The row of the stream changes, and no connection does.
pub about_changed : (id : ℕ) (slot : Slot) (old new : View) → new.inbound.rows ≡ changed id slot old.inbound.rows → lives new.upstreams.live ≡ lives old.upstreams.live → IsAbout id old new
about_changed id slot old new rows live = record { served = λ other apart. ap (λ (rs : List Row). is_served rs other) rows ∙ served_other id slot old.inbound.rows other apart; live = live }

-- What is kept of an active stream changes, but not whether it is over, nor why the gateway replies to it: the same streams are served.
pub served_same : (id : ℕ) (kept : Kept) (rows : List Row) → is_active rows id ≡ true → is_over_in kept ≡ is_over_in (find_row rows id) → kept.outline.cause ≡ (find_row rows id).outline.cause → (other : ℕ) → is_served (changed id (slot_of kept) rows) other ≡ is_served rows other
served_same id kept rows active over cause other = elim (eqb_tells id other) [
  | inl own ↦ subst (λ n. is_served (changed id (slot_of kept) rows) n ≡ is_served rows n) own.1 here
  | inr apart ↦ served_other id (slot_of kept) rows other apart.0
]
  where
    parts : (has rows id ≡ true) × (not (is_over_in (find_row rows id)) ≡ true)
    parts = and_parts (has rows id) (not (is_over_in (find_row rows id))) active

    live : slot_of kept ≡ Slot.Live kept
    live = ap (λ b. if b then Over kept.reset_by_gateway else Slot.Live kept) (over ∙ not_flip (is_over_in (find_row rows id)) parts.1)

    found : find_row (changed id (slot_of kept) rows) id ≡ kept
    found = found_own id (slot_of kept) rows parts.0 ∙ ap kept_in live

    here : is_served (changed id (slot_of kept) rows) id ≡ is_served rows id
    here =
        ap (λ b. b && is_none (find_row (changed id (slot_of kept) rows) id).outline.cause)
        (active_own id (slot_of kept) rows parts.0 ∙ ap (λ (x : Slot). not (is_over_in (kept_in x))) live ∙ ap not over ∙ parts.1 ∙ sym active)
        ∙ ap (λ (k : Kept). is_active rows id && is_none k.outline.cause) found
        ∙ ap (λ (o : Option Cause). is_active rows id && is_none o) cause

-- ---- a frame of the client

-- One that is no error of the connection leaves the service of every other stream.
pub frame_served : (setup : Setup) (book : Book) (noted : Noted) → is_fatal (fault_in (summary_in book) (Came noted)) ≡ false → AreKept book.rows → (other : ℕ) → (noted.frame.id == other) ≡ false
    → is_served (book_after setup false book (Came noted)).rows other ≡ is_served book.rows other
frame_served setup book noted mild kept other apart = served_stays book (book_after setup false book (Came noted)) other (others_stay setup book noted mild kept other apart)
