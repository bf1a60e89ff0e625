-- Which connections are done with behind what came of an upstream; and the one whose response is whole is idle, or closed.
use Rattle.std.proofs.Common.{◌≡◌, ℕ, Bool, true, false, ◌==◌, nat_lt, List, [], ◌∷◌, map, Option, Some, refl, sym, ◌∙◌, ap, subst, if◌then◌else◌}
use Rattle.std.specs.Prelude.{option_map}
use Rattle.std.specs.List.{list_any}
use Rattle.std.proofs.lemmas.Bool.{eq-eqb}
use Rattle.model.specs.Logs.{Output}
use Rattle.model.specs.Logs.Act.{Close}
use Rattle.model.specs.Logs.Output.{Does as Puts}
use Rattle.model.specs.Setup.{Setup}
use Rattle.model.specs.Tapes.{Entry, put}
use Rattle.theory_errors.specs.Rows.{find as find_row, slot_of}
use Rattle.theory_errors.specs.Rows.Slot.{Over}
use Rattle.theory_responses.specs.State as theory_responses
use Rattle.upstream_response.specs.Waiting as answers
use Rattle.theory_requests.specs.Told.{Told}
use Rattle.theory_requests.specs.Lines.{Answer, Heard, Line, find, is_idle, answer_by, idle_beside}
use Rattle.theory_requests.specs.Lines.Answer.{Pending, Idle, Done}
use Rattle.theory_requests.specs.Lines.Heard.{Partly, Keepable, Finished}
use Rattle.theory_requests.specs.Rule.{is_done, is_done_by}
use Rattle.theory_requests.proofs.Lists.{found_key, find_map}
use Rattle.streams.specs.Sending.{failed}
use Rattle.upstream_connections.specs.Connections.{Connection, number_of, lives, answer_at, marked_at, is_idle_one}
use Rattle.refinement.specs.View.{View, balanced}
use Rattle.refinement.specs.Rest.{told_view, NoneDone}
use Rattle.refinement.specs.Bringing.{Brings}
use Rattle.refinement.proofs.Bringing.{brings_then}
use Rattle.refinement.proofs.Idles.{finished_closed}
use Rattle.refinement.proofs.Lives.{IsDone, lives_same}
use Rattle.event_handlers.specs.Closings.{NoneDoneBut, IsAbout}
use Rattle.event_handlers.specs.exchanges.Giving.{closed_at, replied_to, reset_behind, reset_if, abandoned_if, is_cut_then, IsGivenUp, IsAbandoned}
use Rattle.event_handlers.specs.exchanges.Taking.{answered_with}
use Rattle.event_handlers.specs.exchanges.Finishing.{marked_as, is_idle_then, closed_unless, put_unless, finished_at, put_finished}
use Rattle.event_handlers.proofs.Closings.{or_both, or_none, about_but, about_changed, about_then, closed_but, closed_still}
use Rattle.event_handlers.proofs.paying.Closes.{closes}

-- ---- which are done with

-- none is where only an answer goes on
pub answered_none : (old new : View) (k : ℕ) (answer : answers.Answer) (offers : theory_responses.State) → new ≡ answered_with k answer offers old → NoneDone old → NoneDone new
answered_none old new k answer offers is none =
    subst NoneDone (sym is) (ap (λ (ls : List Line). list_any (is_done (told_view old)) ls) (lives_same (answer_at k answer) (λ c. refl) old.upstreams.live) ∙ none)

pub closed_none_done : (k : ℕ) (kept : View) → NoneDone kept → NoneDone (closed_at k kept)
closed_none_done k kept none = closed_still k kept none

-- nor is one where it becomes idle
marked_none : (told : Told) (k : ℕ) (progress : Answer) → is_idle progress ≡ true → (cs : List Connection) → list_any (is_done told) (lives cs) ≡ false → list_any (is_done told) (lives (map (marked_at k progress) cs)) ≡ false
marked_none told k progress idle [] none = refl
marked_none told k progress idle (c ∷ cs) none =
    let parts = or_both (is_done told c.live) (list_any (is_done told) (lives cs)) none in
    or_none (is_done told (marked_at k progress c).live) (list_any (is_done told) (lives (map (marked_at k progress) cs))) (by (c.live.k == k) parts.0) (marked_none told k progress idle cs parts.1)
  where
    idle_on : (a : Answer) → is_idle a ≡ true → is_done_by a (told.served c.live.stream) ≡ false
    idle_on Pending off = let clash : false ≡ true = off in cc
    idle_on Idle is = refl
    idle_on Done off = let clash : false ≡ true = off in cc

    by : (b : Bool) → is_done_by c.live.answer (told.served c.live.stream) ≡ false → is_done_by (if b then progress else c.live.answer) (told.served c.live.stream) ≡ false
    by true was = idle_on progress idle
    by false was = was

-- how far the response of a connection is behind what was heard
abbrev progress_behind : ℕ → ℕ → Heard → View → Answer
progress_behind most k heard kept = answer_by most (idle_beside k (lives kept.upstreams.live)) heard

-- one that is open is idle then just by how far its response is
idle_then : (most k : ℕ) (heard : Heard) (kept : View) (c : Connection) → find number_of k kept.upstreams.live ≡ Some c → is_idle_then most k heard kept ≡ is_idle (progress_behind most k heard kept)
idle_then most k heard kept c found =
    ap is_idle_one (find_map number_of (marked_at k (progress_behind most k heard kept)) (λ y. refl) k kept.upstreams.live ∙ ap (option_map (marked_at k (progress_behind most k heard kept))) found)
    ∙ ap (λ b. is_idle (if b then progress_behind most k heard kept else c.live.answer)) (eq-eqb c.live.k k (found_key number_of k kept.upstreams.live c found))

-- none is done with where the connection whose response is whole is idle, or goes
pub finished_none : (most k : ℕ) (heard : Heard) (kept : View) (c : Connection) → find number_of k kept.upstreams.live ≡ Some c → NoneDone kept → NoneDone (finished_at most k heard kept)
finished_none most k heard kept c found none = by (is_idle_then most k heard kept) refl
  where
    by : (b : Bool) → is_idle_then most k heard kept ≡ b → NoneDone (closed_unless b k (marked_as most k heard kept))
    by true is = marked_none (told_view kept) k (progress_behind most k heard kept) (sym (idle_then most k heard kept c found) ∙ is) kept.upstreams.live none
    by false is = subst (λ (cs : List Connection). list_any (is_done (told_view kept)) (lives cs) ≡ false) (sym (finished_closed k (progress_behind most k heard kept) kept.upstreams.live)) (closed_still k kept none)

-- ---- a stream that is given up

given_about_if : (b : Bool) (stream : ℕ) (old : View) → IsAbout stream old (reset_if b stream (replied_to stream old))
given_about_if b stream old = by b
  where
    replied : IsAbout stream old (replied_to stream old)
    replied = about_changed stream (slot_of (failed (find_row old.inbound.rows stream))) old (replied_to stream old) refl refl

    by : (b : Bool) → IsAbout stream old (reset_if b stream (replied_to stream old))
    by true = about_then stream old (replied_to stream old) (reset_behind stream (replied_to stream old)) replied (about_changed stream (Over true) (replied_to stream old) (reset_behind stream (replied_to stream old)) refl refl)
    by false = replied

-- None but the stream's are done with behind it.
pub given_none_but : (stream : ℕ) (old new : View) (outputs put_out : List Output) (back : Option ℕ) → NoneDone old → IsGivenUp stream old outputs back new put_out → NoneDoneBut stream new
given_none_but stream old new outputs put_out back none given =
    about_but stream old new (subst (λ (v : View). IsAbout stream old v) (sym given.kept) (given_about_if (is_cut_then stream old) stream old)) none

-- The same where its connection may be closed too.
pub abandoned_none_but : (k stream : ℕ) (old new : View) (outputs put_out : List Output) (back : ℕ) → NoneDone old → IsAbandoned k stream old outputs back new put_out → NoneDoneBut stream new
abandoned_none_but k stream old new outputs put_out back none given = subst (λ (v : View). NoneDoneBut stream v) (sym given.kept) (by (is_cut_then stream old))
  where
    by : (b : Bool) → NoneDoneBut stream (abandoned_if b k stream old)
    by true = about_but stream old (reset_behind stream (replied_to stream old)) (given_about_if true stream old) none
    by false = closed_but stream k (replied_to stream old) (about_but stream old (replied_to stream old) (given_about_if false stream old) none)

-- ---- a response that is whole

-- a connection that is found behind its answer
pub answered_found : (k : ℕ) (answer : answers.Answer) (cs : List Connection) (c : Connection) → find number_of k cs ≡ Some c → find number_of k (map (answer_at k answer) cs) ≡ Some (answer_at k answer c)
answered_found k answer cs c found = find_map number_of (answer_at k answer) (λ y. refl) k cs ∙ ap (option_map (answer_at k answer)) found

-- one that isn't idle behind a whole response is done with
whole_done : (most others : ℕ) (heard : Heard) (served : Bool) → (heard ≡ Partly → ⊥) → is_idle (answer_by most others heard) ≡ false → is_done_by (answer_by most others heard) served ≡ true
whole_done most others Partly served whole off = absurd (whole refl)
whole_done most others Keepable served whole off = by (nat_lt others most) off
  where
    by : (b : Bool) → is_idle (if b then Idle else Done) ≡ false → is_done_by (if b then Idle else Done) served ≡ true
    by true on = let clash : true ≡ false = on in cc
    by false is = refl
whole_done most others Finished served whole off = refl

-- Behind what came of its upstream a connection whose response is whole is idle, or is closed.
pub finish_brings : (setup : Setup) (old kept new : View) (most k : ℕ) (heard : Heard) (c : Connection) (entry : Entry) (outputs put_out : List Output) → find number_of k kept.upstreams.live ≡ Some c → (heard ≡ Partly → ⊥)
    → Brings setup old balanced outputs entry (marked_as most k heard kept) balanced outputs → new ≡ finished_at most k heard kept → put_out ≡ put_finished most k heard kept outputs → Brings setup old balanced outputs entry new balanced put_out
finish_brings setup old kept new most k heard c entry outputs put_out found whole brings is puts =
    subst (λ (v : View). Brings setup old balanced outputs entry v balanced put_out) (sym is)
    (subst (λ (o : List Output). Brings setup old balanced outputs entry (finished_at most k heard kept) balanced o) (sym puts) (by (is_idle_then most k heard kept) refl))
  where
    done : is_idle_then most k heard kept ≡ false → IsDone (told_view (marked_as most k heard kept)) (marked_as most k heard kept).upstreams.live k
    done off = record {
      connection = marked_at k (progress_behind most k heard kept) c;
      found = find_map number_of (marked_at k (progress_behind most k heard kept)) (λ y. refl) k kept.upstreams.live ∙ ap (option_map (marked_at k (progress_behind most k heard kept))) found;
      done =
          ap (λ b. is_done_by (if b then progress_behind most k heard kept else c.live.answer) ((told_view kept).served c.live.stream)) (eq-eqb c.live.k k (found_key number_of k kept.upstreams.live c found))
          ∙ whole_done most (idle_beside k (lives kept.upstreams.live)) heard ((told_view kept).served c.live.stream) whole (sym (idle_then most k heard kept c found) ∙ off);
    }

    by : (b : Bool) → is_idle_then most k heard kept ≡ b → Brings setup old balanced outputs entry (closed_unless b k (marked_as most k heard kept)) balanced (put_unless b k outputs)
    by true is = brings
    by false is =
        brings_then setup old (marked_as most k heard kept) (closed_at k (marked_as most k heard kept)) balanced balanced balanced outputs outputs (put outputs (Puts (Close k))) entry brings
        (closes setup (marked_as most k heard kept) 0 k (λ top below. done is) outputs)
