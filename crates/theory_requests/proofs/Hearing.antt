-- Answers of upstreams.
use Rattle.std.proofs.Common.{◌≡◌, ℕ, true, false, List, ◌∷◌, refl, sym, ap, ◌∙◌}
use Rattle.std.specs.Prelude.{None, option_map}
use Rattle.model.specs.Logs.{Event}
use Rattle.model.specs.Logs.Event.{Client, ClientEnd, ClientTook, Up, UpEnd, UpFailed, UpTook, Drain}
use Rattle.model.specs.Tapes.{Entry}
use Rattle.model.specs.Tapes.Entry.{Happened}
use Rattle.model.specs.Openings.{Opened}
use Rattle.model.specs.Admission.{is_open}
use Rattle.model.specs.Known.{Known}
use Rattle.model.specs.Courses.{items, upstream_of}
use Rattle.theory_requests.specs.Told.{Told, IsTold}
use Rattle.theory_requests.specs.Lines.{Line, k_of, line_of, Heard, answer_by, idle_beside, with_answer, lines_heard}
use Rattle.theory_requests.specs.State.{State, after}
use Rattle.theory_requests.specs.State.Move.{Hears}
use Rattle.theory_requests.specs.Rule.{IsAnswer, IsKept, MayCome}
use Rattle.theory_requests.specs.Meaning.{IsSo}
use Rattle.model.proofs.ItemLaws.{items_stay}
use Rattle.theory_requests.proofs.Lists.{find_map}
use Rattle.theory_requests.proofs.Pooling.{keeps_heard}
use Rattle.theory_requests.proofs.Leaving.{event_leaves}
use Rattle.theory_requests.proofs.Standing.{owed, Stands}
use Rattle.theory_requests.proofs.Passing.{IsPassing, let_go_left, none_owed, none_due, text_same, way_same}
use Rattle.theory_requests.proofs.Framing.{held_kept, still_shut, not_to_end, none_to_close}

-- an answer leaves each connection open or not
open_heard : (t : List Entry) (event : Event) (k : ℕ) → IsAnswer event → is_open k (Happened event ∷ t) ≡ is_open k t
open_heard t (Up j piece) k is = refl
open_heard t (UpEnd j) k is = refl
open_heard t (Client piece) k is = absurd is
open_heard t ClientEnd k is = absurd is
open_heard t (ClientTook count) k is = absurd is
open_heard t (UpFailed j) k is = absurd is
open_heard t (UpTook j count) k is = absurd is
open_heard t Drain k is = absurd is

module _ (known : Known) (t : List Entry) (s : State) (h : Stands known t s) (told behind : Told) (is_told : IsTold known t told) (come : MayCome told s) (event : Event) (heard : Heard) (is_answer : IsAnswer event) (there : IsKept s (upstream_of event)) (is_so : IsSo known t (Hears event heard)) where
  abbrev pub u : State
  u = after known.setup behind s (Hears event heard)

  abbrev pub change : Line → Line
  change = with_answer (upstream_of event) (answer_by known.setup.most_idle (idle_beside (upstream_of event) s.live) heard)

  line_is : (k : ℕ) → line_of k u.live ≡ option_map change (line_of k s.live)
  line_is k = find_map k_of change (λ l. refl) k s.live

  missing : (k : ℕ) → line_of k s.live ≡ None → line_of k u.live ≡ None
  missing k none = line_is k ∙ ap (option_map change) none

  -- a connection that isn't open isn't the one
  other : (k : ℕ) → is_open k t ≡ false → k ≡ upstream_of event → ⊥
  other k shut same = let clash : true ≡ false = sym (h.keeps.are_so (upstream_of event) there.0 there.1).opened ∙ ap (λ n. is_open n t) (sym same) ∙ shut in cc

  same_items : (stream : ℕ) → items known stream (Happened event ∷ t) ≡ items known stream t
  same_items stream = sym (items_stay known stream t (Happened event) refl)

  owes : (o : Opened) → owed o (Happened event ∷ t) s.due ≡ owed o t s.due
  owes o = none_owed o (Happened event ∷ t) s.due come.nothing ∙ sym (none_owed o t s.due come.nothing)

  pub hears : IsPassing known t (Happened event) s u
  hears = record {
    same_due = refl;
    due = none_due known (Happened event ∷ t) u.live u.due come.nothing;
    same = refl;
    same_opens = refl;
    same_sent = λ o. refl;
    same_owed = owes;
    same_items = same_items;
    still_shut = still_shut t event;
    count = refl;
    held = λ stream x found.
        way_same known t (Happened event) s u stream x.way (same_items stream) refl (λ o g. text_same t (Happened event) s.due u.due o refl refl (owes o)) (λ k stage is line. (change line.0, line_is k ∙ ap (option_map change) line.1, line.2)) missing
        (h.held stream x (held_kept behind stream s.held x found).0);
    keeps = keeps_heard known t s.live h.keeps (none_to_close known t s h told behind is_told come) (sym is_told.ends ∙ come.goes_on) event heard (λ j. open_heard t event j is_answer) (λ j apart on. event_leaves known t j event apart) is_so;
    goes = λ x. x;
    in_time = λ x. x;
    let_go = let_go_left known t (Happened event) s h (λ ends. absurd (not_to_end known t s h told behind is_told come ends)) (λ k shut there. event_leaves known t k event (other k shut));
    closes = λ x. x;
    shut = λ closed. ap (lines_heard known.setup.most_idle (upstream_of event) heard) (h.shut closed);
  }
