-- An entry changes no row but that of its own stream, unless it is an error of the connection.
use Rattle.std.proofs.Common.{◌≡◌, ℕ, ◌+◌, Bool, true, false, ◌&&◌, ◌||◌, ◌==◌, nat_lt, if◌then◌else◌, List, [], length, Option, Some, None, refl, sym, ◌∙◌, ap, arith}
use Rattle.std.proofs.lemmas.Bool.{and_right}
use Rattle.std.proofs.lemmas.Int.{ints}
use Rattle.std.proofs.Math.Bool.{or-false}
use Rattle.std.specs.Prelude.{ℤ, pos, ◌+ℤ◌, ◌-ℤ◌, is_some}
use Rattle.std.specs.List.{list_any}
use Rattle.model.specs.Messages.{Item}
use Rattle.model.specs.Frames.{data_kind, rst_stream_kind, window_update_kind}
use Rattle.model.specs.Setup.{Setup}
use Rattle.model.specs.Tapes.{Entry}
use Rattle.model.specs.Tapes.Entry.{Came, Breached, Happened, Sent, Did}
use Rattle.model.specs.Streams.{is_ended_by, frame_items}
use Rattle.model.specs.Errors.{Fault}
use Rattle.model.specs.Lifetimes.{ends_by}
use Rattle.model.specs.WindowsOnTape.{increment}
use Rattle.model.specs.Causes.{Cause}
use Rattle.model.specs.Courses.{first_of_both, interrupts, is_final}
use Rattle.theory_errors.specs.Summary.{Outline, Stream as Kept, Summary}
use Rattle.theory_errors.specs.Judging.{is_over_in, completed_in, fault_for}
use Rattle.theory_errors.specs.Owing.{items_in, cause_in, new_cause_in, outline_behind, outline_from}
use Rattle.theory_errors.specs.After.{is_sound, grant, stream_from}
use Rattle.theory_errors.specs.Rows.{over_kept, Slot, kept_in, slot_of, Row, row_behind}
use Rattle.theory_errors.specs.Rows.Slot.{Live, Over}
use Rattle.theory_errors.specs.Tidy.{IsSteady, IsTidy, IsRow, IsElsewhere}
use Rattle.theory_errors.proofs.Idle.{zero_unless, no_cause_if, elsewhere}

-- with a cause the head stays, and without one it isn't out
pub head_kept : (cause : Option Cause) (before out : Bool) → (is_some cause ≡ false → before ≡ false) → (if is_some cause then before else false && out) ≡ before
head_kept None before out is = sym (is refl)
head_kept (Some cause) before out is = refl

same_if : {A : Type 0} (b : Bool) (x y : A) → y ≡ x → (if b then x else y) ≡ x
same_if true x y is = refl
same_if false x y is = is

pub steady : (outline : Outline) (out : Bool) → IsSteady outline → outline_behind outline false [] None out ≡ outline
steady outline out is =
    let now : Outline = outline_behind outline false [] None out in
    ap (λ x. record now { begun = x }) (same_if (outline.over || false) outline.begun (outline.begun || false) (or-false outline.begun))
    ∙ ap (λ x. record now { begun = outline.begun; declared = x }) (same_if (outline.over || false) outline.declared outline.declared refl)
    ∙ ap (λ x. record outline { octets = x; over = now.over; cause = now.cause; head_out = now.head_out }) (same_if (outline.over || false) outline.octets (outline.octets + 0) (omega arith))
    ∙ ap (λ x. record outline { over = x || false; cause = now.cause; head_out = now.head_out }) (or-false outline.over)
    ∙ ap (λ x. record outline { over = x; cause = now.cause; head_out = now.head_out }) (or-false outline.over)
    ∙ ap (λ x. record outline { cause = x; head_out = now.head_out }) (no_new outline.cause)
    ∙ ap (λ x. record outline { head_out = x }) (head_kept outline.cause outline.head_out out is)
  where
    no_new : (cause : Option Cause) → first_of_both cause None ≡ cause
    no_new None = refl
    no_new (Some cause) = refl

-- each course that an entry leaves is so
pub steady_behind : (outline : Outline) (interrupted : Bool) (new : List Item) (cause : Option Cause) (out : Bool) → IsSteady (outline_behind outline interrupted new cause out)
steady_behind outline interrupted new cause out = cases outline.cause cause
  where
    cases : (old found : Option Cause) → is_some (first_of_both old found) ≡ false → (if is_some old then outline.head_out else is_some found && out) ≡ false
    cases None None none = refl
    cases None (Some found) none = absurd (let no : true ≡ false = none in cc)
    cases (Some old) found none = absurd (let no : true ≡ false = none in cc)

-- nothing came, and nothing went
pub none_more : (is_there : Bool) (before : ℤ) (count : ℕ) → count ≡ 0 → (if is_there then before +ℤ pos count else before) ≡ before
none_more true before count none = ap (λ n. before +ℤ pos n) none ∙ omega (arith, ints)
none_more false before count none = refl

pub none_less : (before : ℤ) (count : ℕ) → count ≡ 0 → before -ℤ pos count ≡ before
none_less before count none = ap (λ n. before -ℤ pos n) none ∙ omega (arith, ints)

pub kept_same : (kept : Kept) (now : Kept) → now.ended_by_client ≡ kept.ended_by_client → now.ended_by_gateway ≡ kept.ended_by_gateway → now.reset_by_client ≡ kept.reset_by_client → now.reset_by_gateway ≡ kept.reset_by_gateway → now.balance ≡ kept.balance → now.room ≡ kept.room → now.head_out ≡ kept.head_out → now.outline ≡ kept.outline → now ≡ kept
kept_same kept now a b c d balance room out outline =
    ap (λ x. record now { ended_by_client = x }) a
    ∙ ap (λ x. record now { ended_by_client = kept.ended_by_client; ended_by_gateway = x }) b
    ∙ ap (λ x. record now { ended_by_client = kept.ended_by_client; ended_by_gateway = kept.ended_by_gateway; reset_by_client = x }) c
    ∙ ap (λ x. record kept { reset_by_gateway = x; balance = now.balance; room = now.room; head_out = now.head_out; outline = now.outline }) d
    ∙ ap (λ x. record kept { balance = x; room = now.room; head_out = now.head_out; outline = now.outline }) balance
    ∙ ap (λ x. record kept { room = x; head_out = now.head_out; outline = now.outline }) room
    ∙ ap (λ x. record kept { head_out = x; outline = now.outline }) out
    ∙ ap (λ x. record kept { outline = x }) outline

-- ---- entries that are about another stream

-- a course to which nothing comes
pub course_same : (setup : Setup) (fails : Bool) (s : Summary) (e : Entry) (id : ℕ) (kept : Kept) (found : Option Fault) → IsSteady kept.outline → new_cause_in setup fails id s e kept.outline found ≡ None → interrupts id e found None ≡ false → items_in id s e ≡ [] → outline_from setup fails id s e kept found ≡ kept.outline
course_same setup fails s e id kept found is no_cause goes_on no_items =
    ap (λ (c : Option Cause). outline_behind kept.outline (interrupts id e found c) (items_in id s e) c kept.head_out) no_cause
    ∙ ap (λ b. outline_behind kept.outline b (items_in id s e) None kept.head_out) goes_on
    ∙ ap (λ (xs : List Item). outline_behind kept.outline false xs None kept.head_out) no_items
    ∙ steady kept.outline kept.head_out is

-- What is kept of a stream stays as it is, where an entry is about another.
pub untouched : (setup : Setup) (fails : Bool) (s : Summary) (e : Entry) (id : ℕ) (kept : Kept) (found : Option Fault) → IsSteady kept.outline → IsElsewhere s id e found → stream_from setup fails s e id kept found ≡ kept
untouched setup fails s (Breached breach) id kept found is other = absurd other
untouched setup fails s (Did act) id kept found is other = kept_same kept _ refl refl refl refl refl refl refl
    (course_same setup fails s (Did act) id kept found is (no_cause_if (0 == id && nat_lt 0 id) None refl) (ap (λ (x : Option Fault). is_ended_by false x || false || false) other) refl)
untouched setup fails s (Happened event) id kept found is other = kept_same kept _ refl refl refl refl refl refl refl
    (course_same setup fails s (Happened event) id kept found is (ap (λ b. if b && nat_lt 0 id then cause_in setup fails kept.outline s (Happened event) found else None) other.0) (ap (λ (x : Option Fault). is_ended_by false x || false || false) other.1) refl)
untouched setup fails s (Came noted) id kept found is other = kept_same kept _
    (ap (λ b. b && ends_by (completed_in s.block noted.frame) noted.frame || kept.ended_by_client) other.0) refl
    (ap (λ b. b || kept.reset_by_client) (and_right (noted.frame.kind == rst_stream_kind) (noted.frame.id == id) other.0)) refl
    (none_more (is_sound s noted.frame) kept.balance (grant id noted.frame) (zero_unless (noted.frame.kind == window_update_kind) (noted.frame.id == id) (increment noted.frame) other.0))
    (none_less kept.room _ (zero_unless (noted.frame.kind == data_kind) (noted.frame.id == id) (length noted.frame.payload) other.0))
    refl
    (course_same setup fails s (Came noted) id kept found is
    (ap (λ b. if b && nat_lt 0 id then cause_in setup fails kept.outline s (Came noted) found else None) other.0)
    (ap (λ b. is_ended_by b found || noted.frame.kind == rst_stream_kind && b || false) other.0 ∙ ap (λ b. b || noted.frame.kind == rst_stream_kind && false || false) (elsewhere found other.1) ∙ ap (λ b. b || false) (and_right (noted.frame.kind == rst_stream_kind) false refl))
    (ap (λ b. if b then frame_items (completed_in s.block noted.frame) noted else []) other.0))
untouched setup fails s (Sent noted) id kept found is other = kept_same kept _
    refl (ap (λ b. b && ends_by (completed_in s.block_out noted.frame) noted.frame || kept.ended_by_gateway) other.0)
    refl (ap (λ b. b || kept.reset_by_gateway) (and_right (noted.frame.kind == rst_stream_kind) (noted.frame.id == id) other.0))
    (none_less kept.balance _ (zero_unless (noted.frame.kind == data_kind) (noted.frame.id == id) (length noted.frame.payload) other.0))
    (none_more true kept.room (grant id noted.frame) (zero_unless (noted.frame.kind == window_update_kind) (noted.frame.id == id) (increment noted.frame) other.0))
    (ap (λ b. kept.head_out || list_any is_final (if b then frame_items (completed_in s.block_out noted.frame) noted else [])) other.0 ∙ or-false kept.head_out)
    (course_same setup fails s (Sent noted) id kept found is (no_cause_if (0 == id && nat_lt 0 id) None refl)
    (ap (λ b. is_ended_by b found || noted.frame.kind == rst_stream_kind && b || false) other.0 ∙ ap (λ (x : Option Fault). is_ended_by false x || noted.frame.kind == rst_stream_kind && false || false) other.1 ∙ ap (λ b. b || false) (and_right (noted.frame.kind == rst_stream_kind) false refl))
    refl)

-- ---- rows

pub over_again : (by_us : Bool) → slot_of (over_kept by_us) ≡ Over by_us
over_again true = refl
over_again false = refl

-- The slot of another stream stays as it is: a program changes one row.
slot_stays : (setup : Setup) (fails : Bool) (s : Summary) (e : Entry) (id : ℕ) (slot : Slot) (found : Option Fault) → IsTidy slot → IsElsewhere s id e found → slot_of (stream_from setup fails s e id (kept_in slot) found) ≡ slot
slot_stays setup fails s e id (Live kept) found tidy other =
    ap slot_of (untouched setup fails s e id kept found tidy.1 other) ∙ ap (λ b. if b then Over kept.reset_by_gateway else Live kept) tidy.0
slot_stays setup fails s e id (Over by_us) found tidy other =
    ap slot_of (untouched setup fails s e id (over_kept by_us) found (λ none. refl) other) ∙ over_again by_us

pub row_stays : (setup : Setup) (fails : Bool) (s : Summary) (e : Entry) (row : Row) → IsRow row → IsElsewhere s row.id e (fault_for (kept_in row.slot).outline s e) → row_behind setup fails s e row ≡ row
row_stays setup fails s e row is other =
    ap (λ (slot : Slot). record { id = row.id; slot = slot }) (slot_stays setup fails s e row.id row.slot (fault_for (kept_in row.slot).outline s e) is.tidy other)

-- a slot that an entry leaves is so
pub tidy_behind : (setup : Setup) (fails : Bool) (s : Summary) (e : Entry) (id : ℕ) (kept : Kept) (found : Option Fault) → IsTidy (slot_of (stream_from setup fails s e id kept found))
tidy_behind setup fails s e id kept found = cases (is_over_in (stream_from setup fails s e id kept found)) refl
  where
    cases : (b : Bool) → is_over_in (stream_from setup fails s e id kept found) ≡ b → IsTidy (if b then Over (stream_from setup fails s e id kept found).reset_by_gateway else Live (stream_from setup fails s e id kept found))
    cases true is = tt
    cases false is = (is, steady_behind kept.outline (interrupts id e found (new_cause_in setup fails id s e kept.outline found)) (items_in id s e) (new_cause_in setup fails id s e kept.outline found) kept.head_out)
