-- What calls for nothing: acts, and the frames that are sent beside responses. And what an error of the connection calls for
-- beside its GOAWAY: nothing.
use Rattle.std.proofs.Common.{◌≡◌, ℕ, Bool, true, false, not, ◌&&◌, ◌||◌, ◌==◌, nat_lt, if◌then◌else◌, List, [], ◌∷◌, ◌++◌, length, Option, Some, None, refl, sym, ◌∙◌, ap, arith, inl, inr}
use Rattle.std.proofs.lemmas.Bool.{or_parts, and_left, and_right, le-ltb}
use Rattle.std.proofs.lemmas.Bool.Decides.{eqb_tells}
use Rattle.model.specs.Frames.{Frame, data_kind, headers_kind, continuation_kind, window_update_kind, has_flag, ends_stream, goaway, no_error}
use Rattle.model.specs.Logs.{Act}
use Rattle.model.specs.Tapes.{Noted, Entry, sent}
use Rattle.model.specs.Tapes.Entry.{Came, Breached, Happened, Sent, Did}
use Rattle.model.specs.Decoding.{begun, joined, completed}
use Rattle.model.specs.Limits.{most_streams}
use Rattle.model.specs.Errors.{Fault}
use Rattle.model.specs.Errors.Fault.{Connection}
use Rattle.model.specs.Known.{Known}
use Rattle.std.specs.List.{list_any}
use Rattle.model.proofs.OpenedLaws.{not_opened}
use Rattle.model.specs.Lifetimes.{is_drained, may_open, opened, highest, ends_by, is_ended_by_client}
use Rattle.model.specs.Causes.{Cause}
use Rattle.model.specs.Courses.{Course, course, about, fault, new_cause, first_of_both}
use Rattle.model.specs.ErrorClause.{last_goaway, acks, reset_for, resets, reset_behind, rst_stream, owed_by, is_passing}

-- ---- no GOAWAY for want of streams

-- a number below another isn't that other
pub neither : (n m : ℕ) → (nat_lt n m && n == m) ≡ false
neither n m = elim (eqb_tells n m) [
  | inl x ↦ and_left (nat_lt n m) (n == m) (le-ltb n m (let same = x.1 in omega (arith, same)))
  | inr x ↦ and_right (nat_lt n m) (n == m) x.0
]

pub neither_full : (drained : Bool) (n m : ℕ) → (not drained && nat_lt n m && (drained || n == m)) ≡ false
neither_full true n m = refl
neither_full false n m = neither n m

-- an entry that opens no stream, and with which the connection isn't drained, calls for no last GOAWAY
pub no_goaway : (t : List Entry) (e : Entry) → opened (e ∷ t) ≡ opened t → is_drained (e ∷ t) ≡ is_drained t → last_goaway t e ≡ []
no_goaway t e same drained =
    ap (λ ids. if not (is_drained t) && nat_lt (length (opened t)) most_streams && (is_drained (e ∷ t) || length ids == most_streams) then goaway (highest (e ∷ t)) no_error ∷ [] else []) same
    ∙ ap (λ x. if not (is_drained t) && nat_lt (length (opened t)) most_streams && (x || length (opened t) == most_streams) then goaway (highest (e ∷ t)) no_error ∷ [] else []) drained
    ∙ ap (λ b. if b then goaway (highest (e ∷ t)) no_error ∷ [] else []) (neither_full (is_drained t) (length (opened t)) most_streams)

-- ---- no reset for a cause

-- the cause stays, and no stream is reset
pub no_reset_for : (stream : ℕ) (out : Bool) (cause : Option Cause) → reset_for stream out cause (first_of_both cause None) ≡ []
no_reset_for stream true None = refl
no_reset_for stream true (Some cause) = refl
no_reset_for stream false cause = refl

-- an entry that is no cause for its stream resets none
pub no_reset : (known : Known) (t : List Entry) (e : Entry) → new_cause known (about t e) t e (course known (about t e) t) (fault known t e) ≡ None → resets known (about t e) t e ≡ []
no_reset known t e none =
    let old : Course = course known (about t e) t in
    ap (λ c. reset_for (about t e) (course known (about t e) (e ∷ t)).head_out old.cause (first_of_both old.cause c)) none
    ∙ no_reset_for (about t e) (course known (about t e) (e ∷ t)).head_out old.cause

-- ---- acts

pub did_nothing : (known : Known) (t : List Entry) (act : Act) → owed_by known t (Did act) ≡ []
did_nothing known t act =
    ap (λ first. first ++ (resets known 0 t (Did act) ++ [])) (no_goaway t (Did act) refl refl)
    ∙ ap (λ fs. fs ++ []) (no_reset known t (Did act) refl)

-- ---- frames beside responses

-- a frame that is neither HEADERS nor CONTINUATION completes no header block
pub completes_none : (before : List Noted) (frame : Frame) → (frame.kind == headers_kind) ≡ false → (frame.kind == continuation_kind) ≡ false → completed before frame ≡ None
completes_none before frame h c =
    ap (λ b. if (b || frame.kind == continuation_kind) && has_flag 4 frame then joined (begun before) frame else None) h
    ∙ ap (λ b. if b && has_flag 4 frame then joined (begun before) frame else None) c

-- such a frame, that isn't DATA either, calls for no reset behind it
pub nothing_behind : (t : List Entry) (noted : Noted) → is_passing noted ≡ false → reset_behind t (Sent noted) ≡ []
nothing_behind t noted control =
    let frame : Frame = noted.frame in
    let w = or_parts (frame.kind == data_kind || frame.kind == headers_kind || frame.kind == continuation_kind) (frame.kind == window_update_kind) control in
    let c = or_parts (frame.kind == data_kind || frame.kind == headers_kind) (frame.kind == continuation_kind) w.0 in
    let d = or_parts (frame.kind == data_kind) (frame.kind == headers_kind) c.0 in
    ap (λ block. if ends_by block frame && not (is_ended_by_client frame.id t) then rst_stream frame.id no_error ∷ [] else []) (completes_none (sent t) frame d.1 c.1)
    ∙ ap (λ b. if (b && ends_stream frame) && not (is_ended_by_client frame.id t) then rst_stream frame.id no_error ∷ [] else []) d.0

-- a frame beside responses calls for nothing
pub control_owes_nothing : (known : Known) (t : List Entry) (noted : Noted) → is_passing noted ≡ false → owed_by known t (Sent noted) ≡ []
control_owes_nothing known t noted control =
    ap (λ first. first ++ (resets known 0 t (Sent noted) ++ reset_behind t (Sent noted))) (no_goaway t (Sent noted) refl refl)
    ∙ ap (λ fs. fs ++ reset_behind t (Sent noted)) (no_reset known t (Sent noted) refl)
    ∙ nothing_behind t noted control

-- ---- errors of the connection

-- no acknowledgement of what is an error
acks_none : (e : Entry) (fault : Fault) → acks e (Some fault) ≡ []
acks_none (Came noted) fault = refl
acks_none (Breached breach) fault = refl
acks_none (Happened event) fault = refl
acks_none (Sent noted) fault = refl
acks_none (Did act) fault = refl

-- what an entry calls for: first the frames that come before all else, and then these
abbrev pub later_owed : Known → List Entry → Entry → Option Fault → List Frame
later_owed known t e found = acks e found ++ (resets known (about t e) t e ++ reset_behind t e)

-- behind an error of the connection, nothing but its GOAWAY is called for
pub nothing_besides : (known : Known) (t : List Entry) (e : Entry) (code : ℕ) → new_cause known (about t e) t e (course known (about t e) t) (fault known t e) ≡ None → reset_behind t e ≡ [] → later_owed known t e (Some (Connection code)) ≡ []
nothing_besides known t e code no_cause none =
    ap (λ fs. fs ++ (resets known (about t e) t e ++ reset_behind t e)) (acks_none e (Connection code))
    ∙ ap (λ fs. fs ++ reset_behind t e) (no_reset known t e no_cause)
    ∙ none

-- a frame that is an error is no cause
pub no_cause_of_fault : (known : Known) (stream : ℕ) (t : List Entry) (noted : Noted) (c : Course) (found : Fault) → new_cause known stream t (Came noted) c (Some found) ≡ None
no_cause_of_fault known stream t noted c found = cases (noted.frame.id == stream && nat_lt 0 stream)
  where
    nothing : Option Cause
    nothing = None

    cases : (b : Bool) → (if b then nothing else nothing) ≡ nothing
    cases true = refl
    cases false = refl

-- ---- streams

-- a stream that was opened may not be opened again
pub not_again : (drained : Bool) (ids : List ℕ) (id : ℕ) → list_any (λ other. other == id) ids ≡ true → may_open drained ids id ≡ false
not_again drained ids id opened = cases (may_open drained ids id) refl
  where
    cases : (b : Bool) → may_open drained ids id ≡ b → may_open drained ids id ≡ false
    cases false is = is
    cases true may = absurd (let no : true ≡ false = sym opened ∙ not_opened drained ids id may in cc)
