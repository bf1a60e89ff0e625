-- What an entry calls for over the summary of a tape is what the model says that it calls for.
use Rattle.std.proofs.Common.{◌≡◌, ℕ, ◌&&◌, ◌==◌, nat_lt, if◌then◌else◌, List, [], ◌∷◌, ◌++◌, length, Option, Some, None, refl, ◌∙◌, ap, not, ◌||◌}
use Rattle.model.specs.Frames.{Frame, goaway, no_error}
use Rattle.model.specs.Tapes.{Entry}
use Rattle.model.specs.Tapes.Entry.{Came, Breached, Happened, Sent, Did}
use Rattle.model.specs.Limits.{most_streams}
use Rattle.model.specs.Errors.{Fault}
use Rattle.model.specs.Errors.Fault.{Connection, Stream, Discarded}
use Rattle.model.specs.Known.{Known, fails_behind}
use Rattle.model.specs.Lifetimes.{opened, is_drained}
use Rattle.model.specs.Courses.{course, about, fault}
use Rattle.model.specs.ErrorClause.{last_goaway, owed_first, acks, reset_for, resets, reset_behind, rst_stream, code_of_goaway, owed_by, is_rightly_sent, must_end}
use Rattle.theory_errors.specs.Summary.{Outline, Summary, summary_of}
use Rattle.theory_errors.specs.Owing.{about_in, fault_in, next_outline, opened_after, highest_in, last_goaway_in, owed_first_in, resets_in, reset_behind_in, owes_in, is_rightly_sent_in, must_end_in, drained_after}
use Rattle.theory_errors.proofs.Judged.{fault_for_same}
use Rattle.theory_errors.proofs.Outlines.{outline_kept}

about_same : (known : Known) (t : List Entry) (e : Entry) → about_in (summary_of known t) e ≡ about t e
about_same known t (Came noted) = refl
about_same known t (Breached breach) = refl
about_same known t (Happened event) = refl
about_same known t (Sent noted) = refl
about_same known t (Did act) = refl

-- The fault of an entry.
pub fault_same : (known : Known) (t : List Entry) (e : Entry) → fault_in (summary_of known t) e ≡ fault known t e
fault_same known t (Came noted) = fault_for_same known t (course known noted.frame.id t) (Came noted)
fault_same known t (Breached breach) = fault_for_same known t (course known 0 t) (Breached breach)
fault_same known t (Happened event) = refl
fault_same known t (Sent noted) = refl
fault_same known t (Did act) = refl

pub opened_same : (known : Known) (t : List Entry) (e : Entry) → opened_after (summary_of known t) e ≡ opened (e ∷ t)
opened_same known t (Came noted) = refl
opened_same known t (Breached breach) = refl
opened_same known t (Happened event) = refl
opened_same known t (Sent noted) = refl
opened_same known t (Did act) = refl

pub drained_same : (t : List Entry) (e : Entry) → drained_after (is_drained t) e ≡ is_drained (e ∷ t)
drained_same t (Came noted) = refl
drained_same t (Breached breach) = refl
drained_same t (Happened event) = refl
drained_same t (Sent noted) = refl
drained_same t (Did act) = refl

goaway_same : (known : Known) (t : List Entry) (e : Entry) → last_goaway_in (summary_of known t) e ≡ last_goaway t e
goaway_same known t e =
    ap (λ (ids : List ℕ). if not (is_drained t) && nat_lt (length (opened t)) most_streams && (drained_after (is_drained t) e || length ids == most_streams) then goaway (highest_in ids) no_error ∷ [] else []) (opened_same known t e)
    ∙ ap (λ b. if not (is_drained t) && nat_lt (length (opened t)) most_streams && (b || length (opened (e ∷ t)) == most_streams) then goaway (highest_in (opened (e ∷ t))) no_error ∷ [] else []) (drained_same t e)

first_same : (known : Known) (t : List Entry) (e : Entry) (found : Option Fault) → owed_first_in (summary_of known t) e found ≡ owed_first t e found
first_same known t e None = goaway_same known t e
first_same known t e (Some Discarded) = goaway_same known t e
first_same known t e (Some (Connection code)) = ap (λ (ids : List ℕ). goaway (highest_in ids) (code_of_goaway t code) ∷ []) (opened_same known t e)
first_same known t e (Some (Stream code)) =
    ap (λ (fs : List Frame). fs ++ rst_stream (about_in (summary_of known t) e) code ∷ []) (goaway_same known t e)
    ∙ ap (λ (id : ℕ). last_goaway t e ++ rst_stream id code ∷ []) (about_same known t e)

resets_same : (known : Known) (t : List Entry) (e : Entry) → resets_in known.setup (fails_behind known t) (summary_of known t) e ≡ resets known (about t e) t e
resets_same known t e =
    let s : Summary = summary_of known t in
    ap (λ (id : ℕ). let now = next_outline known.setup (fails_behind known t) id s e in reset_for id now.head_out (course known id t).cause now.cause) (about_same known t e)
    ∙ ap (λ (now : Outline). reset_for (about t e) now.head_out (course known (about t e) t).cause now.cause) (outline_kept known t (about t e) e)

behind_same : (known : Known) (t : List Entry) (e : Entry) → reset_behind_in (summary_of known t) e ≡ reset_behind t e
behind_same known t (Came noted) = refl
behind_same known t (Breached breach) = refl
behind_same known t (Happened event) = refl
behind_same known t (Sent noted) = refl
behind_same known t (Did act) = refl

-- What an entry calls for.
pub owes_same : (known : Known) (t : List Entry) (e : Entry) → owes_in known.setup (fails_behind known t) (summary_of known t) e ≡ owed_by known t e
owes_same known t e =
    let s : Summary = summary_of known t in
    let found : Option Fault = fault known t e in
    ap (λ (f : Option Fault). owed_first_in s e f ++ (acks e f ++ (resets_in known.setup (fails_behind known t) s e ++ reset_behind_in s e))) (fault_same known t e)
    ∙ ap (λ (fs : List Frame). fs ++ (acks e found ++ (resets_in known.setup (fails_behind known t) s e ++ reset_behind_in s e))) (first_same known t e found)
    ∙ ap (λ (fs : List Frame). owed_first t e found ++ (acks e found ++ (fs ++ reset_behind_in s e))) (resets_same known t e)
    ∙ ap (λ (fs : List Frame). owed_first t e found ++ (acks e found ++ (resets known (about t e) t e ++ fs))) (behind_same known t e)

-- What may be sent, and whether the connection is to end.
pub rightly_same : (known : Known) (t : List Entry) (frame : Frame) → is_rightly_sent_in (summary_of known t) frame ≡ is_rightly_sent t frame
rightly_same known t frame = refl

pub end_same : (known : Known) (t : List Entry) → must_end_in (summary_of known t) ≡ must_end known t
end_same known t = refl
