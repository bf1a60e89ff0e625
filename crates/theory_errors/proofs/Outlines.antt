-- What is needed of the course of a stream, behind an entry: what the summary says of it is what the model says.
use Rattle.std.proofs.Common.{◌≡◌, ℕ, ◌+◌, Bool, true, false, ◌&&◌, ◌||◌, ◌==◌, nat_lt, if◌then◌else◌, List, [], ◌∷◌, ◌++◌, length, length-append, Option, Some, None, refl, ◌∙◌, ap, arith}
use Rattle.std.specs.Prelude.{is_some}
use Rattle.std.specs.List.{list_any}
use Rattle.model.specs.Setup.{own_window}
use Rattle.model.specs.Messages.{Item, ends_with}
use Rattle.model.specs.Messages.Item.{Block, Content}
use Rattle.model.specs.Http2.{body_of}
use Rattle.model.specs.Malformed.{declared, is_begun}
use Rattle.model.specs.Tapes.{Entry, sent}
use Rattle.model.specs.Tapes.Entry.{Came, Breached, Happened, Sent, Did}
use Rattle.model.specs.Streams.{items_of}
use Rattle.model.specs.Available.{items_on}
use Rattle.model.specs.Errors.{Fault}
use Rattle.model.specs.Known.{Known, fails_behind}
use Rattle.model.specs.Causes.{Cause}
use Rattle.model.specs.ErrorTable.{fault_with}
use Rattle.model.specs.Courses.{Course, carried, course, is_final, cause_at, new_cause, interrupts, course_behind, items_behind, first_of_both}
use Rattle.theory_errors.specs.Summary.{Outline, outline_of, Summary, summary_of}
use Rattle.theory_errors.specs.Owing.{items_in, cause_in, new_cause_in, declared_with, outline_behind, next_outline}
use Rattle.theory_errors.proofs.Judged.{fault_for_same}

-- ---- items behind others

any_begun : (over : Bool) (items new : List Item) → (if over then is_begun items else is_begun items || is_begun new) ≡ is_begun (if over then items else items ++ new)
any_begun true items new = refl
any_begun false [] new = refl
any_begun false (item ∷ items) new = refl

declared_both : (over : Bool) (items new : List Item) → (if over then declared items else declared_with (is_begun items) (declared items) new) ≡ declared (if over then items else items ++ new)
declared_both true items new = refl
declared_both false [] [] = refl
declared_both false [] (item ∷ new) = refl
declared_both false (Block fields ends ∷ items) [] = refl
declared_both false (Block fields ends ∷ items) (item ∷ new) = refl
declared_both false (Content octets ends ∷ items) [] = refl
declared_both false (Content octets ends ∷ items) (item ∷ new) = refl

body_both : (items new : List Item) → length (body_of items) + length (body_of new) ≡ length (body_of (items ++ new))
body_both [] new = omega arith
body_both (Block fields ends ∷ items) new = body_both items new
body_both (Content octets ends ∷ items) new =
    let rest = body_both items new in
    let with_it = length-append octets (body_of items) in
    let with_all = length-append octets (body_of (items ++ new)) in
    omega (arith, rest, with_it, with_all)

octets_both : (over : Bool) (items new : List Item) → (if over then length (body_of items) else length (body_of items) + length (body_of new)) ≡ length (body_of (if over then items else items ++ new))
octets_both true items new = refl
octets_both false items new = body_both items new

-- a course that goes on
goes_on : (c : Course) (interrupted : Bool) (new : List Item) (cause : Option Cause) (out : List Item) → outline_behind (outline_of c) interrupted new cause (list_any is_final out) ≡ outline_of (course_behind c interrupted new cause out)
goes_on c interrupted new cause out =
    let over : Bool = c.over || interrupted in
    let old : Outline = outline_of c in
    let made : Bool → Option ℕ → ℕ → Outline = λ begun declares octets. record {
      begun = begun;
      declared = declares;
      octets = octets;
      over = over || list_any ends_with new;
      cause = first_of_both c.cause cause;
      head_out = if is_some c.cause then c.head_out else is_some cause && list_any is_final out;
    } in
    ap (λ b. made b (if over then old.declared else declared_with old.begun old.declared new) (if over then old.octets else old.octets + length (body_of new))) (any_begun over c.items new)
    ∙ ap (λ d. made (is_begun (items_behind c interrupted new)) d (if over then old.octets else old.octets + length (body_of new))) (declared_both over c.items new)
    ∙ ap (λ n. made (is_begun (items_behind c interrupted new)) (declared (items_behind c interrupted new)) n) (octets_both over c.items new)

-- ---- causes

cause_same : (known : Known) (t : List Entry) (c : Course) (e : Entry) (found : Option Fault) → cause_in known.setup (fails_behind known t) (outline_of c) (summary_of known t) e found ≡ cause_at known c t e found
cause_same known t c (Came noted) None = refl
cause_same known t c (Came noted) (Some fault) = refl
cause_same known t c (Breached breach) found = refl
cause_same known t c (Happened event) found = refl
cause_same known t c (Sent noted) found = refl
cause_same known t c (Did act) found = refl

new_cause_same : (known : Known) (t : List Entry) (stream : ℕ) (c : Course) (e : Entry) (found : Option Fault) → new_cause_in known.setup (fails_behind known t) stream (summary_of known t) e (outline_of c) found ≡ new_cause known stream t e c found
new_cause_same known t stream c (Came noted) found = ap (λ (x : Option Cause). if noted.frame.id == stream && nat_lt 0 stream then x else None) (cause_same known t c (Came noted) found)
new_cause_same known t stream c (Breached breach) found = refl
new_cause_same known t stream c (Happened event) found = refl
new_cause_same known t stream c (Sent noted) found = refl
new_cause_same known t stream c (Did act) found = refl

items_same : (known : Known) (t : List Entry) (stream : ℕ) (e : Entry) → items_in stream (summary_of known t) e ≡ items_of stream t e
items_same known t stream (Came noted) = refl
items_same known t stream (Breached breach) = refl
items_same known t stream (Happened event) = refl
items_same known t stream (Sent noted) = refl
items_same known t stream (Did act) = refl

-- ---- the course behind an entry

-- The outline of a stream's course is kept.
pub outline_kept : (known : Known) (t : List Entry) (stream : ℕ) (e : Entry) → next_outline known.setup (fails_behind known t) stream (summary_of known t) e ≡ outline_of (course known stream (e ∷ t))
outline_kept known t stream e =
    let s : Summary = summary_of known t in
    let c : Course = course known stream t in
    let found : Option Fault = fault_with (own_window known.setup) (carried c) t e in
    let cause : Option Cause = new_cause known stream t e c found in
    ap (λ (f : Option Fault). let x = new_cause_in known.setup (fails_behind known t) stream s e (outline_of c) f in outline_behind (outline_of c) (interrupts stream e f x) (items_in stream s e) x (list_any is_final (items_on stream (sent t)))) (fault_for_same known t c e)
    ∙ ap (λ (x : Option Cause). outline_behind (outline_of c) (interrupts stream e found x) (items_in stream s e) x (list_any is_final (items_on stream (sent t)))) (new_cause_same known t stream c e found)
    ∙ ap (λ (xs : List Item). outline_behind (outline_of c) (interrupts stream e found cause) xs cause (list_any is_final (items_on stream (sent t)))) (items_same known t stream e)
    ∙ goes_on c (interrupts stream e found cause) (items_of stream t e) cause (items_on stream (sent t))
