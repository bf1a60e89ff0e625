-- What comes of a whole header block on its stream, by what the program did.
use Rattle.std.proofs.Common.{◌≡◌, ℕ, suc, ◌≤◌, nat_lt, ◌==◌, Bool, true, false, not, ◌&&◌, ◌||◌, if◌then◌else◌, List, [], ◌∷◌, length, Option, Some, None, refl, sym, ◌∙◌, ap, arith}
use Rattle.std.proofs.lemmas.Bool.{or_right, and_right}
use Rattle.std.proofs.lemmas.List.{length-map}
use Rattle.std.proofs.Math.Bool.{or-false}
use Rattle.std.proofs.lemmas.Bool.Decides.{nat_tests}
use Rattle.std.specs.Prelude.{is_some, option_map}
use Rattle.model.specs.Messages.{Field, Item}
use Rattle.model.specs.Messages.Item.{Block}
use Rattle.model.specs.Frames.{protocol_error}
use Rattle.model.specs.Setup.{Setup}
use Rattle.model.specs.Tables.{total_size}
use Rattle.model.specs.Tapes.Note.{Fields}
use Rattle.model.specs.Errors.{Fault, or_else}
use Rattle.model.specs.Errors.Fault.{Stream}
use Rattle.model.specs.FrameErrors.{fault_if}
use Rattle.model.specs.Malformed.{Carried, are_trailers, has_length, is_well_formed}
use Rattle.model.specs.Http2.{declared_length}
use Rattle.model.specs.ErrorTable.{fault_of, is_bad_block}
use Rattle.model.specs.Causes.{Cause, are_large, cause_if, cause_of_head}
use Rattle.model.specs.Limits.{largest_fields, most_streams}
use Rattle.model.specs.Causes.Cause.{LargeFields}
use Rattle.model.specs.Courses.{cause_of_block, first_of_both}
use Rattle.theory_errors.specs.Summary.{Outline, carried_in}
use Rattle.theory_errors.specs.Owing.{outline_behind}
use Rattle.theory_errors.specs.Rows.{Row, ids_of, find, slot_of}
use Rattle.model.specs.Lifetimes.{may_open}
use Rattle.local_replies.specs.Views.{cause_of}
use Rattle.local_replies.specs.Openings.{is_bad_head, behind_head}
use Rattle.streams.specs.declared.course.Course.{Course}
use Rattle.streams.specs.declared.course.Reply.{Reply}
use Rattle.streams.specs.Views.{outline_of}
use Rattle.streams.specs.Asked.{verdict}
use Rattle.connection_state.specs.Blocks.{placed, kept_so, kept_with, is_malformed_behind, fault_on, fault_with, opens_last, no_goaway, Settles, SettlesBy}
use Rattle.connection_state.specs.declared.answers.BlockJudged.TheVariants as judged
use Rattle.connection_state.specs.declared.answers.BlockJudged.{BlockJudged}

-- ---- faults

-- by the state of the stream
pub refused_by : (rows : List Row) (id : ℕ) (fields : List Field) (ends : Bool) (f : Fault) → fault_of (verdict false rows id 1) ≡ Some f → fault_on rows id fields ends ≡ Some f
refused_by rows id fields ends f is = ap (λ (o : Option Fault). or_else o (fault_if (is_malformed_behind (find rows id).outline fields ends) (Stream protocol_error))) is

-- by the block itself
pub fault_by_block : (rows : List Row) (id : ℕ) (fields : List Field) (ends : Bool) → fault_of (verdict false rows id 1) ≡ None → fault_on rows id fields ends ≡ fault_if (is_malformed_behind (find rows id).outline fields ends) (Stream protocol_error)
fault_by_block rows id fields ends is = ap (λ (o : Option Fault). or_else o (fault_if (is_malformed_behind (find rows id).outline fields ends) (Stream protocol_error))) is

pub malformed_by : (rows : List Row) (id : ℕ) (fields : List Field) (ends : Bool) (outline : Outline) (b : Bool) → fault_of (verdict false rows id 1) ≡ None → outline ≡ (find rows id).outline → is_malformed_behind outline fields ends ≡ b → fault_on rows id fields ends ≡ fault_if b (Stream protocol_error)
malformed_by rows id fields ends outline b passes same is =
    fault_by_block rows id fields ends passes ∙ ap (λ (x : Outline). fault_if (is_malformed_behind x fields ends) (Stream protocol_error)) (sym same) ∙ ap (λ x. fault_if x (Stream protocol_error)) is

-- a head: whatever else the stream carried
pub bad_head : (outline : Outline) (fields : List Field) (ends b : Bool) → outline.cause ≡ None → outline.begun ≡ false → is_bad_head fields ends ≡ b → is_malformed_behind outline fields ends ≡ b
bad_head outline fields ends b no_cause begun is =
    ap (λ (o : Option Cause). not (is_some o) && is_bad_block (carried_in outline) ends (Fields fields)) no_cause
    ∙ ap (λ x. not (are_large fields) && (if x then not ends || not (are_trailers fields) || not (has_length outline.declared outline.octets) else not (is_well_formed fields) || ends && not (has_length (declared_length fields) 0))) begun
    ∙ is

-- a later block
pub bad_trailers : (outline : Outline) (fields : List Field) (ends b : Bool) → outline.cause ≡ None → outline.begun ≡ true → is_bad_block (behind_head outline.declared outline.octets (is_some outline.cause)) ends (Fields fields) ≡ b → is_malformed_behind outline fields ends ≡ b
bad_trailers outline fields ends b no_cause begun is =
    ap (λ (o : Option Cause). not (is_some o) && is_bad_block (carried_in outline) ends (Fields fields)) no_cause
    ∙ ap (λ x. not (are_large fields) && (if x then not ends || not (are_trailers fields) || not (has_length outline.declared outline.octets) else not (is_well_formed fields) || ends && not (has_length (declared_length fields) 0))) begun
    ∙ is

-- one behind the gateway's own reply isn't malformed
pub replied_is_well : (outline : Outline) (fields : List Field) (ends : Bool) → is_some outline.cause ≡ true → is_malformed_behind outline fields ends ≡ false
replied_is_well outline fields ends replied = ap (λ x. not x && is_bad_block (carried_in outline) ends (Fields fields)) replied

-- ---- causes

pub fits_is_small : (fields : List Field) → total_size fields ≤ largest_fields → are_large fields ≡ false
fits_is_small fields fits = grind (arith, nat_tests, fits)

pub cause_of_trailers : (setup : Setup) (carried : Carried) (fields : List Field) → carried.begun ≡ true → are_large fields ≡ false → cause_of_block setup carried (Fields fields) ≡ None
cause_of_trailers setup carried fields begun small =
    ap (λ x. if x then cause_if (are_large fields) LargeFields else cause_of_head setup fields) begun ∙ ap (λ x. cause_if x LargeFields) small

pub cause_of_first : (setup : Setup) (carried : Carried) (fields : List Field) (cause : Option Cause) → carried.begun ≡ false → cause_of_head setup fields ≡ cause → cause_of_block setup carried (Fields fields) ≡ cause
cause_of_first setup carried fields cause begun is = ap (λ x. if x then cause_if (are_large fields) LargeFields else cause_of_head setup fields) begun ∙ is

-- ---- what is kept

-- the rows that a block without a fault leaves, by the course that was kept
pub left_by : (setup : Setup) (rows new : List Row) (id : ℕ) (fields : List Field) (ends : Bool) (outline : Outline) (cause : Option Cause) → new ≡ placed rows id (slot_of (kept_so (find rows id) outline ends))
    → cause_of_block setup (carried_in (find rows id).outline) (Fields fields) ≡ cause
    → outline ≡ outline_behind (find rows id).outline (is_some cause) (Block fields ends ∷ []) cause (find rows id).head_out
    → new ≡ placed rows id (slot_of (kept_with setup (find rows id) fields ends))
left_by setup rows new id fields ends outline cause left cause_is outline_is =
    left
    ∙ ap (λ (x : Outline). placed rows id (slot_of (kept_so (find rows id) x ends))) outline_is
    ∙ ap (λ (o : Option Cause). placed rows id (slot_of (kept_so (find rows id) (outline_behind (find rows id).outline (is_some o) (Block fields ends ∷ []) o (find rows id).head_out) ends))) (sym cause_is)

-- a course that is over, with a reply, stays as it is
over_so : (begun over was_out : Bool) (declared : Option ℕ) (octets : ℕ) (own : Option Cause) (x : Bool) (items : List Item) (cause : Option Cause) (out : Bool) → over ≡ true → is_some own ≡ true
    → outline_behind (record { begun = begun; declared = declared; octets = octets; over = over; cause = own; head_out = was_out }) x items cause out ≡ record { begun = begun; declared = declared; octets = octets; over = over; cause = own; head_out = was_out }
over_so begun true was_out declared octets (Some own) x items cause out is replied = refl
over_so begun true was_out declared octets None x items cause out is replied = absurd (let no : false ≡ true = replied in cc)
over_so begun false was_out declared octets own x items cause out is replied = absurd (let no : false ≡ true = is in cc)

pub over_same : (outline : Outline) (x : Bool) (items : List Item) (cause : Option Cause) (out : Bool) → outline.over ≡ true → is_some outline.cause ≡ true → outline_behind outline x items cause out ≡ outline
over_same outline x items cause out over replied = over_so outline.begun outline.over outline.head_out outline.declared outline.octets outline.cause x items cause out over replied

-- ---- what a course says

-- no reply is no cause
pub no_reply : (course : Course) (outline : Outline) → outline_of course ≡ outline → course.reply ≡ None → outline.cause ≡ None
no_reply course outline same none = sym (ap (λ (b : Outline). b.cause) same) ∙ ap (λ (r : Option Reply). option_map (λ (x : Reply). cause_of x.cause) r) none

-- a reply is a cause, and nothing more is looked at
pub reply_so : (course : Course) (outline : Outline) → outline_of course ≡ outline → is_some course.reply ≡ true → (is_some outline.cause ≡ true) × (outline.over ≡ true)
reply_so course outline same some =
    (sym (ap (λ (b : Outline). is_some b.cause) same) ∙ mapped course.reply some, sym (ap (λ (b : Outline). b.over) same) ∙ or_right course.over (is_some course.reply) some)
  where
    mapped : (r : Option Reply) → is_some r ≡ true → is_some (option_map (λ (x : Reply). cause_of x.cause) r) ≡ true
    mapped None is = is
    mapped (Some x) is = refl

-- where there is none, it is over just where it has come to its end
pub over_is : (course : Course) (outline : Outline) (b : Bool) → outline_of course ≡ outline → course.reply ≡ None → course.over ≡ b → outline.over ≡ b
over_is course outline b same none is =
    sym (ap (λ (x : Outline). x.over) same) ∙ ap (λ (r : Option Reply). course.over || is_some r) none ∙ or-false course.over ∙ is

-- where there is a cause it stays, and where there comes none
pub cause_stays : (old new : Option Cause) → is_some old ≡ true → first_of_both old new ≡ old
cause_stays None new is = cc
cause_stays (Some cause) new is = refl

pub none_joins : (old : Option Cause) {new : Option Cause} → new ≡ None → first_of_both old new ≡ old
none_joins None is = is
none_joins (Some cause) is = refl

-- ---- the last stream

-- where it isn't opened, or the state of the stream is against it, nothing else is a fault
pub not_last : (rows : List Row) (id : ℕ) (fields : List Field) (ends : Bool) → opens_last rows id ≡ false → fault_with true rows id fields ends ≡ fault_on rows id fields ends
not_last rows id fields ends is =
    ap (λ x. or_else (fault_of (verdict false rows id 1)) (or_else (fault_if (x && true) (Stream 11)) (fault_if (is_malformed_behind (find rows id).outline fields ends) (Stream protocol_error)))) is

pub refused_alike : (rows : List Row) (id : ℕ) (fields : List Field) (ends : Bool) → is_some (fault_of (verdict false rows id 1)) ≡ true → fault_with true rows id fields ends ≡ fault_on rows id fields ends
refused_alike rows id fields ends is = cases (fault_of (verdict false rows id 1)) is (no_goaway true rows id) (fault_if (is_malformed_behind (find rows id).outline fields ends) (Stream protocol_error))
  where
    cases : (o : Option Fault) → is_some o ≡ true → (n later : Option Fault) → or_else o (or_else n later) ≡ or_else o later
    cases (Some f) is n later = refl
    cases None is n later = absurd (let no : false ≡ true = is in cc)

-- where it is, that is its fault
pub last_fault : (rows : List Row) (id : ℕ) (fields : List Field) (ends : Bool) → fault_of (verdict false rows id 1) ≡ None → opens_last rows id ≡ true → fault_with true rows id fields ends ≡ Some (Stream 11)
last_fault rows id fields ends passes is =
    ap (λ (o : Option Fault). or_else o (or_else (no_goaway true rows id) (fault_if (is_malformed_behind (find rows id).outline fields ends) (Stream protocol_error)))) passes
    ∙ ap (λ x. or_else (fault_if (x && true) (Stream 11)) (fault_if (is_malformed_behind (find rows id).outline fields ends) (Stream protocol_error))) is

-- where the connection isn't crowded, the GOAWAY goes out
pub not_crowded : (rows : List Row) (id : ℕ) (fields : List Field) (ends : Bool) → fault_with false rows id fields ends ≡ fault_on rows id fields ends
not_crowded rows id fields ends =
    ap (λ x. or_else (fault_of (verdict false rows id 1)) (or_else (fault_if x (Stream 11)) (fault_if (is_malformed_behind (find rows id).outline fields ends) (Stream protocol_error)))) (and_right (opens_last rows id) false refl)

-- which one is the last, by how many were opened
pub last_is : (rows : List Row) (id n : ℕ) (may : Bool) → n ≡ length rows → may_open false (ids_of rows) id ≡ may → opens_last rows id ≡ (nat_lt n most_streams && (if may then suc n else n) == most_streams)
last_is rows id n may count is =
    let same : length (ids_of rows) ≡ n = length-map rows (λ (row : Row). row.id) ∙ sym count in
    ap (λ x. nat_lt (length (ids_of rows)) most_streams && length (if x then id ∷ ids_of rows else ids_of rows) == most_streams) is
    ∙ cases may same
  where
    cases : (may : Bool) → length (ids_of rows) ≡ n → (nat_lt (length (ids_of rows)) most_streams && length (if may then id ∷ ids_of rows else ids_of rows) == most_streams) ≡ (nat_lt n most_streams && (if may then suc n else n) == most_streams)
    cases true same = ap (λ (k : ℕ). nat_lt k most_streams && suc k == most_streams) same
    cases false same = ap (λ (k : ℕ). nat_lt k most_streams && k == most_streams) same

-- what comes of a block by itself comes of it where that is its fault
pub settles_alike : (fault : Option Fault) (setup : Setup) (rows left : List Row) (id : ℕ) (fields : List Field) (ends : Bool) (answer : BlockJudged) → fault ≡ fault_on rows id fields ends → Settles setup rows id fields ends left answer → SettlesBy fault setup rows id fields ends left answer
settles_alike fault setup rows left id fields ends (judged.Failed found) same is = (same ∙ is.0, is.1)
settles_alike fault setup rows left id fields ends judged.GoesOn same is = (same ∙ is.faultless, is)
settles_alike fault setup rows left id fields ends (judged.Begins head route) same is = (same ∙ is.faultless, is)
settles_alike fault setup rows left id fields ends (judged.Answered cause) same is = (same ∙ is.faultless, is)
settles_alike fault setup rows left id fields ends (judged.Trailers trailers) same is = (same ∙ is.faultless, is)
settles_alike fault setup rows left id fields ends judged.Ignored same is = (same ∙ is.faultless, is)
