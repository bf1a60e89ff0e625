-- A header block is its frame's stream's; no stream is opened twice, and none has the id 0 (RFC 9113, section 5.1.1).
use Rattle.std.proofs.Common.{◌≡◌, ℕ, ◌%◌, Bool, true, false, not, ◌&&◌, ◌||◌, ◌==◌, nat_lt, if◌then◌else◌, List, [], ◌∷◌, ◌++◌, length, refl, sym, ap, ◌∙◌, arith}
use Rattle.std.specs.Prelude.{Option, Some, None}
use Rattle.std.specs.List.{list_any, list_all}
use Rattle.std.proofs.lemmas.Bool.{and_parts, or_from, eqb-true, ltb-true, ne_eqb}
use Rattle.model.specs.Frames.{Frame, headers_kind, continuation_kind, ends_headers, ends_stream, content}
use Rattle.model.specs.Tapes.{Note, Noted, Entry, came}
use Rattle.model.specs.Tapes.Note.{NoBlock, Fields, Undecodable, Unread}
use Rattle.model.specs.Tapes.Entry.{Came, Breached, Happened, Sent, Did}
use Rattle.model.specs.Decoding.{Partial, begun, joined, completed}
use Rattle.model.specs.Limits.{most_streams}
use Rattle.model.specs.Lifetimes.{is_drained, may_open, opens_by, opened, is_opened}

-- ---- a header block is its frame's stream's

-- with a frame more
pub joined_own : (before : Option Partial) (frame : Frame) (block : Partial) → joined before frame ≡ Some block → block.id ≡ frame.id
joined_own None frame block is = cases (frame.kind == headers_kind) is
  where
    cases : (b : Bool) → (if b then Some (record { id = frame.id; ends = ends_stream frame; fragments = content frame }) else None) ≡ Some block → block.id ≡ frame.id
    cases true same = cc
    cases false same = absurd (cc)
joined_own (Some open_block) frame block is = cases (frame.kind == continuation_kind && frame.id == open_block.id) refl is
  where
    cases : (b : Bool) → (frame.kind == continuation_kind && frame.id == open_block.id) ≡ b → (if b then Some (record { id = open_block.id; ends = open_block.ends; fragments = open_block.fragments ++ content frame }) else None) ≡ Some block → block.id ≡ frame.id
    cases true same made = let own = eqb-true frame.id open_block.id (and_parts (frame.kind == continuation_kind) (frame.id == open_block.id) same).1 in cc
    cases false same made = absurd (cc)

pub block_own : (before : List Noted) (frame : Frame) (block : Partial) → completed before frame ≡ Some block → block.id ≡ frame.id
block_own before frame block is = cases (ends_headers frame) is
  where
    cases : (b : Bool) → (if b then joined (begun before) frame else None) ≡ Some block → block.id ≡ frame.id
    cases true made = joined_own (begun before) frame block made
    cases false made = absurd (cc)

-- ---- a stream that opens is new

-- an id above all others is none of them
pub none_equal : (ids : List ℕ) (id : ℕ) → list_all (λ other. nat_lt other id) ids ≡ true → list_any (λ other. other == id) ids ≡ false
none_equal [] id above = refl
none_equal (other ∷ ids) id above =
    let parts = and_parts (nat_lt other id) (list_all (λ o. nat_lt o id) ids) above in
    or_from (other == id) (list_any (λ o. o == id) ids) (ne_eqb other id (λ same. let below = ltb-true other id parts.0 in omega (arith, below, same))) (none_equal ids id parts.1)

-- an id that may open is above those of all streams, so none of them has it
pub not_opened : (drained : Bool) (ids : List ℕ) (id : ℕ) → may_open drained ids id ≡ true → list_any (λ other. other == id) ids ≡ false
not_opened drained ids id may =
    let both = and_parts (id % 2 == 1 && list_all (λ other. nat_lt other id) ids) (not drained && nat_lt (length ids) most_streams) may in
    none_equal ids id (and_parts (id % 2 == 1) (list_all (λ other. nat_lt other id) ids) both.0).1

-- a block that opens a stream has an id that may open
pub may_open_by : (drained : Bool) (ids : List ℕ) (block : Option Partial) (note : Note) (id : ℕ) → opens_by drained ids block note ≡ true → ((b : Partial) → block ≡ Some b → b.id ≡ id) → may_open drained ids id ≡ true
may_open_by drained ids None note id by own = absurd (let no : false ≡ true = by in cc)
may_open_by drained ids (Some block) NoBlock id by own = absurd (let no : false ≡ true = by in cc)
may_open_by drained ids (Some block) Undecodable id by own = absurd (let no : false ≡ true = by in cc)
may_open_by drained ids (Some block) Unread id by own = absurd (let no : false ≡ true = by in cc)
may_open_by drained ids (Some block) (Fields fields) id by own = ap (λ i. may_open drained ids i) (sym (own block refl)) ∙ by

-- a frame opens its stream only where that may be opened
pub opens_own : (t : List Entry) (noted : Noted) → opens_by (is_drained t) (opened t) (completed (came t) noted.frame) noted.note ≡ true → may_open (is_drained t) (opened t) noted.frame.id ≡ true
opens_own t noted by = may_open_by (is_drained t) (opened t) (completed (came t) noted.frame) noted.note noted.frame.id by (λ b e. block_own (came t) noted.frame b e)

-- so it wasn't opened before
pub opens_new : (t : List Entry) (noted : Noted) → opens_by (is_drained t) (opened t) (completed (came t) noted.frame) noted.note ≡ true → is_opened noted.frame.id t ≡ false
opens_new t noted by = not_opened (is_drained t) (opened t) noted.frame.id (opens_own t noted by)

-- ---- no stream has the id 0

-- an id that may open isn't 0
pub not_zero : (drained : Bool) (ids : List ℕ) (id : ℕ) → may_open drained ids id ≡ true → (id == 0) ≡ false
not_zero drained ids id may = ne_eqb id 0 (λ zero. absurd (let no : false ≡ true = ap (λ i. may_open drained ids i) (sym zero) ∙ may in cc))

pub none_zero : (t : List Entry) → is_opened 0 t ≡ false
none_zero [] = refl
none_zero (Came noted ∷ t) = by (opens_by (is_drained t) (opened t) (completed (came t) noted.frame) noted.note) refl (none_zero t)
  where
    by : (b : Bool) → opens_by (is_drained t) (opened t) (completed (came t) noted.frame) noted.note ≡ b → is_opened 0 t ≡ false → list_any (λ id. id == 0) (if b then noted.frame.id ∷ opened t else opened t) ≡ false
    by true e more = ap (λ b. b || is_opened 0 t) (not_zero (is_drained t) (opened t) noted.frame.id (opens_own t noted e)) ∙ more
    by false e more = more
none_zero (Breached breach ∷ t) = none_zero t
none_zero (Happened event ∷ t) = none_zero t
none_zero (Sent noted ∷ t) = none_zero t
none_zero (Did act ∷ t) = none_zero t
