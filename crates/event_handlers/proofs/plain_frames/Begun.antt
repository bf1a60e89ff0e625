-- An active stream whose items aren't over has begun: it was opened by the head of its request.
use Rattle.std.proofs.Common.{◌≡◌, ℕ, Bool, true, false, not, ◌&&◌, ◌||◌, ◌==◌, if◌then◌else◌, List, [], ◌∷◌, map, Option, Some, None, refl, sym, ◌∙◌, ap, subst}
use Rattle.std.proofs.lemmas.Bool.{and_parts, and_from, or_parts, eq-eqb}
use Rattle.std.specs.List.{list_any}
use Rattle.model.specs.Messages.{ends_with}
use Rattle.model.specs.Setup.{Setup}
use Rattle.model.specs.Tapes.{Note, Entry}
use Rattle.model.specs.Tapes.Note.{NoBlock, Fields, Undecodable, Unread}
use Rattle.model.specs.Tapes.Entry.{Came, Breached, Happened, Sent, Did}
use Rattle.model.specs.Decoding.{Partial}
use Rattle.model.specs.Streams.{frame_items}
use Rattle.model.specs.Malformed.{is_begun}
use Rattle.model.specs.Lifetimes.{opens_by}
use Rattle.model.specs.Courses.{interrupts}
use Rattle.theory_errors.specs.Summary.{Stream as Kept, Summary}
use Rattle.theory_errors.specs.Judging.{is_over_in, completed_in, fault_for}
use Rattle.theory_errors.specs.Owing.{items_in, new_cause_in}
use Rattle.theory_errors.specs.After.{kept_behind}
use Rattle.theory_errors.specs.Rows.{Row, fresh, ids_of, find, kept_in, row_behind, row_opened}
use Rattle.theory_errors.specs.Rule.{Move}
use Rattle.theory_errors.specs.Book.{Book, summary_in, book_after, ledger_of}
use Rattle.theory_errors.proofs.Rows.{find_changed, ids_changed, over_stays, slot_alike}
use Rattle.streams.specs.Asked.{has, is_active}
use Rattle.theory.specs.State.{State, conducts}
use Rattle.theory.specs.Steps.{Stands}
use Rattle.theory.specs.Moves as theory

-- items came on active streams, unless they are over
abbrev AreBegun : List Row → Type 0
AreBegun rows = (id : ℕ) → is_active rows id ≡ true → (find rows id).outline.over ≡ false → (find rows id).outline.begun ≡ true

flipped : (x : Bool) → not x ≡ true → x ≡ false
flipped false is = refl
flipped true is = cc

begun_on : (over interrupted before more : Bool) → over ≡ false → interrupted ≡ false → (before || more) ≡ true → (if over || interrupted then before else before || more) ≡ true
begun_on over interrupted before more a b is = ap (λ x. if x || interrupted then before else before || more) a ∙ ap (λ x. if x then before else before || more) b ∙ is

or_left : (a b : Bool) → a ≡ true → (a || b) ≡ true
or_left a b is = ap (λ x. x || b) is

module _ (setup : Setup) (fails : Bool) (s : Summary) (e : Entry) (id : ℕ) (k : Kept) where
  abbrev now : Kept
  now = kept_behind setup fails s e id k

  abbrev interrupted : Bool
  interrupted = interrupts id e (fault_for k.outline s e) (new_cause_in setup fails id s e k.outline (fault_for k.outline s e))

  -- what came of a stream goes on so
  course_on : now.outline.over ≡ false → (k.outline.over ≡ false) × (interrupted ≡ false)
  course_on over =
      let last = or_parts (k.outline.over || interrupted) (list_any ends_with (items_in id s e)) over in
      or_parts k.outline.over interrupted last.0

  begun_then : now.outline.over ≡ false → (k.outline.begun || is_begun (items_in id s e)) ≡ true → now.outline.begun ≡ true
  begun_then over is = let on = course_on over in begun_on k.outline.over interrupted k.outline.begun (is_begun (items_in id s e)) on.0 on.1 is

-- rows that are changed one at a time
rows_begun : (setup : Setup) (fails : Bool) (s : Summary) (e : Entry) (rows : List Row) → AreBegun rows → AreBegun (map (row_behind setup fails s e) rows)
rows_begun setup fails s e rows begun id active over =
    let parts = and_parts (has (map (row_behind setup fails s e) rows) id) (not (is_over_in (find (map (row_behind setup fails s e) rows) id))) active in
    let there : has rows id ≡ true = ap (λ (ids : List ℕ). list_any (λ n. n == id) ids) (sym (ids_changed setup fails s e rows)) ∙ parts.0 in
    let found = find_changed setup fails s e rows id there in
    let k : Kept = find rows id in
    let on : is_over_in (kept_behind setup fails s e id k) ≡ false = sym (slot_alike (kept_behind setup fails s e id k)).over ∙ ap is_over_in (sym found) ∙ flipped (is_over_in (find (map (row_behind setup fails s e) rows) id)) parts.1 in
    let same : find (map (row_behind setup fails s e) rows) id ≡ kept_behind setup fails s e id k = found ∙ (slot_alike (kept_behind setup fails s e id k)).live on in
    let over_now : (kept_behind setup fails s e id k).outline.over ≡ false = ap (λ (x : Kept). x.outline.over) (sym same) ∙ over in
    let before : is_over_in k ≡ false = was (is_over_in k) refl on in
    ap (λ (x : Kept). x.outline.begun) same
    ∙ begun_then setup fails s e id k over_now (or_left k.outline.begun _ (begun id (and_from (has rows id) (not (is_over_in k)) there (ap not before)) (course_on setup fails s e id k over_now).0))
  where
    was : (x : Bool) → is_over_in (find rows id) ≡ x → is_over_in (kept_behind setup fails s e id (find rows id)) ≡ false → is_over_in (find rows id) ≡ false
    was false is on = is
    was true is on = absurd (let no : true ≡ false = sym (over_stays setup fails s e id (find rows id) (fault_for (find rows id).outline s e) is) ∙ on in cc)

-- behind an entry
pub begun_behind : (setup : Setup) (fails : Bool) (b : Book) (e : Entry) → AreBegun b.rows → AreBegun (book_after setup fails b e).rows
begun_behind setup fails b (Breached breach) begun = rows_begun setup fails (summary_in b) (Breached breach) b.rows begun
begun_behind setup fails b (Happened event) begun = rows_begun setup fails (summary_in b) (Happened event) b.rows begun
begun_behind setup fails b (Sent noted) begun = rows_begun setup fails (summary_in b) (Sent noted) b.rows begun
begun_behind setup fails b (Did act) begun = rows_begun setup fails (summary_in b) (Did act) b.rows begun
begun_behind setup fails b (Came noted) begun = by (opens_by b.drained (ids_of b.rows) (completed_in b.block noted.frame) noted.note) refl
  where
    s : Summary
    s = summary_in b

    rest : List Row
    rest = map (row_behind setup fails s (Came noted)) b.rows

    front : Row
    front = row_opened setup fails s (Came noted) noted.frame.id

    brings : (block : Option Partial) (note : Note) → opens_by b.drained (ids_of b.rows) block note ≡ true → is_begun (frame_items block (record noted { note = note })) ≡ true
    brings None note opens = cc
    brings (Some block) (Fields fields) opens = refl
    brings (Some block) NoBlock opens = cc
    brings (Some block) Undecodable opens = cc
    brings (Some block) Unread opens = cc

    new : opens_by b.drained (ids_of b.rows) (completed_in b.block noted.frame) noted.note ≡ true → AreBegun (front ∷ rest)
    new opens id active over = here (noted.frame.id == id) refl
      where
        here : (x : Bool) → (noted.frame.id == id) ≡ x → (find (front ∷ rest) id).outline.begun ≡ true
        here false apart =
            let beside : find (front ∷ rest) id ≡ find rest id = ap (λ x. if x then kept_in front.slot else find rest id) apart in
            ap (λ (k : Kept). k.outline.begun) beside
            ∙ rows_begun setup fails s (Came noted) b.rows begun id
            (sym (ap (λ x. (x || has rest id) && not (is_over_in (find (front ∷ rest) id))) apart ∙ ap (λ (k : Kept). has rest id && not (is_over_in k)) beside) ∙ active)
            (ap (λ (k : Kept). k.outline.over) (sym beside) ∙ over)
        here true own =
            let opened : find (front ∷ rest) id ≡ kept_in front.slot = ap (λ x. if x then kept_in front.slot else find rest id) own in
            let k : Kept = kept_behind setup fails s (Came noted) noted.frame.id fresh in
            let parts = and_parts (has (front ∷ rest) id) (not (is_over_in (find (front ∷ rest) id))) active in
            let on : is_over_in k ≡ false = sym (slot_alike k).over ∙ ap is_over_in (sym opened) ∙ flipped (is_over_in (find (front ∷ rest) id)) parts.1 in
            let same : find (front ∷ rest) id ≡ k = opened ∙ (slot_alike k).live on in
            ap (λ (x : Kept). x.outline.begun) same
            ∙ begun_then setup fails s (Came noted) noted.frame.id fresh (ap (λ (x : Kept). x.outline.over) (sym same) ∙ over)
            (ap (λ x. is_begun (if x then frame_items (completed_in b.block noted.frame) noted else [])) (eq-eqb noted.frame.id noted.frame.id refl) ∙ brings (completed_in b.block noted.frame) noted.note opens)

    by : (x : Bool) → opens_by b.drained (ids_of b.rows) (completed_in b.block noted.frame) noted.note ≡ x → AreBegun (if x then front ∷ rest else rest)
    by true opens = new opens
    by false opens = rows_begun setup fails s (Came noted) b.rows begun

-- behind all moves
all_begun : (setup : Setup) (moves : List Move) → AreBegun (ledger_of setup moves).book.rows
all_begun setup [] = λ id active over. cc
all_begun setup (m ∷ moves) = begun_behind setup m.fails (ledger_of setup moves).book m.entry (all_begun setup moves)

-- Where moves led, items came on each active stream, unless they are over.
pub begun_where : (setup : Setup) (run : List theory.Move) (s : State) → Stands setup run s → AreBegun s.ledger.book.rows
begun_where setup run s stands = subst (λ (x : State). AreBegun x.ledger.book.rows) stands.is (all_begun setup (conducts run))
