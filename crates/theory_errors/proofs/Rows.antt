-- The rows that a program keeps of the streams will do, and go on to do.
use Rattle.std.proofs.Common.{◌≡◌, ℕ, Bool, true, false, ◌&&◌, ◌||◌, ◌==◌, if◌then◌else◌, List, [], ◌∷◌, map, Option, refl, sym, ◌∙◌, ap}
use Rattle.std.proofs.lemmas.Bool.{and_parts, and_from, or_parts, or_right, eqb-true}
use Rattle.std.specs.List.{list_any}
use Rattle.model.specs.Setup.{Setup}
use Rattle.model.specs.Tapes.{Entry}
use Rattle.model.specs.Tapes.Entry.{Came, Breached, Happened, Sent, Did}
use Rattle.model.specs.Errors.{Fault}
use Rattle.theory_errors.specs.Summary.{Stream as Kept, Summary}
use Rattle.theory_errors.specs.Judging.{is_over_in}
use Rattle.theory_errors.specs.After.{resets_it, stream_from, kept_behind}
use Rattle.theory_errors.specs.Rows.{fresh, Slot, kept_in, slot_of, Row, ids_of, find, row_behind, IsAlike}

-- ---- views that are alike

pub alike_through : (a b c : Kept) → IsAlike a b → IsAlike b c → IsAlike a c
alike_through a b c p q = record { over = p.over ∙ q.over; by_us = p.by_us ∙ q.by_us; live = λ is. p.live (q.over ∙ is) ∙ q.live is }

pub alike_itself : (a b : Kept) → a ≡ b → IsAlike a b
alike_itself a b same = record { over = ap is_over_in same; by_us = ap (λ (k : Kept). k.reset_by_gateway) same; live = λ is. same }

-- a slot keeps enough of a stream
pub slot_alike : (kept : Kept) → IsAlike (kept_in (slot_of kept)) kept
slot_alike kept = cases (is_over_in kept) refl
  where
    cases : (b : Bool) → is_over_in kept ≡ b → IsAlike (kept_in (if b then Slot.Over kept.reset_by_gateway else Slot.Live kept)) kept
    cases false is = alike_itself kept kept refl
    cases true is = record { over = closed kept.reset_by_gateway ∙ sym is; by_us = refl; live = λ live. absurd (let no : true ≡ false = sym is ∙ live in cc) }
      where
        closed : (us : Bool) → (us || false || true) ≡ true
        closed true = refl
        closed false = refl

-- ---- a stream that is over stays so

more_flags : (a us b peer c client d gateway : Bool) → (us || peer || client && gateway) ≡ true → ((a || us) || (b || peer) || (c || client) && (d || gateway)) ≡ true
more_flags true us b peer c client d gateway over = refl
more_flags false true b peer c client d gateway over = refl
more_flags false false true peer c client d gateway over = refl
more_flags false false false true c client d gateway over = refl
more_flags false false false false c client d gateway over =
    let both = and_parts client gateway over in and_from (c || client) (d || gateway) (or_right c client both.0) (or_right d gateway both.1)

pub over_stays : (setup : Setup) (fails : Bool) (s : Summary) (e : Entry) (id : ℕ) (kept : Kept) (found : Option Fault) → is_over_in kept ≡ true → is_over_in (stream_from setup fails s e id kept found) ≡ true
over_stays setup fails s (Came noted) id kept found over = more_flags false kept.reset_by_gateway _ kept.reset_by_client _ kept.ended_by_client false kept.ended_by_gateway over
over_stays setup fails s (Breached breach) id kept found over = over
over_stays setup fails s (Happened event) id kept found over = over
over_stays setup fails s (Sent noted) id kept found over = more_flags _ kept.reset_by_gateway false kept.reset_by_client false kept.ended_by_client _ kept.ended_by_gateway over
over_stays setup fails s (Did act) id kept found over = over

pub by_us_after : (setup : Setup) (fails : Bool) (v s : Summary) (e : Entry) (id : ℕ) (kept told : Kept) (x y : Option Fault) → kept.reset_by_gateway ≡ told.reset_by_gateway → (stream_from setup fails v e id kept x).reset_by_gateway ≡ (stream_from setup fails s e id told y).reset_by_gateway
by_us_after setup fails v s (Came noted) id kept told x y same = same
by_us_after setup fails v s (Breached breach) id kept told x y same = same
by_us_after setup fails v s (Happened event) id kept told x y same = same
by_us_after setup fails v s (Sent noted) id kept told x y same = ap (λ b. resets_it id noted.frame || b) same
by_us_after setup fails v s (Did act) id kept told x y same = same

-- ---- rows

-- a row that is there is found as it was changed
pub find_changed : (setup : Setup) (fails : Bool) (v : Summary) (e : Entry) (rows : List Row) (id : ℕ) → list_any (λ other. other == id) (ids_of rows) ≡ true → find (map (row_behind setup fails v e) rows) id ≡ kept_in (slot_of (kept_behind setup fails v e id (find rows id)))
find_changed setup fails v e [] id found = absurd (let no : false ≡ true = found in cc)
find_changed setup fails v e (row ∷ rows) id found = cases (row.id == id) refl (find_changed setup fails v e rows id)
  where
    rest : List Row
    rest = map (row_behind setup fails v e) rows

    cases : (b : Bool) → (row.id == id) ≡ b → (list_any (λ other. other == id) (ids_of rows) ≡ true → find rest id ≡ kept_in (slot_of (kept_behind setup fails v e id (find rows id))))
        → (if b then kept_in (slot_of (kept_behind setup fails v e row.id (kept_in row.slot))) else find rest id) ≡ kept_in (slot_of (kept_behind setup fails v e id (if b then kept_in row.slot else find rows id)))
    cases true is later = ap (λ (i : ℕ). kept_in (slot_of (kept_behind setup fails v e i (kept_in row.slot)))) (eqb-true row.id id is)
    cases false is later = later (ap (λ b. b || list_any (λ other. other == id) (ids_of rows)) (sym is) ∙ found)

-- of an id without a row nothing is kept
pub find_none : (rows : List Row) (id : ℕ) → list_any (λ other. other == id) (ids_of rows) ≡ false → find rows id ≡ fresh
find_none [] id none = refl
find_none (row ∷ rows) id none =
    let parts = or_parts (row.id == id) (list_any (λ other. other == id) (ids_of rows)) none in
    ap (λ b. if b then kept_in row.slot else find rows id) parts.0 ∙ find_none rows id parts.1

pub ids_changed : (setup : Setup) (fails : Bool) (v : Summary) (e : Entry) (rows : List Row) → ids_of (map (row_behind setup fails v e) rows) ≡ ids_of rows
ids_changed setup fails v e [] = refl
ids_changed setup fails v e (row ∷ rows) = ap (λ (ids : List ℕ). row.id ∷ ids) (ids_changed setup fails v e rows)
