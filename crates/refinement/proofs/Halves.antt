-- Where nothing is owed, the gateway hasn't ended a stream that is active: a response that ends before its request calls for a reset.
use Rattle.std.proofs.Common.{◌≡◌, ℕ, Bool, true, false, not, ◌&&◌, ◌||◌, ◌==◌, if◌then◌else◌, List, [], ◌∷◌, ◌++◌, Option, refl, sym, ◌∙◌, ap, subst, inl, inr}
use Rattle.std.specs.List.{list_any}
use Rattle.std.proofs.lemmas.Bool.{or_parts, and_parts, or_left, or_right, eqb-true}
use Rattle.std.proofs.lemmas.List.Folds.{list_any-append}
use Rattle.model.specs.Frames.{Frame, data_kind, headers_kind, window_update_kind, continuation_kind, ends_stream, no_error}
use Rattle.model.specs.Setup.{Setup}
use Rattle.model.specs.Tapes.{Noted, Entry}
use Rattle.model.specs.Tapes.Entry.{Came, Breached, Happened, Sent, Did}
use Rattle.model.specs.Decoding.{Partial}
use Rattle.model.specs.Lifetimes.{ends_by}
use Rattle.model.specs.ErrorClause.{acks, rst_stream, is_calming}
use Rattle.theory_errors.specs.Summary.{Stream as Kept, Summary}
use Rattle.theory_errors.specs.Judging.{is_over_in, completed_in, fault_for}
use Rattle.theory_errors.specs.Owing.{fault_in, owed_first_in, resets_in, reset_behind_in, owes_in}
use Rattle.theory_errors.specs.After.{resets_it, kept_behind}
use Rattle.theory_errors.specs.Rows.{find}
use Rattle.theory_errors.specs.Rule.{Move}
use Rattle.theory_errors.proofs.Few.{on_before}
use Rattle.theory_errors.proofs.Goaways.{goaway_calms}
use Rattle.theory_errors.specs.Turn.{rest_of, IsDue}
use Rattle.theory_errors.specs.Book.{as_point, Ledger, ledger_of, ledger_after, summary_in, MayMove, AllMoved}
use Rattle.theory_errors.proofs.Rows.{over_stays}
use Rattle.theory_errors.proofs.Turns.{completes_none}
use Rattle.theory.specs.Moves.{Move as Does}
use Rattle.theory.specs.State.{State, conducts}
use Rattle.theory.specs.Steps.{Stands}
use Rattle.theory.proofs.Telling.{all_moved}
use Rattle.refinement.proofs.Waits.{behind_rows}

-- Of each active stream that the gateway ended a reset is owed.
abbrev AreOwed : Ledger → Type 0
AreOwed ledger = (id : ℕ) → (find ledger.book.rows id).ended_by_gateway ≡ true → is_over_in (find ledger.book.rows id) ≡ false → list_any (resets_it id) ledger.queue ≡ true

none_owed : (id : ℕ) (queue : List Frame) → queue ≡ [] → list_any (resets_it id) queue ≡ true → ⊥
none_owed id queue none is = let no : false ≡ true = sym (ap (λ (fs : List Frame). list_any (resets_it id) fs) none) ∙ is in cc

later : (id : ℕ) (a b : List Frame) → list_any (resets_it id) b ≡ true → list_any (resets_it id) (a ++ b) ≡ true
later id a b is = list_any-append (resets_it id) a b ∙ or_right (list_any (resets_it id) a) (list_any (resets_it id) b) is

sooner : (id : ℕ) (a b : List Frame) → list_any (resets_it id) a ≡ true → list_any (resets_it id) (a ++ b) ≡ true
sooner id a b is = list_any-append (resets_it id) a b ∙ or_left (list_any (resets_it id) a) (list_any (resets_it id) b) is

module _ (setup : Setup) (ledger : Ledger) (before : AreOwed ledger) where
  abbrev s : Summary
  s = summary_in ledger.book

  module _ (fails : Bool) (e : Entry) (id : ℕ) where
    abbrev was : Kept
    was = find ledger.book.rows id

    abbrev goes : Kept
    goes = kept_behind setup fails s e id was

    -- it wasn't over before
    not_over : is_over_in goes ≡ false → is_over_in was ≡ false
    not_over on = by (is_over_in was) refl
      where
        by : (b : Bool) → is_over_in was ≡ b → is_over_in was ≡ false
        by false is = is
        by true is = absurd (let no : true ≡ false = sym (over_stays setup fails s e id was (fault_for was.outline s e) is) ∙ on in cc)

  -- what is so of what goes on of a stream is so of it
  of_rows : (fails : Bool) (e : Entry) (queue : List Frame) → ((id : ℕ) → (goes fails e id).ended_by_gateway ≡ true → is_over_in (goes fails e id) ≡ false → list_any (resets_it id) queue ≡ true) → AreOwed (record { book = (ledger_after setup ledger (record { entry = e; fails = fails })).book; queue = queue })
  of_rows fails e queue so id ended over = elim (behind_rows setup fails s e ledger.book.rows refl id) [
    | inl same ↦ so id (ap (λ (k : Kept). k.ended_by_gateway) (sym same) ∙ ended) (ap is_over_in (sym same) ∙ over)
    | inr gone ↦ absurd (gone.half ended over)
  ]

  module _ (fails : Bool) (noted : Noted) (id : ℕ) (ended : (goes fails (Sent noted) id).ended_by_gateway ≡ true) (on : is_over_in (goes fails (Sent noted) id) ≡ false) where
    abbrev frame : Frame
    frame = noted.frame

    abbrev ends_it : Bool
    ends_it = ends_by (completed_in s.block_out frame) frame

    abbrev called : List Frame
    called = owes_in setup fails s (Sent noted)

    -- a frame that is owed ends nothing, and leaves what is owed behind it
    paid : (ends crowded : Bool) → IsDue ends crowded ledger.queue noted → list_any (resets_it id) (rest_of ledger.queue ++ called) ≡ true
    paid ends crowded due = sooner id (rest_of ledger.queue) called (rest (resets_it id frame) refl)
      where
        beside : ((frame.kind == data_kind) ≡ false) × ((frame.kind == headers_kind) ≡ false) × ((frame.kind == continuation_kind) ≡ false)
        beside =
            let parts = or_parts (frame.kind == data_kind || frame.kind == headers_kind || frame.kind == continuation_kind) (frame.kind == window_update_kind) due.control in
            let third = or_parts (frame.kind == data_kind || frame.kind == headers_kind) (frame.kind == continuation_kind) parts.0 in
            let first = or_parts (frame.kind == data_kind) (frame.kind == headers_kind) third.0 in (first.0, first.1, third.1)

        ends_none : ends_it ≡ false
        ends_none = ap (λ (b : Option Partial). ends_by b frame) (completes_none s.block_out frame beside.1 beside.2) ∙ ap (λ b. b && ends_stream frame) beside.0

        neither : (b : Bool) → (b && false) ≡ false
        neither true = refl
        neither false = refl

        ended_before : (was fails (Sent noted) id).ended_by_gateway ≡ true
        ended_before = sym (ap (λ b. (frame.id == id) && b || (was fails (Sent noted) id).ended_by_gateway) ends_none ∙ ap (λ b. b || (was fails (Sent noted) id).ended_by_gateway) (neither (frame.id == id))) ∙ ended

        owed : list_any (resets_it id) (frame ∷ rest_of ledger.queue) ≡ true
        owed = subst (λ (q : List Frame). list_any (resets_it id) q ≡ true) due.front (before id ended_before (not_over fails (Sent noted) id on))

        rest : (b : Bool) → resets_it id frame ≡ b → list_any (resets_it id) (rest_of ledger.queue) ≡ true
        rest false is = sym (ap (λ b. b || list_any (resets_it id) (rest_of ledger.queue)) is) ∙ owed
        rest true is = absurd (let no : true ≡ false = sym (ap (λ b. ((b || (was fails (Sent noted) id).reset_by_gateway) || (was fails (Sent noted) id).reset_by_client) || (was fails (Sent noted) id).ended_by_client && (goes fails (Sent noted) id).ended_by_gateway) is) ∙ on in cc)

    -- one that isn't calls for the reset where it ends the stream
    passed : ledger.queue ≡ [] → list_any (resets_it id) (rest_of ledger.queue ++ called) ≡ true
    passed none = later id (rest_of ledger.queue) called (later id (owed_first_in s (Sent noted) (fault_in s (Sent noted))) (acks (Sent noted) (fault_in s (Sent noted)) ++ (resets_in setup fails s (Sent noted) ++ reset_behind_in s (Sent noted))) (later id (acks (Sent noted) (fault_in s (Sent noted))) (resets_in setup fails s (Sent noted) ++ reset_behind_in s (Sent noted)) (later id (resets_in setup fails s (Sent noted)) (reset_behind_in s (Sent noted)) reset)))
      where
        not_before : (was fails (Sent noted) id).ended_by_gateway ≡ false
        not_before = by (was fails (Sent noted) id).ended_by_gateway refl
          where
            by : (b : Bool) → (was fails (Sent noted) id).ended_by_gateway ≡ b → (was fails (Sent noted) id).ended_by_gateway ≡ false
            by false is = is
            by true is = absurd (none_owed id ledger.queue none (before id is (not_over fails (Sent noted) id on)))

        or_none : (b : Bool) → (b || false) ≡ true → b ≡ true
        or_none true e = refl
        or_none false e = e

        now : ((frame.id == id) ≡ true) × (ends_it ≡ true)
        now = and_parts (frame.id == id) ends_it (or_none ((frame.id == id) && ends_it) (ap (λ b. (frame.id == id) && ends_it || b) (sym not_before) ∙ ended))

        same : frame.id ≡ id
        same = eqb-true frame.id id now.0

        not_by_client : (was fails (Sent noted) id).ended_by_client ≡ false
        not_by_client = by (was fails (Sent noted) id).ended_by_client refl
          where
            last : ((was fails (Sent noted) id).ended_by_client && (goes fails (Sent noted) id).ended_by_gateway) ≡ false
            last = (or_parts _ ((was fails (Sent noted) id).ended_by_client && (goes fails (Sent noted) id).ended_by_gateway) on).1

            by : (b : Bool) → (was fails (Sent noted) id).ended_by_client ≡ b → (was fails (Sent noted) id).ended_by_client ≡ false
            by false is = is
            by true is = absurd (let no : true ≡ false = sym ended ∙ (ap (λ b. b && (goes fails (Sent noted) id).ended_by_gateway) (sym is) ∙ last) in cc)

        reset : list_any (resets_it id) (reset_behind_in s (Sent noted)) ≡ true
        reset =
            ap (λ b. list_any (resets_it id) (if b && not (s.stream frame.id).ended_by_client then rst_stream frame.id no_error ∷ [] else [])) now.1
            ∙ ap (λ n. list_any (resets_it id) (if not (s.stream n).ended_by_client then rst_stream frame.id no_error ∷ [] else [])) same
            ∙ ap (λ b. list_any (resets_it id) (if not b then rst_stream frame.id no_error ∷ [] else [])) not_by_client
            ∙ ap (λ b. b || false) now.0

  -- something comes in where nothing is owed
  came : (fails : Bool) (e : Entry) → ((id : ℕ) → (goes fails e id).ended_by_gateway ≡ (was fails e id).ended_by_gateway) → ledger.queue ≡ [] → AreOwed (ledger_after setup ledger (record { entry = e; fails = fails }))
  came fails e same none = of_rows fails e (ledger_after setup ledger (record { entry = e; fails = fails })).queue (λ id ended on. absurd (none_owed id ledger.queue none (before id (sym (same id) ∙ ended) (not_over fails e id on))))

  done : (fails : Bool) (e : Entry) → MayMove ledger (record { entry = e; fails = fails }) → (ledger_after setup ledger (record { entry = e; fails = fails })).book.ends ≡ false → AreOwed (ledger_after setup ledger (record { entry = e; fails = fails }))
  done fails (Came noted) may on = came fails (Came noted) (λ id. refl) may.allowed.turn.nothing
  done fails (Breached breach) may on = came fails (Breached breach) (λ id. refl) may.allowed.turn.nothing
  done fails (Happened event) may on = came fails (Happened event) (λ id. refl) may.allowed.turn.nothing
  done fails (Did act) may goes = of_rows fails (Did act) ledger.queue (λ id ended on. before id ended (not_over fails (Did act) id on))
  done fails (Sent noted) may goes =
      let calmless : is_calming noted.frame ≡ false = (or_parts (is_calming noted.frame) ledger.book.ends goes).0 in
      subst (λ (b : Bool). AreOwed (record { book = (ledger_after setup ledger (record { entry = Sent noted; fails = fails })).book; queue = if b && not ledger.book.ends then [] else rest_of ledger.queue ++ owes_in setup fails s (Sent noted) })) (sym calmless)
      (of_rows fails (Sent noted) (rest_of ledger.queue ++ owes_in setup fails s (Sent noted)) (λ id ended on. elim may.allowed.turn [
        | inl due ↦ paid fails noted id ended on _ _ due
        | inr (inl pass) ↦ passed fails noted id ended on pass.nothing
        | inr (inr stands) ↦ absurd (let no : true ≡ false = sym (goaway_calms _ noted.frame stands.goaway) ∙ calmless in cc)
      ]))

all_owed : (setup : Setup) (moves : List Move) → AllMoved setup moves → (ledger_of setup moves).book.ends ≡ false → AreOwed (ledger_of setup moves)
all_owed setup [] all goes = λ id ended on. cc
all_owed setup (m ∷ moves) all goes = done setup (ledger_of setup moves) (all_owed setup moves all.0 (on_before (as_point (ledger_of setup moves)) m.entry all.1.allowed.turn goes)) m.fails m.entry all.1 goes

-- Where nothing is owed, an active stream isn't ended by the gateway.
pub not_half_closed : (setup : Setup) (run : List Does) (s : State) → Stands setup run s → s.ledger.queue ≡ [] → (id : ℕ) → is_over_in (find s.ledger.book.rows id) ≡ false → (find s.ledger.book.rows id).ended_by_gateway ≡ false
not_half_closed setup run s stands none id on = by (find s.ledger.book.rows id).ended_by_gateway refl
  where
    owed : AreOwed s.ledger
    owed = subst (λ (x : State). AreOwed x.ledger) stands.is (all_owed setup (conducts run) (all_moved (record { setup = setup; failures = [] }) run stands.allowed) (ap (λ (x : State). x.ledger.book.ends) stands.is ∙ stands.goes_on))

    by : (b : Bool) → (find s.ledger.book.rows id).ended_by_gateway ≡ b → (find s.ledger.book.rows id).ended_by_gateway ≡ false
    by false is = is
    by true is = absurd (none_owed id s.ledger.queue none (owed id is on))
