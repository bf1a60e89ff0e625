-- DATA without a fault: its octets are gathered, or end their request, or are more than the gateway takes.
use Rattle.std.proofs.Common.{◌≡◌, ℕ, suc, ◌<◌, ◌≤◌, Bool, true, false, not, ◌&&◌, ◌||◌, ◌==◌, if◌then◌else◌, List, [], ◌∷◌, filter, length, Option, Some, None, refl, sym, ◌∙◌, ap, subst, arith}
use Rattle.std.proofs.lemmas.Bool.{and_parts, eqb-false, ne_eqb, eqb-true}
use Rattle.std.specs.List.{list_any}
use Rattle.model.specs.Frames.{Frame, data_kind, rst_stream_kind}
use Rattle.model.specs.Setup.{Setup}
use Rattle.model.specs.Errors.{Fault, or_else}
use Rattle.model.specs.FrameErrors.{fault_if}
use Rattle.model.specs.ErrorClause.{is_fatal}
use Rattle.model.specs.Limits.{most_streams}
use Rattle.model.specs.WindowsOnTape.{has_settings}
use Rattle.theory_errors.specs.Summary.{Stream as Kept}
use Rattle.theory_errors.specs.Judging.{is_over_in}
use Rattle.theory_errors.specs.Owing.{fault_in, must_end_in}
use Rattle.theory_errors.specs.Rows.{Row, ids_of, find}
use Rattle.theory_errors.specs.Quiet.{coming}
use Rattle.theory_errors.specs.Book.{Book, book_after}
use Rattle.theory_errors.specs.Tidy.{AreKept}
use Rattle.streams.specs.Asked.{has, is_active}
use Rattle.connection_state.specs.Inbound.{Inbound, Outside, book_of, told_of}
use Rattle.connection_state.specs.Judgement.{IsPlain, IsTaken}
use Rattle.connection_state.specs.declared.answers.Judged.{Judged}
use Rattle.theory.specs.Moves.{Move}
use Rattle.theory.specs.State.{State}
use Rattle.refinement.specs.View.{View, balanced, Leads}
use Rattle.refinement.specs.Rest.{IsAtRest}
use Rattle.refinement.proofs.Halves.{not_half_closed}
use Rattle.refinement.proofs.Coming.{outside_of, encoding_with}
use Rattle.event_handlers.proofs.plain_frames.Streams.{behind_frame, none_completed, lives, over_half}
use Rattle.event_handlers.proofs.plain_frames.Faults.{names_none}
use Rattle.event_handlers.proofs.plain_frames.Standing.{active_with}
use Rattle.event_handlers.proofs.plain_frames.Coming.{few, kept_rows}
use Rattle.event_handlers.proofs.plain_frames.Quiet.{active_on}
use Rattle.theory_header_tables.specs.Verdicts.{verdict_in}
use Rattle.theory_header_tables.specs.State.{named_by}

-- ---- numbers

pub above_zero : (id : ℕ) → (id == 0) ≡ false → 0 < id
above_zero id is = let apart = eqb-false id 0 is in omega (arith, apart)

some_filtered : (test : ℕ → Bool) (id : ℕ) (ids : List ℕ) → list_any (λ n. n == id) ids ≡ true → test id ≡ true → (length (filter test ids) == 0) ≡ false
some_filtered test id [] there on = cc
some_filtered test id (n ∷ ids) there on = by (test n) refl (n == id) refl (some_filtered test id ids)
  where
    above : (xs : List ℕ) → (length (n ∷ xs) == 0) ≡ false
    above xs = ne_eqb (length (n ∷ xs)) 0 (λ same. let none : suc (length xs) ≡ 0 = same in omega (arith, none))

    by : (x : Bool) → test n ≡ x → (y : Bool) → (n == id) ≡ y → (list_any (λ n. n == id) ids ≡ true → test id ≡ true → (length (filter test ids) == 0) ≡ false) → (length (if x then n ∷ filter test ids else filter test ids) == 0) ≡ false
    by true tests y own rest = above (filter test ids)
    by false tests true own rest = absurd (let no : true ≡ false = sym on ∙ sym (ap test (eqb-true n id own)) ∙ tests in cc)
    by false tests false own rest = rest (sym (ap (λ x. x || list_any (λ n. n == id) ids) own) ∙ there) on

-- where a stream is active the connection isn't to end
pub active_goes_on : (outside : Outside) (inbound : Inbound) (id : ℕ) → is_active inbound.rows id ≡ true → must_end_in (told_of outside inbound) ≡ false
active_goes_on outside inbound id active =
    let parts = and_parts (has inbound.rows id) (not (is_over_in (find inbound.rows id))) active in
    ap (λ x. (inbound.drained || length (ids_of inbound.rows) == most_streams) && x) (some_filtered (λ n. not (is_over_in (find inbound.rows n))) id (ids_of inbound.rows) parts.0 parts.1) ∙ and_false (inbound.drained || length (ids_of inbound.rows) == most_streams)
  where
    and_false : (b : Bool) → (b && false) ≡ false
    and_false true = refl
    and_false false = refl

pub second_none : (a b : Option Fault) → or_else a b ≡ None → b ≡ None
second_none None b is = is
second_none (Some fault) b is = cc

pub none_if : (x : Bool) (fault : Fault) → fault_if x fault ≡ None → x ≡ false
none_if false fault is = refl
none_if true fault is = cc

module _ (setup : Setup) (old : View) (rest : IsAtRest old) (frame : Frame) (plain : IsPlain frame) (inbound : Inbound) (table : inbound.table ≡ old.inbound.table) (answer : Judged) (taken : (outside : Outside) → IsTaken setup (book_of outside old.inbound) frame (book_of outside inbound) answer) (kind : frame.kind ≡ data_kind) where
  abbrev b : Book
  b = book_of (outside_of old.untaken) old.inbound

  abbrev k : Kept
  k = find old.inbound.rows frame.id

  pub mild : (outside : Outside) → is_fatal (fault_in (told_of outside old.inbound) (coming frame)) ≡ false
  mild outside = ap is_fatal (taken outside).faultless

  rows_are : inbound.rows ≡ (book_after setup false b (coming frame)).rows
  rows_are = ap (λ (x : Book). x.rows) (taken (outside_of old.untaken)).left

  pub names : (outside : Outside) → encoding_with (named_by (verdict_in (told_of outside old.inbound) frame) frame) old.encoding ≡ old.encoding
  names outside = names_none (told_of outside old.inbound) frame (ap (λ k. has_settings (record frame { kind = k })) kind) old.encoding

  module _ (run : List Move) (s : State) (leads : Leads setup run old balanced s) where
    kept : AreKept old.inbound.rows
    kept = kept_rows setup run old s leads

    -- its stream is active before it and behind it
    pub was_active : is_active old.inbound.rows frame.id ≡ true
    was_active =
        active_with b frame data_kind kind refl refl refl (none_completed setup b frame plain kept) (subst (λ (x : Book). length (ids_of x.rows) ≤ most_streams) leads.keeps.book (few setup run old s leads)) (taken (outside_of old.untaken)).faultless

    on : is_over_in (behind_frame setup b frame) ≡ false
    on =
        over_half setup b frame plain kept (ap (λ n. n == rst_stream_kind) kind)
        (subst (λ (x : Book). (find x.rows frame.id).ended_by_gateway ≡ false) leads.keeps.book (not_half_closed setup run s leads.stands leads.keeps.owed frame.id (ap (λ (x : Book). is_over_in (find x.rows frame.id)) leads.keeps.book ∙ active_on old.inbound.rows frame.id was_active)))
        (active_on old.inbound.rows frame.id was_active)

    abbrev now_found : (find inbound.rows frame.id ≡ behind_frame setup b frame) × (is_active inbound.rows frame.id ≡ true)
    now_found = subst (λ (rows : List Row). (find rows frame.id ≡ behind_frame setup b frame) × (is_active rows frame.id ≡ true)) (sym rows_are) (lives setup b frame plain kept was_active on)

    pub is_active_now : is_active inbound.rows frame.id ≡ true
    is_active_now = now_found.1

    pub found_now : find inbound.rows frame.id ≡ behind_frame setup b frame
    found_now = now_found.0
