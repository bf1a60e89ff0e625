-- Whose turn it is, as the rows tell it; and frames beside responses, which call for nothing, whatever the summary.
use Rattle.std.proofs.Common.{◌≡◌, ℕ, ◌≤◌, Bool, true, false, not, ◌&&◌, ◌||◌, ◌==◌, nat_lt, if◌then◌else◌, List, [], ◌∷◌, ◌++◌, length, Option, None, refl, sym, ◌∙◌, ap, inl, inr}
use Rattle.std.proofs.lemmas.Bool.{and_parts, and_from, or_parts, eqb-true}
use Rattle.model.specs.Frames.{Frame, data_kind, headers_kind, continuation_kind, window_update_kind, has_flag, ends_stream, goaway, no_error}
use Rattle.model.specs.Setup.{Setup}
use Rattle.model.specs.Logs.Act.{Open, ToUp, Close, CloseClient}
use Rattle.model.specs.Tapes.{Noted, Entry}
use Rattle.model.specs.Tapes.Entry.{Came, Breached, Happened, Sent, Did}
use Rattle.model.specs.Decoding.{Partial, joined}
use Rattle.model.specs.Limits.{most_streams, high_water}
use Rattle.model.specs.Lifetimes.{ends_by}
use Rattle.model.specs.ErrorClause.{is_fatal, is_calming, is_passing, is_plainly_flagged, is_filled, rst_stream}
use Rattle.model.specs.Octets.{is_empty}
use Rattle.theory_errors.specs.Turn.{rest_of}
use Rattle.theory_errors.specs.Summary.{Stream as Kept, Summary}
use Rattle.theory_errors.specs.Judging.{is_active_in, completed_in}
use Rattle.theory_errors.specs.Owing.{about_in, next_outline, highest_in, resets_in, reset_behind_in, owes_in, is_given_back_in, is_part_in, is_rightly_sent_in}
use Rattle.theory_errors.specs.Rows.{WillDo, with_streams}
use Rattle.theory_errors.specs.Rule.{Move, queue_behind, IsInTurn, Allowed}
use Rattle.theory_errors.specs.Book.{IsFit}
use Rattle.model.proofs.OwedSteps.{neither_full, no_reset_for}
use Rattle.theory_errors.proofs.Goaways.{goaway_control}
use Rattle.theory_errors.proofs.Alike.{when_active}
use Rattle.theory_errors.proofs.Seen.{EndsActive, FailsActive, fault_seen, owes_seen, end_seen, rightly_seen}

-- ---- frames beside responses

-- a frame that is neither HEADERS nor CONTINUATION completes no header block
pub completes_none : (begun : Option Partial) (frame : Frame) → (frame.kind == headers_kind) ≡ false → (frame.kind == continuation_kind) ≡ false → completed_in begun frame ≡ None
completes_none begun frame h c =
    ap (λ b. if (b || frame.kind == continuation_kind) && has_flag 4 frame then joined begun frame else None) h
    ∙ ap (λ b. if b && has_flag 4 frame then joined begun frame else None) c

-- nor does it end its stream, unless it is DATA
ends_none : (begun : Option Partial) (frame : Frame) → (frame.kind == data_kind) ≡ false → (frame.kind == headers_kind) ≡ false → (frame.kind == continuation_kind) ≡ false → ends_by (completed_in begun frame) frame ≡ false
ends_none begun frame d h c =
    ap (λ (block : Option Partial). ends_by block frame) (completes_none begun frame h c) ∙ ap (λ b. b && ends_stream frame) d

control_ends_none : (begun : Option Partial) (noted : Noted) → is_passing noted ≡ false → ends_by (completed_in begun noted.frame) noted.frame ≡ false
control_ends_none begun noted control =
    let frame : Frame = noted.frame in
    let w = or_parts (frame.kind == data_kind || frame.kind == headers_kind || frame.kind == continuation_kind) (frame.kind == window_update_kind) control in
    let c = or_parts (frame.kind == data_kind || frame.kind == headers_kind) (frame.kind == continuation_kind) w.0 in
    let d = or_parts (frame.kind == data_kind) (frame.kind == headers_kind) c.0 in
    ends_none begun frame d.0 d.1 c.1

-- such a frame calls for nothing
pub control_owes : (setup : Setup) (fails : Bool) (s : Summary) (noted : Noted) → is_passing noted ≡ false → owes_in setup fails s (Sent noted) ≡ []
control_owes setup fails s noted control =
    ap (λ b. (if b then goaway (highest_in s.opened) no_error ∷ [] else []) ++ (resets_in setup fails s (Sent noted) ++ reset_behind_in s (Sent noted))) (neither_full s.drained (length s.opened) most_streams)
    ∙ ap (λ (fs : List Frame). fs ++ reset_behind_in s (Sent noted)) (none_reset (0 == 0 && nat_lt 0 0))
    ∙ ap (λ b. if b && not (s.stream noted.frame.id).ended_by_client then rst_stream noted.frame.id no_error ∷ [] else []) (control_ends_none s.block_out noted control)
  where
    none_reset : (b : Bool) → resets_in setup fails s (Sent noted) ≡ []
    none_reset b = no_reset_for 0 (next_outline setup fails 0 s (Sent noted)).head_out (s.stream 0).outline.cause

-- ---- the same turn

-- A frame that is sent in its turn ends its stream only where that is active.
pub ends_active : (s : Summary) (queue : List Frame) (e : Entry) → IsInTurn (record { summary = s; queue = queue }) e → EndsActive s e
ends_active s queue (Came noted) turn = tt
ends_active s queue (Breached breach) turn = tt
ends_active s queue (Happened event) turn = tt
ends_active s queue (Did act) turn = tt
ends_active s queue (Sent noted) (inl due) = λ ends. absurd (let no : true ≡ false = sym ends ∙ control_ends_none s.block_out noted due.control in cc)
ends_active s queue (Sent noted) (inr (inr stand)) = λ ends. absurd (let no : true ≡ false = sym ends ∙ control_ends_none s.block_out noted (goaway_control (highest_in s.opened) noted stand.goaway) in cc)
ends_active s queue (Sent noted) (inr (inl may)) = λ ends. cases (noted.frame.kind == window_update_kind) refl may.rightly ends
  where
    sent_so : (b : Bool) → (is_plainly_flagged noted.frame && (if b then is_given_back_in s noted.frame else is_part_in s noted.frame)) ≡ true → b ≡ false → is_active_in noted.frame.id s ≡ true
    sent_so true rightly is = absurd (let no : true ≡ false = is in cc)
    sent_so false rightly is =
        let part : is_part_in s noted.frame ≡ true = (and_parts (is_plainly_flagged noted.frame) (is_part_in s noted.frame) rightly).1 in
        let begun : Bool = noted.frame.kind == continuation_kind || nat_lt s.untaken high_water in
        let some : Bool = not (is_empty noted.frame.payload) || noted.frame.kind == data_kind && ends_stream noted.frame in
        let own : Bool = is_active_in noted.frame.id s && not (s.stream noted.frame.id).ended_by_gateway in
        let all = and_parts (own && some && begun) (is_filled noted.frame) part in
        let both = and_parts own some (and_parts (own && some) begun all.0).0 in
        (and_parts (is_active_in noted.frame.id s) (not (s.stream noted.frame.id).ended_by_gateway) both.0).0

    cases : (b : Bool) → (noted.frame.kind == window_update_kind) ≡ b → is_rightly_sent_in s noted.frame ≡ true → ends_by (completed_in s.block_out noted.frame) noted.frame ≡ true → is_active_in noted.frame.id s ≡ true
    cases false is rightly ends = sent_so (noted.frame.kind == window_update_kind) rightly is
    cases true is rightly ends =
        let kind : noted.frame.kind ≡ window_update_kind = eqb-true noted.frame.kind window_update_kind is in
        let no_data : (noted.frame.kind == data_kind) ≡ false = ap (λ k. k == data_kind) kind in
        let no_headers : (noted.frame.kind == headers_kind) ≡ false = ap (λ k. k == headers_kind) kind in
        let no_more : (noted.frame.kind == continuation_kind) ≡ false = ap (λ k. k == continuation_kind) kind in
        absurd (let no : true ≡ false = sym ends ∙ ends_none s.block_out noted.frame no_data no_headers no_more in cc)

module _ (setup : Setup) (fails : Bool) (f : ℕ → Kept) (s : Summary) (will : WillDo f s) (few : length s.opened ≤ most_streams) where
  -- the summary with these views of the streams
  abbrev seen : Summary
  seen = with_streams f s

  active_told : (id : ℕ) → is_active_in id seen ≡ true → is_active_in id s ≡ true
  active_told id is =
      let both : (is_active_in id seen && true) ≡ true = and_from (is_active_in id seen) true is refl in
      (and_parts (is_active_in id s) true (sym (when_active f s will (λ kept. true) id) ∙ both)).0

  -- An entry that is fit by the rows is fit.
  pub fit_told : (e : Entry) → IsFit fails seen e → IsFit fails s e
  fit_told (Came noted) fit = λ on. fit (ap is_fatal (fault_seen setup fails f s will few (Came noted)) ∙ on)
  fit_told (Breached breach) fit = fit
  fit_told (Happened event) fit = λ fell. active_told (about_in s (Happened event)) (fit fell)
  fit_told (Sent noted) fit = fit
  fit_told (Did act) fit = fit

  turn_told : (queue : List Frame) (e : Entry) → IsInTurn (record { summary = seen; queue = queue }) e → IsInTurn (record { summary = s; queue = queue }) e
  turn_told queue (Came noted) turn = record { nothing = turn.nothing; none_begun = turn.none_begun; goes_on = sym (end_seen setup fails f s will few) ∙ turn.goes_on }
  turn_told queue (Breached breach) turn = record { nothing = turn.nothing; none_begun = turn.none_begun; goes_on = sym (end_seen setup fails f s will few) ∙ turn.goes_on }
  turn_told queue (Happened event) turn = record { nothing = turn.nothing; none_begun = turn.none_begun; goes_on = sym (end_seen setup fails f s will few) ∙ turn.goes_on }
  turn_told queue (Sent noted) (inl due) = inl due
  turn_told queue (Sent noted) (inr (inl may)) = inr (inl (record { nothing = may.nothing; goes_on = sym (end_seen setup fails f s will few) ∙ may.goes_on; passing = may.passing; rightly = sym (rightly_seen setup fails f s will few noted.frame) ∙ may.rightly }))
  turn_told queue (Sent noted) (inr (inr stand)) = inr (inr stand)
  turn_told queue (Did CloseClient) turn = record { nothing = turn.nothing; to_end = sym (end_seen setup fails f s will few) ∙ turn.to_end }
  turn_told queue (Did (Open k route)) turn = turn
  turn_told queue (Did (ToUp k octets)) turn = turn
  turn_told queue (Did (Close k)) turn = turn

  -- A move that is allowed by the rows is allowed, and leaves the same debt.
  pub allowed_told : (queue : List Frame) (m : Move) → Allowed (record { summary = seen; queue = queue }) m → Allowed (record { summary = s; queue = queue }) m
  allowed_told queue m may = record { open_yet = may.open_yet; turn = turn_told queue m.entry may.turn }

  fails_active : (e : Entry) → IsFit fails s e → FailsActive fails s e
  fails_active (Came noted) fit = tt
  fails_active (Breached breach) fit = tt
  fails_active (Happened event) fit = fit
  fails_active (Sent noted) fit = tt
  fails_active (Did act) fit = tt

  owed_told : (queue : List Frame) (e : Entry) → IsFit fails s e → IsInTurn (record { summary = s; queue = queue }) e → owes_in setup fails seen e ≡ owes_in setup fails s e
  owed_told queue e fit turn = owes_seen setup fails f s will few e (fails_active e fit) (ends_active s queue e turn)

  pub queue_told : (queue : List Frame) (e : Entry) → IsFit fails s e → IsInTurn (record { summary = s; queue = queue }) e → queue_behind setup fails (record { summary = seen; queue = queue }) e ≡ queue_behind setup fails (record { summary = s; queue = queue }) e
  queue_told queue (Came noted) fit turn = owed_told queue (Came noted) fit turn
  queue_told queue (Breached breach) fit turn = owed_told queue (Breached breach) fit turn
  queue_told queue (Happened event) fit turn = owed_told queue (Happened event) fit turn
  queue_told queue (Sent noted) fit turn = ap (λ (fs : List Frame). if is_calming noted.frame && not s.ends then [] else rest_of queue ++ fs) (owed_told queue (Sent noted) fit turn)
  queue_told queue (Did act) fit turn = refl
