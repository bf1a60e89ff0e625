-- Behind a part with which the gateway ended its stream, that is reset where the client hasn't ended it, and is over.
use Rattle.std.proofs.Common.{◌≡◌, ℕ, ◌<◌, Bool, true, false, not, ◌&&◌, ◌||◌, if◌then◌else◌, List, [], ◌∷◌, ◌++◌, None, refl, sym, ◌∙◌, ap, subst, nat_lt, ◌+◌, inl, arith}
use Rattle.std.specs.Prelude.{Option, ℤ}
use Rattle.std.proofs.lemmas.Bool.{and_parts}
use Rattle.model.specs.Frames.{no_error, spell, Fits, Frame}
use Rattle.model.specs.ErrorClause.{rst_stream}
use Rattle.model.specs.Logs.{Output}
use Rattle.model.specs.Setup.{Setup}
use Rattle.model.specs.Openings.{Opened}
use Rattle.model.specs.Decoding.{Partial}
use Rattle.model.specs.Logs.Output.{ToClient}
use Rattle.model.specs.Tapes.{put}
use Rattle.theory_errors.specs.Summary.{Stream as Kept}
use Rattle.theory_errors.specs.Judging.{is_over_in}
use Rattle.theory_errors.specs.Rows.{find, slot_of}
use Rattle.theory_responses.specs.Outbox.{Part}
use Rattle.theory_receive_windows.specs.State as theory_receive_windows
use Rattle.theory_header_tables.specs.State as theory_header_tables
use Rattle.header_blocks.specs.Encoding.{Encoding}
use Rattle.streams.specs.Asked.{has, is_active}
use Rattle.theory.specs.Moves.{Move}
use Rattle.refinement.specs.View.{View, waiting_for, Pending, balanced}
use Rattle.theory.specs.State.{State, tape_of}
use Rattle.model.specs.Limits.{most_untaken}
use Rattle.connection_state.proofs.BlockRows.{active_closed}
use Rattle.refinement.specs.Bringing.{AreOwn, OwnSegment, PerformsOwn}
use Rattle.refinement.proofs.Bringing.{own_behind, segments_then}
use Rattle.refinement.proofs.Performing.{tape_behind}
use Rattle.refinement.proofs.Resets.{reset_view, reset_paid}
use Rattle.event_handlers.specs.Comings.{Follows}
use Rattle.event_handlers.specs.Stopping.{IsCalmed}
use Rattle.event_handlers.proofs.Calming.{calm_ends}
use Rattle.event_handlers.proofs.Following.{then_follows}
use Rattle.event_handlers.specs.Forgetting.{forgotten}
use Rattle.event_handlers.specs.flushing.Changes.{part_gone, unless_active, reset_gone, ended, put_at_end}
use Rattle.event_handlers.proofs.flushing.Rows.{over_told, active_own, not_flip}
use Rattle.event_handlers.proofs.flushing.Placed.{owing}

-- what the gateway's end makes of an active stream
by_flags : (r c e ends : Bool) → (r || c || e && false) ≡ false → (r || c || e && (ends || false)) ≡ (e && ends)
by_flags true c e ends on = absurd (let clash : true ≡ false = on in cc)
by_flags false true e ends on = absurd (let clash : true ≡ false = on in cc)
by_flags false false true true on = refl
by_flags false false true false on = refl
by_flags false false false ends on = refl

module _ (setup : Setup) (given : List Opened) (rest : theory_header_tables.State) (windows : theory_receive_windows.Kept) (run : List Move) (u : View) (begun : Option Partial) (id : ℕ) (active : is_active u.inbound.rows id ≡ true) (unended : (find u.inbound.rows id).ended_by_gateway ≡ false) (small : id < 2147483648)
    (part : Part) (k : Kept) (window : ℤ) (encoding : Encoding) (count : ℕ) (ends : Bool) where
  abbrev was : Kept
  was = find u.inbound.rows id

  abbrev v : View
  v = part_gone id part k window encoding count u

  there : has u.inbound.rows id ≡ true
  there = (and_parts (has u.inbound.rows id) (not (is_over_in was)) active).0

  goes_on : (was.reset_by_gateway || was.reset_by_client || was.ended_by_client && false) ≡ false
  goes_on = sym (ap (λ b. was.reset_by_gateway || was.reset_by_client || was.ended_by_client && b) unended) ∙ not_flip (is_over_in was) (and_parts (has u.inbound.rows id) (not (is_over_in was)) active).1

  module _ (over_is : is_over_in k ≡ (was.reset_by_gateway || was.reset_by_client || was.ended_by_client && (ends || was.ended_by_gateway))) where
    over_told_by : is_over_in k ≡ (was.ended_by_client && ends)
    over_told_by = over_is ∙ ap (λ b. was.reset_by_gateway || was.reset_by_client || was.ended_by_client && (ends || b)) unended ∙ by_flags was.reset_by_gateway was.reset_by_client was.ended_by_client ends goes_on

    -- Whether it is active behind the part.
    pub active_then : is_active v.inbound.rows id ≡ not (was.ended_by_client && ends)
    active_then = active_own id (slot_of k) u.inbound.rows there ∙ ap not (over_told k ∙ over_told_by)

-- ---- what is left to do at a stream's end

-- the reset that is owed then
abbrev pub owed_at : View → ℕ → Bool → List Frame
owed_at u id ends = if ends && not (find u.inbound.rows id).ended_by_client then rst_stream id no_error ∷ [] else []

-- A part went: its stream is kept while it is active, and this is owed, and goes back.
pub record IsGone (setup : Setup) (run : List Move) (s : State) (u : View) (id : ℕ) (ends : Bool) (v : View) (outputs put_out : List Output) : Type 0 where
  pub segment : OwnSegment setup run s outputs (unless_active id v) (owing (owed_at u id ends) (if is_active v.inbound.rows id then 0 else waiting_for id u)) put_out
  pub active : is_active v.inbound.rows id ≡ not ((find u.inbound.rows id).ended_by_client && ends)
  pub waits : waiting_for id v ≡ waiting_for id u

-- one part, and then another of the gateway's own
own_behind_segment : (setup : Setup) (run : List Move) (s : State) (o p q : List Output) (b c : View) (y z : Pending) → OwnSegment setup run s o b y p → PerformsOwn setup b y p c z q → OwnSegment setup run s o c z q
own_behind_segment setup run s o p q b c y z one later =
    let two = later (one.segment.moves ++ run) one.segment.state one.segment.leads in
    record {
      segment = segments_then setup run s o p q b c y z one.segment two.segment;
      are_own = subst AreOwn (sym (tape_behind two.segment.moves one.segment.moves)) (own_behind (tape_of two.segment.moves) (tape_of one.segment.moves) two.are_own one.are_own);
    }

module _ (setup : Setup) (run : List Move) (s : State) (u : View) (id : ℕ) (small : id < 2147483648) (v : View) (outputs put_out : List Output) where
  reset_fits : Fits (rst_stream id no_error)
  reset_fits = record { kind = omega arith; flags = omega arith; id = small; payload = omega arith }

  none_plus : (n : ℕ) → 0 + n ≡ n
  none_plus n = omega arith

  -- a stream that the client hasn't ended is reset
  reset_it : is_active v.inbound.rows id ≡ true → waiting_for id v ≡ waiting_for id u → nat_lt most_untaken v.untaken ≡ false
      → PerformsOwn setup v (owing (rst_stream id no_error ∷ []) 0) put_out (ended id v) (record balanced { shared = waiting_for id u }) (put_at_end id v put_out)
  reset_it on waits free =
      subst (λ a. PerformsOwn setup v (owing (rst_stream id no_error ∷ []) 0) put_out (forgotten id (if a then reset_gone id no_error v else v)) (record balanced { shared = waiting_for id u }) (if a then put put_out (ToClient (spell (rst_stream id no_error))) else put_out)) (sym on)
      (subst (λ n. PerformsOwn setup v (owing (rst_stream id no_error ∷ []) 0) put_out (reset_view v id no_error) (record balanced { shared = n }) (put put_out (ToClient (spell (rst_stream id no_error))))) (none_plus (waiting_for id v) ∙ waits)
      (reset_paid setup v (owing (rst_stream id no_error ∷ []) 0) [] id no_error refl refl (active_closed v.inbound.drained v.inbound.rows id on) reset_fits free put_out))

  -- What is kept and put out in the end.
  pub ends_gone : (ends : Bool) → IsGone setup run s u id ends v outputs put_out → (ends ≡ true → is_active v.inbound.rows id ≡ true → nat_lt most_untaken v.untaken ≡ false)
      → OwnSegment setup run s outputs (if ends then ended id v else v) (record balanced { shared = if ends then waiting_for id u else 0 }) (if ends then put_at_end id v put_out else put_out)
  ends_gone ends gone free = by ends (find u.inbound.rows id).ended_by_client refl gone.active free gone.segment
    where
      by : (b e : Bool) → (find u.inbound.rows id).ended_by_client ≡ e → is_active v.inbound.rows id ≡ not (e && b) → (b ≡ true → is_active v.inbound.rows id ≡ true → nat_lt most_untaken v.untaken ≡ false)
          → OwnSegment setup run s outputs (if is_active v.inbound.rows id then v else forgotten id v) (owing (if b && not e then rst_stream id no_error ∷ [] else []) (if is_active v.inbound.rows id then 0 else waiting_for id u)) put_out
          → OwnSegment setup run s outputs (if b then ended id v else v) (record balanced { shared = if b then waiting_for id u else 0 }) (if b then put_at_end id v put_out else put_out)
      by false true client on free one = subst (λ a. OwnSegment setup run s outputs (if a then v else forgotten id v) (owing [] (if a then 0 else waiting_for id u)) put_out) on one
      by false false client on free one = subst (λ a. OwnSegment setup run s outputs (if a then v else forgotten id v) (owing [] (if a then 0 else waiting_for id u)) put_out) on one
      by true true client off free one =
          subst (λ a. OwnSegment setup run s outputs (forgotten id (if a then reset_gone id no_error v else v)) (record balanced { shared = waiting_for id u }) (if a then put put_out (ToClient (spell (rst_stream id no_error))) else put_out)) (sym off)
          (subst (λ a. OwnSegment setup run s outputs (if a then v else forgotten id v) (owing [] (if a then 0 else waiting_for id u)) put_out) off one)
      by true false client on free one =
          own_behind_segment setup run s outputs put_out (put_at_end id v put_out) v (ended id v) (owing (rst_stream id no_error ∷ []) 0) (record balanced { shared = waiting_for id u })
          (subst (λ a. OwnSegment setup run s outputs (if a then v else forgotten id v) (owing (rst_stream id no_error ∷ []) (if a then 0 else waiting_for id u)) put_out) on one)
          (reset_it on gone.waits (free refl on))

  -- The stream ended, and its reset can't go: the connection ends.
  pub gone_over : IsGone setup run s u id true v outputs put_out → is_active v.inbound.rows id ≡ true → (p : List Output) → IsCalmed v put_out p → Follows setup run outputs balanced None p
  gone_over gone on p calmed = by (find u.inbound.rows id).ended_by_client gone.active gone.segment
    where
      by : (e : Bool) → is_active v.inbound.rows id ≡ not (e && true)
          → OwnSegment setup run s outputs (if is_active v.inbound.rows id then v else forgotten id v) (owing (if true && not e then rst_stream id no_error ∷ [] else []) (if is_active v.inbound.rows id then 0 else waiting_for id u)) put_out
          → Follows setup run outputs balanced None p
      by true off one = absurd (let no : true ≡ false = sym on ∙ off in cc)
      by false is one =
          then_follows setup run s v (owing (rst_stream id no_error ∷ []) 0) balanced outputs put_out p None
          (subst (λ a. OwnSegment setup run s outputs (if a then v else forgotten id v) (owing (rst_stream id no_error ∷ []) (if a then 0 else waiting_for id u)) put_out) on one)
          (calm_ends setup v (owing (rst_stream id no_error ∷ []) 0) (inl (rst_stream id no_error, [], refl)) refl put_out p calmed)
