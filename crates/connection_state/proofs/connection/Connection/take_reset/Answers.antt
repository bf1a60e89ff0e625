use Rattle.std.proofs.Common.{◌≡◌, ap, sym, ◌∙◌, refl, subst, true, Some, None, List, arith}
use Rattle.std.proofs.lemmas.Bool.{le-leb, lt-leb}
use Rattle.std.specs.Prelude.{ℕ, ◌+◌, suc, false, ◌&&◌, Option, option_map, nat_le}
use Rattle.model.specs.Errors as errors
use Rattle.model.specs.Errors.{or_else}
use Rattle.model.specs.FrameErrors.{fault_if}
use Rattle.model.specs.Limits.{most_resets}
use Rattle.theory_errors.specs.Judging.{resets_row_in}
use Rattle.model.specs.Frames.{Frame}
use Rattle.model.specs.ErrorTable.{fault_of as fault_by}
use Rattle.model.specs.ErrorClause.{is_fatal}
use Rattle.frames.specs.Views.{frame_of}
use Rattle.theory_errors.specs.Rows.{Row, find}
use Rattle.theory_errors.specs.Quiet.{coming, heard}
use Rattle.theory_errors.specs.Owing.{fault_in}
use Rattle.streams.specs.Asked as asked
use Rattle.connection_state.specs.Inbound.{Inbound, book_of, told_of}
use Rattle.connection_state.specs.Judgement.{IsPlain, reset, behind, fault_told}
use Rattle.connection_state.specs.contracts.connection.Connection.{the_view}
use Rattle.connection_state.proofs.Standings.{reset_inactive, reset_active}
use Rattle.connection_state.proofs.Resets.{reset_fault, reset_behind_active, reset_behind_none}
use Rattle.connection_state.proofs.Answering.{IsSound, no_block_of, any_setup, moved}
use Rattle.connection_state.proofs.connection.Connection.take_reset.Goals as goal

pub pass_over-requires-clause-none_begun : goal.pass_over-requires-clause-none_begun
pass_over-requires-clause-none_begun c =
    no_block_of c.args.self.now (frame_of c.args.view) (subst (λ (f : Frame). IsPlain f) (sym c.requires.kind) (record { no_headers = refl; no_continuation = refl })) c.requires.sound

pub pass_over-requires-clause-is : goal.pass_over-requires-clause-is
pass_over-requires-clause-is c = λ outside.
    let i : Inbound = the_view c.self.inside in
    let frame : Frame = reset c.args.view.flags c.args.view.id c.args.view.payload.now in
    let sound : IsSound i frame = subst (λ (f : Frame). IsSound i f) c.requires.kind (subst (λ (x : Inbound). IsSound x (frame_of c.args.view)) (sym c.self.view_is) c.requires.sound) in
    let fault : fault_by (asked.verdict c.self.inside.drained c.self.inside.streams c.args.view.id 3) ≡ Some (fault_told c.in-Some.fault) =
    ap fault_by (sym c.verdict.ensures.is) ∙ sym c.fault_of.ensures ∙ ap (option_map fault_told) c.in-Some.is in
    moved (λ (x : Inbound) (f : Frame). fault_in (told_of outside x) (coming f) ≡ Some (fault_told c.in-Some.fault)) i c.args.self.now frame (frame_of c.args.view) c.self.view_is c.requires.kind (reset_fault any_setup (book_of outside i) c.args.view.flags c.args.view.id c.args.view.payload.now c.requires.of_stream (sound outside) c.self.invariant.kept (find c.self.inside.streams c.args.view.id).outline ∙ ap (λ (o : Option errors.Fault). or_else o (resets_row_in (told_of outside i) frame)) fault)

pub pass_over-requires-clause-left : goal.pass_over-requires-clause-left
pass_over-requires-clause-left c = λ mild setup outside.
    let i : Inbound = the_view c.self.inside in
    let frame : Frame = reset c.args.view.flags c.args.view.id c.args.view.payload.now in
    let sound : IsSound i frame = subst (λ (f : Frame). IsSound i f) c.requires.kind (subst (λ (x : Inbound). IsSound x (frame_of c.args.view)) (sym c.self.view_is) c.requires.sound) in
    let fault : fault_by (asked.verdict c.self.inside.drained c.self.inside.streams c.args.view.id 3) ≡ Some (fault_told c.in-Some.fault) =
    ap fault_by (sym c.verdict.ensures.is) ∙ sym c.fault_of.ensures ∙ ap (option_map fault_told) c.in-Some.is in
    let idle = reset_inactive c.self.inside.drained c.self.inside.streams c.args.view.id c.requires.of_stream (fault_told c.in-Some.fault) fault in
    moved (λ (x : Inbound) (f : Frame). behind setup (book_of outside x) f ≡ heard (book_of outside x) f) i c.args.self.now frame (frame_of c.args.view) c.self.view_is c.requires.kind (reset_behind_none setup (book_of outside i) c.args.view.flags c.args.view.id c.args.view.payload.now c.requires.of_stream (sound outside) c.self.invariant.kept idle (ap is_fatal fault ∙ mild))

pub close-requires : goal.close-requires
close-requires c =
    let passes : fault_by (asked.verdict c.self.inside.drained c.self.inside.streams c.args.view.id 3) ≡ None =
    ap fault_by (sym c.verdict.ensures.is) ∙ sym c.fault_of.ensures ∙ ap (option_map fault_told) c.in_default.is in
    reset_active c.self.inside.drained c.self.inside.streams c.args.view.id c.requires.of_stream passes

pub hear-requires : goal.hear-requires
hear-requires c =
    let sound : IsSound (the_view c.self.inside) (frame_of c.args.view) = subst (λ (x : Inbound). IsSound x (frame_of c.args.view)) (sym c.self.view_is) c.requires.sound in
    no_block_of (the_view c.self.inside) (frame_of c.args.view) (subst (λ (f : Frame). IsPlain f) (sym c.requires.kind) (record { no_headers = refl; no_continuation = refl })) sound

pub returns-then-self-ge-MOST_RESETS-clause-judged : goal.returns-then-self-ge-MOST_RESETS-clause-judged
returns-then-self-ge-MOST_RESETS-clause-judged c = λ setup outside.
    let i : Inbound = the_view c.self.inside in
    let frame : Frame = reset c.args.view.flags c.args.view.id c.args.view.payload.now in
    let sound : IsSound i frame = subst (λ (f : Frame). IsSound i f) c.requires.kind (subst (λ (x : Inbound). IsSound x (frame_of c.args.view)) (sym c.self.view_is) c.requires.sound) in
    let passes : fault_by (asked.verdict c.self.inside.drained c.self.inside.streams c.args.view.id 3) ≡ None =
    ap fault_by (sym c.verdict.ensures.is) ∙ sym c.fault_of.ensures ∙ ap (option_map fault_told) c.in_default.is in
    let active = reset_active c.self.inside.drained c.self.inside.streams c.args.view.id c.requires.of_stream passes in
    rw (← c.self.view_is, c.requires.kind) (record {
      is = reset_fault setup (book_of outside i) c.args.view.flags c.args.view.id c.args.view.payload.now c.requires.of_stream (sound outside) c.self.invariant.kept (find c.self.inside.streams c.args.view.id).outline
          ∙ ap (λ (o : Option errors.Fault). or_else o (resets_row_in (told_of outside i) frame)) passes
          ∙ ap (λ x. fault_if (x && nat_le most_resets i.resets) (errors.Fault.Connection 11)) active
          ∙ ap (λ x. fault_if x (errors.Fault.Connection 11)) (le-leb most_resets i.resets (let is = c.if-self-ge-MOST_RESETS in omega (arith, is)));
      left = refl;
    })

pub returns-clause-judged : goal.returns-clause-judged
returns-clause-judged c = λ setup outside.
    let i : Inbound = the_view c.self.inside in
    let frame : Frame = reset c.args.view.flags c.args.view.id c.args.view.payload.now in
    let sound : IsSound i frame = subst (λ (f : Frame). IsSound i f) c.requires.kind (subst (λ (x : Inbound). IsSound x (frame_of c.args.view)) (sym c.self.view_is) c.requires.sound) in
    let passes : fault_by (asked.verdict c.self.inside.drained c.self.inside.streams c.args.view.id 3) ≡ None =
    ap fault_by (sym c.verdict.ensures.is) ∙ sym c.fault_of.ensures ∙ ap (option_map fault_told) c.in_default.is in
    let active = reset_active c.self.inside.drained c.self.inside.streams c.args.view.id c.requires.of_stream passes in
    let one : i.resets + 1 ≡ suc i.resets = omega arith in
    let more = ap (λ (n : ℕ). record (book_of outside i) { has_come = true; continuations = 0; rows = c.close.new.self; resets = n; last = c.args.view.id }) one in
    let few : nat_le most_resets i.resets ≡ false = lt-leb most_resets i.resets (let is = c.if-self-ge-MOST_RESETS in omega (arith, is)) in
    let new = ap (book_of outside) c.hear.ensures.is ∙ more ∙ ap (λ (rows : List Row). record (book_of outside i) { has_come = true; continuations = 0; rows = rows; resets = suc i.resets; last = c.args.view.id }) c.close.ensures.is in
    rw (← c.self.view_is, c.requires.kind) (record {
      faultless = reset_fault setup (book_of outside i) c.args.view.flags c.args.view.id c.args.view.payload.now c.requires.of_stream (sound outside) c.self.invariant.kept (find c.self.inside.streams c.args.view.id).outline
          ∙ ap (λ (o : Option errors.Fault). or_else o (resets_row_in (told_of outside i) frame)) passes
          ∙ ap (λ x. fault_if (x && nat_le most_resets i.resets) (errors.Fault.Connection 11)) active
          ∙ ap (λ x. fault_if x (errors.Fault.Connection 11)) few;
      left = new ∙ sym (reset_behind_active setup (book_of outside i) c.args.view.flags c.args.view.id c.args.view.payload.now c.requires.of_stream (sound outside) c.self.invariant.kept active few);
      says = refl;
    })
