use Rattle.std.proofs.Common.{◌≡◌, ℕ, ap, sym, ◌∙◌, refl, subst, true, ◌==◌, Some, None, List}
use Rattle.std.specs.Prelude.{option_map}
use Rattle.model.specs.Frames.{Frame}
use Rattle.model.specs.ErrorTable.{fault_of as fault_by}
use Rattle.frames.specs.Views.{frame_of}
use Rattle.theory_errors.specs.Rows.{Row, find}
use Rattle.theory_errors.specs.Quiet.{coming, heard}
use Rattle.theory_errors.specs.Owing.{fault_in}
use Rattle.streams.specs.Asked as asked
use Rattle.connection_state.specs.Inbound.{Inbound, book_of, told_of}
use Rattle.connection_state.specs.Judgement.{IsPlain, IsFailed, IsTaken, update, behind, reset_behind, fault_told}
use Rattle.connection_state.specs.declared.answers.Judged.TheVariants.{Granted}
use Rattle.model.specs.Errors.{first_of}
use Rattle.model.specs.Errors.Fault.{Stream}
use Rattle.model.specs.FrameErrors.{fault_if}
use Rattle.model.specs.WindowsOnTape.{increment, is_past}
use Rattle.std.specs.Prelude.{pos, ◌+ℤ◌}
use Rattle.std.proofs.Common.{[], ◌∷◌}
use Rattle.theory_errors.specs.Summary.{Outline}
use Rattle.theory_errors.specs.Judging.{window_in, fault_for}
use Rattle.theory_errors.specs.Rows.Slot.{Live}
use Rattle.streams.specs.Asked.{changed}
use Rattle.streams.specs.Steps.{granted}
use Rattle.connection_state.specs.contracts.connection.Connection.{the_view}
use Rattle.connection_state.proofs.Standings.{update_inactive, update_active}
use Rattle.connection_state.proofs.Updates.{update_idle, update_behind_none, by_window, update_right, update_reset, update_granted}
use Rattle.connection_state.proofs.Answering.{IsSound, no_block_of, any_setup, moved, neither_wrong}
use Rattle.connection_state.proofs.connection.Connection.take_stream_update.Goals as goal

pub pass_over-requires-clause-none_begun : goal.pass_over-requires-clause-none_begun
pass_over-requires-clause-none_begun c =
    no_block_of c.args.self.now (frame_of c.args.view) (subst (λ (f : Frame). IsPlain f) (sym c.requires.kind) (record { no_headers = refl; no_continuation = refl })) c.requires.sound

pub pass_over-requires-clause-is : goal.pass_over-requires-clause-is
pass_over-requires-clause-is c = λ outside.
    let i : Inbound = the_view c.self.inside in
    let frame : Frame = update c.args.view.flags c.args.view.id c.args.view.payload.now in
    let sound : IsSound i frame = subst (λ (f : Frame). IsSound i f) c.requires.kind (subst (λ (x : Inbound). IsSound x (frame_of c.args.view)) (sym c.self.view_is) c.requires.sound) in
    let fault : fault_by (asked.verdict c.self.inside.drained c.self.inside.streams c.args.view.id 8) ≡ Some (fault_told c.in-Some.fault) =
    ap fault_by (sym c.verdict.ensures.is) ∙ sym c.fault_of.ensures ∙ ap (option_map fault_told) c.in-Some.is in
    moved (λ (x : Inbound) (f : Frame). fault_in (told_of outside x) (coming f) ≡ Some (fault_told c.in-Some.fault)) i c.args.self.now frame (frame_of c.args.view) c.self.view_is c.requires.kind (update_idle any_setup (book_of outside i) c.args.view.flags c.args.view.id c.args.view.payload.now c.requires.of_stream (sound outside) c.self.invariant.kept (fault_told c.in-Some.fault) fault (find c.self.inside.streams c.args.view.id).outline)

pub pass_over-requires-clause-left : goal.pass_over-requires-clause-left
pass_over-requires-clause-left c = λ mild setup outside.
    let i : Inbound = the_view c.self.inside in
    let frame : Frame = update c.args.view.flags c.args.view.id c.args.view.payload.now in
    let sound : IsSound i frame = subst (λ (f : Frame). IsSound i f) c.requires.kind (subst (λ (x : Inbound). IsSound x (frame_of c.args.view)) (sym c.self.view_is) c.requires.sound) in
    let fault : fault_by (asked.verdict c.self.inside.drained c.self.inside.streams c.args.view.id 8) ≡ Some (fault_told c.in-Some.fault) =
    ap fault_by (sym c.verdict.ensures.is) ∙ sym c.fault_of.ensures ∙ ap (option_map fault_told) c.in-Some.is in
    let idle = update_inactive c.self.inside.drained c.self.inside.streams c.args.view.id c.requires.of_stream (fault_told c.in-Some.fault) fault in
    moved (λ (x : Inbound) (f : Frame). behind setup (book_of outside x) f ≡ heard (book_of outside x) f) i c.args.self.now frame (frame_of c.args.view) c.self.view_is c.requires.kind (update_behind_none setup (book_of outside i) c.args.view.flags c.args.view.id c.args.view.payload.now c.requires.of_stream (sound outside) c.self.invariant.kept idle (fault_told c.in-Some.fault) fault mild)

pub update_code-requires : goal.update_code-requires
update_code-requires c =
    let passes : fault_by (asked.verdict c.self.inside.drained c.self.inside.streams c.args.view.id 8) ≡ None =
    ap fault_by (sym c.verdict.ensures.is) ∙ sym c.fault_of.ensures ∙ ap (option_map fault_told) c.in_default.is in
    update_active c.self.inside.drained c.self.inside.streams c.args.view.id c.requires.of_stream passes

pub close-requires : goal.close-requires
close-requires c =
    let passes : fault_by (asked.verdict c.self.inside.drained c.self.inside.streams c.args.view.id 8) ≡ None =
    ap fault_by (sym c.verdict.ensures.is) ∙ sym c.fault_of.ensures ∙ ap (option_map fault_told) c.in_default.is in
    update_active c.self.inside.drained c.self.inside.streams c.args.view.id c.requires.of_stream passes

pub grant-requires-clause-live : goal.grant-requires-clause-live
grant-requires-clause-live c =
    let passes : fault_by (asked.verdict c.self.inside.drained c.self.inside.streams c.args.view.id 8) ≡ None =
    ap fault_by (sym c.verdict.ensures.is) ∙ sym c.fault_of.ensures ∙ ap (option_map fault_told) c.in_default.is in
    update_active c.self.inside.drained c.self.inside.streams c.args.view.id c.requires.of_stream passes

pub hear-requires : goal.hear-requires
hear-requires c =
    let sound : IsSound (the_view c.self.inside) (frame_of c.args.view) = subst (λ (x : Inbound). IsSound x (frame_of c.args.view)) (sym c.self.view_is) c.requires.sound in
    no_block_of (the_view c.self.inside) (frame_of c.args.view) (subst (λ (f : Frame). IsPlain f) (sym c.requires.kind) (record { no_headers = refl; no_continuation = refl })) sound

pub hear-requires-2 : goal.hear-requires-2
hear-requires-2 c =
    let sound : IsSound (the_view c.self.inside) (frame_of c.args.view) = subst (λ (x : Inbound). IsSound x (frame_of c.args.view)) (sym c.self.view_is) c.requires.sound in
    no_block_of (the_view c.self.inside) (frame_of c.args.view) (subst (λ (f : Frame). IsPlain f) (sym c.requires.kind) (record { no_headers = refl; no_continuation = refl })) sound

pub returns-in-Some-update_code-clause-judged : goal.returns-in-Some-update_code-clause-judged
returns-in-Some-update_code-clause-judged c = λ setup outside.
    let i : Inbound = the_view c.self.inside in
    let frame : Frame = update c.args.view.flags c.args.view.id c.args.view.payload.now in
    let sound : IsSound i frame = subst (λ (f : Frame). IsSound i f) c.requires.kind (subst (λ (x : Inbound). IsSound x (frame_of c.args.view)) (sym c.self.view_is) c.requires.sound) in
    let passes : fault_by (asked.verdict c.self.inside.drained c.self.inside.streams c.args.view.id 8) ≡ None =
    ap fault_by (sym c.verdict.ensures.is) ∙ sym c.fault_of.ensures ∙ ap (option_map fault_told) c.in_default.is in
    let active = update_active c.self.inside.drained c.self.inside.streams c.args.view.id c.requires.of_stream passes in
    let count : c.args.increment ≡ increment frame = c.requires.counted ∙ ap increment c.requires.kind in
    let code : first_of (fault_if (increment frame == 0) (Stream 1) ∷ fault_if (is_past (window_in c.self.inside.settings (find c.self.inside.streams c.args.view.id) +ℤ pos (increment frame))) (Stream 3) ∷ []) ≡ Some (Stream c.in-Some-update_code.code) =
    ap (λ (n : ℕ). first_of (fault_if (n == 0) (Stream 1) ∷ fault_if (is_past (window_in c.self.inside.settings (find c.self.inside.streams c.args.view.id) +ℤ pos n)) (Stream 3) ∷ [])) (sym count)
    ∙ sym c.update_code.ensures.is ∙ ap (option_map Stream) c.in-Some-update_code.is in
    let wrong : (outline : Outline) → fault_for outline (told_of outside i) (coming frame) ≡ Some (Stream c.in-Some-update_code.code) =
    λ outline. by_window setup (book_of outside i) c.args.view.flags c.args.view.id c.args.view.payload.now c.requires.of_stream (sound outside) c.self.invariant.kept active outline ∙ code in
    let new : book_of outside c.hear.new.self ≡ reset_behind setup (book_of outside i) frame c.in-Some-update_code.code =
    ap (book_of outside) c.hear.ensures.is ∙ ap (λ (rows : List Row). record (book_of outside i) { has_come = true; continuations = 0; rows = rows; last = c.args.view.id }) c.close.ensures.is
    ∙ sym (update_reset setup (book_of outside i) c.args.view.flags c.args.view.id c.args.view.payload.now c.requires.of_stream (sound outside) c.self.invariant.kept active c.in-Some-update_code.code refl refl wrong) in
    moved (λ (x : Inbound) (f : Frame). IsFailed setup (book_of outside x) f (book_of outside c.hear.new.self) (Stream c.in-Some-update_code.code)) i c.args.self.now frame (frame_of c.args.view) c.self.view_is c.requires.kind (record {
      is = wrong (find c.self.inside.streams c.args.view.id).outline;
      left = new;
    })

pub returns-clause-judged : goal.returns-clause-judged
returns-clause-judged c = λ setup outside.
    let i : Inbound = the_view c.self.inside in
    let frame : Frame = update c.args.view.flags c.args.view.id c.args.view.payload.now in
    let sound : IsSound i frame = subst (λ (f : Frame). IsSound i f) c.requires.kind (subst (λ (x : Inbound). IsSound x (frame_of c.args.view)) (sym c.self.view_is) c.requires.sound) in
    let passes : fault_by (asked.verdict c.self.inside.drained c.self.inside.streams c.args.view.id 8) ≡ None =
    ap fault_by (sym c.verdict.ensures.is) ∙ sym c.fault_of.ensures ∙ ap (option_map fault_told) c.in_default.is in
    let active = update_active c.self.inside.drained c.self.inside.streams c.args.view.id c.requires.of_stream passes in
    let count : c.args.increment ≡ increment frame = c.requires.counted ∙ ap increment c.requires.kind in
    let right = neither_wrong (increment frame == 0) (is_past (window_in c.self.inside.settings (find c.self.inside.streams c.args.view.id) +ℤ pos (increment frame))) (Stream 1) (Stream 3) (
    ap (λ (n : ℕ). first_of (fault_if (n == 0) (Stream 1) ∷ fault_if (is_past (window_in c.self.inside.settings (find c.self.inside.streams c.args.view.id) +ℤ pos n)) (Stream 3) ∷ [])) (sym count)
    ∙ sym c.update_code.ensures.is ∙ ap (option_map Stream) c.in_default-update_code.is
    ) in
    let new : book_of outside c.hear-2.new.self ≡ behind setup (book_of outside i) frame =
    ap (book_of outside) c.hear-2.ensures.is
    ∙ ap (λ (rows : List Row). record (book_of outside i) { has_come = true; continuations = 0; rows = rows; last = c.args.view.id }) (c.grant.ensures.is ∙ ap (λ (n : ℕ). changed c.args.view.id (Live (granted n (find c.self.inside.streams c.args.view.id))) c.self.inside.streams) count)
    ∙ sym (update_granted setup (book_of outside i) c.args.view.flags c.args.view.id c.args.view.payload.now c.requires.of_stream (sound outside) c.self.invariant.kept active right.0 right.1) in
    moved (λ (x : Inbound) (f : Frame). IsTaken setup (book_of outside x) f (book_of outside c.hear-2.new.self) Granted) i c.args.self.now frame (frame_of c.args.view) c.self.view_is c.requires.kind (record {
      faultless = update_right setup (book_of outside i) c.args.view.flags c.args.view.id c.args.view.payload.now c.requires.of_stream (sound outside) c.self.invariant.kept active right.0 right.1 (find c.self.inside.streams c.args.view.id).outline;
      left = new;
      says = refl;
    })
