use Rattle.std.proofs.Common.{◌≡◌, ap, sym, ◌∙◌, refl, subst, true}
use Rattle.std.specs.Prelude.{ℤ}
use Rattle.model.specs.Frames.{Frame}
use Rattle.model.specs.Errors.Fault.{Discarded}
use Rattle.model.specs.ErrorClause.{is_fatal}
use Rattle.frames.specs.Views.{frame_of}
use Rattle.connection_state.specs.Inbound.{Inbound, book_of}
use Rattle.connection_state.specs.Admission.{IsRefused}
use Rattle.connection_state.specs.Judgement.{IsPlain, IsFailed, data_frame, behind, fault_told}
use Rattle.connection_state.specs.declared.answers.FrameError.{FrameError}
use Rattle.connection_state.specs.contracts.connection.Connection.{the_view}
use Rattle.connection_state.proofs.DataBehind.{data_behind_none}
use Rattle.connection_state.proofs.Answering.{IsSound, no_block_of, moved, moved_back}
use Rattle.connection_state.proofs.connection.Connection.discard.Goals as goal

pub hear-requires : goal.hear-requires
hear-requires c =
    let sound : IsSound (the_view c.self.inside) (frame_of c.args.view) = subst (λ (x : Inbound). IsSound x (frame_of c.args.view)) (sym c.self.view_is) c.requires.sound in
    no_block_of (the_view c.self.inside) (frame_of c.args.view) (subst (λ (f : Frame). IsPlain f) (sym c.requires.kind) (record { no_headers = refl; no_continuation = refl })) sound

pub returns-in-Discarded-clause-judged : goal.returns-in-Discarded-clause-judged
returns-in-Discarded-clause-judged c = λ setup outside.
    let i : Inbound = the_view c.self.inside in
    let frame : Frame = data_frame c.args.view.flags c.args.view.id c.args.view.payload.now in
    let sound : IsSound i frame = moved_back IsSound i c.args.self.now frame (frame_of c.args.view) c.self.view_is c.requires.kind c.requires.sound in
    let refused : IsRefused i frame Discarded = subst (λ (f : FrameError). IsRefused i frame (fault_told f)) c.in-Discarded.is (moved_back (λ (x : Inbound) (f : Frame). IsRefused x f (fault_told c.args.fault)) i c.args.self.now frame (frame_of c.args.view) c.self.view_is c.requires.kind c.requires.refused) in
    let new : book_of outside c.hear.new.self ≡ behind setup (book_of outside i) frame =
    ap (book_of outside) c.hear.ensures.is
    ∙ ap (λ (room : ℤ). record (book_of outside i) { has_come = true; continuations = 0; room = room; last = c.args.view.id }) c.take.ensures
    ∙ sym (data_behind_none setup (book_of outside i) c.args.view.flags c.args.view.id c.args.view.payload.now c.requires.of_stream (sound outside) c.self.invariant.kept (refused.inactive refl) (ap is_fatal (refused.is outside))) in
    moved (λ (x : Inbound) (f : Frame). IsFailed setup (book_of outside x) f (book_of outside c.hear.new.self) Discarded) i c.args.self.now frame (frame_of c.args.view) c.self.view_is c.requires.kind (record {
      is = refused.is outside;
      left = new;
    })
