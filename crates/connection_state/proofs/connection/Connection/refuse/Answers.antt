use Rattle.std.proofs.Common.{◌≡◌, ap, sym, ◌∙◌, refl, subst, true, Some, List}
use Rattle.std.specs.Prelude.{ℤ}
use Rattle.model.specs.Frames.{Frame}
use Rattle.model.specs.Errors.Fault.{Stream}
use Rattle.model.specs.ErrorClause.{is_fatal}
use Rattle.frames.specs.Views.{frame_of}
use Rattle.theory_errors.specs.Rows.{Row}
use Rattle.theory_errors.specs.Rows.Slot.{Over}
use Rattle.streams.specs.Asked.{changed}
use Rattle.connection_state.specs.Inbound.{Inbound, book_of}
use Rattle.connection_state.specs.Judgement.{IsPlain, IsFailed, data_frame, reset_behind}
use Rattle.connection_state.specs.contracts.connection.Connection.{the_view}
use Rattle.connection_state.proofs.DataBehind.{data_reset}
use Rattle.connection_state.proofs.Answering.{IsSound, no_block_of, moved, moved_back}
use Rattle.theory_errors.specs.Owing.{fault_in}
use Rattle.theory_errors.specs.Quiet.{coming}
use Rattle.connection_state.specs.Inbound.{told_of}
use Rattle.connection_state.proofs.connection.Connection.refuse.Goals as goal

pub hear-requires : goal.hear-requires
hear-requires c =
    let sound : IsSound (the_view c.self.inside) (frame_of c.args.view) = subst (λ (x : Inbound). IsSound x (frame_of c.args.view)) (sym c.self.view_is) c.requires.sound in
    no_block_of (the_view c.self.inside) (frame_of c.args.view) (subst (λ (f : Frame). IsPlain f) (sym c.requires.kind) (record { no_headers = refl; no_continuation = refl })) sound

pub returns-clause-judged : goal.returns-clause-judged
returns-clause-judged c = λ setup outside.
    let i : Inbound = the_view c.self.inside in
    let frame : Frame = data_frame c.args.view.flags c.args.view.id c.args.view.payload.now in
    let sound : IsSound i frame = moved_back IsSound i c.args.self.now frame (frame_of c.args.view) c.self.view_is c.requires.kind c.requires.sound in
    let wrong : fault_in (told_of outside i) (coming frame) ≡ Some (Stream c.args.code) = moved_back (λ (x : Inbound) (f : Frame). fault_in (told_of outside x) (coming f) ≡ Some (Stream c.args.code)) i c.args.self.now frame (frame_of c.args.view) c.self.view_is c.requires.kind (c.requires.is outside) in
    let new : book_of outside c.hear.new.self ≡ reset_behind setup (book_of outside i) frame c.args.code =
    ap (book_of outside) c.hear.ensures.is
    ∙ ap (λ (rows : List Row). record (book_of outside i) { has_come = true; continuations = 0; room = c.take.new.self; rows = rows; last = c.args.view.id }) c.close.ensures.is
    ∙ ap (λ (room : ℤ). record (book_of outside i) { has_come = true; continuations = 0; room = room; rows = changed c.args.view.id (Over true) i.rows; last = c.args.view.id }) c.take.ensures
    ∙ sym (data_reset setup (book_of outside i) c.args.view.flags c.args.view.id c.args.view.payload.now c.requires.of_stream (sound outside) c.self.invariant.kept c.args.code refl refl (ap is_fatal wrong)) in
    moved (λ (x : Inbound) (f : Frame). IsFailed setup (book_of outside x) f (book_of outside c.hear.new.self) (Stream c.args.code)) i c.args.self.now frame (frame_of c.args.view) c.self.view_is c.requires.kind (record {
      is = wrong;
      left = new;
    })
