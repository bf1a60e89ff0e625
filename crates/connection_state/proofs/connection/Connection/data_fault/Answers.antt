use Rattle.std.proofs.Common.{◌≡◌, ap, sym, ◌∙◌, true, false, length}
use Rattle.std.specs.Prelude.{pos, int_lt}
use Rattle.model.specs.Frames.{Frame}
use Rattle.model.specs.Errors.{Fault}
use Rattle.model.specs.Errors.Fault.{Connection}
use Rattle.model.specs.ErrorTable.{fault_of as fault_by, is_idle}
use Rattle.frames.specs.Views.{frame_of}
use Rattle.streams.specs.Asked.{standing, is_active}
use Rattle.connection_state.specs.Inbound.{Inbound}
use Rattle.connection_state.specs.Admission.{IsRefused, IsAdmitted}
use Rattle.connection_state.specs.Judgement.{data_frame}
use Rattle.connection_state.specs.contracts.connection.Connection.{the_view}
use Rattle.connection_state.proofs.DataFaults.{idle_refuses, inactive_refuses}
use Rattle.connection_state.proofs.Answering.{IsSound, moved, moved_back, told_some, told_not_none, refused_idle, refused_past, refused_inactive}
use Rattle.connection_state.proofs.connection.Connection.data_fault.Goals as goal

pub returns-then-is_idle-clause-refused : goal.returns-then-is_idle-clause-refused
returns-then-is_idle-clause-refused c =
    let i : Inbound = the_view c.self.inside in
    let frame : Frame = data_frame c.args.view.flags c.args.view.id c.args.view.payload.now in
    let sound : IsSound i frame = moved_back IsSound i c.args.self.now frame (frame_of c.args.view) c.self.view_is c.requires.kind c.requires.sound in
    let idle : is_idle (standing i.drained i.rows c.args.view.id) ≡ true = sym (c.is_idle.ensures ∙ ap is_idle c.standing.ensures) ∙ c.if-is_idle.true in
    let fault = idle_refuses i.drained i.rows c.args.view.id c.requires.of_stream idle in
    told_some (λ (f : Fault). IsRefused c.args.self.now (frame_of c.args.view) f) c.fault_of-fault.result (Connection fault.0)
    (c.fault_of-fault.ensures ∙ ap fault_by c.verdict.ensures.is ∙ fault.1)
    (moved (λ (x : Inbound) (f : Frame). IsRefused x f (Connection fault.0)) i c.args.self.now frame (frame_of c.args.view) c.self.view_is c.requires.kind (refused_idle i c.args.view.flags c.args.view.id c.args.view.payload.now c.requires.of_stream sound idle))

pub returns-then-is_past_room-clause-refused : goal.returns-then-is_past_room-clause-refused
returns-then-is_past_room-clause-refused c =
    let i : Inbound = the_view c.self.inside in
    let frame : Frame = data_frame c.args.view.flags c.args.view.id c.args.view.payload.now in
    let sound : IsSound i frame = moved_back IsSound i c.args.self.now frame (frame_of c.args.view) c.self.view_is c.requires.kind c.requires.sound in
    let known : is_idle (standing i.drained i.rows c.args.view.id) ≡ false = sym (c.is_idle.ensures ∙ ap is_idle c.standing.ensures) ∙ c.if-is_idle.false in
    let past : int_lt i.room (pos (length c.args.view.payload.now)) ≡ true = sym c.is_past_room.ensures ∙ c.if-is_past_room.true in
    moved (λ (x : Inbound) (f : Frame). IsRefused x f (Connection 3)) i c.args.self.now frame (frame_of c.args.view) c.self.view_is c.requires.kind (refused_past i c.args.view.flags c.args.view.id c.args.view.payload.now c.requires.of_stream sound known past)

pub returns-in_default-clause-refused : goal.returns-in_default-clause-refused
returns-in_default-clause-refused c =
    let i : Inbound = the_view c.self.inside in
    let frame : Frame = data_frame c.args.view.flags c.args.view.id c.args.view.payload.now in
    let sound : IsSound i frame = moved_back IsSound i c.args.self.now frame (frame_of c.args.view) c.self.view_is c.requires.kind c.requires.sound in
    let known : is_idle (standing i.drained i.rows c.args.view.id) ≡ false = sym (c.is_idle.ensures ∙ ap is_idle c.standing.ensures) ∙ c.if-is_idle.false in
    let fits : int_lt i.room (pos (length c.args.view.payload.now)) ≡ false = sym c.is_past_room.ensures ∙ c.if-is_past_room.false in
    let idle : is_active i.rows c.args.view.id ≡ false = c.in_default.ensures.none in
    let fault = inactive_refuses i.drained i.rows c.args.view.id c.requires.of_stream idle in
    told_some (λ (f : Fault). IsRefused c.args.self.now (frame_of c.args.view) f) c.fault_of-fault.result fault.0
    (c.fault_of-fault.ensures ∙ ap fault_by c.verdict.ensures.is ∙ fault.1)
    (moved (λ (x : Inbound) (f : Frame). IsRefused x f fault.0) i c.args.self.now frame (frame_of c.args.view) c.self.view_is c.requires.kind (refused_inactive i c.args.view.flags c.args.view.id c.args.view.payload.now c.requires.of_stream sound known fits idle))

pub returns-in_default-clause-admitted : goal.returns-in_default-clause-admitted
returns-in_default-clause-admitted c =
    let fault = inactive_refuses c.self.inside.drained c.self.inside.streams c.args.view.id c.requires.of_stream c.in_default.ensures.none in
    told_not_none (IsAdmitted c.args.self.now (frame_of c.args.view)) c.fault_of-fault.result fault.0 (c.fault_of-fault.ensures ∙ ap fault_by c.verdict.ensures.is ∙ fault.1)
