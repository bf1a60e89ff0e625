use Rattle.std.proofs.Common.{◌≡◌, ℕ, Bool, true, ap, sym, ◌∙◌, refl, subst, Some, None, length}
use Rattle.std.specs.Prelude.{pos, ◌-ℤ◌, option_map}
use Rattle.model.specs.Frames.{Frame, ends_stream, content}
use Rattle.model.specs.Errors.Fault.{Stream}
use Rattle.frames.specs.Views.{frame_of}
use Rattle.theory_errors.specs.Summary.{Outline, Stream as Kept}
use Rattle.theory_errors.specs.Owing.{fault_in}
use Rattle.theory_errors.specs.Rows.{find, slot_of}
use Rattle.theory_errors.specs.Tidy.{AreKept}
use Rattle.theory_errors.specs.Quiet.{coming}
use Rattle.streams.specs.Asked.{changed}
use Rattle.streams.specs.Courses.{outline_with}
use Rattle.streams.specs.Steps.{taken}
use Rattle.streams.specs.Views.{outline_of}
use Rattle.connection_state.specs.Inbound.{Inbound, Outside, book_of, told_of}
use Rattle.connection_state.specs.Admission.{IsAdmitted}
use Rattle.connection_state.specs.Judgement.{IsPlain, IsTaken, data_frame, behind}
use Rattle.connection_state.specs.declared.answers.Judged.TheVariants.{Content, LargeBody}
use Rattle.connection_state.proofs.Answering.{IsSound, no_block_of}
use Rattle.connection_state.proofs.Contents.{by_code, content_left, new_cause, no_new_cause}
use Rattle.connection_state.proofs.connection.Connection.take_data.Goals as goal

pub returns-in-Some-clause-judged : goal.returns-in-Some-clause-judged
returns-in-Some-clause-judged c = λ setup outside bound. c.discard.ensures.judged setup outside

pub refuse-requires-clause-is : goal.refuse-requires-clause-is
refuse-requires-clause-is c = λ outside.
    let i : Inbound = c.args.self.now in
    let frame : Frame = data_frame c.args.view.flags c.args.view.id c.args.view.payload.now in
    let sound : IsSound i frame = subst (λ (f : Frame). IsSound i f) c.requires.kind c.requires.sound in
    let admitted : IsAdmitted i frame = subst (λ (f : Frame). IsAdmitted i f) c.requires.kind c.in_default.ensures.admitted in
    let found : find i.rows c.args.view.id ≡ c.in-Some-find.live.now = ap (λ (x : Inbound). find x.rows c.args.view.id) (sym c.self.view_is) ∙ c.in-Some-find.ensures.live.found in
    let octets : c.args.octets.now ≡ content frame = c.requires.content ∙ ap content c.requires.kind in
    let ends : c.ends_stream-ends.result ≡ ends_stream frame = c.ends_stream-ends.ensures ∙ ap ends_stream c.requires.kind in
    let fault : (outside : Outside) → fault_in (told_of outside i) (coming frame) ≡ option_map Stream c.body_code-code.result =
    by_code i c.args.view.flags c.args.view.id c.args.view.payload.now c.requires.of_stream sound admitted c.in-Some-find.live.now found c.ends_stream-ends.result ends c.self.inside.own (ap (λ (x : Inbound). x.own) (sym c.self.view_is)) c.body_code-code.result (c.body_code-code.ensures (content frame) (ap length (sym octets))) in
    subst (λ (f : Frame). fault_in (told_of outside i) (coming f) ≡ Some (Stream c.in-Some-code.code)) (sym c.requires.kind) (fault outside ∙ ap (option_map Stream) c.in-Some-code.is)

pub returns-in-Some-code-clause-judged : goal.returns-in-Some-code-clause-judged
returns-in-Some-code-clause-judged c = λ setup outside bound. c.refuse.ensures.judged setup outside

pub hear_content-requires-clause-none_begun : goal.hear_content-requires-clause-none_begun
hear_content-requires-clause-none_begun c =
    no_block_of c.args.self.now (frame_of c.args.view) (subst (λ (f : Frame). IsPlain f) (sym c.requires.kind) (record { no_headers = refl; no_continuation = refl })) c.requires.sound

pub returns-then-is_replied_now-clause-judged : goal.returns-then-is_replied_now-clause-judged
returns-then-is_replied_now-clause-judged c = λ setup outside bound.
    let i : Inbound = c.args.self.now in
    let frame : Frame = data_frame c.args.view.flags c.args.view.id c.args.view.payload.now in
    let sound : IsSound i frame = subst (λ (f : Frame). IsSound i f) c.requires.kind c.requires.sound in
    let admitted : IsAdmitted i frame = subst (λ (f : Frame). IsAdmitted i f) c.requires.kind c.in_default.ensures.admitted in
    let found : find i.rows c.args.view.id ≡ c.in-Some-find.live.now = ap (λ (x : Inbound). find x.rows c.args.view.id) (sym c.self.view_is) ∙ c.in-Some-find.ensures.live.found in
    let octets : c.args.octets.now ≡ content frame = c.requires.content ∙ ap content c.requires.kind in
    let ends : c.ends_stream-ends.result ≡ ends_stream frame = c.ends_stream-ends.ensures ∙ ap ends_stream c.requires.kind in
    let fault : (outside : Outside) → fault_in (told_of outside i) (coming frame) ≡ option_map Stream c.body_code-code.result =
    by_code i c.args.view.flags c.args.view.id c.args.view.payload.now c.requires.of_stream sound admitted c.in-Some-find.live.now found c.ends_stream-ends.result ends c.self.inside.own (ap (λ (x : Inbound). x.own) (sym c.self.view_is)) c.body_code-code.result (c.body_code-code.ensures (content frame) (ap length (sym octets))) in
    let kept : AreKept i.rows = subst (λ (x : Inbound). AreKept x.rows) c.self.view_is c.self.invariant.kept in
    let right : fault_in (told_of outside i) (coming frame) ≡ None = fault outside ∙ ap (option_map Stream) c.in_default-code.is in
    let was : outline_of c.course-before.result ≡ (find i.rows c.args.view.id).outline = c.course-before.ensures ∙ ap (λ (k : Kept). k.outline) (sym found) in
    let out : c.head_out.result ≡ (find i.rows c.args.view.id).head_out = c.head_out.ensures ∙ ap (λ (k : Kept). k.head_out) (sym found) in
    let next : outline_of c.with_content-next.result ≡ outline_with (content frame) (ends_stream frame) setup.max_body (find i.rows c.args.view.id).head_out (find i.rows c.args.view.id).outline =
    c.with_content-next.ensures (content frame) (ap length (sym octets))
    ∙ ap (λ (x : Bool). outline_with (content frame) x c.args.max_body c.head_out.result (outline_of c.course-before.result)) ends
    ∙ ap (λ (n : ℕ). outline_with (content frame) (ends_stream frame) n c.head_out.result (outline_of c.course-before.result)) (sym bound)
    ∙ ap (λ (x : Bool). outline_with (content frame) (ends_stream frame) setup.max_body x (outline_of c.course-before.result)) out
    ∙ ap (λ (b : Outline). outline_with (content frame) (ends_stream frame) setup.max_body (find i.rows c.args.view.id).head_out b) was in
    let left : book_of outside c.hear_content.new.self ≡ behind setup (book_of outside i) frame =
    ap (book_of outside) c.hear_content.ensures
    ∙ ap (λ (x : Bool). book_of outside (record i { has_come = true; continuations = 0; last = c.args.view.id; room = i.room -ℤ pos (length c.args.view.payload.now); rows = changed c.args.view.id (slot_of (taken (length c.args.view.payload.now) (outline_of c.with_content-next.result) x (find i.rows c.args.view.id))) i.rows })) (ap ends_stream c.requires.kind)
    ∙ content_left setup outside i c.args.view.flags c.args.view.id c.args.view.payload.now c.requires.of_stream sound kept right (outline_of c.with_content-next.result) next in
    let replied = new_cause setup outside i c.args.view.flags c.args.view.id c.args.view.payload.now c.requires.of_stream sound kept right (outline_of c.course-before.result) (outline_of c.with_content-next.result) was next (sym c.is_replied_now.ensures ∙ c.if-is_replied_now.true) in
    subst (λ (f : Frame). IsTaken setup (book_of outside i) f (book_of outside c.hear_content.new.self) LargeBody) (sym c.requires.kind) (record {
      faultless = right;
      left = left;
      says = (refl, replied.0, replied.1);
    })

pub returns-clause-judged : goal.returns-clause-judged
returns-clause-judged c = λ setup outside bound.
    let i : Inbound = c.args.self.now in
    let frame : Frame = data_frame c.args.view.flags c.args.view.id c.args.view.payload.now in
    let sound : IsSound i frame = subst (λ (f : Frame). IsSound i f) c.requires.kind c.requires.sound in
    let admitted : IsAdmitted i frame = subst (λ (f : Frame). IsAdmitted i f) c.requires.kind c.in_default.ensures.admitted in
    let found : find i.rows c.args.view.id ≡ c.in-Some-find.live.now = ap (λ (x : Inbound). find x.rows c.args.view.id) (sym c.self.view_is) ∙ c.in-Some-find.ensures.live.found in
    let octets : c.args.octets.now ≡ content frame = c.requires.content ∙ ap content c.requires.kind in
    let ends : c.ends_stream-ends.result ≡ ends_stream frame = c.ends_stream-ends.ensures ∙ ap ends_stream c.requires.kind in
    let fault : (outside : Outside) → fault_in (told_of outside i) (coming frame) ≡ option_map Stream c.body_code-code.result =
    by_code i c.args.view.flags c.args.view.id c.args.view.payload.now c.requires.of_stream sound admitted c.in-Some-find.live.now found c.ends_stream-ends.result ends c.self.inside.own (ap (λ (x : Inbound). x.own) (sym c.self.view_is)) c.body_code-code.result (c.body_code-code.ensures (content frame) (ap length (sym octets))) in
    let kept : AreKept i.rows = subst (λ (x : Inbound). AreKept x.rows) c.self.view_is c.self.invariant.kept in
    let right : fault_in (told_of outside i) (coming frame) ≡ None = fault outside ∙ ap (option_map Stream) c.in_default-code.is in
    let was : outline_of c.course-before.result ≡ (find i.rows c.args.view.id).outline = c.course-before.ensures ∙ ap (λ (k : Kept). k.outline) (sym found) in
    let out : c.head_out.result ≡ (find i.rows c.args.view.id).head_out = c.head_out.ensures ∙ ap (λ (k : Kept). k.head_out) (sym found) in
    let next : outline_of c.with_content-next.result ≡ outline_with (content frame) (ends_stream frame) setup.max_body (find i.rows c.args.view.id).head_out (find i.rows c.args.view.id).outline =
    c.with_content-next.ensures (content frame) (ap length (sym octets))
    ∙ ap (λ (x : Bool). outline_with (content frame) x c.args.max_body c.head_out.result (outline_of c.course-before.result)) ends
    ∙ ap (λ (n : ℕ). outline_with (content frame) (ends_stream frame) n c.head_out.result (outline_of c.course-before.result)) (sym bound)
    ∙ ap (λ (x : Bool). outline_with (content frame) (ends_stream frame) setup.max_body x (outline_of c.course-before.result)) out
    ∙ ap (λ (b : Outline). outline_with (content frame) (ends_stream frame) setup.max_body (find i.rows c.args.view.id).head_out b) was in
    let left : book_of outside c.hear_content.new.self ≡ behind setup (book_of outside i) frame =
    ap (book_of outside) c.hear_content.ensures
    ∙ ap (λ (x : Bool). book_of outside (record i { has_come = true; continuations = 0; last = c.args.view.id; room = i.room -ℤ pos (length c.args.view.payload.now); rows = changed c.args.view.id (slot_of (taken (length c.args.view.payload.now) (outline_of c.with_content-next.result) x (find i.rows c.args.view.id))) i.rows })) (ap ends_stream c.requires.kind)
    ∙ content_left setup outside i c.args.view.flags c.args.view.id c.args.view.payload.now c.requires.of_stream sound kept right (outline_of c.with_content-next.result) next in
    subst (λ (f : Frame). IsTaken setup (book_of outside i) f (book_of outside c.hear_content.new.self) (Content c.args.octets c.ends_stream-ends.result)) (sym c.requires.kind) (record {
      faultless = right;
      left = left;
      says = (refl, octets, ends, no_new_cause setup outside i c.args.view.flags c.args.view.id c.args.view.payload.now c.requires.of_stream sound kept right (outline_of c.course-before.result) (outline_of c.with_content-next.result) was next (sym c.is_replied_now.ensures ∙ c.if-is_replied_now.false));
    })
