use Rattle.std.proofs.Common.{◌≡◌, ℕ, ap, sym, ◌∙◌, refl, subst, true, false, ◌==◌}
use Rattle.std.specs.Prelude.{ℤ, pos, ◌+ℤ◌}
use Rattle.std.proofs.lemmas.Bool.{ne_eqb}
use Rattle.model.specs.Frames.{Frame}
use Rattle.model.specs.WindowsOnTape.{increment, is_past}
use Rattle.model.specs.Windows.{IsPast, IsSize}
use Rattle.frames.specs.Views.{frame_of}
use Rattle.connection_state.specs.Inbound.{Inbound, book_of}
use Rattle.connection_state.specs.Judgement.{IsPlain, update}
use Rattle.connection_state.specs.contracts.connection.Connection.{the_view}
use Rattle.connection_state.proofs.Controls.{nothing_granted, granted_past, update_fault_none, update_behind}
use Rattle.connection_state.proofs.Answering.{IsSound, no_block_of, past_is, not_past_is}
use Rattle.connection_state.proofs.connection.Connection.take_update.Goals as goal

pub returns-then-increment-eq0-clause-judged : goal.returns-then-increment-eq0-clause-judged
returns-then-increment-eq0-clause-judged c = λ setup outside.
    let frame : Frame = update c.args.view.flags 0 c.args.view.payload.now in
    let sound : IsSound c.args.self.now frame = subst (λ (f : Frame). IsSound c.args.self.now f) c.requires.kind c.requires.sound in
    let none : increment frame ≡ 0 = sym (ap increment c.requires.kind) ∙ sym c.requires.counted ∙ c.if-increment-eq0.true in
    rw c.requires.kind (record {
      is = nothing_granted (book_of outside c.args.self.now) c.args.view.flags c.args.view.payload.now (sound outside) none;
      left = refl;
    })

pub returns-in_default-clause-judged : goal.returns-in_default-clause-judged
returns-in_default-clause-judged c = λ setup outside.
    let i : Inbound = the_view c.self.inside in
    let frame : Frame = update c.args.view.flags 0 c.args.view.payload.now in
    let sound : IsSound i frame = subst (λ (f : Frame). IsSound i f) c.requires.kind (subst (λ (x : Inbound). IsSound x (frame_of c.args.view)) (sym c.self.view_is) c.requires.sound) in
    let count = c.requires.counted ∙ ap increment c.requires.kind in
    let some : (increment frame == 0) ≡ false = ne_eqb (increment frame) 0 (λ none. c.if-increment-eq0.false (count ∙ none)) in
    let past : is_past (c.self.inside.window +ℤ pos (increment frame)) ≡ true = past_is (c.self.inside.window +ℤ pos (increment frame)) (subst (λ n. IsPast (c.self.inside.window +ℤ pos n)) count c.in_default.ensures.refused) in
    rw (← c.self.view_is, c.requires.kind) (record {
      is = granted_past (book_of outside i) c.args.view.flags c.args.view.payload.now (sound outside) some past;
      left = ap (λ (n : ℤ). record (book_of outside i) { window = n }) c.in_default.ensures.unchanged;
    })

pub hear-requires : goal.hear-requires
hear-requires c =
    let sound : IsSound (the_view c.self.inside) (frame_of c.args.view) = subst (λ (x : Inbound). IsSound x (frame_of c.args.view)) (sym c.self.view_is) c.requires.sound in
    no_block_of (the_view c.self.inside) (frame_of c.args.view) (subst (λ (f : Frame). IsPlain f) (sym c.requires.kind) (record { no_headers = refl; no_continuation = refl })) sound

pub returns-clause-judged : goal.returns-clause-judged
returns-clause-judged c = λ setup outside.
    let i : Inbound = the_view c.self.inside in
    let frame : Frame = update c.args.view.flags 0 c.args.view.payload.now in
    let sound : IsSound i frame = subst (λ (f : Frame). IsSound i f) c.requires.kind (subst (λ (x : Inbound). IsSound x (frame_of c.args.view)) (sym c.self.view_is) c.requires.sound) in
    let count = c.requires.counted ∙ ap increment c.requires.kind in
    let some : (increment frame == 0) ≡ false = ne_eqb (increment frame) 0 (λ none. c.if-increment-eq0.false (count ∙ none)) in
    let size : c.grant.new.self ≡ c.self.inside.window +ℤ pos (increment frame) = c.in-Ok.ensures.ok ∙ ap (λ n. c.self.inside.window +ℤ pos n) count in
    let within : is_past (c.self.inside.window +ℤ pos (increment frame)) ≡ false = not_past_is (c.self.inside.window +ℤ pos (increment frame)) (subst IsSize size c.in-Ok.ensures.in_range) in
    let new = ap (book_of outside) c.hear.ensures.is ∙ ap (λ (n : ℤ). record (book_of outside i) { has_come = true; continuations = 0; window = n; last = c.args.view.id }) size in
    let zero : c.args.view.id ≡ 0 = ap (λ (f : Frame). f.id) c.requires.kind in
    rw (← c.self.view_is, c.requires.kind) (record {
      faultless = update_fault_none setup (book_of outside i) c.self.invariant.kept c.args.view.flags c.args.view.payload.now (sound outside) some within;
      left = new ∙ ap (λ (n : ℕ). record (book_of outside i) { has_come = true; continuations = 0; window = c.self.inside.window +ℤ pos (increment frame); last = n }) zero ∙ sym (update_behind setup (book_of outside i) c.self.invariant.kept c.args.view.flags c.args.view.payload.now (sound outside) some within);
      says = refl;
    })
