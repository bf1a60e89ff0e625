use Rattle.std.proofs.Common.{ℕ, ap, sym, ◌∙◌, refl, List, Some, true, subst}
use Rattle.model.specs.SettingValues.{settings_in, settings_fault, initial_window_after}
use Rattle.model.specs.Errors.Fault.{Connection as Fatal}
use Rattle.settings.specs.Views.{fault_of, IsChange}
use Rattle.frames.specs.Views.{frame_of}
use Rattle.streams.specs.Asked.{shifts_past}
use Rattle.connection_state.specs.Inbound.{Inbound, book_of}
use Rattle.connection_state.specs.contracts.connection.Connection.{the_view}
use Rattle.connection_state.proofs.Controls.{settings_control, control_plain, settings_wrong, settings_past, settings_fault_none, settings_behind}
use Rattle.connection_state.proofs.Answering.{IsSound, no_block_of}
use Rattle.connection_state.proofs.connection.Connection.take_settings.Goals as goal

pub returns-in-Err-clause-judged : goal.returns-in-Err-clause-judged
returns-in-Err-clause-judged c = λ setup outside. record {
  is =
      settings_wrong setup (book_of outside c.args.self.now) (frame_of c.args.view) c.requires.settings (c.requires.sound outside) (fault_of c.in-Err.fault) (ap settings_fault (sym c.requires.entries) ∙ c.in-Err.ensures.refused)
      ∙ ap (λ (n : ℕ). Some (Fatal n)) (sym c.setting_code.ensures);
  left = refl;
}

pub returns-then-shifts_past-clause-judged : goal.returns-then-shifts_past-clause-judged
returns-then-shifts_past-clause-judged c = λ setup outside.
    let i : Inbound = the_view c.self.inside in
    let first = c.in-Ok.ensures.ok.initial_window ∙ ap (λ (xs : List ℕ). initial_window_after c.self.inside.settings (settings_in xs)) c.requires.entries in
    let sound : IsSound i (frame_of c.args.view) = subst (λ (x : Inbound). IsSound x (frame_of c.args.view)) (sym c.self.view_is) c.requires.sound in
    rw (← c.self.view_is) (record {
      is = settings_past setup (book_of outside i) (frame_of c.args.view) c.requires.settings (sound outside) (ap settings_fault (sym c.requires.entries) ∙ c.in-Ok.ensures.faultless) (ap (λ n. shifts_past n c.self.inside.streams) (sym first) ∙ sym c.shifts_past.ensures ∙ c.if-shifts_past.true);
      left = refl;
    })

pub hear-requires : goal.hear-requires
hear-requires c =
    let sound : IsSound (the_view c.self.inside) (frame_of c.args.view) = subst (λ (x : Inbound). IsSound x (frame_of c.args.view)) (sym c.self.view_is) c.requires.sound in
    no_block_of (the_view c.self.inside) (frame_of c.args.view) (control_plain (frame_of c.args.view) (settings_control (frame_of c.args.view) c.requires.settings)) sound

pub returns-clause-judged : goal.returns-clause-judged
returns-clause-judged c = λ setup outside.
    let i : Inbound = the_view c.self.inside in
    let first = c.in-Ok.ensures.ok.initial_window ∙ ap (λ (xs : List ℕ). initial_window_after c.self.inside.settings (settings_in xs)) c.requires.entries in
    let sound : IsSound i (frame_of c.args.view) = subst (λ (x : Inbound). IsSound x (frame_of c.args.view)) (sym c.self.view_is) c.requires.sound in
    let values = ap settings_fault (sym c.requires.entries) ∙ c.in-Ok.ensures.faultless in
    let within = ap (λ n. shifts_past n c.self.inside.streams) (sym first) ∙ sym c.shifts_past.ensures ∙ c.if-shifts_past.false in
    let new = ap (book_of outside) c.hear.ensures.is ∙ ap (λ (n : ℕ). record (book_of outside i) { has_come = true; continuations = 0; first_size = n; last = c.args.view.id }) (c.accept.ensures ∙ first) in
    let size = ap (λ (x : Inbound). x.first_size) c.hear.ensures.is ∙ c.accept.ensures in
    let change = subst (λ (xs : List ℕ). IsChange c.self.inside.settings c.in-Ok.checked.initial_window (settings_in xs) c.in-Ok.checked.change) c.requires.entries c.in-Ok.ensures.ok in
    rw (← c.self.view_is) (record {
      faultless = settings_fault_none setup (book_of outside i) (frame_of c.args.view) c.requires.settings (sound outside) values within;
      left = new ∙ sym (settings_behind setup (book_of outside i) (frame_of c.args.view) c.requires.settings (sound outside) values within c.self.invariant.kept);
      says = (c.requires.settings, subst (λ (n : ℕ). IsChange c.self.inside.settings n (settings_in c.args.view.payload.now) c.in-Ok.checked.change) (sym size) change);
    })
