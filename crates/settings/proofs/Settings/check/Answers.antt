use Rattle.settings.proofs.EntryLemmas.{window_stays_in_range}
use Rattle.model.specs.SettingValues.{first_fault, settings_in}
use Rattle.std.proofs.Common.{◌≡◌, None, rules}
use Rattle.std.specs.Prelude.{◌≤◌}
use Rattle.model.specs.Limits.{greatest_window}
use Rattle.settings.proofs.Settings.check.Goals as goal

pub difference_of-requires-clause-after : goal.difference_of-requires-clause-after
difference_of-requires-clause-after c =
    let faultless : first_fault (settings_in c.args.payload.now) ≡ None = search rules in
    let h : c.self.inside.initial_window ≤ greatest_window = search rules in
    rw c.unwrap_or-initial_window.ensures (window_stays_in_range c.self.inside.initial_window c.values_in-values.result.initial_window (settings_in c.args.payload.now) h c.values_in-values.ensures.window faultless)

pub returns-clause-in_range : goal.returns-clause-in_range
returns-clause-in_range c =
    let faultless : first_fault (settings_in c.args.payload.now) ≡ None = search rules in
    let h : c.self.inside.initial_window ≤ greatest_window = search rules in
    rw c.unwrap_or-initial_window.ensures (window_stays_in_range c.self.inside.initial_window c.values_in-values.result.initial_window (settings_in c.args.payload.now) h c.values_in-values.ensures.window faultless)
