use Rattle.std.proofs.Common.{◌≡◌, length}
use Rattle.std.specs.List.{last_or}
use Rattle.model.specs.SettingValues.{settings_in, values_of, last_value, smallest_value, initial_window_size, header_table_size}
use Rattle.settings.specs.Accumulated.{smallest_with}
use Rattle.settings.proofs.entries.values_in.Given as goal

-- what was found and what is left say together what the payload says
abbrev pub invariant-loop-entry : goal.invariant-loop-entry
invariant-loop-entry l = record {
  window : last_or l.values.initial_window (values_of initial_window_size (settings_in l.left)) ≡ last_value initial_window_size (settings_in l.payload);
  smallest : smallest_with l.values.smallest_table (values_of header_table_size (settings_in l.left)) ≡ smallest_value header_table_size (settings_in l.payload);
  last : last_or l.values.last_table (values_of header_table_size (settings_in l.left)) ≡ last_value header_table_size (settings_in l.payload);
}

abbrev pub decreases-loop-entry : goal.decreases-loop-entry
decreases-loop-entry l = length l.left
