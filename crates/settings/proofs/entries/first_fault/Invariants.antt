use Rattle.std.proofs.Common.{◌≡◌, length}
use Rattle.model.specs.SettingValues.{settings_in, first_fault}
use Rattle.settings.proofs.entries.first_fault.Given as goal

-- the entries so far have no fault
abbrev pub invariant-loop-entry : goal.invariant-loop-entry
invariant-loop-entry l = first_fault (settings_in l.payload) ≡ first_fault (settings_in l.left)

abbrev pub decreases-loop-entry : goal.decreases-loop-entry
decreases-loop-entry l = length l.left
