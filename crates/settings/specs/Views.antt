-- Settings and faults in words of the definitions.
use Rattle.std.specs.Prelude.{◌≡◌, ℕ, ◌<◌, List, ◌∷◌, length}
use Rattle.model.specs.SettingValues.{Setting, SettingsFault, settings_in, initial_window_after, smallest_value, last_value, header_table_size}
use Rattle.model.specs.SettingValues.SettingsFault.{Size, Push, Window, FrameSize}
use Rattle.model.specs.Windows.{size_difference}
use Rattle.settings.specs.declared.entries.Entry.{Entry}
use Rattle.settings.specs.declared.SettingFault.{SettingFault}
use Rattle.settings.specs.declared.SettingFault.TheVariants as fault
use Rattle.settings.specs.declared.Change.{Change}

-- an entry, as a setting
abbrev pub setting_of : Entry → Setting
setting_of entry = record { identifier = entry.identifier; value = entry.value }

-- a fault
abbrev pub fault_of : SettingFault → SettingsFault
fault_of fault.Size = Size
fault_of fault.Push = Push
fault_of fault.Window = Window
fault_of fault.FrameSize = FrameSize

-- What a frame changes: the first size of windows behind its settings, how far that is from the one before, and the
-- smallest and the last limit of the header table that it names.
pub record IsChange (before after : ℕ) (settings : List Setting) (change : Change) : Type 0 where
  pub initial_window : after ≡ initial_window_after before settings
  pub difference : change.difference ≡ size_difference before after
  pub smallest : change.smallest ≡ smallest_value header_table_size settings
  pub last : change.last ≡ last_value header_table_size settings

-- The entry is the first of these octets, and the rest of them stands behind it; or there is none.
pub record IsFirstEntry (octets rest : List ℕ) (entry : Entry) : Type 0 where
  pub is : settings_in octets ≡ setting_of entry ∷ settings_in rest
  pub shorter : length rest < length octets
