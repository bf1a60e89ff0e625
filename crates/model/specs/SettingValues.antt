-- What a SETTINGS frame says (RFC 9113, section 6.5): its settings in order, which of them is a fault, and the values that
-- they leave.
use Rattle.std.specs.Prelude.{ℕ, ◌+◌, ◌*◌, ◌%◌, min, Bool, not, ◌&&◌, ◌==◌, nat_le, if◌then◌else◌, List, [], ◌∷◌, map, length, Option, Some, None, unwrap_or}
use Rattle.std.specs.List.{filter, reduce, last_or}
use Rattle.model.specs.Octets.{is_between}
use Rattle.model.specs.Frames.{protocol_error, flow_control_error, frame_size_error}
use Rattle.model.specs.Limits.{greatest_window}

-- A setting: which one, and its value (section 6.5.1).
pub record Setting : Type 0 where
  pub identifier : ℕ
  pub value : ℕ

-- The settings that are used here, by their identifiers (section 6.5.2).
abbrev pub header_table_size : ℕ
header_table_size = 1

abbrev pub enable_push : ℕ
enable_push = 2

abbrev pub initial_window_size : ℕ
initial_window_size = 4

abbrev pub max_frame_size : ℕ
max_frame_size = 5

-- the settings of a payload in order, each with its identifier in two octets and its value in four (section 6.5.1)
abbrev pub settings_in : List ℕ → List Setting
settings_in (a ∷ b ∷ c ∷ d ∷ e ∷ f ∷ more) =
    record { identifier = 256 * a + b; value = 16777216 * c + 65536 * d + 256 * e + f } ∷ settings_in more
settings_in _ = []

-- What is wrong with a SETTINGS payload (sections 6.5 and 6.5.2).
pub data SettingsFault : Type 0 where
  -- its length isn't a multiple of six octets
  Size : SettingsFault
  -- ENABLE_PUSH that is neither 0 nor 1
  Push : SettingsFault
  -- INITIAL_WINDOW_SIZE past the greatest size of a window
  Window : SettingsFault
  -- MAX_FRAME_SIZE below 16,384 or past 16,777,215
  FrameSize : SettingsFault

-- the fault where there is one
abbrev pub fault_where : Bool → SettingsFault → Option SettingsFault
fault_where is_wrong fault = if is_wrong then Some fault else None

-- the first of these that is a fault
abbrev pub first_of_faults : List (Option SettingsFault) → Option SettingsFault
first_of_faults [] = None
first_of_faults (None ∷ later) = first_of_faults later
first_of_faults (Some fault ∷ later) = Some fault

-- the setting is this one, and its value isn't allowed
abbrev pub is_wrong : ℕ → Setting → Bool → Bool
is_wrong identifier setting is_allowed = setting.identifier == identifier && not is_allowed

-- the fault of one setting; any value is allowed to all others (section 6.5.2)
abbrev pub fault_of_setting : Setting → Option SettingsFault
fault_of_setting setting =
    first_of_faults (
    fault_where (is_wrong enable_push setting (nat_le setting.value 1)) Push
    ∷ fault_where (is_wrong initial_window_size setting (nat_le setting.value greatest_window)) Window
    ∷ fault_where (is_wrong max_frame_size setting (is_between 16384 16777215 setting.value)) FrameSize
    ∷ []
    )

-- the fault of the first setting that has one
abbrev pub first_fault : List Setting → Option SettingsFault
first_fault settings = first_of_faults (map fault_of_setting settings)

-- the fault of a payload: its length is judged first (section 6.5)
abbrev pub settings_fault : List ℕ → Option SettingsFault
settings_fault payload = if length payload % 6 == 0 then first_fault (settings_in payload) else Some Size

-- the code of the connection error that a fault is (sections 6.5 and 6.5.2)
abbrev pub code_of_fault : SettingsFault → ℕ
code_of_fault Size = frame_size_error
code_of_fault Push = protocol_error
code_of_fault Window = flow_control_error
code_of_fault FrameSize = protocol_error

-- the values that settings give one identifier, in order
abbrev pub values_of : ℕ → List Setting → List ℕ
values_of identifier settings = map (λ setting. setting.value) (filter (λ setting. setting.identifier == identifier) settings)

-- the value that stands behind the settings, if one is given (section 6.5.3: they are applied in order)
abbrev pub last_value : ℕ → List Setting → Option ℕ
last_value identifier settings = last_or None (values_of identifier settings)

-- the smallest of the values that the settings give (RFC 7541, section 4.2: a limit that fell and rose again)
abbrev pub smallest_value : ℕ → List Setting → Option ℕ
smallest_value identifier settings = reduce min (values_of identifier settings)

-- the first size of windows behind the settings, from that before them (section 6.5.2)
abbrev pub initial_window_after : ℕ → List Setting → ℕ
initial_window_after before settings = unwrap_or (last_value initial_window_size settings) before
