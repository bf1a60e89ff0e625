-- What of a chunk's first line was read (RFC 9112, section 7.1).
use Rattle.std.specs.Prelude.{◌≡◌, ℕ, ◌^◌, ◌<◌, ◌≤◌, true, false, List, [], ◌∷◌, ◌++◌, length}
use Rattle.std.specs.List.{list_all}
use Rattle.std.specs.Str.Parse.{digits_value}
use Rattle.model.specs.Octets.{some_of, is_hex_digit, is_space}
use Rattle.model.specs.Responses.{IsExtension, ChunkLine}
use Rattle.response_texts.specs.declared.chunk_line.LinePlace.{LinePlace}
use Rattle.response_texts.specs.declared.chunk_line.LinePlace.TheVariants.{Size, Spaces, Extension, Return}
use Rattle.response_texts.specs.declared.chunk_line.LineStep.{LineStep}
use Rattle.response_texts.specs.declared.chunk_line.LineStep.TheVariants.{On, Whole}

-- The text is the digits of a size, these spaces and tabs, this extension, and this tail.
pub record LineFront (size : ℕ) (spaces extension tail text : List ℕ) : Type 0 where
  pub digits : List ℕ
  pub is : text ≡ digits ++ (spaces ++ (extension ++ tail))
  pub are_digits : some_of is_hex_digit digits ≡ true
  pub few_digits : length digits ≤ 8
  pub are_spaces : list_all is_space spaces ≡ true
  pub few_spaces : length spaces ≤ 256
  pub is_extension : IsExtension extension
  pub has_size : size ≡ digits_value 16 digits

-- So many digits, perhaps none yet, which write the number.
pub record AreDigits (count size : ℕ) (text : List ℕ) : Type 0 where
  pub are_digits : list_all is_hex_digit text ≡ true
  pub has_count : count ≡ length text
  pub few : count ≤ 8
  pub has_size : size ≡ digits_value 16 text

-- A size, and so many spaces and tabs.
pub record BehindSize (size count : ℕ) (text : List ℕ) : Type 0 where
  pub spaces : List ℕ
  pub front : LineFront size spaces [] [] text
  pub has_count : count ≡ length spaces

-- A size, spaces and tabs, a semicolon, and so many octets of an extension.
pub record InExtension (size count : ℕ) (text : List ℕ) : Type 0 where
  pub spaces : List ℕ
  pub octets : List ℕ
  pub front : LineFront size spaces (59 ∷ octets) [] text
  pub has_count : count ≡ length octets

-- A line that wants its line feed alone.
pub record BehindReturn (size : ℕ) (text : List ℕ) : Type 0 where
  pub spaces : List ℕ
  pub extension : List ℕ
  pub front : LineFront size spaces extension (13 ∷ []) text

-- The text is what was read of a line.
abbrev pub IsLinePart : LinePlace → List ℕ → Type 0
IsLinePart (Size count size) text = AreDigits count size text
IsLinePart (Spaces size count) text = BehindSize size count text
IsLinePart (Extension size count) text = InExtension size count text
IsLinePart (Return size) text = BehindReturn size text

-- What was read is this text, and the line goes on or is whole.
abbrev pub IsStepTo : LineStep → List ℕ → Type 0
IsStepTo (On place) text = IsLinePart place text
IsStepTo (Whole size) text = ChunkLine text size

-- No line begins a text that begins so, and no line begins so.
abbrev pub NeverLine : List ℕ → Type 0
NeverLine text = (more line past : List ℕ) (size : ℕ) → ChunkLine line size → text ++ more ≡ line ++ past → ⊥

-- Fewer digits make a smaller number, and behind the spaces and tabs stands one or more.
abbrev pub IsInRange : LinePlace → Type 0
IsInRange (Size count size) = size < 16 ^ count
IsInRange (Spaces size count) = 0 < count
IsInRange _ = Unit {0}

abbrev pub StepIsInRange : LineStep → Type 0
StepIsInRange (On place) = IsInRange place
StepIsInRange (Whole size) = Unit {0}

-- The octet leads there, whatever was read.
pub record IsStep (IsPart : List ℕ → Type 0) (octet : ℕ) (step : LineStep) : Type 0 where
  pub range : StepIsInRange step
  pub goes : (text : List ℕ) → IsPart text → IsStepTo step (text ++ octet ∷ [])

-- With the octet it is no line any more, whatever was read.
abbrev pub BreaksLine : (List ℕ → Type 0) → ℕ → Type 0
BreaksLine IsPart octet = (text : List ℕ) → IsPart text → NeverLine (text ++ octet ∷ [])

-- Behind a size without spaces and tabs the octet is no digit.
abbrev pub EndsSize : ℕ → ℕ → Type 0
EndsSize count octet = count ≡ 0 → is_hex_digit octet ≡ false
