-- Scripts: a text whose lines say one after the other what happens to a gateway.
use Rattle.std.specs.Prelude.{◌≡◌, ℕ, ◌+◌, ◌≤◌, ◌==◌, List, [], ◌∷◌, ◌++◌, length, codes, Ok}
use Rattle.std.specs.List.{slice_split}
use Rattle.std.specs.Str.Parse.{AllDigits, digits_value}
use Rattle.hex.specs.Hex.{decode_of}
use Rattle.model.specs.Logs.{Event}
use Rattle.model.specs.Logs.Event.{Client, ClientEnd, ClientTook, Up, UpEnd, UpFailed, UpTook, Drain}

-- the list without its last text, where that is empty
abbrev pub without_empty_last : List (List ℕ) → List (List ℕ)
without_empty_last [] = []
without_empty_last ([] ∷ []) = []
without_empty_last (text ∷ texts) = text ∷ without_empty_last texts

-- The lines of a text: each ends with LF (10), the last perhaps not. So what is left behind the last LF is a line too,
-- unless it is empty.
abbrev pub lines_of : List ℕ → List (List ℕ)
lines_of text = without_empty_last (slice_split (λ octet. octet == 10) text)

-- The word is a number: one to nine decimal digits.
pub record IsNumber (word : List ℕ) (number : ℕ) : Type 0 where
  pub some : 1 ≤ length word
  pub at_most : length word ≤ 9
  pub digits : AllDigits 10 word
  pub value : number ≡ digits_value 10 word

-- The word has octets in hex, two digits of either case each.
abbrev pub IsHex : List ℕ → List ℕ → Type 0
IsHex word octets = decode_of word ≡ Ok octets

-- a number, and octets in hex behind a space
abbrev pub AreNumberAndHex : List ℕ → ℕ → List ℕ → Type 0
AreNumberAndHex words number octets =
    (first : List ℕ) × (second : List ℕ) × (words ≡ first ++ 32 ∷ second) × IsNumber first number × IsHex second octets

-- two numbers, and a space between them
abbrev pub AreTwoNumbers : List ℕ → ℕ → ℕ → Type 0
AreTwoNumbers words number other =
    (first : List ℕ) × (second : List ℕ) × (words ≡ first ++ 32 ∷ second) × IsNumber first number × IsNumber second other

-- What a line says: a word for the kind of the event, and behind one space each its numbers and its octets.
abbrev pub Says : List ℕ → Event → Type 0
Says line (Client piece) = (word : List ℕ) × (line ≡ codes "C " ++ word) × IsHex word piece
Says line ClientEnd = line ≡ codes "CE"
Says line (ClientTook count) = (word : List ℕ) × (line ≡ codes "CT " ++ word) × IsNumber word count
Says line (Up k piece) = (words : List ℕ) × (line ≡ codes "U " ++ words) × AreNumberAndHex words k piece
Says line (UpEnd k) = (word : List ℕ) × (line ≡ codes "UE " ++ word) × IsNumber word k
Says line (UpFailed k) = (word : List ℕ) × (line ≡ codes "UF " ++ word) × IsNumber word k
Says line (UpTook k count) = (words : List ℕ) × (line ≡ codes "UT " ++ words) × AreTwoNumbers words k count
Says line Drain = line ≡ codes "D"

-- The lines say these events, one each.
abbrev pub AllSay : List (List ℕ) → List Event → Type 0
AllSay [] [] = Unit {0}
AllSay [] (event ∷ events) = ⊥
AllSay (line ∷ lines) [] = ⊥
AllSay (line ∷ lines) (event ∷ events) = Says line event × AllSay lines events

-- The line says nothing.
abbrev pub SaysNothing : List ℕ → Type 0
SaysNothing line = (event : Event) → Says line event → ⊥

-- The line at this place, from 1, is the first that says nothing.
pub record IsFirstFault (lines : List (List ℕ)) (place : ℕ) : Type 0 where
  pub before : List (List ℕ)
  pub events : List Event
  pub fault : List ℕ
  pub after : List (List ℕ)
  pub parts : lines ≡ before ++ fault ∷ after
  pub say : AllSay before events
  pub says_nothing : SaysNothing fault
  pub place_is : place ≡ length before + 1
