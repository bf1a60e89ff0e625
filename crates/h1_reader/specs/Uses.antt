-- How many of the octets a reader uses, and that no response ends before the last of these.
use Rattle.std.specs.Prelude.{◌≡◌, ℕ, ◌<◌, ◌≤◌, Bool, false, List, ◌++◌, length, take}
use Rattle.model.specs.Octets.{IsStrictFront}
use Rattle.model.specs.Responses.{IsComplete}
use Rattle.h1_reader.specs.Parts.{Part}
use Rattle.h1_reader.specs.Standing.{State, Stands}
use Rattle.h1_reader.specs.declared.reader.Place.TheVariants.{Past}

-- No strict front of the text is a whole response.
abbrev pub NoneShorter : List ℕ → Bool → Type 0
NoneShorter text to_head = (front : List ℕ) → IsStrictFront front text → IsComplete front false to_head → ⊥

-- With these octets the text becomes a whole response, which it wasn't before.
pub record BecomesWhole (text octets : List ℕ) (to_head : Bool) : Type 0 where
  pub not_before : IsComplete text false to_head → ⊥
  pub is_whole : IsComplete (text ++ octets) false to_head

-- Of the octets so many are used, whatever the reader was fed before: all of them, or those with which the response became whole.
-- Where it wasn't whole before, no strict front of the octets so far with those that are used is a whole response.
pub record Uses (old : State) (octets : List ℕ) (used : ℕ) : Type 0 where
  pub within : used ≤ length octets
  pub whole : used < length octets → (text : List ℕ) (before : List Part) → Stands text before old → BecomesWhole text (take used octets) old.to_head
  pub no_shorter : (text : List ℕ) (before : List Part) → Stands text before old → (IsComplete text false old.to_head → ⊥)
      → NoneShorter (text ++ take used octets) old.to_head

-- Where the reader is past the response with these octets, the response ends with the last of them.
abbrev pub Ends : State → List ℕ → State → Type 0
Ends old octets new = new.place ≡ Past → (text : List ℕ) (before : List Part) → Stands text before old → NoneShorter (text ++ octets) old.to_head

-- So many octets were used by a reader that wasn't past the response: all, or it is past now.
pub record IsUsed (old : State) (octets : List ℕ) (used : ℕ) (new : State) : Type 0 where
  pub within : used ≤ length octets
  pub past : used < length octets → new.place ≡ Past
  pub ends : Ends old (take used octets) new
