-- How a reader goes on, with what it says within one call.
use Rattle.std.specs.Prelude.{◌≡◌, ℕ, List, [], ◌∷◌, ◌++◌, ◌⊎◌}
use Rattle.h1_reader.specs.Parts.{Part}
use Rattle.h1_reader.specs.Parts.Part.{Body}
use Rattle.h1_reader.specs.Standing.{State, Stands}

-- With these octets the reader goes on from what it said in this call to what it says: whatever it was fed and told before
-- the call, it stands for all of it.
pub record GoesOn (old : State) (said : List Part) (octets : List ℕ) (new : State) (says : List Part) : Type 0 where
  pub same : new.to_head ≡ old.to_head
  pub stands : (text : List ℕ) (before : List Part) → Stands text (before ++ said) old → Stands (text ++ octets) (before ++ says) new

-- The octets are joined to those of a body that were said last, or said by themselves.
abbrev pub IsJoined : List Part → List ℕ → List Part → Type 0
IsJoined said octets says =
    (says ≡ said ++ Body octets ∷ []) ⊎ ((rest : List Part) × (last : List ℕ) × (said ≡ rest ++ Body last ∷ []) × (says ≡ rest ++ Body (last ++ octets) ∷ []))
