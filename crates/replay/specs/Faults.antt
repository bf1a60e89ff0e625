-- What the private steps of reading a script answer.
use Rattle.std.specs.Prelude.{◌≡◌, ◌≢◌, ℕ, ◌<◌, List, ◌∷◌, ◌++◌, length, All, ⊤}
use Rattle.model.specs.Logs.{Event}
use Rattle.model.specs.Logs.Event.{Client, Up}
use Rattle.replay.specs.declared.lines.LineFault.{LineFault}
use Rattle.replay.specs.declared.lines.LineFault.TheVariants.{NotALine, Memory}
use Rattle.replay.specs.declared.scripts.ScriptFault.{ScriptFault}
use Rattle.replay.specs.declared.scripts.ScriptFault.TheVariants as fault
use Rattle.replay.specs.Scripts.{lines_of, IsNumber, IsHex, AreNumberAndHex, AreTwoNumbers, SaysNothing, IsFirstFault}

-- The line says nothing, unless memory ran out.
abbrev pub Refuses : List ℕ → LineFault → Type 0
Refuses line NotALine = SaysNothing line
Refuses line Memory = ⊤

-- The word isn't hex, unless memory ran out.
abbrev pub RefusesHex : List ℕ → LineFault → Type 0
RefusesHex word NotALine = (octets : List ℕ) → IsHex word octets → ⊥
RefusesHex word Memory = ⊤

-- The words aren't a number and hex, unless memory ran out.
abbrev pub RefusesNumberAndHex : List ℕ → LineFault → Type 0
RefusesNumberAndHex words NotALine = (number : ℕ) (octets : List ℕ) → AreNumberAndHex words number octets → ⊥
RefusesNumberAndHex words Memory = ⊤

-- The word is no number.
abbrev pub IsNoNumber : List ℕ → Type 0
IsNoNumber word = (number : ℕ) → IsNumber word number → ⊥

-- The words aren't two numbers.
abbrev pub AreNotTwoNumbers : List ℕ → Type 0
AreNotTwoNumbers words = (number other : ℕ) → AreTwoNumbers words number other → ⊥

-- The event is the client's octets that the word has in hex.
abbrev pub IsClient : List ℕ → Event → Type 0
IsClient word event = (piece : List ℕ) × (event ≡ Client piece) × IsHex word piece

-- The event is an upstream's octets, which the words number and have in hex.
abbrev pub IsUp : List ℕ → Event → Type 0
IsUp words event = (k : ℕ) × (piece : List ℕ) × (event ≡ Up k piece) × AreNumberAndHex words k piece

-- The first line of a text, and what is behind its end.
pub record IsFirstLine (text line after : List ℕ) : Type 0 where
  pub lines : lines_of text ≡ line ∷ lines_of after
  pub shorter : length after < length text

-- What stands before and behind the first such octet.
pub record IsSeparated (octet : ℕ) (text before after : List ℕ) : Type 0 where
  pub without : All (λ other. other ≢ octet) before
  pub parts : text ≡ before ++ octet ∷ after

-- What a fault of a script says of its text.
abbrev pub ExplainsFault : List ℕ → ScriptFault → Type 0
ExplainsFault text (fault.NotALine place) = IsFirstFault (lines_of text) place
ExplainsFault text fault.Memory = ⊤
