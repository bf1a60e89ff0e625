-- Whether a final head lets its connection stay open, and what a reader knows of it (RFC 9112, sections 9.3 and 9.6).
use Rattle.std.specs.Prelude.{◌≡◌, ℕ, Bool, false, true, ◌&&◌, List, ◌++◌}
use Rattle.httparse.specs.Grammar as grammar
use Rattle.model.specs.Octets.{Joined}
use Rattle.model.specs.ResponseHeads.{Head, Framing, Interim, Final}
use Rattle.model.specs.ResponseHeads.Framing.{UntilEnd}
use Rattle.response_texts.specs.Heads.{leaves_open}
use Rattle.h1_reader.specs.Parts.{Part}
use Rattle.h1_reader.specs.Standing.{State, Stands}

-- the body ends before the connection does
abbrev pub ends_itself : Framing → Bool
ends_itself UntilEnd = false
ends_itself _ = true

-- The head lets its connection stay open, and its body doesn't end with the connection.
abbrev pub stays_open : grammar.ResponseHead → Framing → Bool
stays_open spelled framing = leaves_open spelled && ends_itself framing

-- Whole interim heads and a final head stand at the front of the text.
pub record HasFinal (text : List ℕ) (to_head : Bool) : Type 0 where
  pub interims : List Head
  pub head : Head
  pub front : List ℕ
  pub head_text : List ℕ
  pub rest : List ℕ
  pub framing : Framing
  pub is : text ≡ front ++ head_text ++ rest
  pub are_interims : Joined Interim front interims
  pub is_final : Final to_head head_text head framing

-- Where a final head stands in the text, the reader knows whether it lets its connection stay open; where none does, it doesn't say so.
pub record Knows (text : List ℕ) (state : State) : Type 0 where
  pub final : (h : HasFinal text state.to_head) → state.held.keeps ≡ stays_open h.is_final.spelled h.framing
  pub none : (HasFinal text state.to_head → ⊥) → state.held.keeps ≡ false

-- With these octets the reader knows it still, whatever it was fed before.
abbrev pub Learns : State → List ℕ → State → Type 0
Learns old octets new = (text : List ℕ) (before : List Part) → Stands text before old → Knows text old → Knows (text ++ octets) new
