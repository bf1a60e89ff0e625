-- What is known beside a tape.
use Rattle.std.specs.Prelude.{ℕ, Bool, ◌==◌, List, ◌∷◌, length}
use Rattle.std.specs.List.{list_any}
use Rattle.model.specs.Setup.{Setup}
use Rattle.model.specs.Tapes.{Entry}

-- How the gateway is set up, and at which events of upstreams an answer failed, by the places of these events on the tape. An
-- entry's place is how many entries stand before it. Which events these are, `Failures` says.
pub record Known : Type 0 where
  pub setup : Setup
  pub failures : List ℕ

-- an answer failed with the entry behind the tape
abbrev pub fails_behind : Known → List Entry → Bool
fails_behind known t = list_any (λ place. place == length t) known.failures

-- one failure more, at a place
abbrev pub with_failure : ℕ → Known → Known
with_failure place known = record known { failures = place ∷ known.failures }
