-- Whether an answer failed with each move, as far as it is known there.
use Rattle.std.specs.Prelude.{Bool, List, [], ◌∷◌}
use Rattle.model.specs.Setup.{Setup}
use Rattle.model.specs.Tapes.{Entry}
use Rattle.model.specs.Tapes.Entry.{Happened}
use Rattle.model.specs.Known.{Known}
use Rattle.model.specs.Failures.{IsJudged}
use Rattle.theory_errors.specs.Rule.{Move, tape_of, known_of}

-- What a move says of failure is right, by what is known before it.
abbrev pub IsRightVerdict : Known → List Entry → Entry → Bool → Type 0
IsRightVerdict known t (Happened event) fails = IsJudged known t event fails
IsRightVerdict known t e fails = Unit {0}

-- Each move says whether an answer failed with it, by what the moves before it said.
abbrev pub AreRightVerdicts : Setup → List Move → Type 0
AreRightVerdicts setup [] = Unit {0}
AreRightVerdicts setup (m ∷ moves) = AreRightVerdicts setup moves × IsRightVerdict (known_of setup moves) (tape_of moves) m.entry m.fails
