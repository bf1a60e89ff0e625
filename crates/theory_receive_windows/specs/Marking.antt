-- The marks of a stream's DATA on a tape: what the model's search for octets that wait sums up.
use Rattle.std.specs.Prelude.{ℕ, List, [], ◌∷◌}
use Rattle.model.specs.Tapes.{Entry}
use Rattle.model.specs.Tapes.Entry.{Came, Breached, Happened}
use Rattle.model.specs.WindowClause.{put_out_on}
use Rattle.model.specs.Openings.{Opened}
use Rattle.model.specs.WindowsOnTape.{is_on, data_length}
use Rattle.theory_receive_windows.specs.Marks.{Mark}

-- Each frame's octets on an exchange's stream, with how many were put out for it until the next thing came in; the newest
-- stands first. So many were put out by now.
abbrev pub marks_on : Opened → List Entry → ℕ → List Mark
marks_on o [] put_out = []
marks_on o (Came noted ∷ t) put_out =
    record { mark = put_out; count = data_length (is_on o.stream) noted.frame } ∷ marks_on o t (put_out_on o t)
marks_on o (Breached breach ∷ t) put_out = marks_on o t (put_out_on o t)
marks_on o (Happened event ∷ t) put_out = marks_on o t (put_out_on o t)
marks_on o (_ ∷ t) put_out = marks_on o t put_out
