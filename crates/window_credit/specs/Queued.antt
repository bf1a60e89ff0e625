-- What a queue of marks stands for.
use Rattle.std.specs.Prelude.{List, map}
use Rattle.theory_receive_windows.specs.Marks.{Mark}
use Rattle.window_credit.specs.declared.queue.Mark.{Mark as Kept}

-- the marks of a queue, the oldest first
abbrev pub marks_of : List Kept → List Mark
marks_of kept = map (λ (m : Kept). record { mark = m.mark; count = m.count }) kept
