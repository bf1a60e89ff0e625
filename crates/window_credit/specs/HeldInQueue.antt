-- How many octets lie in this crate's types. Each count takes the struct apart by the names of all its fields, and counts each by its type: what lies in
-- one field more has to be counted here.
use Rattle.std.specs.Prelude.{ℕ, ◌+◌, sum_by}
use Rattle.window_credit.specs.declared.queue.Mark.{Mark}
use Rattle.window_credit.specs.declared.queue.CreditQueue.TheInside.{Inside as WaitingInside}

-- none in a number
abbrev pub in_number : ℕ → ℕ
in_number number = 0

-- in a mark, and in all that wait
abbrev pub in_mark : Mark → ℕ
in_mark = λ record { mark = mark; count = count }. in_number mark + in_number count

abbrev pub in_waiting : WaitingInside → ℕ
in_waiting = λ record { marks = marks; octets = octets }. sum_by in_mark marks.items + in_number octets
