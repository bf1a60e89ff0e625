-- How many octets lie in this crate's types. Each count takes the struct apart by the names of all its fields, and counts each by its type: what lies in
-- one field more has to be counted here.
use Rattle.std.specs.Prelude.{ℕ, ◌+◌, Bool, List, sum_by}
use Rattle.theory_receive_windows.specs.Marks.{Mark}
use Rattle.window_credit.specs.HeldInQueue.{in_number}
use Rattle.window_credit.specs.Sides.{Side}
use Rattle.window_credit.specs.declared.marks.Marks.TheInside.{Inside as MarksInside}
use Rattle.window_credit.specs.declared.stream_credit.StreamCredit.TheInside.{Inside as SideInside}

-- none in what is seen of a queue, which has numbers alone
abbrev pub in_queue : List Mark → ℕ
in_queue marks = 0

-- none in a flag
abbrev pub in_flag : Bool → ℕ
in_flag flag = 0

-- in what waits of a stream's DATA
abbrev pub in_side : SideInside → ℕ
in_side = λ record { id = id; number = number; put_out = put_out; taken = taken; queue = queue; past = past }.
    in_number id + in_number number + in_number put_out + in_number taken + in_queue queue + in_flag past

-- none in what is seen of it, and so in that of all
abbrev pub in_side_seen : Side → ℕ
in_side_seen side = 0

abbrev pub in_marks : MarksInside → ℕ
in_marks = λ record { alloc = alloc; sides = sides; behind = behind }. sum_by in_side_seen sides.items + in_number behind
