-- Open upstream connections as they are kept, and what becomes of them.
use Rattle.std.specs.Prelude.{ℕ, nat_lt, Bool, true, false, not, ◌&&◌, ◌==◌, if◌then◌else◌, List, [], ◌∷◌, map, length, filter, Option, Some, None}

-- ---- lists by a number

-- the first thing with this number
abbrev pub find : {A : Type 0} → (A → ℕ) → ℕ → List A → Option A
find key n [] = None
find key n (x ∷ xs) = if key x == n then Some x else find key n xs

-- all things but those with this number
abbrev pub without : {A : Type 0} → (A → ℕ) → ℕ → List A → List A
without key n [] = []
without key n (x ∷ xs) = if key x == n then without key n xs else x ∷ without key n xs

-- ---- what is kept

-- How far the answer on a connection is.
pub data Answer : Type 0 where
  -- it isn't whole
  Pending : Answer
  -- it is, and the connection is idle
  Idle : Answer
  -- it is, and the connection is to be closed
  Done : Answer

-- An open connection: its number, its route's place, the stream of its last exchange, and how far the answer is.
pub record Line : Type 0 where
  pub k : ℕ
  pub route : ℕ
  pub stream : ℕ
  pub answer : Answer

abbrev pub k_of : Line → ℕ
k_of l = l.k

-- the open connection with a number, if it is one
abbrev pub line_of : ℕ → List Line → Option Line
line_of k ls = find k_of k ls

abbrev pub is_idle : Answer → Bool
is_idle Idle = true
is_idle _ = false

abbrev pub is_finished : Answer → Bool
is_finished Done = true
is_finished _ = false

-- the numbers of those that are idle
abbrev pub idle_ones : List Line → List ℕ
idle_ones [] = []
idle_ones (l ∷ ls) = if is_idle l.answer then l.k ∷ idle_ones ls else idle_ones ls

-- of those that are idle, the least of a route
abbrev pub lesser : ℕ → Option ℕ → ℕ
lesser k None = k
lesser k (Some j) = if nat_lt j k then j else k

abbrev pub least_idle : ℕ → List Line → Option ℕ
least_idle route [] = None
least_idle route (l ∷ ls) = if is_idle l.answer && l.route == route then Some (lesser l.k (least_idle route ls)) else least_idle route ls

-- ---- what the upstreams' answers tell

-- What was heard of an exchange, with what came: no whole response; one behind which the connection may be kept; or another.
pub data Heard : Type 0 where
  Partly : Heard
  Keepable : Heard
  Finished : Heard

-- a connection becomes idle where so many others are, and fewer than may be
abbrev pub answer_by : ℕ → ℕ → Heard → Answer
answer_by most others Partly = Pending
answer_by most others Keepable = if nat_lt others most then Idle else Done
answer_by most others Finished = Done

-- how many others are idle
abbrev pub idle_beside : ℕ → List Line → ℕ
idle_beside k ls = length (filter (λ j. not (j == k)) (idle_ones ls))

-- ---- what becomes of connections

abbrev pub with_answer : ℕ → Answer → Line → Line
with_answer k answer l = record { k = l.k; route = l.route; stream = l.stream; answer = if l.k == k then answer else l.answer }

-- behind an answer, where so many may be idle
abbrev pub lines_heard : ℕ → ℕ → Heard → List Line → List Line
lines_heard most k heard ls = map (with_answer k (answer_by most (idle_beside k ls) heard)) ls

-- a connection is opened for a stream
abbrev pub lines_opened : ℕ → ℕ → ℕ → List Line → List Line
lines_opened k route stream ls = record { k = k; route = route; stream = stream; answer = Pending } ∷ ls

-- it is closed, or has failed
abbrev pub lines_without : ℕ → List Line → List Line
lines_without k ls = without k_of k ls

-- an idle one is given to a stream
abbrev pub given_to : ℕ → ℕ → Line → Line
given_to k stream l = record { k = l.k; route = l.route; stream = if l.k == k then stream else l.stream; answer = if l.k == k then Pending else l.answer }

abbrev pub lines_given : ℕ → ℕ → List Line → List Line
lines_given k stream ls = map (given_to k stream) ls
